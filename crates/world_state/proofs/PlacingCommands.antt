-- A command that a block says is well: its addresses are on 16-byte boundaries, its indices below 32
use Rattle.world_state.proofs.Words.{command_by_kind, command_of, Command, Block, rules, ◌≡◌, Some, None, subst, arith, BlockKind, IsWell}

well : (d c : Command) → Some d ≡ Some c → IsWell d → IsWell c
well d c e is = subst IsWell (cc) is

none_well : (c : Command) → None ≡ Some c → IsWell c
none_well c e = absurd (cc)

well_by_kind : (k : BlockKind) (b : Block) (c : Command) → command_by_kind k b ≡ Some c → IsWell c
well_by_kind k b c e = grind (arith, well, none_well)

pub command_well : (b : Block) (c : Command) → command_of b ≡ Some c → IsWell c
command_well b c = search (rules, none_well, well_by_kind)
