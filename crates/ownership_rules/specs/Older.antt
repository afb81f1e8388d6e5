-- What the trace's version refuses besides what a harm asks for
use Rattle.std.specs.Prelude.{ℕ, ◌==◌, ◌&&◌, ◌||◌, Bool, false, not}
use Rattle.std.specs.List.{list_any}
use Rattle.commands.specs.declared.command.Command.{Command}
use Rattle.traces.specs.declared.header.Header.{Header}
use Rattle.traces.specs.declared.row.Row.{Row}
use Rattle.traces.specs.declared.register.Register.TheVariants.{Erstsz, Erdp}
use Rattle.traces.specs.declared.row.Row.TheVariants.{Write, Reg, Free as FreeRow, Nop as NopRow}
use Rattle.traces.specs.Header.{driver_rings, ring_with, shape_of}
use Rattle.traces.specs.Versions.{has_runs, is_lenient}
use Rattle.ring_knowledge.specs.Known.{Known}
use Rattle.ring_knowledge.specs.BesideFree as of_ring
use Rattle.ownership_rules.specs.declared.refusal.Refusal.{Refusal}
use Rattle.ownership_rules.specs.declared.refusal.Refusal.TheVariants.{WriteToOwned, BadRegister, BadErdp, Busy, NotInProfile, BadMove}
use Rattle.ownership_rules.specs.OpenLeases.{is_leased}
use Rattle.ownership_rules.specs.Commands as commands
use Rattle.ownership_rules.specs.Moves as moves
use Rattle.ownership_rules.specs.Registers as registers
use Rattle.ownership_rules.specs.Rings.{is_transfer_ring}
use Rattle.ownership_rules.specs.Writes as writes
use Rattle.ownership_rules.specs.Withdrawals.{is_passed}

module _ (h : Header) where
  -- the word at this address is the control word of a Link under lease that stands beside a block that was withdrawn and isn't restored
  unfoldable pub stands_beside_free : Known → ℕ → Bool
  stands_beside_free k a = list_any (λ r. of_ring.stands_beside_free r.shape (k.ring r.id) a) (driver_rings h)

  -- the version lets the driver write a word under lease so: from version 3 on as it stands, from version 4 on also to unchain a Link of a
  -- descriptor that it takes back (xHCI 4.6.9)
  unfoldable pub may_write_owned : Known → ℕ → ℕ → Bool
  may_write_owned k a w = is_lenient h.version && (k.memory a == w || (has_runs h.version && stands_beside_free k a))

  -- of a command that is given: versions 1 and 2 refuse it beside any other of its slot, version 3 but where both name an endpoint, and different ones
  unfoldable pub is_busy_before : Known → Command → Bool
  is_busy_before k c = (commands.shares_slot h k c && not (is_lenient h.version)) || (commands.is_busy_by_slot h k c && not (has_runs h.version))

  -- of versions 1 and 2: NotInProfile: an isochronous endpoint (xHCI 4.14.2), also one that stays
  -- unused; BadRegister: ERSTSZ a second time, or with a value that is never used; BadErdp: before the start no event place; BadMove: a command that binds a ring that was bound before
  unfoldable pub older : Known → Row → Refusal → Bool
  older k (Write a w) NotInProfile = writes.some_command h k a w (commands.adds_isochronous h k)
  older k (Write a w) BadMove = writes.some_command h k a w (moves.binds_again h k)
  older k (Reg Erstsz v) BadRegister = registers.is_written k Erstsz || registers.is_bad_size h v
  older k (Reg Erdp v) BadErdp = registers.names_no_place h k v
  older k _ _ = false

  -- what the trace's version refuses besides, by this rule; WriteToOwned: a word under lease that the version doesn't let the driver write so; Busy: a
  -- command beside one that a later version lets stand there
  unfoldable pub stricter : Known → Row → Refusal → Bool
  stricter k (Write a w) WriteToOwned = is_leased h k a && not (may_write_owned k a w)
  stricter k (Write a w) Busy = writes.some_command h k a w (is_busy_before k)
  stricter k (NopRow r p) rule = is_passed h (shape_of h r) (k.ring r) p
  stricter k (FreeRow id) rule = not (is_transfer_ring (ring_with h id)) && not (has_runs h.version)
  stricter k row rule = older k row rule && not (is_lenient h.version)
