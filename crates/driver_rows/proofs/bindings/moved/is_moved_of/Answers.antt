use Rattle.driver_rows.proofs.Laws.{arith, ◌≡◌, ◌∙◌, ℕ, true, sym, Command, Header, Known, unfinished, index_of, moves_ring, named_here, of_none, of_some}
use Rattle.driver_rows.proofs.bindings.moved.is_moved_of.Goals as goal

-- a command that moves a ring names no endpoint
whole : (h : Header) (k : Known) (r : ℕ) (c : Command) → moves_ring h k r c ≡ true → index_of c ≡ 0
unfolding moves_ring
whole h k r c e = grind arith

pub returns-in-None : goal.returns-in-None
returns-in-None c = grind (arith, of_none, whole)

pub returns-in-Some : goal.returns-in-Some
returns-in-Some c = λ h k m f.
    c.moves.ensures h k f.devices
    ∙ sym (of_some (moves_ring h k c.args.ring) (whole h k c.args.ring) c.args.slot (unfinished h k) c.of_slot.result c.in-Some.command c.in-Some.is
    (named_here c.of_slot.result c.in-Some.command _ c.in-Some.is c.of_slot.ensures.named (unfinished h k) f.commands)
    (λ q only. c.of_slot.ensures.one (unfinished h k) q f.commands only))
