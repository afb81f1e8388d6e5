use Rattle.driver_rows.proofs.Words.{◌≡◌, ℕ, ◌∙◌, Bool, false, refl, ap, sym, Command, AddressDevice, Header, Known, moves_ring}
use Rattle.driver_rows.proofs.bindings.moved.moves.Goals as goal

addressed : (h : Header) (k : Known) (r : ℕ) (c : Command) → ((s : ℕ) (bsr : Bool) (n : ℕ) → c ≡ AddressDevice s bsr n → ⊥) → false ≡ moves_ring h k r c
unfolding moves_ring
addressed h k r (AddressDevice s bsr n) never = absurd (never s bsr n refl)
addressed h k r _ never = refl

pub returns-in-AddressDevice : goal.returns-in-AddressDevice
unfolding moves_ring
returns-in-AddressDevice c = λ h k f. c.moves_first.ensures k f ∙ ap (λ d. moves_ring h k c.args.ring d) (sym c.in-AddressDevice.is)

pub returns-in_default : goal.returns-in_default
returns-in_default c = λ h k f. addressed h k c.args.ring c.args.command.now c.in_default.not-AddressDevice
