use Rattle.driver_rows.proofs.Laws.{◌∙◌, ◌&&◌, refl, sym, ap, both_hold, reset_bit, resets_as, resets_never, is_done}
use Rattle.driver_rows.proofs.registers.resets.Goals as goal

pub returns-then-is_done : goal.returns-then-is_done
returns-then-is_done c = λ k f.
    resets_as k c.args.register c.args.value _ c.in-Usbcmd.is (both_hold _ _ _ (ap is_done (sym (c.halt.ensures k f)) ∙ sym c.is_done.ensures ∙ c.if-is_done.true) refl)

pub returns-else-is_done : goal.returns-else-is_done
returns-else-is_done c = λ k f.
    resets_as k c.args.register c.args.value _ c.in-Usbcmd.is (c.if-is_done.false ∙ sym (ap (λ b. b && reset_bit c.args.value) (ap is_done (sym (c.halt.ensures k f)) ∙ sym c.is_done.ensures ∙ c.if-is_done.false)))

pub returns-in_default : goal.returns-in_default
returns-in_default c = λ k f. resets_never k c.args.register c.args.value c.in_default.not-Usbcmd
