use Rattle.driver_rows.proofs.Laws.{arith, sym, ap, ◌∙◌, is_off, of_address, of_nothing, off_only}
use Rattle.driver_rows.proofs.bindings.context.bound_by_address.Goals as goal

pub returns-then-not-is_off : goal.returns-then-not-is_off
returns-then-not-is_off c = grind (arith, of_nothing, off_only)

pub returns : goal.returns
returns c = λ h k bsr f fits.
    of_address h k c.args.slot c.args.context bsr (sym (ap is_off (c.endpoint_state.ensures k f)) ∙ sym c.is_off.ensures ∙ c.if-not-is_off.false) fits
