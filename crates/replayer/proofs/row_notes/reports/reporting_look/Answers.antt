use Rattle.replayer.proofs.MiddleLaws.{◌∙◌, ap, sym, none-some, same_Some, is_stopping, reporting_look, place_of}
use Rattle.replayer.proofs.row_notes.reports.reporting_look.Goals as goal

pub returns-then-not-is_stopping : goal.returns-then-not-is_stopping
unfolding reporting_look
returns-then-not-is_stopping c = λ k m event f told some. rw (c.number.ensures, ap (λ n. is_stopping n) (sym told) ∙ sym c.is_stopping.ensures ∙ c.if-not-is_stopping.true)

pub returns-in-None : goal.returns-in-None
returns-in-None c = λ k m event f told some. absurd (none-some _ (sym c.in-None.is ∙ c.next_place.ensures k m f (some (sym c.is_stopping.ensures ∙ c.if-not-is_stopping.false))))

pub returns-in-Some : goal.returns-in-Some
unfolding reporting_look
returns-in-Some c = λ k m event f told some.
    rw (same_Some c.in-Some.next (place_of c.args.header.now k) (sym c.in-Some.is ∙ c.next_place.ensures k m f (some (sym c.is_stopping.ensures ∙ c.if-not-is_stopping.false))), ap (λ n. is_stopping n) (sym told) ∙ sym c.is_stopping.ensures ∙ c.if-not-is_stopping.false)
