use Rattle.driver_rows.proofs.Laws.{refl, true, from_not, ◌≡◌, ap, sym, ◌∙◌, Option, None, Some, not, is_none, Header, event_ring, EventState, Known, FollowsEvents, goes_on, stops, cond-false, cond-true}
use Rattle.driver_rows.proofs.registers.is_bad_sizing.Goals as goal

-- there is no record of events where there is no event ring
none_there : (h : Header) (k : Known) (o : Option EventState) → FollowsEvents h k o → is_none o ≡ is_none (event_ring h)
none_there h k None f = ap is_none (sym f)
none_there h k (Some e) f = sym (ap not f.here)

pub returns-then-is_refused_size : goal.returns-then-is_refused_size
returns-then-is_refused_size c = λ k m f. stops true _ _ (sym c.if-is_refused_size.true ∙ c.is_refused_size.ensures k m f) refl

pub returns-then-is_started : goal.returns-then-is_started
returns-then-is_started c = λ k m f.
    goes_on _ _ _ _ (c.is_refused_size.ensures k m f) c.if-is_refused_size.false
    (sym (cond-true k.started _ _ (sym (c.is_started.ensures k f.registers) ∙ c.if-is_started.true) ∙ ap not (sym (c.is_restored.ensures k f.registers))))

pub returns-else-is_started : goal.returns-else-is_started
returns-else-is_started c = λ k m f.
    goes_on _ _ _ _ (c.is_refused_size.ensures k m f) c.if-is_refused_size.false
    (from_not _ _ (sym c.is_none.ensures) ∙ none_there c.args.header.now k c.args.t.now.events f.events ∙ sym (cond-false k.started _ _ (sym (c.is_started.ensures k f.registers) ∙ c.if-is_started.false)))
