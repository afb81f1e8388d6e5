use Rattle.controller_model.proofs.Words.{◌≡◌, ◌+◌, ◌-◌, ◌<◌, ◌≤◌, ◌==◌, ◌∙◌, ◌∷◌, [], List, true, length, ap, sym, arith, eq-eqb, ne_eqb, false≢true, Block, Take, names_last, report_stop, unreported}
use Rattle.controller_model.proofs.reports.report_stop.Goals as goal

some_last : (b : Block) (xs : List Take) → names_last b xs ≡ true → 0 < length xs
unfolding names_last
some_last b [] e = absurd (false≢true e)
some_last b (x ∷ xs) e = omega arith

pub returns-then-not-is_stop_under_way-clause-change : goal.returns-then-not-is_stop_under_way-clause-change
unfolding report_stop
returns-then-not-is_stop_under_way-clause-change c = λ h words w f.
    simp (sym (c.is_stop_under_way.ensures h words w f) ∙ c.if-not-is_stop_under_way.true) tt

pub returns-then-not-works-clause-change : goal.returns-then-not-works-clause-change
unfolding report_stop
returns-then-not-works-clause-change c = λ h words w f.
    simp (sym (c.is_stop_under_way.ensures h words w f) ∙ c.if-not-is_stop_under_way.false, sym (c.works.ensures h words w f) ∙ c.if-not-works.true) tt

pub returns-then-is_last-clause-change : goal.returns-then-is_last-clause-change
unfolding report_stop
returns-then-is_last-clause-change c = λ h words w f.
    let last = sym (c.is_last.ensures h words w f) ∙ c.if-is_last.true in
    let some = some_last c.args.event (unreported w c.args.ring) last in
    let all = c.unreported-count.ensures h words w f in
    let left : c.saturating_sub.result ≡ c.unreported-count.result - 1 = c.saturating_sub.ensures in
    let enough : c.saturating_sub.result ≤ length (unreported w c.args.ring) = omega (arith, all, left) in
    let same : w.reported c.args.ring + c.saturating_sub.result ≡ w.reported c.args.ring + length (unreported w c.args.ring) - 1 = omega (arith, all, left, some) in
    simp (sym (c.is_stop_under_way.ensures h words w f) ∙ c.if-not-is_stop_under_way.false, sym (c.works.ensures h words w f) ∙ c.if-not-works.false, last)
    (rw same at (c.stop_after.ensures.change h words w enough f))

pub returns-then-pointer-ring_state-clause-change : goal.returns-then-pointer-ring_state-clause-change
unfolding report_stop
returns-then-pointer-ring_state-clause-change c = λ h words w f.
    simp (
      sym (c.is_stop_under_way.ensures h words w f) ∙ c.if-not-is_stop_under_way.false,
      sym (c.works.ensures h words w f) ∙ c.if-not-works.false,
      sym (c.is_last.ensures h words w f) ∙ c.if-is_last.false,
      (c.ring_state.ensures h words w f).pointer,
      ap (λ a. a == c.ring_state.result.now.pointer) (sym c.pointer.ensures) ∙ ne_eqb c.pointer.result c.ring_state.result.now.pointer c.if-pointer-ring_state.true,
    ) tt

pub returns-clause-change : goal.returns-clause-change
unfolding report_stop
returns-clause-change c = λ h words w f.
    let all = c.unreported-count.ensures h words w f in
    let enough : c.unreported-count.result ≤ length (unreported w c.args.ring) = omega (arith, all) in
    simp (
      sym (c.is_stop_under_way.ensures h words w f) ∙ c.if-not-is_stop_under_way.false,
      sym (c.works.ensures h words w f) ∙ c.if-not-works.false,
      sym (c.is_last.ensures h words w f) ∙ c.if-is_last.false,
      (λ i. sym c.pointer.ensures i == (c.ring_state.ensures h words w f).pointer i) ∙ eq-eqb c.pointer.result c.ring_state.result.now.pointer c.if-pointer-ring_state.false,
    )
    (rw all at (c.stop_after-2.ensures.change h words w enough f))
