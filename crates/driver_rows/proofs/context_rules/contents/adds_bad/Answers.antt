use Rattle.driver_rows.proofs.Laws.{◌+◌, ap, sym, ◌∙◌, arith, and_from, and_left, and_right, has_flag, adds_bad, go_on, found, skip, any_added, none_left}
use Rattle.driver_rows.proofs.context_rules.contents.adds_bad.Goals as goal

pub loop-index-init : goal.loop-index-init
unfolding adds_bad
loop-index-init g c =
    let flags = c.add_flags-flags.ensures c.args.size c.requires.aligned c.requires.inside in (
      c.next_flag-index.ensures.set,
      λ k f. any_added _ _ _
          ∙ skip _ 2 c.next_flag-index.result 32 c.next_flag-index.ensures.behind
          (λ s low high below. and_left _ _ (ap (λ w. has_flag w s) (sym flags) ∙ c.next_flag-index.ensures.clear s low high below)),
    )

pub loop-index-preserved : goal.loop-index-preserved
loop-index-preserved g c =
    let flags = c.add_flags-flags.ensures c.args.size c.requires.aligned c.requires.inside in (
      c.next_flag-index-in-loop-index.ensures.set,
      λ k f. c.loop-index.invariant.1 k f
          ∙ go_on _ _ 32 c.loop-index-test.true (and_right _ _ (sym (c.is_bad_added.ensures k f) ∙ c.if-is_bad_added.false))
          ∙ skip _ (c.loop-index.index + 1) c.next_flag-index-in-loop-index.result 32 c.next_flag-index-in-loop-index.ensures.behind
          (λ s low high below. and_left _ _ (ap (λ w. has_flag w s) (sym flags) ∙ c.next_flag-index-in-loop-index.ensures.clear s low high below)),
    )

pub returns-then-is_bad_added : goal.returns-then-is_bad_added
returns-then-is_bad_added g c = grind (arith, found, and_from)

pub returns : goal.returns
returns g c = λ k f. sym (c.loop-index.invariant.1 k f ∙ none_left _ _ 32 (omega (arith, c.loop-index-test.false)))
