use Rattle.controller_model.proofs.Laws.{◌≡◌, ◌==◌, ◌&&◌, ◌∙◌, ℕ, refl, arith, nat_lt, disabled, named_by, disabled_below, disabled_same, disabled_none, disabled_twice, one_more, none_below, all_below}
use Rattle.controller_model.proofs.disabling.disable.Goals as goal

pub loop-index-init : goal.loop-index-init
loop-index-init c = record {
  change = λ h words w f.
      rw (← (disabled_same w c.args.slot _ _ (none_below (named_by c.args.named)) ∙ disabled_none w c.args.slot)) at f;
  rest = record { progress = refl; events = refl };
}

pub loop-index-preserved : goal.loop-index-preserved
loop-index-preserved c = record {
  change = λ h words w f.
      let p = λ (i : ℕ). named_by c.args.named i && nat_lt i c.loop-index.index in
      let now = c.disable_named.ensures.change h words (disabled w c.args.slot p) (c.loop-index.invariant.change h words w f) in
      rw (disabled_twice w c.args.slot p (λ i. named_by c.args.named i && i == c.loop-index.index) ∙ disabled_same w c.args.slot _ _ (one_more (named_by c.args.named) c.loop-index.index)) at
      now;
  rest = grind arith;
}

pub returns-clause-change : goal.returns-clause-change
returns-clause-change c = λ h words w f.
    let end : c.loop-index.index ≡ 32 = omega (arith, c.loop-index.auto.index-end, c.loop-index-test.false) in
    disabled_below h words c.args.kept.now c.loop-index.kept w c.args.slot _ (named_by c.args.named)
    (λ i below. all_below (named_by c.args.named) c.loop-index.index i (omega (arith, below, end))) f (c.loop-index.invariant.change h words w f)
