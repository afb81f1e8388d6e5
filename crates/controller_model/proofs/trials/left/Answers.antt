use Rattle.controller_model.proofs.Laws.{◌∙◌, if◌then◌else◌, None, ap, sym, inl, inr, arith, length-set, cases_eq, named_by, own_here, own_there}
use Rattle.controller_model.proofs.trials.left.Goals as goal

pub loop-index-preserved : goal.loop-index-preserved
loop-index-preserved c = record {
  many = length-set c.loop-index.rings c.from.result c.left_at.result ∙ c.loop-index.invariant.many;
  left = λ h words w f j below. elim (cases_eq j c.loop-index.index) [
    | inl same ↦
        own_here c.loop-index.rings c.from.result j c.left_at.result (c.from.ensures ∙ sym same) (omega (arith, same, c.loop-index.invariant.many, c.loop-index-test.true))
        ∙ c.left_at.ensures h words w f ∙ ap (λ i. if named_by c.args.named i then None else w.ring_of c.args.slot i) (sym same)
    | inr apart ↦
        own_there c.loop-index.rings c.from.result j c.left_at.result (λ e. apart (e ∙ c.from.ensures)) ∙ c.loop-index.invariant.left h words w f j (omega (arith, apart, below))
  ];
}

pub returns : goal.returns
returns c = λ h words w f j below. c.loop-index.invariant.left h words w f j (omega (arith, below, c.loop-index-test.false))
