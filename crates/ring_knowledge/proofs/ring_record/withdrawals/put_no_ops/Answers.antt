use Rattle.ring_knowledge.proofs.Laws.{◌≡◌, ◌+◌, ◌-◌, ◌∙◌, ap, sym, arith, suc, set, no_ops, no_op, none_no_op, one_no_op}
use Rattle.ring_knowledge.proofs.ring_record.withdrawals.put_no_ops.Goals as goal

pub loop-position-init : goal.loop-position-init
loop-position-init c =
    let none : c.args.from - c.args.from ≡ 0 = omega arith in
    sym (ap (λ n. no_ops c.args.blocks.now.items c.args.from n) none ∙ none_no_op c.args.blocks.now.items c.args.from)

pub loop-position-preserved : goal.loop-position-preserved
loop-position-preserved c =
    let xs = c.args.blocks.now.items in
    let k = c.loop-position.position - c.args.from in
    let next : c.loop-position.position + 1 - c.args.from ≡ suc k = omega (arith, c.loop-position.auto.position) in
    let here : c.args.from + k ≡ c.loop-position.position = omega (arith, c.loop-position.auto.position) in
    c.put_block.ensures ∙ ap (λ ys. set ys c.loop-position.position no_op) c.loop-position.invariant
    ∙ ap (λ n. set (no_ops xs c.args.from k) n no_op) (sym here) ∙ one_no_op xs c.args.from k ∙ ap (λ n. no_ops xs c.args.from n) (sym next)
