use Rattle.ownership_checker.proofs.Laws.{◌≡◌, Some, arith, subst, sym, Refusal, trace_verdict, begun, few, refused, row_more}
use Rattle.ownership_checker.proofs.RingPasses.KeptRows.{ended}
use Rattle.ownership_checker.proofs.pass.kept.pass_kept.Goals as goal

pub loop-row-init : goal.loop-row-init
loop-row-init g c =
    begun g.M.WordMemory.words g.B.LeaseLog.holds c.args.header c.args.first c.args.rows.now c.args.log c.in_ok-pass.pass c.in_ok-pass.ensures.passed c.in_ok-pass.ensures.logged

pub row-requires-clause-so_far : goal.row-requires-clause-so_far
row-requires-clause-so_far g c =
    few g.M.WordMemory.words g.B.LeaseLog.holds c.args.header c.args.first c.args.rows.now c.args.log c.loop-row.row-index c.loop-row.number c.loop-row.pass c.loop-row.invariant
    c.row-item.result c.row-item.result c.loop-row-test.true (sym c.row-item.is) c.requires.within

pub loop-row-preserved : goal.loop-row-preserved
loop-row-preserved g c =
    row_more g.M.WordMemory.words g.B.LeaseLog.holds c.args.header c.args.first c.args.rows.now c.args.log c.loop-row.row-index c.loop-row.number c.loop-row.pass c.loop-row.invariant
    c.row-item.result c.row-item.result c.loop-row-test.true (sym c.row-item.is) c.requires.within c.row.new.self c.in-Ok.ensures.passed c.in-Ok.ensures.logged

pub returns-in-Err-Refused-clause-refused : goal.returns-in-Err-Refused-clause-refused
returns-in-Err-Refused-clause-refused g c =
    subst (λ (r : Refusal). trace_verdict c.args.header c.args.first c.args.rows.now ≡ Some (c.loop-row.number, r)) (sym c.in-Err-Refused.refusal-is)
    (refused g.M.WordMemory.words g.B.LeaseLog.holds c.args.header c.args.first c.args.rows.now c.args.log c.loop-row.row-index c.loop-row.number c.loop-row.pass c.loop-row.invariant
    c.row-item.result c.row-item.result c.loop-row-test.true (sym c.row-item.is) c.in-Err-Refused.refusal c.in-Err-Refused.field-0 c.in-Err-Refused.field-0-is c.in-Err-Refused.ensures.refused)

pub returns-clause-whole : goal.returns-clause-whole
returns-clause-whole g c =
    let ends = c.loop-row.auto.row-index-end in
    let past = c.loop-row-test.false in
    ended g.M.WordMemory.words g.B.LeaseLog.holds c.args.header c.args.first c.args.rows.now c.args.log c.loop-row.row-index c.loop-row.number c.loop-row.pass c.loop-row.invariant
    (omega arith) c.requires.within c.requires.fitting
