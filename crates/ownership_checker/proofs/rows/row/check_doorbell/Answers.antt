use Rattle.ownership_checker.proofs.JudgedRows.DoorbellRows.{refused, step}
use Rattle.ownership_checker.proofs.rows.row.check_doorbell.Goals as goal

pub returns-then-is_bad_doorbell-clause-refused : goal.returns-then-is_bad_doorbell-clause-refused
returns-then-is_bad_doorbell-clause-refused g c =
    refused c.args.header.now c.args.kept.now (g.M.WordMemory.words c.args.memory.now) c.args.slot c.args.target c.is_bad_doorbell.result c.is_bad_doorbell.ensures c.if-is_bad_doorbell.true

pub returns-clause-ok : goal.returns-clause-ok
returns-clause-ok g c =
    let m = g.M.WordMemory.words c.args.memory.now in
    step c.args.header.now c.args.kept.now m c.args.slot c.args.target c.is_bad_doorbell.result c.is_bad_doorbell.ensures c.if-is_bad_doorbell.false
    c.ring_doorbell.new.t (λ k f. c.ring_doorbell.ensures.followed c.args.header.now k m c.requires.headed c.requires.found f)
