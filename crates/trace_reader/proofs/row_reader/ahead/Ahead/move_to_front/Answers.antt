use Rattle.trace_reader.proofs.Laws.{◌-◌, ◌∙◌, take, ap, arith, moved}
use Rattle.trace_reader.proofs.row_reader.ahead.Ahead.move_to_front.Goals as goal

pub returns-clause-same : goal.returns-clause-same
returns-clause-same c =
    let ahead = c.args.self.now in
    ap (λ items. take (ahead.end - ahead.done) items) c.copy_within.ensures.items ∙ moved ahead.bytes.items ahead.done ahead.end ahead.within (omega (arith, ahead.came, ahead.bytes.ok))
