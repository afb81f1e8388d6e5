use Rattle.trace_reader.proofs.Words.{◌-◌, ◌∙◌, drop, take, sym, ap, arith, drop-take}
use Rattle.trace_reader.proofs.row_reader.ahead.Ahead.as_slice.Goals as goal

pub returns : goal.returns
returns c =
    let ahead = c.args.self.now in
    ap (λ items. take (ahead.end - ahead.done) (drop ahead.done items)) c.deref.ensures.value
    ∙ sym (drop-take ahead.done (ahead.end - ahead.done) ahead.bytes.items) ∙ ap (λ n. drop ahead.done (take n ahead.bytes.items)) (omega (arith, ahead.within))
