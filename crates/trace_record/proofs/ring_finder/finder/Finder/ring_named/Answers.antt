use Rattle.trace_record.proofs.Laws.{None, ◌∙◌, ap, get_or, arith, option_flatten, named_is, flattened}
use Rattle.trace_record.proofs.ring_finder.finder.Finder.ring_named.Goals as goal

pub returns : goal.returns
returns c = λ rings is.
    let found = c.get.ensures.lookup.4 (omega arith) None in
    c.flatten.ensures ∙ ap (λ o. option_flatten o) c.copied.ensures ∙ flattened c.get.result (get_or c.deref.result.now c.from.result None) found
    ∙ ap (λ n. get_or c.deref.result.now n None) c.from.ensures ∙ ap (λ xs. get_or xs c.args.id None) c.deref.ensures.value ∙ named_is rings c.args.self.now is c.args.id
