use Rattle.trace_record.proofs.Laws.{◌<◌, ◌∙◌, ◌+◌, ◌-◌, ap, arith, kept_count, length-set, count_has, counts_set, few_counted, one_at_most, read_count, read_kept}
use Rattle.trace_record.proofs.device_record.unfinished.UnfinishedCommands.keep_of_endpoint.Goals as goal

pub overflow_sub-index : goal.overflow_sub-index
overflow_sub-index c =
    let u = c.args.self.now in
    let some : 0 < c.args.endpoint = omega arith in
    let below : c.args.endpoint < 32 = omega arith in
    let slot : c.args.slot < 256 = omega arith in
    let before = c.kept_count-before.ensures ∙ ap kept_count (read_kept u.by_endpoint.items c.args.slot c.args.endpoint _ _ _ u.endpoints_many slot below c.from.ensures c.from-2.ensures c.index.ensures) in
    grind (arith, read_count, count_has)

pub overflow_add-index : goal.overflow_add-index
overflow_add-index c = grind (arith, read_count, few_counted, one_at_most)

pub invariant_of-self-clause-endpoints_many : goal.invariant_of-self-clause-endpoints_many
invariant_of-self-clause-endpoints_many c = length-set c.args.self.now.by_endpoint.items _ _ ∙ c.args.self.now.endpoints_many

pub invariant_of-self-clause-counts_many : goal.invariant_of-self-clause-counts_many
invariant_of-self-clause-counts_many c = length-set c.args.self.now.counts.items _ _ ∙ c.args.self.now.counts_many

pub invariant_of-self-clause-counts_all : goal.invariant_of-self-clause-counts_all
invariant_of-self-clause-counts_all c =
    let u = c.args.self.now in
    let some : 0 < c.args.endpoint = omega arith in
    let below : c.args.endpoint < 32 = omega arith in
    let slot : c.args.slot < 256 = omega arith in
    let before = c.kept_count-before.ensures ∙ ap kept_count (read_kept u.by_endpoint.items c.args.slot c.args.endpoint _ _ _ u.endpoints_many slot below c.from.ensures c.from-2.ensures c.index.ensures) in
    let count = read_count u.counts.items c.args.slot _ _ u.counts_many slot c.from-3.ensures c.index-2.ensures in
    counts_set u.by_endpoint.items u.counts.items c.args.slot c.args.endpoint _ _ _ _ (record { command = c.args.command }) u.endpoints_many u.counts_many slot some below
    c.from.ensures c.from-2.ensures c.from-4.ensures (λ i. count i - before i + c.kept_count.ensures i) u.counts_all
