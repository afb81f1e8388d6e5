use Rattle.trace_record.proofs.Laws.{◌<◌, ◌∙◌, ◌+◌, ◌*◌, ap, sym, arith, length, Endpoint, length-set, leaves, takes, counted_now, leaves_sum, summed_now, takes_sum, count_of, one_of, place_of, sum_of}
use Rattle.trace_record.proofs.device_record.kept.DeviceRecord.set_endpoint.Goals as goal

pub pass_on-requires : goal.pass_on-requires
pass_on-requires c = grind (arith, Endpoint, leaves, leaves_sum, takes, takes_sum)

pub invariant_of-self-clause-endpoints_many : goal.invariant_of-self-clause-endpoints_many
invariant_of-self-clause-endpoints_many c = length-set c.args.self.now.endpoints.items (c.from.result * 32 + c.from-2.result) c.args.kept ∙ c.args.self.now.endpoints_many

pub invariant_of-self-clause-counted : goal.invariant_of-self-clause-counted
invariant_of-self-clause-counted c =
    let r = c.args.self.now in
    let number = c.from.result * 32 + c.from-2.result in
    let below : number < length r.endpoints.items = omega (arith, r.endpoints_many, c.from.ensures, c.from-2.ensures, c.ranges.slot.fits, c.requires) in
    counted_now r.endpoints.items r.holders r.counted r.summed number c.index.result.now below c.pass_on.new.self c.args.kept
    (λ q. ap (λ (e : Endpoint). count_of c.pass_on.new.self q + one_of q e.ring) (sym c.index.ensures) ∙ c.pass_on.ensures.counts q)

pub invariant_of-self-clause-summed : goal.invariant_of-self-clause-summed
invariant_of-self-clause-summed c =
    let r = c.args.self.now in
    let number = c.from.result * 32 + c.from-2.result in
    let below : number < length r.endpoints.items = omega (arith, r.endpoints_many, c.from.ensures, c.from-2.ensures, c.ranges.slot.fits, c.requires) in
    summed_now r.endpoints.items r.holders r.counted r.summed number c.index.result.now below c.pass_on.new.self c.args.kept
    (λ q. ap (λ (e : Endpoint). sum_of c.pass_on.new.self q + place_of q e.ring number) (sym c.index.ensures) ∙ c.pass_on.ensures.sums q)
