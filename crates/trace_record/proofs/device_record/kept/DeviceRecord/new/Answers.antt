use Rattle.trace_record.proofs.Laws.{◌∙◌, ap, false, replicate, length, ◌*◌, length-replicate, fresh_endpoint, fresh_slot, follows_nothing, fresh_counted, fresh_summed}
use Rattle.trace_record.proofs.device_record.kept.DeviceRecord.new.Goals as goal

pub returns : goal.returns
returns c = follows_nothing _ (c.in_ok-slots.ensures ∙ ap (replicate 256) c.unused.ensures) (c.in_ok-endpoints.ensures ∙ ap (replicate (256 * 32)) c.untouched.ensures) (c.in_ok-vec.ensures.items_if_clones_equal (λ y h. h))

pub invariant_of-result : goal.invariant_of-result
invariant_of-result c =
    let endpoints = c.in_ok-endpoints.ensures ∙ ap (replicate (256 * 32)) c.untouched.ensures in
    record {
      slots_many = ap length (c.in_ok-slots.ensures ∙ ap (replicate 256) c.unused.ensures) ∙ length-replicate 256 fresh_slot;
      endpoints_many = ap length endpoints ∙ length-replicate (256 * 32) fresh_endpoint;
      bound_many = ap length (c.in_ok-vec.ensures.items_if_clones_equal (λ y h. h)) ∙ length-replicate 256 false;
      counted = fresh_counted c.in_ok-endpoints.field-0.items c.in_ok-new.field-0 (256 * 32) endpoints c.in_ok-new.ensures.counts;
      summed = fresh_summed c.in_ok-endpoints.field-0.items c.in_ok-new.field-0 (256 * 32) endpoints c.in_ok-new.ensures.sums;
    }
