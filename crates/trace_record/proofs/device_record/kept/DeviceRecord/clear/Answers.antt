use Rattle.trace_record.proofs.Laws.{◌*◌, ◌∙◌, refl, arith, ap, length, length-replicate, fresh_endpoint, fresh_slot, filled, fresh_counted, fresh_summed, follows_reset}
use Rattle.trace_record.proofs.device_record.kept.DeviceRecord.clear.Goals as goal

pub invariant_of-self : goal.invariant_of-self
invariant_of-self c =
    let slots = filled 256 c.args.self.now.slots.len _ fresh_slot c.fill.new.self.items (c.fill.ensures.items (λ y same. same)) (omega (arith, c.args.self.now.slots_many)) c.unused.ensures in
    let endpoints = filled (256 * 32) c.args.self.now.endpoints.len _ fresh_endpoint c.fill-2.new.self.items (c.fill-2.ensures.items (λ y same. same)) (omega (arith, c.args.self.now.endpoints_many))
    c.untouched.ensures in
    record {
      slots_many = ap length slots ∙ length-replicate 256 fresh_slot;
      endpoints_many = ap length endpoints ∙ length-replicate (256 * 32) fresh_endpoint;
      bound_many = c.args.self.now.bound_many;
      counted = fresh_counted c.fill-2.new.self.items c.clear.new.self (256 * 32) endpoints c.clear.ensures.counts;
      summed = fresh_summed c.fill-2.new.self.items c.clear.new.self (256 * 32) endpoints c.clear.ensures.sums;
    }

pub returns : goal.returns
returns c = λ h k f.
    follows_reset h k c.args.self.now _ f
    (filled 256 c.args.self.now.slots.len _ fresh_slot c.fill.new.self.items (c.fill.ensures.items (λ y same. same)) (omega (arith, c.args.self.now.slots_many)) c.unused.ensures)
    (filled (256 * 32) c.args.self.now.endpoints.len _ fresh_endpoint c.fill-2.new.self.items (c.fill-2.ensures.items (λ y same. same)) (omega (arith, c.args.self.now.endpoints_many))
    c.untouched.ensures) refl
