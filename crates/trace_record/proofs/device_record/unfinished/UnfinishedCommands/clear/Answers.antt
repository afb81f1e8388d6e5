use Rattle.trace_record.proofs.Laws.{◌*◌, ◌∙◌, ℕ, refl, arith, ap, sym, length, length-replicate, slice_index_or, endpoint_count, count_first, filled, follows_none, alike}
use Rattle.std.specs.List.{sum_by}
use Rattle.std.proofs.lemmas.List.Folds.{sum_by-replicate}
use Rattle.trace_record.specs.DeviceSlots.Addressing.{addressing_count}
use Rattle.trace_record.specs.DeviceSlots.Counts.{no_command}
use Rattle.trace_record.proofs.device_record.unfinished.UnfinishedCommands.clear.Goals as goal

pub returns : goal.returns
returns c =
    follows_none _
    (filled 256 c.args.self.now.by_slot.len _ no_command c.fill.new.self.items (c.fill.ensures.items (λ y same. same)) (omega (arith, c.args.self.now.slots_many)) refl)
    (filled (256 * 32) c.args.self.now.by_endpoint.len _ no_command c.fill-2.new.self.items (c.fill-2.ensures.items (λ y same. same)) (omega (arith, c.args.self.now.endpoints_many)) refl)

pub invariant_of-self : goal.invariant_of-self
invariant_of-self c =
    let slots = filled 256 c.args.self.now.by_slot.len _ no_command c.fill.new.self.items (c.fill.ensures.items (λ y same. same)) (omega (arith, c.args.self.now.slots_many)) refl in
    let endpoints = filled (256 * 32) c.args.self.now.by_endpoint.len _ no_command c.fill-2.new.self.items (c.fill-2.ensures.items (λ y same. same))
    (omega (arith, c.args.self.now.endpoints_many)) refl in
    let zero : ℕ = 0 in
    let counts = filled 256 c.args.self.now.counts.len _ zero c.fill-3.new.self.items (c.fill-3.ensures.items (λ y same. same)) (omega (arith, c.args.self.now.counts_many)) refl in
    record {
      slots_many = ap length slots ∙ length-replicate 256 no_command;
      endpoints_many = ap length endpoints ∙ length-replicate (256 * 32) no_command;
      counts_many = ap length counts ∙ length-replicate 256 zero;
      addressing_all = sym (ap (sum_by addressing_count) slots ∙ sum_by-replicate addressing_count 256 no_command);
      counts_all = λ s below. ap (λ xs. slice_index_or xs s 0) counts ∙ alike 256 s 0 ∙ sym (ap (λ xs. endpoint_count xs s) endpoints ∙ count_first s);
    }
