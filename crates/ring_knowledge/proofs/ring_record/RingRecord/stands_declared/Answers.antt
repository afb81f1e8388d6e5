use Rattle.ring_knowledge.proofs.Laws.{◌-◌, ap, sym, ◌∙◌, ◌≡◌, if◌then◌else◌, slice_get, block_at, same_words, with_cycle, address_of, cycle_of, address_aligned, nothing_declared, declared_here, cycle_bit}
use Rattle.ring_knowledge.proofs.ring_record.RingRecord.stands_declared.Goals as goal

pub returns-in_default : goal.returns-in_default
returns-in_default g c kept = nothing_declared _ _ _ (sym (c.declared_block.ensures.kept kept) ∙ c.in_default.is)

pub block_of-standing-requires : goal.block_of-standing-requires
block_of-standing-requires g c = rw c.address.ensures (address_aligned c.args.shape.now c.requires c.args.position)

pub returns : goal.returns
returns g c kept =
    let words = g.M.WordMemory.words c.args.memory.now in
    let shape = c.args.shape.now in
    let p = c.args.position in
    let is : c.block_of-standing.result ≡ block_at words (address_of shape p) = c.block_of-standing.ensures ∙ ap (block_at words) c.address.ensures in
    let cycled : c.with_cycle.result ≡ with_cycle c.in-Some.declared (cycle_of shape p) =
    c.with_cycle.ensures.value ∙ ap (λ b. with_cycle c.in-Some.declared (if b then 1 else 0)) c.cycle.ensures ∙ ap (λ n. with_cycle c.in-Some.declared n) (cycle_bit shape p) in
    c.have_same_words.ensures ∙ ap (λ b. same_words b c.with_cycle.result) is ∙ ap (λ d. same_words (block_at words (address_of shape p)) d) cycled
    ∙ declared_here (block_at words (address_of shape p)) c.in-Some.declared (cycle_of shape p) (slice_get c.args.self.now.blocks.items (p - c.args.self.now.forgotten)) (sym (c.declared_block.ensures.kept kept) ∙ c.in-Some.is)
