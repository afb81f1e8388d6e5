use Rattle.ring_knowledge.proofs.Laws.{rules, length-no_ops, length, ◌-◌, ◌≤◌, arith, ◌≡◌, ◌∙◌, ◌&&◌, ◌||◌, if◌then◌else◌, refl, ap, sym, number, floor_number, place_count, place_of, slice_index, is_in, is_noted, no_ops, contains, nat_cmp, same_note, back, from_in, none_before, none_free_before, same_sets, kept_from, withdrawn_here, begins_at}
use Rattle.ring_knowledge.proofs.ring_record.RingRecord.withdraw.Goals as goal

pub returns-in-Err-clause-err : goal.returns-in-Err-clause-err
returns-in-Err-clause-err c = search (rules, slice_index, same_sets, back, from_in, is_in, none_before, kept_from)

pub returns-in-Err-add_given-clause-err : goal.returns-in-Err-add_given-clause-err
returns-in-Err-add_given-clause-err c = search (rules, slice_index, same_sets, back, from_in, is_in, none_before, none_free_before, kept_from)

pub returns-clause-ok : goal.returns-clause-ok
returns-clause-ok c = λ v known from.
    let shape = c.args.shape.now in
    let r = c.args.self.now in
    let p = c.args.position in
    let kept : r.forgotten ≤ p = kept_from shape v r known.marks p from in
    let count = slice_index r.lengths.items (p - r.forgotten) in
    let many : c.from-count.result ≡ count = c.from-count.ensures ∙ c.length_at.ensures.value kept in
    let floor : c.number-floor.result ≡ floor_number v = c.number-floor.ensures ∙ sym (ap number known.marks.floor) in
    let at : c.saturating_sub-at.result ≡ p - r.forgotten = c.saturating_sub-at.ensures in
    withdrawn_here shape v r known p kept _ refl (c.put_no_ops.ensures ∙ ap (λ m. no_ops r.blocks.items m c.from-count.result) at ∙ ap (no_ops r.blocks.items (p - r.forgotten)) many) c.put_ones.ensures.as_many
    (begins_at shape v r known p kept _ c.put_ones.ensures.as_many (λ q below. c.put_ones.ensures.ones q below ∙ ap (λ m. if is_in q m c.from-count.result then 1 else slice_index r.lengths.items q) at
    ∙ ap (λ n. if is_in q (p - r.forgotten) n then 1 else slice_index r.lengths.items q) many))
    refl refl refl refl refl
    (λ q. c.in_default.ensures.all q ∙ ap (λ n. contains nat_cmp r.withdrawn q || is_in q p n) many)
    (λ q.
    let note = same_note _ _ _ _ _ _ q _ _ floor refl c.deref.ensures.value refl in
    c.in_default-add_given.ensures.all q
    ∙ ap (λ n. contains nat_cmp r.free q || (is_in q p n && is_noted c.number-floor.result (place_count shape) c.deref.result.now (place_of shape q) q)) many
    ∙ ap (λ b. contains nat_cmp r.free q || (is_in q p count && b)) note)

pub invariant_of-self-2-clause-end_fits : goal.invariant_of-self-2-clause-end_fits
invariant_of-self-2-clause-end_fits c =
    omega (arith, c.args.self.now.end_fits, ap length c.put_no_ops.ensures, length-no_ops c.args.self.now.blocks.items c.saturating_sub-at.result c.from-count.result)
