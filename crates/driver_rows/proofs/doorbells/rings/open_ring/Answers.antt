use Rattle.driver_rows.proofs.Laws.{arith, ◌≡◌, refl, ap, sym, ◌∙◌, subst, length, slice_get, same_Some, slice_get_read, RingView, Opens, FollowsRing, on_ring, rings_with, rings_without, only_on, here_on, none_past}
use Rattle.driver_rows.proofs.doorbells.rings.open_ring.Goals as goal

pub returns-in-Some-get_mut-clause-opened : goal.returns-in-Some-get_mut-clause-opened
returns-in-Some-get_mut-clause-opened c = λ h k n ring headed some at f.
    let items = c.args.records.now.items in
    let number = c.in-Some.number in
    let same : n ≡ number = same_Some n number (sym some ∙ c.in-Some.is) in
    let here = ap (λ i. slice_get h.rings i) (sym same) ∙ at in
    let there = slice_get_read items (length items) number c.in-Some-get_mut.record.now refl c.in-Some-get_mut.ensures.item.3.0 c.in-Some-get_mut.ensures.value in
    rings_with h headed k (on_ring h k ring.id Opens) items f number ring here (only_on h headed k number ring here Opens) c.open.new.self
    (λ driver. subst (λ (v : RingView). FollowsRing ring.shape v c.open.new.self) (sym (here_on h headed k number ring here Opens))
    (c.open.ensures ring.shape (k.ring ring.id) (f.each number ring c.in-Some-get_mut.record.now here there driver)))

pub returns-in_default-get_mut-clause-opened : goal.returns-in_default-get_mut-clause-opened
returns-in_default-get_mut-clause-opened c = grind (arith, same_Some, rings_without, only_on, none_past)
