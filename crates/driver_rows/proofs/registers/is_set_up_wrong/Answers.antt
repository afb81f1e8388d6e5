use Rattle.driver_rows.proofs.Words.{◌≡◌, None, refl, ap, sym, ◌∙◌, subst, ◌==◌, ◌/◌, ◌*◌, not, unwrap_or, address_of, event_ring, is_bad_size, is_wrong_size, FollowsEvents}
use Rattle.driver_rows.proofs.registers.is_set_up_wrong.Goals as goal

pub returns-in-None : goal.returns-in-None
unfolding is_wrong_size is_bad_size
returns-in-None c = λ h k m f. let none : event_ring h ≡ None = subst (FollowsEvents h k) c.in-None.is f.events in rw none refl

pub returns-then-is_bad_size : goal.returns-then-is_bad_size
unfolding is_wrong_size
returns-then-is_bad_size c = λ h k m f.
    let size = c.unwrap_or-size.ensures ∙ ap (λ o. unwrap_or o 0) (c.value.ensures k f.registers) in
    rw (← size, ← c.is_bad_size.ensures h k m f, c.if-is_bad_size.true) refl

pub returns-else-is_bad_size : goal.returns-else-is_bad_size
unfolding is_wrong_size
returns-else-is_bad_size c = λ h k m f.
    let place = subst (FollowsEvents h k) c.in-Some.is f.events in
    let size = c.unwrap_or-size.ensures ∙ ap (λ o. unwrap_or o 0) (c.value.ensures k f.registers) in
    let dequeue = c.unwrap_or-dequeue.ensures ∙ ap (λ o. unwrap_or o 0) (c.value-2.ensures k f.registers) in
    let first = c.address.ensures ∙ ap (λ s. address_of s 0) (c.shape.ensures.same ∙ sym place.shape) in
    rw (← size, ← c.is_bad_size.ensures h k m f, c.if-is_bad_size.false) (λ i. not (dequeue i / 16 * 16 == first i))
