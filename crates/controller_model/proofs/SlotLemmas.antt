-- One slot is changed
use Rattle.controller_model.proofs.LowerLaws.{rules, ◌≡◌, ◌<◌, ◌==◌, ◌||◌, ℕ, true, Bool, List, length, slice_get, get_or, set, eq-eqb, ne_eqb, or-true, put, SlotState, Slot, FollowsSlots, put_same, put_other, read_at, slice_get-set_same, slice_get-set_other, or_false}

pub slots_allow : (slots : List Slot) (state : ℕ → SlotState) (scribbles : ℕ → Bool) (i s : ℕ) (x new : Slot) → i ≡ s → s < length slots → x ≡ get_or slots i x →
    new.state ≡ x.state → new.scribbles ≡ true → FollowsSlots slots state scribbles → FollowsSlots (set slots i new) state (λ t. scribbles t || t == s)
slots_allow slots state scribbles i s x new index inside value kept allowed f = search (rules, length, get_or, set, slice_get, slice_get-set_same, read_at, eq-eqb, or-true, slice_get-set_other, ne_eqb, or_false)

-- the state of a slot is replaced
pub slots_state : (slots : List Slot) (state : ℕ → SlotState) (scribbles : ℕ → Bool) (i s : ℕ) (x new : Slot) → i ≡ s → s < length slots → x ≡ get_or slots i x →
    new.scribbles ≡ x.scribbles → FollowsSlots slots state scribbles → FollowsSlots (set slots i new) (put state s new.state) scribbles
slots_state slots state scribbles i s x new index inside value kept f = search (rules, length, get_or, set, slice_get, slice_get-set_same, read_at, put_same, slice_get-set_other, put_other)

-- whether the controller may write a slot's device context is replaced
pub slots_scribbles : (slots : List Slot) (state : ℕ → SlotState) (scribbles : ℕ → Bool) (i s : ℕ) (x new : Slot) → i ≡ s → s < length slots → x ≡ get_or slots i x →
    new.state ≡ x.state → FollowsSlots slots state scribbles → FollowsSlots (set slots i new) state (put scribbles s new.scribbles)
slots_scribbles slots state scribbles i s x new index inside value kept f = search (rules, length, get_or, set, slice_get, slice_get-set_same, read_at, put_same, slice_get-set_other, put_other)
