-- What a new element of a list adds to what is held of the list
use Rattle.driver_rows.proofs.Words.{rules, ◌≡◌, ℕ, List, ◌∷◌, ◌++◌, Option, Some, None, ap, sym, ◌∙◌, filter_map, cons_option, filter_map-append, Areas, HoldsAreas, IsInserted, IsWith}

-- an area is held where its address comes to the list
pub area_added : (n start : ℕ) (old new : List ℕ) (before after : Areas) → IsInserted start old new →
    ((xs ys : List ℕ) → HoldsAreas n (xs ++ ys) before → HoldsAreas n (xs ++ start ∷ ys) after) → HoldsAreas n old before → HoldsAreas n new after
area_added n start old new before after i adds holds = search rules

module _ {X Y : Type 0} (f : X → Option Y) (x : X) (old new : List X) (i : IsInserted x old new) where
  was_parts : filter_map f old ≡ filter_map f i.front ++ filter_map f i.back
  was_parts = ap (filter_map f) i.was ∙ filter_map-append f i.front i.back

  is_parts : (o : Option Y) → f x ≡ o → filter_map f new ≡ filter_map f i.front ++ cons_option o (filter_map f i.back)
  is_parts o at = ap (filter_map f) i.is ∙ filter_map-append f i.front (x ∷ i.back) ∙ ap (λ y. filter_map f i.front ++ cons_option y (filter_map f i.back)) at

  -- what the elements stand for
  pub mapped_with : (o : Option Y) → f x ≡ o → IsWith o (filter_map f old) (filter_map f new)
  mapped_with None at = is_parts None at ∙ sym was_parts
  mapped_with (Some y) at = record { front = filter_map f i.front; back = filter_map f i.back; was = was_parts; is = is_parts (Some y) at }
