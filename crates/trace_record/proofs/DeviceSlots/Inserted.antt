-- What passes a test of a list where one element more passes, or none
use Rattle.trace_record.proofs.BaseWords.{rules, ◌≡◌, ◌++◌, ◌&&◌, ◌||◌, ◌∙◌, ◌∷◌, not, Bool, true, false, List, [], Option, Some, None, ap, sym, refl, filter, filter_map, cons_option, filter_map-append}

-- the new list is the old one with x at some place
pub record Inserted {X : Type 0} (x : X) (old new : List X) : Type 0 where
  pub front : List X
  pub back : List X
  pub was : old ≡ front ++ back
  pub is : new ≡ front ++ x ∷ back

module _ {X : Type 0} where
  -- of what didn't pass before nothing passes now
  pub filter_as_before : (old now : X → Bool) (xs : List X) → filter (λ x. not (old x) && now x) xs ≡ [] → filter (λ x. old x || now x) xs ≡ filter old xs
  filter_as_before old now [] none = refl
  filter_as_before old now (x ∷ xs) none = search (rules, filter, not, filter_as_before old now xs)

  further : (x p : X) (os ns : List X) → Inserted p os ns → Inserted p (x ∷ os) (x ∷ ns)
  further x p os ns i = record { front = x ∷ i.front; back = i.back; was = ap (λ l. x ∷ l) i.was; is = ap (λ l. x ∷ l) i.is }

  -- one does
  pub filter_with_one : (old now : X → Bool) (p : X) (xs : List X) → filter (λ x. not (old x) && now x) xs ≡ p ∷ [] → Inserted p (filter old xs) (filter (λ x. old x || now x) xs)
  filter_with_one old now p [] one = absurd (cc)
  filter_with_one old now p (x ∷ xs) one = search (rules, further, filter, not, filter_as_before, filter_with_one old now p xs)

  module _ {Y : Type 0} (f : X → Option Y) (p : X) (os ns : List X) (i : Inserted p os ns) where
    old_parts : filter_map f os ≡ filter_map f i.front ++ filter_map f i.back
    old_parts = ap (filter_map f) i.was ∙ filter_map-append f i.front i.back

    new_parts : (o : Option Y) → f p ≡ o → filter_map f ns ≡ filter_map f i.front ++ cons_option o (filter_map f i.back)
    new_parts o at = ap (filter_map f) i.is ∙ filter_map-append f i.front (p ∷ i.back) ∙ ap (λ x. filter_map f i.front ++ cons_option x (filter_map f i.back)) at

    -- what it stands for is one more
    pub mapped_with_one : (y : Y) → f p ≡ Some y → Inserted y (filter_map f os) (filter_map f ns)
    mapped_with_one y at = record { front = filter_map f i.front; back = filter_map f i.back; was = old_parts; is = new_parts (Some y) at }

    -- it stands for nothing
    pub mapped_as_before : f p ≡ None → filter_map f ns ≡ filter_map f os
    mapped_as_before at = new_parts None at ∙ sym old_parts

  -- what all stand for that pass is the same
  pub mapped_same : {Y : Type 0} (f g : X → Option Y) (test : X → Bool) (xs : List X) → ((x : X) → test x ≡ true → f x ≡ g x) →
      filter_map f (filter test xs) ≡ filter_map g (filter test xs)
  mapped_same f g test [] same = refl
  mapped_same f g test (x ∷ xs) same = search (rules, filter, filter_map, cons_option, same x, mapped_same f g test xs same)

  -- nothing passes the test that never holds
  pub filter_nothing : (xs : List X) → filter (λ x. false) xs ≡ []
  filter_nothing [] = refl
  filter_nothing (x ∷ xs) = filter_nothing xs
