-- What passes a test of a list, where at most one element does
use Rattle.trace_record.proofs.BaseWords.{rules, ◌≡◌, ◌++◌, ◌||◌, ◌∷◌, Bool, true, false, List, [], All, All-append, All-cons, All-head, All-nil, All-tail, ap, refl, filter, list_any, arith, length, false≢true, length-append}

-- a test that holds of none
pub none_passes : {X : Type 0} (p : X → Bool) (xs : List X) → list_any p xs ≡ false → filter p xs ≡ []
none_passes p [] none = refl
none_passes p (x ∷ xs) none = search (rules, filter, list_any, none_passes p xs)

pub any_same : {X : Type 0} (p q : X → Bool) (xs : List X) → ((x : X) → p x ≡ q x) → list_any p xs ≡ list_any q xs
any_same p q xs h1 = search rules

-- a test that holds only where another does looks at nothing else
pub any_filtered : {X : Type 0} (p q : X → Bool) (xs : List X) → ((x : X) → p x ≡ true → q x ≡ true) → list_any p (filter q xs) ≡ list_any p xs
any_filtered p q [] only = refl
any_filtered p q (x ∷ xs) only = search (rules, filter, list_any, only x, any_filtered p q xs only, false≢true)

-- no element passes, or one does
pub any_none : {X : Type 0} (p : X → Bool) (xs : List X) → filter p xs ≡ [] → list_any p xs ≡ false
any_none p [] e = refl
any_none p (x ∷ xs) e = search (rules, filter, list_any, any_none p xs)

pub any_one : {X : Type 0} (p : X → Bool) (xs : List X) (d : X) → filter p xs ≡ d ∷ [] → list_any p xs ≡ true
any_one p [] d e = absurd (cc)
any_one p (x ∷ xs) d e = search (rules, filter, list_any, any_one p xs d)

-- a list with an element in it that has at most one
pub only_left : {X : Type 0} (xs ys : List X) (x y : X) → xs ++ x ∷ ys ≡ y ∷ [] → xs ++ ys ≡ []
only_left [] ys x y e = cc
only_left (z ∷ xs) ys x y e = absurd (omega (arith, ap length e, length-append xs (x ∷ ys)))

-- no list with an element in it is empty
pub not_empty : {X : Type 0} (xs ys : List X) (x : X) → xs ++ x ∷ ys ≡ [] → ⊥
not_empty xs ys x e = omega (arith, ap length e, length-append xs (x ∷ ys))

-- with none, one is alone
pub alone : {X : Type 0} (xs ys : List X) (x : X) → xs ++ ys ≡ [] → xs ++ x ∷ ys ≡ x ∷ []
alone [] ys x e = ap (λ l. x ∷ l) e
alone (z ∷ xs) ys x e = absurd (cc)

module _ {X : Type 0} (P : X → Type 0) where
  -- a fact of each element, part by part
  pub all_front : (xs ys : List X) → All P (xs ++ ys) → All P xs
  all_front [] ys all = All-nil P
  all_front (x ∷ xs) ys all = All-cons P x xs (All-head P x (xs ++ ys) all) (all_front xs ys (All-tail P x (xs ++ ys) all))

  pub all_back : (xs ys : List X) → All P (xs ++ ys) → All P ys
  all_back [] ys all = all
  all_back (x ∷ xs) ys all = all_back xs ys (All-tail P x (xs ++ ys) all)

  pub all_without : (xs ys : List X) (x : X) → All P (xs ++ x ∷ ys) → All P (xs ++ ys)
  all_without xs ys x all = All-append P xs ys (all_front xs (x ∷ ys) all) (All-tail P x ys (all_back xs (x ∷ ys) all))

  pub all_with : (xs ys : List X) (x : X) → P x → All P (xs ++ ys) → All P (xs ++ x ∷ ys)
  all_with xs ys x here all = All-append P xs (x ∷ ys) (all_front xs ys all) (All-cons P x ys here (all_back xs ys all))

  -- the same test of each element that has a fact
  pub any_same_of : (p q : X → Bool) (xs : List X) → All P xs → ((x : X) → P x → p x ≡ q x) → list_any p xs ≡ list_any q xs
  any_same_of p q [] all same = refl
  any_same_of p q (x ∷ xs) all same = λ i. same x (All-head P x xs all) i || any_same_of p q xs (All-tail P x xs all) same i

module _ {X : Type 0} (p q : X → Bool) where
  -- one of two tests
  pub any_either : (xs : List X) → list_any (λ x. p x || q x) xs ≡ (list_any p xs || list_any q xs)
  any_either [] = refl
  any_either (x ∷ xs) = search (rules, list_any, any_either xs)

  -- what passes the one passes the other
  pub any_more : (xs : List X) → ((x : X) → p x ≡ true → q x ≡ true) → list_any p xs ≡ true → list_any q xs ≡ true
  any_more [] more e = e
  any_more (x ∷ xs) more e = search (rules, list_any, more x, any_more xs more)
