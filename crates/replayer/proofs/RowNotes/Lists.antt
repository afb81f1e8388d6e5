-- Notes that are added one after another
use Rattle.replayer.proofs.Words.{arith, drop_all, ◌≡◌, ℕ, ◌≤◌, ◌+◌, ◌<◌, ◌∙◌, List, [], ◌∷◌, ◌++◌, Result, map, length, drop, get_or, refl, ap, sym, append_assoc, add-one, OnOk, IfOk, append-nil, Note, drop-cons}

pub on_more : {X E P Q : Type 0} (answer : Result X E) → (P → Q) → OnOk answer P → OnOk answer Q
on_more answer f p = grind arith

at_head : (xs : List ℕ) (i : ℕ) → i < length xs → drop i xs ≡ get_or xs i 0 ∷ drop (i + 1) xs
at_head xs i inside = rw (add-one, drop-cons xs i 0) refl

pub one_more : (f : ℕ → Note) (xs : List ℕ) (i : ℕ) (old new base : List Note) → i < length xs → new ≡ old ++ f (get_or xs i 0) ∷ [] → old ++ map f (drop i xs) ≡ base →
    new ++ map f (drop (i + 1) xs) ≡ base
one_more f xs i old new base inside added so_far = rw (added, append_assoc) (rw (at_head xs i inside) at so_far)

pub in_turn : (old m : List Note) (x y : Note) (first second third : List Note) → first ≡ old ++ m → second ≡ first ++ x ∷ [] → third ≡ second ++ y ∷ [] → third ≡ old ++ m ++ x ∷ y ∷ []
in_turn old m x y first second third e f g = g ∙ ap (λ l. l ++ y ∷ []) (f ∙ ap (λ l. l ++ x ∷ []) e) ∙ simp append_assoc

pub one_behind : (old m : List Note) (x : Note) (first second : List Note) → first ≡ old ++ m → second ≡ first ++ x ∷ [] → second ≡ old ++ (m ++ x ∷ [])
one_behind old m x first second e f = f ∙ ap (λ l. l ++ x ∷ []) e ∙ append_assoc old m (x ∷ [])

pub both_ok : {X E : Type 0} (P Q R : X → Type 0) (answer : Result X E) → ((x : X) → P x → Q x → R x) → IfOk answer P → IfOk answer Q → IfOk answer R
both_ok P Q R answer f p q = grind arith

pub more_ok : {X E : Type 0} (P R : X → Type 0) (answer : Result X E) → ((x : X) → P x → R x) → IfOk answer P → IfOk answer R
more_ok P R answer f p = grind arith

pub nothing_more : {X : Type 0} (xs ys : List X) → ys ≡ [] → xs ≡ xs ++ ys
nothing_more xs ys none = sym (ap (λ zs. xs ++ zs) none ∙ append-nil xs)

pub from_none : (new old more all : List ℕ) → new ≡ old ++ more → old ≡ [] → more ≡ all → new ≡ all
from_none new old more all e none is = e ∙ ap (λ xs. xs ++ more) none ∙ is

pub none_left : (f : ℕ → Note) (xs : List ℕ) (i : ℕ) (old base : List Note) → length xs ≤ i → old ++ map f (drop i xs) ≡ base → old ≡ base
none_left f xs i old base past e = sym (append-nil old) ∙ rw (drop_all i xs past) at e
