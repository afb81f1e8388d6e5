-- Who has a ring, after an endpoint lets it go and after one gets it
use Rattle.controller_model.proofs.Words.{rules, ◌≡◌, ◌<◌, ◌==◌, ◌&&◌, ◌∙◌, if◌then◌else◌, ℕ, Bool, true, false, Option, Some, None, eq-eqb, ne_eqb, cond-true, cond-false, false≢true, put_pair, Holder, FollowsHolder, IsEndpoint, is_endpoint, is_holder, put_pair_same}

-- the same place, or another one
pub data Place (s i t j : ℕ) : Type 0 where
  here : t ≡ s → j ≡ i → Place s i t j
  elsewhere : (t == s && j == i) ≡ false → Place s i t j

pub place_of : (s i t j : ℕ) → Place s i t j
place_of s i t j = search (rules, ne_eqb)

pub put_pair_here : {A : Type 0} (f : ℕ → ℕ → A) (s i t j : ℕ) (x : A) → t ≡ s → j ≡ i → put_pair f s i x t j ≡ x
put_pair_here f s i t j x same at = (λ k. put_pair f s i x (same k) (at k)) ∙ put_pair_same f s i x

pub put_pair_there : {A : Type 0} (f : ℕ → ℕ → A) (s i t j : ℕ) (x : A) → (t == s && j == i) ≡ false → put_pair f s i x t j ≡ f t j
put_pair_there f s i t j x apart = cond-false (t == s && j == i) x (f t j) apart

-- the value that is there already
put_pair_id_at : {A : Type 0} (f : ℕ → ℕ → A) (s i : ℕ) (x : A) → f s i ≡ x → (t j : ℕ) → put_pair f s i x t j ≡ f t j
put_pair_id_at f s i x is t j = search (rules, place_of, put_pair_here, put_pair_there)

pub put_pair_id : {A : Type 0} (f : ℕ → ℕ → A) (s i : ℕ) (x : A) → f s i ≡ x → put_pair f s i x ≡ f
put_pair_id f s i x is = (λ k t j. put_pair_id_at f s i x is t j k)

pub put_pair_twice : {A : Type 0} (f : ℕ → ℕ → A) (s i : ℕ) (x y : A) → put_pair (put_pair f s i x) s i y ≡ put_pair f s i y
put_pair_twice {A = A} f s i x y = search rules

pub put_pair_map : {A B : Type 0} (g : A → B) (f : ℕ → ℕ → A) (s i : ℕ) (x : A) → ◌≡◌ {A = ℕ → ℕ → B} (λ t j. g (put_pair f s i x t j)) (put_pair (λ t j. g (f t j)) s i (g x))
put_pair_map {A = A} {B = B} g f s i x = search rules

-- an endpoint there is is one by its numbers
real : (s i : ℕ) → is_endpoint s i ≡ true → s < 256 → i < 32 → IsEndpoint s i
real s i e slot index = search (rules, false≢true, eq-eqb)

unreal : (s i t j : ℕ) → is_endpoint s i ≡ false → IsEndpoint t j → t ≡ s → j ≡ i → ⊥
unreal s i t j e one same at = search (rules, false≢true, ne_eqb)

holds_one : (o : Option Holder) (s i t j : ℕ) → is_holder o s i ≡ true → (t == s && j == i) ≡ false → is_holder o t j ≡ false
holds_one None s i t j has apart = search rules
holds_one (Some e) s i t j has apart = search (rules, place_of, false≢true)

-- an endpoint that had it lets it go
pub holder_left : (had : ℕ → ℕ → Bool) (o : Option Holder) (s i : ℕ) → s < 256 → i < 32 → had s i ≡ true → FollowsHolder had o →
    FollowsHolder (put_pair had s i false) (if is_endpoint s i then None else o)
holder_left had o s i slot index has f = search (rules, real, cond-true, place_of, put_pair_here, put_pair_there, holds_one, cond-false, unreal)

-- an endpoint gets it that no other one has
pub holder_taken : (had : ℕ → ℕ → Bool) (s i : ℕ) → s < 256 → i < 32 → ((t j : ℕ) → IsEndpoint t j → (t == s && j == i) ≡ false → had t j ≡ false) →
    FollowsHolder (put_pair had s i true) (if is_endpoint s i then Some (record { slot = s; index = i }) else None)
holder_taken had s i slot index free = search (rules, cond-true, place_of, put_pair_here, eq-eqb, put_pair_there, real, cond-false, unreal)
