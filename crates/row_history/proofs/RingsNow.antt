-- Rings that may stand together, with one more, and with one left out
use Rattle.row_history.proofs.BaseWords.{◌≡◌, ◌<◌, ◌||◌, ◌&&◌, ◌++◌, ◌∷◌, ◌∙◌, ℕ, zero, suc, not, Bool, true, false, List, [], nat_lt, refl, lt-ltb, list_all, list_any, remove, and_from, and_parts, not-true, not_from_false, or_from, or_parts, list_any-append, is_shape, Header, Ring, IsHeader, clash, may_stand_together}

abbrev sound : Ring → Bool
sound r = nat_lt r.id 256 && is_shape r.shape

all_more : (rs : List Ring) (r : Ring) → list_all sound rs ≡ true → sound r ≡ true → list_all sound (rs ++ r ∷ []) ≡ true
all_more [] r all one = and_from (sound r) true one refl
all_more (y ∷ ys) r all one = let parts = and_parts (sound y) (list_all sound ys) all in and_from (sound y) (list_all sound (ys ++ r ∷ [])) parts.0 (all_more ys r parts.1 one)

together_more : (rs : List Ring) (r : Ring) → may_stand_together rs ≡ true → list_any (λ q. clash q r) rs ≡ false → may_stand_together (rs ++ r ∷ []) ≡ true
together_more [] r together apart = refl
together_more (y ∷ ys) r together apart =
    let parts = and_parts (not (list_any (clash y) ys)) (may_stand_together ys) together in
    let own = or_parts (clash y r) (list_any (λ q. clash q r) ys) apart in
    let none : list_any (clash y) (ys ++ r ∷ []) ≡ false =
    list_any-append (clash y) ys (r ∷ []) ∙ or_from (list_any (clash y) ys) (clash y r || false) (not-true (list_any (clash y) ys) parts.0) (or_from (clash y r) false own.0 refl) in
    and_from (not (list_any (clash y) (ys ++ r ∷ []))) (may_stand_together (ys ++ r ∷ [])) (not_from_false _ none) (together_more ys r parts.1 own.1)

pub one_more : (h : Header) (r : Ring) → IsHeader h → r.id < 256 → is_shape r.shape ≡ true → list_any (λ q. clash q r) h.rings ≡ false → IsHeader (record h { rings = h.rings ++ r ∷ [] })
one_more h r is low shape apart =
    let parts = and_parts (list_all sound h.rings) (may_stand_together h.rings) is in
    and_from (list_all sound (h.rings ++ r ∷ [])) (may_stand_together (h.rings ++ r ∷ []))
    (all_more h.rings r parts.0 (and_from (nat_lt r.id 256) (is_shape r.shape) (lt-ltb r.id 256 low) shape)) (together_more h.rings r parts.1 apart)

all_less : (rs : List Ring) (n : ℕ) → list_all sound rs ≡ true → list_all sound (remove rs n) ≡ true
all_less [] zero all = refl
all_less [] (suc n) all = refl
all_less (y ∷ ys) zero all = (and_parts (sound y) (list_all sound ys) all).1
all_less (y ∷ ys) (suc n) all = let parts = and_parts (sound y) (list_all sound ys) all in and_from (sound y) (list_all sound (remove ys n)) parts.0 (all_less ys n parts.1)

none_less : (p : Ring → Bool) (rs : List Ring) (n : ℕ) → list_any p rs ≡ false → list_any p (remove rs n) ≡ false
none_less p [] zero none = refl
none_less p [] (suc n) none = refl
none_less p (y ∷ ys) zero none = (or_parts (p y) (list_any p ys) none).1
none_less p (y ∷ ys) (suc n) none = let parts = or_parts (p y) (list_any p ys) none in or_from (p y) (list_any p (remove ys n)) parts.0 (none_less p ys n parts.1)

together_less : (rs : List Ring) (n : ℕ) → may_stand_together rs ≡ true → may_stand_together (remove rs n) ≡ true
together_less [] zero together = refl
together_less [] (suc n) together = refl
together_less (y ∷ ys) zero together = (and_parts (not (list_any (clash y) ys)) (may_stand_together ys) together).1
together_less (y ∷ ys) (suc n) together =
    let parts = and_parts (not (list_any (clash y) ys)) (may_stand_together ys) together in
    and_from (not (list_any (clash y) (remove ys n))) (may_stand_together (remove ys n)) (not_from_false _ (none_less (clash y) ys n (not-true (list_any (clash y) ys) parts.0))) (together_less ys n parts.1)

pub one_less : (h : Header) (n : ℕ) → IsHeader h → IsHeader (record h { rings = remove h.rings n })
one_less h n is =
    let parts = and_parts (list_all sound h.rings) (may_stand_together h.rings) is in
    and_from (list_all sound (remove h.rings n)) (may_stand_together (remove h.rings n)) (all_less h.rings n parts.0) (together_less h.rings n parts.1)
