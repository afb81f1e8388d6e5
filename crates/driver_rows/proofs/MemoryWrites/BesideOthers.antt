-- A command beside the unfinished ones of its slot: which of them exclude it, by what each is about
use Rattle.driver_rows.proofs.Words.{◌≡◌, ◌==◌, ◌&&◌, ◌||◌, ◌∙◌, ◌<◌, ℕ, Bool, not, true, false, List, [], ◌∷◌, All, Option, Some, None, refl, ap, sym, subst, inl, inr, arith, list_any, and_parts, or_parts, Command, named_slot, named_endpoint, is_about}
use Rattle.std.proofs.lemmas.Bool.{and_from, cases_Bool, false_from_ne_true, false≢true}
use Rattle.std.proofs.lemmas.List.Elements.{All-head, All-tail}
use Rattle.std.proofs.Common.{eq-eqb, eqb-true}
use Rattle.commands.specs.Command.{exclude_by_slot, name_one_slot, name_two_endpoints, same_slot}
use Rattle.commands.specs.SideBySide.{exclude}
use Rattle.trace_record.specs.DeviceSlots.Indices.{IsEndpoint, NamesEndpoint, endpoint_index, index_of, is_slot, names}
use Rattle.driver_rows.specs.ContextRules.Contents.{NamesLow}
use Rattle.driver_rows.proofs.DoorbellRows.Touching.{IsThat}

any_fewer : {X : Type 0} (p q : X → Bool) → ((x : X) → p x ≡ true → q x ≡ true) → (xs : List X) → list_any q xs ≡ false → list_any p xs ≡ false
any_fewer p q more [] none = refl
any_fewer p q more (x ∷ xs) none =
    let parts = or_parts (q x) (list_any q xs) none in
    rw (false_from_ne_true (p x) (λ holds. false≢true (sym parts.0 ∙ more x holds))) (any_fewer p q more xs parts.1)

-- ---- which slot

slot_is : (s : ℕ) (o : Option ℕ) → same_slot (Some s) o ≡ is_slot s o
slot_is s None = refl
slot_is s (Some t) = refl

pub one_slot_is : (s : ℕ) (c d : Command) → named_slot c ≡ Some s → name_one_slot c d ≡ names s d
one_slot_is s c d named = ap (λ o. same_slot o (named_slot d)) named ∙ slot_is s (named_slot d)

pub excluded_shares : (memory : ℕ → ℕ) (c d : Command) → exclude memory c d ≡ true → name_one_slot c d ≡ true
excluded_shares memory c d both =
    let out : name_one_slot c d ≡ false → exclude memory c d ≡ false = λ none. rw none refl in
    elim (cases_Bool (name_one_slot c d)) [ inl same ↦ same | inr other ↦ absurd (false≢true (sym (out other) ∙ both)) ]

-- no unfinished command of its slot: none excludes it
pub none_shares : (memory : ℕ → ℕ) (c : Command) (all : List Command) → list_any (name_one_slot c) all ≡ false → list_any (exclude memory c) all ≡ false
none_shares memory c all none = any_fewer (exclude memory c) (name_one_slot c) (excluded_shares memory c) all none

pub none_by_slot : (c : Command) (all : List Command) → list_any (name_one_slot c) all ≡ false → list_any (exclude_by_slot c) all ≡ false
none_by_slot c all none = any_fewer (exclude_by_slot c) (name_one_slot c) (λ d both. (and_parts (name_one_slot c d) (not (name_two_endpoints c d)) both).0) all none

-- a command that names no slot shares none
pub none_of_slot : (c : Command) (all : List Command) → named_slot c ≡ None → list_any (name_one_slot c) all ≡ false
none_of_slot c [] named = refl
none_of_slot c (d ∷ all) named = rw (ap (λ o. same_slot o (named_slot d)) named) (none_of_slot c all named)

-- ---- one after the other, by the index of what it is about

low_by : (o : Option (ℕ × ℕ)) → IsEndpoint o → endpoint_index o < 32
low_by None is = omega arith
low_by (Some e) is = is.1

pub none_excluded : (s : ℕ) (p : Command → Bool) → ((d : Command) → p d ≡ true → names s d ≡ true) → (all : List Command) → All NamesEndpoint all →
    ((j : ℕ) → j < 32 → list_any (λ d. p d && is_about s j d) all ≡ false) → list_any p all ≡ false
none_excluded s p named [] fit none = refl
none_excluded s p named (d ∷ rest) fit none =
    let low : index_of d < 32 = low_by (named_endpoint d) (All-head NamesEndpoint d rest fit) in
    let parts = λ (j : ℕ) (below : j < 32). or_parts (p d && is_about s j d) (list_any (λ x. p x && is_about s j x) rest) (none j below) in
    let here : p d ≡ false =
    false_from_ne_true (p d) (λ holds. false≢true (sym (parts (index_of d) low).0
    ∙ and_from (p d) (is_about s (index_of d) d) holds (and_from (names s d) (index_of d == index_of d) (named d holds) (eq-eqb (index_of d) (index_of d) refl)))) in
    rw here (none_excluded s p named rest (All-tail NamesEndpoint d rest fit) (λ j below. (parts j below).1))

pub some_excluded : (s j : ℕ) (p : Command → Bool) (all : List Command) → list_any (λ d. p d && is_about s j d) all ≡ true → list_any p all ≡ true
some_excluded s j p all some =
    elim (cases_Bool (list_any p all)) [
      | inl one ↦ one
      | inr other ↦ absurd (false≢true (sym (any_fewer (λ d. p d && is_about s j d) p (λ d both. (and_parts (p d) (is_about s j d) both).0) all other) ∙ some))
    ]

-- ---- the one that is about an index

module _ (s i : ℕ) (below : i < 32) (all : List Command) (d : Command) (that : IsThat s i all (Some d)) where
  pub low_there : NamesLow d
  low_there e at =
      let is = and_parts (names s d) (index_of d == i) that.named in
      subst (λ n. n < 32) (sym (eqb-true (index_of d) i is.1) ∙ ap endpoint_index at) below

  one_more : (b : Bool) → b ≡ ((b && true) || false)
  one_more true = refl
  one_more false = refl

  pub excludes_there : (p : Command → Bool) → p d ≡ list_any (λ x. p x && is_about s i x) all
  excludes_there p =
      one_more (p d) ∙ ap (λ b. (p d && b) || false) (sym that.named) ∙ that.one (λ x. p x && is_about s i x) (λ x both. (and_parts (p x) (is_about s i x) both).1)

pub none_there : (s i : ℕ) (all : List Command) → IsThat s i all None → (p : Command → Bool) → false ≡ list_any (λ x. p x && is_about s i x) all
none_there s i all that p = that.one (λ x. p x && is_about s i x) (λ x both. (and_parts (p x) (is_about s i x) both).1)
