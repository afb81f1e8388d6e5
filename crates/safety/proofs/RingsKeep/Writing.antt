-- A write that breaks no rule is one that each ring allows
use Rattle.safety.proofs.Words.{[], ◌∷◌, ◌+◌, ◌<◌, ◌==◌, ◌&&◌, true, not, filter, arith, subst, and_parts, not-true, false_from_ne_true, some_of, from_filter, false≢true, or_cases, is_inside, is_driver_kind, Ring, ◌≡◌, ◌++◌, ◌∙◌, ℕ, Bool, false, List, map, All, sym, ap, ◌⊎◌, inl, inr, eqb-true, rules, MayCome, list_any, flat_map, or_parts, list_any-append, address_of, link_address, overlap, positions_given, crossings_given, leased_positions, leased_crossings, is_other_than_declared, is_not_declared, is_not_whole, leads_wrong, MayWrite, Header, Write, shape_of, driver_rings, Known, Given, Position, Crossing, given_of, given_by, covers, lease_start, lease_bytes, open_on, open_ranges, open_leases, is_leased, on_position, on_crossing, some_given, some_crossed, write_tests, lenient_tests, lenient, and_cases, not-false, is_the_controllers, changes_owned, IsHeader, RingKeeps, length, slice_index, suc, is_set, links, link_inside, clears_chain, is_link_control, unchains}
use Rattle.safety.specs.DriverRings.{IsDriverRing}
use Rattle.safety.proofs.RingsKeep.TestsPassed.{AllFail, tests_fail, each_fails, any_of_map}
use Rattle.safety.proofs.HeaderRings.RingsOfHeader.{HasRing, has_ring, none_of_ring, shape_allowed}
use Rattle.safety.proofs.RingsKeep.KeptWords.{KeepsCycles, free_keeps_cycles, same_keeps_cycles}
use Rattle.safety.proofs.RingsKeep.Unchained.{Cleared, IsNoOther, cleared_keeps_cycles, control_is_none, outside_is_none}
use Rattle.safety.proofs.HeaderRings.Headers.{clash_apart, found_in, header_parts, ring_allowed, together}

-- what it is to unchain a Link
pub record IsUnchained (h : Header) (k : Known) (a w : ℕ) : Type 0 where
  pub link : is_link_control h a ≡ true
  pub cleared : Cleared (k.memory a) w
  pub apart : list_any (covers h a 4) (open_ranges h k) ≡ false

pub unchained_is : (h : Header) (k : Known) (a w : ℕ) → unchains h k a w ≡ true → IsUnchained h k a w
unfolding unchains
unchained_is h k a w is =
    let both = and_parts (is_link_control h a && clears_chain (k.memory a) w) (not (list_any (covers h a 4) (open_ranges h k))) is in
    let link = and_parts (is_link_control h a) (clears_chain (k.memory a) w) both.0 in
    let bits = and_parts (is_set (k.memory a) 4) (k.memory a == w + 16) link.1 in
    record {
      link = link.0;
      cleared = record { bit = eqb-true _ 1 bits.0; less = eqb-true (k.memory a) (w + 16) bits.1 };
      apart = not-true (list_any (covers h a 4) (open_ranges h k)) both.1;
    }

-- the Link is of one of the rings; of each other one the word is outside
pub is_no_other : (h : Header) → IsHeader h → (k : Known) (a w : ℕ) → unchains h k a w ≡ true → (r : ℕ) → IsDriverRing h r → IsNoOther (shape_of h r) a
unfolding is_link_control driver_rings
is_no_other h is k a w unchained r driver =
    let has = has_ring h r driver in
    let shape = shape_allowed h is r driver in
    let found = some_of (λ (q : Ring). list_any (λ link. a == link + 12) (links q.shape)) (filter (λ (q : Ring). is_driver_kind q.shape.kind) h.rings) (unchained_is h k a w unchained).link in
    let q : Ring = found.0 in
    let there = (from_filter (λ (q : Ring). is_driver_kind q.shape.kind) h.rings q found.1).0 in
    let at = link_at a (links q.shape) found.2 in
    let here = (found_in (λ p. p.id == r) h.rings has.ring has.found).0 in
    elim (together h.rings has.ring q (header_parts h is).1 here there) [
      | inl same ↦
          let shapes : shape_of h r ≡ q.shape = has.shape ∙ ap (λ (p : Ring). p.shape) same in
          control_is_none (shape_of h r) shape a at.0 (subst (λ s. at.0 < length (links s)) (sym shapes) at.1) (at.2 ∙ ap (λ s. slice_index (links s) at.0 + 12) (sym shapes))
      | inr apart ↦
          outside_is_none (shape_of h r) shape a (false_from_ne_true (is_inside (shape_of h r) a) (λ inside.
          let mine : is_inside has.ring.shape a ≡ true = ap (λ s. is_inside s a) (sym has.shape) ∙ inside in
          let yours : is_inside q.shape a ≡ true =
          ap (λ x. is_inside q.shape x) at.2 ∙ link_inside q.shape (ring_allowed h is q there) at.0 12 at.1 (omega arith) in
          elim apart [ inl one ↦ clash_apart has.ring q a one mine yours | inr other ↦ clash_apart q has.ring a other yours mine ]))
    ]
  where
    link_at : (a : ℕ) (ls : List ℕ) → list_any (λ link. a == link + 12) ls ≡ true → (j : ℕ) × (j < length ls) × (a ≡ slice_index ls j + 12)
    link_at a [] some = absurd (false≢true some)
    link_at a (l ∷ ls) some = elim (or_cases (a == l + 12) (list_any (λ link. a == link + 12) ls) some) [
      | inl here ↦ (0, omega arith, eqb-true a (l + 12) here)
      | inr later ↦ let rest = link_at a ls later in (suc rest.0, omega (arith, rest.1), rest.2)
    ]

pub none_of_both : {X : Type 0} (test : X → Bool) (xs ys : List X) → list_any test (xs ++ ys) ≡ false → (list_any test xs ≡ false) × (list_any test ys ≡ false)
none_of_both test xs ys none = or_parts (list_any test xs) (list_any test ys) (sym (list_any-append test xs ys) ∙ none)

module _ (h : Header) (k : Known) (a w r : ℕ) (has : HasRing h r) where
  -- no lease of the ring covers the word
  module _ (free : is_leased h k a ≡ false) where
    on_this_ring : list_any (covers h a 4) (open_on h k has.ring) ≡ false
    unfolding is_leased open_leases
    on_this_ring =
        none_of_ring h r has (covers h a 4) (open_on h k)
        (none_of_both (covers h a 4) (flat_map (open_on h k) (driver_rings h)) (open_ranges h k) free).0

    pub blocks_free : All (λ p. overlap a 4 (address_of (shape_of h r) p) 16 ≡ false) (leased_positions (shape_of h r) (k.ring r))
    unfolding covers lease_start lease_bytes open_on
    blocks_free = search (rules, each_fails, any_of_map, none_of_both, covers, on_this_ring)

    pub links_free : All (λ q. overlap a 4 (link_address (shape_of h r) q) 16 ≡ false) (leased_crossings (shape_of h r) (k.ring r))
    unfolding covers lease_start lease_bytes open_on
    links_free = search (rules, each_fails, any_of_map, none_of_both, covers, on_this_ring)

  -- of what the write gives of the ring the test fails
  of_ring : (passes : Given → Bool) → list_any passes (given_by h k a w) ≡ false → list_any passes (given_of h k a w r) ≡ false
  unfolding given_by
  of_ring passes none =
      ap (λ n. list_any passes (given_of h k a w n)) (sym has.id) ∙ none_of_ring h r has passes (λ q. given_of h k a w q.id) none

  pub none_given : (test : ℕ → ℕ → Bool) → some_given h k a w test ≡ false → All (λ p. test r p ≡ false) (positions_given (shape_of h r) (k.ring r) a w)
  unfolding some_given given_of on_position
  none_given test none =
      each_fails (test r) (positions_given (shape_of h r) (k.ring r) a w)
      (sym (any_of_map (on_position test) (Position r) (positions_given (shape_of h r) (k.ring r) a w))
      ∙ (none_of_both (on_position test) (map (Position r) (positions_given (shape_of h r) (k.ring r) a w)) (map (Crossing r) (crossings_given (shape_of h r) (k.ring r) a w))
      (of_ring (on_position test) none)).0)

  pub none_crossed : (test : ℕ → ℕ → Bool) → some_crossed h k a w test ≡ false → All (λ q. test r q ≡ false) (crossings_given (shape_of h r) (k.ring r) a w)
  unfolding some_crossed given_of on_crossing
  none_crossed test none =
      each_fails (test r) (crossings_given (shape_of h r) (k.ring r) a w)
      (sym (any_of_map (on_crossing test) (Crossing r) (crossings_given (shape_of h r) (k.ring r) a w))
      ∙ (none_of_both (on_crossing test) (map (Position r) (positions_given (shape_of h r) (k.ring r) a w)) (map (Crossing r) (crossings_given (shape_of h r) (k.ring r) a w))
      (of_ring (on_crossing test) none)).1)

module _ (h : Header) (k : Known) (a w : ℕ) (clean : lenient h k (Write a w) ≡ []) where
  not_owned : changes_owned h k a w ≡ false
  unfolding lenient_tests write_tests
  not_owned = let fails : AllFail (write_tests h k a w) = tests_fail h k (Write a w) clean in fails.0

  -- the word isn't one that the controller alone writes
  pub not_the_controllers : is_the_controllers h k a ≡ false
  unfolding changes_owned
  not_the_controllers = (or_parts (is_the_controllers h k a) _ not_owned).0

  -- it isn't under lease, or is written as it stands, or unchains a Link
  pub free_or_same : (is_leased h k a ≡ false) ⊎ (k.memory a ≡ w) ⊎ (unchains h k a w ≡ true)
  unfolding changes_owned
  free_or_same =
      elim (and_cases (is_leased h k a && not (k.memory a == w)) (not (unchains h k a w)) (or_parts (is_the_controllers h k a) _ not_owned).1) [
        | inl kept ↦ elim (and_cases (is_leased h k a) (not (k.memory a == w)) kept) [
          | inl free ↦ inl free
          | inr same ↦ inr (inl (eqb-true (k.memory a) w (not-false (k.memory a == w) same)))
        ]
        | inr unchained ↦ inr (inr (not-false (unchains h k a w) unchained))
      ]

-- of each command and transfer ring
pub may_write : (h : Header) (k : Known) (a w : ℕ) → MayCome h k (Write a w) → is_leased h k a ≡ false → (r : ℕ) → IsDriverRing h r → MayWrite (shape_of h r) k.memory (k.ring r) a w
unfolding lenient_tests write_tests
may_write h k a w may free r driver =
    let has = has_ring h r driver in
    let fails : AllFail (write_tests h k a w) = tests_fail h k (Write a w) may.0 in
    search (rules, blocks_free, links_free, none_given, is_other_than_declared, shape_of, is_not_declared, is_not_whole, none_crossed, leads_wrong)

-- each given block and Link keeps the Cycle bit that it shows
pub keeps_cycles : (h : Header) → IsHeader h → (k : Known) (a w : ℕ) → MayCome h k (Write a w) → (r : ℕ) → IsDriverRing h r → RingKeeps (shape_of h r) k.memory (k.ring r) →
    KeepsCycles (shape_of h r) (k.ring r) a w
keeps_cycles h is k a w may r driver keeps =
    elim (free_or_same h k a w may.0) [
      | inl free ↦ free_keeps_cycles (shape_of h r) k.memory (k.ring r) a w (may_write h k a w may free r driver)
      | inr (inl same) ↦ same_keeps_cycles (shape_of h r) k.memory (k.ring r) keeps a w same (shape_allowed h is r driver)
      | inr (inr unchained) ↦ cleared_keeps_cycles (shape_of h r) k.memory (k.ring r) keeps a w (is_no_other h is k a w unchained r driver) (unchained_is h k a w unchained).cleared
    ]
