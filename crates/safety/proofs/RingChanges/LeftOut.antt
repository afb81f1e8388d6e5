-- The ring with an ID, and the rings that stand without it
use Rattle.safety.proofs.LowerLaws.{◌≡◌, ◌≢◌, ◌==◌, ◌∙◌, ℕ, not, Bool, true, false, Some, None, find, filter, sym, ap, inl, inr, arith, eq-eqb, eqb-true, ne_eqb, cases_option, false≢true, not_from_false, not-true, from_filter, IsIn, Header, Ring, IsHeader, ring_with, clash, is_command_kind, is_event_kind, command_ring, event_ring, without_ring, found_in, header_parts, together, other_ids}
use Rattle.safety.proofs.RingChanges.ListedRings.{find_kept}

abbrev pub is_command : Ring → Bool
is_command q = is_command_kind q.shape.kind

abbrev pub is_event : Ring → Bool
is_event q = is_event_kind q.shape.kind

commands_clash : (x q : Ring) → is_command x ≡ true → is_command q ≡ true → clash x q ≡ true
commands_clash x q one other = grind arith

events_clash : (x q : Ring) → is_event x ≡ true → is_event q ≡ true → clash x q ≡ true
events_clash x q one other = grind arith

module _ (h : Header) (is : IsHeader h) where
  -- of rings that clash with each other one at most is there
  only : (test : Ring → Bool) → ((x q : Ring) → test x ≡ true → test q ≡ true → clash x q ≡ true) → (x q : Ring) → IsIn x h.rings → IsIn q h.rings → test x ≡ true → test q ≡ true → x ≡ q
  only test clashes x q at there one other =
      elim (together h.rings x q (header_parts h is).1 at there) [
        | inl same ↦ same
        | inr apart ↦ elim apart [
          | inl first ↦ absurd (false≢true (sym first ∙ clashes x q one other))
          | inr second ↦ absurd (false≢true (sym second ∙ clashes q x other one))
        ]
      ]

  module _ (id : ℕ) (q : Ring) (found : ring_with h id ≡ Some q) where
    abbrev keep : Ring → Bool
    keep x = not (x.id == id)

    pub there : IsIn q h.rings × ((q.id == id) ≡ true)
    there = found_in (λ x. x.id == id) h.rings q found

    -- no two rings have its ID
    pub only_one : (x : Ring) → IsIn x h.rings → x.id ≡ id → x ≡ q
    only_one x at same =
        let both : x.id ≡ q.id = same ∙ sym (eqb-true q.id id there.1) in
        elim (together h.rings x q (header_parts h is).1 at there.0) [
          | inl one ↦ one
          | inr apart ↦ elim apart [
            | inl first ↦ absurd (false≢true (sym (other_ids x q first) ∙ eq-eqb x.id q.id both))
            | inr second ↦ absurd (false≢true (sym (other_ids q x second) ∙ eq-eqb q.id x.id (sym both)))
          ]
        ]

    pub stays : (x : Ring) → x.id ≢ id → keep x ≡ true
    stays x other = not_from_false (x.id == id) (ne_eqb x.id id other)

    -- a ring of another kind has another ID
    pub of_other_kind : (test : Ring → Bool) → test q ≡ false → (x : Ring) → IsIn x h.rings → test x ≡ true → keep x ≡ true
    of_other_kind test fails x at passes = stays x (λ same. false≢true (sym fails ∙ ap test (sym (only_one x at same)) ∙ passes))

    pub found_still : (test : Ring → Bool) → test q ≡ false → find test (filter keep h.rings) ≡ find test h.rings
    found_still test fails = find_kept test keep h.rings (of_other_kind test fails)

    -- it was the one of its kind, so none is found
    none_still : (test : Ring → Bool) → ((x y : Ring) → test x ≡ true → test y ≡ true → clash x y ≡ true) → test q ≡ true → find test (filter keep h.rings) ≡ None
    none_still test clashes passes =
        elim (cases_option (find test (filter keep h.rings))) [
          | inl none ↦ none
          | inr some ↦
              let other = found_in test (filter keep h.rings) some.0 some.1 in
              let was = from_filter keep h.rings some.0 other.0 in
              let same = only test clashes some.0 q was.0 there.0 other.1 passes in
              absurd (false≢true (sym (not-true (q.id == id) (ap keep (sym same) ∙ was.1)) ∙ there.1))
        ]

    pub ring_same : (s : ℕ) → s ≢ id → ring_with (without_ring h id) s ≡ ring_with h s
    unfolding without_ring
    ring_same s other = find_kept (λ x. x.id == s) keep h.rings (λ x at passes. stays x (λ same. other (sym (eqb-true x.id s passes) ∙ same)))

    -- it isn't there any more
    pub not_there : (s : ℕ) (x : Ring) → ring_with (without_ring h id) s ≡ Some x → s ≢ id
    unfolding without_ring
    not_there s x at same =
        let here = found_in (λ y. y.id == s) (filter keep h.rings) x at in
        false≢true (sym (not-true (x.id == id) ((from_filter keep h.rings x here.0).1)) ∙ eq-eqb x.id id (eqb-true x.id s here.1 ∙ same))

    pub command_still : is_command q ≡ false → command_ring (without_ring h id) ≡ command_ring h
    unfolding command_ring without_ring
    command_still fails = found_still is_command fails

    pub no_command_still : is_command q ≡ true → command_ring (without_ring h id) ≡ None
    unfolding command_ring without_ring
    no_command_still passes = none_still is_command commands_clash passes

    pub event_still : is_event q ≡ false → event_ring (without_ring h id) ≡ event_ring h
    unfolding event_ring without_ring
    event_still fails = found_still is_event fails

    pub no_event_still : is_event q ≡ true → event_ring (without_ring h id) ≡ None
    unfolding event_ring without_ring
    no_event_still passes = none_still is_event events_clash passes
