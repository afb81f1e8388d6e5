-- What the doorbell of the host controller does
use Rattle.controller_model.proofs.Words.{◌≡◌, ◌<◌, ◌==◌, ◌∙◌, ◌∷◌, ℕ, ap, sym, subst, true, Bool, List, [], Some, None, find, is_some, length, inl, inr, arith, eq-eqb, cases_Bool, cond-true, cond-false, slice_get_within, Ring, Header, command_id, command_ring, id_or_none, RingState, RingHeld, FollowsRing, FollowsRings}

-- the world has the same of each ring
pub follows_same : (h : Header) (before after : ℕ → RingHeld) (rings : List RingState) → length rings ≡ 256 → ((q : ℕ) → q < 256 → after q ≡ before q) →
    FollowsRings h before rings → FollowsRings h after rings
follows_same h before after rings many same f = record {
  each = λ q y at.
      let inside = slice_get_within rings q y at in
      let P : RingHeld → Type 0 = λ held. FollowsRing h q held y in
      subst P (sym (same q (omega (arith, inside, many)))) (f.each q y at);
}

-- a ring that a test finds is found by its ID
pub found_by_id : (test : Ring → Bool) (rings : List Ring) (x : Ring) → find test rings ≡ Some x → is_some (find (λ r. r.id == x.id) rings) ≡ true
found_by_id test [] x e = absurd (cc)
found_by_id test (r ∷ rings) x e =
    elim (cases_Bool (test r)) [
      | inl passes ↦ grind (arith, cond-true, is_some, eq-eqb)
      | inr fails ↦
          let rest : find test rings ≡ Some x = sym (cond-false (test r) (Some r) (find test rings) fails) ∙ e in
          let there = found_by_id test rings x rest in
          elim (cases_Bool (r.id == x.id)) [
            | inl here ↦ ap (λ o. is_some o) (cond-true (r.id == x.id) (Some r) (find (λ q. q.id == x.id) rings) here)
            | inr other ↦ ap (λ o. is_some o) (cond-false (r.id == x.id) (Some r) (find (λ q. q.id == x.id) rings) other) ∙ there
          ]
    ]

pub command_id-some : (h : Header) (x : Ring) → Some x ≡ command_ring h → command_id h ≡ x.id
unfolding command_id
command_id-some h x e = ap id_or_none (sym e)

pub command_id-none : (h : Header) → None ≡ command_ring h → command_id h ≡ 256
unfolding command_id
command_id-none h e = ap id_or_none (sym e)
