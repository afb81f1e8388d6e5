-- The rings of a header have at most one command ring among them
use Rattle.safety.proofs.Words.{[], ◌≡◌, ◌≢◌, ◌==◌, ◌&&◌, ◌∷◌, ◌∙◌, ℕ, Bool, not, true, false, List, find, refl, sym, list_any, cases_Bool, false≢true, and_parts, or_parts, or_from, not-true, eqb-true, arith, Header, Ring, IsHeader, clash, may_stand_together, is_command_kind, command_ring, command_id, id_or_none, is_command_ring, inl, inr}
use Rattle.safety.proofs.HeaderRings.RingIds.{together}

abbrev is_command : Ring → Bool
is_command q = is_command_kind q.shape.kind

-- two command rings clash
clash_commands : (x q : Ring) → is_command x ≡ true → is_command q ≡ true → clash x q ≡ true
clash_commands x q one other = grind arith

none_after : (x : Ring) (rest : List Ring) (r : ℕ) → is_command x ≡ true → list_any (clash x) rest ≡ false → list_any (λ q. is_command q && q.id == r) rest ≡ false
none_after x [] r command apart = refl
none_after x (q ∷ rest) r command apart =
    let parts = or_parts (clash x q) (list_any (clash x) rest) apart in
    or_from (is_command q && q.id == r) (list_any (λ p. is_command p && p.id == r) rest)
    (elim (cases_Bool (is_command q)) [
      | inl too ↦ absurd (false≢true (sym parts.0 ∙ clash_commands x q command too))
      | inr other ↦ (grind arith)
    ])
    (none_after x rest r command parts.1)

one_command : (rings : List Ring) (r : ℕ) → may_stand_together rings ≡ true → list_any (λ q. is_command q && q.id == r) rings ≡ true → id_or_none (find is_command rings) ≡ r
one_command [] r apart some = absurd (false≢true some)
one_command (x ∷ rest) r apart some =
    let parts = and_parts (not (list_any (clash x) rest)) (may_stand_together rest) apart in
    elim (cases_Bool (is_command x)) [
      | inl command ↦
          let none = none_after x rest r command (not-true (list_any (clash x) rest) parts.0) in
          (grind (arith, eqb-true))
      | inr other ↦
          let later = one_command rest r parts.1 in
          (grind arith)
    ]

-- another ring is none
pub no_command_ring : (h : Header) → IsHeader h → (r : ℕ) → r ≢ command_id h → is_command_ring h r ≡ false
unfolding is_command_ring command_id command_ring
no_command_ring h is r other =
    elim (cases_Bool (list_any (λ q. is_command q && q.id == r) h.rings)) [
      | inl some ↦ absurd (other (sym (one_command h.rings r (together h is) some)))
      | inr none ↦ none
    ]
