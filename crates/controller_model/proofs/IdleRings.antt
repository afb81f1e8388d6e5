-- What CRCR does to command rings
use Rattle.controller_model.proofs.LowerLaws.{is_command_ring, fun_ext, arith, ◌≡◌, ◌==◌, ◌&&◌, ◌||◌, ◌<◌, ◌+◌, ◌∷◌, ◌∙◌, ℕ, [], Bool, true, false, not, List, Some, ap, length, get_or, take, list_any, inl, inr, cases_eq, cond-true, cond-false, eq-eqb, ne_eqb, put, is_command_kind, Header, Ring, World, command_id, command_placed, inactive, idle, pointed, and_true, any_more}

-- worlds that differ by what is active alone
with_active : (w : World) (f g : ℕ → Bool) → ((r : ℕ) → f r ≡ g r) → ◌≡◌ {A = World} (record w { is_active = f }) (record w { is_active = g })
with_active w f g same = (λ i. record w { is_active = fun_ext same i })

no_command : (a b c : Bool) → c ≡ false → (a && not (c && b || false)) ≡ a
no_command a b c e = grind (arith, and_true)

a_command : (f : ℕ → Bool) (n r : ℕ) (c : Bool) → c ≡ true → (f r && not (c && n == r || false)) ≡ put f n false r
a_command f n r c e = elim (cases_eq r n) [
  | inl same ↦ grind (arith, eq-eqb, cond-true)
  | inr apart ↦ grind (arith, ne_eqb, cond-false, and_true)
]

either_way : (a b c : Bool) → ((a && not b) && not (c || false)) ≡ (a && not (b || c))
either_way a b c = grind arith

pub idle_none : (w : World) → idle w [] ≡ w
idle_none w = with_active w _ w.is_active (λ r. and_true (w.is_active r))

pub idle_other : (w : World) (ring : Ring) → is_command_kind ring.shape.kind ≡ false → idle w (ring ∷ []) ≡ w
idle_other w ring e = with_active w _ w.is_active (λ r. no_command (w.is_active r) (ring.id == r) _ e)

pub idle_command : (w : World) (ring : Ring) → is_command_kind ring.shape.kind ≡ true → idle w (ring ∷ []) ≡ inactive w (Some ring.id)
unfolding inactive
idle_command w ring e = with_active w _ (put w.is_active ring.id false) (λ r. a_command w.is_active ring.id r _ e)

pub idle_more : (w : World) (rings : List Ring) (i : ℕ) (ring : Ring) → i < length rings → ring ≡ get_or rings i ring →
    idle (idle w (take i rings)) (ring ∷ []) ≡ idle w (take (i + 1) rings)
idle_more w rings i ring inside at = with_active w _ _ (λ r.
    let p : Ring → Bool = λ q. is_command_kind q.shape.kind && q.id == r in
    either_way (w.is_active r) (list_any p (take i rings)) (p ring)
    ∙ ap (λ b. w.is_active r && not b) (any_more p rings i ring _ _ inside at (λ j. list_any p (take i rings)) (λ j. p ring)))

pub placed_is : (h : Header) (w : World) (v : ℕ) → command_placed h w v ≡ pointed (idle w h.rings) (command_id h) v
unfolding command_placed is_command_ring
placed_is h w v = (λ i. command_placed h w v)
