-- A command's success places the rings of several endpoints, one after the other
use Rattle.safety.proofs.MiddleLaws.{[], ◌≡◌, ◌≢◌, ◌<◌, ◌==◌, ◌&&◌, ◌∷◌, ◌∙◌, ℕ, Bool, false, List, map, All, Option, Some, refl, sym, ap, get_or, eq-eqb, ne_eqb, None, list_any, and_right, or_parts, cond-false, false≢true, All-head, All-tail, Command, Running, Change, Places, placed_by_context, context_pointer, context_cycle, Header, IsHeader, is_ring, World, Known, is_among, has_repeats, changed_by, each_fails, any_of_map, ReadyAt, BoundThere, ring_at, ready_next, placed_there, StatesMatch}
use Rattle.safety.proofs.Finishes.PlaceKeeps.{bind_keeps}
use Rattle.safety.proofs.Finishes.FinishGiven.{ListKeeps, nothing_keeps, change_then}

module _ (h : Header) (is : IsHeader h) (memory : ℕ → ℕ) (s a : ℕ) where
  -- the endpoint of index i has no ring
  abbrev pub HasNone : Known → ℕ → Type 0
  HasNone l i = l.ring_of s i ≡ None

  -- behind the binding of another one
  pub none_there : (l m : Known) (i j r : ℕ) → BoundThere h is l m s i r → j ≢ i → HasNone l j → HasNone m j
  none_there l m i j r x other none = ap (λ (f : ℕ → ℕ → Option ℕ). f s j) x.ring_of ∙ cond-false (s == s && j == i) (Some r) (l.ring_of s j) (and_right (s == s) (j == i) (ne_eqb j i other)) ∙ none

  module _ (c : Command) (above : 0 < s) (low : s < 256) where
    -- each in turn
    pub each_keeps : (indices : List ℕ) (l : Known) (u : World) → StatesMatch h l u → All (ReadyAt h is l memory s a) indices → All (HasNone l) indices → All (λ i. (0 < i) × (i < 32)) indices →
        has_repeats (map (ring_at h is memory a) indices) ≡ false → ListKeeps h c l u (map (placed_by_context h.context_size memory s a) indices)
    unfolding has_repeats is_among
    each_keeps [] l u m ready none numbered apart = nothing_keeps h c l u m
    each_keeps (i ∷ rest) l u m ready none numbered apart =
        let first : ReadyAt h is l memory s a i = All-head (ReadyAt h is l memory s a) i rest ready in
        let later : All (ReadyAt h is l memory s a) rest = All-tail (ReadyAt h is l memory s a) i rest ready in
        let index = All-head (λ i. (0 < i) × (i < 32)) i rest numbered in
        let p : ℕ = context_pointer h.context_size memory a i in
        let cycle : Bool = context_cycle h.context_size memory a i in
        let change : Change = Places s i p cycle Running in
        let n : Known = changed_by h c l change in
        let parts = or_parts (is_among (map (ring_at h is memory a) rest) (ring_at h is memory a i)) (has_repeats (map (ring_at h is memory a) rest)) apart in
        let missing : list_any (is_ring first.ring) (map (ring_at h is memory a) rest) ≡ false = sym (ap (is_among (map (ring_at h is memory a) rest)) first.named) ∙ parts.0 in
        let others : All (λ j. is_ring first.ring (ring_at h is memory a j) ≡ false) rest =
        each_fails (λ j. is_ring first.ring (ring_at h is memory a j)) rest (sym (any_of_map (is_ring first.ring) (ring_at h is memory a) rest) ∙ missing) in
        change_then h c l u change (map (placed_by_context h.context_size memory s a) rest)
        (λ v at. bind_keeps h is c l u v s i p cycle Running m (above, low, index.0, index.1) at (record { memory = memory; ready = first; none = All-head (HasNone l) i rest none }))
        (λ v at states. each_keeps rest n v states
        (λ y e inside. ready_next h is c l memory s a i first.ring (get_or rest y e) first.off first.named (later y e inside) (others y e inside))
        (λ y e inside.
        let j : ℕ = get_or rest y e in
        let other : j ≢ i = λ same. false≢true (sym (others y e inside) ∙ ap (is_ring first.ring) (ap (ring_at h is memory a) same ∙ first.named) ∙ eq-eqb first.ring first.ring refl) in
        none_there l n i j first.ring (placed_there h is c l s i p first.ring cycle first.off first.named) other (All-tail (HasNone l) i rest none y e inside))
        (All-tail (λ i. (0 < i) × (i < 32)) i rest numbered) parts.1)
