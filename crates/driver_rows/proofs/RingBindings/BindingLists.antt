-- What a command binds, endpoint by endpoint
use Rattle.driver_rows.proofs.LowerLaws.{rules, ◌≡◌, ℕ, zero, suc, ◌+◌, ◌-◌, ◌<◌, ◌≤◌, ◌==◌, ◌&&◌, ◌||◌, if◌then◌else◌, Bool, true, false, List, [], ◌∷◌, Some, None, map, refl, ap, sym, ◌∙◌, arith, not, filter, cons_option, filter_map, list_any, range_with_len, option_map, nat_tests, has_flag, input_add_flag, added_endpoints, Command, AddressDevice, ConfigureEndpoint, is_off, Header, is_ring, Known, Binding, binding_in, binds, binds_again, binds_ring, has_repeats, is_among, is_bad_binding, is_bad_place, is_being_bound, is_taken, ring_bound, RingBinding, Bound, RingSet, HasBound, dequeue_in, are_bad, binding_at, binding_of, bindings_from, is_bad, is_in_set, is_misplaced, is_to, was_bound, has, unchanged, any_same, any_map, any_or, map_twice, or_none, or_true, crossed, or_assoc}

pub range_is : (i : ℕ) → i < 32 → range_with_len i (32 - i) ≡ i ∷ range_with_len (i + 1) (32 - (i + 1))
range_is i below = ap (λ n. range_with_len i n) (let e : 32 - i ≡ suc (32 - (i + 1)) = omega arith in e)

module _ (h : Header) (k : Known) where
  module _ (c : Command) where
    pub bindings_next : (i : ℕ) → i < 32 → bindings_from h k c i ≡ cons_option (binding_at h k c i) (bindings_from h k c (i + 1))
    unfolding bindings_from
    bindings_next i below = ap (λ xs. filter_map (binding_at h k c) xs) (range_is i below)

    pub bindings_end : (i : ℕ) → 32 ≤ i → bindings_from h k c i ≡ []
    unfolding bindings_from
    bindings_end i past = ap (λ n. filter_map (binding_at h k c) (range_with_len i n)) (let none : 32 - i ≡ 0 = omega (arith, past) in none)

    -- from one endpoint on that the command binds
    pub bindings_at : (i : ℕ) (b : RingBinding) → i < 32 → binding_at h k c i ≡ Some b → bindings_from h k c i ≡ b ∷ bindings_from h k c (i + 1)
    bindings_at i b below is = bindings_next i below ∙ ap (λ o. cons_option o (bindings_from h k c (i + 1))) is

    -- endpoints without a flag are left out
    pub bindings_skipped : (bound : Bound) → HasBound h k c bound → (i j : ℕ) → i ≤ j → ((s : ℕ) → i ≤ s → s < j → s < 32 → has_flag bound.flags s ≡ false) →
        bindings_from h k c i ≡ bindings_from h k c j
    bindings_skipped bound has i j low clear = unchanged (bindings_from h k c) i j low (λ s first last. grind (arith, bindings_next s, bindings_end s, bindings_end (s + 1), clear s first last, has.said s))

  abbrev pub with_ring : Binding → RingBinding
  with_ring b = record { ring = ring_bound h b; dequeue = record { pointer = b.pointer; cycle = b.cycle } }

  same_binding : (c i : ℕ) → binding_of h (dequeue_in h.context_size k.memory c i) ≡ with_ring (binding_in h k c i)
  unfolding ring_bound binding_in
  same_binding c i = refl

  addressed : (s c : ℕ) (bsr b : Bool) →
      filter_map (λ i. option_map (binding_of h) (if i == 1 && b then Some (dequeue_in h.context_size k.memory c 1) else None)) (range_with_len 1 31)
      ≡ map with_ring (if b then binding_in h k c 1 ∷ [] else [])
  addressed s c bsr true = ap (λ x. x ∷ []) (same_binding c 1)
  addressed s c bsr false = refl

  module _ (s c : ℕ) where
    added : (n i : ℕ) → 2 ≤ i → filter_map (binding_at h k (ConfigureEndpoint s false c)) (range_with_len i n)
        ≡ map with_ring (map (binding_in h k c) (filter (input_add_flag k.memory c) (range_with_len i n)))
    added zero i low = refl
    added (suc n) i low = search (rules, nat_tests, same_binding, added n (i + 1) (omega arith))

  -- all that a command binds
  pub bindings_all : (c : Command) → bindings_from h k c 1 ≡ map with_ring (binds h k c)
  unfolding bindings_from binds added_endpoints
  bindings_all (AddressDevice s bsr c) = addressed s c bsr (is_off (k.endpoint_state s 1))
  bindings_all (ConfigureEndpoint s false c) = added s c 30 2 (omega arith)
  bindings_all _ = refl

  -- a ring that a command binds
  pub binds_ring_is : (c : Command) (r : ℕ) → binds_ring h k r c ≡ list_any (is_to r) (bindings_from h k c 1)
  unfolding binds_ring
  binds_ring_is c r = sym (ap (list_any (is_to r)) (bindings_all c) ∙ any_map (is_to r) with_ring (binds h k c))

  -- other commands bind nothing
  pub binds_none : (c : Command) → ((s : ℕ) (bsr : Bool) (n : ℕ) → c ≡ AddressDevice s bsr n → ⊥) → ((s : ℕ) (dc : Bool) (n : ℕ) → c ≡ ConfigureEndpoint s dc n → ⊥) → binds h k c ≡ []
  unfolding binds
  binds_none c e f = search rules

  pub nothing_bad : (c : Command) → binds h k c ≡ [] → is_bad_binding h k c ≡ false
  unfolding is_bad_binding has_repeats
  nothing_bad c none = ap (λ bs. list_any (is_bad_place h k c) bs || has_repeats (map (ring_bound h) bs)) none

  -- with a set of the rings that unfinished commands bind
  module _ (taken : RingSet) (all : (r : ℕ) → has taken r ≡ is_being_bound h k r) where
    bad_place_is : (c : Command) (b : Binding) → is_bad (is_misplaced h k c) taken (with_ring b) ≡ is_bad_place h k c b
    unfolding is_bad_place is_taken
    bad_place_is c b = search (rules, crossed, or_assoc)

    pub bad_is : (c : Command) → are_bad (is_misplaced h k c) taken (bindings_from h k c 1) ≡ is_bad_binding h k c
    unfolding is_bad_binding
    bad_is c = search (rules, bindings_all, any_map, any_same, bad_place_is, map_twice)

  -- a ring that a command binds again
  pub again_is : (c : Command) → list_any (was_bound k) (bindings_from h k c 1) ≡ binds_again h k c
  unfolding binds_again
  again_is c = ap (list_any (was_bound k)) (bindings_all c) ∙ any_map (was_bound k) with_ring (binds h k c)

-- the ring of a binding is the one that has the block at its pointer
pub of_dequeue : (h : Header) (k : Known) (c : Command) (i : ℕ) (b : RingBinding) → binding_at h k c i ≡ Some b → b ≡ binding_of h b.dequeue
of_dequeue h k c i b e = search rules

-- ---- one binding more

-- its ring is noted
pub noted : (old new : RingSet) (r : ℕ) (b : RingBinding) (rest : List RingBinding) → has new r ≡ (is_to r b || has old r) →
    (has new r || list_any (is_to r) rest) ≡ (has old r || list_any (is_to r) (b ∷ rest))
noted old new r b rest is = ap (λ x. x || list_any (is_to r) rest) is ∙ or_assoc (is_to r b) (has old r) (list_any (is_to r) rest) ∙ crossed (is_to r b) (has old r) (list_any (is_to r) rest)

-- its ring is forgets
pub forgets : (old new : RingSet) (r : ℕ) (b : RingBinding) (rest : List RingBinding) → has new r ≡ (not (is_to r b) && has old r) →
    (has new r && not (list_any (is_to r) rest)) ≡ (has old r && not (list_any (is_to r) (b ∷ rest)))
forgets old new r b rest is = search rules

either_way : (m n : ℕ) → (m == n) ≡ (n == m)
either_way m n = grind (arith, nat_tests)

last : (e t n : Bool) → ((e || t) || n) ≡ ((t || n) || e)
last e t n = search (rules, or_true, or_none)

module _ (bad : RingBinding → Bool) (old new : RingSet) (r : ℕ) (inserted : (q : ℕ) → has new q ≡ (r == q || has old q)) where
  -- its ring is taken
  pub taken_next : (b : RingBinding) (rest : List RingBinding) → bad b ≡ false → b.ring ≡ Some r → has old r ≡ false →
      are_bad bad old (b ∷ rest) ≡ are_bad bad new rest
  unfolding has_repeats is_among
  taken_next b rest good ring free =
      ap (λ x. (x || list_any (is_bad bad old) rest) || (is_among (map (λ a. a.ring) rest) b.ring || has_repeats (map (λ a. a.ring) rest)))
      ((λ i. is_in_set old (ring i) || good i) ∙ or_none (has old r) ∙ free)
      ∙ ap (λ o. list_any (is_bad bad old) rest || (is_among (map (λ a. a.ring) rest) o || has_repeats (map (λ a. a.ring) rest))) ring
      ∙ ap (λ x. list_any (is_bad bad old) rest || (x || has_repeats (map (λ a. a.ring) rest))) (any_map (is_ring r) (λ a. a.ring) rest)
      ∙ sym (or_assoc (list_any (is_bad bad old) rest) (list_any (λ a. is_ring r a.ring) rest) (has_repeats (map (λ a. a.ring) rest)))
      ∙ ap (λ x. x || has_repeats (map (λ a. a.ring) rest))
      (sym (any_same (is_bad bad new) _ rest (λ a. search (rules, or_none, either_way, last)) ∙ any_or (is_bad bad old) (λ a. is_ring r a.ring) rest))

-- a bad one
pub bad_first : (bad : RingBinding → Bool) (taken : RingSet) (b : RingBinding) (rest : List RingBinding) → is_bad bad taken b ≡ true → are_bad bad taken (b ∷ rest) ≡ true
unfolding has_repeats
bad_first bad taken b rest is = ap (λ x. (x || list_any (is_bad bad taken) rest) || has_repeats (map (λ a. a.ring) (b ∷ rest))) is

-- where the ring doesn't stand still
pub or_last : (a b n : Bool) → n ≡ false → (a || (b || not n)) ≡ true
or_last a b n e = ap (λ x. a || (b || not x)) e ∙ ap (λ x. a || x) (or_true b) ∙ or_true a
