-- What the rules test of a command that a write gives: its bindings and its moves may be made
use Rattle.safety.proofs.LowerLaws.{◌≡◌, ◌≤◌, ◌||◌, ◌+◌, ◌∙◌, ℕ, Bool, true, false, map, nat_le, All, Option, Some, suc, zero, arith, sym, ap, subst, get_or, eqb-true, le-leb, rules, range_with_len, or_parts, and_from, or_cases, or_left, or_right, not-false, All-nil, All-cons, All-filter, All-get_or, Any-from_list_any, floor_number, is_move, input_add_flag, added_endpoints, Command, named_slot, named_endpoint, named_context, Header, shape_of, is_ring, Known, Binding, binds, ring_bound, binds_ring, is_placed, is_taken, is_kept, is_being_bound, is_bad_place, has_repeats, is_bad_binding, is_bad_stay, holds_of, AreFree, has_bad_content, has_bad_context, is_bad_added, is_bad_command, names_disabled_endpoint, names_disabled_slot, each_fails, ring_is}

range_above : (least a n : ℕ) → least ≤ a → All (λ i. nat_le least i ≡ true) (range_with_len a n)
range_above least a zero low = All-nil (λ i. nat_le least i ≡ true)
range_above least a (suc n) low =
    All-cons (λ i. nat_le least i ≡ true) a (range_with_len (a + 1) n) (le-leb least a low) (range_above least (a + 1) n (omega arith))

-- what a context adds lies above the default control endpoint
pub added_above : (memory : ℕ → ℕ) (n : ℕ) → All (λ i. nat_le 2 i ≡ true) (added_endpoints memory n)
unfolding added_endpoints
added_above memory n = All-filter (input_add_flag memory n) (λ i. nat_le 2 i ≡ true) (range_with_len 2 30) (range_above 2 2 30 (omega arith))

module _ (h : Header) (k : Known) where
  pub record GoodBindings (c : Command) : Type 0 where
    pub free : All (λ b. is_taken h k c (ring_bound h b) ≡ false) (binds h k c)
    pub placed : All (λ b. is_placed h k (ring_bound h b) b ≡ true) (binds h k c)
    pub repeats : has_repeats (map (ring_bound h) (binds h k c)) ≡ false

  pub good_bindings : (c : Command) → is_bad_binding h k c ≡ false → GoodBindings c
  unfolding is_bad_binding is_bad_place
  good_bindings c good = search (rules, or_parts, map, each_fails, not-false)

  -- a ring that it binds is kept by no endpoint, and bound by no other command
  pub bound_free : (c : Command) → GoodBindings c → (r : ℕ) → binds_ring h k r c ≡ true → (is_kept h k c r ≡ false) × (is_being_bound h k r ≡ false)
  unfolding binds_ring is_taken
  bound_free c good r bound =
      let any = Any-from_list_any (λ b. is_ring r (ring_bound h b)) (binds h k c) bound in
      let b : Binding = any.1 in
      let free : is_taken h k c (ring_bound h b) ≡ false =
      subst (λ (x : Binding). is_taken h k c (ring_bound h x) ≡ false) any.3 (All-get_or (λ x. is_taken h k c (ring_bound h x) ≡ false) (binds h k c) any.0 b any.2 good.free) in
      let parts = or_parts (is_kept h k c r) (is_being_bound h k r) (ap (λ o. is_taken h k c o) (sym (ring_is r (ring_bound h b) any.4)) ∙ free) in
      (parts.0, parts.1)

  pub content_good : (c : Command) → is_bad_command h k c ≡ false → has_bad_content h k c ≡ false
  unfolding is_bad_command
  content_good c good =
      (or_parts (names_disabled_slot k (named_slot c) || names_disabled_endpoint k (named_endpoint c) || has_bad_context h k (named_context c))
      (has_bad_content h k c) good).1

  pub are_free : (c : Command) → has_bad_content h k c ≡ false → AreFree h k c
  unfolding has_bad_content is_bad_added
  are_free o good = grind (arith, false, each_fails, is_bad_added, added_endpoints, k.memory, nat_le, not-false, or_parts, or_cases, or_left, or_right, and_from, get_or, added_above)

  -- where the pointer stands
  pub stays : (b : Binding) (o : Option ℕ) (r : ℕ) → is_bad_stay h k o b ≡ false → o ≡ Some r →
      is_move (shape_of h r) (k.ring r) b.pointer b.cycle (floor_number (k.ring r)) (floor_number (k.ring r)) ≡ true
  unfolding is_bad_stay
  stays b o r good at = search (rules, or_parts, eqb-true, not-false)

  pub fails_of : (test : Command → Bool) (o : Option Command) (c : Command) → holds_of test o ≡ false → o ≡ Some c → test c ≡ false
  unfolding holds_of
  fails_of test o c none at = ap (holds_of test) (sym at) ∙ none
