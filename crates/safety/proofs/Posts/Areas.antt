-- Where an unfinished command's input context lies: in no ring, and clean
use Rattle.safety.proofs.Words.{◌≡◌, ◌+◌, ◌*◌, ◌/◌, ◌<◌, ◌≤◌, ◌∙◌, ℕ, true, false, nat_lt, Some, arith, sym, ap, lt-ltb, leb-true, ltb-true, rules, none_each, false_from_ne_true, false≢true, or_parts, and_parts, and_from, Shape, is_inside, Command, named_context, input_context_bytes, Header, Ring, touches_ring, Known, is_bad_area, is_soiled, is_bad_command, has_bad_context, IsIn, any_of, some_of, IsUnfinished, DriverKeeps, touches}
use Rattle.safety.proofs.StepsLeave.Stored.{IsInNoContext}

-- a clean area has no soiled word
pub clean_word : (k : Known) (from len i : ℕ) → is_soiled k from len ≡ false → i < len / 4 → k.soiled (from + 4 * i) ≡ false
unfolding is_soiled
clean_word k from len i none l = none_each (λ i. k.soiled (from + 4 * i)) 0 (len / 4) none i (omega arith) (omega arith)

-- a byte inside a ring's segments is in no area that touches none
pub byte_apart : (shape : Shape) (from len x : ℕ) → touches shape from len ≡ false → is_inside shape x ≡ true → from ≤ x → x < from + len → ⊥
byte_apart shape from len x none inside low high = search (rules, lt-ltb, some_of, and_parts, leb-true, ltb-true, false≢true, and_from, any_of, nat_lt)

-- a part of an area that touches no segment touches none
pub part_apart : (shape : Shape) (from len a n : ℕ) → touches shape from len ≡ false → from ≤ a → a + n ≤ from + len → touches shape a n ≡ false
part_apart shape from len a n apart low high = search (rules, false_from_ne_true, and_parts, nat_lt, ltb-true, some_of, false≢true, and_from, lt-ltb, any_of)

pub ring_untouched : (h : Header) (from len : ℕ) → touches_ring h from len ≡ false → (r : Ring) → IsIn r h.rings → touches r.shape from len ≡ false
unfolding touches_ring
ring_untouched h from len none r at = false_from_ne_true (touches r.shape from len) (λ t. false≢true (sym none ∙ any_of (λ r. touches r.shape from len) h.rings r at t))

-- the input context of a command that may be given
pub record ContextLies (h : Header) (k : Known) (n : ℕ) : Type 0 where
  pub rings : touches_ring h n (input_context_bytes h.context_size) ≡ false
  pub clean : is_soiled k n (input_context_bytes h.context_size) ≡ false

pub bad_context_parts : (h : Header) (k : Known) (n : ℕ) → has_bad_context h k (Some n) ≡ false → ContextLies h k n
unfolding has_bad_context is_bad_area
bad_context_parts h k n none = search (rules, or_parts)

pub bad_command_context : (h : Header) (k : Known) (c : Command) → is_bad_command h k c ≡ false → has_bad_context h k (named_context c) ≡ false
unfolding is_bad_command
bad_command_context h k c none = search (rules, or_parts)

pub context_lies : (h : Header) (k : Known) (d : DriverKeeps h k) (p n : ℕ) (c : Command) → IsUnfinished h k p c → named_context c ≡ Some n → ContextLies h k n
context_lies h k d p n c u is =
    bad_context_parts h k n (ap (λ o. has_bad_context h k o) (sym is) ∙ bad_command_context h k c (d.unfinished p c u).good)

-- a soiled word is in no input context
pub soiled_in_no_context : (h : Header) (k : Known) (d : DriverKeeps h k) (a : ℕ) → k.soiled a ≡ true → IsInNoContext h k a
soiled_in_no_context h k d a soiled p n i c u is l same =
    false≢true (sym (clean_word k n (input_context_bytes h.context_size) i (context_lies h k d p n c u is).clean l) ∙ ap k.soiled same ∙ soiled)
