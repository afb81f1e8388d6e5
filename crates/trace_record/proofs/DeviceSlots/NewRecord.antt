-- Before the first row
use Rattle.trace_record.proofs.BaseWords.{◌≡◌, ◌+◌, ◌*◌, ◌∙◌, ℕ, zero, suc, List, false, ap, sym, refl, replicate, slice_index_or, nothing, Header, Known, DeviceRecord, FollowsDevices, fresh_slot, fresh_endpoint, slot_at, endpoint_at, rules}
use Rattle.ring_knowledge.specs.Resets.{reset}

pub alike : {X : Type 0} (n i : ℕ) (x : X) → slice_index_or (replicate n x) i x ≡ x
alike zero i x = refl
alike (suc n) zero x = refl
alike (suc n) (suc i) x = alike n i x

-- a list that was filled
pub filled : {X : Type 0} (n len : ℕ) (x y : X) (xs : List X) → xs ≡ replicate len x → len ≡ n → x ≡ y → xs ≡ replicate n y
filled n len x y xs is many same = is ∙ ap (λ m. replicate m x) many ∙ ap (replicate n) same

module _ (d : DeviceRecord) (slots : d.slots.items ≡ replicate 256 fresh_slot) (endpoints : d.endpoints.items ≡ replicate (256 * 32) fresh_endpoint)
    (bound : d.bound.items ≡ replicate 256 false) where
  no_slot : (s : ℕ) → fresh_slot ≡ slot_at d.slots.items s
  no_slot s = sym (ap (λ xs. slot_at xs s) slots ∙ alike 256 s fresh_slot)

  no_endpoint : (s i : ℕ) → fresh_endpoint ≡ endpoint_at d.endpoints.items s i
  no_endpoint s i = rw (endpoints, alike (256 * 32) (s * 32 + i) fresh_endpoint) (search rules)

  pub follows_nothing : FollowsDevices nothing d
  unfolding nothing
  follows_nothing = search (rules, no_slot, no_endpoint, λ (r : ℕ). ap (λ xs. slice_index_or xs r false) bound ∙ alike 256 r false)

-- and behind a reset
module _ (h : Header) (k : Known) (old new : DeviceRecord) (f : FollowsDevices k old) (slots : new.slots.items ≡ replicate 256 fresh_slot)
    (endpoints : new.endpoints.items ≡ replicate (256 * 32) fresh_endpoint) (bound : new.bound.items ≡ old.bound.items) where
  slot_gone : (s : ℕ) → fresh_slot ≡ slot_at new.slots.items s
  slot_gone s = sym (ap (λ xs. slot_at xs s) slots ∙ alike 256 s fresh_slot)

  endpoint_gone : (s i : ℕ) → fresh_endpoint ≡ endpoint_at new.endpoints.items s i
  endpoint_gone s i = rw (endpoints, alike (256 * 32) (s * 32 + i) fresh_endpoint) (search rules)

  pub follows_reset : FollowsDevices (reset h k) new
  unfolding reset
  follows_reset = search (rules, slot_gone, endpoint_gone, λ (r : ℕ). f.was_bound r ∙ sym (ap (λ xs. slice_index_or xs r false) bound))
