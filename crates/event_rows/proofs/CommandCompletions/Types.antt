-- Endpoints of one slot get their types, one after another
use Rattle.event_rows.proofs.Words.{rules, ◌≡◌, ◌≤◌, ◌<◌, ◌+◌, ◌==◌, ◌&&◌, ℕ, Bool, true, false, nat_lt, nat_le, Header, Known, typed, DeviceRecord, FollowsDevices, eq-eqb, ne_eqb, lt-ltb, le-ltb, one_more, ContextSize, has_isochronous, is_isochronous, endpoint_type, input_endpoint}

-- by the flags that are known
pub types_as : (k : Known) (d : DeviceRecord) (f g : ℕ → ℕ → Bool) → FollowsDevices (record k { isochronous = f }) d → ((t i : ℕ) → f t i ≡ g t i) →
    FollowsDevices (record k { isochronous = g }) d
types_as k d f g follows same = search rules

module _ (h : Header) (k : Known) (s : ℕ) (which isochronous : ℕ → Bool) (d : DeviceRecord) where
  -- of none of them
  pub typed_none : (none : ℕ → Bool) → ((i : ℕ) → none i ≡ false) → FollowsDevices k d → FollowsDevices (typed h k s none isochronous) d
  unfolding typed
  typed_none none is f = search (rules, types_as)

  -- of one more
  pub typed_next : (n : ℕ) → FollowsDevices (typed h (typed h k s (λ i. which i && nat_lt i n) isochronous) s (λ i. which i && i == n) isochronous) d →
      FollowsDevices (typed h k s (λ i. which i && nat_lt i (n + 1)) isochronous) d
  unfolding typed
  typed_next n f = search (rules, types_as, one_more)

  -- of the one that is named
  pub typed_one : (n : ℕ) (its : Bool) → which n ≡ true → isochronous n ≡ its → FollowsDevices (typed h k s (λ i. i == n) (λ i. its)) d →
      FollowsDevices (typed h k s (λ i. which i && i == n) isochronous) d
  unfolding typed
  typed_one n its named is f = search (rules, types_as)

  -- of all, as there are 32
  pub typed_all : ((i : ℕ) → 32 ≤ i → isochronous i ≡ false) → FollowsDevices (typed h k s (λ i. which i && nat_lt i 32) isochronous) d →
      FollowsDevices (typed h k s which isochronous) d
  unfolding typed
  typed_all none f = search (rules, types_as)

-- the context of no index above 31 says anything
pub no_endpoint_above : (size : ContextSize) (memory : ℕ → ℕ) (a i : ℕ) → 32 ≤ i → has_isochronous size memory a i ≡ false
no_endpoint_above size memory a i above = search (rules, le-ltb)

-- that of one below does
pub its_type : (size : ContextSize) (memory : ℕ → ℕ) (a i : ℕ) → i < 32 → has_isochronous size memory a i ≡ (nat_le 2 i && is_isochronous (endpoint_type memory (input_endpoint size a i)))
its_type size memory a i below = search (rules, lt-ltb)

-- one that isn't added
pub none_of : (which : ℕ → Bool) (n : ℕ) → which n ≡ false → (i : ℕ) → (which i && i == n) ≡ false
none_of which n is i = search (rules, eq-eqb, ne_eqb)
