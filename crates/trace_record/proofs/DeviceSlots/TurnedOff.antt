-- Endpoints of one slot are disabled, one after another
use Rattle.trace_record.proofs.MiddleLaws.{rules, ◌≡◌, ◌+◌, ◌<◌, ◌==◌, ◌&&◌, ◌||◌, ◌∙◌, ℕ, Bool, false, ap, sym, arith, nat_lt, eq-eqb, ne_eqb, lt-ltb, le-ltb, Header, Known, disabled, Endpoint, DeviceRecord, turned_off, FollowsDevices, IsDisabled, endpoint_at, states_same, devices_same, bound_same}

-- of a slot, none
pub disabled_none : (d : DeviceRecord) (s : ℕ) (which : ℕ → Bool) → ((i : ℕ) → which i ≡ false) → IsDisabled d d s which
disabled_none d s which none = search (rules, turned_off, endpoint_at)

-- those of one test, and then those of another
pub disabled_twice : (old mid new : DeviceRecord) (s : ℕ) (p q r : ℕ → Bool) → IsDisabled old mid s p → IsDisabled mid new s q → ((i : ℕ) → (p i || q i) ≡ r i) →
    IsDisabled old new s r
disabled_twice old mid new s p q r first second both = search (rules, turned_off, endpoint_at)

pub disabled_all : (old new : DeviceRecord) (s : ℕ) (p r : ℕ → Bool) → IsDisabled old new s p → ((i : ℕ) → i < 32 → p i ≡ r i) → IsDisabled old new s r
disabled_all old new s p r done same = search (rules, turned_off, endpoint_at)

-- those below a number, and the one with it
pub one_more : (p : ℕ → Bool) (n i : ℕ) → (p i && nat_lt i n || p i && i == n) ≡ (p i && nat_lt i (n + 1))
one_more p n i = search (rules, nat_lt, lt-ltb, le-ltb, eq-eqb, ne_eqb)

pub none_below : (p : ℕ → Bool) (i : ℕ) → (p i && nat_lt i 0) ≡ false
none_below p i = search (rules, le-ltb i 0 (omega arith))

pub all_below : (p : ℕ → Bool) (n i : ℕ) → i < n → (p i && nat_lt i n) ≡ p i
all_below p n i below = search (rules, lt-ltb)

-- the record after it
module _ (h : Header) (k : Known) (s : ℕ) (which : ℕ → Bool) (old new : DeviceRecord) (f : FollowsDevices k old) (done : IsDisabled old new s which) where
  -- of a field that isn't changed
  same : {A : Type 0} (get : Endpoint → A) (g : ℕ → ℕ → A) → ((t j : ℕ) → g t j ≡ get (endpoint_at old.endpoints.items t j)) →
      ((b : Bool) (e : Endpoint) → get (turned_off b e) ≡ get e) → (t j : ℕ) → g t j ≡ get (endpoint_at new.endpoints.items t j)
  same get g from stays t j = from t j ∙ sym (ap get (done.endpoints t j) ∙ stays (t == s && which j) (endpoint_at old.endpoints.items t j))

  pub follows_disabled : FollowsDevices (disabled h k s which) new
  unfolding disabled
  follows_disabled = search (rules, states_same, devices_same, endpoint_at, same, bound_same, turned_off)
