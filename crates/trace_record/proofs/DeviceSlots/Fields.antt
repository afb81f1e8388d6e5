-- One field of what is kept, where one slot or one endpoint is kept anew
use Rattle.trace_record.proofs.BaseWords.{rules, ◌≡◌, ℕ, eq-eqb, ne_eqb, cond-true, cond-false, put, put_pair, Slot, Endpoint, DeviceRecord, IsWithSlot, IsWithEndpoint, slot_at, endpoint_at}

-- of endpoints: g is what is known, f that the old record follows it
module _ {A : Type 0} (get : Endpoint → A) (old new : DeviceRecord) (s i : ℕ) (x : Endpoint) (w : IsWithEndpoint old new s i x)
    (g : ℕ → ℕ → A) (f : (t j : ℕ) → g t j ≡ get (endpoint_at old.endpoints.items t j)) where
  -- it changes
  pub endpoint_put : (v : A) → v ≡ get x → (t j : ℕ) → put_pair g s i v t j ≡ get (endpoint_at new.endpoints.items t j)
  endpoint_put v is t j = search (rules, endpoint_at)

  -- it stays
  pub endpoint_kept : get (endpoint_at old.endpoints.items s i) ≡ get x → (t j : ℕ) → g t j ≡ get (endpoint_at new.endpoints.items t j)
  endpoint_kept same t j = search (rules, cond-false, endpoint_at, ne_eqb, cond-true, eq-eqb)

-- of slots
module _ {A : Type 0} (get : Slot → A) (old new : DeviceRecord) (s : ℕ) (x : Slot) (w : IsWithSlot old new s x)
    (g : ℕ → A) (f : (t : ℕ) → g t ≡ get (slot_at old.slots.items t)) where
  pub slot_put : (v : A) → v ≡ get x → (t : ℕ) → put g s v t ≡ get (slot_at new.slots.items t)
  slot_put v is t = search (rules, slot_at)

  pub slot_kept : get (slot_at old.slots.items s) ≡ get x → (t : ℕ) → g t ≡ get (slot_at new.slots.items t)
  slot_kept same t = search (rules, cond-false, slot_at, ne_eqb, cond-true, eq-eqb)
