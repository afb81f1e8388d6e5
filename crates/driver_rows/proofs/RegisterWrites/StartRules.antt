-- What values of registers break
use Rattle.driver_rows.proofs.Words.{rules, ◌≡◌, ℕ, ◌<◌, ◌*◌, length, [], ◌∷◌, Bool, true, false, None, refl, ◌&&◌, ◌||◌, not, is_some, list_any, Header, Shape, Crcr, Dcbaap, Config, Erstsz, Erstba, Erdp, run_bit, reset_bit, Known, is_late_reset, is_early_start, is_wrong_start, is_written, is_unwritten, is_bad_table, is_bad_area, is_table_fault, IsHeader, event_ring, event_shape, shape_facts, find_some, shape_allowed, Wrong, IsSetUp, same_number}

abbrev either : (reset run begun lacks wrong : Bool) → Bool
either reset run begun lacks wrong = reset && begun || run && not reset && lacks || run && not reset && wrong

module _ (h : Header) (k : Known) (v : ℕ) where
  abbrev pub Begun : Bool
  Begun = list_any (is_written k) (Crcr ∷ Dcbaap ∷ Config ∷ Erstsz ∷ Erstba ∷ Erdp ∷ [])

  abbrev pub Lacks : Bool
  Lacks = list_any (is_unwritten k) (Crcr ∷ Erstsz ∷ Erstba ∷ Erdp ∷ [])

  -- of a controller that wasn't started
  abbrev pub BadStart : Bool
  BadStart = is_late_reset k v || is_early_start k v || is_wrong_start h k v

  start_is : BadStart ≡ either (reset_bit v) (run_bit v) Begun Lacks (Wrong h k)
  unfolding is_late_reset is_early_start is_wrong_start
  start_is = refl

  pub at_reset : (b : Bool) → reset_bit v ≡ true → b ≡ Begun → b ≡ BadStart
  at_reset b resets is = search (rules, start_is)

  pub at_start : (b : Bool) → reset_bit v ≡ false → b ≡ (run_bit v && (Lacks || Wrong h k)) → b ≡ BadStart
  at_start b keeps is = search (rules, start_is)

-- where the segment table may not lie
module _ (h : Header) (k : Known) (base : ℕ) where
  pub table_is : (m : ℕ → ℕ) → ((a : ℕ) → k.memory a ≡ m a) → (s : Shape) → s ≡ event_shape h → (n : ℕ) → n ≡ length s.segments →
      (is_bad_area h k base (16 * n) || is_table_fault m base n s) ≡ is_bad_table h k base
  unfolding is_bad_table is_bad_area
  table_is m same s is n size = search (rules, same_number)

-- without an event ring ERSTSZ isn't written
pub no_events_unwritten : {X : Type 0} (h : Header) (k : Known) → IsSetUp h k → is_unwritten k Erstsz ≡ false → event_ring h ≡ None → X
unfolding is_unwritten
no_events_unwritten h k s written none = search rules

-- an event ring has few segments
pub few_segments : (h : Header) → IsHeader h → (s : Shape) → s ≡ event_shape h → is_some (event_ring h) ≡ true → length s.segments < 65536
unfolding event_shape event_ring
few_segments h headed s is here = search (rules, find_some, shape_facts, shape_allowed)
