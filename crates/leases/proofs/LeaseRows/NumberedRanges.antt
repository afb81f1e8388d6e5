-- The ranges of slots, and the input contexts of commands, end in the order of their numbers
use Rattle.leases.proofs.UpperLaws.{arith, not, ◌≡◌, ◌≢◌, ◌+◌, ◌<◌, ◌≤◌, ◌==◌, ◌||◌, ◌∙◌, ◌⊎◌, ℕ, Bool, true, false, List, [], Option, None, Some, map, nat_lt, refl, sym, ap, subst, inl, inr, eq-eqb, eqb-true, cases_Bool, cases_option, false≢true, nat_tests, or_false, slots, Header, Known, Leased, Range, DeviceContext, InputContext, SlotEntry, IsIn, is_among, among_is, in_among, open_leases, context_ranges, entry_ranges, device_ranges, range_of_command, range_of_context, range_of_device, range_of_entry, slot_ranges, named_context, Command, Lent, AllUnended, AreLent, ended_where, is_input_context, is_of_slot, IsInStep, none-some, same_Some, from_flat_map, from_range, in_either, in_flat_map, in_left, in_range, in_right, still_lent, all_twice, ended_alike, none_over, device_open, entry_open, IsOpen, none_of, open_context, open_slot, IsRestored, and_parts, is_handed_over, DriverKeeps, IsHeader, RingView, command_id, due_positions, floor_number, from_filter, in_filter, length, place_count, shape_of, declared_given, le-ltb, lt-ltb, context_open}
use Rattle.ring_knowledge.specs.Rings as rings

-- the number, if there is one, is below another
abbrev pub is_below : ℕ → Option ℕ → Bool
is_below n None = false
is_below n (Some m) = nat_lt m n

-- the slot of a range, and the position of the command that names it
abbrev pub slot_of : Leased → Option ℕ
slot_of (Range n a (SlotEntry s)) = Some s
slot_of (Range n a (DeviceContext s)) = Some s
slot_of _ = None

abbrev pub context_of : Leased → Option ℕ
context_of (Range n a (InputContext p)) = Some p
context_of _ = None

below_next : (m n : ℕ) → m ≢ n → nat_lt m n ≡ nat_lt m (n + 1)
below_next m n other = grind (arith, nat_tests, other)

-- those with numbers below n are over
abbrev pub below : (Leased → Option ℕ) → ℕ → List Lent → ℕ → List Lent
below key row ts n = map (ended_where (λ l. is_below n (key l)) row) ts

-- what is handed over was given, and where nothing is free nothing else was
pub handed_given : (v : RingView) (p : ℕ) → is_handed_over v p ≡ true → v.given p ≡ true
handed_given v p handed = (and_parts (v.given p) (not (v.free p)) handed).0

pub not_handed : (v : RingView) → IsRestored v → (p : ℕ) → is_handed_over v p ≡ false → v.given p ≡ false
not_handed v none p handed = grind (arith, none p)

module _ (key : Leased → Option ℕ) (now : List Leased) where
  -- of what is open these have the number n, and only these
  pub record IsNumbered (n : ℕ) (ls : List Leased) : Type 0 where
    pub found : (l : Leased) → IsOpen now l → key l ≡ Some n → IsIn l ls
    pub only : (l : Leased) → IsIn l ls → key l ≡ Some n

  not_among : (n : ℕ) (ls : List Leased) → IsNumbered n ls → (l : Leased) (o : Option ℕ) → key l ≡ o → o ≢ Some n → is_among ls l ≡ false
  not_among n ls numbered l o is other = elim (cases_Bool (is_among ls l)) [
    | inl among ↦ absurd (other (sym is ∙ numbered.only l (among_is ls l among)))
    | inr apart ↦ apart
  ]

  next_of : (n : ℕ) (ls : List Leased) → IsNumbered n ls → (l : Leased) → IsOpen now l → (o : Option ℕ) → key l ≡ o → (is_below n o || is_among ls l) ≡ is_below (n + 1) o
  next_of n ls numbered l open_now None is = not_among n ls numbered l None is (λ same. none-some n same)
  next_of n ls numbered l open_now (Some m) is = elim (cases_Bool (m == n)) [
    | inl same ↦
        let here : m ≡ n = eqb-true m n same in
        ap (λ b. nat_lt m n || b) (in_among ls l (numbered.found l open_now (is ∙ ap (λ x. Some x) here))) ∙ or_true (nat_lt m n) ∙ sym (lt-ltb m (m + 1) (omega arith)) ∙ ap (λ x. nat_lt m (x + 1)) here
    | inr apart ↦
        let other : m ≢ n = λ here. false≢true (sym apart ∙ eq-eqb m n here) in
        ap (λ b. nat_lt m n || b) (not_among n ls numbered l (Some m) is (λ same. other (same_Some m n same))) ∙ or_false (nat_lt m n) ∙ below_next m n other
  ]
    where
      or_true : (b : Bool) → (b || true) ≡ true
      or_true b = grind arith

  next_below : (n : ℕ) (ls : List Leased) → IsNumbered n ls → (l : Leased) → IsOpen now l → (is_below n (key l) || is_among ls l) ≡ is_below (n + 1) (key l)
  next_below n ls numbered l open_now = next_of n ls numbered l open_now (key l) refl

  module _ (row : ℕ) (ts : List Lent) (opened : AllUnended (λ i l. IsOpen now l) 0 ts) where
    pub next_ended : (n : ℕ) (ls : List Leased) → IsNumbered n ls → map (ended_where (is_among ls) row) (below key row ts n) ≡ below key row ts (n + 1)
    next_ended n ls numbered =
        all_twice (is_among ls) (λ l. is_below n (key l)) row ts
        ∙ ended_alike (λ i l. IsOpen now l) (λ l. is_below n (key l) || is_among ls l) (λ l. is_below (n + 1) (key l)) row 0 ts (λ i l open_now. next_below n ls numbered l open_now) opened

    pub none_next : (n : ℕ) → IsNumbered n [] → below key row ts n ≡ below key row ts (n + 1)
    none_next n numbered =
        ended_alike (λ i l. IsOpen now l) (λ l. is_below n (key l)) (λ l. is_below (n + 1) (key l)) row 0 ts
        (λ i l open_now. sym (or_false (is_below n (key l))) ∙ ap (λ b. is_below n (key l) || b) (sym (none_of l)) ∙ next_below n [] numbered l open_now) opened

    pub none_below : (n : ℕ) → ((l : Leased) → IsOpen now l → is_below n (key l) ≡ false) → below key row ts n ≡ ts
    none_below n none =
        ended_alike (λ i l. IsOpen now l) (λ l. is_below n (key l)) (λ l. false) row 0 ts (λ i l open_now. none l open_now) opened ∙ none_over (λ l. false) row ts (λ l. refl)

    pub all_below : (n : ℕ) (test : Leased → Bool) → ((l : Leased) → IsOpen now l → is_below n (key l) ≡ test l) → below key row ts n ≡ map (ended_where test row) ts
    all_below n test same = ended_alike (λ i l. IsOpen now l) (λ l. is_below n (key l)) test row 0 ts (λ i l open_now. same l open_now) opened

    -- the next are still lent
    pub still_there : (n : ℕ) (ls : List Leased) → IsNumbered n ls → AreLent ts ls → AreLent (below key row ts n) ls
    still_there n ls numbered lent l at = still_lent (λ m. is_below n (key m)) row ts l (ap (is_below n) (numbered.only l at) ∙ le-ltb n n (omega arith)) (lent l at)

-- ---- the ranges of slots

module _ (h : Header) (k : Known) where
  abbrev open_now : List Leased
  open_now = open_leases h k

  entry_slot : (s : ℕ) (d : Option ℕ) (l : Leased) → IsIn l (range_of_entry k s d) → slot_of l ≡ Some s
  unfolding range_of_entry
  entry_slot s None l at = absurd at
  entry_slot s (Some d) l at = elim at [ inl here ↦ ap slot_of here | inr none ↦ absurd none ]

  device_slot : (s : ℕ) (d : Option ℕ) (l : Leased) → IsIn l (range_of_device h s d) → slot_of l ≡ Some s
  unfolding range_of_device
  device_slot s None l at = absurd at
  device_slot s (Some d) l at = elim at [ inl here ↦ ap slot_of here | inr none ↦ absurd none ]

  slot_only : (s : ℕ) (l : Leased) → IsIn l (slot_ranges h k (Some s)) → slot_of l ≡ Some s
  slot_only s l at = elim (in_either l (range_of_entry k s (k.device s)) (range_of_device h s (k.device s)) at) [
    | inl here ↦ entry_slot s (k.device s) l here
    | inr there ↦ device_slot s (k.device s) l there
  ]

  entry_there : (s : ℕ) (l : Leased) → 1 ≤ s → s < 256 → IsIn l (range_of_entry k s (k.device s)) → IsIn l (entry_ranges k)
  unfolding entry_ranges slots
  entry_there s l low high at = in_flat_map (λ t. range_of_entry k t (k.device t)) slots s l (in_range 1 255 s low (omega (arith, high))) at

  device_there : (s : ℕ) (l : Leased) → 1 ≤ s → s < 256 → IsIn l (range_of_device h s (k.device s)) → IsIn l (device_ranges h k)
  unfolding device_ranges slots
  device_there s l low high at = in_flat_map (λ t. range_of_device h t (k.device t)) slots s l (in_range 1 255 s low (omega (arith, high))) at

  -- what is open of a slot
  record OfSlot (l : Leased) (s : ℕ) : Type 0 where
    pub low : 1 ≤ s
    pub high : s < 256
    pub at : IsIn l (slot_ranges h k (Some s))

  no_slot : (l : Leased) (s : ℕ) → is_of_slot l ≡ false → slot_of l ≡ Some s → ⊥
  no_slot l s none some = grind (arith, none-some)

  of_entries : (l : Leased) (s : ℕ) → IsIn l (entry_ranges k) → slot_of l ≡ Some s → OfSlot l s
  unfolding entry_ranges slots
  of_entries l s at some =
      let found = from_flat_map (λ t. range_of_entry k t (k.device t)) slots l at in
      let here : found.0 ≡ s = same_Some found.0 s (sym (entry_slot found.0 (k.device found.0) l found.2) ∙ some) in
      let range = from_range 1 255 found.0 found.1 in
      record {
        low = omega (arith, here, range.0);
        high = omega (arith, here, range.1);
        at = subst (λ (t : ℕ). IsIn l (slot_ranges h k (Some t))) here (in_left l (range_of_entry k found.0 (k.device found.0)) (range_of_device h found.0 (k.device found.0)) found.2);
      }

  of_devices : (l : Leased) (s : ℕ) → IsIn l (device_ranges h k) → slot_of l ≡ Some s → OfSlot l s
  unfolding device_ranges slots
  of_devices l s at some =
      let found = from_flat_map (λ t. range_of_device h t (k.device t)) slots l at in
      let here : found.0 ≡ s = same_Some found.0 s (sym (device_slot found.0 (k.device found.0) l found.2) ∙ some) in
      let range = from_range 1 255 found.0 found.1 in
      record {
        low = omega (arith, here, range.0);
        high = omega (arith, here, range.1);
        at = subst (λ (t : ℕ). IsIn l (slot_ranges h k (Some t))) here (in_right l (range_of_entry k found.0 (k.device found.0)) (range_of_device h found.0 (k.device found.0)) found.2);
      }

  slot_found : (l : Leased) (s : ℕ) → IsOpen open_now l → slot_of l ≡ Some s → OfSlot l s
  slot_found l s is_open some = elim (cases_Bool (is_of_slot l)) [
    | inl of ↦ elim (open_slot h k l (among_is open_now l is_open) of) [ inl here ↦ of_entries l s here some | inr here ↦ of_devices l s here some ]
    | inr none ↦ absurd (no_slot l s none some)
  ]

  pub slots_numbered : (s : ℕ) → IsNumbered slot_of open_now s (slot_ranges h k (Some s))
  slots_numbered s = record { found = λ l is_open some. (slot_found l s is_open some).at; only = slot_only s }

  pub slots_lent : (ts : List Lent) → IsInStep h k ts → (s : ℕ) → 1 ≤ s → s < 256 → AreLent ts (slot_ranges h k (Some s))
  slots_lent ts step s low high l at = step.lent l (in_among open_now l (by (in_either l (range_of_entry k s (k.device s)) (range_of_device h s (k.device s)) at)))
    where
      by : (IsIn l (range_of_entry k s (k.device s))) ⊎ (IsIn l (range_of_device h s (k.device s))) → IsIn l open_now
      by (inl here) = entry_open h k l (entry_there s l low high here)
      by (inr here) = device_open h k l (device_there s l low high here)

  none_at_first : (o : Option ℕ) → ((s : ℕ) → o ≡ Some s → 1 ≤ s) → is_below 1 o ≡ false
  none_at_first None some = refl
  none_at_first (Some s) some = le-ltb s 1 (some s refl)

  pub no_slot_yet : (l : Leased) → IsOpen open_now l → is_below 1 (slot_of l) ≡ false
  no_slot_yet l is_open = none_at_first (slot_of l) (λ s some. (slot_found l s is_open some).low)

  pub all_slots : (l : Leased) → IsOpen open_now l → is_below 256 (slot_of l) ≡ is_of_slot l
  all_slots l is_open = elim (cases_option (slot_of l)) [
    | inl none ↦ ap (is_below 256) none ∙ sym (not_slot l none)
    | inr some ↦ ap (is_below 256) some.1 ∙ lt-ltb some.0 256 (slot_found l some.0 is_open some.1).high ∙ sym (a_slot l some.0 some.1)
  ]
    where
      not_slot : (m : Leased) → slot_of m ≡ None → is_of_slot m ≡ false
      not_slot m none = grind (arith, none-some)

      a_slot : (m : Leased) (s : ℕ) → slot_of m ≡ Some s → is_of_slot m ≡ true
      a_slot m s some = grind (arith, none-some)

  -- ---- the input contexts of unfinished commands

  abbrev commands : RingView
  commands = k.ring (command_id h)

  named_at : (p : ℕ) (a : Option ℕ) (l : Leased) → IsIn l (range_of_context h p a) → context_of l ≡ Some p
  unfolding range_of_context
  named_at p None l at = absurd at
  named_at p (Some a) l at = elim at [ inl here ↦ ap context_of here | inr none ↦ absurd none ]

  context_only : (p : ℕ) (c : Option Command) (l : Leased) → IsIn l (range_of_command h p c) → context_of l ≡ Some p
  unfolding range_of_command
  context_only p None l at = absurd at
  context_only p (Some c) l at = named_at p (named_context c) l at

  -- what is open of a command
  record OfCommand (l : Leased) (p : ℕ) : Type 0 where
    pub unfinished : IsIn p (rings.unfinished_positions h k)
    pub at : IsIn l (range_of_command h p (rings.command_at h k p))

  no_context : (l : Leased) (p : ℕ) → is_input_context l ≡ false → context_of l ≡ Some p → ⊥
  no_context l p none some = grind (arith, none-some)

  of_contexts : (l : Leased) (p : ℕ) → IsIn l (context_ranges h k) → context_of l ≡ Some p → OfCommand l p
  unfolding context_ranges
  of_contexts l p at some =
      let found = from_flat_map (λ q. range_of_command h q (rings.command_at h k q)) (rings.unfinished_positions h k) l at in
      let here : found.0 ≡ p = same_Some found.0 p (sym (context_only found.0 (rings.command_at h k found.0) l found.2) ∙ some) in
      record {
        unfinished = subst (λ (q : ℕ). IsIn q (rings.unfinished_positions h k)) here found.1;
        at = subst (λ (q : ℕ). IsIn l (range_of_command h q (rings.command_at h k q))) here found.2;
      }

  context_found : (l : Leased) (p : ℕ) → IsOpen open_now l → context_of l ≡ Some p → OfCommand l p
  context_found l p is_open some = elim (cases_Bool (is_input_context l)) [
    | inl of ↦ of_contexts l p (open_context h k l (among_is open_now l is_open) of) some
    | inr none ↦ absurd (no_context l p none some)
  ]

  pub contexts_numbered : (p : ℕ) → IsNumbered context_of open_now p (range_of_command h p (rings.command_at h k p))
  contexts_numbered p = record { found = λ l is_open some. (context_found l p is_open some).at; only = context_only p (rings.command_at h k p) }

  given_if : (p : ℕ) → IsIn p (rings.unfinished_positions h k) → (floor_number commands ≤ p) × (commands.given p ≡ true)
  unfolding rings.unfinished_positions due_positions
  given_if p at =
      let found = from_filter commands.given (due_positions (shape_of h (command_id h)) commands) p at in
      ((from_range (floor_number commands) (place_count (shape_of h (command_id h))) p found.0).0, found.1)

  -- of one that isn't given none is open
  pub none_numbered : (p : ℕ) → commands.given p ≡ false → IsNumbered context_of open_now p []
  none_numbered p none = record {
    found = λ l is_open some. absurd (false≢true (sym none ∙ (given_if p (context_found l p is_open some).unfinished).1));
    only = λ l at. absurd at;
  }

  pub due_unfinished : (p : ℕ) → floor_number commands ≤ p → p < floor_number commands + place_count (shape_of h (command_id h)) → commands.given p ≡ true → IsIn p (rings.unfinished_positions h k)
  unfolding rings.unfinished_positions due_positions
  due_unfinished p low high given = in_filter commands.given (due_positions (shape_of h (command_id h)) commands) p (in_range (floor_number commands) (place_count (shape_of h (command_id h))) p low high) given

  pub contexts_lent : (ts : List Lent) → AreLent ts (context_ranges h k) → (p : ℕ) → IsIn p (rings.unfinished_positions h k) → AreLent ts (range_of_command h p (rings.command_at h k p))
  unfolding context_ranges
  contexts_lent ts lent p at l of = lent l (in_flat_map (λ q. range_of_command h q (rings.command_at h k q)) (rings.unfinished_positions h k) p l at of)

  pub no_context_yet : (l : Leased) → IsOpen open_now l → is_below (floor_number commands) (context_of l) ≡ false
  no_context_yet l is_open = elim (cases_option (context_of l)) [
    | inl none ↦ ap (is_below (floor_number commands)) none
    | inr some ↦ ap (is_below (floor_number commands)) some.1 ∙ le-ltb some.0 (floor_number commands) (given_if some.0 (context_found l some.0 is_open some.1).unfinished).0
  ]

  pub all_contexts : IsHeader h → DriverKeeps h k → (n : ℕ) → length commands.queue ≤ n → (l : Leased) → IsOpen open_now l → is_below n (context_of l) ≡ is_input_context l
  all_contexts headed d n most l is_open = elim (cases_option (context_of l)) [
    | inl none ↦ ap (is_below n) none ∙ sym (not_context l none)
    | inr some ↦ ap (is_below n) some.1 ∙ lt-ltb some.0 n (omega (arith, declared_given h headed k d some.0 (context_found l some.0 is_open some.1).unfinished, most)) ∙ sym (a_context l some.0 some.1)
  ]
    where
      not_context : (m : Leased) → context_of m ≡ None → is_input_context m ≡ false
      not_context m none = grind (arith, none-some)

      a_context : (m : Leased) (p : ℕ) → context_of m ≡ Some p → is_input_context m ≡ true
      a_context m p some = grind (arith, none-some)

  -- the input contexts of unfinished commands are lent
  pub contexts_in_step : (ts : List Lent) → IsInStep h k ts → AreLent ts (context_ranges h k)
  contexts_in_step ts step l at = step.lent l (in_among open_now l (context_open h k l at))
