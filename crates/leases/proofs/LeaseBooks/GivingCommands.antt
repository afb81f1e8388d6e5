-- What is lent after any write: what it gives begins, with the input context of the command that it gives, and the entry and the device
-- context of a slot that takes one; nothing ends
use Rattle.leases.proofs.UpperLaws.{◌≡◌, ◌≢◌, ◌+◌, ◌<◌, ◌≤◌, ◌==◌, ◌&&◌, ◌||◌, if◌then◌else◌, ◌∷◌, ◌++◌, ◌∙◌, ℕ, Bool, true, false, not, List, [], filter, map, Option, Some, None, option_and_then, zero, suc, arith, sym, ap, refl, inl, inr, subst, eqb-true, eq-eqb, append-nil, flat_map, range_with_len, cases_Bool, false≢true, or_left, filter-append, place_count, RingView, due_positions, floor_number, gives, leased_crossings, leased_positions, positions_given, command_of, device_context_bytes, Header, Ring, Write, Erstba, command_id, driver_rings, shape_of, Known, learned, command_given, entry_of, taken_device, with_device, with_word, written, Leased, Block, Link, Range, Use, InputContext, SlotEntry, DeviceContext, context_ranges, device_ranges, entry_ranges, is_among, open_leases, open_on, open_ranges, range_of_command, range_of_device, range_of_entry, segment_ranges, slots, table_range, IsIn, among_is, from_filter, in_among, in_filter, in_turn, with_begun, Lent, grown, FreeWasGiven, AreOpen, rules, filter_all, HasUse, only, use_of_command, either_into, five_into, from_flat_map, from_range, in_flat_map, in_left, in_right, context_open, device_open, entry_open, range_open, none_new, only_begun, flat_alike, AreShaped, filter_flat_map, kept_on_rings, lease_given, new_on_rings}
use Rattle.leases.proofs.LeaseBooks.FreeRanges.{of_open}
use Rattle.ring_knowledge.specs.Rings as rings

-- ---- lists

-- of a list, those that newly pass a test bring something, and the others nothing
new_ones : {X : Type 0} (f g : ℕ → List X) (old t : ℕ → Bool) (xs : List ℕ) → ((p : ℕ) → IsIn p xs → old p ≡ true → g p ≡ []) → ((p : ℕ) → IsIn p xs → old p ≡ false → t p ≡ true → g p ≡ f p) →
    flat_map g (filter (λ p. old p || t p) xs) ≡ flat_map f (filter (λ p. not (old p) && t p) xs)
new_ones f g old t [] none same = refl
new_ones f g old t (x ∷ xs) none same = search (rules, new_ones f g old t xs (λ p at. none p (inr at)) (λ p at. same p (inr at)))

pub none_at : {X : Type 0} (f : ℕ → List X) (xs : List ℕ) → ((p : ℕ) → IsIn p xs → f p ≡ []) → flat_map f xs ≡ []
none_at f [] none = refl
none_at f (x ∷ xs) none = rw (none x (inl refl)) (none_at f xs (λ p at. none p (inr at)))

-- of a range of numbers one brings something
one_at : {X : Type 0} (f : ℕ → List X) (s from n : ℕ) → from ≤ s → s < from + n → ((t : ℕ) → IsIn t (range_with_len from n) → t ≢ s → f t ≡ []) → flat_map f (range_with_len from n) ≡ f s
one_at f s from zero low high none = absurd (omega arith)
one_at f s from (suc n) low high none = elim (cases_Bool (from == s)) [
  | inl here ↦
      let same : from ≡ s = eqb-true from s here in
      ap (λ ys. f from ++ ys) (none_at f (range_with_len (from + 1) n) (λ p at. let range = from_range (from + 1) n p at in none p (inr at) (λ e. omega (arith, e, same, range.0))))
      ∙ append-nil (f from) ∙ ap f same
  | inr differ ↦
      let other : from ≢ s = λ e. false≢true (sym differ ∙ eq-eqb from s e) in
      ap (λ ys. ys ++ flat_map f (range_with_len (from + 1) n)) (none from (inl refl) other)
      ∙ one_at f s (from + 1) n (omega (arith, other, low)) (omega (arith, high)) (λ t at apart. none t (inr at) apart)
]

unequal : (t s : ℕ) → t ≢ s → (t == s) ≡ false
unequal t s other = search (rules, eqb-true)

-- ---- what begins

-- the input contexts of the commands that a write gives
abbrev pub contexts_given : Header → Known → ℕ → ℕ → List Leased
contexts_given h k a w = flat_map (λ p. range_of_command h p (rings.command_at h k p)) (positions_given (shape_of h (command_id h)) (k.ring (command_id h)) a w)

-- the ranges of a slot that takes a device context
abbrev pub entry_taken : Known → Option (ℕ × ℕ) → List Leased
entry_taken k None = []
entry_taken k (Some e) = Range 8 (entry_of k e.0) (SlotEntry e.0) ∷ []

abbrev pub device_taken : Header → Option (ℕ × ℕ) → List Leased
device_taken h None = []
device_taken h (Some e) = Range (device_context_bytes h.context_size) e.1 (DeviceContext e.0) ∷ []

-- the slot had none, and is one of a controller
abbrev pub MayTake : Known → Option (ℕ × ℕ) → Type 0
MayTake k None = Unit {0}
MayTake k (Some e) = (k.device e.0 ≡ None) × (0 < e.0) × (e.0 < 256)

module _ (h : Header) (shaped : AreShaped h) (k : Known) (freed : FreeWasGiven h k) (a w : ℕ) (taken : Option (ℕ × ℕ)) (may : MayTake k taken) where
  abbrev after : Known
  after = with_device h (with_word h k a w) taken

  abbrev IsNew : Leased → Bool
  IsNew l = not (is_among (open_leases h k) l)

  abbrev commands : RingView
  commands = k.ring (command_id h)

  abbrev due : List ℕ
  due = range_with_len (floor_number commands) (place_count (shape_of h (command_id h)))

  ring_after : after.ring ≡ (with_word h k a w).ring
  unfolding with_device
  ring_after = search (rules, with_device, with_word)

  register_after : after.register ≡ k.register
  unfolding with_device with_word
  register_after = search (rules, with_device, with_word)

  -- ---- what was open

  abbrev IsOpen : Leased → Type 0
  IsOpen l = IsIn l (open_leases h k)

  in_first : (l : Leased) → IsIn l (segment_ranges h ++ table_range h (k.register Erstba)) → IsOpen l
  unfolding open_ranges
  in_first l at = range_open h k l (search (rules, in_left, in_right))

  old_fail : (ls : List Leased) → ((l : Leased) → IsIn l ls → IsOpen l) → filter IsNew ls ≡ []
  old_fail ls there = none_new (open_leases h k) ls (λ l at. in_among (open_leases h k) l (there l at))

  new_pass : (ls : List Leased) → ((l : Leased) → IsIn l ls → IsOpen l → ⊥) → filter IsNew ls ≡ ls
  new_pass ls absent = search (rules, filter_all, open_leases, among_is)

  -- ---- the rings

  on_after : (q : Ring) → open_on h after q ≡ open_on h (with_word h k a w) q
  unfolding open_on
  on_after q = ap (λ f. map (Block q.id) (leased_positions q.shape (f q.id)) ++ map (Link q.id) (leased_crossings q.shape (f q.id))) ring_after

  rings_after : flat_map (open_on h after) (driver_rings h) ≡ flat_map (open_on h (with_word h k a w)) (driver_rings h)
  rings_after = flat_alike (open_on h after) (open_on h (with_word h k a w)) (driver_rings h) (λ q at. on_after q)

  new_rings : filter IsNew (flat_map (open_on h after) (driver_rings h)) ≡ map lease_given (rings.given_by h k a w)
  new_rings = ap (filter IsNew) rings_after ∙ new_on_rings h shaped k freed a w

  -- ---- the input contexts

  abbrev context_at : ℕ → List Leased
  context_at p = range_of_command h p (rings.command_at h k p)

  abbrev is_given : ℕ → Bool
  is_given p = gives (shape_of h (command_id h)) commands.floor p a w

  contexts_after : context_ranges h after ≡ flat_map context_at (filter (λ p. commands.given p || is_given p) due)
  unfolding context_ranges rings.unfinished_positions rings.command_at due_positions with_word
  contexts_after = search (rules, range_of_command, command_of, shape_of, command_id, ring_after)

  contexts_before : context_ranges h k ≡ flat_map context_at (filter commands.given due)
  unfolding context_ranges rings.unfinished_positions due_positions
  contexts_before = refl

  context_was : (p : ℕ) → IsIn p due → commands.given p ≡ true → (l : Leased) → IsIn l (context_at p) → IsOpen l
  context_was p at given l there = context_open h k l (subst (IsIn l) (sym contexts_before) (in_flat_map context_at (filter commands.given due) p l (in_filter commands.given due p at given) there))

  -- what a range is for that isn't open
  abbrev IsUnused : Use → Type 0
  IsUnused (InputContext p) = commands.given p ≡ false
  IsUnused (SlotEntry s) = k.device s ≡ None
  IsUnused (DeviceContext s) = k.device s ≡ None
  IsUnused _ = ⊥

  unused_open : (u : Use) → IsUnused u → (l : Leased) → HasUse u l → IsOpen l → ⊥
  unfolding rings.unfinished_positions
  unused_open u unused l has there = search (rules, of_open h k (λ m. HasUse u m → ⊥), in_among, from_filter, false≢true)

  new_contexts : filter IsNew (context_ranges h after) ≡ contexts_given h k a w
  unfolding positions_given due_positions
  new_contexts =
      ap (filter IsNew) contexts_after
      ∙ filter_flat_map IsNew context_at (filter (λ p. commands.given p || is_given p) due)
      ∙ new_ones context_at (λ p. filter IsNew (context_at p)) commands.given is_given due
      (λ p at given. old_fail (context_at p) (context_was p at given))
      (λ p at absent new. new_pass (context_at p) (λ l there. unused_open (InputContext p) absent l (use_of_command h p (rings.command_at h k p) l there)))

  contexts_stay : (l : Leased) → IsIn l (context_ranges h k) → IsIn l (context_ranges h after)
  contexts_stay l at =
      let found = from_flat_map context_at (filter commands.given due) l (subst (IsIn l) contexts_before at) in
      let passed = from_filter commands.given due found.0 found.1 in
      search (rules, contexts_after, in_flat_map, in_filter, or_left)

  -- ---- the slots

  entry_was : (s : ℕ) → IsIn s slots → (l : Leased) → IsIn l (range_of_entry k s (k.device s)) → IsOpen l
  unfolding entry_ranges
  entry_was s at l there = entry_open h k l (in_flat_map (λ t. range_of_entry k t (k.device t)) slots s l at there)

  device_was : (s : ℕ) → IsIn s slots → (l : Leased) → IsIn l (range_of_device h s (k.device s)) → IsOpen l
  unfolding device_ranges
  device_was s at l there = device_open h k l (in_flat_map (λ t. range_of_device h t (k.device t)) slots s l at there)

  -- where each slot has ranges by its device, those that are new are those of the slot that takes one
  module _ (ranges : ℕ → Option ℕ → List Leased) (nothing : (s : ℕ) → ranges s None ≡ []) (was : (s : ℕ) → IsIn s slots → (l : Leased) → IsIn l (ranges s (k.device s)) → IsOpen l) where
    abbrev taken_by : Option (ℕ × ℕ) → List Leased
    taken_by None = []
    taken_by (Some e) = ranges e.0 (Some e.1)

    new_slots : ((s d : ℕ) → k.device s ≡ None → (l : Leased) → IsIn l (ranges s (Some d)) → IsOpen l → ⊥) →
        filter IsNew (flat_map (λ s. ranges s (after.device s)) slots) ≡ taken_by taken
    unfolding with_device with_word slots
    new_slots absent = by taken may
      where
        by : (o : Option (ℕ × ℕ)) → MayTake k o → filter IsNew (flat_map (λ s. ranges s ((with_device h (with_word h k a w) o).device s)) slots) ≡ taken_by o
        by None free = old_fail (flat_map (λ s. ranges s (k.device s)) slots) (λ l at. let found = from_flat_map (λ s. ranges s (k.device s)) slots l at in was found.0 found.1 l found.2)
        by (Some e) free = filter_flat_map IsNew (λ s. ranges s (if s == e.0 then Some e.1 else k.device s)) slots
            ∙ one_at (λ s. filter IsNew (ranges s (if s == e.0 then Some e.1 else k.device s))) e.0 1 255 (omega (arith, free.1)) (omega (arith, free.2))
            (λ t at other. rw (unequal t e.0 other) (old_fail (ranges t (k.device t)) (was t at)))
            ∙ rw (eq-eqb e.0 e.0 refl) (new_pass (ranges e.0 (Some e.1)) (absent e.0 e.1 free.0))

    slots_stay : (l : Leased) → IsIn l (flat_map (λ s. ranges s (k.device s)) slots) → IsIn l (flat_map (λ s. ranges s (after.device s)) slots)
    unfolding with_device with_word
    slots_stay l at = by taken may
      where
        by : (o : Option (ℕ × ℕ)) → MayTake k o → IsIn l (flat_map (λ s. ranges s ((with_device h (with_word h k a w) o).device s)) slots)
        by None free = at
        by (Some e) free =
            let found = from_flat_map (λ s. ranges s (k.device s)) slots l at in
            grind (arith, in_flat_map (λ s. ranges s (if s == e.0 then Some e.1 else k.device s)) slots found.0 l found.1, eqb-true, nothing found.0)

  nothing_device : (s : ℕ) → range_of_device h s None ≡ []
  unfolding range_of_device
  nothing_device s = refl

  nothing_entry : (s : ℕ) → range_of_entry k s None ≡ []
  unfolding range_of_entry
  nothing_entry s = refl

  entries_in : (l : Leased) → IsIn l (entry_ranges k) → IsIn l (flat_map (λ s. range_of_entry k s (after.device s)) slots)
  unfolding entry_ranges
  entries_in l here = slots_stay (range_of_entry k) nothing_entry entry_was l here

  entries_after : entry_ranges after ≡ flat_map (λ s. range_of_entry k s (after.device s)) slots
  unfolding entry_ranges range_of_entry entry_of
  entries_after = flat_alike (λ s. range_of_entry after s (after.device s)) (λ s. range_of_entry k s (after.device s)) slots (λ s at. grind (arith, register_after))

  new_entries : filter IsNew (entry_ranges after) ≡ entry_taken k taken
  unfolding range_of_entry
  new_entries = ap (filter IsNew) entries_after ∙ new_slots (range_of_entry k) nothing_entry entry_was (λ s d none l at. unused_open (SlotEntry s) none l (only _ l (SlotEntry s) refl at))
      ∙ grind arith

  new_devices : filter IsNew (device_ranges h after) ≡ device_taken h taken
  unfolding range_of_device device_ranges
  new_devices = new_slots (range_of_device h) nothing_device device_was (λ s d none l at. unused_open (DeviceContext s) none l (only _ l (DeviceContext s) refl at)) ∙ grind arith

  -- ---- all of them

  table_after : table_range h (after.register Erstba) ≡ table_range h (k.register Erstba)
  table_after = ap (λ f. table_range h (f Erstba)) register_after

  pub new_leases : filter IsNew (open_leases h after) ≡ map lease_given (rings.given_by h k a w) ++ (contexts_given h k a w ++ entry_taken k taken ++ device_taken h taken)
  unfolding open_leases open_ranges
  new_leases = search (rules, table_range, context_ranges, entry_ranges, device_ranges, table_after, old_fail, in_first, in_right, in_left, filter-append, open_on, driver_rings, new_rings, lease_given, new_contexts, new_entries, new_devices)

  pub all_kept : (l : Leased) → is_among (open_leases h k) l ≡ true → is_among (open_leases h after) l ≡ true
  unfolding open_leases open_ranges device_ranges
  all_kept l e =
      in_among (open_leases h after) l
      (either_into (IsIn l) (in_left l) (in_right l) l (flat_map (open_on h k) (driver_rings h)) (open_ranges h k) (flat_map (open_on h after) (driver_rings h)) (open_ranges h after)
      (search (rules, rings_after, kept_on_rings))
      (five_into (IsIn l) (in_left l) (in_right l) l (segment_ranges h) (table_range h (k.register Erstba)) (context_ranges h k) (entry_ranges k) (device_ranges h k) (segment_ranges h)
      (table_range h (after.register Erstba)) (context_ranges h after) (entry_ranges after) (device_ranges h after)
      (λ here. here) (search (rules, table_after)) (contexts_stay l) (search (rules, entries_after, entries_in)) (slots_stay (range_of_device h) nothing_device device_was l))
      (among_is (open_leases h k) l e))

-- ---- the law

pub lent_commands : (h : Header) → AreShaped h → (k : Known) (ts : List Lent) → AreOpen h k ts → FreeWasGiven h k → (a w n : ℕ) → (taken : Option (ℕ × ℕ)) →
    option_and_then (taken_device k) (command_given h k a w) ≡ taken → MayTake k taken →
    grown h k (Write a w) n ts ≡ with_begun n ts
    (in_turn (map lease_given (rings.given_by h k a w) ++ (contexts_given h k a w ++ entry_taken k taken ++ device_taken h taken)))
unfolding learned written
lent_commands h shaped k ts still freed a w n taken is may =
    let same : learned h k (Write a w) ≡ after h shaped k freed a w taken may = ap (λ o. with_device h (with_word h k a w) o) is in
    only_begun h k ts still (Write a w) n (in_turn (map lease_given (rings.given_by h k a w) ++ (contexts_given h k a w ++ entry_taken k taken ++ device_taken h taken)))
    (λ l e. subst (λ (x : Known). is_among (open_leases h x) l ≡ true) (sym same) (all_kept h shaped k freed a w taken may l e))
    (ap in_turn (ap (λ (x : Known). filter (λ l. not (is_among (open_leases h k) l)) (open_leases h x)) same ∙ new_leases h shaped k freed a w taken may))
