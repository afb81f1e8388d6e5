-- The leases of ranges that a completion lets go end, one after another
use Rattle.leases.proofs.MiddleLaws.{arith, ◌≡◌, ◌∷◌, ◌++◌, ◌∙◌, ◌||◌, ◌==◌, ℕ, List, [], Bool, true, false, None, Some, Option, refl, ap, sym, subst, inl, map, device_context_bytes, Command, DisableSlot, SetTrDequeue, position, RingKind, Spot, target, floor_number, Ring, IsHeader, is_driver_kind, is_transfer_kind, ring_with, shape_of, none_here, not_found, ring_found, IsAmong, EndpointRings, Header, Known, entry_of, Leased, Range, DeviceContext, SlotEntry, is_among, range_of_command, range_of_device, range_of_entry, same_leased, IsIn, both_ways, leased_is, leased_itself, RangeIndexes, Lent, ended_where, is_passed, slot_disabled, slot_left, slot_ranges, FindsRanges, is_lent, and_false, or_false, HoldsAll, AreLent, MovesOn, is_behind, is_moved_past, moved_by, moved_on, moved_ring, moved_when, slot_let_go, rules, all_twice, none_over, over_alike, some_end, slot_apart, still_lent}

turned : (l m : Leased) → same_leased l m ≡ same_leased m l
turned l m = search (rules, both_ways, same_leased, leased_is, leased_itself)

pub one_of : (l m : Leased) → same_leased l m ≡ is_among (l ∷ []) m
unfolding is_among
one_of l m = turned l m ∙ sym (or_false (same_leased m l))

two_of : (a b m : Leased) → (same_leased a m || same_leased b m) ≡ is_among (a ∷ b ∷ []) m
unfolding is_among
two_of a b m = ap (λ x. x || same_leased b m) (turned a m) ∙ ap (λ x. same_leased m a || x) (turned b m ∙ sym (or_false (same_leased m b)))

pub none_of : (m : Leased) → is_among [] m ≡ false
unfolding is_among
none_of m = refl

module _ {B : Type 0} {Holds : Header → List Lent → B → Type 0} (h : Header) (n : ℕ) (ts : List Lent) (book : B) (x : RangeIndexes) where
  pub none_ended : (ls : List Leased) → ls ≡ [] → HoldsAll Holds h ts book x → HoldsAll Holds h (map (ended_where (is_among ls) n) ts) book x
  none_ended ls none all = subst (λ us. HoldsAll Holds h us book x) (sym (ap (λ ms. map (ended_where (is_among ms) n) ts) none ∙ none_over (is_among []) n ts none_of)) all

  pub one_ended : (ls : List Leased) (l : Leased) → ls ≡ l ∷ [] → HoldsAll Holds h (map (ended_where (same_leased l) n) ts) book x → HoldsAll Holds h (map (ended_where (is_among ls) n) ts) book x
  one_ended ls l one all = subst (λ us. HoldsAll Holds h us book x) (over_alike (same_leased l) (is_among (l ∷ [])) n ts (one_of l) ∙ ap (λ ms. map (ended_where (is_among ms) n) ts) (sym one)) all

  pub two_ended : (ls : List Leased) (a b : Leased) → ls ≡ a ∷ b ∷ [] → HoldsAll Holds h (map (ended_where (same_leased b) n) (map (ended_where (same_leased a) n) ts)) book x →
      HoldsAll Holds h (map (ended_where (is_among ls) n) ts) book x
  two_ended ls a b two all = subst (λ us. HoldsAll Holds h us book x) (all_twice (same_leased b) (same_leased a) n ts
      ∙ rw two (over_alike (λ l. same_leased a l || same_leased b l) (is_among (a ∷ b ∷ [])) n ts (two_of a b))) all

-- with a lease that ends the indexes still find the others
pub ends_all : {B : Type 0} (Holds : Header → List Lent → B → Type 0) (h : Header) (n : ℕ) (ts : List Lent) (book : B) (x : RangeIndexes) (over : Leased → Bool) → Holds h (map (ended_where over n) ts) book →
    FindsRanges h ts x → HoldsAll Holds h (map (ended_where over n) ts) book x
ends_all Holds h n ts book x over held found = record { held = held; found = some_end h x over n ts found }

pub lent_of : (ts : List Lent) (ls : List Leased) (l : Leased) (rest : List Leased) → ls ≡ l ∷ rest → AreLent ts ls → is_lent ts l ≡ true
lent_of ts ls l rest is lent = lent l (subst (λ ms. IsIn l ms) (sym is) (inl refl))

-- the entry's lease ends, and the device context is still lent
pub device_lent : (n : ℕ) (ts : List Lent) (ls : List Leased) (a e s m d z : ℕ) → ls ≡ Range a e (SlotEntry s) ∷ Range m d (DeviceContext z) ∷ [] → AreLent ts ls →
    is_lent (map (ended_where (same_leased (Range a e (SlotEntry s))) n) ts) (Range m d (DeviceContext z)) ≡ true
device_lent n ts ls a e s m d z is lent = search (rules, still_lent, and_false)

-- ---- the slot that a command disables

pub disables_none : (c : Command) → ((s : ℕ) → c ≡ DisableSlot s → ⊥) → slot_disabled c ≡ None
disables_none c other = grind arith

pub leaves_none : (h : Header) (k : Known) (c : Command) → slot_disabled c ≡ None → slot_let_go h k c ≡ []
leaves_none h k c none = ap (slot_ranges h k) none

pub leaves_empty : (h : Header) (k : Known) (s : ℕ) → k.device s ≡ None → slot_ranges h k (Some s) ≡ []
unfolding range_of_entry range_of_device
leaves_empty h k s none = ap (λ o. range_of_entry k s o ++ range_of_device h s o) none

pub leaves_two : (h : Header) (k : Known) (s d entry bytes : ℕ) → k.device s ≡ Some d → entry ≡ entry_of k s → bytes ≡ device_context_bytes h.context_size →
    slot_ranges h k (Some s) ≡ Range 8 entry (SlotEntry s) ∷ Range bytes d (DeviceContext s) ∷ []
unfolding range_of_entry range_of_device
leaves_two h k s d entry bytes some at same = search (rules, range_of_entry, range_of_device, device_context_bytes)

-- ---- the ring that a command moves

pub moves_none : (h : Header) (k : Known) (c : Command) → ((s i p : ℕ) (cycle : Bool) → c ≡ SetTrDequeue s i p cycle → ⊥) → moved_by h k c ≡ None
moves_none h k c other = grind arith

pub moved_is : (h : Header) (k : Known) (c : Command) (s i p : ℕ) (cycle : Bool) (r : ℕ) (o : Option Spot) → c ≡ SetTrDequeue s i p cycle → k.ring_of s i ≡ Some r → target (shape_of h r) (k.ring r) p cycle ≡ o →
    moved_by h k c ≡ moved_on r o
moved_is h k c s i p cycle r o is of at = ap (moved_by h k) is ∙ ap (λ x. moved_ring h k x p cycle) of ∙ ap (moved_on r) at

pub moved_none : (h : Header) (k : Known) (c : Command) (s i p : ℕ) (cycle : Bool) → c ≡ SetTrDequeue s i p cycle → k.ring_of s i ≡ None → moved_by h k c ≡ None
moved_none h k c s i p cycle is none = ap (moved_by h k) is ∙ ap (λ x. moved_ring h k x p cycle) none

module _ {B : Type 0} {Holds : Header → List Lent → B → Type 0} (h : Header) (k : Known) (n : ℕ) (ts : List Lent) (book : B) (x : RangeIndexes) where
  pub none_past : (o : Option (ℕ × ℕ)) → o ≡ None → HoldsAll Holds h ts book x → HoldsAll Holds h (map (ended_where (is_moved_past k o) n) ts) book x
  none_past o none all = subst (λ us. HoldsAll Holds h us book x) (sym (ap (λ m. map (ended_where (is_moved_past k m) n) ts) none ∙ none_over (is_moved_past k None) n ts (λ l. refl))) all

  pub some_past : (o : Option (ℕ × ℕ)) (r from to m : ℕ) → o ≡ Some (r, m) → from ≡ floor_number (k.ring r) → to ≡ m → HoldsAll Holds h (map (ended_where (is_passed r from to) n) ts) book x →
      HoldsAll Holds h (map (ended_where (is_moved_past k o) n) ts) book x
  some_past o r from to m some same reached all = search rules

-- the ring of an endpoint is one of the driver's
pub transfer_drives : (kind : RingKind) → is_transfer_kind kind ≡ true → is_driver_kind kind ≡ true
transfer_drives kind e = grind arith

pub endpoint_named : (h : Header) (k : Known) → EndpointRings h k → (s i r : ℕ) → k.ring_of s i ≡ Some r → position (λ (q : Ring). q.id == r) h.rings ≡ None → ⊥
endpoint_named h k rings s i r at none = grind (arith, ring_with, not_found, none_here, rings s i r at, not_found (λ q. q.id == r) h.rings (none_here h (λ q. q.id == r) h.rings none refl))

pub endpoint_driven : (h : Header) → IsHeader h → (k : Known) → EndpointRings h k → (s i r : ℕ) (q : Ring) → k.ring_of s i ≡ Some r → IsAmong q h.rings → q.id ≡ r → is_driver_kind q.shape.kind ≡ true
endpoint_driven h headed k rings s i r q at among id = search (rules, ring_with, ring_found, transfer_drives, is_transfer_kind)

-- ---- all that a command leaves behind

module _ {B : Type 0} {Holds : Header → List Lent → B → Type 0} where
  pub failed_behind : (h : Header) (k : Known) (n p : ℕ) (c : Command) (success : Bool) (ts : List Lent) (book : B) (x : RangeIndexes) → success ≡ false →
      HoldsAll Holds h (map (ended_where (is_among (range_of_command h p (Some c))) n) ts) book x → HoldsAll Holds h (map (ended_where (is_behind h k p success (Some c)) n) ts) book x
  failed_behind h k n p c success ts book x failed all = grind (arith, over_alike, range_of_command, or_false, none_of)

module _ {B : Type 0} {Holds : Header → List Lent → B → Type 0} where
  pub succeeded_behind : (h : Header) (k : Known) (n p : ℕ) (c : Command) (success : Bool) (ts : List Lent) (book : B) (x : RangeIndexes) → success ≡ true →
      HoldsAll Holds h (map (ended_where (is_moved_past k (moved_by h k c)) n) (map (ended_where (is_among (slot_let_go h k c)) n) (map (ended_where (is_among (range_of_command h p (Some c))) n) ts))) book x →
      HoldsAll Holds h (map (ended_where (is_behind h k p success (Some c)) n) ts) book x
  succeeded_behind h k n p c false ts book x succeeded all = absurd (cc)
  succeeded_behind h k n p c true ts book x succeeded all = search (rules, all_twice, range_of_command)

-- when the input context's lease has ended those of the slot are still lent
pub slot_still : (h : Header) (k : Known) (n p : ℕ) (c : Command) (success : Bool) (ts : List Lent) → success ≡ true → AreLent ts (slot_ranges h k (slot_left success (Some c))) →
    AreLent (map (ended_where (is_among (range_of_command h p (Some c))) n) ts) (slot_let_go h k c)
slot_still h k n p c success ts succeeded lent l at = grind (arith, still_lent, range_of_command, slot_apart)

pub moves_when : (h : Header) (k : Known) (c : Command) (success : Bool) → success ≡ true → MovesOn k (moved_when h k success (Some c)) → MovesOn k (moved_by h k c)
moves_when h k c success is on = grind arith
