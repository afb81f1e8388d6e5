-- What is lent after the completion of a command
use Rattle.leases.proofs.UpperLaws.{◌≡◌, ◌≢◌, ◌+◌, ◌∙◌, ◌&&◌, ◌||◌, ◌==◌, ℕ, List, Bool, true, false, None, Some, Option, refl, ap, sym, arith, subst, map, nat_le, nat_lt, eqb-true, eq-eqb, position, false≢true, CommandCompletion, code, kind, is_command_completion, Command, Shape, RingView, due_positions, floor_number, due_is, number-after, Ring, Header, Read, IsHeader, command_id, driver_rings, is_command_kind, shape_of, Known, completed, event_read, learned, Leased, Range, Use, context_ranges, device_ranges, entry_ranges, is_among, open_leases, range_of_command, range_of_device, range_of_entry, slots, IsIn, in_among, in_filter, DriverKeeps, EventFacts, event_facts, floors_grow, completion_facts, next_at_floor, command_is_ring, SameDriver, event_same, Lent, ended_where, is_passed, let_go, slot_left, slot_ranges, is_lent, RangeIndexes, command_found, no_command_ring, shape_there, any_append, false_unless, or_false, IsAmong, same_number, TraceRecord, EndpointRings, HoldsAll, AreLent, FloorsMove, MovesOn, IsOtherRing, is_behind, is_moved_past, moved_when, IsNextRow, grown, is_some, command_ring, command_id_is, rules, completed_device, finish_lent, Finishes, gone_are_ranges, in_either, in_flat_map, in_range, context_open, device_open, entry_open, floors, is_left, none_between, IsWithinLap, Moves, all_twice, none_over, over_alike, no_ring, named_if_taken, none-some}
use Rattle.leases.proofs.LeaseRows.TransferRows.{lap_now}
use Rattle.trb.specs.declared.block.Block as blocks
use Rattle.ring_knowledge.specs.Rings as rings

-- ---- numbers that are passed on two rings

abbrev moved_number : (ℕ → ℕ) → Option (ℕ × ℕ) → ℕ → ℕ → Bool
moved_number from None q p = false
moved_number from (Some e) q p = e.0 == q && nat_le (from e.0) p && nat_lt p e.1

abbrev Arrives : ℕ → (ℕ → ℕ) → Option (ℕ × ℕ) → Type 0
Arrives c to None = Unit {0}
Arrives c to (Some e) = (e.0 ≢ c) × (to e.0 ≡ e.1)

module _ (from to : ℕ → ℕ) (c : ℕ) (one : to c ≡ from c + 1) where
  passes : (m : Option (ℕ × ℕ)) → Arrives c to m → ((q : ℕ) → q ≢ c → IsOtherRing q m → to q ≡ from q) → (q p : ℕ) →
      (nat_le (from q) p && nat_lt p (to q)) ≡ (moved_number from m q p || (c == q && nat_le (from c) p && nat_lt p (from c + 1)))
  passes None there others q p = search (rules, eqb-true, none_between, false≢true, eq-eqb)
  passes (Some e) there others q p = search (rules, eqb-true, false_unless, or_false, none_between, false≢true, eq-eqb)

module _ (h : Header) (headed : IsHeader h) (k : Known) (ts : List Lent) (b : blocks.Block) (number_ : ℕ) (t : TraceRecord) (m : ℕ → ℕ) (next : IsNextRow h k ts (Read b) t m) (completes : kind b ≡ CommandCompletion) where
  abbrev k' : Known
  k' = learned h k (Read b)

  keeps : DriverKeeps h k
  keeps = next.keeps

  facts : EventFacts h k b
  facts = event_facts h k b next.clean

  -- the header has a command ring
  not_without : command_ring h ≡ None → ⊥
  not_without none =
      let below = (completion_facts h k b (ap is_command_completion completes) facts.possible).below in
      let ring = command_is_ring h k keeps (named_if_taken h k keeps facts.started below) in
      none-some ring.ring (sym (no_ring h headed none) ∙ ring.found)

  pub has_commands : is_some (command_ring h) ≡ true
  has_commands = search (rules, command_ring, not_without)

  pub some_commands : position (λ (r : Ring). is_command_kind r.shape.kind) h.rings ≡ None → ⊥
  some_commands none = not_without (no_command_ring h none)

  pub endpoint_rings : EndpointRings h k
  endpoint_rings s i r at = let ring = keeps.states.transfer s i r at in (ring.ring, ring.found, ring.kind)

  abbrev n : ℕ
  n = rings.next_command h k

  abbrev o : Option Command
  o = rings.command_at h k n

  abbrev success : Bool
  success = code b == 1

  same : SameDriver k (event_read h k (kind b) b)
  same = event_same h k (kind b) b

  read_is : event_read h k (kind b) b ≡ completed h k b
  unfolding event_read
  read_is = ap (λ x. event_read h k x b) completes

  after_is : (k'.ring ≡ (event_read h k (kind b) b).ring) × (k'.register ≡ (event_read h k (kind b) b).register) × (k'.device ≡ (event_read h k (kind b) b).device)
  unfolding learned
  after_is = (refl, refl, refl)

  completed_floor : floor_number ((completed h k b).ring (command_id h)) ≡ n + 1
  unfolding completed rings.on_ring
  completed_floor = rw (same_number (command_id h)) (number-after (shape_of h (command_id h)) n)

  next_is : n ≡ floor_number (k.ring (command_id h))
  unfolding rings.next_command
  next_is = refl

  floor_after : floor_number (k'.ring (command_id h)) ≡ floor_number (k.ring (command_id h)) + 1
  floor_after = search (rules, command_id, after_is, read_is, completed_floor, next_is)

  module _ (moves : FloorsMove h k b) (q : Ring) (among : IsAmong q h.rings) (command : is_command_kind q.shape.kind ≡ true) (drives : IsIn q (driver_rings h)) where
    pub id : command_id h ≡ q.id
    id = command_id_is h q (command_found h headed q among command)

    pub shape_is : shape_of h (command_id h) ≡ q.shape
    shape_is = ap (shape_of h) id ∙ shape_there h headed q among

    pub next_here : n ≡ floor_number (k.ring q.id)
    next_here = next_is ∙ ap (λ (i : ℕ). floor_number (k.ring i)) id

    finishes : Finishes h k k' (slot_left success o)
    finishes = search (rules, RingView, command_id, after_is, same, floor_after, Known, read_is, completed_device, Shape, IsWithinLap, shape_is, id, lap_now, keeps)

    each : (r : Ring) → IsIn r (driver_rings h) → Moves r.shape (k.ring r.id) (k'.ring r.id) (floors k' r.id)
    each r at = search (rules, RingView, id, after_is, same, floors_grow, keeps, lap_now)

    abbrev moved : Option (ℕ × ℕ)
    moved = moved_when h k success o

    past_range : (x : Option (ℕ × ℕ)) (a c : ℕ) (u : Use) → is_moved_past k x (Range a c u) ≡ false
    past_range x a c u = search rules

    gone_is : (l : Leased) → (is_among (range_of_command h n o) l || is_among (slot_ranges h k (slot_left success o)) l) ≡ is_among (let_go h k (slot_left success o)) l
    unfolding is_among
    gone_is l = sym (any_append _ (range_of_command h n o) (slot_ranges h k (slot_left success o)))

    abbrev passed_one : Leased → Bool
    passed_one l = is_passed (command_id h) (floors k (command_id h)) (floors k (command_id h) + 1) l

    numbers : (r p : ℕ) → (nat_le (floors k r) p && nat_lt p (floors k' r)) ≡ (moved_number (floors k) moved r p || (command_id h == r && nat_le (floors k (command_id h)) p && nat_lt p (floors k (command_id h) + 1)))
    numbers r p = passes (floors k) (floors k') (command_id h) floor_after moved (search rules) moves.others r p

    left_is : (l : Leased) → (is_behind h k n success o l || passed_one l) ≡ is_left (floors k) (floors k') (let_go h k (slot_left success o)) l
    left_is (Range a c u) = search (rules, or_false, past_range, gone_is)
    left_is _ = search (rules, or_false, range_of_command, past_range, gone_is, false_unless, gone_are_ranges, numbers)

    completed_lent : grown h k (Read b) number_ ts ≡ map (ended_where (λ l. is_behind h k n success o l || passed_one l) number_) ts
    completed_lent = search (rules, finish_lent h k ts next.step.opened (Read b) number_ (slot_left success o) finishes each, over_alike, left_is)

    module _ {B : Type 0} {Holds : Header → List Lent → B → Type 0} where
      pub completion_ends : (book : B) (x : RangeIndexes) (p r : ℕ) (s : Bool) (c : Option Command) → p ≡ n → r ≡ command_id h → s ≡ success → c ≡ o →
          HoldsAll Holds h (map (ended_where (is_passed r p (p + 1)) number_) (map (ended_where (is_behind h k p s c) number_) ts)) book x → HoldsAll Holds h (grown h k (Read b) number_ ts) book x
      completion_ends book x p r s c at there tells says all =
          subst (λ us. HoldsAll Holds h us book x)
          (ap (λ (y : ℕ). map (ended_where (is_passed r y (y + 1)) number_) (map (ended_where (is_behind h k y s c) number_) ts)) at
          ∙ ap (λ (y : ℕ). map (ended_where (is_passed y n (n + 1)) number_) (map (ended_where (is_behind h k n s c) number_) ts)) there
          ∙ ap (λ y. map (ended_where (is_passed (command_id h) n (n + 1)) number_) (map (ended_where (is_behind h k n y c) number_) ts)) tells
          ∙ ap (λ y. map (ended_where (is_passed (command_id h) n (n + 1)) number_) (map (ended_where (is_behind h k n success y) number_) ts)) says
          ∙ ap (λ (y : ℕ). map (ended_where (is_passed (command_id h) y (y + 1)) number_) (map (ended_where (is_behind h k n success o) number_) ts)) next_is
          ∙ all_twice passed_one (is_behind h k n success o) number_ ts
          ∙ sym completed_lent) all

  -- ---- what is let go is lent

  open_lent : (l : Leased) → IsIn l (open_leases h k) → is_lent ts l ≡ true
  open_lent l at = next.step.lent l (in_among (open_leases h k) l at)

  pub context_lent : AreLent ts (range_of_command h n o)
  unfolding context_ranges rings.unfinished_positions due_positions rings.next_command
  context_lent l at =
      let floor = next_at_floor h headed k keeps facts.started (completion_facts h k b (ap is_command_completion completes) facts.possible).below in
      let due = due_is (shape_of h (command_id h)) (k.ring (command_id h)).floor (floor_number (k.ring (command_id h))) floor.due in
      search (rules, open_lent, context_open, in_flat_map, in_filter, in_range)

  slot_in : (s d : ℕ) → k.device s ≡ Some d → IsIn s slots
  unfolding slots
  slot_in s d at = search (rules, in_range, keeps.devices s d at)

  entry_lent : (s : ℕ) (x : Option ℕ) (l : Leased) → k.device s ≡ x → IsIn l (range_of_entry k s x) → is_lent ts l ≡ true
  unfolding entry_ranges range_of_entry
  entry_lent s x l is at = grind (arith, open_lent l, entry_open h k l, in_flat_map (λ z. range_of_entry k z (k.device z)) slots s l, slot_in s)

  device_lent : (s : ℕ) (x : Option ℕ) (l : Leased) → k.device s ≡ x → IsIn l (range_of_device h s x) → is_lent ts l ≡ true
  unfolding device_ranges range_of_device
  device_lent s x l is at = grind (arith, open_lent l, device_open h k l, in_flat_map (λ z. range_of_device h z (k.device z)) slots s l, slot_in s)

  pub slot_lent : (left : Option ℕ) → AreLent ts (slot_ranges h k left)
  slot_lent None l at = absurd at
  slot_lent (Some s) l at = search (rules, in_either, range_of_entry, range_of_device, entry_lent, device_lent)

  -- so the command's may end
  pub command_behind : FloorsMove h k b → (p : ℕ) (s : Bool) (c : Option Command) → p ≡ n → s ≡ success → c ≡ o →
      MovesOn k (moved_when h k s c) × AreLent ts (range_of_command h p c) × AreLent ts (slot_ranges h k (slot_left s c))
  command_behind moves p s c at tells says = (rw (tells, says) moves.on, rw (at, says) context_lent, slot_lent (slot_left s c))

  -- where no command is declared nothing is left behind
  pub none_behind : (p : ℕ) (s : Bool) (us : List Lent) → map (ended_where (is_behind h k p s None) number_) us ≡ us
  unfolding range_of_command is_among
  none_behind p s us = none_over (is_behind h k p s None) number_ us (λ l. refl)
