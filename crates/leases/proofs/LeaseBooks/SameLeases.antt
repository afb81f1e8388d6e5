-- Rows that neither begin nor end a lease: doorbells, declarations, most registers, and those that are read
use Rattle.leases.proofs.BaseWords.{◌≡◌, ◌<◌, ◌==◌, ◌∷◌, ◌++◌, ◌⊎◌, ℕ, Bool, true, false, List, [], length, Option, Some, None, slice_get, suc, arith, refl, ap, inl, inr, cond, eqb-true, flat_map, cases_Bool, RingView, is_handed_over, RingChange, Declares, Opens, Holds, changed, due_crossings, due_positions, leased_crossings, leased_positions, Trb, Header, Ring, Register, Dcbaap, Erstba, Sub, Reg, Bell, command_id, driver_rings, shape_of, with_register, Known, learned, entry_of, context_ranges, device_ranges, entry_ranges, open_leases, open_on, open_ranges, range_of_command, range_of_entry, slots, IsIn, rules, register_leaves, registered, status_leaves, RegRead}
use Rattle.ring_knowledge.specs.Rings as rings
use Rattle.ring_knowledge.specs.Registers as registers

pub flat_alike : {X Y : Type 0} (f g : X → List Y) (xs : List X) → ((x : X) → IsIn x xs → f x ≡ g x) → flat_map f xs ≡ flat_map g xs
flat_alike f g [] same = refl
flat_alike f g (x ∷ xs) same = rw (same x (inl refl), flat_alike f g xs (λ y at. same y (inr at))) refl

pub flat_none : {X Y : Type 0} (f : X → List Y) (xs : List X) → ((x : X) → f x ≡ []) → flat_map f xs ≡ []
flat_none f [] none = refl
flat_none f (x ∷ xs) none = rw (none x) (flat_none f xs none)

-- the ring has the same positions and crossings under lease
pub record LeasesSame (v w : RingView) : Type 0 where
  pub given : w.given ≡ v.given
  pub free : w.free ≡ v.free
  pub crossed : w.crossed ≡ v.crossed
  pub floor : w.floor ≡ v.floor

pub lent_same : (v w : RingView) → w.given ≡ v.given → w.free ≡ v.free → (p : ℕ) → is_handed_over w p ≡ is_handed_over v p
lent_same v w given free p = rw (given, free) refl

module _ (h : Header) where
  -- of what the leases rest on nothing has changed
  pub record RestsSame (k k' : Known) : Type 0 where
    pub each : (r : ℕ) → LeasesSame (k.ring r) (k'.ring r)
    pub commands : (p : ℕ) → IsIn p (rings.unfinished_positions h k) → rings.command_at h k' p ≡ rings.command_at h k p
    pub table : k'.register Erstba ≡ k.register Erstba
    pub devices : k'.device ≡ k.device
    pub entries : entry_ranges k' ≡ entry_ranges k

  on_same : (k k' : Known) → RestsSame k k' → (r : Ring) → open_on h k' r ≡ open_on h k r
  unfolding open_on leased_positions leased_crossings due_positions due_crossings
  on_same k k' same r = rw ((same.each r.id).given, (same.each r.id).free, (same.each r.id).crossed, (same.each r.id).floor) refl

  unfinished_same : (k k' : Known) → RestsSame k k' → rings.unfinished_positions h k' ≡ rings.unfinished_positions h k
  unfolding rings.unfinished_positions due_positions
  unfinished_same k k' same = rw ((same.each (command_id h)).given, (same.each (command_id h)).floor) refl

  pub open_same : (k k' : Known) → RestsSame k k' → open_leases h k' ≡ open_leases h k
  unfolding open_leases open_ranges device_ranges context_ranges
  open_same k k' same = search (rules, open_ranges, flat_alike, open_on, driver_rings, on_same, range_of_command, unfinished_same)

  -- a change of a ring that leaves what is given, and the floor
  pub data IsIdle : RingChange → Type 0 where
    declares : (blocks : List Trb) → IsIdle (Declares blocks)
    opens : IsIdle Opens
    holds : (n : ℕ) → IsIdle (Holds n)

  -- the entries of the DCBAA stay where DCBAAP stays, or where no device context is under lease
  pub entries_kept : (k k' : Known) → k'.device ≡ k.device → (k'.register Dcbaap ≡ k.register Dcbaap) ⊎ ((s : ℕ) → k.device s ≡ None) → entry_ranges k' ≡ entry_ranges k
  unfolding entry_ranges entry_of range_of_entry
  entries_kept k k' devices h4 = grind (arith, flat_alike, range_of_entry, slots, flat_none)

  -- only rings and the states of endpoints change
  idle_rests : (k k' : Known) (r : ℕ) (change : RingChange) → IsIdle change → k'.ring ≡ (rings.on_ring h k r change).ring → k'.register ≡ k.register → k'.device ≡ k.device →
      ((p : ℕ) → IsIn p (rings.unfinished_positions h k) → rings.command_at h k' p ≡ rings.command_at h k p) → RestsSame k k'
  unfolding rings.on_ring
  idle_rests k k' r change idle rings_are registers devices commands = grind (arith, cases_Bool, eqb-true, RingChange, changed, shape_of, entries_kept)

  pub command_same : (k k' : Known) → (k'.ring (command_id h)).queue ≡ (k.ring (command_id h)).queue → (p : ℕ) → rings.command_at h k' p ≡ rings.command_at h k p
  unfolding rings.command_at
  command_same k k' queue p = rw queue refl

  -- a doorbell
  pub bell_same : (k : Known) (s t : ℕ) → open_leases h (learned h k (Bell s t)) ≡ open_leases h k
  unfolding learned registers.rung registers.endpoint_rung rings.on_ring
  bell_same k s t = by (s == 0) (k.ring_of s t)
    where
      opened : (k' : Known) (r : ℕ) → k'.ring ≡ (rings.on_ring h k r Opens).ring → k'.register ≡ k.register → k'.device ≡ k.device → open_leases h k' ≡ open_leases h k
      opened k' r rings_are registers devices = open_same k k' (idle_rests k k' r Opens opens rings_are registers devices (search (rules, command_same, eqb-true)))

      by : (b : Bool) (r : Option ℕ) → open_leases h (cond b (rings.on_ring h k (command_id h) Opens) (registers.endpoint_rung h k s t r)) ≡ open_leases h k
      by true r = opened (rings.on_ring h k (command_id h) Opens) (command_id h) refl refl refl
      by false None = refl
      by false (Some r) = opened (registers.endpoint_rung h k s t (Some r)) r refl refl refl

  more_queued : (k : Known) (r : ℕ) (blocks : List Trb) (q p : ℕ) → p < length (k.ring q).queue → slice_get ((rings.on_ring h k r (Declares blocks)).ring q).queue p ≡ slice_get (k.ring q).queue p
  unfolding rings.on_ring
  more_queued k r blocks q p below = search (rules, got (k.ring q).queue blocks p below, cases_Bool (q == r), eqb-true)
    where
      got : {X : Type 0} (xs ys : List X) (p : ℕ) → p < length xs → slice_get (xs ++ ys) p ≡ slice_get xs p
      got (x ∷ xs) ys (suc p) low = got xs ys p (omega arith)
      got xs ys p low = grind arith

  -- a declaration, where every command that was given is declared
  pub sub_same : (k : Known) (r : ℕ) (blocks : List Trb) → ((p : ℕ) → IsIn p (rings.unfinished_positions h k) → p < length (k.ring (command_id h)).queue) →
      open_leases h (learned h k (Sub r blocks)) ≡ open_leases h k
  unfolding learned rings.on_ring rings.command_at
  sub_same k r blocks known = open_same k (rings.on_ring h k r (Declares blocks)) (search (rules, idle_rests k (rings.on_ring h k r (Declares blocks)) r (Declares blocks) (declares blocks), more_queued))

  -- what changes neither rings nor device contexts, nor the tables that registers name, as far as leases rest on them
  pub tables_same : (k k' : Known) → k'.ring ≡ k.ring → k'.device ≡ k.device → k'.register Erstba ≡ k.register Erstba →
      (k'.register Dcbaap ≡ k.register Dcbaap) ⊎ ((s : ℕ) → k.device s ≡ None) → open_leases h k' ≡ open_leases h k
  tables_same k k' rings_are devices table array = open_same k k' (search (rules, command_same, command_id, entries_kept))

  -- the write of a register where ERSTBA stays, and DCBAAP too or no device context is under lease
  pub reg_same : (k : Known) (r : Register) (v : ℕ) → with_register k.register r v Erstba ≡ k.register Erstba →
      (with_register k.register r v Dcbaap ≡ k.register Dcbaap) ⊎ ((s : ℕ) → k.device s ≡ None) → open_leases h (learned h k (Reg r v)) ≡ open_leases h k
  reg_same k r v table array =
      let leaves = register_leaves h k r v in
      tables_same k (learned h k (Reg r v)) leaves.ring leaves.memory.device (rw (registered h k r v) table) (rw (registered h k r v) array)

  -- a register that is read
  pub read_same : (k : Known) (r : Register) (v : ℕ) → open_leases h (learned h k (RegRead r v)) ≡ open_leases h k
  read_same k r v =
      let leaves = status_leaves h k r v in
      tables_same k (learned h k (RegRead r v)) leaves.ring leaves.memory.device (ap (λ f. f Erstba) leaves.register) (inl (ap (λ f. f Dcbaap) leaves.register))
