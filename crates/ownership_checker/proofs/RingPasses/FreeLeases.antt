-- The leases that end where a descriptor is withdrawn, and those that begin where a ring is started or moved, as the log is told of them
use Rattle.ownership_checker.proofs.Words.{◌≤◌, ◌-◌, ◌≡◌, ◌+◌, ◌<◌, ◌^◌, ◌∷◌, ◌∙◌, ℕ, zero, suc, true, false, List, [], Option, None, Some, slice_get, slice_index, length, arith, refl, ap, sym, subst, is_some, Header, IsHeader, Known, Ring, RingView, DriverKeeps, Row, Bell, Write, command_id, none-some, on_ring, open_leases, positions_given, ring_with, same_Some, shape_of, length_from, descriptor_length, unrestored, command_ring, id_or_none, Restores, ring_found, shape_there, among_at, lenient, clean_tests, is_transfer_ring, IsTransferRing, AreOpen, Lent, passed_on, FindsRanges, RangeIndexes, HoldsAll, is_bad_withdraw, restored, restored_on, ring_moved, ring_restored, stopped_still, NamesTransfer, MovesRing, SomeIff, Shape, FollowsRing, RingRecord, command_found, stopped_with, GivesCommandAt, IsTransferAt, command_drives, found_restored, found_withdrawn, was_given, rules, Withdraws}

command_id_of : (h : Header) (c : Ring) → command_ring h ≡ Some c → command_id h ≡ c.id
unfolding command_id
command_id_of h c there = ap id_or_none there

pub count_is : (v : RingView) (p : ℕ) → descriptor_length v p ≡ length_from v.lengths 0 p
unfolding descriptor_length
count_is v p = refl

-- a descriptor ends within the numbers of positions
within : (xs : List ℕ) (p : ℕ) → 0 < slice_index xs p → p < length xs
within (x ∷ xs) (suc p) some = omega (arith, within xs p some)
within _ p some = grind arith

pub none_high : (o : Option ℕ) (P : Type 0) (v : ℕ) → SomeIff o P v → is_some o ≡ false → P → ⊥
none_high o P v high none = grind arith

pub no_room : (shape : Shape) (v : RingView) (r : RingRecord) (p count : ℕ) → FollowsRing shape v r → r.forgotten ≤ p → count ≡ length_from v.lengths 0 p → count < 2 ^ 32 → p < 2 ^ 64 → (p + count < 2 ^ 64 → ⊥) → ⊥
no_room shape v r p zero follows kept is few low high = high (omega (arith, low))
no_room shape v r p (suc n) follows kept is few low high = high (omega (arith, within r.lengths.items (p - r.forgotten) (omega (arith, is, follows.marks.begins p kept)), r.forgotten_fits, r.lengths.ok.0, r.lengths.ok.1, r.lengths.small, few))

module _ {B : Type 0} (Holds : Header → List Lent → B → Type 0) (h : Header) (headed : IsHeader h) (k : Known) (ts : List Lent) (opened : AreOpen h k ts) (id n : ℕ) (there : IsTransferAt h id n) (row : ℕ) where
  abbrev q : Ring
  q = there.ring

  pub found : ring_with h q.id ≡ Some q
  found = ring_found h headed q (among_at h.rings n q there.at)

  pub withdrawn_held : (p : ℕ) (log : B) (x : RangeIndexes) → Holds h (passed_on (open_leases h k) (open_leases h (on_ring h k q.id (Withdraws p))) row ts) log → FindsRanges h ts x →
      HoldsAll Holds h (passed_on (open_leases h k) (open_leases h (on_ring h k id (Withdraws p))) row ts) log x
  withdrawn_held p log x held finds = rw (← there.named) (record { held = held; found = found_withdrawn h headed k q found there.kind ts opened row p x finds })

  module _ (ps : List ℕ) (positions : ps ≡ unrestored q.shape (k.ring q.id)) where
    pub restored_held : ((p : ℕ) → (k.ring q.id).free p ≡ true → (k.ring q.id).given p ≡ true) → (log : B) (x : RangeIndexes) →
        Holds h (passed_on (open_leases h k) (open_leases h (on_ring h k q.id Restores)) row ts) log → FindsRanges h ts x →
        HoldsAll Holds h (passed_on (open_leases h k) (open_leases h (on_ring h k id Restores)) row ts) log x
    restored_held given log x held finds = rw (← there.named) (record {
      held = held;
      found = found_restored h k ts q ps (record { headed = headed; found = found; transfer = there.kind; freed_given = given; positions = positions; opened = opened }) row x finds;
    })

    -- a Set TR Dequeue Pointer that is given moves it
    pub moving : DriverKeeps h k → (a w m p : ℕ) → GivesCommandAt h k a w m p → (commands : Ring) → slice_get h.rings m ≡ Some commands → ring_restored h k (Write a w) ≡ Some id → MovesRing h k ts commands p q ps a w
    moving d a w m p g commands at moves =
        subst (λ (r : Ring). MovesRing h k ts r p q ps a w) (same_Some g.ring commands (sym g.at ∙ at)) (record {
          headed = headed;
          freed = was_given h headed k d;
          opened = opened;
          commands = ring_found h headed g.ring (among_at h.rings m g.ring g.at);
          is_command = is_command;
          drives = command_drives g.ring.shape.kind g.command;
          gives = subst (λ i. positions_given (shape_of h i) (k.ring i) a w ≡ p ∷ []) is_command
              (ap (λ s. positions_given s (k.ring g.ring.id) a w) (shape_there h headed g.ring (among_at h.rings m g.ring g.at)) ∙ g.gives);
          found = found;
          transfer = there.kind;
          moves = moves ∙ ap (λ i. Some i) (sym there.named);
          positions = positions;
        })
      where
        is_command : g.ring.id ≡ command_id h
        is_command = sym (command_id_of h g.ring (command_found h headed g.ring (among_at h.rings m g.ring g.at) g.command))

-- ---- what a row starts or moves is a transfer ring

as_transfer : (h : Header) (r : ℕ) → IsTransferRing h r → is_transfer_ring (ring_with h r) ≡ true
as_transfer h r x = ap is_transfer_ring x.found ∙ x.kind

module _ (h : Header) (k : Known) (d : DriverKeeps h k) where
  pub restored_transfer : (row : Row) (r : ℕ) → ring_restored h k row ≡ Some r → is_transfer_ring (ring_with h r) ≡ true
  unfolding ring_restored ring_moved
  restored_transfer (Bell s t) r at = as_transfer h r (d.states.transfer s t r at)
  restored_transfer (Write a w) r at = (search (rules, as_transfer, d.states.transfer, none-some))
  restored_transfer _ r at = absurd (none-some r at)

  pub names_transfer : (row : Row) → NamesTransfer h (ring_restored h k row)
  names_transfer row = grind (arith, restored_transfer row)

  pub withdrawn_transfer : (r p : ℕ) → is_bad_withdraw h k r p ≡ false → is_transfer_ring (ring_with h r) ≡ true
  unfolding is_bad_withdraw
  withdrawn_transfer r p good =
      let has = stopped_with h r p k (grind (arith, good)) in as_transfer h r (d.states.transfer has.slot has.index r has.has)

-- a row restores nothing
pub none_restored : (h : Header) (k : Known) (row : Row) → ring_restored h k row ≡ None → restored h k row ≡ k
unfolding restored_on
none_restored h k row none = ap (restored_on h k) none

-- a row that breaks no lenient rule comes before the stop
pub runs_on : (h : Header) (k : Known) (row : Row) → lenient h (restored h k row) row ≡ [] → k.stopped ≡ false
runs_on h k row clean = sym (stopped_still h k (ring_restored h k row)) ∙ (clean_tests h (restored h k row) row clean).0
