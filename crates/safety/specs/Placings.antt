-- Where the success of a command may place the ring of an endpoint: xHCI 4.6.5, 4.6.6, 4.6.10
use Rattle.std.specs.Prelude.{◌≡◌, ℕ, ◌||◌, Bool, true, false, List, [], ◌∷◌, map, All, Some}
use Rattle.trb.specs.declared.block.Block.{Block}
use Rattle.trb.specs.Block.{code, slot}
use Rattle.segments.specs.declared.spot.Spot.{Spot}
use Rattle.segments.specs.Spots.{number}
use Rattle.segments.specs.RingView.{floor_number}
use Rattle.segments.specs.RingKeeps.{IsShownTo}
use Rattle.segments.specs.Moves.{target, is_reached, is_move}
use Rattle.commands.specs.declared.command.Command.{Command}
use Rattle.commands.specs.declared.command.Command.TheVariants.{AddressDevice, ConfigureEndpoint, SetTrDequeue}
use Rattle.commands.specs.States.{is_off}
use Rattle.commands.specs.Changes.{Change, SlotGoesOn, DeviceLeft, Types, Disables, Places, Stops, Resets, changes}
use Rattle.contexts.specs.Contexts.{added_endpoints, is_dropped, context_pointer, context_cycle}
use Rattle.traces.specs.declared.header.Header.{Header}
use Rattle.traces.specs.Header.{shape_of, ring_having}
use Rattle.ring_knowledge.specs.Known.{Known}
use Rattle.ring_knowledge.specs.Rings.{command_at, next_command}
use Rattle.ring_knowledge.specs.Completions.{changed_by}
use Rattle.safety.specs.Restoring.{MovesRestored}
use Rattle.ownership_rules.specs.Moves.{drops, has_repeats, binds, ring_bound, binds_ring, is_placed, is_bad_move}

module _ (h : Header) where
  -- an endpoint that is off gets a ring, and any other one has its ring; the ring is moved to a spot up to which all is given
  pub record MayPoint (k : Known) (s i p : ℕ) (cycle : Bool) : Type 0 where
    pub binds : is_off (k.endpoint_state s i) ≡ true → (r : ℕ) (t : Spot) → ring_having h p ≡ Some r → target (shape_of h r) (k.ring r) p cycle ≡ Some t →
        is_reached (shape_of h r) (k.ring r) t ≡ true
    pub moves : is_off (k.endpoint_state s i) ≡ false → (r : ℕ) (t : Spot) → k.ring_of s i ≡ Some r → target (shape_of h r) (k.ring r) p cycle ≡ Some t →
        is_reached (shape_of h r) (k.ring r) t ≡ true
    -- what is free of it shows its cycle up to there
    pub bound_shown : is_off (k.endpoint_state s i) ≡ true → (r : ℕ) (t : Spot) → ring_having h p ≡ Some r → target (shape_of h r) (k.ring r) p cycle ≡ Some t →
        IsShownTo (shape_of h r) (k.ring r) (number t)
    pub moved_shown : is_off (k.endpoint_state s i) ≡ false → (r : ℕ) (t : Spot) → k.ring_of s i ≡ Some r → target (shape_of h r) (k.ring r) p cycle ≡ Some t →
        IsShownTo (shape_of h r) (k.ring r) (number t)

  abbrev pub MayChange : Known → Change → Type 0
  MayChange k (Places s i p cycle state) = MayPoint k s i p cycle
  MayChange k (SlotGoesOn s) = Unit {0}
  MayChange k (DeviceLeft s) = Unit {0}
  MayChange k (Types s which isochronous) = Unit {0}
  MayChange k (Disables s which) = Unit {0}
  MayChange k (Stops s i) = Unit {0}
  MayChange k (Resets s i) = Unit {0}

  abbrev pub MayChangeAll : Command → Known → List Change → Type 0
  MayChangeAll c k [] = Unit {0}
  MayChangeAll c k (change ∷ rest) = MayChange k change × MayChangeAll c (changed_by h c k change) rest

  -- what the success of the next command places
  abbrev pub MayFinish : Known → Block → Type 0
  MayFinish k b = (c : Command) → command_at h k (next_command h k) ≡ Some c → code b ≡ 1 → MayChangeAll c k (changes h.context_size k.memory (slot b) c)

  -- ---- what was tested of a command when it was given, and has to hold still when it succeeds

  -- each endpoint that is added is off, or dropped by the same command
  abbrev pub AreFree : Known → Command → Type 0
  AreFree k (ConfigureEndpoint s false n) = All (λ i. (is_off (k.endpoint_state s i) || is_dropped k.memory n i) ≡ true) (added_endpoints k.memory n)
  AreFree k _ = Unit {0}

  -- a Set TR Dequeue names a spot to which the ring may be moved; a second Address Device the spot at which the pointer stands
  abbrev pub MovesOn : Known → Command → Type 0
  MovesOn k (SetTrDequeue s i p cycle) = is_bad_move h k (SetTrDequeue s i p cycle) ≡ false
  MovesOn k (AddressDevice s bsr n) =
      is_off (k.endpoint_state s 1) ≡ false → (r : ℕ) → k.ring_of s 1 ≡ Some r →
      is_move (shape_of h r) (k.ring r) (context_pointer h.context_size k.memory n 1) (context_cycle h.context_size k.memory n 1) (floor_number (k.ring r)) (floor_number (k.ring r)) ≡ true
  MovesOn k _ = Unit {0}

  pub record StillHolds (k : Known) (c : Command) : Type 0 where
    -- the rings that it binds: each stands still where it is placed, none is bound twice, none has an endpoint that isn't dropped
    pub placed : All (λ b. is_placed h k (ring_bound h b) b ≡ true) (binds h k c)
    pub repeats : has_repeats (map (ring_bound h) (binds h k c)) ≡ false
    pub unkept : (r s i : ℕ) → binds_ring h k r c ≡ true → k.ring_of s i ≡ Some r → drops k c s i ≡ true
    pub free : AreFree k c
    pub moves_on : MovesOn k c
    pub restored : MovesRestored k c
