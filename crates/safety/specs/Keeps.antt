-- What a driver that keeps the rules keeps, told of what is known after its rows, without any world
use Rattle.std.specs.Prelude.{◌≡◌, ◌≢◌, ℕ, ◌+◌, ◌%◌, ◌^◌, ◌<◌, ◌≤◌, ◌⊎◌, Bool, true, false, [], map, All, Some, None, slice_get, is_some}
use Rattle.trb.specs.declared.block.Block.{Block}
use Rattle.segments.specs.declared.spot.Spot.TheVariants.{Data}
use Rattle.segments.specs.Places.{is_in, is_inside, overlap}
use Rattle.segments.specs.RingView.{RingView, floor_number, is_due}
use Rattle.segments.specs.RingKeeps.{RingKeeps, IsRestored}
use Rattle.segments.specs.Moves.{is_move}
use Rattle.commands.specs.declared.command.Command.{Command}
use Rattle.commands.specs.declared.command.Command.TheVariants.{AddressDevice}
use Rattle.commands.specs.declared.state.SlotState.TheVariants.{Disabled, Enabled, Configured}
use Rattle.commands.specs.declared.state.EndpointState.TheVariants.{Disabled as Off, Running}
use Rattle.commands.specs.Command.{command_of}
use Rattle.commands.specs.SideBySide.{exclude}
use Rattle.contexts.specs.Contexts.{device_context_bytes, context_pointer, context_cycle}
use Rattle.traces.specs.declared.header.Header.{Header}
use Rattle.traces.specs.declared.register.Register.TheVariants.{Dcbaap, Erstsz, Erstba}
use Rattle.traces.specs.declared.ring.Ring.{Ring}
use Rattle.traces.specs.Header.{ring_with, shape_of, command_id, event_shape, event_size, touches_ring, is_driver_kind, is_transfer_kind, no_id}
use Rattle.traces.specs.Halts.{is_asked, is_done}
use Rattle.traces.specs.Versions.{has_runs}
use Rattle.traces.specs.Register.{base_address}
use Rattle.event_ring.specs.EventRing.{table_bytes}
use Rattle.ring_knowledge.specs.Known.{Known}
use Rattle.ring_knowledge.specs.Rings.{command_at}
use Rattle.ring_knowledge.specs.Writes.{device_named, entry_of}
use Rattle.ownership_rules.specs.Areas.{is_soiled}
use Rattle.ownership_rules.specs.Commands as commands
use Rattle.ownership_rules.specs.Moves as moves
use Rattle.ownership_rules.specs.Events.{is_stopping_now}
use Rattle.ownership_rules.specs.Registers.{is_named, is_used}
use Rattle.safety.specs.Restoring.{MovesRestored}

-- nothing was declared or given of this ring
pub record IsNobodys (v : RingView) : Type 0 where
  pub queue : v.queue ≡ []
  pub lengths : v.lengths ≡ []
  pub held : v.held ≡ Some 0
  pub floor : v.floor ≡ Data 0
  pub given : (p : ℕ) → v.given p ≡ false
  pub free : (p : ℕ) → v.free p ≡ false

module _ (h : Header) where
  -- r is the ID of a command or transfer ring
  pub record IsDriverRing (r : ℕ) : Type 0 where
    pub ring : Ring
    pub found : ring_with h r ≡ Some ring
    pub kind : is_driver_kind ring.shape.kind ≡ true

  pub record IsTransferRing (r : ℕ) : Type 0 where
    pub ring : Ring
    pub found : ring_with h r ≡ Some ring
    pub kind : is_transfer_kind ring.shape.kind ≡ true

  -- the command ring holds commands, each alone in its descriptor; it is open from its first doorbell on, and before that no
  -- completion was read, and it hasn't grown behind its first lap
  pub record CommandRingKeeps (k : Known) : Type 0 where
    pub commands : (p : ℕ) (d : Block) → slice_get (k.ring (command_id h)).queue p ≡ Some d → is_some (command_of d) ≡ true
    pub alone : All (λ n. n ≡ 1) (k.ring (command_id h)).lengths
    pub held : ((k.ring (command_id h)).held ≡ None) ⊎ (((k.ring (command_id h)).held ≡ Some 0) × ((k.ring (command_id h)).floor ≡ Data 0) × ((shape_of h (command_id h)).offset ≡ 0))

  pub record StatesKeep (k : Known) : Type 0 where
    pub no_slot : k.slot_state 0 ≡ Disabled
    pub no_endpoint : (s i : ℕ) → (s ≡ 0) ⊎ (i ≡ 0) → k.ring_of s i ≡ None
    -- an endpoint has a ring exactly where it isn't Disabled
    pub off : (s i : ℕ) → k.ring_of s i ≡ None → k.endpoint_state s i ≡ Off
    pub on : (s i r : ℕ) → k.ring_of s i ≡ Some r → k.endpoint_state s i ≢ Off
    pub transfer : (s i r : ℕ) → k.ring_of s i ≡ Some r → IsTransferRing r
    pub one_endpoint : (s i t j r : ℕ) → k.ring_of s i ≡ Some r → k.ring_of t j ≡ Some r → (s ≡ t) × (i ≡ j)
    pub open_runs : (s i r : ℕ) → k.ring_of s i ≡ Some r → (k.ring r).held ≡ None → k.endpoint_state s i ≡ Running
    -- a Stopped event was read: its Stop Endpoint is the next command to be finished
    pub seen_command : (s i : ℕ) → k.stop_seen s i ≡ true → is_stopping_now h k s i ≡ true
    pub seen_runs : (s i : ℕ) → k.stop_seen s i ≡ true → k.endpoint_state s i ≡ Running
    pub seen_held : (s i r : ℕ) → k.stop_seen s i ≡ true → k.ring_of s i ≡ Some r → (k.ring r).held ≢ None
    -- endpoints are there in the slot states that have them
    pub slots : (s i r : ℕ) → k.ring_of s i ≡ Some r → (k.slot_state s ≢ Disabled) × (k.slot_state s ≢ Enabled) × ((i ≡ 1) ⊎ (k.slot_state s ≡ Configured))
    pub first : (s : ℕ) → (k.slot_state s ≡ Disabled) ⊎ (k.slot_state s ≡ Enabled) ⊎ (k.ring_of s 1 ≢ None)
    pub no_device : (s : ℕ) → k.slot_state s ≡ Disabled → k.device s ≡ None

  -- before a start nothing is known of the controller
  pub record Unstarted (k : Known) : Type 0 where
    pub reads : k.reads ≡ 0
    pub dequeue : k.dequeue ≡ 0
    pub slots : (s : ℕ) → k.slot_state s ≡ Disabled
    pub rings : (s i : ℕ) → k.ring_of s i ≡ None
    pub seen : (s i : ℕ) → k.stop_seen s i ≡ false

  -- whether the controller runs, and whether CRCR names the command ring
  pub record RunKeeps (k : Known) : Type 0 where
    -- what is to halt was started, and runs more than once
    pub again : is_asked k.halt ≡ true → has_runs h.version ≡ true
    pub started : is_asked k.halt ≡ true → k.started ≡ true
    -- while it runs CRCR names the command ring, and while it halts the one that was started
    pub running : k.started ≡ true → is_done k.halt ≡ false → is_named k ≡ true
    pub used : k.started ≡ true → is_used h k ≡ true → is_named k ≡ true
    -- it names a ring that is there; one that isn't wasn't started
    pub named : is_named k ≡ true → IsDriverRing (command_id h)
    pub absent : is_used h k ≡ true → IsDriverRing (command_id h)
    -- before a start it names one that wasn't started
    pub unused : k.started ≡ false → is_named k ≡ true → is_used h k ≡ false

  -- the device context at d, which slot s has under lease
  pub record DeviceKeeps (k : Known) (s d : ℕ) : Type 0 where
    pub slot : (0 < s) × (s < 256)
    pub aligned : d % 64 ≡ 0
    pub ends : d + device_context_bytes h.context_size ≤ 2 ^ 64
    pub rings : touches_ring h d (device_context_bytes h.context_size) ≡ false
    -- each of its bytes, so that nothing rests on alignment
    pub soiled : (a : ℕ) → is_in a d (device_context_bytes h.context_size) ≡ true → k.soiled a ≡ true
    -- the slot's entry names it, and nobody but the driver changes that entry
    pub written : is_some (k.register Dcbaap) ≡ true
    pub entry : device_named k s ≡ d
    pub entry_clean : is_soiled k (entry_of k s) 8 ≡ false
    pub entry_rings : touches_ring h (entry_of k s) 8 ≡ false
    pub others : (t e : ℕ) → k.device t ≡ Some e → t ≢ s → overlap d (device_context_bytes h.context_size) e (device_context_bytes h.context_size) ≡ false
    pub entries : (t e : ℕ) → k.device t ≡ Some e → overlap d (device_context_bytes h.context_size) (entry_of k t) 8 ≡ false
    pub table : (v : ℕ) → k.register Erstba ≡ Some v → overlap d (device_context_bytes h.context_size) (base_address v) (table_bytes (event_shape h)) ≡ false

  -- c is given at position p of the command ring, and its completion isn't read
  pub record IsUnfinished (k : Known) (p : ℕ) (c : Command) : Type 0 where
    pub due : is_due (shape_of h (command_id h)) (k.ring (command_id h)).floor p ≡ true
    pub given : (k.ring (command_id h)).given p ≡ true
    pub command : command_at h k p ≡ Some c

  -- a second Address Device: its pointer names a spot at the floor's number, and nothing from the floor on is given
  pub record Stays (k : Known) (r c : ℕ) : Type 0 where
    pub here : is_move (shape_of h r) (k.ring r) (context_pointer h.context_size k.memory c 1) (context_cycle h.context_size k.memory c 1) (floor_number (k.ring r)) (floor_number (k.ring r)) ≡ true
    pub nothing : (p : ℕ) → floor_number (k.ring r) ≤ p → (k.ring r).given p ≡ false

  abbrev pub StaysIf : Known → Command → Type 0
  StaysIf k (AddressDevice s bsr c) = (r : ℕ) → k.ring_of s 1 ≡ Some r → Stays k r c
  StaysIf k _ = Unit {0}

  -- the rule of moves, but for an Address Device, which has its own clause
  abbrev pub MovesIf : Known → Command → Type 0
  MovesIf k (AddressDevice s bsr c) = Unit {0}
  MovesIf k c = moves.is_bad_move h k c ≡ false

  -- what was tested when a command was given, and stays true until its completion is read
  pub record CommandKeeps (k : Known) (p : ℕ) (c : Command) : Type 0 where
    -- no other unfinished command excludes it: of two of one slot one names an endpoint that the other leaves alone
    pub alone : (q : ℕ) (d : Command) → IsUnfinished k q d → q ≢ p → exclude k.memory d c ≡ false
    pub good : commands.is_bad_command h k c ≡ false
    pub in_profile : commands.adds_streams h k c ≡ false
    pub device : (s n : ℕ) (bsr : Bool) → c ≡ AddressDevice s bsr n → k.device s ≢ None
    -- each ring that it binds stands still where it is placed, and is named once; no endpoint has it but one that the command drops, and no
    -- other command binds it
    pub binds : All (λ b. moves.is_placed h k (moves.ring_bound h b) b ≡ true) (moves.binds h k c)
    pub repeats : moves.has_repeats (map (moves.ring_bound h) (moves.binds h k c)) ≡ false
    pub unkept : (r s i : ℕ) → moves.binds_ring h k r c ≡ true → k.ring_of s i ≡ Some r → moves.drops k c s i ≡ true
    pub unshared : (r q : ℕ) (d : Command) → moves.binds_ring h k r c ≡ true → IsUnfinished k q d → q ≢ p → moves.binds_ring h k r d ≡ false
    pub moves_on : MovesIf k c
    pub stays : StaysIf k c
    -- nothing is free of a ring that it moves
    pub restored : MovesRestored k c

  pub record DriverKeeps (k : Known) : Type 0 where
    pub rings : (r : ℕ) → IsDriverRing r → RingKeeps (shape_of h r) k.memory (k.ring r)
    -- no command is withdrawn
    pub commands_stay : IsRestored (k.ring (command_id h))
    -- no word of a ring is soiled
    pub clean : (r a : ℕ) → IsDriverRing r → a % 4 ≡ 0 → is_inside (shape_of h r) a ≡ true → k.soiled a ≡ false
    pub command_ring : CommandRingKeeps k
    pub states : StatesKeep k
    -- an endpoint that has a ring has the numbers of a slot and of an endpoint
    pub numbered : (s i r : ℕ) → k.ring_of s i ≡ Some r → (s < 256) × (i < 32)
    pub unstarted : k.started ≡ false → Unstarted k
    pub run : RunKeeps k
    -- there is an event ring before the start: without one an event that is read would have no room
    pub sized : is_some (k.register Erstsz) ≡ true → 0 < event_size h
    pub erstsz_written : k.started ≡ true → is_some (k.register Erstsz) ≡ true
    pub dequeued : k.dequeue ≤ k.reads
    pub read_room : 0 < k.reads → k.reads + 1 ≤ k.dequeue + event_size h
    pub devices : (s d : ℕ) → k.device s ≡ Some d → DeviceKeeps k s d
    pub unfinished : (p : ℕ) (c : Command) → IsUnfinished k p c → CommandKeeps k p c
    -- nothing is known of the ID that no ring has: it is the command ring's where none is there
    pub nobody : (r : ℕ) → r ≡ no_id → IsNobodys (k.ring r)
