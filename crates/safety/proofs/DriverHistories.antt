-- A clean history keeps what a driver keeps
use Rattle.safety.proofs.UpperLaws.{[], ◌≡◌, ◌∷◌, ◌∙◌, false, List, ap, Block, kind, Header, Row, IsHeader, Read, World, Known, learned, DriverKeeps, KeptByRestoring, command_id, ArePossible, Runs, all_read, ◌&&◌, not, true, subst, sym, not-false, BlockKind, TransferEvent, CommandCompletion, is_transfer_event, Sub, Write, Reg, Bell, event_read, is_in_profile, is_impossible_by_kind, CommandsKeep, ℕ, refl, rules, Command, Register, IsUnfinished, none-some, on_ring, command_at, succeeded, finished, completed, is_command_completion, StatesKeep, KeptByRows, arith, event_same, SameGiven, EventFacts, event_facts, with_reads, SameStates, ring_stays, same_stay, AreNumbered, command_numbered, changes_numbered, same_numbered, all_numbered, endpoints_of, endpoints_part, slots_part, seen_part, from_parts, endpoints_same, slots_same, seen_same, kept_run, kept_sized, kept_erstsz_written, kept_dequeued, kept_read_room, kept_unstarted, kept_clean, kept_rings, CompletionFacts, completion_facts, kept_command_ring, free_same, rung_commands, register_leaves, states_rung, PartsStand, transfer_stands, completion_stands, kept_devices, declared_commands, written_commands, transfer_commands, completion_commands, unfinished_view, written_same, register_same, rung_same, transfer_same, stop_same, view_same, stops_on, states_declared, states_written, states_registered, RegRead, status_leaves, status_same, states_status, kept_nobody}
use Rattle.safety.proofs.StatesKeep.EndpointHistories.{row_keeps}

-- Each row keeps what is known of states
module _ (h : Header) where
  event_parts : IsHeader h → (k : Known) → DriverKeeps h k → (b : Block) (n : BlockKind) → k.started ≡ true → is_impossible_by_kind h k n b ≡ false →
      (is_transfer_event n && not (is_in_profile h k b)) ≡ false → (is_command_completion n ≡ true → CompletionFacts h k b) → PartsStand h (event_read h k n b)
  unfolding event_read is_impossible_by_kind
  event_parts is k d b TransferEvent started possible inside facts = transfer_stands h is k d b possible (not-false (is_in_profile h k b) inside)
  event_parts is k d b CommandCompletion started possible inside facts = completion_stands h is k d b started (facts refl)
  event_parts is k d b _ started possible inside facts = record { endpoints = endpoints_part h k d.states; slots = slots_part h k d.states; seen = seen_part h k d.states }

  -- counted as read
  counted_parts : (k : Known) (b : Block) → PartsStand h (event_read h k (kind b) b) → PartsStand h (learned h k (Read b))
  unfolding learned
  counted_parts k b parts = search (rules, endpoints_same, slots_same, seen_same, stops_on, view_same)

  states_read : IsHeader h → (k : Known) (b : Block) → DriverKeeps h k → EventFacts h k b → StatesKeep h (learned h k (Read b))
  states_read is k b d facts =
      let parts : PartsStand h (learned h k (Read b)) =
      counted_parts k b (event_parts is k d b (kind b) facts.started facts.possible facts.inside (λ completion. completion_facts h k b completion facts.possible)) in
      from_parts h (learned h k (Read b)) (row_keeps h is k (Read b) (endpoints_of h k d.states)) parts.endpoints parts.slots parts.seen

  -- the states of slots and endpoints after one more row
  pub kept_states : KeptByRows h (StatesKeep h)
  unfolding learned
  kept_states is k (Sub r blocks) d clean on = states_declared h is k r blocks d
  kept_states is k (Write a w) d clean on = states_written h is k a w d clean
  kept_states is k (Reg r x) d clean on = states_registered h is k r x d
  kept_states is k (Bell s t) d clean on = states_rung h is k d s t clean
  kept_states is k (Read b) d clean on = states_read is k b d (event_facts h k b clean)
  kept_states is k (RegRead r x) d clean on = states_status h is k r x d
  kept_states is k row d clean on = d.states

-- In any history the endpoints that have rings have numbers of slots and endpoints
module _ (h : Header) where
  -- ---- histories

  event_numbered : (k : Known) (b : Block) (n : BlockKind) → AreNumbered k → AreNumbered (event_read h k n b)
  unfolding event_read completed on_ring command_at finished succeeded
  event_numbered k b n all = search (rules, same_numbered, transfer_same, stop_same, all_numbered, changes_numbered, none-some, command_numbered)

  pub row_numbered : (k : Known) (row : Row) → AreNumbered k → AreNumbered (learned h k row)
  unfolding learned on_ring
  row_numbered k row all = grind (arith, same_numbered, written_same, register_same, status_same, rung_same, event_numbered)

-- A register write keeps what is kept of unfinished commands

-- all that is read of unfinished commands is as it was
pub record SameForCommands (k l : Known) : Type 0 where
  pub memory : l.memory ≡ k.memory
  pub soiled : l.soiled ≡ k.soiled
  pub device : l.device ≡ k.device
  pub slot_state : l.slot_state ≡ k.slot_state
  pub endpoint_state : l.endpoint_state ≡ k.endpoint_state
  pub ring_of : l.ring_of ≡ k.ring_of
  pub was_bound : l.was_bound ≡ k.was_bound
  pub ring : l.ring ≡ k.ring

module _ (h : Header) (k l : Known) (same : SameForCommands k l) where
  states : SameStates k l
  states = search rules

  given : SameGiven (k.ring (command_id h)) (l.ring (command_id h))
  given = subst (λ f. SameGiven (k.ring (command_id h)) (f (command_id h))) (sym same.ring) (record { queue = refl; lengths = refl; given = refl; crossed = refl; withdrawn = refl; free = refl })

  pub same_before : (p : ℕ) (c : Command) → IsUnfinished h l p c → IsUnfinished h k p c
  same_before = unfinished_view h k l given (ap (λ f. (f (command_id h)).floor) same.ring)

  pub same_commands : CommandsKeep h k → CommandsKeep h l
  same_commands keeps = same_stay h k l states keeps same_before (λ p c u. ring_stays h k l c same.endpoint_state same.ring_of (λ s i r at. ap (λ f. f r) same.ring) (λ r bound. ap (λ f. f r) same.ring) (λ r. ap (λ f. (f r).free) same.ring))

pub register_commands : (h : Header) (k : Known) (r : Register) (x : ℕ) → CommandsKeep h k → CommandsKeep h (learned h k (Reg r x))
register_commands h k r x keeps = search (rules, same_commands, register_leaves h k r x)

pub status_commands : (h : Header) (k : Known) (r : Register) (x : ℕ) → CommandsKeep h k → CommandsKeep h (learned h k (RegRead r x))
status_commands h k r x keeps = search (rules, same_commands, status_leaves h k r x)

-- one event more was read
pub reads_commands : (h : Header) (k : Known) (n : ℕ) → CommandsKeep h k → CommandsKeep h (with_reads k n)
reads_commands h k n keeps = search (rules, same_commands)

-- What is kept of unfinished commands is kept by each row
module _ (h : Header) where
  event_commands : IsHeader h → (k : Known) (b : Block) (n : BlockKind) → DriverKeeps h k → k.started ≡ true → is_impossible_by_kind h k n b ≡ false →
      (is_transfer_event n && not (is_in_profile h k b)) ≡ false → CommandsKeep h (event_read h k n b)
  unfolding event_read is_impossible_by_kind
  event_commands is k b TransferEvent d on possible inside = transfer_commands h is k d b possible (not-false (is_in_profile h k b) inside)
  event_commands is k b CommandCompletion d on possible inside = completion_commands h is k d b on possible
  event_commands is k b _ d on possible inside = d.unfinished

  pub kept_unfinished : KeptByRestoring h (CommandsKeep h)
  unfolding learned
  kept_unfinished is k (Sub r blocks) d may on = declared_commands h is k d r blocks
  kept_unfinished is k (Write a w) d may on = written_commands h is k d a w may.0 may.1.1
  kept_unfinished is k (Reg r x) d may on = register_commands h k r x d.unfinished
  kept_unfinished is k (Bell s t) d may on = rung_commands h is k d s t may.0
  kept_unfinished is k (Read b) d may on =
      let facts : EventFacts h k b = event_facts h k b may.0 in
      search (rules, reads_commands, event_commands)
  kept_unfinished is k (RegRead r x) d may on = status_commands h k r x d.unfinished
  kept_unfinished is k row d may on = d.unfinished

module _ (h : Header) where
  pub kept_driver : KeptByRestoring h (DriverKeeps h)
  kept_driver is k row d may on = record {
    rings = kept_rings h is k row d may on;
    commands_stay = λ p. ap (λ f. f p) (free_same h k row (command_id h)) ∙ d.commands_stay p;
    clean = kept_clean h is k row d may.0 on;
    command_ring = kept_command_ring h is k row d may.0 on;
    states = kept_states h is k row d may.0 on;
    numbered = row_numbered h k row d.numbered;
    unstarted = kept_unstarted h is k row d may.0 on;
    run = kept_run h is k row d may.0 on;
    sized = kept_sized h is k row d may.0 on;
    erstsz_written = kept_erstsz_written h is k row d may.0 on;
    dequeued = kept_dequeued h is k row d may.0 on;
    read_room = kept_read_room h is k row d may.0 on;
    devices = kept_devices h is k row d may.0 on;
    unfinished = kept_unfinished h is k row d may on;
    nobody = kept_nobody h is k row d may.0 on;
  }

  -- ---- in a run, of what is known when the unread events are read too

  read_stopped : (k : Known) (b : Block) → (learned h k (Read b)).stopped ≡ k.stopped
  unfolding learned
  read_stopped k b = (event_same h k (kind b) b).stopped

  all_read_keeps : IsHeader h → (unread : List Block) (k : Known) → DriverKeeps h k → ArePossible h k unread → k.stopped ≡ false → DriverKeeps h (all_read h k unread)
  all_read_keeps is [] k d possible on = d
  all_read_keeps is (e ∷ unread) k d possible on =
      let still_on : (learned h k (Read e)).stopped ≡ false = read_stopped k e ∙ on in
      all_read_keeps is unread (learned h k (Read e)) (kept_driver is k (Read e) d (possible.0, tt) still_on) possible.1 still_on

  pub run_keeps : IsHeader h → (now : Known) (w : World) → DriverKeeps h now → (r : Runs h now w) → DriverKeeps h (all_read h now r.unread)
  run_keeps is now w d r = all_read_keeps is r.unread now d r.possible r.on
