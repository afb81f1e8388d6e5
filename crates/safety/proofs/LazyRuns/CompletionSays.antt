-- What a clean Command Completion Event says: the next command was given, and a controller can have finished it so
use Rattle.safety.proofs.LowerLaws.{[], ◌≡◌, ◌<◌, ◌==◌, if◌then◌else◌, ◌∙◌, true, false, not, Option, Some, None, refl, sym, ap, ltb-true, eqb-true, rules, false≢true, or_parts, and_parts, not-false, Block, kind, code, pointer, slot, is_command_completion, address_of, ceiling, given_count, is_open, Command, may_answer_slot, can_succeed, Header, Read, Config, shape_of, command_id, register_or_zero, Known, command_at, next_command, may_be_taken, can_finish, is_impossible_by_kind, is_impossible_completion, was_stop_seen, lenient, DriverKeeps, EventFacts, event_facts, ceiling_open}
use Rattle.safety.proofs.Finishes.FinishKinds.{completion_kind}
use Rattle.safety.proofs.NoHarm.NoWait.{ceiling_held}

pub record CompletionSays (h : Header) (k : Known) (b : Block) : Type 0 where
  pub started : k.started ≡ true
  pub below : next_command h k < ceiling (shape_of h (command_id h)) (k.ring (command_id h))
  pub named : pointer b ≡ address_of (shape_of h (command_id h)) (next_command h k)
  pub some_code : (code b == 0) ≡ false
  pub command : Command
  pub here : command_at h k (next_command h k) ≡ Some command
  pub answers : may_answer_slot (Some command) (slot b) ≡ true
  pub may : (if code b == 1 then can_succeed k.slot_state k.endpoint_state (register_or_zero k.register Config) (slot b) command else not (was_stop_seen k command)) ≡ true

record Finishes (k : Known) (b : Block) (o : Option Command) : Type 0 where
  command : Command
  here : o ≡ Some command
  answers : may_answer_slot (Some command) (slot b) ≡ true
  may : (if code b == 1 then can_succeed k.slot_state k.endpoint_state (register_or_zero k.register Config) (slot b) command else not (was_stop_seen k command)) ≡ true

finishes_with : (k : Known) (b : Block) (o : Option Command) → can_finish k b o ≡ true → Finishes k b o
unfolding can_finish
finishes_with k b None can = absurd (false≢true can)
finishes_with k b (Some c) can =
    let both = and_parts (may_answer_slot (Some c) (slot b)) (if code b == 1 then can_succeed k.slot_state k.endpoint_state (register_or_zero k.register Config) (slot b) c else not (was_stop_seen k c)) can in
    record { command = c; here = refl; answers = both.0; may = both.1 }

module _ (h : Header) where
  by_completion : (k : Known) (b : Block) → k.started ≡ true → is_impossible_completion h k b ≡ false → CompletionSays h k b
  unfolding is_impossible_completion may_be_taken
  by_completion k b started possible =
      let three = or_parts _ (not (can_finish k b (command_at h k (next_command h k)))) possible in
      let two = or_parts _ (code b == 0) three.0 in
      let one = or_parts (not (may_be_taken h k)) (not (pointer b == address_of (shape_of h (command_id h)) (next_command h k))) two.0 in
      let f = finishes_with k b (command_at h k (next_command h k)) (not-false (can_finish k b (command_at h k (next_command h k))) three.1) in
      record {
        started = started;
        below = ltb-true (next_command h k) (ceiling (shape_of h (command_id h)) (k.ring (command_id h))) (not-false _ one.0);
        named = eqb-true (pointer b) (address_of (shape_of h (command_id h)) (next_command h k)) (not-false _ one.1);
        some_code = two.1;
        command = f.command;
        here = f.here;
        answers = f.answers;
        may = f.may;
      }

  pub completion_says : (k : Known) (b : Block) → is_command_completion (kind b) ≡ true → lenient h k (Read b) ≡ [] → CompletionSays h k b
  unfolding is_impossible_by_kind
  completion_says k b completion clean =
      let facts : EventFacts h k b = event_facts h k b clean in
      by_completion k b facts.started (ap (λ n. is_impossible_by_kind h k n b) (sym (completion_kind (kind b) completion)) ∙ facts.possible)

  pub record CommandsOpen (k : Known) : Type 0 where
    pub opened : is_open (k.ring (command_id h)) ≡ true
    pub given : next_command h k < given_count (shape_of h (command_id h)) (k.ring (command_id h))

  pub commands_open : (k : Known) → DriverKeeps h k → next_command h k < ceiling (shape_of h (command_id h)) (k.ring (command_id h)) → CommandsOpen k
  unfolding is_open
  commands_open k d below = search (rules, ceiling_open, ceiling_held)
