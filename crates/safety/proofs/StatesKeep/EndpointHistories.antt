-- Any history keeps endpoints on transfer rings, and the command ring is none of them
use Rattle.safety.proofs.LowerLaws.{RegRead, register_read, status_same, rules, ◌≡◌, ◌==◌, if◌then◌else◌, Option, None, Some, refl, cond_both, none-some, Block, kind, code, slot, Declares, Command, changes, Header, Row, Sub, Write, Reg, Bell, Read, IsHeader, command_id, Known, nothing, on_ring, command_at, next_command, written, register_written, rung, transfer_read, succeeded, stop_ended, finished, completed, event_read, learned, EndpointsKeep, arith, command_not_transfer, written_same, register_same, rung_same, transfer_same, stop_same}
use Rattle.safety.proofs.StatesKeep.Endpoints.{same_keeps, changes_keep, changes_elsewhere}

module _ (h : Header) (is : IsHeader h) where
  finish_keeps : (k : Known) (b : Block) (o : Option Command) → EndpointsKeep h k → EndpointsKeep h (finished h k b o)
  unfolding finished succeeded
  finish_keeps k b None keeps = keeps
  finish_keeps k b (Some c) keeps =
      same_keeps h (if code b == 1 then succeeded h k (slot b) c else k) (stop_ended h (if code b == 1 then succeeded h k (slot b) c else k) c)
      (stop_same h (if code b == 1 then succeeded h k (slot b) c else k) c)
      (cond_both (code b == 1) (succeeded h k (slot b) c) k (EndpointsKeep h) (λ _. changes_keep h is c k (changes h.context_size k.memory (slot b) c) keeps) (λ _. keeps))

  -- what a command's success does leaves the command ring as it is
  pub finish_elsewhere : (k : Known) (b : Block) (o : Option Command) → EndpointsKeep h k → (finished h k b o).ring (command_id h) ≡ k.ring (command_id h)
  unfolding finished succeeded stop_ended
  finish_elsewhere k b o keeps = search (rules, cond_both, changes_elsewhere, command_not_transfer)

  completion_keeps : (k : Known) (b : Block) → EndpointsKeep h k → EndpointsKeep h (completed h k b)
  unfolding completed on_ring
  completion_keeps k b keeps =
      same_keeps h (finished h k b (command_at h k (next_command h k))) (completed h k b) refl (finish_keeps k b (command_at h k (next_command h k)) keeps)

  -- ---- histories

  pub row_keeps : (k : Known) (row : Row) → EndpointsKeep h k → EndpointsKeep h (learned h k row)
  unfolding learned on_ring event_read
  row_keeps k (Sub r blocks) keeps = same_keeps h k (on_ring h k r (Declares blocks)) refl keeps
  row_keeps k (Write a w) keeps = same_keeps h k (written h k a w) (written_same h k a w) keeps
  row_keeps k (Reg r x) keeps = same_keeps h k (register_written h k r x) (register_same h k r x) keeps
  row_keeps k (Bell s t) keeps = same_keeps h k (rung h k s t) (rung_same h k s t) keeps
  row_keeps k (Read b) keeps = same_keeps h (event_read h k (kind b) b) (learned h k (Read b)) refl (grind (arith, same_keeps, transfer_read, transfer_same, completion_keeps))
  row_keeps k (RegRead r x) keeps = same_keeps h k (register_read k r x) (status_same h k r x) keeps
  row_keeps k row keeps = keeps

  pub nothing_endpoints : EndpointsKeep h nothing
  unfolding nothing
  nothing_endpoints = record { transfer = λ s i r at. absurd (none-some r at) }
