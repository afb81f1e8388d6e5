-- A row that breaks no rule keeps what the rules keep of each ring
use Rattle.safety.proofs.MiddleLaws.{◌≡◌, ◌&&◌, not, true, false, refl, not-false, Block, BlockKind, TransferEvent, CommandCompletion, kind, is_transfer_event, is_command_completion, Header, Row, Sub, Write, Reg, Bell, Read, IsHeader, Known, event_read, learned, is_in_profile, is_impossible_by_kind, command_id, IsRestored, MayCome, RingsKeep, RingsKept, EndpointsKeep, MayFinish, MayRead, event_facts, stands, same_keeps, declared_keeps, written_keeps, register_keeps, rung_keeps, transfer_keeps, RegRead, status_keeps}
use Rattle.safety.proofs.RingsKeep.Completions.{completion_keeps}

module _ (h : Header) (is : IsHeader h) where
  event_keeps : (k : Known) (b : Block) (n : BlockKind) → (keeps : RingsKeep h k) → EndpointsKeep h k → is_impossible_by_kind h k n b ≡ false → (is_transfer_event n && not (is_in_profile h k b)) ≡ false →
      (is_command_completion n ≡ true → MayFinish h k b) → RingsKept h k (event_read h k n b)
  unfolding event_read is_impossible_by_kind
  event_keeps k b TransferEvent keeps endpoints possible inside may = transfer_keeps h is k keeps b possible (not-false (is_in_profile h k b) inside)
  event_keeps k b CommandCompletion keeps endpoints possible inside may = completion_keeps h is k b keeps endpoints possible (may refl)
  event_keeps k b _ keeps endpoints possible inside may = stands h k keeps

  -- one row more
  pub row_kept : (k : Known) (row : Row) → RingsKeep h k → EndpointsKeep h k → IsRestored (k.ring (command_id h)) → MayCome h k row → MayRead h k row → RingsKept h k (learned h k row)
  unfolding learned
  row_kept k (Sub r blocks) keeps endpoints commands comes may = declared_keeps h k keeps is r blocks comes.0
  row_kept k (Write a w) keeps endpoints commands comes may = written_keeps h k keeps is a w comes
  row_kept k (Reg r x) keeps endpoints commands comes may = register_keeps h k keeps r x
  row_kept k (Bell s t) keeps endpoints commands comes may = rung_keeps h k keeps is s t commands comes.1
  row_kept k (Read b) keeps endpoints commands comes may =
      let facts = event_facts h k b comes.0 in
      same_keeps h k (event_read h k (kind b) b) (learned h k (Read b)) refl refl (event_keeps k b (kind b) keeps endpoints facts.possible facts.inside may)
  row_kept k (RegRead r x) keeps endpoints commands comes may = status_keeps h k keeps r x
  row_kept k row keeps endpoints commands comes may = stands h k keeps

  pub row_keeps : (k : Known) (row : Row) → RingsKeep h k → EndpointsKeep h k → IsRestored (k.ring (command_id h)) → MayCome h k row → MayRead h k row → RingsKeep h (learned h k row)
  row_keeps k row keeps endpoints commands comes may r driver = (row_kept k row keeps endpoints commands comes may r driver).rules
