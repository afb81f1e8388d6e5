use Rattle.ownership_checker.proofs.Laws.{arith, rules, List, Header, Known, RowPlace, Row, known_now, on_more, IsPlaced, IsRingPassed, placed_other, refused_too}
use Rattle.ownership_checker.proofs.pass.ring_pass.RingPass.row.Goals.{After-add_command, In_default, in_default-via-in-Read+else-eq, in_default-via-in_default}
use Rattle.ownership_checker.proofs.pass.ring_pass.RingPass.row.Goals as goal

-- where the word lies that is written, and which command it gives
written : (g : _) (c : After-add_command g) (h : Header) (past : List Row) → IsRingPassed g.M.WordMemory.words h past c.args.self.now →
    IsPlaced c.args.self.now.header (known_now h past) c.args.row.now c.add_command.new.place
written g c h past p = grind arith

pub returns-in-Write-clause-passed : goal.returns-in-Write-clause-passed
returns-in-Write-clause-passed g c =
    on_more c.placed_row.result (λ ok h past p. ok h past p (written g (goal.at.returns-in-Write-clause-passed g c).After-add_command h past p)) c.placed_row.ensures.passed

pub returns-in-Write-clause-logged : goal.returns-in-Write-clause-logged
returns-in-Write-clause-logged g c =
    on_more c.placed_row.result (λ ok list h first past p. ok list h first past p (written g (goal.at.returns-in-Write-clause-logged g c).After-add_command h past p)) c.placed_row.ensures.logged

pub returns-in-Write-clause-refused : goal.returns-in-Write-clause-refused
returns-in-Write-clause-refused g c =
    refused_too c.placed_row.result _ _ (λ r least h past p. least h past p (written g (goal.at.returns-in-Write-clause-refused g c).After-add_command h past p)) c.placed_row.ensures.refused

-- nothing is said of another row
other : (g : _) (c : In_default g) (k : Known) (p : RowPlace) → IsPlaced c.args.self.now.header k c.args.row.now p
other g c k p = elim c.in_default.branch [
  | in_default-via-in-Read+else-eq w ↦ search (rules, w.in-Read.is, w.kind.ensures, w.eq.ensures, w.if-eq.false)
  | in_default-via-in_default w ↦ placed_other c.args.self.now.header k c.args.row.now p w.in_default.not-Write w.in_default.not-Read
]

pub returns-in_default-clause-passed : goal.returns-in_default-clause-passed
returns-in_default-clause-passed g c = on_more c.placed_row-in_default.result (λ ok h past p. ok h past p (other g (goal.at.returns-in_default-clause-passed g c).In_default (known_now h past) _)) c.placed_row-in_default.ensures.passed

pub returns-in_default-clause-logged : goal.returns-in_default-clause-logged
returns-in_default-clause-logged g c =
    on_more c.placed_row-in_default.result (λ ok list h first past p. ok list h first past p (other g (goal.at.returns-in_default-clause-logged g c).In_default (known_now h past) _)) c.placed_row-in_default.ensures.logged

pub returns-in_default-clause-refused : goal.returns-in_default-clause-refused
returns-in_default-clause-refused g c =
    refused_too c.placed_row-in_default.result _ _ (λ r least h past p. least h past p (other g (goal.at.returns-in_default-clause-refused g c).In_default (known_now h past) _)) c.placed_row-in_default.ensures.refused
