use Rattle.command_runs.proofs.Laws.{text_of, accepted_by, refused_by}
use Rattle.command_runs.proofs.version_note.breaks_no_rule_of.Goals.{in-Whole, in-Refused}
use Rattle.command_runs.proofs.version_note.breaks_no_rule_of.Goals as goal

pub returns : goal.returns
returns c =
    let v = c.args.version in
    let trace = text_of c.args.trace.now in
    elim c.match-branch-4.branch [
      | in-Whole w ↦
          let whole = rw c.as_slice.ensures at (rw w.in-Whole.is at c.in_ok-refused.ensures.whole) in
          rw w.result-is (accepted_by v trace _ c.args.row c.in_ok-header.ensures whole.verdict)
      | in-Refused w ↦
          rw w.result-is (refused_by v trace _ c.args.row c.in_ok-header.ensures w.in-Refused.refused w.in-Refused.refusal
          (rw c.as_slice.ensures at (rw w.in-Refused.is at c.in_ok-refused.ensures.refused)))
    ]
