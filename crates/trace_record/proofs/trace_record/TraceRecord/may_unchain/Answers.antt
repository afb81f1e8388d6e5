use Rattle.trace_record.proofs.Laws.{◌≡◌, ◌∙◌, ◌&&◌, Bool, sym, ap, not, list_any}
use Rattle.trace_record.proofs.BaseWords.{covers}
use Rattle.traces.specs.Versions.{has_runs}
use Rattle.ownership_rules.specs.Older.{stands_beside_free}
use Rattle.ownership_rules.specs.OpenLeases.{open_ranges}
use Rattle.ownership_rules.specs.Writes.{clears_chain}
use Rattle.trace_record.proofs.trace_record.TraceRecord.may_unchain.Goals.{then-has_runs, else-has_runs, then-clears_chain, else-clears_chain}
use Rattle.trace_record.proofs.trace_record.TraceRecord.may_unchain.Goals as goal

pub returns-then-stands_beside_free : goal.returns-then-stands_beside_free
returns-then-stands_beside_free c = λ headed k memory f placed.
    let h = c.args.header.now in
    let clears : Bool = clears_chain c.args.standing c.args.word in
    let beside : Bool = stands_beside_free h k c.args.at in
    let ranges : Bool = list_any (covers h c.args.at 4) (open_ranges h k) in
    let first : c.if-has_runs.value ≡ (has_runs h.version && clears) = elim c.if-has_runs.branch [
      | then-has_runs w ↦ w.value-is ∙ w.clears_chain.ensures ∙ sym (ap (λ b. b && clears) (sym c.has_runs.ensures ∙ w.if-has_runs.true))
      | else-has_runs w ↦ w.value-is ∙ w.if-has_runs.false ∙ sym (ap (λ b. b && clears) (sym c.has_runs.ensures ∙ w.if-has_runs.false))
    ] in
    let second : c.if-clears_chain.value ≡ ((has_runs h.version && clears) && beside) = elim c.if-clears_chain.branch [
      | then-clears_chain w ↦ w.value-is ∙ w.stands_beside_free.ensures headed k c.args.word f.rings placed ∙ sym (ap (λ b. b && beside) (sym first ∙ w.if-clears_chain.true))
      | else-clears_chain w ↦ w.value-is ∙ w.if-clears_chain.false ∙ sym (ap (λ b. b && beside) (sym first ∙ w.if-clears_chain.false))
    ] in
    ap not (c.is_in_range.ensures h k memory f) ∙ sym (ap (λ b. b && not ranges) (sym second ∙ c.if-stands_beside_free.true))
