use Rattle.leases.proofs.Laws.{sym, subst, Row, grown, IsPlaced, HoldsAll, IsNextRow, on_more, other_row}
use Rattle.leases.proofs.rows.rows.note_row.Goals as goal

pub returns-in-Write : goal.returns-in-Write
returns-in-Write g c = record {
  step = on_more c.note_write.result (λ notes list k ts placed clean held.
      subst (λ (r : Row). HoldsAll (g.B.LeaseLog.holds list) c.args.header.now (grown c.args.header.now k r c.args.number ts) c.note_write.new.book c.note_write.new.ranges) (sym c.in-Write.is)
      (notes list k ts _ _ (subst (λ (r : Row). IsPlaced c.args.header.now k r c.args.place.now) c.in-Write.is placed)
      (subst (λ (r : Row). IsNextRow c.args.header.now k ts r c.args.t.now (g.M.WordMemory.words c.args.memory.now)) c.in-Write.is clean) held))
      c.note_write.ensures;
}

pub returns-in-Read : goal.returns-in-Read
returns-in-Read g c = record {
  step = λ list k ts placed clean held.
      let m = g.M.WordMemory.words c.args.memory.now in
      subst (λ (r : Row). HoldsAll (g.B.LeaseLog.holds list) c.args.header.now (grown c.args.header.now k r c.args.number ts) c.note_event.new.book c.args.ranges.now) (sym c.in-Read.is)
      (c.note_event.ensures list k ts m (subst (λ (r : Row). IsPlaced c.args.header.now k r c.args.place.now) c.in-Read.is placed) (subst (λ (r : Row). IsNextRow c.args.header.now k ts r c.args.t.now m) c.in-Read.is clean) held);
}

pub returns-in_default : goal.returns-in_default
returns-in_default g c = record {
  step = on_more c.note_other_row.result
      (λ said list k ts placed clean held. said list k ts (g.M.WordMemory.words c.args.memory.now) (other_row c.args.row.now c.in_default.not-Write c.in_default.not-Read) clean held)
      c.note_other_row.ensures;
}
