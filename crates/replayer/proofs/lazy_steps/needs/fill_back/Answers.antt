use Rattle.replayer.proofs.MiddleLaws.{refl, ℕ, ◌-◌, ◌<◌, length, arith, get_or, drop, ◌∙◌, ap, length-replicate, need_in, none_filled, all_zero, turn_notes, turn_table}
use Rattle.replayer.proofs.lazy_steps.needs.fill_back.Goals as goal

pub loop-left-init : goal.loop-left-init
loop-left-init c = record {
  within = omega arith;
  notes = none_filled c.args.notes.now;
  size = ap length c.requires ∙ length-replicate {A = ℕ} 256 0;
  table = all_zero c.args.notes.now c.args.needs.now c.requires;
}

pub loop-left-preserved : goal.loop-left-preserved
loop-left-preserved c =
    let s = c.args.notes.now in
    let i = c.loop-left.invariant in
    let left = c.loop-left.left in
    let some_left : 0 < left = omega arith in
    record {
      within = omega arith;
      notes = turn_notes s c.loop-left.notes (left - 1) left (omega arith) (omega arith) i.notes (get_or c.loop-left.notes (left - 1) c.index-notes-last.result) c.filled_note-filled.result c.index-notes-last.result refl
          (c.filled_note-filled.ensures (need_in (drop left s)) i.table);
      size = c.go_before.ensures.size;
      table = turn_table s c.loop-left.notes (left - 1) left (omega arith) (omega arith) i.notes c.go_before.new.needs (get_or c.loop-left.notes (left - 1) c.index-notes-last-in-loop-left.result) c.index-notes-last-in-loop-left.result refl
          (c.go_before.ensures.needs (need_in (drop left s)) i.table);
    }
