use Rattle.replayer.proofs.MiddleLaws.{◌+◌, drop, sym, ◌∙◌, refl, arith, Header, List, Row, spot_in, first_notes, one_note, no_note, steps_with}
use Rattle.replayer.proofs.lazy_steps.walk.walk_notes.Goals as goal

pub loop-note-init : goal.loop-note-init
loop-note-init c = record {
  size = refl;
  found = c.in_ok-finder.ensures;
  then_headed = c.requires.then_headed;
  so_far = first_notes c.args.header c.args.rows.now c.args.notes.now c.new-steps.result.items c.new-steps.ensures.items;
}

pub loop-note-preserved : goal.loop-note-preserved
loop-note-preserved c =
    let i = c.loop-note.invariant in
    let h : Header = c.loop-note.header in
    let left : List Row = drop c.loop-note.next c.args.rows.now in
    let after = c.in_ok-next.ensures in
    record {
      size = c.walk_note.ensures.size;
      found = after.found;
      then_headed = after.then_headed;
      so_far =
          (λ j. steps_with (after.header j) (after.next j) c.walk_note.new.steps.items (spot_in c.walk_note.new.pointers) (c.loop-note.note-index + 1) c.args.notes.now)
          ∙ one_note h left c.args.notes.now c.loop-note.note-index c.note-item.result (spot_in c.loop-note.pointers) (spot_in c.walk_note.new.pointers) c.loop-note.steps.items c.walk_note.new.steps.items
          c.loop-note-test.true c.note-item.is c.in_ok-walk_note.ensures.steps c.in_ok-walk_note.ensures.pointers
          ∙ i.so_far;
    }

pub returns : goal.returns
returns c =
    sym (no_note c.loop-note.header (drop c.loop-note.next c.args.rows.now) c.args.notes.now c.loop-note.note-index (spot_in c.loop-note.pointers) c.loop-note.steps.items (omega arith))
    ∙ c.loop-note.invariant.so_far
