use Rattle.bench.proofs.Words.{◌++◌, ◌≡◌, ◌∙◌, ◌∷◌, [], Some, Err, arith, ap, refl, subst, sym, false≢true, IsStep, option_and_then, reverse, reverse-cons, NextRow, IsBeside, RowSeen, scene_reached, step_made, with_row}
use Rattle.bench.proofs.RowsBeside.{beside_rows, reached_more, row_passed, step_refused, step_shown}
use Rattle.bench.proofs.bench.Bench.row.Goals as goal

pub returns-in_ok-add_step-in-Ok-clause-made : goal.returns-in_ok-add_step-in-Ok-clause-made
returns-in_ok-add_step-in-Ok-clause-made g c = λ h past steps told x b.
    let row = c.args.row.now in
    let words = g.M.WordMemory.words in
    let here = beside_rows words c.args.self.now.controller x (row ∷ []) b.beside in
    let made = step_shown (step_made (with_row x row) NextRow) c.in-Ok.field-0 RowSeen (IsBeside words c.row.new.self) (c.in-Ok.ensures.row (with_row x row) here refl) in
    let beside = reached_more (row ∷ []) h (reverse past) steps x b.reached ∙ ap (λ rows. Some (record x { rows = rows ++ row ∷ [] })) b.none_left in (
      made.0,
      made.1,
      record {
        reached =
            subst (λ rows. scene_reached h rows (NextRow ∷ steps) ≡ Some made.0) (sym (reverse-cons row past)) (ap (λ o. option_and_then (λ z. step_made z NextRow) o) beside ∙ made.1);
        none_left = row_passed x made.0 row made.1;
        beside = made.3;
        scheduled = c.in_ok-add_step-in-Ok.ensures ∙ ap (λ l. l ++ NextRow ∷ []) b.scheduled ∙ sym (reverse-cons NextRow steps);
        written = b.written;
        counted = omega (arith, b.counted);
        judged = λ on. c.in_ok-refusal.ensures.passed h past b.judged on;
      },
    )

pub returns-in-Err-NotPossible-clause-impossible : goal.returns-in-Err-NotPossible-clause-impossible
returns-in-Err-NotPossible-clause-impossible g c = λ refusal h past steps told x same b.
    let row = c.args.row.now in
    let words = g.M.WordMemory.words in
    let here = beside_rows words c.args.self.now.controller x (row ∷ []) b.beside in (
      step_refused (step_made (with_row x row) NextRow) RowSeen (IsBeside words c.row.new.self)
          (subst (λ f. IsStep (Err f) (step_made (with_row x row) NextRow) RowSeen (IsBeside words c.row.new.self)) c.in-Err-NotPossible.field-0-is
          (c.in-Err-NotPossible.ensures.row (with_row x row) here refl)),
      record {
        reached = b.reached;
        none_left = b.none_left;
        beside = c.in-Err-NotPossible.ensures.refused x b.beside (ap (λ f. Err f) c.in-Err-NotPossible.field-0-is);
        scheduled = b.scheduled;
        written = b.written;
        counted = b.counted;
        judged = λ on. absurd (false≢true on);
      },
    )
