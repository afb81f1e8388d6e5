use Rattle.controller_model.proofs.Words.{◌∙◌, ap, sym, drop, drop-drop}
use Rattle.controller_model.proofs.rows_left.RowsLeft.pass.Goals as goal

pub returns : goal.returns
returns c = sym (drop-drop 1 c.self.inside.next c.self.inside.rows.now) ∙ ap (λ xs. drop 1 xs) c.self.view_is
