use Rattle.controller_model.proofs.Words.{◌∙◌, ap, list_any, may_come, is_in_way, not}
use Rattle.controller_model.proofs.ring_rows.may_come.Goals as goal

pub returns : goal.returns
unfolding may_come
returns c = ap not (c.some_in_way.ensures ∙ ap (λ rings. list_any (is_in_way c.args.ring.now) rings) c.as_slice.ensures)
