use Rattle.driver_rows.proofs.Laws.{◌∙◌, bound_so, had_so}
use Rattle.driver_rows.proofs.rings.freeing.is_had.Goals as goal

pub returns-then-has_endpoint : goal.returns-then-has_endpoint
returns-then-has_endpoint c = λ h k m f keeps. c.if-has_endpoint.true ∙ had_so h k keeps c.args.id (c.has_endpoint.ensures.some c.if-has_endpoint.true k f.devices)

pub returns-else-has_endpoint : goal.returns-else-has_endpoint
returns-else-has_endpoint c = λ h k m f keeps. c.contains.ensures ∙ f.bound c.args.id ∙ bound_so h k c.args.id (c.has_endpoint.ensures.none c.if-has_endpoint.false k f.devices)
