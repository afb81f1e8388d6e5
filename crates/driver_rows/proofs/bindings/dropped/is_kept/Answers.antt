use Rattle.driver_rows.proofs.Laws.{◌∙◌, ap, sym, not, kept_is, left_is, none_keeps}
use Rattle.driver_rows.proofs.bindings.dropped.is_kept.Goals as goal

pub returns-then-has_endpoint : goal.returns-then-has_endpoint
returns-then-has_endpoint c = λ h k command f keeps holds.
    let at = c.has_endpoint.ensures.some c.if-has_endpoint.true k f in
    ap not (c.contains.ensures ∙ holds c.args.ring ∙ left_is h k keeps command c.args.ring at) ∙ sym (kept_is h k keeps command c.args.ring at)

pub returns-else-has_endpoint : goal.returns-else-has_endpoint
returns-else-has_endpoint c = λ h k command f keeps holds. c.if-has_endpoint.false ∙ sym (none_keeps h k keeps command c.args.ring (λ s i. c.has_endpoint.ensures.none c.if-has_endpoint.false k f s i))
