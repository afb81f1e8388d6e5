use Rattle.leases.proofs.BaseWords.{◌*◌, ap}
use Rattle.leases.proofs.rows.taking.table_bytes.Goals as goal

pub returns : goal.returns
returns c = ap (λ n. 16 * n) c.event_segments.ensures.exact
