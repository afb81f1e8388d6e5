use Rattle.replayer.proofs.Words.{◌≡◌, ◌==◌, ◌+◌, length, filter, not}
use Rattle.replayer.proofs.lazy_steps.there.drop_ring.Given as goal

-- all rings that were taken out had this ID
abbrev pub invariant-loop : goal.invariant-loop
invariant-loop l = record {
  head : l.header ≡ record l.initial.header { rings = l.header.rings };
  rest : filter (λ r. not (r.id == l.id)) l.header.rings ≡ filter (λ r. not (r.id == l.id)) l.initial.header.rings;
  fewer : length l.header.rings + l.counter ≡ length l.initial.header.rings;
}
