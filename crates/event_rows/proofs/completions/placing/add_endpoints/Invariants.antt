use Rattle.event_rows.proofs.Words.{Command, places_from, Known, MayChangeAll, FollowsPlaces, HasDone, KeepsRest}
use Rattle.event_rows.proofs.completions.placing.add_endpoints.Given as goal

-- the endpoints below the index are placed
abbrev pub invariant-loop-index : goal.invariant-loop-index
invariant-loop-index g l =
    KeepsRest l.initial.t l.t ×
    ((c : Command) (k : Known) → FollowsPlaces l.header k l.initial.t.rings.items l.initial.t.devices →
    MayChangeAll l.header c k (places_from l.input.size (g.M.WordMemory.words l.input.memory) l.slot l.input.address 2) →
    HasDone l.header c k (places_from l.input.size (g.M.WordMemory.words l.input.memory) l.slot l.input.address 2)
    (places_from l.input.size (g.M.WordMemory.words l.input.memory) l.slot l.input.address l.index) l.t.rings.items l.t.devices)
