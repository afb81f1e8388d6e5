use Rattle.event_rows.proofs.Words.{◌&&◌, nat_lt, input_add_flag, has_isochronous, Header, Known, typed, FollowsDevices}
use Rattle.event_rows.proofs.completions.types.note_types.Given as goal

-- the endpoints below the index have their types
abbrev pub invariant-loop-index : goal.invariant-loop-index
invariant-loop-index g l =
    (h : Header) (k : Known) → FollowsDevices k l.initial.devices →
    FollowsDevices (typed h k l.named.slot (λ i. input_add_flag (g.M.WordMemory.words l.memory) l.named.context i && nat_lt i l.index)
    (has_isochronous l.size (g.M.WordMemory.words l.memory) l.named.context)) l.devices
