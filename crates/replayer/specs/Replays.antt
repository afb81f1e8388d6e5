-- What a replay answers
use Rattle.std.specs.Prelude.{◌≡◌, Result, Ok, Err}
use Rattle.std.specs.declared.vec.Vec.{Vec}
use Rattle.std.specs.declared.alloc.Global.{Global}
use Rattle.world_state.specs.Replays.{NoHarm, NotPossible as NotPossibleAt, Harmful as HarmfulAt}
use Rattle.controller_model.specs.Showing.{Replay}
use Rattle.controller_model.specs.declared.seen.Seen.{Seen}
use Rattle.replayer.specs.declared.fault.ReplayFault.{ReplayFault}
use Rattle.replayer.specs.declared.fault.ReplayFault.TheVariants.{NotPossible, Harmful, Memory}

-- the answer tells this replay: what was seen, and how it ends; want of memory tells nothing
abbrev pub IsReplay : Replay → Result (Vec Seen Global) ReplayFault → Type 0
IsReplay r (Ok seen) = (seen.items ≡ r.seen) × (r.ending ≡ NoHarm)
IsReplay r (Err (NotPossible n seen)) = (seen.items ≡ r.seen) × (r.ending ≡ NotPossibleAt n)
IsReplay r (Err (Harmful n harm seen)) = (seen.items ≡ r.seen) × (r.ending ≡ HarmfulAt n harm)
IsReplay r (Err Memory) = Unit {0}
