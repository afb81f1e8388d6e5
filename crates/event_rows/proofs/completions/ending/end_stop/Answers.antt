use Rattle.event_rows.proofs.Laws.{subst, Known, FollowsDevices, stops_not}
use Rattle.event_rows.proofs.completions.ending.end_stop.Goals as goal

pub returns-in_default : goal.returns-in_default
returns-in_default c = λ h k f. subst (λ (l : Known). FollowsDevices l c.args.devices.now) (stops_not h k c.args.command.now c.in_default.not-StopEndpoint) f
