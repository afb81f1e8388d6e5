use Rattle.event_rows.proofs.Laws.{subst, Known, FollowsPlaces, succeeded_if, stop_ended, ended_is, stop_keeps_rings, devices_only}
use Rattle.event_rows.proofs.completions.ending.end_command.Goals as goal

pub returns-clause-followed : goal.returns-clause-followed
returns-clause-followed g c = λ k f words may room.
    let h = c.args.header.now in
    let d = c.args.command.now in
    let l : Known = succeeded_if h k c.args.block d in
    let first = c.succeed_by.ensures.followed k f words may room in
    subst (λ (m : Known). FollowsPlaces h m c.succeed_by.new.t.rings.items c.end_stop.new.devices) (ended_is h k c.args.block d)
    (devices_only h l (stop_ended h l d) c.succeed_by.new.t.rings.items c.succeed_by.new.t.devices c.end_stop.new.devices first (stop_keeps_rings h l d) (c.end_stop.ensures h l first.devices))
