use Rattle.bench.proofs.Words.{[]}
use Rattle.bench.proofs.live.Live.words.Goals as goal

pub returns-clause-rows : goal.returns-clause-rows
returns-clause-rows g c = λ h past b.
    let more = c.in_ok-let_go_on.ensures.rows h past b in
    (more.0, [], more.2, (c.drain.ensures.told h past more.0 more.1 more.2 more.3).1)
