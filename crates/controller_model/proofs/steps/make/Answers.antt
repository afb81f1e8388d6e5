use Rattle.controller_model.proofs.Laws.{◌∙◌, sym, option_map, noting_post, shows, made, looked, reported, finished, made_idle, acts_on, runs_on, halts, other_posted, scribbled}
use Rattle.controller_model.proofs.steps.make.Goals as goal

pub returns-then-is_idle-clause-step : goal.returns-then-is_idle-clause-step
returns-then-is_idle-clause-step g c = λ w other lists f.
    let h = c.args.rings.now.declared in
    rw (made_idle h w c.args.rings.now.live c.args.step.now other (sym (c.is_idle.ensures h (g.M.WordMemory.words c.args.memory.now) w f) ∙ c.if-is_idle.true)) tt

pub returns-in-NextRow-clause-step : goal.returns-in-NextRow-clause-step
returns-in-NextRow-clause-step g c = λ w other lists f. absurd (other c.in-NextRow.is)

pub returns-in-Look-clause-step : goal.returns-in-Look-clause-step
unfolding made shows
returns-in-Look-clause-step g c = λ w other lists f.
    let h = c.args.rings.now.declared in
    let going = rw c.in-Look.is at (sym (c.is_idle.ensures h (g.M.WordMemory.words c.args.memory.now) w f) ∙ c.if-is_idle.false) in
    simp c.in-Look.is (rw (acts_on h w (looked h c.args.rings.now.live w c.in-Look.ring) going) (c.look.ensures.step w f))

pub returns-in-Report-clause-step : goal.returns-in-Report-clause-step
unfolding made shows
returns-in-Report-clause-step g c = λ w other lists f.
    let h = c.args.rings.now.declared in
    let words = g.M.WordMemory.words in
    let going = rw c.in-Report.is at (sym (c.is_idle.ensures h (words c.args.memory.now) w f) ∙ c.if-is_idle.false) in
    let made = reported h w c.in-Report.event in
    simp c.in-Report.is (rw (acts_on h w (option_map (noting_post c.args.rings.now.live) made) going)
    (c.posted.ensures.step h (words c.report-made.new.memory) made _ (c.report-made.ensures.step w f)))

pub returns-in-Finish-clause-step : goal.returns-in-Finish-clause-step
unfolding made shows
returns-in-Finish-clause-step g c = λ w other lists f.
    let h = c.args.rings.now.declared in
    let words = g.M.WordMemory.words in
    let going = rw c.in-Finish.is at (sym (c.is_idle.ensures h (words c.args.memory.now) w f) ∙ c.if-is_idle.false) in
    let made = finished h c.args.rings.now.live w c.in-Finish.event in
    simp c.in-Finish.is (rw (acts_on h w (option_map (noting_post c.args.rings.now.live) made) going)
    (c.posted-in-Finish.ensures.step h (words c.finish-made.new.memory) made _ (c.finish-made.ensures.step w lists f)))

pub returns-in-Other-clause-step : goal.returns-in-Other-clause-step
unfolding made shows
returns-in-Other-clause-step g c = λ w other lists f.
    let h = c.args.rings.now.declared in
    let words = g.M.WordMemory.words in
    let going = rw c.in-Other.is at (sym (c.is_idle.ensures h (words c.args.memory.now) w f) ∙ c.if-is_idle.false) in
    let made = other_posted h w c.in-Other.event in
    simp c.in-Other.is (rw (acts_on h w (option_map (noting_post c.args.rings.now.live) made) going)
    (c.posted-in-Other.ensures.step h (words c.post_other-made.new.memory) made _ (c.post_other-made.ensures.step w f)))

pub returns-in-Scribble-clause-step : goal.returns-in-Scribble-clause-step
unfolding made shows
returns-in-Scribble-clause-step g c = λ w other lists f.
    let h = c.args.rings.now.declared in
    let going = rw c.in-Scribble.is at (sym (c.is_idle.ensures h (g.M.WordMemory.words c.args.memory.now) w f) ∙ c.if-is_idle.false) in
    simp c.in-Scribble.is (rw (runs_on h w (scribbled h w c.in-Scribble.at c.in-Scribble.word) going) (c.scribble.ensures.step w f))

pub returns-in-Halt-clause-step : goal.returns-in-Halt-clause-step
unfolding made shows
returns-in-Halt-clause-step g c = λ w other lists f.
    let h = c.args.rings.now.declared in
    let words = g.M.WordMemory.words c.args.memory.now in
    let going = rw c.in-Halt.is at (sym (c.is_idle.ensures h words w f) ∙ c.if-is_idle.false) in
    simp c.in-Halt.is (rw (runs_on h w (halts h w) going) (c.halt.ensures.step h words w f))
