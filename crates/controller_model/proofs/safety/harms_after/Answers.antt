use Rattle.controller_model.proofs.Laws.{step_made, ◌∙◌, ap, sym, Look, stepped, look_came, step_nothing}
use Rattle.controller_model.proofs.safety.harms_after.Goals as goal

pub returns-then-comes : goal.returns-then-comes
returns-then-comes g c = λ rows x y before made none f. rw f.header (c.ring_harms.ensures y.world f.follows)

pub returns-in-Look : goal.returns-in-Look
returns-in-Look g c = λ rows x y before made none f.
    let came = look_came x y c.in-Look.ring (sym (ap (λ s. step_made x s) c.in-Look.is) ∙ made) in
    let same = sym f.header ∙ came.0 in
    let step = ap (λ h. stepped h x.live x.world (Look c.in-Look.ring)) same ∙ came.1 in
    rw f.header (c.harms_after_look.ensures x.live x.world y.world (rw (← same) at before) step f.follows)

pub returns-in_default : goal.returns-in_default
returns-in_default g c = λ rows x y before made none f.
    let quiet = step_nothing x y c.args.step.now c.in_default.not-Look (none c.if-comes.false) made in
    let same = sym f.header ∙ quiet.0 in
    rw f.header (c.harms_after_others.ensures x.world y.world (rw (← same) at before) quiet.1 f.follows)
