use Rattle.driver_rows.proofs.Words.{refl, ◌∙◌, awaits_binding}
use Rattle.driver_rows.proofs.bindings.bound.awaits_binding.Goals as goal

pub returns-then-not-is_open : goal.returns-then-not-is_open
unfolding awaits_binding
returns-then-not-is_open c = λ h k shape m f follows. rw (← c.is_open.ensures shape (k.ring c.args.ring) follows, c.if-not-is_open.true) refl

pub returns : goal.returns
unfolding awaits_binding
returns c = λ h k shape m f follows. rw (← c.is_open.ensures shape (k.ring c.args.ring) follows, c.if-not-is_open.false) (c.contains.ensures ∙ f.bound c.args.ring)
