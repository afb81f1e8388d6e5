use Rattle.driver_rows.proofs.Words.{sym, refl, ◌∙◌}
use Rattle.driver_rows.proofs.writes.checks.block_refusal.Goals as goal

pub returns-then-is_being_moved : goal.returns-then-is_being_moved
returns-then-is_being_moved c = λ h k shape m f follows. rw (sym (c.is_being_moved.ensures h k m f) ∙ c.if-is_being_moved.true) refl

pub returns-then-awaits_binding : goal.returns-then-awaits_binding
returns-then-awaits_binding c = λ h k shape m f follows.
    rw (sym (c.is_being_moved.ensures h k m f) ∙ c.if-is_being_moved.false, sym (c.awaits_binding.ensures h k shape m f follows) ∙ c.if-awaits_binding.true) refl

pub returns : goal.returns
returns c = λ h k shape m f follows.
    rw (sym (c.is_being_moved.ensures h k m f) ∙ c.if-is_being_moved.false, sym (c.awaits_binding.ensures h k shape m f follows) ∙ c.if-awaits_binding.false) refl
