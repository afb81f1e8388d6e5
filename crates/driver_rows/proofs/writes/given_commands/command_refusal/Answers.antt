use Rattle.driver_rows.proofs.Words.{sym, refl, ◌∙◌}
use Rattle.driver_rows.proofs.writes.given_commands.command_refusal.Goals as goal

pub has_left_out_endpoint-requires : goal.has_left_out_endpoint-requires
has_left_out_endpoint-requires g c = c.is_bad_command.ensures.inside c.if-is_bad_command.false

pub returns-then-has_busy_slot-clause-first : goal.returns-then-has_busy_slot-clause-first
returns-then-has_busy_slot-clause-first g c = λ k f d fit. rw (sym (c.is_bad_command.ensures.rule k f) ∙ c.if-is_bad_command.false, sym (c.has_busy_slot.ensures k f fit (c.is_bad_command.ensures.inside c.if-is_bad_command.false) c.requires.low) ∙ c.if-has_busy_slot.true) refl

pub returns-then-has_left_out_endpoint-clause-first : goal.returns-then-has_left_out_endpoint-clause-first
returns-then-has_left_out_endpoint-clause-first g c = λ k f d fit.
    rw (sym (c.is_bad_command.ensures.rule k f) ∙ c.if-is_bad_command.false, sym (c.has_busy_slot.ensures k f fit (c.is_bad_command.ensures.inside c.if-is_bad_command.false) c.requires.low) ∙ c.if-has_busy_slot.false, sym (c.has_left_out_endpoint.ensures k f.words) ∙ c.if-has_left_out_endpoint.true) refl

pub returns-then-places_badly-clause-first : goal.returns-then-places_badly-clause-first
returns-then-places_badly-clause-first g c = λ k f d fit.
    rw (
      sym (c.is_bad_command.ensures.rule k f) ∙ c.if-is_bad_command.false,
      sym (c.has_busy_slot.ensures k f fit (c.is_bad_command.ensures.inside c.if-is_bad_command.false) c.requires.low) ∙ c.if-has_busy_slot.false,
      sym (c.has_left_out_endpoint.ensures k f.words) ∙ c.if-has_left_out_endpoint.false,
      sym (c.places_badly.ensures k f d fit (c.is_bad_command.ensures.inside c.if-is_bad_command.false)) ∙ c.if-places_badly.true,
    ) refl

pub returns-clause-first : goal.returns-clause-first
returns-clause-first g c = λ k f d fit.
    rw (
      sym (c.is_bad_command.ensures.rule k f) ∙ c.if-is_bad_command.false,
      sym (c.has_busy_slot.ensures k f fit (c.is_bad_command.ensures.inside c.if-is_bad_command.false) c.requires.low) ∙ c.if-has_busy_slot.false,
      sym (c.has_left_out_endpoint.ensures k f.words) ∙ c.if-has_left_out_endpoint.false,
      sym (c.places_badly.ensures k f d fit (c.is_bad_command.ensures.inside c.if-is_bad_command.false)) ∙ c.if-places_badly.false,
    ) refl

pub returns-clause-fits : goal.returns-clause-fits
returns-clause-fits g c = c.is_bad_command.ensures.inside c.if-is_bad_command.false
