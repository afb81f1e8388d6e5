use Rattle.controller_model.proofs.Words.{◌∙◌, sym}
use Rattle.controller_model.proofs.registers.write_register.Goals as goal

pub returns-then-resets : goal.returns-then-resets
returns-then-resets c = λ words w f.
    simp (sym (c.resets.ensures c.args.header.now words w f) ∙ c.if-resets.true) (c.reset.ensures c.args.header.now words w f)

pub returns : goal.returns
returns c = λ words w f.
    simp (sym (c.resets.ensures c.args.header.now words w f) ∙ c.if-resets.false) (c.in_ok-write_value.ensures words w f)
