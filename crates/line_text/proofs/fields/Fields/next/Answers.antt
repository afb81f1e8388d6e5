use Rattle.line_text.proofs.Words.{sym, ◌∙◌, ap, fields_in, fields_of, is_space}
use Rattle.line_text.proofs.Cuts.{cut_behind, uncut}
use Rattle.line_text.proofs.fields.Fields.next.Goals as goal

pub returns-in-Some-clause-some : goal.returns-in-Some-clause-some
unfolding fields_of
returns-in-Some-clause-some c =
    let e = c.in-Some.ensures in
    sym c.self.view_is ∙ ap fields_in c.in_ok-rest.was ∙ cut_behind is_space c.in_ok-rest.rest.now c.in-Some.end e.0.high e.1 e.0.before

pub returns-in-None-clause-some : goal.returns-in-None-clause-some
unfolding fields_of
returns-in-None-clause-some c = sym c.self.view_is ∙ ap fields_in c.in_ok-rest.was ∙ uncut is_space c.in_ok-rest.rest.now c.in-None.ensures
