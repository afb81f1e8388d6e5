use Rattle.trace_record.proofs.Laws.{◌≡◌, ◌∙◌, Option, Some, None, ap, sym, IfSome, List, true, list_any, Command, FollowsUnfinished, as_list, is_about, kept_of, kept_names, found_about}
use Rattle.trace_record.proofs.device_record.unfinished.UnfinishedCommands.of_endpoint.Goals as goal

pub returns-clause-one : goal.returns-clause-one
returns-clause-one c = λ all p f only. ap (λ o. list_any p (as_list o)) c.kept.ensures ∙ found_about c.args.self.now all f c.args.slot c.args.endpoint p only

pub returns-clause-named : goal.returns-clause-named
returns-clause-named c = by c.kept.result c.kept.ensures
  where
    by : (o : Option Command) → o ≡ kept_of c.args.self.now c.args.slot c.args.endpoint → IfSome o (λ d. (all : List Command) → FollowsUnfinished all c.args.self.now → is_about c.args.slot c.args.endpoint d ≡ true)
    by None is = tt
    by (Some d) is = λ all f. kept_names c.args.self.now all f c.args.slot c.args.endpoint d (sym is)
