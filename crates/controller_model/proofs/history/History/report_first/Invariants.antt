use Rattle.controller_model.proofs.Laws.{◌≡◌, drop, KeepsRest}
use Rattle.controller_model.proofs.history.History.report_first.Given as goal

-- so many were taken away
abbrev pub invariant-loop : goal.invariant-loop
invariant-loop l = KeepsRest l.initial.self l.self × (l.self.unreported.items ≡ drop l.counter l.initial.self.unreported.items)
