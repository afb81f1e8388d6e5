use Rattle.controller_model.proofs.Words.{◌+◌, ◌*◌, ◌∙◌, ap, sym, nat_lt, arith, changed_at, lt-ltb, any_in_range}
use Rattle.controller_model.proofs.stamps.Stamps.is_changed_since.Goals as goal

pub returns-then-changed_behind-step : goal.returns-then-changed_behind-step
returns-then-changed_behind-step c =
    sym (any_in_range (λ n. nat_lt c.args.step (changed_at c.args.self.now (c.args.address + 4 * n))) 0 c.args.words c.loop-i.i (omega arith) (omega arith)
    (ap (λ m. nat_lt c.args.step m) (sym c.changed_behind.ensures) ∙ lt-ltb c.args.step c.changed_behind.result (omega arith)))
