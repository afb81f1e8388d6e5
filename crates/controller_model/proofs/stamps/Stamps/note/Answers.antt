use Rattle.controller_model.proofs.Laws.{◌∙◌, ap, sym, same_Some, changed_at, written_at, still_watched}
use Rattle.controller_model.proofs.stamps.Stamps.note.Goals as goal

pub invariant_of-self-clause-watched : goal.invariant_of-self-clause-watched
invariant_of-self-clause-watched c = λ w e.
    let old = c.in-Some.watch in
    rw (same_Some old w e) at
    (c.args.self.now.watched old c.in-Some.is ∙ still_watched old.block old.first old.words c.args.at c.args.is_changed (rw c.get.ensures.same at (sym c.may_be_touched.ensures ∙ c.if-may_be_touched.false))
    (changed_at c.args.self.now) (written_at c.args.self.now) (changed_at c.put.new.self) (written_at c.put.new.self) c.args.step c.in_ok-put.ensures.changed c.in_ok-put.ensures.written)

pub returns-then-may_be_touched-clause-changed : goal.returns-then-may_be_touched-clause-changed
returns-then-may_be_touched-clause-changed c = λ a. ap (λ y. y.changed a) (c.watch.ensures (λ _. 0)) ∙ c.in_ok-put.ensures.changed a

pub returns-then-may_be_touched-clause-written : goal.returns-then-may_be_touched-clause-written
returns-then-may_be_touched-clause-written c = λ a. ap (λ y. y.written a) (c.watch.ensures (λ _. 0)) ∙ c.in_ok-put.ensures.written a
