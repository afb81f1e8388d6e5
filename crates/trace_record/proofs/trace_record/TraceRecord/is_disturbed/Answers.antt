use Rattle.trace_record.proofs.BaseWords.{◌∙◌, ◌&&◌, ap, sym, not, eq-eqb, ne_eqb, list_any, covers}
use Rattle.traces.specs.Versions.{has_runs}
use Rattle.ownership_rules.specs.Older.{stands_beside_free}
use Rattle.ownership_rules.specs.OpenLeases.{open_ranges}
use Rattle.ownership_rules.specs.Writes.{clears_chain}
use Rattle.trace_record.proofs.OpenAreas.{owned_if_same, owned_if_changed}
use Rattle.trace_record.proofs.trace_record.TraceRecord.is_disturbed.Goals as goal

pub returns-then-standing-word : goal.returns-then-standing-word
returns-then-standing-word g c = λ headed k f placed newer leased.
    let h = c.args.header.now in
    let same = eq-eqb (k.memory c.args.at) c.args.word (f.words c.args.at ∙ sym c.word-standing.ensures.same ∙ c.if-standing-word.true) in
    c.is_the_controllers.ensures h k (g.M.WordMemory.words c.args.memory.now) f ∙ sym (owned_if_same h k c.args.at c.args.word leased newer same)

pub returns : goal.returns
returns g c = λ headed k f placed newer leased.
    let h = c.args.header.now in
    let stands = f.words c.args.at ∙ sym c.word-standing.ensures.same in
    let other = ne_eqb (k.memory c.args.at) c.args.word (λ same. c.if-standing-word.false (sym stands ∙ same)) in
    ap not (c.may_unchain.ensures headed k (g.M.WordMemory.words c.args.memory.now) f placed)
    ∙ ap (λ s. not (has_runs h.version && clears_chain s c.args.word && stands_beside_free h k c.args.at && not (list_any (covers h c.args.at 4) (open_ranges h k)))) (sym stands)
    ∙ sym (owned_if_changed h k c.args.at c.args.word leased newer other)
