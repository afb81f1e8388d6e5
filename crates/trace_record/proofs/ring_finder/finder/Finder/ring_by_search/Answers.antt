use Rattle.trace_record.proofs.Laws.{get_or, sym, ap, ◌∙◌, Ring, touches, nothing_before, ring_hit, ring_miss}
use Rattle.trace_record.proofs.ring_finder.finder.Finder.ring_by_search.Goals as goal

pub returns-in_default : goal.returns-in_default
returns-in_default c =
    nothing_before c.args.header.now c.requires.headed c.args.self.now c.requires.found c.args.address c.requires.aligned c.in_default.ensures.last

pub returns-then-overlaps : goal.returns-then-overlaps
returns-then-overlaps c =
    ring_hit c.args.header.now c.requires.headed c.args.self.now c.requires.found c.args.address c.requires.aligned c.in-Some.number c.in-Some.ensures.last c.index-rings-number.result
    (c.index-rings-number.is ∙ ap (λ xs. get_or xs c.in-Some.number c.index-rings-number.result) c.as_slice-rings.ensures) (ap (λ (r : Ring). touches r.shape c.args.address 4) c.index-rings-number.is ∙ sym c.overlaps.ensures ∙ c.if-overlaps.true)

pub returns-else-overlaps : goal.returns-else-overlaps
returns-else-overlaps c =
    ring_miss c.args.header.now c.requires.headed c.args.self.now c.requires.found c.args.address c.requires.aligned c.in-Some.number c.in-Some.ensures.last c.index-rings-number.result
    (c.index-rings-number.is ∙ ap (λ xs. get_or xs c.in-Some.number c.index-rings-number.result) c.as_slice-rings.ensures) (ap (λ (r : Ring). touches r.shape c.args.address 4) c.index-rings-number.is ∙ sym c.overlaps.ensures ∙ c.if-overlaps.false)
