use Rattle.trace_reader.proofs.Laws.{◌≡◌, ◌+◌, ◌-◌, ◌*◌, ◌^◌, ◌∙◌, ap, min, rules, sym, segments_overlap, list_any, last_met, none_met}
use Rattle.trace_reader.proofs.segments_so_far.SegmentsSoFar.overlaps.Goals as goal

pub returns-in_default : goal.returns-in_default
returns-in_default c =
    let s = c.args.segment in
    let last = c.saturating_add-last.result in
    let end : last ≡ min (s.base + (16 * s.count - 1)) (2 ^ 64 - 1) = search rules in
    sym (ap (list_any (segments_overlap s)) (sym c.self.view_is) ∙ none_met s last end c.self.inside.counts.entries c.self.invariant (sym (c.range.ensures.between tt) ∙ c.in_default.ensures.steps.0))

pub returns : goal.returns
returns c =
    let s = c.args.segment in
    let last = c.saturating_add-last.result in
    let end : last ≡ min (s.base + (16 * s.count - 1)) (2 ^ 64 - 1) = search rules in
    c.overlaps.ensures
    ∙ last_met s last end c.self.inside.counts.entries c.next_back.new.self (c.in-Some.field-0-0.now, c.in-Some.field-0-1.now) c.self.invariant (sym (c.range.ensures.between tt) ∙ c.in-Some.ensures.steps)
    ∙ ap (list_any (segments_overlap s)) c.self.view_is
