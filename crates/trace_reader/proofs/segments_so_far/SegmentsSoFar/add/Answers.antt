use Rattle.trace_reader.proofs.Laws.{◌≡◌, ◌||◌, ◌∙◌, false, ap, map, rules, segments_overlap, list_any, segment_of, added}
use Rattle.trace_reader.proofs.segments_so_far.SegmentsSoFar.add.Goals as goal

pub invariant_of-self-2 : goal.invariant_of-self-2
invariant_of-self-2 c =
    let s = c.args.segment in
    let free : list_any (segments_overlap s) (map segment_of c.self.inside.counts.entries) ≡ false = ap (list_any (segments_overlap s)) c.self.view_is ∙ c.requires.free in
    rw c.in_ok-insert.ensures.entries (added s.base s.count (search rules) c.requires.some c.self.inside.counts.entries c.self.invariant free).apart

pub returns : goal.returns
returns c = λ p.
    let s = c.args.segment in
    let free : list_any (segments_overlap s) (map segment_of c.self.inside.counts.entries) ≡ false = ap (list_any (segments_overlap s)) c.self.view_is ∙ c.requires.free in
    ap (λ es. list_any p (map segment_of es)) c.in_ok-insert.ensures.entries
    ∙ (added s.base s.count (search rules) c.requires.some c.self.inside.counts.entries c.self.invariant free).any p ∙ ap (λ ts. p s || list_any p ts) c.self.view_is
