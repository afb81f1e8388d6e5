use Rattle.event_rows.proofs.Laws.{◌≡◌, get_or, ap, sym, ◌∙◌, subst, get_or_from_slice_get, Shape, Ring, FollowsRing, can_report, code_told, slot, among_at, shape_there, read_at, reported_at}
use Rattle.event_rows.proofs.TransferEvents.Reports.{driven}
use Rattle.event_rows.proofs.transfers.reporting.can_report_at.Goals as goal

pub returns : goal.returns
returns c = λ k m b f keeps report is.
    let h = c.args.header.now in
    let n = c.args.at.number in
    let l = c.in-Some.ensures.lookup in
    let there = read_at c.deref.result.now c.args.t.now.rings.items n c.in-Some.known.now c.deref.ensures.value l.3.0 l.1 in
    let same : is.ring ≡ get_or c.as_slice-rings.result.now n c.index-rings-at.result =
    sym (ap (λ xs. get_or xs n c.index-rings-at.result) c.as_slice-rings.ensures ∙ get_or_from_slice_get h.rings n is.ring c.index-rings-at.result is.here) in
    let shape = ap (λ (q : Ring). q.shape) same in
    c.can_report.ensures h k m is.ring.id c.requires.headed c.requires.found f keeps (shape_there h c.requires.headed is.ring (among_at h.rings n is.ring is.here) ∙ shape)
    (subst (λ (s : Shape). FollowsRing s (k.ring is.ring.id) c.in-Some.known.now) shape (f.rings.each n is.ring c.in-Some.known.now is.here there (driven is.ring.shape.kind is.transfer)))
    ∙ ap (λ x. can_report h k x c.args.report.slot c.args.report.index is.ring.id c.args.at.spot) report.code
    ∙ ap (λ s. can_report h k (code_told h k b) s c.args.report.index is.ring.id c.args.at.spot) report.slot
    ∙ ap (λ i. can_report h k (code_told h k b) (slot b) i is.ring.id c.args.at.spot) report.endpoint
    ∙ sym (reported_at h c.requires.headed k keeps b is.ring.id c.args.at.spot _ is.names)
