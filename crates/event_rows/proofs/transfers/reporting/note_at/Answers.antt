use Rattle.event_rows.proofs.Laws.{◌≡◌, ℕ, get_or, refl, ap, sym, ◌∙◌, subst, get_or_from_slice_get, code_told, slot, Shape, Ring, FollowsRing, transferred, FollowsDevices, IsWithRecord, MayReport, reported, has_record, may_report, follows_read}
use Rattle.event_rows.proofs.TransferEvents.Reports.{driven}
use Rattle.event_rows.proofs.transfers.reporting.note_at.Goals as goal

pub returns-clause-followed : goal.returns-clause-followed
returns-clause-followed c = λ k m b f keeps in_ fine report is.
    let h = c.args.header.now in
    let at = c.args.at in
    let n = at.number in
    let v = k.ring is.ring.id in
    let old = c.args.t.now.rings.items in
    let new = c.note_report.new.records.items in
    let same : is.ring ≡ get_or c.as_slice-rings.result.now n c.index-rings-at.result =
    sym (ap (λ xs. get_or xs n c.index-rings-at.result) c.as_slice-rings.ensures ∙ get_or_from_slice_get h.rings n is.ring c.index-rings-at.result is.here) in
    let read : Shape = (get_or c.as_slice-rings.result.now n c.index-rings-at.result).shape in
    let shape : is.ring.shape ≡ read = ap (λ (q : Ring). q.shape) same in
    let there = has_record h k old f.rings n is.ring is.here in
    let follows = subst (λ (s : Shape). FollowsRing s v there.0) shape (f.rings.each n is.ring there.0 is.here there.1 (driven is.ring.shape.kind is.transfer)) in
    let may = subst (λ (x : ℕ). MayReport read v x at.spot) (sym report.code)
    (subst (λ (s : Shape). MayReport s v (code_told h k b) at.spot) shape (may_report h c.requires.headed k keeps b in_ fine at is)) in
    let with_ = subst (λ (s : Shape). IsWithRecord old new n s (reported s v (code_told h k b) at.spot)) (sym shape)
    (subst (λ (x : ℕ). IsWithRecord old new n read (reported read v x at.spot)) report.code (c.note_report.ensures there.0 v there.1 follows may)) in
    let devices = subst (λ (i : ℕ). FollowsDevices (transferred h k (code_told h k b) (slot b) i is.ring.id at.spot) c.note_state.new.devices) report.endpoint
    (subst (λ (s : ℕ). FollowsDevices (transferred h k (code_told h k b) s c.args.report.index is.ring.id at.spot) c.note_state.new.devices) report.slot
    (subst (λ (x : ℕ). FollowsDevices (transferred h k x c.args.report.slot c.args.report.index is.ring.id at.spot) c.note_state.new.devices) report.code
    (c.note_state.ensures h k is.ring.id at.spot f.devices))) in
    follows_read h c.requires.headed k keeps b in_ fine c.args.t.now m f at is _ refl with_ devices
