use Rattle.event_rows.proofs.Laws.{Some, get_or, ap, sym, ◌∙◌, slice_get-get_or, slot, endpoint, is_of_service, number_of, read_at, no_endpoint_ring, none_named, its_ring, served}
use Rattle.event_rows.proofs.TransferEvents.Reports.{event_names}
use Rattle.event_rows.proofs.transfers.spots.named_spot.Goals as goal

pub returns-then-is_of_service-clause-named : goal.returns-then-is_of_service-clause-named
returns-then-is_of_service-clause-named c = λ k m f keeps.
    served c.args.header.now c.requires.headed k keeps c.args.event (ap is_of_service (sym c.code.ensures) ∙ sym c.is_of_service.ensures ∙ c.if-is_of_service.true)

pub returns-in_default-clause-named : goal.returns-in_default-clause-named
returns-in_default-clause-named c = λ k m f keeps.
    let h = c.args.header.now in
    let b = c.args.event in
    let has = c.in_default.ensures.value h.rings k c.requires.found f.devices ∙ ap (λ s. number_of h.rings (k.ring_of s c.endpoint.result)) c.slot.ensures ∙ ap (λ i. number_of h.rings (k.ring_of (slot b) i)) c.endpoint.ensures in
    none_named h c.requires.headed k keeps b (no_endpoint_ring h c.requires.headed k keeps (slot b) (endpoint b) has)

pub returns-in_default-named_by-clause-named : goal.returns-in_default-named_by-clause-named
returns-in_default-named_by-clause-named c = λ k m f keeps.
    let h = c.args.header.now in
    let b = c.args.event in
    let n = c.in-Some.number in
    let other = ap is_of_service (sym c.code.ensures) ∙ sym c.is_of_service.ensures ∙ c.if-is_of_service.false in
    let has = c.in-Some.ensures.value h.rings k c.requires.found f.devices ∙ ap (λ s. number_of h.rings (k.ring_of s c.endpoint.result)) c.slot.ensures ∙ ap (λ i. number_of h.rings (k.ring_of (slot b) i)) c.endpoint.ensures in
    let l = c.in-Some-get.ensures.lookup in
    let d = c.index-rings-number.result in
    let here = slice_get-get_or h.rings n d (c.in-Some.ensures.below h.rings c.requires.found) ∙ ap (λ xs. Some (get_or xs n d)) (sym c.as_slice-rings.ensures) in
    event_names h c.requires.headed k keeps c.args.t.now m f b n has other _ c.in-Some-get.known.now _ here (read_at c.deref.result.now c.args.t.now.rings.items n c.in-Some-get.known.now c.deref.ensures.value l.3.0 l.1) c.in_default-named_by.ensures.value

pub returns-clause-named : goal.returns-clause-named
returns-clause-named c = λ k m f keeps.
    let h = c.args.header.now in
    let b = c.args.event in
    let n = c.in-Some.number in
    let other = ap is_of_service (sym c.code.ensures) ∙ sym c.is_of_service.ensures ∙ c.if-is_of_service.false in
    let has = c.in-Some.ensures.value h.rings k c.requires.found f.devices ∙ ap (λ s. number_of h.rings (k.ring_of s c.endpoint.result)) c.slot.ensures ∙ ap (λ i. number_of h.rings (k.ring_of (slot b) i)) c.endpoint.ensures in
    let l = c.in-Some-get.ensures.lookup in
    let d = c.index-rings-number.result in
    let here = slice_get-get_or h.rings n d (c.in-Some.ensures.below h.rings c.requires.found) ∙ ap (λ xs. Some (get_or xs n d)) (sym c.as_slice-rings.ensures) in
    let its = its_ring h c.requires.headed k keeps c.args.t.now m f b n has in
    record {
      ring = its.ring;
      here = its.at;
      transfer = its.transfer;
      names = event_names h c.requires.headed k keeps c.args.t.now m f b n has other _ c.in-Some-get.known.now _ here (read_at c.deref.result.now c.args.t.now.rings.items n c.in-Some-get.known.now c.deref.ensures.value l.3.0 l.1) c.in-Some-named_by.ensures.value;
    }
