use Rattle.driver_rows.proofs.Laws.{◌∙◌, ◌==◌, get_or, refl, sym, ap, eqb-true, Ring, is_transfer_kind, none_here, ring_here, not_found, is_transfer_ring, another_there}
use Rattle.driver_rows.proofs.rings.freeing.transfer_ring.Goals as goal

pub returns-in_default-clause-none : goal.returns-in_default-clause-none
returns-in_default-clause-none c =
    let h = c.args.header.now in
    ap is_transfer_ring (not_found (λ q. q.id == c.args.id) h.rings (none_here h (λ q. q.id == c.args.id) h.rings (sym (c.ring_named.ensures h.rings c.requires.found) ∙ c.in_default.is) refl))

pub returns-in-Xfer-clause-there : goal.returns-in-Xfer-clause-there
returns-in-Xfer-clause-there c =
    let h = c.args.header.now in
    let ring = c.index-rings-number.result in
    let here = ring_here h (λ q. q.id == c.args.id) h.rings c.in-Some.number ring (sym (c.ring_named.ensures h.rings c.requires.found) ∙ c.in-Some.is) refl (c.index-rings-number.is ∙ ap (λ xs. get_or xs c.in-Some.number ring) c.as_slice-rings.ensures) in
    record { ring = ring; at = here.0; named = eqb-true ring.id c.args.id here.1; kind = ap is_transfer_kind (ap (λ (r : Ring). r.shape.kind) c.index-rings-number.is ∙ sym c.kind.ensures ∙ c.in-Xfer.is) }

pub returns-in_default-kind : goal.returns-in_default-kind
returns-in_default-kind c =
    let h = c.args.header.now in
    let ring = c.index-rings-number.result in
    let here = ring_here h (λ q. q.id == c.args.id) h.rings c.in-Some.number ring (sym (c.ring_named.ensures h.rings c.requires.found) ∙ c.in-Some.is) refl (c.index-rings-number.is ∙ ap (λ xs. get_or xs c.in-Some.number ring) c.as_slice-rings.ensures) in
    record { within = tt; there = tt; none = another_there h c.requires.headed c.args.id c.in-Some.number ring here.0 (eqb-true ring.id c.args.id here.1) (λ xfer. c.in_default-kind.not-Xfer (c.kind.ensures ∙ sym (ap (λ (r : Ring). r.shape.kind) c.index-rings-number.is) ∙ xfer)) }
