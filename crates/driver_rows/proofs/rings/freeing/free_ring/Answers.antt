use Rattle.driver_rows.proofs.Laws.{◌∙◌, ◌==◌, get_or, refl, sym, ap, Ring, none_here, not_found, frees_as, frees_none, ring_numbered}
use Rattle.driver_rows.proofs.rings.freeing.free_ring.Goals as goal

pub returns-in_default-clause-none : goal.returns-in_default-clause-none
returns-in_default-clause-none c = λ k m f keeps.
    let h = c.args.header.now in
    frees_none h k c.args.id (not_found (λ q. q.id == c.args.id) h.rings (none_here h (λ q. q.id == c.args.id) h.rings (sym (c.ring_named.ensures h.rings c.requires.found) ∙ c.in_default.is) refl))

pub returns-then-stays-clause-none : goal.returns-then-stays-clause-none
returns-then-stays-clause-none c = λ k m f keeps.
    let h = c.args.header.now in
    let n = c.in-Some.number in
    let ring = c.index-rings-number.result in
    frees_as h k c.args.id n ring c.kind.result c.stays.result c.requires.headed (sym (c.ring_named.ensures h.rings c.requires.found) ∙ c.in-Some.is)
    (c.index-rings-number.is ∙ ap (λ xs. get_or xs n ring) c.as_slice-rings.ensures) (c.kind.ensures ∙ sym (ap (λ (r : Ring). r.shape.kind) c.index-rings-number.is)) (c.stays.ensures k m f keeps)
    ∙ c.if-stays.true

pub returns-clause-there : goal.returns-clause-there
returns-clause-there c =
    let h = c.args.header.now in
    let n = c.in-Some.number in
    let ring = c.index-rings-number.result in
    ring_numbered h c.args.id n ring (sym (c.ring_named.ensures h.rings c.requires.found) ∙ c.in-Some.is) (c.index-rings-number.is ∙ ap (λ xs. get_or xs n ring) c.as_slice-rings.ensures)

pub returns-clause-free : goal.returns-clause-free
returns-clause-free c = λ k m f keeps.
    let h = c.args.header.now in
    let n = c.in-Some.number in
    let ring = c.index-rings-number.result in
    frees_as h k c.args.id n ring c.kind.result c.stays.result c.requires.headed (sym (c.ring_named.ensures h.rings c.requires.found) ∙ c.in-Some.is)
    (c.index-rings-number.is ∙ ap (λ xs. get_or xs n ring) c.as_slice-rings.ensures) (c.kind.ensures ∙ sym (ap (λ (r : Ring). r.shape.kind) c.index-rings-number.is)) (c.stays.ensures k m f keeps)
    ∙ c.if-stays.false
