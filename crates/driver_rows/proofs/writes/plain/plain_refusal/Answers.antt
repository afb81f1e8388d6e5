use Rattle.driver_rows.proofs.Laws.{◌≡◌, ◌∙◌, ℕ, Bool, true, false, None, Option, ap, sym, subst, refl, get_or, not, if◌then◌else◌, touches, is_command_kind, is_driver_kind, ring_here, none_here, among_at, positions_of, crossings_of, IsGivenBy, owned, owned_by_events, nowhere_allowed, IsTold, allowed}
use Rattle.driver_rows.proofs.writes.plain.plain_refusal.Goals as goal

same_either : {X : Type 0} (x : X) (b : Bool) → x ≡ (if b then x else x)
same_either x true = refl
same_either x false = refl

pub returns-then-owned-clause-refused : goal.returns-then-owned-clause-refused
returns-then-owned-clause-refused c = λ k t m at word f keeps on plain placed leased. owned c.args.header.now c.requires.headed k on at word (sym leased ∙ c.if-owned.true)

pub returns-in_default-clause-allowed : goal.returns-in_default-clause-allowed
returns-in_default-clause-allowed c = λ k t m at word f keeps on plain placed leased.
    let h = c.args.header.now in
    nowhere_allowed h c.requires.headed k on at word placed.aligned (sym leased ∙ c.if-owned.false)
    (none_here h (λ q. touches q.shape at 4) h.rings (sym placed.ring ∙ c.in_default.is) refl)

pub returns-then-is_event_ring-clause-refused : goal.returns-then-is_event_ring-clause-refused
returns-then-is_event_ring-clause-refused c = λ k t m at word f keeps on plain placed leased.
    let h = c.args.header.now in
    let ring = c.in-Some-get.ring.now in
    let here = ring_here h (λ q. touches q.shape at 4) h.rings c.in-Some.number ring (sym placed.ring ∙ c.in-Some.is) refl
    (c.in-Some-get.ensures.lookup.1 ∙ ap (λ xs. get_or xs c.in-Some.number ring) c.as_slice-rings.ensures) in
    owned_by_events h c.requires.headed k on at word placed.aligned ring (among_at h.rings c.in-Some.number ring here.0)
    (sym c.is_event_ring.ensures ∙ c.if-is_event_ring.true) here.1

pub returns-clause-allowed : goal.returns-clause-allowed
returns-clause-allowed c = λ k t m at word f keeps on plain placed leased.
    let h = c.args.header.now in
    let ring = c.in-Some-get.ring.now in
    let here = ring_here h (λ q. touches q.shape at 4) h.rings c.in-Some.number ring (sym placed.ring ∙ c.in-Some.is) refl
    (c.in-Some-get.ensures.lookup.1 ∙ ap (λ xs. get_or xs c.in-Some.number ring) c.as_slice-rings.ensures) in
    let driver : is_driver_kind ring.shape.kind ≡ true = ap not (sym c.is_event_ring.ensures ∙ c.if-is_event_ring.false) in
    let given = subst (λ (o : Option ℕ). IsGivenBy h k at word o c.args.place.now.giving) c.in-Some.is placed.given ring here.0 in
    let told : IsTold h c.requires.headed at word placed.aligned c.in-Some.number ring here.0 driver here.1 None None k = record {
      positions = given.positions driver ∙ ap positions_of plain;
      crossings = given.crossings driver ∙ ap crossings_of plain;
      said = same_either None (is_command_kind ring.shape.kind);
      quiet = refl;
    } in
    allowed h c.requires.headed at word placed.aligned c.in-Some.number ring here.0 driver here.1 None None k t m f keeps on (sym leased ∙ c.if-owned.false) told refl
