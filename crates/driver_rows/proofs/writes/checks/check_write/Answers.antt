use Rattle.driver_rows.proofs.Laws.{false, Write, IsPlacedSo, ContextsFit, first_of, broken, command_given, writes_to_owned, nothing_broken, ◌≡◌, true, get_or, sym, ◌∙◌, ap, arith, subst, refl, length, Option, not, ℕ, Known, FollowsTrace, DriverKeeps, slice_get_read, slice_get_within, touches, is_driver_kind, ring_here, none_here, among_at, IsGivenBy, given_from, owned, owned_by_events, nowhere_allowed, IsTold, judged, said_here}
use Rattle.driver_rows.proofs.writes.checks.check_write.Goals.{After-giving_refusal}
use Rattle.driver_rows.proofs.writes.checks.check_write.Goals as goal

pub returns-then-write-clause-refused : goal.returns-then-write-clause-refused
returns-then-write-clause-refused g c = λ k f keeps fit on placed leased. owned c.args.header.now c.requires.headed k on c.args.write.now.at c.args.write.now.word (sym leased ∙ c.if-write.true)

pub returns-in_default-clause-ok : goal.returns-in_default-clause-ok
returns-in_default-clause-ok g c = λ k f keeps fit on placed leased.
    let h = c.args.header.now in
    nowhere_allowed h c.requires.headed k on c.args.write.now.at c.args.write.now.word placed.aligned (sym leased ∙ c.if-write.false)
    (none_here h (λ q. touches q.shape c.args.write.now.at 4) h.rings (sym placed.ring ∙ c.in_default.is) refl)

pub returns-then-is_event_ring-clause-refused : goal.returns-then-is_event_ring-clause-refused
returns-then-is_event_ring-clause-refused g c = λ k f keeps fit on placed leased.
    let h = c.args.header.now in
    let ring = c.in-Some-get.ring.now in
    let here = ring_here h (λ q. touches q.shape c.args.write.now.at 4) h.rings c.in-Some.number ring (sym placed.ring ∙ c.in-Some.is) refl
    (c.in-Some-get.ensures.lookup.1 ∙ ap (λ xs. get_or xs c.in-Some.number ring) c.as_slice-rings.ensures) in
    owned_by_events h c.requires.headed k on c.args.write.now.at c.args.write.now.word placed.aligned ring (among_at h.rings c.in-Some.number ring here.0)
    (sym c.is_event_ring.ensures ∙ c.if-is_event_ring.true) here.1

-- what the write of a ring's word breaks, and the command that it gives
found : (g : _) (c : After-giving_refusal g) (k : Known) → FollowsTrace c.args.header.now k c.args.t.now (g.M.WordMemory.words c.args.memory.now) → DriverKeeps c.args.header.now k → ContextsFit c.args.header.now k → k.stopped ≡ false →
    IsPlacedSo c.args.header.now k c.args.write.now.at c.args.write.now.word c.args.write.now.place.now → c.args.write.now.owned ≡ writes_to_owned c.args.header.now k c.args.write.now.at c.args.write.now.word →
    (first_of (broken c.args.header.now k (Write c.args.write.now.at c.args.write.now.word)) ≡ c.giving_refusal.result) × (command_given c.args.header.now k c.args.write.now.at c.args.write.now.word ≡ c.given_command-command.result)
found g c k f keeps fit on placed leased =
    let h = c.args.header.now in
    let at = c.args.write.now.at in
    let word = c.args.write.now.word in
    let giving = c.args.write.now.place.now.giving in
    let command = c.given_command-command.result in
    let n = c.in-Some.number in
    let ring = c.in-Some-get.ring.now in
    let known = c.in-Some-get-2.known.now in
    let here = ring_here h (λ q. touches q.shape at 4) h.rings n ring (sym placed.ring ∙ c.in-Some.is) refl (c.in-Some-get.ensures.lookup.1 ∙ ap (λ xs. get_or xs n ring) c.as_slice-rings.ensures) in
    let driver : is_driver_kind ring.shape.kind ≡ true = ap not (sym c.is_event_ring.ensures ∙ c.if-is_event_ring.false) in
    let items = c.args.t.now.rings.items in
    let there = slice_get_read items (length items) n known refl (omega (arith, f.rings.as_many, slice_get_within h.rings n ring here.0)) (c.in-Some-get-2.ensures.lookup.1 ∙ ap (λ xs. get_or xs n known) c.as_slice-records.ensures.value) in
    let given = subst (λ (o : Option ℕ). IsGivenBy h k at word o giving) c.in-Some.is placed.given ring here.0 in
    let told : IsTold h c.requires.headed at word placed.aligned n ring here.0 driver here.1 giving command k = record {
      positions = given.positions driver;
      crossings = given.crossings driver;
      said = c.given_command-command.ensures.value (k.ring ring.id) ring.shape.kind (said_here h c.requires.headed at word placed.aligned n ring here.0 driver here.1 giving command k c.args.write.now.place.now.command placed.command (given.positions driver));
      quiet = c.given_command-command.ensures.quiet;
    } in
    judged h c.requires.headed at word placed.aligned n ring here.0 driver here.1 giving command k c.args.t.now (g.M.WordMemory.words c.args.memory.now) f keeps on (sym leased ∙ c.if-write.false) told c.giving_refusal.result
    (c.giving_refusal.ensures.first k f keeps fit (f.rings.each n ring known here.0 there driver) (given_from ring.shape (k.ring ring.id) at word giving (given.positions driver)))

pub returns-in-Some-giving_refusal-clause-refused : goal.returns-in-Some-giving_refusal-clause-refused
returns-in-Some-giving_refusal-clause-refused g c = λ k f keeps fit on placed leased. (found g (goal.at.returns-in-Some-giving_refusal-clause-refused g c).After-giving_refusal k f keeps fit on placed leased).0 ∙ c.in-Some-giving_refusal.is

pub returns-in-None-clause-ok : goal.returns-in-None-clause-ok
returns-in-None-clause-ok g c = λ k f keeps fit on placed leased.
    let is = found g (goal.at.returns-in-None-clause-ok g c).After-giving_refusal k f keeps fit on placed leased in
    record { clean = nothing_broken _ (is.0 ∙ c.in-None.is); command = is.1 }
