use Rattle.ownership_checker.proofs.Laws.{arith, ◌≡◌, ◌∙◌, ℕ, Bool, false, Option, None, List, length, ap, refl, sym, false≢true, Header, Known, Row, RowPlace, on_both, on_more, lenient_row, IsPlaced, IsRingPassed, IsTracked, header_now, known_now, is_left, restored, restored_on, ring_restored, NamesTransfer, names_transfer, least_off, least_restored, refused_too, restored_tracked, same_still, told_of, driven_behind}
use Rattle.ownership_checker.proofs.pass.ring_pass.RingPass.row_behind_withdrawals.Goals.{After-is_left, After-restore_ring}
use Rattle.ownership_checker.proofs.pass.ring_pass.RingPass.row_behind_withdrawals.Goals as goal

-- the controller runs, this is the row's place, this ring is restored by it, and whether that is left unrestored was tested
abbrev IsFound : Header → Header → Known → Row → RowPlace → Option ℕ → Bool → Type 0
IsFound before h k row place ring left = (k.stopped ≡ false) × IsPlaced before k row place × (ring ≡ ring_restored h k row) × (is_left h k (ring_restored h k row) ≡ left)

found : (g : _) (c : After-is_left g) (h : Header) (past : List Row) → IsRingPassed g.M.WordMemory.words h past c.args.self.now →
    IsFound c.args.self.now.header (header_now h past) (known_now h past) c.args.row.now c.place-place.result c.ring_restored-ring.result c.is_left.result
found g c h past p =
    let k = known_now h past in
    let on : k.stopped ≡ false = sym (c.is_stopped.ensures k p.tracked.follows.registers) ∙ c.if-is_stopped.false in
    let placed = c.place-place.ensures k (g.M.WordMemory.words c.args.self.now.memory) p.tracked.follows in
    let ring_is = c.ring_restored-ring.ensures c.args.self.now.header k (g.M.WordMemory.words c.args.self.now.memory) p.tracked.follows placed in
    let names : NamesTransfer c.args.self.now.header c.ring_restored-ring.result = rw ring_is (names_transfer c.args.self.now.header k (p.tracked.keeps on) c.args.row.now) in
    grind arith

-- once the leases are noted and the ring is the controller's again: what is known, and that the place is the row's still where no ring was restored
behind : (g : _) (c : After-restore_ring g) (h : Header) (past : List Row) → IsRingPassed g.M.WordMemory.words h past c.args.self.now →
    IsFound c.args.self.now.header (header_now h past) (known_now h past) c.args.row.now c.place-place.result c.ring_restored-ring.result c.is_left.result →
    IsRingPassed g.M.WordMemory.words h past c.note_leases.new.self
    × IsTracked c.note_leases.new.self.header (restored c.note_leases.new.self.header (known_now h past) c.args.row.now) c.restore_ring.new.kept (g.M.WordMemory.words c.note_leases.new.self.memory)
    × (c.ring_restored-ring.result ≡ None → IsPlaced c.note_leases.new.self.header (restored c.note_leases.new.self.header (known_now h past) c.args.row.now) c.args.row.now c.place-place.result)
    × (is_left (header_now h past) (known_now h past) (ring_restored (header_now h past) (known_now h past) c.args.row.now) ≡ false)
unfolding restored_on
behind g c h past p (on, placed, here, stands) =
    let words = g.M.WordMemory.words in
    let noted = c.note_leases.new.self in
    let k = known_now h past in
    let row = c.args.row.now in
    let stands_still = stands ∙ c.if-is_left.false in
    let q = same_still words h past c.args.self.now p noted c.note_leases.ensures.header c.note_leases.ensures.finder c.note_leases.ensures.record c.note_leases.ensures.memory c.note_leases.ensures.withdrawn in
    let ring_is = here ∙ ap (λ (x : Header). ring_restored x k row) (sym q.header) in
    let names : NamesTransfer noted.header c.ring_restored-ring.result = rw ring_is (names_transfer noted.header k (q.tracked.keeps on) row) in (
      q,
      restored_tracked words h past noted q row c.ring_restored-ring.result c.restore_ring.new.kept ring_is on (rw q.header stands_still) (c.restore_ring.ensures.restored k (words noted.memory) q.tracked.follows names),
      (λ none. rw (sym ring_is ∙ none, c.note_leases.ensures.header) placed),
      stands_still,
    )

pub returns-then-is_stopped-clause-refused : goal.returns-then-is_stopped-clause-refused
returns-then-is_stopped-clause-refused g c = λ h past p.
    let k = known_now h past in
    least_off (header_now h past) k c.args.row.now (sym (c.is_stopped.ensures k p.tracked.follows.registers) ∙ c.if-is_stopped.true)

pub returns-then-is_left-clause-refused : goal.returns-then-is_left-clause-refused
returns-then-is_left-clause-refused g c = told_of c.refusal_left.result _ _ (λ r least h past p.
    let (on, placed, here, stands) = found g (goal.at.returns-then-is_left-clause-refused g c).After-is_left h past p in
    least h past p placed on (stands ∙ c.if-is_left.true)) c.refusal_left.ensures

pub returns-clause-passed : goal.returns-clause-passed
returns-clause-passed g c = on_both c.check_restored.result (λ ok reads h past p.
    let words = g.M.WordMemory.words in
    let noted = c.note_leases.new.self in
    let later = c.check_restored.new.self in
    let row = c.args.row.now in
    let (q, tracked, still, stands) = behind g (goal.at.returns-clause-passed g c).After-restore_ring h past p (found g (goal.at.returns-clause-passed g c).After-is_left h past p) in
    let step = ok (restored noted.header (known_now h past) row) tracked still in
    driven_behind words h past noted q row c.requires.driven later.record (words later.memory) stands (rw q.header at step.0) (rw q.header at step.1)
    (reads (length past) (rw c.restore_ring.ensures.events q.few_reads))
    later c.check_restored.ensures.header c.check_restored.ensures.finder refl refl
    (λ none. absurd (false≢true (sym none ∙ c.check_restored.ensures.withdrawn ∙ c.note_leases.ensures.withdrawn ∙ c.requires.withdrawn)))) c.check_restored.ensures.ok c.check_restored.ensures.reads

pub returns-clause-logged : goal.returns-clause-logged
returns-clause-logged g c = on_more c.check_restored.result (λ ok list h first past p numbered room held.
    let row = c.args.row.now in
    let k = known_now h past in
    let gh = header_now h past in
    let is = found g (goal.at.returns-clause-logged g c).After-is_left h past p in
    let (q, tracked, still, stands) = behind g (goal.at.returns-clause-logged g c).After-restore_ring h past p is in
    let step = rw q.header at (ok (restored c.note_leases.new.self.header k row) tracked still).1 in
    rw (c.check_restored.ensures.log, c.check_restored.ensures.ranges)
    (c.in_ok-note_leases.ensures.logged list h first past p is.1 is.2 (lenient_row gh (restored gh k row) row step.clean) numbered room held)) c.check_restored.ensures.ok

pub returns-clause-refused : goal.returns-clause-refused
returns-clause-refused g c = refused_too c.check_restored.result _ _ (λ r least h past p.
    let row = c.args.row.now in
    let k = known_now h past in
    let is = found g (goal.at.returns-clause-refused g c).After-is_left h past p in
    let (q, tracked, still, stands) = behind g (goal.at.returns-clause-refused g c).After-restore_ring h past p is in
    least_restored (header_now h past) k row is.0 r stands (rw q.header at (least (restored c.note_leases.new.self.header k row) tracked still))) c.check_restored.ensures.refused

pub check_restored-requires-clause-as_many : goal.check_restored-requires-clause-as_many
check_restored-requires-clause-as_many g c =
    let (h, past, p, few) = c.requires.so_far in
    let (q, tracked, still, stands) = behind g (goal.at.check_restored-requires-clause-as_many g c).After-restore_ring h past p (found g (goal.at.check_restored-requires-clause-as_many g c).After-is_left h past p) in
    tracked.follows.rings.as_many
