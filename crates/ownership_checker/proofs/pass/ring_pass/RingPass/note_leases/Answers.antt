use Rattle.ownership_checker.proofs.Laws.{learned_or_reset, ◌≡◌, ◌<◌, ◌∙◌, [], false, Some, arith, ap, subst, sym, Header, Row, Restores, on_ring, without_end, open_leases, lenient, passed_on, HoldsAll, on_more, IsPlaced, header_now, known_now, restored, ring_restored, lents, plain_now, none_restored, restored_transfer, runs_on, behind_logged, held_before, next_row, opened_before, rung_lents, driven_logged, driven_after, header_driven}
use Rattle.ownership_checker.proofs.pass.ring_pass.RingPass.note_leases.Goals as goal

pub returns-in_default-clause-logged : goal.returns-in_default-clause-logged
returns-in_default-clause-logged g c = on_more c.note_row.result (λ told list h first past p placed is clean numbered room held.
    let words = g.M.WordMemory.words in
    let Holds = g.B.LeaseLog.holds list in
    let before = c.args.self.now in
    let row = c.args.row.now in
    let k = known_now h past in
    let gh = header_now h past in
    let same : restored gh k row ≡ k = none_restored gh k row (sym is ∙ c.in_default.is) in
    let lenient_now : lenient before.header k row ≡ [] = subst (λ (x : Header). lenient x k row ≡ []) (sym p.header) (subst (λ x. lenient gh x row ≡ []) same clean) in
    driven_logged words Holds h first past before p room row c.requires.driven (driven_after gh k row c.requires.driven ∙ ap (λ x. learned_or_reset gh x row) same) c.args.number numbered c.note_row.new.book c.note_row.new.ranges
    (told list k (lents h first past) placed (next_row words Holds h first past before p room row lenient_now) (held_before words Holds h first past before p room before.log before.ranges held))) c.note_row.ensures.step

pub returns-in-Write-clause-logged : goal.returns-in-Write-clause-logged
returns-in-Write-clause-logged g c = on_more c.note_moved.result (λ told list h first past p placed is clean numbered room held.
    let words = g.M.WordMemory.words in
    let Holds = g.B.LeaseLog.holds list in
    let before = c.args.self.now in
    let later = c.note_moved.new.self in
    let row = c.args.row.now in
    let k = known_now h past in
    let gh = header_now h past in
    let moves_now : ring_restored gh k row ≡ Some c.in-Some.id = sym is ∙ c.in-Some.is in
    let moves : ring_restored before.header k row ≡ Some c.in-Some.id = subst (λ (x : Header). ring_restored x k row ≡ Some c.in-Some.id) (sym p.header) moves_now in
    let on : k.stopped ≡ false = runs_on gh k row clean in
    let early : c.args.number < without_end = omega (arith, numbered, room) in
    behind_logged words Holds h first past before p room row (header_driven gh row c.requires.driven) (λ y. learned_or_reset y (restored y k row) row) (plain_now h first past row c.requires.driven) c.args.number numbered later.log later.ranges
    (subst (λ (r : Row). HoldsAll Holds before.header (passed_on (open_leases before.header k) (open_leases before.header (learned_or_reset before.header (restored before.header k r) r)) c.args.number (lents h first past)) later.log later.ranges)
    (sym c.in-Write.is)
    (told list k (words before.memory) (lents h first past) c.in-Write.at c.in-Write.word p.tracked.follows (p.tracked.keeps on) (subst (λ (r : Row). IsPlaced before.header k r c.args.place.now) c.in-Write.is placed)
    (subst (λ (r : Row). ring_restored before.header k r ≡ Some c.in-Some.id) c.in-Write.is moves) (opened_before words Holds h first past before p room) early
    (held_before words Holds h first past before p room before.log before.ranges held)))) c.note_moved.ensures.moved

pub returns-in_default-row-clause-logged : goal.returns-in_default-row-clause-logged
returns-in_default-row-clause-logged g c = on_more c.note_rung.result (λ told list h first past p placed is clean numbered room held.
    let words = g.M.WordMemory.words in
    let Holds = g.B.LeaseLog.holds list in
    let before = c.args.self.now in
    let later = c.note_rung.new.self in
    let row = c.args.row.now in
    let k = known_now h past in
    let gh = header_now h past in
    let id = c.in-Some.id in
    let moves_now : ring_restored gh k row ≡ Some id = sym is ∙ c.in-Some.is in
    let moves : ring_restored before.header k row ≡ Some id = subst (λ (x : Header). ring_restored x k row ≡ Some id) (sym p.header) moves_now in
    let on : k.stopped ≡ false = runs_on gh k row clean in
    behind_logged words Holds h first past before p room row (header_driven gh row c.requires.driven) (λ y. on_ring y k id Restores)
    (rung_lents words Holds h first past before p room row id c.in_default-row.not-Write moves_now) c.args.number numbered later.log later.ranges
    (told list k (words before.memory) (lents h first past) p.tracked.follows (restored_transfer before.header k (p.tracked.keeps on) row id moves) (opened_before words Holds h first past before p room)
    (held_before words Holds h first past before p room before.log before.ranges held))) c.note_rung.ensures.restored
