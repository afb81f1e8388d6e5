use Rattle.replayer.proofs.MiddleLaws.{◌≡◌, ℕ, List, ◌++◌, ap, refl, subst, All, map, Known, known_now, IsTransferRing, FollowsTrace, floor_note, followed, driven_noted}
use Rattle.replayer.proofs.scheduler.notes.note_driver_row.Goals as goal

pub returns-clause-noted : goal.returns-clause-noted
returns-clause-noted g c = λ h past p.
    let words = g.M.WordMemory.words in
    let row = c.args.row.now in
    let after = c.row.new.self in
    let q = c.in_ok-row.ensures.passed h past p in
    let behind = c.header-2.result.now in
    let kept = c.record-2.result.now in
    let mid = c.note_row.new.notes.items in
    let new = c.note_placed.new.notes.items in
    driven_noted words h past row c.args.pass.now after p q c.requires.driven c.args.list.now.items mid new c.in_ok-placed.placed.items c.header.result.now behind kept (words after.memory)
    c.header.ensures c.header-2.ensures c.record-2.ensures refl
    (λ keeps may. c.in_ok-placed.ensures (known_now h past)
    (followed words h past row c.args.pass.now after p q c.header.result.now c.record.result.now (words c.memory.result.now) c.header.ensures c.record.ensures (ap words c.memory.ensures)) keeps may)
    (subst (λ (l : List ℕ). (j : Known) (m : ℕ → ℕ) → FollowsTrace behind j kept m → All (IsTransferRing behind) l → new ≡ mid ++ map (floor_note j) l)
    c.as_slice.ensures.value c.in_ok-note_placed.ensures)
