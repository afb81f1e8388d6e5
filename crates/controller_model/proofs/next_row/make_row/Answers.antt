use Rattle.controller_model.proofs.Laws.{sym, refl, event_read, row_done, Follows, FollowsScene, RowSeen, with_world, follows_made, step_mapped}
use Rattle.controller_model.proofs.next_row.make_row.Goals as goal

pub returns-in_ok-declare-in-Sub-clause-step : goal.returns-in_ok-declare-in-Sub-clause-step
unfolding row_done
returns-in_ok-declare-in-Sub-clause-step g c = λ rows x f.
    simp (c.in-Sub.is, f.header, sym c.as_slice.ensures)
    (refl, follows_made f (c.in_ok-declare-in-Sub.ensures c.args.rings.now.declared (g.M.WordMemory.words c.args.memory.now) x.world f.follows))

pub returns-in_ok-write-in-Write-clause-step : goal.returns-in_ok-write-in-Write-clause-step
unfolding row_done
returns-in_ok-write-in-Write-clause-step g c = λ rows x f.
    simp (c.in-Write.is, f.header) (refl, follows_made f (c.in_ok-write-in-Write.ensures c.args.rings.now.declared x.world f.follows))

pub returns-in_ok-write_register-in-Reg-clause-step : goal.returns-in_ok-write_register-in-Reg-clause-step
unfolding row_done
returns-in_ok-write_register-in-Reg-clause-step g c = λ rows x f.
    simp (c.in-Reg.is, f.header) (refl, follows_made f (c.in_ok-write_register-in-Reg.ensures (g.M.WordMemory.words c.args.memory.now) x.world f.follows))

pub returns-in-Bell-clause-step : goal.returns-in-Bell-clause-step
unfolding row_done
returns-in-Bell-clause-step g c = λ rows x f.
    simp (c.in-Bell.is, f.header) (refl, follows_made f (c.ring_bell.ensures (g.M.WordMemory.words c.args.memory.now) x.world f.follows))

pub returns-in-Read-clause-step : goal.returns-in-Read-clause-step
unfolding row_done
returns-in-Read-clause-step g c = λ rows x f.
    let words = g.M.WordMemory.words c.args.memory.now in
    let k = c.read_event.new.kept in
    let rings = c.args.rings.now in
    simp (c.in-Read.is, f.header)
    (step_mapped c.read_event.result (event_read rings.declared x.world c.in-Read.event) (with_world x) RowSeen (Follows rings.declared words k) (FollowsScene rings rows words k)
    (λ w follows. record { header = f.header; live = f.live; lists = f.lists; left = f.left; follows = follows }) (c.read_event.ensures.step x.world f.follows))

pub returns-in-RegRead-clause-step : goal.returns-in-RegRead-clause-step
unfolding row_done
returns-in-RegRead-clause-step g c = λ rows x f.
    let words = g.M.WordMemory.words c.args.memory.now in
    let k = c.args.kept.now in
    let rings = c.args.rings.now in
    simp c.in-RegRead.is
    (step_mapped c.read_register.result _ (with_world x) RowSeen (Follows rings.declared words k) (FollowsScene rings rows words k)
    (λ w follows. record { header = f.header; live = f.live; lists = f.lists; left = f.left; follows = follows }) (c.read_register.ensures rings.declared words x.world f.follows))

pub returns-in_ok-add_ring-in-Ring-clause-step : goal.returns-in_ok-add_ring-in-Ring-clause-step
returns-in_ok-add_ring-in-Ring-clause-step g c = λ rows x f.
    simp (c.in-Ring.is, sym c.as_ring.ensures) (refl, c.in_ok-add_ring-in-Ring.ensures rows (g.M.WordMemory.words c.args.memory.now) x f)

pub returns-in-Free-clause-step : goal.returns-in-Free-clause-step
returns-in-Free-clause-step g c = λ rows x f. simp c.in-Free.is (refl, c.end_life.ensures rows (g.M.WordMemory.words c.args.memory.now) c.args.kept.now x f)

pub returns-in-Nop-clause-step : goal.returns-in-Nop-clause-step
returns-in-Nop-clause-step g c = λ rows x f.
    simp (c.in-Nop.is, f.header) (refl, follows_made f (c.withdraw.ensures c.args.rings.now.declared (g.M.WordMemory.words c.args.memory.now) x.world f.follows))
