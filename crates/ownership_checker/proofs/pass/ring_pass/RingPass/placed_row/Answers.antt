use Rattle.ownership_checker.proofs.Laws.{length, refl, known_now, lenient_row, on_both, lents, held_before, next_row, least_quiet, none_now, quiet_behind, refused_too, driven_logged, known_driven}
use Rattle.ownership_checker.proofs.pass.ring_pass.RingPass.placed_row.Goals as goal

pub returns-clause-passed : goal.returns-clause-passed
returns-clause-passed g c =
    let words = g.M.WordMemory.words in
    let before = c.args.self.now in
    on_both c.check_row.result (λ ok reads h past p placed.
    let k = known_now h past in
    quiet_behind words h past before p c.requires.unwithdrawn c.args.row.now c.requires.driven c.check_row.new.kept (words c.check_row.new.memory) (ok k p.tracked placed) (reads (length past) p.few_reads) _ refl refl refl refl)
    c.check_row.ensures.ok c.check_row.ensures.reads

pub returns-clause-refused : goal.returns-clause-refused
returns-clause-refused g c =
    let words = g.M.WordMemory.words in
    let before = c.args.self.now in
    refused_too c.check_row.result _ _ (λ r least h past p placed. least_quiet words h past before p c.requires.unwithdrawn c.args.row.now r (least (known_now h past) p.tracked placed)) c.check_row.ensures.refused

pub returns-clause-logged : goal.returns-clause-logged
returns-clause-logged g c =
    let words = g.M.WordMemory.words in
    let before = c.args.self.now in
    let row = c.args.row.now in
    on_both c.check_row.result (λ ok reads list h first past p placed numbered room held.
    let Holds = g.B.LeaseLog.holds list in
    let k = known_now h past in
    let step = ok k p.tracked placed in
    driven_logged words Holds h first past before p room row c.requires.driven (known_driven h past (none_now words h past before p c.requires.unwithdrawn) row c.requires.driven) c.args.number numbered c.note_row.new.book c.note_row.new.ranges
    (c.in_ok-note_row.ensures.step list k (lents h first past) placed (next_row words Holds h first past before p room row (lenient_row before.header k row step.clean))
    (held_before words Holds h first past before p room before.log before.ranges held)))
    c.check_row.ensures.ok c.check_row.ensures.reads
