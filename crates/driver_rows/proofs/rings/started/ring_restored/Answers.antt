use Rattle.driver_rows.proofs.Laws.{subst, sym, IsPlaced, ring_restored, restored_by_others}
use Rattle.driver_rows.proofs.rings.started.ring_restored.Goals as goal

pub returns-in-Bell : goal.returns-in-Bell
unfolding ring_restored
returns-in-Bell c = λ h k memory f placed. rw c.in-Bell.is (c.ring_of.ensures k f.devices)

pub returns-in-Write : goal.returns-in-Write
unfolding ring_restored
returns-in-Write c = λ h k memory f placed. rw c.in-Write.is (c.ring_moved.ensures h k memory c.in-Write.at c.in-Write.word f (subst (λ row. IsPlaced h k row c.args.place.now) c.in-Write.is placed))

pub returns-in_default : goal.returns-in_default
returns-in_default c = λ h k memory f placed. sym (restored_by_others h k c.args.row.now c.in_default.not-Write c.in_default.not-Bell)
