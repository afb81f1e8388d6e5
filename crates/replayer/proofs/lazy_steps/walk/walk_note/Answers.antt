use Rattle.replayer.proofs.Words.{append-nil, inl, inr, sym, brought, note_goals, note_steps, pointers_behind}
use Rattle.replayer.proofs.lazy_steps.walk.walk_note.Goals as goal

pub returns-in-Begun-clause-steps : goal.returns-in-Begun-clause-steps
unfolding note_steps note_goals
returns-in-Begun-clause-steps c = elim c.in-Begun.is [
  | inl begun ↦ rw begun.1 (sym (append-nil c.args.steps.now.items))
  | inr read ↦ rw read.2 (sym (append-nil c.args.steps.now.items))
]

pub returns-in-Begun-clause-pointers : goal.returns-in-Begun-clause-pointers
unfolding note_goals pointers_behind brought
returns-in-Begun-clause-pointers c = elim c.in-Begun.is [ inl begun ↦ rw begun.1 | inr read ↦ rw read.2 ]

pub returns-in-Taken : goal.returns-in-Taken
unfolding note_steps note_goals pointers_behind
returns-in-Taken c = rw (c.in-Taken.is, sym c.taken_up_to-goal.ensures) c.come_to.ensures

pub returns-in-StoppedAt-clause-steps : goal.returns-in-StoppedAt-clause-steps
unfolding note_steps note_goals
returns-in-StoppedAt-clause-steps c = rw (c.in-StoppedAt.is, sym c.taken_up_to-command.ensures, sym c.stop_goal-stop.ensures) c.come_to_both.ensures.steps

pub returns-in-StoppedAt-clause-pointers : goal.returns-in-StoppedAt-clause-pointers
unfolding note_goals pointers_behind
returns-in-StoppedAt-clause-pointers c = rw (c.in-StoppedAt.is, sym c.taken_up_to-command.ensures, sym c.stop_goal-stop.ensures) c.come_to_both.ensures.pointers

pub returns-in-StoppedOpen-clause-steps : goal.returns-in-StoppedOpen-clause-steps
unfolding note_steps note_goals
returns-in-StoppedOpen-clause-steps c =
    rw (c.in-StoppedOpen.is, sym c.taken_up_to-command-in-StoppedOpen.ensures, sym c.taken_up_to-stop.ensures) c.come_to_both-in-StoppedOpen.ensures.steps

pub returns-in-StoppedOpen-clause-pointers : goal.returns-in-StoppedOpen-clause-pointers
unfolding note_goals pointers_behind
returns-in-StoppedOpen-clause-pointers c =
    rw (c.in-StoppedOpen.is, sym c.taken_up_to-command-in-StoppedOpen.ensures, sym c.taken_up_to-stop.ensures) c.come_to_both-in-StoppedOpen.ensures.pointers

pub returns-in_ok-push-in-Made : goal.returns-in_ok-push-in-Made
unfolding note_steps note_goals pointers_behind brought
returns-in_ok-push-in-Made c = record { size = c.requires.size; steps = rw c.in-Made.is c.in_ok-push-in-Made.ensures.items; pointers = rw c.in-Made.is }

pub returns-in-Placed : goal.returns-in-Placed
unfolding note_steps note_goals pointers_behind
returns-in-Placed c = record { size = c.place.ensures.size; steps = rw c.in-Placed.is (sym (append-nil c.args.steps.now.items)); pointers = rw c.in-Placed.is c.place.ensures.placed }

pub returns-in_ok-push-in-Next : goal.returns-in_ok-push-in-Next
unfolding note_steps note_goals pointers_behind brought
returns-in_ok-push-in-Next c = record { size = c.requires.size; steps = rw c.in-Next.is c.in_ok-push-in-Next.ensures.items; pointers = rw c.in-Next.is }
