use Rattle.ownership_checker.proofs.Laws.{ap, sym, ◌∙◌, refl, not, noted_transfer, noted_completion, noted_other, of_completion, of_transfer, on_true, other_possible, within_profile}
use Rattle.ownership_checker.proofs.rows.events.note_event.Goals as goal

pub returns-in-TransferEvent-clause-possible : goal.returns-in-TransferEvent-clause-possible
returns-in-TransferEvent-clause-possible g c = λ k f keeps ends within.
    let h = c.args.header.now in
    let is = sym c.kind.ensures ∙ c.in-TransferEvent.is in
    c.read_transfer_event.ensures.possible k (g.M.WordMemory.words c.args.memory.now) f keeps (within_profile h k c.args.event is within) ∙ ap not (of_transfer h k c.args.event is)

pub returns-in-TransferEvent-clause-followed : goal.returns-in-TransferEvent-clause-followed
returns-in-TransferEvent-clause-followed g c =
    on_true c.read_transfer_event.result _ _ (λ p k f keeps ends clean.
    let m = g.M.WordMemory.words c.args.memory.now in
    noted_transfer c.args.header.now c.requires.headed k c.args.event keeps clean c.read_transfer_event.new.t m (sym c.kind.ensures ∙ c.in-TransferEvent.is)
    (λ within may. p k m f keeps within)) c.read_transfer_event.ensures.followed

pub returns-in-CommandCompletion-clause-possible : goal.returns-in-CommandCompletion-clause-possible
returns-in-CommandCompletion-clause-possible g c = λ k f keeps ends within.
    c.note_completion.ensures.possible k f keeps (ends (sym c.kind.ensures ∙ c.in-CommandCompletion.is)) ∙ ap not (of_completion c.args.header.now k c.args.event (sym c.kind.ensures ∙ c.in-CommandCompletion.is))

pub returns-in-CommandCompletion-clause-followed : goal.returns-in-CommandCompletion-clause-followed
returns-in-CommandCompletion-clause-followed g c =
    on_true c.note_completion.result _ _ (λ p k f keeps ends clean.
    let m = g.M.WordMemory.words c.args.memory.now in
    noted_completion c.args.header.now c.requires.headed k c.args.event keeps clean c.note_completion.new.kept m (sym c.kind.ensures ∙ c.in-CommandCompletion.is)
    (λ on may. p k f keeps on (ends (sym c.kind.ensures ∙ c.in-CommandCompletion.is)) may)) c.note_completion.ensures.followed

pub returns-in_default : goal.returns-in_default
returns-in_default g c = record {
  possible = λ k f keeps ends within.
      sym (ap not (other_possible c.args.header.now k c.args.event (λ e. c.in_default.not-TransferEvent (c.kind.ensures ∙ e)) (λ e. c.in_default.not-CommandCompletion (c.kind.ensures ∙ e))));
  followed = λ k f keeps ends clean.
      noted_other c.args.header.now c.requires.headed k c.args.event keeps clean c.args.kept.now (g.M.WordMemory.words c.args.memory.now)
      (λ e. c.in_default.not-TransferEvent (c.kind.ensures ∙ e)) (λ e. c.in_default.not-CommandCompletion (c.kind.ensures ∙ e)) f;
  events = refl;
}
