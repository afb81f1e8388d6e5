use Rattle.trace_record.proofs.Laws.{refl, subst, sym}
use Rattle.trace_record.proofs.BaseWords.{FollowsTrace, TraceRecord}
use Rattle.ring_knowledge.specs.Resets.{reset}
use Rattle.trace_record.proofs.ResetRecords.{reset_followed}
use Rattle.trace_record.proofs.trace_record.TraceRecord.reset.Goals as goal

pub returns-clause-ok : goal.returns-clause-ok
returns-clause-ok c = λ k m f on gapless declared.
    let h = c.args.header.now in
    subst (λ (t : TraceRecord). FollowsTrace h (reset h k) t m) (sym c.forget_commands.ensures.rest)
    (reset_followed h c.requires.headed k c.args.self.now _ m f gapless (c.reset_rings.ensures k f.rings declared) (c.reset.ensures h k f.registers on) c.in_ok-self.ensures.follows
    (c.clear.ensures h k f.devices) c.forget_commands.ensures.commands c.forget_commands.ensures.bound (c.forget_commands.ensures.inputs _ _ f.inputs) (c.clear-2.ensures _ _ f.contexts) refl)
