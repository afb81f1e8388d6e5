use Rattle.trace_record.proofs.Laws.{◌∙◌, sym, no_command_ring, read_at}
use Rattle.trace_record.proofs.CommandRing.{command_follows, unused}
use Rattle.trace_record.proofs.trace_record.TraceRecord.is_used.Goals as goal

pub returns-in_default : goal.returns-in_default
returns-in_default c = λ k f there. unused c.args.header.now c.requires.headed k (no_command_ring c.args.header.now (sym c.requires.found.commands ∙ c.in_default.is)) there

pub returns-in-Some-get : goal.returns-in-Some-get
returns-in-Some-get c = λ k f there.
    let h = c.args.header.now in
    c.was_started.ensures _ _ (command_follows h c.requires.headed k c.args.self.now.rings.items f c.in-Some.number c.in-Some-get.known.now (sym c.requires.found.commands ∙ c.in-Some.is)
    (read_at c.deref.result.now c.args.self.now.rings.items c.in-Some.number c.in-Some-get.known.now c.deref.ensures.value c.in-Some-get.ensures.lookup.3.0 c.in-Some-get.ensures.lookup.1))
