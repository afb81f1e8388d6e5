use Rattle.trace_record.proofs.Laws.{◌∙◌, ap, sym, no_command_ring, read_at}
use Rattle.std.proofs.Common.{nat_lt}
use Rattle.ring_knowledge.specs.Rings.{next_command}
use Rattle.ownership_rules.specs.Events.{may_be_taken}
use Rattle.trace_record.proofs.CommandRing.{command_follows, untaken}
use Rattle.trace_record.proofs.trace_record.TraceRecord.may_be_taken.Goals as goal

pub returns-in_default : goal.returns-in_default
returns-in_default c = λ k f there. untaken c.args.header.now c.requires.headed k (no_command_ring c.args.header.now (sym c.requires.found.commands ∙ c.in_default.is)) there

pub returns-in-Some-get : goal.returns-in-Some-get
unfolding may_be_taken next_command
returns-in-Some-get c = λ k f there.
    let h = c.args.header.now in
    let follows = command_follows h c.requires.headed k c.args.self.now.rings.items f c.in-Some.number c.in-Some-get.known.now (sym c.requires.found.commands ∙ c.in-Some.is)
    (read_at c.deref.result.now c.args.self.now.rings.items c.in-Some.number c.in-Some-get.known.now c.deref.ensures.value c.in-Some-get.ensures.lookup.3.0 c.in-Some-get.ensures.lookup.1) in
    ap (λ n. nat_lt n c.ceiling.result) (c.floor_number.ensures.value _ _ follows) ∙ ap (λ n. nat_lt (next_command h k) n) (c.ceiling.ensures _ _ follows)
