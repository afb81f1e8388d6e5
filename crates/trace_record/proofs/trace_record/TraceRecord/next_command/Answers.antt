use Rattle.trace_record.proofs.Laws.{◌∙◌, ap, sym, arith, command_in, no_command_ring, IsCommandNumber, command_number, has_commands, read_at, next_is}
use Rattle.trace_record.proofs.trace_record.TraceRecord.next_command.Goals as goal

pub returns-in_default : goal.returns-in_default
returns-in_default c = λ k f some. has_commands c.args.header.now some (no_command_ring c.args.header.now (sym c.requires.found.commands ∙ c.in_default.is))

pub returns : goal.returns
returns c = λ k f some.
    let h = c.args.header.now in
    let has : IsCommandNumber h c.in-Some.number = command_number h c.requires.headed c.in-Some.number (sym c.requires.found.commands ∙ c.in-Some.is) in
    let follows = f.each c.in-Some.number has.ring c.in-Some-get.known.now has.at
    (read_at c.deref.result.now c.args.self.now.rings.items c.in-Some.number c.in-Some-get.known.now c.deref.ensures.value c.in-Some-get.ensures.lookup.3.0 c.in-Some-get.ensures.lookup.1) has.driver in
    let v = k.ring has.ring.id in
    let stands = c.floor_number-next.ensures.value has.ring.shape v follows in
    c.declared_command.ensures has.ring.shape v follows (omega (arith, stands)) ∙ ap (command_in v.queue) stands ∙ sym (next_is h c.requires.headed k has.ring has.there)
