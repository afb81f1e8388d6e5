use Rattle.trace_record.proofs.Laws.{◌≡◌, ◌∙◌, true, sym, subst, is_command_kind, read_at, given_from, Option, ℕ, IsGivenBy, command_drives, command_is}
use Rattle.trace_record.proofs.trace_record.TraceRecord.command_there.Goals as goal

pub returns-in-Some-get-2 : goal.returns-in-Some-get-2
returns-in-Some-get-2 c = λ k at word rings given.
    let h = c.args.header.now in
    let p = c.args.place.now in
    let n = c.in-Some.number in
    let q = c.in-Some-get.ring.now in
    let here = read_at c.as_slice-rings.result.now h.rings n q c.as_slice-rings.ensures c.in-Some-get.ensures.lookup.3.0 c.in-Some-get.ensures.lookup.1 in
    let there = read_at c.deref.result.now c.args.self.now.rings.items n c.in-Some-get-2.known.now c.deref.ensures.value c.in-Some-get-2.ensures.lookup.3.0 c.in-Some-get-2.ensures.lookup.1 in
    let commands : is_command_kind q.shape.kind ≡ true = sym c.is_command_ring.ensures ∙ c.if-not-is_command_ring.false in
    let driver = command_drives q.shape.kind commands in
    let on = subst (λ (r : Option ℕ). IsGivenBy h k at word r p.giving) c.in-Some.is given q here in
    c.given_command.ensures q.shape (k.ring q.id) (rings.each n q c.in-Some-get-2.known.now here there driver) (given_from q.shape (k.ring q.id) at word p.giving (on.positions driver))
    ∙ sym (command_is h k p n q here c.in-Some.is commands)
