use Rattle.trace_record.proofs.Laws.{◌∙◌, ap, get_or, is_command_kind, refl, ring_here, subst, sym, no_command_ring, read_at}
use Rattle.trace_record.proofs.BaseWords.{◌&&◌, FollowsRing, Shape, command_id, due_positions, list_any, nat_le}
use Rattle.segments.specs.Ceiling.{given_count}
use Rattle.ownership_rules.specs.Registers.{has_gap}
use Rattle.trace_record.proofs.CommandRing.{command_follows, command_shape, gapless}
use Rattle.trace_record.proofs.trace_record.TraceRecord.has_gap.Goals as goal

pub returns-in_default : goal.returns-in_default
returns-in_default c = λ k f. gapless c.args.header.now c.requires.headed k (no_command_ring c.args.header.now (sym c.requires.found.commands ∙ c.in_default.is))

pub returns-in-Some-get : goal.returns-in-Some-get
unfolding has_gap
returns-in-Some-get c = λ k f.
    let h = c.args.header.now in
    let is = sym c.requires.found.commands ∙ c.in-Some.is in
    let there = read_at c.deref.result.now c.args.self.now.rings.items c.in-Some.number c.in-Some-get.known.now c.deref.ensures.value c.in-Some-get.ensures.lookup.3.0 c.in-Some-get.ensures.lookup.1 in
    let ring = c.index-rings-number.result in
    let here = ring_here h (λ q. is_command_kind q.shape.kind) h.rings c.in-Some.number ring is refl (c.index-rings-number.is ∙ ap (λ xs. get_or xs c.in-Some.number ring) c.as_slice-rings.ensures) in
    let shape = command_shape h c.requires.headed k c.args.self.now.rings.items f c.in-Some.number c.in-Some-get.known.now is there ring here.0 in
    let v = k.ring (command_id h) in
    let follows = command_follows h c.requires.headed k c.args.self.now.rings.items f c.in-Some.number c.in-Some-get.known.now is there in
    c.has_gap.ensures v (subst (λ (s : Shape). FollowsRing s v c.in-Some-get.known.now) (sym shape) follows)
    ∙ ap (λ (s : Shape). list_any (λ p. v.given p && nat_le (given_count s v) p) (due_positions s v)) shape
