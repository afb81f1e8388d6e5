use Rattle.trace_reader.proofs.Laws.{arith, ◌≡◌, ◌<◌, ◌||◌, ◌∙◌, false, ap, rules, sym, clash, list_any, some_lines, all_with, none_overlapped, its_segments, one_more_unmoved, one_ring_more, placed_well, refl}
use Rattle.trace_reader.specs.SegmentsApart.{segments_of}
use Rattle.trace_reader.proofs.so_far.TraceSoFar.add_ring.Goals as goal

pub add_all-requires-clause-some : goal.add_all-requires-clause-some
add_all-requires-clause-some c = rw c.segments.ensures (its_segments c.in_ok-ring.ring.shape c.in_ok-ring.ensures.allowed).0

pub add_all-requires-clause-free : goal.add_all-requires-clause-free
add_all-requires-clause-free c =
    rw c.segments.ensures (none_overlapped c.in_ok-ring.ring c.args.self.now.rings.items c.args.self.now.segments (c.args.self.now.searched c.if-not-self.false) (search rules))

pub invariant_of-self-2-clause-headed : goal.invariant_of-self-2-clause-headed
invariant_of-self-2-clause-headed c =
    let r = c.args.self.now in
    let ring = c.in_ok-ring.ring in
    let none : list_any (clash ring) r.rings.items ≡ false = search rules in
    let small : ring.id < 256 = rw c.in_ok-ring.ensures.read c.in_ok-ring.ensures.small in
    one_ring_more (record { version = r.version; context_size = r.size; rings = r.rings.items }) _ ring small (placed_well r.rings.items ring c.in_ok-ring.ensures.allowed none) r.headed c.in_ok-push.ensures.items

pub invariant_of-self-2-clause-unmoved : goal.invariant_of-self-2-clause-unmoved
invariant_of-self-2-clause-unmoved c = rw c.in_ok-push.ensures.items (one_more_unmoved c.args.self.now.rings.items c.in_ok-ring.ring c.args.self.now.unmoved (rw c.in_ok-ring.ensures.read refl))

pub invariant_of-self-2-clause-searched : goal.invariant_of-self-2-clause-searched
invariant_of-self-2-clause-searched c = λ same p.
    let r = c.args.self.now in
    all_with r.rings.items c.in_ok-ring.ring r.segments c.add_all.new.self (r.searched c.if-not-self.false)
    (λ q. c.in_ok-add_all.ensures q ∙ ap (λ ss. list_any q ss || list_any q r.segments) c.segments.ensures) p
    ∙ ap (λ rs. list_any p (segments_of rs)) (sym c.in_ok-push.ensures.items)

pub overflow_add-self : goal.overflow_add-self
overflow_add-self c = let most = (some_lines c.args.self.now.keeps c.args.self.now.version).1 in let few = c.requires in omega (arith, most, few)

pub invariant_of-self-2-clause-counted : goal.invariant_of-self-2-clause-counted
invariant_of-self-2-clause-counted c = let most = (some_lines c.args.self.now.keeps c.args.self.now.version).1 in let few = c.requires in omega (arith, most, few)
