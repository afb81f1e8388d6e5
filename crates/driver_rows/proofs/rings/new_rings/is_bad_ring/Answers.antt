use Rattle.driver_rows.proofs.Laws.{◌≡◌, ◌∙◌, length, take, refl, sym, ap, arith, list_any, take-length, list_any_at, is_bad_ring, is_bad_segment, ◌*◌, ring_with, touches_ring, is_bad_kind, is_command_kind, is_event_kind, none_of}
use Rattle.driver_rows.proofs.rings.new_rings.is_bad_ring.Goals as goal

pub returns-then-is_named-clause-rule : goal.returns-then-is_named-clause-rule
unfolding is_bad_ring
returns-then-is_named-clause-rule g c = λ k f. rw (← c.is_named.ensures, c.if-is_named.true) refl

pub returns-then-is_bad_kind-clause-rule : goal.returns-then-is_bad_kind-clause-rule
unfolding is_bad_ring
returns-then-is_bad_kind-clause-rule g c = λ k f.
    rw (← c.is_named.ensures, c.if-is_named.false, ← (c.is_bad_kind.ensures.rule k f.registers ∙ ap (is_bad_kind c.args.header.now k) c.kind.ensures), c.if-is_bad_kind.true) refl

pub loop-segment-init : goal.loop-segment-init
loop-segment-init g c = ((λ k f. refl), refl)

pub returns-then-is_bad_segment-clause-rule : goal.returns-then-is_bad_segment-clause-rule
unfolding is_bad_ring
returns-then-is_bad_segment-clause-rule g c = grind (arith, list_any_at)

pub returns-clause-rule : goal.returns-clause-rule
unfolding is_bad_ring
returns-clause-rule g c = λ k f.
    let segments = c.args.ring.now.shape.segments in
    let all : c.loop-segment.segment-index ≡ length segments = omega (arith, c.loop-segment.auto.segment-index-end, c.loop-segment-test.false, ap length c.segments-segment-items.ensures) in
    let none = sym (ap (list_any (is_bad_segment c.args.header.now k)) (ap (λ n. take n segments) all ∙ take-length segments)) ∙ c.loop-segment.invariant.0 k f in
    rw (← c.is_named.ensures, c.if-is_named.false, ← (c.is_bad_kind.ensures.rule k f.registers ∙ ap (is_bad_kind c.args.header.now k) c.kind.ensures), c.if-is_bad_kind.false) (sym none)

pub returns-clause-clear : goal.returns-clause-clear
returns-clause-clear g c = λ fine.
    let h = c.args.header.now in
    let segments = c.args.ring.now.shape.segments in
    let all : c.loop-segment.segment-index ≡ length segments = omega (arith, c.loop-segment.auto.segment-index-end, c.loop-segment-test.false, ap length c.segments-segment-items.ensures) in
    record {
      unnamed = none_of (ring_with h c.args.ring.now.id) (sym c.is_named.ensures ∙ c.if-is_named.false);
      untouched = sym (ap (list_any (λ s. touches_ring h s.base (16 * s.count))) (ap (λ n. take n segments) all ∙ take-length segments)) ∙ c.loop-segment.invariant.1;
      commands = λ it. c.is_bad_kind.ensures.commands c.if-is_bad_kind.false (ap (λ n. is_command_kind n) c.kind.ensures ∙ it);
      events = λ it. c.is_bad_kind.ensures.events c.if-is_bad_kind.false (ap (λ n. is_event_kind n) c.kind.ensures ∙ it);
    }
