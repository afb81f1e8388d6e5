use Rattle.leases.proofs.Laws.{◌≡◌, ◌+◌, ◌<◌, ◌≤◌, ◌∙◌, List, true, false, arith, ap, subst, sym, Lent, HoldsAll, ℕ, is_input_context, command_id, command_at, floor_number, length, open_leases, place_count, range_of_command, shape_of, all_below, all_contexts, below, context_of, contexts_numbered, due_unfinished, handed_given, next_ended, no_context_yet, none_below, none_next, not_handed, still_there}
use Rattle.leases.proofs.LeaseRows.NumberedRanges.{contexts_lent, none_numbered}
use Rattle.leases.proofs.rows.unfinished.end_contexts.Goals.{then-is_handed_over, else-is_handed_over}
use Rattle.leases.proofs.rows.unfinished.end_contexts.Goals as goal

pub loop-position-init : goal.loop-position-init
loop-position-init g c = λ list k ts shaped follows keeps opened lent all.
    let h = c.args.header.now in
    let from : floor_number (k.ring (command_id h)) ≡ c.floor_number-floor.result = sym (c.floor_number-floor.ensures.value c.args.ring.now.shape (k.ring (command_id h)) follows) in
    subst (λ (n : ℕ). HoldsAll (g.B.LeaseLog.holds list) h (below context_of c.args.number ts n) c.args.book.now c.args.ranges.now) from
    (subst (λ (us : List Lent). HoldsAll (g.B.LeaseLog.holds list) h us c.args.book.now c.args.ranges.now)
    (sym (none_below context_of (open_leases h k) c.args.number ts opened (floor_number (k.ring (command_id h))) (no_context_yet h k))) all)

pub loop-position-preserved : goal.loop-position-preserved
loop-position-preserved g c = λ list k ts shaped follows keeps opened lent all.
    let h = c.args.header.now in
    let x = c.args.ranges.now in
    let p = c.loop-position.position in
    let v = k.ring (command_id h) in
    let row = c.args.number in
    let now = open_leases h k in
    let low : floor_number v ≤ p = omega (arith, c.floor_number-floor.ensures.value c.args.ring.now.shape v follows, c.loop-position.auto.position) in
    let few : p < length v.queue = omega (arith, c.declared_count-end.ensures c.args.ring.now.shape v follows, c.loop-position-test.true) in
    let near : p < floor_number v + place_count (shape_of h (command_id h)) = omega (arith, few, follows.marks.room, ap place_count shaped) in
    let before = c.loop-position.invariant list k ts shaped follows keeps opened lent all in
    elim c.if-is_handed_over.branch [
      | then-is_handed_over w ↦
          let given : v.given p ≡ true = handed_given v p (sym (c.is_handed_over.ensures v follows) ∙ w.if-is_handed_over.true) in
          let numbered = contexts_numbered h k p in
          let there = contexts_lent h k ts lent p (due_unfinished h k p low near given) in
          rw w.book-is
          (subst (λ (us : List Lent). HoldsAll (g.B.LeaseLog.holds list) h us w.end_context_at.new.book x) (next_ended context_of now row ts opened p (range_of_command h p (command_at h k p)) numbered)
          (w.end_context_at.ensures list k (below context_of row ts p) shaped follows low (still_there context_of now row ts opened p (range_of_command h p (command_at h k p)) numbered there) before))
      | else-is_handed_over w ↦
          let none : v.given p ≡ false = not_handed v keeps.commands_stay p (sym (c.is_handed_over.ensures v follows) ∙ w.if-is_handed_over.false) in
          rw w.book-is
          (subst (λ (us : List Lent). HoldsAll (g.B.LeaseLog.holds list) h us c.loop-position.book x) (none_next context_of now row ts opened p (none_numbered h k p none)) before)
    ]

pub returns : goal.returns
returns g c = λ list k ts shaped follows keeps opened lent all.
    let h = c.args.header.now in
    let v = k.ring (command_id h) in
    let most : length v.queue ≤ c.loop-position.position = omega (arith, c.declared_count-end.ensures c.args.ring.now.shape v follows, c.loop-position-test.false) in
    subst (λ (us : List Lent). HoldsAll (g.B.LeaseLog.holds list) h us c.loop-position.book c.args.ranges.now)
    (all_below context_of (open_leases h k) c.args.number ts opened c.loop-position.position is_input_context (all_contexts h k c.requires keeps c.loop-position.position most))
    (c.loop-position.invariant list k ts shaped follows keeps opened lent all)
