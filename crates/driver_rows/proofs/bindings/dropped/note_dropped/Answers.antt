use Rattle.driver_rows.proofs.Laws.{◌+◌, ◌-◌, ◌||◌, ◌∙◌, ap, sym, arith, list_any, range_with_len, is_ring, is_left, has, or_assoc, crossed, left_skipped, left_next, left_end, or_none}
use Rattle.driver_rows.proofs.bindings.dropped.note_dropped.Goals as goal

pub loop-index-init : goal.loop-index-init
loop-index-init c = (
  c.next_flag-index.ensures.behind,
  c.next_flag-index.ensures.set,
  λ k f r. ap (λ b. has c.args.rings.now r || b) (sym (left_skipped k c.args.flags c.args.slot r 2 c.next_flag-index.result c.next_flag-index.ensures.behind c.next_flag-index.ensures.clear)),
)

pub loop-index-preserved : goal.loop-index-preserved
loop-index-preserved c = (
  omega (arith, c.loop-index.invariant.0, c.next_flag-index-in-loop-index.ensures.behind),
  c.next_flag-index-in-loop-index.ensures.set,
  λ k f r.
      let flags = c.args.flags in
      let s = c.args.slot in
      let i = c.loop-index.index in
      let rest = list_any (λ j. is_left k flags s j r) (range_with_len (i + 1) (32 - (i + 1))) in
      let ring = is_ring r (k.ring_of s i) in
      ap (λ b. has c.note_ring.new.rings r || b) (sym (left_skipped k flags s r (i + 1) c.next_flag-index-in-loop-index.result c.next_flag-index-in-loop-index.ensures.behind c.next_flag-index-in-loop-index.ensures.clear))
      ∙ ap (λ b. b || rest) (c.note_ring.ensures r ∙ ap (λ o. is_ring r o || has c.loop-index.rings r) (c.ring_of.ensures k f))
      ∙ or_assoc ring (has c.loop-index.rings r) rest ∙ crossed ring (has c.loop-index.rings r) rest
      ∙ ap (λ b. has c.loop-index.rings r || b) (sym (left_next k flags s r i c.loop-index.invariant.0 c.loop-index-test.true (c.loop-index.invariant.1 c.loop-index-test.true)))
      ∙ c.loop-index.invariant.2 k f r,
)

pub returns : goal.returns
returns c = λ k f r.
    sym (or_none (has c.loop-index.rings r))
    ∙ ap (λ b. has c.loop-index.rings r || b) (sym (left_end k c.args.flags c.args.slot r c.loop-index.index (omega (arith, c.loop-index-test.false))))
    ∙ c.loop-index.invariant.2 k f r
