use Rattle.driver_rows.proofs.Laws.{◌+◌, ◌∙◌, ap, sym, arith, ◌&&◌, not, list_any, bindings_from, is_to, has, bindings_at, bindings_end, binds_ring_is, and_true, forgets}
use Rattle.driver_rows.proofs.bindings.binding.forget_bound.Goals as goal

pub loop-index-init : goal.loop-index-init
loop-index-init g c = grind arith

pub loop-index-preserved : goal.loop-index-preserved
loop-index-preserved g c = (
  c.next_bound-index-in-loop-index.ensures.set,
  λ k f fits r.
      let h = c.args.header.now in
      let command = c.args.command.now in
      let bound = c.bound_by-bound.ensures h k f fits in
      let rest = bindings_from h k command (c.loop-index.index + 1) in
      ap (λ xs. has c.forget.new.rings r && not (list_any (is_to r) xs)) (sym (c.next_bound-index-in-loop-index.ensures.rest h k command bound))
      ∙ forgets c.loop-index.rings c.forget.new.rings r c.binding_in-binding.result rest (c.forget.ensures r)
      ∙ ap (λ xs. has c.loop-index.rings r && not (list_any (is_to r) xs))
      (sym (bindings_at h k command c.loop-index.index c.binding_in-binding.result c.loop-index-test.true (c.binding_in-binding.ensures k command f.words bound)))
      ∙ c.loop-index.invariant.1 k f fits r,
)

pub returns : goal.returns
returns g c = grind (arith, and_true, bindings_end, binds_ring_is)
