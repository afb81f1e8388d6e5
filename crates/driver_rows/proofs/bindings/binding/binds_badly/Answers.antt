use Rattle.driver_rows.proofs.Laws.{◌≡◌, refl, Known, FollowsTrace, DriverKeeps, FitsMemory, HoldsDropped, ◌+◌, ◌∙◌, ap, arith, ◌||◌, not, has_repeats, HoldsContexts, are_bad, bindings_from, is_misplaced, bindings_at, bindings_end, of_dequeue}
use Rattle.driver_rows.proofs.bindings.binding.binds_badly.Goals.{After-take}
use Rattle.driver_rows.proofs.bindings.binding.binds_badly.Goals as goal

pub loop-index-init : goal.loop-index-init
loop-index-init g c = grind arith

-- what the bindings come to with the one that is asked
took : (g : _) (c : After-take g) (k : Known) → FollowsTrace c.args.header.now k c.args.t.now (g.M.WordMemory.words c.args.memory.now) → DriverKeeps c.args.header.now k →
    FitsMemory c.args.header.now.context_size c.args.command.now → HoldsDropped k c.args.command.now c.args.dropped.now →
    are_bad (is_misplaced c.args.header.now k c.args.command.now) c.args.t.now.bound (bindings_from c.args.header.now k c.args.command.now 1)
    ≡ (not c.take.result || are_bad (is_misplaced c.args.header.now k c.args.command.now) c.take.new.taken (bindings_from c.args.header.now k c.args.command.now (c.loop-index.index + 1)))
took g c k f keeps fits holds =
    let h = c.args.header.now in
    let command = c.args.command.now in
    let contexts : HoldsContexts k c.args.t.now.devices (g.M.WordMemory.words c.args.memory.now) = record { followed = f.devices; words = f.words } in
    let here = c.binding_in-binding.ensures k command f.words (c.bound_by-bound.ensures h k contexts fits) in
    c.loop-index.invariant.1 k f keeps fits holds
    ∙ ap (λ xs. are_bad (is_misplaced h k command) c.loop-index.taken xs) (bindings_at h k command c.loop-index.index c.binding_in-binding.result c.loop-index-test.true here)
    ∙ c.take.ensures k (g.M.WordMemory.words c.args.memory.now) command f keeps holds (of_dequeue h k command c.loop-index.index c.binding_in-binding.result here) (bindings_from h k command (c.loop-index.index + 1))

pub loop-index-preserved : goal.loop-index-preserved
loop-index-preserved g c = (
  c.next_bound-index-in-loop-index.ensures.set,
  λ k f keeps fits holds.
      let h = c.args.header.now in
      let command = c.args.command.now in
      let bad = is_misplaced h k command in
      let contexts : HoldsContexts k c.args.t.now.devices (g.M.WordMemory.words c.args.memory.now) = record { followed = f.devices; words = f.words } in
      took g (goal.at.loop-index-preserved g c).After-take k f keeps fits holds
      ∙ ap (λ b. not b || are_bad bad c.take.new.taken (bindings_from h k command (c.loop-index.index + 1))) c.if-not-take.false
      ∙ ap (are_bad bad c.take.new.taken) (c.next_bound-index-in-loop-index.ensures.rest h k command (c.bound_by-bound.ensures h k contexts fits)),
)

pub returns-then-not-take : goal.returns-then-not-take
returns-then-not-take g c = λ k f keeps fits holds. rw (took g (goal.at.returns-then-not-take g c).After-take k f keeps fits holds, c.if-not-take.true) refl

pub returns : goal.returns
unfolding has_repeats
returns g c = grind (arith, bindings_end)
