use Rattle.driver_rows.proofs.Laws.{arith, ◌≡◌, ◌≤◌, refl, ap, sym, ◌∙◌, false, not, floor_number, RingView, FollowsRing, is_other_than_declared, is_not_declared, address_aligned, address_ends, from_not, not_declared, other_is, declared_there, cycle_bit}
use Rattle.driver_rows.proofs.writes.positions.position_refusal.Goals.{After-have_same_words}
use Rattle.driver_rows.proofs.writes.positions.position_refusal.Goals as goal

pub returns-in_default : goal.returns-in_default
returns-in_default g c = λ v f from. sym (not_declared c.args.shape.now v _ _ _ c.args.position (sym (c.declared.ensures.value c.args.shape.now v f from) ∙ c.in_default.is))

pub block_after-given-requires-clause-aligned : goal.block_after-given-requires-clause-aligned
block_after-given-requires-clause-aligned g c = rw c.address.ensures (address_aligned c.args.shape.now c.requires c.args.position)

pub block_after-given-requires-clause-ends : goal.block_after-given-requires-clause-ends
block_after-given-requires-clause-ends g c = rw c.address.ensures (address_ends c.args.shape.now c.requires c.args.position)

-- the first two tests ask the block that the write leaves
tests_are : (g : _) (c : After-have_same_words g) (v : RingView) → FollowsRing c.args.shape.now v c.args.known.now → floor_number v ≤ c.args.position →
    (is_other_than_declared c.args.shape.now v (g.M.WordMemory.words c.args.memory.now) c.args.at c.args.word c.args.position ≡ not c.have_same_words.result) × (is_not_declared v c.args.position ≡ false)
tests_are g c v f from = grind (arith, cycle_bit, other_is, declared_there)

pub returns-then-not-have_same_words : goal.returns-then-not-have_same_words
returns-then-not-have_same_words g c = λ v f from.
    let is = tests_are g (goal.at.returns-then-not-have_same_words g c).After-have_same_words v f from in
    rw (is.0 ∙ ap not c.if-not-have_same_words.true) refl

pub returns-then-not-is_whole : goal.returns-then-not-is_whole
returns-then-not-is_whole g c = λ v f from.
    let is = tests_are g (goal.at.returns-then-not-is_whole g c).After-have_same_words v f from in
    rw (is.0 ∙ ap not c.if-not-have_same_words.false, is.1, from_not _ _ (sym (c.is_whole.ensures v f from) ∙ c.if-not-is_whole.true)) refl

pub returns : goal.returns
returns g c = λ v f from.
    let is = tests_are g (goal.at.returns g c).After-have_same_words v f from in
    rw (is.0 ∙ ap not c.if-not-have_same_words.false, is.1, from_not _ _ (sym (c.is_whole.ensures v f from) ∙ c.if-not-is_whole.false)) refl
