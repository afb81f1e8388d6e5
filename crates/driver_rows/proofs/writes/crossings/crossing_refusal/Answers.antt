use Rattle.driver_rows.proofs.Laws.{arith, ◌≡◌, refl, sym, ◌∙◌, word, is_set, link_aligned, link_ends, is_wrong_link, leads_wrong, interrupts, link_there, wrong_is, interrupts_is}
use Rattle.driver_rows.proofs.writes.crossings.crossing_refusal.Goals.{After-block_after-link}
use Rattle.driver_rows.proofs.writes.crossings.crossing_refusal.Goals as goal

pub block_after-link-requires-clause-aligned : goal.block_after-link-requires-clause-aligned
block_after-link-requires-clause-aligned g c = rw c.link.ensures (link_aligned c.args.shape.now c.requires.allowed c.link_crossed-segment.result c.link_crossed-segment.ensures.within)

pub block_after-link-requires-clause-ends : goal.block_after-link-requires-clause-ends
block_after-link-requires-clause-ends g c = rw c.link.ensures (link_ends c.args.shape.now c.requires.allowed c.link_crossed-segment.result c.link_crossed-segment.ensures.within)

-- the tests ask the Link that the write leaves
tests_are : (g : _) (c : After-block_after-link g) →
    (leads_wrong c.args.shape.now (g.M.WordMemory.words c.args.memory.now) c.args.at c.args.word c.args.crossing ≡ is_wrong_link c.args.shape.now c.link_crossed-segment.result c.block_after-link.result)
    × (interrupts c.args.shape.now (g.M.WordMemory.words c.args.memory.now) c.args.at c.args.word c.args.crossing ≡ is_set (word c.block_after-link.result 3) 5)
tests_are g c = grind (arith, link_there, wrong_is, interrupts_is)

pub returns-then-is_wrong_link : goal.returns-then-is_wrong_link
returns-then-is_wrong_link g c =
    let is = tests_are g (goal.at.returns-then-is_wrong_link g c).After-block_after-link in
    rw (is.0 ∙ sym c.is_wrong_link.ensures ∙ c.if-is_wrong_link.true) refl

pub returns-then-awaits : goal.returns-then-awaits
returns-then-awaits g c =
    let is = tests_are g (goal.at.returns-then-awaits g c).After-block_after-link in
    rw (is.0 ∙ sym c.is_wrong_link.ensures ∙ c.if-is_wrong_link.false, c.if-awaits.true) refl

pub returns-then-has_interrupt : goal.returns-then-has_interrupt
returns-then-has_interrupt g c =
    let is = tests_are g (goal.at.returns-then-has_interrupt g c).After-block_after-link in
    rw (is.0 ∙ sym c.is_wrong_link.ensures ∙ c.if-is_wrong_link.false, c.if-awaits.false, is.1 ∙ sym c.has_interrupt.ensures ∙ c.if-has_interrupt.true) refl

pub returns : goal.returns
returns g c =
    let is = tests_are g (goal.at.returns g c).After-block_after-link in
    rw (is.0 ∙ sym c.is_wrong_link.ensures ∙ c.if-is_wrong_link.false, c.if-awaits.false, is.1 ∙ sym c.has_interrupt.ensures ∙ c.if-has_interrupt.false) refl
