use Rattle.guest_memory.proofs.Words.{arith, first_of}
use Rattle.guest_memory.proofs.Seeking.{free_behind, way_behind, later_behind, free_none}
use Rattle.guest_memory.proofs.sparse_memory.SparseMemory.seek.Goals as goal

pub returns-then-next-eq0 : goal.returns-then-next-eq0
returns-then-next-eq0 c =
    free_behind c.args.self.now.pages.items c.args.number c.loop-at.at c.loop-at.rest c.index-page.result.now c.args.self.now.is_tree
    c.loop-at.invariant (omega arith) c.index-page.ensures c.if-page-number.false c.if-next-eq0.true

pub loop-at-smaller : goal.loop-at-smaller
loop-at-smaller c =
    later_behind c.args.self.now.pages.items c.loop-at.at (first_of c.loop-at.rest) c.index-page.result.now c.args.self.now.is_tree
    (omega arith) c.index-page.ensures c.if-next-eq0.false

pub loop-at-preserved : goal.loop-at-preserved
loop-at-preserved c =
    way_behind c.args.self.now.pages.items c.args.number c.loop-at.at c.loop-at.rest c.index-page.result.now c.args.self.now.is_tree
    c.loop-at.invariant (omega arith) c.index-page.ensures c.if-page-number.false c.if-next-eq0.false

pub returns : goal.returns
returns c = free_none c.args.self.now.pages.items c.args.number c.loop-at.at c.loop-at.rest c.loop-at.invariant (omega arith)
