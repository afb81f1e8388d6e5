use Rattle.driver_rows.proofs.Laws.{arith, ◌*◌, ◌≡◌, ap, length, ◌∙◌, ◌||◌, is_table_fault, is_bad_area, few_segments, table_is, goes_on, stops}
use Rattle.driver_rows.proofs.registers.is_bad_place.Goals as goal

pub returns-then-is_bad_area : goal.returns-then-is_bad_area
returns-then-is_bad_area g c = λ k f e.
    let size : c.from.result ≡ length c.args.shape.now.segments = c.from.ensures ∙ c.in-Ok.ensures.1 ∙ ap length c.segments.ensures in
    stops _ _ _ (c.is_bad_area.ensures.rule _ k (g.M.WordMemory.words c.args.memory.now) c.requires.headed c.requires.found f) c.if-is_bad_area.true
    ∙ table_is c.args.header.now k c.args.base (g.M.WordMemory.words c.args.memory.now) f.words c.args.shape.now e.same c.from.result size

pub returns-else-is_bad_area : goal.returns-else-is_bad_area
returns-else-is_bad_area g c = λ k f e.
    let size : c.in-Ok.size ≡ length c.args.shape.now.segments = c.in-Ok.ensures.1 ∙ ap length c.segments.ensures in
    let wide : c.from.result ≡ c.in-Ok.size = c.from.ensures in
    goes_on _ _ _ _ (c.is_bad_area.ensures.rule _ k (g.M.WordMemory.words c.args.memory.now) c.requires.headed c.requires.found f) c.if-is_bad_area.false c.table_fault.ensures.exact
    ∙ ap (λ n. is_bad_area c.args.header.now k c.args.base (16 * n) || is_table_fault (g.M.WordMemory.words c.args.memory.now) c.args.base c.in-Ok.size c.args.shape.now) wide
    ∙ table_is c.args.header.now k c.args.base (g.M.WordMemory.words c.args.memory.now) f.words c.args.shape.now e.same c.in-Ok.size size

pub returns-in-Err : goal.returns-in-Err
returns-in-Err g c = grind (arith, few_segments)
