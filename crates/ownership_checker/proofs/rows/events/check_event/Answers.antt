use Rattle.ownership_checker.proofs.Laws.{true, false, sym, ◌∙◌, set_up, by_kind, event_step, impossible, left_out, left_out_possible, not_negated, when_true, by_place}
use Rattle.ownership_checker.proofs.rows.events.check_event.Goals as goal

pub returns-then-is_no_event-clause-refused : goal.returns-then-is_no_event-clause-refused
returns-then-is_no_event-clause-refused g c = λ k f keeps on ends.
    let h = c.args.header.now in
    let m = g.M.WordMemory.words c.args.memory.now in
    impossible h k on c.args.event (sym (by_place h k c.args.event (sym (c.is_no_event.ensures h k m f (set_up h c.requires.headed k keeps)) ∙ c.if-is_no_event.true)))

pub returns-then-is_left_out-clause-refused : goal.returns-then-is_left_out-clause-refused
returns-then-is_left_out-clause-refused g c = λ k f keeps on ends.
    let h = c.args.header.now in
    let m = g.M.WordMemory.words c.args.memory.now in
    let placed = sym (c.is_no_event.ensures h k m f (set_up h c.requires.headed k keeps)) ∙ c.if-is_no_event.false in
    let left = sym (c.is_left_out.ensures k f.devices) ∙ c.if-is_left_out.true in
    left_out h k on c.args.event (by_kind h k c.args.event placed ∙ left_out_possible h k c.args.event c.requires.headed keeps left) left

pub returns-then-not-note_event-clause-refused : goal.returns-then-not-note_event-clause-refused
returns-then-not-note_event-clause-refused g c = λ k f keeps on ends.
    let h = c.args.header.now in
    let m = g.M.WordMemory.words c.args.memory.now in
    let placed = sym (c.is_no_event.ensures h k m f (set_up h c.requires.headed k keeps)) ∙ c.if-is_no_event.false in
    let noted = c.note_event.ensures.possible k f keeps ends (sym (c.is_left_out.ensures k f.devices) ∙ c.if-is_left_out.false) in
    impossible h k on c.args.event (by_kind h k c.args.event placed ∙ not_negated _ false (sym noted ∙ c.if-not-note_event.true))

pub returns-clause-ok : goal.returns-clause-ok
returns-clause-ok g c = λ k f keeps on ends.
    let h = c.args.header.now in
    let m = g.M.WordMemory.words c.args.memory.now in
    let placed = sym (c.is_no_event.ensures h k m f (set_up h c.requires.headed k keeps)) ∙ c.if-is_no_event.false in
    let within = sym (c.is_left_out.ensures k f.devices) ∙ c.if-is_left_out.false in
    let noted = c.note_event.ensures.possible k f keeps ends within in
    event_step h k on c.args.event (by_kind h k c.args.event placed ∙ not_negated _ true (sym noted ∙ c.if-not-note_event.false)) within
    c.note_event.new.kept c.count_read.new.t m (λ clean. when_true c.note_event.result _ c.if-not-note_event.false c.note_event.ensures.followed k f keeps ends clean)
    (λ l follows cycled. c.count_read.ensures.followed h l m follows cycled)
