use Rattle.trace_reader.proofs.Laws.{◌+◌, ◌∙◌, refl, ap, err_from_is_err_and, ahead_of, HasRead, end_told, fault_told, more_came, no_header_told, nothing_read, row_told}
use Rattle.trace_reader.proofs.Streaming.Openings.{line_more}
use Rattle.trace_reader.proofs.row_reader.reader.RowReader.open.Goals.{In_ok-fill_line}
use Rattle.trace_reader.proofs.row_reader.reader.RowReader.open.Goals as goal

-- what was read before the bytes that stand ahead now
read : (g : _) (c : In_ok-fill_line g) → HasRead c.args.keeps (g.S.Source.held c.args.source.now) (g.S.Source.held c.fill_line.new.source) c.loop-ahead.so_far (ahead_of c.fill_line.new.self)
read g c = more_came (g.S.Source.held c.fill_line.new.source) (ahead_of c.fill_line.new.self) c.loop-ahead.invariant.0 c.in_ok-fill_line.ensures.came

pub loop-ahead-init : goal.loop-ahead-init
loop-ahead-init g c = (nothing_read c.args.keeps (g.S.Source.held c.args.source.now) c.new-so_far.result (ahead_of c.in_ok-ahead.ahead) c.new-so_far.ensures c.in_ok-ahead.ensures, refl)

pub returns-in_err-says_row-clause-opened : goal.returns-in_err-says_row-clause-opened
returns-in_err-says_row-clause-opened g c =
    let p = err_from_is_err_and c.from_residual-in_err-says_row.result c.from_residual-in_err-says_row.ensures.1 in
    rw (p.1, p.2)
    (fault_told (read g (goal.at.returns-in_err-says_row-clause-opened g c).In_ok-fill_line) c.says_row.new.so_far (ahead_of c.says_row.new.ahead) c.in_err-says_row.field-0.0 c.in_err-says_row.ensures
    (rw c.if-branch.true at c.in_ok-fill_line.ensures.filled))

pub returns-then-branch-2-clause-opened : goal.returns-then-branch-2-clause-opened
returns-then-branch-2-clause-opened g c =
    row_told (read g (goal.at.returns-then-branch-2-clause-opened g c).In_ok-fill_line) c.says_row.new.so_far (ahead_of c.says_row.new.ahead) c.behind_header.result
    (rw c.if-branch-2.true at c.in_ok-says_row.ensures) c.behind_header.ensures.read c.behind_header.ensures.ended (ap ahead_of c.behind_header.ensures.ahead)

pub loop-ahead-preserved : goal.loop-ahead-preserved
loop-ahead-preserved g c = (
  line_more (read g (goal.at.loop-ahead-preserved g c).In_ok-fill_line) c.says_row.new.so_far (ahead_of c.says_row.new.ahead) (rw c.if-branch-2.false at c.in_ok-says_row.ensures),
  c.in_ok-fill_line.ensures.failures ∙ c.loop-ahead.invariant.1,
)

pub returns-then-so_far-lt2-clause-opened : goal.returns-then-so_far-lt2-clause-opened
returns-then-so_far-lt2-clause-opened g c =
    no_header_told (read g (goal.at.returns-then-so_far-lt2-clause-opened g c).In_ok-fill_line) (c.loop-ahead.so_far.lines + 1) (rw c.if-branch.false at c.in_ok-fill_line.ensures.filled) c.if-so_far-lt2.true refl

pub returns-clause-opened : goal.returns-clause-opened
returns-clause-opened g c =
    let made = c.behind_header-2 in
    end_told (read g (goal.at.returns-clause-opened g c).In_ok-fill_line) made.result (rw c.if-branch.false at c.in_ok-fill_line.ensures.filled) c.if-so_far-lt2.false made.ensures.read made.ensures.ended
    (ap ahead_of made.ensures.ahead)
