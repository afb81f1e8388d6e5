-- What is right to answer to the text of a trace of which is asked who owns what before a row
use Rattle.std.specs.Prelude.{false, ℕ, List, Option}
use Rattle.trace_reader.specs.TraceOfText.{TraceText}
use Rattle.knowledge_page.specs.declared.shown.Shown.{Shown}
use Rattle.knowledge_page.specs.Shown.{IsNoRow, IsShown}
use Rattle.answers.specs.declared.answer.Answer.{Answer}
use Rattle.answers.specs.declared.answer.Answer.TheVariants.{Shown as PageShown, NoRow, Memory}
use Rattle.command_runs.specs.TraceTexts.{IsTraceAnswer}

-- what is right to answer of a trace: a page, where what is known and lent at the row is; that the row is none of those that may be asked
-- for; or that memory was wanted
abbrev pub IsPageAnswer : Option ℕ → TraceText → Answer → Type 0
IsPageAnswer row trace (PageShown page) = (shown : Shown) × IsShown trace row shown
IsPageAnswer row trace (NoRow first last) = IsNoRow trace row first last
IsPageAnswer row trace Memory = Unit {0}
IsPageAnswer row trace _ = ⊥

-- what is right to answer to the text of a trace
abbrev pub IsShowAnswer : Option ℕ → Option (List ℕ) → Answer → Type 0
IsShowAnswer row rows answer = IsTraceAnswer false (IsPageAnswer row) rows answer
