-- How checks end: how many traces had which answer, and the exit status of the program
use Rattle.std.specs.Prelude.{ℕ, ◌+◌, ◌-◌, ◌^◌, List, ◌++◌, if◌then◌else◌, nat_lt, Result, Ok, Err, codes, decimal, min}
use Rattle.answers.specs.Answers.{exit_number}
use Rattle.answers.specs.declared.answer.Status.{Status}
use Rattle.answers.specs.declared.answer.Status.TheVariants.{Clean, Unclean, Unreadable, Unanswered}
use Rattle.diagnostics.specs.declared.class.Class.{Class}
use Rattle.diagnostics.specs.declared.class.Class.TheVariants.{Broken, Unjudged}
use Rattle.command_runs.specs.declared.outcome.Outcome.{Outcome}
use Rattle.command_runs.specs.declared.outcome.Tally.{Tally}

abbrev pub no_traces : Tally
no_traces = record { accepted = 0; refused = 0; unjudged = 0; unreadable = 0; unanswered = 0 }

-- one more, as far as 32 bits count
abbrev pub more : ℕ → ℕ
more n = min (n + 1) (2 ^ 32 - 1)

-- a trace more with such an answer
abbrev pub counted : Tally → Status → Class → Tally
counted tally Clean class = record tally { accepted = more tally.accepted }
counted tally Unclean Broken = record tally { refused = more tally.refused }
counted tally Unclean Unjudged = record tally { unjudged = more tally.unjudged }
counted tally Unreadable class = record tally { unreadable = more tally.unreadable }
counted tally Unanswered class = record tally { unanswered = more tally.unanswered }

abbrev pub behind : Tally → Outcome → Tally
behind tally outcome = counted tally outcome.status outcome.class

-- the exit status, where traces that aren't judged have this one: that of the worst answer
abbrev pub number_of : ℕ → Tally → ℕ
number_of unjudged tally =
    if nat_lt 0 tally.unanswered then exit_number Unanswered
    else if nat_lt 0 tally.unreadable then exit_number Unreadable
    else if nat_lt 0 tally.refused then exit_number Unclean
    else if nat_lt 0 tally.unjudged then unjudged
    else exit_number Clean

abbrev pub unread : Tally → ℕ
unread tally = tally.unreadable + tally.unanswered

-- how many traces there were, and how many of each answer: unreadable are those without a verdict
abbrev pub summary_text : Tally → List ℕ
summary_text tally =
    decimal (tally.accepted + tally.refused + tally.unjudged + unread tally) ++ (codes " traces: " ++ (decimal tally.accepted ++ (codes " accepted, "
    ++ (decimal tally.refused ++ (codes " refused, " ++ (decimal tally.unjudged ++ (codes " not judged, " ++ (decimal (unread tally) ++ codes " unreadable\n"))))))))

-- the status of a check that could be told
abbrev pub told_status : {E : Type 0} → Result Outcome E → Result Status E
told_status (Ok it) = Ok it.status
told_status (Err error) = Err error
