-- Which rows of a trace break no rule of a version
use Rattle.std.specs.Prelude.{ℕ, Bool, true, nat_lt, Option, None, Some}
use Rattle.traces.specs.declared.header.Header.{Header}
use Rattle.traces.specs.declared.version.Version.{Version}
use Rattle.trace_reader.specs.TraceOfText.{TraceText}
use Rattle.ownership_rules.specs.declared.refusal.Refusal.{Refusal}
use Rattle.ownership_rules.specs.Rules.{trace_verdict}

-- the same header, for rows that another version judges
abbrev pub in_version : Version → Header → Header
in_version v h = record h { version = v }

-- the row that is refused, if one is, stands behind this one
abbrev pub is_behind : ℕ → Option (ℕ × Refusal) → Bool
is_behind row None = true
is_behind row (Some refused) = nat_lt row refused.0

-- the version refuses neither the row nor one before it
unfoldable pub breaks_no_rule_of : Version → TraceText → ℕ → Bool
breaks_no_rule_of v trace row = is_behind row (trace_verdict (in_version v trace.header) trace.first trace.rows)
