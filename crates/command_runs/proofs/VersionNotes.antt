-- What the verdict of a version says of a row that another one refuses
use Rattle.command_runs.proofs.Words.{Header, None, Refusal, Some, TraceText, Version, ap, breaks_no_rule_of, in_version, is_behind, nat_lt, trace_verdict, subst, sym, true, ℕ, ◌≡◌}

module _ (v : Version) (trace : TraceText) (made : Header) (row : ℕ) (is : made ≡ in_version v trace.header) where
  pub accepted_by : trace_verdict made trace.first trace.rows ≡ None → true ≡ breaks_no_rule_of v trace row
  unfolding breaks_no_rule_of
  accepted_by none = sym (ap (is_behind row) (subst (λ (h : Header). trace_verdict h trace.first trace.rows ≡ None) is none))

  pub refused_by : (refused : ℕ) (rule : Refusal) → trace_verdict made trace.first trace.rows ≡ Some (refused, rule) → nat_lt row refused ≡ breaks_no_rule_of v trace row
  unfolding breaks_no_rule_of
  refused_by refused rule found = sym (ap (is_behind row) (subst (λ (h : Header). trace_verdict h trace.first trace.rows ≡ Some (refused, rule)) is found))
