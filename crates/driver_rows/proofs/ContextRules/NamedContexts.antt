-- The input contexts that commands name
use Rattle.driver_rows.proofs.Words.{◌≡◌, ℕ, Bool, false, Some, None, ap, ◌∙◌, if◌then◌else◌, Command, ConfigureEndpoint, named_context}

-- without DC, Configure Endpoint names one
pub configure_names : (c : Command) (s a : ℕ) (dc : Bool) → c ≡ ConfigureEndpoint s dc a → dc ≡ false → named_context c ≡ Some a
configure_names c s a dc is with_context = ap named_context is ∙ ap (λ (b : Bool). if b then None else Some a) with_context
