-- A diagnostic that is told is a diagnostic of its own line and matter
use Rattle.diagnostics.proofs.Words.{◌≡◌, ℕ, List, Result, Ok, Err, IfOk, IsToldOf, told_text, Diagnostic, View, Matter}

pub told_of : {A E : Type 0} (bytes : A → List ℕ) (r : Result A E) (view : View) (it : Diagnostic) (matter : Matter) (line : ℕ) →
    it.matter ≡ matter → it.refused.line ≡ line → IfOk r (λ told. bytes told ≡ told_text view it) →
    IfOk r (λ told. IsToldOf view matter line (bytes told))
told_of bytes (Ok told) view it matter line m l e = (it, m, l, e)
told_of bytes (Err error) view it matter line m l e = e
