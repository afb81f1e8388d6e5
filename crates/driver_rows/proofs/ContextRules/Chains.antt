-- The answer of a chain of tests, each of which is asked where those before it fail
use Rattle.driver_rows.proofs.Words.{◌≡◌, Bool, true, false, ap, sym, ◌∙◌, ◌||◌, ◌&&◌}

-- the chain stops at one that holds
pub stops : (v a b : Bool) → v ≡ a → v ≡ true → v ≡ (a || b)
stops v a b is holds = holds ∙ sym (ap (λ x. x || b) (sym is ∙ holds))

-- or goes on where it fails
pub goes_on : (v r a b : Bool) → v ≡ a → v ≡ false → r ≡ b → r ≡ (a || b)
goes_on v r a b is fails rest = rest ∙ sym (ap (λ x. x || b) (sym is ∙ fails))

pub both_hold : (r a b : Bool) → a ≡ true → r ≡ b → r ≡ (a && b)
both_hold r a b holds is = is ∙ sym (ap (λ x. x && b) holds)
