-- The success of a command touches endpoints of the slot alone that it names, and where it names an endpoint, that one
use Rattle.trace_record.proofs.BaseWords.{rules, ◌≡◌, ◌==◌, ◌&&◌, ◌||◌, ◌∷◌, ℕ, Bool, true, false, List, [], refl, map, list_any, eq-eqb, ne_eqb, false≢true, ContextSize, Command, added_endpoints, is_dropped, is_above_control, placed_by_context, changes, is_about, cases_Bool}
use Rattle.commands.specs.Changes.{touches}

module _ (size : ContextSize) (memory : ℕ → ℕ) (s i : ℕ) where
  -- endpoints of slot t are placed
  placed : (t c : ℕ) (b : Bool) (xs : List ℕ) → ((s == t && b) || list_any (touches s i) (map (placed_by_context size memory t c) xs)) ≡ true → (s == t) ≡ true
  placed t c b xs e = search (rules, cases_Bool (s == t), false≢true, none)
    where
      none : (s == t) ≡ false → (xs : List ℕ) → list_any (touches s i) (map (placed_by_context size memory t c) xs) ≡ false
      none other [] = refl
      none other (x ∷ xs) = λ j. (other j && i == x) || none other xs j

  -- a command that touches an endpoint is about its slot as a whole, or about it
  pub touched_about : (n : ℕ) (c : Command) → list_any (touches s i) (changes size memory n c) ≡ true → (is_about s 0 c || is_about s i c) ≡ true
  unfolding changes
  touched_about n c h1 = search (rules, false≢true, placed, is_dropped, added_endpoints, is_above_control, eq-eqb, ne_eqb)
