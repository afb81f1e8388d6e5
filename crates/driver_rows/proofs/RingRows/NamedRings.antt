-- A ring is found by its ID where one has it
use Rattle.driver_rows.proofs.Words.{◌≡◌, ◌∷◌, ◌∙◌, ℕ, Bool, List, [], Option, Some, None, find, is_some, position, refl, sym, inl, inr, list_any, cases_Bool, list_any_at, list_any_none, position-Some, position-None, Ring}

found_any : (p : Ring → Bool) (rs : List Ring) → is_some (find p rs) ≡ list_any p rs
found_any p [] = refl
found_any p (r ∷ rs) = elim (cases_Bool (p r)) [ inl passes ↦ rw passes refl | inr fails ↦ rw fails (found_any p rs) ]

-- where the first that passes stands is known just where one passes
pub is_found : (p : Ring → Bool) (rs : List Ring) (d : Ring) → is_some (position p rs) ≡ is_some (find p rs)
is_found p rs d = by (position p rs) refl ∙ sym (found_any p rs)
  where
    by : (o : Option ℕ) → position p rs ≡ o → is_some (position p rs) ≡ list_any p rs
    by None e = rw e (sym (list_any_none p rs (λ k x below. position-None p rs k x e below)))
    by (Some n) e = let found = position-Some p rs n d e in rw e (sym (list_any_at p rs n d found.0 found.1))
