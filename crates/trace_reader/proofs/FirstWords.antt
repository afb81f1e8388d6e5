-- The form of a line by its first word
use Rattle.trace_reader.proofs.Words.{arith, rules, ◌≡◌, ◌∷◌, ℕ, List, [], Bool, Option, Some, ap, cond, Err, option_and_then, BadRow, FirstWord, SubWord, W, RegWord, Db, Ev, form_behind, said_by, said_by_fields, word_named, form_as, form_of, sub_line, write_line, reg_line, bell_line, event_line, Said, Version}
use Rattle.trace_reader.specs.Grammar.{Line}

abbrev Named : Version → Bool → List (List ℕ) → Option (Line Said) → Option FirstWord → Type 0
Named version begun fields line word = option_and_then (λ l. form_as l fields) line ≡ form_behind version begun word fields

by_tests : (version : Version) (begun : Bool) (fields : List (List ℕ)) (line : Option (Line Said)) (word : Option FirstWord) → Named version begun fields line word → (sub w reg db ev : Bool) →
    Named version begun fields (cond sub (Some sub_line) (cond w (Some write_line) (cond reg (Some reg_line) (cond db (Some bell_line) (cond ev (Some event_line) line)))))
    (cond sub (Some SubWord) (cond w (Some W) (cond reg (Some RegWord) (cond db (Some Db) (cond ev (Some Ev) word)))))
by_tests version begun fields line word is sub w reg db ev = search rules

module _ (version : Version) (begun : Bool) where
  by_word : (word : List ℕ) (fields : List (List ℕ)) → form_of version begun (word ∷ fields) ≡ form_behind version begun (word_named word) fields
  unfolding form_of word_named
  by_word word fields = grind (arith, by_tests)

  -- a line that begins with this word
  pub said_behind : (all fields : List (List ℕ)) (word : List ℕ) (kind : Option FirstWord) → all ≡ word ∷ fields → kind ≡ word_named word →
      said_by_fields version begun all ≡ said_by (form_behind version begun kind fields)
  unfolding said_by_fields
  said_behind all fields word kind is named = search (rules, by_word)

  -- no field at all
  pub no_word : (all : List (List ℕ)) → all ≡ [] → said_by_fields version begun all ≡ Err BadRow
  unfolding said_by_fields form_of
  no_word all is = ap (λ xs. said_by (form_of version begun xs)) is
