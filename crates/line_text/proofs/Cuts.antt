-- A list that is cut at each element that passes a test, by its first such element
use Rattle.line_text.proofs.Words.{◌≡◌, ◌+◌, ◌-◌, ◌<◌, ◌≤◌, ◌∷◌, ◌++◌, ◌∙◌, ℕ, suc, List, [], Bool, true, false, ap, sym, arith, length, slice_index, take, drop, All, eqb-true, slice_split, fields_of, is_space, common_steps, length-slice_split, is_line_feed, last_line, lines_between, lines_of, rules, add-one, drop-cons, false_from_ne_true, get_or-take, length-take, take-append-drop, All-from_get_or, count_by-le-length, slice_split_at, slice_split_none}
use Rattle.line_text.proofs.Joins.{ended_first}

-- what is left of a text, as a slice gives it
pub rest_of : (text : List ℕ) (n : ℕ) → take (length text - n) (drop n text) ≡ drop n text
rest_of text n = grind (arith, common_steps)

pub nothing_left : (text : List ℕ) → take (length text - length text) (drop (length text) text) ≡ []
nothing_left text = grind (arith, common_steps)

module _ (p : ℕ → Bool) (text : List ℕ) where
  fails_all : ((k : ℕ) → 0 ≤ k → k < length text → p (slice_index text k) ≡ true → ⊥) → All (λ x. p x ≡ false) text
  fails_all none = All-from_get_or (λ x. p x ≡ false) text 0 (λ k below. false_from_ne_true (p (slice_index text k)) (none k (omega arith) below))

  fails_before : (end : ℕ) → ((k : ℕ) → 0 ≤ k → k < end → p (slice_index text k) ≡ true → ⊥) → All (λ x. p x ≡ false) (take end text)
  fails_before end none = All-from_get_or (λ x. p x ≡ false) (take end text) 0 (λ k below.
      let inside : k < end = omega (arith, length-take end text) in
      rw (get_or-take end text k 0 inside) (false_from_ne_true (p (slice_index text k)) (none k (omega arith) inside)))

  parts : (end : ℕ) → end < length text → text ≡ take end text ++ slice_index text end ∷ drop (suc end) text
  parts end inside = sym (take-append-drop end text) ∙ ap (λ l. take end text ++ l) (drop-cons text end 0 inside)

  pub cut_at : (end : ℕ) → end < length text → p (slice_index text end) ≡ true → ((k : ℕ) → 0 ≤ k → k < end → p (slice_index text k) ≡ true → ⊥) →
      slice_split p text ≡ take end text ∷ slice_split p (drop (suc end) text)
  cut_at end inside passes none =
      ap (slice_split p) (parts end inside) ∙ slice_split_at p (take end text) (slice_index text end) (drop (suc end) text) (fails_before end none) passes

  pub cut_behind : (end : ℕ) → end < length text → p (slice_index text end) ≡ true → ((k : ℕ) → 0 ≤ k → k < end → p (slice_index text k) ≡ true → ⊥) →
      slice_split p text ≡ take end text ∷ slice_split p (take (length text - (end + 1)) (drop (end + 1) text))
  cut_behind end inside passes none = rw (rest_of text (end + 1), add-one) (cut_at end inside passes none)

  pub uncut : ((k : ℕ) → 0 ≤ k → k < length text → p (slice_index text k) ≡ true → ⊥) → slice_split p text ≡ text ∷ []
  uncut none = slice_split_none p text (fails_all none)

-- ---- the first line's bytes, and what stands behind them

pub whole_at : (text : List ℕ) (end : ℕ) → end < length text → is_line_feed (slice_index text end) ≡ true → text ≡ take end text ++ 10 ∷ take (length text - (end + 1)) (drop (end + 1) text)
whole_at text end inside feed = rw (rest_of text (end + 1), add-one) (parts is_line_feed text end inside ∙ ap (λ b. take end text ++ b ∷ drop (suc end) text) (eqb-true (slice_index text end) 10 feed))

pub none_before : (text : List ℕ) (end : ℕ) → end ≤ length text → ((k : ℕ) → 0 ≤ k → k < end → is_line_feed (slice_index text k) ≡ true → ⊥) →
    All (λ byte. is_line_feed byte ≡ false) (take end text)
none_before text end within none = fails_before is_line_feed text end none

pub none_at_all : (text : List ℕ) → ((k : ℕ) → 0 ≤ k → k < length text → is_line_feed (slice_index text k) ≡ true → ⊥) → All (λ byte. is_line_feed byte ≡ false) text
none_at_all text none = fails_all is_line_feed text none

pub line_at : (text : List ℕ) (end : ℕ) → end < length text → is_line_feed (slice_index text end) ≡ true → ((k : ℕ) → 0 ≤ k → k < end → is_line_feed (slice_index text k) ≡ true → ⊥) →
    lines_of text ≡ record { content = take end text; is_ended = true } ∷ lines_of (take (length text - (end + 1)) (drop (end + 1) text))
unfolding lines_of
line_at text end inside passes none = grind (arith, cut_behind, ended_first, length-slice_split)

last_is : (text : List ℕ) → 0 < length text → last_line text ≡ record { content = text; is_ended = false } ∷ []
last_is text some = grind arith

pub line_alone : (text : List ℕ) → 0 < length text → ((k : ℕ) → 0 ≤ k → k < length text → is_line_feed (slice_index text k) ≡ true → ⊥) →
    lines_of text ≡ record { content = text; is_ended = false } ∷ lines_of (take (length text - length text) (drop (length text) text))
unfolding lines_of
line_alone text some none = search (rules, lines_between, uncut, is_line_feed, last_is, slice_split, nothing_left)

-- a line has at most one field more than bytes
pub few_fields : (content : List ℕ) → length (fields_of content) ≤ length content + 1
unfolding fields_of
few_fields content = omega (arith, length-slice_split is_space content, count_by-le-length is_space content)
