-- The first line of a text of which a part stands ahead
use Rattle.trace_reader.proofs.Words.{rules, common_steps, ◌≡◌, ◌⊎◌, inl, inr, ◌<◌, ◌≤◌, ◌==◌, ◌∷◌, ◌++◌, ◌∙◌, ℕ, List, [], true, false, All, refl, ap, sym, append_assoc, length, length-append, arith, eqb-true, cases_Bool, All-append, All-cons, All-head, All-nil, All-tail, slice_split_none, drop_through, lines_of-ended, TextLine, behind_content, is_line_feed, lines_between, lines_of, behind_line}

-- no byte is a line feed
abbrev pub NoFeed : List ℕ → Type 0
NoFeed bytes = All (λ byte. is_line_feed byte ≡ false) bytes

-- a text's first line, and what stands behind it
pub record IsCut (text : List ℕ) (line : TextLine) (rest : List ℕ) : Type 0 where
  pub whole : text ≡ line.content ++ behind_content line.is_ended rest
  pub one : NoFeed line.content

pub dropped : (content more : List ℕ) → NoFeed content → drop_through 10 (content ++ 10 ∷ more) ≡ more
dropped [] more none = refl
dropped (x ∷ xs) more none = rw (All-head (λ byte. is_line_feed byte ≡ false) x xs none) (dropped xs more (All-tail (λ byte. is_line_feed byte ≡ false) x xs none))

cut_at_feed : (text rest : List ℕ) (line : TextLine) → IsCut text line rest → line.is_ended ≡ true → text ≡ line.content ++ 10 ∷ rest
cut_at_feed text rest line cut ended = cut.whole ∙ ap (λ b. line.content ++ behind_content b rest) ended

with_later : (text rest later : List ℕ) (line : TextLine) → IsCut text line rest → line.is_ended ≡ true → text ++ later ≡ line.content ++ 10 ∷ (rest ++ later)
with_later text rest later line cut ended = grind (arith, common_steps, cut_at_feed)

-- a line that is ended stays the first, whatever comes later
pub ended_lines : (text rest later : List ℕ) (line : TextLine) → IsCut text line rest → line.is_ended ≡ true → lines_of (text ++ later) ≡ line ∷ lines_of (rest ++ later)
ended_lines text rest later line cut ended = grind (arith, common_steps, with_later, lines_of-ended)

pub ended_behind : (text rest later : List ℕ) (line : TextLine) → IsCut text line rest → line.is_ended ≡ true → behind_line (text ++ later) ≡ rest ++ later
ended_behind text rest later line cut ended = ap behind_line (with_later text rest later line cut ended) ∙ dropped line.content (rest ++ later) cut.one

-- what is left of it
pub ended_left : (text rest : List ℕ) (line : TextLine) → IsCut text line rest → line.is_ended ≡ true → text ≡ line.content ++ 10 ∷ [] ++ rest
ended_left text rest line cut ended = cut_at_feed text rest line cut ended ∙ sym (append_assoc line.content (10 ∷ []) rest)

-- a line that isn't ended has no line feed, and is the whole text
pub unended_whole : (text rest : List ℕ) (line : TextLine) → IsCut text line rest → line.is_ended ≡ false → text ≡ line.content ++ []
unended_whole text rest line cut unended = cut.whole ∙ ap (λ b. line.content ++ behind_content b rest) unended

pub no_feed_in : (xs ys : List ℕ) → NoFeed (xs ++ 10 ∷ ys) → ⊥
no_feed_in [] ys none = let here : true ≡ false = All-head (λ byte. is_line_feed byte ≡ false) 10 ys none in cc here
no_feed_in (x ∷ xs) ys none = no_feed_in xs ys (All-tail (λ byte. is_line_feed byte ≡ false) x (xs ++ 10 ∷ ys) none)

-- ---- the first line of a text that begins with many bytes

pub cut : (text : List ℕ) → ((content : List ℕ) × (rest : List ℕ) × (text ≡ content ++ 10 ∷ rest) × NoFeed content) ⊎ NoFeed text
cut [] = inr (All-nil (λ byte. is_line_feed byte ≡ false))
cut (x ∷ xs) =
    let later = cut xs in
    elim (cases_Bool (x == 10)) [
      | inl feed ↦ inl ([], xs, ap (λ b. b ∷ xs) (eqb-true x 10 feed), All-nil (λ byte. is_line_feed byte ≡ false))
      | inr other ↦
          elim later [
            | inl p ↦ inl (x ∷ p.0, p.1, ap (λ l. x ∷ l) p.2, All-cons (λ byte. is_line_feed byte ≡ false) x p.0 other p.3)
            | inr none ↦ inr (All-cons (λ byte. is_line_feed byte ≡ false) x xs other none)
          ]
    ]

pub alone : (text : List ℕ) → 0 < length text → NoFeed text → lines_of text ≡ record { content = text; is_ended = false } ∷ []
unfolding lines_of
alone text some none = ap lines_between (slice_split_none is_line_feed text none) ∙ (search rules)

-- it is at least as long
pub record HasLongLine (text : List ℕ) (least : ℕ) : Type 0 where
  pub line : TextLine
  pub lines : List TextLine
  pub are : lines_of text ≡ line ∷ lines
  pub long : least ≤ length line.content

pub long_line : (front later : List ℕ) → 0 < length front → NoFeed front → HasLongLine (front ++ later) (length front)
long_line front later some none =
    elim (cut later) [
      | inl p ↦ record {
        line = record { content = front ++ p.0; is_ended = true };
        lines = lines_of p.1;
        are = ap (λ l. lines_of (front ++ l)) p.2 ∙ ap lines_of (sym (append_assoc front p.0 (10 ∷ p.1)))
            ∙ lines_of-ended (front ++ p.0) p.1 (All-append (λ byte. is_line_feed byte ≡ false) front p.0 none p.3);
        long = omega (arith, length-append front p.0);
      }
      | inr clear ↦ record {
        line = record { content = front ++ later; is_ended = false };
        lines = [];
        are = alone (front ++ later) (omega (arith, length-append front later, some)) (All-append (λ byte. is_line_feed byte ≡ false) front later none clear);
        long = omega (arith, length-append front later);
      }
    ]
