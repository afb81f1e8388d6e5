-- The notes of rows need of each ring what the rows need
use Rattle.replayer.proofs.LowerLaws.{Register, code_told, rules, ◌≡◌, ◌==◌, ◌&&◌, ◌∷◌, ◌++◌, if◌then◌else◌, ◌∙◌, ℕ, Bool, max, List, [], map, Option, refl, ap, arith, append_assoc, Block, BlockKind, CommandCompletion, code, slot, is_command_completion, is_transfer_event, is_success, Header, Row, Known, RingSpot, event_at, command_at, next_command, number_behind, is_placed_by, is_placed, begins_anew, number_reported, ends_need, need, header_after, known_after, any_notes, post_of, Note, Begun, Made, open_stopped, placed, floor_note, read_notes, reporting_look, transfer_notes, completing_look, event_notes, row_notes, notes, need_before, need_in, NeedsLaw, has, has_listed, has_placed}

zero_most : (n : ℕ) → max 0 n ≡ n
zero_most n = omega arith

-- a look changes no need
abbrev pub IsLook : Note → Type 0
IsLook note = (r n : ℕ) → need_before note r n ≡ n

pub begun_need : (l : List ℕ) (rest : List Note) (r : ℕ) → need_in (map Begun l ++ rest) r ≡ (if has r l then 0 else need_in rest r)
unfolding need_in need_before
begun_need [] rest r = refl
begun_need (q ∷ l) rest r = ap (λ n. if q == r then 0 else n) (begun_need l rest r) ∙ (grind arith)

one_or_none : (q r m n : ℕ) (b : Bool) → (if b then max m n else n) ≡ max (if b then m else 0) n
one_or_none q r m n b = grind (arith, zero_most)

pub placed_need : (k : Known) (l : List ℕ) (rest : List Note) (r : ℕ) → need_in (map (floor_note k) l ++ rest) r ≡ need_in rest r
unfolding need_in need_before floor_note
placed_need k [] rest r = refl
placed_need k (q ∷ l) rest r = placed_need k l rest r

module _ (h : Header) where
  transfer_need : (k : Known) (b : Block) (o : Option RingSpot) (post : Note) (rest : List Note) (r : ℕ) → IsLook post →
      need_in ((transfer_notes h k b o ++ post ∷ []) ++ rest) r ≡ max (if is_success (code_told h k b) then number_behind r o else 0) (need_in rest r)
  unfolding transfer_notes need_in number_behind need_before reporting_look
  transfer_need k b o post rest r is_post = search (rules, one_or_none, zero_most)

  made_is_look : (k : BlockKind) (b : Block) → IsLook (Made (post_of h k b))
  unfolding need_before
  made_is_look k b r n = refl

  abbrev EventNeed : Known → BlockKind → Block → List Note → ℕ → Type 0
  EventNeed k κ b rest r =
      need_in (event_notes h k κ b ++ rest) r
      ≡ (if is_command_completion κ && code b == 1 && is_placed_by h k r (slot b) (command_at h k (next_command h k)) then 0
      else max (if is_transfer_event κ && is_success (code_told h k b) then number_behind r (event_at h k b) else 0) (need_in rest r))

  completion_need : (k : Known) (b : Block) (rest : List Note) (r : ℕ) → EventNeed k CommandCompletion b rest r
  unfolding event_notes need_in completing_look need_before
  completion_need k b rest r = grind (arith, placed, completing_look, open_stopped, code, command_at, next_command, floor_note, post_of, need_in, max, made_is_look, placed_need, zero_most, append_assoc, begun_need, has_placed, is_placed_by, slot)

  event_need : (k : Known) (κ : BlockKind) (b : Block) (rest : List Note) (r : ℕ) → EventNeed k κ b rest r
  unfolding event_notes need_in need_before
  event_need k κ b rest r = grind (arith, transfer_need, made_is_look, completion_need, zero_most)

  read_need : (k : Known) (r : Register) (v : ℕ) (rest : List Note) (q : ℕ) → need_in (read_notes h k r v ++ rest) q ≡ need_in rest q
  unfolding read_notes need_in need_before
  read_need k r v rest q = grind arith

  any_need : (k : Known) (row : Row) (rest : List Note) (r : ℕ) →
      need_in (any_notes h k row ++ rest) r ≡ (if ends_need h k r row then 0 else max (number_reported h k r row) (need_in rest r))
  unfolding any_notes ends_need number_reported need_in need_before row_notes begins_anew is_placed
  any_need k row rest r = grind (arith, zero_most, begun_need, has_listed, event_need, read_need)

needs_of : (rows : List Row) (h : Header) (k : Known) (r : ℕ) → need_in (notes h k rows) r ≡ need h k r rows
unfolding notes need need_in need_before
needs_of [] h k r = refl
needs_of (row ∷ rows) h k r = grind (arith, any_need, needs_of rows (header_after h row) (known_after h k row) r)

pub needs_law : (h : Header) → NeedsLaw h
needs_law h k rows r = needs_of rows h k r
