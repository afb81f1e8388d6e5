-- The steps of the notes of one row are those of the lazy schedule before it
use Rattle.replayer.proofs.MiddleLaws.{Register, RegRead, rules, arith, ne_eqb, ◌≡◌, ◌==◌, ◌&&◌, ◌||◌, ◌∷◌, ◌++◌, if◌then◌else◌, ◌∙◌, ℕ, Bool, List, [], map, Option, Some, None, refl, eq-eqb, eqb-true, append_assoc, flat_map, fun_ext, cases_Bool, false≢true, put, Block, BlockKind, CommandCompletion, kind, code, slot, is_command_completion, Spot, Command, Header, Row, Bell, Read, Step, Known, learned, RingSpot, command_at, next_command, is_placed_by, is_placed, need, taken_up_to, command_taken, report_goals, open_goals, stopped_goals, goals, post_of, looks_to, steps_before, brought, pointers_after, Note, Begun, Made, header_behind, rows_behind, any_notes, header_after, known_after, restored_on, ring_restored, steps_for, pointers_for, if_open, open_stopped, placed, floor_note, read_notes, reporting_look, transfer_notes, completing_look, event_notes, row_notes, need_before, need_in, with_need, filled, note_goals, note_steps, pointers_behind, steps_of, has, has_placed, placed_need}

put_first : (f p : ℕ → Spot) (q r : ℕ) (b : Bool) → (if b then f r else (if r == q then f q else p r)) ≡ (if (q == r) || b then f r else p r)
put_first f p q r b = grind (arith, cases_Bool, eqb-true, eq-eqb, ne_eqb, false≢true, Bool)

module _ (h : Header) (rows : List Row) where
  begun_steps : (p : ℕ → Spot) (l : List ℕ) (rest : List Note) → steps_of h rows p (filled (map Begun l ++ rest)) ≡ steps_of h rows p (filled rest)
  unfolding steps_of filled with_need note_steps note_goals pointers_behind brought header_behind rows_behind
  begun_steps p [] rest = refl
  begun_steps p (q ∷ l) rest = begun_steps p l rest

  floor_at : Known → ℕ → Spot
  floor_at k r = (k.ring r).floor

  placed_steps : (k : Known) (p : ℕ → Spot) (l : List ℕ) (rest : List Note) →
      steps_of h rows p (filled (map (floor_note k) l ++ rest)) ≡ steps_of h rows (λ r. if has r l then floor_at k r else p r) (filled rest)
  unfolding steps_of filled with_need note_steps note_goals pointers_behind floor_note floor_at header_behind rows_behind
  placed_steps k p [] rest = refl
  placed_steps k p (q ∷ l) rest = grind (arith, put_first, has, placed_steps k (put p q (floor_at k q)) l rest)

  -- a look, the post of the event and the row
  look_then : (p : ℕ → Spot) (look : Note) (post : Step) (rest : List Note) → header_behind h rows look ≡ h → rows_behind rows look ≡ rows →
      steps_of h rows p (look ∷ Made post ∷ rest) ≡ (note_steps h p look ++ post ∷ []) ++ steps_of h rows (pointers_behind h p look) rest
  unfolding steps_of note_steps pointers_behind note_goals brought header_behind rows_behind
  look_then p look post rest same to_come = grind (arith, append_assoc)

  module _ (k : Known) (later : List Row) (b : Block) (p : ℕ → Spot) (rest : List Note) (needs : (r : ℕ) → need_in rest r ≡ need h (learned h k (Read b)) r later) where
    abbrev m : ℕ → ℕ
    m r = need h (learned h k (Read b)) r later

    -- the steps for these goals and a post, and what follows
    abbrev after_goals : List RingSpot → Step → List Step
    after_goals l post = (flat_map (looks_to h p) l ++ post ∷ []) ++ steps_of h rows (brought h p l) (filled rest)

    transfer_steps : (o : Option RingSpot) (post : Step) →
        steps_of h rows p (filled ((transfer_notes h k b o ++ Made post ∷ []) ++ rest)) ≡ after_goals (report_goals h k later b o) post
    unfolding transfer_notes report_goals reporting_look steps_of filled with_need note_steps note_goals pointers_behind brought header_behind rows_behind need_in need_before command_taken
    transfer_steps o post = search (rules, look_then)

    -- the goal for an open ring that is stopped
    abbrev stopped_needed : Option ℕ → List RingSpot
    stopped_needed None = []
    stopped_needed (Some r) = taken_up_to h r (m r) ∷ []

    stopped_are : (o : Option Command) → stopped_goals h k later b o ≡ stopped_needed (open_stopped k (code b) o)
    unfolding stopped_goals open_stopped open_goals if_open
    stopped_are o = grind arith

    -- the tail of a completion: the rings that it binds or moves stand at their floors
    abbrev tail : List Note
    tail = map (floor_note (learned h k (Read b))) (placed h k b)

    tail_needs : (r : ℕ) → need_in (tail ++ rest) r ≡ m r
    tail_needs r = placed_need (learned h k (Read b)) (placed h k b) rest r ∙ needs r

    abbrev EventSteps : BlockKind → Type 0
    EventSteps κ =
        steps_of h rows p (filled (event_notes h k κ b ++ rest))
        ≡ (flat_map (looks_to h p) (goals h k later κ b) ++ post_of h κ b ∷ [])
        ++ steps_of h rows (λ r. if is_command_completion κ && code b == 1 && is_placed_by h k r (slot b) (command_at h k (next_command h k))
        then floor_at (learned h k (Read b)) r else brought h p (goals h k later κ b) r) (filled rest)

    completion_steps : EventSteps CommandCompletion
    unfolding event_notes goals completing_look filled with_need need_in need_before note_steps note_goals pointers_behind command_taken header_behind rows_behind
    completion_steps =
        let l : List ℕ = placed h k b in
        let c : Option Command = command_at h k (next_command h k) in
        grind (arith, open_stopped, code, post_of, steps_of, filled, append_assoc, completing_look, begun_steps, look_then, tail_needs, flat_map, looks_to, command_taken, brought, stopped_are, stopped_goals, placed_steps, fun_ext, has_placed)

    event_steps : (κ : BlockKind) → EventSteps κ
    unfolding event_notes goals steps_of filled with_need note_steps note_goals pointers_behind brought header_behind rows_behind
    event_steps κ = search (rules, transfer_steps, completion_steps)

  pub event_row_steps : (k : Known) (p : ℕ → Spot) (b : Block) (later : List Row) (rest : List Note) → ((r : ℕ) → need_in rest r ≡ need h (learned h k (Read b)) r later) →
      steps_of h rows p (filled (row_notes h k (Read b) ++ rest)) ≡ steps_before h k p (Read b) later ++ steps_of h rows (pointers_after h k p (Read b) later) (filled rest)
  unfolding row_notes steps_before pointers_after is_placed floor_at
  event_row_steps k p b later rest needs = event_steps k later b p rest needs (kind b)

  read_steps : (k : Known) (r : Register) (v : ℕ) (p : ℕ → Spot) (later : List Row) (rest : List Note) →
      steps_of h rows p (filled (read_notes h k r v ++ rest)) ≡ steps_before h k p (RegRead r v) later ++ steps_of h rows p (filled rest)
  unfolding read_notes steps_before steps_of filled with_need note_steps note_goals pointers_behind header_behind rows_behind brought
  read_steps k r v p later rest = grind arith

  -- ---- the row of any kind

  pub any_steps : (k : Known) (p : ℕ → Spot) (row : Row) (later : List Row) (rest : List Note) → ((r : ℕ) → need_in rest r ≡ need (header_after h row) (known_after h k row) r later) →
      steps_of h rows p (filled (any_notes h k row ++ rest)) ≡ steps_for h k p row later ++ steps_of h rows (pointers_for h k p row later) (filled rest)
  unfolding any_notes row_notes steps_for pointers_for steps_before pointers_after ring_restored restored_on steps_of filled with_need note_steps note_goals pointers_behind header_behind rows_behind brought
  any_steps k p (Read b) later rest needs = event_row_steps k p b later rest needs
  any_steps k p (Bell s t) later rest needs = (grind (arith, begun_steps))
  any_steps k p (RegRead r v) later rest needs = read_steps k r v p later rest
  any_steps k p _ later rest needs = refl
