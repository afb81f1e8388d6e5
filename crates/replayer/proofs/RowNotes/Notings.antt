-- The notes of events, of doorbells and of registers that are read
use Rattle.replayer.proofs.LowerLaws.{Register, RegRead, true, learned, Usbsts, Asked, halted_bit, is_asked, is_done, ◌&&◌, not, Bool, ceiling, lt-ltb, shape_of, command_id, arith, append-nil, ◌≡◌, ℕ, ◌∙◌, List, [], ◌∷◌, ◌++◌, false, Option, Some, None, map, refl, ap, sym, append_assoc, ◌==◌, if◌then◌else◌, All-nil, All-same, Block, BlockKind, TransferEvent, CommandCompletion, code, kind, slot, Command, Header, Row, Bell, Read, Report, Finish, Other, IsHeader, Known, command_at, event_at, next_command, DriverKeeps, post_of, Note, Begun, Made, completing_look, event_notes, open_stopped, placed, placed_by, floor_note, row_notes, transfer_notes, is_impossible_by_kind, is_impossible_completion, lenient, event_facts, CompletionFacts, by_completion, command_holds, next_unfinished, has_room, rings_of, MayPlace, AreNoted, nothing_more, placed_transfer}
use Rattle.traces.specs.declared.halt.Halt.{Halt}
unfoldable use Rattle.ownership_rules.specs.Events.{may_be_taken}
unfoldable use Rattle.ring_knowledge.specs.Histories.{restored_on, ring_restored}
unfoldable use Rattle.safety.specs.LazyRuns.Lazy.{is_first_halt}

module _ (h : Header) (k : Known) where
  -- ---- rows that place nothing

  pub alone : (row : Row) (old new : List Note) (rings : List ℕ) → rings ≡ [] → new ≡ old ++ row_notes h k row → AreNoted h k row old new rings
  alone row old new rings none e = grind (arith, append-nil, All-nil)

  pub none_said : (row : Row) (old : List Note) (rings : List ℕ) → rings ≡ [] → row_notes h k row ≡ [] → AreNoted h k row old old rings
  none_said row old rings none e = alone row old old rings none (nothing_more old (row_notes h k row) e)

  pub quiet : (row : Row) → ((s t : ℕ) → row ≡ Bell s t → ⊥) → ((b : Block) → row ≡ Read b → ⊥) → ((r : Register) (v : ℕ) → row ≡ RegRead r v → ⊥) → row_notes h k row ≡ []
  unfolding row_notes
  quiet row bell read status = grind arith

  -- ---- events

  module _ (b : Block) where
    pub report_notes : transfer_notes h k b (event_at h k b) ++ Made (Report b) ∷ [] ≡ event_notes h k TransferEvent b
    unfolding event_notes post_of
    report_notes = refl

    pub notes_read : (n : BlockKind) → kind b ≡ n → event_notes h k n b ≡ row_notes h k (Read b)
    unfolding row_notes
    notes_read n e = ap (λ m. event_notes h k m b) (sym e)

    pub other_notes : (n : BlockKind) → (n ≡ TransferEvent → ⊥) → (n ≡ CommandCompletion → ⊥) → Made (Other b) ∷ [] ≡ event_notes h k n b
    unfolding event_notes post_of
    other_notes n transfer completion = grind arith

    pub placed_is : (o : Option Command) → o ≡ command_at h k (next_command h k) → (if code b == 1 then placed_by h k (slot b) o else []) ≡ placed h k b
    unfolding placed
    placed_is o e = ap (λ p. if code b == 1 then placed_by h k (slot b) p else []) e

    completion_notes : map Begun (placed h k b)
        ++ (completing_look h k (open_stopped k (code b) (command_at h k (next_command h k))) ∷ Made (Finish b) ∷ map (floor_note (learned h k (Read b))) (placed h k b)) ≡
        event_notes h k CommandCompletion b
    unfolding event_notes post_of
    completion_notes = refl

    pub completed : IsHeader h → DriverKeeps h k → kind b ≡ CommandCompletion → (old new : List Note) (rings : List ℕ) → rings ≡ placed h k b →
        new ≡ old ++ map Begun rings ++ completing_look h k (open_stopped k (code b) (command_at h k (next_command h k))) ∷ Made (Finish b) ∷ [] → AreNoted h k (Read b) old new rings
    unfolding ring_restored restored_on
    completed headed d is old new rings places e = grind (arith, append_assoc, completion_notes, notes_read, All-same, placed_transfer)

-- ---- registers that are read

module _ (h : Header) (k : Known) (r : Register) (v : ℕ) (is : r ≡ Usbsts) where
  pub first_halt : k.halt ≡ Asked → halted_bit v ≡ is_first_halt h k r v
  unfolding is_first_halt
  first_halt asked = rw (is, asked) (grind arith)

  none_first : (b : Bool) (halt : Halt) → (halt ≡ Asked → ⊥) → false ≡ (b && is_asked halt && not (is_done halt))
  none_first b halt other = grind arith

  pub no_first_halt : (k.halt ≡ Asked → ⊥) → false ≡ is_first_halt h k r v
  unfolding is_first_halt
  no_first_halt other = rw is (none_first (halted_bit v) k.halt other)

-- ---- the rings of a completion

module _ (h : Header) (k : Known) (b : Block) where
  pub completion_possible : lenient h k (Read b) ≡ [] → kind b ≡ CommandCompletion → is_impossible_completion h k b ≡ false
  unfolding is_impossible_by_kind
  completion_possible clean is = ap (λ n. is_impossible_by_kind h k n b) (sym is) ∙ (event_facts h k b clean).possible

  pub completion_taken : is_impossible_completion h k b ≡ false → may_be_taken h k ≡ true
  unfolding may_be_taken
  completion_taken possible = lt-ltb (next_command h k) (ceiling (shape_of h (command_id h)) (k.ring (command_id h))) (by_completion h k b possible).below

  -- what was tested of the next command still holds
  pub may_place : IsHeader h → DriverKeeps h k → k.started ≡ true → is_impossible_completion h k b ≡ false → (o : Option Command) → o ≡ command_at h k (next_command h k) → MayPlace h k o
  may_place headed d on possible None here = tt
  may_place headed d on possible (Some c) here =
      let facts : CompletionFacts h k b = by_completion h k b possible in
      let unfinished = next_unfinished h headed k d on facts.below c (sym here) in
      (command_holds h k (next_command h k) c (d.unfinished (next_command h k) c unfinished), has_room h headed k d on b possible c (sym here), rings_of h k d)
