-- The steps of a trace's notes are its lazy schedule
use Rattle.replayer.proofs.MiddleLaws.{◌≡◌, ◌∷◌, ◌++◌, ◌∙◌, ℕ, List, [], reverse, sym, ap, append-nil, append_assoc, reverse-append, reverse-reverse, Spot, Header, Row, Step, NextRow, Known, header_after, header_now, known_after, known_now, steps_for, brought, pointers_for, pointers_at, lazy_run, lazy_steps, Note, Next, notes, need_before, need_in, with_need, filled, note_goals, note_steps, pointers_behind, header_behind, rows_behind, steps_of, StepsLaw, one_more, needs_law}
use Rattle.replayer.proofs.LazySteps.NoteSteps.{any_steps}

module _ (h : Header) where
  -- one more row of the run
  one_row : (past later : List Row) (row : Row) →
      reverse (lazy_run h (row ∷ past) later)
      ≡ reverse (lazy_run h past (row ∷ later)) ++ (steps_for (header_now h past) (known_now h past) (pointers_at h past (row ∷ later)) row later ++ NextRow ∷ [])
  unfolding lazy_run
  one_row past later row =
      let before : List Step = steps_for (header_now h past) (known_now h past) (pointers_at h past (row ∷ later)) row later in
      let run : List Step = lazy_run h past (row ∷ later) in
      reverse-append (NextRow ∷ reverse before) run
      ∙ ap (λ (s : List Step). reverse run ++ s) (reverse-append (NextRow ∷ []) (reverse before) ∙ ap (λ (s : List Step). s ++ NextRow ∷ []) (reverse-reverse before))

  so_far : (past later : List Row) →
      reverse (lazy_run h past later) ++ steps_of (header_now h past) later (pointers_at h past later) (filled (notes (header_now h past) (known_now h past) later))
      ≡ reverse (lazy_run h (reverse later ++ past) [])
  unfolding notes steps_of filled pointers_at with_need note_steps note_goals pointers_behind header_behind rows_behind brought need_in need_before
  so_far past [] = append-nil (reverse (lazy_run h past []))
  so_far past (row ∷ later) =
      let g : Header = header_now h past in
      let k : Known = known_now h past in
      let p : ℕ → Spot = pointers_at h past (row ∷ later) in
      let rest : List Note = notes (header_after g row) (known_after g k row) later in
      let run : List Step = reverse (lazy_run h past (row ∷ later)) in
      let before : List Step = steps_for g k p row later in
      let left : List Step = steps_of (header_after g row) later (pointers_for g k p row later) (filled rest) in
      ap (λ (s : List Step). run ++ s)
      (any_steps g (row ∷ later) k p row later (Next ∷ rest) (λ r. needs_law (header_after g row) (known_after g k row) later r)
      ∙ sym (append_assoc before (NextRow ∷ []) left))
      ∙ sym (append_assoc run (before ++ NextRow ∷ []) left)
      ∙ ap (λ (s : List Step). s ++ left) (sym (one_row past later row))
      ∙ so_far (row ∷ past) later
      ∙ ap (λ l. reverse (lazy_run h l [])) (sym (one_more row later past))

  pub steps_law : StepsLaw h
  unfolding lazy_steps pointers_at lazy_run
  steps_law rows = ap (λ l. reverse (lazy_run h l [])) (sym (append-nil (reverse rows))) ∙ sym (so_far [] rows)
