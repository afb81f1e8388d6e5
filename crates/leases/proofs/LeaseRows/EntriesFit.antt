-- The tables that registers name fit: the entry of each slot with a device context ends within the address space, which was tested when the
-- context was taken, and ERSTBA is written behind ERSTSZ alone
use Rattle.leases.proofs.BaseWords.{arith, rules, ◌≡◌, ◌+◌, ◌^◌, ◌≤◌, ◌∙◌, ℕ, Bool, not, true, false, [], Option, None, Some, if◌then◌else◌, refl, sym, ap, subst, inl, inr, ltb-false, eqb-true, cases_Bool, false≢true, none-some, cases_option, Header, Register, Dcbaap, Erstba, Row, Sub, Write, Reg, Bell, Read, RingRow, FreeRow, IsHeader, with_register, Known, nothing, learned, entry_of, is_bad_register, lenient, DriverKeeps, area_parts, register_facts, entry_same, at_number, event_behind, registered, bell_leaves, declaration_leaves, register_leaves, status_leaves, write_leaves, rules_of, after_write, taken, written_device, written_device_none, EntriesFit, TablesFit, NopRow, forgotten, known_after, reset, resets, restored, restored_on, ring_restored, on_ring, Erstsz, RegRead, is_restored, is_value, is_unwritten, gone}
unfoldable use Rattle.leases.proofs.BaseWords.{is_written}

-- no device context more, and the same array of entries
still_fit : (k l : Known) → l.register Dcbaap ≡ k.register Dcbaap → ((s d : ℕ) → l.device s ≡ Some d → k.device s ≡ Some d) → EntriesFit k → EntriesFit l
still_fit k l same fewer fit s d at = subst (λ (x : ℕ). x + 8 ≤ 2 ^ 64) (sym (entry_same k l s same)) (fit s d (fewer s d at))

-- no device context more, and the registers that name tables stand
still_tables : (k l : Known) → l.register Erstsz ≡ k.register Erstsz → l.register Erstba ≡ k.register Erstba → l.register Dcbaap ≡ k.register Dcbaap →
    ((s d : ℕ) → l.device s ≡ Some d → k.device s ≡ Some d) → TablesFit k → TablesFit l
still_tables k l sizes tables arrays fewer fit = record {
  entries = still_fit k l arrays fewer fit.entries;
  sized = λ none. tables ∙ fit.sized (sym sizes ∙ none);
}

same_tables : (k l : Known) → l.register ≡ k.register → ((s d : ℕ) → l.device s ≡ Some d → k.device s ≡ Some d) → TablesFit k → TablesFit l
same_tables k l registers fewer fit = still_tables k l (ap (λ f. f Erstsz) registers) (ap (λ f. f Erstba) registers) (ap (λ f. f Dcbaap) registers) fewer fit

-- a value that is restored is the one that stands
value_stands : (o : Option ℕ) (x : ℕ) → is_value x o ≡ true → Some x ≡ o
value_stands o x is = grind (arith, eqb-true)

restored_stands : (k : Known) (r : Register) (x : ℕ) → not (is_restored k r x) ≡ false → Some x ≡ k.register r
restored_stands k r x good = value_stands (k.register r) x (grind (arith, false≢true))

module _ (h : Header) where
  -- after the start the array stands
  pub array_stands : (k : Known) (r : Register) (x : ℕ) → k.started ≡ true → is_bad_register h k r x ≡ false → with_register k.register r x Dcbaap ≡ k.register Dcbaap
  unfolding is_bad_register
  array_stands k Dcbaap x on good = restored_stands k Dcbaap x (grind arith)
  array_stands k r x on good = refl

  -- the table is named once
  pub table_stands : (k : Known) (x y : ℕ) → is_bad_register h k Erstba x ≡ false → k.register Erstba ≡ Some y → Some x ≡ k.register Erstba
  unfolding is_bad_register is_written
  table_stands k x y good at = elim (cases_Bool k.started) [
    | inl on ↦ restored_stands k Erstba x (grind (arith, on))
    | inr off ↦ absurd (grind (arith, off, false≢true))
  ]

  -- ERSTBA is written behind ERSTSZ
  table_sized : (k : Known) (x : ℕ) → TablesFit k → is_bad_register h k Erstba x ≡ false → k.register Erstsz ≡ None → ⊥
  unfolding is_bad_register is_written is_unwritten
  table_sized k x fit good none = elim (cases_Bool k.started) [
    | inl on ↦ none-some x (sym (fit.sized none) ∙ sym (restored_stands k Erstba x (grind (arith, on))))
    | inr off ↦ grind (arith, off, none, false≢true)
  ]

  register_sized : (k : Known) (r : Register) (x : ℕ) → TablesFit k → is_bad_register h k r x ≡ false → with_register k.register r x Erstsz ≡ None → with_register k.register r x Erstba ≡ None
  register_sized k Erstba x fit good none = absurd (table_sized k x fit good none)
  register_sized k Erstsz x fit good none = absurd (none-some x (sym none))
  register_sized k r x fit good none = fit.sized none

  register_fits : (k : Known) (r : Register) (x : ℕ) → DriverKeeps h k → is_bad_register h k r x ≡ false → EntriesFit k → EntriesFit (learned h k (Reg r x))
  register_fits k r x keeps good fit s d at =
      let same : (t e : ℕ) → (learned h k (Reg r x)).device t ≡ Some e → k.device t ≡ Some e = λ t e there. ap (λ f. f t) (sym (register_leaves h k r x).memory.device) ∙ there in
      elim (cases_Bool k.started) [
        | inl on ↦ still_fit k (learned h k (Reg r x)) (ap (λ f. f Dcbaap) (registered h k r x) ∙ array_stands k r x on good) same fit s d at
        | inr off ↦ absurd (none-some d (sym (keeps.states.no_device s ((keeps.unstarted off).slots s)) ∙ same s d at))
      ]

  register_tables : (k : Known) (r : Register) (x : ℕ) → DriverKeeps h k → is_bad_register h k r x ≡ false → TablesFit k → TablesFit (learned h k (Reg r x))
  register_tables k r x keeps good fit = record {
    entries = register_fits k r x keeps good fit.entries;
    sized = rw (registered h k r x) (register_sized k r x fit good);
  }

  reset_fits : (k : Known) → TablesFit (reset h k)
  unfolding reset
  reset_fits k = record { entries = λ s d at. absurd (none-some d at); sized = λ none. refl }

  reset_or_fits : (b : Bool) (k l : Known) → TablesFit l → TablesFit (if b then reset h k else l)
  reset_or_fits true k l fit = reset_fits k
  reset_or_fits false k l fit = fit

  module _ (is : IsHeader h) (k : Known) (keeps : DriverKeeps h k) (a w : ℕ) (clean : lenient h k (Write a w) ≡ []) where
    -- the entry of the slot that takes a device context
    taken_fits : (e : ℕ × ℕ) → taken h k a w ≡ Some e → entry_of k e.0 + 8 ≤ 2 ^ 64
    taken_fits e at = ltb-false (2 ^ 64) (entry_of k e.0 + 8) (area_parts h k (entry_of k e.0) 8 (rules_of h is k keeps a w clean e at).entry_area).ends

    fits_behind : EntriesFit k → (s d : ℕ) → (after_write h k a w).device s ≡ Some d → entry_of k s + 8 ≤ 2 ^ 64
    fits_behind fit s d at = search (rules, cases_option, taken, written_device_none, at_number, entry_of, taken_fits, written_device)

    write_fits : EntriesFit k → EntriesFit (learned h k (Write a w))
    write_fits fit s d at = search (rules, entry_same, after_write, Dcbaap, write_leaves, fits_behind)

    write_tables : TablesFit k → TablesFit (learned h k (Write a w))
    write_tables fit =
        let registers = (write_leaves h k a w).registers.register in
        record { entries = write_fits fit.entries; sized = λ none. ap (λ f. f Erstba) registers ∙ fit.sized (ap (λ f. f Erstsz) (sym registers) ∙ none) }

  learned_fit : IsHeader h → (k : Known) (row : Row) → DriverKeeps h k → lenient h k row ≡ [] → TablesFit k → TablesFit (learned h k row)
  unfolding learned
  learned_fit is k (Sub r blocks) keeps clean fit =
      let leaves = declaration_leaves h k r blocks in
      same_tables k (learned h k (Sub r blocks)) leaves.registers.register (λ s d at. ap (λ f. f s) (sym leaves.memory.device) ∙ at) fit
  learned_fit is k (Write a w) keeps clean fit = write_tables is k keeps a w clean fit
  learned_fit is k (Reg r x) keeps clean fit = register_tables k r x keeps (register_facts h k r x clean).good fit
  learned_fit is k (Bell s t) keeps clean fit =
      let leaves = bell_leaves h k s t in
      same_tables k (learned h k (Bell s t)) leaves.registers.register (λ u d at. ap (λ f. f u) (sym leaves.memory.device) ∙ at) fit
  learned_fit is k (Read b) keeps clean fit =
      let behind = event_behind h is k keeps b clean in
      same_tables k (learned h k (Read b)) behind.driver.register behind.devices fit
  learned_fit is k (RegRead r x) keeps clean fit =
      let leaves = status_leaves h k r x in
      same_tables k (learned h k (RegRead r x)) leaves.register (λ u d at. ap (λ f. f u) (sym leaves.memory.device) ∙ at) fit
  learned_fit is k row keeps clean fit = fit

  restored_fit : (k : Known) (o : Option ℕ) → TablesFit k → TablesFit (restored_on h k o)
  unfolding restored_on on_ring
  restored_fit k None fit = fit
  restored_fit k (Some r) fit = same_tables k (restored_on h k (Some r)) refl (λ s d at. at) fit

  -- behind a row that breaks no rule
  pub tables_fit : IsHeader h → (k : Known) (row : Row) → DriverKeeps h (restored h k row) → lenient h (restored h k row) row ≡ [] → TablesFit k → TablesFit (known_after h k row)
  unfolding ring_restored restored_on forgotten gone on_ring
  tables_fit is k (RingRow ring) keeps clean fit = same_tables k (known_after h k (RingRow ring)) refl (λ s d at. at) fit
  tables_fit is k (FreeRow id) keeps clean fit = still_tables k (known_after h k (FreeRow id)) refl refl refl (λ s d at. at) fit
  tables_fit is k (NopRow r p) keeps clean fit = same_tables k (known_after h k (NopRow r p)) refl (λ s d at. at) fit
  tables_fit is k (Reg r v) keeps clean fit = reset_or_fits (resets k r v) k (learned h k (Reg r v)) (learned_fit is k (Reg r v) keeps clean fit)
  tables_fit is k row keeps clean fit = learned_fit is (restored h k row) row keeps clean (restored_fit k (ring_restored h k row) fit)

  pub nothing_fits : TablesFit nothing
  unfolding nothing
  nothing_fits = record { entries = λ s d at. absurd (none-some d at); sized = λ none. refl }
