-- The need of a ring that is held is 0, where no event is late: until its doorbell no success of its blocks is read
use Rattle.safety.proofs.MiddleLaws.{spot_named, known_typed, rules, [], ◌≡◌, ◌≢◌, ◌∷◌, ◌∙◌, ℕ, max, false, List, refl, ap, subst, ne_eqb, eq-eqb, cond_both, cond-false, false≢true, not_from_false, Block, BlockKind, TransferEvent, CommandCompletion, kind, code, pointer, slot, endpoint, is_success, is_halting, is_trb_error, is_stopping, Spot, number, after, RingView, RingChange, changed, new_ring, Shape, put, put_at, put_off, cases_eq, Opens, Holds, Reaches, is_open, ceiling, stopped_number, target, Command, is_off, Change, changes, Header, Row, Read, shape_of, command_id, is_ring, ring_having, Known, on_ring, spot_on, command_at, next_command, endpoint_rung, rung, event_read, learned, declaration_leaves, write_leaves, register_leaves, view_after, status_leaves, is_report_of_success, is_held_ring, is_late, number_behind, begins_anew, number_reported, ends_need, need, header_after, known_after, forgotten, restored_on, ring_restored, broken_off, transfers_passed, stopped_at, transfer_read, transferred, transferred_at, bound_to, known_changed_by, known_changed_by_all, completed, known_disabled, known_finished, held_at_ceiling, known_in_state, moved, moved_to, pointed, set_to, stop_ended, known_succeeded, arith, event_at, IsHeader, IsTransferRing, RingRow, FreeRow, Reg, with_ring, without_ring, found_in, eqb-true, not, sym, Option, Some, None, Ring, id_or_none, id_of, command_ring, resets, reset, held_at_given, transfer_not_command, ◌==◌, gone, true, RegRead, found_kept, found_still}

abbrev pub IsHeld : Known → ℕ → Type 0
IsHeld k r = is_open (k.ring r) ≡ false

-- ring r is held in l, if it was in k
abbrev StaysHeld : Known → Known → ℕ → Type 0
StaysHeld k l r = IsHeld k r → IsHeld l r

held_as_before : (v w : RingView) → w.held ≡ v.held → is_open v ≡ false → is_open w ≡ false
unfolding is_open
held_as_before v w same held = rw same held

module _ (h : Header) where
  reaches_held : (k : Known) (q : ℕ) (t : Spot) (r : ℕ) → StaysHeld k (on_ring h k q (Reaches t)) r
  reaches_held k q t r held =
      view_after h (λ v. is_open v ≡ false) k q (Reaches t) r
      (λ same. held_as_before (k.ring q) (record (k.ring q) { floor = t }) refl (subst (λ n. is_open (k.ring n) ≡ false) same held)) (λ other. held)

  holds_held : (k : Known) (q n r : ℕ) → StaysHeld k (on_ring h k q (Holds n)) r
  unfolding is_open
  holds_held k q n r held = view_after h (λ v. is_open v ≡ false) k q (Holds n) r (λ same. refl) (λ other. held)

  -- ---- an event holds rings, and opens none

  change_held : (c : Command) (k : Known) (change : Change) (r : ℕ) → StaysHeld k (known_changed_by h c k change) r
  unfolding known_changed_by known_disabled known_typed known_in_state held_at_ceiling pointed bound_to moved moved_to set_to
  change_held c k o r held = grind (arith, cond_both, is_off, ring_having, holds_held, on_ring, number, reaches_held, target, shape_of, ceiling, known_in_state, k.ring_of)

  changes_held : (c : Command) (k : Known) (all : List Change) (r : ℕ) → StaysHeld k (known_changed_by_all h c k all) r
  unfolding known_changed_by_all
  changes_held c k [] r held = held
  changes_held c k (change ∷ rest) r held = changes_held c (known_changed_by h c k change) rest r (change_held c k change r held)

  event_held : (k : Known) (t : BlockKind) (b : Block) (r : ℕ) → StaysHeld k (event_read h k t b) r
  unfolding event_read transfer_read completed transferred_at transferred broken_off transfers_passed stopped_at known_finished known_succeeded stop_ended
  event_held k TransferEvent b r held = grind (arith, on_ring, after, shape_of, number, reaches_held, stopped_number, cond_both, is_success, is_halting, holds_held, is_trb_error, is_stopping, code, slot, endpoint)
  event_held k CommandCompletion b r held =
      reaches_held (known_finished h k b (command_at h k (next_command h k))) (command_id h) (after (shape_of h (command_id h)) (next_command h k)) r
      (grind (arith, code, known_succeeded, slot, changes_held, changes, h.context_size, k.memory))
  event_held k _ b r held = held

  -- ---- a doorbell opens its own ring

  opens_other : (k : Known) (q r : ℕ) → r ≢ q → StaysHeld k (on_ring h k q Opens) r
  opens_other k q r other held = view_after h (λ v. is_open v ≡ false) k q Opens r (λ same. absurd (other same)) (λ _. held)

  -- ring r is held behind a row, if it was before: but for its doorbell
  pub row_held : (k : Known) (row : Row) (r : ℕ) → r ≢ command_id h → begins_anew h k r row ≡ false → StaysHeld k (learned h k row) r
  unfolding learned begins_anew rung endpoint_rung
  row_held k (Read b) r no_command quiet held = event_held k (kind b) b r held
  row_held k (RegRead o x) r no_command quiet held = held_as_before (k.ring r) ((learned h k (RegRead o x)).ring r) (ap (λ f. (f r).held) (status_leaves h k o x).ring) held
  row_held k _ r no_command quiet held = search (rules, held_as_before, declaration_leaves, write_leaves, register_leaves, cond_both, opens_other, command_id, false≢true, eq-eqb, is_ring, not_from_false)

  -- ---- no success of its blocks is read

  none_reported : (k : Known) (r : ℕ) (row : Row) → IsHeld k r → is_late h k row ≡ false → number_reported h k r row ≡ 0
  unfolding number_reported is_late event_at spot_on is_held_ring number_behind
  none_reported k r o held timely =
      grind (arith, is_report_of_success, number_behind, event_at, cond-false, number, spot_named, ne_eqb, false≢true, not_from_false, is_open, false, pointer, slot, endpoint, is_held_ring)

-- none of the rows to come is late, and the rings stand together
abbrev pub AreTimely : Header → Known → List Row → Type 0
AreTimely h k [] = Unit {0}
AreTimely h k (row ∷ later) = (IsHeader h × (is_late h k row ≡ false)) × AreTimely (header_after h row) (known_after h k row) later

pub timely_then : (h : Header) (k : Known) (b : Block) (later : List Row) → AreTimely h k ((Read b) ∷ later) → AreTimely h (learned h k (Read b)) later
unfolding ring_restored restored_on
timely_then h k b later timely = timely.1

-- a ring of transfers stays but where it goes
transfer_stays : (h : Header) (k : Known) (row : Row) (r : ℕ) → IsTransferRing h r → ends_need h k r row ≡ false → IsTransferRing (header_after h row) r
unfolding with_ring without_ring ends_need
transfer_stays h k (RingRow ring) r t quiet = record { ring = t.ring; found = found_still (λ q. q.id == r) h.rings ring t.ring t.found; kind = t.kind }
transfer_stays h k (FreeRow id) r t quiet =
    let here : t.ring.id ≡ r = eqb-true t.ring.id r (found_in (λ q. q.id == r) h.rings t.ring t.found).1 in
    let stays : not (t.ring.id == id) ≡ true = not_from_false (t.ring.id == id) (ne_eqb t.ring.id id (λ same. false≢true (sym quiet ∙ eq-eqb id r (sym same ∙ here)))) in
    record { ring = t.ring; found = found_kept (λ q. q.id == r) (λ q. not (q.id == id)) h.rings t.ring t.found stays; kind = t.kind }
transfer_stays h k row r t quiet = t

-- another ring isn't the command ring
pub no_command_id : (o : Option Ring) (r : ℕ) → r ≢ id_or_none o → is_ring r (id_of o) ≡ false
no_command_id None r other = refl
no_command_id (Some q) r other = ne_eqb q.id r (λ same. other (sym same))

module _ (h : Header) where
  -- what restores or withdraws leaves the ring held
  quiet_held : (k : Known) (q : ℕ) (change : RingChange) → ((v : RingView) (shape : Shape) → (changed shape v change).held ≡ v.held) → (r : ℕ) → StaysHeld k (on_ring h k q change) r
  quiet_held k q change same r held =
      view_after h (λ v. is_open v ≡ false) k q change r
      (λ here. held_as_before (k.ring q) (changed (shape_of h q) (k.ring q) change) (same (k.ring q) (shape_of h q)) (subst (λ n. is_open (k.ring n) ≡ false) here held)) (λ other. held)

  -- behind a reset each ring of transfers is
  reset_held : (k : Known) (r : ℕ) → r ≢ command_id h → IsHeld (reset h k) r
  unfolding reset command_id held_at_given is_open
  reset_held k r other = ap (λ v. is_open v) (cond-false (is_ring r (id_of (command_ring h))) _ _ (no_command_id (command_ring h) r other))

  -- ring r is held behind a row of any kind, if it was before: but for its doorbell
  any_held : (k : Known) (row : Row) (r : ℕ) → r ≢ command_id h → ends_need h k r row ≡ false → StaysHeld k (known_after h k row) r
  unfolding ends_need forgotten gone is_open ring_restored restored_on begins_anew on_ring
  any_held k (Reg q x) r other quiet held =
      cond_both (resets k q x) (reset h k) (learned h k (Reg q x)) (λ l. IsHeld l r) (λ _. reset_held k r other) (λ _. row_held h k (Reg q x) r other quiet held)
  any_held k o r other quiet held = grind (arith, row_held, ring_restored, restored_on, cases_eq, is_open, put, new_ring, put_at, put_off, quiet_held)

  none_needed : (k : Known) (r : ℕ) (row : Row) → IsHeld k r → is_late h k row ≡ false → number_reported h k r row ≡ 0
  unfolding number_reported
  none_needed k r o held timely = grind (arith, none_reported)

pub need_of_held : (later : List Row) (h : Header) (k : Known) (r : ℕ) → IsTransferRing h r → IsHeld k r → AreTimely h k later → need h k r later ≡ 0
unfolding need
need_of_held [] h k r transfer held timely = refl
need_of_held (row ∷ later) h k r transfer held timely =
    let g : Header = header_after h row in
    let l : Known = known_after h k row in
    cond_both (ends_need h k r row) 0 (max (number_reported h k r row) (need g l r later)) (λ n. n ≡ 0) (λ _. refl)
    (λ quiet.
    let other : r ≢ command_id h = transfer_not_command h timely.0.0 r transfer in
    ap (λ n. max n (need g l r later)) (none_needed h k r row held timely.0.1)
    ∙ ap (λ n. max 0 n) (need_of_held later g l r (transfer_stays h k row r transfer quiet) (any_held h k row r other quiet held) timely.1))
