-- Behind a ring that comes or goes the run goes on, whatever is unread
use Rattle.safety.proofs.UpperLaws.{Xfer, rules, [], ◌≡◌, ◌∷◌, ◌∙◌, ℕ, false, List, filter, None, option_and_then, slice_get, is_some, refl, sym, ap, subst, ◌||◌, ◌==◌, ◌*◌, eq-eqb, new_ring, IsComing, emptied, forgotten, is_bad_free, is_bad_ring, is_bad_segment, shows_first_lap, with_ring, without_ring, fun_ext, range_of_entry, entry_of, slots, cond-true, segment_ranges, table_range, entry_ranges, device_ranges, touches_ring, is_soiled, cases_option, false≢true, flat_map, list_any, or_parts, Block, RingView, due_positions, shape_of, command_of, Header, Read, Ring, IsHeader, ring_with, command_id, World, counted, Known, command_at, unfinished_positions, learned, lenient, open_ranges, context_ranges, range_of_command, covers, is_in_range_lease, DriverKeeps, Agrees, ArePossible, Runs, all_read, arith, read_on, gone_ring_agrees, new_ring_agrees, new_ring_kept, new_ring_header, agrees_once_counted, IsTransferRing, is_bad_kind, inl, inr}
use Rattle.safety.proofs.DriverHistories.{kept_driver}
use Rattle.safety.proofs.RingChanges.Forgotten.{forgotten_agrees, forgotten_keeps, forgotten_learned, forgotten_read}
use Rattle.safety.proofs.RingChanges.Squares.{cleared, cleared_apart, cleared_here, learned_with, learned_without, read_with, read_without, still_comes, still_goes}
use Rattle.safety.proofs.RingChanges.Forgotten as forgets

-- ---- a ring that comes

module _ (h : Header) (is : IsHeader h) (r : Ring) (coming : IsComing r) (kind : r.shape.kind ≡ Xfer) where
  pub no_ring : (k : Known) → is_bad_ring h k r ≡ false → ring_with h r.id ≡ None
  unfolding is_bad_ring
  no_ring k good =
      let first = (or_parts (is_some (ring_with h r.id)) (is_bad_kind h k r.shape.kind) (or_parts (is_some (ring_with h r.id) || is_bad_kind h k r.shape.kind) (list_any (is_bad_segment h k) r.shape.segments) good).0).0 in
      elim (cases_option (ring_with h r.id)) [ inl none ↦ none | inr some ↦ absurd (false≢true (sym first ∙ ap (λ o. is_some o) some.1)) ]

  -- the rule doesn't read what is known of its ID
  contexts_same : (k : Known) (view : RingView) → (k.ring (command_id h) ≡ view) →
      context_ranges h k ≡ flat_map (λ p. range_of_command h p (option_and_then command_of (slice_get view.queue p))) (filter view.given (due_positions (shape_of h (command_id h)) view))
  unfolding context_ranges unfinished_positions command_at
  contexts_same k view same = ap (λ (v : RingView). flat_map (λ p. range_of_command h p (option_and_then command_of (slice_get v.queue p))) (filter v.given (due_positions (shape_of h (command_id h)) v))) same

  module _ (k : Known) (d : DriverKeeps h k) (absent : ring_with h r.id ≡ None) where
    abbrev f : Known
    f = forgotten k r.id

    pub f_keeps : DriverKeeps h f
    f_keeps = forgotten_keeps h is k d r.id coming.low absent

    pub fresh : f.ring r.id ≡ new_ring
    unfolding forgotten
    fresh = cleared_here r.id k.ring

    entries_same : entry_ranges f ≡ entry_ranges k
    unfolding entry_ranges forgotten range_of_entry entry_of
    entries_same = ap (λ e. flat_map e slots) (fun_ext (λ s. (grind arith)))

    pub bad_same : is_bad_ring h f r ≡ is_bad_ring h k r
    unfolding is_bad_ring is_bad_segment is_in_range_lease is_soiled shows_first_lap forgotten open_ranges device_ranges is_bad_kind
    bad_same =
        ap (λ b. is_some (ring_with h r.id) || b || list_any (is_bad_segment h f) r.shape.segments) (ap (is_bad_kind h f) kind ∙ sym (ap (is_bad_kind h k) kind))
        ∙ ap (λ ls. is_some (ring_with h r.id) || is_bad_kind h k r.shape.kind || list_any (λ s. touches_ring h s.base (16 * s.count) || list_any (covers h s.base (16 * s.count)) ls || is_soiled k s.base (16 * s.count) || shows_first_lap k s) r.shape.segments)
        (search (rules, cleared, command_id, cleared_apart, forgets.no_command, context_ranges, f, contexts_same, forgotten, segment_ranges, table_range, entries_same, device_ranges))

  record Came (k : Known) (unread : List Block) : Type 0 where
    pub possible : ArePossible (with_ring h r) (forgotten k r.id) unread
    pub same : all_read (with_ring h r) (forgotten k r.id) unread ≡ forgotten (all_read h k unread) r.id
    pub keeps : DriverKeeps h (all_read h k unread)
    pub good : is_bad_ring h (all_read h k unread) r ≡ false

  came : (unread : List Block) (k : Known) → DriverKeeps h k → is_bad_ring h k r ≡ false → ArePossible h k unread → k.stopped ≡ false → Came k unread
  came [] k d good possible on = record { possible = tt; same = refl; keeps = d; good = good }
  came (e ∷ rest) k d good possible on =
      let absent = no_ring k good in
      let z : Known = forgotten k r.id in
      let z_keeps : DriverKeeps h z = f_keeps k d absent in
      let z_fresh : z.ring r.id ≡ new_ring = fresh k d absent in
      let z_good : is_bad_ring h z r ≡ false = bad_same k d absent ∙ good in
      let z_may : lenient h z (Read e) ≡ [] = forgotten_read h is k d r.id coming.low absent e ∙ possible.0 in
      let l : Known = learned h k (Read e) in
      let l_keeps : DriverKeeps h l = kept_driver h is k (Read e) d (possible.0, tt) (read_on h k e ∙ on) in
      let behind : learned h z (Read e) ≡ forgotten l r.id = forgotten_learned h is k d r.id coming.low absent e possible.0 in
      let l_good : is_bad_ring h l r ≡ false =
      sym (bad_same l l_keeps absent) ∙ sym (ap (λ x. is_bad_ring h x r) behind) ∙ still_comes h is z z_keeps r coming kind z_fresh z_good e z_may in
      let next : Came l rest = came rest l l_keeps l_good possible.1 (read_on h k e ∙ on) in
      let step : learned (with_ring h r) z (Read e) ≡ forgotten l r.id = learned_with h is z z_keeps r coming kind z_fresh z_good e z_may ∙ behind in
      record {
        possible = (read_with h is z z_keeps r coming kind z_fresh z_good e z_may, subst (λ x. ArePossible (with_ring h r) x rest) (sym step) next.possible);
        same = ap (λ x. all_read (with_ring h r) x rest) step ∙ next.same;
        keeps = next.keeps;
        good = next.good;
      }

  pub comes_keeps : (k : Known) → DriverKeeps h k → is_bad_ring h k r ≡ false → DriverKeeps (with_ring h r) (forgotten k r.id)
  comes_keeps k d good = search (rules, no_ring, new_ring_kept, f_keeps, fresh, bad_same)

  pub comes_header : (k : Known) → DriverKeeps h k → is_bad_ring h k r ≡ false → IsHeader (with_ring h r)
  comes_header k d good =
      let absent = no_ring k good in
      new_ring_header h is (forgotten k r.id) (f_keeps k d absent) r coming kind (fresh k d absent) (bad_same k d absent ∙ good)

  no_events : (w : World) → (emptied w r.id).events r.id ≡ []
  unfolding emptied
  no_events w = cond-true (r.id == r.id) [] (w.events r.id) (eq-eqb r.id r.id refl)

  -- the run goes on
  pub comes_runs : (k : Known) (w : World) → DriverKeeps h k → is_bad_ring h k r ≡ false → Runs h k w → Runs (with_ring h r) (forgotten k r.id) (counted h (emptied w r.id))
  unfolding counted forgotten
  comes_runs k w d good run =
      let c : Came k run.unread = came run.unread k d good run.possible run.on in
      let later : Known = all_read h k run.unread in
      let absent = no_ring later c.good in
      let beside : Agrees h (forgotten later r.id) run.unread (emptied w r.id) = forgotten_agrees h is later c.keeps r.id coming.low absent w run.unread run.agrees in
      let there : Agrees (with_ring h r) (forgotten later r.id) run.unread (emptied w r.id) =
      new_ring_agrees h is (forgotten later r.id) (f_keeps later c.keeps absent) r coming kind (fresh later c.keeps absent) (bad_same later c.keeps absent ∙ c.good) (emptied w r.id) (no_events w) run.unread beside in
      record {
        unread = run.unread;
        possible = c.possible;
        blocks = run.blocks;
        on = refl ∙ run.on;
        agrees = subst (λ x. Agrees (with_ring h r) x run.unread (counted (with_ring h r) (emptied w r.id))) (sym c.same)
            (agrees_once_counted (with_ring h r) (forgotten later r.id) run.unread (emptied w r.id) there);
      }

-- ---- a ring that goes

module _ (h : Header) (is : IsHeader h) (id : ℕ) (transfer : IsTransferRing h id) where
  pub record Gone (k : Known) (unread : List Block) : Type 0 where
    pub possible : ArePossible (without_ring h id) (forgotten k id) unread
    pub same : all_read (without_ring h id) (forgotten k id) unread ≡ forgotten (all_read h k unread) id
    pub keeps : DriverKeeps h (all_read h k unread)
    pub good : is_bad_free h (all_read h k unread) id ≡ false

  pub gone : (unread : List Block) (k : Known) → DriverKeeps h k → is_bad_free h k id ≡ false → ArePossible h k unread → k.stopped ≡ false → Gone k unread
  gone [] k d good possible on = record { possible = tt; same = refl; keeps = d; good = good }
  gone (e ∷ rest) k d good possible on =
      let l : Known = learned h k (Read e) in
      let l_keeps : DriverKeeps h l = kept_driver h is k (Read e) d (possible.0, tt) (read_on h k e ∙ on) in
      let next : Gone l rest = gone rest l l_keeps (still_goes h is k d id transfer good e possible.0) possible.1 (read_on h k e ∙ on) in
      let step : learned (without_ring h id) (forgotten k id) (Read e) ≡ forgotten l id = learned_without h is k d id transfer good e possible.0 in
      record {
        possible = (read_without h is k d id transfer good e possible.0, subst (λ x. ArePossible (without_ring h id) x rest) (sym step) next.possible);
        same = ap (λ x. all_read (without_ring h id) x rest) step ∙ next.same;
        keeps = next.keeps;
        good = next.good;
      }

  pub goes_runs : (k : Known) (w : World) → DriverKeeps h k → is_bad_free h k id ≡ false → Runs h k w → Runs (without_ring h id) (forgotten k id) (counted h (emptied w id))
  unfolding counted forgotten
  goes_runs k w d good run =
      let c : Gone k run.unread = gone run.unread k d good run.possible run.on in
      let later : Known = all_read h k run.unread in
      record {
        unread = run.unread;
        possible = c.possible;
        blocks = run.blocks;
        on = refl ∙ run.on;
        agrees = subst (λ x. Agrees (without_ring h id) x run.unread (counted (without_ring h id) (emptied w id))) (sym c.same)
            (agrees_once_counted (without_ring h id) (forgotten later id) run.unread (emptied w id) (gone_ring_agrees h is later c.keeps id transfer c.good w run.unread run.agrees));
      }
