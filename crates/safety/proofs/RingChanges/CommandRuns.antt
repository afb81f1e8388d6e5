-- Behind a command ring that goes, or comes, the run goes on, whatever is unread
use Rattle.safety.proofs.UpperLaws.{Newest, Placed, RingEvent, Took, UnderWayMatches, is_end, is_inside_descriptor, is_step_given, given_count_near, given_count_stops, gone, no_id, Cmd, is_in_run, IsNobodys, [], ◌≡◌, ◌≢◌, ◌≤◌, ◌==◌, ◌&&◌, ◌||◌, ◌++◌, ◌∷◌, ◌∙◌, ℕ, not, Bool, true, false, List, Option, None, Some, filter, get_or, is_some, arith, refl, sym, ap, subst, inl, inr, cases_Bool, cases_eq, false≢true, false_from_ne_true, or_from, lt-ltb, ltb-false, eqb-true, and_right, has_other_words, is_out_of_order, nat_lt, list_any, some_of, put, Block, BlockKind, TransferEvent, CommandCompletion, kind, is_command_completion, Spot, new_ring, is_bad_free, is_bad_ring, is_bad_kind, is_bad_segment, goes_badly, is_in_use, IsComing, with_ring, without_ring, resting, forgotten, Header, Ring, Read, IsHeader, ring_with, ring_having, shape_of, command_id, id_of, is_inside, is_transfer_kind, World, UnderWay, counted, Known, learned, event_read, lenient, next_command, floor_number, number, ceiling, unwrap_or, may_be_taken, is_done, is_named, is_value, binds, DriverKeeps, EventFacts, event_facts, event_same, endpoints_of, transfer_command, next_take, state_of, Rests, Agrees, ArePossible, Runs, all_read, read_on, agrees_once_counted, KeepsRings, HasKept, HavesAlike, BindsAlike, read_possible, each_good, transfer_ring, having_transfer, ring_shape, Shape, RingView, command_ring, given_count, FreeRing, EndpointRing, Matches, completion_facts, none_has_256, NextAlike, AnotherRing, OtherWorld, another_ring_agrees, nothing_next, rested, state_same, unnamed, nobody_untaken}
use Rattle.safety.proofs.DriverHistories.{kept_driver}
use Rattle.safety.proofs.RingChanges.ReadAlike.{read_alike}
use Rattle.safety.proofs.RingChanges.Squares.{Other, cleared, cleared_apart, cleared_put, segment_still}
use Rattle.safety.proofs.RingChanges.LeftOut as left
use Rattle.safety.proofs.RingChanges.CommandRings as rings

-- ---- an event, where no command can have been taken

module _ (h : Header) (is : IsHeader h) (k : Known) (d : DriverKeeps h k) (e : Block) (may : lenient h k (Read e) ≡ []) (untaken : may_be_taken h k ≡ false) where
  abbrev m : Known
  m = learned h k (Read e)

  facts : EventFacts h k e
  facts = event_facts h k e may

  no_completion : is_command_completion (kind e) ≡ true → ⊥
  unfolding may_be_taken
  no_completion completion =
      let below = (completion_facts h k e completion facts.possible).below in
      false≢true (sym untaken ∙ lt-ltb (next_command h k) (ceiling (shape_of h (command_id h)) (k.ring (command_id h))) below)

  by_kind : (n : BlockKind) → kind e ≡ n → (event_read h k n e).ring (command_id h) ≡ k.ring (command_id h)
  unfolding event_read
  by_kind TransferEvent at = transfer_command h is k (endpoints_of h k d.states) e
  by_kind CommandCompletion at = absurd (no_completion (ap is_command_completion at))
  by_kind _ at = refl

  -- the command ring is known as before
  pub view_still : m.ring (command_id h) ≡ k.ring (command_id h)
  unfolding learned
  view_still = by_kind (kind e) refl

  pub untaken_still : may_be_taken h m ≡ false
  unfolding may_be_taken next_command
  untaken_still = (λ j. nat_lt (floor_number (view_still j)) (ceiling (shape_of h (command_id h)) (view_still j))) ∙ untaken

  pub phase_still : (m.started ≡ k.started) × (m.halt ≡ k.halt) × (m.stopped ≡ k.stopped)
  unfolding learned
  phase_still = let same = event_same h k (kind e) e in (same.started, same.halt, same.stopped)

-- ---- where no command can have been taken none is under way

-- nothing is below what the controller can have come to
idle_below : (h : Header) (k : Known) (t : Spot) (o : Option UnderWay) → ceiling (shape_of h (command_id h)) (k.ring (command_id h)) ≤ next_command h k →
    number t ≤ ceiling (shape_of h (command_id h)) (k.ring (command_id h)) → UnderWayMatches h k t o → o ≡ None
idle_below h k t None low below u = refl
idle_below h k t (Some y) low below u = absurd (omega (arith, low, below, u.0))

held_first : (o : Option ℕ) → not (is_value 0 o) ≡ false → o ≡ Some 0
held_first o unused = grind (arith, eqb-true, false≢true)

-- where nothing more is given the newest take ended its descriptor
newest_ends : (shape : Shape) (v : RingView) (n : ℕ) (events : List RingEvent) → is_step_given shape v n ≡ false → Newest shape v n events → is_inside_descriptor events ≡ false
unfolding is_inside_descriptor
newest_ends shape v n [] stop newest = refl
newest_ends shape v n (Placed a ∷ older) stop newest = refl
newest_ends shape v n (Took a b e ∷ older) stop newest =
    elim (cases_Bool (is_end e)) [ inl ends ↦ ap (λ x. not x) ends | inr on ↦ absurd (false≢true (sym stop ∙ newest on)) ]

module _ (h : Header) (k : Known) (d : DriverKeeps h k) (rest : k.started ≡ true → may_be_taken h k ≡ false) where
  low_ceiling : is_named k ≡ true → ceiling (shape_of h (command_id h)) (k.ring (command_id h)) ≤ next_command h k
  unfolding may_be_taken ceiling
  low_ceiling named =
      elim (cases_Bool k.started) [
        | inl on ↦ ltb-false (next_command h k) (ceiling (shape_of h (command_id h)) (k.ring (command_id h))) (rest on)
        | inr off ↦
            let held : (k.ring (command_id h)).held ≡ Some 0 = held_first (k.ring (command_id h)).held (d.run.unused off named) in
            let zero : ceiling (shape_of h (command_id h)) (k.ring (command_id h)) ≡ 0 = ap (λ o. unwrap_or o (given_count (shape_of h (command_id h)) (k.ring (command_id h)))) held in
            omega (arith, zero)
      ]

  pub nothing_under_way : (w : World) → Matches h k w → w.under_way ≡ None
  nothing_under_way w g =
      elim (cases_Bool (is_named k)) [
        | inr off ↦ (g.before off).none
        | inl on ↦ let c = g.command on in idle_below h k c.spot w.under_way (low_ceiling on) c.ring.below c.under_way
      ]

  -- what was taken of the command ring was right
  pub command_right : (w : World) → Matches h k w →
      (is_out_of_order (shape_of h (command_id h)) (w.events (command_id h)) ≡ false) × (has_other_words (shape_of h (command_id h)) (w.events (command_id h)) ≡ false)
  command_right w g =
      elim (cases_Bool (is_named k)) [
        | inr off ↦ let rests = (g.before off).rests in (rests.in_order, rests.as_declared)
        | inl on ↦ let ring = (g.command on).ring in (ring.in_order, ring.as_declared)
      ]

  -- and one that is looked at isn't inside a descriptor
  pub command_whole : IsHeader h → (w : World) → Matches h k w → w.is_active (command_id h) ≡ true → is_inside_descriptor (w.events (command_id h)) ≡ false
  unfolding ceiling
  command_whole is w g active =
      elim (cases_Bool (is_named k)) [
        | inr off ↦ absurd (false≢true (sym (g.before off).rests.inactive ∙ active))
        | inl on ↦
            let c = g.command on in
            let shape = shape_of h (command_id h) in
            let v = k.ring (command_id h) in
            let driver = d.run.named on in
            let open_so : unwrap_or v.held (given_count shape v) ≡ given_count shape v = ap (λ o. unwrap_or o (given_count shape v)) (c.ring.opened active) in
            let under : number c.spot ≡ next_command h k = (subst (λ o. UnderWayMatches h k c.spot o) (nothing_under_way w g) c.under_way).0 in
            let top : given_count shape v ≡ number c.spot = omega (arith, under, c.ring.below, low_ceiling on, open_so) in
            newest_ends shape v (number c.spot) (w.events (command_id h))
            (ap (λ n. is_step_given shape v n) (sym top) ∙ given_count_stops shape v (given_count_near shape (ring_shape h is (command_id h) driver).is k.memory v (d.rings (command_id h) driver))) c.ring.newest
      ]

-- ---- a command ring that goes

module _ (h : Header) (is : IsHeader h) (id : ℕ) (c : Ring) (found : ring_with h id ≡ Some c) (command : c.shape.kind ≡ Cmd) where
  abbrev keep : Ring → Bool
  keep q = not (q.id == id)

  abbrev left_rings : List Ring
  left_rings = filter keep h.rings

  abbrev g : Header
  g = record h { rings = left_rings }

  module _ (k : Known) (d : DriverKeeps h k) (good : is_bad_free h k id ≡ false) where
    abbrev without : AnotherRing h left_rings k id
    without = rings.left_another h is k d id c found command good

    module _ (e : Block) (may : lenient h k (Read e) ≡ []) where
      abbrev l : Known
      l = learned h k (Read e)

      untaken : may_be_taken h k ≡ false
      untaken = (rings.rests h is k d id c found command good (event_facts h k e may).started).1

      alike : KeepsRings h left_rings (cleared id) unnamed (Other id)
      alike = record {
        shape = without.shapes;
        view = cleared_apart id;
        changes = cleared_put id;
        events = without.events;
        version = refl;
        size = without.size;
        config = λ values. refl;
      }

      next : NextAlike h left_rings (cleared id) unnamed (Other id) k
      next = record {
        taken = nobody_untaken g (record k { ring = cleared id k.ring; register = unnamed k.register }) without.fresh ∙ sym untaken;
        ring = λ taken. absurd (false≢true (sym untaken ∙ taken));
      }

      had : HasKept h left_rings (cleared id) unnamed (Other id) k
      had s i r at = (without.had s i r at).0

      -- transfer rings are found as before
      haves : (p : ℕ) → HavesAlike h left_rings (cleared id) unnamed (Other id) p
      unfolding ring_having
      haves p = (
        ap id_of (left.found_still h is id c found (λ q. is_transfer_kind q.shape.kind && is_inside q.shape p) (ap (λ n. is_transfer_kind n && is_inside c.shape p) command)),
        λ r names. rings.transfer_other h is k d id c found command good r (transfer_ring h r (having_transfer h is p r names)),
      )

      bound : BindsAlike h left_rings (cleared id) unnamed (Other id) alike k
      bound p f u i b low = haves (get_or (binds h k f) i b).pointer

      -- it may go behind the event too
      still_goes : is_bad_free h l id ≡ false
      unfolding is_bad_free goes_badly is_in_use
      still_goes =
          let phase = phase_still h is k d e may untaken in
          let rest = (rings.rests h is k d id c found command good (event_facts h k e may).started).0 in
          ap (goes_badly h l id) found ∙ ap (is_in_use h l id) command
          ∙ and_right l.started (not (is_done l.halt) || may_be_taken h l) (or_from (not (is_done l.halt)) (may_be_taken h l) (ap (λ a. not (is_done a)) phase.1 ∙ ap not rest) (untaken_still h is k d e may untaken))

      l_keeps : k.stopped ≡ false → DriverKeeps h l
      l_keeps on = kept_driver h is k (Read e) d (may, tt) (read_on h k e ∙ on)

      read_without : lenient (without_ring h id) (gone h k id) (Read e) ≡ []
      unfolding without_ring
      read_without =
          ap (λ x. lenient g x (Read e)) (rings.gone_is h is k d id c found command good) ∙ read_possible h left_rings (cleared id) unnamed (Other id) alike k next e had ∙ may

      learned_without : k.stopped ≡ false → learned (without_ring h id) (gone h k id) (Read e) ≡ gone h l id
      unfolding without_ring
      learned_without on =
          ap (λ x. learned g x (Read e)) (rings.gone_is h is k d id c found command good) ∙ (read_alike h left_rings (cleared id) unnamed (Other id) alike is k d next had bound e may).0
          ∙ sym (rings.gone_is h is l (l_keeps on) id c found command still_goes)

  record Gone (k : Known) (unread : List Block) : Type 0 where
    pub possible : ArePossible (without_ring h id) (gone h k id) unread
    pub same : all_read (without_ring h id) (gone h k id) unread ≡ gone h (all_read h k unread) id
    pub keeps : DriverKeeps h (all_read h k unread)
    pub good : is_bad_free h (all_read h k unread) id ≡ false

  went : (unread : List Block) (k : Known) → DriverKeeps h k → is_bad_free h k id ≡ false → ArePossible h k unread → k.stopped ≡ false → Gone k unread
  went [] k d good possible on = record { possible = tt; same = refl; keeps = d; good = good }
  went (e ∷ rest) k d good possible on =
      let behind : Known = learned h k (Read e) in
      let later : Gone behind rest = went rest behind (l_keeps k d good e possible.0 on) (still_goes k d good e possible.0) possible.1 (read_on h k e ∙ on) in
      let step : learned (without_ring h id) (gone h k id) (Read e) ≡ gone h behind id = learned_without k d good e possible.0 on in
      record {
        possible = (read_without k d good e possible.0, subst (λ x. ArePossible (without_ring h id) x rest) (sym step) later.possible);
        same = ap (λ x. all_read (without_ring h id) x rest) step ∙ later.same;
        keeps = later.keeps;
        good = later.good;
      }

  module _ (k : Known) (d : DriverKeeps h k) (good : is_bad_free h k id ≡ false) (w : World) (x : Matches h k w) where
    abbrev empty : AnotherRing h left_rings k id
    empty = rings.left_another h is k d id c found command good

    now : command_id g ≡ no_id
    now = rings.command_now h is k d id c found command good

    apart : command_id g ≢ id
    apart same = rings.some_id h is k d id c found command good (sym same ∙ now)

    -- the ID that no ring has is of a free ring
    free : FreeRing (shape_of h (command_id g)) k.ring_of (k.ring (command_id g)) (state_of w (command_id g)) (command_id g)
    free = elim (x.rings (command_id g) (λ same. apart (same ∙ rings.is_command h is k d id c found command good))) [
      | inl bound ↦ let ring = d.states.transfer bound.slot bound.index (command_id g) bound.bound in absurd (none_has_256 h is ring.ring (ap (ring_with h) (sym now) ∙ ring.found))
      | inr none ↦ none
    ]

    world_without : OtherWorld h left_rings k id d empty w
    world_without = record {
      others = λ r other not_now. x.rings r (λ same. other (same ∙ rings.is_command h is k d id c found command good));
      rests = subst (λ s. Rests (shape_of g (command_id g)) s) (sym (state_same h left_rings k id d empty w (command_id g) apart))
          (subst (λ shape. Rests shape (state_of w (command_id g))) (sym (empty.shapes (command_id g) apart)) free.rests);
      new = (λ j. next_take (empty.shapes (command_id g) apart j) ((state_same h left_rings k id d empty w (command_id g) apart j).events))
          ∙ nothing_next (shape_of h (command_id g)) k.ring_of (k.ring (command_id g)) (state_of w (command_id g)) (command_id g) free (d.nobody (command_id g) now);
      idle = nothing_under_way h k d (λ on. (rings.rests h is k d id c found command good on).1) w x;
    }

  -- the run goes on
  pub command_goes_runs : (k : Known) (w : World) → DriverKeeps h k → is_bad_free h k id ≡ false → Runs h k w → Runs (without_ring h id) (gone h k id) (counted h (resting w id))
  unfolding counted without_ring gone forgotten
  command_goes_runs k w d good run =
      let all : Gone k run.unread = went run.unread k d good run.possible run.on in
      let later : Known = all_read h k run.unread in
      let there = another_ring_agrees h left_rings later id all.keeps (empty later all.keeps all.good w run.agrees.matches) w (world_without later all.keeps all.good w run.agrees.matches) run.unread run.agrees in
      record {
        unread = run.unread;
        possible = all.possible;
        blocks = run.blocks;
        on = run.on;
        agrees = subst (λ y. Agrees g y run.unread (counted g (resting w id))) (sym (all.same ∙ rings.gone_is h is later all.keeps id c found command all.good))
            (agrees_once_counted g (record later { ring = put later.ring id new_ring; register = unnamed later.register }) run.unread (resting w id) there);
      }

  -- what was taken of it was right
  pub command_goes_right : (k : Known) (w : World) → DriverKeeps h k → is_bad_free h k id ≡ false → Runs h k w →
      (is_out_of_order (shape_of h id) (w.events id) ≡ false) × (has_other_words (shape_of h id) (w.events id) ≡ false)
  command_goes_right k w d good run =
      let all : Gone k run.unread = went run.unread k d good run.possible run.on in
      let later : Known = all_read h k run.unread in
      subst (λ n. (is_out_of_order (shape_of h n) (w.events n) ≡ false) × (has_other_words (shape_of h n) (w.events n) ≡ false)) (rings.is_command h is k d id c found command good)
      (command_right h later all.keeps (λ on. (rings.rests h is later all.keeps id c found command all.good on).1) w run.agrees.matches)

  -- and where it is looked at, it isn't inside a descriptor
  pub command_goes_whole : (k : Known) (w : World) → DriverKeeps h k → is_bad_free h k id ≡ false → Runs h k w → w.is_active id ≡ true → is_inside_descriptor (w.events id) ≡ false
  command_goes_whole k w d good run active =
      let all : Gone k run.unread = went run.unread k d good run.possible run.on in
      let later : Known = all_read h k run.unread in
      let it = rings.is_command h is k d id c found command good in
      subst (λ n. is_inside_descriptor (w.events n) ≡ false) it
      (command_whole h later all.keeps (λ on. (rings.rests h is later all.keeps id c found command all.good on).1) is w run.agrees.matches (ap w.is_active it ∙ active))

-- ---- a command ring that comes

module _ (h : Header) (is : IsHeader h) (r : Ring) (coming : IsComing r) (command : r.shape.kind ≡ Cmd) where
  abbrev more_rings : List Ring
  more_rings = h.rings ++ r ∷ []

  abbrev f : Header
  f = record h { rings = more_rings }

  module _ (k : Known) (d : DriverKeeps h k) (good : is_bad_ring h k r ≡ false) where
    abbrev with_it : AnotherRing h more_rings k r.id
    with_it = rings.coming_another h is k d r coming command good

    abbrev parts : rings.Parts h is k d r coming command good
    parts = rings.parts h is k d r coming command good

    none_known : IsNobodys (k.ring (command_id h))
    none_known = d.nobody (command_id h) (rings.nobodys h is k d r coming command good)

    untaken_before : may_be_taken h k ≡ false
    untaken_before = nobody_untaken h k none_known

    module _ (e : Block) (may : lenient h k (Read e) ≡ []) where
      abbrev y : Known
      y = learned h k (Read e)

      alike_with : KeepsRings h more_rings (cleared r.id) unnamed (Other r.id)
      alike_with = record {
        shape = with_it.shapes;
        view = cleared_apart r.id;
        changes = cleared_put r.id;
        events = with_it.events;
        version = refl;
        size = with_it.size;
        config = λ values. refl;
      }

      next_with : NextAlike h more_rings (cleared r.id) unnamed (Other r.id) k
      next_with = record {
        taken = nobody_untaken f (record k { ring = cleared r.id k.ring; register = unnamed k.register }) with_it.fresh ∙ sym untaken_before;
        ring = λ taken. absurd (false≢true (sym untaken_before ∙ taken));
      }

      had_with : HasKept h more_rings (cleared r.id) unnamed (Other r.id) k
      had_with s i q at = (with_it.had s i q at).0

      -- no command is unfinished
      bound_with : BindsAlike h more_rings (cleared r.id) unnamed (Other r.id) alike_with k
      bound_with p c u = absurd (false≢true (sym (none_known.given p) ∙ u.given))

      -- it may come behind the event too
      still_comes : is_bad_ring h y r ≡ false
      unfolding is_bad_ring is_bad_kind
      still_comes =
          let phase = phase_still h is k d e may untaken_before in
          let running : is_in_run y ≡ false = (λ j. phase.0 j && not (is_done (phase.1 j))) ∙ parts.not_in_run in
          or_from (is_some (ring_with h r.id) || is_bad_kind h y r.shape.kind) (list_any (is_bad_segment h y) r.shape.segments)
          (or_from (is_some (ring_with h r.id)) (is_bad_kind h y r.shape.kind) (ap (λ o. is_some o) parts.no_ring)
          (ap (is_bad_kind h y) command ∙ or_from (is_some (command_ring h)) (is_in_run y) (ap (λ o. is_some o) parts.no_command) running))
          (false_from_ne_true (list_any (is_bad_segment h y) r.shape.segments) (λ some.
          let s = some_of (is_bad_segment h y) r.shape.segments some in
          false≢true (sym (segment_still h is k d e may s.0 (each_good h k r.shape coming.shape parts.segments s.0 s.1)) ∙ s.2)))

      y_keeps : k.stopped ≡ false → DriverKeeps h y
      y_keeps on = kept_driver h is k (Read e) d (may, tt) (read_on h k e ∙ on)

      read_with : lenient (with_ring h r) (forgotten k r.id) (Read e) ≡ []
      unfolding with_ring
      read_with =
          ap (λ x. lenient f x (Read e)) (rings.forgotten_is h is k d r coming command good) ∙ read_possible h more_rings (cleared r.id) unnamed (Other r.id) alike_with k next_with e had_with ∙ may

      learned_with : k.stopped ≡ false → learned (with_ring h r) (forgotten k r.id) (Read e) ≡ forgotten y r.id
      unfolding with_ring
      learned_with on =
          ap (λ x. learned f x (Read e)) (rings.forgotten_is h is k d r coming command good)
          ∙ (read_alike h more_rings (cleared r.id) unnamed (Other r.id) alike_with is k d next_with had_with bound_with e may).0
          ∙ sym (rings.forgotten_is h is y (y_keeps on) r coming command still_comes)

  record Came (k : Known) (unread : List Block) : Type 0 where
    pub possible : ArePossible (with_ring h r) (forgotten k r.id) unread
    pub same : all_read (with_ring h r) (forgotten k r.id) unread ≡ forgotten (all_read h k unread) r.id
    pub keeps : DriverKeeps h (all_read h k unread)
    pub good : is_bad_ring h (all_read h k unread) r ≡ false

  came : (unread : List Block) (k : Known) → DriverKeeps h k → is_bad_ring h k r ≡ false → ArePossible h k unread → k.stopped ≡ false → Came k unread
  came [] k d good possible on = record { possible = tt; same = refl; keeps = d; good = good }
  came (e ∷ rest) k d good possible on =
      let behind : Known = learned h k (Read e) in
      let later : Came behind rest = came rest behind (y_keeps k d good e possible.0 on) (still_comes k d good e possible.0) possible.1 (read_on h k e ∙ on) in
      let step : learned (with_ring h r) (forgotten k r.id) (Read e) ≡ forgotten behind r.id = learned_with k d good e possible.0 on in
      record {
        possible = (read_with k d good e possible.0, subst (λ x. ArePossible (with_ring h r) x rest) (sym step) later.possible);
        same = ap (λ x. all_read (with_ring h r) x rest) step ∙ later.same;
        keeps = later.keeps;
        good = later.good;
      }

  module _ (k : Known) (d : DriverKeeps h k) (good : is_bad_ring h k r ≡ false) (w : World) (x : Matches h k w) where
    abbrev fresh : AnotherRing h more_rings k r.id
    fresh = rings.coming_another h is k d r coming command good

    is_it : command_id f ≡ r.id
    is_it = rings.command_is h is k d r coming command good

    none_there : IsNobodys (k.ring (command_id h))
    none_there = d.nobody (command_id h) (rings.nobodys h is k d r coming command good)

    rest_before : (w.under_way ≡ None) × Rests (shape_of h (command_id h)) (state_of w (command_id h))
    rest_before = let b = x.before (rings.not_named h is k d r coming command good) in (b.none, b.rests)

    -- where no command ring was there its ID was that of no ring, and is still
    was_free : FreeRing (shape_of h (command_id h)) k.ring_of (k.ring (command_id h)) (state_of w (command_id h)) (command_id h)
    was_free =
        let zero = x.new (ap (λ o. not (is_value 0 o)) none_there.held) in
        let first : floor_number (k.ring (command_id h)) ≡ 0 = ap (λ t. number t) none_there.floor in
        record {
          none = λ t i at. let ring = d.states.transfer t i (command_id h) at in none_has_256 h is ring.ring (ap (ring_with h) (sym (rings.nobodys h is k d r coming command good)) ∙ ring.found);
          rests = rest_before.1;
          from = omega (arith, first);
          to = omega (arith, zero);
        }

    rested_now : FreeRing (shape_of f (command_id f)) k.ring_of (put k.ring r.id new_ring (command_id f)) (state_of (resting w r.id) (command_id f)) (command_id f)
    rested_now = rested h more_rings k r.id d fresh w (command_id f) is_it

    world_with : OtherWorld h more_rings k r.id d fresh w
    world_with = record {
      others = λ s other not_now. elim (cases_eq s (command_id h)) [
        | inl same ↦ subst (λ n. EndpointRing h k w n) (sym same) (inr was_free)
        | inr away ↦ x.rings s away
      ];
      rests = rested_now.rests;
      new = nothing_next (shape_of f (command_id f)) k.ring_of (put k.ring r.id new_ring (command_id f)) (state_of (resting w r.id) (command_id f)) (command_id f) rested_now fresh.fresh;
      idle = rest_before.0;
    }

  -- the run goes on
  pub command_comes_runs : (k : Known) (w : World) → DriverKeeps h k → is_bad_ring h k r ≡ false → Runs h k w → Runs (with_ring h r) (forgotten k r.id) (counted h (resting w r.id))
  unfolding counted with_ring forgotten
  command_comes_runs k w d good run =
      let all : Came k run.unread = came run.unread k d good run.possible run.on in
      let later : Known = all_read h k run.unread in
      let there = another_ring_agrees h more_rings later r.id all.keeps (fresh later all.keeps all.good w run.agrees.matches) w (world_with later all.keeps all.good w run.agrees.matches) run.unread run.agrees in
      record {
        unread = run.unread;
        possible = all.possible;
        blocks = run.blocks;
        on = run.on;
        agrees = subst (λ y. Agrees f y run.unread (counted f (resting w r.id))) (sym (all.same ∙ rings.forgotten_is h is later all.keeps r coming command all.good))
            (agrees_once_counted f (record later { ring = put later.ring r.id new_ring; register = unnamed later.register }) run.unread (resting w r.id) there);
      }
