-- The headline: behind each step of each run beside rows that break no rule the world is safe, also for rings that went.
-- The run is that which the rings that live see, with what is left of the others put back
use Rattle.safety.proofs.UpperLaws.{[], ◌≡◌, ◌∷◌, ◌&&◌, ◌∙◌, ℕ, Bool, true, false, List, Option, Some, None, refl, sym, ap, subst, inl, inr, cond-true, false≢true, false_from_ne_true, none-some, same_Some, All, All-head, All-tail, reverse, IsIn, Header, Ring, Step, Row, World, IsStep, IsSafe, shape_of, harm_of, harms, waits, has_changed_context, is_changed_since, is_context_changed, option_and_then, AreKept, IsRow, Headline, LiveScene, live_reached, live_step, and_left, ◌-◌, ◌==◌, find, nat_le, nat_lt, list_any, some_of, found_in, safe_from, Left, aside, laid_here, Lists, all_live, fails_there, none_gone, shape_same, place_count, Shape, Scene, scene_reached, step_made, Harm, TakenOutOfOrder, TakenOtherWords, WaitsInsideDescriptor, LooksOutside, PostsOverUnread, InputContextChanged, RingEvent, has_other_words, is_inside_descriptor, is_out_of_order, cases_Bool, cases_option, and_right, or_from, or_parts, ◌||◌, ◌<◌, not, Known, header_now, known_now, live_with, arith, zero, suc, rules, append-nil, opens, event_ring, event_size, event_shape, lingering, none_lingers, events_are, Evt, shape_or, block_at, cycle, opening, MayBegin}
use Rattle.std.proofs.Common.{option_map}
use Rattle.safety.proofs.RingChanges.LiveHeadline.{CameTo, safe_there}
use Rattle.traces.specs.Header.{some_ring}
use Rattle.safety.proofs.RingChanges.AlikeSteps.{step_alike}
use Rattle.safety.proofs.RingChanges.RunFacts.{no_room}
pub use Rattle.safety.proofs.RingChanges.Alike.{Alike, AreAlike, IsIdle, Lingers, whole}

-- ---- harm that the rings that live don't show no ring shows

or_off : (b c : Bool) → c ≡ false → (b || c) ≡ b
or_off b c off = grind arith

none_over : (size posted reads : ℕ) → posted ≡ 0 → (nat_lt 0 size && nat_le size (posted - reads)) ≡ false
none_over size posted reads none = grind (arith, none)

none_posted : (posted : ℕ) (o : Option Ring) → o ≡ None → (0 < posted → 0 < place_count (shape_or Evt o)) → posted ≡ 0
none_posted zero o none room = refl
none_posted (suc n) o none room = absurd (no_room o none (room (omega arith)))

record AllOff (a b c d e f : Bool) : Type 0 where
  order : a ≡ false
  words : b ≡ false
  waiting : c ≡ false
  looks : d ≡ false
  posts : e ≡ false
  contexts : f ≡ false

all_off : (a b c d e f : Bool) →
    option_map (λ (t : Harm × Bool). t.0) (find (λ (t : Harm × Bool). t.1) ((TakenOutOfOrder, a) ∷ (TakenOtherWords, b) ∷ (WaitsInsideDescriptor, c) ∷ (LooksOutside, d) ∷ (PostsOverUnread, e) ∷ (InputContextChanged, f) ∷ [])) ≡ None →
    AllOff a b c d e f
all_off true b c d e f at = absurd (none-some TakenOutOfOrder (sym at))
all_off false true c d e f at = absurd (none-some TakenOtherWords (sym at))
all_off false false true d e f at = absurd (none-some WaitsInsideDescriptor (sym at))
all_off false false false true e f at = absurd (none-some LooksOutside (sym at))
all_off false false false false true f at = absurd (none-some PostsOverUnread (sym at))
all_off false false false false false true at = absurd (none-some InputContextChanged (sym at))
all_off false false false false false false at = record { order = refl; words = refl; waiting = refl; looks = refl; posts = refl; contexts = refl }

none_shows : (h : Header) (test : ℕ → Bool) → ((q : Ring) → IsIn q h.rings → test q.id ≡ false) → some_ring h test ≡ false
unfolding some_ring
none_shows h test none =
    false_from_ne_true (list_any (λ (q : Ring). test q.id) h.rings) (λ some. let q = some_of (λ (q : Ring). test q.id) h.rings some in false≢true (sym (none q.0 q.1) ∙ q.2))

waits_off : (w : World) (r : ℕ) → w.is_active r ≡ false → waits w r ≡ false
unfolding waits
waits_off w r off = and_left (w.is_active r) _ off

module _ (l : Left) (still : ℕ → Bool) (g d : Header) (lists : Lists l g d) (w : World) (idle : IsIdle l w) (k : Known) (lingers : (r : ℕ) → still r ≡ true → Lingers l d k w r) where
  abbrev of_model : World
  of_model = lingering still (aside l w)

  -- what no ring that lives shows no ring shows, where no ring that went does
  no_ring_shows : (test : Shape → List RingEvent → Bool) → some_ring g (λ r. test (shape_of g r) (w.events r)) ≡ false →
      ((r : ℕ) → l.gone r ≡ true → test (shape_of d r) (l.events r) ≡ false) → some_ring d (λ r. test (shape_of d r) (of_model.events r)) ≡ false
  unfolding some_ring
  no_ring_shows test none rest =
      none_shows d (λ r. test (shape_of d r) (of_model.events r)) (λ q at. elim (lists.each q at) [
        | inl lives ↦
            (λ j. test (shape_same l g d lists q.id q lives j) (laid_here l.gone l.events w.events q.id (lists.found q.id q lives).1 j))
            ∙ fails_there (λ p. test (shape_of g p.id) (w.events p.id)) g.rings q none (found_in (λ p. p.id == q.id) g.rings q lives).0
        | inr went ↦ ap (test (shape_of d q.id)) (cond-true (l.gone q.id) (l.events q.id) (w.events q.id) went) ∙ rest q.id went
      ])

  -- one that lingers ended its last descriptor
  went_waits : (r : ℕ) → l.gone r ≡ true → (waits of_model r && is_inside_descriptor (of_model.events r)) ≡ false
  unfolding waits
  went_waits r went =
      let events = cond-true (l.gone r) (l.events r) (w.events r) went in
      elim (cases_Bool (still r)) [
        | inl is_still ↦ and_right (waits of_model r) (is_inside_descriptor (of_model.events r)) (ap is_inside_descriptor events ∙ (lingers r is_still).ended)
        | inr off ↦ and_left (waits of_model r) (is_inside_descriptor (of_model.events r)) (and_left (w.is_active r || still r) _ (or_from (w.is_active r) (still r) (idle r went) off))
      ]

  lives_waits : (r : ℕ) → l.gone r ≡ false → (waits of_model r && is_inside_descriptor (of_model.events r)) ≡ (waits w r && is_inside_descriptor (w.events r))
  unfolding waits
  lives_waits r there =
      let off : still r ≡ false = false_from_ne_true (still r) (λ is_still. false≢true (sym there ∙ (lingers r is_still).gone)) in
      λ j. ((or_off (w.is_active r) (still r) off j) && not (cycle (block_at w.memory (w.pointer_of r)) == w.cycle_state r)) && is_inside_descriptor (laid_here l.gone l.events w.events r there j)

  no_ring_waits : some_ring g (λ r. waits w r && is_inside_descriptor (w.events r)) ≡ false → some_ring d (λ r. waits of_model r && is_inside_descriptor (of_model.events r)) ≡ false
  unfolding some_ring
  no_ring_waits none =
      none_shows d (λ r. waits of_model r && is_inside_descriptor (of_model.events r)) (λ q at. elim (lists.each q at) [
        | inl lives ↦
            lives_waits q.id (lists.found q.id q lives).1
            ∙ fails_there (λ p. waits w p.id && is_inside_descriptor (w.events p.id)) g.rings q none (found_in (λ p. p.id == q.id) g.rings q lives).0
        | inr went ↦ went_waits q.id went
      ])

  no_context : has_changed_context g w w.under_way ≡ false → has_changed_context d of_model w.under_way ≡ false
  unfolding has_changed_context is_context_changed is_changed_since
  no_context none = subst (λ n. has_changed_context (record d { context_size = n }) w w.under_way ≡ false) (sym lists.size) none

  -- an event ring that lives is that of the model; without one nothing was posted
  no_post : ((event_ring g ≡ None) → w.posted ≡ 0) → (w.posted_nowhere || (nat_lt 0 (event_size g) && nat_le (event_size g) (w.posted - w.reads))) ≡ false →
      (w.posted_nowhere || (nat_lt 0 (event_size d) && nat_le (event_size d) (w.posted - w.reads))) ≡ false
  unfolding event_size
  no_post unposted none =
      elim (cases_option (event_ring g)) [
        | inr some ↦ ap (λ (shape : Shape). w.posted_nowhere || (nat_lt 0 (place_count shape) && nat_le (place_count shape) (w.posted - w.reads))) (events_are l g d lists some.0 some.1) ∙ none
        | inl off ↦ or_from w.posted_nowhere _ (or_parts w.posted_nowhere _ none).0 (none_over (place_count (event_shape d)) w.posted w.reads (unposted off))
      ]

  pub safe_aside : ((event_ring g ≡ None) → w.posted ≡ 0) → IsSafe g w → IsSafe d of_model
  unfolding harm_of harms
  safe_aside unposted safe =
      let off = all_off _ _ _ _ _ _ safe in
      safe_from d of_model (no_ring_shows is_out_of_order off.order (λ r went. (lists.rests r went).0)) (no_ring_shows has_other_words off.words (λ r went. (lists.rests r went).1)) (no_ring_waits off.waiting) off.looks
      (no_post unposted off.posts) (no_context off.contexts)

-- ---- whole runs

module _ (h : Header) (is : MayBegin h) where
  from_both : (o : Option LiveScene) (u : Option Scene) (f : LiveScene → Option LiveScene) (f' : Scene → Option Scene) → AreAlike h is o u →
      ((x : LiveScene) (y : Scene) → Alike h is x y → AreAlike h is (f x) (f' y)) → AreAlike h is (option_and_then f o) (option_and_then f' u)
  from_both None None f f' alike each = tt
  from_both None (Some y) f f' alike each = absurd alike
  from_both (Some x) None f f' alike each = absurd alike
  from_both (Some x) (Some y) f f' alike each = each x y alike

  -- before the first step
  first : (rows : List Row) → All IsRow rows → AreKept h (reverse rows) → CameTo h is [] (live_with h rows opening)
  first rows are kept = search (rules, reverse, append-nil, opens)

  -- beside rows that break no rule the rings that live see the run of the model
  pub reached_alike : (rows : List Row) → All IsRow rows → AreKept h (reverse rows) → (made : List Step) → All IsStep made → AreAlike h is (live_reached h rows made) (scene_reached h rows made)
  reached_alike rows are kept [] all = record {
    past = [];
    came = first rows are kept;
    left = none_gone;
    declared = h;
    still = λ r. false;
    same = λ j. record { header = h; live = h; rows = rows; world = sym (none_lingers (λ r. false) opening (λ r. refl)) j };
    lists = all_live h is.0;
    idle = λ r went. absurd (false≢true went);
    lingers = λ r is_still. absurd (false≢true is_still);
  }
  reached_alike rows are kept (s ∷ older) all =
      from_both (live_reached h rows older) (scene_reached h rows older) (λ x. live_step x s) (λ y. step_made y s) (reached_alike rows are kept older (All-tail IsStep s older all))
      (λ x y alike. step_alike h is x y s (All-head IsStep s older all) alike)

  -- without an event ring nothing was posted
  unposted : (past : List Row) (x : LiveScene) → CameTo h is past x → event_ring (header_now h past) ≡ None → x.world.posted ≡ 0
  unfolding event_size event_shape
  unposted past x c none =
      none_posted x.world.posted (event_ring (header_now h past)) none
      (elim c.holds [ inl run ↦ run.agrees.events.ring | inr over ↦ over.ring ])

  unposted_there : (past : List Row) (x : LiveScene) → CameTo h is past x → event_ring x.header ≡ None → x.world.posted ≡ 0
  unposted_there past x c none = unposted past x c (ap event_ring (sym c.header) ∙ none)

  seen_safe : (rows : List Row) → (o : Option LiveScene) (u : Option Scene) → AreAlike h is o u → (y : Scene) → u ≡ Some y → IsSafe y.header y.world
  seen_safe rows None None alike y at = absurd (none-some y at)
  seen_safe rows None (Some z) alike y at = absurd alike
  seen_safe rows (Some x) None alike y at = absurd (none-some y at)
  seen_safe rows (Some x) (Some z) alike y at =
      subst (λ (s : Scene). IsSafe s.header s.world) (sym alike.same ∙ same_Some z y at)
      (safe_aside alike.left alike.still x.header alike.declared alike.lists x.world alike.idle (known_now h alike.past) alike.lingers (unposted_there alike.past x alike.came) (safe_there h is alike.past x alike.came))

  pub rings_safe : (rows : List Row) → All IsRow rows → AreKept h (reverse rows) → (made : List Step) (y : Scene) → All IsStep made → scene_reached h rows made ≡ Some y → IsSafe y.header y.world
  rings_safe rows are kept made y all at = seen_safe rows (live_reached h rows made) (scene_reached h rows made) (reached_alike rows are kept made all) y at

pub headline : (h : Header) → Headline h
headline h rows is unmoved are kept made y all at = rings_safe h (is, unmoved) rows are kept made y all at
