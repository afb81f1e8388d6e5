-- Steps by which nothing is taken, and which harms they leave
use Rattle.controller_model.proofs.Words.{common_steps, ◌≡◌, ◌≢◌, ◌+◌, ◌&&◌, ◌∷◌, ◌∙◌, ℕ, suc, List, [], Bool, true, false, Option, Some, None, refl, sym, ap, subst, arith, rules, option_map, unwrap_or, if◌then◌else◌, option_and_then, eqb-true, Block, Header, Step, Look, Report, Finish, Other, Scribble, Halt, NextRow, Row, Command, EndpointState, Change, World, RingEvent, Placed, UnderWay, Register, same_Some, Scene, row_made, row_next, step_made, with_left, with_world, AddsNone, BringsNone, HasRingHarms, TakesNothing, is_coming, may_be_inside, RingHarms, Ring, fun_ext, slice_get, or_from, list_any}
unfoldable use Rattle.world_state.specs.World.{stored, stored_block}
unfoldable use Rattle.world_state.specs.Harms.{is_out_of_order, has_other_words, is_inside_descriptor}
unfoldable use Rattle.world_state.specs.Posts.{posted, reported, reported_on, report_code, report_success, report_error, report_stop, with_reported, stopped_with, other_posted}
unfoldable use Rattle.world_state.specs.Bindings.{is_had_by_another, changed_by, changed_by_all, placed, placed_on, disabled, typed, in_state, inactive, effect}
unfoldable use Rattle.world_state.specs.Finishes.{finished, finished_as, ended, ended_with, succeeded}
unfoldable use Rattle.world_state.specs.Steps.{made, counted, halts, noting_post, scribbled, until_halted, while_running}
unfoldable use Rattle.world_state.specs.Replays.{stepped}
unfoldable use Rattle.world_state.specs.DriverRows.{activated, bell_row, command_placed, declared, endpoint_bell, event_read, register_row, reset, resets, row_done, run_or_stop, runs_again, runs_once, valued, with_command_ring, with_dequeue}
unfoldable use Rattle.world_state.specs.RingRows.{without_descriptor}
unfoldable use Rattle.traces.specs.Header.{shape_of, some_ring}
unfoldable use Rattle.world_state.specs.Harms.{waits}

pub adds_same : (older newer : List RingEvent) → newer ≡ older → AddsNone older newer
adds_same older newer same = search rules

pub events_same : (w v : World) → v.events ≡ w.events → TakesNothing w v
events_same w v same r = adds_same (w.events r) (v.events r) (ap (λ e. e r) same)

pub then_nothing : (u w v : World) → TakesNothing u w → TakesNothing w v → TakesNothing u v
then_nothing u w v first second r = search rules

adds_place : (older : List RingEvent) (a : ℕ) → AddsNone older (Placed a ∷ older)
unfolding is_inside_descriptor is_out_of_order has_other_words
adds_place older a = record { inside = λ is. cc; order = λ shape. refl; words = λ shape. refl }

-- ---- posts

if_some : {X : Type 0} (c : Bool) (o : Option X) (v : X) → (if c then o else None) ≡ Some v → o ≡ Some v
if_some x0 o v e = search (rules, true, false)

mapped_some : {X Y : Type 0} (f : X → Y) (o : Option X) (v : Y) → option_map f o ≡ Some v → (x : X) × (o ≡ Some x) × (f x ≡ v)
mapped_some f x1 v e = search (rules, None, Some)

posted_events : (h : Header) (w : World) (b : Block) → (posted h w b).events ≡ w.events
unfolding posted stored_block stored
posted_events h w b = refl

code_events : (h : Header) (w v : World) (c s i r : ℕ) (b : Block) → report_code h w c s i r b ≡ Some v → v.events ≡ w.events
unfolding report_code report_success report_error report_stop stopped_with with_reported
code_events h w v c s i r b e = grind (arith, common_steps, mapped_some)

reported_events : (h : Header) (w v : World) (b : Block) → reported h w b ≡ Some v → v.events ≡ w.events
unfolding reported reported_on
reported_events h w v b e = search (rules, code_events, posted_events, if_some)

of_some : (w u v : World) → u.events ≡ w.events → Some u ≡ Some v → v.events ≡ w.events
of_some w u v same e = ap (λ (o : Option World). (unwrap_or o w).events) (sym e) ∙ same

other_events : (h : Header) (w v : World) (b : Block) → other_posted h w b ≡ Some v → v.events ≡ w.events
unfolding other_posted
other_events h w v b e = search (rules, posted_events)

scribbled_events : (h : Header) (w v : World) (a x : ℕ) → scribbled h w a x ≡ Some v → v.events ≡ w.events
unfolding scribbled stored
scribbled_events h w v a x e = of_some w (stored w a x) v refl (if_some _ _ v e)

-- ---- the effect of a command

placed_nothing : (w : World) (s i r a : ℕ) (c : Bool) (state : EndpointState) → TakesNothing w (placed w s i r a c state)
unfolding placed
placed_nothing w s i r a c state q = search (rules, eqb-true, adds_place, adds_same)

inactive_events : (w : World) (o : Option ℕ) → (inactive w o).events ≡ w.events
unfolding inactive
inactive_events w x1 = search (rules, None, Some)

if_none : {X : Type 0} (c : Bool) (o : Option X) (v : X) → (if c then None else o) ≡ Some v → o ≡ Some v
if_none x0 o v e = search (rules, true, false)

placed_on_nothing : (w v : World) (s i a : ℕ) (c : Bool) (state : EndpointState) (o : Option ℕ) → placed_on w s i a c state o ≡ Some v → TakesNothing w v
unfolding placed_on
placed_on_nothing w v s i a c state x7 e = search (rules, None, Some, if_none, placed_nothing)

changed_nothing : (h : Header) (c : Command) (w v : World) (change : Change) → changed_by h c w change ≡ Some v → TakesNothing w v
unfolding changed_by disabled typed in_state
changed_nothing h c w v x4 e = search (rules, events_same, of_some, placed_on_nothing, inactive_events)

and_then : {X Y : Type 0} (f : X → Option Y) (o : Option X) (v : Y) → option_and_then f o ≡ Some v → (x : X) × (o ≡ Some x) × (f x ≡ Some v)
and_then f x1 v e = search (rules, None, Some)

changed_all_nothing : (h : Header) (c : Command) (w v : World) (changes : List Change) → changed_by_all h c w changes ≡ Some v → TakesNothing w v
unfolding changed_by_all
changed_all_nothing h c w v [] e = events_same w v (of_some w w v refl e)
changed_all_nothing h c w v (change ∷ rest) e =
    let (u, first, later) = and_then _ _ v e in then_nothing w u v (changed_nothing h c w u change first) (changed_all_nothing h c u v rest later)

-- ---- a finish

succeeded_nothing : (h : Header) (w v : World) (n : ℕ) (o : Option Command) → succeeded h w n o ≡ Some v → TakesNothing w v
unfolding succeeded effect
succeeded_nothing h w v n x4 e = search (rules, None, Some, changed_all_nothing, if_none)

ended_events : (h : Header) (w : World) (b : Block) → (ended h w b).events ≡ w.events
unfolding ended posted stored_block stored
ended_events h w b = refl

ended_with_nothing : (h live : Header) (w v : World) (b : Block) (u : UnderWay) → ended_with h live w b u ≡ Some v → TakesNothing w v
unfolding ended_with
ended_with_nothing h live w v b u e = search (rules, mapped_some, then_nothing, succeeded_nothing, events_same, ended_events, of_some, if_none)

finished_as_nothing : (h live : Header) (w v : World) (b : Block) (o : Option UnderWay) → finished_as h live w b o ≡ Some v → TakesNothing w v
unfolding finished_as
finished_as_nothing h live w v b None e = absurd (cc)
finished_as_nothing h live w v b (Some u) e = ended_with_nothing h live w v b u (if_some _ _ v e)

finished_nothing : (h live : Header) (w v : World) (b : Block) → finished h live w b ≡ Some v → TakesNothing w v
unfolding finished
finished_nothing h live w v b e = finished_as_nothing h live w v b _ (if_some _ _ v e)

-- ---- each step but a look

-- a post is noted that is made while no event ring is there, and no controller makes one that has halted
noted_nothing : (h live : Header) (w v : World) (o : Option World) → ((u : World) → o ≡ Some u → TakesNothing w u) →
    until_halted h w (option_map (noting_post live) o) ≡ Some v → TakesNothing w v
unfolding until_halted while_running noting_post
noted_nothing h live w v o nothing e =
    let (u, is, same) = mapped_some (noting_post live) o v (if_none _ _ v (if_none _ _ v e)) in
    then_nothing w u v (nothing u is) (events_same u v (ap (λ y. y.events) (sym same)))

halted_events : (h : Header) (w v : World) → halts h w ≡ Some v → v.events ≡ w.events
unfolding halts
halted_events h w v e = of_some w (record w { halted = true }) v refl (if_some _ _ v e)

pub made_nothing : (h live : Header) (w v : World) (s : Step) → ((r : ℕ) → s ≢ Look r) → made h live w s ≡ Some v → TakesNothing w v
unfolding made while_running
made_nothing h live w v NextRow apart e = absurd (cc)
made_nothing h live w v (Look r) apart e = absurd (apart r refl)
made_nothing h live w v (Report b) apart e =
    noted_nothing h live w v (reported h w b) (λ u is. events_same w u (reported_events h w u b is)) e
made_nothing h live w v (Finish b) apart e = noted_nothing h live w v (finished h live w b) (λ u is. finished_nothing h live w u b is) e
made_nothing h live w v (Other b) apart e = noted_nothing h live w v (other_posted h w b) (λ u is. events_same w u (other_events h w u b is)) e
made_nothing h live w v (Scribble a x) apart e = events_same w v (scribbled_events h w v a x (if_none _ _ v e))
made_nothing h live w v Halt apart e = events_same w v (halted_events h w v (if_none _ _ v e))

-- ---- rows

started_events : (h : Header) (w : World) (v : ℕ) → (run_or_stop h w v).events ≡ w.events
unfolding run_or_stop runs_again runs_once
started_events h w v = grind (arith, common_steps)

placed_events : (h : Header) (w : World) (v : ℕ) → (with_command_ring h w v).events ≡ w.events
unfolding with_command_ring command_placed
placed_events h w v = grind (arith, common_steps)

dequeue_events : (h : Header) (w : World) (a : ℕ) → (with_dequeue h w a).events ≡ w.events
unfolding with_dequeue
dequeue_events h w a = grind (arith, common_steps)

register_events : (h : Header) (w : World) (r : Register) (v : ℕ) → (register_row h w r v).events ≡ w.events
unfolding register_row valued
register_events h w x2 v = search (rules, started_events, placed_events, dequeue_events)

written_events : (h : Header) (w : World) (r : Register) (v : ℕ) → (if resets w r v then reset w else register_row h w r v).events ≡ w.events
unfolding reset
written_events h w r v = grind (arith, common_steps, register_events)

endpoint_events : (h : Header) (w : World) (s t : ℕ) (o : Option ℕ) → (endpoint_bell h w s t o).events ≡ w.events
unfolding endpoint_bell activated
endpoint_events h w s t x4 = search (rules, None, Some)

bell_events : (h : Header) (w : World) (s t : ℕ) → (bell_row h w s t).events ≡ w.events
unfolding bell_row activated
bell_events h w s t = grind (arith, common_steps, endpoint_events)

read_events : (h : Header) (w v : World) (b : Block) → event_read h w b ≡ Some v → v.events ≡ w.events
unfolding event_read
read_events h w v b e = of_some w (record w { reads = w.reads + 1 }) v refl (if_some _ _ v e)

done_events : (h : Header) (w v : World) (row : Row) → row_done h w row ≡ Some v → v.events ≡ w.events
unfolding row_done declared stored
done_events h w v x3 e = search (rules, of_some, written_events, bell_events, read_events, if_some)

-- ---- scenes

abbrev pub IsQuiet : Scene → Scene → Type 0
IsQuiet x y = (y.header ≡ x.header) × TakesNothing x.world y.world

of_scene : (x z y : Scene) → IsQuiet x z → Some z ≡ Some y → IsQuiet x y
of_scene x z y quiet e = subst (λ (s : Scene). IsQuiet x s) (same_Some z y e) quiet

of_done : (x y : Scene) (row : Row) → option_map (with_world x) (row_done x.header x.world row) ≡ Some y → IsQuiet x y
of_done x y row e = search (rules, mapped_some, of_scene, events_same, done_events, Some)

row_nothing : (x y : Scene) (row : Row) → is_coming row ≡ false → row_made x row ≡ Some y → IsQuiet x y
unfolding without_descriptor
row_nothing x y x2 none e = search (rules, of_scene, events_same, of_done)

counted_nothing : (h : Header) (u v : World) → TakesNothing u v → TakesNothing u (counted h v)
unfolding counted
counted_nothing h u v nothing = nothing

next_nothing : (x y : Scene) (rows : List Row) → BringsNone NextRow rows → row_next x rows ≡ Some y → IsQuiet x y
next_nothing x y [] none e = absurd (cc)
next_nothing x y (row ∷ rest) none e =
    let (z, made_so, is) = mapped_some (with_left rest) (row_made x row) y e in
    let quiet = row_nothing x z row none made_so in
    of_scene x (with_left rest z) y (quiet.0, counted_nothing z.header x.world z.world quiet.1) (ap Some is)

stepped_nothing : (x y : Scene) (s : Step) → ((r : ℕ) → s ≢ Look r) → option_map (λ w. with_world x (counted x.header w)) (made x.header x.live x.world s) ≡ Some y → IsQuiet x y
stepped_nothing x y s apart e =
    let (v, done, is) = mapped_some (λ w. with_world x (counted x.header w)) (made x.header x.live x.world s) y e in
    of_scene x (with_world x (counted x.header v)) y (refl, counted_nothing x.header x.world v (made_nothing x.header x.live x.world v s apart done)) (ap Some is)

pub step_nothing : (x y : Scene) (s : Step) → ((r : ℕ) → s ≢ Look r) → BringsNone s x.rows → step_made x s ≡ Some y → IsQuiet x y
step_nothing x y x2 apart none e = search (rules, next_nothing, stepped_nothing)

-- ---- the harms of the rings

pub none_any : (p : Ring → Bool) (rings : List Ring) → ((i : ℕ) (q : Ring) → slice_get rings i ≡ Some q → p q ≡ false) → list_any p rings ≡ false
none_any p [] none = refl
none_any p (y ∷ ys) none = or_from (p y) (list_any p ys) (none 0 y refl) (none_any p ys (λ i q at. none (suc i) q at))

both_false : (a b : Bool) → (b ≡ true → (a && b) ≡ false) → (a && b) ≡ false
both_false a b none = grind arith

-- there was no harm by waiting, and none of the rings waits that may be within a descriptor
pub harms_kept : (h : Header) (w v : World) (x : RingHarms) → HasRingHarms h w x → TakesNothing w v → x.waits_inside ≡ false →
    ((i : ℕ) (q : Ring) → slice_get h.rings i ≡ Some q → may_be_inside x.inside q.id ≡ true → (waits v q.id && is_inside_descriptor (v.events q.id)) ≡ false) → HasRingHarms h v x
unfolding some_ring
harms_kept h w v x f nothing no_wait idle = record {
  order = f.order ∙ ap (λ (p : ℕ → Bool). list_any (λ (q : Ring). p q.id) h.rings) (fun_ext (λ r. sym ((nothing r).order (shape_of h r))));
  words = f.words ∙ ap (λ (p : ℕ → Bool). list_any (λ (q : Ring). p q.id) h.rings) (fun_ext (λ r. sym ((nothing r).words (shape_of h r))));
  waiting = no_wait ∙ sym (none_any (λ q. waits v q.id && is_inside_descriptor (v.events q.id)) h.rings
      (λ i q at. both_false (waits v q.id) (is_inside_descriptor (v.events q.id)) (λ is. idle i q at (f.inside i q at ((nothing q.id).inside is)))));
  inside = λ i q at is. f.inside i q at ((nothing q.id).inside is);
}
