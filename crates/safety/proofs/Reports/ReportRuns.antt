-- Whatever the controller reports of a take, the run goes on
use Rattle.safety.proofs.MiddleLaws.{floor_unreported, event_read, not_from_true, or_from, or_left, or_right, and_right, transfer_read, event_at, transferred_at, transfer_kind, can_report_at, is_impossible_transfer, is_off, on_is, is_impossible_by_kind, IsOfService, told_same, is_code_of_profile, is_of_service, ◌⊎◌, code_told, [], ◌≡◌, ◌∙◌, false, List, Some, sym, inl, inr, cases_Bool, cond-false, none-some, Block, IsBlock, code, endpoint, pointer, slot, is_success, is_halting, is_trb_error, is_stopping, Header, IsHeader, World, posted, report_code, reported, counted, DriverKeeps, Agrees, Runs, all_read, Known, ◌≢◌, ◌+◌, ◌-◌, ◌<◌, ◌==◌, ◌&&◌, ◌||◌, ◌∷◌, ◌++◌, ℕ, Bool, true, not, length, Option, arith, refl, ap, subst, eq-eqb, lt-ltb, false≢true, and_from, cond-true, put_pair, kind, is_transfer_event, is_command_completion, is_other_event, Spot, Data, Shape, RingView, Reaches, Holds, floor_number, ceiling, given_count, is_stop_spot, named, stopped_number, cycle_of_bit, rank_least, command_of, is_stop_of, is_running, shape_of, command_id, UnderWay, is_stop_under_way, with_stopped, report_stop, command_at, next_command, on_ring, is_in_profile, RingState, state_of, BoundRing, RingMatches, Unreported, UnderWayMatches, CommandMatches, ◌≤◌, nat_lt, nat_le, drop, eqb-true, le-leb, rules, and_parts, not-false, same_Some, Link, number, is_way_given, Command, unreported, names_last, with_reported, stopped_with, was_stop_seen, Stands, EventsStand, TakenCommand, Matches, min, rank, IsShape, declared, RingKeeps, rank_most, named_spot-near, given_count_declared, given_count_near, IsReport, ReportKeeps, report_is, runs_more, success_keeps, where_bound, event_named, spot_named, by_address, stop_by_address, in_profile_is, transfer_driver, transfer_not_command, ring_shape, command_of-with_cycle, ceiling_given, at_floor, command_is_ring, command_at_is, agrees_counted, with_reads, PostKeeps, post_keeps, learned_read, event_clean, stands_only, events_only, next_same, stands_learns, matches_learns, LearnsRing, open_takes, low, count, last_take, cond_is, put_at, put_off, held_from, is_named, under_way_named, is_some, Crcr, Register}
use Rattle.safety.proofs.Posts.Other.{silent_agrees}
use Rattle.safety.proofs.Reports.ReportError.{halted_keeps, erred_keeps, ended_ring, only_ended, works}
use Rattle.safety.proofs.Reports.StopRead.{StopCode, stop_transfer_code, stop_read, stop_possible}
use Rattle.safety.proofs.NoHarm.NoWait.{ceiling_held}
use Rattle.safety.proofs.StepsLeave.Learns.{command_same}
use Rattle.safety.proofs.Finishes.FinishFails.{taken_now, posted_under_way}
use Rattle.world_state.specs.World as of_world

-- A ring whose endpoint was stopped at a spot: what the event names, and the ring behind it

-- stopped with the floor at a spot, and held at a number
abbrev pub stopped_view : RingView → Spot → ℕ → RingView
stopped_view v f n = record v { floor = f; held = Some n }

stopped_data : (shape : Shape) (v : RingView) (p : ℕ) → stopped_number shape v (Data p) ≡ min (p + 1) (given_count shape v)
unfolding stopped_number
stopped_data shape v p = refl

stopped_link : (shape : Shape) (v : RingView) (p : ℕ) → stopped_number shape v (Link p) ≡ p
unfolding stopped_number
stopped_link shape v p = refl

module _ (shape : Shape) (is : IsShape shape) (memory : ℕ → ℕ) (v : RingView) (k : RingKeeps shape memory v) (s : RingState) (t : Spot) (m : RingMatches shape v s t) (u : Unreported shape v s t) where
  -- the pointer's address names its spot
  pub pointer_named : named shape v s.pointer ≡ Some t
  unfolding named
  pointer_named =
      let high = ceiling_given shape is memory v k in
      let within = given_count_declared shape is memory v k in
      let near = given_count_near shape is memory v k in
      let top = rank_most t in
      let bottom = rank_least v.floor in
      ap (λ a. named shape v a) m.pointer ∙ named_spot-near shape is v.floor (declared v) t k.is_spot m.is_spot m.reached (omega (arith, m.below)) (omega (arith, m.below))

  -- held where it stands or one behind, the number of the pointer's spot is below what is allowed
  pub stopped_high : (q : Spot) (c : ℕ) → c ≡ stopped_number shape v q → (number t ≡ number q) ⊎ ((p : ℕ) × (q ≡ Data p) × (number t ≡ p + 1)) → number t ≤ c
  stopped_high (Data p) c at (inl same) = let high = ceiling_given shape is memory v k in omega (arith, stopped_data shape v p, m.below)
  stopped_high (Link p) c at (inl same) = omega (arith, stopped_link shape v p)
  stopped_high (Data p) c at (inr last) = let high = ceiling_given shape is memory v k in let one : p ≡ last.0 = cc in omega (arith, stopped_data shape v p, m.below, last.2)
  stopped_high (Link p) c at (inr last) = absurd (cc)

  pub stopped_matches : (f : Spot) (c n : ℕ) → rank f ≤ rank t → number t ≤ n → RingMatches shape (stopped_view v f n) (record s { active = false; reported = c }) t
  stopped_matches f c n reached below = held_from shape v s t f (Some n) false c m reached (omega (arith, ceiling_held shape (stopped_view v f n) n refl)) (λ on. absurd (false≢true on))

-- What the report of a stop is, and what is known of the ring and of its Stop Endpoint behind it

-- ---- what such a report is

-- the world behind it, with this many takes reported
abbrev pub stopped_world : Header → World → ℕ → ℕ → World
stopped_world h u r c = record (ended_ring u r c) { under_way = with_stopped h u.under_way }

pub stopped_world_is : (h : Header) (u : World) (r c : ℕ) → stopped_with h u r c ≡ stopped_world h u r c
unfolding stopped_with with_reported
stopped_world_is h u r c = refl

pub record IsStop (h : Header) (u v : World) (s i r : ℕ) (b : Block) : Type 0 where
  pub under : is_stop_under_way h s i u.under_way ≡ true
  pub runs : is_running (u.endpoint_state s i) ≡ true
  pub active : u.is_active r ≡ true
  -- it names the last take, which stays unreported, or the pointer
  pub names : ((names_last b (open_takes (state_of u r)) ≡ true) × (stopped_with h u r (u.reported r + length (open_takes (state_of u r)) - 1) ≡ v))
      ⊎ ((pointer b ≡ u.pointer_of r) × (stopped_with h u r (u.reported r + length (open_takes (state_of u r))) ≡ v))

pub stop_is : (h : Header) (u v : World) (s i r : ℕ) (b : Block) → report_stop h u s i r b ≡ Some v → IsStop h u v s i r b
unfolding report_stop unreported
stop_is h u v s i r b at = search (rules, cond_is, none-some, not-false, and_parts, drop, same_Some, eqb-true)

-- ---- what is known of the ring once the event is read

pub learns_stopped : (h : Header) (k : Known) (r n c : ℕ) (t : Spot) → LearnsRing k (with_reads (on_ring h (on_ring h k r (Holds n)) r (Reaches t)) c) r (stopped_view (k.ring r) t n)
unfolding on_ring
learns_stopped h k r n c t = search (rules, with_reads, stopped_view, put_at, put_off)

-- the spot named is one where a controller may have stopped
stop_data : (shape : Shape) (v : RingView) (p : ℕ) → is_stop_spot shape v (Data p) ≡ (nat_lt p (given_count shape v) || (p == given_count shape v && is_way_given shape v p))
unfolding is_stop_spot
stop_data shape v p = refl

stop_link : (shape : Shape) (v : RingView) (p : ℕ) → is_stop_spot shape v (Link p) ≡ nat_le p (given_count shape v)
unfolding is_stop_spot
stop_link shape v p = refl

pub may_stop_at : (shape : Shape) (v : RingView) (t : Spot) → number t ≤ given_count shape v → ((q : ℕ) → t ≡ Data q → is_way_given shape v q ≡ true) → is_stop_spot shape v t ≡ true
may_stop_at shape v o below way = grind (arith, stop_link, le-leb, stop_data, or_left, lt-ltb, or_right, and_from, eq-eqb)

-- ---- the Stop Endpoint under way

stop_seen_is : (k : Known) (s i : ℕ) (c : Command) (seen : ℕ → ℕ → Bool) → seen s i ≡ true → is_stop_of s i (Some c) ≡ true →
    was_stop_seen (let m : Known = record k { stop_seen = seen } in m) c ≡ true
unfolding was_stop_seen
stop_seen_is k s i o seen may at = grind (arith, and_parts, eqb-true, false≢true)

module _ (h : Header) (k : Known) (seen : ℕ → ℕ → Bool) (s i : ℕ) (may : seen s i ≡ true) where
  abbrev pub with_seen : Known
  with_seen = record k { stop_seen = seen }

  pub taken_stopped : (x : UnderWay) → TakenCommand h k x → ((c : Command) → command_at h k (next_command h k) ≡ Some c → is_stop_of s i (Some c) ≡ true) →
      TakenCommand h with_seen (let y : UnderWay = record x { has_stopped = true } in y)
  unfolding next_command command_at
  taken_stopped x t stop = record { address = t.address; words = t.words; stopped = λ c at. sym (stop_seen_is k s i c seen may (stop c at)) }

  pub next_seen : next_command h with_seen ≡ next_command h k
  unfolding next_command
  next_seen = refl

  pub stands_seen : (w : World) (o : Option UnderWay) → Stands h k w → Stands h with_seen (let v : World = record w { under_way = o } in v)
  stands_seen w o s = record { started = s.started; stopped = s.stopped; halting = s.halting; halted = s.halted; told = s.told; registers = s.registers; queues = s.queues; lengths = s.lengths; dequeue = s.dequeue; quiet = s.quiet }

  pub events_seen : (w : World) (o : Option UnderWay) (unread : List Block) → EventsStand h w unread → EventsStand h (let v : World = record w { under_way = o } in v) unread
  unfolding of_world.event_at
  events_seen w o unread v = record { order = v.order; count = v.count; places = v.places; started = v.started; ring = v.ring }

  pub matches_seen : (w : World) (o : Option UnderWay) → Matches h k w → ((t : Spot) → UnderWayMatches h k t w.under_way → UnderWayMatches h with_seen t o) → is_named k ≡ true →
      Matches h with_seen (let v : World = record w { under_way = o } in v)
  unfolding command_at
  matches_seen w o m under on = search (rules, with_seen, false≢true)

-- The controller reports that an endpoint has stopped: the run goes on
pub code_stops : (h : Header) (u v : World) (c s i r : ℕ) (b : Block) → StopCode c → report_code h u c s i r b ≡ Some v → report_stop h u s i r b ≡ Some v
unfolding report_code
code_stops h u v c s i r b stop at = search rules

under_way_is : (h : Header) (s i : ℕ) (o : Option UnderWay) → is_stop_under_way h s i o ≡ true → (x : UnderWay) × (o ≡ Some x) × (is_stop_of s i (command_of x.block) ≡ true)
unfolding is_stop_under_way
under_way_is h s i o at = grind (arith, false≢true)

with_stopped_some : (h : Header) (x : UnderWay) → with_stopped h (Some x) ≡ Some (let y : UnderWay = record x { has_stopped = true } in y)
unfolding with_stopped
with_stopped_some h x = refl

below_stop : (shape : Shape) (v : RingView) (p : ℕ) → p < given_count shape v → is_stop_spot shape v (Data p) ≡ true
unfolding is_stop_spot
below_stop shape v p less = or_left _ _ (lt-ltb p (given_count shape v) less)

put_pair_here : (f : ℕ → ℕ → Bool) (s i : ℕ) → put_pair f s i true s i ≡ true
put_pair_here f s i = cond-true (s == s && i == i) true (f s i) (and_from (s == s) (i == i) (eq-eqb s s refl) (eq-eqb i i refl))

-- the spot that a stop names, the number at which the ring is then held, and the ring behind it
pub record StopSpot (h : Header) (k : Known) (u : World) (v : World) (r : ℕ) (b : Block) (t : Spot) : Type 0 where
  pub spot : Spot
  pub count : ℕ
  pub named_is : spot_named h k b r ≡ Some spot
  pub may : is_stop_spot (shape_of h r) (k.ring r) spot ≡ true
  pub matches : RingMatches (shape_of h r) (stopped_view (k.ring r) spot (stopped_number (shape_of h r) (k.ring r) spot)) (record (state_of u r) { active = false; reported = count }) t
  pub takes : Unreported (shape_of h r) (stopped_view (k.ring r) spot (stopped_number (shape_of h r) (k.ring r) spot)) (record (state_of u r) { active = false; reported = count }) t
  pub is : stopped_world h u r count ≡ v

module _ (h : Header) (is : IsHeader h) (k : Known) (unread : List Block) (w v : World) (b : Block) (block : IsBlock b) (running : w.stopped ≡ false) (d : DriverKeeps h k) (g : Agrees h k unread w)
    (x : IsReport h k w v b) (s : StopCode (code_told h k b)) (f : IsStop h (posted h w b) v (slot b) (endpoint b) x.ring b) where
  p : PostKeeps h k unread w b
  p = post_keeps h is k unread w b block d g x.can

  had : k.ring_of (slot b) (endpoint b) ≡ Some x.ring
  had = sym (g.matches.ring_of (slot b) (endpoint b)) ∙ x.had

  other : x.ring ≢ command_id h
  other = transfer_not_command h is x.ring (d.states.transfer (slot b) (endpoint b) x.ring had)

  stop_spot : (bound : BoundRing (shape_of h x.ring) k.ring_of (k.ring x.ring) (state_of (posted h w b) x.ring) x.ring) → StopSpot h k (posted h w b) v x.ring b bound.spot
  unfolding spot_named
  stop_spot bound =
      let r : ℕ = x.ring in
      let u : World = posted h w b in
      let driver = transfer_driver h r (d.states.transfer (slot b) (endpoint b) r had) in
      let allowed = (ring_shape h is r driver).is in
      let keeps = d.rings r driver in
      let z : RingState = state_of u r in
      let t : Spot = bound.spot in
      let high = ceiling_given (shape_of h r) allowed k.memory (k.ring r) keeps in
      let before = low (shape_of h r) allowed k.memory (k.ring r) keeps z t bound.matches bound.takes in
      let all = count (shape_of h r) allowed k.memory (k.ring r) keeps z t bound.matches bound.takes in
      elim f.names [
        | inl last ↦
            let l = last_take (shape_of h r) allowed k.memory (k.ring r) keeps z t bound.matches bound.takes b last.0 in
            let e : ℕ = l.position - floor_number (k.ring r) in
            let c : ℕ = u.reported r + e in
            let same : u.reported r + length (open_takes z) - 1 ≡ u.reported r + e = omega (arith, l.from, l.last) in
            let n = stopped_high (shape_of h r) allowed k.memory (k.ring r) keeps z t bound.matches bound.takes (Data l.position) (stopped_number (shape_of h r) (k.ring r) (Data l.position)) refl (inr (l.position, refl, l.last)) in
            let top = rank_least t in
            let at : floor_number (k.ring r) + e ≡ l.position = omega (arith, l.from) in
            record {
              spot = Data l.position;
              count = c;
              named_is = l.named_is;
              may = below_stop (shape_of h r) (k.ring r) l.position (omega (arith, l.last, bound.matches.below));
              matches = stopped_matches (shape_of h r) allowed k.memory (k.ring r) keeps z t bound.matches bound.takes (Data l.position) c _ (omega (arith, l.last)) n;
              takes = floor_unreported (shape_of h r) allowed k.memory (k.ring r) keeps z t bound.matches bound.takes (Data l.position) _ false e at (omega (arith, l.last));
              is = ap (λ y. stopped_world h u r y) (sym same) ∙ sym (stopped_world_is h u r _) ∙ last.1;
            }
        | inr here ↦
            let e : ℕ = length (open_takes z) in
            let n = stopped_high (shape_of h r) allowed k.memory (k.ring r) keeps z t bound.matches bound.takes t (stopped_number (shape_of h r) (k.ring r) t) refl (inl refl) in
            record {
              spot = t;
              count = u.reported r + e;
              named_is = by_address (shape_of h r) (k.ring r) b (stop_by_address h k b x.may_data s.stopping) ∙ ap (λ a. named (shape_of h r) (k.ring r) a) here.0 ∙ pointer_named (shape_of h r) allowed k.memory (k.ring r) keeps z t bound.matches bound.takes;
              may = may_stop_at (shape_of h r) (k.ring r) t (omega (arith, bound.matches.below)) bound.matches.way;
              matches = stopped_matches (shape_of h r) allowed k.memory (k.ring r) keeps z t bound.matches bound.takes t (u.reported r + e) _ (omega arith) n;
              takes = floor_unreported (shape_of h r) allowed k.memory (k.ring r) keeps z t bound.matches bound.takes t _ false e (omega arith) (omega arith);
              is = sym (stopped_world_is h u r _) ∙ here.1;
            }
      ]

  -- the Stop Endpoint under way is the next command
  stop_next : is_named k ≡ true → (c : CommandMatches h k w) (y : UnderWay) → w.under_way ≡ Some y → is_stop_of (slot b) (endpoint b) (command_of y.block) ≡ true →
      (next_command h k < ceiling (shape_of h (command_id h)) (k.ring (command_id h))) × (is_stop_of (slot b) (endpoint b) (command_at h k (next_command h k)) ≡ true)
  stop_next on c y at stop =
      let under : UnderWayMatches h k c.spot (Some y) = subst (λ o. UnderWayMatches h k c.spot o) at c.under_way in
      let ring = command_is_ring h k d on in
      let high = ceiling_given (shape_of h (command_id h)) (ring_shape h is (command_id h) ring).is k.memory (k.ring (command_id h)) (d.rings (command_id h) ring) in
      let below : next_command h k < ceiling (shape_of h (command_id h)) (k.ring (command_id h)) = omega (arith, under.0, c.ring.below) in
      let l = at_floor h is k d ring (omega (arith, below)) in
      let same : command_of y.block ≡ command_at h k (next_command h k) =
      ap (λ e. command_of e) (under.1.words l.block l.queued) ∙ command_of-with_cycle l.block _ (cycle_of_bit (shape_of h (command_id h)) (next_command h k)) ∙ sym (command_at_is h k (next_command h k) l.block l.queued) in
      (below, ap (λ o. is_stop_of (slot b) (endpoint b) o) (sym same) ∙ stop)

  on_bound : BoundRing (shape_of h x.ring) k.ring_of (k.ring x.ring) (state_of (posted h w b) x.ring) x.ring → ReportKeeps h k unread w v b
  on_bound bound =
      let r : ℕ = x.ring in
      let u : World = posted h w b in
      let q = stop_spot bound in
      let n : ℕ = stopped_number (shape_of h r) (k.ring r) q.spot in
      let at = event_named h k b r q.spot (stop_transfer_code (code_told h k b) s) had q.named_is in
      let learns = learns_stopped h k r n (k.reads + 1) q.spot in
      let o = only_ended u r q.count in
      let next : BoundRing (shape_of h r) k.ring_of (stopped_view (k.ring r) q.spot n) (record (state_of u r) { active = false; reported = q.count }) r =
      record { slot = bound.slot; index = bound.index; bound = bound.bound; spot = bound.spot; matches = q.matches; takes = q.takes } in
      let z : World = ended_ring u r q.count in
      let m : Known = with_reads (on_ring h (on_ring h k r (Holds n)) r (Reaches q.spot)) (k.reads + 1) in
      let seen : ℕ → ℕ → Bool = put_pair k.stop_seen (slot b) (endpoint b) true in
      let y = under_way_is h (slot b) (endpoint b) u.under_way f.under in
      let on = under_way_named h k w y.0 g.matches (sym (posted_under_way h w b) ∙ y.1) in
      let stop = stop_next on (g.matches.command on) y.0 (sym (posted_under_way h w b) ∙ y.1) y.2 in
      let same_commands = learns.others (command_id h) (λ e. other (sym e)) in
      let may : seen (slot b) (endpoint b) ≡ true = put_pair_here k.stop_seen (slot b) (endpoint b) in
      let first : command_at h m (next_command h m) ≡ command_at h k (next_command h k) =
      command_same h k m same_commands learns.stop_seen (next_command h m) ∙ ap (λ n. command_at h k n) (next_same h k m same_commands learns.stop_seen) in
      let after_z : Agrees h (with_seen h m seen (slot b) (endpoint b) may) (unread ++ b ∷ []) (counted h (stopped_world h u r q.count)) =
      agrees_counted h (with_seen h m seen (slot b) (endpoint b) may) (unread ++ b ∷ []) (stopped_world h u r q.count)
      (stands_seen h m seen (slot b) (endpoint b) may z (with_stopped h u.under_way) (stands_learns h k m r _ learns z (stands_only h k u z r _ o p.stands)))
      (events_seen h m seen (slot b) (endpoint b) may z (with_stopped h u.under_way) (unread ++ b ∷ []) (events_only h k u z r _ o (unread ++ b ∷ []) p.events))
      (matches_seen h m seen (slot b) (endpoint b) may z (with_stopped h u.under_way) (matches_learns h k m r _ learns u z _ o d p.matches other next refl refl refl) (λ t under.
      let known_under : UnderWayMatches h m t (Some y.0) = subst (λ o. UnderWayMatches h m t o) y.1 under in
      subst (λ o. UnderWayMatches h (with_seen h m seen (slot b) (endpoint b) may) t o) (sym (ap (λ o. with_stopped h o) y.1 ∙ with_stopped_some h y.0)) (
        known_under.0 ∙ ap (λ n. n + 1) (sym (next_seen h m seen (slot b) (endpoint b) may)),
        taken_stopped h m seen (slot b) (endpoint b) may y.0 known_under.1 (λ c is_c. ap (λ o. is_stop_of (slot b) (endpoint b) o) (sym is_c ∙ first) ∙ stop.1),
      )) (ap (λ (f : Register → Option ℕ). is_some (f Crcr)) learns.register ∙ on))
      p.posted_is p.late in
      let open_ring = bound.matches.opened f.active in
      let runs : is_running (k.endpoint_state (slot b) (endpoint b)) ≡ true = ap is_running (sym (p.matches.endpoints (slot b) (endpoint b))) ∙ f.runs in
      record {
        clean = event_clean h k w b g.stands g.read running p.can p.room
            (or_left (is_transfer_event (kind b) || is_command_completion (kind b)) (is_other_event (kind b)) (or_left (is_transfer_event (kind b)) (is_command_completion (kind b)) x.transfer))
            (stop_possible h k b r q.spot x.transfer s at (works h k (slot b) (endpoint b) r runs open_ring) (taken_now h k stop.0) stop.1 q.may (d.states.on (slot b) (endpoint b) r had))
            (and_right (is_transfer_event (kind b)) (not (is_in_profile h k b)) (not_from_true (is_in_profile h k b) (in_profile_is h k b x.may_data (stop_transfer_code (code_told h k b) s))));
        agrees = subst (λ n. Agrees h n (unread ++ b ∷ []) (counted h v)) (sym (learned_read h k b ∙ ap (λ n. with_reads n (k.reads + 1)) (stop_read h k b r q.spot x.transfer s at)))
            (subst (λ e. Agrees h (with_seen h m seen (slot b) (endpoint b) may) (unread ++ b ∷ []) (counted h e)) q.is after_z);
      }

  pub stop_keeps : ReportKeeps h k unread w v b
  stop_keeps = where_bound h is k unread w v b block running d g x on_bound

module _ (h : Header) (is : IsHeader h) (k : Known) (unread : List Block) (w v : World) (b : Block) (block : IsBlock b) (running : w.stopped ≡ false) (d : DriverKeeps h k) (g : Agrees h k unread w) (x : IsReport h k w v b) where
  report_keeps : ReportKeeps h k unread w v b
  unfolding report_code
  report_keeps =
      elim (cases_Bool (is_success (code_told h k b))) [
        | inl success ↦ success_keeps h is k unread w v b block running d g x success
        | inr fails ↦ elim (cases_Bool (is_halting (code_told h k b))) [
          | inl halting ↦ halted_keeps h is k unread w v b block running d g x fails halting
          | inr quiet ↦ elim (cases_Bool (is_trb_error (code_told h k b))) [
            | inl error ↦ erred_keeps h is k unread w v b block running d g x fails quiet error
            | inr right ↦ elim (cases_Bool (is_stopping (code_told h k b))) [
              | inl stopping ↦
                  let s : StopCode (code_told h k b) = record { success = fails; halting = quiet; error = right; stopping = stopping } in
                  stop_keeps h is k unread w v b block running d g x s (stop_is h (posted h w b) v (slot b) (endpoint b) x.ring b (code_stops h (posted h w b) v (code_told h k b) (slot b) (endpoint b) x.ring b s x.by_code))
              | inr going ↦ absurd (none-some v (sym (cond-false _ _ _ fails ∙ cond-false _ _ _ quiet ∙ cond-false _ _ _ right ∙ cond-false _ _ _ going) ∙ x.by_code))
            ]
          ]
        ]
      ]

-- an event that tells of the service of its endpoint is read without effect
module _ (h : Header) (is : IsHeader h) (k : Known) (unread : List Block) (w v : World) (b : Block) (block : IsBlock b) (running : w.stopped ≡ false) (d : DriverKeeps h k) (g : Agrees h k unread w) (x : IsOfService h w v b) where
  service_read : event_read h k (kind b) b ≡ k
  unfolding event_read transfer_read event_at transferred_at
  service_read = ap (λ n. event_read h k n b) (transfer_kind (kind b) x.transfer) ∙ ap (λ o. transferred_at h k b o) (cond-true (is_of_service (code b)) _ _ x.service)

  service_possible : is_impossible_by_kind h k (kind b) b ≡ false
  unfolding is_impossible_by_kind is_impossible_transfer event_at can_report_at
  service_possible = search (rules, is_impossible_by_kind, transfer_kind, kind, and_right, is_in_profile, is_off, slot, endpoint, not, can_report_at, event_at, or_from, on_is, not_from_true, cond-true)

  service_inside : is_in_profile h k b ≡ true
  unfolding is_in_profile is_code_of_profile
  service_inside = and_from _ _ x.may_data (or_right _ _ (and_from _ _ x.has (or_left _ _ x.service)))

  service_keeps : ReportKeeps h k unread w v b
  service_keeps =
      let p = post_keeps h is k unread w b block d g x.can in
      record {
        clean = event_clean h k w b g.stands g.read running p.can p.room
            (or_left (is_transfer_event (kind b) || is_command_completion (kind b)) (is_other_event (kind b)) (or_left (is_transfer_event (kind b)) (is_command_completion (kind b)) x.transfer))
            service_possible (and_right (is_transfer_event (kind b)) (not (is_in_profile h k b)) (not_from_true (is_in_profile h k b) service_inside));
        agrees = silent_agrees h is k unread w v b block d g x.can service_read x.is;
      }

pub report_runs : (h : Header) → IsHeader h → (now : Known) (w v : World) (b : Block) → IsBlock b → w.stopped ≡ false → (run : Runs h now w) →
    DriverKeeps h (all_read h now run.unread) → reported h w b ≡ Some v → Runs h now (counted h v)
report_runs h is now w v b block running run d at =
    let k : Known = all_read h now run.unread in
    elim (report_is h k w v b (told_same h k w b (run.agrees.matches.isochronous (slot b) (endpoint b))) at) [
      | inl report ↦ runs_more h now w v b block run (report_keeps h is k run.unread w v b block running d run.agrees report)
      | inr service ↦ runs_more h now w v b block run (service_keeps h is k run.unread w v b block running d run.agrees service)
    ]
