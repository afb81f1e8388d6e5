-- The controller finishes the command under way with another code than success: the run goes on
use Rattle.safety.proofs.MiddleLaws.{rules, [], ◌≡◌, ◌+◌, ◌<◌, ◌==◌, ◌∷◌, ◌++◌, ◌∙◌, ℕ, Bool, true, false, not, List, Option, Some, None, is_some, arith, refl, sym, ap, subst, lt-ltb, eq-eqb, false≢true, and_from, and_left, or_from, or_left, or_right, cond-true, cond-false, not_from_true, not_from_false, Block, BlockKind, IsBlock, code, kind, pointer, slot, is_transfer_event, is_command_completion, address_of, ceiling, cycle_of_bit, Command, command_of, may_answer_slot, can_succeed, Header, Config, IsHeader, shape_of, command_id, register_or_zero, World, posted, counted, Known, event_read, command_at, next_command, is_in_profile, is_impossible_by_kind, is_impossible_completion, may_be_taken, can_finish, was_stop_seen, DriverKeeps, CommandMatches, UnderWayMatches, Agrees, Runs, all_read, stored, stored_block, ring_shape, command_of-with_cycle, ceiling_given, AtFloor, at_floor, command_is_ring, command_at_is, agrees_counted, with_reads, PostKeeps, post_keeps, learned_read, event_clean, runs_more, ReportKeeps, IsFinish, finish_is, failure_is, completion_kind, let_go, seen_after, next_known, failed_read, none_waits, none_after, stands_next, events_next, matches_next, under_way_named, is_named}
use Rattle.world_state.specs.Finishes as finishes

pub posted_under_way : (h : Header) (w : World) (b : Block) → (posted h w b).under_way ≡ w.under_way
unfolding posted stored_block stored
posted_under_way h w b = refl

some_command : (o : Option Command) → is_some o ≡ true → (c : Command) × (o ≡ Some c)
some_command None h = absurd (false≢true h)
some_command (Some c) h = (c, refl)

pub taken_now : (h : Header) (k : Known) → next_command h k < ceiling (shape_of h (command_id h)) (k.ring (command_id h)) → may_be_taken h k ≡ true
unfolding may_be_taken
taken_now h k below = lt-ltb (next_command h k) (ceiling (shape_of h (command_id h)) (k.ring (command_id h))) below

can_fail : (k : Known) (b : Block) (c : Command) → may_answer_slot (Some c) (slot b) ≡ true → (code b == 1) ≡ false → was_stop_seen k c ≡ false → can_finish k b (Some c) ≡ true
unfolding can_finish
can_fail k b c answers fails fresh = and_from _ _ answers (cond-false (code b == 1) _ _ fails ∙ not_from_false (was_stop_seen k c) fresh)

pub can_end : (k : Known) (b : Block) (e : Command) → may_answer_slot (Some e) (slot b) ≡ true → (code b == 1) ≡ true →
    can_succeed k.slot_state k.endpoint_state (register_or_zero k.register Config) (slot b) e ≡ true → can_finish k b (Some e) ≡ true
unfolding can_finish
can_end k b e answers one can = and_from _ _ answers (cond-true (code b == 1) _ _ one ∙ can)

pub completion_possible : (h : Header) (k : Known) (b : Block) → is_command_completion (kind b) ≡ true → may_be_taken h k ≡ true → pointer b ≡ address_of (shape_of h (command_id h)) (next_command h k) →
    (code b == 0) ≡ false → can_finish k b (command_at h k (next_command h k)) ≡ true → is_impossible_by_kind h k (kind b) b ≡ false
unfolding is_impossible_by_kind is_impossible_completion
completion_possible h k b completion taken at some_code may = grind (arith, completion_kind, or_from, not_from_true, eq-eqb)

pub no_transfer : (t : BlockKind) → is_command_completion t ≡ true → is_transfer_event t ≡ false
no_transfer t h = ap is_transfer_event (completion_kind t h)

module _ (h : Header) (is : IsHeader h) (k : Known) (unread : List Block) (w v : World) (b : Block) (block : IsBlock b) (running : w.stopped ≡ false) (d : DriverKeeps h k) (g : Agrees h k unread w)
    (f : IsFinish h w v b) where
  p : PostKeeps h k unread w b
  p = post_keeps h is k unread w b block d g f.can

  pub on : is_named k ≡ true
  on = under_way_named h k w f.taken g.matches f.under_way

  c : CommandMatches h k w
  c = g.matches.command on

  under : UnderWayMatches h k c.spot (Some f.taken)
  under = subst (λ o. UnderWayMatches h k c.spot o) f.under_way c.under_way

  below : next_command h k < ceiling (shape_of h (command_id h)) (k.ring (command_id h))
  below = omega (arith, under.0, c.ring.below)

  pub floor : AtFloor h k
  floor =
      let ring = command_is_ring h k d on in
      let high = ceiling_given (shape_of h (command_id h)) (ring_shape h is (command_id h) ring).is k.memory (k.ring (command_id h)) (d.rings (command_id h) ring) in
      at_floor h is k d ring (omega (arith, below))

  pub of_block : command_of f.taken.block ≡ command_of floor.block
  of_block = ap (λ x. command_of x) (under.1.words floor.block floor.queued) ∙ command_of-with_cycle floor.block _ (cycle_of_bit (shape_of h (command_id h)) (next_command h k))

  pub here_is : (e : Command) → command_of floor.block ≡ Some e → command_at h k (next_command h k) ≡ Some e
  here_is e is_e = command_at_is h k (next_command h k) floor.block floor.queued ∙ is_e

  pub taken_is : (e : Command) → command_of floor.block ≡ Some e → command_of f.taken.block ≡ Some e
  taken_is e is_e = of_block ∙ is_e

  pub stopped_is : (e : Command) → command_of floor.block ≡ Some e → f.taken.has_stopped ≡ was_stop_seen k e
  stopped_is e is_e = under.1.stopped e (here_is e is_e)

  pub answers_is : (e : Command) → command_of floor.block ≡ Some e → may_answer_slot (Some e) (slot b) ≡ true
  answers_is e is_e = ap (λ o. may_answer_slot o (slot b)) (sym (of_block ∙ is_e)) ∙ f.slot_named

  pub a_command : (e : Command) × (command_of floor.block ≡ Some e)
  a_command = some_command (command_of floor.block) (d.command_ring.commands (next_command h k) floor.block floor.queued)

  -- a completion that changes nothing but the command ring's floor
  pub idle_at : (e : Command) → command_of floor.block ≡ Some e → was_stop_seen k e ≡ false → can_finish k b (Some e) ≡ true →
      with_reads (event_read h k (kind b) b) (k.reads + 1) ≡ next_known h k (seen_after k e) (k.reads + 1) → let_go (posted h w b) ≡ v → ReportKeeps h k unread w v b
  idle_at e is_e fresh may read ends =
      let here = here_is e is_e in
      let seen : ℕ → ℕ → Bool = seen_after k e in
      let n : ℕ = k.reads + 1 in
      let m : Known = next_known h k seen n in
      let u : World = posted h w b in
      let now = p.matches.command on in
      let under_now : UnderWayMatches h k now.spot (Some f.taken) = subst (λ o. UnderWayMatches h k now.spot o) (posted_under_way h w b ∙ f.under_way) now.under_way in
      let after_post : Agrees h m (unread ++ b ∷ []) (counted h (let_go u)) =
      agrees_counted h m (unread ++ b ∷ []) (let_go u) (stands_next h is k d on seen n u p.stands) (events_next h is k d on seen n u (unread ++ b ∷ []) p.events)
      (matches_next h is k d on seen n u p.matches now.spot now.ring under_now.0 (none_after k e (none_waits h k d e here fresh))) p.posted_is p.late in
      record {
        clean = event_clean h k w b g.stands g.read running p.can p.room
            (or_left _ _ (or_right _ _ f.completion))
            (completion_possible h k b f.completion (taken_now h k below) (f.named ∙ under.1.address) f.some_code (ap (λ o. can_finish k b o) here ∙ may))
            (and_left (is_transfer_event (kind b)) (not (is_in_profile h k b)) (no_transfer (kind b) f.completion));
        agrees = subst (λ x. Agrees h x (unread ++ b ∷ []) (counted h v)) (sym (learned_read h k b ∙ read)) (subst (λ y. Agrees h m (unread ++ b ∷ []) (counted h y)) ends after_post);
      }

  -- another code than success
  fails_at : (code b == 1) ≡ false → (e : Command) → command_of floor.block ≡ Some e → ReportKeeps h k unread w v b
  fails_at fails e is_e = search (rules, idle_at, can_fail, answers_is, failed_read, here_is, failure_is h w v b f.taken fails f.ends, sym (stopped_is e is_e) ∙ (failure_is h w v b f.taken fails f.ends).0)

  failure_keeps : (code b == 1) ≡ false → ReportKeeps h k unread w v b
  failure_keeps fails = fails_at fails a_command.0 a_command.1

-- the run goes on behind the completion of a command that fails
pub finish_failure_runs : (h : Header) → IsHeader h → (now : Known) (w v : World) (b : Block) → IsBlock b → w.stopped ≡ false → (run : Runs h now w) →
    DriverKeeps h (all_read h now run.unread) → (code b == 1) ≡ false → finishes.finished h h w b ≡ Some v → Runs h now (counted h v)
finish_failure_runs h is now w v b block running run d fails at = runs_more h now w v b block run (failure_keeps h is (all_read h now run.unread) run.unread w v b block running d run.agrees (finish_is h w v b at) fails)
