-- The controller finishes the command under way with success: where its changes keep that states agree, the run goes on
use Rattle.safety.proofs.MiddleLaws.{[], ◌≡◌, ◌+◌, ◌⊎◌, ◌==◌, ◌&&◌, ◌∷◌, ◌++◌, ◌∙◌, ℕ, Bool, true, false, not, List, Option, Some, is_some, unwrap_or, arith, refl, sym, ap, subst, inl, inr, cases_Bool, and_left, or_left, or_right, or_parts, cond-true, not-false, none-some, Block, IsBlock, code, kind, slot, is_transfer_event, is_command_completion, Reaches, floor_number, after, Command, StopEndpoint, EndpointState, command_of, is_stop_of, named_slot, named_endpoint, named_context, can_succeed, slot_success, endpoint_success, slot_meant, endpoint_meant, is_slot_enabled, Header, Read, Config, IsHeader, shape_of, command_id, register_or_zero, World, UnderWay, posted, counted, Known, event_read, learned, command_at, next_command, on_ring, is_in_profile, can_finish, was_stop_seen, DriverKeeps, state_of, UnderWayMatches, Agrees, stored, stored_block, completed, finished, stop_ended, succeeded, ◌≢◌, option_and_then, rules, false≢true, Stands, EventsStand, Matches, next_is, agrees_counted, with_reads, post_keeps, learned_read, event_clean, ReportKeeps, mapped, cond_is, put_at, put_off, IsFinish, completion_kind, let_go, seen_after, next_known, stop_ended_is, reached_is, stopping_of, put_false, none_waits, none_after, stands_next, events_next, matches_next, known_changed, world_changed, LeavesRest, ChangeKeeps, floor_behind, under_way_named, is_named}
use Rattle.std.proofs.Common.{option_map}
use Rattle.safety.proofs.Finishes.FinishFails.{no_transfer, posted_under_way, taken_now, can_end, completion_possible, floor, here_is, taken_is, answers_is}
use Rattle.world_state.specs.Bindings as bindings
use Rattle.world_state.specs.Finishes as finishes
use Rattle.world_state.specs.World as of_world

-- Behind the success of a command: its changes are made, the event is posted, and the command ring's floor moves on

-- k and w are as before the changes, u is w with the event posted
module _ (h : Header) (k m : Known) (w v : World) (c : ChangeKeeps h k m w v) (seen : ℕ → ℕ → Bool) (n : ℕ) where
  abbrev later : Known
  later = next_known h (known_changed k m) seen n

  abbrev before : Known
  before = next_known h k seen n

  command_ring : later.ring (command_id h) ≡ before.ring (command_id h)
  command_ring = search (rules, put_at, command_id, floor_behind, shape_of, next_is, known_changed, floor_number, next_command)

  ring_same : (q : ℕ) → q ≢ command_id h → later.ring q ≡ m.ring q
  ring_same q other = put_off m.ring (command_id h) _ q other

  pub stands_changed : (u : World) → Stands h before (let_go u) → Stands h later (let_go (world_changed u v))
  stands_changed u s = search (rules, before, let_go, later, world_changed, command_ring, put_off, ring_same)

  pub events_changed : (u : World) (unread : List Block) → EventsStand h (let_go u) unread → EventsStand h (let_go (world_changed u v)) unread
  unfolding of_world.event_at
  events_changed u unread e = record { order = e.order; count = e.count; places = e.places; started = e.started; ring = e.ring }

  pub matches_changed : (u : World) → is_named k ≡ true → state_of u (command_id h) ≡ state_of w (command_id h) → Matches h before (let_go u) → Matches h later (let_go (world_changed u v))
  unfolding command_at
  matches_changed u on same y = grind (arith, ring_same, false≢true, next_is, option_and_then)

-- ---- in the world

pub record IsSuccess (h : Header) (w v : World) (b : Block) (e : Command) : Type 0 where
  pub can : can_succeed w.slot_state w.endpoint_state (register_or_zero w.register Config) (slot b) e ≡ true
  pub ends_low : finishes.passes_end h (named_context e) ≡ false
  pub made : World
  pub effect_is : bindings.effect h w (slot b) e ≡ Some made
  pub ends : let_go (posted h made b) ≡ v

success_is : (h : Header) (w v : World) (b : Block) (u : UnderWay) (e : Command) → command_of u.block ≡ Some e → (code b == 1) ≡ true → finishes.ended_with h h w b u ≡ Some v → IsSuccess h w v b e
unfolding finishes.ended_with finishes.ended finishes.succeeded
success_is h w v b u e is one at =
    search (rules, mapped, succeeded, slot, option_map, cond-true, code, cond_is, named_context, not, can_succeed, register_or_zero, none-some, or_parts, not-false)

posted_ring : (h : Header) (w : World) (b : Block) (r : ℕ) → state_of (posted h w b) r ≡ state_of w r
unfolding posted stored_block stored
posted_ring h w b r = refl

-- ---- in what is known

success_read : (h : Header) (k : Known) (w x : World) (b : Block) (e : Command) (n : ℕ) → is_command_completion (kind b) ≡ true → command_at h k (next_command h k) ≡ Some e → (code b == 1) ≡ true →
    LeavesRest h k (succeeded h k (slot b) e) w x →
    with_reads (event_read h k (kind b) b) n ≡ next_known h (known_changed k (succeeded h k (slot b) e)) (seen_after k e) n
unfolding event_read completed finished
success_read h k w x b e n completion at one rest =
    let m : Known = succeeded h k (slot b) e in
    let same : next_command h k ≡ next_command h m = next_is h k ∙ ap (λ r. floor_number r) (sym rest.command_known) ∙ sym (next_is h m) in
    ap (λ t. with_reads (event_read h k t b) n) (completion_kind (kind b) completion)
    ∙ ap (λ o. with_reads (on_ring h (finished h k b o) (command_id h) (Reaches (after (shape_of h (command_id h)) (next_command h k)))) n) at
    ∙ ap (λ y. with_reads (on_ring h (stop_ended h y e) (command_id h) (Reaches (after (shape_of h (command_id h)) (next_command h k)))) n) (cond-true (code b == 1) m k one)
    ∙ ap (λ y. with_reads (on_ring h y (command_id h) (Reaches (after (shape_of h (command_id h)) (next_command h k)))) n) (stop_ended_is h m e)
    ∙ ap (λ p. with_reads (on_ring h (record m { stop_seen = seen_after m e }) (command_id h) (Reaches (after (shape_of h (command_id h)) p))) n) same
    ∙ reached_is h m (seen_after m e) n
    ∙ ap (λ y. next_known h y (seen_after y e) n) rest.known
    ∙ ap (λ seen. next_known h (known_changed k m) seen n) (grind arith)

unseen : (k : Known) (e : Command) → (was_stop_seen k e ≡ false) ⊎ ((t : ℕ) × (j : ℕ) × (e ≡ StopEndpoint t j))
unfolding was_stop_seen
unseen k o = grind arith

none_left_of_stop : (h : Header) (k : Known) (d : DriverKeeps h k) (t j : ℕ) → command_at h k (next_command h k) ≡ Some (StopEndpoint t j) → (s i : ℕ) → seen_after k (StopEndpoint t j) s i ≡ false
none_left_of_stop h k d t j at s i =
    elim (cases_Bool (k.stop_seen s i)) [
      | inl seen ↦ cond-true (s == t && i == j) false (k.stop_seen s i) (ap (λ o. is_stop_of s i o) (sym at) ∙ stopping_of h k s i (d.states.seen_command s i seen))
      | inr not_seen ↦ put_false k.stop_seen t j s i not_seen
    ]

-- behind it no Stopped event waits
none_left : (h : Header) (k : Known) (d : DriverKeeps h k) (e : Command) → command_at h k (next_command h k) ≡ Some e → (s i : ℕ) → seen_after k e s i ≡ false
none_left h k d e at = grind (arith, unseen, none_after, none_waits, seen_after, none_left_of_stop, unseen k e)

-- ---- what it succeeds in is known

pub same_meant : (f g : ℕ → ℕ → EndpointState) (o : Option (ℕ × ℕ)) → ((s i : ℕ) → f s i ≡ g s i) → endpoint_meant f o ≡ endpoint_meant g o
same_meant f g o same = grind arith

same_success : (k : Known) (w : World) (n x y : ℕ) (e : Command) → ((s : ℕ) → w.slot_state s ≡ k.slot_state s) → ((s i : ℕ) → w.endpoint_state s i ≡ k.endpoint_state s i) → x ≡ y →
    can_succeed w.slot_state w.endpoint_state x n e ≡ can_succeed k.slot_state k.endpoint_state y n e
unfolding can_succeed
same_success k w n x y e slots endpoints config = search (rules, is_some, slot_success, endpoint_success, endpoint_meant, named_endpoint, is_slot_enabled, slot_meant, named_slot, same_meant)

-- the changes of the success of e keep that states agree
abbrev pub EffectKeeps : Header → Known → World → ℕ → Command → Type 0
EffectKeeps h k w n e = (x : World) → bindings.effect h w n e ≡ Some x → ChangeKeeps h k (succeeded h k n e) w x

module _ (h : Header) (is : IsHeader h) (k : Known) (unread : List Block) (w v : World) (b : Block) (block : IsBlock b) (running : w.stopped ≡ false) (d : DriverKeeps h k) (g : Agrees h k unread w)
    (f : IsFinish h w v b) (one : (code b == 1) ≡ true) (e : Command) (is_e : command_of (floor h is k unread w v b block running d g f).block ≡ Some e) where
  pub success_keeps : EffectKeeps h k w (slot b) e → ReportKeeps h k unread w v b
  unfolding posted stored_block stored
  success_keeps keeps =
      let p = post_keeps h is k unread w b block d g f.can in
      let on : is_named k ≡ true = under_way_named h k w f.taken g.matches f.under_way in
      let here = here_is h is k unread w v b block running d g f e is_e in
      let s = success_is h w v b f.taken e (taken_is h is k unread w v b block running d g f e is_e) one f.ends in
      let c = keeps s.made s.effect_is in
      let m : Known = succeeded h k (slot b) e in
      let seen : ℕ → ℕ → Bool = seen_after k e in
      let n : ℕ = k.reads + 1 in
      let u : World = posted h w b in
      let now = p.matches.command on in
      let under : UnderWayMatches h k now.spot (Some f.taken) = subst (λ o. UnderWayMatches h k now.spot o) (posted_under_way h w b ∙ f.under_way) now.under_way in
      let next = matches_next h is k d on seen n u p.matches now.spot now.ring under.0 (none_left h k d e here) in
      let l : Known = next_known h (known_changed k m) seen n in
      let y : World = let_go (world_changed u s.made) in
      let after_post : Agrees h l (unread ++ b ∷ []) (counted h y) =
      agrees_counted h l (unread ++ b ∷ []) y
      (stands_changed h k m w s.made c seen n u (stands_next h is k d on seen n u p.stands))
      (events_changed h k m w s.made c seen n u (unread ++ b ∷ []) (events_next h is k d on seen n u (unread ++ b ∷ []) p.events))
      (matches_changed h k m w s.made c seen n u on (posted_ring h w b (command_id h)) next) p.posted_is p.late in
      let learned_is : learned h k (Read b) ≡ l = learned_read h k b ∙ success_read h k w s.made b e n f.completion here one c.rest in
      let ends : y ≡ v = ap let_go (sym (ap (λ z. posted h z b) c.rest.world ∙ refl)) ∙ s.ends in
      let may = sym (same_success k w (slot b) (register_or_zero w.register Config) (register_or_zero k.register Config) e g.matches.slots g.matches.endpoints (ap (λ o. unwrap_or o 0) (g.stands.registers Config (λ e. cc)))) ∙ s.can in
      search (rules, event_clean, or_left, or_right, completion_possible, taken_now, can_finish, can_end, answers_is, and_left, is_transfer_event, kind, is_in_profile, no_transfer, counted, ends)
