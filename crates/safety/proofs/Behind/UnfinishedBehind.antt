-- Behind an event the commands that stay unfinished were unfinished before, and the endpoints that they concern have the same rings
use Rattle.safety.proofs.MiddleLaws.{[], ◌≡◌, ◌≢◌, ◌==◌, if◌then◌else◌, ◌∷◌, ◌∙◌, ℕ, not, true, List, Option, None, Some, refl, sym, ap, inl, inr, rules, filter_map, cons_option, false≢true, and_parts, and_from, Block, BlockKind, TransferEvent, CommandCompletion, kind, code, slot, due_positions, due_from, Command, AddressDevice, EndpointState, Off, can_succeed, is_off, Header, Read, Config, IsHeader, command_id, is_ring, register_or_zero, Known, command_at, next_command, unfinished_positions, unfinished, completed, event_read, learned, was_stop_seen, moves_ring, is_being_moved, lenient, IsIn, some_of, any_of, from_filter, IsDriverRing, IsUnfinished, DriverKeeps, is_command_completion, EventFacts, event_facts, command_is_ring, transfer_slots, Concerns, in_filter_map, named_if_taken}
use Rattle.safety.proofs.RingsKeep.KeptRings.{CompletionFacts, completion_facts, next_unfinished}
use Rattle.safety.proofs.CommandsKeep.CommandsFinished.{unfinished_before}
use Rattle.safety.proofs.CommandsKeep.CommandsCompleted.{Changed, changed_by_code, may_answer}
use Rattle.safety.proofs.Behind.LeasesBehind.{Behind, from_range, unfinished_fewer}
use Rattle.safety.proofs.Behind.EventBehind.{event_behind}
use Rattle.safety.proofs.AlikeEvents.HeldFurther.{command_same}

from_filter_map : {X Y : Type 0} (f : X → Option Y) (xs : List X) (y : Y) → IsIn y (filter_map f xs) → (x : X) × IsIn x xs × (f x ≡ Some y)
from_filter_map f [] y at = absurd at
from_filter_map {X} {Y} f (z ∷ xs) y at = by (f z) refl (λ rest. from_filter_map f xs y rest) at
  where
    by : (o : Option Y) → f z ≡ o → (IsIn y (filter_map f xs) → (x : X) × IsIn x xs × (f x ≡ Some y)) → IsIn y (cons_option o (filter_map f xs)) →
        (x : X) × IsIn x (z ∷ xs) × (f x ≡ Some y)
    by None is later at = let found = later at in (found.0, inr found.1, found.2)
    by (Some u) is later at =
        elim at [
          | inl here ↦ (z, inl refl, is ∙ ap (λ v. Some v) (sym here))
          | inr rest ↦ let found = later rest in (found.0, inr found.1, found.2)
        ]

module _ (h : Header) (k : Known) where
  -- what stands in the list of unfinished commands is unfinished
  pub listed_unfinished : (c : Command) → IsIn c (unfinished h k) → (p : ℕ) × IsUnfinished h k p c
  unfolding unfinished unfinished_positions due_positions
  listed_unfinished c at = search (rules, from_filter_map, from_filter, from_range, due_from)

module _ (h : Header) (is : IsHeader h) (k : Known) (d : DriverKeeps h k) where
  -- ---- a completion

  module _ (b : Block) (e : Command) (here : command_at h k (next_command h k) ≡ Some e) (ends : IsUnfinished h k (next_command h k) e) (ring : IsDriverRing h (command_id h)) where
    staying : (if code b == 1 then can_succeed k.slot_state k.endpoint_state (register_or_zero k.register Config) (slot b) e else not (was_stop_seen k e)) ≡ true →
        (p : ℕ) (c : Command) (t i : ℕ) → IsUnfinished h (completed h k b) p c → Concerns k.memory c t i → (completed h k b).ring_of t i ≡ k.ring_of t i
    staying may p c t i u its =
        let was = unfinished_before h is k d b ring p c u in
        let changed : Changed h is k d b e here ends ring = changed_by_code h is k d b e here ends ring may in
        changed.others.ring_of t i (changed.apart p c t i was.0 was.1 its)

  -- ---- any event

  module _ (e : Block) (may : lenient h k (Read e) ≡ []) where
    facts : EventFacts h k e
    facts = event_facts h k e may

    rings_kind : (n : BlockKind) → kind e ≡ n → (p : ℕ) (c : Command) (t i : ℕ) → IsUnfinished h (event_read h k n e) p c → Concerns k.memory c t i →
        (event_read h k n e).ring_of t i ≡ k.ring_of t i
    unfolding event_read
    rings_kind TransferEvent at p c t i u its = ap (λ f. f t i) (transfer_slots h k e).ring_of
    rings_kind CommandCompletion at p c t i u its =
        let finish : CompletionFacts h k e = completion_facts h k e (ap is_command_completion at) facts.possible in
        let answer = may_answer h is k d e (command_at h k (next_command h k)) finish.finishes in
        staying e answer.0 answer.1 (next_unfinished h is k d facts.started finish.below answer.0 answer.1) (command_is_ring h k d (named_if_taken h k d facts.started finish.below)) answer.2 p c t i u its
    rings_kind _ at p c t i u its = refl

    pub rings_behind : (p : ℕ) (c : Command) (t i : ℕ) → IsUnfinished h (learned h k (Read e)) p c → Concerns k.memory c t i → (learned h k (Read e)).ring_of t i ≡ k.ring_of t i
    unfolding learned command_at
    rings_behind p c t i u its = rings_kind (kind e) refl p c t i (record { due = u.due; given = u.given; command = u.command }) its

    abbrev l : Known
    l = learned h k (Read e)

    -- what is unfinished behind the event was unfinished before
    pub listed_before : (c : Command) → IsIn c (unfinished h l) → IsIn c (unfinished h k)
    unfolding unfinished
    listed_before c at =
        let found = from_filter_map (command_at h l) (unfinished_positions h l) c at in
        let b : Behind h k l = event_behind h is k d e may in
        in_filter_map (command_at h k) (unfinished_positions h k) found.0 c (unfinished_fewer h is k l b found.0 found.1)
        (sym (command_same h k l found.0 (b.driver.rings (command_id h)).queue) ∙ found.2)

    -- a ring that is being moved behind the event was before
    moves_before : (r : ℕ) (c : Command) (p : ℕ) → IsUnfinished h l p c → moves_ring h l r c ≡ true → moves_ring h k r c ≡ true
    unfolding moves_ring
    moves_before r (AddressDevice s bsr n) p u moves =
        let parts = and_parts (not (is_off (l.endpoint_state s 1))) (is_ring r (l.ring_of s 1)) moves in
        let there : is_ring r (k.ring_of s 1) ≡ true = ap (λ o. is_ring r o) (sym (rings_behind p (AddressDevice s bsr n) s 1 u (refl, refl))) ∙ parts.1 in
        and_from (not (is_off (k.endpoint_state s 1))) (is_ring r (k.ring_of s 1)) (on_there s r (k.ring_of s 1) refl there) there
      where
        not_off : (state : EndpointState) → state ≢ Off → not (is_off state) ≡ true
        not_off Off on = absurd (on refl)
        not_off _ on = refl

        on_there : (s r : ℕ) (o : Option ℕ) → k.ring_of s 1 ≡ o → is_ring r o ≡ true → not (is_off (k.endpoint_state s 1)) ≡ true
        on_there s r None at here = absurd (false≢true here)
        on_there s r (Some q) at here = not_off (k.endpoint_state s 1) (d.states.on s 1 q at)
    moves_before r _ p u moves = absurd (false≢true moves)

    pub moved_before : (r : ℕ) → is_being_moved h l r ≡ true → is_being_moved h k r ≡ true
    unfolding is_being_moved
    moved_before r moving =
        let found = some_of (moves_ring h l r) (unfinished h l) moving in
        let u = listed_unfinished h l found.0 found.1 in
        any_of (moves_ring h k r) (unfinished h k) found.0 (listed_before found.0 found.1) (moves_before r found.0 u.0 u.1 found.2)
