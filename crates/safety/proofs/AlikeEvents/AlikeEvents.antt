-- An event that may be read at one of two knowledges that are alike: it may be read at the other, and leaves both alike
use Rattle.safety.proofs.MiddleLaws.{spot_named, has_event_data, ceiling, ◌<◌, endpoint, [], ◌≡◌, ◌≤◌, ◌==◌, ◌&&◌, ℕ, false, not, Some, refl, ap, rules, or_parts, or_from, not-false, Block, BlockKind, TransferEvent, CommandCompletion, kind, is_transfer_event, Spot, Header, Read, Config, shape_of, register_or_zero, Known, event_read, learned, is_in_profile, is_impossible_by_kind, lenient, if◌then◌else◌, true, List, arith, sym, subst, ltb-true, lt-ltb, false≢true, and_parts, and_from, not_from_true, code, slot, number, after, Reaches, cases_option, Command, Change, changes, command_id, on_ring, command_at, next_command, changed_by_all, succeeded, stop_ended, finished, completed, was_stop_seen, can_finish, may_be_taken, is_stopping_now, is_impossible_completion, event_facts, event_still, Alike, ceiling_more, reached_alike, both_sides, seen_put, Option, None}
use Rattle.safety.proofs.AlikeEvents.AlikeTransfers.{transfer_alike}
use Rattle.safety.proofs.AlikeEvents.AlikeChanges.{TargetsAre, changes_alike}

-- A Command Completion Event that is possible at one of two knowledges that are alike: it is possible at the other, and leaves both alike

-- the next command, where it may be finished, is the same and does the same
pub record CommandAlike (h : Header) (k l : Known) : Type 0 where
  pub command : (c : Command) → may_be_taken h k ≡ true → command_at h k (next_command h k) ≡ Some c → command_at h l (next_command h k) ≡ Some c
  pub does : (n : ℕ) (c : Command) → may_be_taken h k ≡ true → command_at h k (next_command h k) ≡ Some c →
      changes h.context_size l.memory n c ≡ changes h.context_size k.memory n c
  pub targets : (n : ℕ) (c : Command) → may_be_taken h k ≡ true → command_at h k (next_command h k) ≡ Some c → TargetsAre h c k l (changes h.context_size k.memory n c)

module _ (h : Header) (P : ℕ → Type 0) (k l : Known) (a : Alike P k l) where
  pub next_alike : next_command h l ≡ next_command h k
  unfolding next_command
  next_alike = ap number (a.rings (command_id h)).floor

  pub taken_alike : may_be_taken h k ≡ true → may_be_taken h l ≡ true
  unfolding may_be_taken
  taken_alike may = grind (arith, lt-ltb, next_alike, ltb-true, ceiling_more)

  seen_alike : (c : Command) → was_stop_seen l c ≡ was_stop_seen k c
  unfolding was_stop_seen
  seen_alike o = grind arith

  stop_alike : (m n : Known) → Alike P m n → (c : Command) → Alike P (stop_ended h m c) (stop_ended h n c)
  unfolding stop_ended
  stop_alike m n b o = grind (arith, seen_put, false)

  module _ (same : CommandAlike h k l) where
    pub stopping_alike : (s i : ℕ) → is_stopping_now h k s i ≡ true → is_stopping_now h l s i ≡ true
    unfolding is_stopping_now
    stopping_alike s i stopping = search (rules, and_parts, cases_option, false≢true, and_from, taken_alike, next_alike)

    finish_alike : (b : Block) (c : Command) → may_be_taken h k ≡ true → command_at h k (next_command h k) ≡ Some c → Alike P (finished h k b (Some c)) (finished h l b (Some c))
    unfolding finished succeeded
    finish_alike b c may at =
        let mine : List Change = changes h.context_size k.memory (slot b) c in
        let theirs : List Change = changes h.context_size l.memory (slot b) c in
        let success : Alike P (changed_by_all h c k mine) (changed_by_all h c l theirs) =
        subst (λ x. Alike P (changed_by_all h c k mine) (changed_by_all h c l x)) (sym (same.does (slot b) c may at)) (changes_alike h P c k l a mine (same.targets (slot b) c may at)) in
        stop_alike (if code b == 1 then changed_by_all h c k mine else k) (if code b == 1 then changed_by_all h c l theirs else l)
        (both_sides (Alike P) (code b == 1) (changed_by_all h c k mine) k (changed_by_all h c l theirs) l success a) c

    completed_alike : (b : Block) (c : Command) → may_be_taken h k ≡ true → command_at h k (next_command h k) ≡ Some c → Alike P (completed h k b) (completed h l b)
    unfolding completed
    completed_alike b c may at =
        let r : ℕ = command_id h in
        let after_is : ℕ → Spot = λ n. after (shape_of h r) n in
        subst (λ n. Alike P (completed h k b) (on_ring h (finished h l b (command_at h l n)) r (Reaches (after_is n)))) (sym next_alike)
        (subst (λ o. Alike P (completed h k b) (on_ring h (finished h l b o) r (Reaches (after_is (next_command h k))))) (sym (same.command c may at))
        (subst (λ o. Alike P (on_ring h (finished h k b o) r (Reaches (after_is (next_command h k)))) (on_ring h (finished h l b (Some c)) r (Reaches (after_is (next_command h k))))) (sym at)
        (reached_alike h P (finished h k b (Some c)) (finished h l b (Some c)) (finish_alike b c may at) r (after_is (next_command h k)))))

    module _ (config : register_or_zero l.register Config ≡ register_or_zero k.register Config) where
      possible_alike : (b : Block) → is_impossible_completion h k b ≡ false → is_impossible_completion h l b ≡ false
      unfolding is_impossible_completion can_finish
      possible_alike b possible = grind (arith, or_parts, not-false, false≢true, and_parts, and_from, seen_alike, next_alike, or_from, not_from_true, taken_alike)

      there_alike : (b : Block) (o : Option Command) → command_at h k (next_command h k) ≡ o → may_be_taken h k ≡ true → can_finish k b o ≡ true → Alike P (completed h k b) (completed h l b)
      unfolding can_finish
      there_alike b None at may finishes = absurd (false≢true finishes)
      there_alike b (Some c) at may finishes = completed_alike b c may at

      pub completion_alike : (b : Block) → is_impossible_completion h k b ≡ false → (is_impossible_completion h l b ≡ false) × Alike P (completed h k b) (completed h l b)
      unfolding is_impossible_completion
      completion_alike b possible =
          let three = or_parts _ (not (can_finish k b (command_at h k (next_command h k)))) possible in
          let two = or_parts _ (code b == 0) three.0 in
          let one = or_parts (not (may_be_taken h k)) _ two.0 in (
            possible_alike b possible,
            there_alike b (command_at h k (next_command h k)) refl (not-false (may_be_taken h k) one.0) (not-false (can_finish k b (command_at h k (next_command h k))) three.1),
          )

-- what else an event reads is alike
pub record EventAlike (h : Header) (k l : Known) : Type 0 where
  pub started : l.started ≡ k.started
  pub stopped : l.stopped ≡ k.stopped
  pub reads : l.reads ≡ k.reads
  pub room : k.dequeue ≤ l.dequeue
  pub config : register_or_zero l.register Config ≡ register_or_zero k.register Config
  pub names : (b : Block) (r : ℕ) (t : Spot) → k.ring_of (slot b) (endpoint b) ≡ Some r → (has_event_data b ≡ true → number t < ceiling (shape_of h r) (k.ring r)) → spot_named h k b r ≡ Some t → spot_named h l b r ≡ Some t
  pub command : CommandAlike h k l

pub record ReadAlike (h : Header) (P : ℕ → Type 0) (k l : Known) (e : Block) : Type 0 where
  pub possible : lenient h l (Read e) ≡ []
  pub after : Alike P (learned h k (Read e)) (learned h l (Read e))

module _ (h : Header) (P : ℕ → Type 0) (k l : Known) (a : Alike P k l) (x : EventAlike h k l) where
  kind_alike : (b : Block) (n : BlockKind) → is_impossible_by_kind h k n b ≡ false → (is_transfer_event n && not (is_in_profile h k b)) ≡ false →
      (is_impossible_by_kind h l n b ≡ false) × Alike P (event_read h k n b) (event_read h l n b)
  unfolding is_impossible_by_kind event_read
  kind_alike b TransferEvent possible inside = transfer_alike h P k l a (stopping_alike h P k l a x.command) x.names b possible (not-false (is_in_profile h k b) inside)
  kind_alike b CommandCompletion possible inside = completion_alike h P k l a x.command x.config b possible
  kind_alike b _ possible inside = (refl, a)

  pub read_alike : (e : Block) → lenient h k (Read e) ≡ [] → ReadAlike h P k l e
  unfolding learned
  read_alike b clean = search (rules, event_still, kind_alike b (kind b) (event_facts h k b clean).possible (event_facts h k b clean).inside)
