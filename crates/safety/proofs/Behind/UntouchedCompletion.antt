-- A Command Completion Event leaves an endpoint that no unfinished command touches
use Rattle.safety.proofs.UpperLaws.{◌≡◌, ◌==◌, if◌then◌else◌, ◌∙◌, ℕ, true, false, Option, None, Some, refl, list_any, cond_both, Block, code, slot, Spot, after, Reaches, ContextSize, Command, changes, Header, Config, IsHeader, shape_of, command_id, register_or_zero, Known, on_ring, command_at, next_command, succeeded, stop_ended, finished, completed, touches_endpoint, is_touched, can_finish, IsUnfinished, CommandKeeps, DriverKeeps, rules, arith, endpoints_of, rings_of, endpoints_part, unfinished_fails, CompletionFacts, next_unfinished, command_holds, success_fits, reached_fields, reached_held, can_be, EndpointHolds, same_holds, both_hold, changes_hold}
use Rattle.commands.specs.Changes.{touches}

-- which endpoints a command touches doesn't hang on the slot of its completion
pub touches_any : (size : ContextSize) (memory : ℕ → ℕ) (n s i : ℕ) (c : Command) → list_any (touches s i) (changes size memory n c) ≡ list_any (touches s i) (changes size memory 0 c)
unfolding changes
touches_any size memory n s i o = grind arith

module _ (h : Header) (s i : ℕ) where
  reached_holds : (m : Known) (r : ℕ) (t : Spot) → EndpointHolds m (on_ring h m r (Reaches t)) s i
  unfolding on_ring
  reached_holds m r t = search (rules, reached_fields, reached_held)

  module _ (is : IsHeader h) (k : Known) (d : DriverKeeps h k) (b : Block) (started : k.started ≡ true) (facts : CompletionFacts h k b) (untouched : is_touched h k s i ≡ false) where
    -- the command is unfinished, and so doesn't touch the endpoint
    success_holds : (c : Command) → IsUnfinished h k (next_command h k) c → can_finish k b (Some c) ≡ true → (code b == 1) ≡ true → EndpointHolds k (succeeded h k (slot b) c) s i
    unfolding succeeded touches_endpoint is_touched
    success_holds c u can success =
        let keeps : CommandKeeps h k (next_command h k) c = d.unfinished (next_command h k) c u in
        changes_hold h s i is c k (changes h.context_size k.memory (slot b) c) (endpoints_of h k d.states) (endpoints_part h k d.states)
        (success_fits h is k (register_or_zero k.register Config) (slot b) c d.states.no_slot (rings_of h k d) (endpoints_part h k d.states) keeps.good (command_holds h k (next_command h k) c keeps)
        (can_be h is k d b started facts c can success))
        (touches_any h.context_size k.memory (slot b) s i c ∙ unfinished_fails h k (touches_endpoint h k s i) (next_command h k) c untouched u)

    finished_holds : (o : Option Command) → command_at h k (next_command h k) ≡ o → can_finish k b o ≡ true → EndpointHolds k (finished h k b o) s i
    unfolding finished stop_ended
    finished_holds None at can = same_holds k s i
    finished_holds (Some c) at can =
        let m : Known = if code b == 1 then succeeded h k (slot b) c else k in
        both_hold k m (stop_ended h m c) s i
        (cond_both (code b == 1) (succeeded h k (slot b) c) k (λ l. EndpointHolds k l s i)
        (λ success. success_holds c (next_unfinished h is k d started facts.below c at) can success) (λ fails. same_holds k s i))
        (grind (arith, same_holds))

    pub completion_holds : EndpointHolds k (completed h k b) s i
    unfolding completed
    completion_holds =
        let l : Known = finished h k b (command_at h k (next_command h k)) in
        let t : Spot = after (shape_of h (command_id h)) (next_command h k) in
        both_hold k l (on_ring h l (command_id h) (Reaches t)) s i (finished_holds (command_at h k (next_command h k)) refl facts.finishes) (reached_holds l (command_id h) t)
