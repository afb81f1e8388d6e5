-- What is kept of unfinished commands is kept where slots, endpoints, contexts and device contexts are as they were
use Rattle.safety.proofs.LowerLaws.{◌≡◌, ◌∙◌, ℕ, Bool, true, false, Option, None, Some, refl, sym, ap, rules, MovesRestored, or_parts, Command, AddressDevice, SetTrDequeue, named_context, is_disabled, is_off, is_at_rest, Header, shape_of, Known, device_ranges, is_bad_area, is_soiled, IsUnfinished, CommandKeeps, binds_ring, has_bad_content, has_bad_context, is_bad_command, Beside}
use Rattle.safety.proofs.CommandsKeep.CommandsStay.{Standing, PlacesStay, MovesAhead, RingsBeside, own_keeps, pair_keeps, commands_stay, still_restored}

pub record SameStates (k l : Known) : Type 0 where
  pub memory : l.memory ≡ k.memory
  pub soiled : l.soiled ≡ k.soiled
  pub device : l.device ≡ k.device
  pub slot_state : l.slot_state ≡ k.slot_state
  pub off : (s i : ℕ) → is_off (l.endpoint_state s i) ≡ is_off (k.endpoint_state s i)
  pub ring_of : l.ring_of ≡ k.ring_of
  pub was_bound : l.was_bound ≡ k.was_bound

module _ (h : Header) where
  -- the rings that a command moves stay as it needs them
  pub record RingsStay (k l : Known) (c : Command) : Type 0 where
    pub rest : (s i p : ℕ) (cycle : Bool) → c ≡ SetTrDequeue s i p cycle → is_at_rest (k.endpoint_state s i) ≡ true → is_at_rest (l.endpoint_state s i) ≡ true
    pub ahead : (s i p r : ℕ) (cycle : Bool) → c ≡ SetTrDequeue s i p cycle → k.ring_of s i ≡ Some r → is_at_rest (k.endpoint_state s i) ≡ true → MovesAhead (shape_of h r) (k.ring r) (l.ring r)
    pub standing : (s n r : ℕ) (bsr : Bool) → c ≡ AddressDevice s bsr n → k.ring_of s 1 ≡ Some r → Standing (shape_of h r) (k.ring r) (l.ring r)
    pub still : (r : ℕ) → binds_ring h k r c ≡ true → PlacesStay (shape_of h r) (k.ring r) (l.ring r)
    pub moved : MovesRestored k c → MovesRestored l c

  pub context_same : (k l : Known) (o : Option ℕ) → l.device ≡ k.device → l.soiled ≡ k.soiled → has_bad_context h l o ≡ has_bad_context h k o
  unfolding has_bad_context is_soiled is_bad_area device_ranges
  context_same k l None device soiled = refl
  context_same k l (Some n) device soiled = rw device (rw soiled refl)

  pub context_good : (k : Known) (c : Command) → is_bad_command h k c ≡ false → has_bad_context h k (named_context c) ≡ false
  unfolding is_bad_command
  context_good k c good = (or_parts _ (has_bad_context h k (named_context c)) (or_parts _ (has_bad_content h k c) good).0).1

  module _ (k l : Known) (same : SameStates k l) where
    beside_same : (p : ℕ) (c : Command) → CommandKeeps h k p c → Beside h k l c
    beside_same p c keeps =
        record {
          memory = λ n at x low high. ap (λ f. f x) same.memory;
          context = λ n at. ap (λ o. has_bad_context h l o) (sym at) ∙ context_same k l (named_context c) same.device same.soiled ∙ context_good k c keeps.good;
          slot = λ s at on. ap (λ f. is_disabled (f s)) same.slot_state ∙ on;
          off = λ s i at. same.off s i;
          device = λ s n bsr at none. keeps.device s n bsr at (ap (λ f. f s) (sym same.device) ∙ none);
        }

    rings_same : (c : Command) → RingsStay k l c → RingsBeside h k l c
    rings_same c stay = search rules

    -- what is unfinished was before
    pub same_stay : ((p : ℕ) (c : Command) → IsUnfinished h k p c → CommandKeeps h k p c) → ((p : ℕ) (c : Command) → IsUnfinished h l p c → IsUnfinished h k p c) →
        ((p : ℕ) (c : Command) → IsUnfinished h l p c → RingsStay k l c) → (p : ℕ) (c : Command) → IsUnfinished h l p c → CommandKeeps h l p c
    same_stay keeps before stay =
        commands_stay h k l (λ p c u. own_keeps h k p c (keeps p c (before p c u)))
        (λ p q c d u v other. pair_keeps h k p q c d (keeps p c (before p c u)) (before q d v) other) (λ p c u. (keeps p c (before p c u)).restored) (λ p c u. beside_same p c (keeps p c (before p c u)))
        (λ p c u. rings_same c (stay p c u))

  -- rings that are as they were
  pub ring_stays : (k l : Known) (c : Command) → l.endpoint_state ≡ k.endpoint_state → l.ring_of ≡ k.ring_of → ((s i r : ℕ) → k.ring_of s i ≡ Some r → l.ring r ≡ k.ring r) →
      ((r : ℕ) → binds_ring h k r c ≡ true → l.ring r ≡ k.ring r) → ((r : ℕ) → (l.ring r).free ≡ (k.ring r).free) → RingsStay k l c
  ring_stays k l c states ring_of rings bound free = search (rules, still_restored)
