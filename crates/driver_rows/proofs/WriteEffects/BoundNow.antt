-- The rings that unfinished commands bind behind a write: those of before, and those of the command that it gives
use Rattle.driver_rows.proofs.MiddleLaws.{rules, ◌≡◌, ◌||◌, ◌++◌, ◌∷◌, ◌∙◌, ℕ, Bool, List, [], Option, Some, None, ap, sym, IfSome, list_any, put, Command, Header, Write, IsHeader, Known, learned, unfinished, command_given, with_word, DeviceRecord, FollowsDevices, after_word, IsIn, binds_ring, is_being_bound, lenient, DriverKeeps, binds_ring_beside, given_facts, write_leaves, listed_unfinished, beside_old, written_memory, RingSet, has, HoldsBound, FitsMemory, any_in, binds_same, HoldsContexts, IsAligned, IsWith, binds_ring_if, aligned_at, good_fits, or_none, or_assoc, new_command}

-- one element more
any_with : {X : Type 0} (p : X → Bool) (x : X) (front back : List X) → list_any p (front ++ x ∷ back) ≡ (list_any p (front ++ back) || p x)
any_with p x [] back = search rules
any_with p x (y ∷ front) back = ap (λ b. p y || b) (any_with p x front back) ∙ sym (or_assoc (p y) (list_any p (front ++ back)) (p x))

given_aligned : (h : Header) (k : Known) (a w : ℕ) (c : Command) → command_given h k a w ≡ Some c → IsAligned c
unfolding command_given
given_aligned h k a w c at = search (rules, aligned_at)

module _ (h : Header) (k : Known) (a w : ℕ) where
  -- slots and endpoints are as before, and one word of memory is written
  pub holds_contexts : (devices : DeviceRecord) (memory now : ℕ → ℕ) → FollowsDevices k devices → ((b : ℕ) → k.memory b ≡ memory b) → ((b : ℕ) → now b ≡ put memory a w b) →
      HoldsContexts (with_word h k a w) devices now
  unfolding with_word
  holds_contexts devices memory now f before words = search (rules, after_word)

module _ (h : Header) (is : IsHeader h) (k : Known) (d : DriverKeeps h k) (a w : ℕ) (clean : lenient h k (Write a w) ≡ []) where
  abbrev l : Known
  l = learned h k (Write a w)

  -- what was unfinished binds what it bound
  old_same : (r : ℕ) (c : Command) → IsIn c (unfinished h k) → binds_ring h l r c ≡ binds_ring h k r c
  old_same r c among = let at = listed_unfinished h k c among in binds_ring_beside h k l c (beside_old h is k d a w clean at.0 c at.1) r

  old_bound : (r : ℕ) → list_any (binds_ring h l r) (unfinished h k) ≡ is_being_bound h k r
  unfolding is_being_bound
  old_bound r = any_in (binds_ring h l r) (binds_ring h k r) (unfinished h k) (old_same r)

  bound_now : (o : Option Command) → IsWith o (unfinished h k) (unfinished h l) → (r : ℕ) → is_being_bound h l r ≡ (is_being_bound h k r || binds_ring_if h l r o)
  unfolding is_being_bound
  bound_now o e r = search (rules, old_bound, or_none, any_with)

  -- what a device context that comes under lease changes, no command reads
  word_binds : (r : ℕ) (o : Option Command) → binds_ring_if h (with_word h k a w) r o ≡ binds_ring_if h l r o
  unfolding with_word binds_ring
  word_binds r o = search (rules, binds_same, written_memory, write_leaves)

  pub holds_bound : (before after : RingSet) (o : Option Command) → o ≡ command_given h k a w → HoldsBound h k before →
      ((r : ℕ) → has after r ≡ (has before r || binds_ring_if h (with_word h k a w) r o)) → HoldsBound h l after
  holds_bound before after o at was notes r = notes r ∙ (λ i. was r i || word_binds r o i) ∙ sym (bound_now o (new_command h is k d a w clean o at) r)

  -- the context of the command that is given lies in memory
  pub given_fits : (o : Option Command) → o ≡ command_given h k a w → IfSome o (FitsMemory h.context_size)
  given_fits None at = tt
  given_fits (Some c) at = good_fits h k c (given_facts h k is d a w c clean (sym at)).own.good (given_aligned h k a w c (sym at))
