-- The rings that unfinished commands bind behind a completion: those of before, but for those of the command that ended
use Rattle.event_rows.proofs.Words.{arith, rules, ◌≡◌, ◌||◌, ◌∷◌, ◌∙◌, ℕ, Bool, true, false, List, [], Some, ap, refl, sym, inl, inr, ◌==◌, ◌&&◌, if◌then◌else◌, not, list_any, and_parts, Block, code, slot, Command, can_succeed, Header, Config, IsHeader, command_id, register_or_zero, Known, completed, command_at, next_command, unfinished, IsIn, can_finish, is_impossible_completion, was_stop_seen, binds_ring, is_being_bound, DriverKeeps, IsDriverRing, IsUnfinished, Beside, binds_ring_beside, Changed, changed_by_code, beside_finished, unfinished_before, CompletionFacts, by_completion, next_unfinished, command_is_ring, named_if_taken, completion_same, listed_unfinished, RingSet, has, HoldsBound, FitsMemory, any_in, aligned_at, good_fits}
use Rattle.event_rows.proofs.CommandCompletions.Finished.{unfinished_is}

none_in : {X : Type 0} (p : X → Bool) (xs : List X) → ((x : X) → IsIn x xs → p x ≡ false) → list_any p xs ≡ false
none_in p [] none = refl
none_in p (x ∷ xs) none = λ i. none x (inl refl) i || none_in p xs (λ y at. none y (inr at)) i

-- of those of the first command and of others, which don't share any
without_first : (first rest : Bool) → (first ≡ true → rest ≡ false) → ((first || rest) && not first) ≡ rest
without_first first rest e = search rules

module _ (h : Header) (is : IsHeader h) (k : Known) (d : DriverKeeps h k) (on : k.started ≡ true) (b : Block) (possible : is_impossible_completion h k b ≡ false) (e : Command) (here : command_at h k (next_command h k) ≡ Some e) where
  abbrev l : Known
  l = completed h k b

  facts : CompletionFacts h k b
  facts = by_completion h k b possible

  ends : IsUnfinished h k (next_command h k) e
  ends = next_unfinished h is k d on facts.below e here

  ring : IsDriverRing h (command_id h)
  ring = command_is_ring h k d (named_if_taken h k d on facts.below)

  may : (if code b == 1 then can_succeed k.slot_state k.endpoint_state (register_or_zero k.register Config) (slot b) e else not (was_stop_seen k e)) ≡ true
  unfolding can_finish
  may = (and_parts _ _ (ap (λ o. can_finish k b o) (sym here) ∙ facts.finishes)).1

  changed : Changed h is k d b e here ends ring
  changed = changed_by_code h is k d b e here ends ring may

  before : (p : ℕ) (c : Command) → IsUnfinished h l p c → IsUnfinished h k p c × (p ≡ next_command h k → ⊥)
  before = unfinished_before h is k d b ring

  stays : (p : ℕ) (c : Command) → IsUnfinished h l p c → Beside h k l c
  stays p c u = let was = before p c u in
      beside_finished h is k d (next_command h k) e ends changed.slot changed.part l (completion_same h k b) changed.others p c was.0 was.1 (λ t i its. changed.apart p c t i was.0 was.1 its)

  -- what is unfinished still binds what it bound, and none of it is the command's
  left_same : (r : ℕ) (c : Command) → IsIn c (unfinished h l) → binds_ring h k r c ≡ binds_ring h l r c
  left_same r c among = let at = listed_unfinished h l c among in sym (binds_ring_beside h k l c (stays at.0 c at.1) r)

  unshared : (r : ℕ) → binds_ring h k r e ≡ true → (c : Command) → IsIn c (unfinished h l) → binds_ring h k r c ≡ false
  unshared r bound c among = let at = listed_unfinished h l c among in let was = before at.0 c at.1 in (d.unfinished (next_command h k) e ends).unshared r at.0 c bound was.0 was.1

  pub bound_behind : (old new : RingSet) → HoldsBound h k old → ((r : ℕ) → has new r ≡ (has old r && not (binds_ring h k r e))) → HoldsBound h l new
  unfolding is_being_bound
  bound_behind old new was forgets r = grind (arith, unfinished_is, without_first, none_in, unshared, any_in, left_same)

  -- its context lies in memory
  pub ending_fits : FitsMemory h.context_size e
  ending_fits = good_fits h k e (d.unfinished (next_command h k) e ends).good (aligned_at h k (next_command h k) e here)
