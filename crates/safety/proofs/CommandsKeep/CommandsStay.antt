-- What is kept of unfinished commands is kept where nothing that they read has changed
use Rattle.safety.proofs.LowerLaws.{◌≡◌, ◌≢◌, ◌≤◌, ◌∙◌, ℕ, not, Bool, true, false, map, All, Some, arith, refl, sym, ap, subst, List, get_or, eq-eqb, rules, MovesRestored, or_parts, or_from, not-false, not_from_true, Shape, RingView, declared, floor_number, ceiling, is_move, Command, AddressDevice, SetTrDequeue, is_at_rest, context_pointer, context_cycle, Header, shape_of, Known, binds, ring_bound, binds_ring, has_repeats, is_bad_dequeue, is_bad_move, IsUnfinished, StaysIf, MovesIf, CommandKeeps, is_placed, is_placement, drops, Binding, list_any, is_ring, Any-from_list_any, All-get_or, cases_option, list_any_at, false≢true, placement_still, exclude, adds_streams, is_bad_command, Concerns, pointer_same, cycle_same, ring_is, Beside, good_beside, in_profile_beside, binds_beside, binds_ring_beside, drops_beside, exclude_beside}

-- the pointer of a ring on which nothing is given stands there still, and nothing is given still
pub record Standing (shape : Shape) (v w : RingView) : Type 0 where
  pub here : (p : ℕ) (cycle : Bool) → is_move shape v p cycle (floor_number v) (floor_number v) ≡ true → is_move shape w p cycle (floor_number w) (floor_number w) ≡ true
  pub nothing : ((p : ℕ) → floor_number v ≤ p → v.given p ≡ false) → (p : ℕ) → floor_number w ≤ p → w.given p ≡ false

-- a ring stands still where it did
abbrev pub PlacesStay : Shape → RingView → RingView → Type 0
PlacesStay shape v w = (p : ℕ) (cycle : Bool) → is_placement shape v p cycle ≡ true → is_placement shape w p cycle ≡ true

-- where nothing more is free, and the endpoint has the ring that it had
pub still_restored : (k l : Known) (c : Command) → ((s i : ℕ) → Concerns k.memory c s i → l.ring_of s i ≡ k.ring_of s i) → ((r : ℕ) → (l.ring r).free ≡ (k.ring r).free) → MovesRestored k c → MovesRestored l c
still_restored k l c ring_of free restored s i p cycle at r has q = search (rules, eq-eqb)

-- a spot to which the ring may be moved is one still
abbrev pub MovesAhead : Shape → RingView → RingView → Type 0
MovesAhead shape v w = (p : ℕ) (cycle : Bool) → is_move shape v p cycle (ceiling shape v) (declared v) ≡ true → is_move shape w p cycle (ceiling shape w) (declared w) ≡ true

module _ (h : Header) where
  -- what is kept of one command, but for its device context
  pub record OwnKeeps (k : Known) (c : Command) : Type 0 where
    pub good : is_bad_command h k c ≡ false
    pub in_profile : adds_streams h k c ≡ false
    pub placed : All (λ b. is_placed h k (ring_bound h b) b ≡ true) (binds h k c)
    pub repeats : has_repeats (map (ring_bound h) (binds h k c)) ≡ false
    pub unkept : (r s i : ℕ) → binds_ring h k r c ≡ true → k.ring_of s i ≡ Some r → drops k c s i ≡ true
    pub moves_on : MovesIf h k c
    pub stays : StaysIf h k c

  -- what is kept of two commands
  pub record PairKeeps (k : Known) (c d : Command) : Type 0 where
    pub alone : exclude k.memory d c ≡ false
    pub unshared : (r : ℕ) → binds_ring h k r c ≡ true → binds_ring h k r d ≡ false

  pub own_keeps : (k : Known) (p : ℕ) (c : Command) → CommandKeeps h k p c → OwnKeeps k c
  own_keeps k p c keeps = search rules

  pub pair_keeps : (k : Known) (p q : ℕ) (c d : Command) → CommandKeeps h k p c → IsUnfinished h k q d → q ≢ p → PairKeeps k c d
  pair_keeps k p q c d keeps u other = record { alone = keeps.alone q d u other; unshared = λ r bound. keeps.unshared r q d bound u other }

  pub bound_still : (k : Known) (p : ℕ) (c : Command) → CommandKeeps h k p c → (r : ℕ) → binds_ring h k r c ≡ true → ceiling (shape_of h r) (k.ring r) ≤ floor_number (k.ring r)
  unfolding binds_ring is_placed
  bound_still k p c keeps r bound = grind (arith, Any-from_list_any, All-get_or, placement_still, ring_is)

  -- the rings that a command names, and the endpoints that have them
  pub record RingsBeside (k l : Known) (c : Command) : Type 0 where
    pub ring_of : (s i : ℕ) → Concerns k.memory c s i → l.ring_of s i ≡ k.ring_of s i
    pub rest : (s i p : ℕ) (cycle : Bool) → c ≡ SetTrDequeue s i p cycle → is_at_rest (k.endpoint_state s i) ≡ true → is_at_rest (l.endpoint_state s i) ≡ true
    pub ahead : (s i p r : ℕ) (cycle : Bool) → c ≡ SetTrDequeue s i p cycle → k.ring_of s i ≡ Some r → is_at_rest (k.endpoint_state s i) ≡ true → MovesAhead (shape_of h r) (k.ring r) (l.ring r)
    pub standing : (s n r : ℕ) (bsr : Bool) → c ≡ AddressDevice s bsr n → k.ring_of s 1 ≡ Some r → Standing (shape_of h r) (k.ring r) (l.ring r)
    -- a ring that it binds stands still, and no endpoint gets it
    pub still : (r : ℕ) → binds_ring h k r c ≡ true → PlacesStay (shape_of h r) (k.ring r) (l.ring r)
    pub kept : (r s i : ℕ) → binds_ring h k r c ≡ true → l.ring_of s i ≡ Some r → k.ring_of s i ≡ Some r
    -- of a ring that it moves nothing is free still
    pub moved : MovesRestored k c → MovesRestored l c

  module _ (k l : Known) where
    set_beside : (s i p : ℕ) (cycle : Bool) → RingsBeside k l (SetTrDequeue s i p cycle) → is_bad_move h k (SetTrDequeue s i p cycle) ≡ false → is_bad_move h l (SetTrDequeue s i p cycle) ≡ false
    unfolding is_bad_move is_bad_dequeue
    set_beside s i p cycle b good =
        let parts = or_parts (not (is_at_rest (k.endpoint_state s i))) (is_bad_dequeue h k (k.ring_of s i) p cycle) good in
        search (rules, not-false, or_from, not_from_true)

    stays_beside : (c : Command) → Beside h k l c → RingsBeside k l c → StaysIf h k c → StaysIf h l c
    stays_beside (AddressDevice s bsr n) m b stays =
        λ r at.
        let before : k.ring_of s 1 ≡ Some r = sym (b.ring_of s 1 (refl, refl)) ∙ at in
        let stands : Standing (shape_of h r) (k.ring r) (l.ring r) = b.standing s n r bsr refl before in
        let same = m.memory n refl in
        record {
          here =
              ap (λ x. is_move (shape_of h r) (l.ring r) x (context_cycle h.context_size l.memory n 1) (floor_number (l.ring r)) (floor_number (l.ring r)))
              (pointer_same h.context_size k.memory l.memory n same 1 (omega arith))
              ∙ ap (λ x. is_move (shape_of h r) (l.ring r) (context_pointer h.context_size k.memory n 1) x (floor_number (l.ring r)) (floor_number (l.ring r)))
              (cycle_same h.context_size k.memory l.memory n same 1 (omega arith))
              ∙ stands.here (context_pointer h.context_size k.memory n 1) (context_cycle h.context_size k.memory n 1) (stays r before).here;
          nothing = stands.nothing (stays r before).nothing;
        }
    stays_beside _ m b stays = tt

    placed_beside : (bs : List Binding) → ((r : ℕ) → list_any (λ b. is_ring r (ring_bound h b)) bs ≡ true → PlacesStay (shape_of h r) (k.ring r) (l.ring r)) →
        All (λ b. is_placed h k (ring_bound h b) b ≡ true) bs → All (λ b. is_placed h l (ring_bound h b) b ≡ true) bs
    unfolding is_placed
    placed_beside bs still all x d inside = search (rules, get_or, cases_option, false≢true, list_any_at, eq-eqb)

    pub own_beside : (c : Command) → Beside h k l c → RingsBeside k l c → OwnKeeps k c → OwnKeeps l c
    unfolding binds_ring is_bad_move
    own_beside c m b own =
        let one : binds h l c ≡ binds h k c = binds_beside h k l c m in
        record {
          good = good_beside h k l c m own.good;
          in_profile = in_profile_beside h k l c m own.in_profile;
          placed = subst (λ bs. All (λ b. is_placed h l (ring_bound h b) b ≡ true) bs) (sym one) (placed_beside (binds h k c) b.still own.placed);
          repeats = ap (λ bs. has_repeats (map (ring_bound h) bs)) one ∙ own.repeats;
          unkept = λ r s i bound has.
              let before = sym (binds_ring_beside h k l c m r) ∙ bound in
              drops_beside h k l c m s i ∙ own.unkept r s i before (b.kept r s i before has);
          moves_on = grind (arith, set_beside);
          stays = stays_beside c m b own.stays;
        }

    -- what is known at l changes nothing that its unfinished commands read
    pub commands_stay : ((p : ℕ) (c : Command) → IsUnfinished h l p c → OwnKeeps k c) →
        ((p q : ℕ) (c d : Command) → IsUnfinished h l p c → IsUnfinished h l q d → q ≢ p → PairKeeps k c d) →
        ((p : ℕ) (c : Command) → IsUnfinished h l p c → MovesRestored k c) →
        ((p : ℕ) (c : Command) → IsUnfinished h l p c → Beside h k l c) → ((p : ℕ) (c : Command) → IsUnfinished h l p c → RingsBeside k l c) →
        (p : ℕ) (c : Command) → IsUnfinished h l p c → CommandKeeps h l p c
    commands_stay own pair restored beside rings p c u =
        let m : Beside h k l c = beside p c u in
        let kept : OwnKeeps l c = own_beside c m (rings p c u) (own p c u) in
        record {
          alone = λ q d v other. exclude_beside h k l d c (beside q d v) m ∙ (pair p q c d u v other).alone;
          good = kept.good;
          in_profile = kept.in_profile;
          device = m.device;
          binds = kept.placed;
          repeats = kept.repeats;
          unkept = kept.unkept;
          unshared = λ r q d bound v other.
              binds_ring_beside h k l d (beside q d v) r ∙ (pair p q c d u v other).unshared r (sym (binds_ring_beside h k l c m r) ∙ bound);
          moves_on = kept.moves_on;
          stays = kept.stays;
          restored = (rings p c u).moved (restored p c u);
        }
