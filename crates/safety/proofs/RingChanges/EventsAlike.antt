-- An event says the same where other rings are there, so long as those that endpoints have and commands bind are as they were
use Rattle.safety.proofs.Words.{spot_named, ◌&&◌, code, code_told, has_isoch, counted_code, is_of_service, typed, [], ◌≡◌, if◌then◌else◌, ◌∷◌, ◌∙◌, ℕ, Bool, true, false, List, Option, Some, None, refl, ap, rules, put, put_pair, cond_both, none-some, same_Some, option_map, Block, slot, endpoint, is_success, is_halting, is_trb_error, is_stopping, Spot, number, after, RingView, RingChange, Reaches, Holds, changed, ceiling, target, Command, Stopped, is_off, Change, Places, Stops, Config, Register, Header, Ring, shape_of, command_id, event_shape, event_size, ring_having, Known, RingSpot, on_ring, spot_on, event_at, passed, broken_off, stopped_at, transferred, transferred_at, transfer_read, set_to, bound_to, moved_to, moved, may_be_taken, pointed, disabled, in_state, held_at_ceiling, changed_by, changed_by_all, arith, named_by}
use Rattle.safety.proofs.StatesKeep.Endpoints.{moved_rings, held_rings}

module _ (h : Header) (rings : List Ring) (over : (ℕ → RingView) → ℕ → RingView) (registers : (Register → Option ℕ) → Register → Option ℕ) (Kept : ℕ → Type 0) where
  abbrev g : Header
  g = record h { rings = rings }

  -- what is known with the other rings, and other registers
  abbrev pub other : Known → Known
  other k = record k { ring = over k.ring; register = registers k.register }

  -- a ring that is kept has its shape, and what happens on it happens on it alone
  pub record KeepsRings : Type 0 where
    pub shape : (r : ℕ) → Kept r → shape_of g r ≡ shape_of h r
    pub view : (m : ℕ → RingView) (r : ℕ) → Kept r → over m r ≡ m r
    pub changes : (m : ℕ → RingView) (r : ℕ) (v : RingView) → Kept r → over (put m r v) ≡ put (over m) r v
    -- the event ring is as it was
    pub events : event_shape g ≡ event_shape h
    pub version : g.version ≡ h.version
    pub size : event_size g ≡ event_size h
    -- of the registers an event asks for CONFIG alone
    pub config : (values : Register → Option ℕ) → registers values Config ≡ values Config

  -- where a command may have been taken the command ring is the same, and kept; elsewhere none may have been, with these rings either
  pub record NextAlike (k : Known) : Type 0 where
    pub taken : may_be_taken g (other k) ≡ may_be_taken h k
    pub ring : may_be_taken h k ≡ true → (command_id g ≡ command_id h) × Kept (command_id h)

  -- endpoints have kept rings
  abbrev pub HasKept : Known → Type 0
  HasKept k = (s i r : ℕ) → k.ring_of s i ≡ Some r → Kept r

  abbrev IsKept : Option ℕ → Type 0
  IsKept q = (r : ℕ) → q ≡ Some r → Kept r

  -- where the pointer lies there is the same ring, and it is kept
  abbrev pub HavesAlike : ℕ → Type 0
  HavesAlike p = (ring_having g p ≡ ring_having h p) × IsKept (ring_having h p)

  abbrev pub ChangeAlike : Known → Change → Type 0
  ChangeAlike k (Places s i p cycle state) = is_off (k.endpoint_state s i) ≡ true → HavesAlike p
  ChangeAlike k _ = Unit {0}

  abbrev pub ChangesAlike : Command → Known → List Change → Type 0
  ChangesAlike c k [] = Unit {0}
  ChangesAlike c k (change ∷ rest) = ChangeAlike k change × ChangesAlike c (changed_by h c k change) rest

  either : (b : Bool) (x y u v : Known) → u ≡ other x → v ≡ other y → (if b then u else v) ≡ other (if b then x else y)
  either true x y u v p q = p
  either false x y u v p q = q

  module _ (o : KeepsRings) where
    pub on_alike : (k : Known) (r : ℕ) (c : RingChange) → Kept r → on_ring g (other k) r c ≡ other (on_ring h k r c)
    unfolding on_ring
    on_alike k r c kept = search (rules, put, changed, shape_of, g)

    -- ---- a Transfer Event

    spot_alike : (k : Known) (b : Block) (q : Option ℕ) → IsKept q → spot_on g (other k) b q ≡ spot_on h k b q
    unfolding spot_on spot_named
    spot_alike k b None kept = refl
    spot_alike k b (Some r) kept = λ j. option_map (λ t. record { ring = r; spot = t }) (named_by (o.shape r (kept r refl) j) (o.view k.ring r (kept r refl) j) b)

    pub event_at_alike : (k : Known) (b : Block) → HasKept k → event_at g (other k) b ≡ event_at h k b
    unfolding event_at
    event_at_alike k b kept = ap (λ o. if is_of_service (code b) then None else o) (spot_alike k b (k.ring_of (slot b) (endpoint b)) (kept (slot b) (endpoint b)))

    pub event_kept : (k : Known) (b : Block) (at : RingSpot) → HasKept k → event_at h k b ≡ Some at → Kept at.ring
    unfolding event_at spot_on
    event_kept k b at kept is = grind (arith, none-some, same_Some)

    pub told_over : (k : Known) (b : Block) → code_told g (other k) b ≡ code_told h k b
    unfolding code_told
    told_over k b = ap (λ v. counted_code (has_isoch v && k.isochronous (slot b) (endpoint b)) (code b)) o.version

    code_alike : (k : Known) (c s i r : ℕ) (t : Spot) → Kept r → transferred g (other k) c s i r t ≡ other (transferred h k c s i r t)
    unfolding transferred broken_off stopped_at passed
    code_alike k c s i r t kept = grind (arith, either, is_success, on_ring, g, other, after, number, on_alike, shape_of, is_halting, put_pair, is_trb_error, is_stopping)

    at_alike : (k : Known) (b : Block) (q : Option RingSpot) → ((at : RingSpot) → q ≡ Some at → Kept at.ring) → transferred_at g (other k) b q ≡ other (transferred_at h k b q)
    unfolding transferred_at
    at_alike k b q kept = grind (arith, told_over, code_alike)

    pub transfer_alike : (k : Known) (b : Block) → HasKept k → transfer_read g (other k) b ≡ other (transfer_read h k b)
    unfolding transfer_read
    transfer_alike k b kept = ap (transferred_at g (other k) b) (event_at_alike k b kept) ∙ at_alike k b (event_at h k b) (λ at is. event_kept k b at kept is)

    -- ---- the success of a command

    set_alike : (k : Known) (r : ℕ) (t : Spot) → Kept r → set_to g (other k) r t ≡ other (set_to h k r t)
    unfolding set_to
    set_alike k r t kept = ap (λ x. on_ring g x r (Holds (number t))) (on_alike k r (Reaches t) kept) ∙ on_alike (on_ring h k r (Reaches t)) r (Holds (number t)) kept

    pub target_alike : (k : Known) (r : ℕ) (t : Option Spot) → Kept r → moved_to g (other k) r t ≡ other (moved_to h k r t)
    unfolding moved_to
    target_alike k r o kept = grind (arith, set_alike)

    moved_alike : (k : Known) (q : Option ℕ) (p : ℕ) (cycle : Bool) → IsKept q → moved g (other k) q p cycle ≡ other (moved h k q p cycle)
    unfolding moved
    moved_alike k None p cycle kept = refl
    moved_alike k (Some r) p cycle kept = search (rules, moved_to, target, o.shape, o.view, k.ring, target_alike, shape_of)

    bound_alike : (k : Known) (s i : ℕ) (q : Option ℕ) (p : ℕ) (cycle : Bool) → IsKept q → bound_to g (other k) s i q p cycle ≡ other (bound_to h k s i q p cycle)
    unfolding bound_to
    bound_alike k s i None p cycle kept = refl
    bound_alike k s i (Some r) p cycle kept = search (rules, moved_alike, put_pair, k.ring_of, put, k.was_bound, true)

    pointed_alike : (k : Known) (s i p : ℕ) (cycle : Bool) → HasKept k → (is_off (k.endpoint_state s i) ≡ true → HavesAlike p) → pointed g (other k) s i p cycle ≡ other (pointed h k s i p cycle)
    unfolding pointed
    pointed_alike k s i p cycle kept haves = search (rules, g, other, bound_alike, moved_alike)

    held_alike : (k : Known) (q : Option ℕ) → IsKept q → held_at_ceiling g (other k) q ≡ other (held_at_ceiling h k q)
    unfolding held_at_ceiling
    held_alike k None kept = refl
    held_alike k (Some r) kept = search (rules, on_ring, ceiling, o.shape, o.view, k.ring, on_alike, shape_of)

    change_alike : (c : Command) (k : Known) (change : Change) → HasKept k → ChangeAlike k change → changed_by g c (other k) change ≡ other (changed_by h c k change)
    unfolding changed_by disabled typed in_state
    change_alike c k (Places s i p cycle state) kept may =
        let m = pointed_alike k s i p cycle kept may in
        λ j. record (m j) { endpoint_state = put_pair (m j).endpoint_state s i state; must_move = put_pair k.must_move s i false }
    change_alike c k (Stops s i) kept may = held_alike (in_state h k s i Stopped) (k.ring_of s i) (kept s i)
    change_alike c k _ kept may = refl

    -- ---- endpoints have kept rings still

    pub changes_alike : (c : Command) (changes : List Change) (k : Known) → HasKept k → ChangesAlike c k changes →
        (changed_by_all g c (other k) changes ≡ other (changed_by_all h c k changes)) × HasKept (changed_by_all h c k changes)
    unfolding changed_by_all changed_by disabled typed in_state pointed bound_to
    changes_alike c [] k kept may = (refl, kept)
    changes_alike c (change ∷ rest) k kept may =
        let later = changes_alike c rest (changed_by h c k change) (grind (arith, none-some, cond_both, is_off, bound_to, ring_having, moved, moved_rings, held_rings, in_state)) may.1 in
        (ap (λ x. changed_by_all g c x rest) (change_alike c k change kept may.0) ∙ later.0, later.1)
