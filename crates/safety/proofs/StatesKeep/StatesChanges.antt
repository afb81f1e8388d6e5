-- What the success of a command changes keeps what is kept of endpoints, change by change
use Rattle.safety.proofs.LowerLaws.{typed, Types, [], ◌≡◌, ◌≢◌, if◌then◌else◌, ◌∷◌, ℕ, Bool, true, false, List, Option, None, Some, refl, inl, inr, none-some, Holds, ceiling, Command, EndpointState, Off, Running, Stopped, Change, SlotGoesOn, DeviceLeft, Disables, Places, Stops, Resets, Header, IsHeader, shape_of, Known, on_ring, disabled, in_state, held_at_ceiling, changed_by, changed_by_all, EndpointsKeep, rules, arith, at_pair, EndpointsStand, endpoints_same}
use Rattle.safety.proofs.RingsKeep.DriverRows.{ring_here, ring_elsewhere}
use Rattle.safety.proofs.StatesKeep.Endpoints.{change_keeps, fewer}
use Rattle.safety.proofs.StatesKeep.StatesOneEndpoint.{OneEndpoint, one_stands}
use Rattle.safety.proofs.StatesKeep.StatesPlaced.{MayPlace, place_stands, some_ring}

-- an endpoint that is there, and isn't Running
pub record RestsThere (e : EndpointState) : Type 0 where
  pub on : e ≢ Off
  pub rests : e ≢ Running

none_left : (b : Bool) (o : Option ℕ) → o ≡ None → (if b then None else o) ≡ None
none_left true o none = refl
none_left false o none = none

off_left : (b : Bool) (o : Option ℕ) (e : EndpointState) → (o ≡ None → e ≡ Off) → (if b then None else o) ≡ None → (if b then Off else e) ≡ Off
off_left true o e off none = refl
off_left false o e off none = off none

state_left : (b : Bool) (o : Option ℕ) (e : EndpointState) (r : ℕ) → (if b then None else o) ≡ Some r → (if b then Off else e) ≡ e
state_left true o e r at = absurd (none-some r at)
state_left false o e r at = refl

module _ (h : Header) where
  -- what each change needs of the endpoint
  abbrev pub Fits : Known → Change → Type 0
  Fits k (Places s i p cycle state) = MayPlace h k s i p state
  Fits k (Stops s i) = k.endpoint_state s i ≢ Off
  Fits k (Resets s i) = RestsThere (k.endpoint_state s i)
  Fits k (SlotGoesOn s) = Unit {0}
  Fits k (DeviceLeft s) = Unit {0}
  Fits k (Types s which isochronous) = Unit {0}
  Fits k (Disables s which) = Unit {0}

  abbrev pub FitAll : Command → Known → List Change → Type 0
  FitAll c k [] = Unit {0}
  FitAll c k (change ∷ rest) = Fits k change × FitAll c (changed_by h c k change) rest

  -- ---- endpoints are disabled

  -- ---- an endpoint's state is set

  module _ (k : Known) (s i r : ℕ) (state : EndpointState) (e : EndpointsStand k) (at : k.ring_of s i ≡ Some r) (on : state ≢ Off) where
    state_one : ((k.ring r).held ≡ None → state ≡ Running) → OneEndpoint k (in_state h k s i state) s i r
    unfolding in_state
    state_one runs = search (rules, at_pair)

    -- and its ring is held
    held_one : (n : ℕ) → OneEndpoint k (on_ring h (in_state h k s i state) r (Holds n)) s i r
    unfolding in_state on_ring
    held_one n = search (rules, at_pair, ring_elsewhere, in_state, none-some, ring_here)

  reset_stands : (k : Known) (s i : ℕ) → EndpointsStand k → RestsThere (k.endpoint_state s i) → EndpointsStand (in_state h k s i Stopped)
  reset_stands k s i e fits =
      elim (some_ring (k.ring_of s i)) [
        | inl none ↦ absurd (fits.on (e.off s i none))
        | inr has ↦
            one_stands k (in_state h k s i Stopped) s i has.0 e
            (state_one k s i has.0 Stopped e has.1 (λ off. cc) (λ opened. absurd (fits.rests (e.open_runs s i has.0 has.1 opened))))
      ]

  -- ---- any change, and one after the other

  pub change_stands : (c : Command) (k : Known) (change : Change) → EndpointsKeep h k → EndpointsStand k → Fits k change → EndpointsStand (changed_by h c k change)
  unfolding changed_by disabled typed held_at_ceiling
  change_stands c k (SlotGoesOn s) keeps e fits = endpoints_same k (changed_by h c k (SlotGoesOn s)) refl refl (λ r. refl) e
  change_stands c k (DeviceLeft s) keeps e fits = endpoints_same k (changed_by h c k (DeviceLeft s)) refl refl (λ r. refl) e
  change_stands c k (Types s which isochronous) keeps e fits = endpoints_same k (changed_by h c k (Types s which isochronous)) refl refl (λ r. refl) e
  change_stands c k (Disables s which) keeps e fits = (search (rules, none_left, off_left, fewer, state_left))
  change_stands c k (Places s i p cycle state) keeps e fits = place_stands h c k s i p cycle state keeps e fits
  change_stands c k (Stops s i) keeps e fits = (grind (arith, e.off, in_state, ceiling, shape_of, one_stands, on_ring, held_one))
  change_stands c k (Resets s i) keeps e fits = reset_stands k s i e fits

  pub changes_stand : IsHeader h → (c : Command) (k : Known) (all : List Change) → EndpointsKeep h k → EndpointsStand k → FitAll c k all → EndpointsStand (changed_by_all h c k all)
  unfolding changed_by_all
  changes_stand is c k [] keeps e fit = e
  changes_stand is c k (change ∷ rest) keeps e fit =
      changes_stand is c (changed_by h c k change) rest (change_keeps h is c k change keeps) (change_stands c k change keeps e fit.0) fit.1
