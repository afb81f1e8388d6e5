-- The endpoints that a command names have numbers of slots and endpoints, and so has each endpoint that a success gives a ring
use Rattle.safety.proofs.LowerLaws.{typed, [], ◌≡◌, ◌+◌, ◌<◌, ◌≤◌, if◌then◌else◌, ◌∷◌, ◌∙◌, ℕ, suc, zero, Bool, true, false, List, map, filter, Option, Some, arith, sym, ap, eqb-true, range_with_len, and_parts, none-some, same_Some, Block, kind, is_command_left_out, Command, NoOp, DisableSlot, AddressDevice, ConfigureEndpoint, EvaluateContext, SetTrDequeue, ResetDevice, is_off, command_by_kind, command_of, Change, Places, changes, placed_by_context, ContextSize, input_add_flag, added_endpoints, Header, ring_having, Known, bound_to, moved, pointed, disabled, in_state, held_at_ceiling, changed_by, changed_by_all, rules, cond_is, AreNumbered}
use Rattle.safety.proofs.StatesKeep.Endpoints.{moved_rings, held_rings}
use Rattle.safety.proofs.Rows.WrittenKnown.{slot_low}

-- ---- what commands name

abbrev pub IsNumbered : Command → Type 0
IsNumbered (AddressDevice s bsr n) = s < 256
IsNumbered (ConfigureEndpoint s dc n) = s < 256
IsNumbered (SetTrDequeue s i p cycle) = (s < 256) × (i < 32)
IsNumbered _ = Unit {0}

pub command_numbered : (b : Block) (c : Command) → command_of b ≡ Some c → IsNumbered c
command_numbered b c at = search (rules, cond_is, is_command_left_out, command_by_kind, kind, none-some, same_Some, slot_low)

-- ---- what they place

abbrev pub PlacesNumbered : Change → Type 0
PlacesNumbered (Places s i p cycle state) = (s < 256) × (i < 32)
PlacesNumbered _ = Unit {0}

abbrev pub AllNumbered : List Change → Type 0
AllNumbered [] = Unit {0}
AllNumbered (change ∷ rest) = PlacesNumbered change × AllNumbered rest

added_numbered : (size : ContextSize) (memory : ℕ → ℕ) (s n : ℕ) (added : ℕ → Bool) → s < 256 → (a len : ℕ) → a + len ≤ 32 → AllNumbered (map (placed_by_context size memory s n) (filter added (range_with_len a len)))
added_numbered size memory s n added low a zero high = tt
added_numbered size memory s n added low a (suc len) high = chosen (added a) (added_numbered size memory s n added low (a + 1) len (omega arith))
  where
    chosen : (b : Bool) → AllNumbered (map (placed_by_context size memory s n) (filter added (range_with_len (a + 1) len))) →
        AllNumbered (map (placed_by_context size memory s n) (if b then a ∷ filter added (range_with_len (a + 1) len) else filter added (range_with_len (a + 1) len)))
    chosen true rest = ((low, omega arith), rest)
    chosen false rest = rest

pub changes_numbered : (size : ContextSize) (memory : ℕ → ℕ) (n : ℕ) (c : Command) → IsNumbered c → AllNumbered (changes size memory n c)
unfolding changes added_endpoints
changes_numbered size memory n NoOp c = tt
changes_numbered size memory n (DisableSlot s) c = (tt, (tt, (tt, tt)))
changes_numbered size memory n (AddressDevice s bsr a) c = (tt, ((c, omega arith), tt))
changes_numbered size memory n (ConfigureEndpoint s false a) c = (tt, (tt, (tt, added_numbered size memory s a (input_add_flag memory a) c 2 30 (omega arith))))
changes_numbered size memory n (ConfigureEndpoint s true a) c = (tt, (tt, tt))
changes_numbered size memory n (EvaluateContext s a) c = tt
changes_numbered size memory n (SetTrDequeue s i p cycle) c = (c, tt)
changes_numbered size memory n (ResetDevice s) c = (tt, (tt, tt))
changes_numbered size memory n _ c = (tt, tt)

-- ---- what is known behind it

module _ (h : Header) where
  pub same_numbered : (k l : Known) → l.ring_of ≡ k.ring_of → AreNumbered k → AreNumbered l
  same_numbered k l same all s i r at = all s i r (ap (λ (f : ℕ → ℕ → Option ℕ). f s i) (sym same) ∙ at)

  pointed_numbered : (k : Known) → AreNumbered k → (s i p : ℕ) (cycle : Bool) → (s < 256) × (i < 32) → AreNumbered (pointed h k s i p cycle)
  unfolding pointed bound_to
  pointed_numbered k all s i p cycle fits = search (rules, is_off, bound_to, ring_having, moved, cond_is, and_parts, eqb-true, same_numbered, moved_rings)

  pub all_numbered : (c : Command) (k : Known) (l : List Change) → AreNumbered k → AllNumbered l → AreNumbered (changed_by_all h c k l)
  unfolding changed_by_all changed_by disabled typed in_state
  all_numbered c k [] all fits = all
  all_numbered c k (change ∷ rest) all fits = all_numbered c (changed_by h c k change) rest (grind (arith, same_numbered, changed_by, cond_is, none-some, pointed, pointed_numbered, in_state, held_at_ceiling, held_rings)) fits.1
