-- The rings of one slot's endpoints, as they would be
use Rattle.std.specs.Prelude.{◌≡◌, ℕ, ◌<◌, ◌==◌, ◌&&◌, Bool, false, not, List, Option, Some, None, unwrap_or, slice_get}
use Rattle.std.specs.List.{list_any, range_with_len}
use Rattle.traces.specs.Header.{is_ring}
use Rattle.world_state.specs.World.{World}
use Rattle.controller_model.specs.declared.kept.Holder.{Holder}

abbrev pub own_ring : List (Option ℕ) → ℕ → Option ℕ
own_ring rings j = unwrap_or (slice_get rings j) None

-- the endpoints of slot s have these rings, and those of other slots have those that they have in world w
pub record Sees (rings : List (Option ℕ)) (s : ℕ) (w v : World) : Type 0 where
  pub own : (j : ℕ) → j < 32 → v.ring_of s j ≡ own_ring rings j
  pub others : (t j : ℕ) → (t == s) ≡ false → v.ring_of t j ≡ w.ring_of t j

-- an endpoint of another slot has it
abbrev pub is_elsewhere : Option Holder → ℕ → Bool
is_elsewhere None s = false
is_elsewhere (Some e) s = not (e.slot == s)

abbrev pub has_own : List (Option ℕ) → ℕ → ℕ → Bool
has_own rings i r = list_any (λ j. not (j == i) && is_ring r (own_ring rings j)) (range_with_len 1 31)

-- what comes of it goes on from a world whose endpoints have these rings
pub record GoesOnAs (rings : List (Option ℕ)) (s : ℕ) (w : World) (all : Option World) (rest : World → Option World) : Type 0 where
  pub world : World
  pub sees : Sees rings s w world
  pub same : all ≡ rest world
