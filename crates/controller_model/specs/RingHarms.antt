-- What is kept of the rings' harms from step to step
use Rattle.std.specs.Prelude.{◌≡◌, ◌≢◌, ℕ, ◌==◌, ◌&&◌, Bool, true, false, List, ◌∷◌, Some, slice_get}
use Rattle.segments.specs.ShapeValue.{Shape}
use Rattle.traces.specs.declared.ring.Ring.{Ring}
use Rattle.traces.specs.declared.row.Row.TheVariants.{Ring as RingRow}
use Rattle.controller_model.specs.declared.safety.Inside.{Inside}
use Rattle.controller_model.specs.declared.safety.Inside.TheVariants.{Nowhere, On, Anywhere}
use Rattle.traces.specs.declared.header.Header.{Header}
use Rattle.traces.specs.declared.row.Row.{Row}
use Rattle.traces.specs.declared.step.Step.{Step}
use Rattle.traces.specs.declared.step.Step.TheVariants.{NextRow}
use Rattle.controller_model.specs.declared.kept.Kept.{Kept}
use Rattle.traces.specs.Header.{shape_of, some_ring}
use Rattle.world_state.specs.World.{World, RingEvent}
use Rattle.world_state.specs.Harms.{has_other_words, is_inside_descriptor, is_out_of_order, waits}
use Rattle.controller_model.specs.declared.life.Rings.{Rings}
use Rattle.controller_model.specs.declared.safety.RingHarms.{RingHarms}
use Rattle.controller_model.specs.Following.{Follows, Lists, ring_held}
use Rattle.world_state.specs.Scenes.{Scene}

-- a controller may have taken some blocks of a descriptor of the ring, and not the last
abbrev pub may_be_inside : Inside → ℕ → Bool
may_be_inside Nowhere r = false
may_be_inside (On q) r = r == q
may_be_inside Anywhere r = true

-- these are the harms that some ring shows, and no other ring is within a descriptor
pub record HasRingHarms (h : Header) (w : World) (x : RingHarms) : Type 0 where
  pub order : x.out_of_order ≡ some_ring h (λ r. is_out_of_order (shape_of h r) (w.events r))
  pub words : x.other_words ≡ some_ring h (λ r. has_other_words (shape_of h r) (w.events r))
  pub waiting : x.waits_inside ≡ some_ring h (λ r. waits w r && is_inside_descriptor (w.events r))
  pub inside : (i : ℕ) (ring : Ring) → slice_get h.rings i ≡ Some ring → is_inside_descriptor (w.events ring.id) ≡ true → may_be_inside x.inside ring.id ≡ true

-- what happened on a ring by which nothing is taken
pub record AddsNone (older newer : List RingEvent) : Type 0 where
  pub inside : is_inside_descriptor newer ≡ true → is_inside_descriptor older ≡ true
  pub order : (shape : Shape) → is_out_of_order shape newer ≡ is_out_of_order shape older
  pub words : (shape : Shape) → has_other_words shape newer ≡ has_other_words shape older

-- between two worlds nothing was taken
abbrev pub TakesNothing : World → World → Type 0
TakesNothing w v = (r : ℕ) → AddsNone (w.events r) (v.events r)

-- a ring comes by the row
abbrev pub is_coming : Row → Bool
is_coming (RingRow ring) = true
is_coming _ = false

-- the step isn't the row of a ring that comes
abbrev pub BringsNone : Step → List Row → Type 0
BringsNone NextRow (row ∷ rest) = is_coming row ≡ false
BringsNone s rows = Unit {0}

-- memory is as it was, and all rings but r are
pub record ChangesOnly (r : ℕ) (w v : World) : Type 0 where
  pub memory : v.memory ≡ w.memory
  pub others : (q : ℕ) → q ≢ r → ring_held v q ≡ ring_held w q

-- what is kept stands for a scene with these rings, and these rows still to come
pub record FollowsScene (rings : Rings) (rows : List Row) (words : ℕ → ℕ) (k : Kept) (x : Scene) : Type 0 where
  pub header : x.header ≡ rings.declared
  pub live : x.live ≡ rings.live
  pub lists : Lists rings.declared rings.live
  pub left : x.rows ≡ rows
  pub follows : Follows rings.declared words k x.world

-- and the harms of its rings too
pub record IsFollowed (lists : Rings) (rows : List Row) (words : ℕ → ℕ) (k : Kept) (harms : RingHarms) (x : Scene) : Type 0 where
  pub follows : FollowsScene lists rows words k x
  pub rings : HasRingHarms x.header x.world harms
