-- Runs beside rows between which rings come and go. That a ring goes ends its life, and nothing else: from then on a look at it is outside and
-- no pointer names it; what an endpoint has, what is active and what was taken stays, and harm is asked of it as of any other: xHCI 4.9
use Rattle.std.specs.Prelude.{if◌then◌else◌, List, [], ◌∷◌, Option, Some, None, option_and_then, option_map}
use Rattle.traces.specs.declared.header.Header.{Header}
use Rattle.traces.specs.declared.step.Step.{Step}
use Rattle.traces.specs.declared.step.Step.TheVariants.{NextRow}
use Rattle.traces.specs.declared.ring.Ring.{Ring}
use Rattle.traces.specs.declared.row.Row.{Row}
use Rattle.traces.specs.declared.row.Row.TheVariants.{Ring as RingRow, Free as FreeRow, Nop as NopRow}
use Rattle.world_state.specs.World.{World, opening}
use Rattle.world_state.specs.DriverRows.{row_done}
use Rattle.traces.specs.LivingRings.{with_ring, without_ring}
use Rattle.world_state.specs.RingRows.{listed, may_come, resting, without_descriptor}
use Rattle.world_state.specs.Steps.{counted, made}

-- the rings that were declared, those of them that live, the rows still to come, and the world
pub record Scene : Type 0 where
  pub header : Header
  pub live : Header
  pub rows : List Row
  pub world : World

abbrev pub with_world : Scene → World → Scene
with_world x w = record x { world = w }

-- a ring comes: nothing is declared on it, nothing has happened, and the controller doesn't look at it
abbrev pub with_coming : Scene → Ring → Scene
with_coming x r = record x { header = listed x.header r; live = with_ring x.live r; world = resting x.world r.id }

-- what a row does; None where it isn't possible. Where one that lives is in its way, a ring that comes has no effect
abbrev pub row_made : Scene → Row → Option Scene
row_made x (RingRow ring) = Some (if may_come x.live ring then with_coming x ring else x)
row_made x (FreeRow id) = Some (record x { live = without_ring x.live id })
row_made x (NopRow r p) = Some (with_world x (without_descriptor x.world r p))
row_made x row = option_map (with_world x) (row_done x.header x.world row)

-- a row was made, and these are left
abbrev pub with_left : List Row → Scene → Scene
with_left rest x = record x { rows = rest; world = counted x.header x.world }

abbrev pub row_next : Scene → List Row → Option Scene
row_next x [] = None
row_next x (row ∷ rest) = option_map (with_left rest) (row_made x row)

-- the scene behind a step; None where the step isn't possible
abbrev pub step_made : Scene → Step → Option Scene
step_made x NextRow = row_next x x.rows
step_made x s = option_map (λ w. with_world x (counted x.header w)) (made x.header x.live x.world s)

-- before the first row of a trace with this header
abbrev pub scene_before : Header → List Row → Scene
scene_before h rows = record { header = h; live = h; rows = rows; world = opening }

module _ (h : Header) where
  -- the scene that steps lead to beside these rows, the newest step first
  abbrev pub scene_reached : List Row → List Step → Option Scene
  scene_reached rows [] = Some (scene_before h rows)
  scene_reached rows (s ∷ older) = option_and_then (λ x. step_made x s) (scene_reached rows older)
