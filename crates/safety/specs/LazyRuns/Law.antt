-- That there is a run: the lazy schedule of a clean trace without late events reads all its rows. And how long it is at most
use Rattle.std.specs.Prelude.{◌≡◌, ◌≤◌, ◌+◌, ◌*◌, ℕ, length, List, [], ◌++◌, All, reverse, Some}
use Rattle.segments.specs.Spots.{spot_address, spot_cycle}
use Rattle.traces.specs.declared.header.Header.{Header}
use Rattle.traces.specs.declared.step.Step.{Step}
use Rattle.traces.specs.declared.row.Row.{Row}
use Rattle.traces.specs.Header.{shape_of}
use Rattle.traces.specs.AllowedHeaders.{AreUnmoved, IsHeader}
use Rattle.world_state.specs.World.{World}
use Rattle.world_state.specs.Scenes.{Scene, scene_reached}
use Rattle.ring_knowledge.specs.Known.{Known}
use Rattle.safety.specs.RingChanges.Histories.{AreKept}
use Rattle.traces.specs.Rows.{IsRow}
use Rattle.ring_knowledge.specs.Histories.{header_now, known_now}
use Rattle.safety.specs.LazyRuns.LateEvents.{IsTimely}
use Rattle.safety.specs.LazyRuns.Lazy.{lazy_run, lazy_steps}

module _ (h : Header) where
  -- the steps, the newest first, are a run beside the rows that contains them all
  pub record ContainsAll (rows : List Row) (steps : List Step) : Type 0 where
    pub scene : Scene
    pub run : scene_reached h rows steps ≡ Some scene
    pub all : scene.rows ≡ []

  -- the dequeue pointer of ring r, and its cycle state, are those of its floor
  pub record IsAtFloor (k : Known) (w : World) (r : ℕ) : Type 0 where
    pub pointer : w.pointer_of r ≡ spot_address (shape_of h r) (k.ring r).floor
    pub cycle : w.cycle_state r ≡ spot_cycle (shape_of h r) (k.ring r).floor

  -- so it is for each ring that an endpoint has
  abbrev pub AreAtFloors : Known → World → Type 0
  AreAtFloors k w = (s i r : ℕ) → k.ring_of s i ≡ Some r → IsAtFloor k w r

module _ (h : Header) where
  -- the lazy run behind the rows so far, the newest first, with the others to come
  pub record GoesSoFar (past later : List Row) : Type 0 where
    pub scene : Scene
    pub run : scene_reached h (reverse past ++ later) (lazy_run h past later) ≡ Some scene
    pub live : scene.live ≡ header_now h past
    pub left : scene.rows ≡ later
    pub floors : AreAtFloors (header_now h past) (known_now h past) scene.world

  -- a clean trace without late events, behind each of its rows
  abbrev pub LazyLaw : Type 0
  LazyLaw =
      (past later : List Row) → IsHeader h → AreUnmoved h.rings → All IsRow (reverse past ++ later) → AreKept h (reverse later ++ past) →
      IsTimely h (reverse later ++ past) → GoesSoFar past later

  -- so all of its rows are read
  abbrev pub AllAreRead : Type 0
  AllAreRead =
      (rows : List Row) → IsHeader h → AreUnmoved h.rings → All IsRow rows → AreKept h (reverse rows) → IsTimely h (reverse rows) →
      ContainsAll h rows (reverse (lazy_steps h rows))

  -- a clean trace, also one with late events, has at most three steps for each of its rows, and three more
  abbrev pub FewSteps : Type 0
  FewSteps = (rows : List Row) → IsHeader h → AreUnmoved h.rings → All IsRow rows → AreKept h (reverse rows) → length (lazy_steps h rows) ≤ 3 * length rows + 3
