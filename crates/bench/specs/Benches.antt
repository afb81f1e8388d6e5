-- What a bench stands for: the rows that were made, and the controller's steps beside them
use Rattle.std.specs.Prelude.{◌≡◌, ◌+◌, ◌%◌, ◌^◌, ℕ, true, List, [], ◌∷◌, Option, Some, None, length, reverse}
use Rattle.trb.specs.declared.block.Block.{Block}
use Rattle.trb.specs.Block.{word}
use Rattle.segments.specs.Places.{address_of}
use Rattle.traces.specs.Header.{event_shape}
use Rattle.traces.specs.declared.header.Header.{Header}
use Rattle.traces.specs.declared.row.Row.{Row}
use Rattle.traces.specs.declared.step.Step.{Step}
use Rattle.traces.specs.declared.step.Step.TheVariants.{NextRow, Look, Report, Finish, Other, Scribble, Halt}
use Rattle.world_state.specs.Scenes.{Scene, scene_reached}
use Rattle.controller_model.specs.Controllers.{IsBeside}
use Rattle.ring_knowledge.specs.Histories.{header_now, known_now}
use Rattle.ownership_rules.specs.declared.refusal.Refusal.{Refusal}
use Rattle.ownership_checker.specs.RingPasses.Clean.{AreClean, IsLeastOfRow}
use Rattle.ownership_checker.specs.RingPasses.Passing.{IsRingPassed}
use Rattle.bench.specs.declared.bench.Bench.{Bench}
use Rattle.bench.specs.declared.written.Written.{Written}

-- the four words of an event at an address: xHCI 6.4.2
abbrev pub words_at : ℕ → Block → List Written
words_at a b =
    (record { at = a; word = word b 0 }) ∷ (record { at = (a + 4) % 2 ^ 64; word = word b 1 }) ∷ (record { at = (a + 8) % 2 ^ 64; word = word b 2 })
    ∷ (record { at = (a + 12) % 2 ^ 64; word = word b 3 }) ∷ []

-- where the next event goes: xHCI 4.9.4
abbrev pub next_event : Scene → ℕ
next_event x = address_of (event_shape x.header) x.world.posted

-- the words that a step of the controller writes, in their order: those of an event, or one of a device context
abbrev pub words_told : Scene → Step → List Written
words_told x (Report b) = words_at (next_event x) b
words_told x (Finish b) = words_at (next_event x) b
words_told x (Other b) = words_at (next_event x) b
words_told x (Scribble a w) = (record { at = a; word = w }) ∷ []
words_told x (Look r) = []
words_told x Halt = []
words_told x NextRow = []

-- the rows that were made, the newest first, and the steps, the newest first, lead from before the first row to this scene, in which no row is
-- left; told are the words that the controller wrote since it was told last
pub record IsBench {M : Type 0} (words : M → ℕ → ℕ) (h : Header) (past : List Row) (steps : List Step) (told : List Written) (x : Scene) (b : Bench M) : Type 0 where
  pub reached : scene_reached h (reverse past) steps ≡ Some x
  pub none_left : x.rows ≡ []
  pub beside : IsBeside words b.controller x
  pub scheduled : b.steps.items ≡ reverse steps
  pub written : b.written.items ≡ told
  pub counted : b.rows ≡ length past
  pub judged : b.is_judging ≡ true → IsRingPassed words h past b.judge

-- the rows so far broke no rule, and the next is judged
abbrev pub IsJudging : {M : Type 0} → Bench M → Type 0
IsJudging b = b.is_judging ≡ true

-- what is told of a row behind rows that break no rule: it breaks none either, or this is the least that it breaks
abbrev pub IsRowJudged : Header → List Row → Row → Option Refusal → Type 0
IsRowJudged h past row None = AreClean h (row ∷ past)
IsRowJudged h past row (Some c) = AreClean h past × IsLeastOfRow (header_now h past) (known_now h past) row c

-- the scene in which one row is left
abbrev pub with_row : Scene → Row → Scene
with_row x row = record x { rows = row ∷ [] }

-- it stands for these rows and some steps
abbrev pub IsBenchOf : {M : Type 0} → (M → ℕ → ℕ) → Header → List Row → Bench M → Type 0
IsBenchOf words h past b = (steps : List Step) × (told : List Written) × (x : Scene) × IsBench words h past steps told x b

-- it stands for some rows
abbrev pub HasBench : {M : Type 0} → (M → ℕ → ℕ) → Bench M → Type 0
HasBench words b = (h : Header) × (past : List Row) × IsBenchOf words h past b
