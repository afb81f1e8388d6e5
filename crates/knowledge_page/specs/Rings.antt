-- What a page says of a command or transfer ring
use Rattle.std.specs.Prelude.{◌≡◌, ℕ}
use Rattle.segments.specs.Givings.{is_not_restored, unrestored}
use Rattle.segments.specs.ShapeValue.{Shape}
use Rattle.segments.specs.RingView.{RingView}
use Rattle.segments.specs.RingView as view
use Rattle.segments.specs.Ceiling as of
use Rattle.knowledge_page.specs.declared.rings.RingFacts.{RingFacts}
use Rattle.knowledge_page.specs.declared.withdrawn.Withdrawn.{Withdrawn}

-- these are the numbers of the definitions
pub record AreFacts (shape : Shape) (v : RingView) (facts : RingFacts) : Type 0 where
  pub declared : facts.declared ≡ view.declared v
  pub given : facts.given ≡ of.given_count shape v
  pub passed : facts.passed ≡ view.floor_number v
  pub floor : facts.floor ≡ v.floor
  pub ceiling : facts.ceiling ≡ of.ceiling shape v
  pub is_open : facts.is_open ≡ of.is_open v

-- these positions were withdrawn and aren't restored yet; and whether one of them doesn't stand in memory as it is declared now
pub record AreWithdrawn (shape : Shape) (v : RingView) (memory : ℕ → ℕ) (found : Withdrawn) : Type 0 where
  pub positions : found.positions.items ≡ unrestored shape v
  pub is_left : found.is_left ≡ is_not_restored shape v memory
