-- Changes that the definitions allow as told
use Rattle.controller_model.proofs.Words.{arith, ◌≡◌, true, false, Option, Some, None, World, IsChange}

-- what a change says
pub record Made (o : Option World) (P : World → Type 0) : Type 0 where
  pub after : World
  pub is : o ≡ Some after
  pub holds : P after

pub made_of : (o : Option World) (P : World → Type 0) → IsChange true o P → Made o P
made_of o P made = grind arith

pub none_of : (o : Option World) (P : World → Type 0) → IsChange false o P → o ≡ None
none_of o P made = grind arith
