-- A finish is a completion that is posted
use Rattle.controller_model.proofs.LowerLaws.{arith, rules, ◌≡◌, Option, Ok, Err, option_map, Block, Header, World, UnderWay, Seen, StepFault, ended, ended_with, finished_as, IsPart, completed, IsStep, Made, map_choice}

pub made_of_part : (A : Type 0) (x : A) (o : Option World) (P : World → Type 0) → IsPart (Ok x) o P → Made o P
made_of_part A x o P made = grind arith

-- a part of a step that fails, and the step
pub step_fails : (A : Type 0) (fault : StepFault) (part step : Option World) (f : World → World) (shown : Seen) (P Q : World → Type 0) → step ≡ option_map f part →
    IsPart {A = A} (Err fault) part P → IsStep (Err fault) step shown Q
step_fails A fault part step f shown P Q same fails = search (rules, option_map)

module _ (h live : Header) (w : World) (b : Block) where
  pub finished_as_is : (o : Option UnderWay) → finished_as h live w b o ≡ option_map (λ v. ended h v b) (completed live w b o)
  unfolding finished_as ended_with
  finished_as_is o = grind (arith, map_choice)
