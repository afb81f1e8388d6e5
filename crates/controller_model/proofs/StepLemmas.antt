-- Which definition a step goes by
use Rattle.controller_model.proofs.Words.{has_runs, is_none, Bool, Ring, sym, ◌∙◌, ap, event_ring, noting_post, or-true, arith, rules, ◌≡◌, ◌≢◌, ◌&&◌, ◌||◌, true, false, Option, Some, None, Ok, Err, option_map, Header, Step, NextRow, World, Seen, StepFault, acts, counted, made, stepped, until_halted, while_running, IsStep}

module _ (h : Header) (w : World) where
  -- after the stop only rows are possible, and once it has halted a controller looks at nothing and posts nothing
  pub made_idle : (live : Header) (s : Step) → s ≢ NextRow → (w.stopped || (w.halted && acts s)) ≡ true → made h live w s ≡ None
  unfolding made until_halted while_running
  made_idle live s other e = grind arith

  pub runs_on : (o : Option World) → (w.stopped || (w.halted && false)) ≡ false → while_running h w o ≡ o
  unfolding while_running
  runs_on o e = grind arith

  pub acts_on : (o : Option World) → (w.stopped || (w.halted && true)) ≡ false → until_halted h w o ≡ o
  unfolding until_halted while_running
  acts_on o e = grind arith

-- a step that isn't counted yet, and the one that is
pub step_counted : (h live : Header) (w : World) (s : Step) (seen shown : Seen) (P Q : World → Type 0) → ((v : World) → P v → Q (counted h v)) →
    IsStep (Ok seen) (made h live w s) shown P → IsStep (Ok seen) (stepped h live w s) shown Q
unfolding stepped
step_counted h live w s seen shown P Q more made_so = search (rules, option_map)

pub step_uncounted : (h live : Header) (w : World) (s : Step) (fault : StepFault) (shown : Seen) (P Q : World → Type 0) →
    IsStep (Err fault) (made h live w s) shown P → IsStep (Err fault) (stepped h live w s) shown Q
unfolding stepped
step_uncounted h live w s fault shown P Q made_so = search (rules, option_map)

or_none : (b : Bool) → (b || false) ≡ b
or_none b = grind arith

and_none : (b : Bool) → (b && false) ≡ false
and_none b = grind arith

module _ (live : Header) (w : World) where
  -- the mark of the worlds behind a post
  noted_with : (b : Bool) → (w.posted_nowhere || (is_none (event_ring live) && has_runs live.version)) ≡ b → noting_post live w ≡ record w { posted_nowhere = b }
  unfolding noting_post
  noted_with b same = (λ i. record w { posted_nowhere = same i })

  pub noted_nowhere : has_runs live.version ≡ true → None ≡ event_ring live → noting_post live w ≡ record w { posted_nowhere = true }
  noted_nowhere runs none = noted_with true (ap (λ o. w.posted_nowhere || (is_none o && has_runs live.version)) (sym none) ∙ ap (λ b. w.posted_nowhere || b) runs ∙ or-true w.posted_nowhere)

  pub noted_there : (x : Ring) → Some x ≡ event_ring live → noting_post live w ≡ w
  noted_there x some = noted_with w.posted_nowhere (ap (λ o. w.posted_nowhere || (is_none o && has_runs live.version)) (sym some) ∙ or_none w.posted_nowhere)

  pub noted_once : has_runs live.version ≡ false → noting_post live w ≡ w
  noted_once once = noted_with w.posted_nowhere (ap (λ b. w.posted_nowhere || (is_none (event_ring live) && b)) once ∙ ap (λ b. w.posted_nowhere || b) (and_none (is_none (event_ring live))) ∙ or_none w.posted_nowhere)

-- of what a step leads to something else holds
pub step_more : {X : Type 0} (o : Option X) (seen shown : Seen) (P Q : X → Type 0) → ((v : X) → o ≡ Some v → P v → Q v) → IsStep (Ok seen) o shown P → IsStep (Ok seen) o shown Q
step_more o seen shown P Q more step = grind arith
