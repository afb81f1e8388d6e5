-- Which way a look goes
use Rattle.controller_model.proofs.Words.{arith, ◌≡◌, ◌==◌, ◌||◌, ◌&&◌, ◌∙◌, ◌↔◌, ℕ, Bool, false, Option, Some, None, Ok, Err, is_some, option_map, ap, sym, refl, Result, Command, result_ok, Header, command_id, World, may_scribble, addressed, is_it, under_way_of, Pending}

pub or_false : (b : Bool) → (b || false) ≡ b
or_false b = grind arith

pub may_scribble_is : (h : Header) (o : Option Command) (w : World) (t : ℕ) → may_scribble h o w t ≡ (w.scribbles t || is_it t (addressed o))
unfolding may_scribble
may_scribble_is h o w t = grind (arith, or_false)

pub read_is : {E : Type 0} (r : Result Command E) (o : Option Command) → ((c : Command) → (r ≡ Ok c) ↔ (o ≡ Some c)) → result_ok r ≡ o
read_is (Ok x) o f = sym ((f x).0 refl)
read_is (Err e) None f = refl
read_is (Err e) (Some y) f = let wrong = (f y).1 refl in absurd (cc)

pub is_some-map : {A B : Type 0} (f : A → B) (o : Option A) → is_some (option_map f o) ≡ is_some o
is_some-map f o = grind arith

-- a command is under way where one is kept
pub busy : (h : Header) (w : World) (r : ℕ) (o : Option Pending) → w.under_way ≡ option_map under_way_of o →
    (r == command_id h && is_some o) ≡ (r == command_id h && is_some w.under_way)
busy h w r o e = ap (λ b. r == command_id h && b) (sym (ap (λ v. is_some v) e ∙ is_some-map under_way_of o))
