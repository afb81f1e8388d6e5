-- What a Transfer Event says doesn't rest on its own post
use Rattle.controller_model.proofs.Words.{arith, rules, ◌≡◌, ◌+◌, if◌then◌else◌, ℕ, Bool, Option, position, option_map, Block, Header, World, stored, stored_block, unreported, posted, code_posted, report_code, report_error, report_stop, report_success, reported_on, stopped_with, with_reported, told, names}

map_twice : {A B C : Type 0} (f : B → C) (g : A → B) (o : Option A) → option_map (λ n. f (g n)) o ≡ option_map f (option_map g o)
map_twice f g o = grind arith

pub map_choice : {A B : Type 0} (f : A → B) (t : Bool) (x y : Option A) (x' y' : Option B) → x' ≡ option_map f x → y' ≡ option_map f y →
    (if t then x' else y') ≡ option_map f (if t then x else y)
map_choice f t x y x' y' e d = grind arith

module _ (h : Header) (w : World) (b e : Block) (r : ℕ) where
  success_posted : report_success h (posted h w b) r e ≡ option_map (λ v. posted h v b) (report_success h w r e)
  unfolding report_success with_reported posted stored stored_block unreported
  success_posted =
      map_twice (λ v. posted h v b) (λ n. with_reported h w r (w.reported r + n + 1)) (position (names e) (unreported w r))

  module _ (s i : ℕ) where
    report_posted : (c : ℕ) → report_code h (posted h w b) c s i r e ≡ option_map (λ v. posted h v b) (report_code h w c s i r e)
    unfolding report_code report_error with_reported posted stored stored_block unreported report_stop stopped_with
    report_posted c = search (rules, option_map, map_choice, success_posted)

module _ (h : Header) (w : World) (b : Block) where
  pub told_posted : (o : Option ℕ) → reported_on h w b o ≡ option_map (λ v. posted h v b) (told h w b o)
  unfolding reported_on code_posted
  told_posted o = grind (arith, report_posted)
