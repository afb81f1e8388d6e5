-- A run beside rows is a run beside these rows and more
use Rattle.bench.proofs.Words.{◌≡◌, ◌++◌, ◌∙◌, ℕ, Bool, true, false, List, [], ◌∷◌, Option, Some, None, Ok, Err, refl, ap, sym, subst, if◌then◌else◌, none-some, option_map, option_and_then, Header, Ring, Row, Sub, Write, Reg, Bell, Read, RegRead, RingRow, FreeRow, NopRow, Step, NextRow, Look, Report, Finish, Other, Scribble, Halt, World, row_done, may_come, counted, made, IsBeside, IsStep, Controller, NotPossible, Seen, with_row, Scene, row_made, row_next, scene_reached, step_made, with_coming, with_left, with_world}

abbrev pub more : List Row → Scene → Scene
more rest x = record x { rows = x.rows ++ rest }

module _ (rest : List Row) where
  comes_more : (comes : Bool) (x : Scene) (r : Ring) → (if comes then with_coming (more rest x) r else more rest x) ≡ more rest (if comes then with_coming x r else x)
  comes_more true x r = refl
  comes_more false x r = refl

  done_more : (x : Scene) (o : Option World) → option_map (with_world (more rest x)) o ≡ option_map (more rest) (option_map (with_world x) o)
  done_more x None = refl
  done_more x (Some w) = refl

  row_more : (x : Scene) (row : Row) → row_made (more rest x) row ≡ option_map (more rest) (row_made x row)
  row_more x (RingRow r) = ap (λ y. Some y) (comes_more (may_come x.live r) x r)
  row_more x (FreeRow id) = refl
  row_more x (NopRow r p) = refl
  row_more x (Sub r bs) = done_more x (row_done x.header x.world (Sub r bs))
  row_more x (Write a w) = done_more x (row_done x.header x.world (Write a w))
  row_more x (Reg g v) = done_more x (row_done x.header x.world (Reg g v))
  row_more x (Bell s t) = done_more x (row_done x.header x.world (Bell s t))
  row_more x (Read b) = done_more x (row_done x.header x.world (Read b))
  row_more x (RegRead g v) = done_more x (row_done x.header x.world (RegRead g v))

  left_more : (left : List Row) (o : Option Scene) (y : Scene) → option_map (with_left left) o ≡ Some y → option_map (with_left (left ++ rest)) (option_map (more rest) o) ≡ Some (more rest y)
  left_more left None y at = absurd (none-some _ at)
  left_more left (Some z) y at = ap (λ o. option_map (more rest) o) at

  next_more : (rows : List Row) (x y : Scene) → row_next x rows ≡ Some y → row_next (more rest x) (rows ++ rest) ≡ Some (more rest y)
  next_more [] x y at = absurd (none-some _ at)
  next_more (row ∷ left) x y at =
      subst (λ o. option_map (with_left (left ++ rest)) o ≡ Some (more rest y)) (sym (row_more x row)) (left_more left (row_made x row) y at)

  world_more : (x y : Scene) (o : Option World) → option_map (λ w. with_world x (counted x.header w)) o ≡ Some y →
      option_map (λ w. with_world (more rest x) (counted x.header w)) o ≡ Some (more rest y)
  world_more x y None at = absurd (none-some _ at)
  world_more x y (Some w) at = ap (λ o. option_map (more rest) o) at

  step_more : (x y : Scene) (s : Step) → step_made x s ≡ Some y → step_made (more rest x) s ≡ Some (more rest y)
  step_more x y NextRow at = next_more x.rows x y at
  step_more x y (Look r) at = world_more x y (made x.header x.live x.world (Look r)) at
  step_more x y (Report b) at = world_more x y (made x.header x.live x.world (Report b)) at
  step_more x y (Finish b) at = world_more x y (made x.header x.live x.world (Finish b)) at
  step_more x y (Other b) at = world_more x y (made x.header x.live x.world (Other b)) at
  step_more x y (Scribble a w) at = world_more x y (made x.header x.live x.world (Scribble a w)) at
  step_more x y Halt at = world_more x y (made x.header x.live x.world Halt) at

  then_more : (s : Step) (x : Scene) (o p : Option Scene) → ((y : Scene) → o ≡ Some y → p ≡ Some (more rest y)) → option_and_then (λ y. step_made y s) o ≡ Some x →
      option_and_then (λ y. step_made y s) p ≡ Some (more rest x)
  then_more s x None p further at = absurd (none-some _ at)
  then_more s x (Some y) p further at = subst (λ o. option_and_then (λ z. step_made z s) o ≡ Some (more rest x)) (sym (further y refl)) (step_more y x s at)

  pub reached_more : (h : Header) (rows : List Row) (steps : List Step) (x : Scene) → scene_reached h rows steps ≡ Some x → scene_reached h (rows ++ rest) steps ≡ Some (more rest x)
  reached_more h rows [] x at = ap (λ o. option_map (more rest) o) at
  reached_more h rows (s ∷ older) x at =
      then_more s x (scene_reached h rows older) (scene_reached h (rows ++ rest) older) (λ y here. reached_more h rows older y here) at

-- ---- the rows that are left

abbrev rows_in : Option Scene → List Row
rows_in None = []
rows_in (Some x) = x.rows

kept_rows : (x y : Scene) (o : Option World) → option_map (λ w. with_world x (counted x.header w)) o ≡ Some y → y.rows ≡ x.rows
kept_rows x y None at = absurd (none-some _ at)
kept_rows x y (Some w) at = sym (ap rows_in at)

pub none_left : (x y : Scene) (s : Step) → x.rows ≡ [] → step_made x s ≡ Some y → y.rows ≡ []
none_left x y NextRow none at = absurd (none-some _ (sym (ap (λ rows. row_next x rows) none) ∙ at))
none_left x y (Look r) none at = kept_rows x y (made x.header x.live x.world (Look r)) at ∙ none
none_left x y (Report b) none at = kept_rows x y (made x.header x.live x.world (Report b)) at ∙ none
none_left x y (Finish b) none at = kept_rows x y (made x.header x.live x.world (Finish b)) at ∙ none
none_left x y (Other b) none at = kept_rows x y (made x.header x.live x.world (Other b)) at ∙ none
none_left x y (Scribble a w) none at = kept_rows x y (made x.header x.live x.world (Scribble a w)) at ∙ none
none_left x y Halt none at = kept_rows x y (made x.header x.live x.world Halt) at ∙ none

left_none : (o : Option Scene) (y : Scene) → option_map (with_left []) o ≡ Some y → y.rows ≡ []
left_none None y at = absurd (none-some _ at)
left_none (Some z) y at = sym (ap rows_in at)

-- behind its only row
pub row_passed : (x y : Scene) (row : Row) → step_made (with_row x row) NextRow ≡ Some y → y.rows ≡ []
row_passed x y row at = left_none (row_made (with_row x row) row) y at

-- ---- steps as they are answered

pub step_shown : {X : Type 0} (o : Option X) (seen shown : Seen) (P : X → Type 0) → IsStep (Ok seen) o shown P → (y : X) × (o ≡ Some y) × (seen ≡ shown) × P y
step_shown None seen shown P is = absurd is
step_shown (Some y) seen shown P is = (y, refl, is.0, is.1)

pub step_refused : {X : Type 0} (o : Option X) (shown : Seen) (P : X → Type 0) → IsStep (Err NotPossible) o shown P → o ≡ None
step_refused None shown P is = refl
step_refused (Some y) shown P is = absurd is

-- the controller stands for a scene whatever rows are left there
pub beside_rows : {M : Type 0} (words : M → ℕ → ℕ) (c : Controller M) (x : Scene) (rows : List Row) → IsBeside words c x → IsBeside words c (record x { rows = rows })
beside_rows words c x rows b = record {
  unspent = b.unspent;
  followed = record {
    follows = record {
      header = b.followed.follows.header;
      live = b.followed.follows.live;
      lists = b.followed.follows.lists;
      left = refl;
      follows = b.followed.follows.follows;
    };
    rings = b.followed.rings;
  };
}
