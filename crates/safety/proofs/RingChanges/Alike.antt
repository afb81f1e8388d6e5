-- A run of the model and the run that the rings that live see go alike, step by step, beside rows that break no rule
use Rattle.safety.proofs.UpperLaws.{is_inside_descriptor, ◌≡◌, ℕ, Bool, true, false, List, Option, Some, None, refl, subst, Header, Row, World, counted, Known, LiveScene, live_with, known_now, is_named, Scene, with_left, with_world, Left, aside, Lists, lingering, MayBegin}
use Rattle.std.proofs.Common.{option_map}
use Rattle.safety.proofs.RingChanges.LiveHeadline.{CameTo}
use Rattle.world_state.specs.DriverRows as driver

-- no ring that went is looked at
abbrev pub IsIdle : Left → World → Type 0
IsIdle l w = (r : ℕ) → l.gone r ≡ true → w.is_active r ≡ false

-- what the rings that live see, with what is left of the others put back
abbrev pub whole : Left → (ℕ → Bool) → Header → LiveScene → Scene
whole l still declared x = record { header = declared; live = x.header; rows = x.rows; world = lingering still (aside l x.world) }

-- a command ring that went while the controller halted, and that CRCR doesn't name any more: it would look at it still if it went on
pub record Lingers (l : Left) (declared : Header) (k : Known) (w : World) (r : ℕ) : Type 0 where
  pub gone : l.gone r ≡ true
  pub command : driver.is_command_ring declared r ≡ true
  pub halted : w.halted ≡ true
  pub unnamed : is_named k ≡ false
  pub ended : is_inside_descriptor (l.events r) ≡ false

-- a scene of the model, and what the rings that live see of it
module _ (h : Header) (is : MayBegin h) where
  pub record Alike (x : LiveScene) (y : Scene) : Type 0 where
    pub past : List Row
    pub came : CameTo h is past x
    pub left : Left
    pub declared : Header
    pub still : ℕ → Bool
    pub same : y ≡ whole left still declared x
    pub lists : Lists left x.header declared
    pub idle : IsIdle left x.world
    pub lingers : (r : ℕ) → still r ≡ true → Lingers left declared (known_now h past) x.world r

  -- both are possible, or neither is
  abbrev pub AreAlike : Option LiveScene → Option Scene → Type 0
  AreAlike None None = Unit {0}
  AreAlike None (Some y) = ⊥
  AreAlike (Some x) None = ⊥
  AreAlike (Some x) (Some y) = Alike x y

  -- ---- what comes of a step on both sides: the rings and the rows that are left are told

  module _ (past : List Row) (l : Left) (still : ℕ → Bool) (d g : Header) (lists : Lists l g d) (rows : List Row) where
    abbrev pub scene : World → LiveScene
    scene v = live_with g rows (counted g v)

    -- what the world behind it needs
    pub record Goes (v : World) : Type 0 where
      pub came : CameTo h is past (scene v)
      pub idle : IsIdle l v
      pub lingers : (r : ℕ) → still r ≡ true → Lingers l d (known_now h past) v r

    -- the same rows are still to come
    pub alike_step : (w before : World) (o u : Option World) → option_map (λ v. lingering still (aside l v)) o ≡ u → ((v : World) → o ≡ Some v → Goes v) →
        AreAlike (option_map scene o) (option_map (λ v. with_world (record { header = d; live = g; rows = rows; world = before }) (counted d v)) u)
    unfolding counted
    alike_step w before None u same goes =
        subst (λ (v : Option World). AreAlike None (option_map (λ v. with_world (record { header = d; live = g; rows = rows; world = before }) (counted d v)) v)) same tt
    alike_step w before (Some v) u same goes =
        let n = goes v refl in
        subst (λ (o : Option World). AreAlike (Some (scene v)) (option_map (λ v. with_world (record { header = d; live = g; rows = rows; world = before }) (counted d v)) o)) same
        (record { past = past; came = n.came; left = l; declared = d; still = still; same = refl; lists = lists; idle = n.idle; lingers = λ r is_still. let x = n.lingers r is_still in record { gone = x.gone; command = x.command; halted = x.halted; unnamed = x.unnamed; ended = x.ended } })

    -- a row of the driver was made
    pub alike_row : (y : Scene) → y.header ≡ d → y.live ≡ g → (o u : Option World) → option_map (λ v. lingering still (aside l v)) o ≡ u → ((v : World) → o ≡ Some v → Goes v) →
        AreAlike (option_map scene o) (option_map (with_left rows) (option_map (with_world y) u))
    unfolding counted
    alike_row y header live None u same goes = subst (λ (v : Option World). AreAlike None (option_map (with_left rows) (option_map (with_world y) v))) same tt
    alike_row y header live (Some v) u same goes =
        let n = goes v refl in
        subst (λ (o : Option World). AreAlike (Some (scene v)) (option_map (with_left rows) (option_map (with_world y) o))) same
        (record {
          past = past;
          came = n.came;
          left = l;
          declared = d;
          still = still;
          same = λ j. record { header = header j; live = live j; rows = rows; world = counted (header j) (lingering still (aside l v)) };
          lists = lists;
          idle = n.idle;
          lingers = λ r is_still. let x = n.lingers r is_still in record { gone = x.gone; command = x.command; halted = x.halted; unnamed = x.unnamed; ended = x.ended };
        })
