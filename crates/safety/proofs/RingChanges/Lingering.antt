-- A command ring that went while the controller halted: the controller would look at it still when it goes on
use Rattle.safety.proofs.Words.{◌≡◌, ◌||◌, ◌∙◌, if◌then◌else◌, ℕ, Bool, false, List, Some, None, refl, ap, arith, fun_ext, Block, Header, World, ◌+◌}
use Rattle.std.specs.Prelude.{option_map}
use Rattle.world_state.specs.World as world
use Rattle.world_state.specs.DriverRows as driver
use Rattle.world_state.specs.Steps as steps

-- the world where the controller would look at these too
abbrev pub lingering : (ℕ → Bool) → World → World
lingering still w = record w { is_active = λ r. w.is_active r || still r }

or_false : (b : Bool) → (b || false) ≡ b
or_false o = grind arith

pub none_lingers : (still : ℕ → Bool) (w : World) → ((r : ℕ) → still r ≡ false) → lingering still w ≡ w
none_lingers still w none = λ j. record w { is_active = fun_ext (λ r. ap (λ b. w.is_active r || b) (none r) ∙ or_false (w.is_active r)) j }

module _ (still : ℕ → Bool) where
  chosen : (b : Bool) (w : World) → (if b then Some (lingering still w) else None) ≡ option_map (lingering still) (if b then Some w else None)
  chosen o w = grind arith

  pub scribbled_lingers : (h : Header) (w : World) (a x : ℕ) → steps.scribbled h (lingering still w) a x ≡ option_map (lingering still) (steps.scribbled h w a x)
  unfolding steps.scribbled steps.is_scribbled world.stored
  scribbled_lingers h w a x = chosen _ (world.stored w a x)

  pub declared_lingers : (h : Header) (w : World) (r : ℕ) (blocks : List Block) → driver.declared h (lingering still w) r blocks ≡ lingering still (driver.declared h w r blocks)
  unfolding driver.declared
  declared_lingers h w r blocks = refl

  pub stored_lingers : (w : World) (a x : ℕ) → world.stored (lingering still w) a x ≡ lingering still (world.stored w a x)
  unfolding world.stored
  stored_lingers w a x = refl

  pub read_lingers : (h : Header) (w : World) (e : Block) → driver.event_read h (lingering still w) e ≡ option_map (lingering still) (driver.event_read h w e)
  unfolding driver.event_read world.event_at
  read_lingers h w e = chosen _ (record w { reads = w.reads + 1 })

  pub phase_lingers : (h : Header) (w : World) (v : ℕ) → driver.run_or_stop h (lingering still w) v ≡ lingering still (driver.run_or_stop h w v)
  unfolding driver.run_or_stop driver.runs_once driver.runs_again
  phase_lingers h w v = grind arith

  pub dequeue_lingers : (h : Header) (w : World) (a : ℕ) → driver.with_dequeue h (lingering still w) a ≡ lingering still (driver.with_dequeue h w a)
  unfolding driver.with_dequeue
  dequeue_lingers h w a = grind arith

  pub reset_lingers : (w : World) → driver.reset (lingering still w) ≡ driver.reset w
  unfolding driver.reset
  reset_lingers w = refl
