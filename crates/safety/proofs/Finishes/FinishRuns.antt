-- However the controller finishes the command under way, the run goes on
use Rattle.safety.proofs.MiddleLaws.{◌≡◌, ◌==◌, ◌∙◌, true, false, Option, None, Some, refl, sym, rules, cond-true, none-some, Block, IsBlock, code, slot, Command, AddressDevice, ConfigureEndpoint, SetTrDequeue, command_of, Header, IsHeader, World, UnderWay, counted, DriverKeeps, CommandKeeps, IsUnfinished, next_command, Runs, all_read, Known, IsFinish, finish_is, StatesMatch, states_match, command_numbered, runs_more}
use Rattle.std.proofs.Common.{option_map}
use Rattle.safety.proofs.Finishes.FinishSuccess.{EffectKeeps, success_keeps}
use Rattle.safety.proofs.Finishes.FinishFails.{finish_failure_runs, floor, of_block, here_is}
use Rattle.safety.proofs.Finishes.FinishSlots.{effect_keeps}
use Rattle.safety.proofs.Finishes.FinishDequeue.{dequeue_keeps}
use Rattle.safety.proofs.Finishes.FinishAddress.{address_keeps}
use Rattle.safety.proofs.Finishes.FinishConfigure.{configure_keeps}
use Rattle.world_state.specs.Finishes as finishes

-- a block that is no command of the profile never succeeds
no_success : (h : Header) (w v : World) (b : Block) (u : UnderWay) → command_of u.block ≡ None → (code b == 1) ≡ true → finishes.ended_with h h w b u ≡ Some v → ⊥
unfolding finishes.ended_with finishes.succeeded
no_success h w v b u none one at = search (rules, none-some, option_map, slot, cond-true, code)

module _ (h : Header) (is : IsHeader h) (now : Known) (w v : World) (b : Block) (block : IsBlock b) (running : w.stopped ≡ false) (run : Runs h now w)
    (d : DriverKeeps h (all_read h now run.unread)) (one : (code b == 1) ≡ true) (at : finishes.finished h h w b ≡ Some v) where
  abbrev k : Known
  k = all_read h now run.unread

  states : StatesMatch h k w
  states = states_match h is k w d d.numbered run.agrees.matches

  -- what a command does keeps that states agree
  effect : (e : Command) (x : Block) → command_of x ≡ Some e → CommandKeeps h k (next_command h k) e → EffectKeeps h k w (slot b) e
  effect (AddressDevice s bsr n) x is_e given = address_keeps h is k d s n bsr given w (slot b) run.agrees.stands states (command_numbered x (AddressDevice s bsr n) is_e)
  effect (ConfigureEndpoint s false a) x is_e given = configure_keeps h is k d s a given w (slot b) run.agrees.stands states (command_numbered x (ConfigureEndpoint s false a) is_e)
  effect (SetTrDequeue s i p cycle) x is_e given = dequeue_keeps h is k d s i p cycle w (slot b) states given
  effect e x is_e given = effect_keeps h k w (slot b) e tt states

  taken_runs : (f : IsFinish h w v b) (o : Option Command) → command_of f.taken.block ≡ o → Runs h now (counted h v)
  taken_runs f None none = absurd (no_success h w v b f.taken none one f.ends)
  taken_runs f (Some e) is_e =
      let here = floor h is k run.unread w v b block running d run.agrees f in
      let is_here : command_of here.block ≡ Some e = sym (of_block h is k run.unread w v b block running d run.agrees f) ∙ is_e in
      let given : IsUnfinished h k (next_command h k) e = record { due = here.due; given = here.given; command = here_is h is k run.unread w v b block running d run.agrees f e is_here } in
      runs_more h now w v b block run
      (success_keeps h is k run.unread w v b block running d run.agrees f one e is_here (effect e f.taken.block is_e (d.unfinished (next_command h k) e given)))

  any_success_runs : Runs h now (counted h v)
  any_success_runs = let f = finish_is h w v b at in taken_runs f (command_of f.taken.block) refl

pub finish_runs : (h : Header) → IsHeader h → (now : Known) (w v : World) (b : Block) → IsBlock b → w.stopped ≡ false → (run : Runs h now w) →
    DriverKeeps h (all_read h now run.unread) → finishes.finished h h w b ≡ Some v → Runs h now (counted h v)
finish_runs h is now w v b block running run d at = search (rules, code, any_success_runs, finish_failure_runs)
