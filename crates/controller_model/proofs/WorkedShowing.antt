-- What the steps of worked replays show
use Rattle.controller_model.proofs.Words.{◌≡◌, [], ◌∷◌, List, take, refl, Row, Write, Reg, Bell, Usbcmd, Crcr, Step, NextRow, Look, TakenOutOfOrder, LooksOutside, scene_replayed, model_on_literals, NotPossible, Harmful, NoHarm}
use Rattle.controller_model.specs.declared.seen.Seen.TheVariants as seen
use Rattle.controller_model.proofs.WorkedReplays as worked

-- a block with a Cycle bit in the command ring's first place, the start and the doorbell
abbrev rows_with : List Row → List Row
rows_with block = Reg Crcr 65537 ∷ Reg Usbcmd 1 ∷ Bell 0 0 ∷ block

abbrev looks_behind : List Step → List Step
looks_behind steps = NextRow ∷ NextRow ∷ NextRow ∷ steps

-- a command is taken and finished: the lazy schedule's begin
pub takes_and_finishes : scene_replayed (worked.three_rings 4) worked.replay_of_a_lazy_schedule_rows (take 14 worked.replay_of_a_lazy_schedule_steps) ≡ record {
  seen =
      seen.Row ∷ seen.Row ∷ seen.Row ∷ seen.Row ∷ seen.Row ∷ seen.Row ∷ seen.Row ∷ seen.Row ∷ seen.Row ∷ seen.Row ∷ seen.Row ∷ seen.Row
      ∷ seen.Took 0 65536 (record { w = 0 ∷ 0 ∷ 0 ∷ 9217 ∷ [] }) ∷ seen.Posted 131072 ∷ [];
  ending = NoHarm;
}
unfolding model_on_literals
takes_and_finishes = refl

-- a look at an empty place waits, and doesn't become possible by it
pub waits : scene_replayed (worked.three_rings 4) (rows_with []) (looks_behind (Look 0 ∷ Look 0 ∷ NextRow ∷ Look 0 ∷ [])) ≡ record {
  seen = seen.Row ∷ seen.Row ∷ seen.Row ∷ seen.Waited ∷ seen.Waited ∷ [];
  ending = NotPossible 6;
}
unfolding model_on_literals
waits = refl

-- an undeclared command is taken: the harmful step shows what it took
pub takes_undeclared : scene_replayed (worked.three_rings 4) (rows_with (Write 65548 9217 ∷ [])) (looks_behind (NextRow ∷ Look 0 ∷ Look 0 ∷ [])) ≡ record {
  seen = seen.Row ∷ seen.Row ∷ seen.Row ∷ seen.Row ∷ seen.Took 0 65536 (record { w = 0 ∷ 0 ∷ 0 ∷ 9217 ∷ [] }) ∷ [];
  ending = Harmful 5 TakenOutOfOrder;
}
unfolding model_on_literals
takes_undeclared = refl

-- a Link is followed out of the ring's segments
pub crosses_out : scene_replayed (worked.three_rings 4) (rows_with (Write 65548 6145 ∷ [])) (looks_behind (NextRow ∷ Look 0 ∷ Look 0 ∷ [])) ≡ record {
  seen = seen.Row ∷ seen.Row ∷ seen.Row ∷ seen.Row ∷ seen.Crossed ∷ seen.Waited ∷ [];
  ending = Harmful 6 LooksOutside;
}
unfolding model_on_literals
crosses_out = refl
