-- What an attempt at a schedule has made
use Rattle.std.specs.Prelude.{◌≡◌}
use Rattle.guest_memory.specs.Page.{word_in}
use Rattle.controller_model.specs.Worlds.{StandsFor}
use Rattle.replayer.specs.Schedules.Making.{Making}
use Rattle.replayer.specs.declared.scheduler.attempt.Attempt.{Attempt}

abbrev pub HasMade : Attempt → Making → Type 0
HasMade a m = StandsFor word_in a.world m.scene × (a.steps.items ≡ m.steps)
