-- Which commands of one slot may be unfinished side by side: xHCI 4.6.5 to 4.6.10, 4.5.3, 4.8.3
use Rattle.std.specs.Prelude.{ℕ, ◌==◌, ◌&&◌, ◌||◌, Bool, true, false, Option, Some, None, not}
use Rattle.contexts.specs.Contexts.{input_add_flag, input_drop_flag}
use Rattle.commands.specs.declared.command.Command.{Command}
use Rattle.commands.specs.declared.command.Command.TheVariants.{ConfigureEndpoint, EvaluateContext, ResetEndpoint, StopEndpoint, SetTrDequeue}
use Rattle.commands.specs.Command.{name_one_slot, named_endpoint}

-- what of its slot a command is about: the endpoints with these indices, and the slot as a whole (0). A command that names an endpoint is about that
-- one; Configure Endpoint is about those that its input context drops or adds, or with DC 1 all but the default control endpoint; Evaluate Context
-- about those whose contexts it gives; any other about all
abbrev pub concerns : (ℕ → ℕ) → Command → ℕ → Bool
concerns memory (ConfigureEndpoint s true x) i = not (i == 1)
concerns memory (ConfigureEndpoint s false x) i = i == 0 || input_drop_flag memory x i || input_add_flag memory x i
concerns memory (EvaluateContext s x) i = i == 0 || input_add_flag memory x i
concerns memory (ResetEndpoint s j) i = j == i
concerns memory (StopEndpoint s j) i = j == i
concerns memory (SetTrDequeue s j p cycle) i = j == i
concerns memory c i = true

-- it is about the endpoint that another command names, where that names one
abbrev pub concerns_named : (ℕ → ℕ) → Command → Option (ℕ × ℕ) → Bool
concerns_named memory c None = true
concerns_named memory c (Some e) = concerns memory c e.1

-- of one slot, and neither is about an endpoint alone that the other leaves alone: the one may not be given while the other is unfinished
abbrev pub exclude : (ℕ → ℕ) → Command → Command → Bool
exclude memory c d = name_one_slot c d && concerns_named memory c (named_endpoint d) && concerns_named memory d (named_endpoint c)
