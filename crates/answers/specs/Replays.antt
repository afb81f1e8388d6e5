-- What is told of a replay
use Rattle.std.specs.Prelude.{ℕ, List, [], ◌∷◌, ◌++◌, codes, decimal}
use Rattle.std.specs.List.{flat_map}
use Rattle.std.specs.Int.{w8, w32, w64}
use Rattle.line_text.specs.Numbers.{digits_of}
use Rattle.trb.specs.declared.block.Block.{Block}
use Rattle.world_state.specs.Harm.{number_of}
use Rattle.controller_model.specs.declared.seen.Seen.{Seen}
use Rattle.controller_model.specs.declared.seen.Seen.TheVariants.{Row, Waited, Crossed, Took, Posted, Scribbled, Halted}
use Rattle.answers.specs.declared.answer.Status.{Status}
use Rattle.answers.specs.declared.answer.Status.TheVariants.{Clean, Unclean}
use Rattle.answers.specs.declared.replay_lines.ReplayEnd.{ReplayEnd}
use Rattle.answers.specs.declared.replay_lines.ReplayEnd.TheVariants.{NoHarm, Harmful, NotPossible}

abbrev pub end_status : ReplayEnd → Status
end_status NoHarm = Clean
end_status (Harmful step harm) = Unclean
end_status (NotPossible step) = Unclean

-- words, each behind a space
abbrev pub words_text : List ℕ → List ℕ
words_text words = flat_map (λ w. 32 ∷ digits_of w32 w) words

-- a take: of which ring, where the block lies, and its words
abbrev pub take_line : ℕ → ℕ → Block → List ℕ
take_line ring at block = codes "took " ++ digits_of w8 ring ++ codes " " ++ digits_of w64 at ++ words_text block.w ++ 10 ∷ []

-- of steps that take nothing nothing is told
abbrev pub take_text : Seen → List ℕ
take_text (Took ring at block) = take_line ring at block
take_text Row = []
take_text Waited = []
take_text Crossed = []
take_text (Posted at) = []
take_text Scribbled = []
take_text Halted = []

abbrev pub takes_text : List Seen → List ℕ
takes_text seen = flat_map take_text seen

abbrev pub end_text : ReplayEnd → List ℕ
end_text NoHarm = codes "no harm\n"
end_text (Harmful step harm) = codes "step " ++ decimal step ++ codes ": harm " ++ decimal (number_of harm) ++ codes "\n"
end_text (NotPossible step) = codes "step " ++ decimal step ++ codes ": not possible\n"

-- the takes, a line each, and how it ends
abbrev pub replay_text : List Seen → ReplayEnd → List ℕ
replay_text seen ending = takes_text seen ++ end_text ending
