use Rattle.std.proofs.Common.{arith, refl}
use Rattle.contexts.proofs.BitsOfWords.{has_room}
use Rattle.contexts.proofs.words.add_flags.Goals as goal

pub returns : goal.returns
returns g c = λ size aligned inside.
    let room = has_room size in
    c.word_behind.ensures aligned refl (omega (arith, inside, room))
