use Rattle.std.proofs.Common.{arith, refl, ap, ◌∙◌, ◌≡◌, ◌+◌}
use Rattle.contexts.proofs.BitsOfWords.{has_room}
use Rattle.contexts.proofs.words.drop_flags.Goals as goal

pub returns : goal.returns
returns g c = λ size aligned inside.
    let room = has_room size in
    c.word_behind.ensures aligned refl (omega (arith, inside, room)) ∙ ap (g.M.WordMemory.words c.args.memory.now) (let same : c.args.address + 0 ≡ c.args.address = omega arith in same)
