use Rattle.std.proofs.lemmas.List.{take_rest}
use Rattle.trace_reader.proofs.Words.{◌≡◌, ◌==◌, ◌∷◌, ◌++◌, [], ℕ, List, true, arith, rules, nat_tests, refl, drop, length, append-nil, append_assoc, AreBlocks, BeginsWithBlock, Block}
use Rattle.trace_reader.proofs.declarations.blocks_at.Goals as goal

one_more : (done now later : List Block) (block : Block) (text rest : List ℕ) → now ≡ done ++ block ∷ [] → ((more : List Block) → AreBlocks more rest → AreBlocks (done ++ more) text) →
    BeginsWithBlock block rest → AreBlocks later (drop 36 rest) → AreBlocks (now ++ later) text
one_more done now later block text rest is so_far here are = rw (is, append_assoc done (block ∷ []) later) (so_far (block ∷ later) (here, are))

nothing_left : (rest : List ℕ) → true ≡ (length rest == 0) → rest ≡ []
nothing_left [] is = refl
nothing_left (byte ∷ rest) is = grind (arith, nat_tests)

pub loop-rest-preserved : goal.loop-rest-preserved
loop-rest-preserved c later are =
    let pushed : c.push.new.self.items ≡ c.loop-rest.blocks.items ++ c.in_ok-block.block ∷ [] = search rules in
    one_more c.loop-rest.blocks.items c.push.new.self.items later c.in_ok-block.block c.args.words.now c.loop-rest.rest.now pushed c.loop-rest.invariant c.in_ok-block.ensures
    (rw (take_rest c.loop-rest.rest.now 36) at are)

pub returns : goal.returns
returns c = rw append-nil at (c.loop-rest.invariant [] (nothing_left c.loop-rest.rest.now c.loop-rest-test.ensures))
