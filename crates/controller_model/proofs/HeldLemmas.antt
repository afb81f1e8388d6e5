-- Four words make a block
use Rattle.controller_model.proofs.Words.{rules, ◌≡◌, ◌+◌, ℕ, Block, word, Held, held_stored, held_block}

pub held_four : (h first second third fourth : Held) (a a0 a1 a2 a3 step : ℕ) (b : Block) →
    a0 ≡ a + 0 → a1 ≡ a + 4 → a2 ≡ a + 8 → a3 ≡ a + 12 →
    first ≡ held_stored h a0 (word b 0) step → second ≡ held_stored first a1 (word b 1) step →
    third ≡ held_stored second a2 (word b 2) step → fourth ≡ held_stored third a3 (word b 3) step →
    fourth ≡ held_block h a b step
held_four h first second third fourth a a0 a1 a2 a3 step b e0 e1 e2 e3 p0 p1 p2 p3 = search rules
