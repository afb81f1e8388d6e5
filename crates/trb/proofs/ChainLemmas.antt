-- The Chain bits of a descriptor, by the blocks before the last and the last
use Rattle.trb.proofs.Words.{◌≡◌, ◌-◌, ◌≤◌, not, ◌&&◌, List, [], ◌∷◌, length, take, get_or, arith, refl, sym, ap, ◌∙◌, list_all, Block, is_chained, is_chain}
use Rattle.std.proofs.Math.Bool.{and_assoc}

is_chain-cons :
    (b : Block) (rest : List Block) (d : Block)
    → is_chain (b ∷ rest) ≡ (list_all is_chained (take (length rest) (b ∷ rest)) && not (is_chained (get_or (b ∷ rest) (length rest) d)))
is_chain-cons b [] d = refl
is_chain-cons b (c ∷ rest) d =
    ap (λ t. is_chained b && t) (is_chain-cons c rest d)
    ∙ sym (and_assoc (is_chained b) (list_all is_chained (take (length rest) (c ∷ rest))) (not (is_chained (get_or (c ∷ rest) (length rest) d))))

pub is_chain-by_last :
    (blocks : List Block) (d : Block) → 1 ≤ length blocks
    → is_chain blocks
    ≡ (list_all is_chained (take (length blocks - 1) blocks) && not (is_chained (get_or blocks (length blocks - 1) d)))
is_chain-by_last [] d some = absurd (omega arith)
is_chain-by_last (b ∷ rest) d some =
    let before : length (b ∷ rest) - 1 ≡ length rest = omega arith in
    rw before (is_chain-cons b rest d)
