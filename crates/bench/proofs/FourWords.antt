-- Four words are those of a block
use Rattle.bench.proofs.Words.{◌≡◌, ◌<◌, ◌^◌, ◌∷◌, ℕ, zero, suc, [], arith, refl, sym, subst, length, slice_index, Block, IsBlock}

each_below : (i j k l : ℕ) → i < 2 ^ 32 → j < 2 ^ 32 → k < 2 ^ 32 → l < 2 ^ 32 → (n : ℕ) → slice_index (i ∷ j ∷ k ∷ l ∷ []) n < 2 ^ 32
each_below i j k l p q r s zero = p
each_below i j k l p q r s (suc zero) = q
each_below i j k l p q r s (suc (suc zero)) = r
each_below i j k l p q r s (suc (suc (suc zero))) = s
each_below i j k l p q r s (suc (suc (suc (suc n)))) = omega arith

pub words_below : (b : Block) (i j k l : ℕ) → b.w ≡ i ∷ j ∷ k ∷ l ∷ [] → i < 2 ^ 32 → j < 2 ^ 32 → k < 2 ^ 32 → l < 2 ^ 32 → IsBlock b
words_below b i j k l at p q r s =
    subst (λ ws. (length ws ≡ 4) × ((n : ℕ) → slice_index ws n < 2 ^ 32)) (sym at) (refl, each_below i j k l p q r s)
