-- What rows do to what is kept
use Rattle.controller_model.proofs.Words.{rules, ◌≡◌, ◌+◌, ◌<◌, ◌≤◌, ◌^◌, ◌%◌, subst, ℕ, sym, arith, ne_eqb, cond-false, Header, World, stored, stored_block, Block, Kept, Stamps, held, held_by, held_stored, held_block, Follows}

-- a word was stored: what memory then holds, and that none is beyond the last address
pub record Stored (words : ℕ → ℕ) (stamps : Stamps) (w : World) : Type 0 where
  pub held : held_by w ≡ held words stamps
  pub beyond : (a : ℕ) → 2 ^ 64 ≤ a → words a ≡ 0

pub follows_stored : (h : Header) (words new : ℕ → ℕ) (k : Kept) (stamps : Stamps) (w : World) (a x step : ℕ) → a < 2 ^ 64 →
    step ≡ k.progress.steps + 1 → held new stamps ≡ held_stored (held words k.stamps) a x step → Follows h words k w → Stored new stamps (stored w a x)
unfolding stored
follows_stored h words new k stamps w a x step end now made f = grind (arith, cond-false, ne_eqb)

-- four words were stored
pub follows_stored_block : (h : Header) (words new : ℕ → ℕ) (k : Kept) (stamps : Stamps) (w : World) (a step : ℕ) (b : Block) → a < 2 ^ 64 → a % 16 ≡ 0 →
    step ≡ k.progress.steps + 1 → held new stamps ≡ held_block (held words k.stamps) a b step → Follows h words k w → Stored new stamps (stored_block w a b)
unfolding stored stored_block
follows_stored_block h words new k stamps w a step b end aligned now made f = search (rules, cond-false, ne_eqb)

-- what stands for a world stands for an equal one
pub follows_along : (h : Header) (words : ℕ → ℕ) (k : Kept) (u v : World) → u ≡ v → Follows h words k v → Follows h words k u
follows_along h words k u v same f = let P : World → Type 0 = λ x. Follows h words k x in subst P (sym same) f
