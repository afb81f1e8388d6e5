-- The declared descriptors of a ring: where they begin and end
use Rattle.std.specs.Prelude.{ℕ, zero, suc, ◌+◌, ◌==◌, ◌||◌, if◌then◌else◌, Bool, List, [], ◌∷◌, ◌++◌, replicate, Option, slice_get, option_map}
use Rattle.trb.specs.declared.block.Block.{Block}

-- a sum of whole descriptors, of these lengths from start on
unfoldable pub is_border : List ℕ → ℕ → ℕ → Bool
is_border [] start q = start == q
is_border (n ∷ rest) start q = start == q || is_border rest (start + n) q

-- how many blocks the descriptor has that begins at position p; 0 where none begins there
unfoldable pub length_from : List ℕ → ℕ → ℕ → ℕ
length_from [] start p = 0
length_from (n ∷ rest) start p = if start == p then n else length_from rest (start + n) p

-- a declared block, and whether a descriptor begins and ends with it
pub record DeclaredBlock : Type 0 where
  pub block : Block
  pub begins : Bool
  pub ends : Bool

-- what is declared at position p of a queue with descriptors of these lengths
unfoldable pub declared_at : List Block → List ℕ → ℕ → Option DeclaredBlock
declared_at queue lengths p =
    option_map (λ b. record { block = b; begins = is_border lengths 0 p; ends = is_border lengths 0 (p + 1) }) (slice_get queue p)

-- ---- a descriptor that is withdrawn: xHCI 4.6.9, 6.4.1.4.1

-- a No Op block as it is declared
abbrev pub no_op : Block
no_op = record { w = 0 ∷ 0 ∷ 0 ∷ 0x2000 ∷ [] }

-- a queue with No Ops in place of n blocks from position p on
unfoldable pub no_ops : List Block → ℕ → ℕ → List Block
no_ops [] p n = []
no_ops (b ∷ rest) zero zero = b ∷ rest
no_ops (b ∷ rest) zero (suc n) = no_op ∷ no_ops rest zero n
no_ops (b ∷ rest) (suc p) n = b ∷ no_ops rest p n

-- with the descriptor that begins at position p split into descriptors of one block
unfoldable pub split_at : List ℕ → ℕ → ℕ → List ℕ
split_at [] start p = []
split_at (n ∷ rest) start p = if start == p then replicate n 1 ++ rest else n ∷ split_at rest (start + n) p
