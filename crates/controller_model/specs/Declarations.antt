-- What is declared on a ring, by position
use Rattle.std.specs.Prelude.{◌≡◌, ℕ, zero, suc, ◌+◌, ◌<◌, ◌==◌, All, if◌then◌else◌, true, List, [], ◌∷◌, length, slice_get, option_map}
use Rattle.trb.specs.declared.block.Block.{Block}
use Rattle.segments.specs.Descriptors.{DeclaredBlock, declared_at, no_op}
use Rattle.controller_model.specs.declared.declared.Declared.{Declared}
use Rattle.controller_model.specs.declared.declared.Declarations.{Declarations}

abbrev pub as_declared : Declared → DeclaredBlock
as_declared d = record { block = d.block; begins = d.begins; ends = d.ends }

-- how many blocks descriptors of these lengths have together
abbrev pub blocks_of : List ℕ → ℕ
blocks_of [] = 0
blocks_of (n ∷ lengths) = n + blocks_of lengths

-- the blocks of one descriptor from its k-th on, the last one with number last
abbrev pub entries : ℕ → ℕ → List Block → List Declared
entries k last [] = []
entries k last (b ∷ blocks) = record { block = b; begins = k == 0; ends = k == last } ∷ entries (k + 1) last blocks

-- a No Op that is a descriptor of its own
abbrev pub lone_no_op : Declared
lone_no_op = record { block = no_op; begins = true; ends = true }

-- No Ops in place of the blocks up to the next that ends a descriptor, from the first on or from position p on
abbrev pub withdrawn : List Declared → List Declared
withdrawn [] = []
withdrawn (d ∷ rest) = lone_no_op ∷ (if d.ends then rest else withdrawn rest)

abbrev pub withdrawn_from : List Declared → ℕ → List Declared
withdrawn_from [] p = []
withdrawn_from (d ∷ rest) zero = withdrawn (d ∷ rest)
withdrawn_from (d ∷ rest) (suc p) = d ∷ withdrawn_from rest p

-- the declarations have, at each position, what a queue with descriptors of these lengths has
pub record Declares (d : Declarations) (queue : List Block) (lengths : List ℕ) : Type 0 where
  pub at : (p : ℕ) → option_map as_declared (slice_get d.blocks.items p) ≡ declared_at queue lengths p
  pub many : length d.blocks.items ≡ length queue
  pub whole : blocks_of lengths ≡ length queue
  pub some : All (λ n. 0 < n) lengths
