-- The blocks of one declaration
use Rattle.std.specs.Prelude.{List}
use Rattle.trb.specs.declared.block.Block.{Block}
use Rattle.trb.specs.declared.blocks.Kept.{Kept}
use Rattle.trb.specs.declared.blocks.Kept.TheVariants.{One, Several}

-- in their order
abbrev pub kept_blocks : Kept → List Block
kept_blocks (One block) = block
kept_blocks (Several blocks) = blocks.items
