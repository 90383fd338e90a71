-- What the fields of a block come to.
use Rattle.named.specs.Blocks.{BlockState}
use Rattle.named.specs.declared.block.Block.TheInside.{Inside}

abbrev pub block_view : Inside → BlockState
block_view b = record { core = b.core; from = b.from; len = b.len; port = b.port }
