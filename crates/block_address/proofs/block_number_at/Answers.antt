-- `block_address::block_number_at` meets its contract: a block is one of 256, so the number fits. Assumes nothing.
use Prim.Native.Nat.{◌<◌}
use native.Mathlib.Omega.{arith}
use Rattle.block_address.proofs.BlockLaws.{block_of_lt_256}
use Rattle.block_address.proofs.block_number_at.Goals as goal

pub overflow_add-result : goal.overflow_add-result
overflow_add-result c = let h : c.block_at.result < 256 = search block_of_lt_256 in omega arith
