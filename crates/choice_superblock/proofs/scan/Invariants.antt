-- `choice_superblock::scan` meets its contract. The loop's invariant: the best so far is the choice among the superblocks looked at. Assumes nothing.
use mathlib.Core.Path.{◌≡◌}
use Rattle.choice_superblock.proofs.ScanLaws.{best_below}
use Rattle.choice_superblock.proofs.scan.Given as goal

abbrev pub invariant-loop-k : goal.invariant-loop-k
invariant-loop-k l = l.best ≡ best_below l.w l.table l.k
