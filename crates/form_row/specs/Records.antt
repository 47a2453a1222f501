-- The form "On a lent row" of docs/FORMATS.md: the record that a row has where no superblock of the state goes in. Assumes nothing.
use Rattle.std.specs.Prelude.{[], ◌∷◌}
use Rattle.heap_rules.specs.declared.Superblock.{Superblock}

-- "one with owner 9, class 9, the marks 9 9 9 9, rank 9 and run length 9"
abbrev pub other_record : Superblock
other_record = record { owner = 9; class = 9; live = 9 ∷ 9 ∷ 9 ∷ 9 ∷ []; rank = 9; run = 9 }
