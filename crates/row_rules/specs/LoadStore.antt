-- A lent row and a table by value.
use Rattle.std.specs.Prelude.{Bool, List, eqb, length, replicate}
use Rattle.base_laws.specs.Sums.{pick}
use Rattle.heap_rules.specs.declared.Superblock.{Superblock}
use Rattle.heap_rules.specs.Table.{table_length, unused}

-- the table of a row of 64 records; a row of another length has none, and an unused table stands for it
abbrev pub load_of : List Superblock → List Superblock
load_of row = pick (eqb (length row) table_length) row (replicate table_length unused)

-- a row of 64 records with an accepted call's table stored in it; a row of another length stays, and so does any row where the call is refused
abbrev pub store_of : Bool → List Superblock → List Superblock → List Superblock
store_of accepted row table = pick accepted (pick (eqb (length row) table_length) table row) row
