-- A row lent from the front of records: one more than a row that is accepted has.
use Rattle.std.specs.Prelude.{ℕ, ◌+◌, List, ◌++◌, drop}
use Rattle.heap_rules.specs.declared.Superblock.{Superblock}
use Rattle.heap_rules.specs.Table.{table_length}
use Rattle.row_rules.specs.Row.{RowAfter}
use Rattle.row_rules.specs.declared.RecordsAnswer.{RecordsAnswer}

-- the records
abbrev pub record_count : ℕ
record_count = table_length + 1

-- what a call leaves: the records with its answer, and all order places
pub record RecordsAfter : Type 0 where
  pub returned : RecordsAnswer
  pub order : List ℕ

-- what a call on a row left, and behind it the records that were not lent
abbrev pub records_with : RowAfter → List Superblock → RecordsAfter
records_with x others = record {
  returned = record { records = x.row ++ others; answer = record { outcome = x.outcome; control = x.control } };
  order = x.order;
}

-- the same where the first n records were lent, or all where they are fewer
abbrev pub records_after : ℕ → List Superblock → RowAfter → RecordsAfter
records_after n records x = records_with x (drop n records)
