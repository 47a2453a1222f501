-- What a table has that the addresses of a drop are tested in: for the code, and not one of the rules.
use Rattle.std.specs.Prelude.{ℕ, ◌+◌, ◌≤◌, ◌<◌, List, get_or}
use Rattle.heap_rules.specs.declared.Superblock.{Superblock}
use Rattle.heap_rules.specs.Table.{table_length, blank}

-- a run that begins in the table ends there
abbrev pub RunsFit : List Superblock → Type 0
RunsFit table = (m : ℕ) → m < table_length → m + (get_or table m blank).run ≤ table_length
