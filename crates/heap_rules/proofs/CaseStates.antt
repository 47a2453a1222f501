-- States for computed cases.
use mathlib.Core.List.{List}
use Rattle.names_rules.specs.Names.{no_names}
use Rattle.heap_rules.specs.declared.Superblock.{Superblock}
use Rattle.heap_rules.specs.declared.Setup.{Setup}
use Rattle.heap_rules.specs.declared.State.{State}
use Rattle.heap_rules.specs.Totals.{recounted}

-- the state of a setup with these superblocks, in which no name is held; its totals are right
abbrev pub unnamed_state : Setup → List Superblock → State
unnamed_state u table = record { setup = u; table = table; names = no_names; totals = recounted table }
