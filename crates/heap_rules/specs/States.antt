-- How a state is made and changed. "Every operation keeps them equal to the recount" (document 02, item 3): where a superblock's owner, class or
-- marks change, the totals are those of the table then. Ranks, which no total goes by, change in Ranks.
use Rattle.std.specs.Prelude.{ℕ, List, set, replicate}
use Rattle.names_rules.specs.Names.{no_names}
use Rattle.heap_rules.specs.declared.Superblock.{Superblock}
use Rattle.heap_rules.specs.declared.Setup.{Setup}
use Rattle.heap_rules.specs.declared.State.{State}
use Rattle.heap_rules.specs.Table.{table_length, unused}
use Rattle.heap_rules.specs.Totals.{recounted, no_totals}

-- the state with superblock k replaced
abbrev pub with_superblock : State → ℕ → Superblock → State
with_superblock s k b = record { setup = s.setup; table = set s.table k b; names = s.names; totals = recounted (set s.table k b) }

-- the state with other names
abbrev pub with_names : State → List ℕ → State
with_names s names = record { setup = s.setup; table = s.table; names = names; totals = s.totals }

-- "A new setup has every superblock unused"; "A new or refused setup holds no names" (document 02, item 2), and "has them at 0" (item 3)
abbrev pub new_state : Setup → State
new_state u = record { setup = u; table = replicate table_length unused; names = no_names; totals = no_totals }

-- five zeros, 64 unused superblocks, no names and totals of 0: what a refused setup hands back
abbrev pub no_state : State
no_state = new_state (record { processors = 0; superblocks = 0; spare = 0; p = 0; q = 0 })
