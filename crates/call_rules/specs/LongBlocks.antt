-- Long blocks (document 02, item 7): what taking and freeing one does to the superblocks of its run.
use Rattle.std.specs.Prelude.{ℕ, zero, suc, ◌+◌, ◌*◌, List, eqb, Option, Some, None}
use Rattle.base_laws.specs.Sums.{pick}
use Rattle.class_rules.specs.Classes.{superblock_bytes}
use Rattle.refusal_rules.specs.Refusals.{no_run}
use Rattle.heap_rules.specs.declared.State.{State}
use Rattle.heap_rules.specs.Table.{unused, run_part}
use Rattle.heap_rules.specs.States.{with_superblock}
use Rattle.heap_rules.specs.Ranks.{unranked}
use Rattle.call_rules.specs.Answers.{After, refused}
use Rattle.call_rules.specs.declared.Outcome.TheVariants.{Address}

-- each of the n superblocks from k on changed in turn, by its number
unfoldable pub each_of_run : (ℕ → State → State) → ℕ → ℕ → State → State
each_of_run change k zero s = s
each_of_run change k (suc n) s = change (k + n) (each_of_run change k n s)

-- superblock m becomes part of the run of n superblocks from k on: it leaves the ranking, which closes its gap; "The first carries the run's length, every
-- other superblock 0"
unfoldable pub joined_to_run : ℕ → ℕ → ℕ → State → State
joined_to_run k n m s = with_superblock (unranked m s) m (run_part (pick (eqb m k) n 0))

-- "They get owner 254, class field 0, no marks and no rank"
unfoldable pub run_taken : ℕ → ℕ → State → State
run_taken k n s = each_of_run (joined_to_run k n) k n s

-- "The block's address is the start of the run"; "order places keep what they had"
unfoldable pub long_taken_from : ℕ → ℕ → State → List ℕ → After
long_taken_from k n s order = record { answer = record { outcome = Address (k * superblock_bytes); state = run_taken k n s }; order = order }

-- the run that was found, n superblocks long; refusal 17, "no such run, given exactly then and in place of 4 for a long size"
unfoldable pub long_taken_at : ℕ → State → List ℕ → Option ℕ → After
long_taken_at n s order (Some k) = long_taken_from k n s order
long_taken_at n s order None = refused no_run s order

-- superblock m becomes unused
unfoldable pub made_unused : ℕ → State → State
made_unused m s = with_superblock s m unused

-- "a free makes the whole run unused": the n superblocks from k on
unfoldable pub run_freed : ℕ → ℕ → State → State
run_freed k n s = each_of_run made_unused k n s
