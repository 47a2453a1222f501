-- What the steps of a drop ask of the step before, and the heaps and classes that it touches as an array.
use Rattle.std.specs.Prelude.{◌≡◌, Bool, false, not, List, [], ℕ, ◌+◌, ◌≤◌, ◌<◌, length, get_or, take, eqb}
use Rattle.base_laws.specs.Sums.{one}
use Rattle.class_rules.specs.Classes.{class_count}
use Rattle.heap_rules.specs.declared.State.{State}
use Rattle.heap_rules.specs.declared.Moved.{Moved}
use Rattle.heap_rules.specs.Table.{table_length}
use Rattle.heap_rules.specs.Counts.{total}
use Rattle.heap_rules.specs.Totals.{heap_count, TotalsKept}
use Rattle.heap_rules.specs.Ranks.{RanksFit}
use Rattle.call_rules.specs.Free.{superblock_index, superblock_holding, is_in_run}
use Rattle.call_rules.specs.Drop.{all_freed, is_touched}

-- the free at address i can be made after those before it: the address lies in the table, in a superblock of a heap and class or in a run, which lies
-- in the table whole, and the frees before have kept the totals and the ranks
pub record FreeSafe (s : State) (addresses : List ℕ) (i : ℕ) : Type 0 where
  pub in_table : superblock_index (get_or addresses i 0) < table_length
  pub of_heap_and_class : is_in_run s (get_or addresses i 0) ≡ false
      → ((superblock_holding s (get_or addresses i 0)).owner < heap_count) × ((superblock_holding s (get_or addresses i 0)).class < class_count)
  pub run_in_table : superblock_index (get_or addresses i 0) + (superblock_holding (all_freed s (take i addresses)) (get_or addresses i 0)).run ≤ table_length
  pub totals : TotalsKept (all_freed s (take i addresses))
  pub ranks : RanksFit (all_freed s (take i addresses))

abbrev pub FreesSafe : State → List ℕ → Type 0
FreesSafe s addresses = (i : ℕ) → i < length addresses → FreeSafe s addresses i

-- class c is touched in a heap, as an array of its classes tells
abbrev pub touched_of_heap : List Bool → ℕ → ℕ → Bool
touched_of_heap classes h c = get_or classes c false

-- heap h and class c are touched, as an array tells that has one for each heap
abbrev pub touched_in : List (List Bool) → ℕ → ℕ → Bool
touched_in touched h c = touched_of_heap (get_or touched h []) h c

-- it tells this of the addresses
abbrev pub TellsTouched : List (List Bool) → State → List ℕ → Type 0
TellsTouched touched s addresses = (h c : ℕ) → h < heap_count → c < class_count → touched_in touched h c ≡ is_touched s addresses h c

-- the move rule can be followed after moves that came before: they have kept the table's length and the totals, and the superblocks that were moved and those
-- that can be are not more than the table has, so that their number fits
pub record CanMove (before : Moved) : Type 0 where
  pub length_is : length before.state.table ≡ table_length
  pub totals : TotalsKept before.state
  pub moves_fit : before.moves + total (λ b. one (not (eqb b.owner 0))) before.state.table ≤ table_length
