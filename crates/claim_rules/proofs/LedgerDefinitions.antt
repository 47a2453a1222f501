-- Entries of computed cases, and the definitions of the ledger and of the claim that such a case unfolds, listed once. Assumes nothing.
use Prim.Native.Nat.{ℕ}
use Rattle.base_laws.specs.Sums.{sum_below, all_below}
use Rattle.class_rules.specs.Classes.{sizes, counts, blocks_of, first_at_least, class_of, is_long}
use Rattle.heap_rules.specs.Table.{is_of_heap}
use Rattle.heap_rules.specs.Counts.{total, is_owned_of_class, superblocks_of_class, owners_changed, passed_between_heaps}
use Rattle.claim_rules.specs.Ledger.{Name, Entry, is_at_one_of, is_called, removed, after_take, after_free, ledger_after, entries_of, entries_at}
use Rattle.claim_rules.specs.Ledger.{some_entry}
use Rattle.claim_rules.specs.Ledger.{EachEntry}
use Rattle.claim_rules.specs.Claim.{Bounded, frees_run, OwnerChanges, Claims}

abbrev pub entry : ℕ → ℕ → Name → Entry
entry a size name = record { address = a; size = size; name = name }

unfoldable pub ledger_definitions : Unit {0}
unfolding ledger_after after_take after_free removed is_at_one_of is_called entries_of entries_at some_entry EachEntry class_of first_at_least sizes is_long
ledger_definitions = tt

-- for lists of calls elsewhere: on a lent row, in a record
unfoldable pub claim_definitions : Unit {0}
unfolding Claims Bounded OwnerChanges frees_run owners_changed passed_between_heaps superblocks_of_class total is_owned_of_class is_of_heap sum_below all_below
    blocks_of counts ledger_definitions
claim_definitions = tt
