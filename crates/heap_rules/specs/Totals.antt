-- The totals that a state keeps: "the live blocks and superblocks of each heap and class become part of the state" (document 02, item 3).
use Rattle.std.specs.Prelude.{◌≡◌, ℕ, zero, suc, ◌+◌, ◌*◌, ◌<◌, Bool, List, get_or, replicate, ltb}
use Rattle.base_laws.specs.Sums.{pick, both}
use Rattle.base_laws.specs.Lists.{increased}
use Rattle.class_rules.specs.Classes.{class_count}
use Rattle.heap_rules.specs.declared.Superblock.{Superblock}
use Rattle.heap_rules.specs.declared.Totals.{Totals}
use Rattle.heap_rules.specs.declared.State.{State}
use Rattle.heap_rules.specs.Table.{table_length, blank, live_in}
use Rattle.heap_rules.specs.Counts.{superblocks_of, live_of}

-- "P 1 to 8": the most processors that a setup has
abbrev pub most_processors : ℕ
most_processors = 8

-- totals are kept of heap 0 and of the heap of each processor
abbrev pub heap_count : ℕ
heap_count = most_processors + 1

-- and of each class
abbrev pub total_count : ℕ
total_count = heap_count * class_count

-- where those of heap h and class c stand
abbrev pub total_index : ℕ → ℕ → ℕ
total_index h c = h * class_count + c

-- the superblocks of heap h and class c, as kept; and their live blocks
unfoldable pub superblocks_kept : ℕ → ℕ → State → ℕ
superblocks_kept h c s = get_or s.totals.superblocks (total_index h c) 0

unfoldable pub live_kept : ℕ → ℕ → State → ℕ
live_kept h c s = get_or s.totals.live (total_index h c) 0

-- "a new or refused setup has them at 0"
abbrev pub no_totals : Totals
no_totals = record { superblocks = replicate total_count 0; live = replicate total_count 0 }

-- the superblock is of a heap and a class; an unused one is not
unfoldable pub is_counted : Superblock → Bool
is_counted b = both (ltb b.owner heap_count) (ltb b.class class_count)

-- a number of the superblock, added at its heap and class
unfoldable pub with_counted : (Superblock → ℕ) → Superblock → List ℕ → List ℕ
with_counted f b l = pick (is_counted b) (increased (total_index b.owner b.class) (f b) l) l

-- the same for each of the superblocks below k
unfoldable pub counted_below : (Superblock → ℕ) → List Superblock → ℕ → List ℕ
counted_below f table zero = replicate total_count 0
counted_below f table (suc k) = with_counted f (get_or table k blank) (counted_below f table k)

-- "the recount" of a table: one for each superblock, and its live blocks
unfoldable pub recounted : List Superblock → Totals
recounted table = record { superblocks = counted_below (λ b. 1) table table_length; live = counted_below live_in table table_length }

-- "equal to the recount"
abbrev pub TotalsKept : State → Type 0
TotalsKept s = s.totals ≡ recounted s.table

-- the same of each heap and class: the totals kept are its superblocks and its live blocks
abbrev pub TotalsCounted : State → Type 0
TotalsCounted s = (h c : ℕ) → h < heap_count → c < class_count → (superblocks_kept h c s ≡ superblocks_of h c s) × (live_kept h c s ≡ live_of h c s)
