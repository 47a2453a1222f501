-- The choice of one superblock among those that meet the criterion.
use Rattle.std.specs.Prelude.{ℕ, zero, suc, Bool, false, List, get_or, eqb, ltb, Option, Some, None}
use Rattle.base_laws.specs.Sums.{pick, both, either}
use Rattle.class_rules.specs.Classes.{blocks_of}
use Rattle.heap_rules.specs.declared.Superblock.{Superblock}
use Rattle.heap_rules.specs.declared.State.{State}
use Rattle.heap_rules.specs.Table.{table_length, blank, live_in, is_unused}
use Rattle.heap_rules.specs.Counts.{belongs}
use Rattle.heap_rules.specs.Ranks.{is_more_recent}

-- the one found so far; or superblock k, which meets the criterion, where there is none yet or it is preferred
unfoldable pub prefer : (Superblock → Superblock → Bool) → List Superblock → Option ℕ → ℕ → Option ℕ
prefer preferred table None k = Some k
prefer preferred table (Some m) k = pick (preferred (get_or table k blank) (get_or table m blank)) (Some k) (Some m)

-- of the superblocks below n that meet the criterion, the best; the lower number among equals
unfoldable pub chosen_below : (Superblock → Bool) → (Superblock → Superblock → Bool) → List Superblock → ℕ → Option ℕ
chosen_below meets preferred table zero = None
chosen_below meets preferred table (suc k) =
    pick (meets (get_or table k blank)) (prefer preferred table (chosen_below meets preferred table k) k) (chosen_below meets preferred table k)

-- "most live first"
unfoldable pub more_live : Superblock → Superblock → Bool
more_live b d = ltb (live_in d) (live_in b)

-- "Among equally full superblocks in places 1 and 2 of a take, the one freed into most recently since it was last renewed comes first"
-- (document 02, item 4); equally full is an equal live count
unfoldable pub fuller_or_more_recent : Superblock → Superblock → Bool
fuller_or_more_recent b d = either (more_live b d) (both (eqb (live_in b) (live_in d)) (is_more_recent b d))

-- "with the fewest live"
unfoldable pub fewer_live : Superblock → Superblock → Bool
fewer_live b d = ltb (live_in b) (live_in d)

-- "the lowest-numbered": none is preferred to another
unfoldable pub never_preferred : Superblock → Superblock → Bool
never_preferred b d = false

-- "class c with a free block", in heap h
unfoldable pub has_free : ℕ → ℕ → Superblock → Bool
has_free h c b = both (belongs h c b) (ltb (live_in b) (blocks_of c))

-- "nothing live, of any class", in heap 0
unfoldable pub empty_in_global : Superblock → Bool
empty_in_global b = both (eqb b.owner 0) (eqb (live_in b) 0)

-- places 1 (h the processor's heap) and 2 (h = 0) of a take: the fullest, among these the last freed into; "Those not freed into since then
-- follow, lower number first"
unfoldable pub fullest : ℕ → ℕ → State → Option ℕ
fullest h c s = chosen_below (has_free h c) fuller_or_more_recent s.table table_length

-- place 3
unfoldable pub lowest_empty : State → Option ℕ
lowest_empty s = chosen_below empty_in_global never_preferred s.table table_length

-- place 4
unfoldable pub lowest_unused : State → Option ℕ
lowest_unused s = chosen_below is_unused never_preferred s.table s.setup.superblocks

-- "heap i's class-c superblock with the fewest live, the lower number among equals"; "The emptiest for a move is still chosen by number"
unfoldable pub emptiest : ℕ → ℕ → State → Option ℕ
emptiest h c s = chosen_below (belongs h c) fewer_live s.table table_length

-- the first that is found
abbrev pub or_else : Option ℕ → Option ℕ → Option ℕ
or_else (Some k) f = Some k
or_else None f = f
