-- Counts over the 64 superblocks. Each is a sum of a number that depends on one superblock alone.
use Rattle.std.specs.Prelude.{ℕ, ◌*◌, Bool, not, List, get_or, eqb}
use Rattle.base_laws.specs.Sums.{pick, both, one, sum_below}
use Rattle.class_rules.specs.Classes.{blocks_of}
use Rattle.heap_rules.specs.declared.Superblock.{Superblock}
use Rattle.heap_rules.specs.declared.State.{State}
use Rattle.heap_rules.specs.Table.{table_length, blank, live_in, is_of_heap, superblock_at}

-- the sum over the 64 superblocks
unfoldable pub total : (Superblock → ℕ) → List Superblock → ℕ
total f table = sum_below (λ k. f (get_or table k blank)) table_length

-- heap h's superblock of class c
unfoldable pub belongs : ℕ → ℕ → Superblock → Bool
belongs h c b = both (eqb b.owner h) (eqb b.class c)

-- a superblock of class c that any heap owns
unfoldable pub is_owned_of_class : ℕ → Superblock → Bool
is_owned_of_class c b = both (is_of_heap b) (eqb b.class c)

-- 1 for a superblock of heap h and class c; its live blocks
unfoldable pub one_if_belongs : ℕ → ℕ → Superblock → ℕ
one_if_belongs h c b = one (belongs h c b)

unfoldable pub live_if_belongs : ℕ → ℕ → Superblock → ℕ
live_if_belongs h c b = pick (belongs h c b) (live_in b) 0

-- the superblocks of heap h and class c
unfoldable pub superblocks_of : ℕ → ℕ → State → ℕ
superblocks_of h c s = total (one_if_belongs h c) s.table

-- "a be the blocks (live or not) in heap i's superblocks of class c"
unfoldable pub blocks_in : ℕ → ℕ → State → ℕ
blocks_in h c s = superblocks_of h c s * blocks_of c

-- "and u those live"
unfoldable pub live_of : ℕ → ℕ → State → ℕ
live_of h c s = total (live_if_belongs h c) s.table

-- "A counts the superblocks of this class that any heap owns in the state .., empty ones too"; "The class bound then counts only superblocks with
-- a class" (document 02, item 7)
unfoldable pub superblocks_of_class : ℕ → State → ℕ
superblocks_of_class c s = total (λ b. one (is_owned_of_class c b)) s.table

-- the live blocks of a class, in all heaps
unfoldable pub live_of_class : ℕ → State → ℕ
live_of_class c s = total (λ b. pick (is_owned_of_class c b) (live_in b) 0) s.table

-- the superblocks whose owners differ between two states: "A superblock is moved by a free when its owners before and after it differ."
unfoldable pub owners_changed : State → State → ℕ
owners_changed s t = sum_below (λ k. one (not (eqb (superblock_at s k).owner (superblock_at t k).owner))) table_length

-- the superblocks of a heap that are another's then: "the q and reported moves of a free or drop [count] only those that pass between heaps"
-- (document 02, item 7)
unfoldable pub passed_between_heaps : State → State → ℕ
passed_between_heaps s t =
    sum_below (λ k. one (both (both (is_of_heap (superblock_at s k)) (is_of_heap (superblock_at t k)))
    (not (eqb (superblock_at s k).owner (superblock_at t k).owner)))) table_length
