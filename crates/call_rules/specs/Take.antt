-- "Take (processor i, size)"
use Rattle.std.specs.Prelude.{ℕ, ◌+◌, ◌-◌, ◌*◌, not, List, eqb, Option, Some, None}
use Rattle.base_laws.specs.Sums.{pick}
use Rattle.class_rules.specs.Classes.{superblock_bytes, size_of, blocks_of, class_of, is_long, run_length, is_too_large}
use Rattle.marks_rules.specs.Marks.{no_marks}
use Rattle.order_rules.specs.Order.{last_filled, renewed}
use Rattle.refusal_rules.specs.Refusals.{no_such_processor, size_too_large, no_superblock}
use Rattle.heap_rules.specs.declared.Superblock.{Superblock}
use Rattle.heap_rules.specs.declared.State.{State}
use Rattle.heap_rules.specs.Table.{superblock_at, live_in, with_owner, with_mark_at}
use Rattle.heap_rules.specs.States.{with_superblock}
use Rattle.heap_rules.specs.Ranks.{unranked}
use Rattle.choice_rules.specs.Choice.{fullest, lowest_empty, lowest_unused, or_else}
use Rattle.choice_rules.specs.RunChoice.{lowest_run}
use Rattle.call_rules.specs.Answers.{After, refused, checked, is_processor}
use Rattle.call_rules.specs.LongBlocks.{long_taken_at}
use Rattle.call_rules.specs.declared.Outcome.TheVariants.{Address}

-- places 2 to 4, after place 1: "2. heap 0: the same choice; 3. heap 0: the lowest-numbered superblock with nothing live, of any
-- class; 4. the lowest-numbered unused one of superblocks 0 to N - 1"
unfoldable pub other_places : ℕ → State → Option ℕ
other_places c s = or_else (fullest 0 c s) (or_else (lowest_empty s) (lowest_unused s))

-- "To renew a superblock for class c: set its class, clear its marks", here as heap i's. "Renew" is document 01's term for reinitializing. It
-- was not freed into since, and so has no rank, and it is the first of no run
abbrev pub renewed_for : ℕ → ℕ → Superblock
renewed_for i c = record { owner = i; class = c; live = no_marks; rank = 0; run = 0 }

-- "From places 2 to 4 it becomes owned by heap i. A superblock with nothing live is renewed for c"
unfoldable pub acquired : ℕ → ℕ → Superblock → Superblock
acquired i c b = pick (eqb (live_in b) 0) (renewed_for i c) (with_owner i b)

-- "and put n - 1 - j in place j for j below n"
unfoldable pub acquired_order : ℕ → ℕ → Superblock → List ℕ → List ℕ
acquired_order c k b order = pick (eqb (live_in b) 0) (renewed order k (blocks_of c)) order

-- a superblock that is renewed leaves the ranking, which closes its gap
unfoldable pub unranked_if_empty : ℕ → State → State
unranked_if_empty k s = pick (eqb (live_in (superblock_at s k)) 0) (unranked k s) s

-- the block in the last filled place of superblock k's order
unfoldable pub next_block : State → List ℕ → ℕ → ℕ
next_block s order k = last_filled order k (blocks_of (superblock_at s k).class - live_in (superblock_at s k))

-- "Block j of it starts at s × 4096 + j × block size."
unfoldable pub address_of : ℕ → ℕ → ℕ → ℕ
address_of k c j = k * superblock_bytes + j * size_of c

-- "The block in the last filled place of its order is taken and marked live; that place keeps its number."
unfoldable pub taken_from : ℕ → State → List ℕ → After
taken_from k s order =
    record {
      answer = record {
        outcome = Address (address_of k (superblock_at s k).class (next_block s order k));
        state = with_superblock s k (with_mark_at (superblock_at s k) (next_block s order k));
      };
      order = order;
    }

-- heap i acquires superblock k from place 2, 3 or 4, and the block is taken from it
unfoldable pub taken_from_other : ℕ → ℕ → ℕ → State → List ℕ → After
taken_from_other i c k s order =
    taken_from k (with_superblock (unranked_if_empty k s) k (acquired i c (superblock_at s k))) (acquired_order c k (superblock_at s k) order)

-- "The superblock is the first that one of these four places offers"; refusal 4 (bench word: dry):
-- "none of the four places offers a superblock"
unfoldable pub taken_at : ℕ → ℕ → State → List ℕ → Option ℕ → Option ℕ → After
taken_at i c s order (Some k) other = taken_from k s order
taken_at i c s order None (Some k) = taken_from_other i c k s order
taken_at i c s order None None = refused no_superblock s order

-- a take behind the check, on any state: "then take 2, 3, 4"; refusal 3 (bench word: size) "can no longer be met" by a size of 16 bits, and a long size
-- takes a run (document 02, item 7)
unfoldable pub take_unchecked : State → List ℕ → ℕ → ℕ → After
take_unchecked s order i size =
    pick (not (is_processor s i)) (refused no_such_processor s order)
    (pick (is_too_large size) (refused size_too_large s order)
    (pick (is_long size) (long_taken_at (run_length size) s order (lowest_run (run_length size) s))
    (taken_at i (class_of size) s order (fullest i (class_of size) s) (other_places (class_of size) s))))

-- "Take or free: 13 for setup numbers, 12, the rest of 13; then take 2, 3, 4", and 17 "in place of 4 for a long size"
unfoldable pub take_of : State → List ℕ → ℕ → ℕ → After
take_of s order i size = checked s order (take_unchecked s order i size)
