-- "Free (processor, address)"
use Rattle.std.specs.Prelude.{ℕ, ◌-◌, ◌*◌, ◌/◌, ◌%◌, Bool, not, List, eqb, leb, ltb}
use Rattle.base_laws.specs.Sums.{pick, both, either}
use Rattle.class_rules.specs.Classes.{superblock_bytes, size_of, blocks_of}
use Rattle.marks_rules.specs.Marks.{is_marked}
use Rattle.names_rules.specs.Names.{not_held, block_number, without_block}
use Rattle.order_rules.specs.Order.{with_place}
use Rattle.refusal_rules.specs.Refusals.{no_such_processor, address_unmapped, address_misaligned, block_not_live}
use Rattle.heap_rules.specs.declared.Superblock.{Superblock}
use Rattle.heap_rules.specs.declared.State.{State}
use Rattle.heap_rules.specs.Table.{table_length, superblock_at, live_in, is_unused, is_of_run, starts_run, live_blocks, without_mark_at}
use Rattle.heap_rules.specs.States.{with_superblock, with_names}
use Rattle.heap_rules.specs.Ranks.{ranked_latest}
use Rattle.move_rules.specs.Moves.{invariant_restored}
use Rattle.call_rules.specs.Answers.{After, refused, checked, is_processor}
use Rattle.call_rules.specs.LongBlocks.{run_freed}
use Rattle.call_rules.specs.declared.Outcome.TheVariants.{Moves}

-- "Superblock s .. covers addresses s × 4096 to s × 4096 + 4095"
abbrev pub superblock_index : ℕ → ℕ
superblock_index a = a / superblock_bytes

abbrev pub offset_of : ℕ → ℕ
offset_of a = a % superblock_bytes

-- the superblock that an address lies in
abbrev pub superblock_holding : State → ℕ → Superblock
superblock_holding s a = superblock_at s (superblock_index a)

-- the block of that superblock that starts at the address, where one does
unfoldable pub block_of : State → ℕ → ℕ
block_of s a = offset_of a / size_of (superblock_holding s a).class

-- refusal 5 (bench word: astray): "address at or past N × 4096, or in an unused superblock"
unfoldable pub is_unmapped : State → ℕ → Bool
is_unmapped s a = either (leb (s.setup.superblocks * superblock_bytes) a) (is_unused (superblock_holding s a))

-- the address lies in a long block's run (document 02, item 7)
abbrev pub is_in_run : State → ℕ → Bool
is_in_run s a = is_of_run (superblock_holding s a)

-- and is its start: "The block's address is the start of the run"
unfoldable pub is_run_start : State → ℕ → Bool
is_run_start s a = both (starts_run (superblock_holding s a)) (eqb (offset_of a) 0)

-- in a superblock with a class: "offset in the superblock is no multiple of the block size, or block n or above"
unfoldable pub is_off_block : State → ℕ → Bool
is_off_block s a =
    either (not (eqb (offset_of a % size_of (superblock_holding s a).class) 0)) (leb (blocks_of (superblock_holding s a).class) (block_of s a))

-- refusal 6 (bench word: off-block); of a run "any other address in it is off-block"
unfoldable pub is_misaligned : State → ℕ → Bool
is_misaligned s a = pick (is_in_run s a) (not (is_run_start s a)) (is_off_block s a)

-- refusal 7 (bench word: not live): "the block is not live"
unfoldable pub is_live_at : State → ℕ → Bool
is_live_at s a = is_marked (live_blocks (superblock_holding s a)) (block_of s a)

-- the refusal that an address meets: "5, 6, 7" in this order, or 0 where a live block starts there
unfoldable pub address_refusal : State → ℕ → ℕ
address_refusal s a = pick (is_unmapped s a) address_unmapped (pick (is_misaligned s a) address_misaligned (pick (is_live_at s a) 0 block_not_live))

-- "The block's mark is cleared"
unfoldable pub mark_cleared : State → ℕ → State
mark_cleared s a = with_superblock s (superblock_index a) (without_mark_at (superblock_holding s a) (block_of s a))

-- "and its number goes in the next place of its superblock's order": it is pushed on the free list
unfoldable pub block_pushed : State → List ℕ → ℕ → List ℕ
block_pushed s order a = with_place order (superblock_index a) (blocks_of (superblock_holding s a).class - live_in (superblock_holding s a)) (block_of s a)

-- the order places after a free; those of a run "keep what they had"
unfoldable pub order_pushed : State → List ℕ → ℕ → List ℕ
order_pushed s order a = pick (is_in_run s a) order (block_pushed s order a)

-- the number by which a name points at the block at an address; past the table there is none
unfoldable pub block_number_at : State → ℕ → ℕ
block_number_at s a = pick (ltb (superblock_index a) table_length) (block_number (superblock_index a) (block_of s a)) not_held

-- a block of a class is freed: its superblock, in whatever heap, is the last freed into (document 02, item 4), its mark is cleared, and its name let
-- go: "A name holds from its take until its block is freed by either command" (item 2)
unfoldable pub small_block_freed : State → ℕ → State
small_block_freed s a = with_names (mark_cleared (ranked_latest (superblock_index a) s) a) (without_block s.names (block_number_at s a))

-- a long block is freed: "a free makes the whole run unused" (item 7), and its name is let go
unfoldable pub long_block_freed : State → ℕ → State
long_block_freed s a = with_names (run_freed (superblock_index a) (superblock_holding s a).run s) (without_block s.names (block_number_at s a))

-- the block that starts at the address is freed
unfoldable pub block_freed : State → ℕ → State
block_freed s a = pick (is_in_run s a) (long_block_freed s a) (small_block_freed s a)

-- "The answer reports the number of superblocks moved by that free."
unfoldable pub small_freed_at : State → List ℕ → ℕ → After
small_freed_at s order a =
    record {
      answer = record {
        outcome = Moves (invariant_restored (superblock_holding s a).owner (superblock_holding s a).class (small_block_freed s a)).moves;
        state = (invariant_restored (superblock_holding s a).owner (superblock_holding s a).class (small_block_freed s a)).state;
      };
      order = block_pushed s order a;
    }

-- of a run: "Its free line has moved 0"
unfoldable pub long_freed_at : State → List ℕ → ℕ → After
long_freed_at s order a = record { answer = record { outcome = Moves 0; state = long_block_freed s a }; order = order }

unfoldable pub freed_at : State → List ℕ → ℕ → After
freed_at s order a = pick (is_in_run s a) (long_freed_at s order a) (small_freed_at s order a)

-- a free behind the check, on any state: "and free 2, 5, 6, 7"; "The processor has no other effect."
unfoldable pub free_unchecked : State → List ℕ → ℕ → ℕ → After
free_unchecked s order i a =
    pick (not (is_processor s i)) (refused no_such_processor s order)
    (pick (is_unmapped s a) (refused address_unmapped s order)
    (pick (is_misaligned s a) (refused address_misaligned s order)
    (pick (not (is_live_at s a)) (refused block_not_live s order)
    (freed_at s order a))))

-- "Take or free: 13 for setup numbers, 12, the rest of 13; .. and free 2, 5, 6, 7"
unfoldable pub free_of : State → List ℕ → ℕ → ℕ → After
free_of s order i a = checked s order (free_unchecked s order i a)
