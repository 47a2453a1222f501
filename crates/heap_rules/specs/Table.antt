-- The superblocks of a state's table.
use Rattle.std.specs.Prelude.{ℕ, ◌/◌, ◌%◌, Bool, List, [], get_or, eqb, ltb}
use Rattle.base_laws.specs.Sums.{pick, both}
use Rattle.marks_rules.specs.Marks.{is_marked, live_count, no_marks, with_mark, without_mark}
use Rattle.names_rules.specs.Names.{numbers_each}
use Rattle.heap_rules.specs.declared.Superblock.{Superblock}
use Rattle.heap_rules.specs.declared.State.{State}

-- "A state carries 64 superblocks"
abbrev pub table_length : ℕ
table_length = 64

-- the owner field of a superblock that is part of a long block's run: "They get owner 254" (document 02, item 7)
abbrev pub run_owner : ℕ
run_owner = 254

-- and of an unused one: "unused (owner 255, class 0, nothing live)"
abbrev pub unused_owner : ℕ
unused_owner = 255

-- what stands past the table's end: never read
abbrev pub blank : Superblock
blank = record { owner = 0; class = 0; live = []; rank = 0; run = 0 }

-- "every superblock unused (owner 255, class 0, nothing live)", unranked: "the rest 0, unused ones too" (document 02, item 4), and first of no run:
-- "every other superblock 0" (item 7)
abbrev pub unused : Superblock
unused = record { owner = unused_owner; class = 0; live = no_marks; rank = 0; run = 0 }

-- superblock k of a state
abbrev pub superblock_at : State → ℕ → Superblock
superblock_at s k = get_or s.table k blank

-- "The live count of a superblock is the number of its set marks."
abbrev pub live_in : Superblock → ℕ
live_in b = live_count b.live

-- the superblock is unused: owner 255, class 0, nothing live
unfoldable pub is_unused : Superblock → Bool
is_unused b = both (eqb b.owner unused_owner) (both (eqb b.class 0) (eqb (live_in b) 0))

-- ---- long blocks (document 02, item 7)
-- the superblock is part of a long block's run
unfoldable pub is_of_run : Superblock → Bool
is_of_run b = eqb b.owner run_owner

-- and the first of it, which "carries the run's length"
unfoldable pub starts_run : Superblock → Bool
starts_run b = both (is_of_run b) (ltb 0 b.run)

-- "They get owner 254, class field 0, no marks and no rank"; the number is the length that it carries
abbrev pub run_part : ℕ → Superblock
run_part n = record { owner = run_owner; class = 0; live = no_marks; rank = 0; run = n }

-- a heap owns the superblock, and so it has a class: "[runs] belong to no class", and neither does an unused one
unfoldable pub is_of_heap : Superblock → Bool
is_of_heap b = ltb b.owner run_owner

-- the live blocks of a superblock, as marks: a long block is block 0 of its run's first superblock, and "no marks" tell of it
unfoldable pub live_blocks : Superblock → List ℕ
live_blocks b = pick (starts_run b) (with_mark no_marks 0) b.live

-- ---- one superblock changed
-- the superblock passes to heap h, and keeps its rank
abbrev pub with_owner : ℕ → Superblock → Superblock
with_owner h b = record { owner = h; class = b.class; live = b.live; rank = b.rank; run = b.run }

-- block j becomes live, or is no longer live
abbrev pub with_mark_at : Superblock → ℕ → Superblock
with_mark_at b j = record { owner = b.owner; class = b.class; live = with_mark b.live j; rank = b.rank; run = b.run }

abbrev pub without_mark_at : Superblock → ℕ → Superblock
without_mark_at b j = record { owner = b.owner; class = b.class; live = without_mark b.live j; rank = b.rank; run = b.run }

-- the superblock's rank is r
abbrev pub with_rank : ℕ → Superblock → Superblock
with_rank r b = record { owner = b.owner; class = b.class; live = b.live; rank = r; run = b.run }

-- block b of the state is live, b being the number by which a name points at it
unfoldable pub is_live_block : State → ℕ → Bool
is_live_block s b = is_marked (live_blocks (superblock_at s (b / numbers_each))) (b % numbers_each)
