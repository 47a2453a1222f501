-- What the tests of an address rest on. Assumes nothing.
use mathlib.Core.Path.{◌≡◌, refl, sym, ◌∙◌}
use mathlib.Core.Bool.{Bool, true, false, not}
use mathlib.Core.List.{[]}
use Prim.Native.Nat.{ℕ, ◌*◌, ◌/◌, ◌%◌, ◌≤◌, ◌<◌, zero-le}
use native.Mathlib.Decide.{ℕ_discrete, dec_lt}
use native.Mathlib.Omega.{arith}
use borrow.Author.Tests.{le-leb, lt-leb, eq-eqb, ne_eqb}
use lib.Dec.{eqb, leb}
use Rattle.base_laws.specs.Sums.{pick, either}
use Rattle.base_laws.proofs.Inequalities.{le_of_not_below}
use Rattle.class_rules.specs.Classes.{class_count, sizes, counts, size_of, blocks_of}
use Rattle.class_rules.proofs.ClassTableLaws.{size_of_ge_16, blocks_of_no_class}
use Rattle.marks_rules.specs.Marks.{is_marked, no_marks, with_mark}
use Rattle.marks_laws.proofs.MarkLaws.{mark_of_mark_bit_one, mark_bit_of_empty_list, no_mark_of_mark_bit_zero, with_mark_same, with_mark_other}
use Rattle.marks_laws.proofs.MarkLaws.{mark_bit_of_no_marks}
use Rattle.heap_rules.specs.declared.State.{State}
use Rattle.heap_rules.specs.Table.{blank, is_unused, is_of_run, starts_run, live_blocks}
use Rattle.call_rules.specs.Free.{superblock_holding, block_of, is_unmapped, is_off_block, is_misaligned, is_live_at, address_refusal}

-- a class with no block size has no blocks, so that every address is off a block
blocks_of_size_0 : (class : ℕ) → size_of class ≡ 0 → blocks_of class ≡ 0
blocks_of_size_0 class e = go (dec_lt class class_count)
  where
    go : Dec (class < class_count) → blocks_of class ≡ 0
    go (yes h) = absurd (let g = size_of_ge_16 class h in let z : ⊥ = omega arith in z)
    go (no f) = blocks_of_no_class class (le_of_not_below f)

off_block_of_class : (class offset : ℕ) → either (not (eqb (offset % size_of class) 0)) (leb (blocks_of class) (offset / size_of class))
    ≡ either (eqb (size_of class) 0) (either (not (eqb (offset % size_of class) 0)) (leb (blocks_of class) (offset / size_of class)))
off_block_of_class class offset = go (ℕ_discrete (size_of class) 0)
  where
    either_true : (t : Bool) → either t true ≡ true
    either_true true = refl
    either_true false = refl

    go : Dec (size_of class ≡ 0) → either (not (eqb (offset % size_of class) 0)) (leb (blocks_of class) (offset / size_of class))
        ≡ either (eqb (size_of class) 0) (either (not (eqb (offset % size_of class) 0)) (leb (blocks_of class) (offset / size_of class)))
    go (yes e) =
        rw (blocks_of_size_0 class e, le-leb 0 (offset / size_of class) zero-le, eq-eqb (size_of class) 0 e)
        (either_true (not (eqb (offset % size_of class) 0)))
    go (no f) = rw (ne_eqb (size_of class) 0 f)

pub is_off_block_by_size : (s : State) (a : ℕ) → is_off_block s a ≡ either (eqb (size_of (superblock_holding s a).class) 0)
    (either (not (eqb (a % 4096 % size_of (superblock_holding s a).class) 0))
    (leb (blocks_of (superblock_holding s a).class) (a % 4096 / size_of (superblock_holding s a).class)))
unfolding is_off_block block_of
is_off_block_by_size s a = off_block_of_class (superblock_holding s a).class (a % 4096)

-- the block is live by its mark; in a run's first superblock, which has none, block 0 is
only_block_0 : (j : ℕ) → eqb j 0 ≡ is_marked (with_mark no_marks 0) j
only_block_0 j = go (ℕ_discrete j 0)
  where
    go : Dec (j ≡ 0) → eqb j 0 ≡ is_marked (with_mark no_marks 0) j
    go (yes e) = rw e (sym (mark_of_mark_bit_one (with_mark no_marks 0) 0 (with_mark_same no_marks 0 refl (omega arith))))
    go (no f) = ne_eqb j 0 f ∙ sym (no_mark_of_mark_bit_zero (with_mark no_marks 0) j (with_mark_other no_marks 0 j f ∙ mark_bit_of_no_marks j))

pub is_live_by_start : (s : State) (a : ℕ) → is_live_at s a ≡ pick (starts_run (superblock_holding s a))
    (eqb (a % 4096 / size_of (superblock_holding s a).class) 0)
    (is_marked (superblock_holding s a).live (a % 4096 / size_of (superblock_holding s a).class))
unfolding is_live_at block_of live_blocks
is_live_by_start s a = go (starts_run (superblock_holding s a)) (a % 4096 / size_of (superblock_holding s a).class)
  where
    go : (t : Bool) (j : ℕ) → is_marked (pick t (with_mark no_marks 0) (superblock_holding s a).live) j
        ≡ pick t (eqb j 0) (is_marked (superblock_holding s a).live j)
    go true j = sym (only_block_0 j)
    go false j = refl

-- ---- past the table a superblock reads as blank: empty, of class 0 and of heap 0, with no marks at all
no_mark_in_none : (j : ℕ) → is_marked [] j ≡ false
no_mark_in_none j = no_mark_of_mark_bit_zero [] j (mark_bit_of_empty_list j)

pub refusal_of_blank : (s : State) (a : ℕ) → superblock_holding s a ≡ blank
    → address_refusal s a ≡ pick (leb (s.setup.superblocks * 4096) a) 5 (pick (eqb (a % 4096 % 16) 0) 7 6)
unfolding address_refusal is_unmapped is_unused is_misaligned is_off_block is_of_run starts_run is_live_at live_blocks block_of size_of sizes blocks_of counts
refusal_of_blank s a e =
    rw (e, lt-leb 256 (a % 4096 / 16) (omega arith), no_mark_in_none (a % 4096 / 16))
    (go (leb (s.setup.superblocks * 4096) a) (eqb (a % 4096 % 16) 0))
  where
    go : (past aligned : Bool) → ◌≡◌ {A = ℕ} (pick (either past false) 5 (pick (either (not aligned) false) 6 7)) (pick past 5 (pick aligned 7 6))
    go true aligned = refl
    go false true = refl
    go false false = refl

-- the refusal of an address past the table, where there are no more than 64 superblocks
pub address_refusal_past_table : (s : State) (a : ℕ) → s.setup.superblocks ≤ 64 → 64 ≤ a / 4096 → 5 ≡ address_refusal s a
unfolding address_refusal is_unmapped
address_refusal_past_table s a high h = rw (le-leb (s.setup.superblocks * 4096) a (omega arith))
