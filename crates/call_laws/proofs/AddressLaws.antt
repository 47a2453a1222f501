-- From a block's address back to its superblock and block, and from any address to its superblock. Assumes nothing.
use mathlib.Core.Path.{◌≡◌, sym, ap, ◌∙◌}
use mathlib.Core.Bool.{false}
use mathlib.Core.Logic.{◌⊎◌, inl, inr, ⊎_elim}
use mathlib.Core.List.{List}
use Prim.Native.Nat.{ℕ, ◌*◌, ◌/◌, ◌%◌, ◌<◌}
use native.Mathlib.Nat.{zero-div}
use native.Mathlib.Decide.{dec_lt}
use native.Mathlib.Omega.{arith}
use borrow.Author.Tests.{lt-ltb, leb-false, eqb-false}
use lib.ListN.{length, get_or-eq_default}
use lib.Dec.{leb, ltb}
use Rattle.base_laws.proofs.Inequalities.{le_of_not_below}
use Rattle.base_laws.proofs.TestLaws.{pick_true, not_T_of_false, neither_left, neither_right}
use Rattle.class_rules.specs.Classes.{class_count, size_of, blocks_of}
use Rattle.class_rules.proofs.OffsetLaws.{offset_lt_4096, block_of_offset}
use Rattle.names_rules.specs.Names.{block_number}
use Rattle.heap_rules.specs.declared.Superblock.{Superblock}
use Rattle.heap_rules.specs.declared.State.{State}
use Rattle.heap_rules.specs.Table.{run_owner, blank, superblock_at, is_unused, is_of_run}
use Rattle.heap_laws.proofs.StateFacts.{Unused, Unowned, Owned, SoundWith}
use Rattle.heap_laws.proofs.StateCheckLaws.{is_unused_of_facts, unused_of_unowned}
use Rattle.call_rules.specs.Take.{address_of}
use Rattle.call_rules.specs.Free.{superblock_index, offset_of, superblock_holding, block_of, is_unmapped, is_in_run, block_number_at}

module _ (c k j : ℕ) (known : c < class_count) (block : j < blocks_of c) where
  pub address_superblock : address_of k c j / 4096 ≡ k
  unfolding address_of
  address_superblock = let o = offset_lt_4096 c known j block in omega arith

  pub address_offset : address_of k c j % 4096 ≡ j * size_of c
  unfolding address_of
  address_offset = let o = offset_lt_4096 c known j block in omega arith

  -- in a state in which superblock k has the class
  module _ (s : State) (class : (superblock_at s k).class ≡ c) where
    pub address_block : block_of s (address_of k c j) ≡ j
    unfolding block_of
    address_block = rw (address_superblock, address_offset, class) (block_of_offset c known j)

    pub address_block_number : k < 64 → block_number_at s (address_of k c j) ≡ block_number k j
    unfolding block_number_at
    address_block_number l = rw (address_block, address_superblock) (pick_true (ltb k 64) _ _ (lt-ltb k 64 l))

-- the block of an address at the start of its superblock
pub block_of_offset_0 : (s : State) (a : ℕ) → offset_of a ≡ 0 → block_of s a ≡ 0
unfolding block_of
block_of_offset_0 s a e = rw e (zero-div (size_of (superblock_holding s a).class))

-- an address that is mapped, in a state that passes, lies in a superblock that a heap owns, or in a run
module _ {Invariant : ℕ → ℕ → State → Type 0} (s : State) (order : List ℕ) (a : ℕ) (sound : SoundWith Invariant s order) (mapped : is_unmapped s a ≡ false)
  where
    pub mapped_below_superblocks : superblock_index a < s.setup.superblocks
    unfolding is_unmapped
    mapped_below_superblocks =
        let l = leb-false (s.setup.superblocks * 4096) a (neither_left (leb (s.setup.superblocks * 4096) a) (is_unused (superblock_holding s a)) mapped) in
        omega arith

    pub mapped_below_64 : superblock_index a < 64
    mapped_below_64 = omega (arith, mapped_below_superblocks, sound.numbers.superblocks_high)

    mapped_not_unused : Unused (superblock_holding s a) → ⊥
    unfolding is_unmapped
    mapped_not_unused u =
        not_T_of_false (is_unused (superblock_holding s a)) (neither_right (leb (s.setup.superblocks * 4096) a) (is_unused (superblock_holding s a)) mapped)
        (is_unused_of_facts (superblock_holding s a) u)

    pub mapped_is_owned : is_in_run s a ≡ false → Owned s.setup order (superblock_index a) (superblock_holding s a)
    unfolding is_of_run
    mapped_is_owned outside = go (sound.each (superblock_index a) mapped_below_64)
      where
        go : Unowned (superblock_holding s a) ⊎ Owned s.setup order (superblock_index a) (superblock_holding s a)
            → Owned s.setup order (superblock_index a) (superblock_holding s a)
        go (inl u) = absurd (⊎_elim (λ e. mapped_not_unused (unused_of_unowned (superblock_holding s a) u e))
            (λ e. eqb-false (superblock_holding s a).owner run_owner outside e) u.owner)
        go (inr o) = o

-- an address is of the same class, and so of the same block, in states whose superblocks have the same classes
module _ (s t : State) (long : length s.table ≡ 64) (long_after : length t.table ≡ 64)
    (classes : (k : ℕ) → k < 64 → (superblock_at t k).class ≡ (superblock_at s k).class) (a : ℕ) where
  pub class_at_address_same : (superblock_holding t a).class ≡ (superblock_holding s a).class
  class_at_address_same = go (dec_lt (superblock_index a) 64)
    where
      go : Dec (superblock_index a < 64) → (superblock_holding t a).class ≡ (superblock_holding s a).class
      go (yes l) = classes (superblock_index a) l
      go (no f) =
          let g = le_of_not_below f in
          ap (λ (b : Superblock). b.class) (get_or-eq_default t.table blank (omega arith) ∙ sym (get_or-eq_default s.table blank (omega arith)))

  pub block_at_address_same : block_of t a ≡ block_of s a
  unfolding block_of
  block_at_address_same = ap (λ (c : ℕ). offset_of a / size_of c) class_at_address_same
