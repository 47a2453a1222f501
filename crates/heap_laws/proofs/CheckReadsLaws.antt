-- The check of a state reads no order place from N × 256 on. Assumes nothing.
use mathlib.Core.Path.{◌≡◌, refl, sym, ap, ◌∙◌}
use mathlib.Core.Bool.{Bool, true, false}
use mathlib.Core.List.{List}
use Prim.Native.Nat.{ℕ, ◌*◌, ◌<◌}
use native.Mathlib.Omega.{arith}
use borrow.Author.Tests.{ltb-true}
use lib.Dec.{T, leb, ltb}
use Rattle.base_laws.specs.Sums.{both, either, all_below}
use Rattle.base_laws.proofs.TestLaws.{T_of_true, true_of_T, both_false_right, either_left}
use Rattle.base_laws.proofs.SumLaws.{all_at, all_cong}
use Rattle.class_rules.specs.Classes.{class_count, blocks_of}
use Rattle.class_rules.proofs.ClassTableLaws.{blocks_of_le_256}
use Rattle.order_laws.proofs.FirstPlaces.{SameFirst, same_first_place}
use Rattle.filled_rules.proofs.StorageLengthLaws.{places_valid_cong_if_in_storage}
use Rattle.heap_rules.specs.declared.Superblock.{Superblock}
use Rattle.heap_rules.specs.declared.State.{State}
use Rattle.heap_rules.specs.Table.{superblock_at, is_unused}
use Rattle.check_rules.specs.Check.{superblock_valid, unused_from, emptiness_invariant, sparse_if_global, names_valid, totals_valid, ranks_valid, runs_valid}
use Rattle.check_rules.specs.Check.{is_unowned, is_part_of_run, is_owned, rest_valid}

module _ (s : State) (x y : List ℕ) (h : SameFirst (s.setup.superblocks * 256) x y) where
  superblock_valid_same_first : (k : ℕ) (b : Superblock) → T (unused_from s.setup.superblocks k b) → superblock_valid s.setup x k b ≡ superblock_valid
      s.setup y k b
  unfolding superblock_valid is_unowned is_owned unused_from
  superblock_valid_same_first k b = go (ltb k s.setup.superblocks) refl
    where
      go : (t : Bool) → ltb k s.setup.superblocks ≡ t → T (either t (is_unused b)) → superblock_valid s.setup x k b ≡ superblock_valid s.setup y k b
      go true e u =
          let l : k < s.setup.superblocks = ltb-true k s.setup.superblocks e in
          ap (λ (g : Bool). either (is_unowned b) (both (leb b.owner s.setup.processors) (both (ltb b.class class_count) g)))
          (places_valid_cong_if_in_storage x y b.live k (blocks_of b.class) (omega (arith, h.first_covers, blocks_of_le_256 b.class))
          (omega (arith, h.second_covers, blocks_of_le_256 b.class))
          (λ p lp. same_first_place (s.setup.superblocks * 256) x y h k p (omega (arith, blocks_of_le_256 b.class))))
      go false e u = rw (true_of_T (is_unowned b) (either_left (is_unused b) (is_part_of_run b) u))

  -- storages with the same first N × 256 places pass together or fail together
  pub rest_valid_reads_only_first_places : rest_valid s x ≡ rest_valid s y
  unfolding rest_valid
  rest_valid_reads_only_first_places = go (all_below (λ k. unused_from s.setup.superblocks k (superblock_at s k)) 64) refl
    where
      rest : Bool
      rest = both (emptiness_invariant s)
          (both (all_below (λ k. sparse_if_global s.setup (superblock_at s k)) 64)
          (both (names_valid s) (both (totals_valid s) (both (ranks_valid s) (runs_valid s)))))

      good : List ℕ → Bool
      good order = all_below (λ k. superblock_valid s.setup order k (superblock_at s k)) 64

      go : (u : Bool) → all_below (λ k. unused_from s.setup.superblocks k (superblock_at s k)) 64 ≡ u → both (good x) (both u rest)
          ≡ both (good y) (both u rest)
      go true e =
          ap (λ (g : Bool). both g rest)
          (all_cong (λ k. superblock_valid s.setup x k (superblock_at s k)) (λ k. superblock_valid s.setup y k (superblock_at s k)) 64
          (λ k l. superblock_valid_same_first k (superblock_at s k)
          (all_at (λ m. unused_from s.setup.superblocks m (superblock_at s m)) 64 (T_of_true _ e) k l)))
      go false e = both_false_right (good x) ∙ sym (both_false_right (good y))
