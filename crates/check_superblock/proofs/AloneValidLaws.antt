-- What is asked of each superblock alone: the answer at each way out. Assumes nothing.
use mathlib.Core.Path.{◌≡◌, refl}
use mathlib.Core.Bool.{Bool, true, false}
use mathlib.Core.List.{List}
use Prim.Native.Nat.{ℕ, ◌<◌}
use native.Mathlib.Omega.{arith}
use borrow.Author.Tests.{eqb-true, ne_eqb}
use lib.Dec.{eqb, leb, ltb}
use Rattle.base_laws.specs.Sums.{both, either}
use Rattle.base_laws.proofs.TestLaws.{both_false_right}
use Rattle.class_rules.specs.Classes.{class_count, blocks_of}
use Rattle.filled_rules.specs.FilledPlaces.{places_valid}
use Rattle.heap_rules.specs.declared.Superblock.{Superblock}
use Rattle.heap_rules.specs.declared.Setup.{Setup}
use Rattle.heap_rules.specs.Table.{run_owner, unused_owner, live_in, is_unused, is_of_run}
use Rattle.check_rules.specs.Check.{is_part_of_run, is_unowned, is_owned, superblock_valid, unused_from, sparse_if_global}
use Rattle.check_superblock.specs.Alone.{alone_valid}

-- a superblock of heap 0 is neither unused nor part of a run, so that those are not asked to be sparse
sparse_of_bare : (u : Setup) (b : Superblock) (owner : ℕ) (rest : Bool) → 0 < owner → both (eqb b.owner owner) rest ≡ true
    → sparse_if_global u b ≡ true
unfolding sparse_if_global
sparse_of_bare u b owner rest high is =
    let o : b.owner ≡ owner = eqb-true b.owner owner (left (eqb b.owner owner) rest is) in
    simp (ne_eqb b.owner 0 (λ (z : b.owner ≡ 0). omega arith))
  where
    left : (x y : Bool) → both x y ≡ true → x ≡ true
    left true y q = refl
    left false y q = q

sparse_of_unused : (u : Setup) (b : Superblock) → is_unused b ≡ true → sparse_if_global u b ≡ true
unfolding is_unused
sparse_of_unused u b e = sparse_of_bare u b unused_owner (both (eqb b.class 0) (eqb (live_in b) 0)) (omega arith) e

sparse_of_part_of_run : (u : Setup) (b : Superblock) → is_part_of_run b ≡ true → sparse_if_global u b ≡ true
unfolding is_part_of_run is_of_run
sparse_of_part_of_run u b e = sparse_of_bare u b run_owner (both (eqb b.class 0) (eqb (live_in b) 0)) (omega arith) e

-- the clauses in the code's order
pub alone_valid_by_parts : (u : Setup) (order : List ℕ) (k : ℕ) (b : Superblock) → alone_valid u order k b
    ≡ either (is_unused b) (both (ltb k u.superblocks) (either (is_part_of_run b)
    (both (leb b.owner u.processors) (both (ltb b.class class_count) (both (sparse_if_global u b) (places_valid order b.live k (blocks_of b.class)))))))
unfolding alone_valid superblock_valid is_unowned is_owned unused_from
alone_valid_by_parts u order k b =
    regroup (is_unused b) (is_part_of_run b) (leb b.owner u.processors) (ltb b.class class_count) (places_valid order b.live k (blocks_of b.class))
    (ltb k u.superblocks) (sparse_if_global u b) (sparse_of_unused u b) (sparse_of_part_of_run u b)
  where
    either_yes : (x : Bool) → either x true ≡ true
    either_yes true = refl
    either_yes false = refl

    either_no : (x : Bool) → either x false ≡ x
    either_no true = refl
    either_no false = refl

    exchanged : (x y : Bool) → both x y ≡ both y x
    exchanged true true = refl
    exchanged true false = refl
    exchanged false true = refl
    exchanged false false = refl

    regroup : (a p o c f n t : Bool) → (a ≡ true → t ≡ true) → (p ≡ true → t ≡ true)
        → both (either (either a p) (both o (both c f))) (both (either n a) t) ≡ either a (both n (either p (both o (both c (both t f)))))
    regroup true p o c f n t h g = simp (h refl, either_yes)
    regroup false p o c f false t h g = both_false_right _
    regroup false true o c f true t h g = g refl
    regroup false false false c f true t h g = refl
    regroup false false true false f true t h g = refl
    regroup false false true true f true t h g = exchanged f t
