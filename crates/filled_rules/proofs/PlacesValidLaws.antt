-- What a passed check says of a superblock, and that a take, a free and a renewal keep it. Assumes nothing.
use mathlib.Core.Path.{◌≡◌, sym, ap, ap₂, ◌∙◌, subst}
use mathlib.Core.List.{List}
use Prim.Native.Nat.{ℕ, suc, ◌+◌, ◌-◌, ◌*◌, ◌≤◌, ◌<◌}
use native.Mathlib.Decide.{ℕ_discrete}
use native.Mathlib.Omega.{arith}
use borrow.Author.Tests.{le-leb}
use lib.ListN.{length}
use lib.Dec.{T, eqb, leb→le}
use Rattle.base_laws.specs.Sums.{both, one}
use Rattle.base_laws.proofs.TestLaws.{T_of_true, both_left, both_right, both_make, one_of_equal, one_of_different}
use Rattle.base_laws.proofs.SumLaws.{sum_cong}
use Rattle.base_laws.proofs.Counting.{indicator_sum_inside}
use Rattle.marks_rules.specs.Marks.{mark_bit, live_count, no_mark_from, with_mark, without_mark, no_marks}
use Rattle.marks_laws.proofs.MarkLaws.{with_mark_same, with_mark_other, without_mark_same, without_mark_other, live_count_with_mark}
use Rattle.marks_laws.proofs.MarkLaws.{live_count_without_mark, mark_bit_of_no_marks, live_count_of_no_marks}
use Rattle.marks_laws.proofs.NoMarkFromLaws.{mark_clear_of_no_mark_from, no_mark_from_of_marks_clear, live_count_le_of_no_mark_from, no_mark_from_of_no_marks}
use Rattle.order_rules.specs.Order.{place, last_filled, with_place, renewed}
use Rattle.order_laws.proofs.OrderLaws.{last_filled_is_place, length_with_place, with_place_same, with_place_other_place, length_renewed, renewed_place}
use Rattle.filled_rules.specs.FilledPlaces.{occurrences, filled_places, places_in_storage, each_once, places_valid}
use Rattle.filled_rules.proofs.OccurrenceLaws.{occurrences_suc, occurrences_cong}
use Rattle.filled_rules.proofs.SeenMarksLaws.{block_once_of_each_once, each_once_of_blocks_once, filled_below_n_of_each_once}

-- ---- the clauses of the check
module _ (order live : List ℕ) (s n : ℕ) where
  pub no_mark_from_of_places_valid : T (places_valid order live s n) → T (no_mark_from live n)
  unfolding places_valid
  no_mark_from_of_places_valid t = both_left (no_mark_from live n) (both (places_in_storage order live s n) (each_once order live s n)) t

  places_valid_rest : T (places_valid order live s n) → T (both (places_in_storage order live s n) (each_once order live s n))
  unfolding places_valid
  places_valid_rest t = both_right (no_mark_from live n) (both (places_in_storage order live s n) (each_once order live s n)) t

  pub places_in_storage_of_places_valid : T (places_valid order live s n) → s * 256 + filled_places live n ≤ length order
  unfolding places_in_storage
  places_in_storage_of_places_valid t = leb→le (s * 256 + filled_places live n) (length order)
      (both_left (places_in_storage order live s n) (each_once order live s n) (places_valid_rest t))

  pub each_once_of_places_valid : T (places_valid order live s n) → T (each_once order live s n)
  each_once_of_places_valid t = both_right (places_in_storage order live s n) (each_once order live s n) (places_valid_rest t)

  pub block_once_of_places_valid : T (places_valid order live s n) → (j : ℕ) → j < n
      → occurrences (place order s) (filled_places live n) j + mark_bit live j ≡ 1
  block_once_of_places_valid t = block_once_of_each_once order live s n (each_once_of_places_valid t)

  pub places_valid_of_clauses : T (no_mark_from live n) → s * 256 + filled_places live n ≤ length order
      → ((j : ℕ) → j < n → occurrences (place order s) (filled_places live n) j + mark_bit live j ≡ 1) → T (places_valid order live s n)
  unfolding places_valid places_in_storage
  places_valid_of_clauses none lent each =
      both_make (no_mark_from live n) (both (places_in_storage order live s n) (each_once order live s n)) none
      (both_make (places_in_storage order live s n) (each_once order live s n) (T_of_true _ (le-leb (s * 256 + filled_places live n) (length order) lent))
      (each_once_of_blocks_once order live s n each))

module _ (order live : List ℕ) (s n : ℕ) (small : n ≤ 256) (good : T (places_valid order live s n)) where
  pub live_count_le_of_places_valid : live_count live ≤ n
  live_count_le_of_places_valid = live_count_le_of_no_mark_from live n small (no_mark_from_of_places_valid order live s n good)

  -- every filled place holds a block of the superblock
  pub filled_place_below_n : (p : ℕ) → p < filled_places live n → place order s p < n
  filled_place_below_n p h = filled_below_n_of_each_once order live s n small (no_mark_from_of_places_valid order live s n good)
      (each_once_of_places_valid order live s n good) p h

  module _ (long : length live ≡ 4) where
    -- ---- a take: the block in the last filled place is marked
    module _ (room : live_count live < n) where
      abbrev last_block : ℕ
      last_block = last_filled order s (filled_places live n)

      last_block_is_place : last_block ≡ place order s (filled_places live n - 1)
      last_block_is_place = last_filled_is_place order s (filled_places live n) (omega arith) (omega arith)

      pub last_filled_below_n : last_block < n
      last_filled_below_n = subst (λ (x : ℕ). x < n) (sym last_block_is_place) (filled_place_below_n (filled_places live n - 1) (omega arith))

      occurrences_split_last : (j : ℕ) → occurrences (place order s) (filled_places live n) j ≡ occurrences (place order s)
          (filled_places live n - 1) j + one (eqb last_block j)
      occurrences_split_last j =
          ap (λ (m : ℕ). occurrences (place order s) m j) back
          ∙ occurrences_suc (place order s) (filled_places live n - 1) j
          ∙ ap (λ (x : ℕ). occurrences (place order s) (filled_places live n - 1) j + one (eqb x j)) (sym last_block_is_place)
        where
          back : filled_places live n ≡ filled_places live n - 1 + 1
          back = omega arith

      pub last_filled_not_marked : mark_bit live last_block ≡ 0
      last_filled_not_marked =
          omega (
            arith,
            block_once_of_places_valid order live s n good last_block last_filled_below_n,
            occurrences_split_last last_block,
            one_of_equal last_block,
          )

      one_filled_place_fewer : filled_places (with_mark live last_block) n ≡ filled_places live n - 1
      one_filled_place_fewer = omega (arith, live_count_with_mark live last_block long (omega (arith, last_filled_below_n)) last_filled_not_marked)

      pub places_valid_after_take : T (places_valid order (with_mark live last_block) s n)
      places_valid_after_take =
          places_valid_of_clauses order (with_mark live last_block) s n
          (no_mark_from_of_marks_clear (with_mark live last_block) n
          (λ j h below. with_mark_other live last_block j (λ (q : j ≡ last_block). omega (arith, last_filled_below_n))
          ∙ mark_clear_of_no_mark_from live n (no_mark_from_of_places_valid order live s n good) j h below))
          (omega (arith, one_filled_place_fewer, places_in_storage_of_places_valid order live s n good))
          (λ j l. ap (λ (m : ℕ). occurrences (place order s) m j + mark_bit (with_mark live last_block) j) one_filled_place_fewer
          ∙ at j l (ℕ_discrete j last_block))
        where
          at : (j : ℕ) → j < n → Dec (j ≡ last_block) → occurrences (place order s) (filled_places live n - 1) j + mark_bit (with_mark live last_block) j ≡ 1
          at j l (yes q) =
              let g = block_once_of_places_valid order live s n good j l in
              let o : one (eqb last_block j) ≡ 1 = ap (λ (k : ℕ). one (eqb last_block k)) q ∙ one_of_equal last_block in
              let m : mark_bit (with_mark live last_block) j ≡ 1 = ap (mark_bit (with_mark live last_block)) q
              ∙ with_mark_same live last_block long (omega (arith, last_filled_below_n)) in
              omega (arith, occurrences_split_last j)
          at j l (no f) = omega (
            arith,
            block_once_of_places_valid order live s n good j l,
            occurrences_split_last j,
            one_of_different last_block j
                (λ q. f (sym q)),
            with_mark_other live last_block j f,
          )

    -- ---- a free: a live block's mark is cleared, and its number goes in the next place
    module _ (b : ℕ) (below : b < n) (marked : mark_bit live b ≡ 1) (fits : s * 256 + n ≤ length order) where
      abbrev after : List ℕ
      after = with_place order s (filled_places live n) b

      live_count_before_free : live_count live ≡ suc (live_count (without_mark live b))
      live_count_before_free = live_count_without_mark live b long (omega arith) marked

      one_filled_place_more : filled_places (without_mark live b) n ≡ filled_places live n + 1
      one_filled_place_more = omega (arith, live_count_before_free, live_count_le_of_places_valid)

      occurrences_after_free : (j : ℕ) → occurrences (place after s) (filled_places live n + 1) j ≡ occurrences (place order s)
          (filled_places live n) j + one (eqb b j)
      occurrences_after_free j =
          occurrences_suc (place after s) (filled_places live n) j
          ∙ ap₂ (λ (x y : ℕ). x + one (eqb y j))
          (occurrences_cong (place after s) (place order s) (filled_places live n) j
          (λ p l. with_place_other_place order s (filled_places live n) b p (λ (q : p ≡ filled_places live n). omega arith)))
          (with_place_same order s (filled_places live n) b (omega (arith, live_count_before_free, live_count_le_of_places_valid)))

      pub places_valid_after_free : T (places_valid after (without_mark live b) s n)
      places_valid_after_free =
          places_valid_of_clauses after (without_mark live b) s n
          (no_mark_from_of_marks_clear (without_mark live b) n (λ j h l. without_mark_other live b j (λ (q : j ≡ b). omega arith)
          ∙ mark_clear_of_no_mark_from live n (no_mark_from_of_places_valid order live s n good) j h l))
          (omega (arith, one_filled_place_more, live_count_before_free, live_count_le_of_places_valid, length_with_place order s (filled_places live n) b))
          (λ j l. ap (λ (m : ℕ). occurrences (place after s) m j + mark_bit (without_mark live b) j) one_filled_place_more ∙ at j l (ℕ_discrete j b))
        where
          at : (j : ℕ) → j < n → Dec (j ≡ b) → occurrences (place after s) (filled_places live n + 1) j + mark_bit (without_mark live b) j ≡ 1
          at j l (yes q) =
              let g = block_once_of_places_valid order live s n good j l in
              let o : one (eqb b j) ≡ 1 = ap (λ (k : ℕ). one (eqb b k)) q ∙ one_of_equal b in
              let m : mark_bit (without_mark live b) j ≡ 0 = ap (mark_bit (without_mark live b)) q ∙ without_mark_same live b in
              let w : mark_bit live j ≡ 1 = ap (mark_bit live) q ∙ marked in
              omega (arith, occurrences_after_free j)
          at j l (no f) = omega (
            arith,
            block_once_of_places_valid order live s n good j l,
            occurrences_after_free j,
            one_of_different b j (λ q. f (sym q)),
            without_mark_other live b j f,
          )

-- ---- a renewal: no mark is set, and every block of the superblock is free
module _ (order : List ℕ) (s n : ℕ) (small : n ≤ 256) (fits : s * 256 + n ≤ length order) where
  mirrored_equality : (j p : ℕ) → j < n → p < n → Dec (n - 1 - j ≡ p) → one (eqb (n - 1 - p) j) ≡ one (eqb (n - 1 - j) p)
  mirrored_equality j p lj lp (yes q) = ap (λ (k : ℕ). one (eqb k j)) (turn j p lj lp q) ∙ one_of_equal j ∙ sym (one_of_equal p)
      ∙ ap (λ (k : ℕ). one (eqb k p)) (sym q)
    where
      turn : (j p : ℕ) → j < n → p < n → n - 1 - j ≡ p → n - 1 - p ≡ j
      turn j p lj lp q = omega arith
  mirrored_equality j p lj lp (no f) = one_of_different (n - 1 - p) j (λ (q : n - 1 - p ≡ j). f (omega arith)) ∙ sym (one_of_different (n - 1 - j) p f)

  renewed_holds_each_once : (j : ℕ) → j < n → occurrences (place (renewed order s n) s) n j ≡ 1
  unfolding occurrences
  renewed_holds_each_once j l =
      sum_cong (λ p. one (eqb (place (renewed order s n) s p) j)) (λ p. one (eqb (n - 1 - j) p)) n
      (λ p lp. ap (λ (k : ℕ). one (eqb k j)) (renewed_place order s n p small fits lp) ∙ mirrored_equality j p l lp (ℕ_discrete (n - 1 - j) p))
      ∙ indicator_sum_inside (n - 1 - j) n (omega arith)

  renewed_all_filled : filled_places no_marks n ≡ n
  renewed_all_filled = omega (arith, live_count_of_no_marks)

  pub places_valid_after_renewal : T (places_valid (renewed order s n) no_marks s n)
  places_valid_after_renewal =
      places_valid_of_clauses (renewed order s n) no_marks s n (no_mark_from_of_no_marks n) (omega (arith, renewed_all_filled, length_renewed order s n))
      (λ j l. ap (λ (m : ℕ). occurrences (place (renewed order s n) s) m j + mark_bit no_marks j) renewed_all_filled
      ∙ omega (arith, renewed_holds_each_once j l, mark_bit_of_no_marks j))

  -- "So block 0 is taken first"
  pub last_filled_of_renewed_is_0 : 0 < n → last_filled (renewed order s n) s n ≡ 0
  last_filled_of_renewed_is_0 h = last_filled_is_place (renewed order s n) s n h small ∙ renewed_place order s n (n - 1) small fits (omega arith) ∙ omega arith
