-- The check's one pass: what it keeps from place to place, and what it shows at each way out. Assumes nothing.
use mathlib.Core.Path.{◌≡◌, sym, ap, ◌∙◌}
use mathlib.Core.Bool.{true, false}
use mathlib.Core.List.{List}
use Prim.Native.Nat.{ℕ, ◌+◌, ◌≤◌, ◌<◌}
use native.Mathlib.Nat.{not-suc-le-zero, not-le_of_lt}
use native.Mathlib.Decide.{ℕ_discrete, dec_lt}
use native.Mathlib.Omega.{arith}
use borrow.Author.Count.{below_more}
use borrow.Author.Tests.{eq-eqb}
use lib.ListN.{length}
use lib.Dec.{T, eqb, eqb→eq}
use Rattle.base_laws.specs.Sums.{one, sum_below}
use Rattle.base_laws.proofs.TestLaws.{T_of_true, true_of_T, false_of_not_T, one_of_equal, one_of_different}
use Rattle.base_laws.proofs.SumLaws.{sum_cong, all_at, all_of_each}
use Rattle.base_laws.proofs.Counting.{sum_add, sum_of_ones, terms_one_of_full_sum, indicator_sum_inside, indicator_sum_outside}
use Rattle.marks_rules.specs.Marks.{mark_bit, no_mark_from, with_mark}
use Rattle.marks_laws.proofs.MarkLaws.{mark_bit_lt_two, with_mark_same, with_mark_other, length_with_mark}
use Rattle.marks_laws.proofs.NoMarkFromLaws.{live_count_is_sum_below, live_count_le_of_no_mark_from}
use Rattle.order_rules.specs.Order.{place}
use Rattle.filled_rules.specs.FilledPlaces.{occurrences, filled_places, each_once}
use Rattle.filled_rules.proofs.OccurrenceLaws.{occurrences_zero, occurrences_suc, occurrences_mono, occurrences_sum_swap}

-- after p places: the live marks and the blocks of those places are seen, all below n, each once
pub record SeenMarks (order live : List ℕ) (s n : ℕ) (seen : List ℕ) (p : ℕ) : Type 0 where
  pub length_is : length seen ≡ 4
  pub marks : (j : ℕ) → mark_bit seen j ≡ mark_bit live j + occurrences (place order s) p j
  pub low : (q : ℕ) → q < p → place order s q < n

module _ (order live : List ℕ) (s n : ℕ) where
  pub block_once_of_each_once : T (each_once order live s n) → (j : ℕ) → j < n → occurrences (place order s) (filled_places live n) j + mark_bit live j ≡ 1
  unfolding each_once
  block_once_of_each_once t j h = eqb→eq (occurrences (place order s) (filled_places live n) j + mark_bit live j) 1
      (all_at (λ k. eqb (occurrences (place order s) (filled_places live n) k + mark_bit live k) 1) n t j h)

  pub each_once_of_blocks_once : ((j : ℕ) → j < n → occurrences (place order s) (filled_places live n) j + mark_bit live j ≡ 1) → T (each_once order live s n)
  unfolding each_once
  each_once_of_blocks_once z = all_of_each (λ k. eqb (occurrences (place order s) (filled_places live n) k + mark_bit live k) 1) n
      (λ k h. T_of_true _ (eq-eqb _ _ (z k h)))

  module _ (small : n ≤ 256) (none : T (no_mark_from live n)) where
    filled_and_marked_total : filled_places live n + sum_below (mark_bit live) n ≡ n
    filled_and_marked_total = omega (arith, live_count_le_of_no_mark_from live n small none, live_count_is_sum_below live n small none)

    -- every filled place holds a block below n
    pub filled_below_n_of_each_once : T (each_once order live s n) → (p : ℕ) → p < filled_places live n → place order s p < n
    filled_below_n_of_each_once t p h = go (dec_lt (place order s p) n)
      where
        row : ℕ → ℕ
        row q = sum_below (λ j. one (eqb (place order s q) j)) n

        row_le : (q : ℕ) → Dec (place order s q < n) → row q ≤ 1
        row_le q (yes a) = omega (arith, indicator_sum_inside (place order s q) n a)
        row_le q (no a) = omega (arith, indicator_sum_outside (place order s q) n (omega arith))

        sums : sum_below row (filled_places live n) ≡ filled_places live n
        sums =
            let e = sum_add (occurrences (place order s) (filled_places live n)) (mark_bit live) n in
            let c = sum_of_ones (λ j. occurrences (place order s) (filled_places live n) j + mark_bit live j) n (λ k l. block_once_of_each_once t k l) in
            let w = occurrences_sum_swap (place order s) (filled_places live n) n in
            omega (arith, filled_and_marked_total)

        go : Dec (place order s p < n) → place order s p < n
        go (yes a) = a
        go (no a) =
            let o : row p ≡ 1 = terms_one_of_full_sum row (filled_places live n) (λ k l. row_le k (dec_lt (place order s k) n)) sums p h in
            let z : row p ≡ 0 = indicator_sum_outside (place order s p) n (omega arith) in
            absurd (omega arith)

    -- a filled place that holds no block of the superblock
    pub each_once_false_of_high_block : (p m : ℕ) → m ≡ filled_places live n → p < m → n ≤ place order s p → false ≡ each_once order live s n
    each_once_false_of_high_block p m em l h =
        sym (false_of_not_T (each_once order live s n) (λ t. not-le_of_lt (filled_below_n_of_each_once t p (omega arith)) h))

    -- a filled place that holds a block seen before
    pub each_once_false_of_repeated_block : (seen : List ℕ) (p m : ℕ) → m ≡ filled_places live n → SeenMarks order live s n seen p → p < m
        → place order s p < n → mark_bit seen (place order s p) ≡ 1
        → false ≡ each_once order live s n
    each_once_false_of_repeated_block seen p m em h l b e =
        sym (false_of_not_T (each_once order live s n) (λ t.
        let g = block_once_of_each_once t (place order s p) b in
        let a = h.marks (place order s p) in
        let u = occurrences_suc (place order s) p (place order s p) in
        let o = one_of_equal (place order s p) in
        let i = occurrences_mono (place order s) (p + 1) (filled_places live n) (place order s p) (omega arith) in
        omega arith))

    -- all filled places passed: n marks of at most 1 add up to n
    pub each_once_true_of_all_seen : (seen : List ℕ) (p m : ℕ) → m ≡ filled_places live n → SeenMarks order live s n seen p → p ≡ m
        → true ≡ each_once order live s n
    each_once_true_of_all_seen seen p m em h ep = sym (true_of_T (each_once order live s n) (each_once_of_blocks_once (λ j l. each j l)))
      where
        full : sum_below (mark_bit seen) n ≡ n
        full =
            let a = sum_cong (mark_bit seen) (λ j. mark_bit live j + occurrences (place order s) p j) n (λ k l. h.marks k) in
            let b = sum_add (mark_bit live) (occurrences (place order s) p) n in
            let c = occurrences_sum_swap (place order s) p n in
            let d = sum_of_ones (λ q. sum_below (λ j. one (eqb (place order s q) j)) n) p (λ q l. indicator_sum_inside (place order s q) n (h.low q l)) in
            omega (arith, filled_and_marked_total)

        each : (j : ℕ) → j < n → occurrences (place order s) (filled_places live n) j + mark_bit live j ≡ 1
        each j l =
            let a = terms_one_of_full_sum (mark_bit seen) n (λ k lk. omega (arith, mark_bit_lt_two seen k)) full j l in
            let b = h.marks j in
            let c : occurrences (place order s) p j ≡ occurrences (place order s) (filled_places live n) j =
            ap (λ (x : ℕ). occurrences (place order s) x j) (ep ∙ em) in
            omega arith

  pub seen_marks_start : length live ≡ 4 → SeenMarks order live s n live 0
  seen_marks_start e = record { length_is = e; marks = λ j. omega (arith, occurrences_zero (place order s) j); low = λ q l. absurd (not-suc-le-zero l) }

  pub seen_marks_step : (seen : List ℕ) (p : ℕ) → n ≤ 256 → SeenMarks order live s n seen p → place order s p < n → mark_bit seen (place order s p) ≡ 0
      → SeenMarks order live s n (with_mark seen (place order s p)) (p + 1)
  seen_marks_step seen p small h b e =
      record {
        length_is = length_with_mark seen (place order s p) ∙ h.length_is;
        marks = λ j. at j (ℕ_discrete j (place order s p));
        low = below_more (λ q. place order s q < n) p h.low b;
      }
    where
      at : (j : ℕ) → Dec (j ≡ place order s p) → mark_bit (with_mark seen (place order s p)) j ≡ mark_bit live j + occurrences (place order s) (p + 1) j
      at j (yes q) =
          ap (mark_bit (with_mark seen (place order s p))) q ∙ with_mark_same seen (place order s p) h.length_is (omega arith) ∙ (
          let a = h.marks (place order s p) in
          let u = occurrences_suc (place order s) p (place order s p) in
          let o = one_of_equal (place order s p) in
          omega arith
          ) ∙ ap (λ (x : ℕ). mark_bit live x + occurrences (place order s) (p + 1) x) (sym q)
      at j (no f) =
          with_mark_other seen (place order s p) j f ∙ (
          let a = h.marks j in
          let u = occurrences_suc (place order s) p j in
          let o = one_of_different (place order s p) j (λ q. f (sym q)) in
          omega arith
          )
