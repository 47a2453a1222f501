-- The search for a run: the available superblocks in a row, turn by turn. Assumes nothing.
use Rattle.std.proofs.Common.{Some, None}
use mathlib.Core.Path.{◌≡◌, sym, ap, ◌∙◌, subst}
use mathlib.Core.Bool.{Bool, true, false}
use mathlib.Core.List.{[]}
use Prim.Native.Nat.{ℕ, ◌+◌, ◌-◌, ◌≤◌, ◌<◌, min, zero-le}
use native.Mathlib.Nat.{lt_of_not-le}
use native.Mathlib.Decide.{ℕ_discrete, dec_le, dec_lt}
use native.Mathlib.Omega.{arith}
use lib.ListN.{length, take, get_or, get_or-eq_default}
use Rattle.std.proofs.lemmas.List.{get_or-take, length-take}
use lib.Dec.{T}
use Rattle.base_laws.proofs.TestLaws.{T_of_true, not_T_of_false}
use Rattle.base_laws.proofs.Inequalities.{le_of_not_below}
use Rattle.marks_laws.proofs.MarkLaws.{mark_bit_of_empty_list, live_count_zero_of_marks_clear}
use Rattle.heap_rules.specs.declared.Superblock.{Superblock}
use Rattle.heap_rules.specs.declared.State.{State}
use Rattle.heap_rules.specs.Table.{blank, superblock_at, is_unused}
use Rattle.choice_rules.specs.Choice.{empty_in_global}
use Rattle.choice_rules.specs.RunChoice.{is_available, is_free_run, lowest_run}
use Rattle.heap_laws.proofs.RunChoiceLaws.{FreeRun, facts_of_is_free_run, is_free_run_of_facts, lowest_below_of_lowest, lowest_below_nothing_of_none}

-- ---- the loop
-- before superblock k stand so many available ones in a row, fewer than n; one that is not stands in each longer row; and no run of n ends at or before k
pub record RowBefore (s : State) (n k row : ℕ) : Type 0 where
  pub fits : row ≤ k
  pub shorter : row < n
  pub available : (i : ℕ) → k ≤ i + row → i < k → T (is_available (superblock_at s i))
  pub no_longer : (j : ℕ) → j + row < k → ((i : ℕ) → j ≤ i → i < k → T (is_available (superblock_at s i))) → ⊥
  pub no_run : (j : ℕ) → j + n ≤ k → FreeRun n s j → ⊥

pub no_row_at_start : (s : State) (n : ℕ) → 1 ≤ n → RowBefore s n 0 0
no_row_at_start s n h =
    record {
      fits = omega arith;
      shorter = omega arith;
      available = λ i l g. absurd (omega arith);
      no_longer = λ j l g. omega arith;
      no_run = λ j l t. omega arith;
    }

module _ (s : State) (n k row : ℕ) (before : RowBefore s n k row) where
  -- a row of n that is no longer than allowed holds one that is not available, so it is no run
  no_run_after : (now : ℕ) → now < n → ((j : ℕ) → j + now < k + 1 → ((i : ℕ) → j ≤ i → i < k + 1 → T (is_available (superblock_at s i))) → ⊥) → (j : ℕ)
      → j + n ≤ k + 1 → FreeRun n s j → ⊥
  no_run_after now l longer j h t = go (dec_le (j + n) k)
    where
      go : Dec (j + n ≤ k) → ⊥
      go (yes g) = before.no_run j g t
      go (no f) = longer j (omega arith) (λ i m u. t.available i m (omega arith))

  -- superblock k, which is one of those that the scan looks at, below N
  module _ (end : ℕ) (ends : end ≡ min s.setup.superblocks 64) (seen : ℕ) (inside : k < length (take seen s.table)) (within : k < seen → k < end) (t : Bool)
      (looked : t ≡ is_available (get_or (take seen s.table) k blank)) where
    below_seen : k < seen
    below_seen = omega (arith, inside, length-take seen s.table)

    below_end : k < end
    below_end = within below_seen

    e : t ≡ is_available (superblock_at s k)
    e = looked ∙ ap is_available (get_or-take seen s.table k blank below_seen)

    here : t ≡ true → T (is_available (superblock_at s k))
    here y = T_of_true _ (sym e ∙ y)

    abbrev AllFrom : ℕ → ℕ → Type 0
    AllFrom j m = (i : ℕ) → j ≤ i → i < m → T (is_available (superblock_at s i))

    row_longer : t ≡ true → (i : ℕ) → k + 1 ≤ i + (row + 1) → i < k + 1 → T (is_available (superblock_at s i))
    row_longer y i l h = go (ℕ_discrete i k)
      where
        go : Dec (i ≡ k) → T (is_available (superblock_at s i))
        go (yes q) = subst (λ (j : ℕ). T (is_available (superblock_at s j))) (sym q) (here y)
        go (no f) = before.available i (omega arith) (omega arith)

    -- the row after superblock k
    module _ (now : ℕ) where
      pub row_step_available : t ≡ true → now ≡ row + 1 → (now ≡ n → ⊥) → RowBefore s n (k + 1) now
      row_step_available y q f =
          let fit = before.fits in
          let short = before.shorter in
          let longer : (j : ℕ) → j + now < k + 1 → AllFrom j (k + 1) → ⊥ = λ j h all. before.no_longer j (omega arith) (λ i a b. all i a (omega arith)) in
          let shorter_still : now < n = lt_of_not-le (λ (h : n ≤ now). f (omega arith)) in
          record {
            fits = omega arith;
            shorter = shorter_still;
            available = λ i l h. row_longer y i (omega arith) h;
            no_longer = longer;
            no_run = no_run_after now shorter_still longer;
          }

      pub row_step_other : t ≡ false → now ≡ 0 → RowBefore s n (k + 1) now
      row_step_other y q =
          let short = before.shorter in
          let longer : (j : ℕ) → j + now < k + 1 → AllFrom j (k + 1) → ⊥ = λ j h all. not_T_of_false _ (sym e ∙ y) (all k (omega arith) (omega arith)) in
          record {
            fits = omega arith;
            shorter = omega arith;
            available = λ i l h. absurd (omega arith);
            no_longer = longer;
            no_run = no_run_after now (omega arith) longer;
          }

      -- it is n long: the run
      pub run_found : t ≡ true → now ≡ row + 1 → now ≡ n → Some (k + 1 - n) ≡ lowest_run n s
      unfolding lowest_run
      run_found y q g =
          let fit = before.fits in
          let below = below_end in
          let here_free : FreeRun n s (k + 1 - n) = record { below = omega arith; available = λ i a b. row_longer y i (omega arith) (omega arith) } in
          sym
          (lowest_below_of_lowest (is_free_run n s) 64 (k + 1 - n)
          (record {
            below = omega arith;
            passes = is_free_run_of_facts n s (k + 1 - n) here_free;
            none_lower = λ j m t. before.no_run j (omega arith) (facts_of_is_free_run n s j t);
          }))

-- ---- after the scan
pub run_of_none_is_first : (s : State) → Some 0 ≡ lowest_run 0 s
unfolding lowest_run
run_of_none_is_first s =
    sym
    (lowest_below_of_lowest (is_free_run 0 s) 64 0
    (record {
      below = omega arith;
      passes = is_free_run_of_facts 0 s 0 (record { below = zero-le; available = λ i a b. absurd (omega arith) });
      none_lower = λ j m t. omega arith;
    }))

blank_available : T (is_available blank)
unfolding is_available empty_in_global is_unused
blank_available = rw (live_count_zero_of_marks_clear [] (λ j h. mark_bit_of_empty_list j)) tt

-- past the table a superblock reads as blank, which is available
available_past_table : (s : State) → length s.table ≡ 64 → (i : ℕ) → 64 ≤ i → T (is_available (superblock_at s i))
available_past_table s long i h =
    subst (λ (b : Superblock). T (is_available b)) (sym (get_or-eq_default s.table blank {n = i} (omega arith))) blank_available

-- it ends at N, or at the table's end where N is above it
module _ (s : State) (n k end row : ℕ) (ends : end ≡ min s.setup.superblocks 64) (scanned : RowBefore s n k row) (le : k ≤ end) (ge : end ≤ k) where
  before : RowBefore s n end row
  before = let e : k ≡ end = omega arith in subst (λ (m : ℕ). RowBefore s n m row) e scanned

  -- a run that ends past the scan, and begins before the last row, would make that row longer
  none_before_row : (j : ℕ) → j + row < end → FreeRun n s j → ⊥
  none_before_row j l t = go (dec_le (j + n) end)
    where
      go : Dec (j + n ≤ end) → ⊥
      go (yes h) = before.no_run j h t
      go (no f) = before.no_longer j l (λ i a b. t.available i a (omega (arith, lt_of_not-le f)))

  -- the last row and what lies past the table are the run
  pub run_past_table : length s.table ≡ 64 → 0 < row → n ≤ row + (s.setup.superblocks - end) → Some (end - row) ≡ lowest_run n s
  unfolding lowest_run
  run_past_table long some enough =
      let fit = before.fits in
      let short = before.shorter in
      let at_table_end : end ≡ 64 = omega arith in
      sym
      (lowest_below_of_lowest (is_free_run n s) 64 (end - row)
      (record {
        below = omega arith;
        passes = is_free_run_of_facts n s (end - row) (record { below = omega arith; available = λ i a b. here at_table_end i a (dec_lt i 64) });
        none_lower = λ j m t. none_before_row j (omega arith) (facts_of_is_free_run n s j t);
      }))
    where
      here : end ≡ 64 → (i : ℕ) → end - row ≤ i → Dec (i < 64) → T (is_available (superblock_at s i))
      here e i a (yes l) = before.available i (omega arith) (omega arith)
      here e i a (no f) = available_past_table s long i (le_of_not_below f)

  -- no row was long enough
  pub no_run_found : (0 < row → n ≤ row + (s.setup.superblocks - end) → ⊥) → None ≡ lowest_run n s
  unfolding lowest_run
  no_run_found short = sym (lowest_below_nothing_of_none (is_free_run n s) 64 (λ j l t. none j l (facts_of_is_free_run n s j t)))
    where
      none : (j : ℕ) → j < 64 → FreeRun n s j → ⊥
      none j l t = go (dec_lt (j + row) end) (dec_le s.setup.superblocks 64)
        where
          go : Dec (j + row < end) → Dec (s.setup.superblocks ≤ 64) → ⊥
          go (yes h) _ = none_before_row j h t
          go (no f) (yes h) = before.no_run j (omega (arith, t.below)) t
          go (no f) (no g) = short (omega (arith, le_of_not_below f)) (omega (arith, le_of_not_below f, t.below))
