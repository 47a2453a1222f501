-- How a case of a call on a lent row is proved: by the call behind the check where the row passes it, and by one clause of the check where it does not.
-- Assumes nothing.
use mathlib.Core.Path.{◌≡◌, refl, ap, ◌∙◌}
use mathlib.Core.Bool.{Bool, true, not}
use mathlib.Core.List.{List, [], ◌∷◌, map}
use Prim.Native.Nat.{ℕ, ◌*◌}
use lib.ListN.{length, get_or, drop}
use lib.Dec.{T, eqb, leb, eqb→eq, leb→le, T_not}
use Rattle.base_laws.specs.Sums.{both}
use Rattle.base_laws.proofs.TestLaws.{T_of_true, true_of_T, false_of_not_T, both_left, both_right}
use Rattle.heap_rules.specs.declared.Superblock.{Superblock}
use Rattle.heap_rules.specs.declared.State.{State}
use Rattle.check_rules.specs.Check.{within_limits, totals_valid, rest_valid}
use Rattle.heap_laws.proofs.TotalsLaws.{totals_kept_of_valid}
use Rattle.heap_laws.proofs.UsedPartLaws.{used_table}
use Rattle.call_rules.specs.Calls.{call_of, call_unchecked}
use Rattle.call_rules.proofs.CheckFirst.{call_of_checks_first}
use Rattle.call_laws.proofs.CheckedLaws.{checked_refuses_13_of_rest}
use Rattle.call_laws.proofs.UsedPartCallLaws.{used_part_passes, call_past_used_part}
use Rattle.row_rules.specs.Row.{RowAfter, state_of, as_row_after, row_refused, row_call}
use Rattle.row_rules.proofs.RowCases.{CallCase}
use Rattle.row_laws.proofs.RowLaws.{call_on_64_is_call_of}

abbrev pub state_before : CallCase → State
state_before k = state_of k.control k.row

abbrev pub row_call_of : CallCase → RowAfter
row_call_of k = row_call k.control k.row k.order k.call

abbrev has_64 : CallCase → Bool
has_64 k = eqb (length k.row) 64

is_call_on_state : (k : CallCase) → T (has_64 k) → row_call_of k ≡ as_row_after (call_of (state_before k) k.order k.call)
is_call_on_state k t = call_on_64_is_call_of (length k.row) k.control k.row k.order k.call (eqb→eq _ _ t)

-- ---- a row that passes, its records from N on unused
abbrev pub row_passes : CallCase → Bool
row_passes k = both (has_64 k) (both (totals_valid (state_before k)) (used_part_passes (state_before k) k.order))

abbrev pub row_call_behind_check : CallCase → RowAfter
row_call_behind_check k = as_row_after (call_unchecked (state_before k) k.order k.call)

pub row_call_past_check : (k : CallCase) → k.row ≡ used_table (state_before k) → row_passes k ≡ true → row_call_of k ≡ row_call_behind_check k
row_call_past_check k table e =
    let s = state_before k in
    let t = both_right (has_64 k) _ (T_of_true _ e) in
    let kept = totals_kept_of_valid s (both_left (totals_valid s) _ t) in
    let passes = true_of_T _ (both_right (totals_valid s) _ t) in
    is_call_on_state k (both_left (has_64 k) _ (T_of_true _ e)) ∙ ap as_row_after (call_past_used_part s k.order k.call table kept passes)

-- each of a list
pub row_calls_past_check : (l : List CallCase) → map (λ (k : CallCase). k.row) l ≡ map (λ (k : CallCase). used_table (state_before k)) l
    → map row_passes l ≡ map (λ (k : CallCase). true) l → map row_call_of l ≡ map row_call_behind_check l
row_calls_past_check [] tables e = refl
row_calls_past_check (k ∷ l) tables e =
    rw (
      row_call_past_check k (ap (λ (x : List (List Superblock)). get_or x 0 []) tables) (ap (λ (x : List Bool). get_or x 0 true) e),
      row_calls_past_check l (ap (drop 1) tables) (ap (drop 1) e),
    )

-- ---- a row that a clause of the check refuses, what comes before the rest of it being right
abbrev first_tests : CallCase → Bool
first_tests k = both (within_limits k.control.setup) (leb (k.control.setup.superblocks * 256) (length k.order))

abbrev pub refused_by : (State → Bool) → CallCase → Bool
refused_by clause k = both (has_64 k) (both (first_tests k) (not (clause (state_before k))))

module _ (clause : State → Bool) (asked : (s : State) (order : List ℕ) → T (rest_valid s order) → T (clause s)) where
  row_call_refused : (k : CallCase) → refused_by clause k ≡ true → row_call_of k ≡ row_refused 13 k.control k.row k.order
  row_call_refused k e =
      let s = state_before k in
      let t = both_right (has_64 k) _ (T_of_true _ e) in
      let first = both_left (first_tests k) _ t in
      let wrong = both_right (first_tests k) _ t in
      let limits = true_of_T _ (both_left (within_limits s.setup) _ first) in
      let storage = leb→le _ _ (both_right (within_limits s.setup) _ first) in
      let not_valid = false_of_not_T (rest_valid s k.order) (λ valid. T_not (clause s) wrong (asked s k.order valid)) in
      is_call_on_state k (both_left (has_64 k) _ (T_of_true _ e))
      ∙ ap as_row_after (call_of_checks_first s k.order k.call ∙ checked_refuses_13_of_rest s k.order _ limits storage not_valid)

  pub row_calls_refused : (l : List CallCase) → map (refused_by clause) l ≡ map (λ (k : CallCase). true) l
      → map row_call_of l ≡ map (λ (k : CallCase). row_refused 13 k.control k.row k.order) l
  row_calls_refused [] e = refl
  row_calls_refused (k ∷ l) e = rw (row_call_refused k (ap (λ (x : List Bool). get_or x 0 true) e), row_calls_refused l (ap (drop 1) e))
