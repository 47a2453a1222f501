-- The check's three ways out, in the code's terms: n is the block count k of the class, and x the live count. Assumes nothing.
use mathlib.Core.Path.{◌≡◌, sym, ap, ◌∙◌}
use mathlib.Core.Bool.{Bool, true, false, not}
use mathlib.Core.List.{List}
use Prim.Native.Nat.{ℕ, ◌+◌, ◌-◌, ◌*◌, ◌≤◌, ◌<◌}
use native.Mathlib.Omega.{arith}
use borrow.Author.Tests.{not-true, not-false, le-leb, lt-leb}
use lib.ListN.{length}
use Rattle.base_laws.proofs.TestLaws.{T_of_true}
use Rattle.marks_rules.specs.Marks.{live_count, no_mark_from}
use Rattle.marks_laws.proofs.NoMarkFromLaws.{live_count_le_of_no_mark_from}
use Rattle.filled_rules.specs.FilledPlaces.{filled_places, places_in_storage, each_once, places_valid}

module _ (order live : List ℕ) (s n k : ℕ) (r : Bool) (count : n ≡ k) (tested : r ≡ no_mark_from live n) where
  no_mark_from_is_result : no_mark_from live k ≡ r
  no_mark_from_is_result = ap (no_mark_from live) (sym count) ∙ sym tested

  pub places_invalid_of_marks : not r ≡ true → false ≡ places_valid order live s k
  unfolding places_valid
  places_invalid_of_marks t = rw (no_mark_from_is_result, not-true r t)

  module _ (t : not r ≡ false) where
    no_mark_from_passed : no_mark_from live n ≡ true
    no_mark_from_passed = sym tested ∙ not-false r t

    module _ (x : ℕ) (lives : x ≡ live_count live) where
      -- the live blocks are among the n
      pub live_count_le_blocks : n ≤ 256 → x ≤ n
      live_count_le_blocks small = let h = live_count_le_of_no_mark_from live n small (T_of_true _ no_mark_from_passed) in omega arith

      filled_places_is_difference : filled_places live k ≡ n - x
      filled_places_is_difference = omega arith

      pub places_invalid_of_short_storage : length order < s * 256 + (n - x) → false ≡ places_valid order live s k
      unfolding places_valid places_in_storage
      places_invalid_of_short_storage h = rw (no_mark_from_is_result, not-false r t, filled_places_is_difference, lt-leb (s * 256 + (n - x)) (length order) h)

      pub places_valid_is_each_once : (y : Bool) → s * 256 + (n - x) ≤ length order → y ≡ each_once order live s n → y ≡ places_valid order live s k
      unfolding places_valid places_in_storage
      places_valid_is_each_once y h e =
          rw (no_mark_from_is_result, not-false r t, filled_places_is_difference, le-leb (s * 256 + (n - x)) (length order) h)
          (e ∙ ap (each_once order live s) count)
