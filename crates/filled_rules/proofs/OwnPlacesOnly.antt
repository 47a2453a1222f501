-- The check of a superblock reads that superblock's own places only. Assumes nothing.
use mathlib.Core.Path.{◌≡◌, ap, ap₂}
use mathlib.Core.Bool.{Bool}
use mathlib.Core.List.{List}
use Prim.Native.Nat.{ℕ, ◌+◌, ◌*◌, ◌≤◌, ◌<◌}
use native.Mathlib.Omega.{arith}
use lib.ListN.{length}
use lib.Dec.{eqb, leb}
use Rattle.base_laws.specs.Sums.{both}
use Rattle.base_laws.proofs.SumLaws.{all_cong}
use Rattle.marks_rules.specs.Marks.{mark_bit, no_mark_from}
use Rattle.order_rules.specs.Order.{place, with_place}
use Rattle.order_laws.proofs.OrderLaws.{length_with_place, with_place_other_superblock}
use Rattle.filled_rules.specs.FilledPlaces.{occurrences, filled_places, places_in_storage, each_once, places_valid}
use Rattle.filled_rules.proofs.OccurrenceLaws.{occurrences_cong}

-- two storages of one length that agree on the places of superblock s below n
pub places_valid_cong : (a b live : List ℕ) (s n : ℕ) → length a ≡ length b → ((p : ℕ) → p < n → place a s p ≡ place b s p) → places_valid a live s n
    ≡ places_valid b live s n
unfolding places_valid places_in_storage each_once
places_valid_cong a b live s n long same =
    ap₂ (λ (x y : Bool). both (no_mark_from live n) (both x y)) (ap (leb (s * 256 + filled_places live n)) long)
    (all_cong (λ j. eqb (occurrences (place a s) (filled_places live n) j + mark_bit live j) 1)
    (λ j. eqb (occurrences (place b s) (filled_places live n) j + mark_bit live j) 1) n
    (λ j l. ap (λ (x : ℕ). eqb (x + mark_bit live j) 1) (occurrences_cong (place a s) (place b s) (filled_places live n) j (λ p h. same p (omega arith)))))

module _ (order live : List ℕ) (s n t : ℕ) (other : s ≡ t → ⊥) (small : n ≤ 256) where
  -- a block put in a place of another superblock
  pub places_valid_other_with_place : (p b : ℕ) → p < 256 → places_valid (with_place order t p b) live s n ≡ places_valid order live s n
  places_valid_other_with_place p b h = places_valid_cong (with_place order t p b) order live s n (length_with_place order t p b)
      (λ q l. with_place_other_superblock order t p b s q other h (omega arith))
