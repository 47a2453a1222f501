-- The check of a superblock whose places are lent reads those places and not how much more is lent. Assumes nothing.
use mathlib.Core.Path.{◌≡◌, sym, ap, ap₂, ◌∙◌}
use mathlib.Core.Bool.{Bool}
use mathlib.Core.List.{List}
use Prim.Native.Nat.{ℕ, ◌+◌, ◌*◌, ◌≤◌, ◌<◌}
use native.Mathlib.Omega.{arith}
use borrow.Author.Tests.{le-leb}
use lib.ListN.{length}
use lib.Dec.{eqb}
use Rattle.base_laws.specs.Sums.{both}
use Rattle.base_laws.proofs.SumLaws.{all_cong}
use Rattle.marks_rules.specs.Marks.{mark_bit, no_mark_from}
use Rattle.order_rules.specs.Order.{place}
use Rattle.filled_rules.specs.FilledPlaces.{occurrences, filled_places, places_in_storage, each_once, places_valid}
use Rattle.filled_rules.proofs.OccurrenceLaws.{occurrences_cong}

-- two storages that have the n places of superblock s and agree there
pub places_valid_cong_if_in_storage : (a b live : List ℕ) (s n : ℕ) → s * 256 + n ≤ length a → s * 256 + n ≤ length b
    → ((p : ℕ) → p < n → place a s p ≡ place b s p) → places_valid a live s n ≡ places_valid b live s n
unfolding places_valid places_in_storage each_once
places_valid_cong_if_in_storage a b live s n fits also same =
    ap₂ (λ (x y : Bool). both (no_mark_from live n) (both x y))
    (le-leb (s * 256 + filled_places live n) (length a) (omega arith) ∙ sym (le-leb (s * 256 + filled_places live n) (length b) (omega arith)))
    (all_cong (λ j. eqb (occurrences (place a s) (filled_places live n) j + mark_bit live j) 1)
    (λ j. eqb (occurrences (place b s) (filled_places live n) j + mark_bit live j) 1) n
    (λ j l. ap (λ (x : ℕ). eqb (x + mark_bit live j) 1) (occurrences_cong (place a s) (place b s) (filled_places live n) j (λ p h. same p (omega arith)))))
