-- The totals are equal where `==` says so of each kind. Assumes nothing.
use mathlib.Core.Path.{◌≡◌, refl, ◌∙◌}
use mathlib.Core.Bool.{Bool, true, false, ◌&&◌}
use mathlib.Core.List.{List, [], ◌∷◌}
use Prim.Native.Nat.{ℕ}
use lib.Dec.{eqb}
use lib.Pointwise.{pointwise}
use Rattle.base_laws.specs.Sums.{both}
use Rattle.base_laws.specs.Lists.{same_numbers}
use Rattle.heap_rules.specs.declared.Totals.{Totals}
use Rattle.check_rules.specs.Check.{same_totals}

same_numbers_is_pointwise : (a b : List ℕ) → pointwise eqb a b ≡ same_numbers a b
unfolding same_numbers
same_numbers_is_pointwise [] [] = refl
same_numbers_is_pointwise [] (y ∷ m) = refl
same_numbers_is_pointwise (x ∷ l) [] = refl
same_numbers_is_pointwise (x ∷ l) (y ∷ m) = go (eqb x y) (same_numbers_is_pointwise l m)
  where
    go : (t : Bool) → pointwise eqb l m ≡ same_numbers l m → (t && pointwise eqb l m) ≡ both t (same_numbers l m)
    go true e = e
    go false e = refl

module _ (t r : Totals) (same : Bool) (e : same ≡ pointwise eqb t.superblocks r.superblocks) where
  pub same_totals_false_of_superblocks : same ≡ false → same ≡ same_totals t r
  unfolding same_totals
  same_totals_false_of_superblocks f = rw (← same_numbers_is_pointwise t.superblocks r.superblocks, ← e, f)

  pub same_totals_is_same_live : (live : Bool) → same ≡ true → live ≡ pointwise eqb t.live r.live → live ≡ same_totals t r
  unfolding same_totals
  same_totals_is_same_live live f g = rw (← same_numbers_is_pointwise t.superblocks r.superblocks, ← e, f) (g ∙ same_numbers_is_pointwise t.live r.live)
