-- Lists of numbers: one of them increased, and when two lists are equal. Assumes nothing.
use mathlib.Core.Path.{◌≡◌, refl, ap, ap₂, ◌∙◌}
use mathlib.Core.List.{List, [], ◌∷◌}
use Prim.Native.Nat.{ℕ, zero, suc, ◌+◌, ◌≤◌, ◌<◌}
use native.Mathlib.Decide.{ℕ_discrete}
use native.Mathlib.Omega.{arith}
use borrow.Author.Tests.{eq-eqb}
use lib.ListN.{length, get_or, set, length-set}
use lib.Seq.{get_or-set_same, get_or-set_other}
use lib.Dec.{T, eqb, eqb→eq}
use Rattle.base_laws.specs.Lists.{increased, same_numbers}
use Rattle.base_laws.proofs.TestLaws.{T_of_true, both_left, both_right, both_make}

-- ---- one number increased
pub increased_is_set : (x n : ℕ) (l : List ℕ) → increased x n l ≡ set l x (get_or l x 0 + n)
unfolding increased
increased_is_set x n [] = refl
increased_is_set zero n (y ∷ l) = refl
increased_is_set (suc x) n (y ∷ l) = ap (λ (m : List ℕ). y ∷ m) (increased_is_set x n l)

pub length_increased : (x n : ℕ) (l : List ℕ) → length (increased x n l) ≡ length l
length_increased x n l = ap length (increased_is_set x n l) ∙ length-set l x (get_or l x 0 + n)

pub increased_at : (x n : ℕ) (l : List ℕ) → x < length l → get_or (increased x n l) x 0 ≡ get_or l x 0 + n
increased_at x n l h = ap (λ (m : List ℕ). get_or m x 0) (increased_is_set x n l) ∙ get_or-set_same l x (get_or l x 0 + n) 0 h

pub increased_elsewhere : (x n : ℕ) (l : List ℕ) (y : ℕ) → (y ≡ x → ⊥) → get_or (increased x n l) y 0 ≡ get_or l y 0
increased_elsewhere x n l y f = ap (λ (m : List ℕ). get_or m y 0) (increased_is_set x n l) ∙ get_or-set_other l x y (get_or l x 0 + n) 0 f

-- no number is more than it was by more than what was added
pub increased_at_most : (x n m w : ℕ) (l : List ℕ) → x < length l → n ≤ w → ((y : ℕ) → get_or l y 0 ≤ m) → (y : ℕ) → get_or (increased x n l) y 0 ≤ m + w
increased_at_most x n m w l h few below y = go (ℕ_discrete y x)
  where
    go : Dec (y ≡ x) → get_or (increased x n l) y 0 ≤ m + w
    go (yes e) = let at : get_or (increased x n l) y 0 ≡ get_or l x 0 + n = ap (λ (i : ℕ). get_or (increased x n l) i 0) e ∙ increased_at x n l h in
        omega (arith, below x)
    go (no f) = omega (arith, below y, increased_elsewhere x n l y f)

-- ---- equal lists
pub equal_of_same_numbers : (l m : List ℕ) → T (same_numbers l m) → l ≡ m
unfolding same_numbers
equal_of_same_numbers [] [] t = refl
equal_of_same_numbers [] (y ∷ m) t = absurd t
equal_of_same_numbers (x ∷ l) [] t = absurd t
equal_of_same_numbers (x ∷ l) (y ∷ m) t = ap₂ (λ (a : ℕ) (b : List ℕ). a ∷ b) (eqb→eq x y (both_left (eqb x y) (same_numbers l m) t))
    (equal_of_same_numbers l m (both_right (eqb x y) (same_numbers l m) t))

pub same_numbers_refl : (l : List ℕ) → T (same_numbers l l)
unfolding same_numbers
same_numbers_refl [] = tt
same_numbers_refl (x ∷ l) = both_make (eqb x x) (same_numbers l l) (T_of_true _ (eq-eqb x x refl)) (same_numbers_refl l)
