-- Lists by a rule for their elements, and lists of numbers. Assumes nothing.
use Rattle.std.specs.Prelude.{ℕ, zero, suc, ◌+◌, Bool, true, false, List, [], ◌∷◌, ◌++◌, eqb}
use Rattle.base_laws.specs.Sums.{both}

-- f 0, f 1, .., f (n - 1)
unfoldable pub listed : {A : Type 0} → (ℕ → A) → ℕ → List A
listed f zero = []
listed f (suc n) = listed f n ++ (f n ∷ [])

-- n more at place x; past the end nothing
unfoldable pub increased : ℕ → ℕ → List ℕ → List ℕ
increased x n [] = []
increased zero n (y ∷ l) = (y + n) ∷ l
increased (suc x) n (y ∷ l) = y ∷ increased x n l

-- the lists are equal
unfoldable pub same_numbers : List ℕ → List ℕ → Bool
same_numbers [] [] = true
same_numbers [] (y ∷ m) = false
same_numbers (x ∷ l) [] = false
same_numbers (x ∷ l) (y ∷ m) = both (eqb x y) (same_numbers l m)
