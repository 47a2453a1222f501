-- Laws of how often a number stands in the first places. Assumes nothing.
use mathlib.Core.Path.{◌≡◌, ap, subst}
use Prim.Native.Nat.{ℕ, ◌+◌, ◌-◌, ◌≤◌, ◌<◌}
use native.Mathlib.Omega.{arith}
use lib.Dec.{eqb}
use Rattle.base_laws.specs.Sums.{one, sum_below}
use Rattle.base_laws.proofs.SumLaws.{sum_below_zero, sum_below_suc, sum_cong}
use Rattle.base_laws.proofs.Counting.{sum_swap, sum_mono}
use Rattle.filled_rules.specs.FilledPlaces.{occurrences}

pub occurrences_zero : (v : ℕ → ℕ) (j : ℕ) → occurrences v 0 j ≡ 0
unfolding occurrences
occurrences_zero v j = sum_below_zero (λ p. one (eqb (v p) j))

pub occurrences_suc : (v : ℕ → ℕ) (m j : ℕ) → occurrences v (m + 1) j ≡ occurrences v m j + one (eqb (v m) j)
unfolding occurrences
occurrences_suc v m j = sum_below_suc (λ p. one (eqb (v p) j)) m

pub occurrences_mono : (v : ℕ → ℕ) (a b j : ℕ) → a ≤ b → occurrences v a j ≤ occurrences v b j
unfolding occurrences
occurrences_mono v a b j l = subst (λ (x : ℕ). sum_below (λ p. one (eqb (v p) j)) a ≤ sum_below (λ p. one (eqb (v p) j)) x) (omega arith)
    (sum_mono (λ p. one (eqb (v p) j)) a (b - a))

-- places that hold the same have the same occurrences
pub occurrences_cong : (v w : ℕ → ℕ) (m j : ℕ) → ((p : ℕ) → p < m → v p ≡ w p) → occurrences v m j ≡ occurrences w m j
unfolding occurrences
occurrences_cong v w m j same = sum_cong (λ p. one (eqb (v p) j)) (λ p. one (eqb (w p) j)) m (λ p l. ap (λ (x : ℕ). one (eqb x j)) (same p l))

-- the occurrences of all numbers below n, counted place by place
pub occurrences_sum_swap : (v : ℕ → ℕ) (m n : ℕ) → sum_below (occurrences v m) n ≡ sum_below (λ p. sum_below (λ j. one (eqb (v p) j)) n) m
unfolding occurrences
occurrences_sum_swap v m n = sum_swap (λ j p. one (eqb (v p) j)) n m
