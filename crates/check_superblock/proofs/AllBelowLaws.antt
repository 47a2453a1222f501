-- A test of the numbers below a bound, as `(0..n).all(..)` takes them. Assumes nothing.
use mathlib.Core.Path.{◌≡◌, refl, sym, ap, ap₂, ◌∙◌}
use mathlib.Core.Bool.{Bool, true, false, ◌&&◌}
use Prim.Native.Nat.{ℕ, zero, suc, ◌+◌}
use native.Mathlib.Nat.{add-zero}
use native.Mathlib.Omega.{arith}
use Rattle.base_laws.proofs.SumLaws.{all_cong}
use Rattle.std.specs.List.{list_all, range_with_len}
use Rattle.base_laws.specs.Sums.{both, all_below}

both_assoc : (a b c : Bool) → both (both a b) c ≡ both a (both b c)
both_assoc true b c = refl
both_assoc false b c = refl

-- the first one apart
all_below_first : (p : ℕ → Bool) (n : ℕ) → all_below p (suc n) ≡ both (p 0) (all_below (λ k. p (suc k)) n)
unfolding all_below
all_below_first p zero = both_true (p 0)
  where
    both_true : (b : Bool) → both true b ≡ both b true
    both_true true = refl
    both_true false = refl
all_below_first p (suc n) = ap (λ (t : Bool). both t (p (suc n))) (all_below_first p n) ∙ both_assoc (p 0) (all_below (λ k. p (suc k)) n) (p (suc n))

list_all_of_range : (p : ℕ → Bool) (a n : ℕ) → list_all p (range_with_len a n) ≡ all_below (λ k. p (a + k)) n
unfolding all_below
list_all_of_range p a zero = refl
list_all_of_range p a (suc n) =
    let rest : list_all p (range_with_len (a + 1) n) ≡ all_below (λ k. p (a + suc k)) n =
    list_all_of_range p (a + 1) n ∙ all_cong (λ k. p (a + 1 + k)) (λ k. p (a + suc k)) n (λ k l. ap p (omega arith)) in
    and_is_both (p a) _ ∙ ap₂ both (ap p (sym (add-zero a))) rest ∙ sym (all_below_first (λ k. p (a + k)) n)
  where
    and_is_both : (b c : Bool) → (b && c) ≡ both b c
    and_is_both true c = refl
    and_is_both false c = refl

pub all_below_is_list_all : (p : ℕ → Bool) (n : ℕ) → list_all p (range_with_len 0 n) ≡ all_below p n
all_below_is_list_all p n = list_all_of_range p 0 n ∙ all_cong (λ k. p (0 + k)) p n (λ k l. ap p (omega arith))
