-- Laws of tests: from a computed test to the fact and back. Assumes nothing.
use mathlib.Core.Path.{◌≡◌, refl, sym, ap, ◌∙◌, subst}
use mathlib.Core.Bool.{Bool, true, false, not}
use Prim.Native.Nat.{ℕ, ◌≤◌, zero-le}
use native.Mathlib.Nat.{le_refl}
use borrow.Author.Tests.{eq-eqb, ne_eqb}
use lib.Dec.{T, eqb}
use Rattle.base_laws.specs.Sums.{pick, both, either, one}

-- a test that passes, as an equation and as a fact
pub T_of_true : (b : Bool) → b ≡ true → T b
T_of_true b e = subst T (sym e) tt

pub true_of_T : (b : Bool) → T b → b ≡ true
true_of_T true t = refl
true_of_T false t = absurd t

pub not_T_of_false : (b : Bool) → b ≡ false → T b → ⊥
not_T_of_false b e t = subst T e t

pub false_of_not_T : (b : Bool) → (T b → ⊥) → b ≡ false
false_of_not_T true h = absurd (h tt)
false_of_not_T false h = refl

pub true_of_equal : (a b : Bool) → a ≡ b → a ≡ true → b ≡ true
true_of_equal a b e t = sym e ∙ t

-- two tests that pass together are one
pub equal_of_iff : (a b : Bool) → (T a → T b) → (T b → T a) → a ≡ b
equal_of_iff true true f g = refl
equal_of_iff true false f g = absurd (f tt)
equal_of_iff false true f g = absurd (g tt)
equal_of_iff false false f g = refl

pub true_not_false : (b : Bool) → b ≡ true → b ≡ false → ⊥
true_not_false b p q = subst T (sym p ∙ q) tt

pub both_left : (a b : Bool) → T (both a b) → T a
both_left true b t = tt
both_left false b t = t

pub both_right : (a b : Bool) → T (both a b) → T b
both_right true b t = t
both_right false b t = absurd t

pub both_make : (a b : Bool) → T a → T b → T (both a b)
both_make true b t u = u
both_make false b t u = t

pub either_left : (a b : Bool) → T a → T (either a b)
either_left true b t = tt
either_left false b t = absurd t

pub either_right : (a b : Bool) → T b → T (either a b)
either_right true b t = tt
either_right false b t = t

pub either_right_of_left_false : (a b : Bool) → T (either a b) → a ≡ false → T b
either_right_of_left_false true b t e = absurd (subst (λ (x : Bool). T (not x)) (sym e) tt)
either_right_of_left_false false b t e = t

-- neither of two tests passes
pub neither_left : (x y : Bool) → either x y ≡ false → x ≡ false
neither_left x y e = false_of_not_T x (λ t. not_T_of_false (either x y) e (either_left x y t))

pub neither_right : (x y : Bool) → either x y ≡ false → y ≡ false
neither_right x y e = false_of_not_T y (λ t. not_T_of_false (either x y) e (either_right x y t))

pub both_false_right : (a : Bool) → both a false ≡ false
both_false_right true = refl
both_false_right false = refl

pub both_true_right : (a : Bool) → both a true ≡ a
both_true_right true = refl
both_true_right false = refl

-- what is so of each arm of a choice is so of the choice
pub pick_elim : {A : Type 0} (P : A → Type 0) (t : Bool) (x y : A) → (t ≡ true → P x) → (t ≡ false → P y) → P (pick t x y)
pick_elim P true x y f g = f refl
pick_elim P false x y f g = g refl

-- a choice whose test is known
pub pick_true : {A : Type 0} (t : Bool) (x y : A) → t ≡ true → pick t x y ≡ x
pick_true t x y e = rw e

pub pick_false : {A : Type 0} (t : Bool) (x y : A) → t ≡ false → pick t x y ≡ y
pick_false t x y e = rw e

pub one_of_equal : (a : ℕ) → one (eqb a a) ≡ 1
one_of_equal a = ap one (eq-eqb a a refl)

pub one_of_different : (a b : ℕ) → (a ≡ b → ⊥) → one (eqb a b) ≡ 0
one_of_different a b n = ap one (ne_eqb a b n)

pub one_le_one : (b : Bool) → one b ≤ 1
one_le_one true = le_refl 1
one_le_one false = zero-le
