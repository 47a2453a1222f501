-- What a test decides: A where it passes, B where it fails, and never both; and the same of tests put together. Assumes nothing.
use mathlib.Core.Path.{◌≡◌, refl}
use mathlib.Core.Bool.{Bool, true, false, not}
use mathlib.Core.Logic.{◌↔◌, ◌⊎◌, inl, inr}
use Prim.Native.Nat.{ℕ, ◌≤◌, ◌<◌}
use native.Mathlib.Omega.{arith}
use borrow.Author.Tests.{leb-true, leb-false, eqb-true, eqb-false, not-true, not-false}
use lib.Dec.{T, eqb, leb}
use Rattle.base_laws.specs.Sums.{both, either}
use Rattle.base_laws.proofs.TestLaws.{T_of_true, not_T_of_false}

-- A where the test holds, else B
abbrev pub TypeIf : Bool → Type 0 → Type 0 → Type 0
TypeIf true A B = A
TypeIf false A B = B

pub type_if_elim : (t : Bool) {A B C : Type 0} → (t ≡ true → A → C) → (B → C) → TypeIf t A B → C
type_if_elim true f g h = f refl h
type_if_elim false f g h = g h

-- the test holds on A and fails on B, and A and B exclude each other
pub record Decides (t : Bool) (A B : Type 0) : Type 0 where
  pub says : TypeIf t A B
  pub not_both : A → B → ⊥

pub true_of_decides : {t : Bool} {A B : Type 0} → Decides t A B → A → t ≡ true
true_of_decides {t = true} d a = refl
true_of_decides {t = false} d a = absurd (d.not_both a d.says)

pub false_of_decides : {t : Bool} {A B : Type 0} → Decides t A B → B → t ≡ false
false_of_decides {t = true} d b = absurd (d.not_both d.says b)
false_of_decides {t = false} d b = refl

pub decides : (t : Bool) {A B : Type 0} → (t ≡ true → A) → (t ≡ false → B) → (A → B → ⊥) → Decides t A B
decides true f g n = record { says = f refl; not_both = n }
decides false f g n = record { says = g refl; not_both = n }

pub decides_fact : (t : Bool) {A : Type 0} → (T t → A) → (A → T t) → Decides t A (A → ⊥)
decides_fact t f g = decides t (λ e. f (T_of_true t e)) (λ e a. not_T_of_false t e (g a)) (λ a n. n a)

pub decides_le : (x y : ℕ) → Decides (leb x y) (x ≤ y) (y < x)
decides_le x y = decides (leb x y) (leb-true x y) (leb-false x y) (λ a b. omega arith)

pub decides_nonzero : (v : ℕ) → Decides (leb 1 v) (1 ≤ v) (v ≡ 0)
decides_nonzero v = decides (leb 1 v) (leb-true 1 v) (λ e. let l = leb-false 1 v e in omega arith) (λ a b. omega arith)

pub decides_differs : (x y : ℕ) → Decides (not (eqb x y)) (x ≡ y → ⊥) (x ≡ y)
decides_differs x y = decides (not (eqb x y)) (λ e. eqb-false x y (not-true (eqb x y) e)) (λ e. eqb-true x y (not-false (eqb x y) e)) (λ n e. n e)

pub decides_as : {t : Bool} {A B C D : Type 0} → (A ↔ C) → (B ↔ D) → Decides t A B → Decides t C D
decides_as {t = true} f g d = record { says = f.0 d.says; not_both = λ c e. d.not_both (f.1 c) (g.1 e) }
decides_as {t = false} f g d = record { says = g.0 d.says; not_both = λ c e. d.not_both (f.1 c) (g.1 e) }

not_some : {A B C D : Type 0} → (A → B → ⊥) → (C → D → ⊥) → A ⊎ C → B × D → ⊥
not_some f g (inl a) h = f a h.0
not_some f g (inr c) h = g c h.1

not_each : {A B C D : Type 0} → (A → B → ⊥) → (C → D → ⊥) → A × C → B ⊎ D → ⊥
not_each f g h (inl b) = f h.0 b
not_each f g h (inr d) = g h.1 d

pub decides_either : (t u : Bool) {A B C D : Type 0} → Decides t A B → Decides u C D → Decides (either t u) (A ⊎ C) (B × D)
decides_either true u d f = record { says = inl d.says; not_both = not_some d.not_both f.not_both }
decides_either false true d f = record { says = inr f.says; not_both = not_some d.not_both f.not_both }
decides_either false false d f = record { says = (d.says, f.says); not_both = not_some d.not_both f.not_both }

pub decides_both : (t u : Bool) {A B C D : Type 0} → Decides t A B → Decides u C D → Decides (both t u) (A × C) (B ⊎ D)
decides_both true true d f = record { says = (d.says, f.says); not_both = not_each d.not_both f.not_both }
decides_both true false d f = record { says = inr f.says; not_both = not_each d.not_both f.not_both }
decides_both false u d f = record { says = inl d.says; not_both = not_each d.not_both f.not_both }
