-- The refusal that an address meets, by the three tests of the address. Assumes nothing.
use mathlib.Core.Path.{◌≡◌, refl, sym, ap}
use mathlib.Core.Bool.{Bool, true, false, not}
use mathlib.Core.Logic.{◌⊎◌, inl, inr}
use mathlib.Core.List.{List}
use Prim.Native.Nat.{ℕ}
use native.Mathlib.Omega.{arith}
use lib.Dec.{eqb}
use Rattle.base_laws.specs.Sums.{pick}
use Rattle.heap_rules.specs.declared.State.{State}
use Rattle.call_rules.specs.Answers.{refused, is_processor}
use Rattle.call_rules.specs.Free.{is_unmapped, is_misaligned, is_live_at, address_refusal, freed_at, free_unchecked}

-- ---- the tests, as in the definition
abbrev refusal_of : Bool → Bool → Bool → ℕ
refusal_of unmapped misaligned live = pick unmapped 5 (pick misaligned 6 (pick live 0 7))

refusal_cases : (x y z : Bool) → (refusal_of x y z ≡ 0) ⊎ ((refusal_of x y z ≡ 5) ⊎ ((refusal_of x y z ≡ 6) ⊎ (refusal_of x y z ≡ 7)))
refusal_cases true y z = inr (inl refl)
refusal_cases false true z = inr (inr (inl refl))
refusal_cases false false true = inl refl
refusal_cases false false false = inr (inr (inr refl))

tests_of_no_refusal : (x y z : Bool) → refusal_of x y z ≡ 0 → (x ≡ false) × (y ≡ false) × (z ≡ true)
tests_of_no_refusal true y z e = absurd (let no : ⊥ = omega arith in no)
tests_of_no_refusal false true z e = absurd (let no : ⊥ = omega arith in no)
tests_of_no_refusal false false true e = (refl, refl, refl)
tests_of_no_refusal false false false e = absurd (let no : ⊥ = omega arith in no)

pick_by_refusal : {A : Type 0} (x y z : Bool) (refuse : ℕ → A) (accept : A)
    → pick x (refuse 5) (pick y (refuse 6) (pick (not z) (refuse 7) accept)) ≡ pick (eqb (refusal_of x y z) 0) accept (refuse (refusal_of x y z))
pick_by_refusal true y z refuse accept = refl
pick_by_refusal false true z refuse accept = refl
pick_by_refusal false false true refuse accept = refl
pick_by_refusal false false false refuse accept = refl

module _ (s : State) (a : ℕ) where
  -- ---- which refusals there are
  pub address_refusal_is_0_5_6_or_7 : (address_refusal s a ≡ 0) ⊎ ((address_refusal s a ≡ 5) ⊎ ((address_refusal s a ≡ 6) ⊎ (address_refusal s a ≡ 7)))
  unfolding address_refusal
  address_refusal_is_0_5_6_or_7 = refusal_cases (is_unmapped s a) (is_misaligned s a) (is_live_at s a)

  -- ---- none: a live block starts there, and the other way round
  module _ (e : address_refusal s a ≡ 0) where
    tests_passed : (is_unmapped s a ≡ false) × (is_misaligned s a ≡ false) × (is_live_at s a ≡ true)
    unfolding address_refusal
    tests_passed = tests_of_no_refusal (is_unmapped s a) (is_misaligned s a) (is_live_at s a) e

    pub mapped_of_no_refusal : is_unmapped s a ≡ false
    mapped_of_no_refusal = tests_passed.0

    pub aligned_of_no_refusal : is_misaligned s a ≡ false
    aligned_of_no_refusal = tests_passed.1

    pub live_of_no_refusal : is_live_at s a ≡ true
    live_of_no_refusal = tests_passed.2

  -- ---- the refusal, test by test as the code goes
  module _ (x : Bool) (p : x ≡ is_unmapped s a) where
    pub address_refusal_5 : x ≡ true → 5 ≡ address_refusal s a
    unfolding address_refusal
    address_refusal_5 f = rw (← p, f)

    module _ (f : x ≡ false) (y : Bool) (q : y ≡ is_misaligned s a) where
      pub address_refusal_6 : y ≡ true → 6 ≡ address_refusal s a
      unfolding address_refusal
      address_refusal_6 g = rw (← p, f, ← q, g)

      module _ (g : y ≡ false) (z : Bool) (r : z ≡ is_live_at s a) where
        pub address_refusal_7 : z ≡ false → 7 ≡ address_refusal s a
        unfolding address_refusal
        address_refusal_7 h = rw (← p, f, ← q, g, ← r, h)

        pub address_refusal_0 : z ≡ true → 0 ≡ address_refusal s a
        unfolding address_refusal
        address_refusal_0 h = rw (← p, f, ← q, g, ← r, h)

  pub no_refusal_of_live_block : is_unmapped s a ≡ false → is_misaligned s a ≡ false → is_live_at s a ≡ true → address_refusal s a ≡ 0
  no_refusal_of_live_block f g h = sym (address_refusal_0 (is_unmapped s a) refl f (is_misaligned s a) refl g (is_live_at s a) refl h)

-- ---- a free behind the check: 2, and then the refusal of its address
pub free_unchecked_by_address_refusal : (s : State) (order : List ℕ) (i a : ℕ)
    → free_unchecked s order i a ≡ pick (not (is_processor s i)) (refused 2 s order)
    (pick (eqb (address_refusal s a) 0) (freed_at s order a) (refused (address_refusal s a) s order))
unfolding free_unchecked address_refusal
free_unchecked_by_address_refusal s order i a =
    ap (pick (not (is_processor s i)) (refused 2 s order)) (pick_by_refusal (is_unmapped s a) (is_misaligned s a) (is_live_at s a) (λ n. refused n s order)
    (freed_at s order a))
