-- An array that std's `array::from_fn` makes of a closure that changes nothing, as a list by a rule. Assumes nothing.
use mathlib.Core.Path.{◌≡◌, refl, sym, ap, ◌∙◌, subst}
use mathlib.Core.List.{List, [], ◌∷◌, ◌++◌}
use Prim.Native.Nat.{ℕ, zero, suc, ◌+◌, ◌≤◌, ◌<◌}
use native.Mathlib.Numerals.{add-one}
use native.Mathlib.Omega.{arith}
use lib.ListN.{length, take, get_or}
use lib.Seq.{take-suc}
use denote.Param.Members.{Mut, Called}
use Rattle.std.specs.Array.{IsFromFnResultFrom, IsFromFnResult}
use Rattle.base_laws.specs.Lists.{listed}
use Rattle.base_laws.proofs.ListedLaws.{listed_none, listed_end}

module _ {F B : Type 0} (g : Mut F (ℕ × Unit {0}) B) (f : F) (h : ℕ → B)
    (gives : (i : ℕ) (y : B) (q : F) → Called g f (i, tt) y q → (y ≡ h i) × (q ≡ f)) where
  -- what stands at each place, the calls from place i on
  element_by_rule : (l : List B) (i n : ℕ) → IsFromFnResultFrom g f l i n → (k j : ℕ) → k < n → j ≡ i + k → (d : B) → get_or l j d ≡ h j
  element_by_rule l i zero r k j below is d = absurd (omega arith)
  element_by_rule l i (suc n) (q, y, here, called, rest) zero j below is d =
      let e : i ≡ j = omega arith in
      subst (λ (x : ℕ). get_or l x d ≡ h x) e (here.1 d ∙ (gives i y q called).0)
  element_by_rule l i (suc n) (q, y, here, called, rest) (suc k) j below is d =
      element_by_rule l (i + 1) n (subst (λ (p : F). IsFromFnResultFrom g p l (i + 1) n) (gives i y q called).1 rest) k j (omega arith) (omega arith) d

  front_by_rule : (l : List B) (n : ℕ) → length l ≡ n → IsFromFnResultFrom g f l 0 n → (k : ℕ) → k ≤ n → take k l ≡ listed h k
  unfolding listed
  front_by_rule l n long all zero below = refl
  front_by_rule l n long all (suc k) below =
      take-suc l k (h 0) (omega arith) ∙ rw (front_by_rule l n long all k (omega arith), element_by_rule l 0 n all k k (omega arith) (omega arith) (h 0))

  pub listed_of_from_fn : (l : List B) (n : ℕ) → IsFromFnResult g f l n → l ≡ listed h n
  listed_of_from_fn l n r = listed_end h l n n r.long (front_by_rule l n r.long r.each n (omega arith)) (omega arith) (omega arith)
