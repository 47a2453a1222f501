-- Laws of a list by a rule for its elements, and of one that a loop fills element by element. Assumes nothing.
use mathlib.Core.Path.{◌≡◌, refl, sym, ap, ◌∙◌}
use mathlib.Core.List.{List, [], ◌∷◌, ◌++◌}
use Prim.Native.Nat.{ℕ, zero, suc, ◌+◌, ◌≤◌, ◌<◌}
use native.Mathlib.Nat.{not-suc-le-zero}
use native.Mathlib.Decide.{ℕ_discrete}
use native.Mathlib.Numerals.{add-one}
use native.Mathlib.Omega.{arith}
use lib.ListN.{length, get_or, take, set, length-append, get_or-append}
use lib.Seq.{take-suc-set, take_all, get_or_at}
use Rattle.base_laws.specs.Lists.{listed}

-- none yet
pub listed_none : {A : Type 0} (f : ℕ → A) → [] ≡ listed f 0
unfolding listed
listed_none f = refl

-- one more
pub listed_step : {A : Type 0} (f : ℕ → A) (l : List A) (k n : ℕ) (x : A) → length l ≡ n → k < n → take k l ≡ listed f k → x ≡ f k
    → take (k + 1) (set l k x) ≡ listed f (k + 1)
unfolding listed
listed_step f l k n x long h e v =
    let g : k < length l = omega arith in
    rw (add-one, take-suc-set l k x g, e, v)

-- all of them
pub listed_end : {A : Type 0} (f : ℕ → A) (l : List A) (k n : ℕ) → length l ≡ n → take k l ≡ listed f k → k ≤ n → n ≤ k → l ≡ listed f n
listed_end f l k n long e h g =
    let s : k ≡ n = omega arith in
    sym (take_all k l (omega arith)) ∙ e ∙ ap (listed f) s

-- equal elements make equal lists
pub listed_of_equal_elements : {A : Type 0} (f g : ℕ → A) (n : ℕ) → ((k : ℕ) → f k ≡ g k) → listed f n ≡ listed g n
unfolding listed
listed_of_equal_elements f g zero e = refl
listed_of_equal_elements f g (suc n) e = rw (listed_of_equal_elements f g n e, e n)

-- ---- what stands where
pub length_listed : {A : Type 0} (f : ℕ → A) (n : ℕ) → length (listed f n) ≡ n
unfolding listed
length_listed f zero = refl
length_listed f (suc n) = length-append (listed f n) (f n ∷ []) ∙ ap (λ (m : ℕ). m + 1) (length_listed f n) ∙ add-one n

pub get_or_listed : {A : Type 0} (f : ℕ → A) (n x : ℕ) (d : A) → x < n → get_or (listed f n) x d ≡ f x
unfolding listed
get_or_listed f zero x d l = absurd (not-suc-le-zero l)
get_or_listed f (suc n) x d l = go (ℕ_discrete x n) (get_or_listed f n x d)
  where
    go : Dec (x ≡ n) → (x < n → get_or (listed f n) x d ≡ f x) → get_or (listed f n ++ (f n ∷ [])) x d ≡ f x
    go (yes e) before = ap (λ (i : ℕ). get_or (listed f n ++ (f n ∷ [])) i d) e ∙ get_or_at (listed f n) (f n) [] d n (length_listed f n) ∙ ap f (sym e)
    go (no g) before = get_or-append (listed f n) (f n ∷ []) d x (omega (arith, length_listed f n)) ∙ before (omega arith)
