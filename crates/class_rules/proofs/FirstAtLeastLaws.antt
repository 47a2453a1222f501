-- The first entry that is s or more: it holds s, and none before it does. Assumes nothing.
use mathlib.Core.Path.{◌≡◌, refl}
use mathlib.Core.Bool.{Bool, true, false}
use mathlib.Core.List.{List, [], ◌∷◌}
use Prim.Native.Nat.{ℕ, zero, suc, ◌≤◌, ◌<◌, zero-le, suc-le-suc}
use native.Mathlib.Nat.{not-suc-le-zero, le_of_suc-le-suc}
use borrow.Author.Tests.{leb-true, leb-false}
use lib.ListN.{length, get_or}
use lib.Dec.{leb}
use Rattle.base_laws.specs.Sums.{pick}
use Rattle.class_rules.specs.Classes.{first_at_least}

pub le_first_at_least : (s : ℕ) (l : List ℕ) → first_at_least s l < length l → s ≤ get_or l (first_at_least s l) 0
unfolding first_at_least
le_first_at_least s [] h = absurd (not-suc-le-zero h)
le_first_at_least s (x ∷ xs) h = go (le_first_at_least s xs) (leb s x) refl h
  where
    go : (first_at_least s xs < length xs → s ≤ get_or xs (first_at_least s xs) 0) → (b : Bool) → leb s x ≡ b → pick b zero (suc (first_at_least s xs)) < suc
        (length xs) → s ≤ get_or (x ∷ xs) (pick b zero (suc (first_at_least s xs))) 0
    go ih true e k = leb-true s x e
    go ih false e k = ih (le_of_suc-le-suc k)

pub before_first_at_least_lt : (s : ℕ) (l : List ℕ) (k : ℕ) → k < first_at_least s l → get_or l k 0 < s
unfolding first_at_least
before_first_at_least_lt s [] k h = absurd (not-suc-le-zero h)
before_first_at_least_lt s (x ∷ xs) k h = go k (λ i. before_first_at_least_lt s xs i) (leb s x) refl h
  where
    go : (k : ℕ) → ((i : ℕ) → i < first_at_least s xs → get_or xs i 0 < s) → (b : Bool) → leb s x ≡ b → k < pick b zero (suc (first_at_least s xs))
        → get_or (x ∷ xs) k 0 < s
    go k ih true e h = absurd (not-suc-le-zero h)
    go zero ih false e h = leb-false s x e
    go (suc k) ih false e h = ih k (le_of_suc-le-suc h)

pub first_at_least_le_length : (s : ℕ) (l : List ℕ) → first_at_least s l ≤ length l
unfolding first_at_least
first_at_least_le_length s [] = zero-le
first_at_least_le_length s (x ∷ xs) = go (first_at_least_le_length s xs) (leb s x)
  where
    go : first_at_least s xs ≤ length xs → (b : Bool) → pick b zero (suc (first_at_least s xs)) ≤ suc (length xs)
    go ih true = zero-le
    go ih false = suc-le-suc ih
