-- The addresses of a drop that the bytes hold. Assumes nothing.
use mathlib.Core.Path.{◌≡◌, sym, ap, ◌∙◌}
use mathlib.Core.List.{List, [], ◌∷◌}
use Prim.Native.Nat.{ℕ, zero, suc, ◌+◌, ◌*◌, ◌≤◌}
use native.Mathlib.Omega.{arith}
use native.Mathlib.Decide.{dec_le}
use lib.ListN.{take}
use lib.Seq.{take_all, take-append-le}
use Rattle.base_laws.specs.Lists.{listed}
use Rattle.base_laws.proofs.ListedLaws.{length_listed}
use Rattle.bytes_rules.specs.Bytes.{two_at, four_at, fours_at}
use Rattle.form_rules.specs.Form.{drop_addresses}

-- all of a list by a rule
take_of_as_many : {A : Type 0} (f : ℕ → A) (m n : ℕ) → n ≡ m → take m (listed f n) ≡ listed f m
take_of_as_many f m n e = take_all m (listed f n) (omega (arith, length_listed f n)) ∙ ap (listed f) e

-- the first of them
take_of_more : {A : Type 0} (f : ℕ → A) (m n : ℕ) → m ≤ n → take m (listed f n) ≡ listed f m
unfolding listed
take_of_more f m zero h = take_of_as_many f m zero (omega arith)
take_of_more f m (suc n) h = go (dec_le m n) (take_of_more f m n)
  where
    go : Dec (m ≤ n) → (m ≤ n → take m (listed f n) ≡ listed f m) → take m (listed f (suc n)) ≡ listed f m
    go (yes g) before = take-append-le m (listed f n) (f n ∷ []) (omega (arith, length_listed f n)) ∙ before g
    go (no g) before = take_of_as_many f m (suc n) (omega arith)

-- the same elements are taken where the two numbers are exchanged: as many as the smaller says
take_of_either : {A : Type 0} (f : ℕ → A) (m n : ℕ) → take m (listed f n) ≡ take n (listed f m)
take_of_either f m n = go (dec_le m n)
  where
    go : Dec (m ≤ n) → take m (listed f n) ≡ take n (listed f m)
    go (yes g) = take_of_more f m n g ∙ sym (take_all n (listed f m) (omega (arith, length_listed f m)))
    go (no g) = take_all m (listed f n) (omega (arith, length_listed f n)) ∙ sym (take_of_more f n m (omega arith))

-- the addresses are read once 512 are
pub addresses_in_of_all : (b addresses : List ℕ) → addresses ≡ listed (λ k. four_at b (9 + 4 * k)) 512
    → take (two_at b 7) addresses ≡ take 512 (drop_addresses b)
unfolding drop_addresses fours_at
addresses_in_of_all b addresses all = rw all (take_of_either (λ k. four_at b (9 + 4 * k)) (two_at b 7) 512)
