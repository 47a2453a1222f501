-- The ledger counted by address and class: after an entry is added, and after an address is removed. Assumes nothing.
use mathlib.Core.Path.{◌≡◌, refl, sym, ap, ◌∙◌}
use mathlib.Core.List.{List, [], ◌∷◌}
use Prim.Native.Nat.{ℕ, ◌+◌, max}
use native.Mathlib.Omega.{arith}
use native.Mathlib.Decide.{ℕ_discrete}
use borrow.Author.Tests.{eq-eqb, ne_eqb}
use lib.Dec.{eqb}
use Rattle.base_laws.specs.Sums.{both, one}
use Rattle.class_rules.proofs.ClassLaws.{class_of_size_0}
use Rattle.call_rules.specs.Calls.{Take}
use Rattle.call_rules.specs.declared.Outcome.TheVariants.{Address}
use Rattle.claim_rules.specs.Ledger.{unnamed, Entry, class_of_entry, is_at, removed, after_take, ledger_after, entries_of, entries_at}
use Rattle.claim_rules.specs.Claim.{peak_with}

-- ---- one entry added
pub entries_at_empty : (a c : ℕ) → entries_at [] a c ≡ 0
unfolding entries_at
entries_at_empty a c = refl

pub entries_at_added : (e : Entry) (ledger : List Entry) (b d : ℕ) → entries_at (e ∷ ledger) b d ≡ entries_at ledger b d + one
    (both (is_at b e) (eqb (class_of_entry e) d))
unfolding entries_at
entries_at_added e ledger b d = omega arith

pub entries_of_empty : (c : ℕ) → entries_of c [] ≡ 0
unfolding entries_of
entries_of_empty c = refl

pub entries_of_added : (e : Entry) (ledger : List Entry) (d : ℕ) → entries_of d (e ∷ ledger) ≡ entries_of d ledger + one (eqb (class_of_entry e) d)
unfolding entries_of
entries_of_added e ledger d = omega arith

-- ---- document 02, item 1: an accepted take of size 0
module _ (ledger : List Entry) (i a : ℕ) where
  -- adds one live block, of class 0,
  pub size_0_take_counted : (c : ℕ) → entries_of c (ledger_after ledger (Take i 0) (Address a)) ≡ entries_of c ledger + one (eqb 0 c)
  unfolding ledger_after after_take
  size_0_take_counted c = entries_of_added (record { address = a; size = 0; name = unnamed }) ledger c
      ∙ ap (λ (d : ℕ). entries_of c ledger + one (eqb d c)) class_of_size_0

  -- which counts in class 0's M
  pub size_0_take_in_peak : (peak : ℕ → ℕ) → peak_with peak (ledger_after ledger (Take i 0) (Address a)) 0 ≡ max (peak 0) (entries_of 0 ledger + 1)
  size_0_take_in_peak peak = ap (max (peak 0)) (size_0_take_counted 0)

-- ---- an address removed
module _ (a : ℕ) where
  -- it is met no more
  pub entries_at_removed : (ledger : List Entry) (c : ℕ) → entries_at (removed (is_at a) ledger) a c ≡ 0
  unfolding entries_at removed
  entries_at_removed [] c = refl
  entries_at_removed (e ∷ ledger) c = go (entries_at_removed ledger c) (ℕ_discrete e.address a)
    where
      go : entries_at (removed (is_at a) ledger) a c ≡ 0 → Dec (e.address ≡ a) → entries_at (removed (is_at a) (e ∷ ledger)) a c ≡ 0
      go ih (yes q) = rw (eq-eqb e.address a q) ih
      go ih (no f) = rw (ne_eqb e.address a f, ne_eqb e.address a f) (omega arith)

  -- every other address is met as often as before
  pub entries_at_others_removed : (ledger : List Entry) (b c : ℕ) → (a ≡ b → ⊥) → entries_at (removed (is_at a) ledger) b c ≡ entries_at ledger b c
  unfolding entries_at removed
  entries_at_others_removed [] b c other = refl
  entries_at_others_removed (e ∷ ledger) b c other = go (entries_at_others_removed ledger b c other) (ℕ_discrete e.address a)
    where
      go : entries_at (removed (is_at a) ledger) b c ≡ entries_at ledger b c → Dec (e.address ≡ a) → entries_at (removed (is_at a) (e ∷ ledger)) b c
          ≡ entries_at (e ∷ ledger) b c
      go ih (yes q) = rw (eq-eqb e.address a q, ne_eqb e.address b (λ p. other (sym q ∙ p))) (omega arith)
      go ih (no f) = rw (ne_eqb e.address a f) (omega arith)

  -- a class loses as many entries as it had at the address
  pub entries_of_removed : (ledger : List Entry) (c : ℕ) → entries_of c (removed (is_at a) ledger) + entries_at ledger a c ≡ entries_of c ledger
  unfolding entries_at removed entries_of
  entries_of_removed [] c = refl
  entries_of_removed (e ∷ ledger) c = go (entries_of_removed ledger c) (ℕ_discrete e.address a)
    where
      go : entries_of c (removed (is_at a) ledger) + entries_at ledger a c ≡ entries_of c ledger → Dec (e.address ≡ a)
          → entries_of c (removed (is_at a) (e ∷ ledger)) + entries_at (e ∷ ledger) a c ≡ entries_of c (e ∷ ledger)
      go ih (yes q) = rw (eq-eqb e.address a q) (omega arith)
      go ih (no f) = rw (ne_eqb e.address a f) (omega arith)
