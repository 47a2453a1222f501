-- The run that a long block takes, in the page's words (document 02, item 7). Assumes nothing.
use Rattle.std.specs.Prelude.{Option, Some, None}
use mathlib.Core.Path.{◌≡◌, refl, ◌∙◌, subst}
use mathlib.Core.Bool.{Bool, true, false}
use mathlib.Core.Logic.{◌⊎◌, inl, inr}
use Prim.Native.Nat.{ℕ, zero, suc, ◌+◌, ◌-◌, ◌≤◌, ◌<◌}
use native.Mathlib.Nat.{eq-or-lt_of_le, le_of_suc-le-suc}
use native.Mathlib.Decide.{dec_lt}
use native.Mathlib.Omega.{arith}
use lib.Dec.{T, leb, leb→le, le→leb}
use Rattle.base_laws.specs.Sums.{pick}
use Rattle.base_laws.proofs.Inequalities.{le_of_not_below}
use Rattle.base_laws.proofs.TestLaws.{T_of_true, not_T_of_false, both_left, both_right, both_make, either_right_of_left_false}
use Rattle.base_laws.proofs.SumLaws.{all_at, all_of_each}
use Rattle.heap_rules.specs.declared.Superblock.{Superblock}
use Rattle.heap_rules.specs.declared.State.{State}
use Rattle.heap_rules.specs.Table.{superblock_at, live_in, is_unused}
use Rattle.choice_rules.specs.Choice.{or_else}
use Rattle.choice_rules.specs.RunChoice.{is_available, is_free_run, lowest_below, lowest_run}
use Rattle.heap_laws.proofs.StateFacts.{Unused}
use Rattle.heap_laws.proofs.StateCheckLaws.{facts_of_is_unused}
use Rattle.heap_laws.proofs.ChoiceLaws.{facts_of_empty_in_global}

-- ---- the superblocks that a run may take
-- "each unused or empty in heap 0"
abbrev pub Available : Superblock → Type 0
Available b = Unused b ⊎ ((b.owner ≡ 0) × (live_in b ≡ 0))

pub facts_of_is_available : (b : Superblock) → T (is_available b) → Available b
unfolding is_available
facts_of_is_available b t = go (is_unused b) refl
  where
    go : (x : Bool) → is_unused b ≡ x → Available b
    go true e = inl (facts_of_is_unused b (T_of_true _ e))
    go false e = inr (facts_of_empty_in_global b (either_right_of_left_false (is_unused b) _ t e))

-- a "run of neighbouring superblocks, all below N, that are each unused or empty in heap 0": n superblocks from k on
pub record FreeRun (n : ℕ) (s : State) (k : ℕ) : Type 0 where
  pub below : k + n ≤ s.setup.superblocks
  pub available : (m : ℕ) → k ≤ m → m < k + n → T (is_available (superblock_at s m))

module _ (n : ℕ) (s : State) (k : ℕ) where
  pub facts_of_is_free_run : T (is_free_run n s k) → FreeRun n s k
  unfolding is_free_run
  facts_of_is_free_run t =
      record {
        below = leb→le (k + n) s.setup.superblocks (both_left (leb (k + n) s.setup.superblocks) _ t);
        available = λ m low high.
            subst (λ (x : ℕ). T (is_available (superblock_at s x))) (let e : k + (m - k) ≡ m = omega arith in e)
            (all_at (λ j. is_available (superblock_at s (k + j))) n (both_right (leb (k + n) s.setup.superblocks) _ t) (m - k) (omega arith));
      }

  pub is_free_run_of_facts : FreeRun n s k → T (is_free_run n s k)
  unfolding is_free_run
  is_free_run_of_facts h =
      both_make (leb (k + n) s.setup.superblocks) _ (le→leb (k + n) s.setup.superblocks h.below)
      (all_of_each (λ j. is_available (superblock_at s (k + j))) n (λ j l. h.available (k + j) (omega arith) (omega arith)))

-- ---- the lowest number that passes a test
-- number k, which is below n, passes the test, and none lower does
pub record IsLowest (test : ℕ → Bool) (n k : ℕ) : Type 0 where
  pub below : k < n
  pub passes : T (test k)
  pub none_lower : (m : ℕ) → m < k → T (test m) → ⊥

module _ (test : ℕ → Bool) where
  -- nothing is found: none passes
  pub none_passes_of_lowest_below_nothing : (n : ℕ) → lowest_below test n ≡ None → (m : ℕ) → m < n → T (test m) → ⊥
  unfolding lowest_below
  none_passes_of_lowest_below_nothing zero e m l t = omega arith
  none_passes_of_lowest_below_nothing (suc n) e m l t =
      go (λ p lower. none_passes_of_lowest_below_nothing n p m lower t) (lowest_below test n) refl (test n) refl e (eq-or-lt_of_le (le_of_suc-le-suc l))
    where
      go : (lowest_below test n ≡ None → m < n → ⊥) → (f : Option ℕ) → lowest_below test n ≡ f → (x : Bool) → test n ≡ x → or_else f (pick x (Some n) None)
          ≡ None → (m ≡ n) ⊎ (m < n) → ⊥
      go fewer (Some j) p x q r side = let z : ◌≡◌ {A = ℕ} 0 1 = cc in omega arith
      go fewer None p true q r side = let z : ◌≡◌ {A = ℕ} 0 1 = cc in omega arith
      go fewer None p false q r (inl same) = not_T_of_false (test n) q (subst (λ (x : ℕ). T (test x)) same t)
      go fewer None p false q r (inr lower) = fewer p lower

  -- a number is found: it is the lowest
  pub lowest_of_lowest_below : (n k : ℕ) → lowest_below test n ≡ Some k → IsLowest test n k
  unfolding lowest_below
  lowest_of_lowest_below zero k e = absurd (let z : ◌≡◌ {A = ℕ} 0 1 = cc in let y : ⊥ = omega arith in y)
  lowest_of_lowest_below (suc n) k e = go (lowest_of_lowest_below n k) (lowest_below test n) refl (test n) refl e
    where
      go : (lowest_below test n ≡ Some k → IsLowest test n k) → (f : Option ℕ) → lowest_below test n ≡ f → (x : Bool) → test n ≡ x
          → or_else f (pick x (Some n) None) ≡ Some k → IsLowest test (suc n) k
      go fewer (Some j) p x q r =
          let h = fewer (p ∙ r) in
          record { below = omega (arith, h.below); passes = h.passes; none_lower = h.none_lower }
      go fewer None p true q r =
          let same : n ≡ k = cc in
          record {
            below = omega arith;
            passes = subst (λ (x : ℕ). T (test x)) same (T_of_true (test n) q);
            none_lower = λ m l t. none_passes_of_lowest_below_nothing n p m (omega arith) t;
          }
      go fewer None p false q r = absurd (let z : ◌≡◌ {A = ℕ} 0 1 = cc in let y : ⊥ = omega arith in y)

  -- and back
  pub lowest_below_of_lowest : (n k : ℕ) → IsLowest test n k → lowest_below test n ≡ Some k
  lowest_below_of_lowest n k h = go (lowest_below test n) refl
    where
      same : (j : ℕ) → IsLowest test n j → Dec (j < k) → Dec (k < j) → j ≡ k
      same j g (yes l) _ = absurd (h.none_lower j l g.passes)
      same j g (no _) (yes l) = absurd (g.none_lower k l h.passes)
      same j g (no a) (no b) = omega (arith, le_of_not_below a, le_of_not_below b)

      go : (f : Option ℕ) → lowest_below test n ≡ f → lowest_below test n ≡ Some k
      go (Some j) p = let q = same j (lowest_of_lowest_below n j p) (dec_lt j k) (dec_lt k j) in cc
      go None p = absurd (none_passes_of_lowest_below_nothing n p k h.below h.passes)

  pub lowest_below_nothing_of_none : (n : ℕ) → ((m : ℕ) → m < n → T (test m) → ⊥) → lowest_below test n ≡ None
  lowest_below_nothing_of_none n none = go (lowest_below test n) refl
    where
      go : (f : Option ℕ) → lowest_below test n ≡ f → lowest_below test n ≡ None
      go (Some j) p = let h = lowest_of_lowest_below n j p in absurd (none j h.below h.passes)
      go None p = p

-- ---- the run
module _ (n : ℕ) (s : State) where
  -- it is free ..
  pub lowest_run_is_free : (k : ℕ) → lowest_run n s ≡ Some k → FreeRun n s k
  unfolding lowest_run
  lowest_run_is_free k e = facts_of_is_free_run n s k (lowest_of_lowest_below (is_free_run n s) 64 k e).passes

  -- .. and "the lowest-numbered": no run of that length with a lower first superblock is
  pub lowest_run_is_lowest : (k : ℕ) → lowest_run n s ≡ Some k → (m : ℕ) → m < k → FreeRun n s m → ⊥
  unfolding lowest_run
  lowest_run_is_lowest k e m l h = (lowest_of_lowest_below (is_free_run n s) 64 k e).none_lower m l (is_free_run_of_facts n s m h)

  -- nothing is found exactly if there is none: "no such run"
  pub no_run_of_lowest_run_nothing : 1 ≤ n → s.setup.superblocks ≤ 64 → lowest_run n s ≡ None → (m : ℕ) → FreeRun n s m → ⊥
  unfolding lowest_run
  no_run_of_lowest_run_nothing some limit e m h = none_passes_of_lowest_below_nothing (is_free_run n s) 64 e m (omega (arith, h.below))
      (is_free_run_of_facts n s m h)

  pub lowest_run_nothing_of_no_run : ((m : ℕ) → FreeRun n s m → ⊥) → lowest_run n s ≡ None
  unfolding lowest_run
  lowest_run_nothing_of_no_run none = lowest_below_nothing_of_none (is_free_run n s) 64 (λ m l t. none m (facts_of_is_free_run n s m t))
