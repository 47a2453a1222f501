-- The superblocks of a run changed one by one, as the code goes. Assumes nothing.
use mathlib.Core.Path.{◌≡◌, refl, sym, ap, ◌∙◌, subst}
use Prim.Native.Nat.{ℕ, suc, ◌+◌, ◌-◌, ◌≤◌}
use native.Mathlib.Omega.{arith}
use Rattle.heap_rules.specs.declared.State.{State}
use Rattle.heap_rules.specs.Table.{unused}
use Rattle.heap_rules.specs.Totals.{TotalsKept}
use Rattle.heap_rules.specs.States.{with_superblock}
use Rattle.heap_rules.specs.Ranks.{rank_after_renewal, unranked}
use Rattle.heap_laws.proofs.RerankedLaws.{reranked_totals_kept}
use Rattle.call_rules.specs.LongBlocks.{each_of_run, joined_to_run, run_taken, made_unused, run_freed}

-- a superblock that leaves the ranking changes no total
pub unranked_keeps_totals : (m : ℕ) (s t : State) → TotalsKept s → t ≡ unranked m s → TotalsKept t
unfolding unranked
unranked_keeps_totals m s t kept e = subst TotalsKept (sym e) (reranked_totals_kept (rank_after_renewal m s.table) s kept)

-- the loops: t is s with the superblocks of the run that are below m changed
pub record ChangedBelow (change : ℕ → State → State) (k m : ℕ) (s t : State) : Type 0 where
  pub totals : TotalsKept t
  pub so_far : t ≡ each_of_run change k (m - k) s

module _ (change : ℕ → State → State) (k : ℕ) (s : State) where
  pub none_changed : TotalsKept s → ChangedBelow change k k s s
  unfolding each_of_run
  none_changed kept = let z : k - k ≡ 0 = omega arith in record { totals = kept; so_far = rw z }

  one_more_changed : (m : ℕ) (t next : State) → k ≤ m → ChangedBelow change k m s t → next ≡ change m t → TotalsKept next
      → ChangedBelow change k (m + 1) s next
  unfolding each_of_run
  one_more_changed m t next l h e kept =
      let length : m + 1 - k ≡ suc (m - k) = omega arith in
      let last : k + (m - k) ≡ m = omega arith in
      record { totals = kept; so_far = rw (length, last) (e ∙ ap (change m) h.so_far) }

  all_changed : (m n : ℕ) (t : State) → ChangedBelow change k m s t → m ≤ k + n → k + n ≤ m → t ≡ each_of_run change k n s
  all_changed m n t h l g = h.so_far ∙ ap (λ (i : ℕ). each_of_run change k i s) (omega arith)

module _ (k n m : ℕ) (s t : State) where
  pub one_more_joined : (next : State) → k ≤ m → ChangedBelow (joined_to_run k n) k m s t → next ≡ joined_to_run k n m t
      → ChangedBelow (joined_to_run k n) k (m + 1) s next
  unfolding joined_to_run
  one_more_joined next l h e = one_more_changed (joined_to_run k n) k s m t next l h e (subst TotalsKept (sym e) refl)

  pub all_joined : (l : ℕ) → ChangedBelow (joined_to_run k n) k m s t → l ≡ n → m ≤ k + l → k + l ≤ m → t ≡ run_taken k n s
  unfolding run_taken
  all_joined l h e = rw e (all_changed (joined_to_run k n) k s m n t h)

  pub one_more_unused : (next : State) → k ≤ m → ChangedBelow made_unused k m s t → next ≡ with_superblock t m unused
      → ChangedBelow made_unused k (m + 1) s next
  unfolding made_unused
  one_more_unused next l h e = one_more_changed made_unused k s m t next l h e (subst TotalsKept (sym e) refl)

  pub all_unused : (l : ℕ) → ChangedBelow made_unused k m s t → l ≡ n → m ≤ k + l → k + l ≤ m → t ≡ run_freed k n s
  unfolding run_freed
  all_unused l h e = rw e (all_changed made_unused k s m n t h)
