-- The superblocks of a run changed one after another (document 02, item 7): what holds of the state then. Assumes nothing.
use mathlib.Core.Path.{◌≡◌, sym, subst}
use mathlib.Core.Logic.{◌⊎◌, inl, inr}
use Prim.Native.Nat.{ℕ, zero, suc, ◌+◌, ◌≤◌, ◌<◌}
use native.Mathlib.Nat.{eq-or-lt_of_le}
use native.Mathlib.Omega.{arith}
use Rattle.heap_rules.specs.declared.Superblock.{Superblock}
use Rattle.heap_rules.specs.declared.State.{State}
use Rattle.heap_rules.specs.Table.{superblock_at}
use Rattle.heap_laws.proofs.RunLaws.{Outside}
use Rattle.call_rules.specs.LongBlocks.{each_of_run}

module _ (change : ℕ → State → State) (k : ℕ) (s : State) where
  -- what holds of a state in which so many are changed, from none on
  pub each_of_run_by_steps : (n : ℕ) (P : ℕ → State → Type 0) → P 0 s → ((j : ℕ) (t : State) → j < n → P j t → P (suc j) (change (k + j) t))
      → P n (each_of_run change k n s)
  unfolding each_of_run
  each_of_run_by_steps zero P start step = start
  each_of_run_by_steps (suc n) P start step =
      step n (each_of_run change k n s) (omega arith) (each_of_run_by_steps n P start (λ j t l h. step j t (omega arith) h))

  -- what each change keeps
  pub each_of_run_keeps : (n : ℕ) (P : State → Type 0) → ((m : ℕ) (t : State) → k ≤ m → m < k + n → P t → P (change m t)) → P s → P (each_of_run change k n s)
  each_of_run_keeps n P kept start = each_of_run_by_steps n (λ _ t. P t) start (λ j t l h. kept (k + j) t (omega arith) (omega arith) h)

-- the n superblocks from k on are in t what they become, and the others as in s, but for what a change leaves open of them, such as their ranks
pub record EachMade (Made : ℕ → Superblock → Type 0) (Kept : Superblock → Superblock → Type 0) (k n : ℕ) (s t : State) : Type 0 where
  pub inside : (m : ℕ) → k ≤ m → m < k + n → Made m (superblock_at t m)
  pub outside : (m : ℕ) → m < 64 → Outside k n m → Kept (superblock_at s m) (superblock_at t m)

-- so it is where each change makes one superblock what it becomes, keeps the others, and keeps what it asks of the state
module _ (Made : ℕ → Superblock → Type 0) (Kept : Superblock → Superblock → Type 0) (Kept-refl : (b : Superblock) → Kept b b)
    (Kept-trans : (a b d : Superblock) → Kept a b → Kept b d → Kept a d)
    (made_kept : (m : ℕ) (b d : Superblock) → Made m b → Kept b d → Made m d) (change : ℕ → State → State) (Asked : State → Type 0)
    (asked_kept : (m : ℕ) (t : State) → m < 64 → Asked t → Asked (change m t))
    (made : (m : ℕ) (t : State) → m < 64 → Asked t → Made m (superblock_at (change m t) m))
    (kept : (m : ℕ) (t : State) → m < 64 → Asked t → (i : ℕ) → i < 64 → (i ≡ m → ⊥) → Kept (superblock_at t i) (superblock_at (change m t) i)) where
  one_more_made : (k j : ℕ) (s t : State) → k + j < 64 → Asked t → EachMade Made Kept k j s t → EachMade Made Kept k (suc j) s (change (k + j) t)
  one_more_made k j s t l asked h = record {
    inside = λ m low high. inside m low (eq-or-lt_of_le (below m high));
    outside = λ m lm out. outside m lm (apart m out);
  }
    where
      below : (m : ℕ) → m < k + suc j → m ≤ k + j
      below m high = omega arith

      inside : (m : ℕ) → k ≤ m → (m ≡ k + j) ⊎ (m < k + j) → Made m (superblock_at (change (k + j) t) m)
      inside m low (inl q) = subst (λ (x : ℕ). Made x (superblock_at (change (k + j) t) x)) (sym q) (made (k + j) t l asked)
      inside m low (inr lower) = made_kept m (superblock_at t m) _ (h.inside m low lower) (kept (k + j) t l asked m (omega arith) (λ q. omega arith))

      apart : (m : ℕ) → Outside k (suc j) m → Outside k j m × (m ≡ k + j → ⊥)
      apart m (inl lower) = (inl lower, λ q. omega arith)
      apart m (inr higher) = (inr (omega arith), λ q. omega arith)

      outside : (m : ℕ) → m < 64 → Outside k j m × (m ≡ k + j → ⊥) → Kept (superblock_at s m) (superblock_at (change (k + j) t) m)
      outside m lm (out, other) = Kept-trans (superblock_at s m) (superblock_at t m) _ (h.outside m lm out) (kept (k + j) t l asked m lm other)

  pub each_of_run_made : (k n : ℕ) (s : State) → k + n ≤ 64 → Asked s → EachMade Made Kept k n s (each_of_run change k n s)
  each_of_run_made k n s l asked =
      (each_of_run_by_steps change k s n (λ j t. Asked t × EachMade Made Kept k j s t) (asked, none)
      (λ j t h known. (asked_kept (k + j) t (omega arith) known.0, one_more_made k j s t (omega arith) known.0 known.1))).1
    where
      none : EachMade Made Kept k 0 s s
      none = record { inside = λ m low high. absurd (let z : ⊥ = omega arith in z); outside = λ m lm out. Kept-refl (superblock_at s m) }
