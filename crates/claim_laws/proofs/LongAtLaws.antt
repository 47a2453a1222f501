-- The long blocks of a state by address. Assumes nothing.
use mathlib.Core.Path.{◌≡◌, refl, ap}
use mathlib.Core.Bool.{Bool, true, false}
use Prim.Native.Nat.{ℕ, ◌*◌, ◌/◌, ◌%◌, ◌<◌}
use native.Mathlib.Decide.{dec_lt}
use native.Mathlib.Omega.{arith}
use borrow.Author.Tests.{ne_eqb, lt-ltb, ltb-true}
use lib.ListN.{get_or-replicate}
use lib.Dec.{eqb, ltb}
use Rattle.base_laws.specs.Sums.{pick, both, one}
use Rattle.heap_rules.specs.declared.State.{State}
use Rattle.heap_rules.specs.declared.Setup.{Setup}
use Rattle.heap_rules.specs.Table.{blank, unused, superblock_at, is_of_run, starts_run}
use Rattle.heap_rules.specs.States.{new_state}
use Rattle.heap_laws.proofs.StateFacts.{RunsKept}
use Rattle.heap_laws.proofs.RunsKeptLaws.{starts_run_same}

-- 1 where a long block starts at address a, else 0
unfoldable pub long_at : State → ℕ → ℕ
long_at s a = pick (ltb (a / 4096) 64) (one (both (starts_run (superblock_at s (a / 4096))) (eqb (a % 4096) 0))) 0

-- it goes only by which superblocks are the first of a run
pub long_at_same : (s t : State) (a : ℕ) → (a / 4096 < 64 → starts_run (superblock_at t (a / 4096)) ≡ starts_run (superblock_at s (a / 4096)))
    → long_at t a ≡ long_at s a
unfolding long_at
long_at_same s t a same = go (ltb (a / 4096) 64) refl
  where
    go : (x : Bool) → ltb (a / 4096) 64 ≡ x → pick x (one (both (starts_run (superblock_at t (a / 4096))) (eqb (a % 4096) 0))) 0
        ≡ pick x (one (both (starts_run (superblock_at s (a / 4096))) (eqb (a % 4096) 0))) 0
    go true e = rw (same (ltb-true (a / 4096) 64 e))
    go false e = refl

pub long_at_of_kept : (s t : State) → RunsKept s t → (a : ℕ) → long_at t a ≡ long_at s a
long_at_of_kept s t kept a =
    long_at_same s t a (λ l. starts_run_same (superblock_at t (a / 4096)) (superblock_at s (a / 4096)) (kept (a / 4096) l).0 (kept (a / 4096) l).1)

-- 1 at the start of a run, and 0 where the superblock is the first of none
pub long_at_start : (s : State) (k : ℕ) → k < 64 → starts_run (superblock_at s k) ≡ true → long_at s (k * 4096) ≡ 1
unfolding long_at
long_at_start s k l e =
    let x : k * 4096 / 4096 ≡ k = omega arith in
    let y : k * 4096 % 4096 ≡ 0 = omega arith in
    rw (x, y, lt-ltb k 64 l, e)

pub long_at_none : (s : State) (a : ℕ) → starts_run (superblock_at s (a / 4096)) ≡ false → long_at s a ≡ 0
unfolding long_at
long_at_none s a e = rw e (go (ltb (a / 4096) 64))
  where
    go : (x : Bool) → pick {A = ℕ} x 0 0 ≡ 0
    go true = refl
    go false = refl

-- at no other address of a superblock
pub long_at_inside : (s : State) (a : ℕ) → (a % 4096 ≡ 0 → ⊥) → long_at s a ≡ 0
unfolding long_at
long_at_inside s a f = rw (ne_eqb (a % 4096) 0 f) (go (ltb (a / 4096) 64) (starts_run (superblock_at s (a / 4096))))
  where
    go : (x y : Bool) → pick x (one (both y false)) 0 ≡ 0
    go true true = refl
    go true false = refl
    go false y = refl

-- nor past the table
long_at_past_table : (s : State) (a : ℕ) → (a / 4096 < 64 → ⊥) → long_at s a ≡ 0
unfolding long_at
long_at_past_table s a f = go (ltb (a / 4096) 64) refl
  where
    go : (x : Bool) → ltb (a / 4096) 64 ≡ x → pick x (one (both (starts_run (superblock_at s (a / 4096))) (eqb (a % 4096) 0))) 0 ≡ 0
    go true e = absurd (f (ltb-true (a / 4096) 64 e))
    go false e = refl

pub long_at_of_new_state : (u : Setup) (a : ℕ) → long_at (new_state u) a ≡ 0
unfolding starts_run is_of_run
long_at_of_new_state u a = go (dec_lt (a / 4096) 64)
  where
    go : Dec (a / 4096 < 64) → long_at (new_state u) a ≡ 0
    go (yes l) = long_at_none (new_state u) a (ap starts_run (get_or-replicate 64 (a / 4096) unused blank l))
    go (no f) = long_at_past_table (new_state u) a f
