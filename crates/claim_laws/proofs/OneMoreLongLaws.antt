-- What one long block more or less does to the live blocks of a state (document 02, item 7). Assumes nothing.
use mathlib.Core.Path.{◌≡◌, refl, sym, ap, ap₂, ◌∙◌}
use mathlib.Core.Bool.{Bool, true, false}
use mathlib.Core.Logic.{⊎_elim}
use Prim.Native.Nat.{ℕ, ◌+◌, ◌*◌, ◌/◌, ◌%◌, ◌≤◌, ◌<◌}
use native.Mathlib.Decide.{ℕ_discrete}
use native.Mathlib.Omega.{arith}
use borrow.Author.Tests.{eq-eqb, ne_eqb, lt-ltb}
use lib.Dec.{T, eqb, ltb}
use Rattle.base_laws.specs.Sums.{pick, both, one}
use Rattle.base_laws.proofs.TestLaws.{both_false_right, one_of_different}
use Rattle.marks_laws.proofs.MarkLaws.{marks_clear_of_live_count_zero}
use Rattle.heap_rules.specs.declared.Superblock.{Superblock}
use Rattle.heap_rules.specs.declared.State.{State}
use Rattle.heap_rules.specs.Table.{superblock_at, is_of_run, starts_run, is_of_heap, run_part, with_rank}
use Rattle.heap_rules.specs.Counts.{is_owned_of_class, live_of_class}
use Rattle.choice_rules.specs.RunChoice.{is_available}
use Rattle.heap_laws.proofs.RunLaws.{side_of_range, outside_not_inside}
use Rattle.heap_laws.proofs.RunsKeptLaws.{owner_of_run}
use Rattle.heap_laws.proofs.RunChoiceLaws.{facts_of_is_available}
use Rattle.call_laws.proofs.CallEffects.{LongTakeEffect, LongFreeEffect}
use Rattle.call_laws.proofs.RunTakenLaws.{live_of_available, available_outside_run}
use Rattle.claim_laws.proofs.LongAtLaws.{long_at, long_at_same, long_at_start, long_at_none, long_at_inside}
use Rattle.claim_laws.proofs.LiveAtLaws.{live_for, live_for_unowned, live_for_clear, live_for_unused}
use Rattle.heap_rules.specs.Runs.{RunAt, InRun}

-- a superblock is one of the n from k on, or not
pub in_run_or_not : (k n m : ℕ) → Dec (InRun k n m)
in_run_or_not k n m = ⊎_elim (λ out. no (λ h. outside_not_inside k n m out h.0 h.1)) (λ inside. yes inside) (side_of_range k n m)

-- In state t a long block starts at superblock k; in s it does not, and no block of a class and no other long block differs.
pub record OneMoreLong (k : ℕ) (s t : State) : Type 0 where
  pub below : k < 64
  pub no_class : (d b : ℕ) → b < 256 → live_for d (superblock_at s k) b ≡ 0
  pub blocks_same : (d m b : ℕ) → m < 64 → b < 256 → live_for d (superblock_at t m) b ≡ live_for d (superblock_at s m) b
  pub live : (d : ℕ) → live_of_class d t ≡ live_of_class d s
  pub not_before : starts_run (superblock_at s k) ≡ false
  pub starts_after : starts_run (superblock_at t k) ≡ true
  pub others_same : (m : ℕ) → m < 64 → (m ≡ k → ⊥) → starts_run (superblock_at t m) ≡ starts_run (superblock_at s m)

-- t has one more, at the start of superblock k
module _ (k : ℕ) (s t : State) (more : OneMoreLong k s t) where
  pub long_at_before_run_is_zero : long_at s (k * 4096) ≡ 0
  long_at_before_run_is_zero = long_at_none s (k * 4096) (let q : k * 4096 / 4096 ≡ k = omega arith in rw q more.not_before)

  pub long_at_one_more : (a : ℕ) → long_at t a ≡ long_at s a + one (eqb (k * 4096) a)
  long_at_one_more a = go (ℕ_discrete (k * 4096) a) (ℕ_discrete (a % 4096) 0)
    where
      go : Dec (k * 4096 ≡ a) → Dec (a % 4096 ≡ 0) → long_at t a ≡ long_at s a + one (eqb (k * 4096) a)
      go (yes q) _ =
          let x : long_at t a ≡ 1 = ap (long_at t) (sym q) ∙ long_at_start t k more.below more.starts_after in
          let y : long_at s a ≡ 0 = ap (long_at s) (sym q) ∙ long_at_before_run_is_zero in
          let z : one (eqb (k * 4096) a) ≡ 1 = ap one (eq-eqb (k * 4096) a q) in
          omega arith
      go (no f) (yes e) =
          let x : long_at t a ≡ long_at s a = long_at_same s t a (λ l. more.others_same (a / 4096) l (λ (q : a / 4096 ≡ k). f (omega arith))) in
          omega (arith, one_of_different (k * 4096) a f)
      go (no f) (no g) = omega (arith, one_of_different (k * 4096) a f, long_at_inside t a g, long_at_inside s a g)

-- ---- superblocks
-- one that a run may take has no live block, and is the first of no run
live_for_available : (d : ℕ) (b : Superblock) (j : ℕ) → j < 256 → T (is_available b) → live_for d b j ≡ 0
live_for_available d b j l h = live_for_clear d b j (marks_clear_of_live_count_zero b.live (live_of_available b (facts_of_is_available b h)) j l)

pub starts_no_run_of_available : (b : Superblock) → T (is_available b) → starts_run b ≡ false
unfolding starts_run
starts_no_run_of_available b h = ap (λ (x : Bool). both x (ltb 0 b.run)) (available_outside_run b (facts_of_is_available b h))

-- nor is one that carries 0
pub starts_no_run_of_0 : (b : Superblock) → b.run ≡ 0 → starts_run b ≡ false
unfolding starts_run
starts_no_run_of_0 b e = ap (λ (n : ℕ). both (is_of_run b) (ltb 0 n)) e ∙ both_false_right (is_of_run b)

pub starts_run_of_length : (b : Superblock) → is_of_run b ≡ true → 0 < b.run → starts_run b ≡ true
unfolding starts_run
starts_run_of_length b e l = ap₂ both e (lt-ltb 0 b.run l)

-- a long block starts at the address of a run's first superblock
pub long_at_of_run : (s : State) (k n : ℕ) → RunAt s k n → long_at s (k * 4096) ≡ 1
long_at_of_run s k n run =
    long_at_start s k (omega (arith, run.some, run.in_table))
    (starts_run_of_length (superblock_at s k) (run.of_run k (omega arith) (omega (arith, run.some))) (omega (arith, run.some, run.length_is)))

-- ranks have no part in it
pub starts_run_with_rank : (r : ℕ) (b : Superblock) → starts_run (with_rank r b) ≡ starts_run b
unfolding starts_run is_of_run
starts_run_with_rank r b = refl

live_for_with_rank : (d r j : ℕ) (b : Superblock) → live_for d (with_rank r b) j ≡ live_for d b j
unfolding live_for is_owned_of_class is_of_heap
live_for_with_rank d r j b = refl

-- ---- a take makes one more
module _ (k n : ℕ) (s t : State) (in_table : k + n ≤ 64) (e : LongTakeEffect k n s t) where
  first_in_run : InRun k n k
  first_in_run = (omega arith, omega (arith, e.some))

  long_take_other_start : (m : ℕ) → (m ≡ k → ⊥) → starts_run (superblock_at t m) ≡ starts_run (superblock_at s m)
  long_take_other_start m apart = go (in_run_or_not k n m)
    where
      go : Dec (InRun k n m) → starts_run (superblock_at t m) ≡ starts_run (superblock_at s m)
      go (no out) = ap starts_run (e.others m out) ∙ starts_run_with_rank (superblock_at t m).rank (superblock_at s m)
      go (yes inside) =
          ap starts_run (e.run m inside) ∙ starts_no_run_of_0 (run_part (pick (eqb m k) n 0)) (ap (λ (x : Bool). pick x n 0) (ne_eqb m k apart))
          ∙ sym (starts_no_run_of_available (superblock_at s m) (e.available m inside))

  first_part : superblock_at t k ≡ run_part n
  first_part = e.run k first_in_run ∙ ap (λ (x : Bool). run_part (pick x n 0)) (eq-eqb k k refl)

  pub one_more_long_of_take : OneMoreLong k s t
  unfolding is_of_run
  one_more_long_of_take =
      record {
        below = omega (arith, e.some);
        no_class = λ d b l. live_for_available d (superblock_at s k) b l (e.available k first_in_run);
        blocks_same = λ d m b lm lb. same d m b lb (in_run_or_not k n m);
        live = e.live;
        not_before = starts_no_run_of_available (superblock_at s k) (e.available k first_in_run);
        starts_after = ap starts_run first_part ∙ starts_run_of_length (run_part n) refl (omega (arith, e.some));
        others_same = λ m l apart. long_take_other_start m apart;
      }
    where
      same : (d m b : ℕ) → b < 256 → Dec (InRun k n m) → live_for d (superblock_at t m) b ≡ live_for d (superblock_at s m) b
      same d m b l (no out) =
          ap (λ (x : Superblock). live_for d x b) (e.others m out) ∙ live_for_with_rank d (superblock_at t m).rank b (superblock_at s m)
      same d m b l (yes inside) =
          ap (λ (x : Superblock). live_for d x b) (e.run m inside) ∙ live_for_unowned d (run_part (pick (eqb m k) n 0)) b (omega arith)
          ∙ sym (live_for_available d (superblock_at s m) b l (e.available m inside))

-- ---- a free makes one less
module _ (k n : ℕ) (s t : State) (e : LongFreeEffect k n s t) where
  freed_in_run : InRun k n k
  freed_in_run = (omega arith, omega (arith, e.run_before.some))

  long_free_other_start : (m : ℕ) → (m ≡ k → ⊥) → starts_run (superblock_at s m) ≡ starts_run (superblock_at t m)
  unfolding starts_run is_of_run
  long_free_other_start m apart = go (in_run_or_not k n m)
    where
      go : Dec (InRun k n m) → starts_run (superblock_at s m) ≡ starts_run (superblock_at t m)
      go (no out) = ap starts_run (sym (e.others m out))
      go (yes inside) = starts_no_run_of_0 (superblock_at s m) (e.run_before.others_carry_0 m (omega (arith, inside.0, apart)) inside.1)
          ∙ sym (ap starts_run (e.run m inside))

  pub one_more_long_of_free : OneMoreLong k t s
  unfolding starts_run is_of_run
  one_more_long_of_free =
      record {
        below = omega (arith, e.run_before.some, e.run_before.in_table);
        no_class = λ d b l. ap (λ (x : Superblock). live_for d x b) (e.run k freed_in_run) ∙ live_for_unused d b;
        blocks_same = λ d m b lm lb. same d m b (in_run_or_not k n m);
        live = λ d. sym (e.live d);
        not_before = ap starts_run (e.run k freed_in_run);
        starts_after = starts_run_of_length (superblock_at s k) (e.run_before.of_run k freed_in_run.0 freed_in_run.1)
            (omega (arith, e.run_before.some, e.run_before.length_is));
        others_same = λ m l apart. long_free_other_start m apart;
      }
    where
      same : (d m b : ℕ) → Dec (InRun k n m) → live_for d (superblock_at s m) b ≡ live_for d (superblock_at t m) b
      same d m b (no out) = ap (λ (x : Superblock). live_for d x b) (sym (e.others m out))
      same d m b (yes inside) =
          live_for_unowned d (superblock_at s m) b (omega (arith, owner_of_run (superblock_at s m) (e.run_before.of_run m inside.0 inside.1)))
          ∙ sym (ap (λ (x : Superblock). live_for d x b) (e.run m inside) ∙ live_for_unused d b)
