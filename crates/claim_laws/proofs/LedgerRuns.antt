-- The long blocks of the ledger, which come from the calls and their answers, and the runs of the state agree: each long block of the ledger is a run of the
-- state, with its start and its length (document 02, item 7). Assumes nothing.
use mathlib.Core.Path.{◌≡◌, refl, sym, ap, ◌∙◌, subst}
use mathlib.Core.Bool.{Bool, true}
use Prim.Native.Nat.{ℕ, ◌+◌, ◌*◌, ◌/◌, ◌%◌, ◌≤◌, ◌<◌}
use native.Mathlib.Omega.{arith}
use borrow.Author.Tests.{eq-eqb}
use Rattle.base_laws.specs.Sums.{pick}
use Rattle.base_laws.proofs.TestLaws.{true_not_false}
use Rattle.class_rules.specs.Classes.{run_length}
use Rattle.heap_rules.specs.declared.Superblock.{Superblock}
use Rattle.heap_rules.specs.declared.State.{State}
use Rattle.heap_rules.specs.Table.{superblock_at, starts_run}
use Rattle.heap_laws.proofs.StateFacts.{RunsKept}
use Rattle.heap_laws.proofs.RunsKeptLaws.{starts_run_same}
use Rattle.call_laws.proofs.CallEffects.{LongTakeEffect, LongFreeEffect}
use Rattle.claim_rules.specs.Ledger.{Name, Entry}
use Rattle.claim_laws.proofs.OneMoreLongLaws.{OneMoreLong, in_run_or_not, starts_no_run_of_available, starts_no_run_of_0, starts_run_with_rank}
use Rattle.claim_laws.proofs.OneMoreLongLaws.{one_more_long_of_take}
use Rattle.heap_rules.specs.Runs.{InRun}

-- "The block's address is the start of the run", which has "as many [superblocks] as size / 4096 rounded up"
pub record LongAgrees (s : State) (e : Entry) : Type 0 where
  pub below : e.address / 4096 < 64
  pub aligned : e.address % 4096 ≡ 0
  pub starts : starts_run (superblock_at s (e.address / 4096)) ≡ true
  pub length_is : (superblock_at s (e.address / 4096)).run ≡ run_length e.size

-- it goes by the run's first superblock alone
module _ (s t : State) (e : Entry) (h : LongAgrees s e) where
  long_agrees_of_same : starts_run (superblock_at t (e.address / 4096)) ≡ starts_run (superblock_at s (e.address / 4096))
      → (superblock_at t (e.address / 4096)).run ≡ (superblock_at s (e.address / 4096)).run
      → LongAgrees t e
  long_agrees_of_same starts length = record { below = h.below; aligned = h.aligned; starts = starts ∙ h.starts; length_is = length ∙ h.length_is }

  -- what keeps the runs keeps it
  pub long_agrees_of_kept : RunsKept s t → LongAgrees t e
  long_agrees_of_kept kept =
      let same = kept (e.address / 4096) h.below in
      long_agrees_of_same (starts_run_same (superblock_at t (e.address / 4096)) (superblock_at s (e.address / 4096)) same.0 same.1) same.1

  -- so does a take of another run: none of its superblocks was of a run
  pub long_agrees_after_long_take : (k n : ℕ) → LongTakeEffect k n s t → LongAgrees t e
  long_agrees_after_long_take k n effect = go (in_run_or_not k n (e.address / 4096))
    where
      go : Dec (InRun k n (e.address / 4096)) → LongAgrees t e
      go (yes inside) =
          let b : Superblock = superblock_at s (e.address / 4096) in
          absurd (true_not_false (starts_run b) h.starts (starts_no_run_of_available b (effect.available (e.address / 4096) inside)))
      go (no out) = let same = effect.others (e.address / 4096) out in
          long_agrees_of_same (ap starts_run same ∙ starts_run_with_rank _ (superblock_at s (e.address / 4096))) (ap (λ (b : Superblock). b.run) same)

  -- and a free of another run: that begins elsewhere, and all but its first superblock carry 0
  pub long_agrees_after_long_free : (k n : ℕ) → LongFreeEffect k n s t → (e.address ≡ k * 4096 → ⊥) → LongAgrees t e
  long_agrees_after_long_free k n effect apart = go (in_run_or_not k n (e.address / 4096))
    where
      not_first : e.address / 4096 ≡ k → ⊥
      not_first q = apart (omega (arith, h.aligned))

      go : Dec (InRun k n (e.address / 4096)) → LongAgrees t e
      go (yes inside) =
          let b : Superblock = superblock_at s (e.address / 4096) in
          absurd (true_not_false (starts_run b) h.starts
          (starts_no_run_of_0 b (effect.run_before.others_carry_0 (e.address / 4096) (omega (arith, inside.0, not_first)) inside.1)))
      go (no out) = let same = effect.others (e.address / 4096) out in long_agrees_of_same (ap starts_run same) (ap (λ (b : Superblock). b.run) same)

-- the block that a long take adds
pub long_take_entry_is_run : (k size : ℕ) (name : Name) (s t : State) → k + run_length size ≤ 64 → LongTakeEffect k (run_length size) s t
    → LongAgrees t (record { address = k * 4096; size = size; name = name })
long_take_entry_is_run k size name s t in_table effect =
    let at : k * 4096 / 4096 ≡ k = omega arith in
    let more : OneMoreLong k s t = one_more_long_of_take k (run_length size) s t in_table effect in
    record {
      below = subst (λ (m : ℕ). m < 64) (sym at) more.below;
      aligned = omega arith;
      starts = ap (λ (m : ℕ). starts_run (superblock_at t m)) at ∙ more.starts_after;
      length_is =
          ap (λ (m : ℕ). (superblock_at t m).run) at ∙ ap (λ (b : Superblock). b.run) (effect.run k (omega arith, omega (arith, effect.some)))
          ∙ ap (λ (x : Bool). pick x (run_length size) 0) (eq-eqb k k refl);
    }
