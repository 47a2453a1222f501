-- Document 02, item 7, over lists of calls: the long blocks of the ledger, from the calls and their answers alone, are the runs of the state. Assumes nothing.
use mathlib.Core.Path.{◌≡◌, ◌∙◌, subst}
use mathlib.Core.List.{List, []}
use Prim.Native.Nat.{ℕ, ◌*◌, ◌/◌, ◌<◌}
use borrow.Author.Tests.{ltb-true}
use lib.Dec.{ltb}
use Rattle.base_laws.proofs.TestLaws.{T_of_true, true_of_T, both_left, both_right}
use Rattle.heap_rules.specs.declared.Setup.{Setup}
use Rattle.heap_rules.specs.declared.State.{State}
use Rattle.heap_rules.specs.Table.{superblock_at, is_of_run, starts_run}
use Rattle.heap_rules.specs.Runs.{RunAt}
use Rattle.heap_laws.proofs.StateFacts.{RunsSound}
use Rattle.heap_laws.proofs.RunLaws.{runs_sound_of_valid, run_of_superblock}
use Rattle.call_rules.specs.declared.Outcome.TheVariants.{Ready}
use Rattle.call_rules.specs.Answers.{After}
use Rattle.call_rules.specs.Setup.{setup_of}
use Rattle.claim_rules.specs.Ledger.{Entry}
use Rattle.claim_rules.specs.Claim.{Step, Linked}
use Rattle.claim_rules.specs.LongBlocksClaim.{IsRun, LongBlocksAgree, LongBlocksAgreeOver}
use Rattle.claim_laws.proofs.OneMoreLongLaws.{long_at_of_run}
use Rattle.claim_laws.proofs.LedgerRuns.{LongAgrees}
use Rattle.claim_laws.proofs.LedgerNames.{each_entry_map, EntryAgrees}
use Rattle.claim_laws.proofs.CallInvariantLaws.{ListInvariant}
use Rattle.claim_laws.proofs.AlongLaws.{along_of_list_invariant}

module _ (u : Setup) (s : State) (order : List ℕ) (ledger : List Entry) (peak : ℕ → ℕ) (g : ListInvariant u s order ledger peak) where
  sound : RunsSound s
  sound = runs_sound_of_valid s g.shape.length_is g.passed.runs

  run_of_agreement : (e : Entry) → LongAgrees s e → IsRun s e
  unfolding starts_run
  run_of_agreement e h =
      let b = superblock_at s (e.address / 4096) in
      let first = sound.first_of_run (e.address / 4096) h.below (true_of_T _ (both_left (is_of_run b) (ltb 0 b.run) (T_of_true _ h.starts)))
      (ltb-true 0 b.run (true_of_T _ (both_right (is_of_run b) (ltb 0 b.run) (T_of_true _ h.starts)))) in
      (h.aligned, subst (RunAt s (e.address / 4096)) h.length_is first)

  long_blocks_agree_of_list_invariant : LongBlocksAgree s ledger
  long_blocks_agree_of_list_invariant =
      record {
        entries = each_entry_map (EntryAgrees s) (EntryAgrees s) (λ e. 2048 < e.size → IsRun s e) ledger
            (λ e h _ large. run_of_agreement e (h.long large)) g.names g.names;
        runs = λ k n run. g.listed.runs (k * 4096) ∙ long_at_of_run s k n run;
        parts = λ m l e. let (k, run, low, high) = run_of_superblock s sound m l e in (k, run, (low, high));
      }

-- For every accepted setup, whatever stood in the storage before, and every list of takes and frees after it, plain and named, and of drops.
pub long_blocks_agree_with_ledger : (u : Setup) (order : List ℕ) (start : After) → start ≡ setup_of u order → start.answer.outcome ≡ Ready
    → (steps : List Step) → Linked start steps
    → LongBlocksAgreeOver start [] steps
long_blocks_agree_with_ledger u = along_of_list_invariant u LongBlocksAgree (long_blocks_agree_of_list_invariant u)
