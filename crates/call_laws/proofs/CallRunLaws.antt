-- Document 02, item 7: what any call does to the runs of a state, and a state whose runs are not whole. Assumes nothing.
use mathlib.Core.Path.{◌≡◌, refl, ap, ◌∙◌}
use mathlib.Core.Bool.{false}
use mathlib.Core.List.{List}
use Prim.Native.Nat.{ℕ, ◌*◌, ◌≤◌, ◌<◌}
use lib.ListN.{length}
use Rattle.heap_rules.specs.declared.Setup.{Setup}
use Rattle.heap_rules.specs.declared.State.{State}
use Rattle.heap_rules.specs.Table.{superblock_at, is_of_run}
use Rattle.heap_laws.proofs.StateFacts.{WithinLimits, RunsSound, RunsKept}
use Rattle.heap_laws.proofs.StateCheckLaws.{superblock_at_new_state_unused}
use Rattle.heap_laws.proofs.RunLaws.{runs_sound_of_valid}
use Rattle.call_rules.specs.declared.Outcome.TheVariants.{Refused}
use Rattle.call_rules.specs.Answers.{refused}
use Rattle.call_rules.specs.Calls.{Call, call_of, call_unchecked}
use Rattle.call_rules.specs.Setup.{setup_of}
use Rattle.call_rules.proofs.CheckFirst.{call_of_checks_first}
use Rattle.call_laws.proofs.RefusalConditions.{rest_fails, check_fails_refused_13}
use Rattle.call_laws.proofs.TotalsKeptLaws.{setup_state_is_new, refused_call_keeps_state}

module _ (s : State) (order : List ℕ) (call : Call) where
  -- a refused call keeps all runs
  pub refused_call_keeps_runs : (r : ℕ) → (call_of s order call).answer.outcome ≡ Refused r → RunsKept s (call_of s order call).answer.state
  refused_call_keeps_runs r e m l =
      let same = refused_call_keeps_state s order call r e in
      (ap (λ (t : State). is_of_run (superblock_at t m)) same, ap (λ (t : State). (superblock_at t m).run) same)

  -- "The state check tests .. that runs are whole and at most 16 long": a state with other runs is refused 13
  pub call_refused_13_of_wrong_runs : length s.table ≡ 64 → WithinLimits s.setup → s.setup.superblocks * 256 ≤ length order → (RunsSound s → ⊥)
      → call_of s order call ≡ refused 13 s order
  call_refused_13_of_wrong_runs long numbers lent wrong =
      call_of_checks_first s order call ∙ check_fails_refused_13 s order 0 (call_unchecked s order call)
      (rest_fails numbers lent (λ h. wrong (runs_sound_of_valid s long h.4)))

-- a setup, accepted or refused, has no run: each superblock is unused
pub new_or_refused_setup_has_no_runs : (u : Setup) (order : List ℕ) (k : ℕ) → k < 64 → (is_of_run (superblock_at (setup_of u order).answer.state k) ≡ false)
    × ((superblock_at (setup_of u order).answer.state k).run ≡ 0)
unfolding is_of_run
new_or_refused_setup_has_no_runs u order k l =
    let new = setup_state_is_new u order in
    let is = ap (λ (t : State). superblock_at t k) new.1 ∙ superblock_at_new_state_unused new.0 k l in
    rw is (refl, refl)
