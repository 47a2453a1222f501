-- Document 02, item 4: what a call does to the ranking. Assumes nothing.
use mathlib.Core.Path.{◌≡◌, sym, ap, ◌∙◌, subst}
use mathlib.Core.Logic.{⊎_elim}
use mathlib.Core.List.{List}
use Prim.Native.Nat.{ℕ, ◌*◌, ◌≤◌, ◌<◌}
use lib.ListN.{length}
use Rattle.heap_rules.specs.declared.Setup.{Setup}
use Rattle.heap_rules.specs.declared.State.{State}
use Rattle.heap_rules.specs.Table.{superblock_at}
use Rattle.heap_laws.proofs.StateFacts.{Shape, WithinLimits, RanksSound}
use Rattle.heap_laws.proofs.RankLaws.{rank_in_new_state, rank_after_free_of_superblock, rank_after_renewal_of_superblock, ranks_sound_of_valid}
use Rattle.heap_laws.proofs.StateCheckLaws.{ranks_valid_of_rest}
use Rattle.check_rules.proofs.ClauseLaws.{rest_of_passes}
use Rattle.base_laws.proofs.TestLaws.{T_of_true}
use Rattle.call_rules.specs.declared.Outcome.TheVariants.{Refused}
use Rattle.call_rules.specs.Answers.{After, number_of, refused}
use Rattle.call_rules.specs.Free.{superblock_index}
use Rattle.call_rules.specs.Named.{named_take_of, held_address, named_free_of}
use Rattle.call_rules.specs.Calls.{Call, call_of, call_unchecked}
use Rattle.call_rules.specs.Setup.{setup_of}
use Rattle.call_rules.proofs.CheckFirst.{call_of_checks_first}
use Rattle.call_laws.proofs.CallEffects.{NamedTakeAccepted, NamedFreeAccepted, NamedLongFreeAccepted, RanksKept, RankedLatest, Renews, TakeRanks}
use Rattle.call_laws.proofs.TakeLaws.{take_ranks}
use Rattle.call_laws.proofs.FreeLaws.{free_ranks, long_free_ranks}
use Rattle.call_laws.proofs.NamedCallLaws.{named_take_state}
use Rattle.call_laws.proofs.AcceptedCallLaws.{call_passes_if_accepted}
use Rattle.call_laws.proofs.RefusalConditions.{rest_fails, check_fails_refused_13}
use Rattle.call_laws.proofs.TotalsKeptLaws.{setup_state_is_new, refused_call_keeps_state}

-- ---- named calls do what the plain ones do (TakeLaws · take_ranks, FreeLaws · free_ranks)
pub named_take_ranks : (s : State) (order : List ℕ) (i m size k : ℕ) → Shape s → NamedTakeAccepted s order i m size k
    → TakeRanks i k s (named_take_of s order i m size).answer.state
named_take_ranks s order i m size k shape acc =
    subst (λ (t : State). TakeRanks i k s t) (sym (named_take_state s order i m size k shape acc)) (take_ranks s order i size k shape acc.taken)

pub named_free_ranks : (s : State) (order : List ℕ) (i m : ℕ) → Shape s → NamedFreeAccepted s order i m
    → RankedLatest (superblock_index (held_address s m)) s (named_free_of s order i m).answer.state
named_free_ranks s order i m shape acc l h = ap (λ (x : After). (superblock_at x.answer.state l).rank) acc.result_is
    ∙ free_ranks s order i (held_address s m) shape acc.freed l h

pub named_long_free_ranks : (s : State) (order : List ℕ) (i m : ℕ) → Shape s → NamedLongFreeAccepted s order i m
    → RanksKept s (named_free_of s order i m).answer.state
named_long_free_ranks s order i m shape acc l h = ap (λ (x : After). (superblock_at x.answer.state l).rank) acc.result_is
    ∙ long_free_ranks s order i (held_address s m) shape acc.freed l h

-- ---- the superblock itself
-- a superblock that a take renewed has no rank
pub renewed_superblock_is_unranked : (s t : State) (i k : ℕ) → k < 64 → TakeRanks i k s t → Renews s i k → (superblock_at t k).rank ≡ 0
renewed_superblock_is_unranked s t i k l ranks renews =
    ⊎_elim (λ h. h.1 k l ∙ rank_after_renewal_of_superblock k s.table) (λ h. absurd (⊎_elim renews.not_own (λ f. f renews.empty) h.0)) ranks

-- one that was freed into is the latest
pub freed_superblock_is_latest : (s t : State) (k : ℕ) → k < 64 → RankedLatest k s t → (superblock_at t k).rank ≡ 1
freed_superblock_is_latest s t k l ranks = ranks k l ∙ rank_after_free_of_superblock k s.table

-- ---- any call
module _ (s : State) (order : List ℕ) (call : Call) where
  -- a refused one keeps all ranks
  pub refused_call_keeps_ranks : (r : ℕ) → (call_of s order call).answer.outcome ≡ Refused r → RanksKept s (call_of s order call).answer.state
  refused_call_keeps_ranks r e m l = ap (λ (t : State). (superblock_at t m).rank) (refused_call_keeps_state s order call r e)

  -- "each once without a gap, the rest 0, unused ones too", and "no rank" in a run (item 7), after every accepted call
  pub accepted_call_keeps_ranking : Shape s → number_of (call_of s order call).answer.outcome ≡ 0 → RanksSound (call_of s order call).answer.state
  accepted_call_keeps_ranking shape accepted =
      let after = call_of s order call in
      ranks_sound_of_valid after.answer.state
      (ranks_valid_of_rest after.answer.state after.order
      (rest_of_passes after.answer.state after.order (T_of_true _ (call_passes_if_accepted s order call shape accepted))))

  -- "and the state check tests this": a ranking with a gap, a double, a rank too high or an unused superblock in it is refused 13
  pub call_refused_13_of_wrong_ranking : WithinLimits s.setup → s.setup.superblocks * 256 ≤ length order → (RanksSound s → ⊥)
      → call_of s order call ≡ refused 13 s order
  call_refused_13_of_wrong_ranking numbers lent wrong =
      call_of_checks_first s order call ∙ check_fails_refused_13 s order 0 (call_unchecked s order call) (rest_fails numbers lent (λ h. wrong h.3))

-- ---- a setup, accepted or refused, has none ranked
pub new_or_refused_setup_ranks_are_0 : (u : Setup) (order : List ℕ) (k : ℕ) → k < 64 → (superblock_at (setup_of u order).answer.state k).rank ≡ 0
new_or_refused_setup_ranks_are_0 u order k l =
    let new = setup_state_is_new u order in
    ap (λ (t : State). (superblock_at t k).rank) new.1 ∙ rank_in_new_state new.0 k l
