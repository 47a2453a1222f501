-- The setup numbers stay what the accepted setup gave, so that no state of a record has a processor heap above 8. Assumes nothing.
use Rattle.std.specs.Prelude.{Option, Some, None}
use mathlib.Core.Path.{◌≡◌, refl, sym, ap, ◌∙◌, subst}
use mathlib.Core.Bool.{Bool, true, false, not}
use mathlib.Core.Logic.{⊎_elim}
use mathlib.Core.List.{List, [], ◌∷◌}
use Prim.Native.Nat.{ℕ, ◌*◌, ◌≤◌}
use native.Mathlib.Omega.{arith}
use lib.ListN.{length}
use lib.Dec.{T, eqb, leb}
use Rattle.base_laws.specs.Sums.{pick}
use Rattle.class_rules.specs.Classes.{class_of, is_long, run_length, is_too_large}
use Rattle.names_rules.specs.Names.{is_held}
use Rattle.heap_rules.specs.declared.Setup.{Setup}
use Rattle.heap_rules.specs.declared.State.{State}
use Rattle.heap_rules.specs.declared.Moved.{Moved}
use Rattle.heap_rules.specs.Table.{superblock_at, live_in}
use Rattle.heap_rules.specs.States.{no_state}
use Rattle.heap_rules.specs.Ranks.{ranked_latest, unranked}
use Rattle.base_laws.proofs.TestLaws.{pick_elim}
use Rattle.choice_rules.specs.Choice.{fullest}
use Rattle.choice_rules.specs.RunChoice.{lowest_run}
use Rattle.move_rules.specs.Moves.{transferred, found_transferred, invariant_restored}
use Rattle.heap_laws.proofs.MovesKeepLaws.{invariant_restored_keeps}
use Rattle.check_rules.specs.Check.{within_limits}
use Rattle.heap_laws.proofs.StateCheckLaws.{facts_of_within_limits}
use Rattle.call_rules.specs.declared.Outcome.{Outcome}
use Rattle.call_rules.specs.declared.Outcome.TheVariants.{Ready, Address, Moves, Refused}
use Rattle.call_rules.specs.Answers.{After, refused, checked, is_processor}
use Rattle.call_rules.specs.Setup.{accepted_setup, setup_of}
use Rattle.call_rules.specs.LongBlocks.{long_taken_from, long_taken_at}
use Rattle.call_rules.specs.Take.{other_places, unranked_if_empty, taken_from, taken_from_other, taken_at, take_unchecked, take_of}
use Rattle.call_rules.specs.Free.{superblock_index, superblock_holding, is_unmapped, is_in_run, is_misaligned, is_live_at, mark_cleared, small_block_freed}
use Rattle.call_rules.specs.Free.{long_block_freed, block_freed, small_freed_at, long_freed_at, freed_at, free_unchecked, free_of}
use Rattle.call_rules.specs.Named.{is_unavailable, name_bound, bound_by, with_name_bound, named_take_unchecked, named_take_of, held_address}
use Rattle.call_rules.specs.Named.{named_free_unchecked}
use Rattle.call_rules.specs.Named.{named_free_of}
use Rattle.call_rules.specs.Drop.{all_freed, first_address_refusal, then_restored, Pair, each_restored, drop_moves, dropped_all, drop_unchecked, drop_of}
use Rattle.call_rules.specs.Calls as call
use Rattle.call_rules.specs.Calls.{Call, call_of}
use Rattle.call_laws.proofs.RunEffectLaws.{run_taken_keeps_rest, run_freed_keeps_rest}
use Rattle.call_laws.proofs.CheckedLaws.{checked_refused_or_passed}

-- ---- the move rule
setup_of_found_transferred : (f : Option ℕ) (s : State) → (found_transferred f s).setup ≡ s.setup
unfolding found_transferred transferred
setup_of_found_transferred (Some k) s = refl
setup_of_found_transferred None s = refl

setup_of_invariant_restored : (h c : ℕ) (s : State) → (invariant_restored h c s).state.setup ≡ s.setup
setup_of_invariant_restored h c s = invariant_restored_keeps (λ t. t.setup ≡ s.setup) (λ found t e. setup_of_found_transferred found t ∙ e) h c s refl

setup_of_unranked_if_empty : (k : ℕ) (s : State) → (unranked_if_empty k s).setup ≡ s.setup
unfolding unranked_if_empty unranked
setup_of_unranked_if_empty k s = pick_elim (λ (t : State). t.setup ≡ s.setup) (eqb (live_in (superblock_at s k)) 0) _ _ (λ e. refl) (λ e. refl)

-- ---- the calls, each behind the check
SetupKept : State → After → Type 0
SetupKept s after = after.answer.state.setup ≡ s.setup

setup_kept_by_checked : (s : State) (order : List ℕ) (next : After) → SetupKept s next → SetupKept s (checked s order next)
unfolding SetupKept
setup_kept_by_checked s order next kept =
    ⊎_elim (λ d. ap (λ (x : After). x.answer.state.setup) d.1) (λ d. ap (λ (x : After). x.answer.state.setup) d.1 ∙ kept)
    (checked_refused_or_passed s order next)

setup_kept_by_refused : (r : ℕ) (s : State) (order : List ℕ) → SetupKept s (refused r s order)
unfolding SetupKept
setup_kept_by_refused r s order = refl

-- a take
setup_kept_by_taken_at : (i c : ℕ) (s : State) (order : List ℕ) (own other : Option ℕ) → SetupKept s (taken_at i c s order own other)
unfolding SetupKept taken_at taken_from_other taken_from
setup_kept_by_taken_at i c s order (Some k) other = refl
setup_kept_by_taken_at i c s order None (Some k) = setup_of_unranked_if_empty k s
setup_kept_by_taken_at i c s order None None = refl

setup_kept_by_long_taken_at : (n : ℕ) (s : State) (order : List ℕ) (found : Option ℕ) → SetupKept s (long_taken_at n s order found)
unfolding SetupKept long_taken_at long_taken_from
setup_kept_by_long_taken_at n s order (Some k) = (run_taken_keeps_rest k n s).setup
setup_kept_by_long_taken_at n s order None = refl

setup_kept_by_take_unchecked : (s : State) (order : List ℕ) (i size : ℕ) → SetupKept s (take_unchecked s order i size)
unfolding take_unchecked
setup_kept_by_take_unchecked s order i size =
    pick_elim (SetupKept s) (not (is_processor s i)) _ _ (λ e. setup_kept_by_refused 2 s order)
    (λ e. pick_elim (SetupKept s) (is_too_large size) _ _ (λ f. setup_kept_by_refused 3 s order)
    (λ f. pick_elim (SetupKept s) (is_long size) _ _ (λ g. setup_kept_by_long_taken_at (run_length size) s order (lowest_run (run_length size) s))
    (λ g. setup_kept_by_taken_at i (class_of size) s order (fullest i (class_of size) s) (other_places (class_of size) s))))

setup_kept_by_take : (s : State) (order : List ℕ) (i size : ℕ) → (take_of s order i size).answer.state.setup ≡ s.setup
unfolding SetupKept take_of
setup_kept_by_take s order i size = setup_kept_by_checked s order _ (setup_kept_by_take_unchecked s order i size)

-- a free
setup_of_block_freed : (s : State) (a : ℕ) → (block_freed s a).setup ≡ s.setup
unfolding block_freed long_block_freed small_block_freed mark_cleared ranked_latest
setup_of_block_freed s a =
    pick_elim (λ (t : State). t.setup ≡ s.setup) (is_in_run s a) _ _ (λ e. (run_freed_keeps_rest (superblock_index a) (superblock_holding s a).run s).setup)
    (λ e. refl)

setup_kept_by_freed_at : (s : State) (order : List ℕ) (a : ℕ) → SetupKept s (freed_at s order a)
unfolding SetupKept freed_at long_freed_at small_freed_at long_block_freed small_block_freed mark_cleared ranked_latest
setup_kept_by_freed_at s order a =
    pick_elim (SetupKept s) (is_in_run s a) _ _
    (λ e. (run_freed_keeps_rest (superblock_index a) (superblock_holding s a).run s).setup)
    (λ e. setup_of_invariant_restored (superblock_holding s a).owner (superblock_holding s a).class (small_block_freed s a))

setup_kept_by_free_unchecked : (s : State) (order : List ℕ) (i a : ℕ) → SetupKept s (free_unchecked s order i a)
unfolding free_unchecked
setup_kept_by_free_unchecked s order i a =
    pick_elim (SetupKept s) (not (is_processor s i)) _ _ (λ e. setup_kept_by_refused 2 s order)
    (λ e. pick_elim (SetupKept s) (is_unmapped s a) _ _ (λ f. setup_kept_by_refused 5 s order)
    (λ f. pick_elim (SetupKept s) (is_misaligned s a) _ _ (λ g. setup_kept_by_refused 6 s order)
    (λ g. pick_elim (SetupKept s) (not (is_live_at s a)) _ _ (λ h. setup_kept_by_refused 7 s order) (λ h. setup_kept_by_freed_at s order a))))

setup_kept_by_free : (s : State) (order : List ℕ) (i a : ℕ) → (free_of s order i a).answer.state.setup ≡ s.setup
unfolding SetupKept free_of
setup_kept_by_free s order i a = setup_kept_by_checked s order _ (setup_kept_by_free_unchecked s order i a)

-- a take and a free by name
setup_of_bound_by : (o : Outcome) (m : ℕ) (s : State) → (bound_by o m s).setup ≡ s.setup
unfolding bound_by name_bound
setup_of_bound_by Ready m s = refl
setup_of_bound_by (Address a) m s = refl
setup_of_bound_by (Moves k) m s = refl
setup_of_bound_by (Refused r) m s = refl

setup_kept_by_name_bound : (m : ℕ) (s : State) (after : After) → SetupKept s after → SetupKept s (with_name_bound m after)
unfolding SetupKept with_name_bound
setup_kept_by_name_bound m s after kept = setup_of_bound_by after.answer.outcome m after.answer.state ∙ kept

setup_kept_by_named_take : (s : State) (order : List ℕ) (i m size : ℕ) → (named_take_of s order i m size).answer.state.setup ≡ s.setup
unfolding SetupKept named_take_of named_take_unchecked
setup_kept_by_named_take s order i m size =
    setup_kept_by_checked s order _
    (pick_elim (SetupKept s) (not (is_processor s i)) _ _ (λ e. setup_kept_by_refused 2 s order)
    (λ e. pick_elim (SetupKept s) (is_unavailable s m) _ _ (λ f. setup_kept_by_refused 14 s order)
    (λ f. setup_kept_by_name_bound m s _ (setup_kept_by_take_unchecked s order i size))))

setup_kept_by_named_free : (s : State) (order : List ℕ) (i m : ℕ) → (named_free_of s order i m).answer.state.setup ≡ s.setup
unfolding SetupKept named_free_of named_free_unchecked
setup_kept_by_named_free s order i m =
    setup_kept_by_checked s order _
    (pick_elim (SetupKept s) (not (is_processor s i)) _ _ (λ e. setup_kept_by_refused 2 s order)
    (λ e. pick_elim (SetupKept s) (not (is_held s.names m)) _ _ (λ f. setup_kept_by_refused 15 s order)
    (λ f. setup_kept_by_free_unchecked s order i (held_address s m))))

-- a drop
setup_of_all_freed : (s : State) (addresses : List ℕ) → (all_freed s addresses).setup ≡ s.setup
unfolding all_freed
setup_of_all_freed s [] = refl
setup_of_all_freed s (a ∷ addresses) = setup_of_all_freed (block_freed s a) addresses ∙ setup_of_block_freed s a

setup_of_each_restored : (pairs : List Pair) (before : Moved) → (each_restored pairs before).state.setup ≡ before.state.setup
unfolding each_restored then_restored
setup_of_each_restored [] before = refl
setup_of_each_restored (pair ∷ pairs) before =
    setup_of_each_restored pairs (then_restored pair.heap pair.class before) ∙ setup_of_invariant_restored pair.heap pair.class before.state

setup_kept_by_dropped_all : (s : State) (order addresses : List ℕ) → SetupKept s (dropped_all s order addresses)
unfolding SetupKept dropped_all drop_moves
setup_kept_by_dropped_all s order addresses = setup_of_each_restored _ _ ∙ setup_of_all_freed s addresses

setup_kept_by_drop : (s : State) (order : List ℕ) (i : ℕ) (addresses : List ℕ) → (drop_of s order i addresses).answer.state.setup ≡ s.setup
unfolding SetupKept drop_of drop_unchecked
setup_kept_by_drop s order i addresses =
    setup_kept_by_checked s order _
    (pick_elim (SetupKept s) (not (is_processor s i)) _ _ (λ e. setup_kept_by_refused 2 s order)
    (λ e. pick_elim (SetupKept s) (eqb (length addresses) 0) _ _ (λ f. setup_kept_by_refused 16 s order)
    (λ f. pick_elim (SetupKept s) (eqb (first_address_refusal s addresses) 0) _ _ (λ g. setup_kept_by_dropped_all s order addresses)
    (λ g. setup_kept_by_refused (first_address_refusal s addresses) s order))))

-- any call
pub setup_kept_by_call : (s : State) (order : List ℕ) (c : Call) → (call_of s order c).answer.state.setup ≡ s.setup
unfolding call_of
setup_kept_by_call s order (call.Take i size) = setup_kept_by_take s order i size
setup_kept_by_call s order (call.Free i a) = setup_kept_by_free s order i a
setup_kept_by_call s order (call.NamedTake i m size) = setup_kept_by_named_take s order i m size
setup_kept_by_call s order (call.NamedFree i m) = setup_kept_by_named_free s order i m
setup_kept_by_call s order (call.Drop i addresses) = setup_kept_by_drop s order i addresses

-- ---- a setup: five zeros, or numbers within their limits
pub processors_after_setup_le_8 : (u : Setup) (order : List ℕ) → (setup_of u order).answer.state.setup.processors ≤ 8
unfolding setup_of
processors_after_setup_le_8 u order = go (within_limits u) (leb (u.superblocks * 256) (length order)) refl
  where
    go : (a b : Bool) → within_limits u ≡ a → (pick a (pick b (accepted_setup u order) (refused 12 no_state order))
        (refused 1 no_state order)).answer.state.setup.processors ≤ 8
    go true true e = (facts_of_within_limits u (subst T (sym e) tt)).processors_high
    go true false e = omega arith
    go false b e = omega arith
