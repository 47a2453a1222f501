-- Document 02, item 3: "Every operation keeps them equal to the recount, a new or refused setup has them at 0, and the state check adds this equality to
-- 13's conditions." Assumes nothing.
use Rattle.std.specs.Prelude.{Option, Some, None}
use mathlib.Core.Path.{◌≡◌, refl, sym, ap, ap₂, ◌∙◌, subst}
use mathlib.Core.Bool.{Bool, true, false, not}
use mathlib.Core.Logic.{◌↔◌, ◌⊎◌, inl, inr, ⊎_elim}
use mathlib.Core.List.{List, [], ◌∷◌}
use Prim.Native.Nat.{ℕ, suc, ◌+◌, ◌*◌, ◌≤◌, ◌<◌}
use native.Mathlib.Nat.{pos_of_ne-zero}
use native.Mathlib.Omega.{arith}
use borrow.Author.Tests.{eqb-false}
use lib.ListN.{length, get_or-replicate}
use lib.Dec.{eqb, leb}
use Rattle.base_laws.specs.Sums.{pick, sum_below}
use Rattle.base_laws.proofs.SumLaws.{sum_cong}
use Rattle.base_laws.proofs.TestLaws.{T_of_true, pick_elim}
use Rattle.class_rules.specs.Classes.{class_count, class_of, is_long, run_length, is_too_large}
use Rattle.names_rules.specs.Names.{is_held}
use Rattle.heap_rules.specs.declared.Setup.{Setup}
use Rattle.heap_rules.specs.declared.State.{State}
use Rattle.heap_rules.specs.Table.{run_owner, superblock_at}
use Rattle.heap_rules.specs.Counts.{superblocks_of, live_of, superblocks_of_class, live_of_class}
use Rattle.heap_rules.specs.Totals.{heap_count, total_count, total_index, superblocks_kept, live_kept, TotalsKept, TotalsCounted}
use Rattle.heap_rules.specs.States.{no_state, new_state}
use Rattle.choice_rules.specs.Choice.{fullest}
use Rattle.choice_rules.specs.RunChoice.{lowest_run}
use Rattle.check_rules.specs.Check.{within_limits, rest_valid}
use Rattle.heap_laws.proofs.StateFacts.{Shape, WithinLimits}
use Rattle.heap_laws.proofs.StateCheckLaws.{sound_of_passes, totals_kept_of_rest, owned_of_owner}
use Rattle.heap_laws.proofs.CountLaws.{owned_is_sum_over_heaps, live_is_sum_over_heaps}
use Rattle.heap_laws.proofs.TotalsLaws.{new_state_totals_kept, recounted_superblocks, recounted_live, superblocks_kept_are_counted, live_kept_is_counted}
use Rattle.heap_laws.proofs.TotalsLaws.{totals_equal_of_each, length_recounted_superblocks, length_recounted_live, superblocks_kept_above_processors}
use Rattle.heap_laws.proofs.TotalsLaws.{live_kept_above_processors}
use Rattle.call_rules.specs.declared.Outcome.{Outcome}
use Rattle.call_rules.specs.declared.Outcome.TheVariants.{Ready, Address, Moves, Refused}
use Rattle.call_rules.specs.Answers.{After, number_of, refused, checked, is_processor}
use Rattle.call_rules.specs.Setup.{accepted_setup, setup_of}
use Rattle.call_rules.specs.LongBlocks.{joined_to_run, run_taken, long_taken_from, long_taken_at, made_unused, run_freed}
use Rattle.call_rules.specs.Take.{other_places, taken_from, taken_from_other, taken_at, take_unchecked}
use Rattle.call_rules.specs.Free.{superblock_index, superblock_holding, is_unmapped, is_in_run, is_misaligned, is_live_at, mark_cleared, small_block_freed}
use Rattle.call_rules.specs.Free.{long_block_freed, block_freed, small_freed_at, long_freed_at, freed_at, free_unchecked}
use Rattle.call_rules.specs.Named.{is_unavailable, name_bound, bound_by, with_name_bound, named_take_unchecked, held_address, named_free_unchecked}
use Rattle.call_rules.specs.Drop.{all_freed, first_address_refusal, is_touched, drop_moves, dropped_all, drop_unchecked}
use Rattle.call_rules.specs.Calls.{Call, Take, Free, NamedTake, NamedFree, Drop, call_of, call_unchecked}
use Rattle.call_rules.proofs.CheckFirst.{call_of_checks_first}
use Rattle.call_laws.proofs.CallEffects.{Passed}
use Rattle.call_laws.proofs.EachOfRunLaws.{each_of_run_keeps}
use Rattle.call_laws.proofs.NamedCallLaws.{name_bound_of_refused}
use Rattle.call_rules.proofs.TouchedPairLaws.{drop_moves_by_heaps}
use Rattle.heap_laws.proofs.MovesKeepLaws.{totals_kept_of_invariant_restored}
use Rattle.call_laws.proofs.DropMoveLaws.{heaps_restored_keep, then_restored_keeps_totals}
use Rattle.call_laws.proofs.AcceptedCallLaws.{call_passes_if_accepted}
use Rattle.call_laws.proofs.RefusalConditions.{address_not_refused, moves_not_refused, rest_fails, check_fails_refused_13}

pub totals_counted_of_kept : (s : State) → TotalsKept s → TotalsCounted s
totals_counted_of_kept s kept h c lh lc = (superblocks_kept_are_counted s h c lh lc kept, live_kept_is_counted s h c lh lc kept)

-- and that is all that the check asks of them: no other number stands in the arrays
pub totals_kept_iff_counted : (s : State) → Shape s → TotalsKept s ↔ TotalsCounted s
unfolding superblocks_kept live_kept
totals_kept_iff_counted s shape = (totals_counted_of_kept s, kept)
  where
    kept : TotalsCounted s → TotalsKept s
    kept each =
        ap₂ (λ (a b : List ℕ). record { superblocks = a; live = b })
        (totals_equal_of_each s.totals.superblocks _ shape.superblock_totals_length (length_recounted_superblocks s.table)
        (λ h c lh lc. (each h c lh lc).0 ∙ sym (recounted_superblocks s h c lh lc)))
        (totals_equal_of_each s.totals.live _ shape.live_totals_length (length_recounted_live s.table)
        (λ h c lh lc. (each h c lh lc).1 ∙ sym (recounted_live s h c lh lc)))

-- ---- calls, by their definitions alone
-- a run taken or freed replaces its superblocks one after another
pub run_taken_recounted : (k n : ℕ) (s : State) → TotalsKept s → TotalsKept (run_taken k n s)
unfolding run_taken joined_to_run
run_taken_recounted k n s kept = each_of_run_keeps (joined_to_run k n) k s n TotalsKept (λ m t low high h. refl) kept

run_freed_recounted : (k n : ℕ) (s : State) → TotalsKept s → TotalsKept (run_freed k n s)
unfolding run_freed made_unused
run_freed_recounted k n s kept = each_of_run_keeps made_unused k s n TotalsKept (λ m t low high h. refl) kept

-- a block freed replaces a superblock, a long one those of its run, and the moves of a drop keep them as those of a free do
pub block_freed_recounted : (s : State) (a : ℕ) → TotalsKept s → TotalsKept (block_freed s a)
unfolding block_freed long_block_freed small_block_freed mark_cleared
block_freed_recounted s a kept = pick_elim TotalsKept (is_in_run s a) _ _ (λ e. run_freed_recounted (superblock_index a) (superblock_holding s a).run s kept)
    (λ e. refl)

pub all_freed_recounted : (s : State) (addresses : List ℕ) → TotalsKept s → TotalsKept (all_freed s addresses)
unfolding all_freed
all_freed_recounted s [] kept = kept
all_freed_recounted s (a ∷ addresses) kept = all_freed_recounted (block_freed s a) addresses (block_freed_recounted s a kept)

drop_moves_recounted : (s : State) (addresses : List ℕ) → TotalsKept (all_freed s addresses) → TotalsKept (drop_moves s addresses).state
drop_moves_recounted s addresses kept =
    rw (drop_moves_by_heaps s addresses) (heaps_restored_keep (λ m. TotalsKept m.state) then_restored_keeps_totals (is_touched s addresses)
    s.setup.processors (record { moves = 0; state = all_freed s addresses }) kept)

-- a name bound leaves them as they are
bound_recounted : (o : Outcome) (m : ℕ) (s : State) → TotalsKept s → TotalsKept (bound_by o m s)
unfolding bound_by name_bound
bound_recounted Ready m s kept = kept
bound_recounted (Address a) m s kept = kept
bound_recounted (Moves k) m s kept = kept
bound_recounted (Refused r) m s kept = kept

-- a call is refused, with its number, and changes nothing; or it is accepted, and the totals after it are the recount
abbrev RefusedOrRecounted : State → List ℕ → After → Type 0
RefusedOrRecounted s order x =
    ((r : ℕ) × (0 < r) × (x ≡ refused r s order)) ⊎ (((r : ℕ) → x.answer.outcome ≡ Refused r → ⊥) × TotalsKept x.answer.state)

module _ (s : State) (order : List ℕ) where
  by_test : (b : Bool) (x y : After) → RefusedOrRecounted s order x → RefusedOrRecounted s order y → RefusedOrRecounted s order (pick b x y)
  by_test true x y f g = f
  by_test false x y f g = g

  with_refusal : (r : ℕ) → 0 < r → RefusedOrRecounted s order (refused r s order)
  with_refusal r pos = inl (r, pos, refl)

  -- behind the check they are the recount before the call too
  check_refuses_or : (next : After) → (TotalsKept s → RefusedOrRecounted s order next) → RefusedOrRecounted s order (checked s order next)
  unfolding checked
  check_refuses_or next f =
      by_test (within_limits s.setup) _ _
      (by_test (leb (s.setup.superblocks * 256) (length order)) _ _
      (pick_elim (RefusedOrRecounted s order) (rest_valid s order) next _ (λ e. f (totals_kept_of_rest s order (T_of_true _ e)))
      (λ e. with_refusal 13 (omega arith)))
      (with_refusal 12 (omega arith)))
      (with_refusal 13 (omega arith))

  -- a take replaces a superblock too
  take_recounts_at : (i c : ℕ) (own other : Option ℕ) → RefusedOrRecounted s order (taken_at i c s order own other)
  unfolding taken_at taken_from taken_from_other
  take_recounts_at i c (Some k) other = inr (address_not_refused _, refl)
  take_recounts_at i c None (Some k) = inr (address_not_refused _, refl)
  take_recounts_at i c None None = with_refusal 4 (omega arith)

  -- and a long one those of its run
  long_take_recounts_at : TotalsKept s → (n : ℕ) (run : Option ℕ) → RefusedOrRecounted s order (long_taken_at n s order run)
  unfolding long_taken_at long_taken_from
  long_take_recounts_at kept n (Some k) = inr (address_not_refused _, run_taken_recounted k n s kept)
  long_take_recounts_at kept n None = with_refusal 17 (omega arith)

  take_recounts : TotalsKept s → (i size : ℕ) → RefusedOrRecounted s order (take_unchecked s order i size)
  unfolding take_unchecked
  take_recounts kept i size =
      by_test (not (is_processor s i)) _ _ (with_refusal 2 (omega arith))
      (by_test (is_too_large size) _ _ (with_refusal 3 (omega arith))
      (by_test (is_long size) _ _ (long_take_recounts_at kept (run_length size) (lowest_run (run_length size) s))
      (take_recounts_at i (class_of size) (fullest i (class_of size) s) (other_places (class_of size) s))))

  -- a free clears a mark, and then moves; or it frees a run
  free_recounts : TotalsKept s → (i a : ℕ) → RefusedOrRecounted s order (free_unchecked s order i a)
  unfolding free_unchecked freed_at small_freed_at long_freed_at small_block_freed long_block_freed mark_cleared
  free_recounts kept i a =
      by_test (not (is_processor s i)) _ _ (with_refusal 2 (omega arith))
      (by_test (is_unmapped s a) _ _ (with_refusal 5 (omega arith))
      (by_test (is_misaligned s a) _ _ (with_refusal 6 (omega arith))
      (by_test (not (is_live_at s a)) _ _ (with_refusal 7 (omega arith))
      (by_test (is_in_run s a) _ _ (inr (moves_not_refused _, run_freed_recounted (superblock_index a) (superblock_holding s a).run s kept))
      (inr (
        moves_not_refused _,
        totals_kept_of_invariant_restored (superblock_holding s a).owner (superblock_holding s a).class
            (small_block_freed s a) refl,
      ))))))

  drop_recounts : TotalsKept s → (i : ℕ) (addresses : List ℕ) → RefusedOrRecounted s order (drop_unchecked s order i addresses)
  unfolding drop_unchecked dropped_all
  drop_recounts kept i addresses =
      by_test (not (is_processor s i)) _ _ (with_refusal 2 (omega arith))
      (by_test (eqb (length addresses) 0) _ _ (with_refusal 16 (omega arith)) (go (eqb (first_address_refusal s addresses) 0) refl))
    where
      go : (t : Bool) → eqb (first_address_refusal s addresses) 0 ≡ t
          → RefusedOrRecounted s order (pick t (dropped_all s order addresses) (refused (first_address_refusal s addresses) s order))
      go true e = inr (moves_not_refused _, drop_moves_recounted s addresses (all_freed_recounted s addresses kept))
      go false e = with_refusal (first_address_refusal s addresses) (pos_of_ne-zero (eqb-false (first_address_refusal s addresses) 0 e))

  name_bound_recounts : (m : ℕ) (x : After) → RefusedOrRecounted s order x → RefusedOrRecounted s order (with_name_bound m x)
  unfolding with_name_bound
  name_bound_recounts m x (inl (r, pos, e)) = inl (r, pos, ap (with_name_bound m) e ∙ name_bound_of_refused r m s order)
  name_bound_recounts m x (inr (accepted, kept)) = inr (accepted, bound_recounted x.answer.outcome m x.answer.state kept)

  unchecked_call_recounts : TotalsKept s → (call : Call) → RefusedOrRecounted s order (call_unchecked s order call)
  unfolding call_unchecked named_take_unchecked named_free_unchecked
  unchecked_call_recounts kept (Take i size) = take_recounts kept i size
  unchecked_call_recounts kept (Free i a) = free_recounts kept i a
  unchecked_call_recounts kept (NamedTake i m size) =
      by_test (not (is_processor s i)) _ _ (with_refusal 2 (omega arith))
      (by_test (is_unavailable s m) _ _ (with_refusal 14 (omega arith)) (name_bound_recounts m _ (take_recounts kept i size)))
  unchecked_call_recounts kept (NamedFree i m) =
      by_test (not (is_processor s i)) _ _ (with_refusal 2 (omega arith))
      (by_test (not (is_held s.names m)) _ _ (with_refusal 15 (omega arith)) (free_recounts kept i (held_address s m)))
  unchecked_call_recounts kept (Drop i addresses) = drop_recounts kept i addresses

  module _ (call : Call) where
    refused_or_recounted : RefusedOrRecounted s order (call_of s order call)
    refused_or_recounted = rw (call_of_checks_first s order call) (check_refuses_or (call_unchecked s order call) (λ kept. unchecked_call_recounts kept call))

    accepted_call_recounts : number_of (call_of s order call).answer.outcome ≡ 0 → TotalsKept (call_of s order call).answer.state
    unfolding number_of
    accepted_call_recounts accepted = ⊎_elim
        (λ h. let r : number_of (call_of s order call).answer.outcome ≡ h.0 = ap (λ (x : After). number_of x.answer.outcome) h.2 in
        absurd (let z : ⊥ = omega (arith, h.1) in z))
        (λ h. h.1) refused_or_recounted

    -- "Every operation keeps them equal to the recount": after every accepted call they are it, whatever the state before ..
    pub accepted_call_keeps_totals : number_of (call_of s order call).answer.outcome ≡ 0 → TotalsCounted (call_of s order call).answer.state
    accepted_call_keeps_totals accepted = totals_counted_of_kept _ (accepted_call_recounts accepted)

    -- .. a refused call hands back the state that it was given, and so those in it ..
    pub refused_call_keeps_state : (r : ℕ) → (call_of s order call).answer.outcome ≡ Refused r → (call_of s order call).answer.state ≡ s
    refused_call_keeps_state r e = ⊎_elim (λ h. ap (λ (x : After). x.answer.state) h.2) (λ h. absurd (h.0 r e)) refused_or_recounted

    pub refused_call_keeps_totals : (r : ℕ) → (call_of s order call).answer.outcome ≡ Refused r → (call_of s order call).answer.state.totals ≡ s.totals
    refused_call_keeps_totals r e = ap (λ (t : State). t.totals) (refused_call_keeps_state r e)

    -- .. so that after any call they are the recount if they were it before
    pub call_keeps_totals : TotalsKept s → TotalsKept (call_of s order call).answer.state
    call_keeps_totals kept = ⊎_elim (λ h. subst (λ (x : After). TotalsKept x.answer.state) (sym h.2) kept) (λ h. h.1) refused_or_recounted

    -- "the state check adds this equality to 13's conditions": one total that is not the recount is enough
    pub call_refused_13_of_wrong_total : WithinLimits s.setup → s.setup.superblocks * 256 ≤ length order → (TotalsCounted s → ⊥)
        → call_of s order call ≡ refused 13 s order
    call_refused_13_of_wrong_total numbers lent wrong =
        call_of_checks_first s order call ∙ check_fails_refused_13 s order 0 (call_unchecked s order call)
        (rest_fails numbers lent (λ h. wrong (totals_counted_of_kept s h.2)))

-- ---- a setup
-- accepted or refused, it hands back a new state
pub setup_state_is_new : (u : Setup) (order : List ℕ) → (v : Setup) × ((setup_of u order).answer.state ≡ new_state v)
unfolding setup_of
setup_state_is_new u order = go (within_limits u) (leb (u.superblocks * 256) (length order))
  where
    go : (a b : Bool) → (v : Setup) × ((pick a (pick b (accepted_setup u order) (refused 12 no_state order)) (refused 1 no_state order)).answer.state
        ≡ new_state v)
    go true true = (u, refl)
    go true false = (no_state.setup, refl)
    go false b = (no_state.setup, refl)

-- "a new or refused setup has them at 0" ..
pub new_or_refused_setup_totals_are_0 : (u : Setup) (order : List ℕ) (h c : ℕ) → h < heap_count → c < class_count
    → (superblocks_kept h c (setup_of u order).answer.state ≡ 0) × (live_kept h c (setup_of u order).answer.state ≡ 0)
unfolding superblocks_kept live_kept
new_or_refused_setup_totals_are_0 u order h c lh lc =
    let zeros = get_or-replicate {A = ℕ} total_count (total_index h c) 0 0 (omega arith) in
    rw (setup_state_is_new u order).1 (zeros, zeros)

-- .. which is the recount
pub new_or_refused_setup_totals_kept : (u : Setup) (order : List ℕ) → TotalsKept (setup_of u order).answer.state
new_or_refused_setup_totals_kept u order = let new = setup_state_is_new u order in subst TotalsKept (sym new.1) (new_state_totals_kept new.0)

-- ---- heaps above P
-- none has a superblock: in a state that passes their totals are 0 ..
pub heaps_above_processors_have_0 : (s : State) (order : List ℕ) → Passed s order → (h c : ℕ) → s.setup.processors < h → h < heap_count → c < class_count
    → (superblocks_kept h c s ≡ 0) × (live_kept h c s ≡ 0)
heaps_above_processors_have_0 s order passed h c above lh lc = (
  superblocks_kept_above_processors s order passed.sound passed.totals h c above lh lc,
  live_kept_above_processors s order passed.sound
      passed.totals h c above lh lc,
)

-- .. so also in that after an accepted call
pub heaps_above_processors_have_0_after_call : (s : State) (order : List ℕ) (call : Call) → Shape s → number_of (call_of s order call).answer.outcome ≡ 0
    → (h c : ℕ) → (call_of s order call).answer.state.setup.processors < h → h < heap_count → c < class_count
    → (superblocks_kept h c (call_of s order call).answer.state ≡ 0) × (live_kept h c (call_of s order call).answer.state ≡ 0)
heaps_above_processors_have_0_after_call s order call shape accepted h c above lh lc =
    let after = call_of s order call in
    let sound = sound_of_passes after.answer.state after.order (T_of_true _ (call_passes_if_accepted s order call shape accepted)) in
    let kept = accepted_call_recounts s order call accepted in (
      superblocks_kept_above_processors after.answer.state after.order sound kept h c above lh lc,
      live_kept_above_processors after.answer.state
          after.order sound kept h c above lh lc,
    )

-- ---- a class's totals over heap 0 and the P processor heaps, in a state that passes
module _ (s : State) (order : List ℕ) (passed : Passed s order) (c : ℕ) (lc : c < class_count) where
  sum_over_heaps_cong : (f g : ℕ → ℕ) → ((h : ℕ) → h < heap_count → f h ≡ g h)
      → f 0 + sum_below (λ i. f (suc i)) s.setup.processors ≡ g 0 + sum_below (λ i. g (suc i)) s.setup.processors
  sum_over_heaps_cong f g each =
      let high = passed.sound.numbers.processors_high in
      ap₂ ◌+◌ (each 0 (omega arith)) (sum_cong (λ i. f (suc i)) (λ i. g (suc i)) s.setup.processors (λ i l. each (suc i) (omega arith)))

  few_processors : s.setup.processors < run_owner
  few_processors = omega (arith, passed.sound.numbers.processors_high)

  owner_le_processors : (k : ℕ) → k < 64 → (superblock_at s k).owner < run_owner → (superblock_at s k).owner ≤ s.setup.processors
  owner_le_processors k l f = (owned_of_owner s order passed.sound k l f).owner

  -- the superblock totals are the A of the bound ..
  pub superblock_totals_are_superblocks_of_class : superblocks_kept 0 c s + sum_below (λ i. superblocks_kept (suc i) c s) s.setup.processors
      ≡ superblocks_of_class c s
  superblock_totals_are_superblocks_of_class =
      sum_over_heaps_cong (λ h. superblocks_kept h c s) (λ h. superblocks_of h c s) (λ h lh. superblocks_kept_are_counted s h c lh lc passed.totals)
      ∙ sym (owned_is_sum_over_heaps s.setup.processors c s few_processors owner_le_processors)

  -- .. and the live totals the live blocks of the class
  pub live_totals_are_live_of_class : live_kept 0 c s + sum_below (λ i. live_kept (suc i) c s) s.setup.processors ≡ live_of_class c s
  live_totals_are_live_of_class =
      sum_over_heaps_cong (λ h. live_kept h c s) (λ h. live_of h c s) (λ h lh. live_kept_is_counted s h c lh lc passed.totals)
      ∙ sym (live_is_sum_over_heaps s.setup.processors c s few_processors owner_le_processors)
