-- "An accepted call yields a state that passes", and the moves that a call reports are "at most q". Assumes nothing.
use Rattle.std.specs.Prelude.{Option, Some, None}
use mathlib.Core.Path.{◌≡◌, refl, sym, ap, ◌∙◌, subst}
use mathlib.Core.Bool.{Bool, true, false, not}
use mathlib.Core.Logic.{◌⊎◌, inl, inr, ⊎_elim}
use mathlib.Core.List.{List}
use Prim.Native.Nat.{ℕ, ◌*◌, zero-le}
use native.Mathlib.Omega.{arith}
use lib.ListN.{length}
use borrow.Author.Tests.{eqb-false}
use lib.Dec.{eqb, leb}
use Rattle.base_laws.specs.Sums.{pick}
use Rattle.base_laws.proofs.TestLaws.{T_of_true, true_of_T}
use Rattle.class_rules.specs.Classes.{class_of, is_long, run_length, is_too_large}
use Rattle.names_rules.specs.Names.{is_held}
use Rattle.order_rules.specs.Order.{cleared}
use Rattle.heap_rules.specs.declared.Setup.{Setup}
use Rattle.heap_rules.specs.declared.State.{State}
use Rattle.heap_rules.specs.States.{no_state, new_state}
use Rattle.choice_rules.specs.Choice.{fullest}
use Rattle.choice_rules.specs.RunChoice.{lowest_run}
use Rattle.check_rules.specs.Check.{within_limits, rest_valid, passes}
use Rattle.heap_laws.proofs.StateFacts.{Shape}
use Rattle.heap_laws.proofs.StateCheckLaws.{passes_of_sound, new_state_sound, new_state_names_valid, new_state_shape}
use Rattle.heap_laws.proofs.RunLaws.{runs_valid_of_sound, new_state_runs_sound}
use Rattle.heap_laws.proofs.RankLaws.{ranks_valid_of_sound, new_state_ranks_sound}
use Rattle.heap_laws.proofs.TotalsLaws.{new_state_totals_kept}
use Rattle.call_rules.specs.declared.Outcome.TheVariants.{Address, Moves, Refused}
use Rattle.call_rules.specs.Answers.{After, number_of, PassesIfAccepted, MovesAtMost, refused, checked, is_processor}
use Rattle.call_rules.specs.Setup.{accepted_setup, setup_of}
use Rattle.call_rules.specs.LongBlocks.{long_taken_from, long_taken_at}
use Rattle.call_rules.specs.Take.{other_places, taken_from, taken_from_other, taken_at, take_unchecked, take_of}
use Rattle.call_rules.specs.Free.{is_unmapped, is_in_run, is_misaligned, is_live_at, small_freed_at, long_freed_at, freed_at, free_unchecked, free_of}
use Rattle.call_rules.specs.Named.{is_unavailable, with_name_bound, named_take_unchecked, named_take_of, held_address, named_free_unchecked, named_free_of}
use Rattle.call_rules.specs.Drop.{first_address_refusal, dropped_all, drop_unchecked, drop_of}
use Rattle.call_rules.specs.Calls.{Call, Take, Free, NamedTake, NamedFree, Drop, most_moves, call_of, call_unchecked}
use Rattle.call_rules.proofs.AnswerLaws.{moves_at_most_of_moves, moves_at_most_of_address, moves_at_most_of_refusal}
use Rattle.call_rules.proofs.CheckFirst.{call_of_checks_first}
use Rattle.call_laws.proofs.CallEffects.{Passed}
use Rattle.call_laws.proofs.TakeLaws.{take_refused_or_accepted, take_address, take_passed}
use Rattle.call_laws.proofs.RunTakenLaws.{long_take_address, long_take_passed}
use Rattle.call_laws.proofs.FreeLaws.{free_refused_or_accepted, free_outcome, free_effect, free_passed, long_free_outcome, long_free_passed}
use Rattle.call_laws.proofs.DropLaws.{drop_refused_or_accepted, drop_outcome, drop_effect, drop_passed}
use Rattle.call_laws.proofs.NamedLongTakeLaws.{named_long_take_address, named_long_take_passed}
use Rattle.call_laws.proofs.NamedCallLaws.{named_take_refused_or_accepted, named_take_address, named_take_passed}
use Rattle.call_laws.proofs.NamedCallLaws.{named_free_refused_or_accepted, named_free_passed, named_long_free_passed}

-- ---- no refusal has the number 0, which is an accepted call's
abbrev NotRefused0 : After → Type 0
NotRefused0 x = x.answer.outcome ≡ Refused 0 → ⊥

pick_not_refused_0 : (b : Bool) (x y : After) → NotRefused0 x → NotRefused0 y → NotRefused0 (pick b x y)
pick_not_refused_0 true x y h g = h
pick_not_refused_0 false x y h g = g

refused_not_refused_0 : (r : ℕ) (s : State) (order : List ℕ) → (r ≡ 0 → ⊥) → NotRefused0 (refused r s order)
unfolding number_of
refused_not_refused_0 r s order n e = n (ap number_of e)

address_not_refused_0 : (a : ℕ) → Address a ≡ Refused 0 → ⊥
address_not_refused_0 a e = let z : ◌≡◌ {A = ℕ} 0 1 = cc in omega arith

moves_not_refused_0 : (m : ℕ) → Moves m ≡ Refused 0 → ⊥
moves_not_refused_0 m e = let z : ◌≡◌ {A = ℕ} 0 1 = cc in omega arith

checked_not_refused_0 : (s : State) (order : List ℕ) (next : After) → NotRefused0 next → NotRefused0 (checked s order next)
unfolding checked
checked_not_refused_0 s order next h =
    pick_not_refused_0 (within_limits s.setup) _ _
    (pick_not_refused_0 (leb (s.setup.superblocks * 256) (length order)) _ _
    (pick_not_refused_0 (rest_valid s order) _ _ h
    (refused_not_refused_0 13 s order (λ e. omega arith)))
    (refused_not_refused_0 12 s order (λ e. omega arith)))
    (refused_not_refused_0 13 s order (λ e. omega arith))

taken_not_refused_0 : (i c : ℕ) (s : State) (order : List ℕ) (own other : Option ℕ) → NotRefused0 (taken_at i c s order own other)
unfolding taken_at taken_from taken_from_other
taken_not_refused_0 i c s order (Some k) other = address_not_refused_0 _
taken_not_refused_0 i c s order None (Some k) = address_not_refused_0 _
taken_not_refused_0 i c s order None None = refused_not_refused_0 4 s order (λ e. omega arith)

long_taken_not_refused_0 : (n : ℕ) (s : State) (order : List ℕ) (run : Option ℕ) → NotRefused0 (long_taken_at n s order run)
unfolding long_taken_at long_taken_from
long_taken_not_refused_0 n s order (Some k) = address_not_refused_0 _
long_taken_not_refused_0 n s order None = refused_not_refused_0 17 s order (λ e. omega arith)

take_not_refused_0 : (s : State) (order : List ℕ) (i size : ℕ) → NotRefused0 (take_unchecked s order i size)
unfolding take_unchecked
take_not_refused_0 s order i size =
    pick_not_refused_0 (not (is_processor s i)) _ _ (refused_not_refused_0 2 s order (λ e. omega arith))
    (pick_not_refused_0 (is_too_large size) _ _ (refused_not_refused_0 3 s order (λ e. omega arith))
    (pick_not_refused_0 (is_long size) _ _ (long_taken_not_refused_0 (run_length size) s order (lowest_run (run_length size) s))
    (taken_not_refused_0 i (class_of size) s order (fullest i (class_of size) s) (other_places (class_of size) s))))

free_not_refused_0 : (s : State) (order : List ℕ) (i a : ℕ) → NotRefused0 (free_unchecked s order i a)
unfolding free_unchecked freed_at long_freed_at small_freed_at
free_not_refused_0 s order i a =
    pick_not_refused_0 (not (is_processor s i)) _ _ (refused_not_refused_0 2 s order (λ e. omega arith))
    (pick_not_refused_0 (is_unmapped s a) _ _ (refused_not_refused_0 5 s order (λ e. omega arith))
    (pick_not_refused_0 (is_misaligned s a) _ _ (refused_not_refused_0 6 s order (λ e. omega arith))
    (pick_not_refused_0 (not (is_live_at s a)) _ _ (refused_not_refused_0 7 s order (λ e. omega arith))
    (pick_not_refused_0 (is_in_run s a) _ _ (moves_not_refused_0 _) (moves_not_refused_0 _)))))

drop_not_refused_0 : (s : State) (order : List ℕ) (i : ℕ) (addresses : List ℕ) → NotRefused0 (drop_unchecked s order i addresses)
unfolding drop_unchecked dropped_all
drop_not_refused_0 s order i addresses =
    pick_not_refused_0 (not (is_processor s i)) _ _ (refused_not_refused_0 2 s order (λ e. omega arith))
    (pick_not_refused_0 (eqb (length addresses) 0) _ _ (refused_not_refused_0 16 s order (λ e. omega arith))
    (go (eqb (first_address_refusal s addresses) 0) refl))
  where
    go : (t : Bool) → eqb (first_address_refusal s addresses) 0 ≡ t
        → NotRefused0 (pick t (dropped_all s order addresses) (refused (first_address_refusal s addresses) s order))
    go true e = moves_not_refused_0 _
    go false e = refused_not_refused_0 (first_address_refusal s addresses) s order (eqb-false (first_address_refusal s addresses) 0 e)

unchecked_not_refused_0 : (s : State) (order : List ℕ) (call : Call) → NotRefused0 (call_unchecked s order call)
unfolding call_unchecked named_take_unchecked with_name_bound named_free_unchecked
unchecked_not_refused_0 s order (Take i size) = take_not_refused_0 s order i size
unchecked_not_refused_0 s order (Free i a) = free_not_refused_0 s order i a
unchecked_not_refused_0 s order (NamedTake i m size) =
    pick_not_refused_0 (not (is_processor s i)) _ _ (refused_not_refused_0 2 s order (λ e. omega arith))
    (pick_not_refused_0 (is_unavailable s m) _ _ (refused_not_refused_0 14 s order (λ e. omega arith)) (take_not_refused_0 s order i size))
unchecked_not_refused_0 s order (NamedFree i m) =
    pick_not_refused_0 (not (is_processor s i)) _ _ (refused_not_refused_0 2 s order (λ e. omega arith))
    (pick_not_refused_0 (not (is_held s.names m)) _ _ (refused_not_refused_0 15 s order (λ e. omega arith)) (free_not_refused_0 s order i (held_address s m)))
unchecked_not_refused_0 s order (Drop i addresses) = drop_not_refused_0 s order i addresses

call_not_refused_0 : (s : State) (order : List ℕ) (call : Call) → NotRefused0 (call_of s order call)
call_not_refused_0 s order call =
    rw (call_of_checks_first s order call) (checked_not_refused_0 s order (call_unchecked s order call) (unchecked_not_refused_0 s order call))

-- so a refused call is not accepted
refused_passes_if_accepted : (x : After) (r : ℕ) (s : State) (order : List ℕ) → x ≡ refused r s order → NotRefused0 x
    → PassesIfAccepted x.answer.outcome x.answer.state x.order
unfolding number_of
refused_passes_if_accepted x r s order e n z =
    absurd (n (ap (λ (y : After). y.answer.outcome) e ∙ ap Refused (sym (ap (λ (y : After). number_of y.answer.outcome) e) ∙ z)))

passes_true_of_passed : (s : State) (order : List ℕ) → Passed s order → passes s order ≡ true
passes_true_of_passed s order p =
    true_of_T (passes s order) (passes_of_sound s order p.sound p.names p.totals (ranks_valid_of_sound s p.ranks) p.runs)

-- ---- the calls
-- a call that is refused, or leaves a state that passes
abbrev RefusedOrPassed : State → List ℕ → After → Type 0
RefusedOrPassed s order x = ((r : ℕ) × (x ≡ refused r s order)) ⊎ Passed x.answer.state x.order

call_refused_or_passed : (s : State) (order : List ℕ) (call : Call) → Shape s → RefusedOrPassed s order (call_of s order call)
unfolding call_of
call_refused_or_passed s order (Take i size) shape =
    ⊎_elim inl (λ h. inr (⊎_elim (λ a. take_passed s order i size a.0 shape a.1) (λ a. long_take_passed s order i size a.0 shape a.1) h))
    (take_refused_or_accepted s order i size)
call_refused_or_passed s order (Free i a) shape = ⊎_elim inl (λ h. inr (⊎_elim (free_passed s order i a shape) (long_free_passed s order i a shape) h))
    (free_refused_or_accepted s order i a)
call_refused_or_passed s order (NamedTake i m size) shape =
    ⊎_elim inl (λ h. inr (⊎_elim (λ a. named_take_passed s order i m size a.0 shape a.1)
    (λ a. named_long_take_passed s order i m size a.0 shape a.1) h)) (named_take_refused_or_accepted s order i m size)
call_refused_or_passed s order (NamedFree i m) shape =
    ⊎_elim inl (λ h. inr (⊎_elim (named_free_passed s order i m shape) (named_long_free_passed s order i m shape) h))
    (named_free_refused_or_accepted s order i m)
call_refused_or_passed s order (Drop i addresses) shape = ⊎_elim inl (λ h. inr (drop_passed s order i addresses shape h))
    (drop_refused_or_accepted s order i addresses)

pub call_passes_if_accepted : (s : State) (order : List ℕ) (call : Call) → Shape s → PassesIfAccepted (call_of s order call).answer.outcome
    (call_of s order call).answer.state (call_of s order call).order
call_passes_if_accepted s order call shape = go (call_refused_or_passed s order call shape)
  where
    go : RefusedOrPassed s order (call_of s order call) → PassesIfAccepted (call_of s order call).answer.outcome (call_of s order call).answer.state
        (call_of s order call).order
    go (inl (r, e)) = refused_passes_if_accepted (call_of s order call) r s order e (call_not_refused_0 s order call)
    go (inr passed) = λ z. passes_true_of_passed _ _ passed

-- ---- "at most q": a refused call and a take report no moves, a free at most q, and a drop at most q for each address
refused_moves_at_most : (most : ℕ) (x : After) (r : ℕ) (s : State) (order : List ℕ) → x ≡ refused r s order → MovesAtMost most x.answer.outcome
refused_moves_at_most most x r s order e = moves_at_most_of_refusal most r x.answer.outcome (ap (λ (y : After). y.answer.outcome) e)

module _ (s : State) (order : List ℕ) (i : ℕ) (shape : Shape s) where
  take_moves_at_most : (most size : ℕ) → MovesAtMost most (take_of s order i size).answer.outcome
  take_moves_at_most most size =
      ⊎_elim (λ h. refused_moves_at_most most _ h.0 s order h.1)
      (⊎_elim (λ h. moves_at_most_of_address most _ _ (take_address s order i size h.0 shape h.1))
      (λ h. moves_at_most_of_address most _ _ (long_take_address s order i size h.0 shape h.1)))
      (take_refused_or_accepted s order i size)

  named_take_moves_at_most : (most m size : ℕ) → MovesAtMost most (named_take_of s order i m size).answer.outcome
  named_take_moves_at_most most m size =
      ⊎_elim (λ h. refused_moves_at_most most _ h.0 s order h.1)
      (⊎_elim (λ h. moves_at_most_of_address most _ _ (named_take_address s order i m size h.0 shape h.1))
      (λ h. moves_at_most_of_address most _ _ (named_long_take_address s order i m size h.0 shape h.1)))
      (named_take_refused_or_accepted s order i m size)

  -- "no free changes the owner of more than q superblocks", and a long block's free line "has moved 0" (document 02, item 7)
  free_moves_at_most : (a : ℕ) → MovesAtMost s.setup.q (free_of s order i a).answer.outcome
  free_moves_at_most a =
      ⊎_elim (λ h. refused_moves_at_most _ _ h.0 s order h.1)
      (⊎_elim (λ acc. moves_at_most_of_moves _ _ _ (free_outcome s order i a shape acc) (free_effect s order i a shape acc).moves_le_q)
      (λ acc. moves_at_most_of_moves _ 0 _ (long_free_outcome s order i a shape acc) zero-le))
      (free_refused_or_accepted s order i a)

  -- a named free reports what the free of the held address does
  named_free_moves_at_most : (m : ℕ) → MovesAtMost s.setup.q (named_free_of s order i m).answer.outcome
  named_free_moves_at_most m =
      ⊎_elim (λ h. refused_moves_at_most _ _ h.0 s order h.1) (⊎_elim (λ acc. plain acc.result_is) (λ acc. plain acc.result_is))
      (named_free_refused_or_accepted s order i m)
    where
      plain : named_free_of s order i m ≡ free_of s order i (held_address s m) → MovesAtMost s.setup.q (named_free_of s order i m).answer.outcome
      plain e = subst (λ (x : After). MovesAtMost s.setup.q x.answer.outcome) (sym e) (free_moves_at_most (held_address s m))

  -- "a drop moves at most q superblocks for each address" (item 5)
  drop_moves_at_most : (addresses : List ℕ) → MovesAtMost (s.setup.q * length addresses) (drop_of s order i addresses).answer.outcome
  drop_moves_at_most addresses =
      ⊎_elim (λ h. refused_moves_at_most _ _ h.0 s order h.1)
      (λ acc. moves_at_most_of_moves _ _ _ (drop_outcome s order i addresses shape acc) (drop_effect s order i addresses shape acc).moves_bound)
      (drop_refused_or_accepted s order i addresses)

pub call_moves_at_most : (s : State) (order : List ℕ) (call : Call) → Shape s
    → MovesAtMost (most_moves s.setup.q call) (call_of s order call).answer.outcome
unfolding most_moves call_of
call_moves_at_most s order (Take i size) shape = take_moves_at_most s order i shape 0 size
call_moves_at_most s order (Free i a) shape = free_moves_at_most s order i shape a
call_moves_at_most s order (NamedTake i m size) shape = named_take_moves_at_most s order i shape 0 m size
call_moves_at_most s order (NamedFree i m) shape = named_free_moves_at_most s order i shape m
call_moves_at_most s order (Drop i addresses) shape = drop_moves_at_most s order i shape addresses

-- ---- a setup, by its two tests
abbrev setup_by_tests : Setup → List ℕ → Bool → Bool → After
setup_by_tests u order a b = pick a (pick b (accepted_setup u order) (refused 12 no_state order)) (refused 1 no_state order)

pub setup_passes_if_accepted : (u : Setup) (order : List ℕ) → PassesIfAccepted (setup_of u order).answer.outcome (setup_of u order).answer.state
    (setup_of u order).order
unfolding setup_of number_of
setup_passes_if_accepted u order = go (within_limits u) (leb (u.superblocks * 256) (length order)) refl
  where
    go : (a b : Bool) → within_limits u ≡ a → PassesIfAccepted (setup_by_tests u order a b).answer.outcome (setup_by_tests u order a b).answer.state
        (setup_by_tests u order a b).order
    go true true e z = true_of_T (passes (new_state u) (cleared order (u.superblocks * 256)))
        (passes_of_sound (new_state u) _ (new_state_sound u _ (T_of_true (within_limits u) e)) (new_state_names_valid u) (new_state_totals_kept u)
        (ranks_valid_of_sound (new_state u) (new_state_ranks_sound u))
        (runs_valid_of_sound (new_state u) (new_state_shape u).length_is (new_state_runs_sound u)))
    go true false e z = absurd (omega (arith, z))
    go false b e z = absurd (omega (arith, z))
