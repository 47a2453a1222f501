-- A drop behind the check, in the forms that the code's proofs ask. Assumes nothing.
use mathlib.Core.Path.{◌≡◌, refl, sym, ap, ◌∙◌}
use mathlib.Core.Bool.{Bool, true, false, not}
use mathlib.Core.List.{List}
use Prim.Native.Nat.{ℕ, ◌≤◌}
use native.Mathlib.Omega.{arith}
use lib.ListN.{length}
use lib.Dec.{eqb}
use Rattle.base_laws.specs.Sums.{pick}
use Rattle.base_laws.proofs.TestLaws.{T_of_true}
use Rattle.heap_rules.specs.declared.Setup.{Setup}
use Rattle.heap_rules.specs.declared.State.{State}
use Rattle.heap_rules.specs.declared.Moved.{Moved}
use Rattle.heap_rules.specs.Totals.{TotalsKept}
use Rattle.check_rules.specs.Check.{passes}
use Rattle.check_rules.proofs.ClauseLaws.{rest_of_passes}
use Rattle.heap_laws.proofs.StateFacts.{Shape, Sound}
use Rattle.heap_laws.proofs.StateCheckLaws.{sound_of_passes, totals_kept_of_passes, runs_valid_of_rest}
use Rattle.heap_laws.proofs.RunLaws.{runs_sound_of_valid}
use Rattle.call_laws.proofs.AllFreedLaws.{run_fits}
use Rattle.call_drop_addresses.specs.TestedTable.{RunsFit}
use Rattle.call_rules.specs.declared.Outcome.TheVariants.{Moves}
use Rattle.call_rules.specs.Answers.{After, refused, is_processor}
use Rattle.call_rules.specs.DropLoops.{heaps_restored}
use Rattle.call_rules.proofs.TouchedPairLaws.{drop_moves_by_heaps}
use Rattle.call_rules.specs.Drop.{all_freed, all_pushed, first_address_refusal, is_touched, drop_moves, dropped_all, drop_unchecked}
use Rattle.call_outcomes.proofs.CallTestLaws.{tested}
use Rattle.call_drop.specs.DropRefusal.{drop_refusal}
use Rattle.call_drop.specs.DropSteps.{FreesSafe, touched_in, TellsTouched}
use Rattle.call_drop.proofs.FreesLaws.{all_freed_keeps_setup, all_freed_keeps_totals}
use Rattle.call_drop.proofs.RestoreLaws.{heaps_restored_cong}
use Rattle.call_drop.proofs.FreesSafeLaws.{frees_safe_of_passes}

-- ---- its ways out
pub drop_unchecked_by_test : (s : State) (order : List ℕ) (i : ℕ) (addresses : List ℕ)
    → tested (drop_refusal s i addresses) s order (dropped_all s order addresses) ≡ drop_unchecked s order i addresses
unfolding drop_refusal drop_unchecked
drop_unchecked_by_test s order i addresses = go (is_processor s i) (eqb (length addresses) 0) (dropped_all s order addresses)
  where
    go : (a b : Bool) (next : After) → tested (pick a (pick b 16 (first_address_refusal s addresses)) 2) s order next
        ≡ pick (not a) (refused 2 s order) (pick b (refused 16 s order)
        (pick (eqb (first_address_refusal s addresses) 0) next (refused (first_address_refusal s addresses) s order)))
    go true true next = refl
    go true false next = refl
    go false b next = refl

no_bad_address : (s : State) (i : ℕ) (addresses : List ℕ) → 0 ≡ drop_refusal s i addresses → first_address_refusal s addresses ≡ 0
unfolding drop_refusal
no_bad_address s i addresses = go (is_processor s i) (eqb (length addresses) 0)
  where
    go : (a b : Bool) → 0 ≡ pick a (pick b 16 (first_address_refusal s addresses)) 2 → first_address_refusal s addresses ≡ 0
    go true false z = sym z
    go true true z = absurd (omega arith)
    go false b z = absurd (omega arith)

-- ---- what the check tells of the state
module _ (s : State) (order : List ℕ) (p : passes s order ≡ true) where
  sound : Sound s order
  sound = sound_of_passes s order (T_of_true _ p)

  pub addresses_can_be_tested : Shape s → (s.setup.superblocks ≤ 64) × RunsFit s.table
  addresses_can_be_tested shape = (
    sound.numbers.superblocks_high,
    λ m l. run_fits s m (runs_sound_of_valid s shape.length_is (runs_valid_of_rest s order (rest_of_passes s order (T_of_true _ p)))) l,
  )

  pub blocks_can_be_dropped : (i : ℕ) (addresses : List ℕ) → Shape s → 0 ≡ drop_refusal s i addresses → FreesSafe s addresses
      × TotalsKept s × (s.setup.processors ≤ 8)
  blocks_can_be_dropped i addresses shape z = (
    frees_safe_of_passes s order addresses shape p (no_bad_address s i addresses z),
    totals_kept_of_passes s order (T_of_true _ p),
    sound.numbers.processors_high,
  )

-- ---- an accepted drop, step by step
pub moves_can_be_made : (s t : State) (addresses : List ℕ) → t ≡ all_freed s addresses → TotalsKept s → s.setup.processors ≤ 8 → TotalsKept t
    × (t.setup.processors ≤ 8)
moves_can_be_made s t addresses e kept few = rw e (all_freed_keeps_totals s addresses kept, rw (all_freed_keeps_setup s addresses) few)

-- the moves that the code makes are the drop's
drop_moves_by_steps : (s : State) (addresses : List ℕ) (touched : List (List Bool)) (t : State) (m : Moved) → s.setup.processors ≤ 8
    → TellsTouched touched s addresses → t ≡ all_freed s addresses
    → m ≡ heaps_restored (touched_in touched) t.setup.processors (record { moves = 0; state = t }) → m ≡ drop_moves s addresses
drop_moves_by_steps s addresses touched t m few tells freed moved =
    moved ∙ ap (λ (x : State). heaps_restored (touched_in touched) x.setup.processors (record { moves = 0; state = x })) freed
    ∙ ap (λ (u : Setup). heaps_restored (touched_in touched) u.processors (record { moves = 0; state = all_freed s addresses }))
    (all_freed_keeps_setup s addresses)
    ∙ heaps_restored_cong (is_touched s addresses) (touched_in touched) s.setup.processors (record { moves = 0; state = all_freed s addresses })
    (λ h c l lc. tells h c (omega arith) lc)
    ∙ sym (drop_moves_by_heaps s addresses)

pub dropped_all_by_steps : (s : State) (order addresses : List ℕ) (touched : List (List Bool)) (t : State) (new : List ℕ) (m : Moved) → s.setup.processors ≤ 8
    → TellsTouched touched s addresses
    → (t ≡ all_freed s addresses) × (new ≡ all_pushed s order addresses) → m ≡ heaps_restored (touched_in touched) t.setup.processors
    (record { moves = 0; state = t })
    → record { answer = record { outcome = Moves m.moves; state = m.state }; order = new } ≡ dropped_all s order addresses
unfolding dropped_all
dropped_all_by_steps s order addresses touched t new m few tells freed moved =
    rw (drop_moves_by_steps s addresses touched t m few tells freed.0 moved, freed.1)
