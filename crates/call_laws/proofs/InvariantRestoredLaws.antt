-- The move rule followed to its end for one heap and class, after blocks of it were freed: what becomes of the state. Assumes nothing.
use mathlib.Core.Path.{◌≡◌, refl, sym, subst}
use mathlib.Core.Bool.{Bool, true, false}
use mathlib.Core.List.{List}
use Prim.Native.Nat.{ℕ, ◌*◌, ◌≤◌, ◌<◌, zero-le}
use native.Mathlib.Nat.{pos_of_ne-zero}
use native.Mathlib.Omega.{arith}
use borrow.Author.Tests.{eqb-true, eqb-false}
use lib.ListN.{length}
use lib.Dec.{eqb}
use Rattle.base_laws.specs.Sums.{pick}
use Rattle.class_rules.specs.Classes.{class_count}
use Rattle.heap_rules.specs.declared.Setup.{Setup}
use Rattle.heap_rules.specs.declared.State.{State}
use Rattle.heap_rules.specs.declared.Moved.{Moved}
use Rattle.heap_rules.specs.Table.{run_owner}
use Rattle.heap_rules.specs.Counts.{owners_changed}
use Rattle.move_rules.specs.Moves.{excess_transferred, invariant_restored}
use Rattle.heap_laws.proofs.StateFacts.{Shape, WithinLimits, InvariantBeforeFrees, TransferredFrom}
use Rattle.heap_laws.proofs.MoveLaws.{transferred_from_self, owners_changed_self, condition_fails_of_not_must_move, excess_transferred_from}
use Rattle.heap_laws.proofs.MoveLaws.{moves_le_q_times_freed, owners_changed_is_moves, not_must_move_after_excess_transferred}
use Rattle.heap_laws.proofs.RunsKeptLaws.{runs_valid_of_kept}
use Rattle.call_laws.proofs.CallEffects.{PassedAfterFrees}
use Rattle.call_laws.proofs.TransferredLaws.{none_freed, transferred_shape, sound_after_transfers, runs_kept_by_transfers}
use Rattle.call_laws.proofs.TransferredLaws.{names_valid_after_transfers, ranks_sound_after_transfers}

-- the move rule followed to its end, for heap h and class c, so many blocks of which were freed, from state s
pub record InvariantRestored (h c freed : ℕ) (s : State) (m : Moved) : Type 0 where
  pub from : TransferredFrom h c s m.state
  pub moves_bound : m.moves ≤ s.setup.q * freed
  pub changed : owners_changed s m.state ≡ m.moves
  pub invariant : 1 ≤ h → InvariantBeforeFrees 0 h c m.state

-- "If the owner is heap 0 the call ends."
invariant_restored_of_heap_0 : (h c freed : ℕ) (s : State) → length s.table ≡ 64 → h ≡ 0 → InvariantRestored h c freed s (record { moves = 0; state = s })
invariant_restored_of_heap_0 h c freed s long e =
    record {
      from = transferred_from_self h c s long;
      moves_bound = zero-le;
      changed = owners_changed_self s;
      invariant = λ pos. absurd (let z : ⊥ = omega arith in z);
    }

module _ (h c freed : ℕ) (s : State) (long : length s.table ≡ 64) (numbers : WithinLimits s.setup) (low : h < run_owner)
    (before : 1 ≤ h → InvariantBeforeFrees freed h c s) where
  invariant_restored_of_moves : 0 < h → InvariantRestored h c freed s (excess_transferred h c s)
  invariant_restored_of_moves pos =
      record {
        from = excess_transferred_from h c freed s long numbers pos low (before pos);
        moves_bound = moves_le_q_times_freed h c freed s long numbers pos low (before pos);
        changed = owners_changed_is_moves h c freed s long numbers pos low (before pos);
        invariant = λ p. condition_fails_of_not_must_move h c (excess_transferred h c s).state
            (not_must_move_after_excess_transferred h c freed s long numbers pos low (before pos));
      }

  pub invariant_restored_lem : InvariantRestored h c freed s (invariant_restored h c s)
  unfolding invariant_restored
  invariant_restored_lem = go (eqb h 0) refl
    where
      go : (t : Bool) → eqb h 0 ≡ t → InvariantRestored h c freed s (pick t (record { moves = 0; state = s }) (excess_transferred h c s))
      go true e = invariant_restored_of_heap_0 h c freed s long (eqb-true h 0 e)
      go false e = invariant_restored_of_moves (pos_of_ne-zero (eqb-false h 0 e))

-- from a state that passed before these frees, heap h and class c being one of its own
module _ (freed : ℕ → ℕ → ℕ) (s : State) (order : List ℕ) (shape : Shape s) (passed : PassedAfterFrees freed s order) (h c : ℕ)
    (high : h ≤ s.setup.processors) (known : c < class_count) where
  low : h < run_owner
  low = let p = passed.sound.numbers.processors_high in omega arith

  pub restored_facts : InvariantRestored h c (freed h c) s (invariant_restored h c s)
  restored_facts = invariant_restored_lem h c (freed h c) s shape.length_is passed.sound.numbers low (λ pos. passed.sound.invariant h c pos high known)

  pub restored_shape : Shape (invariant_restored h c s).state
  restored_shape = transferred_shape h c s (invariant_restored h c s).state restored_facts.from passed.totals shape

  -- none of its frees is left to follow up
  pub restored_passed : PassedAfterFrees (none_freed h c freed) (invariant_restored h c s).state order
  restored_passed =
      let from = restored_facts.from in
      record {
        sound = sound_after_transfers h c s (invariant_restored h c s).state from freed order low passed.sound restored_facts.invariant;
        names = names_valid_after_transfers h c s (invariant_restored h c s).state from shape.length_is low passed.names;
        totals = from.totals passed.totals;
        ranks = ranks_sound_after_transfers h c s (invariant_restored h c s).state from passed.ranks;
        runs = runs_valid_of_kept s (invariant_restored h c s).state shape.length_is from.length_is
            (runs_kept_by_transfers h c s (invariant_restored h c s).state from low) passed.runs;
        room = subst (λ (u : Setup). u.superblocks * 256 ≤ length order) (sym from.setup) passed.room;
      }
