-- A free behind the check, in the forms that the code's proofs ask. Assumes nothing.
use mathlib.Core.Path.{◌≡◌, refl, sym, ◌∙◌}
use mathlib.Core.Bool.{Bool, true, false, not}
use mathlib.Core.List.{List}
use Prim.Native.Nat.{ℕ, ◌+◌, ◌≤◌, ◌<◌}
use native.Mathlib.Omega.{arith}
use lib.Dec.{eqb}
use Rattle.base_laws.specs.Sums.{pick}
use Rattle.base_laws.proofs.TestLaws.{T_of_true}
use Rattle.class_rules.specs.Classes.{class_count}
use Rattle.heap_rules.specs.declared.State.{State}
use Rattle.heap_rules.specs.declared.Moved.{Moved}
use Rattle.heap_rules.specs.Table.{run_owner, superblock_at}
use Rattle.heap_rules.specs.Totals.{heap_count, TotalsKept}
use Rattle.heap_rules.specs.Ranks.{RanksFit}
use Rattle.move_rules.specs.Moves.{invariant_restored}
use Rattle.check_rules.specs.Check.{passes}
use Rattle.check_rules.proofs.ClauseLaws.{rest_of_passes}
use Rattle.heap_laws.proofs.StateFacts.{Shape, Sound, RunsSound}
use Rattle.heap_laws.proofs.StateCheckLaws.{sound_of_passes, totals_kept_of_passes, runs_valid_of_rest}
use Rattle.heap_laws.proofs.RunLaws.{runs_sound_of_valid}
use Rattle.heap_laws.proofs.RunsKeptLaws.{outside_run_of_owner, of_run_of_owner}
use Rattle.heap_laws.proofs.RankLaws.{ranks_fit_of_passes}
use Rattle.call_rules.specs.declared.Outcome.TheVariants.{Moves}
use Rattle.call_rules.specs.Answers.{refused, is_processor}
use Rattle.call_rules.specs.Free.{superblock_index, superblock_holding, is_unmapped, is_in_run, address_refusal, order_pushed, block_freed, small_freed_at}
use Rattle.call_rules.specs.Free.{long_freed_at, freed_at, free_unchecked}
use Rattle.call_laws.proofs.AddressLaws.{mapped_below_64, mapped_is_owned}
use Rattle.call_laws.proofs.AllFreedLaws.{run_fits}
use Rattle.call_laws.proofs.AddressFreedLaws.{block_freed_outside_run, block_freed_in_run, order_pushed_outside_run, order_pushed_in_run}
use Rattle.call_laws.proofs.TotalsKeptLaws.{block_freed_recounted}
use Rattle.call_rules.proofs.AddressRefusalLaws.{mapped_of_no_refusal, free_unchecked_by_address_refusal}
use Rattle.call_outcomes.proofs.CallTestLaws.{tested}
use Rattle.call_free.specs.FreeRefusal.{free_refusal}

-- ---- its ways out
pub free_unchecked_by_test : (s : State) (order : List ℕ) (i a : ℕ) → tested (free_refusal s i a) s order (freed_at s order a) ≡ free_unchecked s order i a
unfolding free_refusal
free_unchecked_by_test s order i a = go (is_processor s i) ∙ sym (free_unchecked_by_address_refusal s order i a)
  where
    go : (b : Bool) → tested (pick b (address_refusal s a) 2) s order (freed_at s order a)
        ≡ pick (not b) (refused 2 s order) (pick (eqb (address_refusal s a) 0) (freed_at s order a) (refused (address_refusal s a) s order))
    go true = refl
    go false = refl

no_address_refusal : (s : State) (i a : ℕ) → 0 ≡ free_refusal s i a → address_refusal s a ≡ 0
unfolding free_refusal
no_address_refusal s i a = go (is_processor s i)
  where
    go : (b : Bool) → 0 ≡ pick b (address_refusal s a) 2 → address_refusal s a ≡ 0
    go true z = sym z
    go false z = absurd (omega arith)

-- ---- what the check and the tests of the address tell of the superblock
module _ (s : State) (order : List ℕ) (i a : ℕ) (p : passes s order ≡ true) (z : 0 ≡ free_refusal s i a) where
  sound : Sound s order
  sound = sound_of_passes s order (T_of_true _ p)

  mapped : is_unmapped s a ≡ false
  mapped = mapped_of_no_refusal s a (no_address_refusal s i a z)

  module _ (shape : Shape s) where
    runs : RunsSound s
    runs = runs_sound_of_valid s shape.length_is (runs_valid_of_rest s order (rest_of_passes s order (T_of_true _ p)))

    pub freed_superblock : (superblock_index a < 64)
        × (superblock_index a + (superblock_holding s a).run ≤ 64)
        × (is_in_run s a ≡ false → ((superblock_holding s a).owner < heap_count) × ((superblock_holding s a).class < class_count))
        × TotalsKept s
        × RanksFit s
    freed_superblock = (
      mapped_below_64 s order a sound mapped,
      run_fits s (superblock_index a) runs (mapped_below_64 s order a sound mapped),
      λ outside. let o = mapped_is_owned s order a sound mapped outside in (omega (arith, o.owner, sound.numbers.processors_high), o.class),
      totals_kept_of_passes s order (T_of_true _ p),
      ranks_fit_of_passes s order (T_of_true _ p),
    )

-- so, of its owner and class, where the owner is not that of a run
module _ (s : State) (a k : ℕ) (e : k ≡ superblock_index a) (other : (superblock_at s k).owner ≡ run_owner → ⊥)
    (of_heap : is_in_run s a ≡ false → ((superblock_holding s a).owner < heap_count) × ((superblock_holding s a).class < class_count)) where
  pub freed_heap_and_class : ((superblock_at s k).owner < heap_count) × ((superblock_at s k).class < class_count)
  freed_heap_and_class = rw e (of_heap (outside_run_of_owner (superblock_holding s a) (rw e at other)))

-- the totals of the state in which the block is free are the recount too
pub block_freed_totals_kept : (s t : State) (a : ℕ) → TotalsKept s → t ≡ block_freed s a → TotalsKept t
block_freed_totals_kept s t a kept e = rw e (block_freed_recounted s a kept)

module _ (s : State) (order new : List ℕ) (a k : ℕ) (e : k ≡ superblock_index a) (t : State) (g : new ≡ order_pushed s order a)
    (h : t ≡ block_freed s a) where
  -- of a run
  pub freed_at_of_run : (superblock_at s k).owner ≡ run_owner → record { answer = record { outcome = Moves 0; state = t }; order = new } ≡ freed_at s order a
  unfolding freed_at long_freed_at
  freed_at_of_run q =
      let inside = of_run_of_owner (superblock_holding s a) (rw e at q) in
      rw (h, g, block_freed_in_run s a inside, order_pushed_in_run s a order inside, inside)

  -- of a block of a class, with the moves
  pub freed_at_by_steps : (m : Moved) → ((superblock_at s k).owner ≡ run_owner → ⊥)
      → m ≡ invariant_restored (superblock_at s k).owner (superblock_at s k).class t
      → record { answer = record { outcome = Moves m.moves; state = m.state }; order = new } ≡ freed_at s order a
  unfolding freed_at small_freed_at
  freed_at_by_steps m other i =
      let outside = outside_run_of_owner (superblock_holding s a) (rw e at other) in
      rw (i, e, h, g, block_freed_outside_run s a outside, order_pushed_outside_run s a order outside, outside)
