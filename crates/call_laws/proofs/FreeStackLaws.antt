-- "Its first n - live places hold the free blocks, last in first out": a superblock's free blocks as a stack. A free pushes its block, a drop each of
-- its blocks in the order written, a take takes the block on top, a renewal rewrites the order places, moves leave every stack. A long block has no place in
-- a stack: its free leaves them all, and its take those outside its run. Assumes nothing.
use Rattle.std.specs.Prelude.{Option, Some, None}
use mathlib.Core.Path.{◌≡◌, refl, sym, ap, ap₂, ◌∙◌, subst}
use mathlib.Core.Bool.{Bool, true, false, not}
use mathlib.Core.Logic.{◌⊎◌, inl, inr, ⊎_elim}
use mathlib.Core.List.{List, [], ◌∷◌, ◌++◌}
use Prim.Native.Nat.{ℕ, zero, suc, ◌+◌, ◌-◌, ◌*◌, ◌/◌, ◌≤◌, ◌<◌}
use native.Mathlib.Decide.{ℕ_discrete, dec_lt}
use native.Mathlib.Omega.{arith}
use borrow.Author.Tests.{eqb-true, eqb-false, eq-eqb, ne_eqb}
use lib.ListN.{length, get_or}
use lib.Seq.{get_or-set_same, get_or-set_other, set_out}
use lib.Dec.{T, eqb}
use Rattle.base_laws.specs.Sums.{pick, both}
use Rattle.class_rules.specs.Classes.{size_of, blocks_of, class_of, run_length}
use Rattle.class_rules.proofs.ClassTableLaws.{blocks_of_le_256, blocks_of_pos}
use Rattle.class_rules.proofs.ClassLaws.{class_of_lt_27}
use Rattle.marks_rules.specs.Marks.{live_count, without_mark}
use Rattle.marks_laws.proofs.MarkLaws.{live_count_without_mark, live_count_of_no_marks}
use Rattle.names_rules.specs.Names.{is_held}
use Rattle.order_rules.specs.Order.{place, last_filled, with_place, renewed}
use Rattle.order_laws.proofs.OrderLaws.{last_filled_is_place, renewed_place, renewed_other_superblock, with_place_same, with_place_other_place}
use Rattle.order_laws.proofs.OrderLaws.{with_place_other_superblock}
use Rattle.filled_rules.proofs.PlacesValidLaws.{last_filled_of_renewed_is_0}
use Rattle.heap_rules.specs.declared.Superblock.{Superblock}
use Rattle.heap_rules.specs.declared.State.{State}
use Rattle.heap_rules.specs.Table.{run_owner, unused_owner, blank, unused, superblock_at, live_in, is_of_run, with_owner, without_mark_at}
use Rattle.heap_rules.specs.Ranks.{rank_after_free, reranked, ranked_latest, unranked}
use Rattle.base_laws.proofs.ListedLaws.{length_listed}
use Rattle.heap_laws.proofs.RerankedLaws.{reranked_class, reranked_live, reranked_keeps}
use Rattle.heap_rules.specs.States.{with_superblock, with_names}
use Rattle.choice_rules.specs.Choice.{fullest}
use Rattle.move_rules.specs.Moves.{transferred, found_transferred, invariant_restored}
use Rattle.heap_laws.proofs.MovesKeepLaws.{invariant_restored_keeps}
use Rattle.heap_laws.proofs.StateFacts.{Shape}
use Rattle.heap_laws.proofs.StateCheckLaws.{live_le_blocks_of_owned, unowned_of_owner}
use Rattle.heap_laws.proofs.RunsKeptLaws.{owner_of_run}
use Rattle.heap_laws.proofs.RunLaws.{Outside, side_of_range, outside_not_inside}
use Rattle.heap_laws.proofs.ChoiceLaws.{best_of_fullest, facts_of_has_free}
use Rattle.heap_laws.proofs.CountLaws.{superblock_at_replaced, superblock_at_others}
use Rattle.call_rules.specs.declared.Outcome.TheVariants.{Address}
use Rattle.call_rules.specs.Answers.{After, refused}
use Rattle.call_rules.specs.Take.{other_places, renewed_for, acquired, acquired_order, unranked_if_empty, address_of, taken_from, taken_from_other, take_of}
use Rattle.call_rules.specs.Free.{superblock_index, offset_of, superblock_holding, block_of, is_in_run, address_refusal, mark_cleared, block_pushed}
use Rattle.call_rules.specs.Free.{order_pushed}
use Rattle.call_rules.specs.Free.{small_block_freed, long_block_freed, block_freed, small_freed_at, long_freed_at, free_of}
use Rattle.call_rules.proofs.TouchedPairLaws.{drop_moves_by_heaps}
use Rattle.call_rules.specs.Drop.{all_freed, all_pushed, first_address_refusal, is_touched, then_restored, drop_moves, dropped_all, drop_of}
use Rattle.call_rules.specs.Named.{is_unavailable, with_name_bound, named_take_of, held_address, named_free_of}
use Rattle.call_rules.specs.Calls.{Call, Take, Free, NamedTake, NamedFree, Drop, call_of}
use Rattle.call_laws.proofs.NamedCallLaws.{named_take_refused_or_accepted, named_take_state, named_take_order, named_take_shape}
use Rattle.call_laws.proofs.NamedCallLaws.{named_free_refused_or_accepted}
use Rattle.call_laws.proofs.CallEffects.{PassedAfterFrees, LongFreeEffect, TakeAccepted, LongTakeAccepted, FreeAccepted, LongFreeAccepted}
use Rattle.call_laws.proofs.CallEffects.{NamedTakeAccepted, NamedLongTakeAccepted, NamedFreeAccepted, NamedLongFreeAccepted}
use Rattle.call_laws.proofs.TakeSourceLaws.{last_block_of, taken_with, taken_from_is_taken_with, taken_from_other_is_taken_with}
use Rattle.call_laws.proofs.TakeLaws.{take_refused_or_accepted, take_effect, take_shape, take_passed}
use Rattle.call_laws.proofs.RunTakenLaws.{long_take_order, long_take_effect, long_take_shape}
use Rattle.call_laws.proofs.NamedLongTakeLaws.{named_long_take_state, named_long_take_order, named_long_take_shape}
use Rattle.call_laws.proofs.FreeLaws.{free_refused_or_accepted, no_refusal_of_accepted_address, free_address, free_effect, free_shape}
use Rattle.call_laws.proofs.FreeLaws.{long_free_effect, long_free_order, long_free_shape}
use Rattle.call_laws.proofs.TransferredLaws.{passed_after_no_frees}
use Rattle.call_laws.proofs.BlockFreedLaws.{freed_address, freed_superblock_lt_64, freed_superblock_owner_le, small_block_freed_effect}
use Rattle.call_laws.proofs.RunFreedLaws.{long_block_freed_class, long_block_freed_effect}
use Rattle.call_laws.proofs.AddressFreedLaws.{OwnersKeptOrRunFreed, address_freed, owners_kept_or_run_freed_then, block_freed_outside_run}
use Rattle.call_laws.proofs.AddressFreedLaws.{block_freed_in_run, order_pushed_outside_run, order_pushed_in_run}
use Rattle.call_laws.proofs.AddressLaws.{block_at_address_same}
use Rattle.call_laws.proofs.AllFreedLaws.{first_refusal_of_cons}
use Rattle.call_laws.proofs.DropMoveLaws.{heaps_restored_keep}
use Rattle.call_laws.proofs.DropLaws.{DropAccepted, drop_refused_or_accepted, drop_effect, drop_shape}
use Rattle.call_laws.proofs.OrderWriteLaws.{NoneIn, freed_superblock_below_superblocks, filled_lt_256}
use Rattle.heap_rules.specs.Runs.{InRun}
use Rattle.call_laws.proofs.TransferredLaws.{one_more_freed}

-- ---- the stack of a superblock
-- v (m - 1), v (m - 2), .., v 0
unfoldable pub from_last : (ℕ → ℕ) → ℕ → List ℕ
from_last v zero = []
from_last v (suc m) = v m ∷ from_last v m

-- n - live
abbrev pub filled_in : Superblock → ℕ
filled_in b = blocks_of b.class - live_in b

-- the free blocks of superblock k: what its filled places hold, the last first
unfoldable pub stack_of : State → List ℕ → ℕ → List ℕ
stack_of s order k = from_last (place order k) (filled_in (superblock_at s k))

-- j, j + 1, .., m numbers
unfoldable pub ascending : ℕ → ℕ → List ℕ
ascending j zero = []
ascending j (suc m) = j ∷ ascending (suc j) m

-- no other superblock's stack changes
abbrev pub OtherStacksKept : ℕ → State → List ℕ → State → List ℕ → Type 0
OtherStacksKept k s order t places = (m : ℕ) → (m ≡ k → ⊥) → stack_of t places m ≡ stack_of s order m

-- the block at address a is pushed on its superblock's stack, from one state and storage to another
pub record BlockPushed (a : ℕ) (s : State) (order : List ℕ) (t : State) (places : List ℕ) : Type 0 where
  pub pushed : stack_of t places (superblock_index a) ≡ block_of s a ∷ stack_of s order (superblock_index a)
  pub others : OtherStacksKept (superblock_index a) s order t places

-- the free of a block of a class pushes it on its superblock's stack
abbrev pub FreePushes : State → List ℕ → ℕ → ℕ → Type 0
FreePushes s order i a = BlockPushed a s order (free_of s order i a).answer.state (free_of s order i a).order

-- the block at address a goes on the stack of superblock k, as state s tells: the address lies in k, and the block is no long one
unfoldable pub is_pushed_onto : State → ℕ → ℕ → Bool
is_pushed_onto s k a = both (eqb (superblock_index a) k) (not (is_in_run s a))

-- a stack of superblock k with the blocks of those addresses that go on it, pushed in the order written; state s tells the blocks
unfoldable pub dropped_onto : State → ℕ → List ℕ → List ℕ → List ℕ
dropped_onto s k [] stack = stack
dropped_onto s k (a ∷ addresses) stack = dropped_onto s k addresses (pick (is_pushed_onto s k a) (block_of s a ∷ stack) stack)

-- a take from superblock k answers the block on top of its stack and leaves the rest
pub record TakePops (s : State) (order : List ℕ) (i size k j : ℕ) : Type 0 where
  pub answers : (take_of s order i size).answer.outcome ≡ Address (address_of k (class_of size) j)
  pub popped : stack_of s order k ≡ j ∷ stack_of (take_of s order i size).answer.state (take_of s order i size).order k
  pub others : OtherStacksKept k s order (take_of s order i size).answer.state (take_of s order i size).order

-- a take that renews superblock k answers block 0 and leaves 1, 2, .., n - 1 from top to bottom
pub record TakeRenews (s : State) (order : List ℕ) (i size k : ℕ) : Type 0 where
  pub answers : (take_of s order i size).answer.outcome ≡ Address (address_of k (class_of size) 0)
  pub left_ascending : stack_of (take_of s order i size).answer.state (take_of s order i size).order k ≡ ascending 1 (blocks_of (class_of size) - 1)
  pub others : OtherStacksKept k s order (take_of s order i size).answer.state (take_of s order i size).order

-- "A superblock with nothing live is renewed for c when it comes from place 2, 3 or 4"
pub record RenewedByTake (s : State) (i size k : ℕ) : Type 0 where
  pub not_own : fullest i (class_of size) s ≡ None
  pub empty : live_in (superblock_at s k) ≡ 0

-- ---- stacks by places
from_last_cong : (v w : ℕ → ℕ) (m : ℕ) → ((p : ℕ) → p < m → v p ≡ w p) → from_last v m ≡ from_last w m
unfolding from_last
from_last_cong v w zero h = refl
from_last_cong v w (suc m) h = ap₂ ◌∷◌ (h m (omega arith)) (from_last_cong v w m (λ p l. h p (omega arith)))

filled_le_256 : (b : Superblock) → filled_in b ≤ 256
filled_le_256 b = omega (arith, blocks_of_le_256 b.class)

-- superblocks of one class and live count, with places that hold the same
stack_cong : (s t : State) (order places : List ℕ) (m : ℕ) → filled_in (superblock_at t m) ≡ filled_in (superblock_at s m)
    → ((p : ℕ) → p < 256 → place places m p ≡ place order m p) → stack_of t places m ≡ stack_of s order m
unfolding stack_of
stack_cong s t order places m e h =
    ap (from_last (place places m)) e
    ∙ from_last_cong (place places m) (place order m) (filled_in (superblock_at s m)) (λ p l. h p (omega (arith, filled_le_256 (superblock_at s m))))

from_last_ascending : (v : ℕ → ℕ) (n m : ℕ) → m ≤ n → ((p : ℕ) → p < m → v p ≡ n - 1 - p) → from_last v m ≡ ascending (n - m) m
unfolding from_last ascending
from_last_ascending v n zero l h = refl
from_last_ascending v n (suc m) l h =
    ap₂ ◌∷◌ (h m (omega arith) ∙ omega arith) (from_last_ascending v n m (omega arith) (λ p q. h p (omega arith)) ∙ ap (λ (j : ℕ). ascending j m) (omega arith))

-- ---- moves leave every stack
-- superblock m has the class and the marks that it had
pub record SameClassAndMarks (s t : State) (m : ℕ) : Type 0 where
  pub class : (superblock_at t m).class ≡ (superblock_at s m).class
  pub live : (superblock_at t m).live ≡ (superblock_at s m).live

transferred_same_class_and_marks : (k : ℕ) (s : State) (m : ℕ) → SameClassAndMarks s (transferred k s) m
unfolding transferred
transferred_same_class_and_marks k s m = go (ℕ_discrete m k) (dec_lt k (length s.table))
  where
    new : Superblock
    new = with_owner 0 (superblock_at s k)

    go : Dec (m ≡ k) → Dec (k < length s.table) → SameClassAndMarks s (with_superblock s k new) m
    go (no f) d = let e = get_or-set_other s.table k m new blank f in
        record { class = ap (λ (b : Superblock). b.class) e; live = ap (λ (b : Superblock). b.live) e }
    go (yes q) (yes l) =
        subst (SameClassAndMarks s (with_superblock s k new)) (sym q)
        (let e = get_or-set_same s.table k new blank l in record { class = ap (λ (b : Superblock). b.class) e; live = ap (λ (b : Superblock). b.live) e })
    go (yes q) (no f) =
        let e : (with_superblock s k new).table ≡ s.table = set_out s.table k new (omega arith) in
        record { class = ap (λ (t : List Superblock). (get_or t m blank).class) e; live = ap (λ (t : List Superblock). (get_or t m blank).live) e }

same_trans : (s t u : State) (m : ℕ) → SameClassAndMarks s t m → SameClassAndMarks t u m → SameClassAndMarks s u m
same_trans s t u m a b = record { class = b.class ∙ a.class; live = b.live ∙ a.live }

found_transferred_same_class_and_marks : (found : Option ℕ) (s : State) (m : ℕ) → SameClassAndMarks s (found_transferred found s) m
unfolding found_transferred
found_transferred_same_class_and_marks (Some k) s m = transferred_same_class_and_marks k s m
found_transferred_same_class_and_marks None s m = record { class = refl; live = refl }

-- the moves of a free change no superblock's class or marks
pub invariant_restored_same_class_and_marks : (h c : ℕ) (s : State) (m : ℕ) → SameClassAndMarks s (invariant_restored h c s).state m
invariant_restored_same_class_and_marks h c s m =
    invariant_restored_keeps (λ t. SameClassAndMarks s t m)
    (λ found t e. same_trans s t (found_transferred found t) m e (found_transferred_same_class_and_marks found t m)) h c s
    (record { class = refl; live = refl })

-- and so leave every stack, in every state
pub invariant_restored_keeps_stacks : (h c : ℕ) (s : State) (order : List ℕ) (m : ℕ) → stack_of (invariant_restored h c s).state order m ≡ stack_of s order m
invariant_restored_keeps_stacks h c s order m =
    let e = invariant_restored_same_class_and_marks h c s m in
    stack_cong s (invariant_restored h c s).state order order m (ap₂ (λ (d : ℕ) (l : List ℕ). blocks_of d - live_count l) e.class e.live) (λ p l. refl)

-- ---- a block of a class freed, in a state that passed before other frees
module _ (freed : ℕ → ℕ → ℕ) (s : State) (order : List ℕ) (a : ℕ) (shape : Shape s) (passed : PassedAfterFrees freed s order)
    (accepted : address_refusal s a ≡ 0) (small : is_in_run s a ≡ false) where
  abbrev home : ℕ
  home = superblock_index a

  abbrev filled : ℕ
  filled = filled_in (superblock_holding s a)

  home_lt_64 : home < 64
  home_lt_64 = freed_superblock_lt_64 freed s order a shape passed accepted small

  -- ranks fill and empty no place
  filled_whatever_the_ranks : (m : ℕ) → filled_in (superblock_at (small_block_freed s a) m) ≡ filled_in (superblock_at (mark_cleared s a) m)
  unfolding small_block_freed mark_cleared ranked_latest block_of
  filled_whatever_the_ranks m = go (ℕ_discrete m home)
    where
      rank : ℕ → ℕ
      rank = rank_after_free home s.table

      class_same : (superblock_at (reranked rank s) home).class ≡ (superblock_at s home).class
      class_same = reranked_class rank s shape.length_is home

      now : Superblock
      now = without_mark_at (superblock_at (reranked rank s) home) (block_of (reranked rank s) a)

      was : Superblock
      was = without_mark_at (superblock_holding s a) (block_of s a)

      same : filled_in now ≡ filled_in was
      same =
          ap₂ (λ (c : ℕ) (l : List ℕ). blocks_of c - live_count l) class_same
          (ap₂ (λ (l : List ℕ) (c : ℕ). without_mark l (offset_of a / size_of c)) (reranked_live rank s shape.length_is home) class_same)

      go : Dec (m ≡ home) → filled_in (superblock_at (with_superblock (reranked rank s) home now) m) ≡ filled_in (superblock_at (with_superblock s home was) m)
      go (yes e) =
          ap (λ (j : ℕ). filled_in (superblock_at (with_superblock (reranked rank s) home now) j)) e
          ∙ ap filled_in (superblock_at_replaced (reranked rank s) home now (length_listed _ 64) home_lt_64) ∙ same
          ∙ sym (ap filled_in (superblock_at_replaced s home was shape.length_is home_lt_64))
          ∙ ap (λ (j : ℕ). filled_in (superblock_at (with_superblock s home was) j)) (sym e)
      go (no f) =
          ap filled_in (superblock_at_others (reranked rank s) home now m f) ∙ reranked_keeps rank s shape.length_is filled_in (λ r b. refl) m
          ∙ sym (ap filled_in (superblock_at_others s home was m f))

  mark_cleared_at_home : superblock_at (mark_cleared s a) home ≡ without_mark_at (superblock_holding s a) (block_of s a)
  unfolding mark_cleared
  mark_cleared_at_home = superblock_at_replaced s home (without_mark_at (superblock_holding s a) (block_of s a)) shape.length_is home_lt_64

  one_more_place_filled : filled_in (superblock_at (small_block_freed s a) home) ≡ suc filled
  one_more_place_filled =
      let eff = small_block_freed_effect freed s order a shape passed accepted small in
      let fits = live_le_blocks_of_owned s order passed.sound home home_lt_64 eff.owned_before in
      let fewer = live_count_without_mark (superblock_holding s a).live (block_of s a) (shape.marks_length home home_lt_64)
      (omega (arith, eff.block, blocks_of_le_256 (superblock_holding s a).class)) eff.was_marked in
      filled_whatever_the_ranks home ∙ ap filled_in mark_cleared_at_home ∙ omega arith

  next_place_in_storage : home * 256 + filled < length order
  next_place_in_storage = omega (arith, freed_superblock_below_superblocks s a accepted, filled_lt_256 s a accepted small, passed.room)

  pushed_on_top : stack_of (small_block_freed s a) (block_pushed s order a) home ≡ block_of s a ∷ stack_of s order home
  unfolding stack_of block_pushed from_last
  pushed_on_top =
      ap (from_last (place (with_place order home filled (block_of s a)) home)) one_more_place_filled
      ∙ ap₂ ◌∷◌ (with_place_same order home filled (block_of s a) next_place_in_storage)
      (from_last_cong (place (with_place order home filled (block_of s a)) home) (place order home) filled
      (λ p l. with_place_other_place order home filled (block_of s a) p (λ (q : p ≡ filled). omega arith)))

  other_stacks_kept : (m : ℕ) → (m ≡ home → ⊥) → stack_of (small_block_freed s a) (block_pushed s order a) m ≡ stack_of s order m
  unfolding mark_cleared block_pushed
  other_stacks_kept m f =
      stack_cong s (small_block_freed s a) order (block_pushed s order a) m
      (filled_whatever_the_ranks m ∙ ap filled_in (superblock_at_others s home (without_mark_at (superblock_holding s a) (block_of s a)) m f))
      (λ p l. with_place_other_superblock order home filled (block_of s a) m p f (filled_lt_256 s a accepted small) l)

  -- it is pushed on its superblock's stack
  pub small_block_freed_pushes : BlockPushed a s order (small_block_freed s a) (block_pushed s order a)
  small_block_freed_pushes = record { pushed = pushed_on_top; others = other_stacks_kept }

-- ---- a long block freed
-- the superblocks of its run have class field 0 and no marks, before the free and after it, and so even their stacks stay
long_free_effect_keeps_stacks : (freed : ℕ → ℕ → ℕ) (k n : ℕ) (s t : State) (order : List ℕ) → PassedAfterFrees freed s order → LongFreeEffect k n s t
    → (m : ℕ) → stack_of t order m ≡ stack_of s order m
long_free_effect_keeps_stacks freed k n s t order passed eff m = stack_cong s t order order m (go (side_of_range k n m)) (λ p l. refl)
  where
    of_no_blocks : (k ≤ m) × (m < k + n) → filled_in unused ≡ filled_in (superblock_at s m)
    of_no_blocks inside =
        let part = unowned_of_owner s order passed.sound m (omega (arith, inside.1, eff.run_before.in_table))
        (omega (arith, owner_of_run (superblock_at s m) (eff.run_before.of_run m inside.0 inside.1))) in
        ap₂ (λ (c l : ℕ). blocks_of c - l) (sym part.class) (live_count_of_no_marks ∙ sym part.live)

    go : Outside k n m ⊎ ((k ≤ m) × (m < k + n)) → filled_in (superblock_at t m) ≡ filled_in (superblock_at s m)
    go (inl out) = ap filled_in (eff.others m (λ inside. outside_not_inside k n m out inside.0 inside.1))
    go (inr inside) = ap filled_in (eff.run m inside) ∙ of_no_blocks inside

-- ---- a free
module _ (s : State) (order : List ℕ) (i a : ℕ) (shape : Shape s) (acc : FreeAccepted s order i a) where
  freed_block_pushed : BlockPushed a s order (small_block_freed s a) (block_pushed s order a)
  freed_block_pushed = small_block_freed_pushes (λ h c. 0) s order a shape (passed_after_no_frees s order acc.address.passed)
      (no_refusal_of_accepted_address s order i a acc.address) acc.outside_run

  -- the stacks after the free, by the state before the moves
  stack_after : (m : ℕ) → stack_of (free_of s order i a).answer.state (free_of s order i a).order m
      ≡ stack_of (small_block_freed s a) (block_pushed s order a) m
  unfolding small_freed_at
  stack_after m =
      ap (λ (x : After). stack_of x.answer.state x.order m) acc.result_is
      ∙ invariant_restored_keeps_stacks (superblock_holding s a).owner (superblock_holding s a).class (small_block_freed s a) (block_pushed s order a) m

  pub free_pushes : FreePushes s order i a
  free_pushes = record { pushed = stack_after (superblock_index a) ∙ freed_block_pushed.pushed; others = λ m f. stack_after m ∙ freed_block_pushed.others m f }

-- the free of a long block leaves every stack
pub long_free_keeps_stacks : (s : State) (order : List ℕ) (i a : ℕ) → Shape s → LongFreeAccepted s order i a → (m : ℕ)
    → stack_of (free_of s order i a).answer.state (free_of s order i a).order m ≡ stack_of s order m
long_free_keeps_stacks s order i a shape acc m =
    ap (λ (places : List ℕ). stack_of (free_of s order i a).answer.state places m) (long_free_order s order i a shape acc)
    ∙ long_free_effect_keeps_stacks (λ h c. 0) (superblock_index a) (superblock_holding s a).run s (free_of s order i a).answer.state order
    (passed_after_no_frees s order acc.address.passed) (long_free_effect s order i a shape acc) m

-- ---- a drop
-- no address in superblock k: its stack stays
dropped_onto_of_none_in : (s : State) (k : ℕ) (addresses stack : List ℕ) → NoneIn k addresses → dropped_onto s k addresses stack ≡ stack
unfolding dropped_onto is_pushed_onto
dropped_onto_of_none_in s k [] stack apart = refl
dropped_onto_of_none_in s k (a ∷ addresses) stack apart =
    ap (λ (t : Bool). dropped_onto s k addresses (pick (both t (not (is_in_run s a))) (block_of s a ∷ stack) stack)) (ne_eqb (superblock_index a) k apart.0)
    ∙ dropped_onto_of_none_in s k addresses stack apart.1

-- one block freed, on the stack of any superblock
module _ (freed : ℕ → ℕ → ℕ) (s : State) (order : List ℕ) (a : ℕ) (shape : Shape s) (passed : PassedAfterFrees freed s order)
    (accepted : address_refusal s a ≡ 0) where
  block_freed_by_test : (k : ℕ) → stack_of (block_freed s a) (order_pushed s order a) k ≡ pick (is_pushed_onto s k a) (block_of s a ∷ stack_of s order k)
      (stack_of s order k)
  unfolding is_pushed_onto
  block_freed_by_test k = by_run (is_in_run s a) refl
    where
      pushed : BlockPushed a s order (small_block_freed s a) (block_pushed s order a) → (b : Bool) → eqb (superblock_index a) k ≡ b
          → stack_of (small_block_freed s a) (block_pushed s order a) k ≡ pick (both b true) (block_of s a ∷ stack_of s order k) (stack_of s order k)
      pushed h true e = subst (λ (m : ℕ). stack_of (small_block_freed s a) (block_pushed s order a) m ≡ block_of s a ∷ stack_of s order m)
          (eqb-true (superblock_index a) k e) h.pushed
      pushed h false e = h.others k (λ q. eqb-false (superblock_index a) k e (sym q))

      unpushed : (b : Bool) → stack_of s order k ≡ pick (both b false) (block_of s a ∷ stack_of s order k) (stack_of s order k)
      unpushed true = refl
      unpushed false = refl

      by_run : (r : Bool) → is_in_run s a ≡ r → stack_of (block_freed s a) (order_pushed s order a) k ≡ pick (both (eqb (superblock_index a) k) (not r))
          (block_of s a ∷ stack_of s order k) (stack_of s order k)
      by_run true e =
          ap₂ (λ (t : State) (places : List ℕ). stack_of t places k) (block_freed_in_run s a e) (order_pushed_in_run s a order e)
          ∙ long_free_effect_keeps_stacks freed (superblock_index a) (superblock_holding s a).run s (long_block_freed s a) order passed
          (long_block_freed_effect freed s order a shape passed accepted e) k
          ∙ unpushed (eqb (superblock_index a) k)
      by_run false e =
          ap₂ (λ (t : State) (places : List ℕ). stack_of t places k) (block_freed_outside_run s a e) (order_pushed_outside_run s a order e)
          ∙ pushed (small_block_freed_pushes freed s order a shape passed accepted e) (eqb (superblock_index a) k) refl

  -- a superblock that holds an address without refusal is not unused
  not_of_unused : (superblock_holding s a).owner ≡ unused_owner → ⊥
  not_of_unused q = go (is_in_run s a) refl
    where
      go : (r : Bool) → is_in_run s a ≡ r → ⊥
      go true e = omega (arith, owner_of_run (superblock_holding s a) e)
      go false e = omega (arith, freed_superblock_owner_le freed s order a shape passed accepted e, passed.sound.numbers.processors_high)

-- state t, after some frees of a drop on state s, tells of each superblock as s does, but for the runs that were freed
record FreedSince (s t : State) : Type 0 where
  owners : OwnersKeptOrRunFreed s t
  classes : (m : ℕ) → m < 64 → (superblock_at t m).class ≡ (superblock_at s m).class
  shape_before : Shape s

none_freed_since : (s : State) → Shape s → FreedSince s s
none_freed_since s shape = record { owners = λ m l. inl refl; classes = λ m l. refl; shape_before = shape }

-- the next address of the drop lies in no freed run, so that both tell the same of it
module _ (freed : ℕ → ℕ → ℕ) (s t : State) (order : List ℕ) (a : ℕ) (since : FreedSince s t) (shape : Shape t) (passed : PassedAfterFrees freed t order)
    (accepted : address_refusal t a ≡ 0) where
  in_run_since : is_in_run t a ≡ is_in_run s a
  unfolding is_of_run
  in_run_since = go (since.owners (superblock_index a) (address_freed freed t order a shape passed accepted).below)
    where
      go : ((superblock_holding t a).owner ≡ (superblock_holding s a).owner)
          ⊎ (((superblock_holding s a).owner ≡ run_owner) × ((superblock_holding t a).owner ≡ unused_owner)) → is_in_run t a ≡ is_in_run s a
      go (inl e) = ap (λ (o : ℕ). eqb o run_owner) e
      go (inr (was, now)) = absurd (not_of_unused freed t order a shape passed accepted now)

  block_since : block_of t a ≡ block_of s a
  block_since = block_at_address_same s t since.shape_before.length_is shape.length_is since.classes a

  freed_since_then : FreedSince s (block_freed t a)
  freed_since_then =
      let here = address_freed freed t order a shape passed accepted in
      record {
        owners = owners_kept_or_run_freed_then s t (block_freed t a) since.owners here.owners;
        classes = λ m l. here.classes m l
            ∙ since.classes m l;
        shape_before = since.shape_before;
      }

all_freed_push : (freed : ℕ → ℕ → ℕ) (s t : State) (order addresses : List ℕ) → FreedSince s t → Shape t → PassedAfterFrees freed t order
    → first_address_refusal t addresses ≡ 0
    → (k : ℕ) → stack_of (all_freed t addresses) (all_pushed t order addresses) k ≡ dropped_onto s k addresses (stack_of t order k)
unfolding all_freed all_pushed dropped_onto is_pushed_onto
all_freed_push freed s t order [] since shape passed ok k = refl
all_freed_push freed s t order (a ∷ addresses) since shape passed ok k =
    let accepted = first_refusal_of_cons t a addresses ok in
    let here = address_freed freed t order a shape passed accepted.0 in
    all_freed_push (one_more_freed (superblock_holding t a).owner (superblock_holding t a).class freed) s (block_freed t a) (order_pushed t order a) addresses
    (freed_since_then freed s t order a since shape passed accepted.0)
    here.shape here.passed accepted.1 k
    ∙ ap (dropped_onto s k addresses)
    (block_freed_by_test freed t order a shape passed accepted.0 k
    ∙ ap₂ (λ (r : Bool) (b : ℕ). pick (both (eqb (superblock_index a) k) (not r)) (b ∷ stack_of t order k) (stack_of t order k))
    (in_run_since freed s t order a since shape passed accepted.0) (block_since freed s t order a since shape passed accepted.0))

-- the moves of all its heaps and classes leave every stack
drop_moves_keep_stacks : (s : State) (addresses order : List ℕ) (k : ℕ) → stack_of (drop_moves s addresses).state order k
    ≡ stack_of (all_freed s addresses) order k
unfolding then_restored
drop_moves_keep_stacks s addresses order k =
    rw (drop_moves_by_heaps s addresses)
    (heaps_restored_keep (λ m. stack_of m.state order k ≡ stack_of (all_freed s addresses) order k)
    (λ h c before e. invariant_restored_keeps_stacks h c before.state order k ∙ e)
    (is_touched s addresses) s.setup.processors (record { moves = 0; state = all_freed s addresses }) refl)

-- an accepted drop pushes its blocks in the order written, each that is no long one on its superblock's stack, so that the last dropped is on top
pub drop_pushes : (s : State) (order : List ℕ) (i : ℕ) (addresses : List ℕ) → Shape s → DropAccepted s order i addresses
    → (k : ℕ) → stack_of (drop_of s order i addresses).answer.state (drop_of s order i addresses).order k ≡ dropped_onto s k addresses (stack_of s order k)
unfolding dropped_all
drop_pushes s order i addresses shape acc k =
    ap (λ (x : After). stack_of x.answer.state x.order k) acc.result_is
    ∙ drop_moves_keep_stacks s addresses (all_pushed s order addresses) k
    ∙ all_freed_push (λ h c. 0) s s order addresses (none_freed_since s shape) shape (passed_after_no_frees s order acc.passed) acc.no_refusal k

-- ---- a take
module _ (s : State) (order : List ℕ) (i size k : ℕ) (shape : Shape s) (acc : TakeAccepted s order i size k) where
  abbrev after : State
  after = (take_of s order i size).answer.state

  abbrev places : List ℕ
  places = (take_of s order i size).order

  abbrev blocks : ℕ
  blocks = blocks_of (class_of size)

  taken_superblock_lt_64 : k < 64
  taken_superblock_lt_64 = omega (arith, (take_effect s order i size k shape acc).below, acc.passed.sound.numbers.superblocks_high)

  -- one block more is live than before, and no more than there are
  filled_after : filled_in (superblock_at after k) ≡ blocks - suc (live_in (superblock_at s k))
  filled_after =
      let eff = take_effect s order i size k shape acc in
      ap₂ (λ (d l : ℕ). blocks_of d - l) eff.class eff.live

  some_free : suc (live_in (superblock_at s k)) ≤ blocks
  some_free =
      let eff = take_effect s order i size k shape acc in
      let fits = live_le_blocks_of_owned after places (take_passed s order i size k shape acc).sound k taken_superblock_lt_64
      (omega (arith, eff.owner, acc.processor.1, acc.passed.sound.numbers.processors_high)) in
      omega (arith, eff.live, ap blocks_of eff.class)

  stacks_keep : ((m p : ℕ) → (m ≡ k → ⊥) → p < 256 → place places m p ≡ place order m p) → OtherStacksKept k s order after places
  stacks_keep h m f = stack_cong s after order places m (ap filled_in ((take_effect s order i size k shape acc).others m f)) (λ p l. h m p f l)

  -- without a renewal: the superblock was of the class, the order stays, and the last filled place holds the block
  record TakenWithoutRenewal : Type 0 where
    class : (superblock_at s k).class ≡ class_of size
    stays : places ≡ order
    last : (take_of s order i size).answer.outcome ≡ Address (address_of k (superblock_at s k).class (last_filled order k (filled_in (superblock_at s k))))

  taken_without_renewal : (RenewedByTake s i size k → ⊥) → TakenWithoutRenewal
  unfolding acquired acquired_order unranked_if_empty last_block_of
  taken_without_renewal not_renewed = go acc.place
    where
      by_live : fullest i (class_of size) s ≡ None → (t : Bool) → eqb (live_in (superblock_at s k)) 0 ≡ t
          → take_of s order i size ≡ taken_with k (pick t (unranked k s) s) (pick t (renewed_for i (class_of size)) (with_owner i (superblock_at s k)))
          (pick t (renewed order k blocks) order) → TakenWithoutRenewal
      by_live none true q e = absurd (not_renewed (record { not_own = none; empty = eqb-true (live_in (superblock_at s k)) 0 q }))
      by_live none false q e =
          record {
            class = was_class (take_effect s order i size k shape acc).before;
            stays = ap (λ (x : After). x.order) e;
            last = ap (λ (x : After). x.answer.outcome) e;
          }
        where
          was_class : (live_in (superblock_at s k) ≡ 0) ⊎ (((superblock_at s k).class ≡ class_of size) × ((superblock_at s k).owner < run_owner))
              → (superblock_at s k).class ≡ class_of size
          was_class (inl z) = absurd (eqb-false (live_in (superblock_at s k)) 0 q z)
          was_class (inr h) = h.0

      go : ((fullest i (class_of size) s ≡ Some k) × (take_of s order i size ≡ taken_from k s order))
          ⊎ ((fullest i (class_of size) s ≡ None) × (other_places (class_of size) s ≡ Some k)
          × (take_of s order i size ≡ taken_from_other i (class_of size) k s order)) → TakenWithoutRenewal
      go (inl (f, e)) =
          let e2 = e ∙ taken_from_is_taken_with k s order in
          record {
            class = (facts_of_has_free i (class_of size) (superblock_at s k) (best_of_fullest i (class_of size) s k f).meets_criterion_lem).1;
            stays = ap (λ (x : After). x.order) e2;
            last = ap (λ (x : After). x.answer.outcome) e2;
          }
      go (inr (f, g, e)) = by_live f (eqb (live_in (superblock_at s k)) 0) refl
          (e ∙ taken_from_other_is_taken_with i (class_of size) k s order taken_superblock_lt_64 shape.length_is)

  module _ (not_renewed : RenewedByTake s i size k → ⊥) where
    abbrev places_left : ℕ
    places_left = blocks - suc (live_in (superblock_at s k))

    filled_before : filled_in (superblock_at s k) ≡ suc places_left
    filled_before = let l = some_free in ap (λ (d : ℕ). blocks_of d - live_in (superblock_at s k)) (taken_without_renewal not_renewed).class ∙ omega arith

    top_answered : (take_of s order i size).answer.outcome ≡ Address (address_of k (class_of size) (place order k places_left))
    top_answered =
        (taken_without_renewal not_renewed).last
        ∙ ap₂ (λ (d j : ℕ). Address (address_of k d j)) (taken_without_renewal not_renewed).class
        (last_filled_is_place order k (filled_in (superblock_at s k)) (omega (arith, filled_before)) (filled_le_256 (superblock_at s k))
        ∙ ap (place order k) (let e = filled_before in omega arith))

    top_popped : stack_of s order k ≡ place order k places_left ∷ stack_of after places k
    unfolding stack_of from_last
    top_popped =
        ap (from_last (place order k)) filled_before
        ∙ ap (λ (l : List ℕ). place order k places_left ∷ l)
        (sym (ap₂ (λ (x : List ℕ) (m : ℕ). from_last (place x k) m) (taken_without_renewal not_renewed).stays filled_after))

    -- a take that does not renew answers the block on top, and leaves the rest of the stack
    pub take_pops : (j : ℕ) × TakePops s order i size k j
    take_pops = (
      place order k places_left,
      record {
        answers = top_answered;
        popped = top_popped;
        others = stacks_keep (λ m p f l. ap (λ (x : List ℕ). place x m p) (taken_without_renewal not_renewed).stays);
      },
    )

  module _ (renewing : RenewedByTake s i size k) where
    renewed_result : take_of s order i size ≡ taken_with k (unranked k s) (renewed_for i (class_of size)) (renewed order k blocks)
    unfolding acquired acquired_order unranked_if_empty
    renewed_result = go acc.place
      where
        go : ((fullest i (class_of size) s ≡ Some k) × (take_of s order i size ≡ taken_from k s order))
            ⊎ ((fullest i (class_of size) s ≡ None) × (other_places (class_of size) s ≡ Some k)
            × (take_of s order i size ≡ taken_from_other i (class_of size) k s order))
            → take_of s order i size ≡ taken_with k (unranked k s) (renewed_for i (class_of size)) (renewed order k blocks)
        go (inl (f, e)) = absurd (found_one (sym f ∙ renewing.not_own))
          where
            found_one : Some k ≡ None → ⊥
            found_one q = let z : ◌≡◌ {A = ℕ} 0 1 = cc in omega arith
        go (inr (f, g, e)) =
            e ∙ taken_from_other_is_taken_with i (class_of size) k s order taken_superblock_lt_64 shape.length_is
            ∙ ap (λ (t : Bool). taken_with k (pick t (unranked k s) s) (pick t (renewed_for i (class_of size)) (with_owner i (superblock_at s k)))
            (pick t (renewed order k blocks) order))
            (eq-eqb (live_in (superblock_at s k)) 0 renewing.empty)

    fits : k * 256 + blocks ≤ length order
    fits = omega (arith, (take_effect s order i size k shape acc).below, acc.passed.room, blocks_of_le_256 (class_of size))

    first_answered : (take_of s order i size).answer.outcome ≡ Address (address_of k (class_of size) 0)
    unfolding last_block_of
    first_answered =
        ap (λ (x : After). x.answer.outcome) renewed_result
        ∙ ap (λ (j : ℕ). Address (address_of k (class_of size) j))
        (ap (last_filled (renewed order k blocks) k) (omega (arith, live_count_of_no_marks))
        ∙ last_filled_of_renewed_is_0 order k blocks (blocks_of_le_256 (class_of size)) fits
        (blocks_of_pos (class_of size) (class_of_lt_27 size acc.size_le_2048)))

    rest_ascending : stack_of after places k ≡ ascending 1 (blocks - 1)
    unfolding stack_of
    rest_ascending =
        let pos = blocks_of_pos (class_of size) (class_of_lt_27 size acc.size_le_2048) in
        ap₂ (λ (x : List ℕ) (m : ℕ). from_last (place x k) m) (ap (λ (x : After). x.order) renewed_result) (filled_after ∙ omega (arith, renewing.empty))
        ∙ from_last_ascending (place (renewed order k blocks) k) blocks (blocks - 1) (omega arith)
        (λ p l. renewed_place order k blocks p (blocks_of_le_256 (class_of size)) fits (omega arith))
        ∙ ap (λ (j : ℕ). ascending j (blocks - 1)) (omega arith)

    -- a take that renews answers block 0 and leaves the others, the lowest on top
    pub take_renews_stack : TakeRenews s order i size k
    take_renews_stack = record {
      answers = first_answered;
      left_ascending = rest_ascending;
      others = stacks_keep (λ m p f l. ap (λ (x : After). place x.order m p) renewed_result ∙ renewed_other_superblock order k blocks m p f l);
    }

-- the take of a long block leaves the stack of every superblock outside its run
pub long_take_keeps_other_stacks : (s : State) (order : List ℕ) (i size k : ℕ) → Shape s → LongTakeAccepted s order i size k
    → (m : ℕ) → (InRun k (run_length size) m → ⊥) → stack_of (take_of s order i size).answer.state (take_of s order i size).order m ≡ stack_of s order m
long_take_keeps_other_stacks s order i size k shape acc m outside =
    stack_cong s (take_of s order i size).answer.state order (take_of s order i size).order m
    (ap filled_in ((long_take_effect s order i size k shape acc).others m outside))
    (λ p l. ap (λ (places : List ℕ). place places m p) (long_take_order s order i size k shape acc))

-- ---- the block freed last is the next one taken
-- a call that neither is answered from superblock k nor takes it into a run, and frees no block of a class in it
abbrev pub AvoidsSuperblock : ℕ → State → List ℕ → Call → Type 0
AvoidsSuperblock k s order (Take i size) = (TakeAccepted s order i size k → ⊥) × ((j : ℕ) → LongTakeAccepted s order i size j → InRun j (run_length size) k → ⊥)
AvoidsSuperblock k s order (Free i a) = FreeAccepted s order i a → superblock_index a ≡ k → ⊥
AvoidsSuperblock k s order (NamedTake i m size) = (NamedTakeAccepted s order i m size k → ⊥)
    × ((j : ℕ) → NamedLongTakeAccepted s order i m size j → InRun j (run_length size) k → ⊥)
AvoidsSuperblock k s order (NamedFree i m) = NamedFreeAccepted s order i m → superblock_index (held_address s m) ≡ k → ⊥
AvoidsSuperblock k s order (Drop i addresses) = DropAccepted s order i addresses → NoneIn k addresses

-- a list of such calls, each on what the one before it left, from one state and storage to another
pub data AvoidingRun (k : ℕ) : State → List ℕ → State → List ℕ → Type 0 where
  done : {s : State} {order : List ℕ} → AvoidingRun k s order s order
  then : {s t : State} {order places : List ℕ} (call : Call) → AvoidsSuperblock k s order call
      → AvoidingRun k (call_of s order call).answer.state (call_of s order call).order t places → AvoidingRun k s order t places

-- superblock k's stack and class are kept, and the state has its shape
pub record StackKept (k : ℕ) (s : State) (order : List ℕ) (t : State) (places : List ℕ) : Type 0 where
  pub shape : Shape t
  pub stack : stack_of t places k ≡ stack_of s order k
  pub class : (superblock_at t k).class ≡ (superblock_at s k).class

refused_keeps_stack : (k : ℕ) (s : State) (order : List ℕ) (r : ℕ) (x : After) → Shape s → x ≡ refused r s order → StackKept k s order x.answer.state
    x.order
refused_keeps_stack k s order r x shape e = subst (λ (y : After). StackKept k s order y.answer.state y.order) (sym e)
    (record { shape = shape; stack = refl; class = refl })

take_keeps_stack : (k : ℕ) (s : State) (order : List ℕ) (i size : ℕ) → Shape s → AvoidsSuperblock k s order (Take i size)
    → StackKept k s order (take_of s order i size).answer.state (take_of s order i size).order
take_keeps_stack k s order i size shape apart = go (take_refused_or_accepted s order i size)
  where
    other : (m : ℕ) (acc : TakeAccepted s order i size m) → (k ≡ m → ⊥) → Dec (live_in (superblock_at s m) ≡ 0) → (f : Option ℕ) → fullest i (class_of size) s
        ≡ f → OtherStacksKept m s order (take_of s order i size).answer.state (take_of s order i size).order
    other m acc f (yes z) None e = (take_renews_stack s order i size m shape acc (record { not_own = e; empty = z })).others
    other m acc f (yes z) (Some n) e = (take_pops s order i size m shape acc (λ r. found_one n (sym e ∙ r.not_own))).1.others
      where
        found_one : (n : ℕ) → Some n ≡ None → ⊥
        found_one n q = let z : ◌≡◌ {A = ℕ} 0 1 = cc in omega arith
    other m acc f (no g) found e = (take_pops s order i size m shape acc (λ r. g r.empty)).1.others

    go : ((r : ℕ) × (take_of s order i size ≡ refused r s order)) ⊎ (((m : ℕ) × TakeAccepted s order i size m) ⊎ ((m : ℕ) × LongTakeAccepted s order i size m))
        → StackKept k s order (take_of s order i size).answer.state (take_of s order i size).order
    go (inl (r, e)) = refused_keeps_stack k s order r (take_of s order i size) shape e
    go (inr (inr (m, acc))) =
        record {
          shape = long_take_shape s order i size m shape acc;
          stack = long_take_keeps_other_stacks s order i size m shape acc k (apart.1 m acc);
          class = ap (λ (b : Superblock). b.class) ((long_take_effect s order i size m shape acc).others k (apart.1 m acc));
        }
    go (inr (inl (m, acc))) =
        let f : k ≡ m → ⊥ = λ q. apart.0 (subst (TakeAccepted s order i size) (sym q) acc) in
        record {
          shape = take_shape s order i size m shape acc;
          stack = other m acc f (ℕ_discrete (live_in (superblock_at s m)) 0) (fullest i (class_of size) s) refl k f;
          class = ap (λ (b : Superblock). b.class) ((take_effect s order i size m shape acc).others k f);
        }

free_keeps_stack : (k : ℕ) (s : State) (order : List ℕ) (i a : ℕ) → k < 64 → Shape s → AvoidsSuperblock k s order (Free i a)
    → StackKept k s order (free_of s order i a).answer.state (free_of s order i a).order
unfolding long_freed_at
free_keeps_stack k s order i a l shape apart = go (free_refused_or_accepted s order i a)
  where
    -- class field 0 of a run's superblock stays, too
    class_kept : LongFreeAccepted s order i a → (superblock_at (free_of s order i a).answer.state k).class ≡ (superblock_at s k).class
    class_kept acc =
        ap (λ (x : After). (superblock_at x.answer.state k).class) acc.result_is
        ∙ long_block_freed_class (λ h c. 0) s order a shape (passed_after_no_frees s order acc.address.passed)
        (no_refusal_of_accepted_address s order i a acc.address) acc.in_run k l

    go : ((r : ℕ) × (free_of s order i a ≡ refused r s order)) ⊎ (FreeAccepted s order i a ⊎ LongFreeAccepted s order i a)
        → StackKept k s order (free_of s order i a).answer.state (free_of s order i a).order
    go (inl (r, e)) = refused_keeps_stack k s order r (free_of s order i a) shape e
    go (inr (inr acc)) = record {
      shape = long_free_shape s order i a shape acc;
      stack = long_free_keeps_stacks s order i a shape acc k;
      class = class_kept acc;
    }
    go (inr (inl acc)) = record {
      shape = free_shape s order i a shape acc;
      stack = (free_pushes s order i a shape acc).others k (λ q. apart acc (sym q));
      class = (free_effect s order i a shape acc).classes k l;
    }

-- a name bound with a take keeps what the take keeps
named_take_keeps_stack : (k : ℕ) (s : State) (order : List ℕ) (i m size : ℕ) → Shape s → AvoidsSuperblock k s order (NamedTake i m size)
    → StackKept k s order (named_take_of s order i m size).answer.state (named_take_of s order i m size).order
unfolding stack_of
named_take_keeps_stack k s order i m size shape apart = go (named_take_refused_or_accepted s order i m size)
  where
    plain : is_unavailable s m ≡ false → named_take_of s order i m size ≡ with_name_bound m (take_of s order i size)
        → StackKept k s order (take_of s order i size).answer.state (take_of s order i size).order
    plain available result =
        take_keeps_stack k s order i size shape (
          λ taken. apart.0 (record { taken = taken; available = available; result_is = result }),
          λ j taken. apart.1 j (record { taken = taken; available = available; result_is = result }),
        )

    bound : (names : List ℕ) → Shape (named_take_of s order i m size).answer.state → (named_take_of s order i m size).answer.state
        ≡ with_names (take_of s order i size).answer.state names
        → (named_take_of s order i m size).order ≡ (take_of s order i size).order → StackKept k s order (take_of s order i size).answer.state
        (take_of s order i size).order
        → StackKept k s order (named_take_of s order i m size).answer.state (named_take_of s order i m size).order
    bound names named-shape state places kept =
        record {
          shape = named-shape;
          stack = ap₂ (λ (t : State) (x : List ℕ). stack_of t x k) state places ∙ kept.stack;
          class = ap (λ (t : State). (superblock_at t k).class) state ∙ kept.class;
        }

    go : ((r : ℕ) × (named_take_of s order i m size ≡ refused r s order))
        ⊎ (((n : ℕ) × NamedTakeAccepted s order i m size n) ⊎ ((n : ℕ) × NamedLongTakeAccepted s order i m size n))
        → StackKept k s order (named_take_of s order i m size).answer.state (named_take_of s order i m size).order
    go (inl (r, e)) = refused_keeps_stack k s order r (named_take_of s order i m size) shape e
    go (inr (inl (n, acc))) =
        bound _ (named_take_shape s order i m size n shape acc) (named_take_state s order i m size n shape acc)
        (named_take_order s order i m size n shape acc) (plain acc.available acc.result_is)
    go (inr (inr (n, acc))) =
        bound _ (named_long_take_shape s order i m size n shape acc) (named_long_take_state s order i m size n shape acc)
        (named_long_take_order s order i m size n shape acc) (plain acc.available acc.result_is)

named_free_keeps_stack : (k : ℕ) (s : State) (order : List ℕ) (i m : ℕ) → k < 64 → Shape s → AvoidsSuperblock k s order (NamedFree i m)
    → StackKept k s order (named_free_of s order i m).answer.state (named_free_of s order i m).order
named_free_keeps_stack k s order i m l shape apart = go (named_free_refused_or_accepted s order i m)
  where
    -- the free of the held address
    plain : T (is_held s.names m) → named_free_of s order i m ≡ free_of s order i (held_address s m)
        → StackKept k s order (named_free_of s order i m).answer.state (named_free_of s order i m).order
    plain held result =
        subst (λ (x : After). StackKept k s order x.answer.state x.order) (sym result)
        (free_keeps_stack k s order i (held_address s m) l shape (λ freed. apart (record { held = held; freed = freed; result_is = result })))

    go : ((r : ℕ) × (named_free_of s order i m ≡ refused r s order)) ⊎ (NamedFreeAccepted s order i m ⊎ NamedLongFreeAccepted s order i m)
        → StackKept k s order (named_free_of s order i m).answer.state (named_free_of s order i m).order
    go (inl (r, e)) = refused_keeps_stack k s order r (named_free_of s order i m) shape e
    go (inr (inl acc)) = plain acc.held acc.result_is
    go (inr (inr acc)) = plain acc.held acc.result_is

drop_keeps_stack : (k : ℕ) (s : State) (order : List ℕ) (i : ℕ) (addresses : List ℕ) → k < 64 → Shape s → AvoidsSuperblock k s order (Drop i addresses)
    → StackKept k s order (drop_of s order i addresses).answer.state (drop_of s order i addresses).order
drop_keeps_stack k s order i addresses l shape apart =
    ⊎_elim (λ h. refused_keeps_stack k s order h.0 (drop_of s order i addresses) shape h.1)
    (λ acc. record {
      shape = drop_shape s order i addresses shape acc;
      stack = drop_pushes s order i addresses shape acc k ∙ dropped_onto_of_none_in s k addresses (stack_of s order k) (apart acc);
      class = (drop_effect s order i addresses shape acc).classes k l;
    })
    (drop_refused_or_accepted s order i addresses)

call_keeps_stack : (k : ℕ) (s : State) (order : List ℕ) (call : Call) → k < 64 → Shape s → AvoidsSuperblock k s order call
    → StackKept k s order (call_of s order call).answer.state (call_of s order call).order
unfolding call_of
call_keeps_stack k s order (Take i size) l shape apart = take_keeps_stack k s order i size shape apart
call_keeps_stack k s order (Free i a) l shape apart = free_keeps_stack k s order i a l shape apart
call_keeps_stack k s order (NamedTake i m size) l shape apart = named_take_keeps_stack k s order i m size shape apart
call_keeps_stack k s order (NamedFree i m) l shape apart = named_free_keeps_stack k s order i m l shape apart
call_keeps_stack k s order (Drop i addresses) l shape apart = drop_keeps_stack k s order i addresses l shape apart

-- calls that neither are answered from superblock k nor take it into a run, and free no block of a class in it, leave its stack
pub avoiding_run_keeps_stack : (k : ℕ) {s t : State} {order places : List ℕ} → k < 64 → Shape s → AvoidingRun k s order t places → StackKept k s order t places
avoiding_run_keeps_stack k l shape done = record { shape = shape; stack = refl; class = refl }
avoiding_run_keeps_stack k l shape (then {s = s} {order = order} call apart rest) =
    let one = call_keeps_stack k s order call l shape apart in
    let more = avoiding_run_keeps_stack k l one.shape rest in
    record { shape = more.shape; stack = more.stack ∙ one.stack; class = more.class ∙ one.class }

same_top : (j b : ℕ) (l x y : List ℕ) → l ≡ j ∷ x → l ≡ b ∷ y → j ≡ b
same_top j b l x y p q = cc

-- After any calls that avoid superblock k, a take that is answered from it without renewing it answers the block on top of its stack.
pub top_next_taken : (k j : ℕ) (rest : List ℕ) (s : State) (order : List ℕ) → k < 64 → Shape s → stack_of s order k ≡ j ∷ rest
    → {t : State} {places : List ℕ} → AvoidingRun k s order t places → (h size : ℕ) → TakeAccepted t places h size k → (RenewedByTake t h size k → ⊥)
    → (take_of t places h size).answer.outcome ≡ Address (address_of k (superblock_at s k).class j)
top_next_taken k j rest s order inside shape top {t} {places} run h size acc not_renewed =
    let keeps = avoiding_run_keeps_stack k inside shape run in
    let pops = take_pops t places h size k keeps.shape acc not_renewed in
    let block = same_top pops.0 j (stack_of t places k) _ rest pops.1.popped (keeps.stack ∙ top) in
    let class : class_of size ≡ (superblock_at s k).class = sym (taken_without_renewal t places h size k keeps.shape acc not_renewed).class ∙ keeps.class in
    pops.1.answers ∙ ap₂ (λ (d b : ℕ). Address (address_of k d b)) class block

-- After an accepted free of a block of a class, and any calls that neither are answered from its superblock nor take it into a run nor free into it,
-- a take that is answered from that superblock without renewing it answers the block's address.
pub last_freed_next_taken : (s : State) (order : List ℕ) (i a : ℕ) → Shape s → FreeAccepted s order i a
    → {t : State} {places : List ℕ} → AvoidingRun (superblock_index a) (free_of s order i a).answer.state (free_of s order i a).order t places
    → (h size : ℕ) → TakeAccepted t places h size (superblock_index a) → (RenewedByTake t h size (superblock_index a) → ⊥)
    → (take_of t places h size).answer.outcome ≡ Address a
last_freed_next_taken s order i a shape freed run h size acc not_renewed =
    let k = superblock_index a in
    let eff = free_effect s order i a shape freed in
    let inside : k < 64 = omega (arith, eff.below, freed.address.passed.sound.numbers.superblocks_high) in
    top_next_taken k (block_of s a) _ _ _ inside (free_shape s order i a shape freed) (free_pushes s order i a shape freed).pushed run h size acc not_renewed
    ∙ ap (λ (d : ℕ). Address (address_of k d (block_of s a))) (eff.classes k inside) ∙ ap Address (sym (free_address s order i a shape freed))

-- ---- and after a drop, the last of its blocks in a superblock
-- the block of an address with none of the same superblock after it is on top, where it is no long one
last_dropped_on_top : (s : State) (a : ℕ) (earlier later stack : List ℕ) → is_in_run s a ≡ false → NoneIn (superblock_index a) later
    → (rest : List ℕ) × (dropped_onto s (superblock_index a) (earlier ++ (a ∷ later)) stack ≡ block_of s a ∷ rest)
unfolding dropped_onto is_pushed_onto
last_dropped_on_top s a [] later stack small apart = (
  stack,
  ap₂ (λ (t r : Bool). dropped_onto s (superblock_index a) later (pick (both t (not r)) (block_of s a ∷ stack) stack))
      (eq-eqb (superblock_index a) (superblock_index a) refl) small
      ∙ dropped_onto_of_none_in s (superblock_index a) later (block_of s a ∷ stack) apart,
)
last_dropped_on_top s a (b ∷ earlier) later stack small apart =
    last_dropped_on_top s a earlier later (pick (is_pushed_onto s (superblock_index a) b) (block_of s b ∷ stack) stack) small apart

-- each address of an accepted drop that lies in no run is that of its block, as the state before the drop tells it, in a superblock of the table; t
-- is the state after some of its frees
dropped_address : (freed : ℕ → ℕ → ℕ) (s t : State) (order : List ℕ) (a : ℕ) (earlier later : List ℕ) → FreedSince s t → Shape t
    → PassedAfterFrees freed t order → first_address_refusal t (earlier ++ (a ∷ later)) ≡ 0
    → is_in_run s a ≡ false → (superblock_index a < 64) × (a ≡ address_of (superblock_index a) (superblock_holding s a).class (block_of s a))
unfolding block_of
dropped_address freed s t order a [] later since shape passed ok small =
    let accepted = (first_refusal_of_cons t a later ok).0 in
    let outside = in_run_since freed s t order a since shape passed accepted ∙ small in
    let below = freed_superblock_lt_64 freed t order a shape passed accepted outside in (
      below,
      subst (λ (c : ℕ). a ≡ address_of (superblock_index a) c (offset_of a / size_of c)) (since.classes (superblock_index a) below)
          (freed_address freed t order a shape passed accepted outside),
    )
dropped_address freed s t order a (b ∷ earlier) later since shape passed ok small =
    let accepted = first_refusal_of_cons t b (earlier ++ (a ∷ later)) ok in
    let here = address_freed freed t order b shape passed accepted.0 in
    dropped_address (one_more_freed (superblock_holding t b).owner (superblock_holding t b).class freed) s (block_freed t b) (order_pushed t order b) a earlier
    later (freed_since_then freed s t order b since shape passed accepted.0)
    here.shape here.passed accepted.1 small

-- After an accepted drop, and any calls that neither are answered from a superblock nor take it into a run nor free into it, a take that is answered from that
-- superblock without renewing it answers the last of the drop's addresses in it, where that is no long block's.
pub last_dropped_next_taken : (s : State) (order : List ℕ) (i a : ℕ) (earlier later : List ℕ) → Shape s → DropAccepted s order i (earlier ++ (a ∷ later))
    → is_in_run s a ≡ false → NoneIn (superblock_index a) later
    → {t : State} {places : List ℕ} → AvoidingRun (superblock_index a) (drop_of s order i (earlier ++ (a ∷ later))).answer.state
    (drop_of s order i (earlier ++ (a ∷ later))).order t places
    → (h size : ℕ) → TakeAccepted t places h size (superblock_index a) → (RenewedByTake t h size (superblock_index a) → ⊥)
    → (take_of t places h size).answer.outcome ≡ Address a
last_dropped_next_taken s order i a earlier later shape dropped small apart run h size acc not_renewed =
    let k = superblock_index a in
    let addresses = earlier ++ (a ∷ later) in
    let at = dropped_address (λ h c. 0) s s order a earlier later (none_freed_since s shape) shape (passed_after_no_frees s order dropped.passed)
    dropped.no_refusal small in
    let top = last_dropped_on_top s a earlier later (stack_of s order k) small apart in
    top_next_taken k (block_of s a) top.0 _ _ at.0 (drop_shape s order i addresses shape dropped) (drop_pushes s order i addresses shape dropped k
    ∙ top.1) run h size acc not_renewed
    ∙ ap (λ (d : ℕ). Address (address_of k d (block_of s a))) ((drop_effect s order i addresses shape dropped).classes k at.0) ∙ ap Address (sym at.1)
