-- Laws of the move rule's code: the test, one superblock passed on, and the loop of the moves. Assumes nothing.
use Rattle.std.proofs.Common.{Option}
use mathlib.Core.Path.{◌≡◌, refl, sym, ap, ◌∙◌, subst}
use mathlib.Core.Bool.{Bool, true, false}
use Prim.Native.Nat.{ℕ, suc, ◌+◌, ◌-◌, ◌*◌, ◌≤◌, ◌<◌}
use native.Mathlib.Omega.{arith}
use mir.Syntax.{w8}
use mir.Val.{Fits}
use lib.ListN.{length, get_or}
use Rattle.base_laws.proofs.TestLaws.{T_of_true}
use Rattle.class_rules.specs.Classes.{class_count, blocks_of}
use Rattle.heap_rules.specs.declared.State.{State}
use Rattle.heap_rules.specs.declared.Moved.{Moved}
use Rattle.heap_rules.specs.Table.{superblock_at, with_owner}
use Rattle.heap_rules.specs.Counts.{superblocks_of, blocks_in}
use Rattle.heap_rules.specs.Totals.{heap_count, superblocks_kept, live_kept, TotalsKept}
use Rattle.choice_rules.specs.Choice.{emptiest}
use Rattle.move_rules.specs.Moves.{both_conditions, must_move, transferred, found_transferred, transfers_up_to, excess_transferred}
use Rattle.heap_laws.proofs.CountLaws.{superblocks_of_le_64}
use Rattle.heap_laws.proofs.TotalsLaws.{superblocks_kept_are_counted, live_kept_is_counted, recounted_superblocks_le_64}
use Rattle.heap_laws.proofs.MoveLaws.{length_of_found_transferred, totals_kept_of_found_transferred, superblocks_after_transfer, transfers_up_to_stop}
use Rattle.heap_laws.proofs.MoveLaws.{transfers_up_to_step}
use Rattle.heap_table.proofs.PastTableLaws.{with_superblock_past_table}

-- a total of superblocks is at most 64
pub superblocks_total_le_64 : (s : State) (x : ℕ) → TotalsKept s → get_or s.totals.superblocks x 0 ≤ 64
superblocks_total_le_64 s x kept = rw kept (recounted_superblocks_le_64 s.table x)

-- the test, from the totals kept
pub must_move_from_totals : (h c : ℕ) (s : State) (n : ℕ) (r : Bool) → h < heap_count → c < class_count → TotalsKept s → n ≡ blocks_of c
    → r ≡ both_conditions s.setup.spare s.setup.p s.setup.q n (get_or s.totals.superblocks (h * class_count + c) 0 * n)
    (get_or s.totals.live (h * class_count + c) 0) → r ≡ must_move h c s
unfolding must_move blocks_in superblocks_kept live_kept
must_move_from_totals h c s n r lh lc kept p g = rw (← p, ← superblocks_kept_are_counted s h c lh lc kept, ← live_kept_is_counted s h c lh lc kept) g

-- past the table's end nothing passes on
pub transferred_past_table : (k : ℕ) (s : State) → TotalsKept s → length s.table ≡ 64 → 64 ≤ k → s ≡ transferred k s
unfolding transferred
transferred_past_table k s kept long h = with_superblock_past_table s k long h (with_owner 0 (superblock_at s k)) kept

-- after m moves from state s, which left t: the moves still to be made are those from t
pub record TransferInvariant (h c : ℕ) (s t : State) (m : ℕ) : Type 0 where
  pub transfers_left : transfers_up_to (64 - m) h c m t ≡ excess_transferred h c s
  pub superblocks_left : superblocks_of h c t + m ≡ superblocks_of h c s
  pub length_is : length t.table ≡ 64
  pub totals : TotalsKept t

pub transfer_invariant_start : (h c : ℕ) (s : State) → length s.table ≡ 64 → TotalsKept s → TransferInvariant h c s s 0
unfolding excess_transferred
transfer_invariant_start h c s long kept = record { transfers_left = refl; superblocks_left = omega arith; length_is = long; totals = kept }

-- no more moves than superblocks, so the count fits
pub transfer_count_fits_w8 : (h c : ℕ) (s t : State) (m : ℕ) → TransferInvariant h c s t m → Fits w8 (m + 1)
transfer_count_fits_w8 h c s t m d = omega (arith, superblocks_of_le_64 h c s)

pub excess_transferred_at_loop_end : (h c : ℕ) (s t : State) (m : ℕ) (must : Bool) → TransferInvariant h c s t m → must ≡ must_move h c t → must ≡ false
    → ◌≡◌ {A = Moved} (record { moves = m; state = t }) (excess_transferred h c s)
excess_transferred_at_loop_end h c s t m must d e f = sym (transfers_up_to_stop (64 - m) h c m t (sym e ∙ f)) ∙ d.transfers_left

-- one move: a superblock less, and the state that it leaves
module _ (h c : ℕ) (t next : State) (must : Bool) (found : Option ℕ) (long : length t.table ≡ 64) (pos : 0 < h) (asked : must ≡ must_move h c t)
    (holds : must ≡ true)
    (chosen : found ≡ emptiest h c t) (next_is : next ≡ found_transferred found t) where
  next_is_emptiest_transferred : next ≡ found_transferred (emptiest h c t) t
  next_is_emptiest_transferred = next_is ∙ ap (λ (f : Option ℕ). found_transferred f t) chosen

  must_move_true : must_move h c t ≡ true
  must_move_true = sym asked ∙ holds

  one_superblock_less : superblocks_of h c next + 1 ≡ superblocks_of h c t
  one_superblock_less = ap (λ (x : State). superblocks_of h c x + 1) next_is_emptiest_transferred ∙ superblocks_after_transfer h c t long pos
      (T_of_true (must_move h c t) must_move_true)

  pub superblocks_decrease : superblocks_of h c next < superblocks_of h c t
  superblocks_decrease = omega (arith, one_superblock_less)

  pub transfer_invariant_step : (s : State) (m : ℕ) → TransferInvariant h c s t m → TransferInvariant h c s next (m + 1)
  transfer_invariant_step s m d =
      let low : m < 64 = omega (arith, superblocks_of_le_64 h c s, one_superblock_less) in
      let fuel : suc (64 - (m + 1)) ≡ 64 - m = omega arith in
      record {
        transfers_left = ap (λ (x : State). transfers_up_to (64 - (m + 1)) h c (m + 1) x) next_is_emptiest_transferred
            ∙ sym (transfers_up_to_step (64 - (m + 1)) h c m t must_move_true) ∙ ap (λ (k : ℕ). transfers_up_to k h c m t) fuel ∙ d.transfers_left;
        superblocks_left = omega (arith, one_superblock_less);
        length_is = ap (λ (x : State). length x.table) next_is ∙ length_of_found_transferred found t ∙ long;
        totals = subst TotalsKept (sym next_is) (totals_kept_of_found_transferred found t d.totals);
      }

-- what closes the goals of transfer_excess that have no answer
pub ruleset transfer_rules = (transfer_invariant_start, transfer_count_fits_w8, superblocks_decrease, excess_transferred_at_loop_end)
