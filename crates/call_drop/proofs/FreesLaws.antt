-- The frees of a drop, address by address as the code goes. Assumes nothing.
use mathlib.Core.Path.{◌≡◌, refl, ap, ◌∙◌, subst, sym}
use mathlib.Core.List.{List, [], ◌∷◌}
use Prim.Native.Nat.{ℕ, zero, suc, ◌+◌, ◌≤◌, ◌<◌}
use native.Mathlib.Nat.{le_of_suc-le-suc, not-suc-le-zero}
use native.Mathlib.Numerals.{add-one}
use lib.ListN.{length, get_or, take}
use lib.Seq.{take_all}
use Rattle.heap_rules.specs.declared.State.{State}
use Rattle.heap_rules.specs.Totals.{TotalsKept}
use Rattle.heap_rules.specs.Ranks.{RanksFit}
use Rattle.call_rules.specs.Free.{superblock_index, superblock_holding, order_pushed, block_freed}
use Rattle.call_laws.proofs.TotalsKeptLaws.{all_freed_recounted}
use Rattle.call_laws.proofs.OrderWriteLaws.{block_freed_setup}
use Rattle.call_rules.specs.Drop.{all_freed, all_pushed}
use Rattle.call_drop.specs.DropSteps.{FreesSafe}

-- ---- the frees at one address more
pub all_freed_at_next : (s : State) (addresses : List ℕ) (i : ℕ) → i < length addresses → all_freed s (take (suc i) addresses)
    ≡ block_freed (all_freed s (take i addresses)) (get_or addresses i 0)
unfolding all_freed
all_freed_at_next s [] i l = absurd (not-suc-le-zero l)
all_freed_at_next s (a ∷ addresses) zero l = refl
all_freed_at_next s (a ∷ addresses) (suc i) l = all_freed_at_next (block_freed s a) addresses i (le_of_suc-le-suc l)

pub all_pushed_at_next : (s : State) (order addresses : List ℕ) (i : ℕ) → i < length addresses
    → all_pushed s order (take (suc i) addresses) ≡ order_pushed (all_freed s (take i addresses)) (all_pushed s order (take i addresses)) (get_or addresses i 0)
unfolding all_pushed all_freed
all_pushed_at_next s order [] i l = absurd (not-suc-le-zero l)
all_pushed_at_next s order (a ∷ addresses) zero l = refl
all_pushed_at_next s order (a ∷ addresses) (suc i) l = all_pushed_at_next (block_freed s a) (order_pushed s order a) addresses i (le_of_suc-le-suc l)

-- ---- what they keep
pub all_freed_keeps_setup : (s : State) (addresses : List ℕ) → (all_freed s addresses).setup ≡ s.setup
unfolding all_freed
all_freed_keeps_setup s [] = refl
all_freed_keeps_setup s (a ∷ addresses) = all_freed_keeps_setup (block_freed s a) addresses ∙ block_freed_setup s a

pub all_freed_keeps_totals : (s : State) (addresses : List ℕ) → TotalsKept s → TotalsKept (all_freed s addresses)
all_freed_keeps_totals = all_freed_recounted

-- ---- the loop: the frees below i are made
pub record FreesMade (s : State) (order addresses : List ℕ) (i : ℕ) (t : State) (pushed : List ℕ) : Type 0 where
  pub freed_are : t ≡ all_freed s (take i addresses)
  pub pushed_are : pushed ≡ all_pushed s order (take i addresses)

pub no_frees_made : (s : State) (order addresses : List ℕ) → FreesMade s order addresses 0 s order
unfolding all_freed all_pushed
no_frees_made s order addresses = record { freed_are = refl; pushed_are = refl }

module _ (s t : State) (order addresses pushed : List ℕ) (i : ℕ) (made : FreesMade s order addresses i t pushed) where
  pub free_can_be_made : FreesSafe s addresses → i < length addresses → (superblock_index (get_or addresses i 0) < 64)
      × (superblock_index (get_or addresses i 0) + (superblock_holding t (get_or addresses i 0)).run ≤ 64) × TotalsKept t × RanksFit t
  free_can_be_made safe l =
      let at = safe i l in (
        at.in_table,
        subst (λ (x : State). superblock_index (get_or addresses i 0) + (superblock_holding x (get_or addresses i 0)).run ≤ 64) (sym made.freed_are)
            at.run_in_table,
        subst TotalsKept (sym made.freed_are) at.totals,
        subst RanksFit (sym made.freed_are) at.ranks,
      )

  pub free_made : (next : State) (new : List ℕ) → i < length addresses → new ≡ order_pushed t pushed (get_or addresses i 0)
      → next ≡ block_freed t (get_or addresses i 0) → FreesMade s order addresses (i + 1) next new
  free_made next new l en et = record {
    freed_are = et ∙ ap (λ (x : State). block_freed x (get_or addresses i 0)) made.freed_are ∙ sym (all_freed_at_next s addresses i l)
        ∙ ap (λ (n : ℕ). all_freed s (take n addresses)) (sym (add-one i));
    pushed_are = rw (en, made.freed_are, made.pushed_are, add-one) (sym (all_pushed_at_next s order addresses i l));
  }

  pub all_frees_made : length addresses ≤ i → (t ≡ all_freed s addresses) × (pushed ≡ all_pushed s order addresses)
  all_frees_made end = (made.freed_are ∙ ap (all_freed s) (take_all i addresses end), made.pushed_are ∙ ap (all_pushed s order) (take_all i addresses end))
