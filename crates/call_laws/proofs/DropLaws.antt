-- Laws of a drop, in the page's words (document 02, item 5). Assumes nothing.
use mathlib.Core.Path.{◌≡◌, refl, sym, ap, ◌∙◌, subst}
use mathlib.Core.Bool.{Bool, true, false, not}
use mathlib.Core.Logic.{◌⊎◌, inl, inr}
use mathlib.Core.List.{List}
use Prim.Native.Nat.{ℕ, suc, ◌+◌, ◌*◌, ◌≤◌, ◌<◌}
use native.Mathlib.Nat.{mul-le-mul_left, pos_of_ne-zero}
use native.Mathlib.Omega.{arith}
use borrow.Author.Tests.{eqb-true, eqb-false}
use lib.ListN.{length, get_or, take}
use lib.Dec.{T, eqb}
use Rattle.base_laws.specs.Sums.{pick, sum_below}
use Rattle.class_rules.specs.Classes.{class_count}
use Rattle.base_laws.proofs.TestLaws.{T_of_true}
use Rattle.heap_rules.specs.declared.Superblock.{Superblock}
use Rattle.heap_rules.specs.declared.Setup.{Setup}
use Rattle.heap_rules.specs.declared.State.{State}
use Rattle.heap_rules.specs.Table.{run_owner, unused_owner, superblock_at, with_owner}
use Rattle.heap_rules.specs.Counts.{superblocks_of_class, passed_between_heaps}
use Rattle.heap_rules.specs.Totals.{TotalsKept}
use Rattle.heap_rules.specs.Ranks.{RanksFit}
use Rattle.check_rules.specs.Check.{passes}
use Rattle.heap_laws.proofs.StateFacts.{Shape}
use Rattle.heap_laws.proofs.PassedBetweenHeapsLaws.{passed_between_heaps_is_owners_changed, passed_between_heaps_from_same}
use Rattle.call_rules.specs.declared.Outcome.TheVariants.{Moves}
use Rattle.call_rules.specs.Answers.{After, refused, is_processor}
use Rattle.call_rules.specs.Free.{superblock_index, superblock_holding, is_in_run}
use Rattle.call_rules.specs.Drop.{all_freed, all_pushed, first_address_refusal, is_touched, drop_moves, dropped_all, drop_unchecked, drop_of}
use Rattle.call_rules.specs.DropLoops.{heaps_restored}
use Rattle.call_rules.proofs.TouchedPairLaws.{drop_moves_by_heaps}
use Rattle.call_laws.proofs.CallEffects.{Passed, PassedAfterFrees}
use Rattle.call_laws.proofs.CheckedLaws.{checked_refused_or_passed, bounds_of_is_processor, passed_of_passes}
use Rattle.call_laws.proofs.TransferredLaws.{passed_after_no_frees, passed_of_no_frees_left, passed_after_frees_cong}
use Rattle.call_laws.proofs.AllFreedLaws.{freed_of, freed_of_untouched, freed_of_heaps_le_length, AllFreed, all_freed_lem, OfHeapAndClass, frees_in_table}
use Rattle.call_laws.proofs.DropTransfersLaws.{Transfers, PairsRestored, all_pairs_restored}

-- an accepted drop: the state passes, the processor is in range, there is an address, and the frees one by one meet no refusal
pub record DropAccepted (s : State) (order : List ℕ) (i : ℕ) (addresses : List ℕ) : Type 0 where
  pub passed : Passed s order
  pub processor : (1 ≤ i) × (i ≤ s.setup.processors)
  pub some : 0 < length addresses
  pub no_refusal : first_address_refusal s addresses ≡ 0
  pub result_is : drop_of s order i addresses ≡ dropped_all s order addresses

-- a drop is refused and changes nothing, or is accepted
pub drop_refused_or_accepted : (s : State) (order : List ℕ) (i : ℕ) (addresses : List ℕ) → ((r : ℕ) × (drop_of s order i addresses ≡ refused r s order))
    ⊎ DropAccepted s order i addresses
unfolding drop_of drop_unchecked
drop_refused_or_accepted s order i addresses = by_check (checked_refused_or_passed s order (drop_unchecked s order i addresses))
  where
    tests : (p e f : Bool) → After
    tests p e f = pick (not p) (refused 2 s order)
        (pick e (refused 16 s order) (pick f (dropped_all s order addresses) (refused (first_address_refusal s addresses) s order)))

    by_tests : (p e f : Bool) → is_processor s i ≡ p → eqb (length addresses) 0 ≡ e → eqb (first_address_refusal s addresses) 0 ≡ f → Passed s order
        → drop_of s order i addresses ≡ tests p e f
        → ((r : ℕ) × (drop_of s order i addresses ≡ refused r s order)) ⊎ DropAccepted s order i addresses
    by_tests false e f ep ee ef passed q = inl (2, q)
    by_tests true true f ep ee ef passed q = inl (16, q)
    by_tests true false false ep ee ef passed q = inl (first_address_refusal s addresses, q)
    by_tests true false true ep ee ef passed q =
        inr (record {
          passed = passed;
          processor = bounds_of_is_processor s i (T_of_true (is_processor s i) ep);
          some = pos_of_ne-zero (eqb-false (length addresses) 0 ee);
          no_refusal = eqb-true (first_address_refusal s addresses) 0 ef;
          result_is = q;
        })

    by_check : ((r : ℕ) × (drop_of s order i addresses ≡ refused r s order))
        ⊎ (Passed s order × (drop_of s order i addresses ≡ drop_unchecked s order i addresses))
        → ((r : ℕ) × (drop_of s order i addresses ≡ refused r s order)) ⊎ DropAccepted s order i addresses
    by_check (inl r) = inl r
    by_check (inr (passed, e)) = by_tests (is_processor s i) (eqb (length addresses) 0) (eqb (first_address_refusal s addresses) 0) refl refl refl passed e

-- what an accepted drop does to owners and classes: the superblocks of the blocks' heaps and classes that its moves passed to heap 0, those of the runs that it
-- freed, and nothing else
pub record DropEffect (addresses : List ℕ) (moves : ℕ) (s t : State) : Type 0 where
  pub setup : t.setup ≡ s.setup
  pub classes : (k : ℕ) → k < 64 → (superblock_at t k).class ≡ (superblock_at s k).class
  -- an owner stays, or was a processor heap's that lost a block of that class, and is 0, or was a run's, and the superblock is unused
  pub owners : (k : ℕ) → k < 64
      → ((superblock_at t k).owner ≡ (superblock_at s k).owner)
      ⊎ (((0 < (superblock_at s k).owner) × ((superblock_at s k).owner < run_owner)
      × T (is_touched s addresses (superblock_at s k).owner (superblock_at s k).class) × ((superblock_at t k).owner ≡ 0))
      ⊎ (((superblock_at s k).owner ≡ run_owner) × ((superblock_at t k).owner ≡ unused_owner)))
  -- "an accepted one changes exactly as many owners as it reports moves", where "the q and reported moves of a free or drop [count] only those that
  -- pass between heaps" (item 7)
  pub passed_between_heaps_lem : passed_between_heaps s t ≡ moves
  -- "a drop moves at most q superblocks for each address"
  pub moves_bound : moves ≤ s.setup.q * length addresses
  pub owned : (d : ℕ) → superblocks_of_class d t ≡ superblocks_of_class d s

module _ (s : State) (order addresses : List ℕ) (shape : Shape s) (start : Passed s order) (ok : first_address_refusal s addresses ≡ 0) where
  -- ---- the frees
  pub drop_frees : AllFreed (λ h c. 0) s order addresses
  drop_frees = all_freed_lem (λ h c. 0) s order addresses shape (passed_after_no_frees s order start) ok

  freed_passed : PassedAfterFrees (freed_of s addresses) (all_freed s addresses) (all_pushed s order addresses)
  freed_passed = passed_after_frees_cong (λ h c. 0 + freed_of s addresses h c) (freed_of s addresses) (all_freed s addresses) (all_pushed s order addresses)
      (λ h c l. omega arith) drop_frees.passed

  -- ---- the moves
  abbrev bound : ℕ
  bound = sum_below (λ i. sum_below (freed_of s addresses (suc i)) class_count) s.setup.processors

  abbrev Below : ℕ → ℕ → Type 0
  Below i d = (1 ≤ i) × (i ≤ s.setup.processors) × (d < class_count)

  restored : PairsRestored (is_touched s addresses) (freed_of s addresses) (all_freed s addresses) (all_pushed s order addresses) Below bound
      (drop_moves s addresses)
  restored =
      subst (PairsRestored (is_touched s addresses) (freed_of s addresses) (all_freed s addresses) (all_pushed s order addresses) Below bound)
      (sym (drop_moves_by_heaps s addresses))
      (subst (λ (p : ℕ). PairsRestored (is_touched s addresses) (freed_of s addresses) (all_freed s addresses) (all_pushed s order addresses)
      (λ i d. (1 ≤ i) × (i ≤ p) × (d < class_count)) (sum_below (λ i. sum_below (freed_of s addresses (suc i)) class_count) p)
      (heaps_restored (is_touched s addresses) p (record { moves = 0; state = all_freed s addresses })))
      (ap (λ (u : Setup). u.processors) drop_frees.setup)
      (all_pairs_restored (is_touched s addresses) (freed_of s addresses) (all_freed s addresses) (all_pushed s order addresses)
      (freed_of_untouched s addresses) drop_frees.shape freed_passed))

  pub drop_transfers : Transfers (is_touched s addresses) (all_freed s addresses) (drop_moves s addresses).state (drop_moves s addresses).moves
  drop_transfers = restored.transfers

  pub dropped_shape : Shape (drop_moves s addresses).state
  dropped_shape = restored.shape

  dropped_setup : (drop_moves s addresses).state.setup ≡ s.setup
  dropped_setup = drop_transfers.setup ∙ drop_frees.setup

  -- an accepted drop yields a state that passes
  pub dropped_passed : Passed (drop_moves s addresses).state (all_pushed s order addresses)
  dropped_passed =
      passed_of_no_frees_left restored.left (drop_moves s addresses).state (all_pushed s order addresses)
      (λ h c low high known. restored.none_left h c (low, subst (λ (u : Setup). h ≤ u.processors) dropped_setup high, known)) restored.passed

  abbrev before : State
  before = all_freed s addresses

  abbrev after : State
  after = (drop_moves s addresses).state

  abbrev Each : ℕ → Type 0
  Each k =
      (superblock_at after k ≡ superblock_at before k)
      ⊎ ((0 < (superblock_at before k).owner) × ((superblock_at before k).owner < run_owner)
      × T (is_touched s addresses (superblock_at before k).owner (superblock_at before k).class)
      × (superblock_at after k ≡ with_owner 0 (superblock_at before k)))

  -- no superblock passes between heaps by the frees, and one that a move passes on was a heap's and is heap 0's
  passed_by_moves : passed_between_heaps s after ≡ (drop_moves s addresses).moves
  passed_by_moves =
      passed_between_heaps_from_same s before after (λ k l. same_heap k (drop_frees.owners k l))
      ∙ passed_between_heaps_is_owners_changed before after (λ k l. of_heaps k (drop_transfers.each k l))
      ∙ drop_transfers.changed
    where
      same_heap : (k : ℕ) → ((superblock_at before k).owner ≡ (superblock_at s k).owner)
          ⊎ (((superblock_at s k).owner ≡ run_owner) × ((superblock_at before k).owner ≡ unused_owner))
          → ((superblock_at s k).owner ≡ (superblock_at before k).owner)
          ⊎ ((run_owner ≤ (superblock_at s k).owner) × (run_owner ≤ (superblock_at before k).owner))
      same_heap k (inl e) = inl (sym e)
      same_heap k (inr (was, now)) = inr (omega arith, omega arith)

      of_heaps : (k : ℕ) → Each k → ((superblock_at after k).owner ≡ (superblock_at before k).owner)
          ⊎ (((superblock_at before k).owner < run_owner) × ((superblock_at after k).owner < run_owner))
      of_heaps k (inl e) = inl (ap (λ (b : Superblock). b.owner) e)
      of_heaps k (inr w) = let zero : (superblock_at after k).owner ≡ 0 = ap (λ (b : Superblock). b.owner) w.3 in inr (w.1, omega arith)

  pub dropped_effect : DropEffect addresses (drop_moves s addresses).moves s (drop_moves s addresses).state
  dropped_effect =
      record {
        setup = dropped_setup;
        classes = λ k l. class_kept k (drop_transfers.each k l) ∙ drop_frees.classes k l;
        owners = λ k l. owner_now k l (drop_transfers.each k l) (drop_frees.owners k l);
        passed_between_heaps_lem = passed_by_moves;
        moves_bound =
            let few = subst (λ (u : Setup). (drop_moves s addresses).moves ≤ u.q * bound) drop_frees.setup restored.moves_bound in
            let all = mul-le-mul_left s.setup.q (freed_of_heaps_le_length s s.setup.processors addresses) in
            omega arith;
        owned = λ d. drop_transfers.owned d ∙ drop_frees.owned d;
      }
    where
      class_kept : (k : ℕ) → Each k → (superblock_at after k).class ≡ (superblock_at before k).class
      class_kept k (inl e) = ap (λ (b : Superblock). b.class) e
      class_kept k (inr w) = ap (λ (b : Superblock). b.class) w.3

      owner_now : (k : ℕ) → k < 64 → Each k → ((superblock_at before k).owner ≡ (superblock_at s k).owner)
          ⊎ (((superblock_at s k).owner ≡ run_owner) × ((superblock_at before k).owner ≡ unused_owner))
          → ((superblock_at after k).owner ≡ (superblock_at s k).owner)
          ⊎ (((0 < (superblock_at s k).owner) × ((superblock_at s k).owner < run_owner)
          × T (is_touched s addresses (superblock_at s k).owner (superblock_at s k).class) × ((superblock_at after k).owner ≡ 0))
          ⊎ (((superblock_at s k).owner ≡ run_owner) × ((superblock_at after k).owner ≡ unused_owner)))
      owner_now k l (inl e) (inl q) = inl (ap (λ (b : Superblock). b.owner) e ∙ q)
      owner_now k l (inl e) (inr (was, now)) = inr (inr (was, ap (λ (b : Superblock). b.owner) e ∙ now))
      owner_now k l (inr w) (inl q) =
          inr (inl (
            subst (λ (o : ℕ). 0 < o) q w.0,
            subst (λ (o : ℕ). o < run_owner) q w.1,
            subst (λ (o : ℕ). T (is_touched s addresses o (superblock_at s k).class)) q
                (subst (λ (c : ℕ). T (is_touched s addresses (superblock_at before k).owner c)) (drop_frees.classes k l) w.2),
            ap (λ (b : Superblock). b.owner) w.3,
          ))
      owner_now k l (inr w) (inr (was, now)) = absurd (let z : ⊥ = omega (arith, w.1) in z)

-- ---- of the call
module _ (s : State) (order : List ℕ) (i : ℕ) (addresses : List ℕ) (shape : Shape s) (acc : DropAccepted s order i addresses) where
  pub drop_outcome : (drop_of s order i addresses).answer.outcome ≡ Moves (drop_moves s addresses).moves
  unfolding dropped_all
  drop_outcome = ap (λ (x : After). x.answer.outcome) acc.result_is

  pub drop_state_is : (drop_of s order i addresses).answer.state ≡ (drop_moves s addresses).state
  unfolding dropped_all
  drop_state_is = ap (λ (x : After). x.answer.state) acc.result_is

  pub drop_order_is : (drop_of s order i addresses).order ≡ all_pushed s order addresses
  unfolding dropped_all
  drop_order_is = ap (λ (x : After). x.order) acc.result_is

  pub drop_effect : DropEffect addresses (drop_moves s addresses).moves s (drop_of s order i addresses).answer.state
  drop_effect = subst (DropEffect addresses (drop_moves s addresses).moves s) (sym drop_state_is)
      (dropped_effect s order addresses shape acc.passed acc.no_refusal)

  pub drop_shape : Shape (drop_of s order i addresses).answer.state
  drop_shape = subst Shape (sym drop_state_is) (dropped_shape s order addresses shape acc.passed acc.no_refusal)

  pub drop_passed : Passed (drop_of s order i addresses).answer.state (drop_of s order i addresses).order
  drop_passed =
      subst (λ (t : State). Passed t (drop_of s order i addresses).order) (sym drop_state_is)
      (subst (λ (l : List ℕ). Passed (drop_moves s addresses).state l) (sym drop_order_is)
      (dropped_passed s order addresses shape acc.passed acc.no_refusal))

-- ---- for code: each address of an accepted drop lies in the table, in a superblock of a heap and class where it was in no run before the drop, and
-- in the state before its free the run that may begin there ends in the table, and that state keeps totals and ranks
pub frees_safe : (s : State) (order addresses : List ℕ) → Shape s → passes s order ≡ true → s.setup.superblocks * 256 ≤ length order
    → first_address_refusal s addresses ≡ 0 → (i : ℕ) → i < length addresses
    → (superblock_index (get_or addresses i 0) < 64) × (is_in_run s (get_or addresses i 0) ≡ false → OfHeapAndClass s (get_or addresses i 0))
    × (superblock_index (get_or addresses i 0) + (superblock_holding (all_freed s (take i addresses)) (get_or addresses i 0)).run ≤ 64)
    × TotalsKept (all_freed s (take i addresses)) × RanksFit (all_freed s (take i addresses))
frees_safe s order addresses shape e room ok i l =
    frees_in_table (λ h c. 0) s order addresses shape (passed_after_no_frees s order (passed_of_passes s order e room)) ok i l
