-- Laws of a free, in the page's words. Assumes nothing.
use mathlib.Core.Path.{◌≡◌, refl, sym, ap, ◌∙◌, subst}
use mathlib.Core.Bool.{Bool, true, false, not}
use mathlib.Core.Logic.{◌⊎◌, inl, inr, ⊎_elim}
use mathlib.Core.List.{List}
use Prim.Native.Nat.{ℕ, suc, ◌*◌, ◌≤◌, ◌<◌}
use native.Mathlib.Nat.{mul-one}
use native.Mathlib.Decide.{ℕ_discrete}
use native.Mathlib.Omega.{arith}
use lib.Dec.{eqb}
use Rattle.base_laws.specs.Sums.{pick, one}
use Rattle.base_laws.proofs.TestLaws.{T_of_true, pick_true, pick_false}
use Rattle.base_laws.proofs.SumLaws.{sum_cong}
use Rattle.marks_rules.specs.Marks.{mark_bit}
use Rattle.names_rules.specs.Names.{block_number, without_block}
use Rattle.heap_rules.specs.declared.Setup.{Setup}
use Rattle.heap_rules.specs.declared.State.{State}
use Rattle.heap_rules.specs.Table.{run_owner, superblock_at}
use Rattle.heap_rules.specs.Counts.{owners_changed, passed_between_heaps}
use Rattle.move_rules.specs.Moves.{invariant_restored}
use Rattle.heap_laws.proofs.StateFacts.{Shape, TransferredFrom}
use Rattle.heap_laws.proofs.PassedBetweenHeapsLaws.{passed_between_heaps_is_owners_changed}
use Rattle.call_rules.specs.declared.Outcome.TheVariants.{Moves}
use Rattle.call_rules.specs.Answers.{After, refused, is_processor}
use Rattle.call_rules.specs.Take.{address_of}
use Rattle.call_rules.specs.Free.{superblock_index, superblock_holding, block_of, is_unmapped, is_in_run, is_misaligned, is_live_at, address_refusal}
use Rattle.call_rules.specs.Free.{block_pushed}
use Rattle.call_rules.specs.Free.{small_block_freed, long_block_freed, small_freed_at, long_freed_at, freed_at, free_unchecked, free_of}
use Rattle.call_rules.proofs.AddressRefusalLaws.{no_refusal_of_live_block}
use Rattle.call_laws.proofs.CheckedLaws.{checked_refused_or_passed, bounds_of_is_processor}
use Rattle.call_laws.proofs.CallEffects.{Passed, PassedAfterFrees, AddressAccepted, FreeAccepted, LongFreeAccepted, FreeEffect, LongFreeEffect}
use Rattle.call_laws.proofs.CallEffects.{RanksKept, RankedLatest}
use Rattle.call_laws.proofs.TransferredLaws.{one_more_freed, none_freed, one_more_freed_of_pair, one_more_freed_of_others, none_freed_of_pair}
use Rattle.call_laws.proofs.TransferredLaws.{none_freed_of_others, passed_after_no_frees, passed_of_no_frees_left, transferred_live}
use Rattle.call_laws.proofs.TransferredLaws.{transferred_class, transferred_rank, transferred_owner, runs_kept_by_transfers}
use Rattle.call_laws.proofs.InvariantRestoredLaws.{InvariantRestored, restored_facts, restored_shape, restored_passed}
use Rattle.call_laws.proofs.BlockFreedLaws.{freed_address, freed_superblock_lt_64, freed_superblock_owner_le, small_block_freed_effect}
use Rattle.call_laws.proofs.BlockFreedLaws.{small_block_freed_owner, small_block_freed_names, small_block_freed_ranks, small_block_freed_shape}
use Rattle.call_laws.proofs.BlockFreedLaws.{small_block_freed_passed}
use Rattle.call_laws.proofs.RunFreedLaws.{freed_run_address, freed_run_block, long_block_freed_effect, long_block_freed_names}
use Rattle.call_laws.proofs.RunFreedLaws.{long_block_freed_ranks, long_block_freed_shape, long_block_freed_passed}

-- a free is refused and changes nothing, or is accepted: of a block of a class, or of a long block
pub free_refused_or_accepted : (s : State) (order : List ℕ) (i a : ℕ) → ((r : ℕ) × (free_of s order i a ≡ refused r s order))
    ⊎ (FreeAccepted s order i a ⊎ LongFreeAccepted s order i a)
unfolding free_of free_unchecked freed_at
free_refused_or_accepted s order i a = by_check (checked_refused_or_passed s order (free_unchecked s order i a))
  where
    tests : (p w o l : Bool) → After
    tests p w o l =
        pick (not p) (refused 2 s order)
        (pick w (refused 5 s order)
        (pick o (refused 6 s order)
        (pick (not l) (refused 7 s order) (freed_at s order a))))

    by_run : AddressAccepted s order i a → free_of s order i a ≡ freed_at s order a → (r : Bool) → is_in_run s a ≡ r → FreeAccepted s order i a
        ⊎ LongFreeAccepted s order i a
    by_run address e true q = inr (record { address = address; in_run = q; result_is = e ∙ pick_true (is_in_run s a) _ _ q })
    by_run address e false q = inl (record { address = address; outside_run = q; result_is = e ∙ pick_false (is_in_run s a) _ _ q })

    by_tests : (p w o l : Bool) → is_processor s i ≡ p → is_unmapped s a ≡ w → is_misaligned s a ≡ o → is_live_at s a ≡ l → Passed s order
        → free_of s order i a ≡ tests p w o l
        → ((r : ℕ) × (free_of s order i a ≡ refused r s order)) ⊎ (FreeAccepted s order i a ⊎ LongFreeAccepted s order i a)
    by_tests false w o l ep ew eo el passed e = inl (2, e)
    by_tests true true o l ep ew eo el passed e = inl (5, e)
    by_tests true false true l ep ew eo el passed e = inl (6, e)
    by_tests true false false false ep ew eo el passed e = inl (7, e)
    by_tests true false false true ep ew eo el passed e =
        inr (by_run (record {
          passed = passed;
          processor = bounds_of_is_processor s i (T_of_true (is_processor s i) ep);
          mapped = ew;
          block_aligned = eo;
          live = el;
        }) e (is_in_run s a) refl)

    by_check : ((r : ℕ) × (free_of s order i a ≡ refused r s order)) ⊎ (Passed s order × (free_of s order i a ≡ free_unchecked s order i a))
        → ((r : ℕ) × (free_of s order i a ≡ refused r s order)) ⊎ (FreeAccepted s order i a ⊎ LongFreeAccepted s order i a)
    by_check (inl r) = inl r
    by_check (inr (passed, e)) = by_tests (is_processor s i) (is_unmapped s a) (is_misaligned s a) (is_live_at s a) refl refl refl refl passed e

-- a live block starts at an accepted address
pub no_refusal_of_accepted_address : (s : State) (order : List ℕ) (i a : ℕ) → AddressAccepted s order i a → address_refusal s a ≡ 0
no_refusal_of_accepted_address s order i a acc = no_refusal_of_live_block s a acc.mapped acc.block_aligned acc.live

-- "the q and reported moves of a free .. [count] only those that pass between heaps" (document 02, item 7): each superblock that a free of a block of
-- a class moves does
pub free_passed_between_heaps : (c k j moves : ℕ) (s t : State) → FreeEffect c k j moves s t → passed_between_heaps s t ≡ moves
free_passed_between_heaps c k j moves s t e = passed_between_heaps_is_owners_changed s t (λ m l. of_heaps m (e.owners m l)) ∙ e.changed
  where
    of_heaps : (m : ℕ) → ((superblock_at t m).owner ≡ (superblock_at s m).owner)
        ⊎ (((superblock_at s m).owner ≡ (superblock_at s k).owner) × ((superblock_at t m).owner ≡ 0))
        → ((superblock_at t m).owner ≡ (superblock_at s m).owner) ⊎ (((superblock_at s m).owner < run_owner) × ((superblock_at t m).owner < run_owner))
    of_heaps m (inl same) = inl same
    of_heaps m (inr (was, now)) = inr (subst (λ (o : ℕ). o < run_owner) (sym was) e.owned_before, omega arith)

-- the moves of heap h and class c, after a block of theirs is freed
freed_then_transferred : (c k j h moves : ℕ) (s r t : State) → FreeEffect c k j 0 s r
    → ((m : ℕ) → m < 64 → (superblock_at r m).owner ≡ (superblock_at s m).owner) → k < 64 → (superblock_at s k).owner ≡ h
    → TransferredFrom h c r t → owners_changed r t ≡ moves → moves ≤ s.setup.q → FreeEffect c k j moves s t
unfolding owners_changed
freed_then_transferred c k j h moves s r t e same l mine from changed bound =
    record {
      below = e.below;
      class_lt_27 = e.class_lt_27;
      block = e.block;
      setup = from.setup ∙ e.setup;
      class_before = e.class_before;
      owned_before = e.owned_before;
      was_marked = e.was_marked;
      not_marked = bits k l j ∙ e.not_marked;
      marks = λ m b lm apart small. bits m lm b ∙ e.marks m b lm apart small;
      classes = λ m lm. transferred_class h c r t from m lm ∙ e.classes m lm;
      owners = λ m lm. ⊎_elim (λ q. inl (q ∙ same m lm)) (λ q. inr (sym (same m lm) ∙ q.0 ∙ sym mine, q.1)) (transferred_owner h c r t from m lm);
      changed =
          sum_cong (λ m. one (not (eqb (superblock_at s m).owner (superblock_at t m).owner)))
          (λ m. one (not (eqb (superblock_at r m).owner (superblock_at t m).owner))) 64
          (λ m lm. ap (λ (x : ℕ). one (not (eqb x (superblock_at t m).owner))) (sym (same m lm)))
          ∙ changed;
      moves_le_q = bound;
      owned = λ d. from.owned d ∙ e.owned d;
      live_of_class_lem = e.live_of_class_lem ∙ ap suc (sym (from.live c));
      live_of_others = λ d apart. from.live d ∙ e.live_of_others d apart;
      runs = λ m lm. let kept = runs_kept_by_transfers h c r t from (subst (λ (o : ℕ). o < run_owner) mine e.owned_before) m lm in
          (kept.0 ∙ (e.runs m lm).0, kept.1 ∙ (e.runs m lm).1);
    }
  where
    bits : (m : ℕ) → m < 64 → (b : ℕ) → mark_bit (superblock_at t m).live b ≡ mark_bit (superblock_at r m).live b
    bits m lm b = ap (λ (x : List ℕ). mark_bit x b) (transferred_live h c r t from m lm)

-- ---- of a block of a class
module _ (s : State) (order : List ℕ) (i a : ℕ) (shape : Shape s) (acc : FreeAccepted s order i a) where
  -- the moves that it reports
  abbrev pub moves : ℕ
  moves = (invariant_restored (superblock_holding s a).owner (superblock_holding s a).class (small_block_freed s a)).moves

  pub free_outcome : (free_of s order i a).answer.outcome ≡ Moves moves
  unfolding small_freed_at
  free_outcome = ap (λ (x : After). x.answer.outcome) acc.result_is

  -- ---- its block is freed from a state with no frees to follow up
  abbrev none : ℕ → ℕ → ℕ
  none h c = 0

  start : PassedAfterFrees none s order
  start = passed_after_no_frees s order acc.address.passed

  no_refusal : address_refusal s a ≡ 0
  no_refusal = no_refusal_of_accepted_address s order i a acc.address

  -- the address is that of the block that is freed
  pub free_address : a ≡ address_of (superblock_index a) (superblock_holding s a).class (block_of s a)
  free_address = freed_address none s order a shape start no_refusal acc.outside_run

  effect : FreeEffect (superblock_holding s a).class (superblock_index a) (block_of s a) 0 s (small_block_freed s a)
  effect = small_block_freed_effect none s order a shape start no_refusal acc.outside_run

  -- ---- and one free of its heap and class is followed up
  abbrev freed : ℕ → ℕ → ℕ
  freed = one_more_freed (superblock_holding s a).owner (superblock_holding s a).class none

  passed_when_freed : PassedAfterFrees freed (small_block_freed s a) (block_pushed s order a)
  passed_when_freed = small_block_freed_passed none s order a shape start no_refusal acc.outside_run

  owner_le : (superblock_holding s a).owner ≤ (small_block_freed s a).setup.processors
  owner_le = subst (λ (u : Setup). (superblock_holding s a).owner ≤ u.processors) (sym effect.setup)
      (freed_superblock_owner_le none s order a shape start no_refusal acc.outside_run)

  restored : InvariantRestored (superblock_holding s a).owner (superblock_holding s a).class 1 (small_block_freed s a)
      (invariant_restored (superblock_holding s a).owner (superblock_holding s a).class (small_block_freed s a))
  restored =
      subst (λ (n : ℕ). InvariantRestored (superblock_holding s a).owner (superblock_holding s a).class n (small_block_freed s a)
      (invariant_restored (superblock_holding s a).owner (superblock_holding s a).class (small_block_freed s a)))
      (one_more_freed_of_pair (superblock_holding s a).owner (superblock_holding s a).class none)
      (restored_facts freed (small_block_freed s a) (block_pushed s order a)
      (small_block_freed_shape none s order a shape start no_refusal acc.outside_run) passed_when_freed (superblock_holding s a).owner
      (superblock_holding s a).class owner_le effect.class_lt_27)

  free_state_is : (free_of s order i a).answer.state ≡ (invariant_restored (superblock_holding s a).owner (superblock_holding s a).class
      (small_block_freed s a)).state
  unfolding small_freed_at
  free_state_is = ap (λ (x : After). x.answer.state) acc.result_is

  free_order_is : (free_of s order i a).order ≡ block_pushed s order a
  unfolding small_freed_at
  free_order_is = ap (λ (x : After). x.order) acc.result_is

  pub free_effect : FreeEffect (superblock_holding s a).class (superblock_index a) (block_of s a) moves s (free_of s order i a).answer.state
  free_effect =
      subst (λ (t : State). FreeEffect (superblock_holding s a).class (superblock_index a) (block_of s a) moves s t) (sym free_state_is)
      (freed_then_transferred (superblock_holding s a).class (superblock_index a) (block_of s a) (superblock_holding s a).owner moves s
      (small_block_freed s a) _ effect (small_block_freed_owner none s order a shape start no_refusal acc.outside_run)
      (freed_superblock_lt_64 none s order a shape start no_refusal acc.outside_run) refl restored.from restored.changed
      (subst (λ (x : ℕ). moves ≤ x) (mul-one s.setup.q) (subst (λ (u : Setup). moves ≤ u.q * 1) effect.setup restored.moves_bound)))

  -- "A name holds .. until its block is freed": the block's name is let go, and no other
  pub free_names : (free_of s order i a).answer.state.names ≡ without_block s.names (block_number (superblock_index a) (block_of s a))
  free_names = ap (λ (t : State). t.names) free_state_is ∙ restored.from.names ∙ small_block_freed_names none s order a shape start no_refusal
      acc.outside_run

  -- the superblock goes to the front of the ranking, in whatever heap it is and whatever moves follow
  pub free_ranks : RankedLatest (superblock_index a) s (free_of s order i a).answer.state
  free_ranks m l =
      ap (λ (t : State). (superblock_at t m).rank) free_state_is
      ∙ transferred_rank (superblock_holding s a).owner (superblock_holding s a).class (small_block_freed s a) _ restored.from m l
      ∙ small_block_freed_ranks none s order a shape start no_refusal acc.outside_run m l

  pub free_shape : Shape (free_of s order i a).answer.state
  free_shape =
      subst Shape (sym free_state_is)
      (restored_shape freed (small_block_freed s a) (block_pushed s order a)
      (small_block_freed_shape none s order a shape start no_refusal acc.outside_run) passed_when_freed (superblock_holding s a).owner
      (superblock_holding s a).class owner_le effect.class_lt_27)

  -- an accepted free yields a state that passes
  pub free_passed : Passed (free_of s order i a).answer.state (free_of s order i a).order
  free_passed =
      subst (λ (t : State). Passed t (free_of s order i a).order) (sym free_state_is)
      (subst (λ (l : List ℕ). Passed (invariant_restored (superblock_holding s a).owner (superblock_holding s a).class (small_block_freed s a)).state l)
      (sym free_order_is)
      (passed_of_no_frees_left (none_freed (superblock_holding s a).owner (superblock_holding s a).class freed) _ (block_pushed s order a)
      (λ h c low high known. none_left h c)
      (restored_passed freed (small_block_freed s a) (block_pushed s order a)
      (small_block_freed_shape none s order a shape start no_refusal acc.outside_run) passed_when_freed (superblock_holding s a).owner
      (superblock_holding s a).class owner_le effect.class_lt_27)))
    where
      none_left : (h c : ℕ) → none_freed (superblock_holding s a).owner (superblock_holding s a).class freed h c ≡ 0
      none_left h c = go (ℕ_discrete h (superblock_holding s a).owner) (ℕ_discrete c (superblock_holding s a).class)
        where
          other : ((h ≡ (superblock_holding s a).owner) × (c ≡ (superblock_holding s a).class) → ⊥) → none_freed (superblock_holding s a).owner
              (superblock_holding s a).class freed h c ≡ 0
          other apart = none_freed_of_others (superblock_holding s a).owner (superblock_holding s a).class freed h c apart
              ∙ one_more_freed_of_others (superblock_holding s a).owner (superblock_holding s a).class none h c apart

          go : Dec (h ≡ (superblock_holding s a).owner) → Dec (c ≡ (superblock_holding s a).class) → none_freed (superblock_holding s a).owner
              (superblock_holding s a).class freed h c ≡ 0
          go (yes e) (yes g) = rw (e, g) (none_freed_of_pair (superblock_holding s a).owner (superblock_holding s a).class freed)
          go (yes e) (no g) = other (λ q. g q.1)
          go (no e) q = other (λ r. e r.0)

-- ---- of a long block
module _ (s : State) (order : List ℕ) (i a : ℕ) (shape : Shape s) (acc : LongFreeAccepted s order i a) where
  -- "Its free line has moved 0"
  pub long_free_outcome : (free_of s order i a).answer.outcome ≡ Moves 0
  unfolding long_freed_at
  long_free_outcome = ap (λ (x : After). x.answer.outcome) acc.result_is

  state_is : (free_of s order i a).answer.state ≡ long_block_freed s a
  unfolding long_freed_at
  state_is = ap (λ (x : After). x.answer.state) acc.result_is

  -- "order places keep what they had"
  pub long_free_order : (free_of s order i a).order ≡ order
  unfolding long_freed_at
  long_free_order = ap (λ (x : After). x.order) acc.result_is

  abbrev nothing : ℕ → ℕ → ℕ
  nothing h c = 0

  begin : PassedAfterFrees nothing s order
  begin = passed_after_no_frees s order acc.address.passed

  no_refusal_of_run : address_refusal s a ≡ 0
  no_refusal_of_run = no_refusal_of_accepted_address s order i a acc.address

  -- the address is the start of the run, whose block is block 0 of its first superblock
  pub long_free_address : a ≡ superblock_index a * 4096
  long_free_address = freed_run_address nothing s order a shape begin no_refusal_of_run acc.in_run

  pub long_free_block : block_of s a ≡ 0
  long_free_block = freed_run_block nothing s order a shape begin no_refusal_of_run acc.in_run

  -- "a free makes the whole run unused"
  pub long_free_effect : LongFreeEffect (superblock_index a) (superblock_holding s a).run s (free_of s order i a).answer.state
  long_free_effect = subst (LongFreeEffect (superblock_index a) (superblock_holding s a).run s) (sym state_is)
      (long_block_freed_effect nothing s order a shape begin no_refusal_of_run acc.in_run)

  pub long_free_names : (free_of s order i a).answer.state.names ≡ without_block s.names (block_number (superblock_index a) 0)
  long_free_names = ap (λ (t : State). t.names) state_is ∙ long_block_freed_names nothing s order a shape begin no_refusal_of_run acc.in_run

  -- its superblocks had no rank, and get none
  pub long_free_ranks : RanksKept s (free_of s order i a).answer.state
  long_free_ranks = subst (RanksKept s) (sym state_is) (long_block_freed_ranks nothing s order a shape begin no_refusal_of_run acc.in_run)

  pub long_free_shape : Shape (free_of s order i a).answer.state
  long_free_shape = subst Shape (sym state_is) (long_block_freed_shape nothing s order a shape begin no_refusal_of_run acc.in_run)

  -- and an accepted free of a long block yields a state that passes
  pub long_free_passed : Passed (free_of s order i a).answer.state (free_of s order i a).order
  long_free_passed =
      subst (λ (t : State). Passed t (free_of s order i a).order) (sym state_is)
      (subst (Passed (long_block_freed s a)) (sym long_free_order)
      (passed_of_no_frees_left nothing (long_block_freed s a) order (λ h c low high known. refl)
      (long_block_freed_passed nothing s order a shape begin no_refusal_of_run acc.in_run)))
