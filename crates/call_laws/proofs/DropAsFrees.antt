-- A drop beside the frees of its addresses one by one (document 02, item 5). Assumes nothing.
use mathlib.Core.Path.{◌≡◌, refl, sym, ap, ap₂, ◌∙◌, subst}
use mathlib.Core.Bool.{Bool, true, false, not}
use mathlib.Core.Logic.{◌⊎◌, inl, inr}
use mathlib.Core.List.{List, [], ◌∷◌}
use Prim.Native.Nat.{ℕ, zero, suc, ◌+◌, ◌*◌, ◌≤◌, ◌<◌}
use native.Mathlib.Nat.{le_refl, pos_of_ne-zero}
use native.Mathlib.Decide.{ℕ_discrete, dec_lt}
use native.Mathlib.Omega.{arith}
use borrow.Author.Tests.{leb-true, eqb-true, eq-eqb, ne_eqb}
use lib.ListN.{length, get_or-eq_default}
use lib.Dec.{eqb, leb}
use Rattle.base_laws.specs.Sums.{pick, both, either}
use Rattle.class_rules.specs.Classes.{class_count}
use Rattle.base_laws.proofs.Inequalities.{le_of_not_below}
use Rattle.base_laws.proofs.TestLaws.{T_of_true, pick_true, pick_false}
use Rattle.marks_rules.specs.Marks.{mark_bit}
use Rattle.heap_rules.specs.declared.Superblock.{Superblock}
use Rattle.heap_rules.specs.declared.State.{State}
use Rattle.heap_rules.specs.declared.Moved.{Moved}
use Rattle.heap_rules.specs.Table.{unused_owner, blank, unused, superblock_at}
use Rattle.heap_rules.specs.Counts.{belongs}
use Rattle.check_rules.specs.Check.{within_limits, rest_valid, passes}
use Rattle.move_rules.specs.Moves.{invariant_restored}
use Rattle.heap_laws.proofs.StateFacts.{Shape}
use Rattle.heap_laws.proofs.RunLaws.{Outside, side_of_range, outside_not_inside}
use Rattle.heap_laws.proofs.RunsKeptLaws.{owner_of_run}
use Rattle.call_rules.specs.declared.Outcome.TheVariants.{Moves}
use Rattle.call_rules.specs.Answers.{After, number_of, refused, checked, is_processor}
use Rattle.call_rules.specs.Free.{superblock_index, superblock_holding, block_of, is_in_run, address_refusal, order_pushed, block_freed, small_freed_at}
use Rattle.call_rules.specs.Free.{long_freed_at}
use Rattle.call_rules.specs.Free.{freed_at, free_unchecked, free_of}
use Rattle.call_rules.specs.DropLoops.{classes_restored, heaps_restored}
use Rattle.call_rules.proofs.TouchedPairLaws.{drop_moves_by_heaps}
use Rattle.call_rules.specs.Drop.{all_freed, all_pushed, first_address_refusal, is_touched, then_restored, drop_moves, dropped_all, drop_unchecked, drop_of}
use Rattle.call_rules.proofs.AddressRefusalLaws.{mapped_of_no_refusal, aligned_of_no_refusal, live_of_no_refusal, free_unchecked_by_address_refusal}
use Rattle.call_laws.proofs.CallEffects.{Passed, PassedAfterFrees, AddressAccepted, FreeAccepted, LongFreeAccepted, FreeEffect, LongFreeEffect}
use Rattle.call_laws.proofs.CheckedLaws.{bounds_of_is_processor, passed_of_passes}
use Rattle.call_laws.proofs.AddressLaws.{mapped_below_64, mapped_is_owned, block_at_address_same}
use Rattle.call_laws.proofs.TransferredLaws.{one_more_freed, passed_after_no_frees}
use Rattle.call_laws.proofs.BlockFreedLaws.{small_block_freed_effect}
use Rattle.call_laws.proofs.RunFreedLaws.{long_block_freed_effect}
use Rattle.call_laws.proofs.AddressFreedLaws.{block_freed_outside_run, order_pushed_outside_run, block_freed_in_run, order_pushed_in_run}
use Rattle.call_laws.proofs.AddressFreedLaws.{AddressFreed, address_freed}
use Rattle.call_laws.proofs.FreeLaws.{free_outcome, free_effect, free_shape, free_passed, long_free_outcome, long_free_effect, long_free_shape}
use Rattle.call_laws.proofs.FreeLaws.{long_free_passed}
use Rattle.call_laws.proofs.RefusalOrder.{free_is_unchecked}
use Rattle.call_laws.proofs.AddressReadsLaws.{SameReads, same_reads_refl, SamePlaces, same_places_refl, same_places_sym, same_places_trans}
use Rattle.call_laws.proofs.AddressReadsLaws.{SameMarks, refusal_in_other}
use Rattle.heap_rules.specs.Runs.{InRun}

-- ---- the check before a drop is that before a free
-- what holds of the two refusals of the check, and of what follows it on a state that passes, holds of the two calls
checked_both : (P : After → After → Type 0) (s : State) (order : List ℕ) (x y : After) → P (refused 13 s order) (refused 13 s order)
    → P (refused 12 s order) (refused 12 s order) → (Passed s order → P x y) → P (checked s order x) (checked s order y)
unfolding checked passes
checked_both P s order x y limits short next = go (within_limits s.setup) (leb (s.setup.superblocks * 256) (length order))
    (rest_valid s order) refl refl refl
  where
    go : (a b c : Bool) → within_limits s.setup ≡ a → leb (s.setup.superblocks * 256) (length order) ≡ b → rest_valid s order ≡ c
        → P (pick a (pick b (pick c x (refused 13 s order)) (refused 12 s order)) (refused 13 s order))
        (pick a (pick b (pick c y (refused 13 s order)) (refused 12 s order)) (refused 13 s order))
    go false b c e f g = limits
    go true false c e f g = short
    go true true false e f g = limits
    go true true true e f g = next (passed_of_passes s order (ap₂ both e g) (leb-true (s.setup.superblocks * 256) (length order) f))

-- ---- one heap and class touched
module _ (touched : ℕ → ℕ → Bool) where
  classes_untouched : (h n : ℕ) (m : Moved) → ((c : ℕ) → c < n → touched h c ≡ false) → classes_restored touched h n m ≡ m
  unfolding classes_restored
  classes_untouched h zero m none = refl
  classes_untouched h (suc n) m none = pick_false (touched h n) _ _ (none n (le_refl (suc n))) ∙ classes_untouched h n m (λ c l. none c (omega arith))

  heaps_untouched : (n : ℕ) (m : Moved) → ((h c : ℕ) → 1 ≤ h → h ≤ n → c < class_count → touched h c ≡ false) → heaps_restored touched n m ≡ m
  unfolding heaps_restored
  heaps_untouched zero m none = refl
  heaps_untouched (suc n) m none =
      classes_untouched (suc n) class_count _ (λ c l. none (suc n) c (omega arith) (le_refl (suc n)) l)
      ∙ heaps_untouched n m (λ h c low high l. none h c low (omega arith) l)

  module _ (i d : ℕ) (is : touched i d ≡ true) (only : (h c : ℕ) → ((h ≡ i) × (c ≡ d) → ⊥) → touched h c ≡ false) where
    one_class_touched : (n : ℕ) (m : Moved) → d < n → classes_restored touched i n m ≡ then_restored i d m
    unfolding classes_restored
    one_class_touched zero m l = absurd (let z : ⊥ = omega arith in z)
    one_class_touched (suc n) m l = go (ℕ_discrete n d) (one_class_touched n m)
      where
        go : Dec (n ≡ d) → (d < n → classes_restored touched i n m ≡ then_restored i d m)
            → pick (touched i n) (then_restored i n (classes_restored touched i n m)) (classes_restored touched i n m) ≡ then_restored i d m
        go (yes e) rest =
            pick_true (touched i n) _ _ (ap (touched i) e ∙ is)
            ∙ ap₂ (λ (c : ℕ) (x : Moved). then_restored i c x) e (classes_untouched i n m (λ c lc. only i c (λ q. let z : c ≡ d = q.1 in omega arith)))
        go (no f) rest = pick_false (touched i n) _ _ (only i n (λ q. f q.1)) ∙ rest (omega arith)

    one_pair_touched : (n : ℕ) (m : Moved) → 1 ≤ i → i ≤ n → d < class_count → heaps_restored touched n m ≡ then_restored i d m
    unfolding heaps_restored
    one_pair_touched zero m low high known = absurd (let z : ⊥ = omega arith in z)
    one_pair_touched (suc n) m low high known = go (ℕ_discrete (suc n) i) (one_pair_touched n m low)
      where
        go : Dec (suc n ≡ i) → (i ≤ n → d < class_count → heaps_restored touched n m ≡ then_restored i d m) → classes_restored touched (suc n) class_count
            (heaps_restored touched n m) ≡ then_restored i d m
        go (yes e) rest =
            ap₂ (λ (h : ℕ) (x : Moved). classes_restored touched h class_count x) e
            (heaps_untouched n m (λ h c l g k. only h c (λ q. let z : h ≡ i = q.0 in omega arith)))
            ∙ one_class_touched class_count m known
        go (no f) rest = classes_untouched (suc n) class_count _ (λ c l. only (suc n) c (λ q. f q.0)) ∙ rest (omega arith) known

-- ---- a drop of one address
module _ (s : State) (order : List ℕ) (a : ℕ) (passed : Passed s order) (accepted : address_refusal s a ≡ 0) where
  abbrev owner : ℕ
  owner = (superblock_holding s a).owner

  abbrev class : ℕ
  class = (superblock_holding s a).class

  touches : is_touched s (a ∷ []) owner class ≡ true
  unfolding is_touched belongs
  touches = ap₂ (λ (x y : Bool). either (both x y) false) (eq-eqb owner owner refl) (eq-eqb class class refl)

  touches_no_other : (h c : ℕ) → ((h ≡ owner) × (c ≡ class) → ⊥) → is_touched s (a ∷ []) h c ≡ false
  unfolding is_touched belongs
  touches_no_other h c apart = go (ℕ_discrete owner h) (ℕ_discrete class c)
    where
      go : Dec (owner ≡ h) → Dec (class ≡ c) → either (both (eqb owner h) (eqb class c)) false ≡ false
      go (yes e) (yes f) = absurd (apart (sym e, sym f))
      go (yes e) (no f) = rw (eq-eqb owner h e, ne_eqb class c f)
      go (no e) f = rw (ne_eqb owner h e)

  abbrev none : Moved
  none = record { moves = 0; state = block_freed s a }

  restored_alone : then_restored owner class none ≡ invariant_restored owner class (block_freed s a)
  unfolding then_restored
  restored_alone = ap (λ (n : ℕ). record { moves = n; state = (invariant_restored owner class (block_freed s a)).state })
      (let z : 0 + (invariant_restored owner class (block_freed s a)).moves ≡ (invariant_restored owner class (block_freed s a)).moves = omega arith in z)

  -- of a block of a class: the move rule for its heap and class
  moves_of_small : is_in_run s a ≡ false → drop_moves s (a ∷ []) ≡ invariant_restored owner class (block_freed s a)
  unfolding all_freed invariant_restored
  moves_of_small small = drop_moves_by_heaps s (a ∷ []) ∙ go (ℕ_discrete owner 0)
    where
      go : Dec (owner ≡ 0) → heaps_restored (is_touched s (a ∷ [])) s.setup.processors none ≡ invariant_restored owner class (block_freed s a)
      go (yes e) =
          heaps_untouched (is_touched s (a ∷ [])) s.setup.processors none
          (λ h c low high l. touches_no_other h c (λ q. let z : h ≡ owner = q.0 in omega arith))
          ∙ sym (pick_true (eqb owner 0) _ _ (eq-eqb owner 0 e))
      go (no f) =
          let owned = mapped_is_owned s order a passed.sound (mapped_of_no_refusal s a accepted) small in
          one_pair_touched (is_touched s (a ∷ [])) owner class touches touches_no_other s.setup.processors none (pos_of_ne-zero f) owned.owner
          owned.class
          ∙ restored_alone

  -- of a long block: no heap is touched
  moves_of_long : is_in_run s a ≡ true → drop_moves s (a ∷ []) ≡ none
  unfolding all_freed
  moves_of_long long =
      drop_moves_by_heaps s (a ∷ [])
      ∙ heaps_untouched (is_touched s (a ∷ [])) s.setup.processors none
      (λ h c low high l. touches_no_other h c (λ q. let z : h ≡ owner = q.0 in
      omega (arith, owner_of_run (superblock_holding s a) long, passed.sound.numbers.processors_high)))

  abbrev dropped : Moved → List ℕ → After
  dropped m pushed = record { answer = record { outcome = Moves m.moves; state = m.state }; order = pushed }

  dropped_one_is_freed : dropped_all s order (a ∷ []) ≡ freed_at s order a
  unfolding dropped_all freed_at small_freed_at long_freed_at all_pushed
  dropped_one_is_freed = go (is_in_run s a) refl
    where
      go : (t : Bool) → is_in_run s a ≡ t → dropped (drop_moves s (a ∷ [])) (order_pushed s order a) ≡ pick (is_in_run s a) (long_freed_at s order a)
          (small_freed_at s order a)
      go true e =
          ap₂ dropped (moves_of_long e ∙ ap (λ (t : State). record { moves = 0; state = t }) (block_freed_in_run s a e)) (order_pushed_in_run s a order e)
          ∙ sym (pick_true (is_in_run s a) _ _ e)
      go false e =
          ap₂ dropped (moves_of_small e ∙ ap (invariant_restored owner class) (block_freed_outside_run s a e)) (order_pushed_outside_run s a order e)
          ∙ sym (pick_false (is_in_run s a) _ _ e)

first_refusal_of_one : (s : State) (a : ℕ) → first_address_refusal s (a ∷ []) ≡ address_refusal s a
unfolding first_address_refusal
first_refusal_of_one s a = go (ℕ_discrete (address_refusal s a) 0)
  where
    go : Dec (address_refusal s a ≡ 0) → pick (eqb (address_refusal s a) 0) 0 (address_refusal s a) ≡ address_refusal s a
    go (yes e) = pick_true (eqb (address_refusal s a) 0) _ _ (eq-eqb (address_refusal s a) 0 e) ∙ sym e
    go (no f) = pick_false (eqb (address_refusal s a) 0) _ _ (ne_eqb (address_refusal s a) 0 f)

-- A drop of one address is the free of it, on every state: the same answer, state and order places.
pub drop_of_one_is_free : (s : State) (order : List ℕ) (i a : ℕ) → drop_of s order i (a ∷ []) ≡ free_of s order i a
unfolding drop_of free_of drop_unchecked
drop_of_one_is_free s order i a =
    checked_both (λ x y. x ≡ y) s order (drop_unchecked s order i (a ∷ [])) (free_unchecked s order i a) refl refl
    (λ passed.
    ap (λ (n : ℕ). pick (not (is_processor s i)) (refused 2 s order) (pick (eqb n 0) (dropped_all s order (a ∷ [])) (refused n s order)))
    (first_refusal_of_one s a)
    ∙ ap (pick (not (is_processor s i)) (refused 2 s order)) (by_refusal passed (ℕ_discrete (address_refusal s a) 0))
    ∙ sym (free_unchecked_by_address_refusal s order i a))
  where
    by_refusal : Passed s order → Dec (address_refusal s a ≡ 0)
        → pick (eqb (address_refusal s a) 0) (dropped_all s order (a ∷ [])) (refused (address_refusal s a) s order) ≡ pick (eqb (address_refusal s a) 0)
        (freed_at s order a) (refused (address_refusal s a) s order)
    by_refusal passed (yes e) = ap (λ (x : After). pick (eqb (address_refusal s a) 0) x (refused (address_refusal s a) s order))
        (dropped_one_is_freed s order a passed e)
    by_refusal passed (no f) = pick_false (eqb (address_refusal s a) 0) _ _ (ne_eqb (address_refusal s a) 0 f)
        ∙ sym (pick_false (eqb (address_refusal s a) 0) _ _ (ne_eqb (address_refusal s a) 0 f))

-- ---- what 5, 6 and 7 read of a state, before and after a free
-- a free of a block of a class keeps places, with its moves and without
same_places_of_free : (c k j moves : ℕ) (s t : State) → FreeEffect c k j moves s t → SamePlaces s t
same_places_of_free c k j moves s t e =
    record {
      setup = e.setup;
      each = λ m l. record {
        unused = kept m (e.owners m l);
        class = e.classes m l;
        of_run = (e.runs m l).0;
        run = (e.runs m l).1;
      };
    }
  where
    kept : (m : ℕ) → ((superblock_at t m).owner ≡ (superblock_at s m).owner)
        ⊎ (((superblock_at s m).owner ≡ (superblock_at s k).owner) × ((superblock_at t m).owner ≡ 0)) → eqb (superblock_at t m).owner unused_owner
        ≡ eqb (superblock_at s m).owner unused_owner
    kept m (inl same) = ap (λ (o : ℕ). eqb o unused_owner) same
    kept m (inr (was, now)) =
        ne_eqb (superblock_at t m).owner unused_owner (λ (q : (superblock_at t m).owner ≡ unused_owner). omega arith)
        ∙ sym (ne_eqb (superblock_at s m).owner unused_owner (λ (q : (superblock_at s m).owner ≡ unused_owner). omega (arith, e.owned_before)))

-- a free with its moves in one state, and the block freed in another with the same places and marks, leave such states again
same_marks_after : (c d k j i moves more : ℕ) (s t s' t' : State) → j ≡ i → FreeEffect c k j moves s s' → FreeEffect d k i more t t' → SameMarks s t
    → SameMarks s' t'
same_marks_after c d k j i moves more s t s' t' e f g same m b l small = go (ℕ_discrete m k) (ℕ_discrete b j)
  where
    other : ((m ≡ k) × (b ≡ j) → ⊥) → mark_bit (superblock_at t' m).live b ≡ mark_bit (superblock_at s' m).live b
    other apart = g.marks m b l (λ q. apart (q.0, q.1 ∙ sym e)) small ∙ same m b l small ∙ sym (f.marks m b l apart small)

    go : Dec (m ≡ k) → Dec (b ≡ j) → mark_bit (superblock_at t' m).live b ≡ mark_bit (superblock_at s' m).live b
    go (yes p) (yes q) = rw (p, q) (rw e g.not_marked ∙ sym f.not_marked)
    go (yes p) (no h) = other (λ q. h q.1)
    go (no h) q = other (λ r. h r.0)

-- so do the frees of one long block in both: its superblocks are unused then, and no other changes
module _ (k n : ℕ) (s t s' t' : State) (f : LongFreeEffect k n s s') (g : LongFreeEffect k n t t') where
  by_side : (P : Superblock → Superblock → Type 0) → P unused unused → ((m : ℕ) → m < 64 → P (superblock_at s m) (superblock_at t m)) → (m : ℕ) → m < 64
      → P (superblock_at s' m) (superblock_at t' m)
  by_side P here others m l = go (side_of_range k n m)
    where
      go : Outside k n m ⊎ InRun k n m → P (superblock_at s' m) (superblock_at t' m)
      go (inl out) =
          let apart : InRun k n m → ⊥ = λ inside. outside_not_inside k n m out inside.0 inside.1 in
          subst (λ (x : Superblock). P x (superblock_at t' m)) (sym (f.others m apart)) (subst (P (superblock_at s m)) (sym (g.others m apart)) (others m l))
      go (inr inside) = subst (λ (x : Superblock). P x (superblock_at t' m)) (sym (f.run m inside)) (subst (P unused) (sym (g.run m inside)) here)

  same_places_after_run : SamePlaces s t → SamePlaces s' t'
  same_places_after_run same = record { setup = g.setup ∙ same.setup ∙ sym f.setup; each = by_side SameReads (same_reads_refl unused) same.each }

  same_marks_after_run : SameMarks s t → SameMarks s' t'
  same_marks_after_run same m b l small = by_side (λ x y. mark_bit y.live b ≡ mark_bit x.live b) refl (λ i li. same i b li small) m l

-- ---- "the frees one by one, in the order written"
-- the number of the first refusal that they answer, each on what the one before left, its moves and all; 0 where none is refused
unfoldable pub one_by_one_refusal : State → List ℕ → ℕ → List ℕ → ℕ
one_by_one_refusal s order i [] = 0
one_by_one_refusal s order i (a ∷ addresses) =
    pick (eqb (number_of (free_of s order i a).answer.outcome) 0)
    (one_by_one_refusal (free_of s order i a).answer.state (free_of s order i a).order i addresses)
    (number_of (free_of s order i a).answer.outcome)

-- a free for a processor in range is accepted, or refused with the refusal of its address
module _ (s : State) (order : List ℕ) (i a : ℕ) (passed : Passed s order) (known : is_processor s i ≡ true) where
  free_by_refusal : free_of s order i a ≡ pick (eqb (address_refusal s a) 0) (freed_at s order a) (refused (address_refusal s a) s order)
  free_by_refusal = free_is_unchecked s order i passed a ∙ free_unchecked_by_address_refusal s order i a ∙ rw known

  free_refused_of_address : (address_refusal s a ≡ 0 → ⊥) → free_of s order i a ≡ refused (address_refusal s a) s order
  free_refused_of_address f = free_by_refusal ∙ pick_false (eqb (address_refusal s a) 0) _ _ (ne_eqb (address_refusal s a) 0 f)

  module _ (e : address_refusal s a ≡ 0) where
    address_accepted : AddressAccepted s order i a
    address_accepted =
        record {
          passed = passed;
          processor = bounds_of_is_processor s i (T_of_true (is_processor s i) known);
          mapped = mapped_of_no_refusal s a e;
          block_aligned = aligned_of_no_refusal s a e;
          live = live_of_no_refusal s a e;
        }

    free_is_freed : free_of s order i a ≡ freed_at s order a
    free_is_freed = free_by_refusal ∙ pick_true (eqb (address_refusal s a) 0) _ _ (eq-eqb (address_refusal s a) 0 e)

    small_free_accepted : is_in_run s a ≡ false → FreeAccepted s order i a
    unfolding freed_at
    small_free_accepted small = record { address = address_accepted; outside_run = small; result_is = free_is_freed ∙ pick_false (is_in_run s a) _ _ small }

    long_free_accepted : is_in_run s a ≡ true → LongFreeAccepted s order i a
    unfolding freed_at
    long_free_accepted long = record { address = address_accepted; in_run = long; result_is = free_is_freed ∙ pick_true (is_in_run s a) _ _ long }

    free_number_is_0 : Shape s → number_of (free_of s order i a).answer.outcome ≡ 0
    unfolding number_of
    free_number_is_0 shape = go (is_in_run s a) refl
      where
        go : (t : Bool) → is_in_run s a ≡ t → number_of (free_of s order i a).answer.outcome ≡ 0
        go true q = ap number_of (long_free_outcome s order i a shape (long_free_accepted q))
        go false q = ap number_of (free_outcome s order i a shape (small_free_accepted q))

-- state s, with the moves of the frees so far, beside state t, without them
record Beside (i : ℕ) (freed : ℕ → ℕ → ℕ) (s : State) (order : List ℕ) (t : State) (places : List ℕ) : Type 0 where
  shape : Shape s
  passed : Passed s order
  known : is_processor s i ≡ true
  shape_beside : Shape t
  passed_beside : PassedAfterFrees freed t places
  same : SamePlaces s t
  marks : SameMarks s t

module _ (i : ℕ) (freed : ℕ → ℕ → ℕ) (s : State) (order : List ℕ) (t : State) (places : List ℕ) (b : Beside i freed s order t places) (a : ℕ) where
  refusal_beside : address_refusal t a ≡ address_refusal s a
  refusal_beside =
      refusal_in_other s t order places b.passed.sound b.passed_beside.sound a b.same.setup (b.same.each (superblock_index a))
      (λ small. marks_at small (dec_lt (superblock_index a) 64))
    where
      marks_at : block_of s a < 256 → Dec (superblock_index a < 64) → mark_bit (superblock_holding t a).live (block_of s a)
          ≡ mark_bit (superblock_holding s a).live (block_of s a)
      marks_at small (yes l) = b.marks (superblock_index a) (block_of s a) l small
      marks_at small (no f) =
          let far = le_of_not_below f in
          ap (λ (x : Superblock). mark_bit x.live (block_of s a)) (get_or-eq_default t.table blank (omega (arith, b.shape_beside.length_is))
          ∙ sym (get_or-eq_default s.table blank (omega (arith, b.shape.length_is))))

  -- one free more in both
  module _ (e : address_refusal s a ≡ 0) where
    accepted_beside : address_refusal t a ≡ 0
    accepted_beside = refusal_beside ∙ e

    below : superblock_index a < 64
    below = mapped_below_64 s order a b.passed.sound (mapped_of_no_refusal s a e)

    block_same : block_of s a ≡ block_of t a
    block_same = block_at_address_same t s b.shape_beside.length_is b.shape.length_is (λ k l. sym (b.same.each k l).class) a

    there : AddressFreed freed t places a
    there = address_freed freed t places a b.shape_beside b.passed_beside accepted_beside

    abbrev Next : Type 0
    Next = Beside i (one_more_freed (superblock_holding t a).owner (superblock_holding t a).class freed) (free_of s order i a).answer.state
        (free_of s order i a).order (block_freed t a) (order_pushed t places a)

    next_small : is_in_run s a ≡ false → Next
    unfolding is_processor
    next_small small =
        let accepted = small_free_accepted s order i a b.passed b.known e small in
        let here = free_effect s order i a b.shape accepted in
        let small_beside : is_in_run t a ≡ false = (b.same.each (superblock_index a) below).of_run ∙ small in
        let beside : FreeEffect (superblock_holding t a).class (superblock_index a) (block_of t a) 0 t (block_freed t a) =
        subst (FreeEffect (superblock_holding t a).class (superblock_index a) (block_of t a) 0 t) (sym (block_freed_outside_run t a small_beside))
        (small_block_freed_effect freed t places a b.shape_beside b.passed_beside accepted_beside small_beside) in
        record {
          shape = free_shape s order i a b.shape accepted;
          passed = free_passed s order i a b.shape accepted;
          known = rw here.setup b.known;
          shape_beside = there.shape;
          passed_beside = there.passed;
          same = same_places_trans _ s _ (same_places_sym s _ (same_places_of_free _ _ _ _ s _ here))
              (same_places_trans s t _ b.same (same_places_of_free _ _ _ _ t _ beside));
          marks = same_marks_after _ _ _ _ _ _ _ s t _ _ block_same here beside b.marks;
        }

    next_long : is_in_run s a ≡ true → Next
    unfolding is_processor
    next_long long =
        let accepted = long_free_accepted s order i a b.passed b.known e long in
        let here = long_free_effect s order i a b.shape accepted in
        let reads = b.same.each (superblock_index a) below in
        let long_beside : is_in_run t a ≡ true = reads.of_run ∙ long in
        let beside : LongFreeEffect (superblock_index a) (superblock_holding s a).run t (block_freed t a) =
        subst (λ (n : ℕ). LongFreeEffect (superblock_index a) n t (block_freed t a)) reads.run
        (subst (LongFreeEffect (superblock_index a) (superblock_holding t a).run t) (sym (block_freed_in_run t a long_beside))
        (long_block_freed_effect freed t places a b.shape_beside b.passed_beside accepted_beside long_beside)) in
        record {
          shape = long_free_shape s order i a b.shape accepted;
          passed = long_free_passed s order i a b.shape accepted;
          known = rw here.setup b.known;
          shape_beside = there.shape;
          passed_beside = there.passed;
          same = same_places_after_run _ _ s t _ _ here beside b.same;
          marks = same_marks_after_run _ _ s t _ _ here beside b.marks;
        }

    next : Next
    next = go (is_in_run s a) refl
      where
        go : (r : Bool) → is_in_run s a ≡ r → Next
        go true q = next_long q
        go false q = next_small q

-- what 5, 6 and 7 read is the same in both, so they meet the same refusal
one_by_one_beside : (i : ℕ) (freed : ℕ → ℕ → ℕ) (s : State) (order : List ℕ) (t : State) (places addresses : List ℕ) → Beside i freed s order t places
    → one_by_one_refusal s order i addresses ≡ first_address_refusal t addresses
unfolding one_by_one_refusal first_address_refusal number_of
one_by_one_beside i freed s order t places [] b = refl
one_by_one_beside i freed s order t places (a ∷ addresses) b =
    go (ℕ_discrete (address_refusal s a) 0) (λ e. one_by_one_beside i (one_more_freed (superblock_holding t a).owner (superblock_holding t a).class freed)
    (free_of s order i a).answer.state (free_of s order i a).order (block_freed t a)
    (order_pushed t places a) addresses (next i freed s order t places b a e))
  where
    x : After
    x = free_of s order i a

    go : Dec (address_refusal s a ≡ 0)
        → (address_refusal s a ≡ 0 → one_by_one_refusal x.answer.state x.order i addresses ≡ first_address_refusal (block_freed t a) addresses)
        → pick (eqb (number_of x.answer.outcome) 0) (one_by_one_refusal x.answer.state x.order i addresses) (number_of x.answer.outcome)
        ≡ pick (eqb (address_refusal t a) 0) (first_address_refusal (block_freed t a) addresses) (address_refusal t a)
    go (yes e) rest =
        pick_true (eqb (number_of x.answer.outcome) 0) _ _
        (eq-eqb (number_of x.answer.outcome) 0 (free_number_is_0 s order i a b.passed b.known e b.shape))
        ∙ rest e ∙ sym (pick_true (eqb (address_refusal t a) 0) _ _ (eq-eqb (address_refusal t a) 0 (refusal_beside i freed s order t places b a ∙ e)))
    go (no f) rest =
        let is : number_of x.answer.outcome ≡ address_refusal s a =
        ap (λ (y : After). number_of y.answer.outcome) (free_refused_of_address s order i a b.passed b.known f) in
        pick_false (eqb (number_of x.answer.outcome) 0) _ _ (ne_eqb (number_of x.answer.outcome) 0 (λ z. f (sym is ∙ z))) ∙ is
        ∙ sym (refusal_beside i freed s order t places b a)
        ∙ sym (pick_false (eqb (address_refusal t a) 0) _ _ (ne_eqb (address_refusal t a) 0 (λ z. f (sym (refusal_beside i freed s order t places b a) ∙ z))))

-- On a state that passes, and for a processor in range, the frees one by one, each with its moves, meet the refusal by which a drop goes, or none as it does.
pub one_by_one_refusal_is_first_refusal : (s : State) (order : List ℕ) (i : ℕ) (addresses : List ℕ) → Shape s → Passed s order → is_processor s i ≡ true
    → one_by_one_refusal s order i addresses ≡ first_address_refusal s addresses
one_by_one_refusal_is_first_refusal s order i addresses shape passed known =
    one_by_one_beside i (λ h c. 0) s order s order addresses
    (record {
      shape = shape;
      passed = passed;
      known = known;
      shape_beside = shape;
      passed_beside = passed_after_no_frees s order passed;
      same = same_places_refl s;
      marks = λ k b l small. refl;
    })

-- the number of a drop behind the check, for a processor in range
drop_number_is_first_refusal : (s : State) (order : List ℕ) (i a : ℕ) (addresses : List ℕ) → is_processor s i ≡ true
    → number_of (drop_unchecked s order i (a ∷ addresses)).answer.outcome ≡ first_address_refusal s (a ∷ addresses)
unfolding drop_unchecked dropped_all number_of
drop_number_is_first_refusal s order i a addresses known = rw (known, ne_eqb (length (a ∷ addresses)) 0 (λ e. omega arith))
    (go (eqb (first_address_refusal s (a ∷ addresses)) 0) refl)
  where
    go : (f : Bool) → eqb (first_address_refusal s (a ∷ addresses)) 0 ≡ f
        → number_of (pick f (dropped_all s order (a ∷ addresses)) (refused (first_address_refusal s (a ∷ addresses)) s order)).answer.outcome
        ≡ first_address_refusal s (a ∷ addresses)
    go true e = sym (eqb-true (first_address_refusal s (a ∷ addresses)) 0 e)
    go false e = refl

-- "accepted only if the frees one by one, in the order written, would meet none", and else refused as the first of them that is refused: on every state, for
-- each count but 0
pub drop_number_is_of_frees_one_by_one : (s : State) (order : List ℕ) (i a : ℕ) (addresses : List ℕ) → Shape s
    → number_of (drop_of s order i (a ∷ addresses)).answer.outcome ≡ one_by_one_refusal s order i (a ∷ addresses)
unfolding drop_of free_of drop_unchecked free_unchecked one_by_one_refusal number_of
drop_number_is_of_frees_one_by_one s order i a addresses shape =
    checked_both P s order (drop_unchecked s order i (a ∷ addresses)) (free_unchecked s order i a) refl refl
    (λ passed. by_processor passed (is_processor s i) refl)
  where
    P : After → After → Type 0
    P x y = number_of x.answer.outcome ≡ pick (eqb (number_of y.answer.outcome) 0) (one_by_one_refusal y.answer.state y.order i addresses)
        (number_of y.answer.outcome)

    by_processor : Passed s order → (p : Bool) → is_processor s i ≡ p → P (drop_unchecked s order i (a ∷ addresses)) (free_unchecked s order i a)
    by_processor passed false e = rw e
    by_processor passed true e =
        subst (P (drop_unchecked s order i (a ∷ addresses))) (free_is_unchecked s order i passed a)
        (drop_number_is_first_refusal s order i a addresses e ∙ sym (one_by_one_refusal_is_first_refusal s order i (a ∷ addresses) shape passed e))
