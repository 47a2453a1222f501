-- What the moves of a heap and class keep: each clause of the check, and each superblock's class, marks and rank. Assumes nothing.
use mathlib.Core.Path.{◌≡◌, refl, sym, ap, ap₂, ◌∙◌, subst}
use mathlib.Core.Bool.{Bool, true, false}
use mathlib.Core.Logic.{◌⊎◌, inl, inr, ⊎_elim}
use mathlib.Core.List.{List}
use Prim.Native.Nat.{ℕ, ◌+◌, ◌/◌, ◌%◌, ◌≤◌, ◌<◌, zero-le}
use native.Mathlib.Nat.{le_refl}
use native.Mathlib.Decide.{ℕ_discrete}
use native.Mathlib.Omega.{arith}
use lib.ListN.{length}
use borrow.Author.Tests.{eq-eqb}
use lib.Dec.{T, eqb, eqb→eq}
use Rattle.base_laws.specs.Sums.{pick, both, one}
use Rattle.class_rules.specs.Classes.{class_count}
use Rattle.base_laws.proofs.TestLaws.{false_of_not_T, both_left, both_right, pick_elim}
use Rattle.heap_rules.specs.declared.Superblock.{Superblock}
use Rattle.heap_rules.specs.declared.Setup.{Setup}
use Rattle.heap_rules.specs.declared.Totals.{Totals}
use Rattle.heap_rules.specs.declared.State.{State}
use Rattle.marks_rules.specs.Marks.{mark_bit, live_count}
use Rattle.heap_rules.specs.Table.{run_owner, unused_owner, superblock_at, is_of_run, with_owner, is_live_block}
use Rattle.heap_rules.specs.Counts.{belongs, superblocks_of, blocks_in, live_of}
use Rattle.check_rules.specs.Check.{names_valid}
use Rattle.heap_laws.proofs.StateFacts.{Shape, WithinLimits, Unused, Unowned, Owned, Sparse, RanksSound, RunsKept, InvariantBeforeFrees, SoundAfterFrees}
use Rattle.heap_laws.proofs.StateFacts.{TransferredFrom}
use Rattle.heap_rules.specs.Totals.{TotalsKept}
use Rattle.heap_laws.proofs.CountLaws.{owner_and_class_of_belongs}
use Rattle.heap_laws.proofs.MoveLaws.{condition_fails_of_not_must_move, not_must_move_of_condition_fails}
use Rattle.heap_laws.proofs.StateCheckLaws.{unowned_of_unused, not_of_heap_of_unowned}
use Rattle.heap_laws.proofs.RunsKeptLaws.{outside_run_of_owner}
use Rattle.heap_laws.proofs.RankLaws.{ranks_sound_of_same_ranks}
use Rattle.heap_laws.proofs.TotalsLaws.{length_recounted_superblocks, length_recounted_live}
use Rattle.call_laws.proofs.CallEffects.{Passed, PassedAfterFrees}
use Rattle.call_laws.proofs.NamesKeptLaws.{mark_of_live_block, live_block_of_mark, live_block_in_table, live_mark_kept, names_valid_of_live_kept}

-- ---- so many blocks of each heap and class
-- one more of heap h and class c
unfoldable pub one_more_freed : ℕ → ℕ → (ℕ → ℕ → ℕ) → ℕ → ℕ → ℕ
one_more_freed h c freed i d = freed i d + one (both (eqb h i) (eqb c d))

-- none of heap h and class c
unfoldable pub none_freed : ℕ → ℕ → (ℕ → ℕ → ℕ) → ℕ → ℕ → ℕ
none_freed h c freed i d = pick (both (eqb h i) (eqb c d)) 0 (freed i d)

module _ (h c : ℕ) (freed : ℕ → ℕ → ℕ) where
  same_pair : both (eqb h h) (eqb c c) ≡ true
  same_pair = ap₂ both (eq-eqb h h refl) (eq-eqb c c refl)

  other_pair : (i d : ℕ) → ((i ≡ h) × (d ≡ c) → ⊥) → both (eqb h i) (eqb c d) ≡ false
  other_pair i d apart = false_of_not_T (both (eqb h i) (eqb c d))
      (λ t. apart (sym (eqb→eq h i (both_left (eqb h i) (eqb c d) t)), sym (eqb→eq c d (both_right (eqb h i) (eqb c d) t))))

  pub one_more_freed_of_pair : one_more_freed h c freed h c ≡ freed h c + 1
  unfolding one_more_freed
  one_more_freed_of_pair = ap (λ (t : Bool). freed h c + one t) same_pair

  pub one_more_freed_of_others : (i d : ℕ) → ((i ≡ h) × (d ≡ c) → ⊥) → one_more_freed h c freed i d ≡ freed i d
  unfolding one_more_freed
  one_more_freed_of_others i d apart = let z : one (both (eqb h i) (eqb c d)) ≡ 0 = ap one (other_pair i d apart) in omega arith

  pub none_freed_of_pair : none_freed h c freed h c ≡ 0
  unfolding none_freed
  none_freed_of_pair = rw same_pair

  pub none_freed_of_others : (i d : ℕ) → ((i ≡ h) × (d ≡ c) → ⊥) → none_freed h c freed i d ≡ freed i d
  unfolding none_freed
  none_freed_of_others i d apart = rw (other_pair i d apart)

  pub none_freed_le : (i d : ℕ) → none_freed h c freed i d ≤ freed i d
  unfolding none_freed
  none_freed_le i d = pick_elim (λ (n : ℕ). n ≤ freed i d) (both (eqb h i) (eqb c d)) _ _ (λ e. zero-le) (λ e. le_refl (freed i d))

-- equal counts fail the conditions of the move rule alike
pub invariant_before_frees_cong : (n h c : ℕ) (s t : State) → t.setup ≡ s.setup → superblocks_of h c t ≡ superblocks_of h c s
    → live_of h c t ≡ live_of h c s → InvariantBeforeFrees n h c s → InvariantBeforeFrees n h c t
unfolding blocks_in superblocks_of live_of
invariant_before_frees_cong n h c s t e f g fails = rw (e, f, g) fails

-- a state that passes has no frees to follow up, and the other way round
pub passed_after_no_frees : (s : State) (order : List ℕ) → Passed s order → PassedAfterFrees (λ h c. 0) s order
passed_after_no_frees s order p =
    record {
      sound = record {
        numbers = p.sound.numbers;
        each = p.sound.each;
        past_unused = p.sound.past_unused;
        invariant = λ h c low high known. condition_fails_of_not_must_move h c s (p.sound.invariant h c low high known);
        sparse = p.sound.sparse;
      };
      names = p.names;
      totals = p.totals;
      ranks = p.ranks;
      runs = p.runs;
      room = p.room;
    }

pub passed_of_no_frees_left : (freed : ℕ → ℕ → ℕ) (s : State) (order : List ℕ)
    → ((h c : ℕ) → 1 ≤ h → h ≤ s.setup.processors → c < class_count → freed h c ≡ 0) → PassedAfterFrees freed s order → Passed s order
passed_of_no_frees_left freed s order none p =
    record {
      sound = record {
        numbers = p.sound.numbers;
        each = p.sound.each;
        past_unused = p.sound.past_unused;
        invariant = λ h c low high known. not_must_move_of_condition_fails h c s
            (subst (λ (n : ℕ). InvariantBeforeFrees n h c s) (none h c low high known) (p.sound.invariant h c low high known));
        sparse = p.sound.sparse;
      };
      names = p.names;
      totals = p.totals;
      ranks = p.ranks;
      runs = p.runs;
      room = p.room;
    }

-- as many frees of each heap in another way of counting
pub passed_after_frees_cong : (f g : ℕ → ℕ → ℕ) (s : State) (order : List ℕ) → ((h c : ℕ) → h < run_owner → f h c ≡ g h c) → PassedAfterFrees f s order
    → PassedAfterFrees g s order
passed_after_frees_cong f g s order same p =
    record {
      sound = record {
        numbers = p.sound.numbers;
        each = p.sound.each;
        past_unused = p.sound.past_unused;
        invariant = λ h c low high known. subst (λ (n : ℕ). InvariantBeforeFrees n h c s) (same h c (omega (arith, p.sound.numbers.processors_high)))
            (p.sound.invariant h c low high known);
        sparse = p.sound.sparse;
      };
      names = p.names;
      totals = p.totals;
      ranks = p.ranks;
      runs = p.runs;
      room = p.room;
    }

-- ---- superblock by superblock
module _ (h c : ℕ) (s t : State) (m : TransferredFrom h c s t) (k : ℕ) (l : k < 64) where
  -- what does not go by the owner is as it was
  transferred_keeps : {A : Type 0} (f : Superblock → A) → f (with_owner 0 (superblock_at s k)) ≡ f (superblock_at s k) → f (superblock_at t k)
      ≡ f (superblock_at s k)
  transferred_keeps f e = go (m.each k l)
    where
      go : (superblock_at t k ≡ superblock_at s k)
          ⊎ (T (belongs h c (superblock_at s k)) × Sparse s.setup (superblock_at s k) × (superblock_at t k ≡ with_owner 0 (superblock_at s k)))
          → f (superblock_at t k) ≡ f (superblock_at s k)
      go (inl same) = ap f same
      go (inr (mine, sparse, now)) = ap f now ∙ e

  pub transferred_live : (superblock_at t k).live ≡ (superblock_at s k).live
  transferred_live = transferred_keeps (λ b. b.live) refl

  pub transferred_class : (superblock_at t k).class ≡ (superblock_at s k).class
  transferred_class = transferred_keeps (λ b. b.class) refl

  pub transferred_rank : (superblock_at t k).rank ≡ (superblock_at s k).rank
  transferred_rank = transferred_keeps (λ b. b.rank) refl

  -- an owner stays, or was h and is 0
  pub transferred_owner : ((superblock_at t k).owner ≡ (superblock_at s k).owner) ⊎ (((superblock_at s k).owner ≡ h) × ((superblock_at t k).owner ≡ 0))
  transferred_owner = go (m.each k l)
    where
      go : (superblock_at t k ≡ superblock_at s k)
          ⊎ (T (belongs h c (superblock_at s k)) × Sparse s.setup (superblock_at s k) × (superblock_at t k ≡ with_owner 0 (superblock_at s k)))
          → ((superblock_at t k).owner ≡ (superblock_at s k).owner) ⊎ (((superblock_at s k).owner ≡ h) × ((superblock_at t k).owner ≡ 0))
      go (inl same) = inl (ap (λ (b : Superblock). b.owner) same)
      go (inr (mine, sparse, now)) = inr ((owner_and_class_of_belongs h c (superblock_at s k) mine).0, ap (λ (b : Superblock). b.owner) now)

-- where the totals were kept, they still are, and so have their length
pub transferred_shape : (h c : ℕ) (s t : State) → TransferredFrom h c s t → TotalsKept s → Shape s → Shape t
transferred_shape h c s t m kept shape =
    let now = m.totals kept in
    record {
      length_is = m.length_is;
      marks_length = λ k l. ap length (transferred_live h c s t m k l) ∙ shape.marks_length k l;
      names_length = ap length m.names ∙ shape.names_length;
      superblock_totals_length = ap (λ (x : Totals). length x.superblocks) now ∙ length_recounted_superblocks t.table;
      live_totals_length = ap (λ (x : Totals). length x.live) now ∙ length_recounted_live t.table;
    }

-- ---- the check
-- What holds of each superblock still does, if it holds of a sparse one that passes to heap 0.
module _ (h c : ℕ) (s t : State) (m : TransferredFrom h c s t) where
  transferred_keeps_each : (P : ℕ → Superblock → Type 0) → ((k : ℕ) → k < 64 → P k (superblock_at s k))
      → ((k : ℕ) → k < 64 → (superblock_at s k).owner ≡ h → Sparse s.setup (superblock_at s k) → P k (superblock_at s k)
      → P k (with_owner 0 (superblock_at s k)))
      → (k : ℕ) → k < 64 → P k (superblock_at t k)
  transferred_keeps_each P before pass k l = go (m.each k l)
    where
      go : (superblock_at t k ≡ superblock_at s k)
          ⊎ (T (belongs h c (superblock_at s k)) × Sparse s.setup (superblock_at s k) × (superblock_at t k ≡ with_owner 0 (superblock_at s k)))
          → P k (superblock_at t k)
      go (inl same) = subst (λ (b : Superblock). P k b) (sym same) (before k l)
      go (inr (mine, sparse, now)) =
          subst (λ (b : Superblock). P k b) (sym now) (pass k l (owner_and_class_of_belongs h c (superblock_at s k) mine).0 sparse (before k l))

  -- the moves that end where the rule is no longer met leave a state in which no frees of the heap and class are left to follow up
  pub sound_after_transfers : (freed : ℕ → ℕ → ℕ) (order : List ℕ) → h < run_owner → SoundAfterFrees freed s order → (1 ≤ h → InvariantBeforeFrees 0 h c t)
      → SoundAfterFrees (none_freed h c freed) t order
  sound_after_transfers freed order low before done =
      record {
        numbers = subst WithinLimits (sym m.setup) before.numbers;
        each = subst (λ (u : Setup). (k : ℕ) → k < 64 → Unowned (superblock_at t k) ⊎ Owned u order k (superblock_at t k)) (sym m.setup)
            (transferred_keeps_each (λ k b. Unowned b ⊎ Owned s.setup order k b) before.each (λ k l mine sparse. passes_on k mine));
        past_unused = subst (λ (u : Setup). (k : ℕ) → k < 64 → u.superblocks ≤ k → Unused (superblock_at t k)) (sym m.setup)
            (transferred_keeps_each (λ k b. s.setup.superblocks ≤ k → Unused b) before.past_unused
            (λ k l mine sparse unused far. absurd (not_unowned k mine (unowned_of_unused (superblock_at s k) (unused far)))));
        invariant = λ i d low high known. held_now i d low (subst (λ (u : Setup). i ≤ u.processors) m.setup high) known (ℕ_discrete i h) (ℕ_discrete d c);
        sparse = subst (λ (u : Setup). (k : ℕ) → k < 64 → (superblock_at t k).owner ≡ 0 → Sparse u (superblock_at t k)) (sym m.setup)
            (transferred_keeps_each (λ k b. b.owner ≡ 0 → Sparse s.setup b) before.sparse (λ k l mine sparse was zero. sparse));
      }
    where
      not_unowned : (k : ℕ) → (superblock_at s k).owner ≡ h → Unowned (superblock_at s k) → ⊥
      not_unowned k mine u = not_of_heap_of_unowned (superblock_at s k) u (omega arith)

      passes_on : (k : ℕ) → (superblock_at s k).owner ≡ h → Unowned (superblock_at s k) ⊎ Owned s.setup order k (superblock_at s k)
          → Unowned (with_owner 0 (superblock_at s k)) ⊎ Owned s.setup order k (with_owner 0 (superblock_at s k))
      passes_on k mine (inl u) = absurd (not_unowned k mine u)
      passes_on k mine (inr o) = inr (record { owner = zero-le; class = o.class; places = o.places })

      other : (i d : ℕ) → 1 ≤ i → i ≤ s.setup.processors → d < class_count → ((i ≡ h) × (d ≡ c) → ⊥) → InvariantBeforeFrees (none_freed h c freed i d) i d t
      other i d low high known apart =
          subst (λ (n : ℕ). InvariantBeforeFrees n i d t) (sym (none_freed_of_others h c freed i d apart))
          (invariant_before_frees_cong (freed i d) i d s t m.setup (m.others i d low apart).0 (m.others i d low apart).1
          (before.invariant i d low high known))

      held_now : (i d : ℕ) → 1 ≤ i → i ≤ s.setup.processors → d < class_count → Dec (i ≡ h) → Dec (d ≡ c)
          → InvariantBeforeFrees (none_freed h c freed i d) i d t
      held_now i d low high known (yes e) (yes g) =
          rw (e, g) (subst (λ (n : ℕ). InvariantBeforeFrees n h c t) (sym (none_freed_of_pair h c freed)) (done (subst (λ (x : ℕ). 1 ≤ x) e low)))
      held_now i d low high known (yes e) (no g) = other i d low high known (λ q. g q.1)
      held_now i d low high known (no e) q = other i d low high known (λ r. e r.0)

  -- heaps own what moves, before and after, so that no run changes
  pub runs_kept_by_transfers : h < run_owner → RunsKept s t
  unfolding is_of_run
  runs_kept_by_transfers low k l = (go (transferred_owner h c s t m k l), transferred_keeps h c s t m k l (λ b. b.run) refl)
    where
      go : ((superblock_at t k).owner ≡ (superblock_at s k).owner) ⊎ (((superblock_at s k).owner ≡ h) × ((superblock_at t k).owner ≡ 0))
          → is_of_run (superblock_at t k) ≡ is_of_run (superblock_at s k)
      go (inl e) = ap (λ (o : ℕ). eqb o run_owner) e
      go (inr (was, now)) =
          outside_run_of_owner (superblock_at t k) (λ (q : (superblock_at t k).owner ≡ run_owner). omega arith)
          ∙ sym (outside_run_of_owner (superblock_at s k) (λ (q : (superblock_at s k).owner ≡ run_owner). omega arith))

  -- names that point at live blocks still do
  pub names_valid_after_transfers : length s.table ≡ 64 → h < run_owner → T (names_valid s) → T (names_valid t)
  names_valid_after_transfers long low valid = names_valid_of_live_kept s t still_live m.names valid
    where
      still_live : (b : ℕ) → T (is_live_block s b) → T (is_live_block t b)
      still_live b live =
          let l = live_block_in_table s b long live in
          let kept = runs_kept_by_transfers low (b / 256) l in
          live_block_of_mark t b
          (live_mark_kept (superblock_at s (b / 256)) (superblock_at t (b / 256)) (b % 256) kept.0 kept.1
          (λ was. ap (λ (x : List ℕ). mark_bit x (b % 256)) (transferred_live h c s t m (b / 256) l) ∙ was) (mark_of_live_block s b live))

  -- no more superblocks are without a heap, and ranks stay: "passing between heaps keeps the rank"
  pub ranks_sound_after_transfers : RanksSound s → RanksSound t
  ranks_sound_after_transfers = ranks_sound_of_same_ranks s t (transferred_rank h c s t m) was_unowned
    where
      was_unowned : (k : ℕ) → k < 64 → Unowned (superblock_at t k) → Unowned (superblock_at s k)
      was_unowned k l u =
          record {
            owner = ⊎_elim (λ e. subst (λ (o : ℕ). (o ≡ unused_owner) ⊎ (o ≡ run_owner)) e u.owner)
                (λ h. absurd (not_of_heap_of_unowned (superblock_at t k) u (let z = h.1 in omega arith))) (transferred_owner h c s t m k l);
            class = sym (transferred_class h c s t m k l) ∙ u.class;
            live = sym (ap live_count (transferred_live h c s t m k l)) ∙ u.live;
          }
