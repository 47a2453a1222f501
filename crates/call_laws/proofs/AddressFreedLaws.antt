-- The block at an address freed, be it one of a class or a long one: what holds of both, by which the frees of a drop go. Assumes nothing.
use mathlib.Core.Path.{◌≡◌, refl, sym, ap, ◌∙◌, subst}
use mathlib.Core.Bool.{Bool, true, false}
use mathlib.Core.Logic.{◌⊎◌, inl, inr}
use mathlib.Core.List.{List}
use Prim.Native.Nat.{ℕ, ◌≤◌, ◌<◌}
use native.Mathlib.Decide.{dec_lt}
use native.Mathlib.Omega.{arith}
use lib.ListN.{length, get_or-eq_default}
use lib.Dec.{eqb}
use Rattle.base_laws.specs.Sums.{pick}
use Rattle.base_laws.proofs.Inequalities.{le_of_not_below}
use Rattle.base_laws.proofs.TestLaws.{pick_true, pick_false}
use Rattle.class_rules.proofs.ClassTableLaws.{blocks_of_le_256}
use Rattle.marks_rules.specs.Marks.{mark_bit, no_marks, with_mark}
use Rattle.names_rules.specs.Names.{block_number, without_block}
use Rattle.heap_rules.specs.declared.Superblock.{Superblock}
use Rattle.heap_rules.specs.declared.State.{State}
use Rattle.heap_rules.specs.Table.{run_owner, unused_owner, blank, superblock_at, is_of_run, starts_run, live_blocks}
use Rattle.heap_rules.specs.Counts.{belongs, superblocks_of_class}
use Rattle.heap_laws.proofs.StateFacts.{Shape}
use Rattle.heap_laws.proofs.CountLaws.{not_belongs_of_other_owner}
use Rattle.heap_laws.proofs.RunsKeptLaws.{starts_run_same, live_blocks_outside_run}
use Rattle.call_rules.specs.Free.{superblock_index, superblock_holding, block_of, is_in_run, address_refusal, block_pushed, order_pushed, small_block_freed}
use Rattle.call_rules.specs.Free.{long_block_freed, block_freed}
use Rattle.call_laws.proofs.CallEffects.{PassedAfterFrees}
use Rattle.call_laws.proofs.AddressLaws.{block_at_address_same}
use Rattle.call_laws.proofs.TransferredLaws.{one_more_freed, one_more_freed_of_others, passed_after_frees_cong}
use Rattle.call_laws.proofs.BlockFreedLaws.{freed_superblock_lt_64, small_block_freed_effect, small_block_freed_owner, small_block_freed_names}
use Rattle.call_laws.proofs.BlockFreedLaws.{small_block_freed_shape, small_block_freed_passed}
use Rattle.call_laws.proofs.RunFreedLaws.{freed_run_lt_64, freed_run_owner, freed_run_block, freed_run_no_marks, long_block_freed_class}
use Rattle.call_laws.proofs.RunFreedLaws.{long_block_freed_owner, long_block_freed_marks, long_block_freed_effect, long_block_freed_live_blocks}
use Rattle.call_laws.proofs.RunFreedLaws.{long_block_freed_not_live, long_block_freed_names, long_block_freed_shape, long_block_freed_passed}

-- ---- which of the two it is
module _ (s : State) (a : ℕ) where
  pub block_freed_outside_run : is_in_run s a ≡ false → block_freed s a ≡ small_block_freed s a
  unfolding block_freed
  block_freed_outside_run e = pick_false (is_in_run s a) _ _ e

  pub order_pushed_outside_run : (order : List ℕ) → is_in_run s a ≡ false → order_pushed s order a ≡ block_pushed s order a
  unfolding order_pushed
  order_pushed_outside_run order e = pick_false (is_in_run s a) _ _ e

  pub block_freed_in_run : is_in_run s a ≡ true → block_freed s a ≡ long_block_freed s a
  unfolding block_freed
  block_freed_in_run e = pick_true (is_in_run s a) _ _ e

  pub order_pushed_in_run : (order : List ℕ) → is_in_run s a ≡ true → order_pushed s order a ≡ order
  unfolding order_pushed
  order_pushed_in_run order e = pick_true (is_in_run s a) _ _ e

-- past the table there is no run
pub outside_run_past_table : (s : State) (a : ℕ) → length s.table ≡ 64 → 64 ≤ superblock_index a → is_in_run s a ≡ false
unfolding is_of_run
outside_run_past_table s a long far = ap is_of_run (get_or-eq_default s.table blank (omega arith))

-- each owner stays, or was that of a run's superblock and is that of an unused one
abbrev pub OwnersKeptOrRunFreed : State → State → Type 0
OwnersKeptOrRunFreed s t = (m : ℕ) → m < 64 → ((superblock_at t m).owner ≡ (superblock_at s m).owner)
    ⊎ (((superblock_at s m).owner ≡ run_owner) × ((superblock_at t m).owner ≡ unused_owner))

-- ---- the block at the address freed, in a state that passed before so many frees
pub record AddressFreed (freed : ℕ → ℕ → ℕ) (s : State) (order : List ℕ) (a : ℕ) : Type 0 where
  pub below : superblock_index a < 64
  pub block : block_of s a < 256
  pub setup : (block_freed s a).setup ≡ s.setup
  pub classes : (m : ℕ) → m < 64 → (superblock_at (block_freed s a) m).class ≡ (superblock_at s m).class
  pub owners : OwnersKeptOrRunFreed s (block_freed s a)
  -- the mark of the freed block is clear then, that of a long block before, too, and every other is as it was
  pub not_marked : mark_bit (superblock_holding (block_freed s a) a).live (block_of s a) ≡ 0
  pub marks : (m b : ℕ) → m < 64 → ((m ≡ superblock_index a) × (b ≡ block_of s a) → ⊥) → b < 256 → mark_bit (superblock_at (block_freed s a) m).live b
      ≡ mark_bit (superblock_at s m).live b
  -- it is not live then, and every other block is live or not as it was
  pub not_live : mark_bit (live_blocks (superblock_holding (block_freed s a) a)) (block_of s a) ≡ 0
  pub live_blocks_lem : (m b : ℕ) → m < 64 → ((m ≡ superblock_index a) × (b ≡ block_of s a) → ⊥) → b < 256
      → mark_bit (live_blocks (superblock_at (block_freed s a) m)) b ≡ mark_bit (live_blocks (superblock_at s m)) b
  pub owned : (d : ℕ) → superblocks_of_class d (block_freed s a) ≡ superblocks_of_class d s
  pub names : (block_freed s a).names ≡ without_block s.names (block_number (superblock_index a) (block_of s a))
  pub shape : Shape (block_freed s a)
  -- one block more of its heap and class was freed since the move rule was last followed; a run is of none
  pub passed : PassedAfterFrees (one_more_freed (superblock_holding s a).owner (superblock_holding s a).class freed) (block_freed s a) (order_pushed s order a)

-- a superblock of which the mark of block j is kept, and what it is of a run
live_bit_same : (b d : Superblock) (j : ℕ) → is_of_run d ≡ is_of_run b → d.run ≡ b.run → mark_bit d.live j ≡ mark_bit b.live j
    → mark_bit (live_blocks d) j ≡ mark_bit (live_blocks b) j
unfolding live_blocks
live_bit_same b d j e g same = rw (starts_run_same d b e g) (go (starts_run b))
  where
    go : (t : Bool) → mark_bit (pick t (with_mark no_marks 0) d.live) j ≡ mark_bit (pick t (with_mark no_marks 0) b.live) j
    go true = refl
    go false = same

-- what is said of a state and of order places, for the two that a free leaves
abbrev FreedTo : (ℕ → ℕ → ℕ) → State → ℕ → State → List ℕ → Type 0
FreedTo freed s a t pushed = PassedAfterFrees (one_more_freed (superblock_holding s a).owner (superblock_holding s a).class freed) t pushed

module _ (freed : ℕ → ℕ → ℕ) (s : State) (order : List ℕ) (a : ℕ) (shape : Shape s) (passed : PassedAfterFrees freed s order)
    (accepted : address_refusal s a ≡ 0) where
  small_address_freed : is_in_run s a ≡ false → AddressFreed freed s order a
  small_address_freed small =
      let is = sym (block_freed_outside_run s a small) in
      let effect = small_block_freed_effect freed s order a shape passed accepted small in
      record {
        below = freed_superblock_lt_64 freed s order a shape passed accepted small;
        block = omega (arith, effect.block, blocks_of_le_256 (superblock_holding s a).class);
        setup = subst (λ (t : State). t.setup ≡ s.setup) is effect.setup;
        classes = subst (λ (t : State). (m : ℕ) → m < 64 → (superblock_at t m).class ≡ (superblock_at s m).class) is effect.classes;
        owners = subst (OwnersKeptOrRunFreed s) is (λ m l. inl (small_block_freed_owner freed s order a shape passed accepted small m l));
        not_marked = subst (λ (t : State). mark_bit (superblock_holding t a).live (block_of s a) ≡ 0) is effect.not_marked;
        marks = subst (λ (t : State). (m b : ℕ) → m < 64 → ((m ≡ superblock_index a) × (b ≡ block_of s a) → ⊥) → b < 256
            → mark_bit (superblock_at t m).live b ≡ mark_bit (superblock_at s m).live b) is effect.marks;
        not_live = subst (λ (t : State). mark_bit (live_blocks (superblock_holding t a)) (block_of s a) ≡ 0) is
            (ap (λ (l : List ℕ). mark_bit l (block_of s a))
            (live_blocks_outside_run (superblock_holding (small_block_freed s a) a)
            ((effect.runs (superblock_index a) (freed_superblock_lt_64 freed s order a shape passed accepted small)).0 ∙ small)) ∙ effect.not_marked);
        live_blocks_lem = subst (λ (t : State). (m b : ℕ) → m < 64 → ((m ≡ superblock_index a) × (b ≡ block_of s a) → ⊥) → b < 256
            → mark_bit (live_blocks (superblock_at t m)) b ≡ mark_bit (live_blocks (superblock_at s m)) b) is
            (λ m b l apart in_block. live_bit_same (superblock_at s m) (superblock_at (small_block_freed s a) m) b (effect.runs m l).0 (effect.runs m l).1
            (effect.marks m b l apart in_block));
        owned = subst (λ (t : State). (d : ℕ) → superblocks_of_class d t ≡ superblocks_of_class d s) is effect.owned;
        names = subst (λ (t : State). t.names ≡ without_block s.names (block_number (superblock_index a) (block_of s a))) is
            (small_block_freed_names freed s order a shape passed accepted small);
        shape = subst Shape is (small_block_freed_shape freed s order a shape passed accepted small);
        passed = subst (λ (t : State). FreedTo freed s a t (order_pushed s order a)) is
            (subst (FreedTo freed s a (small_block_freed s a)) (sym (order_pushed_outside_run s a order small))
            (small_block_freed_passed freed s order a shape passed accepted small));
      }

  module _ (long : is_in_run s a ≡ true) where
    -- a run is of no heap, so that none of a heap's blocks is freed with it
    run_freed_passed : FreedTo freed s a (long_block_freed s a) order
    run_freed_passed =
        passed_after_frees_cong freed (one_more_freed (superblock_holding s a).owner (superblock_holding s a).class freed) (long_block_freed s a) order
        (λ h c l. sym (one_more_freed_of_others (superblock_holding s a).owner (superblock_holding s a).class freed h c
        (λ q. let e = q.0 in omega (arith, freed_run_owner freed s order a shape passed accepted long))))
        (long_block_freed_passed freed s order a shape passed accepted long)

    run_address_freed : AddressFreed freed s order a
    run_address_freed =
        let is = sym (block_freed_in_run s a long) in
        let block-is = freed_run_block freed s order a shape passed accepted long in
        let lt-64 = freed_run_lt_64 freed s order a shape passed accepted long in
        let marks-same = long_block_freed_marks freed s order a shape passed accepted long in
        let effect = long_block_freed_effect freed s order a shape passed accepted long in
        record {
          below = lt-64;
          block = omega arith;
          setup = subst (λ (t : State). t.setup ≡ s.setup) is effect.setup;
          classes = subst (λ (t : State). (m : ℕ) → m < 64 → (superblock_at t m).class ≡ (superblock_at s m).class) is
              (long_block_freed_class freed s order a shape passed accepted long);
          owners = subst (OwnersKeptOrRunFreed s) is (long_block_freed_owner freed s order a shape passed accepted long);
          not_marked = subst (λ (t : State). mark_bit (superblock_holding t a).live (block_of s a) ≡ 0) is
              (marks-same (superblock_index a) (block_of s a) lt-64 (omega arith) ∙ freed_run_no_marks freed s order a shape passed accepted long
              (block_of s a) (omega arith));
          marks = subst (λ (t : State). (m b : ℕ) → m < 64 → ((m ≡ superblock_index a) × (b ≡ block_of s a) → ⊥) → b < 256
              → mark_bit (superblock_at t m).live b ≡ mark_bit (superblock_at s m).live b) is (λ m b l apart small. marks-same m b l small);
          not_live = subst (λ (t : State). mark_bit (live_blocks (superblock_holding t a)) (block_of s a) ≡ 0) is
              (ap (mark_bit (live_blocks (superblock_holding (long_block_freed s a) a))) block-is
              ∙ long_block_freed_not_live freed s order a shape passed accepted long);
          live_blocks_lem = subst (λ (t : State). (m b : ℕ) → m < 64 → ((m ≡ superblock_index a) × (b ≡ block_of s a) → ⊥) → b < 256
              → mark_bit (live_blocks (superblock_at t m)) b ≡ mark_bit (live_blocks (superblock_at s m)) b) is
              (λ m b l apart small. long_block_freed_live_blocks freed s order a shape passed accepted long m b l small
              (λ q. apart (q.0, q.1 ∙ sym block-is)));
          owned = subst (λ (t : State). (d : ℕ) → superblocks_of_class d t ≡ superblocks_of_class d s) is effect.owned;
          names = subst (λ (t : State). t.names ≡ without_block s.names (block_number (superblock_index a) (block_of s a))) is
              (long_block_freed_names freed s order a shape passed accepted long
              ∙ ap (λ (j : ℕ). without_block s.names (block_number (superblock_index a) j)) (sym block-is));
          shape = subst Shape is (long_block_freed_shape freed s order a shape passed accepted long);
          passed = subst (λ (t : State). FreedTo freed s a t (order_pushed s order a)) is
              (subst (FreedTo freed s a (long_block_freed s a)) (sym (order_pushed_in_run s a order long)) run_freed_passed);
        }

  -- the address meets no refusal
  pub address_freed : AddressFreed freed s order a
  address_freed = go (is_in_run s a) refl
    where
      go : (t : Bool) → is_in_run s a ≡ t → AddressFreed freed s order a
      go true e = run_address_freed e
      go false e = small_address_freed e

  -- no class changes, so an address is of the block that it was of
  pub address_freed_block : (x : ℕ) → block_of (block_freed s a) x ≡ block_of s x
  address_freed_block = block_at_address_same s (block_freed s a) shape.length_is address_freed.shape.length_is address_freed.classes

-- ---- states whose owners are kept, but for runs freed, and whose classes are kept
module _ (s t : State) (owners : OwnersKeptOrRunFreed s t) where
  -- an address in no run is in none then
  pub outside_run_kept : length t.table ≡ 64 → (a : ℕ) → is_in_run s a ≡ false → is_in_run t a ≡ false
  unfolding is_of_run
  outside_run_kept long_after a e = go (dec_lt (superblock_index a) 64)
    where
      by_owners : ((superblock_holding t a).owner ≡ (superblock_holding s a).owner)
          ⊎ (((superblock_holding s a).owner ≡ run_owner) × ((superblock_holding t a).owner ≡ unused_owner)) → is_in_run t a ≡ false
      by_owners (inl same) = ap (λ (o : ℕ). eqb o run_owner) same ∙ e
      by_owners (inr (was, now)) = ap (λ (o : ℕ). eqb o run_owner) now

      go : Dec (superblock_index a < 64) → is_in_run t a ≡ false
      go (yes l) = by_owners (owners (superblock_index a) l)
      go (no f) = outside_run_past_table t a long_after (le_of_not_below f)

  module _ (long : length s.table ≡ 64) (long_after : length t.table ≡ 64)
      (classes : (m : ℕ) → m < 64 → (superblock_at t m).class ≡ (superblock_at s m).class) where
    pub same_belongs : (h c m : ℕ) → h < run_owner → belongs h c (superblock_at t m) ≡ belongs h c (superblock_at s m)
    unfolding belongs
    same_belongs h c m l = go (dec_lt m 64)
      where
        by_owners : ((superblock_at t m).class ≡ (superblock_at s m).class) → ((superblock_at t m).owner ≡ (superblock_at s m).owner)
            ⊎ (((superblock_at s m).owner ≡ run_owner) × ((superblock_at t m).owner ≡ unused_owner))
            → belongs h c (superblock_at t m) ≡ belongs h c (superblock_at s m)
        by_owners class (inl e) = rw (e, class)
        by_owners class (inr (was, now)) =
            not_belongs_of_other_owner h c (superblock_at t m) (λ (q : (superblock_at t m).owner ≡ h). omega arith)
            ∙ sym (not_belongs_of_other_owner h c (superblock_at s m) (λ (q : (superblock_at s m).owner ≡ h). omega arith))

        go : Dec (m < 64) → belongs h c (superblock_at t m) ≡ belongs h c (superblock_at s m)
        go (yes lm) = by_owners (classes m lm) (owners m lm)
        go (no f) =
            let g = le_of_not_below f in
            ap (belongs h c) (get_or-eq_default t.table blank (omega arith) ∙ sym (get_or-eq_default s.table blank (omega arith)))

-- one state after another
pub owners_kept_or_run_freed_then : (s r t : State) → OwnersKeptOrRunFreed s r → OwnersKeptOrRunFreed r t → OwnersKeptOrRunFreed s t
owners_kept_or_run_freed_then s r t x y m l = go (x m l) (y m l)
  where
    go : ((superblock_at r m).owner ≡ (superblock_at s m).owner) ⊎ (((superblock_at s m).owner ≡ run_owner) × ((superblock_at r m).owner ≡ unused_owner))
        → ((superblock_at t m).owner ≡ (superblock_at r m).owner) ⊎ (((superblock_at r m).owner ≡ run_owner) × ((superblock_at t m).owner ≡ unused_owner))
        → ((superblock_at t m).owner ≡ (superblock_at s m).owner) ⊎ (((superblock_at s m).owner ≡ run_owner) × ((superblock_at t m).owner ≡ unused_owner))
    go (inl p) (inl q) = inl (q ∙ p)
    go (inl p) (inr (was, now)) = inr (sym p ∙ was, now)
    go (inr (was, now)) (inl q) = inr (was, q ∙ now)
    go (inr (was, now)) (inr (then, later)) = absurd (let z : ⊥ = omega arith in z)
