-- "so an address listed twice is refused" (document 02, item 5), a run's start with 5, and an inner address of a run with 6 before the run is freed
-- and with 5 after. Assumes nothing.
use mathlib.Core.Path.{◌≡◌, refl, sym, ap, ◌∙◌, subst}
use mathlib.Core.Bool.{Bool, true, false}
use mathlib.Core.Logic.{◌⊎◌, inl, inr, ⊎_elim}
use mathlib.Core.List.Memᴰ
use mathlib.Core.List.{List, [], ◌∷◌, ◌++◌, append_assoc, Memᴰ}
use Prim.Native.Nat.{ℕ, ◌*◌, ◌<◌}
use native.Mathlib.Decide.{ℕ_discrete, dec_lt}
use native.Mathlib.Omega.{arith}
use lib.ListN.{length}
use lib.Dec.{eqb}
use Rattle.base_laws.proofs.Inequalities.{le_of_not_below}
use Rattle.base_laws.proofs.TestLaws.{true_not_false}
use Rattle.class_rules.proofs.ClassTableLaws.{blocks_of_le_256}
use Rattle.marks_rules.specs.Marks.{mark_bit}
use Rattle.heap_rules.specs.declared.Superblock.{Superblock}
use Rattle.heap_rules.specs.declared.State.{State}
use Rattle.heap_rules.specs.Table.{unused_owner, superblock_at, is_of_run}
use Rattle.heap_laws.proofs.StateFacts.{Shape, Unused, SoundWith}
use Rattle.heap_laws.proofs.StateCheckLaws.{unused_is_unused}
use Rattle.heap_laws.proofs.RunLaws.{Outside, side_of_range, outside_not_inside, runs_apart, run_at_of_same, run_below_superblocks}
use Rattle.heap_laws.proofs.RunsKeptLaws.{of_run_of_owner, owner_of_run, live_blocks_outside_run}
use Rattle.call_rules.specs.declared.Outcome.TheVariants.{Refused}
use Rattle.call_rules.specs.Answers.{refused}
use Rattle.call_rules.specs.Free.{superblock_index, offset_of, superblock_holding, block_of, is_in_run, address_refusal, order_pushed, small_block_freed}
use Rattle.call_rules.specs.Free.{long_block_freed, block_freed}
use Rattle.call_rules.specs.Drop.{all_freed, first_address_refusal, drop_of}
use Rattle.call_laws.proofs.CallEffects.{Passed, PassedAfterFrees, FreeEffect, LongFreeEffect}
use Rattle.call_laws.proofs.TransferredLaws.{passed_after_no_frees}
use Rattle.call_laws.proofs.BlockFreedLaws.{small_block_freed_effect, small_block_freed_owner, small_block_freed_passed}
use Rattle.call_laws.proofs.RunFreedLaws.{freed_run_address, long_block_freed_effect, long_block_freed_passed}
use Rattle.call_laws.proofs.AddressFreedLaws.{block_freed_outside_run, block_freed_in_run, outside_run_past_table, AddressFreed, address_freed}
use Rattle.call_laws.proofs.AddressFreedLaws.{outside_run_kept}
use Rattle.call_laws.proofs.AllFreedLaws.{first_refusal_of_cons}
use Rattle.call_laws.proofs.DropLaws.{drop_refused_or_accepted}
use Rattle.call_laws.proofs.RefusalConditions.{IsProcessor, OnBlock, on_block_of_class, on_run_start}
use Rattle.call_laws.proofs.DropRefusalConditions.{BlockStarts, address_refusal_iff_condition, inner_address_iff_refused_6}
use Rattle.call_laws.proofs.DropRefusalConditions.{no_refusal_iff_each_meets_none, drop_refused_5, drop_refused_7}
use Rattle.call_laws.proofs.AddressReadsLaws.{SameReads, same_reads_refl, outside_run_of_refused_7, refused_5_in_other, refused_7_of_cleared_mark}
use Rattle.call_laws.proofs.AddressReadsLaws.{refusal_in_other}
use Rattle.heap_rules.specs.Runs.{RunAt, InRun}
use Rattle.call_laws.proofs.TransferredLaws.{one_more_freed}

-- the block of a class that starts at an address
block_lt_256_of_start : (mark : ℕ) (s : State) (a : ℕ) → BlockStarts mark s a → is_in_run s a ≡ false → block_of s a < 256
block_lt_256_of_start mark s a h outside = go h.aligned
  where
    go : OnBlock s a → block_of s a < 256
    go (on_block_of_class f e l) = omega (arith, blocks_of_le_256 (superblock_holding s a).class)
    go (on_run_start home first offset) = absurd (true_not_false (is_in_run s a) (of_run_of_owner (superblock_holding s a) home) outside)

-- a run lies in the table
in_run_in_table : (s : State) (a : ℕ) → length s.table ≡ 64 → is_in_run s a ≡ true → superblock_index a < 64
in_run_in_table s a long e = go (dec_lt (superblock_index a) 64)
  where
    go : Dec (superblock_index a < 64) → superblock_index a < 64
    go (yes l) = l
    go (no f) = absurd (true_not_false (is_in_run s a) e (outside_run_past_table s a long (le_of_not_below f)))

-- ---- one free more
module _ (freed : ℕ → ℕ → ℕ) (s : State) (order : List ℕ) (b : ℕ) (shape : Shape s) (passed : PassedAfterFrees freed s order)
    (accepted : address_refusal s b ≡ 0) where
  -- of a block of a class: places stay as they are, and a clear mark stays clear
  module _ (small : is_in_run s b ≡ false) where
    abbrev small_after : State
    small_after = small_block_freed s b

    effect : FreeEffect (superblock_holding s b).class (superblock_index b) (block_of s b) 0 s small_after
    effect = small_block_freed_effect freed s order b shape passed accepted small

    reads : (m : ℕ) → m < 64 → SameReads (superblock_at s m) (superblock_at small_after m)
    reads m l =
        record {
          unused = ap (λ (o : ℕ). eqb o unused_owner) (small_block_freed_owner freed s order b shape passed accepted small m l);
          class = effect.classes m l;
          of_run = (effect.runs m l).0;
          run = (effect.runs m l).1;
        }

    -- the block itself meets 7 then
    small_freed_refused_7 : address_refusal small_after b ≡ 7
    small_freed_refused_7 =
        refused_7_of_cleared_mark s small_after order _ passed.sound (small_block_freed_passed freed s order b shape passed accepted small).sound b
        effect.setup (reads (superblock_index b)) 1
        ((address_refusal_iff_condition s b 0).0 accepted) small effect.not_marked

    -- what meets 5, 6 or 7 still does
    small_keeps_5 : (a : ℕ) → address_refusal s a ≡ 5 → address_refusal small_after a ≡ 5
    small_keeps_5 a = refused_5_in_other s small_after order _ passed.sound
        (small_block_freed_passed freed s order b shape passed accepted small).sound a effect.setup (reads (superblock_index a))

    small_keeps_7 : (a : ℕ) → address_refusal s a ≡ 7 → address_refusal small_after a ≡ 7
    small_keeps_7 a e =
        refused_7_of_cleared_mark s small_after order _ passed.sound (small_block_freed_passed freed s order b shape passed accepted small).sound a
        effect.setup (reads (superblock_index a)) 0 h
        (outside_run_of_refused_7 s a e) (go (ℕ_discrete (superblock_index a) (superblock_index b)) (ℕ_discrete (block_of s a) (block_of s b)))
      where
        h : BlockStarts 0 s a
        h = (address_refusal_iff_condition s a 7).0 e

        other : ((superblock_index a ≡ superblock_index b) × (block_of s a ≡ block_of s b) → ⊥)
            → mark_bit (superblock_holding small_after a).live (block_of s a) ≡ 0
        other apart =
            effect.marks (superblock_index a) (block_of s a) (omega (arith, h.mapped.inside, passed.sound.numbers.superblocks_high)) apart
            (block_lt_256_of_start 0 s a h (outside_run_of_refused_7 s a e))
            ∙ ap (λ (l : List ℕ). mark_bit l (block_of s a)) (sym (live_blocks_outside_run (superblock_holding s a) (outside_run_of_refused_7 s a e)))
            ∙ h.mark_is

        go : Dec (superblock_index a ≡ superblock_index b) → Dec (block_of s a ≡ block_of s b)
            → mark_bit (superblock_holding small_after a).live (block_of s a) ≡ 0
        go (yes p) (yes q) = rw (p, q) effect.not_marked
        go (yes p) (no f) = other (λ q. f q.1)
        go (no f) q = other (λ r. f r.0)

  -- of a long block: its superblocks become unused, and no other changes
  module _ (long : is_in_run s b ≡ true) where
    abbrev long_after : State
    long_after = long_block_freed s b

    long_effect : LongFreeEffect (superblock_index b) (superblock_holding s b).run s long_after
    long_effect = long_block_freed_effect freed s order b shape passed accepted long

    -- every address of the run meets 5 then
    run_freed_refused_5 : (a : ℕ) → InRun (superblock_index b) (superblock_holding s b).run (superblock_index a) → address_refusal long_after a ≡ 5
    run_freed_refused_5 a inside =
        (address_refusal_iff_condition long_after a 5).1 (inr (subst Unused (sym (long_effect.run (superblock_index a) inside)) unused_is_unused))

    -- and every other what it met before
    run_freed_keeps_others : (a : ℕ) → (InRun (superblock_index b) (superblock_holding s b).run (superblock_index a) → ⊥) → address_refusal long_after a
        ≡ address_refusal s a
    run_freed_keeps_others a outside =
        let same = long_effect.others (superblock_index a) outside in
        refusal_in_other s long_after order order passed.sound (long_block_freed_passed freed s order b shape passed accepted long).sound a
        long_effect.setup
        (λ l. subst (SameReads (superblock_holding s a)) (sym same) (same_reads_refl (superblock_holding s a)))
        (λ l. ap (λ (x : Superblock). mark_bit x.live (block_of s a)) same)

    long_keeps_5 : (a : ℕ) → address_refusal s a ≡ 5 → address_refusal long_after a ≡ 5
    long_keeps_5 a e = go (side_of_range (superblock_index b) (superblock_holding s b).run (superblock_index a))
      where
        go : Outside (superblock_index b) (superblock_holding s b).run (superblock_index a) ⊎ InRun (superblock_index b) (superblock_holding s b).run
            (superblock_index a) → address_refusal long_after a ≡ 5
        go (inl out) = run_freed_keeps_others a (λ inside. outside_not_inside _ _ _ out inside.0 inside.1) ∙ e
        go (inr inside) = run_freed_refused_5 a inside

    -- an address that meets 7 lies in no run
    long_keeps_7 : (a : ℕ) → address_refusal s a ≡ 7 → address_refusal long_after a ≡ 7
    long_keeps_7 a e = run_freed_keeps_others a
        (λ inside. true_not_false (is_in_run s a) (long_effect.run_before.of_run (superblock_index a) inside.0 inside.1)
        (outside_run_of_refused_7 s a e)) ∙ e

  -- ---- of either
  by_kind : (P : State → Type 0) → (is_in_run s b ≡ false → P (small_block_freed s b)) → (is_in_run s b ≡ true → P (long_block_freed s b)) → P (block_freed s b)
  by_kind P small long = go (is_in_run s b) refl
    where
      go : (t : Bool) → is_in_run s b ≡ t → P (block_freed s b)
      go true e = subst P (sym (block_freed_in_run s b e)) (long e)
      go false e = subst P (sym (block_freed_outside_run s b e)) (small e)

  refused_5_stays : (a : ℕ) → address_refusal s a ≡ 5 → address_refusal (block_freed s b) a ≡ 5
  refused_5_stays a e = by_kind (λ t. address_refusal t a ≡ 5) (λ small. small_keeps_5 small a e) (λ long. long_keeps_5 long a e)

  refused_7_stays : (a : ℕ) → address_refusal s a ≡ 7 → address_refusal (block_freed s b) a ≡ 7
  refused_7_stays a e = by_kind (λ t. address_refusal t a ≡ 7) (λ small. small_keeps_7 small a e) (λ long. long_keeps_7 long a e)

  freed_refused_7 : is_in_run s b ≡ false → address_refusal (block_freed s b) b ≡ 7
  freed_refused_7 small = ap (λ (t : State). address_refusal t b) (block_freed_outside_run s b small) ∙ small_freed_refused_7 small

  run_refused_5 : is_in_run s b ≡ true → (a : ℕ) → InRun (superblock_index b) (superblock_holding s b).run (superblock_index a)
      → address_refusal (block_freed s b) a ≡ 5
  run_refused_5 long a inside = ap (λ (t : State). address_refusal t a) (block_freed_in_run s b long) ∙ run_freed_refused_5 long a inside

  freed_refused_5 : is_in_run s b ≡ true → address_refusal (block_freed s b) b ≡ 5
  freed_refused_5 long = run_refused_5 long b (omega arith, omega (arith, (long_effect long).run_before.some))

  -- an address in no run is in none then; one in a run still is, or meets 5
  outside_run_stays : (a : ℕ) → is_in_run s a ≡ false → is_in_run (block_freed s b) a ≡ false
  outside_run_stays = let here = address_freed freed s order b shape passed accepted in
      outside_run_kept s (block_freed s b) here.owners here.shape.length_is

  in_run_stays_or_refused_5 : (a : ℕ) → is_in_run s a ≡ true → (is_in_run (block_freed s b) a ≡ true) ⊎ (address_refusal (block_freed s b) a ≡ 5)
  in_run_stays_or_refused_5 a e =
      by_kind (λ t. (is_in_run t a ≡ true) ⊎ (address_refusal t a ≡ 5))
      (λ small. inl (((effect small).runs (superblock_index a) (in_run_in_table s a shape.length_is e)).0 ∙ e))
      (λ long. go long (side_of_range (superblock_index b) (superblock_holding s b).run (superblock_index a)))
    where
      go : (long : is_in_run s b ≡ true) → Outside (superblock_index b) (superblock_holding s b).run (superblock_index a)
          ⊎ InRun (superblock_index b) (superblock_holding s b).run (superblock_index a)
          → (is_in_run (long_block_freed s b) a ≡ true) ⊎ (address_refusal (long_block_freed s b) a ≡ 5)
      go long (inl out) = inl (ap is_of_run ((long_effect long).others (superblock_index a) (λ inside. outside_not_inside _ _ _ out inside.0 inside.1)) ∙ e)
      go long (inr inside) = inr (run_freed_refused_5 long a inside)

  -- another run stays where it was: no superblock is of both
  run_stays : (k n : ℕ) → RunAt s k n → (b ≡ k * 4096 → ⊥) → RunAt (block_freed s b) k n
  run_stays k n run other =
      by_kind (λ t. RunAt t k n)
      (λ small. run_at_of_same s (small_block_freed s b) k n run (λ m low high. (effect small).runs m (omega (arith, run.in_table))))
      (λ long. run_at_of_same s (long_block_freed s b) k n run (λ m low high.
      let same = (long_effect long).others m
      (λ inside. other (address_of_start long
      (sym (runs_apart s k n (superblock_index b) (superblock_holding s b).run m run (long_effect long).run_before low high inside.0
      inside.1)))) in
      (ap is_of_run same, ap (λ (x : Superblock). x.run) same)))
    where
      address_of_start : is_in_run s b ≡ true → superblock_index b ≡ k → b ≡ k * 4096
      address_of_start long e = freed_run_address freed s order b shape passed accepted long ∙ ap (λ (m : ℕ). m * 4096) e

-- ---- all of a list
-- the frees before an address meet no refusal where those of the whole list meet none
no_refusal_before : (s : State) (x y : List ℕ) → first_address_refusal s (x ++ y) ≡ 0 → first_address_refusal s x ≡ 0
no_refusal_before s x y ok =
    (no_refusal_iff_each_meets_none s x).1
    (λ v a w e. (no_refusal_iff_each_meets_none s (x ++ y)).0 ok v a (w ++ y) (ap (λ (l : List ℕ). l ++ y) e ∙ append_assoc v (a ∷ w) y))

-- an address that meets 5 or 7 meets it after all further frees
refused_5_stays_so : (freed : ℕ → ℕ → ℕ) (s : State) (order x : List ℕ) (a : ℕ) → Shape s → PassedAfterFrees freed s order → first_address_refusal s x ≡ 0
    → address_refusal s a ≡ 5 → address_refusal (all_freed s x) a ≡ 5
unfolding all_freed
refused_5_stays_so freed s order [] a shape passed ok e = e
refused_5_stays_so freed s order (b ∷ x) a shape passed ok e =
    let first = first_refusal_of_cons s b x ok in
    let here = address_freed freed s order b shape passed first.0 in
    refused_5_stays_so (one_more_freed (superblock_holding s b).owner (superblock_holding s b).class freed) (block_freed s b) (order_pushed s order b) x a
    here.shape here.passed first.1
    (refused_5_stays freed s order b shape passed first.0 a e)

refused_7_stays_so : (freed : ℕ → ℕ → ℕ) (s : State) (order x : List ℕ) (a : ℕ) → Shape s → PassedAfterFrees freed s order → first_address_refusal s x ≡ 0
    → address_refusal s a ≡ 7 → address_refusal (all_freed s x) a ≡ 7
unfolding all_freed
refused_7_stays_so freed s order [] a shape passed ok e = e
refused_7_stays_so freed s order (b ∷ x) a shape passed ok e =
    let first = first_refusal_of_cons s b x ok in
    let here = address_freed freed s order b shape passed first.0 in
    refused_7_stays_so (one_more_freed (superblock_holding s b).owner (superblock_holding s b).class freed) (block_freed s b) (order_pushed s order b) x a
    here.shape here.passed first.1
    (refused_7_stays freed s order b shape passed first.0 a e)

-- one that was freed meets 7, or 5 where it is a run's start
freed_among_refused_7 : (freed : ℕ → ℕ → ℕ) (s : State) (order x : List ℕ) (a : ℕ) → Shape s → PassedAfterFrees freed s order → first_address_refusal s x
    ≡ 0 → is_in_run s a ≡ false → Memᴰ a x
    → address_refusal (all_freed s x) a ≡ 7
unfolding all_freed
freed_among_refused_7 freed s order [] a shape passed ok outside among = absurd (Memᴰ.not-nil among)
freed_among_refused_7 freed s order (b ∷ x) a shape passed ok outside among =
    let first = first_refusal_of_cons s b x ok in
    let here = address_freed freed s order b shape passed first.0 in
    ⊎_elim
    (λ e. refused_7_stays_so (one_more_freed (superblock_holding s b).owner (superblock_holding s b).class freed) (block_freed s b) (order_pushed s order b) x a
    here.shape here.passed first.1
    (ap (address_refusal (block_freed s b)) e ∙ freed_refused_7 freed s order b shape passed first.0 (subst (λ (y : ℕ). is_in_run s y ≡ false) e outside)))
    (λ m. freed_among_refused_7 (one_more_freed (superblock_holding s b).owner (superblock_holding s b).class freed) (block_freed s b) (order_pushed s order b)
    x a here.shape here.passed first.1
    (outside_run_stays freed s order b shape passed first.0 a outside) m)
    (Memᴰ.cases_cons among)

freed_among_refused_5 : (freed : ℕ → ℕ → ℕ) (s : State) (order x : List ℕ) (a : ℕ) → Shape s → PassedAfterFrees freed s order → first_address_refusal s x
    ≡ 0 → is_in_run s a ≡ true → Memᴰ a x
    → address_refusal (all_freed s x) a ≡ 5
unfolding all_freed
freed_among_refused_5 freed s order [] a shape passed ok inside among = absurd (Memᴰ.not-nil among)
freed_among_refused_5 freed s order (b ∷ x) a shape passed ok inside among =
    let first = first_refusal_of_cons s b x ok in
    let here = address_freed freed s order b shape passed first.0 in
    let stays = refused_5_stays_so (one_more_freed (superblock_holding s b).owner (superblock_holding s b).class freed) (block_freed s b)
    (order_pushed s order b) x a here.shape here.passed first.1 in
    ⊎_elim (λ e. stays (ap (address_refusal (block_freed s b)) e ∙ freed_refused_5 freed s order b shape passed first.0
    (subst (λ (y : ℕ). is_in_run s y ≡ true) e inside)))
    (λ m. ⊎_elim (λ still. freed_among_refused_5 (one_more_freed (superblock_holding s b).owner (superblock_holding s b).class freed) (block_freed s b)
    (order_pushed s order b) x a here.shape here.passed first.1 still m) stays
    (in_run_stays_or_refused_5 freed s order b shape passed first.0 a inside))
    (Memᴰ.cases_cons among)

-- ---- an inner address of a run
module _ (k n a : ℕ) (in_run : InRun k n (superblock_index a)) (inner : a ≡ k * 4096 → ⊥) where
  -- it meets 6 while the run is there
  inner_refused_6 : {I : ℕ → ℕ → State → Type 0} (s : State) (order : List ℕ) → SoundWith I s order → RunAt s k n → address_refusal s a ≡ 6
  inner_refused_6 s order sound run =
      (inner_address_iff_refused_6 s a below (owner_of_run (superblock_holding s a) (run.of_run (superblock_index a) in_run.0 in_run.1))).1 not_start
    where
      below : a < s.setup.superblocks * 4096
      below = let fits = run_below_superblocks s k n run (λ m l far. (sound.past_unused m l far).owner) in let high = in_run.1 in omega arith

      not_start : (0 < (superblock_holding s a).run) × (offset_of a ≡ 0) → ⊥
      not_start start = go (ℕ_discrete (superblock_index a) k)
        where
          go : Dec (superblock_index a ≡ k) → ⊥
          go (yes e) = inner (let z = start.1 in omega arith)
          go (no f) = omega (arith, start.0, run.others_carry_0 (superblock_index a) (let l = in_run.0 in omega arith) in_run.1)

  inner_by_list : (freed : ℕ → ℕ → ℕ) (s : State) (order x : List ℕ) → Shape s → PassedAfterFrees freed s order → first_address_refusal s x ≡ 0 → RunAt s k n
      → (Memᴰ (k * 4096) x → address_refusal (all_freed s x) a ≡ 5) × ((Memᴰ (k * 4096) x → ⊥) → address_refusal (all_freed s x) a ≡ 6)
  unfolding all_freed
  inner_by_list freed s order [] shape passed ok run = (λ among. absurd (Memᴰ.not-nil among), λ none. inner_refused_6 s order passed.sound run)
  inner_by_list freed s order (b ∷ x) shape passed ok run =
      let first = first_refusal_of_cons s b x ok in
      let here = address_freed freed s order b shape passed first.0 in
      go (ℕ_discrete b (k * 4096)) (inner_by_list (one_more_freed (superblock_holding s b).owner (superblock_holding s b).class freed) (block_freed s b)
      (order_pushed s order b) x here.shape here.passed first.1)
    where
      Then : Type 0
      Then = (Memᴰ (k * 4096) x → address_refusal (all_freed (block_freed s b) x) a ≡ 5)
          × ((Memᴰ (k * 4096) x → ⊥) → address_refusal (all_freed (block_freed s b) x) a ≡ 6)

      first : (address_refusal s b ≡ 0) × (first_address_refusal (block_freed s b) x ≡ 0)
      first = first_refusal_of_cons s b x ok

      here : AddressFreed freed s order b
      here = address_freed freed s order b shape passed first.0

      -- the start of the run is freed now ..
      run_freed_lem : b ≡ k * 4096 → address_refusal (all_freed (block_freed s b) x) a ≡ 5
      run_freed_lem e =
          let home : superblock_index b ≡ k = omega arith in
          let long : is_in_run s b ≡ true = ap (λ (m : ℕ). is_of_run (superblock_at s m)) home ∙ run.of_run k (omega arith) (omega (arith, run.some)) in
          let n_is : (superblock_holding s b).run ≡ n = ap (λ (m : ℕ). (superblock_at s m).run) home ∙ run.length_is in
          refused_5_stays_so (one_more_freed (superblock_holding s b).owner (superblock_holding s b).class freed) (block_freed s b) (order_pushed s order b) x a
          here.shape here.passed first.1
          (run_refused_5 freed s order b shape passed first.0 long a (let l = in_run.0 in let h = in_run.1 in (omega arith, omega arith)))

      -- .. or the run stays
      go : Dec (b ≡ k * 4096) → (RunAt (block_freed s b) k n → Then)
          → (Memᴰ (k * 4096) (b ∷ x) → address_refusal (all_freed (block_freed s b) x) a ≡ 5)
          × ((Memᴰ (k * 4096) (b ∷ x) → ⊥) → address_refusal (all_freed (block_freed s b) x) a ≡ 6)
      go (yes e) rest = (λ among. run_freed_lem e, λ none. absurd (none (Memᴰ.head (sym e))))
      go (no f) rest =
          let later = rest (run_stays freed s order b shape passed first.0 k n run f) in
          (λ among. ⊎_elim (λ e. absurd (f (sym e))) later.0 (Memᴰ.cases_cons among), λ none. later.1 (λ m. none (Memᴰ.tail m)))

-- ---- in a list whose frees meet no refusal
module _ (s : State) (order : List ℕ) (shape : Shape s) where
  -- an address whose block an earlier free of the list has freed meets 7
  pub address_freed_before_refused_7 : Passed s order → (x : List ℕ) (a : ℕ) → first_address_refusal s x ≡ 0 → is_in_run s a ≡ false → Memᴰ a x
      → address_refusal (all_freed s x) a ≡ 7
  address_freed_before_refused_7 passed x a = freed_among_refused_7 (λ h c. 0) s order x a shape (passed_after_no_frees s order passed)

  -- and a run's start 5, as the whole run is unused then
  pub run_start_freed_before_refused_5 : Passed s order → (x : List ℕ) (a : ℕ) → first_address_refusal s x ≡ 0 → is_in_run s a ≡ true → Memᴰ a x
      → address_refusal (all_freed s x) a ≡ 5
  run_start_freed_before_refused_5 passed x a = freed_among_refused_5 (λ h c. 0) s order x a shape (passed_after_no_frees s order passed)

  -- an inner address of a run meets 6 before the run's start is listed, and 5 after
  pub inner_address_refused_6_before_start : Passed s order → (k n : ℕ) → RunAt s k n → (x : List ℕ) (a : ℕ) → first_address_refusal s x ≡ 0
      → InRun k n (superblock_index a) → (a ≡ k * 4096 → ⊥)
      → (Memᴰ (k * 4096) x → ⊥) → address_refusal (all_freed s x) a ≡ 6
  inner_address_refused_6_before_start passed k n run x a ok inside inner = (inner_by_list k n a inside inner (λ h c. 0) s order x shape
      (passed_after_no_frees s order passed) ok run).1

  pub inner_address_refused_5_after_start : Passed s order → (k n : ℕ) → RunAt s k n → (x : List ℕ) (a : ℕ) → first_address_refusal s x ≡ 0
      → InRun k n (superblock_index a) → (a ≡ k * 4096 → ⊥)
      → Memᴰ (k * 4096) x → address_refusal (all_freed s x) a ≡ 5
  inner_address_refused_5_after_start passed k n run x a ok inside inner = (inner_by_list k n a inside inner (λ h c. 0) s order x shape
      (passed_after_no_frees s order passed) ok run).0

  -- so that no address stands twice in such a list
  pub no_address_twice : Passed s order → (x : List ℕ) (a : ℕ) (y : List ℕ) → first_address_refusal s (x ++ (a ∷ y)) ≡ 0 → Memᴰ a x → ⊥
  no_address_twice passed x a y ok among = go (is_in_run s a) refl
    where
      none : first_address_refusal s x ≡ 0
      none = no_refusal_before s x (a ∷ y) ok

      zero : address_refusal (all_freed s x) a ≡ 0
      zero = (no_refusal_iff_each_meets_none s (x ++ (a ∷ y))).0 ok x a y refl

      go : (t : Bool) → is_in_run s a ≡ t → ⊥
      go true e = omega (arith, zero, run_start_freed_before_refused_5 passed x a none e among)
      go false e = omega (arith, zero, address_freed_before_refused_7 passed x a none e among)

  -- and a drop with one is refused
  pub drop_of_address_twice_refused : (i : ℕ) (x : List ℕ) (a : ℕ) (y : List ℕ) → Memᴰ a x → (r : ℕ)
      × (drop_of s order i (x ++ (a ∷ y)) ≡ refused r s order)
  drop_of_address_twice_refused i x a y among = ⊎_elim (λ r. r) (λ acc. absurd (no_address_twice acc.passed x a y acc.no_refusal among))
      (drop_refused_or_accepted s order i (x ++ (a ∷ y)))

  -- where the frees before it meet no refusal, with 7, or with 5 for the start of a run
  pub drop_of_address_twice_refused_7 : (i : ℕ) → Passed s order → IsProcessor s i → (x : List ℕ) (a : ℕ) (y : List ℕ) → first_address_refusal s x ≡ 0
      → is_in_run s a ≡ false → Memᴰ a x
      → (drop_of s order i (x ++ (a ∷ y))).answer.outcome ≡ Refused 7
  drop_of_address_twice_refused_7 i passed processor x a y ok outside among =
      (drop_refused_7 s order i (x ++ (a ∷ y))).1
      (record {
        passed = passed;
        processor = processor;
        first = record {
          before = x;
          address = a;
          behind = y;
          written = refl;
          none_before = ok;
          bad = (address_refusal_iff_condition (all_freed s x) a 7).0
              (address_freed_before_refused_7 passed x a ok outside among);
        };
      })

  pub drop_of_run_start_twice_refused_5 : (i : ℕ) → Passed s order → IsProcessor s i → (x : List ℕ) (a : ℕ) (y : List ℕ) → first_address_refusal s x ≡ 0
      → is_in_run s a ≡ true → Memᴰ a x
      → (drop_of s order i (x ++ (a ∷ y))).answer.outcome ≡ Refused 5
  drop_of_run_start_twice_refused_5 i passed processor x a y ok inside among =
      (drop_refused_5 s order i (x ++ (a ∷ y))).1
      (record {
        passed = passed;
        processor = processor;
        first = record {
          before = x;
          address = a;
          behind = y;
          written = refl;
          none_before = ok;
          bad = (address_refusal_iff_condition (all_freed s x) a 5).0
              (run_start_freed_before_refused_5 passed x a ok inside among);
        };
      })
