-- A long block freed, before any move: "a free makes the whole run unused" (document 02, item 7). What becomes of a state that passed its check before
-- these frees. Assumes nothing.
use mathlib.Core.Path.{◌≡◌, refl, sym, ap, ◌∙◌, subst}
use mathlib.Core.Bool.{Bool, true, false}
use mathlib.Core.Logic.{◌⊎◌, inl, inr}
use mathlib.Core.List.{List}
use Prim.Native.Nat.{ℕ, ◌+◌, ◌*◌, ◌/◌, ◌%◌, ◌≤◌, ◌<◌}
use native.Mathlib.Decide.{ℕ_discrete, dec_lt}
use native.Mathlib.Omega.{arith}
use borrow.Author.Tests.{eqb-true, ltb-true, lt-ltb, not-false}
use lib.ListN.{length, get_or-eq_default}
use lib.Dec.{T, eqb, ltb}
use Rattle.base_laws.specs.Sums.{pick, one}
use Rattle.class_rules.specs.Classes.{class_count}
use Rattle.base_laws.proofs.Inequalities.{le_of_not_below}
use Rattle.base_laws.proofs.TestLaws.{T_of_true, true_of_T, both_left, both_right, pick_true}
use Rattle.base_laws.proofs.SumLaws.{sum_cong}
use Rattle.marks_rules.specs.Marks.{is_marked, mark_bit, no_marks, with_mark}
use Rattle.marks_laws.proofs.MarkLaws.{mark_bit_one_of_mark, mark_bit_zero_of_no_mark, with_mark_other, mark_bit_of_no_marks, live_count_of_no_marks}
use Rattle.marks_laws.proofs.MarkLaws.{marks_clear_of_live_count_zero}
use Rattle.names_rules.specs.Names.{block_number, without_block}
use Rattle.names_laws.proofs.NameLaws.{length_without_block}
use Rattle.heap_rules.specs.declared.Superblock.{Superblock}
use Rattle.heap_rules.specs.declared.Setup.{Setup}
use Rattle.heap_rules.specs.declared.Totals.{Totals}
use Rattle.heap_rules.specs.declared.State.{State}
use Rattle.heap_rules.specs.Table.{run_owner, unused_owner, blank, unused, superblock_at, live_in, is_of_run, starts_run, live_blocks, is_live_block}
use Rattle.heap_rules.specs.Counts.{total, belongs, is_owned_of_class, one_if_belongs, live_if_belongs, superblocks_of, live_of, superblocks_of_class}
use Rattle.heap_rules.specs.Counts.{live_of_class}
use Rattle.heap_rules.specs.Totals.{TotalsKept}
use Rattle.check_rules.specs.Check.{names_valid, runs_valid}
use Rattle.heap_laws.proofs.StateFacts.{Shape, WithinLimits, Unused, Unowned, Owned, Sparse, RanksSound, RunsSound, InvariantBeforeFrees, SoundAfterFrees}
use Rattle.heap_laws.proofs.StateCheckLaws.{unowned_of_unused, unused_is_unused}
use Rattle.heap_laws.proofs.CountLaws.{not_belongs_of_other_owner}
use Rattle.heap_laws.proofs.TotalsLaws.{length_recounted_superblocks, length_recounted_live}
use Rattle.heap_laws.proofs.RankLaws.{ranks_sound_of_same_ranks}
use Rattle.heap_laws.proofs.RunLaws.{Outside, side_of_range, outside_not_inside, runs_sound_of_valid, runs_valid_of_sound, run_below_superblocks}
use Rattle.heap_laws.proofs.RunsKeptLaws.{owner_of_run, live_blocks_outside_run, live_blocks_of_first, live_blocks_not_first}
use Rattle.heap_laws.proofs.PassedBetweenHeapsLaws.{none_passed_between_heaps}
use Rattle.call_rules.specs.LongBlocks.{run_freed}
use Rattle.call_rules.specs.Free.{superblock_index, offset_of, superblock_holding, block_of, is_in_run, is_run_start, is_misaligned, address_refusal}
use Rattle.call_rules.specs.Free.{block_number_at}
use Rattle.call_rules.specs.Free.{long_block_freed}
use Rattle.call_rules.proofs.AddressRefusalLaws.{mapped_of_no_refusal, aligned_of_no_refusal}
use Rattle.call_laws.proofs.CallEffects.{PassedAfterFrees, LongFreeEffect, RanksKept}
use Rattle.call_laws.proofs.EachOfRunLaws.{EachMade}
use Rattle.call_laws.proofs.RunEffectLaws.{RestKept, run_freed_made, run_freed_keeps_rest, run_freed_runs_sound}
use Rattle.call_laws.proofs.AddressLaws.{mapped_below_64, block_of_offset_0}
use Rattle.call_laws.proofs.NamesKeptLaws.{mark_of_live_block, live_block_of_mark, names_valid_of_others_kept}
use Rattle.call_laws.proofs.SuperblockLaws.{unowned_of_no_class}
use Rattle.call_laws.proofs.TransferredLaws.{invariant_before_frees_cong}
use Rattle.heap_rules.specs.Runs.{RunAt, InRun}

-- nothing is live in an unused superblock
none_live_in_unused : (j : ℕ) → mark_bit (live_blocks unused) j ≡ 0
unfolding is_of_run
none_live_in_unused j = ap (λ (l : List ℕ). mark_bit l j) (live_blocks_outside_run unused refl) ∙ mark_bit_of_no_marks j

-- the address meets no refusal, in a state that passed before these frees, and lies in a run
module _ (freed : ℕ → ℕ → ℕ) (s : State) (order : List ℕ) (a : ℕ) (shape : Shape s) (passed : PassedAfterFrees freed s order)
    (accepted : address_refusal s a ≡ 0) (long : is_in_run s a ≡ true) where
  abbrev k : ℕ
  k = superblock_index a

  abbrev n : ℕ
  n = (superblock_holding s a).run

  -- ---- the run that starts at the address
  is_run_start_lem : is_run_start s a ≡ true
  unfolding is_misaligned
  is_run_start_lem = not-false (is_run_start s a) (sym (pick_true (is_in_run s a) _ _ long) ∙ aligned_of_no_refusal s a accepted)

  starts : starts_run (superblock_holding s a) ≡ true
  unfolding is_run_start
  starts = true_of_T _ (both_left (starts_run (superblock_holding s a)) (eqb (offset_of a) 0) (T_of_true _ is_run_start_lem))

  offset_is_0 : offset_of a ≡ 0
  unfolding is_run_start
  offset_is_0 = eqb-true (offset_of a) 0 (true_of_T _ (both_right (starts_run (superblock_holding s a)) (eqb (offset_of a) 0) (T_of_true _ is_run_start_lem)))

  -- "The block's address is the start of the run"
  pub freed_run_address : a ≡ superblock_index a * 4096
  freed_run_address = let e = offset_is_0 in omega arith

  pub freed_run_lt_64 : superblock_index a < 64
  freed_run_lt_64 = mapped_below_64 s order a passed.sound (mapped_of_no_refusal s a accepted)

  runs_sound : RunsSound s
  runs_sound = runs_sound_of_valid s shape.length_is passed.runs

  pub freed_run : RunAt s (superblock_index a) (superblock_holding s a).run
  unfolding starts_run
  freed_run = runs_sound.first_of_run k freed_run_lt_64 long
      (ltb-true 0 n (true_of_T _ (both_right (is_of_run (superblock_holding s a)) (ltb 0 n) (T_of_true _ starts))))

  pub freed_run_below : superblock_index a + (superblock_holding s a).run ≤ s.setup.superblocks
  freed_run_below = run_below_superblocks s k n freed_run (λ m l far. (passed.sound.past_unused m l far).owner)

  -- ---- its superblocks, before the free
  part_lt_64 : (m : ℕ) → InRun k n m → m < 64
  part_lt_64 m inside = let h = inside.1 in omega (arith, freed_run.in_table)

  part_owner : (m : ℕ) → InRun k n m → (superblock_at s m).owner ≡ run_owner
  part_owner m inside = owner_of_run (superblock_at s m) (freed_run.of_run m inside.0 inside.1)

  part_unowned : (m : ℕ) → InRun k n m → Unowned (superblock_at s m)
  part_unowned m inside = go (passed.sound.each m (part_lt_64 m inside))
    where
      go : Unowned (superblock_at s m) ⊎ Owned s.setup order m (superblock_at s m) → Unowned (superblock_at s m)
      go (inl u) = u
      go (inr o) = absurd (let z : ⊥ = omega (arith, o.owner, part_owner m inside, passed.sound.numbers.processors_high) in z)

  first_inside : InRun k n k
  first_inside = (omega arith, omega (arith, freed_run.some))

  pub freed_run_owner : (superblock_holding s a).owner ≡ run_owner
  freed_run_owner = part_owner k first_inside

  pub freed_run_no_marks : (b : ℕ) → b < 256 → mark_bit (superblock_holding s a).live b ≡ 0
  freed_run_no_marks = marks_clear_of_live_count_zero (superblock_holding s a).live (part_unowned k first_inside).live

  -- a long block is block 0 of its run's first superblock
  pub freed_run_block : block_of s a ≡ 0
  freed_run_block = block_of_offset_0 s a offset_is_0

  pub freed_run_number : block_number_at s a ≡ block_number (superblock_index a) 0
  unfolding block_number_at
  freed_run_number = pick_true (ltb k 64) _ _ (lt-ltb k 64 freed_run_lt_64) ∙ ap (block_number k) freed_run_block

  -- ---- and after it
  abbrev after : State
  after = long_block_freed s a

  made : EachMade (λ _ b. b ≡ unused) (λ b d. d ≡ b) k n s (run_freed k n s)
  made = run_freed_made k n s shape.length_is freed_run.in_table

  rest_kept : RestKept s (run_freed k n s)
  rest_kept = run_freed_keeps_rest k n s

  length_after : length after.table ≡ 64
  unfolding long_block_freed
  length_after = rest_kept.length_is shape.length_is

  made_unused_lem : (m : ℕ) → InRun k n m → superblock_at after m ≡ unused
  unfolding long_block_freed
  made_unused_lem m inside = made.inside m inside.0 inside.1

  others_kept : (m : ℕ) → (InRun k n m → ⊥) → superblock_at after m ≡ superblock_at s m
  unfolding long_block_freed
  others_kept m other = go (dec_lt m 64) (side_of_range k n m)
    where
      go : Dec (m < 64) → Outside k n m ⊎ ((k ≤ m) × (m < k + n)) → superblock_at after m ≡ superblock_at s m
      go (yes l) (inl out) = made.outside m l out
      go (yes l) (inr inside) = absurd (other inside)
      go (no f) _ = let g = le_of_not_below f in get_or-eq_default after.table blank (omega (arith, length_after))
          ∙ sym (get_or-eq_default s.table blank (omega (arith, shape.length_is)))

  -- what holds of an unused superblock in place of each of the run, and of each other, holds of each
  each_after : (P : ℕ → Superblock → Type 0) → ((m : ℕ) → InRun k n m → P m unused) → ((m : ℕ) → m < 64 → P m (superblock_at s m)) → (m : ℕ) → m < 64
      → P m (superblock_at after m)
  each_after P here others m l = go (side_of_range k n m)
    where
      go : Outside k n m ⊎ ((k ≤ m) × (m < k + n)) → P m (superblock_at after m)
      go (inl out) = subst (P m) (sym (others_kept m (λ inside. outside_not_inside k n m out inside.0 inside.1))) (others m l)
      go (inr inside) = subst (P m) (sym (made_unused_lem m inside)) (here m inside)

  pub long_block_freed_class : (m : ℕ) → m < 64 → (superblock_at (long_block_freed s a) m).class ≡ (superblock_at s m).class
  long_block_freed_class = each_after (λ m b. b.class ≡ (superblock_at s m).class) (λ m inside. sym (part_unowned m inside).class) (λ m l. refl)

  -- an owner stays, or was 254 and is 255
  pub long_block_freed_owner : (m : ℕ) → m < 64 → ((superblock_at (long_block_freed s a) m).owner ≡ (superblock_at s m).owner)
      ⊎ (((superblock_at s m).owner ≡ run_owner) × ((superblock_at (long_block_freed s a) m).owner ≡ unused_owner))
  long_block_freed_owner = each_after (λ m b. (b.owner ≡ (superblock_at s m).owner) ⊎ (((superblock_at s m).owner ≡ run_owner) × (b.owner ≡ unused_owner)))
      (λ m inside. inr (part_owner m inside, refl)) (λ m l. inl refl)

  -- a run has no marks, before and after
  pub long_block_freed_marks : (m b : ℕ) → m < 64 → b < 256 → mark_bit (superblock_at (long_block_freed s a) m).live b ≡ mark_bit (superblock_at s m).live b
  long_block_freed_marks m b l small =
      each_after (λ m x. mark_bit x.live b ≡ mark_bit (superblock_at s m).live b)
      (λ m inside. marks_clear_of_live_count_zero no_marks live_count_of_no_marks b small
      ∙ sym (marks_clear_of_live_count_zero (superblock_at s m).live (part_unowned m inside).live b small)) (λ m l. refl) m l

  -- and no rank
  pub long_block_freed_ranks : RanksKept s (long_block_freed s a)
  long_block_freed_ranks = each_after (λ m b. b.rank ≡ (superblock_at s m).rank)
      (λ m inside. sym (passed.ranks.unowned_unranked m (part_lt_64 m inside) (part_unowned m inside))) (λ m l. refl)

  -- ---- the counts
  total_same : (f : Superblock → ℕ) → ((m : ℕ) → InRun k n m → f unused ≡ f (superblock_at s m)) → total f after.table ≡ total f s.table
  unfolding total
  total_same f same = sum_cong (λ m. f (superblock_at after m)) (λ m. f (superblock_at s m)) 64
      (each_after (λ m b. f b ≡ f (superblock_at s m)) same (λ m l. refl))

  -- none of its superblocks counts for a heap, before and after
  not_of_heap : (h c m : ℕ) → h < run_owner → InRun k n m → (belongs h c unused ≡ false) × (belongs h c (superblock_at s m) ≡ false)
  not_of_heap h c m l inside = (
    not_belongs_of_other_owner h c unused (λ (q : unused.owner ≡ h). omega arith),
    not_belongs_of_other_owner h c (superblock_at s m)
        (λ (q : (superblock_at s m).owner ≡ h). omega (arith, part_owner m inside)),
  )

  long_block_freed_superblocks_of : (h c : ℕ) → h < run_owner → superblocks_of h c after ≡ superblocks_of h c s
  unfolding superblocks_of one_if_belongs
  long_block_freed_superblocks_of h c l = total_same (one_if_belongs h c) (λ m inside. let z = not_of_heap h c m l inside in ap one (z.0 ∙ sym z.1))

  long_block_freed_live_of : (h c : ℕ) → h < run_owner → live_of h c after ≡ live_of h c s
  unfolding live_of live_if_belongs
  long_block_freed_live_of h c l = total_same (live_if_belongs h c) (λ m inside. let z = not_of_heap h c m l inside in rw (z.0, z.1))

  -- nor for a class
  not_of_class : (d m : ℕ) → InRun k n m → (is_owned_of_class d unused ≡ false) × (is_owned_of_class d (superblock_at s m) ≡ false)
  not_of_class d m inside = (unowned_of_no_class d unused (omega arith), unowned_of_no_class d (superblock_at s m) (omega (arith, part_owner m inside)))

  long_block_freed_owned_of : (d : ℕ) → superblocks_of_class d after ≡ superblocks_of_class d s
  unfolding superblocks_of_class
  long_block_freed_owned_of d = total_same (λ b. one (is_owned_of_class d b)) (λ m inside. let z = not_of_class d m inside in ap one (z.0 ∙ sym z.1))

  long_block_freed_live_of_class : (d : ℕ) → live_of_class d after ≡ live_of_class d s
  unfolding live_of_class
  long_block_freed_live_of_class d = total_same (λ b. pick (is_owned_of_class d b) (live_in b) 0) (λ m inside. let z = not_of_class d m inside in rw (z.0, z.1))

  setup_same : after.setup ≡ s.setup
  unfolding long_block_freed
  setup_same = rest_kept.setup

  pub long_block_freed_effect : LongFreeEffect (superblock_index a) (superblock_holding s a).run s (long_block_freed s a)
  long_block_freed_effect =
      record {
        run_before = freed_run;
        below = freed_run_below;
        setup = setup_same;
        run = made_unused_lem;
        others = others_kept;
        passed_between_heaps_lem = none_passed_between_heaps s after
            (each_after (λ m b. (b.owner ≡ (superblock_at s m).owner) ⊎ ((run_owner ≤ (superblock_at s m).owner) ⊎ (run_owner ≤ b.owner)))
            (λ m inside. inr (inr (omega arith))) (λ m l. inl refl));
        owned = long_block_freed_owned_of;
        live = long_block_freed_live_of_class;
      }

  -- "A name holds .. until its block is freed": the block's name is let go, and no other
  pub long_block_freed_names : (long_block_freed s a).names ≡ without_block s.names (block_number (superblock_index a) 0)
  unfolding long_block_freed
  long_block_freed_names = ap (without_block s.names) freed_run_number

  long_block_freed_totals : TotalsKept after
  unfolding long_block_freed
  long_block_freed_totals = rest_kept.totals passed.totals

  pub long_block_freed_shape : Shape (long_block_freed s a)
  long_block_freed_shape =
      record {
        length_is = length_after;
        marks_length = each_after (λ m b. length b.live ≡ 4) (λ m inside. refl) shape.marks_length;
        names_length = ap length long_block_freed_names ∙ length_without_block s.names (block_number k 0) ∙ shape.names_length;
        superblock_totals_length = ap (λ (x : Totals). length x.superblocks) long_block_freed_totals ∙ length_recounted_superblocks after.table;
        live_totals_length = ap (λ (x : Totals). length x.live) long_block_freed_totals ∙ length_recounted_live after.table;
      }

  -- ---- the check
  long_block_freed_ranks_sound : RanksSound after
  long_block_freed_ranks_sound =
      ranks_sound_of_same_ranks s after long_block_freed_ranks
      (each_after (λ m b. Unowned b → Unowned (superblock_at s m)) (λ m inside u. part_unowned m inside) (λ m l u. u)) passed.ranks

  long_block_freed_sound : SoundAfterFrees freed after order
  long_block_freed_sound =
      record {
        numbers = subst WithinLimits (sym setup_same) passed.sound.numbers;
        each = subst (λ (u : Setup). (m : ℕ) → m < 64 → Unowned (superblock_at after m) ⊎ Owned u order m (superblock_at after m)) (sym setup_same)
            (each_after (λ m b. Unowned b ⊎ Owned s.setup order m b) (λ m inside. inl (unowned_of_unused unused unused_is_unused)) passed.sound.each);
        past_unused = subst (λ (u : Setup). (m : ℕ) → m < 64 → u.superblocks ≤ m → Unused (superblock_at after m)) (sym setup_same)
            (each_after (λ m b. s.setup.superblocks ≤ m → Unused b) (λ m inside far. unused_is_unused) passed.sound.past_unused);
        invariant = λ h c low high known. holds h c low (subst (λ (u : Setup). h ≤ u.processors) setup_same high) known;
        sparse = subst (λ (u : Setup). (m : ℕ) → m < 64 → (superblock_at after m).owner ≡ 0 → Sparse u (superblock_at after m)) (sym setup_same)
            (each_after (λ m b. b.owner ≡ 0 → Sparse s.setup b) (λ m inside (zero : unused.owner ≡ 0). absurd (let z : ⊥ = omega arith in z))
            passed.sound.sparse);
      }
    where
      holds : (h c : ℕ) → 1 ≤ h → h ≤ s.setup.processors → c < class_count → InvariantBeforeFrees (freed h c) h c after
      holds h c low high known =
          let l : h < run_owner = omega (arith, passed.sound.numbers.processors_high) in
          invariant_before_frees_cong (freed h c) h c s after setup_same (long_block_freed_superblocks_of h c l) (long_block_freed_live_of h c l)
          (passed.sound.invariant h c low high known)

  -- the block of the run is the only one of its superblocks
  only_block_of_run : (m j : ℕ) → InRun k n m → j < 256 → mark_bit (live_blocks (superblock_at s m)) j ≡ 1 → (m ≡ k) × (j ≡ 0)
  unfolding starts_run
  only_block_of_run m j inside small marked = go (ℕ_discrete m k) (ℕ_discrete j 0)
    where
      go : Dec (m ≡ k) → Dec (j ≡ 0) → (m ≡ k) × (j ≡ 0)
      go (yes e) (yes q) = (e, q)
      go (yes e) (no f) =
          let first : live_blocks (superblock_at s m) ≡ with_mark no_marks 0 = ap (λ (x : ℕ). live_blocks (superblock_at s x)) e
          ∙ live_blocks_of_first (superblock_at s k) starts in
          let clear : mark_bit (live_blocks (superblock_at s m)) j ≡ 0 = ap (λ (x : List ℕ). mark_bit x j) first ∙ with_mark_other no_marks 0 j f
          ∙ mark_bit_of_no_marks j in
          absurd (let z : ⊥ = omega arith in z)
      go (no f) q =
          let carries : (superblock_at s m).run ≡ 0 = freed_run.others_carry_0 m (let l = inside.0 in omega arith) inside.1 in
          let of_run = freed_run.of_run m inside.0 inside.1 in
          let not_first : starts_run (superblock_at s m) ≡ false = rw (of_run, carries) in
          let clear : mark_bit (live_blocks (superblock_at s m)) j ≡ 0 =
          ap (λ (x : List ℕ). mark_bit x j) (live_blocks_not_first (superblock_at s m) not_first)
          ∙ marks_clear_of_live_count_zero (superblock_at s m).live (part_unowned m inside).live j small in
          absurd (let z : ⊥ = omega arith in z)

  -- it is no longer live, and every other block is live or not as it was
  pub long_block_freed_live_blocks : (m j : ℕ) → m < 64 → j < 256 → ((m ≡ superblock_index a) × (j ≡ 0) → ⊥)
      → mark_bit (live_blocks (superblock_at (long_block_freed s a) m)) j ≡ mark_bit (live_blocks (superblock_at s m)) j
  long_block_freed_live_blocks m j l small =
      each_after (λ i b. ((i ≡ k) × (j ≡ 0) → ⊥) → mark_bit (live_blocks b) j ≡ mark_bit (live_blocks (superblock_at s i)) j)
      (λ i inside apart. none_live_in_unused j ∙ sym (clear i inside apart (is_marked (live_blocks (superblock_at s i)) j) refl)) (λ i li apart. refl) m l
    where
      clear : (i : ℕ) → InRun k n i → ((i ≡ k) × (j ≡ 0) → ⊥) → (t : Bool) → is_marked (live_blocks (superblock_at s i)) j ≡ t
          → mark_bit (live_blocks (superblock_at s i)) j ≡ 0
      clear i inside apart true e = absurd (apart (only_block_of_run i j inside small (mark_bit_one_of_mark (live_blocks (superblock_at s i)) j e)))
      clear i inside apart false e = mark_bit_zero_of_no_mark (live_blocks (superblock_at s i)) j e

  pub long_block_freed_not_live : mark_bit (live_blocks (superblock_holding (long_block_freed s a) a)) 0 ≡ 0
  long_block_freed_not_live = ap (λ (b : Superblock). mark_bit (live_blocks b) 0) (made_unused_lem k first_inside) ∙ none_live_in_unused 0

  -- so that every other live block stays live
  still_live : (b : ℕ) → (b ≡ block_number k 0 → ⊥) → T (is_live_block s b) → T (is_live_block after b)
  still_live b other live = go (side_of_range k n (b / 256))
    where
      go : Outside k n (b / 256) ⊎ ((k ≤ b / 256) × (b / 256 < k + n)) → T (is_live_block after b)
      go (inl out) =
          live_block_of_mark after b
          (ap (λ (x : Superblock). mark_bit (live_blocks x) (b % 256))
          (others_kept (b / 256) (λ inside. outside_not_inside k n (b / 256) out inside.0 inside.1)) ∙ mark_of_live_block s b live)
      go (inr inside) =
          let is = only_block_of_run (b / 256) (b % 256) inside (omega arith) (mark_of_live_block s b live) in
          absurd (other (let p = is.0 in let q = is.1 in omega arith))

  long_block_freed_names_valid : T (names_valid after)
  long_block_freed_names_valid = names_valid_of_others_kept s after (block_number k 0) still_live long_block_freed_names passed.names

  long_block_freed_runs_valid : T (runs_valid after)
  unfolding long_block_freed runs_valid
  long_block_freed_runs_valid = runs_valid_of_sound (run_freed k n s) (rest_kept.length_is shape.length_is)
      (run_freed_runs_sound k n s shape.length_is freed_run runs_sound)

  -- no heap and class has lost a block that the move rule counts
  pub long_block_freed_passed : PassedAfterFrees freed (long_block_freed s a) order
  long_block_freed_passed =
      record {
        sound = long_block_freed_sound;
        names = long_block_freed_names_valid;
        totals = long_block_freed_totals;
        ranks = long_block_freed_ranks_sound;
        runs = long_block_freed_runs_valid;
        room = subst (λ (u : Setup). u.superblocks * 256 ≤ length order) (sym setup_same) passed.room;
      }
