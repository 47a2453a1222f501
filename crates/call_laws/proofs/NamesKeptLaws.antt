-- "each held name points at a live block, no two at one" is kept by a take, of a long block too, by the name bound with it, and by a free that lets
-- its block's name go. Assumes nothing.
use mathlib.Core.Path.{◌≡◌, refl, sym, ap, ◌∙◌}
use mathlib.Core.Bool.{Bool, true, false}
use mathlib.Core.Logic.{⊎_elim}
use mathlib.Core.List.{List}
use Prim.Native.Nat.{ℕ, ◌+◌, ◌/◌, ◌%◌, ◌≤◌, ◌<◌}
use native.Mathlib.Decide.{ℕ_discrete, dec_le, dec_lt}
use native.Mathlib.Omega.{arith}
use borrow.Author.Tests.{eq-eqb, lt-ltb}
use lib.ListN.{length, get_or-eq_default}
use lib.Dec.{T}
use Rattle.base_laws.specs.Sums.{pick}
use Rattle.base_laws.proofs.TestLaws.{T_of_true, true_of_T, both_left, both_right, both_make}
use Rattle.marks_rules.specs.Marks.{mark_bit, no_marks, with_mark}
use Rattle.marks_laws.proofs.MarkLaws.{mark_bit_one_of_mark, mark_of_mark_bit_one, mark_bit_of_empty_list, marks_clear_of_live_count_zero, with_mark_same}
use Rattle.names_rules.specs.Names.{not_held, block_number, with_name, without_block, each_held}
use Rattle.names_laws.proofs.NameLaws.{test_of_named, each_held_of_tests, each_held_with_name, each_held_without_block, no_two_with_name, no_two_without_block}
use Rattle.heap_rules.specs.declared.Superblock.{Superblock}
use Rattle.heap_rules.specs.declared.State.{State}
use Rattle.heap_rules.specs.Table.{run_owner, blank, superblock_at, is_of_run, starts_run, live_blocks, is_live_block}
use Rattle.heap_rules.specs.States.{with_names}
use Rattle.choice_rules.specs.RunChoice.{is_available}
use Rattle.check_rules.specs.Check.{names_valid}
use Rattle.heap_laws.proofs.RunChoiceLaws.{facts_of_is_available}
use Rattle.heap_laws.proofs.RunsKeptLaws.{live_blocks_outside_run, starts_run_same, outside_run_of_owner}
use Rattle.call_laws.proofs.CallEffects.{TakeEffect, FreeEffect, LongTakeEffect}
use Rattle.heap_rules.specs.Runs.{InRun}

-- ---- a live block by its number
module _ (s : State) (b : ℕ) where
  pub mark_of_live_block : T (is_live_block s b) → mark_bit (live_blocks (superblock_at s (b / 256))) (b % 256) ≡ 1
  unfolding is_live_block
  mark_of_live_block t = mark_bit_one_of_mark (live_blocks (superblock_at s (b / 256))) (b % 256) (true_of_T _ t)

  pub live_block_of_mark : mark_bit (live_blocks (superblock_at s (b / 256))) (b % 256) ≡ 1 → T (is_live_block s b)
  unfolding is_live_block
  live_block_of_mark e = T_of_true _ (mark_of_mark_bit_one (live_blocks (superblock_at s (b / 256))) (b % 256) e)

  -- it is one of the table's
  pub live_block_in_table : length s.table ≡ 64 → T (is_live_block s b) → b / 256 < 64
  live_block_in_table long t = go (dec_lt (b / 256) 64)
    where
      go : Dec (b / 256 < 64) → b / 256 < 64
      go (yes l) = l
      go (no f) =
          let none : superblock_at s (b / 256) ≡ blank = get_or-eq_default s.table blank (omega arith) in
          let clear : mark_bit (live_blocks (superblock_at s (b / 256))) (b % 256) ≡ 0 =
          ap (λ (x : Superblock). mark_bit (live_blocks x) (b % 256)) none ∙ ap (λ (x : List ℕ). mark_bit x (b % 256))
          (live_blocks_outside_run blank (outside_run_of_owner blank (λ (q : blank.owner ≡ run_owner). omega arith)))
          ∙ mark_bit_of_empty_list (b % 256) in
          absurd (let z : ⊥ = omega (arith, mark_of_live_block t) in z)

-- a block of the table by superblock and block
pub live_block_of_live_mark : (s : State) (k j : ℕ) → j < 256 → mark_bit (live_blocks (superblock_at s k)) j ≡ 1 → T (is_live_block s (block_number k j))
live_block_of_live_mark s k j l e =
    live_block_of_mark s (block_number k j)
    (let a : block_number k j / 256 ≡ k = omega arith in let b : block_number k j % 256 ≡ j = omega arith in rw (a, b) e)

pub live_block_of_mark_at : (s : State) (k j : ℕ) → j < 256 → is_of_run (superblock_at s k) ≡ false → mark_bit (superblock_at s k).live j ≡ 1
    → T (is_live_block s (block_number k j))
live_block_of_mark_at s k j l outside e =
    live_block_of_live_mark s k j l (ap (λ (x : List ℕ). mark_bit x j) (live_blocks_outside_run (superblock_at s k) outside) ∙ e)

-- a superblock of which the marks at block j are kept, and what it is of a run, keeps the live block there
pub live_mark_kept : (b d : Superblock) (j : ℕ) → is_of_run d ≡ is_of_run b → d.run ≡ b.run → (mark_bit b.live j ≡ 1 → mark_bit d.live j ≡ 1)
    → mark_bit (live_blocks b) j ≡ 1 → mark_bit (live_blocks d) j ≡ 1
unfolding live_blocks
live_mark_kept b d j e g kept was = rw (starts_run_same d b e g) (go (starts_run b) was)
  where
    go : (t : Bool) → mark_bit (pick t (with_mark no_marks 0) b.live) j ≡ 1 → mark_bit (pick t (with_mark no_marks 0) d.live) j ≡ 1
    go true h = h
    go false h = kept h

-- ---- where every live block stays live
module _ (s t : State) (kept : (b : ℕ) → T (is_live_block s b) → T (is_live_block t b)) (same : t.names ≡ s.names) (valid : T (names_valid s)) where
  pub names_valid_of_live_kept : T (names_valid t)
  unfolding names_valid is_live_block
  names_valid_of_live_kept =
      rw same
      (both_make (each_held (is_live_block t) s.names) _
      (each_held_of_tests (is_live_block s) (is_live_block t) s.names kept (both_left (each_held (is_live_block s) s.names) _ valid))
      (both_right (each_held (is_live_block s) s.names) _ valid))

  -- a name may be bound to a block that is live then and was not: no name pointed at it
  names_valid_of_name_bound : (m b : ℕ) → (b ≡ not_held → ⊥) → (T (is_live_block s b) → ⊥) → T (is_live_block t b)
      → T (names_valid (with_names t (with_name s.names m b)))
  unfolding names_valid is_live_block
  names_valid_of_name_bound m b block was now =
      let each : T (each_held (is_live_block t) s.names) = rw same at (both_left (each_held (is_live_block t) t.names) _ names_valid_of_live_kept) in
      both_make (each_held (is_live_block t) (with_name s.names m b)) _ (each_held_with_name (is_live_block t) s.names m b now each)
      (no_two_with_name s.names m b
      (λ named. was (test_of_named (is_live_block s) s.names (both_left (each_held (is_live_block s) s.names) _ valid) b block named))
      (both_right (each_held (is_live_block s) s.names) _ valid))

-- ---- a take: every live block stays live
module _ (i c k j : ℕ) (s t : State) (block : j < 256) (long : length s.table ≡ 64) (effect : TakeEffect i c k j s t) where
  live_blocks_after_take : (b : ℕ) → T (is_live_block s b) → T (is_live_block t b)
  live_blocks_after_take b live =
      let kept = effect.runs (b / 256) (live_block_in_table s b long live) in
      live_block_of_mark t b (live_mark_kept (superblock_at s (b / 256)) (superblock_at t (b / 256)) (b % 256) kept.0 kept.1
      (go (ℕ_discrete (b / 256) k) (ℕ_discrete (b % 256) j)) (mark_of_live_block s b live))
    where
      go : Dec (b / 256 ≡ k) → Dec (b % 256 ≡ j) → mark_bit (superblock_at s (b / 256)).live (b % 256) ≡ 1 → mark_bit (superblock_at t (b / 256)).live
          (b % 256) ≡ 1
      go (no f) d was = ap (λ (x : Superblock). mark_bit x.live (b % 256)) (effect.others (b / 256) f) ∙ was
      go (yes e) (yes g) was = rw (e, g) effect.is_marked_lem
      go (yes e) (no g) was = rw e (effect.marks (b % 256) (omega arith) g ∙ ap (λ (m : ℕ). mark_bit (superblock_at s m).live (b % 256)) (sym e) ∙ was)

  pub names_valid_after_take : t.names ≡ s.names → T (names_valid s) → T (names_valid t)
  names_valid_after_take same valid = names_valid_of_live_kept s t live_blocks_after_take same valid

  -- the block that is taken was not live
  taken_block_was_not_live : T (is_live_block s (block_number k j)) → ⊥
  taken_block_was_not_live live =
      let a : block_number k j / 256 ≡ k = omega arith in
      let b : block_number k j % 256 ≡ j = omega arith in
      let one : mark_bit (live_blocks (superblock_at s k)) j ≡ 1 = rw (a, b) at (mark_of_live_block s (block_number k j) live) in
      omega (arith, effect.not_marked, ap (λ (x : List ℕ). mark_bit x j) (live_blocks_outside_run (superblock_at s k) effect.outside_run))

  -- and a name may be bound to it
  pub names_valid_after_named_take : (m : ℕ) → k < 64 → t.names ≡ s.names → T (names_valid s)
      → T (names_valid (with_names t (with_name s.names m (block_number k j))))
  names_valid_after_named_take m l same valid =
      names_valid_of_name_bound s t live_blocks_after_take same valid m (block_number k j) (λ (e : block_number k j ≡ not_held). omega arith)
      taken_block_was_not_live
      (live_block_of_mark_at t k j block ((effect.runs k l).0 ∙ effect.outside_run) effect.is_marked_lem)

-- ---- a take of a long block (document 02, item 7): nothing was live in the superblocks of its run, and it is block 0 of the first
module _ (k n : ℕ) (s t : State) (effect : LongTakeEffect k n s t) where
  none_live_in_available : (b : Superblock) → T (is_available b) → (j : ℕ) → j < 256 → mark_bit (live_blocks b) j ≡ 0
  none_live_in_available b available j l =
      let facts = facts_of_is_available b available in
      let outside = outside_run_of_owner b (λ (q : b.owner ≡ run_owner). ⊎_elim (λ u. omega (arith, u.owner)) (λ h. omega (arith, h.0)) facts) in
      ap (λ (x : List ℕ). mark_bit x j) (live_blocks_outside_run b outside) ∙ marks_clear_of_live_count_zero b.live
      (⊎_elim (λ u. u.live) (λ h. h.1) facts) j l

  pub live_blocks_after_long_take : (b : ℕ) → T (is_live_block s b) → T (is_live_block t b)
  unfolding live_blocks starts_run is_of_run
  live_blocks_after_long_take b live = go (dec_le k (b / 256)) (dec_lt (b / 256) (k + n))
    where
      others : (InRun k n (b / 256) → ⊥) → T (is_live_block t b)
      others f = live_block_of_mark t b (ap (λ (x : Superblock). mark_bit (live_blocks x) (b % 256)) (effect.others (b / 256) f) ∙ mark_of_live_block s b live)

      go : Dec (k ≤ b / 256) → Dec (b / 256 < k + n) → T (is_live_block t b)
      go (yes low) (yes high) =
          absurd (let z : ⊥ = omega (
            arith,
            mark_of_live_block s b live,
            none_live_in_available (superblock_at s (b / 256))
                (effect.available (b / 256) (low, high)) (b % 256) (omega arith),
          ) in z)
      go (yes low) (no f) = others (λ h. f h.1)
      go (no f) d = others (λ h. f h.0)

  first_in_run : InRun k n k
  first_in_run = (omega arith, omega (arith, effect.some))

  -- the long block is live then, and was not
  pub long_block_is_live : T (is_live_block t (block_number k 0))
  unfolding live_blocks starts_run is_of_run
  long_block_is_live =
      live_block_of_live_mark t k 0 (omega arith)
      (ap (λ (x : Superblock). mark_bit (live_blocks x) 0) (effect.run k first_in_run)
      ∙ rw (eq-eqb k k refl, lt-ltb 0 n effect.some) (with_mark_same no_marks 0 refl (omega arith)))

  long_block_was_not_live : T (is_live_block s (block_number k 0)) → ⊥
  long_block_was_not_live live =
      let a : block_number k 0 / 256 ≡ k = omega arith in
      let b : block_number k 0 % 256 ≡ 0 = omega arith in
      let one : mark_bit (live_blocks (superblock_at s k)) 0 ≡ 1 = rw (a, b) at (mark_of_live_block s (block_number k 0) live) in
      omega (arith, none_live_in_available (superblock_at s k) (effect.available k first_in_run) 0 (omega arith))

  pub names_valid_after_long_take : t.names ≡ s.names → T (names_valid s) → T (names_valid t)
  names_valid_after_long_take same valid = names_valid_of_live_kept s t live_blocks_after_long_take same valid

  -- and a name may be bound to it
  pub names_valid_after_named_long_take : (m : ℕ) → k < 64 → t.names ≡ s.names → T (names_valid s)
      → T (names_valid (with_names t (with_name s.names m (block_number k 0))))
  names_valid_after_named_long_take m l same valid =
      names_valid_of_name_bound s t live_blocks_after_long_take same valid m (block_number k 0) (λ (e : block_number k 0 ≡ not_held). omega arith)
      long_block_was_not_live long_block_is_live

-- ---- a name let go leaves the check passed, the block still being live
pub names_valid_without_block : (s : State) (b : ℕ) → T (names_valid s) → T (names_valid (with_names s (without_block s.names b)))
unfolding names_valid is_live_block
names_valid_without_block s b valid =
    both_make (each_held (is_live_block s) (without_block s.names b)) _
    (each_held_without_block (is_live_block s) (is_live_block s) s.names b (λ x f t. t) (both_left (each_held (is_live_block s) s.names) _ valid))
    (no_two_without_block s.names b (both_right (each_held (is_live_block s) s.names) _ valid))

-- ---- where every live block but one stays live, and its name is let go
pub names_valid_of_others_kept : (s t : State) (b : ℕ) → ((x : ℕ) → (x ≡ b → ⊥) → T (is_live_block s x) → T (is_live_block t x))
    → t.names ≡ without_block s.names b → T (names_valid s) → T (names_valid t)
unfolding names_valid is_live_block
names_valid_of_others_kept s t b kept same valid =
    rw same
    (both_make (each_held (is_live_block t) (without_block s.names b)) _
    (each_held_without_block (is_live_block s) (is_live_block t) s.names b kept (both_left (each_held (is_live_block s) s.names) _ valid))
    (no_two_without_block s.names b (both_right (each_held (is_live_block s) s.names) _ valid)))

-- ---- a free: every other live block stays live
module _ (c k j moves : ℕ) (s t : State) (long : length s.table ≡ 64) (effect : FreeEffect c k j moves s t) where
  live_blocks_after_free : (b : ℕ) → (b ≡ block_number k j → ⊥) → T (is_live_block s b) → T (is_live_block t b)
  live_blocks_after_free b other live =
      let inside = live_block_in_table s b long live in
      let kept = effect.runs (b / 256) inside in
      live_block_of_mark t b
      (live_mark_kept (superblock_at s (b / 256)) (superblock_at t (b / 256)) (b % 256) kept.0 kept.1
      (λ was. effect.marks (b / 256) (b % 256) inside (λ h. other (let a = h.0 in let d = h.1 in omega arith)) (omega arith) ∙ was)
      (mark_of_live_block s b live))

  pub names_valid_after_free : t.names ≡ without_block s.names (block_number k j) → T (names_valid s) → T (names_valid t)
  names_valid_after_free = names_valid_of_others_kept s t (block_number k j) live_blocks_after_free
