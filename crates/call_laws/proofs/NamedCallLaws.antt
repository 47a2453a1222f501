-- Document 02, item 2: "A named call does what the plain one does, a free with the held address". Assumes nothing.
use mathlib.Core.Path.{◌≡◌, refl, sym, ap, ap₂, ◌∙◌, subst}
use mathlib.Core.Bool.{Bool, true, false, not}
use mathlib.Core.Logic.{◌⊎◌, inl, inr, ⊎_elim}
use mathlib.Core.List.{List}
use Prim.Native.Nat.{ℕ, ◌*◌, ◌/◌, ◌%◌, ◌<◌}
use native.Mathlib.Decide.{ℕ_discrete, dec_lt}
use native.Mathlib.Omega.{arith}
use borrow.Author.Tests.{eq-eqb, ltb-true, lt-leb, not-false}
use lib.Dec.{T, leb, ltb}
use Rattle.base_laws.specs.Sums.{pick, both, either}
use Rattle.base_laws.proofs.TestLaws.{T_of_true, true_of_T, both_left, pick_true, pick_false, neither_left, neither_right}
use Rattle.class_rules.specs.Classes.{class_count, sizes, size_of, blocks_of, class_of}
use Rattle.class_rules.proofs.ClassTableLaws.{blocks_of_le_256}
use Rattle.class_rules.proofs.OffsetLaws.{offset_lt_4096, offset_mod_size}
use Rattle.marks_rules.specs.Marks.{mark_bit, no_marks, with_mark}
use Rattle.marks_laws.proofs.MarkLaws.{mark_of_mark_bit_one, mark_bit_of_no_marks, marks_clear_of_live_count_zero, with_mark_same, with_mark_other}
use Rattle.marks_laws.proofs.NoMarkFromLaws.{mark_clear_of_no_mark_from}
use Rattle.names_rules.specs.Names.{block_number, is_name, block_named, is_held, with_name, without_block}
use Rattle.names_laws.proofs.NameLaws.{held_facts, block_named_with_name, block_named_with_other_name, length_with_name, not_held_without_block}
use Rattle.names_laws.proofs.NameLaws.{block_named_without_other_block}
use Rattle.filled_rules.proofs.PlacesValidLaws.{no_mark_from_of_places_valid}
use Rattle.heap_rules.specs.declared.State.{State}
use Rattle.heap_rules.specs.Table.{run_owner, unused_owner, superblock_at, is_unused, is_of_run, starts_run, live_blocks}
use Rattle.heap_rules.specs.States.{with_names}
use Rattle.heap_rules.specs.Counts.{superblocks_of, superblocks_of_class, live_of_class, owners_changed}
use Rattle.check_rules.specs.Check.{names_valid}
use Rattle.heap_laws.proofs.StateFacts.{Shape, Unowned, Owned}
use Rattle.heap_laws.proofs.RunsKeptLaws.{runs_valid_with_names, live_blocks_outside_run, live_blocks_of_first, live_blocks_not_first, outside_run_of_owner}
use Rattle.heap_laws.proofs.RunsKeptLaws.{owner_of_run}
use Rattle.heap_laws.proofs.StateCheckLaws.{shape_with_names, sound_with_names, names_sound_of_valid, owned_below_superblocks, owned_of_owner}
use Rattle.heap_laws.proofs.StateCheckLaws.{unowned_of_owner, not_unused_of_owner}
use Rattle.call_rules.specs.declared.Outcome.{Outcome}
use Rattle.call_rules.specs.declared.Outcome.TheVariants.{Address}
use Rattle.call_rules.specs.Answers.{After, refused, is_processor}
use Rattle.call_rules.specs.Take.{address_of, take_unchecked, take_of}
use Rattle.call_rules.specs.Free.{superblock_index, offset_of, superblock_holding, block_of, is_unmapped, is_in_run, is_run_start, is_off_block, is_misaligned}
use Rattle.call_rules.specs.Free.{is_live_at, block_number_at, small_freed_at, long_freed_at, freed_at, free_unchecked, free_of}
use Rattle.call_rules.specs.Named.{is_unavailable, name_bound, bound_by, with_name_bound, named_take_unchecked, named_take_of, held_address}
use Rattle.call_rules.specs.Named.{named_free_unchecked}
use Rattle.call_rules.specs.Named.{named_free_of}
use Rattle.heap_laws.proofs.RankLaws.{ranks_sound_of_same_ranks}
use Rattle.call_laws.proofs.CallEffects.{Passed, TakeAccepted, LongTakeAccepted, FreeAccepted, LongFreeAccepted, NamedTakeAccepted}
use Rattle.call_laws.proofs.CallEffects.{NamedLongTakeAccepted, NamedFreeAccepted, NamedLongFreeAccepted, TakeEffect}
use Rattle.call_laws.proofs.CheckedLaws.{checked_refused_or_passed, checked_is_next_of_passed, bounds_of_is_processor}
use Rattle.call_laws.proofs.TransferredLaws.{passed_after_no_frees}
use Rattle.call_laws.proofs.NamesKeptLaws.{mark_of_live_block, live_block_in_table, names_valid_after_named_take}
use Rattle.call_laws.proofs.AddressLaws.{address_superblock, address_offset, address_block, address_block_number}
use Rattle.call_laws.proofs.TakeLaws.{take_refused_or_accepted, taken_block, take_address, take_effect, take_names, take_shape, take_passed}
use Rattle.call_laws.proofs.MarkClearedLaws.{LiveBlock}
use Rattle.call_laws.proofs.FreeLaws.{free_refused_or_accepted, free_names, free_passed, long_free_block, long_free_names, long_free_passed}
use Rattle.call_laws.proofs.RefusalOrder.{take_is_unchecked, free_is_unchecked, free_of_live_block}

-- ---- the start of a run: block 0 of its first superblock, whose class field is 0
pub start_block_is_0 : (s : State) (k : ℕ) → (superblock_at s k).class ≡ 0 → block_of s (k * 4096) ≡ 0
unfolding block_of size_of sizes
start_block_is_0 s k e =
    let x : k * 4096 / 4096 ≡ k = omega arith in
    let y : k * 4096 % 4096 ≡ 0 = omega arith in
    rw (x, y, e)

-- ---- a named take
-- a name that is free is one of 0 to 1023 and not held
pub facts_of_available : (s : State) (m : ℕ) → is_unavailable s m ≡ false → (m < 1024) × (is_held s.names m ≡ false)
unfolding is_unavailable is_name
facts_of_available s m e = (
  ltb-true m 1024 (not-false (ltb m 1024) (neither_left (not (ltb m 1024)) (is_held s.names m) e)),
  neither_right (not (ltb m 1024))
      (is_held s.names m) e,
)

-- "a refused take binds none"
pub name_bound_of_refused : (r m : ℕ) (s : State) (order : List ℕ) → with_name_bound m (refused r s order) ≡ refused r s order
unfolding with_name_bound bound_by
name_bound_of_refused r m s order = refl

module _ (s : State) (order : List ℕ) (i m : ℕ) where
  -- behind the check, by its tests
  abbrev pub named_take_by_tests : (processor unavailable : Bool) → After → After
  named_take_by_tests processor unavailable plain = pick (not processor) (refused 2 s order) (pick unavailable (refused 14 s order) (with_name_bound m plain))

  pub named_take_is_unchecked : (size : ℕ) → Passed s order → named_take_of s order i m size ≡ named_take_unchecked s order i m size
  unfolding named_take_of
  named_take_is_unchecked size passed = checked_is_next_of_passed s order _ passed

  -- "A named call does what the plain one does": on a state that passes, for a processor in range and a name that is free, a named take is the plain
  -- take with the name bound
  pub named_take_is_plain_take : (size : ℕ) → Passed s order → is_processor s i ≡ true → is_unavailable s m ≡ false → named_take_of s order i m size
      ≡ with_name_bound m (take_of s order i size)
  unfolding named_take_unchecked
  named_take_is_plain_take size passed p u = named_take_is_unchecked size passed
      ∙ rw (p, u) (ap (with_name_bound m) (sym (take_is_unchecked s order i passed size)))

  -- a named take is refused and changes nothing, or is accepted, for a block of a class or a long block
  abbrev NamedTakeCases : ℕ → Type 0
  NamedTakeCases size = ((r : ℕ) × (named_take_of s order i m size ≡ refused r s order))
      ⊎ (((k : ℕ) × NamedTakeAccepted s order i m size k) ⊎ ((k : ℕ) × NamedLongTakeAccepted s order i m size k))

  pub named_take_refused_or_accepted : (size : ℕ) → NamedTakeCases size
  unfolding named_take_of named_take_unchecked
  named_take_refused_or_accepted size = by_check (checked_refused_or_passed s order (named_take_unchecked s order i m size))
    where
      by_plain : is_unavailable s m ≡ false → named_take_of s order i m size ≡ with_name_bound m (take_of s order i size)
          → ((r : ℕ) × (take_of s order i size ≡ refused r s order))
          ⊎ (((k : ℕ) × TakeAccepted s order i size k) ⊎ ((k : ℕ) × LongTakeAccepted s order i size k))
          → NamedTakeCases size
      by_plain u e (inl (r, f)) = inl (r, e ∙ ap (with_name_bound m) f ∙ name_bound_of_refused r m s order)
      by_plain u e (inr (inl (k, acc))) = inr (inl (k, record { taken = acc; available = u; result_is = e }))
      by_plain u e (inr (inr (k, acc))) = inr (inr (k, record { taken = acc; available = u; result_is = e }))

      by_tests : (p u : Bool) → is_processor s i ≡ p → is_unavailable s m ≡ u → Passed s order → named_take_of s order i m size ≡ named_take_by_tests p u
          (take_unchecked s order i size)
          → NamedTakeCases size
      by_tests false u ep eu passed e = inl (2, e)
      by_tests true true ep eu passed e = inl (14, e)
      by_tests true false ep eu passed e = by_plain eu (named_take_is_plain_take size passed ep eu) (take_refused_or_accepted s order i size)

      by_check : ((r : ℕ) × (named_take_of s order i m size ≡ refused r s order))
          ⊎ (Passed s order × (named_take_of s order i m size ≡ named_take_unchecked s order i m size))
          → NamedTakeCases size
      by_check (inl r) = inl r
      by_check (inr (passed, e)) = by_tests (is_processor s i) (is_unavailable s m) refl refl passed e

-- the names are no part of a take's effect
take_effect_with_names : (i c k j : ℕ) (s t : State) (names : List ℕ) → TakeEffect i c k j s t → TakeEffect i c k j s (with_names t names)
unfolding owners_changed superblocks_of superblocks_of_class live_of_class
take_effect_with_names i c k j s t names e =
    record {
      below = e.below;
      class_lt_27 = e.class_lt_27;
      block = e.block;
      setup = e.setup;
      others = e.others;
      owner = e.owner;
      class = e.class;
      before = e.before;
      outside_run = e.outside_run;
      runs = e.runs;
      not_marked = e.not_marked;
      is_marked_lem = e.is_marked_lem;
      marks = e.marks;
      live = e.live;
      one_owner_changed = e.one_owner_changed;
      owned_of_others = e.owned_of_others;
      owned_of_class = e.owned_of_class;
      live_of_class_lem = e.live_of_class_lem;
      live_of_others = e.live_of_others;
    }

-- what a named take leaves, of a block of a class or a long one, where the plain take has given block b and kept the names
module _ (s : State) (order : List ℕ) (i m size b : ℕ) where
  abbrev plain_take : After
  plain_take = take_of s order i size

  abbrev bound : State
  bound = with_names plain_take.answer.state (with_name s.names m b)

  -- its answer and its order places are the plain take's
  pub named_outcome_is_plain : named_take_of s order i m size ≡ with_name_bound m plain_take → (named_take_of s order i m size).answer.outcome
      ≡ plain_take.answer.outcome
  unfolding with_name_bound
  named_outcome_is_plain e = ap (λ (x : After). x.answer.outcome) e

  pub named_order_is_plain : named_take_of s order i m size ≡ with_name_bound m plain_take → (named_take_of s order i m size).order ≡ plain_take.order
  unfolding with_name_bound
  named_order_is_plain e = ap (λ (x : After). x.order) e

  -- its state is the plain take's with the name bound to the block that was taken
  pub named_state_is_bound : (a : ℕ) → named_take_of s order i m size ≡ with_name_bound m plain_take → plain_take.answer.outcome ≡ Address a
      → plain_take.answer.state.names ≡ s.names → block_number_at plain_take.answer.state a ≡ b
      → (named_take_of s order i m size).answer.state ≡ bound
  unfolding with_name_bound bound_by name_bound
  named_state_is_bound a e address names number =
      ap (λ (x : After). x.answer.state) e
      ∙ ap (λ (o : Outcome). bound_by o m plain_take.answer.state) address
      ∙ ap₂ (λ (names : List ℕ) (b : ℕ). with_names plain_take.answer.state (with_name names m b)) names number

  module _ (shape : Shape s) (state_is : (named_take_of s order i m size).answer.state ≡ bound) where
    pub shape_of_bound : Shape plain_take.answer.state → Shape (named_take_of s order i m size).answer.state
    shape_of_bound x = subst Shape (sym state_is)
        (shape_with_names plain_take.answer.state (with_name s.names m b) x (length_with_name s.names m b ∙ shape.names_length))

    -- an accepted named take yields a state that passes
    pub passed_of_bound : (named_take_of s order i m size).order ≡ plain_take.order → Passed plain_take.answer.state plain_take.order
        → T (names_valid bound) → Passed (named_take_of s order i m size).answer.state (named_take_of s order i m size).order
    passed_of_bound order_is passed names =
        subst (λ (t : State). Passed t (named_take_of s order i m size).order) (sym state_is)
        (subst (λ (l : List ℕ). Passed bound l) (sym order_is)
        record {
          sound = sound_with_names plain_take.answer.state (with_name s.names m b) plain_take.order passed.sound;
          names = names;
          totals = passed.totals;
          ranks = ranks_sound_of_same_ranks plain_take.answer.state bound (λ j l. refl) (λ j l u. u) passed.ranks;
          runs = runs_valid_with_names plain_take.answer.state (with_name s.names m b) passed.runs;
          room = passed.room;
        })

    -- "A name holds from its take": the name points at the block that was taken, and every other name at what it did
    pub name_points_at_taken : is_unavailable s m ≡ false → block_named (named_take_of s order i m size).answer.state.names m ≡ b
    name_points_at_taken available =
        ap (λ (t : State). block_named t.names m) state_is ∙ block_named_with_name s.names m b (let l = (facts_of_available s m available).0 in
        let n = shape.names_length in omega arith)

    pub other_names_point_as_before : (l : ℕ) → (l ≡ m → ⊥) → block_named (named_take_of s order i m size).answer.state.names l ≡ block_named s.names l
    other_names_point_as_before l f = ap (λ (t : State). block_named t.names l) state_is ∙ block_named_with_other_name s.names m b l f

module _ (s : State) (order : List ℕ) (i m size k : ℕ) (shape : Shape s) (acc : NamedTakeAccepted s order i m size k) where
  abbrev plain : After
  plain = take_of s order i size

  -- the block that it gives is the plain take's
  abbrev pub named_taken_block : ℕ
  named_taken_block = taken_block s order i size k shape acc.taken

  abbrev b : ℕ
  b = block_number k named_taken_block

  effect : TakeEffect i (class_of size) k named_taken_block s plain.answer.state
  effect = take_effect s order i size k shape acc.taken

  below : k < 64
  below = omega (arith, effect.below, acc.taken.passed.sound.numbers.superblocks_high)

  block : named_taken_block < 256
  block = omega (arith, effect.block, blocks_of_le_256 (class_of size))

  pub named_take_outcome : (named_take_of s order i m size).answer.outcome ≡ plain.answer.outcome
  named_take_outcome = named_outcome_is_plain s order i m size b acc.result_is

  pub named_take_order : (named_take_of s order i m size).order ≡ plain.order
  named_take_order = named_order_is_plain s order i m size b acc.result_is

  pub named_take_state : (named_take_of s order i m size).answer.state ≡ with_names plain.answer.state
      (with_name s.names m (block_number k named_taken_block))
  named_take_state =
      named_state_is_bound s order i m size b (address_of k (class_of size) named_taken_block) acc.result_is
      (take_address s order i size k shape acc.taken) (take_names s order i size k shape acc.taken)
      (address_block_number (class_of size) k named_taken_block effect.class_lt_27 effect.block plain.answer.state effect.class below)

  pub named_take_names : (named_take_of s order i m size).answer.state.names ≡ with_name s.names m (block_number k named_taken_block)
  named_take_names = ap (λ (t : State). t.names) named_take_state

  pub named_take_address : (named_take_of s order i m size).answer.outcome ≡ Address (address_of k (class_of size) named_taken_block)
  named_take_address = named_take_outcome ∙ take_address s order i size k shape acc.taken

  pub named_take_effect : TakeEffect i (class_of size) k named_taken_block s (named_take_of s order i m size).answer.state
  named_take_effect =
      subst (TakeEffect i (class_of size) k named_taken_block s) (sym named_take_state)
      (take_effect_with_names i (class_of size) k named_taken_block s plain.answer.state (with_name s.names m b) effect)

  pub named_take_shape : Shape (named_take_of s order i m size).answer.state
  named_take_shape = shape_of_bound s order i m size b shape named_take_state (take_shape s order i size k shape acc.taken)

  pub named_take_passed : Passed (named_take_of s order i m size).answer.state (named_take_of s order i m size).order
  named_take_passed =
      passed_of_bound s order i m size b shape named_take_state named_take_order (take_passed s order i size k shape acc.taken)
      (names_valid_after_named_take i (class_of size) k named_taken_block s plain.answer.state block shape.length_is effect m below
      (take_names s order i size k shape acc.taken) acc.taken.passed.names)

  pub named_take_binds_name : block_named (named_take_of s order i m size).answer.state.names m ≡ block_number k named_taken_block
  named_take_binds_name = name_points_at_taken s order i m size b shape named_take_state acc.available

  pub named_take_keeps_other_names : (l : ℕ) → (l ≡ m → ⊥) → block_named (named_take_of s order i m size).answer.state.names l ≡ block_named s.names l
  named_take_keeps_other_names = other_names_point_as_before s order i m size b shape named_take_state

-- ---- a named free
module _ (s : State) (order : List ℕ) (i m : ℕ) where
  abbrev pub named_free_by_tests : (processor held : Bool) → After → After
  named_free_by_tests processor held plain = pick (not processor) (refused 2 s order) (pick (not held) (refused 15 s order) plain)

  pub named_free_is_unchecked : Passed s order → named_free_of s order i m ≡ named_free_unchecked s order i m
  unfolding named_free_of
  named_free_is_unchecked passed = checked_is_next_of_passed s order _ passed

  -- "a free with the held address": on a state that passes, for a processor in range and a name that is held, a named free is the free of that address
  pub named_free_is_free_of_held_address : Passed s order → is_processor s i ≡ true → is_held s.names m ≡ true → named_free_of s order i m
      ≡ free_of s order i (held_address s m)
  unfolding named_free_unchecked
  named_free_is_free_of_held_address passed p h = named_free_is_unchecked passed ∙ rw (p, h) (sym (free_is_unchecked s order i passed (held_address s m)))

  -- a named free is refused and changes nothing, or is accepted, of a block of a class or a long block
  abbrev NamedFreeCases : Type 0
  NamedFreeCases = ((r : ℕ) × (named_free_of s order i m ≡ refused r s order)) ⊎ (NamedFreeAccepted s order i m ⊎ NamedLongFreeAccepted s order i m)

  pub named_free_refused_or_accepted : NamedFreeCases
  unfolding named_free_of named_free_unchecked
  named_free_refused_or_accepted = by_check (checked_refused_or_passed s order (named_free_unchecked s order i m))
    where
      by_plain : is_held s.names m ≡ true → named_free_of s order i m ≡ free_of s order i (held_address s m)
          → ((r : ℕ) × (free_of s order i (held_address s m) ≡ refused r s order))
          ⊎ (FreeAccepted s order i (held_address s m) ⊎ LongFreeAccepted s order i (held_address s m))
          → NamedFreeCases
      by_plain h e (inl (r, f)) = inl (r, e ∙ f)
      by_plain h e (inr (inl acc)) = inr (inl (record { held = T_of_true _ h; freed = acc; result_is = e }))
      by_plain h e (inr (inr acc)) = inr (inr (record { held = T_of_true _ h; freed = acc; result_is = e }))

      by_tests : (p h : Bool) → is_processor s i ≡ p → is_held s.names m ≡ h → Passed s order → named_free_of s order i m ≡ named_free_by_tests p h
          (free_unchecked s order i (held_address s m))
          → NamedFreeCases
      by_tests false h ep eh passed e = inl (2, e)
      by_tests true false ep eh passed e = inl (15, e)
      by_tests true true ep eh passed e = by_plain eh (named_free_is_free_of_held_address passed ep eh) (free_refused_or_accepted s order i (held_address s m))

      by_check : ((r : ℕ) × (named_free_of s order i m ≡ refused r s order)) ⊎ (Passed s order × (named_free_of s order i m ≡ named_free_unchecked s order i m))
          → NamedFreeCases
      by_check (inl r) = inl r
      by_check (inr (passed, e)) = by_tests (is_processor s i) (is_held s.names m) refl refl passed e

-- an accepted named free has the answer, the state and the order places of the free of the held address
module _ (s : State) (order : List ℕ) (i m : ℕ) (shape : Shape s) (acc : NamedFreeAccepted s order i m) where
  pub named_free_passed : Passed (named_free_of s order i m).answer.state (named_free_of s order i m).order
  named_free_passed = rw acc.result_is (free_passed s order i (held_address s m) shape acc.freed)

module _ (s : State) (order : List ℕ) (i m : ℕ) (shape : Shape s) (acc : NamedLongFreeAccepted s order i m) where
  pub named_long_free_passed : Passed (named_free_of s order i m).answer.state (named_free_of s order i m).order
  named_long_free_passed = rw acc.result_is (long_free_passed s order i (held_address s m) shape acc.freed)

-- ---- a held name in a state that passes: its block is live
module _ (s : State) (order : List ℕ) (shape : Shape s) (passed : Passed s order) (m : ℕ) (held : T (is_held s.names m)) where
  abbrev number : ℕ
  number = block_named s.names m

  abbrev k : ℕ
  k = number / 256

  abbrev j : ℕ
  j = number % 256

  live_mark : mark_bit (live_blocks (superblock_at s k)) j ≡ 1
  live_mark = mark_of_live_block s number ((names_sound_of_valid s passed.names).live m (held_facts s.names m held).1)

  in_table : k < 64
  in_table = live_block_in_table s number shape.length_is ((names_sound_of_valid s passed.names).live m (held_facts s.names m held).1)

  -- a superblock that no heap owns has no mark, at any block
  unmarked_of_unowned : Unowned (superblock_at s k) → mark_bit (superblock_at s k).live j ≡ 0
  unmarked_of_unowned u = marks_clear_of_live_count_zero (superblock_at s k).live u.live j (omega arith)

  -- outside runs: a marked block of a heap's superblock
  module _ (outside : is_of_run (superblock_at s (block_named s.names m / 256)) ≡ false) where
    marked : mark_bit (superblock_at s k).live j ≡ 1
    marked = ap (λ (x : List ℕ). mark_bit x j) (sym (live_blocks_outside_run (superblock_at s k) outside)) ∙ live_mark

    owned : (superblock_at s k).owner < run_owner
    owned = go (passed.sound.each k in_table)
      where
        go : Unowned (superblock_at s k) ⊎ Owned s.setup order k (superblock_at s k) → (superblock_at s k).owner < run_owner
        go (inl u) = absurd (let z : ⊥ = omega (arith, marked, unmarked_of_unowned u) in z)
        go (inr o) = omega (arith, o.owner, passed.sound.numbers.processors_high)

    in_class : j < blocks_of (superblock_at s k).class
    in_class = go (dec_lt j (blocks_of (superblock_at s k).class))
      where
        go : Dec (j < blocks_of (superblock_at s k).class) → j < blocks_of (superblock_at s k).class
        go (yes l) = l
        go (no f) =
            let places = (owned_of_owner s order passed.sound k in_table owned).places in
            let clear = mark_clear_of_no_mark_from (superblock_at s k).live (blocks_of (superblock_at s k).class)
            (no_mark_from_of_places_valid order (superblock_at s k).live k (blocks_of (superblock_at s k).class) places) j (omega arith) (omega arith) in
            absurd (let z : ⊥ = omega (arith, marked) in z)

    pub held_block_is_live : LiveBlock s order (block_named s.names m / 256) (block_named s.names m % 256)
    held_block_is_live =
        record {
          shape = shape;
          freed = λ h c. 0;
          passed = passed_after_no_frees s order passed;
          below = owned_below_superblocks s order passed.sound k in_table (λ (e : (superblock_at s k).owner ≡ unused_owner). omega (arith, owned));
          owned = owned;
          block = in_class;
          marked = marked;
        }

  -- in a run: block 0 of its first superblock
  pub held_block_is_run : is_of_run (superblock_at s (block_named s.names m / 256)) ≡ true → (block_named s.names m % 256 ≡ 0)
      × (starts_run (superblock_at s (block_named s.names m / 256)) ≡ true)
  held_block_is_run inside = go (starts_run (superblock_at s k)) refl
    where
      no_heap : Unowned (superblock_at s k)
      no_heap = unowned_of_owner s order passed.sound k in_table (let e = owner_of_run (superblock_at s k) inside in omega arith)

      go : (t : Bool) → starts_run (superblock_at s k) ≡ t → (j ≡ 0) × (starts_run (superblock_at s k) ≡ true)
      go true e = (first (ℕ_discrete j 0), e)
        where
          first : Dec (j ≡ 0) → j ≡ 0
          first (yes z) = z
          first (no f) =
              let mark : mark_bit (with_mark no_marks 0) j ≡ 1 = ap (λ (x : List ℕ). mark_bit x j) (sym (live_blocks_of_first (superblock_at s k) e))
              ∙ live_mark in
              absurd (let z : ⊥ = omega (arith, with_mark_other no_marks 0 j f, mark_bit_of_no_marks j) in z)
      go false e =
          let mark : mark_bit (superblock_at s k).live j ≡ 1 = ap (λ (x : List ℕ). mark_bit x j) (sym (live_blocks_not_first (superblock_at s k) e))
          ∙ live_mark in
          absurd (let z : ⊥ = omega (arith, unmarked_of_unowned no_heap) in z)

-- ---- every live block can be freed by its address
module _ (s : State) (order : List ℕ) (k j : ℕ) (live : LiveBlock s order k j) where
  abbrev class : ℕ
  class = (superblock_at s k).class

  abbrev a : ℕ
  a = address_of k class j

  block_in_table : k < 64
  block_in_table = omega (arith, live.below, live.passed.sound.numbers.superblocks_high)

  pub live_class_lt_27 : (superblock_at s k).class < class_count
  live_class_lt_27 = (owned_of_owner s order live.passed.sound k block_in_table live.owned).class

  holding : superblock_index a ≡ k
  holding = address_superblock class k j live_class_lt_27 live.block

  live_block_mapped : is_unmapped s a ≡ false
  unfolding is_unmapped address_of
  live_block_mapped =
      ap₂ either
      (lt-leb (s.setup.superblocks * 4096) a (let o = offset_lt_4096 class live_class_lt_27 j live.block in let l = live.below in omega arith))
      (ap (λ (n : ℕ). is_unused (superblock_at s n)) holding ∙ not_unused_of_owner (superblock_at s k)
      (λ (e : (superblock_at s k).owner ≡ unused_owner). omega (arith, live.owned)))

  live_block_outside_run : is_in_run s a ≡ false
  live_block_outside_run = ap (λ (n : ℕ). is_of_run (superblock_at s n)) holding ∙ outside_run_of_owner (superblock_at s k)
      (λ (e : (superblock_at s k).owner ≡ run_owner). omega (arith, live.owned))

  live_block_aligned : is_misaligned s a ≡ false
  unfolding is_misaligned is_off_block
  live_block_aligned =
      rw live_block_outside_run
      (ap₂ either
      (ap not (eq-eqb (a % 4096 % size_of (superblock_holding s a).class) 0
      (rw (holding, address_offset class k j live_class_lt_27 live.block) (offset_mod_size class live_class_lt_27 j))))
      (ap₂ leb (ap (λ (n : ℕ). blocks_of (superblock_at s n).class) holding) (address_block class k j live_class_lt_27 live.block s refl)
      ∙ lt-leb (blocks_of class) j live.block))

  live_block_live : is_live_at s a ≡ true
  unfolding is_live_at
  live_block_live = rw (
    live_blocks_outside_run (superblock_holding s a) live_block_outside_run,
    address_block class k j live_class_lt_27
        live.block s refl,
    holding,
  ) (mark_of_mark_bit_one (superblock_at s k).live j live.marked)

  pub free_accepted_of_live_block : (i : ℕ) → Passed s order → is_processor s i ≡ true → FreeAccepted s order i (address_of k (superblock_at s k).class j)
  unfolding freed_at
  free_accepted_of_live_block i passed p =
      record {
        address = record {
          passed = passed;
          processor = bounds_of_is_processor s i (T_of_true _ p);
          mapped = live_block_mapped;
          block_aligned = live_block_aligned;
          live = live_block_live;
        };
        outside_run = live_block_outside_run;
        result_is = free_of_live_block s order i passed a p live_block_mapped live_block_aligned live_block_live
            ∙ pick_false (is_in_run s a) (long_freed_at s order a) (small_freed_at s order a) live_block_outside_run;
      }

-- ---- and every long block by its start
module _ (s : State) (order : List ℕ) (k : ℕ) (passed : Passed s order) (below : k < 64) (starts : starts_run (superblock_at s k) ≡ true) where
  start_of_run : is_of_run (superblock_at s k) ≡ true
  unfolding starts_run
  start_of_run = true_of_T _ (both_left (is_of_run (superblock_at s k)) _ (T_of_true _ starts))

  start_owner : (superblock_at s k).owner ≡ run_owner
  start_owner = owner_of_run (superblock_at s k) start_of_run

  start_class : (superblock_at s k).class ≡ 0
  start_class = (unowned_of_owner s order passed.sound k below (let e = start_owner in omega arith)).class

  start_below : k < s.setup.superblocks
  start_below = owned_below_superblocks s order passed.sound k below (λ (e : (superblock_at s k).owner ≡ unused_owner). omega (arith, start_owner))

  at_start : superblock_index (k * 4096) ≡ k
  at_start = omega arith

  start_in_run : is_in_run s (k * 4096) ≡ true
  start_in_run = ap (λ (n : ℕ). is_of_run (superblock_at s n)) at_start ∙ start_of_run

  start_mapped : is_unmapped s (k * 4096) ≡ false
  unfolding is_unmapped
  start_mapped =
      ap₂ either (lt-leb (s.setup.superblocks * 4096) (k * 4096) (let l = start_below in omega arith))
      (ap (λ (n : ℕ). is_unused (superblock_at s n)) at_start ∙ not_unused_of_owner (superblock_at s k)
      (λ (e : (superblock_at s k).owner ≡ unused_owner). omega (arith, start_owner)))

  start_aligned : is_misaligned s (k * 4096) ≡ false
  unfolding is_misaligned is_run_start
  start_aligned =
      rw start_in_run
      (ap not (ap₂ both (ap (λ (n : ℕ). starts_run (superblock_at s n)) at_start ∙ starts) (eq-eqb (offset_of (k * 4096)) 0 (omega arith))))

  pub start_block : block_of s (k * 4096) ≡ 0
  start_block = start_block_is_0 s k start_class

  start_live : is_live_at s (k * 4096) ≡ true
  unfolding is_live_at
  start_live =
      rw (start_block, at_start, live_blocks_of_first (superblock_at s k) starts)
      (mark_of_mark_bit_one (with_mark no_marks 0) 0 (with_mark_same no_marks 0 refl (omega arith)))

  pub long_free_accepted_of_start : (i : ℕ) → is_processor s i ≡ true → LongFreeAccepted s order i (k * 4096)
  unfolding freed_at
  long_free_accepted_of_start i p =
      record {
        address = record {
          passed = passed;
          processor = bounds_of_is_processor s i (T_of_true _ p);
          mapped = start_mapped;
          block_aligned = start_aligned;
          live = start_live;
        };
        in_run = start_in_run;
        result_is = free_of_live_block s order i passed (k * 4096) p start_mapped start_aligned start_live
            ∙ pick_true (is_in_run s (k * 4096)) (long_freed_at s order (k * 4096)) (small_freed_at s order (k * 4096)) start_in_run;
      }

-- A held name's free meets none of 5, 6 and 7: for a processor in range it is accepted, on every state that passes.
module _ (s : State) (order : List ℕ) (m : ℕ) (shape : Shape s) (passed : Passed s order) (held : T (is_held s.names m)) where
  abbrev home : ℕ
  home = block_named s.names m / 256

  home_below : home < 64
  home_below = live_block_in_table s (block_named s.names m) shape.length_is
      ((names_sound_of_valid s passed.names).live m (held_facts s.names m held).1)

  -- a named run's held address is its start
  pub held_address_of_run : is_of_run (superblock_at s (block_named s.names m / 256)) ≡ true → held_address s m ≡ block_named s.names m / 256 * 4096
  unfolding held_address address_of
  held_address_of_run inside = let z = (held_block_is_run s order shape passed m held inside).0 in rw z (omega arith)

  pub held_name_free_accepted : (i : ℕ) → is_processor s i ≡ true → FreeAccepted s order i (held_address s m) ⊎ LongFreeAccepted s order i (held_address s m)
  unfolding held_address
  held_name_free_accepted i p = go (is_of_run (superblock_at s home)) refl
    where
      go : (t : Bool) → is_of_run (superblock_at s home) ≡ t → FreeAccepted s order i (held_address s m) ⊎ LongFreeAccepted s order i (held_address s m)
      go false e = inl (free_accepted_of_live_block s order home (block_named s.names m % 256) (held_block_is_live s order shape passed m held e) i passed p)
      go true e =
          inr (subst (LongFreeAccepted s order i) (sym (held_address_of_run e))
          (long_free_accepted_of_start s order home passed home_below (held_block_is_run s order shape passed m held e).1 i p))

-- ---- "A name holds .. until its block is freed by either command"
-- the block at the held address is the name's
pub held_address_block : (s : State) (order : List ℕ) (m : ℕ) → Shape s → Passed s order → T (is_held s.names m)
    → (superblock_index (held_address s m) ≡ block_named s.names m / 256) × (block_of s (held_address s m) ≡ block_named s.names m % 256)
unfolding held_address
held_address_block s order m shape passed held = go (is_of_run (superblock_at s (block_named s.names m / 256))) refl
  where
    go : (t : Bool) → is_of_run (superblock_at s (block_named s.names m / 256)) ≡ t
        → (superblock_index (held_address s m) ≡ block_named s.names m / 256) × (block_of s (held_address s m) ≡ block_named s.names m % 256)
    go false e =
        let live = held_block_is_live s order shape passed m held e in
        let known = live_class_lt_27 s order (block_named s.names m / 256) (block_named s.names m % 256) live in (
          address_superblock (superblock_at s (block_named s.names m / 256)).class (block_named s.names m / 256) (block_named s.names m % 256) known
              live.block,
          address_block (superblock_at s (block_named s.names m / 256)).class (block_named s.names m / 256) (block_named s.names m % 256) known
              live.block s refl,
        )
    go true e =
        let run = held_block_is_run s order shape passed m held e in
        let at = held_address_of_run s order m shape passed held e in
        let low = home_below s order m shape passed held in (
          ap superblock_index at ∙ (let z : block_named s.names m / 256 * 4096 / 4096 ≡ block_named s.names m / 256 = omega arith in z),
          ap (block_of s) at ∙ start_block s order (block_named s.names m / 256) passed low run.1 ∙ sym run.0,
        )

-- by a plain free, of a block of a class or a long block: the name that points at the freed block is let go, and any other keeps its block
pub freed_names : (s : State) (order : List ℕ) (i a : ℕ) → Shape s → FreeAccepted s order i a ⊎ LongFreeAccepted s order i a
    → (free_of s order i a).answer.state.names ≡ without_block s.names (block_number (superblock_index a) (block_of s a))
freed_names s order i a shape (inl acc) = free_names s order i a shape acc
freed_names s order i a shape (inr acc) = long_free_names s order i a shape acc
    ∙ ap (λ (j : ℕ). without_block s.names (block_number (superblock_index a) j)) (sym (long_free_block s order i a shape acc))

module _ (s : State) (order : List ℕ) (i a : ℕ) (shape : Shape s) (acc : FreeAccepted s order i a ⊎ LongFreeAccepted s order i a) (m : ℕ) where
  pub free_lets_name_go : block_named s.names m ≡ block_number (superblock_index a) (block_of s a) → is_held (free_of s order i a).answer.state.names m ≡ false
  free_lets_name_go e = rw (freed_names s order i a shape acc) (not_held_without_block s.names (block_number (superblock_index a) (block_of s a)) m e)

  pub free_keeps_other_names : (block_named s.names m ≡ block_number (superblock_index a) (block_of s a) → ⊥)
      → block_named (free_of s order i a).answer.state.names m ≡ block_named s.names m
  free_keeps_other_names f =
      rw (freed_names s order i a shape acc) (block_named_without_other_block s.names (block_number (superblock_index a) (block_of s a)) m f)

-- and by a named free: its name is let go, and no other
module _ (s : State) (order : List ℕ) (i m : ℕ) (shape : Shape s) (acc : NamedFreeAccepted s order i m ⊎ NamedLongFreeAccepted s order i m) where
  abbrev plain_accepted : FreeAccepted s order i (held_address s m) ⊎ LongFreeAccepted s order i (held_address s m)
  plain_accepted = ⊎_elim (λ h. inl h.freed) (λ h. inr h.freed) acc

  result : named_free_of s order i m ≡ free_of s order i (held_address s m)
  result = ⊎_elim (λ h. h.result_is) (λ h. h.result_is) acc

  was_held : T (is_held s.names m)
  was_held = ⊎_elim (λ h. h.held) (λ h. h.held) acc

  passed_before : Passed s order
  passed_before = ⊎_elim (λ h. h.freed.address.passed) (λ h. h.freed.address.passed) acc

  freed_number : block_number (superblock_index (held_address s m)) (block_of s (held_address s m)) ≡ block_named s.names m
  freed_number = let h = held_address_block s order m shape passed_before was_held in let a = h.0 in let b = h.1 in omega arith

  pub named_free_lets_name_go : is_held (named_free_of s order i m).answer.state.names m ≡ false
  named_free_lets_name_go = rw result (free_lets_name_go s order i (held_address s m) shape plain_accepted m (sym freed_number))

  pub named_free_keeps_other_names : (l : ℕ) → T (is_held s.names l) → (l ≡ m → ⊥) → block_named (named_free_of s order i m).answer.state.names l
      ≡ block_named s.names l
  named_free_keeps_other_names l held f =
      rw result
      (free_keeps_other_names s order i (held_address s m) shape plain_accepted l
      (λ e. f ((names_sound_of_valid s passed_before.names).distinct l m (held_facts s.names l held).1 (e ∙ freed_number))))
