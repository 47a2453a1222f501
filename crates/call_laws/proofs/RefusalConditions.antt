-- Each refusal of a take, a free and a setup, by its number, given exactly if its condition holds and none before it in document 01's order: for every
-- state, storage and argument. Assumes nothing.
use Rattle.std.specs.Prelude.{Option, Some, None}
use mathlib.Core.Path.{◌≡◌, refl, sym, ap, ◌∙◌, subst}
use mathlib.Core.Bool.{Bool, true, false, not}
use mathlib.Core.Logic.{◌↔◌, ◌⊎◌, inl, inr}
use mathlib.Core.List.{List, [], ◌∷◌}
use Prim.Native.Nat.{ℕ, ◌*◌, ◌%◌, ◌≤◌, ◌<◌}
use native.Mathlib.Omega.{arith}
use borrow.Author.Tests.{eqb-true, eq-eqb, lt-ltb}
use lib.ListN.{length}
use lib.Dec.{T, eqb, leb, ltb, eqb→eq, ltb→lt, lt→ltb}
use Rattle.base_laws.specs.Sums.{pick, both}
use Rattle.base_laws.proofs.TestLaws.{T_of_true, true_not_false, both_left, both_right, both_make, pick_elim}
use Rattle.base_laws.proofs.Decides.{TypeIf, type_if_elim, Decides, true_of_decides, false_of_decides, decides_fact, decides_le, decides_nonzero}
use Rattle.base_laws.proofs.Decides.{decides_differs, decides_as, decides_either, decides_both}
use Rattle.class_rules.specs.Classes.{size_of, blocks_of, class_of, is_long, run_length, is_too_large}
use Rattle.class_rules.proofs.ClassLaws.{decides_long, run_length_pos, decides_too_large}
use Rattle.marks_rules.specs.Marks.{mark_bit, no_marks}
use Rattle.marks_laws.proofs.MarkLaws.{mark_bit_zero_of_no_mark, no_mark_of_mark_bit_zero, with_mark_same}
use Rattle.heap_rules.specs.declared.Setup.{Setup}
use Rattle.heap_rules.specs.declared.State.{State}
use Rattle.heap_rules.specs.Table.{run_owner, is_unused, is_of_run, starts_run, live_blocks}
use Rattle.heap_rules.specs.States.{no_state}
use Rattle.choice_rules.specs.Choice.{fullest}
use Rattle.choice_rules.specs.RunChoice.{lowest_run}
use Rattle.check_rules.specs.Check.{within_limits, runs_valid, rest_valid}
use Rattle.heap_laws.proofs.StateFacts.{WithinLimits, Unused, Sound, NamesSound, RanksSound}
use Rattle.heap_rules.specs.Totals.{TotalsKept}
use Rattle.heap_laws.proofs.StateCheckLaws.{facts_of_within_limits, within_limits_of_facts, sound_of_limits_and_rest, names_valid_of_rest}
use Rattle.heap_laws.proofs.StateCheckLaws.{totals_kept_of_rest, ranks_valid_of_rest, runs_valid_of_rest, names_sound_of_valid, names_valid_of_sound}
use Rattle.heap_laws.proofs.StateCheckLaws.{rest_valid_of_sound, facts_of_is_unused, is_unused_of_facts}
use Rattle.heap_laws.proofs.RankLaws.{ranks_sound_of_valid, ranks_valid_of_sound}
use Rattle.heap_laws.proofs.RunsKeptLaws.{live_blocks_of_first, owner_of_run, of_run_of_owner}
use Rattle.heap_laws.proofs.RunChoiceLaws.{FreeRun, no_run_of_lowest_run_nothing, lowest_run_nothing_of_no_run}
use Rattle.call_rules.specs.declared.Outcome.TheVariants.{Ready, Address, Moves, Refused}
use Rattle.call_rules.specs.Answers.{After, refused, checked, is_processor}
use Rattle.call_rules.specs.Setup.{accepted_setup, setup_of}
use Rattle.call_rules.specs.LongBlocks.{long_taken_from, long_taken_at}
use Rattle.call_rules.specs.Take.{other_places, taken_from, taken_from_other, taken_at, take_unchecked, take_of}
use Rattle.call_rules.specs.Free.{offset_of, superblock_holding, block_of, is_unmapped, is_in_run, is_run_start, is_off_block, is_misaligned, is_live_at}
use Rattle.call_rules.specs.Free.{small_freed_at}
use Rattle.call_rules.specs.Free.{long_freed_at, freed_at, free_unchecked, free_of}
use Rattle.call_laws.proofs.CallEffects.{Passed}
use Rattle.call_laws.proofs.CheckedLaws.{checked_refuses_13_of_limits, checked_refuses_12_of_storage, checked_refuses_13_of_rest}
use Rattle.call_laws.proofs.AddressLaws.{block_of_offset_0}
use Rattle.call_laws.proofs.SetupLaws.{setup_refused_1_of_limits, setup_refused_12_of_storage}
use Rattle.call_laws.proofs.RefusalOrder.{take_refused_2_of_processor, take_refused_3_of_too_large, take_of_class_size, free_refused_2_of_processor}
use Rattle.call_laws.proofs.RefusalOrder.{free_refused_5_of_unmapped, free_refused_6_of_misaligned, free_refused_7_of_not_live}
use Rattle.call_laws.proofs.TakeLaws.{taken_by_tests, nothing_offered_of_refused_4, refused_4_of_nothing_offered, refused_17_of_no_run}
use Rattle.call_laws.proofs.NothingOfferedLaws.{NotOffered, nothing_found_iff_not_offered}

-- ---- the conditions
-- what the check asks beside the setup numbers: of the superblocks, of the names, of the totals, which are the recount (heap by heap and class by
-- class: TotalsKeptLaws · totals_kept_iff_counted), of the ranks, and of the runs, read superblock by superblock (as facts of each run: heap_laws,
-- RunLaws · runs_sound_of_valid and runs_valid_of_sound)
abbrev pub RestSound : State → List ℕ → Type 0
RestSound s order = Sound s order × NamesSound s × TotalsKept s × RanksSound s × T (runs_valid s)

-- 13, "the state fails its check": first its setup numbers, then, with the places lent, the rest
pub data CheckFails (s : State) (order : List ℕ) : Type 0 where
  limits_fail : (WithinLimits s.setup → ⊥) → CheckFails s order
  rest_fails : WithinLimits s.setup → s.setup.superblocks * 256 ≤ length order → (RestSound s order → ⊥) → CheckFails s order

-- 12: "fewer than N × 256 order places lent"
pub record StorageShort (s : State) (order : List ℕ) : Type 0 where
  pub numbers : WithinLimits s.setup
  pub short : length order < s.setup.superblocks * 256

-- the processor is one: 1 to P
pub record IsProcessor (s : State) (i : ℕ) : Type 0 where
  pub low : 1 ≤ i
  pub high : i ≤ s.setup.processors

-- 2: processor "0 or above P"
pub record NotProcessor (s : State) (order : List ℕ) (i : ℕ) : Type 0 where
  pub passed : Passed s order
  pub out : (i ≡ 0) ⊎ (s.setup.processors < i)

-- 3: above the long sizes, "2049 to 65535", which no size of 16 bits is (document 02, item 7)
pub record TooLarge (s : State) (order : List ℕ) (i size : ℕ) : Type 0 where
  pub passed : Passed s order
  pub processor : IsProcessor s i
  pub large : 65535 < size

-- 4: "none of the four places offers a superblock", of a size that a class holds
pub record NothingOffered (s : State) (order : List ℕ) (i size : ℕ) : Type 0 where
  pub passed : Passed s order
  pub processor : IsProcessor s i
  pub size_le_2048 : size ≤ 2048
  pub none : (k : ℕ) → k < 64 → NotOffered s i (class_of size) k

-- 17: "no such run, given exactly then and in place of 4 for a long size" (document 02, item 7): no run of as many superblocks as the size takes,
-- "all below N, that are each unused or empty in heap 0"
pub record NoRun (s : State) (order : List ℕ) (i size : ℕ) : Type 0 where
  pub passed : Passed s order
  pub processor : IsProcessor s i
  pub size_above_2048 : 2048 < size
  pub size_le_65535 : size ≤ 65535
  pub none : (k : ℕ) → FreeRun (run_length size) s k → ⊥

-- 5: "address at or past N × 4096, or in an unused superblock"
pub record Unmapped (s : State) (order : List ℕ) (i a : ℕ) : Type 0 where
  pub passed : Passed s order
  pub processor : IsProcessor s i
  pub out : (s.setup.superblocks * 4096 ≤ a) ⊎ Unused (superblock_holding s a)

-- the address lies in a superblock that is in use
pub record Mapped (s : State) (a : ℕ) : Type 0 where
  pub inside : a < s.setup.superblocks * 4096
  pub used : Unused (superblock_holding s a) → ⊥

-- no block starts at the address: "offset in the superblock is no multiple of the block size, or block n or above", or, in a long block's run, it is
-- "any other address" than the start of the run (document 02, item 7)
pub data OffBlock (s : State) (a : ℕ) : Type 0 where
  off_blocks_of_class : ((superblock_holding s a).owner ≡ run_owner → ⊥) → (offset_of a % size_of (superblock_holding s a).class ≡ 0 → ⊥)
      ⊎ (blocks_of (superblock_holding s a).class ≤ block_of s a) → OffBlock s a
  inside_run : (superblock_holding s a).owner ≡ run_owner → ((0 < (superblock_holding s a).run) × (offset_of a ≡ 0) → ⊥) → OffBlock s a

-- a block may start there: one of the class, or the long block, whose "address is the start of the run"
pub data OnBlock (s : State) (a : ℕ) : Type 0 where
  on_block_of_class : ((superblock_holding s a).owner ≡ run_owner → ⊥) → offset_of a % size_of (superblock_holding s a).class ≡ 0
      → block_of s a < blocks_of (superblock_holding s a).class → OnBlock s a
  on_run_start : (superblock_holding s a).owner ≡ run_owner → 0 < (superblock_holding s a).run → offset_of a ≡ 0 → OnBlock s a

-- 6
pub record Misaligned (s : State) (order : List ℕ) (i a : ℕ) : Type 0 where
  pub passed : Passed s order
  pub processor : IsProcessor s i
  pub mapped : Mapped s a
  pub misaligned : OffBlock s a

-- 7: "the block is not live"
pub record NotLive (s : State) (order : List ℕ) (i a : ℕ) : Type 0 where
  pub passed : Passed s order
  pub processor : IsProcessor s i
  pub mapped : Mapped s a
  pub aligned : OnBlock s a
  pub clear : mark_bit (live_blocks (superblock_holding s a)) (block_of s a) ≡ 0

-- ---- the numbers, each with its condition, in the page's order
-- of a take: "13 for setup numbers, 12, the rest of 13, then take 2, 3, 4", and 17 in place of 4
abbrev pub take_refusals : (s : State) (order : List ℕ) (i size : ℕ) → List (ℕ × Type 0)
take_refusals s order i size =
    (13, CheckFails s order) ∷ (12, StorageShort s order) ∷ (2, NotProcessor s order i) ∷ (3, TooLarge s order i size) ∷ (4, NothingOffered s order i size)
    ∷ (17, NoRun s order i size) ∷ []

-- of a free: "and free 2, 5, 6, 7"
abbrev pub free_refusals : (s : State) (order : List ℕ) (i a : ℕ) → List (ℕ × Type 0)
free_refusals s order i a =
    (13, CheckFails s order) ∷ (12, StorageShort s order) ∷ (2, NotProcessor s order i) ∷ (5, Unmapped s order i a) ∷ (6, Misaligned s order i a)
    ∷ (7, NotLive s order i a) ∷ []

-- of a setup: "setup 1, 12"
abbrev pub setup_refusals : (u : Setup) (order : List ℕ) → List (ℕ × Type 0)
setup_refusals u order = (1, WithinLimits u → ⊥) ∷ (12, WithinLimits u × (length order < u.superblocks * 256)) ∷ []

-- the condition listed for number r; a number that is not listed is never given
abbrev pub ConditionOf : List (ℕ × Type 0) → ℕ → Type 0
ConditionOf [] r = ⊥
ConditionOf (x ∷ rest) r = TypeIf (eqb r x.0) x.1 (ConditionOf rest r)

-- G, given that each condition of the list gives F at its number
abbrev pub ImpliedByEach : (ℕ → Type 0) → List (ℕ × Type 0) → Type 0 → Type 0
ImpliedByEach F [] G = G
ImpliedByEach F (x ∷ rest) G = (x.1 → F x.0) → ImpliedByEach F rest G

implied_map : (F : ℕ → Type 0) (listed : List (ℕ × Type 0)) {G H : Type 0} → (G → H) → ImpliedByEach F listed G → ImpliedByEach F listed H
implied_map F [] k g = k g
implied_map F (x ∷ rest) k g = λ f. implied_map F rest k (g f)

-- then the condition of number r gives F at r
pub condition_by_number : (F : ℕ → Type 0) (listed : List (ℕ × Type 0)) → ImpliedByEach F listed ((r : ℕ) → ConditionOf listed r → F r)
condition_by_number F [] = λ r h. absurd h
condition_by_number F (x ∷ rest) = λ f. implied_map F rest
    (λ g r. type_if_elim (eqb r x.0) {A = x.1} {B = ConditionOf rest r} (λ e h. subst F (sym (eqb-true r x.0 e)) (f h)) (g r))
    (condition_by_number F rest)

-- a call refuses with number r exactly on the condition of r, if each refusal has its condition and each condition gives its refusal
pub refused_iff_condition : (x : After) (s : State) (order : List ℕ) (listed : List (ℕ × Type 0))
    → ((r : ℕ) → x.answer.outcome ≡ Refused r → ConditionOf listed r)
    → ImpliedByEach (λ (n : ℕ). x ≡ refused n s order) listed ((r : ℕ) → (x.answer.outcome ≡ Refused r) ↔ ConditionOf listed r)
refused_iff_condition x s order listed f = implied_map F listed (λ g r. (f r, λ h. ap (λ (y : After). y.answer.outcome) (g r h)))
    (condition_by_number F listed)
  where
    F : ℕ → Type 0
    F n = x ≡ refused n s order

-- ---- outcomes
-- the condition of the number of a refusal
pub condition_at_number : (listed : List (ℕ × Type 0)) (n r : ℕ) → Refused n ≡ Refused r → ConditionOf listed n → ConditionOf listed r
condition_at_number listed n r e = let q : n ≡ r = cc in subst (ConditionOf listed) q

pub address_not_refused : (a r : ℕ) → Address a ≡ Refused r → ⊥
address_not_refused a r e = let z : ◌≡◌ {A = ℕ} 0 1 = cc in omega arith

pub moves_not_refused : (m r : ℕ) → Moves m ≡ Refused r → ⊥
moves_not_refused m r e = let z : ◌≡◌ {A = ℕ} 0 1 = cc in omega arith

-- a block that is freed, small or long
pub freed_not_refused : (s : State) (order : List ℕ) (a r : ℕ) → (freed_at s order a).answer.outcome ≡ Refused r → ⊥
unfolding freed_at small_freed_at long_freed_at
freed_not_refused s order a r =
    pick_elim (λ (x : After). x.answer.outcome ≡ Refused r → ⊥) (is_in_run s a) (long_freed_at s order a) (small_freed_at s order a)
    (λ _. moves_not_refused 0 r) (λ _. moves_not_refused _ r)

-- ---- tests
decides_within_limits : (u : Setup) → Decides (within_limits u) (WithinLimits u) (WithinLimits u → ⊥)
decides_within_limits u = decides_fact (within_limits u) (facts_of_within_limits u) (within_limits_of_facts u)

module _ (s : State) (order : List ℕ) (i : ℕ) where
  pub decides_processor : Decides (is_processor s i) (IsProcessor s i) ((i ≡ 0) ⊎ (s.setup.processors < i))
  unfolding is_processor
  decides_processor = decides_as (λ h. record { low = h.0; high = h.1 }, λ h. (h.low, h.high)) (λ h. h, λ h. h)
      (decides_both (leb 1 i) (leb i s.setup.processors) (decides_nonzero i) (decides_le i s.setup.processors))

  -- ---- the check
  decides_rest_valid : WithinLimits s.setup → Decides (rest_valid s order) (RestSound s order) (RestSound s order → ⊥)
  decides_rest_valid l =
      decides_fact (rest_valid s order)
      (λ t. (
        sound_of_limits_and_rest s order (within_limits_of_facts s.setup l) t,
        names_sound_of_valid s (names_valid_of_rest s order t),
        totals_kept_of_rest s order t,
        ranks_sound_of_valid s (ranks_valid_of_rest s order t),
        runs_valid_of_rest s order t,
      ))
      (λ h. rest_valid_of_sound s order h.0 (names_valid_of_sound s h.1) h.2 (ranks_valid_of_sound s h.3) h.4)

  -- what the check refuses, or what it goes on with
  pub checked_refused : (next : After) (listed : List (ℕ × Type 0)) (r : ℕ) → (CheckFails s order → ConditionOf listed 13)
      → (StorageShort s order → ConditionOf listed 12)
      → (Passed s order → next.answer.outcome ≡ Refused r → ConditionOf listed r) → (checked s order next).answer.outcome ≡ Refused r → ConditionOf listed r
  unfolding checked
  checked_refused next listed r f g h = go (within_limits s.setup) (leb (s.setup.superblocks * 256) (length order)) (rest_valid s order)
      (decides_within_limits s.setup) (decides_le (s.setup.superblocks * 256) (length order)) decides_rest_valid
    where
      go : (x y z : Bool) → Decides x (WithinLimits s.setup) (WithinLimits s.setup → ⊥) → Decides y (s.setup.superblocks * 256 ≤ length order)
          (length order < s.setup.superblocks * 256)
          → (WithinLimits s.setup → Decides z (RestSound s order) (RestSound s order → ⊥))
          → (pick x (pick y (pick z next (refused 13 s order)) (refused 12 s order)) (refused 13 s order)).answer.outcome ≡ Refused r → ConditionOf listed r
      go false y z l m d e = condition_at_number listed 13 r e (f (limits_fail l.says))
      go true false z l m d e = condition_at_number listed 12 r e (g (record { numbers = l.says; short = m.says }))
      go true true false l m d e = condition_at_number listed 13 r e (f (rest_fails l.says m.says (d l.says).says))
      go true true true l m d e = let q = (d l.says).says in
          h (record { sound = q.0; names = names_valid_of_sound s q.1; totals = q.2; ranks = q.3; runs = q.4; room = m.says }) e

  pub check_fails_refused_13 : (next : After) → CheckFails s order → checked s order next ≡ refused 13 s order
  check_fails_refused_13 next (limits_fail f) = checked_refuses_13_of_limits s order next (false_of_decides (decides_within_limits s.setup) f)
  check_fails_refused_13 next (rest_fails l room f) = checked_refuses_13_of_rest s order next (true_of_decides (decides_within_limits s.setup) l) room
      (false_of_decides (decides_rest_valid l) f)

  pub storage_short_refused_12 : (next : After) → StorageShort s order → checked s order next ≡ refused 12 s order
  storage_short_refused_12 next h = checked_refuses_12_of_storage s order next (true_of_decides (decides_within_limits s.setup) h.numbers) h.short

  -- ---- a take
  module _ (size : ℕ) where
    -- what it finds, of a size that a class holds, and of a long one
    none_offered_of_nothing_found : Passed s order → IsProcessor s i → size ≤ 2048 → fullest i (class_of size) s ≡ None → other_places (class_of size) s
        ≡ None → NothingOffered s order i size
    unfolding taken_at
    none_offered_of_nothing_found passed p l eo et =
        let f = nothing_offered_of_refused_4 s order i size
        (take_of_class_size s order i passed size (true_of_decides decides_processor p) (false_of_decides (decides_too_large size) (omega arith))
        (false_of_decides (decides_long size) l) ∙ rw (eo, et)) in
        record {
          passed = passed;
          processor = p;
          size_le_2048 = l;
          none = (nothing_found_iff_not_offered s i (class_of size) passed.sound.numbers.superblocks_high).0
              (record { own = f.1; zero = f.2; empty = f.3; unused = f.4 });
        }

    no_run_of_nothing_found : Passed s order → IsProcessor s i → 2048 < size → size ≤ 65535 → lowest_run (run_length size) s ≡ None → NoRun s order i size
    no_run_of_nothing_found passed p above l e =
        record {
          passed = passed;
          processor = p;
          size_above_2048 = above;
          size_le_65535 = l;
          none = no_run_of_lowest_run_nothing (run_length size) s (run_length_pos size (true_of_decides (decides_long size) above))
              passed.sound.numbers.superblocks_high e;
        }

    condition_of_take_refused : (r : ℕ) → (take_of s order i size).answer.outcome ≡ Refused r → ConditionOf (take_refusals s order i size) r
    unfolding take_of take_unchecked taken_at taken_from_other taken_from long_taken_at long_taken_from
    condition_of_take_refused r = checked_refused (take_unchecked s order i size)
        (take_refusals s order i size) r (λ h. h) (λ h. h)
        (go (is_processor s i) (is_too_large size) (is_long size) (lowest_run (run_length size) s) (fullest i (class_of size) s)
        (other_places (class_of size) s)
        decides_processor (decides_too_large size) (decides_long size) refl refl refl)
      where
        go : (processor large long : Bool) (run own other : Option ℕ) → Decides processor (IsProcessor s i) ((i ≡ 0) ⊎ (s.setup.processors < i))
            → Decides large (65535 < size) (size ≤ 65535) → Decides long (2048 < size) (size ≤ 2048) → lowest_run (run_length size) s ≡ run
            → fullest i (class_of size) s ≡ own → other_places (class_of size) s ≡ other
            → Passed s order → (taken_by_tests s order i size processor large long run own other).answer.outcome ≡ Refused r
            → ConditionOf (take_refusals s order i size) r
        go false large long run own other p l n er eo et passed e = condition_at_number (take_refusals s order i size) 2 r e
            (record { passed = passed; out = p.says })
        go true true long run own other p l n er eo et passed e = condition_at_number (take_refusals s order i size) 3 r e
            (record { passed = passed; processor = p.says; large = l.says })
        go true false true (Some k) own other p l n er eo et passed e = absurd (address_not_refused _ r e)
        go true false true None own other p l n er eo et passed e = condition_at_number (take_refusals s order i size) 17 r e
            (no_run_of_nothing_found passed p.says n.says l.says er)
        go true false false run (Some k) other p l n er eo et passed e = absurd (address_not_refused _ r e)
        go true false false run None (Some k) p l n er eo et passed e = absurd (address_not_refused _ r e)
        go true false false run None None p l n er eo et passed e = condition_at_number (take_refusals s order i size) 4 r e
            (none_offered_of_nothing_found passed p.says n.says eo et)

    pub nothing_offered_refused_4 : NothingOffered s order i size → take_of s order i size ≡ refused 4 s order
    nothing_offered_refused_4 h =
        let f = (nothing_found_iff_not_offered s i (class_of size) h.passed.sound.numbers.superblocks_high).1 h.none in
        refused_4_of_nothing_offered s order i size h.passed h.processor.low h.processor.high h.size_le_2048 f.own f.zero f.empty
        f.unused

    pub no_run_refused_17 : NoRun s order i size → take_of s order i size ≡ refused 17 s order
    no_run_refused_17 h =
        refused_17_of_no_run s order i size h.passed h.processor.low h.processor.high h.size_above_2048 h.size_le_65535
        (lowest_run_nothing_of_no_run (run_length size) s h.none)

    -- a take is refused with number r exactly if r's condition holds: it applies, and none before it in the order
    pub take_refused_iff_condition : (r : ℕ) → ((take_of s order i size).answer.outcome ≡ Refused r) ↔ ConditionOf (take_refusals s order i size) r
    unfolding take_of
    take_refused_iff_condition = refused_iff_condition (take_of s order i size) s order (take_refusals s order i size) condition_of_take_refused
        (check_fails_refused_13 _) (storage_short_refused_12 _)
        (λ h. take_refused_2_of_processor s order i h.passed size (false_of_decides decides_processor h.out))
        (λ h. take_refused_3_of_too_large s order i h.passed size (true_of_decides decides_processor h.processor)
        (true_of_decides (decides_too_large size) h.large))
        nothing_offered_refused_4
        no_run_refused_17

    -- number by number: 13, 12, 2, 3, 4, 17
    pub take_refused_13 : ((take_of s order i size).answer.outcome ≡ Refused 13) ↔ CheckFails s order
    take_refused_13 = take_refused_iff_condition 13

    pub take_refused_12 : ((take_of s order i size).answer.outcome ≡ Refused 12) ↔ StorageShort s order
    take_refused_12 = take_refused_iff_condition 12

    pub take_refused_2 : ((take_of s order i size).answer.outcome ≡ Refused 2) ↔ NotProcessor s order i
    take_refused_2 = take_refused_iff_condition 2

    pub take_refused_3 : ((take_of s order i size).answer.outcome ≡ Refused 3) ↔ TooLarge s order i size
    take_refused_3 = take_refused_iff_condition 3

    pub take_refused_4 : ((take_of s order i size).answer.outcome ≡ Refused 4) ↔ NothingOffered s order i size
    take_refused_4 = take_refused_iff_condition 4

    pub take_refused_17 : ((take_of s order i size).answer.outcome ≡ Refused 17) ↔ NoRun s order i size
    take_refused_17 = take_refused_iff_condition 17

    -- "As a size has 16 bits, refusal 3 can no longer be met"
    pub take_never_refused_3 : size < 65536 → (take_of s order i size).answer.outcome ≡ Refused 3 → ⊥
    take_never_refused_3 l e = let h = (take_refused_3.0 e).large in omega arith

    -- 17 "in place of 4 for a long size", and for no other
    pub long_take_never_refused_4 : 2048 < size → (take_of s order i size).answer.outcome ≡ Refused 4 → ⊥
    long_take_never_refused_4 l e = let h = (take_refused_4.0 e).size_le_2048 in omega arith

    pub class_size_never_refused_17 : size ≤ 2048 → (take_of s order i size).answer.outcome ≡ Refused 17 → ⊥
    class_size_never_refused_17 l e = let h = (take_refused_17.0 e).size_above_2048 in omega arith

  -- ---- a free
  module _ (a : ℕ) where
    pub decides_is_unmapped : Decides (is_unmapped s a) ((s.setup.superblocks * 4096 ≤ a) ⊎ Unused (superblock_holding s a)) (Mapped s a)
    unfolding is_unmapped
    decides_is_unmapped =
        decides_as (λ h. h, λ h. h) (λ h. record { inside = h.0; used = h.1 }, λ h. (h.inside, h.used))
        (decides_either (leb (s.setup.superblocks * 4096) a) (is_unused (superblock_holding s a)) (decides_le (s.setup.superblocks * 4096) a)
        (decides_fact (is_unused (superblock_holding s a)) (facts_of_is_unused (superblock_holding s a)) (is_unused_of_facts (superblock_holding s a))))

    abbrev rest : ℕ
    rest = offset_of a % size_of (superblock_holding s a).class

    not_off_and_on_block : OffBlock s a → OnBlock s a → ⊥
    not_off_and_on_block (off_blocks_of_class f (inl g)) (on_block_of_class h e l) = g e
    not_off_and_on_block (off_blocks_of_class f (inr g)) (on_block_of_class h e l) = omega arith
    not_off_and_on_block (off_blocks_of_class f g) (on_run_start o l e) = f o
    not_off_and_on_block (inside_run o g) (on_block_of_class h e l) = h o
    not_off_and_on_block (inside_run o g) (on_run_start p l e) = g (l, e)

    -- the test of a class's superblock, and of a run's
    decides_is_off_block : Decides (is_off_block s a) ((rest ≡ 0 → ⊥) ⊎ (blocks_of (superblock_holding s a).class ≤ block_of s a))
        ((rest ≡ 0) × (block_of s a < blocks_of (superblock_holding s a).class))
    unfolding is_off_block
    decides_is_off_block = decides_either (not (eqb rest 0)) (leb (blocks_of (superblock_holding s a).class) (block_of s a)) (decides_differs rest 0)
        (decides_le (blocks_of (superblock_holding s a).class) (block_of s a))

    decides_is_run_start : (superblock_holding s a).owner ≡ run_owner → Decides (is_run_start s a) ((0 < (superblock_holding s a).run) × (offset_of a ≡ 0))
        ((0 < (superblock_holding s a).run) × (offset_of a ≡ 0) → ⊥)
    unfolding is_run_start starts_run is_of_run
    decides_is_run_start o =
        decides_fact (both (both (eqb (superblock_holding s a).owner run_owner) (ltb 0 (superblock_holding s a).run)) (eqb (offset_of a) 0))
        (λ t.
        let b = both_left (both (eqb (superblock_holding s a).owner run_owner) (ltb 0 (superblock_holding s a).run)) _ t in (
          ltb→lt 0 (superblock_holding s a).run (both_right (eqb (superblock_holding s a).owner run_owner) _ b),
          eqb→eq (offset_of a) 0 (both_right (both (eqb (superblock_holding s a).owner run_owner) (ltb 0 (superblock_holding s a).run)) _ t),
        ))
        (λ h.
        both_make (both (eqb (superblock_holding s a).owner run_owner) (ltb 0 (superblock_holding s a).run)) _
        (both_make (eqb (superblock_holding s a).owner run_owner) _ (T_of_true _ (eq-eqb (superblock_holding s a).owner run_owner o))
        (lt→ltb 0 (superblock_holding s a).run h.0))
        (T_of_true _ (eq-eqb (offset_of a) 0 h.1)))

    pub decides_is_misaligned : Decides (is_misaligned s a) (OffBlock s a) (OnBlock s a)
    unfolding is_misaligned
    decides_is_misaligned = go (is_in_run s a) refl
      where
        of_class : is_in_run s a ≡ false → (superblock_holding s a).owner ≡ run_owner → ⊥
        of_class e o = true_not_false (is_in_run s a) (of_run_of_owner (superblock_holding s a) o) e

        go : (x : Bool) → is_in_run s a ≡ x → Decides (pick x (not (is_run_start s a)) (is_off_block s a)) (OffBlock s a) (OnBlock s a)
        go true e =
            let o = owner_of_run (superblock_holding s a) e in
            by_run o (is_run_start s a) (decides_is_run_start o)
          where
            by_run : (superblock_holding s a).owner ≡ run_owner → (y : Bool) → Decides y ((0 < (superblock_holding s a).run) × (offset_of a ≡ 0))
                ((0 < (superblock_holding s a).run) × (offset_of a ≡ 0) → ⊥)
                → Decides (not y) (OffBlock s a) (OnBlock s a)
            by_run o true d = record { says = on_run_start o d.says.0 d.says.1; not_both = not_off_and_on_block }
            by_run o false d = record { says = inside_run o d.says; not_both = not_off_and_on_block }
        go false e = by_class (is_off_block s a) decides_is_off_block
          where
            by_class : (y : Bool) → Decides y ((rest ≡ 0 → ⊥) ⊎ (blocks_of (superblock_holding s a).class ≤ block_of s a))
                ((rest ≡ 0) × (block_of s a < blocks_of (superblock_holding s a).class))
                → Decides y (OffBlock s a) (OnBlock s a)
            by_class true d = record { says = off_blocks_of_class (of_class e) d.says; not_both = not_off_and_on_block }
            by_class false d = record { says = on_block_of_class (of_class e) d.says.0 d.says.1; not_both = not_off_and_on_block }

    condition_of_free_refused : (r : ℕ) → (free_of s order i a).answer.outcome ≡ Refused r → ConditionOf (free_refusals s order i a) r
    unfolding free_of free_unchecked is_live_at
    condition_of_free_refused r = checked_refused (free_unchecked s order i a)
        (free_refusals s order i a) r (λ h. h) (λ h. h)
        (go (is_processor s i) (is_unmapped s a) (is_misaligned s a) (is_live_at s a) decides_processor decides_is_unmapped decides_is_misaligned refl)
      where
        tests : (p w o l : Bool) → After
        tests p w o l =
            pick (not p) (refused 2 s order)
            (pick w (refused 5 s order)
            (pick o (refused 6 s order)
            (pick (not l) (refused 7 s order) (freed_at s order a))))

        go : (p w o l : Bool) → Decides p (IsProcessor s i) ((i ≡ 0) ⊎ (s.setup.processors < i))
            → Decides w ((s.setup.superblocks * 4096 ≤ a) ⊎ Unused (superblock_holding s a)) (Mapped s a)
            → Decides o (OffBlock s a) (OnBlock s a)
            → is_live_at s a ≡ l → Passed s order → (tests p w o l).answer.outcome ≡ Refused r → ConditionOf (free_refusals s order i a) r
        go false w o l p z b el passed e = condition_at_number (free_refusals s order i a) 2 r e (record { passed = passed; out = p.says })
        go true true o l p z b el passed e = condition_at_number (free_refusals s order i a) 5 r e
            (record { passed = passed; processor = p.says; out = z.says })
        go true false true l p z b el passed e = condition_at_number (free_refusals s order i a) 6 r e
            (record { passed = passed; processor = p.says; mapped = z.says; misaligned = b.says })
        go true false false false p z b el passed e = condition_at_number (free_refusals s order i a) 7 r e (record {
          passed = passed;
          processor = p.says;
          mapped = z.says;
          aligned = b.says;
          clear = mark_bit_zero_of_no_mark (live_blocks (superblock_holding s a)) (block_of s a) el;
        })
        go true false false true p z b el passed e = absurd (freed_not_refused s order a r e)

    not_live_refused_7 : NotLive s order i a → free_of s order i a ≡ refused 7 s order
    unfolding is_live_at
    not_live_refused_7 h =
        free_refused_7_of_not_live s order i h.passed a (true_of_decides decides_processor h.processor)
        (false_of_decides decides_is_unmapped h.mapped) (false_of_decides decides_is_misaligned h.aligned)
        (no_mark_of_mark_bit_zero (live_blocks (superblock_holding s a)) (block_of s a) h.clear)

    -- a free is refused with number r exactly if r's condition holds: it applies, and none before it in the order
    pub free_refused_iff_condition : (r : ℕ) → ((free_of s order i a).answer.outcome ≡ Refused r) ↔ ConditionOf (free_refusals s order i a) r
    unfolding free_of
    free_refused_iff_condition = refused_iff_condition (free_of s order i a) s order (free_refusals s order i a) condition_of_free_refused
        (check_fails_refused_13 _) (storage_short_refused_12 _)
        (λ h. free_refused_2_of_processor s order i h.passed a (false_of_decides decides_processor h.out))
        (λ h. free_refused_5_of_unmapped s order i h.passed a (true_of_decides decides_processor h.processor)
        (true_of_decides decides_is_unmapped h.out))
        (λ h. free_refused_6_of_misaligned s order i h.passed a (true_of_decides decides_processor h.processor)
        (false_of_decides decides_is_unmapped h.mapped) (true_of_decides decides_is_misaligned h.misaligned))
        not_live_refused_7

    -- number by number: 13, 12, 2, 5, 6, 7
    pub free_refused_13 : ((free_of s order i a).answer.outcome ≡ Refused 13) ↔ CheckFails s order
    free_refused_13 = free_refused_iff_condition 13

    pub free_refused_12 : ((free_of s order i a).answer.outcome ≡ Refused 12) ↔ StorageShort s order
    free_refused_12 = free_refused_iff_condition 12

    pub free_refused_2 : ((free_of s order i a).answer.outcome ≡ Refused 2) ↔ NotProcessor s order i
    free_refused_2 = free_refused_iff_condition 2

    pub free_refused_5 : ((free_of s order i a).answer.outcome ≡ Refused 5) ↔ Unmapped s order i a
    free_refused_5 = free_refused_iff_condition 5

    pub free_refused_6 : ((free_of s order i a).answer.outcome ≡ Refused 6) ↔ Misaligned s order i a
    free_refused_6 = free_refused_iff_condition 6

    pub free_refused_7 : ((free_of s order i a).answer.outcome ≡ Refused 7) ↔ NotLive s order i a
    free_refused_7 = free_refused_iff_condition 7

    -- in a run an address is refused 6, or a long block starts there, which is live
    pub run_never_refused_7 : (superblock_holding s a).owner ≡ run_owner → (free_of s order i a).answer.outcome ≡ Refused 7 → ⊥
    unfolding starts_run
    run_never_refused_7 o e = go (free_refused_7.0 e) (free_refused_7.0 e).aligned
      where
        go : NotLive s order i a → OnBlock s a → ⊥
        go h (on_block_of_class f q l) = f o
        go h (on_run_start p l q) =
            let first : block_of s a ≡ 0 = block_of_offset_0 s a q in
            let starts : starts_run (superblock_holding s a) ≡ true =
            rw (of_run_of_owner (superblock_holding s a) o, lt-ltb 0 (superblock_holding s a).run l) in
            let marked : mark_bit (live_blocks (superblock_holding s a)) 0 ≡ 1 =
            ap (λ (x : List ℕ). mark_bit x 0) (live_blocks_of_first (superblock_holding s a) starts) ∙ with_mark_same no_marks 0 refl (omega arith) in
            omega (arith, h.clear, ap (mark_bit (live_blocks (superblock_holding s a))) first)

-- ---- a setup
module _ (u : Setup) (order : List ℕ) where
  condition_of_setup_refused : (r : ℕ) → (setup_of u order).answer.outcome ≡ Refused r → ConditionOf (setup_refusals u order) r
  unfolding setup_of
  condition_of_setup_refused r = go (within_limits u) (leb (u.superblocks * 256) (length order)) (decides_within_limits u)
      (decides_le (u.superblocks * 256) (length order))
    where
      ready : Ready ≡ Refused r → ⊥
      ready e = let z : ◌≡◌ {A = ℕ} 0 1 = cc in omega arith

      go : (x y : Bool) → Decides x (WithinLimits u) (WithinLimits u → ⊥) → Decides y (u.superblocks * 256 ≤ length order)
          (length order < u.superblocks * 256)
          → (pick x (pick y (accepted_setup u order) (refused 12 no_state order)) (refused 1 no_state order)).answer.outcome ≡ Refused r
          → ConditionOf (setup_refusals u order) r
      go true true l m e = absurd (ready e)
      go true false l m e = condition_at_number (setup_refusals u order) 12 r e (l.says, m.says)
      go false y l m e = condition_at_number (setup_refusals u order) 1 r e l.says

  -- a setup is refused with number r exactly if r's condition holds
  pub setup_refused_iff_condition : (r : ℕ) → ((setup_of u order).answer.outcome ≡ Refused r) ↔ ConditionOf (setup_refusals u order) r
  setup_refused_iff_condition = refused_iff_condition (setup_of u order) no_state order (setup_refusals u order) condition_of_setup_refused
      (λ f. setup_refused_1_of_limits u order (false_of_decides (decides_within_limits u) f))
      (λ h. setup_refused_12_of_storage u order (true_of_decides (decides_within_limits u) h.0) h.1)

  -- 1: "a setup number outside its limits"
  pub setup_refused_1 : ((setup_of u order).answer.outcome ≡ Refused 1) ↔ (WithinLimits u → ⊥)
  setup_refused_1 = setup_refused_iff_condition 1

  -- 12: "fewer than N × 256 order places lent"
  pub setup_refused_12 : ((setup_of u order).answer.outcome ≡ Refused 12) ↔ (WithinLimits u × (length order < u.superblocks * 256))
  setup_refused_12 = setup_refused_iff_condition 12
