-- The key of any record of bytes fits its room: a command prints at most 10 bytes for each of its own, and the final lines are those of
-- at most 9 heaps and 27 classes and of at most 64 runs. Assumes nothing.
use Rattle.std.specs.Prelude.{Option, Some, None}
use mathlib.Core.Path.{◌≡◌, refl, sym, subst}
use mathlib.Core.Bool.{Bool, true, false, not}
use mathlib.Core.List.{List, [], ◌∷◌}
use Prim.Native.Nat.{ℕ, zero, suc, ◌+◌, ◌*◌, ◌≤◌, ◌<◌, zero-le}
use native.Mathlib.Nat.{lt_of_not-le}
use native.Mathlib.Decide.{dec_le}
use native.Mathlib.Omega.{arith}
use lib.ListN.{length, length-append}
use lib.Dec.{eqb, leb}
use Rattle.base_laws.specs.Sums.{pick, either}
use Rattle.base_laws.proofs.TestLaws.{pick_elim}
use Rattle.class_rules.specs.Classes.{class_of, is_long, run_length, is_too_large}
use Rattle.names_rules.specs.Names.{is_held}
use Rattle.heap_rules.specs.declared.Setup.{Setup}
use Rattle.heap_rules.specs.declared.State.{State}
use Rattle.heap_rules.specs.declared.Moved.{Moved}
use Rattle.choice_rules.specs.Choice.{fullest, emptiest}
use Rattle.choice_rules.specs.RunChoice.{lowest_run}
use Rattle.move_rules.specs.Moves.{must_move, found_transferred, transfers_up_to, excess_transferred, invariant_restored}
use Rattle.check_rules.specs.Check.{within_limits, rest_valid}
use Rattle.call_rules.specs.declared.Outcome.{Outcome}
use Rattle.call_rules.specs.declared.Outcome.TheVariants.{Ready, Address, Moves, Refused}
use Rattle.call_rules.specs.Answers.{After, number_of, refused, checked, is_processor}
use Rattle.call_rules.specs.Setup.{setup_of}
use Rattle.call_rules.specs.LongBlocks.{long_taken_from, long_taken_at}
use Rattle.call_rules.specs.Take.{other_places, taken_from, taken_from_other, taken_at, take_unchecked, take_of}
use Rattle.call_rules.specs.Free.{superblock_holding, is_unmapped, is_in_run, is_misaligned, is_live_at, address_refusal, small_block_freed, block_freed}
use Rattle.call_rules.specs.Free.{small_freed_at}
use Rattle.call_rules.specs.Free.{long_freed_at, freed_at, free_unchecked, free_of}
use Rattle.call_rules.specs.Named.{named_take_of, held_address, named_free_unchecked, named_free_of}
use Rattle.call_rules.specs.Drop.{all_freed, first_address_refusal, is_touched, then_restored, Pair, touched_classes, touched_pairs, each_restored, drop_moves}
use Rattle.call_rules.specs.Drop.{dropped_all, drop_unchecked, drop_of}
use Rattle.call_rules.specs.Calls.{call_with, call_of}
use Rattle.call_header.specs.declared.CallHeader.{CallHeader}
use Rattle.call_header.specs.declared.CallHeader.TheVariants as header
use Rattle.record_rules.specs.declared.Command.{Command}
use Rattle.record_rules.specs.declared.Command.TheVariants as command
use Rattle.bytes_rules.specs.Bytes.{byte_at}
use Rattle.record_rules.specs.Record.{addresses_in, command_at, call_size, size_of_command, is_refused, commands_from, commands_of}
use Rattle.record_laws.proofs.CommandLaws.{setup_fits, CallFits, call_fits}
use Rattle.record_laws.proofs.RefusalOffsets.{bytes_in, bytes_in_commands_le_60000}
use Rattle.text_rules.proofs.DigitLaws.{length_of_decimal_le_10, length_of_byte_decimal_le_3, length_of_u16_decimal_le_5}
use Rattle.line_rules.specs.Lines.{result, take_line, free_line, named_take_line, named_free_line, drop_line, call_line, stop_line}
use Rattle.line_rules.proofs.LineLengthLaws.{length_of_setup_line_le_26, length_of_named_take_line_le, length_of_named_free_line_le}
use Rattle.line_rules.proofs.LineLengthLaws.{length_of_drop_line_le_31, length_of_drop_line_le_29, length_of_final_lines_le}
use Rattle.key_rules.specs.Key.{before_first, setup_text, text_of, key_of, room}
use Rattle.key_laws.proofs.SetupKeptLaws.{setup_kept_by_call, processors_after_setup_le_8}

-- ---- the result of a take: an address, or a refusal of two digits at most
ShortResult : ℕ → After → Type 0
ShortResult n after = length (result after.answer.outcome) ≤ n

short_result_of_refused : (n r : ℕ) (s : State) (order : List ℕ) → 12 ≤ n → r < 256 → ShortResult n (refused r s order)
unfolding ShortResult result
short_result_of_refused n r s order l h = omega (arith, length_of_byte_decimal_le_3 r h)

length_of_address_result_le_14 : (a : ℕ) → length (result (Address a)) ≤ 14
unfolding result
length_of_address_result_le_14 a = omega (arith, length_of_decimal_le_10 a)

short_result_of_taken_from : (k : ℕ) (s : State) (order : List ℕ) → ShortResult 14 (taken_from k s order)
unfolding ShortResult taken_from
short_result_of_taken_from k s order = length_of_address_result_le_14 _

short_result_of_taken_at : (i c : ℕ) (s : State) (order : List ℕ) (own other : Option ℕ) → ShortResult 14 (taken_at i c s order own other)
unfolding taken_at taken_from_other
short_result_of_taken_at i c s order (Some k) other = short_result_of_taken_from k s order
short_result_of_taken_at i c s order None (Some k) = short_result_of_taken_from k _ _
short_result_of_taken_at i c s order None None = short_result_of_refused 14 4 s order (omega arith) (omega arith)

short_result_of_long_taken_at : (n : ℕ) (s : State) (order : List ℕ) (found : Option ℕ) → ShortResult 14 (long_taken_at n s order found)
unfolding ShortResult long_taken_at long_taken_from
short_result_of_long_taken_at n s order (Some k) = length_of_address_result_le_14 _
short_result_of_long_taken_at n s order None = short_result_of_refused 14 17 s order (omega arith) (omega arith)

short_result_of_checked : (n : ℕ) (s : State) (order : List ℕ) (next : After) → 12 ≤ n → ShortResult n next → ShortResult n (checked s order next)
unfolding checked
short_result_of_checked n s order next l h =
    pick_elim (ShortResult n) (within_limits s.setup) _ _
    (λ e. pick_elim (ShortResult n) (leb (s.setup.superblocks * 256) (length order)) _ _
    (λ f. pick_elim (ShortResult n) (rest_valid s order) next (refused 13 s order) (λ g. h) (λ g. short_result_of_refused n 13 s order l (omega arith)))
    (λ f. short_result_of_refused n 12 s order l (omega arith)))
    (λ e. short_result_of_refused n 13 s order l (omega arith))

short_result_of_take : (s : State) (order : List ℕ) (i size : ℕ) → ShortResult 14 (take_of s order i size)
unfolding take_of take_unchecked
short_result_of_take s order i size =
    short_result_of_checked 14 s order _ (omega arith)
    (pick_elim (ShortResult 14) (not (is_processor s i)) _ _ (λ e. short_result_of_refused 14 2 s order (omega arith) (omega arith))
    (λ e. pick_elim (ShortResult 14) (is_too_large size) _ _ (λ f. short_result_of_refused 14 3 s order (omega arith) (omega arith))
    (λ f. pick_elim (ShortResult 14) (is_long size) _ _ (λ g. short_result_of_long_taken_at (run_length size) s order (lowest_run (run_length size) s))
    (λ g. short_result_of_taken_at i (class_of size) s order (fullest i (class_of size) s) (other_places (class_of size) s)))))

-- ---- the result of a named free: at most 64 moves, or such a refusal
moves_of_transfers_up_to_le : (k h c m : ℕ) (s : State) → (transfers_up_to k h c m s).moves ≤ m + k
unfolding transfers_up_to
moves_of_transfers_up_to_le zero h c m s = omega arith
moves_of_transfers_up_to_le (suc k) h c m s =
    pick_elim (λ (r : Moved). r.moves ≤ m + suc k) (must_move h c s) _ _
    (λ e. let l = moves_of_transfers_up_to_le k h c (m + 1) (found_transferred (emptiest h c s) s) in omega arith)
    (λ e. omega arith)

moves_of_invariant_restored_le_64 : (h c : ℕ) (s : State) → (invariant_restored h c s).moves ≤ 64
unfolding invariant_restored excess_transferred
moves_of_invariant_restored_le_64 h c s = pick_elim (λ (r : Moved). r.moves ≤ 64) (eqb h 0) _ _ (λ e. omega arith)
    (λ e. moves_of_transfers_up_to_le 64 h c 0 s)

short_result_of_freed_at : (s : State) (order : List ℕ) (a : ℕ) → ShortResult 12 (freed_at s order a)
unfolding ShortResult freed_at long_freed_at small_freed_at result
short_result_of_freed_at s order a =
    let moves = (invariant_restored (superblock_holding s a).owner (superblock_holding s a).class (small_block_freed s a)).moves in
    let few : moves ≤ 64 = moves_of_invariant_restored_le_64 (superblock_holding s a).owner (superblock_holding s a).class (small_block_freed s a) in
    pick_elim (ShortResult 12) (is_in_run s a) _ _
    (λ e. omega (arith, length_of_byte_decimal_le_3 0 (omega arith)))
    (λ e. omega (arith, length_of_byte_decimal_le_3 moves (omega arith)))

short_result_of_free_unchecked : (s : State) (order : List ℕ) (i a : ℕ) → ShortResult 12 (free_unchecked s order i a)
unfolding free_unchecked
short_result_of_free_unchecked s order i a =
    pick_elim (ShortResult 12) (not (is_processor s i)) _ _ (λ e. short_result_of_refused 12 2 s order (omega arith) (omega arith))
    (λ e. pick_elim (ShortResult 12) (is_unmapped s a) _ _ (λ f. short_result_of_refused 12 5 s order (omega arith) (omega arith))
    (λ f. pick_elim (ShortResult 12) (is_misaligned s a) _ _ (λ g. short_result_of_refused 12 6 s order (omega arith) (omega arith))
    (λ g. pick_elim (ShortResult 12) (not (is_live_at s a)) _ _ (λ h. short_result_of_refused 12 7 s order (omega arith) (omega arith))
    (λ h. short_result_of_freed_at s order a))))

short_result_of_named_free : (s : State) (order : List ℕ) (i m : ℕ) → ShortResult 12 (named_free_of s order i m)
unfolding named_free_of named_free_unchecked
short_result_of_named_free s order i m =
    short_result_of_checked 12 s order _ (omega arith)
    (pick_elim (ShortResult 12) (not (is_processor s i)) _ _ (λ e. short_result_of_refused 12 2 s order (omega arith) (omega arith))
    (λ e. pick_elim (ShortResult 12) (not (is_held s.names m)) _ _ (λ f. short_result_of_refused 12 15 s order (omega arith) (omega arith))
    (λ f. short_result_of_free_unchecked s order i (held_address s m))))

-- ---- the result of a drop: at most 64 moves for each heap and class touched, of at most 8 heaps, which is a number of five digits; or such a refusal
length_of_touched_classes_le : (touched : ℕ → ℕ → Bool) (h c : ℕ) → length (touched_classes touched h c) ≤ c
unfolding touched_classes
length_of_touched_classes_le touched h zero = zero-le
length_of_touched_classes_le touched h (suc c) = simp length-append (omega (arith, length_of_touched_classes_le touched h c, one_at_most (touched h c)))
  where
    one_at_most : (t : Bool) → length {A = Pair} (pick t (record { heap = h; class = c } ∷ []) []) ≤ 1
    one_at_most true = omega arith
    one_at_most false = zero-le

length_of_touched_pairs_le : (touched : ℕ → ℕ → Bool) (h : ℕ) → length (touched_pairs touched h) ≤ h * 27
unfolding touched_pairs
length_of_touched_pairs_le touched zero = zero-le
length_of_touched_pairs_le touched (suc h) =
    simp length-append (omega (arith, length_of_touched_pairs_le touched h, length_of_touched_classes_le touched (suc h) 27))

moves_of_each_restored_le : (pairs : List Pair) (before : Moved) → (each_restored pairs before).moves ≤ before.moves + length pairs * 64
unfolding each_restored then_restored
moves_of_each_restored_le [] before = omega arith
moves_of_each_restored_le (pair ∷ pairs) before =
    omega (
      arith,
      moves_of_each_restored_le pairs (then_restored pair.heap pair.class before),
      moves_of_invariant_restored_le_64 pair.heap
          pair.class before.state,
    )

moves_of_drop_le : (s : State) (addresses : List ℕ) → s.setup.processors ≤ 8 → (drop_moves s addresses).moves ≤ 8 * 27 * 64
unfolding drop_moves
moves_of_drop_le s addresses h =
    omega (
      arith,
      moves_of_each_restored_le (touched_pairs (is_touched s addresses) s.setup.processors)
          (record { moves = 0; state = all_freed s addresses }),
      length_of_touched_pairs_le (is_touched s addresses) s.setup.processors,
    )

short_result_of_dropped_all : (s : State) (order addresses : List ℕ) → s.setup.processors ≤ 8 → ShortResult 12 (dropped_all s order addresses)
unfolding ShortResult dropped_all result
short_result_of_dropped_all s order addresses h =
    let few = moves_of_drop_le s addresses h in
    omega (arith, length_of_u16_decimal_le_5 (drop_moves s addresses).moves (omega arith))

address_refusal_le_7 : (s : State) (a : ℕ) → address_refusal s a ≤ 7
unfolding address_refusal
address_refusal_le_7 s a =
    pick_elim (λ (r : ℕ). r ≤ 7) (is_unmapped s a) _ _ (λ e. omega arith)
    (λ e. pick_elim (λ (r : ℕ). r ≤ 7) (is_misaligned s a) _ _ (λ f. omega arith)
    (λ f. pick_elim (λ (r : ℕ). r ≤ 7) (is_live_at s a) 0 7 (λ g. omega arith) (λ g. omega arith)))

first_refusal_le_7 : (s : State) (addresses : List ℕ) → first_address_refusal s addresses ≤ 7
unfolding first_address_refusal
first_refusal_le_7 s [] = omega arith
first_refusal_le_7 s (a ∷ addresses) =
    pick_elim (λ (r : ℕ). r ≤ 7) (eqb (address_refusal s a) 0) _ _ (λ e. first_refusal_le_7 (block_freed s a) addresses) (λ e. address_refusal_le_7 s a)

short_result_of_drop : (s : State) (order : List ℕ) (i : ℕ) (addresses : List ℕ) → s.setup.processors ≤ 8 → ShortResult 12 (drop_of s order i addresses)
unfolding drop_of drop_unchecked
short_result_of_drop s order i addresses at-most-8 =
    short_result_of_checked 12 s order _ (omega arith)
    (pick_elim (ShortResult 12) (not (is_processor s i)) _ _ (λ e. short_result_of_refused 12 2 s order (omega arith) (omega arith))
    (λ e. pick_elim (ShortResult 12) (eqb (length addresses) 0) _ _ (λ f. short_result_of_refused 12 16 s order (omega arith) (omega arith))
    (λ f. pick_elim (ShortResult 12) (eqb (first_address_refusal s addresses) 0) _ _ (λ g. short_result_of_dropped_all s order addresses at-most-8)
    (λ g. short_result_of_refused 12 (first_address_refusal s addresses) s order (omega arith) (omega (arith, first_refusal_le_7 s addresses))))))

-- ---- the lines: 10 bytes for each byte of the command
length_of_take_line_le_32 : (s : State) (order : List ℕ) (i size : ℕ) → i < 256 → size < 65536
    → length (take_line i size (take_of s order i size).answer.outcome) ≤ 32
unfolding take_line ShortResult
length_of_take_line_le_32 s order i size a b =
    simp length-append (omega (arith, length_of_byte_decimal_le_3 i a, length_of_u16_decimal_le_5 size b, short_result_of_take s order i size))

length_of_any_result_le_19 : (o : Outcome) → length (result o) ≤ 19
unfolding result
length_of_any_result_le_19 Ready = omega arith
length_of_any_result_le_19 (Address a) = omega (arith, length_of_decimal_le_10 a)
length_of_any_result_le_19 (Moves m) = omega (arith, length_of_decimal_le_10 m)
length_of_any_result_le_19 (Refused r) = omega (arith, length_of_decimal_le_10 r)

length_of_free_line_le_48 : (i address : ℕ) (o : Outcome) → length (free_line i address o) ≤ 48
unfolding free_line
length_of_free_line_le_48 i address o =
    simp length-append (omega (arith, length_of_decimal_le_10 i, length_of_decimal_le_10 address, length_of_any_result_le_19 o))

length_of_named_take_line_le_48 : (i m size : ℕ) (o : Outcome) → i < 256 → m < 65536 → size < 65536 → length (named_take_line i m size o) ≤ 48
length_of_named_take_line_le_48 i m size o a b h = omega (arith, length_of_named_take_line_le i m o a b size h, length_of_any_result_le_19 o)

length_of_named_free_line_le_32 : (s : State) (order : List ℕ) (i m : ℕ) → i < 256 → m < 65536
    → length (named_free_line i m (named_free_of s order i m).answer.outcome) ≤ 32
unfolding ShortResult
length_of_named_free_line_le_32 s order i m a b =
    omega (arith, length_of_named_free_line_le i m (named_free_of s order i m).answer.outcome a b, short_result_of_named_free s order i m)

-- a drop of no address has 3 bytes, and its count one digit
length_of_drop_line_le_10_times : (s : State) (order : List ℕ) (i count : ℕ) (addresses : List ℕ) → s.setup.processors ≤ 8 → i < 256 → count < 256
    → length (drop_line i count (drop_of s order i addresses).answer.outcome) ≤ 10 * (3 + 4 * count)
unfolding ShortResult
length_of_drop_line_le_10_times s order i count addresses at-most-8 a b = go (dec_le 10 count)
  where
    short : length (result (drop_of s order i addresses).answer.outcome) ≤ 12
    short = short_result_of_drop s order i addresses at-most-8

    go : Dec (10 ≤ count) → length (drop_line i count (drop_of s order i addresses).answer.outcome) ≤ 10 * (3 + 4 * count)
    go (yes many) = omega (arith, length_of_drop_line_le_31 i count (drop_of s order i addresses).answer.outcome a short b)
    go (no few) = omega (arith, length_of_drop_line_le_29 i count (drop_of s order i addresses).answer.outcome a short (lt_of_not-le few))

-- any call
length_of_call_line_le_10_times : (call : CallHeader) (s : State) (order : List ℕ) (count first : ℕ) (addresses : List ℕ)
    → s.setup.processors ≤ 8 → CallFits call count first
    → length (call_line call count (call_of s order (call_with call addresses)).answer.outcome) ≤ 10 * call_size call count
unfolding CallFits call_line call_of call_with call_size
length_of_call_line_le_10_times (header.Take i size) s order count first addresses h fit =
    omega (arith, length_of_take_line_le_32 s order i size fit.0 fit.1)
length_of_call_line_le_10_times (header.Free i address) s order count first addresses h fit =
    omega (arith, length_of_free_line_le_48 i address (free_of s order i address).answer.outcome)
length_of_call_line_le_10_times (header.NamedTake i m size) s order count first addresses h fit =
    omega (arith, length_of_named_take_line_le_48 i m size (named_take_of s order i m size).answer.outcome fit.0 fit.1 fit.2)
length_of_call_line_le_10_times (header.NamedFree i m) s order count first addresses h fit =
    omega (arith, length_of_named_free_line_le_32 s order i m fit.0 fit.1)
length_of_call_line_le_10_times (header.Drop i) s order count first addresses h fit =
    length_of_drop_line_le_10_times s order i count addresses h fit.0 fit.1

length_of_stop_line_le_33 : (number offset : ℕ) → length (stop_line number offset) ≤ 33
unfolding stop_line
length_of_stop_line_le_33 number offset = simp length-append (omega (arith, length_of_decimal_le_10 number, length_of_decimal_le_10 offset))

-- ---- the commands of a record of bytes
CommandFits : Command → Type 0
CommandFits (command.Setup processors superblocks spare p q) = (processors < 256) × (superblocks < 256) × (spare < 256) × (p < 256) × (q < 256)
CommandFits (command.Call call count first) = CallFits call count first
CommandFits (command.Refused number offset) = Unit {0}

CommandsFit : List Command → Type 0
CommandsFit [] = Unit {0}
CommandsFit (c ∷ commands) = CommandFits c × CommandsFit commands

module _ (r : List ℕ) (bytes : (i : ℕ) → byte_at r i < 256) where
  command_at_fits : (at : ℕ) (c : Command) → c ≡ command_at r at → CommandFits c
  unfolding CommandFits
  command_at_fits at (command.Setup processors superblocks spare p q) e =
      setup_fits r at (command.Setup processors superblocks spare p q) e bytes processors superblocks spare p q refl
  command_at_fits at (command.Call call count first) e = call_fits r at (command.Call call count first) e bytes call count first refl
  command_at_fits at (command.Refused number offset) e = tt

  commands_from_fit : (most at : ℕ) → CommandsFit (commands_from most r at)
  unfolding CommandsFit commands_from
  commands_from_fit zero at = tt
  commands_from_fit (suc most) at = (
    command_at_fits at (command_at r at) refl,
    pick_elim CommandsFit (either (is_refused (command_at r at)) (leb (length r) (at + size_of_command (command_at r at)))) [] _ (λ e. tt)
        (λ e. commands_from_fit most (at + size_of_command (command_at r at))),
  )

-- ---- the text of commands, from a state of at most 8 processors
length_of_text_of_le : (r : List ℕ) (before : After) (commands : List Command) → before.answer.state.setup.processors ≤ 8 → CommandsFit commands
    → length (text_of r before commands) ≤ 10 * bytes_in commands + 17540
unfolding text_of setup_text bytes_in size_of_command CommandsFit CommandFits
length_of_text_of_le r before [] h fit = let z = length_of_final_lines_le before.answer.state (omega arith) in omega arith
length_of_text_of_le r before (command.Setup processors superblocks spare p q ∷ commands) h fit =
    pick_elim (λ (l : List ℕ). length l ≤ 10 * (6 + bytes_in commands) + 17540) (eqb (number_of after.answer.outcome) 0) _ _
    (λ e. simp length-append
    (omega (
      arith,
      length_of_setup_line_le_26 u fit.0.0 fit.0.1 fit.0.2 fit.0.3 fit.0.4,
      length_of_text_of_le r after commands
          (processors_after_setup_le_8 u before.order) fit.1,
    )))
    (λ e. let z = length_of_stop_line_le_33 (number_of after.answer.outcome) 0 in omega arith)
  where
    u : Setup
    u = record { processors = processors; superblocks = superblocks; spare = spare; p = p; q = q }

    after : After
    after = setup_of u before.order
length_of_text_of_le r before (command.Call call count first ∷ commands) h fit =
    let addresses = addresses_in r first count in
    let s = before.answer.state in
    let after = call_of s before.order (call_with call addresses) in
    let kept = setup_kept_by_call s before.order (call_with call addresses) in
    let heaps : after.answer.state.setup.processors ≤ 8 = subst (λ (u : Setup). u.processors ≤ 8) (sym kept) h in
    simp length-append
    (omega (
      arith,
      length_of_call_line_le_10_times call s before.order count first addresses h fit.0,
      length_of_text_of_le r after commands heaps fit.1,
    ))
length_of_text_of_le r before (command.Refused number offset ∷ commands) h fit = let z = length_of_stop_line_le_33 number offset in omega arith

-- the key of every record of bytes, with any order storage, fits the room
pub key_fits_room : (r order : List ℕ) → ((i : ℕ) → byte_at r i < 256) → length (key_of r order) ≤ room
unfolding key_of commands_of
key_fits_room r order bytes =
    let all = length_of_text_of_le r (before_first order) (commands_of r) (omega arith) (commands_from_fit r bytes (suc (length r)) 0) in
    let most = bytes_in_commands_le_60000 r in
    omega arith
