-- How long an answer's text is at most. A number that is no index may be any: a field of it has at most 10 digits, or 20. Assumes nothing.
use mathlib.Core.Bool.{Bool, true, false}
use mathlib.Core.List.{List, []}
use Prim.Native.Nat.{ℕ, zero, suc, ◌*◌, ◌/◌, ◌%◌, ◌≤◌, ◌<◌, zero-le, min}
use native.Mathlib.Omega.{arith}
use lib.ListN.{length, length-append, get_or}
use lib.Dec.{eqb}
use Rattle.base_laws.specs.Sums.{pick, both}
use Rattle.class_rules.specs.Classes.{class_count}
use Rattle.text_rules.proofs.DigitLaws.{length_of_digits_le_most, length_of_digits_le_of_lt_pow, length_of_decimal_le_10, length_of_byte_decimal_le_3}
use Rattle.text_rules.proofs.DigitLaws.{length_of_u16_decimal_le_5}
use Rattle.names_rules.specs.Names.{not_held}
use Rattle.heap_rules.specs.declared.Setup.{Setup}
use Rattle.heap_rules.specs.declared.Superblock.{Superblock}
use Rattle.heap_rules.specs.declared.Totals.{Totals}
use Rattle.heap_rules.specs.declared.State.{State}
use Rattle.heap_rules.specs.Totals.{total_count}
use Rattle.call_rules.specs.declared.Outcome.{Outcome}
use Rattle.call_rules.specs.declared.Outcome.TheVariants.{Ready, Address, Moves, Refused}
use Rattle.line_rules.specs.Lines.{setup_line}
use Rattle.answer_rules.specs.AnswerLines.{wide_decimal, texts_below, outcome_line, is_as_new, marks_fields, superblock_line, superblock_line_if}
use Rattle.answer_rules.specs.AnswerLines.{superblock_lines, name_line, name_line_if, name_lines, total_line, total_line_if, total_lines, place_line}
use Rattle.answer_rules.specs.AnswerLines.{place_line_if, place_lines, answer_text, answer_room}
-- the computed cases come first: a wrong definition fails there
use Rattle.answer_rules.proofs.AnswerCases as cases

length_of_wide_decimal_le_20 : (n : ℕ) → length (wide_decimal n) ≤ 20
unfolding wide_decimal
length_of_wide_decimal_le_20 n = length_of_digits_le_most 20 n

length_of_wide_u16_le_5 : (n : ℕ) → n < 65536 → length (wide_decimal n) ≤ 5
unfolding wide_decimal
length_of_wide_u16_le_5 n h = length_of_digits_le_of_lt_pow 20 5 n (omega arith) (omega arith)

-- where none of the texts is longer than m
length_of_texts_below_le : (text : ℕ → List ℕ) (m n : ℕ) → ((k : ℕ) → k < n → length (text k) ≤ m) → length (texts_below text n) ≤ n * m
unfolding texts_below
length_of_texts_below_le text m zero each = zero-le
length_of_texts_below_le text m (suc n) each =
    let rest = length_of_texts_below_le text m n (λ k h. each k (omega arith)) in
    let last = each n (omega arith) in
    simp length-append (omega arith)

-- a line that there may be
length_of_line_if_le : (none : Bool) (line : List ℕ) (m : ℕ) → length line ≤ m → length (pick none [] line) ≤ m
length_of_line_if_le true line m h = zero-le
length_of_line_if_le false line m h = h

length_of_outcome_line_le_19 : (o : Outcome) → length (outcome_line o) ≤ 19
unfolding outcome_line
length_of_outcome_line_le_19 Ready = omega arith
length_of_outcome_line_le_19 (Address a) = simp length-append (omega (arith, length_of_decimal_le_10 a))
length_of_outcome_line_le_19 (Moves m) = simp length-append (omega (arith, length_of_decimal_le_10 m))
length_of_outcome_line_le_19 (Refused r) = simp length-append (omega (arith, length_of_decimal_le_10 r))

length_of_any_setup_line_le_61 : (u : Setup) → length (setup_line u) ≤ 61
unfolding setup_line
length_of_any_setup_line_le_61 u =
    simp length-append (omega (
      arith,
      length_of_decimal_le_10 u.processors,
      length_of_decimal_le_10 u.superblocks,
      length_of_decimal_le_10 u.spare,
      length_of_decimal_le_10 u.p,
      length_of_decimal_le_10 u.q,
    ))

-- ---- superblocks
length_of_marks_fields_le_89 : (live : List ℕ) → length (marks_fields live) ≤ 89
unfolding marks_fields
length_of_marks_fields_le_89 live =
    simp length-append (omega (
      arith,
      length_of_wide_decimal_le_20 (get_or live 0 0),
      length_of_wide_decimal_le_20 (get_or live 1 0),
      length_of_wide_decimal_le_20 (get_or live 2 0),
      length_of_wide_decimal_le_20 (get_or live 3 0),
    ))

length_of_superblock_line_le_169 : (k : ℕ) (b : Superblock) → k < 256 → length (superblock_line k b) ≤ 169
unfolding superblock_line
length_of_superblock_line_le_169 k b h =
    simp length-append (omega (
      arith,
      length_of_byte_decimal_le_3 k h,
      length_of_decimal_le_10 b.owner,
      length_of_decimal_le_10 b.class,
      length_of_marks_fields_le_89 b.live,
      length_of_decimal_le_10 b.rank,
      length_of_decimal_le_10 b.run,
    ))

length_of_superblock_line_if_le_169 : (k : ℕ) (b : Superblock) → k < 256 → length (superblock_line_if k b) ≤ 169
unfolding superblock_line_if
length_of_superblock_line_if_le_169 k b h = length_of_line_if_le (is_as_new b) (superblock_line k b) 169 (length_of_superblock_line_le_169 k b h)

length_of_superblock_lines_le : (table : List Superblock) → length table ≤ 65 → length (superblock_lines table) ≤ length table * 169
unfolding superblock_lines
length_of_superblock_lines_le table few = length_of_texts_below_le _ 169 (length table) (λ k h. length_of_superblock_line_if_le_169 k _ (omega arith))

-- ---- names
length_of_name_line_le_43 : (m number : ℕ) → m < 65536 → length (name_line m number) ≤ 43
unfolding name_line
length_of_name_line_le_43 m number h =
    simp length-append (omega (
      arith,
      length_of_u16_decimal_le_5 m h,
      length_of_decimal_le_10 (number / 256),
      length_of_byte_decimal_le_3 (number % 256)
          (omega arith),
    ))

length_of_name_line_if_le_43 : (m number : ℕ) → m < 65536 → length (name_line_if m number) ≤ 43
unfolding name_line_if
length_of_name_line_if_le_43 m number h = length_of_line_if_le (eqb number not_held) (name_line m number) 43 (length_of_name_line_le_43 m number h)

length_of_name_lines_le : (names : List ℕ) → length (name_lines names) ≤ 1024 * 43
unfolding name_lines
length_of_name_lines_le names = length_of_texts_below_le _ 43 1024 (λ m h. length_of_name_line_if_le_43 m _ (omega arith))

-- ---- totals
length_of_total_line_le_64 : (h c superblocks live : ℕ) → h < 256 → c < 256 → length (total_line h c superblocks live) ≤ 64
unfolding total_line
length_of_total_line_le_64 h c superblocks live a b =
    simp length-append (omega (
      arith,
      length_of_byte_decimal_le_3 h a,
      length_of_byte_decimal_le_3 c b,
      length_of_decimal_le_10 superblocks,
      length_of_decimal_le_10 live,
    ))

length_of_total_line_if_le_64 : (x superblocks live : ℕ) → x < 256 → length (total_line_if x superblocks live) ≤ 64
unfolding total_line_if
length_of_total_line_if_le_64 x superblocks live h =
    length_of_line_if_le (both (eqb superblocks 0) (eqb live 0)) (total_line (x / class_count) (x % class_count) superblocks live) 64
    (length_of_total_line_le_64 (x / class_count) (x % class_count) superblocks live (omega arith) (omega arith))

length_of_total_lines_le : (t : Totals) → length (total_lines t) ≤ total_count * 64
unfolding total_lines
length_of_total_lines_le t = length_of_texts_below_le _ 64 total_count (λ x h. length_of_total_line_if_le_64 x _ _ (omega arith))

-- ---- order places
length_of_place_line_le_23 : (i number : ℕ) → i < 65536 → length (place_line i number) ≤ 23
unfolding place_line
length_of_place_line_le_23 i number h = simp length-append (omega (arith, length_of_wide_u16_le_5 i h, length_of_decimal_le_10 number))

length_of_place_line_if_le_23 : (i old new : ℕ) → i < 65536 → length (place_line_if i old new) ≤ 23
unfolding place_line_if
length_of_place_line_if_le_23 i old new h = length_of_line_if_le (eqb old new) (place_line i new) 23 (length_of_place_line_le_23 i new h)

-- as many as there are of both: so many may be lent to the program `call`
length_of_place_lines_le : (before after : List ℕ) → length after ≤ 17000 → length (place_lines before after) ≤ 17000 * 23
unfolding place_lines
length_of_place_lines_le before after few =
    let each : length (place_lines before after) ≤ min (length before) (length after) * 23 =
    length_of_texts_below_le _ 23 _ (λ i h. length_of_place_line_if_le_23 i _ _ (omega arith)) in
    omega arith

-- ---- the text of a call on at most 65 superblocks, with at most 17000 places, fits the room
pub answer_fits_room : (outcome : Outcome) (s : State) (before after : List ℕ) → length s.table ≤ 65 → length after ≤ 17000
    → length (answer_text outcome s before after) ≤ answer_room
unfolding answer_text
answer_fits_room outcome s before after superblocks places =
    let first = length_of_outcome_line_le_19 outcome in
    let setup = length_of_any_setup_line_le_61 s.setup in
    let table = length_of_superblock_lines_le s.table superblocks in
    let names = length_of_name_lines_le s.names in
    let totals = length_of_total_lines_le s.totals in
    let changed = length_of_place_lines_le before after places in
    simp length-append (omega arith)
