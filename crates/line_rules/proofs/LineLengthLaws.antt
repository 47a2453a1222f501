-- How long the lines are at most, where each number fits its type. Assumes nothing.
use mathlib.Core.Bool.{Bool, true, false}
use mathlib.Core.List.{[]}
use Prim.Native.Nat.{ℕ, zero, suc, ◌+◌, ◌*◌, ◌≤◌, ◌<◌, zero-le}
use native.Mathlib.Omega.{arith}
use lib.ListN.{length, length-append}
use lib.Dec.{eqb}
use Rattle.base_laws.specs.Sums.{pick}
use Rattle.text_rules.specs.Text.{decimal}
use Rattle.text_rules.proofs.DigitLaws.{length_of_digits_le_of_lt_pow, length_of_decimal_le_10, length_of_byte_decimal_le_3, length_of_u16_decimal_le_5}
use Rattle.heap_rules.specs.declared.Setup.{Setup}
use Rattle.heap_rules.specs.declared.State.{State}
use Rattle.heap_rules.specs.Table.{superblock_at, starts_run}
use Rattle.heap_rules.specs.Counts.{superblocks_of, live_of}
use Rattle.call_rules.specs.declared.Outcome.{Outcome}
use Rattle.line_rules.specs.Lines.{setup_line, result, named_take_line, named_free_line, drop_line, heap_line, heap_line_if, class_lines, heap_lines, run_line}
use Rattle.line_rules.specs.Lines.{run_line_if, run_lines, final_lines}
-- the computed cases come first: a wrong definition fails there
use Rattle.line_rules.proofs.LineCases as cases

pub length_of_setup_line_le_26 : (u : Setup) → u.processors < 256 → u.superblocks < 256 → u.spare < 256 → u.p < 256 → u.q < 256 → length (setup_line u) ≤ 26
unfolding setup_line
length_of_setup_line_le_26 u a b c d e =
    simp length-append (omega (
      arith,
      length_of_byte_decimal_le_3 u.processors a,
      length_of_byte_decimal_le_3 u.superblocks b,
      length_of_byte_decimal_le_3 u.spare c,
      length_of_byte_decimal_le_3 u.p d,
      length_of_byte_decimal_le_3 u.q e,
    ))

-- a call by name, of any outcome
module _ (processor name : ℕ) (o : Outcome) (a : processor < 256) (b : name < 65536) where
  pub length_of_named_take_line_le : (size : ℕ) → size < 65536 → length (named_take_line processor name size o) ≤ 26 + length (result o)
  unfolding named_take_line
  length_of_named_take_line_le size h =
      simp length-append (omega (arith, length_of_byte_decimal_le_3 processor a, length_of_u16_decimal_le_5 name b, length_of_u16_decimal_le_5 size h))

  pub length_of_named_free_line_le : length (named_free_line processor name o) ≤ 20 + length (result o)
  unfolding named_free_line
  length_of_named_free_line_le = simp length-append (omega (arith, length_of_byte_decimal_le_3 processor a, length_of_u16_decimal_le_5 name b))

-- a drop, of a result that is no address
length_of_digit_decimal_le_1 : (n : ℕ) → n < 10 → length (decimal n) ≤ 1
unfolding decimal
length_of_digit_decimal_le_1 n h = length_of_digits_le_of_lt_pow 10 1 n (omega arith) (omega arith)

module _ (processor count : ℕ) (o : Outcome) (a : processor < 256) (short : length (result o) ≤ 12) where
  pub length_of_drop_line_le_31 : count < 256 → length (drop_line processor count o) ≤ 31
  unfolding drop_line
  length_of_drop_line_le_31 b = simp length-append (omega (arith, length_of_byte_decimal_le_3 processor a, length_of_byte_decimal_le_3 count b))

  pub length_of_drop_line_le_29 : count < 10 → length (drop_line processor count o) ≤ 29
  unfolding drop_line
  length_of_drop_line_le_29 b = simp length-append (omega (arith, length_of_byte_decimal_le_3 processor a, length_of_digit_decimal_le_1 count b))

pub length_of_heap_line_le_64 : (h c superblocks live : ℕ) → h < 256 → c < 256 → length (heap_line h c superblocks live) ≤ 64
unfolding heap_line
length_of_heap_line_le_64 h c superblocks live a b =
    simp length-append (omega (
      arith,
      length_of_byte_decimal_le_3 h a,
      length_of_byte_decimal_le_3 c b,
      length_of_decimal_le_10 superblocks,
      length_of_decimal_le_10 live,
    ))

length_of_heap_line_if_le_64 : (h c : ℕ) (s : State) → h < 256 → c < 256 → length (heap_line_if h c s) ≤ 64
unfolding heap_line_if
length_of_heap_line_if_le_64 h c s a b = go (eqb (superblocks_of h c s) 0)
  where
    go : (t : Bool) → length (pick t [] (heap_line h c (superblocks_of h c s) (live_of h c s))) ≤ 64
    go true = zero-le
    go false = length_of_heap_line_le_64 h c (superblocks_of h c s) (live_of h c s) a b

length_of_class_lines_le : (h c : ℕ) (s : State) → h < 256 → c ≤ 256 → length (class_lines h c s) ≤ c * 64
unfolding class_lines
length_of_class_lines_le h zero s a b = zero-le
length_of_class_lines_le h (suc c) s a b =
    simp length-append (omega (arith, length_of_class_lines_le h c s a (omega arith), length_of_heap_line_if_le_64 h c s a (omega arith)))

length_of_heap_lines_le : (h : ℕ) (s : State) → h ≤ 256 → length (heap_lines h s) ≤ h * (27 * 64)
unfolding heap_lines
length_of_heap_lines_le zero s a = zero-le
length_of_heap_lines_le (suc h) s a =
    simp length-append (omega (arith, length_of_heap_lines_le h s (omega arith), length_of_class_lines_le h 27 s (omega arith) (omega arith)))

pub length_of_run_line_le_31 : (first n : ℕ) → first < 256 → length (run_line first n) ≤ 31
unfolding run_line
length_of_run_line_le_31 first n a = simp length-append (omega (arith, length_of_byte_decimal_le_3 first a, length_of_decimal_le_10 n))

length_of_run_line_if_le_31 : (k : ℕ) (s : State) → k < 256 → length (run_line_if k s) ≤ 31
unfolding run_line_if
length_of_run_line_if_le_31 k s a = go (starts_run (superblock_at s k))
  where
    go : (t : Bool) → length (pick t (run_line k (superblock_at s k).run) []) ≤ 31
    go true = length_of_run_line_le_31 k (superblock_at s k).run a
    go false = zero-le

length_of_run_lines_le : (k : ℕ) (s : State) → k ≤ 256 → length (run_lines k s) ≤ k * 31
unfolding run_lines
length_of_run_lines_le zero s a = zero-le
length_of_run_lines_le (suc k) s a = simp length-append (omega (arith, length_of_run_lines_le k s (omega arith), length_of_run_line_if_le_31 k s (omega arith)))

pub length_of_final_lines_le : (s : State) → s.setup.processors < 256 → length (final_lines s) ≤ (s.setup.processors + 1) * (27 * 64) + 64 * 31 + 4
unfolding final_lines
length_of_final_lines_le s a =
    simp length-append (omega (arith, length_of_heap_lines_le (suc s.setup.processors) s (omega arith), length_of_run_lines_le 64 s (omega arith)))
