-- `marks_count::tail` meets its contract: a 64-bit number moved down by 64 or more is 0. Assumes nothing.
use mathlib.Core.Path.{sym}
use native.Mathlib.Nat.{div-eq_of_lt, lt_of_lt_of_le}
use lib.Pow.{pow_mono}
use Rattle.marks_count.proofs.tail.Goals as goal

pub returns-else-m-lt-BITS_OF_WORD : goal.returns-else-m-lt-BITS_OF_WORD
returns-else-m-lt-BITS_OF_WORD c =
    rw (← c.saturating_sub-m.ensures) (sym (div-eq_of_lt (lt_of_lt_of_le c.ranges.w.fits (pow_mono {i = 64} c.if-m-lt-BITS_OF_WORD.false))))
