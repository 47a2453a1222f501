-- `marks_count::live_count` meets its contract: the four counts of ones, each at most 64, add up to the set marks. Assumes nothing.
use Prim.Native.Nat.{ℕ, ◌≤◌}
use native.Mathlib.Omega.{arith}
use lib.ListN.{get_or}
use lib.Count.{ones, ones-le}
use mir.Val.{Fits}
use mir.Syntax.{w64}
use Rattle.marks_laws.proofs.MarkLaws.{live_count_is_ones_of_words}
use borrow.Author.Rules.{rules}
use Rattle.marks_count.proofs.live_count.Goals as goal

pub returns : goal.returns
returns c =
    let word_fits : (i : ℕ) → Fits w64 (get_or c.args.live i 0) = λ i. search rules in
    let word_ones_le_64 : (i : ℕ) → ones (get_or c.args.live i 0) ≤ 64 = λ i. ones-le 64 (get_or c.args.live i 0) (word_fits i).fits in (
      live_count_is_ones_of_words c.args.live (λ i. (word_fits i).fits),
      omega (arith, word_ones_le_64 0, word_ones_le_64 1, word_ones_le_64 2, word_ones_le_64 3),
    )
