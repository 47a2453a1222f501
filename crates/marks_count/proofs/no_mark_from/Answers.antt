-- `marks_count::no_mark_from` meets its contract: the four tails are all 0 just where no mark stands at n or above. Assumes nothing.
use Prim.Native.Nat.{ℕ}
use lib.ListN.{get_or}
use mir.Val.{Fits}
use mir.Syntax.{w64}
use Rattle.marks_laws.proofs.NoMarkFromLaws.{no_mark_from_is_shifted_or_zero}
use borrow.Author.Rules.{rules}
use Rattle.marks_count.proofs.no_mark_from.Goals as goal

pub returns : goal.returns
returns c =
    let word_fits : (i : ℕ) → Fits w64 (get_or c.args.live i 0) = λ i. search rules in
    no_mark_from_is_shifted_or_zero c.args.live c.args.n (λ i. (word_fits i).fits) c.tail-a.result c.tail-b.result c.tail-c.result c.tail-d.result
    c.tail-a.ensures c.tail-b.ensures c.tail-c.ensures c.tail-d.ensures
