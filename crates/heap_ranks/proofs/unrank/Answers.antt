use mathlib.Core.Path.{ap, ◌∙◌}
use Prim.Native.Nat.{◌<◌}
use native.Mathlib.Omega.{arith}
use Rattle.std.proofs.lemmas.List.{set-get_or}
use Rattle.base_laws.proofs.ReplacedElement.{length_of_length_map}
use Rattle.heap_ranks.proofs.RankingLaws.{with_table, one_ahead, not_ahead, unranked_end, unranked_of_not_ranked, unranked_past_table}
use Rattle.heap_ranks.proofs.unrank.Goals as goal
use Rattle.heap_ranks.proofs.unrank.Goals.{then-was-b, else-was-b, then-k-ge-TABLE_LENGTH-via-then-k-ge-TABLE_LENGTH as past}
use Rattle.heap_ranks.proofs.unrank.Goals.{then-k-ge-TABLE_LENGTH-via-else-k-ge-TABLE_LENGTH+then-s-k-eq0 as not_ranked}

pub returns-then-k-ge-TABLE_LENGTH : goal.returns-then-k-ge-TABLE_LENGTH
returns-then-k-ge-TABLE_LENGTH c =
    elim c.then-k-ge-TABLE_LENGTH.branch [
      | past w ↦ search (unranked_past_table, length_of_length_map)
      | not_ranked w ↦ search (unranked_of_not_ranked, length_of_length_map)
    ]

pub loop-b-preserved : goal.loop-b-preserved
loop-b-preserved c =
    let h : c.loop-b.b-index < 64 = omega (arith, c.loop-b.invariant.long) in
    let before = c.loop-b.invariant in
    elim c.if-was-b.branch [
      | then-was-b w ↦ one_ahead _ _ _ _ _ before h c.if-s-k-eq0.false w.if-was-b.true (ap (with_table c.args.s) w.b-items-is)
      | else-was-b w ↦ not_ahead _ _ _ _ _ before h c.if-s-k-eq0.false w.if-was-b.false (ap (with_table c.args.s) (w.b-items-is ∙ set-get_or _ _ _))
    ]

pub returns : goal.returns
returns c = unranked_end _ _ _ _ c.loop-b.invariant (omega (arith, c.loop-b.invariant.long)) (omega arith)
