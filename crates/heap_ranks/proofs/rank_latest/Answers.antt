use mathlib.Core.Path.{ap, ◌∙◌}
use mathlib.Core.Logic.{inl, inr}
use Prim.Native.Nat.{◌<◌}
use native.Mathlib.Omega.{arith}
use Rattle.std.proofs.lemmas.List.{set-get_or}
use Rattle.heap_ranks.proofs.RankingLaws.{EndsAhead, with_table, one_back, unranked_not_back, behind_not_back, ranked_latest_end}
use Rattle.heap_ranks.proofs.rank_latest.Goals as goal
use Rattle.heap_ranks.proofs.rank_latest.Goals.{then-was-eq0, else-was-eq0, then-b-gt0+then-b-behind, else-b-gt0}
use Rattle.heap_ranks.proofs.rank_latest.Goals.{else-b-gt0-via-then-b-gt0+else-b-behind, else-b-gt0-via-else-b-gt0}

pub loop-b-preserved : goal.loop-b-preserved
loop-b-preserved c =
    let h : c.loop-b.b-index < 64 = omega (arith, c.loop-b.invariant.long) in
    let before = c.loop-b.invariant in
    let fit = c.requires.1 in
    let ends : EndsAhead _ _ =
    elim c.if-was-eq0.branch [ then-was-eq0 w ↦ inl (w.if-was-eq0.true, w.behind-is) | else-was-eq0 w ↦ inr (w.if-was-eq0.false, w.behind-is) ] in
    elim c.if-b-gt0.branch [
      | then-b-gt0+then-b-behind w ↦
          one_back _ _ _ _ _ _ before h fit ends w.if-b-gt0.true w.if-b-behind.true (ap (with_table c.args.s) w.b-items-is)
      | else-b-gt0 w ↦
          elim w.else-b-gt0.branch [
            | else-b-gt0-via-then-b-gt0+else-b-behind u ↦
                behind_not_back _ _ _ _ _ _ before h fit ends u.if-b-behind.false (ap (with_table c.args.s) (w.b-items-is ∙ u.b-items-is ∙ set-get_or _ _ _))
            | else-b-gt0-via-else-b-gt0 u ↦
                unranked_not_back _ _ _ _ _ _ before h fit ends u.if-b-gt0.false (ap (with_table c.args.s) (w.b-items-is ∙ u.b-items-is ∙ set-get_or _ _ _))
          ]
    ]

pub returns : goal.returns
returns c = ranked_latest_end _ _ _ _ c.loop-b.invariant (omega (arith, c.loop-b.invariant.long)) c.requires.0
