-- A superblock acquired and a block taken from it, step by step as the code goes. Assumes nothing.
use mathlib.Core.Path.{◌≡◌, sym, ◌∙◌, subst}
use mathlib.Core.List.{List}
use Prim.Native.Nat.{ℕ}
use lib.Dec.{eqb}
use Rattle.base_laws.proofs.TestLaws.{pick_elim}
use Rattle.heap_rules.specs.declared.State.{State}
use Rattle.heap_rules.specs.Table.{superblock_at, live_in}
use Rattle.heap_rules.specs.Totals.{TotalsKept}
use Rattle.heap_rules.specs.States.{with_superblock}
use Rattle.heap_rules.specs.Ranks.{rank_after_renewal, unranked}
use Rattle.heap_laws.proofs.RerankedLaws.{reranked_totals_kept}
use Rattle.call_rules.specs.declared.Answer.{Answer}
use Rattle.call_rules.specs.Answers.{After}
use Rattle.call_rules.specs.Take.{acquired, acquired_order, unranked_if_empty, taken_from, taken_from_other}

-- a superblock that leaves the ranking changes no total
pub unranked_if_empty_keeps_totals : (s t : State) (k : ℕ) → TotalsKept s → t ≡ unranked_if_empty k s → TotalsKept t
unfolding unranked_if_empty unranked
unranked_if_empty_keeps_totals s t k kept e =
    subst TotalsKept (sym e)
    (pick_elim TotalsKept (eqb (live_in (superblock_at s k)) 0) (unranked k s) s (λ q. reranked_totals_kept (rank_after_renewal k s.table) s kept)
    (λ q. kept))

-- what is taken from superblock k once a heap acquired it
pub taken_from_other_by_steps : (heap class k i : ℕ) (s : State) (order left : List ℕ) (t : State) (r : Answer) → i ≡ k
    → left ≡ acquired_order class k (superblock_at s i) order → t ≡ with_superblock (unranked_if_empty i s) i (acquired heap class (superblock_at s i))
    → ◌≡◌ {A = After} (record { answer = r; order = left }) (taken_from k t left)
    → ◌≡◌ {A = After} (record { answer = r; order = left }) (taken_from_other heap class k s order)
unfolding taken_from_other
taken_from_other_by_steps heap class k i s order left t r ei eo et e = e ∙ rw (et, eo, ei)
