-- The rest of the check as the code goes: each superblock alone, the totals and the emptiness invariant by one recount, the names, the
-- ranks and the runs. Assumes nothing.
use mathlib.Core.Path.{◌≡◌, refl, sym, ap, ◌∙◌}
use mathlib.Core.Bool.{Bool, true, false}
use mathlib.Core.List.{List}
use Prim.Native.Nat.{ℕ, ◌<◌}
use Rattle.base_laws.specs.Sums.{both, all_below}
use Rattle.base_laws.proofs.SumLaws.{all_both}
use Rattle.heap_rules.specs.declared.State.{State}
use Rattle.heap_rules.specs.Table.{superblock_at}
use Rattle.heap_rules.specs.Totals.{heap_count}
use Rattle.check_rules.specs.Check.{superblock_valid, unused_from, sparse_if_global, emptiness_invariant, names_valid, totals_valid}
use Rattle.check_rules.specs.Check.{ranks_valid, runs_whole, runs_valid, rest_valid}
use Rattle.check_superblock.specs.Alone.{alone_valid, each_valid}
use Rattle.check_invariant.proofs.EmptinessInvariantLaws.{totals_invariant_of_recount}
use Rattle.check_state.specs.FirstRefusal.{counts_valid}

-- the clauses in the code's order
rest_valid_by_clauses : (s : State) (order : List ℕ) → rest_valid s order ≡ both (each_valid s.setup s.table order)
    (both (both (totals_valid s) (emptiness_invariant s)) (both (names_valid s) (both (ranks_valid s) (runs_valid s))))
unfolding rest_valid each_valid alone_valid
rest_valid_by_clauses s order =
    sym
    (ap (λ (t : Bool). both t (both (both (totals_valid s) (emptiness_invariant s)) (both (names_valid s) (both (ranks_valid s) (runs_valid s)))))
    (all_both good (λ k. both (past k) (thin k)) 64 ∙ ap (both (all_below good 64)) (all_both past thin 64))
    ∙ regroup (all_below good 64) (all_below past 64) (emptiness_invariant s) (all_below thin 64) (names_valid s) (totals_valid s)
    (both (ranks_valid s) (runs_valid s)))
  where
    good : ℕ → Bool
    good k = superblock_valid s.setup order k (superblock_at s k)

    past : ℕ → Bool
    past k = unused_from s.setup.superblocks k (superblock_at s k)

    thin : ℕ → Bool
    thin k = sparse_if_global s.setup (superblock_at s k)

    regroup : (a b h d n t r : Bool) → both (both a (both b d)) (both (both t h) (both n r)) ≡ both a (both b (both h (both d (both n (both t r)))))
    regroup false b h d n t r = refl
    regroup true false h d n t r = refl
    regroup true true true true n true r = refl
    regroup true true false true n true r = refl
    regroup true true false true n false r = refl
    regroup true true true true true false r = refl
    regroup true true true true false false r = refl
    regroup true true false false n t r = refl
    regroup true true true false n t r = refl

-- the same by what the code asks, where totals are kept of all the processors' heaps
pub rest_valid_by_parts : (s : State) (order : List ℕ) → s.setup.processors < heap_count → rest_valid s order
    ≡ both (each_valid s.setup s.table order) (both (counts_valid s) (both (names_valid s) (both (ranks_valid s) (runs_whole 0 s.table))))
unfolding totals_valid runs_valid
rest_valid_by_parts s order h = rw (rest_valid_by_clauses s order, totals_invariant_of_recount s h)
