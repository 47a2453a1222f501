-- A free, step by step as the code goes. Assumes nothing.
use mathlib.Core.Path.{◌≡◌, refl, sym, subst}
use mathlib.Core.Bool.{Bool, true, false}
use mathlib.Core.List.{List}
use Prim.Native.Nat.{ℕ, ◌/◌}
use Rattle.base_laws.specs.Sums.{pick}
use Rattle.names_rules.specs.Names.{without_block}
use Rattle.heap_rules.specs.declared.State.{State}
use Rattle.heap_rules.specs.States.{with_names}
use Rattle.heap_rules.specs.Totals.{TotalsKept}
use Rattle.heap_rules.specs.Ranks.{rank_after_free, ranked_latest}
use Rattle.heap_laws.proofs.RerankedLaws.{reranked_totals_kept}
use Rattle.call_rules.specs.LongBlocks.{run_freed}
use Rattle.call_rules.specs.Free.{superblock_holding, is_in_run, mark_cleared, block_number_at, small_block_freed, long_block_freed, block_freed}

-- a superblock in front of the ranking changes no total
pub ranked_latest_keeps_totals : (k : ℕ) (s t : State) → TotalsKept s → t ≡ ranked_latest k s → TotalsKept t
unfolding ranked_latest
ranked_latest_keeps_totals k s t kept e = subst TotalsKept (sym e) (reranked_totals_kept (rank_after_free k s.table) s kept)

-- the block, or its run, freed, the names aside
abbrev BlockOrRunFreed : State → ℕ → State
BlockOrRunFreed s a = pick (is_in_run s a) (run_freed (a / 4096) (superblock_holding s a).run s) (mark_cleared (ranked_latest (a / 4096) s) a)

-- and the block's name let go
pub block_freed_by_steps : (s t : State) (a block : ℕ) (names : List ℕ) → block ≡ block_number_at s a → names ≡ without_block s.names block
    → t ≡ BlockOrRunFreed s a → with_names t names ≡ block_freed s a
unfolding block_freed long_block_freed small_block_freed
block_freed_by_steps s t a block names eb en et =
    rw (et, en, eb) (go (is_in_run s a) (run_freed (a / 4096) (superblock_holding s a).run s) (mark_cleared (ranked_latest (a / 4096) s) a))
  where
    go : (x : Bool) (long small : State) → with_names (pick x long small) (without_block s.names (block_number_at s a))
        ≡ pick x (with_names long (without_block s.names (block_number_at s a))) (with_names small (without_block s.names (block_number_at s a)))
    go true long small = refl
    go false long small = refl
