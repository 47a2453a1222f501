-- "The state handed in": the check of a state, clause by clause.
use Rattle.std.specs.Prelude.{ℕ, zero, suc, ◌-◌, ◌*◌, Bool, true, false, not, List, [], ◌∷◌, eqb, leb, ltb}
use Rattle.base_laws.specs.Sums.{pick, both, either, one, all_below}
use Rattle.base_laws.specs.Lists.{same_numbers}
use Rattle.class_rules.specs.Classes.{class_count, longest_run, blocks_of}
use Rattle.filled_rules.specs.FilledPlaces.{places_valid}
use Rattle.heap_rules.specs.declared.Superblock.{Superblock}
use Rattle.heap_rules.specs.declared.Setup.{Setup}
use Rattle.heap_rules.specs.declared.Totals.{Totals}
use Rattle.heap_rules.specs.declared.State.{State}
use Rattle.names_rules.specs.Names.{each_held, no_two_at_one}
use Rattle.heap_rules.specs.Table.{table_length, superblock_at, live_in, is_unused, is_of_run, is_live_block}
use Rattle.heap_rules.specs.Totals.{most_processors, recounted}
use Rattle.heap_rules.specs.Counts.{total}
use Rattle.heap_rules.specs.Ranks.{is_ranked}
use Rattle.move_rules.specs.Moves.{must_move}

-- a ≤ x ≤ b
abbrev pub within : ℕ → ℕ → ℕ → Bool
within a b x = both (leb a x) (leb x b)

-- "P 1 to 8, N 1 to 64, K 1 to 16, p 1 to q - 1, q 2 to 8"
unfoldable pub within_limits : Setup → Bool
within_limits u =
    both (within 1 most_processors u.processors)
    (both (within 1 table_length u.superblocks)
    (both (within 1 16 u.spare)
    (both (both (leb 1 u.p) (ltb u.p u.q))
    (within 2 8 u.q))))

-- "owner 254, class field 0, no marks"; the check "asks nothing of their order places" (document 02, item 7). That it has no rank is ranks_valid's
unfoldable pub is_part_of_run : Superblock → Bool
is_part_of_run b = both (is_of_run b) (both (eqb b.class 0) (eqb (live_in b) 0))

-- "of owner 0 to P and class 0 to 26; no mark at n or above; in an owned superblock the filled order places hold each unmarked block below n just
-- once"
unfoldable pub is_owned : Setup → List ℕ → ℕ → Superblock → Bool
is_owned u order k b = both (leb b.owner u.processors) (both (ltb b.class class_count) (places_valid order b.live k (blocks_of b.class)))

-- no heap owns the superblock: it is "unused as above", or part of a run
unfoldable pub is_unowned : Superblock → Bool
is_unowned b = either (is_unused b) (is_part_of_run b)

-- "each superblock unused as above, or of owner 0 to P ..", or part of a run
unfoldable pub superblock_valid : Setup → List ℕ → ℕ → Superblock → Bool
superblock_valid u order k b = either (is_unowned b) (is_owned u order k b)

-- "superblocks from N on unused"
unfoldable pub unused_from : ℕ → ℕ → Superblock → Bool
unused_from n k b = either (ltb k n) (is_unused b)

-- the emptiness invariant of the processor heaps: "no processor heap and class meets both conditions of the move rule"
unfoldable pub emptiness_invariant : State → Bool
emptiness_invariant s = all_below (λ i. all_below (λ c. not (must_move (suc i) c s)) class_count) s.setup.processors

-- "each superblock of heap 0 has q × live < (q - p) × n"
unfoldable pub sparse_if_global : Setup → Superblock → Bool
sparse_if_global u b = either (not (eqb b.owner 0)) (ltb (u.q * live_in b) ((u.q - u.p) * blocks_of b.class))

-- "each held name points at a live block, no two at one" (document 02, item 2)
unfoldable pub names_valid : State → Bool
names_valid s = both (each_held (is_live_block s) s.names) (no_two_at_one s.names)

-- the totals are equal
unfoldable pub same_totals : Totals → Totals → Bool
same_totals t r = both (same_numbers t.superblocks r.superblocks) (same_numbers t.live r.live)

-- "the state check adds this equality to 13's conditions" (document 02, item 3): the totals kept are the recount
unfoldable pub totals_valid : State → Bool
totals_valid s = same_totals s.totals (recounted s.table)

-- how many superblocks are ranked, and how many carry rank r
unfoldable pub ranked_count : State → ℕ
ranked_count s = total (λ b. one (is_ranked b)) s.table

unfoldable pub carrying : ℕ → State → ℕ
carrying r s = total (λ b. one (eqb b.rank r)) s.table

-- "the ranked ones carry 1 (latest) upwards, each once without a gap, the rest 0, unused ones too, and the state check tests this" (document 02,
-- item 4): each number from 1 to as many as are ranked is carried by one superblock, and neither an unused one nor one of a run ("no rank", item 7)
-- is ranked
unfoldable pub ranks_valid : State → Bool
ranks_valid s =
    both (all_below (λ r. eqb (carrying (suc r) s) 1) (ranked_count s))
    (all_below (λ k. not (both (is_unowned (superblock_at s k)) (is_ranked (superblock_at s k)))) table_length)

-- "The first carries the run's length, every other superblock 0. The state check tests .. that runs are whole and at most 16 long" (document 02,
-- item 7): the superblocks of a table from one on, read in order, where so many of a run are still to come. Behind the last of a run begins
-- another, or there is none; a run is not whole where the table ends before it does
unfoldable pub runs_whole : ℕ → List Superblock → Bool
runs_whole zero [] = true
runs_whole (suc left) [] = false
runs_whole zero (b ∷ table) = pick (is_of_run b) (both (within 1 longest_run b.run) (runs_whole (b.run - 1) table)) (both (eqb b.run 0) (runs_whole 0 table))
runs_whole (suc left) (b ∷ table) = both (is_of_run b) (both (eqb b.run 0) (runs_whole left table))

-- all of a state's; "all below N" with that, since superblocks from N on are unused
unfoldable pub runs_valid : State → Bool
runs_valid s = runs_whole 0 s.table

-- all but the setup numbers
unfoldable pub rest_valid : State → List ℕ → Bool
rest_valid s order =
    both (all_below (λ k. superblock_valid s.setup order k (superblock_at s k)) table_length)
    (both (all_below (λ k. unused_from s.setup.superblocks k (superblock_at s k)) table_length)
    (both (emptiness_invariant s)
    (both (all_below (λ k. sparse_if_global s.setup (superblock_at s k)) table_length)
    (both (names_valid s)
    (both (totals_valid s)
    (both (ranks_valid s)
    (runs_valid s)))))))

-- the whole check
unfoldable pub passes : State → List ℕ → Bool
passes s order = both (within_limits s.setup) (rest_valid s order)
