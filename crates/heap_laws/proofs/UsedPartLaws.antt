-- The check of a state whose superblocks from N on are as a new state has them: what it asks of the first N alone. Most of what a computed case of the
-- check costs is the live counts of unused superblocks, so that cases go by this. Assumes nothing.
use mathlib.Core.Path.{◌≡◌, sym, ap, ◌∙◌, subst}
use mathlib.Core.Bool.{Bool, not}
use mathlib.Core.List.{List, [], ◌∷◌, ◌++◌}
use Prim.Native.Nat.{ℕ, zero, suc, ◌+◌, ◌-◌, ◌*◌, ◌≤◌, ◌<◌}
use native.Mathlib.Decide.{dec_lt}
use native.Mathlib.Omega.{arith}
use lib.ListN.{length, take, get_or, replicate, length-append, length-take, length-replicate, get_or-replicate}
use lib.Dec.{T, eqb, ltb, lt→ltb}
use Rattle.base_laws.specs.Sums.{both, sum_below, all_below}
use Rattle.base_laws.proofs.TestLaws.{T_of_true, both_left, both_right, both_make, both_false_right, either_left, either_right}
use Rattle.base_laws.proofs.SumLaws.{sum_split, sum_of_zeros, all_at, all_of_each, all_cong}
use Rattle.class_rules.specs.Classes.{class_count, blocks_of}
use Rattle.heap_rules.specs.declared.Superblock.{Superblock}
use Rattle.heap_rules.specs.declared.State.{State}
use Rattle.heap_rules.specs.Table.{run_owner, unused_owner, blank, unused, superblock_at, is_unused}
use Rattle.heap_rules.specs.Counts.{total, one_if_belongs, live_if_belongs, superblocks_of, live_of, blocks_in}
use Rattle.heap_rules.specs.Ranks.{is_ranked}
use Rattle.heap_rules.specs.Totals.{TotalsKept}
use Rattle.move_rules.specs.Moves.{both_conditions, must_move}
use Rattle.check_rules.specs.Check.{within_limits, is_unowned, superblock_valid, unused_from, emptiness_invariant, sparse_if_global, names_valid}
use Rattle.check_rules.specs.Check.{ranked_count, carrying, ranks_valid, runs_valid, rest_valid}
use Rattle.check_rules.proofs.CheckDefinitions.{check_definitions}
use Rattle.check_rules.proofs.ClauseLaws.{rest_of_clauses}
use Rattle.heap_laws.proofs.TotalsLaws.{totals_valid_of_kept}
use Rattle.heap_laws.proofs.CountLaws.{one_if_belongs_other_owner, live_if_belongs_other_owner}
use Rattle.heap_laws.proofs.StateCheckLaws.{facts_of_within_limits, superblock_valid_of_unowned, unowned_of_unused, unused_is_unused, is_unused_of_facts}

-- the table with all from N on unused
abbrev pub used_table : State → List Superblock
used_table s = take s.setup.superblocks s.table ++ replicate (64 - s.setup.superblocks) unused

unused_behind : (l : List Superblock) (m k : ℕ) → length l ≤ k → k < length l + m → get_or (l ++ replicate m unused) k blank ≡ unused
unused_behind [] m k low high = get_or-replicate m k unused blank (omega arith)
unused_behind (b ∷ l) m zero low high = absurd (omega arith)
unused_behind (b ∷ l) m (suc k) low high = unused_behind l m k (omega arith) (omega arith)

-- heap h and class c meet both conditions of the move rule, as the first n superblocks tell
unfoldable pub must_move_below : ℕ → ℕ → ℕ → State → Bool
must_move_below n h c s =
    both_conditions s.setup.spare s.setup.p s.setup.q (blocks_of c) (sum_below (λ k. one_if_belongs h c (superblock_at s k)) n * blocks_of c)
    (sum_below (λ k. live_if_belongs h c (superblock_at s k)) n)

-- ---- the clauses, of the first N superblocks
abbrev pub used_superblocks_valid : State → List ℕ → Bool
used_superblocks_valid s order = all_below (λ k. superblock_valid s.setup order k (superblock_at s k)) s.setup.superblocks

abbrev pub used_emptiness_invariant : State → Bool
used_emptiness_invariant s = all_below (λ i. all_below (λ c. not (must_move_below s.setup.superblocks (suc i) c s)) class_count) s.setup.processors

abbrev pub used_sparse : State → Bool
used_sparse s = all_below (λ k. sparse_if_global s.setup (superblock_at s k)) s.setup.superblocks

abbrev pub used_unowned_unranked : State → Bool
used_unowned_unranked s = all_below (λ k. not (both (is_unowned (superblock_at s k)) (is_ranked (superblock_at s k)))) s.setup.superblocks

-- of ranks that they be each once without a gap
abbrev pub ranks_each_once : State → Bool
ranks_each_once s = all_below (λ r. eqb (carrying (suc r) s) 1) (ranked_count s)

-- all but the setup numbers and the totals
unfoldable pub used_part_valid : State → List ℕ → Bool
used_part_valid s order =
    both (used_superblocks_valid s order)
    (both (used_emptiness_invariant s)
    (both (used_sparse s)
    (both (names_valid s)
    (both (ranks_each_once s)
    (both (used_unowned_unranked s)
    (runs_valid s))))))

-- what a computed case of it unfolds
unfoldable pub used_part_definitions : Unit {0}
unfolding used_part_valid must_move_below check_definitions
used_part_definitions = tt

module _ (s : State) (table : s.table ≡ used_table s) where
  behind : (k : ℕ) → s.setup.superblocks ≤ k → k < 64 → superblock_at s k ≡ unused
  behind k low high =
      let used = take s.setup.superblocks s.table in
      let l = length-take s.setup.superblocks s.table in
      let whole = ap length table ∙ length-append used (replicate (64 - s.setup.superblocks) unused) in
      let rest = length-replicate (64 - s.setup.superblocks) unused in
      ap (λ (t : List Superblock). get_or t k blank) table ∙ unused_behind used (64 - s.setup.superblocks) k (omega arith) (omega arith)

  -- a test that unused superblocks pass, of all 64
  all_of_used : (p : ℕ → Superblock → Bool) → ((k : ℕ) → s.setup.superblocks ≤ k → T (p k unused))
      → T (all_below (λ k. p k (superblock_at s k)) s.setup.superblocks) → T (all_below (λ k. p k (superblock_at s k)) 64)
  all_of_used p unused-passes used = all_of_each (λ k. p k (superblock_at s k)) 64 (λ k l. go k l (dec_lt k s.setup.superblocks))
    where
      go : (k : ℕ) → k < 64 → Dec (k < s.setup.superblocks) → T (p k (superblock_at s k))
      go k l (yes e) = all_at (λ m. p m (superblock_at s m)) s.setup.superblocks used k e
      go k l (no e) = subst (λ (b : Superblock). T (p k b)) (sym (behind k (omega (arith, e)) l)) (unused-passes k (omega (arith, e)))

  -- a number that is 0 of unused superblocks, summed over all 64
  total_of_used : (f : Superblock → ℕ) → f unused ≡ 0 → s.setup.superblocks ≤ 64
      → total f s.table ≡ sum_below (λ k. f (superblock_at s k)) s.setup.superblocks
  unfolding total
  total_of_used f none few =
      let n = s.setup.superblocks in
      let parts = sum_split (λ k. f (superblock_at s k)) n (64 - n) in
      let rest = sum_of_zeros (λ k. f (superblock_at s (n + k))) (64 - n) (λ k l. ap f (behind (n + k) (omega arith) (omega arith)) ∙ none) in
      ap (sum_below (λ k. f (superblock_at s k))) (omega arith) ∙ parts ∙ omega (arith, rest)

  must_move_of_used : (h c : ℕ) → h < unused_owner → s.setup.superblocks ≤ 64 → must_move_below s.setup.superblocks h c s ≡ must_move h c s
  unfolding must_move_below must_move blocks_in superblocks_of live_of
  must_move_of_used h c low few =
      rw (
        total_of_used (one_if_belongs h c) (one_if_belongs_other_owner h c unused (λ (e : unused_owner ≡ h). omega arith)) few,
        total_of_used (live_if_belongs h c) (live_if_belongs_other_owner h c unused (λ (e : unused_owner ≡ h). omega arith)) few,
      )

  heaps_of_used : s.setup.processors < run_owner → s.setup.superblocks ≤ 64 → used_emptiness_invariant s ≡ emptiness_invariant s
  unfolding emptiness_invariant
  heaps_of_used low few =
      let n = s.setup.superblocks in
      all_cong (λ i. all_below (λ c. not (must_move_below n (suc i) c s)) class_count) (λ i. all_below (λ c. not (must_move (suc i) c s)) class_count)
      s.setup.processors
      (λ i l.
      all_cong (λ c. not (must_move_below n (suc i) c s)) (λ c. not (must_move (suc i) c s)) class_count
      (λ c m. ap not (must_move_of_used (suc i) c (omega arith) few)))

  -- all 64 pass where the first N do, with right totals
  pub rest_of_used_part : (order : List ℕ) → T (within_limits s.setup) → TotalsKept s → T (used_part_valid s order) → T (rest_valid s order)
  unfolding used_part_valid unused_from emptiness_invariant sparse_if_global ranks_valid is_ranked
  rest_of_used_part order limits kept t =
      let n = s.setup.superblocks in
      let numbers = facts_of_within_limits s.setup limits in
      let a = both_right (used_superblocks_valid s order) _ t in
      let b = both_right (used_emptiness_invariant s) _ a in
      let c = both_right (used_sparse s) _ b in
      let d = both_right (names_valid s) _ c in
      let e = both_right (ranks_each_once s) _ d in
      rest_of_clauses s order (record {
        superblocks =
            all_of_used (superblock_valid s.setup order)
            (λ k l. superblock_valid_of_unowned s.setup order k unused (unowned_of_unused unused unused_is_unused))
            (both_left (used_superblocks_valid s order) _ t);
        past_unused =
            all_of_used (unused_from n) (λ k l. either_right (ltb k n) (is_unused unused) (is_unused_of_facts unused unused_is_unused))
            (all_of_each (λ k. unused_from n k (superblock_at s k)) n (λ k l. either_left (ltb k n) _ (lt→ltb k n l)));
        processor_heaps =
            subst T (heaps_of_used (omega (arith, numbers.processors_high)) numbers.superblocks_high) (both_left (used_emptiness_invariant s) _ a);
        global_heap = all_of_used (λ k. sparse_if_global s.setup) (λ k l. tt) (both_left (used_sparse s) _ b);
        names = both_left (names_valid s) _ c;
        totals = totals_valid_of_kept s kept;
        ranks =
            both_make (ranks_each_once s) _ (both_left (ranks_each_once s) _ d)
            (all_of_used (λ k b. not (both (is_unowned b) (is_ranked b))) (λ k l. T_of_true _ (ap not (both_false_right (is_unowned unused))))
            (both_left (used_unowned_unranked s) _ e));
        runs = both_right (used_unowned_unranked s) (runs_valid s) e;
      })
