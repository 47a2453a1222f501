-- The check asks every one of its clauses, and nothing else. Assumes nothing.
use mathlib.Core.List.{List}
use Prim.Native.Nat.{ℕ}
use lib.Dec.{T}
use Rattle.base_laws.proofs.Stages.{◌also◌}
use Rattle.base_laws.specs.Sums.{all_below}
use Rattle.base_laws.proofs.TestLaws.{both_left, both_right, both_make}
use Rattle.heap_rules.specs.declared.State.{State}
use Rattle.heap_rules.specs.Table.{superblock_at}
use Rattle.check_rules.specs.Check.{within_limits, superblock_valid, unused_from, emptiness_invariant, sparse_if_global, names_valid, totals_valid}
use Rattle.check_rules.specs.Check.{ranks_valid, runs_valid, rest_valid, passes}

-- all but the setup numbers, clause by clause
pub record RestClauses (s : State) (order : List ℕ) : Type 0 where
  pub superblocks : T (all_below (λ k. superblock_valid s.setup order k (superblock_at s k)) 64)
  pub past_unused : T (all_below (λ k. unused_from s.setup.superblocks k (superblock_at s k)) 64)
  pub processor_heaps : T (emptiness_invariant s)
  pub global_heap : T (all_below (λ k. sparse_if_global s.setup (superblock_at s k)) 64)
  pub names : T (names_valid s)
  pub totals : T (totals_valid s)
  pub ranks : T (ranks_valid s)
  pub runs : T (runs_valid s)

pub rest_of_clauses : (s : State) (order : List ℕ) → RestClauses s order → T (rest_valid s order)
unfolding rest_valid
rest_of_clauses s order h =
    both_make (all_below (λ k. superblock_valid s.setup order k (superblock_at s k)) 64) _ h.superblocks
    (both_make (all_below (λ k. unused_from s.setup.superblocks k (superblock_at s k)) 64) _ h.past_unused
    (both_make (emptiness_invariant s) _ h.processor_heaps
    (both_make (all_below (λ k. sparse_if_global s.setup (superblock_at s k)) 64) _ h.global_heap
    (both_make (names_valid s) _ h.names
    (both_make (totals_valid s) _ h.totals
    (both_make (ranks_valid s) (runs_valid s) h.ranks h.runs))))))

-- looked at where the other way holds: a refused law is dear
pub clauses_of_rest : (s : State) (order : List ℕ) → T (rest_valid s order) → RestClauses s order
unfolding rest_valid
clauses_of_rest s order t =
    let before = rest_of_clauses in
    let a = both_right (all_below (λ k. superblock_valid s.setup order k (superblock_at s k)) 64) _ t in
    let b = both_right (all_below (λ k. unused_from s.setup.superblocks k (superblock_at s k)) 64) _ a in
    let c = both_right (emptiness_invariant s) _ b in
    let d = both_right (all_below (λ k. sparse_if_global s.setup (superblock_at s k)) 64) _ c in
    let e = both_right (names_valid s) _ d in
    let f = both_right (totals_valid s) _ e in
    record {
      superblocks = both_left (all_below (λ k. superblock_valid s.setup order k (superblock_at s k)) 64) _ t;
      past_unused = both_left (all_below (λ k. unused_from s.setup.superblocks k (superblock_at s k)) 64) _ a;
      processor_heaps = both_left (emptiness_invariant s) _ b;
      global_heap = both_left (all_below (λ k. sparse_if_global s.setup (superblock_at s k)) 64) _ c;
      names = both_left (names_valid s) _ d;
      totals = both_left (totals_valid s) _ e;
      ranks = both_left (ranks_valid s) (runs_valid s) f;
      runs = both_right (ranks_valid s) (runs_valid s) f;
    }

-- the whole check asks the setup numbers too
pub limits_of_passes : (s : State) (order : List ℕ) → T (passes s order) → T (within_limits s.setup)
unfolding passes
limits_of_passes s order t = both_left (within_limits s.setup) _ t

pub rest_of_passes : (s : State) (order : List ℕ) → T (passes s order) → T (rest_valid s order)
unfolding passes
rest_of_passes s order t = both_right (within_limits s.setup) _ t

pub passes_of_limits_and_rest : (s : State) (order : List ℕ) → T (within_limits s.setup) → T (rest_valid s order) → T (passes s order)
unfolding passes
passes_of_limits_and_rest s order a b = both_make (within_limits s.setup) _ a b

-- what the computed cases unfold, which are skipped where a law is refused
unfoldable pub clauses_hold : Unit {0}
clauses_hold = clauses_of_rest also rest_of_clauses also limits_of_passes also rest_of_passes also passes_of_limits_and_rest also tt
