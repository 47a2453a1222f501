-- The ranking in cases that tell its definitions from near misses, by computation. Assumes nothing.
use mathlib.Core.Path.{◌≡◌, refl}
use mathlib.Core.Bool.{true, false}
use mathlib.Core.List.{List, [], ◌∷◌, ◌++◌, map}
use Prim.Native.Nat.{ℕ}
use lib.ListN.{replicate, take}
use Rattle.base_laws.proofs.Stages.{◌also◌}
use Rattle.base_laws.specs.Lists.{listed}
use Rattle.heap_rules.specs.declared.Superblock.{Superblock}
use Rattle.heap_rules.specs.declared.State.{State}
use Rattle.heap_rules.specs.Table.{unused}
use Rattle.heap_rules.specs.States.{with_names}
use Rattle.heap_rules.specs.Ranks.{is_ranked, is_more_recent, rank_after_free, rank_after_renewal, ranked_latest, unranked}
use Rattle.heap_rules.proofs.CaseStates.{unnamed_state}
use Rattle.heap_rules.proofs.TableCases.{ranked, small_setup, table_holds}

-- ranks 2, 0, 4, 1, 3, 0 in heaps 1, 1, 0, 2, 1, 0; the rest unused
abbrev pub ranked_state : State
ranked_state = unnamed_state small_setup (ranked 1 17 1 2 ∷ ranked 1 17 1 0 ∷ ranked 0 16 1 4 ∷ ranked 2 16 1 1 ∷ ranked 1 17 0 3 ∷ ranked 0 17 0 0
    ∷ replicate 58 unused)

abbrev pub ranks_of : State → List ℕ
ranks_of s = map (λ (b : Superblock). b.rank) s.table

-- "the one freed into most recently since it was last renewed comes first. Those not freed into since then follow"
pub is_more_recent_cases :
    map (λ (r : ℕ). is_more_recent (ranked 1 17 1 2) (ranked 1 17 1 r)) (0 ∷ 1 ∷ 2 ∷ 3 ∷ [])
    ++ map (λ (r : ℕ). is_more_recent (ranked 1 17 1 0) (ranked 1 17 1 r)) (0 ∷ 1 ∷ [])
    ≡ true ∷ false ∷ false ∷ true ∷ false ∷ false ∷ []
unfolding table_holds is_more_recent is_ranked
is_more_recent_cases = refl

-- a free into the latest, one in between, the last, and an unranked one: it goes to the front and those that were ahead of it go one back
pub ranked_latest_cases :
    map (λ (k : ℕ). take 7 (ranks_of (ranked_latest k ranked_state))) (3 ∷ 4 ∷ 2 ∷ 5 ∷ [])
    ≡ (2 ∷ 0 ∷ 4 ∷ 1 ∷ 3 ∷ 0 ∷ 0 ∷ []) ∷ (3 ∷ 0 ∷ 4 ∷ 2 ∷ 1 ∷ 0 ∷ 0 ∷ []) ∷ (3 ∷ 0 ∷ 1 ∷ 2 ∷ 4 ∷ 0 ∷ 0 ∷ []) ∷ (3 ∷ 0 ∷ 5 ∷ 2 ∷ 4 ∷ 1 ∷ 0 ∷ []) ∷ []
unfolding table_holds ranked_latest listed rank_after_free is_more_recent is_ranked
ranked_latest_cases = refl

-- the latest, one in between, the last, and an unranked one leave the ranking: those that were behind it go one ahead
pub unranked_cases :
    map (λ (k : ℕ). take 7 (ranks_of (unranked k ranked_state))) (3 ∷ 0 ∷ 2 ∷ 1 ∷ [])
    ≡ (1 ∷ 0 ∷ 3 ∷ 0 ∷ 2 ∷ 0 ∷ 0 ∷ []) ∷ (0 ∷ 0 ∷ 3 ∷ 1 ∷ 2 ∷ 0 ∷ 0 ∷ []) ∷ (2 ∷ 0 ∷ 0 ∷ 1 ∷ 3 ∷ 0 ∷ 0 ∷ []) ∷ (2 ∷ 0 ∷ 4 ∷ 1 ∷ 3 ∷ 0 ∷ 0 ∷ []) ∷ []
unfolding table_holds unranked listed rank_after_renewal is_more_recent is_ranked
unranked_cases = refl

-- superblock 63 is ranked as the others are, and nothing but ranks changes, in a state that holds names
pub last_superblock_ranked_case :
    ranked_latest 63 (with_names (unnamed_state small_setup (ranked 1 17 5 1 ∷ replicate 62 unused ++ ranked 2 16 3 0 ∷ [])) (2 ∷ 16128 ∷ []))
    ≡ record {
      setup = small_setup;
      table = ranked 1 17 5 2 ∷ replicate 62 unused ++ ranked 2 16 3 1 ∷ [];
      names = 2 ∷ 16128 ∷ [];
      totals = (unnamed_state small_setup (ranked 1 17 5 1 ∷ replicate 62 unused ++ ranked 2 16 3 0 ∷ [])).totals;
    }
unfolding table_holds ranked_latest listed rank_after_free is_more_recent is_ranked
last_superblock_ranked_case = refl

unfoldable pub ranks_hold : Unit {0}
ranks_hold =
    is_more_recent_cases also ranked_latest_cases also unranked_cases also last_superblock_ranked_case also tt
