-- The refusals that all calls on a state share, as cases. Assumes nothing.
use mathlib.Core.Path.{◌≡◌, refl}
use mathlib.Core.Bool.{Bool, true, false}
use mathlib.Core.Logic.{◌⊎◌, inl, inr}
use mathlib.Core.List.{List}
use Prim.Native.Nat.{ℕ, ◌*◌, ◌≤◌, ◌<◌}
use lib.ListN.{length}
use lib.Dec.{T, leb, leb→le}
use borrow.Author.Tests.{leb-true, le-leb, lt-leb}
use Rattle.base_laws.specs.Sums.{pick, both}
use Rattle.base_laws.proofs.TestLaws.{T_of_true, true_of_T, both_left, both_right}
use Rattle.heap_rules.specs.declared.State.{State}
use Rattle.check_rules.specs.Check.{within_limits, rest_valid, passes}
use Rattle.heap_laws.proofs.StateCheckLaws.{passes_of_sound, sound_of_limits_and_rest, names_valid_of_rest, totals_kept_of_rest, ranks_valid_of_rest}
use Rattle.heap_laws.proofs.StateCheckLaws.{runs_valid_of_rest}
use Rattle.heap_rules.specs.Ranks.{reranked}
use Rattle.heap_laws.proofs.StateFacts.{RanksSound}
use Rattle.heap_laws.proofs.RerankedLaws.{reranked_sound, reranked_names_valid, reranked_totals_kept}
use Rattle.heap_laws.proofs.RunsKeptLaws.{reranked_runs_valid}
use Rattle.heap_laws.proofs.RankLaws.{ranks_sound_of_valid, ranks_valid_of_sound}
use Rattle.call_laws.proofs.CallEffects.{Passed}
use Rattle.call_rules.specs.Answers.{After, refused, checked, is_processor}

-- the three tests, as the check of a call makes them
checked_by_tests : (s : State) (order : List ℕ) (next : After) (a b c : Bool) → within_limits s.setup ≡ a
    → leb (s.setup.superblocks * 256) (length order) ≡ b → rest_valid s order ≡ c
    → ((r : ℕ) × (pick a (pick b (pick c next (refused 13 s order)) (refused 12 s order)) (refused 13 s order) ≡ refused r s order))
    ⊎ (Passed s order × (pick a (pick b (pick c next (refused 13 s order)) (refused 12 s order)) (refused 13 s order) ≡ next))
checked_by_tests s order next true true true e f g =
    inr (
      record {
        sound = sound_of_limits_and_rest s order (T_of_true (within_limits s.setup) e) (T_of_true (rest_valid s order) g);
        names = names_valid_of_rest s order (T_of_true (rest_valid s order) g);
        totals = totals_kept_of_rest s order (T_of_true (rest_valid s order) g);
        ranks = ranks_sound_of_valid s (ranks_valid_of_rest s order (T_of_true (rest_valid s order) g));
        runs = runs_valid_of_rest s order (T_of_true (rest_valid s order) g);
        room = leb-true (s.setup.superblocks * 256) (length order) f;
      },
      refl,
    )
checked_by_tests s order next true true false e f g = inl (13, refl)
checked_by_tests s order next true false c e f g = inl (12, refl)
checked_by_tests s order next false b c e f g = inl (13, refl)

-- a state that passes, its places being lent
pub passed_of_passes : (s : State) (order : List ℕ) → passes s order ≡ true → s.setup.superblocks * 256 ≤ length order → Passed s order
unfolding passes
passed_of_passes s order e room =
    let t = T_of_true (both (within_limits s.setup) (rest_valid s order)) e in
    let rest = both_right (within_limits s.setup) (rest_valid s order) t in
    record {
      sound = sound_of_limits_and_rest s order (both_left (within_limits s.setup) (rest_valid s order) t) rest;
      names = names_valid_of_rest s order rest;
      totals = totals_kept_of_rest s order rest;
      ranks = ranks_sound_of_valid s (ranks_valid_of_rest s order rest);
      runs = runs_valid_of_rest s order rest;
      room = room;
    }

-- a call is refused by the check, or goes on with a state that passes
pub checked_refused_or_passed : (s : State) (order : List ℕ) (next : After) → ((r : ℕ) × (checked s order next ≡ refused r s order))
    ⊎ (Passed s order × (checked s order next ≡ next))
unfolding checked
checked_refused_or_passed s order next = checked_by_tests s order next (within_limits s.setup) (leb (s.setup.superblocks * 256) (length order))
    (rest_valid s order) refl refl refl

pub checked_is_next_of_passed : (s : State) (order : List ℕ) (next : After) → Passed s order → checked s order next ≡ next
unfolding checked passes
checked_is_next_of_passed s order next p =
    let t : T (both (within_limits s.setup) (rest_valid s order)) = passes_of_sound s order p.sound p.names p.totals
    (ranks_valid_of_sound s p.ranks) p.runs in
    simp (
      true_of_T (within_limits s.setup) (both_left (within_limits s.setup) (rest_valid s order) t),
      le-leb (s.setup.superblocks * 256) (length order) p.room,
      true_of_T (rest_valid s order) (both_right (within_limits s.setup) (rest_valid s order) t),
    )

-- the order of the first refusals: 13 for setup numbers, 12, the rest of 13
pub checked_refuses_13_of_limits : (s : State) (order : List ℕ) (next : After) → within_limits s.setup ≡ false → checked s order next ≡ refused 13 s order
unfolding checked
checked_refuses_13_of_limits s order next e = rw e

pub checked_refuses_12_of_storage : (s : State) (order : List ℕ) (next : After) → within_limits s.setup ≡ true
    → length order < s.setup.superblocks * 256 → checked s order next ≡ refused 12 s order
unfolding checked
checked_refuses_12_of_storage s order next e l = rw (e, lt-leb (s.setup.superblocks * 256) (length order) l)

pub checked_refuses_13_of_rest : (s : State) (order : List ℕ) (next : After) → within_limits s.setup ≡ true → s.setup.superblocks * 256 ≤ length order
    → rest_valid s order ≡ false → checked s order next ≡ refused 13 s order
unfolding checked
checked_refuses_13_of_rest s order next e l f = rw (e, le-leb (s.setup.superblocks * 256) (length order) l, f)

pub bounds_of_is_processor : (s : State) (i : ℕ) → T (is_processor s i) → (1 ≤ i) × (i ≤ s.setup.processors)
unfolding is_processor
bounds_of_is_processor s i t = (
  leb→le 1 i (both_left (leb 1 i) (leb i s.setup.processors) t),
  leb→le i s.setup.processors
      (both_right (leb 1 i) (leb i s.setup.processors) t),
)

-- the state with other ranks passes, where these are a ranking
pub reranked_passed : (rank : ℕ → ℕ) (s : State) (order : List ℕ) → length s.table ≡ 64 → Passed s order → RanksSound (reranked rank s)
    → Passed (reranked rank s) order
reranked_passed rank s order long p ranks =
    record {
      sound = reranked_sound rank s long order p.sound;
      names = reranked_names_valid rank s long p.names;
      totals = reranked_totals_kept rank s p.totals;
      ranks = ranks;
      runs = reranked_runs_valid rank s long p.runs;
      room = p.room;
    }
