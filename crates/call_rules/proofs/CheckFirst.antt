-- "13 for setup numbers, 12, the rest of 13, then ..": a call is the check, and then the call behind it. Assumes nothing.
use mathlib.Core.Path.{◌≡◌, refl, ◌∙◌}
use mathlib.Core.Bool.{Bool, true, false}
use mathlib.Core.List.{List}
use Prim.Native.Nat.{ℕ, ◌*◌}
use lib.ListN.{length}
use lib.Dec.{leb}
use Rattle.base_laws.specs.Sums.{pick, both}
use Rattle.base_laws.proofs.TestLaws.{true_not_false}
use Rattle.heap_rules.specs.declared.State.{State}
use Rattle.check_rules.specs.Check.{within_limits, rest_valid}
use Rattle.call_rules.specs.Answers.{After, checked}
use Rattle.call_rules.specs.Take.{take_of}
use Rattle.call_rules.specs.Free.{free_of}
use Rattle.call_rules.specs.Named.{named_take_of, named_free_of}
use Rattle.call_rules.specs.Drop.{drop_of}
use Rattle.call_rules.specs.Calls.{Call, Take, Free, NamedTake, NamedFree, Drop, call_of, call_unchecked}

pub call_of_checks_first : (s : State) (order : List ℕ) (call : Call) → call_of s order call ≡ checked s order (call_unchecked s order call)
unfolding call_of call_unchecked take_of free_of named_take_of named_free_of drop_of
call_of_checks_first s order (Take processor size) = refl
call_of_checks_first s order (Free processor address) = refl
call_of_checks_first s order (NamedTake processor name size) = refl
call_of_checks_first s order (NamedFree processor name) = refl
call_of_checks_first s order (Drop processor addresses) = refl

-- ---- where the setup numbers, the storage and the rest of the check pass, there follows what comes behind it
abbrev pub passes_check : State → List ℕ → Bool
passes_check s order = both (within_limits s.setup) (both (leb (s.setup.superblocks * 256) (length order)) (rest_valid s order))

third_of_tests : (a b c : Bool) (next x y z : After) → both a (both b c) ≡ true → pick a (pick b (pick c next x) y) z ≡ next
third_of_tests true true true next x y z e = refl
third_of_tests true true false next x y z e = absurd (true_not_false false e refl)
third_of_tests true false c next x y z e = absurd (true_not_false false e refl)
third_of_tests false b c next x y z e = absurd (true_not_false false e refl)

pub checked_past_check : (s : State) (order : List ℕ) (next : After) → passes_check s order ≡ true → checked s order next ≡ next
unfolding checked
checked_past_check s order next = third_of_tests (within_limits s.setup) (leb (s.setup.superblocks * 256) (length order)) (rest_valid s order) next _ _ _

pub call_past_check : (s : State) (order : List ℕ) (call : Call) → passes_check s order ≡ true → call_of s order call ≡ call_unchecked s order call
call_past_check s order call e = call_of_checks_first s order call ∙ checked_past_check s order (call_unchecked s order call) e
