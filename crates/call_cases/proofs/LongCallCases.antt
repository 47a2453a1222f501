-- Whole calls that take and free long blocks (document 02, item 7), with all that they leave, in cases that tell the rules from near misses. By computation.
-- Assumes nothing.
use mathlib.Core.Path.{◌≡◌, refl, ap, ◌∙◌}
use mathlib.Core.Bool.{true}
use mathlib.Core.List.{List, [], ◌∷◌, map}
use Prim.Native.Nat.{ℕ}
use Rattle.heap_rules.specs.Table.{run_part}
use Rattle.heap_laws.proofs.UsedPartLaws.{used_part_definitions}
use Rattle.call_rules.specs.declared.Outcome.TheVariants.{Address, Moves}
use Rattle.call_rules.specs.Calls.{Take, Free, NamedTake, NamedFree, Drop}
use Rattle.call_rules.proofs.CallDefinitions.{unchecked_call_definitions}
use Rattle.call_laws.proofs.UsedPartCallLaws.{calls_past_used_part}
use Rattle.call_cases.proofs.WholeCallCases.{SuperblockAndPlaces, CallCase, seen, owned_with, ranked_with, unused_with}
use Rattle.call_cases.proofs.NamedCallCases.{NamedCallCase, named_result_of, named_expected_of, naming, refused_with}
use Rattle.call_cases.proofs.NamedCallCases.{named_before, order_before, named_passes, named_result_behind_check}

-- a superblock of a run, with the length that it carries
abbrev pub run_with : ℕ → List ℕ → SuperblockAndPlaces
run_with n places = record { superblock = run_part n; places = places }

-- a take of 8192 bytes has superblocks 1 and 2, the second of which is heap 0's, empty and ranked: the gap in the ranking closes, heap 0's totals
-- fall, and every place keeps its number
abbrev pub run_of_two_taken : CallCase
run_of_two_taken =
    record {
      before = ranked_with 1 26 3 1 [] ∷ unused_with (3 ∷ 4 ∷ []) ∷ ranked_with 0 24 0 2 (0 ∷ 1 ∷ 88 ∷ []) ∷ ranked_with 2 26 1 3 (1 ∷ [])
          ∷ unused_with [] ∷ [];
      call = Take 1 8192;
      outcome = Address 4096;
      after = ranked_with 1 26 3 1 [] ∷ run_with 2 (3 ∷ 4 ∷ []) ∷ run_with 0 (0 ∷ 1 ∷ 88 ∷ []) ∷ ranked_with 2 26 1 2 (1 ∷ []) ∷ unused_with [] ∷ [];
    }

-- its free, by another processor: both are unused, and no rank changes
abbrev pub run_of_two_freed : CallCase
run_of_two_freed =
    record {
      before = run_of_two_taken.after;
      call = Free 2 4096;
      outcome = Moves 0;
      after = ranked_with 1 26 3 1 [] ∷ unused_with (3 ∷ 4 ∷ []) ∷ unused_with (0 ∷ 1 ∷ 88 ∷ []) ∷ ranked_with 2 26 1 2 (1 ∷ []) ∷ unused_with [] ∷ [];
    }

-- a drop of block 0 of superblock 3, and of a run of two: superblock 3 passes to heap 0, and is the one move
abbrev pub run_and_block_dropped : CallCase
run_and_block_dropped =
    record {
      before = owned_with 2 26 1 (1 ∷ []) ∷ run_with 2 (5 ∷ []) ∷ run_with 0 [] ∷ owned_with 2 26 1 (1 ∷ []) ∷ unused_with [] ∷ [];
      call = Drop 1 (12288 ∷ 4096 ∷ []);
      outcome = Moves 1;
      after = owned_with 2 26 1 (1 ∷ []) ∷ unused_with (5 ∷ []) ∷ unused_with [] ∷ ranked_with 0 26 0 1 (1 ∷ 0 ∷ []) ∷ unused_with [] ∷ [];
    }

-- name 9 is bound to the run and let go, by its own free, by a plain one and by the drop; name 4, of block 0 of superblock 0, stays; 17 where three
-- superblocks are asked for, and 6 for the start of the run's second superblock
abbrev pub long_calls : List NamedCallCase
long_calls =
    record { named_call = NamedTake 2 9 8192; effect = run_of_two_taken; names = naming ((4, 0) ∷ []); names_after = naming ((4, 0) ∷ (9, 256) ∷ []) }
    ∷ record { named_call = NamedFree 1 9; effect = run_of_two_freed; names = naming ((4, 0) ∷ (9, 256) ∷ []); names_after = naming ((4, 0) ∷ []) }
    ∷ record { named_call = Free 2 4096; effect = run_of_two_freed; names = naming ((4, 0) ∷ (9, 256) ∷ []); names_after = naming ((4, 0) ∷ []) }
    ∷ record {
      named_call = Drop 1 (12288 ∷ 4096 ∷ []);
      effect = run_and_block_dropped;
      names = naming ((4, 0) ∷ (9, 256) ∷ []);
      names_after = naming ((4, 0) ∷ []);
    }
    ∷ refused_with (Take 1 8193) 17 run_of_two_taken.before ((4, 0) ∷ []) ∷ refused_with (Free 1 8192) 6 run_of_two_freed.before ((9, 256) ∷ []) ∷ []

long_calls_pass : map named_passes long_calls ≡ map (λ (r : NamedCallCase). true) long_calls
unfolding used_part_definitions
long_calls_pass = refl

long_calls_behind_check : map named_result_behind_check long_calls ≡ map named_expected_of long_calls
unfolding unchecked_call_definitions
long_calls_behind_check = refl

pub long_call_cases : map named_result_of long_calls ≡ map named_expected_of long_calls
long_call_cases =
    ap (map seen) (calls_past_used_part named_before order_before (λ (r : NamedCallCase). r.named_call) long_calls refl refl long_calls_pass)
    ∙ long_calls_behind_check
