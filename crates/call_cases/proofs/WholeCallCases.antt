-- Whole calls, with all that they leave, in cases that tell the rules from near misses. P = 2, N = 5, K = 1, p/q = 3/7; every order place that is not
-- filled holds something, and three places more than N × 256 are lent. By computation. Assumes nothing.
use mathlib.Core.Path.{◌≡◌, refl, ap, ◌∙◌}
use mathlib.Core.Bool.{Bool, true}
use mathlib.Core.List.{List, [], ◌∷◌, ◌++◌, map}
use Prim.Native.Nat.{ℕ, ◌-◌}
use lib.ListN.{length, replicate}
use Rattle.names_rules.specs.Names.{no_names}
use Rattle.heap_rules.specs.declared.Superblock.{Superblock}
use Rattle.heap_rules.specs.declared.Setup.{Setup}
use Rattle.heap_rules.specs.declared.State.{State}
use Rattle.heap_rules.specs.Table.{unused}
use Rattle.heap_rules.proofs.TableCases.{of, ranked}
use Rattle.heap_rules.proofs.CaseStates.{unnamed_state}
use Rattle.check_rules.specs.Check.{totals_valid}
use Rattle.heap_laws.proofs.UsedPartLaws.{used_part_definitions}
use Rattle.call_rules.specs.declared.Outcome.{Outcome}
use Rattle.call_rules.specs.declared.Outcome.TheVariants.{Address, Moves, Refused}
use Rattle.call_rules.specs.Answers.{After}
use Rattle.call_rules.specs.Calls.{Call, Take, Free, call_of, call_unchecked}
use Rattle.call_rules.proofs.CallDefinitions.{unchecked_call_definitions}
use Rattle.call_rules.proofs.RuleCases.{setup_with}
use Rattle.call_laws.proofs.UsedPartCallLaws.{used_part_passes, calls_past_used_part}

-- a superblock of heap h and class c, with these marks, and what stands in its first places
pub record SuperblockAndPlaces : Type 0 where
  pub superblock : Superblock
  pub places : List ℕ

abbrev pub owned_with : ℕ → ℕ → ℕ → List ℕ → SuperblockAndPlaces
owned_with h c marks places = record { superblock = of h c marks; places = places }

-- one of rank r
abbrev pub ranked_with : ℕ → ℕ → ℕ → ℕ → List ℕ → SuperblockAndPlaces
ranked_with h c marks r places = record { superblock = ranked h c marks r; places = places }

abbrev pub unused_with : List ℕ → SuperblockAndPlaces
unused_with places = record { superblock = unused; places = places }

abbrev pub table_of : List SuperblockAndPlaces → List Superblock
table_of l = map (λ (h : SuperblockAndPlaces). h.superblock) l ++ replicate (64 - length l) unused

abbrev pub order_of : List SuperblockAndPlaces → List ℕ
order_of [] = 91 ∷ 92 ∷ 93 ∷ []
order_of (h ∷ l) = h.places ++ replicate (256 - length h.places) 77 ++ order_of l

-- a call, its outcome, and the superblocks before and after it, of which there are N
pub record CallCase : Type 0 where
  pub before : List SuperblockAndPlaces
  pub call : Call
  pub outcome : Outcome
  pub after : List SuperblockAndPlaces

abbrev pub state_of_lem : List SuperblockAndPlaces → State
state_of_lem l = unnamed_state (setup_with 2 (length l) 1 3 7) (table_of l)

-- what a call leaves: outcome, setup, all 64 superblocks, names and all order places, and whether the totals are the recount
pub record Seen : Type 0 where
  pub outcome : Outcome
  pub setup : Setup
  pub table : List Superblock
  pub names : List ℕ
  pub order : List ℕ
  pub totals_recounted : Bool

abbrev pub seen : After → Seen
seen a =
    record {
      outcome = a.answer.outcome;
      setup = a.answer.state.setup;
      table = a.answer.state.table;
      names = a.answer.state.names;
      order = a.order;
      totals_recounted = totals_valid a.answer.state;
    }

-- what the rules leave, and what is expected
abbrev state_before : CallCase → State
state_before r = state_of_lem r.before

abbrev order_before : CallCase → List ℕ
order_before r = order_of r.before

abbrev pub result_of : CallCase → Seen
result_of r = seen (call_of (state_before r) (order_before r) r.call)

abbrev result_behind_check : CallCase → Seen
result_behind_check r = seen (call_unchecked (state_before r) (order_before r) r.call)

abbrev pub expected_of : CallCase → Seen
expected_of r =
    record {
      outcome = r.outcome;
      setup = setup_with 2 (length r.before) 1 3 7;
      table = table_of r.after;
      names = no_names;
      order = order_of r.after;
      totals_recounted = true;
    }

-- ---- takes. Class 20 has 5 blocks of 768 bytes. Heap 1 has 3, 4 and 4 live, heap 2 has 4 and heap 0 has 2.
abbrev pub five_of_20 : List SuperblockAndPlaces
five_of_20 =
    owned_with 0 20 10 (0 ∷ 4 ∷ 2 ∷ []) ∷ owned_with 1 20 21 (1 ∷ 3 ∷ []) ∷ owned_with 2 20 15 (4 ∷ 31 ∷ []) ∷ owned_with 1 20 27 (2 ∷ 32 ∷ [])
    ∷ owned_with 1 20 30 (0 ∷ 33 ∷ []) ∷ []

-- place 1: of heap 1's the fullest, the lower number among equals; its block 2; "that place keeps its number"
abbrev pub from_place_1 : CallCase
from_place_1 =
    record {
      before = five_of_20;
      call = Take 1 700;
      outcome = Address 13824;
      after =
          owned_with 0 20 10 (0 ∷ 4 ∷ 2 ∷ []) ∷ owned_with 1 20 21 (1 ∷ 3 ∷ []) ∷ owned_with 2 20 15 (4 ∷ 31 ∷ []) ∷ owned_with 1 20 31 (2 ∷ 32 ∷ [])
          ∷ owned_with 1 20 30 (0 ∷ 33 ∷ []) ∷ [];
    }

-- place 1 with the two fullest ranked: the one last freed into, though it has the higher number; every rank stays
abbrev pub last_freed_into_from_place_1 : CallCase
last_freed_into_from_place_1 =
    record {
      before =
          owned_with 0 20 10 (0 ∷ 4 ∷ 2 ∷ []) ∷ ranked_with 1 20 21 1 (1 ∷ 3 ∷ []) ∷ owned_with 2 20 15 (4 ∷ 31 ∷ [])
          ∷ ranked_with 1 20 27 3 (2 ∷ 32 ∷ []) ∷ ranked_with 1 20 30 2 (0 ∷ 33 ∷ []) ∷ [];
      call = Take 1 700;
      outcome = Address 16384;
      after =
          owned_with 0 20 10 (0 ∷ 4 ∷ 2 ∷ []) ∷ ranked_with 1 20 21 1 (1 ∷ 3 ∷ []) ∷ owned_with 2 20 15 (4 ∷ 31 ∷ [])
          ∷ ranked_with 1 20 27 3 (2 ∷ 32 ∷ []) ∷ ranked_with 1 20 31 2 (0 ∷ 33 ∷ []) ∷ [];
    }

-- place 1 for processor 2, whose heap's superblock has block 4 free
abbrev pub from_own_heap : CallCase
from_own_heap =
    record {
      before = five_of_20;
      call = Take 2 700;
      outcome = Address 11264;
      after =
          owned_with 0 20 10 (0 ∷ 4 ∷ 2 ∷ []) ∷ owned_with 1 20 21 (1 ∷ 3 ∷ []) ∷ owned_with 2 20 31 (4 ∷ 31 ∷ []) ∷ owned_with 1 20 27 (2 ∷ 32 ∷ [])
          ∷ owned_with 1 20 30 (0 ∷ 33 ∷ []) ∷ [];
    }

-- place 1 with nothing live: not renewed, so that the last filled place has block 1, and not block 0, and its rank stays
abbrev pub empty_from_place_1 : CallCase
empty_from_place_1 =
    record {
      before = owned_with 0 25 2 (0 ∷ []) ∷ ranked_with 2 25 0 1 (0 ∷ 1 ∷ []) ∷ unused_with [] ∷ unused_with [] ∷ unused_with [] ∷ [];
      call = Take 2 1792;
      outcome = Address 5888;
      after = owned_with 0 25 2 (0 ∷ []) ∷ ranked_with 2 25 2 1 (0 ∷ 1 ∷ []) ∷ unused_with [] ∷ unused_with [] ∷ unused_with [] ∷ [];
    }

-- place 2 with block 1 live: owned by heap 2, not renewed and of the rank that it had, though place 3 has superblock 0 and place 4 superblock 2
abbrev pub from_place_2 : CallCase
from_place_2 =
    record {
      before = owned_with 0 24 0 (0 ∷ 1 ∷ []) ∷ owned_with 2 23 7 [] ∷ unused_with (5 ∷ 6 ∷ []) ∷ ranked_with 0 23 2 2 (0 ∷ 2 ∷ [])
          ∷ ranked_with 1 23 3 1 (2 ∷ []) ∷ [];
      call = Take 2 1200;
      outcome = Address 14848;
      after = owned_with 0 24 0 (0 ∷ 1 ∷ []) ∷ owned_with 2 23 7 [] ∷ unused_with (5 ∷ 6 ∷ []) ∷ ranked_with 2 23 6 2 (0 ∷ 2 ∷ [])
          ∷ ranked_with 1 23 3 1 (2 ∷ []) ∷ [];
    }

-- place 2 with two equally full: the one that was freed into, though it has the higher number
abbrev pub last_freed_into_from_place_2 : CallCase
last_freed_into_from_place_2 =
    record {
      before = owned_with 0 23 4 (0 ∷ 1 ∷ []) ∷ ranked_with 0 23 2 1 (0 ∷ 2 ∷ []) ∷ unused_with [] ∷ unused_with [] ∷ unused_with [] ∷ [];
      call = Take 2 1200;
      outcome = Address 6656;
      after = owned_with 0 23 4 (0 ∷ 1 ∷ []) ∷ ranked_with 2 23 6 1 (0 ∷ 2 ∷ []) ∷ unused_with [] ∷ unused_with [] ∷ unused_with [] ∷ [];
    }

-- place 2 with nothing live: renewed, so that its places hold 1, 0 where they held 0, 1, and block 0 is taken; it was the last freed into and has no rank now
abbrev pub empty_from_place_2 : CallCase
empty_from_place_2 =
    record {
      before = owned_with 0 23 0 (1 ∷ 0 ∷ 2 ∷ []) ∷ unused_with [] ∷ ranked_with 0 24 0 1 (0 ∷ 1 ∷ 88 ∷ []) ∷ ranked_with 2 24 1 2 (1 ∷ [])
          ∷ owned_with 1 24 3 [] ∷ [];
      call = Take 1 1536;
      outcome = Address 8192;
      after = owned_with 0 23 0 (1 ∷ 0 ∷ 2 ∷ []) ∷ unused_with [] ∷ owned_with 1 24 1 (1 ∷ 0 ∷ 88 ∷ []) ∷ ranked_with 2 24 1 1 (1 ∷ [])
          ∷ owned_with 1 24 3 [] ∷ [];
    }

-- place 3: heap 0's lowest empty superblock, of another class, before place 4's superblock 0; renewed for class 22, with 4 blocks. Of
-- three ranked ones it leaves the ranking, and the gap closes; the last freed into, which is empty too, has a higher number
abbrev pub from_place_3 : CallCase
from_place_3 =
    record {
      before = unused_with (3 ∷ 4 ∷ []) ∷ owned_with 2 22 0 (3 ∷ 1 ∷ 0 ∷ 2 ∷ []) ∷ ranked_with 0 24 2 3 (0 ∷ [])
          ∷ ranked_with 0 24 0 2 (0 ∷ 1 ∷ 41 ∷ 42 ∷ 43 ∷ []) ∷ ranked_with 0 26 0 1 (1 ∷ 0 ∷ []) ∷ [];
      call = Take 1 1000;
      outcome = Address 12288;
      after = unused_with (3 ∷ 4 ∷ []) ∷ owned_with 2 22 0 (3 ∷ 1 ∷ 0 ∷ 2 ∷ []) ∷ ranked_with 0 24 2 2 (0 ∷ [])
          ∷ owned_with 1 22 1 (3 ∷ 2 ∷ 1 ∷ 0 ∷ 43 ∷ []) ∷ ranked_with 0 26 0 1 (1 ∷ 0 ∷ []) ∷ [];
    }

-- place 4: the lowest unused superblock, renewed for class 20; "Places above n - 1 keep what they had"
abbrev pub from_place_4 : CallCase
from_place_4 =
    record {
      before = owned_with 1 20 1 (4 ∷ 3 ∷ 2 ∷ 1 ∷ []) ∷ owned_with 0 26 2 (0 ∷ []) ∷ unused_with (60 ∷ 61 ∷ 62 ∷ 63 ∷ 64 ∷ 65 ∷ 66 ∷ []) ∷ unused_with []
          ∷ owned_with 2 20 31 [] ∷ [];
      call = Take 2 641;
      outcome = Address 8192;
      after = owned_with 1 20 1 (4 ∷ 3 ∷ 2 ∷ 1 ∷ []) ∷ owned_with 0 26 2 (0 ∷ []) ∷ owned_with 2 20 1 (4 ∷ 3 ∷ 2 ∷ 1 ∷ 0 ∷ 65 ∷ 66 ∷ []) ∷ unused_with []
          ∷ owned_with 2 20 31 [] ∷ [];
    }

-- a superblock above 15, whose addresses are above 65535: N = 18, and superblock 17 is heap 2's only one
abbrev pub eighteen_superblocks : SuperblockAndPlaces → List SuperblockAndPlaces
eighteen_superblocks h = replicate 17 (unused_with []) ++ h ∷ []

abbrev pub from_superblock_17 : CallCase
from_superblock_17 = record {
  before = eighteen_superblocks (owned_with 2 21 5 (1 ∷ 3 ∷ []));
  call = Take 2 896;
  outcome = Address 72320;
  after = eighteen_superblocks (owned_with 2 21 13 (1 ∷ 3 ∷ []));
}

-- ---- frees. Processor 1 frees block 2 of heap 2's superblock 3: it goes in place 2, and the superblock stays heap 2's. It was not
-- ranked and goes to the front
abbrev pub freed_for_owner : CallCase
freed_for_owner =
    record {
      before = ranked_with 1 26 3 1 [] ∷ unused_with [] ∷ owned_with 2 26 1 (1 ∷ []) ∷ owned_with 2 20 13 (4 ∷ 1 ∷ 88 ∷ 89 ∷ [])
          ∷ ranked_with 1 20 7 2 (3 ∷ 4 ∷ []) ∷ [];
      call = Free 1 13824;
      outcome = Moves 0;
      after = ranked_with 1 26 3 2 [] ∷ unused_with [] ∷ owned_with 2 26 1 (1 ∷ []) ∷ ranked_with 2 20 9 1 (4 ∷ 1 ∷ 2 ∷ 89 ∷ [])
          ∷ ranked_with 1 20 7 3 (3 ∷ 4 ∷ []) ∷ [];
    }

-- heap 2 with 1, 2, 1, 1, 1 live: once block 0 of superblock 1 is freed, u + K × n < a and q × u < (q - p) × a as 5 + 2 < 10 and 35 < 40, then
-- 4 + 2 < 8 and 28 < 32, then 3 + 2 < 6 and 21 < 24, and then 2 + 2 is not below 4: three moves, of the lowest numbers,
-- whatever their ranks, which they keep. Superblock 1 was the third in the ranking
abbrev pub three_moves : CallCase
three_moves =
    record {
      before = ranked_with 2 26 2 2 (0 ∷ []) ∷ ranked_with 2 26 3 3 (55 ∷ 56 ∷ []) ∷ owned_with 2 26 1 (1 ∷ []) ∷ ranked_with 2 26 2 4 (0 ∷ [])
          ∷ ranked_with 2 26 1 1 (1 ∷ []) ∷ [];
      call = Free 1 4096;
      outcome = Moves 3;
      after = ranked_with 0 26 2 3 (0 ∷ []) ∷ ranked_with 0 26 2 1 (0 ∷ 56 ∷ []) ∷ owned_with 0 26 1 (1 ∷ []) ∷ ranked_with 2 26 2 4 (0 ∷ [])
          ∷ ranked_with 2 26 1 2 (1 ∷ []) ∷ [];
    }

-- "If the owner is heap 0 the call ends", though its superblocks would meet both conditions, and whatever heap the processor has. The superblock is
-- ranked there too
abbrev pub freed_in_heap_0 : CallCase
freed_in_heap_0 =
    record {
      before = owned_with 0 26 1 (1 ∷ []) ∷ owned_with 0 26 2 (0 ∷ 57 ∷ []) ∷ owned_with 0 26 2 (0 ∷ []) ∷ owned_with 2 26 2 (0 ∷ []) ∷ unused_with [] ∷ [];
      call = Free 2 6144;
      outcome = Moves 0;
      after = owned_with 0 26 1 (1 ∷ []) ∷ ranked_with 0 26 0 1 (0 ∷ 1 ∷ []) ∷ owned_with 0 26 2 (0 ∷ []) ∷ owned_with 2 26 2 (0 ∷ []) ∷ unused_with [] ∷ [];
    }

abbrev pub freed_in_superblock_17 : CallCase
freed_in_superblock_17 = record {
  before = eighteen_superblocks (owned_with 2 21 13 (1 ∷ 58 ∷ []));
  call = Free 1 72320;
  outcome = Moves 0;
  after = eighteen_superblocks (ranked_with 2 21 5 1 (1 ∷ 3 ∷ []));
}

-- ---- refused calls, each with the earlier of two refusals that it meets. Nothing is offered for class 26: heap 1's and heap 0's are full or of
-- another class, and superblocks from N on are none of the places'
abbrev pub nothing_offered : List SuperblockAndPlaces
nothing_offered = owned_with 2 26 1 (1 ∷ []) ∷ ranked_with 1 26 3 2 [] ∷ ranked_with 0 25 1 1 (1 ∷ []) ∷ owned_with 1 25 0 (1 ∷ 0 ∷ [])
    ∷ owned_with 2 24 0 (0 ∷ 1 ∷ []) ∷ []

abbrev pub refused_case : Call → ℕ → CallCase
refused_case call r = record { before = nothing_offered; call = call; outcome = Refused r; after = nothing_offered }

-- 2 before 3, which no size of 16 bits meets, and before 17; 17, not 4, of the long sizes, where no run is; then 4, of size 0 too
abbrev pub refused_takes : List CallCase
refused_takes =
    refused_case (Take 3 65536) 2 ∷ refused_case (Take 1 65536) 3 ∷ refused_case (Take 3 2049) 2 ∷ refused_case (Take 1 2049) 17
    ∷ refused_case (Take 1 65535) 17 ∷ refused_case (Take 1 2048) 4
    ∷ refused_case (Take 1 0) 4 ∷ []

-- 2 before 5; 5 before 6, where superblock 5 is unused; 6 before 7, where 1 is misaligned and no block starts there; 7 of block 1 of superblock 0
abbrev pub refused_frees : List CallCase
refused_frees = refused_case (Free 0 20480) 2 ∷ refused_case (Free 1 20481) 5 ∷ refused_case (Free 1 1) 6 ∷ refused_case (Free 1 2048) 7 ∷ []

-- ---- the rules leave what is expected: each state passes the check, and the call behind it leaves that
abbrev before_passes : CallCase → Bool
before_passes r = used_part_passes (state_before r) (order_before r)

abbrev pub whole_takes : List CallCase
whole_takes =
    from_place_1 ∷ last_freed_into_from_place_1 ∷ from_own_heap ∷ empty_from_place_1 ∷ from_place_2 ∷ last_freed_into_from_place_2 ∷ empty_from_place_2
    ∷ from_place_3 ∷ from_place_4 ∷ from_superblock_17
    ∷ refused_takes

takes_pass : map before_passes whole_takes ≡ map (λ (r : CallCase). true) whole_takes
unfolding used_part_definitions
takes_pass = refl

takes_behind_check : map result_behind_check whole_takes ≡ map expected_of whole_takes
unfolding unchecked_call_definitions
takes_behind_check = refl

pub whole_take_cases : map result_of whole_takes ≡ map expected_of whole_takes
whole_take_cases =
    ap (map seen) (calls_past_used_part state_before order_before (λ (r : CallCase). r.call) whole_takes refl refl takes_pass) ∙ takes_behind_check

abbrev pub whole_frees : List CallCase
whole_frees = freed_for_owner ∷ three_moves ∷ freed_in_heap_0 ∷ freed_in_superblock_17 ∷ refused_frees

frees_pass : map before_passes whole_frees ≡ map (λ (r : CallCase). true) whole_frees
unfolding used_part_definitions
frees_pass = refl

frees_behind_check : map result_behind_check whole_frees ≡ map expected_of whole_frees
unfolding unchecked_call_definitions
frees_behind_check = refl

pub whole_free_cases : map result_of whole_frees ≡ map expected_of whole_frees
whole_free_cases =
    ap (map seen) (calls_past_used_part state_before order_before (λ (r : CallCase). r.call) whole_frees refl refl frees_pass) ∙ frees_behind_check
