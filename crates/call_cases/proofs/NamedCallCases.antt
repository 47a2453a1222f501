-- Whole calls on states with names, with all that they leave, in cases that tell the rules from near misses. By computation. Assumes nothing.
use mathlib.Core.Path.{◌≡◌, refl, ap, ◌∙◌}
use mathlib.Core.Bool.{Bool, true}
use mathlib.Core.List.{List, [], ◌∷◌, map}
use Prim.Native.Nat.{ℕ}
use Rattle.names_rules.specs.Names.{no_names, with_name}
use Rattle.heap_rules.specs.declared.State.{State}
use Rattle.heap_rules.specs.States.{with_names}
use Rattle.heap_laws.proofs.UsedPartLaws.{used_part_definitions}
use Rattle.call_rules.specs.declared.Outcome.TheVariants.{Refused}
use Rattle.call_rules.specs.Calls.{Call, Take, Free, NamedTake, NamedFree, Drop, call_of, call_unchecked}
use Rattle.call_rules.proofs.CallDefinitions.{unchecked_call_definitions, call_definitions}
use Rattle.call_laws.proofs.UsedPartCallLaws.{used_part_passes, calls_past_used_part}
use Rattle.call_cases.proofs.WholeCallCases.{SuperblockAndPlaces, CallCase, Seen, seen, expected_of, state_of_lem, order_of, from_place_2, three_moves}
use Rattle.call_cases.proofs.WholeCallCases.{nothing_offered}

-- what a call does to superblocks and places, and the names before and after it
pub record NamedCallCase : Type 0 where
  pub named_call : Call
  pub effect : CallCase
  pub names : List ℕ
  pub names_after : List ℕ

abbrev pub named_before : NamedCallCase → State
named_before r = with_names (state_of_lem r.effect.before) r.names

abbrev pub order_before : NamedCallCase → List ℕ
order_before r = order_of r.effect.before

abbrev pub named_result_of : NamedCallCase → Seen
named_result_of r = seen (call_of (named_before r) (order_before r) r.named_call)

abbrev pub named_result_behind_check : NamedCallCase → Seen
named_result_behind_check r = seen (call_unchecked (named_before r) (order_before r) r.named_call)

abbrev pub named_expected_of : NamedCallCase → Seen
named_expected_of r = let e = expected_of r.effect in
    record { outcome = e.outcome; setup = e.setup; table = e.table; names = r.names_after; order = e.order; totals_recounted = e.totals_recounted }

-- the first names point at these blocks
abbrev pub naming : List (ℕ × ℕ) → List ℕ
naming [] = no_names
naming (x ∷ l) = with_name (naming l) x.0 x.1

-- ---- a take from place 2 that binds name 9 to block 2 of superblock 3; name 4, of block 1 of superblock 3, stays
abbrev pub named_from_place_2 : NamedCallCase
named_from_place_2 = record {
  named_call = NamedTake 2 9 1200;
  effect = from_place_2;
  names = naming ((4, 769) ∷ []);
  names_after = naming ((4, 769) ∷ (9, 770) ∷ []);
}

-- ---- a free by name that moves three superblocks; the name of a block in one of them stays, and a plain free does the same
abbrev pub named_three_moves : NamedCallCase
named_three_moves = record { named_call = NamedFree 1 5; effect = three_moves; names = naming ((5, 256) ∷ (6, 1) ∷ []); names_after = naming ((6, 1) ∷ []) }

abbrev pub plain_three_moves : NamedCallCase
plain_three_moves = record { named_call = Free 1 4096; effect = three_moves; names = naming ((5, 256) ∷ (6, 1) ∷ []); names_after = naming ((6, 1) ∷ []) }

-- and so does a drop of that address alone (document 02, item 5)
abbrev pub drop_three_moves : NamedCallCase
drop_three_moves = record { named_call = Drop 1 (4096 ∷ []); effect = three_moves; names = naming ((5, 256) ∷ (6, 1) ∷ []); names_after = naming ((6, 1) ∷ []) }

-- ---- refused calls keep their names
abbrev pub refused_with : Call → ℕ → List SuperblockAndPlaces → List (ℕ × ℕ) → NamedCallCase
refused_with call r before l = record {
  named_call = call;
  effect = record { before = before; call = call; outcome = Refused r; after = before };
  names = naming l;
  names_after = naming l;
}

-- 14 before 4, and 4; 15; and a drop's double
abbrev pub refused_named_calls : List NamedCallCase
refused_named_calls =
    refused_with (NamedTake 1 5 2048) 14 nothing_offered ((5, 256) ∷ []) ∷ refused_with (NamedTake 1 6 2048) 4 nothing_offered ((5, 256) ∷ [])
    ∷ refused_with (NamedFree 1 6) 15 nothing_offered ((5, 256) ∷ [])
    ∷ refused_with (Drop 1 (4096 ∷ 4096 ∷ [])) 7 three_moves.before ((5, 256) ∷ (6, 1) ∷ []) ∷ []

-- ---- the rules leave what is expected: each state passes the check, and the call behind it leaves that
abbrev pub named_passes : NamedCallCase → Bool
named_passes r = used_part_passes (named_before r) (order_before r)

abbrev pub named_calls : List NamedCallCase
named_calls = named_from_place_2 ∷ named_three_moves ∷ plain_three_moves ∷ drop_three_moves ∷ refused_named_calls

named_calls_pass : map named_passes named_calls ≡ map (λ (r : NamedCallCase). true) named_calls
unfolding used_part_definitions
named_calls_pass = refl

named_calls_behind_check : map named_result_behind_check named_calls ≡ map named_expected_of named_calls
unfolding unchecked_call_definitions
named_calls_behind_check = refl

pub named_call_cases : map named_result_of named_calls ≡ map named_expected_of named_calls
named_call_cases =
    ap (map seen) (calls_past_used_part named_before order_before (λ (r : NamedCallCase). r.named_call) named_calls refl refl named_calls_pass)
    ∙ named_calls_behind_check

-- ---- 13 for a name at a free block and for two names at one block, for a plain call too and before 2, and before a drop's 2 and 16. These are computed with
-- the check
abbrev pub wrongly_named_calls : List NamedCallCase
wrongly_named_calls =
    refused_with (NamedFree 0 5) 13 three_moves.before ((5, 0) ∷ []) ∷ refused_with (Take 1 2048) 13 three_moves.before ((5, 256) ∷ (6, 256) ∷ [])
    ∷ refused_with (Drop 0 []) 13 three_moves.before ((5, 0) ∷ []) ∷ []

pub wrongly_named_call_cases : map named_result_of wrongly_named_calls ≡ map named_expected_of wrongly_named_calls
unfolding call_definitions
wrongly_named_call_cases = refl
