-- The parts of named calls in cases that tell them from near misses, by computation. Assumes nothing.
use mathlib.Core.Path.{◌≡◌, refl}
use mathlib.Core.Bool.{true, false}
use mathlib.Core.List.{[], ◌∷◌, map}
use lib.ListN.{replicate}
use Rattle.base_laws.proofs.Stages.{◌also◌}
use Rattle.names_rules.specs.Names.{no_names, with_name}
use Rattle.heap_rules.specs.Table.{unused}
use Rattle.heap_rules.specs.States.{with_names}
use Rattle.heap_rules.proofs.CaseStates.{unnamed_state}
use Rattle.heap_rules.proofs.TableCases.{of, ranked}
use Rattle.call_rules.specs.declared.Outcome.TheVariants.{Ready, Address, Moves, Refused}
use Rattle.call_rules.specs.Free.{block_number_at, block_freed}
use Rattle.call_rules.specs.Named.{is_unavailable, name_bound, bound_by, held_address}
use Rattle.call_rules.proofs.CallDefinitions.{unchecked_call_definitions}
use Rattle.call_rules.proofs.RuleCases.{setup_with, refusal_state, rules_hold}
use Rattle.call_rules.proofs.PairStates.{named_state}

-- 14: "taken name or one above 1023"
pub is_unavailable_cases : map (is_unavailable named_state) (5 ∷ 1022 ∷ 4 ∷ 0 ∷ 1023 ∷ 1024 ∷ 65535 ∷ []) ≡ true ∷ true ∷ false ∷ false ∷ false ∷ true
    ∷ true ∷ []
unfolding rules_hold unchecked_call_definitions
is_unavailable_cases = refl

-- superblock 3 of class 20, of blocks of 768 bytes, and 4 of class 1, of 24; the first and the last block of superblock 63; past the table there is no block
pub block_number_at_cases : map (block_number_at refusal_state) (12288 ∷ 13824 ∷ 20440 ∷ 258048 ∷ 262143 ∷ 262144 ∷ []) ≡ 768 ∷ 770 ∷ 1193 ∷ 16128 ∷ 16383
    ∷ 65535 ∷ []
unfolding rules_hold unchecked_call_definitions
block_number_at_cases = refl

-- and the last block of a superblock of class 0, before one of another class
pub held_address_cases :
    map (held_address (with_names refusal_state (with_name (with_name no_names 0 770) 1023 1193))) (0 ∷ 1023 ∷ []) ≡ 13824 ∷ 20440 ∷ []
    × held_address (with_names (unnamed_state (setup_with 2 2 1 3 7) (of 1 0 1 ∷ of 2 26 3 ∷ replicate 62 unused)) (with_name no_names 3 255)) 3 ≡ 4080
unfolding rules_hold unchecked_call_definitions
held_address_cases = (refl, refl)

-- name 7 points at block 2 of superblock 3; the other names and the superblocks are as they were
pub name_bound_case : name_bound 7 13824 (with_names refusal_state (with_name no_names 8 768))
    ≡ with_names refusal_state (with_name (with_name no_names 8 768) 7 770)
unfolding rules_hold unchecked_call_definitions
name_bound_case = refl

-- "a refused take binds none", and only an address binds one
pub bound_by_cases :
    bound_by Ready 7 refusal_state ∷ bound_by (Address 13824) 7 refusal_state ∷ bound_by (Moves 3) 7 refusal_state ∷ bound_by (Refused 4) 7 refusal_state ∷ []
    ≡ refusal_state ∷ with_names refusal_state (with_name no_names 7 770) ∷ refusal_state ∷ refusal_state ∷ []
unfolding rules_hold unchecked_call_definitions
bound_by_cases = refl

-- the cases so far take little; the one that follows is computed where they hold
unfoldable quick_named_hold : Unit {0}
quick_named_hold = is_unavailable_cases also block_number_at_cases also held_address_cases also name_bound_case also bound_by_cases also tt

-- block 2 of superblock 3 loses its mark and its name 7; name 8, of block 0, stays; superblock 3 is the last freed into, and those that were ranked follow
pub block_freed_case :
    block_freed (with_names refusal_state (with_name (with_name no_names 8 768) 7 770)) 13824
    ≡ with_names (unnamed_state (setup_with 2 5 1 3 7) (ranked 1 26 3 3 ∷ unused ∷ ranked 2 26 1 4 ∷ ranked 2 20 9 1
    ∷ record { owner = 1; class = 1; live = 0 ∷ 0 ∷ 2199023255552 ∷ 0 ∷ []; rank = 2; run = 0 } ∷ replicate 59 unused)) (with_name no_names 8 768)
unfolding quick_named_hold unchecked_call_definitions
block_freed_case = refl

unfoldable pub named_parts_hold : Unit {0}
named_parts_hold = block_freed_case also tt
