-- Cases of whole calls on a lent row of 64 records that pass the check: refusals, a take, a free, and lists of them; and of rows that do not pass it. Assumes
-- nothing.
use mathlib.Core.Path.{◌≡◌, refl, sym, ap, ◌∙◌, subst}
use mathlib.Core.Bool.{Bool, true, false}
use mathlib.Core.List.{List, [], ◌∷◌, ◌++◌, map}
use Prim.Native.Nat.{ℕ, ◌+◌, ◌*◌, ◌≤◌}
use native.Mathlib.Omega.{arith}
use lib.ListN.{get_or, replicate}
use lib.Dec.{T}
use Rattle.base_laws.specs.Sums.{both, all_below}
use Rattle.base_laws.proofs.TestLaws.{both_make}
use Rattle.heap_rules.specs.declared.Superblock.{Superblock}
use Rattle.heap_rules.specs.declared.Totals.{Totals}
use Rattle.heap_rules.specs.declared.State.{State}
use Rattle.heap_rules.specs.Table.{with_rank, superblock_at, is_of_heap}
use Rattle.heap_rules.specs.Counts.{is_owned_of_class, superblocks_of_class, owners_changed, passed_between_heaps}
use Rattle.check_rules.specs.Check.{within_limits, unused_from, names_valid, totals_valid, ranks_valid, runs_valid, rest_valid}
use Rattle.check_rules.proofs.CheckDefinitions.{check_definitions}
use Rattle.check_rules.proofs.ClauseLaws.{clauses_of_rest}
use Rattle.heap_laws.proofs.UsedPartLaws.{used_part_definitions}
use Rattle.call_rules.specs.Calls.{Call, Take, Free, NamedTake, NamedFree, Drop, call_of, call_unchecked}
use Rattle.call_rules.specs.declared.Outcome.TheVariants.{Ready, Address, Moves, Refused}
use Rattle.call_rules.specs.Answers.{After, values_of}
use Rattle.call_rules.specs.Setup.{setup_of}
use Rattle.call_rules.proofs.CallDefinitions.{unchecked_call_definitions, call_definitions}
use Rattle.claim_rules.specs.Claim.{Bounded, frees_run, OwnerChanges, Claims, steps_by}
use Rattle.claim_rules.proofs.LedgerDefinitions.{ledger_definitions}
use Rattle.claim_laws.proofs.CallListLaws.{steps_are_unchecked}
use Rattle.claim_laws.proofs.CallListCases.{whole_list}
use Rattle.row_rules.specs.declared.Control.{Control}
use Rattle.row_rules.specs.Row.{RowAfter, setup_on, row_setup, row_call}
use Rattle.row_rules.specs.RowClaim.{RowStep, RowLinked, RowClaims, as_after}
use Rattle.row_rules.proofs.RowCases.{CallCase, call_refused_case, row_after_lem, control_with, example_setup, name_6_held, no_name_held, example_totals}
use Rattle.row_rules.proofs.RowCases.{zero_totals, unused_superblock, invalid_superblock, storage_of_258}
use Rattle.row_laws.proofs.RowCaseLaws.{row_call_of, row_passes, row_call_behind_check, row_call_past_check, row_calls_past_check}
use Rattle.row_laws.proofs.RowCaseLaws.{refused_by, row_calls_refused}
use Rattle.row_laws.proofs.RowLaws.{row_setup_ready}
use Rattle.row_laws.proofs.RowDemand3.{row_demand_3, row_steps, row_steps_linked, row_steps_are_steps}

-- superblock 0 with its first 2048 bytes live, and then, freed into, with nothing live
abbrev pub first_block_live : Superblock
first_block_live = record { owner = 2; class = 26; live = 1 ∷ 0 ∷ 0 ∷ 0 ∷ []; rank = 0; run = 0 }

abbrev pub no_block_live : Superblock
no_block_live = record { owner = 2; class = 26; live = 0 ∷ 0 ∷ 0 ∷ 0 ∷ []; rank = 1; run = 0 }

-- the totals with superblock 0 in use: heap 2 and class 26 have one superblock and so many live blocks
abbrev pub totals_with_live : ℕ → Totals
totals_with_live n = record { superblocks = replicate 80 0 ++ 1 ∷ replicate 162 0; live = replicate 80 0 ++ n ∷ replicate 162 0 }

-- the control of an unused row with no name
abbrev pub unnamed_control : Control
unnamed_control = control_with example_setup no_name_held zero_totals

abbrev pub unused_row : List Superblock
unused_row = replicate 64 unused_superblock

-- what a take of the first block leaves, with the names then, and a free of it
abbrev pub row_after_take : List ℕ → RowAfter
row_after_take names = row_after_lem (Address 0) (control_with example_setup names (totals_with_live 1)) (first_block_live ∷ replicate 63 unused_superblock)
    (1 ∷ 0 ∷ replicate 254 7 ++ 8 ∷ 9 ∷ [])

abbrev pub row_after_free : RowAfter
row_after_free = row_after_lem (Moves 0) (control_with example_setup no_name_held (totals_with_live 0)) (no_block_live ∷ replicate 63 unused_superblock)
    (1 ∷ 0 ∷ replicate 254 7 ++ 8 ∷ 9 ∷ [])

-- a call on the row that such a take left; and one that is refused there
abbrev pub case_after : RowAfter → Call → RowAfter → CallCase
case_after before call after = record { control = before.control; row = before.row; order = before.order; call = call; after = after }

abbrev pub refused_after : RowAfter → Call → ℕ → CallCase
refused_after before call r = call_refused_case r before.control before.row before.order call

-- the call's own refusals; an accepted take and free write their superblock's record and its order places
abbrev pub whole_row_call_cases : List CallCase
whole_row_call_cases =
    call_refused_case 17 unnamed_control unused_row storage_of_258 (Take 2 4097) ∷ call_refused_case 5 unnamed_control unused_row storage_of_258 (Free 2 0)
    ∷ record { control = unnamed_control; row = unused_row; order = storage_of_258; call = Take 2 2048; after = row_after_take no_name_held }
    ∷ case_after (row_after_take no_name_held) (Free 1 0) row_after_free ∷ []

whole_row_calls_pass : map row_passes whole_row_call_cases ≡ map (λ (k : CallCase). true) whole_row_call_cases
unfolding used_part_definitions
whole_row_calls_pass = refl

whole_row_calls_behind_check : map row_call_behind_check whole_row_call_cases ≡ map (λ (k : CallCase). k.after) whole_row_call_cases
unfolding unchecked_call_definitions
whole_row_calls_behind_check = refl

pub whole_row_call_cases_are_computed : map (λ (k : CallCase). row_call k.control k.row k.order k.call) whole_row_call_cases
    ≡ map (λ (k : CallCase). k.after) whole_row_call_cases
whole_row_call_cases_are_computed = row_calls_past_check whole_row_call_cases refl whole_row_calls_pass ∙ whole_row_calls_behind_check

-- Names: an accepted named take hands its name back held; a held name is refused, 14, and handed back; either free of its block lets it go; and then it is not
-- held, 15
abbrev pub named_row_call_cases : List CallCase
named_row_call_cases =
    record { control = unnamed_control; row = unused_row; order = storage_of_258; call = NamedTake 2 6 2048; after = row_after_take name_6_held }
    ∷ refused_after (row_after_take name_6_held) (NamedTake 1 6 2048) 14
    ∷ case_after (row_after_take name_6_held) (Free 1 0) row_after_free ∷ case_after (row_after_take name_6_held) (NamedFree 1 6) row_after_free
    ∷ refused_after row_after_free (NamedFree 1 6) 15 ∷ []

named_row_calls_pass : map row_passes named_row_call_cases ≡ map (λ (k : CallCase). true) named_row_call_cases
unfolding used_part_definitions
named_row_calls_pass = refl

named_row_calls_behind_check : map row_call_behind_check named_row_call_cases ≡ map (λ (k : CallCase). k.after) named_row_call_cases
unfolding unchecked_call_definitions
named_row_calls_behind_check = refl

pub named_row_call_cases_are_computed : map (λ (k : CallCase). row_call k.control k.row k.order k.call) named_row_call_cases
    ≡ map (λ (k : CallCase). k.after) named_row_call_cases
named_row_call_cases_are_computed = row_calls_past_check named_row_call_cases refl named_row_calls_pass ∙ named_row_calls_behind_check

-- a name at a block that is not live fails the check, 13, and is handed back
abbrev pub wrong_names_cases : List CallCase
wrong_names_cases = call_refused_case 13 (control_with example_setup name_6_held zero_totals) unused_row storage_of_258 (NamedTake 2 10 2048) ∷ []

wrong_names_refused : map (refused_by names_valid) wrong_names_cases ≡ map (λ (k : CallCase). true) wrong_names_cases
unfolding check_definitions
wrong_names_refused = refl

pub wrong_names_cases_are_computed : map row_call_of wrong_names_cases ≡ map (λ (k : CallCase). k.after) wrong_names_cases
wrong_names_cases_are_computed = row_calls_refused names_valid (λ s order t. (clauses_of_rest s order t).names) wrong_names_cases wrong_names_refused

-- Totals: one that is not the recount fails the check, 13, whether of live blocks or of superblocks, and is handed back
abbrev pub wrong_totals_cases : List CallCase
wrong_totals_cases =
    call_refused_case 13 (control_with example_setup no_name_held (totals_with_live 2)) row_after_free.row row_after_free.order (Take 2 2048)
    ∷ call_refused_case 13 (control_with example_setup no_name_held (totals_with_live 0)) unused_row storage_of_258 (Take 2 2048)
    ∷ call_refused_case 13 (control_with example_setup no_name_held example_totals) unused_row storage_of_258 (NamedTake 2 6 2048) ∷ []

wrong_totals_refused : map (refused_by totals_valid) wrong_totals_cases ≡ map (λ (k : CallCase). true) wrong_totals_cases
unfolding check_definitions
wrong_totals_refused = refl

pub wrong_totals_cases_are_computed : map (λ (k : CallCase). row_call k.control k.row k.order k.call) wrong_totals_cases
    ≡ map (λ (k : CallCase). k.after) wrong_totals_cases
wrong_totals_cases_are_computed = row_calls_refused totals_valid (λ s order t. (clauses_of_rest s order t).totals) wrong_totals_cases wrong_totals_refused

-- Ranks: a row with a rank of 2 alone, or with an unused record ranked, fails the check, 13, and keeps them
abbrev pub wrong_ranks_cases : List CallCase
wrong_ranks_cases =
    call_refused_case 13 row_after_free.control (with_rank 2 no_block_live ∷ replicate 63 unused_superblock) row_after_free.order (Take 2 2048)
    ∷ call_refused_case 13 unnamed_control (with_rank 1 unused_superblock ∷ replicate 63 unused_superblock) storage_of_258 (Take 2 2048) ∷ []

wrong_ranks_refused : map (refused_by ranks_valid) wrong_ranks_cases ≡ map (λ (k : CallCase). true) wrong_ranks_cases
unfolding check_definitions
wrong_ranks_refused = refl

pub wrong_ranks_cases_are_computed : map (λ (k : CallCase). row_call k.control k.row k.order k.call) wrong_ranks_cases
    ≡ map (λ (k : CallCase). k.after) wrong_ranks_cases
wrong_ranks_cases_are_computed = row_calls_refused ranks_valid (λ s order t. (clauses_of_rest s order t).ranks) wrong_ranks_cases wrong_ranks_refused

-- Long blocks (document 02, item 7): with N = 1 a size of 2049 takes superblock 0 as a run of one and writes no order place; another address in it is
-- refused 6; either free makes it unused; the name that holds it is handed back, and let go
abbrev pub run_part_lem : ℕ → Superblock
run_part_lem n = record { owner = 254; class = 0; live = 0 ∷ 0 ∷ 0 ∷ 0 ∷ []; rank = 0; run = n }

abbrev pub row_after_long_take : List ℕ → RowAfter
row_after_long_take names = row_after_lem (Address 0) (control_with example_setup names zero_totals) (run_part_lem 1 ∷ replicate 63 unused_superblock)
    storage_of_258

abbrev pub row_after_long_free : RowAfter
row_after_long_free = row_after_lem (Moves 0) unnamed_control unused_row storage_of_258

abbrev pub long_row_call_cases : List CallCase
long_row_call_cases =
    record { control = unnamed_control; row = unused_row; order = storage_of_258; call = Take 2 2049; after = row_after_long_take no_name_held }
    ∷ refused_after (row_after_long_take no_name_held) (Free 1 2048) 6 ∷ refused_after (row_after_long_take no_name_held) (Take 1 16) 4
    ∷ refused_after (row_after_long_take no_name_held) (Take 1 2049) 17
    ∷ case_after (row_after_long_take no_name_held) (Free 1 0) row_after_long_free
    ∷ record { control = unnamed_control; row = unused_row; order = storage_of_258; call = NamedTake 2 6 2049; after = row_after_long_take name_6_held }
    ∷ case_after (row_after_long_take name_6_held) (NamedFree 1 6) row_after_long_free ∷ case_after (row_after_long_take name_6_held)
    (Drop 1 (0 ∷ [])) row_after_long_free ∷ []

long_row_calls_pass : map row_passes long_row_call_cases ≡ map (λ (k : CallCase). true) long_row_call_cases
unfolding used_part_definitions
long_row_calls_pass = refl

long_row_calls_behind_check : map row_call_behind_check long_row_call_cases ≡ map (λ (k : CallCase). k.after) long_row_call_cases
unfolding unchecked_call_definitions
long_row_calls_behind_check = refl

pub long_row_call_cases_are_computed : map (λ (k : CallCase). row_call k.control k.row k.order k.call) long_row_call_cases
    ≡ map (λ (k : CallCase). k.after) long_row_call_cases
long_row_call_cases_are_computed = row_calls_past_check long_row_call_cases refl long_row_calls_pass ∙ long_row_calls_behind_check

-- the clauses of runs: that they are whole, and below N
abbrev runs_whole_and_below_n : State → Bool
runs_whole_and_below_n s = both (runs_valid s) (all_below (λ k. unused_from s.setup.superblocks k (superblock_at s k)) 64)

asks_runs : (s : State) (order : List ℕ) → T (rest_valid s order) → T (runs_whole_and_below_n s)
asks_runs s order t = let clauses = clauses_of_rest s order t in both_make (runs_valid s) _ clauses.runs clauses.past_unused

-- Runs: a row with a run that is cut off, one whose first record carries no length, one past N or an unused record that carries a length fails the
-- check, 13, and keeps them
abbrev pub wrong_runs_cases : List CallCase
wrong_runs_cases =
    map (λ (row : List Superblock). call_refused_case 13 unnamed_control row storage_of_258 (Take 2 2048))
    ((run_part_lem 2 ∷ replicate 63 unused_superblock) ∷ (run_part_lem 0 ∷ replicate 63 unused_superblock)
    ∷ (unused_superblock ∷ run_part_lem 1 ∷ replicate 62 unused_superblock)
    ∷ (record { owner = 255; class = 0; live = 0 ∷ 0 ∷ 0 ∷ 0 ∷ []; rank = 0; run = 1 } ∷ replicate 63 unused_superblock) ∷ [])

wrong_runs_refused : map (refused_by runs_whole_and_below_n) wrong_runs_cases ≡ map (λ (k : CallCase). true) wrong_runs_cases
unfolding check_definitions
wrong_runs_refused = refl

pub wrong_runs_cases_are_computed : map (λ (k : CallCase). row_call k.control k.row k.order k.call) wrong_runs_cases
    ≡ map (λ (k : CallCase). k.after) wrong_runs_cases
wrong_runs_cases_are_computed = row_calls_refused runs_whole_and_below_n asks_runs wrong_runs_cases wrong_runs_refused

-- ---- lists
abbrev pub row_after_setup : RowAfter
row_after_setup = row_after_lem Ready unnamed_control unused_row storage_of_258

abbrev pub take_step : RowStep
take_step = record { call = Take 2 2048; after = row_after_take no_name_held }

abbrev pub free_step : RowStep
free_step = record { call = Free 1 0; after = row_after_free }

-- what a case of a list left, by its number from 0 on
nth_after : (n : ℕ) (l : List CallCase) → map row_call_of l ≡ map (λ (k : CallCase). k.after) l
    → get_or (map (λ (k : CallCase). k.after) l) n row_after_setup ≡ get_or (map row_call_of l) n row_after_setup
nth_after n l e = sym (ap (λ (x : List RowAfter). get_or x n row_after_setup) e)

-- each call gets the row and the storage that the one before it left
pub take_then_free_linked : RowLinked row_after_setup (take_step ∷ free_step ∷ [])
unfolding RowLinked
take_then_free_linked =
    let computed = whole_row_call_cases_are_computed in
    (nth_after 2 whole_row_call_cases computed, (nth_after 3 whole_row_call_cases computed, tt))

-- and the names that it handed back: a block that is taken by name is freed by it
pub named_take_then_named_free_linked : RowLinked row_after_setup (record { call = NamedTake 2 6 2048; after = row_after_take name_6_held }
    ∷ record { call = NamedFree 1 6; after = row_after_free } ∷ [])
unfolding RowLinked
named_take_then_named_free_linked =
    let computed = named_row_call_cases_are_computed in
    (nth_after 0 named_row_call_cases computed, (nth_after 3 named_row_call_cases computed, tt))

-- and the run that it wrote: a long block that is taken is freed
pub long_take_then_free_linked : RowLinked row_after_setup (record { call = Take 2 2049; after = row_after_long_take no_name_held }
    ∷ record { call = Free 1 0; after = row_after_long_free } ∷ [])
unfolding RowLinked
long_take_then_free_linked =
    let computed = long_row_call_cases_are_computed in
    (nth_after 0 long_row_call_cases computed, (nth_after 4 long_row_call_cases computed, tt))

-- a second take on the row that the setup wrote is no list: the same block is not taken twice
abbrev second_take : CallCase
second_take = case_after (row_after_take no_name_held) (Take 2 2048) (row_after_take no_name_held)

second_take_passes : row_passes second_take ≡ true
unfolding used_part_definitions
second_take_passes = refl

second_take_address : values_of (row_call_behind_check second_take).outcome ≡ 2048 ∷ []
unfolding unchecked_call_definitions values_of
second_take_address = refl

pub same_take_twice_not_linked : RowLinked row_after_setup (take_step ∷ take_step ∷ []) → ⊥
unfolding RowLinked values_of
same_take_twice_not_linked linked =
    let second = linked.1.0 ∙ row_call_past_check second_take refl second_take_passes in
    let z : ◌≡◌ {A = ℕ} 0 2048 = ap (λ (l : List ℕ). get_or l 0 0) (ap (λ (x : RowAfter). values_of x.outcome) second ∙ second_take_address) in
    absurd (omega (arith, z))

-- ---- the claim speaks of a list on a row: document 01's whole case, on 64 records and order places in which anything stood
abbrev records_before : List Superblock
records_before = replicate 64 invalid_superblock

abbrev places_before : List ℕ
places_before = replicate 512 7

abbrev pub row_start : RowAfter
row_start = row_setup whole_list.setup records_before places_before

row_start_ready : row_start.outcome ≡ Ready
unfolding setup_on within_limits
row_start_ready = refl

pub claims_of_row_list : RowClaims whole_list.setup row_start [] (λ c. 0) (row_steps row_start whole_list.calls)
claims_of_row_list =
    row_demand_3 whole_list.setup records_before places_before row_start refl row_start_ready (row_steps row_start whole_list.calls)
    (row_steps_linked row_start whole_list.calls)

-- .. and of the calls behind the check, by which what it says is computed
abbrev state_start : After
state_start = setup_of whole_list.setup places_before

row_list_claimed : Claims whole_list.setup state_start [] (λ c. 0) (steps_by call_unchecked state_start whole_list.calls)
row_list_claimed =
    let starts = row_setup_ready whole_list.setup records_before places_before row_start_ready in
    let ready : state_start.answer.outcome ≡ Ready = ap (λ (x : After). x.answer.outcome) (sym starts.1) ∙ row_start_ready in
    subst (Claims whole_list.setup state_start [] (λ c. 0)) (steps_are_unchecked whole_list.setup places_before ready whole_list.calls)
    (subst (λ (x : After). Claims whole_list.setup x [] (λ c. 0) (steps_by call_of x whole_list.calls)) starts.1
    (subst (Claims whole_list.setup (as_after row_start) [] (λ c. 0)) (row_steps_are_steps row_start whole_list.calls starts.2) claims_of_row_list))

-- the free that moves a superblock, and the last call, a take that is refused; the bound after it, of class 26
pub owners_of_row_list : OwnerChanges 4 1 1 false (Free 1 2048) (Moves 1) × OwnerChanges 4 0 0 false (Take 1 2049) (Refused 17)
unfolding Claims frees_run ledger_definitions steps_by call_definitions owners_changed passed_between_heaps is_of_heap
owners_of_row_list = (row_list_claimed.2.2.2.2.2.1, row_list_claimed.2.2.2.2.2.2.2.1)

pub bound_of_row_list : 3 * 2 * 1 ≤ 4 * 3 + 3 * 1 * 1 * 2
unfolding Claims Bounded ledger_definitions steps_by call_definitions superblocks_of_class is_owned_of_class is_of_heap
bound_of_row_list = row_list_claimed.2.2.2.2.2.2.2.2 26 (omega arith)
