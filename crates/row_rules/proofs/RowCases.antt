-- Cases of the calls on a lent row, each shown whole: outcome, setup numbers, names, totals, row and all order places. No two of the numbers in them
-- are the same by chance. Assumes nothing.
use mathlib.Core.Path.{◌≡◌, refl, ap}
use mathlib.Core.List.{List, [], ◌∷◌, ◌++◌, map}
use Prim.Native.Nat.{ℕ}
use native.Mathlib.Omega.{arith}
use lib.ListN.{get_or, replicate}
use Rattle.base_laws.specs.Sums.{all_below}
use Rattle.order_rules.specs.Order.{cleared}
use Rattle.heap_rules.specs.declared.Superblock.{Superblock}
use Rattle.heap_rules.specs.declared.Setup.{Setup}
use Rattle.heap_rules.specs.declared.Totals.{Totals}
use Rattle.heap_rules.specs.Table.{is_unused, is_of_run}
use Rattle.check_rules.specs.Check.{within_limits, is_part_of_run, is_unowned, is_owned, superblock_valid, rest_valid}
use Rattle.call_rules.specs.declared.Outcome.{Outcome}
use Rattle.call_rules.specs.declared.Outcome.TheVariants.{Ready, Refused}
use Rattle.call_rules.specs.Answers.{checked}
use Rattle.call_rules.specs.Take.{take_of}
use Rattle.call_rules.specs.Drop.{drop_of}
use Rattle.call_rules.specs.Calls.{Call, Take, Free, NamedTake, NamedFree, Drop, call_of}
use Rattle.row_rules.specs.declared.Control.{Control}
use Rattle.row_rules.specs.Row.{RowAfter, setup_on, call_on, row_setup, row_call}
use Rattle.row_rules.specs.RowClaim.{RowStep, RowLinked}

-- P = 2, N = 1, K = 3, p/q = 4/5; the same with p not below q; and five zeros
abbrev pub example_setup : Setup
example_setup = record { processors = 2; superblocks = 1; spare = 3; p = 4; q = 5 }

abbrev pub setup_with_p_equal_q : Setup
setup_with_p_equal_q = record { processors = 2; superblocks = 1; spare = 3; p = 5; q = 5 }

abbrev pub zero_setup : Setup
zero_setup = record { processors = 0; superblocks = 0; spare = 0; p = 0; q = 0 }

-- name 6 held, at block 0 of superblock 0; and no name
abbrev pub name_6_held : List ℕ
name_6_held = replicate 6 65535 ++ 0 ∷ replicate 1017 65535

abbrev pub no_name_held : List ℕ
no_name_held = replicate 1024 65535

-- totals that no row has; and totals of 0
abbrev pub example_totals : Totals
example_totals = record { superblocks = replicate 242 21 ++ 22 ∷ []; live = replicate 242 23 ++ 24 ∷ [] }

abbrev pub zero_totals : Totals
zero_totals = record { superblocks = replicate 243 0; live = replicate 243 0 }

abbrev pub control_with : Setup → List ℕ → Totals → Control
control_with u names totals = record { setup = u; names = names; totals = totals }

abbrev pub example_control : Control
example_control = control_with example_setup name_6_held example_totals

abbrev pub control_with_p_equal_q : Control
control_with_p_equal_q = control_with setup_with_p_equal_q name_6_held example_totals

-- an unused superblock, the same with a rank, and a record that no check passes
abbrev pub unused_superblock : Superblock
unused_superblock = record { owner = 255; class = 0; live = 0 ∷ 0 ∷ 0 ∷ 0 ∷ []; rank = 0; run = 0 }

abbrev pub ranked_superblock : Superblock
ranked_superblock = record { owner = 255; class = 0; live = 0 ∷ 0 ∷ 0 ∷ 0 ∷ []; rank = 16; run = 0 }

abbrev pub invalid_superblock : Superblock
invalid_superblock = record { owner = 99; class = 33; live = 11 ∷ 12 ∷ 13 ∷ 14 ∷ []; rank = 15; run = 17 }

-- storage in which something stands: two places more than are needed, just as many, and one too few
abbrev pub storage_of_258 : List ℕ
storage_of_258 = replicate 256 7 ++ 8 ∷ 9 ∷ []

abbrev pub storage_of_256 : List ℕ
storage_of_256 = replicate 256 7

abbrev pub storage_of_255 : List ℕ
storage_of_255 = replicate 255 7

abbrev pub row_after_lem : Outcome → Control → List Superblock → List ℕ → RowAfter
row_after_lem outcome control row order = record { outcome = outcome; control = control; row = row; order = order }

-- ---- setups
pub record SetupCase : Type 0 where
  pub setup : Setup
  pub row : List Superblock
  pub order : List ℕ
  pub after : RowAfter

-- a refused setup hands back five zeros, no names and totals of 0, and leaves row and storage
abbrev pub setup_refused_case : ℕ → Setup → List Superblock → List ℕ → SetupCase
setup_refused_case r u row order =
    record { setup = u; row = row; order = order; after = row_after_lem (Refused r) (control_with zero_setup no_name_held zero_totals) row order }

-- "1, 12, then 13 for a lent row that is not 64 long"; an accepted one writes all 64 records, whatever they were, and the first N × 256 places, and
-- holds no names and has totals of 0; N × 256 places are enough
abbrev pub row_setup_cases : List SetupCase
row_setup_cases =
    setup_refused_case 1 setup_with_p_equal_q (replicate 63 invalid_superblock) storage_of_255
    ∷ setup_refused_case 12 example_setup (replicate 63 invalid_superblock) storage_of_255
    ∷ setup_refused_case 13 example_setup (replicate 63 invalid_superblock) storage_of_258
    ∷ setup_refused_case 13 example_setup (replicate 65 invalid_superblock) storage_of_258
    ∷ setup_refused_case 1 setup_with_p_equal_q (replicate 64 invalid_superblock) storage_of_258
    ∷ setup_refused_case 12 example_setup (replicate 64 invalid_superblock) storage_of_255
    ∷ record {
      setup = example_setup;
      row = replicate 64 invalid_superblock;
      order = storage_of_258;
      after = row_after_lem Ready (control_with example_setup no_name_held zero_totals) (replicate 64 unused_superblock) (replicate 256 0 ++ 8 ∷ 9 ∷ []);
    }
    ∷ record {
      setup = example_setup;
      row = replicate 64 invalid_superblock;
      order = storage_of_256;
      after = row_after_lem Ready (control_with example_setup no_name_held zero_totals) (replicate 64 unused_superblock) (replicate 256 0);
    } ∷ []

pub row_setup_cases_are_computed : map (λ (k : SetupCase). row_setup k.setup k.row k.order) row_setup_cases
    ≡ map (λ (k : SetupCase). k.after) row_setup_cases
unfolding setup_on within_limits cleared
row_setup_cases_are_computed = refl

-- ---- calls
pub record CallCase : Type 0 where
  pub control : Control
  pub row : List Superblock
  pub order : List ℕ
  pub call : Call
  pub after : RowAfter

-- a refused one hands back the setup numbers, the names and the totals, and leaves row and storage
abbrev pub call_refused_case : ℕ → Control → List Superblock → List ℕ → Call → CallCase
call_refused_case r control row order call =
    record { control = control; row = row; order = order; call = call; after = row_after_lem (Refused r) control row order }

-- "13 for setup numbers, 12, the rest of 13", in which is the row's length; N × 256 places are enough
abbrev pub row_call_cases : List CallCase
row_call_cases =
    call_refused_case 13 control_with_p_equal_q (replicate 63 ranked_superblock) storage_of_255 (Take 2 2048)
    ∷ call_refused_case 12 example_control (replicate 63 ranked_superblock) storage_of_255 (Take 2 2048)
    ∷ call_refused_case 13 example_control (replicate 63 ranked_superblock) storage_of_258 (Take 2 2048)
    ∷ call_refused_case 13 example_control (replicate 65 ranked_superblock) storage_of_258 (Free 2 0)
    ∷ call_refused_case 13 example_control (replicate 64 invalid_superblock) storage_of_258 (Take 2 2048)
    ∷ call_refused_case 12 example_control (replicate 65 ranked_superblock) storage_of_255 (NamedTake 2 10 2048)
    ∷ call_refused_case 13 example_control (replicate 63 ranked_superblock) storage_of_258 (NamedFree 2 6)
    ∷ call_refused_case 12 example_control (replicate 65 ranked_superblock) storage_of_255 (Drop 0 [])
    ∷ call_refused_case 13 example_control (replicate 65 ranked_superblock) storage_of_258 (Drop 0 [])
    ∷ call_refused_case 13 example_control (replicate 64 invalid_superblock) storage_of_258 (Drop 0 [])
    ∷ call_refused_case 13 example_control (replicate 63 ranked_superblock) storage_of_256 (Take 2 2048) ∷ []

pub row_call_cases_are_computed : map (λ (k : CallCase). row_call k.control k.row k.order k.call) row_call_cases
    ≡ map (λ (k : CallCase). k.after) row_call_cases
unfolding call_on call_of take_of drop_of checked within_limits rest_valid superblock_valid is_owned is_unowned is_unused is_part_of_run is_of_run all_below
row_call_cases_are_computed = refl

-- a call on 64 records leaves what the call on their state leaves: outcome, setup numbers, names, totals, row and storage, whatever the names, the totals, the
-- row and the call
pub call_on_64_is_computed : (names : List ℕ) (totals : Totals) (row : List Superblock) (call : Call)
    → (let a = call_of (record { setup = example_setup; table = row; names = names; totals = totals }) storage_of_258 call in
    call_on 64 (control_with example_setup names totals) row storage_of_258 call ≡ row_after_lem a.answer.outcome
    (control_with a.answer.state.setup a.answer.state.names a.answer.state.totals) a.answer.state.table a.order)
unfolding call_on within_limits
call_on_64_is_computed names totals row call = refl

-- ---- lists
abbrev pub refused_before : RowAfter
refused_before = row_after_lem (Refused 13) example_control (replicate 63 ranked_superblock) storage_of_258

abbrev pub refused_step : Call → Control → List Superblock → RowStep
refused_step call control row = record { call = call; after = row_after_lem (Refused 13) control row storage_of_258 }

-- each call gets the setup numbers, the names, the totals and the row that the one before it left
pub refused_calls_linked : RowLinked refused_before (refused_step (Take 2 2048) example_control (replicate 63 ranked_superblock)
    ∷ refused_step (Free 1 0) example_control (replicate 63 ranked_superblock) ∷ [])
unfolding RowLinked call_on within_limits
refused_calls_linked = (refl, (refl, tt))

-- a call that got another row is of no list
pub another_row_not_linked : RowLinked refused_before (refused_step (Take 2 2048) example_control (replicate 63 invalid_superblock) ∷ []) → ⊥
unfolding RowLinked call_on within_limits
another_row_not_linked linked =
    let z : ◌≡◌ {A = ℕ} 99 255 = ap (λ (x : RowAfter). (get_or x.row 0 unused_superblock).owner) linked.0 in
    absurd (omega (arith, z))

-- nor is one that got another storage
pub other_storage_not_linked :
    RowLinked refused_before
    (record { call = Take 2 2048; after = row_after_lem (Refused 13) example_control (replicate 63 ranked_superblock) (replicate 258 9) } ∷ []) → ⊥
unfolding RowLinked call_on within_limits
other_storage_not_linked linked =
    let z : ◌≡◌ {A = ℕ} 9 7 = ap (λ (x : RowAfter). get_or x.order 0 1) linked.0 in
    absurd (omega (arith, z))

-- nor is one that got other ranks
pub other_ranks_not_linked : RowLinked refused_before (refused_step (Take 2 2048) example_control (replicate 63 unused_superblock) ∷ []) → ⊥
unfolding RowLinked call_on within_limits
other_ranks_not_linked linked =
    let z : ◌≡◌ {A = ℕ} 0 16 = ap (λ (x : RowAfter). (get_or x.row 0 invalid_superblock).rank) linked.0 in
    absurd (omega (arith, z))

-- nor one that got other names
pub other_names_not_linked : RowLinked refused_before (refused_step (Take 2 2048) (control_with example_setup no_name_held example_totals)
    (replicate 63 ranked_superblock) ∷ []) → ⊥
unfolding RowLinked call_on within_limits
other_names_not_linked linked =
    let z : ◌≡◌ {A = ℕ} 65535 0 = ap (λ (x : RowAfter). get_or x.control.names 6 1) linked.0 in
    absurd (omega (arith, z))

-- nor one that got other totals
pub other_totals_not_linked : RowLinked refused_before (refused_step (Take 2 2048) (control_with example_setup name_6_held zero_totals)
    (replicate 63 ranked_superblock) ∷ []) → ⊥
unfolding RowLinked call_on within_limits
other_totals_not_linked linked =
    let z : ◌≡◌ {A = ℕ} 0 22 = ap (λ (x : RowAfter). get_or x.control.totals.superblocks 242 1) linked.0 in
    absurd (omega (arith, z))
