-- Names on a lent row (document 02, item 2). Assumes nothing.
use mathlib.Core.Path.{◌≡◌, sym, ap, ◌∙◌}
use mathlib.Core.Bool.{true, false}
use mathlib.Core.Logic.{⊎_elim}
use mathlib.Core.List.{List, [], map}
use Prim.Native.Nat.{ℕ}
use lib.ListN.{length}
use lib.Dec.{T}
use Rattle.names_rules.specs.Names.{block_named, is_held}
use Rattle.names_laws.proofs.NameLaws.{not_held_of_no_names}
use Rattle.heap_rules.specs.declared.Superblock.{Superblock}
use Rattle.heap_rules.specs.declared.Setup.{Setup}
use Rattle.heap_laws.proofs.StateFacts.{Shape}
use Rattle.call_rules.specs.declared.Outcome.TheVariants.{Ready, Refused}
use Rattle.call_rules.specs.Answers.{is_processor}
use Rattle.call_rules.specs.Named.{is_unavailable, with_name_bound, held_address}
use Rattle.call_rules.specs.Calls.{Call, Take, Free, NamedTake, NamedFree, call_of}
use Rattle.call_laws.proofs.CallEffects.{Passed}
use Rattle.call_laws.proofs.NamedCallLaws.{named_take_is_plain_take, named_free_is_free_of_held_address}
use Rattle.call_laws.proofs.NameLifetime.{FreesBlockOf, held_name_kept_until_freed, name_let_go_when_freed}
use Rattle.claim_rules.specs.NamesClaim.{NamesAgreeOver, NamesHoldOver, NameRefusalsOver}
use Rattle.claim_laws.proofs.NamesAgree.{ledger_and_state_names_agree}
use Rattle.claim_laws.proofs.NamesHold.{names_hold_over_list, name_refusals_over_list}
use Rattle.row_rules.specs.declared.Control.{Control}
use Rattle.row_rules.specs.Row.{RowAfter, state_of, as_row_after, row_setup, row_call}
use Rattle.row_rules.specs.RowClaim.{RowStep, RowLinked, as_after, step_of}
use Rattle.row_laws.proofs.RowLaws.{call_on_64_is_call_of, row_setup_refused_or_accepted, row_call_refused}
use Rattle.row_laws.proofs.RowDemand3.{row_list_is_call_list}

-- "A new or refused setup holds no names"
pub row_setup_holds_no_names : (u : Setup) (row : List Superblock) (order : List ℕ) (m : ℕ) → is_held (row_setup u row order).control.names m ≡ false
row_setup_holds_no_names u row order m =
    ⊎_elim (λ h. ap (λ (x : RowAfter). is_held x.control.names m) h.1 ∙ not_held_of_no_names m)
    (λ h. ap (λ (x : RowAfter). is_held x.control.names m) h.2 ∙ not_held_of_no_names m)
    (row_setup_refused_or_accepted u row order)

-- "a refused take binds none", and no refused call changes a name
pub refused_row_call_keeps_names : (control : Control) (row : List Superblock) (order : List ℕ) (call : Call) (r : ℕ)
    → (row_call control row order call).outcome ≡ Refused r
    → (row_call control row order call).control.names ≡ control.names
refused_row_call_keeps_names control row order call r e = ap (λ (x : RowAfter). x.control.names) (row_call_refused control row order call r e)

-- "A named call does what the plain one does, a free with the held address", on a row of 64 records that passes, for a processor in range
module _ (control : Control) (row : List Superblock) (order : List ℕ) (i m : ℕ) (long : length row ≡ 64) (passed : Passed (state_of control row) order)
    (p : is_processor (state_of control row) i ≡ true) where
  row_call_is_call_of : (call : Call) → row_call control row order call ≡ as_row_after (call_of (state_of control row) order call)
  row_call_is_call_of call = call_on_64_is_call_of (length row) control row order call long

  -- a take for a name that is free is the plain take with the name bound
  pub row_named_take_is_plain_take : (size : ℕ) → is_unavailable (state_of control row) m ≡ false → row_call control row order (NamedTake i m size)
      ≡ as_row_after (with_name_bound m (call_of (state_of control row) order (Take i size)))
  unfolding call_of
  row_named_take_is_plain_take size free = row_call_is_call_of (NamedTake i m size)
      ∙ ap as_row_after (named_take_is_plain_take (state_of control row) order i m size passed p free)

  -- a free of a held name is the plain free of its address
  pub row_named_free_is_free_of_held_address : is_held control.names m ≡ true → row_call control row order (NamedFree i m) ≡ row_call control row order
      (Free i (held_address (state_of control row) m))
  unfolding call_of
  row_named_free_is_free_of_held_address held =
      row_call_is_call_of (NamedFree i m) ∙ ap as_row_after (named_free_is_free_of_held_address (state_of control row) order i m passed p held)
      ∙ sym (row_call_is_call_of (Free i (held_address (state_of control row) m)))

-- "A name holds from its take until its block is freed by either command", by one call on a row of 64 records: it keeps its block through every call that
-- does not free it, and is let go by one that does
module _ (control : Control) (row : List Superblock) (order : List ℕ) (shape : Shape (state_of control row)) (m : ℕ) (call : Call) where
  pub row_held_name_kept_until_freed : T (is_held control.names m) → (FreesBlockOf (state_of control row) order m call → ⊥)
      → block_named (row_call control row order call).control.names m ≡ block_named control.names m
  row_held_name_kept_until_freed held other =
      ap (λ (x : RowAfter). block_named x.control.names m) (call_on_64_is_call_of (length row) control row order call shape.length_is)
      ∙ held_name_kept_until_freed (state_of control row) order shape m call held other

  pub row_name_let_go_when_freed : FreesBlockOf (state_of control row) order m call → is_held (row_call control row order call).control.names m ≡ false
  row_name_let_go_when_freed frees =
      ap (λ (x : RowAfter). is_held x.control.names m) (call_on_64_is_call_of (length row) control row order call shape.length_is)
      ∙ name_let_go_when_freed (state_of control row) order shape m call frees

-- For every accepted setup on a lent row, whatever stood in row and storage before, and every list of takes and frees on that row after it, plain and
-- named, and of drops: before the list and after each of its calls the names of the ledger, from the calls and their answers alone, and those of the
-- control agree ..
module _ (u : Setup) (row : List Superblock) (order : List ℕ) (start : RowAfter) (e : start ≡ row_setup u row order) (ready : start.outcome ≡ Ready)
    (steps : List RowStep) (linked : RowLinked start steps) where
  pub row_names_agree_over_list : NamesAgreeOver (as_after start) [] (map step_of steps)
  row_names_agree_over_list =
      let list = row_list_is_call_list u row order start e ready steps linked in
      ledger_and_state_names_agree u order (as_after start) list.0 ready (map step_of steps) list.1

  -- .. the names held are just those of the ledger, which has each once ..
  pub row_names_hold_over_list : NamesHoldOver (as_after start) [] (map step_of steps)
  row_names_hold_over_list =
      let list = row_list_is_call_list u row order start e ready steps linked in
      names_hold_over_list u order (as_after start) list.0 ready (map step_of steps) list.1

  -- .. and each named take is refused 14, and each named free 15, exactly where the ledger says so
  pub row_name_refusals_over_list : NameRefusalsOver u [] (map step_of steps)
  row_name_refusals_over_list =
      let list = row_list_is_call_list u row order start e ready steps linked in
      name_refusals_over_list u order (as_after start) list.0 ready (map step_of steps) list.1
