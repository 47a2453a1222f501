-- Calls on a table of superblocks that is lent as a row of records: "The table of superblocks is .. also lent as a row of records and
-- edited there."
use Rattle.std.specs.Prelude.{ℕ, ◌*◌, List, length, replicate, eqb, leb}
use Rattle.base_laws.specs.Sums.{pick}
use Rattle.order_rules.specs.Order.{places_each, cleared}
use Rattle.refusal_rules.specs.Refusals.{setup_out_of_limits, storage_too_small, state_invalid}
use Rattle.heap_rules.specs.declared.Superblock.{Superblock}
use Rattle.heap_rules.specs.declared.Setup.{Setup}
use Rattle.heap_rules.specs.declared.State.{State}
use Rattle.heap_rules.specs.Table.{table_length, unused}
use Rattle.heap_rules.specs.States.{no_state, new_state}
use Rattle.check_rules.specs.Check.{within_limits}
use Rattle.call_rules.specs.declared.Outcome.{Outcome}
use Rattle.call_rules.specs.declared.Outcome.TheVariants.{Ready, Refused}
use Rattle.call_rules.specs.Answers.{After}
use Rattle.call_rules.specs.Calls.{Call, call_of}
use Rattle.row_rules.specs.declared.Control.{Control}
use Rattle.row_rules.specs.declared.RowAnswer.{RowAnswer}

-- what a call leaves: its outcome, the control, the row's records and all order places
pub record RowAfter : Type 0 where
  pub outcome : Outcome
  pub control : Control
  pub row : List Superblock
  pub order : List ℕ

-- what a call leaves, from what it hands back, the row and the storage as they are then
abbrev pub row_after : RowAnswer → List Superblock → List ℕ → RowAfter
row_after r row order = record { outcome = r.outcome; control = r.control; row = row; order = order }

-- the state that a control and a row of 64 records make
abbrev pub state_of : Control → List Superblock → State
state_of control row = record { setup = control.setup; table = row; names = control.names; totals = control.totals }

-- all of a state but its superblocks
abbrev pub control_of : State → Control
control_of s = record { setup = s.setup; names = s.names; totals = s.totals }

-- what a call on a state leaves, its table read as the row
abbrev pub as_row_after : After → RowAfter
as_row_after a = record { outcome = a.answer.outcome; control = control_of a.answer.state; row = a.answer.state.table; order = a.order }

-- "A refusal carries its number alone .. and changes neither state nor storage"
abbrev pub row_refused : ℕ → Control → List Superblock → List ℕ → RowAfter
row_refused r control row order = record { outcome = Refused r; control = control; row = row; order = order }

-- "an accepted setup writes them all": 64 unused superblocks, and the first N × 256 order places 0; "A new .. setup holds no names"
-- (document 02, item 2) and "has them at 0", the totals (item 3)
abbrev pub row_accepted_setup : Setup → List ℕ → RowAfter
row_accepted_setup u order =
    record { outcome = Ready; control = control_of (new_state u); row = replicate table_length unused; order = cleared order (u.superblocks * places_each) }

-- A setup where n records are lent: "setup 1, 12, then 13 for a lent row that is not 64 long (its contents are not checked ..)". "A
-- refused setup hands back five zeros ..; a lent row it does not write." "A .. refused setup holds no names" (document 02, item 2) and
-- "has them at 0", the totals (item 3).
unfoldable pub setup_on : ℕ → Setup → List Superblock → List ℕ → RowAfter
setup_on n u row order =
    pick (within_limits u)
    (pick (leb (u.superblocks * places_each) (length order))
    (pick (eqb n table_length) (row_accepted_setup u order)
    (row_refused state_invalid (control_of no_state) row order))
    (row_refused storage_too_small (control_of no_state) row order))
    (row_refused setup_out_of_limits (control_of no_state) row order)

-- A take or a free, plain or named, or a drop, where n records are lent: "13 for setup numbers, 12, the rest of 13", in which is "a lent row exactly
-- 64 records long". What else is checked, and the call's own refusals, are those of the state.
unfoldable pub call_on : ℕ → Control → List Superblock → List ℕ → Call → RowAfter
call_on n control row order call =
    pick (within_limits control.setup)
    (pick (leb (control.setup.superblocks * places_each) (length order))
    (pick (eqb n table_length) (as_row_after (call_of (state_of control row) order call))
    (row_refused state_invalid control row order))
    (row_refused storage_too_small control row order))
    (row_refused state_invalid control row order)

-- a setup on a lent row
abbrev pub row_setup : Setup → List Superblock → List ℕ → RowAfter
row_setup u row order = setup_on (length row) u row order

-- a take, a free or a drop on a lent row
abbrev pub row_call : Control → List Superblock → List ℕ → Call → RowAfter
row_call control row order call = call_on (length row) control row order call
