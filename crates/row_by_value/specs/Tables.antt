-- A call on a lent row, on a table by value.
use Rattle.std.specs.Prelude.{ℕ, Bool, List, eqb}
use Rattle.heap_rules.specs.declared.Superblock.{Superblock}
use Rattle.call_rules.specs.declared.Answer.{Answer}
use Rattle.call_rules.specs.declared.Outcome.{Outcome}
use Rattle.call_rules.specs.declared.Outcome.TheVariants.{Refused}
use Rattle.call_rules.specs.Answers.{number_of}
use Rattle.row_rules.specs.declared.Control.{Control}
use Rattle.row_rules.specs.Row.{RowAfter, row_after, control_of}
use Rattle.row_by_value.specs.declared.TableCall.{TableCall}

-- whether a call was accepted, by its outcome's number
abbrev pub is_accepted : Outcome → Bool
is_accepted outcome = eqb (number_of outcome) 0

-- what is left, the table being what is stored in a row of 64 records
abbrev pub row_after_call : TableCall → List ℕ → RowAfter
row_after_call r order = row_after r.answer r.table order

-- "A refusal carries its number alone"
abbrev pub refused_call : ℕ → Control → List Superblock → TableCall
refused_call r control table = record { table = table; answer = record { outcome = Refused r; control = control } }

abbrev pub answered_call : Answer → TableCall
answered_call a = record { table = a.state.table; answer = record { outcome = a.outcome; control = control_of a.state } }
