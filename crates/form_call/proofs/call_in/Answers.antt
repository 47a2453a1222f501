-- `form_call::call_in` meets its contract. Assumes nothing.
use borrow.Author.Rules.{rules}
use Rattle.form_call.proofs.FormLaws.{call_in_of_setup, call_in_of_take, call_in_of_free, call_in_of_named_take, call_in_of_named_free, call_in_of_drop}
use Rattle.form_call.proofs.call_in.Goals as goal

pub returns-in-0 : goal.returns-in-0
returns-in-0 c = search call_in_of_setup

pub returns-in-1 : goal.returns-in-1
returns-in-1 c = search call_in_of_take

pub returns-in-2 : goal.returns-in-2
returns-in-2 c = search call_in_of_free

pub returns-in-3 : goal.returns-in-3
returns-in-3 c = search call_in_of_named_take

pub returns-in-4 : goal.returns-in-4
returns-in-4 c = search call_in_of_named_free

pub returns-in_default : goal.returns-in_default
returns-in_default c = search (rules, call_in_of_drop)
