-- `row_by_value::row_first_refusal` meets its contract. Assumes nothing.
use Rattle.std.proofs.lemmas.Result.{err_from_is_err_and}
use Rattle.row_by_value.proofs.RowRefusalLaws.{row_first_refusal_of_fault, row_first_refusal_of_fault_0, row_first_refusal_of_length}
use Rattle.row_by_value.proofs.RowRefusalLaws.{row_first_refusal_of_none}
use Rattle.row_by_value.proofs.row_first_refusal.Goals as goal

pub returns-in_err-setup_refusal : goal.returns-in_err-setup_refusal
returns-in_err-setup_refusal c =
    let p = err_from_is_err_and c.from_residual.result c.from_residual.ensures.1 in
    let e = c.in_err-setup_refusal.ensures in
    rw (p.1, p.2)
    (record {
      number = λ numbers h. row_first_refusal_of_fault numbers _ _ _ h _ (e numbers);
      number_of_0 = row_first_refusal_of_fault_0 _ _ _ _ (e 0);
    })

pub returns-then-n-eq-TABLE_LENGTH : goal.returns-then-n-eq-TABLE_LENGTH
returns-then-n-eq-TABLE_LENGTH c =
    let none = c.in_ok-setup_refusal.ensures in
    let long = c.if-n-eq-TABLE_LENGTH.true in
    record {
      number = λ numbers h. row_first_refusal_of_none numbers _ _ _ (none numbers) long;
      number_of_0 = row_first_refusal_of_none 0 _ _ _ (none 0) long;
    }

pub returns-else-n-eq-TABLE_LENGTH : goal.returns-else-n-eq-TABLE_LENGTH
returns-else-n-eq-TABLE_LENGTH c =
    let none = c.in_ok-setup_refusal.ensures in
    let other = c.if-n-eq-TABLE_LENGTH.false in
    record {
      number = λ numbers h. row_first_refusal_of_length numbers _ _ _ (none numbers) other;
      number_of_0 = row_first_refusal_of_length 0 _ _ _ (none 0) other;
    }
