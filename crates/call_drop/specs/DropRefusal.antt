-- The refusals of a drop behind the check, as one number.
use Rattle.std.specs.Prelude.{ℕ, List, length, eqb}
use Rattle.base_laws.specs.Sums.{pick}
use Rattle.refusal_rules.specs.Refusals.{no_such_processor, drop_empty}
use Rattle.heap_rules.specs.declared.State.{State}
use Rattle.call_rules.specs.Answers.{is_processor}
use Rattle.call_rules.specs.Drop.{first_address_refusal}

-- 2, then 16, then that of the first bad address; 0 where none applies
unfoldable pub drop_refusal : State → ℕ → List ℕ → ℕ
drop_refusal s i addresses = pick (is_processor s i) (pick (eqb (length addresses) 0) drop_empty (first_address_refusal s addresses)) no_such_processor
