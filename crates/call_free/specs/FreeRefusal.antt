-- The refusals of a free behind the check, as one number.
use Rattle.std.specs.Prelude.{ℕ}
use Rattle.base_laws.specs.Sums.{pick}
use Rattle.refusal_rules.specs.Refusals.{no_such_processor}
use Rattle.heap_rules.specs.declared.State.{State}
use Rattle.call_rules.specs.Answers.{is_processor}
use Rattle.call_rules.specs.Free.{address_refusal}

-- 2, then that of the address; 0 where none applies
unfoldable pub free_refusal : State → ℕ → ℕ → ℕ
free_refusal s i a = pick (is_processor s i) (address_refusal s a) no_such_processor
