-- The refusals of a named take and of a named free behind the check before those of the plain calls, as one number; 0 where none applies.
use Rattle.std.specs.Prelude.{ℕ}
use Rattle.base_laws.specs.Sums.{pick}
use Rattle.names_rules.specs.Names.{is_held}
use Rattle.refusal_rules.specs.Refusals.{no_such_processor, name_unavailable, name_not_held}
use Rattle.heap_rules.specs.declared.State.{State}
use Rattle.call_rules.specs.Answers.{is_processor}
use Rattle.call_rules.specs.Named.{is_unavailable}

-- 2, then 14
unfoldable pub named_take_refusal : State → ℕ → ℕ → ℕ
named_take_refusal s i m = pick (is_processor s i) (pick (is_unavailable s m) name_unavailable 0) no_such_processor

-- 2, then 15
unfoldable pub named_free_refusal : State → ℕ → ℕ → ℕ
named_free_refusal s i m = pick (is_processor s i) (pick (is_held s.names m) 0 name_not_held) no_such_processor
