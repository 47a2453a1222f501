-- `check_limits::setup_refusal` meets its contract; the other goals are found. Assumes nothing.
use Rattle.check_limits.proofs.SetupRefusalLaws.{setup_refusal_of_storage}
use Rattle.check_limits.proofs.setup_refusal.Goals as goal

pub returns-then-order-u : goal.returns-then-order-u
returns-then-order-u c numbers = search setup_refusal_of_storage
