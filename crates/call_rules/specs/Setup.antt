-- A setup.
use Rattle.std.specs.Prelude.{ℕ, ◌*◌, List, length, leb}
use Rattle.base_laws.specs.Sums.{pick}
use Rattle.order_rules.specs.Order.{places_each, cleared}
use Rattle.refusal_rules.specs.Refusals.{setup_out_of_limits, storage_too_small}
use Rattle.heap_rules.specs.declared.Setup.{Setup}
use Rattle.heap_rules.specs.States.{no_state, new_state}
use Rattle.check_rules.specs.Check.{within_limits}
use Rattle.call_rules.specs.Answers.{After, refused}
use Rattle.call_rules.specs.declared.Outcome.TheVariants.{Ready}

-- "A new setup has every superblock unused .. and sets the first N × 256 places of the order storage to 0."
abbrev pub accepted_setup : Setup → List ℕ → After
accepted_setup u order = record { answer = record { outcome = Ready; state = new_state u }; order = cleared order (u.superblocks * places_each) }

-- "setup 1, 12"; refusal 1 (bench word: setup): "a setup number outside its limits"; "A refused setup hands back five zeros and 64
-- unused superblocks"
unfoldable pub setup_of : Setup → List ℕ → After
setup_of u order =
    pick (within_limits u)
    (pick (leb (u.superblocks * places_each) (length order)) (accepted_setup u order)
    (refused storage_too_small no_state order))
    (refused setup_out_of_limits no_state order)
