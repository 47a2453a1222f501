-- "Blocks called by name" (document 02, item 2): a named take and a named free. "A named call does what the plain one does, a free with the
-- held address".
use Rattle.std.specs.Prelude.{ℕ, ◌/◌, ◌%◌, Bool, not, List}
use Rattle.base_laws.specs.Sums.{pick, either}
use Rattle.names_rules.specs.Names.{numbers_each, is_name, block_named, is_held, with_name}
use Rattle.refusal_rules.specs.Refusals.{no_such_processor, name_unavailable, name_not_held}
use Rattle.heap_rules.specs.declared.State.{State}
use Rattle.heap_rules.specs.Table.{superblock_at}
use Rattle.heap_rules.specs.States.{with_names}
use Rattle.call_rules.specs.declared.Outcome.{Outcome}
use Rattle.call_rules.specs.declared.Outcome.TheVariants.{Ready, Address, Moves, Refused}
use Rattle.call_rules.specs.Answers.{After, refused, checked, is_processor}
use Rattle.call_rules.specs.Take.{address_of, take_unchecked}
use Rattle.call_rules.specs.Free.{block_number_at, free_unchecked}

-- refusal 14: "taken name or one above 1023"
unfoldable pub is_unavailable : State → ℕ → Bool
is_unavailable s m = either (not (is_name m)) (is_held s.names m)

-- name m points at the block at an address
unfoldable pub name_bound : ℕ → ℕ → State → State
name_bound m a s = with_names s (with_name s.names m (block_number_at s a))

-- the state after a take for name m, by its outcome: an accepted one binds the name to the block that it answered; "a refused take binds none"
unfoldable pub bound_by : Outcome → ℕ → State → State
bound_by Ready m s = s
bound_by (Address a) m s = name_bound m a s
bound_by (Moves k) m s = s
bound_by (Refused r) m s = s

-- what a plain take leaves, with the name bound
unfoldable pub with_name_bound : ℕ → After → After
with_name_bound m after =
    record {
      answer = record { outcome = after.answer.outcome; state = bound_by after.answer.outcome m after.answer.state };
      order = after.order;
    }

-- a named take behind the check, on any state: 14 "after 2 and before 3", then what the plain take does
unfoldable pub named_take_unchecked : State → List ℕ → ℕ → ℕ → ℕ → After
named_take_unchecked s order i m size =
    pick (not (is_processor s i)) (refused no_such_processor s order)
    (pick (is_unavailable s m) (refused name_unavailable s order)
    (with_name_bound m (take_unchecked s order i size)))

unfoldable pub named_take_of : State → List ℕ → ℕ → ℕ → ℕ → After
named_take_of s order i m size = checked s order (named_take_unchecked s order i m size)

-- "the held address": that of the block that name m points at
unfoldable pub held_address : State → ℕ → ℕ
held_address s m =
    let b = block_named s.names m in
    address_of (b / numbers_each) (superblock_at s (b / numbers_each)).class (b % numbers_each)

-- a named free behind the check, on any state: refusal 15, "name not held, .. after 2", then what "a free with the held address" does
unfoldable pub named_free_unchecked : State → List ℕ → ℕ → ℕ → After
named_free_unchecked s order i m =
    pick (not (is_processor s i)) (refused no_such_processor s order)
    (pick (not (is_held s.names m)) (refused name_not_held s order)
    (free_unchecked s order i (held_address s m)))

unfoldable pub named_free_of : State → List ℕ → ℕ → ℕ → After
named_free_of s order i m = checked s order (named_free_unchecked s order i m)
