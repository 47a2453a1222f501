-- Live blocks counted from the calls and their answers alone.
use Rattle.std.specs.Prelude.{ℕ, ◌+◌, Bool, false, List, [], ◌∷◌, eqb}
use Rattle.base_laws.specs.Sums.{pick, both, either, one}
use Rattle.class_rules.specs.Classes.{class_of}
use Rattle.call_rules.specs.Calls.{Call, Take, Free, NamedTake, NamedFree, Drop}
use Rattle.call_rules.specs.declared.Outcome.{Outcome}
use Rattle.call_rules.specs.declared.Outcome.TheVariants.{Ready, Address, Moves, Refused}

-- the name that a block was taken by, if any
pub data Name : Type 0 where
  named : ℕ → Name
  unnamed : Name

-- a live block: the address that its take answered, with the size and the name of that take
pub record Entry : Type 0 where
  pub address : ℕ
  pub size : ℕ
  pub name : Name

-- "Its class is the class of that take's size." A long block is of no class, as no class holds its size (document 02, item 7): that is 27
abbrev pub class_of_entry : Entry → ℕ
class_of_entry e = class_of e.size

-- the block starts at address a
abbrev pub is_at : ℕ → Entry → Bool
is_at a e = eqb e.address a

-- the block starts at one of the addresses
unfoldable pub is_at_one_of : List ℕ → Entry → Bool
is_at_one_of [] e = false
is_at_one_of (a ∷ addresses) e = either (is_at a e) (is_at_one_of addresses e)

-- the block was taken by name m
unfoldable pub is_called : ℕ → Name → Bool
is_called m (named n) = eqb n m
is_called m unnamed = false

abbrev pub has_name : ℕ → Entry → Bool
has_name m e = is_called m e.name

-- the ledger without the blocks that pass a test
unfoldable pub removed : (Entry → Bool) → List Entry → List Entry
removed test [] = []
removed test (e ∷ ledger) = pick (test e) (removed test ledger) (e ∷ removed test ledger)

-- after a take of this size and name: an accepted one adds the address that it answered
unfoldable pub after_take : ℕ → Name → List Entry → Outcome → List Entry
after_take size name ledger Ready = ledger
after_take size name ledger (Address a) = record { address = a; size = size; name = name } ∷ ledger
after_take size name ledger (Moves m) = ledger
after_take size name ledger (Refused r) = ledger

-- after a free of the blocks that pass the test: an accepted one removes them
unfoldable pub after_free : (Entry → Bool) → List Entry → Outcome → List Entry
after_free test ledger Ready = ledger
after_free test ledger (Address b) = ledger
after_free test ledger (Moves m) = removed test ledger
after_free test ledger (Refused r) = ledger

-- "A block is live when an accepted take answered its address and no accepted call has freed that address since." A named free frees the
-- address that the take by its name answered (document 02, item 2), a drop all of its addresses (item 5).
unfoldable pub ledger_after : List Entry → Call → Outcome → List Entry
ledger_after ledger (Take processor size) outcome = after_take size unnamed ledger outcome
ledger_after ledger (Free processor address) outcome = after_free (is_at address) ledger outcome
ledger_after ledger (NamedTake processor name size) outcome = after_take size (named name) ledger outcome
ledger_after ledger (NamedFree processor name) outcome = after_free (has_name name) ledger outcome
ledger_after ledger (Drop processor addresses) outcome = after_free (is_at_one_of addresses) ledger outcome

-- the live blocks of class c
unfoldable pub entries_of : ℕ → List Entry → ℕ
entries_of c [] = 0
entries_of c (e ∷ ledger) = one (eqb (class_of_entry e) c) + entries_of c ledger

-- how often the ledger has a block of class c at address a
unfoldable pub entries_at : List Entry → ℕ → ℕ → ℕ
entries_at [] a c = 0
entries_at (e ∷ ledger) a c = one (both (is_at a e) (eqb (class_of_entry e) c)) + entries_at ledger a c

-- some entry passes the test
unfoldable pub some_entry : (Entry → Bool) → List Entry → Bool
some_entry test [] = false
some_entry test (e ∷ ledger) = either (test e) (some_entry test ledger)

-- what is so of each entry
unfoldable pub EachEntry : (Entry → Type 0) → List Entry → Type 0
EachEntry P [] = Unit {0}
EachEntry P (e ∷ ledger) = P e × EachEntry P ledger
