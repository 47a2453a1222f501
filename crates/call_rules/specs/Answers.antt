-- What a call leaves, and the refusals that all calls on a state share.
use Rattle.std.specs.Prelude.{ℕ, ◌*◌, ◌≤◌, ◌≡◌, Bool, true, List, [], ◌∷◌, length, leb}
use Rattle.base_laws.specs.Sums.{pick}
use Rattle.order_rules.specs.Order.{places_each}
use Rattle.refusal_rules.specs.Refusals.{storage_too_small, state_invalid}
use Rattle.heap_rules.specs.declared.State.{State}
use Rattle.check_rules.specs.Check.{within, within_limits, rest_valid, passes}
use Rattle.call_rules.specs.declared.Answer.{Answer}
use Rattle.call_rules.specs.declared.Outcome.{Outcome}
use Rattle.call_rules.specs.declared.Outcome.TheVariants.{Ready, Address, Moves, Refused}

-- the answer, with the next state, and all order places
pub record After : Type 0 where
  pub answer : Answer
  pub order : List ℕ

-- document 01's number for each outcome: 0 where the call is accepted, else the refusal's number
unfoldable pub number_of : Outcome → ℕ
number_of Ready = 0
number_of (Address a) = 0
number_of (Moves m) = 0
number_of (Refused r) = r

-- the values that each outcome carries beside its number: "A refusal carries its number alone, with no address and no moves"
unfoldable pub values_of : Outcome → List ℕ
values_of Ready = []
values_of (Address a) = a ∷ []
values_of (Moves m) = m ∷ []
values_of (Refused r) = []

-- an outcome has the number and the values of the outcome that the rules give
pub record HasNumberAndValuesOf (outcome rules : Outcome) : Type 0 where
  pub number_is : number_of outcome ≡ number_of rules
  pub values_are : values_of outcome ≡ values_of rules

-- "An accepted call yields a state that passes."
abbrev pub PassesIfAccepted : Outcome → State → List ℕ → Type 0
PassesIfAccepted outcome s order = number_of outcome ≡ 0 → passes s order ≡ true

-- "move count in the result, .. at most q": an outcome reports no more moves than so many; one that reports none is held to nothing
abbrev pub MovesAtMost : ℕ → Outcome → Type 0
MovesAtMost most outcome = (m : ℕ) → outcome ≡ Moves m → m ≤ most

-- "changes neither state nor storage"
abbrev pub refused : ℕ → State → List ℕ → After
refused r s order = record { answer = record { outcome = Refused r; state = s }; order = order }

-- "Take or free: 13 for setup numbers, 12, the rest of 13", then what follows; refusal 12 (bench word: storage): "fewer than N × 256 order
-- places lent"; refusal 13 (bench word: state): "the state fails its check"
unfoldable pub checked : State → List ℕ → After → After
checked s order next =
    pick (within_limits s.setup)
    (pick (leb (s.setup.superblocks * places_each) (length order))
    (pick (rest_valid s order) next
    (refused state_invalid s order))
    (refused storage_too_small s order))
    (refused state_invalid s order)

-- refusal 2 (bench word: processor): "0 or above P"
unfoldable pub is_processor : State → ℕ → Bool
is_processor s i = within 1 s.setup.processors i
