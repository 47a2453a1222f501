-- The totals that a state keeps, over lists of calls (document 02, item 3).
use Rattle.std.specs.Prelude.{◌≡◌, List, [], ℕ, suc, ◌+◌, ◌<◌}
use Rattle.base_laws.specs.Sums.{sum_below}
use Rattle.class_rules.specs.Classes.{class_count}
use Rattle.heap_rules.specs.declared.Setup.{Setup}
use Rattle.heap_rules.specs.declared.State.{State}
use Rattle.heap_rules.specs.Totals.{live_kept, TotalsCounted}
use Rattle.call_rules.specs.Answers.{After}
use Rattle.claim_rules.specs.Ledger.{Entry, entries_of}
use Rattle.claim_rules.specs.Claim.{Step, Along}

-- "Every operation keeps them equal to the recount": before a list and after each of its calls, accepted or refused. No ledger is looked at
abbrev pub TotalsCountedOver : After → List Step → Type 0
TotalsCountedOver before steps = Along (λ s ledger. TotalsCounted s) before [] steps

-- the live totals of each class, over heap 0 and the P processor heaps, are the ledger's live blocks of the class
abbrev pub LiveTotalsAgree : Setup → State → List Entry → Type 0
LiveTotalsAgree u s ledger = (c : ℕ) → c < class_count → live_kept 0 c s + sum_below (λ i. live_kept (suc i) c s) u.processors ≡ entries_of c ledger

abbrev pub LiveTotalsAgreeOver : Setup → After → List Entry → List Step → Type 0
LiveTotalsAgreeOver u before ledger steps = Along (LiveTotalsAgree u) before ledger steps
