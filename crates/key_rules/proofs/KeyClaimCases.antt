-- What is claimed of the calls of a record and of its key: each definition in cases that tell it from near misses, values of which a field of the claim
-- is false, and values of which the claim holds. None of the calls finds a state that passes its check. Assumes nothing.
use mathlib.Core.Path.{◌≡◌, refl, ap}
use mathlib.Core.List.{List, [], ◌∷◌, ◌++◌}
use Prim.Native.Nat.{ℕ}
use native.Mathlib.Omega.{arith}
use lib.ListN.{length, get_or, replicate}
use Rattle.base_laws.proofs.Stages.{◌also◌}
use Rattle.heap_rules.specs.declared.Setup.{Setup}
use Rattle.heap_rules.specs.States.{no_state}
use Rattle.call_rules.specs.declared.Outcome.TheVariants.{Address, Moves, Refused}
use Rattle.call_rules.specs.Answers.{After, number_of, refused}
use Rattle.call_rules.specs.Setup.{setup_of}
use Rattle.call_rules.specs.Calls as call
use Rattle.call_rules.specs.Calls.{call_with, call_of}
use Rattle.call_header.specs.declared.CallHeader.TheVariants as header
use Rattle.call_rules.proofs.CallDefinitions.{call_definitions}
use Rattle.claim_rules.specs.Claim.{Step, Linked, steps_by, last_after, Claims}
use Rattle.claim_rules.proofs.LedgerDefinitions.{claim_definitions}
use Rattle.claim_rules.proofs.ClaimCases.{each_class_le_by_test}
use Rattle.record_rules.specs.declared.Command.{Command}
use Rattle.record_rules.specs.declared.Command.TheVariants as command
use Rattle.record_rules.specs.Record.{numbers_of}
use Rattle.record_rules.proofs.CommandDefinitions.{command_definitions}
use Rattle.text_rules.specs.Text.{letters}
use Rattle.line_rules.specs.Lines.{setup_line, final_lines}
use Rattle.line_rules.proofs.LineDefinitions.{line_definitions}
use Rattle.key_rules.specs.Key.{before_first, setup_text, text_of, order_after, key_of, storage_of}
use Rattle.key_rules.specs.KeyClaim.{calls_in, steps_in, line_of, step_lines, ending_lines, KeyClaims}

-- ---- the calls of a record
-- each kind of command, with a setup among them, which is passed over, and a stop, which ends them; the addresses of the drop stand in the record
pub calls_in_cases :
    calls_in (9 ∷ 16 ∷ 2 ∷ 0 ∷ 0 ∷ 7 ∷ 0 ∷ 1 ∷ 0 ∷ 9 ∷ [])
    (command.Call (header.Take 1 2048) 0 0 ∷ command.Call (header.Free 2 4096) 0 0 ∷ command.Setup 3 4 5 6 7
    ∷ command.Call (header.NamedTake 8 9 10) 0 0 ∷ command.Call (header.NamedFree 11 12) 0 0 ∷ command.Call (header.Drop 13) 2 1
    ∷ command.Refused 8 10 ∷ command.Call (header.Take 1 9) 0 0 ∷ [])
    ≡ call.Take 1 2048 ∷ call.Free 2 4096 ∷ call.NamedTake 8 9 10 ∷ call.NamedFree 11 12 ∷ call.Drop 13 (528 ∷ 65543 ∷ []) ∷ []
    × calls_in [] (command.Call (header.Take 1 16) 0 0 ∷ command.Call (header.Take 2 17) 0 0 ∷ []) ≡ call.Take 1 16 ∷ call.Take 2 17 ∷ []
unfolding calls_in call_with command_definitions
calls_in_cases = (refl, refl)

-- those calls, here on no state, where each is refused 13
abbrev pub refused_step : call.Call → Step
refused_step c = record { call = c; after = refused 13 no_state (4 ∷ []) }

pub steps_in_case :
    steps_in [] (before_first (4 ∷ []))
    (command.Call (header.Take 1 2048) 0 0 ∷ command.Setup 3 4 5 6 7 ∷ command.Call (header.Free 2 4096) 0 0 ∷ command.Refused 8 10
    ∷ command.Call (header.Take 1 9) 0 0 ∷ [])
    ≡ refused_step (call.Take 1 2048) ∷ refused_step (call.Free 2 4096) ∷ []
unfolding steps_in steps_by calls_in call_with call_definitions
steps_in_case = refl

-- ---- what is printed of them: the five calls, with numbers as in the record
pub line_of_cases :
    line_of (call.Take 1 2048) (Address 4096) ≡ letters "take 1 2048 at 4096\n"
    × line_of (call.Free 2 4096) (Moves 3) ≡ letters "free 2 4096 moved 3\n"
    × line_of (call.NamedTake 8 9 10) (Refused 14) ≡ letters "take 8 name 9 10 refused 14\n"
    × line_of (call.NamedFree 7 12) (Moves 0) ≡ letters "free 7 name 12 moved 0\n"
    × line_of (call.Drop 3 (528 ∷ 7 ∷ [])) (Moves 1) ≡ letters "drop 3 count 2 moved 1\n"
unfolding line_of line_definitions
line_of_cases = (refl, refl, refl, refl, refl)

pub step_lines_case :
    step_lines (refused_step (call.Take 1 2048) ∷ refused_step (call.Drop 2 []) ∷ refused_step (call.Free 2 4096) ∷ [])
    ≡ letters "take 1 2048 refused 13\n" ++ letters "drop 2 count 0 refused 13\n" ++ letters "free 2 4096 refused 13\n"
unfolding step_lines line_of line_definitions
step_lines_case = refl

-- the stop line, of the first stop, whatever comes before and behind it; the final lines of the last state where there is none
pub ending_lines_cases : (last : After)
    → (ending_lines last
    (command.Call (header.Take 1 2048) 0 0 ∷ command.Call (header.Free 2 9) 0 0 ∷ command.Refused 8 10
    ∷ command.Call (header.Take 1 9) 0 0 ∷ command.Refused 9 11 ∷ [])
    ≡ letters "stopped 8 at 10\n")
    × (ending_lines last
    (command.Setup 3 4 5 6 7 ∷ command.Call (header.Take 1 16) 0 0 ∷ command.Call (header.Free 2 9) 0 0
    ∷ command.Call (header.NamedTake 8 9 10) 0 0 ∷ command.Call (header.NamedFree 11 12) 0 0 ∷ command.Call (header.Drop 13) 2 1 ∷ [])
    ≡ final_lines last.answer.state)
    × (ending_lines last [] ≡ final_lines last.answer.state)
unfolding ending_lines command_definitions line_definitions
ending_lines_cases last = (refl, refl, refl)

-- ---- the claim. P = 2, N = 1, K = 3, p/q = 4/5, and a record of it with an unknown byte behind; its 256 places
abbrev pub u : Setup
u = record { processors = 2; superblocks = 1; spare = 3; p = 4; q = 5 }

abbrev pub other_u : Setup
other_u = record { processors = 2; superblocks = 2; spare = 6; p = 4; q = 5 }

abbrev pub setup_record : List ℕ
setup_record = 0 ∷ 2 ∷ 1 ∷ 3 ∷ 4 ∷ 5 ∷ []

abbrev pub stopped_record : List ℕ
stopped_record = setup_record ++ (6 ∷ [])

abbrev pub places : ℕ → List ℕ
places n = replicate n 7

-- what a record starts with, in numbers: another setup, and other commands behind it
abbrev pub first_numbers : List Command → List ℕ
first_numbers [] = []
first_numbers (c ∷ commands) = numbers_of c

pub record_starts_otherwise_fails :
    (KeyClaims setup_record (places 512) other_u [] → ⊥) × (KeyClaims stopped_record (places 256) u [] → ⊥)
    × (KeyClaims setup_record (places 256) u (command.Setup 3 4 5 6 7 ∷ []) → ⊥)
unfolding numbers_of command_definitions
record_starts_otherwise_fails = (
  λ k. let z : ◌≡◌ {A = ℕ} 3 6 = ap (λ (c : List Command). get_or (first_numbers c) 2 0) k.starts in omega arith,
  λ k. let z : ◌≡◌ {A = ℕ} 2 1 = ap length k.starts in omega arith,
  λ k. let z : ◌≡◌ {A = ℕ} 1 2 = ap length k.starts in omega arith,
)

-- a setup that is refused: 0 processors, or a place too few
pub setup_not_ready_fails :
    (KeyClaims (0 ∷ 0 ∷ 1 ∷ 3 ∷ 4 ∷ 5 ∷ []) (places 256) (record { processors = 0; superblocks = 1; spare = 3; p = 4; q = 5 }) [] → ⊥)
    × (KeyClaims setup_record (places 255) u [] → ⊥)
unfolding call_definitions number_of
setup_not_ready_fails =
    (λ k. let z : ◌≡◌ {A = ℕ} 1 0 = ap number_of k.ready in omega arith, λ k. let z : ◌≡◌ {A = ℕ} 12 0 = ap number_of k.ready in omega arith)

-- another text: another setup's numbers, and a stop at another offset
pub other_text_fails :
    (KeyClaims stopped_record (places 512) other_u (command.Refused 8 6 ∷ []) → ⊥) × (KeyClaims stopped_record (places 256) u (command.Refused 8 7 ∷ []) → ⊥)
unfolding key_of text_of setup_text number_of steps_in steps_by calls_in step_lines ending_lines command_definitions line_definitions call_definitions
other_text_fails = (
  λ k. let z : ◌≡◌ {A = ℕ} 51 54 = ap (λ (l : List ℕ). get_or l 10 0) k.printed in omega arith,
  λ k. let z : ◌≡◌ {A = ℕ} 54 55 = ap (λ (l : List ℕ). get_or l 29 0) k.printed in omega arith,
)

-- another storage: the record's setup clears 256 places, and the other one 512
pub other_storage_fails : KeyClaims stopped_record (places 512) other_u (command.Refused 8 6 ∷ []) → ⊥
unfolding storage_of order_after number_of steps_in steps_by calls_in last_after command_definitions call_definitions
other_storage_fails k = let z : ◌≡◌ {A = ℕ} 7 0 = ap (λ (l : List ℕ). get_or l 300 1) k.storage in omega arith

-- the key ends as the claim has it: with the stop line, or the final lines
pub key_ends_so : (before : After)
    → (text_of [] before [] ≡ ending_lines before []) × (text_of [] before (command.Refused 8 6 ∷ []) ≡ ending_lines before (command.Refused 8 6 ∷ []))
unfolding text_of ending_lines
key_ends_so before = (refl, refl)

-- what follows is tried where the cases so far hold
unfoldable fields_fail : Unit {0}
fields_fail =
    calls_in_cases also steps_in_case also line_of_cases also step_lines_case also ending_lines_cases also record_starts_otherwise_fails
    also setup_not_ready_fails also other_text_fails also other_storage_fails also key_ends_so also tt

-- the list, the claim, the text and the storage are those of the calls of the record, each as it is made, from what the setup left, with nothing
-- live and M = 0: whatever the calls are
pub claims_of_calls_of_record : (r order : List ℕ) (v : Setup) (commands : List Command) → KeyClaims r order v commands
    → (let steps = steps_by call_of (setup_of v order) (calls_in r commands) in
    Linked (setup_of v order) steps × Claims v (setup_of v order) [] (λ c. 0) steps
    × (key_of r order ≡ setup_line v ++ (step_lines steps ++ ending_lines (last_after (setup_of v order) steps) commands))
    × (storage_of r order ≡ (last_after (setup_of v order) steps).order))
unfolding fields_fail steps_in
claims_of_calls_of_record r order v commands k = (k.linked, k.claims, k.printed, k.storage)

unfoldable pub key_claims_hold : Unit {0}
key_claims_hold = claims_of_calls_of_record also tt

-- ---- what it holds of: the setup alone, and the setup with the unknown byte behind it
bound_after_setup : Claims u (setup_of u (places 256)) [] (λ c. 0) []
unfolding key_claims_hold call_definitions claim_definitions
bound_after_setup = each_class_le_by_test _ _ refl

pub key_claims_hold_lem : KeyClaims setup_record (places 256) u [] × KeyClaims stopped_record (places 256) u (command.Refused 8 6 ∷ [])
unfolding key_of text_of setup_text storage_of order_after number_of steps_in steps_by calls_in step_lines ending_lines last_after Linked command_definitions
    call_definitions
key_claims_hold_lem = (
  record { starts = refl; ready = refl; linked = tt; claims = bound_after_setup; printed = refl; storage = refl },
  record { starts = refl; ready = refl; linked = tt; claims = bound_after_setup; printed = refl; storage = refl },
)
