-- Document 01's whole case, computed, and what is claimed of every key, of this one. Assumes nothing.
use mathlib.Core.Path.{◌≡◌, refl, sym, ap, ◌∙◌, subst}
use mathlib.Core.Bool.{false}
use mathlib.Core.Logic.{⊎_elim}
use mathlib.Core.List.{List, [], ◌∷◌, ◌++◌}
use Rattle.std.specs.Prelude.{Some}
use Prim.Native.Nat.{ℕ, ◌+◌, ◌*◌, ◌≤◌}
use native.Mathlib.Omega.{arith}
use lib.ListN.{length, get_or, take, drop, replicate}
use Rattle.heap_rules.specs.declared.Setup.{Setup}
use Rattle.heap_rules.specs.Table.{is_of_heap}
use Rattle.heap_rules.specs.Counts.{is_owned_of_class, superblocks_of_class, owners_changed, passed_between_heaps}
use Rattle.call_rules.specs.declared.Outcome.TheVariants.{Ready, Moves}
use Rattle.call_rules.specs.Answers.{After}
use Rattle.call_rules.specs.Setup.{setup_of}
use Rattle.call_rules.specs.Calls.{Free, call_with, call_of, call_unchecked}
use Rattle.call_header.specs.declared.CallHeader.TheVariants as header
use Rattle.call_rules.proofs.CallDefinitions.{call_definitions}
use Rattle.claim_rules.specs.Claim.{Step, Linked, Bounded, frees_run, OwnerChanges, Claims, steps_by, last_after}
use Rattle.claim_rules.proofs.LedgerDefinitions.{ledger_definitions}
use Rattle.claim_laws.proofs.CallListLaws.{steps_are_unchecked}
use Rattle.claim_laws.proofs.CallListCases.{whole_list}
use Rattle.record_rules.specs.declared.Command.{Command}
use Rattle.record_rules.specs.declared.Command.TheVariants as command
use Rattle.record_rules.specs.Record.{commands_of}
use Rattle.record_rules.proofs.CommandDefinitions.{command_definitions}
use Rattle.text_rules.specs.Text.{letters}
use Rattle.line_rules.specs.Lines.{stop_line}
use Rattle.key_rules.specs.Key.{key_of, storage_of, KeyOrNoRoom}
use Rattle.key_rules.specs.KeyClaim.{calls_in, steps_in, KeyClaims}
use Rattle.key_laws.proofs.KeyClaims.{key_demand_3}
use Rattle.key_laws.proofs.KeyPastCheck.{text_by, key_past_check, past_check_definitions}

abbrev pub whole_record : List ℕ
whole_record =
    0 ∷ 1 ∷ 2 ∷ 1 ∷ 1 ∷ 4
    ∷ 1 ∷ 1 ∷ 0 ∷ 8
    ∷ 1 ∷ 1 ∷ 0 ∷ 8
    ∷ 1 ∷ 1 ∷ 0 ∷ 8
    ∷ 2 ∷ 1 ∷ 0 ∷ 0 ∷ 0 ∷ 0
    ∷ 2 ∷ 1 ∷ 0 ∷ 0 ∷ 0 ∷ 0
    ∷ 2 ∷ 1 ∷ 0 ∷ 8 ∷ 0 ∷ 0
    ∷ 1 ∷ 1 ∷ 16 ∷ 0
    ∷ 1 ∷ 1 ∷ 1 ∷ 8
    ∷ []

abbrev pub whole_text : List ℕ
whole_text =
    letters "setup 1 2 1 1 4\n"
    ++ letters "take 1 2048 at 0\n"
    ++ letters "take 1 2048 at 2048\n"
    ++ letters "take 1 2048 at 4096\n"
    ++ letters "free 1 0 moved 0\n"
    ++ letters "free 1 0 refused 7\n"
    ++ letters "free 1 2048 moved 1\n"
    ++ letters "take 1 16 at 0\n"
    ++ letters "take 1 2049 refused 17\n"
    ++ letters "heap 1 class 0 superblocks 1 live 1\n"
    ++ letters "heap 1 class 26 superblocks 1 live 1\n"
    ++ letters "end\n"

abbrev setup : Setup
setup = record { processors = 1; superblocks = 2; spare = 1; p = 1; q = 4 }

-- the program's own order storage
abbrev storage : List ℕ
storage = replicate 16384 0

pub whole_case : key_of whole_record storage ≡ whole_text
unfolding past_check_definitions
whole_case = key_past_check whole_record storage setup _ refl refl ∙ refl

-- ---- what is claimed of every record's key, of this one: it is not a stop line, whose second letter is t
not_stopped : (number offset : ℕ) → key_of whole_record storage ≡ stop_line number offset → ⊥
unfolding stop_line
not_stopped number offset e = let z : ◌≡◌ {A = ℕ} 101 116 = ap (λ (l : List ℕ). get_or l 1 0) (sym whole_case ∙ e) in omega (arith, z)

whole_claims : (u : Setup) × (commands : List Command) × KeyClaims whole_record storage u commands
whole_claims = ⊎_elim (λ h. h) (λ h. absurd (not_stopped h.0 h.1 h.2)) (key_demand_3 whole_record storage)

-- the commands after the setup
abbrev pub whole_commands : List Command
whole_commands =
    command.Call (header.Take 1 2048) 0 0 ∷ command.Call (header.Take 1 2048) 0 0 ∷ command.Call (header.Take 1 2048) 0 0
    ∷ command.Call (header.Free 1 0) 0 0 ∷ command.Call (header.Free 1 0) 0 0 ∷ command.Call (header.Free 1 2048) 0 0
    ∷ command.Call (header.Take 1 16) 0 0 ∷ command.Call (header.Take 1 2049) 0 0 ∷ []

-- of a setup and commands that the record starts with, there are these alone
module _ (u : Setup) (commands : List Command)
    (starts : commands_of whole_record ≡ command.Setup u.processors u.superblocks u.spare u.p u.q ∷ commands) where
  setup_is : u ≡ setup
  unfolding command_definitions
  setup_is =
      let processors : u.processors ≡ 1 = cc in
      let superblocks : u.superblocks ≡ 2 = cc in
      let spare : u.spare ≡ 1 = cc in
      let p : u.p ≡ 1 = cc in
      let q : u.q ≡ 4 = cc in
      same u.processors u.superblocks u.spare u.p u.q processors superblocks spare p q
    where
      same : (a b c d e : ℕ) → a ≡ 1 → b ≡ 2 → c ≡ 1 → d ≡ 1 → e ≡ 4
          → ◌≡◌ {A = Setup} (record { processors = a; superblocks = b; spare = c; p = d; q = e }) setup
      same a b c d e p q r s t = rw (p, q, r, s, t)

  commands_are : commands ≡ whole_commands
  unfolding command_definitions
  commands_are = cc

pub whole_key_claims : KeyClaims whole_record storage setup whole_commands
whole_key_claims =
    let (u, commands, h) = whole_claims in
    subst (λ (v : Setup). KeyClaims whole_record storage v whole_commands) (setup_is u commands h.starts)
    (subst (KeyClaims whole_record storage u) (commands_are u commands h.starts) h)

-- the setup and the eight calls after it, which are accepted, and a list as in demand 3
pub whole_starts : (commands_of whole_record ≡ command.Setup 1 2 1 1 4 ∷ whole_commands) × (calls_in whole_record whole_commands ≡ whole_list.calls)
unfolding calls_in call_with
whole_starts = (whole_key_claims.starts, refl)

abbrev start : After
start = setup_of setup storage

pub whole_ready : start.answer.outcome ≡ Ready
whole_ready = whole_key_claims.ready

pub whole_linked : Linked start (steps_by call_of start whole_list.calls)
unfolding steps_in calls_in call_with
whole_linked = whole_key_claims.linked

-- the claim of the calls behind the check: the owners that the free changes that moves a superblock, and the bound of class 26 after the last call
calls_are_unchecked : steps_by call_of start whole_list.calls ≡ steps_by call_unchecked start whole_list.calls
calls_are_unchecked = steps_are_unchecked setup storage whole_ready whole_list.calls

whole_claimed : Claims setup start [] (λ c. 0) (steps_by call_unchecked start whole_list.calls)
unfolding steps_in calls_in call_with
whole_claimed = subst (Claims setup start [] (λ c. 0)) calls_are_unchecked whole_key_claims.claims

pub whole_owners : OwnerChanges 4 1 1 false (Free 1 2048) (Moves 1)
unfolding Claims frees_run ledger_definitions steps_by call_definitions owners_changed passed_between_heaps is_of_heap
whole_owners = whole_claimed.2.2.2.2.2.1

pub whole_bound : 3 * 2 * 1 ≤ 4 * 3 + 3 * 1 * 1 * 2
unfolding Claims Bounded ledger_definitions steps_by call_definitions superblocks_of_class is_owned_of_class is_of_heap
whole_bound = whole_claimed.2.2.2.2.2.2.2.2 26 (omega arith)

-- the text, and the storage: superblock 0 was renewed for class 0, superblock 1 for class 26
pub whole_printed : key_of whole_record storage ≡ whole_text
unfolding steps_in past_check_definitions
whole_printed = whole_key_claims.printed ∙ ap (text_by whole_record storage setup whole_commands) calls_are_unchecked ∙ refl

-- the first two places of superblock 0, and the first three of superblock 1
abbrev places_left : List ℕ → List ℕ
places_left order = take 2 order ++ take 3 (drop 256 order)

pub whole_storage : places_left (storage_of whole_record storage) ≡ 255 ∷ 254 ∷ 1 ∷ 0 ∷ 0 ∷ []
unfolding steps_in past_check_definitions
whole_storage =
    ap places_left (whole_key_claims.storage ∙ ap (λ (steps : List Step). (last_after start steps).order) calls_are_unchecked) ∙ refl

-- ---- what the answer of a call for this key says: the text stands in the buffer, what lies behind it is as it was, and the storage is the one left
pub whole_answer : (out left new : List ℕ) (n : ℕ) → KeyOrNoRoom whole_record storage out (Some n) left new
    → (n ≡ length whole_text) × (take n new ≡ whole_text) × (drop n new ≡ drop n out) × (left ≡ storage_of whole_record storage)
unfolding KeyOrNoRoom
whole_answer out left new n h = (h.1.count ∙ ap length whole_case, h.1.text ∙ whole_case, h.1.behind, h.1.storage)

-- ---- and of a record with no command: no setup starts it, so that its key is a stop line, and the storage is as it was
