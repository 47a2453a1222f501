-- The calls of a record that its key replays are a list as in demand 3, so that its claims hold of every record's key. Assumes nothing.
use mathlib.Core.Path.{◌≡◌, refl, sym, ap, ◌∙◌, subst}
use mathlib.Core.Bool.{Bool, true, false}
use mathlib.Core.Logic.{◌⊎◌, inl, inr, ⊎_elim}
use mathlib.Core.List.{List, [], ◌∷◌, ◌++◌, append_assoc}
use Prim.Native.Nat.{ℕ, zero, suc, ◌+◌, ◌*◌, ◌<◌}
use native.Mathlib.Omega.{arith}
use borrow.Author.Tests.{ne_eqb}
use lib.ListN.{length}
use lib.Dec.{eqb, leb}
use Rattle.base_laws.specs.Sums.{pick, either}
use Rattle.heap_rules.specs.declared.Setup.{Setup}
use Rattle.heap_rules.specs.States.{no_state}
use Rattle.check_rules.specs.Check.{within_limits}
use Rattle.call_rules.specs.declared.Outcome.{Outcome}
use Rattle.call_rules.specs.declared.Outcome.TheVariants.{Ready}
use Rattle.call_rules.specs.Answers.{After, refused, number_of}
use Rattle.call_rules.specs.Setup.{accepted_setup, setup_of}
use Rattle.call_rules.specs.Calls.{Call, call_with, call_of}
use Rattle.call_header.specs.declared.CallHeader.{CallHeader}
use Rattle.call_header.specs.declared.CallHeader.TheVariants as header
use Rattle.claim_rules.specs.Claim.{last_after, steps_by}
use Rattle.claim_laws.proofs.Demand3.{demand_3}
use Rattle.claim_laws.proofs.TotalsOverLists.{totals_kept_over_list, live_totals_agree_with_ledger}
use Rattle.claim_rules.specs.History.{RankedByLastFreeOver, OffersLastFreedOver}
use Rattle.claim_laws.proofs.RanksOverLists.{ranked_by_last_free_over_list, offers_last_freed_over_list}
use Rattle.claim_laws.proofs.LongBlocksOverLists.{long_blocks_agree_with_ledger}
use Rattle.claim_laws.proofs.NamesAgree.{ledger_and_state_names_agree}
use Rattle.claim_laws.proofs.NamesHold.{names_hold_over_list, name_refusals_over_list}
use Rattle.claim_laws.proofs.CallListLaws.{steps_linked}
use Rattle.bytes_rules.proofs.FoursLaws.{length_of_fours_at}
use Rattle.record_rules.specs.declared.Command.{Command}
use Rattle.record_rules.specs.declared.Command.TheVariants as command
use Rattle.record_rules.specs.Record.{addresses_in, command_at, call_size, size_of_command, is_refused, commands_from, commands_of}
use Rattle.record_laws.proofs.RefusalTable.{call_byte_and_size}
use Rattle.record_laws.proofs.CommandLaws.{remaining, commands_of_is_commands_at_0, commands_setup, commands_refused}
use Rattle.record_laws.proofs.CommandLaws.{setup_first_and_inside, call_later_and_inside}
use Rattle.line_rules.specs.Lines.{setup_line, drop_line, call_line, stop_line}
use Rattle.key_rules.specs.Key.{before_first, setup_text, text_of, order_after, key_of, storage_of}
use Rattle.claim_rules.specs.LongBlocksClaim.{LongBlocksAgreeOver}
use Rattle.claim_rules.specs.TotalsClaim.{TotalsCountedOver, LiveTotalsAgreeOver}
use Rattle.claim_rules.specs.NamesClaim.{NamesAgreeOver, NamesHoldOver, NameRefusalsOver}
use Rattle.key_rules.specs.KeyClaim.{calls_in, steps_in, line_of, step_lines, ending_lines, KeyClaims}

-- ---- a setup comes first, and only there
NoSetup : List Command → Type 0
NoSetup [] = Unit {0}
NoSetup (command.Setup processors superblocks spare p q ∷ commands) = ⊥
NoSetup (command.Call call count first ∷ commands) = NoSetup commands
NoSetup (command.Refused number offset ∷ commands) = NoSetup commands

no_setup_of_pick : (t : Bool) (commands : List Command) → NoSetup commands → NoSetup (pick t [] commands)
unfolding NoSetup
no_setup_of_pick true commands n = tt
no_setup_of_pick false commands n = n

no_setup_in_commands_from : (m : ℕ) (r : List ℕ) (at : ℕ) → 0 < at → NoSetup (commands_from m r at)
unfolding NoSetup commands_from size_of_command
no_setup_in_commands_from zero r at later = tt
no_setup_in_commands_from (suc m) r at later = go (command_at r at) refl (λ (k : ℕ). no_setup_in_commands_from m r (at + k) (omega arith))
  where
    over : Command → Bool
    over c = either (is_refused c) (leb (length r) (at + size_of_command c))

    go : (c : Command) → c ≡ command_at r at → ((k : ℕ) → NoSetup (commands_from m r (at + k)))
        → NoSetup (c ∷ pick (over c) [] (commands_from m r (at + size_of_command c)))
    go (command.Setup processors superblocks spare p q) e more =
        let inside-record = setup_first_and_inside r at (command.Setup processors superblocks spare p q) e processors superblocks spare p q refl in omega arith
    go (command.Call call count first) e more =
        no_setup_of_pick (over (command.Call call count first)) (commands_from m r (at + call_size call count)) (more (call_size call count))
    go (command.Refused number offset) e more = no_setup_of_pick (over (command.Refused number offset)) (commands_from m r (at + 0)) (more 0)

tail_of : List Command → List Command
tail_of [] = []
tail_of (c ∷ commands) = commands

no_setup_after_first : (r : List ℕ) → NoSetup (tail_of (commands_of r))
unfolding NoSetup tail_of commands_of commands_from size_of_command is_refused
no_setup_after_first r = go (command_at r 0)
  where
    after : (k : ℕ) → 0 < k → NoSetup (pick (leb (length r) (0 + k)) [] (commands_from (length r) r (0 + k)))
    after k some = no_setup_of_pick (leb (length r) (0 + k)) (commands_from (length r) r (0 + k)) (no_setup_in_commands_from (length r) r (0 + k) (omega arith))

    go : (c : Command) → NoSetup (pick (either (is_refused c) (leb (length r) (0 + size_of_command c))) [] (commands_from (length r) r (0 + size_of_command c)))
    go (command.Setup processors superblocks spare p q) = after 6 (omega arith)
    go (command.Call call count first) = after (call_size call count) (omega (arith, call_byte_and_size call count))
    go (command.Refused number offset) = tt

-- ---- the lines are those of the calls
module _ (r : List ℕ) (before : After) (c : Call) (commands : List Command) where
  abbrev after_call : After
  after_call = call_of before.answer.state before.order c

  -- a call's line, before those of the calls after it
  line_before_step_lines : text_of r after_call commands ≡ step_lines (steps_in r after_call commands)
      ++ ending_lines (last_after after_call (steps_in r after_call commands)) commands
      → line_of c after_call.answer.outcome ++ text_of r after_call commands
      ≡ (line_of c after_call.answer.outcome ++ step_lines (steps_in r after_call commands))
      ++ ending_lines (last_after after_call (steps_in r after_call commands)) commands
  line_before_step_lines e = let line = line_of c after_call.answer.outcome in ap (λ (l : List ℕ). line ++ l) e ∙ sym (append_assoc line _ _)

-- the line of a header with its count is that of its call
line_of_call_with : (call : CallHeader) (count : ℕ) (addresses : List ℕ) (o : Outcome) → length addresses ≡ count
    → call_line call count o ≡ line_of (call_with call addresses) o
unfolding call_line line_of call_with
line_of_call_with (header.Take i size) count addresses o e = refl
line_of_call_with (header.Free i a) count addresses o e = refl
line_of_call_with (header.NamedTake i m size) count addresses o e = refl
line_of_call_with (header.NamedFree i m) count addresses o e = refl
line_of_call_with (header.Drop i) count addresses o e = ap (λ (k : ℕ). drop_line i k o) (sym e)

text_of_is_step_lines : (r : List ℕ) (before : After) (commands : List Command) → NoSetup commands
    → text_of r before commands ≡ step_lines (steps_in r before commands) ++ ending_lines (last_after before (steps_in r before commands)) commands
unfolding NoSetup text_of steps_in calls_in steps_by step_lines last_after ending_lines
text_of_is_step_lines r before [] n = refl
text_of_is_step_lines r before (command.Setup processors superblocks spare p q ∷ commands) n = absurd n
text_of_is_step_lines r before (command.Call call count first ∷ commands) n =
    let c = call_with call (addresses_in r first count) in
    let after = after_call r before c commands in
    ap (λ (l : List ℕ). l ++ text_of r after commands)
    (line_of_call_with call count (addresses_in r first count) after.answer.outcome (length_of_fours_at r first count))
    ∙ line_before_step_lines r before c commands (text_of_is_step_lines r after commands n)
text_of_is_step_lines r before (command.Refused number offset ∷ commands) n = refl

order_after_is_last_order : (r : List ℕ) (before : After) (commands : List Command) → NoSetup commands → order_after r before commands ≡ (last_after before
    (steps_in r before commands)).order
unfolding NoSetup order_after steps_in calls_in steps_by last_after
order_after_is_last_order r before [] n = refl
order_after_is_last_order r before (command.Setup processors superblocks spare p q ∷ commands) n = absurd n
order_after_is_last_order r before (command.Call call count first ∷ commands) n =
    order_after_is_last_order r (call_of before.answer.state before.order (call_with call (addresses_in r first count))) commands n
order_after_is_last_order r before (command.Refused number offset ∷ commands) n = refl

-- ---- the theorem
module _ (r order : List ℕ) (u : Setup) (commands : List Command) (e : commands_of r ≡ command.Setup u.processors u.superblocks u.spare u.p
    u.q ∷ commands) where
  pub key_claims_of_accepted_setup : (setup_of u order).answer.outcome ≡ Ready → KeyClaims r order u commands
  unfolding tail_of key_of storage_of text_of order_after setup_text number_of steps_in
  key_claims_of_accepted_setup ready =
      let after = setup_of u order in
      let n : NoSetup commands = subst NoSetup (ap tail_of e) (no_setup_after_first r) in
      let linked = steps_linked after (calls_in r commands) in
      record {
        starts = e;
        ready = ready;
        linked = linked;
        claims = demand_3 u order after refl ready (steps_by call_of after (calls_in r commands)) linked;
        printed = ap (text_of r (before_first order)) e ∙ ap (λ (o : Outcome). setup_text u o (text_of r after commands)) ready
            ∙ ap (λ (l : List ℕ). setup_line u ++ l) (text_of_is_step_lines r after commands n);
        storage = ap (order_after r (before_first order)) e ∙ ap (λ (o : Outcome). pick (eqb (number_of o) 0) (order_after r after commands) after.order)
            ready ∙ order_after_is_last_order r after commands n;
      }

  -- a refused setup prints its stop line alone, and leaves the storage as it was
  module _ (number : ℕ) (is : setup_of u order ≡ refused (suc number) no_state order) where
    not_ready : eqb (suc number) 0 ≡ false
    not_ready = ne_eqb (suc number) 0 (λ (z : suc number ≡ 0). omega arith)

    key_of_refused_setup : key_of r order ≡ stop_line (suc number) 0
    unfolding key_of text_of setup_text number_of
    key_of_refused_setup =
        ap (text_of r (before_first order)) e
        ∙ ap (λ (x : After). setup_text u x.answer.outcome (text_of r x commands)) is
        ∙ ap (λ (t : Bool). pick t (setup_line u ++ text_of r (refused (suc number) no_state order) commands) (stop_line (suc number) 0)) not_ready

    storage_of_refused_setup : storage_of r order ≡ order
    unfolding storage_of order_after number_of
    storage_of_refused_setup =
        ap (order_after r (before_first order)) e
        ∙ ap (λ (x : After). pick (eqb (number_of x.answer.outcome) 0) (order_after r x commands) x.order) is
        ∙ ap (λ (t : Bool). pick t (order_after r (refused (suc number) no_state order) commands) order) not_ready

-- a setup is accepted, or refused with 1 or 12
setup_ready_or_refused : (u : Setup) (order : List ℕ)
    → ((setup_of u order).answer.outcome ≡ Ready) ⊎ ((number : ℕ) × (setup_of u order ≡ refused (suc number) no_state order))
unfolding setup_of
setup_ready_or_refused u order = go (within_limits u) (leb (u.superblocks * 256) (length order))
  where
    go : (a b : Bool) → ((pick a (pick b (accepted_setup u order) (refused 12 no_state order)) (refused 1 no_state order)).answer.outcome ≡ Ready)
        ⊎ ((number : ℕ) × (pick a (pick b (accepted_setup u order) (refused 12 no_state order)) (refused 1 no_state order)
        ≡ refused (suc number) no_state order))
    go true true = inl refl
    go true false = inr (11, refl)
    go false b = inr (0, refl)

-- every record's key: the claim holds of its calls, or the key is a stop line alone and no call is run, so that the storage is as it was
pub key_demand_3 : (r order : List ℕ)
    → ((u : Setup) × (commands : List Command) × KeyClaims r order u commands)
    ⊎ ((number : ℕ) × (offset : ℕ) × (key_of r order ≡ stop_line number offset) × (storage_of r order ≡ order))
unfolding key_of text_of storage_of order_after
key_demand_3 r order = go (command_at r 0) refl
  where
    Every : Type 0
    Every =
        ((u : Setup) × (commands : List Command) × KeyClaims r order u commands)
        ⊎ ((number : ℕ) × (offset : ℕ) × (key_of r order ≡ stop_line number offset) × (storage_of r order ≡ order))

    first : (u : Setup) → commands_of r ≡ command.Setup u.processors u.superblocks u.spare u.p u.q ∷ remaining r 6 → Every
    first u e =
        ⊎_elim {C = Every} (λ ready. inl (u, remaining r 6, key_claims_of_accepted_setup r order u (remaining r 6) e ready))
        (λ d.
        let (n, is) = d in
        inr (suc n, 0, key_of_refused_setup r order u (remaining r 6) e n is, storage_of_refused_setup r order u (remaining r 6) e n is))
        (setup_ready_or_refused u order)

    go : (c : Command) → c ≡ command_at r 0 → Every
    go (command.Setup processors superblocks spare p q) e =
        first (record { processors = processors; superblocks = superblocks; spare = spare; p = p; q = q })
        (commands_of_is_commands_at_0 r ∙ commands_setup r 0 (command.Setup processors superblocks spare p q) e processors superblocks spare p q refl)
    go (command.Call call count first) e =
        let inside-record = call_later_and_inside r 0 (command.Call call count first) e call count first refl in absurd (omega arith)
    go (command.Refused number offset) e =
        let stops = commands_of_is_commands_at_0 r ∙ commands_refused r 0 (command.Refused number offset) number offset e refl in
        inr (number, offset, ap (text_of r (before_first order)) stops, ap (order_after r (before_first order)) stops)

-- Document 02, item 3: the totals are the recount after such a record's setup and after each of its calls
pub key_totals_kept : (r order : List ℕ) (u : Setup) (commands : List Command) → KeyClaims r order u commands
    → TotalsCountedOver (setup_of u order) (steps_in r (setup_of u order) commands)
key_totals_kept r order u commands h = totals_kept_over_list u order (setup_of u order) refl (steps_in r (setup_of u order) commands) h.linked

-- .. and each class's live totals are the live blocks of the ledger that its calls and their answers make
pub key_live_totals_agree_with_ledger : (r order : List ℕ) (u : Setup) (commands : List Command) → KeyClaims r order u commands
    → LiveTotalsAgreeOver u (setup_of u order) [] (steps_in r (setup_of u order) commands)
key_live_totals_agree_with_ledger r order u commands h = live_totals_agree_with_ledger u order (setup_of u order) refl h.ready
    (steps_in r (setup_of u order) commands) h.linked

-- Document 02, item 4: after its setup and after each of its calls the ranked superblocks are those freed into since they were last renewed, in the
-- order of their last frees, the latest first
pub key_ranked_by_last_free : (r order : List ℕ) (u : Setup) (commands : List Command) → KeyClaims r order u commands
    → RankedByLastFreeOver (setup_of u order) [] [] (steps_in r (setup_of u order) commands)
key_ranked_by_last_free r order u commands h = ranked_by_last_free_over_list u order (setup_of u order) refl h.ready
    (steps_in r (setup_of u order) commands) h.linked

-- .. and of equally full superblocks, places 1 and 2 of a take offer the one freed into most recently since it was last renewed, and where none was, the
-- lowest
pub key_offers_last_freed : (r order : List ℕ) (u : Setup) (commands : List Command) → KeyClaims r order u commands
    → OffersLastFreedOver (setup_of u order) [] [] (steps_in r (setup_of u order) commands)
key_offers_last_freed r order u commands h =
    offers_last_freed_over_list u order (setup_of u order) refl h.ready (steps_in r (setup_of u order) commands) h.linked

-- Document 02, item 7: after its setup and after each of its calls the long blocks of that ledger are the runs of the state, by start and length
pub key_long_blocks_agree_with_ledger : (r order : List ℕ) (u : Setup) (commands : List Command) → KeyClaims r order u commands
    → LongBlocksAgreeOver (setup_of u order) [] (steps_in r (setup_of u order) commands)
key_long_blocks_agree_with_ledger r order u commands h = long_blocks_agree_with_ledger u order (setup_of u order) refl h.ready
    (steps_in r (setup_of u order) commands) h.linked

-- Document 02, item 2: after its setup and after each of its calls the names of that ledger and those of the state agree ..
module _ (r order : List ℕ) (u : Setup) (commands : List Command) (h : KeyClaims r order u commands) where
  pub key_names_agree : NamesAgreeOver (setup_of u order) [] (steps_in r (setup_of u order) commands)
  key_names_agree = ledger_and_state_names_agree u order (setup_of u order) refl h.ready (steps_in r (setup_of u order) commands) h.linked

  -- .. the state holds just the names of the ledger, which has each once ..
  pub key_names_hold : NamesHoldOver (setup_of u order) [] (steps_in r (setup_of u order) commands)
  key_names_hold = names_hold_over_list u order (setup_of u order) refl h.ready (steps_in r (setup_of u order) commands) h.linked

  -- .. and each of its named takes is refused 14, and each named free 15, exactly where the ledger says so
  pub key_name_refusals : NameRefusalsOver u [] (steps_in r (setup_of u order) commands)
  key_name_refusals = name_refusals_over_list u order (setup_of u order) refl h.ready (steps_in r (setup_of u order) commands) h.linked
