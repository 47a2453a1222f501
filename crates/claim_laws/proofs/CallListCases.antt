-- Lists of calls that the claim speaks of, computed. Assumes nothing.
use mathlib.Core.Path.{◌≡◌, refl, ap, ◌∙◌, subst}
use mathlib.Core.Bool.{true, false}
use mathlib.Core.List.{List, [], ◌∷◌, ◌++◌, map}
use Prim.Native.Nat.{ℕ, ◌+◌, ◌*◌, ◌≤◌}
use native.Mathlib.Omega.{arith}
use lib.ListN.{get_or, replicate, drop}
use Rattle.heap_rules.specs.declared.Setup.{Setup}
use Rattle.heap_rules.specs.declared.State.{State}
use Rattle.heap_rules.specs.Table.{is_of_heap}
use Rattle.heap_rules.specs.Counts.{is_owned_of_class, superblocks_of_class, owners_changed, passed_between_heaps}
use Rattle.check_rules.specs.Check.{within_limits}
use Rattle.call_rules.specs.declared.Outcome.{Outcome}
use Rattle.call_rules.specs.declared.Outcome.TheVariants.{Ready, Address, Moves, Refused}
use Rattle.call_rules.specs.Answers.{After}
use Rattle.call_rules.specs.Setup.{setup_of}
use Rattle.call_rules.specs.Calls.{Call, Take, Free, NamedTake, NamedFree, Drop, call_of, call_unchecked}
use Rattle.call_rules.proofs.CallDefinitions.{call_definitions}
use Rattle.call_rules.proofs.RuleCases.{setup_with}
use Rattle.claim_rules.specs.Ledger.{Entry, ledger_after, entries_of}
use Rattle.claim_rules.specs.Claim.{Step, Bounded, frees_run, OwnerChanges, Claims, steps_by}
use Rattle.claim_rules.proofs.LedgerDefinitions.{ledger_definitions}
use Rattle.claim_laws.proofs.CallListLaws.{steps_are_unchecked, demand_3_calls}

-- What one call of a list answered, how many owners it changed, how many of the superblocks passed between heaps where it was a free or a drop, and after it,
-- for some classes, the ledger's live blocks and the superblocks that any heap owns.
pub record CallRow : Type 0 where
  pub outcome : Outcome
  pub changed : ℕ
  pub passed : ℕ
  pub live : List ℕ
  pub owned : List ℕ

-- "the q and reported moves of a free or drop [count] only those that pass between heaps" (document 02, item 7)
unfoldable pub passed_by_free : Outcome → State → State → ℕ
passed_by_free Ready s t = 0
passed_by_free (Address a) s t = 0
passed_by_free (Moves m) s t = passed_between_heaps s t
passed_by_free (Refused r) s t = 0

unfoldable pub rows_of : List ℕ → State → List Entry → List Step → List CallRow
rows_of classes s ledger [] = []
rows_of classes s ledger (step ∷ steps) =
    let outcome = step.after.answer.outcome in
    let t = step.after.answer.state in
    let new = ledger_after ledger step.call outcome in
    record {
      outcome = outcome;
      changed = owners_changed s t;
      passed = passed_by_free outcome s t;
      live = map (λ c. entries_of c new) classes;
      owned = map (λ c. superblocks_of_class c t) classes;
    }
    ∷ rows_of classes t new steps

-- the rows of a list of calls after a setup
unfoldable pub rows : Setup → List ℕ → List ℕ → List Call → List CallRow
rows u order classes calls = rows_of classes (setup_of u order).answer.state [] (steps_by call_of (setup_of u order) calls)

-- and as they are computed
rows_answered : Setup → List ℕ → List ℕ → List Call → List CallRow
rows_answered u order classes calls = rows_of classes (setup_of u order).answer.state [] (steps_by call_unchecked (setup_of u order) calls)

rows_are_computed : (u : Setup) (order : List ℕ) → (setup_of u order).answer.outcome ≡ Ready → (classes : List ℕ) (calls : List Call)
    → rows u order classes calls ≡ rows_answered u order classes calls
unfolding rows rows_answered
rows_are_computed u order ready classes calls = ap (rows_of classes (setup_of u order).answer.state []) (steps_are_unchecked u order ready calls)

-- A list of calls after a setup, with as many order places as its superblocks have, and its rows for two classes, but for the first few.
pub record ListCase : Type 0 where
  pub setup : Setup
  pub classes : ℕ × ℕ
  pub calls : List Call
  pub skipped : ℕ
  pub expected : List CallRow

abbrev pub list_case : Setup → ℕ × ℕ → List Call → ℕ → List CallRow → ListCase
list_case u classes calls skipped expected = record { setup = u; classes = classes; calls = calls; skipped = skipped; expected = expected }

abbrev pub order_of : ListCase → List ℕ
order_of k = replicate (k.setup.superblocks * 256) 0

abbrev pub both_of : ℕ × ℕ → List ℕ
both_of c = c.0 ∷ c.1 ∷ []

-- the moves that it reports
unfoldable pub reported : Outcome → ℕ
reported Ready = 0
reported (Address a) = 0
reported (Moves m) = m
reported (Refused r) = 0

-- as many passed as it reports
abbrev row : Outcome → ℕ → ℕ × ℕ → ℕ × ℕ → CallRow
row outcome changed live owned = record { outcome = outcome; changed = changed; passed = reported outcome; live = both_of live; owned = both_of owned }

-- ---- document 01's whole case: classes 26 and 0. The second accepted free moves superblock 0 to heap 0; from there place 3 gives it to
-- class 0, which grows, so that no superblock is left for a long block.
abbrev pub whole_list : ListCase
whole_list = list_case (setup_with 1 2 1 1 4) (26, 0)
    (Take 1 2048 ∷ Take 1 2048 ∷ Take 1 2048 ∷ Free 1 0 ∷ Free 1 0 ∷ Free 1 2048 ∷ Take 1 16 ∷ Take 1 2049 ∷ []) 0
    (row (Address 0) 1 (1, 0) (1, 0) ∷ row (Address 2048) 0 (2, 0) (1, 0) ∷ row (Address 4096) 1 (3, 0) (2, 0) ∷ row (Moves 0) 0 (2, 0) (2, 0)
    ∷ row (Refused 7) 0 (2, 0) (2, 0) ∷ row (Moves 1) 1 (1, 0) (2, 0) ∷ row (Address 0) 1 (1, 1) (1, 1) ∷ row (Refused 17) 0 (1, 1) (1, 1) ∷ [])

-- ---- each refusal that a call of a list can meet, with one superblock: a refused call changes no owner and adds nothing to the ledger
abbrev pub refused_list : ListCase
refused_list = list_case (setup_with 1 1 1 1 4) (26, 0)
    (Take 1 2048 ∷ Take 2 16 ∷ Take 1 65536 ∷ Take 1 2049 ∷ Take 1 0 ∷ Free 0 0 ∷ Free 1 4096 ∷ Free 1 16 ∷ Free 1 2048 ∷ Free 1 0 ∷ []) 0
    (row (Address 0) 1 (1, 0) (1, 0) ∷ map (λ (r : ℕ). row (Refused r) 0 (1, 0) (1, 0)) (2 ∷ 3 ∷ 17 ∷ 4 ∷ 2 ∷ 5 ∷ 6 ∷ 7 ∷ [])
    ++ row (Moves 0) 0 (0, 0) (1, 0) ∷ [])

-- ---- a free that moves two superblocks: twelve blocks of class 26 fill six superblocks; with 1, 1, 1, 1, 2, 2 live the heap meets
-- both conditions of the move rule, and still does after one move
abbrev pub two_moves_list : ListCase
two_moves_list = list_case (setup_with 1 6 1 1 4) (26, 0)
    (replicate 12 (Take 1 2048) ++ Free 1 0 ∷ Free 1 4096 ∷ Free 1 8192 ∷ Free 1 12288 ∷ []) 11
    (row (Address 22528) 0 (12, 0) (6, 0) ∷ row (Moves 0) 0 (11, 0) (6, 0) ∷ row (Moves 0) 0 (10, 0) (6, 0) ∷ row (Moves 0) 0 (9, 0) (6, 0)
    ∷ row (Moves 2) 2 (8, 0) (6, 0) ∷ [])

-- ---- the spare superblocks that K lets a heap keep: heap 1 frees its three blocks and keeps two superblocks, heap 2 then draws
-- two more. (q - p) × n × A = 7 × 2 × 4 = 56 is above 8 × 3 + 7 × 2 × 1 × 2 = 52, the bound with 1 for K, and within 80, the bound.
abbrev pub spare_list : ListCase
spare_list = list_case (setup_with 2 4 2 1 8) (26, 0)
    (replicate 3 (Take 1 2048) ++ Free 1 0 ∷ Free 1 2048 ∷ Free 1 4096 ∷ replicate 3 (Take 2 2048)) 2
    (row (Address 4096) 1 (3, 0) (2, 0) ∷ row (Moves 0) 0 (2, 0) (2, 0) ∷ row (Moves 0) 0 (1, 0) (2, 0) ∷ row (Moves 0) 0 (0, 0) (2, 0)
    ∷ row (Address 8192) 1 (1, 0) (3, 0) ∷ row (Address 10240) 0 (2, 0) (3, 0) ∷ row (Address 12288) 1 (3, 0) (4, 0) ∷ [])

-- ---- document 02, item 1: takes of size 0 and of size 16 are live blocks of class 0 and share its superblock; none is of class 1
abbrev pub size_0_list : ListCase
size_0_list = list_case (setup_with 1 1 1 1 4) (0, 1)
    (Take 1 0 ∷ Take 1 16 ∷ Take 1 0 ∷ Free 1 0 ∷ Take 1 0 ∷ Take 1 17 ∷ []) 0
    (row (Address 0) 1 (1, 0) (1, 0) ∷ row (Address 16) 0 (2, 0) (1, 0) ∷ row (Address 32) 0 (3, 0) (1, 0) ∷ row (Moves 0) 0 (2, 0) (1, 0)
    ∷ row (Address 0) 0 (3, 0) (1, 0) ∷ row (Refused 4) 0 (3, 0) (1, 0) ∷ [])

-- ---- document 02, item 2: plain and named calls mixed, with two superblocks of class 26. Name 5 is bound, held (14), let go by a free of its address, so
-- that it is not held (15) and may be bound again, and freed by name; 1024 is no name; a take refused with 17 binds none
abbrev pub named_list : ListCase
named_list = list_case (setup_with 1 2 1 1 4) (26, 0)
    (NamedTake 1 5 2048 ∷ NamedTake 1 5 2048 ∷ Take 1 2048 ∷ NamedTake 1 1024 16 ∷ Free 1 0 ∷ NamedFree 1 5 ∷ NamedTake 1 5 2000 ∷ NamedTake 1 7 4097
    ∷ NamedFree 1 7 ∷ NamedTake 1 1023 2048 ∷ NamedFree 1 5 ∷ NamedFree 1 1023 ∷ []) 0
    (row (Address 0) 1 (1, 0) (1, 0) ∷ row (Refused 14) 0 (1, 0) (1, 0) ∷ row (Address 2048) 0 (2, 0) (1, 0) ∷ row (Refused 14) 0 (2, 0) (1, 0)
    ∷ row (Moves 0) 0 (1, 0) (1, 0)
    ∷ row (Refused 15) 0 (1, 0) (1, 0) ∷ row (Address 0) 0 (2, 0) (1, 0) ∷ row (Refused 17) 0 (2, 0) (1, 0) ∷ row (Refused 15) 0 (2, 0) (1, 0)
    ∷ row (Address 4096) 1 (3, 0) (2, 0)
    ∷ row (Moves 0) 0 (2, 0) (2, 0) ∷ row (Moves 1) 1 (1, 0) (2, 0) ∷ [])

-- ---- document 02, item 5: seven blocks of class 26 fill superblocks 0 to 2 and half of 3. A drop of one block of 0 and the one of 3 empties 3,
-- which passes on, and no other; the frees one by one would have passed on 0 and then 3. A double, no address and a bad one last are refused; the
-- next drop frees a block of heap 0's and passes on superblock 0.
abbrev pub drop_list : ListCase
drop_list = list_case (setup_with 1 4 1 1 4) (26, 0)
    (replicate 7 (Take 1 2048) ++ Free 1 8192 ∷ Drop 1 (0 ∷ 12288 ∷ []) ∷ Drop 1 (2048 ∷ 2048 ∷ []) ∷ Drop 1 [] ∷ Drop 1 (2048 ∷ 4096 ∷ 4097 ∷ [])
    ∷ Drop 1 (2048 ∷ 6144 ∷ []) ∷ []) 6
    (row (Address 12288) 1 (7, 0) (4, 0) ∷ row (Moves 0) 0 (6, 0) (4, 0) ∷ row (Moves 1) 1 (4, 0) (4, 0) ∷ row (Refused 7) 0 (4, 0) (4, 0)
    ∷ row (Refused 16) 0 (4, 0) (4, 0) ∷ row (Refused 6) 0 (4, 0) (4, 0)
    ∷ row (Moves 1) 1 (2, 0) (4, 0) ∷ [])

-- ---- document 02, item 7: five blocks of class 26 fill superblocks 0 and 1 and half of 2, which two frees empty and pass to heap 0. A long block of
-- three superblocks takes it and the unused 3 and 4, so that class 26 has one less; one of two finds only 5 (17), one of one takes it by a name.
-- Other addresses in a run are refused 6. The named free makes 5 unused. The drop frees the run and all but one of the blocks of class 26 and passes
-- superblock 1 on, which the last long block takes with the unused 2. No run counts in class 0, and a run's owners change and pass between no heaps.
abbrev pub long_list : ListCase
long_list = list_case (setup_with 1 6 1 1 4) (26, 0)
    (replicate 5 (Take 1 2048) ++ Free 1 8192 ∷ Free 1 6144 ∷ Take 1 8193 ∷ Take 1 4097 ∷ NamedTake 1 9 2049 ∷ Free 1 12288 ∷ Free 1 8208 ∷ NamedFree 1 9
    ∷ Take 1 2048
    ∷ Drop 1 (8192 ∷ 0 ∷ 4096 ∷ 6144 ∷ []) ∷ Take 1 4097 ∷ Free 1 8192 ∷ Free 1 4096 ∷ []) 5
    (row (Moves 0) 0 (4, 0) (3, 0) ∷ row (Moves 1) 1 (3, 0) (3, 0) ∷ row (Address 8192) 3 (3, 0) (2, 0) ∷ row (Refused 17) 0 (3, 0) (2, 0)
    ∷ row (Address 20480) 1 (3, 0) (2, 0)
    ∷ row (Refused 6) 0 (3, 0) (2, 0) ∷ row (Refused 6) 0 (3, 0) (2, 0) ∷ row (Moves 0) 1 (3, 0) (2, 0) ∷ row (Address 6144) 0 (4, 0) (2, 0)
    ∷ row (Moves 1) 4 (1, 0) (2, 0)
    ∷ row (Address 4096) 2 (1, 0) (1, 0) ∷ row (Refused 6) 0 (1, 0) (1, 0) ∷ row (Moves 0) 2 (1, 0) (1, 0) ∷ [])

-- ---- all of them, computed
abbrev pub list_cases : List ListCase
list_cases = whole_list ∷ refused_list ∷ two_moves_list ∷ spare_list ∷ size_0_list ∷ named_list ∷ drop_list ∷ long_list ∷ []

abbrev pub outcome_of_setup : ListCase → Outcome
outcome_of_setup k = (setup_of k.setup (order_of k)).answer.outcome

abbrev pub rows_of_lem : ListCase → List CallRow
rows_of_lem k = drop k.skipped (rows k.setup (order_of k) (both_of k.classes) k.calls)

abbrev rows_answered_of : ListCase → List CallRow
rows_answered_of k = drop k.skipped (rows_answered k.setup (order_of k) (both_of k.classes) k.calls)

-- each setup is accepted
each_ready : map outcome_of_setup list_cases ≡ map (λ (k : ListCase). Ready) list_cases
unfolding setup_of within_limits
each_ready = refl

-- the rows, by the calls behind the check
each_answered : map rows_answered_of list_cases ≡ map (λ (k : ListCase). k.expected) list_cases
unfolding rows_answered rows_of ledger_definitions steps_by call_definitions superblocks_of_class is_owned_of_class is_of_heap owners_changed
    passed_between_heaps
    passed_by_free reported
each_answered = refl

-- in a list whose setup is accepted the check passes before each call
each_past_check : (l : List ListCase) → map outcome_of_setup l ≡ map (λ (k : ListCase). Ready) l → map rows_of_lem l ≡ map rows_answered_of l
each_past_check [] e = refl
each_past_check (k ∷ l) e =
    rw (
      rows_are_computed k.setup (order_of k) (ap (λ (o : List Outcome). get_or o 0 Ready) e) (both_of k.classes) k.calls,
      each_past_check l (ap (drop 1) e),
    )

pub list_cases_are_computed : map rows_of_lem list_cases ≡ map (λ (k : ListCase). k.expected) list_cases
list_cases_are_computed = each_past_check list_cases each_ready ∙ each_answered

-- ---- the claim speaks of each
abbrev pub start_of : ListCase → After
start_of k = setup_of k.setup (order_of k)

abbrev pub ClaimedBy : (State → List ℕ → Call → After) → ListCase → Type 0
ClaimedBy f k = Claims k.setup (start_of k) [] (λ c. 0) (steps_by f (start_of k) k.calls)

pub claims_of_case : (k : ListCase) → outcome_of_setup k ≡ Ready → ClaimedBy call_of k
claims_of_case k ready = demand_3_calls k.setup (order_of k) ready k.calls

-- .. and of its calls behind the check, by which what it says is computed
claimed_behind_check : (k : ListCase) → outcome_of_setup k ≡ Ready → ClaimedBy call_unchecked k
claimed_behind_check k ready =
    subst (Claims k.setup (start_of k) [] (λ c. 0)) (steps_are_unchecked k.setup (order_of k) ready k.calls) (claims_of_case k ready)

whole_case_claimed : ClaimedBy call_unchecked whole_list
whole_case_claimed = claimed_behind_check whole_list (ap (λ (o : List Outcome). get_or o 0 Ready) each_ready)

drop_case_claimed : ClaimedBy call_unchecked drop_list
drop_case_claimed = claimed_behind_check drop_list (ap (λ (o : List Outcome). get_or o 6 Ready) each_ready)

long_case_claimed : ClaimedBy call_unchecked long_list
long_case_claimed = claimed_behind_check long_list (ap (λ (o : List Outcome). get_or o 7 Ready) each_ready)

-- ---- here of the whole case
-- the third free, the refused one before it and the refused take: q, the owners changed, those of superblocks that passed between heaps
pub owners_of_whole_case :
    OwnerChanges 4 1 1 false (Free 1 2048) (Moves 1) × OwnerChanges 4 0 0 false (Free 1 0) (Refused 7) × OwnerChanges 4 0 0 false (Take 1 2049) (Refused 17)
unfolding Claims frees_run ledger_definitions steps_by call_definitions owners_changed passed_between_heaps is_of_heap
owners_of_whole_case = (whole_case_claimed.2.2.2.2.2.1, whole_case_claimed.2.2.2.2.1, whole_case_claimed.2.2.2.2.2.2.2.1)

-- the bound after the last call: class 26 has three blocks for its M and one superblock left, class 0 one block and one superblock
pub bound_of_whole_case : (3 * 2 * 1 ≤ 4 * 3 + 3 * 1 * 1 * 2) × (3 * 256 * 1 ≤ 4 * 1 + 3 * 1 * 1 * 256)
unfolding Claims Bounded ledger_definitions steps_by call_definitions superblocks_of_class is_owned_of_class is_of_heap
bound_of_whole_case = (whole_case_claimed.2.2.2.2.2.2.2.2 26 (omega arith), whole_case_claimed.2.2.2.2.2.2.2.2 0 (omega arith))

-- .. of the last drop of its list, which frees no run, and of the drop that frees one of three superblocks
pub owners_of_drops : OwnerChanges 4 1 1 false (Drop 1 (2048 ∷ 6144 ∷ [])) (Moves 1) × OwnerChanges 4 4 1 true (Drop 1 (8192 ∷ 0 ∷ 4096 ∷ 6144 ∷ [])) (Moves 1)
unfolding Claims frees_run ledger_definitions steps_by call_definitions owners_changed passed_between_heaps is_of_heap
owners_of_drops =
    (drop_case_claimed.2.2.2.2.2.2.2.2.2.2.2.2.1, long_case_claimed.2.2.2.2.2.2.2.2.2.2.2.2.2.2.1)
