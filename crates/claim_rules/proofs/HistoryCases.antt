-- The history of frees and renewals in cases that tell its definitions from near misses, by computation. Assumes nothing.
use mathlib.Core.Path.{◌≡◌, refl}
use mathlib.Core.List.{List, [], ◌∷◌, ◌++◌, map}
use Prim.Native.Nat.{ℕ, suc, ◌<◌}
use native.Mathlib.Omega.{arith}
use lib.ListN.{replicate}
use Rattle.base_laws.proofs.Stages.{◌also◌}
use Rattle.heap_rules.specs.declared.Superblock.{Superblock}
use Rattle.heap_rules.specs.declared.State.{State}
use Rattle.heap_rules.specs.Table.{unused, run_part, superblock_at}
use Rattle.heap_rules.proofs.CaseStates.{unnamed_state}
use Rattle.heap_rules.proofs.TableCases.{of, ranked, small_setup}
use Rattle.call_rules.specs.Calls.{Call, Take, Free, NamedTake, NamedFree, Drop}
use Rattle.call_rules.specs.declared.Outcome.TheVariants.{Ready, Address, Moves, Refused}
use Rattle.call_rules.proofs.CallDefinitions.{unchecked_call_definitions}
use Rattle.claim_rules.specs.Ledger.{Entry, named, unnamed, is_at, has_name}
use Rattle.claim_rules.specs.History.{Event, freed_into, renewed, joined_run, neither, event_of_block, event_of_free, event_of_taken, event_of_take}
use Rattle.claim_rules.specs.History.{events_after, events_after_drop}
use Rattle.claim_rules.specs.History.{events_ago, not_since_renewal, one_event_more, last_free_after, last_free, RankedByLastFree, FreedLater, OffersLastFreed}
use Rattle.claim_rules.specs.History.{AlongHistory, RankedByLastFreeOver, OffersLastFreedOver}
use Rattle.claim_rules.proofs.CaseSteps.{after_with, step_with}
use Rattle.claim_rules.proofs.LedgerDefinitions.{entry, ledger_definitions}

-- what a case of a history unfolds, listed once
unfoldable pub history_definitions : Unit {0}
unfolding AlongHistory events_after events_after_drop event_of_take event_of_taken event_of_free event_of_block last_free last_free_after one_event_more
    FreedLater
history_definitions = tt

-- Superblocks 0 to 4: heap 1's, empty; heap 0's, empty; heap 0's, with a block live; an unused one; and heap 2's, empty.
abbrev pub history_state : State
history_state = unnamed_state small_setup (of 1 20 0 ∷ of 0 23 0 ∷ of 0 20 4 ∷ unused ∷ of 2 20 0 ∷ replicate 59 unused)

-- A ledger, which need not be what calls on that state made: blocks in superblocks 1, 2 and 3, the last of the longest size that a class holds, and a
-- long block from 4 on.
abbrev pub history_entries : List Entry
history_entries = entry 8191 700 unnamed ∷ entry 8192 700 (named 7) ∷ entry 12288 2048 unnamed ∷ entry 16384 2049 (named 3) ∷ entry 12 700 unnamed ∷ []

-- an accepted free, with moves and without, frees into the superblock that covers the address of its block; another outcome is none. The ledger tells
-- a run: the state has none; and an address or a name that it does not have tells nothing
pub event_of_free_cases :
    map (λ (a : ℕ). event_of_free (is_at a) history_entries (Moves 0)) (8191 ∷ 8192 ∷ 12288 ∷ 16384 ∷ 4096 ∷ []) ≡ freed_into 1 ∷ freed_into 2 ∷ freed_into 3
    ∷ neither ∷ neither ∷ []
    × map (λ (m : ℕ). event_of_free (has_name m) history_entries (Moves 3)) (7 ∷ 3 ∷ 5 ∷ 8192 ∷ []) ≡ freed_into 2 ∷ neither ∷ neither ∷ neither ∷ []
    × map (event_of_free (is_at 8192) history_entries) (Refused 7 ∷ Ready ∷ Address 4096 ∷ Moves 1 ∷ []) ≡ neither ∷ neither ∷ neither ∷ freed_into 2 ∷ []
unfolding event_of_free event_of_block ledger_definitions
event_of_free_cases = (refl, refl, refl)

-- processor 1 took from each of 0 to 3: "A superblock with nothing live is renewed .. when it comes from place 2, 3 or 4; from place 1 it is not"
pub event_of_take_cases :
    map (event_of_take history_state 1 700) (Address 768 ∷ Address 4096 ∷ Address 9728 ∷ Address 12288 ∷ Refused 4 ∷ Ready ∷ Moves 1 ∷ [])
    ≡ neither ∷ renewed 1 ∷ neither ∷ renewed 3 ∷ neither ∷ neither ∷ neither ∷ []
unfolding event_of_take event_of_taken unchecked_call_definitions
event_of_take_cases = refl

-- ---- long blocks (document 02, item 7): a take of a long size joins as many superblocks as it has to a run, from that of its address on, though
-- that one was heap 1's; one of 2048 bytes renews; a refused one does neither
pub event_of_long_take_cases :
    map (λ (size : ℕ). event_of_take history_state 2 size (Address 12288)) (2048 ∷ 2049 ∷ 4096 ∷ 4097 ∷ 65535 ∷ [])
    ++ (event_of_take history_state 1 4097 (Address 0) ∷ event_of_take history_state 1 4097 (Refused 17) ∷ [])
    ≡ renewed 3 ∷ joined_run 3 1 ∷ joined_run 3 1 ∷ joined_run 3 2 ∷ joined_run 3 16 ∷ joined_run 0 2 ∷ neither ∷ []
unfolding event_of_take event_of_taken unchecked_call_definitions
event_of_long_take_cases = refl

-- the free of the long block, by address, by name and in a drop, is none into its superblocks
pub events_of_run_cases :
    map (λ (call : Call). events_after (freed_into 9 ∷ []) history_entries history_state call (Moves 0))
    (Free 1 16384 ∷ NamedFree 1 3 ∷ Drop 1 (16384 ∷ 8191 ∷ []) ∷ [])
    ++ map (λ (call : Call). events_after (freed_into 9 ∷ []) history_entries history_state call (Address 12288)) (Take 1 8192 ∷ NamedTake 1 5 8193 ∷ [])
    ≡ (neither ∷ freed_into 9 ∷ []) ∷ (neither ∷ freed_into 9 ∷ []) ∷ (freed_into 1 ∷ neither ∷ freed_into 9 ∷ []) ∷ (joined_run 3 2 ∷ freed_into 9 ∷ [])
    ∷ (joined_run 3 3 ∷ freed_into 9 ∷ []) ∷ []
unfolding events_after events_after_drop event_of_take event_of_taken event_of_free event_of_block unchecked_call_definitions ledger_definitions
events_of_run_cases = refl

-- each kind of call, before which superblock 9 was freed into; a named free is of the block that was taken by its name
pub events_after_cases :
    map (λ (call : Call). events_after (freed_into 9 ∷ []) history_entries history_state call (Address 4096)) (Take 1 2000 ∷ NamedTake 2 9 700 ∷ [])
    ++ (events_after (freed_into 9 ∷ []) [] history_state (Take 2 700) (Address 16384) ∷ [])
    ++ map (λ (call : Call). events_after (freed_into 9 ∷ []) history_entries history_state call (Moves 0)) (Free 1 12288 ∷ NamedFree 1 7 ∷ [])
    ++ (events_after (freed_into 9 ∷ []) history_entries history_state (NamedFree 1 7) (Refused 15) ∷ [])
    ≡ (renewed 1 ∷ freed_into 9 ∷ []) ∷ (renewed 1 ∷ freed_into 9 ∷ []) ∷ (neither ∷ freed_into 9 ∷ []) ∷ (freed_into 3 ∷ freed_into 9 ∷ [])
    ∷ (freed_into 2 ∷ freed_into 9 ∷ []) ∷ (neither ∷ freed_into 9 ∷ []) ∷ []
unfolding events_after event_of_take event_of_taken event_of_free event_of_block unchecked_call_definitions ledger_definitions
events_after_cases = refl

-- an accepted drop frees into the superblock of each address, the last address's latest; a refused one into none
pub events_after_drop_cases :
    events_after (freed_into 9 ∷ []) history_entries history_state (Drop 1 (8191 ∷ 8192 ∷ 12288 ∷ 12 ∷ [])) (Moves 2)
    ∷ events_after (freed_into 9 ∷ []) history_entries history_state (Drop 1 (8191 ∷ 12288 ∷ [])) (Refused 7) ∷ []
    ≡ (freed_into 0 ∷ freed_into 3 ∷ freed_into 2 ∷ freed_into 1 ∷ freed_into 9 ∷ []) ∷ (neither ∷ neither ∷ freed_into 9 ∷ []) ∷ []
unfolding events_after events_after_drop event_of_free event_of_block ledger_definitions
events_after_drop_cases = refl

-- The latest first: 5 was freed into, then 3, another call, 4 twice, 5 again, 4 was renewed, another call. Of 3, 4, 5 and 6, which was never freed into.
abbrev pub history : List Event
history = neither ∷ renewed 4 ∷ freed_into 5 ∷ freed_into 4 ∷ freed_into 4 ∷ neither ∷ freed_into 3 ∷ freed_into 5 ∷ []

pub last_free_cases : map (λ (k : ℕ). last_free k history) (3 ∷ 4 ∷ 5 ∷ 6 ∷ []) ≡ events_ago 6 ∷ not_since_renewal ∷ events_ago 2 ∷ not_since_renewal ∷ []
unfolding last_free last_free_after one_event_more
last_free_cases = refl

-- a free after the renewal counts again
pub freed_after_renewal_case : map (λ (k : ℕ). last_free k (freed_into 4 ∷ history)) (4 ∷ 5 ∷ []) ≡ events_ago 0 ∷ events_ago 3 ∷ []
unfolding last_free last_free_after one_event_more
freed_after_renewal_case = refl

-- superblocks 4 and 5 joined a run, and so were not freed into since; 3 and 6 beside it were, and it is one event more
pub joined_run_cases : map (λ (k : ℕ). last_free k (joined_run 4 2 ∷ map freed_into (3 ∷ 4 ∷ 5 ∷ 6 ∷ []))) (3 ∷ 4 ∷ 5 ∷ 6 ∷ []) ≡ events_ago 1
    ∷ not_since_renewal ∷ not_since_renewal ∷ events_ago 4 ∷ []
unfolding last_free last_free_after one_event_more
joined_run_cases = refl

-- ---- what the claim refuses: the earliest first; one that was freed into without a rank; one that was renewed with a rank
abbrev pub with_ranks_of_0_and_1 : ℕ → ℕ → State
with_ranks_of_0_and_1 a b = unnamed_state small_setup (ranked 1 20 1 a ∷ ranked 1 20 1 b ∷ replicate 62 unused)

pub earliest_first_refused : RankedByLastFree (with_ranks_of_0_and_1 1 2) (freed_into 1 ∷ freed_into 0 ∷ []) → ⊥
unfolding last_free last_free_after one_event_more
earliest_first_refused h = let l : ◌<◌ 2 1 = h.later_first 1 0 0 1 (omega arith) (omega arith) refl refl (omega arith) in omega arith

pub freed_without_rank_refused : RankedByLastFree (with_ranks_of_0_and_1 0 0) (freed_into 0 ∷ []) → ⊥
unfolding last_free last_free_after
freed_without_rank_refused h = let e : events_ago 0 ≡ not_since_renewal = (h.unranked_iff 0 (omega arith)).0 refl in let z : ◌≡◌ {A = ℕ} 0 1 = cc in omega arith

pub renewed_with_rank_refused : RankedByLastFree (with_ranks_of_0_and_1 1 0) (renewed 0 ∷ freed_into 0 ∷ []) → ⊥
unfolding last_free last_free_after
renewed_with_rank_refused h = let e : ◌≡◌ {A = ℕ} 1 0 = (h.unranked_iff 0 (omega arith)).1 refl in omega arith

-- ---- the later freed into of two: fewer events ago, or the only one that was at all
pub freed_later_cases : FreedLater (events_ago 3) (events_ago 4) × FreedLater (events_ago 9) not_since_renewal
unfolding FreedLater
freed_later_cases = (omega arith, tt)

pub not_freed_later_cases :
    (FreedLater (events_ago 4) (events_ago 4) → ⊥) × (FreedLater (events_ago 5) (events_ago 4) → ⊥) × (FreedLater not_since_renewal (events_ago 0) → ⊥)
    × (FreedLater not_since_renewal not_since_renewal → ⊥)
unfolding FreedLater
not_freed_later_cases = (λ l. omega arith, λ l. omega arith, λ h. h, λ h. h)

-- ---- what places 1 and 2 offer (document 02, item 4). Superblocks 0 and 1 are heap h's, with one live block each and these ranks; the others are full
abbrev pub full : Superblock
full = of 2 26 3

abbrev pub of_heap_with_ranks : ℕ → ℕ → ℕ → State
of_heap_with_ranks h a b = unnamed_state small_setup (ranked h 20 1 a ∷ ranked h 20 1 b ∷ replicate 62 full)

-- refused: 0 is offered, and 1 was freed into later, or alone, or 0 was renewed since
pub later_freed_passed_over_refused :
    (OffersLastFreed (of_heap_with_ranks 1 1 2) (freed_into 1 ∷ freed_into 0 ∷ []) → ⊥) × (OffersLastFreed (of_heap_with_ranks 1 1 2) (freed_into 1 ∷ []) → ⊥)
    × (OffersLastFreed (of_heap_with_ranks 0 1 2) (renewed 0 ∷ freed_into 0 ∷ freed_into 1 ∷ []) → ⊥)
unfolding history_definitions unchecked_call_definitions
later_freed_passed_over_refused = (
  λ h. h.none_freed_later 1 20 0 1 refl (omega arith, tt, refl) (omega arith),
  λ h. h.none_freed_later 1 20 0 1 refl (omega arith, tt, refl) tt,
  λ h. h.none_freed_later 0 20 0 1 refl (omega arith, tt, refl) tt,
)

-- 1 is offered, and neither was freed into, or 1 was renewed since
pub higher_number_offered_refused :
    (OffersLastFreed (of_heap_with_ranks 1 0 1) [] → ⊥) × (OffersLastFreed (of_heap_with_ranks 1 0 1) (neither ∷ []) → ⊥)
    × (OffersLastFreed (of_heap_with_ranks 0 0 1) (renewed 1 ∷ freed_into 1 ∷ []) → ⊥)
unfolding history_definitions unchecked_call_definitions
higher_number_offered_refused = (
  λ h. let l = h.lowest_of_not_freed 1 20 1 0 refl (omega arith, tt, refl) refl in omega arith,
  λ h. let l = h.lowest_of_not_freed 1 20 1 0 refl (omega arith, tt, refl) refl in omega arith,
  λ h. let l = h.lowest_of_not_freed 0 20 1 0 refl (omega arith, tt, refl) refl in omega arith,
)

-- ---- along lists of calls. Superblock 0 is heap 1's and empty, superblock 1 has a block live; these are their ranks
abbrev pub empty_0_with_ranks : ℕ → ℕ → State
empty_0_with_ranks a b = unnamed_state small_setup (ranked 1 20 0 a ∷ ranked 1 20 1 b ∷ replicate 62 full)

-- a block in each of superblocks 0 and 1; and a long one from 1 on, by name 3
abbrev pub blocks_in_0_and_1 : List Entry
blocks_in_0_and_1 = entry 0 700 unnamed ∷ entry 4096 700 (named 3) ∷ []

abbrev pub run_from_1 : List Entry
run_from_1 = entry 0 700 unnamed ∷ entry 4096 2049 (named 3) ∷ []

freed_without_rank : (k x : ℕ) (s : State) (events : List Event) → k < 64 → (superblock_at s k).rank ≡ 0 → last_free k events ≡ events_ago x
    → RankedByLastFree s events → ⊥
freed_without_rank k x s events l z e claim =
    let none : last_free k events ≡ not_since_renewal = (claim.unranked_iff k l).0 z in
    let w : ◌≡◌ {A = ℕ} 0 1 = cc in
    omega arith

ranked_without_free : (k r : ℕ) (s : State) (events : List Event) → k < 64 → (superblock_at s k).rank ≡ suc r → last_free k events ≡ not_since_renewal
    → RankedByLastFree s events → ⊥
ranked_without_free k r s events l e none claim = let z = (claim.unranked_iff k l).1 none in omega arith

-- the claim about ranks is refused of the state before a list, without calls and with one,
pub ranked_before_list_refused :
    (RankedByLastFreeOver (after_with Ready (empty_0_with_ranks 1 0)) [] [] [] → ⊥)
    × (RankedByLastFreeOver (after_with Ready (empty_0_with_ranks 1 0)) [] [] (step_with (Take 1 2049) (Refused 17) (empty_0_with_ranks 0 0) ∷ []) → ⊥)
unfolding history_definitions
ranked_before_list_refused = (ranked_without_free 0 0 _ _ (omega arith) refl refl, λ h. ranked_without_free 0 0 _ _ (omega arith) refl refl h.0)

-- after the first call, though it holds after the second, which renews what the first freed into,
pub unranked_after_first_call_refused :
    RankedByLastFreeOver (after_with Ready (empty_0_with_ranks 0 0)) blocks_in_0_and_1 []
    (step_with (Free 1 0) (Moves 0) (empty_0_with_ranks 0 0) ∷ step_with (Take 2 700) (Address 0) (empty_0_with_ranks 0 0) ∷ []) → ⊥
unfolding history_definitions ledger_definitions
unranked_after_first_call_refused h = freed_without_rank 0 0 _ _ (omega arith) refl refl h.1.0

-- and after the last,
pub unranked_after_last_call_refused :
    RankedByLastFreeOver (after_with Ready (empty_0_with_ranks 0 0)) blocks_in_0_and_1 []
    (step_with (Take 1 2049) (Refused 17) (empty_0_with_ranks 0 0) ∷ step_with (Free 1 0) (Moves 0) (empty_0_with_ranks 0 0) ∷ []) → ⊥
unfolding history_definitions ledger_definitions
unranked_after_last_call_refused h = freed_without_rank 0 0 _ _ (omega arith) refl refl h.1.1

-- where the earlier free is first, of two calls and of a drop,
pub earlier_free_first_refused :
    (RankedByLastFreeOver (after_with Ready (empty_0_with_ranks 0 0)) blocks_in_0_and_1 []
    (step_with (Free 1 0) (Moves 0) (empty_0_with_ranks 1 0) ∷ step_with (NamedFree 1 3) (Moves 0) (empty_0_with_ranks 1 2) ∷ []) → ⊥)
    × (RankedByLastFreeOver (after_with Ready (empty_0_with_ranks 0 0)) blocks_in_0_and_1 []
    (step_with (Drop 1 (0 ∷ 4096 ∷ [])) (Moves 0) (empty_0_with_ranks 1 2) ∷ []) → ⊥)
unfolding history_definitions ledger_definitions
earlier_free_first_refused = (
  λ h. let l : ◌<◌ 2 1 = h.1.1.later_first 1 0 0 1 (omega arith) (omega arith) refl refl (omega arith) in omega arith,
  λ h. let l : ◌<◌ 2 1 = h.1.later_first 1 0 0 1 (omega arith) (omega arith) refl refl (omega arith) in omega arith,
)

-- where the rank outlasts a renewal, or a long block that takes the superblock,
pub rank_kept_refused :
    (RankedByLastFreeOver (after_with Ready (empty_0_with_ranks 1 0)) [] (freed_into 0 ∷ []) (step_with (Take 2 700) (Address 0) (empty_0_with_ranks 1 0)
    ∷ []) → ⊥)
    × (RankedByLastFreeOver (after_with Ready (empty_0_with_ranks 1 0)) [] (freed_into 0 ∷ [])
    (step_with (NamedTake 1 7 2049) (Address 0) (empty_0_with_ranks 1 0) ∷ []) → ⊥)
unfolding history_definitions unchecked_call_definitions
rank_kept_refused = (λ h. ranked_without_free 0 0 _ _ (omega arith) refl refl h.1, λ h. ranked_without_free 0 0 _ _ (omega arith) refl refl h.1)

-- where a run that was freed is ranked, by address, by name, in a drop, and one that a call of the list took,
pub freed_run_ranked_refused :
    (RankedByLastFreeOver (after_with Ready (empty_0_with_ranks 0 0)) run_from_1 [] (step_with (Free 1 4096) (Moves 0) (empty_0_with_ranks 0 1) ∷ []) → ⊥)
    × (RankedByLastFreeOver (after_with Ready (empty_0_with_ranks 0 0)) run_from_1 [] (step_with (NamedFree 1 3) (Moves 0) (empty_0_with_ranks 0 1) ∷ []) → ⊥)
    × (RankedByLastFreeOver (after_with Ready (empty_0_with_ranks 0 0)) run_from_1 [] (step_with (Drop 1 (4096 ∷ [])) (Moves 0) (empty_0_with_ranks 0 1)
    ∷ []) → ⊥)
    × (RankedByLastFreeOver (after_with Ready (empty_0_with_ranks 0 0)) [] []
    (step_with (Take 1 2049) (Address 4096) (empty_0_with_ranks 0 0) ∷ step_with (Free 1 4096) (Moves 0) (empty_0_with_ranks 0 1) ∷ []) → ⊥)
unfolding history_definitions unchecked_call_definitions ledger_definitions
freed_run_ranked_refused = (
  λ h. ranked_without_free 1 0 _ _ (omega arith) refl refl h.1,
  λ h. ranked_without_free 1 0 _ _ (omega arith) refl refl h.1,
  λ h. ranked_without_free 1 0 _ _ (omega arith) refl refl h.1,
  λ h. ranked_without_free 1 0 _ _ (omega arith) refl refl h.1.1,
)

-- and where a block of a class that was freed leaves no rank: the ledger has it, though the state has a run there; and a call of the list took it
pub freed_block_unranked_refused :
    (RankedByLastFreeOver (after_with Ready (unnamed_state small_setup (of 1 20 1 ∷ run_part 1 ∷ replicate 62 unused))) blocks_in_0_and_1 []
    (step_with (Free 1 4096) (Moves 0) (empty_0_with_ranks 0 0) ∷ []) → ⊥)
    × (RankedByLastFreeOver (after_with Ready (empty_0_with_ranks 0 0)) [] []
    (step_with (Take 1 700) (Address 4096) (empty_0_with_ranks 0 0) ∷ step_with (Free 1 4096) (Moves 0) (empty_0_with_ranks 0 0) ∷ []) → ⊥)
unfolding history_definitions unchecked_call_definitions ledger_definitions
freed_block_unranked_refused = (
  λ h. freed_without_rank 1 0 _ _ (omega arith) refl refl h.1,
  λ h. freed_without_rank 1 0 _ _ (omega arith) refl refl h.1.1,
)

-- the claim about what is offered is refused of the state before a list, without calls and with one,
pub offered_before_list_refused :
    (OffersLastFreedOver (after_with Ready (of_heap_with_ranks 1 0 1)) [] [] [] → ⊥)
    × (OffersLastFreedOver (after_with Ready (of_heap_with_ranks 1 0 1)) [] [] (step_with (Take 1 2049) (Refused 17) (of_heap_with_ranks 1 0 0) ∷ []) → ⊥)
unfolding AlongHistory
offered_before_list_refused = (λ h. higher_number_offered_refused.0 h, λ h. higher_number_offered_refused.0 h.0)

-- after the first call, though the second makes it right, and after the last,
pub offered_after_call_refused :
    (OffersLastFreedOver (after_with Ready (of_heap_with_ranks 1 0 0)) blocks_in_0_and_1 []
    (step_with (Free 1 4096) (Moves 0) (of_heap_with_ranks 1 1 2) ∷ step_with (Free 1 0) (Moves 0) (of_heap_with_ranks 1 1 2) ∷ []) → ⊥)
    × (OffersLastFreedOver (after_with Ready (of_heap_with_ranks 1 0 0)) blocks_in_0_and_1 []
    (step_with (Free 1 0) (Moves 0) (of_heap_with_ranks 1 1 0) ∷ step_with (Free 1 4096) (Moves 0) (of_heap_with_ranks 1 1 2) ∷ []) → ⊥)
unfolding history_definitions ledger_definitions
offered_after_call_refused = (λ h. later_freed_passed_over_refused.1 h.1.0, λ h. later_freed_passed_over_refused.0 h.1.1)

-- where 0 is offered still after it was renewed,
pub renewed_offered_refused :
    OffersLastFreedOver (after_with Ready (empty_0_with_ranks 1 2)) [] (freed_into 0 ∷ freed_into 1 ∷ [])
    (step_with (Take 2 700) (Address 0) (of_heap_with_ranks 0 1 2) ∷ []) → ⊥
unfolding history_definitions unchecked_call_definitions
renewed_offered_refused h = later_freed_passed_over_refused.2 h.1

-- and where the higher number is offered after the free of a run
pub run_offered_refused :
    OffersLastFreedOver (after_with Ready (of_heap_with_ranks 1 0 0)) run_from_1 [] (step_with (Free 1 4096) (Moves 0) (of_heap_with_ranks 1 0 1) ∷ []) → ⊥
unfolding history_definitions ledger_definitions
run_offered_refused h = higher_number_offered_refused.1 h.1

-- what the dear cases of the claims unfold
unfoldable pub history_holds : Unit {0}
history_holds =
    event_of_free_cases also event_of_take_cases also event_of_long_take_cases also events_of_run_cases also events_after_cases
    also events_after_drop_cases also last_free_cases also freed_after_renewal_case also joined_run_cases also earliest_first_refused
    also freed_without_rank_refused also renewed_with_rank_refused also freed_later_cases also not_freed_later_cases
    also later_freed_passed_over_refused also higher_number_offered_refused also ranked_before_list_refused also unranked_after_first_call_refused
    also unranked_after_last_call_refused also earlier_free_first_refused also rank_kept_refused also freed_run_ranked_refused
    also freed_block_unranked_refused also offered_before_list_refused also offered_after_call_refused also renewed_offered_refused
    also run_offered_refused also tt
