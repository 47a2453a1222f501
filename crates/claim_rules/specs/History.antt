-- Which superblocks were freed into since they were last renewed, and when, from a list of calls and their answers. An answer is an outcome and
-- a state: the frees are told by the calls and outcomes and the ledger that they make, a renewal also by the state that the answer before it holds.
use Rattle.std.specs.Prelude.{ℕ, suc, ◌+◌, ◌/◌, ◌≤◌, ◌<◌, ◌≡◌, Bool, not, ◌↔◌, List, [], ◌∷◌, T, eqb, leb, ltb, Some}
use Rattle.base_laws.specs.Sums.{pick, both}
use Rattle.class_rules.specs.Classes.{superblock_bytes, is_long, run_length}
use Rattle.heap_rules.specs.declared.State.{State}
use Rattle.heap_rules.specs.Table.{table_length, superblock_at, live_in}
use Rattle.choice_rules.specs.Choice.{has_free, fullest}
use Rattle.call_rules.specs.Calls.{Call, Take, Free, NamedTake, NamedFree, Drop}
use Rattle.call_rules.specs.declared.Outcome.{Outcome}
use Rattle.call_rules.specs.declared.Outcome.TheVariants.{Ready, Address, Moves, Refused}
use Rattle.call_rules.specs.Answers.{After}
use Rattle.claim_rules.specs.Ledger.{Entry, is_at, has_name, ledger_after}
use Rattle.claim_rules.specs.Claim.{Step}

-- what a call, or one of the frees of a drop, did to a superblock, as far as the ranking goes; a run by its first superblock and its length
pub data Event : Type 0 where
  freed_into : ℕ → Event
  renewed : ℕ → Event
  joined_run : (first n : ℕ) → Event
  neither : Event

-- a free of the block of the ledger that passes the test: it frees into the superblock that covers its address, as "Superblock s .. covers addresses
-- s × 4096 to s × 4096 + 4095"; a run that is freed was freed into in none of its superblocks
unfoldable pub event_of_block : (Entry → Bool) → List Entry → Event
event_of_block test [] = neither
event_of_block test (e ∷ ledger) = pick (test e) (pick (is_long e.size) neither (freed_into (e.address / superblock_bytes))) (event_of_block test ledger)

-- where the free is accepted
unfoldable pub event_of_free : (Entry → Bool) → List Entry → Outcome → Event
event_of_free test ledger Ready = neither
event_of_free test ledger (Address b) = neither
event_of_free test ledger (Moves m) = event_of_block test ledger
event_of_free test ledger (Refused r) = neither

-- "A superblock with nothing live is renewed .. when it comes from place 2, 3 or 4; from place 1 it is not": it is that of the address that the
-- take answered, which comes from place 1 where it was heap i's
unfoldable pub event_of_taken : State → ℕ → ℕ → Event
event_of_taken s i a =
    pick (both (eqb (live_in (superblock_at s (a / superblock_bytes))) 0) (not (eqb (superblock_at s (a / superblock_bytes)).owner i)))
    (renewed (a / superblock_bytes)) neither

-- the superblocks of a long block's run get "no rank" (document 02, item 7)
unfoldable pub event_of_take : State → ℕ → ℕ → Outcome → Event
event_of_take s i size Ready = neither
event_of_take s i size (Address a) = pick (is_long size) (joined_run (a / superblock_bytes) (run_length size)) (event_of_taken s i a)
event_of_take s i size (Moves m) = neither
event_of_take s i size (Refused r) = neither

-- the events with those of a drop before them, whose frees are "in the order written" (document 02, item 5); the latest event comes first
unfoldable pub events_after_drop : List Event → List Entry → List ℕ → Outcome → List Event
events_after_drop events ledger [] outcome = events
events_after_drop events ledger (a ∷ addresses) outcome = events_after_drop (event_of_free (is_at a) ledger outcome ∷ events) ledger addresses outcome

-- the events with those of a call before them, on state s and with the ledger before it
unfoldable pub events_after : List Event → List Entry → State → Call → Outcome → List Event
events_after events ledger s (Take processor size) outcome = event_of_take s processor size outcome ∷ events
events_after events ledger s (Free processor address) outcome = event_of_free (is_at address) ledger outcome ∷ events
events_after events ledger s (NamedTake processor name size) outcome = event_of_take s processor size outcome ∷ events
events_after events ledger s (NamedFree processor name) outcome = event_of_free (has_name name) ledger outcome ∷ events
events_after events ledger s (Drop processor addresses) outcome = events_after_drop events ledger addresses outcome

-- the last free into a superblock since it was last renewed or joined a run: so many events ago, or there was none
pub data LastFree : Type 0 where
  events_ago : ℕ → LastFree
  not_since_renewal : LastFree

unfoldable pub one_event_more : LastFree → LastFree
one_event_more (events_ago n) = events_ago (suc n)
one_event_more not_since_renewal = not_since_renewal

-- that of superblock k after one more event
unfoldable pub last_free_after : ℕ → Event → LastFree → LastFree
last_free_after k (freed_into m) before = pick (eqb m k) (events_ago 0) (one_event_more before)
last_free_after k (renewed m) before = pick (eqb m k) not_since_renewal (one_event_more before)
last_free_after k (joined_run m n) before = pick (both (leb m k) (ltb k (m + n))) not_since_renewal (one_event_more before)
last_free_after k neither before = one_event_more before

-- that of superblock k after the events, the latest of which comes first
unfoldable pub last_free : ℕ → List Event → LastFree
last_free k [] = not_since_renewal
last_free k (event ∷ earlier) = last_free_after k event (last_free k earlier)

-- the ranked superblocks are those freed into since they were last renewed or joined a run, and the later the last free the lower the rank
pub record RankedByLastFree (s : State) (events : List Event) : Type 0 where
  pub unranked_iff : (k : ℕ) → k < table_length → ((superblock_at s k).rank ≡ 0) ↔ (last_free k events ≡ not_since_renewal)
  pub later_first : (k m x y : ℕ) → k < table_length → m < table_length → last_free k events ≡ events_ago x → last_free m events ≡ events_ago y
      → x < y → (superblock_at s k).rank < (superblock_at s m).rank

-- superblock m could be offered as well as k, of heap h and class c: it has a free block and is equally full
abbrev pub EquallyFull : (h c k m : ℕ) → State → Type 0
EquallyFull h c k m s = (m < table_length) × T (has_free h c (superblock_at s m)) × (live_in (superblock_at s m) ≡ live_in (superblock_at s k))

-- the first was freed into since it was last renewed, and later than the second was, if that was at all
unfoldable pub FreedLater : LastFree → LastFree → Type 0
FreedLater (events_ago x) (events_ago y) = x < y
FreedLater (events_ago x) not_since_renewal = Unit {0}
FreedLater not_since_renewal other = ⊥

-- "Among equally full superblocks in places 1 and 2 of a take, the one freed into most recently since it was last renewed comes first .. Those not freed
-- into since then follow, lower number first" (document 02, item 4): of the superblock k that place 1 (h the processor's heap) or 2 (h = 0) offers
pub record OffersLastFreed (s : State) (events : List Event) : Type 0 where
  pub none_freed_later : (h c k m : ℕ) → fullest h c s ≡ Some k → EquallyFull h c k m s → FreedLater (last_free m events) (last_free k events) → ⊥
  -- where it was not, and so none was
  pub lowest_of_not_freed : (h c k m : ℕ) → fullest h c s ≡ Some k → EquallyFull h c k m s → last_free k events ≡ not_since_renewal → k ≤ m

-- what is so of the state and of the history before a list and after each of its calls
unfoldable pub AlongHistory : (State → List Event → Type 0) → After → List Entry → List Event → List Step → Type 0
AlongHistory P before ledger events [] = P before.answer.state events
AlongHistory P before ledger events (step ∷ steps) =
    P before.answer.state events
    × AlongHistory P step.after
    (ledger_after ledger step.call step.after.answer.outcome)
    (events_after events ledger before.answer.state step.call step.after.answer.outcome) steps

abbrev pub RankedByLastFreeOver : After → List Entry → List Event → List Step → Type 0
RankedByLastFreeOver before ledger events steps = AlongHistory RankedByLastFree before ledger events steps

abbrev pub OffersLastFreedOver : After → List Entry → List Event → List Step → Type 0
OffersLastFreedOver before ledger events steps = AlongHistory OffersLastFreed before ledger events steps
