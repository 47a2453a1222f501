-- When a call is accepted, and what a take and a free then do to a state: the facts that the claims over lists go by.
use Rattle.std.specs.Prelude.{Some, None}
use mathlib.Core.Path.{◌≡◌}
use mathlib.Core.Bool.{true, false}
use mathlib.Core.Logic.{◌⊎◌, ◌↔◌}
use mathlib.Core.List.{List}
use lib.ListN.{length}
use lib.Dec.{T, eqb}
use Rattle.base_laws.specs.Sums.{pick}
use Prim.Native.Nat.{ℕ, suc, ◌+◌, ◌*◌, ◌≤◌, ◌<◌}
use Rattle.class_rules.specs.Classes.{class_count, blocks_of, class_of, run_length}
use Rattle.marks_rules.specs.Marks.{mark_bit}
use Rattle.names_rules.specs.Names.{is_held}
use Rattle.heap_rules.specs.declared.State.{State}
use Rattle.heap_rules.specs.Table.{run_owner, unused, superblock_at, live_in, is_of_run, run_part, with_rank}
use Rattle.heap_rules.specs.Ranks.{rank_after_free, rank_after_renewal}
use Rattle.heap_rules.specs.Counts.{superblocks_of, superblocks_of_class, live_of_class, owners_changed, passed_between_heaps}
use Rattle.choice_rules.specs.Choice.{fullest}
use Rattle.choice_rules.specs.RunChoice.{is_available, lowest_run}
use Rattle.check_rules.specs.Check.{names_valid, runs_valid}
use Rattle.move_rules.specs.Moves.{must_move}
use Rattle.heap_laws.proofs.StateFacts.{SoundWith, InvariantBeforeFrees, RanksSound, RunsKept}
use Rattle.heap_rules.specs.Totals.{TotalsKept}
use Rattle.call_rules.specs.LongBlocks.{long_taken_from}
use Rattle.call_rules.specs.Take.{other_places, taken_from, taken_from_other, take_of}
use Rattle.call_rules.specs.Free.{is_unmapped, is_in_run, is_misaligned, is_live_at, small_freed_at, long_freed_at, free_of}
use Rattle.call_rules.specs.Named.{is_unavailable, with_name_bound, named_take_of, held_address, named_free_of}
use Rattle.heap_rules.specs.Runs.{RunAt, InRun}

-- the state passes the check, with this of the processor heaps and classes, and its places are lent
pub record PassedWith (Invariant : ℕ → ℕ → State → Type 0) (s : State) (order : List ℕ) : Type 0 where
  pub sound : SoundWith Invariant s order
  pub names : T (names_valid s)
  -- "equal to the recount" (document 02, item 3)
  pub totals : TotalsKept s
  -- "each once without a gap" (item 4)
  pub ranks : RanksSound s
  -- "runs are whole and at most 16 long" (item 7)
  pub runs : T (runs_valid s)
  pub room : s.setup.superblocks * 256 ≤ length order

-- the state passes the check and its places are lent
abbrev pub Passed : State → List ℕ → Type 0
Passed s order = PassedWith (λ h c t. T (must_move h c t) → ⊥) s order

-- it does, but for the move rule, as so many blocks of each heap and class were freed since the rule was last followed
abbrev pub PassedAfterFrees : (ℕ → ℕ → ℕ) → State → List ℕ → Type 0
PassedAfterFrees freed s order = PassedWith (λ h c t. InvariantBeforeFrees (freed h c) h c t) s order

-- an accepted take of a block of a class: the state passes, the processor is in range, the size is at most 2048, and
-- place 1, or else one of places 2 to 4, offers superblock k
pub record TakeAccepted (s : State) (order : List ℕ) (i size k : ℕ) : Type 0 where
  pub passed : Passed s order
  pub processor : (1 ≤ i) × (i ≤ s.setup.processors)
  pub size_le_2048 : size ≤ 2048
  pub place : ((fullest i (class_of size) s ≡ Some k) × (take_of s order i size ≡ taken_from k s order))
      ⊎ ((fullest i (class_of size) s ≡ None) × (other_places (class_of size) s ≡ Some k)
      × (take_of s order i size ≡ taken_from_other i (class_of size) k s order))

-- an accepted take of a long block (document 02, item 7): the size is 2049 to 65535, and the lowest-numbered run begins at superblock k
pub record LongTakeAccepted (s : State) (order : List ℕ) (i size k : ℕ) : Type 0 where
  pub passed : Passed s order
  pub processor : (1 ≤ i) × (i ≤ s.setup.processors)
  pub size_above_2048 : 2048 < size
  pub size_le_65535 : size ≤ 65535
  pub run : lowest_run (run_length size) s ≡ Some k
  pub result_is : take_of s order i size ≡ long_taken_from k (run_length size) s order

-- the state passes, the processor is in range, and a live block starts at the address
pub record AddressAccepted (s : State) (order : List ℕ) (i a : ℕ) : Type 0 where
  pub passed : Passed s order
  pub processor : (1 ≤ i) × (i ≤ s.setup.processors)
  pub mapped : is_unmapped s a ≡ false
  pub block_aligned : is_misaligned s a ≡ false
  pub live : is_live_at s a ≡ true

-- an accepted free of a block of a class
pub record FreeAccepted (s : State) (order : List ℕ) (i a : ℕ) : Type 0 where
  pub address : AddressAccepted s order i a
  pub outside_run : is_in_run s a ≡ false
  pub result_is : free_of s order i a ≡ small_freed_at s order a

-- an accepted free of a long block
pub record LongFreeAccepted (s : State) (order : List ℕ) (i a : ℕ) : Type 0 where
  pub address : AddressAccepted s order i a
  pub in_run : is_in_run s a ≡ true
  pub result_is : free_of s order i a ≡ long_freed_at s order a

-- an accepted named take: the name is free, and the plain take is accepted
pub record NamedTakeAccepted (s : State) (order : List ℕ) (i m size k : ℕ) : Type 0 where
  pub taken : TakeAccepted s order i size k
  pub available : is_unavailable s m ≡ false
  pub result_is : named_take_of s order i m size ≡ with_name_bound m (take_of s order i size)

-- and of a long block
pub record NamedLongTakeAccepted (s : State) (order : List ℕ) (i m size k : ℕ) : Type 0 where
  pub taken : LongTakeAccepted s order i size k
  pub available : is_unavailable s m ≡ false
  pub result_is : named_take_of s order i m size ≡ with_name_bound m (take_of s order i size)

-- an accepted named free: the name is held, and the free of the held address is accepted
pub record NamedFreeAccepted (s : State) (order : List ℕ) (i m : ℕ) : Type 0 where
  pub held : T (is_held s.names m)
  pub freed : FreeAccepted s order i (held_address s m)
  pub result_is : named_free_of s order i m ≡ free_of s order i (held_address s m)

-- and of a long block
pub record NamedLongFreeAccepted (s : State) (order : List ℕ) (i m : ℕ) : Type 0 where
  pub held : T (is_held s.names m)
  pub freed : LongFreeAccepted s order i (held_address s m)
  pub result_is : named_free_of s order i m ≡ free_of s order i (held_address s m)

-- Heap i takes block j of superblock k, for class c; s is the state before and t after. Names and ranks are no part of it: they are told apart.
-- "an accepted take answers the address of a block that was not marked, in a superblock of the size's class, marks exactly it, and changes at most one owner"
pub record TakeEffect (i c k j : ℕ) (s t : State) : Type 0 where
  pub below : k < s.setup.superblocks
  pub class_lt_27 : c < class_count
  pub block : j < blocks_of c
  pub setup : t.setup ≡ s.setup
  -- the others keep all but their ranks
  pub others : (m : ℕ) → (m ≡ k → ⊥) → superblock_at t m ≡ with_rank (superblock_at t m).rank (superblock_at s m)
  pub owner : (superblock_at t k).owner ≡ i
  pub class : (superblock_at t k).class ≡ c
  pub before : (live_in (superblock_at s k) ≡ 0) ⊎ (((superblock_at s k).class ≡ c) × ((superblock_at s k).owner < run_owner))
  -- the superblock is of no run, before and after, and no run changes
  pub outside_run : is_of_run (superblock_at s k) ≡ false
  pub runs : RunsKept s t
  pub not_marked : mark_bit (superblock_at s k).live j ≡ 0
  pub is_marked_lem : mark_bit (superblock_at t k).live j ≡ 1
  pub marks : (m : ℕ) → m < 256 → (m ≡ j → ⊥) → mark_bit (superblock_at t k).live m ≡ mark_bit (superblock_at s k).live m
  pub live : live_in (superblock_at t k) ≡ suc (live_in (superblock_at s k))
  pub one_owner_changed : owners_changed s t ≤ 1
  -- the class's superblocks: another class has no more; this one has no more, or none in heap 0 now
  pub owned_of_others : (d : ℕ) → (d ≡ c → ⊥) → superblocks_of_class d t ≤ superblocks_of_class d s
  pub owned_of_class : (superblocks_of_class c t ≤ superblocks_of_class c s) ⊎ (superblocks_of 0 c t ≡ 0)
  pub live_of_class_lem : live_of_class c t ≡ suc (live_of_class c s)
  pub live_of_others : (d : ℕ) → (d ≡ c → ⊥) → live_of_class d t ≡ live_of_class d s

-- Block j of superblock k, of class c, is freed, with so many moves.
pub record FreeEffect (c k j moves : ℕ) (s t : State) : Type 0 where
  pub below : k < s.setup.superblocks
  pub class_lt_27 : c < class_count
  pub block : j < blocks_of c
  pub setup : t.setup ≡ s.setup
  pub class_before : (superblock_at s k).class ≡ c
  pub owned_before : (superblock_at s k).owner < run_owner
  pub was_marked : mark_bit (superblock_at s k).live j ≡ 1
  pub not_marked : mark_bit (superblock_at t k).live j ≡ 0
  pub marks : (m b : ℕ) → m < 64 → ((m ≡ k) × (b ≡ j) → ⊥) → b < 256 → mark_bit (superblock_at t m).live b ≡ mark_bit (superblock_at s m).live b
  pub classes : (m : ℕ) → m < 64 → (superblock_at t m).class ≡ (superblock_at s m).class
  -- an owner stays, or was a processor heap's and is 0
  pub owners : (m : ℕ) → m < 64 → ((superblock_at t m).owner ≡ (superblock_at s m).owner)
      ⊎ (((superblock_at s m).owner ≡ (superblock_at s k).owner) × ((superblock_at t m).owner ≡ 0))
  pub changed : owners_changed s t ≡ moves
  pub moves_le_q : moves ≤ s.setup.q
  pub owned : (d : ℕ) → superblocks_of_class d t ≡ superblocks_of_class d s
  pub live_of_class_lem : live_of_class c s ≡ suc (live_of_class c t)
  pub live_of_others : (d : ℕ) → (d ≡ c → ⊥) → live_of_class d t ≡ live_of_class d s
  pub runs : RunsKept s t

-- A long block takes the run of n superblocks from k on (document 02, item 7). Names and ranks are told apart.
pub record LongTakeEffect (k n : ℕ) (s t : State) : Type 0 where
  pub below : k + n ≤ s.setup.superblocks
  pub some : 1 ≤ n
  pub at_most_16 : n ≤ 16
  pub setup : t.setup ≡ s.setup
  -- "each unused or empty in heap 0"
  pub available : (m : ℕ) → InRun k n m → T (is_available (superblock_at s m))
  -- "They get owner 254, class field 0, no marks and no rank"; "The first carries the run's length, every other superblock 0"
  pub run : (m : ℕ) → InRun k n m → superblock_at t m ≡ run_part (pick (eqb m k) n 0)
  -- the others keep all but their ranks
  pub others : (m : ℕ) → (InRun k n m → ⊥) → superblock_at t m ≡ with_rank (superblock_at t m).rank (superblock_at s m)
  -- no class has more superblocks, or other live blocks
  pub owned : (d : ℕ) → superblocks_of_class d t ≤ superblocks_of_class d s
  pub live : (d : ℕ) → live_of_class d t ≡ live_of_class d s

-- The run of n superblocks from k on is freed. Names are told apart.
pub record LongFreeEffect (k n : ℕ) (s t : State) : Type 0 where
  pub run_before : RunAt s k n
  pub below : k + n ≤ s.setup.superblocks
  pub setup : t.setup ≡ s.setup
  -- "a free makes the whole run unused"
  pub run : (m : ℕ) → InRun k n m → superblock_at t m ≡ unused
  pub others : (m : ℕ) → (InRun k n m → ⊥) → superblock_at t m ≡ superblock_at s m
  -- "the q and reported moves .. [count] only those that pass between heaps"
  pub passed_between_heaps_lem : passed_between_heaps s t ≡ 0
  pub owned : (d : ℕ) → superblocks_of_class d t ≡ superblocks_of_class d s
  pub live : (d : ℕ) → live_of_class d t ≡ live_of_class d s

-- ---- what a call does to the ranks of a state s, which is t after it (document 02, item 4)
-- they are as they were
abbrev pub RanksKept : State → State → Type 0
RanksKept s t = (m : ℕ) → m < 64 → (superblock_at t m).rank ≡ (superblock_at s m).rank

-- superblock k is in front, and those that were ahead of it are shifted
abbrev pub RankedLatest : ℕ → State → State → Type 0
RankedLatest k s t = (m : ℕ) → m < 64 → (superblock_at t m).rank ≡ rank_after_free k s.table m

-- superblock k has left the ranking, and the gap is closed
abbrev pub Unranked : ℕ → State → State → Type 0
Unranked k s t = (m : ℕ) → m < 64 → (superblock_at t m).rank ≡ rank_after_renewal k s.table m

-- the superblocks of the run of n from k on have left the ranking, and the others keep their order in it
pub record RunUnranked (k n : ℕ) (s t : State) : Type 0 where
  pub in_run : (m : ℕ) → InRun k n m → (superblock_at t m).rank ≡ 0
  pub ranked_iff : (m : ℕ) → m < 64 → (InRun k n m → ⊥) → ((superblock_at t m).rank ≡ 0) ↔ ((superblock_at s m).rank ≡ 0)
  pub order_kept : (m l : ℕ) → m < 64 → l < 64 → (InRun k n m → ⊥) → (InRun k n l → ⊥) → 0 < (superblock_at s m).rank
      → (superblock_at s m).rank < (superblock_at s l).rank
      → (superblock_at t m).rank < (superblock_at t l).rank

-- a take of heap i from superblock k renews it: it was not heap i's, and nothing was live. "A superblock with nothing live is renewed for c when it
-- comes from place 2, 3 or 4; from place 1 it is not."
pub record Renews (s : State) (i k : ℕ) : Type 0 where
  pub not_own : (superblock_at s k).owner ≡ i → ⊥
  pub empty : live_in (superblock_at s k) ≡ 0

-- it does not
abbrev pub RenewsNot : State → ℕ → ℕ → Type 0
RenewsNot s i k = ((superblock_at s k).owner ≡ i) ⊎ (live_in (superblock_at s k) ≡ 0 → ⊥)

-- a take: a renewed superblock leaves the ranking, and else every rank stays, also that of an empty superblock from place 1 and that of one from
-- place 2 with live blocks
abbrev pub TakeRanks : ℕ → ℕ → State → State → Type 0
TakeRanks i k s t = (Renews s i k × Unranked k s t) ⊎ (RenewsNot s i k × RanksKept s t)
