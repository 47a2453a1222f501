-- The rules on a state as facts: what a choice finds, what a state that passes its check is, what moves do.
use mathlib.Core.Path.{◌≡◌}
use mathlib.Core.Bool.{Bool, true, false}
use mathlib.Core.Logic.{◌⊎◌}
use mathlib.Core.List.{List}
use Prim.Native.Nat.{ℕ, ◌+◌, ◌-◌, ◌*◌, ◌≤◌, ◌<◌}
use lib.ListN.{length, get_or}
use lib.Dec.{T}
use Rattle.class_rules.specs.Classes.{class_count, blocks_of}
use Rattle.names_rules.specs.Names.{not_held, block_named}
use Rattle.filled_rules.specs.FilledPlaces.{places_valid}
use Rattle.heap_rules.specs.declared.Superblock.{Superblock}
use Rattle.heap_rules.specs.declared.Setup.{Setup}
use Rattle.heap_rules.specs.declared.State.{State}
use Rattle.heap_rules.specs.Table.{run_owner, unused_owner, blank, superblock_at, live_in, is_of_run, with_owner, is_live_block}
use Rattle.heap_rules.specs.Counts.{belongs, superblocks_of, blocks_in, live_of, superblocks_of_class, live_of_class}
use Rattle.heap_rules.specs.Totals.{total_count, TotalsKept}
use Rattle.move_rules.specs.Moves.{must_move}
use Rattle.check_rules.specs.Check.{ranked_count}
use Rattle.heap_rules.specs.Runs.{RunAt}

-- a way to compare superblocks, by which some are preferred and the others equal
pub record StrictWeakOrder (preferred : Superblock → Superblock → Bool) : Type 0 where
  pub is_irreflexive : (b : Superblock) → T (preferred b b) → ⊥
  pub is_transitive : (a b d : Superblock) → T (preferred a b) → T (preferred b d) → T (preferred a d)
  pub is_negatively_transitive : (a b d : Superblock) → T (preferred a d) → (T (preferred b d) → ⊥) → T (preferred a b)

-- superblock k meets the criterion, none that meets it is preferred, and it is preferred to each that meets it and has a lower number
pub record IsBest (meets : Superblock → Bool) (preferred : Superblock → Superblock → Bool) (table : List Superblock) (n k : ℕ) : Type 0 where
  pub below : k < n
  pub meets_criterion_lem : T (meets (get_or table k blank))
  pub none_preferred : (m : ℕ) → m < n → T (meets (get_or table m blank)) → T (preferred (get_or table m blank) (get_or table k blank)) → ⊥
  pub preferred_to_earlier : (m : ℕ) → m < k → T (meets (get_or table m blank)) → T (preferred (get_or table k blank) (get_or table m blank))

-- what the type of a state says of its lists
pub record Shape (s : State) : Type 0 where
  pub length_is : length s.table ≡ 64
  pub marks_length : (k : ℕ) → k < 64 → length (superblock_at s k).live ≡ 4
  pub names_length : length s.names ≡ 1024
  pub superblock_totals_length : length s.totals.superblocks ≡ total_count
  pub live_totals_length : length s.totals.live ≡ total_count

-- setup numbers within their limits
pub record WithinLimits (u : Setup) : Type 0 where
  pub processors_low : 1 ≤ u.processors
  pub processors_high : u.processors ≤ 8
  pub superblocks_low : 1 ≤ u.superblocks
  pub superblocks_high : u.superblocks ≤ 64
  pub spare_low : 1 ≤ u.spare
  pub spare_high : u.spare ≤ 16
  pub p_low : 1 ≤ u.p
  pub p_high : u.p < u.q
  pub q_low : 2 ≤ u.q
  pub q_high : u.q ≤ 8

-- unused: owner 255, class 0, nothing live
pub record Unused (b : Superblock) : Type 0 where
  pub owner : b.owner ≡ unused_owner
  pub class : b.class ≡ 0
  pub live : live_in b ≡ 0

-- no heap owns it: it is unused, or part of a run (document 02, item 7)
pub record Unowned (b : Superblock) : Type 0 where
  pub owner : (b.owner ≡ unused_owner) ⊎ (b.owner ≡ run_owner)
  pub class : b.class ≡ 0
  pub live : live_in b ≡ 0

-- a superblock that a heap owns: its owner, its class, its marks and order places
pub record Owned (u : Setup) (order : List ℕ) (k : ℕ) (b : Superblock) : Type 0 where
  pub owner : b.owner ≤ u.processors
  pub class : b.class < class_count
  pub places : T (places_valid order b.live k (blocks_of b.class))

-- a superblock of heap 0 is sparse
abbrev pub Sparse : Setup → Superblock → Type 0
Sparse u b = u.q * live_in b < (u.q - u.p) * blocks_of b.class

-- the whole check, but for names, totals, ranks and runs, with this of the processor heaps and classes
pub record SoundWith (Invariant : ℕ → ℕ → State → Type 0) (s : State) (order : List ℕ) : Type 0 where
  pub numbers : WithinLimits s.setup
  pub each : (k : ℕ) → k < 64 → Unowned (superblock_at s k) ⊎ Owned s.setup order k (superblock_at s k)
  pub past_unused : (k : ℕ) → k < 64 → s.setup.superblocks ≤ k → Unused (superblock_at s k)
  pub invariant : (h c : ℕ) → 1 ≤ h → h ≤ s.setup.processors → c < class_count → Invariant h c s
  pub sparse : (k : ℕ) → k < 64 → (superblock_at s k).owner ≡ 0 → Sparse s.setup (superblock_at s k)

-- with the emptiness invariant, which the move rule keeps
abbrev pub Sound : State → List ℕ → Type 0
Sound s order = SoundWith (λ h c t. T (must_move h c t) → ⊥) s order

-- one of the move rule's conditions fails, read with so many live blocks more: as many of heap h and class c were freed since the rule was last followed
abbrev pub InvariantBeforeFrees : ℕ → ℕ → ℕ → State → Type 0
InvariantBeforeFrees freed h c s =
    (blocks_in h c s ≤ live_of h c s + freed + s.setup.spare * blocks_of c)
    ⊎ ((s.setup.q - s.setup.p) * blocks_in h c s ≤ s.setup.q * (live_of h c s + freed))

-- with so many blocks of each heap and class freed since then
abbrev pub SoundAfterFrees : (ℕ → ℕ → ℕ) → State → List ℕ → Type 0
SoundAfterFrees freed s order = SoundWith (λ h c t. InvariantBeforeFrees (freed h c) h c t) s order

-- the names' part of the check: "each held name points at a live block, no two at one"
pub record NamesSound (s : State) : Type 0 where
  pub live : (m : ℕ) → (block_named s.names m ≡ not_held → ⊥) → T (is_live_block s (block_named s.names m))
  pub distinct : (l m : ℕ) → (block_named s.names l ≡ not_held → ⊥) → block_named s.names l ≡ block_named s.names m → l ≡ m

-- the ranking's part of the check (document 02, item 4)
pub record RanksSound (s : State) : Type 0 where
  -- "without a gap": none is above the number of those ranked
  pub bounded : (k : ℕ) → k < 64 → (superblock_at s k).rank ≤ ranked_count s
  -- "each once"
  pub distinct : (k m : ℕ) → k < 64 → m < 64 → 0 < (superblock_at s k).rank → (superblock_at s k).rank ≡ (superblock_at s m).rank → k ≡ m
  -- "the rest 0, unused ones too", and those of a run: "no rank" (item 7)
  pub unowned_unranked : (k : ℕ) → k < 64 → Unowned (superblock_at s k) → (superblock_at s k).rank ≡ 0

-- the runs' part of the check (document 02, item 7)
pub record RunsSound (s : State) : Type 0 where
  -- a superblock of a run that carries a length is the first of a run that is whole
  pub first_of_run : (k : ℕ) → k < 64 → is_of_run (superblock_at s k) ≡ true → 0 < (superblock_at s k).run → RunAt s k (superblock_at s k).run
  -- one that carries none lies in a run that begins before it
  pub inside_run : (k : ℕ) → k < 64 → is_of_run (superblock_at s k) ≡ true → (superblock_at s k).run ≡ 0 → (m : ℕ) × (m < k) × (k < m + (superblock_at s m).run)
      × (is_of_run (superblock_at s m) ≡ true)
  -- "every other superblock 0"
  pub outside_carries_0 : (k : ℕ) → k < 64 → is_of_run (superblock_at s k) ≡ false → (superblock_at s k).run ≡ 0

-- each superblock is of a run if it was, and carries the length that it did
abbrev pub RunsKept : State → State → Type 0
RunsKept s t = (m : ℕ) → m < 64 → (is_of_run (superblock_at t m) ≡ is_of_run (superblock_at s m)) × ((superblock_at t m).run ≡ (superblock_at s m).run)

-- what the moves of heap h and class c, from state s, have come to: t is s with some superblocks of (h, c) passed to heap 0
pub record TransferredFrom (h c : ℕ) (s t : State) : Type 0 where
  pub setup : t.setup ≡ s.setup
  pub names : t.names ≡ s.names
  pub totals : TotalsKept s → TotalsKept t
  pub length_is : length t.table ≡ 64
  -- a superblock is as it was, or it was heap h's of class c, is sparse, and only its owner has become 0: "a moved superblock's owner was i and is 0,
  -- the others keep theirs"
  pub each : (k : ℕ) → k < 64 → (superblock_at t k ≡ superblock_at s k)
      ⊎ (T (belongs h c (superblock_at s k)) × Sparse s.setup (superblock_at s k) × (superblock_at t k ≡ with_owner 0 (superblock_at s k)))
  -- no other processor heap or class is touched
  pub others : (i d : ℕ) → 0 < i → ((i ≡ h) × (d ≡ c) → ⊥) → (superblocks_of i d t ≡ superblocks_of i d s) × (live_of i d t ≡ live_of i d s)
  -- no class changes its number of superblocks or live blocks
  pub owned : (d : ℕ) → superblocks_of_class d t ≡ superblocks_of_class d s
  pub live : (d : ℕ) → live_of_class d t ≡ live_of_class d s
