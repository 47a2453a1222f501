-- Blocks freed one after another, before any move, in a drop (document 02, item 5). Assumes nothing.
use mathlib.Core.Path.{◌≡◌, refl, ap, ap₂, ◌∙◌, subst}
use mathlib.Core.Bool.{Bool, true, false}
use mathlib.Core.Logic.{◌⊎◌, inl, inr}
use mathlib.Core.List.{List, [], ◌∷◌}
use Prim.Native.Nat.{ℕ, zero, suc, ◌+◌, ◌≤◌, ◌<◌}
use native.Mathlib.Nat.{pos_of_ne-zero}
use native.Mathlib.Decide.{ℕ_discrete, dec_lt}
use native.Mathlib.Omega.{arith}
use borrow.Author.Tests.{eqb-true, eqb-false}
use lib.ListN.{length, get_or, take}
use lib.Dec.{eqb}
use Rattle.base_laws.specs.Sums.{pick, both, one, sum_below}
use Rattle.class_rules.specs.Classes.{class_count}
use Rattle.base_laws.proofs.Inequalities.{le_of_not_below}
use Rattle.base_laws.proofs.TestLaws.{neither_left, neither_right}
use Rattle.base_laws.proofs.SumLaws.{sum_cong, sum_of_zeros, sum_le_of_terms_le}
use Rattle.base_laws.proofs.Counting.{sum_add, indicator_sum_inside, indicator_sum_outside}
use Rattle.names_rules.specs.Names.{block_number}
use Rattle.heap_rules.specs.declared.Superblock.{Superblock}
use Rattle.heap_rules.specs.declared.State.{State}
use Rattle.heap_rules.specs.Table.{run_owner, unused_owner, superblock_at, is_of_run}
use Rattle.heap_rules.specs.Counts.{belongs, superblocks_of_class}
use Rattle.heap_rules.specs.Totals.{heap_count, TotalsKept}
use Rattle.heap_rules.specs.Ranks.{RanksFit}
use Rattle.heap_laws.proofs.StateFacts.{Shape, RunsSound}
use Rattle.heap_laws.proofs.CountLaws.{sum_from_heap_0}
use Rattle.heap_laws.proofs.RankLaws.{ranks_fit_of_sound}
use Rattle.heap_laws.proofs.RunLaws.{runs_sound_of_valid}
use Rattle.call_rules.specs.Free.{superblock_index, superblock_holding, block_of, is_in_run, address_refusal, order_pushed, block_freed}
use Rattle.call_rules.specs.Drop.{all_freed, all_pushed, first_address_refusal, is_touched}
use Rattle.call_laws.proofs.CallEffects.{PassedAfterFrees}
use Rattle.call_laws.proofs.TransferredLaws.{one_more_freed, passed_after_frees_cong}
use Rattle.call_laws.proofs.BlockFreedLaws.{freed_superblock_owner_le, small_block_freed_effect}
use Rattle.call_laws.proofs.AddressFreedLaws.{OwnersKeptOrRunFreed, address_freed, same_belongs, owners_kept_or_run_freed_then}

-- how many of the addresses lie in superblocks of heap h and class c
unfoldable pub freed_of : State → List ℕ → ℕ → ℕ → ℕ
freed_of s [] h c = 0
freed_of s (a ∷ addresses) h c = one (belongs h c (superblock_holding s a)) + freed_of s addresses h c

-- none, where they do not touch it
pub freed_of_untouched : (s : State) (addresses : List ℕ) (h c : ℕ) → is_touched s addresses h c ≡ false → freed_of s addresses h c ≡ 0
unfolding freed_of is_touched
freed_of_untouched s [] h c e = refl
freed_of_untouched s (a ∷ addresses) h c e =
    let one_is : one (belongs h c (superblock_holding s a)) ≡ 0 = ap one (neither_left (belongs h c (superblock_holding s a)) (is_touched s addresses h c) e) in
    let rest = freed_of_untouched s addresses h c (neither_right (belongs h c (superblock_holding s a)) (is_touched s addresses h c) e) in
    omega arith

-- ---- each address is of one heap and class at most, so that all counts together are at most as many as the addresses
one_class_of_superblock : (h : ℕ) (b : Superblock) → sum_below (λ c. one (belongs h c b)) class_count ≤ one (eqb b.owner h)
unfolding belongs
one_class_of_superblock h b = go (eqb b.owner h)
  where
    below : Dec (b.class < class_count) → sum_below (λ c. one (eqb b.class c)) class_count ≤ 1
    below (yes l) = let z = indicator_sum_inside b.class class_count l in omega arith
    below (no f) = let z = indicator_sum_outside b.class class_count (le_of_not_below f) in omega arith

    go : (t : Bool) → sum_below (λ c. one (both t (eqb b.class c))) class_count ≤ one t
    go true = below (dec_lt b.class class_count)
    go false = let z = sum_of_zeros (λ c. one (both false (eqb b.class c))) class_count (λ c l. refl) in omega arith

one_heap_of_superblock : (p : ℕ) (b : Superblock) → sum_below (λ i. one (eqb b.owner (suc i))) p ≤ 1
one_heap_of_superblock p b = let z = sum_from_heap_0 (λ h. one (eqb b.owner h)) p in let few = all_heaps (dec_lt b.owner (suc p)) in omega arith
  where
    all_heaps : Dec (b.owner < suc p) → sum_below (λ h. one (eqb b.owner h)) (suc p) ≤ 1
    all_heaps (yes l) = let z = indicator_sum_inside b.owner (suc p) l in omega arith
    all_heaps (no f) = let z = indicator_sum_outside b.owner (suc p) (le_of_not_below f) in omega arith

-- the addresses of the processor heaps 1 to p, in all classes
abbrev pub freed_of_heaps : (ℕ → ℕ → ℕ) → ℕ → ℕ
freed_of_heaps freed p = sum_below (λ i. sum_below (freed (suc i)) class_count) p

pub freed_of_heaps_le_length : (s : State) (p : ℕ) (addresses : List ℕ) → freed_of_heaps (freed_of s addresses) p ≤ length addresses
unfolding freed_of
freed_of_heaps_le_length s p [] =
    let z = sum_of_zeros (λ i. sum_below (λ c. freed_of s [] (suc i) c) class_count) p
    (λ i l. sum_of_zeros (λ c. freed_of s [] (suc i) c) class_count (λ c lc. refl)) in omega arith
freed_of_heaps_le_length s p (a ∷ addresses) = let l = freed_of_heaps_le_length s p addresses in let f = first in omega (arith, split)
  where
    split : freed_of_heaps (freed_of s (a ∷ addresses)) p ≡ sum_below (λ i. sum_below (λ c. one (belongs (suc i) c (superblock_holding s a))) class_count)
        p + sum_below (λ i. sum_below (freed_of s addresses (suc i)) class_count) p
    split =
        sum_cong (λ i. sum_below (freed_of s (a ∷ addresses) (suc i)) class_count)
        (λ i. sum_below (λ c. one (belongs (suc i) c (superblock_holding s a))) class_count + sum_below (freed_of s addresses (suc i)) class_count) p
        (λ i l. sum_add (λ c. one (belongs (suc i) c (superblock_holding s a))) (freed_of s addresses (suc i)) class_count)
        ∙ sum_add (λ i. sum_below (λ c. one (belongs (suc i) c (superblock_holding s a))) class_count)
        (λ i. sum_below (freed_of s addresses (suc i)) class_count) p

    first : sum_below (λ i. sum_below (λ c. one (belongs (suc i) c (superblock_holding s a))) class_count) p ≤ 1
    first =
        let few = sum_le_of_terms_le (λ i. sum_below (λ c. one (belongs (suc i) c (superblock_holding s a))) class_count)
        (λ i. one (eqb (superblock_holding s a).owner (suc i))) p (λ i l. one_class_of_superblock (suc i) (superblock_holding s a)) in
        let one-heap = one_heap_of_superblock p (superblock_holding s a) in
        omega arith

-- ---- the frees keep which superblocks are a heap's
pub freed_of_same : (s t : State) → length s.table ≡ 64 → length t.table ≡ 64 → OwnersKeptOrRunFreed s t
    → ((m : ℕ) → m < 64 → (superblock_at t m).class ≡ (superblock_at s m).class)
    → (addresses : List ℕ) (h c : ℕ) → h < run_owner → freed_of t addresses h c ≡ freed_of s addresses h c
unfolding freed_of
freed_of_same s t long long_after owners classes [] h c l = refl
freed_of_same s t long long_after owners classes (a ∷ addresses) h c l =
    ap₂ (λ (x : Bool) (n : ℕ). one x + n) (same_belongs s t owners long long_after classes h c (superblock_index a) l)
    (freed_of_same s t long long_after owners classes addresses h c l)

-- ---- the blocks at the addresses
-- one of the addresses is that of block b. A drop changes no class, so the state before it tells the block of each.
abbrev pub ListsBlock : State → List ℕ → ℕ → Type 0
ListsBlock s [] b = ⊥
ListsBlock s (a ∷ addresses) b = (b ≡ block_number (superblock_index a) (block_of s a)) ⊎ ListsBlock s addresses b

-- a block is listed in one state as in another with the same classes
pub listed_same : (s t : State) → ((a : ℕ) → block_of t a ≡ block_of s a) → (addresses : List ℕ) (b : ℕ) → ListsBlock t addresses b → ListsBlock s addresses b
listed_same s t same [] b h = h
listed_same s t same (a ∷ addresses) b (inl e) = inl (e ∙ ap (block_number (superblock_index a)) (same a))
listed_same s t same (a ∷ addresses) b (inr h) = inr (listed_same s t same addresses b h)

-- ---- an accepted address first, and then the others
refusal_of_first_zero : (r n : ℕ) → pick (eqb r 0) n r ≡ 0 → (r ≡ 0) × (n ≡ 0)
refusal_of_first_zero r n e = go (eqb r 0) refl e
  where
    go : (t : Bool) → eqb r 0 ≡ t → pick t n r ≡ 0 → (r ≡ 0) × (n ≡ 0)
    go true q z = (eqb-true r 0 q, z)
    go false q z = absurd (eqb-false r 0 q z)

pub first_refusal_of_cons : (s : State) (a : ℕ) (addresses : List ℕ) → first_address_refusal s (a ∷ addresses) ≡ 0 → (address_refusal s a ≡ 0)
    × (first_address_refusal (block_freed s a) addresses ≡ 0)
unfolding first_address_refusal
first_refusal_of_cons s a addresses e = refusal_of_first_zero (address_refusal s a) (first_address_refusal (block_freed s a) addresses) e

-- ---- all of them
-- what the frees leave of a state that passed before so many others
pub record AllFreed (freed : ℕ → ℕ → ℕ) (s : State) (order addresses : List ℕ) : Type 0 where
  pub passed : PassedAfterFrees (λ h c. freed h c + freed_of s addresses h c) (all_freed s addresses) (all_pushed s order addresses)
  pub shape : Shape (all_freed s addresses)
  pub setup : (all_freed s addresses).setup ≡ s.setup
  pub owners : OwnersKeptOrRunFreed s (all_freed s addresses)
  pub classes : (m : ℕ) → m < 64 → (superblock_at (all_freed s addresses) m).class ≡ (superblock_at s m).class
  pub owned : (d : ℕ) → superblocks_of_class d (all_freed s addresses) ≡ superblocks_of_class d s

-- one more for the first of them, in the counts before and after it
counted_with_first : (freed : ℕ → ℕ → ℕ) (s t : State) (a : ℕ) (addresses : List ℕ) → length s.table ≡ 64 → length t.table ≡ 64 → OwnersKeptOrRunFreed s t
    → ((m : ℕ) → m < 64 → (superblock_at t m).class ≡ (superblock_at s m).class) → (h c : ℕ) → h < run_owner
    → one_more_freed (superblock_holding s a).owner (superblock_holding s a).class freed h c + freed_of t addresses h c
    ≡ freed h c + (one (belongs h c (superblock_holding s a)) + freed_of s addresses h c)
unfolding one_more_freed belongs
counted_with_first freed s t a addresses long long_after owners classes h c l = omega (arith, freed_of_same s t long long_after owners classes addresses h c l)

pub all_freed_lem : (freed : ℕ → ℕ → ℕ) (s : State) (order addresses : List ℕ) → Shape s → PassedAfterFrees freed s order → first_address_refusal s addresses
    ≡ 0 → AllFreed freed s order addresses
unfolding all_freed all_pushed freed_of
all_freed_lem freed s order [] shape passed ok =
    record {
      passed = passed_after_frees_cong freed (λ h c. freed h c + 0) s order (λ h c l. omega arith) passed;
      shape = shape;
      setup = refl;
      owners = λ m l. inl refl;
      classes = λ m l. refl;
      owned = λ d. refl;
    }
all_freed_lem freed s order (a ∷ addresses) shape passed ok =
    let first = first_refusal_of_cons s a addresses ok in
    let here = address_freed freed s order a shape passed first.0 in
    let more = one_more_freed (superblock_holding s a).owner (superblock_holding s a).class freed in
    let rest = all_freed_lem more (block_freed s a) (order_pushed s order a) addresses here.shape here.passed first.1 in
    record {
      passed = passed_after_frees_cong (λ h c. more h c + freed_of (block_freed s a) addresses h c)
          (λ h c. freed h c + (one (belongs h c (superblock_holding s a)) + freed_of s addresses h c)) _ _
          (counted_with_first freed s (block_freed s a) a addresses shape.length_is here.shape.length_is here.owners here.classes)
          rest.passed;
      shape = rest.shape;
      setup = rest.setup ∙ here.setup;
      owners = owners_kept_or_run_freed_then s (block_freed s a) (all_freed (block_freed s a) addresses) here.owners rest.owners;
      classes = λ m l. rest.classes m l ∙ here.classes m l;
      owned = λ d. rest.owned d ∙ here.owned d;
    }

-- ---- for code
-- the run that a superblock carries the length of ends in the table
pub run_fits : (s : State) (k : ℕ) → RunsSound s → k < 64 → k + (superblock_at s k).run ≤ 64
run_fits s k sound l = go (is_of_run (superblock_at s k)) refl (ℕ_discrete (superblock_at s k).run 0)
  where
    go : (t : Bool) → is_of_run (superblock_at s k) ≡ t → Dec ((superblock_at s k).run ≡ 0) → k + (superblock_at s k).run ≤ 64
    go t e (yes q) = omega arith
    go true e (no f) = (sound.first_of_run k l e (pos_of_ne-zero f)).in_table
    go false e (no f) = absurd (f (sound.outside_carries_0 k l e))

-- the superblock at an address is of a heap and a class
abbrev pub OfHeapAndClass : State → ℕ → Type 0
OfHeapAndClass s a = ((superblock_holding s a).owner < heap_count) × ((superblock_holding s a).class < class_count)

-- outside runs it was before the frees where it is after them
of_heap_and_class_before : (s t : State) (a : ℕ) → superblock_index a < 64 → OwnersKeptOrRunFreed s t
    → ((m : ℕ) → m < 64 → (superblock_at t m).class ≡ (superblock_at s m).class)
    → (is_in_run t a ≡ false → OfHeapAndClass t a) → is_in_run s a ≡ false → OfHeapAndClass s a
unfolding is_of_run
of_heap_and_class_before s t a l owners classes there outside = go (owners (superblock_index a) l)
  where
    go : ((superblock_holding t a).owner ≡ (superblock_holding s a).owner)
        ⊎ (((superblock_holding s a).owner ≡ run_owner) × ((superblock_holding t a).owner ≡ unused_owner)) → OfHeapAndClass s a
    go (inl e) =
        let is = there (ap (λ (o : ℕ). eqb o run_owner) e ∙ outside) in
        (subst (λ (h : ℕ). h < heap_count) e is.0, subst (λ (c : ℕ). c < class_count) (classes (superblock_index a) l) is.1)
    go (inr (was, now)) = absurd (eqb-false (superblock_holding s a).owner run_owner outside was)

-- each address of a drop that meets no refusal lies in the table, in a superblock that a heap owns where it was in no run before the drop; in the
-- state before its free the run that may begin there ends in the table, and that state keeps its totals and ranks
pub frees_in_table : (freed : ℕ → ℕ → ℕ) (s : State) (order addresses : List ℕ) → Shape s → PassedAfterFrees freed s order
    → first_address_refusal s addresses ≡ 0 → (i : ℕ) → i < length addresses
    → (superblock_index (get_or addresses i 0) < 64) × (is_in_run s (get_or addresses i 0) ≡ false → OfHeapAndClass s (get_or addresses i 0))
    × (superblock_index (get_or addresses i 0) + (superblock_holding (all_freed s (take i addresses)) (get_or addresses i 0)).run ≤ 64)
    × TotalsKept (all_freed s (take i addresses)) × RanksFit (all_freed s (take i addresses))
unfolding all_freed
frees_in_table freed s order [] shape passed ok i l = absurd (let z : ⊥ = omega arith in z)
frees_in_table freed s order (a ∷ addresses) shape passed ok zero l =
    let first = first_refusal_of_cons s a addresses ok in
    let below = (address_freed freed s order a shape passed first.0).below in (
      below,
      λ outside. (
        omega (arith, freed_superblock_owner_le freed s order a shape passed first.0 outside, passed.sound.numbers.processors_high),
        (small_block_freed_effect freed s order a shape passed first.0 outside).class_lt_27,
      ),
      run_fits s (superblock_index a) (runs_sound_of_valid s shape.length_is passed.runs) below,
      passed.totals,
      ranks_fit_of_sound s passed.ranks,
    )
frees_in_table freed s order (a ∷ addresses) shape passed ok (suc i) l =
    let first = first_refusal_of_cons s a addresses ok in
    let here = address_freed freed s order a shape passed first.0 in
    let rest = frees_in_table (one_more_freed (superblock_holding s a).owner (superblock_holding s a).class freed) (block_freed s a) (order_pushed s order a)
    addresses here.shape here.passed first.1 i (omega arith) in (
      rest.0,
      of_heap_and_class_before s (block_freed s a) (get_or addresses i 0) rest.0 here.owners here.classes rest.1,
      rest.2,
      rest.3,
      rest.4,
    )
