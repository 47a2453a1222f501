-- The order places that a call writes: a take those of a renewal, a free one, a drop one for each address, a setup the first N × 256, and none for a
-- long block. Assumes nothing.
use Rattle.std.specs.Prelude.{Option, Some, None}
use mathlib.Core.Path.{◌≡◌, refl, sym, ap, ◌∙◌, subst}
use mathlib.Core.Bool.{Bool, true, false, not}
use mathlib.Core.Logic.{◌⊎◌, inl, inr, ⊎_elim}
use mathlib.Core.List.{List, [], ◌∷◌}
use Prim.Native.Nat.{ℕ, ◌+◌, ◌-◌, ◌*◌, ◌/◌, ◌%◌, ◌≤◌, ◌<◌}
use native.Mathlib.Omega.{arith}
use borrow.Author.Tests.{eqb-true, eq-eqb, leb-false}
use lib.ListN.{length, get_or, drop}
use lib.Dec.{eqb, leb}
use Rattle.base_laws.specs.Sums.{pick}
use Rattle.base_laws.proofs.TestLaws.{pick_false, pick_elim, neither_left, neither_right}
use Rattle.class_rules.specs.Classes.{size_of, blocks_of, class_of}
use Rattle.class_rules.proofs.ClassTableLaws.{blocks_of_le_256}
use Rattle.marks_rules.specs.Marks.{mark_bit}
use Rattle.marks_laws.proofs.MarkLaws.{mark_bit_one_of_mark, marks_clear_of_live_count_zero}
use Rattle.order_rules.specs.Order.{place, renewed, cleared}
use Rattle.order_laws.proofs.OrderLaws.{length_renewed, renewed_index_below, renewed_index_above, length_with_place, with_place_other_index}
use Rattle.order_laws.proofs.OrderLaws.{with_place_same, length_cleared, cleared_index_below, cleared_index_above}
use Rattle.order_laws.proofs.FirstPlaces.{renewed_at_index, drop_equal_of_same_rest}
use Rattle.heap_rules.specs.declared.Setup.{Setup}
use Rattle.heap_rules.specs.declared.State.{State}
use Rattle.heap_rules.specs.Table.{unused_owner, superblock_at, live_in, is_unused, live_blocks}
use Rattle.heap_rules.specs.States.{no_state}
use Rattle.heap_rules.specs.Ranks.{ranked_latest}
use Rattle.choice_rules.specs.Choice.{fullest, lowest_empty, lowest_unused, or_else}
use Rattle.check_rules.specs.Check.{within_limits}
use Rattle.heap_laws.proofs.StateCheckLaws.{owned_below_superblocks}
use Rattle.heap_laws.proofs.RunsKeptLaws.{live_blocks_outside_run}
use Rattle.heap_laws.proofs.ChoiceLaws.{best_of_fullest, facts_of_has_free, facts_of_empty_in_global, best_of_lowest_empty, best_of_lowest_unused}
use Rattle.call_rules.specs.Answers.{After, refused}
use Rattle.call_rules.specs.Setup.{accepted_setup, setup_of}
use Rattle.call_rules.specs.LongBlocks.{long_taken_from}
use Rattle.call_rules.specs.Take.{other_places, acquired_order, taken_from, taken_from_other, take_of}
use Rattle.call_rules.specs.Free.{superblock_index, offset_of, superblock_holding, block_of, is_unmapped, is_in_run, is_run_start, is_off_block, is_misaligned}
use Rattle.call_rules.specs.Free.{is_live_at, address_refusal, mark_cleared, block_pushed, order_pushed, small_block_freed, long_block_freed, block_freed}
use Rattle.call_rules.specs.Free.{small_freed_at, long_freed_at, free_of}
use Rattle.call_rules.specs.Drop.{all_pushed, first_address_refusal, dropped_all, drop_of}
use Rattle.call_rules.specs.Named.{with_name_bound, held_address}
use Rattle.call_rules.specs.Calls.{Call, Take, Free, NamedTake, NamedFree, Drop, call_of}
use Rattle.call_rules.proofs.AddressRefusalLaws.{mapped_of_no_refusal, aligned_of_no_refusal, live_of_no_refusal, no_refusal_of_live_block}
use Rattle.call_laws.proofs.NamedCallLaws.{named_take_refused_or_accepted, named_free_refused_or_accepted}
use Rattle.call_laws.proofs.CallEffects.{Passed, TakeAccepted, LongTakeAccepted, FreeAccepted, LongFreeAccepted}
use Rattle.call_laws.proofs.TakeLaws.{take_refused_or_accepted}
use Rattle.call_laws.proofs.FreeLaws.{free_refused_or_accepted}
use Rattle.call_laws.proofs.RunEffectLaws.{run_freed_keeps_rest}
use Rattle.call_laws.proofs.AddressFreedLaws.{order_pushed_outside_run, order_pushed_in_run}
use Rattle.call_laws.proofs.AllFreedLaws.{first_refusal_of_cons}
use Rattle.call_laws.proofs.DropLaws.{DropAccepted, drop_refused_or_accepted}

-- ---- what is written
-- the first n places of superblock k are written, place j with n - 1 - j, and no other
pub record WritesRenewedPlaces (k n : ℕ) (before after : List ℕ) : Type 0 where
  pub written : (x : ℕ) → k * 256 ≤ x → x < k * 256 + n → get_or after x 0 ≡ n - 1 - (x - k * 256)
  pub kept : (x : ℕ) → (x < k * 256) ⊎ (k * 256 + n ≤ x) → get_or after x 0 ≡ get_or before x 0
  pub length_is : length after ≡ length before

-- an accepted take that renews: place 1 offers nothing, places 2 to 4 offer superblock k, and it has nothing live
pub record Renewal (s : State) (order : List ℕ) (i size k : ℕ) : Type 0 where
  pub accepted : TakeAccepted s order i size k
  pub not_own : fullest i (class_of size) s ≡ None
  pub from_others : other_places (class_of size) s ≡ Some k
  pub below : k < s.setup.superblocks
  pub empty : live_in (superblock_at s k) ≡ 0
  pub places : WritesRenewedPlaces k (blocks_of (class_of size)) order (take_of s order i size).order

-- place x is written with v, and no other
pub record WritesOne (x v : ℕ) (before after : List ℕ) : Type 0 where
  pub written : get_or after x 0 ≡ v
  pub kept : (y : ℕ) → (y ≡ x → ⊥) → get_or after y 0 ≡ get_or before y 0
  pub length_is : length after ≡ length before

-- the next place of the order of the address's superblock
abbrev pub next_place : State → ℕ → ℕ
next_place s a = superblock_index a * 256 + (blocks_of (superblock_holding s a).class - live_in (superblock_holding s a))

-- the blocks at the addresses are freed in the order written, from state s on: each has its number written in the next place of its superblock's
-- order then, and for a long block nothing is written ("order places keep what they had")
pub data WritesEach : State → List ℕ → List ℕ → List ℕ → Type 0 where
  done : {s : State} {order : List ℕ} → WritesEach s order [] order
  next : {s : State} {a : ℕ} {before between addresses after : List ℕ} → is_in_run s a ≡ false → WritesOne (next_place s a) (block_of s a) before between
      → WritesEach (block_freed s a) between addresses after → WritesEach s before (a ∷ addresses) after
  unwritten : {s : State} {a : ℕ} {before addresses after : List ℕ} → is_in_run s a ≡ true → WritesEach (block_freed s a) before addresses after
      → WritesEach s before (a ∷ addresses) after

-- no address lies in superblock k
abbrev pub NoneIn : ℕ → List ℕ → Type 0
NoneIn k [] = Unit {0}
NoneIn k (a ∷ addresses) = (superblock_index a ≡ k → ⊥) × NoneIn k addresses

-- the first n places are written with 0, and no other
pub record ClearsFirst (n : ℕ) (before after : List ℕ) : Type 0 where
  pub written : (x : ℕ) → x < n → get_or after x 0 ≡ 0
  pub kept : (x : ℕ) → n ≤ x → get_or after x 0 ≡ get_or before x 0
  pub length_is : length after ≡ length before

-- ---- a take
module _ (s : State) (order : List ℕ) (passed : Passed s order) where
  -- the superblock that a place offers is one of the first N
  pub fullest_below_superblocks : (h c k : ℕ) → h ≤ s.setup.processors → fullest h c s ≡ Some k → k < s.setup.superblocks
  fullest_below_superblocks h c k l e =
      let best = best_of_fullest h c s k e in
      let w = facts_of_has_free h c (superblock_at s k) best.meets_criterion_lem in
      owned_below_superblocks s order passed.sound k best.below
      (λ (q : (superblock_at s k).owner ≡ unused_owner). omega (arith, w.0, passed.sound.numbers.processors_high))

  lowest_empty_below_superblocks : (k : ℕ) → lowest_empty s ≡ Some k → k < s.setup.superblocks
  lowest_empty_below_superblocks k e =
      let best = best_of_lowest_empty s k e in
      let w = facts_of_empty_in_global (superblock_at s k) best.meets_criterion_lem in
      owned_below_superblocks s order passed.sound k best.below (λ (q : (superblock_at s k).owner ≡ unused_owner). omega (arith, w.0))

  pub other_places_below_superblocks : (c k : ℕ) → other_places c s ≡ Some k → k < s.setup.superblocks
  unfolding other_places
  other_places_below_superblocks c k = go (fullest 0 c s) (lowest_empty s) refl refl
    where
      go : (f g : Option ℕ) → fullest 0 c s ≡ f → lowest_empty s ≡ g → or_else f (or_else g (lowest_unused s)) ≡ Some k → k < s.setup.superblocks
      go (Some m) g p q e = fullest_below_superblocks 0 c k (omega arith) (p ∙ e)
      go None (Some m) p q e = lowest_empty_below_superblocks k (q ∙ e)
      go None None p q e = (best_of_lowest_unused s k e).below

module _ (s : State) (order : List ℕ) (i size : ℕ) where
  renews_places : (k : ℕ) → k < s.setup.superblocks → Passed s order → WritesRenewedPlaces k (blocks_of (class_of size)) order
      (renewed order k (blocks_of (class_of size)))
  renews_places k below passed =
      record {
        written = λ x l h. renewed_at_index order k n x (blocks_of_le_256 (class_of size)) (omega (arith, passed.room, blocks_of_le_256 (class_of size))) l h;
        kept = kept;
        length_is = length_renewed order k n;
      }
    where
      n : ℕ
      n = blocks_of (class_of size)

      kept : (x : ℕ) → (x < k * 256) ⊎ (k * 256 + n ≤ x) → get_or (renewed order k n) x 0 ≡ get_or order x 0
      kept x (inl l) = renewed_index_below order k n x l
      kept x (inr l) = renewed_index_above order k n x l

  -- a take leaves the order as it was, as each of a long block does, or renews a superblock and writes the first n places of that one and no other
  pub take_writes : ((take_of s order i size).order ≡ order) ⊎ ((k : ℕ) × Renewal s order i size k)
  unfolding taken_from_other taken_from acquired_order long_taken_from
  take_writes = go (take_refused_or_accepted s order i size)
    where
      renewal : (k : ℕ) → TakeAccepted s order i size k → fullest i (class_of size) s ≡ None → other_places (class_of size) s ≡ Some k
          → (t : Bool) → eqb (live_in (superblock_at s k)) 0 ≡ t → (take_of s order i size).order ≡ pick t (renewed order k (blocks_of (class_of size))) order
          → ((take_of s order i size).order ≡ order) ⊎ ((m : ℕ) × Renewal s order i size m)
      renewal k acc none found false q e = inl e
      renewal k acc none found true q e =
          inr (
            k,
            record {
              accepted = acc;
              not_own = none;
              from_others = found;
              below = other_places_below_superblocks s order acc.passed (class_of size) k found;
              empty = eqb-true (live_in (superblock_at s k)) 0 q;
              places = subst (WritesRenewedPlaces k (blocks_of (class_of size)) order) (sym e)
                  (renews_places k (other_places_below_superblocks s order acc.passed (class_of size) k found) acc.passed);
            },
          )

      by_place : (k : ℕ) → TakeAccepted s order i size k
          → ((fullest i (class_of size) s ≡ Some k) × (take_of s order i size ≡ taken_from k s order))
          ⊎ ((fullest i (class_of size) s ≡ None) × (other_places (class_of size) s ≡ Some k)
          × (take_of s order i size ≡ taken_from_other i (class_of size) k s order))
          → ((take_of s order i size).order ≡ order) ⊎ ((m : ℕ) × Renewal s order i size m)
      by_place k acc (inl (f, e)) = inl (ap (λ (x : After). x.order) e)
      by_place k acc (inr (f, g, e)) = renewal k acc f g (eqb (live_in (superblock_at s k)) 0) refl (ap (λ (x : After). x.order) e)

      go : ((r : ℕ) × (take_of s order i size ≡ refused r s order))
          ⊎ (((k : ℕ) × TakeAccepted s order i size k) ⊎ ((k : ℕ) × LongTakeAccepted s order i size k))
          → ((take_of s order i size).order ≡ order) ⊎ ((k : ℕ) × Renewal s order i size k)
      go (inl (r, e)) = inl (ap (λ (x : After). x.order) e)
      go (inr (inl (k, acc))) = by_place k acc acc.place
      go (inr (inr (k, acc))) = inl (ap (λ (x : After). x.order) acc.result_is)

  -- and it does renew what comes from place 2, 3 or 4 with nothing live
  pub take_renews : (k : ℕ) → TakeAccepted s order i size k → fullest i (class_of size) s ≡ None → live_in (superblock_at s k) ≡ 0 → Renewal s order i size k
  unfolding taken_from_other taken_from acquired_order
  take_renews k acc none empty = go acc.place
    where
      found_one : Some k ≡ None → ⊥
      found_one q = let z : ◌≡◌ {A = ℕ} 0 1 = cc in omega arith

      go : ((fullest i (class_of size) s ≡ Some k) × (take_of s order i size ≡ taken_from k s order))
          ⊎ ((fullest i (class_of size) s ≡ None) × (other_places (class_of size) s ≡ Some k)
          × (take_of s order i size ≡ taken_from_other i (class_of size) k s order))
          → Renewal s order i size k
      go (inl (f, e)) = absurd (found_one (sym f ∙ none))
      go (inr (f, g, e)) = record {
        accepted = acc;
        not_own = none;
        from_others = g;
        below = other_places_below_superblocks s order acc.passed (class_of size) k g;
        empty = empty;
        places =
            subst (WritesRenewedPlaces k (blocks_of (class_of size)) order)
            (sym (ap (λ (x : After). x.order) e ∙ ap (λ (t : Bool). pick t (renewed order k (blocks_of (class_of size))) order)
            (eq-eqb (live_in (superblock_at s k)) 0 empty)))
            (renews_places k (other_places_below_superblocks s order acc.passed (class_of size) k g) acc.passed);
      }

-- ---- a block freed, at an address that meets no refusal
pub freed_superblock_below_superblocks : (s : State) (a : ℕ) → address_refusal s a ≡ 0 → superblock_index a < s.setup.superblocks
unfolding is_unmapped
freed_superblock_below_superblocks s a accepted =
    let l = leb-false (s.setup.superblocks * 4096) a (neither_left (leb (s.setup.superblocks * 4096) a) (is_unused (superblock_holding s a))
    (mapped_of_no_refusal s a accepted)) in
    omega arith

-- of a block of a class
module _ (s : State) (a : ℕ) (accepted : address_refusal s a ≡ 0) (outside : is_in_run s a ≡ false) where
  aligned_outside_run : is_off_block s a ≡ false
  unfolding is_misaligned
  aligned_outside_run = sym (pick_false (is_in_run s a) (not (is_run_start s a)) (is_off_block s a) outside) ∙ aligned_of_no_refusal s a accepted

  freed_block_lt_256 : block_of s a < 256
  unfolding is_off_block
  freed_block_lt_256 =
      let l = leb-false (blocks_of (superblock_holding s a).class) (block_of s a)
      (neither_right (not (eqb (offset_of a % size_of (superblock_holding s a).class) 0)) (leb (blocks_of (superblock_holding s a).class) (block_of s a))
      aligned_outside_run) in
      omega (arith, blocks_of_le_256 (superblock_holding s a).class)

  some_live : live_in (superblock_holding s a) ≡ 0 → ⊥
  unfolding is_live_at
  some_live e =
      omega (
        arith,
        marks_clear_of_live_count_zero (superblock_holding s a).live e (block_of s a) freed_block_lt_256,
        mark_bit_one_of_mark (live_blocks (superblock_holding s a)) (block_of s a) (live_of_no_refusal s a accepted),
        ap (λ (x : List ℕ). mark_bit x (block_of s a)) (live_blocks_outside_run (superblock_holding s a) outside),
      )

  -- a superblock with a live block has fewer than 256 places filled
  pub filled_lt_256 : blocks_of (superblock_holding s a).class - live_in (superblock_holding s a) < 256
  filled_lt_256 = let f = some_live in omega (arith, blocks_of_le_256 (superblock_holding s a).class)

  -- its number goes in the next place, and no other place is written
  pub push_writes_next : (order : List ℕ) → s.setup.superblocks * 256 ≤ length order → WritesOne (next_place s a) (block_of s a) order (block_pushed s order a)
  unfolding block_pushed place
  push_writes_next order room =
      let p = blocks_of (superblock_holding s a).class - live_in (superblock_holding s a) in
      record {
        written = with_place_same order (superblock_index a) p (block_of s a) (omega (arith, freed_superblock_below_superblocks s a accepted, filled_lt_256));
        kept = λ y f. with_place_other_index order (superblock_index a) p (block_of s a) y f;
        length_is = length_with_place order (superblock_index a) p (block_of s a);
      }

-- ---- a free
module _ (s : State) (order : List ℕ) (i a : ℕ) where
  module _ (acc : FreeAccepted s order i a) where
    no_refusal : address_refusal s a ≡ 0
    no_refusal = no_refusal_of_live_block s a acc.address.mapped acc.address.block_aligned acc.address.live

    pub next_place_below_superblocks : next_place s a < s.setup.superblocks * 256
    next_place_below_superblocks = omega (arith, freed_superblock_below_superblocks s a no_refusal, filled_lt_256 s a no_refusal acc.outside_run)

    next_written : WritesOne (next_place s a) (block_of s a) order (free_of s order i a).order
    unfolding small_freed_at
    next_written = subst (WritesOne (next_place s a) (block_of s a) order) (sym (ap (λ (x : After). x.order) acc.result_is))
        (push_writes_next s a no_refusal acc.outside_run order acc.address.passed.room)

  -- a refused free leaves all as it was; an accepted one writes the block's number in the next place of its superblock's order, and no other place;
  -- that of a long block writes none
  abbrev pub FreeWrites : Type 0
  FreeWrites =
      ((r : ℕ) × (free_of s order i a ≡ refused r s order))
      ⊎ ((FreeAccepted s order i a × WritesOne (next_place s a) (block_of s a) order (free_of s order i a).order)
      ⊎ (LongFreeAccepted s order i a × ((free_of s order i a).order ≡ order)))

  pub free_writes : FreeWrites
  unfolding long_freed_at
  free_writes = ⊎_elim inl (λ h. inr (⊎_elim (λ acc. inl (acc, next_written acc)) (λ acc. inr (acc, ap (λ (x : After). x.order) acc.result_is)) h))
      (free_refused_or_accepted s order i a)

-- ---- a drop
-- a block freed keeps the setup
pub block_freed_setup : (s : State) (a : ℕ) → (block_freed s a).setup ≡ s.setup
unfolding block_freed long_block_freed small_block_freed mark_cleared ranked_latest
block_freed_setup s a = pick_elim (λ (t : State). t.setup ≡ s.setup) (is_in_run s a) _ _
    (λ e. (run_freed_keeps_rest (superblock_index a) (superblock_holding s a).run s).setup) (λ e. refl)

all_pushed_writes_each : (s : State) (order addresses : List ℕ) → s.setup.superblocks * 256 ≤ length order → first_address_refusal s addresses ≡ 0
    → WritesEach s order addresses (all_pushed s order addresses)
unfolding all_pushed
all_pushed_writes_each s order [] room ok = done
all_pushed_writes_each s order (a ∷ addresses) room ok =
    go (is_in_run s a) refl (λ places fits. all_pushed_writes_each (block_freed s a) places addresses fits (first_refusal_of_cons s a addresses ok).1)
  where
    Rest : List ℕ → Type 0
    Rest places = WritesEach (block_freed s a) places addresses (all_pushed (block_freed s a) (order_pushed s order a) addresses)

    rest : ((places : List ℕ) → (block_freed s a).setup.superblocks * 256 ≤ length places → WritesEach (block_freed s a) places addresses
        (all_pushed (block_freed s a) places addresses))
        → (places : List ℕ) → length places ≡ length order → order_pushed s order a ≡ places → Rest places
    rest all places long e =
        subst (λ (l : List ℕ). WritesEach (block_freed s a) places addresses (all_pushed (block_freed s a) l addresses)) (sym e)
        (all places (subst (λ (u : Setup). u.superblocks * 256 ≤ length places) (sym (block_freed_setup s a))
        (subst (λ (n : ℕ). s.setup.superblocks * 256 ≤ n) (sym long) room)))

    go : (t : Bool) → is_in_run s a ≡ t
        → ((places : List ℕ) → (block_freed s a).setup.superblocks * 256 ≤ length places → WritesEach (block_freed s a) places addresses
        (all_pushed (block_freed s a) places addresses))
        → WritesEach s order (a ∷ addresses) (all_pushed (block_freed s a) (order_pushed s order a) addresses)
    go true e all = unwritten e (rest all order refl (order_pushed_in_run s a order e))
    go false e all =
        let one = push_writes_next s a (first_refusal_of_cons s a addresses ok).0 e order room in
        next e one (rest all (block_pushed s order a) one.length_is (order_pushed_outside_run s a order e))

writes_each_keeps_length : {s : State} {before addresses after : List ℕ} → WritesEach s before addresses after → length after ≡ length before
writes_each_keeps_length done = refl
writes_each_keeps_length (next outside one rest) = writes_each_keeps_length rest ∙ one.length_is
writes_each_keeps_length (unwritten inside rest) = writes_each_keeps_length rest

-- a place of a superblock in which no address lies is not written
all_pushed_keeps : (s : State) (order addresses : List ℕ) → first_address_refusal s addresses ≡ 0 → (x : ℕ) → NoneIn (x / 256) addresses
    → get_or (all_pushed s order addresses) x 0 ≡ get_or order x 0
unfolding all_pushed block_pushed
all_pushed_keeps s order [] ok x apart = refl
all_pushed_keeps s order (a ∷ addresses) ok x apart = all_pushed_keeps (block_freed s a) (order_pushed s order a) addresses accepted.1 x apart.1
    ∙ go (is_in_run s a) refl
  where
    accepted : (address_refusal s a ≡ 0) × (first_address_refusal (block_freed s a) addresses ≡ 0)
    accepted = first_refusal_of_cons s a addresses ok

    go : (t : Bool) → is_in_run s a ≡ t → get_or (order_pushed s order a) x 0 ≡ get_or order x 0
    go true e = ap (λ (l : List ℕ). get_or l x 0) (order_pushed_in_run s a order e)
    go false e =
        let p = blocks_of (superblock_holding s a).class - live_in (superblock_holding s a) in
        ap (λ (l : List ℕ). get_or l x 0) (order_pushed_outside_run s a order e)
        ∙ with_place_other_index order (superblock_index a) p (block_of s a) x
        (λ (q : x ≡ superblock_index a * 256 + p). apart.0 (omega (arith, filled_lt_256 s a accepted.0 e)))

-- no address of an accepted drop lies past the first N superblocks
none_past_superblocks : (s : State) (addresses : List ℕ) → first_address_refusal s addresses ≡ 0 → (k : ℕ) → s.setup.superblocks ≤ k → NoneIn k addresses
none_past_superblocks s [] ok k l = tt
none_past_superblocks s (a ∷ addresses) ok k l =
    let accepted = first_refusal_of_cons s a addresses ok in (
      λ (q : superblock_index a ≡ k). omega (arith, freed_superblock_below_superblocks s a accepted.0),
      none_past_superblocks (block_freed s a) addresses accepted.1 k (subst (λ (u : Setup). u.superblocks ≤ k) (sym (block_freed_setup s a)) l),
    )

module _ (s : State) (order : List ℕ) (i : ℕ) (addresses : List ℕ) where
  dropped_order : DropAccepted s order i addresses → (drop_of s order i addresses).order ≡ all_pushed s order addresses
  unfolding dropped_all
  dropped_order acc = ap (λ (x : After). x.order) acc.result_is

  -- a refused drop leaves all as it was; an accepted one writes one place for each address
  pub drop_writes : ((r : ℕ) × (drop_of s order i addresses ≡ refused r s order))
      ⊎ (DropAccepted s order i addresses × WritesEach s order addresses (drop_of s order i addresses).order)
  drop_writes =
      ⊎_elim inl (λ acc. inr (
        acc,
        subst (WritesEach s order addresses) (sym (dropped_order acc))
            (all_pushed_writes_each s order addresses acc.passed.room acc.no_refusal),
      ))
      (drop_refused_or_accepted s order i addresses)

  -- and none of a superblock in which no address lies
  pub drop_keeps_other_places : (k p : ℕ) → NoneIn k addresses → p < 256 → place (drop_of s order i addresses).order k p ≡ place order k p
  unfolding place
  drop_keeps_other_places k p apart l =
      ⊎_elim (λ h. ap (λ (x : After). get_or x.order (k * 256 + p) 0) h.1)
      (λ acc. ap (λ (x : List ℕ). get_or x (k * 256 + p) 0) (dropped_order acc)
      ∙ all_pushed_keeps s order addresses acc.no_refusal (k * 256 + p)
      (subst (λ (m : ℕ). NoneIn m addresses) (let e : k ≡ (k * 256 + p) / 256 = omega arith in e) apart))
      (drop_refused_or_accepted s order i addresses)

-- ---- a setup
-- a refused setup leaves the order as it was; an accepted one clears the first N × 256 places and writes no other
pub setup_writes : (u : Setup) (order : List ℕ) → ((r : ℕ) × (setup_of u order ≡ refused r no_state order))
    ⊎ ((setup_of u order ≡ accepted_setup u order) × ClearsFirst (u.superblocks * 256) order (setup_of u order).order)
unfolding setup_of
setup_writes u order = go (within_limits u) (leb (u.superblocks * 256) (length order))
  where
    clears : ClearsFirst (u.superblocks * 256) order (cleared order (u.superblocks * 256))
    clears = record {
      written = cleared_index_below order (u.superblocks * 256);
      kept = cleared_index_above order (u.superblocks * 256);
      length_is = length_cleared order (u.superblocks * 256);
    }

    go : (x y : Bool) → ((r : ℕ) × (pick x (pick y (accepted_setup u order) (refused 12 no_state order)) (refused 1 no_state order) ≡ refused r no_state order))
        ⊎ ((pick x (pick y (accepted_setup u order) (refused 12 no_state order)) (refused 1 no_state order) ≡ accepted_setup u order)
        × ClearsFirst (u.superblocks * 256) order (pick x (pick y (accepted_setup u order) (refused 12 no_state order)) (refused 1 no_state order)).order)
    go true true = inr (refl, clears)
    go true false = inl (12, refl)
    go false y = inl (1, refl)

-- ---- no place from N × 256 on
take_writes_no_place_past_N : (s : State) (order : List ℕ) (i size : ℕ) → drop (s.setup.superblocks * 256) (take_of s order i size).order
    ≡ drop (s.setup.superblocks * 256) order
take_writes_no_place_past_N s order i size = go (take_writes s order i size)
  where
    go : ((take_of s order i size).order ≡ order) ⊎ ((k : ℕ) × Renewal s order i size k) → drop (s.setup.superblocks * 256) (take_of s order i size).order
        ≡ drop (s.setup.superblocks * 256) order
    go (inl e) = ap (drop (s.setup.superblocks * 256)) e
    go (inr (k, r)) =
        drop_equal_of_same_rest (s.setup.superblocks * 256) (take_of s order i size).order order r.places.length_is
        (λ x l. r.places.kept x (inr (omega (arith, r.below, blocks_of_le_256 (class_of size)))))

free_writes_no_place_past_N : (s : State) (order : List ℕ) (i a : ℕ) → drop (s.setup.superblocks * 256) (free_of s order i a).order
    ≡ drop (s.setup.superblocks * 256) order
free_writes_no_place_past_N s order i a = go (free_writes s order i a)
  where
    go : FreeWrites s order i a → drop (s.setup.superblocks * 256) (free_of s order i a).order ≡ drop (s.setup.superblocks * 256) order
    go (inl (r, e)) = ap (λ (x : After). drop (s.setup.superblocks * 256) x.order) e
    go (inr (inr (acc, e))) = ap (drop (s.setup.superblocks * 256)) e
    go (inr (inl (acc, w))) =
        drop_equal_of_same_rest (s.setup.superblocks * 256) (free_of s order i a).order order w.length_is
        (λ x l. w.kept x (λ (q : x ≡ next_place s a). omega (arith, next_place_below_superblocks s order i a acc)))

drop_writes_no_place_past_N : (s : State) (order : List ℕ) (i : ℕ) (addresses : List ℕ)
    → drop (s.setup.superblocks * 256) (drop_of s order i addresses).order ≡ drop (s.setup.superblocks * 256) order
drop_writes_no_place_past_N s order i addresses =
    ⊎_elim (λ h. ap (λ (x : After). drop (s.setup.superblocks * 256) x.order) h.1)
    (λ h. drop_equal_of_same_rest (s.setup.superblocks * 256) (drop_of s order i addresses).order order (writes_each_keeps_length h.1)
    (λ x l. ap (λ (y : List ℕ). get_or y x 0) (dropped_order s order i addresses h.0) ∙ all_pushed_keeps s order addresses h.0.no_refusal x
    (none_past_superblocks s addresses h.0.no_refusal (x / 256) (omega arith))))
    (drop_writes s order i addresses)

-- a call writes no place from N × 256 on
pub call_writes_only_first_places : (s : State) (order : List ℕ) (call : Call) → drop (s.setup.superblocks * 256) (call_of s order call).order
    ≡ drop (s.setup.superblocks * 256) order
unfolding call_of with_name_bound
call_writes_only_first_places s order (Take i size) = take_writes_no_place_past_N s order i size
call_writes_only_first_places s order (Free i a) = free_writes_no_place_past_N s order i a
call_writes_only_first_places s order (NamedTake i m size) =
    ⊎_elim
    (λ h. ap (λ (x : After). drop (s.setup.superblocks * 256) x.order) h.1)
    (λ h. ap (λ (x : After). drop (s.setup.superblocks * 256) x.order) (⊎_elim (λ a. a.1.result_is) (λ a. a.1.result_is) h)
    ∙ take_writes_no_place_past_N s order i size)
    (named_take_refused_or_accepted s order i m size)
call_writes_only_first_places s order (NamedFree i m) =
    ⊎_elim
    (λ h. ap (λ (x : After). drop (s.setup.superblocks * 256) x.order) h.1)
    (λ h. ap (λ (x : After). drop (s.setup.superblocks * 256) x.order) (⊎_elim (λ a. a.result_is) (λ a. a.result_is) h)
    ∙ free_writes_no_place_past_N s order i (held_address s m))
    (named_free_refused_or_accepted s order i m)
call_writes_only_first_places s order (Drop i addresses) = drop_writes_no_place_past_N s order i addresses

pub setup_writes_only_first_places : (u : Setup) (order : List ℕ) → drop (u.superblocks * 256) (setup_of u order).order ≡ drop (u.superblocks * 256) order
setup_writes_only_first_places u order = go (setup_writes u order)
  where
    go : ((r : ℕ) × (setup_of u order ≡ refused r no_state order))
        ⊎ ((setup_of u order ≡ accepted_setup u order) × ClearsFirst (u.superblocks * 256) order (setup_of u order).order)
        → drop (u.superblocks * 256) (setup_of u order).order ≡ drop (u.superblocks * 256) order
    go (inl (r, e)) = ap (λ (x : After). drop (u.superblocks * 256) x.order) e
    go (inr (e, c)) = drop_equal_of_same_rest (u.superblocks * 256) (setup_of u order).order order c.length_is c.kept
