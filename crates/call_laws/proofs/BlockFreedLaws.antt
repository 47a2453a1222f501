-- One block of a class freed, before any move: what becomes of a state that passed its check before these frees. A free is one of them, a drop
-- several. Assumes nothing.
use mathlib.Core.Path.{◌≡◌, refl, sym, ap, ap₂, ◌∙◌, subst}
use mathlib.Core.Bool.{false, not}
use mathlib.Core.Logic.{inl, inr, ⊎_elim}
use mathlib.Core.List.{List}
use Prim.Native.Nat.{ℕ, ◌-◌, ◌*◌, ◌/◌, ◌%◌, ◌≤◌, ◌<◌, zero-le}
use native.Mathlib.Omega.{arith}
use lib.ListN.{length}
use borrow.Author.Tests.{eqb-true, leb-false, lt-ltb, not-false}
use lib.Dec.{eqb, leb, ltb}
use Rattle.base_laws.proofs.TestLaws.{neither_left, neither_right, pick_true, pick_false}
use Rattle.class_rules.specs.Classes.{size_of, blocks_of}
use Rattle.class_rules.proofs.OffsetLaws.{offset_of_block}
use Rattle.marks_rules.specs.Marks.{mark_bit, live_count}
use Rattle.marks_laws.proofs.MarkLaws.{mark_bit_one_of_mark}
use Rattle.names_rules.specs.Names.{block_number, without_block}
use Rattle.names_laws.proofs.NameLaws.{length_without_block}
use Rattle.order_rules.specs.Order.{with_place}
use Rattle.order_laws.proofs.OrderLaws.{length_with_place}
use Rattle.heap_rules.specs.declared.Superblock.{Superblock}
use Rattle.heap_rules.specs.declared.State.{State}
use Rattle.heap_rules.specs.Table.{run_owner, superblock_at, live_in, live_blocks, without_mark_at, with_rank}
use Rattle.heap_rules.specs.States.{with_names}
use Rattle.heap_rules.specs.Ranks.{rank_after_free, reranked, ranked_latest}
use Rattle.heap_rules.specs.Counts.{superblocks_of_class, live_of_class, owners_changed}
use Rattle.heap_rules.specs.Totals.{TotalsKept}
use Rattle.check_rules.specs.Check.{runs_valid}
use Rattle.heap_laws.proofs.StateFacts.{RanksSound, Shape, SoundAfterFrees}
use Rattle.heap_laws.proofs.MoveLaws.{owners_changed_self}
use Rattle.heap_laws.proofs.StateCheckLaws.{not_of_heap_of_unowned, shape_with_names, sound_after_frees_with_names}
use Rattle.heap_laws.proofs.TotalsLaws.{totals_kept_with_superblock}
use Rattle.heap_laws.proofs.RankLaws.{ranks_sound_of_same_ranks, ranked_latest_ranks_sound}
use Rattle.heap_laws.proofs.RerankedLaws.{superblock_at_reranked, reranked_owner, reranked_class, reranked_live, reranked_of_run, reranked_run}
use Rattle.heap_laws.proofs.RerankedLaws.{reranked_superblocks_of_class, reranked_live_of_class, reranked_owners_changed, reranked_totals_kept}
use Rattle.heap_laws.proofs.RerankedLaws.{reranked_shape, reranked_sound_after_frees, reranked_names_valid}
use Rattle.heap_laws.proofs.RunsKeptLaws.{runs_valid_of_kept, reranked_runs_valid, live_blocks_outside_run}
use Rattle.call_rules.specs.Take.{address_of}
use Rattle.call_rules.specs.Free.{superblock_index, offset_of, superblock_holding, block_of, is_in_run, is_off_block, is_misaligned, is_live_at}
use Rattle.call_rules.specs.Free.{address_refusal}
use Rattle.call_rules.specs.Free.{mark_cleared, block_pushed, block_number_at, small_block_freed}
use Rattle.call_rules.proofs.AddressRefusalLaws.{mapped_of_no_refusal, aligned_of_no_refusal, live_of_no_refusal}
use Rattle.call_laws.proofs.CallEffects.{PassedAfterFrees, FreeEffect, RankedLatest}
use Rattle.call_laws.proofs.AddressLaws.{mapped_below_superblocks, mapped_is_owned}
use Rattle.call_laws.proofs.NamesKeptLaws.{names_valid_without_block, names_valid_after_free}
use Rattle.call_laws.proofs.TransferredLaws.{one_more_freed}
use Rattle.call_laws.proofs.MarkClearedLaws.{mark_cleared_at_others}
use Rattle.call_laws.proofs.MarkClearedLaws.{LiveBlock, owner_at, class_at, with_mark_cleared, with_block_pushed, live_block_superblock_owned}
use Rattle.call_laws.proofs.MarkClearedLaws.{mark_cleared_shape, mark_cleared_class, mark_cleared_owner, mark_cleared_rank}
use Rattle.call_laws.proofs.MarkClearedLaws.{unowned_of_mark_cleared_unowned, mark_cleared_runs, mark_cleared_bit, mark_cleared_other_bits}
use Rattle.call_laws.proofs.MarkClearedLaws.{mark_cleared_owned_of, mark_cleared_live_of_class, mark_cleared_live_of_other_classes}
use Rattle.call_laws.proofs.MarkClearedLaws.{mark_cleared_owners_changed, mark_cleared_sound}

-- a live block's mark cleared changes no owner
mark_cleared_effect : (s : State) (order : List ℕ) (k j : ℕ) → LiveBlock s order k j → FreeEffect (class_at s k) k j 0 s (with_mark_cleared s k j)
mark_cleared_effect s order k j live =
    record {
      below = live.below;
      class_lt_27 = (live_block_superblock_owned s order k j live).class;
      block = live.block;
      setup = refl;
      class_before = refl;
      owned_before = live.owned;
      was_marked = live.marked;
      not_marked = mark_cleared_bit s order k j live;
      marks = λ i b l apart small. mark_cleared_other_bits s order k j live i b l apart;
      classes = λ i l. mark_cleared_class s order k j live i l;
      owners = λ i l. inl (mark_cleared_owner s order k j live i l);
      changed = mark_cleared_owners_changed s order k j live (with_mark_cleared s k j) ∙ owners_changed_self (with_mark_cleared s k j);
      moves_le_q = zero-le;
      owned = λ d. mark_cleared_owned_of s order k j live d;
      live_of_class_lem = mark_cleared_live_of_class s order k j live;
      live_of_others = λ d apart. mark_cleared_live_of_other_classes s order k j live d apart;
      runs = mark_cleared_runs s order k j live;
    }

-- the names and the ranks are no part of a free's effect
free_effect_of_reranked : (c k j moves : ℕ) (rank : ℕ → ℕ) (s t : State) (names : List ℕ) → length s.table ≡ 64
    → FreeEffect c k j moves (with_names (reranked rank s) names) t → FreeEffect c k j moves s t
unfolding owners_changed superblocks_of_class live_of_class
free_effect_of_reranked c k j moves rank s t names long e =
    record {
      below = e.below;
      class_lt_27 = e.class_lt_27;
      block = e.block;
      setup = e.setup;
      class_before = sym (reranked_class rank s long k) ∙ e.class_before;
      owned_before = subst (λ (o : ℕ). o < run_owner) (reranked_owner rank s long k) e.owned_before;
      was_marked = sym (bits k j) ∙ e.was_marked;
      not_marked = e.not_marked;
      marks = λ m b lm apart small. e.marks m b lm apart small ∙ bits m b;
      classes = λ m lm. e.classes m lm ∙ reranked_class rank s long m;
      owners = λ m lm.
          ⊎_elim (λ q. inl (q ∙ reranked_owner rank s long m)) (λ h. inr (sym (reranked_owner rank s long m) ∙ h.0 ∙ reranked_owner rank s long k, h.1))
          (e.owners m lm);
      changed = sym (reranked_owners_changed rank s long t) ∙ e.changed;
      moves_le_q = e.moves_le_q;
      owned = λ d. e.owned d ∙ reranked_superblocks_of_class rank s long d;
      live_of_class_lem = sym (reranked_live_of_class rank s long c) ∙ e.live_of_class_lem;
      live_of_others = λ d f. e.live_of_others d f ∙ reranked_live_of_class rank s long d;
      runs = λ m l. ((e.runs m l).0 ∙ reranked_of_run rank s long m, (e.runs m l).1 ∙ reranked_run rank s long m);
    }
  where
    bits : (m b : ℕ) → mark_bit (superblock_at (reranked rank s) m).live b ≡ mark_bit (superblock_at s m).live b
    bits m b = ap (λ (x : List ℕ). mark_bit x b) (reranked_live rank s long m)

-- the address meets no refusal, in a state that passed before these frees, and lies in no run
module _ (freed : ℕ → ℕ → ℕ) (s : State) (order : List ℕ) (a : ℕ) (shape : Shape s) (passed : PassedAfterFrees freed s order)
    (accepted : address_refusal s a ≡ 0) (small : is_in_run s a ≡ false) where
  -- ---- the block at the address
  on_block : is_off_block s a ≡ false
  unfolding is_misaligned
  on_block = sym (pick_false (is_in_run s a) _ _ small) ∙ aligned_of_no_refusal s a accepted

  offset_multiple_of_size : offset_of a % size_of (superblock_holding s a).class ≡ 0
  unfolding is_off_block
  offset_multiple_of_size = eqb-true (offset_of a % size_of (superblock_holding s a).class) 0
      (not-false (eqb (offset_of a % size_of (superblock_holding s a).class) 0)
      (neither_left (not (eqb (offset_of a % size_of (superblock_holding s a).class) 0)) (leb (blocks_of (superblock_holding s a).class) (block_of s a))
      on_block))

  -- the address is that of the block that is freed
  pub freed_address : a ≡ address_of (superblock_index a) (superblock_holding s a).class (block_of s a)
  unfolding address_of block_of
  freed_address = omega (arith, offset_of_block (superblock_holding s a).class (offset_of a) offset_multiple_of_size)

  pub freed_superblock_below : superblock_index a < s.setup.superblocks
  freed_superblock_below = mapped_below_superblocks s order a passed.sound (mapped_of_no_refusal s a accepted)

  pub freed_superblock_owner_le : (superblock_holding s a).owner ≤ s.setup.processors
  freed_superblock_owner_le = (mapped_is_owned s order a passed.sound (mapped_of_no_refusal s a accepted) small).owner

  owned : (superblock_holding s a).owner < run_owner
  owned = let o = freed_superblock_owner_le in omega (arith, passed.sound.numbers.processors_high)

  block : block_of s a < blocks_of (superblock_holding s a).class
  unfolding is_off_block
  block = leb-false (blocks_of (superblock_holding s a).class) (block_of s a)
      (neither_right (not (eqb (offset_of a % size_of (superblock_holding s a).class) 0)) (leb (blocks_of (superblock_holding s a).class) (block_of s a))
      on_block)

  marked : mark_bit (superblock_holding s a).live (block_of s a) ≡ 1
  unfolding is_live_at
  marked =
      sym (ap (λ (x : List ℕ). mark_bit x (block_of s a)) (live_blocks_outside_run (superblock_holding s a) small))
      ∙ mark_bit_one_of_mark (live_blocks (superblock_holding s a)) (block_of s a) (live_of_no_refusal s a accepted)

  pub freed_block_is_live : LiveBlock s order (superblock_index a) (block_of s a)
  freed_block_is_live = record { shape = shape; freed = freed; passed = passed; below = freed_superblock_below; owned = owned; block = block; marked = marked }

  -- ---- its name
  pub freed_superblock_lt_64 : superblock_index a < 64
  freed_superblock_lt_64 = let l = freed_superblock_below in let h = passed.sound.numbers.superblocks_high in omega arith

  block_number_is : block_number_at s a ≡ block_number (superblock_index a) (block_of s a)
  unfolding block_number_at
  block_number_is = pick_true (ltb (superblock_index a) 64) _ _ (lt-ltb (superblock_index a) 64 freed_superblock_lt_64)

  -- ---- the state with the superblock in front of the ranking and the block's name let go, of which the same holds: the free is followed from there
  abbrev k : ℕ
  k = superblock_index a

  abbrev rank : ℕ → ℕ
  rank = rank_after_free k s.table

  abbrev let_go : List ℕ
  let_go = without_block s.names (block_number_at s a)

  abbrev ready : State
  ready = with_names (reranked rank s) let_go

  ready_ranks_sound : RanksSound ready
  unfolding ranked_latest
  ready_ranks_sound =
      ranks_sound_of_same_ranks (reranked rank s) ready (λ m l. refl) (λ m l u. u)
      (ranked_latest_ranks_sound k s freed_superblock_lt_64 (λ u. not_of_heap_of_unowned (superblock_holding s a) u owned) passed.ranks)

  ready_passed : PassedAfterFrees freed ready order
  unfolding runs_valid
  ready_passed = record {
    sound = sound_after_frees_with_names freed (reranked rank s) let_go order (reranked_sound_after_frees rank s shape.length_is freed order passed.sound);
    names = names_valid_without_block (reranked rank s) (block_number_at s a) (reranked_names_valid rank s shape.length_is passed.names);
    totals = reranked_totals_kept rank s passed.totals;
    ranks = ready_ranks_sound;
    runs = reranked_runs_valid rank s shape.length_is passed.runs;
    room = passed.room;
  }

  live_when_ready : LiveBlock ready order k (block_of s a)
  live_when_ready =
      record {
        shape = shape_with_names (reranked rank s) let_go (reranked_shape rank s shape.length_is shape)
            (length_without_block s.names (block_number_at s a) ∙ shape.names_length);
        freed = freed;
        passed = ready_passed;
        below = freed_superblock_below;
        owned = subst (λ (o : ℕ). o < run_owner) (sym (reranked_owner rank s shape.length_is k)) owned;
        block = subst (λ (c : ℕ). block_of s a < blocks_of c) (sym (reranked_class rank s shape.length_is k)) block;
        marked = ap (λ (x : List ℕ). mark_bit x (block_of s a)) (reranked_live rank s shape.length_is k) ∙ freed_block_is_live.marked;
      }

  -- ---- the state and the order after it
  block_same : block_of (reranked rank s) a ≡ block_of s a
  unfolding block_of
  block_same = ap (λ (c : ℕ). offset_of a / size_of c) (reranked_class rank s shape.length_is k)

  small_block_freed_is : small_block_freed s a ≡ with_mark_cleared ready k (block_of s a)
  unfolding small_block_freed mark_cleared ranked_latest
  small_block_freed_is = ap (λ (j : ℕ). with_mark_cleared ready k j) block_same

  block_pushed_is : block_pushed s order a ≡ with_block_pushed ready order k (block_of s a)
  unfolding block_pushed
  block_pushed_is =
      ap₂ (λ (c : ℕ) (l : List ℕ). with_place order k (blocks_of c - live_count l) (block_of s a)) (sym (reranked_class rank s shape.length_is k))
      (sym (reranked_live rank s shape.length_is k))

  pub small_block_freed_effect : FreeEffect (superblock_holding s a).class k (block_of s a) 0 s (small_block_freed s a)
  small_block_freed_effect =
      subst (λ (t : State). FreeEffect (superblock_holding s a).class k (block_of s a) 0 s t) (sym small_block_freed_is)
      (subst (λ (c : ℕ). FreeEffect c k (block_of s a) 0 s (with_mark_cleared ready k (block_of s a))) (reranked_class rank s shape.length_is k)
      (free_effect_of_reranked (class_at ready k) k (block_of s a) 0 rank s (with_mark_cleared ready k (block_of s a)) let_go shape.length_is
      (mark_cleared_effect ready order k (block_of s a) live_when_ready)))

  -- owners and classes are as they were
  pub small_block_freed_owner : (m : ℕ) → m < 64 → (superblock_at (small_block_freed s a) m).owner ≡ (superblock_at s m).owner
  small_block_freed_owner m l =
      ap (λ (t : State). (superblock_at t m).owner) small_block_freed_is ∙ mark_cleared_owner ready order k (block_of s a) live_when_ready m l
      ∙ reranked_owner rank s shape.length_is m

  -- every other superblock keeps all but its rank
  pub small_block_freed_others : (m : ℕ) → m < 64 → (m ≡ superblock_index a → ⊥)
      → superblock_at (small_block_freed s a) m ≡ with_rank (rank_after_free (superblock_index a) s.table m) (superblock_at s m)
  small_block_freed_others m l other =
      ap (λ (t : State). superblock_at t m) small_block_freed_is ∙ mark_cleared_at_others ready order k (block_of s a) live_when_ready m other
      ∙ superblock_at_reranked rank s m l

  -- "A name holds .. until its block is freed": the block's name is let go, and no other
  pub small_block_freed_names : (small_block_freed s a).names ≡ without_block s.names (block_number k (block_of s a))
  unfolding small_block_freed
  small_block_freed_names = ap (without_block s.names) block_number_is

  -- the superblock goes to the front of the ranking, in whatever heap it is
  pub small_block_freed_ranks : RankedLatest k s (small_block_freed s a)
  small_block_freed_ranks m l =
      ap (λ (t : State). (superblock_at t m).rank) small_block_freed_is
      ∙ mark_cleared_rank ready order k (block_of s a) live_when_ready m l
      ∙ ap (λ (b : Superblock). b.rank) (superblock_at_reranked rank s m l)

  pub small_block_freed_shape : Shape (small_block_freed s a)
  small_block_freed_shape = subst Shape (sym small_block_freed_is) (mark_cleared_shape ready order k (block_of s a) live_when_ready)

  abbrev one_more : ℕ → ℕ → ℕ
  one_more = one_more_freed (superblock_holding s a).owner (superblock_holding s a).class freed

  small_block_freed_sound : SoundAfterFrees one_more (small_block_freed s a) (block_pushed s order a)
  unfolding live_when_ready
  small_block_freed_sound =
      subst (λ (t : State). SoundAfterFrees one_more t (block_pushed s order a)) (sym small_block_freed_is)
      (subst (λ (o : List ℕ). SoundAfterFrees one_more (with_mark_cleared ready k (block_of s a)) o) (sym block_pushed_is)
      (subst (λ (h : ℕ). SoundAfterFrees (one_more_freed h (superblock_holding s a).class freed) (with_mark_cleared ready k (block_of s a))
      (with_block_pushed ready order k (block_of s a))) (reranked_owner rank s shape.length_is k)
      (subst (λ (c : ℕ). SoundAfterFrees (one_more_freed (owner_at ready k) c freed) (with_mark_cleared ready k (block_of s a))
      (with_block_pushed ready order k (block_of s a))) (reranked_class rank s shape.length_is k)
      (mark_cleared_sound ready order k (block_of s a) live_when_ready))))

  small_block_freed_ranks_sound : RanksSound (small_block_freed s a)
  small_block_freed_ranks_sound =
      subst RanksSound (sym small_block_freed_is)
      (ranks_sound_of_same_ranks ready (with_mark_cleared ready k (block_of s a)) (mark_cleared_rank ready order k (block_of s a) live_when_ready)
      (unowned_of_mark_cleared_unowned ready order k (block_of s a) live_when_ready) ready_ranks_sound)

  small_block_freed_totals : TotalsKept (small_block_freed s a)
  small_block_freed_totals =
      subst TotalsKept (sym small_block_freed_is) (totals_kept_with_superblock ready k (without_mark_at (superblock_at ready k) (block_of s a)))

  -- one block more of its heap and class was freed since the move rule was last followed
  pub small_block_freed_passed : PassedAfterFrees one_more (small_block_freed s a) (block_pushed s order a)
  unfolding block_pushed small_block_freed mark_cleared ranked_latest
  small_block_freed_passed =
      record {
        sound = small_block_freed_sound;
        names = names_valid_after_free (superblock_holding s a).class k (block_of s a) 0 s (small_block_freed s a)
            shape.length_is small_block_freed_effect small_block_freed_names passed.names;
        totals = small_block_freed_totals;
        ranks = small_block_freed_ranks_sound;
        runs = runs_valid_of_kept s (small_block_freed s a) shape.length_is small_block_freed_shape.length_is small_block_freed_effect.runs
            passed.runs;
        room = subst (λ (n : ℕ). s.setup.superblocks * 256 ≤ n)
            (sym (length_with_place order k (blocks_of (superblock_holding s a).class - live_in (superblock_holding s a)) (block_of s a))) passed.room;
      }
