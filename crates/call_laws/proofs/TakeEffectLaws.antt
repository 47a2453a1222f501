-- What a take does, once from what holds of the superblock that gives the block: its effect, and that the state still passes. Assumes nothing.
use mathlib.Core.Path.{◌≡◌, refl, sym, ap, ap₂, ◌∙◌, subst}
use mathlib.Core.Bool.{Bool, true, false}
use mathlib.Core.Logic.{◌⊎◌, inl, inr, ⊎_elim}
use mathlib.Core.List.{List}
use Prim.Native.Nat.{ℕ, suc, ◌+◌, ◌-◌, ◌*◌, ◌≤◌, ◌<◌}
use native.Mathlib.Nat.{mul-le-mul_left, mul-le-mul_right}
use native.Mathlib.Decide.{ℕ_discrete}
use native.Mathlib.Omega.{arith}
use lib.ListN.{length}
use lib.Seq.{get_or-set_same, get_or-set_other}
use lib.Dec.{T}
use Rattle.base_laws.specs.Sums.{pick, one}
use Rattle.base_laws.proofs.SumLaws.{sum_cong}
use Rattle.class_rules.specs.Classes.{class_count, blocks_of}
use Rattle.class_rules.proofs.ClassTableLaws.{blocks_of_le_256}
use Rattle.marks_rules.specs.Marks.{mark_bit, live_count, with_mark}
use Rattle.marks_laws.proofs.MarkLaws.{with_mark_same, with_mark_other, live_count_with_mark, length_with_mark}
use Rattle.filled_rules.specs.FilledPlaces.{places_valid}
use Rattle.filled_rules.proofs.PlacesValidLaws.{last_filled_below_n, last_filled_not_marked, places_valid_after_take}
use Rattle.filled_rules.proofs.OwnPlacesOnly.{places_valid_cong}
use Rattle.heap_rules.specs.declared.Superblock.{Superblock}
use Rattle.heap_rules.specs.declared.State.{State}
use Rattle.heap_rules.specs.Table.{run_owner, unused_owner, blank, superblock_at, live_in, is_of_run, with_mark_at, with_rank}
use Rattle.heap_rules.specs.States.{with_superblock}
use Rattle.heap_rules.specs.Counts.{total, one_if_belongs, live_if_belongs, is_owned_of_class, superblocks_of, blocks_in, live_of, superblocks_of_class}
use Rattle.heap_rules.specs.Counts.{live_of_class}
use Rattle.move_rules.specs.Moves.{both_conditions, must_move}
use Rattle.heap_laws.proofs.StateFacts.{Shape, Unused, Unowned, Owned, Sparse, Sound, RanksSound, RunsKept}
use Rattle.heap_laws.proofs.CountLaws.{total_with_superblock, one_if_belongs_is_1, one_if_belongs_other_owner, one_if_belongs_other_class}
use Rattle.heap_laws.proofs.CountLaws.{live_if_belongs_is_live_in, live_if_belongs_other_owner, live_if_belongs_other_class}
use Rattle.heap_laws.proofs.StateCheckLaws.{shape_with_superblock, not_of_heap_of_unowned}
use Rattle.heap_laws.proofs.TotalsLaws.{totals_kept_with_superblock}
use Rattle.heap_laws.proofs.RankLaws.{ranks_sound_of_same_ranks}
use Rattle.heap_laws.proofs.RerankedLaws.{superblock_keeps_all_but_rank, reranked_owner, reranked_class, reranked_live, reranked_run, reranked_of_run}
use Rattle.heap_laws.proofs.RerankedLaws.{reranked_superblocks_of_class, reranked_live_of_class, reranked_owners_changed}
use Rattle.heap_laws.proofs.RunsKeptLaws.{runs_valid_of_kept, outside_run_of_owner}
use Rattle.heap_rules.specs.Ranks.{reranked}
use Rattle.heap_laws.proofs.MoveLaws.{conditions_of_must_move, must_move_of_conditions}
use Rattle.call_laws.proofs.CallEffects.{Passed, TakeEffect}
use Rattle.call_laws.proofs.NamesKeptLaws.{names_valid_after_take}
use Rattle.call_laws.proofs.SuperblockLaws.{owned_of_class_true, owned_of_class_false, no_live_adds_nothing, owners_changed_with_superblock_le_1}
use Rattle.call_laws.proofs.TakeSourceLaws.{last_block_of, TakeSource}

-- a superblock that is as it was keeps all but its rank
all_but_rank_of_same : (b d : Superblock) → b ≡ d → b ≡ with_rank b.rank d
all_but_rank_of_same b d e = e ∙ ap (λ (r : ℕ). with_rank r d) (sym (ap (λ (x : Superblock). x.rank) e))

-- What an accepted take leaves: t is the state and places the order places after it.
pub record TakeResult (i c k j : ℕ) (s t : State) (places : List ℕ) : Type 0 where
  pub effect : TakeEffect i c k j s t
  pub shape : Shape t
  pub passed : Passed t places
  pub ranks : (m : ℕ) → (superblock_at t m).rank ≡ (superblock_at s m).rank

module _ (s : State) (order : List ℕ) (i c k : ℕ) (b : Superblock) (places : List ℕ)
    (shape : Shape s) (passed : Passed s order) (low : 1 ≤ i) (high : i ≤ s.setup.processors) (known : c < class_count)
    (gives : TakeSource s order i c k b places) where
  abbrev j : ℕ
  j = last_block_of places k b

  abbrev new : Superblock
  new = with_mark_at b j

  abbrev old : Superblock
  old = superblock_at s k

  abbrev after : State
  after = with_superblock s k new

  -- ---- the block
  in_table : k < 64
  in_table = omega (arith, gives.below, passed.sound.numbers.superblocks_high)

  in_class : j < blocks_of b.class
  unfolding last_block_of
  in_class = last_filled_below_n places b.live k (blocks_of b.class) (blocks_of_le_256 b.class) gives.places_valid_lem gives.marks_length
      gives.room

  in_marks : j < 256
  in_marks = omega (arith, in_class, blocks_of_le_256 b.class)

  clear : mark_bit b.live j ≡ 0
  unfolding last_block_of
  clear = last_filled_not_marked places b.live k (blocks_of b.class) (blocks_of_le_256 b.class) gives.places_valid_lem gives.marks_length
      gives.room

  places_valid_after : T (places_valid places new.live k (blocks_of b.class))
  unfolding last_block_of
  places_valid_after = places_valid_after_take places b.live k (blocks_of b.class) (blocks_of_le_256 b.class) gives.places_valid_lem
      gives.marks_length gives.room

  -- ---- the superblocks afterwards
  after_at_superblock : superblock_at after k ≡ new
  after_at_superblock = get_or-set_same s.table k new blank (omega (arith, in_table, shape.length_is))

  after_at_others : (m : ℕ) → (m ≡ k → ⊥) → superblock_at after m ≡ superblock_at s m
  after_at_others m f = get_or-set_other s.table k m new blank f

  live_in_same : live_in b ≡ live_in old
  unfolding live_count
  live_in_same = sum_cong (mark_bit b.live) (mark_bit old.live) 256 (λ m l. gives.marks m l)

  live_in_one_more : live_in new ≡ suc (live_in old)
  live_in_one_more = live_count_with_mark b.live j gives.marks_length in_marks clear ∙ ap suc live_in_same

  -- ---- the counts
  total_after : (f : Superblock → ℕ) → total f after.table + f old ≡ total f s.table + f new
  total_after f = total_with_superblock f s k new shape.length_is in_table

  new_owner_lt_254 : new.owner < run_owner
  new_owner_lt_254 = omega (arith, gives.owner, high, passed.sound.numbers.processors_high)

  -- a superblock of heap i and class c counts for no other pair
  counts_for_no_other_pair : (h d : ℕ) (x : Superblock) → ((h ≡ i) × (d ≡ c) → ⊥) → x.owner ≡ i → x.class ≡ c → (one_if_belongs h d x ≡ 0)
      × (live_if_belongs h d x ≡ 0)
  counts_for_no_other_pair h d x f e g = go (ℕ_discrete h i)
    where
      go : Dec (h ≡ i) → (one_if_belongs h d x ≡ 0) × (live_if_belongs h d x ≡ 0)
      go (yes p) = (one_if_belongs_other_class h d x (λ q. f (p, sym q ∙ g)), live_if_belongs_other_class h d x (λ q. f (p, sym q ∙ g)))
      go (no n) = (one_if_belongs_other_owner h d x (λ q. n (sym q ∙ e)), live_if_belongs_other_owner h d x (λ q. n (sym q ∙ e)))

  -- one of heap 0 or of nobody counts for no processor heap
  counts_for_no_processor_heap : (h d : ℕ) → 1 ≤ h → h ≤ s.setup.processors → (old.owner ≡ 0) ⊎ (old.owner ≡ unused_owner) → (one_if_belongs h d old ≡ 0)
      × (live_if_belongs h d old ≡ 0)
  counts_for_no_processor_heap h d l m e = (one_if_belongs_other_owner h d old (differs e), live_if_belongs_other_owner h d old (differs e))
    where
      differs : (old.owner ≡ 0) ⊎ (old.owner ≡ unused_owner) → old.owner ≡ h → ⊥
      differs (inl z) q = omega arith
      differs (inr z) q = omega (arith, passed.sound.numbers.processors_high)

  old_counts_for_no_other_pair : (h d : ℕ) → 1 ≤ h → h ≤ s.setup.processors → ((h ≡ i) × (d ≡ c) → ⊥) → (one_if_belongs h d old ≡ 0)
      × (live_if_belongs h d old ≡ 0)
  old_counts_for_no_other_pair h d l m f = ⊎_elim (λ e. counts_for_no_other_pair h d old f e.0 e.1)
      (λ e. counts_for_no_processor_heap h d l m e.0) gives.source

  -- ---- the move rule
  superblocks_after : (h d : ℕ) → superblocks_of h d after + one_if_belongs h d old ≡ superblocks_of h d s + one_if_belongs h d new
  unfolding superblocks_of
  superblocks_after h d = total_after (one_if_belongs h d)

  live_of_after : (h d : ℕ) → live_of h d after + live_if_belongs h d old ≡ live_of h d s + live_if_belongs h d new
  unfolding live_of
  live_of_after h d = total_after (live_if_belongs h d)

  invariant_of_others : (h d : ℕ) → 1 ≤ h → h ≤ s.setup.processors → d < class_count → ((h ≡ i) × (d ≡ c) → ⊥) → T (must_move h d after) → ⊥
  unfolding must_move blocks_in
  invariant_of_others h d l m ld f t =
      let x = old_counts_for_no_other_pair h d l m f in
      let y = counts_for_no_other_pair h d new f gives.owner gives.class in
      let e : superblocks_of h d after ≡ superblocks_of h d s = omega (arith, superblocks_after h d) in
      let g : live_of h d after ≡ live_of h d s = omega (arith, live_of_after h d) in
      passed.sound.invariant h d l m ld
      (subst T (ap₂ (λ (a u : ℕ). both_conditions s.setup.spare s.setup.p s.setup.q (blocks_of d) (a * blocks_of d) u) e g) t)

  -- place 1: one more live block, in as many blocks
  invariant_of_own : old.owner ≡ i → old.class ≡ c → T (must_move i c after) → ⊥
  unfolding blocks_in
  invariant_of_own e g t =
      let m = conditions_of_must_move i c after t in
      let h : superblocks_of i c after ≡ superblocks_of i c s =
      omega (arith, superblocks_after i c, one_if_belongs_is_1 i c old e g, one_if_belongs_is_1 i c new gives.owner gives.class) in
      let u : live_of i c after ≡ suc (live_of i c s) =
      omega (
        arith,
        live_of_after i c,
        live_if_belongs_is_live_in i c old e g,
        live_if_belongs_is_live_in i c new gives.owner gives.class,
        live_in_one_more,
      ) in
      let a : blocks_in i c after ≡ blocks_in i c s = ap (λ (x : ℕ). x * blocks_of c) h in
      let v : s.setup.q * live_of i c s ≤ s.setup.q * live_of i c after = mul-le-mul_left s.setup.q (omega arith) in
      let w : (s.setup.q - s.setup.p) * blocks_in i c after ≡ (s.setup.q - s.setup.p) * blocks_in i c s =
      ap (λ (x : ℕ). (s.setup.q - s.setup.p) * x) a in
      passed.sound.invariant i c low high known (must_move_of_conditions i c s (omega arith) (omega arith))

  -- places 2 to 4: heap i's other superblocks of the class are full, so no more than one superblock's blocks are free
  invariant_of_acquired : (old.owner ≡ 0) ⊎ (old.owner ≡ unused_owner) → superblocks_of i c s * blocks_of c ≤ live_of i c s → T (must_move i c after) → ⊥
  unfolding blocks_in
  invariant_of_acquired e full t =
      let m = (conditions_of_must_move i c after t).0 in
      let x = counts_for_no_processor_heap i c low high e in
      let h : superblocks_of i c after ≡ suc (superblocks_of i c s) =
      omega (arith, superblocks_after i c, one_if_belongs_is_1 i c new gives.owner gives.class) in
      let a : superblocks_of i c after * blocks_of c ≡ suc (superblocks_of i c s) * blocks_of c = ap (λ (y : ℕ). y * blocks_of c) h in
      let u : live_of i c s ≤ live_of i c after = omega (arith, live_of_after i c) in
      let v : 1 * blocks_of c ≤ s.setup.spare * blocks_of c = mul-le-mul_right (blocks_of c) passed.sound.numbers.spare_low in
      omega arith

  invariant_here : T (must_move i c after) → ⊥
  invariant_here t = ⊎_elim (λ e. invariant_of_own e.0 e.1 t) (λ e. invariant_of_acquired e.0 e.1 t) gives.source

  -- ---- the state still passes
  each_after : (m : ℕ) → m < 64 → Dec (m ≡ k) → Unowned (superblock_at after m) ⊎ Owned s.setup places m (superblock_at after m)
  each_after m l (yes e) =
      inr (subst (λ (x : ℕ). Owned s.setup places x (superblock_at after x)) (sym e) (subst (Owned s.setup places k) (sym after_at_superblock) owned))
    where
      owned : Owned s.setup places k new
      owned = record { owner = omega (arith, gives.owner, high); class = omega (arith, gives.class, known); places = places_valid_after }
  each_after m l (no f) = subst (λ (x : Superblock). Unowned x ⊎ Owned s.setup places m x) (sym (after_at_others m f)) (go (passed.sound.each m l))
    where
      framed : (x : Superblock) → places_valid places x.live m (blocks_of x.class) ≡ places_valid order x.live m (blocks_of x.class)
      framed x = places_valid_cong places order x.live m (blocks_of x.class) gives.length_is
          (λ p h. gives.others m p f (omega (arith, blocks_of_le_256 x.class)))

      go : Unowned (superblock_at s m) ⊎ Owned s.setup order m (superblock_at s m) → Unowned (superblock_at s m) ⊎ Owned s.setup places m (superblock_at s m)
      go (inl u) = inl u
      go (inr o) = inr (record { owner = o.owner; class = o.class; places = subst T (sym (framed (superblock_at s m))) o.places })

  sound_after : Sound after places
  sound_after = record {
    numbers = passed.sound.numbers;
    each = λ m l. each_after m l (ℕ_discrete m k);
    past_unused = λ m l n. subst Unused (sym (after_at_others m (λ (q : m ≡ k). omega (arith, gives.below)))) (passed.sound.past_unused m l n);
    invariant = λ h d l m ld. at_held h d l m ld (ℕ_discrete h i) (ℕ_discrete d c);
    sparse = λ m l e. at_sparse m l e (ℕ_discrete m k);
  }
    where
      at_held : (h d : ℕ) → 1 ≤ h → h ≤ s.setup.processors → d < class_count → Dec (h ≡ i) → Dec (d ≡ c) → T (must_move h d after) → ⊥
      at_held h d l m ld (yes p) (yes q) t = invariant_here (subst (λ (x : ℕ). T (must_move i x after)) q (subst (λ (x : ℕ). T (must_move x d after)) p t))
      at_held h d l m ld (yes p) (no f) t = invariant_of_others h d l m ld (λ x. f x.1) t
      at_held h d l m ld (no f) e t = invariant_of_others h d l m ld (λ x. f x.0) t

      at_sparse : (m : ℕ) → m < 64 → (superblock_at after m).owner ≡ 0 → Dec (m ≡ k) → Sparse s.setup (superblock_at after m)
      at_sparse m l e (yes q) =
          let o : (superblock_at after m).owner ≡ i = ap (λ (x : ℕ). (superblock_at after x).owner) q ∙ ap (λ (x : Superblock). x.owner) after_at_superblock
          ∙ gives.owner in
          absurd (let z : ⊥ = omega (arith, low) in z)
      at_sparse m l e (no f) = subst (Sparse s.setup) (sym (after_at_others m f))
          (passed.sound.sparse m l (sym (ap (λ (x : Superblock). x.owner) (after_at_others m f)) ∙ e))

  shape_after : Shape after
  shape_after = shape_with_superblock s k new shape in_table (length_with_mark b.live j ∙ gives.marks_length)

  -- ---- a class's counts
  owned_after : (d : ℕ) → superblocks_of_class d after + one (is_owned_of_class d old) ≡ superblocks_of_class d s + one (is_owned_of_class d new)
  unfolding superblocks_of_class
  owned_after d = total_after (λ x. one (is_owned_of_class d x))

  live_of_class_after : (d : ℕ) → live_of_class d after + pick (is_owned_of_class d old) (live_in old) 0 ≡ live_of_class d s + pick (is_owned_of_class d new)
      (live_in new) 0
  unfolding live_of_class
  live_of_class_after d = total_after (λ x. pick (is_owned_of_class d x) (live_in x) 0)

  new_not_of_other_class : (d : ℕ) → (d ≡ c → ⊥) → is_owned_of_class d new ≡ false
  new_not_of_other_class d f = owned_of_class_false d new (λ q. f (sym q ∙ gives.class))

  new_of_class : is_owned_of_class c new ≡ true
  new_of_class = owned_of_class_true c new new_owner_lt_254 gives.class

  owned_others : (d : ℕ) → (d ≡ c → ⊥) → superblocks_of_class d after ≤ superblocks_of_class d s
  owned_others d f = omega (arith, owned_after d, ap one (new_not_of_other_class d f))

  owned_not_more : old.owner < run_owner → old.class ≡ c → superblocks_of_class c after ≤ superblocks_of_class c s
  owned_not_more f e = omega (arith, owned_after c, ap one (owned_of_class_true c old f e), ap one new_of_class)

  none_in_global_after : superblocks_of 0 c s ≡ 0 → superblocks_of 0 c after ≡ 0
  none_in_global_after e = omega (arith, superblocks_after 0 c, one_if_belongs_other_owner 0 c new (λ (q : b.owner ≡ 0). omega (arith, gives.owner, low)))

  owned_class : (superblocks_of_class c after ≤ superblocks_of_class c s) ⊎ (superblocks_of 0 c after ≡ 0)
  owned_class = ⊎_elim (λ h. inl (owned_not_more h.0 h.1)) (λ e. inr (none_in_global_after e)) gives.supply

  -- the old superblock's live blocks, of class c
  old_live : pick (is_owned_of_class c old) (live_in old) 0 ≡ live_in old
  old_live = ⊎_elim (λ e. no_live_adds_nothing c old e ∙ sym e) (λ h. ap (λ (t : Bool). pick t (live_in old) 0) (owned_of_class_true c old h.1 h.0))
      gives.before

  old_other : (d : ℕ) → (d ≡ c → ⊥) → pick (is_owned_of_class d old) (live_in old) 0 ≡ 0
  old_other d f = ⊎_elim (no_live_adds_nothing d old) (λ h. ap (λ (t : Bool). pick t (live_in old) 0) (owned_of_class_false d old (λ q. f (sym q ∙ h.0))))
      gives.before

  live_class_after : live_of_class c after ≡ suc (live_of_class c s)
  live_class_after = omega (arith, live_of_class_after c, old_live, ap (λ (t : Bool). pick t (live_in new) 0) new_of_class, live_in_one_more)

  live_others_after : (d : ℕ) → (d ≡ c → ⊥) → live_of_class d after ≡ live_of_class d s
  live_others_after d f = omega (arith, live_of_class_after d, old_other d f, ap (λ (t : Bool). pick t (live_in new) 0) (new_not_of_other_class d f))

  -- ---- the effect
  marks_after : (m : ℕ) → mark_bit (superblock_at after k).live m ≡ mark_bit (with_mark b.live j) m
  marks_after m = ap (λ (x : Superblock). mark_bit x.live m) after_at_superblock

  -- no run changes
  runs_kept : RunsKept s after
  runs_kept m l = go (ℕ_discrete m k)
    where
      new_outside_run : is_of_run new ≡ false
      new_outside_run = outside_run_of_owner new (λ (q : new.owner ≡ run_owner). omega (arith, new_owner_lt_254))

      go : Dec (m ≡ k) → (is_of_run (superblock_at after m) ≡ is_of_run (superblock_at s m)) × ((superblock_at after m).run ≡ (superblock_at s m).run)
      go (yes e) =
          subst (λ (x : ℕ). (is_of_run (superblock_at after x) ≡ is_of_run (superblock_at s x)) × ((superblock_at after x).run ≡ (superblock_at s x).run))
          (sym e)
          (ap is_of_run after_at_superblock ∙ new_outside_run ∙ sym gives.outside_run, ap (λ (x : Superblock). x.run) after_at_superblock ∙ gives.run)
      go (no f) = (ap is_of_run (after_at_others m f), ap (λ (x : Superblock). x.run) (after_at_others m f))

  effect : TakeEffect i c k j s after
  effect = record {
    below = gives.below;
    class_lt_27 = known;
    block = subst (λ (d : ℕ). j < blocks_of d) gives.class in_class;
    setup = refl;
    others = λ m f. all_but_rank_of_same (superblock_at after m) (superblock_at s m) (after_at_others m f);
    owner = ap (λ (x : Superblock). x.owner) after_at_superblock ∙ gives.owner;
    class = ap (λ (x : Superblock). x.class) after_at_superblock ∙ gives.class;
    before = gives.before;
    outside_run = gives.outside_run;
    runs = runs_kept;
    not_marked = sym (gives.marks j in_marks) ∙ clear;
    is_marked_lem = marks_after j ∙ with_mark_same b.live j gives.marks_length in_marks;
    marks = λ m l f. marks_after m ∙ with_mark_other b.live j m f ∙ gives.marks m l;
    live = ap live_in after_at_superblock ∙ live_in_one_more;
    one_owner_changed = owners_changed_with_superblock_le_1 s k new shape.length_is in_table;
    owned_of_others = owned_others;
    owned_of_class = owned_class;
    live_of_class_lem = live_class_after;
    live_of_others = live_others_after;
  }

  -- ---- the ranks
  ranks_same : (m : ℕ) → (superblock_at after m).rank ≡ (superblock_at s m).rank
  ranks_same m = go (ℕ_discrete m k)
    where
      go : Dec (m ≡ k) → (superblock_at after m).rank ≡ (superblock_at s m).rank
      go (yes e) = ap (λ (x : ℕ). (superblock_at after x).rank) e ∙ ap (λ (x : Superblock). x.rank) after_at_superblock ∙ gives.rank
          ∙ ap (λ (x : ℕ). (superblock_at s x).rank) (sym e)
      go (no f) = ap (λ (x : Superblock). x.rank) (after_at_others m f)

  ranks_after : RanksSound after
  ranks_after = ranks_sound_of_same_ranks s after (λ m l. ranks_same m) (λ m l u. was_unowned m u (ℕ_discrete m k)) passed.ranks
    where
      was_unowned : (m : ℕ) → Unowned (superblock_at after m) → Dec (m ≡ k) → Unowned (superblock_at s m)
      was_unowned m u (yes e) =
          absurd (not_of_heap_of_unowned new (subst Unowned after_at_superblock (subst (λ (x : ℕ). Unowned (superblock_at after x)) e u)) new_owner_lt_254)
      was_unowned m u (no f) = subst Unowned (after_at_others m f) u

  passed_after : Passed after places
  passed_after =
      record {
        sound = sound_after;
        names = names_valid_after_take i c k j s after in_marks shape.length_is effect refl passed.names;
        totals = totals_kept_with_superblock s k new;
        ranks = ranks_after;
        runs = runs_valid_of_kept s after shape.length_is shape_after.length_is runs_kept passed.runs;
        room = omega (arith, passed.room, gives.length_is);
      }

  pub take_result_of_source : TakeResult i c k j s after places
  take_result_of_source = record { effect = effect; shape = shape_after; passed = passed_after; ranks = ranks_same }

-- a take from the state with other ranks is one from the state: ranks are no part of its effect
pub take_effect_of_reranked : (i c k j : ℕ) (rank : ℕ → ℕ) (s t : State) → length s.table ≡ 64 → TakeEffect i c k j (reranked rank s) t
    → TakeEffect i c k j s t
take_effect_of_reranked i c k j rank s t long e =
    record {
      below = e.below;
      class_lt_27 = e.class_lt_27;
      block = e.block;
      setup = e.setup;
      others = λ m f. e.others m f ∙ ap (with_rank (superblock_at t m).rank) (superblock_keeps_all_but_rank rank s long m);
      owner = e.owner;
      class = e.class;
      before = ⊎_elim (λ z. inl (sym (live_in_lem k) ∙ z))
          (λ h. inr (sym (reranked_class rank s long k) ∙ h.0, subst (λ (x : ℕ). x < run_owner) (reranked_owner rank s long k) h.1)) e.before;
      outside_run = sym (reranked_of_run rank s long k) ∙ e.outside_run;
      runs = λ m l. ((e.runs m l).0 ∙ reranked_of_run rank s long m, (e.runs m l).1 ∙ reranked_run rank s long m);
      not_marked = sym (bits j) ∙ e.not_marked;
      is_marked_lem = e.is_marked_lem;
      marks = λ m l f. e.marks m l f ∙ bits m;
      live = e.live ∙ ap suc (live_in_lem k);
      one_owner_changed = subst (λ (n : ℕ). n ≤ 1) (reranked_owners_changed rank s long t) e.one_owner_changed;
      owned_of_others = λ d f. subst (λ (n : ℕ). superblocks_of_class d t ≤ n) (reranked_superblocks_of_class rank s long d) (e.owned_of_others d f);
      owned_of_class = ⊎_elim (λ l. inl (subst (λ (n : ℕ). superblocks_of_class c t ≤ n) (reranked_superblocks_of_class rank s long c) l)) inr
          e.owned_of_class;
      live_of_class_lem = e.live_of_class_lem ∙ ap suc (reranked_live_of_class rank s long c);
      live_of_others = λ d f. e.live_of_others d f ∙ reranked_live_of_class rank s long d;
    }
  where
    live_in_lem : (m : ℕ) → live_in (superblock_at (reranked rank s) m) ≡ live_in (superblock_at s m)
    live_in_lem m = ap live_count (reranked_live rank s long m)

    bits : (m : ℕ) → mark_bit (superblock_at (reranked rank s) k).live m ≡ mark_bit (superblock_at s k).live m
    bits m = ap (λ (l : List ℕ). mark_bit l m) (reranked_live rank s long k)
