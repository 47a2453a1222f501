-- A live block's mark cleared and its number put in the next place, before any move: what the state and its counts are then. Assumes nothing.
use mathlib.Core.Path.{◌≡◌, refl, sym, ap, ◌∙◌, subst}
use mathlib.Core.Bool.{not}
use mathlib.Core.Logic.{◌⊎◌, inl, inr}
use mathlib.Core.List.{List}
use Prim.Native.Nat.{ℕ, suc, ◌+◌, ◌-◌, ◌*◌, ◌≤◌, ◌<◌}
use native.Mathlib.Nat.{mul-le-mul_left}
use native.Mathlib.Decide.{ℕ_discrete}
use native.Mathlib.Omega.{arith}
use lib.ListN.{length}
use lib.Seq.{get_or-set_same, get_or-set_other}
use lib.Dec.{T, eqb}
use Rattle.base_laws.specs.Sums.{pick, one}
use Rattle.base_laws.proofs.SumLaws.{sum_cong}
use Rattle.class_rules.specs.Classes.{blocks_of}
use Rattle.class_rules.proofs.ClassTableLaws.{blocks_of_le_256}
use Rattle.marks_rules.specs.Marks.{mark_bit}
use Rattle.marks_laws.proofs.MarkLaws.{live_count_without_mark, length_without_mark, without_mark_same, without_mark_other}
use Rattle.order_rules.specs.Order.{with_place}
use Rattle.filled_rules.proofs.PlacesValidLaws.{places_valid_after_free}
use Rattle.filled_rules.proofs.OwnPlacesOnly.{places_valid_other_with_place}
use Rattle.heap_rules.specs.declared.Superblock.{Superblock}
use Rattle.heap_rules.specs.declared.State.{State}
use Rattle.heap_rules.specs.Table.{run_owner, blank, superblock_at, live_in, is_of_run, is_of_heap, without_mark_at}
use Rattle.heap_rules.specs.States.{with_superblock}
use Rattle.heap_rules.specs.Counts.{total, belongs, is_owned_of_class, one_if_belongs, live_if_belongs, superblocks_of, blocks_in, live_of}
use Rattle.heap_rules.specs.Counts.{superblocks_of_class}
use Rattle.heap_rules.specs.Counts.{live_of_class, owners_changed}
use Rattle.heap_laws.proofs.StateFacts.{Shape, Unused, Unowned, Owned, Sparse, RunsKept, InvariantBeforeFrees, SoundAfterFrees}
use Rattle.heap_laws.proofs.CountLaws.{total_with_superblock, live_if_belongs_is_live_in, live_if_belongs_other_owner, live_if_belongs_other_class}
use Rattle.heap_laws.proofs.StateCheckLaws.{shape_with_superblock, owned_of_owner, not_of_heap_of_unowned}
use Rattle.call_laws.proofs.CallEffects.{PassedAfterFrees}
use Rattle.call_laws.proofs.SuperblockLaws.{owned_of_class_true, owned_of_class_false}
use Rattle.call_laws.proofs.TransferredLaws.{one_more_freed, one_more_freed_of_pair, one_more_freed_of_others, invariant_before_frees_cong}

-- block j of superblock k is live, in a state that passes its check, or did before these blocks of each heap and class were freed
pub record LiveBlock (s : State) (order : List ℕ) (k j : ℕ) : Type 0 where
  pub shape : Shape s
  pub freed : ℕ → ℕ → ℕ
  pub passed : PassedAfterFrees freed s order
  pub below : k < s.setup.superblocks
  pub owned : (superblock_at s k).owner < run_owner
  pub block : j < blocks_of (superblock_at s k).class
  pub marked : mark_bit (superblock_at s k).live j ≡ 1

-- superblock k's owner and class
abbrev pub owner_at : State → ℕ → ℕ
owner_at s k = (superblock_at s k).owner

abbrev pub class_at : State → ℕ → ℕ
class_at s k = (superblock_at s k).class

-- "The block's mark is cleared"
abbrev pub with_mark_cleared : State → ℕ → ℕ → State
with_mark_cleared s k j = with_superblock s k (without_mark_at (superblock_at s k) j)

-- "and its number goes in the next place of its superblock's order"
abbrev pub with_block_pushed : State → List ℕ → ℕ → ℕ → List ℕ
with_block_pushed s order k j = with_place order k (blocks_of (superblock_at s k).class - live_in (superblock_at s k)) j

-- a condition that fails with so many live blocks more, after one block is freed
condition_with_one_live_less : {a b u v : ℕ} (n q r x : ℕ) → b ≡ a → u ≡ suc v → (a ≤ u + n + x) ⊎ (r * a ≤ q * (u + n)) → (b ≤ v + (n + 1) + x)
    ⊎ (r * b ≤ q * (v + (n + 1)))
condition_with_one_live_less n q r x e f (inl l) = inl (omega arith)
condition_with_one_live_less {a} {b} {u} {v} n q r x e f (inr l) =
    inr (subst (λ (y : ℕ). r * b ≤ q * y) more (subst (λ (y : ℕ). r * y ≤ q * (u + n)) (sym e) l))
  where
    more : u + n ≡ v + (n + 1)
    more = omega arith

module _ (s : State) (order : List ℕ) (k j : ℕ) (live : LiveBlock s order k j) where
  pub live_block_superblock_lt_64 : k < 64
  live_block_superblock_lt_64 = let h = live.passed.sound.numbers.superblocks_high in let l = live.below in omega arith

  in_table : k < length s.table
  in_table = let e = live.shape.length_is in let l = live_block_superblock_lt_64 in omega arith

  four : length (superblock_at s k).live ≡ 4
  four = live.shape.marks_length k live_block_superblock_lt_64

  pub live_block_superblock_owned : Owned s.setup order k (superblock_at s k)
  live_block_superblock_owned = owned_of_owner s order live.passed.sound k live_block_superblock_lt_64 live.owned

  block_lt_256 : j < 256
  block_lt_256 = let b = live.block in omega (arith, blocks_of_le_256 (class_at s k))

  -- ---- the superblocks
  pub mark_cleared_at_superblock : superblock_at (with_mark_cleared s k j) k ≡ without_mark_at (superblock_at s k) j
  mark_cleared_at_superblock = get_or-set_same s.table k (without_mark_at (superblock_at s k) j) blank in_table

  pub mark_cleared_at_others : (m : ℕ) → (m ≡ k → ⊥) → superblock_at (with_mark_cleared s k j) m ≡ superblock_at s m
  mark_cleared_at_others m other = get_or-set_other s.table k m (without_mark_at (superblock_at s k) j) blank other

  -- what holds of the one with its mark cleared and of each other holds of each
  mark_cleared_each : (P : ℕ → Superblock → Type 0) → P k (without_mark_at (superblock_at s k) j) → ((m : ℕ) → m < 64 → (m ≡ k → ⊥) → P m (superblock_at s m))
      → (m : ℕ) → m < 64 → P m (superblock_at (with_mark_cleared s k j) m)
  mark_cleared_each P here other m l = go (ℕ_discrete m k)
    where
      go : Dec (m ≡ k) → P m (superblock_at (with_mark_cleared s k j) m)
      go (yes e) = subst (λ (i : ℕ). P i (superblock_at (with_mark_cleared s k j) i)) (sym e)
          (subst (λ (b : Superblock). P k b) (sym mark_cleared_at_superblock) here)
      go (no f) = subst (λ (b : Superblock). P m b) (sym (mark_cleared_at_others m f)) (other m l f)

  pub mark_cleared_shape : Shape (with_mark_cleared s k j)
  mark_cleared_shape = shape_with_superblock s k (without_mark_at (superblock_at s k) j) live.shape live_block_superblock_lt_64
      (length_without_mark (superblock_at s k).live j ∙ four)

  pub mark_cleared_class : (m : ℕ) → m < 64 → (superblock_at (with_mark_cleared s k j) m).class ≡ (superblock_at s m).class
  mark_cleared_class = mark_cleared_each (λ m b. b.class ≡ (superblock_at s m).class) refl (λ m l f. refl)

  pub mark_cleared_owner : (m : ℕ) → m < 64 → (superblock_at (with_mark_cleared s k j) m).owner ≡ (superblock_at s m).owner
  mark_cleared_owner = mark_cleared_each (λ m b. b.owner ≡ (superblock_at s m).owner) refl (λ m l f. refl)

  pub mark_cleared_rank : (m : ℕ) → m < 64 → (superblock_at (with_mark_cleared s k j) m).rank ≡ (superblock_at s m).rank
  mark_cleared_rank = mark_cleared_each (λ m b. b.rank ≡ (superblock_at s m).rank) refl (λ m l f. refl)

  -- no more superblocks are without a heap
  pub unowned_of_mark_cleared_unowned : (m : ℕ) → m < 64 → Unowned (superblock_at (with_mark_cleared s k j) m) → Unowned (superblock_at s m)
  unowned_of_mark_cleared_unowned = mark_cleared_each (λ m b. Unowned b → Unowned (superblock_at s m))
      (λ u. absurd (not_of_heap_of_unowned (without_mark_at (superblock_at s k) j) u live.owned)) (λ m l f u. u)

  -- no run changes
  pub mark_cleared_runs : RunsKept s (with_mark_cleared s k j)
  unfolding is_of_run
  mark_cleared_runs = mark_cleared_each (λ m b. (is_of_run b ≡ is_of_run (superblock_at s m)) × (b.run ≡ (superblock_at s m).run)) (refl, refl)
      (λ m l f. (refl, refl))

  pub mark_cleared_bit : mark_bit (superblock_at (with_mark_cleared s k j) k).live j ≡ 0
  mark_cleared_bit = ap (λ (b : Superblock). mark_bit b.live j) mark_cleared_at_superblock ∙ without_mark_same (superblock_at s k).live j

  pub mark_cleared_other_bits : (m b : ℕ) → m < 64 → ((m ≡ k) × (b ≡ j) → ⊥) → mark_bit (superblock_at (with_mark_cleared s k j) m).live b
      ≡ mark_bit (superblock_at s m).live b
  mark_cleared_other_bits m b l = mark_cleared_each (λ m x. ((m ≡ k) × (b ≡ j) → ⊥) → mark_bit x.live b ≡ mark_bit (superblock_at s m).live b)
      (λ apart. without_mark_other (superblock_at s k).live j b (λ q. apart (refl, q)))
      (λ m l f apart. refl) m l

  pub mark_cleared_live_in : live_in (superblock_at s k) ≡ suc (live_in (without_mark_at (superblock_at s k) j))
  mark_cleared_live_in = live_count_without_mark (superblock_at s k).live j four block_lt_256 live.marked

  -- ---- the counts
  mark_cleared_total_same : (f : Superblock → ℕ) → f (without_mark_at (superblock_at s k) j) ≡ f (superblock_at s k) → total f (with_mark_cleared s k j).table
      ≡ total f s.table
  mark_cleared_total_same f e = let t = total_with_superblock f s k (without_mark_at (superblock_at s k) j)
      live.shape.length_is live_block_superblock_lt_64 in omega arith

  mark_cleared_total_less : (f : Superblock → ℕ) → f (superblock_at s k) ≡ suc (f (without_mark_at (superblock_at s k) j))
      → total f s.table ≡ suc (total f (with_mark_cleared s k j).table)
  mark_cleared_total_less f e = let t = total_with_superblock f s k (without_mark_at (superblock_at s k) j)
      live.shape.length_is live_block_superblock_lt_64 in omega arith

  pub mark_cleared_superblocks_of : (h c : ℕ) → superblocks_of h c (with_mark_cleared s k j) ≡ superblocks_of h c s
  unfolding superblocks_of one_if_belongs belongs
  mark_cleared_superblocks_of h c = mark_cleared_total_same (one_if_belongs h c) refl

  pub mark_cleared_blocks_in : (h c : ℕ) → blocks_in h c (with_mark_cleared s k j) ≡ blocks_in h c s
  unfolding blocks_in
  mark_cleared_blocks_in h c = ap (λ (m : ℕ). m * blocks_of c) (mark_cleared_superblocks_of h c)

  pub mark_cleared_owned_of : (c : ℕ) → superblocks_of_class c (with_mark_cleared s k j) ≡ superblocks_of_class c s
  unfolding superblocks_of_class is_owned_of_class is_of_heap
  mark_cleared_owned_of c = mark_cleared_total_same (λ b. one (is_owned_of_class c b)) refl

  pub mark_cleared_live_of : live_of (owner_at s k) (class_at s k) s ≡ suc (live_of (owner_at s k) (class_at s k) (with_mark_cleared s k j))
  unfolding live_of
  mark_cleared_live_of =
      mark_cleared_total_less (live_if_belongs (owner_at s k) (class_at s k))
      (live_if_belongs_is_live_in (owner_at s k) (class_at s k) (superblock_at s k) refl refl ∙ mark_cleared_live_in
      ∙ ap suc (sym (live_if_belongs_is_live_in (owner_at s k) (class_at s k) (without_mark_at (superblock_at s k) j) refl refl)))

  pub mark_cleared_live_of_others : (h c : ℕ) → ((h ≡ owner_at s k) × (c ≡ class_at s k) → ⊥) → live_of h c (with_mark_cleared s k j) ≡ live_of h c s
  unfolding live_of
  mark_cleared_live_of_others h c apart = mark_cleared_total_same (live_if_belongs h c) (go (ℕ_discrete h (owner_at s k)))
    where
      go : Dec (h ≡ owner_at s k) → live_if_belongs h c (without_mark_at (superblock_at s k) j) ≡ live_if_belongs h c (superblock_at s k)
      go (yes e) =
          live_if_belongs_other_class h c (without_mark_at (superblock_at s k) j) (λ (q : class_at s k ≡ c). apart (e, sym q))
          ∙ sym (live_if_belongs_other_class h c (superblock_at s k) (λ (q : class_at s k ≡ c). apart (e, sym q)))
      go (no f) =
          live_if_belongs_other_owner h c (without_mark_at (superblock_at s k) j) (λ (q : owner_at s k ≡ h). f (sym q))
          ∙ sym (live_if_belongs_other_owner h c (superblock_at s k) (λ (q : owner_at s k ≡ h). f (sym q)))

  pub mark_cleared_live_of_class : live_of_class (class_at s k) s ≡ suc (live_of_class (class_at s k) (with_mark_cleared s k j))
  unfolding live_of_class
  mark_cleared_live_of_class =
      mark_cleared_total_less (λ b. pick (is_owned_of_class (class_at s k) b) (live_in b) 0)
      (rw (
        owned_of_class_true (class_at s k) (superblock_at s k) live.owned refl,
        owned_of_class_true (class_at s k) (without_mark_at (superblock_at s k) j)
            live.owned refl,
      ) mark_cleared_live_in)

  pub mark_cleared_live_of_other_classes : (d : ℕ) → (d ≡ class_at s k → ⊥) → live_of_class d (with_mark_cleared s k j) ≡ live_of_class d s
  unfolding live_of_class
  mark_cleared_live_of_other_classes d apart =
      mark_cleared_total_same (λ b. pick (is_owned_of_class d b) (live_in b) 0)
      (rw (
        owned_of_class_false d (superblock_at s k) (λ q. apart (sym q)),
        owned_of_class_false d (without_mark_at (superblock_at s k) j)
            (λ (q : class_at s k ≡ d). apart (sym q)),
      ))

  -- clearing a mark changes no owner
  pub mark_cleared_owners_changed : (t : State) → owners_changed s t ≡ owners_changed (with_mark_cleared s k j) t
  unfolding owners_changed
  mark_cleared_owners_changed t =
      sum_cong (λ m. one (not (eqb (superblock_at s m).owner (superblock_at t m).owner)))
      (λ m. one (not (eqb (superblock_at (with_mark_cleared s k j) m).owner (superblock_at t m).owner))) 64
      (λ m l. ap (λ (x : ℕ). one (not (eqb x (superblock_at t m).owner))) (sym (mark_cleared_owner m l)))

  -- ---- the check
  fits : k * 256 + blocks_of (class_at s k) ≤ length order
  fits = let r = live.passed.room in let l = live.below in omega (arith, blocks_of_le_256 (class_at s k))

  next_place_lt_256 : blocks_of (class_at s k) - live_in (superblock_at s k) < 256
  next_place_lt_256 = omega (arith, blocks_of_le_256 (class_at s k), mark_cleared_live_in)

  mark_cleared_unowned_or_owned : (m : ℕ) → m < 64 → Unowned (superblock_at (with_mark_cleared s k j) m) ⊎ Owned s.setup (with_block_pushed s order k j) m
      (superblock_at (with_mark_cleared s k j) m)
  mark_cleared_unowned_or_owned = mark_cleared_each (λ m b. Unowned b ⊎ Owned s.setup (with_block_pushed s order k j) m b)
      (inr (record {
        owner = live_block_superblock_owned.owner;
        class = live_block_superblock_owned.class;
        places = places_valid_after_free order (superblock_at s k).live k (blocks_of (class_at s k)) (blocks_of_le_256 (class_at s k))
            live_block_superblock_owned.places four j live.block live.marked fits;
      }))
      (λ m l f. beside m f (live.passed.sound.each m l))
    where
      beside : (m : ℕ) → (m ≡ k → ⊥) → Unowned (superblock_at s m) ⊎ Owned s.setup order m (superblock_at s m) → Unowned (superblock_at s m)
          ⊎ Owned s.setup (with_block_pushed s order k j) m (superblock_at s m)
      beside m f (inl u) = inl u
      beside m f (inr o) = inr (record {
        owner = o.owner;
        class = o.class;
        places = subst T (sym (places_valid_other_with_place order (superblock_at s m).live m (blocks_of (superblock_at s m).class) k f
            (blocks_of_le_256 (superblock_at s m).class) (blocks_of (class_at s k) - live_in (superblock_at s k)) j next_place_lt_256)) o.places;
      })

  -- the check holds as before, with one block more of its heap and class freed
  pub mark_cleared_sound : SoundAfterFrees (one_more_freed (owner_at s k) (class_at s k) live.freed) (with_mark_cleared s k j) (with_block_pushed s order k j)
  mark_cleared_sound =
      record {
        numbers = live.passed.sound.numbers;
        each = mark_cleared_unowned_or_owned;
        past_unused = mark_cleared_each (λ m b. s.setup.superblocks ≤ m → Unused b)
            (λ far. absurd (let l = live.below in let z : ⊥ = omega arith in z)) (λ m l f. live.passed.sound.past_unused m l);
        invariant = λ i d low high class. condition i d (live.passed.sound.invariant i d low high class) (ℕ_discrete i (owner_at s k))
            (ℕ_discrete d (class_at s k));
        sparse = mark_cleared_each (λ m b. b.owner ≡ 0 → Sparse s.setup b)
            (λ zero. still (live.passed.sound.sparse k live_block_superblock_lt_64 zero)) (λ m l f. live.passed.sound.sparse m l);
      }
    where
      still : Sparse s.setup (superblock_at s k) → Sparse s.setup (without_mark_at (superblock_at s k) j)
      still h = let g = mul-le-mul_left {m = live_in (without_mark_at (superblock_at s k) j)} {n = live_in (superblock_at s k)} s.setup.q
          (omega (arith, mark_cleared_live_in)) in omega arith

      Fails : ℕ → ℕ → Type 0
      Fails i d = InvariantBeforeFrees (one_more_freed (owner_at s k) (class_at s k) live.freed i d) i d (with_mark_cleared s k j)

      other : (i d : ℕ) → InvariantBeforeFrees (live.freed i d) i d s → ((i ≡ owner_at s k) × (d ≡ class_at s k) → ⊥) → Fails i d
      other i d before apart =
          subst (λ (n : ℕ). InvariantBeforeFrees n i d (with_mark_cleared s k j))
          (sym (one_more_freed_of_others (owner_at s k) (class_at s k) live.freed i d apart))
          (invariant_before_frees_cong (live.freed i d) i d s (with_mark_cleared s k j) refl (mark_cleared_superblocks_of i d)
          (mark_cleared_live_of_others i d apart) before)

      own : InvariantBeforeFrees (live.freed (owner_at s k) (class_at s k)) (owner_at s k) (class_at s k) s → Fails (owner_at s k) (class_at s k)
      own before =
          subst (λ (n : ℕ). InvariantBeforeFrees n (owner_at s k) (class_at s k) (with_mark_cleared s k j))
          (sym (one_more_freed_of_pair (owner_at s k) (class_at s k) live.freed))
          (condition_with_one_live_less (live.freed (owner_at s k) (class_at s k)) s.setup.q (s.setup.q - s.setup.p)
          (s.setup.spare * blocks_of (class_at s k)) (mark_cleared_blocks_in (owner_at s k) (class_at s k)) mark_cleared_live_of before)

      condition : (i d : ℕ) → InvariantBeforeFrees (live.freed i d) i d s → Dec (i ≡ owner_at s k) → Dec (d ≡ class_at s k) → Fails i d
      condition i d before (yes e) (yes g) = rw (e, g) (own (rw (e, g) at before))
      condition i d before (yes e) (no g) = other i d before (λ q. g q.1)
      condition i d before (no e) q = other i d before (λ r. e r.0)
