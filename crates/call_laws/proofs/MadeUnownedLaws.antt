-- A superblock in which nothing is live, of heap 0 or of no heap, replaced by one that no heap owns, as when it joins a run (document 02, item 7):
-- the state keeps its shape and the check but for names and runs, each processor heap and class what it has, and each class its live blocks. Assumes
-- nothing.
use mathlib.Core.Path.{◌≡◌, refl, sym, ap, ap₂, ◌∙◌, subst}
use mathlib.Core.Logic.{◌⊎◌, inl, ⊎_elim}
use mathlib.Core.List.{List}
use Prim.Native.Nat.{ℕ, ◌*◌, ◌≤◌, ◌<◌}
use native.Mathlib.Decide.{ℕ_discrete}
use native.Mathlib.Omega.{arith}
use lib.ListN.{length}
use lib.Dec.{T, ltb}
use Rattle.base_laws.specs.Sums.{pick, one}
use Rattle.base_laws.proofs.TestLaws.{pick_elim}
use Rattle.class_rules.specs.Classes.{blocks_of}
use Rattle.heap_rules.specs.declared.Superblock.{Superblock}
use Rattle.heap_rules.specs.declared.Setup.{Setup}
use Rattle.heap_rules.specs.declared.State.{State}
use Rattle.heap_rules.specs.Table.{run_owner, superblock_at, live_in}
use Rattle.heap_rules.specs.States.{with_superblock}
use Rattle.heap_rules.specs.Counts.{total, belongs, is_owned_of_class, one_if_belongs, live_if_belongs, superblocks_of, blocks_in, live_of}
use Rattle.heap_rules.specs.Counts.{superblocks_of_class}
use Rattle.heap_rules.specs.Counts.{live_of_class}
use Rattle.heap_rules.specs.Ranks.{is_ranked}
use Rattle.move_rules.specs.Moves.{both_conditions, must_move}
use Rattle.check_rules.specs.Check.{ranked_count}
use Rattle.heap_laws.proofs.StateFacts.{Shape, Unused, Unowned, Owned, Sparse, SoundWith, RanksSound}
use Rattle.heap_laws.proofs.CountLaws.{superblock_at_replaced, superblock_at_others, total_with_superblock, total_cong, one_if_belongs_other_owner}
use Rattle.heap_laws.proofs.StateCheckLaws.{shape_with_superblock}
use Rattle.call_laws.proofs.SuperblockLaws.{unowned_of_no_class, no_live_adds_nothing}

-- what is said of a heap and class goes by the setup and by its superblocks and live blocks alone
abbrev pub GoesByCounts : (ℕ → ℕ → State → Type 0) → Type 0
GoesByCounts Invariant = (h c : ℕ) (s t : State) → t.setup ≡ s.setup → superblocks_of h c t ≡ superblocks_of h c s → live_of h c t ≡ live_of h c s
    → Invariant h c s → Invariant h c t

-- as the move rule does
pub move_rule_goes_by_counts : GoesByCounts (λ h c t. T (must_move h c t) → ⊥)
unfolding must_move blocks_in
move_rule_goes_by_counts h c s t e f g none must =
    none
    (subst T
    (ap (λ (u : Setup). both_conditions u.spare u.p u.q (blocks_of c) (superblocks_of h c t * blocks_of c) (live_of h c t)) e
    ∙ ap₂ (λ (a u : ℕ). both_conditions s.setup.spare s.setup.p s.setup.q (blocks_of c) (a * blocks_of c) u) f g)
    must)

-- nothing is live in superblock k, which is of heap 0 or of none, and no heap owns b
pub record BecomesUnowned (s : State) (k : ℕ) (b : Superblock) : Type 0 where
  pub shape : Shape s
  pub in_table : k < 64
  pub owner_before : ((superblock_at s k).owner ≡ 0) ⊎ (run_owner ≤ (superblock_at s k).owner)
  pub live_before : live_in (superblock_at s k) ≡ 0
  pub unowned : Unowned b
  pub marks_length : length b.live ≡ 4

module _ (s : State) (k : ℕ) (b : Superblock) (becomes : BecomesUnowned s k b) where
  abbrev after : State
  after = with_superblock s k b

  here : superblock_at after k ≡ b
  here = superblock_at_replaced s k b becomes.shape.length_is becomes.in_table

  owner_after : run_owner ≤ b.owner
  owner_after = ⊎_elim (λ e. omega arith) (λ e. omega arith) becomes.unowned.owner

  -- what holds of b and of each other superblock holds of each
  each_after : (P : ℕ → Superblock → Type 0) → P k b → ((m : ℕ) → m < 64 → (m ≡ k → ⊥) → P m (superblock_at s m)) → (m : ℕ) → m < 64
      → P m (superblock_at after m)
  each_after P this other m l = go (ℕ_discrete m k)
    where
      go : Dec (m ≡ k) → P m (superblock_at after m)
      go (yes e) = subst (λ (i : ℕ). P i (superblock_at after i)) (sym e) (subst (λ (x : Superblock). P k x) (sym here) this)
      go (no f) = subst (λ (x : Superblock). P m x) (sym (superblock_at_others s k b m f)) (other m l f)

  pub made_unowned_shape : Shape after
  made_unowned_shape = shape_with_superblock s k b becomes.shape becomes.in_table becomes.marks_length

  -- ---- the counts
  total_same : (f : Superblock → ℕ) → f b ≡ f (superblock_at s k) → total f after.table ≡ total f s.table
  total_same f e = omega (arith, total_with_superblock f s k b becomes.shape.length_is becomes.in_table)

  not_of_heap : (h : ℕ) → 1 ≤ h → h < run_owner → (superblock_at s k).owner ≡ h → ⊥
  not_of_heap h low high e = ⊎_elim (λ z. omega arith) (λ z. omega arith) becomes.owner_before

  pub made_unowned_superblocks_of : (h c : ℕ) → 1 ≤ h → h < run_owner → superblocks_of h c after ≡ superblocks_of h c s
  unfolding superblocks_of
  made_unowned_superblocks_of h c low high =
      total_same (one_if_belongs h c)
      (one_if_belongs_other_owner h c b (λ (e : b.owner ≡ h). omega (arith, owner_after))
      ∙ sym (one_if_belongs_other_owner h c (superblock_at s k) (not_of_heap h low high)))

  pub made_unowned_live_of : (h c : ℕ) → live_of h c after ≡ live_of h c s
  unfolding live_of live_if_belongs
  made_unowned_live_of h c = total_same (live_if_belongs h c) (none b becomes.unowned.live ∙ sym (none (superblock_at s k) becomes.live_before))
    where
      none : (x : Superblock) → live_in x ≡ 0 → live_if_belongs h c x ≡ 0
      none x e = pick_elim (λ (n : ℕ). n ≡ 0) (belongs h c x) (live_in x) 0 (λ _. e) (λ _. refl)

  -- no class has more superblocks
  pub made_unowned_superblocks_of_class : (d : ℕ) → superblocks_of_class d after ≤ superblocks_of_class d s
  unfolding superblocks_of_class
  made_unowned_superblocks_of_class d =
      omega (
        arith,
        total_with_superblock (λ x. one (is_owned_of_class d x)) s k b becomes.shape.length_is becomes.in_table,
        ap one (unowned_of_no_class d b owner_after),
      )

  pub made_unowned_live_of_class : (d : ℕ) → live_of_class d after ≡ live_of_class d s
  unfolding live_of_class
  made_unowned_live_of_class d =
      total_same (λ x. pick (is_owned_of_class d x) (live_in x) 0) (no_live_adds_nothing d b becomes.unowned.live
      ∙ sym (no_live_adds_nothing d (superblock_at s k) becomes.live_before))

  -- ---- the check
  pub made_unowned_sound : (Invariant : ℕ → ℕ → State → Type 0) → GoesByCounts Invariant → (order : List ℕ) → k < s.setup.superblocks
      → SoundWith Invariant s order → SoundWith Invariant after order
  made_unowned_sound Invariant by-counts order below sound =
      record {
        numbers = sound.numbers;
        each = each_after (λ m x. Unowned x ⊎ Owned s.setup order m x) (inl becomes.unowned) (λ m l f. sound.each m l);
        past_unused = each_after (λ m x. s.setup.superblocks ≤ m → Unused x) (λ far. absurd (let z : ⊥ = omega arith in z)) (λ m l f. sound.past_unused m l);
        invariant = λ h c low high known. by-counts h c s after refl
            (made_unowned_superblocks_of h c low (omega (arith, sound.numbers.processors_high))) (made_unowned_live_of h c)
            (sound.invariant h c low high known);
        sparse = each_after (λ m x. x.owner ≡ 0 → Sparse s.setup x) (λ (e : b.owner ≡ 0). absurd (let z : ⊥ = omega (arith, owner_after) in z))
            (λ m l f. sound.sparse m l);
      }

  -- the ranking's facts, where it has no rank
  pub made_unowned_ranks_sound : (superblock_at s k).rank ≡ 0 → b.rank ≡ 0 → RanksSound s → RanksSound after
  unfolding ranked_count is_ranked
  made_unowned_ranks_sound before now sound =
      record {
        bounded = λ m l. omega (
          arith,
          same m l,
          sound.bounded m l,
          total_cong (λ x. one (ltb 0 x.rank)) after s
              (λ m l. ap (λ (r : ℕ). one (ltb 0 r)) (same m l)),
        );
        distinct = λ m j lm lj pos e. sound.distinct m j lm lj (omega (arith, same m lm)) (sym (same m lm) ∙ e ∙ same j lj);
        unowned_unranked = each_after (λ m x. Unowned x → x.rank ≡ 0) (λ _. now) (λ m l f. sound.unowned_unranked m l);
      }
    where
      same : (m : ℕ) → m < 64 → (superblock_at after m).rank ≡ (superblock_at s m).rank
      same = each_after (λ m x. x.rank ≡ (superblock_at s m).rank) (now ∙ sym before) (λ m l f. refl)
