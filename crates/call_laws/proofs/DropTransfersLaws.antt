-- The move rule followed for one heap and class after another, as a drop does: what the moves of all of them come to. Assumes nothing.
use mathlib.Core.Path.{◌≡◌, refl, sym, ap, ap₂, ◌∙◌, subst}
use mathlib.Core.Bool.{Bool, true, false, not}
use mathlib.Core.Logic.{◌⊎◌, inl, inr, ⊎_elim}
use mathlib.Core.List.{List}
use Prim.Native.Nat.{ℕ, zero, suc, ◌+◌, ◌*◌, ◌≤◌, ◌<◌, zero-le}
use native.Mathlib.Nat.{le_refl, le_trans, mul-add, mul-le-mul_left}
use native.Mathlib.Decide.{dec_lt}
use native.Mathlib.Omega.{arith}
use borrow.Author.Tests.{eq-eqb}
use lib.Dec.{T, eqb}
use Rattle.base_laws.specs.Sums.{pick, one, sum_below}
use Rattle.class_rules.specs.Classes.{class_count}
use Rattle.base_laws.proofs.TestLaws.{T_of_true}
use Rattle.base_laws.proofs.SumLaws.{sum_cong}
use Rattle.base_laws.proofs.Counting.{sum_add}
use Rattle.heap_rules.specs.declared.Superblock.{Superblock}
use Rattle.heap_rules.specs.declared.Setup.{Setup}
use Rattle.heap_rules.specs.declared.State.{State}
use Rattle.heap_rules.specs.declared.Moved.{Moved}
use Rattle.heap_rules.specs.Table.{run_owner, superblock_at, with_owner}
use Rattle.heap_rules.specs.Counts.{belongs, superblocks_of_class, live_of_class, owners_changed}
use Rattle.move_rules.specs.Moves.{invariant_restored}
use Rattle.heap_laws.proofs.StateFacts.{Shape, Sparse, TransferredFrom}
use Rattle.heap_laws.proofs.MoveLaws.{owners_changed_self}
use Rattle.heap_laws.proofs.CountLaws.{owner_and_class_of_belongs}
use Rattle.call_rules.specs.Drop.{then_restored}
use Rattle.call_rules.specs.DropLoops.{classes_restored, heaps_restored}
use Rattle.call_laws.proofs.CallEffects.{PassedAfterFrees}
use Rattle.call_laws.proofs.TransferredLaws.{none_freed, none_freed_of_pair, none_freed_le}
use Rattle.call_laws.proofs.InvariantRestoredLaws.{InvariantRestored, restored_facts, restored_shape, restored_passed}

-- ---- superblocks of the touched processor heaps and classes passed to heap 0, n of them: t is s with that
pub record Transfers (touched : ℕ → ℕ → Bool) (s t : State) (n : ℕ) : Type 0 where
  pub setup : t.setup ≡ s.setup
  pub names : t.names ≡ s.names
  -- a superblock is as it was, or it was that of a touched processor heap and class, and only its owner has become 0
  pub each : (k : ℕ) → k < 64
      → (superblock_at t k ≡ superblock_at s k)
      ⊎ ((0 < (superblock_at s k).owner) × ((superblock_at s k).owner < run_owner) × T (touched (superblock_at s k).owner (superblock_at s k).class)
      × (superblock_at t k ≡ with_owner 0 (superblock_at s k)))
  pub changed : owners_changed s t ≡ n
  -- no class changes its number of superblocks or live blocks
  pub owned : (d : ℕ) → superblocks_of_class d t ≡ superblocks_of_class d s
  pub live : (d : ℕ) → live_of_class d t ≡ live_of_class d s

transfers_self : (touched : ℕ → ℕ → Bool) (s : State) → Transfers touched s s 0
transfers_self touched s = record { setup = refl; names = refl; each = λ k l. inl refl; changed = owners_changed_self s; owned = λ d. refl; live = λ d. refl }

module _ (touched : ℕ → ℕ → Bool) (s r t : State) (n m h c : ℕ) (before : Transfers touched s r n) (from : TransferredFrom h c r t) (pos : 0 < h)
    (low : h < run_owner) (touches : T (touched h c)) (changed : owners_changed r t ≡ m) where
  -- a superblock that has passed on before is heap 0's, so the ones that pass on now are as they were
  abbrev Kept : ℕ → Type 0
  Kept k = superblock_at r k ≡ superblock_at s k

  abbrev PassedOn : ℕ → Type 0
  PassedOn k = (0 < (superblock_at s k).owner) × ((superblock_at s k).owner < run_owner) × T (touched (superblock_at s k).owner (superblock_at s k).class)
      × (superblock_at r k ≡ with_owner 0 (superblock_at s k))

  not_twice : (k : ℕ) → T (belongs h c (superblock_at r k)) → PassedOn k → ⊥
  not_twice k mine w =
      let zero : (superblock_at r k).owner ≡ 0 = ap (λ (b : Superblock). b.owner) w.3 in
      let own = (owner_and_class_of_belongs h c (superblock_at r k) mine).0 in
      omega arith

  next_each : (k : ℕ) → k < 64
      → (superblock_at t k ≡ superblock_at s k)
      ⊎ ((0 < (superblock_at s k).owner) × ((superblock_at s k).owner < run_owner) × T (touched (superblock_at s k).owner (superblock_at s k).class)
      × (superblock_at t k ≡ with_owner 0 (superblock_at s k)))
  next_each k l = go (from.each k l) (before.each k l)
    where
      go : (superblock_at t k ≡ superblock_at r k)
          ⊎ (T (belongs h c (superblock_at r k)) × Sparse r.setup (superblock_at r k) × (superblock_at t k ≡ with_owner 0 (superblock_at r k))) → Kept k
          ⊎ PassedOn k
          → (superblock_at t k ≡ superblock_at s k)
          ⊎ ((0 < (superblock_at s k).owner) × ((superblock_at s k).owner < run_owner) × T (touched (superblock_at s k).owner (superblock_at s k).class)
          × (superblock_at t k ≡ with_owner 0 (superblock_at s k)))
      go (inl same) (inl q) = inl (same ∙ q)
      go (inl same) (inr w) = inr (w.0, w.1, w.2, same ∙ w.3)
      go (inr x) (inl q) =
          let own = owner_and_class_of_belongs h c (superblock_at r k) x.0 in
          let owner : (superblock_at s k).owner ≡ h = sym (ap (λ (b : Superblock). b.owner) q) ∙ own.0 in
          let class : (superblock_at s k).class ≡ c = sym (ap (λ (b : Superblock). b.class) q) ∙ own.1 in
          inr (subst (λ (i : ℕ). 0 < i) (sym owner) pos, subst (λ (i : ℕ). i < run_owner) (sym owner) low, rw (owner, class) touches, x.2 ∙ ap (with_owner 0) q)
      go (inr x) (inr w) = absurd (not_twice k x.0 w)

  abbrev differs : State → State → ℕ → ℕ
  differs x y k = one (not (eqb (superblock_at x k).owner (superblock_at y k).owner))

  no_difference : (x : ℕ) → one (not (eqb x x)) ≡ 0
  no_difference x = ap (λ (t : Bool). one (not t)) (eq-eqb x x refl)

  differs_once : (k : ℕ) → k < 64 → differs s t k ≡ differs s r k + differs r t k
  differs_once k l = go (from.each k l) (before.each k l)
    where
      go : (superblock_at t k ≡ superblock_at r k)
          ⊎ (T (belongs h c (superblock_at r k)) × Sparse r.setup (superblock_at r k) × (superblock_at t k ≡ with_owner 0 (superblock_at r k))) → Kept k
          ⊎ PassedOn k → differs s t k ≡ differs s r k + differs r t k
      go (inl same) q =
          let e : (superblock_at t k).owner ≡ (superblock_at r k).owner = ap (λ (b : Superblock). b.owner) same in
          let x : differs s t k ≡ differs s r k = ap (λ (o : ℕ). one (not (eqb (superblock_at s k).owner o))) e in
          let y : differs r t k ≡ 0 = ap (λ (o : ℕ). one (not (eqb (superblock_at r k).owner o))) e ∙ no_difference (superblock_at r k).owner in
          omega arith
      go (inr x) (inl q) =
          let e : (superblock_at r k).owner ≡ (superblock_at s k).owner = ap (λ (b : Superblock). b.owner) q in
          let y : differs s r k ≡ 0 = ap (λ (o : ℕ). one (not (eqb (superblock_at s k).owner o))) e ∙ no_difference (superblock_at s k).owner in
          let z : differs r t k ≡ differs s t k = ap (λ (o : ℕ). one (not (eqb o (superblock_at t k).owner))) e in
          omega arith
      go (inr x) (inr w) = absurd (not_twice k x.0 w)

  transfers_next : Transfers touched s t (n + m)
  unfolding owners_changed
  transfers_next =
      record {
        setup = from.setup ∙ before.setup;
        names = from.names ∙ before.names;
        each = next_each;
        changed = sum_cong (differs s t) (λ k. differs s r k + differs r t k) 64 differs_once ∙ sum_add (differs s r) (differs r t) 64
            ∙ ap₂ ◌+◌ before.changed changed;
        owned = λ d. from.owned d ∙ before.owned d;
        live = λ d. from.live d ∙ before.live d;
      }

-- ---- the pairs one after another: those that are done have no frees left to follow up
pub record PairsRestored (touched : ℕ → ℕ → Bool) (freed : ℕ → ℕ → ℕ) (s : State) (order : List ℕ) (Done : ℕ → ℕ → Type 0) (bound : ℕ)
    (m : Moved) : Type 0 where
  pub left : ℕ → ℕ → ℕ
  pub transfers : Transfers touched s m.state m.moves
  pub shape : Shape m.state
  pub passed : PassedAfterFrees left m.state order
  pub left_le : (i d : ℕ) → left i d ≤ freed i d
  pub none_left : (i d : ℕ) → Done i d → left i d ≡ 0
  pub moves_bound : m.moves ≤ s.setup.q * bound

module _ (touched : ℕ → ℕ → Bool) (freed : ℕ → ℕ → ℕ) (s : State) (order : List ℕ) where
  pairs_weakened : (Done Fewer : ℕ → ℕ → Type 0) (b x : ℕ) (m : Moved) → ((i d : ℕ) → Fewer i d → Done i d) → b ≡ x
      → PairsRestored touched freed s order Done b m → PairsRestored touched freed s order Fewer x m
  pairs_weakened Done Fewer b x m f e r =
      record {
        left = r.left;
        transfers = r.transfers;
        shape = r.shape;
        passed = r.passed;
        left_le = r.left_le;
        none_left = λ i d w. r.none_left i d (f i d w);
        moves_bound = subst (λ (y : ℕ). m.moves ≤ s.setup.q * y) e r.moves_bound;
      }

  -- one pair more
  module _ (Done : ℕ → ℕ → Type 0) (b : ℕ) (m : Moved) (h c : ℕ) (pos : 0 < h) (high : h ≤ s.setup.processors) (known : c < class_count)
      (r : PairsRestored touched freed s order Done b m) where
    abbrev WithPair : ℕ → ℕ → Type 0
    WithPair i d = Done i d ⊎ ((i ≡ h) × (d ≡ c))

    in_range : h ≤ m.state.setup.processors
    in_range = subst (λ (u : Setup). h ≤ u.processors) (sym r.transfers.setup) high

    low : h < run_owner
    low = let p = r.passed.sound.numbers.processors_high in let l = in_range in omega arith

    facts : InvariantRestored h c (r.left h c) m.state (invariant_restored h c m.state)
    facts = restored_facts r.left m.state order r.shape r.passed h c in_range known

    moves_within : m.moves + (invariant_restored h c m.state).moves ≤ s.setup.q * (b + freed h c)
    moves_within =
        let few : (invariant_restored h c m.state).moves ≤ s.setup.q * r.left h c =
        subst (λ (u : Setup). (invariant_restored h c m.state).moves ≤ u.q * r.left h c) r.transfers.setup facts.moves_bound in
        let more = mul-le-mul_left s.setup.q (r.left_le h c) in
        let split = mul-add s.setup.q b (freed h c) in
        omega (arith, r.moves_bound)

    touched_pair_restored : T (touched h c) → PairsRestored touched freed s order WithPair (b + freed h c) (then_restored h c m)
    unfolding then_restored
    touched_pair_restored touches =
        record {
          left = none_freed h c r.left;
          transfers = transfers_next touched s m.state (invariant_restored h c m.state).state m.moves (invariant_restored h c m.state).moves h
              c r.transfers facts.from pos low touches facts.changed;
          shape = restored_shape r.left m.state order r.shape r.passed h c in_range known;
          passed = restored_passed r.left m.state order r.shape r.passed h c in_range known;
          left_le = λ i d. le_trans (none_freed_le h c r.left i d) (r.left_le i d);
          none_left = λ i d w. ⊎_elim (λ x. let z = none_freed_le h c r.left i d in let y = r.none_left i d x in omega arith)
              (λ x. rw (x.0, x.1) (none_freed_of_pair h c r.left)) w;
          moves_bound = moves_within;
        }

    -- a pair with no frees needs none
    untouched_pair_restored : freed h c ≡ 0 → PairsRestored touched freed s order WithPair (b + freed h c) m
    untouched_pair_restored none =
        record {
          left = r.left;
          transfers = r.transfers;
          shape = r.shape;
          passed = r.passed;
          left_le = r.left_le;
          none_left = λ i d w. ⊎_elim (λ x. r.none_left i d x) (λ x. rw (x.0, x.1) (let l = r.left_le h c in omega arith)) w;
          moves_bound = let l = r.moves_bound in subst (λ (y : ℕ). m.moves ≤ s.setup.q * y) (let z : b ≡ b + freed h c = omega arith in z) l;
        }

    pair_restored : (touched h c ≡ false → freed h c ≡ 0) → PairsRestored touched freed s order WithPair (b + freed h c)
        (pick (touched h c) (then_restored h c m) m)
    pair_restored untouched = go (touched h c) refl
      where
        go : (t : Bool) → touched h c ≡ t → PairsRestored touched freed s order WithPair (b + freed h c) (pick t (then_restored h c m) m)
        go true e = touched_pair_restored (T_of_true (touched h c) e)
        go false e = untouched_pair_restored (untouched e)

  module _ (untouched : (h c : ℕ) → touched h c ≡ false → freed h c ≡ 0) where
    -- the classes of a heap
    classes_restored_lem : (Done : ℕ → ℕ → Type 0) (b : ℕ) (m : Moved) (h : ℕ) → 0 < h → h ≤ s.setup.processors → (c : ℕ) → c ≤ class_count
        → PairsRestored touched freed s order Done b m
        → PairsRestored touched freed s order (λ i d. Done i d ⊎ ((i ≡ h) × (d < c))) (b + sum_below (freed h) c) (classes_restored touched h c m)
    unfolding classes_restored sum_below
    classes_restored_lem Done b m h pos high zero few r =
        pairs_weakened Done (λ i d. Done i d ⊎ ((i ≡ h) × (d < 0))) b (b + 0) m
        (λ i d w. ⊎_elim (λ x. x) (λ x. absurd (let z : ⊥ = omega (arith, x.1) in z)) w) (omega arith) r
    classes_restored_lem Done b m h pos high (suc c) few r =
        pairs_weakened (λ i d. (Done i d ⊎ ((i ≡ h) × (d < c))) ⊎ ((i ≡ h) × (d ≡ c))) (λ i d. Done i d ⊎ ((i ≡ h) × (d < suc c)))
        (b + sum_below (freed h) c + freed h c) (b + (sum_below (freed h) c + freed h c)) _
        (λ i d w. ⊎_elim (λ x. inl (inl x)) (λ x. last i d x.0 x.1 (dec_lt d c)) w) (omega arith)
        (pair_restored (λ i d. Done i d ⊎ ((i ≡ h) × (d < c))) (b + sum_below (freed h) c) (classes_restored touched h c m) h c pos high (omega arith)
        (classes_restored_lem Done b m h pos high c (omega arith) r) (untouched h c))
      where
        last : (i d : ℕ) → i ≡ h → d < suc c → Dec (d < c) → (Done i d ⊎ ((i ≡ h) × (d < c))) ⊎ ((i ≡ h) × (d ≡ c))
        last i d e l (yes x) = inl (inr (e, x))
        last i d e l (no f) = inr (e, omega arith)

    -- the heaps
    abbrev Below : ℕ → ℕ → ℕ → Type 0
    Below n i d = (1 ≤ i) × (i ≤ n) × (d < class_count)

    heaps_restored_lem : (m : Moved) (n : ℕ) → n ≤ s.setup.processors → PairsRestored touched freed s order (Below 0) 0 m
        → PairsRestored touched freed s order (Below n) (sum_below (λ i. sum_below (freed (suc i)) class_count) n) (heaps_restored touched n m)
    unfolding heaps_restored sum_below
    heaps_restored_lem m zero few r = r
    heaps_restored_lem m (suc n) few r =
        pairs_weakened (λ i d. Below n i d ⊎ ((i ≡ suc n) × (d < class_count))) (Below (suc n)) _ _ _ (λ i d w. last i d w (dec_lt i (suc n))) refl
        (classes_restored_lem (Below n) (sum_below (λ i. sum_below (freed (suc i)) class_count) n) (heaps_restored touched n m) (suc n)
        (omega arith) few class_count (le_refl class_count) (heaps_restored_lem m n (omega arith) r))
      where
        last : (i d : ℕ) → Below (suc n) i d → Dec (i < suc n) → Below n i d ⊎ ((i ≡ suc n) × (d < class_count))
        last i d w (yes x) = inl (w.0, omega arith, w.2)
        last i d w (no f) = inr (let l = w.1 in omega arith, w.2)

    -- all of them, from a state that passed before these frees: what is left passes
    pub all_pairs_restored : Shape s → PassedAfterFrees freed s order → PairsRestored touched freed s order (Below s.setup.processors)
        (sum_below (λ i. sum_below (freed (suc i)) class_count) s.setup.processors)
        (heaps_restored touched s.setup.processors (record { moves = 0; state = s }))
    all_pairs_restored shape passed =
        heaps_restored_lem (record { moves = 0; state = s }) s.setup.processors (le_refl s.setup.processors)
        (record {
          left = freed;
          transfers = transfers_self touched s;
          shape = shape;
          passed = passed;
          left_le = λ i d. le_refl (freed i d);
          none_left = λ i d w. absurd (let z : ⊥ = omega (arith, w.0, w.1) in z);
          moves_bound = zero-le;
        })
