-- The move rule: what the moves of one free do. Assumes nothing.
use Rattle.std.specs.Prelude.{Option, Some, None}
use mathlib.Core.Path.{◌≡◌, refl, sym, ap, ◌∙◌, subst}
use mathlib.Core.Bool.{Bool, true, false, not}
use mathlib.Core.Logic.{◌⊎◌, inl, inr}
use Prim.Native.Nat.{ℕ, zero, suc, ◌+◌, ◌-◌, ◌*◌, ◌≤◌, ◌<◌, zero-le}
use native.Mathlib.Nat.{eq-zero-or-pos, mul-add, zero-mul, mul-le-mul_left, mul-le-mul_right, lt_of_mul-lt-mul_left, lt_irrefl}
use native.Mathlib.Decide.{ℕ_discrete, dec_lt}
use native.Mathlib.Omega.{arith}
use borrow.Author.Tests.{eq-eqb, ne_eqb, lt-ltb}
use lib.ListN.{length, length-set}
use lib.Seq.{get_or-set_same, get_or-set_other}
use lib.Dec.{T, eqb, ltb, ltb→lt, lt→ltb}
use Rattle.base_laws.specs.Sums.{pick, both, one}
use Rattle.base_laws.proofs.TestLaws.{both_left, both_right, both_make, T_of_true, not_T_of_false}
use Rattle.base_laws.proofs.Inequalities.{le_of_not_below}
use Rattle.base_laws.proofs.SumLaws.{sum_of_zeros}
use Rattle.base_laws.proofs.ReplacedElement.{sum_set_indexed}
use Rattle.class_rules.specs.Classes.{blocks_of}
use Rattle.heap_rules.specs.declared.Superblock.{Superblock}
use Rattle.heap_rules.specs.declared.Setup.{Setup}
use Rattle.heap_rules.specs.declared.State.{State}
use Rattle.heap_rules.specs.declared.Moved.{Moved}
use Rattle.heap_rules.specs.Table.{run_owner, blank, superblock_at, live_in, is_of_heap, with_owner}
use Rattle.heap_rules.specs.Counts.{total, belongs, is_owned_of_class, one_if_belongs, live_if_belongs, superblocks_of, blocks_in, live_of}
use Rattle.heap_rules.specs.Counts.{superblocks_of_class}
use Rattle.heap_rules.specs.Counts.{live_of_class, owners_changed}
use Rattle.choice_rules.specs.Choice.{emptiest}
use Rattle.move_rules.specs.Moves.{both_conditions, must_move, transferred, found_transferred, transfers_up_to, excess_transferred}
use Rattle.heap_laws.proofs.ChoiceLaws.{best_of_emptiest, emptiest_has_fewest_live, none_belongs_of_emptiest_nothing}
use Rattle.heap_laws.proofs.CountLaws.{total_with_superblock, owner_and_class_of_belongs, belongs_of_owner_and_class, one_if_belongs_is_1}
use Rattle.heap_laws.proofs.CountLaws.{one_if_belongs_other_owner, one_if_belongs_other_class, live_if_belongs_is_live_in}
use Rattle.heap_laws.proofs.CountLaws.{live_if_belongs_other_owner, live_if_belongs_other_class, belongs_of_superblocks_pos, superblocks_of_le_64}
use Rattle.heap_laws.proofs.CountLaws.{live_of_at_least_each}
use Rattle.heap_laws.proofs.StateFacts.{WithinLimits, Sparse, TransferredFrom, InvariantBeforeFrees}
use Rattle.heap_rules.specs.Totals.{TotalsKept}
use Rattle.heap_laws.proofs.TotalsLaws.{totals_kept_with_superblock}

-- the conditions as orders
pub conditions_of_must_move : (h c : ℕ) (s : State) → T (must_move h c s) → (live_of h c s + s.setup.spare * blocks_of c < blocks_in h c s)
    × (s.setup.q * live_of h c s < (s.setup.q - s.setup.p) * blocks_in h c s)
unfolding must_move both_conditions
conditions_of_must_move h c s = go (live_of h c s + s.setup.spare * blocks_of c) (blocks_in h c s) (s.setup.q * live_of h c s)
    ((s.setup.q - s.setup.p) * blocks_in h c s)
  where
    go : (w x y z : ℕ) → T (both (ltb w x) (ltb y z)) → (w < x) × (y < z)
    go w x y z t = (ltb→lt w x (both_left (ltb w x) (ltb y z) t), ltb→lt y z (both_right (ltb w x) (ltb y z) t))

pub must_move_of_conditions : (h c : ℕ) (s : State) → live_of h c s + s.setup.spare * blocks_of c < blocks_in h c s
    → s.setup.q * live_of h c s < (s.setup.q - s.setup.p) * blocks_in h c s → T (must_move h c s)
unfolding must_move both_conditions
must_move_of_conditions h c s = go (live_of h c s + s.setup.spare * blocks_of c) (blocks_in h c s) (s.setup.q * live_of h c s)
    ((s.setup.q - s.setup.p) * blocks_in h c s)
  where
    go : (w x y z : ℕ) → w < x → y < z → T (both (ltb w x) (ltb y z))
    go w x y z a b = both_make (ltb w x) (ltb y z) (lt→ltb w x a) (lt→ltb y z b)

-- where the move rule does not ask for a move, one of its conditions is not met, and the other way round
pub condition_fails_of_not_must_move : (h c : ℕ) (s : State) → (T (must_move h c s) → ⊥) → InvariantBeforeFrees 0 h c s
condition_fails_of_not_must_move h c s f = go (dec_lt (live_of h c s + s.setup.spare * blocks_of c) (blocks_in h c s))
    (dec_lt (s.setup.q * live_of h c s) ((s.setup.q - s.setup.p) * blocks_in h c s))
  where
    same : live_of h c s + 0 ≡ live_of h c s
    same = omega arith

    go : Dec (live_of h c s + s.setup.spare * blocks_of c < blocks_in h c s)
        → Dec (s.setup.q * live_of h c s < (s.setup.q - s.setup.p) * blocks_in h c s) → InvariantBeforeFrees 0 h c s
    go (yes a) (yes b) = absurd (f (must_move_of_conditions h c s a b))
    go (yes a) (no b) = inr (subst (λ (u : ℕ). (s.setup.q - s.setup.p) * blocks_in h c s ≤ s.setup.q * u) (sym same) (le_of_not_below b))
    go (no a) q = inl (omega (arith, le_of_not_below a))

pub not_must_move_of_condition_fails : (h c : ℕ) (s : State) → InvariantBeforeFrees 0 h c s → T (must_move h c s) → ⊥
not_must_move_of_condition_fails h c s fails must = go fails (conditions_of_must_move h c s must)
  where
    same : live_of h c s + 0 ≡ live_of h c s
    same = omega arith

    go : InvariantBeforeFrees 0 h c s → (live_of h c s + s.setup.spare * blocks_of c < blocks_in h c s)
        × (s.setup.q * live_of h c s < (s.setup.q - s.setup.p) * blocks_in h c s) → ⊥
    go (inl l) met = omega (arith, met.0)
    go (inr l) met = omega (arith, met.1, subst (λ (u : ℕ). (s.setup.q - s.setup.p) * blocks_in h c s ≤ s.setup.q * u) same l)

-- who must move has a superblock, and its emptiest is sparse
pub superblocks_pos_of_must_move : (h c : ℕ) (s : State) → T (must_move h c s) → 0 < superblocks_of h c s
unfolding blocks_in
superblocks_pos_of_must_move h c s t = go (conditions_of_must_move h c s t).0 (eq-zero-or-pos (superblocks_of h c s))
  where
    go : live_of h c s + s.setup.spare * blocks_of c < superblocks_of h c s * blocks_of c → (superblocks_of h c s ≡ 0) ⊎ (0 < superblocks_of h c s)
        → 0 < superblocks_of h c s
    go l (inl z) = let e : superblocks_of h c s * blocks_of c ≡ 0 = rw z (zero-mul (blocks_of c)) in omega arith
    go l (inr p) = p

pub emptiest_found_of_must_move : (h c : ℕ) (s : State) → T (must_move h c s) → (k : ℕ) × (emptiest h c s ≡ Some k)
emptiest_found_of_must_move h c s t = go (emptiest h c s) refl (belongs_of_superblocks_pos h c s (superblocks_pos_of_must_move h c s t))
  where
    go : (f : Option ℕ) → emptiest h c s ≡ f → (k : ℕ) × (k < 64) × T (belongs h c (superblock_at s k)) → (k : ℕ) × (emptiest h c s ≡ Some k)
    go (Some k) e w = (k, e)
    go None e w = absurd (none_belongs_of_emptiest_nothing h c s e w.0 w.1 w.2)

pub emptiest_sparse_of_must_move : (h c : ℕ) (s : State) (k : ℕ) → T (must_move h c s) → emptiest h c s ≡ Some k
    → s.setup.q * live_in (superblock_at s k) < (s.setup.q - s.setup.p) * blocks_of c
unfolding blocks_in
emptiest_sparse_of_must_move h c s k t e = go s.setup.q (s.setup.q - s.setup.p) (superblocks_of h c s) (blocks_of c) (live_of h c s)
    (live_in (superblock_at s k)) (conditions_of_must_move h c s t).1
    (live_of_at_least_each h c (live_in (superblock_at s k)) s (λ m l w. emptiest_has_fewest_live h c s k m e l w))
  where
    go : (q d w n u l : ℕ) → q * u < d * (w * n) → w * l ≤ u → q * l < d * n
    go q d w n u l a b = lt_of_mul-lt-mul_left w (let z = mul-le-mul_left q b in omega arith)

-- heap 0 is none of the processors' heaps
zero_not_processor_heap : (i : ℕ) → 0 < i → 0 ≡ i → ⊥
zero_not_processor_heap i p z = lt_irrefl 0 (subst (λ (x : ℕ). 0 < x) (sym z) p)

-- ---- one move: superblock k, the emptiest of heap h and class c, passes to heap 0
module _ (h c : ℕ) (s : State) (k : ℕ) (long : length s.table ≡ 64) (pos : 0 < h) (e : emptiest h c s ≡ Some k) where
  transfer_lt_64 : k < 64
  transfer_lt_64 = (best_of_emptiest h c s k e).below

  transfer_owner_and_class : ((superblock_at s k).owner ≡ h) × ((superblock_at s k).class ≡ c)
  transfer_owner_and_class = owner_and_class_of_belongs h c (superblock_at s k) (best_of_emptiest h c s k e).meets_criterion_lem

  transfer_at_superblock : superblock_at (transferred k s) k ≡ with_owner 0 (superblock_at s k)
  unfolding transferred
  transfer_at_superblock = get_or-set_same s.table k (with_owner 0 (superblock_at s k)) blank (let l = transfer_lt_64 in omega arith)

  transfer_at_others : (j : ℕ) → (j ≡ k → ⊥) → superblock_at (transferred k s) j ≡ superblock_at s j
  unfolding transferred
  transfer_at_others j f = get_or-set_other s.table k j (with_owner 0 (superblock_at s k)) blank f

  transfer_length : length (transferred k s).table ≡ 64
  unfolding transferred
  transfer_length = length-set s.table k (with_owner 0 (superblock_at s k)) ∙ long

  -- every count changes by what the moved superblock adds before and after
  transfer_total : (f : Superblock → ℕ) → total f (transferred k s).table + f (superblock_at s k) ≡ total f s.table + f (with_owner 0 (superblock_at s k))
  unfolding transferred
  transfer_total f = total_with_superblock f s k (with_owner 0 (superblock_at s k)) long transfer_lt_64

  transfer_superblocks : superblocks_of h c (transferred k s) + 1 ≡ superblocks_of h c s
  unfolding superblocks_of
  transfer_superblocks = omega (
    arith,
    transfer_total (one_if_belongs h c),
    one_if_belongs_is_1 h c (superblock_at s k) transfer_owner_and_class.0
        transfer_owner_and_class.1,
    one_if_belongs_other_owner h c (with_owner 0 (superblock_at s k)) (zero_not_processor_heap h pos),
  )

  transfer_live : live_of h c (transferred k s) + live_in (superblock_at s k) ≡ live_of h c s
  unfolding live_of
  transfer_live = omega (
    arith,
    transfer_total (live_if_belongs h c),
    live_if_belongs_is_live_in h c (superblock_at s k) transfer_owner_and_class.0
        transfer_owner_and_class.1,
    live_if_belongs_other_owner h c (with_owner 0 (superblock_at s k)) (zero_not_processor_heap h pos),
  )

  -- another processor heap or class has not lost it
  module _ (i d : ℕ) (p : 0 < i) (f : (i ≡ h) × (d ≡ c) → ⊥) where
    other_pair_counts_zero : (one_if_belongs i d (superblock_at s k) ≡ 0) × (live_if_belongs i d (superblock_at s k) ≡ 0)
    other_pair_counts_zero = go (ℕ_discrete (superblock_at s k).owner i)
      where
        class : (superblock_at s k).owner ≡ i → (superblock_at s k).class ≡ d → ⊥
        class o q = f (sym o ∙ transfer_owner_and_class.0, sym q ∙ transfer_owner_and_class.1)

        go : Dec ((superblock_at s k).owner ≡ i) → (one_if_belongs i d (superblock_at s k) ≡ 0) × (live_if_belongs i d (superblock_at s k) ≡ 0)
        go (yes o) = (one_if_belongs_other_class i d (superblock_at s k) (class o), live_if_belongs_other_class i d (superblock_at s k) (class o))
        go (no o) = (one_if_belongs_other_owner i d (superblock_at s k) o, live_if_belongs_other_owner i d (superblock_at s k) o)

    transfer_superblocks_of_other_pair : superblocks_of i d (transferred k s) ≡ superblocks_of i d s
    unfolding superblocks_of
    transfer_superblocks_of_other_pair =
        omega (
          arith,
          transfer_total (one_if_belongs i d),
          other_pair_counts_zero.0,
          one_if_belongs_other_owner i d (with_owner 0 (superblock_at s k))
              (zero_not_processor_heap i p),
        )

    transfer_live_of_other_pair : live_of i d (transferred k s) ≡ live_of i d s
    unfolding live_of
    transfer_live_of_other_pair =
        omega (
          arith,
          transfer_total (live_if_belongs i d),
          other_pair_counts_zero.1,
          live_if_belongs_other_owner i d (with_owner 0 (superblock_at s k))
              (zero_not_processor_heap i p),
        )

  -- it stays one of its class
  transfer_owned_of_class : h < run_owner → (d : ℕ) → is_owned_of_class d (superblock_at s k) ≡ is_owned_of_class d (with_owner 0 (superblock_at s k))
  unfolding is_owned_of_class is_of_heap
  transfer_owned_of_class l d =
      ap (λ (x : Bool). both x (eqb (superblock_at s k).class d))
      (lt-ltb (superblock_at s k).owner run_owner (subst (λ (x : ℕ). x < run_owner) (sym transfer_owner_and_class.0) l))

  transfer_owned : h < run_owner → (d : ℕ) → superblocks_of_class d (transferred k s) ≡ superblocks_of_class d s
  unfolding superblocks_of_class
  transfer_owned l d = omega (arith, transfer_total (λ b. one (is_owned_of_class d b)), ap one (transfer_owned_of_class l d))

  transfer_live_of_class : h < run_owner → (d : ℕ) → live_of_class d (transferred k s) ≡ live_of_class d s
  unfolding live_of_class
  transfer_live_of_class l d =
      omega (
        arith,
        transfer_total (λ b. pick (is_owned_of_class d b) (live_in b) 0),
        ap (λ (x : Bool). pick x (live_in (superblock_at s k)) 0)
            (transfer_owned_of_class l d),
      )

-- a move takes one superblock from the heap and class: for the loop's end
pub superblocks_after_transfer : (h c : ℕ) (s : State) → length s.table ≡ 64 → 0 < h → T (must_move h c s)
    → superblocks_of h c (found_transferred (emptiest h c s) s) + 1 ≡ superblocks_of h c s
unfolding found_transferred
superblocks_after_transfer h c s long p t = go (emptiest_found_of_must_move h c s t)
  where
    go : (k : ℕ) × (emptiest h c s ≡ Some k) → superblocks_of h c (found_transferred (emptiest h c s) s) + 1 ≡ superblocks_of h c s
    go w = rw w.1 (transfer_superblocks h c s w.0 long p w.1)

-- forms for a loop: no more moves, and one move
pub transfers_up_to_stop : (k h c m : ℕ) (s : State) → must_move h c s ≡ false → transfers_up_to k h c m s ≡ record { moves = m; state = s }
unfolding transfers_up_to
transfers_up_to_stop zero h c m s e = refl
transfers_up_to_stop (suc k) h c m s e = rw e

pub transfers_up_to_step : (k h c m : ℕ) (s : State) → must_move h c s ≡ true → transfers_up_to (suc k) h c m s ≡ transfers_up_to k h c (m + 1)
    (found_transferred (emptiest h c s) s)
unfolding transfers_up_to
transfers_up_to_step k h c m s e = rw e

-- a transfer keeps the table's length
pub length_of_found_transferred : (f : Option ℕ) (s : State) → length (found_transferred f s).table ≡ length s.table
unfolding found_transferred transferred
length_of_found_transferred (Some k) s = length-set s.table k (with_owner 0 (superblock_at s k))
length_of_found_transferred None s = refl

-- a superblock that passes on is replaced, and the totals with it
pub totals_kept_of_found_transferred : (found : Option ℕ) (s : State) → TotalsKept s → TotalsKept (found_transferred found s)
unfolding found_transferred transferred
totals_kept_of_found_transferred (Some k) s kept = totals_kept_with_superblock s k (with_owner 0 (superblock_at s k))
totals_kept_of_found_transferred None s kept = kept

-- ---- several moves: from state s to t, and then one more
-- superblock b of state s has become d: the two cases of TransferredFrom
abbrev KeptOrTransferred : ℕ → ℕ → Setup → Superblock → Superblock → Type 0
KeptOrTransferred h c u b d = (d ≡ b) ⊎ (T (belongs h c b) × Sparse u b × (d ≡ with_owner 0 b))

pub transferred_from_self : (h c : ℕ) (s : State) → length s.table ≡ 64 → TransferredFrom h c s s
transferred_from_self h c s long =
    record {
      setup = refl;
      names = refl;
      totals = λ k. k;
      length_is = long;
      each = λ k l. inl refl;
      others = λ i d p f. (refl, refl);
      owned = λ d. refl;
      live = λ d. refl;
    }

pub owners_changed_self : (s : State) → owners_changed s s ≡ 0
unfolding owners_changed
owners_changed_self s =
    sum_of_zeros (λ k. one (not (eqb (superblock_at s k).owner (superblock_at s k).owner))) 64
    (λ k l. ap (λ (x : Bool). one (not x)) (eq-eqb (superblock_at s k).owner (superblock_at s k).owner refl))

module _ (h c : ℕ) (s t : State) (k : ℕ) (r : TransferredFrom h c s t) (pos : 0 < h) (low : h < run_owner) (must : T (must_move h c t))
    (e : emptiest h c t ≡ Some k) where
  next_owner_and_class : ((superblock_at t k).owner ≡ h) × ((superblock_at t k).class ≡ c)
  next_owner_and_class = transfer_owner_and_class h c t k r.length_is pos e

  -- a superblock that has moved is heap 0's, so the one that moves now is as it was
  next_not_moved_before : superblock_at t k ≡ superblock_at s k
  next_not_moved_before = go (r.each k (transfer_lt_64 h c t k r.length_is pos e))
    where
      go : KeptOrTransferred h c s.setup (superblock_at s k) (superblock_at t k) → superblock_at t k ≡ superblock_at s k
      go (inl q) = q
      go (inr w) = absurd (zero_not_processor_heap h pos (ap (λ (b : Superblock). b.owner) (sym w.2) ∙ next_owner_and_class.0))

  next_owner : (superblock_at s k).owner ≡ h
  next_owner = ap (λ (b : Superblock). b.owner) (sym next_not_moved_before) ∙ next_owner_and_class.0

  next_class : (superblock_at s k).class ≡ c
  next_class = ap (λ (b : Superblock). b.class) (sym next_not_moved_before) ∙ next_owner_and_class.1

  next_live_is_sparse : s.setup.q * live_in (superblock_at t k) < (s.setup.q - s.setup.p) * blocks_of c
  next_live_is_sparse = subst (λ (u : Setup). u.q * live_in (superblock_at t k) < (u.q - u.p) * blocks_of c) r.setup
      (emptiest_sparse_of_must_move h c t k must e)

  next_sparse : Sparse s.setup (superblock_at s k)
  next_sparse = rw (next_class, ← next_not_moved_before) next_live_is_sparse

  next_each : (j : ℕ) → j < 64 → KeptOrTransferred h c s.setup (superblock_at s j) (superblock_at (transferred k t) j)
  next_each j l = go (ℕ_discrete j k)
    where
      go : Dec (j ≡ k) → KeptOrTransferred h c s.setup (superblock_at s j) (superblock_at (transferred k t) j)
      go (yes q) = rw q (inr (
        belongs_of_owner_and_class h c (superblock_at s k) next_owner next_class,
        next_sparse,
        transfer_at_superblock h c t k
            r.length_is pos e ∙ ap (with_owner 0) next_not_moved_before,
      ))
      go (no f) = rw (transfer_at_others h c t k r.length_is pos e j f) (r.each j l)

  next_others : (i d : ℕ) → 0 < i → ((i ≡ h) × (d ≡ c) → ⊥) → (superblocks_of i d (transferred k t) ≡ superblocks_of i d s)
      × (live_of i d (transferred k t) ≡ live_of i d s)
  next_others i d p f = (
    transfer_superblocks_of_other_pair h c t k r.length_is pos e i d p f ∙ (r.others i d p f).0,
    transfer_live_of_other_pair h c t k
        r.length_is pos e i d p f ∙ (r.others i d p f).1,
  )

  next_setup : (transferred k t).setup ≡ s.setup
  unfolding transferred
  next_setup = r.setup

  next_names : (transferred k t).names ≡ s.names
  unfolding transferred
  next_names = r.names

  next_totals : TotalsKept (transferred k t)
  unfolding transferred
  next_totals = totals_kept_with_superblock t k (with_owner 0 (superblock_at t k))

  transferred_from_next : TransferredFrom h c s (transferred k t)
  transferred_from_next =
      record {
        setup = next_setup;
        names = next_names;
        totals = λ k. next_totals;
        length_is = transfer_length h c t k r.length_is pos e;
        each = next_each;
        others = next_others;
        owned = λ d. transfer_owned h c t k r.length_is pos e low d ∙ r.owned d;
        live = λ d. transfer_live_of_class h c t k r.length_is pos e low d ∙ r.live d;
      }

  -- one owner more has changed
  owners_changed_next : owners_changed s (transferred k t) ≡ owners_changed s t + 1
  unfolding owners_changed transferred
  owners_changed_next =
      let f : ℕ → Superblock → ℕ = λ j b. one (not (eqb (superblock_at s j).owner b.owner)) in
      let new : f k (with_owner 0 (superblock_at t k)) ≡ 1 =
      ap (λ (x : Bool). one (not x)) (ne_eqb (superblock_at s k).owner 0 (λ z. zero_not_processor_heap h pos (sym z ∙ next_owner))) in
      let old : f k (superblock_at t k) ≡ 0 =
      ap (λ (x : Bool). one (not x)) (eq-eqb (superblock_at s k).owner (superblock_at t k).owner (next_owner ∙ sym next_owner_and_class.0)) in
      let l = transfer_lt_64 h c t k r.length_is pos e in
      let g = r.length_is in
      omega (arith, sum_set_indexed t.table blank k (with_owner 0 (superblock_at t k)) f 64 l (omega arith))

-- ---- how many moves
-- what holds after m moves: each lowers a by more than u, and (q - p) × a by more than q × u
abbrev MovesBounded : (spare p q n freed a u m : ℕ) → Type 0
MovesBounded spare p q n freed a u m = (a + m ≤ u + freed + spare * n) ⊎ ((q - p) * a + m ≤ q * (u + freed))

-- while the rule is met, one more is allowed
one_more_move_allowed : (spare p q n freed a u m : ℕ) → 1 ≤ q → u + spare * n < a → q * u < (q - p) * a → MovesBounded spare p q n freed a u m
    → m + 1 ≤ q * freed
one_more_move_allowed spare p q n freed a u m pos x y (inl l) = let z : 1 * freed ≤ q * freed = mul-le-mul_right freed pos in omega arith
one_more_move_allowed spare p q n freed a u m pos x y (inr l) = omega arith

-- a move of a sparse superblock with l live keeps it
moves_bounded_after_move : (spare p q n freed a u b v l m : ℕ) → q * l < (q - p) * n → b + n ≡ a → v + l ≡ u → MovesBounded spare p q n freed a u m
    → MovesBounded spare p q n freed b v (m + 1)
moves_bounded_after_move spare p q n freed a u b v l m sparse e f (inl g) =
    let z : (q - p) * n ≤ q * n = mul-le-mul_right n (let y : q - p ≤ q = omega arith in y) in
    let room : l < n = lt_of_mul-lt-mul_left q (let y : q * l < q * n = omega arith in y) in
    inl (omega arith)
moves_bounded_after_move spare p q n freed a u b v l m sparse e f (inr g) =
    let x : (q - p) * a ≡ (q - p) * b + (q - p) * n = ap (λ (y : ℕ). (q - p) * y) (sym e) ∙ mul-add (q - p) b n in
    let y : q * u ≡ q * v + q * l = ap (λ (y : ℕ). q * y) (sym f) ∙ mul-add q v l in
    inr (omega arith)

-- ---- the repetition
-- after m moves of heap h and class c, from s to t
record AfterMoves (h c freed : ℕ) (s : State) (m : ℕ) (t : State) : Type 0 where
  from : TransferredFrom h c s t
  changed : owners_changed s t ≡ m
  bounded : MovesBounded s.setup.spare s.setup.p s.setup.q (blocks_of c) freed (blocks_in h c t) (live_of h c t) m
  moves_bound : m ≤ s.setup.q * freed

-- at the end, the rule is no longer met
record MovesEnded (h c freed : ℕ) (s : State) (r : Moved) : Type 0 where
  after : AfterMoves h c freed s r.moves r.state
  invariant : T (must_move h c r.state) → ⊥

module _ (h c freed : ℕ) (s : State) (numbers : WithinLimits s.setup) (pos : 0 < h) (low : h < run_owner) where
  after_transfer : (m k : ℕ) (t : State) → AfterMoves h c freed s m t → T (must_move h c t) → emptiest h c t ≡ Some k
      → AfterMoves h c freed s (m + 1) (transferred k t)
  unfolding blocks_in
  after_transfer m k t r must e =
      let a = superblocks_of h c t * blocks_of c in
      let b = superblocks_of h c (transferred k t) * blocks_of c in
      let met : (live_of h c t + s.setup.spare * blocks_of c < a) × (s.setup.q * live_of h c t < (s.setup.q - s.setup.p) * a) =
      rw (← r.from.setup) (conditions_of_must_move h c t must) in
      let count : b + blocks_of c ≡ a = omega (arith, ap (λ (x : ℕ). x * blocks_of c) (transfer_superblocks h c t k r.from.length_is pos e)) in
      let live = transfer_live h c t k r.from.length_is pos e in
      let sparse = next_live_is_sparse h c s t k r.from pos low must e in
      record {
        from = transferred_from_next h c s t k r.from pos low must e;
        changed = owners_changed_next h c s t k r.from pos low must e ∙ ap (λ (x : ℕ). x + 1) r.changed;
        bounded =
            moves_bounded_after_move s.setup.spare s.setup.p s.setup.q (blocks_of c) freed a (live_of h c t) b (live_of h c (transferred k t))
            (live_in (superblock_at t k)) m sparse count live r.bounded;
        moves_bound = one_more_move_allowed s.setup.spare s.setup.p s.setup.q (blocks_of c) freed a (live_of h c t) m
            (let l = numbers.q_low in omega arith) met.0 met.1 r.bounded;
      }

  after_one_move : (m : ℕ) (t : State) → AfterMoves h c freed s m t → T (must_move h c t)
      → AfterMoves h c freed s (m + 1) (found_transferred (emptiest h c t) t)
  unfolding found_transferred
  after_one_move m t r must = let w = emptiest_found_of_must_move h c t must in rw w.1 (after_transfer m w.0 t r must w.1)

  -- as many turns as the heap and class has superblocks are enough
  after_all_moves : (k m : ℕ) (t : State) → superblocks_of h c t ≤ k → AfterMoves h c freed s m t → MovesEnded h c freed s (transfers_up_to k h c m t)
  unfolding transfers_up_to
  after_all_moves zero m t l r = record { after = r; invariant = λ must. let p = superblocks_pos_of_must_move h c t must in omega arith }
  after_all_moves (suc k) m t l r =
      go (λ must. after_all_moves k (m + 1) (found_transferred (emptiest h c t) t) (fewer must) (after_one_move m t r must)) (must_move h c t) refl
    where
      fewer : T (must_move h c t) → superblocks_of h c (found_transferred (emptiest h c t) t) ≤ k
      fewer must = let e = superblocks_after_transfer h c t r.from.length_is pos must in omega arith

      go : (T (must_move h c t) → MovesEnded h c freed s (transfers_up_to k h c (m + 1) (found_transferred (emptiest h c t) t))) → (b : Bool)
          → must_move h c t ≡ b
          → MovesEnded h c freed s (pick b (transfers_up_to k h c (m + 1) (found_transferred (emptiest h c t) t)) (record { moves = m; state = t }))
      go next true e = next (T_of_true (must_move h c t) e)
      go next false e = record { after = r; invariant = not_T_of_false (must_move h c t) e }

-- The whole of the moves of heap h and class c, from a state s in which so many of its blocks were freed since the emptiness invariant
-- of heap and class last held: before, u was higher by `freed`, so that a ≤ u + freed + K × n, or (q - p) × a ≤ q × (u + freed).
module _ (h c freed : ℕ) (s : State) (long : length s.table ≡ 64) (numbers : WithinLimits s.setup) (pos : 0 < h) (low : h < run_owner)
    (invariant_before : InvariantBeforeFrees freed h c s) where
  after_no_move : AfterMoves h c freed s 0 s
  after_no_move = record { from = transferred_from_self h c s long; changed = owners_changed_self s; bounded = go invariant_before; moves_bound = zero-le }
    where
      go : InvariantBeforeFrees freed h c s
          → MovesBounded s.setup.spare s.setup.p s.setup.q (blocks_of c) freed (blocks_in h c s) (live_of h c s) 0
      go (inl l) = inl (omega arith)
      go (inr l) = inr (omega arith)

  moves_ended : MovesEnded h c freed s (excess_transferred h c s)
  unfolding excess_transferred
  moves_ended = after_all_moves h c freed s numbers pos low 64 0 s (superblocks_of_le_64 h c s) after_no_move

  pub excess_transferred_from : TransferredFrom h c s (excess_transferred h c s).state
  excess_transferred_from = moves_ended.after.from

  -- at most q moves for each block freed, each of them one owner changed
  pub moves_le_q_times_freed : (excess_transferred h c s).moves ≤ s.setup.q * freed
  moves_le_q_times_freed = moves_ended.after.moves_bound

  pub owners_changed_is_moves : owners_changed s (excess_transferred h c s).state ≡ (excess_transferred h c s).moves
  owners_changed_is_moves = moves_ended.after.changed

  -- the moves go on until the rule is no longer met
  pub not_must_move_after_excess_transferred : T (must_move h c (excess_transferred h c s).state) → ⊥
  not_must_move_after_excess_transferred = moves_ended.invariant
