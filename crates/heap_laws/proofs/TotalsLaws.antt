-- The totals that a state keeps, and the recount. Assumes nothing.
use mathlib.Core.Path.{◌≡◌, refl, sym, ap, ap₂, ◌∙◌}
use mathlib.Core.Bool.{Bool, true, false}
use mathlib.Core.Logic.{◌⊎◌, inl, inr, ⊎_elim}
use mathlib.Core.List.{List}
use Prim.Native.Nat.{ℕ, zero, suc, ◌+◌, ◌*◌, ◌/◌, ◌%◌, ◌≤◌, ◌<◌}
use native.Mathlib.Nat.{le_refl, suc-mul}
use native.Mathlib.Omega.{arith}
use lib.ListN.{length, get_or, replicate, length-replicate, get_or-replicate}
use lib.Seq.{ext_get_or}
use lib.Dec.{T, ltb, ltb→lt}
use borrow.Author.Tests.{lt-ltb}
use Rattle.base_laws.specs.Sums.{pick, one, sum_below}
use Rattle.base_laws.specs.Lists.{increased, same_numbers}
use Rattle.class_rules.specs.Classes.{class_count}
use Rattle.base_laws.proofs.TestLaws.{T_of_true, false_of_not_T, not_T_of_false, both_left, both_right, both_make}
use Rattle.base_laws.proofs.SumLaws.{sum_cong, sum_of_zeros}
use Rattle.base_laws.proofs.NumberLists.{increased_at, increased_elsewhere, increased_at_most, length_increased, equal_of_same_numbers, same_numbers_refl}
use Rattle.marks_laws.proofs.MarkLaws.{live_count_le_256}
use Rattle.heap_rules.specs.declared.Superblock.{Superblock}
use Rattle.heap_rules.specs.declared.Setup.{Setup}
use Rattle.heap_rules.specs.declared.Totals.{Totals}
use Rattle.heap_rules.specs.declared.State.{State}
use Rattle.heap_rules.specs.Table.{blank, superblock_at, live_in}
use Rattle.heap_rules.specs.Counts.{total, belongs, one_if_belongs, live_if_belongs, superblocks_of, live_of}
use Rattle.heap_rules.specs.Totals.{heap_count, total_count, total_index, superblocks_kept, live_kept, is_counted, with_counted, counted_below, recounted}
use Rattle.heap_rules.specs.Totals.{TotalsKept}
use Rattle.heap_rules.specs.States.{with_superblock, new_state}
use Rattle.check_rules.specs.Check.{same_totals, totals_valid}
use Rattle.heap_laws.proofs.StateFacts.{Unowned, Owned, Sound}
use Rattle.heap_laws.proofs.CountLaws.{belongs_true, owner_and_class_of_belongs, superblocks_zero_of_none_belongs}

-- ---- one superblock counted
pub counted_heap_and_class : (b : Superblock) → is_counted b ≡ true → (b.owner < heap_count) × (b.class < class_count)
unfolding is_counted
counted_heap_and_class b e =
    let t = T_of_true _ e in (
      ltb→lt b.owner heap_count (both_left (ltb b.owner heap_count) _ t),
      ltb→lt b.class class_count
          (both_right (ltb b.owner heap_count) (ltb b.class class_count) t),
    )

-- one that belongs to a heap and class of which totals are kept is counted
pub counted_of_heap_and_class : (b : Superblock) → b.owner < heap_count → b.class < class_count → is_counted b ≡ true
unfolding is_counted
counted_of_heap_and_class b h c = simp (lt-ltb b.owner heap_count h, lt-ltb b.class class_count c)

pub length_with_counted : (f : Superblock → ℕ) (b : Superblock) (l : List ℕ) → length (with_counted f b l) ≡ length l
unfolding with_counted
length_with_counted f b l = go (is_counted b)
  where
    go : (t : Bool) → length (pick t (increased (total_index b.owner b.class) (f b) l) l) ≡ length l
    go true = length_increased (total_index b.owner b.class) (f b) l
    go false = refl

-- what it adds to the total of heap h and class c: its number where it belongs to them
pub with_counted_at : (f : Superblock → ℕ) (b : Superblock) (l : List ℕ) (h c : ℕ) → length l ≡ total_count → h < heap_count → c < class_count
    → get_or (with_counted f b l) (total_index h c) 0 ≡ get_or l (total_index h c) 0 + pick (belongs h c b) (f b) 0
unfolding with_counted
with_counted_at f b l h c long lh lc = go (is_counted b) refl (belongs h c b) refl
  where
    x : ℕ
    x = total_index b.owner b.class

    go : (t : Bool) → is_counted b ≡ t → (u : Bool) → belongs h c b ≡ u → get_or (pick t (increased x (f b) l) l) (total_index h c) 0
        ≡ get_or l (total_index h c) 0 + pick u (f b) 0
    go true e true g =
        let o = owner_and_class_of_belongs h c b (T_of_true _ g) in
        let at : total_index h c ≡ x = omega (arith, o.0, o.1) in
        ap (λ (i : ℕ). get_or (increased x (f b) l) i 0) at ∙ increased_at x (f b) l (omega (arith, o.0, o.1)) ∙ ap (λ (i : ℕ). get_or l i 0 + f b) (sym at)
    go true e false g =
        let w = counted_heap_and_class b e in
        let other : total_index h c ≡ x → ⊥ = λ q. not_T_of_false _ g (T_of_true _ (belongs_true h c b (omega (arith, w.1)) (omega (arith, w.1)))) in
        let r = increased_elsewhere x (f b) l (total_index h c) other in
        omega (arith, r)
    go false e true g =
        let o = owner_and_class_of_belongs h c b (T_of_true _ g) in
        absurd (not_T_of_false _ e (T_of_true _ (counted_of_heap_and_class b (omega (arith, o.0)) (omega (arith, o.1)))))
    go false e false g = omega arith

-- ---- the superblocks below k
pub length_counted_below : (f : Superblock → ℕ) (table : List Superblock) (k : ℕ) → length (counted_below f table k) ≡ total_count
unfolding counted_below
length_counted_below f table zero = length-replicate {A = ℕ} total_count 0
length_counted_below f table (suc k) = length_with_counted f (get_or table k blank) (counted_below f table k) ∙ length_counted_below f table k

-- each total is the sum over the superblocks that belong to its heap and class
pub counted_below_is_sum : (f : Superblock → ℕ) (table : List Superblock) (k h c : ℕ) → h < heap_count → c < class_count
    → get_or (counted_below f table k) (total_index h c) 0 ≡ sum_below (λ i. pick (belongs h c (get_or table i blank)) (f (get_or table i blank)) 0) k
unfolding counted_below sum_below
counted_below_is_sum f table zero h c lh lc = get_or-replicate total_count (total_index h c) 0 0 (omega arith)
counted_below_is_sum f table (suc k) h c lh lc =
    with_counted_at f (get_or table k blank) (counted_below f table k) h c (length_counted_below f table k) lh lc
    ∙ ap (λ (m : ℕ). m + pick (belongs h c (get_or table k blank)) (f (get_or table k blank)) 0) (counted_below_is_sum f table k h c lh lc)

one_is_pick : (t : Bool) → pick t 1 0 ≡ one t
one_is_pick true = refl
one_is_pick false = refl

-- ---- the recount of a table is the counts that the rules speak of
module _ (s : State) (h c : ℕ) (lh : h < heap_count) (lc : c < class_count) where
  pub recounted_superblocks : get_or (recounted s.table).superblocks (total_index h c) 0 ≡ superblocks_of h c s
  unfolding recounted superblocks_of total one_if_belongs
  recounted_superblocks =
      counted_below_is_sum (λ b. 1) s.table 64 h c lh lc
      ∙ sum_cong (λ i. pick (belongs h c (superblock_at s i)) 1 0) (λ i. one (belongs h c (superblock_at s i))) 64
      (λ i l. one_is_pick (belongs h c (superblock_at s i)))

  pub recounted_live : get_or (recounted s.table).live (total_index h c) 0 ≡ live_of h c s
  unfolding recounted live_of total live_if_belongs
  recounted_live = counted_below_is_sum live_in s.table 64 h c lh lc

  -- "equal to the recount": where the totals are kept, those of a heap and class are its superblocks and their live blocks
  pub superblocks_kept_are_counted : TotalsKept s → superblocks_kept h c s ≡ superblocks_of h c s
  unfolding superblocks_kept
  superblocks_kept_are_counted k = ap (λ (t : Totals). get_or t.superblocks (total_index h c) 0) k ∙ recounted_superblocks

  pub live_kept_is_counted : TotalsKept s → live_kept h c s ≡ live_of h c s
  unfolding live_kept
  live_kept_is_counted k = ap (λ (t : Totals). get_or t.live (total_index h c) 0) k ∙ recounted_live

-- two lists of totals are equal where those of each heap and class are
pub totals_equal_of_each : (l m : List ℕ) → length l ≡ total_count → length m ≡ total_count
    → ((h c : ℕ) → h < heap_count → c < class_count → get_or l (total_index h c) 0 ≡ get_or m (total_index h c) 0) → l ≡ m
totals_equal_of_each l m a b each = ext_get_or 0 l m (a ∙ sym b) (λ x lx. let i : total_index (x / class_count) (x % class_count) ≡ x = omega arith in
    rw i at (each (x / class_count) (x % class_count) (omega arith) (omega arith)))

-- ---- the clause of the check
pub totals_kept_of_valid : (s : State) → T (totals_valid s) → TotalsKept s
unfolding totals_valid same_totals
totals_kept_of_valid s t =
    ap₂ (λ (a b : List ℕ). record { superblocks = a; live = b })
    (equal_of_same_numbers _ _ (both_left (same_numbers s.totals.superblocks (recounted s.table).superblocks) _ t))
    (equal_of_same_numbers _ _ (both_right (same_numbers s.totals.superblocks (recounted s.table).superblocks) _ t))

pub totals_valid_of_kept : (s : State) → TotalsKept s → T (totals_valid s)
unfolding totals_valid same_totals
totals_valid_of_kept s k =
    rw k (both_make (same_numbers (recounted s.table).superblocks (recounted s.table).superblocks) _ (same_numbers_refl _) (same_numbers_refl _))

-- ---- how a state is made and changed
pub totals_kept_with_superblock : (s : State) (k : ℕ) (b : Superblock) → TotalsKept (with_superblock s k b)
totals_kept_with_superblock s k b = refl

pub new_state_totals_kept : (u : Setup) → TotalsKept (new_state u)
unfolding recounted counted_below with_counted is_counted
new_state_totals_kept u = refl

-- ---- their size
zero_in_zeros : (n x : ℕ) → get_or {A = ℕ} (replicate n 0) x 0 ≡ 0
zero_in_zeros zero x = refl
zero_in_zeros (suc n) zero = refl
zero_in_zeros (suc n) (suc x) = zero_in_zeros n x

with_counted_at_most : (f : Superblock → ℕ) (b : Superblock) (l : List ℕ) (m w : ℕ) → length l ≡ total_count → f b ≤ w → ((y : ℕ) → get_or l y 0 ≤ m)
    → (x : ℕ) → get_or (with_counted f b l) x 0 ≤ m + w
unfolding with_counted
with_counted_at_most f b l m w long few below x = go (is_counted b) refl
  where
    at : ℕ
    at = total_index b.owner b.class

    go : (t : Bool) → is_counted b ≡ t → get_or (pick t (increased at (f b) l) l) x 0 ≤ m + w
    go true e = let i = counted_heap_and_class b e in increased_at_most at (f b) m w l (omega (arith, i.0, i.1)) few below x
    go false e = omega (arith, below x)

-- where a superblock adds at most w, the total of k of them is at most k × w
pub counted_below_at_most : (f : Superblock → ℕ) (w : ℕ) (table : List Superblock) (k : ℕ) → ((b : Superblock) → f b ≤ w) → (x : ℕ)
    → get_or (counted_below f table k) x 0 ≤ k * w
unfolding counted_below
counted_below_at_most f w table zero few x = omega (arith, zero_in_zeros total_count x)
counted_below_at_most f w table (suc k) few x =
    let r = with_counted_at_most f (get_or table k blank) (counted_below f table k) (k * w) w (length_counted_below f table k) (few (get_or table k blank))
    (counted_below_at_most f w table k few) x in
    omega (arith, suc-mul k w)

pub recounted_superblocks_le_64 : (table : List Superblock) (x : ℕ) → get_or (recounted table).superblocks x 0 ≤ 64
unfolding recounted
recounted_superblocks_le_64 table x = counted_below_at_most (λ b. 1) 1 table 64 (λ b. le_refl 1) x

pub recounted_live_le_16384 : (table : List Superblock) (x : ℕ) → get_or (recounted table).live x 0 ≤ 16384
unfolding recounted
recounted_live_le_16384 table x = counted_below_at_most live_in 256 table 64 (λ b. live_count_le_256 b.live) x

pub length_recounted_superblocks : (table : List Superblock) → length (recounted table).superblocks ≡ total_count
unfolding recounted
length_recounted_superblocks table = length_counted_below (λ b. 1) table 64

pub length_recounted_live : (table : List Superblock) → length (recounted table).live ≡ total_count
unfolding recounted
length_recounted_live table = length_counted_below live_in table 64

-- "heaps above P have 0": no superblock of a state that passes is theirs
module _ (s : State) (order : List ℕ) (sound : Sound s order) (kept : TotalsKept s) (h c : ℕ) (above : s.setup.processors < h) (lh : h < heap_count)
    (lc : c < class_count) where
  none_belongs_above_processors : (k : ℕ) → k < 64 → belongs h c (superblock_at s k) ≡ false
  none_belongs_above_processors k l = false_of_not_T _ (λ t. go (owner_and_class_of_belongs h c (superblock_at s k) t).0 (sound.each k l))
    where
      go : (superblock_at s k).owner ≡ h → Unowned (superblock_at s k) ⊎ Owned s.setup order k (superblock_at s k) → ⊥
      go e (inl u) = ⊎_elim (λ q. omega arith) (λ q. omega arith) u.owner
      go e (inr o) = omega (arith, o.owner)

  pub superblocks_kept_above_processors : superblocks_kept h c s ≡ 0
  superblocks_kept_above_processors =
      superblocks_kept_are_counted s h c lh lc kept ∙ superblocks_zero_of_none_belongs h c s (λ k l t. not_T_of_false _ (none_belongs_above_processors k l) t)

  pub live_kept_above_processors : live_kept h c s ≡ 0
  unfolding live_of total live_if_belongs
  live_kept_above_processors =
      live_kept_is_counted s h c lh lc kept
      ∙ sum_of_zeros (λ k. pick (belongs h c (superblock_at s k)) (live_in (superblock_at s k)) 0) 64
      (λ k l. ap (λ (t : Bool). pick t (live_in (superblock_at s k)) 0) (none_belongs_above_processors k l))
