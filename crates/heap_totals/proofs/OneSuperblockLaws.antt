-- One superblock counted in the totals, or no longer, and the recount of a table in which one superblock is replaced. Assumes nothing.
use mathlib.Core.Path.{◌≡◌, refl, sym, ap, ap₂, ◌∙◌}
use mathlib.Core.Bool.{Bool, true, false}
use mathlib.Core.List.{List}
use Prim.Native.Nat.{ℕ, ◌+◌, ◌-◌, ◌≤◌, ◌<◌}
use native.Mathlib.Nat.{le_refl}
use native.Mathlib.Decide.{ℕ_discrete, dec_lt}
use native.Mathlib.Omega.{arith}
use Rattle.std.proofs.Common.{Some, None}
use lib.ListN.{length, get_or, set, length-set}
use lib.Seq.{get_or-set_same, get_or-set_other, set_out}
use lib.Dec.{ltb}
use Rattle.base_laws.specs.Sums.{pick, both}
use Rattle.class_rules.specs.Classes.{class_count}
use Rattle.base_laws.proofs.TestLaws.{T_of_true, not_T_of_false}
use Rattle.base_laws.proofs.SumLaws.{term_le_sum}
use Rattle.base_laws.proofs.ReplacedElement.{sum_set}
use Rattle.base_laws.proofs.NumberLists.{increased_is_set}
use Rattle.heap_rules.specs.declared.Superblock.{Superblock}
use Rattle.heap_rules.specs.declared.Totals.{Totals}
use Rattle.heap_rules.specs.Table.{blank, live_in}
use Rattle.heap_rules.specs.Counts.{belongs}
use Rattle.heap_rules.specs.Totals.{heap_count, total_count, total_index, is_counted, with_counted, counted_below, recounted}
use Rattle.heap_laws.proofs.CountLaws.{belongs_true, owner_and_class_of_belongs}
use Rattle.heap_laws.proofs.TotalsLaws.{counted_heap_and_class, counted_of_heap_and_class, length_with_counted, with_counted_at, length_counted_below}
use Rattle.heap_laws.proofs.TotalsLaws.{counted_below_is_sum, totals_equal_of_each}
use Rattle.heap_totals.specs.OneSuperblock.{index_of, without_counted, counted_in, counted_out}

-- ---- where a superblock is counted
module _ (b : Superblock) where
  not_counted_of_no_index : None ≡ index_of b.owner b.class → is_counted b ≡ false
  unfolding index_of is_counted
  not_counted_of_no_index at = go (both (ltb b.owner heap_count) (ltb b.class class_count)) at
    where
      go : (t : Bool) → None ≡ pick t (Some (total_index b.owner b.class)) None → t ≡ false
      go true e = absurd (cc)
      go false e = refl

  -- one of no heap or class is not counted
  pub with_counted_of_no_index : (f : Superblock → ℕ) (l : List ℕ) → None ≡ index_of b.owner b.class → l ≡ with_counted f b l
  unfolding with_counted
  with_counted_of_no_index f l past = let e = not_counted_of_no_index past in rw e

  pub counted_in_of_no_index : (t : Totals) → None ≡ index_of b.owner b.class → t ≡ counted_in b t
  unfolding counted_in
  counted_in_of_no_index t past = ap₂ (λ (a d : List ℕ). record { superblocks = a; live = d }) (with_counted_of_no_index (λ y. 1) t.superblocks past)
      (with_counted_of_no_index live_in t.live past)

  pub counted_out_of_no_index : (t : Totals) → None ≡ index_of b.owner b.class → t ≡ counted_out b t
  unfolding counted_out without_counted
  counted_out_of_no_index t past = let e = not_counted_of_no_index past in rw e

  module _ (x : ℕ) (at : Some x ≡ index_of b.owner b.class) where
    counted_of_index : (is_counted b ≡ true) × (x ≡ total_index b.owner b.class)
    unfolding index_of is_counted
    counted_of_index = go (both (ltb b.owner heap_count) (ltb b.class class_count)) at
      where
        go : (t : Bool) → Some x ≡ pick t (Some (total_index b.owner b.class)) None → (t ≡ true) × (x ≡ total_index b.owner b.class)
        go true e = (refl, cc)
        go false e = absurd (cc)

    pub index_lt_total_count : x < total_count
    index_lt_total_count = let w = counted_heap_and_class b counted_of_index.0 in omega (arith, counted_of_index.1)

    -- any other is, at its index
    pub with_counted_of_index : (f : Superblock → ℕ) (l : List ℕ) (n : ℕ) → n ≡ f b → set l x (get_or l x 0 + n) ≡ with_counted f b l
    unfolding with_counted
    with_counted_of_index f l n e =
        let i = counted_of_index in
        rw (i.0, e, sym i.1) (sym (increased_is_set x (f b) l))

    without_counted_of_index : (f : Superblock → ℕ) (l : List ℕ) (n : ℕ) → n ≡ get_or l x 0 - f b → set l x n ≡ without_counted f b l
    unfolding without_counted
    without_counted_of_index f l n e = let i = counted_of_index in rw (i.0, e, sym i.1)

    pub counted_in_of_index : (t : Totals) (n : ℕ) → n ≡ live_in b
        → record { superblocks = set t.superblocks x (get_or t.superblocks x 0 + 1); live = set t.live x (get_or t.live x 0 + n) } ≡ counted_in b t
    unfolding counted_in
    counted_in_of_index t n e =
        ap₂ (λ (a d : List ℕ). record { superblocks = a; live = d }) (with_counted_of_index (λ y. 1) t.superblocks 1 refl)
        (with_counted_of_index live_in t.live n e)

    pub counted_out_of_index : (t : Totals) (m n live : ℕ) → m ≡ get_or t.superblocks x 0 - 1 → live ≡ live_in b → n ≡ get_or t.live x 0 - live
        → record { superblocks = set t.superblocks x m; live = set t.live x n } ≡ counted_out b t
    unfolding counted_out
    counted_out_of_index t m n live e d f =
        ap₂ (λ (a d : List ℕ). record { superblocks = a; live = d }) (without_counted_of_index (λ y. 1) t.superblocks m e)
        (without_counted_of_index live_in t.live n (f ∙ ap (λ (y : ℕ). get_or t.live x 0 - y) d))

-- ---- one superblock no longer counted
length_without_counted : (f : Superblock → ℕ) (b : Superblock) (l : List ℕ) → length (without_counted f b l) ≡ length l
unfolding without_counted
length_without_counted f b l = go (is_counted b)
  where
    go : (t : Bool) → length (pick t (set l (total_index b.owner b.class) (get_or l (total_index b.owner b.class) 0 - f b)) l) ≡ length l
    go true = length-set l _ _
    go false = refl

-- no number is more than it was
without_counted_le : (f : Superblock → ℕ) (b : Superblock) (l : List ℕ) (x : ℕ) → get_or (without_counted f b l) x 0 ≤ get_or l x 0
unfolding without_counted
without_counted_le f b l x = go (is_counted b)
  where
    at : ℕ
    at = total_index b.owner b.class

    less_at : Dec (at < length l) → Dec (x ≡ at) → get_or (set l at (get_or l at 0 - f b)) x 0 ≤ get_or l x 0
    less_at (yes h) (yes e) =
        let r : get_or (set l at (get_or l at 0 - f b)) x 0 ≡ get_or l x 0 - f b = ap (λ (i : ℕ). get_or (set l at (get_or l at 0 - f b)) i 0) e
        ∙ get_or-set_same l at _ 0 h ∙ ap (λ (i : ℕ). get_or l i 0 - f b) (sym e) in
        omega arith
    less_at (no n) (yes e) = let r = ap (λ (m : List ℕ). get_or m x 0) (set_out l at (get_or l at 0 - f b) (omega arith)) in omega (arith, r)
    less_at d (no n) = let r = get_or-set_other l at x (get_or l at 0 - f b) 0 n in omega (arith, r)

    go : (t : Bool) → get_or (pick t (set l at (get_or l at 0 - f b)) l) x 0 ≤ get_or l x 0
    go true = less_at (dec_lt at (length l)) (ℕ_discrete x at)
    go false = le_refl _

pub counted_out_superblocks_le : (b : Superblock) (t : Totals) (x : ℕ) → get_or (counted_out b t).superblocks x 0 ≤ get_or t.superblocks x 0
unfolding counted_out
counted_out_superblocks_le b t x = without_counted_le (λ y. 1) b t.superblocks x

pub counted_out_live_le : (b : Superblock) (t : Totals) (x : ℕ) → get_or (counted_out b t).live x 0 ≤ get_or t.live x 0
unfolding counted_out
counted_out_live_le b t x = without_counted_le live_in b t.live x

without_counted_at : (f : Superblock → ℕ) (b : Superblock) (l : List ℕ) (h c : ℕ) → length l ≡ total_count → h < heap_count → c < class_count
    → get_or (without_counted f b l) (total_index h c) 0 ≡ get_or l (total_index h c) 0 - pick (belongs h c b) (f b) 0
unfolding without_counted
without_counted_at f b l h c long lh lc = go (is_counted b) refl (belongs h c b) refl
  where
    x : ℕ
    x = total_index b.owner b.class

    go : (t : Bool) → is_counted b ≡ t → (u : Bool) → belongs h c b ≡ u → get_or (pick t (set l x (get_or l x 0 - f b)) l) (total_index h c) 0
        ≡ get_or l (total_index h c) 0 - pick u (f b) 0
    go true e true g =
        let o = owner_and_class_of_belongs h c b (T_of_true _ g) in
        let at : total_index h c ≡ x = omega (arith, o.0, o.1) in
        ap (λ (i : ℕ). get_or (set l x (get_or l x 0 - f b)) i 0) at ∙ get_or-set_same l x _ 0 (omega (arith, o.0, o.1))
        ∙ ap (λ (i : ℕ). get_or l i 0 - f b) (sym at)
    go true e false g =
        let w = counted_heap_and_class b e in
        let other : total_index h c ≡ x → ⊥ = λ q. not_T_of_false _ g (T_of_true _ (belongs_true h c b (omega (arith, w.1)) (omega (arith, w.1)))) in
        let r = get_or-set_other l x (total_index h c) (get_or l x 0 - f b) 0 other in
        omega (arith, r)
    go false e true g =
        let o = owner_and_class_of_belongs h c b (T_of_true _ g) in
        absurd (not_T_of_false _ e (T_of_true _ (counted_of_heap_and_class b (omega (arith, o.0)) (omega (arith, o.1)))))
    go false e false g = omega arith

-- ---- a table with superblock k replaced
module _ (f : Superblock → ℕ) (table : List Superblock) (k : ℕ) (b : Superblock) (long : length table ≡ 64) (l : k < 64) where
  counted_below_with_replaced : counted_below f (set table k b) 64 ≡ with_counted f b (without_counted f (get_or table k blank) (counted_below f table 64))
  counted_below_with_replaced =
      totals_equal_of_each _ _ (length_counted_below f (set table k b) 64)
      (length_with_counted f b _ ∙ without_long)
      each
    where
      without_long : length (without_counted f (get_or table k blank) (counted_below f table 64)) ≡ total_count
      without_long = length_without_counted f (get_or table k blank) (counted_below f table 64) ∙ length_counted_below f table 64

      each : (h c : ℕ) → h < heap_count → c < class_count
          → get_or (counted_below f (set table k b) 64) (total_index h c) 0
          ≡ get_or (with_counted f b (without_counted f (get_or table k blank) (counted_below f table 64))) (total_index h c) 0
      each h c lh lc =
          let g : Superblock → ℕ = λ x. pick (belongs h c x) (f x) 0 in
          let now = counted_below_is_sum f (set table k b) 64 h c lh lc in
          let was = counted_below_is_sum f table 64 h c lh lc in
          let moved = sum_set table blank k b g 64 l (omega arith) in
          let part = term_le_sum (λ i. g (get_or table i blank)) 64 k l in
          let out = without_counted_at f (get_or table k blank) (counted_below f table 64) h c (length_counted_below f table 64) lh lc in
          let in' = with_counted_at f b (without_counted f (get_or table k blank) (counted_below f table 64)) h c without_long lh lc in
          omega (arith, now, was, moved, part, out, in')

-- the recount of a table with superblock k replaced: the old one counts no longer, the new one counts
pub recounted_with_replaced : (table : List Superblock) (k : ℕ) (b : Superblock) → length table ≡ 64 → k < 64 → recounted (set table k b)
    ≡ counted_in b (counted_out (get_or table k blank) (recounted table))
unfolding recounted counted_in counted_out
recounted_with_replaced table k b long l =
    ap₂ (λ (a d : List ℕ). record { superblocks = a; live = d }) (counted_below_with_replaced (λ x. 1) table k b long l)
    (counted_below_with_replaced live_in table k b long l)
