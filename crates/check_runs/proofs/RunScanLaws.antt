-- The runs of a table met superblock by superblock, as the code goes: what the superblocks left say of all of them. Assumes nothing.
use mathlib.Core.Path.{◌≡◌, refl, sym, ap, ◌∙◌}
use mathlib.Core.Bool.{true, false}
use mathlib.Core.List.{List, [], ◌∷◌}
use Prim.Native.Nat.{ℕ, zero, suc, ◌+◌, ◌-◌, ◌≤◌, ◌<◌}
use native.Mathlib.Numerals.{add-one}
use native.Mathlib.Omega.{arith}
use borrow.Author.Tests.{eq-eqb, ne_eqb, le-leb, lt-leb}
use lib.Dec.{eqb}
use lib.ListN.{length, get_or, drop, drop_of_length-le}
use lib.Seq.{drop-cons}
use Rattle.base_laws.specs.Sums.{pick, both}
use Rattle.base_laws.proofs.TestLaws.{both_false_right}
use Rattle.heap_rules.specs.declared.Superblock.{Superblock}
use Rattle.heap_rules.specs.Table.{run_owner, blank, is_of_run}
use Rattle.check_rules.specs.Check.{within, runs_whole}

-- what the superblocks from k on say, with so many of a run still to come, is what the whole table says
abbrev pub Scanned : List Superblock → ℕ → ℕ → Type 0
Scanned table left k = runs_whole 0 table ≡ runs_whole left (drop k table)

pub scan_start : (table : List Superblock) → Scanned table 0 0
scan_start table = refl

-- ---- one superblock and those behind it
runs_whole_in_run : (left : ℕ) (b : Superblock) (rest : List Superblock) → 0 < left → runs_whole left (b ∷ rest) ≡ both (is_of_run b)
    (both (eqb b.run 0) (runs_whole (left - 1) rest))
unfolding runs_whole
runs_whole_in_run zero b rest l = absurd (let z : ⊥ = omega arith in z)
runs_whole_in_run (suc left) b rest l = let e : left ≡ suc left - 1 = omega arith in
    ap (λ (n : ℕ). both (is_of_run b) (both (eqb b.run 0) (runs_whole n rest))) e

runs_whole_outside_run : (left : ℕ) (b : Superblock) (rest : List Superblock) → left ≤ 0
    → runs_whole left (b ∷ rest) ≡ pick (is_of_run b) (both (within 1 16 b.run) (runs_whole (b.run - 1) rest)) (both (eqb b.run 0) (runs_whole 0 rest))
unfolding runs_whole
runs_whole_outside_run zero b rest l = refl
runs_whole_outside_run (suc left) b rest l = absurd (let z : ⊥ = omega arith in z)

is_of_run_true : (b : Superblock) → b.owner ≡ run_owner → is_of_run b ≡ true
unfolding is_of_run
is_of_run_true b e = eq-eqb b.owner run_owner e

is_of_run_false : (b : Superblock) → (b.owner ≡ run_owner → ⊥) → is_of_run b ≡ false
unfolding is_of_run
is_of_run_false b f = ne_eqb b.owner run_owner f

length_is_0 : (b : Superblock) → b.run ≤ 0 → eqb b.run 0 ≡ true
length_is_0 b h = eq-eqb b.run 0 (omega arith)

length_is_not_0 : (b : Superblock) → 0 < b.run → eqb b.run 0 ≡ false
length_is_not_0 b h = ne_eqb b.run 0 (λ (e : b.run ≡ 0). omega arith)

-- ---- superblock k
module _ (table : List Superblock) (left k : ℕ) (long : length table ≡ 64) (low : k < 64) (t : Scanned table left k) where
  abbrev this : Superblock
  this = get_or table k blank

  -- what it says with those behind it
  all : runs_whole 0 table ≡ runs_whole left (this ∷ drop (k + 1) table)
  all = t ∙ ap (runs_whole left) (drop-cons table k blank (omega arith) ∙ rw (add-one k))

  -- one of a run is still to come
  module _ (more : 0 < left) where
    pub false_of_broken_run : (this.owner ≡ run_owner → ⊥) → false ≡ runs_whole 0 table
    false_of_broken_run f = sym (all ∙ runs_whole_in_run left this _ more ∙ rw (is_of_run_false this f))

    pub false_of_length_in_run : 0 < this.run → false ≡ runs_whole 0 table
    false_of_length_in_run h = sym (all ∙ runs_whole_in_run left this _ more ∙ rw (length_is_not_0 this h, both_false_right))

    pub step_in_run : (left' : ℕ) → this.owner ≡ run_owner → this.run ≤ 0 → left' ≡ left - 1 → Scanned table left' (k + 1)
    step_in_run left' o z e = all ∙ runs_whole_in_run left this _ more ∙ rw (is_of_run_true this o, length_is_0 this z, e)

  -- none is
  module _ (none : left ≤ 0) where
    pub false_of_no_length : this.owner ≡ run_owner → this.run < 1 → false ≡ runs_whole 0 table
    false_of_no_length o z = sym (all ∙ runs_whole_outside_run left this _ none ∙ rw (is_of_run_true this o, lt-leb 1 this.run z))

    pub false_of_above_16 : this.owner ≡ run_owner → 16 < this.run → false ≡ runs_whole 0 table
    false_of_above_16 o h = sym (all ∙ runs_whole_outside_run left this _ none ∙ rw (is_of_run_true this o, lt-leb this.run 16 h, both_false_right))

    pub step_first_of_run : (left' : ℕ) → this.owner ≡ run_owner → 1 ≤ this.run → this.run ≤ 16 → left' ≡ this.run - 1 → Scanned table left' (k + 1)
    step_first_of_run left' o l h e = all ∙ runs_whole_outside_run left this _ none
        ∙ rw (is_of_run_true this o, le-leb 1 this.run l, le-leb this.run 16 h, e)

    pub false_of_length_outside : (this.owner ≡ run_owner → ⊥) → 0 < this.run → false ≡ runs_whole 0 table
    false_of_length_outside o h = sym (all ∙ runs_whole_outside_run left this _ none ∙ rw (is_of_run_false this o, length_is_not_0 this h))

    pub step_outside : (left' : ℕ) → (this.owner ≡ run_owner → ⊥) → this.run ≤ 0 → left' ≡ left → Scanned table left' (k + 1)
    step_outside left' o z e = all ∙ runs_whole_outside_run left this _ none
        ∙ rw (is_of_run_false this o, length_is_0 this z, e, (let q : left ≡ 0 = omega arith in q))

-- at the table's end no superblock of a run may be still to come
pub scan_end : (table : List Superblock) (left k : ℕ) → length table ≡ 64 → 64 ≤ k → Scanned table left k → eqb left 0 ≡ runs_whole 0 table
unfolding runs_whole
scan_end table left k long h t = sym (t ∙ ap (runs_whole left) (drop_of_length-le table {i = k} (omega arith)) ∙ go left)
  where
    go : (n : ℕ) → runs_whole n [] ≡ eqb n 0
    go zero = refl
    go (suc n) = sym (ne_eqb (suc n) 0 (λ (e : suc n ≡ 0). omega arith))
