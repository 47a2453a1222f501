-- Laws of names: what is held after a name is bound or let go, and that the two clauses of their check are kept. Assumes nothing.
use mathlib.Core.Path.{◌≡◌, refl, sym, ap, ◌∙◌, subst}
use mathlib.Core.Bool.{Bool, true, false, not}
use mathlib.Core.Logic.{◌⊎◌, inl, inr, ⊎_elim}
use mathlib.Core.List.{List, [], ◌∷◌}
use Prim.Native.Nat.{ℕ, zero, suc, ◌<◌}
use native.Mathlib.Decide.{ℕ_discrete}
use native.Mathlib.Omega.{arith}
use borrow.Author.Tests.{eq-eqb, ne_eqb, eqb-false}
use lib.ListN.{length, replicate, length-set, length-map, get_or-replicate}
use lib.Seq.{get_or-set_same, get_or-set_other}
use lib.Dec.{T, eqb, ltb, T_not, not_T, eqb→eq, ltb→lt, lt→ltb}
use Rattle.base_laws.specs.Sums.{pick, both, either}
use Rattle.base_laws.proofs.TestLaws.{T_of_true, false_of_not_T, both_left, both_right, both_make, either_left, either_right, either_right_of_left_false}
use Rattle.base_laws.proofs.TestLaws.{pick_true, pick_false}
use Rattle.names_rules.specs.Names.{not_held, is_name, block_named, is_held, no_names, with_name, without_block, each_held, is_named, no_two_at_one}

-- ---- a name is held
pub held_facts : (names : List ℕ) (m : ℕ) → T (is_held names m) → (m < 1024) × (block_named names m ≡ not_held → ⊥)
unfolding is_held is_name
held_facts names m t = (
  ltb→lt m 1024 (both_left (ltb m 1024) _ t),
  λ e. T_not (eqb (block_named names m) not_held) (both_right (ltb m 1024) _ t)
      (T_of_true _ (eq-eqb (block_named names m) not_held e)),
)

pub held_of_facts : (names : List ℕ) (m : ℕ) → m < 1024 → (block_named names m ≡ not_held → ⊥) → T (is_held names m)
unfolding is_held is_name
held_of_facts names m l f =
    both_make (ltb m 1024) _ (lt→ltb m 1024 l) (not_T (eqb (block_named names m) not_held) (λ t. f (eqb→eq (block_named names m) not_held t)))

-- no name of a new setup is held
pub not_held_of_no_names : (m : ℕ) → is_held no_names m ≡ false
unfolding block_named
not_held_of_no_names m = false_of_not_T (is_held no_names m) (λ t. let h = held_facts no_names m t in h.1 (none m h.0))
  where
    none : (m : ℕ) → m < 1024 → block_named no_names m ≡ not_held
    none m l = get_or-replicate 1024 m not_held not_held l

-- ---- a name is bound
pub block_named_with_name : (names : List ℕ) (m b : ℕ) → m < length names → block_named (with_name names m b) m ≡ b
unfolding block_named with_name
block_named_with_name names m b l = get_or-set_same names m b not_held l

pub block_named_with_other_name : (names : List ℕ) (m b l : ℕ) → (l ≡ m → ⊥) → block_named (with_name names m b) l ≡ block_named names l
unfolding block_named with_name
block_named_with_other_name names m b l f = get_or-set_other names m l b not_held f

pub length_with_name : (names : List ℕ) (m b : ℕ) → length (with_name names m b) ≡ length names
unfolding with_name
length_with_name names m b = length-set names m b

-- ---- a block's name is let go
pub block_named_without_block : (names : List ℕ) (b m : ℕ) → block_named (without_block names b) m ≡ pick (eqb (block_named names m) b) not_held
    (block_named names m)
unfolding block_named without_block
block_named_without_block [] b m = same (eqb not_held b)
  where
    same : (t : Bool) → not_held ≡ pick t not_held not_held
    same true = refl
    same false = refl
block_named_without_block (x ∷ names) b zero = refl
block_named_without_block (x ∷ names) b (suc m) = block_named_without_block names b m

pub length_without_block : (names : List ℕ) (b : ℕ) → length (without_block names b) ≡ length names
unfolding without_block
length_without_block names b = length-map names (λ x. pick (eqb x b) not_held x)

-- the name that points at the block is held no more, and every other name as before
pub not_held_without_block : (names : List ℕ) (b m : ℕ) → block_named names m ≡ b → is_held (without_block names b) m ≡ false
not_held_without_block names b m e =
    false_of_not_T (is_held (without_block names b) m)
    (λ t. (held_facts (without_block names b) m t).1 (block_named_without_block names b m ∙ pick_true (eqb (block_named names m) b) not_held
    (block_named names m) (eq-eqb (block_named names m) b e)))

pub block_named_without_other_block : (names : List ℕ) (b m : ℕ) → (block_named names m ≡ b → ⊥) → block_named (without_block names b) m ≡ block_named names m
block_named_without_other_block names b m f = block_named_without_block names b m ∙ pick_false (eqb (block_named names m) b) not_held (block_named names m)
    (ne_eqb (block_named names m) b f)

-- what a name points at decides whether it is held
pub held_cong : (x y : List ℕ) (m : ℕ) → block_named x m ≡ block_named y m → is_held x m ≡ is_held y m
unfolding is_held
held_cong x y m e = ap (λ (b : ℕ). both (is_name m) (not (eqb b not_held))) e

-- ---- "each held name points at a live block"
-- what the test says of one entry
held_or_test : (test : ℕ → Bool) (x : ℕ) (names : List ℕ) → T (each_held test (x ∷ names)) → (x ≡ not_held → ⊥) → T (test x)
unfolding each_held
held_or_test test x names t f = either_right_of_left_false (eqb x not_held) (test x) (both_left (either (eqb x not_held) (test x)) _ t) (ne_eqb x not_held f)

rest_of_each : (test : ℕ → Bool) (x : ℕ) (names : List ℕ) → T (each_held test (x ∷ names)) → T (each_held test names)
unfolding each_held
rest_of_each test x names t = both_right (either (eqb x not_held) (test x)) _ t

each_held_cons : (test : ℕ → Bool) (x : ℕ) (names : List ℕ) → ((x ≡ not_held → ⊥) → T (test x)) → T (each_held test names) → T (each_held test (x ∷ names))
unfolding each_held
each_held_cons test x names h t = both_make (either (eqb x not_held) (test x)) _ (go (ℕ_discrete x not_held)) t
  where
    go : Dec (x ≡ not_held) → T (either (eqb x not_held) (test x))
    go (yes e) = either_left (eqb x not_held) (test x) (T_of_true _ (eq-eqb x not_held e))
    go (no f) = either_right (eqb x not_held) (test x) (h f)

pub test_of_block_named : (test : ℕ → Bool) (names : List ℕ) → T (each_held test names) → (m : ℕ) → (block_named names m ≡ not_held → ⊥)
    → T (test (block_named names m))
unfolding block_named
test_of_block_named test [] t m f = absurd (f refl)
test_of_block_named test (x ∷ names) t zero f = held_or_test test x names t f
test_of_block_named test (x ∷ names) t (suc m) f = test_of_block_named test names (rest_of_each test x names t) m f

-- and the test passes where each block that a name points at does
pub each_held_of_blocks_named : (test : ℕ → Bool) (names : List ℕ) → ((m : ℕ) → (block_named names m ≡ not_held → ⊥) → T (test (block_named names m)))
    → T (each_held test names)
unfolding block_named each_held
each_held_of_blocks_named test [] h = tt
each_held_of_blocks_named test (x ∷ names) h = each_held_cons test x names (h 0) (each_held_of_blocks_named test names (λ m. h (suc m)))

-- a named block is the first name's, or is named behind it
named_cases : (b x : ℕ) (names : List ℕ) → T (is_named b (x ∷ names)) → (x ≡ b) ⊎ T (is_named b names)
unfolding is_named
named_cases b x names n = go (ℕ_discrete x b)
  where
    go : Dec (x ≡ b) → (x ≡ b) ⊎ T (is_named b names)
    go (yes e) = inl e
    go (no f) = inr (either_right_of_left_false (eqb x b) (is_named b names) n (ne_eqb x b f))

named_here : (b x : ℕ) (names : List ℕ) → x ≡ b → T (is_named b (x ∷ names))
unfolding is_named
named_here b x names e = either_left (eqb x b) (is_named b names) (T_of_true _ (eq-eqb x b e))

named_behind : (b x : ℕ) (names : List ℕ) → T (is_named b names) → T (is_named b (x ∷ names))
unfolding is_named
named_behind b x names n = either_right (eqb x b) (is_named b names) n

pub test_of_named : (test : ℕ → Bool) (names : List ℕ) → T (each_held test names) → (b : ℕ) → (b ≡ not_held → ⊥) → T (is_named b names) → T (test b)
unfolding is_named
test_of_named test [] t b f n = absurd n
test_of_named test (x ∷ names) t b f n =
    ⊎_elim
    (λ e. subst (λ (y : ℕ). T (test y)) e (held_or_test test x names t (λ q. f (sym e ∙ q))))
    (λ m. test_of_named test names (rest_of_each test x names t) b f m)
    (named_cases b x names n)

-- it is kept where the test is, where a name is bound to a block that passes, and where a block's name is let go
pub each_held_of_tests : (p q : ℕ → Bool) (names : List ℕ) → ((b : ℕ) → T (p b) → T (q b)) → T (each_held p names) → T (each_held q names)
unfolding each_held
each_held_of_tests p q [] h t = tt
each_held_of_tests p q (x ∷ names) h t = each_held_cons q x names (λ f. h x (held_or_test p x names t f))
    (each_held_of_tests p q names h (rest_of_each p x names t))

pub each_held_with_name : (test : ℕ → Bool) (names : List ℕ) (m b : ℕ) → T (test b) → T (each_held test names) → T (each_held test (with_name names m b))
unfolding with_name
each_held_with_name test [] m b h t = t
each_held_with_name test (x ∷ names) zero b h t = each_held_cons test b names (λ f. h) (rest_of_each test x names t)
each_held_with_name test (x ∷ names) (suc m) b h t = each_held_cons test x (with_name names m b) (held_or_test test x names t)
    (each_held_with_name test names m b h (rest_of_each test x names t))

pub each_held_without_block : (p q : ℕ → Bool) (names : List ℕ) (b : ℕ) → ((x : ℕ) → (x ≡ b → ⊥) → T (p x) → T (q x)) → T (each_held p names)
    → T (each_held q (without_block names b))
unfolding without_block each_held
each_held_without_block p q [] b h t = tt
each_held_without_block p q (x ∷ names) b h t = each_held_cons q (pick (eqb x b) not_held x) (without_block names b) (go (eqb x b) refl)
    (each_held_without_block p q names b h (rest_of_each p x names t))
  where
    go : (w : Bool) → eqb x b ≡ w → (pick w not_held x ≡ not_held → ⊥) → T (q (pick w not_held x))
    go true e f = absurd (f refl)
    go false e f = h x (eqb-false x b e) (held_or_test p x names t f)

-- ---- "no two at one"
not_named_behind : (x : ℕ) (names : List ℕ) → T (no_two_at_one (x ∷ names)) → (x ≡ not_held → ⊥) → T (is_named x names) → ⊥
unfolding no_two_at_one
not_named_behind x names t f =
    T_not (is_named x names) (either_right_of_left_false (eqb x not_held) (not (is_named x names))
    (both_left (either (eqb x not_held) (not (is_named x names))) _ t) (ne_eqb x not_held f))

rest_of_no_two : (x : ℕ) (names : List ℕ) → T (no_two_at_one (x ∷ names)) → T (no_two_at_one names)
unfolding no_two_at_one
rest_of_no_two x names t = both_right (either (eqb x not_held) (not (is_named x names))) _ t

no_two_cons : (x : ℕ) (names : List ℕ) → ((x ≡ not_held → ⊥) → T (is_named x names) → ⊥) → T (no_two_at_one names) → T (no_two_at_one (x ∷ names))
unfolding no_two_at_one
no_two_cons x names h t = both_make (either (eqb x not_held) (not (is_named x names))) _ (go (ℕ_discrete x not_held)) t
  where
    go : Dec (x ≡ not_held) → T (either (eqb x not_held) (not (is_named x names)))
    go (yes e) = either_left (eqb x not_held) _ (T_of_true _ (eq-eqb x not_held e))
    go (no f) = either_right (eqb x not_held) _ (not_T (is_named x names) (h f))

-- a block that a name points at is named
named_of_block_named : (names : List ℕ) (m b : ℕ) → block_named names m ≡ b → (b ≡ not_held → ⊥) → T (is_named b names)
unfolding block_named
named_of_block_named [] m b e f = absurd (f (sym e))
named_of_block_named (x ∷ names) zero b e f = named_here b x names e
named_of_block_named (x ∷ names) (suc m) b e f = named_behind b x names (named_of_block_named names m b e f)

-- two held names that point at one block are one
pub same_name_of_same_block : (names : List ℕ) → T (no_two_at_one names) → (l m : ℕ) → (block_named names l ≡ not_held → ⊥)
    → block_named names l ≡ block_named names m → l ≡ m
unfolding block_named
same_name_of_same_block [] t l m f e = absurd (f refl)
same_name_of_same_block (x ∷ names) t zero zero f e = refl
same_name_of_same_block (x ∷ names) t zero (suc m) f e = absurd (not_named_behind x names t f (named_of_block_named names m x (sym e) f))
same_name_of_same_block (x ∷ names) t (suc l) zero f e =
    absurd (not_named_behind x names t (λ q. f (e ∙ q)) (named_of_block_named names l x e (λ q. f (e ∙ q))))
same_name_of_same_block (x ∷ names) t (suc l) (suc m) f e = ap suc (same_name_of_same_block names (rest_of_no_two x names t) l m f e)

-- a named block is some name's
block_named_of_named : (names : List ℕ) (b : ℕ) → T (is_named b names) → (m : ℕ) × (block_named names m ≡ b)
unfolding block_named is_named
block_named_of_named [] b n = absurd n
block_named_of_named (x ∷ names) b n =
    ⊎_elim (λ e. (0, e)) (λ t. let h = block_named_of_named names b t in (suc h.0, h.1)) (named_cases b x names n)

-- and no two names are at one block where such names are one
pub no_two_of_same_name : (names : List ℕ) → ((l m : ℕ) → (block_named names l ≡ not_held → ⊥) → block_named names l ≡ block_named names m → l ≡ m)
    → T (no_two_at_one names)
unfolding block_named no_two_at_one
no_two_of_same_name [] h = tt
no_two_of_same_name (x ∷ names) h =
    no_two_cons x names (λ f n. let b = block_named_of_named names x n in apart b.0 (h 0 (suc b.0) f (sym b.1)))
    (no_two_of_same_name names (λ l m f e. omega (arith, h (suc l) (suc m) f e)))
  where
    apart : (m : ℕ) → 0 ≡ suc m → ⊥
    apart m e = omega arith

-- a name bound to another block names no further block
named_with_name : (names : List ℕ) (m b x : ℕ) → T (is_named x (with_name names m b)) → (b ≡ x) ⊎ T (is_named x names)
unfolding with_name
named_with_name [] m b x n = inr n
named_with_name (y ∷ names) zero b x n = ⊎_elim (λ e. inl e) (λ t. inr (named_behind x y names t)) (named_cases x b names n)
named_with_name (y ∷ names) (suc m) b x n =
    ⊎_elim
    (λ e. inr (named_here x y names e))
    (λ t. ⊎_elim (λ e. inl e) (λ u. inr (named_behind x y names u)) (named_with_name names m b x t))
    (named_cases x y (with_name names m b) n)

pub no_two_with_name : (names : List ℕ) (m b : ℕ) → (T (is_named b names) → ⊥) → T (no_two_at_one names) → T (no_two_at_one (with_name names m b))
unfolding with_name
no_two_with_name [] m b n t = t
no_two_with_name (x ∷ names) zero b n t = no_two_cons b names (λ f h. n (named_behind b x names h)) (rest_of_no_two x names t)
no_two_with_name (x ∷ names) (suc m) b n t =
    no_two_cons x (with_name names m b)
    (λ f h. ⊎_elim (λ e. n (named_here b x names (sym e))) (λ u. not_named_behind x names t f u) (named_with_name names m b x h))
    (no_two_with_name names m b (λ h. n (named_behind b x names h)) (rest_of_no_two x names t))

-- what is named after a block's name is let go was named before
named_without_block : (names : List ℕ) (b x : ℕ) → (x ≡ not_held → ⊥) → T (is_named x (without_block names b)) → T (is_named x names)
unfolding without_block
named_without_block [] b x f n = n
named_without_block (y ∷ names) b x f n =
    ⊎_elim
    (λ e. named_here x y names (was (eqb y b) e))
    (λ t. named_behind x y names (named_without_block names b x f t))
    (named_cases x (pick (eqb y b) not_held y) (without_block names b) n)
  where
    was : (w : Bool) → pick w not_held y ≡ x → y ≡ x
    was true e = absurd (f (sym e))
    was false e = e

pub no_two_without_block : (names : List ℕ) (b : ℕ) → T (no_two_at_one names) → T (no_two_at_one (without_block names b))
unfolding without_block no_two_at_one
no_two_without_block [] b t = tt
no_two_without_block (x ∷ names) b t = no_two_cons (pick (eqb x b) not_held x) (without_block names b) (go (eqb x b) refl)
    (no_two_without_block names b (rest_of_no_two x names t))
  where
    go : (w : Bool) → eqb x b ≡ w → (pick w not_held x ≡ not_held → ⊥) → T (is_named (pick w not_held x) (without_block names b)) → ⊥
    go true e f h = f refl
    go false e f h = not_named_behind x names t f (named_without_block names b x f h)

-- ---- no names
pub each_held_of_no_names : (test : ℕ → Bool) (n : ℕ) → T (each_held test (replicate n not_held))
unfolding each_held
each_held_of_no_names test zero = tt
each_held_of_no_names test (suc n) = each_held_of_no_names test n

pub no_two_of_no_names : (n : ℕ) → T (no_two_at_one (replicate n not_held))
unfolding no_two_at_one
no_two_of_no_names zero = tt
no_two_of_no_names (suc n) = no_two_of_no_names n
