-- Which heaps and classes a drop touches, and in which order (document 02, item 5). Assumes nothing.
use mathlib.Core.Path.{◌≡◌, refl, sym, ap, ◌∙◌, subst}
use mathlib.Core.Bool.{Bool, true, false}
use mathlib.Core.Logic.{◌↔◌, ◌⊎◌, inl, inr, ⊎_elim}
use mathlib.Core.List.Memᴰ
use mathlib.Core.List.{List, [], ◌∷◌, ◌++◌, Memᴰ}
use Prim.Native.Nat.{ℕ, zero, suc, ◌≤◌, ◌<◌}
use native.Mathlib.Decide.{ℕ_discrete}
use native.Mathlib.Omega.{arith}
use lib.Dec.{T}
use Rattle.base_laws.specs.Sums.{pick}
use Rattle.class_rules.specs.Classes.{class_count}
use Rattle.base_laws.proofs.TestLaws.{T_of_true, either_left, either_right, either_right_of_left_false}
use Rattle.heap_rules.specs.declared.State.{State}
use Rattle.heap_rules.specs.Counts.{belongs}
use Rattle.heap_laws.proofs.CountLaws.{owner_and_class_of_belongs, belongs_of_owner_and_class}
use Rattle.call_rules.specs.Free.{superblock_holding}
use Rattle.call_rules.specs.Drop.{Pair, is_touched, touched_classes, touched_pairs}

-- ---- which are touched
-- one of the addresses is in a superblock of heap h and class c
pub record Touches (s : State) (addresses : List ℕ) (h c : ℕ) : Type 0 where
  pub address : ℕ
  pub listed : Memᴰ address addresses
  pub owner_is : (superblock_holding s address).owner ≡ h
  pub class_is : (superblock_holding s address).class ≡ c

touches_of_is_touched : (s : State) (addresses : List ℕ) (h c : ℕ) → T (is_touched s addresses h c) → Touches s addresses h c
unfolding is_touched
touches_of_is_touched s [] h c t = absurd t
touches_of_is_touched s (a ∷ addresses) h c t = go (belongs h c (superblock_holding s a)) refl (touches_of_is_touched s addresses h c)
  where
    go : (b : Bool) → belongs h c (superblock_holding s a) ≡ b → (T (is_touched s addresses h c) → Touches s addresses h c) → Touches s (a ∷ addresses) h c
    go true e rest =
        let is = owner_and_class_of_belongs h c (superblock_holding s a) (T_of_true (belongs h c (superblock_holding s a)) e) in
        record { address = a; listed = Memᴰ.head refl; owner_is = is.0; class_is = is.1 }
    go false e rest =
        let later = rest (either_right_of_left_false (belongs h c (superblock_holding s a)) (is_touched s addresses h c) t e) in
        record { address = later.address; listed = Memᴰ.tail later.listed; owner_is = later.owner_is; class_is = later.class_is }

is_touched_of_listed : (s : State) (addresses : List ℕ) (h c a : ℕ) → T (belongs h c (superblock_holding s a)) → Memᴰ a addresses
    → T (is_touched s addresses h c)
unfolding is_touched
is_touched_of_listed s [] h c a b listed = absurd (Memᴰ.not-nil listed)
is_touched_of_listed s (x ∷ addresses) h c a b listed =
    ⊎_elim (λ (e : a ≡ x). either_left (belongs h c (superblock_holding s x)) (is_touched s addresses h c)
    (subst (λ (y : ℕ). T (belongs h c (superblock_holding s y))) e b))
    (λ m. either_right (belongs h c (superblock_holding s x)) (is_touched s addresses h c) (is_touched_of_listed s addresses h c a b m))
    (Memᴰ.cases_cons listed)

-- heap h and class c are touched exactly if one of the addresses is in a superblock of theirs
pub is_touched_iff : (s : State) (addresses : List ℕ) (h c : ℕ) → T (is_touched s addresses h c) ↔ Touches s addresses h c
is_touched_iff s addresses h c = (
  touches_of_is_touched s addresses h c,
  λ t. is_touched_of_listed s addresses h c t.address (belongs_of_owner_and_class h c (superblock_holding s t.address) t.owner_is t.class_is)
      t.listed,
)

-- ---- "each processor heap and class touched"
-- heap h and class c are one of the pairs
abbrev pub PairAmong : ℕ → ℕ → List Pair → Type 0
PairAmong h c pairs = Memᴰ (record { heap = h; class = c }) pairs

module _ (touched : ℕ → ℕ → Bool) where
  -- the one pair of heap h and class c where they are touched, else none
  pair_if_touched : (h c : ℕ) (p : Pair) → Memᴰ p (pick (touched h c) (record { heap = h; class = c } ∷ []) [])
      → (p ≡ record { heap = h; class = c }) × T (touched h c)
  pair_if_touched h c p m = go (touched h c) m
    where
      go : (t : Bool) → Memᴰ p (pick t (record { heap = h; class = c } ∷ []) []) → (p ≡ record { heap = h; class = c }) × T t
      go true m = (Memᴰ.eq_of_singleton m, tt)
      go false m = absurd (Memᴰ.not-nil m)

  pair_of_touched : (h c : ℕ) (t : Bool) → T t → PairAmong h c (pick t (record { heap = h; class = c } ∷ []) [])
  pair_of_touched h c true t = Memᴰ.head refl
  pair_of_touched h c false t = absurd t

  touched_of_class_listed : (h n : ℕ) (p : Pair) → Memᴰ p (touched_classes touched h n) → (p.heap ≡ h) × (p.class < n) × T (touched p.heap p.class)
  unfolding touched_classes
  touched_of_class_listed h zero p m = absurd (Memᴰ.not-nil m)
  touched_of_class_listed h (suc n) p m =
      ⊎_elim (λ x. let r = touched_of_class_listed h n p x in (r.0, (let l = r.1 in omega arith), r.2))
      (λ x. let r = pair_if_touched h n p x in
      let class_is : p.class ≡ n = ap (λ (q : Pair). q.class) r.0 in
      (ap (λ (q : Pair). q.heap) r.0, omega arith, subst (λ (q : Pair). T (touched q.heap q.class)) (sym r.0) r.1))
      (Memᴰ.append_cases (touched_classes touched h n) m)

  class_listed_of_touched : (h n c : ℕ) → c < n → T (touched h c) → PairAmong h c (touched_classes touched h n)
  unfolding touched_classes
  class_listed_of_touched h zero c l t = absurd (let z : ⊥ = omega arith in z)
  class_listed_of_touched h (suc n) c l t = go (ℕ_discrete c n) (λ k. class_listed_of_touched h n c k t)
    where
      go : Dec (c ≡ n) → (c < n → PairAmong h c (touched_classes touched h n))
          → PairAmong h c (touched_classes touched h n ++ pick (touched h n) (record { heap = h; class = n } ∷ []) [])
      go (yes e) rest =
          Memᴰ.append_right (touched_classes touched h n)
          (subst (λ (d : ℕ). PairAmong h d (pick (touched h n) (record { heap = h; class = n } ∷ []) [])) (sym e)
          (pair_of_touched h n (touched h n) (subst (λ (d : ℕ). T (touched h d)) e t)))
      go (no f) rest = Memᴰ.append_left (pick (touched h n) (record { heap = h; class = n } ∷ []) []) (rest (omega arith))

  touched_of_pair_listed : (n : ℕ) (p : Pair) → Memᴰ p (touched_pairs touched n) → (1 ≤ p.heap) × (p.heap ≤ n) × (p.class < class_count)
      × T (touched p.heap p.class)
  unfolding touched_pairs
  touched_of_pair_listed zero p m = absurd (Memᴰ.not-nil m)
  touched_of_pair_listed (suc n) p m =
      ⊎_elim (λ x. let r = touched_of_pair_listed n p x in (r.0, (let l = r.1 in omega arith), r.2, r.3))
      (λ x. let r = touched_of_class_listed (suc n) class_count p x in
      let heap_is : p.heap ≡ suc n = r.0 in
      (omega arith, omega arith, r.1, r.2))
      (Memᴰ.append_cases (touched_pairs touched n) m)

  pair_listed_of_touched : (n h c : ℕ) → 1 ≤ h → h ≤ n → c < class_count → T (touched h c) → PairAmong h c (touched_pairs touched n)
  unfolding touched_pairs
  pair_listed_of_touched zero h c low high l t = absurd (let z : ⊥ = omega arith in z)
  pair_listed_of_touched (suc n) h c low high l t = go (ℕ_discrete h (suc n)) (λ k. pair_listed_of_touched n h c low k l t)
    where
      go : Dec (h ≡ suc n) → (h ≤ n → PairAmong h c (touched_pairs touched n))
          → PairAmong h c (touched_pairs touched n ++ touched_classes touched (suc n) class_count)
      go (yes e) rest =
          Memᴰ.append_right (touched_pairs touched n)
          (subst (λ (g : ℕ). PairAmong h c (touched_classes touched g class_count)) e (class_listed_of_touched h class_count c l t))
      go (no f) rest = Memᴰ.append_left (touched_classes touched (suc n) class_count) (rest (omega arith))

  -- the pairs are those of the processor heaps 1 to n and the 27 classes that are touched; heap 0 is none
  pub touched_pair_iff : (n h c : ℕ) → PairAmong h c (touched_pairs touched n) ↔ ((1 ≤ h) × (h ≤ n) × (c < class_count) × T (touched h c))
  touched_pair_iff n h c = (touched_of_pair_listed n (record { heap = h; class = c }), λ t. pair_listed_of_touched n h c t.0 t.1 t.2 t.3)

-- ---- "heaps then classes rising"
-- a smaller heap, or the same heap and a smaller class
unfoldable pub Before : Pair → Pair → Type 0
Before p q = (p.heap < q.heap) ⊎ ((p.heap ≡ q.heap) × (p.class < q.class))

-- each pair is before all that come later in the list
unfoldable pub Rising : List Pair → Type 0
Rising [] = Unit {0}
Rising (p ∷ pairs) = ((q : Pair) → Memᴰ q pairs → Before p q) × Rising pairs

rising_append : (x y : List Pair) → Rising x → Rising y → ((p q : Pair) → Memᴰ p x → Memᴰ q y → Before p q) → Rising (x ++ y)
unfolding Rising
rising_append [] y rx ry apart = ry
rising_append (p ∷ x) y rx ry apart = (
  λ q m. ⊎_elim (λ n. rx.0 q n) (λ n. apart p q (Memᴰ.head refl) n) (Memᴰ.append_cases x m),
  rising_append x y rx.1 ry (λ a b m n. apart a b (Memᴰ.tail m) n),
)

rising_of_pair_if_touched : (t : Bool) (p : Pair) → Rising (pick t (p ∷ []) [])
unfolding Rising
rising_of_pair_if_touched true p = (λ q m. absurd (Memᴰ.not-nil m), tt)
rising_of_pair_if_touched false p = tt

not_twice_of_rising : (x y : List Pair) (p : Pair) → Rising (x ++ (p ∷ y)) → Memᴰ p y → ⊥
unfolding Rising Before
not_twice_of_rising [] y p r m = ⊎_elim (λ l. omega arith) (λ e. let l = e.1 in omega arith) (r.0 p m)
not_twice_of_rising (a ∷ x) y p r m = not_twice_of_rising x y p r.1 m

module _ (touched : ℕ → ℕ → Bool) where
  touched_classes_rising : (h n : ℕ) → Rising (touched_classes touched h n)
  unfolding touched_classes Rising Before
  touched_classes_rising h zero = tt
  touched_classes_rising h (suc n) =
      rising_append (touched_classes touched h n) (pick (touched h n) (record { heap = h; class = n } ∷ []) []) (touched_classes_rising h n)
      (rising_of_pair_if_touched (touched h n) (record { heap = h; class = n }))
      (λ p q m k.
      let a = touched_of_class_listed touched h n p m in
      let b = pair_if_touched touched h n q k in
      let class_is : q.class ≡ n = ap (λ (r : Pair). r.class) b.0 in
      let l = a.1 in
      inr (a.0 ∙ sym (ap (λ (r : Pair). r.heap) b.0), omega arith))

  -- the pairs are in that order
  pub touched_pairs_rising : (n : ℕ) → Rising (touched_pairs touched n)
  unfolding touched_pairs Rising Before
  touched_pairs_rising zero = tt
  touched_pairs_rising (suc n) =
      rising_append (touched_pairs touched n) (touched_classes touched (suc n) class_count) (touched_pairs_rising n)
      (touched_classes_rising (suc n) class_count)
      (λ p q m k.
      let high = (touched_of_pair_listed touched n p m).1 in
      let heap_is : q.heap ≡ suc n = (touched_of_class_listed touched (suc n) class_count q k).0 in
      inl (omega arith))

  -- so that none comes twice
  pub no_touched_pair_twice : (n : ℕ) (x y : List Pair) (p : Pair) → touched_pairs touched n ≡ x ++ (p ∷ y) → Memᴰ p y → ⊥
  no_touched_pair_twice n x y p e m = not_twice_of_rising x y p (subst Rising e (touched_pairs_rising n)) m
