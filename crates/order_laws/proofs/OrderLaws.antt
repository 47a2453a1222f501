-- Laws of the order storage, place by place. Assumes nothing.
use mathlib.Core.Path.{◌≡◌, refl, sym, ap, ◌∙◌}
use mathlib.Core.Bool.{Bool, true, false}
use mathlib.Core.List.{List, ◌++◌}
use Prim.Native.Nat.{ℕ, zero, suc, ◌+◌, ◌-◌, ◌*◌, ◌≤◌, ◌<◌, min}
use native.Mathlib.Nat.{not-suc-le-zero, le_of_suc-le-suc}
use native.Mathlib.Decide.{dec_lt}
use native.Mathlib.Omega.{arith}
use lib.ListN.{length, get_or, take, drop, replicate, length-append, length-drop, length-set, length-replicate, get_or-replicate, get_or-append}
use lib.ListN.{get_or-eq_default}
use lib.Seq.{length-take-le, get_or-append-add, get_or-take, get_or-drop, set_out, get_or-set_same, get_or-set_other}
use borrow.Author.Tests.{le-leb, lt-leb}
use lib.Dec.{leb, leb→le}
use Rattle.base_laws.specs.Sums.{pick, both}
use Rattle.base_laws.proofs.TestLaws.{both_left, both_right, T_of_true}
use Rattle.order_rules.specs.Order.{place, last_filled, with_place, descending, with_renewed_places, renewed, cleared}

-- ---- one place
pub place_out_of_storage : (l : List ℕ) (s p : ℕ) → length l ≤ s * 256 + p → place l s p ≡ 0
unfolding place
place_out_of_storage l s p h = get_or-eq_default l 0 h

pub last_filled_is_place : (l : List ℕ) (s m : ℕ) → 1 ≤ m → m ≤ 256 → last_filled l s m ≡ place l s (m - 1)
unfolding last_filled
last_filled_is_place l s m h g = simp (le-leb 1 m h, le-leb m 256 g)

pub last_filled_of_zero : (l : List ℕ) (s : ℕ) → last_filled l s 0 ≡ 0
unfolding last_filled
last_filled_of_zero l s = refl

pub last_filled_above_256 : (l : List ℕ) (s m : ℕ) → 256 < m → last_filled l s m ≡ 0
unfolding last_filled
last_filled_above_256 l s m h = let g : 1 ≤ m = omega arith in simp (le-leb 1 m g, lt-leb m 256 h)

-- ---- n - 1, n - 2, .., 0
pub length_descending : (n : ℕ) → length (descending n) ≡ n
unfolding descending
length_descending zero = refl
length_descending (suc n) = ap suc (length_descending n)

pub get_or_descending : (n j : ℕ) → j < n → get_or (descending n) j 0 ≡ n - 1 - j
unfolding descending
get_or_descending zero j l = absurd (not-suc-le-zero l)
get_or_descending (suc n) zero l = omega arith
get_or_descending (suc n) (suc j) l = let e = get_or_descending n j (le_of_suc-le-suc l) in omega arith

-- ---- a superblock's places, renewed where the storage has them
module _ (l : List ℕ) (s n : ℕ) (fits : s * 256 + n ≤ length l) where
  length_before_superblock : length (take (s * 256) l) ≡ s * 256
  length_before_superblock = length-take-le (s * 256) l (omega arith)

  length_with_renewed_places : length (with_renewed_places l s n) ≡ length l
  unfolding with_renewed_places
  length_with_renewed_places = simp (length-append, length-drop) (omega (arith, length_before_superblock, length_descending n))

  with_renewed_places_in : (j : ℕ) → j < n → get_or (with_renewed_places l s n) (s * 256 + j) 0 ≡ n - 1 - j
  unfolding with_renewed_places
  with_renewed_places_in j h =
      get_or-append (take (s * 256) l ++ descending n) (drop (s * 256 + n) l) 0 (s * 256 + j)
      (omega (arith, length_before_superblock, length_descending n, length-append (take (s * 256) l) (descending n)))
      ∙ ap (λ (k : ℕ). get_or (take (s * 256) l ++ descending n) (k + j) 0) (sym length_before_superblock)
      ∙ get_or-append-add (take (s * 256) l) (descending n) j 0
      ∙ get_or_descending n j h

  with_renewed_places_below : (i : ℕ) → i < s * 256 → get_or (with_renewed_places l s n) i 0 ≡ get_or l i 0
  unfolding with_renewed_places
  with_renewed_places_below i h =
      get_or-append (take (s * 256) l ++ descending n) (drop (s * 256 + n) l) 0 i
      (omega (arith, length_before_superblock, length-append (take (s * 256) l) (descending n)))
      ∙ get_or-append (take (s * 256) l) (descending n) 0 i (omega (arith, length_before_superblock))
      ∙ get_or-take (s * 256) l i 0 h

  with_renewed_places_above : (i : ℕ) → s * 256 + n ≤ i → get_or (with_renewed_places l s n) i 0 ≡ get_or l i 0
  unfolding with_renewed_places
  with_renewed_places_above i h =
      ap (λ (k : ℕ). get_or (take (s * 256) l ++ descending n ++ drop (s * 256 + n) l) k 0) (there i h)
      ∙ get_or-append-add (take (s * 256) l ++ descending n) (drop (s * 256 + n) l) (i - (s * 256 + n)) 0
      ∙ get_or-drop (s * 256 + n) l (i - (s * 256 + n)) 0
      ∙ ap (λ (k : ℕ). get_or l k 0) (here i h)
    where
      there : (k : ℕ) → s * 256 + n ≤ k → k ≡ length (take (s * 256) l ++ descending n) + (k - (s * 256 + n))
      there k g = omega (arith, length_before_superblock, length_descending n, length-append (take (s * 256) l) (descending n))

      here : (k : ℕ) → s * 256 + n ≤ k → s * 256 + n + (k - (s * 256 + n)) ≡ k
      here k g = omega arith

-- ---- a renewed superblock
-- what holds of the renewed places, and of the storage as it was, holds of a renewed storage
renewed_elim : (l : List ℕ) (s n : ℕ) (P : List ℕ → Type 0) → (n ≤ 256 → s * 256 + n ≤ length l → P (with_renewed_places l s n)) → P l → P (renewed l s n)
unfolding renewed
renewed_elim l s n P fit none = go (both (leb n 256) (leb (s * 256 + n) (length l))) refl
  where
    go : (t : Bool) → both (leb n 256) (leb (s * 256 + n) (length l)) ≡ t → P (pick t (with_renewed_places l s n) l)
    go true e =
        let t = T_of_true (both (leb n 256) (leb (s * 256 + n) (length l))) e in
        fit (leb→le n 256 (both_left (leb n 256) (leb (s * 256 + n) (length l)) t))
        (leb→le (s * 256 + n) (length l) (both_right (leb n 256) (leb (s * 256 + n) (length l)) t))
    go false e = none

pub length_renewed : (l : List ℕ) (s n : ℕ) → length (renewed l s n) ≡ length l
length_renewed l s n = renewed_elim l s n (λ (x : List ℕ). length x ≡ length l) (λ small fits. length_with_renewed_places l s n fits) refl

pub renewed_is_with_renewed_places : (l : List ℕ) (s n : ℕ) → n ≤ 256 → s * 256 + n ≤ length l → renewed l s n ≡ with_renewed_places l s n
unfolding renewed
renewed_is_with_renewed_places l s n small fits = simp (le-leb n 256 small, le-leb (s * 256 + n) (length l) fits)

-- where superblock s has not n places, nothing changes
pub renewed_above_256_blocks : (l : List ℕ) (s n : ℕ) → 256 < n → renewed l s n ≡ l
unfolding renewed
renewed_above_256_blocks l s n h = simp (lt-leb n 256 h)

pub renewed_out_of_storage : (l : List ℕ) (s n : ℕ) → length l < s * 256 + n → renewed l s n ≡ l
unfolding renewed
renewed_out_of_storage l s n h = go (leb n 256)
  where
    go : (t : Bool) → pick (both t (leb (s * 256 + n) (length l))) (with_renewed_places l s n) l ≡ l
    go true = simp (lt-leb (s * 256 + n) (length l) h)
    go false = refl

pub renewed_place : (l : List ℕ) (s n p : ℕ) → n ≤ 256 → s * 256 + n ≤ length l → p < n → place (renewed l s n) s p ≡ n - 1 - p
unfolding place
renewed_place l s n p small fits h = rw (renewed_is_with_renewed_places l s n small fits) (with_renewed_places_in l s n fits p h)

-- every index outside s * 256 to s * 256 + n - 1 is as it was
pub renewed_index_below : (l : List ℕ) (s n i : ℕ) → i < s * 256 → get_or (renewed l s n) i 0 ≡ get_or l i 0
renewed_index_below l s n i h = renewed_elim l s n (λ (x : List ℕ). get_or x i 0 ≡ get_or l i 0) (λ small fits. with_renewed_places_below l s n fits i h) refl

pub renewed_index_above : (l : List ℕ) (s n i : ℕ) → s * 256 + n ≤ i → get_or (renewed l s n) i 0 ≡ get_or l i 0
renewed_index_above l s n i h = renewed_elim l s n (λ (x : List ℕ). get_or x i 0 ≡ get_or l i 0) (λ small fits. with_renewed_places_above l s n fits i h) refl

pub renewed_place_past_blocks : (l : List ℕ) (s n p : ℕ) → n ≤ p → place (renewed l s n) s p ≡ place l s p
unfolding place
renewed_place_past_blocks l s n p h = renewed_index_above l s n (s * 256 + p) (omega arith)

pub renewed_other_superblock : (l : List ℕ) (s n t p : ℕ) → (t ≡ s → ⊥) → p < 256 → place (renewed l s n) t p ≡ place l t p
unfolding place
renewed_other_superblock l s n t p other h = renewed_elim l s n (λ (x : List ℕ). get_or x (t * 256 + p) 0 ≡ get_or l (t * 256 + p) 0)
    (λ small fits. go small fits (dec_lt t s)) refl
  where
    go : n ≤ 256 → s * 256 + n ≤ length l → Dec (t < s) → get_or (with_renewed_places l s n) (t * 256 + p) 0 ≡ get_or l (t * 256 + p) 0
    go small fits (yes q) = with_renewed_places_below l s n fits (t * 256 + p) (omega arith)
    go small fits (no f) = with_renewed_places_above l s n fits (t * 256 + p) (let q : s < t = omega (arith, f, other) in omega arith)

-- ---- one place filled
pub length_with_place : (l : List ℕ) (s p b : ℕ) → length (with_place l s p b) ≡ length l
unfolding with_place
length_with_place l s p b = length-set l (s * 256 + p) b

pub with_place_out_of_storage : (l : List ℕ) (s p b : ℕ) → length l ≤ s * 256 + p → with_place l s p b ≡ l
unfolding with_place
with_place_out_of_storage l s p b h = set_out l (s * 256 + p) b h

pub with_place_same : (l : List ℕ) (s p b : ℕ) → s * 256 + p < length l → place (with_place l s p b) s p ≡ b
unfolding place with_place
with_place_same l s p b h = get_or-set_same l (s * 256 + p) b 0 h

pub with_place_other_index : (l : List ℕ) (s p b i : ℕ) → (i ≡ s * 256 + p → ⊥) → get_or (with_place l s p b) i 0 ≡ get_or l i 0
unfolding with_place
with_place_other_index l s p b i other = get_or-set_other l (s * 256 + p) i b 0 other

-- another place of the same superblock, and a place of another superblock
pub with_place_other_place : (l : List ℕ) (s p b q : ℕ) → (q ≡ p → ⊥) → place (with_place l s p b) s q ≡ place l s q
unfolding place
with_place_other_place l s p b q other = with_place_other_index l s p b (s * 256 + q) (λ (e : s * 256 + q ≡ s * 256 + p). other (omega arith))

pub with_place_other_superblock : (l : List ℕ) (s p b t q : ℕ) → (t ≡ s → ⊥) → p < 256 → q < 256 → place (with_place l s p b) t q ≡ place l t q
unfolding place
with_place_other_superblock l s p b t q other h g = with_place_other_index l s p b (t * 256 + q) (λ (e : t * 256 + q ≡ s * 256 + p). other (omega arith))

-- ---- the first places cleared
length_of_zeros : (l : List ℕ) (n : ℕ) → length (replicate {A = ℕ} (min n (length l)) 0) ≡ min n (length l)
length_of_zeros l n = length-replicate {A = ℕ} (min n (length l)) 0

pub length_cleared : (l : List ℕ) (n : ℕ) → length (cleared l n) ≡ length l
unfolding cleared
length_cleared l n = simp (length-append, length-drop) (omega (arith, length_of_zeros l n))

cleared_past_end : (l : List ℕ) (n i : ℕ) → length l ≤ i → get_or (cleared l n) i 0 ≡ 0
cleared_past_end l n i h = get_or-eq_default (cleared l n) 0 (let e = length_cleared l n in omega arith)

pub cleared_index_below : (l : List ℕ) (n i : ℕ) → i < n → get_or (cleared l n) i 0 ≡ 0
unfolding cleared
cleared_index_below l n i h = go (dec_lt i (length l))
  where
    go : Dec (i < length l) → get_or (cleared l n) i 0 ≡ 0
    go (yes q) =
        get_or-append (replicate (min n (length l)) 0) (drop n l) 0 i (omega (arith, length_of_zeros l n))
        ∙ get_or-replicate (min n (length l)) i 0 0 (omega arith)
    go (no f) = cleared_past_end l n i (omega (arith, f))

pub cleared_index_above : (l : List ℕ) (n i : ℕ) → n ≤ i → get_or (cleared l n) i 0 ≡ get_or l i 0
unfolding cleared
cleared_index_above l n i h = go (dec_lt i (length l))
  where
    there : i < length l → i ≡ length (replicate {A = ℕ} (min n (length l)) 0) + (i - n)
    there q = omega (arith, length_of_zeros l n)

    here : n + (i - n) ≡ i
    here = omega arith

    go : Dec (i < length l) → get_or (cleared l n) i 0 ≡ get_or l i 0
    go (yes q) =
        ap (λ (k : ℕ). get_or (replicate (min n (length l)) 0 ++ drop n l) k 0) (there q)
        ∙ get_or-append-add (replicate (min n (length l)) 0) (drop n l) (i - n) 0
        ∙ get_or-drop n l (i - n) 0
        ∙ ap (λ (k : ℕ). get_or l k 0) here
    go (no f) = cleared_past_end l n i (omega (arith, f)) ∙ sym (get_or-eq_default l 0 (omega (arith, f)))

-- the superblocks below m, and those from m on, where the places of m superblocks are cleared
pub cleared_place : (l : List ℕ) (m s p : ℕ) → s < m → p < 256 → place (cleared l (m * 256)) s p ≡ 0
unfolding place
cleared_place l m s p h g = cleared_index_below l (m * 256) (s * 256 + p) (omega arith)

pub cleared_place_above : (l : List ℕ) (m s p : ℕ) → m ≤ s → place (cleared l (m * 256)) s p ≡ place l s p
unfolding place
cleared_place_above l m s p h = cleared_index_above l (m * 256) (s * 256 + p) (omega arith)
