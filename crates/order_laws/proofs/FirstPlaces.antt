-- Storages that agree on their first n places, and storages that agree from place n on. Assumes nothing.
use mathlib.Core.Path.{◌≡◌, sym, ap, ◌∙◌, subst}
use mathlib.Core.Logic.{◌⊎◌, inl, inr}
use mathlib.Core.List.{List}
use Prim.Native.Nat.{ℕ, ◌+◌, ◌-◌, ◌*◌, ◌≤◌, ◌<◌, min}
use native.Mathlib.Decide.{ℕ_discrete, dec_lt, dec_le}
use native.Mathlib.Omega.{arith}
use lib.ListN.{length, get_or, take, drop, length-take, length-drop}
use lib.Seq.{length-take-le, take_all, get_or-take, get_or-drop, get_or-set_same, get_or-set_other, ext_get_or}
use Rattle.order_rules.specs.Order.{place, with_place, renewed, cleared}
use Rattle.order_laws.proofs.OrderLaws.{length_renewed, renewed_place, renewed_index_below, renewed_index_above, length_with_place, length_cleared}
use Rattle.order_laws.proofs.OrderLaws.{cleared_index_below}

-- both storages have the first n places, and hold the same there
pub record SameFirst (n : ℕ) (x y : List ℕ) : Type 0 where
  pub first_covers : n ≤ length x
  pub second_covers : n ≤ length y
  pub same : (i : ℕ) → i < n → get_or x i 0 ≡ get_or y i 0

pub take_equal_of_same_first : (n : ℕ) (x y : List ℕ) → SameFirst n x y → take n x ≡ take n y
take_equal_of_same_first n x y h =
    ext_get_or 0 (take n x) (take n y) (length-take-le n x h.first_covers ∙ sym (length-take-le n y h.second_covers))
    (λ i l. let g : i < n = omega (arith, length-take-le n x h.first_covers) in get_or-take n x i 0 g ∙ h.same i g ∙ sym (get_or-take n y i 0 g))

-- two storages with the same first part are one and shorter than n, or have the n places and hold the same there
pub same_first_of_take_equal : (n : ℕ) (x y : List ℕ) → take n x ≡ take n y → (x ≡ y) ⊎ SameFirst n x y
same_first_of_take_equal n x y e = go (dec_lt (length x) n)
  where
    lengths : min n (length x) ≡ min n (length y)
    lengths = sym (length-take n x) ∙ ap length e ∙ length-take n y

    go : Dec (length x < n) → (x ≡ y) ⊎ SameFirst n x y
    go (yes l) = let q = lengths in inl (sym (take_all n x (omega arith)) ∙ e ∙ take_all n y (omega arith))
    go (no f) =
        let q = lengths in
        inr (record {
          first_covers = omega arith;
          second_covers = omega arith;
          same = λ i l. sym (get_or-take n x i 0 l) ∙ ap (λ (z : List ℕ). get_or z i 0) e
              ∙ get_or-take n y i 0 l;
        })

pub drop_equal_of_same_rest : (n : ℕ) (x y : List ℕ) → length x ≡ length y → ((i : ℕ) → n ≤ i → get_or x i 0 ≡ get_or y i 0) → drop n x ≡ drop n y
drop_equal_of_same_rest n x y long h =
    ext_get_or 0 (drop n x) (drop n y) (length-drop n x ∙ ap (λ (m : ℕ). m - n) long ∙ sym (length-drop n y))
    (λ i l. get_or-drop n x i 0 ∙ h (n + i) (omega arith) ∙ sym (get_or-drop n y i 0))

-- a renewed superblock's places, by their numbers in the storage
pub renewed_at_index : (l : List ℕ) (s n i : ℕ) → n ≤ 256 → s * 256 + n ≤ length l → s * 256 ≤ i → i < s * 256 + n → get_or (renewed l s n) i 0
    ≡ n - 1 - (i - s * 256)
unfolding place
renewed_at_index l s n i small fits low high =
    subst (λ (j : ℕ). get_or (renewed l s n) j 0 ≡ n - 1 - (i - s * 256)) (there low) (renewed_place l s n (i - s * 256) small fits (omega arith))
  where
    there : s * 256 ≤ i → s * 256 + (i - s * 256) ≡ i
    there h = omega arith

module _ (n : ℕ) (x y : List ℕ) (h : SameFirst n x y) where
  pub same_first_place : (s p : ℕ) → s * 256 + p < n → place x s p ≡ place y s p
  unfolding place
  same_first_place s p l = h.same (s * 256 + p) l

  -- superblock s renewed in both
  pub same_first_renewed : (s m : ℕ) → m ≤ 256 → s * 256 + m ≤ n → SameFirst n (renewed x s m) (renewed y s m)
  same_first_renewed s m small fits =
      record {
        first_covers = omega (arith, length_renewed x s m, h.first_covers);
        second_covers = omega (arith, length_renewed y s m, h.second_covers);
        same = λ i l. go i l (dec_lt i (s * 256)) (dec_le (s * 256 + m) i);
      }
    where
      go : (i : ℕ) → i < n → Dec (i < s * 256) → Dec (s * 256 + m ≤ i) → get_or (renewed x s m) i 0 ≡ get_or (renewed y s m) i 0
      go i l (yes q) d = renewed_index_below x s m i q ∙ h.same i l ∙ sym (renewed_index_below y s m i q)
      go i l (no f) (yes q) = renewed_index_above x s m i q ∙ h.same i l ∙ sym (renewed_index_above y s m i q)
      go i l (no f) (no g) =
          renewed_at_index x s m i small (omega (arith, h.first_covers)) (omega arith) (omega arith)
          ∙ sym (renewed_at_index y s m i small (omega (arith, h.second_covers)) (omega arith) (omega arith))

  -- one place written in both
  pub same_first_with_place : (s p b : ℕ) → SameFirst n (with_place x s p b) (with_place y s p b)
  unfolding with_place
  same_first_with_place s p b =
      record {
        first_covers = omega (arith, length_with_place x s p b, h.first_covers);
        second_covers = omega (arith, length_with_place y s p b, h.second_covers);
        same = λ i l. go i l (ℕ_discrete i (s * 256 + p));
      }
    where
      go : (i : ℕ) → i < n → Dec (i ≡ s * 256 + p) → get_or (with_place x s p b) i 0 ≡ get_or (with_place y s p b) i 0
      go i l (yes q) =
          ap (λ (j : ℕ). get_or (with_place x s p b) j 0) q
          ∙ get_or-set_same x (s * 256 + p) b 0 (omega (arith, h.first_covers))
          ∙ sym (get_or-set_same y (s * 256 + p) b 0 (omega (arith, h.second_covers)))
          ∙ ap (λ (j : ℕ). get_or (with_place y s p b) j 0) (sym q)
      go i l (no f) = get_or-set_other x (s * 256 + p) i b 0 f ∙ h.same i l ∙ sym (get_or-set_other y (s * 256 + p) i b 0 f)

  -- the first n places cleared in both
  pub same_first_cleared : SameFirst n (cleared x n) (cleared y n)
  same_first_cleared = record {
    first_covers = omega (arith, length_cleared x n, h.first_covers);
    second_covers = omega (arith, length_cleared y n, h.second_covers);
    same = λ i l. cleared_index_below x n i l ∙ sym (cleared_index_below y n i l);
  }
