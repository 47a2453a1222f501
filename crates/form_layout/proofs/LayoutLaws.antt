-- Where the form's parts begin, by the first byte, in the shape in which the code meets it. Assumes nothing.
use mathlib.Core.Path.{◌≡◌, ap, ◌∙◌}
use mathlib.Core.List.{List}
use mathlib.Core.Logic.{◌⊎◌, inl, inr, ⊎_elim}
use Prim.Native.Nat.{ℕ, ◌+◌, ◌*◌, ◌≤◌, ◌<◌}
use native.Mathlib.Omega.{arith}
use lib.ListN.{length}
use lib.Dec.{eqb, leb}
use borrow.Author.Tests.{eq-eqb, ne_eqb, le-leb, lt-leb}
use Rattle.bytes_rules.specs.Bytes.{byte_at, two_at, four_at}
use Rattle.form_rules.specs.Form.{table_offset, places_offset, place_count, well_formed}

module _ (b : List ℕ) (first : ℕ) (is : first ≡ byte_at b 0) where
  -- ---- where the superblocks begin
  pub table_offset_of_take_or_named_free : (first ≡ 1) ⊎ (first ≡ 4) → 9 ≡ table_offset b
  unfolding table_offset
  table_offset_of_take_or_named_free = ⊎_elim (λ e. rw (← is, e)) (λ e. rw (← is, e))

  pub table_offset_of_drop : (count : ℕ) → first ≡ 5 → count ≡ two_at b 7 → 9 + 4 * count ≡ table_offset b
  unfolding table_offset
  table_offset_of_drop count e c = rw (← is, e, ← c)

  pub table_offset_of_free_or_named_take : ((first ≡ 1) ⊎ (first ≡ 4) → ⊥) → (first ≡ 5 → ⊥) → 11 ≡ table_offset b
  unfolding table_offset
  table_offset_of_free_or_named_take n m = rw (← is, ne_eqb first 1 (λ e. n (inl e)), ne_eqb first 4 (λ e. n (inr e)), ne_eqb first 5 m)

  -- ---- where the order places begin, and how many are lent
  pub places_offset_of_setup : first ≡ 0 → 10 ≡ places_offset b
  unfolding places_offset
  places_offset_of_setup e = rw (← is, eq-eqb _ _ e)

  pub places_offset_of_state : (table : ℕ) → (first ≡ 0 → ⊥) → table ≡ table_offset b → table + 5085 ≡ places_offset b
  unfolding places_offset
  places_offset_of_state table n t = rw (← is, ne_eqb _ _ n, ← t) (omega arith)

  pub place_count_of_setup : (at lent : ℕ) → first ≡ 0 → at ≡ 6 → lent ≡ four_at b at → lent ≡ place_count b
  unfolding place_count
  place_count_of_setup at lent e p l = rw (← is, eq-eqb _ _ e) (l ∙ ap (four_at b) p)

  pub place_count_of_state : (at table lent : ℕ) → (first ≡ 0 → ⊥) → table ≡ table_offset b → at ≡ table + 5081 → lent ≡ four_at b at
      → lent ≡ place_count b
  unfolding place_count
  place_count_of_state at table lent n t p l =
      let e : at ≡ table + 64 * 36 + 1024 * 2 + (243 + 243 * 2) = omega arith in
      rw (← is, ne_eqb _ _ n, ← t) (l ∙ ap (four_at b) e)

  -- ---- the whole form
  pub well_formed_false_of_unknown : 5 < first → leb first 5 ≡ well_formed b
  unfolding well_formed
  well_formed_false_of_unknown h = rw (← is, lt-leb _ _ h)

  pub well_formed_is_length_test : (from lent : ℕ) → first ≤ 5 → from ≡ places_offset b → lent ≡ place_count b
      → eqb (length b) (from + 2 * lent) ≡ well_formed b
  unfolding well_formed
  well_formed_is_length_test from lent h f l = rw (← is, le-leb _ _ h, ← f, ← l)
