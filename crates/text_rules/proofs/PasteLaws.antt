-- Laws of a text pasted into a buffer. Assumes nothing.
use mathlib.Core.Path.{◌≡◌, refl, sym, ap, ◌∙◌}
use mathlib.Core.List.{List, [], ◌∷◌, ◌++◌, append_assoc, append-nil}
use Prim.Native.Nat.{ℕ, suc, ◌+◌, ◌-◌, ◌≤◌, ◌<◌, min}
use native.Mathlib.Nat.{add-zero}
use native.Mathlib.Numerals.{add-one}
use native.Mathlib.Decide.{dec_le}
use native.Mathlib.Omega.{arith}
use lib.ListN.{length, take, drop, set, get_or, length-append, length-take, length-drop, take-append-drop, drop_of_length-le}
use lib.Seq.{take_all, take-nil, take_at, drop_at, take-append-le, take-append-add, take-suc, drop-drop, drop-append-add, set_split, append_snoc}
use Rattle.text_rules.specs.Text.{Pasted, pasted}
-- the computed cases come first: a wrong definition fails there
use Rattle.text_rules.proofs.TextCases as cases

-- an ending and a buffer equal those of a pasted text
pasted_cong : {e f : ℕ} {a b : List ℕ} → e ≡ f → a ≡ b → ◌≡◌ {A = Pasted} (record { end = e; buffer = a }) (record { end = f; buffer = b })
pasted_cong p q = rw (p, q)

module _ (old : List ℕ) (at : ℕ) (text : List ℕ) where
  -- a text that fits stands whole between what was before and behind it
  paste_fitting : at + length text ≤ length old → pasted old at text ≡ record {
    end = at + length text;
    buffer = take at old ++ text
        ++ drop (at + length text) old;
  }
  unfolding pasted
  paste_fitting h = pasted_cong (omega arith)
      (ap (λ (x : List ℕ). take at old ++ x ++ drop (at + length text) old) (take_all (length old - at) text (omega arith)))

  -- of one that does not, as much as there is room for
  paste_truncated : length old ≤ at + length text → pasted old at text ≡ record { end = length old; buffer = take at old ++ take (length old - at) text }
  unfolding pasted
  paste_truncated h =
      pasted_cong (omega arith)
      (ap (λ (x : List ℕ). take at old ++ take (length old - at) text ++ x) (drop_of_length-le old h) ∙ append-nil (take at old ++ take (length old - at) text))

  -- the buffer's length stays
  pub paste_length : length (pasted old at text).buffer ≡ length old
  unfolding pasted
  paste_length = simp (length-append, length-take, length-drop) (omega arith)

  -- the text ends in the buffer
  pub paste_end_le : (pasted old at text).end ≤ length old
  unfolding pasted
  paste_end_le = omega arith

  length_of_pasted_prefix : at + length text ≤ length old → length (take at old ++ text) ≡ at + length text
  length_of_pasted_prefix h = simp (length-append, length-take) (omega arith)

  prefix_kept_where_inside : at ≤ length old → take at (pasted old at text).buffer ≡ take at old
  unfolding pasted
  prefix_kept_where_inside h =
      let e : length (take at old) ≡ at = length-take at old ∙ omega arith in
      rw append_assoc (take_at (take at old) (take (length old - at) text ++ drop (at + length text) old) at e)

  -- a place past the end changes nothing
  pub paste_past : length old ≤ at → pasted old at text ≡ record { end = length old; buffer = old }
  paste_past h =
      let e : length old - at ≡ 0 = omega arith in
      paste_truncated (omega arith) ∙ pasted_cong refl (rw (e, take_all at old h) (append-nil old))

  -- what is before the text is unchanged
  pub paste_before : take at (pasted old at text).buffer ≡ take at old
  paste_before = go (dec_le at (length old))
    where
      go : Dec (at ≤ length old) → take at (pasted old at text).buffer ≡ take at old
      go (yes h) = prefix_kept_where_inside h
      go (no h) = rw (paste_past (omega arith))

  -- what is behind the text is unchanged
  pub paste_behind : drop (at + length text) (pasted old at text).buffer ≡ drop (at + length text) old
  paste_behind = go (dec_le (at + length text) (length old))
    where
      go : Dec (at + length text ≤ length old) → drop (at + length text) (pasted old at text).buffer ≡ drop (at + length text) old
      go (yes h) = rw (paste_fitting h) (drop_at (take at old ++ text) (drop (at + length text) old) (at + length text) (length_of_pasted_prefix h))
      go (no h) =
          drop_of_length-le (pasted old at text).buffer {i = at + length text} (omega (arith, paste_length))
          ∙ sym (drop_of_length-le old {i = at + length text} (omega arith))

  -- where the text fits: where it ends, and what stands up to there
  pub paste_end : at + length text ≤ length old → (pasted old at text).end ≡ at + length text
  paste_end h = rw (paste_fitting h)

  pub paste_upto : at + length text ≤ length old → take (at + length text) (pasted old at text).buffer ≡ take at old ++ text
  paste_upto h = rw (paste_fitting h) (take_at (take at old ++ text) (drop (at + length text) old) (at + length text) (length_of_pasted_prefix h))

-- nothing pasted changes nothing; it ends at its place, or where the buffer does
pub paste_nothing : (old : List ℕ) (at : ℕ) → pasted old at [] ≡ record { end = min at (length old); buffer = old }
unfolding pasted
paste_nothing old at =
    let e : at + 0 ≡ at = add-zero at in
    pasted_cong (rw e) (rw e (ap (λ (x : List ℕ). take at old ++ x ++ drop at old) (take-nil (length old - at))
    ∙ ap (λ (x : List ℕ). x ++ drop at old) (append-nil (take at old)) ∙ take-append-drop at old))

-- the first text reaches the buffer's end
paste_append_truncated : (old : List ℕ) (at : ℕ) (a b : List ℕ) → length old ≤ at + length a → pasted (pasted old at a).buffer (pasted old at a).end b
    ≡ pasted old at (a ++ b)
paste_append_truncated old at a b h =
    let k : length (a ++ b) ≡ length a + length b = length-append a b in
    let e : (pasted old at a).end ≡ length old = ap (λ (x : Pasted). x.end) (paste_truncated old at a h) in
    let n : length (pasted old at a).buffer ≡ length old = paste_length old at a in
    paste_past (pasted old at a).buffer (pasted old at a).end b (omega arith)
    ∙ pasted_cong n (ap (λ (x : Pasted). x.buffer) (paste_truncated old at a h)
    ∙ ap (λ (x : List ℕ). take at old ++ x) (sym (take-append-le (length old - at) a b (omega arith))))
    ∙ sym (paste_truncated old at (a ++ b) (omega arith))

-- the first text fits
paste_after_fitting : (old : List ℕ) (at : ℕ) (a b : List ℕ) → at + length a ≤ length old
    → pasted (take at old ++ a ++ drop (at + length a) old) (at + length a) b ≡ pasted old at (a ++ b)
unfolding pasted
paste_after_fitting old at a b h =
    let n = at + length a in
    let p = take at old ++ a in
    let d = drop n old in
    let k : length (a ++ b) ≡ length a + length b = length-append a b in
    let m : length p ≡ n = length_of_pasted_prefix old at a h in
    let l : length (p ++ d) ≡ length old = length-append p d ∙ omega (arith, length-drop n old) in
    let f : take n (p ++ d) ≡ p = take_at p d n m in
    let q : n + length b ≡ at + length (a ++ b) = omega arith in
    let g : drop (n + length b) (p ++ d) ≡ drop (at + length (a ++ b)) old =
    ap (λ (x : ℕ). drop (x + length b) (p ++ d)) (sym m) ∙ drop-append-add p d (length b) ∙ drop-drop (length b) n old
    ∙ ap (λ (x : ℕ). drop x old) q in
    let e : length old - at ≡ length a + (length old - n) = omega arith in
    let t : take (length old - at) (a ++ b) ≡ a ++ take (length old - n) b = ap (λ (x : ℕ). take x (a ++ b)) e ∙ take-append-add a b (length old - n) in
    pasted_cong (omega arith)
    (rw (f, g, l, t) (ap (λ (x : List ℕ). x ++ drop (at + length (a ++ b)) old) (append_assoc (take at old) a (take (length old - n) b))))

paste_append_fitting : (old : List ℕ) (at : ℕ) (a b : List ℕ) → at + length a ≤ length old → pasted (pasted old at a).buffer (pasted old at a).end b
    ≡ pasted old at (a ++ b)
paste_append_fitting old at a b h = ap (λ (x : Pasted). pasted x.buffer x.end b) (paste_fitting old at a h) ∙ paste_after_fitting old at a b h

-- one text pasted where another ended is the two pasted as one
pub paste_append : (old : List ℕ) (at : ℕ) (a b : List ℕ) → pasted (pasted old at a).buffer (pasted old at a).end b ≡ pasted old at (a ++ b)
paste_append old at a b = go (dec_le (at + length a) (length old))
  where
    go : Dec (at + length a ≤ length old) → pasted (pasted old at a).buffer (pasted old at a).end b ≡ pasted old at (a ++ b)
    go (yes h) = paste_append_fitting old at a b h
    go (no h) = paste_append_truncated old at a b (omega arith)

-- the same of two calls, one after the other
pub paste_then_paste : (l₀ : List ℕ) {l₁ l₂ : List ℕ} (a b : List ℕ) (at : ℕ) {r₁ r₂ : ℕ} → record { end = r₁; buffer = l₁ } ≡ pasted l₀ at a
    → record { end = r₂; buffer = l₂ } ≡ pasted l₁ r₁ b → record { end = r₂; buffer = l₂ } ≡ pasted l₀ at (a ++ b)
paste_then_paste l₀ a b at p q = q ∙ ap (λ (x : Pasted). pasted x.buffer x.end b) p ∙ paste_append l₀ at a b

-- nothing more put after a text
pub paste_nothing_after : (l₀ a : List ℕ) (at : ℕ) {l : List ℕ} {r : ℕ} → record { end = r; buffer = l } ≡ pasted l₀ at a → record { end = r; buffer = l }
    ≡ pasted l r []
paste_nothing_after l₀ a at p = p ∙ sym (ap (λ (x : Pasted). pasted x.buffer x.end []) p ∙ paste_append l₀ at a [] ∙ ap (pasted l₀ at) (append-nil a))

-- ---- what a caller learns of a text that was put: always, and where it tested that there is room
module _ (old : List ℕ) (at : ℕ) (text : List ℕ) {new : List ℕ} {r : ℕ} (put : record { end = r; buffer = new } ≡ pasted old at text) where
  -- the ending and the buffer, each by itself
  end_of_put : r ≡ (pasted old at text).end
  end_of_put = ap (λ (x : Pasted). x.end) put

  buffer_of_put : new ≡ (pasted old at text).buffer
  buffer_of_put = ap (λ (x : Pasted). x.buffer) put

  pub put_length : length new ≡ length old
  put_length = rw buffer_of_put (paste_length old at text)

  pub put_end_le : r ≤ length old
  put_end_le = rw end_of_put (paste_end_le old at text)

  pub put_end : at + length text ≤ length old → r ≡ at + length text
  put_end h = end_of_put ∙ paste_end old at text h

  pub put_upto : at + length text ≤ length old → take r new ≡ take at old ++ text
  put_upto h = rw (put_end h, buffer_of_put) (paste_upto old at text h)

  pub put_behind : at + length text ≤ length old → drop r new ≡ drop r old
  put_behind h = rw (put_end h, buffer_of_put) (paste_behind old at text)

-- ---- one byte
module _ (l : List ℕ) (at x r : ℕ) where
  pub paste_byte_inside : at < length l → r ≡ at + 1 → record { end = r; buffer = set l at x } ≡ pasted l at (x ∷ [])
  paste_byte_inside h e =
      pasted_cong e (set_split l at x h ∙ sym (append_snoc (take at l) x (drop (suc at) l)) ∙ ap (λ (k : ℕ). take at l ++ (x ∷ []) ++ drop k l)
      (sym (add-one at)))
      ∙ sym (paste_fitting l at (x ∷ []) (omega arith))

  pub paste_byte_past_end : length l ≤ at → r ≡ length l → record { end = r; buffer = l } ≡ pasted l at (x ∷ [])
  paste_byte_past_end h e = pasted_cong e refl ∙ sym (paste_past l at (x ∷ []) h)

-- ---- the first bytes of a text: none yet, one more, all
module _ (l₀ : List ℕ) (at : ℕ) (text : List ℕ) where
  pub paste_first_0 : (r : ℕ) → r ≡ min at (length l₀) → record { end = r; buffer = l₀ } ≡ pasted l₀ at (take 0 text)
  paste_first_0 r e = pasted_cong e refl ∙ sym (paste_nothing l₀ at)

  pub paste_first_suc : {l₁ l₂ : List ℕ} (i x : ℕ) {r₁ r₂ : ℕ} → i < length text → x ≡ get_or text i 0
      → record { end = r₁; buffer = l₁ } ≡ pasted l₀ at (take i text) → record { end = r₂; buffer = l₂ } ≡ pasted l₁ r₁ (x ∷ [])
      → record { end = r₂; buffer = l₂ } ≡ pasted l₀ at (take (i + 1) text)
  paste_first_suc i x h e p q = rw (add-one, take-suc text i 0, ← e) (paste_then_paste l₀ (take i text) (x ∷ []) at p q)

  pub paste_first_all : {l₁ : List ℕ} (i : ℕ) {r : ℕ} → length text ≤ i → record { end = r; buffer = l₁ } ≡ pasted l₀ at (take i text)
      → record { end = r; buffer = l₁ } ≡ pasted l₀ at text
  paste_first_all i h p = p ∙ ap (pasted l₀ at) (take_all i text h)
