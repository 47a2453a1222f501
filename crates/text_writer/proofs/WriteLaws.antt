-- Texts written one after another. Assumes nothing.
use Rattle.std.proofs.Common.{◌≡◌, ℕ, List, [], ◌∷◌, ◌++◌, ◌+◌, ◌-◌, ◌<◌, ◌≤◌, min, length, take, drop, slice_index, slice_set}
use Rattle.std.proofs.Common.{ap, refl, ◌∙◌, append_assoc, arith}
use Rattle.std.proofs.lemmas.List.{take_min, drop_min, drop-drop}
use Rattle.text_rules.specs.Text.{Pasted, pasted}
use Rattle.text_rules.proofs.PasteLaws.{paste_append, paste_byte_inside, paste_byte_past_end}
use Rattle.text_writer.specs.declared.Text.{Text}
use Rattle.text_writer.specs.Written.{written}

-- a text after another is both as one
pub written_append : (t : Text) (a b : List ℕ) → written (written t a) b ≡ written t (a ++ b)
unfolding written
written_append t a b =
    ap (λ (p : Pasted). record { buffer = record t.buffer { now = p.buffer }; end = p.end }) (paste_append t.buffer.now t.end a b)

-- by these a few texts are one
pub ruleset one_after_another = (written_append, append_assoc)

-- for a row of many texts: a text and another after it, and one of two parts after it
module _ (t : Text) {t₁ t₂ : Text} where
  pub written_then : (a b : List ℕ) → t₁ ≡ written t a → t₂ ≡ written t₁ b → t₂ ≡ written t (a ++ b)
  written_then a b p q = rw (q, p) (written_append t a b)

  pub written_then_both : (a b c : List ℕ) → t₁ ≡ written t a → t₂ ≡ written t₁ (b ++ c) → t₂ ≡ written t (a ++ b ++ c)
  written_then_both a b c p q = rw append_assoc (written_then a (b ++ c) p q)

pub ruleset in_a_row = (written_then_both, written_then)

-- what was lent, once the text lets it go: it is the same buffer, so that a caller knows what is in it
module _ (t : Text) (a : List ℕ) where
  pub written_name : (written t a).buffer.ghost_name ≡ t.buffer.ghost_name
  unfolding written
  written_name = refl

  pub written_end : (written t a).end ≡ (pasted t.buffer.now t.end a).end
  unfolding written
  written_end = refl

  pub written_now : (written t a).buffer.now ≡ (pasted t.buffer.now t.end a).buffer
  unfolding written
  written_now = refl

pub ruleset let_go = (written_name, written_end, written_now)

-- the part of a text that fits, copied to where there is room
module _ (text : List ℕ) (start n : ℕ) where
  copied_pasted : (old : List ℕ) (at : ℕ) → start ≡ min at (length old) → n ≡ min (length text) (length old - start)
      → ◌≡◌ {A = Pasted} (record { end = start + n; buffer = take start old ++ (take n text ++ drop n (drop start old)) }) (pasted old at text)
  unfolding pasted
  copied_pasted old at s k =
      let m : n ≡ min (length old - at) (length text) = omega arith in
      let e : start + n ≡ min (at + length text) (length old) = omega arith in
      let before : take start old ≡ take at old = rw s (take_min at old) in
      let copied : take n text ≡ take (length old - at) text = rw m (take_min (length old - at) text) in
      let behind : drop n (drop start old) ≡ drop (at + length text) old = drop-drop n start old ∙ ap (λ j. drop j old) e ∙ drop_min (at + length text) old in
      rw (e, before, copied, behind, append_assoc)

  pub written_copied : (t : Text) (copied : List ℕ) → start ≡ min t.end (length t.buffer.now) → n ≡ min (length text) (length t.buffer.now - start)
      → copied ≡ take n text
      → record {
        buffer = record t.buffer { now = take start t.buffer.now ++ (copied ++ drop (start + n - start) (drop start t.buffer.now)) };
        end = start + n;
      }
      ≡ written t text
  unfolding written
  written_copied t copied s k e =
      let d : start + n - start ≡ n = omega arith in
      rw (d, e) (ap (λ (p : Pasted). record { buffer = record t.buffer { now = p.buffer }; end = p.end }) (copied_pasted t.buffer.now t.end s k))

-- one byte, where there is a place for it, and where there is none
module _ (t : Text) (byte : ℕ) where
  pub written_byte : t.end < length t.buffer.now
      → record { buffer = record t.buffer { now = slice_set t.buffer.now t.end byte }; end = t.end + 1 } ≡ written t (byte ∷ [])
  unfolding written
  written_byte h =
      ap (λ (p : Pasted). record { buffer = record t.buffer { now = p.buffer }; end = p.end })
      (paste_byte_inside t.buffer.now t.end byte (t.end + 1) h refl)

  pub written_no_byte : length t.buffer.now ≤ t.end → record { buffer = t.buffer; end = length t.buffer.now } ≡ written t (byte ∷ [])
  unfolding written
  written_no_byte h =
      ap (λ (p : Pasted). record { buffer = record t.buffer { now = p.buffer }; end = p.end })
      (paste_byte_past_end t.buffer.now t.end byte (length t.buffer.now) h refl)

-- a text of one byte is that byte
only_byte : (text : List ℕ) → length text ≡ 1 → slice_index text 0 ∷ [] ≡ text
only_byte [] h = absurd (omega arith)
only_byte (x ∷ []) h = refl
only_byte (x ∷ y ∷ xs) h = absurd (omega arith)

pub written_only_byte : (t u : Text) (text : List ℕ) → length text ≡ 1 → u ≡ written t (slice_index text 0 ∷ []) → u ≡ written t text
written_only_byte t u text h e = rw (e, only_byte text h)
