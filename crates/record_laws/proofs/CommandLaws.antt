-- Laws of the commands of a record: what is known of a command that was read, and the commands that follow it. Assumes nothing.
use mathlib.Core.Path.{◌≡◌, refl, sym, ap, ◌∙◌, subst}
use mathlib.Core.Bool.{Bool, true, false}
use mathlib.Core.List.{List, [], ◌∷◌}
use mathlib.Core.Logic.{⊎_elim}
use Prim.Native.Nat.{ℕ, zero, suc, ◌+◌, ◌≤◌, ◌<◌}
use native.Mathlib.Omega.{arith}
use borrow.Author.Tests.{leb-false, lt-leb, le-leb}
use lib.ListN.{length}
use lib.Dec.{T, leb}
use Rattle.base_laws.specs.Sums.{pick, either}
use Rattle.record_laws.proofs.RefusalTable.{CommandRow, row_of_command_at, NumbersAt, ReadAt, no_refusal_of_read, command_iff_read_at}
use Rattle.record_laws.proofs.RefusalTable.{setup_iff_setup_at, call_byte_and_size}
use Rattle.record_laws.proofs.RefusalTable as row
use Rattle.call_header.specs.declared.CallHeader.{CallHeader}
use Rattle.call_header.specs.declared.CallHeader.TheVariants as header
use Rattle.record_rules.specs.declared.Command.{Command}
use Rattle.record_rules.specs.declared.Command.TheVariants.{Setup, Call, Refused}
use Rattle.bytes_rules.specs.Bytes.{byte_at}
use Rattle.record_rules.specs.Record.{command_at, call_size, command_number_of, refusal_offset_of, size_of_command, is_refused, commands_from, commands_of}

-- ---- one command

-- a command that is not refused lies whole in a record that is not too long, and has 3 bytes at least
pub record CommandInside (r : List ℕ) (at : ℕ) (c : Command) : Type 0 where
  pub record_le_60000 : length r ≤ 60000
  pub inside : at + size_of_command c ≤ length r
  pub size_ge_3 : 3 ≤ size_of_command c

RefusalBounds : Command → Type 0
RefusalBounds c = (8 ≤ command_number_of c) × (command_number_of c ≤ 11) × (refusal_offset_of c ≤ 60000)

-- the numbers of a call fit their types
unfoldable pub CallFits : CallHeader → ℕ → ℕ → Type 0
CallFits (header.Take processor size) count first = (processor < 256) × (size < 65536)
CallFits (header.Free processor address) count first = (processor < 256) × (address < 4294967296)
CallFits (header.NamedTake processor name size) count first = (processor < 256) × (name < 65536) × (size < 65536)
CallFits (header.NamedFree processor name) count first = (processor < 256) × (name < 65536)
CallFits (header.Drop processor) count first = (processor < 256) × (count < 256) × (first < 4294967296)

module _ (r : List ℕ) (at : ℕ) (c : Command) (e : c ≡ command_at r at) where
  pub command_inside : is_refused c ≡ false → CommandInside r at c
  unfolding ReadAt size_of_command
  command_inside f = go c ((command_iff_read_at r at c f).0 (sym e))
    where
      go : (d : Command) → ReadAt r at d → CommandInside r at d
      go (Setup processors superblocks spare p q) t = record { record_le_60000 = t.0; inside = t.3; size_ge_3 = omega arith }
      go (Call call count first) t = record { record_le_60000 = t.0; inside = t.3; size_ge_3 = (call_byte_and_size call count).2 }
      go (Refused number offset) t = absurd t

  -- a setup is first, a call is not
  pub setup_first_and_inside : (processors superblocks spare p q : ℕ) → c ≡ Setup processors superblocks spare p q → (length r ≤ 60000) × (at ≡ 0)
      × (at + 6 ≤ length r)
  setup_first_and_inside processors superblocks spare p q k = let t = (setup_iff_setup_at r at processors superblocks spare p q).0 (sym e ∙ k) in
      (t.0, t.1, t.3)

  pub call_later_and_inside : (call : CallHeader) (count first : ℕ) → c ≡ Call call count first
      → (length r ≤ 60000) × (0 < at) × (at + call_size call count ≤ length r)
  unfolding ReadAt is_refused
  call_later_and_inside call count first k = let t = (command_iff_read_at r at (Call call count first) refl).0 (sym e ∙ k) in (t.0, t.1, t.3)

  -- a record's own refusals are 8 to 11, at offsets up to the longest record's end
  pub refusal_number_and_offset_bounds : (number offset : ℕ) → c ≡ Refused number offset → (8 ≤ number) × (number ≤ 11) × (offset ≤ 60000)
  unfolding RefusalBounds command_number_of refusal_offset_of is_refused
  refusal_number_and_offset_bounds number offset k = subst RefusalBounds (sym e ∙ k) (go (row_of_command_at r at) (ap is_refused (sym e ∙ k)))
    where
      go : {d : Command} → CommandRow r at d → is_refused d ≡ true → RefusalBounds d
      go (row.record_too_long_lem l) f = (omega arith, omega arith, omega arith)
      go (row.unknown l u) f = (omega arith, omega arith, omega arith)
      go (row.misplaced l u m) f = (omega arith, omega arith, ⊎_elim (λ w. omega arith) (⊎_elim (λ w. omega arith) (λ w. omega arith)) m)
      go (row.truncated l u m t i) f = (omega arith, omega arith, omega arith)
      go (row.past_record_end l u m t i) f = (omega arith, omega arith, omega arith)
      go (row.read d h) f = absurd (subst T (sym f ∙ (no_refusal_of_read r at d h).1) tt)

  -- the numbers of a command fit their types where the record's bytes do
  module _ (bytes : (i : ℕ) → byte_at r i < 256) where
    pub setup_fits : (processors superblocks spare p q : ℕ) → c ≡ Setup processors superblocks spare p q → (processors < 256) × (superblocks < 256)
        × (spare < 256) × (p < 256) × (q < 256)
    setup_fits processors superblocks spare p q k =
        let t = (setup_iff_setup_at r at processors superblocks spare p q).0 (sym e ∙ k) in (
          omega (arith, bytes (at + 1)),
          omega (arith, bytes (at + 2)),
          omega (arith, bytes (at + 3)),
          omega (arith, bytes (at + 4)),
          omega (arith, bytes (at + 5)),
        )

    pub call_fits : (call : CallHeader) (count first : ℕ) → c ≡ Call call count first → CallFits call count first
    unfolding ReadAt NumbersAt CallFits is_refused
    call_fits call count first k = let t = (command_iff_read_at r at (Call call count first) refl).0 (sym e ∙ k) in go call (omega arith) t.4
      where
        go : (call : CallHeader) → at ≤ 60000 → NumbersAt r at call count first → CallFits call count first
        go (header.Take processor size) l t = (omega (arith, bytes (at + 1)), omega (arith, bytes (at + 2), bytes (at + 3)))
        go (header.Free processor address) l t =
            (omega (arith, bytes (at + 1)), omega (arith, bytes (at + 2), bytes (at + 3), bytes (at + 4), bytes (at + 5)))
        go (header.NamedTake processor name size) l t =
            (omega (arith, bytes (at + 1)), omega (arith, bytes (at + 2), bytes (at + 3)), omega (arith, bytes (at + 4), bytes (at + 5)))
        go (header.NamedFree processor name) l t = (omega (arith, bytes (at + 1)), omega (arith, bytes (at + 2), bytes (at + 3)))
        go (header.Drop processor) l t = (omega (arith, bytes (at + 1)), omega (arith, bytes (at + 2)), omega arith)

-- ---- the commands that follow

-- the number of commands at most is without effect once it is above the bytes left
pub commands_from_count_irrelevant : (m n : ℕ) (r : List ℕ) (at : ℕ) → 0 < m → 0 < n → length r < at + m → length r < at + n
    → commands_from m r at ≡ commands_from n r at
unfolding commands_from
commands_from_count_irrelevant zero n r at p q h k = absurd (omega arith)
commands_from_count_irrelevant (suc m) zero r at p q h k = absurd (omega arith)
commands_from_count_irrelevant (suc m) (suc n) r at p q h k =
    ap (λ (l : List Command). c ∷ l) (go (commands_from_count_irrelevant m n r (at + size_of_command c)) (is_refused c) refl
    (leb (length r) (at + size_of_command c)) refl)
  where
    c : Command
    c = command_at r at

    Same : Type 0
    Same = commands_from m r (at + size_of_command c) ≡ commands_from n r (at + size_of_command c)

    go : (0 < m → 0 < n → length r < at + size_of_command c + m → length r < at + size_of_command c + n → Same)
        → (t : Bool) → is_refused c ≡ t → (u : Bool) → leb (length r) (at + size_of_command c) ≡ u
        → pick (either t u) [] (commands_from m r (at + size_of_command c)) ≡ pick (either t u) [] (commands_from n r (at + size_of_command c))
    go same true e u f = refl
    go same false e true f = refl
    go same false e false f =
        let d = command_inside r at c refl e in
        let l = leb-false (length r) (at + size_of_command c) f in
        same (omega arith) (omega arith) (omega arith) (omega arith)

-- the commands from a position on, and what is left of them at a position that may be the record's end
abbrev pub commands_at : List ℕ → ℕ → List Command
commands_at r at = commands_from (suc (length r)) r at

unfoldable pub remaining : List ℕ → ℕ → List Command
remaining r at = pick (leb (length r) at) [] (commands_at r at)

-- how a loop starts, goes on, and ends
pub commands_of_is_commands_at_0 : (r : List ℕ) → commands_of r ≡ commands_at r 0
unfolding commands_of
commands_of_is_commands_at_0 r = refl

pub remaining_inside : (r : List ℕ) (at : ℕ) → at < length r → remaining r at ≡ commands_at r at
unfolding remaining
remaining_inside r at h = rw (lt-leb (length r) at h)

pub remaining_end : (r : List ℕ) (at : ℕ) → length r ≤ at → remaining r at ≡ []
unfolding remaining
remaining_end r at h = rw (le-leb (length r) at h)

pub commands_refused : (r : List ℕ) (at : ℕ) (c : Command) (number offset : ℕ) → c ≡ command_at r at → c ≡ Refused number offset
    → commands_at r at ≡ Refused number offset ∷ []
unfolding commands_from is_refused
commands_refused r at c number offset e k = rw (← e, k)

pub commands_next : (r : List ℕ) (at : ℕ) (c : Command) → c ≡ command_at r at → is_refused c ≡ false
    → commands_at r at ≡ c ∷ remaining r (at + size_of_command c)
unfolding commands_from remaining
commands_next r at c e f = rw (← e, f) (ap (λ (l : List Command). c ∷ l) (go (leb (length r) (at + size_of_command c)) refl))
  where
    go : (t : Bool) → leb (length r) (at + size_of_command c) ≡ t
        → pick t [] (commands_from (length r) r (at + size_of_command c)) ≡ pick t [] (commands_from (suc (length r)) r (at + size_of_command c))
    go true h = refl
    go false h =
        let d = command_inside r at c e f in
        let l = leb-false (length r) (at + size_of_command c) h in
        commands_from_count_irrelevant (length r) (suc (length r)) r (at + size_of_command c) (omega arith) (omega arith) (omega arith) (omega arith)

module _ (r : List ℕ) (at : ℕ) (c : Command) (e : c ≡ command_at r at) where
  pub commands_setup : (processors superblocks spare p q : ℕ) → c ≡ Setup processors superblocks spare p q
      → commands_at r at ≡ Setup processors superblocks spare p q ∷ remaining r (at + 6)
  unfolding is_refused size_of_command
  commands_setup processors superblocks spare p q k = rw k at (commands_next r at c e (ap is_refused k))

  pub commands_call : (call : CallHeader) (count first : ℕ) → c ≡ Call call count first
      → commands_at r at ≡ Call call count first ∷ remaining r (at + call_size call count)
  unfolding is_refused size_of_command
  commands_call call count first k = rw k at (commands_next r at c e (ap is_refused k))
