-- The commands of a record lie one behind the other, and a refusal's offset is where its own command begins. Assumes nothing.
use mathlib.Core.Path.{◌≡◌, refl, sym, ap, ◌∙◌, subst}
use mathlib.Core.Bool.{Bool, true, false}
use mathlib.Core.List.{List, [], ◌∷◌, ◌++◌}
use mathlib.Core.Logic.{◌⊎◌, inl, inr}
use Prim.Native.Nat.{ℕ, zero, suc, ◌+◌, ◌≤◌, ◌<◌}
use native.Mathlib.Nat.{lt_of_not-le}
use native.Mathlib.Decide.{dec_le}
use native.Mathlib.Omega.{arith}
use borrow.Author.Tests.{leb-false}
use lib.ListN.{length}
use lib.Dec.{T, leb}
use Rattle.base_laws.specs.Sums.{pick, either}
use Rattle.record_rules.specs.declared.Command.{Command}
use Rattle.record_rules.specs.declared.Command.TheVariants.{Setup, Call, Refused}
use Rattle.record_rules.specs.Record.{command_at, size_of_command, is_refused, commands_from, commands_of}
use Rattle.record_laws.proofs.RefusalTable.{CommandRow, row_of_command_at, no_refusal_of_read}
use Rattle.record_laws.proofs.RefusalTable as row
use Rattle.record_laws.proofs.CommandLaws.{command_inside}

-- the bytes of these commands
unfoldable pub bytes_in : List Command → ℕ
bytes_in [] = 0
bytes_in (c ∷ commands) = size_of_command c + bytes_in commands

-- where a reader asks: at the record's start, or at a byte of a record that is not too long
ReadPosition : List ℕ → ℕ → Type 0
ReadPosition r at = (at ≡ 0) ⊎ ((length r ≤ 60000) × (at < length r))

refusal_offset_is_position : (r : List ℕ) (at : ℕ) → ReadPosition r at → {c : Command} → CommandRow r at c → (number offset : ℕ)
    → c ≡ Refused number offset → offset ≡ at
unfolding ReadPosition is_refused
refusal_offset_is_position r at (inl z) (row.record_too_long_lem l) number offset e = cc
refusal_offset_is_position r at (inr a) (row.record_too_long_lem l) number offset e = absurd (omega arith)
refusal_offset_is_position r at a (row.unknown l u) number offset e = cc
refusal_offset_is_position r at a (row.misplaced l u m) number offset e = cc
refusal_offset_is_position r at a (row.truncated l u m c i) number offset e = cc
refusal_offset_is_position r at (inl z) (row.past_record_end l u m c i) number offset e = absurd (m (inr (inr (z, omega arith))))
refusal_offset_is_position r at (inr a) (row.past_record_end l u m c i) number offset e = absurd (omega arith)
refusal_offset_is_position r at a (row.read c h) number offset e = absurd (subst T (sym (ap is_refused e) ∙ (no_refusal_of_read r at c h).1) tt)

size_of_refused_command : (c : Command) → is_refused c ≡ true → size_of_command c ≡ 0
unfolding is_refused size_of_command
size_of_refused_command (Setup processors superblocks spare p q) e = absurd (subst T (sym e) tt)
size_of_refused_command (Call call count first) e = absurd (subst T (sym e) tt)
size_of_refused_command (Refused number offset) e = refl

-- a list with something in it is not empty
nil_not_append_cons : (before after : List Command) (c : Command) → [] ≡ before ++ (c ∷ after) → ⊥
nil_not_append_cons [] after c e = let z : ◌≡◌ {A = ℕ} 0 1 = cc in omega arith
nil_not_append_cons (d ∷ before) after c e = let z : ◌≡◌ {A = ℕ} 0 1 = cc in omega arith

refused_offset_from : (most : ℕ) (r : List ℕ) (at : ℕ) → ReadPosition r at → (before after : List Command) (number offset : ℕ)
    → commands_from most r at ≡ before ++ (Refused number offset ∷ after) → (offset ≡ at + bytes_in before) × (after ≡ [])
unfolding commands_from bytes_in is_refused ReadPosition
refused_offset_from zero r at a before after number offset e = absurd (nil_not_append_cons before after (Refused number offset) e)
refused_offset_from (suc most) r at a [] after number offset e = (
  let z = refusal_offset_is_position r at a (row_of_command_at r at) number offset here in
      omega arith,
  sym behind,
)
  where
    c : Command
    c = command_at r at

    here : c ≡ Refused number offset
    here = cc

    none : is_refused c ≡ true
    none = ap is_refused here

    rest : pick (either (is_refused c) (leb (length r) (at + size_of_command c))) [] (commands_from most r (at + size_of_command c)) ≡ after
    rest = cc

    behind : [] ≡ after
    behind = rw none at rest
refused_offset_from (suc most) r at a (d ∷ before) after number offset e =
    go (refused_offset_from most r (at + size_of_command c)) (is_refused c) refl (leb (length r) (at + size_of_command c)) refl rest
  where
    c : Command
    c = command_at r at

    here : c ≡ d
    here = cc

    Rest : List Command
    Rest = before ++ (Refused number offset ∷ after)

    rest : pick (either (is_refused c) (leb (length r) (at + size_of_command c))) [] (commands_from most r (at + size_of_command c)) ≡ Rest
    rest = cc

    go : (ReadPosition r (at + size_of_command c) → (before after : List Command) (number offset : ℕ)
        → commands_from most r (at + size_of_command c) ≡ before ++ (Refused number offset ∷ after) → (offset ≡ at + size_of_command c + bytes_in before)
        × (after ≡ []))
        → (t : Bool) → is_refused c ≡ t → (u : Bool) → leb (length r) (at + size_of_command c) ≡ u
        → pick (either t u) [] (commands_from most r (at + size_of_command c)) ≡ Rest → (offset ≡ at + (size_of_command d + bytes_in before)) × (after ≡ [])
    go again true f u g h = absurd (nil_not_append_cons before after (Refused number offset) h)
    go again false f true g h = absurd (nil_not_append_cons before after (Refused number offset) h)
    go again false f false g h =
        let whole = command_inside r at c refl f in
        let more = leb-false (length r) (at + size_of_command c) g in
        let later = again (inr (omega arith, omega arith)) before after number offset h in
        (let same = ap size_of_command here in omega arith, later.1)

-- B is "the command's byte offset": the bytes of the commands before it; and nothing is read behind a refusal
pub refused_offset : (r : List ℕ) (before after : List Command) (number offset : ℕ) → commands_of r ≡ before ++ (Refused number offset ∷ after)
    → (offset ≡ bytes_in before) × (after ≡ [])
unfolding commands_of ReadPosition
refused_offset r before after number offset e = let z = refused_offset_from (suc (length r)) r 0 (inl refl) before after number offset e in (omega arith, z.1)

-- the commands of a record have no more bytes than it has
bytes_in_commands_from_le : (most : ℕ) (r : List ℕ) (at : ℕ) → at ≤ length r → at + bytes_in (commands_from most r at) ≤ length r
unfolding commands_from bytes_in
bytes_in_commands_from_le zero r at h = omega arith
bytes_in_commands_from_le (suc most) r at h = go (bytes_in_commands_from_le most r (at + size_of_command c)) (is_refused c) refl
    (leb (length r) (at + size_of_command c)) refl
  where
    c : Command
    c = command_at r at

    Rest : Bool → Bool → List Command
    Rest t u = pick (either t u) [] (commands_from most r (at + size_of_command c))

    go : (at + size_of_command c ≤ length r → at + size_of_command c + bytes_in (commands_from most r (at + size_of_command c)) ≤ length r)
        → (t : Bool) → is_refused c ≡ t → (u : Bool) → leb (length r) (at + size_of_command c) ≡ u → at + (size_of_command c + bytes_in (Rest t u)) ≤ length r
    go again true f u g = let none = size_of_refused_command c f in omega arith
    go again false f true g = let whole = command_inside r at c refl f in omega arith
    go again false f false g = let whole = command_inside r at c refl f in let z = again (omega arith) in omega arith

pub bytes_in_commands_le_length : (r : List ℕ) → bytes_in (commands_of r) ≤ length r
unfolding commands_of
bytes_in_commands_le_length r = let z = bytes_in_commands_from_le (suc (length r)) r 0 (omega arith) in omega arith

-- nor more than 60000
pub bytes_in_commands_le_60000 : (r : List ℕ) → bytes_in (commands_of r) ≤ 60000
unfolding commands_of commands_from bytes_in is_refused size_of_command
bytes_in_commands_le_60000 r = go (dec_le (length r) 60000)
  where
    go : Dec (length r ≤ 60000) → bytes_in (commands_of r) ≤ 60000
    go (yes short) = let z = bytes_in_commands_le_length r in omega arith
    go (no n) = rw (row.too_long_refused_11_at_0 r 0 (lt_of_not-le n)) (omega arith)
