-- The command at a position, by the branches in which the code meets it. Assumes nothing.
use Rattle.std.proofs.Common.{◌≡◌, ℕ, zero, suc, ◌+◌, ◌-◌, ◌*◌, ◌≤◌, ◌<◌, List, [], ◌∷◌, length, take, drop, get_or, ap, ◌∙◌, arith}
use Rattle.std.proofs.lemmas.List.{take_rest, get_or-drop, length-drop}
use Rattle.std.specs.Int.{w16, w32, from_le_bytes}
use borrow.Author.Tests.{lt-ltb, le-ltb, lt-leb, le-leb, eq-eqb, ne_eqb}
use Rattle.call_header.specs.declared.CallHeader.TheVariants as header
use Rattle.record_rules.specs.declared.Command.{Command}
use Rattle.record_rules.specs.declared.Command.TheVariants.{Call, Refused}
use Rattle.bytes_rules.specs.Bytes.{byte_at, two_at, four_at}
use Rattle.record_rules.specs.Record.{unless_truncated, unless_first, setup_at, take_at, free_at, named_take_at, named_free_at, drop_at}
use Rattle.record_rules.specs.Record.{command_by_first_byte, command_at}

-- the bytes of a record from a position on, as the code slices it
abbrev pub rest_of : List ℕ → ℕ → List ℕ
rest_of r at = take (length r - at) (drop at r)

-- and byte i of them
abbrev pub byte_in : List ℕ → ℕ → ℕ → ℕ
byte_in r at i = get_or (rest_of r at) i 0

module _ (r : List ℕ) (at : ℕ) where
  length_of_rest : length (rest_of r at) ≡ length r - at
  length_of_rest = ap length (take_rest r at) ∙ length-drop at r

  byte_of_rest : (i : ℕ) → byte_in r at i ≡ byte_at r (at + i)
  byte_of_rest i = ap (λ (l : List ℕ). get_or l i 0) (take_rest r at) ∙ get_or-drop at r i 0

  two_of_rest : (i x : ℕ) → x ≡ from_le_bytes w16 (byte_in r at i ∷ byte_in r at (i + 1) ∷ []) → x ≡ two_at r (at + i)
  two_of_rest i x h =
      let next : byte_at r (at + (i + 1)) ≡ byte_at r (at + i + 1) = ap (byte_at r) (omega arith) in
      omega (arith, h, byte_of_rest i, byte_of_rest (i + 1), next)

  four_of_rest : (i x : ℕ)
      → x ≡ from_le_bytes w32 (byte_in r at i ∷ byte_in r at (i + 1) ∷ byte_in r at (i + 2) ∷ byte_in r at (i + 3) ∷ [])
      → x ≡ four_at r (at + i)
  four_of_rest i x h =
      let next : byte_at r (at + (i + 1)) ≡ byte_at r (at + i + 1) = ap (byte_at r) (omega arith) in
      let third : byte_at r (at + (i + 2)) ≡ byte_at r (at + i + 2) = ap (byte_at r) (omega arith) in
      let fourth : byte_at r (at + (i + 3)) ≡ byte_at r (at + i + 2 + 1) = ap (byte_at r) (omega arith) in
      omega (arith, h, byte_of_rest i, byte_of_rest (i + 1), byte_of_rest (i + 2), byte_of_rest (i + 3), next, third, fourth)

  -- ---- a command of n bytes, whole or not, and one that is not first
  whole : (n : ℕ) (c : Command) → at < length r → n ≤ length (rest_of r at) → c ≡ unless_truncated r at n c
  unfolding unless_truncated
  whole n c inside enough =
      let h : at + n ≤ length r = omega (arith, length_of_rest) in
      rw (le-leb (at + n) (length r) h)

  truncated : (n : ℕ) (c : Command) → length (rest_of r at) < n → Refused 9 at ≡ unless_truncated r at n c
  unfolding unless_truncated
  truncated n c few =
      let h : length r < at + n = omega (arith, length_of_rest) in
      rw (lt-leb (at + n) (length r) h)

  later : (c : Command) → 0 < at → c ≡ unless_first at c
  unfolding unless_first
  later c h =
      let n : at ≡ 0 → ⊥ = omega arith in
      rw (ne_eqb at 0 n)

  -- ---- each call, read of those bytes
  module _ (inside : at < length r) (behind : 0 < at) (c : Command) where
    pub take_of_rest : (size : ℕ) → 4 ≤ length (rest_of r at) → size ≡ from_le_bytes w16 (byte_in r at 2 ∷ byte_in r at 3 ∷ [])
        → c ≡ Call (header.Take (byte_in r at 1) size) 0 0 → c ≡ take_at r at
    unfolding take_at
    take_of_rest size enough s e =
        e ∙ rw (byte_of_rest 1, two_of_rest 2 size s) (whole 4 _ inside enough ∙ later _ behind)

    pub free_of_rest : (address : ℕ) → 6 ≤ length (rest_of r at)
        → address ≡ from_le_bytes w32 (byte_in r at 2 ∷ byte_in r at 3 ∷ byte_in r at 4 ∷ byte_in r at 5 ∷ [])
        → c ≡ Call (header.Free (byte_in r at 1) address) 0 0 → c ≡ free_at r at
    unfolding free_at
    free_of_rest address enough a e =
        e ∙ rw (byte_of_rest 1, four_of_rest 2 address a) (whole 6 _ inside enough ∙ later _ behind)

    pub named_take_of_rest : (name size : ℕ) → 6 ≤ length (rest_of r at)
        → name ≡ from_le_bytes w16 (byte_in r at 2 ∷ byte_in r at 3 ∷ [])
        → size ≡ from_le_bytes w16 (byte_in r at 4 ∷ byte_in r at 5 ∷ [])
        → c ≡ Call (header.NamedTake (byte_in r at 1) name size) 0 0 → c ≡ named_take_at r at
    unfolding named_take_at
    named_take_of_rest name size enough n s e =
        e ∙ rw (byte_of_rest 1, two_of_rest 2 name n, two_of_rest 4 size s) (whole 6 _ inside enough ∙ later _ behind)

    pub named_free_of_rest : (name : ℕ) → 4 ≤ length (rest_of r at) → name ≡ from_le_bytes w16 (byte_in r at 2 ∷ byte_in r at 3 ∷ [])
        → c ≡ Call (header.NamedFree (byte_in r at 1) name) 0 0 → c ≡ named_free_at r at
    unfolding named_free_at
    named_free_of_rest name enough n e =
        e ∙ rw (byte_of_rest 1, two_of_rest 2 name n) (whole 4 _ inside enough ∙ later _ behind)

    pub drop_of_rest : 3 + 4 * byte_in r at 2 ≤ length (rest_of r at)
        → c ≡ Call (header.Drop (byte_in r at 1)) (byte_in r at 2) (at + 3) → c ≡ drop_at r at
    unfolding drop_at
    drop_of_rest enough e =
        e ∙ rw (byte_of_rest 1, byte_of_rest 2) (whole (3 + 4 * byte_at r (at + 2)) _ inside (omega (arith, enough, byte_of_rest 2)) ∙ later _ behind)

  -- ---- a call that the record ends inside
  module _ (behind : 0 < at) where
    pub truncated_take : length (rest_of r at) < 4 → Refused 9 at ≡ take_at r at
    unfolding take_at
    truncated_take few = truncated 4 _ few ∙ later _ behind

    pub truncated_free : length (rest_of r at) < 6 → Refused 9 at ≡ free_at r at
    unfolding free_at
    truncated_free few = truncated 6 _ few ∙ later _ behind

    pub truncated_named_take : length (rest_of r at) < 6 → Refused 9 at ≡ named_take_at r at
    unfolding named_take_at
    truncated_named_take few = truncated 6 _ few ∙ later _ behind

    pub truncated_named_free : length (rest_of r at) < 4 → Refused 9 at ≡ named_free_at r at
    unfolding named_free_at
    truncated_named_free few = truncated 4 _ few ∙ later _ behind

    -- a drop has three bytes at least, and its addresses behind them
    pub truncated_drop : length (rest_of r at) < 3 → Refused 9 at ≡ drop_at r at
    unfolding drop_at
    truncated_drop few = truncated (3 + 4 * byte_at r (at + 2)) _ (omega (arith, few)) ∙ later _ behind

    pub truncated_addresses : length (rest_of r at) < 3 + 4 * byte_in r at 2 → Refused 9 at ≡ drop_at r at
    unfolding drop_at
    truncated_addresses few = truncated (3 + 4 * byte_at r (at + 2)) _ (omega (arith, few, byte_of_rest 2)) ∙ later _ behind

  -- ---- the command, by its first byte
  module _ (c : Command) where
    pub command_by_byte_0 : byte_at r at ≡ 0 → c ≡ setup_at r at → c ≡ command_by_first_byte r at
    unfolding command_by_first_byte
    command_by_byte_0 is e = rw is e

    pub command_by_byte_1 : byte_at r at ≡ 1 → c ≡ take_at r at → c ≡ command_by_first_byte r at
    unfolding command_by_first_byte
    command_by_byte_1 is e = rw is e

    pub command_by_byte_2 : byte_at r at ≡ 2 → c ≡ free_at r at → c ≡ command_by_first_byte r at
    unfolding command_by_first_byte
    command_by_byte_2 is e = rw is e

    pub command_by_byte_3 : byte_at r at ≡ 3 → c ≡ named_take_at r at → c ≡ command_by_first_byte r at
    unfolding command_by_first_byte
    command_by_byte_3 is e = rw is e

    pub command_by_byte_4 : byte_at r at ≡ 4 → c ≡ named_free_at r at → c ≡ command_by_first_byte r at
    unfolding command_by_first_byte
    command_by_byte_4 is e = rw is e

    pub command_by_byte_5 : byte_at r at ≡ 5 → c ≡ drop_at r at → c ≡ command_by_first_byte r at
    unfolding command_by_first_byte
    command_by_byte_5 is e = rw is e

  -- where it may not stand
  pub misplaced_call : (n : ℕ) → byte_at r at ≡ n → 0 < n → n ≤ 5 → at ≡ 0 → Refused 10 at ≡ command_by_first_byte r at
  unfolding command_by_first_byte take_at free_at named_take_at named_free_at drop_at unless_first
  misplaced_call zero is low high first = absurd (omega arith)
  misplaced_call (suc zero) is low high first = rw (is, first)
  misplaced_call (suc (suc zero)) is low high first = rw (is, first)
  misplaced_call (suc (suc (suc zero))) is low high first = rw (is, first)
  misplaced_call (suc (suc (suc (suc zero)))) is low high first = rw (is, first)
  misplaced_call (suc (suc (suc (suc (suc zero))))) is low high first = rw (is, first)
  misplaced_call (suc (suc (suc (suc (suc (suc n)))))) is low high first = absurd (omega arith)

  pub unknown_command_byte : 5 < byte_at r at → Refused 8 at ≡ command_by_first_byte r at
  unfolding command_by_first_byte
  unknown_command_byte high =
      rw (
        ne_eqb (byte_at r at) 0 (λ e. omega arith),
        ne_eqb (byte_at r at) 1 (λ e. omega arith),
        ne_eqb (byte_at r at) 2 (λ e. omega arith),
        ne_eqb (byte_at r at) 3 (λ e. omega arith),
        ne_eqb (byte_at r at) 4 (λ e. omega arith),
        ne_eqb (byte_at r at) 5 (λ e. omega arith),
      )

  -- ---- the command at a position
  module _ (c : Command) where
    pub command_at_of_too_long_record : 60000 < length r → c ≡ Refused 11 0 → c ≡ command_at r at
    unfolding command_at
    command_at_of_too_long_record long e = rw (lt-ltb 60000 (length r) long) e

    pub command_at_is_command_by_first_byte : length r ≤ 60000 → at < length r → c ≡ command_by_first_byte r at → c ≡ command_at r at
    unfolding command_at
    command_at_is_command_by_first_byte short inside e = rw (le-ltb 60000 (length r) short, lt-ltb at (length r) inside) e

    pub command_at_of_refusal : (told : Command) → length r ≤ 60000 → at < length r → told ≡ command_by_first_byte r at → c ≡ told → c ≡ command_at r at
    command_at_of_refusal told short inside read e = command_at_is_command_by_first_byte short inside (e ∙ read)

    pub command_at_of_empty_record : length r ≤ 60000 → length r ≤ at → at ≡ 0 → c ≡ Refused 10 0 → c ≡ command_at r at
    unfolding command_at
    command_at_of_empty_record short past first e = rw (le-ltb 60000 (length r) short, le-ltb at (length r) past, eq-eqb at 0 first) e

    pub command_at_past_end : length r ≤ 60000 → length r ≤ at → (at ≡ 0 → ⊥) → c ≡ Refused 9 (length r) → c ≡ command_at r at
    unfolding command_at
    command_at_past_end short past later e = rw (le-ltb 60000 (length r) short, le-ltb at (length r) past, ne_eqb at 0 later) e
