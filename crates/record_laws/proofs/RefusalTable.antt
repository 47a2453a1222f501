-- The table of "Refused calls" for the commands of a record: which number is given exactly when, in its order, and which command is
-- read exactly when. Assumes nothing.
use mathlib.Core.Path.{◌≡◌, refl, sym, ap, ◌∙◌, subst}
use mathlib.Core.Bool.{true, false}
use mathlib.Core.List.{List, [], ◌∷◌}
use mathlib.Core.Logic.{◌↔◌, ◌⊎◌, inl, inr, ⊎_elim}
use Prim.Native.Nat.{ℕ, ◌+◌, ◌*◌, ◌≤◌, ◌<◌}
use native.Mathlib.Omega.{arith}
use borrow.Author.Tests.{ltb-true, ltb-false, leb-true, leb-false, eqb-true, eqb-false, lt-ltb, le-ltb, le-leb, eq-eqb, ne_eqb}
use lib.ListN.{length, get_or}
use lib.Dec.{T, eqb, leb, ltb}
use Rattle.base_laws.specs.Sums.{pick, either}
use Rattle.base_laws.proofs.TestLaws.{pick_elim}
use Rattle.call_header.specs.declared.CallHeader.{CallHeader}
use Rattle.call_header.specs.declared.CallHeader.TheVariants as header
use Rattle.record_rules.specs.declared.Command.{Command}
use Rattle.record_rules.specs.declared.Command.TheVariants.{Setup, Call, Refused}
use Rattle.bytes_rules.specs.Bytes.{byte_at, two_at, four_at}
use Rattle.bytes_rules.proofs.FoursLaws.{length_of_fours_at, fours_at_number}
use Rattle.record_rules.specs.Record.{unless_truncated, setup_at, unless_first, take_at, free_at, named_take_at, named_free_at, drop_at, addresses_in}
use Rattle.record_rules.specs.Record.{command_by_first_byte, command_at, call_byte, call_numbers, call_size, command_number_of, refusal_offset_of, command_byte}
use Rattle.record_rules.specs.Record.{numbers_of, beside_header, HasNumbersOf, is_refused}

-- a command that is the rules' has their number, offset, command byte and numbers, and the same beside its header
pub has_numbers_of_equal : (command rules : Command) → command ≡ rules → HasNumbersOf command rules
has_numbers_of_equal command rules e =
    record {
      number_is = ap command_number_of e;
      offset_is = ap refusal_offset_of e;
      byte_is = ap command_byte e;
      numbers_are = ap numbers_of e;
      beside_is = ap beside_header e;
    }

-- the command that a number, an offset, a command byte, the numbers and what stands beside a header tell
command_with : ℕ → ℕ → List ℕ → List ℕ → List ℕ → Command
command_with number offset [] l beside = Refused number offset
command_with number offset (byte ∷ _) l beside =
    pick (eqb byte 0) (Setup (get_or l 0 0) (get_or l 1 0) (get_or l 2 0) (get_or l 3 0) (get_or l 4 0))
    (Call
    (pick (eqb byte 1) (header.Take (get_or l 0 0) (get_or l 1 0))
    (pick (eqb byte 2) (header.Free (get_or l 0 0) (get_or l 1 0))
    (pick (eqb byte 3) (header.NamedTake (get_or l 0 0) (get_or l 1 0) (get_or l 2 0))
    (pick (eqb byte 4) (header.NamedFree (get_or l 0 0) (get_or l 1 0))
    (header.Drop (get_or l 0 0))))))
    (get_or beside 0 0) (get_or beside 1 0))

command_with_its_numbers : (c : Command) → command_with (command_number_of c) (refusal_offset_of c) (command_byte c) (numbers_of c) (beside_header c) ≡ c
unfolding command_with command_number_of refusal_offset_of call_byte command_byte call_numbers numbers_of beside_header
command_with_its_numbers (Setup _ _ _ _ _) = refl
command_with_its_numbers (Call (header.Take _ _) _ _) = refl
command_with_its_numbers (Call (header.Free _ _) _ _) = refl
command_with_its_numbers (Call (header.NamedTake _ _ _) _ _) = refl
command_with_its_numbers (Call (header.NamedFree _ _) _ _) = refl
command_with_its_numbers (Call (header.Drop _) _ _) = refl
command_with_its_numbers (Refused _ _) = refl

-- so that they tell the command
pub equal_of_has_numbers : (command rules : Command) → HasNumbersOf command rules → command ≡ rules
equal_of_has_numbers command rules t =
    cc (command_with_its_numbers command, command_with_its_numbers rules, t.number_is, t.offset_is, t.byte_is, t.numbers_are, t.beside_is)

-- ---- the table's words

-- the bytes of the command that begins with this byte: 4 for a take or a named free, 3 and 4 for each address of a drop, which has so many, 6 for a
-- setup, a free or a named take
unfoldable pub bytes_of : ℕ → ℕ → ℕ
bytes_of first count = pick (either (eqb first 1) (eqb first 4)) 4 (pick (eqb first 5) (3 + 4 * count) 6)

-- 11: "record above 60000 bytes"
abbrev pub TooLong : List ℕ → Type 0
TooLong r = 60000 < length r

-- 8: "unknown command byte"
abbrev pub UnknownByte : List ℕ → ℕ → Type 0
UnknownByte r at = (at < length r) × (5 < byte_at r at)

-- 10: "a setup that is not first, a known other command that is, or no byte at all"
abbrev pub Misplaced : List ℕ → ℕ → Type 0
Misplaced r at =
    ((at < length r) × (0 < at) × (byte_at r at ≡ 0))
    ⊎ ((at < length r) × (at ≡ 0) × (1 ≤ byte_at r at) × (byte_at r at ≤ 5))
    ⊎ ((at ≡ 0) × (length r ≡ 0))

-- 9: "the record ends inside a command"; at the record's end and past it there is no command, and no reader asks. The count of a drop is its third
-- byte, which reads as 0 where the record ends before it: such a drop is cut all the same.
abbrev pub Truncated : List ℕ → ℕ → Type 0
Truncated r at = (length r ≤ at) ⊎ (length r < at + bytes_of (byte_at r at) (byte_at r (at + 2)))

-- ---- a call's command byte is one of 1 to 5, and its command has 3 bytes at least
pub call_byte_and_size : (call : CallHeader) (count : ℕ) → (1 ≤ call_byte call) × (call_byte call ≤ 5) × (3 ≤ call_size call count)
unfolding call_byte call_size
call_byte_and_size (header.Take processor size) count = (omega arith, omega arith, omega arith)
call_byte_and_size (header.Free processor address) count = (omega arith, omega arith, omega arith)
call_byte_and_size (header.NamedTake processor name size) count = (omega arith, omega arith, omega arith)
call_byte_and_size (header.NamedFree processor name) count = (omega arith, omega arith, omega arith)
call_byte_and_size (header.Drop processor) count = (omega arith, omega arith, omega arith)

-- ---- the commands that are read, with the bytes that they carry: "numbers of several bytes have the low byte first"

module _ (r : List ℕ) (at : ℕ) where
  abbrev pub SetupAt : ℕ → ℕ → ℕ → ℕ → ℕ → Type 0
  SetupAt processors superblocks spare p q =
      (length r ≤ 60000) × (at ≡ 0) × (byte_at r at ≡ 0) × (at + 6 ≤ length r)
      × (processors ≡ byte_at r (at + 1)) × (superblocks ≡ byte_at r (at + 2)) × (spare ≡ byte_at r (at + 3)) × (p ≡ byte_at r (at + 4))
      × (q ≡ byte_at r (at + 5))

  abbrev pub TakeAt : ℕ → ℕ → Type 0
  TakeAt processor size =
      (length r ≤ 60000) × (0 < at) × (byte_at r at ≡ 1) × (at + 4 ≤ length r) × (processor ≡ byte_at r (at + 1))
      × (size ≡ byte_at r (at + 2) + 256 * byte_at r (at + 3))

  abbrev pub FreeAt : ℕ → ℕ → Type 0
  FreeAt processor address =
      (length r ≤ 60000) × (0 < at) × (byte_at r at ≡ 2) × (at + 6 ≤ length r) × (processor ≡ byte_at r (at + 1))
      × (address ≡ byte_at r (at + 2) + 256 * byte_at r (at + 3) + 65536 * byte_at r (at + 4) + 16777216 * byte_at r (at + 5))

  abbrev pub NamedTakeAt : ℕ → ℕ → ℕ → Type 0
  NamedTakeAt processor name size =
      (length r ≤ 60000) × (0 < at) × (byte_at r at ≡ 3) × (at + 6 ≤ length r) × (processor ≡ byte_at r (at + 1))
      × (name ≡ byte_at r (at + 2) + 256 * byte_at r (at + 3)) × (size ≡ byte_at r (at + 4) + 256 * byte_at r (at + 5))

  abbrev pub NamedFreeAt : ℕ → ℕ → Type 0
  NamedFreeAt processor name =
      (length r ≤ 60000) × (0 < at) × (byte_at r at ≡ 4) × (at + 4 ≤ length r) × (processor ≡ byte_at r (at + 1))
      × (name ≡ byte_at r (at + 2) + 256 * byte_at r (at + 3))

  -- the addresses begin at byte 3 of the command
  abbrev pub DropAt : ℕ → ℕ → ℕ → Type 0
  DropAt processor count first =
      (length r ≤ 60000) × (0 < at) × (byte_at r at ≡ 5) × (at + 3 + 4 * count ≤ length r) × (processor ≡ byte_at r (at + 1)) × (count ≡ byte_at r (at + 2))
      × (first ≡ at + 3)

  -- the numbers of a call that is read, by its kind; beside the header of any call but a drop stand 0 and 0
  unfoldable pub NumbersAt : CallHeader → ℕ → ℕ → Type 0
  NumbersAt (header.Take processor size) count first =
      (processor ≡ byte_at r (at + 1)) × (size ≡ byte_at r (at + 2) + 256 * byte_at r (at + 3)) × (count ≡ 0) × (first ≡ 0)
  NumbersAt (header.Free processor address) count first =
      (processor ≡ byte_at r (at + 1))
      × (address ≡ byte_at r (at + 2) + 256 * byte_at r (at + 3) + 65536 * byte_at r (at + 4) + 16777216 * byte_at r (at + 5))
      × (count ≡ 0) × (first ≡ 0)
  NumbersAt (header.NamedTake processor name size) count first =
      (processor ≡ byte_at r (at + 1)) × (name ≡ byte_at r (at + 2) + 256 * byte_at r (at + 3)) × (size ≡ byte_at r (at + 4) + 256 * byte_at r (at + 5))
      × (count ≡ 0) × (first ≡ 0)
  NumbersAt (header.NamedFree processor name) count first =
      (processor ≡ byte_at r (at + 1)) × (name ≡ byte_at r (at + 2) + 256 * byte_at r (at + 3)) × (count ≡ 0) × (first ≡ 0)
  NumbersAt (header.Drop processor) count first = (processor ≡ byte_at r (at + 1)) × (count ≡ byte_at r (at + 2)) × (first ≡ at + 3)

  -- a command that is read: a setup, which is first, or a call, which is not; a refusal is none
  unfoldable pub ReadAt : Command → Type 0
  ReadAt (Setup processors superblocks spare p q) = SetupAt processors superblocks spare p q
  ReadAt (Call call count first) =
      (length r ≤ 60000) × (0 < at) × (byte_at r at ≡ call_byte call) × (at + call_size call count ≤ length r) × NumbersAt call count first
  ReadAt (Refused number offset) = ⊥

  -- what holds of every command that is read: its byte is known, it is first where it is a setup and only there, and it lies whole in a
  -- record that is not too long
  record Whole : Type 0 where
    short : length r ≤ 60000
    inside : at < length r
    known : byte_at r at ≤ 5
    first : byte_at r at ≡ 0 → at ≡ 0
    later : 1 ≤ byte_at r at → 0 < at
    whole : at + bytes_of (byte_at r at) (byte_at r (at + 2)) ≤ length r

  size_by_first_byte : (call : CallHeader) (count first : ℕ) → NumbersAt call count first
      → bytes_of (call_byte call) (byte_at r (at + 2)) ≡ call_size call count
  unfolding NumbersAt bytes_of call_byte call_size
  size_by_first_byte (header.Take processor size) count first h = refl
  size_by_first_byte (header.Free processor address) count first h = refl
  size_by_first_byte (header.NamedTake processor name size) count first h = refl
  size_by_first_byte (header.NamedFree processor name) count first h = refl
  size_by_first_byte (header.Drop processor) count first h = omega arith

  whole_of_call : (call : CallHeader) (count first : ℕ) → byte_at r at ≡ call_byte call → at + call_size call count ≤ length r → NumbersAt call count first
      → at + bytes_of (byte_at r at) (byte_at r (at + 2)) ≤ length r
  whole_of_call call count first e whole h =
      omega (arith, ap (λ (byte : ℕ). bytes_of byte (byte_at r (at + 2))) e, size_by_first_byte call count first h)

  whole_of_read : (c : Command) → ReadAt c → Whole
  unfolding ReadAt bytes_of
  whole_of_read (Setup processors superblocks spare p q) h =
      record { short = h.0; inside = omega arith; known = omega arith; first = λ z. h.1; later = λ z. absurd (omega arith); whole = rw h.2 h.3 }
  whole_of_read (Call call count first) h =
      let some = call_byte_and_size call count in
      record {
        short = h.0;
        inside = omega arith;
        known = omega arith;
        first = λ z. absurd (omega arith);
        later = λ z. h.1;
        whole = whole_of_call call count first h.2 h.3 h.4;
      }
  whole_of_read (Refused number offset) h = absurd h

  -- and it is no refusal
  pub no_refusal_of_read : (c : Command) → ReadAt c → (command_number_of c ≡ 0) × (is_refused c ≡ false)
  unfolding ReadAt command_number_of is_refused
  no_refusal_of_read (Setup processors superblocks spare p q) h = (refl, refl)
  no_refusal_of_read (Call call count first) h = (refl, refl)
  no_refusal_of_read (Refused number offset) h = absurd h

byte_at_cong : (r : List ℕ) (i j : ℕ) → i ≡ j → byte_at r i ≡ byte_at r j
byte_at_cong r i j e = ap (byte_at r) e

two_at_by_bytes : (r : List ℕ) (i j : ℕ) → i + 1 ≡ j → two_at r i ≡ byte_at r i + 256 * byte_at r j
two_at_by_bytes r i j e = omega (arith, byte_at_cong r (i + 1) j e)

four_at_by_bytes : (r : List ℕ) (at : ℕ) → four_at r (at + 2) ≡ byte_at r (at + 2) + 256 * byte_at r (at + 3) + 65536 * byte_at r (at + 4) + 16777216 * byte_at
    r (at + 5)
four_at_by_bytes r at =
    omega (
      arith,
      byte_at_cong r (at + 2 + 1) (at + 3) (omega arith),
      byte_at_cong r (at + 2 + 2) (at + 4) (omega arith),
      byte_at_cong r (at + 2 + 2 + 1)
          (at + 5) (omega arith),
    )

-- ---- every command of every record, by the table

pub data CommandRow (r : List ℕ) (at : ℕ) : Command → Type 0 where
  record_too_long_lem : TooLong r → CommandRow r at (Refused 11 0)
  unknown : (TooLong r → ⊥) → UnknownByte r at → CommandRow r at (Refused 8 at)
  misplaced : (TooLong r → ⊥) → (UnknownByte r at → ⊥) → Misplaced r at → CommandRow r at (Refused 10 at)
  truncated : (TooLong r → ⊥) → (UnknownByte r at → ⊥) → (Misplaced r at → ⊥) → Truncated r at → at < length r → CommandRow r at (Refused 9 at)
  past_record_end : (TooLong r → ⊥) → (UnknownByte r at → ⊥) → (Misplaced r at → ⊥) → Truncated r at → length r ≤ at → CommandRow r at (Refused 9 (length r))
  read : (c : Command) → ReadAt r at c → CommandRow r at c

module _ (r : List ℕ) (at : ℕ) (short : length r ≤ 60000) (inside : at < length r) where
  -- a command of n bytes whose byte is known and that stands where it may
  row_of_placed : byte_at r at ≤ 5 → (byte_at r at ≡ 0 → at ≡ 0) → (1 ≤ byte_at r at → 0 < at) → (n : ℕ) → bytes_of (byte_at r at) (byte_at r (at + 2)) ≡ n
      → (c : Command) → (at + n ≤ length r → ReadAt r at c) → CommandRow r at (unless_truncated r at n c)
  unfolding unless_truncated
  row_of_placed known first later n e c f =
      pick_elim (CommandRow r at) (leb (at + n) (length r)) c (Refused 9 at)
      (λ g. read c (f (leb-true (at + n) (length r) g)))
      (λ g. let h = leb-false (at + n) (length r) g in
      truncated (λ l. omega arith) (λ u. omega arith)
      (⊎_elim (λ w. let z = first w.2 in omega arith) (⊎_elim (λ w. let z = later w.2 in omega arith) (λ w. omega arith)))
      (inr (omega arith)) inside)

  row_of_setup : byte_at r at ≡ 0 → CommandRow r at (setup_at r at)
  unfolding setup_at ReadAt bytes_of
  row_of_setup e =
      pick_elim (CommandRow r at) (eqb at 0) _ (Refused 10 at)
      (λ f. let first = eqb-true at 0 f in
      row_of_placed (omega arith) (λ z. first) (λ z. omega arith) 6 (rw e) _ (λ whole. (short, first, e, whole, refl, refl, refl, refl, refl)))
      (λ f. let later = eqb-false at 0 f in misplaced (λ l. omega arith) (λ u. omega arith) (inl (inside, omega arith, e)))

  -- any other command
  row_of_other : 1 ≤ byte_at r at → byte_at r at ≤ 5 → (n : ℕ) → bytes_of (byte_at r at) (byte_at r (at + 2)) ≡ n
      → (c : Command) → (0 < at → at + n ≤ length r → ReadAt r at c) → CommandRow r at (unless_first at (unless_truncated r at n c))
  unfolding unless_first
  row_of_other some known n e c f =
      pick_elim (CommandRow r at) (eqb at 0) (Refused 10 at) (unless_truncated r at n c)
      (λ g. misplaced (λ l. omega arith) (λ u. omega arith) (inr (inl (inside, eqb-true at 0 g, some, known))))
      (λ g. let nonzero = eqb-false at 0 g in let later : 0 < at = omega arith in
      row_of_placed known (λ z. omega arith) (λ z. later) n e c (f later))

  row_of_take : byte_at r at ≡ 1 → CommandRow r at (take_at r at)
  unfolding take_at ReadAt NumbersAt call_byte call_size bytes_of
  row_of_take e =
      row_of_other (omega arith) (omega arith) 4 (rw e) _
      (λ later whole. (short, later, e, whole, (refl, two_at_by_bytes r (at + 2) (at + 3) (omega arith), refl, refl)))

  row_of_free : byte_at r at ≡ 2 → CommandRow r at (free_at r at)
  unfolding free_at ReadAt NumbersAt call_byte call_size bytes_of
  row_of_free e =
      row_of_other (omega arith) (omega arith) 6 (rw e) _ (λ later whole. (short, later, e, whole, (refl, four_at_by_bytes r at, refl, refl)))

  row_of_named_take : byte_at r at ≡ 3 → CommandRow r at (named_take_at r at)
  unfolding named_take_at ReadAt NumbersAt call_byte call_size bytes_of
  row_of_named_take e =
      row_of_other (omega arith) (omega arith) 6 (rw e) _
      (λ later whole.
      (short, later, e, whole, (refl, two_at_by_bytes r (at + 2) (at + 3) (omega arith), two_at_by_bytes r (at + 4) (at + 5) (omega arith), refl, refl)))

  row_of_named_free : byte_at r at ≡ 4 → CommandRow r at (named_free_at r at)
  unfolding named_free_at ReadAt NumbersAt call_byte call_size bytes_of
  row_of_named_free e =
      row_of_other (omega arith) (omega arith) 4 (rw e) _
      (λ later whole. (short, later, e, whole, (refl, two_at_by_bytes r (at + 2) (at + 3) (omega arith), refl, refl)))

  row_of_drop : byte_at r at ≡ 5 → CommandRow r at (drop_at r at)
  unfolding drop_at ReadAt NumbersAt call_byte call_size bytes_of
  row_of_drop e =
      row_of_other (omega arith) (omega arith) (3 + 4 * byte_at r (at + 2)) (rw e) _ (λ later whole. (short, later, e, whole, (refl, refl, refl)))

  row_of_known : CommandRow r at (command_by_first_byte r at)
  unfolding command_by_first_byte
  row_of_known =
      pick_elim (CommandRow r at) (eqb (byte_at r at) 0) (setup_at r at) _ (λ e. row_of_setup (eqb-true (byte_at r at) 0 e))
      (λ e. pick_elim (CommandRow r at) (eqb (byte_at r at) 1) (take_at r at) _ (λ f. row_of_take (eqb-true (byte_at r at) 1 f))
      (λ f. pick_elim (CommandRow r at) (eqb (byte_at r at) 2) (free_at r at) _ (λ g. row_of_free (eqb-true (byte_at r at) 2 g))
      (λ g. pick_elim (CommandRow r at) (eqb (byte_at r at) 3) (named_take_at r at) _ (λ h. row_of_named_take (eqb-true (byte_at r at) 3 h))
      (λ h. pick_elim (CommandRow r at) (eqb (byte_at r at) 4) (named_free_at r at) _ (λ i. row_of_named_free (eqb-true (byte_at r at) 4 i))
      (λ i. pick_elim (CommandRow r at) (eqb (byte_at r at) 5) (drop_at r at) (Refused 8 at) (λ j. row_of_drop (eqb-true (byte_at r at) 5 j))
      (λ j.
      let a = eqb-false (byte_at r at) 0 e in
      let b = eqb-false (byte_at r at) 1 f in
      let c = eqb-false (byte_at r at) 2 g in
      let d = eqb-false (byte_at r at) 3 h in
      let k = eqb-false (byte_at r at) 4 i in
      let m = eqb-false (byte_at r at) 5 j in
      unknown (λ l. omega arith) (inside, omega arith)))))))

pub row_of_command_at : (r : List ℕ) (at : ℕ) → CommandRow r at (command_at r at)
unfolding command_at
row_of_command_at r at =
    pick_elim (CommandRow r at) (ltb 60000 (length r)) (Refused 11 0) _
    (λ e. record_too_long_lem (ltb-true 60000 (length r) e))
    (λ e. let short = ltb-false 60000 (length r) e in
    pick_elim (CommandRow r at) (ltb at (length r)) (command_by_first_byte r at) _
    (λ f. row_of_known r at short (ltb-true at (length r) f))
    (λ f. let outside = ltb-false at (length r) f in
    pick_elim (CommandRow r at) (eqb at 0) (Refused 10 0) (Refused 9 (length r))
    (λ g. let first = eqb-true at 0 g in
    subst (λ (n : ℕ). CommandRow r at (Refused 10 n)) first
    (misplaced (λ l. omega arith) (λ u. omega arith) (inr (inr (first, omega arith)))))
    (λ g. let n = eqb-false at 0 g in
    past_record_end (λ l. omega arith) (λ u. omega arith) (⊎_elim (λ w. omega arith) (⊎_elim (λ w. omega arith) (λ w. omega arith))) (inl outside) outside)))

-- the table's row of each number
data NumberRow (r : List ℕ) (at : ℕ) : ℕ → Type 0 where
  is_too_long : TooLong r → NumberRow r at 11
  is_unknown_byte : (TooLong r → ⊥) → UnknownByte r at → NumberRow r at 8
  is_misplaced : (TooLong r → ⊥) → (UnknownByte r at → ⊥) → Misplaced r at → NumberRow r at 10
  is_truncated : (TooLong r → ⊥) → (UnknownByte r at → ⊥) → (Misplaced r at → ⊥) → Truncated r at → NumberRow r at 9
  is_read : (TooLong r → ⊥) → (UnknownByte r at → ⊥) → (Misplaced r at → ⊥) → (Truncated r at → ⊥) → NumberRow r at 0

module _ (r : List ℕ) (at : ℕ) where
  number_row : {c : Command} → CommandRow r at c → NumberRow r at (command_number_of c)
  unfolding command_number_of
  number_row (record_too_long_lem l) = is_too_long l
  number_row (unknown l u) = is_unknown_byte l u
  number_row (misplaced l u m) = is_misplaced l u m
  number_row (truncated l u m c i) = is_truncated l u m c
  number_row (past_record_end l u m c i) = is_truncated l u m c
  number_row (read c h) =
      let w = whole_of_read r at c h in
      subst (NumberRow r at) (sym (no_refusal_of_read r at c h).0)
      (is_read (λ l. omega arith) (λ u. omega arith)
      (⊎_elim (λ m. let z = w.first m.2 in omega arith) (⊎_elim (λ m. let z = w.later m.2 in omega arith) (λ m. omega arith)))
      (⊎_elim (λ m. omega arith) (λ m. omega arith)))

  -- ---- "Record: 11, then for each command 8, 10, 9": each number exactly when the table says, in its order

  -- 11: "record above 60000 bytes"
  pub refused_11_iff_too_long : command_number_of (command_at r at) ≡ 11 ↔ TooLong r
  refused_11_iff_too_long = (λ e. only (number_row (row_of_command_at r at)) e, λ h. always (number_row (row_of_command_at r at)) h)
    where
      only : {n : ℕ} → NumberRow r at n → n ≡ 11 → TooLong r
      only (is_too_long l) e = l
      only (is_unknown_byte l u) e = absurd (omega arith)
      only (is_misplaced l u m) e = absurd (omega arith)
      only (is_truncated l u m c) e = absurd (omega arith)
      only (is_read l u m c) e = absurd (omega arith)

      always : {n : ℕ} → NumberRow r at n → TooLong r → n ≡ 11
      always (is_too_long l) h = refl
      always (is_unknown_byte l u) h = absurd (l h)
      always (is_misplaced l u m) h = absurd (l h)
      always (is_truncated l u m c) h = absurd (l h)
      always (is_read l u m c) h = absurd (l h)

  -- then 8: "unknown command byte"
  pub refused_8_iff_unknown_byte : command_number_of (command_at r at) ≡ 8 ↔ ((TooLong r → ⊥) × UnknownByte r at)
  refused_8_iff_unknown_byte = (λ e. only (number_row (row_of_command_at r at)) e, λ h. always (number_row (row_of_command_at r at)) h)
    where
      only : {n : ℕ} → NumberRow r at n → n ≡ 8 → ((TooLong r → ⊥) × UnknownByte r at)
      only (is_too_long l) e = absurd (omega arith)
      only (is_unknown_byte l u) e = (l, u)
      only (is_misplaced l u m) e = absurd (omega arith)
      only (is_truncated l u m c) e = absurd (omega arith)
      only (is_read l u m c) e = absurd (omega arith)

      always : {n : ℕ} → NumberRow r at n → ((TooLong r → ⊥) × UnknownByte r at) → n ≡ 8
      always (is_too_long l) h = absurd (h.0 l)
      always (is_unknown_byte l u) h = refl
      always (is_misplaced l u m) h = absurd (u h.1)
      always (is_truncated l u m c) h = absurd (u h.1)
      always (is_read l u m c) h = absurd (u h.1)

  -- then 10: "a setup that is not first, a known other command that is, or no byte at all"
  pub refused_10_iff_misplaced : command_number_of (command_at r at) ≡ 10 ↔ ((TooLong r → ⊥) × (UnknownByte r at → ⊥) × Misplaced r at)
  refused_10_iff_misplaced = (λ e. only (number_row (row_of_command_at r at)) e, λ h. always (number_row (row_of_command_at r at)) h)
    where
      only : {n : ℕ} → NumberRow r at n → n ≡ 10 → ((TooLong r → ⊥) × (UnknownByte r at → ⊥) × Misplaced r at)
      only (is_too_long l) e = absurd (omega arith)
      only (is_unknown_byte l u) e = absurd (omega arith)
      only (is_misplaced l u m) e = (l, u, m)
      only (is_truncated l u m c) e = absurd (omega arith)
      only (is_read l u m c) e = absurd (omega arith)

      always : {n : ℕ} → NumberRow r at n → ((TooLong r → ⊥) × (UnknownByte r at → ⊥) × Misplaced r at) → n ≡ 10
      always (is_too_long l) h = absurd (h.0 l)
      always (is_unknown_byte l u) h = absurd (h.1 u)
      always (is_misplaced l u m) h = refl
      always (is_truncated l u m c) h = absurd (m h.2)
      always (is_read l u m c) h = absurd (m h.2)

  -- then 9: "the record ends inside a command"
  pub refused_9_iff_truncated : command_number_of (command_at r at) ≡ 9 ↔ ((TooLong r → ⊥) × (UnknownByte r at → ⊥) × (Misplaced r at → ⊥) × Truncated r at)
  refused_9_iff_truncated = (λ e. only (number_row (row_of_command_at r at)) e, λ h. always (number_row (row_of_command_at r at)) h)
    where
      only : {n : ℕ} → NumberRow r at n → n ≡ 9 → ((TooLong r → ⊥) × (UnknownByte r at → ⊥) × (Misplaced r at → ⊥) × Truncated r at)
      only (is_too_long l) e = absurd (omega arith)
      only (is_unknown_byte l u) e = absurd (omega arith)
      only (is_misplaced l u m) e = absurd (omega arith)
      only (is_truncated l u m c) e = (l, u, m, c)
      only (is_read l u m c) e = absurd (omega arith)

      always : {n : ℕ} → NumberRow r at n → ((TooLong r → ⊥) × (UnknownByte r at → ⊥) × (Misplaced r at → ⊥) × Truncated r at) → n ≡ 9
      always (is_too_long l) h = absurd (h.0 l)
      always (is_unknown_byte l u) h = absurd (h.1 u)
      always (is_misplaced l u m) h = absurd (h.2 m)
      always (is_truncated l u m c) h = refl
      always (is_read l u m c) h = absurd (c h.3)

  -- and a command is read where none of these holds
  pub read_iff_no_refusal : command_number_of (command_at r at) ≡ 0 ↔ ((TooLong r → ⊥) × (UnknownByte r at → ⊥) × (Misplaced r at → ⊥) × (Truncated r at → ⊥))
  read_iff_no_refusal = (λ e. only (number_row (row_of_command_at r at)) e, λ h. always (number_row (row_of_command_at r at)) h)
    where
      only : {n : ℕ} → NumberRow r at n → n ≡ 0 → ((TooLong r → ⊥) × (UnknownByte r at → ⊥) × (Misplaced r at → ⊥) × (Truncated r at → ⊥))
      only (is_too_long l) e = absurd (omega arith)
      only (is_unknown_byte l u) e = absurd (omega arith)
      only (is_misplaced l u m) e = absurd (omega arith)
      only (is_truncated l u m c) e = absurd (omega arith)
      only (is_read l u m c) e = (l, u, m, c)

      always : {n : ℕ} → NumberRow r at n → ((TooLong r → ⊥) × (UnknownByte r at → ⊥) × (Misplaced r at → ⊥) × (Truncated r at → ⊥)) → n ≡ 0
      always (is_too_long l) h = absurd (h.0 l)
      always (is_unknown_byte l u) h = absurd (h.1 u)
      always (is_misplaced l u m) h = absurd (h.2 m)
      always (is_truncated l u m c) h = absurd (h.3 c)
      always (is_read l u m c) h = refl

  -- ---- the commands that are read, exactly when, with the bytes that they carry

  unless_truncated_of_whole : (n : ℕ) (c : Command) → at + n ≤ length r → unless_truncated r at n c ≡ c
  unfolding unless_truncated
  unless_truncated_of_whole n c h = rw (le-leb (at + n) (length r) h)

  unless_first_of_later : (n : ℕ) (c : Command) → 0 < at → at + n ≤ length r → unless_first at (unless_truncated r at n c) ≡ c
  unfolding unless_first
  unless_first_of_later n c later h = rw (ne_eqb at 0 (λ z. omega arith)) (unless_truncated_of_whole n c h)

  command_by_first_byte_of_read_at : (c : Command) → ReadAt r at c → command_by_first_byte r at ≡ c
  unfolding ReadAt NumbersAt call_byte call_size command_by_first_byte setup_at take_at free_at named_take_at named_free_at drop_at
  command_by_first_byte_of_read_at (Setup processors superblocks spare p q) h =
      rw (h.2, eq-eqb at 0 h.1) (unless_truncated_of_whole 6 _ h.3 ∙ cc)
  command_by_first_byte_of_read_at (Call (header.Take processor size) count first) h =
      rw h.2 (unless_first_of_later 4 _ h.1 h.3 ∙ cc (two_at_by_bytes r (at + 2) (at + 3) (omega arith)))
  command_by_first_byte_of_read_at (Call (header.Free processor address) count first) h =
      rw h.2 (unless_first_of_later 6 _ h.1 h.3 ∙ cc (four_at_by_bytes r at))
  command_by_first_byte_of_read_at (Call (header.NamedTake processor name size) count first) h =
      rw h.2
      (unless_first_of_later 6 _ h.1 h.3
      ∙ cc (two_at_by_bytes r (at + 2) (at + 3) (omega arith), two_at_by_bytes r (at + 4) (at + 5) (omega arith)))
  command_by_first_byte_of_read_at (Call (header.NamedFree processor name) count first) h =
      rw h.2 (unless_first_of_later 4 _ h.1 h.3 ∙ cc (two_at_by_bytes r (at + 2) (at + 3) (omega arith)))
  command_by_first_byte_of_read_at (Call (header.Drop processor) count first) h =
      rw h.2 (unless_first_of_later (3 + 4 * byte_at r (at + 2)) _ h.1 (omega arith) ∙ cc)
  command_by_first_byte_of_read_at (Refused number offset) h = absurd h

  command_of_read_at : (c : Command) → ReadAt r at c → command_at r at ≡ c
  unfolding command_at
  command_of_read_at c h =
      let w = whole_of_read r at c h in
      rw (le-ltb 60000 (length r) w.short, lt-ltb at (length r) w.inside) (command_by_first_byte_of_read_at c h)

  pub command_iff_read_at : (c : Command) → is_refused c ≡ false → command_at r at ≡ c ↔ ReadAt r at c
  unfolding is_refused
  command_iff_read_at c f = (λ e. subst (ReadAt r at) e (only (row_of_command_at r at) (ap is_refused e ∙ f)), λ h. command_of_read_at c h)
    where
      only : {d : Command} → CommandRow r at d → is_refused d ≡ false → ReadAt r at d
      only (record_too_long_lem l) f = absurd (subst T f tt)
      only (unknown l u) f = absurd (subst T f tt)
      only (misplaced l u m) f = absurd (subst T f tt)
      only (truncated l u m c i) f = absurd (subst T f tt)
      only (past_record_end l u m c i) f = absurd (subst T f tt)
      only (read d h) f = h

  pub setup_iff_setup_at : (processors superblocks spare p q : ℕ) → command_at r at ≡ Setup processors superblocks spare p q
      ↔ SetupAt r at processors superblocks spare p q
  unfolding ReadAt is_refused
  setup_iff_setup_at processors superblocks spare p q = command_iff_read_at (Setup processors superblocks spare p q) refl

  pub take_iff_take_at : (processor size : ℕ) → command_at r at ≡ Call (header.Take processor size) 0 0 ↔ TakeAt r at processor size
  unfolding ReadAt NumbersAt call_byte call_size is_refused
  take_iff_take_at processor size =
      let both = command_iff_read_at (Call (header.Take processor size) 0 0) refl in
      (λ e. let h = both.0 e in (h.0, h.1, h.2, h.3, h.4.0, h.4.1), λ h. both.1 (h.0, h.1, h.2, h.3, (h.4, h.5, refl, refl)))

  pub free_iff_free_at : (processor address : ℕ) → command_at r at ≡ Call (header.Free processor address) 0 0 ↔ FreeAt r at processor address
  unfolding ReadAt NumbersAt call_byte call_size is_refused
  free_iff_free_at processor address =
      let both = command_iff_read_at (Call (header.Free processor address) 0 0) refl in
      (λ e. let h = both.0 e in (h.0, h.1, h.2, h.3, h.4.0, h.4.1), λ h. both.1 (h.0, h.1, h.2, h.3, (h.4, h.5, refl, refl)))

  pub named_take_iff_named_take_at : (processor name size : ℕ)
      → command_at r at ≡ Call (header.NamedTake processor name size) 0 0 ↔ NamedTakeAt r at processor name size
  unfolding ReadAt NumbersAt call_byte call_size is_refused
  named_take_iff_named_take_at processor name size =
      let both = command_iff_read_at (Call (header.NamedTake processor name size) 0 0) refl in
      (λ e. let h = both.0 e in (h.0, h.1, h.2, h.3, h.4.0, h.4.1, h.4.2), λ h. both.1 (h.0, h.1, h.2, h.3, (h.4, h.5, h.6, refl, refl)))

  pub named_free_iff_named_free_at : (processor name : ℕ) → command_at r at ≡ Call (header.NamedFree processor name) 0 0 ↔ NamedFreeAt r at processor name
  unfolding ReadAt NumbersAt call_byte call_size is_refused
  named_free_iff_named_free_at processor name =
      let both = command_iff_read_at (Call (header.NamedFree processor name) 0 0) refl in
      (λ e. let h = both.0 e in (h.0, h.1, h.2, h.3, h.4.0, h.4.1), λ h. both.1 (h.0, h.1, h.2, h.3, (h.4, h.5, refl, refl)))

  pub drop_iff_drop_at : (processor count first : ℕ) → command_at r at ≡ Call (header.Drop processor) count first ↔ DropAt r at processor count first
  unfolding ReadAt NumbersAt call_byte call_size is_refused
  drop_iff_drop_at processor count first =
      let both = command_iff_read_at (Call (header.Drop processor) count first) refl in
      (λ e. let h = both.0 e in (h.0, h.1, h.2, omega arith, h.4.0, h.4.1, h.4.2), λ h. both.1 (h.0, h.1, h.2, omega arith, (h.4, h.5, h.6)))

  -- "that many addresses (4 each)", one behind the other, each with "the low byte first"
  pub drop_addresses_by_bytes : (processor count first : ℕ) → command_at r at ≡ Call (header.Drop processor) count first
      → (length (addresses_in r first count) ≡ byte_at r (at + 2))
      × ((i : ℕ) → i < count → get_or (addresses_in r first count) i 0
      ≡ byte_at r (at + 3 + 4 * i) + 256 * byte_at r (at + 4 + 4 * i) + 65536 * byte_at r (at + 5 + 4 * i) + 16777216 * byte_at r (at + 6 + 4 * i))
  drop_addresses_by_bytes processor count first e =
      let t = (drop_iff_drop_at processor count first).0 e in (
        length_of_fours_at r first count ∙ t.5,
        λ i h.
            fours_at_number r first count i h
            ∙ omega (
              arith,
              byte_at_cong r (first + 4 * i) (at + 3 + 4 * i) (omega arith),
              byte_at_cong r (first + 4 * i + 1) (at + 4 + 4 * i)
                  (omega arith),
              byte_at_cong r (first + 4 * i + 2) (at + 5 + 4 * i) (omega arith),
              byte_at_cong r (first + 4 * i + 2 + 1) (at + 6 + 4 * i)
                  (omega arith),
            ),
      )

  -- ---- the offset of a refusal: the command's own first byte, and 0 for 11

  pub too_long_refused_11_at_0 : TooLong r → command_at r at ≡ Refused 11 0
  too_long_refused_11_at_0 h = go (row_of_command_at r at)
    where
      go : {c : Command} → CommandRow r at c → c ≡ Refused 11 0
      go (record_too_long_lem l) = refl
      go (unknown l u) = absurd (l h)
      go (misplaced l u m) = absurd (l h)
      go (truncated l u m c i) = absurd (l h)
      go (past_record_end l u m c i) = absurd (l h)
      go (read c w) = absurd (omega (arith, (whole_of_read r at c w).short))

  pub refusal_offset_is_own : length r ≤ 60000 → at < length r → is_refused (command_at r at) ≡ true → refusal_offset_of (command_at r at) ≡ at
  unfolding is_refused refusal_offset_of
  refusal_offset_is_own short inside e = go (row_of_command_at r at) e
    where
      go : {c : Command} → CommandRow r at c → is_refused c ≡ true → refusal_offset_of c ≡ at
      go (record_too_long_lem l) e = absurd (omega arith)
      go (unknown l u) e = refl
      go (misplaced l u m) e = refl
      go (truncated l u m c i) e = refl
      go (past_record_end l u m c i) e = absurd (omega arith)
      go (read c h) e = absurd (subst T (sym e ∙ (no_refusal_of_read r at c h).1) tt)
