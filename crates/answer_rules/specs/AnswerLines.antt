-- The form "One call" of docs/FORMATS.md: what is printed of a call. Quotations are from there. Assumes nothing.
use Rattle.std.specs.Prelude.{Bool, List, [], ◌++◌, ℕ, zero, suc, ◌/◌, ◌%◌, min, length, get_or, eqb}
use Rattle.base_laws.specs.Sums.{pick, both}
use Rattle.class_rules.specs.Classes.{class_count}
use Rattle.text_rules.specs.Text.{letters, digits}
use Rattle.names_rules.specs.Names.{name_count, not_held, numbers_each, block_named}
use Rattle.heap_rules.specs.declared.Superblock.{Superblock}
use Rattle.heap_rules.specs.declared.Totals.{Totals}
use Rattle.heap_rules.specs.declared.State.{State}
use Rattle.heap_rules.specs.Table.{blank, is_unused}
use Rattle.heap_rules.specs.Totals.{total_count}
use Rattle.call_rules.specs.declared.Outcome.{Outcome}
use Rattle.call_rules.specs.declared.Outcome.TheVariants.{Ready, Address, Moves, Refused}
use Rattle.line_rules.specs.Lines.{field, setup_line}

-- a number of 64 bits in decimal, and a word before it
unfoldable pub wide_decimal : ℕ → List ℕ
wide_decimal n = digits 20 n

abbrev pub wide_field : List ℕ → ℕ → List ℕ
wide_field label n = label ++ wide_decimal n

-- the texts of 0, 1, .., n - 1, one after another
unfoldable pub texts_below : (ℕ → List ℕ) → ℕ → List ℕ
texts_below text zero = []
texts_below text (suc k) = texts_below text k ++ text k

-- `ready`, `at ADDRESS`, `moved M` or `refused R`
unfoldable pub outcome_line : Outcome → List ℕ
outcome_line Ready = letters "ready\n"
outcome_line (Address a) = field (letters "at ") a ++ letters "\n"
outcome_line (Moves m) = field (letters "moved ") m ++ letters "\n"
outcome_line (Refused r) = field (letters "refused ") r ++ letters "\n"

-- ---- the superblocks
-- "as a new setup has it (owner 255, class 0, no mark, rank 0, run length 0)"
unfoldable pub is_as_new : Superblock → Bool
is_as_new b = both (eqb b.rank 0) (both (eqb b.run 0) (is_unused b))

-- `live W0 W1 W2 W3`: the four numbers of its marks
unfoldable pub marks_fields : List ℕ → List ℕ
marks_fields live =
    wide_field (letters " live ") (get_or live 0 0) ++ wide_field (letters " ") (get_or live 1 0) ++ wide_field (letters " ") (get_or live 2 0)
    ++ wide_field (letters " ") (get_or live 3 0)

-- `superblock S owner O class C live W0 W1 W2 W3 rank R run L`
unfoldable pub superblock_line : ℕ → Superblock → List ℕ
superblock_line k b =
    field (letters "superblock ") k ++ field (letters " owner ") b.owner ++ field (letters " class ") b.class ++ marks_fields b.live
    ++ field (letters " rank ") b.rank ++ field (letters " run ") b.run ++ letters "\n"

-- "for each superblock .. that is not as a new setup has it"
unfoldable pub superblock_line_if : ℕ → Superblock → List ℕ
superblock_line_if k b = pick (is_as_new b) [] (superblock_line k b)

-- "S rising"
unfoldable pub superblock_lines : List Superblock → List ℕ
superblock_lines table = texts_below (λ k. superblock_line_if k (get_or table k blank)) (length table)

-- ---- the names
-- `name M superblock S block J`: "its number is S × 256 + J with J below 256"
unfoldable pub name_line : ℕ → ℕ → List ℕ
name_line m number =
    field (letters "name ") m ++ field (letters " superblock ") (number / numbers_each) ++ field (letters " block ") (number % numbers_each) ++ letters "\n"

-- "for each name that the state handed back holds"
unfoldable pub name_line_if : ℕ → ℕ → List ℕ
name_line_if m number = pick (eqb number not_held) [] (name_line m number)

-- "M rising"
unfoldable pub name_lines : List ℕ → List ℕ
name_lines names = texts_below (λ m. name_line_if m (block_named names m)) name_count

-- ---- the totals
-- `total heap H class C superblocks N live L`
unfoldable pub total_line : ℕ → ℕ → ℕ → ℕ → List ℕ
total_line h c superblocks live =
    field (letters "total heap ") h ++ field (letters " class ") c ++ field (letters " superblocks ") superblocks ++ field (letters " live ") live
    ++ letters "\n"

-- "for each heap H and class C of which the state handed back keeps a total other than 0": the totals at x are those of heap x / 27 and class x % 27
unfoldable pub total_line_if : ℕ → ℕ → ℕ → List ℕ
total_line_if x superblocks live = pick (both (eqb superblocks 0) (eqb live 0)) [] (total_line (x / class_count) (x % class_count) superblocks live)

-- "H rising, then C"
unfoldable pub total_lines : Totals → List ℕ
total_lines t = texts_below (λ x. total_line_if x (get_or t.superblocks x 0) (get_or t.live x 0)) total_count

-- ---- the order places
-- `place I V`: "V is the new number"
unfoldable pub place_line : ℕ → ℕ → List ℕ
place_line i number = wide_field (letters "place ") i ++ field (letters " ") number ++ letters "\n"

-- "for each order place whose number changed"
unfoldable pub place_line_if : ℕ → ℕ → ℕ → List ℕ
place_line_if i old new = pick (eqb old new) [] (place_line i new)

-- "I rising": the places before and after the call, as many as there are of both
unfoldable pub place_lines : List ℕ → List ℕ → List ℕ
place_lines before after = texts_below (λ i. place_line_if i (get_or before i 0) (get_or after i 0)) (min (length before) (length after))

-- ---- all of it
-- the lines of a call's outcome, of the state handed back, whose table is a lent row where the call was made on one, and of the places; then `end`
unfoldable pub answer_text : Outcome → State → List ℕ → List ℕ → List ℕ
answer_text outcome s before after =
    outcome_line outcome ++ setup_line s.setup ++ superblock_lines s.table ++ name_lines s.names ++ total_lines s.totals
    ++ place_lines before after ++ letters "end\n"

-- of an input that is no call: "the one line `bad input`"
unfoldable pub bad_input_text : List ℕ
bad_input_text = letters "bad input\n"

-- bytes that hold the text of any call with 65 superblocks and 17000 places at most
abbrev pub answer_room : ℕ
answer_room = 524288
