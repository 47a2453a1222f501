-- The lines of superblocks, put one after another. Assumes nothing.
use Rattle.std.proofs.Common.{◌≡◌, ℕ, List, ◌++◌, append_assoc, append-nil, min, length, get_or, take}
use Rattle.std.proofs.lemmas.List.{take_min}
use Rattle.text_rules.specs.Text.{letters}
use Rattle.text_writer.proofs.WriteLaws.{written_append}
use Rattle.heap_rules.specs.declared.Superblock.{Superblock}
use Rattle.heap_rules.specs.Table.{blank}
use Rattle.answer_rules.specs.AnswerLines.{texts_below, wide_field, marks_fields, superblock_line_if}
use Rattle.answer_rules.proofs.AnswerLineLaws.{texts_below_none, texts_below_more}

-- the first k numbers of marks, each after a space; all four
abbrev pub first_numbers : List ℕ → ℕ → List ℕ
first_numbers live k = texts_below (λ j. wide_field (letters " ") (get_or live j 0)) k

pub four_numbers : (live : List ℕ) (k : ℕ) → k ≡ 4 → letters " live" ++ first_numbers live k ≡ marks_fields live
unfolding texts_below marks_fields
four_numbers live k e = rw e (simp append_assoc)

-- the lines of the first k records
abbrev pub lines_of_first : List Superblock → ℕ → List ℕ
lines_of_first records k = texts_below (λ j. superblock_line_if j (get_or records j blank)) k

-- the first n of 65
pub first_of_65 : (records : List Superblock) (n : ℕ) → length records ≡ 65 → take (min n 65) records ≡ take n records
first_of_65 records n e = rw (← e) (take_min n records)

pub ruleset each_number = (texts_below_none, texts_below_more, written_append, append_assoc, append-nil, four_numbers)

pub ruleset each_record = (texts_below_none, texts_below_more, written_append, first_of_65)
