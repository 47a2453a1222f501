-- A state as a row, and for a caller: the text lies in the buffer. Assumes nothing.
use Rattle.std.proofs.Common.{◌≡◌, ℕ, List, [], ◌∷◌, ◌++◌, ◌≤◌, length, take, sym, arith}
use lib.Seq.{take_at, length-take-le}
use Rattle.text_rules.specs.Text.{pasted}
use Rattle.text_rules.proofs.PasteLaws.{put_length, put_end_le}
use Rattle.heap_rules.specs.declared.Superblock.{Superblock}
use Rattle.heap_rules.specs.declared.State.{State}
use Rattle.row_rules.specs.Row.{state_of, control_of}

-- the state that a state's table, with one record more behind it, and its control make, where 64 records are taken
pub state_as_row : (s : State) (x : Superblock) → length s.table ≡ 64 → state_of (control_of s) (take 64 (s.table ++ (x ∷ []))) ≡ s
state_as_row s x long = rw (take_at s.table (x ∷ []) 64 long)

-- so many bytes of the buffer are the text's
pub text_counted : (l₀ : List ℕ) {l : List ℕ} {r : ℕ} (text : List ℕ) → record { end = r; buffer = l } ≡ pasted l₀ 0 text → (r ≤ length l)
    × (r ≡ length (take r l))
text_counted l₀ {l} {r} text p =
    let within : r ≤ length l = omega (arith, put_end_le l₀ 0 text p, put_length l₀ 0 text p) in
    (within, sym (length-take-le r l within))
