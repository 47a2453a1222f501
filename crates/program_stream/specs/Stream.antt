-- What a contract can say of an input and an output: where the bytes stand. What the system reads, none can say. Assumes nothing.
use Rattle.std.specs.Prelude.{◌≡◌, ◌<◌, ◌≤◌, List, ℕ, length, take, Option, Result, Ok, Err}
use Rattle.std.specs.Io.KnownBytes.{Appends, Consumes, IsAtEnd}

-- so many bytes stand at the start of a buffer
abbrev pub IsPrefixLen : ℕ → List ℕ → Type 0
IsPrefixLen n xs = (n ≤ length xs) × (n ≡ length (take n xs))

-- the bytes read are counted within the buffer; a failed read has no count
abbrev pub WithinBuffer : {E : Type 0} → Result ℕ E → List ℕ → Type 0
WithinBuffer (Ok n) buf = IsPrefixLen n buf
WithinBuffer (Err e) buf = Unit {0}

-- an input that counts as whole: its bytes are the next that the reader had left, all of them unless they fill the buffer
abbrev pub IsWholeInput : {E : Type 0} → Option (List ℕ) → Option (List ℕ) → Result ℕ E → List ℕ → Type 0
IsWholeInput before after (Ok n) buf = Consumes before after (take n buf) × (n < length buf → IsAtEnd after)
IsWholeInput before after (Err e) buf = Unit {0}

-- an output that counts as whole: all bytes are behind those that the writer held; one that failed has a part of them there, not all
abbrev pub IsWholeOutput : {E : Type 0} → Option (List ℕ) → Option (List ℕ) → Result (Unit {0}) E → List ℕ → Type 0
IsWholeOutput before after (Ok u) bytes = Appends before after bytes
IsWholeOutput before after (Err e) bytes = (n : ℕ) × (n < length bytes) × Appends before after (take n bytes)
