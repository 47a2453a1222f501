-- Numbers whose bytes all differ, inside a list, at its end and past it. Assumes nothing.
use mathlib.Core.Path.{◌≡◌, refl}
use mathlib.Core.List.{List, [], ◌∷◌}
use Prim.Native.Nat.{ℕ}
use Rattle.base_laws.specs.Lists.{listed}
use Rattle.bytes_rules.specs.Bytes.{byte_at, two_at, four_at, eight_at, position_after, fours_at}

abbrev distinct_bytes : List ℕ
distinct_bytes = 10 ∷ 1 ∷ 2 ∷ 3 ∷ 4 ∷ 5 ∷ 6 ∷ 7 ∷ 8 ∷ []

one_byte : byte_at distinct_bytes 3 ≡ 3
one_byte = refl

two_bytes : two_at distinct_bytes 1 ≡ 513
two_bytes = refl

four_bytes : four_at distinct_bytes 1 ≡ 67305985
four_bytes = refl

eight_bytes : eight_at distinct_bytes 1 ≡ 578437695752307201
eight_bytes = refl

-- a number of which only the low bytes are there, and one that is past the end
bytes_missing : eight_at distinct_bytes 6 ≡ 526086
bytes_missing = refl

past_the_end : eight_at distinct_bytes 9 ≡ 0
past_the_end = refl

-- the last byte, the end, and what is past it
position_of_last : position_after distinct_bytes 3 5 ≡ 8
unfolding position_after
position_of_last = refl

position_of_end : position_after distinct_bytes 4 5 ≡ 9
unfolding position_after
position_of_end = refl

position_past_end : position_after distinct_bytes 4 6 ≡ 9
unfolding position_after
position_past_end = refl

-- ---- several numbers of four bytes: the first byte of each stands four bytes after that of the one before it, and none, one, or one whose last three bytes
-- are missing
two_fours : fours_at distinct_bytes 1 2 ≡ 67305985 ∷ 134678021 ∷ []
unfolding fours_at listed
two_fours = refl

no_fours : fours_at distinct_bytes 1 0 ≡ []
unfolding fours_at listed
no_fours = refl

fours_past_the_end : fours_at distinct_bytes 4 3 ≡ 117835012 ∷ 8 ∷ 0 ∷ []
unfolding fours_at listed
fours_past_the_end = refl
