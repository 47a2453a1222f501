-- What a loop leaves that reads several numbers of four bytes, in front of zeros. Assumes nothing.
use mathlib.Core.Path.{◌≡◌, sym, ◌∙◌}
use mathlib.Core.List.{List, ◌++◌}
use Prim.Native.Nat.{ℕ, ◌+◌, ◌-◌, ◌*◌, ◌<◌}
use native.Mathlib.Omega.{arith}
use lib.ListN.{length, get_or, take, drop, replicate}
use Rattle.std.proofs.lemmas.List.{take_at, drop_at, drop-replicate}
use lib.Seq.{ext_get_or}
use Rattle.base_laws.specs.Lists.{listed}
use Rattle.base_laws.proofs.ListedLaws.{length_listed, get_or_listed}
use Rattle.bytes_rules.specs.Bytes.{four_at, fours_at}

pub fours_read : (r xs zeros : List ℕ) (at n : ℕ) → length xs ≡ n → ((k : ℕ) → k < n → get_or xs k 0 ≡ four_at r (at + 4 * k))
    → take n (xs ++ zeros) ≡ fours_at r at n
unfolding fours_at
fours_read r xs zeros at n long e =
    let f : ℕ → ℕ = λ k. four_at r (at + 4 * k) in
    take_at xs zeros n long
    ∙ ext_get_or 0 xs (listed f n) (long ∙ sym (length_listed f n)) (λ k h. e k (omega arith) ∙ sym (get_or_listed f n k 0 (omega arith)))

pub zeros_behind_fours : (xs : List ℕ) (n : ℕ) → length xs ≡ n → drop n (xs ++ drop n (replicate 255 0)) ≡ replicate (255 - n) 0
zeros_behind_fours xs n long = drop_at xs (drop n (replicate 255 0)) n long ∙ drop-replicate n 255 0
