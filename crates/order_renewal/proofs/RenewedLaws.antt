-- A superblock's places when the loop over them is over. Assumes nothing.
use mathlib.Core.Path.{◌≡◌, sym, ◌∙◌}
use mathlib.Core.List.{List}
use Prim.Native.Nat.{ℕ, ◌+◌, ◌-◌, ◌*◌, ◌≤◌, ◌<◌}
use native.Mathlib.Nat.{le_of_eq}
use native.Mathlib.Omega.{arith}
use borrow.Rule.Slice.PartMut.{put_mid}
use lib.ListN.{length, get_or}
use lib.Seq.{ext_get_or, take_all}
use Rattle.std.proofs.lemmas.Slice.{put_mid-paste}
use Rattle.order_rules.specs.Order.{descending, with_renewed_places, renewed}
use Rattle.order_laws.proofs.OrderLaws.{length_descending, get_or_descending, renewed_is_with_renewed_places}

pub renewed_by_places : (l xs : List ℕ) (s n k : ℕ) → n ≤ 256 → s * 256 + n ≤ length l → k ≡ n → length xs ≡ n
    → ((j : ℕ) → j < n → get_or xs j 0 ≡ n - 1 - j) → put_mid (s * 256) k l xs ≡ renewed l s n
unfolding with_renewed_places
renewed_by_places l xs s n k small fits e long h =
    let same : xs ≡ descending n = ext_get_or 0 xs (descending n) (long ∙ sym (length_descending n))
    (λ j below. h j (omega arith) ∙ sym (get_or_descending n j (omega arith))) in
    rw (
      put_mid-paste (s * 256) k l xs (descending n) n same (sym e) (sym (length_descending n)),
      renewed_is_with_renewed_places l s n small fits,
      take_all n (descending n) (le_of_eq (length_descending n)),
    )
