-- For a caller: the key's bytes lie in the buffer. Assumes nothing.
use mathlib.Core.Path.{◌≡◌, sym, ap, ◌∙◌, subst}
use mathlib.Core.List.{List}
use Rattle.std.specs.Prelude.{Option, Some}
use Prim.Native.Nat.{ℕ, ◌≤◌}
use native.Mathlib.Omega.{arith}
use lib.ListN.{length, take, length-take}
use Rattle.key_rules.specs.Key.{KeyWritten, KeyOrNoRoom}

module _ (r order out : List ℕ) (printed : Option ℕ) (left new : List ℕ) (n : ℕ) (answered : KeyOrNoRoom r order out printed left new)
    (e : printed ≡ Some n) where
  pub key_text_counted : n ≡ length (take n new)
  unfolding KeyOrNoRoom
  key_text_counted =
      let keyed : KeyWritten r order out n left new = (subst (λ (z : Option ℕ). KeyOrNoRoom r order out z left new) e answered).1 in
      keyed.count ∙ ap length (sym keyed.text)

  pub key_text_within_buffer : n ≤ length new
  key_text_within_buffer = omega (arith, key_text_counted, length-take n new)
