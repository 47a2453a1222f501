-- The call, by the first byte, in the shape in which the code meets it. Assumes nothing.
use mathlib.Core.Path.{◌≡◌, ◌∙◌}
use mathlib.Core.List.{List}
use Prim.Native.Nat.{ℕ}
use borrow.Author.Tests.{ne_eqb}
use Rattle.bytes_rules.specs.Bytes.{byte_at, two_at, four_at}
use Rattle.call_header.specs.declared.CallHeader.TheVariants as header
use Rattle.form_rules.specs.declared.Request.{Request}
use Rattle.form_rules.specs.declared.Request.TheVariants as request
use Rattle.form_rules.specs.Form.{call_in}

module _ (b : List ℕ) (first : ℕ) (is : first ≡ byte_at b 0) where
  pub call_in_of_setup : first ≡ 0 → request.Setup ≡ call_in b
  unfolding call_in
  call_in_of_setup e = rw (← is, e)

  module _ (r : Request) (processor : ℕ) (from : processor ≡ byte_at b 6) where
    pub call_in_of_take : (size : ℕ) → first ≡ 1 → size ≡ two_at b 7 → r ≡ request.Call (header.Take processor size) 0 → r ≡ call_in b
    unfolding call_in
    call_in_of_take size e s told = told ∙ rw (← is, e, ← from, ← s)

    pub call_in_of_free : (address : ℕ) → first ≡ 2 → address ≡ four_at b 7 → r ≡ request.Call (header.Free processor address) 0 → r ≡ call_in b
    unfolding call_in
    call_in_of_free address e a told = told ∙ rw (← is, e, ← from, ← a)

    pub call_in_of_named_take : (name size : ℕ) → first ≡ 3 → name ≡ two_at b 7 → size ≡ two_at b 9
        → r ≡ request.Call (header.NamedTake processor name size) 0 → r ≡ call_in b
    unfolding call_in
    call_in_of_named_take name size e n s told = told ∙ rw (← is, e, ← from, ← n, ← s)

    pub call_in_of_named_free : (name : ℕ) → first ≡ 4 → name ≡ two_at b 7 → r ≡ request.Call (header.NamedFree processor name) 0 → r ≡ call_in b
    unfolding call_in
    call_in_of_named_free name e n told = told ∙ rw (← is, e, ← from, ← n)

  pub call_in_of_drop : (processor count : ℕ) → (first ≡ 0 → ⊥) → (first ≡ 1 → ⊥) → (first ≡ 2 → ⊥) → (first ≡ 3 → ⊥) → (first ≡ 4 → ⊥)
      → processor ≡ byte_at b 6 → count ≡ two_at b 7 → request.Call (header.Drop processor) count ≡ call_in b
  unfolding call_in
  call_in_of_drop processor count n m l k j p c = rw (← is, ne_eqb _ _ n, ne_eqb _ _ m, ne_eqb _ _ l, ne_eqb _ _ k, ne_eqb _ _ j, ← p, ← c)
