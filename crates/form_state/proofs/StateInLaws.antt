-- The state that the bytes hold, part by part. Assumes nothing.
use mathlib.Core.Path.{◌≡◌, ap, ◌∙◌}
use mathlib.Core.List.{List, [], ◌∷◌}
use Prim.Native.Nat.{ℕ, ◌+◌, ◌*◌, ◌≤◌}
use native.Mathlib.Omega.{arith}
use lib.ListN.{length}
use Rattle.heap_rules.specs.declared.Superblock.{Superblock}
use Rattle.heap_rules.specs.declared.Setup.{Setup}
use Rattle.heap_rules.specs.declared.Totals.{Totals}
use Rattle.bytes_rules.specs.Bytes.{position_after}
use Rattle.bytes_rules.proofs.PastEndLaws.{byte_at_past_end, eight_at_past_end, read_at_position_after}
use Rattle.base_laws.specs.Lists.{listed}
use Rattle.form_rules.specs.Form.{setup_in, superblock_in, names_in, totals_in, state_in}

-- past the end a superblock reads as zeros, so that a position clamped to the end has the same one
superblock_in_past_end : (b : List ℕ) (j : ℕ) → length b ≤ j → record { owner = 0; class = 0; live = 0 ∷ 0 ∷ 0 ∷ 0 ∷ []; rank = 0; run = 0 } ≡ superblock_in b j
unfolding superblock_in
superblock_in_past_end b j past =
    rw (
      ← byte_at_past_end b j past,
      ← byte_at_past_end b (j + 1) (omega arith),
      ← eight_at_past_end b (j + 2) (omega arith),
      ← eight_at_past_end b (j + 10) (omega arith),
      ← eight_at_past_end b (j + 18) (omega arith),
      ← eight_at_past_end b (j + 26) (omega arith),
      ← byte_at_past_end b (j + 34) (omega arith),
      ← byte_at_past_end b (j + 35) (omega arith),
    )

pub superblock_in_position_after : (b : List ℕ) (at i position : ℕ) (x : Superblock) → position ≡ position_after b at i → x ≡ superblock_in b position
    → x ≡ superblock_in b (at + i)
superblock_in_position_after b at i position x p e = e ∙ ap (superblock_in b) p ∙ read_at_position_after (superblock_in b) _ b at i (superblock_in_past_end b)

-- the state is read once its parts are
pub state_in_of_parts : (b : List ℕ) (at : ℕ) (setup : Setup) (table : List Superblock) (names : List ℕ) (totals : Totals)
    → setup ≡ setup_in b → table ≡ listed (λ j. superblock_in b (at + 36 * j)) 64 → names ≡ names_in b (at + 2304) → totals ≡ totals_in b (at + 4352)
    → record { setup = setup; table = table; names = names; totals = totals } ≡ state_in b at
unfolding state_in
state_in_of_parts b at setup table names totals s t n u =
    let behind : at + 64 * 36 + 1024 * 2 ≡ at + 4352 = omega arith in
    rw (behind, s, t, n, u)
