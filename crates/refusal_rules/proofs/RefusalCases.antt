-- The refusals have the numbers 1 to 17 of the two documents.
use mathlib.Core.Path.{◌≡◌, refl}
use mathlib.Core.List.{List, [], ◌∷◌}
use Prim.Native.Nat.{ℕ}
use Rattle.refusal_rules.specs.Refusals.{
  setup_out_of_limits,
  no_such_processor,
  size_too_large,
  no_superblock,
  address_unmapped,
  address_misaligned,
  block_not_live,
  unknown_command,
  command_truncated,
  command_misplaced,
  record_too_long,
  storage_too_small,
  state_invalid,
  name_unavailable,
  name_not_held,
  drop_empty,
  no_run,
}

in_the_order_of_the_documents : List ℕ
in_the_order_of_the_documents =
    setup_out_of_limits ∷ no_such_processor ∷ size_too_large ∷ no_superblock ∷ address_unmapped ∷ address_misaligned ∷ block_not_live
    ∷ unknown_command ∷ command_truncated ∷ command_misplaced ∷ record_too_long ∷ storage_too_small ∷ state_invalid
    ∷ name_unavailable ∷ name_not_held ∷ drop_empty ∷ no_run ∷ []

refusal_number_cases : in_the_order_of_the_documents ≡ 1 ∷ 2 ∷ 3 ∷ 4 ∷ 5 ∷ 6 ∷ 7 ∷ 8 ∷ 9 ∷ 10 ∷ 11 ∷ 12 ∷ 13 ∷ 14 ∷ 15 ∷ 16 ∷ 17 ∷ []
unfolding in_the_order_of_the_documents
refusal_number_cases = refl
