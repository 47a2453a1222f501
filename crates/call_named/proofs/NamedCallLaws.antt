-- Named calls behind the check, as the code goes: the refusals before the plain call's, and then the plain call. Assumes nothing.
use mathlib.Core.Path.{◌≡◌, refl}
use mathlib.Core.Bool.{Bool, true, false, not}
use mathlib.Core.List.{List}
use Prim.Native.Nat.{ℕ}
use Rattle.base_laws.specs.Sums.{pick}
use Rattle.names_rules.specs.Names.{is_held}
use Rattle.heap_rules.specs.declared.State.{State}
use Rattle.call_rules.specs.declared.Answer.{Answer}
use Rattle.call_rules.specs.Answers.{After, refused, is_processor}
use Rattle.call_rules.specs.Take.{take_unchecked}
use Rattle.call_rules.specs.Free.{free_unchecked}
use Rattle.call_rules.specs.Named.{is_unavailable, bound_by, with_name_bound, named_take_unchecked, held_address, named_free_unchecked}
use Rattle.call_outcomes.proofs.CallTestLaws.{tested}
use Rattle.call_named.specs.NamedRefusals.{named_take_refusal, named_free_refusal}

module _ (s : State) (order : List ℕ) (i m : ℕ) where
  pub named_take_unchecked_by_test : (size : ℕ) → tested (named_take_refusal s i m) s order (with_name_bound m (take_unchecked s order i size))
      ≡ named_take_unchecked s order i m size
  unfolding named_take_refusal named_take_unchecked
  named_take_unchecked_by_test size = go (is_processor s i) (is_unavailable s m) (with_name_bound m (take_unchecked s order i size))
    where
      go : (a b : Bool) (next : After) → tested (pick a (pick b 14 0) 2) s order next
          ≡ pick (not a) (refused 2 s order) (pick b (refused 14 s order) next)
      go true true next = refl
      go true false next = refl
      go false b next = refl

  pub plain_take_with_name_bound : (size : ℕ) (plain : Answer) (new : List ℕ) (bound : State)
      → record { answer = plain; order = new } ≡ take_unchecked s order i size → bound ≡ bound_by plain.outcome m plain.state
      → record { answer = record { outcome = plain.outcome; state = bound }; order = new } ≡ with_name_bound m (take_unchecked s order i size)
  unfolding with_name_bound
  plain_take_with_name_bound size plain new bound e h = rw (h, ← e)

  pub named_free_unchecked_by_test : tested (named_free_refusal s i m) s order (free_unchecked s order i (held_address s m))
      ≡ named_free_unchecked s order i m
  unfolding named_free_refusal named_free_unchecked
  named_free_unchecked_by_test = go (is_processor s i) (is_held s.names m) (free_unchecked s order i (held_address s m))
    where
      go : (a b : Bool) (next : After) → tested (pick a (pick b 0 15) 2) s order next
          ≡ pick (not a) (refused 2 s order) (pick (not b) (refused 15 s order) next)
      go true true next = refl
      go true false next = refl
      go false b next = refl
