-- A take or a free, plain or named, or a drop, whichever it is: refused, it changes nothing; accepted, it leaves a state that passes, and as many
-- superblocks. Assumes nothing.
use mathlib.Core.Path.{◌≡◌, refl, sym, ap, ◌∙◌, subst}
use mathlib.Core.Bool.{true, false}
use mathlib.Core.Logic.{◌⊎◌, inl, inr, ⊎_elim}
use mathlib.Core.List.{List}
use Prim.Native.Nat.{ℕ}
use native.Mathlib.Omega.{arith}
use lib.ListN.{length, length-set}
use Rattle.class_rules.specs.Classes.{class_of, run_length}
use Rattle.heap_rules.specs.declared.State.{State}
use Rattle.heap_rules.specs.Table.{superblock_at, with_mark_at}
use Rattle.heap_rules.specs.States.{with_superblock}
use Rattle.heap_laws.proofs.StateFacts.{Shape}
use Rattle.heap_laws.proofs.MovesKeepLaws.{length_of_invariant_restored}
use Rattle.call_rules.specs.declared.Outcome.{Outcome}
use Rattle.call_rules.specs.declared.Outcome.TheVariants.{Ready, Address, Moves, Refused}
use Rattle.call_rules.specs.Answers.{After, refused}
use Rattle.call_laws.proofs.TakeSourceLaws.{length_unranked_if_empty}
use Rattle.call_rules.specs.Take.{acquired, unranked_if_empty, next_block, taken_from, taken_from_other, take_of}
use Rattle.call_rules.specs.LongBlocks.{long_taken_from}
use Rattle.call_rules.specs.Free.{superblock_holding, is_in_run, small_block_freed, small_freed_at, long_freed_at, free_of}
use Rattle.call_rules.specs.Drop.{dropped_all, drop_of}
use Rattle.call_rules.specs.Named.{name_bound, bound_by, with_name_bound, named_take_of, held_address, named_free_of}
use Rattle.call_rules.specs.Calls.{Call, Take, Free, NamedTake, NamedFree, Drop, call_of}
use Rattle.call_laws.proofs.CallEffects.{Passed, TakeAccepted, LongTakeAccepted, FreeAccepted, LongFreeAccepted, NamedTakeAccepted, NamedLongTakeAccepted}
use Rattle.call_laws.proofs.CallEffects.{NamedFreeAccepted, NamedLongFreeAccepted}
use Rattle.call_laws.proofs.RunEffectLaws.{run_taken_keeps_rest}
use Rattle.call_laws.proofs.TakeLaws.{take_refused_or_accepted, take_passed, take_shape}
use Rattle.call_laws.proofs.RunTakenLaws.{long_take_passed, long_take_shape}
use Rattle.call_laws.proofs.AddressFreedLaws.{block_freed_outside_run, block_freed_in_run}
use Rattle.call_laws.proofs.FreeLaws.{free_refused_or_accepted, free_passed, free_shape, long_free_passed, long_free_shape}
use Rattle.call_laws.proofs.DropLaws.{DropAccepted, drop_refused_or_accepted, drop_shape, drop_passed}
use Rattle.call_laws.proofs.DropMoveLaws.{length_of_block_freed, length_of_drop_moves}
use Rattle.call_laws.proofs.NamedCallLaws.{named_take_refused_or_accepted, named_take_passed, named_take_shape, named_free_refused_or_accepted}
use Rattle.call_laws.proofs.NamedLongTakeLaws.{named_long_take_passed, named_long_take_shape}

-- ---- calls that are accepted
length_of_taken_from : (k : ℕ) (s : State) (order : List ℕ) → length (taken_from k s order).answer.state.table ≡ length s.table
unfolding taken_from
length_of_taken_from k s order = length-set s.table k (with_mark_at (superblock_at s k) (next_block s order k))

length_of_taken_from_other : (i c k : ℕ) (s : State) (order : List ℕ) → length s.table ≡ 64
    → length (taken_from_other i c k s order).answer.state.table ≡ 64
unfolding taken_from_other
length_of_taken_from_other i c k s order long =
    length_of_taken_from k (with_superblock (unranked_if_empty k s) k (acquired i c (superblock_at s k))) _
    ∙ length-set (unranked_if_empty k s).table k (acquired i c (superblock_at s k)) ∙ length_unranked_if_empty k s long

-- a run's superblocks are replaced one by one
length_of_long_taken_from : (k n : ℕ) (s : State) (order : List ℕ) → length s.table ≡ 64 → length (long_taken_from k n s order).answer.state.table ≡ 64
unfolding long_taken_from
length_of_long_taken_from k n s order = (run_taken_keeps_rest k n s).length_is

-- whichever block is freed
module _ (s : State) (order : List ℕ) (a : ℕ) (long : length s.table ≡ 64) where
  length_of_small_freed_at : is_in_run s a ≡ false → length (small_freed_at s order a).answer.state.table ≡ 64
  unfolding small_freed_at
  length_of_small_freed_at e =
      length_of_invariant_restored (superblock_holding s a).owner (superblock_holding s a).class (small_block_freed s a)
      (subst (λ (t : State). length t.table ≡ 64) (block_freed_outside_run s a e) (length_of_block_freed s a long))

  length_of_long_freed_at : is_in_run s a ≡ true → length (long_freed_at s order a).answer.state.table ≡ 64
  unfolding long_freed_at
  length_of_long_freed_at e = subst (λ (t : State). length t.table ≡ 64) (block_freed_in_run s a e) (length_of_block_freed s a long)

-- a name that is bound changes no superblock
table_of_bound_by : (o : Outcome) (m : ℕ) (s : State) → (bound_by o m s).table ≡ s.table
unfolding bound_by name_bound
table_of_bound_by Ready m s = refl
table_of_bound_by (Address a) m s = refl
table_of_bound_by (Moves k) m s = refl
table_of_bound_by (Refused r) m s = refl

-- an accepted call's outcome is no refusal
unfoldable is_refusal : Outcome → ℕ
is_refusal Ready = 0
is_refusal (Address a) = 0
is_refusal (Moves m) = 0
is_refusal (Refused r) = 1

-- ---- an accepted call: the state passes, and so does the one after it; the table still has 64 superblocks
pub record CallAccepted (s : State) (order : List ℕ) (result : After) : Type 0 where
  pub passed : Passed s order
  pub length_is : length s.table ≡ 64 → length result.answer.state.table ≡ 64
  pub not_refused : (r : ℕ) → result.answer.outcome ≡ Refused r → ⊥
  pub passes : Shape s → Passed result.answer.state result.order × Shape result.answer.state

call_accepted_of_result : (s : State) (order : List ℕ) (result x : After) → result ≡ x → Passed s order
    → (length s.table ≡ 64 → length x.answer.state.table ≡ 64) → is_refusal x.answer.outcome ≡ 0
    → (Shape s → Passed result.answer.state result.order × Shape result.answer.state) → CallAccepted s order result
unfolding is_refusal
call_accepted_of_result s order result x e p l n after =
    record {
      passed = p;
      length_is = λ long. ap (λ (y : After). length y.answer.state.table) e ∙ l long;
      not_refused = λ r f. let z : ◌≡◌ {A = ℕ} 1 0 = sym (ap is_refusal f) ∙ ap (λ (y : After). is_refusal y.answer.outcome) e ∙ n in omega arith;
      passes = after;
    }

call_accepted_of_take : (s : State) (order : List ℕ) (i size k : ℕ) → TakeAccepted s order i size k → CallAccepted s order (take_of s order i size)
unfolding is_refusal taken_from taken_from_other
call_accepted_of_take s order i size k acc =
    ⊎_elim (λ h. call_accepted_of_result s order (take_of s order i size) (taken_from k s order) h.1 acc.passed
    (λ long. length_of_taken_from k s order ∙ long) refl after)
    (λ h. call_accepted_of_result s order (take_of s order i size) (taken_from_other i (class_of size) k s order) h.2 acc.passed
    (length_of_taken_from_other i (class_of size) k s order) refl after)
    acc.place
  where
    after : Shape s → Passed (take_of s order i size).answer.state (take_of s order i size).order × Shape (take_of s order i size).answer.state
    after shape = (take_passed s order i size k shape acc, take_shape s order i size k shape acc)

call_accepted_of_long_take : (s : State) (order : List ℕ) (i size k : ℕ) → LongTakeAccepted s order i size k → CallAccepted s order (take_of s order i size)
unfolding is_refusal long_taken_from
call_accepted_of_long_take s order i size k acc =
    call_accepted_of_result s order (take_of s order i size) (long_taken_from k (run_length size) s order) acc.result_is acc.passed
    (length_of_long_taken_from k (run_length size) s order) refl
    (λ shape. (long_take_passed s order i size k shape acc, long_take_shape s order i size k shape acc))

call_accepted_of_free : (s : State) (order : List ℕ) (i a : ℕ) → FreeAccepted s order i a → CallAccepted s order (free_of s order i a)
unfolding is_refusal small_freed_at
call_accepted_of_free s order i a acc =
    call_accepted_of_result s order (free_of s order i a) (small_freed_at s order a) acc.result_is acc.address.passed
    (λ long. length_of_small_freed_at s order a long acc.outside_run) refl
    (λ shape. (free_passed s order i a shape acc, free_shape s order i a shape acc))

call_accepted_of_long_free : (s : State) (order : List ℕ) (i a : ℕ) → LongFreeAccepted s order i a → CallAccepted s order (free_of s order i a)
unfolding is_refusal long_freed_at
call_accepted_of_long_free s order i a acc =
    call_accepted_of_result s order (free_of s order i a) (long_freed_at s order a) acc.result_is acc.address.passed
    (λ long. length_of_long_freed_at s order a long acc.in_run) refl
    (λ shape. (long_free_passed s order i a shape acc, long_free_shape s order i a shape acc))

call_accepted_of_drop : (s : State) (order : List ℕ) (i : ℕ) (addresses : List ℕ) → DropAccepted s order i addresses
    → CallAccepted s order (drop_of s order i addresses)
unfolding is_refusal dropped_all
call_accepted_of_drop s order i addresses acc =
    call_accepted_of_result s order (drop_of s order i addresses) (dropped_all s order addresses) acc.result_is acc.passed
    (length_of_drop_moves s addresses) refl
    (λ shape. (drop_passed s order i addresses shape acc, drop_shape s order i addresses shape acc))

-- a named take is the plain one with the name bound, and a named free the free of the held address
call_accepted_of_name_bound : (s : State) (order : List ℕ) (i m size : ℕ) → CallAccepted s order (take_of s order i size) → named_take_of s order i m size
    ≡ with_name_bound m (take_of s order i size)
    → (Shape s → Passed (named_take_of s order i m size).answer.state (named_take_of s order i m size).order
    × Shape (named_take_of s order i m size).answer.state) → CallAccepted s order (named_take_of s order i m size)
unfolding with_name_bound
call_accepted_of_name_bound s order i m size plain result_is after =
    let result = (take_of s order i size).answer in
    record {
      passed = plain.passed;
      length_is = λ long. ap (λ (y : After). length y.answer.state.table) result_is
          ∙ ap length (table_of_bound_by result.outcome m result.state) ∙ plain.length_is long;
      not_refused = λ r f. plain.not_refused r (sym (ap (λ (y : After). y.answer.outcome) result_is) ∙ f);
      passes = after;
    }

call_accepted_of_named_take : (s : State) (order : List ℕ) (i m size k : ℕ) → NamedTakeAccepted s order i m size k
    → CallAccepted s order (named_take_of s order i m size)
call_accepted_of_named_take s order i m size k acc =
    call_accepted_of_name_bound s order i m size (call_accepted_of_take s order i size k acc.taken) acc.result_is
    (λ shape. (named_take_passed s order i m size k shape acc, named_take_shape s order i m size k shape acc))

call_accepted_of_named_long_take : (s : State) (order : List ℕ) (i m size k : ℕ) → NamedLongTakeAccepted s order i m size k
    → CallAccepted s order (named_take_of s order i m size)
call_accepted_of_named_long_take s order i m size k acc =
    call_accepted_of_name_bound s order i m size (call_accepted_of_long_take s order i size k acc.taken) acc.result_is
    (λ shape. (named_long_take_passed s order i m size k shape acc, named_long_take_shape s order i m size k shape acc))

call_accepted_of_named_free : (s : State) (order : List ℕ) (i m : ℕ) → NamedFreeAccepted s order i m → CallAccepted s order (named_free_of s order i m)
call_accepted_of_named_free s order i m acc = subst (CallAccepted s order) (sym acc.result_is)
    (call_accepted_of_free s order i (held_address s m) acc.freed)

call_accepted_of_named_long_free : (s : State) (order : List ℕ) (i m : ℕ) → NamedLongFreeAccepted s order i m → CallAccepted s order (named_free_of s order i m)
call_accepted_of_named_long_free s order i m acc = subst (CallAccepted s order) (sym acc.result_is)
    (call_accepted_of_long_free s order i (held_address s m) acc.freed)

pub call_refused_or_accepted : (s : State) (order : List ℕ) (call : Call) → ((r : ℕ) × (call_of s order call ≡ refused r s order))
    ⊎ CallAccepted s order (call_of s order call)
unfolding call_of
call_refused_or_accepted s order (Take i size) =
    ⊎_elim inl (λ h. inr (⊎_elim (λ g. call_accepted_of_take s order i size g.0 g.1) (λ g. call_accepted_of_long_take s order i size g.0 g.1)
    h)) (take_refused_or_accepted s order i size)
call_refused_or_accepted s order (Free i a) =
    ⊎_elim inl (λ h. inr (⊎_elim (call_accepted_of_free s order i a) (call_accepted_of_long_free s order i a) h)) (free_refused_or_accepted s order i a)
call_refused_or_accepted s order (NamedTake i m size) =
    ⊎_elim inl (λ h. inr (⊎_elim (λ g. call_accepted_of_named_take s order i m size g.0 g.1)
    (λ g. call_accepted_of_named_long_take s order i m size g.0 g.1) h)) (named_take_refused_or_accepted s order i m size)
call_refused_or_accepted s order (NamedFree i m) =
    ⊎_elim inl (λ h. inr (⊎_elim (call_accepted_of_named_free s order i m) (call_accepted_of_named_long_free s order i m) h))
    (named_free_refused_or_accepted s order i m)
call_refused_or_accepted s order (Drop i addresses) = ⊎_elim inl (λ h. inr (call_accepted_of_drop s order i addresses h))
    (drop_refused_or_accepted s order i addresses)
