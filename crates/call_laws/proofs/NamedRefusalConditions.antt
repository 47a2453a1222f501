-- Each refusal of a named take and a named free, by its number, given exactly if its condition holds and none before it: "14, taken name or one above
-- 1023, on a named take after 2 and before 3; 15, name not held, on a named free after 2" (document 02, item 2). Assumes nothing.
use mathlib.Core.Path.{◌≡◌, refl, sym, ap, ◌∙◌}
use mathlib.Core.Bool.{Bool, true, false, not}
use mathlib.Core.Logic.{◌↔◌, ◌⊎◌, ⊎_elim}
use mathlib.Core.List.{List, [], ◌∷◌}
use Prim.Native.Nat.{ℕ, ◌≤◌, ◌<◌}
use native.Mathlib.Omega.{arith}
use borrow.Author.Tests.{ltb-true, ltb-false, not-true, not-false}
use lib.Dec.{ltb}
use Rattle.base_laws.proofs.TestLaws.{T_of_true}
use Rattle.base_laws.proofs.Decides.{Decides, true_of_decides, false_of_decides, decides, decides_fact, decides_either}
use Rattle.class_rules.proofs.ClassLaws.{decides_too_large}
use Rattle.names_rules.specs.Names.{not_held, is_name, block_named, is_held}
use Rattle.names_laws.proofs.NameLaws.{held_facts, held_of_facts}
use Rattle.heap_rules.specs.declared.State.{State}
use Rattle.heap_laws.proofs.StateFacts.{Shape}
use Rattle.call_rules.specs.declared.Outcome.TheVariants.{Refused}
use Rattle.call_rules.specs.Answers.{After, refused, is_processor}
use Rattle.call_rules.specs.Take.{take_unchecked, take_of}
use Rattle.call_rules.specs.Free.{free_unchecked}
use Rattle.call_rules.specs.Named.{is_unavailable, with_name_bound, named_take_unchecked, named_take_of, held_address, named_free_unchecked, named_free_of}
use Rattle.call_laws.proofs.CallEffects.{Passed}
use Rattle.call_laws.proofs.FreeLaws.{free_outcome, long_free_outcome}
use Rattle.call_laws.proofs.RefusalOrder.{take_is_unchecked, take_refused_3_of_too_large, free_is_unchecked}
use Rattle.call_laws.proofs.NamedCallLaws.{named_take_by_tests, named_free_by_tests, named_take_is_unchecked, named_take_is_plain_take}
use Rattle.call_laws.proofs.NamedCallLaws.{named_free_is_unchecked, held_name_free_accepted, name_bound_of_refused}
use Rattle.call_laws.proofs.RefusalConditions.{CheckFails, StorageShort, IsProcessor, NotProcessor, TooLarge, NothingOffered, NoRun, take_refusals}
use Rattle.call_laws.proofs.RefusalConditions.{ConditionOf, condition_by_number, refused_iff_condition, condition_at_number, moves_not_refused}
use Rattle.call_laws.proofs.RefusalConditions.{decides_processor, checked_refused, check_fails_refused_13, storage_short_refused_12}
use Rattle.call_laws.proofs.RefusalConditions.{nothing_offered_refused_4, no_run_refused_17, take_refused_iff_condition}

-- ---- the conditions
-- name m is held: it is one of 0 to 1023, and points at a block
pub record Held (s : State) (m : ℕ) : Type 0 where
  pub is_name_lem : m < 1024
  pub points : block_named s.names m ≡ not_held → ⊥

-- 14: "taken name or one above 1023"
pub record NameUnavailable (s : State) (order : List ℕ) (i m : ℕ) : Type 0 where
  pub passed : Passed s order
  pub processor : IsProcessor s i
  pub taken : (1024 ≤ m) ⊎ Held s m

-- a name that a take may have
pub record NameAvailable (s : State) (m : ℕ) : Type 0 where
  pub is_name_lem : m < 1024
  pub not_held_lem : Held s m → ⊥

-- 15: "name not held"
pub record NameNotHeld (s : State) (order : List ℕ) (i m : ℕ) : Type 0 where
  pub passed : Passed s order
  pub processor : IsProcessor s i
  pub not_held_lem : Held s m → ⊥

-- ---- the numbers, each with its condition, in the page's order
-- of a named take: 13, 12, 13, "after 2 and before 3" 14, then a take's 3 and 4, or 17 in place of 4
abbrev pub named_take_refusals : (s : State) (order : List ℕ) (i m size : ℕ) → List (ℕ × Type 0)
named_take_refusals s order i m size =
    (13, CheckFails s order) ∷ (12, StorageShort s order) ∷ (2, NotProcessor s order i) ∷ (14, NameUnavailable s order i m)
    ∷ (3, NameAvailable s m × TooLarge s order i size) ∷ (4, NameAvailable s m × NothingOffered s order i size)
    ∷ (17, NameAvailable s m × NoRun s order i size) ∷ []

-- of a named free: 13, 12, 13, 2, 15, and none of a free's 5, 6 and 7
abbrev pub named_free_refusals : (s : State) (order : List ℕ) (i m : ℕ) → List (ℕ × Type 0)
named_free_refusals s order i m = (13, CheckFails s order) ∷ (12, StorageShort s order) ∷ (2, NotProcessor s order i) ∷ (15, NameNotHeld s order i m) ∷ []

module _ (s : State) (m : ℕ) where
  decides_held : Decides (is_held s.names m) (Held s m) (Held s m → ⊥)
  decides_held =
      decides_fact (is_held s.names m)
      (λ t. let h = held_facts s.names m t in record { is_name_lem = h.0; points = h.1 })
      (λ h. held_of_facts s.names m h.is_name_lem h.points)

  decides_unavailable : Decides (is_unavailable s m) ((1024 ≤ m) ⊎ Held s m) ((m < 1024) × (Held s m → ⊥))
  unfolding is_unavailable is_name
  decides_unavailable = decides_either (not (ltb m 1024)) (is_held s.names m)
      (decides (not (ltb m 1024)) (λ e. ltb-false m 1024 (not-true (ltb m 1024) e)) (λ e. ltb-true m 1024 (not-false (ltb m 1024) e)) (λ a b. omega arith))
      decides_held

module _ (s : State) (order : List ℕ) (i m : ℕ) where
  -- ---- a named take
  module _ (size : ℕ) where
    -- what refuses the plain take refuses the named one, where its name is free
    condition_of_plain_refusal : NameAvailable s m → (r : ℕ) → ConditionOf (take_refusals s order i size) r
        → ConditionOf (named_take_refusals s order i m size) r
    condition_of_plain_refusal free =
        condition_by_number (ConditionOf (named_take_refusals s order i m size)) (take_refusals s order i size) (λ h. h) (λ h. h) (λ h. h) (λ h. (free, h))
        (λ h. (free, h)) (λ h. (free, h))

    condition_of_named_take_refused : (r : ℕ) → (named_take_of s order i m size).answer.outcome ≡ Refused r
        → ConditionOf (named_take_refusals s order i m size) r
    unfolding named_take_of named_take_unchecked with_name_bound
    condition_of_named_take_refused r = checked_refused s order i (named_take_unchecked s order i m size)
        (named_take_refusals s order i m size) r (λ h. h) (λ h. h)
        (go (is_processor s i) (is_unavailable s m) (decides_processor s order i) (decides_unavailable s m))
      where
        go : (p u : Bool) → Decides p (IsProcessor s i) ((i ≡ 0) ⊎ (s.setup.processors < i)) → Decides u ((1024 ≤ m) ⊎ Held s m) ((m < 1024) × (Held s m → ⊥))
            → Passed s order → (named_take_by_tests s order i m p u (take_unchecked s order i size)).answer.outcome ≡ Refused r
            → ConditionOf (named_take_refusals s order i m size) r
        go false u p t passed e = condition_at_number (named_take_refusals s order i m size) 2 r e (record { passed = passed; out = p.says })
        go true true p t passed e = condition_at_number (named_take_refusals s order i m size) 14 r e
            (record { passed = passed; processor = p.says; taken = t.says })
        go true false p t passed e =
            condition_of_plain_refusal (record { is_name_lem = t.says.0; not_held_lem = t.says.1 }) r
            ((take_refused_iff_condition s order i size r).0 (ap (λ (x : After). x.answer.outcome) (take_is_unchecked s order i passed size) ∙ e))

    available : NameAvailable s m → is_unavailable s m ≡ false
    available h = false_of_decides (decides_unavailable s m) (h.is_name_lem, h.not_held_lem)

    -- a refusal of the plain take is the named take's
    refused_as_plain : (n : ℕ) → NameAvailable s m → Passed s order → IsProcessor s i → take_of s order i size ≡ refused n s order
        → named_take_of s order i m size ≡ refused n s order
    refused_as_plain n free passed p e =
        named_take_is_plain_take s order i m size passed (true_of_decides (decides_processor s order i) p) (available free) ∙ ap (with_name_bound m) e
        ∙ name_bound_of_refused n m s order

    -- a named take is refused with number r exactly if r's condition holds: it applies, and none before it in the order
    pub named_take_refused_iff_condition : (r : ℕ) → ((named_take_of s order i m size).answer.outcome ≡ Refused r)
        ↔ ConditionOf (named_take_refusals s order i m size) r
    unfolding named_take_of named_take_unchecked
    named_take_refused_iff_condition = refused_iff_condition (named_take_of s order i m size) s order (named_take_refusals s order i m size)
        condition_of_named_take_refused
        (check_fails_refused_13 s order i _) (storage_short_refused_12 s order i _)
        (λ h. named_take_is_unchecked s order i m size h.passed ∙ rw (false_of_decides (decides_processor s order i) h.out))
        (λ h. named_take_is_unchecked s order i m size h.passed
        ∙ rw (true_of_decides (decides_processor s order i) h.processor, true_of_decides (decides_unavailable s m) h.taken))
        (λ h.
        refused_as_plain 3 h.0 h.1.passed h.1.processor
        (take_refused_3_of_too_large s order i h.1.passed size (true_of_decides (decides_processor s order i) h.1.processor)
        (true_of_decides (decides_too_large size) h.1.large)))
        (λ h. refused_as_plain 4 h.0 h.1.passed h.1.processor (nothing_offered_refused_4 s order i size h.1))
        (λ h. refused_as_plain 17 h.0 h.1.passed h.1.processor (no_run_refused_17 s order i size h.1))

    pub named_take_refused_14 : ((named_take_of s order i m size).answer.outcome ≡ Refused 14) ↔ NameUnavailable s order i m
    named_take_refused_14 = named_take_refused_iff_condition 14

    -- "no such run, given exactly then" (document 02, item 7), where the name is free
    pub named_take_refused_17 : ((named_take_of s order i m size).answer.outcome ≡ Refused 17) ↔ (NameAvailable s m × NoRun s order i size)
    named_take_refused_17 = named_take_refused_iff_condition 17

    -- "As a size has 16 bits, refusal 3 can no longer be met"
    pub named_take_never_refused_3 : size < 65536 → (named_take_of s order i m size).answer.outcome ≡ Refused 3 → ⊥
    named_take_never_refused_3 l e = let h = ((named_take_refused_iff_condition 3).0 e).1.large in omega arith

    -- 17 "in place of 4 for a long size", and for no other
    pub named_long_take_never_refused_4 : 2048 < size → (named_take_of s order i m size).answer.outcome ≡ Refused 4 → ⊥
    named_long_take_never_refused_4 l e = let h = ((named_take_refused_iff_condition 4).0 e).1.size_le_2048 in omega arith

    pub named_class_size_never_refused_17 : size ≤ 2048 → (named_take_of s order i m size).answer.outcome ≡ Refused 17 → ⊥
    named_class_size_never_refused_17 l e = let h = (named_take_refused_17.0 e).1.size_above_2048 in omega arith

  -- ---- a named free
  module _ (shape : Shape s) where
    condition_of_named_free_refused : (r : ℕ) → (named_free_of s order i m).answer.outcome ≡ Refused r → ConditionOf (named_free_refusals s order i m) r
    unfolding named_free_of named_free_unchecked
    condition_of_named_free_refused r = checked_refused s order i (named_free_unchecked s order i m)
        (named_free_refusals s order i m) r (λ h. h) (λ h. h)
        (go (is_processor s i) (is_held s.names m) (decides_processor s order i) (decides_held s m) refl refl)
      where
        go : (p h : Bool) → Decides p (IsProcessor s i) ((i ≡ 0) ⊎ (s.setup.processors < i)) → Decides h (Held s m) (Held s m → ⊥) → is_processor s i ≡ p
            → is_held s.names m ≡ h
            → Passed s order → (named_free_by_tests s order i m p h (free_unchecked s order i (held_address s m))).answer.outcome ≡ Refused r
            → ConditionOf (named_free_refusals s order i m) r
        go false h p t ep eh passed e = condition_at_number (named_free_refusals s order i m) 2 r e (record { passed = passed; out = p.says })
        go true false p t ep eh passed e = condition_at_number (named_free_refusals s order i m) 15 r e
            (record { passed = passed; processor = p.says; not_held_lem = t.says })
        go true true p t ep eh passed e =
            let unchecked = ap (λ (x : After). x.answer.outcome) (free_is_unchecked s order i passed (held_address s m)) ∙ e in
            absurd (⊎_elim (λ acc. moves_not_refused _ r (sym (free_outcome s order i (held_address s m) shape acc) ∙ unchecked))
            (λ acc. moves_not_refused _ r (sym (long_free_outcome s order i (held_address s m) shape acc) ∙ unchecked))
            (held_name_free_accepted s order m shape passed (T_of_true _ eh) i ep))

    -- a named free is refused with number r exactly if r's condition holds: so never with 5, 6 or 7
    pub named_free_refused_iff_condition : (r : ℕ) → ((named_free_of s order i m).answer.outcome ≡ Refused r) ↔ ConditionOf (named_free_refusals s order i m) r
    unfolding named_free_of named_free_unchecked
    named_free_refused_iff_condition = refused_iff_condition (named_free_of s order i m) s order (named_free_refusals s order i m)
        condition_of_named_free_refused
        (check_fails_refused_13 s order i _) (storage_short_refused_12 s order i _)
        (λ h. named_free_is_unchecked s order i m h.passed ∙ rw (false_of_decides (decides_processor s order i) h.out))
        (λ h. named_free_is_unchecked s order i m h.passed
        ∙ rw (true_of_decides (decides_processor s order i) h.processor, false_of_decides (decides_held s m) h.not_held_lem))

    pub named_free_refused_15 : ((named_free_of s order i m).answer.outcome ≡ Refused 15) ↔ NameNotHeld s order i m
    named_free_refused_15 = named_free_refused_iff_condition 15

    pub named_free_not_refused_5_6_7 : ((named_free_of s order i m).answer.outcome ≡ Refused 5 → ⊥)
        × ((named_free_of s order i m).answer.outcome ≡ Refused 6 → ⊥) × ((named_free_of s order i m).answer.outcome ≡ Refused 7 → ⊥)
    named_free_not_refused_5_6_7 = ((named_free_refused_iff_condition 5).0, (named_free_refused_iff_condition 6).0, (named_free_refused_iff_condition 7).0)
