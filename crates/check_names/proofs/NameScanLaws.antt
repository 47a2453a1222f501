-- The pass over the names: what it answers is the two clauses of the check, what one name more leaves of it, and that it may end at the last held
-- name. Assumes nothing.
use mathlib.Core.Path.{◌≡◌, refl, sym, ap, ap₂, ◌∙◌}
use mathlib.Core.Bool.{Bool, true, false, not}
use mathlib.Core.List.{List, [], ◌∷◌}
use Prim.Native.Nat.{ℕ, suc, ◌+◌, ◌-◌, ◌*◌, ◌/◌, ◌%◌, ◌^◌, ◌≤◌, ◌<◌}
use native.Mathlib.Decide.{ℕ_discrete}
use native.Mathlib.Numerals.{add-one}
use native.Mathlib.Omega.{arith}
use borrow.Author.Tests.{eq-eqb, ne_eqb}
use lib.ListN.{length, get_or, set, drop, drop_of_length-le}
use lib.Seq.{drop-cons}
use lib.Dec.{eqb}
use lib.Bits.{bit_and}
use Rattle.base_laws.specs.Sums.{pick, both, either, one}
use Rattle.base_laws.proofs.TestLaws.{both_false_right}
use Rattle.marks_rules.specs.Marks.{mark_bit, is_marked, without_mark}
use Rattle.marks_laws.proofs.BitLaws.{shl_one}
use Rattle.marks_laws.proofs.MarkLaws.{length_without_mark, without_mark_same, without_mark_other, mark_bit_lt_two, mark_of_mark_bit_one}
use Rattle.marks_laws.proofs.MarkLaws.{no_mark_of_mark_bit_zero, mark_bit_past_the_end}
use Rattle.names_rules.specs.Names.{not_held, each_held, is_named, no_two_at_one}
use Rattle.heap_rules.specs.declared.State.{State}
use Rattle.heap_rules.specs.Table.{is_live_block}
use Rattle.check_rules.specs.Check.{names_valid}
use Rattle.check_names.specs.NameScan.{held_count, each_has_a_mark}

-- ---- the answer
each_held_cong : (f g : ℕ → Bool) (names : List ℕ) → ((b : ℕ) → f b ≡ g b) → each_held f names ≡ each_held g names
unfolding each_held
each_held_cong f g [] e = refl
each_held_cong f g (x ∷ names) e = ap₂ both (ap (either (eqb x not_held)) (e x)) (each_held_cong f g names e)

is_marked_without_other : (marks : List ℕ) (x y : ℕ) → (y ≡ x → ⊥) → is_marked (without_mark marks x) y ≡ is_marked marks y
unfolding is_marked
is_marked_without_other marks x y f = ap (λ (b : ℕ). eqb b 1) (without_mark_other marks x y f)

-- with block x's mark taken out, each held name has a mark just where it had one before and none of them points at x
each_held_without_mark : (marks names : List ℕ) (x : ℕ) → (x ≡ not_held → ⊥) → each_held (is_marked (without_mark marks x)) names
    ≡ both (each_held (is_marked marks) names) (not (is_named x names))
unfolding each_held is_named
each_held_without_mark marks [] x held = refl
each_held_without_mark marks (y ∷ names) x held = go (each_held_without_mark marks names x held) (ℕ_discrete y x)
  where
    found : Bool
    found = each_held (is_marked marks) names

    named : Bool
    named = is_named x names

    keep : (t m : Bool) → both (either t m) (both found (not named)) ≡ both (both (either t m) found) (not named)
    keep true m = refl
    keep false true = refl
    keep false false = refl

    go : each_held (is_marked (without_mark marks x)) names ≡ both found (not named) → Dec (y ≡ x)
        → both (either (eqb y not_held) (is_marked (without_mark marks x) y)) (each_held (is_marked (without_mark marks x)) names)
        ≡ both (both (either (eqb y not_held) (is_marked marks y)) found) (not (either (eqb y x) named))
    go ih (yes q) =
        let n : eqb y not_held ≡ false = ne_eqb y not_held (λ (e : y ≡ not_held). held (sym q ∙ e)) in
        let m : is_marked (without_mark marks x) y ≡ false = ap (is_marked (without_mark marks x)) q ∙ no_mark_of_mark_bit_zero (without_mark marks x) x
        (without_mark_same marks x) in
        rw (n, m, eq-eqb y x q) (sym (both_false_right (both (is_marked marks y) found)))
    go ih (no f) =
        rw (ne_eqb y x f, is_marked_without_other marks x y f, ih) (keep (eqb y not_held) (is_marked marks y))

each_has_a_mark_is_both : (marks names : List ℕ) → each_has_a_mark marks names ≡ both (each_held (is_marked marks) names) (no_two_at_one names)
unfolding each_has_a_mark each_held no_two_at_one
each_has_a_mark_is_both marks [] = refl
each_has_a_mark_is_both marks (x ∷ names) = go (each_has_a_mark_is_both marks names) (each_has_a_mark_is_both (without_mark marks x) names)
    (ℕ_discrete x not_held)
  where
    spread : (m e n t : Bool) → both m (both (both e n) t) ≡ both (both m e) (both n t)
    spread true true n t = refl
    spread true false n t = refl
    spread false e n t = refl

    go : each_has_a_mark marks names ≡ both (each_held (is_marked marks) names) (no_two_at_one names)
        → each_has_a_mark (without_mark marks x) names ≡ both (each_held (is_marked (without_mark marks x)) names) (no_two_at_one names)
        → Dec (x ≡ not_held)
        → pick (eqb x not_held) (each_has_a_mark marks names) (both (is_marked marks x) (each_has_a_mark (without_mark marks x) names))
        ≡ both (both (either (eqb x not_held) (is_marked marks x)) (each_held (is_marked marks) names))
        (both (either (eqb x not_held) (not (is_named x names))) (no_two_at_one names))
    go kept taken (yes q) = rw (eq-eqb x not_held q) kept
    go kept taken (no f) =
        rw (ne_eqb x not_held f, taken, each_held_without_mark marks names x f)
        (spread (is_marked marks x) (each_held (is_marked marks) names) (not (is_named x names)) (no_two_at_one names))

each_held_of_none_held : (test : ℕ → Bool) (names : List ℕ) → held_count names ≡ 0 → each_held test names ≡ true
unfolding held_count each_held
each_held_of_none_held test [] z = refl
each_held_of_none_held test (x ∷ names) z = go (eqb x not_held) refl (each_held_of_none_held test names)
  where
    go : (t : Bool) → eqb x not_held ≡ t → (held_count names ≡ 0 → each_held test names ≡ true) → both (either t (test x)) (each_held test names) ≡ true
    go true e ih = ih (omega arith)
    go false e ih = let more : one (not (eqb x not_held)) ≡ 1 = rw e in absurd (let z : ⊥ = omega arith in z)

pub names_valid_is_each_has_a_mark : (s : State) (marks : List ℕ) (r : Bool) → ((b : ℕ) → is_marked marks b ≡ is_live_block s b)
    → r ≡ each_has_a_mark marks s.names → r ≡ names_valid s
unfolding names_valid
names_valid_is_each_has_a_mark s marks r live e =
    e
    ∙ each_has_a_mark_is_both marks s.names
    ∙ ap (λ (t : Bool). both t (no_two_at_one s.names)) (each_held_cong (is_marked marks) (is_live_block s) s.names live)

-- ---- names that are not held
-- where none is held, none is asked
each_has_a_mark_of_none_held : (marks names : List ℕ) → held_count names ≡ 0 → each_has_a_mark marks names ≡ true
unfolding held_count each_has_a_mark
each_has_a_mark_of_none_held marks [] z = refl
each_has_a_mark_of_none_held marks (x ∷ names) z = go (eqb x not_held) refl (each_has_a_mark_of_none_held marks names)
  where
    go : (t : Bool) → eqb x not_held ≡ t → (held_count names ≡ 0 → each_has_a_mark marks names ≡ true)
        → pick t (each_has_a_mark marks names) (both (is_marked marks x) (each_has_a_mark (without_mark marks x) names)) ≡ true
    go true e ih = ih (omega arith)
    go false e ih = let more : one (not (eqb x not_held)) ≡ 1 = rw e in absurd (let z : ⊥ = omega arith in z)

pub names_valid_of_none_held : (s : State) (n : ℕ) → n ≡ held_count s.names → n ≡ 0 → true ≡ names_valid s
unfolding names_valid
names_valid_of_none_held s n e z =
    go (each_held (is_live_block s) s.names) (no_two_at_one s.names)
    (sym (each_has_a_mark_of_none_held [] s.names (sym e ∙ z)) ∙ each_has_a_mark_is_both [] s.names)
    (each_held_of_none_held (is_live_block s) s.names (sym e ∙ z))
  where
    go : (a b : Bool) → true ≡ both (each_held (is_marked []) s.names) b → a ≡ true → true ≡ both a b
    go a b h q = rw q (right (each_held (is_marked []) s.names) b h)
      where
        right : (c b : Bool) → true ≡ both c b → true ≡ b
        right true b h = h
        right false b h = absurd (let z : ◌≡◌ {A = ℕ} 0 1 = cc in omega arith)

-- ---- the count
pub count_start : (names : List ℕ) → 0 + held_count (drop 0 names) ≡ held_count names
count_start names = omega arith

-- name i counts where it is held
held_count_suc : (names : List ℕ) (i : ℕ) → i < length names → held_count (drop i names) ≡ one (not (eqb (get_or names i 0) not_held)) + held_count
    (drop (suc i) names)
unfolding held_count
held_count_suc names i below = ap held_count (drop-cons names i 0 below)

module _ (names : List ℕ) (held held' i : ℕ) (long : length names ≡ 1024) (below : i < 1024) (t : held + held_count (drop i names) ≡ held_count names) where
  pub count_step_held : (get_or names i 0 ≡ not_held → ⊥) → held' ≡ held + 1 → held' + held_count (drop (i + 1) names) ≡ held_count names
  count_step_held f e = rw (add-one i) (let o : one (not (eqb (get_or names i 0) not_held)) ≡ 1 = rw (ne_eqb (get_or names i 0) not_held f) in
      omega (arith, held_count_suc names i (omega arith)))

  pub count_step_not_held : get_or names i 0 ≡ not_held → held' ≡ held → held' + held_count (drop (i + 1) names) ≡ held_count names
  count_step_not_held q e = rw (add-one i) (let o : one (not (eqb (get_or names i 0) not_held)) ≡ 0 = rw (eq-eqb (get_or names i 0) not_held q) in
      omega (arith, held_count_suc names i (omega arith)))

-- none is left past the last
pub held_count_past_the_end : (names : List ℕ) (i : ℕ) → length names ≤ i → held_count (drop i names) ≡ 0
unfolding held_count
held_count_past_the_end names i h = ap held_count (drop_of_length-le names {i = i} h)

pub count_end : (names : List ℕ) (held i : ℕ) → length names ≡ 1024 → 1024 ≤ i → held + held_count (drop i names) ≡ held_count names → held ≡ held_count names
count_end names held i long h t = let z = held_count_past_the_end names i (omega arith) in omega arith

-- ---- the loop
-- after i names, with so many held ones to find: what the names left find in the marks left is what all names find in all marks
pub record Scanned (marks names left : List ℕ) (n i : ℕ) : Type 0 where
  pub long : length left ≡ 256
  pub to_find : n ≡ held_count (drop i names)
  pub same : each_has_a_mark marks names ≡ each_has_a_mark left (drop i names)

pub scan_start : (marks names : List ℕ) (n : ℕ) → length marks ≡ 256 → n ≡ held_count names → Scanned marks names marks n 0
scan_start marks names n long e = record { long = long; to_find = e; same = refl }

pub scan_end : (marks left names : List ℕ) (n i : ℕ) → n ≡ 0 → Scanned marks names left n i → true ≡ each_has_a_mark marks names
scan_end marks left names n i z t = sym (t.same ∙ each_has_a_mark_of_none_held left (drop i names) (sym t.to_find ∙ z))

pub scan_end_of_names : (marks left names : List ℕ) (n i : ℕ) → length names ≡ 1024 → 1024 ≤ i → Scanned marks names left n i
    → true ≡ each_has_a_mark marks names
scan_end_of_names marks left names n i long h t = scan_end marks left names n i (t.to_find ∙ held_count_past_the_end names i (omega arith)) t

-- the code's mask is all ones but a power of two
code_takes_mark_out : (left : List ℕ) (x : ℕ)
    → set left (x / 64) (bit_and (get_or left (x / 64) 0) (2 ^ 64 - 1 - 1 * 2 ^ (x % 64) % 2 ^ 64)) ≡ without_mark left x
unfolding without_mark
code_takes_mark_out left x = rw (shl_one (x % 64) (omega arith))

-- name i points at block x
module _ (marks left names : List ℕ) (n i x : ℕ) (at : x ≡ get_or names i 0) (long : length names ≡ 1024) (below : i < 1024)
    (t : Scanned marks names left n i) where
  scan_suc : each_has_a_mark marks names ≡ pick (eqb x not_held) (each_has_a_mark left (drop (suc i) names))
      (both (is_marked left x) (each_has_a_mark (without_mark left x) (drop (suc i) names)))
  unfolding each_has_a_mark
  scan_suc = t.same ∙ ap (each_has_a_mark left) (drop-cons names i 0 (omega arith)) ∙ rw at

  pub scan_false_of_no_mark : (x ≡ not_held → ⊥) → mark_bit left x ≡ 0 → false ≡ each_has_a_mark marks names
  scan_false_of_no_mark f z = rw (scan_suc, ne_eqb x not_held f, no_mark_of_mark_bit_zero left x z)

  pub scan_false_of_no_block : (x ≡ not_held → ⊥) → 16384 ≤ x → false ≡ each_has_a_mark marks names
  scan_false_of_no_block f h = scan_false_of_no_mark f (mark_bit_past_the_end left x (omega (arith, t.long)))

  to_find_suc : n ≡ one (not (eqb x not_held)) + held_count (drop (suc i) names)
  to_find_suc = t.to_find ∙ held_count_suc names i (omega arith) ∙ ap (λ (y : ℕ). one (not (eqb y not_held)) + held_count (drop (suc i) names)) (sym at)

  pub to_find_of_held : (x ≡ not_held → ⊥) → 1 ≤ n
  to_find_of_held f = let o : one (not (eqb x not_held)) ≡ 1 = rw (ne_eqb x not_held f) in omega (arith, to_find_suc)

  pub scan_step_not_held : (left' : List ℕ) (n' : ℕ) → x ≡ not_held → left' ≡ left → n' ≡ n → Scanned marks names left' n' (i + 1)
  scan_step_not_held left' n' q e m =
      rw (e, add-one)
      (record {
        long = t.long;
        to_find = let o : one (not (eqb x not_held)) ≡ 0 = rw (eq-eqb x not_held q) in omega (arith, to_find_suc);
        same = scan_suc ∙ rw (eq-eqb x not_held q);
      })

  pub scan_step_held : (left' : List ℕ) (n' : ℕ) → (x ≡ not_held → ⊥) → (mark_bit left x ≡ 0 → ⊥)
      → left' ≡ set left (x / 64) (bit_and (get_or left (x / 64) 0) (2 ^ 64 - 1 - 1 * 2 ^ (x % 64) % 2 ^ 64)) → n' ≡ n - 1
      → Scanned marks names left' n' (i + 1)
  scan_step_held left' n' f z e m =
      rw (e ∙ code_takes_mark_out left x, add-one)
      (record {
        long = length_without_mark left x ∙ t.long;
        to_find = let o : one (not (eqb x not_held)) ≡ 1 = rw (ne_eqb x not_held f) in omega (arith, to_find_suc);
        same = scan_suc ∙ rw (ne_eqb x not_held f, mark_of_mark_bit_one left x (set_mark z));
      })
    where
      set_mark : (mark_bit left x ≡ 0 → ⊥) → mark_bit left x ≡ 1
      set_mark z = omega (arith, mark_bit_lt_two left x)

  pub scan_end_at_held : (x ≡ not_held → ⊥) → (mark_bit left x ≡ 0 → ⊥) → n - 1 ≡ 0 → true ≡ each_has_a_mark marks names
  scan_end_at_held f z last = scan_end marks _ names (n - 1) (i + 1) last (scan_step_held _ (n - 1) f z refl refl)
