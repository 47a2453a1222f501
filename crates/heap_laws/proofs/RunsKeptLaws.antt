-- What keeps of each superblock whether it is of a run and which length it carries keeps the check of the runs, and live blocks go by marks outside
-- runs. Assumes nothing.
use mathlib.Core.Path.{◌≡◌, refl, sym, ap, ap₂, ◌∙◌, subst}
use mathlib.Core.Bool.{Bool, true, false}
use mathlib.Core.List.{List, [], ◌∷◌}
use Prim.Native.Nat.{ℕ, zero, suc, ◌-◌, ◌<◌}
use native.Mathlib.Omega.{arith}
use borrow.Author.Tests.{eq-eqb, ne_eqb, eqb-true}
use lib.ListN.{length, get_or}
use lib.Dec.{T, eqb}
use Rattle.base_laws.specs.Sums.{pick, both}
use Rattle.base_laws.proofs.ListedLaws.{length_listed}
use Rattle.marks_rules.specs.Marks.{no_marks, with_mark}
use Rattle.heap_rules.specs.declared.Superblock.{Superblock}
use Rattle.heap_rules.specs.declared.State.{State}
use Rattle.heap_rules.specs.Table.{run_owner, blank, superblock_at, is_of_run, starts_run, live_blocks, with_rank}
use Rattle.heap_rules.specs.States.{with_names}
use Rattle.heap_rules.specs.Ranks.{reranked}
use Rattle.check_rules.specs.Check.{within, runs_whole, runs_valid}
use Rattle.heap_laws.proofs.StateFacts.{RunsKept}
use Rattle.heap_laws.proofs.RerankedLaws.{reranked_of_run, reranked_run}

-- ---- the check of the runs
-- of two superblocks, they are alike as far as runs go
abbrev SameRun : Superblock → Superblock → Type 0
SameRun b d = (is_of_run b ≡ is_of_run d) × (b.run ≡ d.run)

runs_whole_cong : (left : ℕ) (x y : List Superblock) → length x ≡ length y → ((k : ℕ) → k < length x → SameRun (get_or x k blank) (get_or y k blank))
    → runs_whole left x ≡ runs_whole left y
unfolding runs_whole
runs_whole_cong zero [] [] e same = refl
runs_whole_cong (suc left) [] [] e same = refl
runs_whole_cong left [] (d ∷ y) e same = absurd (let z : ⊥ = omega arith in z)
runs_whole_cong left (b ∷ x) [] e same = absurd (let z : ⊥ = omega arith in z)
runs_whole_cong zero (b ∷ x) (d ∷ y) e same =
    let first : SameRun b d = same 0 (omega arith) in
    let rest : (n : ℕ) → runs_whole n x ≡ runs_whole n y = λ n. runs_whole_cong n x y (omega arith) (λ k l. same (suc k) (omega arith)) in
    ap₂ (λ (t : Bool) (n : ℕ). pick t (both (within 1 16 n) (runs_whole (n - 1) x)) (both (eqb n 0) (runs_whole 0 x))) first.0 first.1
    ∙ ap₂ (λ (p q : Bool). pick (is_of_run d) (both (within 1 16 d.run) p) (both (eqb d.run 0) q)) (rest (d.run - 1)) (rest 0)
runs_whole_cong (suc left) (b ∷ x) (d ∷ y) e same =
    let first : SameRun b d = same 0 (omega arith) in
    ap₂ (λ (t : Bool) (n : ℕ). both t (both (eqb n 0) (runs_whole left x))) first.0 first.1
    ∙ ap (λ (p : Bool). both (is_of_run d) (both (eqb d.run 0) p)) (runs_whole_cong left x y (omega arith) (λ k l. same (suc k) (omega arith)))

pub runs_valid_of_kept : (s t : State) → length s.table ≡ 64 → length t.table ≡ 64 → RunsKept s t → T (runs_valid s) → T (runs_valid t)
unfolding runs_valid
runs_valid_of_kept s t long long_after kept valid =
    subst T (sym (runs_whole_cong 0 t.table s.table (long_after ∙ sym long) (λ k l. kept k (omega arith)))) valid

-- ranks have no part in it
pub reranked_runs_kept : (rank : ℕ → ℕ) (s : State) → length s.table ≡ 64 → RunsKept s (reranked rank s)
reranked_runs_kept rank s long m l = (reranked_of_run rank s long m, reranked_run rank s long m)

pub reranked_runs_valid : (rank : ℕ → ℕ) (s : State) → length s.table ≡ 64 → T (runs_valid s) → T (runs_valid (reranked rank s))
reranked_runs_valid rank s long valid = runs_valid_of_kept s (reranked rank s) long (length_listed (λ m. with_rank (rank m) (superblock_at s m)) 64)
    (reranked_runs_kept rank s long) valid

-- nor have names
pub runs_valid_with_names : (s : State) (names : List ℕ) → T (runs_valid s) → T (runs_valid (with_names s names))
unfolding runs_valid
runs_valid_with_names s names valid = valid

-- ---- live blocks
-- outside runs they are the marks
pub live_blocks_outside_run : (b : Superblock) → is_of_run b ≡ false → live_blocks b ≡ b.live
unfolding live_blocks starts_run
live_blocks_outside_run b e = rw e

-- of a run's first superblock, block 0 alone
pub live_blocks_of_first : (b : Superblock) → starts_run b ≡ true → live_blocks b ≡ with_mark no_marks 0
unfolding live_blocks
live_blocks_of_first b e = rw e

-- of any other, the marks
pub live_blocks_not_first : (b : Superblock) → starts_run b ≡ false → live_blocks b ≡ b.live
unfolding live_blocks
live_blocks_not_first b e = rw e

pub starts_run_same : (b d : Superblock) → is_of_run b ≡ is_of_run d → b.run ≡ d.run → starts_run b ≡ starts_run d
unfolding starts_run
starts_run_same b d e g = rw (e, g)

-- a superblock that a heap owns, or that is unused, is of no run
pub outside_run_of_owner : (b : Superblock) → (b.owner ≡ run_owner → ⊥) → is_of_run b ≡ false
unfolding is_of_run
outside_run_of_owner b f = ne_eqb b.owner run_owner f

pub owner_of_run : (b : Superblock) → is_of_run b ≡ true → b.owner ≡ run_owner
unfolding is_of_run
owner_of_run b e = eqb-true b.owner run_owner e

pub of_run_of_owner : (b : Superblock) → b.owner ≡ run_owner → is_of_run b ≡ true
unfolding is_of_run
of_run_of_owner b e = eq-eqb b.owner run_owner e
