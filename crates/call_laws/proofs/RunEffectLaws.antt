-- What taking and freeing a long block does to the superblocks (document 02, item 7), and that the runs stay sound. Assumes nothing.
use mathlib.Core.Path.{◌≡◌, refl, sym, ap, ◌∙◌, subst}
use mathlib.Core.Bool.{false}
use Prim.Native.Nat.{ℕ, ◌+◌, ◌≤◌, ◌<◌}
use native.Mathlib.Omega.{arith}
use borrow.Author.Tests.{eq-eqb, ne_eqb}
use lib.ListN.{length, length-set}
use lib.Dec.{eqb}
use Rattle.base_laws.specs.Sums.{pick}
use Rattle.base_laws.proofs.TestLaws.{pick_elim, pick_true, pick_false}
use Rattle.base_laws.proofs.ListedLaws.{length_listed}
use Rattle.heap_rules.specs.declared.Superblock.{Superblock}
use Rattle.heap_rules.specs.declared.State.{State}
use Rattle.heap_rules.specs.Table.{unused, run_part, superblock_at, with_rank, is_of_run}
use Rattle.heap_rules.specs.Totals.{TotalsKept}
use Rattle.heap_rules.specs.Ranks.{rank_after_renewal, unranked}
use Rattle.heap_laws.proofs.StateFacts.{RunsSound}
use Rattle.heap_laws.proofs.CountLaws.{superblock_at_replaced, superblock_at_others}
use Rattle.heap_laws.proofs.RerankedLaws.{superblock_at_reranked}
use Rattle.heap_laws.proofs.RunLaws.{runs_sound_of_run_taken, runs_sound_of_run_freed}
use Rattle.call_rules.specs.LongBlocks.{joined_to_run, run_taken, made_unused, run_freed}
use Rattle.call_laws.proofs.EachOfRunLaws.{EachMade, each_of_run_keeps, each_of_run_made}
use Rattle.heap_rules.specs.Runs.{RunAt}

-- what a state keeps besides, when superblocks of its table change
pub record RestKept (s t : State) : Type 0 where
  pub setup : t.setup ≡ s.setup
  pub names : t.names ≡ s.names
  pub length_is : length s.table ≡ 64 → length t.table ≡ 64
  pub totals : TotalsKept s → TotalsKept t

rest_kept_refl : (s : State) → RestKept s s
rest_kept_refl s = record { setup = refl; names = refl; length_is = λ long. long; totals = λ kept. kept }

-- ---- a run freed
-- "a free makes the whole run unused", and leaves every other superblock as it was
pub run_freed_made : (k n : ℕ) (s : State) → length s.table ≡ 64 → k + n ≤ 64 → EachMade (λ _ b. b ≡ unused) (λ b d. d ≡ b) k n s (run_freed k n s)
unfolding run_freed made_unused
run_freed_made k n s long l =
    each_of_run_made (λ _ b. b ≡ unused) (λ b d. d ≡ b) (λ b. refl) (λ a b d p q. q ∙ p) (λ m b d e q. q ∙ e) made_unused (λ t. length t.table ≡ 64)
    (λ m t lm h. length-set t.table m unused ∙ h)
    (λ m t lm h. superblock_at_replaced t m unused h lm)
    (λ m t lm h i li other. superblock_at_others t m unused i other)
    k n s l long

pub run_freed_keeps_rest : (k n : ℕ) (s : State) → RestKept s (run_freed k n s)
unfolding run_freed made_unused
run_freed_keeps_rest k n s =
    each_of_run_keeps made_unused k s n (RestKept s)
    (λ m t low high h. record {
      setup = h.setup;
      names = h.names;
      length_is = λ long. length-set t.table m unused ∙ h.length_is long;
      totals = λ _. refl;
    })
    (rest_kept_refl s)

pub run_freed_runs_sound : (k n : ℕ) (s : State) → length s.table ≡ 64 → RunAt s k n → RunsSound s → RunsSound (run_freed k n s)
unfolding is_of_run
run_freed_runs_sound k n s long run h =
    let made = run_freed_made k n s long run.in_table in
    runs_sound_of_run_freed s (run_freed k n s) k n run
    (λ m low high. let e = made.inside m low high in (rw e, rw e))
    (λ m l out. let e = made.outside m l out in (rw e, rw e))
    h

-- ---- a run taken
-- a superblock keeps all but its rank, and gets none where it had none
abbrev pub SameButRank : Superblock → Superblock → Type 0
SameButRank b d = (d ≡ with_rank d.rank b) × (b.rank ≡ 0 → d.rank ≡ 0)

same_but_rank_trans : (a b d : Superblock) → SameButRank a b → SameButRank b d → SameButRank a d
same_but_rank_trans a b d (p, zero-p) (q, zero-q) = (q ∙ ap (with_rank d.rank) p, λ z. zero-q (zero-p z))

-- once superblock m is out of the ranking, each has the rank that it had or one less
same_but_rank_of_unranked : (m : ℕ) (t : State) (i : ℕ) → i < 64 → SameButRank (superblock_at t i) (superblock_at (unranked m t) i)
unfolding unranked rank_after_renewal
same_but_rank_of_unranked m t i l =
    (e ∙ ap (λ (r : ℕ). with_rank r (superblock_at t i)) (sym (ap (λ (b : Superblock). b.rank) e)), λ z. ap (λ (b : Superblock). b.rank) e ∙ none z)
  where
    e : superblock_at (unranked m t) i ≡ with_rank (rank_after_renewal m t.table i) (superblock_at t i)
    e = superblock_at_reranked (rank_after_renewal m t.table) t i l

    none : (superblock_at t i).rank ≡ 0 → rank_after_renewal m t.table i ≡ 0
    none z = pick_elim (λ (r : ℕ). r ≡ 0) (eqb i m) 0 _ (λ _. refl) (λ _. omega arith)

length_unranked : (m : ℕ) (t : State) → length (unranked m t).table ≡ 64
unfolding unranked
length_unranked m t = length_listed (λ i. with_rank (rank_after_renewal m t.table i) (superblock_at t i)) 64

-- "They get owner 254, class field 0, no marks and no rank"; "The first carries the run's length, every other superblock 0". The other superblocks
-- keep all but their ranks
pub run_taken_made : (k n : ℕ) (s : State) → length s.table ≡ 64 → k + n ≤ 64 → EachMade (λ m b. b ≡ run_part (pick (eqb m k) n 0)) SameButRank k n s
    (run_taken k n s)
unfolding run_taken joined_to_run unranked
run_taken_made k n s long l =
    each_of_run_made (λ m b. b ≡ run_part (pick (eqb m k) n 0)) SameButRank (λ b. (refl, λ z. z)) same_but_rank_trans made_kept (joined_to_run k n)
    (λ t. length t.table ≡ 64)
    (λ m t lm h. length-set (unranked m t).table m (part m) ∙ length_unranked m t)
    (λ m t lm h. superblock_at_replaced (unranked m t) m (part m) (length_unranked m t) lm)
    (λ m t lm h i li other. subst (SameButRank (superblock_at t i)) (sym (superblock_at_others (unranked m t) m (part m) i other))
    (same_but_rank_of_unranked m t i li))
    k n s l long
  where
    part : ℕ → Superblock
    part m = run_part (pick (eqb m k) n 0)

    made_kept : (m : ℕ) (b d : Superblock) → b ≡ run_part (pick (eqb m k) n 0) → SameButRank b d → d ≡ run_part (pick (eqb m k) n 0)
    made_kept m b d e (q, none) = q ∙ ap (with_rank d.rank) e ∙ ap (λ (r : ℕ). with_rank r (part m)) (none (ap (λ (b : Superblock). b.rank) e))

pub run_taken_keeps_rest : (k n : ℕ) (s : State) → RestKept s (run_taken k n s)
unfolding run_taken joined_to_run unranked
run_taken_keeps_rest k n s =
    each_of_run_keeps (joined_to_run k n) k s n (RestKept s)
    (λ m t low high h. record {
      setup = h.setup;
      names = h.names;
      length_is = λ _. length-set (unranked m t).table m (run_part (pick (eqb m k) n 0))
          ∙ length_unranked m t;
      totals = λ _. refl;
    })
    (rest_kept_refl s)

pub run_at_of_run_taken : (k n : ℕ) (s : State) → length s.table ≡ 64 → 1 ≤ n → n ≤ 16 → k + n ≤ 64 → RunAt (run_taken k n s) k n
unfolding is_of_run
run_at_of_run_taken k n s long low high l =
    let made = run_taken_made k n s long l in
    record {
      length_is = ap (λ (b : Superblock). b.run) (made.inside k (omega arith) (omega arith)) ∙ pick_true (eqb k k) n 0 (eq-eqb k k refl);
      some = low;
      at_most_16 = high;
      in_table = l;
      of_run = λ m p q. ap is_of_run (made.inside m p q);
      others_carry_0 = λ m p q. ap (λ (b : Superblock). b.run) (made.inside m (omega arith) q) ∙ pick_false (eqb m k) n 0 (ne_eqb m k (λ e. omega arith));
    }

pub run_taken_runs_sound : (k n : ℕ) (s : State) → length s.table ≡ 64 → 1 ≤ n → n ≤ 16 → k + n ≤ 64
    → ((m : ℕ) → k ≤ m → m < k + n → is_of_run (superblock_at s m) ≡ false)
    → RunsSound s → RunsSound (run_taken k n s)
unfolding is_of_run
run_taken_runs_sound k n s long low high l free h =
    runs_sound_of_run_taken s (run_taken k n s) k n free (run_at_of_run_taken k n s long low high l)
    (λ m lm out. let e = ((run_taken_made k n s long l).outside m lm out).0 in (ap is_of_run e, ap (λ (b : Superblock). b.run) e)) h
