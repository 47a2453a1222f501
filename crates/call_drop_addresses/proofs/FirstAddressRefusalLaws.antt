-- The refusals that the frees of a drop would meet, told by the marks and the runs alone. Assumes nothing.
use mathlib.Core.Path.{◌≡◌, refl, sym, ap, ◌∙◌, subst}
use mathlib.Core.Bool.{true, false}
use mathlib.Core.List.{List, [], ◌∷◌}
use Prim.Native.Nat.{ℕ, zero, suc, ◌+◌, ◌-◌, ◌/◌, ◌%◌, ◌≤◌, ◌<◌}
use native.Mathlib.Nat.{le_of_suc-le-suc, not-suc-le-zero}
use native.Mathlib.Numerals.{add-one}
use native.Mathlib.Decide.{ℕ_discrete}
use native.Mathlib.Omega.{arith}
use borrow.Author.Tests.{eq-eqb, ne_eqb}
use borrow.Rule.Slice.PartMut.{put_mid}
use lib.ListN.{length, get_or, set, take, drop, replicate, length-set, drop_of_length-le}
use lib.Seq.{paste, drop-cons, get_or-set_same, get_or-set_other}
use Rattle.std.proofs.lemmas.Grind.{common_steps}
use Rattle.std.proofs.lemmas.List.{length-replicate, get_or_read}
use Rattle.std.proofs.lemmas.List.Edits.{paste_none, fill_from_more}
use Rattle.std.proofs.lemmas.Slice.{put_mid-paste}
use Rattle.base_laws.proofs.ListedLaws.{length_listed}
use Rattle.class_rules.specs.Classes.{size_of}
use Rattle.refusal_rules.specs.declared.Refusal.{Refusal}
use Rattle.refusal_rules.specs.RefusalNumbers.{number_of}
use Rattle.heap_rules.specs.declared.Superblock.{Superblock}
use Rattle.heap_rules.specs.declared.State.{State}
use Rattle.heap_rules.specs.Table.{run_owner, blank, unused, superblock_at, is_unused, is_of_run, starts_run, live_blocks, with_rank, without_mark_at}
use Rattle.heap_rules.specs.States.{with_names}
use Rattle.heap_rules.specs.Totals.{recounted}
use Rattle.heap_rules.specs.Ranks.{rank_after_free, ranked_latest}
use Rattle.heap_laws.proofs.CountLaws.{superblock_at_replaced, superblock_at_others}
use Rattle.heap_laws.proofs.RerankedLaws.{superblock_keeps_all_but_rank}
use Rattle.call_rules.specs.LongBlocks.{each_of_run, made_unused, run_freed}
use Rattle.call_rules.specs.Free.{superblock_index, superblock_holding, block_of, is_unmapped, is_in_run, is_run_start, is_off_block, is_misaligned}
use Rattle.call_rules.specs.Free.{is_live_at, address_refusal, mark_cleared, small_block_freed, long_block_freed, block_freed}
use Rattle.call_rules.specs.Drop.{all_freed, first_address_refusal}
use Rattle.block_refusal.specs.Holding.{ToldByCountAndSuperblock}
use Rattle.block_refusal.proofs.AddressTestLaws.{address_refusal_past_table}
use Rattle.block_refusal.proofs.RefusalLaws.{number_above_0}
use Rattle.call_drop_addresses.specs.TestedTable.{RunsFit}

-- ---- the frees at one address more
pub all_freed_at_next : (s : State) (addresses : List ℕ) (i : ℕ) → i < length addresses → all_freed s (take (suc i) addresses)
    ≡ block_freed (all_freed s (take i addresses)) (get_or addresses i 0)
unfolding all_freed
all_freed_at_next s [] i l = absurd (not-suc-le-zero l)
all_freed_at_next s (a ∷ addresses) zero l = refl
all_freed_at_next s (a ∷ addresses) (suc i) l = all_freed_at_next (block_freed s a) addresses i (le_of_suc-le-suc l)

-- ---- two states alike but for ranks, names and totals
pub record SameBlocks (t u : State) : Type 0 where
  pub setup_is : t.setup ≡ u.setup
  pub first_length : length t.table ≡ 64
  pub second_length : length u.table ≡ 64
  pub each : (k : ℕ) → superblock_at t k ≡ with_rank (superblock_at t k).rank (superblock_at u k)

-- the superblock of an address with the mark there cleared
abbrev cleared_in : State → ℕ → Superblock
cleared_in s a = without_mark_at (superblock_holding s a) (block_of s a)

module _ (t u : State) (same : SameBlocks t u) where
  -- the refusal of an address goes by the number of superblocks and by the address's own, and not by its rank
  pub same_refusal : (a : ℕ) → address_refusal t a ≡ address_refusal u a
  unfolding address_refusal is_unmapped is_misaligned is_off_block is_run_start is_live_at block_of is_unused is_of_run starts_run live_blocks
  same_refusal a = rw (same.setup_is, same.each (a / 4096))

  same_block : (a : ℕ) → block_of t a ≡ block_of u a
  unfolding block_of
  same_block a = rw (same.each (a / 4096))

  -- a mark cleared in both
  same_of_marks_cleared : (a : ℕ) → superblock_index a < 64 → SameBlocks (mark_cleared t a) (mark_cleared u a)
  unfolding mark_cleared
  same_of_marks_cleared a l = record {
    setup_is = same.setup_is;
    first_length = length-set t.table (a / 4096) _ ∙ same.first_length;
    second_length = length-set u.table (a / 4096) _ ∙ same.second_length;
    each = λ k. go k (ℕ_discrete k (a / 4096));
  }
    where
      go : (k : ℕ) → Dec (k ≡ a / 4096) → superblock_at (mark_cleared t a) k ≡ with_rank (superblock_at (mark_cleared t a) k).rank
          (superblock_at (mark_cleared u a) k)
      go k (yes e) =
          rw (
            e,
            superblock_at_replaced t (a / 4096) (cleared_in t a) same.first_length l,
            superblock_at_replaced u (a / 4096) (cleared_in u a)
                same.second_length l,
            ← same_block a,
          )
          (ap (λ (x : Superblock). without_mark_at x (block_of t a)) (same.each (a / 4096)))
      go k (no f) = rw (superblock_at_others t (a / 4096) (cleared_in t a) k f, superblock_at_others u (a / 4096) (cleared_in u a) k f) (same.each k)

  -- the superblock in front of the ranking of the second
  same_of_ranked_latest : (k : ℕ) → SameBlocks t (ranked_latest k u)
  unfolding ranked_latest
  same_of_ranked_latest k = record {
    setup_is = same.setup_is;
    first_length = same.first_length;
    second_length = length_listed (λ m. with_rank (rank_after_free k u.table m) (superblock_at u m)) 64;
    each = λ m. same.each m ∙ ap (λ (x : Superblock). with_rank (superblock_at t m).rank x)
        (sym (superblock_keeps_all_but_rank (rank_after_free k u.table) u same.second_length m));
  }

  -- a superblock made unused in both
  same_of_made_unused : (m : ℕ) → m < 64 → SameBlocks (made_unused m t) (made_unused m u)
  unfolding made_unused
  same_of_made_unused m l = record {
    setup_is = same.setup_is;
    first_length = length-set t.table m unused ∙ same.first_length;
    second_length = length-set u.table m unused ∙ same.second_length;
    each = λ k. go k (ℕ_discrete k m);
  }
    where
      go : (k : ℕ) → Dec (k ≡ m) → superblock_at (made_unused m t) k ≡ with_rank (superblock_at (made_unused m t) k).rank (superblock_at (made_unused m u) k)
      go k (yes e) = rw (e, superblock_at_replaced t m unused same.first_length l, superblock_at_replaced u m unused same.second_length l)
      go k (no f) = rw (superblock_at_others t m unused k f, superblock_at_others u m unused k f) (same.each k)

-- a run freed in both
same_of_run_freed : (t u : State) → SameBlocks t u → (k n : ℕ) → k + n ≤ 64 → SameBlocks (run_freed k n t) (run_freed k n u)
unfolding run_freed each_of_run
same_of_run_freed t u same k zero l = same
same_of_run_freed t u same k (suc n) l = same_of_made_unused (run_freed k n t) (run_freed k n u) (same_of_run_freed t u same k n (omega arith)) (k + n)
    (omega arith)

-- names have no part in it
same_of_names : (t u : State) (names : List ℕ) → SameBlocks t u → SameBlocks t (with_names u names)
same_of_names t u names same = record { setup_is = same.setup_is; first_length = same.first_length; second_length = same.second_length; each = same.each }

module _ (t u : State) (same : SameBlocks t u) (a : ℕ) where
  same_in_run : is_in_run u a ≡ is_in_run t a
  unfolding is_of_run
  same_in_run = rw (same.each (a / 4096))

  -- a free in the one, and its mark alone cleared in the other
  pub same_of_block_freed : is_in_run t a ≡ false → superblock_index a < 64 → SameBlocks (mark_cleared t a) (block_freed u a)
  unfolding block_freed small_block_freed
  same_of_block_freed outside l =
      rw (same_in_run, outside) (same_of_names (mark_cleared t a) (mark_cleared (ranked_latest (superblock_index a) u) a) _
      (same_of_marks_cleared t (ranked_latest (superblock_index a) u) (same_of_ranked_latest t u same (superblock_index a)) a l))

  -- or its run
  pub same_of_long_freed : is_in_run t a ≡ true → superblock_index a + (superblock_holding t a).run ≤ 64
      → SameBlocks (run_freed (superblock_index a) (superblock_holding t a).run t) (block_freed u a)
  unfolding block_freed long_block_freed
  same_of_long_freed inside l =
      let same_run : (superblock_holding u a).run ≡ (superblock_holding t a).run = sym (ap (λ (b : Superblock). b.run) (same.each (a / 4096))) in
      rw (same_in_run, inside, same_run) (same_of_names _ (run_freed (superblock_index a) (superblock_holding t a).run u) _
      (same_of_run_freed t u same (superblock_index a) (superblock_holding t a).run l))

-- ---- the refusals at the addresses from i on
module _ (u : State) (addresses : List ℕ) (i : ℕ) (l : i < length addresses) where
  first_refusal_at_bad : (address_refusal u (get_or addresses i 0) ≡ 0 → ⊥)
      → first_address_refusal u (drop i addresses) ≡ address_refusal u (get_or addresses i 0)
  unfolding first_address_refusal
  first_refusal_at_bad n = rw (drop-cons addresses i 0 l, ne_eqb (address_refusal u (get_or addresses i 0)) 0 n)

  first_refusal_past_good : address_refusal u (get_or addresses i 0) ≡ 0 → first_address_refusal u (drop i addresses) ≡ first_address_refusal
      (block_freed u (get_or addresses i 0)) (drop (suc i) addresses)
  unfolding first_address_refusal
  first_refusal_past_good e = rw (drop-cons addresses i 0 l, e)

-- ---- the copy of the table
-- the state with that table, and the totals that it comes to: no address tells them
abbrev with_table : State → List Superblock → State
with_table s t = record { setup = s.setup; table = t; names = s.names; totals = recounted t }

-- the table with the n superblocks from k on unused
unfoldable table_without_run : ℕ → ℕ → List Superblock → List Superblock
table_without_run k zero table = table
table_without_run k (suc n) table = set (table_without_run k n table) (k + n) unused

-- a run freed in it
run_freed_of_table : (s : State) (t : List Superblock) (k n : ℕ) → run_freed k n (with_table s t) ≡ with_table s (table_without_run k n t)
unfolding run_freed each_of_run made_unused table_without_run
run_freed_of_table s t k zero = refl
run_freed_of_table s t k (suc n) = ap (λ (x : State). made_unused (k + n) x) (run_freed_of_table s t k n)

-- the runs still fit once a superblock is replaced by one that carries the same length, or none
runs_fit_of_replaced : (t : List Superblock) (k : ℕ) (b : Superblock) → length t ≡ 64 → k < 64 → k + b.run ≤ 64 → RunsFit t → RunsFit (set t k b)
runs_fit_of_replaced t k b long l h fit m lm = go (ℕ_discrete m k)
  where
    go : Dec (m ≡ k) → m + (get_or (set t k b) m blank).run ≤ 64
    go (yes e) = rw (e, get_or-set_same t k b blank (omega arith)) h
    go (no f) = rw (get_or-set_other t k m b blank f) (fit m lm)

length_without_run : (k n : ℕ) (t : List Superblock) → length (table_without_run k n t) ≡ length t
unfolding table_without_run
length_without_run k zero t = refl
length_without_run k (suc n) t = length-set (table_without_run k n t) (k + n) unused ∙ length_without_run k n t

runs_fit_without_run : (t : List Superblock) (k n : ℕ) → length t ≡ 64 → k + n ≤ 64 → RunsFit t → RunsFit (table_without_run k n t)
unfolding table_without_run
runs_fit_without_run t k zero long l fit = fit
runs_fit_without_run t k (suc n) long l fit =
    runs_fit_of_replaced (table_without_run k n t) (k + n) unused (length_without_run k n t ∙ long) (omega arith) (omega arith)
    (runs_fit_without_run t k n long (omega arith) fit)

-- made so by a fill, as the code goes
fill_more : (t : List Superblock) (k n : ℕ) → k + n < length t
    → set (paste t k (replicate n unused) n) (k + n) unused ≡ paste t k (replicate (suc n) unused) (suc n)
fill_more t k n l = let e = fill_from_more t k n unused l in rw add-one at e

without_run_is_paste : (t : List Superblock) (k n : ℕ) → k + n ≤ length t → paste t k (replicate n unused) n ≡ table_without_run k n t
unfolding table_without_run
without_run_is_paste t k zero l = sym (paste_none t k [])
without_run_is_paste t k (suc n) l =
    sym (fill_more t k n (omega arith))
    ∙ ap (λ (x : List Superblock). set x (k + n) unused) (without_run_is_paste t k n (omega arith))

without_run_by_fill : (t filled : List Superblock) (k n : ℕ) → k + n ≤ length t → filled ≡ replicate (length (take (k + n - k) (drop k t))) unused
    → put_mid k (k + n - k) t filled ≡ table_without_run k n t
without_run_by_fill t filled k n l e =
    let long : length (take (k + n - k) (drop k t)) ≡ n = grind (arith, common_steps) in
    put_mid-paste k (k + n - k) t filled (replicate n unused) n (e ∙ ap (λ (m : ℕ). replicate m unused) long) (omega arith)
    (sym (length-replicate n unused)) ∙ without_run_is_paste t k n l

-- ---- the loop: the addresses below i meet no refusal, and t is the table without their marks and runs
pub record NoneRefused (s : State) (addresses : List ℕ) (i : ℕ) (t : List Superblock) : Type 0 where
  pub refusal_left : first_address_refusal (all_freed s (take i addresses)) (drop i addresses) ≡ first_address_refusal s addresses
  pub same : SameBlocks (with_table s t) (all_freed s (take i addresses))
  pub fit : RunsFit t

pub none_refused_yet : (s : State) (addresses : List ℕ) → length s.table ≡ 64 → RunsFit s.table → NoneRefused s addresses 0 s.table
unfolding all_freed
none_refused_yet s addresses long fit =
    record { refusal_left = refl; same = record { setup_is = refl; first_length = long; second_length = long; each = λ k. refl }; fit = fit }

module _ (s : State) (t : List Superblock) (addresses : List ℕ) (i : ℕ) (so : NoneRefused s addresses i t) where
  -- the next address, in superblock k
  module _ (l : i < length addresses) (k : ℕ) (ek : k ≡ get_or addresses i 0 / 4096) where
    abbrev a : ℕ
    a = get_or addresses i 0

    refused_of_bad : (bad : ℕ) → bad ≡ address_refusal (with_table s t) a → (bad ≡ 0 → ⊥) → bad ≡ first_address_refusal s addresses
    refused_of_bad bad e n =
        let at : bad ≡ address_refusal (all_freed s (take i addresses)) a = e ∙ same_refusal (with_table s t) (all_freed s (take i addresses)) so.same a in
        at ∙ sym (first_refusal_at_bad (all_freed s (take i addresses)) addresses i l (λ z. n (at ∙ z))) ∙ so.refusal_left

    pub past_table_refused : s.setup.superblocks ≤ 64 → length t ≤ k → 5 ≡ first_address_refusal s addresses
    past_table_refused high h =
        let long = so.same.first_length in
        refused_of_bad 5 (address_refusal_past_table (with_table s t) a high (omega arith)) (λ z. omega arith)

    -- which is b
    module _ (b : Superblock) (below : k < length t) (at : b ≡ get_or t k b) where
      eb : get_or t k blank ≡ b
      eb = sym (get_or_read t k b below at blank)

      held : superblock_holding (with_table s t) a ≡ b
      held = rw ek at eb

      pub run_of_address_fits : k + b.run ≤ length t
      run_of_address_fits = let long = so.same.first_length in let fit = so.fit k (omega arith) in let e = ap (λ (x : Superblock). x.run) eb in omega arith

      pub first_bad_refused : (bad : Refusal) → ToldByCountAndSuperblock (number_of bad) address_refusal s.setup.superblocks b (get_or addresses i 0)
          → number_of bad ≡ first_address_refusal s addresses
      first_bad_refused bad told = refused_of_bad (number_of bad) (told (with_table s t) refl held) (number_above_0 bad)

      module _ (told : ToldByCountAndSuperblock 0 address_refusal s.setup.superblocks b (get_or addresses i 0)) where
        -- the block is freed, and what it leaves of the table told
        one_more_passed : (next : List Superblock) → SameBlocks (with_table s next) (block_freed (all_freed s (take i addresses)) a) → RunsFit next
            → NoneRefused s addresses (i + 1) next
        one_more_passed next same fit =
            let none : address_refusal (all_freed s (take i addresses)) a ≡ 0 =
            sym (told (with_table s t) refl held ∙ same_refusal (with_table s t) (all_freed s (take i addresses)) so.same a) in
            rw add-one (record {
              refusal_left = rw (all_freed_at_next s addresses i l) (sym (first_refusal_past_good (all_freed s (take i addresses)) addresses i l none)
                  ∙ so.refusal_left);
              same = rw (all_freed_at_next s addresses i l) same;
              fit = fit;
            })

        pub none_refused_past_run : b.owner ≡ run_owner → (n : ℕ) → n ≡ b.run → (filled : List Superblock)
            → filled ≡ replicate (length (take (k + n - k) (drop k t))) unused → NoneRefused s addresses (i + 1) (put_mid k (k + n - k) t filled)
        unfolding is_of_run
        none_refused_past_run o n en filled ef =
            let long = so.same.first_length in
            let fits : k + n ≤ length t = rw en run_of_address_fits in
            let freed : SameBlocks (with_table s (table_without_run k n t)) (block_freed (all_freed s (take i addresses)) a) =
            rw (← run_freed_of_table s t k n, en, ← ap (λ (x : Superblock). x.run) eb, ek)
            (same_of_long_freed (with_table s t) (all_freed s (take i addresses)) so.same a (rw held (eq-eqb b.owner run_owner o))
            (so.fit (a / 4096) (omega arith))) in
            subst (NoneRefused s addresses (i + 1)) (sym (without_run_by_fill t filled k n fits ef))
            (one_more_passed (table_without_run k n t) freed (runs_fit_without_run t k n long (omega arith) so.fit))

        pub none_refused_past_block : (b.owner ≡ run_owner → ⊥) → (freed : Superblock)
            → freed ≡ without_mark_at b (get_or addresses i 0 % 4096 / size_of b.class) → NoneRefused s addresses (i + 1) (set t k freed)
        unfolding is_of_run mark_cleared block_of
        none_refused_past_block f freed ef =
            let long = so.same.first_length in
            let now : SameBlocks (with_table s (set t k freed)) (block_freed (all_freed s (take i addresses)) a) =
            rw (ef, ← eb, ek)
            (same_of_block_freed (with_table s t) (all_freed s (take i addresses)) so.same a (rw held (ne_eqb b.owner run_owner f)) (omega arith)) in
            one_more_passed (set t k freed) now
            (runs_fit_of_replaced t k freed long (omega arith) (rw ef (omega (arith, run_of_address_fits))) so.fit)

  pub none_refused_at_end : length addresses ≤ i → 0 ≡ first_address_refusal s addresses
  unfolding first_address_refusal
  none_refused_at_end end = ap (first_address_refusal (all_freed s (take i addresses))) (sym (drop_of_length-le addresses end)) ∙ so.refusal_left
