-- The marks of all superblocks of a table in one list, four numbers to a superblock. Assumes nothing.
use mathlib.Core.Path.{◌≡◌, sym, ap, ◌∙◌}
use mathlib.Core.List.{List}
use Prim.Native.Nat.{ℕ, ◌+◌, ◌*◌, ◌/◌, ◌%◌, ◌≤◌, ◌<◌}
use native.Mathlib.Decide.{ℕ_discrete, dec_lt}
use native.Mathlib.Omega.{arith}
use lib.ListN.{length, get_or, set, length-set, get_or-eq_default}
use lib.Seq.{get_or-set_same, get_or-set_other}
use lib.Dec.{eqb}
use Rattle.marks_rules.specs.Marks.{bit, mark_bit, is_marked}
use Rattle.heap_rules.specs.declared.Superblock.{Superblock}
use Rattle.heap_rules.specs.declared.State.{State}
use Rattle.heap_rules.specs.Table.{blank, is_of_run, starts_run, live_blocks, is_live_block}

-- number w of a table's marks
abbrev number_at : List Superblock → ℕ → ℕ
number_at table w = get_or (live_blocks (get_or table (w / 4) blank)) (w % 4) 0

-- the first n of 256 numbers are those of the table
pub record NumbersBelow (table : List Superblock) (n : ℕ) (marks : List ℕ) : Type 0 where
  pub long : length marks ≡ 256
  pub number : (w : ℕ) → w < n → get_or marks w 0 ≡ number_at table w

pub numbers_none : (table : List Superblock) (n : ℕ) (marks : List ℕ) → n ≡ 0 → length marks ≡ 256 → NumbersBelow table n marks
numbers_none table n marks z long = record { long = long; number = λ w h. absurd (let f : ⊥ = omega arith in f) }

-- one number more
numbers_step : (table : List Superblock) (n m v : ℕ) (marks : List ℕ) → n < 256 → m ≡ n + 1 → v ≡ number_at table n → NumbersBelow table n marks
    → NumbersBelow table m (set marks n v)
numbers_step table n m v marks h q e b = record { long = length-set marks n v ∙ b.long; number = λ w l. go w l (ℕ_discrete w n) }
  where
    go : (w : ℕ) → w < m → Dec (w ≡ n) → get_or (set marks n v) w 0 ≡ number_at table w
    go w l (yes p) = rw p (get_or-set_same marks n v 0 (omega (arith, b.long)) ∙ e)
    go w l (no f) = get_or-set_other marks n w v 0 f ∙ b.number w (omega arith)

-- one superblock more
pub numbers_of_superblock : (table : List Superblock) (k : ℕ) (marks live : List ℕ) → k < 64 → live ≡ live_blocks (get_or table k blank)
    → NumbersBelow table (4 * k) marks
    → NumbersBelow table (4 * (k + 1)) (set (set (set (set marks (4 * k) (get_or live 0 0)) (4 * k + 1) (get_or live 1 0)) (4 * k + 2) (get_or live 2 0))
    (4 * k + 3) (get_or live 3 0))
numbers_of_superblock table k marks live h e b =
    numbers_step table (4 * k + 3) (4 * (k + 1)) _ _ (omega arith) (omega arith) (number 3 (4 * k + 3) (omega arith) (omega arith))
    (numbers_step table (4 * k + 2) (4 * k + 3) _ _ (omega arith) (omega arith) (number 2 (4 * k + 2) (omega arith) (omega arith))
    (numbers_step table (4 * k + 1) (4 * k + 2) _ _ (omega arith) (omega arith) (number 1 (4 * k + 1) (omega arith) (omega arith))
    (numbers_step table (4 * k) (4 * k + 1) _ _ (omega arith) (omega arith) (number 0 (4 * k) (omega arith) (omega arith)) b)))
  where
    number : (j w : ℕ) → k ≡ w / 4 → j ≡ w % 4 → get_or live j 0 ≡ number_at table w
    number j w p q = rw (e, p, q)

-- all of them: block b of the table is marked just where it is live
pub marks_are_live_blocks : (s : State) (k : ℕ) (marks : List ℕ) → length s.table ≡ 64 → 64 ≤ k → NumbersBelow s.table (4 * k) marks → (b : ℕ)
    → is_marked marks b ≡ is_live_block s b
unfolding is_marked mark_bit is_live_block live_blocks starts_run is_of_run
marks_are_live_blocks s k marks long h n b =
    ap (λ (x : ℕ). eqb (bit x (b % 64)) 1) (number (dec_lt (b / 64) 256))
    ∙ place (b / 64 / 4) (b / 64 % 4) (b % 64) (omega arith) (omega arith) (omega arith)
  where
    number : Dec (b / 64 < 256) → get_or marks (b / 64) 0 ≡ number_at s.table (b / 64)
    number (yes l) = n.number (b / 64) (omega arith)
    number (no f) =
        get_or-eq_default marks 0 {n = b / 64} (omega (arith, n.long))
        ∙ ap (λ (x : Superblock). get_or (live_blocks x) (b / 64 % 4) 0) (sym (get_or-eq_default s.table blank {n = b / 64 / 4} (omega arith)))

    place : (w j i : ℕ) → w ≡ b / 256 → j ≡ b % 256 / 64 → i ≡ b % 256 % 64
        → eqb (bit (get_or (live_blocks (get_or s.table w blank)) j 0) i) 1
        ≡ eqb (bit (get_or (live_blocks (get_or s.table (b / 256) blank)) (b % 256 / 64) 0) (b % 256 % 64)) 1
    place w j i p q r = rw (p, q, r)
