-- The ranking of the superblocks, all 64 in one, by the last free into each: "The recency is a ranking in the superblock records: the ranked
-- ones carry 1 (latest) upwards, each once without a gap, the rest 0" (document 02, item 4). In the field's terms it is a move-to-front list,
-- each superblock carrying its position.
use Rattle.std.specs.Prelude.{ℕ, ◌+◌, ◌-◌, ◌≤◌, ◌<◌, Bool, not, List, get_or, eqb, ltb}
use Rattle.base_laws.specs.Sums.{pick, both, either, one}
use Rattle.base_laws.specs.Lists.{listed}
use Rattle.heap_rules.specs.declared.Superblock.{Superblock}
use Rattle.heap_rules.specs.declared.State.{State}
use Rattle.heap_rules.specs.Table.{table_length, blank, superblock_at, with_rank}

-- the superblock was freed into since it was last renewed
unfoldable pub is_ranked : Superblock → Bool
is_ranked b = ltb 0 b.rank

-- b was freed into more recently than d: "the one freed into most recently since it was last renewed comes first. Those not freed into
-- since then follow"
unfoldable pub is_more_recent : Superblock → Superblock → Bool
is_more_recent b d = both (is_ranked b) (either (not (is_ranked d)) (ltb b.rank d.rank))

-- the rank of superblock m after a free into superblock k: k's is 1, and each that was ahead of k goes one back
unfoldable pub rank_after_free : ℕ → List Superblock → ℕ → ℕ
rank_after_free k table m = pick (eqb m k) 1 ((get_or table m blank).rank + one (is_more_recent (get_or table m blank) (get_or table k blank)))

-- the rank of superblock m once superblock k is renewed: k has none, and each that was behind k goes one ahead, which closes the gap
unfoldable pub rank_after_renewal : ℕ → List Superblock → ℕ → ℕ
rank_after_renewal k table m = pick (eqb m k) 0 ((get_or table m blank).rank - one (is_more_recent (get_or table k blank) (get_or table m blank)))

-- the table with the rank of each superblock by a rule
abbrev pub with_ranks : (ℕ → ℕ) → List Superblock → List Superblock
with_ranks rank table = listed (λ m. with_rank (rank m) (get_or table m blank)) table_length

-- and the state: totals and names take no notice of ranks
abbrev pub reranked : (ℕ → ℕ) → State → State
reranked rank s = record { setup = s.setup; table = with_ranks rank s.table; names = s.names; totals = s.totals }

-- superblock k was freed into: it is the latest of the ranking
unfoldable pub ranked_latest : ℕ → State → State
ranked_latest k s = reranked (rank_after_free k s.table) s

-- superblock k leaves the ranking
unfoldable pub unranked : ℕ → State → State
unranked k s = reranked (rank_after_renewal k s.table) s

-- no rank is above the number of superblocks
abbrev pub RanksFit : State → Type 0
RanksFit s = (m : ℕ) → m < table_length → (superblock_at s m).rank ≤ table_length
