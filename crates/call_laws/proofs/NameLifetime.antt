-- Document 02, item 2: "A name holds from its take until its block is freed by either command, then may be used again." Item 5: of a drop "All blocks are
-- freed first, in that order, and their names let go". Assumes nothing.
use mathlib.Core.Path.{◌≡◌, refl, sym, ap, ◌∙◌, subst}
use mathlib.Core.Bool.{Bool, true, false}
use mathlib.Core.Logic.{◌⊎◌, inl, inr, ⊎_elim}
use mathlib.Core.List.{List, [], ◌∷◌}
use Prim.Native.Nat.{ℕ, ◌<◌}
use native.Mathlib.Decide.{ℕ_discrete}
use borrow.Author.Tests.{lt-ltb, eq-eqb}
use lib.Dec.{T, eqb}
use Rattle.base_laws.specs.Sums.{pick}
use Rattle.base_laws.proofs.TestLaws.{not_T_of_false, false_of_not_T, pick_true}
use Rattle.names_rules.specs.Names.{not_held, block_number, is_name, block_named, is_held, without_block}
use Rattle.names_laws.proofs.NameLaws.{held_facts, block_named_without_block, block_named_without_other_block}
use Rattle.heap_rules.specs.declared.State.{State}
use Rattle.heap_laws.proofs.StateFacts.{Shape}
use Rattle.call_rules.specs.declared.Outcome.TheVariants.{Refused}
use Rattle.call_rules.specs.Answers.{After, refused}
use Rattle.call_rules.specs.Free.{superblock_index, superblock_holding, block_of, address_refusal, order_pushed, block_freed}
use Rattle.call_rules.specs.Named.{is_unavailable}
use Rattle.call_rules.specs.Drop.{all_freed, first_address_refusal, drop_of}
use Rattle.call_rules.specs.Calls.{Call, Take, Free, NamedTake, NamedFree, Drop, call_of}
use Rattle.call_laws.proofs.CallEffects.{PassedAfterFrees, FreeAccepted, LongFreeAccepted, NamedFreeAccepted, NamedLongFreeAccepted}
use Rattle.call_laws.proofs.TakeLaws.{take_refused_or_accepted, take_names}
use Rattle.call_laws.proofs.RunTakenLaws.{long_take_names}
use Rattle.call_laws.proofs.FreeLaws.{free_refused_or_accepted}
use Rattle.call_laws.proofs.NamedLongTakeLaws.{named_long_take_keeps_other_names}
use Rattle.call_laws.proofs.NamedCallLaws.{facts_of_available, named_take_refused_or_accepted, named_take_keeps_other_names}
use Rattle.call_laws.proofs.NamedCallLaws.{named_free_refused_or_accepted, free_lets_name_go, free_keeps_other_names, named_free_lets_name_go}
use Rattle.call_laws.proofs.NamedCallLaws.{named_free_keeps_other_names}
use Rattle.call_laws.proofs.TransferredLaws.{one_more_freed, passed_after_no_frees}
use Rattle.call_laws.proofs.AddressFreedLaws.{address_freed, address_freed_block}
use Rattle.call_laws.proofs.AllFreedLaws.{ListsBlock, listed_same, first_refusal_of_cons}
use Rattle.call_laws.proofs.DropLaws.{DropAccepted, drop_refused_or_accepted, drop_transfers, drop_state_is}
use Rattle.call_laws.proofs.TotalsKeptLaws.{refused_call_keeps_state}

-- the call frees the block that name m points at: by its address, alone or in a drop, or by the name
abbrev pub FreesBlockOf : State → List ℕ → ℕ → Call → Type 0
FreesBlockOf s order m (Take i size) = ⊥
FreesBlockOf s order m (Free i a) = (FreeAccepted s order i a ⊎ LongFreeAccepted s order i a)
    × (block_named s.names m ≡ block_number (superblock_index a) (block_of s a))
FreesBlockOf s order m (NamedTake i n size) = ⊥
FreesBlockOf s order m (NamedFree i n) = (NamedFreeAccepted s order i n ⊎ NamedLongFreeAccepted s order i n) × (n ≡ m)
FreesBlockOf s order m (Drop i addresses) = DropAccepted s order i addresses × ListsBlock s addresses (block_named s.names m)

-- ---- the names that the frees of a drop let go
-- a name that is let go stays let go
none_without_block : (names : List ℕ) (b m : ℕ) → block_named names m ≡ not_held → block_named (without_block names b) m ≡ not_held
none_without_block names b m e = block_named_without_block names b m ∙ go (eqb (block_named names m) b)
  where
    go : (t : Bool) → pick t not_held (block_named names m) ≡ not_held
    go true = refl
    go false = e

not_held_of_none : (names : List ℕ) (m : ℕ) → block_named names m ≡ not_held → is_held names m ≡ false
not_held_of_none names m e = false_of_not_T (is_held names m) (λ t. (held_facts names m t).1 e)

module _ (m : ℕ) where
  -- the first block freed: the state then has the names without it, and goes on to the other addresses
  module _ (freed : ℕ → ℕ → ℕ) (s : State) (order : List ℕ) (a : ℕ) (shape : Shape s) (passed : PassedAfterFrees freed s order)
      (accepted : address_refusal s a ≡ 0) where
    abbrev block : ℕ
    block = block_number (superblock_index a) (block_of s a)

    named_then : (b : ℕ) → block_named (without_block s.names block) m ≡ b → block_named (block_freed s a).names m ≡ b
    named_then b e = ap (λ (l : List ℕ). block_named l m) (address_freed freed s order a shape passed accepted).names ∙ e

    first_keeps_other : (block_named s.names m ≡ block → ⊥) → block_named (block_freed s a).names m ≡ block_named s.names m
    first_keeps_other f = named_then _ (block_named_without_other_block s.names block m f)

    first_lets_go : block_named s.names m ≡ block → block_named (block_freed s a).names m ≡ not_held
    first_lets_go e = named_then _ (block_named_without_block s.names block m ∙ pick_true _ not_held (block_named s.names m)
        (eq-eqb (block_named s.names m) block e))

    first_binds_none : block_named s.names m ≡ not_held → block_named (block_freed s a).names m ≡ not_held
    first_binds_none e = named_then _ (none_without_block s.names block m e)

  -- of all of them: a name whose block is not listed keeps it ..
  frees_keep_other : (freed : ℕ → ℕ → ℕ) (s : State) (order addresses : List ℕ) → Shape s → PassedAfterFrees freed s order
      → first_address_refusal s addresses ≡ 0
      → (ListsBlock s addresses (block_named s.names m) → ⊥) → block_named (all_freed s addresses).names m ≡ block_named s.names m
  unfolding all_freed
  frees_keep_other freed s order [] shape passed ok other = refl
  frees_keep_other freed s order (a ∷ addresses) shape passed ok other =
      let first = first_refusal_of_cons s a addresses ok in
      let kept = first_keeps_other freed s order a shape passed first.0 (λ e. other (inl e)) in
      frees_keep_other (one_more_freed (superblock_holding s a).owner (superblock_holding s a).class freed) (block_freed s a) (order_pushed s order a) addresses
      (address_freed freed s order a shape passed first.0).shape
      (address_freed freed s order a shape passed first.0).passed first.1
      (λ h. other (inr (subst (ListsBlock s addresses) kept
      (listed_same s (block_freed s a) (address_freed_block freed s order a shape passed first.0) addresses _ h))))
      ∙ kept

  -- .. one that is let go stays so ..
  frees_bind_none : (freed : ℕ → ℕ → ℕ) (s : State) (order addresses : List ℕ) → Shape s → PassedAfterFrees freed s order
      → first_address_refusal s addresses ≡ 0
      → block_named s.names m ≡ not_held → block_named (all_freed s addresses).names m ≡ not_held
  unfolding all_freed
  frees_bind_none freed s order [] shape passed ok e = e
  frees_bind_none freed s order (a ∷ addresses) shape passed ok e =
      let first = first_refusal_of_cons s a addresses ok in
      frees_bind_none (one_more_freed (superblock_holding s a).owner (superblock_holding s a).class freed) (block_freed s a) (order_pushed s order a) addresses
      (address_freed freed s order a shape passed first.0).shape
      (address_freed freed s order a shape passed first.0).passed first.1
      (first_binds_none freed s order a shape passed first.0 e)

  -- .. and one whose block is listed is let go
  frees_let_go : (freed : ℕ → ℕ → ℕ) (s : State) (order addresses : List ℕ) → Shape s → PassedAfterFrees freed s order → first_address_refusal s addresses ≡ 0
      → ListsBlock s addresses (block_named s.names m) → block_named (all_freed s addresses).names m ≡ not_held
  unfolding all_freed
  frees_let_go freed s order [] shape passed ok h = absurd h
  frees_let_go freed s order (a ∷ addresses) shape passed ok h =
      go (ℕ_discrete (block_named s.names m) (block_number (superblock_index a) (block_of s a))) h
      (frees_let_go (one_more_freed (superblock_holding s a).owner (superblock_holding s a).class freed) (block_freed s a) (order_pushed s order a) addresses
      shape_then passed_then first.1)
    where
      first : (address_refusal s a ≡ 0) × (first_address_refusal (block_freed s a) addresses ≡ 0)
      first = first_refusal_of_cons s a addresses ok

      shape_then : Shape (block_freed s a)
      shape_then = (address_freed freed s order a shape passed first.0).shape

      passed_then : PassedAfterFrees (one_more_freed (superblock_holding s a).owner (superblock_holding s a).class freed) (block_freed s a)
          (order_pushed s order a)
      passed_then = (address_freed freed s order a shape passed first.0).passed

      by_first : block_named s.names m ≡ block_number (superblock_index a) (block_of s a)
          → block_named (all_freed (block_freed s a) addresses).names m ≡ not_held
      by_first e = frees_bind_none (one_more_freed (superblock_holding s a).owner (superblock_holding s a).class freed) (block_freed s a)
          (order_pushed s order a) addresses shape_then passed_then first.1
          (first_lets_go freed s order a shape passed first.0 e)

      go : Dec (block_named s.names m ≡ block_number (superblock_index a) (block_of s a)) → ListsBlock s (a ∷ addresses) (block_named s.names m)
          → (ListsBlock (block_freed s a) addresses (block_named (block_freed s a).names m)
          → block_named (all_freed (block_freed s a) addresses).names m ≡ not_held)
          → block_named (all_freed (block_freed s a) addresses).names m ≡ not_held
      go (yes e) q rest = by_first e
      go (no f) (inl e) rest = by_first e
      go (no f) (inr q) rest =
          rest (subst (ListsBlock (block_freed s a) addresses) (sym (first_keeps_other freed s order a shape passed first.0 f))
          (listed_same (block_freed s a) s (λ x. sym (address_freed_block freed s order a shape passed first.0 x)) addresses _ q))

  -- the moves of the drop change no name
  module _ (s : State) (order : List ℕ) (i : ℕ) (addresses : List ℕ) (shape : Shape s) (acc : DropAccepted s order i addresses) where
    drop_names : (drop_of s order i addresses).answer.state.names ≡ (all_freed s addresses).names
    drop_names = ap (λ (t : State). t.names) (drop_state_is s order i addresses shape acc) ∙ (drop_transfers s order addresses shape acc.passed
        acc.no_refusal).names

    pub drop_keeps_other_names : (ListsBlock s addresses (block_named s.names m) → ⊥) → block_named (drop_of s order i addresses).answer.state.names m
        ≡ block_named s.names m
    drop_keeps_other_names other =
        ap (λ (l : List ℕ). block_named l m) drop_names ∙ frees_keep_other (λ h c. 0) s order addresses shape (passed_after_no_frees s order acc.passed)
        acc.no_refusal other

    -- "and their names let go"
    pub drop_lets_names_go : ListsBlock s addresses (block_named s.names m) → is_held (drop_of s order i addresses).answer.state.names m ≡ false
    drop_lets_names_go h =
        not_held_of_none _ m (ap (λ (l : List ℕ). block_named l m) drop_names ∙ frees_let_go (λ h c. 0) s order addresses shape
        (passed_after_no_frees s order acc.passed) acc.no_refusal h)

module _ (s : State) (order : List ℕ) (shape : Shape s) (m : ℕ) where
  block_of_refused : (x : After) → ((r : ℕ) × (x ≡ refused r s order)) → block_named x.answer.state.names m ≡ block_named s.names m
  block_of_refused x h = ap (λ (y : After). block_named y.answer.state.names m) h.1

  -- a refused call changes no name, so that "a refused take binds none"
  pub refused_call_keeps_names : (call : Call) (r : ℕ) → (call_of s order call).answer.outcome ≡ Refused r → (call_of s order call).answer.state.names ≡ s.names
  refused_call_keeps_names call r e = ap (λ (t : State). t.names) (refused_call_keeps_state s order call r e)

  -- "until its block is freed": a held name keeps its block through every call that does not free it
  pub held_name_kept_until_freed : (call : Call) → T (is_held s.names m) → (FreesBlockOf s order m call → ⊥)
      → block_named (call_of s order call).answer.state.names m ≡ block_named s.names m
  unfolding call_of
  held_name_kept_until_freed (Take i size) held other =
      ⊎_elim (block_of_refused _)
      (⊎_elim (λ h. ap (λ (l : List ℕ). block_named l m) (take_names s order i size h.0 shape h.1))
      (λ h. ap (λ (l : List ℕ). block_named l m) (long_take_names s order i size h.0 shape h.1))) (take_refused_or_accepted s order i size)
  held_name_kept_until_freed (Free i a) held other =
      ⊎_elim (block_of_refused _) (λ h. free_keeps_other_names s order i a shape h m (λ e. other (h, e))) (free_refused_or_accepted s order i a)
  held_name_kept_until_freed (NamedTake i n size) held other =
      ⊎_elim (block_of_refused _)
      (⊎_elim (λ h. named_take_keeps_other_names s order i n size h.0 shape h.1 m (apart h.1.available))
      (λ h. named_long_take_keeps_other_names s order i n size h.0 shape h.1 m (apart h.1.available)))
      (named_take_refused_or_accepted s order i n size)
    where
      apart : is_unavailable s n ≡ false → m ≡ n → ⊥
      apart available e = not_T_of_false (is_held s.names n) (facts_of_available s n available).1 (subst (λ (x : ℕ). T (is_held s.names x)) e held)
  held_name_kept_until_freed (NamedFree i n) held other =
      ⊎_elim (block_of_refused _) (λ h. named_free_keeps_other_names s order i n shape h m held (λ e. other (h, sym e)))
      (named_free_refused_or_accepted s order i n)
  held_name_kept_until_freed (Drop i addresses) held other =
      ⊎_elim (block_of_refused _) (λ h. drop_keeps_other_names m s order i addresses shape h (λ q. other (h, q))) (drop_refused_or_accepted s order i addresses)

  -- "by either command": the free of its block, plain or named, lets it go, and so does a drop
  pub name_let_go_when_freed : (call : Call) → FreesBlockOf s order m call → is_held (call_of s order call).answer.state.names m ≡ false
  unfolding call_of
  name_let_go_when_freed (Take i size) h = absurd h
  name_let_go_when_freed (Free i a) h = free_lets_name_go s order i a shape h.0 m h.1
  name_let_go_when_freed (NamedTake i n size) h = absurd h
  name_let_go_when_freed (NamedFree i n) h = ap (is_held (call_of s order (NamedFree i n)).answer.state.names) (sym h.1)
      ∙ named_free_lets_name_go s order i n shape h.0
  name_let_go_when_freed (Drop i addresses) h = drop_lets_names_go m s order i addresses shape h.0 h.1

-- "then may be used again": a name of 0 to 1023 that is not held is free
pub name_available_of_not_held : (s : State) (m : ℕ) → m < 1024 → is_held s.names m ≡ false → is_unavailable s m ≡ false
unfolding is_unavailable is_name
name_available_of_not_held s m l e = rw (lt-ltb m 1024 l, e)
