-- Computed cases in stages. A declaration that cites a refused one is skipped by the prover; so a case that takes long to compute unfolds a name
-- whose body cites the quick ones, and an edit that a quick one refuses does not compute it. Assumes nothing.
infixr 5 ◌also◌
-- one more is cited, and nothing is made of it
abbrev pub ◌also◌ : {A : Type 0} → A → Unit {0} → Unit {0}
◌also◌ case rest = rest
