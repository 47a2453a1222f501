-- What reads and writes, one after another, do to the bytes that a reader has left and a writer holds, where these are known. Assumes nothing.
use Rattle.std.proofs.Common.{◌≡◌, ◌≤◌, ◌+◌, ◌-◌, ℕ, List, ◌++◌, Option, None, Some, length, take, drop}
use Rattle.std.proofs.Common.{sym, ap, ◌∙◌, subst, append_assoc, le_refl, drop_at, length-take-le}
use Rattle.std.specs.Io.KnownBytes.{Appends, Consumes}
use Rattle.std.proofs.lemmas.List.{take_rest}
use Rattle.std.proofs.lemmas.Slice.{take-put_mid_below}
use Rattle.std.proofs.Math.Seq.{take-add, take-append-le}
use borrow.Rule.Slice.PartMut.{put_mid, post_of}

-- two reads, one after the other
consumed_by_two : (a b c : Option (List ℕ)) (bs cs : List ℕ) → Consumes a b bs → Consumes b c cs → Consumes a c (bs ++ cs)
consumed_by_two None b c bs cs p q = tt
consumed_by_two (Some x) None c bs cs p q = absurd p
consumed_by_two (Some x) (Some y) None bs cs p q = absurd q
consumed_by_two (Some x) (Some y) (Some z) bs cs p q = p ∙ ap (λ (l : List ℕ). bs ++ l) q ∙ sym (append_assoc bs cs z)

-- two writes, one after the other
appended_by_two : (a b c : Option (List ℕ)) (bs cs : List ℕ) → Appends a b bs → Appends b c cs → Appends a c (bs ++ cs)
appended_by_two None b c bs cs p q = tt
appended_by_two (Some x) None c bs cs p q = absurd p
appended_by_two (Some x) (Some y) None bs cs p q = absurd q
appended_by_two (Some x) (Some y) (Some z) bs cs p q = q ∙ ap (λ (l : List ℕ). l ++ cs) p ∙ append_assoc x bs cs

-- the first bytes of a buffer whose end, from `done` on, a read wrote: those that stood there, and the first of the read
first_bytes_after_read : (buf part : List ℕ) (done got : ℕ) → done ≤ length buf → got ≤ length part
    → take done buf ++ take got part ≡ take (done + got) (put_mid done (length buf - done) buf part)
first_bytes_after_read buf part done got within fits =
    let rest = post_of done (length buf - done) buf in
    let new = put_mid done (length buf - done) buf part in
    let second : drop done new ≡ part ++ rest = drop_at (take done buf) (part ++ rest) done (length-take-le done buf within) in
    sym (take-add done got new ∙ ap (λ (l : List ℕ). l ++ take got (drop done new)) (take-put_mid_below _ _ _ _ _ (le_refl _) within)
    ∙ ap (λ (l : List ℕ). take done buf ++ take got l) second ∙ ap (λ (l : List ℕ). take done buf ++ l) (take-append-le got part rest fits))

-- a read behind the bytes that stand in a buffer
pub consumed_behind : (a b c : Option (List ℕ)) (buf part : List ℕ) (done got : ℕ) → done ≤ length buf → got ≤ length part
    → Consumes a b (take done buf) → Consumes b c (take got part) → Consumes a c (take (done + got) (put_mid done (length buf - done) buf part))
consumed_behind a b c buf part done got within fits first second =
    subst (Consumes a c) (first_bytes_after_read buf part done got within fits) (consumed_by_two a b c _ _ first second)

-- a write of the bytes behind those that are written
pub appended_behind : (a b c : Option (List ℕ)) (bytes : List ℕ) (taken put : ℕ) → Appends a b (take taken bytes)
    → Appends b c (take put (take (length bytes - taken) (drop taken bytes))) → Appends a c (take (taken + put) bytes)
appended_behind a b c bytes taken put first second =
    let rest : take taken bytes ++ take put (take (length bytes - taken) (drop taken bytes)) ≡ take (taken + put) bytes =
    ap (λ (l : List ℕ). take taken bytes ++ take put l) (take_rest bytes taken) ∙ sym (take-add taken put bytes) in
    subst (Appends a c) rest (appended_by_two a b c _ _ first second)
