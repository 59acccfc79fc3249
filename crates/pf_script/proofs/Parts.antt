-- The parts of a buffer between two places.
use Rattle.std.proofs.Common.{◌≡◌, ◌≢◌, ◌∙◌, ℕ, ◌+◌, ◌-◌, ◌<◌, ◌≤◌, List, ◌++◌, length, take, drop, sym, ap, subst, arith, length-drop}
use Rattle.std.proofs.lemmas.List.{take_all, take_rest, take-append-le, take-take, drop-take, drop-drop, length-take, length-take-le}
use Rattle.std.proofs.Math.Seq.{take-add}
use Rattle.pf_io.specs.Streams.{SourceState}
use Rattle.pf_script.specs.declared.stage.Stage.{Stage}
use Rattle.pf_script.specs.LineReading.{MOST_READS, ReaderState, ReadBehind, FilledWith}

-- the bytes of a buffer between two places
abbrev pub between : ℕ → ℕ → List ℕ → List ℕ
between start end buffer = take (end - start) (drop start buffer)

between_few : (start end : ℕ) (buffer : List ℕ) → length (between start end buffer) ≤ end - start
between_few start end buffer = omega (arith, length-take (end - start) (drop start buffer))

behind_place : (start end at : ℕ) (buffer : List ℕ) → at < length (between start end buffer) → between (start + at + 1) end buffer ≡ drop (at + 1) (between start end buffer)
behind_place start end at buffer inside =
    let m : ℕ = end - (start + at + 1) in
    let whole : end - start ≡ at + 1 + m = omega (arith, inside, between_few start end buffer) in
    ap (take m) (ap (λ n. drop n buffer) (let e : start + at + 1 ≡ start + (at + 1) = omega arith in e) ∙ sym (drop-drop (at + 1) start buffer)) ∙ sym (drop-take (at + 1) m (drop start buffer)) ∙ ap (λ n. drop (at + 1) (take n (drop start buffer))) (sym whole)

before_place : (start end at : ℕ) (buffer : List ℕ) → at < length (between start end buffer) → between start (start + at) buffer ≡ take at (between start end buffer)
before_place start end at buffer inside =
    let few : at ≤ end - start = omega (arith, inside, between_few start end buffer) in
    ap (λ n. take n (drop start buffer)) (let e : start + at - start ≡ at = omega arith in e) ∙ sym (take-take at (end - start) (drop start buffer) few)

-- what stands behind a place is kept
pub cut_long : (now : ReaderState) (line : List ℕ) (reads : ℕ) (stage : Stage) (buffer : List ℕ) (start end at : ℕ)
    → record { line = line; pending = between start end buffer; reads = reads; stage = stage } ≡ now → at < length now.pending
    → record { line = line; pending = between (start + at + 1) end buffer; reads = reads; stage = stage } ≡ record now { pending = drop (at + 1) now.pending }
cut_long now line reads stage buffer start end at is inside =
    let P : ReaderState → Type 0 = λ s. at < length s.pending → record { line = line; pending = between (start + at + 1) end buffer; reads = reads; stage = stage } ≡ record s { pending = drop (at + 1) s.pending } in
    subst P is (λ i. ap (λ (p : List ℕ). record { line = line; pending = p; reads = reads; stage = stage }) (behind_place start end at buffer i)) inside

-- and what stands before it is given
pub cut_line : (now : ReaderState) (line : List ℕ) (reads : ℕ) (stage : Stage) (buffer : List ℕ) (start end at : ℕ)
    → record { line = line; pending = between start end buffer; reads = reads; stage = stage } ≡ now → at < length now.pending
    → record { line = between start (start + at) buffer; pending = between (start + at + 1) end buffer; reads = reads; stage = stage } ≡ record now { line = take at now.pending; pending = drop (at + 1) now.pending }
cut_line now line reads stage buffer start end at is inside =
    let P : ReaderState → Type 0 = λ s. at < length s.pending → record { line = between start (start + at) buffer; pending = between (start + at + 1) end buffer; reads = reads; stage = stage } ≡ record s { line = take at s.pending; pending = drop (at + 1) s.pending } in
    subst P is (λ i. ap (λ (l : List ℕ). record { line = l; pending = between (start + at + 1) end buffer; reads = reads; stage = stage }) (before_place start end at buffer i) ∙ ap (λ (p : List ℕ). record { line = take at (between start end buffer); pending = p; reads = reads; stage = stage }) (behind_place start end at buffer i)) inside

-- what was written to a whole loan
pub whole_loan : (left rest : List ℕ) (len : ℕ) → length left ≡ len → take len (left ++ rest) ≡ left
whole_loan left rest len is = take-append-le len left rest (omega (arith, is)) ∙ take_all len left (omega (arith, is))

front_part : (end : ℕ) (buffer : List ℕ) → between 0 end buffer ≡ take end buffer
front_part end buffer = ap (λ n. take n buffer) (let e : end - 0 ≡ end = omega arith in e)

-- bytes that were read behind those that were moved to the front
pub filled : (now : ReaderState) (line line' : List ℕ) (reads : ℕ) (stage : Stage) (old moved new stored : List ℕ) (start end n : ℕ) (from to : SourceState)
    → record { line = line; pending = between start end old; reads = reads; stage = stage } ≡ now
    → stored ≡ new → take (end - start) moved ≡ between start end old → length new ≡ 131073 → n ≢ 0 → reads < MOST_READS → ReadBehind (end - start) n moved new from to
    → (these : List ℕ) × (length these ≡ n) × FilledWith these now (record { line = line'; pending = between 0 (end - start + n) stored; reads = reads + 1; stage = stage }) from to
filled now line line' reads stage old moved new stored start end n from to is kept front size some few read =
    let these : List ℕ = take n (drop (end - start) new) in
    let count : length these ≡ n = length-take-le n (drop (end - start) new) (omega (arith, length-drop (end - start) new, read.inside)) in
    let before : between start end old ≡ now.pending = ap (λ (s : ReaderState). s.pending) is in
    let reads_is : reads ≡ now.reads = ap (λ (s : ReaderState). s.reads) is in
    let stage_is : stage ≡ now.stage = ap (λ (s : ReaderState). s.stage) is in
    let part : between 0 (end - start + n) stored ≡ take (end - start + n) new = front_part (end - start + n) stored ∙ ap (λ (b : List ℕ). take (end - start + n) b) kept in
    let whole : between 0 (end - start + n) stored ≡ now.pending ++ these = part ∙ take-add (end - start) n new ∙ ap (λ (f : List ℕ). f ++ these) (read.front ∙ front ∙ before) in (
      these,
      count,
      record {
        pending = whole;
        fits = omega (arith, ap (λ (t : List ℕ). length t) part, length-take (end - start + n) new, size);
        took = read.took;
        faults = read.faults;
        more = λ any. (stage_is, ap (λ r. r + 1) reads_is, omega (arith, few));
        ended = λ none. absurd (some (sym count ∙ ap (λ (t : List ℕ). length t) none));
      },
    )

-- the part of a text that a later read brought
pub seen_part : (text seen whole front : List ℕ) → text ≡ whole → seen ≡ front → take (length text - length seen) (drop (length seen) text) ≡ drop (length front) whole
seen_part text seen whole front is is' = take_rest text (length seen) ∙ ap (λ (t : List ℕ). drop (length seen) t) is ∙ ap (λ (t : List ℕ). drop (length t) whole) is'
