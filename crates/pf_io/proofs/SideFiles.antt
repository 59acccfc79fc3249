-- What the steps of writing a side file count, tell and leave.
use Rattle.std.proofs.Common.{◌≡◌, ℕ, zero, suc, ◌+◌, ◌-◌, ◌*◌, ◌<◌, ◌≤◌, min, List, [], ◌∷◌, ◌++◌, length, fold, take, drop, replicate, refl, sym, ◌∙◌, ap, subst, append_assoc, length-drop, Option, Some, Result, Ok, Err, OnErr, IsErr, arith}
use Rattle.std.proofs.lemmas.List.{append-nil, take_all, drop_all, take_min, length-take, length-take-le}
use Rattle.std.proofs.lemmas.Grind.{div_ceil_times}
use Rattle.std.proofs.lemmas.List.Sums.{fold-append}
use Rattle.std.proofs.Math.Seq.{take-add}
use Rattle.pf_io.specs.Counts.{HasCause, counted}
use Rattle.pf_io.specs.Disk.{Name, File, Disk, Image, IsImageAt}
use Rattle.pf_io.specs.Moments.{Honest, Does, Ran}
use Rattle.pf_io.specs.Steps.{KeepsOthers, Changes, Writes, overwrite}
use Rattle.pf_io.specs.Host.{Answer, Wrote, HostState, Both, IsMore, OnDisk, CountsWrite, CountsNeither}
use Rattle.pf_io.specs.SideFile.{PIECE, pieces, wrote_pieces, counts_step, CountsSteps, OthersLeft}
use Rattle.pf_io.specs.SideSteps.{Beside, Advanced, Halted, Fills}
use Rattle.pf_io.proofs.Images.{others_image, others_then, follows_at}
use Rattle.pf_io.proofs.Runs.{started, goes_on, goes_on_ran}
use Rattle.pf_io.proofs.Telling.{told_on, told_none, both_weaker}

-- counts

counts_none : (state : HostState) → CountsSteps [] state state
counts_none state = record { reads = refl; writes = refl; widest = omega arith }

pub counts_neither : (step : Answer) (old new : HostState) → ((writes : ℕ) → counts_step writes step ≡ writes) → CountsNeither old new → CountsSteps (step ∷ []) old new
counts_neither step old new is counts = record { reads = counts.reads; writes = counts.writes ∙ sym (is old.writes); widest = omega (arith, counts.widest) }

pub counts_write : (name : Name) (place : ℕ) (bytes : List ℕ) (old new : HostState) → length bytes ≤ PIECE → CountsWrite (length bytes) old new → CountsSteps (Wrote name place bytes ∷ []) old new
counts_write name place bytes old new short counts = record { reads = counts.reads; writes = counts.writes; widest = omega (arith, counts.widest, short) }

pub counts_then : (xs ys : List Answer) (old mid new : HostState) → CountsSteps xs old mid → CountsSteps ys mid new → CountsSteps (xs ++ ys) old new
counts_then xs ys old mid new one two = record {
  reads = two.reads ∙ one.reads;
  writes = two.writes ∙ ap (λ (n : ℕ). fold counts_step n ys) one.writes ∙ sym (fold-append counts_step old.writes xs ys);
  widest = omega (arith, one.widest, two.widest);
}

-- runs

call_ran : (side : Name) (step : Disk → Disk → Type 0) (went : Option File → Option File → Type 0) (o p : Option Honest) → Both o p (Does step) → ((d e : Disk) → step d e → Beside side went d e)
    → Both o p (Ran (OthersLeft side) (Beside side went))
call_ran side step went o p does go =
    goes_on (OthersLeft side) (λ old new. new ≡ old) (Beside side went) step o o p
    (started (OthersLeft side) o (λ d image is other apart. is other)) does
    (λ d e f same does. let next = go d f (subst (λ (d : Disk). step d f) same does) in (next, λ image is. others_image side d f image next.others is))

call_kept : (side : Name) (step : Disk → Disk → Type 0) (o p : Option Honest) → Both o p (Does step) → ((d e : Disk) → step d e → KeepsOthers side d e)
    → Both o p (Ran (OthersLeft side) (KeepsOthers side))
call_kept side step o p does go =
    goes_on (OthersLeft side) (λ old new. new ≡ old) (KeepsOthers side) step o o p
    (started (OthersLeft side) o (λ d image is other apart. is other)) does
    (λ d e f same does. let next = go d f (subst (λ (d : Disk). step d f) same does) in (next, λ image is. others_image side d f image next is))

left_then : (side : Name) (d e : Disk) (image : Image) → KeepsOthers side d e → OthersLeft side e image → OthersLeft side d image
left_then side d e image keeps left other apart = subst (λ o. IsImageAt o (image other)) (keeps other apart) (left other apart)

-- steps

pub advanced_none : (side : Name) (went : Option File → Option File → Type 0) (state : HostState) → ((o : Option File) → went o o) → Advanced side [] went state state
advanced_none side went state same = record {
  stepped = record { told = told_none state state refl; counts = counts_none state };
  disk = both_weaker (Ran (OthersLeft side) (λ old new. new ≡ old)) (Ran (OthersLeft side) (Beside side went)) state.honest state.honest
      (started (OthersLeft side) state.honest (λ d image is other apart. is other))
      (λ a b run. record { leaves = run.leaves; ends = record { file = subst (λ (d : Disk). went (a.now side) (d side)) (sym run.ends) (same (a.now side)); others = λ other apart. ap (λ (d : Disk). d other) run.ends } });
}

pub advanced_call : (side : Name) (step : Answer) (does : Disk → Disk → Type 0) (went : Option File → Option File → Type 0) (old new : HostState)
    → Both old.given new.given (IsMore (step ∷ [])) → CountsSteps (step ∷ []) old new → OnDisk old new (Does does) → ((d e : Disk) → does d e → Beside side went d e) → Advanced side (step ∷ []) went old new
advanced_call side step does went old new told counts disk go = record {
  stepped = record { told = told; counts = counts };
  disk = call_ran side does went old.honest new.honest disk go;
}

pub advanced_then : (side : Name) (xs ys : List Answer) (first second both : Option File → Option File → Type 0) (old mid new : HostState)
    → Advanced side xs first old mid → Advanced side ys second mid new → ((o p q : Option File) → first o p → second p q → both o q) → Advanced side (xs ++ ys) both old new
advanced_then side xs ys first second both old mid new one two go = record {
  stepped = record { told = told_on xs ys old mid new one.stepped.told two.stepped.told; counts = counts_then xs ys old mid new one.stepped.counts two.stepped.counts };
  disk = goes_on_ran (OthersLeft side) (OthersLeft side) (Beside side first) (Beside side second) (Beside side both) old.honest mid.honest new.honest one.disk two.disk
      (λ d e was image left. left_then side d e image was.others left)
      (λ d e f was is. record { file = go (d side) (e side) (f side) was.file is.file; others = others_then side d e f was.others is.others });
}

pub halted_call : (side : Name) (step : Answer) (does : Disk → Disk → Type 0) (old new : HostState)
    → new.given ≡ old.given → CountsSteps (step ∷ []) old new → OnDisk old new (Does does) → ((d e : Disk) → does d e → KeepsOthers side d e) → Halted side (step ∷ []) old new
halted_call side step does old new told counts disk go = record {
  answered = [];
  failed = step;
  left = [];
  stopped = record { in_order = refl; told = told_none old new told; counts = counts };
  disk = call_kept side does old.honest new.honest disk go;
}

pub halted_then : (side : Name) (xs ys : List Answer) (went : Option File → Option File → Type 0) (old mid new : HostState) → Advanced side xs went old mid → Halted side ys mid new → Halted side (xs ++ ys) old new
halted_then side xs ys went old mid new one two = record {
  answered = xs ++ two.answered;
  failed = two.failed;
  left = two.left;
  stopped = record {
    in_order = ap (λ (l : List Answer). xs ++ l) two.stopped.in_order ∙ sym (append_assoc xs two.answered (two.failed ∷ two.left));
    told = told_on xs two.answered old mid new one.stepped.told two.stopped.told;
    counts = subst (λ (l : List Answer). CountsSteps l old new) (sym (append_assoc xs two.answered (two.failed ∷ []))) (counts_then xs (two.answered ++ two.failed ∷ []) old mid new one.stepped.counts two.stopped.counts);
  };
  disk = goes_on_ran (OthersLeft side) (OthersLeft side) (Beside side went) (KeepsOthers side) (KeepsOthers side) old.honest mid.honest new.honest one.disk two.disk
      (λ d e was image left. left_then side d e image was.others left)
      (λ d e f was is. others_then side d e f was.others is);
}

-- more steps would have followed
pub halted_front : (side : Name) (xs ys zs : List Answer) (old new : HostState) → zs ≡ xs ++ ys → Halted side xs old new → Halted side zs old new
halted_front side xs ys zs old new whole one = record {
  answered = one.answered;
  failed = one.failed;
  left = one.left ++ ys;
  stopped = record {
    in_order = whole ∙ ap (λ (l : List Answer). l ++ ys) one.stopped.in_order ∙ append_assoc one.answered (one.failed ∷ one.left) ys;
    told = one.stopped.told;
    counts = one.stopped.counts;
  };
  disk = one.disk;
}

-- pieces

nothing : (n at : ℕ) → n ≡ at → at - n ≡ 0
nothing n at same = omega (arith, same)

-- a write at the end of a file
overwrite_end : (at : ℕ) (bytes old : List ℕ) → length old ≡ at → overwrite at bytes old ≡ old ++ bytes
overwrite_end at [] old long = sym (append-nil old)
overwrite_end at (b ∷ bytes) old long =
    let front : take at old ≡ old = take_all at old (omega (arith, long)) in
    let back : drop (at + length (b ∷ bytes)) old ≡ [] = drop_all (at + length (b ∷ bytes)) old (omega (arith, long)) in
    let gap : replicate {A = ℕ} (at - length old) 0 ≡ [] = ap (λ (n : ℕ). replicate {A = ℕ} n 0) (nothing (length old) at long) in
    rw front (rw gap (rw back (append-nil ((old ++ []) ++ b ∷ bytes) ∙ ap (λ (l : List ℕ). l ++ b ∷ bytes) (append-nil old))))

add_zero : (k : ℕ) → 0 + k ≡ k
add_zero k = omega arith

add_one : (j k : ℕ) → suc j + k ≡ suc (j + k)
add_one j k = omega arith

more_pieces : (side : Name) (bytes : List ℕ) (j k : ℕ) → (rest : List Answer) × (wrote_pieces side bytes (j + k) ≡ wrote_pieces side bytes k ++ rest)
more_pieces side bytes zero k = ([], ap (λ (n : ℕ). wrote_pieces side bytes n) (add_zero k) ∙ sym (append-nil (wrote_pieces side bytes k)))
more_pieces side bytes (suc j) k =
    let before = more_pieces side bytes j k in
    let last = Wrote side ((j + k) * PIECE) (take PIECE (drop ((j + k) * PIECE) bytes)) ∷ [] in
    (before.0 ++ last, ap (λ (n : ℕ). wrote_pieces side bytes n) (add_one j k) ∙ ap (λ (l : List Answer). l ++ last) before.1 ∙ append_assoc (wrote_pieces side bytes k) before.0 last)

-- the first pieces were written, and no call failed
pub record WrotePieces (side : Name) (bytes : List ℕ) (count : ℕ) (old new : HostState) : Type 0 where
  pub faults : new.faults ≡ old.faults
  pub wrote : Advanced side (wrote_pieces side bytes count) (Fills (take (count * PIECE) bytes)) old new

pub wrote_none : (side : Name) (bytes : List ℕ) (state : HostState) → WrotePieces side bytes 0 state state
wrote_none side bytes state = record { faults = refl; wrote = advanced_none side (Fills (take (0 * PIECE) bytes)) state (λ o made. (made.0, made.1, made.2.bytes)) }

count_is : (start end len left : ℕ) → end ≡ min len (start + PIECE) → left ≡ len - start → end - start ≡ min PIECE left
count_is start end len left is rest = omega (arith, is, rest)

-- the slice that the loop writes
pub piece_is : (start end : ℕ) (bytes : List ℕ) → end ≡ min (length bytes) (start + PIECE) → take (end - start) (drop start bytes) ≡ take PIECE (drop start bytes)
piece_is start end bytes is = ap (λ (n : ℕ). take n (drop start bytes)) (count_is start end (length bytes) (length (drop start bytes)) is (length-drop start bytes)) ∙ take_min PIECE (drop start bytes)

-- a lemma of its own, where no state of a host is in reach of `omega`
piece_short : (start : ℕ) (bytes : List ℕ) → length (take PIECE (drop start bytes)) ≤ PIECE
piece_short start bytes = omega (arith, length-take PIECE (drop start bytes))

written_piece : (start : ℕ) (bytes : List ℕ) → start ≤ length bytes → overwrite start (take PIECE (drop start bytes)) (take start bytes) ≡ take (start + PIECE) bytes
written_piece start bytes le = overwrite_end start (take PIECE (drop start bytes)) (take start bytes) (length-take-le start bytes le) ∙ sym (take-add start PIECE bytes)

plus_one : (count : ℕ) → suc count ≡ count + 1
plus_one count = omega arith

next_place : (count : ℕ) → count * PIECE + PIECE ≡ suc count * PIECE
next_place count = omega arith

pub wrote_more : (T E : Type 0) (x : T) (side : Name) (bytes : List ℕ) (count : ℕ) (old mid new : HostState) → count * PIECE ≤ length bytes → WrotePieces side bytes count old mid
    → new.faults ≡ mid.faults → Both mid.given new.given (IsMore (Wrote side (count * PIECE) (take PIECE (drop (count * PIECE) bytes)) ∷ [])) → CountsWrite (length (take PIECE (drop (count * PIECE) bytes))) mid new
    → OnDisk mid new (Does (Changes side (Writes {T = T} {E = E} (count * PIECE) (take PIECE (drop (count * PIECE) bytes)) (Ok x)))) → WrotePieces side bytes (suc count) old new
wrote_more T E x side bytes count old mid new within was faults told counts disk = record {
  faults = faults ∙ was.faults;
  wrote = advanced_then side (wrote_pieces side bytes count) (Wrote side start piece ∷ []) (Fills (take start bytes)) grows (Fills (take (suc count * PIECE) bytes)) old mid new was.wrote
      (advanced_call side (Wrote side start piece) (Changes side (Writes {T = T} {E = E} start piece (Ok x))) grows mid new told (counts_write side start piece mid new (piece_short start bytes) counts) disk
      (λ d e does. record { file = λ file was. follows_at _ _ _ file was does.there; others = does.others }))
      (λ o p q fills grow made.
      let was = fills made in
      let next = grow was.0 was.1 in
      (next.0, next.1, next.2.reads ∙ ap (λ (l : List ℕ). overwrite start piece l) was.2 ∙ written_piece start bytes within ∙ ap (λ (n : ℕ). take n bytes) (next_place count)));
}
  where
    start : ℕ
    start = count * PIECE

    piece : List ℕ
    piece = take PIECE (drop start bytes)

    grows : Option File → Option File → Type 0
    grows o p = (file : File) → o ≡ Some file → (new : File) × (p ≡ Some new) × Writes {T = T} {E = E} start piece (Ok x) file new

all_pieces : (count n : ℕ) → count < n → n ≡ (n - suc count) + suc count
all_pieces count n lt = omega (arith, lt)

-- a piece failed
pub pieces_failed : (T E : Type 0) (e : E) (side : Name) (bytes : List ℕ) (count n : ℕ) (old mid new : HostState) → count < n → WrotePieces side bytes count old mid
    → new.given ≡ mid.given → CountsWrite (length (take PIECE (drop (count * PIECE) bytes))) mid new
    → OnDisk mid new (Does (Changes side (Writes {T = T} {E = E} (count * PIECE) (take PIECE (drop (count * PIECE) bytes)) (Err e)))) → Halted side (wrote_pieces side bytes n) old new
pieces_failed T E e side bytes count n old mid new lt was told counts disk =
    let start = count * PIECE in
    let piece = take PIECE (drop start bytes) in
    let more = more_pieces side bytes (n - suc count) (suc count) in
    halted_front side (wrote_pieces side bytes (suc count)) more.0 (wrote_pieces side bytes n) old new
    (ap (λ (k : ℕ). wrote_pieces side bytes k) (all_pieces count n lt) ∙ more.1)
    (halted_then side (wrote_pieces side bytes count) (Wrote side start piece ∷ []) (Fills (take start bytes)) old mid new was.wrote
    (halted_call side (Wrote side start piece) (Changes side (Writes {T = T} {E = E} start piece (Err e))) mid new told (counts_write side start piece mid new (piece_short start bytes) counts) disk
    (λ d e does. does.others)))

-- all pieces were written
pub pieces_done : (side : Name) (bytes : List ℕ) (count : ℕ) (old new : HostState) → count ≡ pieces (length bytes) → WrotePieces side bytes count old new
    → Advanced side (wrote_pieces side bytes (pieces (length bytes))) (Fills bytes) old new
pieces_done side bytes count old new is was =
    let reach : length bytes ≤ pieces (length bytes) * PIECE = (div_ceil_times (length bytes) PIECE (omega arith)).0 in
    let whole : take (count * PIECE) bytes ≡ bytes = take_all (count * PIECE) bytes (omega (arith, is, reach)) in
    subst (λ (k : ℕ). Advanced side (wrote_pieces side bytes k) (Fills bytes) old new) is (subst (λ (b : List ℕ). Advanced side (wrote_pieces side bytes count) (Fills b) old new) whole was.wrote)

-- each piece begins in the bytes
pub piece_begins : (count n length : ℕ) → n ≡ pieces length → count < n → count * PIECE < length
piece_begins count n length is lt = omega (arith, is, lt, (div_ceil_times length PIECE (omega arith)).1)

-- the same of the slice as the loop takes it
pub wrote_slice : (T E : Type 0) (x : T) (side : Name) (bytes slice : List ℕ) (count : ℕ) (old mid new : HostState) → slice ≡ take PIECE (drop (count * PIECE) bytes) → count * PIECE ≤ length bytes → WrotePieces side bytes count old mid
    → new.faults ≡ mid.faults → Both mid.given new.given (IsMore (Wrote side (count * PIECE) slice ∷ [])) → CountsWrite (length slice) mid new
    → OnDisk mid new (Does (Changes side (Writes {T = T} {E = E} (count * PIECE) slice (Ok x)))) → WrotePieces side bytes (count + 1) old new
wrote_slice T E x side bytes slice count old mid new is within was faults told counts disk =
    subst (λ (n : ℕ). WrotePieces side bytes n old new) (plus_one count)
    (wrote_more T E x side bytes count old mid new within was faults
    (subst (λ (b : List ℕ). Both mid.given new.given (IsMore (Wrote side (count * PIECE) b ∷ []))) is told)
    (subst (λ (b : List ℕ). CountsWrite (length b) mid new) is counts)
    (subst (λ (b : List ℕ). OnDisk mid new (Does (Changes side (Writes {T = T} {E = E} (count * PIECE) b (Ok x))))) is disk))

pub failed_slice : (T E : Type 0) (e : E) (side : Name) (bytes slice : List ℕ) (count n : ℕ) (old mid new : HostState) → slice ≡ take PIECE (drop (count * PIECE) bytes) → count < n → WrotePieces side bytes count old mid
    → new.given ≡ mid.given → CountsWrite (length slice) mid new → OnDisk mid new (Does (Changes side (Writes {T = T} {E = E} (count * PIECE) slice (Err e)))) → Halted side (wrote_pieces side bytes n) old new
failed_slice T E e side bytes slice count n old mid new is lt was told counts disk =
    pieces_failed T E e side bytes count n old mid new lt was told
    (subst (λ (b : List ℕ). CountsWrite (length b) mid new) is counts)
    (subst (λ (b : List ℕ). OnDisk mid new (Does (Changes side (Writes {T = T} {E = E} (count * PIECE) b (Err e))))) is disk)

-- faults

-- a fault is handed on
pub failed_with : {T E : Type 0} (r : Result T E) (X : Type 0) → IsErr r → X → OnErr r X
failed_with (Err e) X err holds = holds
failed_with (Ok x) X err holds = absurd (cc)

pub failed_cause : {T E F : Type 0} (r : Result T E) (e : F) (before mid now : ℕ) → IsErr r → mid ≡ before → HasCause {T = T} mid now (Err e) → HasCause before now r
failed_cause (Err x) e before mid now err same cause = record { later = omega (arith, same, cause.later); still = tt; once = subst (λ (n : ℕ). now ≡ counted n) same cause.once }
failed_cause (Ok x) e before mid now err same cause = absurd (cc)
