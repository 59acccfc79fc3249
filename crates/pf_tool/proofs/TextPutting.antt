-- A text that is put out in pieces, piece by piece.
use Rattle.std.proofs.Common.{◌≡◌, ℕ, zero, suc, ◌+◌, ◌-◌, ◌*◌, ◌<◌, min, List, [], ◌∷◌, ◌++◌, length, take, drop, map, refl, subst, ap, ap₂, ◌∙◌, sym, arith, length-drop}
use Rattle.std.specs.List.{range_with_len, concat}
use Rattle.std.proofs.lemmas.Grind.{div_ceil_times}
use Rattle.std.proofs.lemmas.List.Folds.{concat-append}
use Rattle.std.proofs.Math.Seq.{take-add}
use Rattle.std.proofs.lemmas.List.{append-nil, map-append, take_min, take_all}
use Rattle.std.proofs.lemmas.List.FromFn.{map-range_with_len_more}
use Rattle.pf_io.specs.Counts.{counted}
use Rattle.pf_io.specs.Host.{Both, IsMore}
use Rattle.pf_io.specs.SideFile.{PIECE}
use Rattle.pf_io.specs.Streams.{SinkState, TakesFront}
use Rattle.pf_io.specs.Unchanged.{KeepsDisk}
use Rattle.pf_io.proofs.Unchanged.{kept_none}
use Rattle.pf_tool.specs.World.{World, with_out}
use Rattle.pf_tool.specs.Events.{Puts, answers_in, words_in, pieces_in}
use Rattle.pf_tool.specs.Endings.{Done, AtEnd}
use Rattle.pf_tool.specs.Happened.{OutPassed}
use Rattle.pf_tool.specs.Outcomes.{Outcome, Falls}
use Rattle.pf_tool.specs.TextOutput.{piece_at, count_of, pieces_of, PutsText}
use Rattle.pf_tool.specs.declared.fault.Fault.{Fault}
use Rattle.pf_tool.specs.declared.fault.Fault.TheVariants as faults
use Rattle.pf_tool.proofs.Calls.{piece_passed, piece_failed}
use Rattle.pf_tool.proofs.Composing.{out_then, passed_pieces, failed_piece}
use Rattle.pf_tool.proofs.Stopping.{out_fails}

-- pieces as events
pub puts_pieces : (these : List (List ℕ)) → pieces_in (map Puts these) ≡ these
puts_pieces [] = refl
puts_pieces (piece ∷ these) = ap (λ (l : List (List ℕ)). piece ∷ l) (puts_pieces these)

pub puts_words : (these : List (List ℕ)) → words_in (map Puts these) ≡ []
puts_words [] = refl
puts_words (piece ∷ these) = puts_words these

pub puts_answers : (these : List (List ℕ)) → answers_in (map Puts these) ≡ []
puts_answers [] = refl
puts_answers (piece ∷ these) = puts_answers these

-- a row of values, parted at one of them
parted : (f : ℕ → List ℕ) (a k n : ℕ) → k < n → map f (range_with_len a n) ≡ map f (range_with_len a k) ++ f (a + k) ∷ map f (range_with_len (a + k + 1) (n - k - 1))
parted f a zero n lt =
    let m = n - 1 in
    let is : n ≡ suc m = omega arith in
    ap (λ (c : ℕ). map f (range_with_len a c)) is
    ∙ ap₂ (λ (b c : ℕ). f b ∷ map f (range_with_len (b + 1) c)) (the_same a) (the_rest n)
  where
    the_same : (a : ℕ) → a ≡ a + 0
    the_same a = omega arith

    the_rest : (n : ℕ) → n - 1 ≡ n - 0 - 1
    the_rest n = omega arith
parted f a (suc k) n lt =
    let m = n - 1 in
    let is : n ≡ suc m = omega arith in
    let on = parted f (a + 1) k m (omega arith) in
    let place : a + 1 + k ≡ a + suc k = omega arith in
    let left : m - k - 1 ≡ n - suc k - 1 = omega arith in
    ap (λ (c : ℕ). map f (range_with_len a c)) is ∙ ap (λ (l : List (List ℕ)). f a ∷ l) on
    ∙ ap₂ (λ (b c : ℕ). f a ∷ (map f (range_with_len (a + 1) k) ++ f b ∷ map f (range_with_len (b + 1) c))) place left

-- the pieces are the text
concat_first : (text : List ℕ) (k : ℕ) → concat (map (piece_at text) (range_with_len 0 k)) ≡ take (k * PIECE) text
concat_first text zero = refl
concat_first text (suc k) =
    let first = map (piece_at text) (range_with_len 0 k) in
    let next : suc k ≡ k + 1 = omega arith in
    let place : k * PIECE + PIECE ≡ suc k * PIECE = omega arith in
    ap (λ (n : ℕ). concat (map (piece_at text) (range_with_len 0 n))) next ∙ ap (λ (l : List (List ℕ)). concat l) (map-range_with_len_more (piece_at text) 0 k k (omega arith)) ∙ concat-append first (piece_at text k ∷ [])
    ∙ ap₂ (λ (a b : List ℕ). a ++ b) (concat_first text k) (append-nil (piece_at text k)) ∙ sym (take-add (k * PIECE) PIECE text) ∙ ap (λ (n : ℕ). take n text) place

pub concat_pieces : (text : List ℕ) → concat (pieces_of text) ≡ text
concat_pieces text =
    let most = div_ceil_times (length text) PIECE (omega arith) in
    concat_first text (count_of text) ∙ take_all (count_of text * PIECE) text (omega (arith, most.0, most.1))

-- a piece as the loop cuts it
pub piece_is : (text : List ℕ) (k end : ℕ) → end ≡ min (length (take (length text - k * PIECE) (drop (k * PIECE) text))) PIECE → take end (take (length text - k * PIECE) (drop (k * PIECE) text)) ≡ piece_at text k
piece_is text k end is =
    let rest : take (length text - k * PIECE) (drop (k * PIECE) text) ≡ drop (k * PIECE) text = take_all (length text - k * PIECE) (drop (k * PIECE) text) (omega (arith, length-drop (k * PIECE) text)) in
    let same : end ≡ min PIECE (length (drop (k * PIECE) text)) = omega (arith, is, ap (λ (l : List ℕ). length l) rest) in
    ap (λ (l : List ℕ). take end l) rest ∙ ap (λ (n : ℕ). take n (drop (k * PIECE) text)) same ∙ take_min PIECE (drop (k * PIECE) text)

module _ (text : List ℕ) where
  abbrev pub first_pieces : ℕ → List (List ℕ)
  first_pieces k = map (piece_at text) (range_with_len 0 k)

  pub piece_more : (k : ℕ) (piece : List ℕ) (old mid new : SinkState) → piece ≡ piece_at text k → OutPassed (first_pieces k) old mid → Both mid.bytes new.bytes (IsMore piece) → new.faults ≡ mid.faults → OutPassed (first_pieces (k + 1)) old new
  piece_more k piece old mid new is was told calm =
      subst (λ (l : List (List ℕ)). OutPassed l old new) (ap (λ (p : List ℕ). first_pieces k ++ p ∷ []) is ∙ sym (map-range_with_len_more (piece_at text) 0 k k (omega arith)))
      (out_then (first_pieces k) (piece ∷ []) old mid new was (piece_passed piece mid new told calm))

  -- the events of the pieces before one, of it, and of those behind it
  split_events : (k : ℕ) → k < count_of text → map Puts (first_pieces k) ++ Puts (piece_at text k) ∷ map Puts (map (piece_at text) (range_with_len (k + 1) (count_of text - k - 1))) ≡ map Puts (pieces_of text)
  split_events k lt =
      let rest = map (piece_at text) (range_with_len (k + 1) (count_of text - k - 1)) in
      let whole : first_pieces k ++ piece_at text k ∷ rest ≡ pieces_of text =
      ap (λ (b : ℕ). first_pieces k ++ piece_at text b ∷ map (piece_at text) (range_with_len (b + 1) (count_of text - k - 1))) (omega arith) ∙ sym (parted (piece_at text) 0 k (count_of text) lt) in
      sym (map-append Puts (first_pieces k) (piece_at text k ∷ rest)) ∙ ap (map Puts) whole

  pub piece_fails : (world : World) (k : ℕ) (piece : List ℕ) (fault : Fault) (old mid new : SinkState) → fault ≡ faults.Stream → k < count_of text → piece ≡ piece_at text k → OutPassed (first_pieces k) old mid
      → Both mid.bytes new.bytes (TakesFront piece) → new.faults ≡ counted mid.faults → Falls (PutsText text) (λ _ _. KeepsDisk) fault (with_out world old) (with_out world new)
  piece_fails world k piece fault old mid new is lt piece_is was told once =
      out_fails (PutsText text) (λ _ _. KeepsDisk) (map Puts (first_pieces k)) (map Puts (map (piece_at text) (range_with_len (k + 1) (count_of text - k - 1)))) Done fault (with_out world old) (with_out world mid) (with_out world new) piece is
      (record { are = ap (λ (p : List ℕ). map Puts (first_pieces k) ++ Puts p ∷ map Puts (map (piece_at text) (range_with_len (k + 1) (count_of text - k - 1)))) piece_is ∙ split_events k lt; done = refl })
      (passed_pieces (map Puts (first_pieces k)) world old mid (puts_answers (first_pieces k)) (puts_words (first_pieces k)) (subst (λ (l : List (List ℕ)). OutPassed l old mid) (sym (puts_pieces (first_pieces k))) was))
      (failed_piece piece world mid new (piece_failed piece mid new told once)) (kept_none world.host)

  pub pieces_done : (world : World) (k : ℕ) (old new : SinkState) → k ≡ count_of text → OutPassed (first_pieces k) old new → Outcome (PutsText text) (λ _ _. KeepsDisk) (AtEnd Done) (with_out world old) (with_out world new)
  pieces_done world k old new is was =
      let all : OutPassed (pieces_of text) old new = subst (λ (n : ℕ). OutPassed (first_pieces n) old new) is was in
      record {
        events = map Puts (pieces_of text);
        stands = record { are = refl; done = refl };
        happened = passed_pieces (map Puts (pieces_of text)) world old new (puts_answers (pieces_of text)) (puts_words (pieces_of text)) (subst (λ (l : List (List ℕ)). OutPassed l old new) (sym (puts_pieces (pieces_of text))) all);
        leaves = kept_none world.host;
      }
