-- The writing of an input that stops: what is counted, what was given, and what it is of the file.
use Rattle.std.proofs.Common.{◌≡◌, ◌≢◌, inl, ⊎_elim, ℕ, ◌+◌, ◌^◌, ◌<◌, ◌≤◌, List, [], ◌∷◌, ◌++◌, length, take, drop, filter, refl, sym, ap, subst, ◌∙◌, arith, length-append, length-take, Option, Some, None, IfSome}
use Rattle.std.specs.List.{concat}
use Rattle.std.proofs.lemmas.List.{append-nil}
use Rattle.node_tree.specs.Parts.{PIECE}
use Rattle.node_tree.specs.Sheet.{Sheet}
use Rattle.pf_io.specs.Counts.{counted}
use Rattle.pf_io.specs.Disk.{Name, Files}
use Rattle.pf_io.specs.Host.{Answer, HostState, Both, OnHonest, files_of, contents}
use Rattle.pf_io.specs.Names.{side_of}
use Rattle.pf_io.specs.Words.{WordsState}
use Rattle.pf_io.proofs.Telling.{both_weaker, told_none}
use Rattle.pf_session.specs.Restored.{KeepsBeside}
use Rattle.pf_session.specs.State.{SessionState}
use Rattle.pf_tool.specs.SealedContents.{is_piece_of, piece_answers}
use Rattle.pf_tool.specs.SealingInput.{PiecesWritten, none_yet, one_more, InputStops, not_given, not_written}
use Rattle.pf_tool.specs.declared.fault.Fault.{Fault}
use Rattle.pf_tool.specs.declared.fault.Fault.TheVariants as faults
use Rattle.pf_tool.specs.declared.why.Why.TheVariants as whys
use Rattle.pf_tool.proofs.PieceAnswers.{TellsPieces, tells_none, tells_then}
use Rattle.pf_tool.proofs.SessionWrites.{write_grows}
use Rattle.pf_tool.proofs.SheetWrites.{Standing, Went, went_then, alone_then}
use Rattle.pf_tool.proofs.PiecesStand.{pieces_stand, gave_went, joined, kept_alone}
use Rattle.pf_tool.proofs.InputStands.{pieces_of, gave_of, honest_both, part_join}
use Rattle.pf_tool.proofs.SealCounts.{CountsFault, counts_after}
use Rattle.pf_tool.proofs.WriteFails.{FitsOr, write_fails}

-- the pieces that were given, with what they say of a fault
abbrev pub TellsUpTo : Name → Fault → List Answer → List Answer → Type 0
TellsUpTo input fault before now = (these : List Answer) × (now ≡ before ++ these) × (pieces : List (List ℕ)) × (filter (is_piece_of input) these ≡ piece_answers input 0 pieces) × FitsOr (length (concat pieces)) fault

-- the file is too large where it is refused so
abbrev pub IsLargeIf : Fault → List ℕ → Type 0
IsLargeIf fault file = fault ≡ faults.Refused whys.TooLarge → 2 ^ 32 < length file

pub record Stops (input output : Name) (fault : Fault) (before after : HostState) (random random' : WordsState) : Type 0 where
  pub counts : CountsFault fault before after random random'
  pub told : Both before.given after.given (TellsUpTo input fault)
  pub alone : KeepsBeside output before after
  pub large : input ≢ side_of output → OnHonest before (λ files. IsLargeIf fault (contents (files input)))

pub pieces_small : (input : Name) (old : SessionState) (before : HostState) (random : WordsState) (content : List ℕ) (new : SessionState) (after : HostState) (random' : WordsState) → PiecesWritten input old before random content new after random' → length content ≤ 2 ^ 32
pieces_small input old before random content new after random' (none_yet _ _ _ _ none same still words) = let e = ap (λ (l : List ℕ). length l) none in omega (arith, e)
pieces_small input old before random content new after random' (one_more earlier piece _ mid _ between _ words _ so_far wrote full is) =
    let fit = (write_grows wrote.written (length earlier) piece mid new wrote.between after words random' wrote.wrote).fit.small in
    let e = ap (λ (l : List ℕ). length l) is in
    omega (arith, fit, e, length-append earlier piece)

host_fault : (fault : Fault) → fault ≡ faults.Host → fault ≢ faults.Refused whys.TooLarge
host_fault fault is same = cc

never_large : (o : Option Files) (input : Name) (fault : Fault) → fault ≢ faults.Refused whys.TooLarge → IfSome o (λ files. IsLargeIf fault (contents (files input)))
never_large (Some files) input fault other = λ same. absurd (other same)
never_large None input fault other = tt

front_long : (content file : List ℕ) → content ≡ take (length content) file → length content ≤ length file
front_long content file is = let e = ap (λ (l : List ℕ). length l) is in omega (arith, e, length-take (length content) file)

module _ (input user : List ℕ) (output : Name) (first : Sheet) (old : SessionState) (before : HostState) (random : WordsState) (stands : Standing user output first [] old) where
  pub stops_so : (fault : Fault) (after : HostState) (random' : WordsState) → InputStops input old fault before after random random' → Stops input output fault before after random random'
  stops_so fault after random' (not_given earlier mid between so_far failed is) =
      let i = pieces_stand input user output first old before random stands earlier mid between random' so_far in
      let counts : (after.faults ≡ counted between.faults) × (random'.faults ≡ random'.faults) = (failed.failed.once, refl) in
      let other = host_fault fault is in
      let small = pieces_small input old before random earlier mid between random' so_far in
      record {
        counts = counts_after fault before between after random random' random' i.went.calm i.went.took.calm (subst (λ (f : Fault). CountsFault f between after random' random') (sym is) counts);
        told = both_weaker (TellsPieces input 0 (i.pieces ++ [])) (TellsUpTo input fault) before.given after.given
            (tells_then input 0 i.pieces [] before between after i.went.told (tells_none input (0 + length (concat i.pieces)) [] between after refl (told_none between after failed.failed.told)))
            (λ a b t. (t.0, t.1, i.pieces, t.2 ∙ ap (λ (l : List (List ℕ)). piece_answers input 0 l) (append-nil i.pieces), inl (let e = ap (λ (l : List ℕ). length l) i.together in omega (arith, e, small), other)));
        alone = alone_then output before between after i.went.alone (kept_alone output between after failed.disk);
        large = λ ne. never_large (files_of before) input fault other;
      }
  stops_so fault after random' (not_written earlier piece mid new between given words why so_far gave goes says) =
      let i = pieces_stand input user output first old before random stands earlier mid between words so_far in
      let fails = write_fails input user output i.sheet earlier piece mid new given after words random' i.stands why fault says goes in
      let place : length earlier ≡ 0 + length (concat i.pieces) = let same = ap (λ (l : List ℕ). length l) i.together in omega (arith, same) in
      let went = went_then input user output first i.sheet i.sheet 0 i.pieces (piece ∷ []) before between given random words words i.went
      (subst (λ (n : ℕ). Went input user output i.sheet i.sheet n (piece ∷ []) between given words words) place (gave_went input user output i.sheet (length earlier) piece between given words gave)) in
      let pieces = i.pieces ++ piece ∷ [] in
      let end : length (concat pieces) ≡ length earlier + length piece = ap (λ (l : List ℕ). length l) (joined i.pieces piece earlier i.together) ∙ length-append earlier piece in
      record {
        counts = counts_after fault before given after random words random' went.calm went.took.calm fails.0.counts;
        told = both_weaker (TellsPieces input 0 (pieces ++ [])) (TellsUpTo input fault) before.given after.given (tells_then input 0 pieces [] before given after went.told (fails.0.told (0 + length (concat pieces))))
            (λ a b t. (t.0, t.1, pieces, t.2 ∙ ap (λ (l : List (List ℕ)). piece_answers input 0 l) (append-nil pieces), subst (λ (n : ℕ). FitsOr n fault) (sym end) fails.1));
        alone = alone_then output before given after went.alone fails.0.alone;
        large = λ ne.
            honest_both (λ files. earlier ≡ take (length earlier) (contents (files input))) (λ files. piece ≡ take PIECE (drop (length earlier) (contents (files input)))) (λ files. IsLargeIf fault (contents (files input))) (files_of before)
            (pieces_of input user output first old before random stands ne earlier mid between words so_far) (gave_of input user output first old before random stands ne (length earlier) piece between given i.went.alone gave)
            (λ files front behind same. ⊎_elim (λ fits. absurd (fits.1 same)) (λ large.
            let long = front_long (earlier ++ piece) (contents (files input)) (part_join PIECE earlier piece (contents (files input)) front behind) in
            let over = large.1 in
            omega (arith, long, over, length-append earlier piece)) fails.1);
      }
