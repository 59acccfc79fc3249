-- The pieces of an input that were given and written: what the session then stands on, and what they are of the file.
use Rattle.std.proofs.Common.{◌≡◌, inl, inr, ⊎_elim, ℕ, ◌+◌, List, [], ◌∷◌, ◌++◌, length, sym, ap, ap₂, subst, ◌∙◌, arith}
use Rattle.std.specs.List.{AllByRecursion, concat}
use Rattle.std.proofs.lemmas.List.{append-nil}
use Rattle.std.proofs.lemmas.List.Folds.{concat-append}
use Rattle.node_tree.specs.Parts.{PIECE}
use Rattle.node_tree.specs.Sheet.{Sheet}
use Rattle.pf_io.specs.Disk.{Name, Disk, IsImage}
use Rattle.pf_io.specs.Host.{HostState, OnDisk}
use Rattle.pf_io.specs.Moments.{Ran, Where, Ends}
use Rattle.pf_io.specs.Names.{side_of}
use Rattle.pf_io.specs.Steps.{KeepsOthers, Stays}
use Rattle.pf_io.specs.Unchanged.{KeepsDisk}
use Rattle.pf_io.specs.Words.{WordsState}
use Rattle.pf_io.proofs.Telling.{both_weaker}
use Rattle.pf_session.specs.Aside.{LeavesOthers}
use Rattle.pf_session.specs.Reopening.{HasSheet}
use Rattle.pf_session.specs.Restored.{KeepsBeside}
use Rattle.pf_session.specs.State.{SessionState}
use Rattle.pf_session.proofs.Words.{took_none}
use Rattle.pf_tool.specs.SealingInput.{GavePiece, PieceWritten, PiecesWritten, none_yet, one_more}
use Rattle.pf_tool.proofs.PieceAnswers.{tells_piece}
use Rattle.pf_tool.proofs.SheetWrites.{Standing, Went, went_same, went_then, write_stands}

-- a host that only answered changed nothing
pub kept_alone : (output : Name) (before after : HostState) → KeepsDisk before after → KeepsBeside output before after
kept_alone output before after kept =
    both_weaker (Ran IsImage Stays) (Ran (LeavesOthers (side_of output)) (KeepsOthers (side_of output))) before.honest after.honest kept (λ a b ran. record {
      leaves = record {
        later = ran.leaves.later;
        each = λ image left other ne. ran.leaves.each image left other;
        earlier = λ t image le left. ⊎_elim (λ was. inl was) (λ is. inr (λ other ne. is other)) (ran.leaves.earlier t image le left);
      };
      ends = λ other ne. ap (λ (d : Disk). d other) ran.ends;
    })

pub kept_stands : (user : List ℕ) (name : Name) (sheet : Sheet) (before after : HostState) → KeepsDisk before after → OnDisk before after (Where (HasSheet user name sheet) (Ends (λ _. HasSheet user name sheet)))
kept_stands user name sheet before after kept =
    both_weaker (Ran IsImage Stays) (Where (HasSheet user name sheet) (Ends (λ _. HasSheet user name sheet))) before.honest after.honest kept (λ a b ran has. subst (λ (d : Disk). HasSheet user name sheet d) (sym ran.ends) has)

module _ (input : Name) (user : List ℕ) (output : Name) where
  pub gave_went : (sheet : Sheet) (at : ℕ) (piece : List ℕ) (before after : HostState) (random : WordsState) → GavePiece input at piece before after → Went input user output sheet sheet at (piece ∷ []) before after random random
  gave_went sheet at piece before after random gave = record {
    calm = gave.passed.calm;
    drew = [];
    took = took_none random;
    told = tells_piece input at piece before after gave.passed.told;
    alone = kept_alone output before after gave.disk;
    stands = kept_stands user (side_of output) sheet before after gave.disk;
  }

  -- one piece
  pub piece_stands : (sheet : Sheet) (content piece : List ℕ) (old new : SessionState) (before after : HostState) (random random' : WordsState) → Standing user output sheet content old → PieceWritten input (length content) piece old new before after random random'
      → (next : Sheet) × Standing user output next (content ++ piece) new × Went input user output sheet next (length content) (piece ∷ []) before after random random'
  piece_stands sheet content piece old new before after random random' stands wrote =
      let made = write_stands input user output sheet content wrote.written piece old new wrote.between after random random' stands wrote.wrote in (
        made.0,
        made.1,
        went_then input user output sheet sheet made.0 (length content) (piece ∷ []) [] before wrote.between after random random random' (gave_went sheet (length content) piece before wrote.between random wrote.gave)
            (made.2 (length content + length (concat (piece ∷ [])))),
      )

-- whole pieces
pub record AreStanding (input : Name) (user : List ℕ) (output : Name) (first : Sheet) (content : List ℕ) (new : SessionState) (before after : HostState) (random random' : WordsState) : Type 0 where
  pub pieces : List (List ℕ)
  pub sheet : Sheet
  pub together : concat pieces ≡ content
  pub are_whole : AllByRecursion (λ piece. length piece ≡ PIECE) pieces
  pub stands : Standing user output sheet content new
  pub went : Went input user output first sheet 0 pieces before after random random'

all_and : (P : List ℕ → Type 0) (xs : List (List ℕ)) (x : List ℕ) → AllByRecursion P xs → P x → AllByRecursion P (xs ++ x ∷ [])
all_and P [] x each has = (has, tt)
all_and P (y ∷ xs) x each has = (each.0, all_and P xs x each.1 has)

pub joined : (pieces : List (List ℕ)) (piece content : List ℕ) → concat pieces ≡ content → concat (pieces ++ piece ∷ []) ≡ content ++ piece
joined pieces piece content same = concat-append pieces (piece ∷ []) ∙ ap₂ (λ (a b : List ℕ). a ++ b) same (append-nil piece)

module _ (input : Name) (user : List ℕ) (output : Name) (first : Sheet) (old : SessionState) (before : HostState) (random : WordsState) (stands : Standing user output first [] old) where
  pub pieces_stand : (content : List ℕ) (new : SessionState) (after : HostState) (random' : WordsState) → PiecesWritten input old before random content new after random' → AreStanding input user output first content new before after random random'
  pieces_stand content new after random' (none_yet _ _ _ _ none same still words) = record {
    pieces = [];
    sheet = first;
    together = sym none;
    are_whole = tt;
    stands = subst (λ (s : SessionState). Standing user output first content s) (sym same) (subst (λ (l : List ℕ). Standing user output first l old) (sym none) stands);
    went = went_same input user output first 0 before after random random' still words;
  }
  pieces_stand content new after random' (one_more earlier piece _ mid _ between _ words _ so_far wrote full is) =
      let i = pieces_stand earlier mid between words so_far in
      let made = piece_stands input user output i.sheet earlier piece mid new between after words random' i.stands wrote in
      let place : length earlier ≡ 0 + length (concat i.pieces) = let same = ap (λ (l : List ℕ). length l) i.together in omega (arith, same) in
      record {
        pieces = i.pieces ++ piece ∷ [];
        sheet = made.0;
        together = joined i.pieces piece earlier i.together ∙ sym is;
        are_whole = all_and (λ piece. length piece ≡ PIECE) i.pieces piece i.are_whole full;
        stands = subst (λ (l : List ℕ). Standing user output made.0 l new) (sym is) made.1;
        went = went_then input user output first i.sheet made.0 0 i.pieces (piece ∷ []) before between after random words random' i.went (subst (λ (n : ℕ). Went input user output i.sheet made.0 n (piece ∷ []) between after words random') place made.2);
      }
