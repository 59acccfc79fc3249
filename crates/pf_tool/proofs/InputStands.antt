-- All of an input that was given and written: it is what the file has, and the session stands on a sheet of it.
use Rattle.std.proofs.Common.{◌≡◌, ◌≢◌, ℕ, ◌+◌, ◌<◌, ◌≤◌, List, [], ◌∷◌, ◌++◌, length, take, drop, refl, sym, ap, ap₂, subst, ◌∙◌, arith, length-append, length-take, Option, Some, None, IfSome, option_map}
use Rattle.std.specs.List.{AllByRecursion, concat}
use Rattle.std.proofs.Math.Seq.{take-add}
use Rattle.std.proofs.lemmas.List.{take_min, take_all, take-append-drop}
use Rattle.std.proofs.lemmas.Option.{IfSome_then}
use Rattle.node_layout.specs.Places.{node_count}
use Rattle.node_tree.specs.Parts.{PIECE}
use Rattle.node_tree.specs.Sheet.{Sheet}
use Rattle.pf_io.specs.Disk.{Name, File, Files, reading, read_of}
use Rattle.pf_io.specs.Host.{HostState, Both, OnHonest, files_of, contents}
use Rattle.pf_io.specs.Moments.{Honest, Ran}
use Rattle.pf_io.specs.Names.{side_of}
use Rattle.pf_io.specs.Steps.{KeepsOthers}
use Rattle.pf_io.specs.Words.{WordsState}
use Rattle.pf_session.specs.Aside.{LeavesOthers}
use Rattle.pf_session.specs.Creating.{empty_sheet}
use Rattle.pf_session.specs.Restored.{KeepsBeside}
use Rattle.pf_session.specs.State.{SessionState}
use Rattle.pf_tool.specs.SealingInput.{GavePiece, PiecesWritten, none_yet, one_more, InputWritten}
use Rattle.pf_tool.proofs.SheetWrites.{Standing, Went, went_then}
use Rattle.pf_tool.proofs.PiecesStand.{pieces_stand, piece_stands, joined}
use Rattle.pf_tool.proofs.SessionBegun.{Begun}

-- what a read of another name gives is as before
alone_at : (output input : Name) (Q : Option (List ℕ) → Type 0) (o p : Option Honest) → input ≢ side_of output → Both o p (Ran (LeavesOthers (side_of output)) (KeepsOthers (side_of output)))
    → IfSome (option_map (λ (h : Honest). reading h.now) p) (λ files. Q (files input)) → IfSome (option_map (λ (h : Honest). reading h.now) o) (λ files. Q (files input))
alone_at output input Q (Some a) (Some b) ne ran q = subst (λ (f : Option File). Q (read_of f)) (ran.ends input ne) q
alone_at output input Q None None ne ran q = tt
alone_at output input Q (Some a) None ne ran q = absurd ran
alone_at output input Q None (Some b) ne ran q = absurd ran

pub alone_read : (output input : Name) (Q : Option (List ℕ) → Type 0) (before after : HostState) → input ≢ side_of output → KeepsBeside output before after → OnHonest after (λ files. Q (files input)) → OnHonest before (λ files. Q (files input))
alone_read output input Q before after ne alone q = alone_at output input Q before.honest after.honest ne alone q

pub honest_both : (P Q R : Files → Type 0) (o : Option Files) → IfSome o P → IfSome o Q → ((files : Files) → P files → Q files → R files) → IfSome o R
honest_both P Q R (Some files) p q go = go files p q
honest_both P Q R None p q go = tt

-- a part of a file, as far as the room and the file reach
part_length : (n : ℕ) (ys file : List ℕ) → ys ≡ take n file → take (length ys) file ≡ ys
part_length n ys file is = ap (λ (k : ℕ). take k file) (ap (λ (l : List ℕ). length l) is ∙ length-take n file) ∙ take_min n file ∙ sym is

pub part_join : (n : ℕ) (xs ys file : List ℕ) → xs ≡ take (length xs) file → ys ≡ take n (drop (length xs) file) → xs ++ ys ≡ take (length (xs ++ ys)) file
part_join n xs ys file front behind =
    sym (ap (λ (k : ℕ). take k file) (length-append xs ys) ∙ take-add (length xs) (length ys) file ∙ ap₂ (λ (a b : List ℕ). a ++ b) (sym front) (part_length n ys (drop (length xs) file) behind))

part_ends : (n : ℕ) (xs ys file : List ℕ) → xs ≡ take (length xs) file → ys ≡ take n (drop (length xs) file) → length ys < n → xs ++ ys ≡ file
part_ends n xs ys file front behind short =
    let rest = drop (length xs) file in
    let few : length rest ≤ n = let long = ap (λ (l : List ℕ). length l) behind in omega (arith, long, length-take n rest, short) in
    ap₂ (λ (a b : List ℕ). a ++ b) front (behind ∙ take_all n rest few) ∙ take-append-drop (length xs) file

-- a session that was begun stands on the version of an empty content
pub begun_stands : (user : List ℕ) (output : Name) (session : SessionState) (before after : HostState) (random random' : WordsState) → (begun : Begun user output session before after random random') → Standing user output (empty_sheet output begun.nonce) [] session
begun_stands user output session before after random random' begun =
    let is = begun.session_is in
    let on = begun.is_fresh.stands in
    record {
      key_is = ap (λ (s : SessionState). s.key) is;
      name_is = ap (λ (s : SessionState). s.name) is;
      path_is = ap (λ (s : SessionState). s.path) is;
      drawn_is = ap (λ (s : SessionState). s.drawn) is;
      beside_is = ap (λ (s : SessionState). s.beside) is;
      linked = begun.is_fresh.linked;
      backed = on.backed;
      now_is = on.now_is;
      size_is = ap (λ (s : SessionState). s.tree.size) is;
      holds = λ k low live. absurd (let size = ap (λ (s : SessionState). node_count s.tree.size) is in omega (arith, low, live, size));
    }

-- all of an input
pub record IsCopied (input : Name) (user : List ℕ) (output : Name) (first : Sheet) (content : List ℕ) (new : SessionState) (before after : HostState) (random random' : WordsState) : Type 0 where
  pub whole : List (List ℕ)
  pub last : List ℕ
  pub sheet : Sheet
  pub are_whole : AllByRecursion (λ piece. length piece ≡ PIECE) whole
  pub short : length last < PIECE
  pub together : concat (whole ++ last ∷ []) ≡ content
  pub stands : Standing user output sheet content new
  pub went : Went input user output first sheet 0 (whole ++ last ∷ []) before after random random'

module _ (input : Name) (user : List ℕ) (output : Name) (first : Sheet) (old : SessionState) (before : HostState) (random : WordsState) (stands : Standing user output first [] old) where
  pub is_copied : (content : List ℕ) (new : SessionState) (after : HostState) (random' : WordsState) → InputWritten input content old new before after random random' → IsCopied input user output first content new before after random random'
  is_copied content new after random' all =
      let i = pieces_stand input user output first old before random stands all.earlier all.mid all.between all.words all.whole in
      let made = piece_stands input user output i.sheet all.earlier all.last all.mid new all.between after all.words random' i.stands all.wrote in
      let place : length all.earlier ≡ 0 + length (concat i.pieces) = let same = ap (λ (l : List ℕ). length l) i.together in omega (arith, same) in
      record {
        whole = i.pieces;
        last = all.last;
        sheet = made.0;
        are_whole = i.are_whole;
        short = all.short;
        together = joined i.pieces all.last all.earlier i.together ∙ sym all.content_is;
        stands = subst (λ (l : List ℕ). Standing user output made.0 l new) (sym all.content_is) made.1;
        went = went_then input user output first i.sheet made.0 0 i.pieces (all.last ∷ []) before all.between after random all.words random' i.went
            (subst (λ (n : ℕ). Went input user output i.sheet made.0 n (all.last ∷ []) all.between after all.words random') place made.2);
      }

  -- what the file had when the session was begun
  module _ (ne : input ≢ side_of output) where
    pub gave_of : (at : ℕ) (piece : List ℕ) (mid given : HostState) → KeepsBeside output before mid → GavePiece input at piece mid given → OnHonest before (λ files. piece ≡ take PIECE (drop at (contents (files input))))
    gave_of at piece mid given alone gave =
        alone_read output input (λ file. piece ≡ take PIECE (drop at (contents file))) before mid ne alone (IfSome_then (files_of mid) gave.passed.honest (λ (f : Files) all. all.0))

    pub pieces_of : (content : List ℕ) (new : SessionState) (after : HostState) (random' : WordsState) → PiecesWritten input old before random content new after random' → OnHonest before (λ files. content ≡ take (length content) (contents (files input)))
    pieces_of content new after random' (none_yet _ _ _ _ none same still words) = for_all (files_of before) where
      for_all : (o : Option Files) → IfSome o (λ files. content ≡ take (length content) (contents (files input)))
      for_all (Some files) = subst (λ (l : List ℕ). l ≡ take (length l) (contents (files input))) (sym none) refl
      for_all None = tt
    pieces_of content new after random' (one_more earlier piece _ mid _ between _ words _ so_far wrote full is) =
        let i = pieces_stand input user output first old before random stands earlier mid between words so_far in
        honest_both (λ files. earlier ≡ take (length earlier) (contents (files input))) (λ files. piece ≡ take PIECE (drop (length earlier) (contents (files input)))) (λ files. content ≡ take (length content) (contents (files input)))
        (files_of before) (pieces_of earlier mid between words so_far) (gave_of (length earlier) piece between wrote.between i.went.alone wrote.gave)
        (λ files front behind. subst (λ (l : List ℕ). l ≡ take (length l) (contents (files input))) (sym is) (part_join PIECE earlier piece (contents (files input)) front behind))

    pub input_of : (content : List ℕ) (new : SessionState) (after : HostState) (random' : WordsState) → InputWritten input content old new before after random random' → OnHonest before (λ files. content ≡ contents (files input))
    input_of content new after random' all =
        let i = pieces_stand input user output first old before random stands all.earlier all.mid all.between all.words all.whole in
        honest_both (λ files. all.earlier ≡ take (length all.earlier) (contents (files input))) (λ files. all.last ≡ take PIECE (drop (length all.earlier) (contents (files input)))) (λ files. content ≡ contents (files input))
        (files_of before) (pieces_of all.earlier all.mid all.between all.words all.whole) (gave_of (length all.earlier) all.last all.between all.wrote.between i.went.alone all.wrote.gave)
        (λ files front behind. all.content_is ∙ part_ends PIECE all.earlier all.last (contents (files input)) front behind all.short)
