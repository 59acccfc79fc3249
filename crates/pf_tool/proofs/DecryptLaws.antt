-- What the answers, and what files, decide of `decrypt`.
use Rattle.std.proofs.Common.{◌≡◌, ◌⊎◌, inl, inr, ℕ, zero, suc, ◌+◌, ◌-◌, ◌<◌, min, List, [], ◌∷◌, ◌++◌, length, refl, ap, ap₂, ◌∙◌, sym, arith, subst, append_assoc, Option, Some, None, Result, Ok, Err}
use Rattle.std.specs.List.{AllByRecursion, concat}
use Rattle.std.proofs.lemmas.List.{append-nil}
use Rattle.node_layout.specs.Opening.{OpensTo}
use Rattle.node_layout.specs.Places.{node_count}
use Rattle.node_layout.specs.declared.damage.Damage.{Damage}
use Rattle.node_layout.specs.declared.metadata.MetaSecret.{MetaSecret}
use Rattle.node_layout.proofs.Secrets.{opens_to_one}
use Rattle.node_tree.specs.Opened.{NothingHeld, BlockOf, block_of}
use Rattle.node_tree.specs.Parts.{IsWhole, PIECE, ArePiecesFrom}
use Rattle.node_tree.proofs.Parting.{one_part}
use Rattle.pf_io.specs.Disk.{Name, Files}
use Rattle.pf_io.specs.Host.{Answer, LengthWas, Gave, contents}
use Rattle.pf_io.specs.Answered.{IsAnswerOf}
use Rattle.pf_io.proofs.Answering.{all_append}
use Rattle.pf_tool.specs.Events.{Event, Answers, Draws, Puts, answers_in, pieces_in, words_in, bytes_in}
use Rattle.pf_tool.specs.Endings.{Ending, Done, Damaged, Refused, BadName, NotFound, KeyFile}
use Rattle.pf_tool.specs.Keys.{IsKeyOf, KeyRefused, key_unnamed, key_absent, key_length, key_short, key_events, KeyOver}
use Rattle.pf_tool.specs.Decrypting.{end_of, ComesTo, node_refused, pieces_read, node_events, last_events, piece_events, Unseals, input_unnamed, input_absent, input_read, DecryptLeads, decrypt_key_refused, decrypt_key_read, DecryptOver, decrypt_no_key, decrypt_unnamed, decrypt_no_input, decrypt_file}
use Rattle.pf_session.specs.Opening.{IsOpenable}
use Rattle.pf_tool.proofs.Composing.{answers_then, words_then, pieces_then}
use Rattle.pf_tool.proofs.SameBlocks.{SameTo, same_sooner, same_whole}
use Rattle.pf_tool.proofs.Following.{range_events, own_nodes, nodes_same, all_split, length-whole}
use Rattle.pf_tool.proofs.OneFile.{comes_one, not_refused, refused_events, follow_file}
use Rattle.pf_tool.proofs.Growing.{only_file}
use Rattle.pf_tool.proofs.Fronts.{root_entry}
use Rattle.pf_tool.proofs.KeyOver.{there_of, absent_of, key_over_one, key_refused_over, key_read_over}

-- what is asked of nodes takes no word and puts nothing out
range_words : (input : Name) (file : List ℕ) (from n : ℕ) → words_in (range_events input file from n) ≡ []
range_words input file from zero = refl
range_words input file from (suc n) = range_words input file (from + 1) n

pub range_pieces : (input : Name) (file : List ℕ) (from n : ℕ) → pieces_in (range_events input file from n) ≡ []
range_pieces input file from zero = refl
range_pieces input file from (suc n) = range_pieces input file (from + 1) n

last_words : (input : Name) (file : List ℕ) (at : ℕ) (ending : Ending) → words_in (last_events input file at ending) ≡ []
last_words input file at Done = refl
last_words input file at (Damaged node kind) = range_words input file (node_count at) ((node + 1) - node_count at)
last_words input file at (Refused why) = refl

pub last_pieces : (input : Name) (file : List ℕ) (at : ℕ) (ending : Ending) → pieces_in (last_events input file at ending) ≡ []
last_pieces input file at Done = refl
last_pieces input file at (Damaged node kind) = range_pieces input file (node_count at) ((node + 1) - node_count at)
last_pieces input file at (Refused why) = refl

piece_words : (input : Name) (file : List ℕ) (at : ℕ) (pieces : List (List ℕ)) (ending : Ending) → words_in (piece_events input file at pieces ending) ≡ []
piece_words input file at [] ending = last_words input file at ending
piece_words input file at (piece ∷ pieces) ending =
    words_then (node_events input file (node_count at) (node_count (at + length piece))) (Puts piece ∷ piece_events input file (at + PIECE) pieces ending)
    ∙ ap₂ (λ (a b : List (List ℕ)). a ++ b) (range_words input file (node_count at) (node_count (at + length piece) - node_count at)) (piece_words input file (at + PIECE) pieces ending)

-- the pieces are those that are put out
pub pieces_out : (input : Name) (file : List ℕ) (at : ℕ) (pieces : List (List ℕ)) (ending : Ending) → pieces_in (piece_events input file at pieces ending) ≡ pieces
pieces_out input file at [] ending = last_pieces input file at ending
pieces_out input file at (piece ∷ pieces) ending =
    pieces_then (node_events input file (node_count at) (node_count (at + length piece))) (Puts piece ∷ piece_events input file (at + PIECE) pieces ending)
    ∙ ap₂ (λ (a b : List (List ℕ)). a ++ piece ∷ b) (range_pieces input file (node_count at) (node_count (at + length piece) - node_count at)) (pieces_out input file (at + PIECE) pieces ending)

-- the answers of a file are its own
own_last : (input : Name) (file : List ℕ) (at : ℕ) (ending : Ending) → AllByRecursion (IsAnswerOf (only_file file)) (answers_in (last_events input file at ending))
own_last input file at Done = tt
own_last input file at (Damaged node kind) = own_nodes input (only_file file) (node_count at) (node + 1)
own_last input file at (Refused why) = tt

own_pieces : (input : Name) (file : List ℕ) (at : ℕ) (pieces : List (List ℕ)) (ending : Ending) → AllByRecursion (IsAnswerOf (only_file file)) (answers_in (piece_events input file at pieces ending))
own_pieces input file at [] ending = own_last input file at ending
own_pieces input file at (piece ∷ pieces) ending =
    let nodes = node_events input file (node_count at) (node_count (at + length piece)) in
    subst (λ (l : List Answer). AllByRecursion (IsAnswerOf (only_file file)) l) (sym (answers_then nodes (Puts piece ∷ piece_events input file (at + PIECE) pieces ending)))
    (all_append (IsAnswerOf (only_file file)) (answers_in nodes) (answers_in (piece_events input file (at + PIECE) pieces ending)) (own_nodes input (only_file file) (node_count at) (node_count (at + length piece))) (own_pieces input file (at + PIECE) pieces ending))

-- a refusal of the key takes no word and puts nothing out
key_words : (key : Name) (es : List Event) (ending : Ending) → KeyRefused key es ending → words_in es ≡ []
key_words key es ending (key_unnamed u is ends) = ap (λ (l : List Event). words_in l) is
key_words key es ending (key_absent named is ends) = ap (λ (l : List Event). words_in l) is
key_words key es ending (key_length n named other is ends) = ap (λ (l : List Event). words_in l) is
key_words key es ending (key_short bytes named short is ends) = ap (λ (l : List Event). words_in l) is

pub key_pieces : (key : Name) (es : List Event) (ending : Ending) → KeyRefused key es ending → pieces_in es ≡ []
key_pieces key es ending (key_unnamed u is ends) = ap (λ (l : List Event). pieces_in l) is
key_pieces key es ending (key_absent named is ends) = ap (λ (l : List Event). pieces_in l) is
key_pieces key es ending (key_length n named other is ends) = ap (λ (l : List Event). pieces_in l) is
key_pieces key es ending (key_short bytes named short is ends) = ap (λ (l : List Event). pieces_in l) is

-- the refusal of a key by its answers
abbrev told_length : Answer → Option ℕ
told_length (LengthWas name length) = length
told_length answer = None

abbrev told_name : Answer → Name
told_name (LengthWas name length) = name
told_name answer = []

abbrev told_bytes : Answer → List ℕ
told_bytes (Gave name place room bytes) = bytes
told_bytes answer = []

abbrev by_length : Name → Option ℕ → Ending
by_length name (Some n) = Refused (KeyFile n)
by_length name None = Refused (NotFound name)

abbrev key_ending : List Answer → Ending
key_ending [] = Refused BadName
key_ending (a ∷ []) = by_length (told_name a) (told_length a)
key_ending (a ∷ b ∷ these) = Refused (KeyFile (length (told_bytes b)))

key_by : (key : Name) (es : List Event) (ending : Ending) → KeyRefused key es ending → ending ≡ key_ending (answers_in es)
key_by key es ending (key_unnamed u is ends) = ends ∙ ap (λ (l : List Event). key_ending (answers_in l)) (sym is)
key_by key es ending (key_absent named is ends) = ends ∙ ap (λ (l : List Event). key_ending (answers_in l)) (sym is)
key_by key es ending (key_length n named other is ends) = ends ∙ ap (λ (l : List Event). key_ending (answers_in l)) (sym is)
key_by key es ending (key_short bytes named short is ends) = ends ∙ ap (λ (l : List Event). key_ending (answers_in l)) (sym is)

-- a key that was read was not refused, whatever answers follow
pub key_apart : (key : Name) (es others : List Event) (e : Ending) (user : List ℕ) (rest : List Event) (more further : List Answer) → KeyRefused key es e → IsKeyOf key user → others ≡ key_events key user ++ rest → answers_in es ++ more ≡ answers_in others ++ further → ⊥
key_apart key es others e user rest more further refused has read same = apart refused where
  all : (these : List Event) → es ≡ these → answers_in these ++ more ≡ LengthWas key (Some 16) ∷ Gave key 0 16 user ∷ (answers_in rest ++ further)
  all these is = sym (ap (λ (l : List Event). answers_in l ++ more) is) ∙ same ∙ ap (λ (l : List Event). answers_in l ++ further) read

  apart : KeyRefused key es e → ⊥
  apart (key_unnamed u is ends) = u has.is_name
  apart (key_absent named is ends) =
      let whole : LengthWas key None ∷ more ≡ LengthWas key (Some 16) ∷ Gave key 0 16 user ∷ (answers_in rest ++ further) = all (Answers (LengthWas key None) ∷ []) is in
      absurd (cc)
  apart (key_length n named other is ends) =
      let whole : LengthWas key (Some n) ∷ more ≡ LengthWas key (Some 16) ∷ Gave key 0 16 user ∷ (answers_in rest ++ further) = all (Answers (LengthWas key (Some n)) ∷ []) is in
      let long : n ≡ 16 = cc in
      other long
  apart (key_short bytes named short is ends) =
      let whole : LengthWas key (Some 16) ∷ Gave key 0 16 bytes ∷ more ≡ LengthWas key (Some 16) ∷ Gave key 0 16 user ∷ (answers_in rest ++ further) = all (key_events key bytes) is in
      let alike : bytes ≡ user = cc in
      omega (arith, short, ap (λ (l : List ℕ). length l) alike, has.whole)

-- the same answers behind a key lead to one run, and so do those with more behind them
pub unseals_one : (user : List ℕ) (input : Name) (es others : List Event) (more : List Answer) (e f : Ending) → Unseals user input es e → Unseals user input others f → answers_in es ++ more ≡ answers_in others → (es ≡ others) × (e ≡ f)
unseals_one user input es others more e f (input_unnamed u is ends) (input_unnamed u2 is2 ends2) same = (is ∙ sym is2, ends ∙ sym ends2)
unseals_one user input es others more e f (input_unnamed u is ends) (input_absent target is2 ends2) same = absurd (u target)
unseals_one user input es others more e f (input_unnamed u is ends) (input_read size file pieces target comes is2) same = absurd (u target)
unseals_one user input es others more e f (input_absent target is ends) (input_unnamed u is2 ends2) same = absurd (u target)
unseals_one user input es others more e f (input_absent target is ends) (input_absent target2 is2 ends2) same = (is ∙ sym is2, ends ∙ sym ends2)
unseals_one user input es others more e f (input_absent target is ends) (input_read size file pieces target2 comes is2) same =
    let all : LengthWas input None ∷ more ≡ LengthWas input (Some size) ∷ Gave input 0 4096 (block_of file 0) ∷ answers_in (piece_events input file 0 pieces f) = sym (ap (λ (l : List Event). answers_in l ++ more) is) ∙ same ∙ ap (λ (l : List Event). answers_in l) is2 in
    absurd (cc)
unseals_one user input es others more e f (input_read size file pieces target comes is) (input_unnamed u is2 ends2) same = absurd (u target)
unseals_one user input es others more e f (input_read size file pieces target comes is) (input_absent target2 is2 ends2) same =
    let all : LengthWas input (Some size) ∷ Gave input 0 4096 (block_of file 0) ∷ (answers_in (piece_events input file 0 pieces e) ++ more) ≡ LengthWas input None ∷ [] = sym (ap (λ (l : List Event). answers_in l ++ more) is) ∙ same ∙ ap (λ (l : List Event). answers_in l) is2 in
    absurd (cc)
unseals_one user input es others more e f (input_read size file pieces target comes is) (input_read size2 file2 pieces2 target2 comes2 is2) same =
    let all : LengthWas input (Some size) ∷ Gave input 0 4096 (block_of file 0) ∷ (answers_in (piece_events input file 0 pieces e) ++ more) ≡ LengthWas input (Some size2) ∷ Gave input 0 4096 (block_of file2 0) ∷ answers_in (piece_events input file2 0 pieces2 f) =
    sym (ap (λ (l : List Event). answers_in l ++ more) is) ∙ same ∙ ap (λ (l : List Event). answers_in l) is2 in
    let sizes : size ≡ size2 = cc in
    let first : block_of file 0 ≡ block_of file2 0 = cc in
    let rest : answers_in (piece_events input file 0 pieces e) ++ more ≡ answers_in (piece_events input file2 0 pieces2 f) = cc in
    let own = all_split (IsAnswerOf (only_file file2)) (answers_in (piece_events input file 0 pieces e)) more (subst (λ (l : List Answer). AllByRecursion (IsAnswerOf (only_file file2)) l) (sym rest) (own_pieces input file2 0 pieces2 f)) in
    let there = follow_file user input (only_file file2) file pieces e comes first own.0 in
    let one = comes_one user file2 pieces pieces2 e f there.0 comes2 in (
      is ∙ ap₂ (λ (n : ℕ) (b : List ℕ). Answers (LengthWas input (Some n)) ∷ Answers (Gave input 0 4096 b) ∷ piece_events input file 0 pieces e) sizes first
          ∙ ap (λ (l : List Event). Answers (LengthWas input (Some size2)) ∷ Answers (Gave input 0 4096 (block_of file2 0)) ∷ l) (there.1 ∙ ap₂ (λ (ps : List (List ℕ)) (x : Ending). piece_events input file2 0 ps x) one.0 one.1) ∙ sym is2,
      one.1,
    )

-- a front of events that put nothing out puts nothing out, or has them all
pub split_front : (xs ys es more : List Event) → es ++ more ≡ xs ++ ys → pieces_in xs ≡ [] → (pieces_in es ≡ []) ⊎ ((rest : List Event) × (es ≡ xs ++ rest) × (rest ++ more ≡ ys))
split_front [] ys es more same none = inr (es, refl, same)
split_front (x ∷ xs) ys [] more same none = inl refl
split_front (Answers a ∷ xs) ys (e ∷ es) more same none =
    let first : e ≡ Answers a = cc in
    let rest : es ++ more ≡ xs ++ ys = cc in
    elim (split_front xs ys es more rest none) [
      | inl nothing ↦ inl (ap (λ (v : Event). pieces_in (v ∷ es)) first ∙ nothing)
      | inr (left, is, then) ↦ inr (left, ap₂ (λ (v : Event) (l : List Event). v ∷ l) first is, then)
    ]
split_front (Draws w ∷ xs) ys (e ∷ es) more same none =
    let first : e ≡ Draws w = cc in
    let rest : es ++ more ≡ xs ++ ys = cc in
    elim (split_front xs ys es more rest none) [
      | inl nothing ↦ inl (ap (λ (v : Event). pieces_in (v ∷ es)) first ∙ nothing)
      | inr (left, is, then) ↦ inr (left, ap₂ (λ (v : Event) (l : List Event). v ∷ l) first is, then)
    ]
split_front (Puts b ∷ xs) ys (e ∷ es) more same none = absurd (cc)

-- a front of what puts nothing out puts nothing out
pub front_silent : (es more all : List Event) → es ++ more ≡ all → pieces_in all ≡ [] → pieces_in es ≡ []
front_silent es more all same none = first (pieces_in es) (pieces_in more) (sym (pieces_then es more) ∙ ap (λ (l : List Event). pieces_in l) same ∙ none) where
  first : (xs ys : List (List ℕ)) → xs ++ ys ≡ [] → xs ≡ []
  first [] ys is = refl
  first (x ∷ xs) ys is = absurd (cc)

-- nothing was put out yet
took_none : (es : List Event) (pieces : List (List ℕ)) → pieces_in es ≡ [] → (rest : List ℕ) × (concat pieces ≡ bytes_in es ++ rest)
took_none es pieces none = (concat pieces, ap (λ (l : List (List ℕ)). concat l ++ concat pieces) (sym none))

part_ok : (a b : List ℕ) → ◌≡◌ {A = Result (List ℕ) Damage} (Ok a) (Ok b) → a ≡ b
part_ok a b same = cc

part_apart : (a : List ℕ) (b : Damage) → ◌≡◌ {A = Result (List ℕ) Damage} (Ok a) (Err b) → ⊥
part_apart a b same = cc

module _ (input : Name) (files : Files) (file : List ℕ) (secret : MetaSecret) where
  -- behind the nodes of a piece
  behind : (at : ℕ) (piece : List ℕ) (rest : List Event) (other : Option Damage) (es left more : List Event) → at < secret.size → IsWhole NothingHeld (BlockOf (contents (files input))) (root_entry secret) secret.first at (min PIECE (secret.size - at)) piece
      → (nodes : List Event) → pieces_in nodes ≡ [] → es ≡ nodes ++ left → left ++ more ≡ Puts piece ∷ rest
      → ((others : List (List ℕ)) (later : List Event) → es ≡ nodes ++ (Puts piece ∷ later) → later ++ more ≡ rest → ArePiecesFrom (contents (files input)) secret (at + PIECE) others other → (x : List ℕ) × (concat others ≡ bytes_in later ++ x))
      → (others : List (List ℕ)) → ArePiecesFrom (contents (files input)) secret at others other → (x : List ℕ) × (concat others ≡ bytes_in es ++ x)
  behind at piece rest other es [] more lt whole nodes none is then go others there = took_none es others (ap (λ (l : List Event). pieces_in l) is ∙ pieces_then nodes [] ∙ append-nil (pieces_in nodes) ∙ none)
  behind at piece rest None es (e ∷ left) more lt whole nodes none is then go [] there = absurd (omega (arith, lt, there))
  behind at piece rest (Some damage) es (e ∷ left) more lt whole nodes none is then go [] there = absurd (part_apart piece damage (one_part (contents (files input)) secret at (min PIECE (secret.size - at)) (Ok piece) (Err damage) whole there.1))
  behind at piece rest other es (e ∷ left) more lt whole nodes none is then go (q ∷ others) there =
      let put : e ≡ Puts piece = cc in
      let later : left ++ more ≡ rest = cc in
      let same : piece ≡ q = part_ok piece q (one_part (contents (files input)) secret at (min PIECE (secret.size - at)) (Ok piece) (Ok q) whole there.1) in
      let all : es ≡ nodes ++ (Puts piece ∷ left) = is ∙ ap (λ (v : Event). nodes ++ (v ∷ left)) put in
      let more_out = go others left all later there.2 in
      let out : pieces_in es ≡ piece ∷ pieces_in left = ap (λ (l : List Event). pieces_in l) all ∙ pieces_then nodes (Puts piece ∷ left) ∙ ap (λ (l : List (List ℕ)). l ++ (piece ∷ pieces_in left)) none in
      (more_out.0, ap₂ (λ (a b : List ℕ). a ++ b) (sym same) more_out.1 ∙ sym (append_assoc piece (bytes_in left) more_out.0) ∙ ap (λ (l : List (List ℕ)). concat l ++ more_out.0) (sym out))

  -- what was put out of a file that answered as another is a front of the other's pieces
  front_from : (at : ℕ) (pieces others : List (List ℕ)) (end other : Option Damage) (es more : List Event) → (at < secret.size → SameTo (node_count at) file (contents (files input))) → ArePiecesFrom file secret at pieces end → ArePiecesFrom (contents (files input)) secret at others other
      → es ++ more ≡ piece_events input file at pieces (end_of end) → AllByRecursion (IsAnswerOf files) (answers_in es) → (rest : List ℕ) × (concat others ≡ bytes_in es ++ rest)
  front_from at [] others end other es more before are are' same all = took_none es others (front_silent es more (last_events input file at (end_of end)) same (last_pieces input file at (end_of end)))
  front_from at (piece ∷ pieces) others end other es more before are are' same all =
      let n = min PIECE (secret.size - at) in
      let until = node_count (at + length piece) in
      let nodes = node_events input file (node_count at) until in
      let long : length piece ≡ n = length-whole NothingHeld (BlockOf file) (root_entry secret) secret.first at n piece are.1 in
      elim (split_front nodes (Puts piece ∷ piece_events input file (at + PIECE) pieces (end_of end)) es more same (range_pieces input file (node_count at) (until - node_count at))) [
        | inl none ↦ took_none es others none
        | inr (left, is, then) ↦
            let answers = all_split (IsAnswerOf files) (answers_in nodes) (answers_in left) (subst (λ (l : List Answer). AllByRecursion (IsAnswerOf files) l) (ap (λ (l : List Event). answers_in l) is ∙ answers_then nodes left) all) in
            let alike = nodes_same input files file secret (node_count at) until (before are.0) answers.0 in
            let whole = same_whole until file (contents (files input)) alike (root_entry secret) secret.first at n piece (omega (arith, ap (λ (m : ℕ). node_count (at + m)) long)) are.1 in
            behind at piece (piece_events input file (at + PIECE) pieces (end_of end)) other es left more are.0 whole nodes (range_pieces input file (node_count at) (until - node_count at)) is then
            (λ qs later es_are later_are there.
            front_from (at + PIECE) pieces qs end other later more
            (λ lt. same_sooner (node_count (at + PIECE)) until file (contents (files input)) (let full : length piece ≡ PIECE = omega (arith, long) in omega (arith, ap (λ (m : ℕ). node_count (at + m)) full)) alike)
            are.2 there later_are
            (all_split (IsAnswerOf files) (answers_in nodes) (answers_in later) (subst (λ (l : List Answer). AllByRecursion (IsAnswerOf files) l) (ap (λ (l : List Event). answers_in l) es_are ∙ answers_then nodes (Puts piece ∷ later)) all)).1)
            others are'
      ]

-- what was put out of a file is a front of what another comes to that answered the same
front_file : (user : List ℕ) (input : Name) (files : Files) (file : List ℕ) (pieces others : List (List ℕ)) (ending given : Ending) (es more : List Event) → ComesTo user file pieces ending → ComesTo user (contents (files input)) others given → block_of file 0 ≡ block_of (contents (files input)) 0
    → es ++ more ≡ piece_events input file 0 pieces ending → AllByRecursion (IsAnswerOf files) (answers_in es) → (rest : List ℕ) × (concat others ≡ bytes_in es ++ rest)
front_file user input files file pieces others ending given es more (node_refused refused none) gives first same all =
    took_none es others (front_silent es more (piece_events input file 0 pieces ending) same (ap (λ (l : List Event). pieces_in l) (refused_events user file pieces ending refused none input file)))
front_file user input files file pieces others ending given es more (pieces_read end whole are is) (node_refused refused none) first same all =
    absurd (not_refused user (block_of (contents (files input)) 0) given are.secret (subst IsOpenable first whole) (subst (λ (b : List ℕ). OpensTo user b are.secret) first are.opens_to) refused)
front_file user input files file pieces others ending given es more (pieces_read end whole are is) (pieces_read end2 whole2 are2 is2) first same all =
    let one = opens_to_one user (block_of (contents (files input)) 0) are2.secret are.secret are2.opens_to (subst (λ (b : List ℕ). OpensTo user b are.secret) first are.opens_to) in
    front_from input files file are.secret 0 pieces others end end2 es more (λ some k lt. let e : k ≡ 0 = omega arith in subst (λ (j : ℕ). block_of file j ≡ block_of (contents (files input)) j) (sym e) first) are.pieces_are
    (subst (λ (s : MetaSecret). ArePiecesFrom (contents (files input)) s 0 others end2) one are2.pieces_are) (same ∙ ap (λ (e : Ending). piece_events input file 0 pieces e) is) all

module _ (key input : Name) where
  pub decrypt_undrawn : (es : List Event) (ending : Ending) → DecryptLeads key input es ending → words_in es ≡ []
  decrypt_undrawn es ending (decrypt_key_refused refused) = key_words key es ending refused
  decrypt_undrawn es ending (decrypt_key_read user rest has is unseals) = ap (λ (l : List Event). words_in l) is ∙ behind_key unseals where
    behind_key : Unseals user input rest ending → words_in rest ≡ []
    behind_key (input_unnamed u are ends) = ap (λ (l : List Event). words_in l) are
    behind_key (input_absent target are ends) = ap (λ (l : List Event). words_in l) are
    behind_key (input_read size file pieces target comes are) = ap (λ (l : List Event). words_in l) are ∙ piece_words input file 0 pieces ending

  pub decrypt_silent : (ending other : Ending) (es : List Event) → DecryptLeads key input [] ending → DecryptLeads key input es other → (es ≡ []) × (ending ≡ other)
  decrypt_silent ending other es (decrypt_key_refused (key_unnamed u is ends)) (decrypt_key_refused (key_unnamed u2 is2 ends2)) = (is2, ends ∙ sym ends2)
  decrypt_silent ending other es (decrypt_key_refused (key_unnamed u is ends)) (decrypt_key_refused (key_absent named is2 ends2)) = absurd (u named)
  decrypt_silent ending other es (decrypt_key_refused (key_unnamed u is ends)) (decrypt_key_refused (key_length n named ne is2 ends2)) = absurd (u named)
  decrypt_silent ending other es (decrypt_key_refused (key_unnamed u is ends)) (decrypt_key_refused (key_short bytes named short is2 ends2)) = absurd (u named)
  decrypt_silent ending other es (decrypt_key_refused (key_unnamed u is ends)) (decrypt_key_read user rest has is2 unseals) = absurd (u has.is_name)
  decrypt_silent ending other es (decrypt_key_refused (key_absent named is ends)) second = absurd (cc)
  decrypt_silent ending other es (decrypt_key_refused (key_length n named ne is ends)) second = absurd (cc)
  decrypt_silent ending other es (decrypt_key_refused (key_short bytes named short is ends)) second = absurd (cc)
  decrypt_silent ending other es (decrypt_key_read user rest has is unseals) second = absurd (cc)

  pub decrypt_spoken : (ending : Ending) → DecryptLeads key input [] ending → ending ≡ Refused BadName
  decrypt_spoken ending (decrypt_key_refused (key_unnamed u is ends)) = ends
  decrypt_spoken ending (decrypt_key_refused (key_absent named is ends)) = absurd (cc)
  decrypt_spoken ending (decrypt_key_refused (key_length n named ne is ends)) = absurd (cc)
  decrypt_spoken ending (decrypt_key_refused (key_short bytes named short is ends)) = absurd (cc)
  decrypt_spoken ending (decrypt_key_read user rest has is unseals) = absurd (cc)

  -- the same answers lead to one run
  pub decrypt_one : (es others : List Event) (ending other : Ending) → DecryptLeads key input es ending → DecryptLeads key input others other → answers_in es ≡ answers_in others → ending ≡ other
  decrypt_one es others ending other (decrypt_key_refused refused) (decrypt_key_refused refused2) same = key_by key es ending refused ∙ ap key_ending same ∙ sym (key_by key others other refused2)
  decrypt_one es others ending other (decrypt_key_refused refused) (decrypt_key_read user rest has is unseals) same = absurd (key_apart key es others ending user rest [] [] refused has is (ap (λ (l : List Answer). l ++ []) same))
  decrypt_one es others ending other (decrypt_key_read user rest has is unseals) (decrypt_key_refused refused) same = absurd (key_apart key others es other user rest [] [] refused has is (ap (λ (l : List Answer). l ++ []) (sym same)))
  decrypt_one es others ending other (decrypt_key_read user rest has is unseals) (decrypt_key_read user2 rest2 has2 is2 unseals2) same =
      let all : LengthWas key (Some 16) ∷ Gave key 0 16 user ∷ answers_in rest ≡ LengthWas key (Some 16) ∷ Gave key 0 16 user2 ∷ answers_in rest2 = sym (ap (λ (l : List Event). answers_in l) is) ∙ same ∙ ap (λ (l : List Event). answers_in l) is2 in
      let one : user2 ≡ user = cc in
      let more : answers_in rest ≡ answers_in rest2 = cc in
      (unseals_one user input rest rest2 [] ending other unseals (subst (λ (u : List ℕ). Unseals u input rest2 other) one unseals2) (append-nil (answers_in rest) ∙ more)).1

  module _ (files : Files) where
    unseals_over : (user : List ℕ) (es : List Event) (ending : Ending) → KeyOver files key (Ok user) → Unseals user input es ending → AllByRecursion (IsAnswerOf files) (answers_in es) → DecryptOver key input files (pieces_in es) ending
    unseals_over user es ending over (input_unnamed u is ends) all = decrypt_unnamed user over u (ap (λ (l : List Event). pieces_in l) is) ends
    unseals_over user es ending over (input_absent target is ends) all =
        let answers : AllByRecursion (IsAnswerOf files) (LengthWas input None ∷ []) = subst (λ (l : List Event). AllByRecursion (IsAnswerOf files) (answers_in l)) is all in
        decrypt_no_input user over target (absent_of (files input) answers.0) (ap (λ (l : List Event). pieces_in l) is) ends
    unseals_over user es ending over (input_read size file pieces target comes is) all =
        let answers : AllByRecursion (IsAnswerOf files) (LengthWas input (Some size) ∷ Gave input 0 4096 (block_of file 0) ∷ answers_in (piece_events input file 0 pieces ending)) = subst (λ (l : List Event). AllByRecursion (IsAnswerOf files) (answers_in l)) is all in
        let there = there_of (files input) size answers.0 in
        let followed = follow_file user input files file pieces ending comes answers.1.0 answers.1.1 in
        let out : pieces_in es ≡ pieces = ap (λ (l : List Event). pieces_in l) is ∙ pieces_out input file 0 pieces ending in
        decrypt_file user there.0 over target there.1
        (subst (λ (o : Option (List ℕ)). ComesTo user (contents o) (pieces_in es) ending) there.1 (subst (λ (ps : List (List ℕ)). ComesTo user (contents (files input)) ps ending) (sym out) followed.0))

    pub decrypt_over : (es : List Event) (ending : Ending) → DecryptLeads key input es ending → AllByRecursion (IsAnswerOf files) (answers_in es) → DecryptOver key input files (pieces_in es) ending
    decrypt_over es ending (decrypt_key_refused refused) all = decrypt_no_key (key_refused_over files key es ending refused all) (key_pieces key es ending refused)
    decrypt_over es ending (decrypt_key_read user rest has is unseals) all =
        let answers : AllByRecursion (IsAnswerOf files) (LengthWas key (Some 16) ∷ Gave key 0 16 user ∷ answers_in rest) = subst (λ (l : List Event). AllByRecursion (IsAnswerOf files) (answers_in l)) is all in
        subst (λ (ps : List (List ℕ)). DecryptOver key input files ps ending) (ap (λ (l : List Event). pieces_in l) (sym is)) (unseals_over user rest ending (key_read_over files key user (answers_in rest) has answers) unseals answers.1.1)

    -- behind the key
    unseals_front : (user : List ℕ) (es more : List Event) (ending given : Ending) (pieces : List (List ℕ)) → KeyOver files key (Ok user) → Unseals user input (es ++ more) ending → AllByRecursion (IsAnswerOf files) (answers_in es) → DecryptOver key input files pieces given
        → (rest : List ℕ) × (concat pieces ≡ bytes_in es ++ rest)
    unseals_front user es more ending given pieces over (input_unnamed u is ends) all gives = took_none es pieces (front_silent es more [] is refl)
    unseals_front user es more ending given pieces over (input_absent target is ends) all gives = took_none es pieces (front_silent es more (Answers (LengthWas input None) ∷ []) is refl)
    unseals_front user es more ending given pieces over (input_read size file qs target comes is) all gives =
        elim (split_front (Answers (LengthWas input (Some size)) ∷ Answers (Gave input 0 4096 (block_of file 0)) ∷ []) (piece_events input file 0 qs ending) es more is refl) [
          | inl none ↦ took_none es pieces none
          | inr (left, are, then) ↦
              let answers : AllByRecursion (IsAnswerOf files) (LengthWas input (Some size) ∷ Gave input 0 4096 (block_of file 0) ∷ answers_in left) = subst (λ (l : List Event). AllByRecursion (IsAnswerOf files) (answers_in l)) are all in
              let there = there_of (files input) size answers.0 in
              let here = the_file there.0 there.1 gives in
              let front = front_file user input files file qs pieces ending given left more comes here answers.1.0 then answers.1.1 in
              (front.0, front.1 ∙ ap (λ (l : List Event). bytes_in l ++ front.0) (sym are))
        ] where
          the_file : (bytes : List ℕ) → files input ≡ Some bytes → DecryptOver key input files pieces given → ComesTo user (contents (files input)) pieces given
          the_file bytes there (decrypt_no_key none nothing) = let same = key_over_one files key (Ok user) (Err given) over none in absurd (cc)
          the_file bytes there (decrypt_unnamed user2 over2 u nothing ends) = absurd (u target)
          the_file bytes there (decrypt_no_input user2 over2 target2 absent nothing ends) = absurd (cc)
          the_file bytes there (decrypt_file user2 bytes2 over2 target2 there2 comes2) =
              let same = key_over_one files key (Ok user2) (Ok user) over2 over in
              let one : user2 ≡ user = cc in
              subst (λ (o : Option (List ℕ)). ComesTo user (contents o) pieces given) (sym there2) (subst (λ (v : List ℕ). ComesTo v bytes2 pieces given) one comes2)

    pub decrypt_front : (es more : List Event) (ending given : Ending) (pieces : List (List ℕ)) → DecryptLeads key input (es ++ more) ending → AllByRecursion (IsAnswerOf files) (answers_in es) → DecryptOver key input files pieces given
        → (rest : List ℕ) × (concat pieces ≡ bytes_in es ++ rest)
    decrypt_front es more ending given pieces (decrypt_key_refused refused) all gives = took_none es pieces (front_silent es more (es ++ more) refl (key_pieces key (es ++ more) ending refused))
    decrypt_front es more ending given pieces (decrypt_key_read user rest has is unseals) all gives =
        elim (split_front (key_events key user) rest es more is refl) [
          | inl none ↦ took_none es pieces none
          | inr (left, are, then) ↦
              let answers : AllByRecursion (IsAnswerOf files) (LengthWas key (Some 16) ∷ Gave key 0 16 user ∷ answers_in left) = subst (λ (l : List Event). AllByRecursion (IsAnswerOf files) (answers_in l)) are all in
              let front = unseals_front user left more ending given pieces (key_read_over files key user (answers_in left) has answers) (subst (λ (l : List Event). Unseals user input l ending) (sym then) unseals) answers.1.1 gives in
              (front.0, front.1 ∙ ap (λ (l : List Event). bytes_in l ++ front.0) (sym are))
        ]

    pub decrypt_over_one : (pieces others : List (List ℕ)) (ending other : Ending) → DecryptOver key input files pieces ending → DecryptOver key input files others other → (pieces ≡ others) × (ending ≡ other)
    decrypt_over_one pieces others e f (decrypt_no_key none nothing) (decrypt_no_key none2 nothing2) = let same = key_over_one files key (Err e) (Err f) none none2 in (nothing ∙ sym nothing2, cc)
    decrypt_over_one pieces others e f (decrypt_no_key none nothing) (decrypt_unnamed user over u nothing2 ends) = let same = key_over_one files key (Err e) (Ok user) none over in absurd (cc)
    decrypt_over_one pieces others e f (decrypt_no_key none nothing) (decrypt_no_input user over target absent nothing2 ends) = let same = key_over_one files key (Err e) (Ok user) none over in absurd (cc)
    decrypt_over_one pieces others e f (decrypt_no_key none nothing) (decrypt_file user bytes over target there comes) = let same = key_over_one files key (Err e) (Ok user) none over in absurd (cc)
    decrypt_over_one pieces others e f (decrypt_unnamed user over u nothing ends) (decrypt_no_key none nothing2) = let same = key_over_one files key (Err f) (Ok user) none over in absurd (cc)
    decrypt_over_one pieces others e f (decrypt_unnamed user over u nothing ends) (decrypt_unnamed user2 over2 u2 nothing2 ends2) = (nothing ∙ sym nothing2, ends ∙ sym ends2)
    decrypt_over_one pieces others e f (decrypt_unnamed user over u nothing ends) (decrypt_no_input user2 over2 target absent nothing2 ends2) = absurd (u target)
    decrypt_over_one pieces others e f (decrypt_unnamed user over u nothing ends) (decrypt_file user2 bytes over2 target there comes) = absurd (u target)
    decrypt_over_one pieces others e f (decrypt_no_input user over target absent nothing ends) (decrypt_no_key none nothing2) = let same = key_over_one files key (Err f) (Ok user) none over in absurd (cc)
    decrypt_over_one pieces others e f (decrypt_no_input user over target absent nothing ends) (decrypt_unnamed user2 over2 u nothing2 ends2) = absurd (u target)
    decrypt_over_one pieces others e f (decrypt_no_input user over target absent nothing ends) (decrypt_no_input user2 over2 target2 absent2 nothing2 ends2) = (nothing ∙ sym nothing2, ends ∙ sym ends2)
    decrypt_over_one pieces others e f (decrypt_no_input user over target absent nothing ends) (decrypt_file user2 bytes over2 target2 there comes) = absurd (cc)
    decrypt_over_one pieces others e f (decrypt_file user bytes over target there comes) (decrypt_no_key none nothing) = let same = key_over_one files key (Err f) (Ok user) none over in absurd (cc)
    decrypt_over_one pieces others e f (decrypt_file user bytes over target there comes) (decrypt_unnamed user2 over2 u nothing ends) = absurd (u target)
    decrypt_over_one pieces others e f (decrypt_file user bytes over target there comes) (decrypt_no_input user2 over2 target2 absent nothing ends) = absurd (cc)
    decrypt_over_one pieces others e f (decrypt_file user bytes over target there comes) (decrypt_file user2 bytes2 over2 target2 there2 comes2) =
        let same = key_over_one files key (Ok user2) (Ok user) over2 over in
        let one : user2 ≡ user = cc in
        let file : bytes2 ≡ bytes = cc in
        comes_one user bytes pieces others e f comes (subst (λ (b : List ℕ). ComesTo user b others f) file (subst (λ (v : List ℕ). ComesTo v bytes2 others f) one comes2))
