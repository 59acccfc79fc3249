-- No event is behind the answers that lead to a refusal or a damage.
use Rattle.std.proofs.Common.{◌≡◌, ◌≢◌, inl, inr, ⊎_elim, ℕ, zero, suc, ◌+◌, ◌-◌, ◌*◌, ◌<◌, ◌≤◌, min, List, [], ◌∷◌, ◌++◌, length, ap, ◌∙◌, sym, arith, subst, append_assoc, Some, None, Result, Ok, Err}
use Rattle.std.proofs.lemmas.Bool.{cases_lt}
use Rattle.std.proofs.lemmas.List.{append-nil, append_cancel_left}
use Rattle.node_layout.specs.Places.{node_count}
use Rattle.node_layout.specs.declared.damage.Damage.{Damage}
use Rattle.node_layout.specs.declared.metadata.MetaSecret.{MetaSecret}
use Rattle.node_tree.specs.Opened.{NothingHeld, BlockOf, block_of}
use Rattle.node_tree.specs.Parts.{IsWhole, IsBroken, PIECE, ArePiecesFrom}
use Rattle.node_tree.proofs.Lively.{touched_low}
use Rattle.node_tree.proofs.Parting.{one_part}
use Rattle.pf_io.specs.Disk.{Name}
use Rattle.pf_io.specs.Host.{Answer, LengthWas, Gave}
use Rattle.pf_tool.specs.Events.{Event, Answers, Draws, Puts, answers_in}
use Rattle.pf_tool.specs.Endings.{Ending, Done}
use Rattle.pf_tool.specs.Keys.{KeyRefused, key_unnamed, key_absent, key_length, key_short, key_events}
use Rattle.pf_tool.specs.Decrypting.{end_of, ComesTo, node_refused, pieces_read, node_events, piece_events, Unseals, input_unnamed, input_absent, input_read, DecryptLeads, decrypt_key_refused, decrypt_key_read}
use Rattle.pf_tool.specs.Encrypting as encrypting
use Rattle.pf_tool.specs.Encrypting.{EncryptRefused, no_key, names_unfit}
use Rattle.pf_tool.proofs.Following.{range_events}
use Rattle.pf_tool.proofs.OneFile.{refused_events}
use Rattle.pf_tool.proofs.Fronts.{root_entry, AreOpen, whole_next}
use Rattle.pf_tool.proofs.Numbered.{touched_between}
use Rattle.pf_tool.proofs.DecryptLaws.{key_apart, unseals_one}

-- the last event is an answer, or there is none
abbrev IsAnswer : Event → Type 0
IsAnswer (Answers answer) = Unit {0}
IsAnswer (Draws word) = ⊥
IsAnswer (Puts bytes) = ⊥

abbrev pub EndsAnswered : List Event → Type 0
EndsAnswered [] = Unit {0}
EndsAnswered (event ∷ []) = IsAnswer event
EndsAnswered (event ∷ next ∷ events) = EndsAnswered (next ∷ events)

alone_answered : (event : Event) (rest : List Event) → EndsAnswered (event ∷ rest) → answers_in (event ∷ rest) ≡ [] → ⊥
alone_answered (Answers answer) rest ends none = absurd (cc)
alone_answered (Draws word) [] ends none = ends
alone_answered (Draws word) (next ∷ rest) ends none = alone_answered next rest ends none
alone_answered (Puts bytes) [] ends none = ends
alone_answered (Puts bytes) (next ∷ rest) ends none = alone_answered next rest ends none

-- so events behind others have an answer
pub has_answer : (es : List Event) (event : Event) (rest : List Event) → EndsAnswered (es ++ event ∷ rest) → answers_in (event ∷ rest) ≡ [] → ⊥
has_answer [] event rest ends none = alone_answered event rest ends none
has_answer (e ∷ []) event rest ends none = alone_answered event rest ends none
has_answer (e ∷ f ∷ es) event rest ends none = has_answer (f ∷ es) event rest ends none

answered_behind : (xs : List Event) (event : Event) (ys : List Event) → EndsAnswered (event ∷ ys) → EndsAnswered (xs ++ event ∷ ys)
answered_behind [] event ys ends = ends
answered_behind (x ∷ []) event ys ends = ends
answered_behind (x ∷ y ∷ xs) event ys ends = answered_behind (y ∷ xs) event ys ends

range_answered : (input : Name) (file : List ℕ) (from n : ℕ) → EndsAnswered (range_events input file from (suc n))
range_answered input file from zero = tt
range_answered input file from (suc n) = range_answered input file (from + 1) n

nodes_answered : (input : Name) (file : List ℕ) (from to : ℕ) → from < to → (xs : List Event) → EndsAnswered (xs ++ node_events input file from to)
nodes_answered input file from to some xs =
    let m = to - from - 1 in
    let is : to - from ≡ suc m = omega arith in
    subst (λ (n : ℕ). EndsAnswered (xs ++ range_events input file from n)) (sym is) (answered_behind xs (Answers (Gave input (4096 * from) 4096 (block_of file from))) (range_events input file (from + 1) m) (range_answered input file from m))

module _ (file : List ℕ) (secret : MetaSecret) where
  -- behind a whole piece more nodes open
  open_more : (at n : ℕ) (piece : List ℕ) → 0 < n → AreOpen secret file (node_count at) → IsWhole NothingHeld (BlockOf file) (root_entry secret) secret.first at n piece → AreOpen secret file (node_count (at + n))
  open_more at n piece some opens whole k low high =
      elim (cases_lt k (node_count at)) [
        | inl below ↦ opens k low below
        | inr not_below ↦ (whole.plain k, whole.each k (touched_between at (at + n) k (omega arith) not_below high))
      ]

  apart : (piece : List ℕ) (damage : Damage) → ◌≡◌ {A = Result (List ℕ) Damage} (Ok piece) (Err damage) → ⊥
  apart piece damage same = cc

  -- the damaged node is none of those before the piece
  damage_behind : (at n : ℕ) (damage : Damage) → AreOpen secret file (node_count at) → IsBroken NothingHeld (BlockOf file) (root_entry secret) at n damage → node_count at ≤ damage.node
  damage_behind at n damage opens broken =
      elim (cases_lt damage.node (node_count at)) [
        | inr not_below ↦ not_below
        | inl below ↦
            let low = touched_low at (at + n) damage.node broken.touched in
            let before : node_count (0 + at) ≤ node_count at = omega arith in
            let whole = whole_next secret file (node_count at) opens 0 at before in
            let sooner : IsBroken NothingHeld (BlockOf file) (root_entry secret) 0 at damage = record {
              touched = touched_between 0 (0 + at) damage.node (omega (arith, low, below)) (omega (arith, low)) (omega (arith, below));
              before = λ k touched lt. opens k (touched_low 0 (0 + at) k touched) (omega (arith, lt, below));
              fails = broken.fails;
            } in
            absurd (apart whole.0 damage (one_part file secret 0 at (Ok whole.0) (Err damage) whole.1 sooner))
      ]

  pieces_answered : (input : Name) (at : ℕ) (pieces : List (List ℕ)) (damage : Damage) → (at < secret.size → AreOpen secret file (node_count at)) → ArePiecesFrom file secret at pieces (Some damage)
      → (xs : List Event) → EndsAnswered (xs ++ piece_events input file at pieces (end_of (Some damage)))
  pieces_answered input at [] damage opens are xs =
      let behind = damage_behind at (min PIECE (secret.size - at)) damage (opens are.0) are.1 in
      nodes_answered input file (node_count at) (damage.node + 1) (omega (arith, behind)) xs
  pieces_answered input at (piece ∷ pieces) damage opens are xs =
      let n = min PIECE (secret.size - at) in
      let some : 0 < n = let lt = are.0 in omega arith in
      let nodes = node_events input file (node_count at) (node_count (at + length piece)) in
      let rest = piece_events input file (at + PIECE) pieces (end_of (Some damage)) in
      let joined : (xs ++ (nodes ++ Puts piece ∷ [])) ++ rest ≡ xs ++ (nodes ++ Puts piece ∷ rest) = simp append_assoc in
      subst EndsAnswered joined
      (pieces_answered input (at + PIECE) pieces damage
      (λ more. let full : n ≡ PIECE = omega (arith, more) in subst (λ (m : ℕ). AreOpen secret file (node_count (at + m))) full (open_more at n piece some (opens are.0) are.1)) are.2 (xs ++ (nodes ++ Puts piece ∷ [])))

comes_answered : (user : List ℕ) (input : Name) (file : List ℕ) (pieces : List (List ℕ)) (ending : Ending) → ComesTo user file pieces ending → ending ≢ Done → (xs : List Event) (answer : Answer) → EndsAnswered (xs ++ Answers answer ∷ piece_events input file 0 pieces ending)
comes_answered user input file pieces ending (node_refused refused none) other xs answer =
    subst (λ (l : List Event). EndsAnswered (xs ++ Answers answer ∷ l)) (sym (refused_events user file pieces ending refused none input file)) (answered_behind xs (Answers answer) [] tt)
comes_answered user input file pieces ending (pieces_read None whole are is) other xs answer = absurd (other is)
comes_answered user input file pieces ending (pieces_read (Some damage) whole are is) other xs answer =
    let joined : (xs ++ Answers answer ∷ []) ++ piece_events input file 0 pieces (end_of (Some damage)) ≡ xs ++ Answers answer ∷ piece_events input file 0 pieces (end_of (Some damage)) = simp append_assoc in
    subst (λ (e : Ending). EndsAnswered (xs ++ Answers answer ∷ piece_events input file 0 pieces e)) (sym is)
    (subst EndsAnswered joined (pieces_answered file are.secret input 0 pieces damage (λ some k low high. absurd (omega (arith, low, high))) are.pieces_are (xs ++ Answers answer ∷ [])))

key_answered : (key : Name) (es : List Event) (ending : Ending) → KeyRefused key es ending → EndsAnswered es
key_answered key es ending (key_unnamed u is ends) = subst EndsAnswered (sym is) tt
key_answered key es ending (key_absent named is ends) = subst EndsAnswered (sym is) tt
key_answered key es ending (key_length n named other is ends) = subst EndsAnswered (sym is) tt
key_answered key es ending (key_short bytes named short is ends) = subst EndsAnswered (sym is) tt

-- behind a key that was read
behind_key : (key : Name) (user : List ℕ) (es rest all : List Event) → es ≡ key_events key user ++ rest → rest ≡ all → EndsAnswered (key_events key user ++ all) → EndsAnswered es
behind_key key user es rest all is are ends = subst EndsAnswered (sym (is ∙ ap (λ (l : List Event). key_events key user ++ l) are)) ends

pub decrypt_answered : (key input : Name) (es : List Event) (ending : Ending) → DecryptLeads key input es ending → ending ≢ Done → EndsAnswered es
decrypt_answered key input es ending (decrypt_key_refused refused) other = key_answered key es ending refused
decrypt_answered key input es ending (decrypt_key_read user rest has is (input_unnamed u are ends)) other = behind_key key user es rest [] is are tt
decrypt_answered key input es ending (decrypt_key_read user rest has is (input_absent target are ends)) other = behind_key key user es rest (Answers (LengthWas input None) ∷ []) is are tt
decrypt_answered key input es ending (decrypt_key_read user rest has is (input_read size file pieces target comes are)) other =
    behind_key key user es rest (Answers (LengthWas input (Some size)) ∷ Answers (Gave input 0 4096 (block_of file 0)) ∷ piece_events input file 0 pieces ending) is are
    (comes_answered user input file pieces ending comes other (Answers (LengthWas key (Some 16)) ∷ Answers (Gave key 0 16 user) ∷ Answers (LengthWas input (Some size)) ∷ []) (Gave input 0 4096 (block_of file 0)))

pub encrypt_answered : (key input output : Name) (es : List Event) (ending : Ending) → EncryptRefused key input output es ending → EndsAnswered es
encrypt_answered key input output es ending (no_key refused) = key_answered key es ending refused
encrypt_answered key input output es ending (names_unfit user has unfit is ends) = subst EndsAnswered (sym is) tt
encrypt_answered key input output es ending (encrypting.input_absent user has target fit is ends) = subst EndsAnswered (sym is) tt

-- what is behind all answers
none_behind : (xs more : List Answer) → xs ++ more ≡ xs → more ≡ []
none_behind xs more is = append_cancel_left xs more [] (is ∙ sym (append-nil xs))

-- the answers of a refusal of the key, with more behind them, as a list
with_more : (es all : List Event) (more these : List Answer) → es ≡ all → answers_in es ++ more ≡ these → answers_in all ++ more ≡ these
with_more es all more these is same = sym (ap (λ (l : List Event). answers_in l ++ more) is) ∙ same

module _ (key : Name) (es others : List Event) (more : List Answer) (same : answers_in es ++ more ≡ answers_in others) where
  alike : (all all2 : List Event) → es ≡ all → others ≡ all2 → answers_in all ++ more ≡ answers_in all2
  alike all all2 is is2 = with_more es all more (answers_in all2) is (same ∙ ap (λ (l : List Event). answers_in l) is2)

  -- a key is refused by as many answers
  key_more : (e f : Ending) → KeyRefused key es e → KeyRefused key others f → more ≡ []
  key_more e f (key_unnamed u is ends) (key_unnamed u2 is2 ends2) = alike [] [] is is2
  key_more e f (key_unnamed u is ends) (key_absent named is2 ends2) = absurd (u named)
  key_more e f (key_unnamed u is ends) (key_length n named ne is2 ends2) = absurd (u named)
  key_more e f (key_unnamed u is ends) (key_short bytes named short is2 ends2) = absurd (u named)
  key_more e f (key_absent named is ends) (key_unnamed u is2 ends2) = absurd (u named)
  key_more e f (key_absent named is ends) (key_absent named2 is2 ends2) =
      let all = alike (Answers (LengthWas key None) ∷ []) (Answers (LengthWas key None) ∷ []) is is2 in
      cc
  key_more e f (key_absent named is ends) (key_length n named2 ne is2 ends2) =
      let all : LengthWas key None ∷ more ≡ LengthWas key (Some n) ∷ [] = alike (Answers (LengthWas key None) ∷ []) (Answers (LengthWas key (Some n)) ∷ []) is is2 in
      cc
  key_more e f (key_absent named is ends) (key_short bytes named2 short is2 ends2) =
      let all : LengthWas key None ∷ more ≡ LengthWas key (Some 16) ∷ Gave key 0 16 bytes ∷ [] = alike (Answers (LengthWas key None) ∷ []) (key_events key bytes) is is2 in
      absurd (cc)
  key_more e f (key_length n named ne is ends) (key_unnamed u is2 ends2) = absurd (u named)
  key_more e f (key_length n named ne is ends) (key_absent named2 is2 ends2) =
      let all : LengthWas key (Some n) ∷ more ≡ LengthWas key None ∷ [] = alike (Answers (LengthWas key (Some n)) ∷ []) (Answers (LengthWas key None) ∷ []) is is2 in
      cc
  key_more e f (key_length n named ne is ends) (key_length m named2 ne2 is2 ends2) =
      let all : LengthWas key (Some n) ∷ more ≡ LengthWas key (Some m) ∷ [] = alike (Answers (LengthWas key (Some n)) ∷ []) (Answers (LengthWas key (Some m)) ∷ []) is is2 in
      cc
  key_more e f (key_length n named ne is ends) (key_short bytes named2 short is2 ends2) =
      let all : LengthWas key (Some n) ∷ more ≡ LengthWas key (Some 16) ∷ Gave key 0 16 bytes ∷ [] = alike (Answers (LengthWas key (Some n)) ∷ []) (key_events key bytes) is is2 in
      let long : n ≡ 16 = cc in
      absurd (ne long)
  key_more e f (key_short bytes named short is ends) (key_unnamed u is2 ends2) = absurd (u named)
  key_more e f (key_short bytes named short is ends) (key_absent named2 is2 ends2) =
      let all : LengthWas key (Some 16) ∷ Gave key 0 16 bytes ∷ more ≡ LengthWas key None ∷ [] = alike (key_events key bytes) (Answers (LengthWas key None) ∷ []) is is2 in
      absurd (cc)
  key_more e f (key_short bytes named short is ends) (key_length n named2 ne is2 ends2) =
      let all : LengthWas key (Some 16) ∷ Gave key 0 16 bytes ∷ more ≡ LengthWas key (Some n) ∷ [] = alike (key_events key bytes) (Answers (LengthWas key (Some n)) ∷ []) is is2 in
      absurd (cc)
  key_more e f (key_short bytes named short is ends) (key_short bytes2 named2 short2 is2 ends2) =
      let all : LengthWas key (Some 16) ∷ Gave key 0 16 bytes ∷ more ≡ LengthWas key (Some 16) ∷ Gave key 0 16 bytes2 ∷ [] = alike (key_events key bytes) (key_events key bytes2) is is2 in
      cc

-- no answer is behind those of a run
pub decrypt_no_more : (key input : Name) (es others : List Event) (more : List Answer) (e f : Ending) → DecryptLeads key input es e → DecryptLeads key input others f → answers_in es ++ more ≡ answers_in others → more ≡ []
decrypt_no_more key input es others more e f (decrypt_key_refused refused) (decrypt_key_refused refused2) same = key_more key es others more same e f refused refused2
decrypt_no_more key input es others more e f (decrypt_key_refused refused) (decrypt_key_read user rest has is unseals) same = absurd (key_apart key es others e user rest more [] refused has is (same ∙ sym (append-nil (answers_in others))))
decrypt_no_more key input es others more e f (decrypt_key_read user rest has is unseals) (decrypt_key_refused refused) same = absurd (key_apart key others es f user rest [] more refused has is (append-nil (answers_in others) ∙ sym same))
decrypt_no_more key input es others more e f (decrypt_key_read user rest has is unseals) (decrypt_key_read user2 rest2 has2 is2 unseals2) same =
    let all : LengthWas key (Some 16) ∷ Gave key 0 16 user ∷ (answers_in rest ++ more) ≡ LengthWas key (Some 16) ∷ Gave key 0 16 user2 ∷ answers_in rest2 = alike key es others more same (key_events key user ++ rest) (key_events key user2 ++ rest2) is is2 in
    let one : user2 ≡ user = cc in
    let behind : answers_in rest ++ more ≡ answers_in rest2 = cc in
    let runs = unseals_one user input rest rest2 more e f unseals (subst (λ (u : List ℕ). Unseals u input rest2 f) one unseals2) behind in
    none_behind (answers_in rest) more (behind ∙ ap (λ (l : List Event). answers_in l) (sym runs.0))

module _ (key input output : Name) (es others : List Event) (more : List Answer) (same : answers_in es ++ more ≡ answers_in others) where
  abbrev absent : List Event
  absent = Answers (LengthWas input None) ∷ []

  -- behind keys that were read
  behind : (user user2 : List ℕ) (xs ys : List Event) → es ≡ key_events key user ++ xs → others ≡ key_events key user2 ++ ys → answers_in xs ++ more ≡ answers_in ys
  behind user user2 xs ys is is2 =
      let all : LengthWas key (Some 16) ∷ Gave key 0 16 user ∷ (answers_in xs ++ more) ≡ LengthWas key (Some 16) ∷ Gave key 0 16 user2 ∷ answers_in ys = alike key es others more same (key_events key user ++ xs) (key_events key user2 ++ ys) is is2 in
      cc

  pub encrypt_no_more : (e f : Ending) → EncryptRefused key input output es e → EncryptRefused key input output others f → more ≡ []
  encrypt_no_more e f (no_key refused) (no_key refused2) = key_more key es others more same e f refused refused2
  encrypt_no_more e f (no_key refused) (names_unfit user has unfit is ends) = absurd (key_apart key es others e user [] more [] refused has is (same ∙ sym (append-nil (answers_in others))))
  encrypt_no_more e f (no_key refused) (encrypting.input_absent user has target fit is ends) = absurd (key_apart key es others e user absent more [] refused has is (same ∙ sym (append-nil (answers_in others))))
  encrypt_no_more e f (names_unfit user has unfit is ends) (no_key refused) = absurd (key_apart key others es f user [] [] more refused has is (append-nil (answers_in others) ∙ sym same))
  encrypt_no_more e f (names_unfit user has unfit is ends) (names_unfit user2 has2 unfit2 is2 ends2) = behind user user2 [] [] is is2
  encrypt_no_more e f (names_unfit user has unfit is ends) (encrypting.input_absent user2 has2 target fit is2 ends2) = absurd (⊎_elim (λ never. never target) (λ never. never fit) unfit)
  encrypt_no_more e f (encrypting.input_absent user has target fit is ends) (no_key refused) = absurd (key_apart key others es f user absent [] more refused has is (append-nil (answers_in others) ∙ sym same))
  encrypt_no_more e f (encrypting.input_absent user has target fit is ends) (names_unfit user2 has2 unfit is2 ends2) = absurd (⊎_elim (λ never. never target) (λ never. never fit) unfit)
  encrypt_no_more e f (encrypting.input_absent user has target fit is ends) (encrypting.input_absent user2 has2 target2 fit2 is2 ends2) =
      let all : LengthWas input None ∷ more ≡ LengthWas input None ∷ [] = behind user user2 absent absent is is2 in
      cc
