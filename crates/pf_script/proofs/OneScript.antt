-- Files, lines and words have one run from empty seats.
use Rattle.std.proofs.Common.{◌≡◌, inl, inr, ◌↔◌, IsTrue, ℕ, ◌≤◌, Bool, true, false, List, [], ◌∷◌, ◌++◌, length, map, refl, ap, ◌∙◌, sym, arith, subst, Option, Some, None, IfSome, append_assoc}
use Rattle.std.specs.Prelude.{set, get_or}
use Rattle.std.specs.List.{flat_map}
use Rattle.std.proofs.lemmas.Bool.{cases_lt, cases_eq}
use Rattle.std.proofs.lemmas.List.{get_or-set_same, get_or-set_other, length-set}
use Rattle.std.proofs.Math.ListN.{get_or-eq_default}
use Rattle.std.proofs.lemmas.Option.{same_Some, none-some}
use Rattle.node_tree.specs.Sheet.{Sheet}
use Rattle.pf_io.specs.Disk.{Name, Files}
use Rattle.pf_script.specs.BookActs.{Act}
use Rattle.pf_script.specs.FileRuns.{RunsOver, AreAlike, in_bytes, in_content, SameButSheet, no_file, other_sheet, RunsAgree, OneRun}
use Rattle.pf_script.specs.FileTurns.{stands_on, seen_over, TurnOver}
use Rattle.pf_script.specs.Script.{OwnSeat, Seat, Empty, Own, ScriptState, seat_at, HasThisName, IsTaken, state_with, seat_of_line, name_of_line}
use Rattle.pf_script.specs.ScriptRuns.{Exchange}
use Rattle.pf_script.specs.Turns.{SeatTurn, SaysTaken, Turn, silent, on_seat}
use Rattle.pf_script.specs.declared.line.ScriptLine.{ScriptLine}
use Rattle.pf_script.specs.declared.reply.Reply.{Reply}
use Rattle.pf_script.proofs.OneLike.{LikeSeat, both_empty, both_own, LikeState, LikeActs, LikeFile, same_bytes, both_stand, LikeFiles}
use Rattle.pf_script.proofs.OneWords.{rest_one}
use Rattle.pf_script.proofs.OneFiles.{acts_leave}
use Rattle.pf_script.proofs.OneEnds.{line_ends}
use Rattle.pf_script.proofs.OneTurns.{ends_one}

-- two tests of facts that hold together
test_one : (a b : Bool) (P Q : Type 0) → IsTrue a ↔ P → IsTrue b ↔ Q → (P → Q) → (Q → P) → a ≡ b
test_one true true P Q one two to from = refl
test_one false false P Q one two to from = refl
test_one true false P Q one two to from = sym (two.1 (to (one.0 refl)))
test_one false true P Q one two to from = one.1 (from (two.0 refl))

name_too : (key : List ℕ) (name : Name) (seat other : Seat) → LikeSeat key seat other → HasThisName name seat → HasThisName name other
name_too key name seat other both_empty has = has
name_too key name seat other (both_own own mine like) has = sym like.name ∙ has

name_back : (key : List ℕ) (name : Name) (seat other : Seat) → LikeSeat key seat other → HasThisName name other → HasThisName name seat
name_back key name seat other both_empty has = has
name_back key name seat other (both_own own mine like) has = like.name ∙ has

taken_one : (key : List ℕ) (state other : ScriptState) (k : ℕ) (given : Option Name) (taken told : Bool) → LikeState key state other → SaysTaken state k given taken → SaysTaken other k given told → IfSome given (λ name. taken ≡ told)
taken_one key state other k None taken told like one two = tt
taken_one key state other k (Some name) taken told like one two =
    test_one taken told (IsTaken state k name) (IsTaken other k name) one two
    (λ is. (is.0, is.1, name_too key name (seat_at state is.0) (seat_at other is.0) (like.seats is.0) is.2))
    (λ is. (is.0, is.1, name_back key name (seat_at state is.0) (seat_at other is.0) (like.seats is.0) is.2))

-- what is alike, in the words of the law
file_alike : (key : List ℕ) (name : Name) (files others : Files) → LikeFile key name (files name) (others name) → AreAlike key name files others
file_alike key name files others (same_bytes is) = in_bytes is
file_alike key name files others (both_stand file other sheet base is is' stands stands' like) =
    in_content sheet.content
    (record { sheet = sheet; path_is = like.path; content_is = refl; as_sheet = record { file = file; whole = is; stands = stands } })
    (record { sheet = base; path_is = like.other_path; content_is = sym like.content; as_sheet = record { file = other; whole = is'; stands = stands' } })

abbrev own_with : List ℕ → Name → Sheet → List ℕ → List ℕ → Bool → Option (List ℕ) → Bool → OwnSeat
own_with key name sheet content dirty changed drawn broken = record { key = key; name = name; sheet = sheet; content = content; dirty = dirty; changed = changed; drawn = drawn; broken = broken }

seat_same : (key : List ℕ) (seat other : Seat) → LikeSeat key seat other → SameButSheet seat other
seat_same key seat other both_empty = no_file
seat_same key seat other (both_own own mine like) = subst (λ (s : OwnSeat). SameButSheet (Own own) (Own s)) same (other_sheet own mine.sheet)
  where
    same : own_with own.key own.name mine.sheet own.content own.dirty own.changed own.drawn own.broken ≡ mine
    same = rw (like.key_is ∙ sym like.other_key) rw like.name rw like.content rw like.dirty rw like.changed rw like.drawn rw like.broken refl

-- a seat that is set
seat_set : (key : List ℕ) (seats others : List Seat) (k j : ℕ) (seat other : Seat) → length seats ≡ length others → ((i : ℕ) → LikeSeat key (get_or seats i Empty) (get_or others i Empty)) → LikeSeat key seat other
    → LikeSeat key (get_or (set seats k seat) j Empty) (get_or (set others k other) j Empty)
seat_set key seats others k j seat other long like here =
    elim (cases_eq j k) [
      | inl is ↦ subst (λ (i : ℕ). LikeSeat key (get_or (set seats k seat) i Empty) (get_or (set others k other) i Empty)) (sym is) at_k
      | inr apart ↦
          subst (λ (s : Seat). LikeSeat key s (get_or (set others k other) j Empty)) (sym (get_or-set_other seats k j seat Empty apart))
          (subst (λ (s : Seat). LikeSeat key (get_or seats j Empty) s) (sym (get_or-set_other others k j other Empty apart)) (like j))
    ]
  where
    at_k : LikeSeat key (get_or (set seats k seat) k Empty) (get_or (set others k other) k Empty)
    at_k =
        elim (cases_lt k (length seats)) [
          | inl lt ↦
              subst (λ (s : Seat). LikeSeat key s (get_or (set others k other) k Empty)) (sym (get_or-set_same seats k seat Empty lt))
              (subst (λ (s : Seat). LikeSeat key seat s) (sym (get_or-set_same others k other Empty (omega arith))) here)
          | inr beyond ↦
              let far : length (set seats k seat) ≤ k = omega (arith, length-set seats k seat) in
              let far' : length (set others k other) ≤ k = omega (arith, length-set others k other) in
              subst (λ (s : Seat). LikeSeat key s (get_or (set others k other) k Empty)) (sym (get_or-eq_default (set seats k seat) Empty far))
              (subst (λ (s : Seat). LikeSeat key Empty s) (sym (get_or-eq_default (set others k other) Empty far')) both_empty)
        ]

state_set : (key : List ℕ) (state other : ScriptState) (k : ℕ) (seat more : Seat) (acts deeds : List Act) → LikeState key state other → LikeSeat key seat more → LikeState key (state_with state k seat acts) (state_with other k more deeds)
state_set key state other k seat more acts deeds like here = record {
  key_is = like.key_is;
  other_key = like.other_key;
  long = length-set state.seats k seat ∙ like.long ∙ sym (length-set other.seats k more);
  seats = λ j. seat_set key state.seats other.seats k j seat more like.long like.seats here;
}

-- what two turns come to
record LikeTurns (key : List ℕ) (reply say : Reply) (words takes : List (List ℕ)) (acts deeds : List Act) (after ends : ScriptState) : Type 0 where
  reply_is : reply ≡ say
  words_are : words ≡ takes
  acts_are : LikeActs key acts deeds
  states : LikeState key after ends

module _ (key : List ℕ) (key_length : length key ≡ 16) where
  module _ (state other : ScriptState) (files others : Files) (words takes left rest : List (List ℕ)) (like : LikeState key state other) (alike : LikeFiles key files others) (stream : words ++ left ≡ takes ++ rest) where
    turn_one : (line : ScriptLine) (reply say : Reply) (acts deeds : List Act) (after ends : ScriptState)
        → Turn (stands_on state.key files) state line (seen_over files line words) reply acts after → Turn (stands_on other.key others) other line (seen_over others line takes) say deeds ends → LikeTurns key reply say words takes acts deeds after ends
    turn_one line reply say acts deeds after ends (silent is seen quiet none stays) (silent is' seen' quiet' none' stays') = record {
      reply_is = quiet ∙ sym quiet';
      words_are = ap (λ s. s.words) seen ∙ sym (ap (λ s. s.words) seen');
      acts_are = subst (λ (l : List Act). LikeActs key l deeds) (sym none) (subst (λ (l : List Act). LikeActs key [] l) (sym none') tt);
      states = subst (λ (s : ScriptState). LikeState key s ends) (sym stays) (subst (λ (s : ScriptState). LikeState key state s) (sym stays') like);
    }
    turn_one line reply say acts deeds after ends (silent is seen quiet none stays) (on_seat k taken seat names says turn left_is) = absurd (none-some k (sym (ap seat_of_line is) ∙ names))
    turn_one line reply say acts deeds after ends (on_seat k taken seat names says turn left_is) (silent is seen quiet none stays) = absurd (none-some k (sym (ap seat_of_line is) ∙ names))
    turn_one line reply say acts deeds after ends (on_seat k taken seat names says turn left_is) (on_seat j told more names' says' turn' left_is') =
        let same : j ≡ k = same_Some j k (sym names' ∙ names) in
        let says_k : SaysTaken other k (name_of_line line) told = subst (λ (i : ℕ). SaysTaken other i (name_of_line line) told) same says' in
        let here = subst (λ (x : List ℕ). SeatTurn (stands_on x files) x taken (seat_at state k) line (seen_over files line words) reply acts seat) like.key_is turn in
        let there_j = subst (λ (x : List ℕ). SeatTurn (stands_on x others) x told (seat_at other j) line (seen_over others line takes) say deeds more) like.other_key turn' in
        let there = subst (λ (i : ℕ). SeatTurn (stands_on key others) key told (seat_at other i) line (seen_over others line takes) say deeds more) same there_j in
        let one = ends_one key key_length files others alike words takes left rest stream line taken told (seat_at state k) (seat_at other k) reply say acts deeds seat more (like.seats k)
        (taken_one key state other k (name_of_line line) taken told like says says_k)
        (line_ends key taken files words (seat_at state k) seat line reply acts here)
        (line_ends key told others takes (seat_at other k) more line say deeds there) in
        let is_k : ends ≡ state_with other k more deeds = left_is' ∙ ap (λ (i : ℕ). state_with other i more deeds) same in
        record {
          reply_is = one.reply_is;
          words_are = one.words_are;
          acts_are = one.acts_are;
          states = subst (λ (s : ScriptState). LikeState key s ends) (sym left_is) (subst (λ (s : ScriptState). LikeState key (state_with state k seat acts) s) (sym is_k) (state_set key state other k seat more acts deeds like one.seat_is));
        }

  abbrev words_of : List Exchange → List (List ℕ)
  words_of exchanges = flat_map (λ exchange. exchange.seen.words) exchanges

  runs_one : (exchanges those : List Exchange) (state other after ends : ScriptState) (files others new last : Files) (left rest : List (List ℕ)) → LikeState key state other → LikeFiles key files others
      → map (λ exchange. exchange.line) exchanges ≡ map (λ exchange. exchange.line) those → words_of exchanges ++ left ≡ words_of those ++ rest → RunsOver state exchanges files after new → RunsOver other those others ends last
      → RunsAgree key exchanges those after ends new last
  runs_one [] [] state other after ends files others new last left rest like alike lines_are stream one two =
      record {
        replies = refl;
        words = refl;
        seats = λ k. rw one.0 rw two.0 (seat_same key (seat_at state k) (seat_at other k) (like.seats k));
        files = λ name target. rw one.1 rw two.1 (file_alike key name files others (alike name (λ none. none target)));
      }
  runs_one [] (more ∷ those) state other after ends files others new last left rest like alike lines_are stream one two = absurd (cc)
  runs_one (exchange ∷ exchanges) [] state other after ends files others new last left rest like alike lines_are stream one two = absurd (cc)
  runs_one (exchange ∷ exchanges) (more ∷ those) state other after ends files others new last left rest like alike lines_are stream (acts, mid, between, turn, runs) (deeds, till, beyond, turn', runs') =
      let both : exchange.line ∷ map (λ e. e.line) exchanges ≡ more.line ∷ map (λ e. e.line) those = lines_are in
      let line : exchange.line ≡ more.line = cc in
      let behind : map (λ e. e.line) exchanges ≡ map (λ e. e.line) those = cc in
      let ours : words_of (exchange ∷ exchanges) ++ left ≡ exchange.seen.words ++ (words_of exchanges ++ left) = append_assoc exchange.seen.words (words_of exchanges) left in
      let theirs : words_of (more ∷ those) ++ rest ≡ more.seen.words ++ (words_of those ++ rest) = append_assoc more.seen.words (words_of those) rest in
      let here : exchange.seen.words ++ (words_of exchanges ++ left) ≡ more.seen.words ++ (words_of those ++ rest) = sym ours ∙ stream ∙ theirs in
      let there = subst (λ (l : ScriptLine). TurnOver other l more.seen.words more.reply deeds till others beyond) (sym line) turn' in
      let step = turn_one state other files others exchange.seen.words more.seen.words (words_of exchanges ++ left) (words_of those ++ rest) like alike here exchange.line exchange.reply more.reply acts deeds mid till turn.turn there.turn in
      let next = acts_leave key acts deeds files others between beyond alike step.acts_are turn.files there.files in
      let words = rest_one exchange.seen.words more.seen.words (words_of exchanges ++ left) (words_of those ++ rest) step.words_are here in
      let rest_is = runs_one exchanges those mid till after ends between beyond new last left rest step.states next behind words runs runs' in
      record {
        replies = ap (λ (r : Reply). r ∷ map (λ e. e.reply) exchanges) step.reply_is ∙ ap (λ (l : List Reply). more.reply ∷ l) rest_is.replies;
        words = ap (λ (w : List (List ℕ)). w ∷ map (λ e. e.seen.words) exchanges) step.words_are ∙ ap (λ (l : List (List (List ℕ))). more.seen.words ∷ l) rest_is.words;
        seats = rest_is.seats;
        files = rest_is.files;
      }

pub one_run : OneRun
one_run state after other files new others words exchanges those key_length empty lines_are takes takes' runs runs' =
    runs_one state.key key_length exchanges those state state after other files files new others takes.left takes'.left
    (record { key_is = refl; other_key = refl; long = refl; seats = λ k. subst (λ (s : Seat). LikeSeat state.key s s) (sym (empty k)) both_empty })
    (λ name may. same_bytes refl) lines_are (sym takes.in_order ∙ takes'.in_order) runs runs'
