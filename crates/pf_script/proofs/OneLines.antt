-- The rules of each line refuse alike over files and seats that are alike.
use Rattle.std.proofs.Common.{◌≡◌, ◌≢◌, ℕ, ◌<◌, Bool, true, List, [], ◌∷◌, ◌++◌, length, refl, ap, ◌∙◌, sym, arith, Option, Some, None, IfSome, zero, suc}
use Rattle.std.specs.Prelude.{Contains}
use Rattle.std.proofs.lemmas.Option.{none-some}
use Rattle.pf_io.specs.Disk.{Name, Files}
use Rattle.pf_io.specs.Host.{Answer, LengthWas, length_of}
use Rattle.pf_io.specs.Names.{IsTarget}
use Rattle.pf_script.specs.FileTurns.{answers_of, opening_answers}
use Rattle.pf_script.specs.Rules.{Rule, refuses, passes_end, seating_rules, seated_rules, writing_rules, opening_rules, rules}
use Rattle.pf_script.specs.Script.{OwnSeat, Seat, Empty, Own, name_of_line}
use Rattle.pf_script.specs.SeatSteps.{PIECE, LARGEST}
use Rattle.pf_script.specs.declared.line.ScriptLine.{ScriptLine}
use Rattle.pf_script.specs.declared.line.ScriptLine.TheVariants as lines
use Rattle.pf_script.specs.declared.reply.Why.TheVariants as whys
use Rattle.pf_script.proofs.OneRules.{OneRule, AreOne, one_refusal, none_refused}
use Rattle.pf_script.proofs.OneLike.{LikeSeat, both_empty, both_own, LikeFile, MayBeTarget, LikeFiles}
use Rattle.pf_script.proofs.OneFiles.{like_sym, there_too, opening_alike}

not_empty : (own : OwnSeat) → Own own ≡ Empty → ⊥
not_empty own is = absurd (cc)

some_too : (key : List ℕ) (name : Name) (here there : Option (List ℕ)) (size : ℕ) → LikeFile key name here there → length_of here ≡ Some size → (more : ℕ) × (length_of there ≡ Some more)
some_too key name None there size like is = absurd (none-some size is)
some_too key name (Some file) there size like is = let other = there_too key name (Some file) there file like refl in (length other.0, ap length_of other.1)

length_is : (name : Name) (given : Option ℕ) (size : ℕ) → Contains (LengthWas name given ∷ []) (LengthWas name (Some size)) → given ≡ Some size
length_is name given size (zero, within, is) = let e : LengthWas name given ≡ LengthWas name (Some size) = is in cc
length_is name given size (suc i, within, is) = absurd (omega arith)

length_has : (name : Name) (given : Option ℕ) (size : ℕ) → given ≡ Some size → Contains (LengthWas name given ∷ []) (LengthWas name (Some size))
length_has name given size is = (0, omega arith, ap (λ (g : Option ℕ). LengthWas name g) is)

exists_too : (key : List ℕ) (name : Name) (here there : Option (List ℕ)) → LikeFile key name here there → (size : ℕ) × Contains (LengthWas name (length_of here) ∷ []) (LengthWas name (Some size))
    → (size : ℕ) × Contains (LengthWas name (length_of there) ∷ []) (LengthWas name (Some size))
exists_too key name here there like found =
    let more = some_too key name here there found.0 like (length_is name (length_of here) found.0 found.1) in
    (more.0, length_has name (length_of there) more.0 more.1)

target_too : (key : List ℕ) (name : Name) (here there : Option (List ℕ)) → LikeFile key name here there → (size : ℕ) × (others : List Answer) × (LengthWas name (length_of here) ∷ [] ≡ LengthWas name (Some size) ∷ others)
    → (size : ℕ) × (others : List Answer) × (LengthWas name (length_of there) ∷ [] ≡ LengthWas name (Some size) ∷ others)
target_too key name here there like found =
    let is : LengthWas name (length_of here) ∷ [] ≡ LengthWas name (Some found.0) ∷ found.1 = found.2 in
    let more = some_too key name here there found.0 like (cc) in
    (more.0, [], ap (λ (g : Option ℕ). LengthWas name g ∷ []) more.1)

-- the rules of a seat that is to be empty
seating_alike : (key : List ℕ) (taken other : Bool) (seat more : Seat) (rest behind : List Rule) → taken ≡ other → LikeSeat key seat more → AreOne rest behind → AreOne (seating_rules taken seat ++ rest) (seating_rules other more ++ behind)
seating_alike key taken other seat more rest behind is both_empty one = (one_refusal whys.SeatBusy _ _ (λ p. p) (λ p. p), λ no_first. (one_refusal whys.NameBusy _ _ (λ p. sym is ∙ p) (λ p. is ∙ p), λ no_second. one))
seating_alike key taken other seat more rest behind is (both_own own mine like) one = (one_refusal whys.SeatBusy _ _ (λ p. not_empty mine) (λ p. not_empty own), λ no_first. (one_refusal whys.NameBusy _ _ (λ p. sym is ∙ p) (λ p. is ∙ p), λ no_second. one))

-- those of a seat that is to have a file
seated_alike : (key : List ℕ) (seat more : Seat) (rest behind : List Rule) → LikeSeat key seat more → AreOne rest behind → AreOne (seated_rules seat ++ rest) (seated_rules more ++ behind)
seated_alike key seat more rest behind both_empty one = (one_refusal whys.SeatEmpty _ _ (λ p. p) (λ p. p), λ no_first. (one_refusal whys.Broken _ _ (λ p. p) (λ p. p), λ no_second. one))
seated_alike key seat more rest behind (both_own own mine like) one = (
  one_refusal whys.SeatEmpty _ _ (λ p. absurd (not_empty own p)) (λ p. absurd (not_empty mine p)),
  λ no_first. (one_refusal whys.Broken _ _ (λ p. sym like.broken ∙ p) (λ p. like.broken ∙ p), λ no_second. one),
)

end_alike : (key : List ℕ) (seat more : Seat) (at : ℕ) → LikeSeat key seat more → OneRule (passes_end seat at) (passes_end more at)
end_alike key seat more at both_empty = none_refused _ _ (λ why r. r.1) (λ why r. r.1)
end_alike key seat more at (both_own own mine like) =
    let same : length own.content ≡ length mine.content = ap length like.content in
    record {
      one = λ why say a b. a.3 ∙ ap whys.PastEnd (a.1 ∙ same ∙ sym b.1) ∙ sym b.3;
      forth = λ why a. (why, (a.0, a.1 ∙ same, a.2, a.3));
      back = λ say b. (say, (b.0, b.1 ∙ sym same, b.2, b.3));
    }

writing_alike : (key : List ℕ) (seat more : Seat) (at count : ℕ) → LikeSeat key seat more → AreOne (seated_rules seat ++ writing_rules seat at count) (seated_rules more ++ writing_rules more at count)
writing_alike key seat more at count like =
    seated_alike key seat more (writing_rules seat at count) (writing_rules more at count) like (
      one_refusal whys.TooLong _ _ (λ p. p) (λ p. p),
      λ no_first. (one_refusal whys.TooLarge _ _ (λ p. p) (λ p. p), λ no_second. (end_alike key seat more at like, λ no_third. tt)),
    )

view_alike : (key : List ℕ) (seat more : Seat) → LikeSeat key seat more → AreOne (refuses whys.SeatBusy (seat ≢ Empty) ∷ refuses whys.NoManifest (Unit {0}) ∷ []) (refuses whys.SeatBusy (more ≢ Empty) ∷ refuses whys.NoManifest (Unit {0}) ∷ [])
view_alike key seat more both_empty = (one_refusal whys.SeatBusy _ _ (λ p. p) (λ p. p), λ no_first. (one_refusal whys.NoManifest _ _ (λ p. p) (λ p. p), λ no_second. tt))
view_alike key seat more (both_own own mine same) = (one_refusal whys.SeatBusy _ _ (λ p. not_empty mine) (λ p. not_empty own), λ no_first. (one_refusal whys.NoManifest _ _ (λ p. p) (λ p. p), λ no_second. tt))

close_alike : (key : List ℕ) (seat more : Seat) → LikeSeat key seat more → AreOne (refuses whys.SeatEmpty (seat ≡ Empty) ∷ []) (refuses whys.SeatEmpty (more ≡ Empty) ∷ [])
close_alike key seat more both_empty = (one_refusal whys.SeatEmpty _ _ (λ p. p) (λ p. p), λ no_first. tt)
close_alike key seat more (both_own own mine same) = (one_refusal whys.SeatEmpty _ _ (λ p. absurd (not_empty own p)) (λ p. absurd (not_empty mine p)), λ no_first. tt)

-- the last rules of a creation and of a move
abbrev create_rules : Name → List Answer → List Rule
create_rules name given = refuses whys.BadName (¬ (IsTarget name)) ∷ refuses (whys.Exists name) ((size : ℕ) × Contains given (LengthWas name (Some size))) ∷ []

abbrev move_rules : Bool → Name → List Answer → List Rule
move_rules taken name given =
    refuses whys.NameBusy (taken ≡ true)
    ∷ refuses whys.BadName (¬ (IsTarget name))
    ∷ refuses whys.TargetExists ((size : ℕ) × (others : List Answer) × (given ≡ LengthWas name (Some size) ∷ others))
    ∷ []

module _ (key : List ℕ) (key_length : length key ≡ 16) (files others : Files) (like : LikeFiles key files others) (taken other : Bool) (seat more : Seat) (seats : LikeSeat key seat more) where
  pub rules_alike : (line : ScriptLine) → IfSome (name_of_line line) (λ name. taken ≡ other) → AreOne (rules key taken seat line (answers_of files line)) (rules key other more line (answers_of others line))
  rules_alike lines.Blank is = tt
  rules_alike (lines.Create k name) is =
      seating_alike key taken other seat more (create_rules name (LengthWas name (length_of (files name)) ∷ [])) (create_rules name (LengthWas name (length_of (others name)) ∷ [])) is seats (
        one_refusal whys.BadName _ _ (λ p. p) (λ p. p),
        λ none. (
          let may : MayBeTarget name = λ no. none whys.BadName (refl, no) in
              one_refusal (whys.Exists name) _ _ (exists_too key name (files name) (others name) (like name may)) (exists_too key name (others name) (files name) (like_sym key name (files name) (others name) (like name may))),
          λ no_second. tt,
        ),
      )
  rules_alike (lines.Open k name) is = seating_alike key taken other seat more (opening_rules key name (opening_answers name (files name))) (opening_rules key name (opening_answers name (others name))) is seats (opening_alike key key_length name (files name) (others name) (like name))
  rules_alike (lines.View k path) is = view_alike key seat more seats
  rules_alike (lines.Read k at count) is =
      let last : List Rule = refuses whys.TooLong (PIECE < count) ∷ [] in
      seated_alike key seat more last last seats (one_refusal whys.TooLong _ _ (λ p. p) (λ p. p), λ no_third. tt)
  rules_alike (lines.Write k at bytes) is = writing_alike key seat more at (length bytes) seats
  rules_alike (lines.Fill k at count byte) is = writing_alike key seat more at count seats
  rules_alike (lines.Size k size) is =
      let last : List Rule = refuses whys.TooLarge (LARGEST < size) ∷ [] in
      seated_alike key seat more last last seats (one_refusal whys.TooLarge _ _ (λ p. p) (λ p. p), λ no_third. tt)
  rules_alike (lines.Flush k) is = seated_alike key seat more [] [] seats tt
  rules_alike (lines.Move k name) is =
      seated_alike key seat more (move_rules taken name (LengthWas name (length_of (files name)) ∷ [])) (move_rules other name (LengthWas name (length_of (others name)) ∷ [])) seats (
        one_refusal whys.NameBusy _ _ (λ p. sym is ∙ p) (λ p. is ∙ p),
        λ no_third. (
          one_refusal whys.BadName _ _ (λ p. p) (λ p. p),
          λ none. (
            let may : MayBeTarget name = λ no. none whys.BadName (refl, no) in
                one_refusal whys.TargetExists _ _ (target_too key name (files name) (others name) (like name may)) (target_too key name (others name) (files name) (like_sym key name (files name) (others name) (like name may))),
            λ no_fifth. tt,
          ),
        ),
      )
  rules_alike (lines.Draw k) is = seated_alike key seat more [] [] seats tt
  rules_alike (lines.Close k) is = close_alike key seat more seats
