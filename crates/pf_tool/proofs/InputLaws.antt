-- What answers, and what files, decide of the reading of an input.
use Rattle.std.proofs.Common.{◌≡◌, ◌⊎◌, inl, inr, ℕ, ◌+◌, ◌<◌, ◌≤◌, List, [], ◌∷◌, ◌++◌, length, refl, subst, ap, ap₂, ◌∙◌, sym, arith, length-append, Option, Some, None, Result, Ok, Err}
use Rattle.std.specs.List.{concat, AllByRecursion}
use Rattle.pf_io.specs.Disk.{Name, Files}
use Rattle.pf_io.specs.Host.{Answer, LengthWas, HostState, KeepsFiles, contents}
use Rattle.pf_io.specs.Answered.{IsAnswerOf}
use Rattle.pf_io.specs.Names.{IsName}
use Rattle.pf_io.specs.Slices.{SLICE, given_in_turn, AreWhole, IsTaken, CameInTurn}
use Rattle.pf_io.specs.Unchanged.{KeepsDisk}
use Rattle.pf_io.proofs.Slices.{concat_last, few_in_turn, there, not_there, taken_all}
use Rattle.pf_tool.specs.World.{World}
use Rattle.pf_tool.specs.Events.{Event, answers_in, words_in, pieces_in}
use Rattle.pf_tool.specs.Endings.{Ending, Done, Refused, BadName, Stop}
use Rattle.pf_tool.specs.Happened.{Passed}
use Rattle.pf_tool.specs.InputFiles.{MOST_INPUT, asked, InputReads, file_unnamed, file_absent, file_large, file_taken, InputLeads, InputOver, over_unnamed, over_absent, over_large, over_taken}
use Rattle.pf_tool.specs.Outcomes.{Falls}
use Rattle.pf_tool.specs.declared.fault.Fault.{Fault}
use Rattle.pf_tool.proofs.Asking.{asked_answers, asked_words, asked_pieces}
use Rattle.pf_tool.proofs.Stopping.{GoesOn, LeadsOn, falls_on}

-- where no bytes come of the reading, the command ends so; where they come, it goes on
pub input_falls : (xs : List Event) (name : Name) (Leads : List Event → Ending → Type 0) (Leaves : List Event → Stop → HostState → HostState → Type 0) (fault : Fault) (old mid new : World) → Passed xs old mid → KeepsFiles old.host mid.host
    → ((es : List Event) (ending : Ending) → InputReads name es (Err ending) → Leads (xs ++ es) ending) → ((es : List Event) (text : List ℕ) → InputReads name es (Ok text) → GoesOn Leads (xs ++ es))
    → ((tried : List Event) (stop : Stop) → KeepsDisk mid.host new.host → Leaves (xs ++ tried) stop old.host new.host) → Falls (InputLeads name) (λ _ _. KeepsDisk) fault mid new → Falls Leads Leaves fault old new
input_falls xs name Leads Leaves fault old mid new passed files refuses goes left falls = falls_on xs (InputLeads name) Leads (λ _ _. KeepsDisk) Leaves fault old mid new passed files leads_on left falls
  where
    leads_on : (es : List Event) (ending : Ending) → InputLeads name es ending → LeadsOn Leads (xs ++ es) ending
    leads_on es ending (inl refused) = inl (refuses es ending refused)
    leads_on es ending (inr read) = inr (read.2, goes es read.0 read.1)

-- the reading only asks
pub input_words : (name : Name) (es : List Event) (r : Result (List ℕ) Ending) → InputReads name es r → words_in es ≡ []
input_words name es r (file_unnamed u is ends) = ap (λ (l : List Event). words_in l) is
input_words name es r (file_absent named is ends) = ap (λ (l : List Event). words_in l) is
input_words name es r (file_large whole last these named came few many is ends) = ap (λ (l : List Event). words_in l) is ∙ asked_words these
input_words name es r (file_taken text these named taken few is ends) = ap (λ (l : List Event). words_in l) is ∙ asked_words these

pub input_pieces : (name : Name) (es : List Event) (r : Result (List ℕ) Ending) → InputReads name es r → pieces_in es ≡ []
input_pieces name es r (file_unnamed u is ends) = ap (λ (l : List Event). pieces_in l) is
input_pieces name es r (file_absent named is ends) = ap (λ (l : List Event). pieces_in l) is
input_pieces name es r (file_large whole last these named came few many is ends) = ap (λ (l : List Event). pieces_in l) is ∙ asked_pieces these
input_pieces name es r (file_taken text these named taken few is ends) = ap (λ (l : List Event). pieces_in l) is ∙ asked_pieces these

-- without an answer only a name that is none ends it
pub input_silent : (name : Name) (r : Result (List ℕ) Ending) → InputReads name [] r → (¬ (IsName name)) × (r ≡ Err (Refused BadName))
input_silent name r (file_unnamed u is ends) = (u, ends)
input_silent name r (file_absent named is ends) = absurd (cc)
input_silent name r (file_large whole last these named came few many is ends) =
    let none : [] ≡ asked (LengthWas name (Some came.1.0) ∷ given_in_turn name 0 (whole ++ last ∷ [])) = is ∙ ap asked came.1.1 in
    absurd (cc)
input_silent name r (file_taken text these named taken few is ends) =
    let none : [] ≡ asked (LengthWas name (Some taken.size) ∷ given_in_turn name 0 (taken.whole ++ taken.last ∷ [])) = is ∙ ap asked taken.asked in
    absurd (cc)

-- whole slices from a place on and a last one: it is no whole one, or there are more bytes with it than a file may have, and not before
pub record Ends (most at : ℕ) (whole : List (List ℕ)) (last : List ℕ) : Type 0 where
  pub few : at + length (concat whole) ≤ most
  pub ends : (length last < SLICE) ⊎ (most < at + (length (concat whole) + length last))

ends_on : (most at : ℕ) (x : List ℕ) (whole : List (List ℕ)) (last : List ℕ) → Ends most at (x ∷ whole) last → Ends most (at + length x) whole last
ends_on most at x whole last e = record { few = let f = e.few in omega (arith, f, length-append x (concat whole)); ends = on e.ends }
  where
    on : (length last < SLICE) ⊎ (most < at + (length (x ++ concat whole) + length last)) → (length last < SLICE) ⊎ (most < at + length x + (length (concat whole) + length last))
    on (inl short) = inl short
    on (inr many) = inr (omega (arith, many, length-append x (concat whole)))

-- a whole slice is not the last one
not_last : (most at : ℕ) (x : List ℕ) (whole : List (List ℕ)) (l y : List ℕ) → length y ≡ SLICE → l ≡ y → Ends most at [] l → at + length (y ++ concat whole) ≤ most → ⊥
not_last most at x whole l y long same e few = by_end e.ends
  where
    alike : length l ≡ length y
    alike = ap (λ (s : List ℕ). length s) same

    by_end : (length l < SLICE) ⊎ (most < at + (0 + length l)) → ⊥
    by_end (inl short) = omega (arith, short, alike, long)
    by_end (inr many) = omega (arith, many, alike, few, length-append y (concat whole))

-- the same answers have the same slices
pub turn_one : (most : ℕ) (name : Name) (at : ℕ) (w v : List (List ℕ)) (l k : List ℕ) (more further : List Answer) → AreWhole w → AreWhole v → Ends most at w l → Ends most at v k
    → given_in_turn name at (w ++ l ∷ []) ++ more ≡ given_in_turn name at (v ++ k ∷ []) ++ further → (w ≡ v) × (l ≡ k) × (more ≡ further)
turn_one most name at [] [] l k more further aw av e f same =
    let first : l ≡ k = cc in
    let rest : more ≡ further = cc in
    (refl, first, rest)
turn_one most name at [] (y ∷ v) l k more further aw av e f same =
    let first : l ≡ y = cc in
    let few = f.few in
    absurd (not_last most at y v l y av.0 first e few)
turn_one most name at (x ∷ w) [] l k more further aw av e f same =
    let first : k ≡ x = cc in
    let few = e.few in
    absurd (not_last most at x w k x aw.0 first f few)
turn_one most name at (x ∷ w) (y ∷ v) l k more further aw av e f same =
    let first : y ≡ x = cc in
    let rest : given_in_turn name (at + length x) (w ++ l ∷ []) ++ more ≡ given_in_turn name (at + length y) (v ++ k ∷ []) ++ further = cc in
    let moved = subst (λ (s : List ℕ). given_in_turn name (at + length x) (w ++ l ∷ []) ++ more ≡ given_in_turn name (at + length s) (v ++ k ∷ []) ++ further) first rest in
    let one = turn_one most name (at + length x) w v l k more further aw.1 av.1 (ends_on most at x w l e) (subst (λ (s : List ℕ). Ends most (at + length s) v k) first (ends_on most at y v k f)) moved in
    (ap₂ (λ (s : List ℕ) (r : List (List ℕ)). s ∷ r) (sym first) one.0, one.1, one.2)

-- the slices of a file
record Turn (name : Name) (es : List Event) : Type 0 where
  size : ℕ
  whole : List (List ℕ)
  last : List ℕ
  are_whole : AreWhole whole
  end : Ends MOST_INPUT 0 whole last
  is : es ≡ asked (LengthWas name (Some size) ∷ given_in_turn name 0 (whole ++ last ∷ []))

long_last : (whole : List (List ℕ)) (last : List ℕ) → length (concat (whole ++ last ∷ [])) ≡ length (concat whole) + length last
long_last whole last = ap (λ (l : List ℕ). length l) (concat_last whole last) ∙ length-append (concat whole) last

abbrev large_turn : (name : Name) (es : List Event) (whole : List (List ℕ)) (last : List ℕ) (these : List Answer) → CameInTurn name whole (last ∷ []) these → length (concat whole) ≤ MOST_INPUT → MOST_INPUT < length (concat (whole ++ last ∷ [])) → es ≡ asked these → Turn name es
large_turn name es whole last these came few many is = record {
  size = came.1.0;
  whole = whole;
  last = last;
  are_whole = came.0;
  end = record { few = omega (arith, few); ends = inr (omega (arith, many, long_last whole last)) };
  is = is ∙ ap asked came.1.1;
}

abbrev taken_turn : (name : Name) (es : List Event) (text : List ℕ) (these : List Answer) → IsTaken name these text → length text ≤ MOST_INPUT → es ≡ asked these → Turn name es
taken_turn name es text these taken few is = record {
  size = taken.size;
  whole = taken.whole;
  last = taken.last;
  are_whole = taken.are_whole;
  end = record { few = omega (arith, few, ap (λ (l : List ℕ). length l) taken.bytes_are, long_last taken.whole taken.last); ends = inl taken.ended };
  is = is ∙ ap asked taken.asked;
}

answers_are : (es : List Event) (these : List Answer) → es ≡ asked these → answers_in es ≡ these
answers_are es these is = ap (λ (l : List Event). answers_in l) is ∙ asked_answers these

module _ (name : Name) (es others : List Event) (more further : List Answer) (same : answers_in es ++ more ≡ answers_in others ++ further) where
  -- the same answers behind what is asked for
  alike : (these those : List Answer) → es ≡ asked these → others ≡ asked those → these ++ more ≡ those ++ further
  alike these those is is2 = ap (λ (l : List Answer). l ++ more) (sym (answers_are es these is)) ∙ same ∙ ap (λ (l : List Answer). l ++ further) (answers_are others those is2)

  record SameTurn (a : Turn name es) (b : Turn name others) : Type 0 where
    events : es ≡ others
    wholes : a.whole ≡ b.whole
    lasts : a.last ≡ b.last
    behind : more ≡ further

  same_turn : (a : Turn name es) (b : Turn name others) → SameTurn a b
  same_turn a b =
      let all : LengthWas name (Some a.size) ∷ (given_in_turn name 0 (a.whole ++ a.last ∷ []) ++ more) ≡ LengthWas name (Some b.size) ∷ (given_in_turn name 0 (b.whole ++ b.last ∷ []) ++ further) =
      alike (LengthWas name (Some a.size) ∷ given_in_turn name 0 (a.whole ++ a.last ∷ [])) (LengthWas name (Some b.size) ∷ given_in_turn name 0 (b.whole ++ b.last ∷ [])) a.is b.is in
      let sizes : a.size ≡ b.size = cc in
      let rest : given_in_turn name 0 (a.whole ++ a.last ∷ []) ++ more ≡ given_in_turn name 0 (b.whole ++ b.last ∷ []) ++ further = cc in
      let one = turn_one MOST_INPUT name 0 a.whole b.whole a.last b.last more further a.are_whole b.are_whole a.end b.end rest in
      record {
        events = a.is ∙ ap (λ (n : ℕ). asked (LengthWas name (Some n) ∷ given_in_turn name 0 (a.whole ++ a.last ∷ []))) sizes
            ∙ ap₂ (λ (w : List (List ℕ)) (l : List ℕ). asked (LengthWas name (Some b.size) ∷ given_in_turn name 0 (w ++ l ∷ []))) one.0 one.1 ∙ sym b.is;
        wholes = one.0;
        lasts = one.1;
        behind = one.2;
      }

  turn_apart : {X : Type 0} (a : Turn name es) → others ≡ asked (LengthWas name None ∷ []) → X
  turn_apart a is =
      let all : LengthWas name (Some a.size) ∷ (given_in_turn name 0 (a.whole ++ a.last ∷ []) ++ more) ≡ LengthWas name None ∷ further =
      alike (LengthWas name (Some a.size) ∷ given_in_turn name 0 (a.whole ++ a.last ∷ [])) (LengthWas name None ∷ []) a.is is in
      absurd (cc)

  absent_apart : {X : Type 0} (b : Turn name others) → es ≡ asked (LengthWas name None ∷ []) → X
  absent_apart b is =
      let all : LengthWas name None ∷ more ≡ LengthWas name (Some b.size) ∷ (given_in_turn name 0 (b.whole ++ b.last ∷ []) ++ further) =
      alike (LengthWas name None ∷ []) (LengthWas name (Some b.size) ∷ given_in_turn name 0 (b.whole ++ b.last ∷ [])) is b.is in
      absurd (cc)

  -- bytes that are too many, and not
  many_not : {X : Type 0} (a b : List (List ℕ)) (l k text : List ℕ) → a ≡ b → l ≡ k → MOST_INPUT < length (concat (a ++ l ∷ [])) → text ≡ concat (b ++ k ∷ []) → length text ≤ MOST_INPUT → X
  many_not a b l k text wholes lasts many is few =
      let same_bytes : text ≡ concat (a ++ l ∷ []) = is ∙ ap₂ (λ (w : List (List ℕ)) (s : List ℕ). concat (w ++ s ∷ [])) (sym wholes) (sym lasts) in
      absurd (omega (arith, many, few, ap (λ (s : List ℕ). length s) same_bytes))

  -- the same answers lead to one outcome, by as many answers
  pub input_one : (r s : Result (List ℕ) Ending) → InputReads name es r → InputReads name others s → (es ≡ others) × (r ≡ s) × (more ≡ further)
  input_one r s (file_unnamed u is ends) (file_unnamed u2 is2 ends2) = (is ∙ sym is2, ends ∙ sym ends2, alike [] [] is is2)
  input_one r s (file_unnamed u is ends) (file_absent named is2 ends2) = absurd (u named)
  input_one r s (file_unnamed u is ends) (file_large whole last these named came few many is2 ends2) = absurd (u named)
  input_one r s (file_unnamed u is ends) (file_taken text these named taken few is2 ends2) = absurd (u named)
  input_one r s (file_absent named is ends) (file_unnamed u is2 ends2) = absurd (u named)
  input_one r s (file_absent named is ends) (file_absent named2 is2 ends2) =
      let all : LengthWas name None ∷ more ≡ LengthWas name None ∷ further = alike (LengthWas name None ∷ []) (LengthWas name None ∷ []) is is2 in
      (is ∙ sym is2, ends ∙ sym ends2, cc)
  input_one r s (file_absent named is ends) (file_large whole last these named2 came few many is2 ends2) = absent_apart (large_turn name others whole last these came few many is2) is
  input_one r s (file_absent named is ends) (file_taken text these named2 taken few is2 ends2) = absent_apart (taken_turn name others text these taken few is2) is
  input_one r s (file_large whole last these named came few many is ends) (file_unnamed u is2 ends2) = absurd (u named)
  input_one r s (file_large whole last these named came few many is ends) (file_absent named2 is2 ends2) = turn_apart (large_turn name es whole last these came few many is) is2
  input_one r s (file_large whole last these named came few many is ends) (file_large whole2 last2 these2 named2 came2 few2 many2 is2 ends2) =
      let one = same_turn (large_turn name es whole last these came few many is) (large_turn name others whole2 last2 these2 came2 few2 many2 is2) in
      (one.events, ends ∙ sym ends2, one.behind)
  input_one r s (file_large whole last these named came few many is ends) (file_taken text these2 named2 taken few2 is2 ends2) =
      let one = same_turn (large_turn name es whole last these came few many is) (taken_turn name others text these2 taken few2 is2) in
      many_not whole taken.whole last taken.last text one.wholes one.lasts many taken.bytes_are few2
  input_one r s (file_taken text these named taken few is ends) (file_unnamed u is2 ends2) = absurd (u named)
  input_one r s (file_taken text these named taken few is ends) (file_absent named2 is2 ends2) = turn_apart (taken_turn name es text these taken few is) is2
  input_one r s (file_taken text these named taken few is ends) (file_large whole2 last2 these2 named2 came2 few2 many2 is2 ends2) =
      let one = same_turn (taken_turn name es text these taken few is) (large_turn name others whole2 last2 these2 came2 few2 many2 is2) in
      many_not whole2 taken.whole last2 taken.last text (sym one.wholes) (sym one.lasts) many2 taken.bytes_are few
  input_one r s (file_taken text these named taken few is ends) (file_taken text2 these2 named2 taken2 few2 is2 ends2) =
      let one = same_turn (taken_turn name es text these taken few is) (taken_turn name others text2 these2 taken2 few2 is2) in
      let texts : text ≡ text2 = taken.bytes_are ∙ ap₂ (λ (w : List (List ℕ)) (l : List ℕ). concat (w ++ l ∷ [])) one.wholes one.lasts ∙ sym taken2.bytes_are in
      (one.events, ends ∙ ap (λ (t : List ℕ). Ok t) texts ∙ sym ends2, one.behind)

-- what was read of files is what they give
pub input_over : (files : Files) (name : Name) (es : List Event) (r : Result (List ℕ) Ending) → InputReads name es r → AllByRecursion (IsAnswerOf files) (answers_in es) → InputOver files name r
input_over files name es r (file_unnamed u is ends) all = over_unnamed u ends
input_over files name es r (file_absent named is ends) all =
    let given : AllByRecursion (IsAnswerOf files) (LengthWas name None ∷ []) = subst (λ (l : List Answer). AllByRecursion (IsAnswerOf files) l) (answers_are es (LengthWas name None ∷ []) is) all in
    over_absent named (not_there (files name) given.0) ends
input_over files name es r (file_large whole last these named came few many is ends) all =
    let given = subst (λ (l : List Answer). AllByRecursion (IsAnswerOf files) l) (answers_are es these is ∙ came.1.1) all in
    let most = few_in_turn files name 0 (whole ++ last ∷ []) given.1 (omega arith) in
    over_large (contents (files name)) named (there (files name) came.1.0 given.0) (omega (arith, most, many)) ends
input_over files name es r (file_taken text these named taken few is ends) all =
    over_taken text named (taken_all files name these text taken (subst (λ (l : List Answer). AllByRecursion (IsAnswerOf files) l) (answers_are es these is) all)) few ends

-- files give one outcome
one_text : (o : Option (List ℕ)) (a b : List ℕ) → o ≡ Some a → o ≡ Some b → a ≡ b
one_text o a b is is2 = cc

no_text : {X : Type 0} (o : Option (List ℕ)) (a : List ℕ) → o ≡ None → o ≡ Some a → X
no_text o a none is = absurd (cc)

pub input_over_one : (files : Files) (name : Name) (r s : Result (List ℕ) Ending) → InputOver files name r → InputOver files name s → r ≡ s
input_over_one files name r s (over_unnamed u is) (over_unnamed u2 is2) = is ∙ sym is2
input_over_one files name r s (over_unnamed u is) (over_absent named none is2) = absurd (u named)
input_over_one files name r s (over_unnamed u is) (over_large text named some many is2) = absurd (u named)
input_over_one files name r s (over_unnamed u is) (over_taken text named some few is2) = absurd (u named)
input_over_one files name r s (over_absent named none is) (over_unnamed u is2) = absurd (u named)
input_over_one files name r s (over_absent named none is) (over_absent named2 none2 is2) = is ∙ sym is2
input_over_one files name r s (over_absent named none is) (over_large text named2 some many is2) = no_text (files name) text none some
input_over_one files name r s (over_absent named none is) (over_taken text named2 some few is2) = no_text (files name) text none some
input_over_one files name r s (over_large text named some many is) (over_unnamed u is2) = absurd (u named)
input_over_one files name r s (over_large text named some many is) (over_absent named2 none is2) = no_text (files name) text none some
input_over_one files name r s (over_large text named some many is) (over_large text2 named2 some2 many2 is2) = is ∙ sym is2
input_over_one files name r s (over_large text named some many is) (over_taken text2 named2 some2 few is2) = absurd (omega (arith, many, few, ap (λ (l : List ℕ). length l) (one_text (files name) text text2 some some2)))
input_over_one files name r s (over_taken text named some few is) (over_unnamed u is2) = absurd (u named)
input_over_one files name r s (over_taken text named some few is) (over_absent named2 none is2) = no_text (files name) text none some
input_over_one files name r s (over_taken text named some few is) (over_large text2 named2 some2 many is2) = absurd (omega (arith, many, few, ap (λ (l : List ℕ). length l) (one_text (files name) text text2 some some2)))
input_over_one files name r s (over_taken text named some few is) (over_taken text2 named2 some2 few2 is2) = is ∙ ap (λ (t : List ℕ). Ok t) (one_text (files name) text text2 some some2) ∙ sym is2

-- a name that is none is refused before anything is asked
pub input_unnamed : (name : Name) (es : List Event) (r : Result (List ℕ) Ending) → ¬ (IsName name) → InputReads name es r → (es ≡ []) × (r ≡ Err (Refused BadName))
input_unnamed name es r never (file_unnamed u is ends) = (is, ends)
input_unnamed name es r never (file_absent named is ends) = absurd (never named)
input_unnamed name es r never (file_large whole last these named came few many is ends) = absurd (never named)
input_unnamed name es r never (file_taken text these named taken few is ends) = absurd (never named)

-- all its events are answers
pub input_asked : (name : Name) (es : List Event) (r : Result (List ℕ) Ending) → InputReads name es r → (these : List Answer) × (es ≡ asked these)
input_asked name es r (file_unnamed u is ends) = ([], is)
input_asked name es r (file_absent named is ends) = (LengthWas name None ∷ [], is)
input_asked name es r (file_large whole last these named came few many is ends) = (these, is)
input_asked name es r (file_taken text these named taken few is ends) = (these, is)

-- it is done with its bytes alone
pub input_refuses : (name : Name) (es : List Event) (ending : Ending) → InputReads name es (Err ending) → ending ≡ Done → ⊥
input_refuses name es ending (file_unnamed u is ends) done = absurd (cc)
input_refuses name es ending (file_absent named is ends) done = absurd (cc)
input_refuses name es ending (file_large whole last these named came few many is ends) done = absurd (cc)
input_refuses name es ending (file_taken text these named taken few is ends) done = absurd (cc)
