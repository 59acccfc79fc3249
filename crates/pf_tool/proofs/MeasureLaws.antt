-- What the answers, and what files, decide of `measure`.
use Rattle.std.proofs.Common.{◌≡◌, ◌≢◌, ◌⊎◌, inl, inr, ⊎_elim, ℕ, Bool, true, false, ◌||◌, List, [], ◌∷◌, ◌++◌, length, refl, subst, ap, ap₂, ◌∙◌, sym, append_assoc, Option, Some, None, Result, Ok, Err}
use Rattle.std.specs.Prelude.{slice_get}
use Rattle.std.specs.List.{AllByRecursion, concat, list_any}
use Rattle.std.proofs.lemmas.List.{append-nil}
use Rattle.std.proofs.lemmas.List.Folds.{list_any-append}
use Rattle.enclave_measure.specs.declared.fault.LayoutFault.{LayoutFault}
use Rattle.enclave_measure.specs.declared.fault.MeasureFault.{MeasureFault}
use Rattle.enclave_measure.specs.declared.fault.MeasureFault.TheVariants as measures
use Rattle.enclave_measure.specs.declared.page.Page.{Page}
use Rattle.enclave_measure.specs.Pages.{Listed}
use Rattle.enclave_measure.specs.Layouts.{ReadsTo}
use Rattle.enclave_measure.specs.Measuring.{file_at, EndsAt, Measures, Whole, Ended, IsThere, IsFirstAbsent, MeasuresFiles, is_absence}
use Rattle.enclave_measure.proofs.Absent.{pages_there, absent_exactly}
use Rattle.enclave_measure.proofs.Measured.{of_files}
use Rattle.enclave_measure.proofs.OneMeasurement.{measures_one}
use Rattle.enclave_measure.proofs.OneOutcome.{reads_one}
use Rattle.enclave_measure.proofs.Places.{Places, Same, Before, After, places}
use Rattle.pf_io.specs.Disk.{Name, Files}
use Rattle.pf_io.specs.Host.{Answer, LengthWas, Both, IsMore}
use Rattle.pf_io.specs.Answered.{IsAnswerOf}
use Rattle.pf_io.specs.Names.{IsName}
use Rattle.pf_tool.specs.World.{World}
use Rattle.pf_tool.specs.Events.{Event, Puts, answers_in, words_in, pieces_in, bytes_in}
use Rattle.pf_tool.specs.Endings.{Ending, Done, Refused, BadName, BadLayout, Absent}
use Rattle.pf_tool.specs.InputFiles.{asked, InputReads, InputOver}
use Rattle.pf_tool.specs.Measuring.{sum_line, IsPageFile, PagesLead, page_absent, pages_measured, TextLeads, text_refused, text_listed, MeasureLeads, layout_unread, layout_read, MeasureOver, over_unread, over_refused, over_absent, over_measured, PutMeasurement}
use Rattle.pf_tool.proofs.Asking.{asked_answers, asked_words, asked_pieces, asked_then}
use Rattle.pf_tool.proofs.Composing.{answers_then, words_then, pieces_then, no_first}
use Rattle.pf_tool.proofs.DecryptLaws.{split_front}
use Rattle.pf_tool.proofs.Following.{all_split}
use Rattle.pf_tool.proofs.InputLaws.{input_one, input_words, input_pieces, input_silent, input_unnamed, input_asked, input_refuses, input_over, input_over_one}
use Rattle.pf_tool.proofs.LastAnswers.{EndsAnswered}

-- bytes that came are no refusal
not_both : {X : Type 0} (text : List ℕ) (ending : Ending) → Ok text ≡ Err ending → X
not_both text ending same = absurd (cc)

one_ending : (a b : Ending) → ◌≡◌ {A = Result (List ℕ) Ending} (Err a) (Err b) → a ≡ b
one_ending a b same = cc

one_bytes : (a b : List ℕ) → ◌≡◌ {A = Result (List ℕ) Ending} (Ok a) (Ok b) → a ≡ b
one_bytes a b same = cc

-- the answers of a measurement, and its line
line_answers : (these : List Answer) (p : List ℕ) → answers_in (asked these ++ Puts p ∷ []) ≡ these
line_answers these p = answers_then (asked these) (Puts p ∷ []) ∙ append-nil (answers_in (asked these)) ∙ asked_answers these

line_words : (these : List Answer) (p : List ℕ) → words_in (asked these ++ Puts p ∷ []) ≡ []
line_words these p = words_then (asked these) (Puts p ∷ []) ∙ append-nil (words_in (asked these)) ∙ asked_words these

line_pieces : (these : List Answer) (p : List ℕ) → pieces_in (asked these ++ Puts p ∷ []) ≡ p ∷ []
line_pieces these p = pieces_then (asked these) (Puts p ∷ []) ∙ ap (λ (l : List (List ℕ)). l ++ p ∷ []) (asked_pieces these)

-- where the words alone lead to an ending
measure_alone : (layout : Name) (ending : Ending) → MeasureLeads layout [] ending → (¬ (IsName layout)) × (ending ≡ Refused BadName)
measure_alone layout ending (layout_unread reads) = let u = input_silent layout (Err ending) reads in (u.0, one_ending ending (Refused BadName) u.1)
measure_alone layout ending (layout_read text front rest reads leads is) =
    let none = no_first front rest (sym is) in
    not_both text (Refused BadName) (input_silent layout (Ok text) (subst (λ (l : List Event). InputReads layout l (Ok text)) none reads)).1

pub measure_spoken : (layout : Name) (ending : Ending) → MeasureLeads layout [] ending → ending ≡ Refused BadName
measure_spoken layout ending leads = (measure_alone layout ending leads).1

pub measure_silent : (layout : Name) (ending other : Ending) (es : List Event) → MeasureLeads layout [] ending → MeasureLeads layout es other → (es ≡ []) × (ending ≡ other)
measure_silent layout ending other es first (layout_unread reads) =
    let alone = measure_alone layout ending first in
    let u = input_unnamed layout es (Err other) alone.0 reads in
    (u.0, alone.1 ∙ sym (one_ending other (Refused BadName) u.1))
measure_silent layout ending other es first (layout_read text front rest reads leads is) =
    not_both text (Refused BadName) (input_unnamed layout front (Ok text) (measure_alone layout ending first).0 reads).1

-- no random word is drawn
text_words : (text : List ℕ) (es : List Event) (ending : Ending) → TextLeads text es ending → words_in es ≡ []
text_words text es ending (text_refused fault lists is ends) = ap (λ (l : List Event). words_in l) is
text_words text es ending (text_listed layout lists (page_absent these page name measured named is ends)) = ap (λ (l : List Event). words_in l) is ∙ asked_words these
text_words text es ending (text_listed layout lists (pages_measured these sum measured is ends)) = ap (λ (l : List Event). words_in l) is ∙ line_words these (sum_line sum)

pub measure_undrawn : (layout : Name) (es : List Event) (ending : Ending) → MeasureLeads layout es ending → words_in es ≡ []
measure_undrawn layout es ending (layout_unread reads) = input_words layout es (Err ending) reads
measure_undrawn layout es ending (layout_read text front rest reads leads is) =
    ap (λ (l : List Event). words_in l) is ∙ words_then front rest ∙ ap₂ (λ (a b : List (List ℕ)). a ++ b) (input_words layout front (Ok text) reads) (text_words text rest ending leads)

-- a refusal comes of answers alone
text_asked : (text : List ℕ) (es : List Event) (ending : Ending) → ending ≢ Done → TextLeads text es ending → (these : List Answer) × (es ≡ asked these)
text_asked text es ending other (text_refused fault lists is ends) = ([], is)
text_asked text es ending other (text_listed layout lists (page_absent these page name measured named is ends)) = (these, is)
text_asked text es ending other (text_listed layout lists (pages_measured these sum measured is ends)) = absurd (other ends)

measure_asked : (layout : Name) (es : List Event) (ending : Ending) → ending ≢ Done → MeasureLeads layout es ending → (these : List Answer) × (es ≡ asked these)
measure_asked layout es ending other (layout_unread reads) = input_asked layout es (Err ending) reads
measure_asked layout es ending other (layout_read text front rest reads leads is) =
    let first = input_asked layout front (Ok text) reads in
    let second = text_asked text rest ending other leads in
    (first.0 ++ second.0, is ∙ ap₂ (λ (a b : List Event). a ++ b) first.1 second.1 ∙ sym (asked_then first.0 second.0))

ends_asked : (these : List Answer) → EndsAnswered (asked these)
ends_asked [] = tt
ends_asked (answer ∷ []) = tt
ends_asked (answer ∷ next ∷ these) = ends_asked (next ∷ these)

pub measure_answered : (layout : Name) (es : List Event) (ending : Ending) → MeasureLeads layout es ending → ending ≢ Done → EndsAnswered es
measure_answered layout es ending leads other =
    let all = measure_asked layout es ending other leads in
    subst EndsAnswered (sym all.1) (ends_asked all.0)

-- two lists of answers with a first absence each
or_false : (a b : Bool) → (a || b) ≡ false → b ≡ false
or_false true b is = absurd (cc)
or_false false b is = is

absence_first : (answer : Answer) (name : Name) (rest : List Answer) → LengthWas name None ≡ answer → list_any is_absence (answer ∷ rest) ≡ false → ⊥
absence_first answer name rest same none =
    let found : list_any is_absence (LengthWas name None ∷ rest) ≡ false = ap (λ (a : Answer). list_any is_absence (a ∷ rest)) same ∙ none in
    absurd (cc)

behind_absence : (a b : List Answer) (n m : Name) (u v : List Answer) → list_any is_absence a ≡ false → list_any is_absence b ≡ false → a ++ LengthWas n None ∷ u ≡ b ++ LengthWas m None ∷ v → u ≡ v
behind_absence [] [] n m u v none none2 same = cc
behind_absence [] (y ∷ b) n m u v none none2 same =
    let first : LengthWas n None ≡ y = cc in
    absurd (absence_first y n b first none2)
behind_absence (x ∷ a) [] n m u v none none2 same =
    let first : LengthWas m None ≡ x = cc in
    absurd (absence_first x m a first none)
behind_absence (x ∷ a) (y ∷ b) n m u v none none2 same =
    let rest : a ++ LengthWas n None ∷ u ≡ b ++ LengthWas m None ∷ v = cc in
    behind_absence a b n m u v (or_false (is_absence x) (list_any is_absence a) none) (or_false (is_absence y) (list_any is_absence b) none2) rest

-- the answers of a measurement that ended at an absent file
record Absence (these : List Answer) : Type 0 where
  before : List Answer
  name : Name
  there : list_any is_absence before ≡ false
  all : these ≡ before ++ LengthWas name None ∷ []

absence_of : (layout : Listed) (these : List Answer) (page : ℕ) → Measures layout these (Err (measures.NotFound page)) → Absence these
absence_of layout these page (Whole contents gives is) = absurd (cc)
absence_of layout these page (Ended front here others before last contents name at fault whole gives of ends said is) =
    let same : fault ≡ measures.NotFound page = cc in
    let at_end : (page ≡ length front) × (last ≡ LengthWas name None ∷ []) = subst (λ (f : MeasureFault). EndsAt (length front) name last f) same ends in
    record { before = before; name = name; there = pages_there front before contents gives; all = said ∙ ap (λ (l : List Answer). before ++ l) at_end.1 }

module _ (layout : Listed) (these those more : List Answer) (same : these ++ more ≡ those) where
  none_behind : (page other : ℕ) → Measures layout these (Err (measures.NotFound page)) → Measures layout those (Err (measures.NotFound other)) → more ≡ []
  none_behind page other first second =
      let a = absence_of layout these page first in
      let b = absence_of layout those other second in
      behind_absence a.before b.before a.name b.name more [] a.there b.there
      (sym (append_assoc a.before (LengthWas a.name None ∷ []) more) ∙ ap (λ (l : List Answer). l ++ more) (sym a.all) ∙ same ∙ b.all)

  never_whole : {X : Type 0} (page : ℕ) (sum : List ℕ) → Measures layout these (Err (measures.NotFound page)) → Measures layout those (Ok sum) → X
  never_whole page sum first second =
      let some = (absent_exactly layout these (Err (measures.NotFound page)) first).0 (page, refl) in
      let all : list_any is_absence those ≡ true = ap (λ (l : List Answer). list_any is_absence l) (sym same) ∙ list_any-append is_absence these more ∙ ap (λ (b : Bool). b || list_any is_absence more) some in
      let none = (absent_exactly layout those (Ok sum) second).1 all in
      let apart : ◌≡◌ {A = Result (List ℕ) MeasureFault} (Ok sum) (Err (measures.NotFound none.0)) = none.1 in
      absurd (cc)

one_place : (a b : ℕ) → ◌≡◌ {A = Result (List ℕ) MeasureFault} (Err (measures.NotFound a)) (Err (measures.NotFound b)) → a ≡ b
one_place a b same = cc

one_name : (o : Option Name) (a b : Name) → o ≡ Some a → o ≡ Some b → a ≡ b
one_name o a b is is2 = cc

-- the same answers, and more behind them where they lead to a refusal
abbrev Alike : Ending → Ending → List Answer → Type 0
Alike e f more = (e ≡ f) × (more ≡ [])

pages_alike : (layout : Listed) (es others : List Event) (more : List Answer) (e f : Ending) → PagesLead layout es e → PagesLead layout others f → answers_in es ++ more ≡ answers_in others → (e ≢ Done) ⊎ (more ≡ []) → Alike e f more
pages_alike layout es others more e f (page_absent these page name measured named is ends) (page_absent those other name2 measured2 named2 is2 ends2) same may =
    let all : these ++ more ≡ those = ap (λ (l : List Answer). l ++ more) (sym (ap (λ (l : List Event). answers_in l) is ∙ asked_answers these)) ∙ same ∙ ap (λ (l : List Event). answers_in l) is2 ∙ asked_answers those in
    let none = none_behind layout these those more all page other measured measured2 in
    let whole : these ≡ those = sym (append-nil these) ∙ ap (λ (l : List Answer). these ++ l) (sym none) ∙ all in
    let place = one_place page other (measures_one layout those (Err (measures.NotFound page)) (Err (measures.NotFound other)) (subst (λ (l : List Answer). Measures layout l (Err (measures.NotFound page))) whole measured) measured2 tt tt) in
    let names = one_name (file_at (slice_get layout.pages other)) name name2 (subst (λ (k : ℕ). IsPageFile layout k name) place named) named2 in
    (ends ∙ ap (λ (n : Name). Refused (Absent n)) names ∙ sym ends2, none)
pages_alike layout es others more e f (page_absent these page name measured named is ends) (pages_measured those sum measured2 is2 ends2) same may =
    let all : these ++ more ≡ those = ap (λ (l : List Answer). l ++ more) (sym (ap (λ (l : List Event). answers_in l) is ∙ asked_answers these)) ∙ same ∙ ap (λ (l : List Event). answers_in l) is2 ∙ line_answers those (sum_line sum) in
    never_whole layout these those more all page sum measured measured2
pages_alike layout es others more e f (pages_measured these sum measured is ends) second same (inl other) = absurd (other ends)
pages_alike layout es others more e f (pages_measured these sum measured is ends) (page_absent those page name measured2 named is2 ends2) same (inr none) =
    let whole : these ++ [] ≡ those = ap (λ (l : List Answer). these ++ l) (sym none) ∙ ap (λ (l : List Answer). l ++ more) (sym (ap (λ (l : List Event). answers_in l) is ∙ line_answers these (sum_line sum))) ∙ same
    ∙ ap (λ (l : List Event). answers_in l) is2 ∙ asked_answers those in
    never_whole layout those these [] (append-nil those ∙ sym whole ∙ append-nil these) page sum measured2 measured
pages_alike layout es others more e f (pages_measured these sum measured is ends) (pages_measured those sum2 measured2 is2 ends2) same (inr none) = (ends ∙ sym ends2, none)

one_fault : (a b : LayoutFault) → ◌≡◌ {A = Result Listed LayoutFault} (Err a) (Err b) → a ≡ b
one_fault a b same = cc

one_layout : (a b : Listed) → ◌≡◌ {A = Result Listed LayoutFault} (Ok a) (Ok b) → a ≡ b
one_layout a b same = cc

listed_not : {X : Type 0} (layout : Listed) (fault : LayoutFault) → Ok layout ≡ Err fault → X
listed_not layout fault same = absurd (cc)

text_alike : (text : List ℕ) (es others : List Event) (more : List Answer) (e f : Ending) → TextLeads text es e → TextLeads text others f → answers_in es ++ more ≡ answers_in others → (e ≢ Done) ⊎ (more ≡ []) → Alike e f more
text_alike text es others more e f (text_refused fault lists is ends) (text_refused fault2 lists2 is2 ends2) same may =
    let one = one_fault fault fault2 (reads_one text (Err fault) (Err fault2) lists lists2) in
    (ends ∙ ap (λ (x : LayoutFault). Refused (BadLayout x)) one ∙ sym ends2, ap (λ (l : List Event). answers_in l ++ more) (sym is) ∙ same ∙ ap (λ (l : List Event). answers_in l) is2)
text_alike text es others more e f (text_refused fault lists is ends) (text_listed layout lists2 leads) same may = listed_not layout fault (reads_one text (Ok layout) (Err fault) lists2 lists)
text_alike text es others more e f (text_listed layout lists leads) (text_refused fault lists2 is ends) same may = listed_not layout fault (reads_one text (Ok layout) (Err fault) lists lists2)
text_alike text es others more e f (text_listed layout lists leads) (text_listed layout2 lists2 leads2) same may =
    let one = one_layout layout2 layout (reads_one text (Ok layout2) (Ok layout) lists2 lists) in
    pages_alike layout es others more e f leads (subst (λ (l : Listed). PagesLead l others f) one leads2) same may

measure_alike : (layout : Name) (es others : List Event) (more : List Answer) (e f : Ending) → MeasureLeads layout es e → MeasureLeads layout others f → answers_in es ++ more ≡ answers_in others → (e ≢ Done) ⊎ (more ≡ []) → Alike e f more
measure_alike layout es others more e f (layout_unread reads) (layout_unread reads2) same may =
    let one = input_one layout es others more [] (same ∙ sym (append-nil (answers_in others))) (Err e) (Err f) reads reads2 in
    (one_ending e f one.1, one.2)
measure_alike layout es others more e f (layout_unread reads) (layout_read text front rest reads2 leads is) same may =
    let all : answers_in es ++ more ≡ answers_in front ++ answers_in rest = same ∙ ap (λ (l : List Event). answers_in l) is ∙ answers_then front rest in
    not_both text e (sym (input_one layout es front more (answers_in rest) all (Err e) (Ok text) reads reads2).1)
measure_alike layout es others more e f (layout_read text front rest reads leads is) (layout_unread reads2) same may =
    let all : answers_in front ++ (answers_in rest ++ more) ≡ answers_in others ++ [] =
    sym (append_assoc (answers_in front) (answers_in rest) more) ∙ ap (λ (l : List Answer). l ++ more) (sym (ap (λ (l : List Event). answers_in l) is ∙ answers_then front rest)) ∙ same ∙ sym (append-nil (answers_in others)) in
    not_both text f (input_one layout front others (answers_in rest ++ more) [] all (Ok text) (Err f) reads reads2).1
measure_alike layout es others more e f (layout_read text front rest reads leads is) (layout_read text2 front2 rest2 reads2 leads2 is2) same may =
    let all : answers_in front ++ (answers_in rest ++ more) ≡ answers_in front2 ++ answers_in rest2 =
    sym (append_assoc (answers_in front) (answers_in rest) more) ∙ ap (λ (l : List Answer). l ++ more) (sym (ap (λ (l : List Event). answers_in l) is ∙ answers_then front rest)) ∙ same ∙ ap (λ (l : List Event). answers_in l) is2 ∙ answers_then front2 rest2 in
    let one = input_one layout front front2 (answers_in rest ++ more) (answers_in rest2) all (Ok text) (Ok text2) reads reads2 in
    text_alike text rest rest2 more e f leads (subst (λ (t : List ℕ). TextLeads t rest2 f) (one_bytes text2 text (sym one.1)) leads2) one.2 may

-- the same answers lead to one ending
pub measure_one : (layout : Name) (es others : List Event) (ending other : Ending) → MeasureLeads layout es ending → MeasureLeads layout others other → answers_in es ≡ answers_in others → ending ≡ other
measure_one layout es others ending other first second same = (measure_alike layout es others [] ending other first second (append-nil (answers_in es) ∙ same) (inr refl)).0

-- behind the answers of a refusal comes none
pub measure_no_more : (layout : Name) (es others : List Event) (more : List Answer) (ending other : Ending) → ending ≢ Done → MeasureLeads layout es ending → MeasureLeads layout others other → answers_in es ++ more ≡ answers_in others → more ≡ []
measure_no_more layout es others more ending other refused first second same = (measure_alike layout es others more ending other first second same (inl refused)).1

-- what came of what files answered is what they give
module _ (layout : Name) (files : Files) where
  text_over : (text : List ℕ) (es : List Event) (ending : Ending) → InputOver files layout (Ok text) → TextLeads text es ending → AllByRecursion (IsAnswerOf files) (answers_in es) → MeasureOver layout files (pieces_in es) ending
  text_over text es ending over (text_refused fault lists is ends) all = over_refused text fault over lists (ap (λ (l : List Event). pieces_in l) is) ends
  text_over text es ending over (text_listed listed lists (page_absent these page name measured named is ends)) all =
      over_absent text listed page name over lists
      (of_files files listed these (Err (measures.NotFound page)) (subst (λ (l : List Answer). AllByRecursion (IsAnswerOf files) l) (ap (λ (l : List Event). answers_in l) is ∙ asked_answers these) all) measured)
      named (ap (λ (l : List Event). pieces_in l) is ∙ asked_pieces these) ends
  text_over text es ending over (text_listed listed lists (pages_measured these sum measured is ends)) all =
      over_measured text listed sum over lists (of_files files listed these (Ok sum) (subst (λ (l : List Answer). AllByRecursion (IsAnswerOf files) l) (ap (λ (l : List Event). answers_in l) is ∙ line_answers these (sum_line sum)) all) measured)
      (ap (λ (l : List Event). pieces_in l) is ∙ line_pieces these (sum_line sum)) ends

  pub measure_over : (es : List Event) (ending : Ending) → MeasureLeads layout es ending → AllByRecursion (IsAnswerOf files) (answers_in es) → MeasureOver layout files (pieces_in es) ending
  measure_over es ending (layout_unread reads) all = over_unread (input_over files layout es (Err ending) reads all) (input_pieces layout es (Err ending) reads)
  measure_over es ending (layout_read text front rest reads leads is) all =
      let both = all_split (IsAnswerOf files) (answers_in front) (answers_in rest) (subst (λ (l : List Answer). AllByRecursion (IsAnswerOf files) l) (ap (λ (l : List Event). answers_in l) is ∙ answers_then front rest) all) in
      let pieces : pieces_in es ≡ pieces_in rest = ap (λ (l : List Event). pieces_in l) is ∙ pieces_then front rest ∙ ap (λ (l : List (List ℕ)). l ++ pieces_in rest) (input_pieces layout front (Ok text) reads) in
      subst (λ (l : List (List ℕ)). MeasureOver layout files l ending) (sym pieces) (text_over text rest ending (input_over files layout front (Ok text) reads both.0) leads both.1)

  -- files are measured to one outcome
  there_at : (front : List Page) (page : Page) (others : List Page) → AllByRecursion (IsThere files) (front ++ page ∷ others) → IsThere files page
  there_at [] page others all = all.0
  there_at (first ∷ front) page others all = there_at front page others all.1

  absent_not : {X : Type 0} (pages : List Page) (place : ℕ) → AllByRecursion (IsThere files) pages → IsFirstAbsent files pages place → X
  absent_not pages place all first = absurd (there_at first.front first.page first.others (subst (λ (l : List Page). AllByRecursion (IsThere files) l) first.whole all) first.name first.at first.of_file first.absent)

  first_one : (pages : List Page) (a b : ℕ) → IsFirstAbsent files pages a → IsFirstAbsent files pages b → a ≡ b
  first_one pages a b one two = by_places (places one.front two.front one.page two.page one.others two.others (sym one.whole ∙ two.whole)) where
    by_places : Places one.front two.front one.page two.page → a ≡ b
    by_places (Same fronts same) = one.place_is ∙ ap (λ (l : List Page). length l) fronts ∙ sym two.place_is
    by_places (Before more is) = absurd (there_at one.front one.page more (subst (λ (l : List Page). AllByRecursion (IsThere files) l) is two.there) one.name one.at one.of_file one.absent)
    by_places (After more is) = absurd (there_at two.front two.page more (subst (λ (l : List Page). AllByRecursion (IsThere files) l) is one.there) two.name two.at two.of_file two.absent)

  -- files give one line and one ending
  same_layout : (text text2 : List ℕ) (listed listed2 : Listed) → InputOver files layout (Ok text) → InputOver files layout (Ok text2) → ReadsTo text (Ok listed) → ReadsTo text2 (Ok listed2) → listed2 ≡ listed
  same_layout text text2 listed listed2 over over2 lists lists2 =
      let one = one_bytes text2 text (input_over_one files layout (Ok text2) (Ok text) over2 over) in
      one_layout listed2 listed (reads_one text (Ok listed2) (Ok listed) (subst (λ (t : List ℕ). ReadsTo t (Ok listed2)) one lists2) lists)

  never_listed : {X : Type 0} (text text2 : List ℕ) (listed : Listed) (fault : LayoutFault) → InputOver files layout (Ok text) → InputOver files layout (Ok text2) → ReadsTo text (Ok listed) → ReadsTo text2 (Err fault) → X
  never_listed text text2 listed fault over over2 lists lists2 =
      let one = one_bytes text2 text (input_over_one files layout (Ok text2) (Ok text) over2 over) in
      listed_not listed fault (reads_one text (Ok listed) (Err fault) lists (subst (λ (t : List ℕ). ReadsTo t (Err fault)) one lists2))

  never_read : {X : Type 0} (text : List ℕ) (ending : Ending) → InputOver files layout (Err ending) → InputOver files layout (Ok text) → X
  never_read text ending over over2 = not_both text ending (input_over_one files layout (Ok text) (Err ending) over2 over)

  pub measure_over_one : (pieces others : List (List ℕ)) (ending other : Ending) → MeasureOver layout files pieces ending → MeasureOver layout files others other → (pieces ≡ others) × (ending ≡ other)
  measure_over_one pieces others ending other (over_unread over none) (over_unread over2 none2) = (none ∙ sym none2, one_ending ending other (input_over_one files layout (Err ending) (Err other) over over2))
  measure_over_one pieces others ending other (over_unread over none) (over_refused text fault over2 lists none2 ends2) = never_read text ending over over2
  measure_over_one pieces others ending other (over_unread over none) (over_absent text listed page name over2 lists measured named none2 ends2) = never_read text ending over over2
  measure_over_one pieces others ending other (over_unread over none) (over_measured text listed sum over2 lists measured put ends2) = never_read text ending over over2
  measure_over_one pieces others ending other (over_refused text fault over lists none ends) (over_unread over2 none2) = never_read text other over2 over
  measure_over_one pieces others ending other (over_refused text fault over lists none ends) (over_refused text2 fault2 over2 lists2 none2 ends2) =
      let one = one_bytes text2 text (input_over_one files layout (Ok text2) (Ok text) over2 over) in
      let same = one_fault fault fault2 (reads_one text (Err fault) (Err fault2) lists (subst (λ (t : List ℕ). ReadsTo t (Err fault2)) one lists2)) in
      (none ∙ sym none2, ends ∙ ap (λ (x : LayoutFault). Refused (BadLayout x)) same ∙ sym ends2)
  measure_over_one pieces others ending other (over_refused text fault over lists none ends) (over_absent text2 listed page name over2 lists2 measured named none2 ends2) = never_listed text2 text listed fault over2 over lists2 lists
  measure_over_one pieces others ending other (over_refused text fault over lists none ends) (over_measured text2 listed sum over2 lists2 measured put ends2) = never_listed text2 text listed fault over2 over lists2 lists
  measure_over_one pieces others ending other (over_absent text listed page name over lists measured named none ends) (over_unread over2 none2) = never_read text other over2 over
  measure_over_one pieces others ending other (over_absent text listed page name over lists measured named none ends) (over_refused text2 fault over2 lists2 none2 ends2) = never_listed text text2 listed fault over over2 lists lists2
  measure_over_one pieces others ending other (over_absent text listed page name over lists measured named none ends) (over_absent text2 listed2 page2 name2 over2 lists2 measured2 named2 none2 ends2) =
      let same = same_layout text text2 listed listed2 over over2 lists lists2 in
      let place = first_one listed.pages page2 page (subst (λ (l : Listed). IsFirstAbsent files l.pages page2) same measured2) measured in
      let named_so : IsPageFile listed page name2 = subst (λ (k : ℕ). IsPageFile listed k name2) place (subst (λ (l : Listed). IsPageFile l page2 name2) same named2) in
      (none ∙ sym none2, ends ∙ ap (λ (n : Name). Refused (Absent n)) (one_name (file_at (slice_get listed.pages page)) name name2 named named_so) ∙ sym ends2)
  measure_over_one pieces others ending other (over_absent text listed page name over lists measured named none ends) (over_measured text2 listed2 sum over2 lists2 measured2 put ends2) =
      absent_not listed.pages page (subst (λ (l : Listed). AllByRecursion (IsThere files) l.pages) (same_layout text text2 listed listed2 over over2 lists lists2) measured2.0) measured
  measure_over_one pieces others ending other (over_measured text listed sum over lists measured put ends) (over_unread over2 none2) = never_read text other over2 over
  measure_over_one pieces others ending other (over_measured text listed sum over lists measured put ends) (over_refused text2 fault over2 lists2 none2 ends2) = never_listed text text2 listed fault over over2 lists lists2
  measure_over_one pieces others ending other (over_measured text listed sum over lists measured put ends) (over_absent text2 listed2 page name over2 lists2 measured2 named none2 ends2) =
      absent_not listed.pages page measured.0 (subst (λ (l : Listed). IsFirstAbsent files l.pages page) (same_layout text text2 listed listed2 over over2 lists lists2) measured2)
  measure_over_one pieces others ending other (over_measured text listed sum over lists measured put ends) (over_measured text2 listed2 sum2 over2 lists2 measured2 put2 ends2) =
      let same = same_layout text text2 listed listed2 over over2 lists lists2 in
      let again : MeasuresFiles files listed (Ok sum2) = subst (λ (l : Listed). MeasuresFiles files l (Ok sum2)) same measured2 in
      let sums : sum ≡ sum2 = measured.1 ∙ sym again.1 in
      (put ∙ ap (λ (s : List ℕ). sum_line s ∷ []) sums ∙ sym put2, ends ∙ sym ends2)

  -- so far the output took a front of it: nothing, or the line behind all else
  text_last : (text : List ℕ) (es : List Event) (ending : Ending) → TextLeads text es ending → (pieces_in es ≡ []) ⊎ ((xs : List Event) × (p : List ℕ) × (es ≡ xs ++ Puts p ∷ []) × (pieces_in xs ≡ []))
  text_last text es ending (text_refused fault lists is ends) = inl (ap (λ (l : List Event). pieces_in l) is)
  text_last text es ending (text_listed listed lists (page_absent these page name measured named is ends)) = inl (ap (λ (l : List Event). pieces_in l) is ∙ asked_pieces these)
  text_last text es ending (text_listed listed lists (pages_measured these sum measured is ends)) = inr (asked these, sum_line sum, is, asked_pieces these)

  measure_last : (es : List Event) (ending : Ending) → MeasureLeads layout es ending → (pieces_in es ≡ []) ⊎ ((xs : List Event) × (p : List ℕ) × (es ≡ xs ++ Puts p ∷ []) × (pieces_in xs ≡ []))
  measure_last es ending (layout_unread reads) = inl (input_pieces layout es (Err ending) reads)
  measure_last es ending (layout_read text front rest reads leads is) =
      let none = input_pieces layout front (Ok text) reads in
      ⊎_elim (λ no_piece. inl (ap (λ (l : List Event). pieces_in l) is ∙ pieces_then front rest ∙ ap₂ (λ (a b : List (List ℕ)). a ++ b) none no_piece))
      (λ last. inr (front ++ last.0, last.1, is ∙ ap (λ (l : List Event). front ++ l) last.2 ∙ sym (append_assoc front last.0 (Puts last.1 ∷ [])), pieces_then front last.0 ∙ ap₂ (λ (a b : List (List ℕ)). a ++ b) none last.3))
      (text_last text rest ending leads)

  none_put : (pieces : List (List ℕ)) (es : List Event) → pieces_in es ≡ [] → (rest : List ℕ) × (concat pieces ≡ bytes_in es ++ rest)
  none_put pieces es none = (concat pieces, ap (λ (l : List (List ℕ)). concat l ++ concat pieces) (sym none))

  alone_behind : (event : Event) (r more : List Event) (p : List ℕ) → (event ∷ r) ++ more ≡ Puts p ∷ [] → more ≡ []
  alone_behind event [] more p same = cc
  alone_behind event (x ∷ r) more p same = absurd (cc)

  pub measure_front : (es more : List Event) (ending given : Ending) (pieces : List (List ℕ)) → MeasureLeads layout (es ++ more) ending → AllByRecursion (IsAnswerOf files) (answers_in es) → MeasureOver layout files pieces given → (rest : List ℕ) × (concat pieces ≡ bytes_in es ++ rest)
  measure_front es more ending given pieces leads all gives = by_last (measure_last (es ++ more) ending leads) where
    whole : more ≡ [] → (rest : List ℕ) × (concat pieces ≡ bytes_in es ++ rest)
    whole none =
        let over = measure_over es ending (subst (λ (l : List Event). MeasureLeads layout l ending) (ap (λ (l : List Event). es ++ l) none ∙ append-nil es) leads) all in
        let one = measure_over_one pieces (pieces_in es) given ending gives over in
        ([], ap (λ (l : List (List ℕ)). concat l) one.0 ∙ sym (append-nil (bytes_in es)))

    by_rest : (xs rest : List Event) (p : List ℕ) → pieces_in xs ≡ [] → es ≡ xs ++ rest → rest ++ more ≡ Puts p ∷ [] → (rest : List ℕ) × (concat pieces ≡ bytes_in es ++ rest)
    by_rest xs [] p none is same = none_put pieces es (ap (λ (l : List Event). pieces_in l) (is ∙ append-nil xs) ∙ none)
    by_rest xs (event ∷ r) p none is same = whole (alone_behind event r more p same)

    by_last : (pieces_in (es ++ more) ≡ []) ⊎ ((xs : List Event) × (p : List ℕ) × (es ++ more ≡ xs ++ Puts p ∷ []) × (pieces_in xs ≡ [])) → (rest : List ℕ) × (concat pieces ≡ bytes_in es ++ rest)
    by_last (inl none) = none_put pieces es (no_first (pieces_in es) (pieces_in more) (sym (pieces_then es more) ∙ none))
    by_last (inr (xs, p, is, none)) = ⊎_elim (λ no_piece. none_put pieces es no_piece) (λ behind. by_rest xs behind.0 p none behind.1 behind.2) (split_front xs (Puts p ∷ []) es more is none)

-- what came where the work is done
pub measure_put : (layout : Name) (es : List Event) (ending : Ending) (these : List Answer) (old new : World) → MeasureLeads layout es ending → ending ≡ Done → answers_in es ≡ these → Both old.out.bytes new.out.bytes (IsMore (concat (pieces_in es))) → PutMeasurement layout these old new
measure_put layout es ending these old new (layout_unread reads) done same took = absurd (input_refuses layout es ending reads done)
measure_put layout es ending these old new (layout_read text front rest reads (text_refused fault lists is ends) all) done same took = absurd (cc)
measure_put layout es ending these old new (layout_read text front rest reads (text_listed listed lists (page_absent those page name measured named is ends)) all) done same took = absurd (cc)
measure_put layout es ending these old new (layout_read text front rest reads (text_listed listed lists (pages_measured those sum measured is ends)) all) done same took =
    let first = input_asked layout front (Ok text) reads in
    let answers : answers_in es ≡ first.0 ++ those = ap (λ (l : List Event). answers_in l) all ∙ answers_then front rest
    ∙ ap₂ (λ (a b : List Answer). a ++ b) (ap (λ (l : List Event). answers_in l) first.1 ∙ asked_answers first.0) (ap (λ (l : List Event). answers_in l) is ∙ line_answers those (sum_line sum)) in
    let pieces : pieces_in es ≡ sum_line sum ∷ [] = ap (λ (l : List Event). pieces_in l) all ∙ pieces_then front rest ∙ ap (λ (l : List (List ℕ)). l ++ pieces_in rest) (input_pieces layout front (Ok text) reads)
    ∙ ap (λ (l : List Event). pieces_in l) is ∙ line_pieces those (sum_line sum) in
    record {
      text = text;
      listed = listed;
      sum = sum;
      of_text = first.0;
      of_pages = those;
      all = sym same ∙ answers;
      read = subst (λ (l : List Event). InputReads layout l (Ok text)) first.1 reads;
      lists = lists;
      measured = measured;
      put = subst (λ (l : List ℕ). Both old.out.bytes new.out.bytes (IsMore l)) (ap (λ (l : List (List ℕ)). concat l) pieces ∙ append-nil (sum_line sum)) took;
    }
