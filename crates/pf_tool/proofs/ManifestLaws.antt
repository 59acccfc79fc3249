-- What answers, and what files, decide of `manifest`.
use Rattle.std.proofs.Common.{◌≡◌, ◌≢◌, ◌⊎◌, inl, inr, ⊎_elim, ℕ, ◌≤◌, List, [], ◌∷◌, ◌++◌, length, map, refl, subst, ap, ◌∙◌, sym, Option, Some, None, Result, Ok, Err}
use Rattle.std.specs.List.{AllByRecursion, concat}
use Rattle.std.proofs.lemmas.List.{append-nil}
use Rattle.std.proofs.lemmas.List.Folds.{concat-append}
use Rattle.template_text.specs.Rendering.{Values}
use Rattle.pf_io.specs.Disk.{Name, Files}
use Rattle.pf_io.specs.Host.{Answer, LengthWas}
use Rattle.pf_io.specs.Answered.{IsAnswerOf}
use Rattle.pf_io.specs.Names.{IsName, side_of}
use Rattle.pf_io.specs.SideFile.{file_steps}
use Rattle.pf_io.specs.Slices.{IsTaken}
use Rattle.pf_tool.specs.Events.{Event, Answers, Draws, Puts, answers_in, words_in, pieces_in, bytes_in}
use Rattle.pf_tool.specs.Endings.{Ending, Done, Refused, BadName}
use Rattle.pf_tool.specs.InputFiles.{MOST_INPUT, asked, InputReads, file_unnamed, file_absent, file_large, file_taken, InputOver}
use Rattle.pf_tool.specs.Manifests.{FitsOutput, out_events, out_pieces, out_answers, WritesManifest, text_refused, text_written, ManifestLeads, output_unfit, template_unread, template_read, ManifestOver, over_unfit, over_unread, over_refused, over_written}
use Rattle.pf_tool.specs.Rendering.{Renders, no_text, no_template, no_manifest, manifest_text}
use Rattle.pf_tool.specs.TextOutput.{pieces_of}
use Rattle.pf_tool.proofs.Asking.{asked_answers, asked_words, asked_pieces}
use Rattle.pf_tool.proofs.Composing.{answers_then, words_then, pieces_then, no_first}
use Rattle.pf_tool.proofs.Following.{all_split}
use Rattle.pf_tool.proofs.InputLaws.{input_words, input_pieces, input_silent, input_one, input_over, input_over_one}
use Rattle.pf_tool.proofs.LastAnswers.{EndsAnswered}
use Rattle.pf_tool.proofs.RenderLaws.{apart_render, same_text, same_refusal}
use Rattle.pf_tool.proofs.TextPutting.{puts_answers, puts_words, puts_pieces}

-- the events of the text's way

out_words : (output : Option Name) (text : List ℕ) → words_in (out_events output text) ≡ []
out_words None text = puts_words (pieces_of text)
out_words (Some output) text = asked_words (file_steps output (side_of output) text)

out_pieces_in : (output : Option Name) (text : List ℕ) → pieces_in (out_events output text) ≡ out_pieces output text
out_pieces_in None text = puts_pieces (pieces_of text)
out_pieces_in (Some output) text = asked_pieces (file_steps output (side_of output) text)

-- events that only ask end with an answer, or there is none
pub asked_last : (these : List Answer) → EndsAnswered (asked these)
asked_last [] = tt
asked_last (a ∷ []) = tt
asked_last (a ∷ b ∷ these) = asked_last (b ∷ these)

reading_last : (name : Name) (es : List Event) (r : Result (List ℕ) Ending) → InputReads name es r → EndsAnswered es
reading_last name es r (file_unnamed u is ends) = subst EndsAnswered (sym is) tt
reading_last name es r (file_absent named is ends) = subst EndsAnswered (sym is) tt
reading_last name es r (file_large whole last these named came few many is ends) = subst EndsAnswered (sym is) (asked_last these)
reading_last name es r (file_taken text these named taken few is ends) = subst EndsAnswered (sym is) (asked_last these)

-- a name that is none is refused, and nothing is asked
unnamed_reads : (name : Name) (es : List Event) (r : Result (List ℕ) Ending) → ¬ (IsName name) → InputReads name es r → (es ≡ []) × (r ≡ Err (Refused BadName))
unnamed_reads name es r unnamed (file_unnamed u is ends) = (is, ends)
unnamed_reads name es r unnamed (file_absent named is ends) = absurd (unnamed named)
unnamed_reads name es r unnamed (file_large whole last these named came few many is ends) = absurd (unnamed named)
unnamed_reads name es r unnamed (file_taken text these named taken few is ends) = absurd (unnamed named)

apart_results : {X : Type 0} (bytes : List ℕ) (ending : Ending) → ◌≡◌ {A = Result (List ℕ) Ending} (Ok bytes) (Err ending) → X
apart_results bytes ending same = absurd (cc)

same_bytes : (bytes other : List ℕ) → ◌≡◌ {A = Result (List ℕ) Ending} (Ok bytes) (Ok other) → bytes ≡ other
same_bytes bytes other same = cc

same_endings : (ending other : Ending) → ◌≡◌ {A = Result (List ℕ) Ending} (Err ending) (Err other) → ending ≡ other
same_endings ending other same = cc

module _ (values : Values) (template : Name) (output : Option Name) where
  abbrev Leading : List Event → Ending → Type 0
  Leading es ending = ManifestLeads values template output es ending

  -- nothing is drawn
  rest_words : (bytes : List ℕ) (rest : List Event) (ending : Ending) → WritesManifest values output bytes rest ending → words_in rest ≡ []
  rest_words bytes rest ending (text_refused renders is) = ap (λ (l : List Event). words_in l) is
  rest_words bytes rest ending (text_written text renders is ends) = ap (λ (l : List Event). words_in l) is ∙ out_words output text

  pub manifest_undrawn : (es : List Event) (ending : Ending) → ManifestLeads values template output es ending → words_in es ≡ []
  manifest_undrawn es ending (output_unfit unfit is ends) = ap (λ (l : List Event). words_in l) is
  manifest_undrawn es ending (template_unread fits reads) = input_words template es (Err ending) reads
  manifest_undrawn es ending (template_read bytes first rest fits reads writes is) =
      ap (λ (l : List Event). words_in l) is ∙ words_then first rest ∙ ap (λ (l : List (List ℕ)). l ++ words_in rest) (input_words template first (Ok bytes) reads) ∙ rest_words bytes rest ending writes

  -- where the words alone lead to an ending, nothing else does
  read_silent : {X : Type 0} (bytes : List ℕ) (first rest : List Event) → InputReads template first (Ok bytes) → [] ≡ first ++ rest → X
  read_silent bytes first rest reads is =
      let none : first ≡ [] = no_first first rest (sym is) in
      let silent = input_silent template (Ok bytes) (subst (λ (l : List Event). InputReads template l (Ok bytes)) none reads) in
      apart_results bytes (Refused BadName) silent.1

  pub manifest_spoken : (ending : Ending) → ManifestLeads values template output [] ending → ending ≡ Refused BadName
  manifest_spoken ending (output_unfit unfit is ends) = ends
  manifest_spoken ending (template_unread fits reads) = same_endings ending (Refused BadName) (input_silent template (Err ending) reads).1
  manifest_spoken ending (template_read bytes first rest fits reads writes is) = read_silent bytes first rest reads is

  unread_silent : (ending other : Ending) (es : List Event) → FitsOutput output → ¬ (IsName template) → ending ≡ Refused BadName → ManifestLeads values template output es other → (es ≡ []) × (ending ≡ other)
  unread_silent ending other es fits unnamed is (output_unfit unfit none ends) = absurd (unfit fits)
  unread_silent ending other es fits unnamed is (template_unread fits2 reads) =
      let alone = unnamed_reads template es (Err other) unnamed reads in (alone.0, is ∙ sym (same_endings other (Refused BadName) alone.1))
  unread_silent ending other es fits unnamed is (template_read bytes first rest fits2 reads writes are) = apart_results bytes (Refused BadName) (unnamed_reads template first (Ok bytes) unnamed reads).1

  pub manifest_silent : (ending other : Ending) (es : List Event) → ManifestLeads values template output [] ending → ManifestLeads values template output es other → (es ≡ []) × (ending ≡ other)
  manifest_silent ending other es (output_unfit unfit is ends) (output_unfit unfit2 is2 ends2) = (is2, ends ∙ sym ends2)
  manifest_silent ending other es (output_unfit unfit is ends) (template_unread fits reads) = absurd (unfit fits)
  manifest_silent ending other es (output_unfit unfit is ends) (template_read bytes first rest fits reads writes are) = absurd (unfit fits)
  manifest_silent ending other es (template_unread fits reads) second =
      let silent = input_silent template (Err ending) reads in
      unread_silent ending other es fits silent.0 (same_endings ending (Refused BadName) silent.1) second
  manifest_silent ending other es (template_read bytes first rest fits reads writes is) second = read_silent bytes first rest reads is

  -- the answers of the reading, and those behind it
  answers_behind : (es first rest : List Event) → es ≡ first ++ rest → answers_in es ≡ answers_in first ++ answers_in rest
  answers_behind es first rest is = ap (λ (l : List Event). answers_in l) is ∙ answers_then first rest

  rest_one : (bytes other : List ℕ) (rest more : List Event) (ending last : Ending) → bytes ≡ other → WritesManifest values output bytes rest ending → WritesManifest values output other more last → ending ≡ last
  rest_one bytes other rest more ending last same (text_refused renders is) (text_refused renders2 is2) = same_refusal values other ending last (subst (λ (b : List ℕ). Renders values b (Err ending)) same renders) renders2
  rest_one bytes other rest more ending last same (text_refused renders is) (text_written text renders2 is2 ends2) = apart_render values other text ending renders2 (subst (λ (b : List ℕ). Renders values b (Err ending)) same renders)
  rest_one bytes other rest more ending last same (text_written text renders is ends) (text_refused renders2 is2) = apart_render values other text last (subst (λ (b : List ℕ). Renders values b (Ok text)) same renders) renders2
  rest_one bytes other rest more ending last same (text_written text renders is ends) (text_written text2 renders2 is2 ends2) = ends ∙ sym ends2

  -- the same answers lead to one ending
  pub manifest_one : (es others : List Event) (ending other : Ending) → ManifestLeads values template output es ending → ManifestLeads values template output others other → answers_in es ≡ answers_in others → ending ≡ other
  manifest_one es others ending other (output_unfit unfit is ends) (output_unfit unfit2 is2 ends2) same = ends ∙ sym ends2
  manifest_one es others ending other (output_unfit unfit is ends) (template_unread fits reads) same = absurd (unfit fits)
  manifest_one es others ending other (output_unfit unfit is ends) (template_read bytes first rest fits reads writes are) same = absurd (unfit fits)
  manifest_one es others ending other (template_unread fits reads) (output_unfit unfit is ends) same = absurd (unfit fits)
  manifest_one es others ending other (template_unread fits reads) (template_unread fits2 reads2) same =
      same_endings ending other (input_one template es others [] [] (ap (λ (l : List Answer). l ++ []) same) (Err ending) (Err other) reads reads2).1
  manifest_one es others ending other (template_unread fits reads) (template_read bytes first rest fits2 reads2 writes are) same =
      apart_results bytes ending (sym (input_one template es first [] (answers_in rest) (append-nil (answers_in es) ∙ same ∙ answers_behind others first rest are) (Err ending) (Ok bytes) reads reads2).1)
  manifest_one es others ending other (template_read bytes first rest fits reads writes are) (output_unfit unfit is ends) same = absurd (unfit fits)
  manifest_one es others ending other (template_read bytes first rest fits reads writes are) (template_unread fits2 reads2) same =
      apart_results bytes other (input_one template first others (answers_in rest) [] (sym (answers_behind es first rest are) ∙ same ∙ sym (append-nil (answers_in others))) (Ok bytes) (Err other) reads reads2).1
  manifest_one es others ending other (template_read bytes first rest fits reads writes are) (template_read bytes2 first2 rest2 fits2 reads2 writes2 are2) same =
      rest_one bytes bytes2 rest rest2 ending other (same_bytes bytes bytes2 (input_one template first first2 (answers_in rest) (answers_in rest2) (sym (answers_behind es first rest are) ∙ same ∙ answers_behind others first2 rest2 are2) (Ok bytes) (Ok bytes2) reads reads2).1) writes writes2

  refused_rest : (bytes : List ℕ) (rest : List Event) (ending : Ending) → ending ≢ Done → WritesManifest values output bytes rest ending → (rest ≡ []) × Renders values bytes (Err ending)
  refused_rest bytes rest ending other (text_refused renders is) = (is, renders)
  refused_rest bytes rest ending other (text_written text renders is ends) = absurd (other ends)

  -- a refusal comes right behind its answers
  pub manifest_answered : (es : List Event) (ending : Ending) → ManifestLeads values template output es ending → ending ≢ Done → EndsAnswered es
  manifest_answered es ending (output_unfit unfit is ends) other = subst EndsAnswered (sym is) tt
  manifest_answered es ending (template_unread fits reads) other = reading_last template es (Err ending) reads
  manifest_answered es ending (template_read bytes first rest fits reads writes are) other =
      subst EndsAnswered (sym (are ∙ ap (λ (l : List Event). first ++ l) (refused_rest bytes rest ending other writes).0 ∙ append-nil first)) (reading_last template first (Ok bytes) reads)

  none_more : (bytes other : List ℕ) (rest : List Event) (ending last : Ending) → bytes ≡ other → Renders values bytes (Err ending) → WritesManifest values output other rest last → answers_in rest ≡ []
  none_more bytes other rest ending last same renders (text_refused renders2 is) = ap (λ (l : List Event). answers_in l) is
  none_more bytes other rest ending last same renders (text_written text renders2 is ends) = apart_render values other text ending renders2 (subst (λ (b : List ℕ). Renders values b (Err ending)) same renders)

  pub manifest_no_more : (es others : List Event) (more : List Answer) (ending other : Ending) → ending ≢ Done → ManifestLeads values template output es ending → ManifestLeads values template output others other → answers_in es ++ more ≡ answers_in others → more ≡ []
  manifest_no_more es others more ending other refused (output_unfit unfit is ends) (output_unfit unfit2 is2 ends2) same =
      ap (λ (l : List Event). answers_in l ++ more) (sym is) ∙ same ∙ ap (λ (l : List Event). answers_in l) is2
  manifest_no_more es others more ending other refused (output_unfit unfit is ends) (template_unread fits reads) same = absurd (unfit fits)
  manifest_no_more es others more ending other refused (output_unfit unfit is ends) (template_read bytes first rest fits reads writes are) same = absurd (unfit fits)
  manifest_no_more es others more ending other refused (template_unread fits reads) (output_unfit unfit is ends) same = absurd (unfit fits)
  manifest_no_more es others more ending other refused (template_unread fits reads) (template_unread fits2 reads2) same =
      (input_one template es others more [] (same ∙ sym (append-nil (answers_in others))) (Err ending) (Err other) reads reads2).2
  manifest_no_more es others more ending other refused (template_unread fits reads) (template_read bytes first rest fits2 reads2 writes are) same =
      apart_results bytes ending (sym (input_one template es first more (answers_in rest) (same ∙ answers_behind others first rest are) (Err ending) (Ok bytes) reads reads2).1)
  manifest_no_more es others more ending other refused (template_read bytes first rest fits reads writes are) (output_unfit unfit is ends) same = absurd (unfit fits)
  manifest_no_more es others more ending other refused (template_read bytes first rest fits reads writes are) (template_unread fits2 reads2) same =
      let none = refused_rest bytes rest ending refused writes in
      let here : answers_in es ≡ answers_in first = ap (λ (l : List Event). answers_in l) (are ∙ ap (λ (l : List Event). first ++ l) none.0 ∙ append-nil first) in
      apart_results bytes other (input_one template first others more [] (ap (λ (l : List Answer). l ++ more) (sym here) ∙ same ∙ sym (append-nil (answers_in others))) (Ok bytes) (Err other) reads reads2).1
  manifest_no_more es others more ending other refused (template_read bytes first rest fits reads writes are) (template_read bytes2 first2 rest2 fits2 reads2 writes2 are2) same =
      let none = refused_rest bytes rest ending refused writes in
      let here : answers_in es ≡ answers_in first = ap (λ (l : List Event). answers_in l) (are ∙ ap (λ (l : List Event). first ++ l) none.0 ∙ append-nil first) in
      let one = input_one template first first2 more (answers_in rest2) (ap (λ (l : List Answer). l ++ more) (sym here) ∙ same ∙ answers_behind others first2 rest2 are2) (Ok bytes) (Ok bytes2) reads reads2 in
      one.2 ∙ none_more bytes bytes2 rest2 ending other (same_bytes bytes bytes2 one.1) none.1 writes2

  -- what came of what files answered is what they give
  rest_over : (files : Files) (bytes : List ℕ) (rest : List Event) (ending : Ending) → FitsOutput output → InputOver files template (Ok bytes) → WritesManifest values output bytes rest ending → ManifestOver values template output files (pieces_in rest) ending
  rest_over files bytes rest ending fits over (text_refused renders is) = over_refused bytes fits over renders (ap (λ (l : List Event). pieces_in l) is)
  rest_over files bytes rest ending fits over (text_written text renders is ends) = over_written bytes text fits over renders (ap (λ (l : List Event). pieces_in l) is ∙ out_pieces_in output text) ends

  first_all : (files : Files) (es first rest : List Event) → es ≡ first ++ rest → AllByRecursion (IsAnswerOf files) (answers_in es) → AllByRecursion (IsAnswerOf files) (answers_in first)
  first_all files es first rest is all = (all_split (IsAnswerOf files) (answers_in first) (answers_in rest) (subst (λ (l : List Answer). AllByRecursion (IsAnswerOf files) l) (answers_behind es first rest is) all)).0

  pieces_behind : (es first rest : List Event) (bytes : List ℕ) → es ≡ first ++ rest → InputReads template first (Ok bytes) → pieces_in es ≡ pieces_in rest
  pieces_behind es first rest bytes is reads = ap (λ (l : List Event). pieces_in l) is ∙ pieces_then first rest ∙ ap (λ (l : List (List ℕ)). l ++ pieces_in rest) (input_pieces template first (Ok bytes) reads)

  pub manifest_over : (files : Files) (es : List Event) (ending : Ending) → ManifestLeads values template output es ending → AllByRecursion (IsAnswerOf files) (answers_in es) → ManifestOver values template output files (pieces_in es) ending
  manifest_over files es ending (output_unfit unfit is ends) all = over_unfit unfit (ap (λ (l : List Event). pieces_in l) is) ends
  manifest_over files es ending (template_unread fits reads) all = over_unread fits (input_over files template es (Err ending) reads all) (input_pieces template es (Err ending) reads)
  manifest_over files es ending (template_read bytes first rest fits reads writes are) all =
      subst (λ (l : List (List ℕ)). ManifestOver values template output files l ending) (sym (pieces_behind es first rest bytes are reads))
      (rest_over files bytes rest ending fits (input_over files template first (Ok bytes) reads (first_all files es first rest are all)) writes)

  -- files give one output and one ending
  module _ (files : Files) where
    apart_over : {X : Type 0} (bytes : List ℕ) (ending : Ending) → InputOver files template (Ok bytes) → InputOver files template (Err ending) → X
    apart_over bytes ending first second = apart_results bytes ending (input_over_one files template (Ok bytes) (Err ending) first second)

    same_over : (bytes other : List ℕ) → InputOver files template (Ok bytes) → InputOver files template (Ok other) → bytes ≡ other
    same_over bytes other first second = same_bytes bytes other (input_over_one files template (Ok bytes) (Ok other) first second)

    pub manifest_over_one : (pieces others : List (List ℕ)) (ending other : Ending) → ManifestOver values template output files pieces ending → ManifestOver values template output files others other → (pieces ≡ others) × (ending ≡ other)
    manifest_over_one pieces others ending other (over_unfit unfit none ends) (over_unfit unfit2 none2 ends2) = (none ∙ sym none2, ends ∙ sym ends2)
    manifest_over_one pieces others ending other (over_unfit unfit none ends) (over_unread fits over none2) = absurd (unfit fits)
    manifest_over_one pieces others ending other (over_unfit unfit none ends) (over_refused bytes fits over renders none2) = absurd (unfit fits)
    manifest_over_one pieces others ending other (over_unfit unfit none ends) (over_written bytes text fits over renders are ends2) = absurd (unfit fits)
    manifest_over_one pieces others ending other (over_unread fits over none) (over_unfit unfit none2 ends2) = absurd (unfit fits)
    manifest_over_one pieces others ending other (over_unread fits over none) (over_unread fits2 over2 none2) =
        (none ∙ sym none2, same_endings ending other (input_over_one files template (Err ending) (Err other) over over2))
    manifest_over_one pieces others ending other (over_unread fits over none) (over_refused bytes fits2 over2 renders none2) = apart_over bytes ending over2 over
    manifest_over_one pieces others ending other (over_unread fits over none) (over_written bytes text fits2 over2 renders are ends2) = apart_over bytes ending over2 over
    manifest_over_one pieces others ending other (over_refused bytes fits over renders none) (over_unfit unfit none2 ends2) = absurd (unfit fits)
    manifest_over_one pieces others ending other (over_refused bytes fits over renders none) (over_unread fits2 over2 none2) = apart_over bytes other over over2
    manifest_over_one pieces others ending other (over_refused bytes fits over renders none) (over_refused bytes2 fits2 over2 renders2 none2) =
        (none ∙ sym none2, same_refusal values bytes2 ending other (subst (λ (b : List ℕ). Renders values b (Err ending)) (same_over bytes bytes2 over over2) renders) renders2)
    manifest_over_one pieces others ending other (over_refused bytes fits over renders none) (over_written bytes2 text fits2 over2 renders2 are ends2) =
        apart_render values bytes2 text ending renders2 (subst (λ (b : List ℕ). Renders values b (Err ending)) (same_over bytes bytes2 over over2) renders)
    manifest_over_one pieces others ending other (over_written bytes text fits over renders are ends) (over_unfit unfit none2 ends2) = absurd (unfit fits)
    manifest_over_one pieces others ending other (over_written bytes text fits over renders are ends) (over_unread fits2 over2 none2) = apart_over bytes other over over2
    manifest_over_one pieces others ending other (over_written bytes text fits over renders are ends) (over_refused bytes2 fits2 over2 renders2 none2) =
        apart_render values bytes text other renders (subst (λ (b : List ℕ). Renders values b (Err other)) (same_over bytes2 bytes over2 over) renders2)
    manifest_over_one pieces others ending other (over_written bytes text fits over renders are ends) (over_written bytes2 text2 fits2 over2 renders2 are2 ends2) =
        let same = same_text values bytes2 text text2 (subst (λ (b : List ℕ). Renders values b (Ok text)) (same_over bytes bytes2 over over2) renders) renders2 in
        (are ∙ ap (λ (t : List ℕ). out_pieces output t) same ∙ sym are2, ends ∙ sym ends2)

-- Events that ask, then pieces, and then events that ask: a front of them has no piece, or all that is asked first and a front
-- of the pieces.

pieces_front : (es more : List Event) (pieces : List (List ℕ)) (last : List Answer) → es ++ more ≡ map Puts pieces ++ asked last → (rest : List (List ℕ)) × (pieces ≡ pieces_in es ++ rest)
pieces_front [] more pieces last is = (pieces, refl)
pieces_front (e ∷ es) more [] last is = ([], sym (ap (λ (l : List (List ℕ)). l ++ []) (no_first (pieces_in (e ∷ es)) (pieces_in more) (sym (pieces_then (e ∷ es) more) ∙ ap (λ (l : List Event). pieces_in l) is ∙ asked_pieces last))))
pieces_front (Puts piece ∷ es) more (p ∷ pieces) last is =
    let on = pieces_front es more pieces last (cc) in
    let same : p ≡ piece = cc in
    (on.0, ap (λ (l : List (List ℕ)). p ∷ l) on.1 ∙ ap (λ (q : List ℕ). q ∷ (pieces_in es ++ on.0)) same)
pieces_front (Answers a ∷ es) more (p ∷ pieces) last is = absurd (cc)
pieces_front (Draws w ∷ es) more (p ∷ pieces) last is = absurd (cc)

pub front_of : (es more : List Event) (these : List Answer) (pieces : List (List ℕ)) (last : List Answer) → es ++ more ≡ asked these ++ (map Puts pieces ++ asked last)
    → (pieces_in es ≡ []) ⊎ ((rest : List (List ℕ)) × (left : List Answer) × (pieces ≡ pieces_in es ++ rest) × (answers_in es ≡ these ++ left))
front_of es more [] pieces last is = let on = pieces_front es more pieces last is in inr (on.0, answers_in es, on.1, refl)
front_of [] more (a ∷ these) pieces last is = inl refl
front_of (Answers b ∷ es) more (a ∷ these) pieces last is =
    let same : b ≡ a = cc in
    ⊎_elim (λ none. inl none) (λ found. inr (found.0, found.1, found.2, ap (λ (l : List Answer). b ∷ l) found.3 ∙ ap (λ (x : Answer). x ∷ (these ++ found.1)) same)) (front_of es more these pieces last (cc))
front_of (Puts p ∷ es) more (a ∷ these) pieces last is = absurd (cc)
front_of (Draws w ∷ es) more (a ∷ these) pieces last is = absurd (cc)

reading_asked : (name : Name) (es : List Event) (r : Result (List ℕ) Ending) → InputReads name es r → (these : List Answer) × (es ≡ asked these)
reading_asked name es r (file_unnamed u is ends) = ([], is)
reading_asked name es r (file_absent named is ends) = (LengthWas name None ∷ [], is)
reading_asked name es r (file_large whole last these named came few many is ends) = (these, is)
reading_asked name es r (file_taken text these named taken few is ends) = (these, is)

-- so far the output took a front of it

pub empty_front : (es : List Event) (pieces : List (List ℕ)) → pieces_in es ≡ [] → (rest : List ℕ) × (concat pieces ≡ bytes_in es ++ rest)
empty_front es pieces none = (concat pieces, ap (λ (l : List (List ℕ)). concat l ++ concat pieces) (sym none))

pub none_before : (es more : List Event) (all : List (List ℕ)) → pieces_in (es ++ more) ≡ all → all ≡ [] → pieces_in es ≡ []
none_before es more all is none = no_first (pieces_in es) (pieces_in more) (sym (pieces_then es more) ∙ is ∙ none)

module _ (values : Values) (template : Name) (files : Files) (es more : List Event) (given : Ending) (pieces : List (List ℕ)) (all : AllByRecursion (IsAnswerOf files) (answers_in es)) where
  text_front : (output : Option Name) (bytes text : List ℕ) (first : List Event) → FitsOutput output → InputReads template first (Ok bytes) → Renders values bytes (Ok text) → es ++ more ≡ first ++ out_events output text
      → ManifestOver values template output files pieces given → (rest : List ℕ) × (concat pieces ≡ bytes_in es ++ rest)
  text_front (Some output) bytes text first fits reads renders is over =
      empty_front es pieces (none_before es more (pieces_in first ++ pieces_in (out_events (Some output) text)) (ap (λ (l : List Event). pieces_in l) is ∙ pieces_then first (out_events (Some output) text))
      (ap (λ (l : List (List ℕ)). l ++ pieces_in (out_events (Some output) text)) (input_pieces template first (Ok bytes) reads) ∙ out_pieces_in (Some output) text))
  text_front None bytes text first fits reads renders is over =
      let by = reading_asked template first (Ok bytes) reads in
      ⊎_elim (λ none. empty_front es pieces none) (λ found.
      let these : answers_in first ≡ by.0 = ap (λ (l : List Event). answers_in l) by.1 ∙ asked_answers by.0 in
      let parts = all_split (IsAnswerOf files) by.0 found.1 (subst (λ (l : List Answer). AllByRecursion (IsAnswerOf files) l) found.3 all) in
      let read = input_over files template first (Ok bytes) reads (subst (λ (l : List Answer). AllByRecursion (IsAnswerOf files) l) (sym these) parts.0) in
      let one = manifest_over_one values template None files pieces (pieces_of text) given Done over (over_written bytes text fits read renders refl refl) in
      (concat found.0, ap (λ (l : List (List ℕ)). concat l) (one.0 ∙ found.2) ∙ concat-append (pieces_in es) found.0))
      (front_of es more by.0 (pieces_of text) [] (is ∙ ap (λ (l : List Event). l ++ map Puts (pieces_of text)) by.1 ∙ ap (λ (l : List Event). asked by.0 ++ l) (sym (append-nil (map Puts (pieces_of text))))))

  rest_front : (output : Option Name) (bytes : List ℕ) (first rest : List Event) (ending : Ending) → FitsOutput output → InputReads template first (Ok bytes) → WritesManifest values output bytes rest ending → es ++ more ≡ first ++ rest
      → ManifestOver values template output files pieces given → (left : List ℕ) × (concat pieces ≡ bytes_in es ++ left)
  rest_front output bytes first rest ending fits reads (text_refused renders none) is over =
      empty_front es pieces (none_before es more (pieces_in first ++ pieces_in rest) (ap (λ (l : List Event). pieces_in l) is ∙ pieces_then first rest)
      (ap (λ (l : List (List ℕ)). l ++ pieces_in rest) (input_pieces template first (Ok bytes) reads) ∙ ap (λ (l : List Event). pieces_in l) none))
  rest_front output bytes first rest ending fits reads (text_written text renders are ends) is over = text_front output bytes text first fits reads renders (is ∙ ap (λ (l : List Event). first ++ l) are) over

  pub manifest_front : (output : Option Name) (ending : Ending) → ManifestLeads values template output (es ++ more) ending → ManifestOver values template output files pieces given → (rest : List ℕ) × (concat pieces ≡ bytes_in es ++ rest)
  manifest_front output ending (output_unfit unfit is ends) over = empty_front es pieces (none_before es more [] (ap (λ (l : List Event). pieces_in l) is) refl)
  manifest_front output ending (template_unread fits reads) over = empty_front es pieces (none_before es more [] (input_pieces template (es ++ more) (Err ending) reads) refl)
  manifest_front output ending (template_read bytes first rest fits reads writes is) over = rest_front output bytes first rest ending fits reads writes is over

-- what was given where the work is done
pub record GivenText (values : Values) (template : Name) (output : Option Name) (es : List Event) : Type 0 where
  pub bytes : List ℕ
  pub text : List ℕ
  pub first : List Answer
  pub taken : IsTaken template first bytes
  pub small : length bytes ≤ MOST_INPUT
  pub rendered : Renders values bytes (Ok text)
  pub answered : answers_in es ≡ first ++ out_answers output text
  pub pieces : pieces_in es ≡ out_pieces output text

out_answered : (output : Option Name) (text : List ℕ) → answers_in (out_events output text) ≡ out_answers output text
out_answered None text = puts_answers (pieces_of text)
out_answered (Some output) text = asked_answers (file_steps output (side_of output) text)

reading_taken : (name : Name) (es : List Event) (bytes : List ℕ) → InputReads name es (Ok bytes) → (these : List Answer) × IsTaken name these bytes × (answers_in es ≡ these) × (length bytes ≤ MOST_INPUT)
reading_taken name es bytes (file_unnamed u is ends) = absurd (cc)
reading_taken name es bytes (file_absent named is ends) = absurd (cc)
reading_taken name es bytes (file_large whole last these named came few many is ends) = absurd (cc)
reading_taken name es bytes (file_taken text these named taken few is ends) =
    (these, subst (λ (b : List ℕ). IsTaken name these b) (sym (same_bytes bytes text ends)) taken, ap (λ (l : List Event). answers_in l) is ∙ asked_answers these, subst (λ (b : List ℕ). length b ≤ MOST_INPUT) (sym (same_bytes bytes text ends)) few)

-- no refusal is the work done
not_refused_done : (name : Name) (es : List Event) → InputReads name es (Err Done) → ⊥
not_refused_done name es (file_unnamed u is ends) = absurd (cc)
not_refused_done name es (file_absent named is ends) = absurd (cc)
not_refused_done name es (file_large whole last these named came few many is ends) = absurd (cc)
not_refused_done name es (file_taken text these named taken few is ends) = absurd (cc)

not_rendered_done : (values : Values) (bytes : List ℕ) → Renders values bytes (Err Done) → ⊥
not_rendered_done values bytes (no_text u is) = absurd (cc)
not_rendered_done values bytes (no_template fault utf8 refuses is) = absurd (cc)
not_rendered_done values bytes (no_manifest text fault utf8 rendered refuses is) = absurd (cc)
not_rendered_done values bytes (manifest_text text seen utf8 rendered reads is) = absurd (cc)

module _ (values : Values) (template : Name) (output : Option Name) where
  pub manifest_given : (es : List Event) → ManifestLeads values template output es Done → GivenText values template output es
  manifest_given es (output_unfit unfit is ends) = absurd (cc)
  manifest_given es (template_unread fits reads) = absurd (not_refused_done template es reads)
  manifest_given es (template_read bytes first rest fits reads (text_refused renders none) is) = absurd (not_rendered_done values bytes renders)
  manifest_given es (template_read bytes first rest fits reads (text_written text renders are ends) is) =
      let by = reading_taken template first bytes reads in
      record {
        bytes = bytes;
        text = text;
        first = by.0;
        taken = by.1;
        small = by.3;
        rendered = renders;
        answered = answers_behind values template output es first rest is ∙ ap (λ (l : List Answer). l ++ answers_in rest) by.2 ∙ ap (λ (l : List Event). by.0 ++ answers_in l) are ∙ ap (λ (l : List Answer). by.0 ++ l) (out_answered output text);
        pieces = pieces_behind values template output es first rest bytes is reads ∙ ap (λ (l : List Event). pieces_in l) are ∙ out_pieces_in output text;
      }

rest_unput : (values : Values) (name : Name) (bytes : List ℕ) (rest : List Event) (ending : Ending) → WritesManifest values (Some name) bytes rest ending → pieces_in rest ≡ []
rest_unput values name bytes rest ending (text_refused renders is) = ap (λ (l : List Event). pieces_in l) is
rest_unput values name bytes rest ending (text_written text renders is ends) = ap (λ (l : List Event). pieces_in l) is ∙ out_pieces_in (Some name) text

-- where a file is made, nothing is put out
pub manifest_unput : (values : Values) (template name : Name) (es : List Event) (ending : Ending) → ManifestLeads values template (Some name) es ending → pieces_in es ≡ []
manifest_unput values template name es ending (output_unfit unfit is ends) = ap (λ (l : List Event). pieces_in l) is
manifest_unput values template name es ending (template_unread fits reads) = input_pieces template es (Err ending) reads
manifest_unput values template name es ending (template_read bytes first rest fits reads writes is) = pieces_behind values template (Some name) es first rest bytes is reads ∙ rest_unput values name bytes rest ending writes
