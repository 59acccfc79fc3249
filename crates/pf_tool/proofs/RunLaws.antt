-- What holds of each command.
use Rattle.std.proofs.Common.{◌≡◌, ◌≢◌, ℕ, List, [], ◌∷◌, ◌++◌, refl, ap, ◌∙◌, sym}
use Rattle.std.specs.List.{AllByRecursion, concat}
use Rattle.std.proofs.lemmas.List.{append-nil}
use Rattle.std.specs.Prelude.{Option, Some, None, Err, codes}
use Rattle.template_text.specs.Rendering.{Values}
use Rattle.pf_io.specs.Disk.{Name, Files}
use Rattle.pf_io.specs.Host.{Answer}
use Rattle.pf_io.specs.Answered.{IsAnswerOf}
use Rattle.pf_tool.specs.Events.{Event, answers_in, pieces_in, bytes_in}
use Rattle.pf_tool.specs.Endings.{Ending, Done, Refused, BadName}
use Rattle.pf_tool.specs.Requests.{Request, Decrypt, Encrypt, Session, Manifest, Sums, Measure, AskFor, decrypt_words, encrypt_words, session_words, sums_words}
use Rattle.pf_tool.specs.Runs.{Leads, Over}
use Rattle.pf_tool.proofs.Composing.{answers_then, pieces_then, no_first}
use Rattle.pf_tool.proofs.Defining.{one_manifest}
use Rattle.pf_tool.proofs.ManifestLaws.{manifest_silent, manifest_spoken, manifest_one, manifest_answered, manifest_no_more, manifest_over, manifest_front, manifest_over_one}
use Rattle.pf_tool.specs.Encrypting.{no_key}
use Rattle.pf_tool.proofs.KeyOver.{key_refused_over, key_over_one}
use Rattle.pf_tool.proofs.EncryptLaws.{encrypt_spoken, encrypt_unput, encrypt_silent, encrypt_one, encrypt_over, encrypt_over_one}
use Rattle.pf_tool.proofs.LastAnswers.{EndsAnswered, has_answer, decrypt_answered, encrypt_answered, decrypt_no_more, encrypt_no_more}
use Rattle.pf_tool.proofs.MeasureLaws.{measure_spoken, measure_silent, measure_one, measure_answered, measure_no_more, measure_over, measure_front, measure_over_one}
use Rattle.pf_tool.proofs.SumsLaws.{sums_spoken, sums_silent, sums_one, sums_answered, sums_no_more, sums_over, sums_front, sums_over_one}
use Rattle.pf_tool.proofs.DecryptLaws.{decrypt_spoken, decrypt_silent, decrypt_one, decrypt_over, decrypt_front, decrypt_over_one}

-- the words of `sums` are none of another command
sums_begin : (words : List (List ℕ)) (manifest : Name) (output : Option Name) (first : List ℕ) (behind : List (List ℕ)) → words ≡ sums_words manifest output → words ≡ first ∷ behind → (codes "sums" ≡ first → ⊥) → ⊥
sums_begin words manifest None first behind sums is apart = apart (let all : codes "sums" ∷ manifest ∷ [] ≡ first ∷ behind = sym sums ∙ is in cc)
sums_begin words manifest (Some output) first behind sums is apart = apart (let all : codes "sums" ∷ codes "-o" ∷ output ∷ manifest ∷ [] ≡ first ∷ behind = sym sums ∙ is in cc)

sums_not_five : (words : List (List ℕ)) (manifest : Name) (output : Option Name) (key input : Name) → words ≡ decrypt_words key input → words ≡ sums_words manifest output → ⊥
sums_not_five words manifest output key input is sums = sums_begin words manifest output (codes "decrypt") (codes "-w" ∷ key ∷ codes "-i" ∷ input ∷ []) sums is (λ same. absurd (cc))

sums_not_seven : (words : List (List ℕ)) (manifest : Name) (output : Option Name) (key input other : Name) → words ≡ encrypt_words key input other → words ≡ sums_words manifest output → ⊥
sums_not_seven words manifest output key input other is sums = sums_begin words manifest output (codes "encrypt") (codes "-w" ∷ key ∷ codes "-i" ∷ input ∷ codes "-o" ∷ other ∷ []) sums is (λ same. absurd (cc))

sums_not_three : (words : List (List ℕ)) (manifest : Name) (output : Option Name) (key : Name) → words ≡ session_words key → words ≡ sums_words manifest output → ⊥
sums_not_three words manifest output key is sums = sums_begin words manifest output (codes "session") (codes "-w" ∷ key ∷ []) sums is (λ same. absurd (cc))

same_sums : (words : List (List ℕ)) (manifest manifest2 : Name) (output output2 : Option Name) → words ≡ sums_words manifest output → words ≡ sums_words manifest2 output2 → (manifest ≡ manifest2) × (output ≡ output2)
same_sums words manifest manifest2 None None first second = (cc, refl)
same_sums words manifest manifest2 None (Some output2) first second = absurd (cc)
same_sums words manifest manifest2 (Some output) None first second = absurd (cc)
same_sums words manifest manifest2 (Some output) (Some output2) first second = (cc, let same : output ≡ output2 = cc in ap Some same)

-- words ask for one thing
pub one_request : (words : List (List ℕ)) (request other : Request) → AskFor words request → AskFor words other → request ≡ other
one_request words (Decrypt key input) (Decrypt key2 input2) first second = cc
one_request words (Decrypt key input) (Encrypt key2 input2 output2) first second = absurd (cc)
one_request words (Decrypt key input) (Manifest values template output) first second = let begins = second.begins in absurd (cc)
one_request words (Encrypt key input output) (Decrypt key2 input2) first second = absurd (cc)
one_request words (Encrypt key input output) (Encrypt key2 input2 output2) first second = cc
one_request words (Encrypt key input output) (Manifest values template other) first second = let begins = second.begins in absurd (cc)
one_request words (Manifest values template output) (Decrypt key input) first second = let begins = first.begins in absurd (cc)
one_request words (Manifest values template output) (Encrypt key input other) first second = let begins = first.begins in absurd (cc)
one_request words (Manifest values template output) (Manifest values2 template2 output2) first second =
    let same = one_manifest words values values2 template template2 output output2 first second in
    ap (λ (v : Values). Manifest v template output) same.values_are ∙ ap (λ (t : Name). Manifest values2 t output) same.template_is ∙ ap (λ (o : Option Name). Manifest values2 template2 o) same.output_is
one_request words (Encrypt key input output) (Measure layout) first second = absurd (cc)
one_request words (Decrypt key input) (Measure layout) first second = absurd (cc)
one_request words (Measure layout) (Decrypt key input) first second = absurd (cc)
one_request words (Measure layout) (Encrypt key input output) first second = absurd (cc)
one_request words (Manifest values template output) (Measure layout) first second = let begins = first.begins in absurd (cc)
one_request words (Measure layout) (Manifest values template output) first second = let begins = second.begins in absurd (cc)
one_request words (Measure layout) (Measure layout2) first second = cc
one_request words (Decrypt key input) (Sums manifest output) first second = absurd (sums_not_five words manifest output key input first second.0)
one_request words (Sums manifest output) (Decrypt key input) first second = absurd (sums_not_five words manifest output key input second first.0)
one_request words (Encrypt key input output) (Sums manifest other) first second = absurd (sums_not_seven words manifest other key input output first second.0)
one_request words (Sums manifest other) (Encrypt key input output) first second = absurd (sums_not_seven words manifest other key input output second first.0)
one_request words (Manifest values template output) (Sums manifest other) first second = absurd (sums_begin words manifest other (codes "manifest") first.behind second.0 first.begins (λ same. absurd (cc)))
one_request words (Sums manifest other) (Manifest values template output) first second = absurd (sums_begin words manifest other (codes "manifest") second.behind first.0 second.begins (λ same. absurd (cc)))
one_request words (Measure layout) (Sums manifest other) first second = absurd (sums_begin words manifest other (codes "measure") (layout ∷ []) second.0 first.0 (λ same. absurd (cc)))
one_request words (Sums manifest other) (Measure layout) first second = absurd (sums_begin words manifest other (codes "measure") (layout ∷ []) first.0 second.0 (λ same. absurd (cc)))
one_request words (Session key) (Session key2) first second = cc
one_request words (Session key) (Decrypt key2 input) first second = absurd (cc)
one_request words (Decrypt key2 input) (Session key) first second = absurd (cc)
one_request words (Session key) (Encrypt key2 input output) first second = absurd (cc)
one_request words (Encrypt key2 input output) (Session key) first second = absurd (cc)
one_request words (Session key) (Measure layout) first second = absurd (cc)
one_request words (Measure layout) (Session key) first second = absurd (cc)
one_request words (Session key) (Manifest values template output) first second = let begins = second.begins in absurd (cc)
one_request words (Manifest values template output) (Session key) first second = let begins = first.begins in absurd (cc)
one_request words (Session key) (Sums manifest output) first second = absurd (sums_not_three words manifest output key first second.0)
one_request words (Sums manifest output) (Session key) first second = absurd (sums_not_three words manifest output key second first.0)
one_request words (Sums manifest output) (Sums manifest2 output2) first second =
    let same = same_sums words manifest manifest2 output output2 first.0 second.0 in
    ap (λ (m : Name). Sums m output) same.0 ∙ ap (λ (o : Option Name). Sums manifest2 o) same.1

-- where the words alone lead to an ending, nothing else does
pub silent : (request : Request) (ending other : Ending) (es : List Event) → Leads request [] ending → Leads request es other → (es ≡ []) × (ending ≡ other)
silent (Decrypt key input) ending other es first second = decrypt_silent key input ending other es first second
silent (Encrypt key input output) ending other es first second = encrypt_silent key input output ending other es first second
silent (Session key) ending other es first second = encrypt_silent key key key ending other es (no_key first) (no_key second)
silent (Manifest values template output) ending other es first second = manifest_silent values template output ending other es first second
silent (Sums manifest output) ending other es first second = sums_silent manifest output ending other es first second
silent (Measure layout) ending other es first second = measure_silent layout ending other es first second

-- and it is that a name is none
pub spoken : (request : Request) (ending : Ending) → Leads request [] ending → ending ≡ Refused BadName
spoken (Decrypt key input) ending leads = decrypt_spoken key input ending leads
spoken (Encrypt key input output) ending leads = encrypt_spoken key input output ending leads
spoken (Session key) ending leads = encrypt_spoken key key key ending (no_key leads)
spoken (Manifest values template output) ending leads = manifest_spoken values template output ending leads
spoken (Sums manifest output) ending leads = sums_spoken manifest output ending leads
spoken (Measure layout) ending leads = measure_spoken layout ending leads

-- the same answers lead to one ending
pub decided : (request : Request) (es others : List Event) (ending other : Ending) → Leads request es ending → Leads request others other → answers_in es ≡ answers_in others → ending ≡ other
decided (Decrypt key input) es others ending other first second same = decrypt_one key input es others ending other first second same
decided (Encrypt key input output) es others ending other first second same = encrypt_one key input output es others ending other first second same
decided (Session key) es others ending other first second same = encrypt_one key key key es others ending other (no_key first) (no_key second) same
decided (Manifest values template output) es others ending other first second same = manifest_one values template output es others ending other first second same
decided (Sums manifest output) es others ending other first second same = sums_one manifest output es others ending other first second same
decided (Measure layout) es others ending other first second same = measure_one layout es others ending other first second same

answered : (request : Request) (es : List Event) (ending : Ending) → Leads request es ending → ending ≢ Done → EndsAnswered es
answered (Decrypt key input) es ending leads refused = decrypt_answered key input es ending leads refused
answered (Encrypt key input output) es ending leads refused = encrypt_answered key input output es ending leads
answered (Session key) es ending leads refused = encrypt_answered key key key es ending (no_key leads)
answered (Manifest values template output) es ending leads refused = manifest_answered values template output es ending leads refused
answered (Sums manifest output) es ending leads refused = sums_answered manifest output es ending leads refused
answered (Measure layout) es ending leads refused = measure_answered layout es ending leads refused

no_more : (request : Request) (es others : List Event) (more : List Answer) (ending other : Ending) → ending ≢ Done → Leads request es ending → Leads request others other → answers_in es ++ more ≡ answers_in others → more ≡ []
no_more (Decrypt key input) es others more ending other refused first second same = decrypt_no_more key input es others more ending other first second same
no_more (Encrypt key input output) es others more ending other refused first second same = encrypt_no_more key input output es others more same ending other first second
no_more (Session key) es others more ending other refused first second same = encrypt_no_more key key key es others more same ending other (no_key first) (no_key second)
no_more (Manifest values template output) es others more ending other refused first second same = manifest_no_more values template output es others more ending other refused first second same
no_more (Sums manifest output) es others more ending other refused first second same = sums_no_more manifest output es others more ending other refused first second same
no_more (Measure layout) es others more ending other refused first second same = measure_no_more layout es others more ending other refused first second same

-- behind all answers of a refusal or a damage no event comes
pub none_left : (request : Request) (es front : List Event) (event : Event) (rest : List Event) (ending other : Ending) → ending ≢ Done → Leads request es ending → Leads request (front ++ event ∷ rest) other → answers_in front ≡ answers_in es → ⊥
none_left request es front event rest ending other refused first second same =
    let behind = answers_in (event ∷ rest) in
    let all : answers_in es ++ behind ≡ answers_in (front ++ event ∷ rest) = ap (λ (l : List Answer). l ++ behind) (sym same) ∙ sym (answers_then front (event ∷ rest)) in
    let none = no_more request es (front ++ event ∷ rest) behind ending other refused first second all in
    let one : ending ≡ other = decided request es (front ++ event ∷ rest) ending other first second (sym (append-nil (answers_in es)) ∙ ap (λ (l : List Answer). answers_in es ++ l) (sym none) ∙ all) in
    has_answer front event rest (answered request (front ++ event ∷ rest) other second (λ is. refused (one ∙ is))) none

-- what came of what files answered is what they give
pub over : (request : Request) (files : Files) (es : List Event) (ending : Ending) → Leads request es ending → AllByRecursion (IsAnswerOf files) (answers_in es) → Over request files (pieces_in es) ending
over (Decrypt key input) files es ending leads all = decrypt_over key input files es ending leads all
over (Encrypt key input output) files es ending leads all = (encrypt_unput key input output es ending leads, encrypt_over key input output files es ending leads all)
over (Session key) files es ending leads all = (encrypt_unput key key key es ending (no_key leads), key_refused_over files key es ending leads all)
over (Manifest values template output) files es ending leads all = manifest_over values template output files es ending leads all
over (Sums manifest output) files es ending leads all = sums_over manifest output files es ending leads all
over (Measure layout) files es ending leads all = measure_over layout files es ending leads all

-- so far the output took a front of it
pub over_front : (request : Request) (files : Files) (es more : List Event) (ending given : Ending) (pieces : List (List ℕ)) → Leads request (es ++ more) ending → AllByRecursion (IsAnswerOf files) (answers_in es) → Over request files pieces given
    → (rest : List ℕ) × (concat pieces ≡ bytes_in es ++ rest)
over_front (Decrypt key input) files es more ending given pieces leads all gives = decrypt_front key input files es more ending given pieces leads all gives
over_front (Encrypt key input output) files es more ending given pieces leads all gives =
    let none : pieces_in es ≡ [] = no_first (pieces_in es) (pieces_in more) (sym (pieces_then es more) ∙ encrypt_unput key input output (es ++ more) ending leads) in
    ([], ap (λ (l : List (List ℕ)). concat l) gives.0 ∙ ap (λ (l : List (List ℕ)). concat l ++ []) (sym none))
over_front (Session key) files es more ending given pieces leads all gives =
    let none : pieces_in es ≡ [] = no_first (pieces_in es) (pieces_in more) (sym (pieces_then es more) ∙ encrypt_unput key key key (es ++ more) ending (no_key leads)) in
    ([], ap (λ (l : List (List ℕ)). concat l) gives.0 ∙ ap (λ (l : List (List ℕ)). concat l ++ []) (sym none))
over_front (Manifest values template output) files es more ending given pieces leads all gives = manifest_front values template files es more given pieces all output ending leads gives
over_front (Sums manifest output) files es more ending given pieces leads all gives = sums_front manifest output files es more ending given pieces leads all gives
over_front (Measure layout) files es more ending given pieces leads all gives = measure_front layout files es more ending given pieces leads all gives

-- files give one output and one ending
pub over_one : (request : Request) (files : Files) (pieces others : List (List ℕ)) (ending other : Ending) → Over request files pieces ending → Over request files others other → (pieces ≡ others) × (ending ≡ other)
over_one (Decrypt key input) files pieces others ending other first second = decrypt_over_one key input files pieces others ending other first second
over_one (Encrypt key input output) files pieces others ending other first second = (first.0 ∙ sym second.0, encrypt_over_one key input output files ending other first.1 second.1)
over_one (Session key) files pieces others ending other first second = (first.0 ∙ sym second.0, let same : Err ending ≡ Err other = key_over_one files key (Err ending) (Err other) first.1 second.1 in cc)
over_one (Manifest values template output) files pieces others ending other first second = manifest_over_one values template output files pieces others ending other first second
over_one (Sums manifest output) files pieces others ending other first second = sums_over_one manifest output files pieces others ending other first second
over_one (Measure layout) files pieces others ending other first second = measure_over_one layout files pieces others ending other first second
