-- What answers, and what files, decide of the reading of a manifest.
use Rattle.std.proofs.Common.{◌≡◌, ℕ, List, [], ◌++◌, subst, ap, ◌∙◌, sym, Result, Ok, Err}
use Rattle.std.specs.List.{AllByRecursion}
use Rattle.manifest_model.specs.Listed.{Seen, ReadsAs}
use Rattle.manifest_model.specs.declared.fault.ManifestFault.{ManifestFault}
use Rattle.manifest_model.proofs.Deciding.{one_reading}
use Rattle.pf_io.specs.Disk.{Name, Files}
use Rattle.pf_io.specs.Host.{Answer}
use Rattle.pf_io.specs.Answered.{IsAnswerOf}
use Rattle.pf_io.specs.Names.{IsName}
use Rattle.pf_tool.specs.Events.{Event, answers_in, words_in, pieces_in}
use Rattle.pf_tool.specs.Endings.{Ending, Done, Refused, BadName, BadManifest}
use Rattle.pf_tool.specs.InputFiles.{asked, InputReads, InputOver}
use Rattle.pf_tool.specs.ManifestFiles.{ManifestReads, manifest_unread, no_manifest, manifest_seen, ManifestFrom, from_unread, from_refused, from_seen}
use Rattle.pf_tool.proofs.InputLaws.{input_words, input_pieces, input_silent, input_unnamed, input_one, input_asked, input_refuses, input_over, input_over_one}

-- what the bytes of the file, or their refusal, come to
abbrev manifest_of : Result Seen ManifestFault → Result Seen Ending
manifest_of (Ok seen) = Ok seen
manifest_of (Err why) = Err (Refused (BadManifest why))

abbrev Comes : Result (List ℕ) Ending → Result Seen Ending → Type 0
Comes (Err ending) r = r ≡ Err ending
Comes (Ok text) r = (read : Result Seen ManifestFault) × ReadsAs text read × (r ≡ manifest_of read)

comes_one : (o : Result (List ℕ) Ending) (r s : Result Seen Ending) → Comes o r → Comes o s → r ≡ s
comes_one (Err ending) r s first second = first ∙ sym second
comes_one (Ok text) r s first second = first.2 ∙ ap manifest_of (one_reading text first.0 second.0 first.1 second.1) ∙ sym second.2

record Input (name : Name) (es : List Event) (r : Result Seen Ending) : Type 0 where
  outcome : Result (List ℕ) Ending
  reads : InputReads name es outcome
  comes : Comes outcome r

input_of : (name : Name) (es : List Event) (r : Result Seen Ending) → ManifestReads name es r → Input name es r
input_of name es r (manifest_unread ending reads is) = record { outcome = Err ending; reads = reads; comes = is }
input_of name es r (no_manifest text why reads refused is) = record { outcome = Ok text; reads = reads; comes = (Err why, refused, is) }
input_of name es r (manifest_seen text seen reads lists is) = record { outcome = Ok text; reads = reads; comes = (Ok seen, lists, is) }

refused_comes : (o : Result (List ℕ) Ending) (ending : Ending) (r : Result Seen Ending) → o ≡ Err ending → Comes o r → r ≡ Err ending
refused_comes (Err other) ending r same comes = let is : other ≡ ending = cc in comes ∙ ap (λ (e : Ending). Err e) is
refused_comes (Ok text) ending r same comes = absurd (cc)

-- the reading only asks
pub seen_words : (name : Name) (es : List Event) (r : Result Seen Ending) → ManifestReads name es r → words_in es ≡ []
seen_words name es r reads = let i = input_of name es r reads in input_words name es i.outcome i.reads

pub seen_pieces : (name : Name) (es : List Event) (r : Result Seen Ending) → ManifestReads name es r → pieces_in es ≡ []
seen_pieces name es r reads = let i = input_of name es r reads in input_pieces name es i.outcome i.reads

pub seen_asked : (name : Name) (es : List Event) (r : Result Seen Ending) → ManifestReads name es r → (these : List Answer) × (es ≡ asked these)
seen_asked name es r reads = let i = input_of name es r reads in input_asked name es i.outcome i.reads

-- without an answer only a name that is none ends it
pub seen_silent : (name : Name) (r : Result Seen Ending) → ManifestReads name [] r → (¬ (IsName name)) × (r ≡ Err (Refused BadName))
seen_silent name r reads =
    let i = input_of name [] r reads in
    let silent = input_silent name i.outcome i.reads in
    (silent.0, refused_comes i.outcome (Refused BadName) r silent.1 i.comes)

-- and such a name is refused before anything is asked
pub seen_unnamed : (name : Name) (es : List Event) (r : Result Seen Ending) → ¬ (IsName name) → ManifestReads name es r → (es ≡ []) × (r ≡ Err (Refused BadName))
seen_unnamed name es r never reads =
    let i = input_of name es r reads in
    let unnamed = input_unnamed name es i.outcome never i.reads in
    (unnamed.0, refused_comes i.outcome (Refused BadName) r unnamed.1 i.comes)

-- the same answers lead to one outcome, by as many answers
pub seen_one : (name : Name) (es others : List Event) (more further : List Answer) (r s : Result Seen Ending) → answers_in es ++ more ≡ answers_in others ++ further → ManifestReads name es r → ManifestReads name others s → (r ≡ s) × (more ≡ further)
seen_one name es others more further r s same first second =
    let i = input_of name es r first in
    let j = input_of name others s second in
    let one = input_one name es others more further same i.outcome j.outcome i.reads j.reads in
    (comes_one j.outcome r s (subst (λ (o : Result (List ℕ) Ending). Comes o r) one.1 i.comes) j.comes, one.2)

-- it is done with a manifest alone
pub seen_refuses : (name : Name) (es : List Event) (ending : Ending) → ManifestReads name es (Err ending) → ending ≡ Done → ⊥
seen_refuses name es ending (manifest_unread other reads is) done = let same : ending ≡ other = cc in input_refuses name es other reads (sym same ∙ done)
seen_refuses name es ending (no_manifest text why reads refused is) done = let same : ending ≡ Refused (BadManifest why) = cc in absurd (cc)
seen_refuses name es ending (manifest_seen text seen reads lists is) done = absurd (cc)

-- what was read of files is what they give
pub seen_from : (files : Files) (name : Name) (es : List Event) (r : Result Seen Ending) → ManifestReads name es r → AllByRecursion (IsAnswerOf files) (answers_in es) → ManifestFrom files name r
seen_from files name es r (manifest_unread ending reads is) all = from_unread ending (input_over files name es (Err ending) reads all) is
seen_from files name es r (no_manifest text why reads refused is) all = from_refused text why (input_over files name es (Ok text) reads all) refused is
seen_from files name es r (manifest_seen text seen reads lists is) all = from_seen text seen (input_over files name es (Ok text) reads all) lists is

record Given (files : Files) (name : Name) (r : Result Seen Ending) : Type 0 where
  outcome : Result (List ℕ) Ending
  over : InputOver files name outcome
  comes : Comes outcome r

given_of : (files : Files) (name : Name) (r : Result Seen Ending) → ManifestFrom files name r → Given files name r
given_of files name r (from_unread ending over is) = record { outcome = Err ending; over = over; comes = is }
given_of files name r (from_refused text why over refused is) = record { outcome = Ok text; over = over; comes = (Err why, refused, is) }
given_of files name r (from_seen text seen over lists is) = record { outcome = Ok text; over = over; comes = (Ok seen, lists, is) }

-- files give one outcome
pub from_one : (files : Files) (name : Name) (r s : Result Seen Ending) → ManifestFrom files name r → ManifestFrom files name s → r ≡ s
from_one files name r s first second =
    let i = given_of files name r first in
    let j = given_of files name s second in
    comes_one j.outcome r s (subst (λ (o : Result (List ℕ) Ending). Comes o r) (input_over_one files name i.outcome j.outcome i.over j.over) i.comes) j.comes
