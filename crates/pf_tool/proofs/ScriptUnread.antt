-- A session that came to no script.
use Rattle.std.proofs.Common.{◌≡◌, ⊎_elim, inl, inr, ℕ, List, [], ◌∷◌, ◌++◌, refl, ◌∙◌, ap, Option, Some, Ok, Err}
use Rattle.std.specs.Prelude.{option_map}
use Rattle.pf_io.specs.Disk.{Name, Files, reading}
use Rattle.pf_io.specs.Host.{Answer, LengthWas, Gave, files_of}
use Rattle.pf_io.specs.Moments.{Honest}
use Rattle.pf_io.specs.Unchanged.{KeepsDisk}
use Rattle.pf_tool.specs.BookScripts.{NoScript}
use Rattle.pf_tool.specs.Endings.{Ending, Stop, AtEnd, Failed, Starved, stop_status}
use Rattle.pf_tool.specs.Events.{Event, Answers, Draws, Puts, answers_in, words_in, pieces_in}
use Rattle.pf_tool.specs.Faults.{fault_line, fault_status}
use Rattle.pf_tool.specs.Happened.{Happened}
use Rattle.pf_tool.specs.Keys.{KeyRefused, key_unnamed, key_absent, key_length, key_short, KeyOver}
use Rattle.pf_tool.specs.Outcomes.{StopsAt, Falls, SaysScript}
use Rattle.pf_tool.specs.Scripting.{KeyRead}
use Rattle.pf_tool.specs.Transcripts.{IsStarved}
use Rattle.pf_tool.specs.World.{World, with_log}
use Rattle.pf_tool.specs.declared.fault.Fault.{Fault}
use Rattle.pf_tool.proofs.EncryptLaws.{key_unput}
use Rattle.pf_tool.proofs.KeyOver.{key_refused_over, key_read_over}
use Rattle.pf_tool.proofs.RunClauses.{all_of}
use Rattle.pf_tool.proofs.RunStops.{host_counted, input_kept, unput, reported_said}

-- why no script came, and what stays
pub record NoneCame (key : Name) (files : Files) (old new : World) (status : ℕ) : Type 0 where
  pub why : NoScript key files old new status
  pub input : new.input ≡ old.input
  pub out : new.out ≡ old.out
  pub disk : KeepsDisk old.host new.host

-- the reading of a key draws nothing
key_undrawn : (key : Name) (es : List Event) (ending : Ending) → KeyRefused key es ending → words_in es ≡ []
key_undrawn key es ending (key_unnamed u is ends) = ap (λ (l : List Event). words_in l) is
key_undrawn key es ending (key_absent named is ends) = ap (λ (l : List Event). words_in l) is
key_undrawn key es ending (key_length n named other is ends) = ap (λ (l : List Event). words_in l) is
key_undrawn key es ending (key_short bytes named short is ends) = ap (λ (l : List Event). words_in l) is

never_draws : (es : List Event) (word : List ℕ) (rest : List Event) → words_in (es ++ Draws word ∷ rest) ≡ [] → ⊥
never_draws [] word rest none = absurd (cc)
never_draws (Answers a ∷ es) word rest none = never_draws es word rest none
never_draws (Draws w ∷ es) word rest none = absurd (cc)
never_draws (Puts b ∷ es) word rest none = never_draws es word rest none

never_puts : (es : List Event) (bytes : List ℕ) (rest : List Event) → pieces_in (es ++ Puts bytes ∷ rest) ≡ [] → ⊥
never_puts [] bytes rest none = absurd (cc)
never_puts (Answers a ∷ es) bytes rest none = never_puts es bytes rest none
never_puts (Draws w ∷ es) bytes rest none = never_puts es bytes rest none
never_puts (Puts b ∷ es) bytes rest none = absurd (cc)

module _ (key : Name) (old new : World) (status : ℕ) (a : Honest) (at_start : old.host.honest ≡ Some a) where
  abbrev Now : World
  Now = with_log new old.log

  abbrev Given : Files
  Given = reading a.now

  files_are : files_of old.host ≡ Some Given
  files_are = ap (λ (o : Option Honest). option_map (λ host. reading host.now) o) at_start

  -- a key that was read is the one that the files give
  pub read_over : (user : List ℕ) (begun : World) → KeyRead key user old begun → KeyOver Given key (Ok user)
  read_over user begun read =
      let first : List Answer = LengthWas key (Some 16) ∷ Gave key 0 16 user ∷ [] in
      key_read_over Given key user [] read.is_key (all_of Given (files_of old.host) first files_are read.passed.host.honest)

  why_unread : (stop : Stop) (es : List Event) → StopsAt (KeyRefused key) es stop → Happened es stop old Now → (stop ≡ Starved → IsStarved old new status) → NoScript key Given old new status
  why_unread (AtEnd ending) es stands happened starved = inl (ending, key_refused_over Given key es ending stands (all_of Given (files_of old.host) (answers_in es) files_are happened.host.honest))
  why_unread (Failed (Answers answer)) es stands happened starved = inr (inl (host_counted es old Now (Failed (Answers answer)) happened refl))
  why_unread (Failed (Draws word)) es stands happened starved = absurd (never_draws es word stands.0 (key_undrawn key (es ++ Draws word ∷ stands.0) stands.1 stands.2))
  why_unread (Failed (Puts bytes)) es stands happened starved = absurd (never_puts es bytes stands.0 (key_unput key (es ++ Puts bytes ∷ stands.0) stands.1 stands.2))
  why_unread Starved es stands happened starved = inr (inr (starved refl))

  -- no key was read
  pub key_unread : (fault : Fault) → Falls (KeyRefused key) (λ _ _. KeepsDisk) fault old Now → SaysScript (Err fault) old.log new.log status → NoneCame key Given old new status
  key_unread fault falls says = record {
    why = why_unread falls.stop falls.outcome.events falls.outcome.stands falls.outcome.happened
        (λ stop. ⊎_elim (λ both. inl (both.0 ∙ falls.is_fault.ends ∙ ap (λ (s : Stop). stop_status s) stop)) (λ both. inr both) (reported_said (fault_line fault) (fault_status fault) old.log new.log status says));
    input = input_kept falls.outcome.events old Now falls.stop falls.outcome.happened;
    out = unput (KeyRefused key) falls.outcome.events falls.stop old Now (key_unput key) falls.outcome.stands falls.outcome.happened;
    disk = falls.outcome.leaves;
  }

  -- there was no memory for the lines
  pub lines_unread : (user : List ℕ) → KeyRead key user old Now → IsStarved old new status → NoneCame key Given old new status
  lines_unread user read starved = record { why = inr (inr starved); input = read.passed.input; out = read.passed.out.untouched refl; disk = read.disk }
