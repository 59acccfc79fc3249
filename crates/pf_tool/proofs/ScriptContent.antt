-- What a session put out is the text of a run of its script.
use Rattle.std.proofs.Common.{◌≡◌, inl, inr, ⊎_elim, ℕ, zero, suc, List, [], ◌∷◌, ◌++◌, length, replicate, get_or, refl, sym, ◌∙◌, ap, subst, arith, append_assoc, Some, None, Result, Err}
use Rattle.std.specs.Prelude.{IfSome}
use Rattle.std.proofs.lemmas.List.{append_cancel_left}
use Rattle.node_tree.specs.Sheet.{Sheet}
use Rattle.pf_io.specs.Counts.{counted}
use Rattle.pf_io.specs.Disk.{Name}
use Rattle.pf_io.specs.Host.{Answer, LengthWas, Both, IsMore}
use Rattle.pf_io.specs.Streams.{SourceState, SinkState, TakesFront}
use Rattle.pf_io.specs.Words.{WordsState}
use Rattle.pf_script.specs.Desk.{no_file, IsStateOf}
use Rattle.pf_script.specs.Script.{Empty}
use Rattle.pf_script.specs.Words.{SEATS}
use Rattle.pf_tool.specs.World.{World, with_log}
use Rattle.pf_tool.specs.Events.{Event, Answers, Draws, Puts, answers_in}
use Rattle.pf_tool.specs.Endings.{Ending, Stop, AtEnd, Failed, Starved, MayStarve}
use Rattle.pf_tool.specs.Happened.{IsTaken}
use Rattle.pf_tool.specs.Keys.{KeyRefused, key_unnamed, key_absent, key_length, key_short}
use Rattle.pf_tool.specs.Outcomes.{IsAhead, StopsAt, SaysScript}
use Rattle.pf_tool.specs.Reports.{WroteAll}
use Rattle.pf_tool.specs.Runs.{RunsScript}
use Rattle.pf_tool.specs.Scripting.{begins, KeyRead, ScriptGoes, no_key, no_reader, no_line, no_closing, no_end, done}
use Rattle.pf_tool.specs.Transcripts.{Transcript, text_of, empty_seats, exchanges_of, AnswersFirst, IsStarved, PutOut, whole, cut_off, counts_after, TookTranscript, key_and, TookScript}
use Rattle.pf_tool.specs.declared.fault.Fault.{Fault}
use Rattle.pf_tool.specs.declared.fault.Fault.TheVariants as faults
use Rattle.pf_tool.proofs.ContentRuns.{told_of, these_told}
use Rattle.pf_tool.proofs.RunStops.{reported_said}
use Rattle.pf_tool.proofs.ScriptSeen.{given_in, words_seen, host_flags, words_flags, both_some, told_more}
use Rattle.pf_tool.proofs.ScriptParts.{Behind}
use Rattle.pf_tool.proofs.ScriptText.{stops_first, stops, stops_closing, stops_end, ends}

-- an item of a list of one value
pub same_all : {A : Type 0} (n k : ℕ) (a : A) → get_or (replicate n a) k a ≡ a
same_all zero k a = refl
same_all (suc n) zero a = refl
same_all (suc n) (suc k) a = same_all n k a

-- empty seats are the state of a desk without files
begins_shown : (user : List ℕ) (begun : World) (sealed : List Sheet) → IsStateOf (empty_seats user sealed) (begins user begun).desk
begins_shown user begun sealed = record { key_is = refl; eight = refl; shows = λ k. no_file (same_all SEATS k Empty) (same_all SEATS k None) }

-- the key and the answers behind it, by what the host told
same_key : (key : Name) (user user2 : List ℕ) (before behind behind2 : List Answer) → (before ++ key_and key user []) ++ behind ≡ before ++ key_and key user2 behind2 → (user ≡ user2) × (behind2 ≡ behind)
same_key key user user2 before behind behind2 is =
    let rest : key_and key user behind ≡ key_and key user2 behind2 = append_cancel_left before (key_and key user behind) (key_and key user2 behind2) (sym (append_assoc before (key_and key user []) behind) ∙ is) in
    (cc, cc)

same_list : (a b : List Answer) → Some a ≡ Some b → a ≡ b
same_list a b is = cc

module _ (key : Name) (user : List ℕ) (old begun new : World) (status : ℕ) (read : KeyRead key user old begun) (before : List Answer) (was : old.host.given ≡ Some before) where
  pub begun_told : begun.host.given ≡ Some (before ++ key_and key user [])
  begun_told =
      let found = both_some (IsMore (key_and key user [])) old.host.given begun.host.given before was read.passed.host.told in
      found.1 ∙ ap (λ (l : List Answer). Some l) found.2

  same_random : begun.random ≡ old.random
  same_random = read.passed.random.untouched refl

  same_out : begun.out ≡ old.out
  same_out = read.passed.out.untouched refl

  starved_since : IsStarved begun new status → IsStarved old new status
  starved_since (inl is) = inl is
  starved_since (inr both) = inr (both.0, both.1 ∙ ap (λ (s : SinkState). counted s.faults) read.passed.log)

  put_since : (transcript : Transcript) → PutOut transcript begun new status → PutOut transcript old new status
  put_since transcript (whole ended wrote log is) = whole ended (subst (λ (s : SinkState). WroteAll (text_of transcript) s new.out) same_out wrote) (log ∙ read.passed.log) is
  put_since transcript (cut_off high took) = cut_off high (subst (λ (s : SinkState). Both s.bytes new.out.bytes (TakesFront (text_of transcript))) same_out took)

  -- what was said behind the key is said of the whole run
  pub took_behind : (user2 : List ℕ) (behind : List Answer) → new.host.given ≡ Some (before ++ key_and key user2 behind) → (transcript : Transcript) × Behind user transcript begun new status
      → (transcript : Transcript) × TookTranscript user2 behind transcript old new status
  took_behind user2 behind now came =
      let transcript = came.0 in
      let b = came.1 in
      let given = given_in (exchanges_of transcript) in
      let all = told_more given b.more begun.host b.until.host new.host b.part.spoke.told b.told in
      let front : all.before ≡ before ++ key_and key user [] = same_list all.before (before ++ key_and key user []) (sym all.was ∙ begun_told) in
      let same = same_key key user user2 before (given ++ b.more) behind (ap (λ (l : List Answer). l ++ (given ++ b.more)) (sym front) ∙ same_list (all.before ++ (given ++ b.more)) (before ++ key_and key user2 behind) (sym all.now ∙ now)) in (
        transcript,
        subst (λ (u : List ℕ). TookTranscript u behind transcript old new status) same.0 (record {
          follows = λ sealed. b.part.follows (empty_seats user sealed) (begins_shown user begun sealed);
          until = b.until;
          given = given;
          more = b.more;
          seen = record {
            answers = refl;
            words = subst (λ (r : WordsState). Both r.left b.until.random.left (IsTaken (words_seen (exchanges_of transcript)))) same_random b.part.spoke.words;
            host_counts = subst (λ (n : ℕ). b.until.host.faults ≡ counts_after (host_flags (exchanges_of transcript)) n) read.passed.host.calm b.part.spoke.host_counts;
            words_counts = subst (λ (r : WordsState). b.until.random.faults ≡ counts_after (words_flags (exchanges_of transcript)) r.faults) same_random b.part.spoke.words_counts;
          };
          in_order = same.1;
          to_the_end = ⊎_elim (λ all. inl all) (λ starved. inr (starved_since starved)) b.to_the_end;
          lines = subst (λ (s : SourceState). IfSome s.left (AnswersFirst transcript)) read.passed.input b.part.lines;
          input_read = b.input_read;
          put = put_since transcript b.put;
        }),
      )

-- A refused key is not given, and neither is one at which a call failed.
module _ (key : Name) (user : List ℕ) (behind : List Answer) (long : length user ≡ 16) where
  none_behind : (es : List Event) (event : Event) (rest : List Event) → es ++ event ∷ rest ≡ [] → ⊥
  none_behind [] event rest is = absurd (cc)
  none_behind (e ∷ es) event rest is = absurd (cc)

  refused_told : (es : List Event) (ending : Ending) → KeyRefused key es ending → answers_in es ≡ key_and key user behind → ⊥
  refused_told es ending (key_unnamed unnamed is _) told = let e : [] ≡ key_and key user behind = sym (ap (λ (l : List Event). answers_in l) is) ∙ told in absurd (cc)
  refused_told es ending (key_absent named is _) told = let e : LengthWas key None ∷ [] ≡ key_and key user behind = sym (ap (λ (l : List Event). answers_in l) is) ∙ told in absurd (cc)
  refused_told es ending (key_length n named other is _) told = let e : LengthWas key (Some n) ∷ [] ≡ key_and key user behind = sym (ap (λ (l : List Event). answers_in l) is) ∙ told in absurd (cc)
  refused_told es ending (key_short bytes named few is _) told =
      let e : key_and key bytes [] ≡ key_and key user behind = sym (ap (λ (l : List Event). answers_in l) is) ∙ told in
      let same : bytes ≡ user = cc in
      let n : length bytes ≡ length user = ap (λ (l : List ℕ). length l) same in
      omega (arith, n, long, few)

  too_few : (es : List Event) (event : Event) (rest : List Event) (ending : Ending) → KeyRefused key (es ++ event ∷ rest) ending → answers_in es ≡ key_and key user behind → ⊥
  too_few [] event rest ending refused told = absurd (cc)
  too_few (Answers a ∷ []) event rest ending refused told = absurd (cc)
  too_few (Draws w ∷ []) event rest ending refused told = absurd (cc)
  too_few (Puts b ∷ []) event rest ending refused told = absurd (cc)
  too_few (e ∷ f ∷ es) event rest ending (key_unnamed _ is _) told = absurd (cc)
  too_few (e ∷ f ∷ es) event rest ending (key_absent _ is _) told = absurd (cc)
  too_few (e ∷ f ∷ es) event rest ending (key_length n _ _ is _) told = absurd (cc)
  too_few (e ∷ f ∷ es) event rest ending (key_short bytes _ _ is _) told = none_behind es event rest (cc)

  no_want : (es : List Event) (ending : Ending) → KeyRefused key es ending → MayStarve ending → ⊥
  no_want es ending (key_unnamed _ _ is) may = subst MayStarve is may
  no_want es ending (key_absent _ _ is) may = subst MayStarve is may
  no_want es ending (key_length n _ _ _ is) may = subst MayStarve is may
  no_want es ending (key_short bytes _ _ _ is) may = subst MayStarve is may

  never_told : (stop : Stop) (es : List Event) → StopsAt (KeyRefused key) es stop → answers_in es ≡ key_and key user behind → ⊥
  never_told (AtEnd ending) es stands told = refused_told es ending stands told
  never_told (Failed event) es stands told = too_few es event stands.0 stands.1 stands.2 told
  never_told Starved es stands told = by_rest stands.0 stands.1 stands.2 stands.3
    where
      by_rest : (rest : List Event) (ending : Ending) → IsAhead rest ending → KeyRefused key (es ++ rest) ending → ⊥
      by_rest [] ending ahead refused = no_want (es ++ []) ending refused ahead
      by_rest (event ∷ rest) ending ahead refused = too_few es event rest ending refused told

-- what an ending says of the status
pub stream_says : (old new : SinkState) (status : ℕ) → SaysScript (Err faults.Stream) old new status → status ≡ 7
stream_says old new status says = ⊎_elim (λ both. both.0) (λ both. both.0) (reported_said _ _ old new status says)

pub memory_says : (old begun new : World) (status : ℕ) → begun.log ≡ old.log → SaysScript (Err faults.Memory) old.log new.log status → IsStarved begun new status
memory_says old begun new status same says = ⊎_elim (λ both. inl both.0) (λ both. inr (both.0, both.1 ∙ ap (λ (s : SinkState). counted s.faults) (sym same))) (reported_said _ _ old.log new.log status says)

pub script_content : (key : Name) (old new : World) (status : ℕ) → RunsScript key old new status → TookScript key old new status
script_content key old new status run user2 behind long told = by_goes run.ending run.goes run.says
  where
    by_goes : (ending : Result ℕ Fault) → ScriptGoes key ending old (with_log new old.log) → SaysScript ending old.log new.log status → (transcript : Transcript) × TookTranscript user2 behind transcript old new status
    by_goes ending (no_key fault falls is) says =
        absurd (never_told key user2 behind long falls.stop falls.outcome.events falls.outcome.stands
        (these_told old.host new.host (answers_in falls.outcome.events) (key_and key user2 behind) (told_of falls.outcome.events falls.stop old (with_log new old.log) falls.outcome.happened) told))
    by_goes ending (no_reader user read is) says =
        let begun = with_log new old.log in
        took_behind key user old begun new status read told.before told.was user2 behind told.now
        (stops_first user begun (told.before ++ key_and key user []) (begun_told key user old begun new status read told.before told.was) status new refl refl refl (memory_says old begun new status refl (subst (λ (r : Result ℕ Fault). SaysScript r old.log new.log status) is says)))
    by_goes ending (no_line user begun earlier last now fault read lines stopped same is) says =
        let says2 : SaysScript (Err fault) old.log new.log status = subst (λ (r : Result ℕ Fault). SaysScript r old.log new.log status) is says in
        took_behind key user old begun new status read told.before told.was user2 behind told.now
        (stops user begun (told.before ++ key_and key user []) (begun_told key user old begun new status read told.before told.was) fault earlier last now status new lines stopped
        (ap (λ (w : World). w.host) same) (ap (λ (w : World). w.random) same) (ap (λ (w : World). w.out) same)
        (λ memory. memory_says old begun new status read.passed.log (subst (λ (f : Fault). SaysScript (Err f) old.log new.log status) memory says2)) (λ stream. stream_says old.log new.log status (subst (λ (f : Fault). SaysScript (Err f) old.log new.log status) stream says2)))
    by_goes ending (no_closing earlier seat more read last now script closings stopped same is) says =
        took_behind key script.user old script.begun new status script.read told.before told.was user2 behind told.now
        (stops_closing script.user script.begun (told.before ++ key_and key script.user []) (begun_told key script.user old script.begun new status script.read told.before told.was) earlier seat more read last now status new script.all closings stopped
        (ap (λ (w : World). w.host) same) (ap (λ (w : World). w.random) same) (ap (λ (w : World). w.out) same) (stream_says old.log new.log status (subst (λ (r : Result ℕ Fault). SaysScript r old.log new.log status) is says)))
    by_goes ending (no_end earlier more read last script closings failed same is) says =
        took_behind key script.user old script.begun new status script.read told.before told.was user2 behind told.now
        (stops_end script.user script.begun (told.before ++ key_and key script.user []) (begun_told key script.user old script.begun new status script.read told.before told.was) earlier more read last status new script.all closings
        (ap (λ (w : World). w.host) same) (ap (λ (w : World). w.random) same) (ap (λ (w : World). w.input) same) failed (stream_says old.log new.log status (subst (λ (r : Result ℕ Fault). SaysScript r old.log new.log status) is says)))
    by_goes ending (done earlier more read last script closings wrote same is) says =
        let says2 = subst (λ (r : Result ℕ Fault). SaysScript r old.log new.log status) is says in
        took_behind key script.user old script.begun new status script.read told.before told.was user2 behind told.now
        (ends script.user script.begun (told.before ++ key_and key script.user []) (begun_told key script.user old script.begun new status script.read told.before told.was) earlier more read last status new script.all closings
        (ap (λ (w : World). w.host) same) (ap (λ (w : World). w.random) same) (ap (λ (w : World). w.input) same) wrote says2.0 (says2.1 ∙ sym script.read.passed.log))
