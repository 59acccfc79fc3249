-- How a session ends behind its key, and what it put out until then.
use Rattle.std.proofs.Common.{◌≡◌, ◌⊎◌, inl, inr, ℕ, suc, true, false, List, [], ◌∷◌, ◌++◌, map, refl, sym, ◌∙◌, ap, subst, append_assoc, Some, Err}
use Rattle.std.specs.Prelude.{IfSome}
use Rattle.std.specs.List.{flat_map}
use Rattle.std.proofs.lemmas.List.{append-nil}
use Rattle.pf_io.specs.Answered.{WereTold}
use Rattle.pf_io.specs.Host.{Answer, HostState, Both, IsMore, since}
use Rattle.pf_io.specs.Streams.{SourceState, SinkState, TakesFront}
use Rattle.pf_io.specs.declared.faults.Memory.{Memory}
use Rattle.pf_io.proofs.Telling.{both_weaker}
use Rattle.pf_io.proofs.Writing.{wrote_both, told_front}
use Rattle.pf_script.specs.DeskSteps.{DeskStillShows}
use Rattle.pf_script.specs.Words.{SEATS}
use Rattle.pf_tool.specs.World.{World}
use Rattle.pf_tool.specs.Replying.{spoken_text, closed_text, first_of, end_text}
use Rattle.pf_tool.specs.Reports.{WroteAll, SinkFailed}
use Rattle.pf_tool.specs.Scripting.{At, begins, Answers, Lines, none_yet, AllLines, LineStops, not_read, not_answered, not_said, Closings, ClosingStops}
use Rattle.pf_tool.specs.Transcripts.{Item, exchange_of, item_text, item_status, text_of, status_of, Transcript, IsStarved, PutOut, whole, cut_off}
use Rattle.pf_tool.specs.declared.fault.Fault.{Fault}
use Rattle.pf_tool.specs.declared.fault.Fault.TheVariants as faults
use Rattle.pf_tool.proofs.ContentRuns.{front_taken}
use Rattle.pf_tool.proofs.ScriptSeen.{given_in, both_some, told_nothing}
use Rattle.pf_tool.proofs.ScriptReading.{lines_on, line_told, text_on, status_on, Answered, lines_answered}
use Rattle.pf_tool.proofs.ScriptClosing.{closing_texts, closing_statuses, closing_texts_on, one_closing, seats_on, Closed, seats_closed}
use Rattle.pf_tool.proofs.ScriptParts.{AllTold, all_told, lines_only, lines_part, with_closings, closed_part, ended_input, Behind}

pub wrote_front : (text all : List ℕ) (old new : SinkState) → all ≡ text → WroteAll text old new → Both old.bytes new.bytes (TakesFront all)
wrote_front text all old new is wrote = both_weaker (IsMore text) (TakesFront all) old.bytes new.bytes wrote.told (λ before now more. front_taken text [] all before now (is ∙ sym (append-nil text)) more)

pub failed_front : (text piece all : List ℕ) (old mid new : SinkState) → all ≡ text ++ piece → WroteAll text old mid → SinkFailed piece mid new → Both old.bytes new.bytes (TakesFront all)
failed_front text piece all old mid new is wrote failed = subst (λ (l : List ℕ). Both old.bytes new.bytes (TakesFront l)) (sym is) (told_front text piece old.bytes mid.bytes new.bytes wrote.told failed.told)

pub lines_text : (items : List Item) → text_of (lines_only items) ≡ flat_map item_text items
lines_text items = append-nil (flat_map item_text items ++ []) ∙ append-nil (flat_map item_text items)

module _ (user : List ℕ) (begun : World) (before : List Answer) (was : begun.host.given ≡ Some before) where
  abbrev Start : At
  Start = begins user begun

  five_or_seven : (status : ℕ) (new : World) → IsStarved begun new status → (status ≡ 5) ⊎ (status ≡ 7)
  five_or_seven status new (inl is) = inl is
  five_or_seven status new (inr both) = inr both.0

  -- there was no memory for a reader
  pub stops_first : (status : ℕ) (new : World) → new.host ≡ begun.host → new.random ≡ begun.random → new.out ≡ begun.out → IsStarved begun new status → (transcript : Transcript) × Behind user transcript begun new status
  stops_first status new host random out starved =
      let none = lines_answered Start 0 Start before was refl (none_yet 0 Start refl refl) in (
        lines_only none.items,
        record {
          until = begun;
          part = lines_part user begun none.items Start none.lines;
          more = [];
          told = told_nothing before begun.host new.host was (ap (λ (h : HostState). h.given) host);
          to_the_end = inr starved;
          input_read = λ e. absurd (cc);
          put = cut_off (five_or_seven status new starved) (subst (λ (s : SinkState). Both begun.out.bytes s.bytes (TakesFront (text_of (lines_only none.items)))) (sym out)
              (wrote_front (flat_map item_text none.items) (text_of (lines_only none.items)) begun.out begun.out (lines_text none.items) none.said));
        },
      )

  -- the run was cut off at a line
  pub stops : (fault : Fault) (earlier : ℕ) (last now : At) (status : ℕ) (new : World) → Lines Start earlier last → LineStops fault last now → new.host ≡ now.world.host → new.random ≡ now.world.random → new.out ≡ now.world.out
      → (fault ≡ faults.Memory → IsStarved begun new status) → (fault ≡ faults.Stream → status ≡ 7) → (transcript : Transcript) × Behind user transcript begun new status
  stops fault earlier last now status new lines cause host random out starved seven =
      let so_far = lines_answered Start earlier last before was refl lines in
      let told_before = so_far.lines.spoke.told.before ++ given_in (flat_map exchange_of so_far.items) in
      by_cause so_far told_before so_far.lines.spoke.told.now cause
    where
      by_cause : (so_far : Answered Start earlier last) (told : List Answer) → last.world.host.given ≡ Some told → LineStops fault last now → (transcript : Transcript) × Behind user transcript begun new status
      by_cause so_far told at_last (not_read cause reads nothing says is) = (
        lines_only so_far.items,
        record {
          until = last.world;
          part = lines_part user begun so_far.items last so_far.lines;
          more = [];
          told = told_nothing told last.world.host new.host at_last (ap (λ (h : HostState). h.given) (host ∙ nothing.same_host));
          to_the_end = inl (refl, sym (host ∙ nothing.same_host), sym (random ∙ nothing.same_random));
          input_read = λ e. absurd (cc);
          put = cut_off (inr (seven is)) (subst (λ (s : SinkState). Both begun.out.bytes s.bytes (TakesFront (text_of (lines_only so_far.items)))) (sym (out ∙ says.out)) (wrote_front (flat_map item_text so_far.items) (text_of (lines_only so_far.items)) begun.out last.world.out (lines_text so_far.items) so_far.said));
        },
      )
      by_cause so_far told at_last (not_answered none reads answers says is) =
          let went = on_step told at_last none answers in (
            lines_only so_far.items,
            record {
              until = last.world;
              part = lines_part user begun so_far.items last so_far.lines;
              more = went.0;
              told = went.1;
              to_the_end = inr (starved is);
              input_read = λ e. absurd (cc);
              put = cut_off (five_or_seven status new (starved is)) (subst (λ (s : SinkState). Both begun.out.bytes s.bytes (TakesFront (text_of (lines_only so_far.items)))) (sym (out ∙ says.out)) (wrote_front (flat_map item_text so_far.items) (text_of (lines_only so_far.items)) begun.out last.world.out (lines_text so_far.items) so_far.said));
            },
          )
        where
          on_step : (told : List Answer) → last.world.host.given ≡ Some told → (none : Memory) → Answers now.reader.line (Err none) last now → (more : List Answer) × WereTold more last.world.host new.host
          on_step told at_last none (inl nothing) = ([], told_nothing told last.world.host new.host at_last (ap (λ (h : HostState). h.given) (host ∙ nothing.same_host)))
          on_step told at_last none (inr step) =
              let found = both_some (λ b n. IsMore (since b n) b n × DeskStillShows last.desk now.desk (since b n)) last.world.host.given now.world.host.given told at_last step.2.wants.shows in
              (since told found.0, record { before = told; was = at_last; now = ap (λ (h : HostState). h.given) host ∙ found.1 ∙ ap (λ (l : List Answer). Some l) found.2.0 })
      by_cause so_far told at_last (not_said reply answered some failed is) =
          let one = line_told reply last now told at_last answered in
          let items = so_far.items ++ one.item ∷ [] in
          let told_now = lines_on so_far.items Start last now reply so_far.lines one in (
            lines_only items,
            record {
              until = now.world;
              part = lines_part user begun items now told_now;
              more = [];
              told = told_nothing (told_now.spoke.told.before ++ given_in (flat_map exchange_of items)) now.world.host new.host told_now.spoke.told.now (ap (λ (h : HostState). h.given) host);
              to_the_end = inl (refl, sym host, sym random);
              input_read = λ e. absurd (cc);
              put = cut_off (inr (seven is)) (subst (λ (s : SinkState). Both begun.out.bytes s.bytes (TakesFront (text_of (lines_only items)))) (sym out)
                  (failed_front (flat_map item_text so_far.items) (spoken_text reply) (text_of (lines_only items)) begun.out last.world.out now.world.out (lines_text items ∙ text_on so_far.items one.item ∙ ap (λ (l : List ℕ). flat_map item_text so_far.items ++ l) one.text_is) so_far.said failed));
            },
          )

  -- or at a closing
  pub stops_closing : (earlier seat more : ℕ) (read last now : At) (status : ℕ) (new : World) → AllLines Start earlier read → Closings read seat more last → ClosingStops seat last now → new.host ≡ now.world.host → new.random ≡ now.world.random
      → new.out ≡ now.world.out → status ≡ 7 → (transcript : Transcript) × Behind user transcript begun new status
  stops_closing earlier seat more read last now status new all closings stopped host random out seven =
      let lines = all_told Start earlier read before was refl all in
      let so_far = seats_closed read seat more last (lines.spoke.told.before ++ given_in (flat_map exchange_of lines.items)) lines.spoke.told.now closings in
      let one = one_closing seat stopped.reply last now (so_far.seats.spoke.told.before ++ given_in so_far.closed) so_far.seats.spoke.told.now stopped.closed in
      let closed = so_far.closed ++ one.closed in
      let seats = seats_on seat so_far.closed read last now stopped.reply so_far.seats one in
      let part = closed_part user begun earlier read lines (suc seat) closed false now (λ e. absurd (cc)) seats in (
        with_closings user begun earlier read lines closed false,
        record {
          until = now.world;
          part = part;
          more = [];
          told = told_nothing (seats.spoke.told.before ++ given_in closed) now.world.host new.host seats.spoke.told.now (ap (λ (h : HostState). h.given) host);
          to_the_end = inl (refl, sym host, sym random);
          input_read = λ e. absurd (cc);
          put = cut_off (inr seven) (subst (λ (s : SinkState). Both begun.out.bytes s.bytes (TakesFront (text_of (with_closings user begun earlier read lines closed false)))) (sym out)
              (failed_front (flat_map item_text lines.items ++ closing_texts so_far.closed) (closed_text stopped.reply) (text_of (with_closings user begun earlier read lines closed false)) begun.out last.world.out now.world.out
              (append-nil (flat_map item_text lines.items ++ closing_texts closed) ∙ ap (λ (l : List ℕ). flat_map item_text lines.items ++ l) (closing_texts_on so_far.closed one.closed ∙ ap (λ (l : List ℕ). closing_texts so_far.closed ++ l) one.text_is)
              ∙ sym (append_assoc (flat_map item_text lines.items) (closing_texts so_far.closed) (closed_text stopped.reply)))
              (wrote_both (flat_map item_text lines.items) (closing_texts so_far.closed) begun.out read.world.out last.world.out lines.said so_far.said) stopped.failed));
        },
      )

  -- or it came to `end`
  module _ (earlier more : ℕ) (read last : At) (status : ℕ) (new : World) (all : AllLines Start earlier read) (closings : Closings read SEATS more last) (host : new.host ≡ last.world.host) (random : new.random ≡ last.world.random) (input : new.input ≡ last.world.input) where
    lines : AllTold Start earlier read
    lines = all_told Start earlier read before was refl all

    so_far : Closed read SEATS more last
    so_far = seats_closed read SEATS more last (lines.spoke.told.before ++ given_in (flat_map exchange_of lines.items)) lines.spoke.told.now closings

    abbrev transcript : Transcript
    transcript = with_closings user begun earlier read lines so_far.closed true

    text_is : text_of transcript ≡ (flat_map item_text lines.items ++ closing_texts so_far.closed) ++ end_text
    text_is = refl

    wrote : WroteAll (flat_map item_text lines.items ++ closing_texts so_far.closed) begun.out last.world.out
    wrote = wrote_both (flat_map item_text lines.items) (closing_texts so_far.closed) begun.out read.world.out last.world.out lines.said so_far.said

    to_end : PutOut transcript begun new status → (transcript : Transcript) × Behind user transcript begun new status
    to_end put = (
      transcript,
      record {
        until = last.world;
        part = closed_part user begun earlier read lines SEATS so_far.closed true last (λ e. refl) so_far.seats;
        more = [];
        told = told_nothing (so_far.seats.spoke.told.before ++ given_in so_far.closed) last.world.host new.host so_far.seats.spoke.told.now (ap (λ (h : HostState). h.given) host);
        to_the_end = inl (refl, sym host, sym random);
        input_read = λ e. subst (λ (s : SourceState). IfSome s.left (λ left. left ≡ [])) (sym input) (ended_input user begun earlier read lines so_far.closed SEATS last so_far.seats);
        put = put;
      },
    )

    pub stops_end : SinkFailed end_text last.world.out new.out → status ≡ 7 → (transcript : Transcript) × Behind user transcript begun new status
    stops_end failed seven = to_end (cut_off (inr seven) (failed_front (flat_map item_text lines.items ++ closing_texts so_far.closed) end_text (text_of transcript) begun.out last.world.out new.out text_is wrote failed))

    pub ends : WroteAll end_text last.world.out new.out → status ≡ first_of earlier more → new.log ≡ begun.log → (transcript : Transcript) × Behind user transcript begun new status
    ends wrote_end is log = to_end (whole refl
        (subst (λ (l : List ℕ). WroteAll l begun.out new.out) (sym text_is) (wrote_both (flat_map item_text lines.items ++ closing_texts so_far.closed) end_text begun.out last.world.out new.out wrote wrote_end)) log
        (is ∙ ap (λ (n : ℕ). first_of n more) lines.status_is ∙ ap (λ (n : ℕ). first_of (status_of (map item_status lines.items)) n) so_far.status_is ∙ sym (status_on (map item_status lines.items) (closing_statuses so_far.closed))))
