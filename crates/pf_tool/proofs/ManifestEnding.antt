-- `manifest` from its parts: the reading of the template, its rendering, and the text that goes out.
use Rattle.std.proofs.Common.{◌≡◌, inl, inr, ℕ, suc, ◌-◌, List, [], ◌++◌, map, refl, subst, ap, ◌∙◌, sym, arith, Option, Some, None, Result, Ok, Err}
use Rattle.std.specs.List.{range_with_len}
use Rattle.std.proofs.lemmas.List.{append-nil}
use Rattle.std.proofs.lemmas.Option.{IfSome_then}
use Rattle.template_text.specs.Rendering.{Values}
use Rattle.pf_io.specs.Disk.{Name, Files, Disk, reading}
use Rattle.pf_io.specs.Host.{HostState, KeepsFiles, OnHonest, files_of}
use Rattle.pf_io.specs.Unchanged.{KeepsDisk}
use Rattle.pf_io.proofs.Unchanged.{kept_none, kept_then}
use Rattle.pf_tool.specs.World.{World}
use Rattle.pf_tool.specs.Events.{Event, Puts, answers_in}
use Rattle.pf_tool.specs.Endings.{Ending, Done, Refused, BadName, Stop, AtEnd, Starved, tried, stop_status}
use Rattle.pf_tool.specs.InputFiles.{InputReads, InputLeads, InputRead, InputOver, over_unnamed, over_absent, over_large, over_taken}
use Rattle.pf_tool.specs.Manifests.{FitsOutput, out_events, WritesText, LeavesText, text_refused, text_written, ManifestLeads, output_unfit, template_unread, template_read, IsRendered, ManifestLeaves}
use Rattle.pf_tool.specs.Outcomes.{IsAhead, Outcome, Falls, ComesOut}
use Rattle.pf_tool.specs.PlainFiles.{IsExactly}
use Rattle.pf_tool.specs.Rendering.{Renders, RenderFails, is_refused, is_starved}
use Rattle.pf_tool.specs.TextOutput.{piece_at, count_of}
use Rattle.pf_tool.specs.declared.fault.Fault.{Fault}
use Rattle.pf_tool.specs.declared.fault.Fault.TheVariants as faults
use Rattle.pf_tool.specs.declared.why.Why.TheVariants as whys
use Rattle.pf_tool.proofs.Composing.{files_kept, happened_honest, passed_none}
use Rattle.pf_tool.proofs.InputLaws.{input_over}
use Rattle.pf_tool.proofs.RenderLaws.{IsAheadOf, render_ahead, a_render}
use Rattle.pf_tool.proofs.SideBehind.{kept_leaves, leaves_behind}
use Rattle.pf_tool.proofs.Stopping.{GoesOn, LeadsOn, not_done, outcome_of, outcome_then, stands_on, refused, starves_at}

-- a text has an event, whatever it is
pub events_ahead : (output : Option Name) (text : List ℕ) → IsAhead (out_events output text) Done
events_ahead None text =
    let n = count_of text - 1 in
    let some : count_of text ≡ suc n = omega arith in
    subst (λ (k : ℕ). IsAhead (map Puts (map (piece_at text) (range_with_len 0 k))) Done) (sym some) tt
events_ahead (Some output) text = tt

-- what the text's way leads to
text_leads : (output : Option Name) (text : List ℕ) (es : List Event) (ending : Ending) → WritesText output text es ending → (es ≡ out_events output text) × (ending ≡ Done)
text_leads None text es ending writes = (writes.are, writes.done)
text_leads (Some output) text es ending writes = (writes.are, writes.done)

-- the bytes that were read are the file's
taken_of : (files : Files) (name : Name) (bytes : List ℕ) → InputOver files name (Ok bytes) → files name ≡ Some bytes
taken_of files name bytes (over_unnamed u is) = absurd (cc)
taken_of files name bytes (over_absent named none is) = absurd (cc)
taken_of files name bytes (over_large text named some many is) = absurd (cc)
taken_of files name bytes (over_taken text named some few is) = let same : bytes ≡ text = cc in some ∙ ap Some (sym same)

module _ (values : Values) (template : Name) where
  -- nothing was changed, and the work is not done
  kept_manifest : (output : Option Name) (tried : List Event) (stop : Stop) (old new : HostState) → (stop ≡ AtEnd Done → ⊥) → KeepsDisk old new → ManifestLeaves values template output tried stop old new
  kept_manifest None tried stop old new never kept = kept
  kept_manifest (Some output) tried stop old new never kept = kept_leaves output (λ disk _. IsRendered values template disk) tried stop old new never kept

  module _ (output : Option Name) where
    abbrev Leading : List Event → Ending → Type 0
    Leading events ending = ManifestLeads values template output events ending

    abbrev Leaving : List Event → Stop → HostState → HostState → Type 0
    Leaving tried stop old new = ManifestLeaves values template output tried stop old new

    -- OUT cannot be made
    pub unfit_ends : (old : World) → ¬ (FitsOutput output) → Falls (ManifestLeads values template output) (ManifestLeaves values template output) (faults.Refused whys.BadName) old old
    unfit_ends old unfit =
        refused Leading Leaving [] (Refused BadName) (faults.Refused whys.BadName) old old refl refl (output_unfit unfit refl refl) (passed_none old)
        (kept_manifest output [] (AtEnd (Refused BadName)) old.host old.host (λ same. absurd (cc)) (kept_none old.host))

    module _ (fits : FitsOutput output) where
      -- behind the template's bytes an ending comes in any case
      behind : (es : List Event) (bytes : List ℕ) → InputReads template es (Ok bytes) → (outcome : Result (List ℕ) Ending) → Renders values bytes outcome → GoesOn Leading es
      behind es bytes reads (Ok text) renders = (out_events output text, Done, template_read bytes es (out_events output text) fits reads (text_written text renders refl refl) refl)
      behind es bytes reads (Err ending) renders = ([], ending, template_read bytes es [] fits reads (text_refused renders refl) refl)

      goes_on : (es : List Event) (bytes : List ℕ) → InputReads template es (Ok bytes) → GoesOn Leading es
      goes_on es bytes reads = let render = a_render values bytes in behind es bytes reads render.0 render.1

      leads_on : (es : List Event) (ending : Ending) → InputLeads template es ending → LeadsOn Leading es ending
      leads_on es ending (inl unread) = inl (template_unread fits unread)
      leads_on es ending (inr read) = inr (read.2, goes_on es read.0 read.1)

      -- the template was not read
      pub unread_ends : (fault : Fault) (old new : World) → Falls (InputLeads template) (λ _ _. KeepsDisk) fault old new → Falls (ManifestLeads values template output) (ManifestLeaves values template output) fault old new
      unread_ends fault old new falls =
          let o = falls.outcome in
          let never : falls.stop ≡ AtEnd Done → ⊥ = λ is. not_done fault (falls.is_fault.ends ∙ ap stop_status is) in
          record {
            stop = falls.stop;
            is_fault = falls.is_fault;
            outcome = outcome_of [] (InputLeads template) Leading (λ _ _. KeepsDisk) Leaving falls.stop old old new o (passed_none old) (files_kept (answers_in o.events) old.host old.host refl (happened_honest o.events falls.stop old new o.happened))
                (stands_on [] (InputLeads template) Leading o.events falls.stop leads_on never o.stands) (λ kept. kept_manifest output (tried o.events falls.stop) falls.stop old.host new.host never kept);
          }

      module _ (bytes : List ℕ) (old mid : World) (read : InputRead template bytes old mid) (kept : KeepsDisk old.host mid.host) where
        -- its text is refused, or there was no memory for it
        pub text_ends : (fault : Fault) → RenderFails values bytes fault → Falls (ManifestLeads values template output) (ManifestLeaves values template output) fault old mid
        text_ends fault (is_refused ending is_fault renders) = record {
          stop = AtEnd ending;
          is_fault = is_fault;
          outcome = record {
            events = read.events;
            stands = template_read bytes read.events [] fits read.reads (text_refused renders refl) (sym (append-nil read.events));
            happened = read.passed;
            leaves = kept_manifest output read.events (AtEnd ending) old.host mid.host (λ same. not_done fault (is_fault.ends ∙ ap stop_status same)) kept;
          };
        }
        text_ends fault (is_starved is utf8) = starved_text (render_ahead values bytes utf8).0 (render_ahead values bytes utf8).1 (render_ahead values bytes utf8).2
          where
            starved_text : (outcome : Result (List ℕ) Ending) → Renders values bytes outcome → IsAheadOf outcome → Falls (ManifestLeads values template output) (ManifestLeaves values template output) fault old mid
            starved_text (Ok text) renders ahead =
                starves_at Leading Leaving read.events (out_events output text) Done fault old mid is (events_ahead output text)
                (template_read bytes read.events (out_events output text) fits read.reads (text_written text renders refl refl) refl) read.passed (kept_manifest output read.events Starved old.host mid.host (λ same. absurd (cc)) kept)
            starved_text (Err ending) renders ahead =
                starves_at Leading Leaving read.events [] ending fault old mid is ahead
                (template_read bytes read.events [] fits read.reads (text_refused renders refl) refl) read.passed (kept_manifest output read.events Starved old.host mid.host (λ same. absurd (cc)) kept)

        -- the text goes out
        module _ (text : List ℕ) (renders : Renders values bytes (Ok text)) (new : World) where
          abbrev Known : Files → Type 0
          Known files = files template ≡ Some bytes

          known : OnHonest old.host Known
          known = IfSome_then (files_of old.host) read.passed.host.honest (λ (f : Files) all. taken_of f template bytes (input_over f template read.events (Ok bytes) read.reads all))

          rendered_there : (d : Disk) (file : Option (List ℕ)) → Known (reading d) → file ≡ Some text → IsRendered values template d file
          rendered_there d file same is = (bytes, text, same, renders, is)

          text_left : (to : Option Name) (last : List Event) (stop : Stop) → LeavesText to text last stop mid.host new.host → ManifestLeaves values template to (read.events ++ last) stop old.host new.host
          text_left None last stop left = kept_then old.host mid.host new.host kept left
          text_left (Some name) last stop left =
              leaves_behind read.events last stop name Known (IsExactly text) (λ disk _. IsRendered values template disk) rendered_there old.host mid.host new.host kept known left

          text_outcome : (stop : Stop) → KeepsFiles old.host mid.host → Outcome (WritesText output text) (LeavesText output text) stop mid new → Outcome (ManifestLeads values template output) (ManifestLeaves values template output) stop old new
          text_outcome stop files o =
              outcome_then read.events (WritesText output text) Leading (LeavesText output text) Leaving stop old mid new o read.passed files
              (λ es ending writes. let way = text_leads output text es ending writes in template_read bytes read.events es fits read.reads (text_written text renders way.0 way.1) refl)
              (λ left. text_left output (tried o.events stop) stop left)

          pub written_ends : {T : Type 0} (r : Result T Fault) → KeepsFiles old.host mid.host → ComesOut (WritesText output text) (LeavesText output text) r mid new → ComesOut (ManifestLeads values template output) (ManifestLeaves values template output) r old new
          written_ends (Ok v) files ends = text_outcome (AtEnd Done) files ends
          written_ends (Err fault) files ends = record { stop = ends.stop; is_fault = ends.is_fault; outcome = text_outcome ends.stop files ends.outcome }
