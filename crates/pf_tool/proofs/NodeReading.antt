-- The reading of node 0, from its calls, and the whole of `decrypt`, from its parts.
use Rattle.std.proofs.Common.{◌≡◌, ◌≢◌, ℕ, ◌≤◌, List, [], ◌∷◌, ◌++◌, length, take, refl, subst, ap, ◌∙◌, sym, arith, Option, Some, None, Result, Ok, Err}
use Rattle.std.proofs.lemmas.List.{take_all}
use Rattle.node_layout.specs.Metadata.{magic}
use Rattle.node_layout.specs.Opening.{OpensTo}
use Rattle.node_layout.specs.declared.metadata.MetaSecret.{MetaSecret}
use Rattle.node_tree.specs.Opened.{block_of}
use Rattle.std.specs.Prelude.{option_map}
use Rattle.pf_io.specs.Disk.{Name, Disk, IsImage, reading}
use Rattle.pf_io.specs.Moments.{Honest, Ran}
use Rattle.pf_io.specs.Steps.{Stays}
use Rattle.pf_io.specs.Host.{Answer, LengthWas, Gave, HostState, Both, KeepsFiles}
use Rattle.pf_io.specs.Names.{IsTarget}
use Rattle.pf_io.specs.Unchanged.{KeepsDisk}
use Rattle.pf_io.proofs.Unchanged.{kept_none}
use Rattle.pf_tool.specs.World.{World, with_host}
use Rattle.pf_tool.specs.Events.{Event, Answers, reads_after, writes_after}
use Rattle.pf_tool.specs.Endings.{Ending, Damaged, Refused, BadName, NotFound, NotProtected, BadVersion, Unbuilt, Stop, ending_line}
use Rattle.pf_tool.specs.Faults.{fault_line, fault_status, SaysEnding, SaysOpening, MayMeetOpening}
use Rattle.pf_tool.specs.Happened.{HostPassed, HostFailed, Passed}
use Rattle.pf_tool.specs.Outcomes.{Falls, ComesOut}
use Rattle.pf_tool.specs.Keys.{IsKeyOf, KeyRefused, key_events}
use Rattle.node_layout.specs.declared.damage.Kind.TheVariants.{Short}
use Rattle.pf_io.specs.Counts.{counted_times}
use Rattle.pf_session.specs.Asking.{NoCall, reads_in, writes_in}
use Rattle.pf_session.specs.Opening as openings
use Rattle.pf_session.specs.Opening.{IsOpenable, node_answers, BlockRefused, update_pending, other_version, SecretRefused, other_path, OpenEnds, misnamed, absent, block_refused, secret_refused, accepted, opened_session, Opens, by_answers, length_failed, read_failed, no_names}
use Rattle.pf_session.specs.Questions.{OnlyAsked}
use Rattle.pf_session.specs.State.{SessionState}
use Rattle.pf_session.specs.declared.open_fault.OpenFault.{OpenFault}
use Rattle.pf_session.specs.declared.open_fault.OpenFault.TheVariants as opens
use Rattle.pf_tool.proofs.PieceRuns.{same_given}
use Rattle.pf_tool.specs.Decrypting.{NodeRefused, not_protected, node_short, node_pending, node_version, node_damaged, node_refused, pieces_read, piece_events, PiecesLead, Unseals, input_unnamed, input_absent, input_read, DecryptLeads, decrypt_key_refused, decrypt_key_read}
use Rattle.pf_tool.specs.Unsealing.{InputOpened, opening_events}
use Rattle.pf_tool.specs.declared.fault.Fault.{Fault}
use Rattle.pf_tool.specs.declared.fault.Fault.TheVariants as faults
use Rattle.pf_tool.proofs.Composing.{passed_none, passed_host, passed_reading, failed_host}
use Rattle.pf_tool.proofs.Stopping.{refused, host_fails, starves, falls_as, falls_after, ends_after}
use Rattle.pf_tool.proofs.OneFile.{refused_last}

abbrev Kept : List Event → Stop → HostState → HostState → Type 0
Kept tried stop old new = KeepsDisk old new

-- the bytes given of node 0 are a file that has no more
block_0 : (bytes : List ℕ) → length bytes ≤ 4096 → block_of bytes 0 ≡ bytes
block_0 bytes short = take_all 4096 bytes short

-- bytes of node 0 that are refused
pub unseals_refused : (user : List ℕ) (input : Name) (size : ℕ) (bytes : List ℕ) (ending : Ending) → IsTarget input → length bytes ≤ 4096 → NodeRefused user bytes ending → Unseals user input (opening_events input size bytes) ending
unseals_refused user input size bytes ending target short refused =
    let here : block_of bytes 0 ≡ bytes = block_0 bytes short in
    input_read size bytes [] target (node_refused (subst (λ (b : List ℕ). NodeRefused user b ending) (sym here) refused) refl)
    (ap (λ (l : List Event). Answers (LengthWas input (Some size)) ∷ Answers (Gave input 0 4096 bytes) ∷ l) (sym (refused_last user bytes ending refused input bytes))
    ∙ ap (λ (b : List ℕ). Answers (LengthWas input (Some size)) ∷ Answers (Gave input 0 4096 b) ∷ piece_events input bytes 0 [] ending) (sym here))

module _ (user : List ℕ) (input : Name) (world : World) (s0 : HostState) where
  pub no_length : (fault : Fault) (s1 : HostState) → IsTarget input → fault ≡ faults.Host → HostFailed (LengthWas input None) s0 s1 → KeepsDisk s0 s1 → Falls (Unseals user input) (λ _ _. KeepsDisk) fault (with_host world s0) (with_host world s1)
  no_length fault s1 target is failed kept =
      host_fails (Unseals user input) Kept [] [] (Refused (NotFound input)) fault (with_host world s0) (with_host world s0) (with_host world s1) (LengthWas input None) is (input_absent target refl refl)
      (passed_none (with_host world s0)) (failed_host (LengthWas input None) world s0 s1 failed) kept

  pub no_file : (fault : Fault) (answer : Option ℕ) (s1 : HostState) → IsTarget input → fault_line fault ≡ ending_line (Refused (NotFound input)) → fault_status fault ≡ 3 → answer ≡ None → HostPassed (LengthWas input answer ∷ []) s0 s1 → KeepsDisk s0 s1
      → Falls (Unseals user input) (λ _ _. KeepsDisk) fault (with_host world s0) (with_host world s1)
  no_file fault answer s1 target says ends is passed kept =
      refused (Unseals user input) Kept (Answers (LengthWas input answer) ∷ []) (Refused (NotFound input)) fault (with_host world s0) (with_host world s1) says ends
      (input_absent target (ap (λ (o : Option ℕ). Answers (LengthWas input o) ∷ []) is) refl) (passed_host (Answers (LengthWas input answer) ∷ []) world s0 s1 refl refl passed) kept

  pub no_node : (fault : Fault) (size : ℕ) (answer : Option ℕ) (s1 s2 : HostState) → IsTarget input → fault ≡ faults.Host → answer ≡ Some size → HostPassed (LengthWas input answer ∷ []) s0 s1 → HostFailed (Gave input 0 4096 []) s1 s2 → KeepsDisk s0 s2
      → Falls (Unseals user input) (λ _ _. KeepsDisk) fault (with_host world s0) (with_host world s2)
  no_node fault size answer s1 s2 target is there passed failed kept =
      let no_magic : take 8 [] ≢ magic = λ same. absurd (omega (arith, ap (λ (l : List ℕ). length l) same)) in
      host_fails (Unseals user input) Kept (Answers (LengthWas input answer) ∷ []) [] (Refused NotProtected) fault (with_host world s0) (with_host world s1) (with_host world s2) (Gave input 0 4096 []) is
      (subst (λ (o : Option ℕ). Unseals user input (Answers (LengthWas input o) ∷ Answers (Gave input 0 4096 []) ∷ []) (Refused NotProtected)) (sym there) (unseals_refused user input size [] (Refused NotProtected) target (omega arith) (not_protected no_magic refl)))
      (passed_host (Answers (LengthWas input answer) ∷ []) world s0 s1 refl refl passed) (failed_host (Gave input 0 4096 []) world s1 s2 failed) kept

  pub bad_node : (fault : Fault) (size : ℕ) (bytes : List ℕ) (ending : Ending) (s1 : HostState) → IsTarget input → length bytes ≤ 4096 → NodeRefused user bytes ending → SaysEnding ending fault → HostPassed (node_answers input size bytes) s0 s1 → KeepsDisk s0 s1
      → Falls (Unseals user input) (λ _ _. KeepsDisk) fault (with_host world s0) (with_host world s1)
  bad_node fault size bytes ending s1 target short refuses says passed kept =
      refused (Unseals user input) Kept (opening_events input size bytes) ending fault (with_host world s0) (with_host world s1) says.says says.ends (unseals_refused user input size bytes ending target short refuses)
      (passed_host (opening_events input size bytes) world s0 s1 refl refl passed) kept

  -- there was no memory for the names
  pub no_room : (fault : Fault) (s1 : HostState) → IsTarget input → fault ≡ faults.Memory → s1 ≡ s0 → Falls (Unseals user input) (λ _ _. KeepsDisk) fault (with_host world s0) (with_host world s1)
  no_room fault s1 target is same =
      subst (λ (s : HostState). Falls (Unseals user input) (λ _ _. KeepsDisk) fault (with_host world s0) (with_host world s)) (sym same)
      (starves (Unseals user input) Kept [] [] (Answers (LengthWas input None)) (Refused (NotFound input)) fault (with_host world s0) (with_host world s0) is (input_absent target refl refl) (passed_none (with_host world s0)) (kept_none s0))

-- questions that were answered
passed_of : (these : List Answer) (s0 s1 : HostState) → ((count : ℕ) → counted_times (reads_in these NoCall) count ≡ reads_after these count) → ((count : ℕ) → counted_times (writes_in these NoCall) count ≡ writes_after these count) → OnlyAsked these NoCall s0 s1
    → HostPassed these s0 s1
passed_of these s0 s1 reads writes asked = record {
  told = asked.answered.told;
  calm = asked.asked.faults;
  reads = asked.asked.reads ∙ reads s0.reads;
  writes = asked.asked.writes ∙ writes s0.writes;
  untouched = λ none. asked.untouched none refl;
  honest = asked.answered.honest;
}

pub opening_passed : (input : Name) (size : ℕ) (block : List ℕ) (s0 s1 : HostState) → OnlyAsked (node_answers input size block) NoCall s0 s1 → HostPassed (node_answers input size block) s0 s1
opening_passed input size block s0 s1 asked = passed_of (node_answers input size block) s0 s1 (λ n. refl) (λ n. refl) asked

same_fault : (fault other : OpenFault) → ◌≡◌ {A = Result SessionState OpenFault} (Err fault) (Err other) → fault ≡ other
same_fault fault other same = cc

accepted_apart : (fault : OpenFault) (session : SessionState) → ◌≡◌ {A = Result SessionState OpenFault} (Err fault) (Ok session) → ⊥
accepted_apart fault session same = cc

-- node 0 is refused with an ending that the fault says
record Ends (user : List ℕ) (block : List ℕ) (said : Fault) : Type 0 where
  ending : Ending
  refused_so : NodeRefused user block ending
  says : SaysEnding ending said
  short : length block ≤ 4096

block_ends : (user : List ℕ) (input : Name) (block : List ℕ) (fault : OpenFault) (said : Fault) → BlockRefused block fault → SaysOpening input fault said → Ends user block said
block_ends user input block fault said (openings.not_protected few other is) says = record { ending = Refused NotProtected; refused_so = not_protected other refl; says = subst (λ (f : OpenFault). SaysOpening input f said) is says; short = few }
block_ends user input block fault said (openings.node_short magic short is) says =
    record { ending = Damaged 0 Short; refused_so = node_short magic short refl; says = subst (λ (f : OpenFault). SaysOpening input f said) is says; short = omega (arith, short) }
block_ends user input block fault said (update_pending magic long flag is) says =
    record { ending = Refused Unbuilt; refused_so = node_pending magic long flag refl; says = subst (λ (f : OpenFault). SaysOpening input f said) is says; short = omega (arith, long) }
block_ends user input block fault said (other_version major minor long flag version is) says =
    record { ending = Refused (BadVersion major minor); refused_so = node_version major minor long flag version refl; says = subst (λ (f : OpenFault). SaysOpening input f said) is says; short = omega (arith, long) }

secret_ends : (user : List ℕ) (input : Name) (block : List ℕ) (fault : OpenFault) (said : Fault) → IsOpenable block → SecretRefused user None block fault → SaysOpening input fault said → Ends user block said
secret_ends user input block fault said openable (openings.not_opened kind fails is) says =
    record { ending = Damaged 0 kind; refused_so = node_damaged kind openable fails refl; says = subst (λ (f : OpenFault). SaysOpening input f said) is says; short = omega (arith, openable.whole) }
secret_ends user input block fault said openable (other_path secret given opens path_is other is) says = absurd (cc)

module _ (user : List ℕ) (input : Name) (s0 s1 : HostState) (kept : KeepsDisk s0 s1) (fault : OpenFault) (said : Fault) (says : SaysOpening input fault said) (world : World) where
  abbrev Fallen : Type 0
  Fallen = Falls (Unseals user input) (λ _ _. KeepsDisk) said (with_host world s0) (with_host world s1)

  by_these : (these : List Answer) → OnlyAsked these NoCall s0 s1 → OpenEnds user input None these (Err fault) → Fallen
  by_these these asked (misnamed unfit none is) =
      let same = asked.untouched none refl in
      let e : SaysEnding (Refused BadName) said = subst (λ (f : OpenFault). SaysOpening input f said) (same_fault fault opens.BadName is) says in
      subst (λ (s : HostState). Falls (Unseals user input) (λ _ _. KeepsDisk) said (with_host world s0) (with_host world s)) (sym same)
      (refused (Unseals user input) Kept [] (Refused BadName) said (with_host world s0) (with_host world s0) e.says e.ends (input_unnamed (λ target. unfit (record { target = target; stored = tt })) refl refl) (passed_none (with_host world s0)) (kept_none s0))
  by_these these asked (absent good are is) =
      let e : SaysEnding (Refused (NotFound input)) said = subst (λ (f : OpenFault). SaysOpening input f said) (same_fault fault opens.NotFound is) says in
      no_file user input world s0 said None s1 good.target e.says e.ends refl (passed_of (LengthWas input None ∷ []) s0 s1 (λ n. refl) (λ n. refl) (subst (λ (l : List Answer). OnlyAsked l NoCall s0 s1) are asked)) kept
  by_these these asked (block_refused size block other good are refused is) =
      let e = block_ends user input block other said refused (subst (λ (f : OpenFault). SaysOpening input f said) (same_fault fault other is) says) in
      bad_node user input world s0 said size block e.ending s1 good.target e.short e.refused_so e.says (opening_passed input size block s0 s1 (subst (λ (l : List Answer). OnlyAsked l NoCall s0 s1) are asked)) kept
  by_these these asked (secret_refused size block other good are openable refused is) =
      let e = secret_ends user input block other said openable refused (subst (λ (f : OpenFault). SaysOpening input f said) (same_fault fault other is) says) in
      bad_node user input world s0 said size block e.ending s1 good.target e.short e.refused_so e.says (opening_passed input size block s0 s1 (subst (λ (l : List Answer). OnlyAsked l NoCall s0 s1) are asked)) kept
  by_these these asked (accepted size block secret good are openable is_accepted is) = absurd (accepted_apart fault _ is)

  -- the file was not opened
  pub opening_falls : Opens user input None s0 s1 (Err fault) → Fallen
  opening_falls (by_answers these asked ends) = by_these these asked ends
  opening_falls (length_failed good asked is) =
      no_length user input world s0 said s1 good.target (subst (λ (f : OpenFault). SaysOpening input f said) (same_fault fault opens.Host is) says)
      (record { told = same_given s0.given s1.given asked.asked.told; once = asked.asked.faults; reads = asked.asked.reads; writes = asked.asked.writes }) kept
  opening_falls (read_failed size good asked is) =
      let mid : HostState = record { faults = s0.faults; reads = s0.reads; writes = s0.writes; widest = s1.widest; given = s1.given; honest = s1.honest } in
      let first : HostPassed (LengthWas input (Some size) ∷ []) s0 mid = record { told = asked.answered.told; calm = refl; reads = refl; writes = refl; untouched = λ none. absurd (cc); honest = asked.answered.honest } in
      no_node user input world s0 said size (Some size) mid s1 good.target (subst (λ (f : OpenFault). SaysOpening input f said) (same_fault fault opens.Host is) says) refl first
      (record { told = refl; once = asked.asked.faults; reads = asked.asked.reads; writes = asked.asked.writes }) kept
  opening_falls (no_names good same is) = no_room user input world s0 said s1 good.target (subst (λ (f : OpenFault). SaysOpening input f said) (same_fault fault opens.Memory is) says) same

files_at : (o p : Option Honest) → Both o p (Ran IsImage Stays) → option_map (λ (h : Honest). reading h.now) p ≡ option_map (λ (h : Honest). reading h.now) o
files_at (Some a) (Some b) ran = ap (λ (d : Disk). Some (reading d)) ran.ends
files_at None None ran = refl
files_at (Some a) None ran = absurd ran
files_at None (Some b) ran = absurd ran

-- a disk that stays has the same files
pub kept_files : (old new : HostState) → KeepsDisk old new → KeepsFiles old new
kept_files old new kept = files_at old.honest new.honest kept

no_other : (session : SessionState) (fault : OpenFault) → ◌≡◌ {A = Result SessionState OpenFault} (Ok session) (Err fault) → ⊥
no_other session fault same = cc

-- what no opening under any path meets
pub no_wrong_path : (user : List ℕ) (input : Name) (s0 s1 : HostState) (fault : OpenFault) → Opens user input None s0 s1 (Err fault) → MayMeetOpening fault
no_wrong_path user input s0 s1 fault goes = by fault (λ stored is. wrong stored is goes) where
  by : (fault : OpenFault) → ((stored : List ℕ) → fault ≡ opens.WrongPath stored → ⊥) → MayMeetOpening fault
  by opens.BadName never = tt
  by opens.Memory never = tt
  by opens.Host never = tt
  by opens.NotFound never = tt
  by opens.NotProtected never = tt
  by (opens.Damaged damage) never = tt
  by opens.Unbuilt never = tt
  by (opens.BadVersion major minor) never = tt
  by (opens.WrongPath stored) never = never stored refl

  no_block : (stored block : List ℕ) → BlockRefused block (opens.WrongPath stored) → ⊥
  no_block stored block (openings.not_protected few other is) = absurd (cc)
  no_block stored block (openings.node_short magic short is) = absurd (cc)
  no_block stored block (update_pending magic long flag is) = absurd (cc)
  no_block stored block (other_version major minor long flag version is) = absurd (cc)

  no_secret : (stored block : List ℕ) → SecretRefused user None block (opens.WrongPath stored) → ⊥
  no_secret stored block (openings.not_opened kind fails is) = absurd (cc)
  no_secret stored block (other_path secret given opens path_is other is) = absurd (cc)

  ends_so : (stored : List ℕ) (these : List Answer) → OpenEnds user input None these (Err (opens.WrongPath stored)) → ⊥
  ends_so stored these (misnamed unfit none is) = absurd (cc)
  ends_so stored these (absent good are is) = absurd (cc)
  ends_so stored these (block_refused size block other good are refused is) = no_block stored block (subst (λ (f : OpenFault). BlockRefused block f) (sym (same_fault (opens.WrongPath stored) other is)) refused)
  ends_so stored these (secret_refused size block other good are openable refused is) = no_secret stored block (subst (λ (f : OpenFault). SecretRefused user None block f) (sym (same_fault (opens.WrongPath stored) other is)) refused)
  ends_so stored these (accepted size block secret good are openable is_accepted is) = absurd (accepted_apart (opens.WrongPath stored) _ is)

  wrong_so : (stored : List ℕ) → Opens user input None s0 s1 (Err (opens.WrongPath stored)) → ⊥
  wrong_so stored (by_answers these asked ends) = ends_so stored these ends
  wrong_so stored (length_failed good asked is) = absurd (cc)
  wrong_so stored (read_failed size good asked is) = absurd (cc)
  wrong_so stored (no_names good same is) = absurd (cc)

  wrong : (stored : List ℕ) → fault ≡ opens.WrongPath stored → Opens user input None s0 s1 (Err fault) → ⊥
  wrong stored is goes = wrong_so stored (subst (λ (f : OpenFault). Opens user input None s0 s1 (Err f)) is goes)

-- the file was opened
module _ (user : List ℕ) (input : Name) (s0 s1 : HostState) (session : SessionState) where
  accepted_so : (these : List Answer) → OnlyAsked these NoCall s0 s1 → OpenEnds user input None these (Ok session) → InputOpened user input session s0 s1
  accepted_so these asked (misnamed unfit none is) = absurd (no_other session _ is)
  accepted_so these asked (absent good are is) = absurd (no_other session _ is)
  accepted_so these asked (block_refused size block other good are refused is) = absurd (no_other session _ is)
  accepted_so these asked (secret_refused size block other good are openable refused is) = absurd (no_other session _ is)
  accepted_so these asked (accepted size block secret good are openable is_accepted is) =
      let same : session ≡ opened_session user input block secret = cc in
      record {
        is_target = good.target;
        size = size;
        node = block;
        secret = secret;
        openable = openable;
        opens_to = is_accepted.opened;
        name_is = ap (λ (s : SessionState). s.name) same;
        tree_is = ap (λ (s : SessionState). s.tree) same;
        is_whole = ap (λ (s : SessionState). s.broken) same;
        named = ap (λ (s : SessionState). s.beside) same;
        passed = λ world. passed_host (opening_events input size block) world s0 s1 refl refl (opening_passed input size block s0 s1 (subst (λ (l : List Answer). OnlyAsked l NoCall s0 s1) are asked));
      }

  pub opening_done : Opens user input None s0 s1 (Ok session) → InputOpened user input session s0 s1
  opening_done (by_answers these asked ends) = accepted_so these asked ends
  opening_done (length_failed good asked is) = absurd (no_other session _ is)
  opening_done (read_failed size good asked is) = absurd (no_other session _ is)
  opening_done (no_names good same is) = absurd (no_other session _ is)

-- the pieces of a file that was opened are those of the command
pub unseals_pieces : (user : List ℕ) (input : Name) (size : ℕ) (node : List ℕ) (secret : MetaSecret) → IsTarget input → IsOpenable node → OpensTo user node secret → (es : List Event) (ending : Ending) → PiecesLead input node secret es ending
    → Unseals user input (opening_events input size node ++ es) ending
unseals_pieces user input size node secret target whole opens es ending lead =
    input_read size lead.file lead.pieces target
    (pieces_read lead.end (subst IsOpenable (sym lead.first) whole) (record { secret = secret; opens_to = subst (λ (b : List ℕ). OpensTo user b secret) (sym lead.first) opens; pieces_are = lead.are }) lead.ending_is)
    (ap (λ (l : List Event). Answers (LengthWas input (Some size)) ∷ Answers (Gave input 0 4096 node) ∷ l) (lead.events_are ∙ ap (λ (e : Ending). piece_events input lead.file 0 lead.pieces e) (sym lead.ending_is))
    ∙ ap (λ (b : List ℕ). Answers (LengthWas input (Some size)) ∷ Answers (Gave input 0 4096 b) ∷ piece_events input lead.file 0 lead.pieces ending) (sym lead.first))

module _ (key input : Name) where
  pub no_key : (fault : Fault) (old new : World) → Falls (KeyRefused key) (λ _ _. KeepsDisk) fault old new → Falls (DecryptLeads key input) (λ _ _. KeepsDisk) fault old new
  no_key fault old new falls = falls_as (KeyRefused key) (DecryptLeads key input) (λ _ _. KeepsDisk) (λ _ _. KeepsDisk) fault old new (λ es ending why. decrypt_key_refused why) (λ tried stop kept. kept) falls

  module _ (user : List ℕ) (has : IsKeyOf key user) (old mid : World) (passed : Passed (key_events key user) old mid) (files : KeepsFiles old.host mid.host) where
    pub no_input : (fault : Fault) (new : World) → Falls (Unseals user input) (λ _ _. KeepsDisk) fault mid new → KeepsDisk old.host new.host → Falls (DecryptLeads key input) (λ _ _. KeepsDisk) fault old new
    no_input fault new falls kept = falls_after (key_events key user) (Unseals user input) (DecryptLeads key input) fault old mid new falls passed files kept (λ es ending lead. decrypt_key_read user es has refl lead)

    module _ (size : ℕ) (node : List ℕ) (target : IsTarget input) (whole : IsOpenable node) (now : World) (opening : Passed (opening_events input size node) mid now) (files_then : KeepsFiles mid.host now.host) where
      both : Passed (key_events key user ++ opening_events input size node) old now
      both = passed_reading (key_events key user) (opening_events input size node) old mid now passed files opening

      pub opened : {T : Type 0} (secret : MetaSecret) (result : Result T Fault) (new : World) → OpensTo user node secret → ComesOut (PiecesLead input node secret) (λ _ _. KeepsDisk) result now new → KeepsDisk old.host new.host → ComesOut (DecryptLeads key input) (λ _ _. KeepsDisk) result old new
      opened secret result new opens ends kept =
          ends_after (key_events key user ++ opening_events input size node) (PiecesLead input node secret) (DecryptLeads key input) result old now new ends both (files_then ∙ files) kept
          (λ es ending lead. decrypt_key_read user (opening_events input size node ++ es) has refl (unseals_pieces user input size node secret target whole opens es ending lead))
