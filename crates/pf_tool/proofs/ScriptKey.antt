-- A session whose key is refused, and that no other session is decided so.
use Rattle.std.proofs.Common.{◌≡◌, ◌∙◌, inl, inr, ℕ, List, [], ◌∷◌, ◌++◌, length, refl, sym, ap, subst, arith, Option, Some, None, Result, Ok, Err, append_assoc}
use Rattle.std.proofs.lemmas.List.{append-nil, append_cancel_left}
use Rattle.pf_io.specs.Disk.{Name, Files}
use Rattle.pf_io.specs.Host.{Answer, LengthWas, Gave, HostState, Both, IsMore, WhereTold, files_of}
use Rattle.pf_script.specs.DeskSteps.{Asks, DeskStillShows}
use Rattle.pf_script.specs.declared.next_line.NextLine.{NextLine}
use Rattle.pf_script.specs.declared.next_line.NextLine.TheVariants as nexts
use Rattle.pf_script.specs.declared.line.ScriptLine.TheVariants as lines
use Rattle.pf_script.specs.declared.reply.Reply.{Reply}
use Rattle.pf_tool.specs.World.{World, with_log}
use Rattle.pf_tool.specs.Endings.{Ending}
use Rattle.pf_tool.specs.Events.{Event, answers_in}
use Rattle.pf_tool.specs.Encrypting.{no_key as no_key_at_all}
use Rattle.pf_tool.specs.Keys.{KeyRefused, key_unnamed, key_absent, key_length, key_short, KeyOver}
use Rattle.pf_tool.specs.Outcomes.{SaysScript}
use Rattle.pf_tool.specs.Requests.{Session}
use Rattle.pf_tool.specs.Runs.{ByWords, DecidedByEvents, NoneCounted, Honestly}
use Rattle.pf_tool.specs.Scripting.{At, begins, Answers as AnswersBytes, NextAnswered, LineAnswered, Lines, none_yet, one_more, LineStops, not_read, not_answered, not_said, AllLines, SeatClosed, Closings, none_closed, one_closed, KeyRead, ScriptRead, ScriptGoes, no_key, no_reader, no_line, no_closing, no_end, done}
use Rattle.pf_tool.specs.declared.fault.Fault.{Fault}
use Rattle.pf_tool.proofs.EncryptLaws.{words_alone}
use Rattle.pf_tool.proofs.KeyOver.{key_over_one, key_read_over}
use Rattle.pf_tool.proofs.RunClauses.{all_of, events_by_words, events_decided, events_honest}
use Rattle.pf_tool.proofs.ScriptCauses.{key_run}

-- what a host has told goes on
abbrev Grows : HostState → HostState → Type 0
Grows old new = (before : List Answer) → old.given ≡ Some before → (more : List Answer) × (new.given ≡ Some (before ++ more))

grows_none : (old new : HostState) → new.given ≡ old.given → Grows old new
grows_none old new same before is = ([], same ∙ is ∙ ap (λ (l : List Answer). Some l) (sym (append-nil before)))

grows_then : (a b c : HostState) → Grows a b → Grows b c → Grows a c
grows_then a b c one two before is =
    let first = one before is in
    let second = two (before ++ first.0) first.1 in
    (first.0 ++ second.0, second.1 ∙ ap (λ (l : List Answer). Some l) (append_assoc before first.0 second.0))

both_grow : (P : List Answer → List Answer → Type 0) (o p : Option (List Answer)) → ((before now : List Answer) → P before now → (more : List Answer) × (now ≡ before ++ more)) → Both o p P → (before : List Answer) → o ≡ Some before → (more : List Answer) × (p ≡ Some (before ++ more))
both_grow P (Some a) (Some b) more both before is = let same : a ≡ before = cc in let one = more a b both in (one.0, ap (λ (l : List Answer). Some l) (one.1 ∙ ap (λ (l : List Answer). l ++ one.0) same))
both_grow P (Some a) None more both before is = absurd both
both_grow P None p more both before is = absurd (cc)

grows_told : (P : List Answer → Type 0) (old new : HostState) → WhereTold old new P → Grows old new
grows_told P old new told = both_grow _ old.given new.given (λ before now both. (_, both.0)) told

grows_answers : (bytes : List ℕ) (reply : Option Reply) (old new : At) → AnswersBytes bytes (Ok reply) old new → Grows old.world.host new.world.host
grows_answers bytes None old new is = grows_none old.world.host new.world.host (ap (λ (h : HostState). h.given) is.1.same_host)
grows_answers bytes (Some reply) old new is = grows_told (λ given. Asks is.0 reply old.desk new.desk given old.world.host new.world.host old.world.random new.world.random) old.world.host new.world.host is.2.asks

grows_next : (next : NextLine) (bytes : List ℕ) (reply : Option Reply) (old new : At) → NextAnswered next bytes reply old new → Grows old.world.host new.world.host
grows_next nexts.Whole bytes reply old new is = grows_answers bytes reply old new is
grows_next nexts.TooLong bytes reply old new is = grows_none old.world.host new.world.host (ap (λ (h : HostState). h.given) is.1.same_host)
grows_next nexts.End bytes reply old new is = absurd is

grows_line : (reply : Option Reply) (old new : At) → LineAnswered reply old new → Grows old.world.host new.world.host
grows_line reply old new line = grows_next line.next new.reader.line reply old new line.answers

grows_lines : (start : At) (status : ℕ) (now : At) → Lines start status now → Grows start.world.host now.world.host
grows_lines start _ _ (none_yet status now none same) = grows_none start.world.host now.world.host (ap (λ (a : At). a.world.host.given) same)
grows_lines start _ _ (one_more earlier status reply mid now lines goes is) = grows_then start.world.host mid.world.host now.world.host (grows_lines start earlier mid lines) (grows_line reply mid now goes.answered)

grows_all : (start : At) (status : ℕ) (now : At) → AllLines start status now → Grows start.world.host now.world.host
grows_all start status now all =
    grows_then start.world.host all.last.world.host now.world.host (grows_lines start status all.last all.lines) (grows_none all.last.world.host now.world.host (ap (λ (h : HostState). h.given) all.ends.nothing.same_host))

grows_closed : (seat : ℕ) (reply : Option Reply) (old new : At) → SeatClosed seat reply old new → Grows old.world.host new.world.host
grows_closed seat None old new closed = grows_none old.world.host new.world.host (ap (λ (h : HostState). h.given) closed.ends.1)
grows_closed seat (Some reply) old new closed = grows_told (λ given. Asks (lines.Close seat) reply old.desk new.desk given old.world.host new.world.host old.world.random new.world.random) old.world.host new.world.host closed.ends.asks

grows_closings : (start : At) (count status : ℕ) (now : At) → Closings start count status now → Grows start.world.host now.world.host
grows_closings start _ _ _ (none_closed count status now nil none same) = grows_none start.world.host now.world.host (ap (λ (a : At). a.world.host.given) same)
grows_closings start _ _ _ (one_closed seat count earlier status reply mid now closings closed wrote next is) =
    grows_then start.world.host mid.world.host now.world.host (grows_closings start seat earlier mid closings) (grows_closed seat reply mid now closed)

module _ (key : Name) (old new : World) (status : ℕ) where
  abbrev Now : World
  Now = with_log new old.log

  abbrev Ended : Result ℕ Fault → Type 0
  Ended ending = SaysScript ending old.log new.log status

  -- the words alone refuse no key that was read
  read_speaks : (user : List ℕ) (mid : World) → KeyRead key user old mid → ByWords (Session key) old new status
  read_speaks user mid read = λ ending refused. absurd (words_alone key key key ending (no_key_at_all refused) read.is_key.is_name)

  pub script_by_words : (ending : Result ℕ Fault) → ScriptGoes key ending old Now → Ended ending → ByWords (Session key) old new status
  script_by_words ending (no_key fault falls is) says = events_by_words (Session key) old new status (key_run key old new status fault falls (subst Ended is says))
  script_by_words ending (no_reader user read is) says = read_speaks user Now read
  script_by_words ending (no_line user begun s last now fault read lines stops same is) says = read_speaks user begun read
  script_by_words ending (no_closing s seat more read last now begun closings stops same is) says = read_speaks begun.user begun.begun begun.read
  script_by_words ending (no_end s more read last begun closings failed same is) says = read_speaks begun.user begun.begun begun.read
  script_by_words ending (done s more read last begun closings wrote same is) says = read_speaks begun.user begun.begun begun.read

  -- what is said where files give no key
  abbrev HonestRefusal : Type 0
  HonestRefusal = (files : Files) → files_of old.host ≡ Some files → NoneCounted old new → (ending : Ending) → KeyOver files key (Err ending) → Honestly (Session key) files old new status

  -- files that give a key refuse none
  read_honest : (user : List ℕ) (mid : World) → KeyRead key user old mid → HonestRefusal
  read_honest user mid read files is none ending over =
      let first : List Answer = LengthWas key (Some 16) ∷ Gave key 0 16 user ∷ [] in
      let answers = all_of files (files_of old.host) first is read.passed.host.honest in
      let same : Err ending ≡ Ok user = key_over_one files key (Err ending) (Ok user) over (key_read_over files key user [] read.is_key answers) in
      absurd (cc)

  pub script_refused : (ending : Result ℕ Fault) → ScriptGoes key ending old Now → Ended ending → HonestRefusal
  script_refused ending (no_key fault falls is) says = λ files given none other over. events_honest (Session key) old new status (key_run key old new status fault falls (subst Ended is says)) files given none
  script_refused ending (no_reader user read is) says = read_honest user Now read
  script_refused ending (no_line user begun s last now fault read lines stops same is) says = read_honest user begun read
  script_refused ending (no_closing s seat more read last now begun closings stops same is) says = read_honest begun.user begun.begun begun.read
  script_refused ending (no_end s more read last begun closings failed same is) says = read_honest begun.user begun.begun begun.read
  script_refused ending (done s more read last begun closings wrote same is) says = read_honest begun.user begun.begun begun.read

  -- the answers of a key that was read are none of a refusal
  not_of_key : (user : List ℕ) (more : List Answer) (events : List Event) (ending : Ending) → KeyRefused key events ending → length user ≡ 16 → answers_in events ≡ LengthWas key (Some 16) ∷ Gave key 0 16 user ∷ more → ⊥
  not_of_key user more events ending (key_unnamed u is ends) long all = let none : [] ≡ LengthWas key (Some 16) ∷ Gave key 0 16 user ∷ more = sym (ap (λ (l : List Event). answers_in l) is) ∙ all in absurd (cc)
  not_of_key user more events ending (key_absent named is ends) long all = let one : LengthWas key None ∷ [] ≡ LengthWas key (Some 16) ∷ Gave key 0 16 user ∷ more = sym (ap (λ (l : List Event). answers_in l) is) ∙ all in absurd (cc)
  not_of_key user more events ending (key_length n named other is ends) long all =
      let one : LengthWas key (Some n) ∷ [] ≡ LengthWas key (Some 16) ∷ Gave key 0 16 user ∷ more = sym (ap (λ (l : List Event). answers_in l) is) ∙ all in absurd (cc)
  not_of_key user more events ending (key_short bytes named short is ends) long all =
      let two : LengthWas key (Some 16) ∷ Gave key 0 16 bytes ∷ [] ≡ LengthWas key (Some 16) ∷ Gave key 0 16 user ∷ more = sym (ap (λ (l : List Event). answers_in l) is) ∙ all in
      let same : bytes ≡ user = cc in
      absurd (omega (arith, short, long, ap (λ (l : List ℕ). length l) same))

  both_is : (these : List Answer) (o p : Option (List Answer)) (before : List Answer) → o ≡ Some before → Both o p (IsMore these) → p ≡ Some (before ++ these)
  both_is these (Some a) (Some b) before is both = let same : a ≡ before = cc in ap (λ (l : List Answer). Some l) (both ∙ ap (λ (l : List Answer). l ++ these) same)
  both_is these (Some a) None before is both = absurd both
  both_is these None p before is both = absurd (cc)

  -- a session whose key was read is decided by its script alone
  read_decided : (user : List ℕ) (begun : World) → KeyRead key user old begun → Grows begun.host new.host → DecidedByEvents (Session key) old new status
  read_decided user begun read grows = λ events ending refused told low.
      let first : List Answer = LengthWas key (Some 16) ∷ Gave key 0 16 user ∷ [] in
      let mid : begun.host.given ≡ Some (told.before ++ first) = both_is first old.host.given begun.host.given told.before told.was read.passed.host.told in
      let more = grows (told.before ++ first) mid in
      let whole : Some (told.before ++ answers_in events) ≡ Some ((told.before ++ first) ++ more.0) = sym told.now ∙ more.1 in
      let same : told.before ++ answers_in events ≡ (told.before ++ first) ++ more.0 = cc in
      let behind : answers_in events ≡ first ++ more.0 = append_cancel_left told.before (answers_in events) (first ++ more.0) (same ∙ append_assoc told.before first more.0) in
      absurd (not_of_key user more.0 events ending refused read.is_key.whole behind)

  stop_grows : (s : ℕ) (start last now : At) (fault : Fault) → Lines start s last → LineStops fault last now → Grows start.world.host now.world.host
  stop_grows s start last now fault lines (not_read cause reads nothing says why) =
      grows_then start.world.host last.world.host now.world.host (grows_lines start s last lines) (grows_none last.world.host now.world.host (ap (λ (h : HostState). h.given) nothing.same_host))
  stop_grows s start last now fault lines (not_answered none reads (inl nothing) says why) =
      grows_then start.world.host last.world.host now.world.host (grows_lines start s last lines) (grows_none last.world.host now.world.host (ap (λ (h : HostState). h.given) nothing.same_host))
  stop_grows s start last now fault lines (not_answered none reads (inr step) says why) = grows_then start.world.host last.world.host now.world.host (grows_lines start s last lines) (grows_told (DeskStillShows last.desk now.desk) last.world.host now.world.host step.2.wants.shows)
  stop_grows s start last now fault lines (not_said reply answered some failed why) = grows_then start.world.host last.world.host now.world.host (grows_lines start s last lines) (grows_line reply last now answered)

  closed_grows : (s count more : ℕ) (read last : At) → (begun : ScriptRead key old s read) → Closings read count more last → Grows begun.begun.host last.world.host
  closed_grows s count more read last begun closings =
      grows_then begun.begun.host read.world.host last.world.host (grows_all (begins begun.user begun.begun) s read begun.all) (grows_closings read count more last closings)

  pub script_decided : (ending : Result ℕ Fault) → ScriptGoes key ending old Now → Ended ending → DecidedByEvents (Session key) old new status
  script_decided ending (no_key fault falls is) says = events_decided (Session key) old new status (key_run key old new status fault falls (subst Ended is says))
  script_decided ending (no_reader user read is) says = read_decided user Now read (grows_none new.host new.host refl)
  script_decided ending (no_line user begun s last now fault read lines stops same is) says =
      read_decided user begun read (subst (λ (w : World). Grows begun.host w.host) (sym same) (stop_grows s (begins user begun) last now fault lines stops))
  script_decided ending (no_closing s seat more read last now begun closings stops same is) says =
      read_decided begun.user begun.begun begun.read
      (subst (λ (w : World). Grows begun.begun.host w.host) (sym same) (grows_then begun.begun.host last.world.host now.world.host (closed_grows s seat more read last begun closings) (grows_closed seat stops.reply last now stops.closed)))
  script_decided ending (no_end s more read last begun closings failed same is) says =
      read_decided begun.user begun.begun begun.read (subst (λ (w : World). Grows begun.begun.host w.host) (sym same) (closed_grows s 8 more read last begun closings))
  script_decided ending (done s more read last begun closings wrote same is) says =
      read_decided begun.user begun.begun begun.read (subst (λ (w : World). Grows begun.begun.host w.host) (sym same) (closed_grows s 8 more read last begun closings))
