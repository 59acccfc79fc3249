-- Events after events: what happened in the parts of a run, one after the other.
use Rattle.std.proofs.Common.{◌≡◌, ℕ, List, [], ◌∷◌, ◌++◌, refl, subst, ap, ◌∙◌, sym, Option, Some, None, IfSome, append_assoc}
use Rattle.std.specs.List.{AllByRecursion, concat}
use Rattle.std.proofs.lemmas.List.{append-nil}
use Rattle.std.proofs.lemmas.List.Folds.{concat-append}
use Rattle.pf_io.specs.Counts.{counted}
use Rattle.pf_io.specs.Disk.{Files}
use Rattle.pf_io.specs.Host.{Answer, Gave, Wrote, HostState, IsMore, KeepsFiles, OnHonest, files_of}
use Rattle.pf_io.specs.Answered.{IsAnswerOf}
use Rattle.pf_io.specs.Streams.{SinkState}
use Rattle.pf_io.specs.Words.{WordsState}
use Rattle.pf_io.proofs.Telling.{both_then, both_same, told_on}
use Rattle.pf_io.proofs.Answering.{both_honest, all_append}
use Rattle.pf_tool.specs.World.{World, with_host, with_out}
use Rattle.pf_tool.specs.Events.{Event, Answers, Draws, Puts, answers_in, words_in, pieces_in, reads_after, writes_after}
use Rattle.pf_tool.specs.Endings.{Stop, AtEnd, Failed, Starved, tried}
use Rattle.pf_tool.specs.Happened.{HostPassed, HostFailed, IsTaken, WordsPassed, OutPassed, OutFailed, Passed, CallFailed, Happened}

pub answers_then : (xs ys : List Event) → answers_in (xs ++ ys) ≡ answers_in xs ++ answers_in ys
answers_then [] ys = refl
answers_then (Answers answer ∷ xs) ys = ap (λ (l : List Answer). answer ∷ l) (answers_then xs ys)
answers_then (Draws word ∷ xs) ys = answers_then xs ys
answers_then (Puts bytes ∷ xs) ys = answers_then xs ys

pub words_then : (xs ys : List Event) → words_in (xs ++ ys) ≡ words_in xs ++ words_in ys
words_then [] ys = refl
words_then (Answers answer ∷ xs) ys = words_then xs ys
words_then (Draws word ∷ xs) ys = ap (λ (l : List (List ℕ)). word ∷ l) (words_then xs ys)
words_then (Puts bytes ∷ xs) ys = words_then xs ys

pub pieces_then : (xs ys : List Event) → pieces_in (xs ++ ys) ≡ pieces_in xs ++ pieces_in ys
pieces_then [] ys = refl
pieces_then (Answers answer ∷ xs) ys = pieces_then xs ys
pieces_then (Draws word ∷ xs) ys = pieces_then xs ys
pieces_then (Puts bytes ∷ xs) ys = ap (λ (l : List (List ℕ)). bytes ∷ l) (pieces_then xs ys)

pub reads_then : (xs ys : List Answer) (count : ℕ) → reads_after (xs ++ ys) count ≡ reads_after ys (reads_after xs count)
reads_then [] ys count = refl
reads_then (Gave name place room bytes ∷ xs) ys count = reads_then xs ys (counted count)
reads_then (answer ∷ xs) ys count = reads_then xs ys count

pub writes_then : (xs ys : List Answer) (count : ℕ) → writes_after (xs ++ ys) count ≡ writes_after ys (writes_after xs count)
writes_then [] ys count = refl
writes_then (Wrote name place bytes ∷ xs) ys count = writes_then xs ys (counted count)
writes_then (answer ∷ xs) ys count = writes_then xs ys count

-- a list of two parts that is empty
pub no_first : {A : Type 0} (xs ys : List A) → xs ++ ys ≡ [] → xs ≡ []
no_first [] ys none = refl
no_first (x ∷ xs) ys none = absurd (cc)

no_second : {A : Type 0} (xs ys : List A) → xs ++ ys ≡ [] → ys ≡ []
no_second [] ys none = none
no_second (x ∷ xs) ys none = absurd (cc)

pub none_honest : (files : Option Files) → IfSome files (λ f. AllByRecursion (IsAnswerOf f) [])
none_honest (Some f) = tt
none_honest None = tt

-- what an honest host's files are, as before
pub files_kept : (these : List Answer) (old mid : HostState) → KeepsFiles old mid → OnHonest mid (λ files. AllByRecursion (IsAnswerOf files) these) → OnHonest old (λ files. AllByRecursion (IsAnswerOf files) these)
files_kept these old mid kept honest = subst (λ (f : Option Files). IfSome f (λ g. AllByRecursion (IsAnswerOf g) these)) kept honest

pub host_none : (state : HostState) → HostPassed [] state state
host_none state = record {
  told = both_same (IsMore []) state.given state.given refl (λ answers. sym (append-nil answers));
  calm = refl;
  reads = refl;
  writes = refl;
  untouched = λ none. refl;
  honest = none_honest (files_of state);
}

pub host_then : (xs ys : List Answer) (old mid new : HostState) → HostPassed xs old mid → HostPassed ys mid new → OnHonest old (λ files. AllByRecursion (IsAnswerOf files) ys) → HostPassed (xs ++ ys) old new
host_then xs ys old mid new first second honest = record {
  told = told_on xs ys old mid new first.told second.told;
  calm = second.calm ∙ first.calm;
  reads = second.reads ∙ ap (λ (n : ℕ). reads_after ys n) first.reads ∙ sym (reads_then xs ys old.reads);
  writes = second.writes ∙ ap (λ (n : ℕ). writes_after ys n) first.writes ∙ sym (writes_then xs ys old.writes);
  untouched = λ none. second.untouched (no_second xs ys none) ∙ first.untouched (no_first xs ys none);
  honest = both_honest _ _ _ (files_of old) (λ f one two. all_append (IsAnswerOf f) xs ys one two) first.honest honest;
}

pub words_none : (state : WordsState) → WordsPassed [] state state
words_none state = record { told = both_same (IsTaken []) state.left state.left refl (λ left. refl); calm = refl; untouched = λ none. refl }

pub words_more : (xs ys : List (List ℕ)) (old mid new : WordsState) → WordsPassed xs old mid → WordsPassed ys mid new → WordsPassed (xs ++ ys) old new
words_more xs ys old mid new first second = record {
  told = both_then (IsTaken xs) (IsTaken ys) (IsTaken (xs ++ ys)) old.left mid.left new.left first.told second.told
      (λ a b c one two. one ∙ ap (λ (l : List (List ℕ)). xs ++ l) two ∙ sym (append_assoc xs ys c));
  calm = second.calm ∙ first.calm;
  untouched = λ none. second.untouched (no_second xs ys none) ∙ first.untouched (no_first xs ys none);
}

pub out_none : (state : SinkState) → OutPassed [] state state
out_none state = record { told = both_same (IsMore []) state.bytes state.bytes refl (λ bytes. sym (append-nil bytes)); calm = refl; untouched = λ none. refl }

pub out_then : (xs ys : List (List ℕ)) (old mid new : SinkState) → OutPassed xs old mid → OutPassed ys mid new → OutPassed (xs ++ ys) old new
out_then xs ys old mid new first second = record {
  told = both_then (IsMore (concat xs)) (IsMore (concat ys)) (IsMore (concat (xs ++ ys))) old.bytes mid.bytes new.bytes first.told second.told
      (λ a b c one two. two ∙ ap (λ (l : List ℕ). l ++ concat ys) one ∙ append_assoc a (concat xs) (concat ys) ∙ ap (λ (l : List ℕ). a ++ l) (sym (concat-append xs ys)));
  calm = second.calm ∙ first.calm;
  untouched = λ none. second.untouched (no_second xs ys none) ∙ first.untouched (no_first xs ys none);
}

-- nothing happened yet
pub passed_none : (world : World) → Passed [] world world
passed_none world = record { host = host_none world.host; random = words_none world.random; out = out_none world.out; input = refl; log = refl }

-- calls of the host alone
pub passed_host : (events : List Event) (world : World) (old new : HostState) → words_in events ≡ [] → pieces_in events ≡ [] → HostPassed (answers_in events) old new → Passed events (with_host world old) (with_host world new)
passed_host events world old new no_words no_pieces host = record {
  host = host;
  random = subst (λ (l : List (List ℕ)). WordsPassed l world.random world.random) (sym no_words) (words_none world.random);
  out = subst (λ (l : List (List ℕ)). OutPassed l world.out world.out) (sym no_pieces) (out_none world.out);
  input = refl;
  log = refl;
}

-- pieces for the output alone
pub passed_pieces : (events : List Event) (world : World) (old new : SinkState) → answers_in events ≡ [] → words_in events ≡ [] → OutPassed (pieces_in events) old new → Passed events (with_out world old) (with_out world new)
passed_pieces events world old new no_answers no_words out = record {
  host = subst (λ (l : List Answer). HostPassed l world.host world.host) (sym no_answers) (host_none world.host);
  random = subst (λ (l : List (List ℕ)). WordsPassed l world.random world.random) (sym no_words) (words_none world.random);
  out = out;
  input = refl;
  log = refl;
}

-- Events after events. What the later ones answered is so of the files as they were before the first, too.
pub passed_then : (xs ys : List Event) (old mid new : World) → Passed xs old mid → Passed ys mid new → OnHonest old.host (λ files. AllByRecursion (IsAnswerOf files) (answers_in ys)) → Passed (xs ++ ys) old new
passed_then xs ys old mid new first second honest = record {
  host = subst (λ (l : List Answer). HostPassed l old.host new.host) (sym (answers_then xs ys)) (host_then (answers_in xs) (answers_in ys) old.host mid.host new.host first.host second.host honest);
  random = subst (λ (l : List (List ℕ)). WordsPassed l old.random new.random) (sym (words_then xs ys)) (words_more (words_in xs) (words_in ys) old.random mid.random new.random first.random second.random);
  out = subst (λ (l : List (List ℕ)). OutPassed l old.out new.out) (sym (pieces_then xs ys)) (out_then (pieces_in xs) (pieces_in ys) old.out mid.out new.out first.out second.out);
  input = second.input ∙ first.input;
  log = second.log ∙ first.log;
}

-- where the first ones changed no file
pub passed_reading : (xs ys : List Event) (old mid new : World) → Passed xs old mid → KeepsFiles old.host mid.host → Passed ys mid new → Passed (xs ++ ys) old new
passed_reading xs ys old mid new first kept second = passed_then xs ys old mid new first second (files_kept (answers_in ys) old.host mid.host kept second.host.honest)

-- what happened passed, up to a call that failed
pub happened_honest : (ys : List Event) (stop : Stop) (old new : World) → Happened ys stop old new → OnHonest old.host (λ files. AllByRecursion (IsAnswerOf files) (answers_in ys))
happened_honest ys (AtEnd ending) old new happened = happened.host.honest
happened_honest ys (Failed event) old new happened = happened.1.host.honest
happened_honest ys Starved old new happened = happened.host.honest

pub happened_then : (xs ys : List Event) (stop : Stop) (old mid new : World) → Passed xs old mid → Happened ys stop mid new → OnHonest old.host (λ files. AllByRecursion (IsAnswerOf files) (answers_in ys)) → Happened (xs ++ ys) stop old new
happened_then xs ys (AtEnd ending) old mid new first second honest = passed_then xs ys old mid new first second honest
happened_then xs ys (Failed event) old mid new first second honest = (second.0, passed_then xs ys old mid second.0 first second.1 honest, second.2)
happened_then xs ys Starved old mid new first second honest = passed_then xs ys old mid new first second honest

pub tried_then : (xs ys : List Event) (stop : Stop) → tried (xs ++ ys) stop ≡ xs ++ tried ys stop
tried_then xs ys (AtEnd ending) = refl
tried_then xs ys (Failed event) = append_assoc xs ys (event ∷ [])
tried_then xs ys Starved = refl

-- a call of the host that failed
pub failed_host : (answer : Answer) (world : World) (old new : HostState) → HostFailed answer old new → CallFailed (Answers answer) (with_host world old) (with_host world new)
failed_host answer world old new failed = (failed, refl)

pub failed_piece : (bytes : List ℕ) (world : World) (old new : SinkState) → OutFailed bytes old new → CallFailed (Puts bytes) (with_out world old) (with_out world new)
failed_piece bytes world old new failed = (failed, refl)
