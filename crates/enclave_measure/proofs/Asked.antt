-- What the calls of a measurement ask.
use Rattle.std.proofs.Common.{◌≡◌, ◌∙◌, ℕ, suc, ◌+◌, ◌*◌, ◌-◌, ◌≤◌, Bool, true, false, if◌then◌else◌, List, [], ◌++◌, length, take, drop, refl, sym, ap, arith, subst, Ok, Err}
use Rattle.std.proofs.lemmas.List.{take-append-drop, length-take-le, length-replicate, drop-replicate, append_assoc, append-nil}
use Rattle.std.proofs.lemmas.List.Sums.{fold-append}
use Rattle.pf_io.specs.Counts.{counted}
use Rattle.pf_io.specs.Moments.{Does}
use Rattle.pf_io.specs.Steps.{Stays}
use Rattle.pf_io.specs.Host.{Answer, HostState, CountsNeither, CountsRead, OnDisk, KeepsRest}
use Rattle.pf_io.proofs.Answering.{answered_none}
use Rattle.pf_io.proofs.Unchanged.{kept_none, kept_once, kept_then}
use Rattle.enclave_measure.specs.declared.page.Page.{Page}
use Rattle.enclave_measure.specs.declared.page.Source.{Source}
use Rattle.enclave_measure.specs.declared.page.Source.TheVariants as sources
use Rattle.enclave_measure.specs.declared.fault.MeasureFault.{MeasureFault}
use Rattle.enclave_measure.specs.declared.fault.MeasureFault.TheVariants as faults
use Rattle.enclave_measure.specs.Pages.{PAGE}
use Rattle.enclave_measure.specs.Records.{CHUNK, zeros, padded, addition, extension, extensions, page_records}
use Rattle.enclave_measure.specs.Measuring.{SourceGives, GivesWhere, is_length, reads_after, CountsReads}
use Rattle.enclave_measure.specs.Hashing.{Asking, SourceCame, SourceEnded, PageHashed, PageEnded}

-- no call
pub asking_none : {T : Type 0} (value : T) (state : HostState) → Asking (Ok value) state state
asking_none value state = record { cause = record { later = omega arith; still = refl; once = tt }; disk = kept_none state }

-- a first call failed
pub asking_failed : {T : Type 0} (old new : HostState) → old.faults ≤ new.faults → new.faults ≡ counted old.faults → OnDisk old new (Does Stays) → Asking {T = T} (Err faults.Host) old new
asking_failed old new later once disk = record { cause = record { later = later; still = tt; once = once }; disk = kept_once old new disk }

-- a second one
pub asking_failed_next : {T : Type 0} (old mid new : HostState) → mid.faults ≡ old.faults → OnDisk old mid (Does Stays) → mid.faults ≤ new.faults → new.faults ≡ counted mid.faults → OnDisk mid new (Does Stays) → Asking {T = T} (Err faults.Host) old new
asking_failed_next old mid new still first later once second = record {
  cause = record { later = omega (arith, still, later); still = tt; once = subst (λ n. new.faults ≡ counted n) still once };
  disk = kept_then old mid new (kept_once old mid first) (kept_once mid new second);
}

-- the file is absent
pub asking_absent : {T : Type 0} (place : ℕ) (old new : HostState) → new.faults ≡ old.faults → OnDisk old new (Does Stays) → Asking {T = T} (Err (faults.NotFound place)) old new
asking_absent place old new still disk = record { cause = record { later = omega (arith, still); still = still; once = tt }; disk = kept_once old new disk }

-- the bytes came
pub asking_both : {T : Type 0} (value : T) (old mid new : HostState) → mid.faults ≡ old.faults → OnDisk old mid (Does Stays) → new.faults ≡ mid.faults → OnDisk mid new (Does Stays) → Asking (Ok value) old new
asking_both value old mid new still first still' second = record {
  cause = record { later = omega (arith, still, still'); still = still' ∙ still; once = tt };
  disk = kept_then old mid new (kept_once old mid first) (kept_once mid new second);
}

-- no call that is counted
pub counts_no_read : (these : List Answer) (old new : HostState) → reads_after old.reads these ≡ old.reads → CountsNeither old new → CountsReads these old new
counts_no_read these old new none counts = record { reads = counts.reads ∙ sym none; writes = counts.writes; widest = omega (arith, counts.widest) }

-- a length, and then a read
pub counts_one_read : (these : List Answer) (old mid new : HostState) → reads_after old.reads these ≡ counted old.reads → CountsNeither old mid → CountsRead PAGE mid new → CountsReads these old new
counts_one_read these old mid new one first second = record {
  reads = second.reads ∙ ap counted first.reads ∙ sym one;
  writes = second.writes ∙ first.writes;
  widest = omega (arith, first.widest, second.widest);
}

pub counts_none : (state : HostState) → CountsReads [] state state
counts_none state = record { reads = refl; writes = refl; widest = omega arith }

pub counts_then : (xs ys : List Answer) (old mid new : HostState) → CountsReads xs old mid → CountsReads ys mid new → CountsReads (xs ++ ys) old new
counts_then xs ys old mid new first second = record {
  reads = second.reads ∙ ap (λ (n : ℕ). reads_after n ys) first.reads ∙ sym (fold-append (λ count answer. if is_length answer then counted count else count) old.reads xs ys);
  writes = second.writes ∙ first.writes;
  widest = omega (arith, first.widest, second.widest);
}

-- a buffer of zeros that was read into has what was given, and zeros
pub padded_read : (n : ℕ) (new : List ℕ) → KeepsRest n (zeros PAGE) new → new ≡ padded (take n new)
padded_read n new rest =
    let within : n ≤ length new = omega (arith, rest.within, rest.same_length, length-replicate {A = ℕ} PAGE 0) in
    let long : length (take n new) ≡ n = length-take-le n new within in
    sym (take-append-drop n new) ∙ ap (λ (bytes : List ℕ). take n new ++ bytes) (rest.rest ∙ drop-replicate n PAGE 0 ∙ ap (λ (k : ℕ). zeros (PAGE - k)) (sym long))

pub taken_few : (n : ℕ) (new : List ℕ) → KeepsRest n (zeros PAGE) new → length (take n new) ≤ PAGE
taken_few n new rest = omega (arith, rest.within, rest.same_length, length-replicate {A = ℕ} PAGE 0, length-take-le n new (let l : n ≤ length new = omega (arith, rest.within, rest.same_length, length-replicate {A = ℕ} PAGE 0) in l))

gives_where : (measured : Bool) (source : Source) (these : List Answer) (bytes : List ℕ) → measured ≡ true → SourceGives source these bytes → GivesWhere measured source these bytes
gives_where true source these bytes is gives = gives
gives_where false source these bytes is gives = absurd (cc)

records_measured : (page : Page) (bytes : List ℕ) → page.measured ≡ true → page_records page bytes ≡ addition page ++ extensions 16 page.offset bytes
records_measured page bytes is = rw is refl

records_bare : (page : Page) (bytes : List ℕ) → page.measured ≡ false → page_records page bytes ≡ addition page
records_bare page bytes is = rw (is, append-nil (addition page)) refl

bare_where : (measured : Bool) (source : Source) → measured ≡ false → GivesWhere measured source [] []
bare_where false source is = (refl, refl)
bare_where true source is = absurd (cc)

-- the page was added, and its bytes were measured
pub page_measured : (page : Page) (bytes : List ℕ) (held added extended : List ℕ → Type 0) (old new : HostState) → page.measured ≡ true → SourceCame page.source bytes old new
    → ((message : List ℕ) → held message → added (message ++ addition page)) → ((message : List ℕ) → added message → extended (message ++ extensions 16 page.offset bytes)) → PageHashed page held extended old new
page_measured page bytes held added extended old new is came first second = record {
  these = came.these;
  bytes = bytes;
  answered = came.answered;
  counted = came.counted;
  untouched = came.untouched;
  gives = gives_where page.measured page.source came.these bytes is came.gives;
  hashed = λ message holds. subst extended (append_assoc message (addition page) (extensions 16 page.offset bytes) ∙ ap (λ (ms : List ℕ). message ++ ms) (sym (records_measured page bytes is))) (second (message ++ addition page) (first message holds));
}

-- it was added alone
pub page_bare : (page : Page) (held added : List ℕ → Type 0) (state : HostState) → page.measured ≡ false → ((message : List ℕ) → held message → added (message ++ addition page)) → PageHashed page held added state state
page_bare page held added state is first = record {
  these = [];
  bytes = [];
  answered = answered_none state;
  counted = counts_none state;
  untouched = λ none. refl;
  gives = bare_where page.measured page.source is;
  hashed = λ message holds. subst added (ap (λ (ms : List ℕ). message ++ ms) (sym (records_bare page [] is))) (first message holds);
}

-- its bytes did not come
pub page_ended : (place : ℕ) (page : Page) (fault : MeasureFault) (old new : HostState) → page.measured ≡ true → SourceEnded place page.source fault old new → PageEnded place page fault old new
page_ended place page fault old new is ended = record {
  name = ended.name;
  at = ended.at;
  these = ended.these;
  of_file = record { measured = is; source = ended.of_file };
  answered = ended.answered;
  counted = ended.counted;
  ends = ended.ends;
}

-- zeros came of themselves
pub zero_came : (source : Source) (bytes : List ℕ) (state : HostState) → source ≡ sources.Zero → bytes ≡ zeros PAGE → SourceCame source bytes state state
zero_came source bytes state is all = record { these = []; answered = answered_none state; counted = counts_none state; untouched = λ none. refl; gives = rw is (refl, all) }

-- one chunk more
pub extended_more : (i offset : ℕ) (bytes head chunk : List ℕ) (fed hashed added : List ℕ → Type 0) → ((rest : List ℕ) → head ++ rest ≡ extension (offset + CHUNK * i) rest) → chunk ≡ take CHUNK (drop (CHUNK * i) bytes)
    → ((message : List ℕ) → fed message → hashed (message ++ head)) → ((message : List ℕ) → hashed message → added (message ++ chunk))
    → (message : List ℕ) → fed (message ++ extensions i offset bytes) → added (message ++ extensions (i + 1) offset bytes)
extended_more i offset bytes head chunk fed hashed added is of first second message holds =
    let so_far = message ++ extensions i offset bytes in
    let piece : head ++ chunk ≡ extension (offset + CHUNK * i) (take CHUNK (drop (CHUNK * i) bytes)) = is chunk ∙ ap (extension (offset + CHUNK * i)) of in
    let more : so_far ++ head ++ chunk ≡ message ++ extensions (i + 1) offset bytes =
    append_assoc so_far head chunk ∙ ap (λ (ms : List ℕ). so_far ++ ms) piece ∙ append_assoc message (extensions i offset bytes) (extension (offset + CHUNK * i) (take CHUNK (drop (CHUNK * i) bytes))) ∙ ap (λ (n : ℕ). message ++ extensions n offset bytes) (let e : suc i ≡ i + 1 = omega arith in e) in
    subst added more (second (so_far ++ head) (first so_far holds))
