-- One call of the host, of the random words or of the output, by the clauses of its trait.
use Rattle.std.proofs.Common.{◌≡◌, ℕ, List, [], ◌∷◌, length, take, subst, sym, Option}
use Rattle.std.proofs.lemmas.List.{append-nil}
use Rattle.std.proofs.lemmas.Option.{IfSome_then}
use Rattle.pf_io.specs.Counts.{counted}
use Rattle.pf_io.specs.Disk.{Name}
use Rattle.pf_io.specs.Host.{LengthWas, Gave, HostState, Both, IsMore, OnHonest, CountsRead, CountsNeither, ReadsFrom, KeepsRest, files_of, length_of, contents}
use Rattle.pf_io.specs.Streams.{SinkState, TakesFront}
use Rattle.pf_io.proofs.Answering.{read_whole}
use Rattle.pf_tool.specs.Happened.{HostPassed, HostFailed, OutPassed, OutFailed}

-- an answer was given, so something happened
some_answer : {A : Type 0} (x : A) (xs : List A) (B : Type 0) → x ∷ xs ≡ [] → B
some_answer x xs B none = absurd (cc)

pub length_passed : (name : Name) (answer : Option ℕ) (old new : HostState) → Both old.given new.given (IsMore (LengthWas name answer ∷ [])) → new.faults ≡ old.faults → CountsNeither old new
    → OnHonest old (λ files. answer ≡ length_of (files name)) → HostPassed (LengthWas name answer ∷ []) old new
length_passed name answer old new told calm counts honest = record {
  told = told;
  calm = calm;
  reads = counts.reads;
  writes = counts.writes;
  untouched = some_answer (LengthWas name answer) [] (new ≡ old);
  honest = IfSome_then (files_of old) honest (λ f is. (is, tt));
}

pub length_failed : (name : Name) (answer : Option ℕ) (old new : HostState) → new.given ≡ old.given → new.faults ≡ counted old.faults → CountsNeither old new → HostFailed (LengthWas name answer) old new
length_failed name answer old new told once counts = record { told = told; once = once; reads = counts.reads; writes = counts.writes }

pub read_passed : (name : Name) (at n room : ℕ) (before buffer : List ℕ) (old new : HostState) → KeepsRest n before buffer → length before ≡ room
    → Both old.given new.given (IsMore (Gave name at (length before) (take n buffer) ∷ [])) → new.faults ≡ old.faults → CountsRead (length before) old new
    → OnHonest old (λ files. ReadsFrom at n buffer (contents (files name))) → HostPassed (Gave name at room (take n buffer) ∷ []) old new
read_passed name at n room before buffer old new rest long told calm counts honest = record {
  told = subst (λ (k : ℕ). Both old.given new.given (IsMore (Gave name at k (take n buffer) ∷ []))) long told;
  calm = calm;
  reads = counts.reads;
  writes = counts.writes;
  untouched = some_answer (Gave name at room (take n buffer)) [] (new ≡ old);
  honest = IfSome_then (files_of old) honest (λ f reads. (read_whole at n room before buffer (contents (f name)) rest long reads, tt));
}

pub read_failed : (name : Name) (at room n : ℕ) (bytes : List ℕ) (old new : HostState) → new.given ≡ old.given → new.faults ≡ counted old.faults → CountsRead n old new → HostFailed (Gave name at room bytes) old new
read_failed name at room n bytes old new told once counts = record { told = told; once = once; reads = counts.reads; writes = counts.writes }

-- a piece for the output
pub piece_passed : (bytes : List ℕ) (old new : SinkState) → Both old.bytes new.bytes (IsMore bytes) → new.faults ≡ old.faults → OutPassed (bytes ∷ []) old new
piece_passed bytes old new told calm = record {
  told = subst (λ (l : List ℕ). Both old.bytes new.bytes (IsMore l)) (sym (append-nil bytes)) told;
  calm = calm;
  untouched = some_answer bytes [] (new ≡ old);
}

pub piece_failed : (bytes : List ℕ) (old new : SinkState) → Both old.bytes new.bytes (TakesFront bytes) → new.faults ≡ counted old.faults → OutFailed bytes old new
piece_failed bytes old new told once = record { told = told; once = once }
