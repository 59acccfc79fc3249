-- Questions to a host, and what came.
use Rattle.std.proofs.Common.{◌≡◌, ℕ, List, [], ◌∷◌, length, take, refl, ap, arith, subst, Option}
use Rattle.pf_io.specs.Counts.{counted}
use Rattle.pf_io.specs.Host.{Name, Answer, LengthWas, Gave, HostState, Both, IsMore, KeepsFiles, OnHonest, ReadsFrom, KeepsRest, CountsNeither, CountsRead, contents, length_of}
use Rattle.pf_io.proofs.Answering.{answered_none, answered_fault, answered_length, answered_bytes, answered_then}
use Rattle.pf_session.specs.Asking.{Failing, NoCall, AReading, AnotherCall}
use Rattle.pf_session.specs.Questions.{OnlyAsked}
use Rattle.pf_session.proofs.Calls.{asked_none, asked_neither, asked_read, failed_neither, failed_read, asked_then}

not_none : (answer : Answer) (these : List Answer) → answer ∷ these ≡ [] → ⊥
not_none answer these none = omega (arith, ap (λ (l : List Answer). length l) none)

-- no call
pub none_asked : (state : HostState) → OnlyAsked [] NoCall state state
none_asked state = record { answered = answered_none state; asked = asked_none state; untouched = λ none calm. refl }

module _ (name : Name) (old new : HostState) where
  -- the length of a file
  pub length_asked : (size other : Option ℕ) → size ≡ other → Both old.given new.given (IsMore (LengthWas name size ∷ [])) → new.faults ≡ old.faults → CountsNeither old new → KeepsFiles old new
      → OnHonest old (λ files. size ≡ length_of (files name)) → OnlyAsked (LengthWas name other ∷ []) NoCall old new
  length_asked size other is told calm counts files honest =
      let asked : OnlyAsked (LengthWas name size ∷ []) NoCall old new = record {
        answered = answered_length name size old new told files honest;
        asked = asked_neither (LengthWas name size) old new refl refl told calm counts;
        untouched = λ none calm. absurd (not_none (LengthWas name size) [] none);
      } in
      subst (λ (o : Option ℕ). OnlyAsked (LengthWas name o ∷ []) NoCall old new) is asked

  -- a node
  pub node_asked : (at n : ℕ) (before buffer : List ℕ) → KeepsRest n before buffer → length before ≡ 4096 → Both old.given new.given (IsMore (Gave name at 4096 (take n buffer) ∷ [])) → new.faults ≡ old.faults → CountsRead 4096 old new
      → KeepsFiles old new → OnHonest old (λ files. ReadsFrom at n buffer (contents (files name))) → OnlyAsked (Gave name at 4096 (take n buffer) ∷ []) NoCall old new
  node_asked at n before buffer rest long told calm counts files honest = record {
    answered = answered_bytes name at n 4096 before buffer old new rest long told files honest;
    asked = asked_read name at 4096 (take n buffer) old new (omega arith) told calm counts;
    untouched = λ none calm. absurd (not_none (Gave name at 4096 (take n buffer)) [] none);
  }

  -- calls that failed
  pub length_failed : new.given ≡ old.given → new.faults ≡ counted old.faults → KeepsFiles old new → CountsNeither old new → OnlyAsked [] AnotherCall old new
  length_failed same once files counts = record {
    answered = answered_fault old new same files;
    asked = failed_neither old new same once counts;
    untouched = λ none calm. absurd (cc);
  }

  pub node_failed : new.given ≡ old.given → new.faults ≡ counted old.faults → KeepsFiles old new → CountsRead 4096 old new → OnlyAsked [] AReading old new
  node_failed same once files counts = record {
    answered = answered_fault old new same files;
    asked = failed_read 4096 old new (omega arith) same once counts;
    untouched = λ none calm. absurd (cc);
  }

-- the length, and then what came of other questions
pub asked_after : (name : Name) (size : Option ℕ) (these : List Answer) (failing : Failing) (old mid new : HostState) → OnlyAsked (LengthWas name size ∷ []) NoCall old mid → OnlyAsked these failing mid new
    → OnlyAsked (LengthWas name size ∷ these) failing old new
asked_after name size these failing old mid new first second = record {
  answered = answered_then (LengthWas name size ∷ []) these old mid new first.answered second.answered;
  asked = asked_then (LengthWas name size ∷ []) these failing old mid new first.asked second.asked;
  untouched = λ none calm. absurd (not_none (LengthWas name size) these none);
}
