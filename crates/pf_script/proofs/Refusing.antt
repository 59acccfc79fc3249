-- Lines that are refused by a rule: nothing is done.
use Rattle.std.proofs.Common.{◌≡◌, ◌⊎◌, inl, inr, Bool, true, false, List, [], ◌++◌, ℕ, refl, sym, ◌∙◌, subst, Option, Some, None, Result, Ok, Err}
use Rattle.std.proofs.lemmas.List.{append-nil}
use Rattle.node_tree.specs.Sheet.{Sheet}
use Rattle.node_tree.specs.Unforged.{Unforged}
use Rattle.pf_io.specs.Disk.{Name}
use Rattle.pf_io.specs.Host.{Answer, HostState, Both}
use Rattle.pf_io.specs.Disk.{IsImage}
use Rattle.pf_io.specs.Moments.{Honest, Ran}
use Rattle.pf_io.specs.Steps.{Stays}
use Rattle.pf_io.specs.Unchanged.{KeepsDisk}
use Rattle.pf_io.specs.Words.{WordsState}
use Rattle.pf_io.specs.declared.faults.Memory.{Memory}
use Rattle.pf_io.proofs.Telling.{both_same, told_none, told_by}
use Rattle.pf_session.specs.Asking.{IsTaken as AreTaken}
use Rattle.pf_session.specs.State.{SessionState}
use Rattle.pf_script.specs.BookActs.{Act}
use Rattle.pf_script.specs.BookSeats.{Covering, KeepsUnder}
use Rattle.pf_script.specs.Desk.{IsSeatOf, IsSeated, IsLike, Shows}
use Rattle.pf_script.specs.DeskSteps.{Unfolds, in_the_end, then_more, SeatCaused, SeatAsks, CoversSome, Concerns, KeepsSession, TakesNone, SeatGoes}
use Rattle.pf_script.specs.Rules.{Rule, IsFirst, NoneRefuses, IsBroken, rules, seated_rules}
use Rattle.pf_script.specs.Script.{OwnSeat, Seat, Empty, Own, sheets_of}
use Rattle.pf_script.specs.Turns.{Seen, Caused, refused}
use Rattle.pf_script.specs.declared.line.ScriptLine.{ScriptLine}
use Rattle.pf_script.specs.declared.reply.Reply.{Reply}
use Rattle.pf_script.specs.declared.reply.Reply.TheVariants as replies
use Rattle.pf_script.specs.declared.reply.Why.{Why}
use Rattle.pf_script.specs.declared.reply.Why.TheVariants as whys
use Rattle.pf_script.proofs.ActKeeping.{unchanged_now}
use Rattle.pf_script.proofs.FewAsked.{none_taken_at}
use Rattle.pf_script.proofs.Liking.{like_shown}
use Rattle.pf_script.proofs.Showing.{shows_still}
use Rattle.pf_script.proofs.Sparing.{spares_none}
use Rattle.pf_script.proofs.WantFlushes.{kept_flushes}

abbrev pub idle_seen : Seen
idle_seen = record { given = []; words = []; host_failed = false; words_failed = false }

pub none_taken : (words : WordsState) → Both words.left words.left (AreTaken [])
none_taken words = both_same (AreTaken []) words.left words.left refl (λ left. refl)

-- nothing was asked
pub same_keeps : (cover : Covering) (concerns : Name → Type 0) (a : Honest) → KeepsUnder cover cover concerns a a
same_keeps cover concerns a book seats agrees reads covers = ([], seats, (unchanged_now a, λ seat has. has), covers, λ seat has apart. has, λ name none. absurd none)

-- all that was done, at once
pub at_last : {key : List ℕ} {sealed : List Sheet} {May P : List Act → Type 0} {given : List Answer} (acts : List Act) → (sheets_of acts ≡ []) ⊎ May acts → (Unforged key (sealed ++ sheets_of acts) given → P acts) → Unfolds key sealed May P given []
at_last {key} {sealed} {May} {P} {given} acts may ends = then_more [] acts [] given refl may (λ unforged. in_the_end acts ends)

-- the cause of a reply to a line by which nothing was asked of the host
pub unasked_cause : (key : List ℕ) (taken : Bool) (line : ScriptLine) (reply : Reply) (old : Option SessionState) (host : HostState) → ((seat : Seat) → IsLike seat old → Caused key taken seat line [] reply) → SeatCaused key taken line reply old host host
unasked_cause key taken line reply old host caused = record { given = []; told = told_none host host refl; caused = caused }

module _ (key : List ℕ) (taken : Bool) (line : ScriptLine) (why : Why) (old : Option SessionState) (host : HostState) (words : WordsState)
    (first : (seat : Seat) → IsLike seat old → IsFirst (rules key taken seat line []) why) where
  refused_asks : SeatAsks key taken line (replies.Refused why) old old [] host host words words
  refused_asks = record {
    seen = idle_seen;
    was_seen = record { answers = refl; words = none_taken words; of_host = refl; of_words = refl };
    turns = λ sealed seat shows.
        at_last [] (inl refl) (λ unforged. (
          seat,
          refused why (first seat (like_shown sealed seat old shows)) (record { host = refl; random = refl }) refl refl refl refl,
          subst (λ (l : List Sheet). Shows l seat old) (sym (append-nil sealed)) shows,
        ));
  }

  pub refused_goes : IsSeatOf key old → SeatGoes key taken line (Ok (replies.Refused why)) old old host host words words
  refused_goes seated = record {
    asks = told_by (λ given. SeatAsks key taken line (replies.Refused why) old old given host host words words) [] host host (told_none host host refl) refused_asks;
    caused = unasked_cause key taken line (replies.Refused why) old host first;
    leaves = (refl, refl);
    books = both_same (KeepsUnder (CoversSome old) (CoversSome old) (Concerns taken line old)) host.honest host.honest refl (same_keeps (CoversSome old) (Concerns taken line old));
    counts = (refl, refl);
    wordless = (none_taken_at line old host words).0;
    few = (none_taken_at line old host words).1;
    wants = tt;
    seated = seated;
    named = λ name has. inl has;
    spares = spares_none (Concerns taken line old) host;
  }

-- a session is kept
pub keeps_same : (old : Option SessionState) → KeepsSession old old
keeps_same None = refl
keeps_same (Some own) = record { fields = refl; tree = refl; held = λ k plain held. held }

-- memory was wanting before anything was done
pub nothing_wanting : (key : List ℕ) (taken : Bool) (line : ScriptLine) (fault : Memory) (old : Option SessionState) (host : HostState) (words : WordsState) → ¬ (TakesNone line) → IsSeatOf key old
    → SeatGoes key taken line (Err fault) old old host host words words
nothing_wanting key taken line fault old host words takes seated = record {
  asks = tt;
  caused = tt;
  leaves = tt;
  books = both_same (KeepsUnder (CoversSome old) (CoversSome old) (Concerns taken line old)) host.honest host.honest refl (same_keeps (CoversSome old) (Concerns taken line old));
  counts = (refl, refl);
  wordless = (none_taken_at line old host words).0;
  few = (none_taken_at line old host words).1;
  wants = record {
    takes = takes;
    early = λ first. refl;
    shows = shows_still key old old host host (λ given. Unit {0}) (told_by (λ given. Unit {0}) [] host host (told_none host host refl) tt) (λ given holds sealed seat shows unforged. shows);
    ends = inl (record { seat = keeps_same old; disk = still; words = refl });
    flushes = λ session is. kept_flushes line session host host still;
  };
  seated = seated;
  named = λ name has. inl has;
  spares = spares_none (Concerns taken line old) host;
}
  where
    still : KeepsDisk host host
    still = both_same (Ran IsImage Stays) host.honest host.honest refl unchanged_now

-- the first rules of a line that needs a file
pub first_empty : (rest : List Rule) (seat : Seat) → seat ≡ Empty → IsFirst (seated_rules seat ++ rest) whys.SeatEmpty
first_empty rest seat is = inl (refl, is)

pub not_empty : (seat : Seat) (shown : OwnSeat) → seat ≡ Own shown → seat ≡ Empty → ⊥
not_empty seat shown is none = let e : Own shown ≡ Empty = sym is ∙ none in absurd (cc)

pub first_broken : (rest : List Rule) (seat : Seat) (shown : OwnSeat) → seat ≡ Own shown → shown.broken ≡ true → IsFirst (seated_rules seat ++ rest) whys.Broken
first_broken rest seat shown is broken = inr ((λ other refuses. not_empty seat shown is refuses.1), inl (refl, subst IsBroken (sym is) broken))

not_broken : (seat : Seat) (shown : OwnSeat) → seat ≡ Own shown → shown.broken ≡ false → IsBroken seat → ⊥
not_broken seat shown is whole broken = let e : true ≡ false = sym (subst IsBroken is broken) ∙ whole in absurd (cc)

pub first_then : (rest : List Rule) (why : Why) (seat : Seat) (shown : OwnSeat) → seat ≡ Own shown → shown.broken ≡ false → IsFirst rest why → IsFirst (seated_rules seat ++ rest) why
first_then rest why seat shown is whole first =
    inr ((λ other refuses. not_empty seat shown is refuses.1), inr ((λ other refuses. not_broken seat shown is whole refuses.1), first))

pub none_then : (rest : List Rule) (seat : Seat) (shown : OwnSeat) → seat ≡ Own shown → shown.broken ≡ false → NoneRefuses rest → NoneRefuses (seated_rules seat ++ rest)
none_then rest seat shown is whole none = ((λ other refuses. not_empty seat shown is refuses.1), ((λ other refuses. not_broken seat shown is whole refuses.1), none))

-- a seat that has a session
pub at_some : (key : List ℕ) (taken : Bool) (line : ScriptLine) (result : Result Reply Memory) (old : Option SessionState) (own : SessionState) (new : Option SessionState) (before after : HostState) (random random' : WordsState)
    → old ≡ Some own → (IsSeated key own → SeatGoes key taken line result (Some own) new before after random random') → IsSeatOf key old → SeatGoes key taken line result old new before after random random'
at_some key taken line result old own new before after random random' is go seated =
    subst (λ (o : Option SessionState). SeatGoes key taken line result o new before after random random') (sym is) (go (subst (λ (o : Option SessionState). IsSeatOf key o) is seated))
