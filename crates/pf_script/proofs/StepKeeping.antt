-- What several calls keep of a book, one after the other, and what one keeps of the seats on other names.
use Rattle.std.proofs.Common.{◌≡◌, inl, inr, ⊎_elim, List, [], ◌++◌, refl, sym, ◌∙◌, subst, Option, Some, None}
use Rattle.std.specs.Prelude.{Contains, IfSome}
use Rattle.pf_io.specs.Disk.{Name, Disk, IsImage, reading}
use Rattle.pf_io.specs.Moments.{Honest}
use Rattle.pf_io.specs.Host.{HostState, Both, OnDisk, ReadsAsImage}
use Rattle.node_tree.specs.Sheet.{Sheet}
use Rattle.pf_session.specs.Moving.{IsKeptOn}
use Rattle.pf_session.specs.State.{SessionState}
use Rattle.pf_script.specs.Book.{Book, Entry, Seal}
use Rattle.pf_script.specs.BookActs.{Act, Among, booked_all}
use Rattle.pf_script.specs.BookDebts.{Unchanged, seat_of}
use Rattle.pf_script.specs.BookSeats.{Covering, Covers, CoversNone, CoversEach, CoversBoth, KeepsUnder}
use Rattle.pf_script.specs.BookLaws.{StartsWith, RunKeeps}
use Rattle.pf_script.proofs.ActKeeping.{only_reads}
use Rattle.pf_script.proofs.Composing.{all_agrees, all_leaves, did_on, booked_on}
use Rattle.pf_script.proofs.Seats.{booked_all_none, among_on, among_back}
use Rattle.pf_script.proofs.Starting.{starts}

pub keeps_then : (first between last : Covering) (concerns : Name → Type 0) (a m b : Honest) → IsImage m.now (reading m.now) → KeepsUnder first between concerns a m → KeepsUnder between last concerns m b → KeepsUnder first last concerns a b
keeps_then first between last concerns a m b well one two book seats agrees reads covers =
    let was = one book seats agrees reads covers in
    let acts = was.0 in
    let is = two (booked_all acts book) was.1 (all_agrees book seats acts was.1 a m agrees reads was.2) well was.3 in
    let more = is.0 in (
      acts ++ more,
      is.1,
      did_on book seats was.1 is.1 acts more a m b was.2 is.2,
      subst (λ (b : Book). last b is.1) (sym (booked_on acts more book)) is.3,
      λ seat has apart. is.4 seat (was.4 seat has (λ among. apart (among_back acts more seat.name (inl among)))) (λ among. apart (among_back acts more seat.name (inr among))),
      λ name among. ⊎_elim (λ old. was.5 name old) (λ new. is.5 name new) (among_on acts more name among),
    )

-- a state in between that reads as one of its images where the first one does
pub keeps_next : (first between last : Covering) (concerns : Name → Type 0) (a m b : Honest) → (IsImage a.now (reading a.now) → IsImage m.now (reading m.now)) → KeepsUnder first between concerns a m → KeepsUnder between last concerns m b
    → KeepsUnder first last concerns a b
keeps_next first between last concerns a m b well one two book seats agrees reads covers = keeps_then first between last concerns a m b (well reads) one two book seats agrees reads covers

-- two runs of hosts, of which the one in between reads as one of its images
pub both_through : (P Q R : Honest → Honest → Type 0) (o p q : Option Honest) → Both o p P → IfSome p (λ host. IsImage host.now (reading host.now)) → Both p q Q → ((a m b : Honest) → IsImage m.now (reading m.now) → P a m → Q m b → R a b) → Both o q R
both_through P Q R (Some a) (Some m) (Some b) one reads two go = go a m b reads one two
both_through P Q R None None None one reads two go = tt
both_through P Q R (Some a) None q one reads two go = absurd one
both_through P Q R None (Some m) q one reads two go = absurd one
both_through P Q R (Some a) (Some m) None one reads two go = absurd two
both_through P Q R None None (Some b) one reads two go = absurd two

pub keeps_on : (first between last : Covering) (concerns : Name → Type 0) (before mid after : HostState) → OnDisk before mid (KeepsUnder first between concerns) → ReadsAsImage mid → OnDisk mid after (KeepsUnder between last concerns)
    → OnDisk before after (KeepsUnder first last concerns)
keeps_on first between last concerns before mid after one reads two =
    both_through (KeepsUnder first between concerns) (KeepsUnder between last concerns) (KeepsUnder first last concerns) before.honest mid.honest after.honest one reads two (keeps_then first between last concerns)

-- reads before the calls
pub after_reads : (first last : Covering) (concerns : Name → Type 0) (a m b : Honest) → Unchanged a m → KeepsUnder first last concerns m b → KeepsUnder first last concerns a b
after_reads first last concerns a m b only keeps = keeps_next first first last concerns a m b (λ reads. subst (λ (d : Disk). IsImage d (reading d)) (sym only.ends) reads) (only_reads first a m concerns only) keeps

pub keeps_more : (first last : Covering) (few many : Name → Type 0) (a b : Honest) → ((name : Name) → few name → many name) → KeepsUnder first last few a b → KeepsUnder first last many a b
keeps_more first last few many a b wider keeps book seats agrees reads covers = let kept = keeps book seats agrees reads covers in (kept.0, kept.1, kept.2, kept.3, kept.4, λ name among. wider name (kept.5 name among))

-- a session on a name that is not concerned
other_covers : (acts : List Act) (left : List Seal) (book : Book) (seats : List Seal) (session : SessionState) → ¬ (Among acts session.name) → ((seat : Seal) → Contains seats seat → ¬ (Among acts seat.name) → Contains left seat)
    → Covers session book seats → Covers session (booked_all acts book) left
other_covers acts left book seats session apart spares covers entry whole is = by_entry (book session.name) refl
  where
    by_entry : (o : Option Entry) → book session.name ≡ o → (sheet : Sheet) × Contains left (seat_of session.key session.name sheet) × IsKeptOn sheet session
    by_entry None was = let e : None ≡ Some entry = sym (booked_all_none acts book session.name apart was) ∙ is in absurd (cc)
    by_entry (Some old) was = let has = covers old whole was in (has.0, spares (seat_of session.key session.name has.0) has.1 apart, has.2)

pub others_too : (first last : Covering) (concerns : Name → Type 0) (Of : SessionState → Type 0) (a b : Honest) → ((session : SessionState) → Of session → ¬ (concerns session.name)) → KeepsUnder first last concerns a b
    → KeepsUnder (CoversBoth first (CoversEach Of)) (CoversBoth last (CoversEach Of)) concerns a b
others_too first last concerns Of a b apart keeps book seats agrees reads covers =
    let kept = keeps book seats agrees reads covers.0 in (
      kept.0,
      kept.1,
      kept.2,
      (kept.3, λ session of. other_covers kept.0 kept.1 book seats session (λ among. apart session of (kept.5 session.name among)) kept.4 (covers.1 session of)),
      kept.4,
      kept.5,
    )

-- what is asked of fewer
pub covers_less : (first first2 last last2 : Covering) (concerns : Name → Type 0) (a b : Honest) → ((book : Book) (seats : List Seal) → first2 book seats → first book seats) → ((book : Book) (seats : List Seal) → last book seats → last2 book seats)
    → KeepsUnder first last concerns a b → KeepsUnder first2 last2 concerns a b
covers_less first first2 last last2 concerns a b back forth keeps book seats agrees reads covers = let kept = keeps book seats agrees reads (back book seats covers) in (kept.0, kept.1, kept.2, forth (booked_all kept.0 book) kept.1 kept.3, kept.4, kept.5)

pub run_keeps : (after : Covering) (concerns : Name → Type 0) (old new : Honest) → KeepsUnder CoversNone after concerns old new → IsImage old.now (reading old.now) → (book : Book) → StartsWith book old.now → RunKeeps book old new
run_keeps after concerns old new keeps reads book start =
    let agrees = starts book old.now start in
    let kept = keeps book [] agrees reads tt in
    record { acts = kept.0; left = kept.1; leaves = all_leaves book [] kept.0 kept.1 old new agrees reads kept.2; agrees = all_agrees book [] kept.0 kept.1 old new agrees reads kept.2 }
