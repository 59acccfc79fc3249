-- Lines over files, without a book: files that reopen, what acts leave of them, and which seat shows a session.
use Rattle.std.proofs.Common.{◌≡◌, Bool, true, false, List, [], ◌∷◌, ◌++◌, ℕ, refl, sym, ◌∙◌, ap, subst, Option, Some}
use Rattle.node_tree.specs.Sheet.{Sheet, Stands}
use Rattle.pf_io.specs.Disk.{Name, File, Disk, Files, reading, read_of}
use Rattle.pf_io.specs.Host.{HostState, OnDisk, contents}
use Rattle.pf_io.specs.Moments.{Honest, Ran}
use Rattle.pf_io.specs.Names.{recovery_of}
use Rattle.pf_session.specs.Aside.{LeavesApart, KeepsApart}
use Rattle.pf_session.specs.Moving.{IsKeptOn}
use Rattle.pf_session.specs.Reopening.{ReopensAs, ReadsAs, HasSheet}
use Rattle.pf_session.specs.State.{SessionState, file_of}
use Rattle.pf_script.specs.BookActs.{Flush, Act}
use Rattle.pf_script.specs.BookDebts.{Unchanged, seat_of}
use Rattle.pf_script.specs.BookSeats.{IsOfScript}
use Rattle.pf_script.specs.Desk.{seat_on}
use Rattle.pf_script.specs.FileTurns.{stands_on, seen_over, FilesLeft, FilesAfter, ShowsOver, no_file, whole_file, broken_file, LineOver, SeatFiles}
use Rattle.pf_script.specs.Script.{OwnSeat, Seat, Own}
use Rattle.pf_script.specs.Turns.{Seen, Failed, SeatTurn, flushes}
use Rattle.pf_script.specs.declared.line.ScriptLine.{ScriptLine}
use Rattle.pf_script.specs.declared.reply.Reply.{Reply}
use Rattle.pf_script.proofs.CallKeeping.{both_with}
use Rattle.pf_script.proofs.OfScript.{file_named}
use Rattle.pf_script.proofs.OverGiven.{same_files, over_idle}
use Rattle.pf_script.proofs.Showing.{same_session}

-- what reopens stands, as it reads
pub reopens_stands : (key : List ℕ) (sheet : Sheet) (here log : Option (List ℕ)) → ReopensAs key sheet here log → Stands (contents here) key sheet
reopens_stands key sheet here log reopens = subst (λ (o : Option (List ℕ)). Stands (contents o) key sheet) (sym reopens.whole) reopens.stands

pub has_reopens : (key : List ℕ) (name : Name) (sheet : Sheet) (disk : Disk) → HasSheet key name sheet disk → ReopensAs key sheet (reading disk name) (reading disk (recovery_of name))
has_reopens key name sheet disk has = record { file = has.file.bytes; whole = ap (λ (o : Option File). read_of o) has.there; stands = has.stands }

pub reopens_reads : (key : List ℕ) (name : Name) (sheet : Sheet) (disk : Disk) → ReopensAs key sheet (reading disk name) (reading disk (recovery_of name)) → ReadsAs key name sheet disk
reopens_reads key name sheet disk reopens = reopens_stands key sheet (reading disk name) (reading disk (recovery_of name)) reopens

-- a file that did not change reopens as before
pub reopens_still : (key : List ℕ) (sheet : Sheet) (name : Name) (files files' : Files) → files' name ≡ files name → files' (recovery_of name) ≡ files (recovery_of name) → ReopensAs key sheet (files name) (files (recovery_of name))
    → ReopensAs key sheet (files' name) (files' (recovery_of name))
reopens_still key sheet name files files' same same_log reopens =
    subst (λ (o : Option (List ℕ)). ReopensAs key sheet o (files' (recovery_of name))) (sym same) (subst (λ (o : Option (List ℕ)). ReopensAs key sheet (files name) o) (sym same_log) reopens)

-- what a flush leaves, of calls that changed no other names
pub left_flush : (key : List ℕ) (name : Name) (sheet : Sheet) (a b : Honest) → ReopensAs key sheet (reading b.now name) (reading b.now (recovery_of name)) → Ran (LeavesApart name) (KeepsApart name) a b
    → FilesLeft (Flush (seat_of key name sheet)) (reading a.now) (reading b.now)
left_flush key name sheet a b stands ran = record { stands = stands; away = tt; others = λ other apart. ap (λ (o : Option File). read_of o) (ran.ends other apart) }

-- one flush, and acts after others
pub files_one : (act : Act) (old new : Files) → act.done ≡ true → FilesLeft act.deed old new → FilesAfter (act ∷ []) old new
files_one act old new done left = (done, (new, left, λ name. refl))

pub files_flush : (own : OwnSeat) (sheet : Sheet) (old new : Files) → FilesLeft (Flush (seat_of own.key own.name sheet)) old new → FilesAfter (flushes own (sheet ∷ [])) old new
files_flush own sheet old new left = files_one (record { deed = Flush (seat_of own.key own.name sheet); done = true }) old new refl left

pub files_from : (acts : List Act) (old still new : Files) → ((name : Name) → still name ≡ old name) → FilesAfter acts still new → FilesAfter acts old new
files_from [] old still new same after = λ name. after name ∙ same name
files_from (act ∷ acts) old still new same after =
    let left = after.1.1 in
    (after.0, (after.1.0, record { stands = left.stands; away = left.away; others = λ other apart. left.others other apart ∙ same other }, after.1.2))

pub files_join : (acts more : List Act) (old mid new : Files) → FilesAfter acts old mid → FilesAfter more mid new → FilesAfter (acts ++ more) old new
files_join [] more old mid new first after = files_from more old mid new first after
files_join (act ∷ acts) more old mid new first after = (first.0, (first.1.0, first.1.1, files_join acts more first.1.0 mid new first.1.2 after))

-- A seat shows a session over other files that have the session's file as these do.
pub shows_still : (files files' : Files) (seat : Seat) (session : Option SessionState)
    → ((own : SessionState) → session ≡ Some own → own.broken ≡ false → (files' own.name ≡ files own.name) × (files' (recovery_of own.name) ≡ files (recovery_of own.name))) → ShowsOver files seat session → ShowsOver files' seat session
shows_still files files' seat session same (no_file is none) = no_file is none
shows_still files files' seat session same (whole_file sheet own whole path reopens kept is some) =
    let still = same own some whole in
    whole_file sheet own whole path (reopens_still own.key sheet own.name files files' still.0 still.1 reopens) kept is some
shows_still files files' seat session same (broken_file shown own broken as_broken key_is name_is is some) = broken_file shown own broken as_broken key_is name_is is some

pub shows_all : (files files' : Files) (seat : Seat) (session : Option SessionState) → ((name : Name) → files' name ≡ files name) → ShowsOver files seat session → ShowsOver files' seat session
shows_all files files' seat session same shows = shows_still files files' seat session (λ own some whole. (same own.name, same (recovery_of own.name))) shows

-- a session that stands on its file
pub shows_whole : (files : Files) (base : Sheet) (new : SessionState) (key' : List ℕ) (name : Name) → new.key ≡ key' → new.name ≡ name → new.broken ≡ false → base.path ≡ name → ReopensAs key' base (files name) (files (recovery_of name)) → IsKeptOn base new
    → ShowsOver files (Own (seat_on base new)) (Some new)
shows_whole files base new key' name key_is name_is whole path reopens kept =
    whole_file base new whole (path ∙ sym name_is)
    (subst (λ (k : List ℕ). ReopensAs k base (files new.name) (files (recovery_of new.name))) (sym key_is) (subst (λ (n : Name). ReopensAs key' base (files n) (files (recovery_of n))) (sym name_is) reopens)) kept refl refl

module _ (key : List ℕ) (taken : Bool) (line : ScriptLine) (seen : Seen) (reply : Reply) where
  -- a line on a whole session, whose file stands for the sheet on which it stands
  module _ (old : SessionState) (whole : old.broken ≡ false) (new : Option SessionState) (a b : Honest) where
    pub record OnFile (base : Sheet) : Type 0 where
      pub path_is : base.path ≡ old.name
      pub reopens : ReopensAs old.key base (reading a.now old.name) (reading a.now (recovery_of old.name))
      pub kept : IsKeptOn base old

    abbrev pub KnownOver : Type 0
    KnownOver = Failed seen false false → (base : Sheet) → OnFile base → LineOver key taken line seen reply new (Own (seat_on base old)) a b

    -- the seat that shows it is on such a sheet
    pub own_over : KnownOver → SeatFiles key taken line seen reply (Some old) new a b
    own_over known seat calm shows opened = by_shows shows
      where
        by_shows : ShowsOver (reading a.now) seat (Some old) → LineOver key taken line seen reply new seat a b
        by_shows (no_file is none) = absurd (cc)
        by_shows (whole_file sheet own also path reopens kept is some) =
            let same = same_session old own some in
            subst (λ (x : Seat). LineOver key taken line seen reply new x a b) (sym (is ∙ ap (λ (s : SessionState). Own (seat_on sheet s)) same))
            (known calm sheet (record {
              path_is = path ∙ ap (λ (s : SessionState). s.name) same;
              reopens = subst (λ (s : SessionState). ReopensAs s.key sheet (reading a.now s.name) (reading a.now (recovery_of s.name))) same reopens;
              kept = subst (λ (s : SessionState). IsKeptOn sheet s) same kept;
            }))
        by_shows (broken_file shown own broken as_broken key_is name_is is some) =
            let same = same_session old own some in
            let e : true ≡ false = sym broken ∙ ap (λ (s : SessionState). s.broken) same ∙ whole in
            absurd (cc)

    -- the file stands where the session's calls look for it
    pub file_stands : IsOfScript old → (base : Sheet) → OnFile base → Stands (contents (reading a.now (file_of old))) old.key base
    file_stands mine base on =
        subst (λ (n : Name). Stands (contents (reading a.now n)) old.key base) (sym (file_named old mine)) (reopens_stands old.key base (reading a.now old.name) (reading a.now (recovery_of old.name)) on.reopens)

  -- Nothing was done, and the session is kept.
  pub still_over : (old new : SessionState) (a b : Honest) → Unchanged a b → (base : Sheet) (whole : old.broken ≡ false) → OnFile old whole (Some new) a b base → new.key ≡ old.key → new.name ≡ old.name → new.broken ≡ false → IsKeptOn base new
      → SeatTurn (stands_on key (reading a.now)) key taken (Own (seat_on base old)) line (seen_over (reading a.now) line seen.words) reply [] (Own (seat_on base new)) → LineOver key taken line seen reply (Some new) (Own (seat_on base old)) a b
  still_over old new a b only base whole on key_is name_is also kept turn = record {
    acts = [];
    after = Own (seat_on base new);
    over = over_idle key taken (Own (seat_on base old)) line seen.words reply (Own (seat_on base new)) a b only turn;
    shows = shows_all (reading a.now) (reading b.now) (Own (seat_on base new)) (Some new) (same_files a b only) (shows_whole (reading a.now) base new old.key old.name key_is name_is also on.path_is on.reopens kept);
  }

-- so of a call on a host
pub over_on_disk : (P : Honest → Honest → Type 0) (key : List ℕ) (taken : Bool) (line : ScriptLine) (seen : Seen) (reply : Reply) (old : SessionState) (whole : old.broken ≡ false) (new : Option SessionState) (before after : HostState) → OnDisk before after P
    → ((a b : Honest) → before.honest ≡ Some a → after.honest ≡ Some b → P a b → KnownOver key taken line seen reply old whole new a b) → OnDisk before after (SeatFiles key taken line seen reply (Some old) new)
over_on_disk P key taken line seen reply old whole new before after holds known =
    both_with P (SeatFiles key taken line seen reply (Some old) new) before.honest after.honest holds (λ a b is is2 p. own_over key taken line seen reply old whole new a b (known a b is is2 p))
