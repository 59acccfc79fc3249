-- A session over an honest host in which nothing fails: its script is the one run that the files give.
use Rattle.std.proofs.Common.{◌≡◌, ◌⊎◌, inl, inr, ⊎_elim, ℕ, List, [], refl, sym, ◌∙◌, ap, subst, Option, Some, None, Ok, Err}
use Rattle.std.specs.Prelude.{IfSome, option_map}
use Rattle.std.proofs.lemmas.List.{append-nil}
use Rattle.pf_io.specs.Disk.{Name, Files, reading}
use Rattle.pf_io.specs.Host.{ReadsAsImage, files_of}
use Rattle.pf_io.specs.Moments.{Honest}
use Rattle.pf_io.specs.Streams.{TakesFront}
use Rattle.pf_io.proofs.Telling.{both_same}
use Rattle.pf_script.specs.Book.{Book}
use Rattle.pf_script.specs.BookLaws.{StartsWith}
use Rattle.pf_script.specs.FileRuns.{TakesWords}
use Rattle.pf_script.specs.ScriptRuns.{closings}
use Rattle.pf_script.specs.Words.{SEATS}
use Rattle.pf_tool.specs.BookScripts.{GivesScript}
use Rattle.pf_tool.specs.Happened.{IsTaken}
use Rattle.pf_tool.specs.Keys.{KeyOver}
use Rattle.pf_tool.specs.Runs.{RunsScript, NoneRose}
use Rattle.pf_tool.specs.Transcripts.{exchanges_of, empty_seats, AnswersFirst, IsStarved, cut_off}
use Rattle.pf_tool.specs.World.{World}
use Rattle.pf_tool.proofs.KeyOver.{key_over_one}
use Rattle.pf_tool.proofs.ScriptCalm.{none_rises, all_calm}
use Rattle.pf_tool.proofs.ScriptKeeping.{CameUnder, five_or_seven, script_at}
use Rattle.pf_tool.proofs.ScriptParts.{lines_only, both_first, never_more}
use Rattle.pf_tool.proofs.ScriptSeen.{host_flags, words_flags, words_seen}
use Rattle.pf_tool.proofs.ScriptUnread.{NoneCame}

some_is : {A : Type 0} (P : A → Type 0) (o : Option A) → ((a : A) → P a) → IfSome o P
some_is P (Some a) all = all a
some_is P None all = tt

module _ (key : Name) (old new : World) (status : ℕ) (a : Honest) (none : NoneRose old new) where
  abbrev IsWanting : Type 0
  IsWanting = IsStarved old new status

  came_gives : (book : Book) (b : Honest) (came : CameUnder key old new status book a b) → GivesScript came.user (reading a.now) old new status
  came_gives book b came =
      let xs = exchanges_of came.transcript in
      record {
        transcript = came.transcript;
        lines = came.lines;
        words = both_first (IsTaken (words_seen xs)) (TakesWords xs) old.random.left came.seen.until.random.left came.seen.seen.words (λ before now is. record { left = now; in_order = is });
        put = came.put;
        runs = came.over_files (all_calm xs (none_rises (host_flags xs) old.host.faults new.host.faults came.host_counts none.host) (none_rises (words_flags xs) old.random.faults new.random.faults came.words_counts none.random));
      }

  -- no line was answered
  none_gives : (user : List ℕ) → new.out ≡ old.out → IsWanting → GivesScript user (reading a.now) old new status
  none_gives user out starved = record {
    transcript = lines_only [];
    lines = some_is (AnswersFirst (lines_only [])) old.input.left (λ input. record { first = []; rest = _; whole = refl; each = tt; all = λ more. absurd (never_more [] more) });
    words = some_is (TakesWords []) old.random.left (λ words. record { left = words; in_order = refl });
    put = cut_off (five_or_seven old new status starved) (both_same (TakesFront []) old.out.bytes new.out.bytes (ap (λ s. s.bytes) out) (λ bytes. record { count = 0; taken = sym (append-nil bytes) }));
    runs = (record { rest = closings SEATS 0 (empty_seats user []); in_order = refl; all = λ e. absurd (cc) }, inr starved);
  }

  pub script_gives : (book : Book) (b : Honest) (user : List ℕ) → KeyOver (reading a.now) key (Ok user) → CameUnder key old new status book a b ⊎ NoneCame key (reading a.now) old new status → GivesScript user (reading a.now) old new status
  script_gives book b user over (inl came) =
      let is : Ok came.user ≡ Ok user = key_over_one (reading a.now) key (Ok came.user) (Ok user) came.over over in
      let same : came.user ≡ user = cc in
      subst (λ (u : List ℕ). GivesScript u (reading a.now) old new status) same (came_gives book b came)
  script_gives book b user over (inr unread) =
      ⊎_elim (λ refused. let is : Err refused.0 ≡ Ok user = key_over_one (reading a.now) key (Err refused.0) (Ok user) refused.1 over in absurd (cc))
      (λ other. ⊎_elim (λ once. absurd (none.host (0, once))) (λ starved. none_gives user unread.out starved) other) unread.why

-- a book that speaks of no name
abbrev no_names : Book
no_names name = None

pub script_over : (key : Name) (old new : World) (status : ℕ) → ReadsAsImage old.host → RunsScript key old new status → (files : Files) → files_of old.host ≡ Some files → (user : List ℕ) → KeyOver files key (Ok user) → NoneRose old new → GivesScript user files old new status
script_over key old new status image run files are user over none =
    at_disk old.host.honest are
    (both_first (λ a b. (book : Book) → StartsWith book a.now → GivesScript user files old new status) (λ a. (book : Book) → StartsWith book a.now → GivesScript user files old new status) old.host.honest new.host.honest
    (script_at key old new status image run (λ book a b. GivesScript user files old new status)
    (λ book a b at_start at_end starts came.
    let is : Some files ≡ Some (reading a.now) = sym are ∙ ap (λ (o : Option Honest). option_map (λ host. reading host.now) o) at_start in
    let same : files ≡ reading a.now = cc in
    subst (λ (f : Files). GivesScript user f old new status) (sym same) (script_gives key old new status a none book b user (subst (λ (f : Files). KeyOver f key (Ok user)) same over) came)))
    (λ a b gives. gives))
  where
    at_disk : (o : Option Honest) → option_map (λ host. reading host.now) o ≡ Some files → IfSome o (λ a. (book : Book) → StartsWith book a.now → GivesScript user files old new status) → GivesScript user files old new status
    at_disk (Some a) is gives = gives no_names (λ name entry has. absurd (cc))
    at_disk None is gives = absurd (cc)
