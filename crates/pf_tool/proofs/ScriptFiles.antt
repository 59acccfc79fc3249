-- What a session does over files in which nothing fails.
use Rattle.std.proofs.Common.{◌≡◌, ◌⊎◌, List, [], ℕ, refl, sym, ◌∙◌, ap, subst, Option, Some, None}
use Rattle.std.specs.Prelude.{IfSome, option_map}
use Rattle.std.specs.List.{flat_map}
use Rattle.pf_io.specs.Disk.{Disk, Name, Files, reading}
use Rattle.pf_io.specs.Host.{HostState, Both}
use Rattle.pf_io.specs.Moments.{Honest}
use Rattle.pf_io.specs.Unchanged.{KeepsDisk}
use Rattle.pf_script.specs.BookDebts.{Unchanged}
use Rattle.pf_script.specs.Desk.{DeskState}
use Rattle.pf_script.specs.FileRuns.{FollowsOver}
use Rattle.pf_script.specs.FileTurns.{no_file}
use Rattle.pf_script.specs.Script.{Empty, ScriptState}
use Rattle.pf_script.specs.Words.{SEATS}
use Rattle.pf_script.proofs.FilesRunning.{IsOver, over_as}
use Rattle.pf_tool.specs.BookScripts.{AreClosings, FilesAre}
use Rattle.pf_tool.specs.Scripting.{At, begins}
use Rattle.pf_tool.specs.Transcripts.{Transcript, exchange_of, exchanges_of, empty_seats}
use Rattle.pf_tool.specs.World.{World}
use Rattle.pf_tool.proofs.ScriptCalm.{AreCalm, calm_split}
use Rattle.pf_tool.proofs.ScriptContent.{same_all}
use Rattle.pf_tool.proofs.ScriptUnder.{Under}

-- The lines follow each other over the files, and then the closings, to the files that are left.
abbrev pub RunsFiles : (starved : Type 0) (user : List ℕ) (transcript : Transcript) (files : Files) (new : World) → Type 0
RunsFiles starved user transcript files new =
    FollowsOver (empty_seats user []) (flat_map exchange_of transcript.items) files (λ state mid. AreClosings transcript state × FollowsOver state transcript.closed mid (λ after left. FilesAre left new ⊎ starved))

-- the files of the host on which a run ended
pub files_left : (desk : DeskState) (host : HostState) (state : ScriptState) (files : Files) (new : World) → IsOver desk host state files → new.host ≡ host → FilesAre files new
files_left desk host state files new is same =
    subst (λ (o : Option Honest). IfSome (option_map (λ host. reading host.now) o) (λ now. (name : Name) → now name ≡ files name)) (sym (ap (λ (h : HostState). h.honest) same ∙ is.is_disk)) (λ name. ap (λ (f : Files). f name) (sym is.files_are))

-- from empty seats
begun_over : (user : List ℕ) (begun : World) (before : HostState) (a : Honest) → before.honest ≡ Some a → KeepsDisk before begun.host → IsOver (begins user begun).desk begun.host (empty_seats user []) (reading a.now)
begun_over user begun before a is kept = by_disk before.honest begun.host.honest is refl kept
  where
    by_disk : (o p : Option Honest) → o ≡ Some a → begun.host.honest ≡ p → Both o p Unchanged → IsOver (begins user begun).desk begun.host (empty_seats user []) (reading a.now)
    by_disk (Some c) (Some s) same at both =
        let one : c ≡ a = cc in
        let unchanged : Unchanged a s = subst (λ (z : Honest). Unchanged z s) one both in
        record {
          disk = s;
          is_disk = at;
          files_are = ap (λ (d : Disk). reading d) (sym unchanged.ends);
          is_state = record { key_is = refl; eight = refl; shows = λ k. no_file (same_all SEATS k Empty) (same_all SEATS k None) };
        }
    by_disk (Some c) None same at both = absurd both
    by_disk None p same at both = absurd (cc)

-- the exchanges of the lines, then those of the closings
pub runs_over : (starved : Type 0) (user : List ℕ) (transcript : Transcript) (begun : World) (read : At) (before : HostState) (a : Honest) (new : World) → before.honest ≡ Some a → KeepsDisk before begun.host → Under (flat_map exchange_of transcript.items) (begins user begun) read
    → (AreCalm transcript.closed → (state : ScriptState) (mid : Files) → IsOver read.desk read.world.host state mid → AreClosings transcript state × FollowsOver state transcript.closed mid (λ after left. FilesAre left new ⊎ starved))
    → AreCalm (exchanges_of transcript) → RunsFiles starved user transcript (reading a.now) new
runs_over starved user transcript begun read before a new is kept under closes calm =
    let xs = flat_map exchange_of transcript.items in
    let each = calm_split xs transcript.closed calm in
    over_as (empty_seats user []) xs (reading a.now) (λ state mid is_mid. closes each.1 state mid is_mid) (under.over each.0 (empty_seats user []) (reading a.now) (begun_over user begun before a is kept))
