-- The sealing of a plain file by a session beside the output's name: what its calls came to, in order.
use Rattle.std.specs.Prelude.{◌≡◌, ◌≢◌, ℕ, ◌<◌, List, [], ◌∷◌, ◌++◌, length, Result, Ok, Err}
use Rattle.node_tree.specs.Parts.{PIECE}
use Rattle.pf_io.specs.Disk.{Name}
use Rattle.pf_io.specs.Host.{HostState, Gave}
use Rattle.pf_io.specs.Unchanged.{KeepsDisk}
use Rattle.pf_io.specs.Words.{WordsState}
use Rattle.pf_session.specs.Changing.{WriteGoes}
use Rattle.pf_session.specs.Creating.{BesideGoes}
use Rattle.pf_session.specs.Ending.{PublishGoes}
use Rattle.pf_session.specs.State.{SessionState}
use Rattle.pf_session.specs.declared.fault.BesideFault.{BesideFault}
use Rattle.pf_session.specs.declared.fault.BesideFault.TheVariants as besides
use Rattle.pf_session.specs.declared.fault.FlushFault.{FlushFault}
use Rattle.pf_session.specs.declared.fault.WriteFault.{WriteFault}
use Rattle.pf_session.specs.declared.fault.Written.{Written}
use Rattle.pf_tool.specs.Faults.{beside_fault, flush_fault, IsPieceFault}
use Rattle.pf_tool.specs.Happened.{HostPassed, HostFailed}
use Rattle.pf_tool.specs.declared.fault.Fault.{Fault}
use Rattle.pf_tool.specs.declared.fault.Fault.TheVariants as faults

-- the host gave these bytes of the input from a place on, with room for a piece
pub record GavePiece (input : Name) (at : ℕ) (piece : List ℕ) (before after : HostState) : Type 0 where
  pub passed : HostPassed (Gave input at PIECE piece ∷ []) before after
  pub disk : KeepsDisk before after

-- that call failed
pub record PieceFailed (input : Name) (at : ℕ) (before after : HostState) : Type 0 where
  pub piece : List ℕ
  pub failed : HostFailed (Gave input at PIECE piece) before after
  pub disk : KeepsDisk before after

-- a piece was given, and the session wrote it at the same place
pub record PieceWritten (input : Name) (at : ℕ) (piece : List ℕ) (old new : SessionState) (before after : HostState) (random random' : WordsState) : Type 0 where
  pub between : HostState
  pub gave : GavePiece input at piece before between
  pub written : Written
  pub wrote : WriteGoes (Ok written) at piece old new between after random random'

-- Whole pieces were given and written, each where the one before ended. The content is what they are together.
pub data PiecesWritten (input : Name) (old : SessionState) (before : HostState) (random : WordsState) : List ℕ → SessionState → HostState → WordsState → Type 0 where
  none_yet : (content : List ℕ) (new : SessionState) (after : HostState) (random' : WordsState) → content ≡ [] → new ≡ old → after ≡ before → random' ≡ random → PiecesWritten input old before random content new after random'
  one_more : (earlier piece content : List ℕ) (mid new : SessionState) (between after : HostState) (words random' : WordsState) → PiecesWritten input old before random earlier mid between words
      → PieceWritten input (length earlier) piece mid new between after words random' → length piece ≡ PIECE → content ≡ earlier ++ piece → PiecesWritten input old before random content new after random'

-- All of the input was: behind the whole pieces one came that is short.
pub record InputWritten (input : Name) (content : List ℕ) (old new : SessionState) (before after : HostState) (random random' : WordsState) : Type 0 where
  pub earlier : List ℕ
  pub last : List ℕ
  pub mid : SessionState
  pub between : HostState
  pub words : WordsState
  pub whole : PiecesWritten input old before random earlier mid between words
  pub wrote : PieceWritten input (length earlier) last mid new between after words random'
  pub short : length last < PIECE
  pub content_is : content ≡ earlier ++ last

-- Behind some whole pieces the next one was not given, or was not written.
pub data InputStops (input : Name) (old : SessionState) (fault : Fault) (before after : HostState) (random random' : WordsState) : Type 0 where
  not_given : (earlier : List ℕ) (mid : SessionState) (between : HostState) → PiecesWritten input old before random earlier mid between random' → PieceFailed input (length earlier) between after → fault ≡ faults.Host
      → InputStops input old fault before after random random'
  not_written : (earlier piece : List ℕ) (mid new : SessionState) (between given : HostState) (words : WordsState) (why : WriteFault) → PiecesWritten input old before random earlier mid between words
      → GavePiece input (length earlier) piece between given → WriteGoes (Err why) (length earlier) piece mid new given after words random' → IsPieceFault why fault → InputStops input old fault before after random random'

-- The file is created beside the output's name, which is also a fit path, gets all of the input, and takes the name.
pub data SealsInput (user : List ℕ) (input output : Name) (ended : Result (Unit {0}) Fault) (before after : HostState) (random random' : WordsState) : Type 0 where
  not_begun : (why : BesideFault) → why ≢ besides.BadName → BesideGoes user output output before after random random' (Err why) → ended ≡ Err (beside_fault why) → SealsInput user input output ended before after random random'
  not_copied : (session : SessionState) (begun : HostState) (words : WordsState) (fault : Fault) → BesideGoes user output output before begun random words (Ok session) → InputStops input session fault begun after words random'
      → ended ≡ Err fault → SealsInput user input output ended before after random random'
  not_published : (session whole : SessionState) (content : List ℕ) (begun copied : HostState) (words more : WordsState) (why : FlushFault) → BesideGoes user output output before begun random words (Ok session)
      → InputWritten input content session whole begun copied words more → PublishGoes (Err why) whole copied after more random' → ended ≡ Err (flush_fault why) → SealsInput user input output ended before after random random'
  sealed : (session whole : SessionState) (content : List ℕ) (begun copied : HostState) (words more : WordsState) → BesideGoes user output output before begun random words (Ok session)
      → InputWritten input content session whole begun copied words more → PublishGoes (Ok tt) whole copied after more random' → ended ≡ Ok tt → SealsInput user input output ended before after random random'
