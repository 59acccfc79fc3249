pub mod Writing
pub mod Composing
pub mod Calls
pub mod Stopping
pub mod KeyReading
pub mod Asking
pub mod InputReading
pub mod InputLaws
pub mod PageReading
pub mod LayoutReading
mod Lists
mod Conversing
mod LineCounting
mod ScriptCounting
mod ScriptStreams
mod HeldTree
mod SessionWrites
mod PieceGiving
mod SessionBegun
mod EncryptFinding
mod PieceAnswers
mod SheetWrites
mod PiecesStand
mod InputStands
mod SealCounts
mod WriteFails
mod SealStops
mod SealDisks
mod SealSummary
mod SideBehind
pub mod Numbered
pub mod SameBlocks
pub mod Following
mod Defining
mod RenderLaws
mod TextPutting
mod ManifestEnding
mod ManifestLaws
mod PlainWriting
pub mod OneFile
pub mod Growing
pub mod Fronts
pub mod PieceReads
pub mod PieceRuns
pub mod NodeReading
pub mod KeyOver
mod RunStops
mod EncryptLaws
pub mod DecryptLaws
pub mod SheetNodes
pub mod ContentLaws
mod LastAnswers
mod MeasureLaws
mod ManifestFileLaws
mod EntryLaws
mod SumsLaws
mod EntryReading
mod SumsEnding
mod RunLaws
mod RunClauses
mod ScriptCauses
mod ScriptKey
mod ScriptTurns
mod ScriptSeen
mod ScriptReading
mod ScriptClosing
mod ScriptParts
mod ScriptText
mod ScriptContent
mod ScriptBooks
mod EncryptRuns
mod EncryptClauses
mod RunChoices
mod ScriptSpares
mod RunDisk
pub mod ContentRuns
mod ScriptUnder
mod ScriptBooked
mod ScriptKeeping
mod ScriptSaw
mod SeatClosings
mod ScriptUnread
mod ScriptOver
mod ScriptCalm
mod ScriptFiles
