-- What a line takes of the random words and asks of the host at most.
use Rattle.std.proofs.Common.{◌≡◌, ℕ, refl, Option, Some, None, arith}
use Rattle.node_tree.specs.Fetching.{CountsReads}
use Rattle.pf_io.specs.Host.{HostState}
use Rattle.pf_io.specs.Words.{WordsState}
use Rattle.pf_session.specs.State.{SessionState}
use Rattle.pf_script.specs.DeskSteps.{AsksFew, IsChange, TakesNoWords}
use Rattle.pf_script.specs.declared.line.ScriptLine.{ScriptLine}
use Rattle.pf_script.specs.declared.line.ScriptLine.TheVariants as lines

-- both at once
abbrev pub TakesFew : ScriptLine → Option SessionState → HostState → HostState → WordsState → WordsState → Type 0
TakesFew line old before after random random' = (TakesNoWords line → random' ≡ random) × AsksFew line old before after

no_reads : (n : ℕ) (host : HostState) → CountsReads n host host
no_reads n host = record { reads = omega arith; writes = refl; widest = omega arith }

-- nothing was asked
none_asked : (line : ScriptLine) (old : Option SessionState) (host : HostState) → AsksFew line old host host
none_asked lines.Blank old host = tt
none_asked (lines.Create k name) old host = tt
none_asked (lines.Open k name) old host = no_reads 1 host
none_asked (lines.View k path) old host = refl
none_asked (lines.Read k at count) None host = refl
none_asked (lines.Read k at count) (Some session) host = λ numbers touched. no_reads _ host
none_asked (lines.Write k at bytes) old host = tt
none_asked (lines.Fill k at count byte) old host = tt
none_asked (lines.Size k size) old host = tt
none_asked (lines.Flush k) old host = tt
none_asked (lines.Move k name) old host = tt
none_asked (lines.Draw k) old host = refl
none_asked (lines.Close k) old host = tt

-- nothing was asked, and no word was taken
pub none_taken_at : (line : ScriptLine) (old : Option SessionState) (host : HostState) (words : WordsState) → TakesFew line old host host words words
none_taken_at line old host words = (λ wordless. refl, none_asked line old host)

-- of a change nothing is said
pub change_takes : (line : ScriptLine) → IsChange line → (old : Option SessionState) (before after : HostState) (random random' : WordsState) → TakesFew line old before after random random'
change_takes lines.Blank changes old before after random random' = absurd changes
change_takes (lines.Create k name) changes old before after random random' = absurd changes
change_takes (lines.Open k name) changes old before after random random' = absurd changes
change_takes (lines.View k path) changes old before after random random' = absurd changes
change_takes (lines.Read k at count) changes old before after random random' = absurd changes
change_takes (lines.Write k at bytes) changes old before after random random' = (λ none. absurd none, tt)
change_takes (lines.Fill k at count byte) changes old before after random random' = (λ none. absurd none, tt)
change_takes (lines.Size k size) changes old before after random random' = (λ none. absurd none, tt)
change_takes (lines.Flush k) changes old before after random random' = absurd changes
change_takes (lines.Move k name) changes old before after random random' = absurd changes
change_takes (lines.Draw k) changes old before after random random' = absurd changes
change_takes (lines.Close k) changes old before after random random' = absurd changes
