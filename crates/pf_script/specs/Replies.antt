-- The texts of replies.
use Rattle.std.specs.Prelude.{◌≢◌, ℕ, true, false, List, [], ◌∷◌, ◌++◌, length, codes, Result, Ok, Err}
use Rattle.std.specs.Fmt.{decimal}
use Rattle.hex.specs.Hex.{encode_lower}
use Rattle.node_layout.specs.declared.damage.Kind.{Kind}
use Rattle.node_layout.specs.declared.damage.Kind.TheVariants as kinds
use Rattle.pf_io.specs.Streams.{SinkState}
use Rattle.pf_io.specs.Writing.{WroteAll, SinkFailed}
use Rattle.pf_script.specs.declared.reply.Reply.{Reply}
use Rattle.pf_script.specs.declared.reply.Reply.TheVariants as replies
use Rattle.pf_script.specs.declared.reply.Why.{Why}
use Rattle.pf_script.specs.declared.reply.Why.TheVariants as whys
use Rattle.pf_script.specs.Lines.{LINE_FEED}

-- a text and the end of its line
abbrev pub ended : List ℕ → List ℕ
ended text = text ++ LINE_FEED ∷ []

abbrev pub kind_word : Kind → List ℕ
kind_word kinds.Short = codes "short"
kind_word kinds.Tag = codes "tag"
kind_word kinds.Text = codes "text"
kind_word kinds.Log = codes "log"

-- so many bytes, in hexadecimal, where there are any
abbrev pub given_words : List ℕ → List ℕ
given_words [] = codes "ok read 0"
given_words (byte ∷ bytes) = codes "ok read " ++ decimal (length (byte ∷ bytes)) ++ codes " " ++ encode_lower (byte ∷ bytes)

abbrev pub why_words : Why → List ℕ
why_words whys.SeatBusy = codes "refused seat busy"
why_words whys.SeatEmpty = codes "refused seat empty"
why_words whys.NameBusy = codes "refused name busy"
why_words whys.BadName = codes "refused bad name"
why_words whys.NotProtected = codes "refused not protected"
why_words whys.TooLong = codes "refused too long"
why_words whys.TooLarge = codes "refused too large"
why_words whys.ReadOnly = codes "refused read-only"
why_words whys.Broken = codes "refused broken"
why_words whys.TargetExists = codes "refused target exists"
why_words whys.NoManifest = codes "refused no manifest"
why_words whys.BadPath = codes "refused bad path"
why_words whys.NoHostFile = codes "refused no host file"
why_words (whys.Exists name) = codes "refused exists " ++ name
why_words (whys.NotFound name) = codes "refused not found " ++ name
why_words whys.Unbuilt = codes "refused unbuilt"
why_words (whys.BadVersion major minor) = codes "refused version " ++ decimal major ++ codes "." ++ decimal minor
why_words (whys.WrongPath stored) = codes "refused wrong path " ++ stored
why_words (whys.PastEnd size) = codes "refused past end " ++ decimal size
why_words (whys.Denied uri) = codes "refused denied " ++ uri
why_words (whys.NoSum uri) = codes "refused no sum " ++ uri
why_words (whys.NoKey name) = codes "refused no key " ++ name
why_words (whys.WrongSum found) = codes "refused wrong sum " ++ encode_lower found

-- what a reply writes: nothing, or one line
abbrev pub reply_text : Reply → List ℕ
reply_text replies.None = []
reply_text replies.Created = ended (codes "ok create")
reply_text (replies.Opened size) = ended (codes "ok open " ++ decimal size)
reply_text (replies.Viewed size logged) = ended (codes "ok view " ++ decimal size)
reply_text (replies.Given bytes) = ended (given_words bytes)
reply_text (replies.Written count false) = ended (codes "ok write " ++ decimal count)
reply_text (replies.Written count true) = ended (codes "ok write " ++ decimal count ++ codes " flushed")
reply_text (replies.Sized size) = ended (codes "ok size " ++ decimal size)
reply_text replies.Flushed = ended (codes "ok flush")
reply_text replies.Moved = ended (codes "ok move")
reply_text (replies.Drawn nonce) = ended (codes "ok draw " ++ encode_lower nonce)
reply_text (replies.Closed false) = ended (codes "ok close")
reply_text (replies.Closed true) = ended (codes "ok close lost")
reply_text (replies.Refused why) = ended (why_words why)
reply_text (replies.DamagedNode damage) = ended (codes "damaged node " ++ decimal damage.node ++ codes " " ++ kind_word damage.kind)
reply_text (replies.DamagedChunk chunk) = ended (codes "damaged chunk " ++ decimal chunk)
reply_text replies.HostFault = ended (codes "host fault")
reply_text replies.WordsFault = ended (codes "random fault")

-- A text was said: it was written, or the sink failed in it, which it cannot in an empty one.
abbrev pub Said : {T E : Type 0} → Result T E → List ℕ → SinkState → SinkState → Type 0
Said (Ok value) text old new = WroteAll text old new
Said (Err fault) text old new = (text ≢ []) × SinkFailed text old new
