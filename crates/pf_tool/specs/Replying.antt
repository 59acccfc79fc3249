-- What a session says of its lines, and the status that its replies give.
use Rattle.std.specs.Prelude.{ℕ, zero, suc, List, [], codes, Option, Some, None, Result, IfOk, ◌≡◌}
use Rattle.pf_io.specs.Streams.{SinkState}
use Rattle.pf_io.specs.declared.faults.StreamFault.{StreamFault}
use Rattle.pf_script.specs.Replies.{ended, reply_text, Said}
use Rattle.pf_script.specs.declared.reply.Reply.{Reply}
use Rattle.pf_script.specs.declared.reply.Reply.TheVariants as replies

-- the text of a reply; where there is none, the bytes were no line
abbrev pub spoken_text : Option Reply → List ℕ
spoken_text None = ended (codes "refused bad line")
spoken_text (Some reply) = reply_text reply

-- the status of a reply, which is 0 where it begins with `ok` or is nothing
abbrev pub reply_status : Reply → ℕ
reply_status (replies.Refused why) = 3
reply_status (replies.DamagedNode damage) = 1
reply_status (replies.DamagedChunk chunk) = 1
reply_status replies.HostFault = 4
reply_status replies.WordsFault = 6
reply_status other = 0

abbrev pub spoken_status : Option Reply → ℕ
spoken_status None = 3
spoken_status (Some reply) = reply_status reply

-- A reply was said, and this is its status.
abbrev pub Says : Result ℕ StreamFault → Option Reply → SinkState → SinkState → Type 0
Says result reply old new = Said result (spoken_text reply) old new × IfOk result (λ status. status ≡ spoken_status reply)

-- the first of two statuses that is not 0
abbrev pub first_of : ℕ → ℕ → ℕ
first_of zero next = next
first_of (suc status) next = suc status

-- what a closing after the last line writes: nothing for an empty seat, and nothing where it went well
abbrev pub closing_text : Reply → List ℕ
closing_text (replies.Closed lost) = []
closing_text other = reply_text other

abbrev pub closed_text : Option Reply → List ℕ
closed_text None = []
closed_text (Some reply) = closing_text reply

abbrev pub closed_status : Option Reply → ℕ
closed_status None = 0
closed_status (Some reply) = reply_status reply

-- A closing that failed was replied to, and this is its status.
abbrev pub SaysClosing : Result ℕ StreamFault → Option Reply → SinkState → SinkState → Type 0
SaysClosing result reply old new = Said result (closed_text reply) old new × IfOk result (λ status. status ≡ closed_status reply)

-- what comes last
abbrev pub end_text : List ℕ
end_text = ended (codes "end")
