-- What a session put out: the text of a run of its script, over the answers of the host and the random words.
use Rattle.std.specs.Prelude.{⊤, ◌≡◌, ◌≢◌, ◌⊎◌, ℕ, zero, suc, Bool, true, cond, List, [], ◌∷◌, ◌++◌, length, map, replicate, Option, Some, IfSome}
use Rattle.std.specs.List.{flat_map, fold}
use Rattle.node_tree.specs.Sheet.{Sheet}
use Rattle.pf_io.specs.Answered.{WereTold}
use Rattle.pf_io.specs.Counts.{counted}
use Rattle.pf_io.specs.Disk.{Name}
use Rattle.pf_io.specs.Host.{Answer, LengthWas, Gave, Both, IsMore}
use Rattle.pf_io.specs.Lines.{lines_of}
use Rattle.pf_io.specs.Streams.{TakesFront}
use Rattle.pf_script.specs.Replies.{reply_text}
use Rattle.pf_script.specs.Script.{ScriptState, Empty, seat_at}
use Rattle.pf_script.specs.ScriptLines.{IsScriptLine}
use Rattle.pf_script.specs.ScriptRuns.{Exchange, Follows}
use Rattle.pf_script.specs.Words.{SEATS}
use Rattle.pf_script.specs.declared.line.ScriptLine.{ScriptLine}
use Rattle.pf_script.specs.declared.line.ScriptLine.TheVariants as lines
use Rattle.pf_tool.specs.Happened.{IsTaken}
use Rattle.pf_tool.specs.Replying.{spoken_text, spoken_status, reply_status, first_of, closing_text, end_text}
use Rattle.pf_tool.specs.Reports.{WroteAll}
use Rattle.pf_tool.specs.World.{World}

-- bytes that are no line, or a line with what was seen in its step and its reply
pub data Item : Type 0 where
  NoLine : Item
  Said : (exchange : Exchange) → Item

-- the lines that were answered, the closings after them, and whether `end` followed
pub record Transcript : Type 0 where
  pub items : List Item
  pub closed : List Exchange
  pub ended : Bool

abbrev pub exchange_of : Item → List Exchange
exchange_of NoLine = []
exchange_of (Said exchange) = exchange ∷ []

abbrev pub exchanges_of : Transcript → List Exchange
exchanges_of transcript = flat_map exchange_of transcript.items ++ transcript.closed

abbrev pub item_text : Item → List ℕ
item_text NoLine = spoken_text Option.None
item_text (Said exchange) = reply_text exchange.reply

abbrev pub text_of : Transcript → List ℕ
text_of transcript = flat_map item_text transcript.items ++ flat_map (λ exchange. closing_text exchange.reply) transcript.closed ++ cond transcript.ended end_text []

-- the status of the first reply that is no `ok`, else 0
abbrev pub item_status : Item → ℕ
item_status NoLine = spoken_status Option.None
item_status (Said exchange) = reply_status exchange.reply

abbrev pub status_of : List ℕ → ℕ
status_of statuses = fold first_of 0 statuses

abbrev pub statuses_of : Transcript → List ℕ
statuses_of transcript = map item_status transcript.items ++ map (λ exchange. reply_status exchange.reply) transcript.closed

-- From the k-th on so many seats are closed in order, each that is not empty; as long as nothing is forged, each closing is a turn from the state that the one before left. In the end the
-- state has E.
abbrev pub ClosesSeats : ℕ → ℕ → ScriptState → List Exchange → (ScriptState → Type 0) → Type 0
ClosesSeats zero k state closed E = (closed ≡ []) × E state
ClosesSeats (suc more) k state closed E =
    ((seat_at state k ≡ Empty) × ClosesSeats more (suc k) state closed E)
    ⊎ ((exchange : Exchange) × (rest : List Exchange) × (closed ≡ exchange ∷ rest) × (seat_at state k ≢ Empty) × (exchange.line ≡ lines.Close k) × Follows state (exchange ∷ []) (λ left. ClosesSeats more (suc k) left rest E))

-- the first seats are closed, and all of them where `end` followed
pub record ClosesFirst (transcript : Transcript) (state : ScriptState) : Type 0 where
  pub count : ℕ
  pub all : transcript.ended ≡ true → count ≡ SEATS
  pub closes : ClosesSeats count 0 state transcript.closed (λ last. ⊤)

-- eight empty seats under a key, and the sheets that were sealed before the run
abbrev pub empty_seats : List ℕ → List Sheet → ScriptState
empty_seats user sealed = record { key = user; seats = replicate SEATS Empty; sealed = sealed }

-- The lines are a run of the script from empty seats, and the closings one from the state that they leave.
abbrev pub FollowsScript : ScriptState → Transcript → Type 0
FollowsScript state transcript = Follows state (flat_map exchange_of transcript.items) (ClosesFirst transcript)

-- these items answer these lines, one by one
abbrev pub AnswersBytes : List ℕ → Item → Type 0
AnswersBytes bytes NoLine = (line : ScriptLine) → ¬ (IsScriptLine bytes line)
AnswersBytes bytes (Said exchange) = IsScriptLine bytes exchange.line

abbrev pub AnswerEach : List (List ℕ) → List Item → Type 0
AnswerEach [] [] = ⊤
AnswerEach (bytes ∷ lines) (item ∷ items) = AnswersBytes bytes item × AnswerEach lines items
AnswerEach [] (item ∷ items) = ⊥
AnswerEach (bytes ∷ lines) [] = ⊥

-- The items answer the first lines of the input, and all of them before any closing and before `end`.
pub record AnswersFirst (transcript : Transcript) (input : List ℕ) : Type 0 where
  pub first : List (List ℕ)
  pub rest : List (List ℕ)
  pub whole : lines_of input ≡ first ++ rest
  pub each : AnswerEach first transcript.items
  pub all : (transcript.closed ≢ []) ⊎ (transcript.ended ≡ true) → rest ≡ []

-- a count of faults after these flags
abbrev pub counts_after : List Bool → ℕ → ℕ
counts_after [] count = count
counts_after (flag ∷ flags) count = counts_after flags (cond flag (counted count) count)

-- What was seen in a run until a moment: the answers of the host, the random words where they are told, and which counts rose.
pub record SeenIn (exchanges : List Exchange) (given : List Answer) (old until : World) : Type 0 where
  pub answers : given ≡ flat_map (λ exchange. exchange.seen.given) exchanges
  pub words : Both old.random.left until.random.left (IsTaken (flat_map (λ exchange. exchange.seen.words) exchanges))
  pub host_counts : until.host.faults ≡ counts_after (map (λ exchange. exchange.seen.host_failed) exchanges) old.host.faults
  pub words_counts : until.random.faults ≡ counts_after (map (λ exchange. exchange.seen.words_failed) exchanges) old.random.faults

-- there was no memory, which the log was told or failed to be told
abbrev pub IsStarved : World → World → ℕ → Type 0
IsStarved old new status = (status ≡ 5) ⊎ ((status ≡ 7) × (new.log.faults ≡ counted old.log.faults))

-- What the output took: the text of the run, with the status that its replies give; or where the run was cut off, a front of it.
pub data PutOut (transcript : Transcript) (old new : World) (status : ℕ) : Type 0 where
  whole : transcript.ended ≡ true → WroteAll (text_of transcript) old.out new.out → new.log ≡ old.log → status ≡ status_of (statuses_of transcript) → PutOut transcript old new status
  cut_off : (status ≡ 5) ⊎ (status ≡ 7) → Both old.out.bytes new.out.bytes (TakesFront (text_of transcript)) → PutOut transcript old new status

-- Of a run whose key was given: what was answered follows the script for every list of sheets that were sealed before it. Until the last reply these answers were seen; where
-- there was no memory for a step, more came in it.
pub record TookTranscript (user : List ℕ) (behind : List Answer) (transcript : Transcript) (old new : World) (status : ℕ) : Type 0 where
  pub follows : (sealed : List Sheet) → FollowsScript (empty_seats user sealed) transcript
  pub until : World
  pub given : List Answer
  pub more : List Answer
  pub seen : SeenIn (exchanges_of transcript) given old until
  pub in_order : behind ≡ given ++ more
  pub to_the_end : ((more ≡ []) × (until.host ≡ new.host) × (until.random ≡ new.random)) ⊎ IsStarved old new status
  pub lines : IfSome old.input.left (AnswersFirst transcript)
  pub input_read : transcript.ended ≡ true → IfSome new.input.left (λ left. left ≡ [])
  pub put : PutOut transcript old new status

-- the host gave the key, and then these answers
abbrev pub key_and : Name → List ℕ → List Answer → List Answer
key_and key user behind = LengthWas key (Some 16) ∷ Gave key 0 16 user ∷ behind

-- What a run whose key was given saw: the key, then what was seen in these exchanges; and where there was no memory for a step, what came in it.
pub record SeenUntil (key : Name) (user : List ℕ) (exchanges : List Exchange) (old new : World) (status : ℕ) : Type 0 where
  pub until : World
  pub given : List Answer
  pub more : List Answer
  pub seen : SeenIn exchanges given old until
  pub told : Both old.host.given new.host.given (IsMore (key_and key user (given ++ more)))
  pub host_still : until.host.faults ≡ new.host.faults
  pub words_still : until.random.faults ≡ new.random.faults
  pub to_the_end : ((more ≡ []) × (until.host ≡ new.host) × (until.random ≡ new.random)) ⊎ IsStarved old new status

abbrev pub TookScript : Name → World → World → ℕ → Type 0
TookScript key old new status = (user : List ℕ) (behind : List Answer) → length user ≡ 16 → WereTold (key_and key user behind) old.host new.host → (transcript : Transcript) × TookTranscript user behind transcript old new status
