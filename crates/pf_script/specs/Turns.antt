-- The turns of a script: what a line may be answered, and what it leaves, by cases on the reply.
use Rattle.std.specs.Prelude.{◌≡◌, ◌⊎◌, ◌↔◌, IsTrue, ℕ, ◌<◌, Bool, true, false, List, [], ◌∷◌, ◌++◌, length, take, drop, Contains, Option, Some, None, IfSome}
use Rattle.node_layout.specs.Opening.{IsOpenFault}
use Rattle.node_layout.specs.declared.damage.Damage.{Damage}
use Rattle.node_layout.specs.declared.damage.Kind.{Kind}
use Rattle.node_layout.specs.declared.damage.Kind.TheVariants as kinds
use Rattle.node_tree.specs.Applying.{Step}
use Rattle.node_tree.specs.Opened.{Given}
use Rattle.node_tree.specs.Reading.{IsForeign}
use Rattle.node_tree.specs.Sheet.{Sheet}
use Rattle.node_tree.specs.Unforged.{Carries}
use Rattle.pf_io.specs.Disk.{Name}
use Rattle.pf_io.specs.Host.{Answer, LengthWas, Swapped}
use Rattle.pf_io.specs.Names.{side_of}
use Rattle.pf_session.specs.Carries.{IsLast, IsFirst as IsFirstSheet}
use Rattle.pf_script.specs.BookActs.{Opening, Creation, Flush, Move, Act}
use Rattle.pf_script.specs.BookDebts.{seat_of}
use Rattle.pf_script.specs.Rules.{IsFirst, NoneRefuses, rules}
use Rattle.pf_script.specs.Script.{OwnSeat, Seat, Empty, Own, ScriptState, seat_at, IsTaken, state_with, seat_of_line, name_of_line}
use Rattle.pf_script.specs.SeatSteps.{FlushesFirst, Fits, Seals, resealed, SealsEmpty, SealsMoved, renamed, broken_seat, MakesAll, AsksFor, MadeSome, words_of_flush, words_of_move}
use Rattle.pf_script.specs.declared.line.ScriptLine.{ScriptLine}
use Rattle.pf_script.specs.declared.line.ScriptLine.TheVariants as lines
use Rattle.pf_script.specs.declared.reply.Reply.{Reply}
use Rattle.pf_script.specs.declared.reply.Reply.TheVariants as replies
use Rattle.pf_script.specs.declared.reply.Why.{Why}

-- What was seen in a step: the host's answers, the random words that were taken, and whose count of faults rose.
pub record Seen : Type 0 where
  pub given : List Answer
  pub words : List (List ℕ)
  pub host_failed : Bool
  pub words_failed : Bool

-- which counts rose
pub record Failed (seen : Seen) (of_host of_words : Bool) : Type 0 where
  pub host : seen.host_failed ≡ of_host
  pub random : seen.words_failed ≡ of_words

-- what an opening may stand on: a sheet, by the name and the answers of the step
abbrev pub Standing : Type 1
Standing = Name → List Answer → Sheet → Type 0

-- On any host it is the first of the sealed sheets whose nonce and metadata are in the last block of node 0 that was given.
abbrev pub on_carried : List ℕ → List Sheet → Standing
on_carried key sealed name given sheet = (block : List ℕ) × IsLast name given block × IsFirstSheet (Carries key block) sealed sheet

-- the first answer was that no file has the name
abbrev pub WasAbsent : Name → List Answer → Type 0
WasAbsent name given = (rest : List Answer) × (given ≡ LengthWas name None ∷ rest)

-- the seat of a file that was opened or created
abbrev pub new_seat : List ℕ → Name → Sheet → OwnSeat
new_seat key name sheet = record { key = key; name = name; sheet = sheet; content = sheet.content; dirty = []; changed = false; drawn = None; broken = false }

-- flushes that were accepted
abbrev pub flushes : OwnSeat → List Sheet → List Act
flushes own [] = []
flushes own (sheet ∷ sheets) = record { deed = Flush (seat_of own.key own.name sheet); done = true } ∷ flushes own sheets

-- the flush before a move, where there were changes: its words and its sheet, and the seat after it
pub data FlushedToMove (own : OwnSeat) : List (List ℕ) → List Sheet → OwnSeat → Type 0 where
  as_it_was : own.changed ≡ false → FlushedToMove own [] [] own
  was_changed : (words : List (List ℕ)) (sheet : Sheet) → own.changed ≡ true → Seals own words sheet → FlushedToMove own words (sheet ∷ []) (resealed own sheet)

-- the reply to a change that sealed these sheets before its steps: a write says whether there was one
abbrev pub some_sheet : List Sheet → Bool
some_sheet [] = false
some_sheet (sheet ∷ sheets) = true

pub data IsChangeReply (sheets : List Sheet) : ScriptLine → Reply → Type 0 where
  to_write : (k at : ℕ) (bytes : List ℕ) → IsChangeReply sheets (lines.Write k at bytes) (replies.Written (length bytes) (some_sheet sheets))
  to_fill : (k at count byte : ℕ) → IsChangeReply sheets (lines.Fill k at count byte) (replies.Written count (some_sheet sheets))
  to_size : (k n : ℕ) → IsChangeReply sheets (lines.Size k n) (replies.Sized n)

-- What an accepted line comes to on its seat: the reply, what was done to names, and the seat after it.
pub data Accepts (standing : Standing) (key : List ℕ) (seen : Seen) : Seat → ScriptLine → Reply → List Act → Seat → Type 0 where
  created : (k : ℕ) (name : Name) (sheet : Sheet) → WasAbsent name seen.given → SealsEmpty name seen.words sheet
      → Accepts standing key seen Empty (lines.Create k name) replies.Created (record { deed = Creation (seat_of key name sheet); done = true } ∷ []) (Own (new_seat key name sheet))
  opened : (k : ℕ) (name : Name) (sheet : Sheet) → standing name seen.given sheet → sheet.path ≡ name → seen.words ≡ []
      → Accepts standing key seen Empty (lines.Open k name) (replies.Opened (length sheet.content)) (record { deed = Opening (seat_of key name sheet); done = true } ∷ []) (Own (new_seat key name sheet))
  read : (k at count : ℕ) (own : OwnSeat) → seen.words ≡ [] → Accepts standing key seen (Own own) (lines.Read k at count) (replies.Given (take count (drop at own.content))) [] (Own own)
  changed : (own after : OwnSeat) (line : ScriptLine) (reply : Reply) (steps : List Step) (sheets : List Sheet) → AsksFor line (length own.content) steps → MakesAll own steps seen.words sheets after → IsChangeReply sheets line reply
      → Accepts standing key seen (Own own) line reply (flushes own sheets) (Own after)
  flushed : (k : ℕ) (own : OwnSeat) (sheet : Sheet) → Seals own seen.words sheet → Accepts standing key seen (Own own) (lines.Flush k) replies.Flushed (flushes own (sheet ∷ [])) (Own (resealed own sheet))
  moved : (k : ℕ) (name : Name) (own mid : OwnSeat) (words more : List (List ℕ)) (sheets : List Sheet) (sheet : Sheet) → WasAbsent name seen.given → FlushedToMove own words sheets mid → SealsMoved mid name more sheet → seen.words ≡ words ++ more
      → Accepts standing key seen (Own own) (lines.Move k name) replies.Moved (flushes own sheets ++ record { deed = Move own.name (seat_of own.key name sheet); done = true } ∷ []) (Own (renamed mid name sheet))
  drawn_again : (k : ℕ) (own : OwnSeat) (nonce : List ℕ) → own.drawn ≡ Some nonce → seen.words ≡ [] → Accepts standing key seen (Own own) (lines.Draw k) (replies.Drawn nonce) [] (Own own)
  drawn_now : (k : ℕ) (own : OwnSeat) (first second : List ℕ) → own.drawn ≡ None → seen.words ≡ first ∷ second ∷ []
      → Accepts standing key seen (Own own) (lines.Draw k) (replies.Drawn (first ++ second)) [] (Own (record own { drawn = Some (first ++ second) }))
  let_go : (k : ℕ) (own : OwnSeat) → (own.changed ≡ false) ⊎ (own.broken ≡ true) → seen.words ≡ [] → Accepts standing key seen (Own own) (lines.Close k) (replies.Closed own.broken) [] Empty
  flushed_last : (k : ℕ) (own : OwnSeat) (sheet : Sheet) → own.changed ≡ true → own.broken ≡ false → Seals own seen.words sheet
      → Accepts standing key seen (Own own) (lines.Close k) (replies.Closed false) (flushes own (sheet ∷ [])) Empty

-- what a line failed by: a call of the host, or a node that is damaged
pub data Blame : Type 0 where
  ByHost : Blame
  ByDamage : (damage : Damage) → Blame

-- fewer bytes of a node than a block were given in this step
pub record IsShort (name : Name) (given : List Answer) (damage : Damage) : Type 0 where
  pub block : List ℕ
  pub gave : Given name given damage.node block
  pub short : length block < 4096
  pub kind_is : damage.kind ≡ kinds.Short

-- a block that was given in this step is not the seal of that node in the sheet
pub record IsOther (sheet : Sheet) (name : Name) (given : List Answer) (damage : Damage) : Type 0 where
  pub foreign : IsForeign sheet (Given name given) damage.node
  pub kind_is : damage.kind ≡ kinds.Tag

-- the last block of node 0 that was given is short, or whole and does not open
pub data IsOpeningDamage (key : List ℕ) (name : Name) (given : List Answer) (damage : Damage) : Type 0 where
  short_zero : (block : List ℕ) → IsLast name given block → length block < 4096 → damage ≡ record { node = 0; kind = kinds.Short } → IsOpeningDamage key name given damage
  closed_zero : (block : List ℕ) (kind : Kind) → IsLast name given block → length block ≡ 4096 → IsOpenFault key block kind → damage ≡ record { node = 0; kind = kind } → IsOpeningDamage key name given damage

-- why an opening, a flush, and a fetch of nodes may fail
abbrev pub BlamesOpening : List ℕ → Name → List Answer → Blame → Type 0
BlamesOpening key name given ByHost = Unit {0}
BlamesOpening key name given (ByDamage damage) = IsOpeningDamage key name given damage

abbrev pub BlamesFlush : Name → List Answer → Blame → Type 0
BlamesFlush name given ByHost = Unit {0}
BlamesFlush name given (ByDamage damage) = IsShort name given damage

abbrev pub BlamesFetch : Sheet → Name → List Answer → Blame → Type 0
BlamesFetch sheet name given ByHost = Unit {0}
BlamesFetch sheet name given (ByDamage damage) = IsShort name given damage ⊎ IsOther sheet name given damage

-- The seat after a line that sealed it and failed there: it is broken, and after a closing empty.
pub data IsSealLine (own : OwnSeat) : ScriptLine → Seat → Type 0 where
  of_flush : (k : ℕ) → IsSealLine own (lines.Flush k) (Own (broken_seat own))
  of_close : (k : ℕ) → own.changed ≡ true → own.broken ≡ false → IsSealLine own (lines.Close k) Empty

-- A line that failed at the host or by a damage: what had been sealed by then, and how far a flush in progress had come. A seat that failed in a change is broken.
pub data Fails (key : List ℕ) (seen : Seen) : Blame → Seat → ScriptLine → List Act → Seat → Type 0 where
  not_asked : (k : ℕ) (name : Name) → seen.given ≡ [] → seen.words ≡ [] → Fails key seen ByHost Empty (lines.Create k name) [] Empty
  not_created : (k : ℕ) (name : Name) (sheet : Sheet) → WasAbsent name seen.given → SealsEmpty name seen.words sheet
      → Fails key seen ByHost Empty (lines.Create k name) (record { deed = Creation (seat_of key name sheet); done = false } ∷ []) Empty
  not_opened : (k : ℕ) (name : Name) (blame : Blame) → seen.words ≡ [] → BlamesOpening key name seen.given blame → Fails key seen blame Empty (lines.Open k name) [] Empty
  not_read : (k at count : ℕ) (own : OwnSeat) (blame : Blame) → seen.words ≡ [] → BlamesFetch own.sheet own.name seen.given blame → Fails key seen blame (Own own) (lines.Read k at count) [] (Own own)
  -- in the nodes of a step that fits
  not_fetched : (own mid : OwnSeat) (line : ScriptLine) (next : Step) (sheets : List Sheet) (blame : Blame) → MadeSome line own next seen.words sheets mid → Fits (length mid.content) mid.dirty next
      → BlamesFetch mid.sheet own.name seen.given blame → Fails key seen blame (Own own) line (flushes own sheets) (Own (broken_seat mid))
  -- in the nodes of a step, after the flush before it
  not_fetched_after : (own mid : OwnSeat) (line : ScriptLine) (next : Step) (words more : List (List ℕ)) (sheets : List Sheet) (sheet : Sheet) (blame : Blame) → MadeSome line own next words sheets mid
      → FlushesFirst (length mid.content) mid.dirty next → Seals mid more sheet → seen.words ≡ words ++ more → BlamesFetch sheet own.name seen.given blame
      → Fails key seen blame (Own own) line (flushes own (sheets ++ sheet ∷ [])) (Own (broken_seat (resealed mid sheet)))
  -- in the flush before a step
  not_flushed_before : (own mid : OwnSeat) (line : ScriptLine) (next : Step) (words more : List (List ℕ)) (sheets : List Sheet) (sheet : Sheet) (blame : Blame) → MadeSome line own next words sheets mid
      → FlushesFirst (length mid.content) mid.dirty next → Seals mid more sheet → seen.words ≡ words ++ more → BlamesFlush own.name seen.given blame
      → Fails key seen blame (Own own) line (flushes own sheets ++ record { deed = Flush (seat_of own.key own.name sheet); done = false } ∷ []) (Own (broken_seat mid))
  -- in the flush of `flush` or `close`
  not_sealed : (own : OwnSeat) (line : ScriptLine) (sheet : Sheet) (blame : Blame) (after : Seat) → Seals own seen.words sheet → BlamesFlush own.name seen.given blame → IsSealLine own line after
      → Fails key seen blame (Own own) line (record { deed = Flush (seat_of own.key own.name sheet); done = false } ∷ []) after
  -- before a move had its words; in its flush, for which it had all its words; in the move itself
  not_looked_up : (k : ℕ) (name : Name) (own : OwnSeat) → seen.given ≡ [] → seen.words ≡ [] → Fails key seen ByHost (Own own) (lines.Move k name) [] (Own own)
  not_flushed_to_move : (k : ℕ) (name : Name) (own : OwnSeat) (words : List (List ℕ)) (sheet : Sheet) (first second : List ℕ) (blame : Blame) → WasAbsent name seen.given → own.changed ≡ true → Seals own words sheet → seen.words ≡ words ++ first ∷ second ∷ []
      → BlamesFlush own.name seen.given blame → Fails key seen blame (Own own) (lines.Move k name) (record { deed = Flush (seat_of own.key own.name sheet); done = false } ∷ []) (Own (broken_seat own))
  not_moved : (k : ℕ) (name : Name) (own mid : OwnSeat) (words more : List (List ℕ)) (sheets : List Sheet) (sheet : Sheet) (blame : Blame) → WasAbsent name seen.given → FlushedToMove own words sheets mid → SealsMoved mid name more sheet → seen.words ≡ words ++ more
      → BlamesFlush own.name seen.given blame
      → Fails key seen blame (Own own) (lines.Move k name) (flushes own sheets ++ record { deed = Move own.name (seat_of own.key name sheet); done = false } ∷ []) (Own (broken_seat mid))

-- A line for which a random word was wanting: fewer came than it takes, and those are lost. Steps that a `size` line had made stand, and `close` leaves the seat empty.
pub data Loses (key : List ℕ) (seen : Seen) : Seat → ScriptLine → List Act → Seat → Type 0 where
  no_creation : (k : ℕ) (name : Name) → WasAbsent name seen.given → length seen.words < 2 → Loses key seen Empty (lines.Create k name) [] Empty
  no_flush : (k : ℕ) (own : OwnSeat) → length seen.words < words_of_flush own → Loses key seen (Own own) (lines.Flush k) [] (Own own)
  no_move : (k : ℕ) (name : Name) (own : OwnSeat) → WasAbsent name seen.given → length seen.words < words_of_move own → Loses key seen (Own own) (lines.Move k name) [] (Own own)
  no_nonce : (k : ℕ) (own : OwnSeat) → own.drawn ≡ None → length seen.words < 2 → Loses key seen (Own own) (lines.Draw k) [] (Own own)
  no_last_flush : (k : ℕ) (own : OwnSeat) → own.changed ≡ true → own.broken ≡ false → length seen.words < words_of_flush own → Loses key seen (Own own) (lines.Close k) [] Empty
  no_flush_before : (own mid : OwnSeat) (line : ScriptLine) (next : Step) (words lost : List (List ℕ)) (sheets : List Sheet) → MadeSome line own next words sheets mid → FlushesFirst (length mid.content) mid.dirty next
      → seen.words ≡ words ++ lost → length lost < words_of_flush mid → Loses key seen (Own own) line (flushes own sheets) (Own mid)

-- What a line may be answered on its seat, with what was done to names and the seat after it. `taken` says whether another seat has the name that the line gives. Where it is no refusal, no rule refuses by
-- what the host answered, in a fault of the host by what it answered until then.
pub data SeatTurn (standing : Standing) (key : List ℕ) (taken : Bool) (seat : Seat) (line : ScriptLine) (seen : Seen) (reply : Reply) (acts : List Act) (after : Seat) : Type 0 where
  refused : (why : Why) → IsFirst (rules key taken seat line seen.given) why → Failed seen false false → seen.words ≡ [] → reply ≡ replies.Refused why → acts ≡ [] → after ≡ seat
      → SeatTurn standing key taken seat line seen reply acts after
  accepted : NoneRefuses (rules key taken seat line seen.given) → Failed seen false false → Accepts standing key seen seat line reply acts after → SeatTurn standing key taken seat line seen reply acts after
  host_failed : NoneRefuses (rules key taken seat line seen.given) → Failed seen true false → Fails key seen ByHost seat line acts after → reply ≡ replies.HostFault → SeatTurn standing key taken seat line seen reply acts after
  was_damaged : (damage : Damage) → NoneRefuses (rules key taken seat line seen.given) → Failed seen false false → Fails key seen (ByDamage damage) seat line acts after → reply ≡ replies.DamagedNode damage → SeatTurn standing key taken seat line seen reply acts after
  words_failed : NoneRefuses (rules key taken seat line seen.given) → Failed seen false true → Loses key seen seat line acts after → reply ≡ replies.WordsFault → SeatTurn standing key taken seat line seen reply acts after

-- whether another seat has the name that a line gives
abbrev pub SaysTaken : ScriptState → ℕ → Option Name → Bool → Type 0
SaysTaken state k given taken = IfSome given (λ name. IsTrue taken ↔ IsTaken state k name)

-- The turn of a line: nothing for a blank one, and else what its seat comes to. All other seats stay, and the sheets that were sealed are added.
pub data Turn (standing : Standing) (state : ScriptState) (line : ScriptLine) (seen : Seen) (reply : Reply) (acts : List Act) (after : ScriptState) : Type 0 where
  silent : line ≡ lines.Blank → seen ≡ record { given = []; words = []; host_failed = false; words_failed = false } → reply ≡ replies.None → acts ≡ [] → after ≡ state → Turn standing state line seen reply acts after
  on_seat : (k : ℕ) (taken : Bool) (seat : Seat) → seat_of_line line ≡ Some k → SaysTaken state k (name_of_line line) taken → SeatTurn standing state.key taken (seat_at state k) line seen reply acts seat
      → after ≡ state_with state k seat acts → Turn standing state line seen reply acts after

-- a whole block of the node was given in this step, which is told not to open
pub record IsClosed (name : Name) (given : List Answer) (damage : Damage) : Type 0 where
  pub block : List ℕ
  pub gave : Given name given damage.node block
  pub whole : length block ≡ 4096
  pub kind_is : damage.kind ≡ kinds.Tag

-- where the damages come from that a flush meets, and a fetch of nodes
abbrev pub FlushDamage : Seat → List Answer → Damage → Type 0
FlushDamage Empty given damage = ⊥
FlushDamage (Own own) given damage = IsShort own.name given damage

abbrev pub FetchDamage : Seat → List Answer → Damage → Type 0
FetchDamage Empty given damage = ⊥
FetchDamage (Own own) given damage = IsShort own.name given damage ⊎ IsClosed own.name given damage

-- so by the line
abbrev pub DamageComes : List ℕ → Seat → ScriptLine → List Answer → Damage → Type 0
DamageComes key seat lines.Blank given damage = ⊥
DamageComes key seat (lines.Create k name) given damage = ⊥
DamageComes key seat (lines.Open k name) given damage = IsOpeningDamage key name given damage
DamageComes key seat (lines.View k path) given damage = ⊥
DamageComes key seat (lines.Read k at count) given damage = FetchDamage seat given damage
DamageComes key seat (lines.Write k at bytes) given damage = FetchDamage seat given damage
DamageComes key seat (lines.Fill k at count byte) given damage = FetchDamage seat given damage
DamageComes key seat (lines.Size k size) given damage = FetchDamage seat given damage
DamageComes key seat (lines.Flush k) given damage = FlushDamage seat given damage
DamageComes key seat (lines.Move k name) given damage = FlushDamage seat given damage
DamageComes key seat (lines.Draw k) given damage = ⊥
DamageComes key seat (lines.Close k) given damage = FlushDamage seat given damage

-- the version that a closing sealed has taken the name, where there was something to seal
abbrev pub TookItsName : Seat → List Answer → Type 0
TookItsName Empty given = ⊥
TookItsName (Own own) given = own.broken ≡ false → own.changed ≡ true → Contains given (Swapped (side_of own.name) own.name)

-- the line gives a name, which was told to be absent
abbrev pub FoundFree : ScriptLine → List Answer → Type 0
FoundFree line given = (name : Name) × (name_of_line line ≡ Some name) × WasAbsent name given

-- The cause of a reply by the seat, the line and the answers, also where something is forged: a refusal is that of the first rule that refuses, and behind any other reply none refuses.
-- A damage comes of a node, a new name was told to be absent, and a closing is accepted once its version has the name.
abbrev pub Caused : List ℕ → Bool → Seat → ScriptLine → List Answer → Reply → Type 0
Caused key taken seat line given (replies.Refused why) = IsFirst (rules key taken seat line given) why
Caused key taken seat line given (replies.DamagedNode damage) = NoneRefuses (rules key taken seat line given) × DamageComes key seat line given damage
Caused key taken seat line given replies.Created = NoneRefuses (rules key taken seat line given) × FoundFree line given
Caused key taken seat line given replies.Moved = NoneRefuses (rules key taken seat line given) × FoundFree line given
Caused key taken seat line given (replies.Closed lost) = NoneRefuses (rules key taken seat line given) × TookItsName seat given
Caused key taken seat line given other = NoneRefuses (rules key taken seat line given)

-- so for a line of a script; a blank one has no reply
abbrev pub CausedIn : ScriptState → ScriptLine → List Answer → Reply → Type 0
CausedIn state line given reply =
    ((line ≡ lines.Blank) × (reply ≡ replies.None))
    ⊎ ((k : ℕ) × (taken : Bool) × (seat_of_line line ≡ Some k) × SaysTaken state k (name_of_line line) taken × Caused state.key taken (seat_at state k) line given reply)
