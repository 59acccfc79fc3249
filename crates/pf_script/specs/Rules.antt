-- The rules by which a line is refused, in their order.
use Rattle.std.specs.Prelude.{◌≡◌, ◌≢◌, ◌⊎◌, ℕ, ◌+◌, ◌<◌, Bool, true, List, [], ◌∷◌, ◌++◌, length, take, Contains, Some, None}
use Rattle.node_layout.specs.Faults.{IsPlainFault}
use Rattle.node_layout.specs.Metadata.{magic, flag_at}
use Rattle.node_layout.specs.Opening.{OpensTo}
use Rattle.node_layout.specs.declared.metadata.MetaSecret.{MetaSecret}
use Rattle.node_layout.specs.declared.metadata.PlainFault.TheVariants.{BadVersion as OtherVersion}
use Rattle.pf_io.specs.Disk.{Name}
use Rattle.pf_io.specs.Host.{Answer, LengthWas}
use Rattle.pf_io.specs.Names.{IsTarget}
use Rattle.pf_session.specs.Carries.{IsLast}
use Rattle.pf_script.specs.Script.{Seat, Empty, Own}
use Rattle.pf_script.specs.SeatSteps.{PIECE, LARGEST}
use Rattle.pf_script.specs.declared.line.ScriptLine.{ScriptLine}
use Rattle.pf_script.specs.declared.line.ScriptLine.TheVariants as lines
use Rattle.pf_script.specs.declared.reply.Why.{Why}
use Rattle.pf_script.specs.declared.reply.Why.TheVariants as whys

-- a rule: the refusals that it gives
abbrev pub Rule : Type 1
Rule = Why → Type 0

-- the refusal is that of the first of these rules that gives one
abbrev pub IsFirst : List Rule → Why → Type 0
IsFirst [] why = ⊥
IsFirst (rule ∷ rules) why = rule why ⊎ (((other : Why) → ¬ (rule other)) × IsFirst rules why)

-- none of these rules refuses
abbrev pub NoneRefuses : List Rule → Type 0
NoneRefuses [] = Unit {0}
NoneRefuses (rule ∷ rules) = ((why : Why) → ¬ (rule why)) × NoneRefuses rules

-- this refusal, where P holds
abbrev pub refuses : Why → Type 0 → Rule
refuses this P why = (why ≡ this) × P

abbrev pub IsBroken : Seat → Type 0
IsBroken Empty = ⊥
IsBroken (Own own) = own.broken ≡ true

-- the seat has a content of this size
abbrev pub HasContent : Seat → ℕ → Type 0
HasContent Empty size = ⊥
HasContent (Own own) size = size ≡ length own.content

-- a place behind the content's end
abbrev pub passes_end : Seat → ℕ → Rule
passes_end seat at why = (size : ℕ) × HasContent seat size × (size < at) × (why ≡ whys.PastEnd size)

-- the last block of node 0 that was given is whole and says another version than 1.0; and it opens, and has another path than the name
abbrev pub other_version : Name → List Answer → Rule
other_version name given why = (block : List ℕ) × (major : ℕ) × (minor : ℕ) × IsLast name given block × (length block ≡ 4096) × (flag_at block ≡ 0) × IsPlainFault block (OtherVersion major minor) × (why ≡ whys.BadVersion major minor)

abbrev pub other_path : List ℕ → Name → List Answer → Rule
other_path key name given why = (block : List ℕ) × (secret : MetaSecret) × IsLast name given block × (length block ≡ 4096) × OpensTo key block secret × (name ≢ secret.path) × (why ≡ whys.WrongPath secret.path)

-- the rules of an opening
abbrev pub opening_rules : List ℕ → Name → List Answer → List Rule
opening_rules key name given =
    refuses whys.BadName (¬ (IsTarget name))
    ∷ refuses (whys.NotFound name) (Contains given (LengthWas name None))
    ∷ refuses whys.NotProtected ((block : List ℕ) × IsLast name given block × (take 8 block ≢ magic))
    ∷ refuses whys.Unbuilt ((block : List ℕ) × IsLast name given block × (length block ≡ 4096) × (flag_at block ≢ 0))
    ∷ other_version name given
    ∷ other_path key name given
    ∷ []

-- those of a new file on a seat; `taken` says whether another seat has the name
abbrev pub seating_rules : Bool → Seat → List Rule
seating_rules taken seat = refuses whys.SeatBusy (seat ≢ Empty) ∷ refuses whys.NameBusy (taken ≡ true) ∷ []

-- those of every line that needs a file
abbrev pub seated_rules : Seat → List Rule
seated_rules seat = refuses whys.SeatEmpty (seat ≡ Empty) ∷ refuses whys.Broken (IsBroken seat) ∷ []

-- those of a write of so many bytes
abbrev pub writing_rules : Seat → ℕ → ℕ → List Rule
writing_rules seat at count = refuses whys.TooLong (PIECE < count) ∷ refuses whys.TooLarge (LARGEST < at + count) ∷ passes_end seat at ∷ []

abbrev pub rules : List ℕ → Bool → Seat → ScriptLine → List Answer → List Rule
rules key taken seat lines.Blank given = []
rules key taken seat (lines.Create k name) given =
    seating_rules taken seat ++ refuses whys.BadName (¬ (IsTarget name)) ∷ refuses (whys.Exists name) ((size : ℕ) × Contains given (LengthWas name (Some size))) ∷ []
rules key taken seat (lines.Open k name) given = seating_rules taken seat ++ opening_rules key name given
rules key taken seat (lines.View k path) given = refuses whys.SeatBusy (seat ≢ Empty) ∷ refuses whys.NoManifest (Unit {0}) ∷ []
rules key taken seat (lines.Read k at count) given = seated_rules seat ++ refuses whys.TooLong (PIECE < count) ∷ []
rules key taken seat (lines.Write k at bytes) given = seated_rules seat ++ writing_rules seat at (length bytes)
rules key taken seat (lines.Fill k at count byte) given = seated_rules seat ++ writing_rules seat at count
rules key taken seat (lines.Size k size) given = seated_rules seat ++ refuses whys.TooLarge (LARGEST < size) ∷ []
rules key taken seat (lines.Flush k) given = seated_rules seat
rules key taken seat (lines.Move k name) given =
    seated_rules seat
    ++ refuses whys.NameBusy (taken ≡ true)
    ∷ refuses whys.BadName (¬ (IsTarget name))
    ∷ refuses whys.TargetExists ((size : ℕ) × (others : List Answer) × (given ≡ LengthWas name (Some size) ∷ others))
    ∷ []
rules key taken seat (lines.Draw k) given = seated_rules seat
rules key taken seat (lines.Close k) given = refuses whys.SeatEmpty (seat ≡ Empty) ∷ []
