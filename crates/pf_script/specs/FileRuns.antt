-- A run of a script over files in which nothing fails.
use Rattle.std.specs.Prelude.{◌≡◌, ℕ, List, [], ◌∷◌, ◌++◌, length, map}
use Rattle.std.specs.List.{flat_map}
use Rattle.node_tree.specs.Sheet.{Sheet}
use Rattle.pf_io.specs.Disk.{Name, Files}
use Rattle.pf_io.specs.Names.{IsTarget, recovery_of}
use Rattle.pf_session.specs.Reopening.{Reopens}
use Rattle.pf_script.specs.BookActs.{Act}
use Rattle.pf_script.specs.FileTurns.{TurnOver, ReopensOpened}
use Rattle.pf_script.specs.Script.{OwnSeat, Seat, Empty, Own, ScriptState, seat_at}
use Rattle.pf_script.specs.ScriptRuns.{Exchange}

-- Each exchange is the turn that the files then give, from the state and the files that the one before left.
abbrev pub RunsOver : ScriptState → List Exchange → Files → ScriptState → Files → Type 0
RunsOver state [] files after new = (after ≡ state) × (new ≡ files)
RunsOver state (exchange ∷ exchanges) files after new =
    (acts : List Act) × (mid : ScriptState) × (between : Files) × TurnOver state exchange.line exchange.seen.words exchange.reply acts mid files between × RunsOver mid exchanges between after new

-- So it is as long as each file that is opened reopens under the key. In the end state and files have E.
abbrev pub FollowsOver : ScriptState → List Exchange → Files → (ScriptState → Files → Type 0) → Type 0
FollowsOver state [] files E = E state files
FollowsOver state (exchange ∷ exchanges) files E =
    ReopensOpened state.key files exchange.line exchange.reply
    → (acts : List Act) × (after : ScriptState) × (next : Files) × TurnOver state exchange.line exchange.seen.words exchange.reply acts after files next × FollowsOver after exchanges next E

-- the words that some exchanges took are the first of these
pub record TakesWords (exchanges : List Exchange) (words : List (List ℕ)) : Type 0 where
  pub left : List (List ℕ)
  pub in_order : words ≡ flat_map (λ exchange. exchange.seen.words) exchanges ++ left

-- Both have the same bytes at the name, or both reopen under the key as one content, with the name as path.
pub data AreAlike (key : List ℕ) (name : Name) (files others : Files) : Type 0 where
  in_bytes : files name ≡ others name → AreAlike key name files others
  in_content : (content : List ℕ) → Reopens key name content (files name) (files (recovery_of name)) → Reopens key name content (others name) (others (recovery_of name)) → AreAlike key name files others

-- both are empty, or they differ in their sheets alone
pub data SameButSheet : Seat → Seat → Type 0 where
  no_file : SameButSheet Empty Empty
  other_sheet : (own : OwnSeat) (sheet : Sheet) → SameButSheet (Own own) (Own (record own { sheet = sheet }))

-- Two runs have the same replies and take the same words; their seats are then the same but for the sheets, and their protected files alike.
pub record RunsAgree (key : List ℕ) (exchanges those : List Exchange) (after other : ScriptState) (new others : Files) : Type 0 where
  pub replies : map (λ exchange. exchange.reply) exchanges ≡ map (λ exchange. exchange.reply) those
  pub words : map (λ exchange. exchange.seen.words) exchanges ≡ map (λ exchange. exchange.seen.words) those
  pub seats : (k : ℕ) → SameButSheet (seat_at after k) (seat_at other k)
  pub files : (name : Name) → IsTarget name → AreAlike key name new others

-- Files, lines and words have one run from empty seats.
abbrev pub OneRun : Type 0
OneRun =
    (state after other : ScriptState) (files new others : Files) (words : List (List ℕ)) (exchanges those : List Exchange) → length state.key ≡ 16 → ((k : ℕ) → seat_at state k ≡ Empty)
    → map (λ exchange. exchange.line) exchanges ≡ map (λ exchange. exchange.line) those → TakesWords exchanges words → TakesWords those words → RunsOver state exchanges files after new → RunsOver state those files other others
    → RunsAgree state.key exchanges those after other new others
