-- What `encrypt -w KEY -i IN -o OUT` comes to: the key is read, IN is looked for, and then it is sealed by a session.
use Rattle.std.specs.Prelude.{◌≡◌, ◌≢◌, ◌⊎◌, ℕ, ◌<◌, ◌≤◌, List, [], ◌∷◌, ◌++◌, length, take, Option, Some, None, Result, Ok, Err}
use Rattle.node_layout.specs.Metadata.{MOST_SIZE}
use Rattle.node_tree.specs.Sheet.{Sheet, Stands}
use Rattle.pf_io.specs.Disk.{Name, Disk, Files, reading}
use Rattle.pf_io.specs.Host.{LengthWas, contents}
use Rattle.pf_io.specs.Names.{IsName, IsTarget, side_of, side_recovery_of}
use Rattle.pf_io.specs.Unchanged.{KeepsDisk}
use Rattle.pf_tool.specs.World.{World, with_host, with_random}
use Rattle.pf_tool.specs.Events.{Event, Answers}
use Rattle.pf_tool.specs.Endings.{Ending, Done, Refused, BadName, NotFound, TooLarge}
use Rattle.pf_tool.specs.Happened.{Passed}
use Rattle.pf_tool.specs.Keys.{IsKeyOf, KeyRefused, KeyOver, key_events}
use Rattle.pf_tool.specs.Outcomes.{Falls}
use Rattle.pf_tool.specs.SealingInput.{SealsInput}
use Rattle.pf_tool.specs.declared.fault.Fault.{Fault}

-- a plain file that can be read while the output is made
pub record IsInput (input output : Name) : Type 0 where
  pub is_name : IsName input
  pub no_side_file : input ≢ side_of output
  pub no_side_log : input ≢ side_recovery_of output

-- Why nothing is made, by all that is asked: no key is read, a name is none that it may be, or IN is absent.
pub data EncryptRefused (key input output : Name) (events : List Event) (ending : Ending) : Type 0 where
  no_key : KeyRefused key events ending → EncryptRefused key input output events ending
  names_unfit : (user : List ℕ) → IsKeyOf key user → ¬ (IsTarget output) ⊎ ¬ (IsInput input output) → events ≡ key_events key user → ending ≡ Refused BadName → EncryptRefused key input output events ending
  input_absent : (user : List ℕ) → IsKeyOf key user → IsTarget output → IsInput input output → events ≡ key_events key user ++ Answers (LengthWas input None) ∷ [] → ending ≡ Refused (NotFound input)
      → EncryptRefused key input output events ending

-- the key was read, the names are fit, and IN is there
pub record InputFound (key input output : Name) (user : List ℕ) (old new : World) : Type 0 where
  pub is_key : IsKeyOf key user
  pub is_target : IsTarget output
  pub is_input : IsInput input output
  pub size : ℕ
  pub passed : Passed (key_events key user ++ Answers (LengthWas input (Some size)) ∷ []) old new
  pub disk : KeepsDisk old.host new.host

-- The whole command: it is refused, or a call failed before; or IN is sealed, and nothing else happens.
pub data EncryptGoes (key input output : Name) (ended : Result (Unit {0}) Fault) (old new : World) : Type 0 where
  not_found : (fault : Fault) → Falls (EncryptRefused key input output) (λ _ _. KeepsDisk) fault old new → ended ≡ Err fault → EncryptGoes key input output ended old new
  input_found : (user : List ℕ) (mid : World) → InputFound key input output user old mid → SealsInput user input output ended mid.host new.host mid.random new.random → new ≡ with_random (with_host mid new.host) new.random
      → EncryptGoes key input output ended old new

-- the key and the content that the disk's files give
abbrev pub user_on : Disk → Name → List ℕ
user_on disk key = take 16 (contents (reading disk key))

abbrev pub content_on : Disk → Name → List ℕ
content_on disk input = contents (reading disk input)

-- the file stands for a sheet of this path, nonce and content
abbrev pub StandsFor : List ℕ → List ℕ → List ℕ → List ℕ → Option (List ℕ) → Type 0
StandsFor user path nonce content None = ⊥
StandsFor user path nonce content (Some file) = (sheet : Sheet) × (sheet.path ≡ path) × (sheet.nonce ≡ nonce) × (sheet.content ≡ content) × Stands file user sheet

-- under some nonce, the output stands for the input's content under the key, with the output's name as path
abbrev pub IsVersion : Name → Name → Name → Disk → Option (List ℕ) → Type 0
IsVersion key input output disk file = (nonce : List ℕ) × StandsFor (user_on disk key) output nonce (content_on disk input) file

-- The ending that files give. Where the work is done, what stands at the output is said of the disk.
pub data EncryptOver (key input output : Name) (files : Files) (ending : Ending) : Type 0 where
  over_no_key : KeyOver files key (Err ending) → EncryptOver key input output files ending
  over_unfit : (user : List ℕ) → KeyOver files key (Ok user) → ¬ (IsTarget output) ⊎ ¬ (IsInput input output) → ending ≡ Refused BadName → EncryptOver key input output files ending
  over_no_input : (user : List ℕ) → KeyOver files key (Ok user) → IsTarget output → IsInput input output → files input ≡ None → ending ≡ Refused (NotFound input) → EncryptOver key input output files ending
  over_large : (user content : List ℕ) → KeyOver files key (Ok user) → IsTarget output → IsInput input output → files input ≡ Some content → MOST_SIZE < length content → ending ≡ Refused TooLarge
      → EncryptOver key input output files ending
  over_done : (user content : List ℕ) → KeyOver files key (Ok user) → IsTarget output → IsInput input output → files input ≡ Some content → length content ≤ MOST_SIZE → ending ≡ Done
      → EncryptOver key input output files ending
