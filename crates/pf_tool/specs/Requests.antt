-- What words ask for.
use Rattle.std.specs.Prelude.{◌≡◌, List, [], ◌∷◌, ℕ, codes, Option, Some, None, option_map}
use Rattle.pf_io.specs.Disk.{Name}
use Rattle.template_text.specs.Rendering.{Values}
use Rattle.pf_tool.specs.Defines.{Define}
use Rattle.pf_tool.specs.declared.words.Command.{Command}
use Rattle.pf_tool.specs.declared.words.Command.TheVariants as commands
pub use Rattle.pf_tool.specs.Texts.{texts}

-- a command with its names
pub data Request : Type 0 where
  Decrypt : (key input : Name) → Request
  Encrypt : (key input output : Name) → Request
  Session : (key : Name) → Request
  Manifest : (values : Values) → (template : Name) → (output : Option Name) → Request
  Sums : (manifest : Name) → (output : Option Name) → Request
  Measure : (layout : Name) → Request

-- `decrypt -w KEY -i IN`
abbrev pub decrypt_words : Name → Name → List (List ℕ)
decrypt_words key input = codes "decrypt" ∷ codes "-w" ∷ key ∷ codes "-i" ∷ input ∷ []

-- `encrypt -w KEY -i IN -o OUT`
abbrev pub encrypt_words : Name → Name → Name → List (List ℕ)
encrypt_words key input output = codes "encrypt" ∷ codes "-w" ∷ key ∷ codes "-i" ∷ input ∷ codes "-o" ∷ output ∷ []

-- `session -w KEY`
abbrev pub session_words : Name → List (List ℕ)
session_words key = codes "session" ∷ codes "-w" ∷ key ∷ []

-- a word that is no option: it does not begin with `-`, or is `-` alone
abbrev pub IsOperand : List ℕ → Type 0
IsOperand word = (first : ℕ) (rest : List ℕ) → ¬ (word ≡ 45 ∷ first ∷ rest)

-- TEMPLATE, and OUT where it is given
abbrev pub operands : Name → Option Name → List (List ℕ)
operands template None = template ∷ []
operands template (Some output) = template ∷ output ∷ []

abbrev pub AreOperands : Name → Option Name → Type 0
AreOperands template None = IsOperand template
AreOperands template (Some output) = IsOperand template × IsOperand output

-- `manifest`, any number of `-D NAME=VALUE` and `-DNAME=VALUE`, TEMPLATE, and optionally OUT
pub record AsksManifest (words : List (List ℕ)) (values : Values) (template : Name) (output : Option Name) : Type 0 where
  pub behind : List (List ℕ)
  pub begins : words ≡ codes "manifest" ∷ behind
  pub defines : Define behind values (operands template output)
  pub are_operands : AreOperands template output

-- `sums MANIFEST`, and `sums -o OUT MANIFEST`
abbrev pub sums_words : Name → Option Name → List (List ℕ)
sums_words manifest None = codes "sums" ∷ manifest ∷ []
sums_words manifest (Some output) = codes "sums" ∷ codes "-o" ∷ output ∷ manifest ∷ []

-- `measure LAYOUT`
abbrev pub measure_words : Name → List (List ℕ)
measure_words layout = codes "measure" ∷ layout ∷ []

abbrev pub AskFor : List (List ℕ) → Request → Type 0
AskFor words (Decrypt key input) = words ≡ decrypt_words key input
AskFor words (Encrypt key input output) = words ≡ encrypt_words key input output
AskFor words (Session key) = words ≡ session_words key
AskFor words (Manifest values template output) = AsksManifest words values template output
AskFor words (Sums manifest output) = (words ≡ sums_words manifest output) × IsOperand manifest
AskFor words (Measure layout) = (words ≡ measure_words layout) × IsOperand layout

-- words that are no command, whatever the names
abbrev pub AskForNothing : List (List ℕ) → Type 0
AskForNothing words = (request : Request) → ¬ (AskFor words request)

-- what a command asks for
abbrev pub request_of : Command → Request
request_of (commands.Decrypt command) = Decrypt command.key.now command.input.now
request_of (commands.Encrypt command) = Encrypt command.key.now command.input.now command.output.now
request_of (commands.Session command) = Session command.key.now
request_of (commands.Manifest command) = Manifest command.values command.template.now (option_map (λ name. name.now) command.output)
request_of (commands.Sums command) = Sums command.manifest.now (option_map (λ name. name.now) command.output)
request_of (commands.Measure command) = Measure command.layout.now
