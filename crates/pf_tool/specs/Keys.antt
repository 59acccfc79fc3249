-- The reading of a key file.
use Rattle.std.specs.Prelude.{◌≡◌, ◌≢◌, ℕ, ◌<◌, List, [], ◌∷◌, length, Some, None, Result, Ok, Err}
use Rattle.pf_io.specs.Disk.{Name, Files}
use Rattle.pf_io.specs.Host.{LengthWas, Gave}
use Rattle.pf_io.specs.Names.{IsName}
use Rattle.pf_tool.specs.Events.{Event, Answers}
use Rattle.pf_tool.specs.Endings.{Ending, Refused, BadName, NotFound, KeyFile}

-- the file's length, and then its bytes
abbrev pub key_events : Name → List ℕ → List Event
key_events key user = Answers (LengthWas key (Some 16)) ∷ Answers (Gave key 0 16 user) ∷ []

pub record IsKeyOf (key : Name) (user : List ℕ) : Type 0 where
  pub is_name : IsName key
  pub whole : length user ≡ 16

-- why no key is read
pub data KeyRefused (key : Name) (events : List Event) (ending : Ending) : Type 0 where
  key_unnamed : ¬ (IsName key) → events ≡ [] → ending ≡ Refused BadName → KeyRefused key events ending
  key_absent : IsName key → events ≡ Answers (LengthWas key None) ∷ [] → ending ≡ Refused (NotFound key) → KeyRefused key events ending
  key_length : (n : ℕ) → IsName key → n ≢ 16 → events ≡ Answers (LengthWas key (Some n)) ∷ [] → ending ≡ Refused (KeyFile n) → KeyRefused key events ending
  key_short : (bytes : List ℕ) → IsName key → length bytes < 16 → events ≡ key_events key bytes → ending ≡ Refused (KeyFile (length bytes)) → KeyRefused key events ending

-- the key that files give, or the refusal
pub data KeyOver (files : Files) (key : Name) (result : Result (List ℕ) Ending) : Type 0 where
  over_unnamed : ¬ (IsName key) → result ≡ Err (Refused BadName) → KeyOver files key result
  over_absent : IsName key → files key ≡ None → result ≡ Err (Refused (NotFound key)) → KeyOver files key result
  over_length : (bytes : List ℕ) → IsName key → files key ≡ Some bytes → length bytes ≢ 16 → result ≡ Err (Refused (KeyFile (length bytes))) → KeyOver files key result
  over_key : (user : List ℕ) → IsName key → files key ≡ Some user → length user ≡ 16 → result ≡ Ok user → KeyOver files key result
