-- What the calls of a step did to names, and how the book goes on.
use Rattle.std.specs.Prelude.{◌≡◌, ◌⊎◌, ℕ, Bool, true, false, cond, List, [], ◌∷◌, Option, Some, None, bytes_eq}
use Rattle.pf_io.specs.Disk.{Name, Image}
use Rattle.pf_io.specs.Replay.{set_at}
use Rattle.pf_script.specs.BookRules.{speaks_of_failed}
use Rattle.pf_script.specs.Book.{Book, Entry, Alone, Partner, Seal, ImageFits}

-- an opening, or a call that had taken its words; of a move the seal has the new name
pub data Deed : Type 0 where
  Opening : (seal : Seal) → Deed
  Creation : (seal : Seal) → Deed
  Flush : (seal : Seal) → Deed
  Move : (from : Name) → (seal : Seal) → Deed

-- a deed that was accepted, or failed
pub record Act : Type 0 where
  pub deed : Deed
  pub done : Bool

-- the partner of the name keeps the content alone
abbrev pub freed : Name → Option Entry → Option Entry
freed name (Some (Partner key content other)) = cond (bytes_eq other name) (Some (Alone key (Some content) None false)) (Some (Partner key content other))
freed name (Some (Alone key kept tried ready)) = Some (Alone key kept tried ready)
freed name None = None

-- the partner of the name goes out
abbrev pub dropped : Name → Option Entry → Option Entry
dropped name (Some (Partner key content other)) = cond (bytes_eq other name) None (Some (Partner key content other))
dropped name (Some (Alone key kept tried ready)) = Some (Alone key kept tried ready)
dropped name None = None

abbrev pub without_partner : (Name → Option Entry → Option Entry) → Name → Book → Book
without_partner change name book other = change name (book other)

-- sealed, or tried
abbrev pub sealed_entry : List ℕ → List ℕ → Option (List ℕ) → Bool → Entry
sealed_entry key content kept true = Alone key (Some content) None true
sealed_entry key content kept false = Alone key kept (Some content) false

-- whether the book goes on to speak of a name that is opened under this key
abbrev pub speaks : List ℕ → Entry → Bool
speaks key (Alone own kept tried ready) = cond (bytes_eq own key) (cond speaks_of_failed true ready) false
speaks key (Partner own content other) = cond (bytes_eq own key) speaks_of_failed false

-- an accepted opening, by what the book has
abbrev pub opened : Seal → Option Entry → Book → Book
opened seal None book = book
opened seal (Some entry) book =
    set_at seal.name (cond (speaks seal.key entry) (Some (Alone seal.key (Some seal.sheet.content) None true)) None) (without_partner dropped seal.name book)

abbrev pub flushed : Seal → Bool → Option Entry → Book → Book
flushed seal done None book = book
flushed seal done (Some (Partner key content other)) book = book
flushed seal done (Some (Alone key kept tried ready)) book = set_at seal.name (Some (sealed_entry key seal.sheet.content kept done)) book

-- where the book does not speak of the old name, the new one goes out of it
abbrev pub moved : Name → Seal → Bool → Option Entry → Book → Book
moved from seal done None book = set_at seal.name None (without_partner freed seal.name book)
moved from seal true (Some entry) book =
    set_at seal.name (Some (Alone seal.key (Some seal.sheet.content) None true)) (set_at from None (without_partner freed seal.name book))
moved from seal false (Some entry) book =
    set_at seal.name (Some (Partner seal.key seal.sheet.content from)) (set_at from (Some (Partner seal.key seal.sheet.content seal.name)) (without_partner freed seal.name book))

-- the book after a deed
abbrev pub booked : Deed → Bool → Book → Book
booked (Opening seal) true book = opened seal (book seal.name) book
booked (Opening seal) false book = book
booked (Creation seal) done book = set_at seal.name (Some (sealed_entry seal.key seal.sheet.content None done)) (without_partner freed seal.name book)
booked (Flush seal) done book = flushed seal done (book seal.name) book
booked (Move from seal) done book = moved from seal done (book from) book

-- after several acts, the first of them first
abbrev pub booked_all : List Act → Book → Book
booked_all [] book = book
booked_all (act ∷ acts) book = booked_all acts (booked act.deed act.done book)

-- An image of some moment of these acts: it is as the book says before one of them, as after one that failed, or as after all. None is skipped.
abbrev pub FitsDuring : Book → List Act → Image → Type 0
FitsDuring book [] image = ImageFits book image
FitsDuring book (act ∷ acts) image = ImageFits book image ⊎ ImageFits (booked act.deed false book) image ⊎ FitsDuring (booked act.deed act.done book) acts image

-- the names of a deed
abbrev pub Names : Deed → Name → Type 0
Names (Opening seal) name = name ≡ seal.name
Names (Creation seal) name = name ≡ seal.name
Names (Flush seal) name = name ≡ seal.name
Names (Move from seal) name = (name ≡ seal.name) ⊎ (name ≡ from)

-- some act is of this name
abbrev pub Among : List Act → Name → Type 0
Among [] name = ⊥
Among (act ∷ acts) name = Names act.deed name ⊎ Among acts name
