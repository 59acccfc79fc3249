-- Names of files, and the lexical normal form of a name.
use Rattle.std.specs.Prelude.{ℕ, Bool, true, false, not, ◌&&◌, ◌==◌, nat_eq, nat_le, if◌then◌else◌, List, [], ◌∷◌, ◌++◌, reverse, length, drop, fold, codes, bytes_eq, Option, Some, None}
use Rattle.std.specs.List.{starts_with, ends_with, list_all, slice_split, join_with_byte}
use Rattle.pf_io.specs.Names.{SLASH, LONGEST}

-- what stands between the slashes
abbrev pub parts : List ℕ → List (List ℕ)
parts name = slice_split (λ byte. byte == SLASH) name

-- it begins with a slash
abbrev pub is_absolute : List ℕ → Bool
is_absolute [] = false
is_absolute (byte ∷ bytes) = byte == SLASH

abbrev pub ABOVE : List ℕ
ABOVE = codes ".."

-- a part that names the folder it stands in: the empty one and `.`
abbrev pub is_here : List ℕ → Bool
is_here part = if bytes_eq part [] then true else bytes_eq part (codes ".")

-- A part `..` behind parts, of which the last one stands first: it removes the last part that is none itself. At the
-- front of an absolute name it is dropped, at the front of another it stays.
abbrev pub go_above : Bool → List (List ℕ) → List (List ℕ)
go_above absolute [] = if absolute then [] else ABOVE ∷ []
go_above absolute (last ∷ kept) = if bytes_eq last ABOVE then ABOVE ∷ last ∷ kept else kept

-- one more part behind parts, of which the last one stands first
abbrev pub go : Bool → List (List ℕ) → List ℕ → List (List ℕ)
go absolute kept part = if is_here part then kept else if bytes_eq part ABOVE then go_above absolute kept else part ∷ kept

-- the parts that stay of the parts of an absolute name, or of another
unfoldable pub kept_of : Bool → List (List ℕ) → List (List ℕ)
kept_of absolute ps = reverse (fold (go absolute) [] ps)

-- the parts of a name's normal form: none for the root, and for the folder that the name is relative to
unfoldable pub normal_parts : List ℕ → List (List ℕ)
normal_parts name = kept_of (is_absolute name) (parts name)

-- parts, each behind a slash
abbrev pub behind : List (List ℕ) → List ℕ
behind [] = []
behind (p ∷ ps) = SLASH ∷ (p ++ behind ps)

-- parts as a name, absolute or not
abbrev pub name_of : Bool → List (List ℕ) → List ℕ
name_of true ps = SLASH ∷ join_with_byte SLASH ps
name_of false [] = codes "."
name_of false (p ∷ ps) = join_with_byte SLASH (p ∷ ps)

-- the normal form of a name
unfoldable pub normal : List ℕ → List ℕ
normal name = name_of (is_absolute name) (normal_parts name)

-- a part that stays where it stands
abbrev pub is_plain : List ℕ → Bool
is_plain part = not (is_here part) && not (bytes_eq part ABOVE)

-- parts `..`, and then plain ones
abbrev pub climbs : List (List ℕ) → Bool
climbs [] = true
climbs (part ∷ ps) = if bytes_eq part ABOVE then climbs ps else list_all is_plain (part ∷ ps)

-- Parts of a normal form: plain ones, and in front of those of a name that is not absolute any number of `..`.
abbrev pub are_normal : Bool → List (List ℕ) → Bool
are_normal true ps = list_all is_plain ps
are_normal false ps = climbs ps

-- what follows `file:`
unfoldable pub file_name : List ℕ → Option (List ℕ)
file_name uri = if starts_with nat_eq uri (codes "file:") then Some (drop 5 uri) else None

-- the uri of a file's name
abbrev pub uri_of : List ℕ → List ℕ
uri_of name = codes "file:" ++ name

-- the normal form of a uri `file:NAME`
abbrev pub normal_uri : List ℕ → List ℕ
normal_uri name = uri_of (normal name)

-- 1 to 512 bytes, none of them 0
unfoldable pub is_name : List ℕ → Bool
is_name name = (nat_le 1 (length name) && nat_le (length name) LONGEST) && list_all (λ byte. not (byte == 0)) name

abbrev pub ends_in_slash : List ℕ → Bool
ends_in_slash name = ends_with nat_eq name (SLASH ∷ [])
