-- What a list of files has at a name after a change.
use Rattle.std.proofs.Common.{◌≡◌, ◌≢◌, Bool, true, false, not, cond, List, [], ◌∷◌, ◌++◌, refl, sym, ◌∙◌, ap, Option, Some, None}
use Rattle.std.specs.Prelude.{bytes_eq, option_map, filter, find}
use Rattle.std.proofs.lemmas.Slice.Eq.{bytes_eq-Decides}
use Rattle.pf_io.specs.Disk.{Name}
use Rattle.pf_io.specs.Replay.{Stored, set_at}
use Rattle.pf_io.specs.Storage.{look, named, stored_of, Sets}
use Rattle.pf_io.specs.declared.storage.Entry.{Entry}

pub set_at-same : {A : Type 0} (name : Name) (value : A) (old : Name → A) → set_at name value old name ≡ value
set_at-same name value old = ap (λ b. cond b value (old name)) ((bytes_eq-Decides name name).1 refl)

not_true : (b : Bool) → (b ≡ true → ⊥) → b ≡ false
not_true true h = absurd (h refl)
not_true false h = refl

pub set_at-other : {A : Type 0} (name m : Name) (value : A) (old : Name → A) → m ≢ name → set_at name value old m ≡ old m
set_at-other name m value old other = ap (λ b. cond b value (old m)) (not_true (bytes_eq name m) (λ is. other (sym ((bytes_eq-Decides name m).0 is))))

decided : (n m : Name) → bytes_eq n m ≡ true → n ≡ m
decided n m = (bytes_eq-Decides n m).0

-- what is set at a name twice
pub set_at-twice : {A : Type 0} (name m : Name) (x y : A) (old : Name → A) → set_at name x (set_at name y old) m ≡ set_at name x old m
set_at-twice name m x y old = elim (bytes_eq name m) as (λ b. cond b x (cond b y (old m)) ≡ cond b x (old m)) [ true ↦ refl | false ↦ refl ]

pub look_cons : (e : Entry) (files : List Entry) (m : Name) → look (e ∷ files) m ≡ cond (bytes_eq e.name.items m) (Some (stored_of e.file)) (look files m)
look_cons e files m =
    elim (bytes_eq e.name.items m) as (λ b. option_map (λ entry. stored_of entry.file) (cond b (Some e) (find (named m) files)) ≡ cond b (Some (stored_of e.file)) (look files m))
    [ true ↦ refl | false ↦ refl ]

-- of two names that differ, at most one is the third
apart : (n name m : Name) (b c : Bool) → bytes_eq n m ≡ b → bytes_eq name m ≡ c → bytes_eq n name ≡ false → (x y z : Option Stored) → cond b x (cond c y z) ≡ cond c y (cond b x z)
apart n name m true true p q differ x y z =
    let same : n ≡ name = decided n m p ∙ sym (decided name m q) in
    let e : true ≡ false = sym ((bytes_eq-Decides n name).1 same) ∙ differ in
    absurd (cc)
apart n name m true false p q differ x y z = refl
apart n name m false c p q differ x y z = refl

look_filter : (files : List Entry) (name m : Name) → look (filter (λ entry. not (named name entry)) files) m ≡ set_at name None (look files) m
look_filter [] name m = sym (elim (bytes_eq name m) as (λ b. ◌≡◌ {A = Option Stored} (cond b None None) None) [ true ↦ refl | false ↦ refl ])
look_filter (e ∷ files) name m = by_name (bytes_eq e.name.items name) refl (look_filter files name m)
  where
    by_name : (b : Bool) → bytes_eq e.name.items name ≡ b → look (filter (λ entry. not (named name entry)) files) m ≡ set_at name None (look files) m
        → look (cond (not b) (e ∷ filter (λ entry. not (named name entry)) files) (filter (λ entry. not (named name entry)) files)) m ≡ cond (bytes_eq name m) None (look (e ∷ files) m)
    by_name true h rest =
        rest
        ∙ sym (set_at-twice name m None (Some (stored_of e.file)) (look files))
        ∙ ap (λ (n : Name). cond (bytes_eq name m) None (cond (bytes_eq n m) (Some (stored_of e.file)) (look files m))) (sym (decided e.name.items name h))
        ∙ ap (λ (o : Option Stored). cond (bytes_eq name m) None o) (sym (look_cons e files m))
    by_name false h rest =
        look_cons e (filter (λ entry. not (named name entry)) files) m
        ∙ ap (λ (o : Option Stored). cond (bytes_eq e.name.items m) (Some (stored_of e.file)) o) rest
        ∙ apart e.name.items name m (bytes_eq e.name.items m) (bytes_eq name m) refl refl h (Some (stored_of e.file)) None (look files m)
        ∙ ap (λ (o : Option Stored). cond (bytes_eq name m) None o) (sym (look_cons e files m))

look_push : (files : List Entry) (m : Name) (entry : Entry) → look files entry.name.items ≡ None → look (files ++ entry ∷ []) m ≡ set_at entry.name.items (Some (stored_of entry.file)) (look files) m
look_push [] m entry none = look_cons entry [] m
look_push (e ∷ files) m entry none = by_name (bytes_eq e.name.items entry.name.items) refl (sym (look_cons e files entry.name.items) ∙ none) (look_push files m entry)
  where
    by_name : (b : Bool) → bytes_eq e.name.items entry.name.items ≡ b → cond b (Some (stored_of e.file)) (look files entry.name.items) ≡ None
        → (look files entry.name.items ≡ None → look (files ++ entry ∷ []) m ≡ set_at entry.name.items (Some (stored_of entry.file)) (look files) m)
        → look (e ∷ files ++ entry ∷ []) m ≡ cond (bytes_eq entry.name.items m) (Some (stored_of entry.file)) (look (e ∷ files) m)
    by_name true h none rest = absurd (cc)
    by_name false h none rest =
        look_cons e (files ++ entry ∷ []) m
        ∙ ap (λ (o : Option Stored). cond (bytes_eq e.name.items m) (Some (stored_of e.file)) o) (rest none)
        ∙ apart e.name.items entry.name.items m (bytes_eq e.name.items m) (bytes_eq entry.name.items m) refl refl h (Some (stored_of e.file)) (Some (stored_of entry.file)) (look files m)
        ∙ ap (λ (o : Option Stored). cond (bytes_eq entry.name.items m) (Some (stored_of entry.file)) o) (sym (look_cons e files m))

-- the entries of a name removed
pub sets_none : (files files' : List Entry) (name : Name) → files' ≡ filter (λ entry. not (named name entry)) files → Sets name None files files'
sets_none files files' name is m = ap (λ (l : List Entry). look l m) is ∙ look_filter files name m

-- and one entry of it put at the end
pub sets_some : (files mid new : List Entry) (entry : Entry) → mid ≡ filter (λ one. not (named entry.name.items one)) files → new ≡ mid ++ entry ∷ [] → Sets entry.name.items (Some (stored_of entry.file)) files new
sets_some files mid new entry filtered pushed m =
    let removed = sets_none files mid entry.name.items filtered in
    ap (λ (l : List Entry). look l m) pushed
    ∙ look_push mid m entry (removed entry.name.items ∙ set_at-same entry.name.items None (look files))
    ∙ ap (λ (o : Option Stored). cond (bytes_eq entry.name.items m) (Some (stored_of entry.file)) o) (removed m)
    ∙ set_at-twice entry.name.items m (Some (stored_of entry.file)) None (look files)
