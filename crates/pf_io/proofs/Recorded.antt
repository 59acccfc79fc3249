-- What one more recorded event adds to what the events tell.
use Rattle.std.proofs.Common.{◌≡◌, ℕ, inl, inr, Bool, true, false, cond, List, [], ◌∷◌, ◌++◌, map, refl, sym, ◌∙◌, ap, subst, Option, Some, None, Result, Ok, Err, IfOk, OnOk, OnErr}
use Rattle.std.specs.Prelude.{bytes_eq, option_map}
use Rattle.pf_io.specs.Disk.{Name, Disk}
use Rattle.pf_io.specs.Moments.{Does}
use Rattle.pf_io.specs.Host.{Answer, Swapped, HostState, Tells}
use Rattle.pf_io.specs.Replay.{Event, Call, Put, Stored, Traced, Trace, answers_of, set_at, moved_by, swapped, after, after_all, before_each, empty, disk_of, honest_of}
use Rattle.pf_io.specs.SoundProofs.{SoundAt, sound_events}
use Rattle.pf_io.specs.Storage.{look, event_of, events_of, stored_after, StoresAfter, Sets, Records}
use Rattle.pf_io.specs.declared.storage.Entry.{Entry}
use Rattle.pf_io.specs.declared.told.Told.{Told}

after_all-push : (events : List Event) (event : Event) (t : Trace) → after_all (events ++ event ∷ []) t ≡ after event (after_all events t)
after_all-push [] event t = refl
after_all-push (e ∷ events) event t = after_all-push events event (after e t)

past-push : (events : List Event) (event : Event) (t : Trace) → map disk_of (before_each (events ++ event ∷ []) t) ≡ map disk_of (before_each events t) ++ disk_of (after_all events t) ∷ []
past-push [] event t = refl
past-push (e ∷ events) event t = ap (λ (l : List Disk). disk_of t ∷ l) (past-push events event (after e t))

answers-push : (events : List Event) (answer : Answer) → answers_of (events ++ Call answer ∷ []) ≡ answers_of events ++ answer ∷ []
answers-push [] answer = refl
answers-push (Call first ∷ events) answer = ap (λ (l : List Answer). first ∷ l) (answers-push events answer)
answers-push (Put name bytes ∷ events) answer = answers-push events answer

pub answers-put : (events : List Event) (name : Name) (bytes : List ℕ) → answers_of (events ++ Put name bytes ∷ []) ≡ answers_of events
answers-put [] name bytes = refl
answers-put (Call first ∷ events) name bytes = ap (λ (l : List Answer). first ∷ l) (answers-put events name bytes)
answers-put (Put other old ∷ events) name bytes = answers-put events name bytes

events-push : (told : List Told) (one : Told) → events_of (told ++ one ∷ []) ≡ events_of told ++ event_of one ∷ []
events-push [] one = refl
events-push (first ∷ told) one = ap (λ (l : List Event). event_of first ∷ l) (events-push told one)

-- after one more event
pub after_one : (events events' : List Event) (event : Event) → events' ≡ events ++ event ∷ [] → after_all events' empty ≡ after event (after_all events empty)
after_one events events' event is = ap (λ (l : List Event). after_all l empty) is ∙ after_all-push events event empty

-- the answer of a recorded call is told
pub told_recorded : {T E : Type 0} (r : Result T E) (answer : T → Answer) (events events' : List Event) (old new : HostState) → old.given ≡ Some (answers_of events) → new.given ≡ Some (answers_of events')
    → Records r (λ value. Call (answer value)) events events' → Tells r answer old new
told_recorded {T} {E} (Ok value) answer events events' old new old_is new_is records =
    subst (λ (o : Option (List Answer)). Tells {T = T} {E = E} (Ok value) answer (record old { given = o }) new) (sym old_is)
    (subst (λ (o : Option (List Answer)). Tells {T = T} {E = E} (Ok value) answer (record old { given = Some (answers_of events) }) (record new { given = o })) (sym new_is)
    (ap answers_of records ∙ answers-push events (answer value)))
told_recorded (Err fault) answer events events' old new old_is new_is records = new_is ∙ ap (λ (l : List Event). Some (answers_of l)) records ∙ sym old_is

-- A recorded call takes the disk on as its event does, and one that is not recorded did nothing.
pub recorded : {T E : Type 0} (r : Result T E) (event : T → Event) (step : Result T E → Disk → Disk → Type 0) (events events' : List Event) → Records r event events events'
    → ((value : T) (t : Trace) → ((m : Name) → SoundAt (t m)) → step (Ok value) (disk_of t) (disk_of (after (event value) t))) → ((fault : E) (d : Disk) → step (Err fault) d d) → Does (step r) (honest_of events) (honest_of events')
recorded (Ok value) event step events events' records does none = record {
  disk = subst (λ (t : Trace). step (Ok value) (disk_of (after_all events empty)) (disk_of t)) (sym (after_one events events' (event value) records)) (does value (after_all events empty) (sound_events events));
  time = inr (ap (λ (l : List Event). map disk_of (before_each l empty)) records ∙ past-push events (event value) empty);
}
recorded (Err fault) event step events events' records does none = record {
  disk = subst (λ (l : List Event). step (Err fault) (disk_of (after_all events empty)) (disk_of (after_all l empty))) (sym records) (none fault (disk_of (after_all events empty)));
  time = inl (ap honest_of records);
}

-- a call that changes no file
pub keeps_recorded : {T E : Type 0} (r : Result T E) (event : T → Event) (events events' : List Event) → Records r event events events' → ((value : T) (t : Trace) → after (event value) t ≡ t) → after_all events' empty ≡ after_all events empty
keeps_recorded (Ok value) event events events' records same = after_one events events' (event value) records ∙ same value (after_all events empty)
keeps_recorded (Err fault) event events events' records same = ap (λ (l : List Event). after_all l empty) records

mapped_set : {A B : Type 0} (g : A → B) (name m : Name) (o : Option A) (t : Name → Option A) → option_map g (set_at name o t m) ≡ set_at name (option_map g o) (λ n. option_map g (t n)) m
mapped_set g name m o t = elim (bytes_eq name m) as (λ b. option_map g (cond b o (t m)) ≡ cond b (option_map g o) (option_map g (t m))) [ true ↦ refl | false ↦ refl ]

abbrev kept_of : Trace → Name → Option Stored
kept_of t name = option_map (λ file. file.stored) (t name)

-- the storage has what the events leave where it stands to the old one as the event says
pub stores_by : (files : List Entry) (told told' : List Told) (event : Event) → events_of told' ≡ events_of told ++ event ∷ []
    → ((name : Name) → look files name ≡ kept_of (after event (after_all (events_of told) empty)) name) → StoresAfter files told'
stores_by files told told' event records each name = each name ∙ ap (λ (t : Trace). kept_of t name) (sym (after_one (events_of told) (events_of told') event records))

-- an event that changes nothing
pub stores_same : (files : List Entry) (told told' : List Told) (one : Told) → StoresAfter files told → told' ≡ told ++ one ∷ [] → (after (event_of one) (after_all (events_of told) empty) ≡ after_all (events_of told) empty) → StoresAfter files told'
stores_same files told told' one stores is same =
    stores_by files told told' (event_of one) (ap events_of is ∙ events-push told one) (λ name. stores name ∙ ap (λ (t : Trace). kept_of t name) (sym same))

-- one that sets what stands at a name, or at a fault nothing
pub stores_set : {T E : Type 0} (r : Result T E) (files files' : List Entry) (told told' : List Told) (raw event : Event) (copy name : Name) (next : Option Stored) (value : Trace → Option Traced) → StoresAfter files told
    → OnOk r (Sets copy next files files') → OnErr r (files' ≡ files) → Records r (λ _. raw) (events_of told) (events_of told') → raw ≡ event → copy ≡ name
    → ((t : Trace) (m : Name) → after event t m ≡ set_at name (value t) t m) → ◌≡◌ {A = Option Stored} next (option_map (λ file. file.stored) (value (after_all (events_of told) empty))) → StoresAfter files' told'
stores_set (Ok v) files files' told told' raw event copy name next value stores sets same records event_is name_is does next_is =
    let t = after_all (events_of told) empty in
    stores_by files' told told' event (records ∙ ap (λ (e : Event). events_of told ++ e ∷ []) event_is) (λ m.
    sets m
    ∙ ap (λ (n : Name). set_at n next (look files) m) name_is
    ∙ ap (λ (o : Option Stored). set_at name o (look files) m) next_is
    ∙ ap (λ (o : Option Stored). cond (bytes_eq name m) (option_map (λ file. file.stored) (value t)) o) (stores m)
    ∙ sym (mapped_set (λ file. file.stored) name m (value t) t)
    ∙ sym (ap (λ (o : Option Traced). option_map (λ file. file.stored) o) (does t m)))
stores_set (Err x) files files' told told' raw event copy name next value stores sets same records event_is name_is does next_is =
    λ m. ap (λ (l : List Entry). look l m) same ∙ stores m ∙ ap (λ (l : List Event). stored_after l m) (sym records)

-- what is stored of a changed file
pub next_stored : (f : Traced → Traced) (g : Stored → Stored) (next : Option Stored) (shown files : List Entry) (told : List Told) (copy name : Name) → ((file : Traced) → g file.stored ≡ (f file).stored) → StoresAfter files told
    → shown ≡ files → copy ≡ name → next ≡ option_map g (look shown copy) → next ≡ option_map (λ file. file.stored) (option_map f (after_all (events_of told) empty name))
next_stored f g next shown files told copy name each stores files_is name_is next_is =
    next_is ∙ ap (λ (l : List Entry). option_map g (look l copy)) files_is ∙ ap (λ (n : Name). option_map g (look files n)) name_is ∙ ap (λ (o : Option Stored). option_map g o) (stores name) ∙ mapped (after_all (events_of told) empty name)
  where
    mapped : (o : Option Traced) → option_map g (option_map (λ file. file.stored) o) ≡ option_map (λ file. file.stored) (option_map f o)
    mapped (Some file) = ap (λ (s : Stored). Some s) (each file)
    mapped None = refl

-- what an outcome recorded, once want of memory is counted as a fault
pub carried : {T E F : Type 0} (r : Result T E) (s : Result T F) (want : F) (event : T → Event) (events events' : List Event) → Records s event events events' → IfOk r (λ value. s ≡ Ok value) → OnErr r (s ≡ Err want) → Records r event events events'
carried (Ok v) (Ok w) want event events events' records ok err = let same : w ≡ v = cc in subst (λ (x : _). events' ≡ events ++ event x ∷ []) same records
carried (Ok v) (Err x) want event events events' records ok err = absurd (cc)
carried (Err x) (Ok w) want event events events' records ok err = absurd (cc)
carried (Err x) (Err y) want event events events' records ok err = records

-- A swap of one name with itself, or of an absent one, changes nothing.
pub stores_unmoved : (files : List Entry) (told told' : List Told) (one : Told) (from to from' to' : Name) → StoresAfter files told → told' ≡ told ++ one ∷ [] → event_of one ≡ Call (Swapped from to) → from' ≡ from → to' ≡ to
    → (shown : List Entry) → shown ≡ files → None ≡ moved_by from' to' (look shown) → StoresAfter files told'
stores_unmoved files told told' one from to from' to' stores is event_is from_is to_is shown files_is none =
    let t = after_all (events_of told) empty in
    let none_there : None ≡ moved_by from to (look files) = none ∙ ap (λ (l : List Entry). moved_by from' to' (look l)) files_is ∙ ap (λ (n : Name). moved_by n to' (look files)) from_is ∙ ap (λ (n : Name). moved_by from n (look files)) to_is in
    stores_same files told told' one stores is
    (ap (λ (e : Event). after e t) event_is ∙ ap (λ (o : Option Traced). swapped o from to t) (unmoved (bytes_eq from to) (look files from) (t from) (stores from) none_there))
  where
    unmoved : (b : Bool) (s : Option Stored) (o : Option Traced) → s ≡ option_map (λ file. file.stored) o → ◌≡◌ {A = Option Stored} None (cond b None s) → cond b None o ≡ None
    unmoved true s o is none = refl
    unmoved false s (Some file) is none = absurd (cc)
    unmoved false s None is none = refl

-- a swap of a file that is there
pub stores_moved : (files mid files' : List Entry) (told told' : List Told) (raw : Event) (from to from' to' copy gone : Name) (stored : Stored) → StoresAfter files told → Sets copy (Some stored) files mid → Sets gone None mid files'
    → events_of told' ≡ events_of told ++ raw ∷ [] → raw ≡ Call (Swapped from to) → copy ≡ to → gone ≡ from → from' ≡ from → to' ≡ to → (shown : List Entry) → shown ≡ files → Some stored ≡ moved_by from' to' (look shown) → StoresAfter files' told'
stores_moved files mid files' told told' raw from to from' to' copy gone stored stores sets removes records event_is copy_is gone_is from_is to_is shown files_is moved =
    let t = after_all (events_of told) empty in
    let there : Some stored ≡ moved_by from to (look files) = moved ∙ ap (λ (l : List Entry). moved_by from' to' (look l)) files_is ∙ ap (λ (n : Name). moved_by n to' (look files)) from_is ∙ ap (λ (n : Name). moved_by from n (look files)) to_is in
    let file = moves (bytes_eq from to) (look files from) (t from) stored (stores from) there in
    stores_by files' told told' (Call (Swapped from to)) (records ∙ ap (λ (e : Event). events_of told ++ e ∷ []) event_is) (λ m.
    removes m
    ∙ ap (λ (n : Name). set_at n None (look mid) m) gone_is
    ∙ ap (λ (o : Option Stored). cond (bytes_eq from m) None o) (sets m ∙ ap (λ (n : Name). set_at n (Some stored) (look files) m) copy_is ∙ ap (λ (o : Option Stored). cond (bytes_eq to m) (Some stored) o) (stores m))
    ∙ ap (λ (s : Stored). cond (bytes_eq from m) None (set_at to (Some s) (kept_of t) m)) (sym file.2)
    ∙ ap (λ (o : Option Stored). cond (bytes_eq from m) None o) (sym (mapped_set (λ file. file.stored) to m (Some file.0) t))
    ∙ sym (mapped_set (λ file. file.stored) from m None (set_at to (Some file.0) t))
    ∙ ap (λ (o : Option Traced). kept_of (swapped o from to t) m) (sym file.1))
  where
    moves : (b : Bool) (s : Option Stored) (o : Option Traced) (stored : Stored) → s ≡ option_map (λ file. file.stored) o → Some stored ≡ cond b None s → (file : Traced) × (cond b None o ≡ Some file) × (file.stored ≡ stored)
    moves true s o stored is there = absurd (cc)
    moves false s (Some file) stored is there = let e : Some file.stored ≡ Some stored = sym is ∙ sym there in (file, refl, cc)
    moves false s None stored is there = absurd (cc)
