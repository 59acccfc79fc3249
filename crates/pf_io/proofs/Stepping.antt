-- What a recorded call does to the disk is what the trait says of it.
use Rattle.std.proofs.Common.{◌≡◌, ◌≢◌, inr, ℕ, Bool, true, false, cond, List, [], ◌∷◌, ◌++◌, refl, sym, ◌∙◌, ap, subst, Option, Some, None, Result, Ok, Err, arith}
use Rattle.std.specs.Prelude.{bytes_eq, option_map, unwrap_or, length}
use Rattle.std.proofs.lemmas.Slice.Eq.{bytes_eq-Decides}
use Rattle.pf_io.specs.Disk.{Name, File, IsSettledFile}
use Rattle.pf_io.specs.Moments.{Does}
use Rattle.pf_io.specs.Steps.{Follows, Stays, Changes, Writes, Cuts, Syncs, Makes, Swaps, Removes, AtOnce, KeepsOthers, RisksWrite, RisksCut, RisksNoMore}
use Rattle.pf_io.specs.Host.{Wrote, WasCut, Synced, Made, Swapped, Removed}
use Rattle.pf_io.specs.Replay.{Event, Call, Put, Traced, Trace, set_at, written, shortened, settled, moved_by, swapped, after, after_all, empty, file_of, disk_of, honest_of}
use Rattle.pf_io.specs.Storage.{Records}
use Rattle.pf_io.specs.SplicingProofs.{get_take, get_inside, get_replicate, unkept-front, unkept-back}
use Rattle.pf_io.specs.SoundProofs.{IsSound, SoundAt, mark_true}
use Rattle.pf_io.proofs.Stored.{set_at-same, set_at-other}
use Rattle.pf_io.proofs.Recorded.{after_one, recorded}
use Rattle.pf_io.proofs.Faulted.{changes_nothing, writes_nothing, cuts_nothing, syncs_nothing}

-- setting a name leaves the others
pub set_others : (name : Name) (o : Option Traced) (t : Trace) → KeepsOthers name (disk_of t) (disk_of (set_at name o t))
set_others name o t other apart = ap (λ (o : Option Traced). option_map file_of o) (set_at-other name other o t apart)

pub set_there : (name : Name) (o : Option Traced) (t : Trace) → disk_of (set_at name o t) name ≡ option_map file_of o
set_there name o t = ap (λ (o : Option Traced). option_map file_of o) (set_at-same name o t)

follows_map : (f : Traced → Traced) (step : File → File → Type 0) → ((file : Traced) → IsSound file → step (file_of file) (file_of (f file))) → (o : Option Traced) → SoundAt o → Follows step (option_map file_of o) (option_map file_of (option_map f o))
follows_map f step each (Some file) sound = each file sound
follows_map f step each None sound = tt

changes_by : (name : Name) (f : Traced → Traced) (step : File → File → Type 0) (t : Trace) → ((m : Name) → SoundAt (t m)) → ((file : Traced) → IsSound file → step (file_of file) (file_of (f file)))
    → Changes name step (disk_of t) (disk_of (set_at name (option_map f (t name)) t))
changes_by name f step t sound each = record {
  there = subst (λ (o : Option File). Follows step (disk_of t name) o) (sym (set_there name (option_map f (t name)) t)) (follows_map f step each (t name) (sound name));
  others = set_others name (option_map f (t name)) t;
}

pub settled_is : (bytes : List ℕ) → IsSettledFile (file_of (settled bytes))
settled_is bytes = record { no_shorter = omega arith; no_longer = omega arith; keeps = λ i lt. ap (λ (o : Option Bool). unwrap_or o false) (get_replicate (length bytes) true i lt) }

risks_written : (at : ℕ) (bytes : List ℕ) (file : Traced) → RisksWrite at (length bytes) (file_of file) (file_of (written at bytes file))
risks_written at bytes file = record {
  before = λ i keeps lt. ap (λ (o : Option Bool). unwrap_or o false) (unkept-front at (length bytes) file.stored.kept i (mark_true _ keeps) lt);
  after = λ i keeps le. ap (λ (o : Option Bool). unwrap_or o false) (unkept-back at (length bytes) file.stored.kept i (mark_true _ keeps) le);
  no_shorter = omega arith;
  no_longer = omega arith;
}

risks_cut : (len : ℕ) (file : Traced) → RisksCut len (file_of file) (file_of (shortened len file))
risks_cut len file = record {
  front = λ i keeps lt. ap (λ (o : Option Bool). unwrap_or o false) (get_take len file.stored.kept i lt) ∙ keeps;
  no_shorter = omega arith;
  no_longer = omega arith;
}

risks_synced : (file : Traced) → IsSound file → RisksNoMore (file_of file) (file_of (settled file.stored.bytes))
risks_synced file sound = record {
  keeps = λ i keeps. ap (λ (o : Option Bool). unwrap_or o false) (get_replicate (length file.stored.bytes) true i (omega (arith, get_inside file.stored.kept i true (mark_true _ keeps), sound.marks)));
  no_shorter = sound.no_shorter;
  no_longer = sound.no_longer;
}

pub stays_step : {T E : Type 0} (r : Result T E) (event : T → Event) (events events' : List Event) → Records r event events events' → ((value : T) (t : Trace) → after (event value) t ≡ t) → Does Stays (honest_of events) (honest_of events')
stays_step r event events events' records same = recorded r event (λ _. Stays) events events' records (λ value t sound. ap disk_of (same value t)) (λ fault d. refl)

pub write_step : {T E : Type 0} (r : Result T E) (name : Name) (at : ℕ) (from : List ℕ) (events events' : List Event) → Records r (λ _. Call (Wrote name at from)) events events' → Does (Changes name (Writes at from r)) (honest_of events) (honest_of events')
write_step {T} {E} r name at from events events' records =
    recorded r (λ _. Call (Wrote name at from)) (λ r. Changes name (Writes at from r)) events events' records
    (λ value t sound. changes_by name (written at from) (Writes {E = E} at from (Ok value)) t sound (λ file one. record { reads = refl; risks = risks_written at from file }))
    (λ fault d. changes_nothing name (Writes {T = T} at from (Err fault)) d (writes_nothing fault at from))

pub cut_step : {T E : Type 0} (r : Result T E) (name : Name) (len : ℕ) (events events' : List Event) → Records r (λ _. Call (WasCut name len)) events events' → Does (Changes name (Cuts len r)) (honest_of events) (honest_of events')
cut_step {T} {E} r name len events events' records =
    recorded r (λ _. Call (WasCut name len)) (λ r. Changes name (Cuts len r)) events events' records
    (λ value t sound. changes_by name (shortened len) (Cuts {E = E} len (Ok value)) t sound (λ file one. record { reads = refl; risks = risks_cut len file }))
    (λ fault d. changes_nothing name (Cuts {T = T} len (Err fault)) d (cuts_nothing fault len))

pub sync_step : {T E : Type 0} (r : Result T E) (name : Name) (events events' : List Event) → Records r (λ _. Call (Synced name)) events events' → Does (Changes name (Syncs r)) (honest_of events) (honest_of events')
sync_step {T} {E} r name events events' records =
    recorded r (λ _. Call (Synced name)) (λ r. Changes name (Syncs r)) events events' records
    (λ value t sound. changes_by name (λ file. settled file.stored.bytes) (Syncs {E = E} (Ok value)) t sound (λ file one. record { reads = refl; risks = risks_synced file one; settled = settled_is file.stored.bytes }))
    (λ fault d. changes_nothing name (Syncs {T = T} (Err fault)) d (syncs_nothing fault))

pub make_step : {T E : Type 0} (r : Result T E) (name : Name) (events events' : List Event) → Records r (λ _. Call (Made name)) events events' → Does (AtOnce r (Makes name)) (honest_of events) (honest_of events')
make_step r name events events' records =
    recorded r (λ _. Call (Made name)) (λ r. AtOnce r (Makes name)) events events' records
    (λ value t sound. record { there = (file_of (settled []), set_there name (Some (settled [])) t, record { bytes = refl; no_longer = omega arith }); others = set_others name (Some (settled [])) t })
    (λ fault d. inr refl)

pub remove_step : {T E : Type 0} (r : Result T E) (name : Name) (events events' : List Event) → Records r (λ _. Call (Removed name)) events events' → Does (AtOnce r (Removes name)) (honest_of events) (honest_of events')
remove_step r name events events' records =
    recorded r (λ _. Call (Removed name)) (λ r. AtOnce r (Removes name)) events events' records
    (λ value t sound. record { gone = set_there name None t; others = set_others name None t })
    (λ fault d. inr refl)

-- a swap, by whether the names are one and whether there is a file
swaps : (from to : Name) (t : Trace) → Swaps from to (disk_of t) (disk_of (swapped (moved_by from to t) from to t))
swaps from to t = by_name (bytes_eq from to) refl
  where
    moves : (file : Traced) → t from ≡ Some file → from ≢ to → Swaps from to (disk_of t) (disk_of (set_at from None (set_at to (Some file) t)))
    moves file is apart = record {
      one_name = λ same. absurd (apart same);
      absent = λ none. let e : Some (file_of file) ≡ None = sym (ap (λ (o : Option Traced). option_map file_of o) is) ∙ none in absurd (cc);
      moved = λ one differ there.
          let same : Some (file_of file) ≡ Some one = sym (ap (λ (o : Option Traced). option_map file_of o) is) ∙ there in
          set_others from None (set_at to (Some file) t) to (λ one_name. apart (sym one_name)) ∙ set_there to (Some file) t ∙ same;
      gone = λ differ. set_there from None (set_at to (Some file) t);
      others = λ other not_from not_to. set_others from None (set_at to (Some file) t) other not_from ∙ set_others to (Some file) t other not_to;
    }

    by_file : (o : Option Traced) → t from ≡ o → from ≢ to → Swaps from to (disk_of t) (disk_of (swapped o from to t))
    by_file None is apart = record {
      one_name = λ same. refl;
      absent = λ none. refl;
      moved = λ file differ there. let e : None ≡ Some file = sym (ap (λ (o : Option Traced). option_map file_of o) is) ∙ there in absurd (cc);
      gone = λ differ. ap (λ (o : Option Traced). option_map file_of o) is;
      others = λ other not_from not_to. refl;
    }
    by_file (Some file) is apart = moves file is apart

    by_name : (b : Bool) → bytes_eq from to ≡ b → Swaps from to (disk_of t) (disk_of (swapped (cond b None (t from)) from to t))
    by_name true h = record {
      one_name = λ same. refl;
      absent = λ none. refl;
      moved = λ file apart there. absurd (apart ((bytes_eq-Decides from to).0 h));
      gone = λ apart. absurd (apart ((bytes_eq-Decides from to).0 h));
      others = λ other not_from not_to. refl;
    }
    by_name false h = by_file (t from) refl (λ same. let e : true ≡ false = sym ((bytes_eq-Decides from to).1 same) ∙ h in absurd (cc))

pub swap_step : {T E : Type 0} (r : Result T E) (from to : Name) (events events' : List Event) → Records r (λ _. Call (Swapped from to)) events events' → Does (AtOnce r (Swaps from to)) (honest_of events) (honest_of events')
swap_step r from to events events' records =
    recorded r (λ _. Call (Swapped from to)) (λ r. AtOnce r (Swaps from to)) events events' records (λ value t sound. swaps from to t) (λ fault d. inr refl)

-- a file that was put, which is settled
pub put_there : (name : Name) (bytes : List ℕ) (events events' : List Event) → events' ≡ events ++ Put name bytes ∷ [] → (file : File) × (disk_of (after_all events' empty) name ≡ Some file) × (file.bytes ≡ bytes) × IsSettledFile file
put_there name bytes events events' is =
    let set = after_one events events' (Put name bytes) is in
    (file_of (settled bytes), ap (λ (t : Trace). disk_of t name) set ∙ set_there name (Some (settled bytes)) (after_all events empty), refl, settled_is bytes)

pub put_others : (name : Name) (bytes : List ℕ) (events events' : List Event) → events' ≡ events ++ Put name bytes ∷ [] → KeepsOthers name (disk_of (after_all events empty)) (disk_of (after_all events' empty))
put_others name bytes events events' is other apart =
    let set = after_one events events' (Put name bytes) is in
    ap (λ (t : Trace). disk_of t other) set ∙ set_others name (Some (settled bytes)) (after_all events empty) other apart
