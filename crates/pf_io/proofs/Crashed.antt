-- What a host in memory has after a crash is an image of what it had.
use Rattle.std.proofs.Common.{◌≡◌, ℕ, zero, suc, ◌<◌, Bool, true, false, cond, List, [], ◌∷◌, ◌++◌, length, get_or, drop, slice_get, refl, sym, ◌∙◌, ap, subst, Option, Some, None, arith}
use Rattle.std.specs.Prelude.{option_map, bytes_eq}
use Rattle.pf_io.specs.Disk.{Name, IsFileImage, IsImageAt, IsSettledAt, IsCrashOf, read_of, reading}
use Rattle.pf_io.specs.Replay.{Event, Put, Stored, Traced, Trace, answers_of, set_at, settled, after_all, empty, file_of, disk_of}
use Rattle.pf_io.specs.Storage.{look, stored_of, filled, torn_bytes, stored_after, IsTorn}
use Rattle.pf_io.specs.SoundProofs.{IsSound, SoundAt, sound_events, mark_true}
use Rattle.std.proofs.Math.Seq.{drop-cons}
use Rattle.pf_io.specs.declared.storage.Entry.{Entry}
use Rattle.pf_io.specs.declared.tear.Tear.{Tear}
use Rattle.pf_io.specs.declared.tear.Tear.TheVariants.{Kept, Lost, Fill}
use Rattle.pf_io.proofs.Stored.{look_cons}
use Rattle.pf_io.proofs.Recorded.{after_one, answers-put}
use Rattle.pf_io.proofs.Stepping.{settled_is}

filled-length : (byte : ℕ) (bytes : List ℕ) (kept : List Bool) → length kept ≡ length bytes → length (filled byte bytes kept) ≡ length bytes
filled-length byte [] kept same = refl
filled-length byte (x ∷ bytes) [] same = absurd (omega arith)
filled-length byte (x ∷ bytes) (k ∷ kept) same = ap (λ (n : ℕ). suc n) (filled-length byte bytes kept (omega arith))

-- a kept place has the byte that was read
filled-kept : (byte : ℕ) (bytes : List ℕ) (kept : List Bool) (i : ℕ) → length kept ≡ length bytes → slice_get kept i ≡ Some true → slice_get (filled byte bytes kept) i ≡ slice_get bytes i
filled-kept byte [] kept i same is = refl
filled-kept byte (x ∷ bytes) [] i same is = absurd (omega arith)
filled-kept byte (x ∷ bytes) (k ∷ kept) zero same is = let e : k ≡ true = cc in ap (λ (k : Bool). Some (cond k x byte)) e
filled-kept byte (x ∷ bytes) (k ∷ kept) (suc i) same is = filled-kept byte bytes kept i (omega arith) is

torn_image : (tear : Tear) (file : Traced) → IsSound file → IsFileImage (file_of file) (torn_bytes tear file.stored)
torn_image Kept file sound = record { no_shorter = sound.no_shorter; no_longer = sound.no_longer; kept = λ i keeps. refl }
torn_image Lost file sound = record { no_shorter = sound.lost_no_shorter; no_longer = sound.lost_no_longer; kept = λ i keeps. sound.as_synced i (mark_true _ keeps) }
torn_image (Fill byte) file sound =
    let same = filled-length byte file.stored.bytes file.stored.kept sound.marks in
    record {
      no_shorter = omega (arith, same, sound.no_shorter);
      no_longer = omega (arith, same, sound.no_longer);
      kept = λ i keeps. filled-kept byte file.stored.bytes file.stored.kept i sound.marks (mark_true _ keeps);
    }

image_at : (tear : Tear) (o : Option Traced) → SoundAt o → IsImageAt (option_map file_of o) (option_map (torn_bytes tear) (option_map (λ file. file.stored) o))
image_at tear (Some file) sound = torn_image tear file sound
image_at tear None sound = tt

settled_at : (tear : Tear) (o : Option Stored) → IsSettledAt (option_map file_of (option_map (λ file. settled (torn_bytes tear file)) o))
settled_at tear (Some file) = settled_is (torn_bytes tear file)
settled_at tear None = tt

read_settled : (tear : Tear) (o : Option Stored) → read_of (option_map file_of (option_map (λ file. settled (torn_bytes tear file)) o)) ≡ option_map (torn_bytes tear) o
read_settled tear (Some file) = refl
read_settled tear None = refl

-- what each name reads after the crash
pub torn_reads : (tear : Tear) (files : Name → Option Stored) (events : List Event) → IsTorn tear files events → (name : Name) → reading (disk_of (after_all events empty)) name ≡ option_map (torn_bytes tear) (files name)
torn_reads tear files events torn name = ap (λ (o : Option Traced). read_of (option_map file_of o)) (torn name) ∙ read_settled tear (files name)

pub crash_of : (tear : Tear) (files : Name → Option Stored) (old events : List Event) → ((name : Name) → files name ≡ stored_after old name) → IsTorn tear files events
    → IsCrashOf (disk_of (after_all old empty)) (disk_of (after_all events empty))
crash_of tear files old events stores torn = record {
  image = λ name.
      let reads = torn_reads tear files events torn name ∙ ap (λ (o : Option Stored). option_map (torn_bytes tear) o) (stores name) in
      subst (λ (o : Option (List ℕ)). IsImageAt (disk_of (after_all old empty) name) o) (sym reads) (image_at tear (after_all old empty name) (sound_events old name));
  settled = λ name. subst (λ (o : Option Traced). IsSettledAt (option_map file_of o)) (sym (torn name)) (settled_at tear (files name));
}

-- one file more, at the front of those put before
pub torn_more : (tear : Tear) (old : List Entry) (k j : ℕ) (entry : Entry) (events events' : List Event) (name : Name) (bytes : List ℕ) → k ≡ suc j → j < length old → entry ≡ get_or old j entry
    → name ≡ entry.name.items → bytes ≡ torn_bytes tear (stored_of entry.file) → IsTorn tear (look (drop k old)) events → events' ≡ events ++ Put name bytes ∷ [] → IsTorn tear (look (drop j old)) events'
torn_more tear old k j entry events events' name bytes k_is inside entry_is name_is bytes_is torn records m =
    ap (λ (t : Trace). t m) (after_one events events' (Put name bytes) records)
    ∙ ap (λ (n : Name). set_at n (Some (settled bytes)) (after_all events empty) m) name_is
    ∙ ap (λ (b : List ℕ). set_at entry.name.items (Some (settled b)) (after_all events empty) m) bytes_is
    ∙ ap (λ (o : Option Traced). cond (bytes_eq entry.name.items m) (Some (settled (torn_bytes tear (stored_of entry.file)))) o) (torn m ∙ ap (λ (i : ℕ). option_map crashed (look (drop i old) m)) k_is)
    ∙ mapped (bytes_eq entry.name.items m) (stored_of entry.file) (look (drop (suc j) old) m)
    ∙ ap (λ (o : Option Stored). option_map crashed o) (sym (look_cons entry (drop (suc j) old) m))
    ∙ ap (λ (e : Entry). option_map crashed (look (e ∷ drop (suc j) old) m)) entry_is
    ∙ ap (λ (l : List Entry). option_map crashed (look l m)) (sym (drop-cons old j entry inside))
  where
    crashed : Stored → Traced
    crashed file = settled (torn_bytes tear file)

    mapped : (b : Bool) (s : Stored) (o : Option Stored) → cond b (Some (crashed s)) (option_map crashed o) ≡ option_map crashed (cond b (Some s) o)
    mapped true s o = refl
    mapped false s o = refl

-- a put file is no answer
pub put_unanswered : (events events' : List Event) (name : Name) (bytes : List ℕ) → answers_of events ≡ [] → events' ≡ events ++ Put name bytes ∷ [] → answers_of events' ≡ []
put_unanswered events events' name bytes none records = ap answers_of records ∙ answers-put events name bytes ∙ none
