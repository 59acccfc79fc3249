-- Proofs, no definitions of what is promised: the disk that events leave reads as one of its images, and so does each outcome of a crash.
-- (They stand here since a law of a trait is proved by what `specs/` has.)
use Rattle.std.proofs.Common.{◌≡◌, ◌⊎◌, inl, inr, ℕ, ◌+◌, ◌<◌, ◌≤◌, max, Bool, true, false, cond, List, [], ◌∷◌, length, take, slice_get, refl, sym, ◌∙◌, ap, Option, Some, None, option_map, arith}
use Rattle.std.proofs.lemmas.List.{length-take, length-replicate}
use Rattle.std.specs.Prelude.{bytes_eq, unwrap_or}
use Rattle.pf_io.specs.Disk.{Name, IsImageAt, IsImage, read_of, reading}
use Rattle.pf_io.specs.Steps.{overwrite, reach}
use Rattle.pf_io.specs.Host.{Answer, LengthWas, Gave, Wrote, WasCut, Synced, Made, Swapped, Removed}
use Rattle.pf_io.specs.Replay.{Event, Call, Put, Traced, Trace, set_at, written, shortened, settled, moved_by, swapped, answered, after, after_all, empty, file_of, disk_of}
use Rattle.pf_io.specs.SplicingProofs.{get_take, get_inside, overwrite-length, overwrite-front, overwrite-back, unkept-length, unkept-kept}

-- What is kept of a file fits together: the lengths are in their range, and at a kept place the byte is that of the last sync.
pub record IsSound (file : Traced) : Type 0 where
  pub no_shorter : file.shortest ≤ length file.stored.bytes
  pub no_longer : length file.stored.bytes ≤ file.longest
  pub lost_no_shorter : file.shortest ≤ length file.stored.synced
  pub lost_no_longer : length file.stored.synced ≤ file.longest
  pub marks : length file.stored.kept ≡ length file.stored.bytes
  pub as_synced : (i : ℕ) → slice_get file.stored.kept i ≡ Some true → slice_get file.stored.synced i ≡ slice_get file.stored.bytes i

abbrev pub SoundAt : Option Traced → Type 0
SoundAt (Some file) = IsSound file
SoundAt None = Unit {0}

sound_map : (f : Traced → Traced) → ((file : Traced) → IsSound file → IsSound (f file)) → (o : Option Traced) → SoundAt o → SoundAt (option_map f o)
sound_map f each (Some file) sound = each file sound
sound_map f each None sound = tt

sound_set : (name : Name) (o : Option Traced) (t : Trace) → SoundAt o → ((m : Name) → SoundAt (t m)) → (m : Name) → SoundAt (set_at name o t m)
sound_set name o t there sound m = elim (bytes_eq name m) as (λ b. SoundAt (cond b o (t m))) [ true ↦ there | false ↦ sound m ]

sound_written : (at : ℕ) (bytes : List ℕ) (file : Traced) → IsSound file → IsSound (written at bytes file)
sound_written at bytes file sound = record {
  no_shorter = omega (arith, overwrite-length at bytes file.stored.bytes);
  no_longer = omega (arith, overwrite-length at bytes file.stored.bytes);
  lost_no_shorter = sound.lost_no_shorter;
  lost_no_longer = omega arith;
  marks = unkept-length at (length bytes) file.stored.kept ∙ ap (λ (n : ℕ). max n (reach at (length bytes))) sound.marks ∙ sym (overwrite-length at bytes file.stored.bytes);
  as_synced = λ i is. at_place i (unkept-kept at (length bytes) file.stored.kept i is);
}
  where
    at_place : (i : ℕ) → (slice_get file.stored.kept i ≡ Some true) × ((i < at) ⊎ (at + length bytes ≤ i)) → slice_get file.stored.synced i ≡ slice_get (overwrite at bytes file.stored.bytes) i
    at_place i (is, inl lt) = sound.as_synced i is ∙ sym (overwrite-front at bytes file.stored.bytes i lt (omega (arith, get_inside file.stored.kept i true is, sound.marks)))
    at_place i (is, inr le) = sound.as_synced i is ∙ sym (overwrite-back at bytes file.stored.bytes i le)

sound_shortened : (len : ℕ) (file : Traced) → IsSound file → IsSound (shortened len file)
sound_shortened len file sound = record {
  no_shorter = omega (arith, length-take len file.stored.bytes);
  no_longer = omega (arith, length-take len file.stored.bytes);
  lost_no_shorter = omega arith;
  lost_no_longer = sound.lost_no_longer;
  marks = omega (arith, length-take len file.stored.bytes, length-take len file.stored.kept, sound.marks);
  as_synced = λ i is.
      let lt : i < len = omega (arith, get_inside (take len file.stored.kept) i true is, length-take len file.stored.kept) in
      sound.as_synced i (sym (get_take len file.stored.kept i lt) ∙ is) ∙ sym (get_take len file.stored.bytes i lt);
}

sound_settled : (bytes : List ℕ) → IsSound (settled bytes)
sound_settled bytes = record {
  no_shorter = omega arith;
  no_longer = omega arith;
  lost_no_shorter = omega arith;
  lost_no_longer = omega arith;
  marks = length-replicate (length bytes) true;
  as_synced = λ i is. refl;
}

sound_moved : (from to : Name) (t : Trace) → ((m : Name) → SoundAt (t m)) → SoundAt (moved_by from to t)
sound_moved from to t sound = elim (bytes_eq from to) as (λ b. SoundAt (cond b None (t from))) [ true ↦ tt | false ↦ sound from ]

sound_swapped : (o : Option Traced) (from to : Name) (t : Trace) → SoundAt o → ((m : Name) → SoundAt (t m)) → (m : Name) → SoundAt (swapped o from to t m)
sound_swapped None from to t there sound m = sound m
sound_swapped (Some file) from to t there sound m = sound_set from None (set_at to (Some file) t) tt (sound_set to (Some file) t there sound) m

sound_answered : (answer : Answer) (t : Trace) → ((m : Name) → SoundAt (t m)) → (m : Name) → SoundAt (answered answer t m)
sound_answered (LengthWas name len) t sound = sound
sound_answered (Gave name place room bytes) t sound = sound
sound_answered (Wrote name place bytes) t sound = sound_set name (option_map (written place bytes) (t name)) t (sound_map (written place bytes) (sound_written place bytes) (t name) (sound name)) sound
sound_answered (WasCut name len) t sound = sound_set name (option_map (shortened len) (t name)) t (sound_map (shortened len) (sound_shortened len) (t name) (sound name)) sound
sound_answered (Synced name) t sound = sound_set name (option_map (λ file. settled file.stored.bytes) (t name)) t (sound_map (λ file. settled file.stored.bytes) (λ file _. sound_settled file.stored.bytes) (t name) (sound name)) sound
sound_answered (Made name) t sound = sound_set name (Some (settled [])) t (sound_settled []) sound
sound_answered (Swapped from to) t sound = sound_swapped (moved_by from to t) from to t (sound_moved from to t sound) sound
sound_answered (Removed name) t sound = sound_set name None t tt sound

sound_after : (event : Event) (t : Trace) → ((m : Name) → SoundAt (t m)) → (m : Name) → SoundAt (after event t m)
sound_after (Call answer) t sound = sound_answered answer t sound
sound_after (Put name bytes) t sound = sound_set name (Some (settled bytes)) t (sound_settled bytes) sound

sound_all : (events : List Event) (t : Trace) → ((m : Name) → SoundAt (t m)) → (m : Name) → SoundAt (after_all events t m)
sound_all [] t sound = sound
sound_all (event ∷ events) t sound = sound_all events (after event t) (sound_after event t sound)

-- so after all events
pub sound_events : (events : List Event) (name : Name) → SoundAt (after_all events empty name)
sound_events events = sound_all events empty (λ m. tt)

-- a mark that says so
pub mark_true : (o : Option Bool) → unwrap_or o false ≡ true → o ≡ Some true
mark_true (Some true) is = refl
mark_true (Some false) is = absurd (cc)
mark_true None is = absurd (cc)

image_at : (o : Option Traced) → SoundAt o → IsImageAt (option_map file_of o) (read_of (option_map file_of o))
image_at (Some file) sound = record { no_shorter = sound.no_shorter; no_longer = sound.no_longer; kept = λ i keeps. refl }
image_at None sound = tt

pub reads_as_image : (events : List Event) → IsImage (disk_of (after_all events empty)) (reading (disk_of (after_all events empty)))
reads_as_image events name = image_at (after_all events empty name) (sound_events events name)
