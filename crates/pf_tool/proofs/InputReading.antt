-- The reading of an input, from its calls.
use Rattle.std.proofs.Common.{◌≡◌, inl, inr, ℕ, ◌+◌, ◌<◌, ◌≤◌, List, [], ◌∷◌, ◌++◌, length, refl, subst, ap, ◌∙◌, sym, arith, Option, Some, None, Result, Ok, Err, IfOk, IfErr}
use Rattle.std.specs.List.{concat}
use Rattle.std.proofs.lemmas.List.{append-nil}
use Rattle.pf_io.specs.Disk.{Name}
use Rattle.pf_io.specs.Host.{Answer, LengthWas, Gave, HostState, KeepsFiles}
use Rattle.pf_io.specs.Names.{IsName}
use Rattle.pf_io.specs.Slices.{SLICE, given_in_turn, AreWhole}
use Rattle.pf_io.specs.Unchanged.{KeepsDisk}
use Rattle.pf_io.proofs.Slices.{in_turn_append, concat_last}
use Rattle.pf_io.proofs.Unchanged.{kept_none, kept_then}
use Rattle.pf_tool.specs.World.{World, with_host}
use Rattle.pf_tool.specs.Events.{Event, Answers}
use Rattle.pf_tool.specs.Endings.{Done, Refused, BadName, NotFound, TooLarge, Stop, ending_line}
use Rattle.pf_tool.specs.Faults.{fault_line, fault_status}
use Rattle.pf_tool.specs.Happened.{HostPassed, HostFailed}
use Rattle.pf_tool.specs.InputFiles.{MOST_INPUT, asked, file_unnamed, file_absent, file_large, file_taken, InputLeads, InputRead}
use Rattle.pf_tool.specs.InputSlices.{SliceAdded, SliceFails, slice_failed, slice_starved, SlicesLead, SlicesRead}
use Rattle.pf_tool.specs.Outcomes.{Falls}
use Rattle.pf_tool.specs.declared.fault.Fault.{Fault}
use Rattle.pf_tool.specs.declared.fault.Fault.TheVariants as faults
use Rattle.pf_tool.specs.declared.why.Why.TheVariants as whys
use Rattle.pf_tool.proofs.Asking.{asked_then, passed_asked}
use Rattle.pf_tool.proofs.Composing.{host_none, host_then, files_kept, passed_none, passed_reading, failed_host}
use Rattle.pf_tool.proofs.Stopping.{falls_after, refused, host_fails, starves}

abbrev Kept : List Event → Stop → HostState → HostState → Type 0
Kept tried stop old new = KeepsDisk old new

-- after whole slices, of which the bytes are
pub record ReadTo (name : Name) (bytes : List ℕ) (old new : HostState) : Type 0 where
  pub whole : List (List ℕ)
  pub are_whole : AreWhole whole
  pub bytes_are : bytes ≡ concat whole
  pub small : length bytes ≤ MOST_INPUT
  pub passed : HostPassed (given_in_turn name 0 whole) old new
  pub files : KeepsFiles old new
  pub disk : KeepsDisk old new

pub read_none : (name : Name) (state : HostState) → ReadTo name [] state state
read_none name state = record {
  whole = [];
  are_whole = tt;
  bytes_are = refl;
  small = omega arith;
  passed = host_none state;
  files = refl;
  disk = kept_none state;
}

-- one slice more
whole_more : (whole : List (List ℕ)) (slice : List ℕ) → AreWhole whole → length slice ≡ SLICE → AreWhole (whole ++ slice ∷ [])
whole_more [] slice are is = (is, tt)
whole_more (first ∷ whole) slice are is = (are.0, whole_more whole slice are.1 is)

pub in_turn_more : (name : Name) (bytes : List ℕ) (whole : List (List ℕ)) (slice : List ℕ) → bytes ≡ concat whole → given_in_turn name 0 (whole ++ slice ∷ []) ≡ given_in_turn name 0 whole ++ Gave name (length bytes) SLICE slice ∷ []
in_turn_more name bytes whole slice are =
    let place : 0 + length (concat whole) ≡ length bytes = omega (arith, ap (λ (l : List ℕ). length l) are) in
    in_turn_append name 0 whole (slice ∷ []) ∙ ap (λ (k : ℕ). given_in_turn name 0 whole ++ Gave name k SLICE slice ∷ []) place

bytes_more : (bytes now slice : List ℕ) (whole : List (List ℕ)) → bytes ≡ concat whole → now ≡ bytes ++ slice → now ≡ concat (whole ++ slice ∷ [])
bytes_more bytes now slice whole are added = added ∙ ap (λ (l : List ℕ). l ++ slice) are ∙ sym (concat_last whole slice)

passed_more : (name : Name) (count : ℕ) (bytes now : List ℕ) (old mid new : HostState) → (was : ReadTo name bytes old mid) → (came : SliceAdded name count bytes now mid new) → HostPassed (given_in_turn name 0 (was.whole ++ came.slice ∷ [])) old new
passed_more name count bytes now old mid new was came =
    subst (λ (l : List Answer). HostPassed l old new) (sym (in_turn_more name bytes was.whole came.slice was.bytes_are))
    (host_then (given_in_turn name 0 was.whole) (Gave name (length bytes) SLICE came.slice ∷ []) old mid new was.passed came.passed (files_kept (Gave name (length bytes) SLICE came.slice ∷ []) old mid was.files came.passed.honest))

pub read_more : (name : Name) (count : ℕ) (bytes now : List ℕ) (old mid new : HostState) → ReadTo name bytes old mid → SliceAdded name count bytes now mid new → count ≡ SLICE → length now ≤ MOST_INPUT → KeepsFiles mid new → KeepsDisk mid new → ReadTo name now old new
read_more name count bytes now old mid new was came is small files disk = record {
  whole = was.whole ++ came.slice ∷ [];
  are_whole = whole_more was.whole came.slice was.are_whole (sym came.count_is ∙ is);
  bytes_are = bytes_more bytes now came.slice was.whole was.bytes_are came.added;
  small = small;
  passed = passed_more name count bytes now old mid new was came;
  files = files ∙ was.files;
  disk = kept_then old mid new was.disk disk;
}

-- the last slice
pub read_last : (name : Name) (count : ℕ) (bytes now : List ℕ) (old mid new : HostState) → ReadTo name bytes old mid → SliceAdded name count bytes now mid new → count < SLICE → length now ≤ MOST_INPUT → SlicesRead name now old new
read_last name count bytes now old mid new was came short small = record {
  these = given_in_turn name 0 (was.whole ++ came.slice ∷ []);
  taken = λ size. record {
    size = size;
    whole = was.whole;
    last = came.slice;
    are_whole = was.are_whole;
    ended = let e = came.count_is in omega (arith, short, e);
    asked = refl;
    bytes_are = bytes_more bytes now came.slice was.whole was.bytes_are came.added;
  };
  small = small;
  passed = passed_more name count bytes now old mid new was came;
}

module _ (name : Name) (named : IsName name) (size : ℕ) (world : World) where
  -- with an empty slice the file would be taken
  slice_next : (bytes : List ℕ) (whole : List (List ℕ)) → AreWhole whole → bytes ≡ concat whole → length bytes ≤ MOST_INPUT → SlicesLead name size (asked (given_in_turn name 0 whole) ++ Answers (Gave name (length bytes) SLICE []) ∷ []) Done
  slice_next bytes whole are_whole are small =
      let all = given_in_turn name 0 (whole ++ [] ∷ []) in
      let none : concat whole ++ [] ≡ bytes = append-nil (concat whole) ∙ sym are in
      let few : length (concat (whole ++ [] ∷ [])) ≤ MOST_INPUT = omega (arith, small, ap (λ (l : List ℕ). length l) (concat_last whole [] ∙ none)) in
      let events_are : asked (given_in_turn name 0 whole) ++ Answers (Gave name (length bytes) SLICE []) ∷ [] ≡ asked all =
      sym (asked_then (given_in_turn name 0 whole) (Gave name (length bytes) SLICE [] ∷ [])) ∙ ap asked (sym (in_turn_more name bytes whole [] are)) in
      inr (
        concat (whole ++ [] ∷ []),
        file_taken (concat (whole ++ [] ∷ [])) (LengthWas name (Some size) ∷ all) named (record { size = size; whole = whole; last = []; are_whole = are_whole; ended = omega arith; asked = refl; bytes_are = refl }) few
            (ap (λ (l : List Event). Answers (LengthWas name (Some size)) ∷ l) events_are) refl,
        refl,
      )

  pub read_failed : (fault : Fault) (bytes : List ℕ) (old mid new : HostState) → ReadTo name bytes old mid → SliceFails name (length bytes) fault mid new → KeepsDisk mid new → Falls (SlicesLead name size) (λ _ _. KeepsDisk) fault (with_host world old) (with_host world new)
  read_failed fault bytes old mid new was (slice_failed is failed) disk =
      host_fails (SlicesLead name size) Kept (asked (given_in_turn name 0 was.whole)) [] Done fault (with_host world old) (with_host world mid) (with_host world new) (Gave name (length bytes) SLICE []) is
      (slice_next bytes was.whole was.are_whole was.bytes_are was.small) (passed_asked (given_in_turn name 0 was.whole) world old mid was.passed) (failed_host (Gave name (length bytes) SLICE []) world mid new failed)
      (kept_then old mid new was.disk disk)
  read_failed fault bytes old mid new was (slice_starved is same) disk =
      subst (λ (s : HostState). Falls (SlicesLead name size) (λ _ _. KeepsDisk) fault (with_host world old) (with_host world s)) (sym same)
      (starves (SlicesLead name size) Kept (asked (given_in_turn name 0 was.whole)) [] (Answers (Gave name (length bytes) SLICE [])) Done fault (with_host world old) (with_host world mid) is
      (slice_next bytes was.whole was.are_whole was.bytes_are was.small) (passed_asked (given_in_turn name 0 was.whole) world old mid was.passed) was.disk)

  -- too many bytes with the last slice
  pub read_large : (count : ℕ) (bytes now : List ℕ) (old mid new : HostState) → ReadTo name bytes old mid → SliceAdded name count bytes now mid new → MOST_INPUT < length now → KeepsDisk mid new
      → Falls (SlicesLead name size) (λ _ _. KeepsDisk) (faults.Refused whys.TooLarge) (with_host world old) (with_host world new)
  read_large count bytes now old mid new was came large disk =
      let all = given_in_turn name 0 (was.whole ++ came.slice ∷ []) in
      let few : length (concat was.whole) ≤ MOST_INPUT = let s = was.small in omega (arith, s, ap (λ (l : List ℕ). length l) was.bytes_are) in
      let many : MOST_INPUT < length (concat (was.whole ++ came.slice ∷ [])) = omega (arith, large, ap (λ (l : List ℕ). length l) (bytes_more bytes now came.slice was.whole was.bytes_are came.added)) in
      refused (SlicesLead name size) Kept (asked all) (Refused TooLarge) (faults.Refused whys.TooLarge) (with_host world old) (with_host world new) refl refl
      (inl (file_large was.whole came.slice (LengthWas name (Some size) ∷ all) named (was.are_whole, (size, refl)) few many refl refl))
      (passed_asked all world old new (passed_more name count bytes now old mid new was came)) (kept_then old mid new was.disk disk)

-- the whole reading
module _ (name : Name) (world : World) (s0 : HostState) where
  pub no_name : ¬ (IsName name) → Falls (InputLeads name) (λ _ _. KeepsDisk) (faults.Refused whys.BadName) (with_host world s0) (with_host world s0)
  no_name unnamed =
      refused (InputLeads name) Kept [] (Refused BadName) (faults.Refused whys.BadName) (with_host world s0) (with_host world s0) refl refl (inl (file_unnamed unnamed refl refl)) (passed_none (with_host world s0)) (kept_none s0)

  module _ (named : IsName name) where
    pub no_length : (fault : Fault) (s1 : HostState) → fault ≡ faults.Host → HostFailed (LengthWas name None) s0 s1 → KeepsDisk s0 s1 → Falls (InputLeads name) (λ _ _. KeepsDisk) fault (with_host world s0) (with_host world s1)
    no_length fault s1 is failed kept =
        host_fails (InputLeads name) Kept [] [] (Refused (NotFound name)) fault (with_host world s0) (with_host world s0) (with_host world s1) (LengthWas name None) is (inl (file_absent named refl refl))
        (passed_none (with_host world s0)) (failed_host (LengthWas name None) world s0 s1 failed) kept

    pub no_file : (fault : Fault) (answer : Option ℕ) (s1 : HostState) → fault_line fault ≡ ending_line (Refused (NotFound name)) → fault_status fault ≡ 3 → answer ≡ None → HostPassed (LengthWas name answer ∷ []) s0 s1 → KeepsDisk s0 s1
        → Falls (InputLeads name) (λ _ _. KeepsDisk) fault (with_host world s0) (with_host world s1)
    no_file fault answer s1 says ends is passed kept =
        refused (InputLeads name) Kept (asked (LengthWas name answer ∷ [])) (Refused (NotFound name)) fault (with_host world s0) (with_host world s1) says ends
        (inl (file_absent named (ap (λ (o : Option ℕ). asked (LengthWas name o ∷ [])) is) refl)) (passed_asked (LengthWas name answer ∷ []) world s0 s1 passed) kept

    module _ (size : ℕ) (s1 s2 : HostState) (passed : HostPassed (LengthWas name (Some size) ∷ []) s0 s1) (files : KeepsFiles s0 s1) where
      pub slices_fall : (fault : Fault) → KeepsDisk s0 s2 → Falls (SlicesLead name size) (λ _ _. KeepsDisk) fault (with_host world s1) (with_host world s2) → Falls (InputLeads name) (λ _ _. KeepsDisk) fault (with_host world s0) (with_host world s2)
      slices_fall fault kept falls =
          falls_after (asked (LengthWas name (Some size) ∷ [])) (SlicesLead name size) (InputLeads name) fault (with_host world s0) (with_host world s1) (with_host world s2) falls
          (passed_asked (LengthWas name (Some size) ∷ []) world s0 s1 passed) files kept (λ es ending lead. lead)

      pub slices_read : (text : List ℕ) → SlicesRead name text s1 s2 → InputRead name text (with_host world s0) (with_host world s2)
      slices_read text read = record {
        events = asked (LengthWas name (Some size) ∷ read.these);
        reads = file_taken text (LengthWas name (Some size) ∷ read.these) named (read.taken size) read.small refl refl;
        passed = passed_reading (asked (LengthWas name (Some size) ∷ [])) (asked read.these) (with_host world s0) (with_host world s1) (with_host world s2)
            (passed_asked (LengthWas name (Some size) ∷ []) world s0 s1 passed) files (passed_asked read.these world s1 s2 read.passed);
      }

-- however the slices came
module _ (name : Name) (named : IsName name) (size : ℕ) (s0 s1 s2 : HostState) (passed : HostPassed (LengthWas name (Some size) ∷ []) s0 s1) (files : KeepsFiles s0 s1) where
  pub all_read : (r : Result (List ℕ) Fault) → IfOk r (λ text. SlicesRead name text s1 s2) → IfOk r (λ text. (world : World) → InputRead name text (with_host world s0) (with_host world s2))
  all_read (Ok text) read = λ world. slices_read name world s0 named size s1 s2 passed files text read
  all_read (Err fault) read = tt

  pub all_fall : (r : Result (List ℕ) Fault) → KeepsDisk s0 s2 → IfErr r (λ fault. (size : ℕ) (world : World) → Falls (SlicesLead name size) (λ _ _. KeepsDisk) fault (with_host world s1) (with_host world s2))
      → IfErr r (λ fault. (world : World) → Falls (InputLeads name) (λ _ _. KeepsDisk) fault (with_host world s0) (with_host world s2))
  all_fall (Ok text) kept falls = tt
  all_fall (Err fault) kept falls = λ world. slices_fall name world s0 named size s1 s2 passed files fault kept (falls size world)
