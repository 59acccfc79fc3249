-- The seals of dirty nodes and node 0, as calls of a host and on an honest disk.
use Rattle.std.proofs.Common.{◌≡◌, inl, inr, ℕ, zero, suc, ◌+◌, ◌-◌, ◌*◌, ◌<◌, ◌≤◌, max, List, [], ◌∷◌, ◌++◌, length, take, drop, refl, ap, ap₂, ◌∙◌, sym, subst, arith, append_assoc, length-drop, Option, Some, Result, Ok, Err, OnOk}
use Rattle.std.specs.Prelude.{slice_get}
use Rattle.pf_io.specs.Counts.{HasCause, counted, counted_times}
use Rattle.pf_io.specs.Disk.{Name, File, Disk, Image}
use Rattle.pf_io.specs.Host.{Answer, Wrote, Synced, HostState, Both, IsMore, Tells, CountsNeither}
use Rattle.pf_io.specs.Moments.{Honest, Does, Ran, Ends}
use Rattle.pf_io.specs.SplicingProofs.{get_take, get_drop, overwrite-length, overwrite-back}
use Rattle.pf_io.specs.Steps.{KeepsOthers, Changes, Writes, Syncs, overwrite, reach}
use Rattle.pf_io.proofs.Images.{same_elements, follows_at, others_then}
use Rattle.pf_io.proofs.Telling.{both_then, both_weaker}
use Rattle.node_layout.specs.Metadata.{meta_text, meta_block}
use Rattle.node_tree.specs.Next.{NextSheet, SealsNext, IsSealedAs}
use Rattle.node_tree.specs.Opened.{block_of}
use Rattle.node_tree.specs.Sealing.{seal_for, writes_of, CountsPuts, CountsWrites, PutsFront, LeavesOutside, HasSealsOf, PutEnds}
use Rattle.node_tree.specs.Sheet.{Sheet, meta_of}
use Rattle.node_tree.specs.State.{TreeState, sealed_root, plain_or}
use Rattle.node_tree.proofs.Seals.{written}
use Rattle.pf_session.specs.Asking.{Failing, NoCall, AWriting, reads_in, writes_in, Asked, Stopped}
use Rattle.pf_session.specs.Sealing.{LeavesOthers, HasNext, HasSealed, SealsFile, SealLeaves}
use Rattle.pf_session.specs.Making.{StepsGo}
use Rattle.pf_session.specs.Steps.{node_of}
use Rattle.pf_session.proofs.Calls.{reads_then, writes_then, asked_then, same_asked, same_stopped, stopped_then, stopped_first, asked_neither, failed_neither}

pub seals_next : (sheet : Sheet) (tree : TreeState) (path nonce : List ℕ) (keys : List (List ℕ)) (next : Sheet) → HasNext sheet tree path nonce keys next → SealsNext sheet tree keys next
seals_next sheet tree path nonce keys next has = record { path = path; nonce = nonce; linked = has.linked; backs = has.backs; is_next = has.is_next }

-- the seals are writes
module _ (name : Name) (held : ℕ → Option (List ℕ)) where
  put_reads : (numbers : List ℕ) (keys : List (List ℕ)) (f : Failing) → reads_in (writes_of name held numbers keys) f ≡ reads_in [] f
  put_reads [] keys f = refl
  put_reads (k ∷ numbers) [] f = refl
  put_reads (k ∷ numbers) (key ∷ keys) f =
      reads_then (writes_of name held numbers keys) (Wrote name (4096 * k) (seal_for key (plain_or (held k) [])) ∷ []) f
      ∙ ap (λ (n : ℕ). n + reads_in [] f) (put_reads numbers keys NoCall) ∙ (let e : 0 + reads_in [] f ≡ reads_in [] f = omega arith in e)

  put_writes : (numbers : List ℕ) (keys : List (List ℕ)) (f : Failing) → length keys ≡ length numbers → writes_in (writes_of name held numbers keys) f ≡ length keys + writes_in [] f
  put_writes [] [] f same = let e : writes_in [] f ≡ 0 + writes_in [] f = omega arith in e
  put_writes [] (key ∷ keys) f same = absurd (omega arith)
  put_writes (k ∷ numbers) [] f same = absurd (omega arith)
  put_writes (k ∷ numbers) (key ∷ keys) f same =
      let rest : writes_in (writes_of name held numbers keys) NoCall ≡ length keys + 0 = put_writes numbers keys NoCall (omega arith) in
      let all = writes_then (writes_of name held numbers keys) (Wrote name (4096 * k) (seal_for key (plain_or (held k) [])) ∷ []) f in
      omega (arith, rest, all)

  -- where one failed, those of the numbers behind it were made
  put_split : (numbers : List ℕ) (keys : List (List ℕ)) (j : ℕ) → j < length numbers → length keys ≡ length numbers
      → (place : ℕ) × (bytes : List ℕ) × (left : List Answer) × (writes_of name held numbers keys ≡ writes_of name held (drop (suc j) numbers) (drop (suc j) keys) ++ Wrote name place bytes ∷ left)
  put_split [] keys j lt same = absurd (omega arith)
  put_split (k ∷ numbers) [] j lt same = absurd (omega arith)
  put_split (k ∷ numbers) (key ∷ keys) zero lt same = (4096 * k, seal_for key (plain_or (held k) []), [], refl)
  put_split (k ∷ numbers) (key ∷ keys) (suc j) lt same =
      let rest = put_split numbers keys j (omega arith) (omega arith) in
      let last = Wrote name (4096 * k) (seal_for key (plain_or (held k) [])) ∷ [] in
      (rest.0, rest.1, rest.2 ++ last, ap (λ (l : List Answer). l ++ last) rest.3 ∙ append_assoc (writes_of name held (drop (suc j) numbers) (drop (suc j) keys)) (Wrote name rest.0 rest.1 ∷ rest.2) last)

  pub asked_puts : (numbers : List ℕ) (keys : List (List ℕ)) (old new : HostState) → length keys ≡ length numbers → Both old.given new.given (IsMore (writes_of name held numbers keys)) → new.faults ≡ old.faults → CountsPuts (length keys) old new
      → CountsWrites (length keys) old new → Asked (writes_of name held numbers keys) NoCall old new
  asked_puts numbers keys old new same told calm counts calls = record {
    told = told;
    faults = calm;
    reads = calls.reads ∙ ap (λ (n : ℕ). counted_times n old.reads) (sym (put_reads numbers keys NoCall));
    writes = calls.writes ∙ ap (λ (n : ℕ). counted_times n old.writes) (let w = put_writes numbers keys NoCall same in let e : length keys ≡ writes_in (writes_of name held numbers keys) NoCall = omega (arith, w) in e);
    widest = counts.widest;
  }

  pub stopped_puts : (numbers : List ℕ) (keys : List (List ℕ)) (old new : HostState) → length keys ≡ length numbers → PutsFront name held numbers keys old new → new.faults ≡ counted old.faults → CountsPuts (length keys) old new
      → Stopped (writes_of name held numbers keys) old new
  stopped_puts numbers keys old new same front once counts =
      let j = front.left - 1 in
      let up : front.left ≡ suc j = let u = front.undone in omega arith in
      let lt : j < length numbers = let w = front.within in let u = front.undone in omega arith in
      let split = put_split numbers keys j lt same in
      let those = drop (suc j) numbers in
      let their_keys = drop (suc j) keys in
      let one_each : length their_keys ≡ length those = omega (arith, length-drop (suc j) numbers, length-drop (suc j) keys) in
      let told = subst (λ (n : ℕ). Both old.given new.given (IsMore (writes_of name held (drop n numbers) (drop n keys)))) up front.told in
      let count : length numbers - front.left + 1 ≡ writes_in (writes_of name held those their_keys) AWriting = let w = put_writes those their_keys AWriting one_each in omega (arith, w, up, length-drop (suc j) keys) in
      record {
        answered = writes_of name held those their_keys;
        failed = Wrote name split.0 split.1;
        left = split.2;
        in_order = split.3;
        asked = record {
          told = told;
          faults = once;
          reads = front.calls.reads ∙ ap (λ (n : ℕ). counted_times n old.reads) (sym (put_reads those their_keys AWriting));
          writes = front.calls.writes ∙ ap (λ (n : ℕ). counted_times n old.writes) count;
          widest = counts.widest;
        };
      }

-- the last call is a sync
pub synced : {T E : Type 0} (r : Result T E) (name : Name) (front : List Answer) (old mid new : HostState) → Asked front NoCall old mid → Tells r (λ _. Synced name) mid new → HasCause mid.faults new.faults r → CountsNeither mid new
    → StepsGo r (front ++ Synced name ∷ []) old new
synced (Ok value) name front old mid new first told cause counts = asked_then front (Synced name ∷ []) NoCall old mid new first (asked_neither (Synced name) mid new refl refl told cause.still counts)
synced (Err fault) name front old mid new first told cause counts = stopped_then front (Synced name ∷ []) old mid new first (stopped_first (Synced name) [] mid new (failed_neither mid new told cause.once counts))

-- no other name changes
outside_others : (name : Name) (dirty : List ℕ) (d : Disk) (image : Image) → LeavesOutside name dirty d image → LeavesOthers name d image
outside_others name dirty d image left = left.others

put_others : {T E : Type 0} (r : Result T E) (R : File → File → Type 0) (name : Name) (d e : Disk) → PutEnds r R name d e → KeepsOthers name d e
put_others (Ok value) R name d e puts = puts.others
put_others (Err fault) R name d e keeps = keeps

pub put_alone : {T E : Type 0} (r : Result T E) (R : File → File → Type 0) (name : Name) (dirty : List ℕ) (o p : Option Honest) → Both o p (Ran (LeavesOutside name dirty) (PutEnds r R name)) → Both o p (Ran (LeavesOthers name) (KeepsOthers name))
put_alone r R name dirty o p ran =
    both_weaker _ (Ran (LeavesOthers name) (KeepsOthers name)) o p ran
    (λ a b run. record {
      leaves = record {
        later = run.leaves.later;
        each = λ image left. (run.leaves.each image left).others;
        earlier = λ t image le left. elim (run.leaves.earlier t image le left) [ inl was ↦ inl was | inr now ↦ inr now.others ];
      };
      ends = put_others r R name a.now b.now run.ends;
    })

-- in the end of more calls
pub ends_then : (Q R : Disk → Disk → Type 0) (step : Disk → Disk → Type 0) (o p q : Option Honest) → Both o p (Ends Q) → Both p q (Does step) → ((d e f : Disk) → Q d e → step e f → R d f) → Both o q (Ends R)
ends_then Q R step o p q ends does go = both_then (Ends Q) (Does step) (Ends R) o p q ends does (λ a b c one two. go a.now b.now c.now one two.disk)

-- node 0 of the next sheet
pub node_is : (key path nonce : List ℕ) (sheet : Sheet) (tree : TreeState) (keys : List (List ℕ)) (next : Sheet) (mid : TreeState) → NextSheet sheet tree path nonce keys next → IsSealedAs next mid → node_of key path nonce mid ≡ meta_block key next.nonce (meta_of next)
node_is key path nonce sheet tree keys next mid is shape =
    ap₂ (λ (p : List ℕ) (s : ℕ). meta_block key nonce (meta_text p s (sealed_root mid).0 (sealed_root mid).1 mid.first)) (sym is.path_is) (sym shape.size)
    ∙ ap₂ (λ (r : List ℕ × List ℕ) (f : List ℕ). meta_block key nonce (meta_text next.path (length next.content) r.0 r.1 f)) shape.root shape.first
    ∙ ap (λ (n : List ℕ). meta_block key n (meta_of next)) (sym is.nonce_is)

-- node 0 is written over
module _ (block file : List ℕ) (long : length block ≡ 4096) where
  reached : reach 0 (length block) ≡ 4096
  reached = ap (reach 0) long

  pub new_length : length (overwrite 0 block file) ≡ max (length file) 4096
  new_length = omega (arith, overwrite-length 0 block file, reached)

  pub node_0_there : (i : ℕ) → i < 4096 → slice_get (overwrite 0 block file) i ≡ slice_get block i
  node_0_there i lt = sym (get_take 4096 (overwrite 0 block file) i lt) ∙ ap (λ (l : List ℕ). slice_get l i) (written 0 block file long)

  pub behind_it : (i : ℕ) → 4096 ≤ i → slice_get (overwrite 0 block file) i ≡ slice_get file i
  behind_it i le = overwrite-back 0 block file i (omega (arith, long))

  block_still : (k : ℕ) → 1 ≤ k → block_of (overwrite 0 block file) k ≡ block_of file k
  block_still k low =
      ap (λ (l : List ℕ). take 4096 l)
      (same_elements (drop (4096 * k) (overwrite 0 block file)) (drop (4096 * k) file) (omega (arith, length-drop (4096 * k) (overwrite 0 block file), length-drop (4096 * k) file, new_length))
      (λ i lt. get_drop (4096 * k) (overwrite 0 block file) i ∙ behind_it (4096 * k + i) (omega arith) ∙ sym (get_drop (4096 * k) file i)))

pub has_sealed : (key : List ℕ) (next : Sheet) (dirty block old mid : List ℕ) → length block ≡ 4096 → block ≡ meta_block key next.nonce (meta_of next) → HasSealsOf next dirty old mid → HasSealed key next dirty old (overwrite 0 block mid)
has_sealed key next dirty block old mid long is seals = record {
  node_0 = λ i lt. node_0_there block mid long i lt ∙ ap (λ (l : List ℕ). slice_get l i) is;
  seals = λ k node among has. block_still block mid long k has.numbered ∙ seals.seals k node among has;
  longer = let l = seals.longer in omega (arith, l, new_length block mid long);
  at_least = omega (arith, new_length block mid long);
  before = λ i low lt outside. behind_it block mid long i low ∙ seals.before i lt outside;
}

abbrev pub PutMore : List ℕ → Sheet → List ℕ → Name → Disk → Disk → Type 0
PutMore key next dirty name old new = KeepsOthers name old new × ((file : File) → old name ≡ Some file → (file' : File) × (new name ≡ Some file') × HasSealed key next dirty file.bytes file'.bytes)

module _ (key : List ℕ) (next : Sheet) (dirty : List ℕ) (name : Name) where
  pub node_put : (T E U F : Type 0) (value : T) (other : U) (block : List ℕ) (o p q : Option Honest) → length block ≡ 4096 → block ≡ meta_block key next.nonce (meta_of next)
      → Both o p (Ends (PutEnds {T = T} {E = E} (Ok value) (λ old new. HasSealsOf next dirty old.bytes new.bytes) name)) → Both p q (Does (Changes name (Writes {T = U} {E = F} 0 block (Ok other)))) → Both o q (Ends (PutMore key next dirty name))
  node_put T E U F value other block o p q long is puts does =
      ends_then (PutEnds {T = T} {E = E} (Ok value) (λ old new. HasSealsOf next dirty old.bytes new.bytes) name) (PutMore key next dirty name) (Changes name (Writes {T = U} {E = F} 0 block (Ok other))) o p q puts does
      (λ d e f put change. (
        others_then name d e f put.others change.others,
        λ file there.
            let a = put.there file there in
            let b = follows_at (Writes {T = U} {E = F} 0 block (Ok other)) (e name) (f name) a.0 a.1 change.there in
            (b.0, b.1, subst (λ (l : List ℕ). HasSealed key next dirty file.bytes l) (sym b.2.reads) (has_sealed key next dirty block file.bytes a.0.bytes long is a.2)),
      ))

  pub synced_file : {T E : Type 0} (r : Result T E) (o p q : Option Honest) → Both o p (Ends (PutMore key next dirty name)) → Both p q (Does (Changes name (Syncs r))) → Both o q (Ends (SealLeaves r key next dirty name))
  synced_file {T} {E} (Ok value) o p q puts does =
      ends_then (PutMore key next dirty name) (SealsFile key next dirty name) (Changes name (Syncs {T = T} {E = E} (Ok value))) o p q puts does
      (λ d e f put change. record {
        others = others_then name d e f put.0 change.others;
        there = λ file there.
            let a = put.1 file there in
            let b = follows_at (Syncs {T = T} {E = E} (Ok value)) (e name) (f name) a.0 a.1 change.there in
            (b.0, b.1, b.2.settled, subst (λ (l : List ℕ). HasSealed key next dirty file.bytes l) (sym b.2.reads) a.2);
      })
  synced_file {T} {E} (Err fault) o p q puts does =
      ends_then (PutMore key next dirty name) (KeepsOthers name) (Changes name (Syncs {T = T} {E = E} (Err fault))) o p q puts does (λ d e f put change. others_then name d e f put.0 change.others)

pub ok_sealed : {T E : Type 0} (r : Result T E) {P : Type 0} → P → OnOk r P
ok_sealed (Ok value) holds = holds
ok_sealed (Err fault) holds = tt

pub go_same : {T E : Type 0} (r : Result T E) (xs ys : List Answer) (old new : HostState) → xs ≡ ys → StepsGo r xs old new → StepsGo r ys old new
go_same (Ok value) xs ys old new same go = same_asked xs ys NoCall old new same go
go_same (Err fault) xs ys old new same go = same_stopped xs ys old new same go
