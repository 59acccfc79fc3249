-- A side file that is made of a node 0 and of the other nodes of a file.
use Rattle.std.proofs.Common.{◌≡◌, ◌≢◌, ℕ, ◌-◌, ◌*◌, ◌≤◌, List, [], ◌∷◌, ◌++◌, length, ◌∙◌, sym, subst, arith, Option, Some, Result, Ok, Err}
use Rattle.std.specs.Prelude.{Contains}
use Rattle.pf_io.specs.Disk.{Name, File, Disk, read_of}
use Rattle.pf_io.specs.Host.{Gave, Made, HostState, Both, contents}
use Rattle.pf_io.specs.Moments.{Honest, Does, Ran}
use Rattle.pf_io.specs.Steps.{KeepsOthers, Changes, Writes, Syncs, overwrite}
use Rattle.pf_io.proofs.Images.{follows_at, others_then}
use Rattle.pf_session.specs.Aside.{LeavesOthers, ChangesAlone}
use Rattle.pf_session.specs.Asking.{NoCall, AnotherCall, Asked, Stopped}
use Rattle.pf_session.specs.Copying.{copied, clean_below, Copied, CopyGoes}
use Rattle.pf_session.specs.Relocating.{put_steps, PutsNode, PutLeaves, IsCopyOf, HasCopy, CopyMade, CopyFailed, CopyFileGoes}
use Rattle.pf_session.specs.declared.fault.FlushFault.{FlushFault}
use Rattle.pf_session.specs.declared.fault.FlushFault.TheVariants as faults
use Rattle.pf_session.proofs.Calls.{asked_then, stopped_then, stopped_more, stopped_first}
use Rattle.pf_session.proofs.Copied.{any_blocks}
use Rattle.pf_session.proofs.Disks.{first_change, next_change, next_changes}
use Rattle.pf_session.proofs.Lists.{clean_member}
use Rattle.pf_session.proofs.Replace.{HasCopied}
use Rattle.pf_session.proofs.Sealed.{node_0_there, behind_it, new_length}

-- node 0

module _ (name : Name) (node : List ℕ) where
  -- it was written, and the write is pending
  record IsPut (old new : Disk) : Type 0 where
    others : KeepsOthers name old new
    there : (file : File) → old name ≡ Some file → (file' : File) × (new name ≡ Some file') × (file'.bytes ≡ overwrite 0 node file.bytes)

  pub unput_run : {T E : Type 0} (r : Result T E) (o p : Option Honest) → Both o p (Does (Changes name (Writes 0 node r))) → Both o p (Ran (LeavesOthers name) (KeepsOthers name))
  unput_run r o p does = first_change name (KeepsOthers name) (Changes name (Writes 0 node r)) o p does (λ d e change. (change.others, change.others))

  put_run : (T E : Type 0) (x : T) (o p : Option Honest) → Both o p (Does (Changes name (Writes {T = T} {E = E} 0 node (Ok x)))) → Both o p (Ran (LeavesOthers name) IsPut)
  put_run T E x o p does =
      first_change name IsPut (Changes name (Writes {T = T} {E = E} 0 node (Ok x))) o p does
      (λ d e change. (
        change.others,
        record {
          others = change.others;
          there = λ file there. let next = follows_at (Writes {T = T} {E = E} 0 node (Ok x)) (d name) (e name) file there change.there in (next.0, next.1, next.2.reads);
        },
      ))

  pub put_synced : {T E : Type 0} (r : Result T E) (U F : Type 0) (x : U) (o p q : Option Honest) → Both o p (Does (Changes name (Writes {T = U} {E = F} 0 node (Ok x)))) → Both p q (Does (Changes name (Syncs r)))
      → Both o q (Ran (LeavesOthers name) (PutLeaves r name node))
  put_synced {T} {E} (Ok y) U F x o p q put does =
      next_change name IsPut (PutsNode name node) (Changes name (Syncs {T = T} {E = E} (Ok y))) o p q (put_run U F x o p put) does (λ d e is. is.others) (λ e f change. change.others)
      (λ d e f is change keeps. record {
        others = keeps;
        there = λ file there.
            let a = is.there file there in
            let b = follows_at (Syncs {T = T} {E = E} (Ok y)) (e name) (f name) a.0 a.1 change.there in
            (b.0, b.1, b.2.settled, b.2.reads ∙ a.2);
      })
  put_synced {T} {E} (Err y) U F x o p q put does =
      next_change name IsPut (KeepsOthers name) (Changes name (Syncs {T = T} {E = E} (Err y))) o p q (put_run U F x o p put) does (λ d e is. is.others) (λ e f change. change.others) (λ d e f is change keeps. keeps)

-- the calls

module _ (from side : Name) (node numbers : List ℕ) where
  as_host : (fault : FlushFault) (old new : HostState) → fault ≡ faults.Host → CopyFailed from side node numbers old new → CopyFileGoes (Err fault) from side node numbers old new
  as_host fault old new is fails = subst (λ (f : FlushFault). CopyFileGoes (Err f) from side node numbers old new) (sym is) fails

  pub unmade : (fault : FlushFault) (s0 s1 : HostState) → fault ≡ faults.Host → Asked [] AnotherCall s0 s1 → CopyFileGoes (Err fault) from side node numbers s0 s1
  unmade fault s0 s1 is asked =
      let any = any_blocks numbers in
      as_host fault s0 s1 is (record { blocks = any.0; are_blocks = any.1; stopped = stopped_first (Made side) (copied from side numbers any.0 ++ put_steps side node) s0 s1 asked })

  module _ (s0 s1 s2 : HostState) (made : Asked (Made side ∷ []) NoCall s0 s1) where
    pub uncopied : (fault : FlushFault) → CopyGoes (Err fault) from side numbers s1 s2 → ChangesAlone side s0 s2 → CopyFileGoes (Err fault) from side node numbers s0 s2
    uncopied faults.Words goes alone = goes
    uncopied (faults.Damaged damage) goes alone = record {
      done = goes.done;
      left = goes.left;
      blocks = goes.blocks;
      block = goes.block;
      in_order = goes.in_order;
      are_blocks = goes.are_blocks;
      short = goes.short;
      kind_is = goes.kind_is;
      asked = asked_then (Made side ∷ []) (copied from side goes.done goes.blocks ++ Gave from (4096 * damage.node) 4096 goes.block ∷ []) NoCall s0 s1 s2 made goes.asked;
      alone = alone;
    }
    uncopied faults.Host goes alone = record {
      blocks = goes.blocks;
      are_blocks = goes.are_blocks;
      stopped =
          let copies = copied from side numbers goes.blocks in
          stopped_more (Made side ∷ copies) (put_steps side node) s0 s2 (stopped_then (Made side ∷ []) copies s0 s1 s2 made goes.stopped);
    }

    module _ (copies : Copied from side numbers s1 s2) where
      front : Asked (Made side ∷ copied from side numbers copies.blocks) NoCall s0 s2
      front = asked_then (Made side ∷ []) (copied from side numbers copies.blocks) NoCall s0 s1 s2 made copies.asked

      pub not_put : (fault : FlushFault) (s3 : HostState) → fault ≡ faults.Host → Stopped (put_steps side node) s2 s3 → CopyFileGoes (Err fault) from side node numbers s0 s3
      not_put fault s3 is stopped =
          as_host fault s0 s3 is (record { blocks = copies.blocks; are_blocks = copies.are_blocks; stopped = stopped_then (Made side ∷ copied from side numbers copies.blocks) (put_steps side node) s0 s2 s3 front stopped })

      pub copied_whole : (s3 : HostState) → Asked (put_steps side node) NoCall s2 s3 → CopyMade from side node numbers s0 s3
      copied_whole s3 asked = record { blocks = copies.blocks; are_blocks = copies.are_blocks; asked = asked_then (Made side ∷ copied from side numbers copies.blocks) (put_steps side node) NoCall s0 s2 s3 front asked }

-- the file

module _ (from side : Name) (apart : side ≢ from) (node : List ℕ) (long : length node ≡ 4096) (count : ℕ) where
  behind_node_0 : (k : ℕ) → Contains (clean_below [] count) k → 1 ≤ k
  behind_node_0 k among = (clean_member [] 1 (count - 1) k among).0

  is_copy : (d e f : Disk) (copied : HasCopied from side apart (clean_below [] count) d e) (file : File) → file.bytes ≡ overwrite 0 node copied.copies.file.bytes → IsCopyOf node (clean_below [] count) (contents (read_of (d from))) file.bytes
  is_copy d e f copied file is =
      let middle = copied.copies.file.bytes in
      subst (λ (bytes : List ℕ). IsCopyOf node (clean_below [] count) (contents (read_of (d from))) bytes) (sym is)
      (record {
        at_least = omega (arith, new_length node middle long);
        front = λ i lt. node_0_there node middle long i lt;
        whole = λ k among. omega (arith, new_length node middle long, (copied.copies.within k among).1);
        same = λ k i among low high. let far = behind_node_0 k among in behind_it node middle long i (omega arith) ∙ copied.copies.same k i among low high;
      })

  pub has_copy_run : (o p q : Option Honest) → Both o p (Ran (LeavesOthers side) (HasCopied from side apart (clean_below [] count))) → Both p q (Ran (LeavesOthers side) (PutsNode side node)) → Both o q (Ran (LeavesOthers side) (HasCopy from side node (clean_below [] count)))
  has_copy_run o p q copies puts =
      next_changes side (HasCopied from side apart (clean_below [] count)) (PutsNode side node) (HasCopy from side node (clean_below [] count)) o p q copies puts (λ d e copied. copied.others)
      (λ d e f copied put.
      let c = copied.copies in
      let s = put.there c.file c.there in
      record { others = others_then side d e f copied.others put.others; file = s.0; there = s.1; settled = s.2; copy = is_copy d e f copied s.0 s.3 })
