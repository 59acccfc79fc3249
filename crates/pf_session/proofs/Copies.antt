-- Nodes that are copied into a file of an honest disk.
use Rattle.std.proofs.Common.{◌≡◌, ◌≢◌, inl, inr, ℕ, ◌+◌, ◌*◌, ◌<◌, ◌≤◌, List, [], ◌∷◌, ◌++◌, length, take, drop, refl, ap, ◌∙◌, sym, subst, arith, Option, Some, Result, Ok, Err}
use Rattle.std.specs.Prelude.{Contains, slice_get}
use Rattle.std.proofs.lemmas.List.{take_all}
use Rattle.std.proofs.lemmas.List.Elements.{Contains-append_left, Contains-append_right, Contains-append_cases}
use Rattle.node_layout.specs.declared.damage.Damage.{Damage}
use Rattle.node_tree.proofs.Order.{no_member, at_head}
use Rattle.node_tree.proofs.Seals.{written}
use Rattle.pf_io.specs.Disk.{Name, File, Disk, read_of}
use Rattle.pf_io.specs.Host.{Both, ReadsFrom, contents}
use Rattle.pf_io.specs.Moments.{Honest, Does, Ran}
use Rattle.pf_io.specs.SplicingProofs.{overwrite-length, overwrite-front}
use Rattle.pf_io.specs.Steps.{KeepsOthers, Stays, Changes, Writes, overwrite, reach}
use Rattle.pf_io.proofs.Images.{follows_at, others_then}
use Rattle.pf_session.specs.Copying.{HasCopies, CopiesInto, CopyBreaks, CopyLeaves}
use Rattle.pf_session.specs.declared.fault.FlushFault.{FlushFault}
use Rattle.pf_session.specs.declared.fault.FlushFault.TheVariants as faults
use Rattle.pf_session.specs.Sealing.{LeavesOthers}
use Rattle.pf_session.proofs.Disks.{keeps_same, first_change, next_change}
use Rattle.pf_session.proofs.Lists.{alone_is, byte_of_piece}

-- nothing was copied
pub copies_none : (from to : Name) (d e : Disk) → e ≡ d → CopiesInto from to [] d e
copies_none from to d e same = record {
  others = keeps_same to d e same;
  copies = λ file there. record {
    file = file;
    there = ap (λ (x : Disk). x to) same ∙ there;
    within = λ k among. absurd (no_member k among);
    same = λ k i among. absurd (no_member k among);
    longer = omega arith;
    before = λ i below lt. refl;
  };
}

module _ (k n : ℕ) (buffer : List ℕ) (long : length buffer ≡ 4096) (all : n ≡ 4096) where
  -- a whole block that was read is the file's
  block_read : (bytes : List ℕ) → ReadsFrom (4096 * k) n buffer bytes → (buffer ≡ take 4096 (drop (4096 * k) bytes)) × (4096 * k + 4096 ≤ length bytes)
  block_read bytes reads = (
    sym (take_all 4096 buffer (omega (arith, long))) ∙ ap (λ (m : ℕ). take m buffer) (sym all) ∙ reads.filled ∙ ap (λ (m : ℕ). take m (drop (4096 * k) bytes)) all,
    omega (arith, reads.count, all, long),
  )

  one_copy : (T E : Type 0) (value : T) (bytes : List ℕ) (f g : File) (there : Option File) → there ≡ Some g → ReadsFrom (4096 * k) n buffer bytes → Writes {T = T} {E = E} (4096 * k) buffer (Ok value) f g → HasCopies (k ∷ []) bytes f.bytes there
  one_copy T E value bytes f g there is reads writes =
      let block = block_read bytes reads in
      let new = overwrite (4096 * k) buffer f.bytes in
      let reached : reach (4096 * k) (length buffer) ≡ 4096 * k + 4096 = ap (reach (4096 * k)) long in
      let size : length g.bytes ≡ length new = ap (λ (l : List ℕ). length l) writes.reads in
      let same_piece : take 4096 (drop (4096 * k) g.bytes) ≡ take 4096 (drop (4096 * k) bytes) = ap (λ (l : List ℕ). take 4096 (drop (4096 * k) l)) writes.reads ∙ written (4096 * k) buffer f.bytes long ∙ block.0 in
      record {
        file = g;
        there = is;
        within = λ j among. let one = alone_is k j among in (omega (arith, one, block.1), omega (arith, one, size, overwrite-length (4096 * k) buffer f.bytes, reached));
        same = λ j i among low high. let one = alone_is k j among in byte_of_piece g.bytes bytes (4096 * k) i same_piece (omega arith) (omega arith);
        longer = omega (arith, size, overwrite-length (4096 * k) buffer f.bytes);
        before = λ i below lt. ap (λ (l : List ℕ). slice_get l i) writes.reads ∙ overwrite-front (4096 * k) buffer f.bytes i (below k (at_head k [])) lt;
      }

  module _ (from to : Name) (o p q : Option Honest) (reads : Both o p (Does (λ d e. (e ≡ d) × ReadsFrom (4096 * k) n buffer (contents (read_of (d from)))))) where
    read_ran : Both o p (Ran (LeavesOthers to) (λ d e. (e ≡ d) × ReadsFrom (4096 * k) n buffer (contents (read_of (d from)))))
    read_ran = first_change to (λ d e. (e ≡ d) × ReadsFrom (4096 * k) n buffer (contents (read_of (d from)))) _ o p reads (λ d f step. (keeps_same to d f step.0, step))

    pub copied_one : (T E : Type 0) (value : T) → Both p q (Does (Changes to (Writes {T = T} {E = E} (4096 * k) buffer (Ok value)))) → Both o q (Ran (LeavesOthers to) (CopiesInto from to (k ∷ [])))
    copied_one T E value does =
        next_change to (λ d e. (e ≡ d) × ReadsFrom (4096 * k) n buffer (contents (read_of (d from)))) (CopiesInto from to (k ∷ [])) (Changes to (Writes {T = T} {E = E} (4096 * k) buffer (Ok value))) o p q read_ran does
        (λ d e step. keeps_same to d e step.0) (λ e f change. change.others)
        (λ d e f step change keeps. record {
          others = keeps;
          copies = λ file there.
              let next = follows_at _ (e to) (f to) file (ap (λ (x : Disk). x to) step.0 ∙ there) change.there in
              one_copy T E value (contents (read_of (d from))) file next.0 (f to) next.1 step.1 next.2;
        })

    pub unwritten_one : {T E : Type 0} (r : Result T E) → Both p q (Does (Changes to (Writes (4096 * k) buffer r))) → Both o q (Ran (LeavesOthers to) (KeepsOthers to))
    unwritten_one r does =
        next_change to (λ d e. (e ≡ d) × ReadsFrom (4096 * k) n buffer (contents (read_of (d from)))) (KeepsOthers to) (Changes to (Writes (4096 * k) buffer r)) o p q read_ran does
        (λ d e step. keeps_same to d e step.0) (λ e f change. change.others) (λ d e f step change keeps. keeps)

-- a read that failed
pub unread_one : (to : Name) (o p : Option Honest) → Both o p (Does Stays) → Both o p (Ran (LeavesOthers to) (KeepsOthers to))
unread_one to o p does = first_change to (KeepsOthers to) Stays o p does (λ d f same. (keeps_same to d f same, keeps_same to d f same))

-- one that gave too few bytes
pub short_one : (k n : ℕ) (buffer : List ℕ) (from to : Name) (damage : Damage) (o p : Option Honest) → length buffer ≡ 4096 → n < 4096 → damage.node ≡ k
    → Both o p (Does (λ d e. (e ≡ d) × ReadsFrom (4096 * k) n buffer (contents (read_of (d from))))) → Both o p (Ran (LeavesOthers to) (CopyBreaks from to (k ∷ []) damage))
short_one k n buffer from to damage o p long few is reads =
    first_change to (CopyBreaks from to (k ∷ []) damage) _ o p reads (λ d f step. (
      keeps_same to d f step.0,
      record {
        others = keeps_same to d f step.0;
        among = subst (λ (j : ℕ). Contains (k ∷ []) j) (sym is) (at_head k []);
        short = let c = step.1.count in omega (arith, c, long, is);
      },
    ))

-- nodes after others, each of which is before them
pub copies_then : (from to : Name) (xs ys : List ℕ) (d e f : Disk) → from ≢ to → ((x y : ℕ) → Contains xs x → Contains ys y → x < y) → CopiesInto from to xs d e → CopiesInto from to ys e f → CopiesInto from to (xs ++ ys) d f
copies_then from to xs ys d e f apart below first second = record {
  others = others_then to d e f first.others second.others;
  copies = λ file there.
      let a = first.copies file there in
      let b = second.copies a.file a.there in
      let source : contents (read_of (e from)) ≡ contents (read_of (d from)) = ap (λ (o : Option File). contents (read_of o)) (first.others from apart) in
      let inside = λ (k : ℕ) (among : Contains xs k). (a.within k among).1 in
      let still = λ (k i : ℕ) (among : Contains xs k) (high : i < 4096 * k + 4096). b.before i (λ y in_ys. let lt = below k y among in_ys in omega arith) (let w = inside k among in omega arith) in
      record {
        file = b.file;
        there = b.there;
        within = λ k among. elim (Contains-append_cases xs ys k among) [
          | inl here ↦ ((a.within k here).0, let w = inside k here in let l = b.longer in omega arith)
          | inr here ↦ ((let w = (b.within k here).0 in omega (arith, w, ap (λ (l : List ℕ). length l) source)), (b.within k here).1)
        ];
        same = λ k i among low high. elim (Contains-append_cases xs ys k among) [
          | inl here ↦ still k i here high ∙ a.same k i here low high
          | inr here ↦ b.same k i here low high ∙ ap (λ (l : List ℕ). slice_get l i) source
        ];
        longer = let l = a.longer in let m = b.longer in omega arith;
        before = λ i all lt.
            b.before i (λ y in_ys. all y (Contains-append_right xs ys y in_ys)) (let l = a.longer in omega arith) ∙ a.before i (λ x in_xs. all x (Contains-append_left xs ys x in_xs)) lt;
      };
}

pub breaks_then : (from to : Name) (xs ys : List ℕ) (damage : Damage) (d e f : Disk) → from ≢ to → KeepsOthers to d e → CopyBreaks from to ys damage e f → CopyBreaks from to (xs ++ ys) damage d f
breaks_then from to xs ys damage d e f apart keeps breaks = record {
  others = others_then to d e f keeps breaks.others;
  among = Contains-append_right xs ys damage.node breaks.among;
  short = let s = breaks.short in omega (arith, s, ap (λ (o : Option File). length (contents (read_of o))) (keeps from apart));
}

pub breaks_more : (from to : Name) (xs ys : List ℕ) (damage : Damage) (d e : Disk) → CopyBreaks from to xs damage d e → CopyBreaks from to (xs ++ ys) damage d e
breaks_more from to xs ys damage d e breaks = record { others = breaks.others; among = Contains-append_left xs ys damage.node breaks.among; short = breaks.short }

-- a host fault
pub host_left : (from to : Name) (numbers : List ℕ) (fault : FlushFault) (o p : Option Honest) → fault ≡ faults.Host → Both o p (Ran (LeavesOthers to) (KeepsOthers to)) → Both o p (Ran (LeavesOthers to) (CopyLeaves (Err fault) from to numbers))
host_left from to numbers fault o p is ran = subst (λ (f : FlushFault). Both o p (Ran (LeavesOthers to) (CopyLeaves (Err f) from to numbers))) (sym is) ran
