-- The replacing of a file by its side file, as calls and on an honest disk.
use Rattle.std.proofs.Common.{◌≡◌, ◌≢◌, inl, inr, ℕ, ◌*◌, List, [], ◌∷◌, ◌++◌, length, refl, ◌∙◌, sym, subst, Option, Some, Result, Ok, Err}
use Rattle.std.proofs.lemmas.List.{append-nil}
use Rattle.pf_io.specs.Disk.{Name, File, Disk, IsImageAt, read_of}
use Rattle.pf_io.specs.Host.{Gave, Made, Swapped, HostState, Both, contents}
use Rattle.pf_io.specs.Moments.{Honest, Does, Ran, Ends}
use Rattle.pf_io.specs.Names.{side_of}
use Rattle.pf_io.specs.Steps.{KeepsOthers, Makes, Swaps, AtOnce}
use Rattle.pf_io.proofs.Images.{others_then, made_others, swapped_others}
use Rattle.pf_io.proofs.Runs.{goes_on, ran_leaves, ran_by}
use Rattle.pf_io.proofs.Telling.{both_weaker}
use Rattle.node_layout.specs.Places.{node_count}
use Rattle.node_tree.specs.Next.{IsSealedAs, KeepsShape}
use Rattle.node_tree.specs.Sheet.{Sheet}
use Rattle.node_tree.specs.State.{TreeState}
use Rattle.pf_session.specs.Aside.{Apart, LeavesApart, KeepsApart}
use Rattle.pf_session.specs.Asking.{NoCall, AnotherCall, Asked, Stopped}
use Rattle.pf_session.specs.Copying.{copied, clean_below, HasCopies, CopiesInto, Copied, CopyGoes}
use Rattle.pf_session.specs.Making.{ReplaceGoes, KeptAtDamage}
use Rattle.pf_session.specs.Sealing.{LeavesOthers, ChangesAlone, HasNext, SealsFile}
use Rattle.pf_session.specs.Steps.{seal_steps}
use Rattle.pf_session.specs.declared.fault.FlushFault.{FlushFault}
use Rattle.pf_session.specs.declared.fault.FlushFault.TheVariants as faults
use Rattle.pf_session.proofs.Calls.{asked_then, same_asked, stopped_then, stopped_more, stopped_first}
use Rattle.pf_session.proofs.Copied.{any_blocks}
use Rattle.pf_session.proofs.Disks.{first_change, next_changes}
use Rattle.pf_session.proofs.Replacing.{SideStands}
use Rattle.pf_session.proofs.Standing.{stands_next}

pub same_shape : (tree : TreeState) → KeepsShape tree tree
same_shape tree = record { size = refl; first = refl; base = refl; dirty = refl; held = λ k there. there }

module _ (key path nonce : List ℕ) (name side : Name) (clean dirty : List ℕ) (keys : List (List ℕ)) where
  as_host : (fault : FlushFault) (tree : TreeState) (old new : HostState) → fault ≡ faults.Host → ReplaceGoes (Err faults.Host) key path nonce name side clean dirty keys tree old new → ReplaceGoes (Err fault) key path nonce name side clean dirty keys tree old new
  as_host fault tree old new is goes = subst (λ (f : FlushFault). ReplaceGoes (Err f) key path nonce name side clean dirty keys tree old new) (sym is) goes

  pub make_stops : (fault : FlushFault) (tree : TreeState) (s0 s1 : HostState) → fault ≡ faults.Host → Asked [] AnotherCall s0 s1 → ChangesAlone side s0 s1 → ReplaceGoes (Err fault) key path nonce name side clean dirty keys tree s0 s1
  make_stops fault tree s0 s1 is asked alone =
      let any = any_blocks clean in
      as_host fault tree s0 s1 is (record { blocks = any.0; are_blocks = any.1; stopped = stopped_first (Made side) _ s0 s1 asked; alone = λ other. alone })

  pub copying_stops : (fault : FlushFault) (tree : TreeState) (s0 s1 s2 : HostState) → Asked (Made side ∷ []) NoCall s0 s1 → CopyGoes (Err fault) name side clean s1 s2 → ChangesAlone side s0 s2 → ReplaceGoes (Err fault) key path nonce name side clean dirty keys tree s0 s2
  copying_stops faults.Words tree s0 s1 s2 made goes alone = goes
  copying_stops (faults.Damaged damage) tree s0 s1 s2 made goes alone = record {
    done = goes.done;
    left = goes.left;
    blocks = goes.blocks;
    block = goes.block;
    in_order = goes.in_order;
    are_blocks = goes.are_blocks;
    short = goes.short;
    kind_is = goes.kind_is;
    asked = asked_then (Made side ∷ []) (copied name side goes.done goes.blocks ++ Gave name (4096 * damage.node) 4096 goes.block ∷ []) NoCall s0 s1 s2 made goes.asked;
    alone = alone;
  }
  copying_stops faults.Host tree s0 s1 s2 made goes alone = record {
    blocks = goes.blocks;
    are_blocks = goes.are_blocks;
    stopped =
        let copies = copied name side clean goes.blocks in
        let seals = seal_steps key path nonce side dirty keys tree in
        stopped_more (Made side ∷ copies ++ seals) (Swapped side name ∷ []) s0 s2 (stopped_more (Made side ∷ copies) seals s0 s2 (stopped_then (Made side ∷ []) copies s0 s1 s2 made goes.stopped));
    alone = λ other. alone;
  }

  module _ (tree : TreeState) (s0 s1 s2 s3 : HostState) (made : Asked (Made side ∷ []) NoCall s0 s1) (copies : Copied name side clean s1 s2) where
    front : Asked (Made side ∷ copied name side clean copies.blocks) NoCall s0 s2
    front = asked_then (Made side ∷ []) (copied name side clean copies.blocks) NoCall s0 s1 s2 made copies.asked

    pub sealing_stops : (fault : FlushFault) → fault ≡ faults.Host → Stopped (seal_steps key path nonce side dirty keys tree) s2 s3 → ChangesAlone side s0 s3 → ReplaceGoes (Err fault) key path nonce name side clean dirty keys tree s0 s3
    sealing_stops fault is stopped alone =
        let fronts = Made side ∷ copied name side clean copies.blocks in
        let seals = seal_steps key path nonce side dirty keys tree in
        as_host fault tree s0 s3 is (record {
          blocks = copies.blocks;
          are_blocks = copies.are_blocks;
          stopped = stopped_more (fronts ++ seals) (Swapped side name ∷ []) s0 s3 (stopped_then fronts seals s0 s2 s3 front stopped);
          alone = λ other. alone;
        })

    module _ (s4 : HostState) (seals : Asked (seal_steps key path nonce side dirty keys tree) NoCall s2 s3) where
      all_but : Asked (Made side ∷ copied name side clean copies.blocks ++ seal_steps key path nonce side dirty keys tree) NoCall s0 s3
      all_but = asked_then (Made side ∷ copied name side clean copies.blocks) (seal_steps key path nonce side dirty keys tree) NoCall s0 s2 s3 front seals

      pub swapping_stops : (fault : FlushFault) → fault ≡ faults.Host → Asked [] AnotherCall s3 s4 → ReplaceGoes (Err fault) key path nonce name side clean dirty keys tree s0 s4
      swapping_stops fault is asked =
          let steps = Made side ∷ copied name side clean copies.blocks ++ seal_steps key path nonce side dirty keys tree in
          as_host fault tree s0 s4 is (record {
            blocks = copies.blocks;
            are_blocks = copies.are_blocks;
            stopped = record {
              answered = steps;
              failed = Swapped side name;
              left = [];
              in_order = refl;
              asked = same_asked (steps ++ []) steps AnotherCall s0 s4 (append-nil steps) (asked_then steps [] AnotherCall s0 s3 s4 all_but asked);
            };
            alone = λ other. absurd (other refl);
          })

      pub all_replaced : Asked (Swapped side name ∷ []) NoCall s3 s4 → ReplaceGoes (Ok tt) key path nonce name side clean dirty keys tree s0 s4
      all_replaced swapped = record {
        blocks = copies.blocks;
        are_blocks = copies.are_blocks;
        asked = asked_then (Made side ∷ copied name side clean copies.blocks ++ seal_steps key path nonce side dirty keys tree) (Swapped side name ∷ []) NoCall s0 s3 s4 all_but swapped;
      }

-- other names than those of the session
pub alone_aside : (name side : Name) (o p : Option Honest) → side ≡ side_of name → Both o p (Ran (LeavesOthers side) (KeepsOthers side)) → Both o p (Ran (LeavesApart name) (KeepsApart name))
alone_aside name side o p is ran =
    both_weaker (Ran (LeavesOthers side) (KeepsOthers side)) (Ran (LeavesApart name) (KeepsApart name)) o p ran
    (λ a b run. record {
      leaves = record {
        later = run.leaves.later;
        each = λ image left other apart. run.leaves.each image left other (λ same. apart.side (same ∙ is));
        earlier = λ t image le left. elim (run.leaves.earlier t image le left) [ inl was ↦ inl was | inr now ↦ inr (λ other apart. now other (λ same. apart.side (same ∙ is))) ];
      };
      ends = λ other apart. run.ends other (λ same. apart.side (same ∙ is));
    })

pub swap_aside : {T E : Type 0} (r : Result T E) (name side : Name) (o p q : Option Honest) → side ≡ side_of name → Both o p (Ran (LeavesApart name) (KeepsApart name)) → Both p q (Does (AtOnce r (Swaps side name))) → Both o q (Ran (LeavesApart name) (KeepsApart name))
swap_aside r name side o p q is ran does =
    goes_on (LeavesApart name) (KeepsApart name) (KeepsApart name) (AtOnce r (Swaps side name)) o p q ran does
    (λ d e f keeps swap.
    let all = λ (other : Name) (apart : Apart name other). swapped_others r side name e f other swap (λ same. apart.side (same ∙ is)) apart.here ∙ keeps other apart in
    (all, λ image left other apart. subst (λ o. IsImageAt o (image other)) (all other apart) (left other)))

module _ (name side : Name) (apart : side ≢ name) where
  pub record IsMadeOn (d e : Disk) : Type 0 where
    pub others : KeepsOthers side d e
    pub file : File
    pub there : e side ≡ Some file

  pub make_ran : (T E : Type 0) (value : T) (o p : Option Honest) → Both o p (Does (AtOnce {T = T} {E = E} (Ok value) (Makes side))) → Both o p (Ran (LeavesOthers side) IsMadeOn)
  make_ran T E value o p does = first_change side IsMadeOn (AtOnce {T = T} {E = E} (Ok value) (Makes side)) o p does (λ d f made. (made.others, record { others = made.others; file = made.there.0; there = made.there.1 }))

  pub make_alone : {T E : Type 0} (r : Result T E) (o p : Option Honest) → Both o p (Does (AtOnce r (Makes side))) → Both o p (Ran (LeavesOthers side) (KeepsOthers side))
  make_alone r o p does = first_change side (KeepsOthers side) (AtOnce r (Makes side)) o p does (λ d f made. let keeps = made_others r side d f made in (keeps, keeps))

  pub then_alone : (Q S : Disk → Disk → Type 0) (o p q : Option Honest) → Both o p (Ran (LeavesOthers side) Q) → Both p q (Ran (LeavesOthers side) S) → ((d e : Disk) → Q d e → KeepsOthers side d e) → ((d e : Disk) → S d e → KeepsOthers side d e)
      → Both o q (Ran (LeavesOthers side) (KeepsOthers side))
  then_alone Q S o p q first second keeps_q keeps_s = next_changes side Q S (KeepsOthers side) o p q first second keeps_q (λ d e f q_is s_is. others_then side d e f (keeps_q d e q_is) (keeps_s e f s_is))

  module _ (clean : List ℕ) where
    pub record HasCopied (d e : Disk) : Type 0 where
      pub others : KeepsOthers side d e
      pub old : List ℕ
      pub copies : HasCopies clean (contents (read_of (d name))) old (e side)

    pub copy_ran : (o p q : Option Honest) → Both o p (Ran (LeavesOthers side) IsMadeOn) → Both p q (Ran (LeavesOthers side) (CopiesInto name side clean)) → Both o q (Ran (LeavesOthers side) HasCopied)
    copy_ran o p q made copies =
        next_changes side IsMadeOn (CopiesInto name side clean) HasCopied o p q made copies (λ d e m. m.others)
        (λ d e f m c. record {
          others = others_then side d e f m.others c.others;
          old = m.file.bytes;
          copies = subst (λ (x : Option File). HasCopies clean (contents (read_of x)) m.file.bytes (f side)) (m.others name (λ same. apart (sym same))) (c.copies m.file m.there);
        })

  module _ (key path nonce : List ℕ) (sheet : Sheet) (tree mid : TreeState) (keys : List (List ℕ)) (next : Sheet) (key_length : length key ≡ 16) (has : HasNext sheet tree path nonce keys next) (as_sealed : IsSealedAs next mid) (shape : KeepsShape tree mid) where
    side_stands : (d e f : Disk) → HasCopied (clean_below tree.dirty (node_count tree.size)) d e → SealsFile key next tree.dirty side e f → SideStands key name side sheet next apart d f
    side_stands d e f copied sealed = record {
      others = others_then side d e f copied.others sealed.others;
      stands = λ reads.
          let c = copied.copies in
          let s = sealed.there c.file c.there in (
            s.0,
            s.1,
            s.2,
            stands_next key path nonce sheet tree keys next (contents (read_of (d name))) c.file.bytes s.0.bytes key_length has reads (as_sealed.size ∙ shape.size) s.3.longer
                (λ k i among low high. ((c.within k among).1, c.same k i among low high)) s.3,
          );
    }

    pub seal_ran : (o p q : Option Honest) → Both o p (Ran (LeavesOthers side) (HasCopied (clean_below tree.dirty (node_count tree.size)))) → Both p q (Ran (LeavesOthers side) (KeepsOthers side)) → Both p q (Ends (SealsFile key next tree.dirty side))
        → Both o q (Ran (LeavesOthers side) (SideStands key name side sheet next apart))
    seal_ran o p q copied alone seals =
        next_changes side (HasCopied (clean_below tree.dirty (node_count tree.size))) (SealsFile key next tree.dirty side) (SideStands key name side sheet next apart) o p q copied
        (ran_by (LeavesOthers side) (SealsFile key next tree.dirty side) p q (ran_leaves (LeavesOthers side) (KeepsOthers side) p q alone) seals) (λ d e c. c.others) side_stands

pub kept_same : (r : Result (Unit {0}) FlushFault) (tree : TreeState) → KeptAtDamage r tree tree
kept_same (Ok done) tree = tt
kept_same (Err faults.Words) tree = tt
kept_same (Err (faults.Damaged damage)) tree = refl
kept_same (Err faults.Host) tree = tt

pub kept_host : (fault : FlushFault) (old new : TreeState) → fault ≡ faults.Host → KeptAtDamage (Err fault) old new
kept_host fault old new is = subst (λ (f : FlushFault). KeptAtDamage (Err f) old new) (sym is) tt
