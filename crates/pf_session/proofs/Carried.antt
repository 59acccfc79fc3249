-- The sheet as which a file is moved, and what its move leaves on an honest disk.
use Rattle.std.proofs.Common.{◌≡◌, ◌≢◌, inl, inr, ℕ, ◌+◌, ◌-◌, ◌<◌, true, false, List, [], ◌∷◌, length, take, replicate, refl, ap, ◌∙◌, sym, subst, arith, eqb, ltb, slice_index, Option, Some, None, Result, Ok, Err}
use Rattle.std.specs.Prelude.{Contains, slice_get}
use Rattle.std.proofs.lemmas.Bool.{cases_lt, cases_eq, cond-true, cond-false, eq-eqb, ne_eqb, lt-ltb}
use Rattle.std.proofs.lemmas.Option.{same_Some}
use Rattle.std.proofs.lemmas.List.{ext_get_or, length-append, length-take, length-replicate}
use Rattle.std.proofs.lemmas.List.FromFn.{length-map-range_with_len, get_or-map-range_with_len}
use Rattle.node_layout.specs.Metadata.{IsPath}
use Rattle.node_layout.specs.Places.{node_count}
use Rattle.node_tree.specs.Backing.{Backs, now, plain_now}
use Rattle.node_tree.specs.Content.{first_text, byte_of}
use Rattle.node_tree.specs.Next.{NextSheet, IsSealedAs}
use Rattle.node_tree.specs.Sheet.{Node, Sheet, HasNode, IsLinked, Stands, root_of}
use Rattle.node_tree.specs.State.{TreeState, sealed_root}
use Rattle.node_tree.proofs.Bytes.{first_byte, first_padding}
use Rattle.node_tree.proofs.Order.{no_member}
use Rattle.node_tree.proofs.Standing.{within}
use Rattle.pf_io.specs.Disk.{Name, File, Disk, Image, read_of, reading}
use Rattle.pf_io.specs.Host.{HostState, Both, OnDisk, contents}
use Rattle.pf_io.specs.Moments.{Honest, Ran, Where}
use Rattle.pf_io.proofs.Images.{absent_at}
use Rattle.pf_io.proofs.Telling.{both_weaker}
use Rattle.pf_session.specs.State.{SessionState}
use Rattle.pf_session.specs.Aside.{KeepsApartBoth, LeavesApartBoth}
use Rattle.pf_session.specs.Backing.{RestsOn}
use Rattle.pf_session.specs.Copying.{clean_below}
use Rattle.pf_session.specs.Making.{done_of}
use Rattle.pf_session.specs.Moving.{renamed, MovedAs, still_there, was_moved, both_there, MovedIf, IsMoved, MovesOn, Carries}
use Rattle.pf_session.specs.Relocating.{IsCopyOf, RelocatedAs, not_yet, both, new_alone, RelocateImage, RelocateLeaves}
use Rattle.pf_session.specs.Reopening.{ReadsAs, Stood}
use Rattle.pf_session.specs.Steps.{node_of}
use Rattle.pf_session.proofs.Placing.{ran_weaker}
use Rattle.pf_session.proofs.Replacing.{kept_left, settled_there}
use Rattle.pf_session.proofs.Sealed.{node_is}
use Rattle.pf_session.proofs.Standing.{stands_next, length-image}

-- what a run holds where the first disk has C
where_ran : (C : Disk → Type 0) (P : Disk → Image → Type 0) (Q : Disk → Disk → Type 0) (o p : Option Honest) → Both o p (Ran (λ d image. C d → P d image) (λ d e. C d → Q d e)) → Both o p (Where C (Ran P Q))
where_ran C P Q o p ran =
    both_weaker (Ran (λ d image. C d → P d image) (λ d e. C d → Q d e)) (Where C (Ran P Q)) o p ran
    (λ a b run has. record {
      leaves = record {
        later = run.leaves.later;
        each = λ image left. run.leaves.each image left has;
        earlier = λ t image le left. elim (run.leaves.earlier t image le left) [ inl was ↦ inl was | inr now ↦ inr (now has) ];
      };
      ends = run.ends has;
    })

-- the sheet

module _ (base : Sheet) (to nonce : List ℕ) where
  abbrev pub moved_sheet : Sheet
  moved_sheet = record { path = to; nonce = nonce; content = base.content; nodes = base.nodes }

  to_moved : (k : ℕ) (node : Node) → HasNode base k node → HasNode moved_sheet k node
  to_moved k node has = record { numbered = has.numbered; there = has.there }

  to_base : (k : ℕ) (node : Node) → HasNode moved_sheet k node → HasNode base k node
  to_base k node has = record { numbered = has.numbered; there = has.there }

  moved_linked : IsLinked base → IsPath to → length nonce ≡ 32 → IsLinked moved_sheet
  moved_linked linked path_is long = record {
    path_is = path_is;
    nonce_length = long;
    not_large = linked.not_large;
    all_nodes = linked.all_nodes;
    key_length = λ k node has. linked.key_length k node (to_base k node has);
    whole = λ k node has. linked.whole k node (to_base k node has);
    slices = λ d node has. linked.slices d node (to_base _ node has);
    entries = λ k parent node two up has. linked.entries k parent node two (to_base _ parent up) (to_base k node has);
  }

  moved_backs : (tree : TreeState) → Backs base tree → Backs moved_sheet tree
  moved_backs tree backs = record {
    root = backs.root;
    base = backs.base;
    clean = λ k low live out. let n = backs.clean k low live out in (n.0, to_moved k n.0 n.1, n.2);
    dirty_held = backs.dirty_held;
    dirty_parents = backs.dirty_parents;
    entries = λ k node parent two live out has dirty there. backs.entries k node parent two live out (to_base k node has) dirty there;
    padded = record { of_first = backs.padded.of_first; of_nodes = backs.padded.of_nodes };
  }

-- the tree of a session that rests on a sheet

zero_root : (nodes : List Node) → length nodes ≡ 0 → root_of nodes ≡ (replicate 16 0, replicate 16 0)
zero_root [] none = refl
zero_root (node ∷ nodes) none = absurd (omega arith)

module _ (base : Sheet) (session : SessionState) (linked : IsLinked base) (rests : RestsOn base session) (first_length : length session.tree.first ≡ 3072) where
  abbrev tree : TreeState
  tree = session.tree

  backs : Backs base tree
  backs = rests.stands.backed.backs

  size_is : length base.content ≡ tree.size
  size_is = ap length (sym rests.stands.now_is) ∙ length-map-range_with_len (byte_of tree.first (plain_now base tree)) 0 tree.size

  count_is : 1 + length base.nodes ≡ node_count tree.size
  count_is = linked.all_nodes ∙ ap node_count size_is

  first_kept : tree.first ≡ first_text base.content
  first_kept =
      let content = base.content in
      let front = take 3072 content in
      let all : length (first_text content) ≡ 3072 = omega (arith, length-append front (replicate (3072 - length front) 0), length-take 3072 content, length-replicate {A = ℕ} (3072 - length front) 0) in
      ext_get_or 0 tree.first (first_text content) (first_length ∙ sym all)
      (λ i lt.
      let low : i < 3072 = omega (arith, first_length) in
      elim (cases_lt i tree.size) [
        | inl inside ↦
            let byte : slice_index content i ≡ byte_of tree.first (plain_now base tree) i = ap (λ (l : List ℕ). slice_index l i) (sym rests.stands.now_is) ∙ get_or-map-range_with_len (byte_of tree.first (plain_now base tree)) 0 tree.size i i 0 inside (omega arith) in
            sym (first_byte content i low (omega (arith, size_is)) ∙ byte ∙ cond-true (ltb i 3072) _ _ (lt-ltb i 3072 low))
        | inr behind ↦ backs.padded.of_first i behind low ∙ sym (first_padding content i (omega (arith, size_is)) low)
      ])

  root_kept : sealed_root tree ≡ root_of base.nodes
  root_kept =
      elim (cases_eq (node_count tree.size) 1) [
        | inl one ↦ cond-true (eqb (node_count tree.size) 1) _ _ (eq-eqb (node_count tree.size) 1 one) ∙ sym (zero_root base.nodes (omega (arith, count_is, one)))
        | inr more ↦ cond-false (eqb (node_count tree.size) 1) _ _ (ne_eqb (node_count tree.size) 1 more) ∙ backs.root
      ]

  none_dirty : (k : ℕ) → ¬ (Contains tree.dirty k)
  none_dirty k dirty = no_member k (subst (λ (l : List ℕ). Contains l k) rests.clean dirty)

  module _ (to nonce : List ℕ) (path_is : IsPath to) (nonce_length : length nonce ≡ 32) where
    abbrev next : Sheet
    next = moved_sheet base to nonce

    next_linked : IsLinked next
    next_linked = moved_linked base to nonce linked path_is nonce_length

    pub next_is : NextSheet base tree to nonce [] next
    next_is = record {
      linked = next_linked;
      path_is = refl;
      nonce_is = refl;
      content_is = sym rests.stands.now_is;
      clean = λ k node out has. to_base base to nonce k node has;
      new_keys = λ j node lt has. absurd (omega (arith, lt, ap (λ (l : List ℕ). length l) rests.clean));
      free_entries = λ m k node dirty has two up dead. absurd (none_dirty _ dirty);
    }

    next_sealed : IsSealedAs next tree
    next_sealed = record {
      linked = next_linked;
      size = size_is;
      first = first_kept;
      root = root_kept;
      plains = λ k node plain has there.
          let in_base = to_base base to nonce k node has in
          let live = within base k node in_base in
          let n = backs.clean k has.numbered (omega (arith, live, count_is)) (none_dirty k) in
          n.2 plain there ∙ ap (λ (m : Node). m.plain) (same_Some n.0 node (sym n.1.there ∙ in_base.there));
    }

    pub next_rests : RestsOn next (renamed to nonce session)
    next_rests = record {
      stands = record { backed = record { path_is = refl; nonce_is = refl; backs = moved_backs base to nonce tree backs }; now_is = rests.stands.now_is };
      clean = rests.clean;
    }

    abbrev node : List ℕ
    node = node_of session.key to nonce tree

    abbrev numbers : List ℕ
    numbers = clean_below [] (node_count tree.size)

    module _ (key_length : length session.key ≡ 16) where
      -- a copy of a file that stands for the sheet stands for the next one
      copy_stands : (old bytes : List ℕ) → Stands old session.key base → IsCopyOf node numbers old bytes → Stands bytes session.key next
      copy_stands old bytes stands copy =
          stands_next session.key to nonce base tree [] next old bytes bytes key_length (record { linked = linked; backs = backs; is_next = next_is }) stands size_is (omega arith)
          (λ k i among low high. let there = in_copy k among in (copy.whole k there, copy.same k i there low high))
          (record {
            node_0 = λ i lt. copy.front i lt ∙ ap (λ (l : List ℕ). slice_get l i) (node_is session.key to nonce base tree [] next tree next_is next_sealed);
            seals = λ k n dirty has. absurd (none_dirty k dirty);
            longer = omega arith;
            at_least = copy.at_least;
            before = λ i low lt out. refl;
          })
        where
          in_copy : (k : ℕ) → Contains (clean_below tree.dirty (node_count tree.size)) k → Contains numbers k
          in_copy k among = subst (λ (l : List ℕ). Contains (clean_below l (node_count tree.size)) k) rests.clean among

      -- the disk

      stood_apart : (d : Disk) → Stood session.key session.name base d → d to ≡ None → session.name ≢ to
      stood_apart d stood none same =
          let e : None ≡ Some stood.as_sheet.file = sym (ap read_of (ap (λ (n : Name). d n) same ∙ none)) ∙ stood.as_sheet.whole in
          absurd (cc)

      reads_apart : (d : Disk) → ReadsAs session.key session.name base d → d to ≡ None → session.name ≢ to
      reads_apart d stands none same =
          let empty : contents (reading d session.name) ≡ [] = ap (λ (o : Option File). contents (read_of o)) (ap (λ (n : Name). d n) same ∙ none) in
          let long = stands.long in
          omega (arith, long, ap (λ (l : List ℕ). length l) empty, length-image session.key base linked key_length)

      stood_reads : (d : Disk) → Stood session.key session.name base d → Stands (contents (read_of (d session.name))) session.key base
      stood_reads d stood = subst (λ (o : Option (List ℕ)). Stands (contents o) session.key base) (sym stood.as_sheet.whole) stood.as_sheet.stands

      moved_image : (d : Disk) (image : Image) → RelocateImage session.name to node numbers d image → Stood session.key session.name base d × (d to ≡ None) → MovedAs session.key session.name base to next image
      moved_image d image is was = by_name (is.names (stood_apart d was.0 was.1))
        where
          by_name : RelocatedAs session.name to node numbers d image → MovedAs session.key session.name base to next image
          by_name (not_yet old new) = still_there (kept_left session.key session.name base d image was.0 old) (absent_at (d to) (image to) was.1 new)
          by_name (both bytes copy old new) =
              both_there (kept_left session.key session.name base d image was.0 old) (record { file = bytes; whole = new; stands = copy_stands (contents (read_of (d session.name))) bytes (stood_reads d was.0) copy })
          by_name (new_alone bytes copy gone new) = was_moved gone (record { file = bytes; whole = new; stands = copy_stands (contents (read_of (d session.name))) bytes (stood_reads d was.0) copy })

      moved_ends : {T E : Type 0} (r : Result T E) (d e : Disk) → RelocateLeaves r session.name to node numbers d e → Stood session.key session.name base d × (d to ≡ None) → MovedIf (done_of r) session.key session.name to next d e
      moved_ends (Ok x) d e ends was =
          let s = ends.named (stood_apart d was.0 was.1) in (
            ends.gone,
            record {
              settled = record { file = settled_there s.0 (e to) s.1 s.2; recovery = ends.recovery };
              as_sheet = record { file = s.0.bytes; whole = ap read_of s.1; stands = copy_stands (contents (read_of (d session.name))) s.0.bytes (stood_reads d was.0) s.3 };
            },
          )
      moved_ends (Err x) d e ends was = tt

      moved_reads : {T E : Type 0} (r : Result T E) → done_of r ≡ true → (d e : Disk) → RelocateLeaves r session.name to node numbers d e → ReadsAs session.key session.name base d × (d to ≡ None) → IsMoved session.key session.name to next d e
      moved_reads (Ok x) done d e ends was =
          let s = ends.named (reads_apart d was.0 was.1) in
          (ends.gone, record { file = s.0; there = s.1; settled = s.2; stands = copy_stands (contents (read_of (d session.name))) s.0.bytes was.0 s.3 })
      moved_reads (Err x) done d e ends was = let wrong : false ≡ true = done in absurd (cc)

      pub moves_on : {T E : Type 0} (r : Result T E) (before after : HostState) → OnDisk before after (Ran (RelocateImage session.name to node numbers) (RelocateLeaves r session.name to node numbers)) → MovesOn (done_of r) to nonce base session before after
      moves_on r before after disk = record {
        next = next;
        is_next = next_is;
        same_content = refl;
        on_next = next_rests;
        moved =
            where_ran (λ d. Stood session.key session.name base d × (d to ≡ None)) (λ d. MovedAs session.key session.name base to next) (MovedIf (done_of r) session.key session.name to next) before.honest after.honest
            (ran_weaker (RelocateImage session.name to node numbers) _ (RelocateLeaves r session.name to node numbers) _ before.honest after.honest moved_image (moved_ends r) disk);
        stands = λ done.
            both_weaker (Ran (RelocateImage session.name to node numbers) (RelocateLeaves r session.name to node numbers)) _ before.honest after.honest disk (λ a b run was. moved_reads r done a.now b.now run.ends was);
      }

relocate_apart : {T E : Type 0} (r : Result T E) (from to : Name) (block ks : List ℕ) (d e : Disk) → RelocateLeaves r from to block ks d e → KeepsApartBoth from to d e
relocate_apart (Ok x) from to block ks d e ends = ends.apart
relocate_apart (Err x) from to block ks d e ends = ends

relocate_gone : {T E : Type 0} (r : Result T E) (from to : Name) (block ks : List ℕ) (d e : Disk) → done_of r ≡ true → RelocateLeaves r from to block ks d e → e from ≡ None
relocate_gone (Ok x) from to block ks d e done ends = ends.gone
relocate_gone (Err x) from to block ks d e done ends = let wrong : false ≡ true = done in absurd (cc)

module _ {T E : Type 0} (r : Result T E) (session : SessionState) (to nonce : List ℕ) (before after : HostState) (first_length : length session.tree.first ≡ 3072) (path_is : IsPath to) (nonce_length : length nonce ≡ 32) (key_length : length session.key ≡ 16) where
  abbrev Relocates : Name → Name → List ℕ → ℕ → Type 0
  Relocates from new block count = OnDisk before after (Ran (RelocateImage from new block (clean_below [] count)) (RelocateLeaves r from new block (clean_below [] count)))

  carries_all : Relocates session.name to (node_of session.key to nonce session.tree) (node_count session.tree.size) → Carries (done_of r) to nonce session before after
  carries_all disk =
      let block = node_of session.key to nonce session.tree in
      let ks = clean_below [] (node_count session.tree.size) in
      record {
        gone = λ done. both_weaker (Ran (RelocateImage session.name to block ks) (RelocateLeaves r session.name to block ks)) _ before.honest after.honest disk (λ a b run. relocate_gone r session.name to block ks a.now b.now done run.ends);
        aside =
            ran_weaker (RelocateImage session.name to block ks) (LeavesApartBoth session.name to) (RelocateLeaves r session.name to block ks) (KeepsApartBoth session.name to) before.honest after.honest (λ d image is. is.apart)
            (relocate_apart r session.name to block ks) disk;
        each = λ base linked rests. moves_on base session linked rests first_length to nonce path_is nonce_length key_length r before after disk;
      }

  pub carries : (from new : Name) (block : List ℕ) (count : ℕ) → from ≡ session.name → new ≡ to → block ≡ node_of session.key to nonce session.tree → count ≡ node_count session.tree.size → Relocates from new block count → Carries (done_of r) to nonce session before after
  carries from new block count from_is new_is block_is count_is disk =
      carries_all
      (subst (λ (n : ℕ). Relocates session.name to (node_of session.key to nonce session.tree) n) count_is
      (subst (λ (b : List ℕ). Relocates session.name to b count) block_is
      (subst (λ (n : Name). Relocates session.name n block count) new_is (subst (λ (n : Name). Relocates n new block count) from_is disk))))
