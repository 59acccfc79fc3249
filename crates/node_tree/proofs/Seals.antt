-- Seals that are written to an honest disk, the last number first.
use Rattle.std.proofs.Common.{◌≡◌, ◌⊎◌, inl, inr, ℕ, ◌+◌, ◌-◌, ◌*◌, ◌<◌, ◌≤◌, List, [], ◌∷◌, ◌++◌, length, take, drop, replicate, get_or, refl, ap, ap₂, ◌∙◌, sym, arith, subst, true, Option, Some, Result, Ok}
use Rattle.std.specs.Prelude.{Contains, slice_get}
use Rattle.std.proofs.lemmas.Bool.{cases_lt}
use Rattle.std.proofs.lemmas.Option.{same_Some}
use Rattle.std.proofs.lemmas.List.{ext_get_or, get_or_append_left, get_or-append_right, get_or-take, get_or-drop, length-take, length-take-le, length-drop, length-append, length-replicate}
use Rattle.pf_io.specs.Disk.{File, Disk, Image, IsImage}
use Rattle.pf_io.specs.Host.{Name}
use Rattle.pf_io.specs.Steps.{Changes, Writes, overwrite, reach}
use Rattle.pf_io.specs.SplicingProofs.{get_drop, overwrite-length, overwrite-front, overwrite-gap, overwrite-back}
use Rattle.pf_io.proofs.Images.{same_elements, image_at, absent_at, others_image, others_then, follows_at, follows_none, written_cut_short}
use Rattle.node_tree.specs.Opened.{block_of}
use Rattle.node_tree.specs.Sealing.{seal_for, InBlocks, HasSeals, SealedFile, LeavesOutside, PutsAll}
use Rattle.node_tree.proofs.Placed.{first_or_rest, with_key}

-- the block that was written is read again
pub written : (at : ℕ) (b old : List ℕ) → length b ≡ 4096 → take 4096 (drop at (overwrite at b old)) ≡ b
written at [] old long = absurd (omega arith)
written at (c ∷ cs) old long =
    let b = c ∷ cs in
    let front = take at old ++ replicate (at - length old) 0 in
    let back = drop (at + length b) old in
    let there : length front ≡ at = omega (arith, length-append (take at old) (replicate (at - length old) 0), length-take at old, length-replicate {A = ℕ} (at - length old) 0) in
    let most : length (front ++ b) ≡ at + 4096 = omega (arith, length-append front b, there, long) in
    let all = front ++ b ++ back in
    let enough : length (take 4096 (drop at all)) ≡ 4096 = length-take-le 4096 (drop at all) (omega (arith, length-drop at all, length-append (front ++ b) back, most)) in
    ext_get_or 0 (take 4096 (drop at all)) b (enough ∙ sym long)
    (λ i lt.
    let low : i < 4096 = omega (arith, enough) in
    get_or-take 4096 (drop at all) i 0 low ∙ get_or-drop at all i 0 ∙ get_or_append_left (front ++ b) back 0 (at + i) (omega (arith, most)) ∙ get_or-append_right front b at (at + i) 0 there (omega arith)
    ∙ ap (λ (j : ℕ). get_or b j 0) (let e : at + i - at ≡ i = omega arith in e))

-- a block behind it is as before
still_there : (x k : ℕ) (b old : List ℕ) → length b ≡ 4096 → x < k → block_of (overwrite (4096 * x) b old) k ≡ block_of old k
still_there x k b old long lt =
    let new = overwrite (4096 * x) b old in
    ap (λ (l : List ℕ). take 4096 l) (same_elements (drop (4096 * k) new) (drop (4096 * k) old) (omega (arith, length-drop (4096 * k) new, length-drop (4096 * k) old, overwrite-length (4096 * x) b old, reached))
    (λ i within. get_drop (4096 * k) new i ∙ overwrite-back (4096 * x) b old (4096 * k + i) (omega (arith, long)) ∙ sym (get_drop (4096 * k) old i))) where
      reach_is : (n : ℕ) → n ≡ 4096 → reach (4096 * x) n ≡ 4096 * x + 4096
      reach_is n is = ap (reach (4096 * x)) is

      reached : reach (4096 * x) (length b) ≡ 4096 * x + 4096
      reached = reach_is (length b) long

-- a byte outside a block is before or behind it
beside : (dirty : List ℕ) (x i : ℕ) → Contains dirty x → ¬ (InBlocks dirty i) → (i < 4096 * x) ⊎ (4096 * x + 4096 ≤ i)
beside dirty x i among outside =
    elim (cases_lt i (4096 * x)) [
      | inl before ↦ inl before
      | inr past ↦ elim (cases_lt i (4096 * x + 4096)) [ inl within ↦ absurd (outside (x, among, past, within)) | inr behind ↦ inr behind ]
    ]

-- what is outside the blocks of the dirty nodes stays, so far
pub record OutsideFile (dirty : List ℕ) (old new : File) : Type 0 where
  pub longer : length old.bytes ≤ length new.bytes
  pub before : (i : ℕ) → i < length old.bytes → ¬ (InBlocks dirty i) → slice_get new.bytes i ≡ slice_get old.bytes i
  pub keeps : (i : ℕ) → old.keeps i ≡ true → ¬ (InBlocks dirty i) → new.keeps i ≡ true
  pub shortest : old.shortest ≤ new.shortest
  pub longest : (i : ℕ) → old.longest ≤ i → i < new.longest → (k : ℕ) × Contains dirty k × (i < 4096 * k + 4096)

-- nothing was done to it
pub outside_none : (dirty : List ℕ) (f : File) → OutsideFile dirty f f
outside_none dirty f = record { longer = omega arith; before = λ i lt outside. refl; keeps = λ i kept outside. kept; shortest = omega arith; longest = λ i le lt. absurd (omega arith) }

module _ (dirty : List ℕ) (x : ℕ) (among : Contains dirty x) (b : List ℕ) (long : length b ≡ 4096) where
  kept_write : {T E : Type 0} (r : Result T E) (f g h : File) → ((i : ℕ) → f.keeps i ≡ true → ¬ (InBlocks dirty i) → g.keeps i ≡ true) → Writes (4096 * x) b r g h → (i : ℕ) → f.keeps i ≡ true → ¬ (InBlocks dirty i) → h.keeps i ≡ true
  kept_write r f g h so_far writes i kept outside =
      elim (beside dirty x i among outside) [
        | inl before ↦ writes.risks.before i (so_far i kept outside) before
        | inr behind ↦ writes.risks.after i (so_far i kept outside) (omega (arith, long))
      ]

  longest_write : {T E : Type 0} (r : Result T E) (f g h : File) → ((i : ℕ) → f.longest ≤ i → i < g.longest → (k : ℕ) × Contains dirty k × (i < 4096 * k + 4096)) → Writes (4096 * x) b r g h → (i : ℕ) → f.longest ≤ i → i < h.longest
      → (k : ℕ) × Contains dirty k × (i < 4096 * k + 4096)
  longest_write r f g h so_far writes i le lt =
      let reached : reach (4096 * x) (length b) ≡ 4096 * x + 4096 = ap (reach (4096 * x)) long in
      elim (cases_lt i g.longest) [
        | inl was ↦ so_far i le was
        | inr new ↦ (x, among, let most = writes.risks.no_longer in omega (arith, most, reached))
      ]

  outside_write : {T E : Type 0} (r : Result T E) (f g h : File) → OutsideFile dirty f g → Writes (4096 * x) b r g h → OutsideFile dirty f h
  outside_write r f g h so_far writes =
      let torn = (written_cut_short r (4096 * x) b g h writes).torn in
      record {
        longer = let a = so_far.longer in let c = torn.no_shorter in omega arith;
        before = λ i lt outside.
            let there : i < length g.bytes = let a = so_far.longer in omega arith in
            elim (beside dirty x i among outside) [
              | inl below ↦ torn.before i below there
              | inr behind ↦ torn.after i (omega (arith, long)) there
            ] ∙ so_far.before i lt outside;
        keeps = kept_write r f g h so_far.keeps writes;
        shortest = let a = so_far.shortest in let c = writes.risks.no_shorter in omega arith;
        longest = longest_write r f g h so_far.longest writes;
      }

sealed_outside : (numbers : List ℕ) (keys : List (List ℕ)) (held : ℕ → Option (List ℕ)) (dirty : List ℕ) (f g : File) → SealedFile numbers keys held dirty f g → OutsideFile dirty f g
sealed_outside numbers keys held dirty f g so_far = record { longer = so_far.reads.longer; before = so_far.reads.before; keeps = so_far.keeps; shortest = so_far.shortest; longest = so_far.longest }

-- of an image
pub outside_image : (name : Name) (dirty : List ℕ) (d e : Disk) (image : Image) → PutsAll (OutsideFile dirty) name d e → IsImage e image → LeavesOutside name dirty d image
outside_image name dirty d e image puts is = record {
  here = λ file there settled.
      let q = puts.there file there in
      let r = image_at q.0 (e name) (image name) q.1 (is name) in
      record {
        bytes = r.0;
        there = r.1;
        longer = let a = settled.no_shorter in let b = q.2.shortest in let c = r.2.no_shorter in omega arith;
        before = λ i lt outside. r.2.kept i (q.2.keeps i (settled.keeps i lt) outside) ∙ q.2.before i lt outside;
        ends = λ i le lt. q.2.longest i (let a = settled.no_longer in omega arith) (let c = r.2.no_longer in omega arith);
      };
  absent = λ none. absent_at (e name) (image name) (puts.absent none) (is name);
  others = others_image name d e image puts.others is;
}

pub puts_weaker : (R S : File → File → Type 0) (name : Name) (d e : Disk) → ((f g : File) → R f g → S f g) → PutsAll R name d e → PutsAll S name d e
puts_weaker R S name d e go puts = record { there = λ file there. let q = puts.there file there in (q.0, q.1, go file q.0 q.2); absent = puts.absent; others = puts.others }

-- one write more
pub puts_then : (R W S : File → File → Type 0) (name : Name) (d e f : Disk) → ((a b c : File) → R a b → W b c → S a c) → PutsAll R name d e → Changes name W e f → PutsAll S name d f
puts_then R W S name d e f go puts changes = record {
  there = λ file there.
      let q = puts.there file there in
      let r = follows_at W (e name) (f name) q.0 q.1 changes.there in
      (r.0, r.1, go file q.0 r.0 q.2 r.2);
  absent = λ none. follows_none W (e name) (f name) (puts.absent none) changes.there;
  others = others_then name d e f puts.others changes.others;
}

-- nothing was written
pub sealed_none : (keys : List (List ℕ)) (held : ℕ → Option (List ℕ)) (dirty : List ℕ) (f : File) → SealedFile [] keys held dirty f f
sealed_none keys held dirty f = record {
  reads = record {
    seals = λ k key plain has. absurd (let w = has.within in omega arith);
    longer = omega arith;
    before = λ i lt outside. refl;
    gap = λ i le lt. absurd (omega arith);
    ends = λ i le lt. absurd (omega arith);
  };
  keeps = λ i kept outside. kept;
  shortest = omega arith;
  longest = λ i le lt. absurd (omega arith);
}

pub puts_none : (R : File → File → Type 0) (name : Name) (d e : Disk) → ((f : File) → R f f) → e ≡ d → PutsAll R name d e
puts_none R name d e go same = subst (λ (x : Disk). PutsAll R name d x) (sym same) (record { there = λ file there. (file, there, go file); absent = λ none. none; others = λ other apart. refl })

module _ (x : ℕ) (numbers dirty : List ℕ) (key plain : List ℕ) (keys : List (List ℕ)) (mid held_now : ℕ → Option (List ℕ)) (before : (k : ℕ) → Contains numbers k → x < k) (among : Contains dirty x)
    (behind : (k : ℕ) → x ≤ k → held_now k ≡ mid k) (there : mid x ≡ Some plain) (long : length (seal_for key plain) ≡ 4096) where
  seals_more : (old g : List ℕ) → HasSeals numbers keys mid dirty old g → HasSeals (x ∷ numbers) (key ∷ keys) held_now dirty old (overwrite (4096 * x) (seal_for key plain) g)
  seals_more old g so_far =
      let b = seal_for key plain in
      let h = overwrite (4096 * x) b g in
      let reached : reach (4096 * x) (length b) ≡ 4096 * x + 4096 = ap (reach (4096 * x)) long in
      let longer : length g ≤ length h = omega (arith, overwrite-length (4096 * x) b g) in
      let same : (i : ℕ) → i < length g → ¬ (InBlocks dirty i) → slice_get h i ≡ slice_get g i = λ i lt outside. elim (beside dirty x i among outside) [
        | inl below ↦ overwrite-front (4096 * x) b g i below lt
        | inr past ↦ overwrite-back (4096 * x) b g i (omega (arith, long))
      ] in
      record {
        seals = λ k key' p has here. elim (first_or_rest x numbers key keys k key' has) [
          | inl (is, key_is) ↦
              let same_plain : plain ≡ p = same_Some plain p (sym there ∙ sym (behind x (omega arith)) ∙ ap held_now is ∙ here) in
              ap (block_of h) (sym is) ∙ written (4096 * x) b g long ∙ ap₂ seal_for key_is same_plain
          | inr further ↦
              let after = before k (with_key numbers keys k key' further) in
              still_there x k b g long after ∙ so_far.seals k key' p further (sym (behind k (omega arith)) ∙ here)
        ];
        longer = let l = so_far.longer in omega arith;
        before = λ i lt outside. same i (let l = so_far.longer in omega arith) outside ∙ so_far.before i lt outside;
        gap = λ i le lt outside. elim (cases_lt i (length g)) [
          | inl was ↦ same i was outside ∙ so_far.gap i le was outside
          | inr new ↦ elim (beside dirty x i among outside) [
            | inl below ↦ overwrite-gap (4096 * x) b g i new below lt
            | inr past ↦ absurd (omega (arith, overwrite-length (4096 * x) b g, reached))
          ]
        ];
        ends = λ i le lt. elim (cases_lt i (length g)) [
          | inl was ↦ so_far.ends i le was
          | inr new ↦ (x, among, omega (arith, overwrite-length (4096 * x) b g, reached))
        ];
      }

  pub sealed_more : (T E : Type 0) (value : T) (f g h : File) → SealedFile numbers keys mid dirty f g → Writes {E = E} (4096 * x) (seal_for key plain) (Ok value) g h → SealedFile (x ∷ numbers) (key ∷ keys) held_now dirty f h
  sealed_more T E value f g h so_far writes = record {
    reads = subst (λ (l : List ℕ). HasSeals (x ∷ numbers) (key ∷ keys) held_now dirty f.bytes l) (sym writes.reads) (seals_more f.bytes g.bytes so_far.reads);
    keeps = kept_write dirty x among (seal_for key plain) long (Ok value) f g h so_far.keeps writes;
    shortest = let a = so_far.shortest in let c = writes.risks.no_shorter in omega arith;
    longest = longest_write dirty x among (seal_for key plain) long (Ok value) f g h so_far.longest writes;
  }

  -- whatever comes of the write, the others stay, and the image is as it was outside
  pub any_write : {T E : Type 0} (r : Result T E) (name : Name) (d e f : Disk) → PutsAll (SealedFile numbers keys mid dirty) name d e → Changes name (Writes (4096 * x) (seal_for key plain) r) e f → (image : Image) → IsImage f image → LeavesOutside name dirty d image
  any_write r name d e f puts changes image is =
      outside_image name dirty d f image
      (puts_then (OutsideFile dirty) (Writes (4096 * x) (seal_for key plain) r) (OutsideFile dirty) name d e f (λ a b c so_far writes. outside_write dirty x among (seal_for key plain) long r a b c so_far writes)
      (puts_weaker (SealedFile numbers keys mid dirty) (OutsideFile dirty) name d e (sealed_outside numbers keys mid dirty) puts) changes) is
