-- Two names of protected files do not share their side and recovery files.
use Rattle.std.proofs.Common.{◌≡◌, ◌≢◌, ℕ, List, [], ◌++◌, refl, sym, ◌∙◌, ap, append_assoc, arith}
use Rattle.std.specs.Prelude.{fold, codes}
use Rattle.std.proofs.lemmas.List.{append_cancel_right}
use Rattle.std.proofs.lemmas.List.Sums.{fold-append}
use Rattle.pf_io.specs.Disk.{Name}
use Rattle.pf_io.specs.Names.{recovery_of, IsTarget, last_part, part_with, side_of}
use Rattle.pf_session.specs.Aside.{Apart}
use Rattle.pf_session.proofs.Names.{recovery_side_of}

last_new : (part : List ℕ) → fold part_with part (codes ".new") ≡ part ++ codes ".new"
last_new part = simp append_assoc refl

last_recovery : (part : List ℕ) → fold part_with part (codes ".recovery") ≡ part ++ codes ".recovery"
last_recovery part = simp append_assoc refl

-- a side file's name is no target
pub no_side : (name other : Name) → other ≡ side_of name → IsTarget other → ⊥
no_side name other same target =
    target.is_part.no_side_file (record { front = last_part name; whole = ap last_part same ∙ fold-append part_with [] name (codes ".new") ∙ last_new (last_part name) })

pub no_recovery : (name other : Name) → other ≡ recovery_of name → IsTarget other → ⊥
no_recovery name other same target =
    target.is_part.no_recovery_file (record { front = last_part name; whole = ap last_part same ∙ fold-append part_with [] name (codes ".recovery") ∙ last_recovery (last_part name) })

pub ends_apart : (n name : Name) → recovery_of n ≡ side_of name → ⊥
ends_apart n name same =
    let e : 121 ≡ 119 = sym (fold-append (λ _ b. b) 0 n (codes ".recovery")) ∙ ap (λ (l : List ℕ). fold (λ _ b. b) 0 l) same ∙ fold-append (λ _ b. b) 0 name (codes ".new") in
    absurd (omega (arith, e))

pub apart_name : (n name : Name) → IsTarget n → n ≢ name → Apart name n
apart_name n name target apart = record {
  here = apart;
  recovery = λ same. no_recovery name n same target;
  side = λ same. no_side name n same target;
  side_recovery = λ same. no_recovery (side_of name) n (same ∙ sym (recovery_side_of name)) target;
}

pub apart_recovery : (n name : Name) → IsTarget n → IsTarget name → n ≢ name → Apart name (recovery_of n)
apart_recovery n name target of_name apart = record {
  here = λ same. no_recovery n name (sym same) of_name;
  recovery = λ same. apart (append_cancel_right n name (codes ".recovery") same);
  side = λ same. ends_apart n name same;
  side_recovery = λ same. no_side name n (append_cancel_right n (side_of name) (codes ".recovery") (same ∙ sym (recovery_side_of name))) target;
}
