-- The rules of an opening, by its answers; and that these are those of the files.
use Rattle.std.proofs.Common.{◌≡◌, ◌≢◌, inl, inr, List, [], ◌∷◌, ◌++◌, ℕ, refl, sym, ◌∙◌, ap, subst, Option, Some, None, arith, length, length-append, take, drop}
use Rattle.std.specs.Prelude.{Contains, ◌<◌}
use Rattle.node_layout.specs.Faults.{IsPlainFault, IsSomeMetaText}
use Rattle.node_layout.specs.Metadata.{flag_at, magic}
use Rattle.node_layout.specs.Opening.{OpensTo, IsOpenFault}
use Rattle.node_layout.specs.declared.damage.Kind.{Kind}
use Rattle.node_layout.specs.declared.damage.Kind.TheVariants as kinds
use Rattle.node_layout.specs.declared.metadata.MetaSecret.{MetaSecret}
use Rattle.node_layout.specs.declared.metadata.PlainFault.TheVariants.{BadVersion}
use Rattle.node_layout.proofs.Secrets.{opens_to_one}
use Rattle.pf_io.specs.Disk.{Name}
use Rattle.pf_io.specs.Host.{Answer, LengthWas, Gave, length_of, contents}
use Rattle.pf_io.specs.Names.{IsTarget}
use Rattle.pf_session.specs.Carries.{IsLast}
use Rattle.pf_session.specs.Opening.{IsOpenable, other_version, node_answers}
use Rattle.pf_session.specs.declared.open_fault.OpenFault.TheVariants as faults
use Rattle.pf_session.proofs.Backed.{last_there}
use Rattle.pf_session.proofs.OpenStanding.{not_block}
use Rattle.pf_script.specs.FileTurns.{opening_answers}
use Rattle.pf_script.specs.Rules.{IsFirst as IsFirstRule, NoneRefuses, opening_rules, other_version as other_version_rule, other_path as other_path_rule}
use Rattle.pf_script.specs.declared.reply.Why.{Why}
use Rattle.pf_script.specs.declared.reply.Why.TheVariants as whys
use Rattle.pf_script.proofs.OnEmpty.{not_of}
use Rattle.pf_script.proofs.OverGiven.{none_contained, none_last}

-- the last block of node 0 among the answers of an opening is the one that it has
pub last_one : (name : Name) (size : ℕ) (block other : List ℕ) → IsLast name (node_answers name size block) other → other ≡ block
last_one name size block other last = by_front last.before last.split
  where
    by_front : (before : List Answer) → node_answers name size block ≡ before ++ Gave name 0 4096 other ∷ last.after → other ≡ block
    by_front [] same = absurd (cc)
    by_front (first ∷ []) same = cc
    by_front (first ∷ second ∷ before) same = absurd (omega (arith, ap (λ (l : List Answer). length l) same, length-append before (Gave name 0 4096 other ∷ last.after)))

-- the answers of an opening are those of the files
pub none_given : (name : Name) (file : Option (List ℕ)) → None ≡ length_of file → LengthWas name None ∷ [] ≡ opening_answers name file
none_given name None is = refl
none_given name (Some file) is = absurd (cc)

pub node_given : (name : Name) (size : ℕ) (block : List ℕ) (file : Option (List ℕ)) → Some size ≡ length_of file → block ≡ take 4096 (drop 0 (contents file)) → node_answers name size block ≡ opening_answers name file
node_given name size block None is gave = absurd (cc)
node_given name size block (Some file) is gave = let same : size ≡ length file = cc in rw same (rw gave refl)

-- what does not open does not open to fields
pub never_opens : (key block : List ℕ) (kind : Kind) (secret : MetaSecret) → IsOpenFault key block kind → OpensTo key block secret → ⊥
never_opens key block kinds.Short secret why opens = why
never_opens key block kinds.Tag secret why opens = let e : None ≡ Some opens.0 = sym why ∙ opens.1 in absurd (cc)
never_opens key block kinds.Text secret why opens =
    let e : Some opens.0 ≡ Some why.0 = sym opens.1 ∙ why.1 in
    let same : opens.0 ≡ why.0 = cc in
    why.2 (subst (λ (t : List ℕ). IsSomeMetaText t) same (secret.path, (secret.size, (secret.root_key, (secret.root_tag, (secret.first, opens.2))))))
never_opens key block kinds.Log secret why opens = why

-- rules that do not refuse such a node 0
module _ (name : Name) (size : ℕ) (block : List ℕ) where
  abbrev answers : List Answer
  answers = node_answers name size block

  pub was_there : (why : Why) → (why ≡ whys.NotFound name) × Contains answers (LengthWas name None) → ⊥
  was_there why refuses =
      not_of (LengthWas name (Some size)) (LengthWas name None) (Gave name 0 4096 block ∷ []) (λ same. absurd (cc))
      (not_of (Gave name 0 4096 block) (LengthWas name None) [] (λ same. absurd (cc)) (λ none. absurd (omega (arith, none.1)))) refuses.1

  pub magic_is : take 8 block ≡ magic → (why : Why) → (why ≡ whys.NotProtected) × ((b : List ℕ) × IsLast name answers b × (take 8 b ≢ magic)) → ⊥
  magic_is is why refuses = refuses.1.2 (subst (λ (b : List ℕ). take 8 b ≡ magic) (sym (last_one name size block refuses.1.0 refuses.1.1)) is)

  pub no_flag : flag_at block ≡ 0 → (why : Why) → (why ≡ whys.Unbuilt) × ((b : List ℕ) × IsLast name answers b × (length b ≡ 4096) × (flag_at b ≢ 0)) → ⊥
  no_flag is why refuses = refuses.1.3 (subst (λ (b : List ℕ). flag_at b ≡ 0) (sym (last_one name size block refuses.1.0 refuses.1.1)) is)

  pub no_version : IsOpenable block → (why : Why) → other_version_rule name answers why → ⊥
  no_version openable why refuses =
      not_block block openable (faults.BadVersion refuses.1 refuses.2)
      (other_version refuses.1 refuses.2 openable.whole openable.flag (subst (λ (b : List ℕ). IsPlainFault b (BadVersion refuses.1 refuses.2)) (last_one name size block refuses.0 refuses.3) refuses.6) refl)

-- before node 0 came a target is not refused, unless it is absent
none_before : (key : List ℕ) (name : Name) (given : List Answer) → IsTarget name → ¬ (Contains given (LengthWas name None)) → ((block : List ℕ) → ¬ (IsLast name given block)) → NoneRefuses (opening_rules key name given)
none_before key name given target there none = (
  λ why refuses. refuses.1 target,
  (
    λ why refuses. there refuses.1,
    (
      λ why refuses. none refuses.1.0 refuses.1.1,
      (λ why refuses. none refuses.1.0 refuses.1.1, (λ why refuses. none refuses.0 refuses.3, (λ why refuses. none refuses.0 refuses.2, tt))),
    ),
  ),
)

-- so before any answer came, and where only the length did
pub none_unasked : (key : List ℕ) (name : Name) → IsTarget name → NoneRefuses (opening_rules key name [])
none_unasked key name target = none_before key name [] target (λ is. none_contained is) (none_last name)

pub none_measured : (key : List ℕ) (name : Name) (size : ℕ) → IsTarget name → NoneRefuses (opening_rules key name (LengthWas name (Some size) ∷ []))
none_measured key name size target =
    none_before key name (LengthWas name (Some size) ∷ []) target (not_of (LengthWas name (Some size)) (LengthWas name None) [] (λ same. absurd (cc)) (λ is. none_contained is)) (λ block last. by_front block last.after last.before last.split)
  where
    by_front : (block : List ℕ) (after before : List Answer) → LengthWas name (Some size) ∷ [] ≡ before ++ Gave name 0 4096 block ∷ after → ⊥
    by_front block after [] same = absurd (cc)
    by_front block after (first ∷ before) same = absurd (omega (arith, ap (λ (l : List Answer). length l) same, length-append before (Gave name 0 4096 block ∷ after)))

module _ (key : List ℕ) (name : Name) (target : IsTarget name) (size : ℕ) (block : List ℕ) where
  abbrev given : List Answer
  given = node_answers name size block

  last : IsLast name given block
  last = last_there name size block

  pub not_protected_first : take 8 block ≢ magic → IsFirstRule (opening_rules key name given) whys.NotProtected
  not_protected_first other = inr ((λ why refuses. refuses.1 target), inr (was_there name size block, inl (refl, (block, last, other))))

  pub unbuilt_first : take 8 block ≡ magic → length block ≡ 4096 → flag_at block ≢ 0 → IsFirstRule (opening_rules key name given) whys.Unbuilt
  unbuilt_first is whole flag = inr ((λ why refuses. refuses.1 target), inr (was_there name size block, inr (magic_is name size block is, inl (refl, (block, last, whole, flag)))))

  pub version_first : (major minor : ℕ) → length block ≡ 4096 → flag_at block ≡ 0 → IsPlainFault block (BadVersion major minor) → IsFirstRule (opening_rules key name given) (whys.BadVersion major minor)
  version_first major minor whole flag other =
      inr ((λ why refuses. refuses.1 target), inr (was_there name size block, inr (magic_is name size block other.0, inr (no_flag name size block flag, inl (block, major, minor, last, whole, flag, other, refl)))))

  pub path_first : IsOpenable block → (secret : MetaSecret) → OpensTo key block secret → name ≢ secret.path → IsFirstRule (opening_rules key name given) (whys.WrongPath secret.path)
  path_first openable secret opens other =
      inr ((λ why refuses. refuses.1 target), inr (was_there name size block, inr (magic_is name size block openable.plain.magic_is, inr (no_flag name size block openable.flag, inr (no_version name size block openable, inl (block, secret, last, openable.whole, opens, other, refl))))))

  -- a node 0 that is whole and of version 1.0 is refused only by its path
  none_but : IsOpenable block → ((why : Why) → ¬ (other_path_rule key name given why)) → NoneRefuses (opening_rules key name given)
  none_but openable no_path = ((λ why refuses. refuses.1 target), (was_there name size block, (magic_is name size block openable.plain.magic_is, (no_flag name size block openable.flag, (no_version name size block openable, (no_path, tt))))))

  pub none_refuses : IsOpenable block → (secret : MetaSecret) → OpensTo key block secret → name ≡ secret.path → NoneRefuses (opening_rules key name given)
  none_refuses openable secret opens same =
      none_but openable
      (λ why refuses.
      refuses.5 (same ∙ ap (λ (m : MetaSecret). m.path) (opens_to_one key block secret refuses.1 opens (subst (λ (b : List ℕ). OpensTo key b refuses.1) (last_one name size block refuses.0 refuses.2) refuses.4))))

  -- one that does not open
  pub none_closed : IsOpenable block → (kind : Kind) → IsOpenFault key block kind → NoneRefuses (opening_rules key name given)
  none_closed openable kind why_not =
      none_but openable (λ why refuses. never_opens key block kind refuses.1 why_not (subst (λ (b : List ℕ). OpensTo key b refuses.1) (last_one name size block refuses.0 refuses.2) refuses.4))

  -- one that is short
  not_whole : length block < 4096 → (other : List ℕ) → IsLast name given other → length other ≡ 4096 → ⊥
  not_whole short other is whole = let same = ap (λ (b : List ℕ). length b) (last_one name size block other is) in omega (arith, short, whole, same)

  pub none_short : take 8 block ≡ magic → length block < 4096 → NoneRefuses (opening_rules key name given)
  none_short is short = (
    λ why refuses. refuses.1 target,
    (
      was_there name size block,
      (
        magic_is name size block is,
        (λ why refuses. not_whole short refuses.1.0 refuses.1.1 refuses.1.2, (λ why refuses. not_whole short refuses.0 refuses.3 refuses.4, (λ why refuses. not_whole short refuses.0 refuses.2 refuses.3, tt))),
      ),
    ),
  )
