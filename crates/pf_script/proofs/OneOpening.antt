-- The rules and the damage of an opening over files that are alike.
use Rattle.std.proofs.Common.{◌≡◌, ◌≢◌, ℕ, List, [], ◌∷◌, ◌++◌, length, length-append, take, refl, ap, ◌∙◌, sym, arith, subst, Option, Some, None}
use Rattle.std.specs.Prelude.{Contains, slice_index}
use Rattle.std.proofs.lemmas.Option.{none-some}
use Rattle.node_layout.specs.Metadata.{magic, flag_at}
use Rattle.node_layout.specs.Opening.{OpensTo, IsOpenFault}
use Rattle.node_layout.specs.declared.damage.Damage.{Damage}
use Rattle.node_layout.specs.declared.damage.Kind.{Kind}
use Rattle.node_layout.specs.declared.damage.Kind.TheVariants as kinds
use Rattle.node_layout.specs.declared.metadata.MetaSecret.{MetaSecret}
use Rattle.node_layout.proofs.Secrets.{opens_to_one}
use Rattle.node_tree.specs.Sheet.{Sheet, Stands}
use Rattle.node_tree.specs.Standing.{StandingFile}
use Rattle.node_tree.specs.Unforged.{Carries}
use Rattle.node_tree.proofs.FileParts.{standing_file}
use Rattle.pf_io.specs.Disk.{Name}
use Rattle.pf_io.specs.Host.{Answer, LengthWas, Gave}
use Rattle.pf_session.specs.Carries.{IsLast}
use Rattle.pf_session.specs.Opening.{IsOpenable}
use Rattle.pf_session.proofs.Backed.{path_same}
use Rattle.pf_session.proofs.OpenStanding.{is_carried}
use Rattle.pf_script.specs.FileTurns.{opening_answers}
use Rattle.pf_script.specs.Rules.{Rule, refuses, other_version, other_path}
use Rattle.pf_script.specs.Turns.{IsOpeningDamage, short_zero, closed_zero}
use Rattle.pf_script.specs.declared.reply.Why.{Why}
use Rattle.pf_script.specs.declared.reply.Why.TheVariants as whys
use Rattle.pf_script.proofs.OpenRules.{last_one, never_opens}
use Rattle.pf_script.proofs.OneRules.{OneRule, AreOne, one_refusal}

no_last : (name : Name) (block : List ℕ) → IsLast name (opening_answers name None) block → ⊥
no_last name block last = by_front last.before last.split
  where
    by_front : (before : List Answer) → LengthWas name None ∷ [] ≡ before ++ Gave name 0 4096 block ∷ last.after → ⊥
    by_front [] same = absurd (cc)
    by_front (first ∷ before) same = absurd (omega (arith, ap (λ (l : List Answer). length l) same, length-append before (Gave name 0 4096 block ∷ last.after)))

-- the block of node 0 is one
last_same : (name : Name) (here : Option (List ℕ)) (block other : List ℕ) → IsLast name (opening_answers name here) block → IsLast name (opening_answers name here) other → block ≡ other
last_same name None block other one two = absurd (no_last name block one)
last_same name (Some file) block other one two = last_one name (length file) (take 4096 file) block one ∙ sym (last_one name (length file) (take 4096 file) other two)

kind_one : (key block : List ℕ) (kind more : Kind) → IsOpenFault key block kind → IsOpenFault key block more → kind ≡ more
kind_one key block kinds.Short more one two = absurd one
kind_one key block kinds.Log more one two = absurd one
kind_one key block kinds.Tag kinds.Short one two = absurd two
kind_one key block kinds.Tag kinds.Log one two = absurd two
kind_one key block kinds.Tag kinds.Tag one two = refl
kind_one key block kinds.Tag kinds.Text one two = absurd (none-some two.0 (sym one ∙ two.1))
kind_one key block kinds.Text kinds.Short one two = absurd two
kind_one key block kinds.Text kinds.Log one two = absurd two
kind_one key block kinds.Text kinds.Tag one two = absurd (none-some one.0 (sym two ∙ one.1))
kind_one key block kinds.Text kinds.Text one two = refl

-- the damage is one
pub damage_same : (key : List ℕ) (name : Name) (here : Option (List ℕ)) (damage other : Damage) → IsOpeningDamage key name (opening_answers name here) damage → IsOpeningDamage key name (opening_answers name here) other → damage ≡ other
damage_same key name here damage other (short_zero block last short is) (short_zero block' last' short' is') = is ∙ sym is'
damage_same key name here damage other (short_zero block last short is) (closed_zero block' kind last' whole fault is') =
    let e = ap (λ (b : List ℕ). length b) (last_same name here block block' last last') in absurd (omega arith)
damage_same key name here damage other (closed_zero block kind last whole fault is) (short_zero block' last' short is') =
    let e = ap (λ (b : List ℕ). length b) (last_same name here block block' last last') in absurd (omega arith)
damage_same key name here damage other (closed_zero block kind last whole fault is) (closed_zero block' kind' last' whole' fault' is') =
    let e = last_same name here block block' last last' in
    is ∙ ap (λ (k : Kind). let d : Damage = record { node = 0; kind = k } in d) (kind_one key block kind kind' fault (subst (λ (b : List ℕ). IsOpenFault key b kind') (sym e) fault')) ∙ sym is'

-- the rules behind that of the name
abbrev pub told_rules : List ℕ → Name → List Answer → List Rule
told_rules key name given =
    refuses (whys.NotFound name) (Contains given (LengthWas name None))
    ∷ refuses whys.NotProtected ((block : List ℕ) × IsLast name given block × (take 8 block ≢ magic))
    ∷ refuses whys.Unbuilt ((block : List ℕ) × IsLast name given block × (length block ≡ 4096) × (flag_at block ≢ 0))
    ∷ other_version name given
    ∷ other_path key name given
    ∷ []

module _ (key : List ℕ) (name : Name) (here : Option (List ℕ)) where
  abbrev given : List Answer
  given = opening_answers name here

  version_same : OneRule (other_version name given) (other_version name given)
  version_same = record {
    one = λ why say a b.
        let e = last_same name here a.0 b.0 a.3 b.3 in
        let major : a.1 ≡ b.1 = a.6.1 ∙ ap (λ (l : List ℕ). slice_index l 8) e ∙ sym b.6.1 in
        let minor : a.2 ≡ b.2 = a.6.2 ∙ ap (λ (l : List ℕ). slice_index l 9) e ∙ sym b.6.2 in
        a.7 ∙ ap (λ (n : ℕ). whys.BadVersion n a.2) major ∙ ap (λ (n : ℕ). whys.BadVersion b.1 n) minor ∙ sym b.7;
    forth = λ why a. (why, a);
    back = λ say b. (say, b);
  }

  path_rule_same : OneRule (other_path key name given) (other_path key name given)
  path_rule_same = record {
    one = λ why say a b.
        let e = last_same name here a.0 b.0 a.2 b.2 in
        let secret = opens_to_one key a.0 a.1 b.1 a.4 (subst (λ (l : List ℕ). OpensTo key l b.1) (sym e) b.4) in
        a.6 ∙ ap (λ (m : MetaSecret). whys.WrongPath m.path) secret ∙ sym b.6;
    forth = λ why a. (why, a);
    back = λ say b. (say, b);
  }

  pub told_same : AreOne (told_rules key name given) (told_rules key name given)
  told_same = (
    one_refusal (whys.NotFound name) _ _ (λ p. p) (λ p. p),
    λ no_first. (
      one_refusal whys.NotProtected _ _ (λ p. p) (λ p. p),
      λ no_second. (one_refusal whys.Unbuilt _ _ (λ p. p) (λ p. p), λ no_third. (version_same, λ no_fourth. (path_rule_same, λ no_fifth. tt))),
    ),
  )

-- a file that stands for a sheet is refused for its path alone
module _ (key : List ℕ) (key_length : length key ≡ 16) (name : Name) (file : List ℕ) (sheet : Sheet) (stands : Stands file key sheet) where
  abbrev block : List ℕ
  block = take 4096 file

  abbrev told : List Answer
  told = opening_answers name (Some file)

  read : StandingFile file key sheet
  read = standing_file file key sheet key_length stands

  pub openable : IsOpenable block
  openable = record { whole = read.whole; flag = read.flag; plain = read.plain }

  carried : Carries key block sheet
  carried = is_carried key key_length file sheet stands block refl

  block_is : (other : List ℕ) → IsLast name told other → other ≡ block
  block_is other last = last_one name (length file) block other last

  -- it is refused only where the name is not the sheet's path
  pub path_is : (why : Why) → other_path key name told why → name ≢ sheet.path
  path_is why r =
      let same = path_same key name block r.1 (subst (λ (b : List ℕ). OpensTo key b r.1) (block_is r.0 r.2) r.4) sheet stands.linked carried in
      λ is. r.5 (is ∙ same)

  pub undamaged : (damage : Damage) → IsOpeningDamage key name told damage → ⊥
  undamaged damage (short_zero b last short is) = let e = ap (λ (l : List ℕ). length l) (block_is b last) in let whole = openable.whole in omega arith
  undamaged damage (closed_zero b kind last whole fault is) = never_opens key block kind read.secret (subst (λ (l : List ℕ). IsOpenFault key l kind) (block_is b last) fault) read.opens_to
