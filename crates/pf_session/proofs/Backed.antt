-- An opening stands on the sheets that node 0 carries.
use Rattle.std.proofs.Common.{◌≡◌, ℕ, List, [], ◌∷◌, refl, ◌∙◌, sym, arith, subst, Option, Some}
use Rattle.std.specs.Prelude.{Contains}
use Rattle.std.proofs.lemmas.Option.{same_Some}
use Rattle.node_layout.specs.Metadata.{IsMetaText}
use Rattle.node_layout.specs.Opening.{OpensTo}
use Rattle.node_layout.specs.declared.metadata.MetaSecret.{MetaSecret}
use Rattle.pf_io.specs.Host.{Name, Answer, LengthWas, Gave, HostState}
use Rattle.pf_io.proofs.Telling.{told_by}
use Rattle.node_tree.specs.Sheet.{Sheet, IsLinked, meta_of}
use Rattle.pf_session.specs.Questions.{OnlyAsked}
use Rattle.pf_session.specs.Asking.{NoCall}
use Rattle.node_tree.specs.Unforged.{Unforged, WasGiven, Carries}
use Rattle.node_tree.specs.Backing.{IsMetaOf}
use Rattle.node_tree.proofs.Fresh.{fields, fresh_backs, fresh_now}
use Rattle.node_tree.proofs.Giving.{unforged_gives}
use Rattle.pf_session.specs.State.{SessionState}
use Rattle.pf_session.specs.Opening.{node_answers, IsOpenable, IsAccepted, opened_session}
use Rattle.pf_session.specs.Backing.{StandsOn}
use Rattle.pf_session.specs.Carries.{IsLast, OpensOnCarried, OnFirst, OpensOnFirst}
use Rattle.pf_session.proofs.Firsts.{first_carried, middle_there}

module _ (key : List ℕ) (name : Name) (block : List ℕ) (secret : MetaSecret) (opened : OpensTo key block secret) (sheet : Sheet) (linked : IsLinked sheet) (carries : Carries key block sheet) where
  pub meta_is : IsMetaOf sheet secret
  meta_is =
      let same : opened.0 ≡ meta_of sheet = same_Some opened.0 (meta_of sheet) (sym opened.1 ∙ carries.metadata) in
      subst (λ (t : List ℕ). IsMetaText t secret.path secret.size secret.root_key secret.root_tag secret.first) same opened.2

  pub path_same : sheet.path ≡ secret.path
  path_same = (fields sheet linked secret meta_is).0

  pub stands_on : StandsOn sheet (opened_session key name block secret)
  stands_on = record {
    backed = record { path_is = sym path_same; nonce_is = carries.nonce; backs = fresh_backs sheet linked secret meta_is };
    now_is = fresh_now sheet linked secret meta_is;
  }

in_none : (answer : Answer) → Contains [] answer → ⊥
in_none answer there = omega (arith, there.1)

pub last_there : (name : Name) (size : ℕ) (block : List ℕ) → IsLast name (node_answers name size block) block
last_there name size block = record { before = LengthWas name (Some size) ∷ []; after = []; split = refl; no_more = λ other there. absurd (in_none (Gave name 0 4096 other) there) }

pub block_given : (name : Name) (size : ℕ) (block : List ℕ) → Contains (node_answers name size block) (Gave name 0 4096 block)
block_given name size block = (1, omega arith, refl)

module _ (key : List ℕ) (name : Name) (path : Option (List ℕ)) (before after : HostState) where
  carried_by : (size : ℕ) (block : List ℕ) (secret : MetaSecret) → OnlyAsked (node_answers name size block) NoCall before after → IsAccepted key path block secret → OpensOnCarried (opened_session key name block secret) before after
  carried_by size block secret asked is = record {
    these = node_answers name size block;
    answered = asked.answered;
    holds = (block, last_there name size block, λ sheet linked carries. stands_on key name block secret is.opened sheet linked carries);
  }

  first_by : (size : ℕ) (block : List ℕ) (secret : MetaSecret) → IsOpenable block → IsAccepted key path block secret → (sheets : List Sheet) → Unforged key sheets (node_answers name size block)
      → OnFirst sheets (opened_session key name block secret) (node_answers name size block)
  first_by size block secret ready is sheets unforged =
      let gives = unforged_gives key sheets (node_answers name size block) unforged in
      let given : WasGiven (node_answers name size block) block = record { name = name; place = 0; room = 4096; there = block_given name size block; whole = ready.whole } in
      let some = gives.node_0 block is.opened.0 given is.opened.1 in
      let first = first_carried key block is.opened.0 sheets some.0 is.opened.1 some.1 some.2 in
      let among = middle_there sheets first.1.before first.1.after first.0 first.1.split in
      record {
        block = block;
        last = last_there name size block;
        sheet = first.0;
        first = first.1;
        on = stands_on key name block secret is.opened first.0 (unforged.linked first.0 among) first.1.has;
      }

  pub on_carried : (size : ℕ) (block : List ℕ) (secret : MetaSecret) (session : SessionState) → OnlyAsked (node_answers name size block) NoCall before after → IsAccepted key path block secret → session ≡ opened_session key name block secret
      → OpensOnCarried session before after
  on_carried size block secret session asked is same = subst (λ (s : SessionState). OpensOnCarried s before after) (sym same) (carried_by size block secret asked is)

  pub on_first : (size : ℕ) (block : List ℕ) (secret : MetaSecret) (session : SessionState) → OnlyAsked (node_answers name size block) NoCall before after → IsOpenable block → IsAccepted key path block secret
      → session ≡ opened_session key name block secret → OpensOnFirst session before after
  on_first size block secret session asked ready is same =
      subst (λ (s : SessionState). OpensOnFirst s before after) (sym same)
      (told_by (λ these. (sheets : List Sheet) → Unforged key sheets these → OnFirst sheets (opened_session key name block secret) these) (node_answers name size block) before after asked.answered.told
      (λ sheets unforged. first_by size block secret ready is sheets unforged))
