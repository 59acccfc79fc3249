use Rattle.std.proofs.Common.{◌≡◌, ℕ, List, [], Result, Ok, refl, ap, ap₂, ◌∙◌, sym, subst, rules}
use Rattle.std.specs.Prelude.{option_map, None, false}
use Rattle.std.proofs.lemmas.Result.{err_from_is_err_and}
use Rattle.node_tree.specs.Reading.{IsOfFile}
use Rattle.node_tree.proofs.Fresh.{fresh_of_file}
use Rattle.pf_io.proofs.Unchanged.{kept_none}
use Rattle.pf_io.specs.Host.{OnDisk}
use Rattle.pf_session.specs.Keeping.{OpensEither}
use Rattle.pf_session.specs.State.{SessionState, unread}
use Rattle.pf_session.specs.Opening.{AreGood, by_answers, no_names, misnamed, accepted, secret_refused, opened_session}
use Rattle.pf_session.specs.declared.open_fault.OpenFault.{OpenFault}
use Rattle.pf_session.proofs.Questions.{none_asked}
use Rattle.pf_session.proofs.Backed.{on_carried, on_first}
use Rattle.pf_session.proofs.Keeping.{keeps_either, kept_aside}
use Rattle.pf_session.proofs.NoText.{no_text}
use Rattle.pf_session.proofs.Reopened.{opens_either}
use Rattle.pf_session.proofs.OpenStanding.{node_early, secret_early, not_early, failed, node_ends, opens_standing, opens_none}
use Rattle.pf_session.proofs.session.Session.open.Goals as goal

pub returns-then-not-are_good-clause-opens : goal.returns-then-not-are_good-clause-opens
returns-then-not-are_good-clause-opens g c = by_answers [] (none_asked (g.H.Host.state c.args.host.now)) (misnamed (search rules) refl refl)

pub returns-then-not-are_good-clause-disk : goal.returns-then-not-are_good-clause-disk
returns-then-not-are_good-clause-disk g c = kept_none (g.H.Host.state c.args.host.now)

pub returns-then-not-are_good-clause-keeps : goal.returns-then-not-are_good-clause-keeps
returns-then-not-are_good-clause-keeps g c = keeps_either _ (g.H.Host.state c.args.host.now) (g.H.Host.state c.args.host.now) (kept_none (g.H.Host.state c.args.host.now))

pub returns-then-not-are_good-clause-aside : goal.returns-then-not-are_good-clause-aside
returns-then-not-are_good-clause-aside g c = kept_aside _ (g.H.Host.state c.args.host.now) (g.H.Host.state c.args.host.now) (kept_none (g.H.Host.state c.args.host.now))

pub returns-then-not-are_good-clause-standing : goal.returns-then-not-are_good-clause-standing
returns-then-not-are_good-clause-standing g c = opens_standing _ _ _ (g.H.Host.state c.args.host.now) (g.H.Host.state c.args.host.now) _ c.told-key (returns-then-not-are_good-clause-opens g c)

pub returns-in_err-text-clause-opens : goal.returns-in_err-text-clause-opens
returns-in_err-text-clause-opens g c =
    let p = err_from_is_err_and c.from_residual.result c.from_residual.ensures.1 in
    let good : AreGood c.args.name.now (option_map (λ p. p.now) c.args.path) = search rules in
    no_names good refl (p.1 ∙ ap failed p.2)

pub returns-in_err-text-clause-disk : goal.returns-in_err-text-clause-disk
returns-in_err-text-clause-disk g c = kept_none (g.H.Host.state c.args.host.now)

pub returns-in_err-text-clause-never_text : goal.returns-in_err-text-clause-never_text
returns-in_err-text-clause-never_text g c = no_text _ _ _ (g.H.Host.state c.args.host.now) (g.H.Host.state c.args.host.now) _ (returns-in_err-text-clause-opens g c)

pub returns-in_err-text-clause-standing : goal.returns-in_err-text-clause-standing
returns-in_err-text-clause-standing g c = opens_standing _ _ _ (g.H.Host.state c.args.host.now) (g.H.Host.state c.args.host.now) _ c.told-key (returns-in_err-text-clause-opens g c)

pub returns-in_err-side-clause-opens : goal.returns-in_err-side-clause-opens
returns-in_err-side-clause-opens g c =
    let p = err_from_is_err_and c.from_residual-in_err-side.result c.from_residual-in_err-side.ensures.1 in
    let good : AreGood c.args.name.now (option_map (λ p. p.now) c.args.path) = search rules in
    no_names good refl (p.1 ∙ ap failed p.2)

pub returns-in_err-side-clause-never_text : goal.returns-in_err-side-clause-never_text
returns-in_err-side-clause-never_text g c = no_text _ _ _ (g.H.Host.state c.args.host.now) (g.H.Host.state c.args.host.now) _ (returns-in_err-side-clause-opens g c)

pub returns-in_err-side-clause-standing : goal.returns-in_err-side-clause-standing
returns-in_err-side-clause-standing g c = opens_standing _ _ _ (g.H.Host.state c.args.host.now) (g.H.Host.state c.args.host.now) _ c.told-key (returns-in_err-side-clause-opens g c)

pub returns-in_err-node-clause-opens : goal.returns-in_err-node-clause-opens
returns-in_err-node-clause-opens g c =
    let p = err_from_is_err_and c.from_residual-in_err-node.result c.from_residual-in_err-node.ensures.1 in
    let good : AreGood c.args.name.now (option_map (λ p. p.now) c.args.path) = search rules in
    node_ends c.args.key.now c.args.name.now (option_map (λ p. p.now) c.args.path) (g.H.Host.state c.args.host.now) (g.H.Host.state c.read_node_zero.new.host) c.in_err-node.field-0.0 c.from_residual-in_err-node.result good c.in_err-node.ensures.refused (p.1 ∙ ap failed p.2)

pub returns-in_err-text-clause-keeps : goal.returns-in_err-text-clause-keeps
returns-in_err-text-clause-keeps g c = keeps_either _ (g.H.Host.state c.args.host.now) (g.H.Host.state c.args.host.now) (kept_none (g.H.Host.state c.args.host.now))

pub returns-in_err-side-clause-disk : goal.returns-in_err-side-clause-disk
returns-in_err-side-clause-disk g c = kept_none (g.H.Host.state c.args.host.now)

pub returns-in_err-side-clause-keeps : goal.returns-in_err-side-clause-keeps
returns-in_err-side-clause-keeps g c = keeps_either _ (g.H.Host.state c.args.host.now) (g.H.Host.state c.args.host.now) (kept_none (g.H.Host.state c.args.host.now))

pub returns-in_err-node-clause-keeps : goal.returns-in_err-node-clause-keeps
returns-in_err-node-clause-keeps g c = keeps_either _ (g.H.Host.state c.args.host.now) (g.H.Host.state c.read_node_zero.new.host) c.read_node_zero.ensures.disk

pub returns-in_err-node-clause-standing : goal.returns-in_err-node-clause-standing
returns-in_err-node-clause-standing g c =
    opens_standing _ _ _ (g.H.Host.state c.args.host.now) (g.H.Host.state c.read_node_zero.new.host) _ c.told-key (returns-in_err-node-clause-opens g c)

pub returns-in_err-secret-clause-opens : goal.returns-in_err-secret-clause-opens
returns-in_err-secret-clause-opens g c =
    let p = err_from_is_err_and c.from_residual-in_err-secret.result c.from_residual-in_err-secret.ensures.1 in
    let good : AreGood c.args.name.now (option_map (λ p. p.now) c.args.path) = search rules in
    let has = c.in_ok-node.ensures.read in
    by_answers _ has.asked (secret_refused has.size c.in_ok-node.node c.in_err-secret.field-0.0 good refl has.openable c.in_err-secret.ensures.refused (p.1 ∙ ap failed p.2))

pub returns-in_err-secret-clause-keeps : goal.returns-in_err-secret-clause-keeps
returns-in_err-secret-clause-keeps g c = keeps_either _ (g.H.Host.state c.args.host.now) (g.H.Host.state c.read_node_zero.new.host) c.read_node_zero.ensures.disk

pub returns-in_err-secret-clause-standing : goal.returns-in_err-secret-clause-standing
returns-in_err-secret-clause-standing g c =
    opens_standing _ _ _ (g.H.Host.state c.args.host.now) (g.H.Host.state c.read_node_zero.new.host) _ c.told-key (returns-in_err-secret-clause-opens g c)

pub returns-clause-opens : goal.returns-clause-opens
returns-clause-opens g c =
    let good : AreGood c.args.name.now (option_map (λ p. p.now) c.args.path) = search rules in
    let has = c.in_ok-node.ensures.read in
    let state = λ (n m : List ℕ). let s : SessionState = record { key = c.args.key.now; name = n; path = c.in_ok-secret.secret.path; nonce = m; drawn = None; tree = unread c.in_ok-secret.secret; changed = false; broken = false; beside = false } in s in
    let same : c.in_ok-make.field-0 ≡ opened_session c.args.key.now c.args.name.now c.in_ok-node.node c.in_ok-secret.secret = c.in_ok-make.ensures.fields ∙ ap₂ state c.in_ok-text.ensures has.nonce_is in
    by_answers _ has.asked (accepted has.size c.in_ok-node.node c.in_ok-secret.secret good refl has.openable c.in_ok-secret.ensures.accepted (ap (λ (s : SessionState). let r : Result SessionState OpenFault = Ok s in r) same))

pub returns-clause-keeps : goal.returns-clause-keeps
returns-clause-keeps g c = keeps_either _ (g.H.Host.state c.args.host.now) (g.H.Host.state c.read_node_zero.new.host) c.read_node_zero.ensures.disk

pub returns-clause-carried : goal.returns-clause-carried
returns-clause-carried g c =
    let has = c.in_ok-node.ensures.read in
    let state = λ (n m : List ℕ). let s : SessionState = record { key = c.args.key.now; name = n; path = c.in_ok-secret.secret.path; nonce = m; drawn = None; tree = unread c.in_ok-secret.secret; changed = false; broken = false; beside = false } in s in
    on_carried c.args.key.now c.args.name.now _ (g.H.Host.state c.args.host.now) (g.H.Host.state c.read_node_zero.new.host) has.size c.in_ok-node.node c.in_ok-secret.secret c.in_ok-make.field-0 has.asked c.in_ok-secret.ensures.accepted
    (c.in_ok-make.ensures.fields ∙ ap₂ state c.in_ok-text.ensures has.nonce_is)

pub returns-clause-unforged : goal.returns-clause-unforged
returns-clause-unforged g c =
    let has = c.in_ok-node.ensures.read in
    let state = λ (n m : List ℕ). let s : SessionState = record { key = c.args.key.now; name = n; path = c.in_ok-secret.secret.path; nonce = m; drawn = None; tree = unread c.in_ok-secret.secret; changed = false; broken = false; beside = false } in s in
    on_first c.args.key.now c.args.name.now _ (g.H.Host.state c.args.host.now) (g.H.Host.state c.read_node_zero.new.host) has.size c.in_ok-node.node c.in_ok-secret.secret c.in_ok-make.field-0 has.asked has.openable c.in_ok-secret.ensures.accepted
    (c.in_ok-make.ensures.fields ∙ ap₂ state c.in_ok-text.ensures has.nonce_is)

pub returns-clause-standing : goal.returns-clause-standing
returns-clause-standing g c =
    opens_standing _ _ _ (g.H.Host.state c.args.host.now) (g.H.Host.state c.read_node_zero.new.host) _ c.told-key (returns-clause-opens g c)

pub returns-in_err-text-clause-aside : goal.returns-in_err-text-clause-aside
returns-in_err-text-clause-aside g c = kept_aside _ (g.H.Host.state c.args.host.now) (g.H.Host.state c.args.host.now) (kept_none (g.H.Host.state c.args.host.now))

pub returns-in_err-side-clause-aside : goal.returns-in_err-side-clause-aside
returns-in_err-side-clause-aside g c = kept_aside _ (g.H.Host.state c.args.host.now) (g.H.Host.state c.args.host.now) (kept_none (g.H.Host.state c.args.host.now))

pub returns-in_err-node-clause-aside : goal.returns-in_err-node-clause-aside
returns-in_err-node-clause-aside g c = kept_aside _ (g.H.Host.state c.args.host.now) (g.H.Host.state c.read_node_zero.new.host) c.read_node_zero.ensures.disk

pub returns-in_err-secret-clause-aside : goal.returns-in_err-secret-clause-aside
returns-in_err-secret-clause-aside g c = kept_aside _ (g.H.Host.state c.args.host.now) (g.H.Host.state c.read_node_zero.new.host) c.read_node_zero.ensures.disk

pub returns-clause-aside : goal.returns-clause-aside
returns-clause-aside g c = kept_aside _ (g.H.Host.state c.args.host.now) (g.H.Host.state c.read_node_zero.new.host) c.read_node_zero.ensures.disk

pub returns-clause-reopens : goal.returns-clause-reopens
returns-clause-reopens g c =
    let before = g.H.Host.state c.args.host.now in
    let after = g.H.Host.state c.read_node_zero.new.host in
    let has = c.in_ok-node.ensures.read in
    let state = λ (n m : List ℕ). let s : SessionState = record { key = c.args.key.now; name = n; path = c.in_ok-secret.secret.path; nonce = m; drawn = None; tree = unread c.in_ok-secret.secret; changed = false; broken = false; beside = false } in s in
    let same : c.in_ok-make.field-0 ≡ opened_session c.args.key.now c.args.name.now c.in_ok-node.node c.in_ok-secret.secret = c.in_ok-make.ensures.fields ∙ ap₂ state c.in_ok-text.ensures has.nonce_is in
    subst (λ (s : SessionState). OnDisk before after (OpensEither s)) (sym same)
    (opens_either c.args.key.now c.args.name.now (option_map (λ p. p.now) c.args.path) c.told-key has.size c.in_ok-node.node c.in_ok-secret.secret c.in_ok-secret.ensures.accepted before after (g.met.H.Host.reads_as_image c.args.host.now) has.asked c.read_node_zero.ensures.disk)

pub returns-then-not-are_good-clause-never_text : goal.returns-then-not-are_good-clause-never_text
returns-then-not-are_good-clause-never_text g c = no_text _ _ _ (g.H.Host.state c.args.host.now) (g.H.Host.state c.args.host.now) _ (returns-then-not-are_good-clause-opens g c)

pub returns-in_err-node-clause-never_text : goal.returns-in_err-node-clause-never_text
returns-in_err-node-clause-never_text g c = no_text _ _ _ (g.H.Host.state c.args.host.now) (g.H.Host.state c.read_node_zero.new.host) _ (returns-in_err-node-clause-opens g c)

pub returns-in_err-secret-clause-never_text : goal.returns-in_err-secret-clause-never_text
returns-in_err-secret-clause-never_text g c = no_text _ _ _ (g.H.Host.state c.args.host.now) (g.H.Host.state c.read_node_zero.new.host) _ (returns-in_err-secret-clause-opens g c)

pub returns-clause-never_text : goal.returns-clause-never_text
returns-clause-never_text g c = no_text _ _ _ (g.H.Host.state c.args.host.now) (g.H.Host.state c.read_node_zero.new.host) _ (returns-clause-opens g c)

pub returns-in_err-node-clause-early : goal.returns-in_err-node-clause-early
returns-in_err-node-clause-early g c is =
    let p = err_from_is_err_and c.from_residual-in_err-node.result c.from_residual-in_err-node.ensures.1 in
    absurd (not_early c.in_err-node.field-0.0 (node_early _ _ _ _ c.in_err-node.ensures.refused) (sym (p.1 ∙ ap failed p.2) ∙ is))

pub returns-in_err-secret-clause-early : goal.returns-in_err-secret-clause-early
returns-in_err-secret-clause-early g c is =
    let p = err_from_is_err_and c.from_residual-in_err-secret.result c.from_residual-in_err-secret.ensures.1 in
    absurd (not_early c.in_err-secret.field-0.0 (secret_early _ _ _ _ c.in_err-secret.ensures.refused) (sym (p.1 ∙ ap failed p.2) ∙ is))

pub returns-clause-of_file : goal.returns-clause-of_file
returns-clause-of_file g c file = subst (λ (s : SessionState). IsOfFile file s.tree) (sym c.in_ok-make.ensures.fields) (fresh_of_file c.in_ok-secret.secret file)

-- a refusal opens nothing

pub returns-in_err-text-clause-carried : goal.returns-in_err-text-clause-carried
returns-in_err-text-clause-carried g c =
    let p = err_from_is_err_and c.from_residual.result c.from_residual.ensures.1 in
    opens_none c.from_residual.result p.0 p.1 _

pub returns-in_err-text-clause-unforged : goal.returns-in_err-text-clause-unforged
returns-in_err-text-clause-unforged g c =
    let p = err_from_is_err_and c.from_residual.result c.from_residual.ensures.1 in
    opens_none c.from_residual.result p.0 p.1 _

pub returns-in_err-text-clause-reopens : goal.returns-in_err-text-clause-reopens
returns-in_err-text-clause-reopens g c =
    let p = err_from_is_err_and c.from_residual.result c.from_residual.ensures.1 in
    opens_none c.from_residual.result p.0 p.1 _

pub returns-in_err-text-clause-of_file : goal.returns-in_err-text-clause-of_file
returns-in_err-text-clause-of_file g c =
    let p = err_from_is_err_and c.from_residual.result c.from_residual.ensures.1 in
    opens_none c.from_residual.result p.0 p.1 _

pub returns-in_err-side-clause-carried : goal.returns-in_err-side-clause-carried
returns-in_err-side-clause-carried g c =
    let p = err_from_is_err_and c.from_residual-in_err-side.result c.from_residual-in_err-side.ensures.1 in
    opens_none c.from_residual-in_err-side.result p.0 p.1 _

pub returns-in_err-side-clause-unforged : goal.returns-in_err-side-clause-unforged
returns-in_err-side-clause-unforged g c =
    let p = err_from_is_err_and c.from_residual-in_err-side.result c.from_residual-in_err-side.ensures.1 in
    opens_none c.from_residual-in_err-side.result p.0 p.1 _

pub returns-in_err-side-clause-reopens : goal.returns-in_err-side-clause-reopens
returns-in_err-side-clause-reopens g c =
    let p = err_from_is_err_and c.from_residual-in_err-side.result c.from_residual-in_err-side.ensures.1 in
    opens_none c.from_residual-in_err-side.result p.0 p.1 _

pub returns-in_err-side-clause-of_file : goal.returns-in_err-side-clause-of_file
returns-in_err-side-clause-of_file g c =
    let p = err_from_is_err_and c.from_residual-in_err-side.result c.from_residual-in_err-side.ensures.1 in
    opens_none c.from_residual-in_err-side.result p.0 p.1 _

pub returns-in_err-node-clause-carried : goal.returns-in_err-node-clause-carried
returns-in_err-node-clause-carried g c =
    let p = err_from_is_err_and c.from_residual-in_err-node.result c.from_residual-in_err-node.ensures.1 in
    opens_none c.from_residual-in_err-node.result p.0 p.1 _

pub returns-in_err-node-clause-unforged : goal.returns-in_err-node-clause-unforged
returns-in_err-node-clause-unforged g c =
    let p = err_from_is_err_and c.from_residual-in_err-node.result c.from_residual-in_err-node.ensures.1 in
    opens_none c.from_residual-in_err-node.result p.0 p.1 _

pub returns-in_err-node-clause-reopens : goal.returns-in_err-node-clause-reopens
returns-in_err-node-clause-reopens g c =
    let p = err_from_is_err_and c.from_residual-in_err-node.result c.from_residual-in_err-node.ensures.1 in
    opens_none c.from_residual-in_err-node.result p.0 p.1 _

pub returns-in_err-node-clause-of_file : goal.returns-in_err-node-clause-of_file
returns-in_err-node-clause-of_file g c =
    let p = err_from_is_err_and c.from_residual-in_err-node.result c.from_residual-in_err-node.ensures.1 in
    opens_none c.from_residual-in_err-node.result p.0 p.1 _

pub returns-in_err-secret-clause-carried : goal.returns-in_err-secret-clause-carried
returns-in_err-secret-clause-carried g c =
    let p = err_from_is_err_and c.from_residual-in_err-secret.result c.from_residual-in_err-secret.ensures.1 in
    opens_none c.from_residual-in_err-secret.result p.0 p.1 _

pub returns-in_err-secret-clause-unforged : goal.returns-in_err-secret-clause-unforged
returns-in_err-secret-clause-unforged g c =
    let p = err_from_is_err_and c.from_residual-in_err-secret.result c.from_residual-in_err-secret.ensures.1 in
    opens_none c.from_residual-in_err-secret.result p.0 p.1 _

pub returns-in_err-secret-clause-reopens : goal.returns-in_err-secret-clause-reopens
returns-in_err-secret-clause-reopens g c =
    let p = err_from_is_err_and c.from_residual-in_err-secret.result c.from_residual-in_err-secret.ensures.1 in
    opens_none c.from_residual-in_err-secret.result p.0 p.1 _

pub returns-in_err-secret-clause-of_file : goal.returns-in_err-secret-clause-of_file
returns-in_err-secret-clause-of_file g c =
    let p = err_from_is_err_and c.from_residual-in_err-secret.result c.from_residual-in_err-secret.ensures.1 in
    opens_none c.from_residual-in_err-secret.result p.0 p.1 _
