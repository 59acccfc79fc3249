use Rattle.std.proofs.Common.{◌≡◌, ℕ, ◌∙◌, ap, sym, refl, arith, Result, Ok, Err}
use Rattle.std.proofs.lemmas.Result.{err_from_is_err_and}
use Rattle.node_tree.specs.Applying.{Size, from_of, to_of}
use Rattle.node_tree.specs.declared.fault.TreeFault.{TreeFault}
use Rattle.pf_session.specs.State.{SessionState}
use Rattle.pf_session.specs.Faults.{size_of_flush, size_of_tree}
use Rattle.pf_session.specs.Changing.{SizeRefused, refused, unchanged}
use Rattle.pf_session.specs.declared.fault.FlushFault.{FlushFault}
use Rattle.pf_session.specs.declared.fault.SizeFault.{SizeFault}
use Rattle.pf_session.specs.declared.fault.SizeFault.TheVariants as sizes
use Rattle.pf_session.specs.declared.fault.Written.{Written}
use Rattle.pf_session.proofs.Created.{aside_none}
use Rattle.pf_session.proofs.Published.{beside_none}
use Rattle.pf_session.proofs.Rooms.{size_allowed, not_changed, is_changed, aside_then, beside_then}
use Rattle.pf_session.proofs.session.Session.set_size.Goals as goal

-- a rule refuses the size

pub returns-then-size-gt-LARGEST-clause-goes : goal.returns-then-size-gt-LARGEST-clause-goes
returns-then-size-gt-LARGEST-clause-goes g c = refused sizes.TooLarge (omega arith) refl refl refl refl

pub returns-then-size-old-clause-goes : goal.returns-then-size-old-clause-goes
returns-then-size-old-clause-goes g c =
    let size : c.size-old.result ≡ c.args.self.now.tree.size = c.size-old.ensures.same ∙ ap (λ (s : SessionState). s.tree.size) c.self.view_is in
    refused (sizes.TooFar c.size-old.result) (omega arith, omega arith, size) refl refl refl refl

pub returns-then-size-gt-LARGEST-clause-aside : goal.returns-then-size-gt-LARGEST-clause-aside
returns-then-size-gt-LARGEST-clause-aside g c = aside_none c.args.self.now.name (g.H.Host.state c.args.host.now)

pub returns-then-size-gt-LARGEST-clause-beside : goal.returns-then-size-gt-LARGEST-clause-beside
returns-then-size-gt-LARGEST-clause-beside g c beside = beside_none c.args.self.now.name (g.H.Host.state c.args.host.now)

pub returns-then-size-old-clause-aside : goal.returns-then-size-old-clause-aside
returns-then-size-old-clause-aside g c = aside_none c.args.self.now.name (g.H.Host.state c.args.host.now)

pub returns-then-size-old-clause-beside : goal.returns-then-size-old-clause-beside
returns-then-size-old-clause-beside g c beside = beside_none c.args.self.now.name (g.H.Host.state c.args.host.now)

-- the size is the present one

pub returns-then-size-old-2-clause-goes : goal.returns-then-size-old-2-clause-goes
returns-then-size-old-2-clause-goes g c =
    let n = c.args.size in
    let old = c.args.self.now in
    let size : c.size-old.result ≡ old.tree.size = c.size-old.ensures.same ∙ ap (λ (s : SessionState). s.tree.size) c.self.view_is in
    unchanged (size_allowed n old.tree.size (omega arith) (omega arith)) (omega arith) refl refl refl refl

pub returns-then-size-old-2-clause-aside : goal.returns-then-size-old-2-clause-aside
returns-then-size-old-2-clause-aside g c = aside_none c.args.self.now.name (g.H.Host.state c.args.host.now)

pub returns-then-size-old-2-clause-beside : goal.returns-then-size-old-2-clause-beside
returns-then-size-old-2-clause-beside g c beside = beside_none c.args.self.now.name (g.H.Host.state c.args.host.now)

-- the flush before it failed

pub returns-in_err-flushed_before-clause-goes : goal.returns-in_err-flushed_before-clause-goes
returns-in_err-flushed_before-clause-goes g c =
    let n = c.args.size in
    let old = c.args.self.now in
    let size : c.size-old.result ≡ old.tree.size = c.size-old.ensures.same ∙ ap (λ (s : SessionState). s.tree.size) c.self.view_is in
    let from_is : from_of (Size n) old.tree.size ≡ c.resized_range-from.result.0 = ap (λ (s : ℕ). from_of (Size n) s) (sym size) ∙ ap (λ (p : ℕ × ℕ). p.0) (sym c.resized_range-from.ensures) in
    let to_is : to_of (Size n) old.tree.size ≡ c.resized_range-from.result.1 = ap (λ (s : ℕ). to_of (Size n) s) (sym size) ∙ ap (λ (p : ℕ × ℕ). p.1) (sym c.resized_range-from.ensures) in
    let fault : FlushFault = c.in_err-flushed_before.field-0.0 in
    let p = err_from_is_err_and c.from_residual.result c.from_residual.ensures.1 in
    let same = p.1 ∙ ap (λ (f : SizeFault). let r : Result Written SizeFault = Err f in r) p.2 in
    rw same (not_changed SizeFault (SizeRefused n old.tree.size) (n ≡ old.tree.size) size_of_flush size_of_tree (Size n) old (g.H.Host.state c.args.host.now) (g.R.Words.state c.args.random.now)
    (size_allowed n old.tree.size (omega arith) (omega arith)) (λ present. absurd (omega arith))
    fault c.make_room.new.self (g.H.Host.state c.make_room.new.host) (g.R.Words.state c.make_room.new.random) (c.in_err-flushed_before.ensures.goes (Size n) from_is to_is))

pub returns-in_err-flushed_before-clause-aside : goal.returns-in_err-flushed_before-clause-aside
returns-in_err-flushed_before-clause-aside g c = c.make_room.ensures.aside

pub returns-in_err-flushed_before-clause-beside : goal.returns-in_err-flushed_before-clause-beside
returns-in_err-flushed_before-clause-beside g c = c.make_room.ensures.beside

-- the step failed

pub returns-in_err-resize-clause-goes : goal.returns-in_err-resize-clause-goes
returns-in_err-resize-clause-goes g c =
    let n = c.args.size in
    let old = c.args.self.now in
    let size : c.size-old.result ≡ old.tree.size = c.size-old.ensures.same ∙ ap (λ (s : SessionState). s.tree.size) c.self.view_is in
    let from_is : from_of (Size n) old.tree.size ≡ c.resized_range-from.result.0 = ap (λ (s : ℕ). from_of (Size n) s) (sym size) ∙ ap (λ (p : ℕ × ℕ). p.0) (sym c.resized_range-from.ensures) in
    let to_is : to_of (Size n) old.tree.size ≡ c.resized_range-from.result.1 = ap (λ (s : ℕ). to_of (Size n) s) (sym size) ∙ ap (λ (p : ℕ × ℕ). p.1) (sym c.resized_range-from.ensures) in
    let fault : TreeFault = c.in_err-resize.field-0.0 in
    let p = err_from_is_err_and c.from_residual-in_err-resize.result c.from_residual-in_err-resize.ensures.1 in
    let same = p.1 ∙ ap (λ (f : SizeFault). let r : Result Written SizeFault = Err f in r) p.2 in
    rw same (is_changed SizeFault (SizeRefused n old.tree.size) (n ≡ old.tree.size) size_of_flush size_of_tree (Size n) old (g.H.Host.state c.args.host.now) (g.R.Words.state c.args.random.now)
    (size_allowed n old.tree.size (omega arith) (omega arith)) (λ present. absurd (omega arith))
    c.in_ok-flushed_before.flushed_before c.make_room.new.self (g.H.Host.state c.make_room.new.host) (g.R.Words.state c.make_room.new.random) (Err fault) c.resize.new.self (g.H.Host.state c.resize.new.host)
    (c.in_ok-flushed_before.ensures.goes (Size n) from_is to_is) c.in_err-resize.ensures)

pub returns-in_err-resize-clause-aside : goal.returns-in_err-resize-clause-aside
returns-in_err-resize-clause-aside g c = aside_then c.args.self.now.name (g.H.Host.state c.args.host.now) (g.H.Host.state c.make_room.new.host) (g.H.Host.state c.resize.new.host) c.make_room.ensures.aside c.resize.ensures.disk

pub returns-in_err-resize-clause-beside : goal.returns-in_err-resize-clause-beside
returns-in_err-resize-clause-beside g c = beside_then c.args.self.now (g.H.Host.state c.args.host.now) (g.H.Host.state c.make_room.new.host) (g.H.Host.state c.resize.new.host) c.make_room.ensures.beside c.resize.ensures.disk

-- the content is changed

pub returns-clause-goes : goal.returns-clause-goes
returns-clause-goes g c =
    let n = c.args.size in
    let old = c.args.self.now in
    let size : c.size-old.result ≡ old.tree.size = c.size-old.ensures.same ∙ ap (λ (s : SessionState). s.tree.size) c.self.view_is in
    let from_is : from_of (Size n) old.tree.size ≡ c.resized_range-from.result.0 = ap (λ (s : ℕ). from_of (Size n) s) (sym size) ∙ ap (λ (p : ℕ × ℕ). p.0) (sym c.resized_range-from.ensures) in
    let to_is : to_of (Size n) old.tree.size ≡ c.resized_range-from.result.1 = ap (λ (s : ℕ). to_of (Size n) s) (sym size) ∙ ap (λ (p : ℕ × ℕ). p.1) (sym c.resized_range-from.ensures) in
    is_changed SizeFault (SizeRefused n old.tree.size) (n ≡ old.tree.size) size_of_flush size_of_tree (Size n) old (g.H.Host.state c.args.host.now) (g.R.Words.state c.args.random.now)
    (size_allowed n old.tree.size (omega arith) (omega arith)) (λ present. absurd (omega arith))
    c.in_ok-flushed_before.flushed_before c.make_room.new.self (g.H.Host.state c.make_room.new.host) (g.R.Words.state c.make_room.new.random) (Ok tt) c.resize.new.self (g.H.Host.state c.resize.new.host)
    (c.in_ok-flushed_before.ensures.goes (Size n) from_is to_is) c.in_ok-resize.ensures

pub returns-clause-aside : goal.returns-clause-aside
returns-clause-aside g c = aside_then c.args.self.now.name (g.H.Host.state c.args.host.now) (g.H.Host.state c.make_room.new.host) (g.H.Host.state c.resize.new.host) c.make_room.ensures.aside c.resize.ensures.disk

pub returns-clause-beside : goal.returns-clause-beside
returns-clause-beside g c = beside_then c.args.self.now (g.H.Host.state c.args.host.now) (g.H.Host.state c.make_room.new.host) (g.H.Host.state c.resize.new.host) c.make_room.ensures.beside c.resize.ensures.disk
