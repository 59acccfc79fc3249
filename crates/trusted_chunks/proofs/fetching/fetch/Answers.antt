use Rattle.std.proofs.Common.{◌≡◌, ◌*◌, ◌≤◌, ◌++◌, List, ℕ, length, take, ap, sym, subst, ◌∙◌, arith, refl}
use Rattle.std.proofs.lemmas.List.{take-take, take-append-le}
use Rattle.sha2.specs.Sha256.{sha256}
use Rattle.pf_io.proofs.Unchanged.{kept_once}
use Rattle.trusted_chunks.specs.Chunks.{CHUNK}
use Rattle.pf_io.specs.Slices.{SliceCame}
use Rattle.pf_io.proofs.Slices.{slice_came}
use Rattle.trusted_chunks.proofs.fetching.fetch.Goals as goal

-- the front of a loan of the whole
front : (n len : ℕ) (to behind : List ℕ) → n ≤ length to → length to ≤ len → take n (take len (to ++ behind)) ≡ take n to
front n len to behind le fits = take-take n len (to ++ behind) (omega (arith, le, fits)) ∙ take-append-le n to behind le

pub returns-in_err-n-clause-disk : goal.returns-in_err-n-clause-disk
returns-in_err-n-clause-disk g c = kept_once (g.H.Host.state c.args.host.now) (g.H.Host.state c.read_at.new.self) c.in_err-n.ensures.disk

pub returns-then-not-has_sum-clause-disk : goal.returns-then-not-has_sum-clause-disk
returns-then-not-has_sum-clause-disk g c = kept_once (g.H.Host.state c.args.host.now) (g.H.Host.state c.read_at.new.self) c.in_ok-n.ensures.disk

pub returns-then-not-has_sum-clause-ends : goal.returns-then-not-has_sum-clause-ends
returns-then-not-has_sum-clause-ends g c =
    let e = c.in_ok-n.ensures in
    let n = c.in_ok-n.n in
    let rest = e.rest in
    let long : length c.as_mut_slice.result.now ≡ CHUNK = let a = c.as_mut_slice.ensures.len in let b = c.in_ok-resize.ensures.len in omega (arith, a, b) in
    let is : c.as_slice.result.now ≡ take n c.read_at.new.to = c.as_slice.ensures.value ∙ c.truncate.ensures.items ∙ front n c.resize.new.self.len c.read_at.new.to _ (omega (arith, rest.within, rest.same_length)) (omega (arith, rest.same_length, c.as_mut_slice.ensures.len)) in
    let came = slice_came c.args.name.now (CHUNK * c.args.chunk) n c.as_mut_slice.result.now c.read_at.new.to (g.H.Host.state c.args.host.now) (g.H.Host.state c.read_at.new.self) long e.rest e.told e.files e.honest e.counts in
    (refl, (take n c.read_at.new.to, came, λ same. let wrong = c.if-not-has_sum.ensures.1 (ap sha256 is ∙ same) in absurd (cc)))

pub returns-clause-disk : goal.returns-clause-disk
returns-clause-disk g c = kept_once (g.H.Host.state c.args.host.now) (g.H.Host.state c.read_at.new.self) c.in_ok-n.ensures.disk

pub returns-clause-ends : goal.returns-clause-ends
returns-clause-ends g c =
    let e = c.in_ok-n.ensures in
    let n = c.in_ok-n.n in
    let rest = e.rest in
    let long : length c.as_mut_slice.result.now ≡ CHUNK = let a = c.as_mut_slice.ensures.len in let b = c.in_ok-resize.ensures.len in omega (arith, a, b) in
    let is : c.into.result ≡ take n c.read_at.new.to = c.into.ensures ∙ c.truncate.ensures.items ∙ front n c.resize.new.self.len c.read_at.new.to _ (omega (arith, rest.within, rest.same_length)) (omega (arith, rest.same_length, c.as_mut_slice.ensures.len)) in
    let came = slice_came c.args.name.now (CHUNK * c.args.chunk) n c.as_mut_slice.result.now c.read_at.new.to (g.H.Host.state c.args.host.now) (g.H.Host.state c.read_at.new.self) long e.rest e.told e.files e.honest e.counts in
    (subst (λ (l : List ℕ). SliceCame c.args.name.now (CHUNK * c.args.chunk) l (g.H.Host.state c.args.host.now) (g.H.Host.state c.read_at.new.self)) (sym is) came, ap sha256 (c.into.ensures ∙ sym c.as_slice.ensures.value) ∙ c.if-not-has_sum.ensures.0 refl)
