use Rattle.std.proofs.Common.{◌≡◌, ℕ, ◌+◌, ◌-◌, ◌≤◌, List, [], ◌∷◌, ◌++◌, length, take, drop, replicate, sym, ap, subst, ◌∙◌, arith, append_assoc, length-take, length-drop, vec_len}
use Rattle.std.proofs.Math.Seq.{take-append-add, take-append_seam}
use Rattle.std.proofs.lemmas.List.{take_all, take-take, take-append-le, length-take-le}
use Rattle.pf_io.specs.Host.{Gave}
use Rattle.pf_io.proofs.Unchanged.{kept_once}
use Rattle.pf_tool.specs.Happened.{HostPassed}
use Rattle.pf_tool.proofs.Calls.{read_passed}
use Rattle.pf_tool.proofs.input_file.add_slice.Goals as goal

pub returns-in_err-given-clause-disk : goal.returns-in_err-given-clause-disk
returns-in_err-given-clause-disk g c = kept_once (g.H.Host.state c.args.host.now) (g.H.Host.state c.read_at.new.self) c.in_err-given.ensures.disk

pub returns-clause-disk : goal.returns-clause-disk
returns-clause-disk g c = kept_once (g.H.Host.state c.args.host.now) (g.H.Host.state c.read_at.new.self) c.in_ok-given.ensures.disk

-- the bytes stand before their room
front_is : (at : ℕ) (bytes lent zeros : List ℕ) → at ≡ length bytes → lent ≡ take (at + 16384) bytes ++ zeros → take at lent ≡ bytes
front_is at bytes lent zeros is are =
    ap (λ (l : List ℕ). take at l) (are ∙ ap (λ (l : List ℕ). l ++ zeros) (take_all (at + 16384) bytes (omega (arith, is)))) ∙ ap (λ (k : ℕ). take k (bytes ++ zeros)) is ∙ take-append_seam bytes zeros

-- what was read into the room, with the room behind it cut off
cut_off : (at n len : ℕ) (bytes front buffer post tail : List ℕ) → at ≡ length bytes → front ≡ bytes → n ≤ length buffer → at + n ≤ len → take (at + n) (take len ((front ++ (buffer ++ post)) ++ tail)) ≡ bytes ++ take n buffer
cut_off at n len bytes front buffer post tail is front_of few fits =
    let joined : (bytes ++ (buffer ++ post)) ++ tail ≡ bytes ++ (buffer ++ (post ++ tail)) = simp append_assoc in
    take-take (at + n) len ((front ++ (buffer ++ post)) ++ tail) fits
    ∙ ap (λ (l : List ℕ). take (at + n) ((l ++ (buffer ++ post)) ++ tail)) front_of
    ∙ ap (λ (l : List ℕ). take (at + n) l) joined
    ∙ ap (λ (k : ℕ). take (k + n) (bytes ++ (buffer ++ (post ++ tail)))) is
    ∙ take-append-add bytes (buffer ++ (post ++ tail)) n
    ∙ ap (λ (l : List ℕ). bytes ++ l) (take-append-le n buffer (post ++ tail) few)

pub returns-clause-added : goal.returns-clause-added
returns-clause-added g c =
    let at = c.len-at.result in
    let n = c.in_ok-given.given in
    let name = c.args.name.now in
    let bytes = c.args.bytes.now.items in
    let buffer = c.read_at.new.to in
    let lent = c.deref_mut.result.now in
    let roomy = c.resize.new.self in
    let old = g.H.Host.state c.args.host.now in
    let new = g.H.Host.state c.read_at.new.self in
    let e = c.in_ok-given.ensures in
    let rest = e.rest in
    let within = rest.within in
    let same_length = rest.same_length in
    let at_is : at ≡ length bytes = c.len-at.ensures ∙ c.args.bytes.now.ok.0 in
    let room : vec_len roomy ≡ at + 16384 = c.in_ok-resize.ensures.len in
    let long : length lent ≡ at + 16384 = ap (λ (l : List ℕ). length l) c.deref_mut.ensures.value ∙ sym roomy.ok.0 ∙ room in
    let before = take (length lent - at) (drop at lent) in
    let before_long : length before ≡ 16384 = omega (arith, long, length-take (length lent - at) (drop at lent), length-drop at lent) in
    let slice = take n buffer in
    let slice_long : length slice ≡ n = length-take-le n buffer (omega (arith, within, same_length)) in
    let front = front_is at bytes lent (replicate (at + 16384 - vec_len c.args.bytes.now) 0) at_is (c.deref_mut.ensures.value ∙ c.in_ok-resize.ensures.items) in
    record {
      slice = slice;
      added = c.truncate.ensures.items ∙ cut_off at n roomy.len bytes (take at lent) buffer _ _ at_is front (omega (arith, within, same_length)) (omega (arith, room, within, before_long));
      count_is = sym slice_long;
      short = omega (arith, slice_long, within, before_long);
      passed = subst (λ (k : ℕ). HostPassed (Gave name k 16384 slice ∷ []) old new) at_is (read_passed name at n 16384 before buffer old new rest before_long e.told e.cause.still e.counts e.honest);
    }
