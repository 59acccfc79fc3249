use Rattle.std.proofs.Common.{◌≡◌, ◌≤◌, ◌-◌, ◌∙◌, ap, ℕ, List, arith, length, take, drop, length-drop}
use Rattle.std.proofs.lemmas.List.{take_all}
use Rattle.pf_io.proofs.Filling.{kept_behind, length_filled}
use Rattle.pf_io.proofs.disk_host.fill.Goals as goal

pub loop-filled-preserved : goal.loop-filled-preserved
loop-filled-preserved c =
    let part : List ℕ = c.read_some.new.to in
    let once = c.in_ok-n.ensures in
    let within = c.loop-filled.invariant.within in
    let whole : take (length c.loop-filled.to - c.loop-filled.filled) (drop c.loop-filled.filled c.loop-filled.to) ≡ drop c.loop-filled.filled c.loop-filled.to = take_all _ _ (omega (arith, length-drop c.loop-filled.filled c.loop-filled.to)) in
    let len : length part ≡ length (drop c.loop-filled.filled c.loop-filled.to) = once.same_length ∙ ap (λ (l : List ℕ). length l) whole in
    let fits : c.in_ok-n.n ≤ length part = omega (arith, once.within, once.same_length) in
    record {
      within = omega (arith, fits, len, length-drop c.loop-filled.filled c.loop-filled.to, length_filled c.loop-filled.filled c.loop-filled.to part within len);
      rest = kept_behind c.loop-filled.filled c.in_ok-n.n c.loop-filled.to part _ within len fits (once.rest ∙ ap (λ (l : List ℕ). drop c.in_ok-n.n l) whole) c.loop-filled.invariant.rest;
    }
