use Rattle.std.proofs.Common.{◌≡◌, ◌≤◌, ◌∙◌, ap, List, ℕ, drop, length, length-append, length-drop, arith}
use Rattle.std.proofs.lemmas.Slice.{drop-append-drop}
use Rattle.std.proofs.lemmas.List.{length-take-le, length-take}
use Rattle.pf_io.proofs.disk_host.read_once.Goals as goal

pub returns-in-Ok : goal.returns-in-Ok
returns-in-Ok c =
    let le : c.in-Ok.n ≤ length c.loop.to = omega (arith, c.in-Ok.ensures.bound.0, c.read_at.auto.buf, c.min-room.ensures, ap length c.loop.invariant, length-take {A = ℕ}) in
    let long : length c.copy_from_slice.new.self ≡ c.in-Ok.n = c.copy_from_slice.auto.self ∙ length-take-le c.in-Ok.n c.loop.to le in
    record {
      within = omega (arith, le, ap length c.loop.invariant);
      same_length = omega (arith, long, le, length-append c.copy_from_slice.new.self (drop c.in-Ok.n c.loop.to), length-drop c.in-Ok.n c.loop.to, ap length c.loop.invariant);
      rest = drop-append-drop c.in-Ok.n c.loop.to c.copy_from_slice.new.self c.in-Ok.n (omega arith) long ∙ ap (λ (l : List ℕ). drop c.in-Ok.n l) c.loop.invariant;
    }
