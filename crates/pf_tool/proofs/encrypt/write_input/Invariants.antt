use Rattle.std.proofs.Common.{◌≡◌, List, ℕ, false, ◌-◌, ◌^◌, ◌≤◌, length}
use Rattle.pf_tool.specs.SealingInput.{PiecesWritten}
use Rattle.pf_tool.proofs.encrypt.write_input.Given as goal

abbrev pub invariant-loop-given : goal.invariant-loop-given
invariant-loop-given g l = record {
  written : (content : List ℕ) × PiecesWritten l.fn.input l.initial.session (g.H.Host.state l.initial.host) (g.R.Words.state l.initial.random) content l.session (g.H.Host.state l.host) (g.R.Words.state l.random) × (l.session.tree.size ≡ length content);
  room : length l.piece ≡ 32768;
  whole : l.session.broken ≡ false;
  small : l.session.tree.size ≤ 2 ^ 32;
}

abbrev pub decreases-loop-given : goal.decreases-loop-given
decreases-loop-given g l = 2 ^ 32 - l.session.tree.size
