use Rattle.std.proofs.Common.{◌≡◌, ℕ, ◌-◌, ◌^◌, ◌≤◌, List, length, false}
use Rattle.node_layout.specs.declared.metadata.MetaSecret.{MetaSecret}
use Rattle.pf_io.specs.Host.{KeepsFiles}
use Rattle.pf_io.specs.Unchanged.{KeepsDisk}
use Rattle.pf_session.specs.State.{unread}
use Rattle.pf_tool.proofs.PieceRuns.{SoFar}
use Rattle.pf_tool.proofs.pieces.write_content.Given as goal

abbrev pub invariant-loop-at : goal.invariant-loop-at
invariant-loop-at g l = record {
  files : KeepsFiles (g.H.Host.state l.fn.host) (g.H.Host.state l.host);
  disk : KeepsDisk (g.H.Host.state l.fn.host) (g.H.Host.state l.host);
  room : length l.piece ≡ 32768;
  whole : l.session.broken ≡ false;
  named : l.session.beside ≡ false;
  name : l.session.name ≡ l.fn.session.name;
  size : l.size ≡ l.fn.session.tree.size;
  small : l.size ≤ 2 ^ 32;
  so_far : (secret : MetaSecret) (node : List ℕ) → l.fn.session.tree ≡ unread secret → length node ≡ 4096
      → SoFar l.fn.session.name node secret l.at l.session.tree (g.H.Host.state l.fn.host) (g.H.Host.state l.host) (g.K.Sink.state l.fn.out) (g.K.Sink.state l.out);
}

abbrev pub decreases-loop-at : goal.decreases-loop-at
decreases-loop-at g l = l.size - l.at
