-- What a change of size keeps of a book, piece by piece.
use Rattle.std.proofs.Common.{◌≡◌, ℕ, ◌+◌, ◌∙◌, subst, Result, Ok, Err}
use Rattle.pf_io.specs.Disk.{Name}
use Rattle.pf_io.specs.Host.{HostState, OnDisk}
use Rattle.pf_io.specs.Words.{WordsState}
use Rattle.node_tree.specs.Applying.{Size}
use Rattle.pf_session.specs.Changing.{SizeRefused}
use Rattle.pf_session.specs.Faults.{size_of_flush, size_of_tree}
use Rattle.pf_session.specs.State.{SessionState}
use Rattle.pf_session.specs.declared.fault.SizeFault.{SizeFault}
use Rattle.pf_session.specs.declared.fault.Written.{Written}
use Rattle.pf_script.specs.BookSeats.{IsOfScript, Covers, KeepsUnder}
use Rattle.pf_script.specs.SeatReplies.{SetsSize, SizesGo, set_last, set_failed, set_piece}
use Rattle.pf_script.specs.SeatSteps.{PIECE}
use Rattle.pf_script.proofs.ChangeKeeping.{change_keeps}
use Rattle.pf_script.proofs.OfScript.{of_changed, change_names}
use Rattle.pf_script.proofs.StepKeeping.{keeps_on}

module _ (result : Result Written SizeFault) (n : ℕ) (old new : SessionState) (before after : HostState) (random random' : WordsState) (mine : IsOfScript old) (sets : SetsSize result n old new before after random random') where
  sets_keep : OnDisk before after (KeepsUnder (Covers old) (Covers new) (λ name. name ≡ old.name))
  sets_keep = change_keeps old mine SizeFault (SizeRefused n old.tree.size) (n ≡ old.tree.size) size_of_flush size_of_tree (Size n) result new before after random random' sets.whole sets.goes sets.aside sets.reads

  pub of_set : IsOfScript new
  of_set = of_changed old new mine SizeFault (SizeRefused n old.tree.size) (n ≡ old.tree.size) size_of_flush size_of_tree (Size n) result before after random random' sets.goes

  pub set_name : new.name ≡ old.name
  set_name = (change_names old new SizeFault (SizeRefused n old.tree.size) (n ≡ old.tree.size) size_of_flush size_of_tree (Size n) result before after random random' sets.goes).1

pub size_keeps : (result : Result (Unit {0}) SizeFault) (size : ℕ) {old new : SessionState} {before after : HostState} {random random' : WordsState} → IsOfScript old → SizesGo result size old new before after random random'
    → OnDisk before after (KeepsUnder (Covers old) (Covers new) (λ name. name ≡ old.name))
size_keeps result size mine (set_last written old new before after random random' near sets said) = sets_keep (Ok written) size old new before after random random' mine sets
size_keeps result size mine (set_failed fault n old new before after random random' next sets said) = sets_keep (Err fault) n old new before after random random' mine sets
size_keeps result size mine (set_piece written old mid new before between after random random' random2 far sets rest) =
    let n = old.tree.size + PIECE in
    keeps_on (Covers old) (Covers mid) (Covers new) (λ name. name ≡ old.name) before between after (sets_keep (Ok written) n old mid before between random random' mine sets) sets.reads
    (subst (λ (x : Name). OnDisk between after (KeepsUnder (Covers mid) (Covers new) (λ name. name ≡ x))) (set_name (Ok written) n old mid before between random random' mine sets)
    (size_keeps result size (of_set (Ok written) n old mid before between random random' mine sets) rest))

-- the session keeps its name
pub sizes_name : (result : Result (Unit {0}) SizeFault) (size : ℕ) {old new : SessionState} {before after : HostState} {random random' : WordsState} → IsOfScript old → SizesGo result size old new before after random random' → new.name ≡ old.name
sizes_name result size mine (set_last written old new before after random random' near sets said) = set_name (Ok written) size old new before after random random' mine sets
sizes_name result size mine (set_failed fault n old new before after random random' next sets said) = set_name (Err fault) n old new before after random random' mine sets
sizes_name result size mine (set_piece written old mid new before between after random random' random2 far sets rest) =
    let n = old.tree.size + PIECE in
    sizes_name result size (of_set (Ok written) n old mid before between random random' mine sets) rest ∙ set_name (Ok written) n old mid before between random random' mine sets
