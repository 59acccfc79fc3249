-- A piece that is asked for, by the clauses of the call.
use Rattle.std.proofs.Common.{◌≡◌, ℕ, List, [], ◌∷◌, length, take}
use Rattle.pf_io.specs.Counts.{counted}
use Rattle.pf_io.specs.Disk.{Name}
use Rattle.pf_io.specs.Host.{Gave, HostState, Both, IsMore, OnHonest, OnDisk, CountsRead, ReadsFrom, KeepsRest, contents}
use Rattle.pf_io.specs.Moments.{Does}
use Rattle.pf_io.specs.Steps.{Stays}
use Rattle.pf_io.proofs.Unchanged.{kept_once}
use Rattle.pf_tool.specs.SealingInput.{GavePiece, PieceFailed}
use Rattle.pf_tool.proofs.Calls.{read_passed, read_failed}

pub piece_given : (input : Name) (at n : ℕ) (before buffer : List ℕ) (old new : HostState) → KeepsRest n before buffer → length before ≡ 32768 → Both old.given new.given (IsMore (Gave input at (length before) (take n buffer) ∷ [])) → new.faults ≡ old.faults
    → CountsRead (length before) old new → OnHonest old (λ files. ReadsFrom at n buffer (contents (files input))) → OnDisk old new (Does Stays) → GavePiece input at (take n buffer) old new
piece_given input at n before buffer old new rest long told calm counts honest disk = record {
  passed = read_passed input at n 32768 before buffer old new rest long told calm counts honest;
  disk = kept_once old new disk;
}

pub piece_failed : (input : Name) (at n : ℕ) (old new : HostState) → new.given ≡ old.given → new.faults ≡ counted old.faults → CountsRead n old new → OnDisk old new (Does Stays) → PieceFailed input at old new
piece_failed input at n old new told once counts disk = record { piece = []; failed = read_failed input at 32768 n [] old new told once counts; disk = kept_once old new disk }
