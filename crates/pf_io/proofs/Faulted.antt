-- A fault that did nothing is one of the faults that a call of an honest host may answer.
use Rattle.std.proofs.Common.{inl, ℕ, ◌+◌, List, length, refl, sym, Option, Some, None, Err, arith}
use Rattle.std.proofs.lemmas.List.{take_all}
use Rattle.pf_io.specs.Disk.{Name, File, Disk}
use Rattle.pf_io.specs.Moments.{Honest, Does}
use Rattle.pf_io.specs.Steps.{Follows, Changes, Writes, Cuts, Syncs}

pub follows_same : (step : File → File → Type 0) → ((file : File) → step file file) → (o : Option File) → Follows step o o
follows_same step each (Some file) = each file
follows_same step each None = tt

pub changes_nothing : (name : Name) (step : File → File → Type 0) (d : Disk) → ((file : File) → step file file) → Changes name step d d
changes_nothing name step d each = record { there = follows_same step each (d name); others = λ other apart. refl }

pub nothing_done : (step : Disk → Disk → Type 0) (host : Honest) → step host.now host.now → Does step host host
nothing_done step host does = record { disk = does; time = inl refl }

pub writes_nothing : {T E : Type 0} (fault : E) (at : ℕ) (bytes : List ℕ) (file : File) → Writes {T = T} at bytes (Err fault) file file
writes_nothing fault at bytes file = record {
  reads = record {
    torn = record { no_shorter = omega arith; no_longer = omega arith; before = λ i lt inside. refl; after = λ i le inside. refl };
    gap = λ i past lt inside. absurd (omega arith);
  };
  risks = record { before = λ i keeps lt. keeps; after = λ i keeps le. keeps; no_shorter = omega arith; no_longer = omega arith };
}

pub cuts_nothing : {T E : Type 0} (fault : E) (len : ℕ) (file : File) → Cuts {T = T} len (Err fault) file file
cuts_nothing fault len file = record {
  reads = (len + length file.bytes, omega arith, sym (take_all (len + length file.bytes) file.bytes (omega arith)));
  risks = record { front = λ i keeps lt. keeps; no_shorter = omega arith; no_longer = omega arith };
}

pub syncs_nothing : {T E : Type 0} (fault : E) (file : File) → Syncs {T = T} (Err fault) file file
syncs_nothing fault file = record { reads = refl; risks = record { keeps = λ i keeps. keeps; no_shorter = omega arith; no_longer = omega arith }; settled = tt }
