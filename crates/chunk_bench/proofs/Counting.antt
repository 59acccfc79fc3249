-- Reads of slices that are counted, one after the other.
use Rattle.std.proofs.Common.{◌≡◌, ℕ, ◌+◌, ◌≤◌, refl, ◌∙◌, arith}
use Rattle.pf_io.specs.Host.{HostState, CountsRead, CountsNeither}
use Rattle.trusted_chunks.specs.Chunks.{CHUNK}
use Rattle.pf_io.specs.Slices.{CountsSlices}

pub no_slice : (state : HostState) → CountsSlices 0 state state
no_slice state = record { reads = omega arith; writes = refl; widest = omega arith }

pub neither_counts : (old new : HostState) → CountsNeither old new → CountsSlices 0 old new
neither_counts old new counts = record {
  reads = let e = counts.reads in omega (arith, e);
  writes = counts.writes;
  widest = let e = counts.widest in omega (arith, e);
}

pub one_slice : (room : ℕ) (old new : HostState) → room ≡ CHUNK → CountsRead room old new → CountsSlices 1 old new
one_slice room old new is counts = record {
  reads = let e = counts.reads in omega (arith, e);
  writes = counts.writes;
  widest = let e = counts.widest in omega (arith, e, is);
}

pub more_slices : (m n most : ℕ) (old mid new : HostState) → CountsSlices m old mid → CountsSlices n mid new → m + n ≤ most → CountsSlices most old new
more_slices m n most old mid new first second le = record {
  reads = let a = first.reads in let b = second.reads in omega (arith, a, b, le);
  writes = second.writes ∙ first.writes;
  widest = let a = first.widest in let b = second.widest in omega (arith, a, b);
}

pub counts_within : (m n : ℕ) (old new : HostState) → CountsSlices m old new → m ≤ n → CountsSlices n old new
counts_within m n old new counts le = record { reads = let e = counts.reads in omega (arith, e, le); writes = counts.writes; widest = counts.widest }
