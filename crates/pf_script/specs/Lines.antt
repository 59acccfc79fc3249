-- The lines of a script.
use Rattle.std.specs.Prelude.{◌≢◌, ℕ, All, List}
pub use Rattle.pf_io.specs.Lines.{LINE_FEED, lines_of}

abbrev pub HasNoFeed : List ℕ → Type 0
HasNoFeed text = All (λ byte. byte ≢ LINE_FEED) text
