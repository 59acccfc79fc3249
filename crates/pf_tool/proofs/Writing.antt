-- Lines that are written to a sink in parts.
use Rattle.std.proofs.Common.{List, ℕ, [], ◌∷◌, ◌++◌, Result}
use Rattle.pf_io.specs.Streams.{SinkState}
use Rattle.pf_io.proofs.Writing.{wrote_both, failed_second, failed_first, written_second}
use Rattle.pf_tool.specs.Endings.{line}
use Rattle.pf_tool.specs.Reports.{WroteAll, SinkFailed, Written}

-- a line of four texts
module _ (a b c d : List ℕ) (old : SinkState) where
  pub line_fails_first : (new : SinkState) → SinkFailed a old new → SinkFailed (line (a ++ b ++ c ++ d)) old new
  line_fails_first new failed = failed_first (a ++ b ++ c ++ d) (10 ∷ []) old new (failed_first (a ++ b ++ c) d old new (failed_first (a ++ b) c old new (failed_first a b old new failed)))

  pub line_fails_second : (mid new : SinkState) → WroteAll a old mid → SinkFailed b mid new → SinkFailed (line (a ++ b ++ c ++ d)) old new
  line_fails_second mid new first failed = failed_first (a ++ b ++ c ++ d) (10 ∷ []) old new (failed_first (a ++ b ++ c) d old new (failed_first (a ++ b) c old new (failed_second a b old mid new first failed)))

  pub line_fails_third : (mid then_ new : SinkState) → WroteAll a old mid → WroteAll b mid then_ → SinkFailed c then_ new → SinkFailed (line (a ++ b ++ c ++ d)) old new
  line_fails_third mid then_ new first second failed =
      failed_first (a ++ b ++ c ++ d) (10 ∷ []) old new (failed_first (a ++ b ++ c) d old new (failed_second (a ++ b) c old then_ new (wrote_both a b old mid then_ first second) failed))

  module _ (mid then_ last new : SinkState) (first : WroteAll a old mid) (second : WroteAll b mid then_) (third : WroteAll c then_ last) where
    wrote_three : WroteAll (a ++ b ++ c) old last
    wrote_three = wrote_both (a ++ b) c old then_ last (wrote_both a b old mid then_ first second) third

    pub line_fails_fourth : SinkFailed d last new → SinkFailed (line (a ++ b ++ c ++ d)) old new
    line_fails_fourth failed = failed_first (a ++ b ++ c ++ d) (10 ∷ []) old new (failed_second (a ++ b ++ c) d old last new wrote_three failed)

    pub line_ends : {T E : Type 0} (r : Result T E) (end : SinkState) → WroteAll d last new → Written r (10 ∷ []) new end → Written r (line (a ++ b ++ c ++ d)) old end
    line_ends r end fourth ends = written_second r (a ++ b ++ c ++ d) (10 ∷ []) old new end (wrote_both (a ++ b ++ c) d old last new wrote_three fourth) ends
