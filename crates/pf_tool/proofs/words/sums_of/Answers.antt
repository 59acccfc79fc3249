use Rattle.std.proofs.Common.{ℕ, List, Option, Some, None}
use Rattle.std.specs.Prelude.{IfNone}
use Rattle.pf_tool.specs.Requests.{texts, Sums, AskFor}
use Rattle.pf_tool.proofs.words.sums_of.Goals as goal

-- with a file, or without
either : (words : List (List ℕ)) → ((manifest : List ℕ) → AskFor words (Sums manifest None) → ⊥) → ((manifest output : List ℕ) → AskFor words (Sums manifest (Some output)) → ⊥) → (manifest : List ℕ) (output : Option (List ℕ)) → AskFor words (Sums manifest output) → ⊥
either words alone file manifest None asks = alone manifest asks
either words alone file manifest (Some output) asks = file manifest output asks

neither : {A : Type 0} (words : List (List ℕ)) (found : Option A) → ((manifest : List ℕ) → AskFor words (Sums manifest None) → ⊥) → IfNone found ((manifest output : List ℕ) → AskFor words (Sums manifest (Some output)) → ⊥)
    → IfNone found ((manifest : List ℕ) (output : Option (List ℕ)) → AskFor words (Sums manifest output) → ⊥)
neither words None alone file = either words alone file
neither words (Some command) alone file = tt

pub returns-in-None-clause-none : goal.returns-in-None-clause-none
returns-in-None-clause-none c = neither (texts c.args.words.now) c.sums_to_file.result c.in-None.ensures.none c.sums_to_file.ensures.none
