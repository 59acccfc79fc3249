-- The first line of a text.
use Rattle.std.proofs.Common.{rules, ◌≡◌, ◌≢◌, ◌∙◌, ℕ, ◌+◌, ◌<◌, ◌==◌, false, List, [], ◌∷◌, ◌++◌, length, take, drop, get_or, refl, sym, ap, cond}
use Rattle.std.specs.List.{onto_first}
use Rattle.std.proofs.lemmas.List.{take-append-drop, drop_more}
use Rattle.std.proofs.lemmas.List.Elements.{All-head, All-tail}
use Rattle.pf_script.specs.Lines.{LINE_FEED, HasNoFeed, lines_of}

abbrev pub IsNoFeed : ℕ → Type 0
IsNoFeed byte = byte ≢ LINE_FEED

no_feed : (byte : ℕ) → byte ≢ LINE_FEED → (byte == LINE_FEED) ≡ false
no_feed byte other = search rules

onto_other : (byte : ℕ) (text : List ℕ) → byte ≢ LINE_FEED → lines_of (byte ∷ text) ≡ onto_first byte (lines_of text)
onto_other byte text other = ap (λ b. cond b ([] ∷ lines_of text) (onto_first byte (lines_of text))) (no_feed byte other)

-- a line feed ends the first line
pub fed_line : (line rest : List ℕ) → HasNoFeed line → lines_of (line ++ LINE_FEED ∷ rest) ≡ line ∷ lines_of rest
fed_line [] rest none = refl
fed_line (byte ∷ line) rest none = onto_other byte (line ++ LINE_FEED ∷ rest) (All-head IsNoFeed byte line none) ∙ ap (onto_first byte) (fed_line line rest (All-tail IsNoFeed byte line none))

-- and so does the end
pub last_line : (line : List ℕ) → HasNoFeed line → line ≢ [] → lines_of line ≡ line ∷ []
last_line [] none some = absurd (some refl)
last_line (byte ∷ []) none some = onto_other byte [] (All-head IsNoFeed byte [] none)
last_line (byte ∷ next ∷ line) none some =
    onto_other byte (next ∷ line) (All-head IsNoFeed byte (next ∷ line) none) ∙ ap (onto_first byte) (last_line (next ∷ line) (All-tail IsNoFeed byte (next ∷ line) none) (λ e. cc e))

-- a text around the place of a byte
pub around : (text : List ℕ) (at byte : ℕ) → at < length text → get_or text at 0 ≡ byte → text ≡ take at text ++ byte ∷ drop (at + 1) text
around text at byte inside here = sym (take-append-drop at text) ∙ ap (λ (rest : List ℕ). take at text ++ rest) (drop_more text at 0 inside) ∙ ap (λ b. take at text ++ b ∷ drop (at + 1) text) here
