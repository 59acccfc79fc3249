-- The lines that close the seats of a desk, and those of a state that it shows.
use Rattle.std.proofs.Common.{◌≡◌, ◌⊎◌, inl, inr, Bool, true, ℕ, zero, suc, ◌+◌, ◌-◌, ◌≤◌, ◌<◌, List, [], ◌∷◌, ◌++◌, length, map, refl, sym, ◌∙◌, ap, subst, arith, append_assoc, Option, Some, None}
use Rattle.std.proofs.lemmas.Bool.{cases_lt}
use Rattle.std.proofs.lemmas.List.{append-nil, get_or_past}
use Rattle.pf_session.specs.State.{SessionState}
use Rattle.pf_script.specs.Desk.{DeskState, session_at}
use Rattle.pf_script.specs.Script.{Seat, Empty, Own, ScriptState, seat_at}
use Rattle.pf_script.specs.ScriptRuns.{Exchange, closing_of, closings}
use Rattle.pf_script.specs.Words.{SEATS}
use Rattle.pf_script.specs.declared.line.ScriptLine.{ScriptLine}
use Rattle.pf_script.specs.declared.line.ScriptLine.TheVariants as lines
use Rattle.pf_script.proofs.Under.{LooksLike}
use Rattle.pf_tool.specs.BookScripts.{AreClosings}
use Rattle.pf_tool.specs.Transcripts.{Item}

abbrev pub lines_in : List Exchange → List ScriptLine
lines_in exchanges = map (λ exchange. exchange.line) exchanges

abbrev pub closing_at : ℕ → Option SessionState → List ScriptLine
closing_at k None = []
closing_at k (Some session) = lines.Close k ∷ []

-- so many seats, from the k-th on
abbrev pub desk_closings : ℕ → ℕ → DeskState → List ScriptLine
desk_closings zero k desk = []
desk_closings (suc more) k desk = closing_at k (session_at desk k) ++ desk_closings more (suc k) desk

-- some seats, and then others
closings_on : (desk : DeskState) (n m k : ℕ) → desk_closings (n + m) k desk ≡ desk_closings n k desk ++ desk_closings m (n + k) desk
closings_on desk zero m k = let e : zero + m ≡ m = omega arith in let e2 : k ≡ zero + k = omega arith in ap (λ (i : ℕ). desk_closings i k desk) e ∙ ap (λ (i : ℕ). desk_closings m i desk) e2
closings_on desk (suc n) m k =
    let e : suc n + m ≡ suc (n + m) = omega arith in
    let e2 : n + suc k ≡ suc n + k = omega arith in
    ap (λ (i : ℕ). desk_closings i k desk) e ∙ ap (λ (l : List ScriptLine). closing_at k (session_at desk k) ++ l) (closings_on desk n m (suc k) ∙ ap (λ (i : ℕ). desk_closings n (suc k) desk ++ desk_closings m i desk) e2)
    ∙ sym (append_assoc (closing_at k (session_at desk k)) (desk_closings n (suc k) desk) (desk_closings m (suc n + k) desk))

-- one seat more
pub closings_more : (desk : DeskState) (n : ℕ) → desk_closings (suc n) 0 desk ≡ desk_closings n 0 desk ++ closing_at n (session_at desk n)
closings_more desk n =
    let e : suc n ≡ n + 1 = omega arith in
    let e2 : n + 0 ≡ n = omega arith in
    ap (λ (i : ℕ). desk_closings i 0 desk) e ∙ closings_on desk n 1 0 ∙ ap (λ (l : List ScriptLine). desk_closings n 0 desk ++ l) (append-nil (closing_at (n + 0) (session_at desk (n + 0))) ∙ ap (λ (i : ℕ). closing_at i (session_at desk i)) e2)

-- no seat is behind the last
none_behind : (desk : DeskState) → ((j : ℕ) → SEATS ≤ j → session_at desk j ≡ None) → (n k : ℕ) → SEATS ≤ k → desk_closings n k desk ≡ []
none_behind desk none zero k far = refl
none_behind desk none (suc n) k far = ap (λ (o : Option SessionState). closing_at k o ++ desk_closings n (suc k) desk) (none k far) ∙ none_behind desk none n (suc k) (omega (arith, far))

-- so for the first seats of all
first_closings : (desk : DeskState) → ((j : ℕ) → SEATS ≤ j → session_at desk j ≡ None) → (count : ℕ) → (rest : List ScriptLine) × (desk_closings SEATS 0 desk ≡ desk_closings count 0 desk ++ rest) × (count ≡ SEATS → rest ≡ [])
first_closings desk none count = by_count (cases_lt SEATS count)
  where
    by_count : (SEATS < count) ⊎ (count ≤ SEATS) → (rest : List ScriptLine) × (desk_closings SEATS 0 desk ≡ desk_closings count 0 desk ++ rest) × (count ≡ SEATS → rest ≡ [])
    by_count (inl far) =
        let e : SEATS + (count - SEATS) ≡ count = omega (arith, far) in
        let more : desk_closings count 0 desk ≡ desk_closings SEATS 0 desk =
        ap (λ (i : ℕ). desk_closings i 0 desk) (sym e) ∙ closings_on desk SEATS (count - SEATS) 0 ∙ ap (λ (l : List ScriptLine). desk_closings SEATS 0 desk ++ l) (none_behind desk none (count - SEATS) (SEATS + 0) (omega arith)) ∙ append-nil (desk_closings SEATS 0 desk) in
        ([], sym more ∙ sym (append-nil (desk_closings count 0 desk)), λ all. refl)
    by_count (inr within) =
        let e : count + (SEATS - count) ≡ SEATS = omega (arith, within) in (
          desk_closings (SEATS - count) (count + 0) desk,
          ap (λ (i : ℕ). desk_closings i 0 desk) (sym e) ∙ closings_on desk count (SEATS - count) 0,
          λ all. let e2 : SEATS - count ≡ 0 = omega (arith, all) in ap (λ (i : ℕ). desk_closings i (count + 0) desk) e2,
        )

-- a seat is not empty where the desk has a session
closing_shown : (k : ℕ) (seat : Seat) (session : Option SessionState) → LooksLike session seat → closing_of k seat ≡ closing_at k session
closing_shown k seat None is = ap (closing_of k) is
closing_shown k seat (Some session) looks = ap (closing_of k) looks.seat_is

none_shown : (seat : Seat) (session : Option SessionState) → seat ≡ Empty → LooksLike session seat → session ≡ None
none_shown seat None empty looks = refl
none_shown seat (Some session) empty looks = let e : Empty ≡ Own looks.shown = sym empty ∙ looks.seat_is in absurd (cc)

module _ (state : ScriptState) (desk : DeskState) (eight : length state.seats ≡ SEATS) (looks : (k : ℕ) → LooksLike (session_at desk k) (seat_at state k)) where
  state_closings : (n k : ℕ) → closings n k state ≡ desk_closings n k desk
  state_closings zero k = refl
  state_closings (suc n) k =
      ap (λ (l : List ScriptLine). l ++ closings n (suc k) state) (closing_shown k (seat_at state k) (session_at desk k) (looks k)) ∙ ap (λ (l : List ScriptLine). closing_at k (session_at desk k) ++ l) (state_closings n (suc k))

  none_there : (j : ℕ) → SEATS ≤ j → session_at desk j ≡ None
  none_there j far = none_shown (seat_at state j) (session_at desk j) (get_or_past state.seats j Empty (subst (λ (n : ℕ). n ≤ j) (sym eight) far)) (looks j)

  -- the seats that were closed are the first of those of the state
  pub are_closings : (items : List Item) (closed : List Exchange) (ended : Bool) (count : ℕ) → (ended ≡ true → count ≡ SEATS) → lines_in closed ≡ desk_closings count 0 desk
      → AreClosings (record { items = items; closed = closed; ended = ended }) state
  are_closings items closed ended count all are =
      let first = first_closings desk none_there count in
      record {
        rest = first.0;
        in_order = state_closings SEATS 0 ∙ first.1 ∙ ap (λ (l : List ScriptLine). l ++ first.0) (sym are);
        all = λ is_ended. first.2 (all is_ended);
      }
