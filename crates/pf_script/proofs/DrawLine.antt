-- The line `draw`, from the contract of a drawing.
use Rattle.std.proofs.Common.{◌≡◌, inl, true, false, List, [], ◌∷◌, ◌++◌, length, ℕ, ◌<◌, refl, sym, ◌∙◌, ap, subst, Option, Some, None, Result, Ok, Err}
use Rattle.node_tree.specs.Sheet.{Sheet}
use Rattle.pf_io.specs.Host.{HostState, Both, OnDisk}
use Rattle.pf_io.specs.Words.{WordsState}
use Rattle.pf_io.specs.declared.faults.WordsFault.{WordsFault}
use Rattle.pf_io.proofs.Telling.{both_same, told_none}
use Rattle.pf_session.specs.Asking.{IsTaken as AreTaken}
use Rattle.pf_session.specs.Backing.{IsBacked}
use Rattle.pf_session.specs.Moving.{IsKeptOn}
use Rattle.pf_session.specs.Drawing.{DrawGoes, drawn_before, drawn_now, not_drawn}
use Rattle.pf_session.specs.State.{SessionState}
use Rattle.pf_session.proofs.Created.{aside_none}
use Rattle.pf_script.specs.BookSeats.{Covers, KeepsUnder}
use Rattle.pf_script.specs.Desk.{IsSeated, IsLike, Shows, whole_file, seat_on}
use Rattle.pf_script.specs.DeskSteps.{to_draw, SeatGoes}
use Rattle.pf_script.specs.Rules.{NoneRefuses, rules}
use Rattle.pf_script.specs.Script.{Seat, Own}
use Rattle.pf_script.specs.Turns.{accepted, words_failed, drawn_again, drawn_now as draws_now, no_nonce}
use Rattle.pf_script.specs.declared.line.ScriptLine.TheVariants as lines
use Rattle.pf_script.specs.declared.reply.Reply.{Reply}
use Rattle.pf_script.specs.declared.reply.Reply.TheVariants as replies
use Rattle.pf_script.proofs.Liking.{like_some}
use Rattle.pf_script.proofs.OfScript.{of_drawn}
use Rattle.pf_script.proofs.ReadKeeping.{draw_keeps}
use Rattle.pf_script.proofs.Refusing.{at_last, none_then, none_taken}
use Rattle.pf_script.proofs.SeatCalls.{seen_by, SheetTurns, whole_turns, shows_same, goes_on}

-- the reply to a drawing
abbrev pub draw_result : Result (List ℕ) WordsFault → Reply
draw_result (Ok nonce) = replies.Drawn nonce
draw_result (Err fault) = replies.WordsFault

module _ (key : List ℕ) (k : ℕ) (old : SessionState) (whole : old.broken ≡ false) (new : SessionState) where
  again_turns : (nonce : List ℕ) → old.drawn ≡ Some nonce → new ≡ old → SheetTurns key false (lines.Draw k) (seen_by [] [] false false) (replies.Drawn nonce) old (Some new) []
  again_turns nonce was same sealed base among linked kept =
      let own = seat_on base old in
      at_last [] (inl refl) (λ unforged. (
        Own own,
        accepted (none_then [] (Own own) own refl whole tt) (record { host = refl; random = refl }) (drawn_again k own nonce was refl),
        shows_same sealed (Own own) (Some new) (subst (λ (s : SessionState). Shows sealed (Own own) (Some s)) (sym same) (whole_file base old whole among linked kept refl refl)),
      ))

  lost_turns : (words : List (List ℕ)) → length words < 2 → old.drawn ≡ None → new ≡ old → SheetTurns key false (lines.Draw k) (seen_by [] words false true) replies.WordsFault old (Some new) []
  lost_turns words fewer none same sealed base among linked kept =
      let own = seat_on base old in
      at_last [] (inl refl) (λ unforged. (
        Own own,
        words_failed (none_then [] (Own own) own refl whole tt) (record { host = refl; random = refl }) (no_nonce k own none fewer) refl,
        shows_same sealed (Own own) (Some new) (subst (λ (s : SessionState). Shows sealed (Own own) (Some s)) (sym same) (whole_file base old whole among linked kept refl refl)),
      ))

  pub with_drawn : (base : Sheet) (drawn : Option (List ℕ)) → IsKeptOn base old → IsKeptOn base (record old { drawn = drawn })
  with_drawn base drawn kept =
      let with : IsBacked base (record old { drawn = drawn }) = record { path_is = kept.backed.path_is; nonce_is = kept.backed.nonce_is; backs = kept.backed.backs } in
      record { backed = with; rests = λ unchanged. record { stands = record { backed = with; now_is = (kept.rests unchanged).stands.now_is }; clean = (kept.rests unchanged).clean } }

  new_turns : (first second : List ℕ) → old.drawn ≡ None → new ≡ record old { drawn = Some (first ++ second) }
      → SheetTurns key false (lines.Draw k) (seen_by [] (first ∷ second ∷ []) false false) (replies.Drawn (first ++ second)) old (Some new) []
  new_turns first second none same sealed base among linked kept =
      let own = seat_on base old in
      let drawn : SessionState = record old { drawn = Some (first ++ second) } in
      at_last [] (inl refl) (λ unforged. (
        Own (record own { drawn = Some (first ++ second) }),
        accepted (none_then [] (Own own) own refl whole tt) (record { host = refl; random = refl }) (draws_now k own first second none refl),
        shows_same sealed (Own (record own { drawn = Some (first ++ second) })) (Some new)
            (subst (λ (s : SessionState). Shows sealed (Own (record own { drawn = Some (first ++ second) })) (Some s)) (sym same)
            (whole_file base drawn whole among linked (with_drawn base (Some (first ++ second)) kept) refl refl)),
      ))

pub draw_goes : (key : List ℕ) (k : ℕ) (old new : SessionState) (result : Result (List ℕ) WordsFault) (host : HostState) (random random' : WordsState) → IsSeated key old → old.broken ≡ false
    → DrawGoes result old new random random' → SeatGoes key false (lines.Draw k) (Ok (draw_result result)) (Some old) (Some new) host host random random'
draw_goes key k old new result host random random' seated whole goes = by_case goes
  where
    books : OnDisk host host (KeepsUnder (Covers old) (Covers new) (λ name. name ≡ old.name))
    books = both_same (KeepsUnder (Covers old) (Covers new) (λ name. name ≡ old.name)) host.honest host.honest refl (λ a. draw_keeps old seated.of_script new result random random' a goes)

    -- nothing was changed of the session but what was drawn
    seated_now : {drawn : Option (List ℕ)} → new ≡ record old { drawn = drawn } → IsSeated key new
    seated_now same = record {
      of_script = of_drawn old new seated.of_script result random random' goes;
      key_is = ap (λ (s : SessionState). s.key) same ∙ seated.key_is;
      clean = λ also unchanged. ap (λ (s : SessionState). s.tree.dirty) same ∙ seated.clean whole (sym (ap (λ (s : SessionState). s.changed) same) ∙ unchanged);
    }

    -- no rule refuses on a seat that is like the session
    passes_like : (seat : Seat) → IsLike seat (Some old) → NoneRefuses (rules key false seat (lines.Draw k) [])
    passes_like seat like = let on = like_some seat old like in none_then [] seat on.own on.seat_is (on.like.broken_is ∙ whole) tt

    by_case : DrawGoes result old new random random' → SeatGoes key false (lines.Draw k) (Ok (draw_result result)) (Some old) (Some new) host host random random'
    by_case (drawn_before nonce was same words said) =
        subst (λ (r : Result (List ℕ) WordsFault). SeatGoes key false (lines.Draw k) (Ok (draw_result r)) (Some old) (Some new) host host random random') (sym said)
        (goes_on key false (lines.Draw k) (replies.Drawn nonce) old host host random random' (aside_none old.name host) (λ none. absurd none, refl) [] [] false false
        (record {
          told = told_none host host refl;
          taken = subst (λ (w : WordsState). Both random.left w.left (AreTaken [])) (sym words) (none_taken random);
          on_host = refl;
          on_words = ap (λ (w : WordsState). w.faults) words;
        }) refl refl new (whole_turns key false (lines.Draw k) (seen_by [] [] false false) (replies.Drawn nonce) old (Some new) [] whole (again_turns key k old whole new nonce was same)) passes_like
        (to_draw k nonce old new (same ∙ ap (λ (d : Option (List ℕ)). record old { drawn = d }) was)) books
        (subst (λ (s : SessionState). IsSeated key s) (sym same) seated) (ap (λ (s : SessionState). s.name) same))
    by_case (drawn_now nonce none drawn same said) =
        let joined : new ≡ record old { drawn = Some (drawn.first ++ drawn.second) } = subst (λ (n : List ℕ). new ≡ record old { drawn = Some n }) drawn.is same in
        subst (λ (r : Result (List ℕ) WordsFault). SeatGoes key false (lines.Draw k) (Ok (draw_result r)) (Some old) (Some new) host host random random') (sym said)
        (subst (λ (n : List ℕ). SeatGoes key false (lines.Draw k) (Ok (replies.Drawn n)) (Some old) (Some new) host host random random') (sym drawn.is)
        (goes_on key false (lines.Draw k) (replies.Drawn (drawn.first ++ drawn.second)) old host host random random' (aside_none old.name host) (λ none. absurd none, refl) [] (drawn.first ∷ drawn.second ∷ []) false false
        (record { told = told_none host host refl; taken = drawn.took.told; on_host = refl; on_words = drawn.took.calm }) refl refl new
        (whole_turns key false (lines.Draw k) (seen_by [] (drawn.first ∷ drawn.second ∷ []) false false) (replies.Drawn (drawn.first ++ drawn.second)) old (Some new) [] whole
        (new_turns key k old whole new drawn.first drawn.second none joined)) passes_like (to_draw k (drawn.first ++ drawn.second) old new joined) books (seated_now same) (ap (λ (s : SessionState). s.name) same)))
    by_case (not_drawn fault none fewer same said) =
        subst (λ (r : Result (List ℕ) WordsFault). SeatGoes key false (lines.Draw k) (Ok (draw_result r)) (Some old) (Some new) host host random random') (sym said)
        (goes_on key false (lines.Draw k) replies.WordsFault old host host random random' (aside_none old.name host) (λ none. absurd none, refl) [] fewer.words false true
        (record { told = told_none host host refl; taken = fewer.told; on_host = refl; on_words = fewer.once }) refl refl new
        (whole_turns key false (lines.Draw k) (seen_by [] fewer.words false true) replies.WordsFault old (Some new) [] whole (lost_turns key k old whole new fewer.words fewer.fewer none same)) passes_like (ap (λ (s : SessionState). Some s) same) books
        (subst (λ (s : SessionState). IsSeated key s) (sym same) seated) (ap (λ (s : SessionState). s.name) same))
