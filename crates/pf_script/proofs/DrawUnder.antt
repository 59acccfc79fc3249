-- The line `draw` under a book and over files, from the contract of a drawing.
use Rattle.std.proofs.Common.{◌≡◌, Bool, true, false, List, [], ◌∷◌, ◌++◌, length, ℕ, ◌<◌, refl, sym, ◌∙◌, ap, subst, Option, Some, None, Result}
use Rattle.node_tree.specs.Sheet.{Sheet}
use Rattle.pf_io.specs.Disk.{reading}
use Rattle.pf_io.specs.Host.{HostState, Both, OnDisk}
use Rattle.pf_io.specs.Words.{WordsState}
use Rattle.pf_io.specs.declared.faults.WordsFault.{WordsFault}
use Rattle.pf_io.proofs.Telling.{both_same, told_none}
use Rattle.pf_session.specs.Asking.{IsTaken as AreTaken}
use Rattle.pf_session.specs.Drawing.{DrawGoes, drawn_before, drawn_now, not_drawn}
use Rattle.pf_session.specs.State.{SessionState}
use Rattle.pf_script.specs.BookTurns.{ShowsUnder, of_book, SeatUnder, SeatAgrees, MadeBy}
use Rattle.pf_script.specs.FileTurns.{stands_on, SeatFiles}
use Rattle.pf_script.specs.Desk.{IsSeated, seat_on}
use Rattle.pf_script.specs.Rules.{NoneRefuses, rules}
use Rattle.pf_script.specs.Script.{Own}
use Rattle.pf_script.specs.Turns.{SeatTurn, Standing, accepted, words_failed, drawn_again, drawn_now as draws_now, no_nonce}
use Rattle.pf_script.specs.declared.line.ScriptLine.{ScriptLine}
use Rattle.pf_script.specs.declared.line.ScriptLine.TheVariants as lines
use Rattle.pf_script.specs.declared.reply.Reply.{Reply}
use Rattle.pf_script.specs.declared.reply.Reply.TheVariants as replies
use Rattle.pf_script.proofs.ActKeeping.{unchanged_now}
use Rattle.pf_script.proofs.Dealing.{idle_deals}
use Rattle.pf_script.proofs.DrawLine.{draw_result, with_drawn}
use Rattle.pf_script.proofs.MadeActs.{none_is}
use Rattle.pf_script.proofs.OverFiles.{own_over, still_over}
use Rattle.pf_script.proofs.Refusing.{none_then, none_taken}
use Rattle.pf_script.proofs.SeatCalls.{seen_by}
use Rattle.pf_script.proofs.Under.{IsAnswered, idle_answered, own_under, none_concerned}

module _ (key : List ℕ) (k : ℕ) (old : SessionState) (seated : IsSeated key old) (whole : old.broken ≡ false) (new : SessionState) (host : HostState) (random random' : WordsState) (result : Result (List ℕ) WordsFault) (goes : DrawGoes result old new random random') where
  -- on each sheet the session shows the seat that the turn leaves
  drawn_under : (words : List (List ℕ)) (of_words : Bool) (reply : Reply) (drawn : Option (List ℕ)) → new ≡ record old { drawn = drawn }
      → ((standing : Standing) (base : Sheet) → SeatTurn standing key false (Own (seat_on base old)) (lines.Draw k) (seen_by [] words false of_words) reply [] (Own (record (seat_on base old) { drawn = drawn }))) → IsAnswered reply
      → OnDisk host host (SeatUnder key false (lines.Draw k) (seen_by [] words false of_words) reply (Some old) (Some new))
  drawn_under words of_words reply drawn same turns answered =
      let seen = seen_by [] words false of_words in
      both_same (SeatUnder key false (lines.Draw k) seen reply (Some old) (Some new)) host.honest host.honest refl
      (λ a. own_under key false (lines.Draw k) seen reply old whole (Some new) a a answered
      (idle_deals false (lines.Draw k) old (Some new) a a (λ n has. has ∙ ap (λ (s : SessionState). s.name) same) (unchanged_now a))
      (λ book seats agrees base on. record {
        acts = [];
        left = seats;
        after = Own (record (seat_on base old) { drawn = drawn });
        did = (unchanged_now a, λ s has. has);
        shows = subst (λ (s : SessionState). ShowsUnder book seats (Own (record (seat_on base old) { drawn = drawn })) (Some s)) (sym same) (of_book base (record old { drawn = drawn }) whole on.seated (with_drawn key k old whole new base drawn on.kept) refl refl);
        spares = λ s has apart. has;
        concerned = none_concerned false (lines.Draw k) (Some old);
        made = none_is (MadeBy (lines.Draw k) (Own (seat_on base old)));
        turn = λ _. turns (stands_on key (reading a.now)) base;
        idle = idle_answered reply answered [];
      }))

  drawn_over : (words : List (List ℕ)) (of_words : Bool) (reply : Reply) (drawn : Option (List ℕ)) → new ≡ record old { drawn = drawn }
      → ((standing : Standing) (base : Sheet) → SeatTurn standing key false (Own (seat_on base old)) (lines.Draw k) (seen_by [] words false of_words) reply [] (Own (record (seat_on base old) { drawn = drawn })))
      → OnDisk host host (SeatFiles key false (lines.Draw k) (seen_by [] words false of_words) reply (Some old) (Some new))
  drawn_over words of_words reply drawn same turns =
      let line : ScriptLine = lines.Draw k in
      let seen = seen_by [] words false of_words in
      let mid : SessionState = record old { drawn = drawn } in
      subst (λ (s : SessionState). OnDisk host host (SeatFiles key false line seen reply (Some old) (Some s))) (sym same)
      (both_same (SeatFiles key false line seen reply (Some old) (Some mid)) host.honest host.honest refl
      (λ a. own_over key false line seen reply old whole (Some mid) a a
      (λ calm base on.
      still_over key false line seen reply old mid a a (unchanged_now a) base whole (record { path_is = on.path_is; reopens = on.reopens; kept = on.kept }) refl refl whole (with_drawn key k old whole new base drawn on.kept)
      (subst (λ (w : Bool). SeatTurn (stands_on key (reading a.now)) key false (Own (seat_on base old)) line (seen_by [] words false w) reply [] (Own (seat_on base mid))) calm.random (turns (stands_on key (reading a.now)) base)))))

  -- the turns of a drawing
  passes : (base : Sheet) → NoneRefuses (rules key false (Own (seat_on base old)) (lines.Draw k) [])
  passes base = none_then [] (Own (seat_on base old)) (seat_on base old) refl whole tt

  again : (nonce : List ℕ) → old.drawn ≡ Some nonce → (standing : Standing) (base : Sheet)
      → SeatTurn standing key false (Own (seat_on base old)) (lines.Draw k) (seen_by [] [] false false) (replies.Drawn nonce) [] (Own (record (seat_on base old) { drawn = old.drawn }))
  again nonce was standing base = accepted (passes base) (record { host = refl; random = refl }) (drawn_again k (seat_on base old) nonce was refl)

  now_drawn : (first second : List ℕ) → old.drawn ≡ None → (standing : Standing) (base : Sheet)
      → SeatTurn standing key false (Own (seat_on base old)) (lines.Draw k) (seen_by [] (first ∷ second ∷ []) false false) (replies.Drawn (first ++ second)) [] (Own (record (seat_on base old) { drawn = Some (first ++ second) }))
  now_drawn first second none standing base = accepted (passes base) (record { host = refl; random = refl }) (draws_now k (seat_on base old) first second none refl)

  lost : (words : List (List ℕ)) → length words < 2 → old.drawn ≡ None → (standing : Standing) (base : Sheet)
      → SeatTurn standing key false (Own (seat_on base old)) (lines.Draw k) (seen_by [] words false true) replies.WordsFault [] (Own (record (seat_on base old) { drawn = old.drawn }))
  lost words fewer none standing base = words_failed (passes base) (record { host = refl; random = refl }) (no_nonce k (seat_on base old) none fewer) refl

  by_case : DrawGoes result old new random random' → SeatAgrees key false (lines.Draw k) (draw_result result) (Some old) (Some new) host host random random'
  by_case (drawn_before nonce was same words said) =
      subst (λ (r : Result (List ℕ) WordsFault). SeatAgrees key false (lines.Draw k) (draw_result r) (Some old) (Some new) host host random random') (sym said)
      (record {
        seen = seen_by [] [] false false;
        was_seen = record { answers = told_none host host refl; words = subst (λ (w : WordsState). Both random.left w.left (AreTaken [])) (sym words) (none_taken random); of_host = refl; of_words = ap (λ (w : WordsState). w.faults) words };
        wordless = λ change. absurd change;
        under = drawn_under [] false (replies.Drawn nonce) old.drawn same (again nonce was) tt;
        over = drawn_over [] false (replies.Drawn nonce) old.drawn same (again nonce was);
      })
  by_case (drawn_now nonce none drawn same said) =
      subst (λ (r : Result (List ℕ) WordsFault). SeatAgrees key false (lines.Draw k) (draw_result r) (Some old) (Some new) host host random random') (sym said)
      (subst (λ (n : List ℕ). SeatAgrees key false (lines.Draw k) (replies.Drawn n) (Some old) (Some new) host host random random') (sym drawn.is)
      (record {
        seen = seen_by [] (drawn.first ∷ drawn.second ∷ []) false false;
        was_seen = record { answers = told_none host host refl; words = drawn.took.told; of_host = refl; of_words = drawn.took.calm };
        wordless = λ change. absurd change;
        under = drawn_under (drawn.first ∷ drawn.second ∷ []) false (replies.Drawn (drawn.first ++ drawn.second)) (Some (drawn.first ++ drawn.second)) (subst (λ (n : List ℕ). new ≡ record old { drawn = Some n }) drawn.is same) (now_drawn drawn.first drawn.second none) tt;
        over = drawn_over (drawn.first ∷ drawn.second ∷ []) false (replies.Drawn (drawn.first ++ drawn.second)) (Some (drawn.first ++ drawn.second)) (subst (λ (n : List ℕ). new ≡ record old { drawn = Some n }) drawn.is same) (now_drawn drawn.first drawn.second none);
      }))
  by_case (not_drawn fault none fewer same said) =
      subst (λ (r : Result (List ℕ) WordsFault). SeatAgrees key false (lines.Draw k) (draw_result r) (Some old) (Some new) host host random random') (sym said)
      (record {
        seen = seen_by [] fewer.words false true;
        was_seen = record { answers = told_none host host refl; words = fewer.told; of_host = refl; of_words = fewer.once };
        wordless = λ change. absurd change;
        under = drawn_under fewer.words true replies.WordsFault old.drawn same (lost fewer.words fewer.fewer none) tt;
        over = drawn_over fewer.words true replies.WordsFault old.drawn same (lost fewer.words fewer.fewer none);
      })

pub draw_under : (key : List ℕ) (k : ℕ) (old new : SessionState) (result : Result (List ℕ) WordsFault) (host : HostState) (random random' : WordsState) → IsSeated key old → old.broken ≡ false
    → DrawGoes result old new random random' → SeatAgrees key false (lines.Draw k) (draw_result result) (Some old) (Some new) host host random random'
draw_under key k old new result host random random' seated whole goes = by_case key k old seated whole new host random random' result goes goes
