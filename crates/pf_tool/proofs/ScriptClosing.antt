-- The closings behind a script, one after the other.
use Rattle.std.proofs.Common.{◌≡◌, ◌≢◌, ◌↔◌, inl, inr, ℕ, suc, List, [], ◌∷◌, ◌++◌, map, refl, sym, ◌∙◌, ap, subst, arith, Option, Some, None}
use Rattle.std.specs.List.{flat_map}
use Rattle.std.proofs.lemmas.Grind.{flat_map-append}
use Rattle.std.proofs.lemmas.List.{append-nil, map-append}
use Rattle.pf_io.specs.Host.{Answer}
use Rattle.pf_io.proofs.Writing.{wrote_both}
use Rattle.pf_script.specs.Desk.{session_at, Shows, no_file, whole_file, broken_file, IsStateOf}
use Rattle.pf_script.specs.DeskSteps.{EndGoes}
use Rattle.pf_script.specs.Script.{Seat, Empty, ScriptState, seat_at}
use Rattle.pf_script.specs.ScriptRuns.{Exchange}
use Rattle.pf_script.specs.declared.line.ScriptLine.TheVariants as lines
use Rattle.pf_script.specs.declared.reply.Reply.{Reply}
use Rattle.pf_script.proofs.Showing.{shows_none}
use Rattle.pf_session.specs.State.{SessionState}
use Rattle.node_tree.specs.Sheet.{Sheet}
use Rattle.pf_tool.specs.Replying.{closing_text, closed_text, closed_status, reply_status, first_of}
use Rattle.pf_tool.specs.Reports.{WroteAll}
use Rattle.pf_tool.specs.Scripting.{At, SeatClosed, Closings, none_closed, one_closed}
use Rattle.pf_tool.specs.Transcripts.{ClosesSeats, status_of}
use Rattle.pf_tool.proofs.RunStops.{wrote_nothing}
use Rattle.pf_tool.proofs.ScriptTurns.{follows_as, closes_as, closes_on}
use Rattle.pf_tool.proofs.ScriptSeen.{given_in, Spoke, spoke_none, spoke_on, one_told}
use Rattle.pf_tool.proofs.ScriptReading.{status_on}

abbrev pub closing_texts : List Exchange → List ℕ
closing_texts closed = flat_map (λ exchange. closing_text exchange.reply) closed

abbrev pub closing_statuses : List Exchange → List ℕ
closing_statuses closed = map (λ exchange. reply_status exchange.reply) closed

-- some seats were closed, from the k-th on
pub record SeatsTold (count k : ℕ) (closed : List Exchange) (old new : At) : Type 0 where
  pub spoke : Spoke closed old.world.host new.world.host old.world.random new.world.random
  pub follows : (state : ScriptState) → IsStateOf state old.desk → ClosesSeats count k state closed (λ left. IsStateOf left new.desk)
  pub input : new.world.input ≡ old.world.input
  pub log : new.world.log ≡ old.world.log

-- the k-th was
pub record OneClosed (k : ℕ) (reply : Option Reply) (old new : At) : Type 0 where
  pub closed : List Exchange
  pub told : SeatsTold 1 k closed old new
  pub text_is : closing_texts closed ≡ closed_text reply
  pub status_is : status_of (closing_statuses closed) ≡ closed_status reply

-- a seat that shows a session is not empty
not_empty : (sealed : List Sheet) (seat : Seat) (session : Option SessionState) → session ≢ None → Shows sealed seat session → seat ≢ Empty
not_empty sealed seat session some (no_file is none) empty = some none
not_empty sealed seat session some (whole_file sheet own whole among linked backed is of) empty = absurd (cc)
not_empty sealed seat session some (broken_file shown own broken as_broken key name is of) empty = absurd (cc)

pub one_closing : (k : ℕ) (reply : Option Reply) (old new : At) (before : List Answer) → old.world.host.given ≡ Some before → SeatClosed k reply old new → OneClosed k reply old new
one_closing k reply old new before was seat = by_reply reply seat.none seat.ends
  where
    by_reply : (reply : Option Reply) → (reply ≡ None) ↔ (session_at old.desk k ≡ None) → EndGoes k reply old.desk new.desk old.world.host new.world.host old.world.random new.world.random → OneClosed k reply old new
    by_reply None none ends = record {
      closed = [];
      told = record {
        spoke = spoke_none before old.world.host new.world.host old.world.random new.world.random was ends.1 ends.2;
        follows = λ state is. inl (
          shows_none state.sealed (seat_at state k) (subst (λ (s : Option SessionState). Shows state.sealed (seat_at state k) s) (none.0 refl) (is.shows k)),
          (refl, subst (IsStateOf state) (sym ends.0) is),
        );
        input = seat.input;
        log = seat.log;
      };
      text_is = refl;
      status_is = refl;
    }
    by_reply (Some said) none ends =
        let one = one_told (lines.Close k) said old.desk new.desk old.world.host new.world.host old.world.random new.world.random before was ends in
        record {
          closed = one.said ∷ [];
          told = record {
            spoke = one.spoke;
            follows = λ state is. inr (
              one.said,
              [],
              refl,
              not_empty state.sealed (seat_at state k) (session_at old.desk k) (λ e. let never : Some said ≡ None = none.1 e in absurd (cc)) (is.shows k),
              one.line_is,
              follows_as state (one.said ∷ []) (λ left is_left. (refl, is_left)) (one.follows state is),
            );
            input = seat.input;
            log = seat.log;
          };
          text_is = append-nil (closing_text one.said.reply) ∙ ap (λ (r : Reply). closing_text r) one.reply_is;
          status_is = ap (λ (r : Reply). reply_status r) one.reply_is;
        }

pub seats_on : (count : ℕ) (closed : List Exchange) (start mid now : At) (reply : Option Reply) → SeatsTold count 0 closed start mid → (one : OneClosed count reply mid now) → SeatsTold (suc count) 0 (closed ++ one.closed) start now
seats_on count closed start mid now reply so_far one = record {
  spoke = spoke_on closed one.closed start.world.host mid.world.host now.world.host start.world.random mid.world.random now.world.random so_far.spoke one.told.spoke;
  follows = λ state is. closes_on (λ left. IsStateOf left now.desk) count 0 count state closed one.closed (omega arith) (closes_as count 0 state closed (λ left is_left. one.told.follows left is_left) (so_far.follows state is));
  input = one.told.input ∙ so_far.input;
  log = one.told.log ∙ so_far.log;
}

-- so with the output and the status
pub record Closed (start : At) (count status : ℕ) (now : At) : Type 0 where
  pub closed : List Exchange
  pub seats : SeatsTold count 0 closed start now
  pub said : WroteAll (closing_texts closed) start.world.out now.world.out
  pub status_is : status ≡ status_of (closing_statuses closed)

pub closing_texts_on : (xs ys : List Exchange) → closing_texts (xs ++ ys) ≡ closing_texts xs ++ closing_texts ys
closing_texts_on xs ys = flat_map-append (λ exchange. closing_text exchange.reply) xs ys

-- what the closings came to, where the host tells its answers
pub seats_closed : (start : At) (count status : ℕ) (now : At) (before : List Answer) → start.world.host.given ≡ Some before → Closings start count status now → Closed start count status now
seats_closed start count status now before was (none_closed _ _ _ no_seat zero_is same) =
    subst (λ (n : ℕ). Closed start n status now) (sym no_seat) (subst (λ (n : At). Closed start 0 status n) (sym same) (record {
      closed = [];
      seats = record { spoke = spoke_none before start.world.host start.world.host start.world.random start.world.random was refl refl; follows = λ state is. (refl, is); input = refl; log = refl };
      said = wrote_nothing start.world.out start.world.out refl;
      status_is = zero_is;
    }))
seats_closed start count status now before was (one_closed seat _ earlier _ reply mid _ so_far goes wrote next is) =
    let old = seats_closed start seat earlier mid before was so_far in
    let one = one_closing seat reply mid now (old.seats.spoke.told.before ++ given_in old.closed) old.seats.spoke.told.now goes in
    subst (λ (n : ℕ). Closed start n status now) (sym next) (record {
      closed = old.closed ++ one.closed;
      seats = seats_on seat old.closed start mid now reply old.seats one;
      said = subst (λ (l : List ℕ). WroteAll l start.world.out now.world.out) (sym (closing_texts_on old.closed one.closed))
          (wrote_both (closing_texts old.closed) (closing_texts one.closed) start.world.out mid.world.out now.world.out old.said (subst (λ (l : List ℕ). WroteAll l mid.world.out now.world.out) (sym one.text_is) wrote));
      status_is = is ∙ ap (λ (n : ℕ). first_of n (closed_status reply)) old.status_is ∙ ap (λ (n : ℕ). first_of (status_of (closing_statuses old.closed)) n) (sym one.status_is)
          ∙ sym (status_on (closing_statuses old.closed) (closing_statuses one.closed)) ∙ ap (λ (l : List ℕ). status_of l) (sym (map-append (λ (exchange : Exchange). reply_status exchange.reply) old.closed one.closed));
    })
