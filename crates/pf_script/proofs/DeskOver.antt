-- A line on one seat of a desk over files, as one on the desk.
use Rattle.std.proofs.Common.{◌≡◌, ◌≢◌, ◌⊎◌, inl, inr, ⊎_elim, Bool, false, List, ℕ, ◌<◌, refl, sym, ◌∙◌, ap, subst, Option, Some, None, length}
use Rattle.std.proofs.lemmas.List.{get_or-set_same, get_or-set_other, length-set}
use Rattle.pf_io.specs.Disk.{Name, Files, reading, read_of}
use Rattle.pf_io.specs.Host.{Answer, HostState, OnDisk}
use Rattle.pf_io.specs.Moments.{Honest, Ran}
use Rattle.pf_io.specs.Names.{IsTarget, recovery_of}
use Rattle.pf_session.specs.Aside.{Apart}
use Rattle.pf_session.specs.State.{SessionState}
use Rattle.pf_session.proofs.Apartness.{apart_name, apart_recovery}
use Rattle.pf_script.specs.BookActs.{Act}
use Rattle.pf_script.specs.BookDebts.{LeavesOthers, KeepsOthers}
use Rattle.pf_script.specs.Desk.{DeskState, session_at, IsDesk}
use Rattle.pf_script.specs.DeskSteps.{HasItsName, Concerns, ApartFrom, Spares}
use Rattle.pf_script.specs.FileTurns.{stands_on, answers_of, seen_over, FilesAfter, ShowsOver, IsStateOver, ReopensOpened, SeatOver, LineOver, SeatFiles, DeskOver, DeskFiles}
use Rattle.pf_script.specs.Rules.{NoneRefuses, rules}
use Rattle.pf_script.specs.Script.{Seat, Empty, ScriptState, seat_at, state_with, seat_of_line, name_of_line}
use Rattle.pf_script.specs.Turns.{Seen, Failed, SeatTurn, refused, accepted, host_failed, was_damaged, words_failed, on_seat}
use Rattle.pf_script.specs.Words.{SEATS}
use Rattle.pf_script.specs.declared.line.ScriptLine.{ScriptLine}
use Rattle.pf_script.specs.declared.line.ScriptLine.TheVariants as lines
use Rattle.pf_script.specs.declared.reply.Reply.{Reply}
use Rattle.pf_script.specs.declared.reply.Why.TheVariants as whys
use Rattle.pf_script.proofs.CallKeeping.{both_with, at_both}
use Rattle.pf_script.proofs.DeskLooks.{looks_says}
use Rattle.pf_script.proofs.Desking.{SaysOther, same_or_not, others_apart}
use Rattle.pf_script.proofs.Desking as desking
use Rattle.pf_script.proofs.OverFiles.{shows_still}
use Rattle.pf_script.proofs.Under.{looks_over}

the_same : (own name : Name) → Some own ≡ Some name → own ≡ name
the_same own name same = cc

-- the name that a line gives may be that of a protected file, where no rule refuses it
may_be : (key : List ℕ) (taken : Bool) (seat : Seat) (line : ScriptLine) (given : List Answer) (name : Name) → NoneRefuses (rules key taken seat line given) → name_of_line line ≡ Some name → ¬ (¬ (IsTarget name))
may_be key taken seat lines.Blank given name none gives bad = absurd (cc)
may_be key taken seat (lines.Create k own) given name none gives bad = none.1.1.0 whys.BadName (refl, λ target. bad (subst IsTarget (the_same own name gives) target))
may_be key taken seat (lines.Open k own) given name none gives bad = none.1.1.0 whys.BadName (refl, λ target. bad (subst IsTarget (the_same own name gives) target))
may_be key taken seat (lines.View k path) given name none gives bad = absurd (cc)
may_be key taken seat (lines.Read k at count) given name none gives bad = absurd (cc)
may_be key taken seat (lines.Write k at bytes) given name none gives bad = absurd (cc)
may_be key taken seat (lines.Fill k at count byte) given name none gives bad = absurd (cc)
may_be key taken seat (lines.Size k size) given name none gives bad = absurd (cc)
may_be key taken seat (lines.Flush k) given name none gives bad = absurd (cc)
may_be key taken seat (lines.Move k own) given name none gives bad = none.1.1.1.0 whys.BadName (refl, λ target. bad (subst IsTarget (the_same own name gives) target))
may_be key taken seat (lines.Draw k) given name none gives bad = absurd (cc)
may_be key taken seat (lines.Close k) given name none gives bad = absurd (cc)

-- The files are as before, or the line gives no name but one that may be a protected file's.
over_cases : (key : List ℕ) (taken : Bool) (seat : Seat) (line : ScriptLine) (words : List (List ℕ)) (reply : Reply) (acts : List Act) (after : Seat) (old new : Files) → SeatOver key taken seat line words reply acts after old new
    → ((name : Name) → new name ≡ old name) ⊎ ((name : Name) → name_of_line line ≡ Some name → ¬ (¬ (IsTarget name)))
over_cases key taken seat line words reply acts after old new over = by_turn over.turn
  where
    by_turn : SeatTurn (stands_on key old) key taken seat line (seen_over old line words) reply acts after → ((name : Name) → new name ≡ old name) ⊎ ((name : Name) → name_of_line line ≡ Some name → ¬ (¬ (IsTarget name)))
    by_turn (refused why first calm none said nothing stays) = inl (subst (λ (l : List Act). FilesAfter l old new) nothing over.files)
    by_turn (accepted none calm accepts) = inr (λ name gives. may_be key taken seat line (answers_of old line) name none gives)
    by_turn (host_failed none failed fails said) = inr (λ name gives. may_be key taken seat line (answers_of old line) name none gives)
    by_turn (was_damaged damage none calm fails said) = inr (λ name gives. may_be key taken seat line (answers_of old line) name none gives)
    by_turn (words_failed none failed loses said) = inr (λ name gives. may_be key taken seat line (answers_of old line) name none gives)

-- a recovery file's name is apart from another name that may be a protected file's
recovery_apart : (n name : Name) → IsTarget n → ¬ (¬ (IsTarget name)) → n ≢ name → Apart name (recovery_of n)
recovery_apart n name target may apart = record {
  here = λ same. may (λ of_name. (apart_recovery n name target of_name apart).here same);
  recovery = λ same. may (λ of_name. (apart_recovery n name target of_name apart).recovery same);
  side = λ same. may (λ of_name. (apart_recovery n name target of_name apart).side same);
  side_recovery = λ same. may (λ of_name. (apart_recovery n name target of_name apart).side_recovery same);
}

module _ (old : DeskState) (desk : IsDesk old) (k : ℕ) (below : k < SEATS) (taken : Bool) (line : ScriptLine) (names : seat_of_line line ≡ Some k) (says : SaysOther old k (name_of_line line) taken) (left : Option SessionState) where
  abbrev new : DeskState
  new = desking.new old desk k below taken line names says left

  abbrev concerned : Name → Type 0
  concerned name = Concerns taken line (session_at old k) name

  module _ (seen : Seen) (reply : Reply) (a b : Honest) (keeps : KeepsOthers (ApartFrom concerned) a.now b.now) (files : SeatFiles old.key taken line seen reply (session_at old k) left a b) where
    -- the names that the line is concerned with
    may_target : ((name : Name) → name_of_line line ≡ Some name → ¬ (¬ (IsTarget name))) → (name : Name) → concerned name → ¬ (¬ (IsTarget name))
    may_target may name (inl has) = by_old (session_at old k) refl has
      where
        by_old : (o : Option SessionState) → session_at old k ≡ o → HasItsName o name → ¬ (¬ (IsTarget name))
        by_old None was none = absurd none
        by_old (Some s) was same = λ bad. bad (subst IsTarget (sym same) (desk.seated k s was).of_script.is_target)
    may_target may name (inr gives) = may name gives.0

    -- the files of the other seats
    abbrev SameFile : SessionState → Type 0
    SameFile s = (reading b.now s.name ≡ reading a.now s.name) × (reading b.now (recovery_of s.name) ≡ reading a.now (recovery_of s.name))

    others_same : ((name : Name) → name_of_line line ≡ Some name → ¬ (¬ (IsTarget name))) → (j : ℕ) (s : SessionState) → j ≢ k → session_at old j ≡ Some s → SameFile s
    others_same may j s apart is = (
      ap read_of (keeps s.name (λ name with. apart_name s.name name target (not_it name with))),
      ap read_of (keeps (recovery_of s.name) (λ name with. recovery_apart s.name name target (may_target may name with) (not_it name with))),
    )
      where
        target : IsTarget s.name
        target = (desk.seated j s is).of_script.is_target

        not_it : (name : Name) → concerned name → s.name ≢ name
        not_it name with same = others_apart old desk k below taken line names says left j s apart is (subst concerned (sym same) with)

    module _ (state : ScriptState) (calm : Failed seen false false) (is_state : IsStateOver (reading a.now) state old) (reopens : ReopensOpened state.key (reading a.now) line reply) where
      goes : LineOver old.key taken line seen reply left (seat_at state k) a b
      goes = files (seat_at state k) calm (is_state.shows k) (subst (λ (x : List ℕ). ReopensOpened x (reading a.now) line reply) is_state.key_is reopens)

      abbrev then_state : ScriptState
      then_state = state_with state k goes.after goes.acts

      room : k < length state.seats
      room = subst (λ n. k < n) (sym is_state.eight) below

      over : SeatOver state.key taken (seat_at state k) line seen.words reply goes.acts goes.after (reading a.now) (reading b.now)
      over = subst (λ (x : List ℕ). SeatOver x taken (seat_at state k) line seen.words reply goes.acts goes.after (reading a.now) (reading b.now)) (sym is_state.key_is) goes.over

      same_file : (j : ℕ) (s : SessionState) → j ≢ k → session_at old j ≡ Some s → SameFile s
      same_file j s apart is = ⊎_elim (λ all. (all s.name, all (recovery_of s.name))) (λ may. others_same may j s apart is)
          (over_cases state.key taken (seat_at state k) line seen.words reply goes.acts goes.after (reading a.now) (reading b.now) over)

      on_it : (j : ℕ) → j ≡ k → ShowsOver (reading b.now) (seat_at then_state j) (session_at new j)
      on_it j same =
          subst (λ i. ShowsOver (reading b.now) (seat_at then_state i) (session_at new i)) (sym same)
          (subst (λ (x : Seat). ShowsOver (reading b.now) x (session_at new k)) (sym (get_or-set_same state.seats k goes.after Empty room))
          (subst (λ (o : Option SessionState). ShowsOver (reading b.now) goes.after o) (sym (desking.here old desk k below taken line names says left)) goes.shows))

      off_it : (j : ℕ) → j ≢ k → ShowsOver (reading b.now) (seat_at then_state j) (session_at new j)
      off_it j apart =
          subst (λ (x : Seat). ShowsOver (reading b.now) x (session_at new j)) (sym (get_or-set_other state.seats k j goes.after Empty apart))
          (subst (λ (o : Option SessionState). ShowsOver (reading b.now) (seat_at state j) o) (sym (desking.there old desk k below taken line names says left j apart))
          (shows_still (reading a.now) (reading b.now) (seat_at state j) (session_at old j) (λ s is whole. same_file j s apart is) (is_state.shows j)))

      desk_over : DeskOver line seen reply new state a b
      desk_over = record {
        acts = goes.acts;
        after = then_state;
        over = record {
          turn = on_seat k taken goes.after names (looks_says old state (λ j. looks_over (reading a.now) (seat_at state j) (session_at old j) (is_state.shows j)) k (name_of_line line) taken says) over.turn refl;
          files = over.files;
        };
        is_state = record {
          key_is = is_state.key_is;
          eight = length-set state.seats k goes.after ∙ is_state.eight;
          shows = λ j. ⊎_elim (λ same. on_it j same) (λ apart. off_it j apart) (same_or_not j k);
        };
      }

  pub desk_files : (seen : Seen) (reply : Reply) (before after : HostState) → Spares concerned before after → OnDisk before after (SeatFiles old.key taken line seen reply (session_at old k) left) → OnDisk before after (DeskFiles line seen reply old new)
  desk_files seen reply before after spares files =
      both_with (SeatFiles old.key taken line seen reply (session_at old k) left) (DeskFiles line seen reply old new) before.honest after.honest files
      (λ a b is is2 of_seat state calm is_state reopens.
      desk_over seen reply a b (at_both (Ran (LeavesOthers (ApartFrom concerned)) (KeepsOthers (ApartFrom concerned))) before.honest after.honest a b is is2 spares).ends of_seat state calm is_state reopens)
