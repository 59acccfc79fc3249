-- The line `move` over files in which nothing fails.
use Rattle.std.proofs.Common.{◌≡◌, true, false, List, [], ◌∷◌, ◌++◌, ℕ, refl, sym, ◌∙◌, ap, subst, Option, Some, None, Err}
use Rattle.std.specs.List.{AllByRecursion}
use Rattle.node_tree.specs.Sheet.{Sheet, Stands}
use Rattle.pf_io.specs.Answered.{IsAnswerOf}
use Rattle.pf_io.specs.Disk.{Name, reading, read_of}
use Rattle.pf_io.specs.Host.{Answer, LengthWas, HostState, contents}
use Rattle.pf_io.specs.Moments.{Honest, Ran, Ends, Where}
use Rattle.pf_io.specs.Names.{recovery_of}
use Rattle.pf_session.specs.Aside.{LeavesApart, KeepsApart, LeavesApartBoth, KeepsApartBoth}
use Rattle.pf_session.specs.Backing.{RestsOn}
use Rattle.pf_session.specs.Creating.{LooksUp}
use Rattle.pf_session.specs.Faults.{move_of_flush}
use Rattle.pf_session.specs.Moving.{MovesOn, IsMoved, Carries, UndamagedMove, IsUndamagedMove, IsKeptOn, renamed}
use Rattle.pf_session.specs.Reopening.{ReopensAs, ReadsAs, HasSheet}
use Rattle.pf_session.specs.State.{SessionState}
use Rattle.pf_session.specs.declared.fault.MoveFault.TheVariants as moves
use Rattle.pf_script.specs.BookActs.{Move, Act}
use Rattle.pf_script.specs.BookDebts.{seat_of}
use Rattle.pf_script.specs.Desk.{IsSeated, seat_on}
use Rattle.pf_script.specs.FileTurns.{answers_of, FilesAfter, ShowsOver}
use Rattle.pf_script.specs.Script.{OwnSeat, Own}
use Rattle.pf_script.specs.SeatSteps.{renamed as renamed_own}
use Rattle.pf_script.specs.Turns.{Failed, Blame, ByHost, ByDamage, FlushedToMove, as_it_was, was_changed, flushes}
use Rattle.pf_script.specs.declared.line.ScriptLine.TheVariants as lines
use Rattle.pf_script.proofs.CallKeeping.{at_both, on_to}
use Rattle.pf_script.proofs.Flushed.{host_blamed, fault_of}
use Rattle.pf_script.proofs.FlushLine.{resealed_own}
use Rattle.pf_script.proofs.MoveUnder.{FirstLeft, no_flush, one_flush, renamed_seat, moved_kept}
use Rattle.pf_script.proofs.OverFiles.{reopens_reads, has_reopens, left_flush, files_one, files_flush, files_join, shows_whole}
use Rattle.pf_script.proofs.OverGiven.{on_reading}
use Rattle.pf_script.proofs.SeatCalls.{seen_by, false_true}

-- the length that a move asked for is that of the files
pub looked_answers : (k : ℕ) (to : Name) (size : Option ℕ) (before after : HostState) (a : Honest) → before.honest ≡ Some a → LooksUp to size before after → LengthWas to size ∷ [] ≡ answers_of (reading a.now) (lines.Move k to)
looked_answers k to size before after a is looks =
    ap (λ (o : Option ℕ). LengthWas to o ∷ []) (on_reading (λ files. AllByRecursion (IsAnswerOf files) (LengthWas to size ∷ [])) before.honest a is looks.asked.answered.honest).0

-- Where the file stands for the session's sheet no node is damaged: what failed is a call of the host.
pub not_calm : (blame : Blame) (these : List Answer) (words : List (List ℕ)) (old : SessionState) (before : HostState) (a : Honest) → before.honest ≡ Some a → (base : Sheet) → IsKeptOn base old → Stands (contents (reading a.now old.name)) old.key base
    → UndamagedMove (Err (move_of_flush (fault_of blame))) old before → Failed (seen_by these words (host_blamed blame) false) false false → ⊥
not_calm ByHost these words old before a is base kept stands undamaged calm = false_true true refl calm.host
not_calm (ByDamage damage) these words old before a is base kept stands undamaged calm =
    on_reading (λ files. (sheet : Sheet) → IsKeptOn sheet old → Stands (contents (files old.name)) old.key sheet → IsUndamagedMove (Err (moves.Damaged damage))) before.honest a is undamaged base kept stands

module _ (key : List ℕ) (old : SessionState) (seated : IsSeated key old) (whole : old.broken ≡ false) (base : Sheet) (kept : IsKeptOn base old) where
  abbrev own : OwnSeat
  own = seat_on base old

  -- what comes before the move itself, of files that stand for the base
  pub record FirstOver (mid : SessionState) (words : List (List ℕ)) (m t : Honest) : Type 0 where
    pub sheets : List Sheet
    pub base_now : Sheet
    pub first : FlushedToMove own words sheets (seat_on base_now mid)
    pub files : FilesAfter (flushes own sheets) (reading m.now) (reading t.now)
    pub reopens : ReopensAs old.key base_now (reading t.now old.name) (reading t.now (recovery_of old.name))
    pub rests : RestsOn base_now mid
    pub key_is : mid.key ≡ old.key
    pub name_is : mid.name ≡ old.name
    pub whole_mid : mid.broken ≡ false

  pub first_over : (mid : SessionState) (words : List (List ℕ)) (start between : HostState) (m : Honest) → start.honest ≡ Some m → ReopensAs old.key base (reading m.now old.name) (reading m.now (recovery_of old.name)) → FirstLeft key old seated whole mid start between words
      → (t : Honest) × (between.honest ≡ Some t) × FirstOver mid words m t
  first_over mid words start between m is_m reopens (no_flush calm same stays none) = (
    m,
    ap (λ (h : HostState). h.honest) stays ∙ is_m,
    record {
      sheets = [];
      base_now = base;
      first = subst (λ (w : List (List ℕ)). FlushedToMove own w [] (seat_on base mid)) (sym none) (subst (λ (s : SessionState). FlushedToMove own [] [] (seat_on base s)) (sym same) (as_it_was calm));
      files = λ name. refl;
      reopens = reopens;
      rests = subst (λ (s : SessionState). RestsOn base s) (sym same) (kept.rests calm);
      key_is = ap (λ (s : SessionState). s.key) same;
      name_is = ap (λ (s : SessionState). s.name) same;
      whole_mid = ap (λ (s : SessionState). s.broken) same ∙ whole;
    },
  )
  first_over mid words start between m is_m reopens (one_flush changed seals same dirty aside reads) =
      let t = on_to (Ran (LeavesApart old.name) (KeepsApart old.name)) start.honest between.honest m is_m aside in
      let next = seals base reopens.stands.linked kept.backed in
      let has = at_both (Where (ReadsAs old.key old.name base) (Ends (λ _. HasSheet old.key old.name next.0))) start.honest between.honest m t.0 is_m t.1 next.2.2 (reopens_reads old.key old.name base m.now reopens) in
      let stands = has_reopens old.key old.name next.0 t.0.now has in (
        t.0,
        t.1,
        record {
          sheets = next.0 ∷ [];
          base_now = next.0;
          first = subst (λ (x : OwnSeat). FlushedToMove own words (next.0 ∷ []) x) (resealed_own base old mid words next.0 next.1 next.2.0 same dirty) (was_changed words next.0 changed next.1);
          files = files_flush own next.0 (reading m.now) (reading t.0.now) (left_flush old.key old.name next.0 m t.0 stands t.2);
          reopens = stands;
          rests = record { stands = next.2.0; clean = dirty };
          key_is = ap (λ (s : SessionState). s.key) same;
          name_is = ap (λ (s : SessionState). s.name) same;
          whole_mid = ap (λ (s : SessionState). s.broken) same ∙ whole;
        },
      )

  -- the move after that, on the sheet that the file then stands for
  module _ (to : Name) (mid new : SessionState) (words : List (List ℕ)) (m t b : Honest) (known : FirstOver mid words m t) (nonce : List ℕ) (between after : HostState) (is_t : between.honest ≡ Some t) (is_b : after.honest ≡ Some b) (absent : t.now to ≡ None)
      (carries : Carries true to nonce mid between after) (same : new ≡ renamed to nonce mid) where
    abbrev pub on : MovesOn true to nonce known.base_now mid between after
    on = carries.each known.base_now known.reopens.stands.linked known.rests

    abbrev pub act : Act
    act = record { deed = Move old.name (seat_of old.key to on.next); done = true }

    is_moved : IsMoved old.key old.name to on.next t.now b.now
    is_moved =
        subst (λ (k : List ℕ). IsMoved k old.name to on.next t.now b.now) known.key_is
        (subst (λ (n : Name). IsMoved mid.key n to on.next t.now b.now) known.name_is
        (at_both (Where (λ disk. ReadsAs mid.key mid.name known.base_now disk × (disk to ≡ None)) (Ends (IsMoved mid.key mid.name to on.next))) between.honest after.honest t b is_t is_b (on.stands refl) (
          subst (λ (k : List ℕ). ReadsAs k mid.name known.base_now t.now) (sym known.key_is)
              (subst (λ (n : Name). ReadsAs old.key n known.base_now t.now) (sym known.name_is) (reopens_reads old.key old.name known.base_now t.now known.reopens)),
          absent,
        )))

    reopens_now : ReopensAs old.key on.next (reading b.now to) (reading b.now (recovery_of to))
    reopens_now = has_reopens old.key to on.next b.now is_moved.1

    others : KeepsApartBoth old.name to t.now b.now
    others = subst (λ (n : Name). KeepsApartBoth n to t.now b.now) known.name_is (at_both (Ran (LeavesApartBoth mid.name to) (KeepsApartBoth mid.name to)) between.honest after.honest t b is_t is_b carries.aside).ends

    pub moved_files : FilesAfter (flushes own known.sheets ++ act ∷ []) (reading m.now) (reading b.now)
    moved_files =
        files_join (flushes own known.sheets) (act ∷ []) (reading m.now) (reading t.now) (reading b.now) known.files
        (files_one act (reading t.now) (reading b.now) refl
        (record { stands = reopens_now; away = ap read_of is_moved.0; others = λ other far. ap read_of (others other (record { of_old = far.1; of_new = far.0 })) }))

    pub moved_shows : ShowsOver (reading b.now) (Own (renamed_own (seat_on known.base_now mid) to on.next)) (Some new)
    moved_shows =
        subst (λ (x : OwnSeat). ShowsOver (reading b.now) (Own x) (Some new)) (sym (renamed_seat true to nonce known.base_now mid between after known.rests on new same))
        (shows_whole (reading b.now) on.next new old.key to (ap (λ (s : SessionState). s.key) same ∙ known.key_is) (ap (λ (s : SessionState). s.name) same) (ap (λ (s : SessionState). s.broken) same ∙ known.whole_mid) on.is_next.path_is reopens_now
        (moved_kept true to nonce known.base_now mid between after known.rests on new same))
