-- A line over alike files and on alike seats, with the same words to come, is answered alike.
use Rattle.std.proofs.Common.{◌≡◌, ℕ, Bool, List, [], ◌++◌, length, refl, ap, ◌∙◌, sym, subst, IfSome}
use Rattle.node_layout.specs.declared.damage.Damage.{Damage}
use Rattle.pf_io.specs.Disk.{Name, Files}
use Rattle.pf_io.specs.Names.{recovery_of}
use Rattle.pf_script.specs.BookActs.{Act}
use Rattle.pf_script.specs.BookDebts.{seat_of}
use Rattle.pf_script.specs.FileTurns.{stands_on, opening_answers, answers_of, seen_over}
use Rattle.pf_script.specs.Rules.{NoneRefuses, rules}
use Rattle.pf_script.specs.Script.{Seat, Empty, name_of_line}
use Rattle.pf_script.specs.Turns.{Accepts, opened, changed, new_seat, IsOpeningDamage}
use Rattle.pf_script.specs.declared.line.ScriptLine.{ScriptLine}
use Rattle.pf_script.specs.declared.line.ScriptLine.TheVariants as lines
use Rattle.pf_script.specs.declared.reply.Reply.{Reply}
use Rattle.pf_script.specs.declared.reply.Reply.TheVariants as replies
use Rattle.pf_script.specs.declared.reply.Why.TheVariants as whys
use Rattle.pf_script.proofs.OneRules.{first_one, first_refuses, refuses_first}
use Rattle.pf_script.proofs.OneLike.{LikeSeat, both_empty, both_own, openings, LikeActs, LikeFile, LikeFiles, MayBeTarget, LikeEnds}
use Rattle.pf_script.proofs.OneAccepts.{new_like, create_one, read_one, write_one, fill_one, size_one, flush_one, move_one, draw_one, close_one}
use Rattle.pf_script.proofs.OneFiles.{sheet_one, damage_alike, open_undamaged, like_sym}
use Rattle.pf_script.proofs.OneLines.{rules_alike}
use Rattle.pf_script.proofs.OneEnds.{LineEnds, by_rule, by_line, by_damage}

-- where no rule refuses an opening, its name may be one of a protected file
may_open : (key : List ℕ) (taken : Bool) (files : Files) (seat : Seat) (k : ℕ) (name : Name) → NoneRefuses (rules key taken seat (lines.Open k name) (opening_answers name (files name))) → MayBeTarget name
may_open key taken files seat k name none other = none.1.1.0 whys.BadName (refl, other)

module _ (key : List ℕ) (key_length : length key ≡ 16) (files others : Files) (like : LikeFiles key files others) (words takes left rest : List (List ℕ)) (stream : words ++ left ≡ takes ++ rest) where
  open_one : (k : ℕ) (name : Name) (seat more : Seat) (reply say : Reply) (acts deeds : List Act) (after ends : Seat) → LikeFile key name (files name) (others name)
      → Accepts (stands_on key files) key (seen_over files (lines.Open k name) words) seat (lines.Open k name) reply acts after → Accepts (stands_on key others) key (seen_over others (lines.Open k name) takes) more (lines.Open k name) say deeds ends
      → LikeEnds key reply say words takes acts deeds after ends
  open_one k name seat more reply say acts deeds after ends file (opened j n sheet stands path none) (opened i m base stands' path' none') =
      let sheets = sheet_one key name (files name) (others name) (files (recovery_of name)) (others (recovery_of name)) sheet base key_length file stands stands' path path' in
      record {
        reply_is = ap (λ (c : List ℕ). replies.Opened (length c)) sheets.content;
        words_are = none ∙ sym none';
        acts_are = (openings (seat_of key name sheet) (seat_of key name base) (record { key_is = refl; other_key = refl; name = refl; sheet = sheets }), tt);
        seat_is = both_own (new_seat key name sheet) (new_seat key name base) (new_like key name sheet base sheets);
      }
  open_one k name seat more reply say acts deeds after ends file (changed own a l r steps sheets asks makes replied) second = absurd asks
  open_one k name seat more reply say acts deeds after ends file first (changed own a l r steps sheets asks makes replied) = absurd asks

  view_none : (k : ℕ) (path : List ℕ) (seat : Seat) (reply : Reply) (acts : List Act) (after : Seat) → Accepts (stands_on key files) key (seen_over files (lines.View k path) words) seat (lines.View k path) reply acts after → ⊥
  view_none k path seat reply acts after (changed own a l r steps sheets asks makes replied) = asks

  blank_none : (seat : Seat) (reply : Reply) (acts : List Act) (after : Seat) → Accepts (stands_on key files) key (seen_over files lines.Blank words) seat lines.Blank reply acts after → ⊥
  blank_none seat reply acts after (changed own a l r steps sheets asks makes replied) = asks

  accept_one : (line : ScriptLine) (taken : Bool) (seat more : Seat) (reply say : Reply) (acts deeds : List Act) (after ends : Seat) → LikeSeat key seat more → NoneRefuses (rules key taken seat line (answers_of files line))
      → Accepts (stands_on key files) key (seen_over files line words) seat line reply acts after → Accepts (stands_on key others) key (seen_over others line takes) more line say deeds ends → LikeEnds key reply say words takes acts deeds after ends
  accept_one lines.Blank taken seat more reply say acts deeds after ends seats none first second = absurd (blank_none seat reply acts after first)
  accept_one (lines.Create k name) taken seat more reply say acts deeds after ends seats none first second =
      create_one (stands_on key files) (stands_on key others) key (seen_over files (lines.Create k name) words) (seen_over others (lines.Create k name) takes) left rest stream k name seat more reply say acts deeds after ends first second
  accept_one (lines.Open k name) taken seat more reply say acts deeds after ends seats none first second = open_one k name seat more reply say acts deeds after ends (like name (may_open key taken files seat k name none)) first second
  accept_one (lines.View k path) taken seat more reply say acts deeds after ends seats none first second = absurd (view_none k path seat reply acts after first)
  accept_one (lines.Read k at count) taken seat more reply say acts deeds after ends seats none first second =
      read_one (stands_on key files) (stands_on key others) key (seen_over files (lines.Read k at count) words) (seen_over others (lines.Read k at count) takes) left rest stream k at count seat more reply say acts deeds after ends seats first second
  accept_one (lines.Write k at bytes) taken seat more reply say acts deeds after ends seats none first second =
      write_one (stands_on key files) (stands_on key others) key (seen_over files (lines.Write k at bytes) words) (seen_over others (lines.Write k at bytes) takes) left rest stream k at bytes seat more reply say acts deeds after ends seats first second
  accept_one (lines.Fill k at count byte) taken seat more reply say acts deeds after ends seats none first second =
      fill_one (stands_on key files) (stands_on key others) key (seen_over files (lines.Fill k at count byte) words) (seen_over others (lines.Fill k at count byte) takes) left rest stream k at count byte seat more reply say acts deeds after ends seats first second
  accept_one (lines.Size k n) taken seat more reply say acts deeds after ends seats none first second =
      size_one (stands_on key files) (stands_on key others) key (seen_over files (lines.Size k n) words) (seen_over others (lines.Size k n) takes) left rest stream k n seat more reply say acts deeds after ends seats first second
  accept_one (lines.Flush k) taken seat more reply say acts deeds after ends seats none first second =
      flush_one (stands_on key files) (stands_on key others) key (seen_over files (lines.Flush k) words) (seen_over others (lines.Flush k) takes) left rest stream k seat more reply say acts deeds after ends seats first second
  accept_one (lines.Move k name) taken seat more reply say acts deeds after ends seats none first second =
      move_one (stands_on key files) (stands_on key others) key (seen_over files (lines.Move k name) words) (seen_over others (lines.Move k name) takes) left rest stream k name seat more reply say acts deeds after ends seats first second
  accept_one (lines.Draw k) taken seat more reply say acts deeds after ends seats none first second =
      draw_one (stands_on key files) (stands_on key others) key (seen_over files (lines.Draw k) words) (seen_over others (lines.Draw k) takes) left rest stream k seat more reply say acts deeds after ends seats first second
  accept_one (lines.Close k) taken seat more reply say acts deeds after ends seats none first second =
      close_one (stands_on key files) (stands_on key others) key (seen_over files (lines.Close k) words) (seen_over others (lines.Close k) takes) left rest stream k seat more reply say acts deeds after ends seats first second

  -- an accepted opening and a damaged one
  open_or_damage : (k : ℕ) (name : Name) (seat : Seat) (reply : Reply) (acts : List Act) (after : Seat) (damage : Damage) → LikeFile key name (files name) (others name)
      → Accepts (stands_on key files) key (seen_over files (lines.Open k name) words) seat (lines.Open k name) reply acts after → IsOpeningDamage key name (opening_answers name (others name)) damage → ⊥
  open_or_damage k name seat reply acts after damage file (opened j n sheet stands path none) damaged = open_undamaged key key_length name (files name) (others name) (files (recovery_of name)) damage sheet file stands damaged
  open_or_damage k name seat reply acts after damage file (changed own a l r steps sheets asks makes replied) damaged = asks

  damage_or_open : (k : ℕ) (name : Name) (seat : Seat) (reply : Reply) (acts : List Act) (after : Seat) (damage : Damage) → LikeFile key name (files name) (others name)
      → IsOpeningDamage key name (opening_answers name (files name)) damage → Accepts (stands_on key others) key (seen_over others (lines.Open k name) takes) seat (lines.Open k name) reply acts after → ⊥
  damage_or_open k name seat reply acts after damage file damaged (opened j n sheet stands path none) =
      open_undamaged key key_length name (others name) (files name) (others (recovery_of name)) damage sheet (like_sym key name (files name) (others name) file) stands damaged
  damage_or_open k name seat reply acts after damage file damaged (changed own a l r steps sheets asks makes replied) = asks

  no_acts : (acts deeds : List Act) → acts ≡ [] → deeds ≡ [] → LikeActs key acts deeds
  no_acts acts deeds is none = subst (λ (l : List Act). LikeActs key l deeds) (sym is) (subst (λ (l : List Act). LikeActs key [] l) (sym none) tt)

  same_seats : (seat more after ends : Seat) → after ≡ seat → ends ≡ more → LikeSeat key seat more → LikeSeat key after ends
  same_seats seat more after ends is is' like = subst (λ (s : Seat). LikeSeat key s ends) (sym is) (subst (λ (s : Seat). LikeSeat key seat s) (sym is') like)

  pub ends_one : (line : ScriptLine) (taken other : Bool) (seat more : Seat) (reply say : Reply) (acts deeds : List Act) (after ends : Seat) → LikeSeat key seat more → IfSome (name_of_line line) (λ name. taken ≡ other)
      → LineEnds key taken files words seat line reply acts after → LineEnds key other others takes more line say deeds ends → LikeEnds key reply say words takes acts deeds after ends
  ends_one line taken other seat more reply say acts deeds after ends seats same (by_rule s a l r d why first none is no_act stays) (by_rule s' a' l' r' d' why' first' none' is' no_act' stays') =
      let one = first_one (rules key taken seat line (answers_of files line)) (rules key other more line (answers_of others line)) why why' (rules_alike key key_length files others like taken other seat more seats line same) first first' in
      record { reply_is = is ∙ ap replies.Refused one ∙ sym is'; words_are = none ∙ sym none'; acts_are = no_acts acts deeds no_act no_act'; seat_is = same_seats seat more after ends stays stays' seats }
  ends_one line taken other seat more reply say acts deeds after ends seats same (by_rule s a l r d why first none is no_act stays) (by_line s' a' l' r' d' free accepts) =
      absurd (first_refuses (rules key taken seat line (answers_of files line)) (rules key other more line (answers_of others line)) why (rules_alike key key_length files others like taken other seat more seats line same) first free)
  ends_one line taken other seat more reply say acts deeds after ends seats same (by_rule s a l r d why first none is no_act stays) (by_damage k name r' damage free damaged none' is') =
      absurd (first_refuses (rules key taken seat (lines.Open k name) (answers_of files (lines.Open k name))) (rules key other Empty (lines.Open k name) (answers_of others (lines.Open k name))) why
      (rules_alike key key_length files others like taken other seat Empty seats (lines.Open k name) same) first free)
  ends_one line taken other seat more reply say acts deeds after ends seats same (by_line s a l r d free accepts) (by_rule s' a' l' r' d' why' first' none' is' no_act' stays') =
      absurd (refuses_first (rules key taken seat line (answers_of files line)) (rules key other more line (answers_of others line)) why' (rules_alike key key_length files others like taken other seat more seats line same) free first')
  ends_one line taken other seat more reply say acts deeds after ends seats same (by_line s a l r d free accepts) (by_line s' a' l' r' d' free' accepts') = accept_one line taken seat more reply say acts deeds after ends seats free accepts accepts'
  ends_one line taken other seat more reply say acts deeds after ends seats same (by_line s a l r d free accepts) (by_damage k name r' damage free' damaged none' is') =
      absurd (open_or_damage k name seat reply acts after damage (like name (may_open key taken files seat k name free)) accepts damaged)
  ends_one line taken other seat more reply say acts deeds after ends seats same (by_damage k name r damage free damaged none is) (by_rule s' a' l' r' d' why' first' none' is' no_act' stays') =
      absurd (refuses_first (rules key taken Empty (lines.Open k name) (answers_of files (lines.Open k name))) (rules key other more (lines.Open k name) (answers_of others (lines.Open k name))) why'
      (rules_alike key key_length files others like taken other Empty more seats (lines.Open k name) same) free first')
  ends_one line taken other seat more reply say acts deeds after ends seats same (by_damage k name r damage free damaged none is) (by_line s' a' l' r' d' free' accepts') =
      absurd (damage_or_open k name more say deeds ends damage (like name (may_open key taken files Empty k name free)) damaged accepts')
  ends_one line taken other seat more reply say acts deeds after ends seats same (by_damage k name r damage free damaged none is) (by_damage k' name' r' damage' free' damaged' none' is') =
      let one = damage_alike key key_length name (files name) (others name) damage damage' (like name (may_open key taken files Empty k name free)) damaged damaged' in
      record { reply_is = is ∙ ap replies.DamagedNode one ∙ sym is'; words_are = none ∙ sym none'; acts_are = tt; seat_is = both_empty }
