-- A line in which nothing failed has the same turn by the answers of the files.
use Rattle.std.proofs.Common.{◌≡◌, inl, inr, Bool, true, false, List, [], ◌∷◌, ◌++◌, ℕ, ap, subst, Option, Some, arith}
use Rattle.std.specs.Prelude.{Contains, IfSome, option_map}
use Rattle.pf_io.specs.Disk.{Name, Disk, Files, reading}
use Rattle.pf_io.specs.Host.{Answer, LengthWas, Gave}
use Rattle.pf_io.specs.Moments.{Honest}
use Rattle.pf_session.specs.Carries.{IsLast}
use Rattle.pf_script.specs.BookActs.{Act}
use Rattle.pf_script.specs.BookDebts.{Unchanged}
use Rattle.pf_script.specs.FileTurns.{stands_on, answers_of, seen_over, FilesAfter, SeatOver}
use Rattle.pf_script.specs.Rules.{IsFirst, rules}
use Rattle.pf_script.specs.Script.{Seat}
use Rattle.pf_script.specs.Turns.{Failed, SeatTurn}
use Rattle.pf_script.specs.declared.line.ScriptLine.{ScriptLine}
use Rattle.pf_script.specs.declared.line.ScriptLine.TheVariants as lines
use Rattle.pf_script.specs.declared.reply.Reply.{Reply}
use Rattle.pf_script.specs.declared.reply.Why.{Why}

not_both : true ≡ false → ⊥
not_both same = absurd (cc)

pub none_contained : {answer : Answer} → Contains [] answer → ⊥
none_contained is = absurd (omega (arith, is.1))

pub none_last : (name : Name) (block : List ℕ) → IsLast name [] block → ⊥
none_last name block last = by_front last.before last.split
  where
    by_front : (before : List Answer) → [] ≡ before ++ Gave name 0 4096 block ∷ last.after → ⊥
    by_front [] same = absurd (cc)
    by_front (first ∷ before) same = absurd (cc)

none_is : (name : Name) (size : ℕ) (others : List Answer) → [] ≡ LengthWas name (Some size) ∷ others → ⊥
none_is name size others same = absurd (cc)

-- no count rose, where one did
pub no_host_fault : {given : List Answer} {words : List (List ℕ)} {of_words : Bool} → Failed (record { given = given; words = words; host_failed = true; words_failed = of_words }) false false → ⊥
no_host_fault calm = not_both calm.host

pub no_words_fault : {given : List Answer} {words : List (List ℕ)} {of_host : Bool} → Failed (record { given = given; words = words; host_failed = of_host; words_failed = true }) false false → ⊥
no_words_fault calm = not_both calm.random

-- what is refused before anything was asked is refused whatever the answers are
pub first_unasked : (key : List ℕ) (taken : Bool) (seat : Seat) (line : ScriptLine) (these : List Answer) (why : Why) → IsFirst (rules key taken seat line []) why → IsFirst (rules key taken seat line these) why
first_unasked key taken seat lines.Blank these why first = first
first_unasked key taken seat (lines.Create k name) these why (inl busy) = inl busy
first_unasked key taken seat (lines.Create k name) these why (inr (free, inl busy)) = inr (free, inl busy)
first_unasked key taken seat (lines.Create k name) these why (inr (free, inr (apart, inl bad))) = inr (free, inr (apart, inl bad))
first_unasked key taken seat (lines.Create k name) these why (inr (free, inr (apart, inr (good, inl there)))) = absurd (none_contained there.1.1)
first_unasked key taken seat (lines.Create k name) these why (inr (free, inr (apart, inr (good, inr (absent, none))))) = absurd none
first_unasked key taken seat (lines.Open k name) these why (inl busy) = inl busy
first_unasked key taken seat (lines.Open k name) these why (inr (free, inl busy)) = inr (free, inl busy)
first_unasked key taken seat (lines.Open k name) these why (inr (free, inr (apart, inl bad))) = inr (free, inr (apart, inl bad))
first_unasked key taken seat (lines.Open k name) these why (inr (free, inr (apart, inr (good, inl absent)))) = absurd (none_contained absent.1)
first_unasked key taken seat (lines.Open k name) these why (inr (free, inr (apart, inr (good, inr (there, inl plain))))) = absurd (none_last name plain.1.0 plain.1.1)
first_unasked key taken seat (lines.Open k name) these why (inr (free, inr (apart, inr (good, inr (there, inr (protected, inl flag)))))) = absurd (none_last name flag.1.0 flag.1.1)
first_unasked key taken seat (lines.Open k name) these why (inr (free, inr (apart, inr (good, inr (there, inr (protected, inr (built, inl version))))))) = absurd (none_last name version.0 version.3)
first_unasked key taken seat (lines.Open k name) these why (inr (free, inr (apart, inr (good, inr (there, inr (protected, inr (built, inr (same, inl path)))))))) = absurd (none_last name path.0 path.2)
first_unasked key taken seat (lines.Open k name) these why (inr (free, inr (apart, inr (good, inr (there, inr (protected, inr (built, inr (same, inr (right, none))))))))) = absurd none
first_unasked key taken seat (lines.View k path) these why first = first
first_unasked key taken seat (lines.Read k at count) these why first = first
first_unasked key taken seat (lines.Write k at bytes) these why first = first
first_unasked key taken seat (lines.Fill k at count byte) these why first = first
first_unasked key taken seat (lines.Size k size) these why first = first
first_unasked key taken seat (lines.Flush k) these why first = first
first_unasked key taken seat (lines.Move k name) these why (inl empty) = inl empty
first_unasked key taken seat (lines.Move k name) these why (inr (seated, inl broken)) = inr (seated, inl broken)
first_unasked key taken seat (lines.Move k name) these why (inr (seated, inr (whole, inl busy))) = inr (seated, inr (whole, inl busy))
first_unasked key taken seat (lines.Move k name) these why (inr (seated, inr (whole, inr (apart, inl bad)))) = inr (seated, inr (whole, inr (apart, inl bad)))
first_unasked key taken seat (lines.Move k name) these why (inr (seated, inr (whole, inr (apart, inr (good, inl there))))) = absurd (none_is name there.1.0 there.1.1 there.1.2)
first_unasked key taken seat (lines.Move k name) these why (inr (seated, inr (whole, inr (apart, inr (good, inr (absent, none)))))) = absurd none
first_unasked key taken seat (lines.Draw k) these why first = first
first_unasked key taken seat (lines.Close k) these why first = first

-- What holds of the files of an honest host holds of what its disk reads.
pub on_reading : (P : Files → Type 0) (o : Option Honest) (a : Honest) → o ≡ Some a → IfSome (option_map (λ host. reading host.now) o) P → P (reading a.now)
on_reading P o a is holds = subst (λ (q : Option Honest). IfSome (option_map (λ host. reading host.now) q) P) is holds

-- the same where the answers are those of the files
pub same_over : (key : List ℕ) (files : Files) (taken : Bool) (seat : Seat) (line : ScriptLine) (these : List Answer) (words : List (List ℕ)) (reply : Reply) (acts : List Act) (after : Seat) → these ≡ answers_of files line
    → SeatTurn (stands_on key files) key taken seat line (record { given = these; words = words; host_failed = false; words_failed = false }) reply acts after
    → SeatTurn (stands_on key files) key taken seat line (seen_over files line words) reply acts after
same_over key files taken seat line these words reply acts after same turn =
    subst (λ (l : List Answer). SeatTurn (stands_on key files) key taken seat line (record { given = l; words = words; host_failed = false; words_failed = false }) reply acts after) same turn

-- Without acts the files are as before.
pub same_files : (a b : Honest) → Unchanged a b → FilesAfter [] (reading a.now) (reading b.now)
same_files a b only name = ap (λ (d : Disk). reading d name) only.ends

-- the same of a line that did nothing
pub over_idle : (key : List ℕ) (taken : Bool) (seat : Seat) (line : ScriptLine) (words : List (List ℕ)) (reply : Reply) (after : Seat) (a b : Honest) → Unchanged a b
    → SeatTurn (stands_on key (reading a.now)) key taken seat line (seen_over (reading a.now) line words) reply [] after → SeatOver key taken seat line words reply [] after (reading a.now) (reading b.now)
over_idle key taken seat line words reply after a b only turn = record { turn = turn; files = same_files a b only }
