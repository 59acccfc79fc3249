-- The counts of faults in a script, and the bytes that were read.
use Rattle.std.proofs.Common.{◌≡◌, ◌≢◌, ◌∙◌, inl, inr, ℕ, zero, suc, ◌+◌, ◌≤◌, List, refl, sym, ap, subst, arith, Option, Some, None, Ok, Err}
use Rattle.pf_io.specs.Counts.{counted, counted_times}
use Rattle.pf_io.specs.Host.{HostState}
use Rattle.pf_io.specs.Words.{WordsState}
use Rattle.pf_io.specs.declared.faults.Memory.{Memory}
use Rattle.pf_script.specs.DeskSteps.{CountsReply}
use Rattle.pf_script.specs.declared.next_line.NextLine.{NextLine}
use Rattle.pf_script.specs.declared.next_line.NextLine.TheVariants as nexts
use Rattle.pf_script.specs.declared.reply.Reply.{Reply}
use Rattle.pf_script.specs.declared.reply.Reply.TheVariants as replies
use Rattle.pf_tool.specs.Replying.{reply_status, spoken_status, closed_status, first_of}
use Rattle.pf_tool.specs.Scripting.{At, Nothing, Answers, LineAnswered, NextAnswered, Lines, none_yet, one_more, AllLines, SeatClosed, Closings, none_closed, one_closed}

-- How often the counts of the host and of the random words rose, and what that says of the first status that is not 0.
pub record Tally (status h0 h1 r0 r1 : ℕ) : Type 0 where
  pub hosts : ℕ
  pub words : ℕ
  pub host_is : h1 ≡ counted_times hosts h0
  pub words_is : r1 ≡ counted_times words r0
  pub calm : status ≡ 0 → (hosts ≡ 0) × (words ≡ 0)
  pub host_fault : status ≡ 4 → 1 ≤ hosts
  pub words_fault : status ≡ 6 → 1 ≤ words
  pub most : status ≤ 6
  pub no_usage : status ≢ 2
  pub no_want : status ≢ 5

times_on : (n m count : ℕ) → counted_times m (counted_times n count) ≡ counted_times (n + m) count
times_on zero m count = let e : m ≡ zero + m = omega arith in ap (λ (k : ℕ). counted_times k count) e
times_on (suc n) m count = let e : suc (n + m) ≡ suc n + m = omega arith in times_on n m (counted count) ∙ ap (λ (k : ℕ). counted_times k count) e

pub tally_none : (h r : ℕ) → Tally 0 h h r r
tally_none h r = record { hosts = 0; words = 0; host_is = refl; words_is = refl; calm = λ e. (refl, refl); host_fault = λ e. absurd (omega (arith, e)); words_fault = λ e. absurd (omega (arith, e)); most = omega arith; no_usage = λ e. omega (arith, e); no_want = λ e. omega (arith, e) }

tally_refused : (h0 h1 r0 r1 : ℕ) → h1 ≡ h0 → r1 ≡ r0 → Tally 3 h0 h1 r0 r1
tally_refused h0 h1 r0 r1 host words = record { hosts = 0; words = 0; host_is = host; words_is = words; calm = λ e. absurd (omega (arith, e)); host_fault = λ e. absurd (omega (arith, e)); words_fault = λ e. absurd (omega (arith, e)); most = omega arith; no_usage = λ e. omega (arith, e); no_want = λ e. omega (arith, e) }

pub tally_then : (s t h0 h1 h2 r0 r1 r2 : ℕ) → Tally s h0 h1 r0 r1 → Tally t h1 h2 r1 r2 → Tally (first_of s t) h0 h2 r0 r2
tally_then zero t h0 h1 h2 r0 r1 r2 one two =
    let none = one.calm refl in
    record {
      hosts = one.hosts + two.hosts;
      words = one.words + two.words;
      host_is = two.host_is ∙ ap (counted_times two.hosts) one.host_is ∙ times_on one.hosts two.hosts h0;
      words_is = two.words_is ∙ ap (counted_times two.words) one.words_is ∙ times_on one.words two.words r0;
      calm = λ e. let more = two.calm e in (omega (arith, none.0, more.0), omega (arith, none.1, more.1));
      host_fault = λ e. let more = two.host_fault e in omega (arith, more);
      words_fault = λ e. let more = two.words_fault e in omega (arith, more);
      most = two.most;
      no_usage = two.no_usage;
      no_want = two.no_want;
    }
tally_then (suc s) t h0 h1 h2 r0 r1 r2 one two = record {
  hosts = one.hosts + two.hosts;
  words = one.words + two.words;
  host_is = two.host_is ∙ ap (counted_times two.hosts) one.host_is ∙ times_on one.hosts two.hosts h0;
  words_is = two.words_is ∙ ap (counted_times two.words) one.words_is ∙ times_on one.words two.words r0;
  calm = λ e. absurd (omega (arith, e));
  host_fault = λ e. let more = one.host_fault e in omega (arith, more);
  words_fault = λ e. let more = one.words_fault e in omega (arith, more);
  most = one.most;
  no_usage = one.no_usage;
  no_want = one.no_want;
}

tally_damaged : (h0 h1 r0 r1 : ℕ) → h1 ≡ h0 → r1 ≡ r0 → Tally 1 h0 h1 r0 r1
tally_damaged h0 h1 r0 r1 host words = record { hosts = 0; words = 0; host_is = host; words_is = words; calm = λ e. absurd (omega (arith, e)); host_fault = λ e. absurd (omega (arith, e)); words_fault = λ e. absurd (omega (arith, e)); most = omega arith; no_usage = λ e. omega (arith, e); no_want = λ e. omega (arith, e) }

tally_calm : (h0 h1 r0 r1 : ℕ) → h1 ≡ h0 → r1 ≡ r0 → Tally 0 h0 h1 r0 r1
tally_calm h0 h1 r0 r1 host words = subst (λ (h : ℕ). Tally 0 h0 h r0 r1) (sym host) (subst (λ (r : ℕ). Tally 0 h0 h0 r0 r) (sym words) (tally_none h0 r0))

-- the counts of a reply
pub tally_reply : (reply : Reply) (before after : HostState) (random random' : WordsState) → CountsReply (Ok reply) before after random random' → Tally (reply_status reply) before.faults after.faults random.faults random'.faults
tally_reply replies.HostFault before after random random' counts = record { hosts = 1; words = 0; host_is = counts.0; words_is = counts.1; calm = λ e. absurd (omega (arith, e)); host_fault = λ e. omega arith; words_fault = λ e. absurd (omega (arith, e)); most = omega arith; no_usage = λ e. omega (arith, e); no_want = λ e. omega (arith, e) }
tally_reply replies.WordsFault before after random random' counts = record { hosts = 0; words = 1; host_is = counts.0; words_is = counts.1; calm = λ e. absurd (omega (arith, e)); host_fault = λ e. absurd (omega (arith, e)); words_fault = λ e. omega arith; most = omega arith; no_usage = λ e. omega (arith, e); no_want = λ e. omega (arith, e) }
tally_reply (replies.Refused why) before after random random' counts = tally_refused before.faults after.faults random.faults random'.faults counts.0 counts.1
tally_reply (replies.DamagedNode damage) before after random random' counts = tally_damaged before.faults after.faults random.faults random'.faults counts.0 counts.1
tally_reply (replies.DamagedChunk chunk) before after random random' counts = tally_damaged before.faults after.faults random.faults random'.faults counts.0 counts.1
tally_reply replies.None before after random random' counts = tally_calm before.faults after.faults random.faults random'.faults counts.0 counts.1
tally_reply replies.Created before after random random' counts = tally_calm before.faults after.faults random.faults random'.faults counts.0 counts.1
tally_reply (replies.Opened size) before after random random' counts = tally_calm before.faults after.faults random.faults random'.faults counts.0 counts.1
tally_reply (replies.Viewed size logged) before after random random' counts = tally_calm before.faults after.faults random.faults random'.faults counts.0 counts.1
tally_reply (replies.Given bytes) before after random random' counts = tally_calm before.faults after.faults random.faults random'.faults counts.0 counts.1
tally_reply (replies.Written count flushed) before after random random' counts = tally_calm before.faults after.faults random.faults random'.faults counts.0 counts.1
tally_reply (replies.Sized size) before after random random' counts = tally_calm before.faults after.faults random.faults random'.faults counts.0 counts.1
tally_reply replies.Flushed before after random random' counts = tally_calm before.faults after.faults random.faults random'.faults counts.0 counts.1
tally_reply replies.Moved before after random random' counts = tally_calm before.faults after.faults random.faults random'.faults counts.0 counts.1
tally_reply (replies.Drawn nonce) before after random random' counts = tally_calm before.faults after.faults random.faults random'.faults counts.0 counts.1
tally_reply (replies.Closed lost) before after random random' counts = tally_calm before.faults after.faults random.faults random'.faults counts.0 counts.1

abbrev pub TallyAt : ℕ → At → At → Type 0
TallyAt status old new = Tally status old.world.host.faults new.world.host.faults old.world.random.faults new.world.random.faults

pub tally_nothing : (old new : At) → Nothing old new → TallyAt 0 old new
tally_nothing old new nothing = tally_calm old.world.host.faults new.world.host.faults old.world.random.faults new.world.random.faults (ap (λ (h : HostState). h.faults) nothing.same_host) (ap (λ (r : WordsState). r.faults) nothing.same_random)

tally_no_line : (old new : At) → Nothing old new → TallyAt 3 old new
tally_no_line old new nothing = tally_refused old.world.host.faults new.world.host.faults old.world.random.faults new.world.random.faults (ap (λ (h : HostState). h.faults) nothing.same_host) (ap (λ (r : WordsState). r.faults) nothing.same_random)

tally_answers : (bytes : List ℕ) (reply : Option Reply) (old new : At) → Answers bytes (Ok reply) old new → TallyAt (spoken_status reply) old new
tally_answers bytes None old new is = tally_no_line old new is.1
tally_answers bytes (Some reply) old new is = tally_reply reply old.world.host new.world.host old.world.random new.world.random is.2.counts

pub tally_starved : (bytes : List ℕ) (none : Memory) (old new : At) → Answers bytes (Err none) old new → TallyAt 0 old new
tally_starved bytes none old new (inl nothing) = tally_nothing old new nothing
tally_starved bytes none old new (inr step) = let counts = step.2.counts in tally_calm old.world.host.faults new.world.host.faults old.world.random.faults new.world.random.faults counts.0 counts.1

tally_next : (next : NextLine) (bytes : List ℕ) (reply : Option Reply) (old new : At) → NextAnswered next bytes reply old new → TallyAt (spoken_status reply) old new
tally_next nexts.Whole bytes reply old new is = tally_answers bytes reply old new is
tally_next nexts.TooLong bytes reply old new is = subst (λ (r : Option Reply). TallyAt (spoken_status r) old new) (sym is.0) (tally_no_line old new is.1)
tally_next nexts.End bytes reply old new is = absurd is

pub tally_line : (reply : Option Reply) (old new : At) → LineAnswered reply old new → TallyAt (spoken_status reply) old new
tally_line reply old new line = tally_next line.next new.reader.line reply old new line.answers

pub tally_closed : (seat : ℕ) (reply : Option Reply) (old new : At) → SeatClosed seat reply old new → TallyAt (closed_status reply) old new
tally_closed seat None old new is = tally_calm old.world.host.faults new.world.host.faults old.world.random.faults new.world.random.faults (ap (λ (h : HostState). h.faults) is.ends.1) (ap (λ (r : WordsState). r.faults) is.ends.2)
tally_closed seat (Some reply) old new is = tally_reply reply old.world.host new.world.host old.world.random new.world.random is.ends.counts

abbrev h_of : At → ℕ
h_of place = place.world.host.faults

abbrev r_of : At → ℕ
r_of place = place.world.random.faults

pub tally_both : (s t : ℕ) (a b c : At) → TallyAt s a b → TallyAt t b c → TallyAt (first_of s t) a c
tally_both s t a b c one two = tally_then s t (h_of a) (h_of b) (h_of c) (r_of a) (r_of b) (r_of c) one two

pub tally_lines : (start : At) (status : ℕ) (now : At) → Lines start status now → TallyAt status start now
tally_lines start _ _ (none_yet status now none same) = subst (λ (s : ℕ). TallyAt s start now) (sym none) (subst (λ (a : At). TallyAt 0 start a) (sym same) (tally_none (h_of start) (r_of start)))
tally_lines start _ _ (one_more earlier status reply mid now lines goes is) = subst (λ (s : ℕ). TallyAt s start now) (sym is) (tally_both earlier (spoken_status reply) start mid now (tally_lines start earlier mid lines) (tally_line reply mid now goes.answered))

first_none : (s : ℕ) → first_of s 0 ≡ s
first_none zero = refl
first_none (suc s) = refl

-- what changes nothing keeps the status
pub tally_still : (s : ℕ) (a b c : At) → TallyAt s a b → TallyAt 0 b c → TallyAt s a c
tally_still s a b c one two = subst (λ (n : ℕ). TallyAt n a c) (first_none s) (tally_both s 0 a b c one two)

pub tally_all : (start : At) (status : ℕ) (now : At) → AllLines start status now → TallyAt status start now
tally_all start status now all = tally_still status start all.last now (tally_lines start status all.last all.lines) (tally_nothing all.last now all.ends.nothing)

pub tally_closings : (start : At) (count status : ℕ) (now : At) → Closings start count status now → TallyAt status start now
tally_closings start _ _ _ (none_closed count status now nil none same) = subst (λ (s : ℕ). TallyAt s start now) (sym none) (subst (λ (a : At). TallyAt 0 start a) (sym same) (tally_none (h_of start) (r_of start)))
tally_closings start _ _ _ (one_closed seat count earlier status reply mid now closings closed wrote next is) =
    subst (λ (s : ℕ). TallyAt s start now) (sym is) (tally_both earlier (closed_status reply) start mid now (tally_closings start seat earlier mid closings) (tally_closed seat reply mid now closed))
