-- What was seen in several steps of a script, one after the other.
use Rattle.std.proofs.Common.{◌≡◌, ℕ, Bool, true, false, cond, List, [], ◌∷◌, ◌++◌, map, refl, sym, ◌∙◌, ap, subst, append_assoc, Option, Some, None, Ok}
use Rattle.std.specs.List.{flat_map}
use Rattle.std.proofs.lemmas.Grind.{flat_map-append}
use Rattle.std.proofs.lemmas.List.{append-nil}
use Rattle.pf_io.specs.Answered.{WereTold}
use Rattle.pf_io.specs.Counts.{counted}
use Rattle.pf_io.specs.Host.{Answer, HostState, Both, IsMore, since}
use Rattle.pf_io.specs.Words.{WordsState}
use Rattle.pf_io.proofs.Telling.{both_same, both_then, both_weaker}
use Rattle.pf_script.specs.Desk.{DeskState, IsStateOf}
use Rattle.pf_script.specs.DeskSteps.{CountsFault, Asks, DeskGoes}
use Rattle.pf_script.specs.Script.{ScriptState}
use Rattle.pf_script.specs.ScriptRuns.{Exchange, Follows}
use Rattle.pf_script.specs.declared.line.ScriptLine.{ScriptLine}
use Rattle.pf_script.specs.declared.reply.Reply.{Reply}
use Rattle.pf_tool.specs.Happened.{IsTaken}
use Rattle.pf_tool.specs.Transcripts.{counts_after}
use Rattle.pf_tool.proofs.ScriptTurns.{exchange, turn_follows}

abbrev pub given_in : List Exchange → List Answer
given_in exchanges = flat_map (λ exchange. exchange.seen.given) exchanges

abbrev pub words_seen : List Exchange → List (List ℕ)
words_seen exchanges = flat_map (λ exchange. exchange.seen.words) exchanges

abbrev pub host_flags : List Exchange → List Bool
host_flags exchanges = map (λ exchange. exchange.seen.host_failed) exchanges

abbrev pub words_flags : List Exchange → List Bool
words_flags exchanges = map (λ exchange. exchange.seen.words_failed) exchanges

-- several exchanges, on a host that tells its answers
pub record Spoke (xs : List Exchange) (before after : HostState) (random random' : WordsState) : Type 0 where
  pub told : WereTold (given_in xs) before after
  pub words : Both random.left random'.left (IsTaken (words_seen xs))
  pub host_counts : after.faults ≡ counts_after (host_flags xs) before.faults
  pub words_counts : random'.faults ≡ counts_after (words_flags xs) random.faults

pub counts_on : (f : Exchange → Bool) (xs ys : List Exchange) (count : ℕ) → counts_after (map f (xs ++ ys)) count ≡ counts_after (map f ys) (counts_after (map f xs) count)
counts_on f [] ys count = refl
counts_on f (x ∷ xs) ys count = counts_on f xs ys (cond (f x) (counted count) count)

same_answers : (a b : List Answer) → Some a ≡ Some b → a ≡ b
same_answers a b is = cc

pub told_more : (these those : List Answer) (old mid new : HostState) → WereTold these old mid → WereTold those mid new → WereTold (these ++ those) old new
told_more these those old mid new first second =
    let same : second.before ≡ first.before ++ these = same_answers second.before (first.before ++ these) (sym second.was ∙ first.now) in
    record { before = first.before; was = first.was; now = second.now ∙ ap (λ (l : List Answer). Some (l ++ those)) same ∙ ap (λ (l : List Answer). Some l) (append_assoc first.before these those) }

pub told_nothing : (before : List Answer) (old new : HostState) → old.given ≡ Some before → new.given ≡ old.given → WereTold [] old new
told_nothing before old new was same = record { before = before; was = was; now = same ∙ was ∙ ap (λ (l : List Answer). Some l) (sym (append-nil before)) }

pub spoke_none : (before : List Answer) (h0 h1 : HostState) (r0 r1 : WordsState) → h0.given ≡ Some before → h1 ≡ h0 → r1 ≡ r0 → Spoke [] h0 h1 r0 r1
spoke_none before h0 h1 r0 r1 was host random = record {
  told = told_nothing before h0 h1 was (ap (λ (h : HostState). h.given) host);
  words = both_same (IsTaken []) r0.left r1.left (ap (λ (r : WordsState). r.left) random) (λ words. refl);
  host_counts = ap (λ (h : HostState). h.faults) host;
  words_counts = ap (λ (r : WordsState). r.faults) random;
}

pub taken_on : (xs ys : List Exchange) (a b c : List (List ℕ)) → IsTaken (words_seen xs) a b → IsTaken (words_seen ys) b c → IsTaken (words_seen (xs ++ ys)) a c
taken_on xs ys a b c first second =
    first ∙ ap (λ (l : List (List ℕ)). words_seen xs ++ l) second ∙ sym (append_assoc (words_seen xs) (words_seen ys) c) ∙ ap (λ (l : List (List ℕ)). l ++ c) (sym (flat_map-append (λ exchange. exchange.seen.words) xs ys))

pub spoke_on : (xs ys : List Exchange) (h0 h1 h2 : HostState) (r0 r1 r2 : WordsState) → Spoke xs h0 h1 r0 r1 → Spoke ys h1 h2 r1 r2 → Spoke (xs ++ ys) h0 h2 r0 r2
spoke_on xs ys h0 h1 h2 r0 r1 r2 first second = record {
  told = subst (λ (l : List Answer). WereTold l h0 h2) (sym (flat_map-append (λ exchange. exchange.seen.given) xs ys)) (told_more (given_in xs) (given_in ys) h0 h1 h2 first.told second.told);
  words = both_then (IsTaken (words_seen xs)) (IsTaken (words_seen ys)) (IsTaken (words_seen (xs ++ ys))) r0.left r1.left r2.left first.words second.words (taken_on xs ys);
  host_counts = second.host_counts ∙ ap (λ (n : ℕ). counts_after (host_flags ys) n) first.host_counts ∙ sym (counts_on (λ exchange. exchange.seen.host_failed) xs ys h0.faults);
  words_counts = second.words_counts ∙ ap (λ (n : ℕ). counts_after (words_flags ys) n) first.words_counts ∙ sym (counts_on (λ exchange. exchange.seen.words_failed) xs ys r0.faults);
}

-- what is told after, where it is told before
pub both_some : {A : Type 0} (P : A → A → Type 0) (o p : Option A) (a : A) → o ≡ Some a → Both o p P → (b : A) × (p ≡ Some b) × P a b
both_some P (Some x) (Some b) a is both = let same : x ≡ a = cc in (b, refl, subst (λ z. P z b) same both)
both_some P (Some x) None a is both = absurd both
both_some P None p a is both = absurd (cc)

pub count_is : (flag : Bool) (before now : ℕ) → CountsFault flag before now → now ≡ cond flag (counted before) before
count_is true before now is = is
count_is false before now is = is

-- a line that was replied to
pub record OneTold (line : ScriptLine) (reply : Reply) (d0 d1 : DeskState) (h0 h1 : HostState) (r0 r1 : WordsState) : Type 0 where
  pub said : Exchange
  pub line_is : said.line ≡ line
  pub reply_is : said.reply ≡ reply
  pub spoke : Spoke (said ∷ []) h0 h1 r0 r1
  pub follows : (state : ScriptState) → IsStateOf state d0 → Follows state (said ∷ []) (λ left. IsStateOf left d1)

pub one_told : (line : ScriptLine) (reply : Reply) (d0 d1 : DeskState) (h0 h1 : HostState) (r0 r1 : WordsState) (before : List Answer) → h0.given ≡ Some before → DeskGoes line (Ok reply) d0 d1 h0 h1 r0 r1 → OneTold line reply d0 d1 h0 h1 r0 r1
one_told line reply d0 d1 h0 h1 r0 r1 before was goes =
    let found = both_some (λ b n. IsMore (since b n) b n × Asks line reply d0 d1 (since b n) h0 h1 r0 r1) h0.given h1.given before was goes.asks in
    let these = since before found.0 in
    let asks : Asks line reply d0 d1 these h0 h1 r0 r1 = found.2.1 in
    let one = exchange line reply d0 d1 these h0 h1 r0 r1 asks in
    record {
      said = one;
      line_is = refl;
      reply_is = refl;
      spoke = record {
        told = record { before = before; was = was; now = found.1 ∙ ap (λ (l : List Answer). Some l) (found.2.0 ∙ ap (λ (l : List Answer). before ++ l) (sym asks.was_seen.answers ∙ sym (append-nil asks.seen.given))) };
        words = both_weaker (IsTaken asks.seen.words) (IsTaken (words_seen (one ∷ []))) r0.left r1.left asks.was_seen.words (λ a b is. is ∙ ap (λ (l : List (List ℕ)). l ++ b) (sym (append-nil asks.seen.words)));
        host_counts = count_is asks.seen.host_failed h0.faults h1.faults asks.was_seen.of_host;
        words_counts = count_is asks.seen.words_failed r0.faults r1.faults asks.was_seen.of_words;
      };
      follows = turn_follows line reply d0 d1 these h0 h1 r0 r1 asks;
    }
