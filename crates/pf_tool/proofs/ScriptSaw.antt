-- What was seen in several steps of a script, also on a host that does not tell its answers.
use Rattle.std.proofs.Common.{◌≡◌, ◌⊎◌, List, [], ◌∷◌, ◌++◌, ℕ, refl, sym, ◌∙◌, ap, subst, Option, Some, None}
use Rattle.std.proofs.lemmas.Grind.{flat_map-append}
use Rattle.std.proofs.lemmas.List.{append-nil}
use Rattle.pf_io.specs.Disk.{Name}
use Rattle.pf_io.specs.Host.{Answer, HostState, Both, IsMore, since}
use Rattle.pf_io.specs.Words.{WordsState}
use Rattle.pf_io.proofs.Telling.{both_same, both_then, both_weaker, told_none, told_on}
use Rattle.pf_script.specs.BookTurns.{SeenIn as SeenInStep}
use Rattle.pf_script.specs.ScriptRuns.{Exchange}
use Rattle.pf_tool.specs.Happened.{IsTaken}
use Rattle.pf_tool.specs.Scripting.{KeyRead}
use Rattle.pf_tool.specs.Transcripts.{counts_after, IsStarved, key_and, SeenUntil}
use Rattle.pf_tool.specs.World.{World}
use Rattle.pf_tool.proofs.ScriptSeen.{given_in, words_seen, host_flags, words_flags, counts_on, taken_on, count_is}

pub record Saw (xs : List Exchange) (before after : HostState) (random random' : WordsState) : Type 0 where
  pub answers : Both before.given after.given (IsMore (given_in xs))
  pub words : Both random.left random'.left (IsTaken (words_seen xs))
  pub host_counts : after.faults ≡ counts_after (host_flags xs) before.faults
  pub words_counts : random'.faults ≡ counts_after (words_flags xs) random.faults

pub saw_none : (h0 h1 : HostState) (r0 r1 : WordsState) → h1 ≡ h0 → r1 ≡ r0 → Saw [] h0 h1 r0 r1
saw_none h0 h1 r0 r1 host random = record {
  answers = told_none h0 h1 (ap (λ (h : HostState). h.given) host);
  words = both_same (IsTaken []) r0.left r1.left (ap (λ (r : WordsState). r.left) random) (λ words. refl);
  host_counts = ap (λ (h : HostState). h.faults) host;
  words_counts = ap (λ (r : WordsState). r.faults) random;
}

pub saw_on : (xs ys : List Exchange) (h0 h1 h2 : HostState) (r0 r1 r2 : WordsState) → Saw xs h0 h1 r0 r1 → Saw ys h1 h2 r1 r2 → Saw (xs ++ ys) h0 h2 r0 r2
saw_on xs ys h0 h1 h2 r0 r1 r2 first second = record {
  answers = subst (λ (l : List Answer). Both h0.given h2.given (IsMore l)) (sym (flat_map-append (λ exchange. exchange.seen.given) xs ys)) (told_on (given_in xs) (given_in ys) h0 h1 h2 first.answers second.answers);
  words = both_then (IsTaken (words_seen xs)) (IsTaken (words_seen ys)) (IsTaken (words_seen (xs ++ ys))) r0.left r1.left r2.left first.words second.words (taken_on xs ys);
  host_counts = second.host_counts ∙ ap (λ (n : ℕ). counts_after (host_flags ys) n) first.host_counts ∙ sym (counts_on (λ exchange. exchange.seen.host_failed) xs ys h0.faults);
  words_counts = second.words_counts ∙ ap (λ (n : ℕ). counts_after (words_flags ys) n) first.words_counts ∙ sym (counts_on (λ exchange. exchange.seen.words_failed) xs ys r0.faults);
}

-- one step
pub saw_one : (one : Exchange) (h0 h1 : HostState) (r0 r1 : WordsState) → SeenInStep one.seen h0 h1 r0 r1 → Saw (one ∷ []) h0 h1 r0 r1
saw_one one h0 h1 r0 r1 seen = record {
  answers = both_weaker (IsMore one.seen.given) (IsMore (given_in (one ∷ []))) h0.given h1.given seen.answers (λ a b is. is ∙ ap (λ (l : List Answer). a ++ l) (sym (append-nil one.seen.given)));
  words = both_weaker (IsTaken one.seen.words) (IsTaken (words_seen (one ∷ []))) r0.left r1.left seen.words (λ a b is. is ∙ ap (λ (l : List (List ℕ)). l ++ b) (sym (append-nil one.seen.words)));
  host_counts = count_is one.seen.host_failed h0.faults h1.faults seen.of_host;
  words_counts = count_is one.seen.words_failed r0.faults r1.faults seen.of_words;
}

-- the answers that were told in between
abbrev pub told_since : Option (List Answer) → Option (List Answer) → List Answer
told_since (Some before) (Some now) = since before now
told_since before now = []

pub told_so : (P : List Answer → List Answer → Type 0) (o p : Option (List Answer)) → Both o p (λ before now. IsMore (since before now) before now × P before now) → Both o p (IsMore (told_since o p))
told_so P (Some a) (Some b) told = told.0
told_so P None None told = tt
told_so P (Some a) None told = absurd told
told_so P None (Some b) told = absurd told

-- the key, and then some steps to the end
pub seen_until : (key : Name) (user : List ℕ) (old begun until new : World) (status : ℕ) (xs : List Exchange) (more : List Answer) → KeyRead key user old begun → Saw xs begun.host until.host begun.random until.random
    → Both until.host.given new.host.given (IsMore more) → until.host.faults ≡ new.host.faults → until.random.faults ≡ new.random.faults → ((more ≡ []) × (until.host ≡ new.host) × (until.random ≡ new.random)) ⊎ IsStarved old new status → SeenUntil key user xs old new status
seen_until key user old begun until new status xs more read saw told host random ends =
    let same : begun.random ≡ old.random = read.passed.random.untouched refl in
    record {
      until = until;
      given = given_in xs;
      more = more;
      seen = record {
        answers = refl;
        words = subst (λ (r : WordsState). Both r.left until.random.left (IsTaken (words_seen xs))) same saw.words;
        host_counts = subst (λ (n : ℕ). until.host.faults ≡ counts_after (host_flags xs) n) read.passed.host.calm saw.host_counts;
        words_counts = subst (λ (r : WordsState). until.random.faults ≡ counts_after (words_flags xs) r.faults) same saw.words_counts;
      };
      told = told_on (key_and key user []) (given_in xs ++ more) old.host begun.host new.host read.passed.host.told (told_on (given_in xs) more begun.host until.host new.host saw.answers told);
      host_still = host;
      words_still = random;
      to_the_end = ends;
    }
