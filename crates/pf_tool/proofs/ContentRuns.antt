-- What a run of `decrypt` put out, where nothing is forged.
use Rattle.std.proofs.Common.{◌≡◌, ◌≢◌, ◌⊎◌, inl, inr, ℕ, ◌+◌, ◌≤◌, min, List, [], ◌∷◌, ◌++◌, length, take, drop, refl, ap, ◌∙◌, sym, arith, subst, append_assoc, Option, Some}
use Rattle.std.specs.Prelude.{Contains}
use Rattle.std.specs.List.{concat}
use Rattle.std.proofs.lemmas.List.{append-nil, append_cancel_left, drop-drop, take-append-drop, take-append-le, take_min}
use Rattle.std.proofs.lemmas.List.Folds.{concat-append}
use Rattle.std.proofs.Math.Seq.{take-append_seam, take-append-add}
use Rattle.node_layout.specs.declared.damage.Kind.{Kind}
use Rattle.node_tree.specs.Sheet.{Sheet}
use Rattle.node_tree.specs.Opened.{Given}
use Rattle.node_tree.specs.Parts.{PIECE}
use Rattle.node_tree.specs.Unforged.{Unforged}
use Rattle.node_tree.specs.Reading.{IsForeign}
use Rattle.pf_io.specs.Disk.{Name}
use Rattle.pf_io.specs.Host.{Answer, Gave, HostState, Both, IsMore}
use Rattle.pf_io.specs.Answered.{WereTold}
use Rattle.pf_io.specs.Streams.{TakesFront}
use Rattle.pf_io.proofs.Telling.{both_weaker, both_then}
use Rattle.pf_tool.specs.World.{World, with_log}
use Rattle.pf_tool.specs.Events.{Event, Answers, Draws, Puts, answers_in, pieces_in, bytes_in}
use Rattle.pf_tool.specs.Endings.{Done, Damaged, Refused, Stop, AtEnd, Failed, Starved, tried, ending_line, stop_status}
use Rattle.pf_tool.specs.Happened.{Passed, Happened}
use Rattle.pf_tool.specs.Reports.{WroteAll, Reports}
use Rattle.pf_tool.specs.Requests.{Decrypt}
use Rattle.pf_tool.specs.Runs.{Runs}
use Rattle.pf_tool.specs.Contents.{ArePiecesOf, IsCarried, TookContent}
use Rattle.pf_tool.proofs.Composing.{pieces_then}
use Rattle.pf_tool.proofs.RunStops.{said, status_of, done_at_zero}
use Rattle.pf_tool.proofs.ContentLaws.{decrypts_sheets}

-- what the host told
pub told_of : (es : List Event) (stop : Stop) (old new : World) → Happened es stop old new → Both old.host.given new.host.given (IsMore (answers_in es))
told_of es (AtEnd ending) old new happened = happened.host.told
told_of es Starved old new happened = happened.host.told
told_of es (Failed (Answers a)) old new happened = subst (λ (o : Option (List Answer)). Both old.host.given o (IsMore (answers_in es))) (sym happened.2.0.told) happened.1.host.told
told_of es (Failed (Draws w)) old new happened = subst (λ (v : World). Both old.host.given v.host.given (IsMore (answers_in es))) (sym happened.2.1) happened.1.host.told
told_of es (Failed (Puts b)) old new happened = subst (λ (v : World). Both old.host.given v.host.given (IsMore (answers_in es))) (sym happened.2.1) happened.1.host.told

-- the answers that were told are one list
pub these_told : (old new : HostState) (these those : List Answer) → Both old.given new.given (IsMore these) → WereTold those old new → these ≡ those
these_told old new these those told were =
    let more : Both (Some were.before) (Some (were.before ++ those)) (IsMore these) = subst (λ (o : Option (List Answer)). Both (Some were.before) o (IsMore these)) were.now (subst (λ (o : Option (List Answer)). Both o new.given (IsMore these)) were.was told) in
    sym (append_cancel_left were.before those these more)

-- pieces of a content are a front of it
front_of : (content : List ℕ) (at : ℕ) (pieces : List (List ℕ)) → ArePiecesOf content at pieces → (rest : List ℕ) × (drop at content ≡ concat pieces ++ rest)
front_of content at [] are = (drop at content, refl)
front_of content at (piece ∷ pieces) are =
    let more = front_of content (at + PIECE) pieces are.2 in (
      more.0,
      sym (take-append-drop PIECE (drop at content)) ∙ ap (λ (l : List ℕ). take PIECE (drop at content) ++ l) (drop-drop PIECE at content ∙ more.1)
          ∙ ap (λ (l : List ℕ). l ++ (concat pieces ++ more.0)) (sym are.1) ∙ sym (append_assoc piece (concat pieces) more.0),
    )

pub front_taken : (bytes rest all before now : List ℕ) → all ≡ bytes ++ rest → IsMore bytes before now → TakesFront all before now
front_taken bytes rest all before now is more = record { count = length bytes; taken = more ∙ ap (λ (l : List ℕ). before ++ l) (sym (take-append_seam bytes rest) ∙ ap (λ (l : List ℕ). take (length bytes) l) (sym is)) }

-- and so they are with a front of the next one
front_then : (bytes piece rest all before mid now : List ℕ) → all ≡ (bytes ++ piece) ++ rest → IsMore bytes before mid → TakesFront piece mid now → TakesFront all before now
front_then bytes piece rest all before mid now is more took =
    let m = min took.count (length piece) in
    let front : take took.count piece ≡ take m (piece ++ rest) = sym (take_min took.count piece) ∙ sym (take-append-le m piece rest (omega arith)) in
    record {
      count = length bytes + m;
      taken = took.taken ∙ ap (λ (l : List ℕ). l ++ take took.count piece) more ∙ append_assoc before bytes (take took.count piece)
          ∙ ap (λ (l : List ℕ). before ++ (bytes ++ l)) front ∙ ap (λ (l : List ℕ). before ++ l) (sym (take-append-add bytes (piece ++ rest) m))
          ∙ ap (λ (l : List ℕ). before ++ take (length bytes + m) l) (sym (append_assoc bytes piece rest) ∙ sym is);
    }

same_pieces : (es : List Event) (event : Event) → pieces_in (event ∷ []) ≡ [] → pieces_in (es ++ event ∷ []) ≡ pieces_in es
same_pieces es event none = pieces_then es (event ∷ []) ∙ ap (λ (l : List (List ℕ)). pieces_in es ++ l) none ∙ append-nil (pieces_in es)

passed_front : (content : List ℕ) (es : List Event) (old new : World) → Passed es old new → ArePiecesOf content 0 (pieces_in es) → Both old.out.bytes new.out.bytes (TakesFront content)
passed_front content es old new passed are =
    let front = front_of content 0 (pieces_in es) are in
    both_weaker (IsMore (bytes_in es)) (TakesFront content) old.out.bytes new.out.bytes passed.out.told (λ before now more. front_taken (bytes_in es) front.0 content before now front.1 more)

-- what the output took
out_front : (content : List ℕ) (es : List Event) (stop : Stop) (old new : World) → Happened es stop old new → ArePiecesOf content 0 (pieces_in (tried es stop)) → Both old.out.bytes new.out.bytes (TakesFront content)
out_front content es (AtEnd ending) old new happened are = passed_front content es old new happened are
out_front content es Starved old new happened are = passed_front content es old new happened are
out_front content es (Failed (Answers a)) old new happened are =
    let there = passed_front content es old happened.0 happened.1 (subst (λ (ps : List (List ℕ)). ArePiecesOf content 0 ps) (same_pieces es (Answers a) refl) are) in
    subst (λ (v : World). Both old.out.bytes v.out.bytes (TakesFront content)) (sym happened.2.1) there
out_front content es (Failed (Draws w)) old new happened are =
    let there = passed_front content es old happened.0 happened.1 (subst (λ (ps : List (List ℕ)). ArePiecesOf content 0 ps) (same_pieces es (Draws w) refl) are) in
    subst (λ (v : World). Both old.out.bytes v.out.bytes (TakesFront content)) (sym happened.2.1) there
out_front content es (Failed (Puts piece)) old new happened are =
    let front = front_of content 0 (pieces_in (es ++ Puts piece ∷ [])) are in
    let all : concat (pieces_in (es ++ Puts piece ∷ [])) ≡ bytes_in es ++ piece =
    ap (λ (l : List (List ℕ)). concat l) (pieces_then es (Puts piece ∷ [])) ∙ concat-append (pieces_in es) (piece ∷ []) ∙ ap (λ (l : List ℕ). bytes_in es ++ l) (append-nil piece) in
    both_then (IsMore (bytes_in es)) (TakesFront piece) (TakesFront content) old.out.bytes happened.0.out.bytes new.out.bytes happened.1.out.told happened.2.0.told
    (λ before mid now more took. front_then (bytes_in es) piece front.0 content before mid now (front.1 ∙ ap (λ (l : List ℕ). l ++ front.0) all) more took)

-- where nothing was put out the output is as it was
out_same : (es : List Event) (stop : Stop) (old new : World) → Happened es stop old new → pieces_in (tried es stop) ≡ [] → new.out ≡ old.out
out_same es (AtEnd ending) old new happened none = happened.out.untouched none
out_same es Starved old new happened none = happened.out.untouched none
out_same es (Failed (Answers a)) old new happened none = ap (λ (v : World). v.out) happened.2.1 ∙ happened.1.out.untouched (sym (same_pieces es (Answers a) refl) ∙ none)
out_same es (Failed (Draws w)) old new happened none = ap (λ (v : World). v.out) happened.2.1 ∙ happened.1.out.untouched (sym (same_pieces es (Draws w) refl) ∙ none)
out_same es (Failed (Puts piece)) old new happened none = absurd (last (pieces_in es) (sym (pieces_then es (Puts piece ∷ [])) ∙ none)) where
  last : (xs : List (List ℕ)) → xs ++ piece ∷ [] ≡ [] → ⊥
  last [] is = absurd (cc)
  last (x ∷ xs) is = absurd (cc)

empty_or : (xs : List (List ℕ)) → (xs ≡ []) ⊎ (xs ≢ [])
empty_or [] = inl refl
empty_or (x ∷ xs) = inr (λ is. absurd (cc))

-- status 1 is that of a damage
damage_of : (stop : Stop) → stop_status stop ≡ 1 → (k : ℕ) × (kind : Kind) × (stop ≡ AtEnd (Damaged k kind))
damage_of (AtEnd Done) is = absurd (cc)
damage_of (AtEnd (Damaged k kind)) is = (k, kind, refl)
damage_of (AtEnd (Refused why)) is = absurd (cc)
damage_of (Failed (Answers a)) is = absurd (cc)
damage_of (Failed (Draws w)) is = absurd (cc)
damage_of (Failed (Puts b)) is = absurd (cc)
damage_of Starved is = absurd (cc)

module _ (key input : Name) (old new : World) (status : ℕ) (runs : Runs (Decrypt key input) old new status) where
  low_status : (n : ℕ) → n ≤ 6 → status ≡ n → stop_status runs.stop ≡ n
  low_status n low is = sym (status_of runs.stop old.log new.log status (said runs.stop old.log new.log status runs.reports) (λ seven. omega (arith, seven, is, low))) ∙ is

  line_said : (k : ℕ) (kind : Kind) → runs.stop ≡ AtEnd (Damaged k kind) → status ≡ 1 → WroteAll (ending_line (Damaged k kind)) old.log new.log
  line_said k kind stop is =
      elim (said (AtEnd (Damaged k kind)) old.log new.log status (subst (λ (s : Stop). Reports s old.log new.log status) stop runs.reports)) [
        | inl both ↦ both.1
        | inr both ↦ absurd (let seven = both.0 in omega (arith, seven, is))
      ]

  pub took_content : TookContent key input old new status
  took_content these user sheets were has_key unforged =
      let es = runs.outcome.events in
      let stop = runs.stop in
      let same : answers_in es ≡ these = these_told old.host new.host (answers_in es) these (told_of es stop old (with_log new old.log) runs.outcome.happened) were in
      let of = decrypts_sheets key input es stop user sheets runs.outcome.stands (subst (λ (l : List Answer). Contains l (Gave key 0 16 user)) (sym same) has_key) (subst (λ (l : List Answer). Unforged user sheets l) (sym same) unforged) in
      let here = λ (sheet : Sheet) (carried : IsCarried user input these sheet). subst (λ (l : List Answer). IsCarried user input l sheet) (sym same) carried in
      record {
        each = λ sheet among carried.
            let o = of.each sheet among (here sheet carried) in
            record {
              front = out_front sheet.content es stop old (with_log new old.log) runs.outcome.happened o.pieces;
              all = λ is.
                  let done = done_at_zero stop old.log new.log status runs.reports is in
                  let passed = subst (λ (s : Stop). Happened es s old (with_log new old.log)) done runs.outcome.happened in
                  subst (λ (l : List ℕ). Both old.out.bytes new.out.bytes (IsMore l)) (o.all done) passed.out.told;
              damage = λ is.
                  let d = damage_of stop (low_status 1 (omega arith) is) in
                  (d.0, d.1, line_said d.0 d.1 d.2 is, λ low. subst (λ (l : List Answer). IsForeign sheet (Given input l) d.0) same (o.damage d.0 d.1 low d.2));
            };
        some = elim (empty_or (pieces_in (tried es stop))) [
          | inl none ↦ inl (out_same es stop old (with_log new old.log) runs.outcome.happened none)
          | inr some ↦ let there = of.some (inl some) in inr (there.0, there.1, subst (λ (l : List Answer). IsCarried user input l there.0) same there.2)
        ];
        done = λ is.
            let there = of.some (inr (inl (done_at_zero stop old.log new.log status runs.reports is))) in
            (there.0, there.1, subst (λ (l : List Answer). IsCarried user input l there.0) same there.2);
      }
