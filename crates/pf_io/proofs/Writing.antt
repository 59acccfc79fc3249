-- Several writes to a sink, one after the other.
use Rattle.std.proofs.Common.{◌≡◌, ℕ, ◌+◌, ◌≤◌, min, List, ◌++◌, length, take, Option, Result, Ok, Err, ap, ◌∙◌, sym, arith, append_assoc}
use Rattle.std.proofs.lemmas.List.{take_min, take-append-le}
use Rattle.std.proofs.Math.Seq.{take-append-add}
use Rattle.pf_io.specs.Counts.{HasCause, counted}
use Rattle.pf_io.specs.Host.{Both, IsMore}
use Rattle.pf_io.specs.Streams.{SinkState, Takes, TakesFront}
use Rattle.pf_io.specs.Writing.{WroteAll, SinkFailed, Written}
use Rattle.pf_io.proofs.Telling.{both_then, both_weaker}

-- a front of the first text is a front of both
front_of_both : (x y before now : List ℕ) → TakesFront x before now → TakesFront (x ++ y) before now
front_of_both x y before now front =
    let n = min front.count (length x) in
    let fits : n ≤ length x = omega arith in
    let same : take n (x ++ y) ≡ take front.count x = take-append-le n x y fits ∙ take_min front.count x in
    record { count = n; taken = front.taken ∙ ap (λ (l : List ℕ). before ++ l) (sym same) }

-- the first text, and then a front of the second
front_of_second : (x y before mid now : List ℕ) → IsMore x before mid → TakesFront y mid now → TakesFront (x ++ y) before now
front_of_second x y before mid now whole front =
    record {
      count = length x + front.count;
      taken = front.taken ∙ ap (λ (l : List ℕ). l ++ take front.count y) whole ∙ append_assoc before x (take front.count y) ∙ ap (λ (l : List ℕ). before ++ l) (sym (take-append-add x y front.count));
    }

pub told_both : (x y : List ℕ) (o p q : Option (List ℕ)) → Both o p (IsMore x) → Both p q (IsMore y) → Both o q (IsMore (x ++ y))
told_both x y o p q first second =
    both_then (IsMore x) (IsMore y) (IsMore (x ++ y)) o p q first second
    (λ a b c one two. two ∙ ap (λ (l : List ℕ). l ++ y) one ∙ append_assoc a x y)

-- a whole write, and then a front of another
pub told_front : (x y : List ℕ) (o p q : Option (List ℕ)) → Both o p (IsMore x) → Both p q (TakesFront y) → Both o q (TakesFront (x ++ y))
told_front x y o p q first second = both_then (IsMore x) (TakesFront y) (TakesFront (x ++ y)) o p q first second (front_of_second x y)

-- a front of a text that goes on
pub front_then : (x y : List ℕ) (o p : Option (List ℕ)) → Both o p (TakesFront x) → Both o p (TakesFront (x ++ y))
front_then x y o p front = both_weaker (TakesFront x) (TakesFront (x ++ y)) o p front (front_of_both x y)

-- a fault that is counted after the count had stayed
pub once_after : (before mid now : ℕ) → mid ≡ before → now ≡ counted mid → now ≡ counted before
once_after before mid now calm once = once ∙ ap counted calm

pub wrote_both : (x y : List ℕ) (old mid new : SinkState) → WroteAll x old mid → WroteAll y mid new → WroteAll (x ++ y) old new
wrote_both x y old mid new first second = record {
  told = told_both x y old.bytes mid.bytes new.bytes first.told second.told;
  calm = second.calm ∙ first.calm;
}

-- the second write failed
pub failed_second : (x y : List ℕ) (old mid new : SinkState) → WroteAll x old mid → SinkFailed y mid new → SinkFailed (x ++ y) old new
failed_second x y old mid new first second = record {
  told = told_front x y old.bytes mid.bytes new.bytes first.told second.told;
  once = once_after old.faults mid.faults new.faults first.calm second.once;
}

-- the first did
pub failed_first : (x y : List ℕ) (old new : SinkState) → SinkFailed x old new → SinkFailed (x ++ y) old new
failed_first x y old new failed = record { told = front_then x y old.bytes new.bytes failed.told; once = failed.once }

-- one write
pub written_by : {T E : Type 0} (r : Result T E) (bytes : List ℕ) (old new : SinkState) → HasCause old.faults new.faults r → Takes r bytes old.bytes new.bytes → Written r bytes old new
written_by (Ok v) bytes old new cause takes = record { told = takes; calm = cause.still }
written_by (Err e) bytes old new cause takes = record { told = takes; once = cause.once }

pub written_second : {T E : Type 0} (r : Result T E) (x y : List ℕ) (old mid new : SinkState) → WroteAll x old mid → Written r y mid new → Written r (x ++ y) old new
written_second (Ok v) x y old mid new first second = wrote_both x y old mid new first second
written_second (Err e) x y old mid new first second = failed_second x y old mid new first second
