-- The search for a line feed, read by read.
use Rattle.std.proofs.Common.{◌≡◌, ◌≢◌, ◌∙◌, ℕ, ◌+◌, ◌<◌, ◌≤◌, Bool, true, false, List, [], ◌∷◌, ◌++◌, length, take, drop, get_or, refl, sym, ap, subst, arith, Option, Some, None, IfSome, Result, Ok, Err, inl, inr, append_assoc, length-append, length-drop}
use Rattle.std.proofs.lemmas.List.{append-nil, take_all, take-append-le, length-take-le}
use Rattle.std.proofs.Math.Seq.{take-add, drop-append_seam, drop-append-add}
use Rattle.std.proofs.lemmas.List.Elements.{All-append, All-nil, All-drop}
use Rattle.pf_io.specs.Counts.{counted}
use Rattle.pf_io.specs.Host.{Both}
use Rattle.pf_io.specs.Streams.{SourceState}
use Rattle.pf_io.specs.declared.faults.StreamFault.{StreamFault}
use Rattle.pf_script.specs.declared.stage.Stage.TheVariants as stages
use Rattle.pf_script.specs.declared.next_line.NextLine.{NextLine}
use Rattle.pf_script.specs.declared.next_line.NextLine.TheVariants as nexts
use Rattle.pf_script.specs.Lines.{LINE_FEED, HasNoFeed, lines_of}
use Rattle.pf_script.specs.ScriptLines.{LONGEST_LINE}
use Rattle.pf_script.specs.LineReading.{ReaderState, Took, HasNoMore, FailCause, FilledWith, FailedFill, MakesRoom, HadRoom, WasFull, CutsAt, Finishes, Dropped, Nothing, Given, AtEnd, Fed, Last, Cuts, IsPrompt, HasFailCause, IsBounded, MOST_READS, BeginsWith, Advances, GoesOn, LinesGoOn}
use Rattle.pf_script.proofs.Cutting.{IsNoFeed, around, fed_line, last_line}

-- The bytes taken so far, of which a front was dropped where the line is too long; none of them is a line feed.
pub record Looking (long : Bool) (old now : ReaderState) (from to : SourceState) : Type 0 where
  pub these : List ℕ
  pub dropped : List ℕ
  pub whole : old.pending ++ these ≡ dropped ++ now.pending
  pub no_feed : HasNoFeed (old.pending ++ these)
  pub too_long : long ≡ true → LONGEST_LINE < length dropped
  pub nothing_dropped : long ≡ false → dropped ≡ []
  pub stage : now.stage ≡ stages.Open
  pub took : Took these from to
  pub faults : to.faults ≡ from.faults
  pub later : old.reads ≤ now.reads
  pub each_took : now.reads ≤ old.reads + length these
  pub by_reads : these ≢ [] → old.reads < now.reads
  pub within : old.reads ≤ MOST_READS → now.reads ≤ MOST_READS

both_same : (o : Option (List ℕ)) → Both o o (λ before now. before ≡ [] ++ now)
both_same None = tt
both_same (Some left) = refl

pub took_nothing : (source : SourceState) → Took [] source source
took_nothing source = record { at_least = omega arith; at_most = omega arith; left = both_same source.left }

both_then : (these more : List ℕ) (o p q : Option (List ℕ)) → Both o p (λ before now. before ≡ these ++ now) → Both p q (λ before now. before ≡ more ++ now) → Both o q (λ before now. before ≡ (these ++ more) ++ now)
both_then these more None None None first second = tt
both_then these more None None (Some z) first second = absurd second
both_then these more None (Some y) q first second = absurd first
both_then these more (Some x) None q first second = absurd first
both_then these more (Some x) (Some y) None first second = absurd second
both_then these more (Some x) (Some y) (Some z) first second = first ∙ ap (λ (t : List ℕ). these ++ t) second ∙ sym (append_assoc these more z)

pub took_then : (these more : List ℕ) (from mid to : SourceState) → Took these from mid → Took more mid to → Took (these ++ more) from to
took_then these more from mid to first second = record {
  at_least = omega (arith, length-append these more, first.at_least, second.at_least);
  at_most = omega (arith, length-append these more, first.at_most, second.at_most);
  left = both_then these more from.left mid.left to.left first.left second.left;
}

pub looking_first : (reader : ReaderState) (source : SourceState) → reader.stage ≡ stages.Open → HasNoFeed reader.pending → Looking false reader reader source source
looking_first reader source stage none = record {
  these = [];
  dropped = [];
  whole = append-nil reader.pending;
  no_feed = subst HasNoFeed (sym (append-nil reader.pending)) none;
  too_long = λ e. absurd (cc e);
  nothing_dropped = λ e. refl;
  stage = stage;
  took = took_nothing source;
  faults = refl;
  later = omega arith;
  each_took = omega arith;
  by_reads = λ some. absurd (some refl);
  within = λ few. few;
}

pub room_few : (long result : Bool) (now mid : ReaderState) → MakesRoom long now mid result → length mid.pending ≤ LONGEST_LINE
room_few long result now mid (HadRoom few same kept) = subst (λ (s : ReaderState). length s.pending ≤ LONGEST_LINE) (sym same) few
room_few long result now mid (WasFull full same made) = subst (λ (s : ReaderState). length s.pending ≤ LONGEST_LINE) (sym same) (omega arith)

pub room_made : (long result : Bool) (old now mid : ReaderState) (from to : SourceState) → Looking long old now from to → MakesRoom long now mid result → Looking result old mid from to
room_made long result old now mid from to is (HadRoom few same kept) = subst (λ (b : Bool). Looking b old mid from to) (sym kept) (subst (λ (s : ReaderState). Looking long old s from to) (sym same) is)
room_made long result old now mid from to is (WasFull full same made) =
    let emptied : ReaderState = record now { pending = [] } in
    let made_room : Looking true old emptied from to = record {
      these = is.these;
      dropped = is.dropped ++ now.pending;
      whole = is.whole ∙ sym (append-nil (is.dropped ++ now.pending));
      no_feed = is.no_feed;
      too_long = λ e. omega (arith, full, length-append is.dropped now.pending);
      nothing_dropped = λ e. absurd (cc e);
      stage = is.stage;
      took = is.took;
      faults = is.faults;
      later = is.later;
      each_took = is.each_took;
      by_reads = is.by_reads;
      within = is.within;
    } in
    subst (λ (b : Bool). Looking b old mid from to) (sym made) (subst (λ (s : ReaderState). Looking true old s from to) (sym same) made_room)

pub no_bytes : (bytes : List ℕ) → length bytes ≡ 0 → bytes ≡ []
no_bytes [] none = refl
no_bytes (byte ∷ bytes) none = absurd (omega (arith, none))

pub any_bytes : (bytes : List ℕ) (n : ℕ) → length bytes ≡ n → n ≢ 0 → bytes ≢ []
any_bytes bytes n count some none = some (sym count ∙ ap (λ (t : List ℕ). length t) none)

some_bytes : (bytes : List ℕ) → bytes ≢ [] → 1 ≤ length bytes
some_bytes [] some = absurd (some refl)
some_bytes (byte ∷ bytes) some = omega arith

whole_after : (old mid new : ReaderState) (these more dropped : List ℕ) → old.pending ++ these ≡ dropped ++ mid.pending → new.pending ≡ mid.pending ++ more → old.pending ++ (these ++ more) ≡ dropped ++ new.pending
whole_after old mid new these more dropped whole filled = sym (append_assoc old.pending these more) ∙ ap (λ (t : List ℕ). t ++ more) whole ∙ append_assoc dropped mid.pending more ∙ ap (λ (t : List ℕ). dropped ++ t) (sym filled)

-- a read that brought no line feed
pub more_read : (long : Bool) (old mid new : ReaderState) (from to after : SourceState) (more : List ℕ) → Looking long old mid from to → FilledWith more mid new to after → more ≢ [] → HasNoFeed (drop (length mid.pending) new.pending)
    → Looking long old new from after
more_read long old mid new from to after more is fill some none =
    let read = fill.more some in
    let behind : drop (length mid.pending) new.pending ≡ more = ap (λ (t : List ℕ). drop (length mid.pending) t) fill.pending ∙ drop-append_seam mid.pending more in
    record {
      these = is.these ++ more;
      dropped = is.dropped;
      whole = whole_after old mid new is.these more is.dropped is.whole fill.pending;
      no_feed = subst HasNoFeed (append_assoc old.pending is.these more) (All-append IsNoFeed (old.pending ++ is.these) more is.no_feed (subst HasNoFeed behind none));
      too_long = is.too_long;
      nothing_dropped = is.nothing_dropped;
      stage = read.0 ∙ is.stage;
      took = took_then is.these more from to after is.took fill.took;
      faults = fill.faults ∙ is.faults;
      later = omega (arith, read.1, is.later);
      each_took = omega (arith, read.1, is.each_took, length-append is.these more, some_bytes more some);
      by_reads = λ any. omega (arith, read.1, is.later);
      within = λ few. read.2;
    }

prompt_after : (old mid new : ReaderState) (these more : List ℕ) → HasNoFeed these → mid.reads ≤ old.reads + length these → new.reads ≤ mid.reads + 1 → IsPrompt (these ++ more) old new
prompt_after old mid new these more none few next = record { early = these; late = more; whole = refl; no_feed = none; reads = omega (arith, few, next) }

behind_is : (front rest : List ℕ) → HasNoFeed (front ++ rest) → HasNoFeed rest
behind_is front rest none = subst HasNoFeed (drop-append_seam front rest) (All-drop IsNoFeed (length front) (front ++ rest) none)

taken_few : (front more : List ℕ) (at : ℕ) → take (length front + at) (front ++ more) ≡ front ++ take at more
taken_few front more at = take-add (length front) at (front ++ more) ∙ ap (λ (t : List ℕ). t ++ take at (drop (length front) (front ++ more))) (take-append-le (length front) front more (omega arith) ∙ take_all (length front) front (omega arith)) ∙ ap (λ (t : List ℕ). front ++ take at t) (drop-append_seam front more)

dropped_few : (front more : List ℕ) (at : ℕ) → drop (length front + at + 1) (front ++ more) ≡ drop (at + 1) more
dropped_few front more at = ap (λ n. drop n (front ++ more)) (let e : length front + at + 1 ≡ length front + (at + 1) = omega arith in e) ∙ drop-append-add front more (at + 1)

-- what is found in the bytes of one read, of a text that was not dropped
fed_whole : (dropped front more : List ℕ) (at : ℕ) → at < length more → get_or more at 0 ≡ LINE_FEED → dropped ++ (front ++ more) ≡ (dropped ++ (front ++ take at more)) ++ LINE_FEED ∷ drop (at + 1) more
fed_whole dropped front more at inside here =
    ap (λ (t : List ℕ). dropped ++ (front ++ t)) (around more at LINE_FEED inside here) ∙ ap (λ (t : List ℕ). dropped ++ t) (sym (append_assoc front (take at more) (LINE_FEED ∷ drop (at + 1) more))) ∙ sym (append_assoc dropped (front ++ take at more) (LINE_FEED ∷ drop (at + 1) more))

fed_no_feed : (dropped front more : List ℕ) (at : ℕ) → HasNoFeed (dropped ++ front) → HasNoFeed (take at more) → HasNoFeed (dropped ++ (front ++ take at more))
fed_no_feed dropped front more at none some = subst HasNoFeed (append_assoc dropped front (take at more)) (All-append IsNoFeed (dropped ++ front) (take at more) none some)

dropped_bounded : (old new : ReaderState) (n : ℕ) → IsBounded old → new.reads ≡ old.reads → new.pending ≡ drop n old.pending → IsBounded new
dropped_bounded old new n was reads pending = record { reads = let most = was.reads in omega (arith, reads, most); pending = let most = was.pending in omega (arith, ap (λ (t : List ℕ). length t) pending, length-drop n old.pending, most) }

cut_bounded : (long : Bool) (result : NextLine) (at : ℕ) (old new : ReaderState) → IsBounded old → CutsAt at long result old new → IsBounded new
cut_bounded true result at old new was cut = dropped_bounded old new (at + 1) was (ap (λ (s : ReaderState). s.reads) cut.1) (ap (λ (s : ReaderState). s.pending) cut.1)
cut_bounded false result at old new was cut = dropped_bounded old new (at + 1) was (ap (λ (s : ReaderState). s.reads) cut.1) (ap (λ (s : ReaderState). s.pending) cut.1)

emptied_bounded : (old new : ReaderState) → IsBounded old → new.reads ≡ old.reads → new.pending ≡ [] → IsBounded new
emptied_bounded old new was reads pending = record { reads = let most = was.reads in omega (arith, reads, most); pending = omega (arith, ap (λ (t : List ℕ). length t) pending) }

end_bounded : (long : Bool) (result : NextLine) (old new : ReaderState) → IsBounded old → Finishes long result old new → IsBounded new
end_bounded long result old new was (Dropped is made same) = emptied_bounded old new was (ap (λ (s : ReaderState). s.reads) same) (ap (λ (s : ReaderState). s.pending) same)
end_bounded long result old new was (Nothing is empty made same) = subst IsBounded (sym same) was
end_bounded long result old new was (Given is some made same) = emptied_bounded old new was (ap (λ (s : ReaderState). s.reads) same) (ap (λ (s : ReaderState). s.pending) same)

-- a line feed came with the last read
pub found : (long : Bool) (result : NextLine) (old mid fill new : ReaderState) (from to after : SourceState) (more : List ℕ) (at : ℕ) → Looking long old mid from to → FilledWith more mid fill to after → more ≢ []
    → at < length (drop (length mid.pending) fill.pending) → HasNoFeed (take at (drop (length mid.pending) fill.pending)) → get_or (drop (length mid.pending) fill.pending) at 0 ≡ LINE_FEED
    → CutsAt (length mid.pending + at) long result fill new → Advances (Ok result) old new from after
found long result old mid fill new from to after more at is filled some inside' none' here' cut =
    let read = filled.more some in
    let behind : drop (length mid.pending) fill.pending ≡ more = ap (λ (t : List ℕ). drop (length mid.pending) t) filled.pending ∙ drop-append_seam mid.pending more in
    let inside : at < length more = subst (λ (t : List ℕ). at < length t) behind inside' in
    let none : HasNoFeed (take at more) = subst (λ (t : List ℕ). HasNoFeed (take at t)) behind none' in
    let here : get_or more at 0 ≡ LINE_FEED = subst (λ (t : List ℕ). get_or t at 0 ≡ LINE_FEED) behind here' in
    let line : List ℕ = mid.pending ++ take at more in
    let rest : List ℕ = drop (at + 1) more in
    let whole : old.pending ++ (is.these ++ more) ≡ (is.dropped ++ line) ++ LINE_FEED ∷ rest = whole_after old mid fill is.these more is.dropped is.whole filled.pending ∙ ap (λ (t : List ℕ). is.dropped ++ t) filled.pending ∙ fed_whole is.dropped mid.pending more at inside here in
    let no_feed : HasNoFeed (is.dropped ++ line) = fed_no_feed is.dropped mid.pending more at (subst HasNoFeed is.whole is.no_feed) none in
    let line_is : take (length mid.pending + at) fill.pending ≡ line = ap (λ (t : List ℕ). take (length mid.pending + at) t) filled.pending ∙ taken_few mid.pending more at in
    let rest_is : drop (length mid.pending + at + 1) fill.pending ≡ rest = ap (λ (t : List ℕ). drop (length mid.pending + at + 1) t) filled.pending ∙ dropped_few mid.pending more at in
    let fits : length line ≤ LONGEST_LINE = omega (arith, length-append mid.pending (take at more), length-take-le at more (omega (arith, inside)), filled.fits, ap (λ (t : List ℕ). length t) filled.pending, length-append mid.pending more, inside) in
    let stage : fill.stage ≡ stages.Open = read.0 ∙ is.stage in
    let cuts = cut_cases long result old fill new after is.dropped line rest (old.pending ++ (is.these ++ more)) (length mid.pending + at) whole no_feed line_is rest_is fits stage is.too_long is.nothing_dropped cut in
    record {
      these = is.these ++ more;
      took = took_then is.these more from to after is.took filled.took;
      later = omega (arith, read.1, is.later, cuts.1);
      each_took = omega (arith, read.1, is.each_took, length-append is.these more, some_bytes more some, cuts.1);
      by_reads = λ any. omega (arith, read.1, is.later, cuts.1);
      bounded = λ was. cut_bounded long result (length mid.pending + at) fill new (record { reads = read.2; pending = filled.fits }) cut;
      prompt = prompt_after old mid new is.these more (behind_is old.pending is.these is.no_feed) is.each_took (omega (arith, read.1, cuts.1));
      cause = filled.faults ∙ is.faults;
      cuts = cuts.0;
    }
  where
    cut_cases : (long : Bool) (result : NextLine) (old fill new : ReaderState) (after : SourceState) (dropped line rest text : List ℕ) (place : ℕ) → text ≡ (dropped ++ line) ++ LINE_FEED ∷ rest → HasNoFeed (dropped ++ line) → take place fill.pending ≡ line → drop (place + 1) fill.pending ≡ rest
        → length line ≤ LONGEST_LINE → fill.stage ≡ stages.Open → (long ≡ true → LONGEST_LINE < length dropped) → (long ≡ false → dropped ≡ []) → CutsAt place long result fill new → Cuts (Ok result) text new after × (new.reads ≡ fill.reads)
    cut_cases true result old fill new after dropped line rest text place whole none line_is rest_is fits stage too_long nothing cut =
        let pending : new.pending ≡ rest = ap (λ (s : ReaderState). s.pending) cut.1 ∙ rest_is in
        let long : LONGEST_LINE < length (dropped ++ line) = omega (arith, too_long refl, length-append dropped line) in
        (subst (λ (r : NextLine). Cuts (Ok r) text new after) (sym cut.0) (dropped ++ line, none, long, Fed (whole ∙ ap (λ (t : List ℕ). (dropped ++ line) ++ LINE_FEED ∷ t) (sym pending)) (ap (λ (s : ReaderState). s.stage) cut.1 ∙ stage)), ap (λ (s : ReaderState). s.reads) cut.1)
    cut_cases false result old fill new after dropped line rest text place whole none line_is rest_is fits stage too_long nothing cut =
        let pending : new.pending ≡ rest = ap (λ (s : ReaderState). s.pending) cut.1 ∙ rest_is in
        let given : new.line ≡ line = ap (λ (s : ReaderState). s.line) cut.1 ∙ line_is in
        let front : dropped ++ line ≡ new.line = ap (λ (t : List ℕ). t ++ line) (nothing refl) ∙ sym given in
        (subst (λ (r : NextLine). Cuts (Ok r) text new after) (sym cut.0) (subst HasNoFeed front none, subst (λ (t : List ℕ). length t ≤ LONGEST_LINE) (sym given) fits, Fed (whole ∙ ap (λ (t : List ℕ). t ++ LINE_FEED ∷ rest) front ∙ ap (λ (t : List ℕ). new.line ++ LINE_FEED ∷ t) (sym pending)) (ap (λ (s : ReaderState). s.stage) cut.1 ∙ stage)), ap (λ (s : ReaderState). s.reads) cut.1)

end_cases : (long : Bool) (result : NextLine) (fill new : ReaderState) (after : SourceState) (dropped text : List ℕ) → text ≡ dropped ++ fill.pending → HasNoFeed (dropped ++ fill.pending) → length fill.pending ≤ LONGEST_LINE → fill.stage ≡ stages.Ended → HasNoMore after
    → (long ≡ true → LONGEST_LINE < length dropped) → (long ≡ false → dropped ≡ []) → Finishes long result fill new → Cuts (Ok result) text new after × (new.reads ≡ fill.reads)
end_cases long result fill new after dropped text whole none few stage no_more too_long nothing (Dropped is made same) =
    let some : dropped ++ fill.pending ≢ [] = λ e. omega (arith, too_long is, length-append dropped fill.pending, ap (λ (t : List ℕ). length t) e) in
    let ended : AtEnd new after = record { pending = ap (λ (s : ReaderState). s.pending) same; stage = ap (λ (s : ReaderState). s.stage) same ∙ stage; no_more = no_more } in
    (subst (λ (r : NextLine). Cuts (Ok r) text new after) (sym made) (dropped ++ fill.pending, none, omega (arith, too_long is, length-append dropped fill.pending), Last whole some ended), ap (λ (s : ReaderState). s.reads) same)
end_cases long result fill new after dropped text whole none few stage no_more too_long nothing (Nothing is empty made same) =
    let ended : AtEnd new after = record { pending = ap (λ (s : ReaderState). s.pending) same ∙ empty; stage = ap (λ (s : ReaderState). s.stage) same ∙ stage; no_more = no_more } in
    let no_text : text ≡ [] = whole ∙ ap (λ (t : List ℕ). t ++ fill.pending) (nothing is) ∙ empty in
    (subst (λ (r : NextLine). Cuts (Ok r) text new after) (sym made) (no_text, ended), ap (λ (s : ReaderState). s.reads) same)
end_cases long result fill new after dropped text whole none few stage no_more too_long nothing (Given is some made same) =
    let given : new.line ≡ fill.pending = ap (λ (s : ReaderState). s.line) same in
    let ended : AtEnd new after = record { pending = ap (λ (s : ReaderState). s.pending) same; stage = ap (λ (s : ReaderState). s.stage) same ∙ stage; no_more = no_more } in
    let all : text ≡ new.line = whole ∙ ap (λ (t : List ℕ). t ++ fill.pending) (nothing is) ∙ sym given in
    let clean : HasNoFeed new.line = subst HasNoFeed (ap (λ (t : List ℕ). t ++ fill.pending) (nothing is) ∙ sym given) none in
    (subst (λ (r : NextLine). Cuts (Ok r) text new after) (sym made) (clean, subst (λ (t : List ℕ). length t ≤ LONGEST_LINE) (sym given) few, Last all (λ e. some (sym given ∙ e)) ended), ap (λ (s : ReaderState). s.reads) same)

-- the source has ended
pub finished : (long : Bool) (result : NextLine) (old mid fill new : ReaderState) (from to after : SourceState) (more : List ℕ) → Looking long old mid from to → length mid.pending ≤ LONGEST_LINE → FilledWith more mid fill to after → more ≡ []
    → Finishes long result fill new → Advances (Ok result) old new from after
finished long result old mid fill new from to after more is few filled none end =
    let ended = filled.ended none in
    let same : fill.pending ≡ mid.pending = filled.pending ∙ ap (λ (t : List ℕ). mid.pending ++ t) none ∙ append-nil mid.pending in
    let whole : old.pending ++ (is.these ++ more) ≡ is.dropped ++ fill.pending = whole_after old mid fill is.these more is.dropped is.whole filled.pending in
    let clean : HasNoFeed (is.dropped ++ fill.pending) = subst HasNoFeed (is.whole ∙ ap (λ (t : List ℕ). is.dropped ++ t) (sym same)) is.no_feed in
    let cuts = end_cases long result fill new after is.dropped (old.pending ++ (is.these ++ more)) whole clean (subst (λ (t : List ℕ). length t ≤ LONGEST_LINE) (sym same) few) ended.0 ended.2 is.too_long is.nothing_dropped end in
    record {
      these = is.these ++ more;
      took = took_then is.these more from to after is.took filled.took;
      later = omega (arith, ended.1, is.later, cuts.1);
      each_took = omega (arith, ended.1, is.each_took, length-append is.these more, cuts.1);
      by_reads = λ any. let risen = is.by_reads (λ e. any (ap (λ (t : List ℕ). t ++ more) e ∙ none)) in omega (arith, ended.1, cuts.1, risen);
      bounded = λ was. let within = is.within was.reads in end_bounded long result fill new (record { reads = omega (arith, within, ended.1); pending = omega (arith, few, ap (λ (t : List ℕ). length t) same) }) end;
      prompt = prompt_after old mid new is.these more (behind_is old.pending is.these is.no_feed) is.each_took (omega (arith, ended.1, cuts.1));
      cause = filled.faults ∙ is.faults;
      cuts = cuts.0;
    }

cause_from : (new : ReaderState) (from to after : SourceState) → to.faults ≡ from.faults → FailCause new to after → FailCause new from after
cause_from new from to after same (inl risen) = inl (risen ∙ ap counted same)
cause_from new from to after same (inr spent) = inr (spent.0, spent.1 ∙ same)

-- a read failed, or the budget was spent
pub failed : (long : Bool) (fault : StreamFault) (old mid new : ReaderState) (from to after : SourceState) → Looking long old mid from to → FailedFill mid new to after → Advances (Err fault) old new from after
failed long fault old mid new from to after is fail = record {
  these = is.these ++ [];
  took = took_then is.these [] from to after is.took fail.took;
  later = omega (arith, fail.reads, is.later);
  each_took = omega (arith, fail.reads, is.each_took, length-append is.these []);
  by_reads = λ any. let risen = is.by_reads (λ e. any (ap (λ (t : List ℕ). t ++ []) e)) in omega (arith, fail.reads, risen);
  bounded = λ was. tt;
  prompt = prompt_after old mid new is.these [] (behind_is old.pending is.these is.no_feed) is.each_took (omega (arith, fail.reads));
  cause = cause_from new from to after is.faults fail.cause;
  cuts = fail.stage;
}

-- a whole line was taken before
pub at_once : (result : NextLine) (old new : ReaderState) (source : SourceState) (at : ℕ) → old.stage ≡ stages.Open → length old.pending ≤ LONGEST_LINE + 1 → at < length old.pending → HasNoFeed (take at old.pending) → get_or old.pending at 0 ≡ LINE_FEED
    → CutsAt at false result old new → Advances (Ok result) old new source source
at_once result old new source at stage few inside none here cut =
    let text : old.pending ++ [] ≡ take at old.pending ++ LINE_FEED ∷ drop (at + 1) old.pending = append-nil old.pending ∙ around old.pending at LINE_FEED inside here in
    let given : new.line ≡ take at old.pending = ap (λ (s : ReaderState). s.line) cut.1 in
    let pending : new.pending ≡ drop (at + 1) old.pending = ap (λ (s : ReaderState). s.pending) cut.1 in
    let reads : new.reads ≡ old.reads = ap (λ (s : ReaderState). s.reads) cut.1 in
    let fits : length new.line ≤ LONGEST_LINE = omega (arith, ap (λ (t : List ℕ). length t) given, length-take-le at old.pending (omega (arith, inside)), few, inside) in
    let whole : old.pending ++ [] ≡ new.line ++ LINE_FEED ∷ new.pending = text ∙ ap (λ (t : List ℕ). t ++ LINE_FEED ∷ drop (at + 1) old.pending) (sym given) ∙ ap (λ (t : List ℕ). new.line ++ LINE_FEED ∷ t) (sym pending) in
    record {
      these = [];
      took = took_nothing source;
      later = omega (arith, reads);
      each_took = omega (arith, reads);
      by_reads = λ any. absurd (any refl);
      bounded = λ was. cut_bounded false result at old new was cut;
      prompt = record { early = []; late = []; whole = refl; no_feed = All-nil IsNoFeed; reads = omega (arith, reads) };
      cause = subst (λ (r : NextLine). HasFailCause (Ok r) new source source) (sym cut.0) refl;
      cuts = subst (λ (r : NextLine). Cuts (Ok r) (old.pending ++ []) new source) (sym cut.0) (subst HasNoFeed (sym given) none, fits, Fed whole (ap (λ (s : ReaderState). s.stage) cut.1 ∙ stage));
    }

go_whole : (line text : List ℕ) (new : ReaderState) (to : SourceState) (now : List ℕ) → to.left ≡ Some now → HasNoFeed line → BeginsWith line text new to → lines_of (text ++ now) ≡ line ∷ lines_of (new.pending ++ now)
go_whole line text new to now told none (Fed whole stage) = ap (λ (t : List ℕ). lines_of (t ++ now)) whole ∙ ap lines_of (append_assoc line (LINE_FEED ∷ new.pending) now) ∙ fed_line line (new.pending ++ now) none
go_whole line text new to now told none (Last whole some ended) =
    let nothing : now ≡ [] = subst (λ (o : Option (List ℕ)). IfSome o (λ left. left ≡ [])) told ended.no_more in
    let first : lines_of (text ++ now) ≡ line ∷ [] = ap (λ (t : List ℕ). lines_of (text ++ t)) nothing ∙ ap lines_of (append-nil text ∙ whole) ∙ last_line line none some in
    let rest : lines_of (new.pending ++ now) ≡ [] = ap (λ (t : List ℕ). lines_of (t ++ now)) ended.pending ∙ ap lines_of nothing in
    first ∙ ap (λ (t : List (List ℕ)). line ∷ t) (sym rest)

go_told : (result : Result NextLine StreamFault) (text : List ℕ) (new : ReaderState) (to : SourceState) (now : List ℕ) → to.left ≡ Some now → Cuts result text new to → GoesOn result (lines_of (text ++ now)) new (lines_of (new.pending ++ now))
go_told (Ok nexts.Whole) text new to now told cuts = (cuts.1, go_whole new.line text new to now told cuts.0 cuts.2)
go_told (Ok nexts.TooLong) text new to now told cuts = (cuts.0, cuts.2, go_whole cuts.0 text new to now told cuts.1 cuts.3)
go_told (Ok nexts.End) text new to now told cuts =
    let ended = cuts.1 in
    let nothing : now ≡ [] = subst (λ (o : Option (List ℕ)). IfSome o (λ left. left ≡ [])) told ended.no_more in
    (ap (λ (t : List ℕ). lines_of (t ++ now)) cuts.0 ∙ ap lines_of nothing, ap (λ (t : List ℕ). lines_of (t ++ now)) ended.pending ∙ ap lines_of nothing)
go_told (Err fault) text new to now told cuts = tt

go_both : (result : Result NextLine StreamFault) (old new : ReaderState) (these : List ℕ) (to : SourceState) (o p : Option (List ℕ)) → to.left ≡ p → Both o p (λ before now. before ≡ these ++ now) → Cuts result (old.pending ++ these) new to
    → Both o p (λ before now. GoesOn result (lines_of (old.pending ++ before)) new (lines_of (new.pending ++ now)))
go_both result old new these to None None told left cuts = tt
go_both result old new these to None (Some now) told left cuts = absurd left
go_both result old new these to (Some before) None told left cuts = absurd left
go_both result old new these to (Some before) (Some now) told left cuts =
    let whole : (old.pending ++ these) ++ now ≡ old.pending ++ before = append_assoc old.pending these now ∙ ap (λ (t : List ℕ). old.pending ++ t) (sym left) in
    subst (λ (t : List ℕ). GoesOn result (lines_of t) new (lines_of (new.pending ++ now))) whole (go_told result (old.pending ++ these) new to now told cuts)

-- so the lines go on
pub lines_go_on : (result : Result NextLine StreamFault) (old new : ReaderState) (from to : SourceState) → Advances result old new from to → LinesGoOn result old new from to
lines_go_on result old new from to is = go_both result old new is.these to from.left to.left refl is.took.left is.cuts
