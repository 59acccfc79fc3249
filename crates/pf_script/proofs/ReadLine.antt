-- The line `read`, from the contract of a read.
use Rattle.std.proofs.Common.{◌≡◌, ◌⊎◌, inl, inr, true, false, List, [], ◌∷◌, ◌++◌, ℕ, ◌-◌, ◌<◌, ◌≤◌, min, refl, sym, ◌∙◌, ap, subst, Some, Result, Ok, Err, length, take, drop, cond, arith}
use Rattle.std.proofs.lemmas.List.{append-nil, take_min, take_all, drop_all, length-drop}
use Rattle.node_layout.specs.declared.damage.Damage.{Damage}
use Rattle.node_tree.specs.Backing.{now}
use Rattle.node_tree.specs.Fetching.{host_part}
use Rattle.node_tree.specs.Opened.{AtNodes, Given, Fails, is_short, root_fails, child_fails}
use Rattle.node_tree.specs.Parts.{IsBroken}
use Rattle.node_tree.specs.Reading.{Reads, ReadsFew, ReadEnds, DamageComes, IsForeign}
use Rattle.node_tree.specs.Sheet.{Sheet, IsLinked}
use Rattle.node_tree.specs.State.{TreeState, Held, root_in, readable}
use Rattle.node_tree.specs.Unforged.{GivenOf, Unforged}
use Rattle.node_tree.specs.declared.fault.TreeFault.{TreeFault}
use Rattle.node_tree.specs.declared.fault.TreeFault.TheVariants as trees
use Rattle.node_tree.proofs.Giving.{unforged_gives}
use Rattle.pf_io.specs.Counts.{HasCause}
use Rattle.pf_io.specs.Disk.{Name}
use Rattle.pf_io.specs.Host.{Answer, HostState, KeepsRest, OnDisk, WhereTold}
use Rattle.pf_io.specs.Names.{side_of}
use Rattle.pf_io.specs.Unchanged.{KeepsDisk}
use Rattle.pf_io.specs.Words.{WordsState}
use Rattle.pf_io.proofs.Telling.{told_weaker}
use Rattle.pf_session.specs.Backing.{IsBacked}
use Rattle.pf_session.specs.Moving.{IsKeptOn}
use Rattle.pf_session.specs.Reading.{KeepsFields, StaysRead, BackedRead, ReadsStanding}
use Rattle.pf_session.specs.State.{SessionState, file_of}
use Rattle.pf_session.proofs.Created.{aside_kept}
use Rattle.pf_script.specs.BookSeats.{Covers, KeepsUnder}
use Rattle.pf_script.specs.Desk.{IsSeated, IsLike, Shows, whole_file, seat_on}
use Rattle.pf_script.specs.DeskSteps.{SeatAsks, SeatCaused, HoldsMore, to_read, SeatGoes}
use Rattle.pf_script.specs.Rules.{NoneRefuses, rules, refuses}
use Rattle.pf_script.specs.Script.{OwnSeat, Seat, Own}
use Rattle.pf_script.specs.SeatReplies.{read_reply}
use Rattle.pf_script.specs.SeatSteps.{PIECE}
use Rattle.pf_script.specs.Turns.{SeatTurn, accepted, host_failed, was_damaged, read, not_read, ByHost, ByDamage, IsShort, IsClosed, BlamesFetch, FetchDamage, Caused, on_carried}
use Rattle.pf_script.specs.declared.line.ScriptLine.TheVariants as lines
use Rattle.pf_script.specs.declared.reply.Reply.{Reply}
use Rattle.pf_script.specs.declared.reply.Reply.TheVariants as replies
use Rattle.pf_script.specs.declared.reply.Why.TheVariants as whys
use Rattle.pf_script.proofs.FewAsked.{TakesFew}
use Rattle.pf_script.proofs.Flushed.{length_now}
use Rattle.pf_script.proofs.Liking.{like_some}
use Rattle.pf_script.proofs.OfScript.{of_read}
use Rattle.pf_script.proofs.ReadKeeping.{read_keeps}
use Rattle.pf_script.proofs.Refusing.{at_last, none_then, none_taken}
use Rattle.pf_script.proofs.SeatCalls.{seen_by, own_same, SheetTurns, whole_turns, shows_same, goes_told, goes_wanting}
use Rattle.pf_script.proofs.Showing.{shows_whole, shows_still}
use Rattle.pf_script.proofs.StepFacts.{told_also, told_came}
use Rattle.pf_script.proofs.WantFlushes.{kept_flushes}
use Rattle.std.specs.Prelude.{Contains, IfOk, OnErr}

-- all of a buffer was lent
pub lent_all : (new old : List ℕ) → length new ≡ length old → take (length old) (new ++ drop (length new) old) ≡ new
lent_all new old same =
    ap (λ (l : List ℕ). take (length old) (new ++ l)) (drop_all (length new) old (omega (arith, same))) ∙ ap (λ (l : List ℕ). take (length old) l) (append-nil new) ∙ take_all (length old) new (omega (arith, same))

-- the cause of a damage
abbrev pub ReadBlames : Result ℕ TreeFault → Sheet → Name → List Answer → Type 0
ReadBlames (Ok n) base name given = Unit {0}
ReadBlames (Err (trees.Damaged damage)) base name given = BlamesFetch base name given (ByDamage damage)
ReadBlames (Err trees.Host) base name given = Unit {0}
ReadBlames (Err trees.Memory) base name given = Unit {0}

abbrev pub ReadFacts : Result ℕ TreeFault → ℕ → List ℕ → SessionState → SessionState → List Answer → Type 0
ReadFacts result at buffer old new given =
    (base : Sheet) → IsBacked base old → GivenOf base (Given old.name given) → StaysRead result base (Given (file_of old) given) at buffer old new × ReadBlames result base old.name given

-- no rule refuses a read of few bytes from a whole seat
pub read_passes : (key : List ℕ) (k at count : ℕ) (own : OwnSeat) → own.broken ≡ false → count ≤ 32768 → NoneRefuses (rules key false (Own own) (lines.Read k at count) [])
read_passes key k at count own whole few = none_then (refuses whys.TooLong (PIECE < count) ∷ []) (Own own) own refl whole ((λ other long. omega (arith, long.1, few)), tt)

module _ (key : List ℕ) (k at count : ℕ) (old : SessionState) (seated : IsSeated key old) (whole : old.broken ≡ false) (new : SessionState) (fields : KeepsFields old new) (result : Result ℕ TreeFault) (buffer : List ℕ)
    (room : length buffer ≡ min count (old.tree.size - at)) (before after : HostState) (reads : Reads result (file_of old) at buffer old.tree new.tree before after) where
  file_is : file_of old ≡ old.name
  file_is = ap (λ b. cond b (side_of old.name) old.name) seated.of_script.named

  of_file : (base : Sheet) (these : List Answer) → GivenOf base (Given old.name these) → GivenOf base (Given (file_of old) these)
  of_file base these given = subst (λ (n : Name). GivenOf base (Given n these)) (sym file_is) given

  blames : (damage : Damage) (n : ℕ) (base : Sheet) (these : List Answer) → IsBroken (Held old.tree) (Given (file_of old) these) (root_in old.tree) at n damage → IsForeign base (Given (file_of old) these) damage.node
      → BlamesFetch base old.name these (ByDamage damage)
  blames damage n base these breaks foreign = by_fails breaks.fails
    where
      by_fails : Fails (Held old.tree) (Given (file_of old) these) (root_in old.tree) damage.node damage.kind → BlamesFetch base old.name these (ByDamage damage)
      by_fails (is_short block free gave short kind) = inl (record { block = block; gave = subst (λ (n : Name). Given n these damage.node block) file_is gave; short = short; kind_is = kind })
      by_fails (root_fails block free first gave fails kind) = inr (record { foreign = subst (λ (n : Name). IsForeign base (Given n these) damage.node) file_is foreign; kind_is = kind })
      by_fails (child_fails parent block free low opened gave fails kind) = inr (record { foreign = subst (λ (n : Name). IsForeign base (Given n these) damage.node) file_is foreign; kind_is = kind })

  -- a damage is of a block that came, also where something is forged
  comes : (damage : Damage) (n : ℕ) → IsBroken (Held old.tree) (Given (file_of old) reads.these) (root_in old.tree) at n damage → (seat : Seat) → IsLike seat (Some old) → FetchDamage seat reads.these damage
  comes damage n breaks seat like =
      let on = like_some seat old like in
      subst (λ (s : Seat). FetchDamage s reads.these damage) (sym on.seat_is) (by_fails on.own.name (file_is ∙ sym on.like.name_is) breaks.fails)
    where
      by_fails : (name : Name) → file_of old ≡ name → Fails (Held old.tree) (Given (file_of old) reads.these) (root_in old.tree) damage.node damage.kind → IsShort name reads.these damage ⊎ IsClosed name reads.these damage
      by_fails name is (is_short block free gave short kind) = inl (record { block = block; gave = subst (λ (n : Name). Given n reads.these damage.node block) is gave; short = short; kind_is = kind })
      by_fails name is (root_fails block free first gave fails kind) = inr (record { block = block; gave = subst (λ (n : Name). Given n reads.these damage.node block) is gave; whole = fails.whole; kind_is = kind })
      by_fails name is (child_fails parent block free low opened gave fails kind) = inr (record { block = block; gave = subst (λ (n : Name). Given n reads.these damage.node block) is gave; whole = fails.whole; kind_is = kind })

  abbrev Backed : Result ℕ TreeFault → List Answer → Type 0
  Backed r these = (base : Sheet) → GivenOf base (Given (file_of old) these) → IsBacked base old → StaysRead r base (Given (file_of old) these) at buffer old new

  facts_told : (r : Result ℕ TreeFault) → BackedRead r at buffer old new before after → DamageComes r (file_of old) at (length buffer) old.tree before after → WhereTold before after (ReadFacts r at buffer old new)
  facts_told (Ok n) backed damage =
      told_weaker (Backed (Ok n)) (ReadFacts (Ok n) at buffer old new) before after (told_came (Backed (Ok n)) before after backed) (λ these facts base on given. (facts base (of_file base these given) on, tt))
  facts_told (Err (trees.Damaged d)) backed damage =
      told_also (Backed (Err (trees.Damaged d))) (λ these. IsBroken (Held old.tree) (Given (file_of old) these) (root_in old.tree) at (readable old.tree at (length buffer)) d) (ReadFacts (Err (trees.Damaged d)) at buffer old new) before after
      (told_came (Backed (Err (trees.Damaged d))) before after backed)
      (told_came (λ these. IsBroken (Held old.tree) (Given (file_of old) these) (root_in old.tree) at (readable old.tree at (length buffer)) d) before after damage)
      (λ these facts breaks base on given.
      let stays = facts base (of_file base these given) on in
      (stays, blames d (readable old.tree at (length buffer)) base these breaks stays.damage))
  facts_told (Err trees.Host) backed damage =
      told_weaker (Backed (Err trees.Host)) (ReadFacts (Err trees.Host) at buffer old new) before after (told_came (Backed (Err trees.Host)) before after backed) (λ these facts base on given. (facts base (of_file base these given) on, tt))
  facts_told (Err trees.Memory) backed damage =
      told_weaker (Backed (Err trees.Memory)) (ReadFacts (Err trees.Memory) at buffer old new) before after (told_came (Backed (Err trees.Memory)) before after backed) (λ these facts base on given. (facts base (of_file base these given) on, tt))

  -- what was read is the slice that the line asks for
  pub slice_is : (n : ℕ) → n ≡ readable old.tree at (length buffer) → (base : Sheet) → take n buffer ≡ take n (drop at (now base old.tree)) → buffer ≡ take count (drop at (now base old.tree))
  slice_is n counted base slice =
      let rest = drop at (now base old.tree) in
      let long : length rest ≡ old.tree.size - at = length-drop at (now base old.tree) ∙ ap (λ m. m - at) (length_now base old.tree) in
      let is : n ≡ min count (length rest) = omega (arith, counted, room, long) in
      let all : n ≡ length buffer = omega (arith, counted, room) in
      sym (ap (λ m. take m buffer) all ∙ take_all (length buffer) buffer (omega arith)) ∙ slice ∙ ap (λ m. take m rest) is ∙ take_min count rest

  -- the seat stays as it is
  pub same_seat : (base : Sheet) → now base new.tree ≡ now base old.tree → seat_on base old ≡ seat_on base new
  same_seat base same =
      own_same base old.key new.key old.name new.name (now base old.tree) (now base new.tree) old.tree.dirty new.tree.dirty old.changed new.changed old.drawn new.drawn old.broken new.broken
      (sym (ap (λ (s : SessionState). s.key) fields)) (sym (ap (λ (s : SessionState). s.name) fields)) (sym same) (sym (ap (λ (t : TreeState). t.dirty) reads.rest)) (sym (ap (λ (s : SessionState). s.changed) fields))
      (sym (ap (λ (s : SessionState). s.drawn) fields)) (sym (ap (λ (s : SessionState). s.broken) fields))

  pub whole_new : new.broken ≡ false
  whole_new = ap (λ (s : SessionState). s.broken) fields ∙ whole

  seated_new : IsSeated key new
  seated_new = record {
    of_script = of_read old new seated.of_script fields;
    key_is = ap (λ (s : SessionState). s.key) fields ∙ seated.key_is;
    clean = λ also unchanged. ap (λ (t : TreeState). t.dirty) reads.rest ∙ seated.clean whole (sym (ap (λ (s : SessionState). s.changed) fields) ∙ unchanged);
  }

  module _ (few : count ≤ 32768) (given : List Answer) where
    pub kept_new : (base : Sheet) → IsKeptOn base old → IsBacked base new → now base new.tree ≡ now base old.tree → IsKeptOn base new
    kept_new base kept backed same = record {
      backed = backed;
      rests = λ unchanged.
          let was = kept.rests (sym (ap (λ (s : SessionState). s.changed) fields) ∙ unchanged) in
          record { stands = record { backed = backed; now_is = same ∙ was.stands.now_is }; clean = ap (λ (t : TreeState). t.dirty) reads.rest ∙ was.clean };
    }

    -- on a sheet of those that were sealed
    on_sheet : (r : Result ℕ TreeFault) → ReadFacts r at buffer old new given → (sealed : List Sheet) (base : Sheet) → Contains sealed base → IsBacked base old → Unforged key (sealed ++ []) given
        → StaysRead r base (Given (file_of old) given) at buffer old new × ReadBlames r base old.name given
    on_sheet r facts sealed base among backed unforged =
        facts base backed ((unforged_gives key sealed given (subst (λ (l : List Sheet). Unforged key l given) (append-nil sealed) unforged)).nodes old.name base among)

    shows_new : (sealed : List Sheet) (base : Sheet) → Contains sealed base → IsLinked base → IsKeptOn base old → IsBacked base new → now base new.tree ≡ now base old.tree → Shows (sealed ++ []) (Own (seat_on base old)) (Some new)
    shows_new sealed base among linked kept backed same = shows_same sealed (Own (seat_on base old)) (Some new) (whole_file base new whole_new among linked (kept_new base kept backed same) (ap Own (same_seat base same)) refl)

    -- where memory was wanting
    shows_as_it_did : ReadFacts (Err trees.Memory) at buffer old new given → (sealed : List Sheet) (seat : Seat) → Shows sealed seat (Some old) → Unforged key sealed given → Shows sealed seat (Some new)
    shows_as_it_did facts sealed seat shows unforged =
        let on = shows_whole sealed seat old whole shows in
        let out = (facts on.sheet on.kept.backed ((unforged_gives key sealed given unforged).nodes old.name on.sheet on.among)).0 in
        whole_file on.sheet new whole_new on.among on.linked (kept_new on.sheet on.kept out.backed out.same) (on.seat_is ∙ ap Own (same_seat on.sheet out.same)) refl

    given_turns : (n : ℕ) → n ≡ readable old.tree at (length buffer) → ReadFacts (Ok n) at buffer old new given → SheetTurns key false (lines.Read k at count) (seen_by given [] false false) (replies.Given buffer) old (Some new) given
    given_turns n counted facts sealed base among linked kept =
        let own = seat_on base old in
        at_last [] (inl refl) (λ unforged.
        let out = on_sheet (Ok n) facts sealed base among kept.backed unforged in (
          Own own,
          subst (λ (b : List ℕ). SeatTurn (on_carried key sealed) key false (Own own) (lines.Read k at count) (seen_by given [] false false) (replies.Given b) [] (Own own)) (sym (slice_is n counted base out.0.slice))
              (accepted (read_passes key k at count own whole few) (record { host = refl; random = refl }) (read k at count own refl)),
          shows_new sealed base among linked kept out.0.backed out.0.same,
        ))

    damage_turns : (d : Damage) → ReadFacts (Err (trees.Damaged d)) at buffer old new given → SheetTurns key false (lines.Read k at count) (seen_by given [] false false) (replies.DamagedNode d) old (Some new) given
    damage_turns d facts sealed base among linked kept =
        let own = seat_on base old in
        at_last [] (inl refl) (λ unforged.
        let out = on_sheet (Err (trees.Damaged d)) facts sealed base among kept.backed unforged in (
          Own own,
          was_damaged d (read_passes key k at count own whole few) (record { host = refl; random = refl }) (not_read k at count own (ByDamage d) refl out.1) refl,
          shows_new sealed base among linked kept out.0.backed out.0.same,
        ))

    host_turns : ReadFacts (Err trees.Host) at buffer old new given → SheetTurns key false (lines.Read k at count) (seen_by given [] true false) replies.HostFault old (Some new) given
    host_turns facts sealed base among linked kept =
        let own = seat_on base old in
        at_last [] (inl refl) (λ unforged.
        let out = on_sheet (Err trees.Host) facts sealed base among kept.backed unforged in (
          Own own,
          host_failed (read_passes key k at count own whole few) (record { host = refl; random = refl }) (not_read k at count own ByHost refl tt) refl,
          shows_new sealed base among linked kept out.0.backed out.0.same,
        ))

  module _ (words : WordsState) (asked : ReadsFew at (length buffer) old.tree before after) (few : count ≤ 32768) (books : OnDisk before after (KeepsUnder (Covers old) (Covers new) (λ name. name ≡ old.name))) (disk : KeepsDisk before after) where
    -- no rule refuses on a seat that is like the session
    passes_like : (seat : Seat) → IsLike seat (Some old) → NoneRefuses (rules key false seat (lines.Read k at count) [])
    passes_like seat like =
        let on = like_some seat old like in
        subst (λ (s : Seat). NoneRefuses (rules key false s (lines.Read k at count) [])) (sym on.seat_is) (read_passes key k at count on.own (on.like.broken_is ∙ whole) few)

    takes : TakesFew (lines.Read k at count) (Some old) before after words words
    takes = (λ wordless. refl, subst (λ n. ReadsFew at n old.tree before after) room asked)

    -- the session is as before, but for what was fetched
    holds : HoldsMore old new
    holds = record { fields = fields; tree = reads.rest; held = reads.fetched.kept }

    caused_by : (reply : Reply) → ((seat : Seat) → IsLike seat (Some old) → Caused key false seat (lines.Read k at count) reads.these reply) → SeatCaused key false (lines.Read k at count) reply (Some old) before after
    caused_by reply caused = record { given = reads.these; told = reads.answered.told; caused = caused }

    by_result : (r : Result ℕ TreeFault) → ReadEnds r (Given (file_of old) reads.these) at buffer old.tree new.tree → HasCause before.faults after.faults (host_part r) → WhereTold before after (ReadFacts r at buffer old new)
        → SeatGoes key false (lines.Read k at count) (read_reply buffer r) (Some old) (Some new) before after words words
    by_result (Ok n) ends cause told =
        goes_told key false (lines.Read k at count) old before after words words (aside_kept old.name before after disk) takes (replies.Given buffer) (cause.still, refl) new
        (told_weaker (ReadFacts (Ok n) at buffer old new) (λ given. SeatAsks key false (lines.Read k at count) (replies.Given buffer) (Some old) (Some new) given before after words words) before after told
        (λ given facts. record {
          seen = seen_by given [] false false;
          was_seen = record { answers = refl; words = none_taken words; of_host = cause.still; of_words = refl };
          turns = whole_turns key false (lines.Read k at count) (seen_by given [] false false) (replies.Given buffer) old (Some new) given whole (given_turns few given n ends.0 facts);
        })) (caused_by (replies.Given buffer) passes_like) (to_read k at count buffer old new room holds) books seated_new (ap (λ (s : SessionState). s.name) fields)
    by_result (Err (trees.Damaged d)) ends cause told =
        goes_told key false (lines.Read k at count) old before after words words (aside_kept old.name before after disk) takes (replies.DamagedNode d) (cause.still, refl) new
        (told_weaker (ReadFacts (Err (trees.Damaged d)) at buffer old new) (λ given. SeatAsks key false (lines.Read k at count) (replies.DamagedNode d) (Some old) (Some new) given before after words words) before after told
        (λ given facts. record {
          seen = seen_by given [] false false;
          was_seen = record { answers = refl; words = none_taken words; of_host = cause.still; of_words = refl };
          turns = whole_turns key false (lines.Read k at count) (seen_by given [] false false) (replies.DamagedNode d) old (Some new) given whole (damage_turns few given d facts);
        })) (caused_by (replies.DamagedNode d) (λ seat like. (passes_like seat like, comes d (readable old.tree at (length buffer)) ends seat like))) holds books seated_new (ap (λ (s : SessionState). s.name) fields)
    by_result (Err trees.Host) ends cause told =
        goes_told key false (lines.Read k at count) old before after words words (aside_kept old.name before after disk) takes replies.HostFault (cause.once, refl) new
        (told_weaker (ReadFacts (Err trees.Host) at buffer old new) (λ given. SeatAsks key false (lines.Read k at count) replies.HostFault (Some old) (Some new) given before after words words) before after told
        (λ given facts. record {
          seen = seen_by given [] true false;
          was_seen = record { answers = refl; words = none_taken words; of_host = cause.once; of_words = refl };
          turns = whole_turns key false (lines.Read k at count) (seen_by given [] true false) replies.HostFault old (Some new) given whole (host_turns few given facts);
        })) (caused_by replies.HostFault passes_like) holds books seated_new (ap (λ (s : SessionState). s.name) fields)
    by_result (Err trees.Memory) ends cause told =
        goes_wanting key false (lines.Read k at count) old before after words words (aside_kept old.name before after disk) takes (record {}) new
        (record {
          takes = λ none. none;
          early = λ none. absurd none;
          shows = shows_still key (Some old) (Some new) before after (ReadFacts (Err trees.Memory) at buffer old new) told (shows_as_it_did few);
          ends = inl (record { seat = holds; disk = disk; words = refl });
          flushes = λ session is. kept_flushes (lines.Read k at count) session before after disk;
        }) books seated_new
        (ap (λ (s : SessionState). s.name) fields) cause.still refl

pub ends_count : (r : Result ℕ TreeFault) (given : AtNodes) (at : ℕ) (buffer : List ℕ) (old new : TreeState) → ReadEnds r given at buffer old new → IfOk r (λ n. n ≡ readable old at (length buffer))
ends_count (Ok n) given at buffer old new ends = ends.0
ends_count (Err fault) given at buffer old new ends = tt

pub read_goes : (key : List ℕ) (k at count : ℕ) (old new : SessionState) (result : Result ℕ TreeFault) (buffer : List ℕ) (before after : HostState) (words : WordsState) → IsSeated key old → old.broken ≡ false → count ≤ 32768
    → length buffer ≡ min count (old.tree.size - at) → KeepsFields old new → Reads result (file_of old) at buffer old.tree new.tree before after → HasCause before.faults after.faults (host_part result)
    → BackedRead result at buffer old new before after → DamageComes result (file_of old) at (length buffer) old.tree before after → ReadsStanding result at buffer old new before → KeepsDisk before after
    → ReadsFew at (length buffer) old.tree before after → SeatGoes key false (lines.Read k at count) (read_reply buffer result) (Some old) (Some new) before after words words
read_goes key k at count old new result buffer before after words seated whole few room fields reads cause backed damage standing disk asked =
    by_result key k at count old seated whole new fields result buffer room before after reads words asked few (read_keeps old seated.of_script new result at buffer before after fields (ap (λ (t : TreeState). t.dirty) reads.rest) standing disk) disk result
    reads.ends cause (facts_told key k at count old seated whole new fields result buffer room before after reads result backed damage)

-- a read keeps the length of its buffer
pub same_length : (result : Result ℕ TreeFault) (old new : List ℕ) → IfOk result (λ n. KeepsRest n old new) → OnErr result (new ≡ old) → length new ≡ length old
same_length (Ok n) old new rest stays = rest.same_length
same_length (Err fault) old new rest stays = ap length stays
