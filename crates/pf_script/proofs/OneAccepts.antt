-- What an accepted line comes to on seats that are alike, by the same words.
use Rattle.std.proofs.Common.{◌≡◌, ◌⊎◌, inl, inr, ℕ, true, false, List, [], ◌∷◌, ◌++◌, length, take, drop, refl, ap, ◌∙◌, sym, subst, append_assoc, Some, None}
use Rattle.std.proofs.lemmas.Option.{same_Some}
use Rattle.node_tree.specs.Applying.{Step}
use Rattle.node_tree.specs.Sheet.{Sheet}
use Rattle.pf_io.specs.Disk.{Name}
use Rattle.pf_script.specs.BookActs.{Move, Act}
use Rattle.pf_script.specs.BookDebts.{seat_of}
use Rattle.pf_script.specs.Script.{OwnSeat, Seat, Own}
use Rattle.pf_script.specs.SeatSteps.{resealed, renamed, MakesAll, AsksFor}
use Rattle.pf_script.specs.Turns.{Seen, Standing, Accepts, created, read, changed, flushed, moved, drawn_again, drawn_now, let_go, flushed_last, new_seat, flushes, FlushedToMove, as_it_was, was_changed, some_sheet, IsChangeReply, to_write, to_fill, to_size}
use Rattle.pf_script.specs.declared.line.ScriptLine.{ScriptLine}
use Rattle.pf_script.specs.declared.line.ScriptLine.TheVariants as lines
use Rattle.pf_script.specs.declared.reply.Reply.{Reply}
use Rattle.pf_script.specs.declared.reply.Reply.TheVariants as replies
use Rattle.pf_script.proofs.OneLike.{LikeOwn, LikeSeat, both_empty, both_own, LikeSeal, LikeSheet, LikeSheets, creations, flushes as flush_deeds, moves, LikeActs, LikeEnds}
use Rattle.pf_script.proofs.OneWords.{front_one, rest_one, seals_words, seals_sheet, moved_words, moved_sheet, empty_words, empty_like}
use Rattle.pf_script.proofs.OneSteps.{LikeSteps, steps_one, asked_one, resealed_like}

pub new_like : (key : List ℕ) (name : Name) (sheet base : Sheet) → LikeSheet name sheet base → LikeOwn key (new_seat key name sheet) (new_seat key name base)
new_like key name sheet base like = record { key_is = refl; other_key = refl; name = refl; content = like.content; dirty = refl; changed = refl; drawn = refl; broken = refl }

own_seal : (key : List ℕ) (own other : OwnSeat) (sheet base : Sheet) → LikeOwn key own other → LikeSheet own.name sheet base → LikeSeal key (seat_of own.key own.name sheet) (seat_of other.key other.name base)
own_seal key own other sheet base like sheets = record { key_is = like.key_is; other_key = like.other_key; name = like.name; sheet = sheets }

flushes_like : (key : List ℕ) (own other : OwnSeat) (sheets bases : List Sheet) → LikeOwn key own other → LikeSheets own.name sheets bases → LikeActs key (flushes own sheets) (flushes other bases)
flushes_like key own other [] [] like sheets_like = tt
flushes_like key own other [] (base ∷ bases) like sheets_like = absurd sheets_like
flushes_like key own other (sheet ∷ sheets) [] like sheets_like = absurd sheets_like
flushes_like key own other (sheet ∷ sheets) (base ∷ bases) like sheets_like =
    (flush_deeds (seat_of own.key own.name sheet) (seat_of other.key other.name base) (own_seal key own other sheet base like sheets_like.0), flushes_like key own other sheets bases like sheets_like.1)

acts_more : (key : List ℕ) (acts others more rest : List Act) → LikeActs key acts others → LikeActs key more rest → LikeActs key (acts ++ more) (others ++ rest)
acts_more key [] [] more rest like behind = behind
acts_more key [] (other ∷ others) more rest like behind = absurd like
acts_more key (act ∷ acts) [] more rest like behind = absurd like
acts_more key (act ∷ acts) (other ∷ others) more rest like behind = (like.0, acts_more key acts others more rest like.1 behind)

some_same : (name : Name) (sheets bases : List Sheet) → LikeSheets name sheets bases → some_sheet sheets ≡ some_sheet bases
some_same name [] [] like = refl
some_same name [] (base ∷ bases) like = absurd like
some_same name (sheet ∷ sheets) [] like = absurd like
some_same name (sheet ∷ sheets) (base ∷ bases) like = refl

reply_same : (name : Name) (sheets bases : List Sheet) (line : ScriptLine) (reply say : Reply) → LikeSheets name sheets bases → IsChangeReply sheets line reply → IsChangeReply bases line say → reply ≡ say
reply_same name sheets bases line reply say like (to_write k at bytes) (to_write j place these) = ap (replies.Written (length bytes)) (some_same name sheets bases like)
reply_same name sheets bases line reply say like (to_fill k at count byte) (to_fill j place many this) = ap (replies.Written count) (some_same name sheets bases like)
reply_same name sheets bases line reply say like (to_size k n) (to_size j m) = refl

-- two steps on one line
module _ (S T : Standing) (key : List ℕ) (seen saw : Seen) (left rest : List (List ℕ)) (stream : seen.words ++ left ≡ saw.words ++ rest) where
  none_same : seen.words ≡ [] → saw.words ≡ [] → seen.words ≡ saw.words
  none_same none none' = none ∙ sym none'

  pub create_one : (k : ℕ) (name : Name) (seat other : Seat) (reply say : Reply) (acts others : List Act) (after ends : Seat)
      → Accepts S key seen seat (lines.Create k name) reply acts after → Accepts T key saw other (lines.Create k name) say others ends → LikeEnds key reply say seen.words saw.words acts others after ends
  create_one k name seat other reply say acts others after ends (created j n sheet absent seals) (created i m base absent' seals') =
      let like = empty_like name seen.words saw.words sheet base seals seals' in
      record {
        reply_is = refl;
        words_are = empty_words name name seen.words saw.words left rest sheet base seals seals' stream;
        acts_are = (creations (seat_of key name sheet) (seat_of key name base) (record { key_is = refl; other_key = refl; name = refl; sheet = like }), tt);
        seat_is = both_own (new_seat key name sheet) (new_seat key name base) (new_like key name sheet base like);
      }
  create_one k name seat other reply say acts others after ends (changed own a l r steps sheets asks makes replied) second = absurd asks
  create_one k name seat other reply say acts others after ends first (changed own a l r steps sheets asks makes replied) = absurd asks

  pub read_one : (k at count : ℕ) (seat other : Seat) (reply say : Reply) (acts others : List Act) (after ends : Seat) → LikeSeat key seat other
      → Accepts S key seen seat (lines.Read k at count) reply acts after → Accepts T key saw other (lines.Read k at count) say others ends → LikeEnds key reply say seen.words saw.words acts others after ends
  read_one k at count seat other reply say acts others after ends (both_own o t like) (read j p c own none) (read i q d mine none') =
      record { reply_is = ap (λ (b : List ℕ). replies.Given (take count (drop at b))) like.content; words_are = none_same none none'; acts_are = tt; seat_is = both_own own mine like }
  read_one k at count seat other reply say acts others after ends both (changed own a l r steps sheets asks makes replied) second = absurd asks
  read_one k at count seat other reply say acts others after ends both first (changed own a l r steps sheets asks makes replied) = absurd asks

  change_both : (line : ScriptLine) (own other after ends : OwnSeat) (reply say : Reply) (steps more : List Step) (sheets bases : List Sheet) → LikeOwn key own other
      → AsksFor line (length own.content) steps → AsksFor line (length other.content) more → MakesAll own steps seen.words sheets after → MakesAll other more saw.words bases ends → IsChangeReply sheets line reply → IsChangeReply bases line say
      → LikeEnds key reply say seen.words saw.words (flushes own sheets) (flushes other bases) (Own after) (Own ends)
  change_both line own other after ends reply say steps more sheets bases like asks asks' makes makes' replied replied' =
      let there = subst (λ (c : List ℕ). AsksFor line (length c) more) (sym like.content) asks' in
      let one = asked_one line (length own.content) steps more asks there in
      let made = steps_one key own other after ends steps seen.words saw.words left rest sheets bases like stream makes (subst (λ (l : List Step). MakesAll other l saw.words bases ends) (sym one) makes') in
      record {
        reply_is = reply_same own.name sheets bases line reply say made.sheets_are replied replied';
        words_are = made.words_are;
        acts_are = flushes_like key own other sheets bases like made.sheets_are;
        seat_is = both_own after ends made.seat_is;
      }

  pub write_one : (k at : ℕ) (bytes : List ℕ) (seat other : Seat) (reply say : Reply) (acts others : List Act) (after ends : Seat) → LikeSeat key seat other
      → Accepts S key seen seat (lines.Write k at bytes) reply acts after → Accepts T key saw other (lines.Write k at bytes) say others ends → LikeEnds key reply say seen.words saw.words acts others after ends
  write_one k at bytes seat other reply say acts others after ends both_empty first second = elim first [ ]
  write_one k at bytes seat other reply say acts others after ends (both_own o t like) (changed own a l r steps sheets asks makes replied) (changed mine b m q more bases asks' makes' replied') =
      change_both (lines.Write k at bytes) own mine a b reply say steps more sheets bases like asks asks' makes makes' replied replied'

  pub fill_one : (k at count byte : ℕ) (seat other : Seat) (reply say : Reply) (acts others : List Act) (after ends : Seat) → LikeSeat key seat other
      → Accepts S key seen seat (lines.Fill k at count byte) reply acts after → Accepts T key saw other (lines.Fill k at count byte) say others ends → LikeEnds key reply say seen.words saw.words acts others after ends
  fill_one k at count byte seat other reply say acts others after ends both_empty first second = elim first [ ]
  fill_one k at count byte seat other reply say acts others after ends (both_own o t like) (changed own a l r steps sheets asks makes replied) (changed mine b m q more bases asks' makes' replied') =
      change_both (lines.Fill k at count byte) own mine a b reply say steps more sheets bases like asks asks' makes makes' replied replied'

  pub size_one : (k n : ℕ) (seat other : Seat) (reply say : Reply) (acts others : List Act) (after ends : Seat) → LikeSeat key seat other
      → Accepts S key seen seat (lines.Size k n) reply acts after → Accepts T key saw other (lines.Size k n) say others ends → LikeEnds key reply say seen.words saw.words acts others after ends
  size_one k n seat other reply say acts others after ends both_empty first second = elim first [ ]
  size_one k n seat other reply say acts others after ends (both_own o t like) (changed own a l r steps sheets asks makes replied) (changed mine b m q more bases asks' makes' replied') =
      change_both (lines.Size k n) own mine a b reply say steps more sheets bases like asks asks' makes makes' replied replied'

  pub flush_one : (k : ℕ) (seat other : Seat) (reply say : Reply) (acts others : List Act) (after ends : Seat) → LikeSeat key seat other
      → Accepts S key seen seat (lines.Flush k) reply acts after → Accepts T key saw other (lines.Flush k) say others ends → LikeEnds key reply say seen.words saw.words acts others after ends
  flush_one k seat other reply say acts others after ends (both_own o t like) (flushed j own sheet seals) (flushed i mine base seals') =
      let sheets = seals_sheet key own mine like seen.words saw.words sheet base seals seals' in
      record {
        reply_is = refl;
        words_are = seals_words key own mine like seen.words saw.words left rest sheet base seals seals' stream;
        acts_are = flushes_like key own mine (sheet ∷ []) (base ∷ []) like (sheets, tt);
        seat_is = both_own (resealed own sheet) (resealed mine base) (resealed_like key own mine sheet base like);
      }
  flush_one k seat other reply say acts others after ends both (changed own a l r steps sheets asks makes replied) second = absurd asks
  flush_one k seat other reply say acts others after ends both first (changed own a l r steps sheets asks makes replied) = absurd asks

  pub draw_one : (k : ℕ) (seat other : Seat) (reply say : Reply) (acts others : List Act) (after ends : Seat) → LikeSeat key seat other
      → Accepts S key seen seat (lines.Draw k) reply acts after → Accepts T key saw other (lines.Draw k) say others ends → LikeEnds key reply say seen.words saw.words acts others after ends
  draw_one k seat other reply say acts others after ends (both_own o t like) (drawn_again j own nonce is none) (drawn_again i mine said is' none') =
      let e : Some nonce ≡ Some said = sym is ∙ like.drawn ∙ is' in
      record { reply_is = ap replies.Drawn (same_Some nonce said e); words_are = none_same none none'; acts_are = tt; seat_is = both_own own mine like }
  draw_one k seat other reply say acts others after ends (both_own o t like) (drawn_again j own nonce is none) (drawn_now i mine first second not_yet two) = let e : Some nonce ≡ None = sym is ∙ like.drawn ∙ not_yet in absurd (cc)
  draw_one k seat other reply say acts others after ends (both_own o t like) (drawn_now j own first second not_yet two) (drawn_again i mine said is none) = let e : Some said ≡ None = sym is ∙ sym like.drawn ∙ not_yet in absurd (cc)
  draw_one k seat other reply say acts others after ends (both_own o t like) (drawn_now j own first second not_yet two) (drawn_now i mine begin end not_yet' two') =
      let words = front_one seen.words saw.words left rest (ap length two ∙ ap length (sym two')) stream in
      let both : first ∷ second ∷ [] ≡ begin ∷ end ∷ [] = sym two ∙ words ∙ two' in
      let nonce : first ++ second ≡ begin ++ end = cc in
      record {
        reply_is = ap replies.Drawn nonce;
        words_are = words;
        acts_are = tt;
        seat_is = both_own (record own { drawn = Some (first ++ second) }) (record mine { drawn = Some (begin ++ end) })
            (record { key_is = like.key_is; other_key = like.other_key; name = like.name; content = like.content; dirty = like.dirty; changed = like.changed; drawn = ap Some nonce; broken = like.broken });
      }
  draw_one k seat other reply say acts others after ends both (changed own a l r steps sheets asks makes replied) second = absurd asks
  draw_one k seat other reply say acts others after ends both first (changed own a l r steps sheets asks makes replied) = absurd asks

  idle_or_broken : (own : OwnSeat) → (own.changed ≡ false) ⊎ (own.broken ≡ true) → own.changed ≡ true → own.broken ≡ false → ⊥
  idle_or_broken own (inl idle) was whole = let e : true ≡ false = sym was ∙ idle in absurd (cc)
  idle_or_broken own (inr broken) was whole = let e : true ≡ false = sym broken ∙ whole in absurd (cc)

  pub close_one : (k : ℕ) (seat other : Seat) (reply say : Reply) (acts others : List Act) (after ends : Seat) → LikeSeat key seat other
      → Accepts S key seen seat (lines.Close k) reply acts after → Accepts T key saw other (lines.Close k) say others ends → LikeEnds key reply say seen.words saw.words acts others after ends
  close_one k seat other reply say acts others after ends (both_own o t like) (let_go j own idle none) (let_go i mine idle' none') =
      record { reply_is = ap replies.Closed like.broken; words_are = none_same none none'; acts_are = tt; seat_is = both_empty }
  close_one k seat other reply say acts others after ends (both_own o t like) (let_go j own idle none) (flushed_last i mine base was whole seals) = absurd (idle_or_broken own idle (like.changed ∙ was) (like.broken ∙ whole))
  close_one k seat other reply say acts others after ends (both_own o t like) (flushed_last j own sheet was whole seals) (let_go i mine idle none) = absurd (idle_or_broken mine idle (sym like.changed ∙ was) (sym like.broken ∙ whole))
  close_one k seat other reply say acts others after ends (both_own o t like) (flushed_last j own sheet was whole seals) (flushed_last i mine base was' whole' seals') =
      let sheets = seals_sheet key own mine like seen.words saw.words sheet base seals seals' in
      record {
        reply_is = refl;
        words_are = seals_words key own mine like seen.words saw.words left rest sheet base seals seals' stream;
        acts_are = flushes_like key own mine (sheet ∷ []) (base ∷ []) like (sheets, tt);
        seat_is = both_empty;
      }
  close_one k seat other reply say acts others after ends both (changed own a l r steps sheets asks makes replied) second = absurd asks
  close_one k seat other reply say acts others after ends both first (changed own a l r steps sheets asks makes replied) = absurd asks

  -- the flush before a move
  to_move_one : (own mine mid till : OwnSeat) (words takes beyond behind : List (List ℕ)) (sheets bases : List Sheet) → LikeOwn key own mine → words ++ beyond ≡ takes ++ behind
      → FlushedToMove own words sheets mid → FlushedToMove mine takes bases till → LikeSteps key own.name words takes sheets bases mid till
  to_move_one own mine mid till words takes beyond behind sheets bases like same (as_it_was idle) (as_it_was idle') = record { words_are = refl; sheets_are = tt; seat_is = like; named = refl }
  to_move_one own mine mid till words takes beyond behind sheets bases like same (as_it_was idle) (was_changed w base was seals) = let e : true ≡ false = sym was ∙ sym like.changed ∙ idle in absurd (cc)
  to_move_one own mine mid till words takes beyond behind sheets bases like same (was_changed w sheet was seals) (as_it_was idle) = let e : true ≡ false = sym was ∙ like.changed ∙ idle in absurd (cc)
  to_move_one own mine mid till words takes beyond behind sheets bases like same (was_changed w sheet was seals) (was_changed v base was' seals') = record {
    words_are = seals_words key own mine like words takes beyond behind sheet base seals seals' same;
    sheets_are = (seals_sheet key own mine like words takes sheet base seals seals', tt);
    seat_is = resealed_like key own mine sheet base like;
    named = refl;
  }

  pub move_one : (k : ℕ) (name : Name) (seat other : Seat) (reply say : Reply) (acts others : List Act) (after ends : Seat) → LikeSeat key seat other
      → Accepts S key seen seat (lines.Move k name) reply acts after → Accepts T key saw other (lines.Move k name) say others ends → LikeEnds key reply say seen.words saw.words acts others after ends
  move_one k name seat other reply say acts others after ends (both_own o t like) (moved j n own mid words more sheets sheet absent flushed_to carries all) (moved i m mine till takes rest' bases base absent' flushed_to' carries' all') =
      let whole : words ++ (more ++ left) ≡ takes ++ (rest' ++ rest) =
      sym (append_assoc words more left) ∙ ap (λ (w : List (List ℕ)). w ++ left) (sym all) ∙ stream ∙ ap (λ (w : List (List ℕ)). w ++ rest) all' ∙ append_assoc takes rest' rest in
      let first = to_move_one own mine mid till words takes (more ++ left) (rest' ++ rest) sheets bases like whole flushed_to flushed_to' in
      let behind = rest_one words takes (more ++ left) (rest' ++ rest) first.words_are whole in
      let second = moved_words key mid till first.seat_is name name more rest' left rest sheet base carries carries' behind in
      let likes = moved_sheet key mid till first.seat_is name more rest' sheet base carries carries' in
      record {
        reply_is = refl;
        words_are = all ∙ ap (λ (w : List (List ℕ)). w ++ more) first.words_are ∙ ap (λ (w : List (List ℕ)). takes ++ w) second ∙ sym all';
        acts_are = acts_more key (flushes own sheets) (flushes mine bases) (record { deed = Move own.name (seat_of own.key name sheet); done = true } ∷ []) (record { deed = Move mine.name (seat_of mine.key name base); done = true } ∷ [])
            (flushes_like key own mine sheets bases like first.sheets_are)
            (moves own.name mine.name (seat_of own.key name sheet) (seat_of mine.key name base) like.name (record { key_is = like.key_is; other_key = like.other_key; name = refl; sheet = likes }), tt);
        seat_is = both_own (renamed mid name sheet) (renamed till name base)
            (record { key_is = first.seat_is.key_is; other_key = first.seat_is.other_key; name = refl; content = first.seat_is.content; dirty = first.seat_is.dirty; changed = first.seat_is.changed; drawn = first.seat_is.drawn; broken = first.seat_is.broken });
      }
  move_one k name seat other reply say acts others after ends both (changed own a l r steps sheets asks makes replied) second = absurd asks
  move_one k name seat other reply say acts others after ends both first (changed own a l r steps sheets asks makes replied) = absurd asks
