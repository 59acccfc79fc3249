-- The steps of a line, made on seats that are alike.
use Rattle.std.proofs.Common.{◌≡◌, ℕ, ◌+◌, List, [], ◌∷◌, ◌++◌, length, refl, ap, ◌∙◌, sym, arith, subst, append_assoc}
use Rattle.std.specs.Prelude.{replicate}
use Rattle.node_tree.specs.Applying.{Step, Size, applied}
use Rattle.node_tree.specs.Sheet.{Sheet}
use Rattle.node_tree.proofs.Order.{same_rising}
use Rattle.pf_io.specs.Disk.{Name}
use Rattle.pf_script.specs.Script.{OwnSeat}
use Rattle.pf_script.specs.SeatSteps.{PIECE, FlushesFirst, Fits, AreDirtyAfter, IsStepped, resealed, Makes, at_once, once_flushed, MakesAll, none_left, one_more, IsWrite, nothing, at_place, IsResize, same, last, piece, AsksFor}
use Rattle.pf_script.specs.declared.line.ScriptLine.{ScriptLine}
use Rattle.pf_script.specs.declared.line.ScriptLine.TheVariants as lines
use Rattle.pf_script.proofs.OneLike.{LikeOwn, LikeSheet, LikeSheets}
use Rattle.pf_script.proofs.OneWords.{rest_one, seals_words, seals_sheet}

-- the dirty nodes after a step are one list
dirty_one : (size more : ℕ) (dirty other : List ℕ) (step : Step) (after left : List ℕ) → size ≡ more → dirty ≡ other → AreDirtyAfter size dirty step after → AreDirtyAfter more other step left → after ≡ left
dirty_one size more dirty other step after left long is one two =
    let there = subst (λ (n : ℕ). AreDirtyAfter n dirty step left) (sym long) (subst (λ (d : List ℕ). AreDirtyAfter more d step left) (sym is) two) in
    same_rising after left one.rising there.rising (λ k has. (there.exactly k).1 ((one.exactly k).0 has)) (λ k has. (one.exactly k).1 ((there.exactly k).0 has))

-- a step does not both fit and want a flush before
not_both : (size more : ℕ) (dirty other : List ℕ) (step : Step) → size ≡ more → dirty ≡ other → Fits size dirty step → FlushesFirst more other step → ⊥
not_both size more dirty other step long is fits flushes =
    let there = subst (λ (n : ℕ). FlushesFirst n dirty step) (sym long) (subst (λ (d : List ℕ). FlushesFirst more d step) (sym is) flushes) in
    let few = fits there.is_count.numbers there.is_count.changed in
    let many = there.many in
    let count = there.is_count.count in
    omega arith

stepped_like : (key : List ℕ) (own other after left : OwnSeat) (step : Step) → LikeOwn key own other → IsStepped step own after → IsStepped step other left → LikeOwn key after left
stepped_like key own other after left step like one two =
    let dirty = dirty_one (length own.content) (length other.content) own.dirty other.dirty step after.dirty left.dirty (ap length like.content) like.dirty one.dirty two.dirty in
    record {
      key_is = ap (λ (s : OwnSeat). s.key) one.rest ∙ like.key_is;
      other_key = ap (λ (s : OwnSeat). s.key) two.rest ∙ like.other_key;
      name = ap (λ (s : OwnSeat). s.name) one.rest ∙ like.name ∙ sym (ap (λ (s : OwnSeat). s.name) two.rest);
      content = ap (λ (s : OwnSeat). s.content) one.rest ∙ ap (applied step) like.content ∙ sym (ap (λ (s : OwnSeat). s.content) two.rest);
      dirty = dirty;
      changed = ap (λ (s : OwnSeat). s.changed) one.rest ∙ sym (ap (λ (s : OwnSeat). s.changed) two.rest);
      drawn = ap (λ (s : OwnSeat). s.drawn) one.rest ∙ like.drawn ∙ sym (ap (λ (s : OwnSeat). s.drawn) two.rest);
      broken = ap (λ (s : OwnSeat). s.broken) one.rest ∙ like.broken ∙ sym (ap (λ (s : OwnSeat). s.broken) two.rest);
    }

pub resealed_like : (key : List ℕ) (own other : OwnSeat) (sheet base : Sheet) → LikeOwn key own other → LikeOwn key (resealed own sheet) (resealed other base)
resealed_like key own other sheet base like = record { key_is = like.key_is; other_key = like.other_key; name = like.name; content = like.content; dirty = refl; changed = refl; drawn = refl; broken = like.broken }

-- what steps of the seat with this name come to: the words, the sheets and the seat
pub record LikeSteps (key : List ℕ) (name : Name) (words takes : List (List ℕ)) (sheets bases : List Sheet) (after left : OwnSeat) : Type 0 where
  pub words_are : words ≡ takes
  pub sheets_are : LikeSheets name sheets bases
  pub seat_is : LikeOwn key after left
  pub named : after.name ≡ name

like_none : (name : Name) (sheets bases : List Sheet) → sheets ≡ [] → bases ≡ [] → LikeSheets name sheets bases
like_none name sheets bases is none = subst (λ (l : List Sheet). LikeSheets name l bases) (sym is) (subst (λ (l : List Sheet). LikeSheets name [] l) (sym none) tt)

like_one : (name : Name) (sheets bases : List Sheet) (sheet base : Sheet) → sheets ≡ sheet ∷ [] → bases ≡ base ∷ [] → LikeSheet name sheet base → LikeSheets name sheets bases
like_one name sheets bases sheet base is one like = subst (λ (l : List Sheet). LikeSheets name l bases) (sym is) (subst (λ (l : List Sheet). LikeSheets name (sheet ∷ []) l) (sym one) (like, tt))

like_more : (name : Name) (sheets bases more others : List Sheet) → LikeSheets name sheets bases → LikeSheets name more others → LikeSheets name (sheets ++ more) (bases ++ others)
like_more name [] [] more others like rest = rest
like_more name [] (base ∷ bases) more others like rest = absurd like
like_more name (sheet ∷ sheets) [] more others like rest = absurd like
like_more name (sheet ∷ sheets) (base ∷ bases) more others like rest = (like.0, like_more name sheets bases more others like.1 rest)

stepped_name : (step : Step) (own after : OwnSeat) → IsStepped step own after → after.name ≡ own.name
stepped_name step own after stepped = ap (λ (s : OwnSeat). s.name) stepped.rest

step_one : (key : List ℕ) (own other after left : OwnSeat) (step : Step) (words takes beyond rest : List (List ℕ)) (sheets bases : List Sheet) → LikeOwn key own other → words ++ beyond ≡ takes ++ rest
    → Makes own step words sheets after → Makes other step takes bases left → LikeSteps key own.name words takes sheets bases after left
step_one key own other after left step words takes beyond rest sheets bases like is (at_once fits none no_sheet stepped) (at_once fits' none' no_sheet' stepped') = record {
  words_are = none ∙ sym none';
  sheets_are = like_none own.name sheets bases no_sheet no_sheet';
  seat_is = stepped_like key own other after left step like stepped stepped';
  named = stepped_name step own after stepped;
}
step_one key own other after left step words takes beyond rest sheets bases like is (at_once fits none no_sheet stepped) (once_flushed base flushes seals a_sheet stepped') =
    absurd (not_both (length own.content) (length other.content) own.dirty other.dirty step (ap length like.content) like.dirty fits flushes)
step_one key own other after left step words takes beyond rest sheets bases like is (once_flushed sheet flushes seals a_sheet stepped) (at_once fits none no_sheet stepped') =
    absurd (not_both (length other.content) (length own.content) other.dirty own.dirty step (ap length (sym like.content)) (sym like.dirty) fits flushes)
step_one key own other after left step words takes beyond rest sheets bases like is (once_flushed sheet flushes seals a_sheet stepped) (once_flushed base flushes' seals' a_sheet' stepped') = record {
  words_are = seals_words key own other like words takes beyond rest sheet base seals seals' is;
  sheets_are = like_one own.name sheets bases sheet base a_sheet a_sheet' (seals_sheet key own other like words takes sheet base seals seals');
  seat_is = stepped_like key (resealed own sheet) (resealed other base) after left step (resealed_like key own other sheet base like) stepped stepped';
  named = stepped_name step (resealed own sheet) after stepped;
}

pub steps_one : (key : List ℕ) (own other after left : OwnSeat) (steps : List Step) (words takes beyond rest : List (List ℕ)) (sheets bases : List Sheet) → LikeOwn key own other → words ++ beyond ≡ takes ++ rest
    → MakesAll own steps words sheets after → MakesAll other steps takes bases left → LikeSteps key own.name words takes sheets bases after left
steps_one key own other after left [] words takes beyond rest sheets bases like is (none_left o) (none_left t) = record { words_are = refl; sheets_are = tt; seat_is = like; named = refl }
steps_one key own other after left (step ∷ steps) words takes beyond rest sheets bases like is (one_more o mid a s r first words' sheets' others' one all) (one_more t mid' l s' r' first' takes' bases' others'' one' all') =
    let here = step_one key own other mid mid' step first first' (words' ++ beyond) (takes' ++ rest) sheets' bases' like (sym (append_assoc first words' beyond) ∙ is ∙ append_assoc first' takes' rest) one one' in
    let behind = rest_one first first' (words' ++ beyond) (takes' ++ rest) here.words_are (sym (append_assoc first words' beyond) ∙ is ∙ append_assoc first' takes' rest) in
    let more = steps_one key mid mid' after left steps words' takes' beyond rest others' others'' here.seat_is behind all all' in
    record {
      words_are = ap (λ (w : List (List ℕ)). w ++ words') here.words_are ∙ ap (λ (w : List (List ℕ)). first' ++ w) more.words_are;
      sheets_are = like_more own.name sheets' bases' others' others'' here.sheets_are (subst (λ (name : Name). LikeSheets name others' others'') here.named more.sheets_are);
      seat_is = more.seat_is;
      named = more.named ∙ here.named;
    }

write_one : (at : ℕ) (bytes : List ℕ) (steps others : List Step) → IsWrite at bytes steps → IsWrite at bytes others → steps ≡ others
write_one at bytes steps others (nothing none no_step) (nothing none' no_step') = no_step ∙ sym no_step'
write_one at bytes steps others (nothing none no_step) (at_place some one) = absurd (some none)
write_one at bytes steps others (at_place some one) (nothing none no_step) = absurd (some none)
write_one at bytes steps others (at_place some one) (at_place some' one') = one ∙ sym one'

resize_one : (n size : ℕ) (steps others : List Step) → IsResize n size steps → IsResize n size others → steps ≡ others
resize_one n size steps others (same z is) (same y is') = refl
resize_one n size steps others (same z is) (last y other le) = absurd (other is)
resize_one n size steps others (same z is) (piece y rest lt more) = absurd (omega arith)
resize_one n size steps others (last z other le) (same y is) = absurd (other is)
resize_one n size steps others (last z other le) (last y other' le') = refl
resize_one n size steps others (last z other le) (piece y rest lt more) = absurd (omega arith)
resize_one n size steps others (piece z rest lt more) (same y is) = absurd (omega arith)
resize_one n size steps others (piece z rest lt more) (last y other le) = absurd (omega arith)
resize_one n size steps others (piece z rest lt more) (piece y rest' lt' more') = ap (λ (l : List Step). Size (size + PIECE) ∷ l) (resize_one n (size + PIECE) rest rest' more more')

-- a line asks for one list of steps
pub asked_one : (line : ScriptLine) (size : ℕ) (steps others : List Step) → AsksFor line size steps → AsksFor line size others → steps ≡ others
asked_one lines.Blank size steps others one two = absurd one
asked_one (lines.Create seat name) size steps others one two = absurd one
asked_one (lines.Open seat name) size steps others one two = absurd one
asked_one (lines.View seat path) size steps others one two = absurd one
asked_one (lines.Read seat at count) size steps others one two = absurd one
asked_one (lines.Write seat at bytes) size steps others one two = write_one at bytes steps others one two
asked_one (lines.Fill seat at count byte) size steps others one two = write_one at (replicate count byte) steps others one two
asked_one (lines.Size seat n) size steps others one two = resize_one n size steps others one two
asked_one (lines.Flush seat) size steps others one two = absurd one
asked_one (lines.Move seat name) size steps others one two = absurd one
asked_one (lines.Draw seat) size steps others one two = absurd one
asked_one (lines.Close seat) size steps others one two = absurd one
