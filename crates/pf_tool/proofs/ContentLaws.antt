-- What `decrypt` puts out is of a sealed version of the file, where nothing is forged.
use Rattle.std.proofs.Common.{◌≡◌, ◌≢◌, ◌⊎◌, inl, inr, ℕ, zero, suc, ◌+◌, ◌-◌, ◌*◌, ◌<◌, ◌≤◌, min, List, [], ◌∷◌, ◌++◌, length, take, drop, refl, ap, ap₂, ◌∙◌, sym, arith, subst, append_assoc, Option, Some, None}
use Rattle.std.specs.Prelude.{Contains}
use Rattle.std.specs.List.{AllByRecursion, concat}
use Rattle.std.proofs.lemmas.Bool.{cases_lt}
use Rattle.std.proofs.lemmas.List.{append-nil, drop_all, drop-drop, take-append-drop}
use Rattle.std.proofs.lemmas.List.Elements.{All-from_recursion, All-contains, Contains-append_left, Contains-append_right}
use Rattle.std.proofs.lemmas.Option.{same_Some}
use Rattle.node_layout.specs.Metadata.{IsMetaText, meta_opens}
use Rattle.node_layout.specs.Opening.{OpensTo, IsOpenFault}
use Rattle.node_layout.specs.Places.{node_count}
use Rattle.node_layout.specs.declared.damage.Damage.{Damage}
use Rattle.node_layout.specs.declared.damage.Kind.{Kind}
use Rattle.node_layout.specs.declared.damage.Kind.TheVariants as kinds
use Rattle.node_layout.specs.declared.metadata.MetaSecret.{MetaSecret}
use Rattle.node_tree.specs.Content.{first_text}
use Rattle.node_tree.specs.Sheet.{Sheet, meta_of, root_of}
use Rattle.node_tree.specs.Opened.{Entry, Fails, NothingHeld, BlockOf, Given, block_of}
use Rattle.node_tree.specs.Parts.{IsWhole, PIECE, ArePiecesFrom}
use Rattle.node_tree.specs.Unforged.{Unforged, GivenOf}
use Rattle.node_tree.specs.Backing.{IsMetaOf}
use Rattle.node_tree.specs.Reading.{IsForeign}
use Rattle.node_tree.proofs.Giving.{unforged_gives}
use Rattle.node_tree.proofs.Lively.{touched_low, touched_live}
use Rattle.node_tree.proofs.Standing.{meta_is_text}
use Rattle.pf_io.specs.Disk.{Name}
use Rattle.pf_io.specs.Host.{Answer, LengthWas, Gave}
use Rattle.pf_io.proofs.Answering.{all_append}
use Rattle.pf_tool.specs.Events.{Event, Answers, Draws, Puts, answers_in, pieces_in}
use Rattle.pf_tool.specs.Endings.{Ending, Done, Damaged, Stop, AtEnd, Failed, Starved, tried}
use Rattle.pf_tool.specs.Keys.{KeyRefused, key_unnamed, key_absent, key_length, key_short, key_events}
use Rattle.pf_tool.specs.Decrypting.{NodeRefused, not_protected, node_short, node_pending, node_version, node_damaged, end_of, node_refused, pieces_read, node_events, last_events, piece_events, input_unnamed, input_absent, input_read, DecryptLeads, decrypt_key_refused, decrypt_key_read}
use Rattle.pf_session.specs.Opening.{IsOpenable}
use Rattle.pf_tool.specs.Unsealing.{opening_events}
use Rattle.pf_tool.specs.Contents.{ArePiecesOf, IsCarried, IsOfSheets, DecryptsSheets}
use Rattle.pf_tool.proofs.Composing.{answers_then, pieces_then}
use Rattle.pf_tool.proofs.Following.{range_events, all_split, length-whole}
use Rattle.pf_tool.proofs.OneFile.{refused_events}
use Rattle.pf_tool.proofs.Fronts.{root_entry}
use Rattle.pf_tool.proofs.DecryptLaws.{key_pieces, pieces_out, last_pieces, range_pieces, split_front, front_silent}
use Rattle.pf_tool.proofs.SheetNodes.{sheet_foreign, size_same, root_same, sheet_piece}

abbrev Among : List Answer → List Answer → Type 0
Among xs these = (a : Answer) → Contains xs a → Contains these a

-- what holds of each node's answer holds of all that was asked
range_all : (P : Answer → Type 0) (input : Name) (file : List ℕ) → ((k : ℕ) → P (Gave input (4096 * k) 4096 (block_of file k))) → (from n : ℕ) → AllByRecursion P (answers_in (range_events input file from n))
range_all P input file each from zero = tt
range_all P input file each from (suc n) = (each from, range_all P input file each (from + 1) n)

end_all : (P : Answer → Type 0) (input : Name) (file : List ℕ) → ((k : ℕ) → P (Gave input (4096 * k) 4096 (block_of file k))) → (at : ℕ) (end : Option Damage) → AllByRecursion P (answers_in (last_events input file at (end_of end)))
end_all P input file each at None = tt
end_all P input file each at (Some damage) = range_all P input file each (node_count at) ((damage.node + 1) - node_count at)

pieces_all : (P : Answer → Type 0) (input : Name) (file : List ℕ) → ((k : ℕ) → P (Gave input (4096 * k) 4096 (block_of file k))) → (at : ℕ) (pieces : List (List ℕ)) (end : Option Damage) → AllByRecursion P (answers_in (piece_events input file at pieces (end_of end)))
pieces_all P input file each at [] end = end_all P input file each at end
pieces_all P input file each at (piece ∷ pieces) end =
    let nodes = node_events input file (node_count at) (node_count (at + length piece)) in
    subst (λ (l : List Answer). AllByRecursion P l) (sym (answers_then nodes (Puts piece ∷ piece_events input file (at + PIECE) pieces (end_of end))))
    (all_append P (answers_in nodes) (answers_in (piece_events input file (at + PIECE) pieces (end_of end))) (range_all P input file each (node_count at) (node_count (at + length piece) - node_count at)) (pieces_all P input file each (at + PIECE) pieces end))

range_has : (input : Name) (file : List ℕ) (from n k : ℕ) → from ≤ k → k < from + n → Contains (answers_in (range_events input file from n)) (Gave input (4096 * k) 4096 (block_of file k))
range_has input file from zero k low high = absurd (omega arith)
range_has input file from (suc n) k low high =
    elim (cases_lt from k) [
      | inl later ↦ let there = range_has input file (from + 1) n k (omega arith) (omega arith) in (suc there.0, let w = there.1 in omega arith, there.2)
      | inr here ↦ (0, omega arith, let e : from ≡ k = omega arith in ap (λ (j : ℕ). Gave input (4096 * j) 4096 (block_of file j)) e)
    ]

-- pieces of a content that are all there are its end
joined : (content : List ℕ) (file : List ℕ) (secret : MetaSecret) (at : ℕ) (pieces : List (List ℕ)) → length content ≡ secret.size → ArePiecesFrom file secret at pieces None → ArePiecesOf content at pieces → concat pieces ≡ drop at content
joined content file secret at [] long are of = sym (drop_all at content (omega (arith, long, are)))
joined content file secret at (piece ∷ pieces) long are of =
    ap₂ (λ (a b : List ℕ). a ++ b) of.1 (joined content file secret (at + PIECE) pieces long are.2 of.2 ∙ sym (drop-drop PIECE at content)) ∙ take-append-drop PIECE (drop at content)

-- the damaged node is none before the root
damage_low : (file : List ℕ) (secret : MetaSecret) (at : ℕ) (pieces : List (List ℕ)) (damage : Damage) → ArePiecesFrom file secret at pieces (Some damage) → 1 ≤ damage.node
damage_low file secret at [] damage are = touched_low at (at + min PIECE (secret.size - at)) damage.node are.1.touched
damage_low file secret at (piece ∷ pieces) damage are = damage_low file secret (at + PIECE) pieces damage are.2

module _ (input : Name) (file : List ℕ) (sheet : Sheet) (these : List Answer) (of_sheet : GivenOf sheet (Given input these)) (secret : MetaSecret) (is : IsMetaOf sheet secret) where
  abbrev Has : ℕ → Type 0
  Has n = (k : ℕ) → 1 ≤ k → k < n → Given input these k (block_of file k)

  has_more : (from to : ℕ) → Has from → Among (answers_in (node_events input file from to)) these → Has to
  has_more from to has among k low high =
      elim (cases_lt k from) [
        | inl below ↦ has k low below
        | inr not_below ↦ among (Gave input (4096 * k) 4096 (block_of file k)) (range_has input file from (to - from) k not_below (omega arith))
      ]

  has_fewer : (m n : ℕ) → m ≤ n → Has n → Has m
  has_fewer m n le has k low high = has k low (omega arith)

  one_piece : (at : ℕ) (piece : List ℕ) → at < secret.size → Has (node_count (at + length piece)) → IsWhole NothingHeld (BlockOf file) (root_entry secret) secret.first at (min PIECE (secret.size - at)) piece → piece ≡ take PIECE (drop at sheet.content)
  one_piece at piece lt has whole =
      let long = length-whole NothingHeld (BlockOf file) (root_entry secret) secret.first at (min PIECE (secret.size - at)) piece whole in
      sheet_piece sheet (Given input these) of_sheet file (node_count (at + length piece)) has secret is at piece lt (omega (arith, ap (λ (m : ℕ). node_count (at + m)) long)) whole

  has_next : (at : ℕ) (piece : List ℕ) → Has (node_count (at + length piece)) → IsWhole NothingHeld (BlockOf file) (root_entry secret) secret.first at (min PIECE (secret.size - at)) piece → at + PIECE < secret.size → Has (node_count (at + PIECE))
  has_next at piece has whole lt =
      let long = length-whole NothingHeld (BlockOf file) (root_entry secret) secret.first at (min PIECE (secret.size - at)) piece whole in
      let full : length piece ≡ PIECE = omega (arith, long) in
      has_fewer (node_count (at + PIECE)) (node_count (at + length piece)) (omega (arith, ap (λ (m : ℕ). node_count (at + m)) full)) has

  -- behind the nodes of a piece
  content_behind : (at : ℕ) (piece : List ℕ) (rest : List Event) (es left more nodes : List Event) → at < secret.size → (piece ≡ take PIECE (drop at sheet.content)) → pieces_in nodes ≡ [] → es ≡ nodes ++ left → left ++ more ≡ Puts piece ∷ rest
      → ((later : List Event) → es ≡ nodes ++ (Puts piece ∷ later) → later ++ more ≡ rest → ArePiecesOf sheet.content (at + PIECE) (pieces_in later)) → ArePiecesOf sheet.content at (pieces_in es)
  content_behind at piece rest es [] more nodes lt slice none are then go =
      let out : pieces_in es ≡ [] = ap (λ (l : List Event). pieces_in l) are ∙ pieces_then nodes [] ∙ append-nil (pieces_in nodes) ∙ none in
      subst (λ (ps : List (List ℕ)). ArePiecesOf sheet.content at ps) (sym out) tt
  content_behind at piece rest es (e ∷ left) more nodes lt slice none are then go =
      let put : e ≡ Puts piece = cc in
      let later : left ++ more ≡ rest = cc in
      let all : es ≡ nodes ++ (Puts piece ∷ left) = are ∙ ap (λ (v : Event). nodes ++ (v ∷ left)) put in
      let out : pieces_in es ≡ piece ∷ pieces_in left = ap (λ (l : List Event). pieces_in l) all ∙ pieces_then nodes (Puts piece ∷ left) ∙ ap (λ (l : List (List ℕ)). l ++ (piece ∷ pieces_in left)) none in
      subst (λ (ps : List (List ℕ)). ArePiecesOf sheet.content at ps) (sym out) (let long = size_same sheet (Given input these) of_sheet file 0 (λ k low high. absurd (omega arith)) secret is in omega (arith, lt, long), slice, go left all later)

  content_from : (at : ℕ) (pieces : List (List ℕ)) (end : Option Damage) (es more : List Event) → (at < secret.size → Has (node_count at)) → ArePiecesFrom file secret at pieces end → es ++ more ≡ piece_events input file at pieces (end_of end) → Among (answers_in es) these
      → ArePiecesOf sheet.content at (pieces_in es)
  content_from at [] end es more before are same among =
      let none = front_silent es more (last_events input file at (end_of end)) same (last_pieces input file at (end_of end)) in
      subst (λ (ps : List (List ℕ)). ArePiecesOf sheet.content at ps) (sym none) tt
  content_from at (piece ∷ pieces) end es more before are same among =
      let until = node_count (at + length piece) in
      let nodes = node_events input file (node_count at) until in
      let silent = range_pieces input file (node_count at) (until - node_count at) in
      elim (split_front nodes (Puts piece ∷ piece_events input file (at + PIECE) pieces (end_of end)) es more same silent) [
        | inl none ↦ subst (λ (ps : List (List ℕ)). ArePiecesOf sheet.content at ps) (sym none) tt
        | inr (left, parts, then) ↦
            let answers : answers_in es ≡ answers_in nodes ++ answers_in left = ap (λ (l : List Event). answers_in l) parts ∙ answers_then nodes left in
            let has = has_more (node_count at) until (before are.0) (λ a there. among a (subst (λ (l : List Answer). Contains l a) (sym answers) (Contains-append_left (answers_in nodes) (answers_in left) a there))) in
            content_behind at piece (piece_events input file (at + PIECE) pieces (end_of end)) es left more nodes are.0 (one_piece at piece are.0 has are.1) silent parts then
            (λ later es_are later_are.
            content_from (at + PIECE) pieces end later more (λ lt. has_next at piece has are.1 lt) are.2 later_are
            (λ a there. among a (subst (λ (l : List Answer). Contains l a) (sym (ap (λ (l : List Event). answers_in l) es_are ∙ answers_then nodes (Puts piece ∷ later))) (Contains-append_right (answers_in nodes) (answers_in later) a there))))
      ]

  damage_from : (at : ℕ) (pieces : List (List ℕ)) (damage : Damage) → (at < secret.size → Has (node_count at)) → ArePiecesFrom file secret at pieces (Some damage) → Among (answers_in (piece_events input file at pieces (end_of (Some damage)))) these → IsForeign sheet (Given input these) damage.node
  damage_from at [] damage before are among =
      let n = min PIECE (secret.size - at) in
      let lt = are.0 in
      let has = has_more (node_count at) (damage.node + 1) (before are.0) among in
      let long = size_same sheet (Given input these) of_sheet file (damage.node + 1) has secret is in
      sheet_foreign sheet (Given input these) of_sheet file (damage.node + 1) has damage.node damage.kind (touched_low at (at + n) damage.node are.1.touched) (omega arith)
      (touched_live at (at + n) (length sheet.content) damage.node (omega (arith, long)) are.1.touched)
      (subst (λ (r : Entry). Fails NothingHeld (BlockOf file) r damage.node damage.kind) (root_same sheet (Given input these) of_sheet file (damage.node + 1) has secret is) are.1.fails)
  damage_from at (piece ∷ pieces) damage before are among =
      let until = node_count (at + length piece) in
      let nodes = node_events input file (node_count at) until in
      let rest = piece_events input file (at + PIECE) pieces (end_of (Some damage)) in
      let answers = answers_then nodes (Puts piece ∷ rest) in
      let has = has_more (node_count at) until (before are.0) (λ a there. among a (subst (λ (l : List Answer). Contains l a) (sym answers) (Contains-append_left (answers_in nodes) (answers_in rest) a there))) in
      damage_from (at + PIECE) pieces damage (λ lt. has_next at piece has are.1 lt) are.2
      (λ a there. among a (subst (λ (l : List Answer). Contains l a) (sym answers) (Contains-append_right (answers_in nodes) (answers_in rest) a there)))

-- a run that opened node 0
record Deep (key input : Name) (es : List Event) (ending : Ending) : Type 0 where
  pub user : List ℕ
  pub size : ℕ
  pub file : List ℕ
  pub pieces : List (List ℕ)
  pub end : Option Damage
  pub secret : MetaSecret
  pub whole : IsOpenable (block_of file 0)
  pub opens_to : OpensTo user (block_of file 0) secret
  pub are : ArePiecesFrom file secret 0 pieces end
  pub es_are : es ≡ (key_events key user ++ opening_events input size (block_of file 0)) ++ piece_events input file 0 pieces (end_of end)
  pub ending_is : ending ≡ end_of end

-- no run that ends so did
record Shallow (es : List Event) (ending : Ending) : Type 0 where
  pub silent : pieces_in es ≡ []
  pub not_done : ending ≡ Done → ⊥
  pub not_damaged : (k : ℕ) (kind : Kind) → 1 ≤ k → ending ≡ Damaged k kind → ⊥

one_ending : (e f : Ending) → (e ≡ Done → ⊥) → ((k : ℕ) (kind : Kind) → 1 ≤ k → e ≡ Damaged k kind → ⊥) → f ≡ e → (es : List Event) → pieces_in es ≡ [] → Shallow es f
one_ending e f not_done not_damaged is es silent = record { silent = silent; not_done = λ d. not_done (sym is ∙ d); not_damaged = λ k kind low d. not_damaged k kind low (sym is ∙ d) }

damaged_0 : (kind : Kind) (k : ℕ) (other : Kind) → 1 ≤ k → Damaged 0 kind ≡ Damaged k other → ⊥
damaged_0 kind k other low is = let e : 0 ≡ k = cc in omega (arith, low, e)

key_shallow : (key : Name) (es : List Event) (ending : Ending) → KeyRefused key es ending → Shallow es ending
key_shallow key es ending (key_unnamed u is ends) = one_ending _ ending (λ d. absurd (cc)) (λ k kind low d. absurd (cc)) ends es (key_pieces key es ending (key_unnamed u is ends))
key_shallow key es ending (key_absent named is ends) = one_ending _ ending (λ d. absurd (cc)) (λ k kind low d. absurd (cc)) ends es (key_pieces key es ending (key_absent named is ends))
key_shallow key es ending (key_length n named other is ends) = one_ending _ ending (λ d. absurd (cc)) (λ k kind low d. absurd (cc)) ends es (key_pieces key es ending (key_length n named other is ends))
key_shallow key es ending (key_short bytes named short is ends) = one_ending _ ending (λ d. absurd (cc)) (λ k kind low d. absurd (cc)) ends es (key_pieces key es ending (key_short bytes named short is ends))

node_shallow : (user node : List ℕ) (ending : Ending) → NodeRefused user node ending → (es : List Event) → pieces_in es ≡ [] → Shallow es ending
node_shallow user node ending (not_protected other is) es silent = one_ending _ ending (λ d. absurd (cc)) (λ k kind low d. absurd (cc)) is es silent
node_shallow user node ending (node_short magic short is) es silent = one_ending _ ending (λ d. absurd (cc)) (λ k kind low d. damaged_0 _ k kind low d) is es silent
node_shallow user node ending (node_pending magic long flag is) es silent = one_ending _ ending (λ d. absurd (cc)) (λ k kind low d. absurd (cc)) is es silent
node_shallow user node ending (node_version major minor long none version is) es silent = one_ending _ ending (λ d. absurd (cc)) (λ k kind low d. absurd (cc)) is es silent
node_shallow user node ending (node_damaged kind whole fault is) es silent = one_ending _ ending (λ d. absurd (cc)) (λ k other low d. damaged_0 kind k other low d) is es silent

deep_or : (key input : Name) (es : List Event) (ending : Ending) → DecryptLeads key input es ending → Deep key input es ending ⊎ Shallow es ending
deep_or key input es ending (decrypt_key_refused refused) = inr (key_shallow key es ending refused)
deep_or key input es ending (decrypt_key_read user rest has is (input_unnamed u are ends)) =
    inr (one_ending _ ending (λ d. absurd (cc)) (λ k kind low d. absurd (cc)) ends es (ap (λ (l : List Event). pieces_in l) (is ∙ ap (λ (l : List Event). key_events key user ++ l) are)))
deep_or key input es ending (decrypt_key_read user rest has is (input_absent target are ends)) =
    inr (one_ending _ ending (λ d. absurd (cc)) (λ k kind low d. absurd (cc)) ends es (ap (λ (l : List Event). pieces_in l) (is ∙ ap (λ (l : List Event). key_events key user ++ l) are)))
deep_or key input es ending (decrypt_key_read user rest has is (input_read size file pieces target (node_refused refused none) are)) =
    inr (node_shallow user (block_of file 0) ending refused es
    (ap (λ (l : List Event). pieces_in l) (is ∙ ap (λ (l : List Event). key_events key user ++ l) (are ∙ ap (λ (l : List Event). Answers (LengthWas input (Some size)) ∷ Answers (Gave input 0 4096 (block_of file 0)) ∷ l) (refused_events user file pieces ending refused none input file)))))
deep_or key input es ending (decrypt_key_read user rest has is (input_read size file pieces target (pieces_read end whole pieces_are ends) are)) = inl (record {
  user = user;
  size = size;
  file = file;
  pieces = pieces;
  end = end;
  secret = pieces_are.secret;
  whole = whole;
  opens_to = pieces_are.opens_to;
  are = pieces_are.pieces_are;
  es_are = is ∙ ap (λ (l : List Event). key_events key user ++ l) are ∙ ap (λ (e : Ending). (key_events key user ++ opening_events input size (block_of file 0)) ++ piece_events input file 0 pieces e) ends;
  ending_is = ends;
})

-- A front of such a run that has its key and its node 0 in it: both are those of the run.
module _ (key input : Name) (es more : List Event) (ending : Ending) (deep : Deep key input (es ++ more) ending) (left : List Event) (parts : es ≡ (key_events key deep.user ++ opening_events input deep.size (block_of deep.file 0)) ++ left)
    (then : left ++ more ≡ piece_events input deep.file 0 deep.pieces (end_of deep.end)) where
  answers_are : answers_in es ≡ LengthWas key (Some 16) ∷ Gave key 0 16 deep.user ∷ LengthWas input (Some deep.size) ∷ Gave input 0 4096 (block_of deep.file 0) ∷ answers_in left
  answers_are = ap (λ (l : List Event). answers_in l) parts

  left_all : (P : Answer → Type 0) → ((k : ℕ) → P (Gave input (4096 * k) 4096 (block_of deep.file k))) → AllByRecursion P (answers_in left)
  left_all P each =
      (all_split P (answers_in left) (answers_in more) (subst (λ (l : List Answer). AllByRecursion P l) (sym (sym (answers_then left more) ∙ ap (λ (l : List Event). answers_in l) then)) (pieces_all P input deep.file each 0 deep.pieces deep.end))).0

  holds_of : (P : Answer → Type 0) → P (LengthWas key (Some 16)) → P (Gave key 0 16 deep.user) → P (LengthWas input (Some deep.size)) → ((k : ℕ) → P (Gave input (4096 * k) 4096 (block_of deep.file k))) → (a : Answer) → Contains (answers_in es) a → P a
  holds_of P first second third each a there =
      All-contains P (answers_in es) a (All-from_recursion P (answers_in es) (subst (λ (l : List Answer). AllByRecursion P l) (sym answers_are) (first, (second, (third, (each 0, left_all P each)))))) there

  IsKey : Answer → Type 0
  IsKey a = (u : List ℕ) → a ≡ Gave key 0 16 u → u ≡ deep.user

  user_is : (user : List ℕ) → Contains (answers_in es) (Gave key 0 16 user) → user ≡ deep.user
  unfolding IsKey
  user_is user there = holds_of IsKey (λ u e. absurd (cc)) (λ u e. cc) (λ u e. absurd (cc)) (λ k u e. room_apart k u e) (Gave key 0 16 user) there user refl where
    room_apart : (k : ℕ) (u : List ℕ) → Gave input (4096 * k) 4096 (block_of deep.file k) ≡ Gave key 0 16 u → u ≡ deep.user
    room_apart k u e = absurd (let rooms : ◌≡◌ {A = ℕ} 4096 16 = cc in omega (arith, rooms))

  IsNode : Answer → Type 0
  IsNode a = (b : List ℕ) → a ≡ Gave input 0 4096 b → b ≡ block_of deep.file 0

  block_is : (block : List ℕ) → Contains (answers_in es) (Gave input 0 4096 block) → block ≡ block_of deep.file 0
  unfolding IsNode
  block_is block there = holds_of IsNode (λ b e. absurd (cc)) (λ b e. key_apart b e) (λ b e. absurd (cc)) (λ k b e. same_node k b e) (Gave input 0 4096 block) there block refl where
    key_apart : (b : List ℕ) → Gave key 0 16 deep.user ≡ Gave input 0 4096 b → b ≡ block_of deep.file 0
    key_apart b e = absurd (let rooms : ◌≡◌ {A = ℕ} 16 4096 = cc in omega (arith, rooms))

    same_node : (k : ℕ) (b : List ℕ) → Gave input (4096 * k) 4096 (block_of deep.file k) ≡ Gave input 0 4096 b → b ≡ block_of deep.file 0
    same_node k b e =
        let places : 4096 * k ≡ 0 = cc in
        let blocks : b ≡ block_of deep.file k = cc in
        let zeroth : k ≡ 0 = omega (arith, places) in
        blocks ∙ ap (λ (j : ℕ). block_of deep.file j) zeroth

  gave_0 : Contains (answers_in es) (Gave input 0 4096 (block_of deep.file 0))
  gave_0 = subst (λ (l : List Answer). Contains l (Gave input 0 4096 (block_of deep.file 0))) (sym answers_are) (3, omega arith, refl)

  left_among : Among (answers_in left) (answers_in es)
  left_among a there = let e = answers_are in subst (λ (l : List Answer). Contains l a) (sym answers_are) (suc (suc (suc (suc there.0))), let w = there.1 in omega arith, there.2)

  module _ (user : List ℕ) (sheets : List Sheet) (has_key : Contains (answers_in es) (Gave key 0 16 user)) (unforged : Unforged user sheets (answers_in es)) where
    opens_here : OpensTo user (block_of deep.file 0) deep.secret
    opens_here = subst (λ (u : List ℕ). OpensTo u (block_of deep.file 0) deep.secret) (sym (user_is user has_key)) deep.opens_to

    -- some sheet of the list is carried
    some_sheet : (sheet : Sheet) × Contains sheets sheet × IsCarried user input (answers_in es) sheet
    some_sheet =
        let there = (unforged_gives user sheets (answers_in es) unforged).node_0 (block_of deep.file 0) opens_here.0 (record { name = input; place = 0; room = 4096; there = gave_0; whole = deep.whole.whole }) opens_here.1 in
        (there.0, there.1, record { block = block_of deep.file 0; gave = gave_0; carries = there.2 })

    module _ (sheet : Sheet) (among : Contains sheets sheet) (carried : IsCarried user input (answers_in es) sheet) where
      of_sheet : GivenOf sheet (Given input (answers_in es))
      of_sheet = (unforged_gives user sheets (answers_in es) unforged).nodes input sheet among

      is_meta : IsMetaOf sheet deep.secret
      is_meta =
          let block = block_is carried.block carried.gave in
          let text : opens_here.0 ≡ meta_of sheet = same_Some opens_here.0 (meta_of sheet) (sym opens_here.1 ∙ sym (ap (λ (b : List ℕ). meta_opens user b) block) ∙ carried.carries.metadata) in
          subst (λ (t : List ℕ). IsMetaText t deep.secret.path deep.secret.size deep.secret.root_key deep.secret.root_tag deep.secret.first) text opens_here.2

      out_of_left : pieces_in es ≡ pieces_in left
      out_of_left = ap (λ (l : List Event). pieces_in l) parts

      sheet_pieces : ArePiecesOf sheet.content 0 (pieces_in es)
      sheet_pieces = subst (λ (ps : List (List ℕ)). ArePiecesOf sheet.content 0 ps) (sym out_of_left)
          (content_from input deep.file sheet (answers_in es) of_sheet deep.secret is_meta 0 deep.pieces deep.end left more (λ some k low high. absurd (omega (arith, low, high))) deep.are then left_among)

      sheet_done : more ≡ [] → deep.end ≡ None → concat (pieces_in es) ≡ sheet.content
      sheet_done none is_none =
          let all : pieces_in es ≡ deep.pieces = out_of_left ∙ ap (λ (l : List Event). pieces_in l) (sym (append-nil left) ∙ ap (λ (l : List Event). left ++ l) (sym none) ∙ then) ∙ pieces_out input deep.file 0 deep.pieces (end_of deep.end) in
          let long = size_same sheet (Given input (answers_in es)) of_sheet deep.file 0 (λ k low high. absurd (omega (arith, high))) deep.secret is_meta in
          joined sheet.content deep.file deep.secret 0 (pieces_in es) long
          (subst (λ (ps : List (List ℕ)). ArePiecesFrom deep.file deep.secret 0 ps None) (sym all) (subst (λ (e : Option Damage). ArePiecesFrom deep.file deep.secret 0 deep.pieces e) is_none deep.are)) sheet_pieces

      sheet_damage : (damage : Damage) → more ≡ [] → deep.end ≡ Some damage → IsForeign sheet (Given input (answers_in es)) damage.node
      sheet_damage damage none is_some =
          let whole : left ≡ piece_events input deep.file 0 deep.pieces (end_of (Some damage)) = sym (append-nil left) ∙ ap (λ (l : List Event). left ++ l) (sym none) ∙ then ∙ ap (λ (e : Option Damage). piece_events input deep.file 0 deep.pieces (end_of e)) is_some in
          damage_from input deep.file sheet (answers_in es) of_sheet deep.secret is_meta 0 deep.pieces damage (λ some k low high. absurd (omega (arith, low, high)))
          (subst (λ (e : Option Damage). ArePiecesFrom deep.file deep.secret 0 deep.pieces e) is_some deep.are) (subst (λ (l : List Event). Among (answers_in l) (answers_in es)) whole left_among)

-- a front of a run puts nothing out, or has its key and its node 0 in it
front_or : (key input : Name) (es more : List Event) (ending : Ending) → DecryptLeads key input (es ++ more) ending
    → (pieces_in es ≡ []) ⊎ ((deep : Deep key input (es ++ more) ending) × (left : List Event) × (es ≡ (key_events key deep.user ++ opening_events input deep.size (block_of deep.file 0)) ++ left) × (left ++ more ≡ piece_events input deep.file 0 deep.pieces (end_of deep.end)))
front_or key input es more ending leads =
    elim (deep_or key input (es ++ more) ending leads) [
      | inr shallow ↦ inl (front_silent es more (es ++ more) refl shallow.silent)
      | inl deep ↦ elim (split_front (key_events key deep.user ++ opening_events input deep.size (block_of deep.file 0)) (piece_events input deep.file 0 deep.pieces (end_of deep.end)) es more deep.es_are refl) [
        | inl none ↦ inl none
        | inr (left, parts, then) ↦ inr (deep, left, parts, then)
      ]
    ]

done_none : (end : Option Damage) → end_of end ≡ Done → end ≡ None
done_none None is = refl
done_none (Some damage) is = absurd (cc)

damaged_some : (end : Option Damage) (k : ℕ) (kind : Kind) → end_of end ≡ Damaged k kind → (damage : Damage) × (end ≡ Some damage) × (damage.node ≡ k)
damaged_some None k kind is = absurd (cc)
damaged_some (Some damage) k kind is = (damage, refl, cc)

-- node 0 never opens to a text of no metadata
text_opens : (user node text : List ℕ) (sheets : List Sheet) (these : List Answer) (input : Name) → Contains these (Gave input 0 4096 node) → length node ≡ 4096 → Unforged user sheets these → IsOpenFault user node kinds.Text → ⊥
text_opens user node text sheets these input gave whole unforged fault =
    let there = unforged.metadata node fault.0 (record { name = input; place = 0; room = 4096; there = gave; whole = whole }) fault.1 in
    let sheet = there.0 in
    fault.2 (
      sheet.path,
      (
        length sheet.content,
        (
          (root_of sheet.nodes).0,
          (
            (root_of sheet.nodes).1,
            (
              first_text sheet.content,
              subst (λ (t : List ℕ). IsMetaText t sheet.path (length sheet.content) (root_of sheet.nodes).0 (root_of sheet.nodes).1 (first_text sheet.content)) (sym there.3) (meta_is_text sheet (unforged.linked sheet there.1)),
            ),
          ),
        ),
      ),
    )

module _ (key input : Name) (user : List ℕ) (sheets : List Sheet) where
  key_of : (size : ℕ) (node user' : List ℕ) → Contains (LengthWas key (Some 16) ∷ Gave key 0 16 user' ∷ LengthWas input (Some size) ∷ Gave input 0 4096 node ∷ []) (Gave key 0 16 user) → user ≡ user'
  key_of size node user' (zero, within, is) = absurd (let e : LengthWas key (Some 16) ≡ Gave key 0 16 user = is in cc)
  key_of size node user' (suc zero, within, is) = let e : Gave key 0 16 user' ≡ Gave key 0 16 user = is in cc
  key_of size node user' (suc (suc zero), within, is) = absurd (let e : LengthWas input (Some size) ≡ Gave key 0 16 user = is in cc)
  key_of size node user' (suc (suc (suc zero)), within, is) = absurd (let e : Gave input 0 4096 node ≡ Gave key 0 16 user = is in let rooms : ◌≡◌ {A = ℕ} 4096 16 = cc in omega (arith, rooms))
  key_of size node user' (suc (suc (suc (suc i))), within, is) = absurd (omega arith)

  text_never : (es : List Event) (ending : Ending) → DecryptLeads key input es ending → ending ≡ Damaged 0 kinds.Text → Contains (answers_in es) (Gave key 0 16 user) → Unforged user sheets (answers_in es) → ⊥
  text_never es ending (decrypt_key_refused (key_unnamed u is ends)) text has_key unforged = absurd (cc)
  text_never es ending (decrypt_key_refused (key_absent named is ends)) text has_key unforged = absurd (cc)
  text_never es ending (decrypt_key_refused (key_length n named other is ends)) text has_key unforged = absurd (cc)
  text_never es ending (decrypt_key_refused (key_short bytes named short is ends)) text has_key unforged = absurd (cc)
  text_never es ending (decrypt_key_read user' rest has is (input_unnamed u are ends)) text has_key unforged = absurd (cc)
  text_never es ending (decrypt_key_read user' rest has is (input_absent target are ends)) text has_key unforged = absurd (cc)
  text_never es ending (decrypt_key_read user' rest has is (input_read size file pieces target (node_refused (not_protected other ends) none) are)) text has_key unforged = absurd (cc)
  text_never es ending (decrypt_key_read user' rest has is (input_read size file pieces target (node_refused (node_short magic short ends) none) are)) text has_key unforged =
      absurd (let kinds_same : kinds.Short ≡ kinds.Text = cc in cc)
  text_never es ending (decrypt_key_read user' rest has is (input_read size file pieces target (node_refused (node_pending magic long flag ends) none) are)) text has_key unforged = absurd (cc)
  text_never es ending (decrypt_key_read user' rest has is (input_read size file pieces target (node_refused (node_version major minor long zero_flag version ends) none) are)) text has_key unforged = absurd (cc)
  text_never es ending (decrypt_key_read user' rest has is (input_read size file pieces target (node_refused (node_damaged kind whole fault ends) none) are)) text has_key unforged =
      let is_text : kind ≡ kinds.Text = cc in
      let all : es ≡ key_events key user' ++ opening_events input size (block_of file 0) =
      is ∙ ap (λ (l : List Event). key_events key user' ++ l) (are ∙ ap (λ (l : List Event). Answers (LengthWas input (Some size)) ∷ Answers (Gave input 0 4096 (block_of file 0)) ∷ l) (refused_events user' file pieces ending (node_damaged kind whole fault ends) none input file)) in
      let answers : answers_in es ≡ LengthWas key (Some 16) ∷ Gave key 0 16 user' ∷ LengthWas input (Some size) ∷ Gave input 0 4096 (block_of file 0) ∷ [] = ap (λ (l : List Event). answers_in l) all in
      let one = key_of size (block_of file 0) user' (subst (λ (l : List Answer). Contains l (Gave key 0 16 user)) answers has_key) in
      text_opens user (block_of file 0) [] sheets (answers_in es) input (subst (λ (l : List Answer). Contains l (Gave input 0 4096 (block_of file 0))) (sym answers) (3, omega arith, refl)) whole.whole unforged
      (subst (λ (u : List ℕ). IsOpenFault u (block_of file 0) kinds.Text) (sym one) (subst (λ (k : Kind). IsOpenFault user' (block_of file 0) k) is_text fault))
  text_never es ending (decrypt_key_read user' rest has is (input_read size file pieces target (pieces_read None whole pieces_are ends) are)) text has_key unforged = absurd (cc)
  text_never es ending (decrypt_key_read user' rest has is (input_read size file pieces target (pieces_read (Some damage) whole pieces_are ends) are)) text has_key unforged =
      let node : damage.node ≡ 0 = cc in
      absurd (omega (arith, node, damage_low file pieces_are.secret 0 pieces damage pieces_are.pieces_are))

  -- the pieces of a front
  front_pieces : (es more : List Event) (ending : Ending) → DecryptLeads key input (es ++ more) ending → Contains (answers_in es) (Gave key 0 16 user) → Unforged user sheets (answers_in es)
      → (sheet : Sheet) → Contains sheets sheet → IsCarried user input (answers_in es) sheet → ArePiecesOf sheet.content 0 (pieces_in es)
  front_pieces es more ending leads has_key unforged sheet among carried =
      elim (front_or key input es more ending leads) [
        | inl none ↦ subst (λ (ps : List (List ℕ)). ArePiecesOf sheet.content 0 ps) (sym none) tt
        | inr (deep, left, parts, then) ↦ sheet_pieces key input es more ending deep left parts then user sheets has_key unforged sheet among carried
      ]

  front_sheet : (es more : List Event) (ending : Ending) → DecryptLeads key input (es ++ more) ending → Contains (answers_in es) (Gave key 0 16 user) → Unforged user sheets (answers_in es) → (pieces_in es ≢ [])
      → (sheet : Sheet) × Contains sheets sheet × IsCarried user input (answers_in es) sheet
  front_sheet es more ending leads has_key unforged some =
      elim (front_or key input es more ending leads) [
        | inl none ↦ absurd (some none)
        | inr (deep, left, parts, then) ↦ some_sheet key input es more ending deep left parts then user sheets has_key unforged
      ]

  -- a whole run
  module _ (es : List Event) (ending : Ending) (has_key : Contains (answers_in es) (Gave key 0 16 user)) (unforged : Unforged user sheets (answers_in es)) where
    whole_deep : (deep : Deep key input es ending) → Deep key input (es ++ []) ending
    whole_deep deep = subst (λ (l : List Event). Deep key input l ending) (sym (append-nil es)) deep

    at_end : DecryptLeads key input es ending → IsOfSheets user sheets input es (AtEnd ending)
    at_end leads =
        let leads_on = subst (λ (l : List Event). DecryptLeads key input l ending) (sym (append-nil es)) leads in
        let same_end = λ (e : Ending) (is : AtEnd ending ≡ AtEnd e). end_same ending e is in
        let never = λ (is : AtEnd ending ≡ AtEnd (Damaged 0 kinds.Text)). text_never es ending leads (same_end (Damaged 0 kinds.Text) is) has_key unforged in
        elim (deep_or key input (es ++ []) ending leads_on) [
          | inr shallow ↦ record {
            each = λ sheet among carried. record {
              pieces = front_pieces es [] ending leads_on has_key unforged sheet among carried;
              all = λ is. absurd (shallow.not_done (same_end Done is));
              damage = λ k kind low is. absurd (shallow.not_damaged k kind low (same_end (Damaged k kind) is));
            };
            some = λ behind. elim behind [
              | inl some ↦ front_sheet es [] ending leads_on has_key unforged some
              | inr (inl is) ↦ absurd (shallow.not_done (same_end Done is))
              | inr (inr (k, kind, low, is)) ↦ absurd (shallow.not_damaged k kind low (same_end (Damaged k kind) is))
            ];
            never_text = never;
          }
          | inl deep ↦
              let left = piece_events input deep.file 0 deep.pieces (end_of deep.end) in
              let parts : es ≡ (key_events key deep.user ++ opening_events input deep.size (block_of deep.file 0)) ++ left = sym (append-nil es) ∙ deep.es_are in
              let then : left ++ [] ≡ left = append-nil left in
              record {
                each = λ sheet among carried. record {
                  pieces = sheet_pieces key input es [] ending deep left parts then user sheets has_key unforged sheet among carried;
                  all = λ is. sheet_done key input es [] ending deep left parts then user sheets has_key unforged sheet among carried refl (done_none deep.end (sym deep.ending_is ∙ same_end Done is));
                  damage = λ k kind low is.
                      let d = damaged_some deep.end k kind (sym deep.ending_is ∙ same_end (Damaged k kind) is) in
                      subst (λ (j : ℕ). IsForeign sheet (Given input (answers_in es)) j) d.2 (sheet_damage key input es [] ending deep left parts then user sheets has_key unforged sheet among carried d.0 refl d.1);
                };
                some = λ behind. some_sheet key input es [] ending deep left parts then user sheets has_key unforged;
                never_text = never;
              }
        ] where
          end_same : (e f : Ending) → AtEnd e ≡ AtEnd f → e ≡ f
          end_same e f is = cc

  -- a run that stopped at no ending, by what it has tried
  by_pieces : (es : List Event) (stop : Stop) → ((ending : Ending) → stop ≡ AtEnd ending → ⊥) → ((sheet : Sheet) → Contains sheets sheet → IsCarried user input (answers_in es) sheet → ArePiecesOf sheet.content 0 (pieces_in (tried es stop)))
      → ((pieces_in (tried es stop) ≢ []) → (sheet : Sheet) × Contains sheets sheet × IsCarried user input (answers_in es) sheet) → IsOfSheets user sheets input es stop
  by_pieces es stop not_ended pieces some = record {
    each = λ sheet among carried. record {
      pieces = pieces sheet among carried;
      all = λ is. absurd (not_ended Done is);
      damage = λ k kind low is. absurd (not_ended (Damaged k kind) is);
    };
    some = λ behind. elim behind [
      | inl nonempty ↦ some nonempty
      | inr (inl is) ↦ absurd (not_ended Done is)
      | inr (inr (k, kind, low, is)) ↦ absurd (not_ended (Damaged k kind) is)
    ];
    never_text = λ is. not_ended (Damaged 0 kinds.Text) is;
  }

  -- nothing more was put out
  by_front : (es more : List Event) (ending : Ending) (stop : Stop) → ((e : Ending) → stop ≡ AtEnd e → ⊥) → pieces_in (tried es stop) ≡ pieces_in es → DecryptLeads key input (es ++ more) ending → Contains (answers_in es) (Gave key 0 16 user) → Unforged user sheets (answers_in es)
      → IsOfSheets user sheets input es stop
  by_front es more ending stop not_ended same leads has_key unforged =
      by_pieces es stop not_ended
      (λ sheet among carried. subst (λ (ps : List (List ℕ)). ArePiecesOf sheet.content 0 ps) (sym same) (front_pieces es more ending leads has_key unforged sheet among carried))
      (λ some. front_sheet es more ending leads has_key unforged (λ none. some (same ∙ none)))

  stopped : (es more : List Event) (ending : Ending) (event : Event) → DecryptLeads key input (es ++ event ∷ more) ending → Contains (answers_in es) (Gave key 0 16 user) → Unforged user sheets (answers_in es) → IsOfSheets user sheets input es (Failed event)
  stopped es more ending (Answers a) leads has_key unforged =
      by_front es (Answers a ∷ more) ending (Failed (Answers a)) (λ e is. absurd (cc)) (pieces_then es (Answers a ∷ []) ∙ append-nil (pieces_in es)) leads has_key unforged
  stopped es more ending (Draws w) leads has_key unforged =
      by_front es (Draws w ∷ more) ending (Failed (Draws w)) (λ e is. absurd (cc)) (pieces_then es (Draws w ∷ []) ∙ append-nil (pieces_in es)) leads has_key unforged
  stopped es more ending (Puts bytes) leads has_key unforged =
      let answers : answers_in (es ++ Puts bytes ∷ []) ≡ answers_in es = answers_then es (Puts bytes ∷ []) ∙ append-nil (answers_in es) in
      let leads_on = subst (λ (l : List Event). DecryptLeads key input l ending) (sym (append_assoc es (Puts bytes ∷ []) more)) leads in
      let key_on = subst (λ (l : List Answer). Contains l (Gave key 0 16 user)) (sym answers) has_key in
      let unforged_on = subst (λ (l : List Answer). Unforged user sheets l) (sym answers) unforged in
      by_pieces es (Failed (Puts bytes)) (λ e is. absurd (cc))
      (λ sheet among carried. front_pieces (es ++ Puts bytes ∷ []) more ending leads_on key_on unforged_on sheet among (subst (λ (l : List Answer). IsCarried user input l sheet) (sym answers) carried))
      (λ some. let there = front_sheet (es ++ Puts bytes ∷ []) more ending leads_on key_on unforged_on some in (there.0, there.1, subst (λ (l : List Answer). IsCarried user input l there.0) answers there.2))

pub decrypts_sheets : DecryptsSheets
decrypts_sheets key input es (AtEnd ending) user sheets stands has_key unforged = at_end key input user sheets es ending has_key unforged stands
decrypts_sheets key input es (Failed event) user sheets stands has_key unforged = stopped key input user sheets es stands.0 stands.1 event stands.2 has_key unforged
decrypts_sheets key input es Starved user sheets stands has_key unforged =
    by_front key input user sheets es stands.0 stands.1 Starved (λ e is. absurd (cc)) refl stands.3 has_key unforged
