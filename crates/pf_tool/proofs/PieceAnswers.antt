-- The answers of pieces among all answers.
use Rattle.std.proofs.Common.{◌≡◌, ℕ, ◌+◌, Bool, true, cond, List, [], ◌∷◌, ◌++◌, length, filter, refl, sym, ap, subst, ◌∙◌, arith, append_assoc, length-append, Option}
use Rattle.std.proofs.lemmas.List.{append-nil}
use Rattle.std.specs.Prelude.{bytes_eq, ◌&&◌}
use Rattle.std.specs.List.{concat}
use Rattle.std.proofs.lemmas.List.Elements.{filter-append}
use Rattle.std.proofs.lemmas.Slice.Eq.{bytes_eq-Decides}
use Rattle.pf_io.specs.Disk.{Name}
use Rattle.pf_io.specs.Host.{Answer, Gave, HostState, Both, IsMore}
use Rattle.pf_io.specs.Names.{side_of}
use Rattle.pf_io.proofs.Telling.{both_then, both_weaker, both_same}
use Rattle.node_tree.specs.Parts.{PIECE}
use Rattle.node_tree.specs.Sealing.{writes_of}
use Rattle.node_tree.specs.State.{TreeState, held_at}
use Rattle.pf_session.specs.Placing.{make_steps}
use Rattle.pf_session.specs.State.{SessionState}
use Rattle.pf_session.specs.Steps.{seal_steps, steps_by, flush_steps}
use Rattle.pf_tool.specs.SealedContents.{is_piece_of, piece_answers}

-- among the answers that came these pieces were given of the file, from a place on
abbrev pub TellsPieces : Name → ℕ → List (List ℕ) → List Answer → List Answer → Type 0
TellsPieces input at pieces before now = (these : List Answer) × (now ≡ before ++ these) × (filter (is_piece_of input) these ≡ piece_answers input at pieces)

pub answers_join : (input : Name) (at : ℕ) (xs ys : List (List ℕ)) → piece_answers input at (xs ++ ys) ≡ piece_answers input at xs ++ piece_answers input (at + length (concat xs)) ys
answers_join input at [] ys = ap (λ (n : ℕ). piece_answers input n ys) (let e : at ≡ at + 0 = omega arith in e)
answers_join input at (x ∷ xs) ys =
    let behind : at + length x + length (concat xs) ≡ at + length (x ++ concat xs) = omega (arith, length-append x (concat xs)) in
    ap (λ (l : List Answer). Gave input at PIECE x ∷ l) (answers_join input (at + length x) xs ys ∙ ap (λ (n : ℕ). piece_answers input (at + length x) xs ++ piece_answers input n ys) behind)

pub tells_none : (input : Name) (at : ℕ) (these : List Answer) (old new : HostState) → filter (is_piece_of input) these ≡ [] → Both old.given new.given (IsMore these) → Both old.given new.given (TellsPieces input at [])
tells_none input at these old new none told = both_weaker (IsMore these) (TellsPieces input at []) old.given new.given told (λ a b more. (these, more, none))

pub tells_same : (input : Name) (at : ℕ) (old new : HostState) → new ≡ old → Both old.given new.given (TellsPieces input at [])
tells_same input at old new same = both_same (TellsPieces input at []) old.given new.given (ap (λ (s : HostState). s.given) same) (λ a. ([], sym (append-nil a), refl))

pub tells_then : (input : Name) (at : ℕ) (xs ys : List (List ℕ)) (old mid new : HostState) → Both old.given mid.given (TellsPieces input at xs) → Both mid.given new.given (TellsPieces input (at + length (concat xs)) ys) → Both old.given new.given (TellsPieces input at (xs ++ ys))
tells_then input at xs ys old mid new first second =
    both_then (TellsPieces input at xs) (TellsPieces input (at + length (concat xs)) ys) (TellsPieces input at (xs ++ ys)) old.given mid.given new.given first second
    (λ a b c one two. (
      one.0 ++ two.0,
      two.1 ∙ ap (λ (l : List Answer). l ++ two.0) one.1 ∙ append_assoc a one.0 two.0,
      filter-append (is_piece_of input) one.0 two.0 ∙ ap (λ (l : List Answer). l ++ filter (is_piece_of input) two.0) one.2 ∙ ap (λ (l : List Answer). piece_answers input at xs ++ l) two.2 ∙ sym (answers_join input at xs ys),
    ))

its_name : (input : Name) → bytes_eq input input ≡ true
its_name input = (bytes_eq-Decides input input).1 refl

one_given : (input : Name) (at : ℕ) (piece : List ℕ) → filter (is_piece_of input) (Gave input at PIECE piece ∷ []) ≡ Gave input at PIECE piece ∷ []
one_given input at piece = subst (λ (b : Bool). cond (b && true) (Gave input at PIECE piece ∷ []) [] ≡ Gave input at PIECE piece ∷ []) (sym (its_name input)) refl

pub tells_piece : (input : Name) (at : ℕ) (piece : List ℕ) (old new : HostState) → Both old.given new.given (IsMore (Gave input at PIECE piece ∷ [])) → Both old.given new.given (TellsPieces input at (piece ∷ []))
tells_piece input at piece old new told = both_weaker (IsMore (Gave input at PIECE piece ∷ [])) (TellsPieces input at (piece ∷ [])) old.given new.given told (λ a b more. (Gave input at PIECE piece ∷ [], more, one_given input at piece))

-- the writes of nodes give no piece
none_of_writes : (input name : Name) (held : ℕ → Option (List ℕ)) (numbers : List ℕ) (keys : List (List ℕ)) → filter (is_piece_of input) (writes_of name held numbers keys) ≡ []
none_of_writes input name held [] keys = refl
none_of_writes input name held (k ∷ numbers) [] = refl
none_of_writes input name held (k ∷ numbers) (key ∷ keys) =
    filter-append (is_piece_of input) (writes_of name held numbers keys) _ ∙ ap (λ (l : List Answer). l ++ []) (none_of_writes input name held numbers keys)

none_of_seals : (input : Name) (key path nonce : List ℕ) (side : Name) (dirty : List ℕ) (keys : List (List ℕ)) (tree : TreeState) → filter (is_piece_of input) (seal_steps key path nonce side dirty keys tree) ≡ []
none_of_seals input key path nonce side dirty keys tree =
    filter-append (is_piece_of input) (writes_of side (held_at tree) dirty keys) _ ∙ ap (λ (l : List Answer). l ++ []) (none_of_writes input side (held_at tree) dirty keys)

pub none_of_flush : (input : Name) (session : SessionState) (nonce : List ℕ) (keys blocks : List (List ℕ)) (tree : TreeState) → session.beside ≡ true → filter (is_piece_of input) (flush_steps session nonce keys blocks tree) ≡ []
none_of_flush input session nonce keys blocks tree beside =
    subst (λ (b : Bool). filter (is_piece_of input) (steps_by b session nonce keys blocks tree) ≡ []) (sym beside) (none_of_seals input session.key session.path nonce (side_of session.name) session.tree.dirty keys tree)

pub none_of_make : (input side : Name) (node : List ℕ) → filter (is_piece_of input) (make_steps side node) ≡ []
none_of_make input side node = refl
