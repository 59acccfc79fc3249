-- Names and their parts.
use denote.Ref.{Bor}
use Rattle.std.proofs.lemmas.List.{take_all, take_more, map-append}
use Rattle.std.proofs.Common.{◌-◌, ◌<◌, get_or, drop, ◌≡◌, ◌≢◌, ◌∙◌, ◌↔◌, ℕ, suc, ◌+◌, ◌≤◌, append-nil, append_assoc, Bool, true, false, not, ◌==◌, nat_le, cond, List, [], ◌∷◌, ◌++◌, length, map, take, All, IsTrue, refl, sym, ap, arith}
use Rattle.std.specs.Bool.{Decides}
use Rattle.std.proofs.lemmas.Bool.Decides.{Decides-and, Decides-by_and, Decides-not, Decides-eqb, nat_tests, Decides-like, same_from_decides}
use Rattle.std.specs.List.{list_all, join_with_byte, fold}
use Rattle.std.proofs.lemmas.List.Sums.{fold-append}
use Rattle.pf_io.specs.Names.{IsName, SLASH}
use Rattle.manifest_model.specs.Names.{is_name, behind, name_of, go}

pub join-behind : (p : List ℕ) (ps : List (List ℕ)) → join_with_byte SLASH (p ∷ ps) ≡ p ++ behind ps
join-behind p [] = sym (append-nil p)
join-behind p (q ∷ ps) = ap (λ t. p ++ SLASH ∷ t) (join-behind q ps)

pub behind-more : (ps : List (List ℕ)) (p : List ℕ) → behind (ps ++ p ∷ []) ≡ behind ps ++ SLASH ∷ p
behind-more [] p = ap (λ t. SLASH ∷ t) (append-nil p)
behind-more (q ∷ ps) p = ap (λ t. SLASH ∷ (q ++ t)) (behind-more ps p) ∙ ap (λ t. SLASH ∷ t) (sym (append_assoc q (behind ps) (SLASH ∷ p)))

-- the first part, and the others
pub first_and_others : (parts : List (Bor (List ℕ))) (d : Bor (List ℕ)) → 1 ≤ length parts → map (λ p. p.now) parts ≡ (get_or parts 0 d).now ∷ map (λ p. p.now) (take (length parts - 1) (drop 1 parts))
first_and_others [] d h = absurd (omega (arith, h))
first_and_others (p ∷ ps) d h = ap (λ qs. p.now ∷ map (λ q. q.now) qs) (sym (take_all (suc (length ps) - 1) ps (omega arith)))

pub name_of-behind : (absolute : Bool) (p : List ℕ) (ps : List (List ℕ)) → (cond absolute (SLASH ∷ []) [] ++ p) ++ behind ps ≡ name_of absolute (p ∷ ps)
name_of-behind true p ps = ap (λ t. SLASH ∷ t) (sym (join-behind p ps))
name_of-behind false p ps = sym (join-behind p ps)

-- the tests of a name, and what pf_io says of one
Decides-leb : (a b : ℕ) → Decides (nat_le a b) (a ≤ b)
Decides-leb a b = (λ h. grind (arith, nat_tests, h), λ h. grind (arith, nat_tests, h))

pub is_name-IsName : (r : Bool) (name : List ℕ) → IsTrue r ↔ IsName name → r ≡ is_name name
unfolding is_name
is_name-IsName r name same =
    let zeros : Decides (list_all (λ byte. not (byte == 0)) name) (All (λ byte. byte ≢ 0) name) = Decides-by_and (λ byte. not (byte == 0)) (λ byte. byte ≢ 0) (list_all (λ byte. not (byte == 0))) (λ byte. Decides-not (byte == 0) (Decides-eqb byte 0)) refl (λ x xs. refl) name in
    let whole = Decides-and _ _ (Decides-and _ _ (Decides-leb 1 (length name)) (Decides-leb (length name) 512)) zeros in
    let is : Decides (is_name name) (IsName name) = Decides-like (is_name name) (λ p. record { not_empty = p.0.0; not_long = p.0.1; no_zero = p.1 }) (λ n. ((n.not_empty, n.not_long), n.no_zero)) whole in
    same_from_decides r (is_name name) (same.0, same.1) is

pub behind_step : (ps : List (Bor (List ℕ))) (i : ℕ) (d : Bor (List ℕ)) (start old slashed new : List ℕ) → i < length ps → old ≡ start ++ behind (map (λ p. p.now) (take i ps)) → slashed ≡ old ++ SLASH ∷ [] → new ≡ slashed ++ (get_or ps i d).now
    → new ≡ start ++ behind (map (λ p. p.now) (take (i + 1) ps))
behind_step ps i d start old slashed new l before slash part =
    let more : map (λ (p : Bor (List ℕ)). p.now) (take (i + 1) ps) ≡ map (λ (p : Bor (List ℕ)). p.now) (take i ps) ++ (get_or ps i d).now ∷ [] = ap (map (λ (p : Bor (List ℕ)). p.now)) (take_more ps i d l) ∙ map-append (λ (p : Bor (List ℕ)). p.now) (take i ps) (get_or ps i d ∷ []) in
    rw (part, slash, before, more, behind-more (map (λ (p : Bor (List ℕ)). p.now) (take i ps)) (get_or ps i d).now) (simp append_assoc)

-- one more part of a name
pub parts_more : (absolute : Bool) (ps : List (Bor (List ℕ))) (i : ℕ) (d : Bor (List ℕ)) (old new : List (List ℕ)) → i < length ps → old ≡ fold (go absolute) [] (map (λ p. p.now) (take i ps)) → new ≡ go absolute old (get_or ps i d).now
    → new ≡ fold (go absolute) [] (map (λ p. p.now) (take (i + 1) ps))
parts_more absolute ps i d old new l before one =
    let now : Bor (List ℕ) → List ℕ = λ p. p.now in
    let more : map now (take (i + 1) ps) ≡ map now (take i ps) ++ now (get_or ps i d) ∷ [] = ap (map now) (take_more ps i d l) ∙ map-append now (take i ps) (get_or ps i d ∷ []) in
    one ∙ ap (λ kept. go absolute kept (get_or ps i d).now) before ∙ sym (fold-append (go absolute) [] (map now (take i ps)) (now (get_or ps i d) ∷ [])) ∙ sym (ap (fold (go absolute) []) more)
