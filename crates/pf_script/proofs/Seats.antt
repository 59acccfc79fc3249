-- The seats after a deed, and the names that it does not concern.
use Rattle.std.proofs.Common.{◌≡◌, ◌≢◌, ◌⊎◌, inl, inr, ⊎_elim, Bool, true, false, cond, List, [], ◌∷◌, ◌++◌, refl, sym, ◌∙◌, ap, Option, Some, None, arith}
use Rattle.std.specs.Prelude.{Contains, bytes_eq}
use Rattle.std.proofs.lemmas.List.Elements.{Contains-append_left, Contains-append_right, Contains-append_cases, Contains-push, Contains-push_cases}
use Rattle.std.proofs.lemmas.Slice.Eq.{bytes_eq-Decides}
use Rattle.pf_io.specs.Disk.{Name}
use Rattle.pf_io.specs.Replay.{set_at}
use Rattle.pf_script.specs.Book.{Book, Entry, Alone, Partner, Seal}
use Rattle.pf_script.specs.BookActs.{Deed, Opening, Creation, Flush, Move, Act, Names, booked, booked_all, opened, flushed, moved, freed, dropped, without_partner, speaks, sealed_entry, Among}
use Rattle.pf_script.specs.BookDebts.{SeatsAfter, IsLeft, seal_of}
use Rattle.pf_script.proofs.NameMaps.{differ, same_name, name_or, set_at-other}

-- the seats on other names, and the one that a deed leaves
abbrev names_it : Deed → Name → Bool
names_it (Opening seal) name = bytes_eq name seal.name
names_it (Creation seal) name = bytes_eq name seal.name
names_it (Flush seal) name = bytes_eq name seal.name
names_it (Move from seal) name = cond (bytes_eq name seal.name) true (bytes_eq name from)

abbrev without : Deed → List Seal → List Seal
without deed [] = []
without deed (seat ∷ seats) = cond (names_it deed seat.name) (without deed seats) (seat ∷ without deed seats)

abbrev left_of : Deed → Bool → List Seal
left_of deed true = seal_of deed ∷ []
left_of deed false = []

abbrev pub seats_after : Deed → Bool → List Seal → List Seal
seats_after deed done seats = without deed seats ++ left_of deed done

pub not_in_none : {X : Type 0} (s : X) → Contains [] s → ⊥
not_in_none s has = absurd (omega (arith, has.1))

pub only_one : {X : Type 0} (s t : X) → Contains (s ∷ []) t → t ≡ s
only_one s t has = ⊎_elim (λ none. absurd (not_in_none t none)) (λ same. sym same) (Contains-push_cases [] s t has)

named : (deed : Deed) (n : Name) → Names deed n → names_it deed n ≡ true
named (Opening seal) n is = same_name n seal.name is
named (Creation seal) n is = same_name n seal.name is
named (Flush seal) n is = same_name n seal.name is
named (Move from seal) n (inl is) = ap (λ b. cond b true (bytes_eq n from)) (same_name n seal.name is)
named (Move from seal) n (inr is) =
    elim (bytes_eq n seal.name) as (λ b. cond b true (bytes_eq n from) ≡ true) [ true ↦ refl | false ↦ same_name n from is ]

not_named : (deed : Deed) (n : Name) → names_it deed n ≡ true → Names deed n
not_named (Opening seal) n is = (bytes_eq-Decides n seal.name).0 is
not_named (Creation seal) n is = (bytes_eq-Decides n seal.name).0 is
not_named (Flush seal) n is = (bytes_eq-Decides n seal.name).0 is
not_named (Move from seal) n is = by_name (name_or n seal.name)
  where
    by_name : (n ≡ seal.name) ⊎ (n ≢ seal.name) → (n ≡ seal.name) ⊎ (n ≡ from)
    by_name (inl same) = inl same
    by_name (inr apart) = inr ((bytes_eq-Decides n from).0 (sym (ap (λ b. cond b true (bytes_eq n from)) (differ n seal.name apart)) ∙ is))

without_in : (deed : Deed) (seats : List Seal) (seat : Seal) → Contains seats seat → ¬ (Names deed seat.name) → Contains (without deed seats) seat
without_in deed [] seat has apart = absurd (not_in_none seat has)
without_in deed (s ∷ seats) seat has apart = by_place (λ there. without_in deed seats seat there apart) (names_it deed s.name) refl (Contains-append_cases (s ∷ []) seats seat has)
  where
    by_place : (Contains seats seat → Contains (without deed seats) seat) → (b : Bool) → names_it deed s.name ≡ b → Contains (s ∷ []) seat ⊎ Contains seats seat → Contains (cond b (without deed seats) (s ∷ without deed seats)) seat
    by_place rest true is (inl here) = absurd (apart (not_named deed seat.name (ap (λ (t : Seal). names_it deed t.name) (only_one s seat here) ∙ is)))
    by_place rest true is (inr there) = rest there
    by_place rest false is (inl here) = Contains-append_left (s ∷ []) (without deed seats) seat here
    by_place rest false is (inr there) = Contains-append_right (s ∷ []) (without deed seats) seat (rest there)

without_out : (deed : Deed) (seats : List Seal) (seat : Seal) → Contains (without deed seats) seat → Contains seats seat × ¬ (Names deed seat.name)
without_out deed [] seat has = absurd (not_in_none seat has)
without_out deed (s ∷ seats) seat has = by_test (λ there. let rest = without_out deed seats seat there in (Contains-append_right (s ∷ []) seats seat rest.0, rest.1)) (names_it deed s.name) refl has
  where
    by_test : (Contains (without deed seats) seat → Contains (s ∷ seats) seat × ¬ (Names deed seat.name)) → (b : Bool) → names_it deed s.name ≡ b → Contains (cond b (without deed seats) (s ∷ without deed seats)) seat → Contains (s ∷ seats) seat × ¬ (Names deed seat.name)
    by_test in_rest true is there = in_rest there
    by_test in_rest false is there =
        ⊎_elim (λ here. (Contains-append_left (s ∷ []) seats seat here, λ is_named. let e : true ≡ false = sym (named deed seat.name is_named) ∙ ap (λ (t : Seal). names_it deed t.name) (only_one s seat here) ∙ is in absurd (cc)))
        in_rest (Contains-append_cases (s ∷ []) (without deed seats) seat there)

pub seats_are : (deed : Deed) (done : Bool) (seats : List Seal) → SeatsAfter deed done seats (seats_after deed done seats)
seats_are deed done seats seat has = ⊎_elim (λ rest. inl (without_out deed seats seat rest)) (λ new. inr (by_done done new)) (Contains-append_cases (without deed seats) (left_of deed done) seat has)
  where
    by_done : (d : Bool) → Contains (left_of deed d) seat → IsLeft deed d seat
    by_done true new = only_one (seal_of deed) seat new
    by_done false new = absurd (not_in_none seat new)

pub seats_stay : (deed : Deed) (done : Bool) (seats : List Seal) (seat : Seal) → Contains seats seat → ¬ (Names deed seat.name) → Contains (seats_after deed done seats) seat
seats_stay deed done seats seat has apart = Contains-append_left (without deed seats) (left_of deed done) seat (without_in deed seats seat has apart)

pub seat_is_left : (deed : Deed) (seats : List Seal) → Contains (seats_after deed true seats) (seal_of deed)
seat_is_left deed seats = Contains-push (without deed seats) (seal_of deed)

-- A name that a deed does not concern comes into no book by it.
booked_none : (deed : Deed) (done : Bool) (book : Book) (n : Name) → ¬ (Names deed n) → book n ≡ None → booked deed done book n ≡ None
booked_none (Opening seal) false book n apart none = none
booked_none (Opening seal) true book n apart none = by_entry (book seal.name)
  where
    by_entry : (o : Option Entry) → opened seal o book n ≡ None
    by_entry None = none
    by_entry (Some entry) =
        set_at-other seal.name n (cond (speaks seal.key entry) (Some (Alone seal.key (Some seal.sheet.content) None true)) None) (without_partner dropped seal.name book) apart ∙ ap (λ (p : Option Entry). dropped seal.name p) none
booked_none (Creation seal) done book n apart none =
    set_at-other seal.name n (Some (sealed_entry seal.key seal.sheet.content None done)) (without_partner freed seal.name book) apart ∙ ap (λ (p : Option Entry). freed seal.name p) none
booked_none (Flush seal) done book n apart none = by_entry (book seal.name)
  where
    by_entry : (o : Option Entry) → flushed seal done o book n ≡ None
    by_entry None = none
    by_entry (Some (Partner key content other)) = none
    by_entry (Some (Alone key kept tried ready)) = set_at-other seal.name n (Some (sealed_entry key seal.sheet.content kept done)) book apart ∙ none
booked_none (Move from seal) done book n apart none = by_entry done (book from)
  where
    far : without_partner freed seal.name book n ≡ None
    far = ap (λ (p : Option Entry). freed seal.name p) none

    by_entry : (d : Bool) (o : Option Entry) → moved from seal d o book n ≡ None
    by_entry true None = set_at-other seal.name n None (without_partner freed seal.name book) (λ is. apart (inl is)) ∙ far
    by_entry false None = set_at-other seal.name n None (without_partner freed seal.name book) (λ is. apart (inl is)) ∙ far
    by_entry true (Some entry) =
        set_at-other seal.name n (Some (Alone seal.key (Some seal.sheet.content) None true)) (set_at from None (without_partner freed seal.name book)) (λ is. apart (inl is))
        ∙ set_at-other from n None (without_partner freed seal.name book) (λ is. apart (inr is)) ∙ far
    by_entry false (Some entry) =
        set_at-other seal.name n (Some (Partner seal.key seal.sheet.content from)) (set_at from (Some (Partner seal.key seal.sheet.content seal.name)) (without_partner freed seal.name book)) (λ is. apart (inl is))
        ∙ set_at-other from n (Some (Partner seal.key seal.sheet.content seal.name)) (without_partner freed seal.name book) (λ is. apart (inr is)) ∙ far

pub booked_all_none : (acts : List Act) (book : Book) (n : Name) → ¬ (Among acts n) → book n ≡ None → booked_all acts book n ≡ None
booked_all_none [] book n apart none = none
booked_all_none (act ∷ acts) book n apart none = booked_all_none acts (booked act.deed act.done book) n (λ is. apart (inr is)) (booked_none act.deed act.done book n (λ is. apart (inl is)) none)

pub among_on : (acts more : List Act) (n : Name) → Among (acts ++ more) n → Among acts n ⊎ Among more n
among_on [] more n is = inr is
among_on (act ∷ acts) more n (inl is) = inl (inl is)
among_on (act ∷ acts) more n (inr is) = ⊎_elim (λ here. inl (inr here)) (λ there. inr there) (among_on acts more n is)

pub among_back : (acts more : List Act) (n : Name) → Among acts n ⊎ Among more n → Among (acts ++ more) n
among_back [] more n (inl is) = absurd is
among_back [] more n (inr is) = is
among_back (act ∷ acts) more n (inl (inl is)) = inl is
among_back (act ∷ acts) more n (inl (inr is)) = inr (among_back acts more n (inl is))
among_back (act ∷ acts) more n (inr is) = inr (among_back acts more n (inr is))
