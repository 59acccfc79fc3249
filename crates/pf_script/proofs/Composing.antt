-- Each deed keeps the book, and so does a step of many.
use Rattle.std.proofs.Common.{◌≡◌, inl, inr, ⊎_elim, Bool, true, false, List, [], ◌∷◌, ◌++◌, ℕ, refl, sym, ◌∙◌, ap, subst, Option, Some, None}
use Rattle.std.specs.Prelude.{Contains}
use Rattle.pf_io.specs.Disk.{Name, Disk, Image, IsImage, IsImageAt, reading}
use Rattle.pf_io.specs.Names.{recovery_of}
use Rattle.pf_io.specs.Moments.{Honest, LeavesOnly}
use Rattle.pf_session.specs.Reopening.{LeftAt}
use Rattle.pf_script.specs.Book.{HasAt, Book, Entry, Alone, Partner, ImageFits, Seal, Agrees}
use Rattle.pf_script.specs.BookActs.{Deed, Opening, Creation, Flush, Move, Act, booked, booked_all, opened, FitsDuring}
use Rattle.pf_script.specs.BookDebts.{Unchanged, Did, DidAll, Owes, subject}
use Rattle.pf_script.proofs.During.{leaves_more, leaves_both, leaves_then}
use Rattle.pf_script.proofs.Deeds.{flush_ran, flush_fits, flush_agrees, unknown_fits, unknown_agrees, created_fits, created_agrees, tried_leaves, tried_agrees, opened_agrees}
use Rattle.pf_script.proofs.Moving.{unknown_move_fits, unknown_move_agrees, move_ran, known_move_fits, known_move_agrees}

-- Every image of the deed is as the book says after one that failed.
pub did_leaves : (book : Book) (before after : List Seal) (deed : Deed) (done : Bool) (old new : Honest) → Agrees book before old.now → IsImage old.now (reading old.now)
    → Did book before after deed done old new → LeavesOnly (ImageFits (booked deed false book)) old new
did_leaves book before after (Opening seal) done old new agrees reads did = by_done done did
  where
    by_entry : (o : Option Entry) → book seal.name ≡ o → Did book before after (Opening seal) true old new → LeavesOnly (ImageFits book) old new
    by_entry None was did =
        tried_leaves book before after old new agrees reads seal did.spares (subst (λ (o : Option Entry). Owes before (Opening seal) true o old new) was did.owes)
    by_entry (Some entry) was did =
        tried_leaves book before after old new agrees reads seal did.spares (subst (λ (o : Option Entry). Owes before (Opening seal) true o old new) was did.owes).0

    by_done : (d : Bool) → Did book before after (Opening seal) d old new → LeavesOnly (ImageFits book) old new
    by_done true did = by_entry (book seal.name) refl did
    by_done false did = tried_leaves book before after old new agrees reads seal did.spares did.owes
did_leaves book before after (Creation seal) done old new agrees reads did =
    leaves_both did.spares.others.leaves did.owes.creates.ran.leaves (λ image far either. created_fits book before after old new agrees reads done seal did.spares did.owes image far either)
did_leaves book before after (Flush seal) done old new agrees reads did = by_entry (book seal.name) refl
  where
    by_entry : (o : Option Entry) → book seal.name ≡ o → LeavesOnly (ImageFits (booked (Flush seal) false book)) old new
    by_entry None was = leaves_more did.spares.others.leaves (λ image far. unknown_fits book before after old new agrees reads done seal was did.spares image far)
    by_entry (Some entry) was =
        let owes = subst (λ (o : Option Entry). Owes before (Flush seal) done o old new) was did.owes in
        leaves_both did.spares.others.leaves (flush_ran book before after old new agrees reads done seal entry owes.0 was owes.1 did.spares owes.2).leaves (λ image far either. flush_fits book before after old new agrees reads done seal entry owes.0 was owes.1 did.spares owes.2 image far either)
did_leaves book before after (Move from seal) done old new agrees reads did = by_entry (book from) refl
  where
    by_entry : (o : Option Entry) → book from ≡ o → LeavesOnly (ImageFits (booked (Move from seal) false book)) old new
    by_entry None was =
        let none = subst (λ (o : Option Entry). Owes before (Move from seal) done o old new) was did.owes in
        leaves_more did.spares.others.leaves (λ image far. unknown_move_fits book before after old new agrees reads from seal none did.spares done was image far)
    by_entry (Some entry) was =
        let owes = subst (λ (o : Option Entry). Owes before (Move from seal) done o old new) was did.owes in
        leaves_both did.spares.others.leaves (move_ran book before after old new agrees reads from seal owes.0 did.spares done entry owes.1.0 was owes.1.1 owes.1.2).leaves
        (λ image far as_moved. known_move_fits book before after old new agrees reads from seal owes.0 did.spares done entry owes.1.0 was owes.1.1 owes.1.2 image far as_moved)

-- The book after the deed agrees with the disk.
pub did_agrees : (book : Book) (before after : List Seal) (deed : Deed) (done : Bool) (old new : Honest) → Agrees book before old.now → IsImage old.now (reading old.now)
    → Did book before after deed done old new → Agrees (booked deed done book) after new.now
did_agrees book before after (Opening seal) done old new agrees reads did = by_done done did
  where
    by_entry : (o : Option Entry) → book seal.name ≡ o → Did book before after (Opening seal) true old new → Agrees (booked (Opening seal) true book) after new.now
    by_entry None was did =
        subst (λ (b : Book). Agrees b after new.now) (sym (ap (λ (o : Option Entry). opened seal o book) was))
        (tried_agrees book before after old new agrees reads seal did.spares (subst (λ (o : Option Entry). Owes before (Opening seal) true o old new) was did.owes)
        (λ seat has. ⊎_elim (λ old_seat. inl old_seat) (λ is. inr (ap (λ (s : Seal). book s.name) is ∙ was)) (did.seats seat has)))
    by_entry (Some entry) was did =
        let owes = subst (λ (o : Option Entry). Owes before (Opening seal) true o old new) was did.owes in
        opened_agrees book before after old new agrees reads seal did.spares owes.0 entry was owes.1 owes.2 did.seats

    by_done : (d : Bool) → Did book before after (Opening seal) d old new → Agrees (booked (Opening seal) d book) after new.now
    by_done true did = by_entry (book seal.name) refl did
    by_done false did = tried_agrees book before after old new agrees reads seal did.spares did.owes (λ seat has. ⊎_elim (λ was. inl was) (λ none. absurd none) (did.seats seat has))
did_agrees book before after (Creation seal) done old new agrees reads did = created_agrees book before after old new agrees reads done seal did.spares did.owes did.seats
did_agrees book before after (Flush seal) done old new agrees reads did = by_entry (book seal.name) refl
  where
    by_entry : (o : Option Entry) → book seal.name ≡ o → Agrees (booked (Flush seal) done book) after new.now
    by_entry None was = unknown_agrees book before after old new agrees reads done seal was did.spares did.seats
    by_entry (Some entry) was =
        let owes = subst (λ (o : Option Entry). Owes before (Flush seal) done o old new) was did.owes in
        flush_agrees book before after old new agrees reads done seal entry owes.0 was owes.1 did.spares owes.2 did.seats
did_agrees book before after (Move from seal) done old new agrees reads did = by_entry (book from) refl
  where
    by_entry : (o : Option Entry) → book from ≡ o → Agrees (booked (Move from seal) done book) after new.now
    by_entry None was =
        let none = subst (λ (o : Option Entry). Owes before (Move from seal) done o old new) was did.owes in
        unknown_move_agrees book before after old new agrees reads from seal none did.spares done was did.seats
    by_entry (Some entry) was =
        let owes = subst (λ (o : Option Entry). Owes before (Move from seal) done o old new) was did.owes in
        known_move_agrees book before after old new agrees reads from seal owes.0 did.spares done entry owes.1.0 was owes.1.1 owes.1.2 did.seats

-- an image of an honest disk is as the book says
image_now : (book : Book) (seats : List Seal) (disk : Disk) → Agrees book seats disk → (image : Image) → IsImage disk image → ImageFits book image
image_now book seats disk agrees image is n (Alone key kept tried ready) was = λ here log has. agrees.images n (Alone key kept tried ready) was here log (at n here log has)
  where
    at : (m : Name) (here log : Option (List ℕ)) → HasAt image m here log → LeftAt disk m here log
    at m here log has = record { file = subst (λ (o : Option (List ℕ)). IsImageAt (disk m) o) (sym has.file) (is m); recovery = subst (λ (o : Option (List ℕ)). IsImageAt (disk (recovery_of m)) o) (sym has.recovery) (is (recovery_of m)) }
image_now book seats disk agrees image is n (Partner key content other) was =
    λ here log here2 log2 has has2. agrees.images n (Partner key content other) was here log here2 log2 (at n here log has) (at other here2 log2 has2)
  where
    at : (m : Name) (here log : Option (List ℕ)) → HasAt image m here log → LeftAt disk m here log
    at m here log has = record { file = subst (λ (o : Option (List ℕ)). IsImageAt (disk m) o) (sym has.file) (is m); recovery = subst (λ (o : Option (List ℕ)). IsImageAt (disk (recovery_of m)) o) (sym has.recovery) (is (recovery_of m)) }

-- more seats owe no less
owes_more : (before fewer : List Seal) (deed : Deed) (done : Bool) (entry : Option Entry) (old new : Honest) → ((seat : Seal) → Contains fewer seat → Contains before seat) → Owes fewer deed done entry old new → Owes before deed done entry old new
owes_more before fewer (Opening seal) false entry old new in_more owes = owes
owes_more before fewer (Opening seal) true None old new in_more owes = owes
owes_more before fewer (Opening seal) true (Some entry) old new in_more owes = owes
owes_more before fewer (Creation seal) done entry old new in_more owes = owes
owes_more before fewer (Flush seal) done None old new in_more owes = owes
owes_more before fewer (Flush seal) done (Some entry) old new in_more owes = (owes.0, in_more _ owes.1, owes.2)
owes_more before fewer (Move from seal) done None old new in_more owes = owes
owes_more before fewer (Move from seal) done (Some entry) old new in_more owes = (owes.0, (owes.1.0, in_more _ owes.1.1, owes.1.2))

pub same_agrees : (book : Book) (seats after : List Seal) (old new : Honest) → Unchanged old new → ((seat : Seal) → Contains after seat → Contains seats seat) → Agrees book seats old.now → Agrees book after new.now
same_agrees book seats after old new only fewer agrees =
    subst (λ (d : Disk). Agrees book after d) (sym only.ends)
    (record { targets = agrees.targets; partners = agrees.partners; images = agrees.images; calm = agrees.calm; stand = λ seat entry has was. agrees.stand seat entry (fewer seat has) was })

pub same_reads : (old new : Honest) → Unchanged old new → IsImage old.now (reading old.now) → IsImage new.now (reading new.now)
same_reads old new only reads = subst (λ (d : Disk). IsImage d (reading d)) (sym only.ends) reads

-- after a step the book agrees with the disk
pub all_agrees : (book : Book) (before : List Seal) (acts : List Act) (after : List Seal) (old new : Honest) → Agrees book before old.now → IsImage old.now (reading old.now) → DidAll book before acts after old new
    → Agrees (booked_all acts book) after new.now
all_agrees book before [] after old new agrees reads did = same_agrees book before after old new did.0 did.1 agrees
all_agrees book before (act ∷ acts) after old new agrees reads did =
    let agrees2 = same_agrees book before before old did.0 did.3 (λ seat has. has) agrees in
    let reads2 = same_reads old did.0 did.3 reads in
    all_agrees (booked act.deed act.done book) did.2 acts after did.1 new (did_agrees book before did.2 act.deed act.done did.0 did.1 agrees2 reads2 did.4) did.4.spares.reads did.5

-- at every moment of a step an image is as the book says at some point of it
pub all_leaves : (book : Book) (before : List Seal) (acts : List Act) (after : List Seal) (old new : Honest) → Agrees book before old.now → IsImage old.now (reading old.now) → DidAll book before acts after old new
    → LeavesOnly (FitsDuring book acts) old new
all_leaves book before [] after old new agrees reads did = leaves_more did.0.leaves (λ image is. image_now book before old.now agrees image is)
all_leaves book before (act ∷ acts) after old new agrees reads did =
    let agrees2 = same_agrees book before before old did.0 did.3 (λ seat has. has) agrees in
    let reads2 = same_reads old did.0 did.3 reads in
    leaves_then did.3.leaves
    (leaves_then (did_leaves book before did.2 act.deed act.done did.0 did.1 agrees2 reads2 did.4)
    (all_leaves (booked act.deed act.done book) did.2 acts after did.1 new (did_agrees book before did.2 act.deed act.done did.0 did.1 agrees2 reads2 did.4) did.4.spares.reads did.5)
    (λ image is. inr (inl is)) (λ image is. inr (inr is)))
    (λ image is. inl (image_now book before old.now agrees image is)) (λ image is. is)

pub only_then : (a b c : Honest) → Unchanged a b → Unchanged b c → Unchanged a c
only_then a b c one two = record {
  leaves = leaves_then one.leaves two.leaves (λ image is. is) (λ image is. subst (λ (d : Disk). IsImage d image) one.ends is);
  ends = two.ends ∙ one.ends;
}

-- one step and then another
pub did_on : (book : Book) (before between after : List Seal) (acts more : List Act) (old mid new : Honest) → DidAll book before acts between old mid → DidAll (booked_all acts book) between more after mid new
    → DidAll book before (acts ++ more) after old new
did_on book before between after [] [] old mid new one two = (only_then old mid new one.0 two.0, λ seat has. one.1 seat (two.1 seat has))
did_on book before between after [] (act ∷ more) old mid new one two =
    let did = two.4 in (
      two.0,
      two.1,
      two.2,
      only_then old mid two.0 one.0 two.3,
      record {
        spares = did.spares;
        owes = owes_more before between act.deed act.done (book (subject act.deed)) two.0 two.1 one.1 did.owes;
        seats = λ seat has. ⊎_elim (λ was. inl (one.1 seat was.0, was.1)) (λ is. inr is) (did.seats seat has);
      },
      two.5,
    )
did_on book before between after (act ∷ acts) more old mid new one two =
    (one.0, one.1, one.2, one.3, one.4, did_on (booked act.deed act.done book) one.2 between after acts more one.1 mid new one.5 two)

-- the book after both
pub booked_on : (acts more : List Act) (book : Book) → booked_all (acts ++ more) book ≡ booked_all more (booked_all acts book)
booked_on [] more book = refl
booked_on (act ∷ acts) more book = booked_on acts more (booked act.deed act.done book)
