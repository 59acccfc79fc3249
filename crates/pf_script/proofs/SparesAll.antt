-- What some deeds, one after the other, leave of all names that each of them leaves alone.
use Rattle.std.proofs.Common.{List, [], ◌∷◌, ◌∙◌, ap, subst, Option}
use Rattle.std.proofs.lemmas.List.Elements.{Contains-append_left, Contains-append_right, Contains-push}
use Rattle.pf_io.specs.Disk.{Name, File, Disk, IsImageAt}
use Rattle.pf_io.specs.Moments.{Honest, Ran}
use Rattle.pf_script.specs.Book.{Book, Seal}
use Rattle.pf_script.specs.BookActs.{Act, booked}
use Rattle.pf_script.specs.BookDebts.{Unchanged, AreApart, LeavesOthers, KeepsOthers, DidAll}
use Rattle.pf_script.proofs.During.{leaves_more, leaves_then}

-- nothing was changed
pub others_kept : (apart : Name → Type 0) (old new : Honest) → Unchanged old new → Ran (LeavesOthers apart) (KeepsOthers apart) old new
others_kept apart old new only = record {
  leaves = leaves_more only.leaves (λ image is other far. is other);
  ends = λ other far. ap (λ (d : Disk). d other) only.ends;
}

-- fewer names
pub others_less : (apart fewer : Name → Type 0) (old new : Honest) → ((other : Name) → fewer other → apart other) → Ran (LeavesOthers apart) (KeepsOthers apart) old new → Ran (LeavesOthers fewer) (KeepsOthers fewer) old new
others_less apart fewer old new also ran = record {
  leaves = leaves_more ran.leaves (λ image left other far. left other (also other far));
  ends = λ other far. ran.ends other (also other far);
}

-- one call after the other
pub others_then : (apart : Name → Type 0) (old mid new : Honest) → Ran (LeavesOthers apart) (KeepsOthers apart) old mid → Ran (LeavesOthers apart) (KeepsOthers apart) mid new → Ran (LeavesOthers apart) (KeepsOthers apart) old new
others_then apart old mid new one two = record {
  leaves = leaves_then one.leaves two.leaves (λ image left. left) (λ image left other far. subst (λ (o : Option File). IsImageAt o (image other)) (one.ends other far) (left other far));
  ends = λ other far. two.ends other far ∙ one.ends other far;
}

-- all deeds of a step
pub did_spares : (book : Book) (before : List Seal) (acts : List Act) (after : List Seal) (old new : Honest) → DidAll book before acts after old new → Ran (LeavesOthers (AreApart acts)) (KeepsOthers (AreApart acts)) old new
did_spares book before [] after old new did = others_kept (AreApart []) old new did.0
did_spares book before (act ∷ acts) after old new did =
    let apart = AreApart (act ∷ acts) in
    others_then apart old did.0 new (others_kept apart old did.0 did.3)
    (others_then apart did.0 did.1 new
    (others_less _ apart did.0 did.1 (λ other far. far act (Contains-append_left (act ∷ []) acts act (Contains-push [] act))) did.4.spares.others)
    (others_less (AreApart acts) apart did.1 new (λ other far it has. far it (Contains-append_right (act ∷ []) acts it has)) (did_spares (booked act.deed act.done book) did.2 acts after did.1 new did.5)))
