-- A path has one outcome.
use Rattle.std.proofs.Common.{◌≡◌, ◌∙◌, ◌⊎◌, inl, inr, ℕ, List, ◌++◌, Some, Result, Ok, Err, refl, sym, ap, subst, arith}
use Rattle.std.specs.List.{slice_get}
use Rattle.std.proofs.lemmas.List.{append_cancel_left}
use Rattle.manifest_model.specs.declared.entries.Mount.{Mount}
use Rattle.manifest_model.specs.Names.{normal, normal_parts, behind}
use Rattle.manifest_model.specs.Listed.{Lists}
use Rattle.manifest_model.proofs.Normal.{normal-absolute, normal-parts, normal-normal}
use Rattle.check_policy.specs.declared.place.Place.{Place}
use Rattle.check_policy.specs.declared.place.Place.TheVariants as places
use Rattle.check_policy.specs.declared.place.ResolveFault.{ResolveFault}
use Rattle.check_policy.specs.declared.place.ResolveFault.TheVariants as faults
use Rattle.check_policy.specs.Places.{IsPath, parts_of, depth, Begins, Serves, NoneServes, Gives, Resolves, NoPath, ByMount, Unserved}
use Rattle.check_policy.specs.Seeking.{IsNormal, IsServing}
use Rattle.check_policy.proofs.Giving.{gives_one}

begins_by : (mount : Mount) (ps rest : List (List ℕ)) → ps ≡ parts_of mount ++ rest → Begins (parts_of mount) ps
begins_by mount ps rest e = record { rest = rest; whole = e }

-- one mount serves a path, and one rest stands behind it
pub serves_one : (mounts : List Mount) (ps : List (List ℕ)) (a b : Mount) (r t : List (List ℕ)) → Serves mounts ps a r → Serves mounts ps b t → (a ≡ b) × (r ≡ t)
serves_one mounts ps a b r t x y =
    let here = begins_by a ps r x.begins in
    let there = begins_by b ps t y.begins in
    let same : depth a ≡ depth b = omega (arith, x.most y.place b y.listed there, y.most x.place a x.listed here) in
    let place : x.place ≡ y.place = omega (arith, x.last y.place b y.listed there (sym same), y.last x.place a x.listed here same) in
    let found : Some a ≡ Some b = sym x.listed ∙ ap (slice_get mounts) place ∙ y.listed in
    let mount : a ≡ b = cc in
    (mount, append_cancel_left (parts_of a) r t (sym x.begins ∙ y.begins ∙ ap (λ m. parts_of m ++ t) (sym mount)))

none_but : (mounts : List Mount) (ps : List (List ℕ)) (a : Mount) (r : List (List ℕ)) → NoneServes mounts ps → Serves mounts ps a r → ⊥
none_but mounts ps a r none x = none x.place a x.listed (begins_by a ps r x.begins)

pub resolves_one : (lists : Lists) (path : List ℕ) (a b : Result Place ResolveFault) → Resolves lists path a → Resolves lists path b → a ≡ b
resolves_one lists path a b (NoPath x e) (NoPath y f) = e ∙ sym f
resolves_one lists path a b (NoPath x e) (ByMount is mount rest serves gives) = absurd (x is)
resolves_one lists path a b (NoPath x e) (Unserved is none f) = absurd (x is)
resolves_one lists path a b (ByMount is mount rest serves gives) (NoPath y f) = absurd (y is)
resolves_one lists path a b (ByMount is mount rest serves gives) (ByMount is' mount' rest' serves' gives') =
    let same = serves_one lists.mounts (normal_parts path) mount' mount rest' rest serves' serves in
    gives_one lists.keys mount rest a b gives (subst (λ r. Gives lists.keys mount r b) same.1 (subst (λ m. Gives lists.keys m rest' b) same.0 gives'))
resolves_one lists path a b (ByMount is mount rest serves gives) (Unserved is' none f) = absurd (none_but lists.mounts (normal_parts path) mount rest none serves)
resolves_one lists path a b (Unserved is none e) (NoPath y f) = absurd (y is)
resolves_one lists path a b (Unserved is none e) (ByMount is' mount rest serves gives) = absurd (none_but lists.mounts (normal_parts path) mount rest none serves)
resolves_one lists path a b (Unserved is none e) (Unserved is' none' f) = e ∙ sym f

-- an answer that is the outcome, or want of memory, is no other
pub no_other : (lists : Lists) (path : List ℕ) (a : Result Place ResolveFault) → (a ≡ Err faults.Memory) ⊎ Resolves lists path a → (b : Result Place ResolveFault) → Resolves lists path b → (a ≡ Err faults.Memory) ⊎ (a ≡ b)
no_other lists path a (inl e) b y = inl e
no_other lists path a (inr x) b y = inr (resolves_one lists path a b x y)

-- the normal form of a path, and what is found by it
pub path_is_normal : (path text : List ℕ) → IsPath path → text ≡ normal path → IsNormal text
path_is_normal path text is e = rw e (record { same = normal-normal path; absolute = normal-absolute path ∙ is.absolute })

same_parts : (path text : List ℕ) → IsPath path → text ≡ normal path → normal_parts text ≡ normal_parts path
same_parts path text is e = ap normal_parts e ∙ normal-parts path

parts_alike : (path other : List ℕ) → IsPath path → IsPath other → normal path ≡ normal other → normal_parts path ≡ normal_parts other
parts_alike path other is is' e = sym (normal-parts path) ∙ ap normal_parts e ∙ normal-parts other

served : (lists : Lists) (path : List ℕ) (mount : Mount) (parts : List (List ℕ)) (result : Result Place ResolveFault) → IsPath path → Serves lists.mounts (normal_parts path) mount parts
    → (result ≡ Err faults.Memory) ⊎ Gives lists.keys mount parts result → (result ≡ Err faults.Memory) ⊎ Resolves lists path result
served lists path mount parts result is serves (inl e) = inl e
served lists path mount parts result is serves (inr gives) = inr (ByMount is mount parts serves gives)

pub by_mount : (lists : Lists) (path text : List ℕ) (mount : Mount) (rest : List ℕ) (result : Result Place ResolveFault) → IsPath path → text ≡ normal path → IsServing lists.mounts (normal_parts text) mount rest
    → ((parts : List (List ℕ)) → rest ≡ behind parts → (result ≡ Err faults.Memory) ⊎ Gives lists.keys mount parts result) → (result ≡ Err faults.Memory) ⊎ Resolves lists path result
by_mount lists path text mount rest result is e found given =
    served lists path mount found.rest result is (subst (λ ps. Serves lists.mounts ps mount found.rest) (same_parts path text is e) found.serves) (given found.rest found.written)

pub by_none : (lists : Lists) (path text : List ℕ) → IsPath path → text ≡ normal path → NoneServes lists.mounts (normal_parts text) → Resolves lists path (Ok places.Nothing)
by_none lists path text is e none = Unserved is (subst (NoneServes lists.mounts) (same_parts path text is e) none) refl

-- paths with one normal form have one outcome
pub same_normal : (lists : Lists) (path other : List ℕ) (outcome : Result Place ResolveFault) → IsPath path → IsPath other → normal path ≡ normal other → Resolves lists path outcome → Resolves lists other outcome
same_normal lists path other outcome is is' e (NoPath x f) = absurd (x is)
same_normal lists path other outcome is is' e (ByMount y mount rest serves gives) = ByMount is' mount rest (subst (λ ps. Serves lists.mounts ps mount rest) (parts_alike path other is is' e) serves) gives
same_normal lists path other outcome is is' e (Unserved y none f) = Unserved is' (subst (NoneServes lists.mounts) (parts_alike path other is is' e) none) f
