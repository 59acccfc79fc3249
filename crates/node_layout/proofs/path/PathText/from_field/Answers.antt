use Rattle.std.specs.Str.{IsUtf8}
use Rattle.std.proofs.Common.{rules, ◌≡◌, ℕ, refl, take, drop, All, arith, sym, subst}
use Rattle.std.proofs.lemmas.List.Elements.{All-take}
use Rattle.node_layout.proofs.Fields.{IsRead, IsRead-from_field, IsRead-from_tests}
use Rattle.node_layout.proofs.path.PathText.from_field.Goals as goal
use Rattle.node_layout.proofs.path.PathText.from_field.Goals.{then-count-eq0-via-then-count-eq0, then-count-eq0-via-else-count-eq0+then-count-gt-MAX_PATH, then-count-eq0-via-else-count-eq0+else-count-gt-MAX_PATH+then-not-all_zero}

pub returns-then-count-eq0-clause-is_field : goal.returns-then-count-eq0-clause-is_field
returns-then-count-eq0-clause-is_field c = (
  (λ e. cc),
  λ h.
      let r = IsRead-from_field c.args.field.now h in
      let low = r.path_is.not_empty in
      let high = r.path_is.not_long in
      let same = r.count in
      let Zeros : ℕ → Type 0 = λ n. All (λ b. b ≡ 0) (drop n c.args.field.now) in
      let zeros = subst Zeros (sym c.count_to_zero-count.ensures) r.zeros in
      elim c.then-count-eq0.branch [ then-count-eq0-via-then-count-eq0 w ↦ absurd (omega arith) | then-count-eq0-via-else-count-eq0+then-count-gt-MAX_PATH w ↦ absurd (omega arith) | then-count-eq0-via-else-count-eq0+else-count-gt-MAX_PATH+then-not-all_zero w ↦ w.if-not-all_zero.ensures.1 (All-take (λ b. b ≡ 0) _ _ zeros) ],
)

pub returns-in-Err-clause-is_field : goal.returns-in-Err-clause-is_field
returns-in-Err-clause-is_field c = (
  (λ e. cc),
  λ h.
      let Text : ℕ → Type 0 = λ n. IsUtf8 (take n c.args.field.now) in
      absurd (c.in-Err.ensures.cases.0 (subst Text (sym c.count_to_zero-count.ensures) (IsRead-from_field c.args.field.now h).path_is.utf8)),
)

-- what the tests have shown of the field
read_field : (c : goal.After-result-1) → IsRead c.args.field.now
read_field c =
    let count = c.count_to_zero-count in
    IsRead-from_tests c.args.field.now count.result count.ensures (search rules) c.if-count-eq0.false c.if-count-gt-MAX_PATH.false (c.if-not-all_zero.ensures.0 refl) c.in-Ok.ensures.cases.1

pub invariant_of-result : goal.invariant_of-result
invariant_of-result c = let r = read_field c in (_, r.path_is, r.same)

pub returns-in-Ok-clause-is_field : goal.returns-in-Ok-clause-is_field
returns-in-Ok-clause-is_field c = let r = read_field c in ((λ e. (_, r.path_is, r.same)), λ h. refl)

pub returns-in-Ok-clause-stored : goal.returns-in-Ok-clause-stored
returns-in-Ok-clause-stored c = (read_field c).same

pub returns-in-Ok-clause-is_path : goal.returns-in-Ok-clause-is_path
returns-in-Ok-clause-is_path c = (read_field c).path_is
