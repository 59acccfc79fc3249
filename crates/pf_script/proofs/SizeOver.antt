-- The sizes that a line sets one after the other, over files.
use Rattle.std.proofs.Common.{◌≡◌, ◌≢◌, ◌+◌, Bool, false, List, [], ◌∷◌, ◌++◌, ℕ, refl, sym, ◌∙◌, ap, subst, Some, length, append_assoc}
use Rattle.std.proofs.lemmas.List.{append-nil}
use Rattle.node_tree.specs.Applying.{Step, Size}
use Rattle.node_tree.specs.Sheet.{Sheet}
use Rattle.pf_io.specs.Disk.{Files}
use Rattle.pf_io.specs.Host.{HostState}
use Rattle.pf_io.specs.Moments.{Honest, Ran}
use Rattle.pf_session.specs.Aside.{LeavesApart, KeepsApart}
use Rattle.pf_session.specs.State.{SessionState}
use Rattle.pf_script.specs.BookSeats.{IsOfScript}
use Rattle.pf_script.specs.Script.{OwnSeat}
use Rattle.pf_script.specs.SeatReplies.{IsNextSize}
use Rattle.pf_script.specs.SeatSteps.{IsResize, same, piece}
use Rattle.pf_script.specs.declared.line.ScriptLine.TheVariants as lines
use Rattle.pf_script.proofs.CallKeeping.{at_both, on_to}
use Rattle.pf_script.proofs.ChangeLeft.{ChangeLeft}
use Rattle.pf_script.proofs.ChangeOver.{StepsOver, change_over}
use Rattle.pf_script.proofs.ChangeTold.{Outcome, Went, Broke, Lacked, Wanted}
use Rattle.pf_script.proofs.Flushed.{host_blamed}
use Rattle.pf_script.proofs.SizeLeft.{SizeLeft, kept_size, one_change, one_piece}
use Rattle.pf_script.proofs.SizeTold.{GoesOn, last_step}

-- nothing was asked of the host
pub same_host : (b : Honest) (before after : HostState) (m : Honest) → before.honest ≡ Some m → after.honest ≡ Some b → after ≡ before → b ≡ m
same_host b before after m is_m is_b stays = let e : Some b ≡ Some m = sym is_b ∙ ap (λ (h : HostState). h.honest) stays ∙ is_m in cc

module _ (key : List ℕ) (k size : ℕ) (own : OwnSeat) (files : Files) (first : Sheet) (b : Honest) (new : SessionState) (all : List (List ℕ)) where
  abbrev At : Honest → SessionState → List Step → List (List ℕ) → List Sheet → Sheet → Type 0
  At m old made words sheets base = StepsOver own files first m old made words sheets base

  -- all pieces were set
  pub record AllOver : Type 0 where
    pub made : List Step
    pub sheets : List Sheet
    pub base : Sheet
    pub so_far : At b new made all sheets base
    pub asks : IsResize size (length own.content) made

  -- how the line ends; it meets no damage
  abbrev pub SizedOver : Outcome → Type 0
  SizedOver (Went flushed) = AllOver
  SizedOver (Broke blame) = host_blamed blame ≡ false → ⊥
  SizedOver Lacked = Unit {0}
  SizedOver Wanted = Unit {0}

  module _ (old : SessionState) (before after : HostState) (m : Honest) (is_m : before.honest ≡ Some m) (is_b : after.honest ≡ Some b) (mine : IsOfScript old) (made : List Step) (words more : List (List ℕ)) (sheets : List Sheet) (base : Sheet)
      (so_far : At m old made words sheets base) (on : GoesOn own size old made) (words_are : all ≡ words ++ more) (n : ℕ) (next : IsNextSize size old.tree.size n) (other : n ≢ old.tree.size) (others : Ran (LeavesApart old.name) (KeepsApart old.name) m b) where
    one_over : (outcome : Outcome) → ((flushed : Bool) → outcome ≡ Went flushed → n ≡ size) → ChangeLeft (Size n) old new before after more outcome → SizedOver outcome
    one_over (Went flushed) whole left =
        let out = change_over own files first key (lines.Size k size) m b old new made words more sheets base (Size n) mine so_far before after is_m is_b others (Went flushed) left in
        record {
          made = made ++ Size n ∷ [];
          sheets = out.sheets_now;
          base = out.base_now;
          so_far = subst (λ (w : List (List ℕ)). At b new (made ++ Size n ∷ []) w out.sheets_now out.base_now) (sym words_are) out.over_now;
          asks = last_step own size old n next other (whole flushed refl) made on;
        }
    one_over (Broke blame) whole left = change_over own files first key (lines.Size k size) m b old new made words more sheets base (Size n) mine so_far before after is_m is_b others (Broke blame) left
    one_over Lacked whole left = tt
    one_over Wanted whole left = tt

  pub size_over : (old : SessionState) (before after : HostState) (more : List (List ℕ)) (outcome : Outcome) → SizeLeft size old new before after more outcome → (m : Honest) → before.honest ≡ Some m → after.honest ≡ Some b
      → (made : List Step) (words : List (List ℕ)) (sheets : List Sheet) (base : Sheet) → At m old made words sheets base → GoesOn own size old made → all ≡ words ++ more → SizedOver outcome
  size_over old before after _ _ (kept_size _ _ _ _ size_is is stays) m is_m is_b made words sheets base so_far on words_are = record {
    made = made;
    sheets = sheets;
    base = base;
    so_far = subst (λ (w : List (List ℕ)). At b new made w sheets base) (sym (words_are ∙ append-nil words))
        (subst (λ (h : Honest). At h new made words sheets base) (sym (same_host b before after m is_m is_b stays)) (subst (λ (s : SessionState). At m s made words sheets base) (sym is) so_far));
    asks = subst (λ (s : List Step). IsResize size (length own.content) s) (append-nil made) (on [] (same old.tree.size size_is));
  }
  size_over old before after more outcome (one_change _ _ _ _ n _ _ mine next other whole aside reads left) m is_m is_b made words sheets base so_far on words_are =
      one_over old before after m is_m is_b mine made words more sheets base so_far on words_are n next other (at_both (Ran (LeavesApart old.name) (KeepsApart old.name)) before.honest after.honest m b is_m is_b aside) outcome whole left
  size_over old before after _ outcome (one_piece _ mid _ _ between _ one more flushed _ mine far size_is aside reads left rest) m is_m is_b made words sheets base so_far on words_are =
      let t = on_to (Ran (LeavesApart old.name) (KeepsApart old.name)) before.honest between.honest m is_m aside in
      let out = change_over own files first key (lines.Size k size) m t.0 old mid made words one sheets base (Size (old.tree.size + 32768)) mine so_far before between is_m t.1 t.2 (Went flushed) left in
      size_over mid between after more outcome rest t.0 t.1 is_b (made ++ Size (old.tree.size + 32768) ∷ []) (words ++ one) out.sheets_now out.base_now out.over_now
      (λ left is_left.
      subst (λ (s : List Step). IsResize size (length own.content) s) (sym (append_assoc made (Size (old.tree.size + 32768) ∷ []) left))
      (on (Size (old.tree.size + 32768) ∷ left) (piece old.tree.size left far (subst (λ m. IsResize size m left) size_is is_left))))
      (words_are ∙ sym (append_assoc words one more))
