-- An accepted opening of a name whose images reopen.
use Rattle.std.proofs.Common.{◌≡◌, ◌⊎◌, inl, inr, ⊎_elim, ℕ, List, length, refl, ap, ◌∙◌, sym, subst, Option, Some, None, IfSome}
use Rattle.std.proofs.lemmas.Option.{none-some}
use Rattle.std.specs.Prelude.{option_map}
use Rattle.std.specs.List.{AllByRecursion}
use Rattle.node_layout.specs.declared.metadata.MetaSecret.{MetaSecret}
use Rattle.node_tree.specs.Opened.{block_of}
use Rattle.pf_io.specs.Answered.{IsAnswerOf}
use Rattle.pf_io.specs.Disk.{Name, Disk, IsImage, Settled, reading, read_of}
use Rattle.pf_io.specs.Host.{HostState, Both, ReadsAsImage, length_of}
use Rattle.pf_io.specs.Moments.{Honest, Ran}
use Rattle.pf_io.specs.Names.{recovery_of}
use Rattle.pf_io.specs.Steps.{Stays}
use Rattle.pf_io.specs.Host.{OnDisk}
use Rattle.pf_io.specs.Unchanged.{KeepsDisk}
use Rattle.pf_session.specs.Reopening.{Reopens}
use Rattle.pf_session.specs.Asking.{NoCall}
use Rattle.pf_session.specs.Questions.{OnlyAsked}
use Rattle.pf_session.specs.Opening.{node_answers, IsAccepted, opened_session}
use Rattle.pf_session.specs.Keeping.{StandsOnEither, OpensEither}
use Rattle.pf_session.proofs.Backed.{stands_on}
use Rattle.pf_session.proofs.OpenStanding.{is_carried, given_is}

module _ (key : List ℕ) (name : Name) (path : Option (List ℕ)) (key_length : length key ≡ 16) (size : ℕ) (block : List ℕ) (secret : MetaSecret) (accepted : IsAccepted key path block secret) where
  -- the file as it reads reopens as a content
  of_content : (disk : Disk) (v w content : List ℕ) → AllByRecursion (IsAnswerOf (reading disk)) (node_answers name size block) → Settled disk name → (content ≡ v) ⊎ (content ≡ w)
      → Reopens key name content (reading disk name) (reading disk (recovery_of name)) → StandsOnEither v w (opened_session key name block secret) disk
  of_content disk v w content all settled either reopens =
      let file = reopens.as_sheet.file in
      let is : block ≡ block_of file 0 = given_is (reading disk) name file size block reopens.as_sheet.whole all in
      let carried = is_carried key key_length file reopens.sheet reopens.as_sheet.stands block is in
      record {
        sheet = reopens.sheet;
        path_is = reopens.path_is;
        content_is = ⊎_elim (λ one. inl (reopens.content_is ∙ one)) (λ two. inr (reopens.content_is ∙ two)) either;
        stood = record { settled = settled; as_sheet = reopens.as_sheet };
        on = stands_on key name block secret accepted.opened reopens.sheet reopens.as_sheet.stands.linked carried;
      }

  was_there : (disk : Disk) → AllByRecursion (IsAnswerOf (reading disk)) (node_answers name size block) → disk name ≡ None → ⊥
  was_there disk all none = none-some size (sym (all.0 ∙ ap (λ o. length_of (read_of o)) none))

  opens_on : (old new : Honest) → Ran IsImage Stays old new → IsImage old.now (reading old.now) → AllByRecursion (IsAnswerOf (reading old.now)) (node_answers name size block) → OpensEither (opened_session key name block secret) old new
  opens_on old new ran image all = record {
    there = was_there old.now all;
    stands = λ v w each settled. subst (λ (d : Disk). StandsOnEither v w (opened_session key name block secret) d) (sym ran.ends)
        (⊎_elim (λ one. of_content old.now v w v all settled (inl refl) one) (λ two. of_content old.now v w w all settled (inr refl) two) (each (reading old.now) image));
  }

  on_options : (o p : Option Honest) → Both o p (Ran IsImage Stays) → IfSome o (λ host. IsImage host.now (reading host.now)) → IfSome (option_map (λ host. reading host.now) o) (λ files. AllByRecursion (IsAnswerOf files) (node_answers name size block))
      → Both o p (OpensEither (opened_session key name block secret))
  on_options (Some a) (Some b) ran image all = opens_on a b ran image all
  on_options None None ran image all = tt
  on_options (Some a) None ran image all = absurd ran
  on_options None (Some b) ran image all = absurd ran

  pub opens_either : (before after : HostState) → ReadsAsImage before → OnlyAsked (node_answers name size block) NoCall before after → KeepsDisk before after → OnDisk before after (OpensEither (opened_session key name block secret))
  opens_either before after image asked keeps = on_options before.honest after.honest keeps image asked.answered.honest
