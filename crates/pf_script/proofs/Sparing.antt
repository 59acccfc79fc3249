-- Names that a step leaves as they were, since they are apart from all that it is concerned with.
use Rattle.std.proofs.Common.{◌∙◌, ap, subst, Option}
use Rattle.pf_io.specs.Disk.{Name, File, Disk, IsImage, IsImageAt}
use Rattle.pf_io.specs.Host.{HostState}
use Rattle.pf_io.specs.Steps.{Stays}
use Rattle.pf_io.specs.Unchanged.{KeepsDisk}
use Rattle.pf_io.proofs.Runs.{started, goes_on_ran}
use Rattle.pf_session.specs.Aside.{LeavesApart, KeepsApart, Aside, LeavesApartBoth, KeepsApartBoth, AsideBoth}
use Rattle.pf_session.proofs.Placing.{ran_weaker}
use Rattle.pf_script.specs.BookDebts.{LeavesOthers, KeepsOthers}
use Rattle.pf_script.specs.DeskSteps.{ApartFrom, Spares}

-- one call on a session after the other
pub aside_on : (name : Name) (before between after : HostState) → Aside name before between → Aside name between after → Aside name before after
aside_on name before between after first second =
    goes_on_ran (LeavesApart name) (LeavesApart name) (KeepsApart name) (KeepsApart name) (KeepsApart name) before.honest between.honest after.honest first second
    (λ d e keeps image left other apart. subst (λ (o : Option File). IsImageAt o (image other)) (keeps other apart) (left other apart)) (λ d e f one two other apart. two other apart ∙ one other apart)

module _ (concerned : Name → Type 0) where
  -- nothing was changed
  pub spares_kept : (before after : HostState) → KeepsDisk before after → Spares concerned before after
  spares_kept before after keeps =
      ran_weaker IsImage (LeavesOthers (ApartFrom concerned)) Stays (KeepsOthers (ApartFrom concerned)) before.honest after.honest (λ d image is other apart. is other) (λ d e same other apart. ap (λ (x : Disk). x other) same) keeps

  -- nothing was done
  pub spares_none : (state : HostState) → Spares concerned state state
  spares_none state = spares_kept state state (started IsImage state.honest (λ d image is. is))

  -- a call left all but the names of one that is concerned
  pub spares_aside : (name : Name) → concerned name → (before after : HostState) → Aside name before after → Spares concerned before after
  spares_aside name is before after aside =
      ran_weaker (LeavesApart name) (LeavesOthers (ApartFrom concerned)) (KeepsApart name) (KeepsOthers (ApartFrom concerned)) before.honest after.honest (λ d image left other apart. left other (apart name is)) (λ d e keeps other apart. keeps other (apart name is)) aside

  -- a move left all but those of two
  pub spares_both : (from to : Name) → concerned from → concerned to → (before after : HostState) → AsideBoth from to before after → Spares concerned before after
  spares_both from to of_old of_new before after aside =
      ran_weaker (LeavesApartBoth from to) (LeavesOthers (ApartFrom concerned)) (KeepsApartBoth from to) (KeepsOthers (ApartFrom concerned)) before.honest after.honest
      (λ d image left other apart. left other (record { of_old = apart from of_old; of_new = apart to of_new })) (λ d e keeps other apart. keeps other (record { of_old = apart from of_old; of_new = apart to of_new })) aside

  -- one step after the other
  pub spares_then : (before between after : HostState) → Spares concerned before between → Spares concerned between after → Spares concerned before after
  spares_then before between after first second =
      goes_on_ran (LeavesOthers (ApartFrom concerned)) (LeavesOthers (ApartFrom concerned)) (KeepsOthers (ApartFrom concerned)) (KeepsOthers (ApartFrom concerned)) (KeepsOthers (ApartFrom concerned)) before.honest between.honest after.honest first second
      (λ d e keeps image left other apart. subst (λ (o : Option File). IsImageAt o (image other)) (keeps other apart) (left other apart)) (λ d e f one two other apart. two other apart ∙ one other apart)

-- where more names are concerned, fewer are left alone
pub spares_more : (concerned more : Name → Type 0) → ((name : Name) → concerned name → more name) → (before after : HostState) → Spares concerned before after → Spares more before after
spares_more concerned more also before after spares =
    ran_weaker (LeavesOthers (ApartFrom concerned)) (LeavesOthers (ApartFrom more)) (KeepsOthers (ApartFrom concerned)) (KeepsOthers (ApartFrom more)) before.honest after.honest
    (λ d image left other apart. left other (λ name is. apart name (also name is))) (λ d e keeps other apart. keeps other (λ name is. apart name (also name is))) spares
