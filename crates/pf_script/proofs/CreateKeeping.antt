-- What a creation keeps of a book, from its contract.
use Rattle.std.proofs.Common.{◌≡◌, ◌⊎◌, inl, inr, Bool, true, false, List, [], ◌∷◌, ℕ, refl, sym, subst, Some, Result, Err}
use Rattle.pf_io.specs.Disk.{Name, IsImage, reading}
use Rattle.pf_io.specs.Names.{IsTarget}
use Rattle.pf_io.specs.Moments.{Honest, Ran}
use Rattle.pf_io.specs.Host.{HostState, OnDisk, ReadsAsImage}
use Rattle.pf_io.specs.Words.{WordsState}
use Rattle.pf_session.specs.Aside.{Aside, LeavesApart, KeepsApart}
use Rattle.pf_session.specs.Creating.{CreateGoes, misnamed, no_memory, look_up_failed, was_there, no_words, create_stopped, created, CreatesOn, empty_sheet, fresh}
use Rattle.pf_session.specs.State.{SessionState}
use Rattle.pf_session.specs.declared.fault.CreateFault.{CreateFault}
use Rattle.pf_session.specs.declared.fault.CreateFault.TheVariants as faults
use Rattle.pf_script.specs.Book.{Book, Seal}
use Rattle.pf_script.specs.BookActs.{Creation, booked}
use Rattle.pf_script.specs.BookDebts.{Unchanged, seat_of}
use Rattle.pf_script.specs.BookSeats.{Covering, Covers, CoversNone, CoversMade, KeepsUnder}
use Rattle.pf_script.proofs.Seats.{seats_after, seat_is_left}
use Rattle.pf_script.proofs.ActKeeping.{one_act, one_spares, lets_go}
use Rattle.pf_script.proofs.CallKeeping.{both_with, at_both, read_image, same_disk}

module _ (key : List ℕ) (name : Name) (target : IsTarget name) where
  -- a creation that had taken its words
  made_keeps : (done : Bool) (nonce : List ℕ) (after : Covering) (a b : Honest) → Ran (LeavesApart name) (KeepsApart name) a b → IsImage b.now (reading b.now) → CreatesOn done key name (empty_sheet name nonce) a b
      → ((book : Book) (seats : List Seal) → after (booked (Creation (seat_of key name (empty_sheet name nonce))) done book) (seats_after (Creation (seat_of key name (empty_sheet name nonce))) done seats))
      → KeepsUnder CoversNone after (λ n. n ≡ name) a b
  made_keeps done nonce after a b others reads creates covers book seats agrees was_image none =
      let seal = seat_of key name (empty_sheet name nonce) in (
        record { deed = Creation seal; done = done } ∷ [],
        seats_after (Creation seal) done seats,
        one_act book seats (Creation seal) done a b (record { targets = target; others = others; reads = reads }) (record { path_is = refl; creates = creates }),
        covers book seats,
        one_spares seats (Creation seal) done,
        only_it,
      )
    where
      only_it : (n : Name) → (n ≡ name) ⊎ ⊥ → n ≡ name
      only_it n (inl is) = is
      only_it n (inr no_one) = absurd no_one

  pub create_keeps : (before after : HostState) (random random' : WordsState) (result : Result SessionState CreateFault) → CreateGoes key name name before after random random' result → Aside name before after → ReadsAsImage after
      → OnDisk before after (KeepsUnder CoversNone (CoversMade result) (λ n. n ≡ name))
  create_keeps before after random random' result goes aside reads =
      both_with (Ran (LeavesApart name) (KeepsApart name)) (KeepsUnder CoversNone (CoversMade result) (λ n. n ≡ name)) before.honest after.honest aside (λ a b is is2 ran. by_case a b is is2 ran goes)
    where
      refuses : (a b : Honest) (fault : CreateFault) → result ≡ Err fault → Unchanged a b → KeepsUnder CoversNone (CoversMade result) (λ n. n ≡ name) a b
      refuses a b fault said only = subst (λ (r : Result SessionState CreateFault). KeepsUnder CoversNone (CoversMade r) (λ n. n ≡ name) a b) (sym said) (lets_go CoversNone a b (λ n. n ≡ name) only)

      by_case : (a b : Honest) → before.honest ≡ Some a → after.honest ≡ Some b → Ran (LeavesApart name) (KeepsApart name) a b → CreateGoes key name name before after random random' result
          → KeepsUnder CoversNone (CoversMade result) (λ n. n ≡ name) a b
      by_case a b is is2 ran (misnamed bad stays words said) = refuses a b faults.BadName said (same_disk before after a b is is2 stays)
      by_case a b is is2 ran (no_memory good stays words said) = refuses a b faults.Memory said (same_disk before after a b is is2 stays)
      by_case a b is is2 ran (look_up_failed good fails words said) = refuses a b faults.Host said (at_both Unchanged before.honest after.honest a b is is2 fails.disk)
      by_case a b is is2 ran (was_there size good looks words said) = refuses a b faults.Exists said (at_both Unchanged before.honest after.honest a b is is2 looks.disk)
      by_case a b is is2 ran (no_words good looks fewer said) = refuses a b faults.Words said (at_both Unchanged before.honest after.honest a b is is2 looks.disk)
      by_case a b is is2 ran (create_stopped nonce between good looks drawn stopped said) =
          subst (λ (r : Result SessionState CreateFault). KeepsUnder CoversNone (CoversMade r) (λ n. n ≡ name) a b) (sym said)
          (made_keeps false nonce CoversNone a b ran (read_image after.honest b is2 reads) (at_both (CreatesOn false key name (empty_sheet name nonce)) before.honest after.honest a b is is2 stopped.creates) (λ book seats. tt))
      by_case a b is is2 ran (created nonce between good looks drawn asked creates is_fresh said) =
          subst (λ (r : Result SessionState CreateFault). KeepsUnder CoversNone (CoversMade r) (λ n. n ≡ name) a b) (sym said)
          (made_keeps true nonce (Covers (fresh key name name nonce false)) a b ran (read_image after.honest b is2 reads) (at_both (CreatesOn true key name (empty_sheet name nonce)) before.honest after.honest a b is is2 creates)
          (λ book seats entry whole is_entry. (empty_sheet name nonce, seat_is_left (Creation (seat_of key name (empty_sheet name nonce))) seats, record { backed = is_fresh.stands.backed; rests = λ _. record { stands = is_fresh.stands; clean = refl } })))
