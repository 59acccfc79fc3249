-- The book that a run begins with.
use Rattle.std.proofs.Common.{◌≡◌, inl, true, List, [], ℕ, sym, subst, Option, arith}
use Rattle.pf_io.specs.Disk.{Name, Disk, reading}
use Rattle.pf_io.specs.Names.{recovery_of}
use Rattle.pf_session.specs.Reopening.{Reopens, LeftAt}
use Rattle.pf_script.specs.Book.{Book, Entry, Alone, Partner, Fits, Agrees}
use Rattle.pf_script.specs.BookLaws.{StartsWith}
use Rattle.pf_script.proofs.Leaving.{left_reading}
use Rattle.pf_script.proofs.Ruling.{ready_settled}

pub starts : (book : Book) (disk : Disk) → StartsWith book disk → Agrees book [] disk
starts book disk start = record {
  targets = λ n e is. (start n e is).target;
  partners = λ n other key content is. let e = (start n (Partner key content other) is).entry_is in absurd (cc);
  images = λ n e is. let at = start n e is in subst (λ (e : Entry). Fits (LeftAt disk) n e) (sym at.entry_is) (λ here log left. inl (as_read n at.key at.content here log (left_reading disk n here log at.settled left) at.reopens));
  calm = λ n key kept tried is. ready_settled disk n (start n (Alone key kept tried true) is).settled;
  stand = λ seat e has is. absurd (omega (arith, has.1));
}
  where
    as_read : (n : Name) (key content : List ℕ) (here log : Option (List ℕ)) → (here ≡ reading disk n) × (log ≡ reading disk (recovery_of n)) → Reopens key n content (reading disk n) (reading disk (recovery_of n)) → Reopens key n content here log
    as_read n key content here log same is =
        subst (λ (o : Option (List ℕ)). Reopens key n content o log) (sym same.0) (subst (λ (o : Option (List ℕ)). Reopens key n content (reading disk n) o) (sym same.1) is)
