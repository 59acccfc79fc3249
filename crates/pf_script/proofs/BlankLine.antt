-- A blank line on a desk.
use Rattle.std.proofs.Common.{refl, inl, [], Ok}
use Rattle.pf_io.specs.Host.{HostState}
use Rattle.pf_io.specs.Words.{WordsState}
use Rattle.pf_io.proofs.Telling.{told_by, told_none, both_same}
use Rattle.pf_script.specs.BookSeats.{KeepsUnder}
use Rattle.pf_script.specs.Desk.{DeskState}
use Rattle.pf_script.specs.DeskSteps.{Asks, CoversDesk, ConcernsDesk, DeskGoes}
use Rattle.pf_script.specs.Turns.{silent}
use Rattle.pf_script.specs.declared.line.ScriptLine.TheVariants as lines
use Rattle.pf_script.specs.declared.reply.Reply.TheVariants as replies
use Rattle.pf_script.proofs.Refusing.{idle_seen, none_taken, same_keeps, at_last}
use Rattle.pf_script.proofs.Sparing.{spares_none}

pub blank_goes : (desk : DeskState) (host : HostState) (words : WordsState) → DeskGoes lines.Blank (Ok replies.None) desk desk host host words words
blank_goes desk host words = record {
  key_is = refl;
  asks = told_by (λ given. Asks lines.Blank replies.None desk desk given host host words words) [] host host (told_none host host refl)
      (record {
        seen = idle_seen;
        was_seen = record { answers = refl; words = none_taken words; of_host = refl; of_words = refl };
        turns = λ state is_state. at_last [] (inl refl) (λ unforged. (state, silent refl refl refl refl refl, is_state));
      });
  caused = record { given = []; told = told_none host host refl; caused = λ state like. inl (refl, refl) };
  leaves = λ k none. absurd (cc);
  others = λ j other. refl;
  books = both_same (KeepsUnder (CoversDesk desk) (CoversDesk desk) (ConcernsDesk lines.Blank desk)) host.honest host.honest refl (same_keeps (CoversDesk desk) (ConcernsDesk lines.Blank desk));
  named = λ k name has. inl has;
  spares = spares_none (ConcernsDesk lines.Blank desk) host;
  counts = (refl, refl);
  wordless = λ wordless. refl;
  few = λ k none. absurd (cc);
  silent = λ blank. (refl, refl);
  wants = tt;
}
