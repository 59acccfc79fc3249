use Rattle.std.proofs.Common.{sym, ◌∙◌, []}
use Rattle.std.proofs.lemmas.Slice.Eq.{bytes_eq-Decides}
use Rattle.enclave_measure.proofs.Wording.{shown_first}
use Rattle.enclave_measure.proofs.words.after_word.Goals as goal

pub returns-then-eq : goal.returns-then-eq
returns-then-eq c = shown_first c.args.words.now (record { ref_ptr = (0, 0); now = [] }) c.args.word.now c.in-len1-up.len_at_least ((bytes_eq-Decides _ _).0 (sym c.eq.ensures ∙ c.if-eq.true))
