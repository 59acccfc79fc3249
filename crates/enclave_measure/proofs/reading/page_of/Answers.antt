use Rattle.std.proofs.lemmas.Option.{MatchOption-at_none}
use Rattle.enclave_measure.proofs.Forming.{field_words, source_words}
use Rattle.enclave_measure.proofs.reading.page_of.Goals as goal

pub returns-in_default-read_fields : goal.returns-in_default-read_fields
returns-in_default-read_fields c = λ page form. c.in_default-read_fields.ensures page.offset page.permissions page.page_type page.measured (field_words c.args.words.now c.in-Some-len4-up.field-0.now _ page c.in-Some-len4-up.ensures c.in-Some-len4-up.len_at_least form)

pub returns-in_default-2 : goal.returns-in_default-2
returns-in_default-2 c = λ page form. MatchOption-at_none _ _ c.in_default-2.is c.in_ok-source.ensures page.source (source_words c.args.words.now c.in-Some-len4-up.field-0.now page c.in-Some-len4-up.ensures c.in-Some-len4-up.len_at_least form)
