use mir.Facts.{Fits-lt-pow}
use Rattle.rb_meaning_bytes.specs.formats.Forests.{forest_message}
use Rattle.rb_meaning_bytes.proofs.formats.Exact.{left_within, all_spells}
use Rattle.rb_meaning_bytes.proofs.formats.ForestVersions.{forest_version}
use Rattle.rb_meaning_bytes.proofs.formats.OnlyForests.{forest_only}
use Rattle.rb_wire_forest.proofs.Outcomes.{read_means, only_read, refused_means, only_refused}
use Rattle.rb_wire_forest.proofs.decoding.decode_forest.Goals as goal

pub returns-in-Ok-clause-told : goal.returns-in-Ok-clause-told
returns-in-Ok-clause-told c = read_means forest_message _ _ (λ i. Fits-lt-pow (c.type_inv.payload i)) c.in-Ok.ensures

pub returns-in-Ok-clause-formed : goal.returns-in-Ok-clause-formed
returns-in-Ok-clause-formed c =
    let f = forest_version _ _ (all_spells forest_message _ _ (λ i. Fits-lt-pow (c.type_inv.payload i)) c.in-Ok.ensures) in
    ((forest_only f.0).made _ _ f.1).fits

pub returns-in-Ok-clause-only : goal.returns-in-Ok-clause-only
returns-in-Ok-clause-only c meant m = only_read forest_message _ _ meant (λ i. Fits-lt-pow (c.type_inv.payload i)) c.in-Ok.ensures m

pub overflow_sub-result : goal.overflow_sub-result
overflow_sub-result c = left_within forest_message _ _ c.in-Err-Refused.violation.left (λ i. Fits-lt-pow (c.type_inv.payload i)) (rw c.in-Err-Refused.field-0-is at c.in-Err-Refused.ensures)

pub returns-in-Err-Refused-clause-told : goal.returns-in-Err-Refused-clause-told
returns-in-Err-Refused-clause-told c = refused_means forest_message _ _ c.in-Err-Refused.violation.left (λ i. Fits-lt-pow (c.type_inv.payload i)) (rw c.in-Err-Refused.field-0-is at c.in-Err-Refused.ensures)

pub returns-in-Err-Refused-clause-only : goal.returns-in-Err-Refused-clause-only
returns-in-Err-Refused-clause-only c meant m = only_refused forest_message _ _ c.in-Err-Refused.violation.left meant (λ i. Fits-lt-pow (c.type_inv.payload i)) (rw c.in-Err-Refused.field-0-is at c.in-Err-Refused.ensures) m
