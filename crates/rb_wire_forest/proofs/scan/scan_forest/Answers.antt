use mir.Facts.{Fits-lt-pow}
use Rattle.rb_meaning_bytes.specs.formats.Forests.{forest_message}
use Rattle.rb_meaning_bytes.proofs.formats.Exact.{left_within}
use Rattle.rb_wire_forest.specs.Opened.{root_of}
use Rattle.rb_wire_forest.proofs.Outcomes.{read_means, only_read, refused_means, only_refused}
use Rattle.rb_wire_forest.proofs.Scanned.{read_so, refused_so, root_read}
use Rattle.rb_wire_forest.proofs.scan.scan_forest.Goals as goal

pub returns-in-Ok-clause-told : goal.returns-in-Ok-clause-told
unfolding root_of
returns-in-Ok-clause-told c = read_means forest_message _ _ (λ i. Fits-lt-pow (c.type_inv.payload i)) (root_read _ (read_so _ c.in-Ok.ensures))

pub returns-in-Ok-clause-only : goal.returns-in-Ok-clause-only
unfolding root_of
returns-in-Ok-clause-only c meant m = only_read forest_message _ _ meant (λ i. Fits-lt-pow (c.type_inv.payload i)) (root_read _ (read_so _ c.in-Ok.ensures)) m

pub overflow_sub-result : goal.overflow_sub-result
overflow_sub-result c = left_within forest_message _ _ c.in-Err.field-0.left (λ i. Fits-lt-pow (c.type_inv.payload i)) (refused_so _ _ c.in-Err.ensures)

pub returns-in-Err-clause-told : goal.returns-in-Err-clause-told
returns-in-Err-clause-told c = refused_means forest_message _ _ c.in-Err.field-0.left (λ i. Fits-lt-pow (c.type_inv.payload i)) (refused_so _ _ c.in-Err.ensures)

pub returns-in-Err-clause-only : goal.returns-in-Err-clause-only
returns-in-Err-clause-only c meant m = only_refused forest_message _ _ c.in-Err.field-0.left meant (λ i. Fits-lt-pow (c.type_inv.payload i)) (refused_so _ _ c.in-Err.ensures) m
