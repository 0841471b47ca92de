use Rattle.std.proofs.Common.{◌≡◌, drop}
use Rattle.rb_meaning.specs.Changes.{all_changed}
use Rattle.rb_session.proofs.meddled_link.change_all.Given as goal

abbrev pub invariant-changes : goal.invariant-changes
invariant-changes l = record {
  service : l.host.service ≡ l.initial.host.service;
  table : all_changed (drop l.change-index l.changes) l.host.table ≡ all_changed l.changes l.initial.host.table;
}
