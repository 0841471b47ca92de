-- The list at the number of the exchange is the next one, and changes keep the host typed.
use Rattle.std.proofs.Common.{sym, subst, ◌∙◌, ap}
use Rattle.rb_meaning.specs.Changes.{AreBounded}
use Rattle.rb_session.specs.MeddledLinks.{host_changed}
use Rattle.rb_session.proofs.Meddled.{on_ok, found_some, found_none, stays_typed, bounded_at}
use Rattle.rb_session.proofs.meddled_link.meddle.Goals as goal

pub returns-in-Some-clause-found : goal.returns-in-Some-clause-found
returns-in-Some-clause-found c =
    let lent = ap (λ cs. host_changed cs c.args.host.now) c.as_slice.ensures in
    on_ok c.change_all.result
    (λ made. found_some c.args.others.now c.args.exchanges c.in-Some.changes.now c.args.host.now c.change_all.new.host (sym c.in-Some.ensures.value) (made ∙ lent))
    c.change_all.ensures.changed

pub returns-in-None-clause-found : goal.returns-in-None-clause-found
returns-in-None-clause-found c = found_none c.args.others.now c.args.exchanges c.args.host.now (sym c.in-None.ensures.value)

pub returns-in-Some-clause-typed : goal.returns-in-Some-clause-typed
returns-in-Some-clause-typed c =
    let at = bounded_at c.args.others.now c.args.exchanges c.in-Some.changes.now c.requires.bounded (sym c.in-Some.ensures.value) in
    on_ok c.change_all.result
    (λ made. stays_typed c.changes_keep_tables_fitting.ensures c.as_slice.result.now c.args.host.now c.change_all.new.host
    (subst AreBounded (sym c.as_slice.ensures) at) c.requires.typed made)
    c.change_all.ensures.changed
