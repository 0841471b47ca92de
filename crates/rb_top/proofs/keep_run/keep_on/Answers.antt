-- A journal was begun or opened, or it wasn't.
use Rattle.rb_base.specs.Devices.{device}
use Rattle.rb_base.specs.declared.sinks.Failed.{Failed}
use Rattle.rb_disk.specs.Storing.{seen}
use Rattle.rb_top.specs.Scene.{output}
use Rattle.rb_top.specs.Words.{keeping_by}
use Rattle.rb_top.proofs.KeptEnds.{kept_over, not_begun}
use Rattle.rb_top.proofs.keep_run.keep_on.Goals as goal

pub returns-in-Ok-begin_journal : goal.returns-in-Ok-begin_journal
returns-in-Ok-begin_journal g c =
    kept_over g.T.D.Disk Failed (keeping_by c.args.keeping.now) c.args.host c.in-Ok.disk (record { journal = c.in-Ok-begin_journal.journal; host = c.begin_journal.new.host }) c.make.result c.listen_and_keep.result
    (device g.N.Listen.told g.N.Listen.faults c.args.listen.now) (device g.N.Listen.told g.N.Listen.faults c.listen_and_keep.new.listen) (seen g.T.Stores.told g.T.Stores.faults g.T.Stores.broken c.args.stores.now)
    (seen g.T.Stores.told g.T.Stores.faults g.T.Stores.broken c.open.new.self) (seen g.T.Stores.told g.T.Stores.faults g.T.Stores.broken c.listen_and_keep.new.stores) (output g.W.Sink c.args.out.now)
    (output g.W.Sink c.listen_and_keep.new.out) c.in-Ok.ensures.opens c.in-Ok.ensures.fresh c.in-Ok.ensures.after c.in-Ok-begin_journal.ensures.begins c.make.ensures c.listen_and_keep.ensures

pub returns-in-Err : goal.returns-in-Err
returns-in-Err g c =
    not_begun g.T.D.Disk Failed (keeping_by c.args.keeping.now) c.args.host c.in-Ok.disk c.in-Err.field-0.disk c.in-Err.field-0.stop c.say_stop.result
    (device g.N.Listen.told g.N.Listen.faults c.args.listen.now) (seen g.T.Stores.told g.T.Stores.faults g.T.Stores.broken c.args.stores.now)
    (seen g.T.Stores.told g.T.Stores.faults g.T.Stores.broken c.open.new.self) (seen g.T.Stores.told g.T.Stores.faults g.T.Stores.broken c.back.new.self) (output g.W.Sink c.args.out.now)
    (output g.W.Sink c.say_stop.new.out) c.in-Ok.ensures.opens c.in-Ok.ensures.fresh c.in-Ok.ensures.after c.in-Err.ensures.begins c.back.ensures.after c.say_stop.ensures
