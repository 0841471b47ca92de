-- Sessions were served, and the disk came back.
use Rattle.rb_base.specs.Devices.{device}
use Rattle.rb_disk.specs.Storing.{seen}
use Rattle.rb_top.specs.Scene.{output}
use Rattle.rb_top.specs.Words.{keeping_by}
use Rattle.rb_top.proofs.KeptEnds.{kept_back}
use Rattle.rb_top.proofs.keep_run.keep_sessions.Goals as goal

pub returns : goal.returns
returns g c =
    kept_back g.T.D.Disk (keeping_by c.args.keeping.now) c.args.kept c.serve_kept-left.result.0 c.serve_kept-left.result.1 c.end_serving.result
    (device g.N.Listen.told g.N.Listen.faults c.args.listen.now) (device g.N.Listen.told g.N.Listen.faults c.serve_kept-left.new.listen)
    (seen g.T.Stores.told g.T.Stores.faults g.T.Stores.broken c.args.stores.now) (seen g.T.Stores.told g.T.Stores.faults g.T.Stores.broken c.end_serving.new.stores)
    (output g.W.Sink c.args.out.now) (output g.W.Sink c.serve_kept-left.new.out) (output g.W.Sink c.end_serving.new.out) c.serve_kept-left.ensures c.end_serving.ensures.back c.end_serving.ensures.says
