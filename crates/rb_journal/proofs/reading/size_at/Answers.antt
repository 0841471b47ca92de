use Rattle.std.proofs.Common.{arith, rules}
use Rattle.rb_journal.proofs.Records.{size_none_room, size_none_cut, size_found}
use Rattle.rb_journal.proofs.reading.size_at.Goals as goal

pub returns-then-end-at-lt4-clause-found : goal.returns-then-end-at-lt4-clause-found
returns-then-end-at-lt4-clause-found g c = size_none_room c.args.at c.args.end (g.D.Disk.told c.args.disk.now) c.if-end-at-lt4.true

pub returns-then-end-at-clause-found : goal.returns-then-end-at-clause-found
returns-then-end-at-clause-found g c =
    size_none_cut c.args.at c.args.end c.in_ok-count.count c.size_of-size.result c.fill.new.into (search rules) (omega arith) c.in_ok-count.ensures.within (omega arith) c.size_of-size.ensures
    (g.D.Disk.told c.args.disk.now) c.in_ok-count.ensures.part (omega arith)

pub returns-clause-found : goal.returns-clause-found
returns-clause-found g c =
    size_found c.args.at c.args.end c.in_ok-count.count c.size_of-size.result c.fill.new.into (search rules) (omega arith) c.in_ok-count.ensures.within (omega arith) c.size_of-size.ensures
    (g.D.Disk.told c.args.disk.now) c.in_ok-count.ensures.part (omega arith) (omega arith)
