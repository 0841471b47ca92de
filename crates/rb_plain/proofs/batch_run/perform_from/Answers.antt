use Rattle.std.proofs.Common.{refl, ap, ◌∙◌}
use Rattle.rb_plain.proofs.BatchWhole.{sets_whole}
use Rattle.rb_plain.proofs.batch_run.perform_from.Goals as goal

pub returns : goal.returns
returns c =
    sets_whole c.args.world.now (record { alloc = c.args.world.now.alloc; stage = c.args.world.now.stage; server = c.refuel.new.self }) c.perform_block-ended.new.world
    (record { alloc = c.perform_block-ended.new.world.alloc; stage = c.perform_block-ended.new.world.stage; server = c.refuel-2.new.self }) c.args.batch.now c.args.names c.args.table
    c.in_ok-scope.scope c.perform_block-ended.result c.over.result c.over.ensures refl
    (c.refuel.ensures ∙ ap (λ s. record { table = s.table; fuel = 1000000 }) c.replace_table-body.ensures.after) c.in_ok-scope.ensures c.perform_block-ended.ensures.ended refl
    (c.refuel-2.ensures ∙ ap (λ n. record { table = c.perform_block-ended.new.world.server.table; fuel = n }) c.fuel-fuel.ensures)
