use Rattle.std.proofs.Common.{refl, ap, ◌∙◌, take}
use Rattle.rb_plain.proofs.BatchWhole.{ahead}
use Rattle.rb_plain.proofs.batch_run.perform_ahead.Goals as goal

pub returns : goal.returns
returns c =
    ahead c.args.world.now (record { alloc = c.args.world.now.alloc; stage = c.args.world.now.stage; server = c.refuel.new.self }) c.perform_block-ended.new.world
    (record { alloc = c.perform_block-ended.new.world.alloc; stage = c.perform_block-ended.new.world.stage; server = c.replace_table-whole.new.self }) c.args.batch.now c.args.frame.now c.truncate.new.self
    c.in_ok-scope.scope c.perform_block-ended.result c.replace_table-whole.result c.in_ok-over.ensures refl
    (c.refuel.ensures ∙ ap (λ s. record { table = s.table; fuel = 1000000 }) c.replace_table-own.ensures.after ∙ ap (λ t. record { table = t; fuel = 1000000 }) (c.in_ok-table.ensures ∙ c.table.ensures))
    c.in_ok-scope.ensures c.perform_block-ended.ensures.ended c.replace_table-whole.ensures.before
    (c.truncate.ensures ∙ ap (λ n. take n c.perform_block-ended.new.frame) c.len-count.ensures ∙ c.perform_block-ended.ensures.kept) refl
    (ap (λ s. s.table) c.replace_table-whole.ensures.after ∙ c.replace_table-own.ensures.before)
