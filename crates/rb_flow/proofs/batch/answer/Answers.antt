use Rattle.std.proofs.Common.{[]}
use Rattle.rb_trees.specs.mirror.Code.{mirror_stmts}
use Rattle.rb_meaning_flow.specs.Sites.{block_sites}
use Rattle.rb_flow.specs.Views.{facts}
use Rattle.rb_flow.proofs.Answered.{batch_differs, answered}
use Rattle.rb_flow.proofs.batch.answer.Goals as goal

pub decide-requires : goal.decide-requires
decide-requires c = batch_differs (facts c.args.x.now) (block_sites (facts c.args.x.now) [] c.args.scope.now (mirror_stmts c.args.block.now)) c.in_ok-found.found c.in_ok-found.ensures c.requires

pub returns : goal.returns
returns c = answered (facts c.args.x.now) (block_sites (facts c.args.x.now) [] c.args.scope.now (mirror_stmts c.args.block.now)) c.in_ok-found.found c.decide.result c.in_ok-found.ensures c.requires c.decide.ensures
