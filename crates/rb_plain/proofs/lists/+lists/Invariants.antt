use Rattle.std.proofs.Common.{◌≡◌, ◌++◌, drop, take, length}
use Rattle.rb_trees.specs.mirror.Code.{mirror_stmts}
use Rattle.rb_meaning.specs.ConstantLists.{lists_in}
use Rattle.rb_flow.specs.Views.{facts}
use Rattle.rb_plain.specs.Lists.{named}
use Rattle.rb_plain.proofs.lists.+lists.Given as goal

abbrev pub invariant-add_stmts-stmts : goal.invariant-add_stmts-stmts
invariant-add_stmts-stmts l = record {
  lists : named l.found ++ lists_in (facts l.x) l.scope (mirror_stmts (drop l.s-index l.ss)) ≡ named l.fn.found ++ lists_in (facts l.x) l.fn.scope (mirror_stmts l.ss);
  kept : take (length l.fn.scope) l.scope ≡ l.fn.scope;
}
