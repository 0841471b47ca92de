-- What an assignment writes, and what a loop goes over.
use Rattle.std.specs.Prelude.{ℕ, List, Result, Ok, Err}
use Rattle.rb_trees.specs.declared.values.Value.{Value}
use Rattle.rb_trees.specs.declared.values.Value.TheOpen.{Value-F}
use Rattle.rb_trees.specs.declared.values.Fault.{Fault}
use Rattle.rb_trees.specs.mirror.Code as code
use Rattle.rb_trees.specs.mirror.Code.{Expr, mirror_expr}
use Rattle.rb_meaning_code.specs.Faults.{kind}
use Rattle.rb_engine.specs.declared.targets.LeftSide.{LeftSide}
use Rattle.rb_engine.specs.declared.targets.LeftSide.TheVariants as target
use Rattle.rb_engine.specs.declared.targets.Turns.{Turns}
use Rattle.rb_engine.specs.declared.targets.Turns.TheVariants as turns

pub data Place : Type 0 where
  NamePlace : (name : List ℕ) → Place
  FieldPlace : (object : Expr) (name : List ℕ) → Place
  NoPlace : Place

abbrev pub target_form : Expr → Place
target_form (code.Name at name) = NamePlace name
target_form (code.Field at object name) = FieldPlace object name
target_form _ = NoPlace

abbrev pub mirror_target : LeftSide → Place
mirror_target (target.Name name) = NamePlace name.now
mirror_target (target.Field object name) = FieldPlace (mirror_expr object.now) name.now
mirror_target target.Other = NoPlace

abbrev pub turns_form : Value-F Value → Result (Turns × List Value) Fault
turns_form (Value-F.List items) = Ok (turns.List, items)
turns_form (Value-F.Rows rows) = Ok (turns.Rows, rows)
turns_form _ = Err kind
