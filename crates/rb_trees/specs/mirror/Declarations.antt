-- The mirror of declarations. They don't hold themselves, so their mirror is a record with the same fields.
use Rattle.std.specs.Prelude.{ℕ, List, Bool, Option, map}
use Rattle.std.specs.Option.{option_map}
use Rattle.rb_trees.specs.declared.declarations.Param as param
use Rattle.rb_trees.specs.declared.declarations.Signature as signature
use Rattle.rb_trees.specs.declared.declarations.Interface as interface
use Rattle.rb_trees.specs.declared.declarations.Body as body
use Rattle.rb_trees.specs.declared.declarations.Method as method
use Rattle.rb_trees.specs.declared.declarations.Class as class
use Rattle.rb_trees.specs.declared.declarations.Program as program
use Rattle.rb_trees.specs.mirror.Types.{TypeTree, mirror_type}
use Rattle.rb_trees.specs.mirror.Code.{Expr, Stmts, mirror_expr, mirror_stmts}

pub record Param : Type 0 where
  pub name : List ℕ
  pub at : ℕ
  pub kind : TypeTree

pub record Signature : Type 0 where
  pub name : List ℕ
  pub at : ℕ
  pub params : List Param
  pub result : TypeTree

pub record Interface : Type 0 where
  pub name : List ℕ
  pub at : ℕ
  pub methods : List Signature

pub record Body : Type 0 where
  pub statements : Stmts
  pub result : Option Expr

pub record Method : Type 0 where
  pub remote : Bool
  pub signature : Signature
  pub body : Body

pub record Class : Type 0 where
  pub name : List ℕ
  pub at : ℕ
  pub fields : List Param
  pub methods : List Method

pub record Program : Type 0 where
  pub interfaces : List Interface
  pub classes : List Class
  pub result : TypeTree
  pub body : Body
  pub at : ℕ

abbrev pub mirror_param : param.Param → Param
mirror_param p = record { name = p.name; at = p.at; kind = mirror_type p.kind }

abbrev pub mirror_signature : signature.Signature → Signature
mirror_signature s = record { name = s.name; at = s.at; params = map mirror_param s.params; result = mirror_type s.result }

abbrev pub mirror_interface : interface.Interface → Interface
mirror_interface i = record { name = i.name; at = i.at; methods = map mirror_signature i.methods }

abbrev pub mirror_body : body.Body → Body
mirror_body b = record { statements = mirror_stmts b.statements; result = option_map mirror_expr b.result }

abbrev pub mirror_method : method.Method → Method
mirror_method m = record { remote = m.remote; signature = mirror_signature m.signature; body = mirror_body m.body }

abbrev pub mirror_class : class.Class → Class
mirror_class c = record { name = c.name; at = c.at; fields = map mirror_param c.fields; methods = map mirror_method c.methods }

-- a program in the mirror
abbrev pub mirror_program : program.Program → Program
mirror_program p = record {
  interfaces = map mirror_interface p.interfaces;
  classes = map mirror_class p.classes;
  result = mirror_type p.result;
  body = mirror_body p.body;
  at = p.at;
}
