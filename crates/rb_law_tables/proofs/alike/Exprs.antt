-- Expressions have their types whatever the positions are.
use Rattle.std.proofs.Common.{◌≡◌, ℕ, List, [], ◌∷◌, Bool, Option, Some, None, option_map, refl, sym, ap}
use Rattle.rb_trees.specs.declared.code.UnOp.{UnOp}
use Rattle.rb_trees.specs.declared.code.BinOp.{BinOp}
use Rattle.rb_trees.specs.mirror.Types.{TypeTree}
use Rattle.rb_trees.specs.mirror.Code.{Expr, Exprs, Lit, Name, This, Unary, Binary, Field, Call, Index, New, Items, Taken, NoExprs, MoreExprs, expr_at}
use Rattle.rb_trees.specs.mirror.Declarations.{Class}
use Rattle.rb_trees.specs.printing.Unplaced.{unplaced_type, unplaced_expr, unplaced_exprs}
use Rattle.rb_meaning_types.specs.Kinds as kind
use Rattle.rb_meaning_types.specs.Kinds.{Kind, kind_of}
use Rattle.rb_meaning_types.specs.Declared.{of_service}
use Rattle.rb_meaning_types.specs.Violations.{Checked, Placed, UnknownName, wrong_type}
use Rattle.rb_meaning_types.specs.Scopes.{Scope, variable_named}
use Rattle.rb_meaning_types.specs.Operators.{takes_operand, takes_left, unary_kind, binary_kind, binary_result, item_of, index_kind}
use Rattle.rb_meaning_types.specs.Expressions.{name_kind, all_wanted, items_kind, with_first, type_of, types_of}
use Rattle.rb_law_tables.proofs.alike.Checks.{Alike, pass, fail, Same, SameKind, SameKinds, bind_alike, then_alike, known_alike, placed_alike, tested_alike, wanted_alike, by_kind}
use Rattle.rb_law_tables.proofs.alike.Names.{bare, kind_bare, item_alike}
use Rattle.rb_law_tables.proofs.alike.Members.{Here, There, field_alike, call_alike, new_alike}

same_option : {A : Type 0} (o : Option A) → o ≡ option_map (λ x. x) o
same_option None = refl
same_option (Some x) = refl

name_alike : (scope : Scope) (at here : ℕ) (name : List ℕ) → Alike Same (name_kind scope at name) (name_kind scope here name)
name_alike scope at here name =
    bind_alike (known_alike (λ x. x) (variable_named scope name) (variable_named scope name) (UnknownName at) (UnknownName here) (same_option (variable_named scope name))) (λ v w is. pass (ap (λ x. x.kind) (sym is)))

unary_alike : (op : UnOp) (p q : Placed) → SameKind p q → Alike Same (unary_kind op p) (unary_kind op q)
unary_alike op p q e = then_alike (tested_alike (takes_operand op) p q (wrong_type p) (wrong_type q) e) (pass refl)

binary_alike : (op : BinOp) (p q r s : Placed) → SameKind p q → SameKind r s → Alike Same (binary_kind op p r) (binary_kind op q s)
binary_alike op p q r s e f = then_alike (then_alike (tested_alike (takes_left op) p q (wrong_type p) (wrong_type q) e) (wanted_alike p.kind q.kind r s e f)) (pass (ap (binary_result op) e))

item_by : (p q : Placed) (k : Kind) → Alike Same (item_of p k) (item_of q k)
item_by p q (kind.ListOf item) = pass refl
item_by p q kind.Int = fail
item_by p q kind.Bool = fail
item_by p q kind.Text = fail
item_by p q kind.Unit = fail
item_by p q (kind.Named name) = fail
item_by p q (kind.RowsOf row) = fail

index_alike : (p q r s : Placed) → SameKind p q → SameKind r s → Alike Same (index_kind p r) (index_kind q s)
index_alike p q r s e f =
    bind_alike (by_kind Same (item_of p) (item_of q) p q e (item_by p q)) (λ k l same. then_alike (wanted_alike kind.Int kind.Int r s refl f) (pass same))

all_alike : (k l : Kind) (ps qs : List Placed) → k ≡ l → SameKinds ps qs → Alike Same (all_wanted k ps) (all_wanted l qs)
all_alike k l [] [] e h = pass refl
all_alike k l [] (q ∷ qs) e h = absurd h
all_alike k l (p ∷ ps) [] e h = absurd h
all_alike k l (p ∷ ps) (q ∷ qs) e h = then_alike (wanted_alike k l p q e h.0) (all_alike k l ps qs e h.1)

first_alike : (p q : Placed) {a b : Checked (List Placed)} → SameKind p q → Alike SameKinds a b → Alike SameKinds (with_first p a) (with_first q b)
first_alike p q e (pass h) = pass (e, h)
first_alike p q e fail = fail

module _ (cs : List Class) where
  items_alike : (item : TypeTree) (ps qs : List Placed) → SameKinds ps qs → Alike Same (items_kind (of_service cs) item ps) (items_kind (of_service (bare cs)) (unplaced_type item) qs)
  items_alike item ps qs h =
      then_alike (then_alike (item_alike cs item) (all_alike (kind_of item) (kind_of (unplaced_type item)) ps qs (sym (kind_bare item)) h)) (pass (ap kind.ListOf (sym (kind_bare item))))

  module _ (class : List ℕ) (remote : Bool) where
    mutual
      pub type_alike : (scope : Scope) (e : Expr) → Alike Same (type_of (Here cs class remote) scope e) (type_of (There cs class remote) scope (unplaced_expr e))
      type_alike scope (Lit at value) = pass refl
      type_alike scope (Name at name) = name_alike scope at 0 name
      type_alike scope (This at) = pass refl
      type_alike scope (Unary at op a) = bind_alike (placed_alike (expr_at a) (expr_at (unplaced_expr a)) (type_alike scope a)) (λ p q e. unary_alike op p q e)
      type_alike scope (Binary at op a b) =
          bind_alike (placed_alike (expr_at a) (expr_at (unplaced_expr a)) (type_alike scope a)) (λ p q e.
          bind_alike (placed_alike (expr_at b) (expr_at (unplaced_expr b)) (type_alike scope b)) (λ r s f. binary_alike op p q r s e f))
      type_alike scope (Field at a name) = bind_alike (placed_alike (expr_at a) (expr_at (unplaced_expr a)) (type_alike scope a)) (λ p q e. field_alike cs at 0 name p q e)
      type_alike scope (Call at a method args) =
          bind_alike (placed_alike (expr_at a) (expr_at (unplaced_expr a)) (type_alike scope a)) (λ p q e.
          bind_alike (types_alike scope args) (λ ps qs h. call_alike cs class remote at 0 method p q ps qs e h))
      type_alike scope (Index at a b) =
          bind_alike (placed_alike (expr_at a) (expr_at (unplaced_expr a)) (type_alike scope a)) (λ p q e.
          bind_alike (placed_alike (expr_at b) (expr_at (unplaced_expr b)) (type_alike scope b)) (λ r s f. index_alike p q r s e f))
      type_alike scope (New at name args) = bind_alike (types_alike scope args) (λ ps qs h. new_alike cs at 0 name ps qs h)
      type_alike scope (Items at item items) = bind_alike (types_alike scope items) (λ ps qs h. items_alike item ps qs h)
      type_alike scope (Taken at step) = fail

      types_alike : (scope : Scope) (es : Exprs) → Alike SameKinds (types_of (Here cs class remote) scope es) (types_of (There cs class remote) scope (unplaced_exprs es))
      types_alike scope NoExprs = pass tt
      types_alike scope (MoreExprs e es) =
          bind_alike (placed_alike (expr_at e) (expr_at (unplaced_expr e)) (type_alike scope e)) (λ p q same. first_alike p q same (types_alike scope es))
