-- What expressions mean, whatever surrounds them: from left to right, a receiver before its arguments.
use Rattle.std.specs.Prelude.{ℕ, ℤ, pos, negsuc, List, [], ◌∷◌, length, nat_le, Option, None, Some, Result, Ok, Err, slice_get}
use Rattle.rb_trees.specs.Named.{lookup}
use Rattle.rb_trees.specs.Limits.{longest_list}
use Rattle.rb_trees.specs.Outcome.{known, must, ◌>>◌}
use Rattle.rb_trees.specs.declared.values.Value.{Value, out-Value}
use Rattle.rb_trees.specs.declared.values.Value.TheOpen.{Value-F}
use Rattle.rb_trees.specs.declared.values.Value.TheVariants as value
use Rattle.rb_trees.specs.declared.values.Fault.{Fault}
use Rattle.rb_trees.specs.mirror.Code as code
use Rattle.rb_trees.specs.mirror.Code.{Expr, Exprs}
use Rattle.rb_meaning_code.specs.Faults.{index_outside, list_too_long, kind, raises}
use Rattle.rb_meaning_code.specs.Operators.{on_one, on_two, by_left}
use Rattle.rb_meaning_code.specs.State.{Names, Local, this_name}
use Rattle.rb_meaning_code.specs.Dialogue.{Taken, Ask, Run, next, gives, end}
use Rattle.rb_meaning_code.specs.Objects.{constructed, field_of}
use Rattle.rb_meaning_code.specs.Calls.{Bodies, called}

-- the value of a name in scope
abbrev pub value_of : Names → List ℕ → Result Value Fault
value_of names name = known kind (lookup names name)

-- an item of a list
abbrev pub item_at : List Value → ℤ → Result Value Fault
item_at items (pos place) = known index_outside (slice_get items place)
item_at items (negsuc place) = Err index_outside

abbrev pub indexed : Value-F Value → Value-F Value → Result Value Fault
indexed (Value-F.List items) (Value-F.Int place) = item_at items place
indexed _ _ = Err kind

-- a list of values
abbrev pub list_of : List Value → Result Value Fault
list_of items = must (nat_le (length items) longest_list) list_too_long >> Ok (value.List items)

-- the value that the left operand decides, or what follows
abbrev pub decided_or : Option Value → (Local → Run Value) → Local → Run Value
decided_or (Some v) go l = gives v l
decided_or None go l = go l

-- a new object, at the end of the heap
abbrev pub constructs : Bodies → ℕ → List ℕ → List Value → Local → Run Value
constructs bodies at name values l =
    next (end l (raises at (constructed bodies.classes l.heap name values))) (λ made l1. gives made.0 (record l1 { heap = made.1 }))

abbrev mutual
  -- the value of an expression
  pub evaluates : Bodies → Expr → Local → Run Value
  evaluates bodies (code.Lit at v) l = gives v l
  evaluates bodies (code.Name at name) l = end l (raises at (value_of l.names name))
  evaluates bodies (code.This at) l = end l (raises at (value_of l.names this_name))
  evaluates bodies (code.Unary at op a) l = next (evaluates bodies a l) (λ v l1. end l1 (raises at (on_one op (out-Value v))))
  evaluates bodies (code.Binary at op a b) l =
      next (evaluates bodies a l) (λ v l1.
      next (end l1 (raises at (by_left op (out-Value v)))) (λ decided l2.
      decided_or decided (λ l3. next (evaluates bodies b l3) (λ w l4. end l4 (raises at (on_two op (out-Value v) (out-Value w))))) l2))
  evaluates bodies (code.Field at a name) l = next (evaluates bodies a l) (λ v l1. end l1 (raises at (field_of l1.heap (out-Value v) name)))
  evaluates bodies (code.Call at receiver name args) l =
      next (evaluates bodies receiver l) (λ v l1. next (evaluates_all bodies args l1) (λ vs l2. called bodies at v (out-Value v) name vs l2))
  evaluates bodies (code.Index at a b) l =
      next (evaluates bodies a l) (λ v l1. next (evaluates bodies b l1) (λ w l2. end l2 (raises at (indexed (out-Value v) (out-Value w)))))
  evaluates bodies (code.New at name args) l = next (evaluates_all bodies args l) (λ vs l1. constructs bodies at name vs l1)
  evaluates bodies (code.Items at item items) l = next (evaluates_all bodies items l) (λ vs l1. end l1 (raises at (list_of vs)))
  evaluates bodies (code.Taken at step) l = Ask (Taken step) (end l)

  -- the values of expressions from left to right
  pub evaluates_all : Bodies → Exprs → Local → Run (List Value)
  evaluates_all bodies code.NoExprs l = gives [] l
  evaluates_all bodies (code.MoreExprs e es) l =
      next (evaluates bodies e l) (λ v l1. next (evaluates_all bodies es l1) (λ vs l2. gives (v ∷ vs) l2))
