-- What expressions and calls mean is alike within two gases, where the fuel reaches in both.
use Rattle.std.proofs.Common.{◌≡◌, ap, ℕ, zero, suc, ◌+◌, ◌<◌, ◌≤◌, arith, List, [], ◌∷◌, length}
use Rattle.std.specs.Prelude.{◌-◌, Option, Some, None, Ok}
use Rattle.rb_trees.specs.declared.values.Value.{Value, out-Value}
use Rattle.rb_trees.specs.declared.values.Value.TheOpen.{Value-F}
use Rattle.rb_trees.specs.mirror.Code as code
use Rattle.rb_trees.specs.mirror.Code.{Expr, Exprs}
use Rattle.rb_trees.specs.mirror.Declarations.{Body, Class, Method}
use Rattle.rb_meaning_code.specs.State.{Names, Local, spent}
use Rattle.rb_meaning_code.specs.Dialogue.{Taken, Invoke, Gave, Run, seq}
use Rattle.rb_meaning_code.specs.Operators.{by_left}
use Rattle.rb_meaning_code.specs.Objects.{constructed}
use Rattle.rb_meaning_code.specs.Calls.{unit_due, call_fits, called_method, names_within, entered, left, call, called}
use Rattle.rb_meaning_code.specs.Expressions.{decided_or, constructs, evaluates, evaluates_all}
use Rattle.rb_meaning_code.specs.Bodies.{body_within, bodies_of}
use Rattle.rb_meaning_code.proofs.Alike.{Order, From, over, gave, ended, earlier, then, ruled, asked, body_left}
use Rattle.rb_meaning_code.proofs.Heaps.{constructed_grows}

-- two gases that reach so far: the same, or both as much
pub data Reach (gas more need : ℕ) : Type 0 where
  one : gas ≡ more → Reach gas more need
  both : need ≤ gas → need ≤ more → Reach gas more need

pub reach_less : (gas more need less : ℕ) → less ≤ need → Reach gas more need → Reach gas more less
reach_less gas more need less le (one same) = one same
reach_less gas more need less le (both a b) = both (omega arith) (omega arith)

pub reach_in : (gas more need less : ℕ) → less < need → Reach (suc gas) (suc more) need → Reach gas more less
reach_in gas more need less low (one same) = one (cc (same))
reach_in gas more need less low (both a b) = both (omega arith) (omega arith)

pub reach_out : (gas more need : ℕ) → Reach gas more need → Reach (suc gas) (suc more) (need + 1)
reach_out gas more need (one same) = one (ap suc same)
reach_out gas more need (both a b) = both (omega arith) (omega arith)

-- bodies are alike within two gases, where those reach beyond the fuel
pub record Gases (Keeps : Local → Local → Type 0) (classes : List Class) (gas more : ℕ) : Type 0 where
  pub order : Order Keeps
  pub bodies : (at : ℕ) (b : Body) (l : Local) → Reach gas more (l.fuel + 1) → From Keeps l (body_within classes gas at b l) (body_within classes more at b l)

pub reach_on : {Keeps : Local → Local → Type 0} {gas more : ℕ} {l l1 : Local} → Order Keeps → Keeps l l1 → Reach gas more l.fuel → Reach gas more l1.fuel
reach_on {l = l} {l1 = l1} order kept r = reach_less _ _ l.fuel l1.fuel (order.fuel l l1 kept) r

-- calls

pub has_unit : (fuel : ℕ) (u : Unit {0}) → unit_due fuel ≡ Ok u → 0 < fuel
has_unit zero u is = absurd (cc (is))
has_unit (suc n) u is = omega arith

-- what follows once a call's unit is taken
entered_alike : {Keeps : Local → Local → Type 0} {classes : List Class} {gas more : ℕ} → Gases Keeps classes gas more → (at : ℕ) (m : Method) (names : Names) (l : Local)
    → 0 < l.fuel → Reach gas more l.fuel
    → From Keeps (spent l) (seq (body_within classes gas at m.body (entered names (spent l))) (left (spent l))) (seq (body_within classes more at m.body (entered names (spent l))) (left (spent l)))
entered_alike x at m names l due r = body_left x.order (spent l) (x.bodies at m.body (entered names (spent l)) (reach_less _ _ l.fuel (l.fuel - 1 + 1) (omega arith) r))

pub call_alike : {Keeps : Local → Local → Type 0} {classes : List Class} {gas more : ℕ} → Gases Keeps classes gas more
    → (at : ℕ) (receiver : Value) (name : List ℕ) (args : List Value) (l : Local) → Reach gas more l.fuel
    → From Keeps l (call (bodies_of classes gas) at receiver name args l) (call (bodies_of classes more) at receiver name args l)
call_alike {classes = classes} x at receiver name args l r =
    ruled x.order at (called_method classes l.heap (out-Value receiver) name (length args)) _ _ (λ m found.
    ruled x.order at (unit_due l.fuel) _ _ (λ u due.
    earlier x.order (x.order.unit l) (ruled x.order at (call_fits l.depth) _ _ (λ w fits.
    entered_alike x at m (names_within receiver m.signature.params args) l (has_unit l.fuel u due) r))))

called_alike : {Keeps : Local → Local → Type 0} {classes : List Class} {gas more : ℕ} → Gases Keeps classes gas more
    → (at : ℕ) (receiver : Value) (form : Value-F Value) (name : List ℕ) (args : List Value) (l : Local) → Reach gas more l.fuel
    → From Keeps l (called (bodies_of classes gas) at receiver form name args l) (called (bodies_of classes more) at receiver form name args l)
called_alike x at receiver (Value-F.Remote object) name args l r = asked x.order (Invoke at receiver name args) (ended x.order l)
called_alike x at receiver _ name args l r = call_alike x at receiver name args l r

-- expressions

decided_alike : {Keeps : Local → Local → Type 0} {l : Local} → Order Keeps → (decided : Option Value) (go go' : Local → Run Value) → From Keeps l (go l) (go' l)
    → From Keeps l (decided_or decided go l) (decided_or decided go' l)
decided_alike {l = l} order (Some v) go go' f = gave order v l
decided_alike order None go go' f = f

constructs_alike : {Keeps : Local → Local → Type 0} {classes : List Class} {gas more : ℕ} → Gases Keeps classes gas more
    → (at : ℕ) (name : List ℕ) (values : List Value) (l : Local) → From Keeps l (constructs (bodies_of classes gas) at name values l) (constructs (bodies_of classes more) at name values l)
constructs_alike {classes = classes} x at name values l =
    ruled x.order at (constructed classes l.heap name values) _ _ (λ made is. over (Gave made.0 (record l { heap = made.1 })) (x.order.heap l made.1 (constructed_grows classes l.heap name values made is)))

mutual
  pub value_alike : {Keeps : Local → Local → Type 0} {classes : List Class} {gas more : ℕ} → Gases Keeps classes gas more → (e : Expr) (l : Local) → Reach gas more l.fuel
      → From Keeps l (evaluates (bodies_of classes gas) e l) (evaluates (bodies_of classes more) e l)
  value_alike x (code.Lit at v) l r = gave x.order v l
  value_alike x (code.Name at name) l r = ended x.order l _
  value_alike x (code.This at) l r = ended x.order l _
  value_alike x (code.Unary at op a) l r = then x.order (value_alike x a l r) (λ v l1 k. ended x.order l1 _)
  value_alike x (code.Binary at op a b) l r =
      then x.order (value_alike x a l r) (λ v l1 k.
      ruled x.order at (by_left op (out-Value v)) _ _ (λ decided is.
      decided_alike x.order decided _ _ (then x.order (value_alike x b l1 (reach_on x.order k r)) (λ w l2 k1. ended x.order l2 _))))
  value_alike x (code.Field at a name) l r = then x.order (value_alike x a l r) (λ v l1 k. ended x.order l1 _)
  value_alike x (code.Call at receiver name args) l r =
      then x.order (value_alike x receiver l r) (λ v l1 k.
      then x.order (values_alike x args l1 (reach_on x.order k r)) (λ vs l2 k1.
      called_alike x at v (out-Value v) name vs l2 (reach_on x.order k1 (reach_on x.order k r))))
  value_alike x (code.Index at a b) l r =
      then x.order (value_alike x a l r) (λ v l1 k. then x.order (value_alike x b l1 (reach_on x.order k r)) (λ w l2 k1. ended x.order l2 _))
  value_alike x (code.New at name args) l r = then x.order (values_alike x args l r) (λ vs l1 k. constructs_alike x at name vs l1)
  value_alike x (code.Items at item items) l r = then x.order (values_alike x items l r) (λ vs l1 k. ended x.order l1 _)
  value_alike x (code.Taken at step) l r = asked x.order (Taken step) (ended x.order l)

  pub values_alike : {Keeps : Local → Local → Type 0} {classes : List Class} {gas more : ℕ} → Gases Keeps classes gas more → (es : Exprs) (l : Local) → Reach gas more l.fuel
      → From Keeps l (evaluates_all (bodies_of classes gas) es l) (evaluates_all (bodies_of classes more) es l)
  values_alike x code.NoExprs l r = gave x.order [] l
  values_alike x (code.MoreExprs e es) l r =
      then x.order (value_alike x e l r) (λ v l1 k. then x.order (values_alike x es l1 (reach_on x.order k r)) (λ vs l2 k1. gave x.order (v ∷ vs) l2))
