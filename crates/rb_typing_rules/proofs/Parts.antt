-- The type of an expression is made of its parts' types, and the scope after a statement of its expressions' types.
use Rattle.std.proofs.Common.{◌≡◌, ℕ, List, [], ◌∷◌, true, false, Ok, Err, refl, ap}
use Rattle.rb_trees.specs.mirror.Code.{Expr, Exprs, Lit, Name, This, Unary, Binary, Field, Call, Index, New, Items, Taken, NoExprs, MoreExprs, expr_at, Stmt, Val, Var, Assign, Run, Print, Throw, If, While, For, Try, Batch}
use Rattle.rb_meaning_types.specs.Kinds.{Kind, Bool, Text}
use Rattle.rb_meaning_types.specs.Violations.{Checked, Placed, UnknownName, NotAllowedHere, wanted, with_place}
use Rattle.rb_trees.specs.Outcome.{◌>>=◌, ◌>>◌}
use Rattle.rb_meaning_types.specs.Scopes.{Scope}
use Rattle.rb_meaning_types.specs.Declared.{Context}
use Rattle.rb_meaning_types.specs.Literals.{literal_kind}
use Rattle.rb_meaning_types.specs.Operators.{unary_kind, binary_kind, index_kind}
use Rattle.rb_meaning_types.specs.Members.{field_kind, call_kind, new_kind}
use Rattle.rb_meaning_types.specs.Expressions.{name_kind, this_kind, items_kind, with_first, type_of, types_of}
use Rattle.rb_meaning_types.specs.Statements.{declare, assign, print, loop_scope, catch_scope, batch_scope, closed, check_stmt, check_stmts}
use Rattle.rb_typing_rules.specs.Rules.{HaveTypes, none, more}
use Rattle.rb_typing_rules.specs.BrokenCode.{parts, expressions}
use Rattle.rb_typing_rules.proofs.Groups.{kinds_placed}
use Rattle.rb_typing_rules.proofs.Exprs.{placed_at, typed_have, has_typed}

-- expressions with their types, at their positions
abbrev pub placed_as : Exprs → List Kind → List Placed
placed_as NoExprs kinds = []
placed_as (MoreExprs e es) [] = []
placed_as (MoreExprs e es) (kind ∷ kinds) = placed_at (expr_at e) kind ∷ placed_as es kinds

pub have_placed : (x : Context) (scope : Scope) (es : Exprs) (kinds : List Kind) → HaveTypes x scope es kinds → types_of x scope es ≡ Ok (placed_as es kinds)
have_placed x scope _ _ none = refl
have_placed x scope _ _ (more e es kind kinds first rest) = rw (has_typed x scope e kind first) (rw (have_placed x scope es kinds rest) refl)

pub placed_have : (x : Context) (scope : Scope) (es : Exprs) (ps : List Placed) → types_of x scope es ≡ Ok ps → ps ≡ placed_as es (kinds_placed ps)
placed_have x scope es ps h = let e = have_placed x scope es (kinds_placed ps) (typed_have x scope es ps h) in cc

pub placed_count : (x : Context) (scope : Scope) (es : Exprs) (kinds : List Kind) → HaveTypes x scope es kinds → kinds_placed (placed_as es kinds) ≡ kinds
placed_count x scope _ _ none = refl
placed_count x scope _ _ (more e es kind kinds first rest) = ap (λ ks. kind ∷ ks) (placed_count x scope es kinds rest)

abbrev with_one : {B : Type 0} → (Placed → Checked B) → List Placed → Checked B
with_one f [] = Err (UnknownName 0)
with_one f (p ∷ ps) = f p

abbrev with_more : {B : Type 0} → (Placed → List Placed → Checked B) → List Placed → Checked B
with_more f [] = Err (UnknownName 0)
with_more f (p ∷ ps) = f p ps

abbrev with_two : {B : Type 0} → (Placed → Placed → Checked B) → List Placed → Checked B
with_two f ps = with_more (λ p. with_one (f p)) ps

-- an expression's type, by those of its parts
abbrev pub own : Context → Scope → Expr → List Placed → Checked Kind
own x scope (Lit at value) ps = Ok (literal_kind value)
own x scope (Name at name) ps = name_kind scope at name
own x scope (This at) ps = this_kind x.this at
own x scope (Unary at op a) ps = with_one (unary_kind op) ps
own x scope (Binary at op a b) ps = with_two (binary_kind op) ps
own x scope (Field at a name) ps = with_one (field_kind x.declared at name) ps
own x scope (Call at a method args) ps = with_more (call_kind x at method) ps
own x scope (Index at a b) ps = with_two index_kind ps
own x scope (New at class args) ps = new_kind x.declared at class ps
own x scope (Items at item es) ps = items_kind x.declared item ps
own x scope (Taken at step) ps = Err (NotAllowedHere at)

one_part : {B : Type 0} (at : ℕ) (r : Checked Kind) (f : Placed → Checked B) → (with_place at r >>= f) ≡ ((with_place at r >>= λ p. with_first p (Ok [])) >>= with_one f)
one_part at (Ok kind) f = refl
one_part at (Err v) f = refl

more_parts : {B : Type 0} (at : ℕ) (r : Checked Kind) (rs : Checked (List Placed)) (f : Placed → List Placed → Checked B)
    → (with_place at r >>= λ p. rs >>= λ ps. f p ps) ≡ ((with_place at r >>= λ p. with_first p rs) >>= with_more f)
more_parts at (Ok kind) (Ok ps) f = refl
more_parts at (Ok kind) (Err v) f = refl
more_parts at (Err v) rs f = refl

two_parts : {B : Type 0} (at bt : ℕ) (r t : Checked Kind) (f : Placed → Placed → Checked B)
    → (with_place at r >>= λ p. with_place bt t >>= λ q. f p q) ≡ ((with_place at r >>= λ p. with_first p (with_place bt t >>= λ q. with_first q (Ok []))) >>= with_two f)
two_parts at bt (Ok kind) (Ok other) f = refl
two_parts at bt (Ok kind) (Err v) f = refl
two_parts at bt (Err v) t f = refl

any_parts : {B : Type 0} (rs : Checked (List Placed)) (f : List Placed → Checked B) → (rs >>= λ ps. f ps) ≡ (rs >>= f)
any_parts (Ok ps) f = refl
any_parts (Err v) f = refl

pub parted : (x : Context) (scope : Scope) (e : Expr) → type_of x scope e ≡ (types_of x scope (parts e) >>= own x scope e)
parted x scope (Lit at value) = refl
parted x scope (Name at name) = refl
parted x scope (This at) = refl
parted x scope (Unary at op a) = one_part (expr_at a) (type_of x scope a) (unary_kind op)
parted x scope (Binary at op a b) = two_parts (expr_at a) (expr_at b) (type_of x scope a) (type_of x scope b) (binary_kind op)
parted x scope (Field at a name) = one_part (expr_at a) (type_of x scope a) (field_kind x.declared at name)
parted x scope (Call at a method args) = more_parts (expr_at a) (type_of x scope a) (types_of x scope args) (call_kind x at method)
parted x scope (Index at a b) = two_parts (expr_at a) (expr_at b) (type_of x scope a) (type_of x scope b) index_kind
parted x scope (New at class args) = any_parts (types_of x scope args) (new_kind x.declared at class)
parted x scope (Items at item es) = any_parts (types_of x scope es) (items_kind x.declared item)
parted x scope (Taken at step) = refl

-- the scope after a statement, by the types of its expressions
abbrev pub own_stmt : Context → Scope → Stmt → List Placed → Checked Scope
own_stmt x scope (Val at name e) ps = with_one (declare scope at name true) ps
own_stmt x scope (Var at name e) ps = with_one (declare scope at name false) ps
own_stmt x scope (Assign at a b) ps = with_two (assign scope at a) ps
own_stmt x scope (Run at e) ps = Ok scope
own_stmt x scope (Print at e) ps = with_one (print x.declared scope at) ps
own_stmt x scope (Throw at e) ps = with_one (λ p. wanted Text p >> Ok scope) ps
own_stmt x scope (If at c a b) ps = with_one (λ p. wanted Bool p >> closed scope (check_stmts x scope a) >>= λ s. closed scope (check_stmts x scope b)) ps
own_stmt x scope (While at c a) ps = with_one (λ p. wanted Bool p >> closed scope (check_stmts x scope a)) ps
own_stmt x scope (For at name e a) ps = with_one (λ p. loop_scope scope at name p >>= λ inner. closed scope (check_stmts x inner a)) ps
own_stmt x scope (Try at a name b) ps = closed scope (check_stmts x scope a) >>= λ s. catch_scope scope at name >>= λ inner. closed scope (check_stmts x inner b)
own_stmt x scope (Batch at interface root a) ps = batch_scope x scope at interface root >>= λ inner. closed scope (check_stmts x inner a)

condition_then : {B : Type 0} (at : ℕ) (r : Checked Kind) (t : Checked B)
    → ((with_place at r >>= λ p. wanted Bool p) >> t) ≡ ((with_place at r >>= λ p. with_first p (Ok [])) >>= with_one (λ p. wanted Bool p >> t))
condition_then at (Ok kind) t = refl
condition_then at (Err v) t = refl

condition_bind : {A B : Type 0} (at : ℕ) (r : Checked Kind) (t : Checked A) (f : A → Checked B)
    → ((with_place at r >>= λ p. wanted Bool p) >> t >>= f) ≡ ((with_place at r >>= λ p. with_first p (Ok [])) >>= with_one (λ p. wanted Bool p >> t >>= f))
condition_bind at (Ok kind) t f = refl
condition_bind at (Err v) t f = refl

run_part : {B : Type 0} (at : ℕ) (r : Checked Kind) (b : B) → (with_place at r >>= λ p. Ok b) ≡ ((with_place at r >>= λ p. with_first p (Ok [])) >>= λ ps. Ok b)
run_part at (Ok kind) b = refl
run_part at (Err v) b = refl

pub parted_stmt : (x : Context) (scope : Scope) (s : Stmt) → check_stmt x scope s ≡ (types_of x scope (expressions s) >>= own_stmt x scope s)
parted_stmt x scope (Val at name e) = one_part (expr_at e) (type_of x scope e) (declare scope at name true)
parted_stmt x scope (Var at name e) = one_part (expr_at e) (type_of x scope e) (declare scope at name false)
parted_stmt x scope (Assign at a b) = two_parts (expr_at a) (expr_at b) (type_of x scope a) (type_of x scope b) (assign scope at a)
parted_stmt x scope (Run at e) = run_part (expr_at e) (type_of x scope e) scope
parted_stmt x scope (Print at e) = one_part (expr_at e) (type_of x scope e) (print x.declared scope at)
parted_stmt x scope (Throw at e) = one_part (expr_at e) (type_of x scope e) (λ p. wanted Text p >> Ok scope)
parted_stmt x scope (If at c a b) = condition_bind (expr_at c) (type_of x scope c) (closed scope (check_stmts x scope a)) (λ s. closed scope (check_stmts x scope b))
parted_stmt x scope (While at c a) = condition_then (expr_at c) (type_of x scope c) (closed scope (check_stmts x scope a))
parted_stmt x scope (For at name e a) = one_part (expr_at e) (type_of x scope e) (λ p. loop_scope scope at name p >>= λ inner. closed scope (check_stmts x inner a))
parted_stmt x scope (Try at a name b) = refl
parted_stmt x scope (Batch at interface root a) = refl
