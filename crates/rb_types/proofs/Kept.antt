-- No statement loses a variable: what was in scope before it stands first in the scope behind it.
use Rattle.std.proofs.Common.{◌≡◌, ℕ, ◌≤◌, List, [], ◌∷◌, ◌++◌, take, length, Bool, true, false, not, Ok, Err, sym, ap, ◌∙◌, arith}
use Rattle.std.proofs.lemmas.List.{length-take, take-take}
use Rattle.std.proofs.Math.Seq.{take-length, take-append_seam}
use Rattle.rb_trees.specs.mirror.Code.{Expr, Stmt, Stmts, Val, Var, Assign, Run, Print, Throw, If, While, For, Try, Batch, NoStmts, MoreStmts}
use Rattle.rb_trees.specs.Outcome.{◌>>=◌, ◌>>◌, must}
use Rattle.rb_meaning_types.specs.Kinds.{Kind, Text, Named, is_unit}
use Rattle.rb_meaning_types.specs.Violations.{Checked, Placed, UnknownName, NameTaken, NotAssignable, NotAllowedHere, wanted, wrong_type}
use Rattle.rb_meaning_types.specs.Scopes.{Scope, is_free, with_variable}
use Rattle.rb_meaning_types.specs.Declared.{Declarations, Context, is_interface}
use Rattle.rb_meaning_types.specs.Statements.{placed, condition, declare, is_assignable, assign, is_printable, print, turn_kind, loop_scope, catch_scope, batch_scope, closed, check_stmt, check_stmts}

-- a check keeps what was in scope
abbrev pub Keeps : Scope → Checked Scope → Type 0
Keeps scope (Ok after) = take (length scope) after ≡ scope
Keeps scope (Err violation) = Unit {0}

pub keeps_whole : (scope : Scope) → take (length scope) scope ≡ scope
keeps_whole scope = take-length scope

-- what stands first in what stands first stands first
pub through : (xs ys zs : Scope) → take (length xs) ys ≡ xs → take (length ys) zs ≡ ys → take (length xs) zs ≡ xs
through xs ys zs first second =
    let cut = ap length first in
    let small : length xs ≤ length ys = omega (arith, length-take (length xs) ys, cut) in
    sym (take-take (length xs) (length ys) zs small) ∙ ap (take (length xs)) second ∙ first

pub after : {A : Type 0} (scope : Scope) (r : Checked A) (f : A → Checked Scope) → ((a : A) → Keeps scope (f a)) → Keeps scope (r >>= f)
after scope (Ok a) f kept = kept a
after scope (Err v) f kept = tt

pub then : (scope : Scope) (r : Checked (Unit {0})) (next : Checked Scope) → Keeps scope next → Keeps scope (r >> next)
then scope (Ok u) next kept = kept
then scope (Err v) next kept = tt

onward : (scope inner : Scope) (r : Checked Scope) → take (length scope) inner ≡ scope → Keeps inner r → Keeps scope r
onward scope inner (Ok last) first rest = through scope inner last first rest
onward scope inner (Err v) first rest = tt

along : (scope : Scope) (r : Checked Scope) (f : Scope → Checked Scope) → Keeps scope r → ((inner : Scope) → Keeps inner (f inner)) → Keeps scope (r >>= f)
along scope (Ok inner) f first rest = onward scope inner (f inner) first (rest inner)
along scope (Err v) f first rest = tt

pub block : (scope : Scope) (r : Checked Scope) → Keeps scope (closed scope r)
block scope (Ok inner) = keeps_whole scope
block scope (Err v) = tt

pub one_more : (scope more : Scope) → take (length scope) (scope ++ more) ≡ scope
one_more scope more = take-append_seam scope more

one_bound : (scope : Scope) (name : List ℕ) (kind : Kind) (fixed : Bool) → Keeps scope (Ok (with_variable scope name kind fixed))
one_bound scope name kind fixed = one_more scope (record { name = name; kind = kind; fixed = fixed } ∷ [])

keeps_declare : (scope : Scope) (at : ℕ) (name : List ℕ) (fixed : Bool) (p : Placed) → Keeps scope (declare scope at name fixed p)
keeps_declare scope at name fixed p = then scope (must (is_free scope name) (NameTaken at) >> must (not (is_unit p.kind)) (wrong_type p))
    (Ok (with_variable scope name p.kind fixed)) (one_bound scope name p.kind fixed)

keeps_assign : (scope : Scope) (at : ℕ) (left : Expr) (p q : Placed) → Keeps scope (assign scope at left p q)
keeps_assign scope at left p q = then scope (must (is_assignable scope left) (NotAssignable at) >> wanted p.kind q) (Ok scope) (keeps_whole scope)

keeps_print : (d : Declarations) (scope : Scope) (at : ℕ) (p : Placed) → Keeps scope (print d scope at p)
keeps_print d scope at p = then scope (must (is_printable d p.kind) (wrong_type p) >> must (not d.service) (NotAllowedHere at)) (Ok scope) (keeps_whole scope)

pub keeps_loop : (scope : Scope) (at : ℕ) (name : List ℕ) (p : Placed) → Keeps scope (loop_scope scope at name p)
keeps_loop scope at name p = after scope (must (is_free scope name) (NameTaken at) >> turn_kind p p.kind) (λ item. Ok (with_variable scope name item true))
    (λ item. one_bound scope name item true)

pub keeps_catch : (scope : Scope) (at : ℕ) (name : List ℕ) → Keeps scope (catch_scope scope at name)
keeps_catch scope at name = then scope (must (is_free scope name) (NameTaken at)) (Ok (with_variable scope name Text true)) (one_bound scope name Text true)

pub keeps_batch : (x : Context) (scope : Scope) (at : ℕ) (interface root : List ℕ) → Keeps scope (batch_scope x scope at interface root)
keeps_batch x scope at interface root =
    then scope (must (is_free scope root) (NameTaken at) >> must (is_interface x.declared interface) (UnknownName at) >> must x.remote (NotAllowedHere at))
    (Ok (with_variable scope root (Named interface) true)) (one_bound scope root (Named interface) true)

-- a block whose scope was opened for it
keeps_opened : (x : Context) (scope : Scope) (r : Checked Scope) (ss : Stmts) → Keeps scope (r >>= λ inner. closed scope (check_stmts x inner ss))
keeps_opened x scope r ss = after scope r (λ inner. closed scope (check_stmts x inner ss)) (λ inner. block scope (check_stmts x inner ss))

pub keeps_stmt : (x : Context) (scope : Scope) (s : Stmt) → Keeps scope (check_stmt x scope s)
keeps_stmt x scope (Val at name e) = after scope (placed x scope e) (declare scope at name true) (keeps_declare scope at name true)
keeps_stmt x scope (Var at name e) = after scope (placed x scope e) (declare scope at name false) (keeps_declare scope at name false)
keeps_stmt x scope (Assign at a b) = after scope (placed x scope a) (λ p. placed x scope b >>= λ q. assign scope at a p q)
    (λ p. after scope (placed x scope b) (assign scope at a p) (keeps_assign scope at a p))
keeps_stmt x scope (Run at e) = after scope (placed x scope e) (λ p. Ok scope) (λ p. keeps_whole scope)
keeps_stmt x scope (Print at e) = after scope (placed x scope e) (print x.declared scope at) (keeps_print x.declared scope at)
keeps_stmt x scope (Throw at e) = after scope (placed x scope e) (λ p. wanted Text p >> Ok scope) (λ p. then scope (wanted Text p) (Ok scope) (keeps_whole scope))
keeps_stmt x scope (If at c a b) = after scope (condition x scope c >> closed scope (check_stmts x scope a)) (λ s. closed scope (check_stmts x scope b))
    (λ s. block scope (check_stmts x scope b))
keeps_stmt x scope (While at c a) = then scope (condition x scope c) (closed scope (check_stmts x scope a)) (block scope (check_stmts x scope a))
keeps_stmt x scope (For at name e a) =
    after scope (placed x scope e) (λ p. loop_scope scope at name p >>= λ inner. closed scope (check_stmts x inner a)) (λ p. keeps_opened x scope (loop_scope scope at name p) a)
keeps_stmt x scope (Try at a name b) =
    after scope (closed scope (check_stmts x scope a)) (λ s. catch_scope scope at name >>= λ inner. closed scope (check_stmts x inner b))
    (λ s. keeps_opened x scope (catch_scope scope at name) b)
keeps_stmt x scope (Batch at interface root a) = keeps_opened x scope (batch_scope x scope at interface root) a

pub keeps_stmts : (x : Context) (scope : Scope) (ss : Stmts) → Keeps scope (check_stmts x scope ss)
keeps_stmts x scope NoStmts = keeps_whole scope
keeps_stmts x scope (MoreStmts s ss) = along scope (check_stmt x scope s) (λ inner. check_stmts x inner ss) (keeps_stmt x scope s) (λ inner. keeps_stmts x inner ss)
