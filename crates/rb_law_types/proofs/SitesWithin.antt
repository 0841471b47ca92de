-- The sites of statements and of expressions among those of a batch.
use Rattle.std.proofs.Common.{◌≡◌, refl, sym, subst, zero, suc, List, [], ◌∷◌, ◌++◌, arith}
use Rattle.std.specs.List.{Contains}
use Rattle.std.proofs.lemmas.List.Elements.{Contains-append_left, Contains-append_right}
use Rattle.rb_trees.specs.mirror.Code.{Expr, Lit, Name, This, Unary, Binary, Field, Call, Index, New, Items, Taken, Stmt, Val, Var, Assign, Run, Print, Throw, If, While, For, Try, Batch}
use Rattle.rb_meaning_flow.specs.Facts.{Facts}
use Rattle.rb_meaning_flow.specs.Scopes.{Scope}
use Rattle.rb_meaning_flow.specs.Sites.{Around, StmtSite, Over, site, expr_sites, own, all_sites, stmt_site, sites, exprs_of}

abbrev pub Within : {A : Type 0} → List A → List A → Type 0
Within {A = A} xs all = (o : A) → Contains xs o → Contains all o

pub within_left : {A : Type 0} (xs ys all : List A) → Within (xs ++ ys) all → Within xs all
within_left xs ys all h o is = h o (Contains-append_left xs ys o is)

pub within_right : {A : Type 0} (xs ys all : List A) → Within (xs ++ ys) all → Within ys all
within_right xs ys all h o is = h o (Contains-append_right xs ys o is)

pub within_tail : {A : Type 0} (x : A) (xs all : List A) → Within (x ∷ xs) all → Within xs all
within_tail x xs all h = within_right (x ∷ []) xs all h

-- the expressions of a statement are among those of all
pub exprs_among : (ss : List StmtSite) (s : StmtSite) → Contains ss s → Within (all_sites s (own s.stmt)) (exprs_of ss)
exprs_among [] s (k, l, e) o is = absurd (omega (arith, l))
exprs_among (t ∷ ss) s (zero, l, e) o is = Contains-append_left (all_sites t (own t.stmt)) (exprs_of ss) o (subst (λ u. Contains (all_sites u (own u.stmt)) o) (sym e) is)
exprs_among (t ∷ ss) s (suc k, l, e) o is = Contains-append_right (all_sites t (own t.stmt)) (exprs_of ss) o (exprs_among ss s (k, omega (arith, l), e) o is)

first_contained : {A : Type 0} (x : A) (xs : List A) → Contains (x ∷ xs) x
first_contained x xs = (zero, omega arith, refl)

-- an expression is the first of its sites
pub site_first : (s : StmtSite) (above : List Over) (e : Expr) → Contains (expr_sites s above e) (site s above e)
site_first s above (Lit at value) = first_contained (site s above (Lit at value)) []
site_first s above (Name at name) = first_contained (site s above (Name at name)) []
site_first s above (This at) = first_contained (site s above (This at)) []
site_first s above (Unary at op a) = first_contained (site s above (Unary at op a)) _
site_first s above (Binary at op a b) = first_contained (site s above (Binary at op a b)) _
site_first s above (Field at a name) = first_contained (site s above (Field at a name)) _
site_first s above (Call at a method args) = first_contained (site s above (Call at a method args)) _
site_first s above (Index at a b) = first_contained (site s above (Index at a b)) _
site_first s above (New at class args) = first_contained (site s above (New at class args)) _
site_first s above (Items at item items) = first_contained (site s above (Items at item items)) _
site_first s above (Taken at step) = first_contained (site s above (Taken at step)) []

-- a statement is the first of its sites
pub stmt_first : (f : Facts) (around : List Around) (scope : Scope) (s : Stmt) → Contains (sites f around scope s) (stmt_site around scope s)
stmt_first f around scope (Val at name e) = first_contained (stmt_site around scope (Val at name e)) []
stmt_first f around scope (Var at name e) = first_contained (stmt_site around scope (Var at name e)) []
stmt_first f around scope (Assign at a b) = first_contained (stmt_site around scope (Assign at a b)) []
stmt_first f around scope (Run at e) = first_contained (stmt_site around scope (Run at e)) []
stmt_first f around scope (Print at e) = first_contained (stmt_site around scope (Print at e)) []
stmt_first f around scope (Throw at e) = first_contained (stmt_site around scope (Throw at e)) []
stmt_first f around scope (If at c a b) = first_contained (stmt_site around scope (If at c a b)) _
stmt_first f around scope (While at c a) = first_contained (stmt_site around scope (While at c a)) _
stmt_first f around scope (For at name e a) = first_contained (stmt_site around scope (For at name e a)) _
stmt_first f around scope (Try at a name b) = first_contained (stmt_site around scope (Try at a name b)) _
stmt_first f around scope (Batch at interface root a) = first_contained (stmt_site around scope (Batch at interface root a)) _

-- the outermost expressions of a statement, and the first of them
pub own_among : (f : Facts) (ss : List StmtSite) (around : List Around) (vs : Scope) (s : Stmt) → Within (sites f around vs s) ss → Within (all_sites (stmt_site around vs s) (own s)) (exprs_of ss)
own_among f ss around vs s w = exprs_among ss (stmt_site around vs s) (w (stmt_site around vs s) (stmt_first f around vs s))

pub first_among : (f : Facts) (ss : List StmtSite) (around : List Around) (vs : Scope) (s : Stmt) (e : Expr) (es : List Expr) → own s ≡ e ∷ es → Within (sites f around vs s) ss → Within (expr_sites (stmt_site around vs s) [] e) (exprs_of ss)
first_among f ss around vs s e es first w =
    let st = stmt_site around vs s in
    within_left (expr_sites st [] e) (all_sites st es) _ (subst (λ own_exprs. Within (all_sites st own_exprs) (exprs_of ss)) first (own_among f ss around vs s w))
