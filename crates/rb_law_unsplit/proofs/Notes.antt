-- The first note at the position of an expression is its own, where positions differ.
use Rattle.std.proofs.Common.{◌≡◌, refl, ap, ℕ, List, [], ◌∷◌, ◌++◌, Bool, true, false, cond, nat_eq, Option, Some, None}
use Rattle.std.specs.List.{AllByRecursion}
use Rattle.rb_trees.specs.Outcome.{◌>>=◌}
use Rattle.rb_trees.specs.mirror.Code.{Expr, Exprs, Lit, Name, This, Unary, Binary, Field, Call, Index, New, Items, Taken, NoExprs, MoreExprs, expr_at, Stmt, Stmts, Val, Var, Assign, Run, Print, Throw, If, While, For, Try, Batch, NoStmts, MoreStmts}
use Rattle.rb_trees.specs.mirror.Declarations.{Body, Method, Class}
use Rattle.rb_meaning_types.specs.Kinds.{Kind}
use Rattle.rb_meaning_types.specs.Violations.{Checked}
use Rattle.rb_meaning_types.specs.Scopes.{Scope, parameters}
use Rattle.rb_meaning_types.specs.Declared.{Declarations, Context, of_program, method_context, main_context}
use Rattle.rb_meaning_types.specs.Statements.{placed, loop_scope, catch_scope, batch_scope, check_stmt, check_stmts}
use Rattle.rb_meaning_types.specs.Expressions.{type_of}
use Rattle.rb_meaning_types.specs.Notes.{Note, noted, all_noted, scope_or, stmt_noted, stmts_noted, return_noted, body_noted, methods_noted, classes_noted, note_at}
use Rattle.rb_meaning_types.specs.Lawful.{expr_positions, exprs_positions, stmt_positions, stmts_positions, return_positions, body_positions, methods_positions, classes_positions}
use Rattle.rb_law_types.specs.Noted.{IsNotedExpr, AreNotedExprs, IsNotedStmt, AreNotedStmts}
use Rattle.rb_law_unsplit.specs.Noted.{LawfulAreNoted}
use Rattle.rb_law_unsplit.proofs.Positions.{same_position, Apart, Differ, differ_from, apart_left, apart_right, differ_left, differ_right, EachApart, differ_apart}

abbrev Look : Type 0
Look = ℕ → Option (Checked Kind)

abbrev look : List Note → Look
look ns q = note_at ns q None

abbrev Free : List Note → ℕ → Type 0
Free ns q = look ns q ≡ None

abbrev Fresh : List Note → List ℕ → Type 0
Fresh ns qs = AllByRecursion (Free ns) qs

look_more : (ns ms : List Note) (q : ℕ) (g : Checked Kind) → look ns q ≡ Some g → look (ns ++ ms) q ≡ Some g
look_more [] ms q g h = absurd (cc (h))
look_more (n ∷ ns) ms q g h = by (nat_eq n.at q) h (look_more ns ms q g)
  where
    by : (t : Bool) → cond t (Some n.gives) (look ns q) ≡ Some g → (look ns q ≡ Some g → look (ns ++ ms) q ≡ Some g) → cond t (Some n.gives) (look (ns ++ ms) q) ≡ Some g
    by true e rest = e
    by false e rest = rest e

look_free : (ns : List Note) (n : Note) (q : ℕ) → Free ns q → nat_eq n.at q ≡ false → Free (ns ++ n ∷ []) q
look_free [] n q h e = ap (λ t. cond t (Some n.gives) None) e
look_free (m ∷ ns) n q h e = by (nat_eq m.at q) h (λ f. look_free ns n q f e)
  where
    by : (t : Bool) → cond t (Some m.gives) (look ns q) ≡ None → (look ns q ≡ None → look (ns ++ n ∷ []) q ≡ None) → cond t (Some m.gives) (look (ns ++ n ∷ []) q) ≡ None
    by true f rest = absurd (cc (f))
    by false f rest = rest f

look_last : (ns : List Note) (n : Note) → Free ns n.at → look (ns ++ n ∷ []) n.at ≡ Some n.gives
look_last [] n h = ap (λ t. cond t (Some n.gives) None) (same_position n.at)
look_last (m ∷ ns) n h = by (nat_eq m.at n.at) h (look_last ns n)
  where
    by : (t : Bool) → cond t (Some m.gives) (look ns n.at) ≡ None → (look ns n.at ≡ None → look (ns ++ n ∷ []) n.at ≡ Some n.gives) → cond t (Some m.gives) (look (ns ++ n ∷ []) n.at) ≡ Some n.gives
    by true f rest = absurd (cc (f))
    by false f rest = rest f

abbrev LooksMore : Look → Look → Type 0
LooksMore f g = (q : ℕ) (k : Checked Kind) → f q ≡ Some k → g q ≡ Some k

-- What adds notes at these positions alone, and afterwards R holds of what is looked up.
record Adds (F : List Note → List Note) (P : List ℕ) (R : Look → Type 0) : Type 0 where
  more : (ns : List Note) → LooksMore (look ns) (look (F ns))
  free : (ns : List Note) (q : ℕ) → Free ns q → Apart q P → Free (F ns) q
  holds : (ns : List Note) → Differ P → Fresh ns P → R (look (F ns))
  mono : (f g : Look) → LooksMore f g → R f → R g

fresh_left : (ns : List Note) (P Q : List ℕ) → Fresh ns (P ++ Q) → Fresh ns P
fresh_left ns [] Q h = tt
fresh_left ns (x ∷ P) Q h = (h.0, fresh_left ns P Q h.1)

fresh_right : (ns : List Note) (P Q : List ℕ) → Fresh ns (P ++ Q) → Fresh ns Q
fresh_right ns [] Q h = h
fresh_right ns (x ∷ P) Q h = fresh_right ns P Q h.1

fresh_after : {F : List Note → List Note} {P : List ℕ} {R : Look → Type 0} → Adds F P R → (ns : List Note) (Q : List ℕ) → Fresh ns Q → EachApart Q P → Fresh (F ns) Q
fresh_after a ns [] h e = tt
fresh_after a ns (q ∷ Q) h e = (a.free ns q h.0 e.0, fresh_after a ns Q h.1 e.1)

-- one after the other
both : {F G : List Note → List Note} {P Q : List ℕ} {R S : Look → Type 0} → Adds F P R → Adds G Q S → Adds (λ ns. G (F ns)) (P ++ Q) (λ f. R f × S f)
both {F = F} {G = G} {P = P} {Q = Q} a b = record {
  more = λ ns q k e. b.more (F ns) q k (a.more ns q k e);
  free = λ ns q e h. b.free (F ns) q (a.free ns q e (apart_left q P Q h)) (apart_right q P Q h);
  holds = λ ns d h. (
    a.mono (look (F ns)) (look (G (F ns))) (b.more (F ns)) (a.holds ns (differ_left P Q d) (fresh_left ns P Q h)),
    b.holds (F ns) (differ_right P Q d) (fresh_after a ns Q (fresh_right ns P Q h) (differ_apart P Q d)),
  );
  mono = λ f g e h. (a.mono f g e h.0, b.mono f g e h.1);
}

-- parts, and then what they are parts of
own : {F : List Note → List Note} {P : List ℕ} {R : Look → Type 0} (n : Note) → Adds F P R → Adds (λ ns. F ns ++ n ∷ []) (n.at ∷ P) (λ f. (f n.at ≡ Some n.gives) × R f)
own {F = F} {P = P} n a = record {
  more = λ ns q k e. look_more (F ns) (n ∷ []) q k (a.more ns q k e);
  free = λ ns q e h. look_free (F ns) n q (a.free ns q e h.1) h.0;
  holds = λ ns d h. (look_last (F ns) n (a.free ns n.at h.0 d.0), a.mono (look (F ns)) (look (F ns ++ n ∷ [])) (λ q k e. look_more (F ns) (n ∷ []) q k e) (a.holds ns d.1 h.1));
  mono = λ f g e h. (e n.at n.gives h.0, a.mono f g e h.1);
}

leaf : (n : Note) → Adds (λ ns. ns ++ n ∷ []) (n.at ∷ []) (λ f. f n.at ≡ Some n.gives)
leaf n = record {
  more = λ ns q k e. look_more ns (n ∷ []) q k e;
  free = λ ns q e h. look_free ns n q e h.0;
  holds = λ ns d h. look_last ns n h.0;
  mono = λ f g e h. e n.at n.gives h;
}

none : Adds (λ ns. ns) [] (λ f. Unit {0})
none = record { more = λ ns q k e. e; free = λ ns q e h. e; holds = λ ns d h. tt; mono = λ f g e h. tt }

-- a position at which no note is added
skip : {F : List Note → List Note} {P : List ℕ} {R : Look → Type 0} (at : ℕ) → Adds F P R → Adds F (at ∷ P) R
skip at a = record { more = a.more; free = λ ns q e h. a.free ns q e h.1; holds = λ ns d h. a.holds ns d.1 h.1; mono = a.mono }

-- three facts in a row
flat : {F : List Note → List Note} {P : List ℕ} {R S T : Look → Type 0} → Adds F P (λ f. R f × (S f × T f)) → Adds F P (λ f. R f × S f × T f)
flat a = record {
  more = a.more;
  free = a.free;
  holds = λ ns d h. let w = a.holds ns d h in (w.0, w.1.0, w.1.1);
  mono = λ f g e h. let w = a.mono f g e (h.0, (h.1, h.2)) in (w.0, w.1.0, w.1.1);
}

flat_left : {F : List Note → List Note} {P : List ℕ} {R S T : Look → Type 0} → Adds F P (λ f. (R f × S f) × T f) → Adds F P (λ f. R f × S f × T f)
flat_left a = record {
  more = a.more;
  free = a.free;
  holds = λ ns d h. let w = a.holds ns d h in (w.0.0, w.0.1, w.1);
  mono = λ f g e h. let w = a.mono f g e ((h.0, h.1), h.2) in (w.0.0, w.0.1, w.1);
}

forget : {F : List Note → List Note} {P : List ℕ} {R : Look → Type 0} → Adds F P R → Adds F P (λ f. Unit {0})
forget a = record { more = a.more; free = a.free; holds = λ ns d h. tt; mono = λ f g e h. tt }

module _ (x : Context) (scope : Scope) where
  abbrev here : Expr → Note
  here e = record { at = expr_at e; gives = type_of x scope e }

  mutual
    expr_adds : (e : Expr) → Adds (λ ns. noted x scope ns e) (expr_positions e) (λ f. IsNotedExpr f x scope e)
    expr_adds (Lit at value) = leaf (here (Lit at value))
    expr_adds (Name at name) = leaf (here (Name at name))
    expr_adds (This at) = leaf (here (This at))
    expr_adds (Unary at op a) = own (here (Unary at op a)) (expr_adds a)
    expr_adds (Binary at op a b) = flat (own (here (Binary at op a b)) (both (expr_adds a) (expr_adds b)))
    expr_adds (Field at a name) = own (here (Field at a name)) (expr_adds a)
    expr_adds (Call at a method args) = flat (own (here (Call at a method args)) (both (expr_adds a) (exprs_add args)))
    expr_adds (Index at a b) = flat (own (here (Index at a b)) (both (expr_adds a) (expr_adds b)))
    expr_adds (New at class args) = own (here (New at class args)) (exprs_add args)
    expr_adds (Items at item items) = own (here (Items at item items)) (exprs_add items)
    expr_adds (Taken at step) = leaf (here (Taken at step))

    exprs_add : (es : Exprs) → Adds (λ ns. all_noted x scope ns es) (exprs_positions es) (λ f. AreNotedExprs f x scope es)
    exprs_add NoExprs = none
    exprs_add (MoreExprs e es) = both (expr_adds e) (exprs_add es)

module _ (x : Context) where
  mutual
    stmt_adds : (scope : Scope) (s : Stmt) → Adds (λ ns. stmt_noted x scope ns s) (stmt_positions s) (λ f. IsNotedStmt f x scope s)
    stmt_adds scope (Val at name e) = skip at (expr_adds x scope e)
    stmt_adds scope (Var at name e) = skip at (expr_adds x scope e)
    stmt_adds scope (Assign at a b) = skip at (both (expr_adds x scope a) (expr_adds x scope b))
    stmt_adds scope (Run at e) = skip at (expr_adds x scope e)
    stmt_adds scope (Print at e) = skip at (expr_adds x scope e)
    stmt_adds scope (Throw at e) = skip at (expr_adds x scope e)
    stmt_adds scope (If at c a b) = skip at (flat_left (both (both (expr_adds x scope c) (stmts_add scope a)) (stmts_add scope b)))
    stmt_adds scope (While at c a) = skip at (both (expr_adds x scope c) (stmts_add scope a))
    stmt_adds scope (For at name e a) = skip at (both (expr_adds x scope e) (stmts_add (scope_or scope (placed x scope e >>= λ p. loop_scope scope at name p)) a))
    stmt_adds scope (Try at a name b) = skip at (both (stmts_add scope a) (stmts_add (scope_or scope (catch_scope scope at name)) b))
    stmt_adds scope (Batch at interface root a) = skip at (stmts_add (scope_or scope (batch_scope x scope at interface root)) a)

    stmts_add : (scope : Scope) (ss : Stmts) → Adds (λ ns. stmts_noted x scope ns ss) (stmts_positions ss) (λ f. AreNotedStmts f x scope ss)
    stmts_add scope NoStmts = none
    stmts_add scope (MoreStmts s ss) = both (stmt_adds scope s) (stmts_add (scope_or scope (check_stmt x scope s)) ss)

  return_adds : (scope : Scope) (r : Option Expr) → Adds (λ ns. return_noted x scope ns r) (return_positions r) (λ f. Unit {0})
  return_adds scope (Some e) = forget (expr_adds x scope e)
  return_adds scope None = none

  -- of a body the statements alone count
  body_adds : (scope : Scope) (b : Body) → Adds (λ ns. body_noted x scope ns b) (body_positions b) (λ f. AreNotedStmts f x scope b.statements)
  body_adds scope b =
      let whole = both (stmts_add scope b.statements) (return_adds (scope_or scope (check_stmts x scope b.statements)) b.result) in
      record { more = whole.more; free = whole.free; holds = λ ns d h. (whole.holds ns d h).0; mono = (stmts_add scope b.statements).mono }

module _ (d : Declarations) where
  abbrev MethodNoted : List ℕ → Look → Method → Type 0
  MethodNoted class f m = AreNotedStmts f (method_context d class m.remote) (parameters m.signature.params) m.body.statements

  methods_add : (class : List ℕ) (ms : List Method) → Adds (λ ns. methods_noted d class ns ms) (methods_positions ms) (λ f. AllByRecursion (MethodNoted class f) ms)
  methods_add class [] = none
  methods_add class (m ∷ ms) = both (body_adds (method_context d class m.remote) (parameters m.signature.params) m.body) (methods_add class ms)

  abbrev ClassNoted : Look → Class → Type 0
  ClassNoted f c = AllByRecursion (MethodNoted c.name f) c.methods

  classes_add : (cs : List Class) → Adds (λ ns. classes_noted d ns cs) (classes_positions cs) (λ f. AllByRecursion (ClassNoted f) cs)
  classes_add [] = none
  classes_add (c ∷ cs) = both (methods_add c.name c.methods) (classes_add cs)

fresh_first : (qs : List ℕ) → Fresh [] qs
fresh_first [] = tt
fresh_first (q ∷ qs) = (refl, fresh_first qs)

pub lawful_are_noted : LawfulAreNoted
lawful_are_noted p lawful =
    let all = both (classes_add (of_program p) p.classes) (body_adds (main_context (of_program p)) [] p.body) in
    let places = classes_positions p.classes ++ body_positions p.body in
    let h = all.holds [] (differ_from places lawful.positions) (fresh_first places) in
    record { classes = h.0; main = h.1 }
