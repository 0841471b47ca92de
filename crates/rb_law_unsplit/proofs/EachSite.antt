-- A fact of each batch of a typed program, told of the places where its code stands.
use Rattle.std.proofs.Common.{◌≡◌, ◌⊎◌, ap, subst, ℕ, List, [], ◌∷◌, Bool as Truth, true, false, Option, Some, None, All, Ok}
use Rattle.std.specs.List.{Contains, flat_map}
use Rattle.std.proofs.lemmas.List.Elements.{All-head, All-tail}
use Rattle.rb_trees.specs.Outcome.{◌>>=◌}
use Rattle.rb_trees.specs.mirror.Code.{Expr, Stmt, Stmts, Val, Var, Assign, Run, Print, Throw, If, While, For, Try, Batch, NoStmts, MoreStmts}
use Rattle.rb_trees.specs.mirror.Declarations.{Method, Class, Program}
use Rattle.rb_meaning_types.specs.Kinds as kind
use Rattle.rb_meaning_types.specs.Kinds.{Kind, is_unit}
use Rattle.rb_meaning_types.specs.Declared.{Declarations, Context, of_program, method_context, main_context}
use Rattle.rb_meaning_types.specs.Scopes.{Scope, with_variable, parameters}
use Rattle.rb_meaning_types.specs.Expressions.{type_of}
use Rattle.rb_meaning_types.specs.Statements.{placed, loop_scope, catch_scope, check_stmt, check_stmts}
use Rattle.rb_meaning_types.specs.Bodies.{check_method_body, check_method_bodies, check_class_bodies}
use Rattle.rb_meaning_types.specs.Notes.{scope_or}
use Rattle.rb_law_types.specs.Ends.{Place, context}
use Rattle.rb_law_types.specs.Asked.{Site}
use Rattle.rb_law_types.specs.Batches.{sites, sites_in}
use Rattle.rb_law_types.proofs.Checks.{bind_ok, then_ok}
use Rattle.rb_law_types.proofs.Parts.{val_parts, var_parts, assign_parts, run_parts, print_parts, throw_parts, if_parts, while_parts, for_parts, try_parts, batch_parts, stmts_parts}
use Rattle.rb_law_unsplit.specs.Batches.{method_sites, class_sites, program_sites}
use Rattle.rb_law_unsplit.proofs.Standing.{nothing, each_of, the_one}
use Rattle.rb_law_unsplit.proofs.Programs.{IsTypedProgram}

-- where the body of a method starts, and where `main` does
abbrev pub method_place : List ℕ → Method → Place
method_place class m = record { this = Some class; remote = m.remote; scope = parameters m.signature.params }

abbrev pub main_place : Place
main_place = record { this = None; remote = true; scope = [] }

module _ (d : Declarations) (Here : Place → Type 0) (Good : Site → Type 0) where
  -- what holds of a place holds with each name more that code there may bring in, and makes a batch good that stands there
  pub record Spreads : Type 0 where
    pub to_name : (q : Place) (name : List ℕ) (fixed : Truth) (e : Expr) (k : Kind) → type_of (context d q) q.scope e ≡ Ok k → is_unit k ≡ false → Here q
        → Here (record q { scope = with_variable q.scope name k fixed })
    pub to_turn : (q : Place) (name : List ℕ) (e : Expr) (k item : Kind) → type_of (context d q) q.scope e ≡ Ok k → (k ≡ kind.ListOf item) ⊎ (k ≡ kind.RowsOf item) → Here q
        → Here (record q { scope = with_variable q.scope name item true })
    pub to_catch : (q : Place) (name : List ℕ) → Here q → Here (record q { scope = with_variable q.scope name kind.Text true })
    pub to_batch : (b : Site) (after : Scope) → check_stmt (context d b.place) b.place.scope (Batch b.at b.interface b.root b.block) ≡ Ok after → Here b.place → Good b

  module _ (spreads : Spreads) where
    module _ (this : Option (List ℕ)) (remote : Truth) where
      abbrev x : Context
      x = record { declared = d; this = this; remote = remote }

      abbrev within : Scope → Place
      within ws = record { this = this; remote = remote; scope = ws }

      behind : (ws after : Scope) (s : Stmt) → check_stmt x ws s ≡ Ok after → Here (within ws) → Here (within after)
      behind ws after (Val at name e) t h = let q = val_parts x ws at name e after t in subst (λ v. Here (within v)) q.same (spreads.to_name (within ws) name true e q.kind q.typed q.no_unit h)
      behind ws after (Var at name e) t h = let q = var_parts x ws at name e after t in subst (λ v. Here (within v)) q.same (spreads.to_name (within ws) name false e q.kind q.typed q.no_unit h)
      behind ws after (Assign at a b) t h = subst (λ v. Here (within v)) (assign_parts x ws at a b after t).same h
      behind ws after (Run at e) t h = subst (λ v. Here (within v)) (run_parts x ws at e after t).same h
      behind ws after (Print at e) t h = subst (λ v. Here (within v)) (print_parts x ws at e after t).same h
      behind ws after (Throw at e) t h = subst (λ v. Here (within v)) (throw_parts x ws at e after t).same h
      behind ws after (If at c a b) t h = subst (λ v. Here (within v)) (if_parts x ws at c a b after t).same h
      behind ws after (While at c a) t h = subst (λ v. Here (within v)) (while_parts x ws at c a after t).same h
      behind ws after (For at name e a) t h = subst (λ v. Here (within v)) (for_parts x ws at name e a after t).same h
      behind ws after (Try at a name b) t h = subst (λ v. Here (within v)) (try_parts x ws at a name b after t).same h
      behind ws after (Batch at interface root a) t h = subst (λ v. Here (within v)) (batch_parts x ws at interface root a after t).same h

      mutual
        stmt_good : (ws after : Scope) (s : Stmt) → check_stmt x ws s ≡ Ok after → Here (within ws) → (b : Site) → Contains (sites x ws s) b → Good b
        stmt_good ws after (Val at name e) t h b c = nothing b c
        stmt_good ws after (Var at name e) t h b c = nothing b c
        stmt_good ws after (Assign at a a') t h b c = nothing b c
        stmt_good ws after (Run at e) t h b c = nothing b c
        stmt_good ws after (Print at e) t h b c = nothing b c
        stmt_good ws after (Throw at e) t h b c = nothing b c
        stmt_good ws after (If at q a a') t h b c =
            let i = if_parts x ws at q a a' after t in
            each_of Good (sites_in x ws a) (sites_in x ws a') (stmts_good ws i.first a i.first_typed h) (stmts_good ws i.second a' i.second_typed h) b c
        stmt_good ws after (While at q a) t h b c = let i = while_parts x ws at q a after t in stmts_good ws i.last a i.block_typed h b c
        stmt_good ws after (For at name e a) t h b c =
            let i = for_parts x ws at name e a after t in
            let inner = with_variable ws name i.item true in
            let same : scope_or ws (placed x ws e >>= λ q. loop_scope ws at name q) ≡ inner = ap (scope_or ws) i.judged in
            stmts_good inner i.last a i.block_typed (spreads.to_turn (within ws) name e i.list i.item i.typed i.over h) b (subst (λ z. Contains (sites_in x z a) b) same c)
        stmt_good ws after (Try at a name a') t h b c =
            let i = try_parts x ws at a name a' after t in
            let inner = with_variable ws name kind.Text true in
            let same : scope_or ws (catch_scope ws at name) ≡ inner = ap (scope_or ws) i.judged in
            each_of Good (sites_in x ws a) (sites_in x (scope_or ws (catch_scope ws at name)) a') (stmts_good ws i.first a i.first_typed h)
            (λ b' c'. stmts_good inner i.second a' i.second_typed (spreads.to_catch (within ws) name h) b' (subst (λ z. Contains (sites_in x z a') b') same c')) b c
        stmt_good ws after (Batch at interface root a) t h b c =
            let site : Site = record { at = at; interface = interface; root = root; block = a; place = within ws } in
            the_one Good site (spreads.to_batch site after t h) b c

        stmts_good : (ws after : Scope) (ss : Stmts) → check_stmts x ws ss ≡ Ok after → Here (within ws) → (b : Site) → Contains (sites_in x ws ss) b → Good b
        stmts_good ws after NoStmts t h b c = nothing b c
        stmts_good ws after (MoreStmts s ss) t h b c =
            let i = stmts_parts x ws s ss after t in
            let same : scope_or ws (check_stmt x ws s) ≡ i.middle = ap (scope_or ws) i.typed in
            each_of Good (sites x ws s) (sites_in x (scope_or ws (check_stmt x ws s)) ss) (stmt_good ws i.middle s i.typed h)
            (λ b' c'. stmts_good i.middle after ss i.rest (behind ws i.middle s i.typed h) b' (subst (λ z. Contains (sites_in x z ss) b') same c')) b c

    methods_good : (class : List ℕ) (ms : List Method) → check_method_bodies d class ms ≡ Ok tt → All (λ m. Here (method_place class m)) ms → (b : Site) → Contains (flat_map (method_sites d class) ms) b → Good b
    methods_good class [] t starts b c = nothing b c
    methods_good class (m ∷ ms) t starts b c =
        let s = then_ok (check_method_body d class m) (check_method_bodies d class ms) tt t in
        let u = bind_ok (check_stmts (method_context d class m.remote) (parameters m.signature.params) m.body.statements) _ tt s.0 in
        each_of Good (method_sites d class m) (flat_map (method_sites d class) ms)
        (stmts_good (Some class) m.remote (parameters m.signature.params) u.0 m.body.statements u.1 (All-head (λ n. Here (method_place class n)) m ms starts))
        (methods_good class ms s.1 (All-tail (λ n. Here (method_place class n)) m ms starts)) b c

    classes_good : (cs : List Class) → check_class_bodies d cs ≡ Ok tt → All (λ k. All (λ m. Here (method_place k.name m)) k.methods) cs → (b : Site) → Contains (flat_map (class_sites d) cs) b → Good b
    classes_good [] t starts b c = nothing b c
    classes_good (k ∷ cs) t starts b c =
        let s = then_ok (check_method_bodies d k.name k.methods) (check_class_bodies d cs) tt t in
        each_of Good (class_sites d k) (flat_map (class_sites d) cs) (methods_good k.name k.methods s.0 (All-head (λ l. All (λ m. Here (method_place l.name m)) l.methods) k cs starts))
        (classes_good cs s.1 (All-tail (λ l. All (λ m. Here (method_place l.name m)) l.methods) k cs starts)) b c

pub each_site : (p : Program) (Here : Place → Type 0) (Good : Site → Type 0) → Spreads (of_program p) Here Good → IsTypedProgram p
    → All (λ k. All (λ m. Here (method_place k.name m)) k.methods) p.classes → Here main_place → (b : Site) → Contains (program_sites p) b → Good b
each_site p Here Good spreads t methods main b c =
    let d = of_program p in
    let u = bind_ok (check_stmts (main_context d) [] p.body.statements) _ tt t.body in
    each_of Good (flat_map (class_sites d) p.classes) (sites_in (main_context d) [] p.body.statements)
    (classes_good d Here Good spreads p.classes t.bodies methods) (stmts_good d Here Good spreads None true [] u.0 p.body.statements u.1 main) b c
