-- In a typed program no variable from outside of a batch has the name of the batch's root.
use Rattle.std.proofs.Common.{◌≡◌, refl, subst, ℕ, List, [], ◌∷◌, Bool as Truth, true, false, Option, Some, None, is_none, Ok}
use Rattle.std.specs.List.{AllByRecursion, Contains, flat_map}
use Rattle.rb_trees.specs.mirror.Code.{Stmt, Stmts, Val, Var, Assign, Run, Print, Throw, If, While, For, Try, Batch, NoStmts, MoreStmts, expr_at}
use Rattle.rb_trees.specs.mirror.Declarations.{Param, Method, Class, Program}
use Rattle.rb_meaning_types.specs.Kinds as kind
use Rattle.rb_meaning_types.specs.Declared.{Declarations, Context, of_program, method_context, main_context}
use Rattle.rb_meaning_types.specs.Scopes as typed
use Rattle.rb_meaning_types.specs.Statements.{check_stmt, check_stmts}
use Rattle.rb_meaning_types.specs.Bodies.{check_method_body, check_method_bodies, check_class_bodies}
use Rattle.rb_meaning_types.specs.Programs.{check_program}
use Rattle.rb_meaning_flow.specs.declared.scopes.Role.{Role}
use Rattle.rb_meaning_flow.specs.declared.scopes.Variable.{Variable}
use Rattle.rb_meaning_flow.specs.Facts.{Facts, facts_of}
use Rattle.rb_meaning_flow.specs.Scopes.{Scope, variable_named, with_variable}
use Rattle.rb_meaning_flow.specs.Outermost.{Outermost, outer_role, outer_after, outermost, outermost_in, parameters, method_batches, class_batches, program_batches}
use Rattle.rb_law_types.proofs.Checks.{bind_ok, then_ok}
use Rattle.rb_law_types.proofs.Parts.{val_parts, var_parts, assign_parts, run_parts, print_parts, throw_parts, if_parts, while_parts, for_parts, try_parts, batch_parts, stmts_parts}
use Rattle.rb_law_unsplit.proofs.Programs.{program_typed}
use Rattle.rb_law_division.proofs.Lists.{each, all_both}
use Rattle.rb_law_division.proofs.Known.{SameNames, Match, names_match, same_more}

abbrev IsRootFree : Outermost → Type 0
IsRootFree b = variable_named b.outer b.root ≡ None

pub none_named : (vs : Scope) (ws : typed.Scope) (q : List ℕ) → SameNames vs ws → is_none (typed.variable_named ws q) ≡ true → variable_named vs q ≡ None
none_named vs ws q same h = by (variable_named vs q) (typed.variable_named ws q) (names_match vs ws q same) h
  where
    by : (o : Option Variable) (w : Option typed.Variable) → Match o w → is_none w ≡ true → o ≡ None
    by None w m k = refl
    by (Some v) None m k = absurd m
    by (Some v) (Some w) m k = absurd (cc k)

module _ (f : Facts) (x : Context) where
  one_more : (vs : Scope) (ws : typed.Scope) (name : List ℕ) (role : Role) (at : ℕ) (k : kind.Kind) (fixed : Truth) → SameNames vs ws → SameNames (with_variable vs name role at) (typed.with_variable ws name k fixed)
  one_more vs ws name role at k fixed h = same_more vs ws (record { name = name; role = role; node = at }) (record { name = name; kind = k; fixed = fixed }) refl h

  after_same : (vs : Scope) (ws after : typed.Scope) (s : Stmt) → SameNames vs ws → check_stmt x ws s ≡ Ok after → SameNames (outer_after f vs s) after
  after_same vs ws after (Val at name e) h t =
      let d = val_parts x ws at name e after t in
      subst (SameNames (outer_after f vs (Val at name e))) d.same (one_more vs ws name (outer_role (f.primitive (expr_at e)) (f.items (expr_at e))) at d.kind true h)
  after_same vs ws after (Var at name e) h t =
      let d = var_parts x ws at name e after t in
      subst (SameNames (outer_after f vs (Var at name e))) d.same (one_more vs ws name (outer_role (f.primitive (expr_at e)) (f.items (expr_at e))) at d.kind false h)
  after_same vs ws after (Assign at a b) h t = subst (SameNames vs) (assign_parts x ws at a b after t).same h
  after_same vs ws after (Run at e) h t = subst (SameNames vs) (run_parts x ws at e after t).same h
  after_same vs ws after (Print at e) h t = subst (SameNames vs) (print_parts x ws at e after t).same h
  after_same vs ws after (Throw at e) h t = subst (SameNames vs) (throw_parts x ws at e after t).same h
  after_same vs ws after (If at c a b) h t = subst (SameNames vs) (if_parts x ws at c a b after t).same h
  after_same vs ws after (While at c a) h t = subst (SameNames vs) (while_parts x ws at c a after t).same h
  after_same vs ws after (For at name e a) h t = subst (SameNames vs) (for_parts x ws at name e a after t).same h
  after_same vs ws after (Try at a name b) h t = subst (SameNames vs) (try_parts x ws at a name b after t).same h
  after_same vs ws after (Batch at interface root a) h t = subst (SameNames vs) (batch_parts x ws at interface root a after t).same h

  mutual
    stmt_roots : (vs : Scope) (ws after : typed.Scope) (s : Stmt) → SameNames vs ws → check_stmt x ws s ≡ Ok after → AllByRecursion IsRootFree (outermost f vs s)
    stmt_roots vs ws after (Val at name e) h t = tt
    stmt_roots vs ws after (Var at name e) h t = tt
    stmt_roots vs ws after (Assign at a b) h t = tt
    stmt_roots vs ws after (Run at e) h t = tt
    stmt_roots vs ws after (Print at e) h t = tt
    stmt_roots vs ws after (Throw at e) h t = tt
    stmt_roots vs ws after (If at c a b) h t =
        let d = if_parts x ws at c a b after t in
        all_both IsRootFree (outermost_in f vs a) (outermost_in f vs b) (stmts_roots vs ws d.first a h d.first_typed) (stmts_roots vs ws d.second b h d.second_typed)
    stmt_roots vs ws after (While at c a) h t = let d = while_parts x ws at c a after t in stmts_roots vs ws d.last a h d.block_typed
    stmt_roots vs ws after (For at name e a) h t =
        let d = for_parts x ws at name e a after t in
        let role = outer_role (f.items (expr_at e)) (f.lists (expr_at e)) in
        stmts_roots (with_variable vs name role at) (typed.with_variable ws name d.item true) d.last a (one_more vs ws name role at d.item true h) d.block_typed
    stmt_roots vs ws after (Try at a name b) h t =
        let d = try_parts x ws at a name b after t in
        let role = outer_role true false in
        all_both IsRootFree (outermost_in f vs a) (outermost_in f (with_variable vs name role at) b) (stmts_roots vs ws d.first a h d.first_typed)
        (stmts_roots (with_variable vs name role at) (typed.with_variable ws name kind.Text true) d.second b (one_more vs ws name role at kind.Text true h) d.second_typed)
    stmt_roots vs ws after (Batch at interface root a) h t = (none_named vs ws root h (batch_parts x ws at interface root a after t).free, tt)

    stmts_roots : (vs : Scope) (ws after : typed.Scope) (ss : Stmts) → SameNames vs ws → check_stmts x ws ss ≡ Ok after → AllByRecursion IsRootFree (outermost_in f vs ss)
    stmts_roots vs ws after NoStmts h t = tt
    stmts_roots vs ws after (MoreStmts s ss) h t =
        let d = stmts_parts x ws s ss after t in
        all_both IsRootFree (outermost f vs s) (outermost_in f (outer_after f vs s) ss) (stmt_roots vs ws d.middle s h d.typed)
        (stmts_roots (outer_after f vs s) d.middle after ss (after_same vs ws d.middle s h d.typed) d.rest)

params_same : (ps : List Param) → SameNames (parameters ps) (typed.parameters ps)
params_same [] = tt
params_same (p ∷ ps) = (refl, params_same ps)

module _ (p : Program) where
  abbrev f : Facts
  f = facts_of p

  abbrev d : Declarations
  d = of_program p

  methods_roots : (class : List ℕ) (ms : List Method) → check_method_bodies d class ms ≡ Ok tt → AllByRecursion IsRootFree (flat_map (method_batches f) ms)
  methods_roots class [] t = tt
  methods_roots class (m ∷ ms) t =
      let s = then_ok (check_method_body d class m) (check_method_bodies d class ms) tt t in
      let u = bind_ok (check_stmts (method_context d class m.remote) (typed.parameters m.signature.params) m.body.statements) _ tt s.0 in
      all_both IsRootFree (method_batches f m) (flat_map (method_batches f) ms)
      (stmts_roots f (method_context d class m.remote) (parameters m.signature.params) (typed.parameters m.signature.params) u.0 m.body.statements (params_same m.signature.params) u.1)
      (methods_roots class ms s.1)

  classes_roots : (cs : List Class) → check_class_bodies d cs ≡ Ok tt → AllByRecursion IsRootFree (flat_map (class_batches f) cs)
  classes_roots [] t = tt
  classes_roots (c ∷ cs) t =
      let s = then_ok (check_method_bodies d c.name c.methods) (check_class_bodies d cs) tt t in
      all_both IsRootFree (class_batches f c) (flat_map (class_batches f) cs) (methods_roots c.name c.methods s.0) (classes_roots cs s.1)

  pub root_free : check_program p ≡ Ok tt → (b : Outermost) → Contains (program_batches f p) b → variable_named b.outer b.root ≡ None
  root_free checked b is =
      let t = program_typed p checked in
      let u = bind_ok (check_stmts (main_context d) [] p.body.statements) _ tt t.body in
      each IsRootFree (program_batches f p) b
      (all_both IsRootFree (flat_map (class_batches f) p.classes) (outermost_in f [] p.body.statements) (classes_roots p.classes t.bodies)
      (stmts_roots f (main_context d) [] [] u.0 p.body.statements tt u.1)) is
