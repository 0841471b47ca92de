-- Where a batch stands, each variable that counts as constant is of a primitive type, and none has the name `this`.
use Rattle.std.proofs.Common.{◌≡◌, ◌⊎◌, inl, inr, refl, sym, ap, ◌∙◌, subst, ℕ, List, [], ◌∷◌, Bool as Truth, true, false, All, Option, Some, None, Ok}
use Rattle.std.specs.List.{AllByRecursion, Contains, flat_map}
use Rattle.std.specs.Str.{bytes_eq}
use Rattle.std.proofs.lemmas.List.Elements.{All-head, All-tail}
use Rattle.rb_trees.specs.Outcome.{◌>>=◌}
use Rattle.rb_trees.specs.Spelling.{IsName}
use Rattle.rb_trees.specs.mirror.Code.{Name, Stmt, Stmts, Val, Var, Assign, Run, Print, Throw, If, While, For, Try, Batch, NoStmts, MoreStmts, expr_at}
use Rattle.rb_trees.specs.mirror.Declarations.{Param, Method, Class, Program}
use Rattle.rb_meaning_types.specs.Kinds as kind
use Rattle.rb_meaning_types.specs.Kinds.{Kind, is_primitive}
use Rattle.rb_meaning_types.specs.Declared.{Declarations, Context, of_program, method_context, main_context}
use Rattle.rb_meaning_types.specs.Scopes as typed
use Rattle.rb_meaning_types.specs.Statements.{placed, loop_scope, catch_scope, check_stmt, check_stmts}
use Rattle.rb_meaning_types.specs.Bodies.{check_method_body, check_method_bodies, check_class_bodies}
use Rattle.rb_meaning_types.specs.Notes.{scope_or, type_at}
use Rattle.rb_meaning_types.specs.Lawful.{IsLawful, IsLawfulParam, IsLawfulStmt, AreLawfulStmts, IsLawfulMethod, IsLawfulClass}
use Rattle.rb_meaning_types.specs.Fits.{this_name}
use Rattle.rb_meaning_flow.specs.Facts.{Facts, facts_of, has_primitive_items}
use Rattle.rb_meaning_flow.specs.Scopes.{Scope, with_variable, is_constant_role}
use Rattle.rb_meaning_flow.specs.Outermost as flow
use Rattle.rb_meaning_flow.specs.Outermost.{Outermost, outer_role, outer_after, outermost, outermost_in, method_batches, class_batches, program_batches}
use Rattle.rb_flow.proofs.Members.{first_contained}
use Rattle.rb_law_types.specs.Formed.{LawfulExprsAreFormed}
use Rattle.rb_law_types.specs.Noted.{IsNotedStmt, AreNotedStmts}
use Rattle.rb_law_types.specs.Asked.{Site}
use Rattle.rb_law_types.specs.Batches.{sites, sites_in}
use Rattle.rb_law_types.proofs.Checks.{bind_ok, then_ok}
use Rattle.rb_law_types.proofs.Parts.{val_parts, var_parts, assign_parts, run_parts, print_parts, throw_parts, if_parts, while_parts, for_parts, try_parts, batch_parts, stmts_parts}
use Rattle.rb_law_types.proofs.TypeFacts.{kind_here, primitive_fact, items_fact}
use Rattle.rb_law_types.proofs.SitesWithin.{Within, within_left, within_right}
use Rattle.rb_law_unsplit.specs.Noted.{IsNotedMethod, IsNotedClass, IsNotedProgram}
use Rattle.rb_law_unsplit.specs.Batches.{method_sites, class_sites, program_sites}
use Rattle.rb_law_unsplit.proofs.Programs.{IsTypedProgram}
use Rattle.rb_law_unsplit.proofs.Standing.{block_lawful, nothing, each_of, the_one}

-- Both scopes have the same names in order, none of them `this`, and what counts as constant is of a primitive type.
abbrev pub Sure : Scope → typed.Scope → Type 0
Sure [] [] = Unit {0}
Sure [] (w ∷ ws) = ⊥
Sure (v ∷ vs) [] = ⊥
Sure (v ∷ vs) (w ∷ ws) = (v.name ≡ w.name) × (bytes_eq this_name v.name ≡ false) × (is_constant_role v.role ≡ true → is_primitive w.kind ≡ true) × Sure vs ws

-- a batch among those of admission, in such a scope
pub record IsSureBatch (all : List Outermost) (b : Site) : Type 0 where
  pub begun : Outermost
  pub among : Contains all begun
  pub at : begun.at ≡ b.at
  pub sure : Sure begun.outer b.place.scope

constant_outer : (t u : Truth) → is_constant_role (outer_role t u) ≡ true → t ≡ true
constant_outer true u h = refl
constant_outer false true h = absurd (cc (h))
constant_outer false false h = absurd (cc (h))

sure_added : (vs : Scope) (ws : typed.Scope) (name : List ℕ) (t u : Truth) (at : ℕ) (k : Kind) (fixed : Truth) → Sure vs ws → bytes_eq this_name name ≡ false → (t ≡ true → is_primitive k ≡ true)
    → Sure (with_variable vs name (outer_role t u) at) (typed.with_variable ws name k fixed)
sure_added [] [] name t u at k fixed h plain f = (refl, plain, λ r. f (constant_outer t u r), tt)
sure_added [] (w ∷ ws) name t u at k fixed h plain f = absurd h
sure_added (v ∷ vs) [] name t u at k fixed h plain f = absurd h
sure_added (v ∷ vs) (w ∷ ws) name t u at k fixed h plain f = (h.0, h.1, h.2, sure_added vs ws name t u at k fixed h.3 plain f)

item_primitive : (k item : Kind) → (k ≡ kind.ListOf item) ⊎ (k ≡ kind.RowsOf item) → has_primitive_items k ≡ true → is_primitive item ≡ true
item_primitive k item (inl e) h = subst (λ m. has_primitive_items m ≡ true) e h
item_primitive k item (inr e) h = subst (λ m. has_primitive_items m ≡ true) e h

module _ (exprs_formed : LawfulExprsAreFormed) (p : Program) where
  abbrev d : Declarations
  d = of_program p

  abbrev f : Facts
  f = facts_of p

  -- a name isn't `this`
  plain : (name : List ℕ) → IsName name → bytes_eq this_name name ≡ false
  plain name h = exprs_formed (Name 0 name) h

  sure_parameters : (ps : List Param) → All IsLawfulParam ps → Sure (flow.parameters ps) (typed.parameters ps)
  sure_parameters [] h = tt
  sure_parameters (q ∷ ps) h = (refl, plain q.name (All-head IsLawfulParam q ps h).0, λ r. constant_outer (is_primitive (kind.kind_of q.kind)) (has_primitive_items (kind.kind_of q.kind)) r, sure_parameters ps (All-tail IsLawfulParam q ps h))

  module _ (this : Option (List ℕ)) (remote : Truth) where
    abbrev x : Context
    x = record { declared = d; this = this; remote = remote }

    -- the scopes after a statement
    after_sure : (s : Stmt) (vs : Scope) (ws after : typed.Scope) → Sure vs ws → check_stmt x ws s ≡ Ok after → IsNotedStmt (type_at p) x ws s → IsLawfulStmt s → Sure (outer_after f vs s) after
    after_sure (Val at name e) vs ws after h t n l =
        let q = val_parts x ws at name e after t in
        let fact = primitive_fact p (expr_at e) q.kind (kind_here (type_at p) x ws e q.kind n q.typed) in
        subst (Sure (outer_after f vs (Val at name e))) q.same (sure_added vs ws name (f.primitive (expr_at e)) (f.items (expr_at e)) at q.kind true h (plain name l.0) (λ r. sym fact ∙ r))
    after_sure (Var at name e) vs ws after h t n l =
        let q = var_parts x ws at name e after t in
        let fact = primitive_fact p (expr_at e) q.kind (kind_here (type_at p) x ws e q.kind n q.typed) in
        subst (Sure (outer_after f vs (Var at name e))) q.same (sure_added vs ws name (f.primitive (expr_at e)) (f.items (expr_at e)) at q.kind false h (plain name l.0) (λ r. sym fact ∙ r))
    after_sure (Assign at a b) vs ws after h t n l = subst (Sure vs) (assign_parts x ws at a b after t).same h
    after_sure (Run at e) vs ws after h t n l = subst (Sure vs) (run_parts x ws at e after t).same h
    after_sure (Print at e) vs ws after h t n l = subst (Sure vs) (print_parts x ws at e after t).same h
    after_sure (Throw at e) vs ws after h t n l = subst (Sure vs) (throw_parts x ws at e after t).same h
    after_sure (If at c a b) vs ws after h t n l = subst (Sure vs) (if_parts x ws at c a b after t).same h
    after_sure (While at c a) vs ws after h t n l = subst (Sure vs) (while_parts x ws at c a after t).same h
    after_sure (For at name e a) vs ws after h t n l = subst (Sure vs) (for_parts x ws at name e a after t).same h
    after_sure (Try at a name b) vs ws after h t n l = subst (Sure vs) (try_parts x ws at a name b after t).same h
    after_sure (Batch at interface root a) vs ws after h t n l = subst (Sure vs) (batch_parts x ws at interface root a after t).same h

    module _ (all : List Outermost) where
      abbrev Good : Site → Type 0
      Good b = IsSureBatch all b

      mutual
        stmt_sure : (s : Stmt) (vs : Scope) (ws after : typed.Scope) → Sure vs ws → check_stmt x ws s ≡ Ok after → IsNotedStmt (type_at p) x ws s → IsLawfulStmt s → Within (outermost f vs s) all
            → (b : Site) → Contains (sites x ws s) b → Good b
        stmt_sure (Val at name e) vs ws after h t n l w b c = nothing b c
        stmt_sure (Var at name e) vs ws after h t n l w b c = nothing b c
        stmt_sure (Assign at a a') vs ws after h t n l w b c = nothing b c
        stmt_sure (Run at e) vs ws after h t n l w b c = nothing b c
        stmt_sure (Print at e) vs ws after h t n l w b c = nothing b c
        stmt_sure (Throw at e) vs ws after h t n l w b c = nothing b c
        stmt_sure (If at c a a') vs ws after h t n l w b i =
            let q = if_parts x ws at c a a' after t in
            each_of Good (sites_in x ws a) (sites_in x ws a')
            (stmts_sure a vs ws q.first h q.first_typed n.1 (block_lawful a l.1) (within_left (outermost_in f vs a) (outermost_in f vs a') all w))
            (stmts_sure a' vs ws q.second h q.second_typed n.2 (block_lawful a' l.2) (within_right (outermost_in f vs a) (outermost_in f vs a') all w)) b i
        stmt_sure (While at c a) vs ws after h t n l w b i = let q = while_parts x ws at c a after t in stmts_sure a vs ws q.last h q.block_typed n.1 (block_lawful a l.1) w b i
        stmt_sure (For at name e a) vs ws after h t n l w b c =
            let q = for_parts x ws at name e a after t in
            let fact = items_fact p (expr_at e) q.list (kind_here (type_at p) x ws e q.list n.0 q.typed) in
            let inner = typed.with_variable ws name q.item true in
            let same : scope_or ws (placed x ws e >>= λ z. loop_scope ws at name z) ≡ inner = ap (scope_or ws) q.judged in
            stmts_sure a (with_variable vs name (outer_role (f.items (expr_at e)) (f.lists (expr_at e))) at) inner q.last
            (sure_added vs ws name (f.items (expr_at e)) (f.lists (expr_at e)) at q.item true h (plain name l.0) (λ r. item_primitive q.list q.item q.over (sym fact ∙ r)))
            q.block_typed (subst (λ i. AreNotedStmts (type_at p) x i a) same n.1) (block_lawful a l.2) w b (subst (λ i. Contains (sites_in x i a) b) same c)
        stmt_sure (Try at a name a') vs ws after h t n l w b' i' =
            let q = try_parts x ws at a name a' after t in
            let inner = typed.with_variable ws name kind.Text true in
            let same : scope_or ws (catch_scope ws at name) ≡ inner = ap (scope_or ws) q.judged in
            let tried = with_variable vs name (outer_role true false) at in
            each_of Good (sites_in x ws a) (sites_in x (scope_or ws (catch_scope ws at name)) a')
            (stmts_sure a vs ws q.first h q.first_typed n.0 (block_lawful a l.0) (within_left (outermost_in f vs a) (outermost_in f tried a') all w))
            (λ b c. stmts_sure a' tried inner q.second (sure_added vs ws name true false at kind.Text true h (plain name l.1) (λ r. refl)) q.second_typed (subst (λ i. AreNotedStmts (type_at p) x i a') same n.1) (block_lawful a' l.2)
            (within_right (outermost_in f vs a) (outermost_in f tried a') all w) b (subst (λ i. Contains (sites_in x i a') b) same c)) b' i'
        stmt_sure (Batch at interface root a) vs ws after h t n l w b i =
            let o : Outermost = record { at = at; outer = vs; root = root; block = a } in
            let site : Site = record { at = at; interface = interface; root = root; block = a; place = record { this = this; remote = remote; scope = ws } } in
            the_one Good site (record { begun = o; among = w o (first_contained o []); at = refl; sure = h }) b i

        stmts_sure : (ss : Stmts) (vs : Scope) (ws after : typed.Scope) → Sure vs ws → check_stmts x ws ss ≡ Ok after → AreNotedStmts (type_at p) x ws ss → AreLawfulStmts ss → Within (outermost_in f vs ss) all
            → (b : Site) → Contains (sites_in x ws ss) b → Good b
        stmts_sure NoStmts vs ws after h t n l w b c = nothing b c
        stmts_sure (MoreStmts s ss) vs ws after h t n l w b' i' =
            let q = stmts_parts x ws s ss after t in
            let same : scope_or ws (check_stmt x ws s) ≡ q.middle = ap (scope_or ws) q.typed in
            each_of Good (sites x ws s) (sites_in x (scope_or ws (check_stmt x ws s)) ss)
            (stmt_sure s vs ws q.middle h q.typed n.0 l.0 (within_left (outermost f vs s) (outermost_in f (outer_after f vs s) ss) all w))
            (λ b c. stmts_sure ss (outer_after f vs s) q.middle after (after_sure s vs ws q.middle h q.typed n.0 l.0) q.rest (subst (λ i. AreNotedStmts (type_at p) x i ss) same n.1) l.1
            (within_right (outermost f vs s) (outermost_in f (outer_after f vs s) ss) all w) b (subst (λ i. Contains (sites_in x i ss) b) same c)) b' i'

  -- ---- those of a whole program

  module _ (all : List Outermost) where
    methods_sure : (class : List ℕ) (ms : List Method) → check_method_bodies d class ms ≡ Ok tt → AllByRecursion (IsNotedMethod p class) ms → All IsLawfulMethod ms → Within (flat_map (method_batches f) ms) all
        → (b : Site) → Contains (flat_map (method_sites d class) ms) b → IsSureBatch all b
    methods_sure class [] t n l w b c = nothing b c
    methods_sure class (m ∷ ms) t n l w b c =
        let s = then_ok (check_method_body d class m) (check_method_bodies d class ms) tt t in
        let u = bind_ok (check_stmts (method_context d class m.remote) (typed.parameters m.signature.params) m.body.statements) _ tt s.0 in
        let lawful = All-head IsLawfulMethod m ms l in
        each_of (IsSureBatch all) (method_sites d class m) (flat_map (method_sites d class) ms)
        (stmts_sure (Some class) m.remote all m.body.statements (flow.parameters m.signature.params) (typed.parameters m.signature.params) u.0 (sure_parameters m.signature.params lawful.0.1) u.1 n.0
        (block_lawful m.body.statements lawful.1.0) (within_left (method_batches f m) (flat_map (method_batches f) ms) all w))
        (methods_sure class ms s.1 n.1 (All-tail IsLawfulMethod m ms l) (within_right (method_batches f m) (flat_map (method_batches f) ms) all w)) b c

    classes_sure : (cs : List Class) → check_class_bodies d cs ≡ Ok tt → AllByRecursion (IsNotedClass p) cs → All IsLawfulClass cs → Within (flat_map (class_batches f) cs) all
        → (b : Site) → Contains (flat_map (class_sites d) cs) b → IsSureBatch all b
    classes_sure [] t n l w b c = nothing b c
    classes_sure (c ∷ cs) t n l w b i =
        let s = then_ok (check_method_bodies d c.name c.methods) (check_class_bodies d cs) tt t in
        let lawful = All-head IsLawfulClass c cs l in
        each_of (IsSureBatch all) (class_sites d c) (flat_map (class_sites d) cs)
        (methods_sure c.name c.methods s.0 n.0 lawful.3 (within_left (class_batches f c) (flat_map (class_batches f) cs) all w))
        (classes_sure cs s.1 n.1 (All-tail IsLawfulClass c cs l) (within_right (class_batches f c) (flat_map (class_batches f) cs) all w)) b i

  pub batches_sure : IsLawful p → IsTypedProgram p → IsNotedProgram p → (b : Site) → Contains (program_sites p) b → IsSureBatch (program_batches f p) b
  batches_sure lawful t n =
      let all = program_batches f p in
      let u = bind_ok (check_stmts (main_context d) [] p.body.statements) _ tt t.body in
      each_of (IsSureBatch all) (flat_map (class_sites d) p.classes) (sites_in (main_context d) [] p.body.statements)
      (classes_sure all p.classes t.bodies n.classes lawful.classes (within_left (flat_map (class_batches f) p.classes) (outermost_in f [] p.body.statements) all (λ o is. is)))
      (stmts_sure None true all p.body.statements [] [] u.0 tt u.1 n.main (block_lawful p.body.statements lawful.body.0)
      (within_right (flat_map (class_batches f) p.classes) (outermost_in f [] p.body.statements) all (λ o is. is)))
