-- Each batch of a program as admission knows it: with its scope there, and with what is noted and lawful of it.
use Rattle.std.proofs.Common.{◌≡◌, ◌⊎◌, inl, inr, refl, sym, ap, subst, ℕ, List, [], ◌∷◌, ◌++◌, Bool as Truth, true, false, Option, Some, Ok}
use Rattle.std.specs.List.{Contains}
use Rattle.std.proofs.lemmas.List.Elements.{Contains-append_cases}
use Rattle.rb_trees.specs.Outcome.{◌>>=◌}
use Rattle.rb_trees.specs.mirror.Code.{Expr, Stmt, Stmts, Val, Var, Assign, Run, Print, Throw, If, While, For, Try, Batch, NoStmts, MoreStmts, expr_at}
use Rattle.rb_trees.specs.mirror.Declarations.{Program, Interface}
use Rattle.rb_meaning_types.specs.Kinds as kind
use Rattle.rb_meaning_types.specs.Kinds.{Kind, is_primitive}
use Rattle.rb_meaning_types.specs.Declared.{Context, of_program}
use Rattle.rb_meaning_types.specs.Scopes as typed
use Rattle.rb_meaning_types.specs.Statements.{placed, loop_scope, catch_scope, check_stmt, check_stmts}
use Rattle.rb_meaning_types.specs.Notes.{scope_or, type_at}
use Rattle.rb_meaning_types.specs.Lawful.{IsLawfulStmt, AreLawfulStmts, IsLawfulBlock}
use Rattle.rb_meaning_flow.specs.Facts.{Facts, facts_of, has_primitive_items}
use Rattle.rb_meaning_flow.specs.Scopes.{Scope, with_variable}
use Rattle.rb_meaning_flow.specs.Outermost.{Outermost, outer_role, outer_after, outermost, outermost_in}
use Rattle.rb_flow.proofs.Members.{first_contained, contained_cases, none_contained}
use Rattle.rb_law_types.specs.Noted.{IsNotedStmt, AreNotedStmts}
use Rattle.rb_law_types.specs.Ends.{context}
use Rattle.rb_law_types.specs.Asked.{Site}
use Rattle.rb_law_types.specs.Batches.{sites, sites_in}
use Rattle.rb_law_types.proofs.Parts.{val_parts, var_parts, assign_parts, run_parts, print_parts, throw_parts, if_parts, while_parts, for_parts, try_parts, batch_parts, stmts_parts}
use Rattle.rb_law_types.proofs.TypeFacts.{kind_here, primitive_fact, items_fact}
use Rattle.rb_law_types.proofs.SitesWithin.{Within, within_left, within_right}
use Rattle.rb_law_unsplit.proofs.Agreed.{IsReadKind, Agree, agree_added, outer_far, item_far, lists_fact}

pub block_lawful : (ss : Stmts) → IsLawfulBlock ss → AreLawfulStmts ss
block_lawful NoStmts h = tt
block_lawful (MoreStmts s ss) h = (h.0, h.1)

-- a batch among those of admission, and what is known of it
pub record IsBatchOf (p : Program) (all : List Outermost) (b : Site) : Type 0 where
  pub begun : Outermost
  pub among : Contains all begun
  pub at : begun.at ≡ b.at
  pub root : begun.root ≡ b.root
  pub block : begun.block ≡ b.block
  pub agree : Agree p.interfaces begun.outer b.place.scope
  pub noted : IsNotedStmt (type_at p) (context (of_program p) b.place) b.place.scope (Batch b.at b.interface b.root b.block)
  pub lawful : IsLawfulStmt (Batch b.at b.interface b.root b.block)

pub nothing : {A : Type 0} {B : Type 0} (b : A) → Contains [] b → B
nothing b is = absurd (none_contained b is)

-- a fact of each of one list and of another
pub each_of : {A : Type 0} (P : A → Type 0) (xs ys : List A) → ((b : A) → Contains xs b → P b) → ((b : A) → Contains ys b → P b) → (b : A) → Contains (xs ++ ys) b → P b
each_of P xs ys f g b is = by (Contains-append_cases xs ys b is)
  where
    by : Contains xs b ⊎ Contains ys b → P b
    by (inl h) = f b h
    by (inr h) = g b h

pub the_one : {A : Type 0} (P : A → Type 0) (b : A) → P b → (c : A) → Contains (b ∷ []) c → P c
the_one P b h c is = by (contained_cases b [] c is)
  where
    by : (b ≡ c) ⊎ Contains [] c → P c
    by (inl e) = subst P e h
    by (inr m) = absurd (none_contained c m)

module _ (p : Program) (this : Option (List ℕ)) (remote : Truth) where
  abbrev x : Context
  x = record { declared = of_program p; this = this; remote = remote }

  abbrev f : Facts
  f = facts_of p

  abbrev is : List Interface
  is = p.interfaces

  -- what is bound outside of batches, by a val and by a loop
  bound_read : (e : Expr) (k : Kind) → type_at p (expr_at e) ≡ Some (Ok k) → IsReadKind is (outer_role (f.primitive (expr_at e)) (f.items (expr_at e))) k
  bound_read e k noted =
      subst (λ t. IsReadKind is (outer_role t (f.items (expr_at e))) k) (sym (primitive_fact p (expr_at e) k noted))
      (subst (λ t. IsReadKind is (outer_role (is_primitive k) t) k) (sym (items_fact p (expr_at e) k noted)) (outer_far is k))

  item_read : (e : Expr) (k item : Kind) → (k ≡ kind.ListOf item) ⊎ (k ≡ kind.RowsOf item) → type_at p (expr_at e) ≡ Some (Ok k) → IsReadKind is (outer_role (f.items (expr_at e)) (f.lists (expr_at e))) item
  item_read e k item over noted =
      subst (λ t. IsReadKind is (outer_role t (f.lists (expr_at e))) item) (sym (items_fact p (expr_at e) k noted))
      (subst (λ t. IsReadKind is (outer_role (has_primitive_items k) t) item) (sym (lists_fact p (expr_at e) k noted)) (item_far is k item over))

  -- the scopes after a statement still agree
  after_agree : (s : Stmt) (vs : Scope) (ws after : typed.Scope) → Agree is vs ws → check_stmt x ws s ≡ Ok after → IsNotedStmt (type_at p) x ws s → Agree is (outer_after f vs s) after
  after_agree (Val at name e) vs ws after h t n =
      let d = val_parts x ws at name e after t in
      subst (Agree is (outer_after f vs (Val at name e))) d.same (agree_added is vs ws name (outer_role (f.primitive (expr_at e)) (f.items (expr_at e))) at d.kind true h (bound_read e d.kind (kind_here (type_at p) x ws e d.kind n d.typed)))
  after_agree (Var at name e) vs ws after h t n =
      let d = var_parts x ws at name e after t in
      subst (Agree is (outer_after f vs (Var at name e))) d.same (agree_added is vs ws name (outer_role (f.primitive (expr_at e)) (f.items (expr_at e))) at d.kind false h (bound_read e d.kind (kind_here (type_at p) x ws e d.kind n d.typed)))
  after_agree (Assign at a b) vs ws after h t n = subst (Agree is vs) (assign_parts x ws at a b after t).same h
  after_agree (Run at e) vs ws after h t n = subst (Agree is vs) (run_parts x ws at e after t).same h
  after_agree (Print at e) vs ws after h t n = subst (Agree is vs) (print_parts x ws at e after t).same h
  after_agree (Throw at e) vs ws after h t n = subst (Agree is vs) (throw_parts x ws at e after t).same h
  after_agree (If at c a b) vs ws after h t n = subst (Agree is vs) (if_parts x ws at c a b after t).same h
  after_agree (While at c a) vs ws after h t n = subst (Agree is vs) (while_parts x ws at c a after t).same h
  after_agree (For at name e a) vs ws after h t n = subst (Agree is vs) (for_parts x ws at name e a after t).same h
  after_agree (Try at a name b) vs ws after h t n = subst (Agree is vs) (try_parts x ws at a name b after t).same h
  after_agree (Batch at interface root a) vs ws after h t n = subst (Agree is vs) (batch_parts x ws at interface root a after t).same h

  module _ (all : List Outermost) where
    mutual
      stmt_in : (s : Stmt) (vs : Scope) (ws after : typed.Scope) → Agree is vs ws → check_stmt x ws s ≡ Ok after → IsNotedStmt (type_at p) x ws s → IsLawfulStmt s → Within (outermost f vs s) all
          → (b : Site) → Contains (sites x ws s) b → IsBatchOf p all b
      stmt_in (Val at name e) vs ws after h t n l w b c = nothing b c
      stmt_in (Var at name e) vs ws after h t n l w b c = nothing b c
      stmt_in (Assign at a a') vs ws after h t n l w b c = nothing b c
      stmt_in (Run at e) vs ws after h t n l w b c = nothing b c
      stmt_in (Print at e) vs ws after h t n l w b c = nothing b c
      stmt_in (Throw at e) vs ws after h t n l w b c = nothing b c
      stmt_in (If at c a a') vs ws after h t n l w b i =
          let d = if_parts x ws at c a a' after t in
          each_of (IsBatchOf p all) (sites_in x ws a) (sites_in x ws a')
          (stmts_in a vs ws d.first h d.first_typed n.1 (block_lawful a l.1) (within_left (outermost_in f vs a) (outermost_in f vs a') all w))
          (stmts_in a' vs ws d.second h d.second_typed n.2 (block_lawful a' l.2) (within_right (outermost_in f vs a) (outermost_in f vs a') all w)) b i
      stmt_in (While at c a) vs ws after h t n l w b i =
          let d = while_parts x ws at c a after t in
          stmts_in a vs ws d.last h d.block_typed n.1 (block_lawful a l.1) w b i
      stmt_in (For at name e a) vs ws after h t n l w b c =
          let d = for_parts x ws at name e a after t in
          let inner = typed.with_variable ws name d.item true in
          let same : scope_or ws (placed x ws e >>= λ q. loop_scope ws at name q) ≡ inner = ap (scope_or ws) d.judged in
          let role = outer_role (f.items (expr_at e)) (f.lists (expr_at e)) in
          stmts_in a (with_variable vs name role at) inner d.last
          (agree_added is vs ws name role at d.item true h (item_read e d.list d.item d.over (kind_here (type_at p) x ws e d.list n.0 d.typed)))
          d.block_typed (subst (λ i. AreNotedStmts (type_at p) x i a) same n.1) (block_lawful a l.2) w b (subst (λ i. Contains (sites_in x i a) b) same c)
      stmt_in (Try at a name a') vs ws after h t n l w b' i' =
          let d = try_parts x ws at a name a' after t in
          let inner = typed.with_variable ws name kind.Text true in
          let same : scope_or ws (catch_scope ws at name) ≡ inner = ap (scope_or ws) d.judged in
          let tried = with_variable vs name (outer_role true false) at in
          each_of (IsBatchOf p all) (sites_in x ws a) (sites_in x (scope_or ws (catch_scope ws at name)) a')
          (stmts_in a vs ws d.first h d.first_typed n.0 (block_lawful a l.0) (within_left (outermost_in f vs a) (outermost_in f tried a') all w))
          (λ b c. stmts_in a' tried inner d.second
          (agree_added is vs ws name (outer_role true false) at kind.Text true h (λ r. tt, λ r. absurd (cc (r)))) d.second_typed (subst (λ i. AreNotedStmts (type_at p) x i a') same n.1) (block_lawful a' l.2)
          (within_right (outermost_in f vs a) (outermost_in f tried a') all w) b (subst (λ i. Contains (sites_in x i a') b) same c)) b' i'
      stmt_in (Batch at interface root a) vs ws after h t n l w b i =
          let o : Outermost = record { at = at; outer = vs; root = root; block = a } in
          let site : Site = record { at = at; interface = interface; root = root; block = a; place = record { this = this; remote = remote; scope = ws } } in
          the_one (IsBatchOf p all) site (record { begun = o; among = w o (first_contained o []); at = refl; root = refl; block = refl; agree = h; noted = n; lawful = l }) b i

      pub stmts_in : (ss : Stmts) (vs : Scope) (ws after : typed.Scope) → Agree is vs ws → check_stmts x ws ss ≡ Ok after → AreNotedStmts (type_at p) x ws ss → AreLawfulStmts ss → Within (outermost_in f vs ss) all
          → (b : Site) → Contains (sites_in x ws ss) b → IsBatchOf p all b
      stmts_in NoStmts vs ws after h t n l w b c = nothing b c
      stmts_in (MoreStmts s ss) vs ws after h t n l w b' i' =
          let d = stmts_parts x ws s ss after t in
          let same : scope_or ws (check_stmt x ws s) ≡ d.middle = ap (scope_or ws) d.typed in
          each_of (IsBatchOf p all) (sites x ws s) (sites_in x (scope_or ws (check_stmt x ws s)) ss)
          (stmt_in s vs ws d.middle h d.typed n.0 l.0 (within_left (outermost f vs s) (outermost_in f (outer_after f vs s) ss) all w))
          (λ b c. stmts_in ss (outer_after f vs s) d.middle after (after_agree s vs ws d.middle h d.typed n.0) d.rest (subst (λ i. AreNotedStmts (type_at p) x i ss) same n.1) l.1
          (within_right (outermost f vs s) (outermost_in f (outer_after f vs s) ss) all w) b (subst (λ i. Contains (sites_in x i ss) b) same c)) b' i'
