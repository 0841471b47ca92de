-- The walk through a batch gives the places of all its sites.
use Rattle.std.proofs.Common.{◌≡◌, ℕ, List, [], ◌∷◌, ◌++◌, map, Bool, true, false, ◌&&◌, refl, ap, ◌∙◌}
use Rattle.rb_trees.specs.declared.marks.Place.{Place}
use Rattle.rb_trees.specs.mirror.Code.{Stmt, Stmts, Val, Var, Assign, Run, Print, Throw, If, While, For, Try, Batch, NoStmts, MoreStmts, stmt_at}
use Rattle.rb_meaning_flow.specs.declared.scopes.Role.{Role}
use Rattle.rb_meaning_flow.specs.Facts.{Facts, over_rows}
use Rattle.rb_meaning_flow.specs.Scopes.{Scope, with_variable, scope_with}
use Rattle.rb_meaning_flow.specs.Portable.{branches_hold, has_far_turns}
use Rattle.rb_meaning_flow.specs.Sites.{Around, Branch, WhileTurn, Turn, InTry, InBatch, is_script_place, StmtSite, sites, block_sites, scope_after, turn_role}
use Rattle.rb_meaning_flow.specs.Marks.{place_at, places_of}
use Rattle.rb_marks.specs.Passes as passes
use Rattle.rb_marks.specs.Passes.{Placed, turn_script, place_noted, scope_then, stmt_placed, block_placed}
use Rattle.rb_marks.proofs.Agree.{bound, turn_bound, then_after}
use Rattle.rb_marks.proofs.Joined.{with_one, with_two, joined, none}

abbrev place_note : Facts → StmtSite → ℕ × Place
place_note x s = (stmt_at s.stmt, place_at x s)

-- the note of a statement is that of its site
place_told : (x : Facts) (script : Bool) (around : List Around) (scope : Scope) (notes : Placed) (s : Stmt) → script ≡ is_script_place x around
    → place_noted x script notes s ≡ notes ++ place_note x (record { around = around; scope = scope; stmt = s }) ∷ []
place_told x script around scope notes s h = ap (λ b. place_noted x b notes s) h

mutual
  stmt_places : (x : Facts) (assigned : List (List ℕ)) (script : Bool) (around : List Around) (scope : Scope) (notes : Placed) (s : Stmt) → script ≡ is_script_place x around
      → stmt_placed x assigned script scope notes s ≡ notes ++ map (place_note x) (sites x around (scope_with assigned scope) s)
  stmt_places x assigned script around scope notes (Val at name e) h = place_told x script around (scope_with assigned scope) notes (Val at name e) h
  stmt_places x assigned script around scope notes (Var at name e) h = place_told x script around (scope_with assigned scope) notes (Var at name e) h
  stmt_places x assigned script around scope notes (Assign at a b) h = place_told x script around (scope_with assigned scope) notes (Assign at a b) h
  stmt_places x assigned script around scope notes (Run at e) h = place_told x script around (scope_with assigned scope) notes (Run at e) h
  stmt_places x assigned script around scope notes (Print at e) h = place_told x script around (scope_with assigned scope) notes (Print at e) h
  stmt_places x assigned script around scope notes (Throw at e) h = place_told x script around (scope_with assigned scope) notes (Throw at e) h
  stmt_places x assigned script around scope notes (If at c a b) h =
      let seen : Scope = scope_with assigned scope in
      let in_block : List Around = Branch at seen c a b ∷ around in
      let branch : Bool = script && branches_hold x a b in
      let is = ap (λ t. t && branches_hold x a b) h in
      let as' = block_sites x in_block seen a in
      let bs = block_sites x in_block seen b in
      block_places x assigned branch in_block scope (block_placed x assigned branch scope (place_noted x script notes (If at c a b)) a) b is
      ∙ ap (λ ns. ns ++ map (place_note x) bs)
      (block_places x assigned branch in_block scope (place_noted x script notes (If at c a b)) a is
      ∙ ap (λ ns. ns ++ map (place_note x) as') (place_told x script around seen notes (If at c a b) h))
      ∙ with_two (place_note x) notes _ as' bs
  stmt_places x assigned script around scope notes (While at c a) h =
      let seen : Scope = scope_with assigned scope in
      let in_block : List Around = WhileTurn at seen c ∷ around in
      let as' = block_sites x in_block seen a in
      block_places x assigned false in_block scope (place_noted x script notes (While at c a)) a refl
      ∙ ap (λ ns. ns ++ map (place_note x) as') (place_told x script around seen notes (While at c a) h)
      ∙ with_one (place_note x) notes _ as'
  stmt_places x assigned script around scope notes (For at name e a) h =
      let seen : Scope = scope_with assigned scope in
      let in_block : List Around = Turn at seen e a ∷ around in
      let turn : Bool = turn_script x script seen e a in
      let as' = block_sites x in_block (with_variable seen name (turn_role x around seen e a) at) a in
      block_places x assigned turn in_block (with_variable scope name (passes.turn_role (over_rows x e) turn) at) (place_noted x script notes (For at name e a)) a (ap (λ t. t && has_far_turns x seen e a) h)
      ∙ ap (λ sc. place_noted x script notes (For at name e a) ++ map (place_note x) (block_sites x in_block sc a)) (turn_bound x assigned script around scope name e a at h)
      ∙ ap (λ ns. ns ++ map (place_note x) as') (place_told x script around seen notes (For at name e a) h)
      ∙ with_one (place_note x) notes _ as'
  stmt_places x assigned script around scope notes (Try at a name b) h =
      let seen : Scope = scope_with assigned scope in
      let in_block : List Around = InTry at seen a name b ∷ around in
      let as' = block_sites x in_block seen a in
      let bs = block_sites x in_block (with_variable seen name Role.Plain at) b in
      let tried : Placed = block_placed x assigned false scope (place_noted x script notes (Try at a name b)) a in
      block_places x assigned false in_block (with_variable scope name Role.Plain at) tried b refl
      ∙ ap (λ sc. tried ++ map (place_note x) (block_sites x in_block sc b)) (bound assigned scope name Role.Plain at refl)
      ∙ ap (λ ns. ns ++ map (place_note x) bs)
      (block_places x assigned false in_block scope (place_noted x script notes (Try at a name b)) a refl
      ∙ ap (λ ns. ns ++ map (place_note x) as') (place_told x script around seen notes (Try at a name b) h))
      ∙ with_two (place_note x) notes _ as' bs
  stmt_places x assigned script around scope notes (Batch at interface root a) h =
      let seen : Scope = scope_with assigned scope in
      let in_block : List Around = InBatch at ∷ around in
      let as' = block_sites x in_block (with_variable seen root Role.Plain at) a in
      block_places x assigned false in_block (with_variable scope root Role.Plain at) (place_noted x script notes (Batch at interface root a)) a refl
      ∙ ap (λ sc. place_noted x script notes (Batch at interface root a) ++ map (place_note x) (block_sites x in_block sc a)) (bound assigned scope root Role.Plain at refl)
      ∙ ap (λ ns. ns ++ map (place_note x) as') (place_told x script around seen notes (Batch at interface root a) h)
      ∙ with_one (place_note x) notes _ as'

  pub block_places : (x : Facts) (assigned : List (List ℕ)) (script : Bool) (around : List Around) (scope : Scope) (notes : Placed) (ss : Stmts) → script ≡ is_script_place x around
      → block_placed x assigned script scope notes ss ≡ notes ++ map (place_note x) (block_sites x around (scope_with assigned scope) ss)
  block_places x assigned script around scope notes NoStmts h = none (place_note x) notes
  block_places x assigned script around scope notes (MoreStmts s ss) h =
      let seen : Scope = scope_with assigned scope in
      let rest = block_sites x around (scope_after x around seen s) ss in
      block_places x assigned script around (scope_then x assigned script scope s) (stmt_placed x assigned script scope notes s) ss h
      ∙ ap (λ sc. stmt_placed x assigned script scope notes s ++ map (place_note x) (block_sites x around sc ss)) (then_after x assigned script around scope s h)
      ∙ ap (λ ns. ns ++ map (place_note x) rest) (stmt_places x assigned script around scope notes s h)
      ∙ joined (place_note x) notes (sites x around seen s) rest

pub batch_places : (x : Facts) (assigned : List (List ℕ)) (scope : Scope) (notes : Placed) (block : Stmts)
    → block_placed x assigned true scope notes block ≡ notes ++ places_of x (block_sites x [] (scope_with assigned scope) block)
batch_places x assigned scope notes block = block_places x assigned true [] scope notes block refl
