-- The walks through a program give the notes of all its outermost batches.
use Rattle.std.proofs.Common.{◌≡◌, List, [], ◌∷◌, ◌++◌, map, true, false, refl, sym, ap, ◌∙◌, append_assoc}
use Rattle.std.proofs.lemmas.List.{append-nil}
use Rattle.std.specs.List.{flat_map}
use Rattle.rb_trees.specs.mirror.Code.{expr_at, Stmt, Stmts, Val, Var, Assign, Run, Print, Throw, If, While, For, Try, Batch, NoStmts, MoreStmts}
use Rattle.rb_trees.specs.declared.declarations.Program as tree
use Rattle.rb_trees.specs.mirror.Declarations.{Method, Class, Program, mirror_program}
use Rattle.rb_meaning_flow.specs.declared.scopes.Role.{Role}
use Rattle.rb_meaning_flow.specs.Facts.{Facts, facts_of}
use Rattle.rb_meaning_flow.specs.Scopes.{Scope, with_variable, assigned_in}
use Rattle.rb_meaning_flow.specs.Sites.{StmtSite}
use Rattle.rb_meaning_flow.specs.Marks.{marks_of, places_of}
use Rattle.rb_meaning_flow.specs.Outermost.{Outermost, batch_sites, outer_role, outer_after, outermost, outermost_in, parameters, method_batches, class_batches, program_batches}
use Rattle.rb_meaning_flow.specs.Programs.{sites_of}
use Rattle.rb_marks.specs.Passes.{Marked, Placed, outer_marked, outer_block_marked, methods_marked, classes_marked, program_marked, outer_placed, outer_block_placed, methods_placed, classes_placed, program_placed}
use Rattle.rb_marks.proofs.Agree.{batch_agrees}
use Rattle.rb_marks.proofs.AgreePlaces.{batch_places}

-- what is noted of some batches
abbrev all_notes : {N : Type 0} → Facts → (List StmtSite → List N) → List Outermost → List N
all_notes x notes_of bs = flat_map notes_of (map (batch_sites x) bs)

notes_append : {N : Type 0} (x : Facts) (f : List StmtSite → List N) (bs cs : List Outermost) → all_notes x f (bs ++ cs) ≡ all_notes x f bs ++ all_notes x f cs
notes_append x f [] cs = refl
notes_append x f (b ∷ bs) cs = ap (λ ns. f (batch_sites x b) ++ ns) (notes_append x f bs cs) ∙ sym (append_assoc (f (batch_sites x b)) (all_notes x f bs) (all_notes x f cs))

-- the notes of further batches behind those of some
behind : {N : Type 0} (x : Facts) (f : List StmtSite → List N) (notes : List N) (bs cs : List Outermost)
    → (notes ++ all_notes x f bs) ++ all_notes x f cs ≡ notes ++ all_notes x f (bs ++ cs)
behind x f notes bs cs = append_assoc notes (all_notes x f bs) (all_notes x f cs) ∙ ap (λ ns. notes ++ ns) (sym (notes_append x f bs cs))

nothing : {N : Type 0} (notes : List N) → notes ≡ notes ++ []
nothing notes = sym (append-nil notes)

one_batch : {N : Type 0} (notes own : List N) → notes ++ own ≡ notes ++ (own ++ [])
one_batch notes own = ap (λ ns. notes ++ ns) (sym (append-nil own))

mutual
  marks_outer : (x : Facts) (scope : Scope) (notes : Marked) (s : Stmt) → outer_marked x scope notes s ≡ notes ++ all_notes x (marks_of x) (outermost x scope s)
  marks_outer x scope notes (Val at name e) = nothing notes
  marks_outer x scope notes (Var at name e) = nothing notes
  marks_outer x scope notes (Assign at a b) = nothing notes
  marks_outer x scope notes (Run at e) = nothing notes
  marks_outer x scope notes (Print at e) = nothing notes
  marks_outer x scope notes (Throw at e) = nothing notes
  marks_outer x scope notes (If at c a b) =
      marks_outer_block x scope (outer_block_marked x scope notes a) b
      ∙ ap (λ ns. ns ++ all_notes x (marks_of x) (outermost_in x scope b)) (marks_outer_block x scope notes a)
      ∙ behind x (marks_of x) notes (outermost_in x scope a) (outermost_in x scope b)
  marks_outer x scope notes (While at c a) = marks_outer_block x scope notes a
  marks_outer x scope notes (For at name e a) = marks_outer_block x (with_variable scope name (outer_role (x.items (expr_at e)) (x.lists (expr_at e))) at) notes a
  marks_outer x scope notes (Try at a name b) =
      let inner : Scope = with_variable scope name (outer_role true false) at in
      marks_outer_block x inner (outer_block_marked x scope notes a) b
      ∙ ap (λ ns. ns ++ all_notes x (marks_of x) (outermost_in x inner b)) (marks_outer_block x scope notes a)
      ∙ behind x (marks_of x) notes (outermost_in x scope a) (outermost_in x inner b)
  marks_outer x scope notes (Batch at interface root a) = batch_agrees x (assigned_in a) (with_variable scope root Role.Root at) notes a ∙ one_batch notes _

  marks_outer_block : (x : Facts) (scope : Scope) (notes : Marked) (ss : Stmts) → outer_block_marked x scope notes ss ≡ notes ++ all_notes x (marks_of x) (outermost_in x scope ss)
  marks_outer_block x scope notes NoStmts = nothing notes
  marks_outer_block x scope notes (MoreStmts s ss) =
      marks_outer_block x (outer_after x scope s) (outer_marked x scope notes s) ss
      ∙ ap (λ ns. ns ++ all_notes x (marks_of x) (outermost_in x (outer_after x scope s) ss)) (marks_outer x scope notes s)
      ∙ behind x (marks_of x) notes (outermost x scope s) (outermost_in x (outer_after x scope s) ss)

mutual
  places_outer : (x : Facts) (scope : Scope) (notes : Placed) (s : Stmt) → outer_placed x scope notes s ≡ notes ++ all_notes x (places_of x) (outermost x scope s)
  places_outer x scope notes (Val at name e) = nothing notes
  places_outer x scope notes (Var at name e) = nothing notes
  places_outer x scope notes (Assign at a b) = nothing notes
  places_outer x scope notes (Run at e) = nothing notes
  places_outer x scope notes (Print at e) = nothing notes
  places_outer x scope notes (Throw at e) = nothing notes
  places_outer x scope notes (If at c a b) =
      places_outer_block x scope (outer_block_placed x scope notes a) b
      ∙ ap (λ ns. ns ++ all_notes x (places_of x) (outermost_in x scope b)) (places_outer_block x scope notes a)
      ∙ behind x (places_of x) notes (outermost_in x scope a) (outermost_in x scope b)
  places_outer x scope notes (While at c a) = places_outer_block x scope notes a
  places_outer x scope notes (For at name e a) = places_outer_block x (with_variable scope name (outer_role (x.items (expr_at e)) (x.lists (expr_at e))) at) notes a
  places_outer x scope notes (Try at a name b) =
      let inner : Scope = with_variable scope name (outer_role true false) at in
      places_outer_block x inner (outer_block_placed x scope notes a) b
      ∙ ap (λ ns. ns ++ all_notes x (places_of x) (outermost_in x inner b)) (places_outer_block x scope notes a)
      ∙ behind x (places_of x) notes (outermost_in x scope a) (outermost_in x inner b)
  places_outer x scope notes (Batch at interface root a) = batch_places x (assigned_in a) (with_variable scope root Role.Root at) notes a ∙ one_batch notes _

  places_outer_block : (x : Facts) (scope : Scope) (notes : Placed) (ss : Stmts) → outer_block_placed x scope notes ss ≡ notes ++ all_notes x (places_of x) (outermost_in x scope ss)
  places_outer_block x scope notes NoStmts = nothing notes
  places_outer_block x scope notes (MoreStmts s ss) =
      places_outer_block x (outer_after x scope s) (outer_placed x scope notes s) ss
      ∙ ap (λ ns. ns ++ all_notes x (places_of x) (outermost_in x (outer_after x scope s) ss)) (places_outer x scope notes s)
      ∙ behind x (places_of x) notes (outermost x scope s) (outermost_in x (outer_after x scope s) ss)

marks_methods : (x : Facts) (notes : Marked) (ms : List Method) → methods_marked x notes ms ≡ notes ++ all_notes x (marks_of x) (flat_map (method_batches x) ms)
marks_methods x notes [] = nothing notes
marks_methods x notes (m ∷ ms) =
    marks_methods x (outer_block_marked x (parameters m.signature.params) notes m.body.statements) ms
    ∙ ap (λ ns. ns ++ all_notes x (marks_of x) (flat_map (method_batches x) ms)) (marks_outer_block x (parameters m.signature.params) notes m.body.statements)
    ∙ behind x (marks_of x) notes (method_batches x m) (flat_map (method_batches x) ms)

marks_classes : (x : Facts) (notes : Marked) (cs : List Class) → classes_marked x notes cs ≡ notes ++ all_notes x (marks_of x) (flat_map (class_batches x) cs)
marks_classes x notes [] = nothing notes
marks_classes x notes (c ∷ cs) =
    marks_classes x (methods_marked x notes c.methods) cs
    ∙ ap (λ ns. ns ++ all_notes x (marks_of x) (flat_map (class_batches x) cs)) (marks_methods x notes c.methods)
    ∙ behind x (marks_of x) notes (class_batches x c) (flat_map (class_batches x) cs)

marks_agree : (x : Facts) (p : Program) → program_marked x p ≡ all_notes x (marks_of x) (program_batches x p)
marks_agree x p =
    marks_outer_block x [] (classes_marked x [] p.classes) p.body.statements
    ∙ ap (λ ns. ns ++ all_notes x (marks_of x) (outermost_in x [] p.body.statements)) (marks_classes x [] p.classes)
    ∙ behind x (marks_of x) [] (flat_map (class_batches x) p.classes) (outermost_in x [] p.body.statements)

places_methods : (x : Facts) (notes : Placed) (ms : List Method) → methods_placed x notes ms ≡ notes ++ all_notes x (places_of x) (flat_map (method_batches x) ms)
places_methods x notes [] = nothing notes
places_methods x notes (m ∷ ms) =
    places_methods x (outer_block_placed x (parameters m.signature.params) notes m.body.statements) ms
    ∙ ap (λ ns. ns ++ all_notes x (places_of x) (flat_map (method_batches x) ms)) (places_outer_block x (parameters m.signature.params) notes m.body.statements)
    ∙ behind x (places_of x) notes (method_batches x m) (flat_map (method_batches x) ms)

places_classes : (x : Facts) (notes : Placed) (cs : List Class) → classes_placed x notes cs ≡ notes ++ all_notes x (places_of x) (flat_map (class_batches x) cs)
places_classes x notes [] = nothing notes
places_classes x notes (c ∷ cs) =
    places_classes x (methods_placed x notes c.methods) cs
    ∙ ap (λ ns. ns ++ all_notes x (places_of x) (flat_map (class_batches x) cs)) (places_methods x notes c.methods)
    ∙ behind x (places_of x) notes (class_batches x c) (flat_map (class_batches x) cs)

places_agree : (x : Facts) (p : Program) → program_placed x p ≡ all_notes x (places_of x) (program_batches x p)
places_agree x p =
    places_outer_block x [] (classes_placed x [] p.classes) p.body.statements
    ∙ ap (λ ns. ns ++ all_notes x (places_of x) (outermost_in x [] p.body.statements)) (places_classes x [] p.classes)
    ∙ behind x (places_of x) [] (flat_map (class_batches x) p.classes) (outermost_in x [] p.body.statements)

-- the same where the facts and the program are those of one tree
pub marks_given : (f p t : tree.Program) → f ≡ t → p ≡ t
    → program_marked (facts_of (mirror_program f)) (mirror_program p) ≡ flat_map (marks_of (facts_of (mirror_program t))) (sites_of (mirror_program t))
marks_given f p t e g = ap (λ q. program_marked (facts_of (mirror_program q)) (mirror_program p)) e
    ∙ ap (λ q. program_marked (facts_of (mirror_program t)) (mirror_program q)) g ∙ marks_agree (facts_of (mirror_program t)) (mirror_program t)

-- the same where the facts and the program are those of one tree
pub places_given : (f p t : tree.Program) → f ≡ t → p ≡ t
    → program_placed (facts_of (mirror_program f)) (mirror_program p) ≡ flat_map (places_of (facts_of (mirror_program t))) (sites_of (mirror_program t))
places_given f p t e g = ap (λ q. program_placed (facts_of (mirror_program q)) (mirror_program p)) e
    ∙ ap (λ q. program_placed (facts_of (mirror_program t)) (mirror_program q)) g ∙ places_agree (facts_of (mirror_program t)) (mirror_program t)
