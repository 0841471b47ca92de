-- The steps of whole bodies, programs and services.
use Rattle.std.proofs.Common.{◌≡◌, ℕ, List, [], ◌∷◌, Option, Some, None, Ok, Err, refl, ap, sym, ◌∙◌}
use Rattle.rb_trees.specs.mirror.Types.{TypeTree}
use Rattle.rb_trees.specs.mirror.Code.{Expr}
use Rattle.rb_trees.specs.mirror.Declarations.{Body, Method, Class, Program}
use Rattle.rb_trees.specs.Outcome.{◌>>=◌, ◌>>◌}
use Rattle.rb_meaning_types.specs.Kinds.{Kind, kind_of}
use Rattle.rb_meaning_types.specs.Violations.{Checked, Placed}
use Rattle.rb_meaning_types.specs.Scopes.{Scope, parameters}
use Rattle.rb_meaning_types.specs.Declared.{Declarations, Context, of_program, of_service, method_context, main_context}
use Rattle.rb_meaning_types.specs.Places.{main_type}
use Rattle.rb_meaning_types.specs.Declarations.{check_declarations}
use Rattle.rb_meaning_types.specs.Statements.{placed, check_stmts}
use Rattle.rb_meaning_types.specs.Bodies.{return_fits, check_return, check_body, check_method_body, check_method_bodies, check_class_bodies}
use Rattle.rb_meaning_types.specs.Programs.{check_main, check_program, check_service}
use Rattle.rb_meaning_types.specs.Notes.{Note, noted, scope_or, return_noted, stmts_noted, body_noted, method_noted, methods_noted, classes_noted, main_noted, program_notes}
use Rattle.rb_types.specs.Steps.{State, with_notes, with_state, behind, expr, stmts, returned, body, method, methods, classes, main, declared, program}

-- the notes behind a state
abbrev pub notes_left : State → Checked (List Note)
notes_left s = Ok s.notes

left : (ns : List Note) (s : State) (r : Checked (Unit {0})) → s.notes ≡ ns → behind ns r ≡ (behind s r >>= notes_left)
left ns s (Ok u) is = ap Ok (sym is)
left ns s (Err v) is = refl

asked : (ns : List Note) (s : State) (r : Checked Placed) (f : Placed → Checked (Unit {0})) → s.notes ≡ ns → behind ns (r >>= f) ≡ (with_state s r >>= λ p. behind p.1 (f p.0) >>= notes_left)
asked ns s (Ok p) f is = left ns s (f p) is
asked ns s (Err v) f is = refl

reassoc : {A : Type 0} (r : Checked (A × State)) (f : A × State → Checked State) → (r >>= f >>= notes_left) ≡ (r >>= λ p. f p >>= notes_left)
reassoc (Ok p) f = refl
reassoc (Err v) f = refl

returned_is : (x : Context) (at : ℕ) (kind : Kind) (e : Option Expr) (s : State)
    → behind (return_noted x s.scope s.notes e) (check_return x s.scope at kind e) ≡ (returned x at kind e s >>= notes_left)
unfolding expr returned
returned_is x at kind (Some e) s =
    asked (noted x s.scope s.notes e) (record s { notes = noted x s.scope s.notes e }) (placed x s.scope e) (λ p. return_fits kind p) refl
    ∙ sym (reassoc (expr x e s) (λ p. behind p.1 (return_fits kind p.0)))
returned_is x at kind None s = left s.notes s _ refl

body_from : (x : Context) (at : ℕ) (kind : Kind) (e : Option Expr) (scope : Scope) (n : List Note) (r : Checked Scope)
    → behind (return_noted x (scope_or scope r) n e) (r >>= λ last. check_return x last at kind e) ≡ (with_notes n r >>= λ t. returned x at kind e t >>= notes_left)
body_from x at kind e scope n (Ok last) = returned_is x at kind e (record { scope = last; notes = n })
body_from x at kind e scope n (Err v) = refl

regroup : (r : Checked State) (f : State → Checked State) → (r >>= f >>= notes_left) ≡ (r >>= λ p. f p >>= notes_left)
regroup (Ok p) f = refl
regroup (Err v) f = refl

pub body_is : (x : Context) (at : ℕ) (kind : TypeTree) (b : Body) (s : State) → behind (body_noted x s.scope s.notes b) (check_body x s.scope at kind b) ≡ (body x at kind b s >>= notes_left)
unfolding stmts body
body_is x at kind b s =
    body_from x at (kind_of kind) b.result s.scope (stmts_noted x s.scope s.notes b.statements) (check_stmts x s.scope b.statements)
    ∙ sym (regroup (stmts x b.statements s) (λ t. returned x at (kind_of kind) b.result t))

pub method_is : (d : Declarations) (class : List ℕ) (m : Method) (ns : List Note)
    → method d class m ns ≡ (body (method_context d class m.remote) m.signature.at m.signature.result m.body (record { scope = parameters m.signature.params; notes = ns }) >>= λ t. Ok t.notes)
unfolding method
method_is d class m ns = body_is (method_context d class m.remote) m.signature.at m.signature.result m.body (record { scope = parameters m.signature.params; notes = ns })

pub methods_none : (d : Declarations) (class : List ℕ) (ns : List Note) → methods d class [] ns ≡ Ok ns
unfolding methods
methods_none d class ns = refl

pub classes_none : (d : Declarations) (ns : List Note) → classes d [] ns ≡ Ok ns
unfolding classes
classes_none d ns = refl

one_then : (n m : List Note) (r q : Checked (Unit {0})) (next : List Note → Checked (List Note)) → next n ≡ behind m q → behind m (r >> q) ≡ (behind n r >>= next)
one_then n m (Ok u) q next is = sym is
one_then n m (Err v) q next is = refl

pub methods_more : (d : Declarations) (class : List ℕ) (m : Method) (ms : List Method) (ns : List Note)
    → methods d class (m ∷ ms) ns ≡ (method d class m ns >>= λ n. methods d class ms n)
unfolding method methods
methods_more d class m ms ns = one_then (method_noted d class ns m) (methods_noted d class (method_noted d class ns m) ms)
    (check_method_body d class m) (check_method_bodies d class ms) (methods d class ms) refl

pub classes_more : (d : Declarations) (c : Class) (cs : List Class) (ns : List Note) → classes d (c ∷ cs) ns ≡ (methods d c.name c.methods ns >>= λ n. classes d cs n)
unfolding methods classes
classes_more d c cs ns = one_then (methods_noted d c.name ns c.methods) (classes_noted d (methods_noted d c.name ns c.methods) cs)
    (check_method_bodies d c.name c.methods) (check_class_bodies d cs) (classes d cs) refl

tested_first : (n : List Note) (r q : Checked (Unit {0})) (last : Checked (List Note)) → behind n q ≡ last → behind n (r >> q) ≡ (r >> last)
tested_first n (Ok u) q last is = is
tested_first n (Err v) q last is = refl

pub main_is : (p : Program) (ns : List Note)
    → main p ns ≡ (main_type (of_program p) p.at p.result >> (body (main_context (of_program p)) p.at p.result p.body (record { scope = []; notes = ns }) >>= λ t. Ok t.notes))
unfolding main
main_is p ns = tested_first (main_noted ns p) (main_type (of_program p) p.at p.result) (check_body (main_context (of_program p)) [] p.at p.result p.body) _
    (body_is (main_context (of_program p)) p.at p.result p.body (record { scope = []; notes = ns }))

three : (n m : List Note) (a b c : Checked (Unit {0})) (next : List Note → Checked (List Note)) → next n ≡ behind m c → behind m (a >> b >> c) ≡ (a >> behind n b >>= next)
three n m (Ok u) b c next is = one_then n m b c next is
three n m (Err v) b c next is = refl

pub program_is : (p : Program) → program p ≡ (declared (of_program p) >>= λ ns. main p ns)
unfolding program classes main
program_is p = three (classes_noted (of_program p) [] p.classes) (program_notes p) (check_declarations (of_program p)) (check_class_bodies (of_program p) p.classes) (check_main p) (main p) refl

served : (n : List Note) (a b : Checked (Unit {0})) → (a >> b) ≡ (a >> behind n b >>= λ ns. Ok tt)
served n (Ok u) (Ok w) = refl
served n (Ok u) (Err v) = refl
served n (Err v) b = refl

pub service_is : (cs : List Class) → check_service cs ≡ (declared (of_service cs) >>= λ ns. Ok tt)
unfolding classes
service_is cs = served (classes_noted (of_service cs) [] cs) (check_declarations (of_service cs)) (check_class_bodies (of_service cs) cs)

judged : (n : List Note) (r : Checked (Unit {0})) → r ≡ (behind n r >>= λ ns. Ok tt)
judged n (Ok u) = refl
judged n (Err v) = refl

-- a program is typed exactly where its check gives notes
pub program_judged : (p : Program) → check_program p ≡ (program p >>= λ ns. Ok tt)
unfolding program
program_judged p = judged (program_notes p) (check_program p)

same_notes : (n ns : List Note) (r : Checked (Unit {0})) → behind n r ≡ Ok ns → ns ≡ n
same_notes n ns (Ok u) is = cc
same_notes n ns (Err v) is = absurd (cc)

-- and the notes are those of the program
pub program_noted : (p : Program) (ns : List Note) → program p ≡ Ok ns → ns ≡ program_notes p
unfolding program
program_noted p ns is = same_notes (program_notes p) ns (check_program p) is

pub ruleset body_steps = (method_is, methods_none, methods_more, classes_none, classes_more, main_is, program_is)
