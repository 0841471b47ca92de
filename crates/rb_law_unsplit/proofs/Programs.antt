-- All batches of a typed, lawful program.
use Rattle.std.proofs.Common.{◌≡◌, refl, sym, ap, ◌∙◌, subst, ℕ, List, [], ◌∷◌, ◌++◌, Bool as Truth, true, false, cond, Some, None, All, Ok}
use Rattle.std.specs.Str.{bytes_eq}
use Rattle.std.specs.List.{AllByRecursion, Contains, flat_map}
use Rattle.std.proofs.lemmas.List.Elements.{All-head, All-tail, Contains-append_left, Contains-append_right}
use Rattle.std.proofs.lemmas.Slice.Eq.{bytes_eq-Decides}
use Rattle.rb_trees.specs.Named.{first_named}
use Rattle.rb_trees.specs.Outcome.{◌>>◌}
use Rattle.rb_trees.specs.mirror.Declarations.{Method, Class, Program}
use Rattle.rb_meaning_types.specs.Declared.{Declarations, of_program, method_context, main_context}
use Rattle.rb_meaning_types.specs.Scopes.{parameters}
use Rattle.rb_meaning_types.specs.Statements.{check_stmts}
use Rattle.rb_meaning_types.specs.Bodies.{check_body, check_method_body, check_method_bodies, check_class_bodies}
use Rattle.rb_meaning_types.specs.Places.{main_type}
use Rattle.rb_meaning_types.specs.Declarations.{check_declarations}
use Rattle.rb_meaning_types.specs.Programs.{check_main, check_program}
use Rattle.rb_meaning_types.specs.Lawful.{IsLawful, IsLawfulMethod, IsLawfulClass}
use Rattle.rb_meaning_flow.specs.Facts.{Facts, facts_of}
use Rattle.rb_meaning_flow.specs.Outermost as flow
use Rattle.rb_meaning_flow.specs.Outermost.{Outermost, outermost_in, method_batches, class_batches, program_batches}
use Rattle.rb_law_types.specs.Asked.{Site}
use Rattle.rb_law_types.specs.Batches.{sites_in, MethodsAsk}
use Rattle.rb_law_types.proofs.Checks.{bind_ok, then_ok}
use Rattle.rb_law_types.proofs.SitesWithin.{Within, within_left, within_right}
use Rattle.rb_law_unsplit.specs.Noted.{IsNotedMethod, IsNotedClass, IsNotedProgram}
use Rattle.rb_law_unsplit.specs.Batches.{method_sites, class_sites, program_sites}
use Rattle.rb_law_unsplit.proofs.Agreed.{agree_parameters}
use Rattle.rb_law_unsplit.proofs.Standing.{block_lawful, IsBatchOf, nothing, each_of, stmts_in}

named_within : {A B : Type 0} (name_of : A → List ℕ) (f : A → List B) (xs : List A) (n : List ℕ) (y : A) → first_named name_of xs n ≡ Some y → Within (f y) (flat_map f xs)
named_within name_of f [] n y h = absurd (cc (h))
named_within name_of f (x ∷ xs) n y h = by (bytes_eq (name_of x) n) h (named_within name_of f xs n y)
  where
    by : (t : Truth) → cond t (Some x) (first_named name_of xs n) ≡ Some y → (first_named name_of xs n ≡ Some y → Within (f y) (flat_map f xs)) → Within (f y) (f x ++ flat_map f xs)
    by true e rest = let same : x ≡ y = cc (e) in λ o is. Contains-append_left (f x) (flat_map f xs) o (subst (λ z. Contains (f z) o) (sym same) is)
    by false e rest = λ o is. Contains-append_right (f x) (flat_map f xs) o (rest e o is)

pub named_so : {A : Type 0} (name_of : A → List ℕ) (xs : List A) (n : List ℕ) (y : A) → first_named name_of xs n ≡ Some y → name_of y ≡ n
named_so name_of [] n y h = absurd (cc (h))
named_so name_of (x ∷ xs) n y h = by (bytes_eq (name_of x) n) refl h (named_so name_of xs n y)
  where
    by : (t : Truth) → bytes_eq (name_of x) n ≡ t → cond t (Some x) (first_named name_of xs n) ≡ Some y → (first_named name_of xs n ≡ Some y → name_of y ≡ n) → name_of y ≡ n
    by true is e rest = let same : x ≡ y = cc (e) in ap name_of (sym same) ∙ (bytes_eq-Decides (name_of x) n).0 is
    by false is e rest = rest e

-- the batches of methods are among those of the program
pub methods_ask : (p : Program) → MethodsAsk (program_sites p) (of_program p)
methods_ask p class name m has holds b is =
    let d = of_program p in
    let same = named_so (λ c. c.name) p.classes class has.of_class has.found in
    let in_class = named_within (λ y. y.signature.name) (method_sites d class) has.of_class.methods name m has.method b is in
    let in_classes = named_within (λ c. c.name) (class_sites d) p.classes class has.of_class has.found b (subst (λ n. Contains (flat_map (method_sites d n) has.of_class.methods) b) (sym same) in_class) in
    Contains-append_left (flat_map (class_sites d) p.classes) (sites_in (main_context d) [] p.body.statements) b in_classes

module _ (p : Program) (all : List Outermost) where
  abbrev d : Declarations
  d = of_program p

  abbrev f : Facts
  f = facts_of p

  methods_in : (class : List ℕ) (ms : List Method) → check_method_bodies d class ms ≡ Ok tt → AllByRecursion (IsNotedMethod p class) ms → All IsLawfulMethod ms → Within (flat_map (method_batches f) ms) all
      → (b : Site) → Contains (flat_map (method_sites d class) ms) b → IsBatchOf p all b
  methods_in class [] t n l w b c = nothing b c
  methods_in class (m ∷ ms) t n l w b c =
      let s = then_ok (check_method_body d class m) (check_method_bodies d class ms) tt t in
      let u = bind_ok (check_stmts (method_context d class m.remote) (parameters m.signature.params) m.body.statements) _ tt s.0 in
      let lawful = All-head IsLawfulMethod m ms l in
      each_of (IsBatchOf p all) (method_sites d class m) (flat_map (method_sites d class) ms)
      (stmts_in p (Some class) m.remote all m.body.statements (flow.parameters m.signature.params) (parameters m.signature.params) u.0 (agree_parameters p.interfaces m.signature.params) u.1 n.0
      (block_lawful m.body.statements lawful.1.0) (within_left (method_batches f m) (flat_map (method_batches f) ms) all w))
      (methods_in class ms s.1 n.1 (All-tail IsLawfulMethod m ms l) (within_right (method_batches f m) (flat_map (method_batches f) ms) all w)) b c

  classes_in : (cs : List Class) → check_class_bodies d cs ≡ Ok tt → AllByRecursion (IsNotedClass p) cs → All IsLawfulClass cs → Within (flat_map (class_batches f) cs) all
      → (b : Site) → Contains (flat_map (class_sites d) cs) b → IsBatchOf p all b
  classes_in [] t n l w b c = nothing b c
  classes_in (c ∷ cs) t n l w b i =
      let s = then_ok (check_method_bodies d c.name c.methods) (check_class_bodies d cs) tt t in
      let lawful = All-head IsLawfulClass c cs l in
      each_of (IsBatchOf p all) (class_sites d c) (flat_map (class_sites d) cs)
      (methods_in c.name c.methods s.0 n.0 lawful.3 (within_left (class_batches f c) (flat_map (class_batches f) cs) all w))
      (classes_in cs s.1 n.1 (All-tail IsLawfulClass c cs l) (within_right (class_batches f c) (flat_map (class_batches f) cs) all w)) b i

-- what checks of a program tell
pub record IsTypedProgram (p : Program) : Type 0 where
  pub declared : check_declarations (of_program p) ≡ Ok tt
  pub bodies : check_class_bodies (of_program p) p.classes ≡ Ok tt
  pub result : main_type (of_program p) p.at p.result ≡ Ok tt
  pub body : check_body (main_context (of_program p)) [] p.at p.result p.body ≡ Ok tt

pub program_typed : (p : Program) → check_program p ≡ Ok tt → IsTypedProgram p
program_typed p h =
    let d = of_program p in
    let s = then_ok (check_declarations d >> check_class_bodies d p.classes) (check_main p) tt h in
    let t = then_ok (check_declarations d) (check_class_bodies d p.classes) tt s.0 in
    let u = then_ok (main_type d p.at p.result) (check_body (main_context d) [] p.at p.result p.body) tt s.1 in
    record { declared = t.0; bodies = t.1; result = u.0; body = u.1 }

-- each batch of a program is known to admission
pub batches_in : (p : Program) → IsLawful p → IsTypedProgram p → IsNotedProgram p → (b : Site) → Contains (program_sites p) b → IsBatchOf p (program_batches (facts_of p) p) b
batches_in p lawful t n =
    let d = of_program p in
    let f = facts_of p in
    let all = program_batches f p in
    let u = bind_ok (check_stmts (main_context d) [] p.body.statements) _ tt t.body in
    each_of (IsBatchOf p all) (flat_map (class_sites d) p.classes) (sites_in (main_context d) [] p.body.statements)
    (classes_in p all p.classes t.bodies n.classes lawful.classes (within_left (flat_map (class_batches f) p.classes) (outermost_in f [] p.body.statements) all (λ o is. is)))
    (stmts_in p None true all p.body.statements [] [] u.0 tt u.1 n.main (block_lawful p.body.statements lawful.body.0)
    (within_right (flat_map (class_batches f) p.classes) (outermost_in f [] p.body.statements) all (λ o is. is)))
