-- A name that gets the sum of its own value and another, where it stands.
use Rattle.std.proofs.Common.{◌≡◌, refl, sym, ap, ◌∙◌, subst, ℕ, suc, zero, List, [], ◌∷◌, Bool, true, false, cond, Option, Some, None}
use Rattle.std.specs.Prelude.{Result, Ok, Err, OnErr, slice_get, slice_set}
use Rattle.std.specs.Option.{option_map}
use Rattle.std.specs.Str.{bytes_eq}
use Rattle.std.proofs.lemmas.Grind.{common_steps}
use Rattle.rb_trees.specs.Named.{lookup, replaced}
use Rattle.rb_trees.specs.Outcome.{Gives, known, ◌>>=◌}
use Rattle.rb_trees.specs.declared.values.Value.{Value, out-Value}
use Rattle.rb_trees.specs.declared.values.Fault.{Fault}
use Rattle.rb_trees.specs.declared.code.BinOp.TheVariants.{Add}
use Rattle.rb_trees.specs.declared.code.Expr as expr
use Rattle.rb_trees.specs.declared.code.ExprForm.TheVariants as expr_form
use Rattle.rb_trees.specs.declared.declarations.Class as class
use Rattle.rb_trees.specs.mirror.Code as code
use Rattle.rb_trees.specs.mirror.Code.{Expr, mirror_expr}
use Rattle.rb_meaning_code.specs.Faults.{kind, raises}
use Rattle.rb_meaning_code.specs.Operators.{plus, by_left, on_two}
use Rattle.rb_meaning_code.specs.State.{Names, Local}
use Rattle.rb_meaning_code.specs.Dialogue.{Run, Surroundings, next, end}
use Rattle.rb_meaning_code.specs.Calls.{Bodies}
use Rattle.rb_meaning_code.specs.Expressions.{evaluates, decided_or}
use Rattle.rb_meaning_code.specs.Statements.{assignment, assigns, nothing}
use Rattle.rb_engine.specs.Code.{bodies, value_run, assign_run}
use Rattle.rb_engine.specs.Ends.{fault_of, Lifts}
use Rattle.rb_engine.specs.declared.ends.Failure.{Failure}
use Rattle.rb_engine.specs.declared.ends.Failure.TheVariants as failure
use Rattle.rb_engine.specs.declared.ends.End.{End}
use Rattle.rb_engine.specs.Meets.{Scene, Meets}
use Rattle.rb_engine.specs.Places.{first_place}
use Rattle.rb_engine.specs.Sums.{AddsTo, sum_at}
use Rattle.rb_engine.specs.Targets.{NamePlace, target_form}
use Rattle.rb_engine.proofs.Forms.{binary_form, name_form}
use Rattle.rb_engine.proofs.Parts.{name_written}
use Rattle.rb_engine.proofs.Placed.{field_at, lookup_placed, replaced_placed, set_at}
use Rattle.rb_engine.proofs.Runs.{gave, cut, at_run, next_next}
use Rattle.rb_engine.proofs.Steps.{changed}

-- an expression that is such a sum
pub sum_found : (names : Names) (e start last : expr.Expr) (first name : List ℕ) (place : ℕ)
    → e.form ≡ expr_form.Binary Add start last → start.form ≡ expr_form.Name first → first ≡ name → first_place names name ≡ Some place
    → AddsTo names name e place (mirror_expr last)
sum_found names e start last first name place is is_name same there = record {
  at = start.at;
  form = binary_form e start last is ∙ ap (λ a. code.Binary e.at Add a (mirror_expr last)) (name_form start is_name ∙ ap (code.Name start.at) same);
  there = there;
}

-- Something stands at the first place of a name.
pub record Stands (names : Names) (place : ℕ) : Type 0 where
  pub named : List ℕ × Value
  pub is : slice_get names place ≡ Some named

stands_next : (f : List ℕ × Value) (fs : Names) (place : ℕ) → Stands fs place → Stands (f ∷ fs) (suc place)
stands_next f fs place s = record { named = s.named; is = s.is }

stands_step : (f : List ℕ × Value) (fs : Names) (b : Bool) (o : Option ℕ) (place : ℕ) → ((p : ℕ) → o ≡ Some p → Stands fs p)
    → cond b (Some 0) (option_map suc o) ≡ Some place → Stands (f ∷ fs) place
stands_step f fs true o place more is = let first : 0 ≡ place = cc is in subst (Stands (f ∷ fs)) first (record { named = f; is = refl })
stands_step f fs false None place more is = absurd (cc is)
stands_step f fs false (Some p) place more is = let after : suc p ≡ place = cc is in subst (Stands (f ∷ fs)) after (stands_next f fs p (more p refl))

stands_there : (fs : Names) (name : List ℕ) (place : ℕ) → first_place fs name ≡ Some place → Stands fs place
stands_there [] name place is = absurd (cc is)
stands_there (f ∷ fs) name place is = stands_step f fs (bytes_eq f.0 name) (first_place fs name) place (λ p. stands_there fs name p) is

-- the value of the name
value_there : (names : Names) (name : List ℕ) (place : ℕ) (named : List ℕ × Value) → first_place names name ≡ Some place → slice_get names place ≡ Some named → lookup names name ≡ Some named.1
value_there names name place named there is =
    lookup_placed names name ∙ ap (λ o. option_map (λ n. n.1) (field_at names o)) there ∙ ap (option_map (λ n. n.1)) is

replaced_there : (names : Names) (name : List ℕ) (place : ℕ) (named : List ℕ × Value) (v : Value) → first_place names name ≡ Some place → slice_get names place ≡ Some named
    → replaced names name v ≡ slice_set names place (named.0, v)
replaced_there names name place named v there is =
    replaced_placed names name v ∙ ap (λ o. set_at names v o (field_at names o)) there ∙ ap (set_at names v (Some place)) is

-- what is left of the assignment once the other value is known
abbrev adds : ℕ → ℕ → List ℕ → Value → Value → Local → Run (Unit {0})
adds at place name v w l = next (end l (raises at (plus (out-Value v) (out-Value w)))) (λ sum l1. assigns place name sum l1)

sum_value : (b : Bodies) (at from place : ℕ) (name : List ℕ) (last : Expr) (l : Local) (v : Value) → lookup l.names name ≡ Some v
    → next (evaluates b (code.Binary at Add (code.Name from name) last) l) (λ sum l1. assigns place name sum l1) ≡ next (evaluates b last l) (adds at place name v)
sum_value b at from place name last l v is =
    ap (λ o. next (next (end l (raises from (known kind o))) (λ a l1.
    next (end l1 (raises at (by_left Add (out-Value a)))) (λ decided l2.
    decided_or decided (λ l3. next (evaluates b last l3) (λ w l4. end l4 (raises at (on_two Add (out-Value a) (out-Value w))))) l2))) (λ sum l1. assigns place name sum l1)) is
    ∙ next_next (evaluates b last l) (λ w l1. end l1 (raises at (plus (out-Value v) (out-Value w)))) (λ sum l1. assigns place name sum l1)

sum_assigned : (b : Bodies) (at place : ℕ) (e r : expr.Expr) (name : List ℕ) (last : Expr) (l : Local) (named : List ℕ × Value)
    → NamePlace name ≡ target_form (mirror_expr e) → (a : AddsTo l.names name r place last) → slice_get l.names place ≡ Some named
    → assignment b at (mirror_expr e) (mirror_expr r) l ≡ next (evaluates b last l) (adds r.at e.at name named.1)
sum_assigned b at place e r name last l named target a is =
    name_written b at e (mirror_expr r) name l target
    ∙ ap (λ x. next (evaluates b x l) (λ v l1. assigns e.at name v l1)) a.form
    ∙ sum_value b r.at a.at e.at name last l named.1 (value_there l.names name place named a.there is)

-- the sum, and the names with it
assigned_so : (place : ℕ) (name : List ℕ) (v : Value) (l : Local) (names : Names) (o : Option Value) (u : Value) → o ≡ Some u → replaced l.names name v ≡ names
    → next (end l (raises place (known kind o >>= λ old. Ok (replaced l.names name v)))) (λ ns l1. nothing (record l1 { names = ns })) ≡ nothing (record l { names = names })
assigned_so place name v l names o u is e =
    ap (λ x. next (end l (raises place (known kind x >>= λ old. Ok (replaced l.names name v)))) (λ ns l1. nothing (record l1 { names = ns }))) is
    ∙ ap (λ ns. nothing (record l { names = ns })) e

sum_step : (at at2 place : ℕ) (name : List ℕ) (l : Local) (named : List ℕ × Value) (r : Result Value Fault) → first_place l.names name ≡ Some place → slice_get l.names place ≡ Some named
    → next (end l (raises at r)) (λ sum l1. assigns at2 name sum l1)
    ≡ next (end l (raises at (r >>= λ sum. Ok (slice_set l.names place (named.0, sum))))) (λ ns l1. nothing (record l1 { names = ns }))
sum_step at at2 place name l named (Ok v) there is =
    assigned_so at2 name v l (slice_set l.names place (named.0, v)) (lookup l.names name) named.1 (value_there l.names name place named there is) (replaced_there l.names name place named v there is)
sum_step at at2 place name l named (Err f) there is = refl

sum_so : (names : Names) (place : ℕ) (named : List ℕ × Value) (w : Value) → slice_get names place ≡ Some named
    → (plus (out-Value named.1) (out-Value w) >>= λ sum. Ok (slice_set names place (named.0, sum))) ≡ sum_at names place w
sum_so names place named w is = ap (λ o. known kind o >>= λ n. plus (out-Value n.1) (out-Value w) >>= λ sum. Ok (slice_set names place (n.0, sum))) (sym is)

adds_so : (at at2 place : ℕ) (name : List ℕ) (l : Local) (named : List ℕ × Value) (w : Value) → first_place l.names name ≡ Some place → slice_get l.names place ≡ Some named
    → adds at at2 name named.1 w l ≡ next (end l (raises at (sum_at l.names place w))) (λ ns l1. nothing (record l1 { names = ns }))
adds_so at at2 place name l named w there is =
    sum_step at at2 place name l named (plus (out-Value named.1) (out-Value w)) there is
    ∙ ap (λ d. next (end l (raises at d)) (λ ns l1. nothing (record l1 { names = ns }))) (sum_so l.names place named w is)

-- the other value isn't to be had
pub sum_cut : {W X : Type 0} {R : Surroundings W X} {s s1 : Scene W} {t : Result Value (End X)} {h : End X} {res : Result (Unit {0}) (End X)}
    (classes : List class.Class) (at place : ℕ) (e r last : expr.Expr) (name : List ℕ)
    → NamePlace name ≡ target_form (mirror_expr e) → AddsTo s.local.names name r place (mirror_expr last)
    → Meets R (λ gas. value_run classes last gas s.local) s t s1 → t ≡ Err h → res ≡ Err h
    → Meets R (λ gas. assign_run classes at e r gas s.local) s res s1
sum_cut {s = s} classes at place e r last name target a m was is =
    let there = stands_there s.local.names name place a.there in
    at_run (λ gas. sum_assigned (bodies classes gas) at place e r name (mirror_expr last) s.local there.named target a there.is) (cut _ m was is)

-- it is added
pub sum_gave : {W X : Type 0} {R : Surroundings W X} {s s1 : Scene W} {t : Result Value (End X)} {w : Value} {res : Result (Unit {0}) (End X)}
    (classes : List class.Class) (at place : ℕ) (e r last : expr.Expr) (name : List ℕ) (new : Names) (f : Result (Unit {0}) Failure)
    → NamePlace name ≡ target_form (mirror_expr e) → AddsTo s.local.names name r place (mirror_expr last)
    → Meets R (λ gas. value_run classes last gas s.local) s t s1 → t ≡ Ok w → s1.local.names ≡ s.local.names
    → Gives (λ u. new) fault_of f (sum_at s1.local.names place w) → OnErr f (new ≡ s1.local.names) → Lifts r.at f res
    → Meets R (λ gas. assign_run classes at e r gas s.local) s res (record { local = record s1.local { names = new }; world = s1.world })
sum_gave {s = s} {s1 = s1} {w = w} classes at place e r last name new f target a m was same gives kept lifts =
    let there = stands_there s.local.names name place a.there in
    let first : first_place s1.local.names name ≡ Some place = ap (λ ns. first_place ns name) same ∙ a.there in
    let is : slice_get s1.local.names place ≡ Some there.named = ap (λ ns. slice_get ns place) same ∙ there.is in
    at_run (λ gas. sum_assigned (bodies classes gas) at place e r name (mirror_expr last) s.local there.named target a there.is)
    (gave _ m was (at_run (λ gas. adds_so r.at e.at place name s1.local there.named w first is)
    (changed (λ u. new) _ f _ (λ names. record s1.local { names = names }) s1.local.names new _ refl refl refl (λ u. refl) gives kept lifts)))

-- the names with a sum at a place
pub gives_sum : (names new : Names) (place : ℕ) (named : List ℕ × Value) (value w : Value) (f : Result (Unit {0}) Failure) → slice_get names place ≡ Some named
    → Gives (λ u. value) fault_of f (plus (out-Value named.1) (out-Value w)) → new ≡ slice_set names place (named.0, value) → Gives (λ u. new) fault_of f (sum_at names place w)
gives_sum names new place named value w (Ok u) is gives e =
    sym (sum_so names place named w is) ∙ ap (λ r. r >>= λ sum. Ok (slice_set names place (named.0, sum))) gives ∙ ap Ok (sym e)
gives_sum names new place named value w (Err (failure.Fault d)) is gives e =
    sym (sum_so names place named w is) ∙ ap (λ r. r >>= λ sum. Ok (slice_set names place (named.0, sum))) gives
gives_sum names new place named value w (Err failure.Memory) is gives e = tt

-- what an error leaves
set_same : (names : Names) (place : ℕ) (named : List ℕ × Value) → slice_get names place ≡ Some named → slice_set names place named ≡ names
set_same [] place named is = refl
set_same (f ∷ fs) zero named is = let same : f ≡ named = cc is in ap (λ g. g ∷ fs) (sym same)
set_same (f ∷ fs) (suc place) named is = ap (λ gs. f ∷ gs) (set_same fs place named is)

pub kept_sum : (names new : Names) (place : ℕ) (named : List ℕ × Value) (value : Value) (f : Result (Unit {0}) Failure) → slice_get names place ≡ Some named
    → OnErr f (value ≡ named.1) → new ≡ slice_set names place (named.0, value) → OnErr f (new ≡ names)
kept_sum names new place named value (Ok u) is kept e = tt
kept_sum names new place named value (Err h) is kept e = e ∙ ap (λ v. slice_set names place (named.0, v)) kept ∙ set_same names place named is

pub ruleset sum_made = (gives_sum, kept_sum, common_steps)
