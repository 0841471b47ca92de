-- What is drafted of a statement and of a block, as the definitions say it.
use Rattle.std.proofs.Common.{◌≡◌, ℕ, suc, List, [], ◌++◌, ap, sym, ◌∙◌, subst}
use Rattle.std.specs.Prelude.{true, OnOk, Result, Ok, Err}
use Rattle.rb_trees.specs.declared.code.Stmt as stmt_tree
use Rattle.rb_trees.specs.mirror.Code.{mirror_stmts, Expr, Stmt, Stmts, Run, If, For, NoStmts, MoreStmts}
use Rattle.rb_trees.specs.mirror.Declarations.{Program}
use Rattle.rb_trees.specs.mirror.Scripts as script
use Rattle.rb_trees.specs.mirror.Scripts.{Step, Steps, NoSteps, MoreSteps}
use Rattle.rb_trees.specs.mirror.Remainders as remainder
use Rattle.rb_trees.specs.mirror.Remainders.{Part, Parts, NoParts, MoreParts}
use Rattle.rb_trees.proofs.mirror.Stmts.{stmts}
use Rattle.rb_meaning_flow.specs.declared.forms.PlacedForm.{PlacedForm}
use Rattle.rb_meaning_flow.specs.declared.scopes.Role.{Role}
use Rattle.rb_meaning_flow.specs.Facts.{facts_of}
use Rattle.rb_meaning_flow.specs.Forms.{placed_form}
use Rattle.rb_meaning_flow.specs.Marks.{is_portable_call}
use Rattle.rb_meaning_flow.specs.Scopes.{Scope, with_variable}
use Rattle.rb_meaning_flow.specs.Sites.{scope_after}
use Rattle.rb_meaning.specs.RemoteExprs.{remote_of}
use Rattle.rb_meaning_split.specs.Cuts.{counted}
use Rattle.rb_meaning_split.specs.Refs.{Refs, sexpr, with_var}
use Rattle.rb_meaning_split.specs.Numbers.{kept_after, step_after, steps_after, var_after, vars_after}
use Rattle.rb_meaning_split.specs.Steps.{block_steps, keeps, refs_after, steps}
use Rattle.rb_meaning_split.specs.Parts.{block_parts, part, plain}
use Rattle.rb_split.specs.Drafts.{Drafted, block_drafted, branch_drafted, closed_branch, closed_over, closed_turns, do_drafted, first_drafted, fresh, joined, joined_parts, plain_drafted, second_drafted, stmt_drafted, stmt_drafted_as, turn_drafted, with_kept, with_part, with_step}
use Rattle.rb_split.specs.Views.{refs_of}
use Rattle.rb_split.specs.declared.refs.Known.{Known}
use Rattle.rb_split.proofs.Fronts.{take_front, take_whole, take_kept, kept_after as scope_kept}
use Rattle.rb_split.proofs.Joined.{draft_of, joined_assoc, kept_so, parts_assoc, joined_whole, parts_whole, steps_apart}
use Rattle.rb_split.proofs.Remotes.{whole_found}
use Rattle.std.proofs.lemmas.List.{map-append}
use Rattle.std.proofs.lemmas.Grind.{common_steps}

-- what is drafted of a statement, by its steps and its part
abbrev put : Drafted → Steps → Part → ℕ → ℕ → Drafted
put d ss q n m = draft_of (joined d.steps ss) (joined_parts d.parts (MoreParts q NoParts)) n m

-- of a statement that is left to the client
plain_so : (p : Program) (refs : Refs) (scope : Scope) (d : Drafted) (s : Stmt)
    → plain_drafted p refs scope d s ≡ put d (keeps p refs d.step (remote_of (facts_of p) scope s) NoSteps) (plain p scope d.step s) (kept_after (facts_of p) scope s d.step) d.var
plain_so p refs scope d s = ap (λ x. with_part x (plain p scope d.step s)) (kept_so p refs d.steps d.parts d.step d.var (remote_of (facts_of p) scope s))

-- of one whose form is plain
pub left_so : (p : Program) (refs : Refs) (scope : Scope) (d : Drafted) (s : Stmt) → placed_form (facts_of p) scope s ≡ PlacedForm.Plain
    → stmt_drafted p refs scope d s ≡ plain_drafted p refs scope d s
left_so p refs scope d s h = ap (λ f. stmt_drafted_as p f refs scope d s) h ∙ sym (plain_so p refs scope d s)

-- The number behind a remote expression alone is the next one, as it is kept or performed.
run_number : (p : Program) (scope : Scope) (n at : ℕ) (e : Expr) → is_portable_call (facts_of p) scope e ≡ true → kept_after (facts_of p) scope (Run at e) n ≡ suc n
run_number p scope n at e h = ap (λ es. counted (es ++ []) n) (whole_found (facts_of p) scope e h)

pub run_do : (p : Program) (refs : Refs) (scope : Scope) (d : Drafted) (at : ℕ) (e : Expr) → is_portable_call (facts_of p) scope e ≡ true
    → stmt_drafted_as p PlacedForm.CallAlone refs scope d (Run at e) ≡ do_drafted p refs d at e
run_do p refs scope d at e h =
    ap (λ n. put d (MoreSteps (script.Do d.step at (sexpr p refs e)) NoSteps) (remainder.Pass d.step) n d.var) (run_number p scope d.step at e h)

-- of a block, by its steps and its parts
abbrev pub block_put : Program → Refs → Scope → Drafted → Stmts → Drafted
block_put p refs scope d ss =
    draft_of (joined d.steps (block_steps p refs scope d.step d.var ss)) (joined_parts d.parts (block_parts p refs scope d.step d.var ss))
    (steps_after (facts_of p) scope ss d.step) (vars_after (facts_of p) scope ss d.var)

pub block_so : (p : Program) (refs : Refs) (scope : Scope) (d : Drafted) (ss : Stmts) → block_drafted p refs scope d ss ≡ block_put p refs scope d ss
block_so p refs scope d NoStmts =
    ap (λ x. draft_of x d.parts d.step d.var) (sym (joined_whole d.steps)) ∙ ap (λ x. draft_of (joined d.steps NoSteps) x d.step d.var) (sym (parts_whole d.parts))
block_so p refs scope d (MoreStmts s ss) =
    let here : Steps = steps p refs scope d.step d.var s NoSteps in
    let q : Parts = MoreParts (part p refs scope d.step d.var s) NoParts in
    let refs' : Refs = refs_after p refs d.var scope s in
    let scope' : Scope = scope_after (facts_of p) [] scope s in
    let n : ℕ = step_after (facts_of p) scope s d.step in
    let m : ℕ = var_after (facts_of p) scope s d.var in
    let more : Steps = block_steps p refs' scope' n m ss in
    let others : Parts = block_parts p refs' scope' n m ss in
    let n' : ℕ = steps_after (facts_of p) scope' ss n in
    let m' : ℕ = vars_after (facts_of p) scope' ss m in
    block_so p refs' scope' (stmt_drafted p refs scope d s) ss
    ∙ ap (λ x. draft_of x (joined_parts (joined_parts d.parts q) others) n' m') (joined_assoc d.steps here more ∙ ap (joined d.steps) (sym (steps_apart p refs scope d.step d.var s more)))
    ∙ ap (λ x. draft_of (joined d.steps (steps p refs scope d.step d.var s more)) x n' m') (parts_assoc d.parts q others)

pub if_branch : (p : Program) (refs : Refs) (scope : Scope) (d : Drafted) (at : ℕ) (c : Expr) (a b : Stmts)
    → stmt_drafted_as p PlacedForm.CarriedIf refs scope d (If at c a b) ≡ branch_drafted p refs scope d at c a b
if_branch p refs scope d at c a b =
    let one : Drafted = block_put p refs scope (fresh (suc d.step) d.var) a in
    ap (λ x. closed_branch p refs d at c one x) (sym (block_so p refs scope (fresh one.step one.var) b))
    ∙ ap (λ x. closed_branch p refs d at c x (second_drafted p refs scope x b)) (sym (block_so p refs scope (fresh (suc d.step) d.var) a))

-- the block of a loop, by its steps and its parts
turn_so : (p : Program) (refs : Refs) (scope : Scope) (d : Drafted) (at : ℕ) (name : List ℕ) (a : Stmts)
    → block_put p (with_var refs name d.var) (with_variable scope name Role.Row at) (fresh (suc d.step) (suc d.var)) a ≡ turn_drafted p refs scope d at name a
turn_so p refs scope d at name a = sym (block_so p (with_var refs name d.var) (with_variable scope name Role.Row at) (fresh (suc d.step) (suc d.var)) a)

-- the same by the parts of the loop that the code has
pub turn_of : (p : Program) (refs : Refs) (scope : Scope) (d body : Drafted) {at at' : ℕ} {name name' : List ℕ} {a a' : List stmt_tree.Stmt}
    → at ≡ at' → name ≡ name' → a ≡ a' → body ≡ turn_drafted p refs scope d at name (mirror_stmts a) → body ≡ turn_drafted p refs scope d at' name' (mirror_stmts a')
turn_of p refs scope d body {at' = at'} {name = name} {name' = name'} {a = a} ea en es h =
    h ∙ ap (λ x. turn_drafted p refs scope d x name (mirror_stmts a)) ea ∙ ap (λ x. turn_drafted p refs scope d at' x (mirror_stmts a)) en
    ∙ ap (λ x. turn_drafted p refs scope d at' name' (mirror_stmts x)) es

-- a loop whose block is drafted: one over rows, and a carried one
pub for_turns : (p : Program) (ks ks1 : List Known) (scope : Scope) (d body : Drafted) (at : ℕ) (name : List ℕ) (e : Expr) (a : Stmts)
    → ks1 ≡ ks → body ≡ turn_drafted p (refs_of ks) scope d at name a
    → stmt_drafted_as p PlacedForm.RowsLoop (refs_of ks) scope d (For at name e a) ≡ closed_turns p (refs_of ks1) d at name e body
for_turns p ks ks1 scope d body at name e a ek eb =
    ap (closed_turns p (refs_of ks) d at name e) (turn_so p (refs_of ks) scope d at name a ∙ sym eb) ∙ ap (λ x. closed_turns p (refs_of x) d at name e body) (sym ek)

pub for_over : (p : Program) (ks ks1 : List Known) (scope : Scope) (d body : Drafted) (at : ℕ) (name : List ℕ) (e : Expr) (a : Stmts)
    → ks1 ≡ ks → body ≡ turn_drafted p (refs_of ks) scope d at name a
    → stmt_drafted_as p PlacedForm.CarriedLoop (refs_of ks) scope d (For at name e a) ≡ closed_over p (refs_of ks1) d at name e body
for_over p ks ks1 scope d body at name e a ek eb =
    ap (closed_over p (refs_of ks) d at name e) (turn_so p (refs_of ks) scope d at name a ∙ sym eb) ∙ ap (λ x. closed_over p (refs_of x) d at name e body) (sym ek)

pub ruleset stmt_rules = (stmts, map-append, take_front, take_whole, common_steps)

pub ruleset block_rules = (map-append, take_front, take_whole, take_kept, scope_kept, common_steps)

-- one more part, and one more step, by what they are
pub written : {E : Type 0} (r : Result (Unit {0}) E) (now : Drafted) {mid : Drafted} (d : Drafted) {s s' : Step} {q q' : Part} {n n' m m' : ℕ} → mid ≡ with_part d q → q ≡ q' → s ≡ s' → n ≡ n' → m ≡ m'
    → OnOk r (now ≡ with_kept mid s n m) → OnOk r (now ≡ with_step d s' q' n' m')
written r now {mid = mid} d {s = s} {s' = s'} {q = q} {q' = q'} {n = n} {n' = n'} {m = m} {m' = m'} ed eq es en em h =
    subst (λ x. OnOk r (now ≡ x))
    (ap (λ x. with_kept x s n m) (ed ∙ ap (with_part d) eq) ∙ ap (λ x. with_step d x q' n m) es ∙ ap (λ x. with_step d s' q' x m) en ∙ ap (λ x. with_step d s' q' n' x) em) h

-- what is drafted of a statement of a form
pub formed : {form : PlacedForm} {x : Drafted} (p : Program) (refs : Refs) (scope : Scope) (d : Drafted) (s m : Stmt)
    → placed_form (facts_of p) scope s ≡ form → s ≡ m → stmt_drafted_as p form refs scope d m ≡ x → stmt_drafted p refs scope d s ≡ x
formed {form = form} p refs scope d s m placed is so = ap (λ f. stmt_drafted_as p f refs scope d s) placed ∙ ap (stmt_drafted_as p form refs scope d) is ∙ so

pub on_ok : {A E B : Type 0} {y z : B} (r : Result A E) (x : B) → y ≡ z → OnOk r (x ≡ y) → OnOk r (x ≡ z)
on_ok r x e h = subst (λ y. OnOk r (x ≡ y)) e h

pub on_any : {A E P : Type 0} (r : Result A E) → P → OnOk r P
on_any (Ok a) h = h
on_any (Err e) h = tt

-- a carried `if` whose blocks are drafted
pub branch_so : (p : Program) (ks ks1 ks2 : List Known) (scope scope1 : Scope) (d d1 d2 one two : Drafted) (at : ℕ) (c : Expr) (a b xs ys : List stmt_tree.Stmt) (n : ℕ)
    → xs ≡ a → ys ≡ b → n ≡ suc d.step → ks1 ≡ ks → scope1 ≡ scope → ks2 ≡ ks1 → d1 ≡ fresh n d.var → d2 ≡ fresh one.step one.var
    → one ≡ block_drafted p (refs_of ks) scope d1 (mirror_stmts xs) → two ≡ block_drafted p (refs_of ks1) scope1 d2 (mirror_stmts ys)
    → closed_branch p (refs_of ks2) d at c one two ≡ branch_drafted p (refs_of ks) scope d at c (mirror_stmts a) (mirror_stmts b)
branch_so p ks ks1 ks2 scope scope1 d d1 d2 one two at c a b xs ys n ea eb en ek es ek2 f1 f2 e1 e2 =
    let first : one ≡ first_drafted p (refs_of ks) scope d (mirror_stmts a) =
    e1 ∙ ap (λ x. block_drafted p (refs_of ks) scope x (mirror_stmts xs)) (f1 ∙ ap (λ x. fresh x d.var) en) ∙ ap (λ x. block_drafted p (refs_of ks) scope (fresh (suc d.step) d.var) (mirror_stmts x)) ea in
    let second : two ≡ second_drafted p (refs_of ks) scope one (mirror_stmts b) =
    e2 ∙ ap (λ x. block_drafted p (refs_of ks1) scope1 x (mirror_stmts ys)) f2
    ∙ ap (λ x. block_drafted p (refs_of x) scope1 (fresh one.step one.var) (mirror_stmts ys)) ek
    ∙ ap (λ x. block_drafted p (refs_of ks) x (fresh one.step one.var) (mirror_stmts ys)) es
    ∙ ap (λ x. block_drafted p (refs_of ks) scope (fresh one.step one.var) (mirror_stmts x)) eb in
    ap (λ x. closed_branch p (refs_of x) d at c one two) (ek2 ∙ ek) ∙ ap (λ x. closed_branch p (refs_of ks) d at c one x) second
    ∙ ap (λ x. closed_branch p (refs_of ks) d at c x (second_drafted p (refs_of ks) scope x (mirror_stmts b))) first
