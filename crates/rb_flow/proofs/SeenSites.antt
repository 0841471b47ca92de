-- What is found at the sites of a batch: the earliest refusal, the writers, and the least bad part.
use Rattle.std.proofs.Common.{◌≡◌, ℕ, List, [], ◌∷◌, ◌++◌, Bool, true, false, cond, Option, refl, sym, ap, ◌∙◌, append_assoc}
use Rattle.std.proofs.lemmas.List.{append-nil}
use Rattle.std.proofs.lemmas.Grind.{flat_map-append}
use Rattle.std.specs.List.{flat_map}
use Rattle.rb_trees.specs.declared.flows.BadPart.{BadPart}
use Rattle.rb_trees.specs.mirror.Code.{Expr, Exprs, Lit, Name, This, Unary, Binary, Field, Call, Index, New, Items, Taken, NoExprs, MoreExprs, expr_at, Stmt, Val, Var, Assign, Run, Print, Throw, If, While, For, Try, Batch}
use Rattle.rb_meaning_flow.specs.Facts.{Facts, is_remote, over_rows}
use Rattle.rb_meaning_flow.specs.Portable.{portable}
use Rattle.rb_meaning_flow.specs.Sites.{Around, StmtSite, ExprSite, expr_sites, own, all_sites, block_sites, exprs_of}
use Rattle.rb_meaning_flow.specs.Flow.{objects, frame_sites, own_condition, assigned_node, writers_for, assignment_reads, stmt_writers, expr_writers, bad_in, all_bad_in, bad_of_call, bad_of_loop, bad_part}
use Rattle.rb_flow.specs.declared.standing.Reading.{Reading}
use Rattle.rb_flow.specs.declared.findings.Findings.{Findings}
use Rattle.rb_flow.specs.Readings.{nothing, joined, read_by, expr_read, whole_read}
use Rattle.rb_flow.specs.Earliest.{earliest}
use Rattle.rb_flow.specs.Found.{stmt_found, expr_found, site_found, all_found}
use Rattle.rb_flow.specs.Walked.{lesser_part, part_of, looked, all_looked, call_looked, loop_looked, writer_of, writers_of, assign_read, expr_writes, stmt_writes}
use Rattle.rb_flow.specs.Sited.{around_of, expr_site_seen, exprs_seen, stmt_site_seen, all_seen}
use Rattle.rb_flow.specs.Parts.{least_part, parts_in, expr_parts, site_parts, all_parts, site_writers, all_writers}
use Rattle.rb_flow.proofs.First.{earliest_more}
use Rattle.rb_flow.proofs.ReadSites.{read_both, same_scope, expr_read_sites, around_more, block_read_sites}

exprs_first : (x : Facts) (es : List ExprSite) (f : Findings) → (exprs_seen x es f).first ≡ earliest (flat_map (expr_found x) es) f.first
exprs_first x [] f = refl
exprs_first x (e ∷ es) f = exprs_first x es (expr_site_seen x e f) ∙ sym (earliest_more (expr_found x e) (flat_map (expr_found x) es) f.first)

-- the earliest refusal of single sites
pub all_first : (x : Facts) (ss : List StmtSite) (f : Findings) → (all_seen x ss f).first ≡ earliest (all_found x ss) f.first
all_first x [] f = refl
all_first x (s ∷ ss) f =
    let mine = flat_map (expr_found x) (all_sites s (own s.stmt)) in
    all_first x ss (exprs_seen x (all_sites s (own s.stmt)) (stmt_site_seen x s f))
    ∙ ap (earliest (all_found x ss)) (exprs_first x (all_sites s (own s.stmt)) (stmt_site_seen x s f) ∙ sym (earliest_more (stmt_found x s) mine f.first))
    ∙ sym (earliest_more (site_found x s) (all_found x ss) f.first)

-- the writers of a statement
writers_same : (x : Facts) (at : ℕ) (ns : List ℕ) (around : List Around) (mine : List ExprSite) → writers_of at ns (read_by x (mine ++ flat_map (frame_sites x) around)) ≡ writers_for x at ns around mine
writers_same x at [] around mine = refl
writers_same x at (n ∷ ns) around mine = refl

two_reads : (x : Facts) (s : StmtSite) (a b : Expr) (es : List ExprSite) → joined (expr_read x s.scope false (expr_read x s.scope false nothing a) b) (read_by x es) ≡ read_by x ((expr_sites s [] a ++ expr_sites s [] b) ++ es)
two_reads x s a b es =
    ap (λ q. joined q (read_by x es))
    (expr_read_sites x s [] s.scope false (expr_read x s.scope false nothing a) b (same_scope s.scope) refl
    ∙ ap (λ q. joined q (read_by x (expr_sites s [] b))) (expr_read_sites x s [] s.scope false nothing a (same_scope s.scope) refl)
    ∙ sym (read_both x (expr_sites s [] a) (expr_sites s [] b)))
    ∙ sym (read_both x (expr_sites s [] a ++ expr_sites s [] b) es)

assignment_is : (x : Facts) (s : StmtSite) (a b : Expr) → joined (assign_read x s.scope a b) (read_by x (flat_map (frame_sites x) s.around)) ≡ read_by x (assignment_reads s a b ++ flat_map (frame_sites x) s.around)
assignment_is x s (Lit at value) b = two_reads x s (Lit at value) b (flat_map (frame_sites x) s.around)
assignment_is x s (Name at name) b = around_more x s (flat_map (frame_sites x) s.around) b
assignment_is x s (This at) b = two_reads x s (This at) b (flat_map (frame_sites x) s.around)
assignment_is x s (Unary at op o) b = two_reads x s (Unary at op o) b (flat_map (frame_sites x) s.around)
assignment_is x s (Binary at op o p) b = two_reads x s (Binary at op o p) b (flat_map (frame_sites x) s.around)
assignment_is x s (Field at o name) b = two_reads x s (Field at o name) b (flat_map (frame_sites x) s.around)
assignment_is x s (Call at o method orgs) b = two_reads x s (Call at o method orgs) b (flat_map (frame_sites x) s.around)
assignment_is x s (Index at o p) b = two_reads x s (Index at o p) b (flat_map (frame_sites x) s.around)
assignment_is x s (New at class orgs) b = two_reads x s (New at class orgs) b (flat_map (frame_sites x) s.around)
assignment_is x s (Items at item items) b = two_reads x s (Items at item items) b (flat_map (frame_sites x) s.around)
assignment_is x s (Taken at step) b = two_reads x s (Taken at step) b (flat_map (frame_sites x) s.around)

stmt_writes_is : (x : Facts) (s : StmtSite) (t : Stmt) → stmt_writes x s.scope (read_by x (flat_map (frame_sites x) s.around)) t ≡ stmt_writers x s t
stmt_writes_is x s (Val at name e) = ap (λ r. writer_of at at r ∷ []) (around_more x s (flat_map (frame_sites x) s.around) e)
stmt_writes_is x s (Var at name e) = ap (λ r. writer_of at at r ∷ []) (around_more x s (flat_map (frame_sites x) s.around) e)
stmt_writes_is x s (Assign at a b) = ap (writers_of at (assigned_node s.scope a)) (assignment_is x s a b) ∙ writers_same x at (assigned_node s.scope a) s.around (assignment_reads s a b)
stmt_writes_is x s (Run at e) = refl
stmt_writes_is x s (Print at e) = refl
stmt_writes_is x s (Throw at e) = refl
stmt_writes_is x s (If at c a b) = refl
stmt_writes_is x s (While at c a) = refl
stmt_writes_is x s (For at name e a) = ap (λ r. writer_of at at r ∷ []) (around_more x s (flat_map (frame_sites x) s.around) e)
stmt_writes_is x s (Try at a name b) =
    ap (λ r. writer_of at at r ∷ []) (ap (λ q. joined q (read_by x (flat_map (frame_sites x) s.around))) (block_read_sites x [] s.scope s.scope nothing a (same_scope s.scope))
    ∙ sym (read_both x (exprs_of (block_sites x [] s.scope a)) (flat_map (frame_sites x) s.around)))
stmt_writes_is x s (Batch at interface root a) = refl

-- the writers among expressions
objects_is : (x : Facts) (s : StmtSite) (e : Expr) → whole_read x s.scope (around_of x s) e ≡ read_by x ((expr_sites s [] e ++ own_condition s s.stmt) ++ flat_map (frame_sites x) s.around)
objects_is x s e =
    around_more x s (own_condition s s.stmt ++ flat_map (frame_sites x) s.around) e
    ∙ ap (read_by x) (sym (append_assoc (expr_sites s [] e) (own_condition s s.stmt) (flat_map (frame_sites x) s.around)))

expr_writes_is : (x : Facts) (s : ExprSite) (e : Expr) → expr_writes x s.stands.scope (around_of x s.stands) e ≡ expr_writers x s e
expr_writes_is x s (Lit at value) = refl
expr_writes_is x s (Name at name) = refl
expr_writes_is x s (This at) = refl
expr_writes_is x s (Unary at op a) = refl
expr_writes_is x s (Binary at op a b) = refl
expr_writes_is x s (Field at a name) = refl
expr_writes_is x s (Call at a method args) = ap (λ r. cond (is_remote x a) [] (writer_of at objects r ∷ [])) (objects_is x s.stands (Call at a method args))
expr_writes_is x s (Index at a b) = refl
expr_writes_is x s (New at class args) = ap (λ r. writer_of at objects r ∷ []) (objects_is x s.stands (New at class args))
expr_writes_is x s (Items at item items) = refl
expr_writes_is x s (Taken at step) = refl

exprs_writers : (x : Facts) (es : List ExprSite) (f : Findings) → (exprs_seen x es f).writers ≡ f.writers ++ flat_map (λ e. expr_writers x e e.expr) es
exprs_writers x [] f = sym (append-nil f.writers)
exprs_writers x (e ∷ es) f =
    exprs_writers x es (expr_site_seen x e f)
    ∙ ap (λ ws. (f.writers ++ ws) ++ flat_map (λ e. expr_writers x e e.expr) es) (expr_writes_is x e e.expr)
    ∙ append_assoc f.writers (expr_writers x e e.expr) (flat_map (λ e. expr_writers x e e.expr) es)

-- the writers of all sites
pub all_writers_found : (x : Facts) (ss : List StmtSite) (f : Findings) → (all_seen x ss f).writers ≡ f.writers ++ all_writers x ss
all_writers_found x [] f = sym (append-nil f.writers)
all_writers_found x (s ∷ ss) f =
    let mine = flat_map (λ e. expr_writers x e e.expr) (all_sites s (own s.stmt)) in
    all_writers_found x ss (exprs_seen x (all_sites s (own s.stmt)) (stmt_site_seen x s f))
    ∙ ap (λ ws. ws ++ all_writers x ss) (exprs_writers x (all_sites s (own s.stmt)) (stmt_site_seen x s f)
    ∙ ap (λ ws. (f.writers ++ ws) ++ mine) (stmt_writes_is x s s.stmt) ∙ append_assoc f.writers (stmt_writers x s s.stmt) mine)
    ∙ append_assoc f.writers (site_writers x s) (all_writers x ss)

least_more : (ps qs : List BadPart) (part : Option BadPart) → least_part (ps ++ qs) part ≡ least_part qs (least_part ps part)
least_more [] qs part = refl
least_more (p ∷ ps) qs part = least_more ps qs (lesser_part part p)

bad : ℕ → Reading → BadPart
bad at r = record { at = at; reads = r.nodes; sources = r.sources }

part_is : (x : Facts) (s : StmtSite) (e : Expr) → part_of x s.scope e ≡ bad_part x s e
unfolding bad
part_is x s e = ap (bad (expr_at e)) (expr_read_sites x s [] s.scope false nothing e (same_scope s.scope) refl)

kept_unless : (x : Facts) (s : StmtSite) (known : Bool) (p : Option BadPart) (e : Expr) → cond known p (lesser_part p (part_of x s.scope e)) ≡ least_part (parts_in x s (cond known [] (e ∷ []))) p
kept_unless x s true p e = refl
kept_unless x s false p e = ap (lesser_part p) (part_is x s e)

both_parts : (x : Facts) (s : StmtSite) (es fs : List Expr) (p : Option BadPart) → least_part (parts_in x s fs) (least_part (parts_in x s es) p) ≡ least_part (parts_in x s (es ++ fs)) p
both_parts x s es fs p =
    sym (least_more (parts_in x s es) (parts_in x s fs) p) ∙ ap (λ ps. least_part ps p) (sym (flat_map-append (λ e. bad_part x s e ∷ []) es fs))

looked_is : (x : Facts) (s : StmtSite) (p : Option BadPart) (e : Expr) → looked x s.scope p e ≡ least_part (parts_in x s (bad_in x s.scope e)) p
looked_is x s p (Lit at value) = refl
looked_is x s p (Name at name) = kept_unless x s (portable x s.scope (Name at name)) p (Name at name)
looked_is x s p (This at) = ap (lesser_part p) (part_is x s (This at))
looked_is x s p (Unary at op a) = looked_is x s p a
looked_is x s p (Binary at op a b) =
    looked_is x s (looked x s.scope p a) b ∙ ap (least_part (parts_in x s (bad_in x s.scope b))) (looked_is x s p a) ∙ both_parts x s (bad_in x s.scope a) (bad_in x s.scope b) p
looked_is x s p (Field at a name) = ap (lesser_part p) (part_is x s (Field at a name))
looked_is x s p (Call at a method args) = kept_unless x s (is_remote x a) p (Call at a method args)
looked_is x s p (Index at a b) = ap (lesser_part p) (part_is x s (Index at a b))
looked_is x s p (New at class args) = ap (lesser_part p) (part_is x s (New at class args))
looked_is x s p (Items at item items) = ap (lesser_part p) (part_is x s (Items at item items))
looked_is x s p (Taken at step) = ap (lesser_part p) (part_is x s (Taken at step))

all_looked_is : (x : Facts) (s : StmtSite) (p : Option BadPart) (es : Exprs) → all_looked x s.scope p es ≡ least_part (parts_in x s (all_bad_in x s.scope es)) p
all_looked_is x s p NoExprs = refl
all_looked_is x s p (MoreExprs e es) =
    all_looked_is x s (looked x s.scope p e) es ∙ ap (least_part (parts_in x s (all_bad_in x s.scope es))) (looked_is x s p e) ∙ both_parts x s (bad_in x s.scope e) (all_bad_in x s.scope es) p

where_remote : (x : Facts) (s : StmtSite) (remote : Bool) (p q : Option BadPart) (es : List Expr) → q ≡ least_part (parts_in x s es) p → cond remote q p ≡ least_part (parts_in x s (cond remote es [])) p
where_remote x s true p q es h = h
where_remote x s false p q es h = refl

call_looked_is : (x : Facts) (s : StmtSite) (p : Option BadPart) (e : Expr) → call_looked x s.scope p e ≡ least_part (parts_in x s (bad_of_call x s.scope e)) p
call_looked_is x s p (Lit at value) = refl
call_looked_is x s p (Name at name) = refl
call_looked_is x s p (This at) = refl
call_looked_is x s p (Unary at op a) = refl
call_looked_is x s p (Binary at op a b) = refl
call_looked_is x s p (Field at a name) = refl
call_looked_is x s p (Call at a method args) =
    where_remote x s (is_remote x a) p (all_looked x s.scope (looked x s.scope p a) args) (bad_in x s.scope a ++ all_bad_in x s.scope args)
    (all_looked_is x s (looked x s.scope p a) args ∙ ap (least_part (parts_in x s (all_bad_in x s.scope args))) (looked_is x s p a) ∙ both_parts x s (bad_in x s.scope a) (all_bad_in x s.scope args) p)
call_looked_is x s p (Index at a b) = refl
call_looked_is x s p (New at class args) = refl
call_looked_is x s p (Items at item items) = refl
call_looked_is x s p (Taken at step) = refl

loop_looked_is : (x : Facts) (s : StmtSite) (p : Option BadPart) (t : Stmt) → loop_looked x s.scope p t ≡ least_part (parts_in x s (bad_of_loop x s.scope t)) p
loop_looked_is x s p (Val at name e) = refl
loop_looked_is x s p (Var at name e) = refl
loop_looked_is x s p (Assign at a b) = refl
loop_looked_is x s p (Run at e) = refl
loop_looked_is x s p (Print at e) = refl
loop_looked_is x s p (Throw at e) = refl
loop_looked_is x s p (If at c a b) = refl
loop_looked_is x s p (While at c a) = refl
loop_looked_is x s p (For at name e a) = where_remote x s (over_rows x e) p (looked x s.scope p e) (bad_in x s.scope e) (looked_is x s p e)
loop_looked_is x s p (Try at a name b) = refl
loop_looked_is x s p (Batch at interface root a) = refl

exprs_part : (x : Facts) (es : List ExprSite) (f : Findings) → (exprs_seen x es f).part ≡ least_part (flat_map (expr_parts x) es) f.part
exprs_part x [] f = refl
exprs_part x (e ∷ es) f =
    exprs_part x es (expr_site_seen x e f) ∙ ap (least_part (flat_map (expr_parts x) es)) (call_looked_is x e.stands f.part e.expr)
    ∙ sym (least_more (expr_parts x e) (flat_map (expr_parts x) es) f.part)

-- the least bad part of all sites
pub all_part_found : (x : Facts) (ss : List StmtSite) (f : Findings) → (all_seen x ss f).part ≡ least_part (all_parts x ss) f.part
all_part_found x [] f = refl
all_part_found x (s ∷ ss) f =
    let loops = parts_in x s (bad_of_loop x s.scope s.stmt) in
    let mine = flat_map (expr_parts x) (all_sites s (own s.stmt)) in
    all_part_found x ss (exprs_seen x (all_sites s (own s.stmt)) (stmt_site_seen x s f))
    ∙ ap (least_part (all_parts x ss)) (exprs_part x (all_sites s (own s.stmt)) (stmt_site_seen x s f) ∙ ap (least_part mine) (loop_looked_is x s f.part s.stmt) ∙ sym (least_more loops mine f.part))
    ∙ sym (least_more (site_parts x s) (all_parts x ss) f.part)
