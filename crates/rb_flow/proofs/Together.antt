-- Lists by statements, each followed by its expressions, and lists by all statements followed by all expressions.
use Rattle.std.proofs.Common.{ℕ, inl, inr, List, [], ◌∷◌, ◌++◌}
use Rattle.std.specs.List.{Contains, flat_map}
use Rattle.std.proofs.lemmas.List.Elements.{Contains-append_left, Contains-append_right, Contains-append_cases}
use Rattle.rb_trees.specs.declared.flows.Writer.{Writer}
use Rattle.rb_trees.specs.declared.flows.BadPart.{BadPart}
use Rattle.rb_meaning_flow.specs.Facts.{Facts}
use Rattle.rb_meaning_flow.specs.Sites.{StmtSite, ExprSite, own, all_sites, exprs_of}
use Rattle.rb_meaning_flow.specs.Chains.{Leads, IsChain, IsLeastChain, PositionsDiffer}
use Rattle.rb_meaning_flow.specs.Flow.{writers, stmt_writers, expr_writers, bad_parts, bad_of_loop}
use Rattle.rb_flow.specs.Parts.{parts_in, expr_parts, all_parts, all_writers}
use Rattle.rb_flow.proofs.Members.{given_by, gives_all}
use Rattle.rb_flow.proofs.Listed.{own_of, owned}

apart : {A : Type 0} (f : StmtSite → List A) (g : ExprSite → List A) (ss : List StmtSite) (y : A)
    → Contains (flat_map (λ s. f s ++ flat_map g (all_sites s (own s.stmt))) ss) y → Contains (flat_map f ss ++ flat_map g (exprs_of ss)) y
apart f g ss y h =
    let at = given_by (λ s. f s ++ flat_map g (all_sites s (own s.stmt))) ss y h in
    elim (Contains-append_cases (f at.by) (flat_map g (all_sites at.by (own at.by.stmt))) y at.gives) [
      | inl a ↦ Contains-append_left (flat_map f ss) (flat_map g (exprs_of ss)) y (gives_all f ss at.by y at.is a)
      | inr b ↦
          let e = given_by g (all_sites at.by (own at.by.stmt)) y b in
          Contains-append_right (flat_map f ss) (flat_map g (exprs_of ss)) y (gives_all g (exprs_of ss) e.by y (owned ss at.by e.by at.is e.is) e.gives)
    ]

together : {A : Type 0} (f : StmtSite → List A) (g : ExprSite → List A) (ss : List StmtSite) (y : A)
    → Contains (flat_map f ss ++ flat_map g (exprs_of ss)) y → Contains (flat_map (λ s. f s ++ flat_map g (all_sites s (own s.stmt))) ss) y
together f g ss y h = elim (Contains-append_cases (flat_map f ss) (flat_map g (exprs_of ss)) y h) [
  | inl a ↦
      let at = given_by f ss y a in
      gives_all (λ s. f s ++ flat_map g (all_sites s (own s.stmt))) ss at.by y at.is (Contains-append_left (f at.by) (flat_map g (all_sites at.by (own at.by.stmt))) y at.gives)
  | inr b ↦
      let e = given_by g (exprs_of ss) y b in
      let o = own_of ss e.by e.is in
      gives_all (λ s. f s ++ flat_map g (all_sites s (own s.stmt))) ss o.stmt y o.is
      (Contains-append_right (f o.stmt) (flat_map g (all_sites o.stmt (own o.stmt.stmt))) y (gives_all g (all_sites o.stmt (own o.stmt.stmt)) e.by y o.has e.gives))
]

pub writers_apart : (x : Facts) (ss : List StmtSite) (w : Writer) → Contains (all_writers x ss) w → Contains (writers x ss) w
writers_apart x ss w h = apart (λ s. stmt_writers x s s.stmt) (λ e. expr_writers x e e.expr) ss w h

pub writers_together : (x : Facts) (ss : List StmtSite) (w : Writer) → Contains (writers x ss) w → Contains (all_writers x ss) w
writers_together x ss w h = together (λ s. stmt_writers x s s.stmt) (λ e. expr_writers x e e.expr) ss w h

pub parts_apart : (x : Facts) (ss : List StmtSite) (u : BadPart) → Contains (all_parts x ss) u → Contains (bad_parts x ss) u
parts_apart x ss u h = apart (λ s. parts_in x s (bad_of_loop x s.scope s.stmt)) (expr_parts x) ss u h

pub parts_together : (x : Facts) (ss : List StmtSite) (u : BadPart) → Contains (bad_parts x ss) u → Contains (all_parts x ss) u
parts_together x ss u h = together (λ s. parts_in x s (bad_of_loop x s.scope s.stmt)) (expr_parts x) ss u h

-- chains through writers are chains through more of them
leads_more : (ws vs : List Writer) → ((w : Writer) → Contains ws w → Contains vs w) → (reads sources : List ℕ) (c : ℕ) (ps : List ℕ) → Leads ws reads sources c ps → Leads vs reads sources c ps
leads_more ws vs more reads sources c [] h = h
leads_more ws vs more reads sources c (p ∷ ps) h = (h.0, more h.0 h.1, h.2, h.3, leads_more ws vs more h.0.reads h.0.sources c ps h.4)

pub chain_more : (ws vs : List Writer) → ((w : Writer) → Contains ws w → Contains vs w) → (u : BadPart) (chain : List ℕ) → IsChain ws u chain → IsChain vs u chain
chain_more ws vs more u chain h = (h.0, h.1, h.2, leads_more ws vs more u.reads u.sources h.0 _ h.3)

pub least_chain_same : (ws vs : List Writer) → ((w : Writer) → Contains ws w → Contains vs w) → ((w : Writer) → Contains vs w → Contains ws w)
    → (u : BadPart) (chain : List ℕ) → IsLeastChain ws u chain → IsLeastChain vs u chain
least_chain_same ws vs to back u chain h = (chain_more ws vs to u chain h.0, λ other g. h.1 other (chain_more vs ws back u other g))

pub differ_less : (ws vs : List Writer) → ((w : Writer) → Contains ws w → Contains vs w) → PositionsDiffer vs → PositionsDiffer ws
differ_less ws vs more h v w hv hw e = h v w (more v hv) (more w hw) e
