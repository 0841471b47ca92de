-- Each expression has the mark of its own site, and each statement the place.
use Rattle.std.proofs.Common.{◌≡◌, ◌≤◌, List, [], ◌∷◌, ◌++◌, map, None, refl, sym, ap, ◌∙◌, arith}
use Rattle.std.proofs.lemmas.List.{map-append}
use Rattle.std.specs.List.{flat_map}
use Rattle.rb_meaning_types.specs.Lawful.{classes_positions, body_positions}
use Rattle.rb_meaning_flow.specs.Facts.{Facts, facts_of}
use Rattle.rb_meaning_flow.specs.Sites.{StmtSite, exprs_of}
use Rattle.rb_meaning_flow.specs.Marks.{mark_at, place_at, marks_of, places_of}
use Rattle.rb_meaning_flow.specs.Programs.{sites_of}
use Rattle.rb_marks.specs.Laws.{EachHasItsMark, NoMarkElsewhere, EachHasItsPlace, NoPlaceElsewhere}
use Rattle.rb_marks.specs.Notes.{first_at}
use Rattle.rb_marks.proofs.Maps.{get_note}
use Rattle.rb_marks.proofs.Counts.{count, at_most_once, found, found_none, in_all, in_one}
use Rattle.rb_marks.proofs.Placed.{site_at, stmt_site_at, exprs_stand_once, stmts_stand_once}

-- the notes of batches are those of all their sites
marks_together : (x : Facts) (bs : List (List StmtSite)) → flat_map (marks_of x) bs ≡ map (λ s. (site_at s, mark_at x s)) (flat_map exprs_of bs)
marks_together x [] = refl
marks_together x (b ∷ bs) = ap (λ ns. marks_of x b ++ ns) (marks_together x bs) ∙ sym (map-append (λ s. (site_at s, mark_at x s)) (exprs_of b) (flat_map exprs_of bs))

places_together : (x : Facts) (bs : List (List StmtSite)) → flat_map (places_of x) bs ≡ map (λ s. (stmt_site_at s, place_at x s)) (flat_map (λ ss. ss) bs)
places_together x [] = refl
places_together x (b ∷ bs) = ap (λ ns. places_of x b ++ ns) (places_together x bs) ∙ sym (map-append (λ s. (stmt_site_at s, place_at x s)) b (flat_map (λ ss. ss) bs))

pub each_has_its_mark : EachHasItsMark
each_has_its_mark p lawful s h =
    let x = facts_of p in
    let once : count (site_at s) (map site_at (flat_map exprs_of (sites_of p))) ≤ 1 =
    omega (arith, exprs_stand_once (site_at s) x p, at_most_once (site_at s) (classes_positions p.classes ++ body_positions p.body) lawful.positions) in
    get_note (flat_map (marks_of x) (sites_of p)) (site_at s) ∙ ap (λ ns. first_at ns (site_at s) None) (marks_together x (sites_of p))
    ∙ found site_at (mark_at x) (flat_map exprs_of (sites_of p)) s (in_all exprs_of (sites_of p) h.batch s h.is_batch h.stands) once

pub no_mark_elsewhere : NoMarkElsewhere
no_mark_elsewhere p q absent =
    let x = facts_of p in
    get_note (flat_map (marks_of x) (sites_of p)) q ∙ ap (λ ns. first_at ns q None) (marks_together x (sites_of p))
    ∙ found_none site_at (mark_at x) (flat_map exprs_of (sites_of p)) q (λ s m e. (let n = in_one exprs_of (sites_of p) s m in absent s (record { batch = n.0; is_batch = n.1; stands = n.2 }) e))

pub each_has_its_place : EachHasItsPlace
each_has_its_place p lawful s h =
    let x = facts_of p in
    let once : count (stmt_site_at s) (map stmt_site_at (flat_map (λ ss. ss) (sites_of p))) ≤ 1 =
    omega (arith, stmts_stand_once (stmt_site_at s) x p, at_most_once (stmt_site_at s) (classes_positions p.classes ++ body_positions p.body) lawful.positions) in
    get_note (flat_map (places_of x) (sites_of p)) (stmt_site_at s) ∙ ap (λ ns. first_at ns (stmt_site_at s) None) (places_together x (sites_of p))
    ∙ found stmt_site_at (place_at x) (flat_map (λ ss. ss) (sites_of p)) s (in_all (λ ss. ss) (sites_of p) h.batch s h.is_batch h.stands) once

pub no_place_elsewhere : NoPlaceElsewhere
no_place_elsewhere p q absent =
    let x = facts_of p in
    get_note (flat_map (places_of x) (sites_of p)) q ∙ ap (λ ns. first_at ns q None) (places_together x (sites_of p))
    ∙ found_none stmt_site_at (place_at x) (flat_map (λ ss. ss) (sites_of p)) q
    (λ s m e. (let n = in_one (λ ss. ss) (sites_of p) s m in absent s (record { batch = n.0; is_batch = n.1; stands = n.2 }) e))
