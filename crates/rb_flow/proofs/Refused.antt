-- Each bad part has its refusal: the search by levels ends, and the walk back from the part finds its least chain.
use Rattle.std.proofs.Common.{◌≡◌, ℕ, zero, suc, ◌+◌, ◌-◌, ◌<◌, ◌≤◌, ◌⊎◌, inl, inr, List, [], ◌∷◌, ◌++◌, length, map, reverse, Option, Some, None, refl, subst, arith}
use Rattle.std.specs.List.{flat_map}
use Rattle.rb_trees.specs.declared.flows.Writer.{Writer}
use Rattle.rb_trees.specs.declared.flows.BadPart.{BadPart}
use Rattle.rb_trees.specs.declared.refusals.Refusal.{Refusal}
use Rattle.rb_trees.specs.declared.refusals.Refusal.TheVariants.{Flow, NotConstant}
use Rattle.rb_meaning_flow.specs.Facts.{facts_of}
use Rattle.rb_meaning_flow.specs.Chains.{Leads, PositionsDiffer}
use Rattle.rb_meaning_flow.specs.Flow.{writers}
use Rattle.rb_meaning_flow.specs.Outermost.{batch_sites, program_batches}
use Rattle.rb_flow.specs.declared.origins.Origin.{Origin}
use Rattle.rb_flow.specs.Levels.{zeros, Reached, expanded, after, first_level, started, Searched, Certificate}
use Rattle.rb_flow.specs.Origins.{first_from, first_of, least_of}
use Rattle.rb_flow.specs.Walks.{IsFirstWay, Guides, Stands, IsWayTo}
use Rattle.rb_flow.specs.Answers.{SitesDiffer, IsFlowRefusal}
use Rattle.rb_flow.specs.Laws.{EachBadPartHasARefusal}
use Rattle.rb_flow.proofs.Firsts.{least_is}
use Rattle.rb_flow.proofs.Search.{search_starts, search_goes_on, search_ends}
use Rattle.rb_flow.proofs.Law.{source_first, step_lower}
use Rattle.rb_flow.proofs.Steps.{source_there, source_way, step_there, step_way, found_stands, no_way, part_way, chain_named}
use Rattle.rb_flow.proofs.Decisions.{part_refused}
use Rattle.rb_flow.proofs.Differ.{sites_differ}
use Rattle.rb_flow.proofs.Among.{mapped_from, batch_once}

-- the search ends, since each turn gives levels to places that had none
levels_found : (writers : List Writer) (turns : ℕ) (levels frontier : List ℕ) (level : ℕ) → 1 ≤ level → zeros levels + length frontier ≤ turns → Searched writers levels frontier level
    → (found : List ℕ) × Certificate writers found
levels_found writers zero levels [] level pos few h = (levels, search_ends writers levels [] level refl h)
levels_found writers zero levels (f ∷ fs) level pos few h = absurd (omega arith)
levels_found writers (suc n) levels [] level pos few h = (levels, search_ends writers levels [] level refl h)
levels_found writers (suc n) levels (f ∷ fs) level pos few h =
    let s : Reached = expanded (level + 1) (flat_map (after writers) (f ∷ fs)) (record { levels = levels; next = [] }) in
    let on = search_goes_on writers levels (f ∷ fs) level s pos (omega arith) h refl in
    levels_found writers n s.levels s.next (level + 1) (omega arith) (omega (arith, on.1)) on.0

-- what a search finds: levels that are right, and each node's first writer
record Found (writers : List Writer) : Type 0 where
  pub levels : List ℕ
  pub guides : Guides writers levels (λ n. first_from 0 writers levels n None)

search_found : (writers : List Writer) → Found writers
search_found writers =
    let start : List ℕ = map first_level writers in
    let frontier : List ℕ = started 0 writers in
    let ended = levels_found writers (zeros start + length frontier) start frontier 1 (omega arith) (omega arith) (search_starts writers) in
    record { levels = ended.0; guides = record { certificate = ended.1; known = λ n. refl } }

-- back from a writer to a source
way_to : (writers : List Writer) (levels : List ℕ) (origins : ℕ → Option Origin) → PositionsDiffer writers → Guides writers levels origins
    → (n : ℕ) (o : Origin) → Stands writers levels o → o.level ≡ suc n → (c : ℕ) × (ps : List ℕ) × IsWayTo writers o c ps
way_to writers levels origins differ guides zero o stands e =
    let some = source_there writers levels origins o stands.writer guides stands stands.is e in
    (some.0, [], source_way writers o stands.writer some.0 stands.is e some.1)
way_to writers levels origins differ guides (suc n) o stands e =
    let far : 1 < o.level = omega arith in
    let next = step_there writers levels origins o stands.writer guides stands stands.is far in
    let lower : next.0.level + 1 ≡ o.level = step_lower writers levels origins o next.0 stands.writer guides stands.is stands.level far next.1 in
    let rest = way_to writers levels origins differ guides n next.0 (found_stands writers levels origins stands.writer.reads next.0 guides next.1) (omega arith) in
    (rest.0, next.0.at ∷ rest.1, step_way writers levels origins o stands.writer next.0 differ guides stands stands.is far next.1 rest.0 rest.1 rest.2)

-- a first way leads to what reads these nodes and has these sources, or none does
abbrev WayOrNone : List Writer → List ℕ → List ℕ → Type 0
WayOrNone writers reads sources = ((c : ℕ) × (ps : List ℕ) × IsFirstWay writers reads sources c ps) ⊎ ((c : ℕ) (ps : List ℕ) → Leads writers reads sources c ps → ⊥)

by_origin : (writers : List Writer) (levels : List ℕ) (origins : ℕ → Option Origin) (reads sources : List ℕ) → PositionsDiffer writers → Guides writers levels origins → least_of sources None ≡ None
    → (o : Option Origin) → first_of origins reads None ≡ o → WayOrNone writers reads sources
by_origin writers levels origins reads sources differ guides none None e = inr (no_way writers levels origins reads sources guides none e)
by_origin writers levels origins reads sources differ guides none (Some o) e =
    let stands = found_stands writers levels origins reads o guides e in
    let pos : 1 ≤ o.level = stands.positive in
    let way = way_to writers levels origins differ guides (o.level - 1) o stands (omega arith) in
    inl (way.0, o.at ∷ way.1, part_way writers levels origins reads sources o way.0 way.1 differ guides none e way.2)

by_source : (writers : List Writer) (levels : List ℕ) (origins : ℕ → Option Origin) (reads sources : List ℕ) → PositionsDiffer writers → Guides writers levels origins
    → (least : Option ℕ) → least_of sources None ≡ least → WayOrNone writers reads sources
by_source writers levels origins reads sources differ guides None e = by_origin writers levels origins reads sources differ guides e (first_of origins reads None) refl
by_source writers levels origins reads sources differ guides (Some c) e = inl (c, [], source_first writers reads sources c (least_is sources c e))

way_or_none : (writers : List Writer) (reads sources : List ℕ) → PositionsDiffer writers → WayOrNone writers reads sources
way_or_none writers reads sources differ =
    let found = search_found writers in
    by_source writers found.levels (λ n. first_from 0 writers found.levels n None) reads sources differ found.guides (least_of sources None) refl

-- the refusal of a bad part, whatever it is
part_has_refusal : (ws : List Writer) (u : BadPart) → PositionsDiffer ws → (r : Refusal) × IsFlowRefusal ws u r
part_has_refusal ws u differ = elim (way_or_none ws u.reads u.sources differ) [
  | inl way ↦ (Flow (way.0 ∷ (reverse way.1 ++ u.at ∷ [])), chain_named ws u way.0 way.1 way.2)
  | inr none ↦ (NotConstant u.at, (refl, λ chain h. none h.0 (reverse h.1) h.3))
]

pub each_bad_part_has_a_refusal : EachBadPartHasARefusal
each_bad_part_has_a_refusal p lawful ss batch u h =
    let x = facts_of p in
    let m = mapped_from (batch_sites x) (program_batches x p) ss batch in
    let differ : SitesDiffer x ss = subst (SitesDiffer x) m.2 (sites_differ x (batch_sites x m.0) (batch_once x p lawful m.0 m.1)) in
    let r = part_has_refusal (writers x ss) u differ.writers in
    let refused = part_refused x ss u r.0 h r.1 in
    (r.0, (ss, batch, refused.0), refused.1, r.1)
