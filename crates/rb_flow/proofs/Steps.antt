-- What each step of the walk back gives, and what the whole walk gives.
use Rattle.std.proofs.Common.{◌≡◌, ℕ, ◌+◌, ◌<◌, ◌≤◌, ◌⊎◌, inl, inr, List, [], ◌∷◌, ◌++◌, length, reverse, append_assoc, length-append, get_or, Option, Some, None, slice_get, refl, sym, ap, ◌∙◌, subst, arith}
use Rattle.std.proofs.lemmas.List.{append-nil, reverse-append, reverse-reverse, length-reverse}
use Rattle.std.proofs.lemmas.Option.{get_or_from_slice_get}
use Rattle.std.proofs.lemmas.Bool.{cases_lt}
use Rattle.rb_trees.specs.declared.flows.Writer.{Writer}
use Rattle.rb_trees.specs.declared.flows.BadPart.{BadPart}
use Rattle.rb_flow.specs.declared.origins.Origin.{Origin}
use Rattle.rb_meaning_flow.specs.Chains.{Leads, IsLess, IsLeastChain, PositionsDiffer}
use Rattle.rb_flow.specs.Levels.{Among}
use Rattle.rb_flow.specs.Origins.{first_of, least_of}
use Rattle.rb_flow.specs.Walks.{FirstDiffers, IsFirstWay, Guides, Stands, IsWayTo, Walked, Ended}
use Rattle.rb_flow.proofs.Lists.{among_contained}
use Rattle.rb_flow.proofs.Firsts.{least_is, least_some, least_none}
use Rattle.rb_flow.proofs.Law.{place_of, at_least, source_first, step_first, no_source, origin_found, some_found, above_at, step_lower}

-- what was read at a place is the writer there
pub read_at : (writers : List Writer) (i : ℕ) (v r : Writer) → slice_get writers i ≡ Some v → r ≡ get_or writers i r → slice_get writers i ≡ Some r
read_at writers i v r e read = e ∙ ap Some (sym (read ∙ get_or_from_slice_get writers i v r e))

-- at a writer of level 1 there is a source
pub source_there : (writers : List Writer) (levels : List ℕ) (origins : ℕ → Option Origin) (here : Origin) (w : Writer) → Guides writers levels origins → Stands writers levels here
    → slice_get writers here.place ≡ Some w → here.level ≡ 1 → (least : ℕ) × (least_of w.sources None ≡ Some least)
source_there writers levels origins here w guides stands is one =
    let some = guides.certificate.source here.place w is (sym stands.level ∙ one) in
    least_some w.sources some.0 some.1

pub source_way : (writers : List Writer) (here : Origin) (w : Writer) (c : ℕ) → slice_get writers here.place ≡ Some w → here.level ≡ 1 → least_of w.sources None ≡ Some c → IsWayTo writers here c []
source_way writers here w c is one least = record {
  way = λ v e. (let same : w ≡ v = (let both = sym is ∙ e in cc) in
      subst (λ x. IsFirstWay writers x.reads x.sources c []) same (source_first writers w.reads w.sources c (least_is w.sources c least)));
  size = omega arith;
}

-- at a writer of a further level there is a writer before it
pub step_there : (writers : List Writer) (levels : List ℕ) (origins : ℕ → Option Origin) (here : Origin) (w : Writer) → Guides writers levels origins → Stands writers levels here
    → slice_get writers here.place ≡ Some w → 1 < here.level → (o : Origin) × (first_of origins w.reads None ≡ Some o)
step_there writers levels origins here w guides stands is far =
    let x = above_at writers levels guides.certificate here.place here.level w is (sym stands.level) far in
    let l = x.4 in
    some_found writers levels origins w.reads guides x.0 x.1 x.2 x.3 (omega arith)

pub found_stands : (writers : List Writer) (levels : List ℕ) (origins : ℕ → Option Origin) (reads : List ℕ) (o : Origin) → Guides writers levels origins → first_of origins reads None ≡ Some o → Stands writers levels o
found_stands writers levels origins reads o guides e =
    let f = origin_found writers levels origins reads o guides e in
    record { writer = f.writer; is = f.is; at = f.at; level = f.level; positive = f.positive }

pub step_way : (writers : List Writer) (levels : List ℕ) (origins : ℕ → Option Origin) (here : Origin) (w : Writer) (o : Origin) → PositionsDiffer writers → Guides writers levels origins → Stands writers levels here
    → slice_get writers here.place ≡ Some w → 1 < here.level → first_of origins w.reads None ≡ Some o → (c : ℕ) (ps : List ℕ) → IsWayTo writers o c ps → IsWayTo writers here c (o.at ∷ ps)
step_way writers levels origins here w o differ guides stands is far e c ps way =
    let f = origin_found writers levels origins w.reads o guides e in
    let lower = step_lower writers levels origins here o w guides is stands.level far e in
    let size = way.size in
    let l = stands.level in
    record {
      way = λ v ev. (let same : w ≡ v = (let both = sym is ∙ ev in cc) in
          subst (λ x. IsFirstWay writers x.reads x.sources c (o.at ∷ ps)) same
          (step_first writers levels w.reads w.sources o f.writer c ps differ guides.certificate
          (no_source writers levels guides.certificate here.place w is (omega arith)) f.is f.at f.among f.firsts way));
      size = omega arith;
    }

-- one more step of the walk
pub walk_on : (writers : List Writer) (levels before now after : List ℕ) (from here next : Origin) → Walked writers levels before now from here → Stands writers levels next
    → ((c : ℕ) (ps : List ℕ) → IsWayTo writers next c ps → IsWayTo writers here c (next.at ∷ ps)) → after ≡ now ++ next.at ∷ [] → Walked writers levels before after from next
walk_on writers levels before now after from here next walked stands way e = record {
  path = walked.path ++ next.at ∷ [];
  now_is = e ∙ ap (λ xs. xs ++ next.at ∷ []) walked.now_is ∙ append_assoc before (from.at ∷ walked.path) (next.at ∷ []);
  stands = stands;
  rest = λ c ps w. subst (λ xs. IsWayTo writers from c xs) (sym (append_assoc walked.path (next.at ∷ []) ps)) (walked.rest c (next.at ∷ ps) (way c ps w));
}

pub walk_ends : (writers : List Writer) (levels before now after : List ℕ) (from here : Origin) (source : ℕ) → Walked writers levels before now from here → IsWayTo writers here source []
    → after ≡ now ++ source ∷ [] → Ended writers before after from
walk_ends writers levels before now after from here source walked way e = record {
  path = walked.path;
  source = source;
  now_is = e ∙ ap (λ xs. xs ++ source ∷ []) walked.now_is;
  way = subst (λ xs. IsWayTo writers from source xs) (append-nil walked.path) (walked.rest source [] way);
}

-- where no source and no writer with a level is read, no way leads there
pub no_way : (writers : List Writer) (levels : List ℕ) (origins : ℕ → Option Origin) (reads sources : List ℕ) → Guides writers levels origins → least_of sources None ≡ None → first_of origins reads None ≡ None
    → (c : ℕ) (ps : List ℕ) → Leads writers reads sources c ps → ⊥
no_way writers levels origins reads sources guides none nowhere c [] l = subst (λ xs. Among xs c) (least_none sources none) (among_contained sources c l)
no_way writers levels origins reads sources guides none nowhere c (p ∷ ps) l =
    let there = place_of writers l.0 l.1 in
    let least = at_least writers levels guides.certificate there.0 l.0 there.1 c ps l.4 in
    let some = some_found writers levels origins reads guides there.0 l.0 there.1 (among_contained reads l.0.writes l.3) least.0 in
    (let both = sym nowhere ∙ some.1 in cc)

-- a bad part without sources: the first writer of what it reads, and its first way
pub part_way : (writers : List Writer) (levels : List ℕ) (origins : ℕ → Option Origin) (reads sources : List ℕ) (o : Origin) (c : ℕ) (ps : List ℕ) → PositionsDiffer writers → Guides writers levels origins
    → least_of sources None ≡ None → first_of origins reads None ≡ Some o → IsWayTo writers o c ps → IsFirstWay writers reads sources c (o.at ∷ ps)
part_way writers levels origins reads sources o c ps differ guides none e way =
    let f = origin_found writers levels origins reads o guides e in
    step_first writers levels reads sources o f.writer c ps differ guides.certificate (λ d m. subst (λ xs. Among xs d) (least_none sources none) m) f.is f.at f.among f.firsts way

-- positions from a bad part back to the source, turned round
turned : (u c : ℕ) (ps : List ℕ) → reverse (u ∷ (ps ++ c ∷ [])) ≡ c ∷ (reverse ps ++ u ∷ [])
turned u c ps = reverse-append (u ∷ []) (ps ++ c ∷ []) ∙ ap (λ xs. xs ++ u ∷ []) (reverse-append ps (c ∷ []))

-- and back
turned_back : (u c : ℕ) (ws : List ℕ) → reverse (c ∷ (ws ++ u ∷ [])) ≡ u ∷ (reverse ws ++ c ∷ [])
turned_back u c ws = turned c u ws

differs_or : (c d : ℕ) (ps qs : List ℕ) → FirstDiffers c ps d qs → ((c ≡ d) × (ps ≡ qs)) ⊎ IsLess (ps ++ c ∷ []) (qs ++ d ∷ [])
differs_or c d [] [] h = elim (le_or c d h) [ inl e ↦ inl (e, refl) | inr lt ↦ inr (inl lt) ]
  where
    le_or : (c d : ℕ) → c ≤ d → (c ≡ d) ⊎ (c < d)
    le_or c d h = elim (cases_lt c d) [ inl lt ↦ inr lt | inr ge ↦ inl (omega arith) ]
differs_or c d [] (q ∷ qs) h = absurd h
differs_or c d (p ∷ ps) [] h = absurd h
differs_or c d (p ∷ ps) (q ∷ qs) h = elim h [
  | inl lt ↦ inr (inl lt)
  | inr tied ↦ elim (differs_or c d ps qs tied.1) [
    | inl same ↦ inl (same.0, (let e = tied.0 in let r = same.1 in cc))
    | inr less ↦ inr (inr (tied.0, less))
  ]
]

size_of : (u c : ℕ) (ws : List ℕ) → length (c ∷ (ws ++ u ∷ [])) ≡ length ws + 2
size_of u c ws = let l = length-append ws (u ∷ []) in omega arith

-- the chain of a first way is before each other chain
pub chain_named : (writers : List Writer) (u : BadPart) (c : ℕ) (ps : List ℕ) → IsFirstWay writers u.reads u.sources c ps → IsLeastChain writers u (c ∷ (reverse ps ++ u.at ∷ []))
chain_named writers u c ps way = (
  (c, reverse ps, refl, subst (λ xs. Leads writers u.reads u.sources c xs) (sym (reverse-reverse ps)) way.leads),
  λ other h.
      let d = h.0 in
      let ws = h.1 in
      let mine : reverse (c ∷ (reverse ps ++ u.at ∷ [])) ≡ u.at ∷ (ps ++ c ∷ []) = turned_back u.at c (reverse ps) ∙ ap (λ xs. u.at ∷ (xs ++ c ∷ [])) (reverse-reverse ps) in
      let its : reverse other ≡ u.at ∷ (reverse ws ++ d ∷ []) = ap reverse h.2 ∙ turned_back u.at d ws in
      let size : length (c ∷ (reverse ps ++ u.at ∷ [])) ≡ length ps + 2 = size_of u.at c (reverse ps) ∙ ap (λ n. n + 2) (length-reverse ps) in
      let its_size : length other ≡ length (reverse ws) + 2 = ap length h.2 ∙ size_of u.at d ws ∙ ap (λ n. n + 2) (sym (length-reverse ws)) in
      elim (way.first d (reverse ws) h.3) [
        | inl shorter ↦ inr (inl (omega arith))
        | inr tied ↦ elim (differs_or c d ps (reverse ws) tied.1) [
          | inl same ↦ inl (h.2 ∙ (let e = same.0 in let f : reverse ps ≡ ws = ap reverse same.1 ∙ reverse-reverse ws in cc))
          | inr less ↦ inr (inr (
            size ∙ ap (λ n. n + 2) tied.0 ∙ sym its_size,
            subst (λ xs. IsLess xs (reverse other)) (sym mine) (subst (λ ys. IsLess (u.at ∷ (ps ++ c ∷ [])) ys) (sym its) (inr (refl, less))),
          ))
        ]
      ],
)

pub chain_found : (writers : List Writer) (u : BadPart) (c : ℕ) (ps positions reversed chain : List ℕ) → IsFirstWay writers u.reads u.sources c ps → positions ≡ u.at ∷ (ps ++ c ∷ []) → reversed ≡ reverse positions → chain ≡ reversed
    → IsLeastChain writers u chain
chain_found writers u c ps positions reversed chain way e f g =
    subst (IsLeastChain writers u) (sym (g ∙ f ∙ ap reverse e ∙ turned u.at c ps)) (chain_named writers u c ps way)
