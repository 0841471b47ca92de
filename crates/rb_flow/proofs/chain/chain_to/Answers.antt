use Rattle.std.proofs.Common.{[], ◌∷◌, ◌++◌, nat_eq, None, sym, ap, ◌∙◌}
use Rattle.std.specs.HashMap.{get}
use Rattle.rb_flow.specs.Origins.{first_of, least_of}
use Rattle.rb_flow.proofs.Firsts.{least_is}
use Rattle.rb_flow.proofs.Law.{source_first}
use Rattle.rb_flow.proofs.Steps.{found_stands, no_way, part_way, chain_found}
use Rattle.rb_flow.proofs.chain.chain_to.Goals as goal
use Rattle.rb_flow.proofs.chain.chain_to.Goals.{in-Some+in_ok-push-in-Some, in-None+in-Some-first_of+in_ok-walk-in-Some-first_of}

pub walk-requires-clause-stands : goal.walk-requires-clause-stands
walk-requires-clause-stands c =
    found_stands c.args.writers.now c.args.search.now.levels.items (get nat_eq c.args.search.now.origins) c.as_slice-in-None.result.now c.in-Some-first_of.origin c.requires.guides (sym c.first_of.ensures ∙ c.in-Some-first_of.is)

pub returns-in-None-first_of-clause-none : goal.returns-in-None-first_of-clause-none
returns-in-None-first_of-clause-none c = λ chain h.
    no_way c.args.writers.now c.args.search.now.levels.items (get nat_eq c.args.search.now.origins) c.args.part.now.reads c.args.part.now.sources c.requires.guides
    (ap (λ xs. least_of xs None) (sym c.as_slice.ensures) ∙ sym c.least_of.ensures ∙ c.in-None.is)
    (ap (λ xs. first_of (get nat_eq c.args.search.now.origins) xs None) (sym c.as_slice-in-None.ensures) ∙ sym c.first_of.ensures ∙ c.in-None-first_of.is)
    h.0 _ h.3

pub returns-clause-chain : goal.returns-clause-chain
returns-clause-chain c = elim c.match-least_of.branch [
  | in-Some+in_ok-push-in-Some w ↦
      chain_found c.args.writers.now c.args.part.now w.in-Some.source [] c.match-least_of.positions.items c.reverse.new.self.items c.from_vec.result
      (source_first c.args.writers.now c.args.part.now.reads c.args.part.now.sources w.in-Some.source
      (least_is c.args.part.now.sources w.in-Some.source (ap (λ xs. least_of xs None) (sym c.as_slice.ensures) ∙ sym c.least_of.ensures ∙ w.in-Some.is)))
      (ap (λ v. v.items) w.positions-is ∙ w.in_ok-push-in-Some.ensures.items ∙ ap (λ xs. xs ++ w.in-Some.source ∷ []) (c.in_ok-push.ensures.items ∙ ap (λ xs. xs ++ c.args.part.now.at ∷ []) c.new-positions.ensures.items))
      c.reverse.ensures.items c.from_vec.ensures
  | in-None+in-Some-first_of+in_ok-walk-in-Some-first_of w ↦
      let ended = w.in_ok-walk-in-Some-first_of.ensures in
      chain_found c.args.writers.now c.args.part.now ended.source (w.in-Some-first_of.origin.at ∷ ended.path) c.match-least_of.positions.items c.reverse.new.self.items c.from_vec.result
      (part_way c.args.writers.now c.args.search.now.levels.items (get nat_eq c.args.search.now.origins) c.args.part.now.reads c.args.part.now.sources w.in-Some-first_of.origin ended.source ended.path c.requires.differ c.requires.guides
      (ap (λ xs. least_of xs None) (sym c.as_slice.ensures) ∙ sym c.least_of.ensures ∙ w.in-None.is)
      (ap (λ xs. first_of (get nat_eq c.args.search.now.origins) xs None) (sym w.as_slice-in-None.ensures) ∙ sym w.first_of.ensures ∙ w.in-Some-first_of.is) ended.way)
      (ap (λ v. v.items) w.positions-is ∙ ended.now_is ∙ ap (λ xs. (xs ++ w.in-Some-first_of.origin.at ∷ ended.path) ++ ended.source ∷ []) (c.in_ok-push.ensures.items ∙ ap (λ xs. xs ++ c.args.part.now.at ∷ []) c.new-positions.ensures.items))
      c.reverse.ensures.items c.from_vec.ensures
]
