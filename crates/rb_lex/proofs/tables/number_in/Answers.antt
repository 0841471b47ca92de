-- What `number_in` answers.
use Rattle.std.proofs.Common.{rules, tests}
use Rattle.std.proofs.lemmas.Iterator.{YieldsList-from_slice}
use Rattle.std.proofs.lemmas.Iterator.Search.{position_from_yields_List}
use Rattle.std.specs.Str.{bytes_eq}
use Rattle.rb_lex.proofs.Lookup.{place_found}
use Rattle.rb_lex.proofs.tables.number_in.Goals as goal

pub returns-clause-value : goal.returns-clause-value
returns-clause-value c =
    place_found c.args.table.now c.args.word.now _
    (position_from_yields_List (λ s. bytes_eq s.now c.args.word.now) _ _ _ c.position.ensures.ran (YieldsList-from_slice c.args.table.now c.iter.ensures.rest) (λ x b q k. search (rules, tests)))
