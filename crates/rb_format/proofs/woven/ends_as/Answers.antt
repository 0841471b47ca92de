use Rattle.std.specs.Prelude.{Some, codes}
use Rattle.std.proofs.Common.{sym, ◌∙◌, length, drop}
use Rattle.std.proofs.lemmas.Bool.Decides.{Decides-eqb}
use Rattle.std.proofs.lemmas.Slice.Eq.{starts_is, strip_prefix_is}
use Rattle.rb_format.proofs.LinesRead.{ends_plain, ends_commented}
use Rattle.rb_format.proofs.woven.ends_as.Goals as goal

pub returns-then-is_empty : goal.returns-then-is_empty
returns-then-is_empty c = λ yes.
    ends_plain c.args.wanted.now c.args.line.now c.in-Some.behind.now
    (strip_prefix_is Decides-eqb c.args.line.now c.args.wanted.now (Some c.in-Some.behind) c.in-Some.ensures.cases)
    ((Decides-eqb (length c.in-Some.behind.now) 0).0 (sym c.is_empty.ensures ∙ yes))

pub returns-else-is_empty : goal.returns-else-is_empty
returns-else-is_empty c = λ yes.
    ends_commented c.args.wanted.now c.args.line.now c.in-Some.behind.now (drop 4 c.in-Some.behind.now)
    (strip_prefix_is Decides-eqb c.args.line.now c.args.wanted.now (Some c.in-Some.behind) c.in-Some.ensures.cases)
    ((starts_is Decides-eqb c.in-Some.behind.now (codes "  //") c.starts_with.result c.starts_with.ensures.value).0 yes)
