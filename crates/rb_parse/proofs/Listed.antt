-- Each production stands in the table.
use Rattle.std.proofs.Common.{ℕ, List, [], ◌∷◌, Option, Some}
use Rattle.rb_meaning_bytes.specs.grammar.Symbols as s
use Rattle.rb_meaning_bytes.specs.grammar.Symbols.{Symbol, Nonterminal, TreeOf, Makes}
use Rattle.rb_meaning_bytes.specs.grammar.Productions as r
use Rattle.rb_meaning_bytes.specs.grammar.Productions.{Production}
use Rattle.rb_parse.specs.Table.{Choice, choice, cases, otherwise}

-- a production is one of the list, or the last one
pub data In {source : List ℕ} {p : Nonterminal} (c : Choice source p) : List (Choice source p) → Option (Choice source p) → Type 0 where
  here : {cs : List (Choice source p)} {d : Option (Choice source p)} → In c (c ∷ cs) d
  there : {b : Choice source p} {cs : List (Choice source p)} {d : Option (Choice source p)} → In c cs d → In c (b ∷ cs) d
  last : In c [] (Some c)

pub listed : {source : List ℕ} {p : Nonterminal} {l : List Symbol} {f : Makes l (TreeOf p)} (rule : Production source p l f) → In (choice rule) (cases source p) (otherwise source p)
unfolding cases otherwise
listed r.program = last
listed r.more_interfaces = here
listed r.no_interfaces = there (last)
listed r.interface = last
listed r.more_signatures = here
listed r.no_signatures = there (last)
listed r.signature = last
listed r.params = here
listed r.no_params = there (last)
listed r.more_params = here
listed r.last_param = there (last)
listed r.param = last
listed r.result_type = here
listed r.no_result_type = there (last)
listed r.more_classes = here
listed r.no_classes = there (last)
listed r.class = last
listed r.more_fields = here
listed r.no_fields = there (last)
listed r.more_methods = here
listed r.no_methods = there (last)
listed r.remote_method = here
listed r.local_method = there (last)
listed r.int_type = here
listed r.bool_type = there (here)
listed r.text_type = there (there (here))
listed r.unit_type = there (there (there (here)))
listed r.named_type = there (there (there (there (here))))
listed r.list_type = there (there (there (there (there (here)))))
listed r.rows_type = there (there (there (there (there (there (here))))))
listed r.body = last
listed r.«return» = here
listed r.no_return = there (last)
listed r.block = last
listed r.more_statements = here
listed r.no_statements = there (last)
listed r.val = there (there (there (there (there (here)))))
listed r.var = there (there (there (there (there (there (here))))))
listed r.print = there (there (there (there (there (there (there (here)))))))
listed r.throw = there (there (there (there (there (there (there (there (here))))))))
listed r.«if» = here
listed r.while = there (here)
listed r.for = there (there (here))
listed r.try = there (there (there (here)))
listed r.batch = there (there (there (there (here))))
listed r.expression_first = there (there (there (there (there (there (there (there (there (last)))))))))
listed r.alone = here
listed r.assigned = there (here)
listed r.«else» = here
listed r.no_else = there (last)
listed r.alternatives = last
listed r.conditions = last
listed r.comparison = last
listed r.ordering = last
listed r.sum = last
listed r.product = last
listed r.or = here
listed (r.last_operand s.OrLevel) = there (last)
listed r.and = here
listed (r.last_operand s.AndLevel) = there (last)
listed r.equal = here
listed r.unequal = there (here)
listed (r.last_operand s.SameLevel) = there (there (last))
listed r.less = here
listed r.at_most = there (here)
listed r.greater = there (there (here))
listed r.at_least = there (there (there (here)))
listed (r.last_operand s.OrderLevel) = there (there (there (there (last))))
listed r.plus = here
listed r.minus = there (here)
listed (r.last_operand s.SumLevel) = there (there (last))
listed r.times = here
listed r.divided = there (here)
listed r.remainder = there (there (here))
listed (r.last_operand s.ProductLevel) = there (there (there (last)))
listed r.not = here
listed r.negative = there (here)
listed r.postfix = there (there (last))
listed r.first = last
listed r.member_of = here
listed r.index = there (here)
listed r.no_members = there (there (last))
listed r.call = here
listed r.no_call = there (last)
listed r.number = here
listed r.text = there (here)
listed r.true_literal = there (there (here))
listed r.false_literal = there (there (there (here)))
listed r.this = there (there (there (there (here))))
listed r.name = there (there (there (there (there (here)))))
listed r.len = there (there (there (there (there (there (here))))))
listed r.str = there (there (there (there (there (there (there (here)))))))
listed r.new = there (there (there (there (there (there (there (there (here))))))))
listed r.list = there (there (there (there (there (there (there (there (there (here)))))))))
listed r.inside = there (there (there (there (there (there (there (there (there (there (here))))))))))
listed r.arguments = here
listed r.no_arguments = there (last)
listed r.more_arguments = here
listed r.last_argument = there (last)
listed r.service = last
listed r.more_objects = here
listed r.no_objects = there (last)
listed r.object = last
listed r.more_given_fields = here
listed r.no_given_fields = there (last)
listed r.literal_number = here
listed r.literal_text = there (here)
listed r.literal_true = there (there (here))
listed r.literal_false = there (there (there (here)))
listed r.literal_minus = there (there (there (there (here))))
listed r.literal_object = there (there (there (there (there (here)))))
listed r.literal_list = there (there (there (there (there (there (here))))))
listed r.literals = here
listed r.no_literals = there (last)
listed r.more_literals = here
listed r.last_literal = there (last)
