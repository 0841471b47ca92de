-- How a text is read from the left: which production a part goes on by is told by the next token alone.
use Rattle.std.specs.Prelude.{ℕ, List, [], ◌∷◌, ◌++◌, Bool, true, false, cond, Option, Some, None}
use Rattle.rb_trees.specs.declared.tokens.Token.{Token}
use Rattle.rb_trees.specs.declared.tokens.TokenKind.{TokenKind}
use Rattle.rb_trees.specs.declared.tokens.TokenKind.TheVariants as kind
use Rattle.rb_trees.specs.Kinds as k
use Rattle.rb_trees.specs.Kinds.{is_one_of}
use Rattle.rb_meaning_bytes.specs.grammar.Symbols as s
use Rattle.rb_meaning_bytes.specs.grammar.Symbols.{Symbol, Terminal, The, Nonterminal, Chain, MoreChain, TreeOf, Makes}
use Rattle.rb_meaning_bytes.specs.grammar.Productions.{Production}
use Rattle.rb_meaning_bytes.specs.grammar.Productions as r

-- a production of a part
pub record Choice (source : List ℕ) (p : Nonterminal) : Type 0 where
  pub parts : List Symbol
  pub makes : Makes parts (TreeOf p)
  pub rule : Production source p parts makes

abbrev pub choice : {source : List ℕ} {p : Nonterminal} {l : List Symbol} {f : Makes l (TreeOf p)} → Production source p l f → Choice source p
choice {l = l} {f = f} r = record { parts = l; makes = f; rule = r }

-- the kinds that a first part of an expression begins with
abbrev pub first_kinds : List TokenKind
first_kinds = kind.Number ∷ kind.TextLit ∷ k.keyword_true ∷ k.keyword_false ∷ k.keyword_this ∷ kind.Name ∷ k.keyword_len ∷ k.keyword_str ∷ k.keyword_new ∷ k.keyword_List ∷ k.sign_open ∷ []

-- the kinds that an expression begins with
abbrev pub expression_kinds : List TokenKind
expression_kinds = k.sign_not ∷ k.sign_minus ∷ first_kinds

-- the kinds that a statement begins with
abbrev pub statement_kinds : List TokenKind
statement_kinds = k.keyword_val ∷ k.keyword_var ∷ k.keyword_print ∷ k.keyword_throw ∷ k.keyword_if ∷ k.keyword_while ∷ k.keyword_for ∷ k.keyword_try ∷ k.keyword_batch ∷ expression_kinds

-- the kinds that a literal of a service begins with
abbrev pub literal_kinds : List TokenKind
literal_kinds = kind.Number ∷ kind.TextLit ∷ k.keyword_true ∷ k.keyword_false ∷ k.sign_minus ∷ k.sign_number_sign ∷ k.sign_open_bracket ∷ []

-- the kinds that a part begins with
unfoldable pub begins : Nonterminal → List TokenKind
begins s.TheProgram = k.keyword_interface ∷ k.keyword_class ∷ k.keyword_main ∷ []
begins s.Interfaces = k.keyword_interface ∷ []
begins s.AnInterface = k.keyword_interface ∷ []
begins s.Signatures = k.keyword_fun ∷ []
begins s.ASignature = k.keyword_fun ∷ []
begins s.Params = kind.Name ∷ []
begins s.MoreParams = k.sign_comma ∷ []
begins s.AParam = kind.Name ∷ []
begins s.ResultType = k.sign_colon ∷ []
begins s.Classes = k.keyword_class ∷ []
begins s.AClass = k.keyword_class ∷ []
begins s.Fields = kind.Name ∷ []
begins s.Methods = k.keyword_remote ∷ k.keyword_fun ∷ []
begins s.AMethod = k.keyword_remote ∷ k.keyword_fun ∷ []
begins s.AType = k.keyword_Int ∷ k.keyword_Bool ∷ k.keyword_Text ∷ k.keyword_Unit ∷ kind.Name ∷ k.keyword_List ∷ k.keyword_Rows ∷ []
begins s.ABody = k.sign_open_brace ∷ []
begins s.Returns = k.keyword_return ∷ []
begins s.Block = k.sign_open_brace ∷ []
begins s.Statements = statement_kinds
begins s.Statement = statement_kinds
begins s.StatementEnd = k.sign_semicolon ∷ k.sign_assign ∷ []
begins s.Otherwise = k.keyword_else ∷ []
begins (Chain level) = expression_kinds
begins (MoreChain s.OrLevel) = k.sign_or ∷ []
begins (MoreChain s.AndLevel) = k.sign_and ∷ []
begins (MoreChain s.SameLevel) = k.sign_equal ∷ k.sign_unequal ∷ []
begins (MoreChain s.OrderLevel) = k.sign_less ∷ k.sign_at_most ∷ k.sign_greater ∷ k.sign_at_least ∷ []
begins (MoreChain s.SumLevel) = k.sign_plus ∷ k.sign_minus ∷ []
begins (MoreChain s.ProductLevel) = k.sign_star ∷ k.sign_slash ∷ k.sign_percent ∷ []
begins s.Prefix = expression_kinds
begins s.Postfix = first_kinds
begins s.Members = k.sign_dot ∷ k.sign_open_bracket ∷ []
begins s.CallPart = k.sign_open ∷ []
begins s.First = first_kinds
begins s.Arguments = expression_kinds
begins s.MoreArguments = k.sign_comma ∷ []
begins s.TheService = k.keyword_class ∷ k.keyword_object ∷ k.keyword_root ∷ []
begins s.Objects = k.keyword_object ∷ []
begins s.AnObject = k.keyword_object ∷ []
begins s.GivenFields = kind.Name ∷ []
begins s.ALiteral = literal_kinds
begins s.Literals = literal_kinds
begins s.MoreLiterals = k.sign_comma ∷ []

-- whether no token may be a spelling of the part
unfoldable pub may_be_empty : Nonterminal → Bool
may_be_empty s.Interfaces = true
may_be_empty s.Signatures = true
may_be_empty s.Params = true
may_be_empty s.MoreParams = true
may_be_empty s.ResultType = true
may_be_empty s.Classes = true
may_be_empty s.Fields = true
may_be_empty s.Methods = true
may_be_empty s.Returns = true
may_be_empty s.Statements = true
may_be_empty s.Otherwise = true
may_be_empty (MoreChain level) = true
may_be_empty s.Members = true
may_be_empty s.CallPart = true
may_be_empty s.Arguments = true
may_be_empty s.MoreArguments = true
may_be_empty s.Objects = true
may_be_empty s.GivenFields = true
may_be_empty s.Literals = true
may_be_empty s.MoreLiterals = true
may_be_empty _ = false

abbrev pub symbol_begins : Symbol → List TokenKind
symbol_begins (Terminal kind) = kind ∷ []
symbol_begins (The p) = begins p

abbrev pub symbol_may_be_empty : Symbol → Bool
symbol_may_be_empty (Terminal kind) = false
symbol_may_be_empty (The p) = may_be_empty p

-- the kinds that symbols, one after the other, begin with
abbrev pub all_begin : List Symbol → List TokenKind
all_begin [] = []
all_begin (x ∷ l) = symbol_begins x ++ cond (symbol_may_be_empty x) (all_begin l) []

-- the productions that are told by the next token, in the order in which they are tried
unfoldable pub cases : (source : List ℕ) (p : Nonterminal) → List (Choice source p)
cases source s.TheProgram = []
cases source s.Interfaces = choice r.more_interfaces ∷ []
cases source s.AnInterface = []
cases source s.Signatures = choice r.more_signatures ∷ []
cases source s.ASignature = []
cases source s.Params = choice r.params ∷ []
cases source s.MoreParams = choice r.more_params ∷ []
cases source s.AParam = []
cases source s.ResultType = choice r.result_type ∷ []
cases source s.Classes = choice r.more_classes ∷ []
cases source s.AClass = []
cases source s.Fields = choice r.more_fields ∷ []
cases source s.Methods = choice r.more_methods ∷ []
cases source s.AMethod = choice r.remote_method ∷ []
cases source s.AType = choice r.int_type ∷ choice r.bool_type ∷ choice r.text_type ∷ choice r.unit_type ∷ choice r.named_type ∷ choice r.list_type ∷ choice r.rows_type ∷ []
cases source s.ABody = []
cases source s.Returns = choice r.«return» ∷ []
cases source s.Block = []
cases source s.Statements = choice r.more_statements ∷ []
cases source s.Statement = choice r.«if» ∷ choice r.while ∷ choice r.for ∷ choice r.try ∷ choice r.batch ∷ choice r.val ∷ choice r.var ∷ choice r.print ∷ choice r.throw ∷ []
cases source s.StatementEnd = choice r.alone ∷ choice r.assigned ∷ []
cases source s.Otherwise = choice r.«else» ∷ []
cases source (Chain s.OrLevel) = []
cases source (Chain s.AndLevel) = []
cases source (Chain s.SameLevel) = []
cases source (Chain s.OrderLevel) = []
cases source (Chain s.SumLevel) = []
cases source (Chain s.ProductLevel) = []
cases source (MoreChain s.OrLevel) = choice r.or ∷ []
cases source (MoreChain s.AndLevel) = choice r.and ∷ []
cases source (MoreChain s.SameLevel) = choice r.equal ∷ choice r.unequal ∷ []
cases source (MoreChain s.OrderLevel) = choice r.less ∷ choice r.at_most ∷ choice r.greater ∷ choice r.at_least ∷ []
cases source (MoreChain s.SumLevel) = choice r.plus ∷ choice r.minus ∷ []
cases source (MoreChain s.ProductLevel) = choice r.times ∷ choice r.divided ∷ choice r.remainder ∷ []
cases source s.Prefix = choice r.not ∷ choice r.negative ∷ []
cases source s.Postfix = []
cases source s.Members = choice r.member_of ∷ choice r.index ∷ []
cases source s.CallPart = choice r.call ∷ []
cases source s.First = choice r.number ∷ choice r.text ∷ choice r.true_literal ∷ choice r.false_literal ∷ choice r.this ∷ choice r.name ∷ choice r.len ∷ choice r.str ∷ choice r.new ∷ choice r.list ∷ choice r.inside ∷ []
cases source s.Arguments = choice r.arguments ∷ []
cases source s.MoreArguments = choice r.more_arguments ∷ []
cases source s.TheService = []
cases source s.Objects = choice r.more_objects ∷ []
cases source s.AnObject = []
cases source s.GivenFields = choice r.more_given_fields ∷ []
cases source s.ALiteral = choice r.literal_number ∷ choice r.literal_text ∷ choice r.literal_true ∷ choice r.literal_false ∷ choice r.literal_minus ∷ choice r.literal_object ∷ choice r.literal_list ∷ []
cases source s.Literals = choice r.literals ∷ []
cases source s.MoreLiterals = choice r.more_literals ∷ []

-- the production that is taken where none of them is told
unfoldable pub otherwise : (source : List ℕ) (p : Nonterminal) → Option (Choice source p)
otherwise source s.TheProgram = Some (choice r.program)
otherwise source s.Interfaces = Some (choice r.no_interfaces)
otherwise source s.AnInterface = Some (choice r.interface)
otherwise source s.Signatures = Some (choice r.no_signatures)
otherwise source s.ASignature = Some (choice r.signature)
otherwise source s.Params = Some (choice r.no_params)
otherwise source s.MoreParams = Some (choice r.last_param)
otherwise source s.AParam = Some (choice r.param)
otherwise source s.ResultType = Some (choice r.no_result_type)
otherwise source s.Classes = Some (choice r.no_classes)
otherwise source s.AClass = Some (choice r.class)
otherwise source s.Fields = Some (choice r.no_fields)
otherwise source s.Methods = Some (choice r.no_methods)
otherwise source s.AMethod = Some (choice r.local_method)
otherwise source s.AType = None
otherwise source s.ABody = Some (choice r.body)
otherwise source s.Returns = Some (choice r.no_return)
otherwise source s.Block = Some (choice r.block)
otherwise source s.Statements = Some (choice r.no_statements)
otherwise source s.Statement = Some (choice r.expression_first)
otherwise source s.StatementEnd = None
otherwise source s.Otherwise = Some (choice r.no_else)
otherwise source (Chain s.OrLevel) = Some (choice r.alternatives)
otherwise source (Chain s.AndLevel) = Some (choice r.conditions)
otherwise source (Chain s.SameLevel) = Some (choice r.comparison)
otherwise source (Chain s.OrderLevel) = Some (choice r.ordering)
otherwise source (Chain s.SumLevel) = Some (choice r.sum)
otherwise source (Chain s.ProductLevel) = Some (choice r.product)
otherwise source (MoreChain s.OrLevel) = Some (choice (r.last_operand s.OrLevel))
otherwise source (MoreChain s.AndLevel) = Some (choice (r.last_operand s.AndLevel))
otherwise source (MoreChain s.SameLevel) = Some (choice (r.last_operand s.SameLevel))
otherwise source (MoreChain s.OrderLevel) = Some (choice (r.last_operand s.OrderLevel))
otherwise source (MoreChain s.SumLevel) = Some (choice (r.last_operand s.SumLevel))
otherwise source (MoreChain s.ProductLevel) = Some (choice (r.last_operand s.ProductLevel))
otherwise source s.Prefix = Some (choice r.postfix)
otherwise source s.Postfix = Some (choice r.first)
otherwise source s.Members = Some (choice r.no_members)
otherwise source s.CallPart = Some (choice r.no_call)
otherwise source s.First = None
otherwise source s.Arguments = Some (choice r.no_arguments)
otherwise source s.MoreArguments = Some (choice r.last_argument)
otherwise source s.TheService = Some (choice r.service)
otherwise source s.Objects = Some (choice r.no_objects)
otherwise source s.AnObject = Some (choice r.object)
otherwise source s.GivenFields = Some (choice r.no_given_fields)
otherwise source s.ALiteral = None
otherwise source s.Literals = Some (choice r.no_literals)
otherwise source s.MoreLiterals = Some (choice r.last_literal)

abbrev pub chosen : {source : List ℕ} {p : Nonterminal} → TokenKind → List (Choice source p) → Option (Choice source p) → Option (Choice source p)
chosen kind [] d = d
chosen kind (c ∷ cs) d = cond (is_one_of kind (all_begin c.parts)) (Some c) (chosen kind cs d)

-- the production that a part goes on by
abbrev pub predict : (source : List ℕ) (p : Nonterminal) → List Token → Option (Choice source p)
predict source p [] = otherwise source p
predict source p (t ∷ ts) = chosen t.kind (cases source p) (otherwise source p)
