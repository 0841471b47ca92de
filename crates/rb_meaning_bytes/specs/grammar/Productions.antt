-- The productions of the grammar of programs and services, each with the tree that it makes of its parts' trees.
-- A node's position is the offset of its defining token: of an operator its sign, of a member its name, of an index
-- its bracket, of a declaration its name, of a statement its keyword, of an assignment its equals sign, of an
-- expression alone its semicolon, of a type its first token, and of an object its class's name.
use Rattle.std.specs.Prelude.{ℕ, List, [], ◌∷◌, true, false, Option, None, Some}
use Rattle.rb_trees.specs.declared.values.Value as value
use Rattle.rb_trees.specs.declared.code.UnOp.TheVariants as unary
use Rattle.rb_trees.specs.declared.code.BinOp.TheVariants as binary
use Rattle.rb_trees.specs.declared.tokens.TokenKind.TheVariants as kind
use Rattle.rb_trees.specs.mirror.Types as type
use Rattle.rb_trees.specs.mirror.Code as code
use Rattle.rb_trees.specs.mirror.Code.{Expr, Exprs}
use Rattle.rb_trees.specs.mirror.Services as literal
use Rattle.rb_trees.specs.Kinds as k
use Rattle.rb_meaning_bytes.specs.grammar.Values.{name_of, number_of, minus_of, count_of, text_of}
use Rattle.rb_meaning_bytes.specs.grammar.Symbols as s
use Rattle.rb_meaning_bytes.specs.grammar.Symbols.{Symbol, Terminal, The, Nonterminal, Chain, MoreChain, Expression, TreeOf, Makes}

-- a field, or with arguments a call
abbrev pub member : ℕ → List ℕ → Option Exprs → Expr → Expr
member at name None object = code.Field at object name
member at name (Some args) object = code.Call at object name args

pub data Production (source : List ℕ) : (s : Nonterminal) → (l : List Symbol) → Makes l (TreeOf s) → Type 0 where
  -- programs and their declarations
  program :
      Production source s.TheProgram
      (The s.Interfaces ∷ The s.Classes ∷ Terminal k.keyword_main ∷ The s.ResultType ∷ The s.ABody ∷ [])
      (λ interfaces classes main result body.
      record { interfaces = interfaces; classes = classes; result = result main.start; body = body; at = main.start })
  no_interfaces : Production source s.Interfaces [] []
  more_interfaces :
      Production source s.Interfaces
      (The s.AnInterface ∷ The s.Interfaces ∷ [])
      (λ first rest. first ∷ rest)
  interface :
      Production source s.AnInterface
      (Terminal k.keyword_interface ∷ Terminal kind.Name ∷ Terminal k.sign_open_brace ∷ The s.Signatures
      ∷ Terminal k.sign_close_brace ∷ [])
      (λ word name opens methods closes. record { name = name_of source name; at = name.start; methods = methods })
  no_signatures : Production source s.Signatures [] []
  more_signatures :
      Production source s.Signatures
      (The s.ASignature ∷ Terminal k.sign_semicolon ∷ The s.Signatures ∷ [])
      (λ first end rest. first ∷ rest)
  signature :
      Production source s.ASignature
      (Terminal k.keyword_fun ∷ Terminal kind.Name ∷ Terminal k.sign_open ∷ The s.Params
      ∷ Terminal k.sign_close ∷ The s.ResultType ∷ [])
      (λ word name opens params closes result.
      record { name = name_of source name; at = name.start; params = params; result = result name.start })
  no_params : Production source s.Params [] []
  params : Production source s.Params (The s.AParam ∷ The s.MoreParams ∷ []) (λ first rest. first ∷ rest)
  last_param : Production source s.MoreParams [] []
  more_params :
      Production source s.MoreParams
      (Terminal k.sign_comma ∷ The s.AParam ∷ The s.MoreParams ∷ [])
      (λ comma first rest. first ∷ rest)
  param :
      Production source s.AParam
      (Terminal kind.Name ∷ Terminal k.sign_colon ∷ The s.AType ∷ [])
      (λ name colon type. record { name = name_of source name; at = name.start; kind = type })
  no_result_type : Production source s.ResultType [] (λ at. type.Unit at)
  result_type :
      Production source s.ResultType
      (Terminal k.sign_colon ∷ The s.AType ∷ [])
      (λ colon type at. type)
  no_classes : Production source s.Classes [] []
  more_classes : Production source s.Classes (The s.AClass ∷ The s.Classes ∷ []) (λ first rest. first ∷ rest)
  class :
      Production source s.AClass
      (Terminal k.keyword_class ∷ Terminal kind.Name ∷ Terminal k.sign_open_brace ∷ The s.Fields
      ∷ The s.Methods ∷ Terminal k.sign_close_brace ∷ [])
      (λ word name opens fields methods closes.
      record { name = name_of source name; at = name.start; fields = fields; methods = methods })
  no_fields : Production source s.Fields [] []
  more_fields :
      Production source s.Fields
      (The s.AParam ∷ Terminal k.sign_semicolon ∷ The s.Fields ∷ [])
      (λ first end rest. first ∷ rest)
  no_methods : Production source s.Methods [] []
  more_methods : Production source s.Methods (The s.AMethod ∷ The s.Methods ∷ []) (λ first rest. first ∷ rest)
  local_method :
      Production source s.AMethod
      (The s.ASignature ∷ The s.ABody ∷ [])
      (λ signature body. record { remote = false; signature = signature; body = body })
  remote_method :
      Production source s.AMethod
      (Terminal k.keyword_remote ∷ The s.ASignature ∷ The s.ABody ∷ [])
      (λ word signature body. record { remote = true; signature = signature; body = body })
  -- types
  int_type : Production source s.AType (Terminal k.keyword_Int ∷ []) (λ word. type.Int word.start)
  bool_type : Production source s.AType (Terminal k.keyword_Bool ∷ []) (λ word. type.Bool word.start)
  text_type : Production source s.AType (Terminal k.keyword_Text ∷ []) (λ word. type.Text word.start)
  unit_type : Production source s.AType (Terminal k.keyword_Unit ∷ []) (λ word. type.Unit word.start)
  named_type :
      Production source s.AType
      (Terminal kind.Name ∷ [])
      (λ name. type.Named name.start (name_of source name))
  list_type :
      Production source s.AType
      (Terminal k.keyword_List ∷ Terminal k.sign_less ∷ The s.AType ∷ Terminal k.sign_greater ∷ [])
      (λ word opens item closes. type.ListOf word.start item)
  rows_type :
      Production source s.AType
      (Terminal k.keyword_Rows ∷ Terminal k.sign_less ∷ The s.AType ∷ Terminal k.sign_greater ∷ [])
      (λ word opens row closes. type.RowsOf word.start row)
  -- bodies, blocks and statements
  body :
      Production source s.ABody
      (Terminal k.sign_open_brace ∷ The s.Statements ∷ The s.Returns ∷ Terminal k.sign_close_brace ∷ [])
      (λ opens statements result closes. record { statements = statements; result = result })
  no_return : Production source s.Returns [] None
  «return» :
      Production source s.Returns
      (Terminal k.keyword_return ∷ The Expression ∷ Terminal k.sign_semicolon ∷ [])
      (λ word result end. Some result)
  block :
      Production source s.Block
      (Terminal k.sign_open_brace ∷ The s.Statements ∷ Terminal k.sign_close_brace ∷ [])
      (λ opens statements closes. statements)
  no_statements : Production source s.Statements [] code.NoStmts
  more_statements :
      Production source s.Statements
      (The s.Statement ∷ The s.Statements ∷ [])
      (λ first rest. code.MoreStmts first rest)
  val :
      Production source s.Statement
      (Terminal k.keyword_val ∷ Terminal kind.Name ∷ Terminal k.sign_assign ∷ The Expression
      ∷ Terminal k.sign_semicolon ∷ [])
      (λ word name sign value end. code.Val word.start (name_of source name) value)
  var :
      Production source s.Statement
      (Terminal k.keyword_var ∷ Terminal kind.Name ∷ Terminal k.sign_assign ∷ The Expression
      ∷ Terminal k.sign_semicolon ∷ [])
      (λ word name sign value end. code.Var word.start (name_of source name) value)
  print :
      Production source s.Statement
      (Terminal k.keyword_print ∷ Terminal k.sign_open ∷ The Expression ∷ Terminal k.sign_close
      ∷ Terminal k.sign_semicolon ∷ [])
      (λ word opens value closes end. code.Print word.start value)
  throw :
      Production source s.Statement
      (Terminal k.keyword_throw ∷ The Expression ∷ Terminal k.sign_semicolon ∷ [])
      (λ word value end. code.Throw word.start value)
  «if» :
      Production source s.Statement
      (Terminal k.keyword_if ∷ Terminal k.sign_open ∷ The Expression ∷ Terminal k.sign_close ∷ The s.Block
      ∷ The s.Otherwise ∷ [])
      (λ word opens condition closes then_block else_block. code.If word.start condition then_block else_block)
  while :
      Production source s.Statement
      (Terminal k.keyword_while ∷ Terminal k.sign_open ∷ The Expression ∷ Terminal k.sign_close ∷ The s.Block ∷ [])
      (λ word opens condition closes block. code.While word.start condition block)
  for :
      Production source s.Statement
      (Terminal k.keyword_for ∷ Terminal k.sign_open ∷ Terminal kind.Name ∷ Terminal k.keyword_in
      ∷ The Expression ∷ Terminal k.sign_close ∷ The s.Block ∷ [])
      (λ word opens name inside list closes block. code.For word.start (name_of source name) list block)
  try :
      Production source s.Statement
      (Terminal k.keyword_try ∷ The s.Block ∷ Terminal k.keyword_catch ∷ Terminal k.sign_open
      ∷ Terminal kind.Name ∷ Terminal k.sign_close ∷ The s.Block ∷ [])
      (λ word tried handles opens name closes handler. code.Try word.start tried (name_of source name) handler)
  batch :
      Production source s.Statement
      (Terminal k.keyword_batch ∷ Terminal k.sign_open ∷ Terminal kind.Name ∷ Terminal kind.Name
      ∷ Terminal k.sign_close ∷ The s.Block ∷ [])
      (λ word opens interface root closes block.
      code.Batch word.start (name_of source interface) (name_of source root) block)
  expression_first :
      Production source s.Statement
      (The Expression ∷ The s.StatementEnd ∷ [])
      (λ expr end. end expr)
  alone :
      Production source s.StatementEnd
      (Terminal k.sign_semicolon ∷ [])
      (λ end expr. code.Run end.start expr)
  assigned :
      Production source s.StatementEnd
      (Terminal k.sign_assign ∷ The Expression ∷ Terminal k.sign_semicolon ∷ [])
      (λ sign right end left. code.Assign sign.start left right)
  no_else : Production source s.Otherwise [] code.NoStmts
  «else» : Production source s.Otherwise (Terminal k.keyword_else ∷ The s.Block ∷ []) (λ word block. block)
  -- expressions: operators of a level group to the left
  alternatives :
      Production source (Chain s.OrLevel)
      (The (Chain s.AndLevel) ∷ The (MoreChain s.OrLevel) ∷ [])
      (λ first more. more first)
  conditions :
      Production source (Chain s.AndLevel)
      (The (Chain s.SameLevel) ∷ The (MoreChain s.AndLevel) ∷ [])
      (λ first more. more first)
  comparison :
      Production source (Chain s.SameLevel)
      (The (Chain s.OrderLevel) ∷ The (MoreChain s.SameLevel) ∷ [])
      (λ first more. more first)
  ordering :
      Production source (Chain s.OrderLevel)
      (The (Chain s.SumLevel) ∷ The (MoreChain s.OrderLevel) ∷ [])
      (λ first more. more first)
  sum :
      Production source (Chain s.SumLevel)
      (The (Chain s.ProductLevel) ∷ The (MoreChain s.SumLevel) ∷ [])
      (λ first more. more first)
  product :
      Production source (Chain s.ProductLevel)
      (The s.Prefix ∷ The (MoreChain s.ProductLevel) ∷ [])
      (λ first more. more first)
  last_operand : (level : s.Level) → Production source (MoreChain level) [] (λ left. left)
  or :
      Production source (MoreChain s.OrLevel)
      (Terminal k.sign_or ∷ The (Chain s.AndLevel) ∷ The (MoreChain s.OrLevel) ∷ [])
      (λ sign right more left. more (code.Binary sign.start binary.Or left right))
  and :
      Production source (MoreChain s.AndLevel)
      (Terminal k.sign_and ∷ The (Chain s.SameLevel) ∷ The (MoreChain s.AndLevel) ∷ [])
      (λ sign right more left. more (code.Binary sign.start binary.And left right))
  equal :
      Production source (MoreChain s.SameLevel)
      (Terminal k.sign_equal ∷ The (Chain s.OrderLevel) ∷ [])
      (λ sign right left. code.Binary sign.start binary.Eq left right)
  unequal :
      Production source (MoreChain s.SameLevel)
      (Terminal k.sign_unequal ∷ The (Chain s.OrderLevel) ∷ [])
      (λ sign right left. code.Binary sign.start binary.Ne left right)
  less :
      Production source (MoreChain s.OrderLevel)
      (Terminal k.sign_less ∷ The (Chain s.SumLevel) ∷ [])
      (λ sign right left. code.Binary sign.start binary.Lt left right)
  at_most :
      Production source (MoreChain s.OrderLevel)
      (Terminal k.sign_at_most ∷ The (Chain s.SumLevel) ∷ [])
      (λ sign right left. code.Binary sign.start binary.Le left right)
  greater :
      Production source (MoreChain s.OrderLevel)
      (Terminal k.sign_greater ∷ The (Chain s.SumLevel) ∷ [])
      (λ sign right left. code.Binary sign.start binary.Gt left right)
  at_least :
      Production source (MoreChain s.OrderLevel)
      (Terminal k.sign_at_least ∷ The (Chain s.SumLevel) ∷ [])
      (λ sign right left. code.Binary sign.start binary.Ge left right)
  plus :
      Production source (MoreChain s.SumLevel)
      (Terminal k.sign_plus ∷ The (Chain s.ProductLevel) ∷ The (MoreChain s.SumLevel) ∷ [])
      (λ sign right more left. more (code.Binary sign.start binary.Add left right))
  minus :
      Production source (MoreChain s.SumLevel)
      (Terminal k.sign_minus ∷ The (Chain s.ProductLevel) ∷ The (MoreChain s.SumLevel) ∷ [])
      (λ sign right more left. more (code.Binary sign.start binary.Sub left right))
  times :
      Production source (MoreChain s.ProductLevel)
      (Terminal k.sign_star ∷ The s.Prefix ∷ The (MoreChain s.ProductLevel) ∷ [])
      (λ sign right more left. more (code.Binary sign.start binary.Mul left right))
  divided :
      Production source (MoreChain s.ProductLevel)
      (Terminal k.sign_slash ∷ The s.Prefix ∷ The (MoreChain s.ProductLevel) ∷ [])
      (λ sign right more left. more (code.Binary sign.start binary.Div left right))
  remainder :
      Production source (MoreChain s.ProductLevel)
      (Terminal k.sign_percent ∷ The s.Prefix ∷ The (MoreChain s.ProductLevel) ∷ [])
      (λ sign right more left. more (code.Binary sign.start binary.Rem left right))
  not :
      Production source s.Prefix
      (Terminal k.sign_not ∷ The s.Prefix ∷ [])
      (λ sign operand. code.Unary sign.start unary.Not operand)
  negative :
      Production source s.Prefix
      (Terminal k.sign_minus ∷ The s.Prefix ∷ [])
      (λ sign operand. code.Unary sign.start unary.Neg operand)
  postfix : Production source s.Prefix (The s.Postfix ∷ []) (λ expr. expr)
  first : Production source s.Postfix (The s.First ∷ The s.Members ∷ []) (λ expr members. members expr)
  no_members : Production source s.Members [] (λ expr. expr)
  member_of :
      Production source s.Members
      (Terminal k.sign_dot ∷ Terminal kind.Name ∷ The s.CallPart ∷ The s.Members ∷ [])
      (λ dot name args members expr. members (member name.start (name_of source name) args expr))
  index :
      Production source s.Members
      (Terminal k.sign_open_bracket ∷ The Expression ∷ Terminal k.sign_close_bracket ∷ The s.Members ∷ [])
      (λ opens place closes members expr. members (code.Index opens.start expr place))
  no_call : Production source s.CallPart [] None
  call :
      Production source s.CallPart
      (Terminal k.sign_open ∷ The s.Arguments ∷ Terminal k.sign_close ∷ [])
      (λ opens args closes. Some args)
  number :
      Production source s.First
      (Terminal kind.Number ∷ [])
      (λ number. code.Lit number.start (value.Int (number_of source number)))
  text :
      Production source s.First
      (Terminal kind.TextLit ∷ [])
      (λ text. code.Lit text.start (value.Text (text_of source text)))
  true_literal :
      Production source s.First
      (Terminal k.keyword_true ∷ [])
      (λ word. code.Lit word.start (value.Bool true))
  false_literal :
      Production source s.First
      (Terminal k.keyword_false ∷ [])
      (λ word. code.Lit word.start (value.Bool false))
  this : Production source s.First (Terminal k.keyword_this ∷ []) (λ word. code.This word.start)
  name :
      Production source s.First
      (Terminal kind.Name ∷ [])
      (λ name. code.Name name.start (name_of source name))
  len :
      Production source s.First
      (Terminal k.keyword_len ∷ Terminal k.sign_open ∷ The Expression ∷ Terminal k.sign_close ∷ [])
      (λ word opens operand closes. code.Unary word.start unary.Len operand)
  str :
      Production source s.First
      (Terminal k.keyword_str ∷ Terminal k.sign_open ∷ The Expression ∷ Terminal k.sign_close ∷ [])
      (λ word opens operand closes. code.Unary word.start unary.Str operand)
  new :
      Production source s.First
      (Terminal k.keyword_new ∷ Terminal kind.Name ∷ Terminal k.sign_open ∷ The s.Arguments
      ∷ Terminal k.sign_close ∷ [])
      (λ word class opens args closes. code.New word.start (name_of source class) args)
  list :
      Production source s.First
      (Terminal k.keyword_List ∷ Terminal k.sign_less ∷ The s.AType ∷ Terminal k.sign_greater
      ∷ Terminal k.sign_open ∷ The s.Arguments ∷ Terminal k.sign_close ∷ [])
      (λ word less item greater opens items closes. code.Items word.start item items)
  inside :
      Production source s.First
      (Terminal k.sign_open ∷ The Expression ∷ Terminal k.sign_close ∷ [])
      (λ opens expr closes. expr)
  no_arguments : Production source s.Arguments [] code.NoExprs
  arguments :
      Production source s.Arguments
      (The Expression ∷ The s.MoreArguments ∷ [])
      (λ first rest. code.MoreExprs first rest)
  last_argument : Production source s.MoreArguments [] code.NoExprs
  more_arguments :
      Production source s.MoreArguments
      (Terminal k.sign_comma ∷ The Expression ∷ The s.MoreArguments ∷ [])
      (λ comma first rest. code.MoreExprs first rest)
  -- services, their objects and literals
  service :
      Production source s.TheService
      (The s.Classes ∷ The s.Objects ∷ Terminal k.keyword_root ∷ Terminal kind.Number
      ∷ Terminal k.sign_semicolon ∷ [])
      (λ classes objects word root end.
      record { classes = classes; objects = objects; root = count_of source root })
  no_objects : Production source s.Objects [] []
  more_objects :
      Production source s.Objects
      (The s.AnObject ∷ The s.Objects ∷ [])
      (λ first rest. first ∷ rest)
  object :
      Production source s.AnObject
      (Terminal k.keyword_object ∷ Terminal kind.Number ∷ Terminal k.sign_colon ∷ Terminal kind.Name
      ∷ Terminal k.sign_open_brace ∷ The s.GivenFields ∷ Terminal k.sign_close_brace ∷ [])
      (λ word number colon class opens fields closes.
      record { number = count_of source number; class = name_of source class; at = class.start; fields = fields })
  no_given_fields : Production source s.GivenFields [] []
  more_given_fields :
      Production source s.GivenFields
      (Terminal kind.Name ∷ Terminal k.sign_assign ∷ The s.ALiteral ∷ Terminal k.sign_semicolon
      ∷ The s.GivenFields ∷ [])
      (λ name sign given end rest. (name_of source name, given) ∷ rest)
  literal_number :
      Production source s.ALiteral
      (Terminal kind.Number ∷ [])
      (λ number. literal.Int (number_of source number))
  literal_minus :
      Production source s.ALiteral
      (Terminal k.sign_minus ∷ Terminal kind.Number ∷ [])
      (λ sign number. literal.Int (minus_of source number))
  literal_text :
      Production source s.ALiteral
      (Terminal kind.TextLit ∷ [])
      (λ text. literal.Text (text_of source text))
  literal_true : Production source s.ALiteral (Terminal k.keyword_true ∷ []) (λ word. literal.Bool true)
  literal_false : Production source s.ALiteral (Terminal k.keyword_false ∷ []) (λ word. literal.Bool false)
  literal_object :
      Production source s.ALiteral
      (Terminal k.sign_number_sign ∷ Terminal kind.Number ∷ [])
      (λ sign number. literal.Object (count_of source number))
  literal_list :
      Production source s.ALiteral
      (Terminal k.sign_open_bracket ∷ The s.Literals ∷ Terminal k.sign_close_bracket ∷ [])
      (λ opens items closes. literal.Items items)
  no_literals : Production source s.Literals [] literal.NoLiterals
  literals :
      Production source s.Literals
      (The s.ALiteral ∷ The s.MoreLiterals ∷ [])
      (λ first rest. literal.MoreLiterals first rest)
  last_literal : Production source s.MoreLiterals [] literal.NoLiterals
  more_literals :
      Production source s.MoreLiterals
      (Terminal k.sign_comma ∷ The s.ALiteral ∷ The s.MoreLiterals ∷ [])
      (λ comma first rest. literal.MoreLiterals first rest)
