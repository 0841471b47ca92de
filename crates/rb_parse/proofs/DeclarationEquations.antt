-- What reading declarations is.
use Rattle.std.proofs.Common.{◌≡◌, ℕ, true, false, cond, List, [], ◌∷◌, length, refl, ap, ◌∙◌, Some, None, Ok}
use Rattle.rb_trees.specs.declared.tokens.Token.{Token}
use Rattle.rb_trees.specs.declared.tokens.TokenKind.{TokenKind}
use Rattle.rb_trees.specs.declared.tokens.TokenKind.TheVariants as kind
use Rattle.rb_trees.specs.declared.declarations.Param as param
use Rattle.rb_trees.specs.declared.declarations.Signature as signature
use Rattle.rb_trees.specs.declared.declarations.Interface as interface
use Rattle.rb_trees.specs.declared.declarations.Method as method
use Rattle.rb_trees.specs.declared.declarations.Class as class
use Rattle.rb_trees.specs.mirror.Types as type
use Rattle.rb_trees.specs.mirror.Types.{TypeTree}
use Rattle.rb_trees.specs.mirror.Declarations as tree
use Rattle.rb_trees.specs.mirror.Declarations.{mirror_param, mirror_signature, mirror_interface, mirror_method, mirror_class}
use Rattle.rb_trees.specs.Kinds as k
use Rattle.rb_trees.specs.Kinds.{is_kind}
use Rattle.rb_meaning_bytes.specs.grammar.Values.{name_of}
use Rattle.rb_meaning_bytes.specs.grammar.Symbols as s
use Rattle.rb_parse.specs.Table.{begins, may_be_empty, cases, otherwise}
use Rattle.rb_parse.specs.Reading.{Read, ◌>>=◌, take_kind, read_of, taken, next_in, on_taken}
use Rattle.rb_parse.specs.Blocks.{expression_to_end}
use Rattle.rb_parse.specs.Heads.{result_of, signature_to_end, field_to_end, next_param, params_to_close, headed_of, params_on}
use Rattle.rb_parse.proofs.Equations.{reads_by, taken_bind, bind_bind, bind_ok, token_told}
use Rattle.rb_parse.proofs.ItemLists.{IsListed, ItemList, listed_on}

abbrev typed_at : ℕ → (ℕ → TypeTree) × List Token → Read TypeTree
typed_at at m = Ok (m.0 at, m.1)

pub result_is : (source : List ℕ) (at : ℕ) (ts : List Token) → result_of source at ts ≡ on_taken (taken k.sign_colon ts) (λ w. read_of source s.AType w.1) (Ok (type.Unit at, ts))
unfolding cases otherwise result_of
result_is source at ts = simp bind_ok at (simp (taken_bind, bind_bind) at (ap (λ z. z >>= typed_at at) (reads_by source s.ResultType ts)))

pub param_is : (source : List ℕ) (ts : List Token) → read_of source s.AParam ts ≡ (take_kind kind.Name ts >>= λ n. take_kind k.sign_colon n.1 >>= λ c. read_of source s.AType c.1 >>= λ t. Ok (record { name = name_of source n.0; at = n.0.start; kind = t.0 }, t.1))
unfolding cases otherwise
param_is source ts = reads_by source s.AParam ts

pub signature_is : (source : List ℕ) (ts : List Token) → read_of source s.ASignature ts ≡ (take_kind k.keyword_fun ts >>= λ f. take_kind kind.Name f.1 >>= λ n. take_kind k.sign_open n.1 >>= λ o. params_to_close source o.1 >>= λ p. result_of source n.0.start p.1 >>= λ r. Ok (record { name = name_of source n.0; at = n.0.start; params = p.0; result = r.0 }, r.1))
unfolding cases otherwise params_to_close result_of
signature_is source ts = simp bind_bind (reads_by source s.ASignature ts)

pub interface_is : (source : List ℕ) (ts : List Token) → read_of source s.AnInterface ts ≡ (take_kind k.keyword_interface ts >>= λ w. headed_of w.1 >>= λ n. read_of source s.Signatures n.1 >>= λ m. take_kind k.sign_close_brace m.1 >>= λ c. Ok (record { name = name_of source n.0; at = n.0.start; methods = m.0 }, c.1))
unfolding cases otherwise headed_of
interface_is source ts = simp bind_bind (reads_by source s.AnInterface ts)

pub class_is : (source : List ℕ) (ts : List Token) → read_of source s.AClass ts ≡ (take_kind k.keyword_class ts >>= λ w. headed_of w.1 >>= λ n. read_of source s.Fields n.1 >>= λ f. read_of source s.Methods f.1 >>= λ m. take_kind k.sign_close_brace m.1 >>= λ c. Ok (record { name = name_of source n.0; at = n.0.start; fields = f.0; methods = m.0 }, c.1))
unfolding cases otherwise headed_of
class_is source ts = simp bind_bind (reads_by source s.AClass ts)

pub method_is : (source : List ℕ) (ts : List Token) → read_of source s.AMethod ts ≡
    on_taken (taken k.keyword_remote ts) (λ w. read_of source s.ASignature w.1 >>= λ a. read_of source s.ABody a.1 >>= λ b. Ok (record { remote = true; signature = a.0; body = b.0 }, b.1))
    (read_of source s.ASignature ts >>= λ a. read_of source s.ABody a.1 >>= λ b. Ok (record { remote = false; signature = a.0; body = b.0 }, b.1))
unfolding cases otherwise
method_is source ts = reads_by source s.AMethod ts

pub returns_is : (source : List ℕ) (ts : List Token) → read_of source s.Returns ts ≡ on_taken (taken k.keyword_return ts) (λ w. expression_to_end source w.1 >>= λ a. Ok (Some a.0, a.1)) (Ok (None, ts))
unfolding cases otherwise expression_to_end
returns_is source ts = simp bind_bind (reads_by source s.Returns ts)

pub body_is : (source : List ℕ) (ts : List Token) → read_of source s.ABody ts ≡ (take_kind k.sign_open_brace ts >>= λ o. read_of source s.Statements o.1 >>= λ a. read_of source s.Returns a.1 >>= λ r. take_kind k.sign_close_brace r.1 >>= λ c. Ok (record { statements = a.0; result = r.0 }, c.1))
unfolding cases otherwise
body_is source ts = reads_by source s.ABody ts

pub program_is : (source : List ℕ) (ts : List Token) → read_of source s.TheProgram ts ≡ (read_of source s.Interfaces ts >>= λ i. read_of source s.Classes i.1 >>= λ c. take_kind k.keyword_main c.1 >>= λ m. result_of source m.0.start m.1 >>= λ r. read_of source s.ABody r.1 >>= λ b. Ok (record { interfaces = i.0; classes = c.0; result = r.0; body = b.0; at = m.0.start }, b.1))
unfolding cases otherwise result_of
program_is source ts = simp bind_bind (reads_by source s.TheProgram ts)

pub token_next : {A : Type 0} (kind : TokenKind) (g : Token × List Token → Read A) (other : Read A) (ts : List Token) → on_taken (taken kind ts) g other ≡ cond (next_in (kind ∷ []) ts) (take_kind kind ts >>= g) other
token_next kind g other [] = refl
token_next kind g other (t ∷ ts) = token_told (is_kind t.kind kind) t ts (length (t ∷ ts)) g other

-- the lists of declarations, item by item

pub interfaces_by : (source : List ℕ) → IsListed (k.keyword_interface ∷ []) (read_of source s.AnInterface) (read_of source s.Interfaces)
unfolding cases otherwise begins may_be_empty
interfaces_by source ts = reads_by source s.Interfaces ts

abbrev pub interfaces : ItemList tree.Interface interface.Interface
interfaces = record { view = mirror_interface; list = λ source ts. read_of source s.Interfaces ts; item = λ source ts. read_of source s.AnInterface ts; kinds = k.keyword_interface ∷ []; is = interfaces_by }

pub signatures_by : (source : List ℕ) → IsListed (k.keyword_fun ∷ []) (signature_to_end source) (read_of source s.Signatures)
unfolding cases otherwise begins may_be_empty signature_to_end
signatures_by source ts = simp bind_bind (reads_by source s.Signatures ts)

abbrev pub signatures : ItemList tree.Signature signature.Signature
signatures = record { view = mirror_signature; list = λ source ts. read_of source s.Signatures ts; item = signature_to_end; kinds = k.keyword_fun ∷ []; is = signatures_by }

pub classes_by : (source : List ℕ) → IsListed (k.keyword_class ∷ []) (read_of source s.AClass) (read_of source s.Classes)
unfolding cases otherwise begins may_be_empty
classes_by source ts = reads_by source s.Classes ts

abbrev pub classes : ItemList tree.Class class.Class
classes = record { view = mirror_class; list = λ source ts. read_of source s.Classes ts; item = λ source ts. read_of source s.AClass ts; kinds = k.keyword_class ∷ []; is = classes_by }

pub fields_by : (source : List ℕ) → IsListed (kind.Name ∷ []) (field_to_end source) (read_of source s.Fields)
unfolding cases otherwise begins may_be_empty field_to_end
fields_by source ts = simp bind_bind (reads_by source s.Fields ts)

abbrev pub fields : ItemList tree.Param param.Param
fields = record { view = mirror_param; list = λ source ts. read_of source s.Fields ts; item = field_to_end; kinds = kind.Name ∷ []; is = fields_by }

pub methods_by : (source : List ℕ) → IsListed (k.keyword_remote ∷ k.keyword_fun ∷ []) (read_of source s.AMethod) (read_of source s.Methods)
unfolding cases otherwise begins may_be_empty
methods_by source ts = reads_by source s.Methods ts

abbrev pub methods : ItemList tree.Method method.Method
methods = record { view = mirror_method; list = λ source ts. read_of source s.Methods ts; item = λ source ts. read_of source s.AMethod ts; kinds = k.keyword_remote ∷ k.keyword_fun ∷ []; is = methods_by }

pub more_params_by : (source : List ℕ) → IsListed (k.sign_comma ∷ []) (next_param source) (read_of source s.MoreParams)
unfolding cases otherwise begins may_be_empty next_param
more_params_by source ts = simp bind_bind (reads_by source s.MoreParams ts ∙ token_next k.sign_comma (λ x. read_of source s.AParam x.1 >>= λ a. read_of source s.MoreParams a.1 >>= λ m. Ok (a.0 ∷ m.0, m.1)) (Ok ([], ts)) ts)

abbrev pub more_params : ItemList tree.Param param.Param
more_params = record { view = mirror_param; list = λ source ts. read_of source s.MoreParams ts; item = next_param; kinds = k.sign_comma ∷ []; is = more_params_by }

pub params_first : (source : List ℕ) (first : param.Param) (ts : List Token) → params_on source (mirror_param first) ts ≡ listed_on more_params source (first ∷ []) ts
unfolding params_on listed_on
params_first source first ts = refl

pub params_is : (source : List ℕ) (ts : List Token) → read_of source s.Params ts ≡ cond (next_in (kind.Name ∷ []) ts) (read_of source s.AParam ts >>= λ a. params_on source a.0 a.1) (Ok ([], ts))
unfolding cases otherwise begins may_be_empty params_on
params_is source ts = reads_by source s.Params ts
