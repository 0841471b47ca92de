-- The declarations of a program break no limit, and so no program does.
use Rattle.std.proofs.Common.{◌≡◌, ℕ, Bool, false, true, List, [], ◌∷◌, refl, arith}
use Rattle.std.specs.List.{All}
use Rattle.std.proofs.lemmas.List.Elements.{All-head, All-tail}
use Rattle.rb_trees.specs.declared.tokens.TokenKind.{TokenKind}
use Rattle.rb_trees.specs.declared.tokens.TokenKind.TheVariants as kind
use Rattle.rb_trees.specs.mirror.Types.{TypeTree}
use Rattle.rb_trees.specs.mirror.Declarations.{Param, Signature, Interface, Method, Class, Program}
use Rattle.rb_trees.specs.printing.Pieces.{Piece, Token}
use Rattle.rb_trees.specs.printing.Types.{type_pieces, result_pieces}
use Rattle.rb_trees.specs.printing.Exprs.{in_parentheses}
use Rattle.rb_trees.specs.printing.Stmts.{line, deeper, opened}
use Rattle.rb_trees.specs.printing.Programs.{param_pieces, more_params_pieces, params_pieces, signature_pieces, signatures_pieces, fields_pieces, remote_pieces, method_pieces, methods_pieces, inside, interfaces_pieces, classes_pieces, program_pieces}
use Rattle.rb_trees.specs.printing.Words as w
use Rattle.rb_trees.specs.printing.Words.{space, name_piece}
use Rattle.rb_trees.specs.Kinds as k
use Rattle.rb_trees.specs.Kinds.{is_one_of}
use Rattle.rb_meaning_bytes.specs.grammar.Limits.{Within, nothing_open}
use Rattle.rb_parse.proofs.readable.Trees.{IsReadType, IsReadParam, IsReadSignature, IsReadInterface, IsReadMethod, IsReadClass, IsReadable}
use Rattle.rb_parse.proofs.printing.Spots.{tokens_at}
use Rattle.rb_parse.proofs.printing.within.States.{counting, after_calm, after_mark, after_head}
use Rattle.rb_parse.proofs.printing.within.Fits.{nothing, spaced, joined, next, unbroken}
use Rattle.rb_parse.proofs.printing.within.Types.{Behind, Past, type_fits, result_fits}
use Rattle.rb_parse.proofs.printing.within.Lines.{Goes, stay, then, gap, step, last_step, name_step, from_past, semicolon_step, line_goes, opened_goes, closed_goes, block_goes}
use Rattle.rb_parse.proofs.printing.within.Stmts.{body_goes}

type_goes : {b m : ℕ} (tree : TypeTree) → IsReadType tree → Goes (Behind b 0 m) (Past b 0 m) (type_pieces tree)
type_goes {b} {m} tree h = record { goes = λ n g. type_fits tree b 0 m n (omega (arith, h.1)) g.open_is g.last }

result_goes : {b m : ℕ} (tree : TypeTree) → IsReadType tree → Goes (Past b 0 m) (Past b 0 m) (result_pieces tree)
result_goes {b} {m} tree h = record { goes = λ n g. result_fits tree b m n h.1 g }

param_goes : {b m : ℕ} (p : Param) → IsReadParam p → Goes (Behind b 0 m) (Past b 0 m) (param_pieces p)
param_goes p h = name_step p.name (step k.sign_colon _ refl refl (gap _ (type_goes p.kind h.1)))

more_params_go : {b m : ℕ} (ps : List Param) → All IsReadParam ps → Goes (Past b 0 m) (Behind b 0 m) (more_params_pieces ps)
more_params_go [] h = from_past stay
more_params_go (p ∷ ps) h = from_past (step k.sign_comma _ refl refl (gap _ (then (param_goes p (All-head IsReadParam p ps h)) (more_params_go ps (All-tail IsReadParam p ps h)))))

params_go : {b m : ℕ} (ps : List Param) → All IsReadParam ps → Goes (Behind b 0 m) (Behind b 0 m) (params_pieces ps)
params_go [] h = stay
params_go (p ∷ ps) h = then (param_goes p (All-head IsReadParam p ps h)) (more_params_go ps (All-tail IsReadParam p ps h))

-- a bracket that is a mark at most
in_parentheses_goes : {b : ℕ} {ps : List Piece} → Goes (Behind b 0 1) (Behind b 0 1) ps → Goes (Behind b 0 0) (Past b 0 1) (in_parentheses ps)
in_parentheses_goes x = record {
  goes = λ n h.
      let a = after_mark k.sign_open refl (omega arith) h.open_is in
      next a (joined (x.goes _ (record { open_is = a; last = refl })) (λ o g. (last_step k.sign_close _ refl refl).goes o g));
}

signature_goes : {b : ℕ} (s : Signature) → IsReadSignature s → Goes (Behind b 0 0) (Past b 0 1) (signature_pieces s)
signature_goes s h = step k.keyword_fun _ refl refl (gap _ (name_step s.name (then (in_parentheses_goes (params_go s.params h.1)) (result_goes s.result h.2))))

signatures_go : {b : ℕ} (indent : List ℕ) (ss : List Signature) → All IsReadSignature ss → Goes (Behind b 0 0) (Behind b 0 0) (signatures_pieces indent ss)
signatures_go indent [] h = stay
signatures_go indent (s ∷ ss) h = then (line_goes indent (then (signature_goes s (All-head IsReadSignature s ss h)) (from_past semicolon_step))) (signatures_go indent ss (All-tail IsReadSignature s ss h))

fields_go : {b : ℕ} (indent : List ℕ) (ps : List Param) → All IsReadParam ps → Goes (Behind b 0 0) (Behind b 0 0) (fields_pieces indent ps)
fields_go indent [] h = stay
fields_go indent (p ∷ ps) h = then (line_goes indent (then (param_goes p (All-head IsReadParam p ps h)) (from_past semicolon_step))) (fields_go indent ps (All-tail IsReadParam p ps h))

remote_goes : {b : ℕ} (remote : Bool) → Goes (Behind b 0 0) (Behind b 0 0) (remote_pieces remote)
remote_goes true = step k.keyword_remote _ refl refl (gap _ stay)
remote_goes false = stay

method_goes : (indent : List ℕ) (m : Method) → IsReadMethod m → Goes (Behind 0 0 0) (Behind 0 0 0) (method_pieces indent m)
method_goes indent m h = block_goes indent (opened_goes (omega arith) (then (remote_goes m.remote) (signature_goes m.signature h.0))) (body_goes (deeper indent) m.body h.1)

methods_go : (indent : List ℕ) (ms : List Method) → All IsReadMethod ms → Goes (Behind 0 0 0) (Behind 0 0 0) (methods_pieces indent ms)
methods_go indent [] h = stay
methods_go indent (m ∷ ms) h = then (method_goes indent m (All-head IsReadMethod m ms h)) (methods_go indent ms (All-tail IsReadMethod m ms h))

-- the line that opens an interface or class, which is no block
declared : {b : ℕ} (word : TokenKind) (bytes : List ℕ) (name : List ℕ) → is_one_of word counting ≡ false → is_one_of word (k.keyword_interface ∷ k.keyword_class ∷ []) ≡ true → Goes (Behind b 0 0) (Behind b 0 0) (line [] (opened (Token word bytes ∷ space ∷ name_piece name ∷ [])))
declared word bytes name c v = line_goes [] (record {
  goes = λ n h.
      let a = after_calm word c h.open_is in
      let d = after_calm kind.Name refl a in
      let e = after_head v d in
      next a (spaced _ (next d (spaced _ (next e (nothing (record { open_is = e; last = refl }))))));
})

interfaces_go : (is : List Interface) → All IsReadInterface is → Goes (Behind 0 0 0) (Behind 0 0 0) (interfaces_pieces is)
interfaces_go [] h = stay
interfaces_go (i ∷ is) h =
    then (then (then (declared k.keyword_interface _ i.name refl refl) (signatures_go inside i.methods (All-head IsReadInterface i is h).1)) (closed_goes [] 0 refl)) (interfaces_go is (All-tail IsReadInterface i is h))

classes_go : (cs : List Class) → All IsReadClass cs → Goes (Behind 0 0 0) (Behind 0 0 0) (classes_pieces cs)
classes_go [] h = stay
classes_go (c ∷ cs) h =
    then (then (then (then (declared k.keyword_class _ c.name refl refl) (fields_go inside c.fields (All-head IsReadClass c cs h).1)) (methods_go inside c.methods (All-head IsReadClass c cs h).2)) (closed_goes [] 0 refl)) (classes_go cs (All-tail IsReadClass c cs h))

main_goes : (tree : TypeTree) → IsReadType tree → Goes (Behind 0 0 0) (Behind 1 0 0) (line [] (opened (w.main_word ∷ result_pieces tree)))
main_goes tree h = line_goes [] (opened_goes (omega arith) (then (last_step k.keyword_main _ refl refl) (result_goes tree h)))

program_goes : (p : Program) → IsReadable p → Goes (Behind 0 0 0) (Behind 0 0 0) (program_pieces p)
program_goes p h =
    then (then (then (then (interfaces_go p.interfaces h.interfaces) (classes_go p.classes h.classes)) (main_goes p.result h.result)) (body_goes inside p.body h.body)) (closed_goes [] 0 refl)

-- The tokens of a printed program break no limit.
pub within : (p : Program) → IsReadable p → Within (tokens_at 0 (program_pieces p))
within p h = unbroken 0 ((program_goes p h).goes nothing_open (record {
  open_is = record { no_object = refl; blocks = refl; types = refl; marks = omega arith; few_blocks = omega arith; few_types = omega arith; few_marks = omega arith };
  last = refl;
}))
