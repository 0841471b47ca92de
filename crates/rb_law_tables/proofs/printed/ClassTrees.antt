-- The classes that are printed, and their derivations.
use Rattle.std.proofs.Common.{◌≡◌, ℕ, Bool, true, false, List, [], ◌∷◌, map, refl, append_assoc}
use Rattle.std.specs.List.{AllByRecursion}
use Rattle.std.proofs.lemmas.List.Elements.{recursion_from_All}
use Rattle.rb_trees.specs.mirror.Declarations.{Param, Signature, Body, Method, Class}
use Rattle.rb_trees.specs.printing.Types.{result_pieces}
use Rattle.rb_trees.specs.printing.Stmts.{deeper, closed, body_pieces}
use Rattle.rb_trees.specs.printing.Programs.{param_pieces, more_params_pieces, params_pieces, signature_pieces, fields_pieces, method_pieces, methods_pieces, inside, class_pieces, classes_pieces}
use Rattle.rb_trees.specs.printing.Words as w
use Rattle.rb_trees.specs.printing.Unplaced.{unplaced_param, unplaced_signature, unplaced_method, unplaced_class}
use Rattle.rb_meaning_bytes.specs.grammar.Symbols as s
use Rattle.rb_meaning_bytes.specs.grammar.Productions as r
use Rattle.rb_parse.proofs.readable.Trees.{IsReadBody, IsReadMethod, IsReadClass}
use Rattle.rb_parse.proofs.printing.derived.Made.{MadePart, end, skip, token, the, last, by, turned}
use Rattle.rb_parse.proofs.printing.derived.Shapes.{four, five}
use Rattle.rb_parse.proofs.printing.derived.Types.{type_made, result_made}
use Rattle.rb_parse.proofs.printing.derived.Stmts.{feed, brace, body_made}

module _ (source : List ℕ) where
  -- a declaration with its pieces, but for positions
  abbrev Param_of : Param → Type 0
  Param_of p = MadePart source s.AParam (param_pieces p) (λ x. unplaced_param x ≡ unplaced_param p)

  one_param : (p : Param) → Param_of p
  one_param p = by r.param (token λ name e. token λ colon f. skip (last (type_made source p.kind) λ kind k. cc))

  later_params : (ps : List Param) → MadePart source s.MoreParams (more_params_pieces ps) (λ xs. map unplaced_param xs ≡ map unplaced_param ps)
  later_params [] = by r.last_param (end refl)
  later_params (p ∷ ps) = by r.more_params (token λ comma e. skip (the (one_param p) λ x k. last (later_params ps) λ xs l. cc))

  all_params : (ps : List Param) → MadePart source s.Params (params_pieces ps) (λ xs. map unplaced_param xs ≡ map unplaced_param ps)
  all_params [] = by r.no_params (end refl)
  all_params (p ∷ ps) = by r.params (the (one_param p) λ x k. last (later_params ps) λ xs l. cc)

  all_fields : (indent : List ℕ) (ps : List Param) → MadePart source s.Fields (fields_pieces indent ps) (λ xs. map unplaced_param xs ≡ map unplaced_param ps)
  all_fields indent [] = by r.no_fields (end refl)
  all_fields indent (p ∷ ps) =
      by r.more_fields (skip (turned (four (param_pieces p) (w.semicolon ∷ []) feed (fields_pieces indent ps))
      (the (one_param p) λ x k. token λ semicolon e. skip (last (all_fields indent ps) λ xs l. cc))))

  heading : (h : Signature) → MadePart source s.ASignature (signature_pieces h) (λ x. unplaced_signature x ≡ unplaced_signature h)
  heading h =
      by r.signature (token λ fun e. skip (token λ name f. token λ opens g. turned (append_assoc (params_pieces h.params) (w.closes ∷ []) (result_pieces h.result))
      (the (all_params h.params) λ params k. token λ closes i. last (result_made source h.result) λ result l. cc (l name.start))))

  one_method : (indent : List ℕ) (remote : Bool) (h : Signature) (b : Body) → IsReadBody b
      → MadePart source s.AMethod (method_pieces indent (record { remote = remote; signature = h; body = b })) (λ x. unplaced_method x ≡ unplaced_method (record { remote = remote; signature = h; body = b }))
  one_method indent true h b read =
      by r.remote_method (skip (token λ word e. skip (turned (five (signature_pieces h) brace feed (body_pieces (deeper indent) b) (closed indent))
      (the (heading h) λ x k. skip (last (body_made source indent (10 ∷ []) b read) λ y l. cc)))))
  one_method indent false h b read =
      by r.local_method (skip (turned (five (signature_pieces h) brace feed (body_pieces (deeper indent) b) (closed indent))
      (the (heading h) λ x k. skip (last (body_made source indent (10 ∷ []) b read) λ y l. cc))))

  all_methods : (indent : List ℕ) (ms : List Method) → AllByRecursion IsReadMethod ms → MadePart source s.Methods (methods_pieces indent ms) (λ xs. map unplaced_method xs ≡ map unplaced_method ms)
  all_methods indent [] read = by r.no_methods (end refl)
  all_methods indent (m ∷ ms) read = by r.more_methods (the (one_method indent m.remote m.signature m.body read.0.1) λ x k. last (all_methods indent ms read.1) λ xs l. cc)

  one_class : (c : Class) → IsReadClass c → MadePart source s.AClass (class_pieces c) (λ x. unplaced_class x ≡ unplaced_class c)
  one_class c read =
      by r.class (skip (token λ word e. skip (token λ name f. skip (token λ opens g. skip (turned (append_assoc (fields_pieces inside c.fields) (methods_pieces inside c.methods) (closed []))
      (the (all_fields inside c.fields) λ fields k. the (all_methods inside c.methods (recursion_from_All IsReadMethod c.methods read.2)) λ methods l. skip (token λ closes h. skip (end cc))))))))

  pub classes_made : (cs : List Class) → AllByRecursion IsReadClass cs → MadePart source s.Classes (classes_pieces cs) (λ xs. map unplaced_class xs ≡ map unplaced_class cs)
  classes_made [] read = by r.no_classes (end refl)
  classes_made (c ∷ cs) read = by r.more_classes (the (one_class c read.0) λ x k. last (classes_made cs read.1) λ xs l. cc)
