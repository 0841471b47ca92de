-- The declarations and programs that are printed, and their derivations.
use Rattle.std.proofs.Common.{◌≡◌, ℕ, Bool, true, false, List, [], ◌∷◌, ◌++◌, map, refl, append_assoc}
use Rattle.std.specs.List.{All}
use Rattle.std.proofs.lemmas.List.Elements.{All-head, All-tail}
use Rattle.rb_trees.specs.mirror.Declarations.{Param, Signature, Interface, Body, Method, Class, Program}
use Rattle.rb_trees.specs.printing.Types.{result_pieces}
use Rattle.rb_trees.specs.printing.Stmts.{deeper, closed, line, opened, body_pieces}
use Rattle.rb_trees.specs.printing.Programs.{param_pieces, more_params_pieces, params_pieces, signature_pieces, signatures_pieces, fields_pieces, method_pieces, methods_pieces, inside, interface_pieces, interfaces_pieces, class_pieces, classes_pieces, program_pieces}
use Rattle.rb_trees.specs.printing.Words as w
use Rattle.rb_trees.specs.printing.Unplaced.{unplaced_param, unplaced_signature, unplaced_interface, unplaced_method, unplaced_class, unplaced}
use Rattle.rb_meaning_bytes.specs.grammar.Symbols as s
use Rattle.rb_meaning_bytes.specs.grammar.Productions as r
use Rattle.rb_parse.proofs.readable.Trees.{IsReadBody, IsReadMethod, IsReadClass, IsReadable}
use Rattle.rb_parse.proofs.printing.derived.Made.{MadePart, end, skip, token, the, last, by, turned}
use Rattle.rb_parse.proofs.printing.derived.Shapes.{four, five}
use Rattle.rb_parse.proofs.printing.derived.Types.{type_made, result_made}
use Rattle.rb_parse.proofs.printing.derived.Stmts.{feed, brace, body_made}

module _ (source : List ℕ) where
  param_made : (p : Param) → MadePart source s.AParam (param_pieces p) (λ x. unplaced_param x ≡ unplaced_param p)
  param_made p = by r.param (token λ t i. token λ u j. skip (last (type_made source p.kind) λ x k. cc))

  more_params_made : (ps : List Param) → MadePart source s.MoreParams (more_params_pieces ps) (λ x. map unplaced_param x ≡ map unplaced_param ps)
  more_params_made [] = by r.last_param (end refl)
  more_params_made (p ∷ ps) = by r.more_params (token λ t i. skip (the (param_made p) λ x k. last (more_params_made ps) λ xs l. cc))

  params_made : (ps : List Param) → MadePart source s.Params (params_pieces ps) (λ x. map unplaced_param x ≡ map unplaced_param ps)
  params_made [] = by r.no_params (end refl)
  params_made (p ∷ ps) = by r.params (the (param_made p) λ x k. last (more_params_made ps) λ xs l. cc)

  signature_made : (x : Signature) → MadePart source s.ASignature (signature_pieces x) (λ y. unplaced_signature y ≡ unplaced_signature x)
  signature_made x =
      by r.signature (token λ t i. skip (token λ u j. token λ v k. turned (append_assoc (params_pieces x.params) (w.closes ∷ []) (result_pieces x.result))
      (the (params_made x.params) λ ps l. token λ y m. last (result_made source x.result) λ f n. cc (n u.start))))

  signatures_made : (indent : List ℕ) (xs : List Signature) → MadePart source s.Signatures (signatures_pieces indent xs) (λ y. map unplaced_signature y ≡ map unplaced_signature xs)
  signatures_made indent [] = by r.no_signatures (end refl)
  signatures_made indent (x ∷ xs) =
      by r.more_signatures (skip (turned (four (signature_pieces x) (w.semicolon ∷ []) feed (signatures_pieces indent xs))
      (the (signature_made x) λ y k. token λ t i. skip (last (signatures_made indent xs) λ ys l. cc))))

  fields_made : (indent : List ℕ) (ps : List Param) → MadePart source s.Fields (fields_pieces indent ps) (λ x. map unplaced_param x ≡ map unplaced_param ps)
  fields_made indent [] = by r.no_fields (end refl)
  fields_made indent (p ∷ ps) =
      by r.more_fields (skip (turned (four (param_pieces p) (w.semicolon ∷ []) feed (fields_pieces indent ps))
      (the (param_made p) λ y k. token λ t i. skip (last (fields_made indent ps) λ ys l. cc))))

  method_by : (indent : List ℕ) (remote : Bool) (x : Signature) (b : Body) → IsReadBody b
      → MadePart source s.AMethod (method_pieces indent (record { remote = remote; signature = x; body = b })) (λ y. unplaced_method y ≡ unplaced_method (record { remote = remote; signature = x; body = b }))
  method_by indent true x b h =
      by r.remote_method (skip (token λ t i. skip (turned (five (signature_pieces x) brace feed (body_pieces (deeper indent) b) (closed indent))
      (the (signature_made x) λ y k. skip (last (body_made source indent (10 ∷ []) b h) λ z l. cc)))))
  method_by indent false x b h =
      by r.local_method (skip (turned (five (signature_pieces x) brace feed (body_pieces (deeper indent) b) (closed indent))
      (the (signature_made x) λ y k. skip (last (body_made source indent (10 ∷ []) b h) λ z l. cc))))

  methods_made : (indent : List ℕ) (ms : List Method) → All IsReadMethod ms → MadePart source s.Methods (methods_pieces indent ms) (λ y. map unplaced_method y ≡ map unplaced_method ms)
  methods_made indent [] h = by r.no_methods (end refl)
  methods_made indent (m ∷ ms) h =
      let one = All-head IsReadMethod m ms h in
      by r.more_methods (the (method_by indent m.remote m.signature m.body one.1) λ y k. last (methods_made indent ms (All-tail IsReadMethod m ms h)) λ ys l. cc)

  interface_made : (x : Interface) → MadePart source s.AnInterface (interface_pieces x) (λ y. unplaced_interface y ≡ unplaced_interface x)
  interface_made x = by r.interface (skip (token λ t i. skip (token λ u j. skip (token λ v k. skip (the (signatures_made inside x.methods) λ ys l. skip (token λ y m. skip (end cc)))))))

  interfaces_made : (xs : List Interface) → MadePart source s.Interfaces (interfaces_pieces xs) (λ y. map unplaced_interface y ≡ map unplaced_interface xs)
  interfaces_made [] = by r.no_interfaces (end refl)
  interfaces_made (x ∷ xs) = by r.more_interfaces (the (interface_made x) λ y k. last (interfaces_made xs) λ ys l. cc)

  class_made : (x : Class) → IsReadClass x → MadePart source s.AClass (class_pieces x) (λ y. unplaced_class y ≡ unplaced_class x)
  class_made x h =
      by r.class (skip (token λ t i. skip (token λ u j. skip (token λ v k. skip (turned (append_assoc (fields_pieces inside x.fields) (methods_pieces inside x.methods) (closed []))
      (the (fields_made inside x.fields) λ ys l. the (methods_made inside x.methods h.2) λ zs m. skip (token λ y n. skip (end cc))))))))

  classes_made : (xs : List Class) → All IsReadClass xs → MadePart source s.Classes (classes_pieces xs) (λ y. map unplaced_class y ≡ map unplaced_class xs)
  classes_made [] h = by r.no_classes (end refl)
  classes_made (x ∷ xs) h = by r.more_classes (the (class_made x (All-head IsReadClass x xs h)) λ y k. last (classes_made xs (All-tail IsReadClass x xs h)) λ ys l. cc)

  pub program_made : (p : Program) → IsReadable p → MadePart source s.TheProgram (program_pieces p) (λ x. unplaced x ≡ unplaced p)
  program_made p h =
      by r.program (turned (five (interfaces_pieces p.interfaces) (classes_pieces p.classes) (line [] (opened (w.main_word ∷ result_pieces p.result))) (body_pieces inside p.body) (closed []))
      (the (interfaces_made p.interfaces) λ is k. the (classes_made p.classes h.classes) λ cs l. skip (token λ t i.
      turned (four (result_pieces p.result) brace feed (body_pieces inside p.body ++ closed []))
      (the (result_made source p.result) λ f m. skip (last (body_made source [] (10 ∷ []) p.body h.body) λ b n. cc (m t.start))))))
