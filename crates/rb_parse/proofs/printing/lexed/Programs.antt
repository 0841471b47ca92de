-- The lines of readable programs are good.
use Rattle.std.proofs.Common.{ℕ, Bool, true, false, List, [], ◌∷◌, ◌++◌, refl}
use Rattle.std.specs.List.{AllByRecursion}
use Rattle.std.proofs.lemmas.List.Elements.{recursion_from_All}
use Rattle.rb_trees.specs.Spelling.{IsName}
use Rattle.rb_trees.specs.mirror.Declarations.{Param, Signature, Interface, Method, Class, Program}
use Rattle.rb_trees.specs.printing.Pieces.{Piece}
use Rattle.rb_trees.specs.printing.Types.{type_pieces, result_pieces}
use Rattle.rb_trees.specs.printing.Exprs.{in_parentheses}
use Rattle.rb_trees.specs.printing.Stmts.{line, deeper, opened, closed, body_pieces}
use Rattle.rb_trees.specs.printing.Programs.{param_pieces, more_params_pieces, params_pieces, signature_pieces, signatures_pieces, fields_pieces, remote_pieces, method_pieces, methods_pieces, inside, interface_pieces, interfaces_pieces, class_pieces, classes_pieces, program_pieces}
use Rattle.rb_trees.specs.printing.Words as w
use Rattle.rb_trees.specs.printing.Words.{space, name_piece}
use Rattle.rb_parse.proofs.readable.Trees.{IsReadParam, IsReadSignature, IsReadInterface, IsReadMethod, IsReadClass, IsReadable}
use Rattle.rb_parse.proofs.printing.lexed.Leads as leads
use Rattle.rb_parse.proofs.printing.lexed.Leads.{Leads, name_leads}
use Rattle.rb_parse.proofs.printing.lexed.Exprs.{Flows, Trails, flows_then, nothing_trails, trails_flow, word_flows, spaced_trails, semicolon_trails, in_parentheses_trails, comma_trails, typed_trails, result_trails}
use Rattle.rb_parse.proofs.printing.lexed.Stmts.{Lines, IsIndent, lines_then, no_lines, deeper_indent, line_good, opened_flows, closed_good, between, names_flow, body_good}

param_flows : (p : Param) → IsReadParam p → Flows false (param_pieces p)
param_flows p h = word_flows (name_piece p.name) (w.colon ∷ space ∷ type_pieces p.kind) (name_leads p.name h.0) (typed_trails p.kind h.1.0) false

more_params_trail : (ps : List Param) → AllByRecursion IsReadParam ps → Trails (more_params_pieces ps)
more_params_trail [] h = nothing_trails
more_params_trail (p ∷ ps) h =
    comma_trails (param_pieces p ++ more_params_pieces ps) (flows_then false (param_pieces p) (more_params_pieces ps) (param_flows p h.0) (more_params_trail ps h.1))

params_flow : (ps : List Param) → AllByRecursion IsReadParam ps → Flows false (params_pieces ps)
params_flow [] h = trails_flow [] nothing_trails
params_flow (p ∷ ps) h = flows_then false (param_pieces p) (more_params_pieces ps) (param_flows p h.0) (more_params_trail ps h.1)

signature_flows : (s : Signature) → IsReadSignature s → Flows false (signature_pieces s)
signature_flows s h =
    let params = in_parentheses (params_pieces s.params) in
    flows_then false (w.fun_word ∷ space ∷ name_piece s.name ∷ params) (result_pieces s.result)
    (names_flow w.fun_word s.name leads.fun_leads h.0 params (in_parentheses_trails (params_pieces s.params) (params_flow s.params (recursion_from_All IsReadParam s.params h.1))))
    (result_trails s.result h.2.0)

signatures_good : (ss : List Signature) (indent : List ℕ) → IsIndent indent → AllByRecursion IsReadSignature ss → Lines (signatures_pieces indent ss)
signatures_good [] indent i h = no_lines
signatures_good (s ∷ ss) indent i h =
    lines_then (line indent (signature_pieces s ++ w.semicolon ∷ [])) (signatures_pieces indent ss)
    (line_good indent (signature_pieces s ++ w.semicolon ∷ []) i (flows_then false (signature_pieces s) (w.semicolon ∷ []) (signature_flows s h.0) semicolon_trails))
    (signatures_good ss indent i h.1)

fields_good : (ps : List Param) (indent : List ℕ) → IsIndent indent → AllByRecursion IsReadParam ps → Lines (fields_pieces indent ps)
fields_good [] indent i h = no_lines
fields_good (p ∷ ps) indent i h =
    lines_then (line indent (param_pieces p ++ w.semicolon ∷ [])) (fields_pieces indent ps)
    (line_good indent (param_pieces p ++ w.semicolon ∷ []) i (flows_then false (param_pieces p) (w.semicolon ∷ []) (param_flows p h.0) semicolon_trails))
    (fields_good ps indent i h.1)

remote_flows : (remote : Bool) (s : Signature) → IsReadSignature s → Flows false (remote_pieces remote ++ signature_pieces s)
remote_flows true s h = word_flows w.remote_word (space ∷ signature_pieces s) leads.remote_leads (spaced_trails (signature_pieces s) (signature_flows s h)) false
remote_flows false s h = signature_flows s h

method_good : (m : Method) (indent : List ℕ) → IsIndent indent → IsReadMethod m → Lines (method_pieces indent m)
method_good m indent i h =
    let head = remote_pieces m.remote ++ signature_pieces m.signature in
    between (line indent (opened head)) (body_pieces (deeper indent) m.body) (closed indent)
    (line_good indent (opened head) i (opened_flows head (remote_flows m.remote m.signature h.0)))
    (body_good m.body (deeper indent) (deeper_indent indent i) h.1) (closed_good indent i)

methods_good : (ms : List Method) (indent : List ℕ) → IsIndent indent → AllByRecursion IsReadMethod ms → Lines (methods_pieces indent ms)
methods_good [] indent i h = no_lines
methods_good (m ∷ ms) indent i h = lines_then (method_pieces indent m) (methods_pieces indent ms) (method_good m indent i h.0) (methods_good ms indent i h.1)

inside_indent : IsIndent inside
inside_indent = deeper_indent [] refl

-- `WORD NAME {`
named_line : (word : Piece) (name : List ℕ) → Leads word → IsName name → Lines (line [] (opened (word ∷ space ∷ name_piece name ∷ [])))
named_line word name l n = line_good [] (opened (word ∷ space ∷ name_piece name ∷ [])) refl (opened_flows (word ∷ space ∷ name_piece name ∷ []) (names_flow word name l n [] nothing_trails))

interface_good : (i : Interface) → IsReadInterface i → Lines (interface_pieces i)
interface_good i h =
    between (line [] (opened (w.interface_word ∷ space ∷ name_piece i.name ∷ []))) (signatures_pieces inside i.methods) (closed [])
    (named_line w.interface_word i.name leads.interface_leads h.0) (signatures_good i.methods inside inside_indent (recursion_from_All IsReadSignature i.methods h.1)) (closed_good [] refl)

interfaces_good : (is : List Interface) → AllByRecursion IsReadInterface is → Lines (interfaces_pieces is)
interfaces_good [] h = no_lines
interfaces_good (i ∷ is) h = lines_then (interface_pieces i) (interfaces_pieces is) (interface_good i h.0) (interfaces_good is h.1)

class_good : (c : Class) → IsReadClass c → Lines (class_pieces c)
class_good c h =
    let first = line [] (opened (w.class_word ∷ space ∷ name_piece c.name ∷ [])) in
    between (first ++ fields_pieces inside c.fields) (methods_pieces inside c.methods) (closed [])
    (lines_then first (fields_pieces inside c.fields) (named_line w.class_word c.name leads.class_leads h.0) (fields_good c.fields inside inside_indent (recursion_from_All IsReadParam c.fields h.1)))
    (methods_good c.methods inside inside_indent (recursion_from_All IsReadMethod c.methods h.2)) (closed_good [] refl)

classes_good : (cs : List Class) → AllByRecursion IsReadClass cs → Lines (classes_pieces cs)
classes_good [] h = no_lines
classes_good (c ∷ cs) h = lines_then (class_pieces c) (classes_pieces cs) (class_good c h.0) (classes_good cs h.1)

pub program_good : (p : Program) → IsReadable p → Lines (program_pieces p)
program_good p h =
    let main = w.main_word ∷ result_pieces p.result in
    let front = interfaces_pieces p.interfaces ++ classes_pieces p.classes in
    between (front ++ line [] (opened main)) (body_pieces inside p.body) (closed [])
    (between (interfaces_pieces p.interfaces) (classes_pieces p.classes) (line [] (opened main))
    (interfaces_good p.interfaces (recursion_from_All IsReadInterface p.interfaces h.interfaces))
    (classes_good p.classes (recursion_from_All IsReadClass p.classes h.classes))
    (line_good [] (opened main) refl (opened_flows main (word_flows w.main_word (result_pieces p.result) leads.main_leads (result_trails p.result h.result.0) false))))
    (body_good p.body inside inside_indent h.body) (closed_good [] refl)
