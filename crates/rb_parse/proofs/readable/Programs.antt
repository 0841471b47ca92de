-- The productions of programs and their declarations keep what holds of parts.
use Rattle.std.proofs.Common.{◌≡◌, ℕ, ◌≤◌, List, [], ◌∷◌, refl, ◌∙◌, arith}
use Rattle.std.specs.List.{All}
use Rattle.std.proofs.lemmas.List.Elements.{All-nil, All-cons}
use Rattle.rb_trees.specs.declared.tokens.TokenKind.TheVariants as kind
use Rattle.rb_trees.specs.Kinds as k
use Rattle.rb_meaning_bytes.specs.grammar.Symbols as s
use Rattle.rb_meaning_bytes.specs.grammar.Symbols.{Symbol, TreeOf, Makes}
use Rattle.rb_meaning_bytes.specs.grammar.Productions as r
use Rattle.rb_meaning_bytes.specs.grammar.Productions.{Production}
use Rattle.rb_meaning_bytes.specs.grammar.Limits.{Nesting, after}
use Rattle.rb_parse.proofs.readable.Trees.{IsReadParam, IsReadSignature, IsReadInterface, IsReadMethod, IsReadClass}
use Rattle.rb_parse.proofs.readable.States.{afters, Ready, Goes, goes_on, stills}
use Rattle.rb_parse.proofs.readable.Heads.{head_closes, interface_opens, class_opens, signature_opens}
use Rattle.rb_parse.proofs.readable.Steps.{Keeps}
use Rattle.rb_parse.proofs.readable.Invariants.{Shown, Outside, Keeping}
use Rattle.rb_parse.proofs.readable.Types.{type_read}

-- nothing stands there
still : (n : Nesting) → Ready n → Goes n n
still n ready = stills [] refl n ready

-- a part behind tokens
then : {n m o : Nesting} {P : Type 0} → Goes n m → Shown m P o → n.types ≡ 0 → Keeps n P o
then a g flat = let b = g a.ready (a.types ∙ flat) in record { goes = goes_on a b.goes; read = b.read }

outside_then : {n m o : Nesting} {P : Type 0} → Goes n m → Outside m P o → n.types ≡ 0 → n.blocks ≡ 0 → Keeps n P o
outside_then a g flat outside = let b = g a.ready (a.types ∙ flat) (a.blocks ∙ outside) in record { goes = goes_on a b.goes; read = b.read }

-- an item, and those behind it
module _ {A : Type 0} (IsRead : A → Type 0) (x : A) (xs : List A) {n m o : Nesting} where
  items : Keeps n (IsRead x) m → Shown m (All IsRead xs) o → n.types ≡ 0 → Keeps n (All IsRead (x ∷ xs)) o
  items a g flat = let b = then a.goes g flat in record { goes = b.goes; read = All-cons IsRead x xs a.read b.read }

  outside_items : Keeps n (IsRead x) m → Outside m (All IsRead xs) o → n.types ≡ 0 → n.blocks ≡ 0 → Keeps n (All IsRead (x ∷ xs)) o
  outside_items a g flat outside = let b = outside_then a.goes g flat outside in record { goes = b.goes; read = All-cons IsRead x xs a.read b.read }

-- a semicolon behind an item
ended : {n m : Nesting} {P : Type 0} → Keeps n P m → Keeps n P (after m k.sign_semicolon)
ended {m = m} a = record { goes = goes_on a.goes (stills (k.sign_semicolon ∷ []) refl m a.goes.ready); read = a.read }

no_types : (n : ℕ) → n ≡ 0 → n ≤ 64
no_types n h = omega arith

pub at_param : {source : List ℕ} {l : List Symbol} {f : Makes l (TreeOf s.AParam)} → Production source s.AParam l f → Keeping source s.AParam l f
at_param r.param = λ n ys run ready flat.
    let a = stills (kind.Name ∷ k.sign_colon ∷ []) refl n ready in
    let b = run.2.2.2 a.ready (no_types (afters n (kind.Name ∷ k.sign_colon ∷ [])).types (a.types ∙ flat)) in
    record { goes = goes_on a b.moves.goes; read = (run.1, type_read b) }

pub at_params : {source : List ℕ} {l : List Symbol} {f : Makes l (TreeOf s.Params)} → Production source s.Params l f → Keeping source s.Params l f
at_params r.no_params = λ n ys run ready flat. record { goes = still n ready; read = All-nil IsReadParam }
at_params r.params = λ n ys run ready flat. items IsReadParam ys.0 ys.1.0 (run.2 ready flat) run.3.2 flat

pub at_more_params : {source : List ℕ} {l : List Symbol} {f : Makes l (TreeOf s.MoreParams)} → Production source s.MoreParams l f → Keeping source s.MoreParams l f
at_more_params r.last_param = λ n ys run ready flat. record { goes = still n ready; read = All-nil IsReadParam }
at_more_params r.more_params = λ n ys run ready flat.
    items IsReadParam ys.1.0 ys.1.1.0 (then (stills (k.sign_comma ∷ []) refl n ready) run.2.2 flat) run.2.3.2 flat

pub at_result : {source : List ℕ} {l : List Symbol} {f : Makes l (TreeOf s.ResultType)} → Production source s.ResultType l f → Keeping source s.ResultType l f
at_result r.no_result_type = λ n ys run ready flat. record { goes = still n ready; read = λ at. (tt, omega arith) }
at_result r.result_type = λ n ys run ready flat.
    let a = stills (k.sign_colon ∷ []) refl n ready in
    let b = run.2.2 a.ready (no_types (after n k.sign_colon).types (a.types ∙ flat)) in
    record { goes = goes_on a b.moves.goes; read = λ at. type_read b }

pub at_signature : {source : List ℕ} {l : List Symbol} {f : Makes l (TreeOf s.ASignature)} → Production source s.ASignature l f → Keeping source s.ASignature l f
at_signature r.signature = λ n ys run ready flat.
    let a = then (signature_opens n ready) run.2.2.2.2 flat in
    let b = goes_on a.goes (stills (k.sign_close ∷ []) refl run.2.2.2.0 a.goes.ready) in
    let c = then b run.2.2.2.3.2.2 flat in
    record { goes = c.goes; read = (run.2.1, a.read, c.read ys.1.0.start) }

pub at_signatures : {source : List ℕ} {l : List Symbol} {f : Makes l (TreeOf s.Signatures)} → Production source s.Signatures l f → Keeping source s.Signatures l f
at_signatures r.no_signatures = λ n ys run ready flat. record { goes = still n ready; read = All-nil IsReadSignature }
at_signatures r.more_signatures = λ n ys run ready flat. items IsReadSignature ys.0 ys.1.1.0 (ended (run.2 ready flat)) run.3.2.2 flat

pub at_fields : {source : List ℕ} {l : List Symbol} {f : Makes l (TreeOf s.Fields)} → Production source s.Fields l f → Keeping source s.Fields l f
at_fields r.no_fields = λ n ys run ready flat. record { goes = still n ready; read = All-nil IsReadParam }
at_fields r.more_fields = λ n ys run ready flat. items IsReadParam ys.0 ys.1.1.0 (ended (run.2 ready flat)) run.3.2.2 flat

pub at_interface : {source : List ℕ} {l : List Symbol} {f : Makes l (TreeOf s.AnInterface)} → Production source s.AnInterface l f → Keeping source s.AnInterface l f
at_interface r.interface = λ n ys run ready flat outside.
    let a = then (interface_opens n ready) run.2.2.2.2 flat in
    record { goes = head_closes n run.2.2.2.0 outside a.goes; read = (run.2.1, a.read) }

pub at_interfaces : {source : List ℕ} {l : List Symbol} {f : Makes l (TreeOf s.Interfaces)} → Production source s.Interfaces l f → Keeping source s.Interfaces l f
at_interfaces r.no_interfaces = λ n ys run ready flat outside. record { goes = still n ready; read = All-nil IsReadInterface }
at_interfaces r.more_interfaces = λ n ys run ready flat outside.
    outside_items IsReadInterface ys.0 ys.1.0 (run.2 ready flat outside) run.3.2 flat outside

pub at_method : {source : List ℕ} {l : List Symbol} {f : Makes l (TreeOf s.AMethod)} → Production source s.AMethod l f → Keeping source s.AMethod l f
at_method r.local_method = λ n ys run ready flat outside.
    let a = run.2 ready flat in
    let b = outside_then a.goes run.3.2 flat outside in
    record { goes = b.goes; read = (a.read, b.read) }
at_method r.remote_method = λ n ys run ready flat outside.
    let a = then (stills (k.keyword_remote ∷ []) refl n ready) run.2.2 flat in
    let b = outside_then a.goes run.2.3.2 flat outside in
    record { goes = b.goes; read = (a.read, b.read) }

pub at_methods : {source : List ℕ} {l : List Symbol} {f : Makes l (TreeOf s.Methods)} → Production source s.Methods l f → Keeping source s.Methods l f
at_methods r.no_methods = λ n ys run ready flat outside. record { goes = still n ready; read = All-nil IsReadMethod }
at_methods r.more_methods = λ n ys run ready flat outside.
    outside_items IsReadMethod ys.0 ys.1.0 (run.2 ready flat outside) run.3.2 flat outside

pub at_class : {source : List ℕ} {l : List Symbol} {f : Makes l (TreeOf s.AClass)} → Production source s.AClass l f → Keeping source s.AClass l f
at_class r.class = λ n ys run ready flat outside.
    let a = then (class_opens n ready) run.2.2.2.2 flat in
    let b = outside_then a.goes run.2.2.2.3.2 flat outside in
    record { goes = head_closes n run.2.2.2.3.0 outside b.goes; read = (run.2.1, a.read, b.read) }

pub at_classes : {source : List ℕ} {l : List Symbol} {f : Makes l (TreeOf s.Classes)} → Production source s.Classes l f → Keeping source s.Classes l f
at_classes r.no_classes = λ n ys run ready flat outside. record { goes = still n ready; read = All-nil IsReadClass }
at_classes r.more_classes = λ n ys run ready flat outside.
    outside_items IsReadClass ys.0 ys.1.0 (run.2 ready flat outside) run.3.2 flat outside

pub at_program : {source : List ℕ} {l : List Symbol} {f : Makes l (TreeOf s.TheProgram)} → Production source s.TheProgram l f → Keeping source s.TheProgram l f
at_program r.program = λ n ys run ready flat outside.
    let a = run.2 ready flat outside in
    let b = outside_then a.goes run.3.2 flat outside in
    let c = goes_on b.goes (stills (k.keyword_main ∷ []) refl run.3.0 b.goes.ready) in
    let d = then c run.3.3.2.2 flat in
    let e = outside_then d.goes run.3.3.2.3.2 flat outside in
    record { interfaces = a.read; classes = b.read; result = d.read ys.1.1.0.start; body = e.read }
