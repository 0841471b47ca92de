-- The groups of rules on expressions: what they give, and when.
use Rattle.std.proofs.Common.{◌≡◌, ℕ, List, [], ◌∷◌, map, length, nat_eq, true, Option, Some, None, Ok, refl, ap, sym, ◌∙◌, arith}
use Rattle.std.proofs.lemmas.Bool.Decides.{nat_tests}
use Rattle.rb_trees.specs.declared.code.UnOp.{UnOp}
use Rattle.rb_trees.specs.declared.code.BinOp.{BinOp}
use Rattle.rb_trees.specs.mirror.Declarations.{Param, Class}
use Rattle.rb_meaning_types.specs.Kinds.{Kind, Int, Bool, Text, Unit as UnitKind, Named, ListOf, RowsOf, kind_of}
use Rattle.rb_meaning_types.specs.Names.{class_named}
use Rattle.rb_meaning_types.specs.Declared.{Declarations}
use Rattle.rb_meaning_types.specs.Violations.{Placed, WrongCount, wanted, wrong_type}
use Rattle.rb_trees.specs.Outcome.{◌>>◌, must}
use Rattle.rb_meaning_types.specs.Operators.{takes_operand, unary_result, takes_left, binary_result, unary_kind, binary_kind, item_of, index_kind}
use Rattle.rb_meaning_types.specs.Members.{arguments_wanted, arguments_fit, receiver_class}
use Rattle.rb_meaning_types.specs.Expressions.{this_kind, all_wanted}
use Rattle.rb_typing_rules.specs.Rules.{kinds_of, AreAll}
use Rattle.rb_typing_rules.proofs.Steps.{bind_ok, then_ok, known_ok, must_ok, wanted_ok, wanted_so}

abbrev pub kinds_placed : List Placed → List Kind
kinds_placed ps = map (λ p. p.kind) ps

pub this_ok : (o : Option (List ℕ)) (at : ℕ) (kind : Kind) → this_kind o at ≡ Ok kind → (class : List ℕ) × (o ≡ Some class) × (Named class ≡ kind)
this_ok (Some class) at kind h = (class, refl, cc)
this_ok None at kind h = absurd (cc)

pub unary_ok : (op : UnOp) (p : Placed) (kind : Kind) → unary_kind op p ≡ Ok kind → (takes_operand op p.kind ≡ true) × (unary_result op ≡ kind)
unary_ok op p kind h =
    let s = then_ok (must (takes_operand op p.kind) (wrong_type p)) (Ok (unary_result op)) kind h in
    (must_ok (takes_operand op p.kind) (wrong_type p) s.0, let e = s.1 in cc)

pub binary_ok : (op : BinOp) (p q : Placed) (kind : Kind) → binary_kind op p q ≡ Ok kind → (takes_left op p.kind ≡ true) × (p.kind ≡ q.kind) × (binary_result op p.kind ≡ kind)
binary_ok op p q kind h =
    let s = then_ok (must (takes_left op p.kind) (wrong_type p) >> wanted p.kind q) (Ok (binary_result op p.kind)) kind h in
    let t = then_ok (must (takes_left op p.kind) (wrong_type p)) (wanted p.kind q) tt s.0 in
    (must_ok (takes_left op p.kind) (wrong_type p) t.0, wanted_ok p.kind q t.1, let e = s.1 in cc)

item_ok : (p : Placed) (list kind : Kind) → item_of p list ≡ Ok kind → list ≡ ListOf kind
item_ok p (ListOf item) kind h = cc
item_ok p Int kind h = cc
item_ok p Bool kind h = cc
item_ok p Text kind h = cc
item_ok p UnitKind kind h = cc
item_ok p (Named name) kind h = cc
item_ok p (RowsOf row) kind h = cc

pub index_ok : (p q : Placed) (kind : Kind) → index_kind p q ≡ Ok kind → (p.kind ≡ ListOf kind) × (Int ≡ q.kind)
index_ok p q kind h =
    let s = bind_ok (item_of p p.kind) (λ item. wanted Int q >> Ok item) kind h in
    let t = then_ok (wanted Int q) (Ok s.0) kind s.2 in
    (item_ok p p.kind kind (let e = s.1 in let f = t.1 in cc), wanted_ok Int q t.0)

-- arguments fit exactly where they have the types of the parameters
wanted_fits : (ps : List Param) (args : List Placed) → nat_eq (length args) (length ps) ≡ true → arguments_wanted ps args ≡ Ok tt → kinds_placed args ≡ kinds_of ps
wanted_fits [] [] c h = refl
wanted_fits [] (a ∷ args) c h = absurd (grind (arith, nat_tests))
wanted_fits (p ∷ ps) [] c h = absurd (grind (arith, nat_tests))
wanted_fits (p ∷ ps) (a ∷ args) c h =
    let s = then_ok (wanted (kind_of p.kind) a) (arguments_wanted ps args) tt h in
    let shorter : nat_eq (length args) (length ps) ≡ true = grind (arith, nat_tests) in
    ap (λ k. k ∷ kinds_placed args) (sym (wanted_ok (kind_of p.kind) a s.0)) ∙ ap (λ ks. kind_of p.kind ∷ ks) (wanted_fits ps args shorter s.1)

pub fit_ok : (at : ℕ) (ps : List Param) (args : List Placed) → arguments_fit at ps args ≡ Ok tt → kinds_placed args ≡ kinds_of ps
fit_ok at ps args h =
    let s = then_ok (must (nat_eq (length args) (length ps)) (WrongCount at)) (arguments_wanted ps args) tt h in
    wanted_fits ps args (must_ok (nat_eq (length args) (length ps)) (WrongCount at) s.0) s.1

count_so : (ps : List Param) (args : List Placed) → kinds_placed args ≡ kinds_of ps → nat_eq (length args) (length ps) ≡ true
count_so [] [] e = refl
count_so [] (a ∷ args) e = cc
count_so (p ∷ ps) [] e = cc
count_so (p ∷ ps) (a ∷ args) e = let rest : kinds_placed args ≡ kinds_of ps = cc in let shorter = count_so ps args rest in grind (arith, nat_tests)

wanted_all_so : (ps : List Param) (args : List Placed) → kinds_placed args ≡ kinds_of ps → arguments_wanted ps args ≡ Ok tt
wanted_all_so [] args e = refl
wanted_all_so (p ∷ ps) [] e = refl
wanted_all_so (p ∷ ps) (a ∷ args) e =
    let first : kind_of p.kind ≡ a.kind = cc in
    let rest : kinds_placed args ≡ kinds_of ps = cc in
    rw (wanted_so (kind_of p.kind) a first) (wanted_all_so ps args rest)

pub fit_so : (at : ℕ) (ps : List Param) (args : List Placed) → kinds_placed args ≡ kinds_of ps → arguments_fit at ps args ≡ Ok tt
fit_so at ps args e = rw (count_so ps args e) (wanted_all_so ps args e)

-- each item has the type
pub all_ok : (kind : Kind) (ps : List Placed) → all_wanted kind ps ≡ Ok tt → AreAll kind (kinds_placed ps)
all_ok kind [] h = tt
all_ok kind (p ∷ ps) h = let s = then_ok (wanted kind p) (all_wanted kind ps) tt h in (wanted_ok kind p s.0, all_ok kind ps s.1)

pub all_so : (kind : Kind) (ps : List Placed) → AreAll kind (kinds_placed ps) → all_wanted kind ps ≡ Ok tt
all_so kind [] e = refl
all_so kind (p ∷ ps) e = rw (wanted_so kind p e.0) (all_so kind ps e.1)

pub receiver_ok : (d : Declarations) (p : Placed) (kind : Kind) (class : Class) → receiver_class d p kind ≡ Ok class
    → (name : List ℕ) × (kind ≡ Named name) × (class_named d.classes name ≡ Some class)
receiver_ok d p (Named name) class h = (name, refl, known_ok (wrong_type p) (class_named d.classes name) class h)
receiver_ok d p Int class h = absurd (cc)
receiver_ok d p Bool class h = absurd (cc)
receiver_ok d p Text class h = absurd (cc)
receiver_ok d p UnitKind class h = absurd (cc)
receiver_ok d p (ListOf item) class h = absurd (cc)
receiver_ok d p (RowsOf row) class h = absurd (cc)
