-- What a script reads for its variables, against the names of the source.
use Rattle.std.proofs.Common.{◌≡◌, ◌<◌, refl, sym, ap, ◌∙◌, subst, arith, ℕ, suc, ◌≤◌, List, [], ◌∷◌, ◌++◌, Bool, true, false, cond, Option, Some, None, slice_get}
use Rattle.std.specs.Str.{bytes_eq}
use Rattle.std.proofs.lemmas.Bool.{eq-eqb, ne_eqb}
use Rattle.rb_trees.specs.Named.{lookup, replaced}
use Rattle.rb_trees.specs.declared.values.Value.{Value}
use Rattle.rb_trees.specs.declared.values.Value.TheVariants as value
use Rattle.rb_trees.specs.mirror.Code.{Expr, Exprs, Lit, Name, This, Unary, Binary, Field, Call, Index, New, Items, Taken, NoExprs, MoreExprs}
use Rattle.rb_meaning_code.specs.State.{Names, this_name}
use Rattle.rb_meaning_code.specs.ScriptRun.{Ground, Vars, latest}
use Rattle.rb_meaning_split.specs.Refs.{Ref, Root, Input, Var, Refs, with_var, input_number}
use Rattle.rb_law_script.proofs.Lookups.{same_bytes, first_or, lookup_old, lookup_new, lookup_replaced}

-- what a script reads for a variable
abbrev pub ref_value : Ground → Vars → Ref → Option Value
ref_value g vars Root = Some (value.Remote g.root)
ref_value g vars (Input number) = slice_get g.inputs number
ref_value g vars (Var number) = latest vars number

-- it is what the name has
pub record IsRead (g : Ground) (vars : Vars) (names : Names) (name : List ℕ) (r : Ref) : Type 0 where
  pub value : Value
  pub reads : ref_value g vars r ≡ Some value
  pub holds : lookup names name ≡ Some value

-- so it is of each name but `this`, which code reads by no name
abbrev pub Linked : Ground → Refs → Vars → Names → Type 0
Linked g refs vars names = (name : List ℕ) → bytes_eq this_name name ≡ false → (r : Ref) → lookup refs name ≡ Some r → IsRead g vars names name r

-- The variables of the script have numbers below m.
abbrev pub Fresh : ℕ → Refs → Type 0
Fresh m refs = (name : List ℕ) (number : ℕ) → lookup refs name ≡ Some (Var number) → number < m

abbrev pub IsFound : Option Ref → Type 0
IsFound (Some r) = Unit {0}
IsFound None = ⊥

-- an input of the script
abbrev pub IsInputRef : Option Ref → Type 0
IsInputRef (Some (Input number)) = Unit {0}
IsInputRef (Some Root) = ⊥
IsInputRef (Some (Var number)) = ⊥
IsInputRef None = ⊥

pub input_is_found : (o : Option Ref) → IsInputRef o → IsFound o
input_is_found (Some r) h = tt
input_is_found None h = absurd h

-- what the script and the name of an input hold
pub record IsInputRead (g : Ground) (names : Names) (refs : Refs) (name : List ℕ) : Type 0 where
  pub value : Value
  pub reads : slice_get g.inputs (input_number (lookup refs name)) ≡ Some value
  pub holds : lookup names name ≡ Some value

pub input_linked : (g : Ground) (refs : Refs) (vars : Vars) (names : Names) (name : List ℕ) → Linked g refs vars names → bytes_eq this_name name ≡ false → IsInputRef (lookup refs name) → IsInputRead g names refs name
input_linked g refs vars names name linked plain h = by (lookup refs name) refl h
  where
    by : (o : Option Ref) → lookup refs name ≡ o → IsInputRef o → IsInputRead g names refs name
    by (Some (Input number)) e k =
        let read = linked name plain (Input number) e in
        record { value = read.value; reads = subst (λ o. slice_get g.inputs (input_number o) ≡ Some read.value) (sym e) read.reads; holds = read.holds }
    by (Some Root) e k = absurd k
    by (Some (Var number)) e k = absurd k
    by None e k = absurd k

-- a portable expression each of whose variables the script has
abbrev mutual
  pub Closed : Refs → Expr → Type 0
  Closed refs (Lit at value) = Unit {0}
  Closed refs (Name at name) = (bytes_eq this_name name ≡ false) × IsFound (lookup refs name)
  Closed refs (This at) = ⊥
  Closed refs (Unary at op a) = Closed refs a
  Closed refs (Binary at op a b) = Closed refs a × Closed refs b
  Closed refs (Field at a name) = ⊥
  Closed refs (Call at a method args) = Closed refs a × AllClosed refs args
  Closed refs (Index at a b) = ⊥
  Closed refs (New at class args) = ⊥
  Closed refs (Items at item items) = ⊥
  Closed refs (Taken at step) = ⊥

  pub AllClosed : Refs → Exprs → Type 0
  AllClosed refs NoExprs = Unit {0}
  AllClosed refs (MoreExprs e es) = Closed refs e × AllClosed refs es

less_other : (n m : ℕ) → n < m → m ≡ n → ⊥
less_other n m h e = omega (arith, h, e)

less_suc : (m : ℕ) → m < suc m
less_suc m = omega arith

less_up : (a m n : ℕ) → m ≤ n → a < m → a < n
less_up a m n h l = omega (arith, h, l)

pub fresh_up : (m n : ℕ) (refs : Refs) → m ≤ n → Fresh m refs → Fresh n refs
fresh_up m n refs h f name number e = less_up number m n h (f name number e)

is_var : (a b : ℕ) → Some (Var a) ≡ Some (Var b) → a ≡ b
is_var a b e = cc (e)

-- with one variable more
pub fresh_with : (m : ℕ) (refs : Refs) (name : List ℕ) → Fresh m refs → Fresh (suc m) (with_var refs name m)
fresh_with m refs name f y number e = by (lookup refs y) refl
  where
    last : (t : Bool) → first_or t (Var m) None ≡ Some (Var number) → number < suc m
    last true h = subst (λ q. q < suc m) (is_var m number h) (less_suc m)
    last false h = absurd (cc (h))

    by : (o : Option Ref) → lookup refs y ≡ o → number < suc m
    by (Some r) h =
        let same : lookup refs y ≡ Some (Var number) = h ∙ sym (lookup_old refs y name (Var m) r h) ∙ e in
        less_up number m (suc m) (omega arith) (f y number same)
    by None h = last (bytes_eq name y) (sym (lookup_new refs y name (Var m) h) ∙ e)

read_old : (g : Ground) (vars : Vars) (m : ℕ) (v : Value) (r : Ref) → ((number : ℕ) → r ≡ Var number → number < m) → ref_value g ((m, v) ∷ vars) r ≡ ref_value g vars r
read_old g vars m v Root f = refl
read_old g vars m v (Input number) f = refl
read_old g vars m v (Var number) f = ap (λ t. cond t (Some v) (latest vars number)) (ne_eqb m number (less_other number m (f number refl)))

read_new : (g : Ground) (vars : Vars) (m : ℕ) (v : Value) → ref_value g ((m, v) ∷ vars) (Var m) ≡ Some v
read_new g vars m v = ap (λ t. cond t (Some v) (latest vars m)) (eq-eqb m m refl)

-- a value that both sides bind
pub linked_more : (g : Ground) (refs : Refs) (vars : Vars) (names : Names) (m : ℕ) (name : List ℕ) (v : Value) → Linked g refs vars names → Fresh m refs → (bytes_eq this_name name ≡ false → lookup names name ≡ None)
    → Linked g (with_var refs name m) ((m, v) ∷ vars) (names ++ (name, v) ∷ [])
linked_more g refs vars names m name v linked fresh free y plain r e = by (lookup refs y) refl
  where
    by_name : (t : Bool) → bytes_eq name y ≡ t → first_or t (Var m) None ≡ Some r → IsRead g ((m, v) ∷ vars) (names ++ (name, v) ∷ []) y r
    by_name true same h =
        let is : name ≡ y = same_bytes name y same in
        let absent : lookup names y ≡ None = subst (λ z. lookup names z ≡ None) is (free (subst (λ z. bytes_eq this_name z ≡ false) (sym is) plain)) in
        let var : Var m ≡ r = cc (h) in
        record {
          value = v;
          reads = subst (λ q. ref_value g ((m, v) ∷ vars) q ≡ Some v) var (read_new g vars m v);
          holds = lookup_new names y name v absent ∙ ap (λ t. first_or t v None) same;
        }
    by_name false same h = absurd (cc (h))

    by : (o : Option Ref) → lookup refs y ≡ o → IsRead g ((m, v) ∷ vars) (names ++ (name, v) ∷ []) y r
    by (Some q) h =
        let same : q ≡ r = cc (sym (lookup_old refs y name (Var m) q h) ∙ e) in
        let old = linked y plain q h in
        record {
          value = old.value;
          reads = subst (λ z. ref_value g ((m, v) ∷ vars) z ≡ Some old.value) same (read_old g vars m v q (λ number is. fresh y number (h ∙ ap Some is)) ∙ old.reads);
          holds = lookup_old names y name v old.value old.holds;
        }
    by None h = by_name (bytes_eq name y) refl (sym (lookup_new refs y name (Var m) h) ∙ e)

-- a name that the source alone binds
pub linked_append : (g : Ground) (refs : Refs) (vars : Vars) (names : Names) (name : List ℕ) (v : Value) → Linked g refs vars names → Linked g refs vars (names ++ (name, v) ∷ [])
linked_append g refs vars names name v linked y plain r e =
    let old = linked y plain r e in
    record { value = old.value; reads = old.reads; holds = lookup_old names y name v old.value old.holds }

-- a value that the source alone replaces
pub linked_replaced : (g : Ground) (refs : Refs) (vars : Vars) (names : Names) (name : List ℕ) (v : Value) → lookup refs name ≡ None → Linked g refs vars names → Linked g refs vars (replaced names name v)
linked_replaced g refs vars names name v absent linked y plain r e =
    let old = linked y plain r e in
    record { value = old.value; reads = old.reads; holds = lookup_replaced names name y v (by (bytes_eq name y) refl) ∙ old.holds }
  where
    by : (t : Bool) → bytes_eq name y ≡ t → t ≡ false
    by false h = refl
    by true h = absurd (cc (subst (λ z. lookup refs z ≡ None) (same_bytes name y h) absent, e))
