-- What a script calls the variables that it reads: each has a value of its type there.
use Rattle.std.proofs.Common.{◌≡◌, refl, subst, ap, sym, ◌∙◌, ℕ, suc, ◌≤◌, ◌<◌, List, [], ◌∷◌, ◌++◌, Bool as Truth, true, false, ◌||◌, cond, arith, Option, Some, None, option_map, slice_get}
use Rattle.std.specs.List.{AllByRecursion}
use Rattle.std.specs.Str.{bytes_eq}
use Rattle.std.proofs.lemmas.Bool.{eq-eqb, ne_eqb}
use Rattle.rb_trees.specs.Named.{first_named, lookup}
use Rattle.rb_trees.specs.declared.values.Value.{Value}
use Rattle.rb_trees.specs.declared.values.Value.TheVariants as value
use Rattle.rb_trees.specs.mirror.Declarations.{Interface}
use Rattle.rb_meaning_types.specs.Kinds.{Kind}
use Rattle.rb_meaning_types.specs.Scopes as typed
use Rattle.rb_meaning_types.specs.Fits.{Fits, this_name}
use Rattle.rb_meaning_code.specs.ScriptRun.{Ground, Vars, latest}
use Rattle.rb_meaning_flow.specs.declared.scopes.Role.{Role}
use Rattle.rb_meaning_flow.specs.declared.scopes.Variable.{Variable}
use Rattle.rb_meaning_flow.specs.Scopes.{Scope, variable_named, with_variable, role_in, role_of, is_constant_role, is_list_role, is_portable_role}
use Rattle.rb_meaning_split.specs.Refs.{Ref, Root, Input, Var, Refs, with_var}
use Rattle.rb_law_division.proofs.Lists.{all_both, all_weaker}
use Rattle.rb_law_division.proofs.Used.{IsIn}

-- ---- what stands first, with one more at the end

abbrev pub else_first : {A : Type 0} → Option A → Option A → Option A
else_first (Some a) o = Some a
else_first None o = o

pub first_more : {A : Type 0} (name_of : A → List ℕ) (xs : List A) (z : A) (q : List ℕ) → first_named name_of (xs ++ z ∷ []) q ≡ else_first (first_named name_of xs q) (cond (bytes_eq (name_of z) q) (Some z) None)
first_more name_of [] z q = refl
first_more name_of (x ∷ xs) z q = by (bytes_eq (name_of x) q) (first_more name_of xs z q)
  where
    by : (t : Truth) → first_named name_of (xs ++ z ∷ []) q ≡ else_first (first_named name_of xs q) (cond (bytes_eq (name_of z) q) (Some z) None)
        → cond t (Some x) (first_named name_of (xs ++ z ∷ []) q) ≡ else_first (cond t (Some x) (first_named name_of xs q)) (cond (bytes_eq (name_of z) q) (Some z) None)
    by true h = refl
    by false h = h

-- ---- roles

-- a variable that a script takes for an input: a constant one, or a constant list
abbrev pub is_given : Role → Truth
is_given role = is_constant_role role || is_list_role role

-- a variable that a script reads: a portable one, or a constant list
abbrev pub is_read : Role → Truth
is_read role = is_portable_role role || is_list_role role

pub portable_read : (role : Role) → is_portable_role role ≡ true → is_read role ≡ true
portable_read role h = ap (λ t. t || is_list_role role) h

pub list_read : (role : Role) → is_list_role role ≡ true → is_read role ≡ true
list_read role h = by (is_portable_role role)
  where
    by : (t : Truth) → (t || is_list_role role) ≡ true
    by true = refl
    by false = h

-- a portable variable that is given is constant
pub portable_constant : (role : Role) → is_portable_role role ≡ true → is_given role ≡ true → is_constant_role role ≡ true
portable_constant Role.Constant r g = refl
portable_constant Role.ConstantList r g = absurd (cc r)
portable_constant Role.Root r g = g
portable_constant Role.Row r g = g
portable_constant Role.Carried r g = g
portable_constant Role.Plain r g = absurd (cc r)

-- ---- references

-- a name that is an input of the script
abbrev pub IsCalled : Refs → List ℕ → Type 0
IsCalled refs q = (n : ℕ) × (lookup refs q ≡ Some (Input n))

pub called_more : (refs : Refs) (name : List ℕ) (m : ℕ) (q : List ℕ) (n : ℕ) → lookup refs q ≡ Some (Input n) → lookup (with_var refs name m) q ≡ Some (Input n)
called_more refs name m q n h = ap (option_map (λ r. r.1)) (first_more (λ r. r.0) refs (name, Var m) q) ∙ by (first_named (λ r. r.0) refs q) h
  where
    by : (o : Option (List ℕ × Ref)) → option_map (λ r. r.1) o ≡ Some (Input n) → option_map (λ r. r.1) (else_first o (cond (bytes_eq name q) (Some (name, Var m)) None)) ≡ Some (Input n)
    by (Some r) k = k
    by None k = absurd (cc k)

abbrev pub resolve : Ground → Vars → Ref → Option Value
resolve g vars Root = Some (value.Remote g.root)
resolve g vars (Input n) = slice_get g.inputs n
resolve g vars (Var m) = latest vars m

abbrev pub resolved : Ground → Vars → Option Ref → Option Value
resolved g vars (Some r) = resolve g vars r
resolved g vars None = None

-- A variable of the script is numbered below this.
abbrev pub IsOlder : ℕ → Ref → Type 0
IsOlder m Root = Unit {0}
IsOlder m (Input n) = Unit {0}
IsOlder m (Var k) = k < m

older_still : (m m1 : ℕ) (r : Ref) → m ≤ m1 → IsOlder m r → IsOlder m1 r
older_still m m1 Root l h = tt
older_still m m1 (Input n) l h = tt
older_still m m1 (Var k) l h = omega arith

abbrev pub AreOlder : ℕ → Refs → Type 0
AreOlder m refs = AllByRecursion (λ r. IsOlder m r.1) refs

abbrev MayBeOlder : ℕ → Option Ref → Type 0
MayBeOlder m (Some r) = IsOlder m r
MayBeOlder m None = Unit {0}

found_older : (m : ℕ) (refs : Refs) (q : List ℕ) → AreOlder m refs → MayBeOlder m (lookup refs q)
found_older m [] q h = tt
found_older m (r ∷ rs) q h = by (bytes_eq r.0 q) (found_older m rs q h.1)
  where
    by : (t : Truth) → MayBeOlder m (lookup rs q) → MayBeOlder m (option_map (λ n. n.1) (cond t (Some r) (first_named (λ n. n.0) rs q)))
    by true g = h.0
    by false g = g

-- an older one has the same value, where there is a variable more
resolve_more : (g : Ground) (vars : Vars) (m : ℕ) (v : Value) (r : Ref) → IsOlder m r → resolve g ((m, v) ∷ vars) r ≡ resolve g vars r
resolve_more g vars m v Root h = refl
resolve_more g vars m v (Input n) h = refl
resolve_more g vars m v (Var k) h = ap (λ (t : Truth). cond t (Some v) (latest vars k)) (ne_eqb m k (λ e. omega (arith, h, e)))

-- ---- the scopes have the same names

abbrev pub SameNames : Scope → typed.Scope → Type 0
SameNames [] [] = Unit {0}
SameNames [] (w ∷ ws) = ⊥
SameNames (v ∷ vs) [] = ⊥
SameNames (v ∷ vs) (w ∷ ws) = (v.name ≡ w.name) × SameNames vs ws

pub same_more : (vs : Scope) (ws : typed.Scope) (v : Variable) (w : typed.Variable) → v.name ≡ w.name → SameNames vs ws → SameNames (vs ++ v ∷ []) (ws ++ w ∷ [])
same_more [] [] v w e h = (e, tt)
same_more [] (y ∷ ws) v w e h = absurd h
same_more (u ∷ vs) [] v w e h = absurd h
same_more (u ∷ vs) (y ∷ ws) v w e h = (h.0, same_more vs ws v w e h.1)

-- both are there, or neither is
abbrev pub Match : {A B : Type 0} → Option A → Option B → Type 0
Match (Some a) (Some b) = Unit {0}
Match None None = Unit {0}
Match (Some a) None = ⊥
Match None (Some b) = ⊥

pub names_match : (vs : Scope) (ws : typed.Scope) (q : List ℕ) → SameNames vs ws → Match (variable_named vs q) (typed.variable_named ws q)
names_match [] [] q h = tt
names_match [] (y ∷ ws) q h = absurd h
names_match (u ∷ vs) [] q h = absurd h
names_match (u ∷ vs) (y ∷ ws) q h =
    subst (λ n. Match (variable_named (u ∷ vs) q) (cond (bytes_eq n q) (Some y) (typed.variable_named ws q))) h.0 (by (bytes_eq u.name q) (names_match vs ws q h.1))
  where
    by : (t : Truth) → Match (variable_named vs q) (typed.variable_named ws q) → Match (cond t (Some u) (variable_named vs q)) (cond t (Some y) (typed.variable_named ws q))
    by true g = tt
    by false g = g

-- ---- what is known of the variables

module _ (is : List Interface) (names : List (List ℕ)) (g : Ground) where
  -- a value of a type
  abbrev pub HasValue : Kind → Option Value → Type 0
  HasValue k o = (v : Value) × (o ≡ Some v) × Fits is [] k v

  -- Each variable that the script reads has a value of its type, if it isn't given or if it is an input.
  pub record Knows (vs : Scope) (ws : typed.Scope) (refs : Refs) (m : ℕ) (vars : Vars) : Type 0 where
    pub same : SameNames vs ws
    pub none : (q : List ℕ) → typed.variable_named ws q ≡ None → lookup refs q ≡ None
    pub older : AreOlder m refs
    pub called : (q : List ℕ) → IsIn names q → IsCalled refs q
    pub each : (q : List ℕ) (w : typed.Variable) → bytes_eq this_name q ≡ false → is_read (role_of vs q) ≡ true → (is_given (role_of vs q) ≡ true → IsIn names q)
        → typed.variable_named ws q ≡ Some w → HasValue w.kind (resolved g vars (lookup refs q))

  -- under a greater number
  pub knows_later : (vs : Scope) (ws : typed.Scope) (refs : Refs) (m m1 : ℕ) (vars : Vars) → m ≤ m1 → Knows vs ws refs m vars → Knows vs ws refs m1 vars
  knows_later vs ws refs m m1 vars l h =
      record { same = h.same; none = h.none; older = all_weaker (λ r. IsOlder m r.1) (λ r. IsOlder m1 r.1) refs (λ r o. older_still m m1 r.1 l o) h.older; called = h.called; each = h.each }

  abbrev one : List ℕ → Role → ℕ → Variable
  one name role at = record { name = name; role = role; node = at }

  abbrev typed_one : List ℕ → Kind → Truth → typed.Variable
  typed_one name k fixed = record { name = name; kind = k; fixed = fixed }

  none_before : {A : Type 0} (o last : Option A) → else_first o last ≡ None → (o ≡ None) × (last ≡ None)
  none_before (Some a) last h = absurd (cc h)
  none_before None last h = (refl, h)

  not_named : {A : Type 0} (t : Truth) (a : A) → cond t (Some a) None ≡ None → t ≡ false
  not_named true a h = absurd (cc h)
  not_named false a h = refl

  lookup_more : (refs : Refs) (name : List ℕ) (m : ℕ) (q : List ℕ) → lookup (with_var refs name m) q ≡ option_map (λ n. n.1) (else_first (first_named (λ n. n.0) refs q) (cond (bytes_eq name q) (Some (name, Var m)) None))
  lookup_more refs name m q = ap (option_map (λ n. n.1)) (first_more (λ n. n.0) refs (name, Var m) q)

  no_first : (refs : Refs) (q : List ℕ) → lookup refs q ≡ None → first_named (λ n. n.0) refs q ≡ None
  no_first refs q h = by (first_named (λ n. n.0) refs q) h
    where
      by : (o : Option (List ℕ × Ref)) → option_map (λ n. n.1) o ≡ None → o ≡ None
      by (Some a) e = absurd (cc e)
      by None e = refl

  role_more : (vs : Scope) (name : List ℕ) (role : Role) (at : ℕ) (q : List ℕ) → role_of (with_variable vs name role at) q ≡ role_in (else_first (variable_named vs q) (cond (bytes_eq name q) (Some (one name role at)) None))
  role_more vs name role at q = ap role_in (first_more (λ u. u.name) vs (one name role at) q)

  -- the role of a variable that was in scope before
  role_before : (vs : Scope) (ws : typed.Scope) (name : List ℕ) (role : Role) (at : ℕ) (q : List ℕ) (w : typed.Variable) → SameNames vs ws → typed.variable_named ws q ≡ Some w → role_of (with_variable vs name role at) q ≡ role_of vs q
  role_before vs ws name role at q w same e = role_more vs name role at q ∙ by (variable_named vs q) (subst (Match (variable_named vs q)) e (names_match vs ws q same))
    where
      by : (o : Option Variable) → Match o (Some w) → role_in (else_first o (cond (bytes_eq name q) (Some (one name role at)) None)) ≡ role_in o
      by (Some u) m = refl
      by None m = absurd m

  -- and of one that wasn't
  role_after : (vs : Scope) (ws : typed.Scope) (name : List ℕ) (role : Role) (at : ℕ) (q : List ℕ) → SameNames vs ws → typed.variable_named ws q ≡ None
      → role_of (with_variable vs name role at) q ≡ role_in (cond (bytes_eq name q) (Some (one name role at)) None)
  role_after vs ws name role at q same e = role_more vs name role at q ∙ by (variable_named vs q) (subst (Match (variable_named vs q)) e (names_match vs ws q same))
    where
      by : (o : Option Variable) → Match {B = typed.Variable} o None → role_in (else_first o (cond (bytes_eq name q) (Some (one name role at)) None)) ≡ role_in (cond (bytes_eq name q) (Some (one name role at)) None)
      by (Some u) m = absurd m
      by None m = refl

  -- a variable found before has its value still
  value_before : (refs : Refs) (name : List ℕ) (m : ℕ) (vars : Vars) (v : Value) (k : Kind) (q : List ℕ) → AreOlder m refs → HasValue k (resolved g vars (lookup refs q)) → HasValue k (resolved g ((m, v) ∷ vars) (lookup (with_var refs name m) q))
  value_before refs name m vars v k q older h =
      (h.0, ap (resolved g ((m, v) ∷ vars)) (lookup_more refs name m q) ∙ by (first_named (λ n. n.0) refs q) (found_older m refs q older) h.1, h.2)
    where
      by : (o : Option (List ℕ × Ref)) → MayBeOlder m (option_map (λ n. n.1) o) → resolved g vars (option_map (λ n. n.1) o) ≡ Some h.0
          → resolved g ((m, v) ∷ vars) (option_map (λ n. n.1) (else_first o (cond (bytes_eq name q) (Some (name, Var m)) None))) ≡ Some h.0
      by (Some r) old e = resolve_more g vars m v r.1 old ∙ e
      by None old e = absurd (cc e)

  -- one more, which the script has
  pub knows_more : (vs : Scope) (ws : typed.Scope) (refs : Refs) (m : ℕ) (vars : Vars) (name : List ℕ) (role : Role) (at : ℕ) (k : Kind) (fixed : Truth) (v : Value) → Fits is [] k v → Knows vs ws refs m vars
      → Knows (with_variable vs name role at) (typed.with_variable ws name k fixed) (with_var refs name m) (suc m) ((m, v) ∷ vars)
  knows_more vs ws refs m vars name role at k fixed v fits h = record {
    same = same_more vs ws (one name role at) (typed_one name k fixed) refl h.same;
    none = λ q e.
        let parts = none_before (typed.variable_named ws q) (cond (bytes_eq name q) (Some (typed_one name k fixed)) None) (sym (first_more (λ u. u.name) ws (typed_one name k fixed) q) ∙ e) in
        lookup_more refs name m q ∙ ap (λ o. option_map (λ n. n.1) (else_first o (cond (bytes_eq name q) (Some (name, Var m)) None))) (no_first refs q (h.none q parts.0))
        ∙ ap (λ (t : Truth). option_map (λ (n : List ℕ × Ref). n.1) (cond t (Some (name, Var m)) None)) (not_named (bytes_eq name q) (typed_one name k fixed) parts.1);
    called = λ q i. let c = h.called q i in (c.0, called_more refs name m q c.0 c.1);
    older = all_both (λ r. IsOlder (suc m) r.1) refs ((name, Var m) ∷ []) (all_weaker (λ r. IsOlder m r.1) (λ r. IsOlder (suc m) r.1) refs (λ r o. older_still m (suc m) r.1 (omega arith) o) h.older) (omega arith, tt);
    each = λ q w plain r c e. known q w plain r c (sym (first_more (λ u. u.name) ws (typed_one name k fixed) q) ∙ e) (typed.variable_named ws q) refl;
  }
    where
      known : (q : List ℕ) (w : typed.Variable) → bytes_eq this_name q ≡ false → is_read (role_of (with_variable vs name role at) q) ≡ true → (is_given (role_of (with_variable vs name role at) q) ≡ true → IsIn names q)
          → else_first (typed.variable_named ws q) (cond (bytes_eq name q) (Some (typed_one name k fixed)) None) ≡ Some w → (o : Option typed.Variable) → typed.variable_named ws q ≡ o
          → HasValue w.kind (resolved g ((m, v) ∷ vars) (lookup (with_var refs name m) q))
      known q w plain r c e (Some w0) there =
          let same : w0 ≡ w = cc (subst (λ o. else_first o (cond (bytes_eq name q) (Some (typed_one name k fixed)) None) ≡ Some w) there e) in
          let role_is = role_before vs ws name role at q w0 h.same there in
          subst (λ z. HasValue z.kind (resolved g ((m, v) ∷ vars) (lookup (with_var refs name m) q))) same
          (value_before refs name m vars v w0.kind q h.older (h.each q w0 plain (subst (λ z. is_read z ≡ true) role_is r) (λ y. c (subst (λ z. is_given z ≡ true) (sym role_is) y)) there))
      known q w plain r c e None there =
          by (bytes_eq name q) refl (subst (λ o. else_first o (cond (bytes_eq name q) (Some (typed_one name k fixed)) None) ≡ Some w) there e)
        where
          by : (t : Truth) → bytes_eq name q ≡ t → cond t (Some (typed_one name k fixed)) None ≡ Some w → HasValue w.kind (resolved g ((m, v) ∷ vars) (lookup (with_var refs name m) q))
          by true is_it e' =
              let same : typed_one name k fixed ≡ w = cc e' in (
                v,
                ap (resolved g ((m, v) ∷ vars)) (lookup_more refs name m q)
                    ∙ ap (λ o. resolved g ((m, v) ∷ vars) (option_map (λ n. n.1) (else_first o (cond (bytes_eq name q) (Some (name, Var m)) None)))) (no_first refs q (h.none q there))
                    ∙ ap (λ (t : Truth). resolved g ((m, v) ∷ vars) (option_map (λ (n : List ℕ × Ref). n.1) (cond t (Some (name, Var m)) None))) is_it
                    ∙ ap (λ (t : Truth). cond t (Some v) (latest vars m)) (eq-eqb m m refl),
                subst (λ z. Fits is [] z.kind v) same fits,
              )
          by false is_it e' = absurd (cc e')

  -- one more, which isn't portable
  pub knows_plain : (vs : Scope) (ws : typed.Scope) (refs : Refs) (m : ℕ) (vars : Vars) (name : List ℕ) (at : ℕ) (k : Kind) (fixed : Truth) → Knows vs ws refs m vars
      → Knows (with_variable vs name Role.Plain at) (typed.with_variable ws name k fixed) refs m vars
  knows_plain vs ws refs m vars name at k fixed h = record {
    same = same_more vs ws (one name Role.Plain at) (typed_one name k fixed) refl h.same;
    none = λ q e. h.none q (none_before (typed.variable_named ws q) (cond (bytes_eq name q) (Some (typed_one name k fixed)) None) (sym (first_more (λ u. u.name) ws (typed_one name k fixed) q) ∙ e)).0;
    older = h.older;
    called = h.called;
    each = λ q w plain r c e. known q w plain r c (sym (first_more (λ u. u.name) ws (typed_one name k fixed) q) ∙ e) (typed.variable_named ws q) refl;
  }
    where
      not_portable : (t : Truth) → is_read (role_in (cond t (Some (one name Role.Plain at)) None)) ≡ true → ⊥
      not_portable true e = cc e
      not_portable false e = cc e

      known : (q : List ℕ) (w : typed.Variable) → bytes_eq this_name q ≡ false → is_read (role_of (with_variable vs name Role.Plain at) q) ≡ true → (is_given (role_of (with_variable vs name Role.Plain at) q) ≡ true → IsIn names q)
          → else_first (typed.variable_named ws q) (cond (bytes_eq name q) (Some (typed_one name k fixed)) None) ≡ Some w → (o : Option typed.Variable) → typed.variable_named ws q ≡ o
          → HasValue w.kind (resolved g vars (lookup refs q))
      known q w plain r c e (Some w0) there =
          let same : w0 ≡ w = cc (subst (λ o. else_first o (cond (bytes_eq name q) (Some (typed_one name k fixed)) None) ≡ Some w) there e) in
          let role_is = role_before vs ws name Role.Plain at q w0 h.same there in
          subst (λ z. HasValue z.kind (resolved g vars (lookup refs q))) same
          (h.each q w0 plain (subst (λ z. is_read z ≡ true) role_is r) (λ y. c (subst (λ z. is_given z ≡ true) (sym role_is) y)) there)
      known q w plain r c e None there = absurd (not_portable (bytes_eq name q) (subst (λ z. is_read z ≡ true) (role_after vs ws name Role.Plain at q h.same there) r))
