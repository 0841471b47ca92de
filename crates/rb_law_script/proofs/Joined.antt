-- Where a walk over the source stands, and a run of the script beside it.
use Rattle.std.proofs.Common.{◌≡◌, ◌≤◌, refl, sym, ap, ◌∙◌, subst, ℕ, suc, List, [], ◌∷◌, ◌++◌, Bool as Truth, true, false, All, Option, Some, Ok}
use Rattle.rb_trees.specs.Named.{lookup}
use Rattle.rb_trees.specs.Outcome.{known, ◌>>=◌}
use Rattle.rb_trees.specs.declared.values.Value.{Value}
use Rattle.rb_trees.specs.declared.values.Value.TheOpen.{Value-F}
use Rattle.rb_trees.specs.declared.values.Value.TheViews.{out-Value}
use Rattle.rb_trees.specs.mirror.Code.{Expr, Lit, Name}
use Rattle.rb_trees.specs.mirror.Declarations.{Program, Interface}
use Rattle.rb_trees.specs.mirror.Services.{Service}
use Rattle.rb_meaning_types.specs.Kinds as kind
use Rattle.rb_meaning_types.specs.Kinds.{Kind}
use Rattle.rb_meaning_types.specs.Violations.{Checked, UnknownName}
use Rattle.rb_meaning_types.specs.Declared.{Context, of_program}
use Rattle.rb_meaning_types.specs.Scopes as typed
use Rattle.rb_meaning_types.specs.Expressions.{type_of}
use Rattle.rb_meaning_types.specs.Notes.{type_at}
use Rattle.rb_meaning_types.specs.Programs.{check_service}
use Rattle.rb_meaning_types.specs.Fits.{IsIntValue, IsBoolValue, IsTextValue, AreItems, Fits}
use Rattle.rb_meaning_code.specs.Faults.{kind as kind_fault}
use Rattle.rb_meaning_code.specs.State.{Names}
use Rattle.rb_meaning_code.specs.Remote.{Server, replies}
use Rattle.rb_meaning_code.specs.ScriptRun as run
use Rattle.rb_meaning_code.specs.ScriptRun.{Ground, Vars, items_in}
use Rattle.rb_meaning_flow.specs.declared.scopes.Role.{Role}
use Rattle.rb_meaning_flow.specs.Facts.{Facts, facts_of, has_primitive_items}
use Rattle.rb_meaning_flow.specs.Scopes.{Scope, with_variable, role_of, is_list_role}
use Rattle.rb_meaning_flow.specs.Portable.{portable, is_constant_list}
use Rattle.rb_meaning.specs.ConstantLists.{name_of, items_of, items_named}
use Rattle.rb_meaning.specs.RemotePart as part
use Rattle.rb_meaning_split.specs.Refs.{Refs, with_var, list_number, sexpr}
use Rattle.rb_meaning_split.specs.Inputs.{constants}
use Rattle.rb_flow.proofs.Members.{first_contained}
use Rattle.rb_law_types.specs.Own.{IsFarKind}
use Rattle.rb_law_types.specs.Formed.{IsFormedExpr, AreFormed}
use Rattle.rb_law_types.specs.Noted.{IsNotedExpr}
use Rattle.rb_law_types.specs.Code.{AreTyped}
use Rattle.rb_law_types.proofs.Checks.{bind_ok, known_ok}
use Rattle.rb_law_types.proofs.SitesWithin.{Within}
use Rattle.rb_law_unsplit.proofs.Agreed.{primitive_far, list_read, Agree, agree_added}
use Rattle.rb_law_unsplit.proofs.Carried.{Carry, carry_more, carry_skip, carry_read}
use Rattle.rb_law_unsplit.proofs.Walking.{Laws, value_fine}
use Rattle.rb_law_script.proofs.Linked.{Linked, Fresh, fresh_up, fresh_with, linked_more, input_linked}
use Rattle.rb_law_script.proofs.Values.{value_same}
use Rattle.rb_law_script.proofs.Covered.{Covered, covered_with, covered_plain, ListsCovered, lists_with, lists_plain, closed_of}
use Rattle.rb_law_script.proofs.NoUnit.{NoUnit}
use Rattle.rb_law_script.proofs.Sent.{agree_look, portable_far}
use Rattle.rb_law_script.proofs.Kept.{OpenScope, open_more, open_fixed}
use Rattle.rb_law_script.proofs.Carrying.{carry_free}
use Rattle.rb_law_script.proofs.Alike.{Table, Sound, rule_sound, fine_sound}

-- a value of a primitive type is primitive
int_primitive : (w : Value-F Value) → IsIntValue w → run.is_primitive w ≡ true
int_primitive (Value-F.Int n) h = refl
int_primitive Value-F.Unit h = absurd h
int_primitive _ h = absurd h

bool_primitive : (w : Value-F Value) → IsBoolValue w → run.is_primitive w ≡ true
bool_primitive (Value-F.Bool b) h = refl
bool_primitive Value-F.Unit h = absurd h
bool_primitive _ h = absurd h

text_primitive : (w : Value-F Value) → IsTextValue w → run.is_primitive w ≡ true
text_primitive (Value-F.Text t) h = refl
text_primitive Value-F.Unit h = absurd h
text_primitive _ h = absurd h

pub fits_primitive : (is : List Interface) (k : Kind) (v : Value) → kind.is_primitive k ≡ true → Fits is [] k v → run.is_primitive (out-Value v) ≡ true
fits_primitive is kind.Int v e h = int_primitive (out-Value v) h
fits_primitive is kind.Bool v e h = bool_primitive (out-Value v) h
fits_primitive is kind.Text v e h = text_primitive (out-Value v) h
fits_primitive is kind.Unit v e h = absurd (cc (e))
fits_primitive is _ v e h = absurd (cc (e))

-- Of a script with these inputs' names: the scopes of admission and of typing with the walk's names, and the script's
-- variables.
pub record Joined (is : List Interface) (g : Ground) (inputs : List (List ℕ)) (refs : Refs) (m : ℕ) (vs : Scope) (ws : typed.Scope) (ns : Names) (vars : Vars) : Type 0 where
  pub agree : Agree is vs ws
  pub opens : OpenScope ws
  pub carry : Carry is vs ws ns
  pub linked : Linked g refs vars ns
  pub fresh : Fresh m refs
  pub covered : Covered inputs refs vs
  pub lists : ListsCovered inputs refs vs

module _ (is : List Interface) (g : Ground) (inputs : List (List ℕ)) where
  pub joined_up : (refs : Refs) (m m' : ℕ) (vs : Scope) (ws : typed.Scope) (ns : Names) (vars : Vars) → m ≤ m' → Joined is g inputs refs m vs ws ns vars → Joined is g inputs refs m' vs ws ns vars
  joined_up refs m m' vs ws ns vars le j = record { agree = j.agree; opens = j.opens; carry = j.carry; linked = j.linked; fresh = fresh_up m m' refs le j.fresh; covered = j.covered; lists = j.lists }

  -- a variable that both sides bind
  pub joined_more : (refs : Refs) (m : ℕ) (vs : Scope) (ws : typed.Scope) (ns : Names) (vars : Vars) (name : List ℕ) (role : Role) (at : ℕ) (k : Kind) (v : Value) → Joined is g inputs refs m vs ws ns vars → is_list_role role ≡ false → IsFarKind is k → typed.is_free ws name ≡ true → Fits is [] k v
      → Joined is g inputs (with_var refs name m) (suc m) (with_variable vs name role at) (typed.with_variable ws name k true) (ns ++ (name, v) ∷ []) ((m, v) ∷ vars)
  joined_more refs m vs ws ns vars name role at k v j other far free fits = record {
    agree = agree_added is vs ws name role at k true j.agree (λ r. far, λ r. absurd (cc (other, r)));
    opens = open_fixed ws name k j.opens;
    carry = carry_more is vs ws ns name role at k true v fits j.carry;
    linked = linked_more g refs vars ns m name v j.linked j.fresh (λ plain. carry_free is vs ws ns name j.carry plain free);
    fresh = fresh_with m refs name j.fresh;
    covered = covered_with inputs refs vs name m role at j.covered;
    lists = lists_with inputs refs vs name m role at other j.lists;
  }

  -- one that neither side binds
  pub joined_plain : (refs : Refs) (m : ℕ) (vs : Scope) (ws : typed.Scope) (ns : Names) (vars : Vars) (name : List ℕ) (at : ℕ) (k : Kind) (fixed : Truth) → Joined is g inputs refs m vs ws ns vars → NoUnit k
      → Joined is g inputs refs m (with_variable vs name Role.Plain at) (typed.with_variable ws name k fixed) ns vars
  joined_plain refs m vs ws ns vars name at k fixed j unit = record {
    agree = agree_added is vs ws name Role.Plain at k fixed j.agree (λ r. absurd (cc (r)), λ r. absurd (cc (r)));
    opens = open_more ws name k fixed j.opens (λ e. unit);
    carry = carry_skip is vs ws ns name Role.Plain at k fixed refl j.carry;
    linked = j.linked;
    fresh = j.fresh;
    covered = covered_plain inputs refs vs name at j.covered;
    lists = lists_plain inputs refs vs name at j.lists;
  }

items_fit : (P : Value → Type 0) (w : Value-F Value) → AreItems P w → (items : List Value) → items_in w ≡ Ok items → All P items
items_fit P (Value-F.List vs) h items e = let same : vs ≡ items = cc (e) in subst (All P) same h.1
items_fit P Value-F.Unit h items e = absurd h
items_fit P _ h items e = absurd h

-- the variable of a name that is typed
named_typed : (x : Context) (ws : typed.Scope) (at : ℕ) (name : List ℕ) (k : Kind) → type_of x ws (Name at name) ≡ Ok k → (w : typed.Variable) × (typed.variable_named ws name ≡ Some w) × (w.kind ≡ k)
named_typed x ws at name k t =
    let b = bind_ok (known (UnknownName at) (typed.variable_named ws name)) _ k t in
    (b.0, known_ok (UnknownName at) (typed.variable_named ws name) b.0 b.1, cc (b.2))

module _ (laws : Laws) (p : Program) (service : Service) (service_typed : check_service service.classes ≡ Ok tt) (service_formed : AreFormed service.classes) (declared : AreTyped (of_program p)) (this : Option (List ℕ)) (remote : Truth)
    (g : Ground) (classes : g.classes ≡ service.classes) (inputs : List (List ℕ)) (refs : Refs) (m : ℕ) (vs : Scope) (ws : typed.Scope) (ns : Names) (vars : Vars) (j : Joined p.interfaces g inputs refs m vs ws ns vars) where
  abbrev x : Context
  x = record { declared = of_program p; this = this; remote = remote }

  abbrev f : Facts
  f = facts_of p

  abbrev types : ℕ → Option (Checked Kind)
  types = type_at p

  -- a portable expression has the same value on both sides
  pub same_value : (e : Expr) (at : ℕ) (s : Server) → portable f vs e ≡ true → IsFormedExpr e → Within (constants vs e) inputs → run.value_of g at vars (sexpr p refs e) s ≡ part.value_of p service e ns s
  same_value e at s r formed w = value_same p service g classes refs vars ns j.linked at e s (closed_of f inputs refs vs j.covered e r formed w)

  -- and it is of the expression's type
  pub sound_value : (e : Expr) (k : Kind) (s : Server) → portable f vs e ≡ true → type_of x ws e ≡ Ok k → IsNotedExpr types x ws e → IsFormedExpr e → Table service s → Sound service (Fits p.interfaces [] k) (part.value_of p service e ns s)
  sound_value e k s r t n formed table =
      fine_sound service (Fits p.interfaces [] k) (part.value_of p service e ns s) (value_fine laws p service service_typed service_formed declared this remote vs ws ns j.carry e k s r t n formed table)

  pub far_value : (e : Expr) (k : Kind) → portable f vs e ≡ true → type_of x ws e ≡ Ok k → IsNotedExpr types x ws e → IsFormedExpr e → IsFarKind p.interfaces k
  far_value e k r t n formed = portable_far laws.given p declared this remote vs ws j.agree e k r t n formed

  -- a constant list has the same items on both sides
  pub same_items : (e : Expr) (at : ℕ) (s : Server) → is_constant_list vs e ≡ true → IsFormedExpr e → Within (name_of e) inputs → run.items_of g at (list_number refs e) s ≡ replies at (items_named ns e) s
  same_items (Name place name) at s is_list formed w =
      let it = input_linked g refs vars ns name j.linked formed (j.lists name formed is_list (w name (first_contained name []))) in
      ap (λ o. replies at (known kind_fault o >>= λ v. items_in (out-Value v)) s) it.reads ∙ ap (λ o. replies at (items_of o) s) (sym it.holds)
  same_items (Lit place v) at s is_list formed w = absurd (cc (is_list))
  same_items _ at s is_list formed w = absurd (cc (is_list))

  -- which are of the type of the list's items
  pub sound_items : (e : Expr) (item : Kind) (at : ℕ) (s : Server) → is_constant_list vs e ≡ true → type_of x ws e ≡ Ok (kind.ListOf item) → IsFormedExpr e → Table service s → Sound service (All (Fits p.interfaces [] item)) (replies at (items_named ns e) s)
  sound_items (Name place name) item at s is_list t formed table =
      let w = named_typed x ws place name (kind.ListOf item) t in
      let found = carry_read p.interfaces vs ws ns name w.0 j.carry formed (list_read (role_of vs name) is_list) w.1 in
      rule_sound service (All (Fits p.interfaces [] item)) at (items_of (lookup ns name)) s
      (λ items e. items_fit (Fits p.interfaces [] item) (out-Value found.0) (subst (λ k. Fits p.interfaces [] k found.0) w.2 found.2) items (sym (ap items_of found.1) ∙ e)) table
  sound_items (Lit place v) item at s is_list t formed table = absurd (cc (is_list))
  sound_items _ item at s is_list t formed table = absurd (cc (is_list))

  -- and primitive
  pub far_items : (e : Expr) (item : Kind) → is_constant_list vs e ≡ true → type_of x ws e ≡ Ok (kind.ListOf item) → IsFarKind p.interfaces item
  far_items (Name place name) item is_list t =
      let w = named_typed x ws place name (kind.ListOf item) t in
      primitive_far p.interfaces item (subst (λ k. has_primitive_items k ≡ true) w.2 ((agree_look p.interfaces vs ws name w.0 j.agree w.1).list is_list))
  far_items (Lit place v) item is_list t = absurd (cc (is_list))
  far_items _ item is_list t = absurd (cc (is_list))
